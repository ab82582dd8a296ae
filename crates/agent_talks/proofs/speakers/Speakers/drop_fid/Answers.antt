use Rattle.std.proofs.Common.{ℕ, Bool, cond, None, eqb, not, ◌&&◌, sym, ap, subst, ◌∙◌, ◌≡◌, false, List}
use Rattle.std.specs.List.{remove}
use Rattle.agent_talks.specs.declared.speaker.Speaker.{Speaker}
use Rattle.agent_talks.specs.Listed.{is_among, AreAlone, IsListed, Rises, conv_in, fid_cmp, is_of}
use Rattle.agent_talks.proofs.PlaceLemmas.{IsPlaceOf, index_without, leaver_at, no_leaver, rises_left, alone_left, stands_nowhere}
use Rattle.agent_talks.proofs.speakers.Speakers.drop_fid.Goals as goal

pub returns-in_default : goal.returns-in_default
returns-in_default c = no_leaver c.args.self.now c.args.conn c.args.fid (sym c.in_default.is ∙ c.conv_at.ensures)

pub invariant_of-self : goal.invariant_of-self
invariant_of-self c =
    let found = subst (IsPlaceOf c.in-Some.conv c.in-Some-find_place.at) (c.deref.ensures.value ∙ c.self.view_is) c.in-Some-find_place.ensures.some in
    let left = c.remove.ensures.items ∙ (ap (λ xs. remove xs c.in-Some-find_place.at) c.self.view_is ∙ leaver_at c.args.conn c.args.fid c.in-Some.conv c.in-Some-find_place.at c.args.self.now (subst Rises c.self.view_is c.self.invariant.rises) (subst AreAlone c.self.view_is c.self.invariant.alone) (sym c.in-Some.is ∙ c.conv_at.ensures) found.0 found.1) in
    subst (λ xs. IsListed c.remove-in-Some-find_place.new.self xs) (sym left) (record {
      rises = rises_left (λ s. not (is_of c.args.conn c.args.fid s)) c.args.self.now (subst Rises c.self.view_is c.self.invariant.rises);
      alone = alone_left (λ s. not (is_of c.args.conn c.args.fid s)) c.args.self.now (subst AreAlone c.self.view_is c.self.invariant.alone);
      found = λ conn fid. index_without c.args.self.now c.args.conn c.args.fid conn fid _ _ (c.remove-in-Some-find_place.ensures.updates.0 (conn, fid)) (c.self.invariant.found conn fid ∙ ap (conv_in conn fid) c.self.view_is);
    })

pub returns-in-Some-find_place : goal.returns-in-Some-find_place
returns-in-Some-find_place c =
    let found = subst (IsPlaceOf c.in-Some.conv c.in-Some-find_place.at) (c.deref.ensures.value ∙ c.self.view_is) c.in-Some-find_place.ensures.some in
    c.remove.ensures.items ∙ (ap (λ xs. remove xs c.in-Some-find_place.at) c.self.view_is ∙ leaver_at c.args.conn c.args.fid c.in-Some.conv c.in-Some-find_place.at c.args.self.now (subst Rises c.self.view_is c.self.invariant.rises) (subst AreAlone c.self.view_is c.self.invariant.alone) (sym c.in-Some.is ∙ c.conv_at.ensures) found.0 found.1)

pub returns-in_default-find_place : goal.returns-in_default-find_place
returns-in_default-find_place c = stands_nowhere c.args.conn c.args.fid c.in-Some.conv c.args.self.now (sym c.in-Some.is ∙ c.conv_at.ensures) (subst (λ xs. is_among c.in-Some.conv xs ≡ false) (c.deref.ensures.value ∙ c.self.view_is) c.in_default-find_place.ensures.none)
