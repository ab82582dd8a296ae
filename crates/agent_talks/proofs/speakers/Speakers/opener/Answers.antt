use Rattle.std.proofs.Common.{ℕ, ◌+◌, ◌-◌, filter, take, drop, arith, ◌≡◌, [], refl, sym, ap, ◌∙◌, rules, subst, false, List}
use Rattle.agent_talks.specs.Listed.{is_of, AreAlone, Rises, conv_in, is_among}
use Rattle.agent_talks.proofs.PlaceLemmas.{IsPlaceOf, no_opener, opener_at, stands_nowhere}
use Rattle.agent_talks.proofs.speakers.Speakers.opener.Goals as goal

pub returns-in_default : goal.returns-in_default
returns-in_default c = no_opener c.args.self.now c.args.conn c.args.fid (sym c.in_default.is ∙ c.conv_at.ensures)

pub returns-in-Some-find_place : goal.returns-in-Some-find_place
returns-in-Some-find_place c =
    let found = subst (IsPlaceOf c.in-Some.conv c.in-Some-find_place.at) (c.deref.ensures.value ∙ c.self.view_is) c.in-Some-find_place.ensures.some in
    let at = c.in-Some-find_place.at in
    let test = is_of c.args.conn c.args.fid in
    let one : at + 1 - at ≡ 1 = omega arith in
    ap (λ xs. filter test (take (at + 1 - at) (drop at xs))) (c.deref-in-Some-find_place.ensures.value ∙ c.self.view_is)
    ∙ (ap (λ (n : ℕ). filter test (take n (drop at c.args.self.now))) one ∙ opener_at c.args.conn c.args.fid c.in-Some.conv c.in-Some-find_place.at c.args.self.now (subst Rises c.self.view_is c.self.invariant.rises) (subst AreAlone c.self.view_is c.self.invariant.alone) (sym c.in-Some.is ∙ c.conv_at.ensures) found.0 found.1)

pub returns-in-None : goal.returns-in-None
returns-in-None c = stands_nowhere c.args.conn c.args.fid c.in-Some.conv c.args.self.now (sym c.in-Some.is ∙ c.conv_at.ensures) (subst (λ xs. is_among c.in-Some.conv xs ≡ false) (c.deref.ensures.value ∙ c.self.view_is) c.in-None.ensures.none)
