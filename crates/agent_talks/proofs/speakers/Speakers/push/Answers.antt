use Rattle.std.proofs.Common.{◌≡◌, ◌++◌, ◌∷◌, [], ℕ, Option, None, false, sym, rules, subst, ◌∙◌, ap, List}
use Rattle.agent_talks.specs.Listed.{AreAlone, IsAbove, IsListed, Rises, conv_in}
use Rattle.agent_talks.proofs.PlaceLemmas.{all_before, alone_last, index_with, none_before, rises_last}
use Rattle.agent_talks.proofs.speakers.Speakers.push.Goals as goal

pub invariant_of-self-2 : goal.invariant_of-self-2
invariant_of-self-2 c =
    let s = c.args.speaker in
    let free : None ≡ conv_in s.conn s.fid c.args.self.now = search rules in
    let none = none_before c.args.self.now s.conn s.fid free in
    let more : c.push.new.self.items ≡ c.args.self.now ++ s ∷ [] = search rules in
    subst (λ xs. IsListed c.insert.new.self xs) (sym more) (record {
      rises = rises_last c.args.self.now s (subst Rises c.self.view_is c.self.invariant.rises) (subst (IsAbove s.conv) (c.deref.ensures.value ∙ c.self.view_is) (c.is_below.ensures c.if-is_below.false));
      alone = alone_last c.args.self.now s (subst AreAlone c.self.view_is c.self.invariant.alone) none;
      found = λ conn fid. index_with c.args.self.now s conn fid _ _ none ((c.in_ok-insert.ensures.updates).0 (conn, fid)) (c.self.invariant.found conn fid ∙ ap (conv_in conn fid) c.self.view_is);
    })

pub returns-clause-joins : goal.returns-clause-joins
returns-clause-joins c =
    let s = c.args.speaker in
    let free : None ≡ conv_in s.conn s.fid c.args.self.now = search rules in
    record { list = search rules; alone = all_before c.args.self.now s.conn s.fid free }
