use Rattle.std.proofs.Common.{ℕ, Option, sym, subst, ◌<◌, length}
use Rattle.std.specs.Prelude.{IfSome, IfNone}
use Rattle.std.specs.List.{HoldsAt}
use Rattle.std.proofs.Common.{◌≡◌, false, rules}
use Rattle.std.proofs.lemmas.List.Sorted.{answers_always}
use Rattle.agent_talks.specs.Listed.{is_among}
use Rattle.agent_talks.proofs.PlaceLemmas.{found_none, found_some}
use Rattle.agent_talks.proofs.speakers.find_place.Goals as goal

pub returns-clause-some : goal.returns-clause-some
returns-clause-some c = subst (λ (o : Option ℕ). IfSome o (λ at. (at < length c.args.list.now) × HoldsAt (λ s. s.conv ≡ c.args.conv) c.args.list.now at)) (sym c.ok.ensures.value)
    (found_some c.args.list.now c.args.conv c.binary_search_by_key.result c.binary_search_by_key.ensures.bound (c.binary_search_by_key.ensures.position (λ s. s.conv) (answers_always _ _ _ (λ f a r g called. search rules))))

pub returns-clause-none : goal.returns-clause-none
returns-clause-none c = subst (λ (o : Option ℕ). IfNone o (is_among c.args.conv c.args.list.now ≡ false)) (sym c.ok.ensures.value)
    (found_none c.args.list.now c.args.conv c.binary_search_by_key.result c.requires (c.binary_search_by_key.ensures.position (λ s. s.conv) (answers_always _ _ _ (λ f a r g called. search rules))))
