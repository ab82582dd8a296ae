use Rattle.std.proofs.Common.{subst, sym, ap, ◌∙◌, ◌≡◌, false, List, get_or}
use Rattle.agent_talks.specs.Listed.{AreAlone, Rises, conv_in, is_among}
use Rattle.agent_talks.proofs.PlaceLemmas.{IsPlaceOf, found_at, found_nowhere}
use Rattle.agent_talks.proofs.speakers.Speakers.speaker_of.Goals as goal

pub returns-in-Some : goal.returns-in-Some
returns-in-Some c =
    let found = subst (IsPlaceOf c.args.conv c.in-Some.at) (c.deref.ensures.value ∙ c.self.view_is) c.in-Some.ensures.some in
    found_at c.args.self.now c.args.conv c.in-Some.at c.index.result.now (subst Rises c.self.view_is c.self.invariant.rises) found.0 found.1 (c.index.ensures ∙ ap (λ xs. get_or xs c.in-Some.at c.index.result.now) c.self.view_is)

pub returns-in-None : goal.returns-in-None
returns-in-None c = found_nowhere c.args.self.now c.args.conv (subst (λ xs. is_among c.args.conv xs ≡ false) (c.deref.ensures.value ∙ c.self.view_is) c.in-None.ensures.none)
