use Rattle.std.proofs.Common.{◌≡◌, ◌∷◌, Some, None, sym, subst}
use Rattle.std.proofs.lemmas.Result.{on_ok_weaker}
use Rattle.agent_history.specs.Deeds.{HandedOut}
use Rattle.agent_history.specs.Conversations.{Question, next_question}
use Rattle.agent_talks.specs.Kept as kept
use Rattle.agent_talks.specs.Calls.{Calls}
use Rattle.agent_talks.specs.Keeps.{Keeps}
use Rattle.agent_talks.proofs.HandLemmas.{handed_keeps, next_stands, unhanded_keeps}
use Rattle.agent_talks.proofs.server.hand_next.Goals as goal

pub returns-clause-handed : goal.returns-clause-handed
returns-clause-handed c =
    let a = c.args in
    let q : Question = kept.question_of c.in-Some.question.now in
    on_ok_weaker c.hand.result (λ is done speak keeps.
    let next : next_question done ≡ Some q = sym (c.in-Some.ensures.told done speak) in
    let there = next_stands done a.talks.now q speak next in
    subst (λ (d : Calls). Keeps (HandedOut ∷ done) d) (sym is) (handed_keeps done a.calls.now q c.asks_challenge-keeps.result next (c.asks_challenge-keeps.ensures done there speak) there keeps)) c.hand.ensures.handed

pub returns-in_default-clause-handed : goal.returns-in_default-clause-handed
returns-in_default-clause-handed c = λ done speak keeps.
    let none : next_question done ≡ None = sym (c.in_default.ensures.told done speak) in
    unhanded_keeps done c.args.calls.now none keeps
