use Rattle.std.proofs.Common.{◌∷◌, subst, sym}
use Rattle.agent_history.specs.Deeds.{DropTaken}
use Rattle.agent_talks.specs.Calls.{Calls}
use Rattle.agent_talks.specs.Logging.{asking_of}
use Rattle.agent_talks.specs.Keeps.{Keeps, KeepingTalks}
use Rattle.agent_talks.proofs.AskOtherLemmas.{taken_tells}
use Rattle.agent_talks.proofs.OtherCalls.{taken_keeps}
use Rattle.agent_talks.proofs.OtherLemmas.{drop_speak}
use Rattle.agent_talks.proofs.standing.Conversations.take_drop.Goals as goal

pub returns-clause-taken : goal.returns-clause-taken
returns-clause-taken c = λ done h.
    let talks : KeepingTalks = record { talks = c.args.self.now.talks; calls = c.pop.new.self } in
    record {
      tells = taken_tells done (asking_of c.args.self.now) talks (record { speak = drop_speak done talks.talks h.tells.talks.speak; calls = subst (λ (d : Calls). Keeps (DropTaken ∷ done) d) (sym c.pop.ensures) (taken_keeps done c.args.self.now.calls h.tells.talks.calls) }) h.tells;
      ends = λ q there. h.ends q there;
    }
