use Rattle.agent_talks.specs.Logging.{asking_of}
use Rattle.agent_talks.specs.Keeps.{KeepingTalks}
use Rattle.agent_talks.proofs.AskOtherLemmas.{handed_tells}
use Rattle.agent_talks.proofs.standing.Conversations.hand_out.Goals as goal

pub returns-clause-handed : goal.returns-clause-handed
returns-clause-handed c = λ done h.
    let talks : KeepingTalks = record { talks = c.hand_out.new.self; calls = c.hand_next.new.calls } in
    record {
      tells = handed_tells done (asking_of c.args.self.now) talks (record { speak = c.hand_out.ensures.handed done h.tells.talks.speak; calls = c.in_ok-hand_next.ensures.handed done h.tells.talks.speak h.tells.talks.calls }) h.tells;
      ends = λ q there. h.ends q there;
    }
