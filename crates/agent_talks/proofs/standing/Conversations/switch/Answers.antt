use Rattle.agent_talks.specs.Logging.{asking_of}
use Rattle.agent_talks.proofs.AskOtherLemmas.{switched_tells}
use Rattle.agent_talks.proofs.standing.Conversations.switch.Goals as goal

pub returns-clause-switched : goal.returns-clause-switched
returns-clause-switched c = λ done conn h. record {
  tells = switched_tells done (asking_of c.args.self.now) c.switch.new.self conn (c.switch.ensures done conn h.tells.files) h.tells;
  ends = λ q there. h.ends q there;
}
