use Rattle.side_files.specs.Calls.{Pushed}
use Rattle.agent_talks.specs.Logging.{asking_of}
use Rattle.agent_talks.proofs.AskOtherLemmas.{logged_tells}
use Rattle.agent_talks.proofs.standing.Conversations.write.Goals as goal

pub returns-clause-written : goal.returns-clause-written
returns-clause-written c = λ done h. logged_tells done (asking_of c.args.self.now) c.push.new.self (Pushed c.args.line) (c.push.ensures done h.files) h
