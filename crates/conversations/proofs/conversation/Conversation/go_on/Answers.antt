use Rattle.talks.specs.Standings.{Seeking, in_phase}
use Rattle.conversations.proofs.ReadyLemmas.{goes_ready}
use Rattle.conversations.proofs.ResumeLemmas.{goes_on, seeks_in}
use Rattle.conversations.proofs.conversation.Conversation.go_on.Goals as goal

pub returns-in-Ok-clause-met : goal.returns-in-Ok-clause-met
returns-in-Ok-clause-met c = λ s carries key.
    goes_on c.args.self.now c.search_once.new.self c.use_list.new.self c.replace-paused.new.dest s c.args.asking c.args.ring.now c.in_ok-list.list c.replace-paused.ensures.after carries key c.in_ok-list.ensures.once c.in_ok-list.ensures.start c.in-Ok.ensures.met c.use_list.ensures

pub returns-in-Ok-clause-ready : goal.returns-in-Ok-clause-ready
returns-in-Ok-clause-ready c = λ s carries key.
    goes_ready s c.args.asking c.args.ring.now c.search_once.new.asks key
    (c.in-Ok.ensures.ready (in_phase s Seeking) (seeks_in c.args.self.now c.replace-paused.new.dest s c.replace-paused.ensures.after carries) tt)
