use Rattle.std.proofs.Common.{◌∙◌, ap}
use Rattle.talks.specs.declared.said.Said.{Said}
use Rattle.talks.specs.Meanings.{meant}
use Rattle.talks.specs.Standings.{finds, found_for, need_in, role_name}
use Rattle.conversations.proofs.FindLemmas.{begun_none, found_in}
use Rattle.conversations.proofs.conversation.Conversation.find.Goals as goal

pub returns-in-Some : goal.returns-in-Some
unfolding finds
returns-in-Some c = λ s h key.
    found_in c.in-Some.begun c.args.self.now.begun s.begun c.args.self.now.said c.args.asking c.args.ring.now (meant c.find_for.result) c.in-Some.is h.begun key c.find_for.ensures
    ∙ ap (λ (said : Said). found_for (need_in s.begun) (role_name s.begun) said c.args.asking c.args.ring.now) h.said

pub returns-in-None : goal.returns-in-None
returns-in-None c = λ s h key. absurd (begun_none c.args.self.now.begun s.begun c.in-None.is h.begun key)
