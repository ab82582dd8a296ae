use Rattle.std.proofs.Common.{◌∙◌}
use Rattle.agent_turns.proofs.DrivenFrames.{content_told}
use Rattle.agent_turns.proofs.driven_replies.content_in.Goals as goal

pub returns-clause-told : goal.returns-clause-told
returns-clause-told c = λ m is. c.text_at.ensures ∙ content_told m c.args.frame.now is
