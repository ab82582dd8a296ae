use Rattle.std.proofs.Common.{◌∙◌}
use Rattle.agent_turns.proofs.DrivenFrames.{all_refused}
use Rattle.agent_turns.proofs.driven_replies.is_refused.Goals as goal

pub returns : goal.returns
returns c = λ ms is. c.has_error.ensures ∙ all_refused ms c.args.replies.now is
