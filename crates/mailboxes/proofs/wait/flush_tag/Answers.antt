use Rattle.std.proofs.Common.{map, ap, ◌∙◌}
use Rattle.mailboxes.specs.Kept.{pending_of}
use Rattle.mailboxes.proofs.WaitLemmas.{flushed_of}
use Rattle.mailboxes.proofs.wait.flush_tag.Goals as goal

pub returns-clause-flushed : goal.returns-clause-flushed
returns-clause-flushed c = ap (map pending_of) c.drop_tag.ensures.flushed ∙ flushed_of c.args.tag c.args.waits.now.items
