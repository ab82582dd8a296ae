use Rattle.std.proofs.Common.{sym, ◌∙◌}
use Rattle.mailboxes.specs.Kept.{reply_bytes}
use Rattle.mailboxes.proofs.WaitLemmas.{settled_found, settled_none, found_has, none_found}
use Rattle.mailboxes.proofs.wait.settle_tag.Goals as goal

pub returns-in-Some-clause-settled : goal.returns-in-Some-clause-settled
returns-in-Some-clause-settled c = settled_found c.args.tag (reply_bytes c.args.reply) c.args.waits.now c.settle.new.self c.index-waits-at.result c.in-Some.at (sym c.in-Some.is ∙ c.find_tag.ensures) c.settle.ensures

pub returns-in-Some-clause-found : goal.returns-in-Some-clause-found
returns-in-Some-clause-found c = found_has c.args.tag c.args.waits.now c.in-Some.at (sym c.in-Some.is ∙ c.find_tag.ensures)

pub returns-in-None-clause-settled : goal.returns-in-None-clause-settled
returns-in-None-clause-settled c = settled_none c.args.tag (reply_bytes c.args.reply) c.args.waits.now (sym c.in-None.is ∙ c.find_tag.ensures)

pub returns-in-None-clause-found : goal.returns-in-None-clause-found
returns-in-None-clause-found c = none_found c.args.tag c.args.waits.now (sym c.in-None.is ∙ c.find_tag.ensures)
