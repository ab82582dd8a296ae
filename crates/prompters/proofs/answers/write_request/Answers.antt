use Rattle.std.proofs.Common.{rules}
use Rattle.prompters.proofs.WriteLemmas.{write_whole}
use Rattle.prompters.proofs.answers.write_request.Goals as goal

pub returns-clause-whole : goal.returns-clause-whole
returns-clause-whole c = write_whole _ c.in_ok-content.content c.args.file c.in_ok-content.ensures.few (search rules)
