use Rattle.std.proofs.Common.{arith, sym}
use Rattle.std.proofs.lemmas.Bool.{leb-false}
use Rattle.agent_talks.proofs.PlaceLemmas.{last_above}
use Rattle.agent_talks.proofs.speakers.is_below.Goals as goal

pub returns-in-Some : goal.returns-in-Some
returns-in-Some c = λ above. last_above c.args.conv c.args.list.now c.in-Some.last.now c.requires c.in-Some.ensures.value (leb-false c.args.conv c.in-Some.last.now.conv above)
