-- Nobody has a file of lines of a node open, so that no search there asks a user.
use Rattle.std.proofs.Common.{refl}
use Rattle.file_tree.specs.declared.tree.Node.TheVariants.{Confirm, Needkey}
use Rattle.agent_history.specs.Histories.{deeds}
use Rattle.agent_laws.proofs.ClosedLaws.{none_asks_consent, none_asks_key}
use Rattle.world_history.specs.Worlds.{history}
use Rattle.driven_agents.specs.Quiet.{AskForNoKey, AskNoConsent, NodesOpenNoLines}
use Rattle.driven_agents.proofs.NamesLaws.{names_no_lines}
use Rattle.driven_agents.proofs.QuietLaws.{holder_none}

pub open_no_lines : NodesOpenNoLines
open_no_lines acts node file line = holder_none (deeds (history acts node)) file line (names_no_lines acts node)

pub ask_no_consent : AskNoConsent
ask_no_consent acts node conv key is = none_asks_consent (deeds (history acts node)) conv key (open_no_lines acts node Confirm refl) is

pub ask_for_no_key : AskForNoKey
ask_for_no_key acts node conv is = none_asks_key (deeds (history acts node)) conv (open_no_lines acts node Needkey refl) is
