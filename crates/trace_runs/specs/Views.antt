-- What the code keeps of a conversation, as the tables of moves speak of it.
use Rattle.std.specs.Prelude.{List, map, reverse}
use Rattle.symbolic_runs.specs.Forms.{Fields}
use Rattle.symbolic_runs.specs.Moves as table
use Rattle.symbolic_runs.specs.Views.{tree}
use Rattle.trace_runs.specs.declared.moves.Move.{Move}
use Rattle.trace_runs.specs.declared.moves.Move.TheVariants.{Takes, Hears, Gives, Asks, Accepts, Fails}
use Rattle.trace_runs.specs.declared.moves.Names.{Names}
use Rattle.trace_runs.specs.declared.moves.Own.{Own}
use Rattle.trace_runs.specs.declared.moves.Role.{Role}
use Rattle.trace_runs.specs.declared.moves.Role.TheVariants.{Client, Server, MailClient, MailServer}

abbrev pub role_of : Role → table.Role
role_of Client = table.client
role_of Server = table.server
role_of (MailClient kind) = table.mail_client kind
role_of (MailServer kind) = table.mail_server kind

abbrev pub move_of : Move → table.Move
move_of (Takes term) = table.takes (tree term)
move_of (Hears term) = table.hears (tree term)
move_of (Gives term) = table.gives (tree term)
move_of (Asks term) = table.asks (tree term)
move_of (Accepts user) = table.accepts user
move_of Fails = table.fails

-- moves in the order in which they were made, as a list whose newest stands first
abbrev pub newest_first : List Move → List table.Move
newest_first moves = reverse (map move_of moves)

abbrev pub own_of : Own → table.Own
own_of own = record { word = tree own.word; key = tree own.key; password = tree own.password }

abbrev pub fields_of : Names → Fields
fields_of names = record {
  authid = names.authid.now;
  authdom = names.authdom.now;
  hostid = names.hostid.now;
  uid = names.uid.now;
}
