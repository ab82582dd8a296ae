-- The next gift where what was done has the length of its row. Of the code alone.
use Rattle.std.specs.Prelude.{◌&&◌, List, ℕ, Option, Some, None, if◌then◌else◌}
use Rattle.symbolic_runs.specs.declared.kind.MacKind.{MacKind}
use Rattle.symbolic_runs.specs.Forms.{Fields, client_message, mail_request, pair, request, server_message, ticket_request}
use Rattle.symbolic_runs.specs.Gifts.{bytes, hears_challenge, hears_tickets, is_request, opened, part, shown, takes_ticket}
use Rattle.symbolic_runs.specs.Moves.{Move, Own, asks, gives}
use Rattle.symbolic_runs.specs.Trees.{Tree, plain, same_tree}

abbrev pub client_proof : Own → Tree → Tree → Option Move
client_proof own q a =
    if hears_tickets own a q then Some (gives (client_message (part a 2) (part (opened a) 4) (part (opened a) 1)))
    else None

abbrev pub server_proof : Own → List ℕ → Tree → Tree → Tree → Option Move
server_proof own suid m r y =
    if takes_ticket own m suid && is_request ticket_request r own.word
    then Some (gives (server_message (part (shown m) 4) y)) else None

abbrev pub challenge_on : Tree → Option Move
challenge_on a = if hears_challenge a then Some (gives (part a 1)) else None

abbrev pub second_question : Own → MacKind → Tree → Tree → Fields → Option Move
second_question own kind u r names =
    if same_tree u (plain (bytes u)) then Some (asks (pair (request (mail_request kind) names own.word) r)) else None
