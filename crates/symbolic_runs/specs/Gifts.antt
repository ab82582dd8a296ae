-- What a conversation gives next, computed from what it did: a tree has a form where it is the form made of its own
-- parts. This says once more what `Row` says of the moves that give; the law `gifts_are_computed` says that both
-- agree.
use Rattle.std.specs.Prelude.{ℕ, List, [], ◌∷◌, length, Bool, true, false, ◌&&◌, ◌==◌, Option, Some, None, if◌then◌else◌}
use Rattle.symbolic_runs.specs.Trees.{Tree, plain, seal, joined, digest, piece_at, same_tree}
use Rattle.symbolic_runs.specs.Forms.{ticket_request, for_server, for_client, by_client, mail_request, Fields, pair, request, ticket, authenticator, tickets, client_message, server_message}
use Rattle.symbolic_runs.specs.Moves.{Role, client, server, mail_client, mail_server, Move, takes, hears, gives, asks, accepts, Own}

-- the parts of trees; of another tree nothing
abbrev pub or_nothing : Option Tree → Tree
or_nothing (Some t) = t
or_nothing None = plain []

abbrev pub part : Tree → ℕ → Tree
part (joined ts) index = or_nothing (piece_at ts index)
part t index = plain []

abbrev pub body : Tree → Tree
body (seal k t) = t
body t = plain []

abbrev pub bytes : Tree → List ℕ
bytes (plain text) = text
bytes t = []

-- the public fields of a request, and whether they are whole
abbrev pub fields_of : Tree → Fields
fields_of t = record {
  authid = bytes (part t 1);
  authdom = bytes (part t 2);
  hostid = bytes (part t 4);
  uid = bytes (part t 5);
}

abbrev pub are_whole : Fields → Bool
are_whole fields = (length fields.authid == 28)
    && ((length fields.authdom == 48) && ((length fields.hostid == 28) && (length fields.uid == 28)))

-- whether a tree is a request with this challenge
abbrev pub is_request : List ℕ → Tree → Tree → Bool
is_request kind t chal = same_tree t (request kind (fields_of t) chal)

-- a ticket with the fields of this one
abbrev pub ticket_like : List ℕ → Tree → Tree → Tree
ticket_like number chal t = ticket number chal (bytes (part t 2)) (bytes (part t 3)) (part t 4)

abbrev pub has_names : Tree → Bool
has_names t = (length (bytes (part t 2)) == 28) && (length (bytes (part t 3)) == 28)

-- what a client heard: its ticket
abbrev pub opened : Tree → Tree
opened a = body (part a 1)

abbrev pub hears_tickets : Own → Tree → Tree → Bool
hears_tickets own a q = same_tree a (tickets (seal own.key (ticket_like for_client (part (opened a) 1) (opened a)))
    (part a 2)) && (has_names (opened a) && is_request ticket_request q (part (opened a) 1))

-- what a server took: the ticket that the client handed on
abbrev pub shown : Tree → Tree
shown m = body (part m 0)

abbrev pub takes_ticket : Own → Tree → List ℕ → Bool
takes_ticket own m suid = same_tree m (pair (seal own.key
    (ticket for_server own.word (bytes (part (shown m) 2)) suid (part (shown m) 4)))
    (seal (part (shown m) 4) (authenticator by_client own.word)))

abbrev pub hears_challenge : Tree → Bool
hears_challenge a = same_tree a (pair (plain (bytes (part a 0))) (part a 1)) && (length (bytes (part a 0)) == 6)

-- the move that gives or asks next, with these names where the row leaves them free; none where no such move may come
abbrev pub next_gift : Own → Role → List Move → Fields → Option Move
next_gift own client [] names = Some (gives own.word)
next_gift own client (takes r ∷ gives w ∷ []) names =
    if same_tree w own.word && (is_request ticket_request r (part r 3) && are_whole (fields_of r))
    then Some (asks (request ticket_request names (part r 3))) else None
next_gift own client (hears a ∷ asks q ∷ takes r ∷ gives w ∷ []) names =
    if hears_tickets own a q then Some (gives (client_message (part a 2) (part (opened a) 4) (part (opened a) 1)))
    else None
next_gift own server (takes y ∷ []) names = Some (gives (request ticket_request names own.word))
next_gift own server (accepts suid ∷ takes m ∷ gives r ∷ takes y ∷ []) names =
    if takes_ticket own m suid && is_request ticket_request r own.word
    then Some (gives (server_message (part (shown m) 4) y)) else None
next_gift own (mail_client kind) (takes t ∷ []) names = Some (gives (digest kind own.password t))
next_gift own (mail_server kind) [] names = Some (asks (request (mail_request kind) names own.word))
next_gift own (mail_server kind) (hears a ∷ asks q ∷ []) names =
    if hears_challenge a then Some (gives (part a 1))
    else None
next_gift own (mail_server kind) (takes r ∷ takes u ∷ gives t ∷ hears a ∷ asks q ∷ []) names =
    if same_tree u (plain (bytes u)) then Some (asks (pair (request (mail_request kind) names own.word) r)) else None
next_gift own role before names = None

-- whether a move gives or asks
abbrev pub is_gift : Move → Bool
is_gift (gives t) = true
is_gift (asks t) = true
is_gift move = false
