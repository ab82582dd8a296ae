-- The tests that decide whether what came last has its form: they are true exactly where `IsFormed` and `IsAnswered` of
-- clean_runs hold, by the laws `formed_law` and `answered_law`. A tree has a form where it is the form made of its own
-- parts.
use Rattle.std.specs.Prelude.{ℕ, List, [], ◌∷◌, length, Bool, true, false, ◌&&◌, ◌==◌, Ok, Err}
use Rattle.symbolic_runs.specs.declared.kind.MacKind.{MacKind}
use Rattle.symbolic_runs.specs.Forms.{mail_challenge, mail_request, pair, request, server_message, ticket_request}
use Rattle.symbolic_runs.specs.Gifts.{are_whole, bytes, fields_of, has_names, hears_challenge, is_request, opened, part, shown, takes_ticket}
use Rattle.symbolic_runs.specs.Moves.{Role, client, server, mail_server, Move, takes, hears, gives, asks, Own}
use Rattle.symbolic_runs.specs.Spellings.{Atoms, Spelling, spelling}
use Rattle.symbolic_runs.specs.Trees.{Tree, digest, password, plain, same_tree}
use Rattle.symbolic_runs.specs.Runs.{Setting}
use Rattle.symbolic_runs.specs.Sessions.{Deed, Used, got, gives_challenge, gives_tickets, gives_vouch, key_and_password, keys}
use Rattle.trace_runs.specs.Shapes.{is_answer, is_vouch}

-- what is spelled has seven bytes, where it is spelled
abbrev pub is_seven : Spelling → Bool
is_seven (Ok b) = length b == 7
is_seven (Err fault) = true

abbrev pub is_whole_request : List ℕ → Tree → Bool
is_whole_request kind t = is_request kind t (part t 3) && are_whole (fields_of t)

abbrev pub is_right_answer : Atoms → Own → Tree → Tree → Bool
is_right_answer atoms own question t = is_answer own (part question 3) t
    && (has_names (opened t) && is_seven (spelling atoms (part (opened t) 4)))

abbrev pub is_server_proof : Own → Tree → Tree → Bool
is_server_proof own a t = same_tree t (server_message (part (opened a) 4) own.word)

abbrev pub is_whole_shown : Own → Tree → Bool
is_whole_shown own t = takes_ticket own t (bytes (part (shown t) 3)) && has_names (shown t)

abbrev pub is_whole_vouch : Own → Tree → Bool
is_whole_vouch own t = is_vouch own t && has_names (opened t)

abbrev pub formed : Atoms → Own → Role → List Move → Bool
formed atoms own client (takes t ∷ gives w ∷ []) = is_whole_request ticket_request t
formed atoms own client (hears t ∷ asks q ∷ takes r ∷ gives w ∷ []) = is_right_answer atoms own q t
formed atoms own client (takes t ∷ gives g ∷ hears a ∷ asks q ∷ takes r ∷ gives w ∷ []) = is_server_proof own a t
formed atoms own server (takes t ∷ gives r ∷ takes y ∷ []) = is_whole_shown own t
formed atoms own (mail_server kind) (hears t ∷ asks q ∷ []) = hears_challenge t
formed atoms own (mail_server kind) (takes t ∷ gives c ∷ hears a ∷ asks q ∷ []) = same_tree t (plain (bytes t))
formed atoms own (mail_server kind) (hears t ∷ asks v ∷ takes r ∷ takes u ∷ gives c ∷ hears a ∷ asks q ∷ []) =
    is_whole_vouch own t
formed atoms own role before = true

-- an answer to a challenge, by what was used at its request
abbrev pub is_digest : MacKind → List ℕ → List ℕ → ℕ → Tree → Bool
is_digest kind name domain first t = same_tree t (digest kind (password name) (mail_challenge domain first))

abbrev pub is_right : Used → Tree → List ℕ → MacKind → ℕ → Tree → Bool
is_right (keys sealer host) chal domain kind first t = false
is_right (key_and_password sealer name) chal domain kind first t =
    same_tree t (pair (request (mail_request kind) (fields_of (part t 0)) chal)
    (digest kind (password name) (mail_challenge domain first))) && are_whole (fields_of (part t 0))

abbrev pub answered : Setting → List Deed → Deed → Bool
answered s (got number t ∷ before) (gives_tickets at) = is_whole_request ticket_request t
answered s (got number t ∷ before) (gives_challenge kind at head) = is_whole_request (mail_request kind) t
answered s (got number t ∷ before) (gives_vouch kind at first) =
    is_right (s.grants number).used (s.grants number).chal s.domain kind first t
answered s before deed = true
