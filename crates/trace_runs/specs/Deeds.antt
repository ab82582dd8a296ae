-- What the code keeps of a session, as the table of its deeds speaks of it.
use Rattle.std.specs.Prelude.{ℕ, List, [], ◌∷◌, Bool, true, false, ◌&&◌}
use Rattle.symbolic_runs.specs.declared.kind.MacKind.{MacKind}
use Rattle.symbolic_runs.specs.Forms.{mail_challenge, mail_request, pair, request, ticket_request}
use Rattle.symbolic_runs.specs.Gifts.{fields_of, is_request, part}
use Rattle.symbolic_runs.specs.Sessions as table
use Rattle.symbolic_runs.specs.Trees.{Tree, digest, password, same_tree}
use Rattle.symbolic_runs.specs.Views.{tree}
use Rattle.trace_runs.specs.declared.deeds.Deed.{Deed}
use Rattle.trace_runs.specs.declared.deeds.Deed.TheVariants.{Got, GivesTickets, GivesChallenge, GivesVouch, Refuses}
use Rattle.trace_runs.specs.declared.deeds.Used.{Used}
use Rattle.trace_runs.specs.declared.deeds.Used.TheVariants.{Keys, KeyAndPassword}
use Rattle.trace_runs.specs.Formed.{is_digest, is_right, is_whole_request}

abbrev pub deed_of : Deed → table.Deed
deed_of (Got number request) = table.got number (tree request)
deed_of (GivesTickets number) = table.gives_tickets number
deed_of (GivesChallenge kind number head) = table.gives_challenge kind number head
deed_of (GivesVouch kind number first) = table.gives_vouch kind number first
deed_of (Refuses number bytes) = table.refuses number bytes

abbrev pub used_of : Used → table.Used
used_of (Keys sealer host) = table.keys sealer host
used_of (KeyAndPassword sealer name) = table.key_and_password sealer name

-- ---- of the code alone

abbrev pub are_right : List ℕ → Tree → List ℕ → MacKind → ℕ → List Tree → Bool
are_right name chal domain kind first (q ∷ digits ∷ []) =
    is_request (mail_request kind) q chal && is_digest kind name domain first digits
are_right name chal domain kind first ts = false

abbrev pub has_right_pieces : List ℕ → Tree → List ℕ → MacKind → ℕ → Tree → Bool
has_right_pieces name chal domain kind first t = same_tree t (pair (request (mail_request kind)
    (fields_of (part t 0)) chal) (digest kind (password name) (mail_challenge domain first)))

-- whether a request has the form of what is answered
abbrev pub answers : table.Used → Tree → List ℕ → Tree → table.Deed → Bool
answers used chal domain t (table.gives_tickets at) = is_whole_request ticket_request t
answers used chal domain t (table.gives_challenge kind at head) = is_whole_request (mail_request kind) t
answers used chal domain t (table.gives_vouch kind at first) = is_right used chal domain kind first t
answers used chal domain t deed = true
