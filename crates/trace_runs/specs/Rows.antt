-- What stands in what a conversation did, where it is all that comes before a move of its row: looked at from the
-- newest move on. Of the code alone; the laws of RowLaws and FormLaws say that the tables ask the same.
use Rattle.std.specs.Prelude.{ℕ, List, [], ◌∷◌, Bool, true, false, Option, Some, None}
use Rattle.symbolic_runs.specs.Moves.{Move, takes, hears, gives, asks, accepts}
use Rattle.symbolic_runs.specs.Trees.{Tree}

abbrev pub taken_of : Move → Option Tree
taken_of (takes t) = Some t
taken_of move = None

abbrev pub heard_of : Move → Option Tree
heard_of (hears t) = Some t
heard_of move = None

abbrev pub given_of : Move → Option Tree
given_of (gives t) = Some t
given_of move = None

abbrev pub asked_of : Move → Option Tree
asked_of (asks t) = Some t
asked_of move = None

abbrev pub accepted_of : Move → Option (List ℕ)
accepted_of (accepts user) = Some user
accepted_of move = None

-- two that are both there, and the first of two that are
abbrev pub two : {A B : Type 0} → Option A → Option B → Option (A × B)
two None b = None
two (Some a) None = None
two (Some a) (Some b) = Some (a, b)

abbrev pub keep : {A B : Type 0} → Option A → Option B → Option A
keep None b = None
keep (Some a) None = None
keep (Some a) (Some b) = Some a

abbrev pub is_nothing : List Move → Bool
is_nothing [] = true
is_nothing (move ∷ before) = false

abbrev pub request_and_word : List Move → Option (Tree × Tree)
request_and_word (b ∷ a ∷ []) = two (taken_of b) (given_of a)
request_and_word moves = None

abbrev pub answer_and_question : List Move → Option (Tree × Tree)
answer_and_question (d ∷ c ∷ b ∷ a ∷ []) = keep (keep (two (heard_of d) (asked_of c)) (taken_of b)) (given_of a)
answer_and_question moves = None

abbrev pub proof_and_answer : List Move → Option (Tree × Tree)
proof_and_answer (f ∷ e ∷ d ∷ c ∷ b ∷ a ∷ []) =
    keep (keep (keep (two (keep (taken_of f) (given_of e)) (heard_of d)) (asked_of c)) (taken_of b)) (given_of a)
proof_and_answer moves = None

abbrev pub first_taken : List Move → Option Tree
first_taken (a ∷ []) = taken_of a
first_taken moves = None

abbrev pub ticket_taken : List Move → Option Tree
ticket_taken (c ∷ b ∷ a ∷ []) = keep (keep (taken_of c) (given_of b)) (taken_of a)
ticket_taken moves = None

abbrev pub answer_heard : List Move → Option Tree
answer_heard (b ∷ a ∷ []) = keep (heard_of b) (asked_of a)
answer_heard moves = None

abbrev pub user_taken : List Move → Option Tree
user_taken (d ∷ c ∷ b ∷ a ∷ []) = keep (keep (keep (taken_of d) (given_of c)) (heard_of b)) (asked_of a)
user_taken moves = None

abbrev pub digest_and_user : List Move → Option (Tree × Tree)
digest_and_user (e ∷ d ∷ c ∷ b ∷ a ∷ []) =
    keep (keep (keep (two (taken_of e) (taken_of d)) (given_of c)) (heard_of b)) (asked_of a)
digest_and_user moves = None

abbrev pub vouch_heard : List Move → Option Tree
vouch_heard (g ∷ f ∷ e ∷ d ∷ c ∷ b ∷ a ∷ []) =
    keep (keep (keep (keep (keep (keep (heard_of g) (asked_of f)) (taken_of e)) (taken_of d)) (given_of c))
    (heard_of b)) (asked_of a)
vouch_heard moves = None

abbrev pub accepted_row : List Move → Option (List ℕ × (Tree × (Tree × Tree)))
accepted_row (d ∷ c ∷ b ∷ a ∷ []) = two (accepted_of d) (two (taken_of c) (two (given_of b) (taken_of a)))
accepted_row moves = None
