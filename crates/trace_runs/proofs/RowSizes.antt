-- Rows of another size.
use Rattle.std.proofs.Common.{◌≡◌, ◌<◌, refl, ◌∙◌, [], ◌∷◌, List, eqb, false, None, length, map, arith}
use Rattle.std.proofs.lemmas.Bool.{eqb-true, false_from_ne_true}
use Rattle.std.proofs.lemmas.List.{length-reverse, length-map}
use Rattle.symbolic_runs.specs.Moves as table
use Rattle.trace_runs.specs.declared.moves.Move.{Move}
use Rattle.trace_runs.specs.Rows.{accepted_row, answer_and_question, answer_heard, digest_and_user, first_taken, is_nothing, proof_and_answer, request_and_word, ticket_taken, user_taken, vouch_heard}
use Rattle.trace_runs.specs.Views.{move_of, newest_first}

pub as_many : (moves : List Move) → length (newest_first moves) ≡ length moves
as_many moves = length-reverse (map move_of moves) ∙ length-map moves move_of

not_nothing : (before : List table.Move) → 0 < length before → false ≡ is_nothing before
not_nothing [] h = absurd (omega (arith, h))
not_nothing (move ∷ before) h = refl

pub nothing_is : (moves : List Move) → eqb (length moves) 0 ≡ is_nothing (newest_first moves)
nothing_is [] = refl
nothing_is (move ∷ moves) =
    false_from_ne_true (eqb (length (move ∷ moves)) 0) (λ e. let none = eqb-true (length (move ∷ moves)) 0 e in omega (arith, none))
    ∙ not_nothing (newest_first (move ∷ moves)) (let many = as_many (move ∷ moves) in omega (arith, many))

request_and_word_at : (before : List table.Move) → (length before ≡ 2 → ⊥) → None ≡ request_and_word before
request_and_word_at (b ∷ a ∷ []) h = absurd (h refl)
request_and_word_at before h = refl

pub request_and_word_few : (moves : List Move) → length moves < 2 → None ≡ request_and_word (newest_first moves)
request_and_word_few moves less = request_and_word_at (newest_first moves) (λ e. let many = as_many moves in omega (arith, many, e, less))

pub request_and_word_many : (moves : List Move) → 2 < length moves → None ≡ request_and_word (newest_first moves)
request_and_word_many moves more = request_and_word_at (newest_first moves) (λ e. let many = as_many moves in omega (arith, many, e, more))

answer_and_question_at : (before : List table.Move) → (length before ≡ 4 → ⊥) → None ≡ answer_and_question before
answer_and_question_at (d ∷ c ∷ b ∷ a ∷ []) h = absurd (h refl)
answer_and_question_at before h = refl

pub answer_and_question_few : (moves : List Move) → length moves < 4 → None ≡ answer_and_question (newest_first moves)
answer_and_question_few moves less = answer_and_question_at (newest_first moves) (λ e. let many = as_many moves in omega (arith, many, e, less))

pub answer_and_question_many : (moves : List Move) → 4 < length moves → None ≡ answer_and_question (newest_first moves)
answer_and_question_many moves more = answer_and_question_at (newest_first moves) (λ e. let many = as_many moves in omega (arith, many, e, more))

proof_and_answer_at : (before : List table.Move) → (length before ≡ 6 → ⊥) → None ≡ proof_and_answer before
proof_and_answer_at (f ∷ e ∷ d ∷ c ∷ b ∷ a ∷ []) h = absurd (h refl)
proof_and_answer_at before h = refl

pub proof_and_answer_few : (moves : List Move) → length moves < 6 → None ≡ proof_and_answer (newest_first moves)
proof_and_answer_few moves less = proof_and_answer_at (newest_first moves) (λ e. let many = as_many moves in omega (arith, many, e, less))

pub proof_and_answer_many : (moves : List Move) → 6 < length moves → None ≡ proof_and_answer (newest_first moves)
proof_and_answer_many moves more = proof_and_answer_at (newest_first moves) (λ e. let many = as_many moves in omega (arith, many, e, more))

first_taken_at : (before : List table.Move) → (length before ≡ 1 → ⊥) → None ≡ first_taken before
first_taken_at (a ∷ []) h = absurd (h refl)
first_taken_at before h = refl

pub first_taken_few : (moves : List Move) → length moves < 1 → None ≡ first_taken (newest_first moves)
first_taken_few moves less = first_taken_at (newest_first moves) (λ e. let many = as_many moves in omega (arith, many, e, less))

pub first_taken_many : (moves : List Move) → 1 < length moves → None ≡ first_taken (newest_first moves)
first_taken_many moves more = first_taken_at (newest_first moves) (λ e. let many = as_many moves in omega (arith, many, e, more))

ticket_taken_at : (before : List table.Move) → (length before ≡ 3 → ⊥) → None ≡ ticket_taken before
ticket_taken_at (c ∷ b ∷ a ∷ []) h = absurd (h refl)
ticket_taken_at before h = refl

pub ticket_taken_few : (moves : List Move) → length moves < 3 → None ≡ ticket_taken (newest_first moves)
ticket_taken_few moves less = ticket_taken_at (newest_first moves) (λ e. let many = as_many moves in omega (arith, many, e, less))

pub ticket_taken_many : (moves : List Move) → 3 < length moves → None ≡ ticket_taken (newest_first moves)
ticket_taken_many moves more = ticket_taken_at (newest_first moves) (λ e. let many = as_many moves in omega (arith, many, e, more))

answer_heard_at : (before : List table.Move) → (length before ≡ 2 → ⊥) → None ≡ answer_heard before
answer_heard_at (b ∷ a ∷ []) h = absurd (h refl)
answer_heard_at before h = refl

pub answer_heard_few : (moves : List Move) → length moves < 2 → None ≡ answer_heard (newest_first moves)
answer_heard_few moves less = answer_heard_at (newest_first moves) (λ e. let many = as_many moves in omega (arith, many, e, less))

pub answer_heard_many : (moves : List Move) → 2 < length moves → None ≡ answer_heard (newest_first moves)
answer_heard_many moves more = answer_heard_at (newest_first moves) (λ e. let many = as_many moves in omega (arith, many, e, more))

user_taken_at : (before : List table.Move) → (length before ≡ 4 → ⊥) → None ≡ user_taken before
user_taken_at (d ∷ c ∷ b ∷ a ∷ []) h = absurd (h refl)
user_taken_at before h = refl

pub user_taken_few : (moves : List Move) → length moves < 4 → None ≡ user_taken (newest_first moves)
user_taken_few moves less = user_taken_at (newest_first moves) (λ e. let many = as_many moves in omega (arith, many, e, less))

pub user_taken_many : (moves : List Move) → 4 < length moves → None ≡ user_taken (newest_first moves)
user_taken_many moves more = user_taken_at (newest_first moves) (λ e. let many = as_many moves in omega (arith, many, e, more))

digest_and_user_at : (before : List table.Move) → (length before ≡ 5 → ⊥) → None ≡ digest_and_user before
digest_and_user_at (e ∷ d ∷ c ∷ b ∷ a ∷ []) h = absurd (h refl)
digest_and_user_at before h = refl

pub digest_and_user_few : (moves : List Move) → length moves < 5 → None ≡ digest_and_user (newest_first moves)
digest_and_user_few moves less = digest_and_user_at (newest_first moves) (λ e. let many = as_many moves in omega (arith, many, e, less))

pub digest_and_user_many : (moves : List Move) → 5 < length moves → None ≡ digest_and_user (newest_first moves)
digest_and_user_many moves more = digest_and_user_at (newest_first moves) (λ e. let many = as_many moves in omega (arith, many, e, more))

vouch_heard_at : (before : List table.Move) → (length before ≡ 7 → ⊥) → None ≡ vouch_heard before
vouch_heard_at (g ∷ f ∷ e ∷ d ∷ c ∷ b ∷ a ∷ []) h = absurd (h refl)
vouch_heard_at before h = refl

pub vouch_heard_few : (moves : List Move) → length moves < 7 → None ≡ vouch_heard (newest_first moves)
vouch_heard_few moves less = vouch_heard_at (newest_first moves) (λ e. let many = as_many moves in omega (arith, many, e, less))

pub vouch_heard_many : (moves : List Move) → 7 < length moves → None ≡ vouch_heard (newest_first moves)
vouch_heard_many moves more = vouch_heard_at (newest_first moves) (λ e. let many = as_many moves in omega (arith, many, e, more))

accepted_row_at : (before : List table.Move) → (length before ≡ 4 → ⊥) → None ≡ accepted_row before
accepted_row_at (d ∷ c ∷ b ∷ a ∷ []) h = absurd (h refl)
accepted_row_at before h = refl

pub accepted_row_few : (moves : List Move) → length moves < 4 → None ≡ accepted_row (newest_first moves)
accepted_row_few moves less = accepted_row_at (newest_first moves) (λ e. let many = as_many moves in omega (arith, many, e, less))

pub accepted_row_many : (moves : List Move) → 4 < length moves → None ≡ accepted_row (newest_first moves)
accepted_row_many moves more = accepted_row_at (newest_first moves) (λ e. let many = as_many moves in omega (arith, many, e, more))
