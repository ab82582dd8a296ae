-- What happens once in a run: starts, turns of a conversation, requests, answers, vouches.
use Rattle.std.proofs.Common.{◌≡◌, ℕ, zero, suc, ◌<◌, ◌≤◌, [], ◌∷◌, ◌++◌, List, length, refl, sym, ap, ◌∙◌, inl, inr, eqb, Contains, arith}
use Rattle.std.proofs.lemmas.Bool.{cases_Bool, eq-eqb}
use Rattle.symbolic_runs.specs.Moves.{Role, client, server, mail_client, mail_server, Move, accepts, Own, Row, client_challenge, client_request, client_question, client_answer, client_ticket, client_proof, client_accepts, server_challenge, server_request, server_ticket, server_accepts, server_proof, mail_client_challenge, mail_client_answer, mail_question, mail_answer, mail_challenge_on, mail_user, mail_digest, mail_second_question, mail_second_answer, mail_accepts, breaks}
use Rattle.symbolic_runs.specs.Runs.{Setting, Event, starts, talks, moves, serves, Run, own_of, moves_of, IsRun}
use Rattle.symbolic_runs.specs.Places.{Stands, turn, turns_that_accept, InTurn}
use Rattle.symbolic_runs.proofs.Parts.{run_with, moved_at}

-- a count that never falls along a run
abbrev pub Grows : (Run → ℕ) → Type 0
Grows count = (event : Event) (past : Run) → count past ≤ count (event ∷ past)

grown : (count : Run → ℕ) → Grows count → (later past : Run) → count past ≤ count (later ++ past)
grown count g [] past = omega arith
grown count g (event ∷ later) past = let below = grown count g later past in let step = g event (later ++ past) in omega arith

ordered : (count : Run → ℕ) → Grows count → (later past past' : Run) (e' : Event) → past ≡ later ++ e' ∷ past' → count past' < count (e' ∷ past') → count past ≡ count past' → ⊥
ordered count g later past past' e' h q r =
    let below = grown count g later (e' ∷ past') in
    let same : count past ≡ count (later ++ e' ∷ past') = ap count h in
    omega arith

-- two places with one count, each with an event that raises it, are one
pub same_place : (count : Run → ℕ) → Grows count → (later later' past past' : Run) (e e' : Event) → later ++ e ∷ past ≡ later' ++ e' ∷ past' →
    count past < count (e ∷ past) → count past' < count (e' ∷ past') → count past ≡ count past' → past ≡ past'
same_place count g [] [] past past' e e' h p q r = cc
same_place count g [] (x ∷ later') past past' e e' h p q r = absurd (let below : past ≡ later' ++ e' ∷ past' = cc in ordered count g later' past past' e' below q r)
same_place count g (x ∷ later) [] past past' e e' h p q r = absurd (let below : past' ≡ later ++ e ∷ past = cc in ordered count g later past' past e below p (sym r))
same_place count g (x ∷ later) (y ∷ later') past past' e e' h p q r = let rest : later ++ e ∷ past ≡ later' ++ e' ∷ past' = cc in same_place count g later later' past past' e e' rest p q r

pub one_place : (count : Run → ℕ) → Grows count → (run past past' : Run) (e e' : Event) → Stands run past e → Stands run past' e' →
    count past < count (e ∷ past) → count past' < count (e' ∷ past') → count past ≡ count past' → past ≡ past'
one_place count g run past past' e e' at at' p q r = same_place count g at.later at'.later past past' e e' (sym at.place ∙ at'.place) p q r

-- at one place one event stands
length_grows : Grows length
length_grows event past = omega arith

pub one_event : (run past past' : Run) (e e' : Event) → Stands run past e → Stands run past' e' → past ≡ past' → e ≡ e'
one_event run past past' e e' at at' same = go at.later at'.later (sym at.place ∙ at'.place)
  where
    go : (later later' : Run) → later ++ e ∷ past ≡ later' ++ e' ∷ past' → e ≡ e'
    go [] [] h = cc
    go [] (x ∷ later') h = absurd (let below : past ≡ later' ++ e' ∷ past' = cc in ordered length length_grows later' past past' e' below (omega arith) (ap length same))
    go (x ∷ later) [] h = absurd (let below : past' ≡ later ++ e ∷ past = cc in ordered length length_grows later past' past e below (omega arith) (ap length (sym same)))
    go (x ∷ later) (y ∷ later') h = let rest : later ++ e ∷ past ≡ later' ++ e' ∷ past' = cc in go later later' rest

-- turns
turn_grows : (conv : ℕ) → Grows (turn conv)
turn_grows conv starts past = omega arith
turn_grows conv (talks other bytes) past = omega arith
turn_grows conv (serves session deed) past = omega arith
turn_grows conv (moves other move) past = elim (cases_Bool (eqb other conv)) [
  | inl same ↦ rw same (omega arith)
  | inr differs ↦ rw differs (omega arith)
]

turn_taken : (conv : ℕ) (move : Move) (past : Run) → turn conv past < turn conv (moves conv move ∷ past)
turn_taken conv move past = rw (eq-eqb conv conv refl) (omega arith)

pub turns_differ : (run past past' : Run) (conv : ℕ) (m m' : Move) → Stands run past (moves conv m) → Stands run past' (moves conv m') → turn conv past ≡ turn conv past' → past ≡ past'
turns_differ run past past' conv m m' at at' e = one_place (turn conv) (turn_grows conv) run past past' (moves conv m) (moves conv m') at at' (turn_taken conv m past) (turn_taken conv m' past') e

pub row_turn : (own : Own) (role : Role) (history : List Move) (move : Move) → Row own role history move → InTurn role (length history) move
row_turn own role history move client_challenge = (0, omega arith, refl)
row_turn own role history move client_request = tt
row_turn own role history move (client_question fields asked whole) = (0, omega arith, refl)
row_turn own role history move client_answer = tt
row_turn own role history move (client_ticket asked names) = (1, omega arith, refl)
row_turn own role history move client_proof = tt
row_turn own role history move client_accepts = (0, omega arith, refl)
row_turn own role history move server_challenge = tt
row_turn own role history move (server_request fields) = (0, omega arith, refl)
row_turn own role history move (server_ticket fields) = tt
row_turn own role history move (server_accepts fields names) = (0, omega arith, refl)
row_turn own role history move (server_proof fields) = (1, omega arith, refl)
row_turn own role history move mail_client_challenge = tt
row_turn own role history move mail_client_answer = (0, omega arith, refl)
row_turn own role history move (mail_question fields) = (0, omega arith, refl)
row_turn own role history move mail_answer = tt
row_turn own role history move (mail_challenge_on six) = (0, omega arith, refl)
row_turn own role history move mail_user = tt
row_turn own role history move mail_digest = tt
row_turn own role history move (mail_second_question fields) = (1, omega arith, refl)
row_turn own role history move mail_second_answer = tt
row_turn own role history move (mail_accepts fields names client_field server_field) = (0, omega arith, refl)
row_turn own role history move breaks = tt

pub in_turn : (s : Setting) (run past : Run) (conv : ℕ) (move : Move) → IsRun s run → Stands run past (moves conv move) → InTurn (s.role conv) (turn conv past) move
in_turn s run past conv move r at = row_turn (own_of s conv) (s.role conv) (moves_of conv past) move (moved_at s past conv move (run_with s run past (moves conv move) r at))

-- a conversation accepts in one turn
pub only : (a n : ℕ) → Contains (a ∷ []) n → a ≡ n
only a n (zero, below, e) = e
only a n (suc k, below, e) = absurd (omega (arith, below))

one_turn : (role : Role) (n m : ℕ) → Contains (turns_that_accept role) n → Contains (turns_that_accept role) m → n ≡ m
one_turn client n m p q = sym (only 6 n p) ∙ only 6 m q
one_turn server n m p q = sym (only 3 n p) ∙ only 3 m q
one_turn (mail_client kind) n m p q = absurd (omega (arith, p.1))
one_turn (mail_server kind) n m p q = sym (only 7 n p) ∙ only 7 m q

pub accepts_once : (s : Setting) (run past past' : Run) (conv : ℕ) (user user' : List ℕ) → IsRun s run → Stands run past (moves conv (accepts user)) → Stands run past' (moves conv (accepts user')) → past ≡ past'
accepts_once s run past past' conv user user' r at at' =
    turns_differ run past past' conv (accepts user) (accepts user') at at' (one_turn (s.role conv) (turn conv past) (turn conv past') (in_turn s run past conv (accepts user) r at) (in_turn s run past' conv (accepts user') r at'))
