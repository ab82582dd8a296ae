-- The forms of verdicts by which no key is called bad, and no more is got than an answer has room for.
use Rattle.std.proofs.Common.{◌≡◌, ℕ, ◌≤◌, List, [], ◌∷◌, Bool, true, false, cond, Option, Some, None, Result, Ok, Err, length, ltb, refl, ◌∙◌, arith}
use Rattle.std.proofs.lemmas.Bool.{ltb-false}
use Rattle.wire_base.specs.Names.{IsName}
use Rattle.wire_base.specs.Rules.{Rule, first_told}
use Rattle.sealing.specs.declared.fault.FieldFault.{FieldFault}
use Rattle.sealing.specs.declared.request.TicketReq.{TicketReq}
use Rattle.sealing.specs.declared.ticket.Ticket.{Ticket}
use Rattle.roles.specs.declared.answer.Cause.{Cause}
use Rattle.roles.specs.declared.answer.Cause.TheVariants as c
use Rattle.roles.specs.declared.answer.Gave.{Gave}
use Rattle.roles.specs.declared.answer.Gave.TheVariants as g
use Rattle.roles.specs.declared.key.SkKey.{SkKey}
use Rattle.roles.specs.Courses.{answer_of, bytes_of, refusal, then_course}
use Rattle.roles.specs.Talks.{Call, Progress, Verdict, breaks, found, goes, heard, offered, sized, stays, tested, unless_told}
use Rattle.roles.specs.Tickets.{with_request, with_ticket}

-- ---- what is met

abbrev pub NamesFit : SkKey → Type 0
NamesFit key = IsName 28 key.user × IsName 48 key.dom

abbrev pub FitsMove : Call → Type 0
FitsMove (found key password) = NamesFit key
FitsMove (offered list) = length list ≤ 1024
FitsMove call = Unit {0}

abbrev pub FitMoves : List Call → Type 0
FitMoves [] = Unit {0}
FitMoves (call ∷ calls) = FitsMove call × FitMoves calls

abbrev pub is_heard : Call → Bool
is_heard (heard bytes) = true
is_heard call = false

-- ---- verdicts

-- a key is called bad
abbrev pub is_bad_cause : Cause → Bool
is_bad_cause c.BadKey = true
is_bad_cause cause = false

abbrev pub is_bad : Gave → Bool
is_bad g.BadKey = true
is_bad (g.Refused cause) = is_bad_cause cause
is_bad answer = false

-- what stands of a stage, and sizes where something is known
abbrev pub Good : {S : Type 0} → (S → Type 0) → Type 0 → Call → Verdict S → Type 0
Good G F call (goes next answer bytes) = G next × (is_heard call ≡ false → is_bad answer ≡ true → ⊥) × (F → length bytes ≤ 2048)
Good G F call (stays answer) = is_bad answer ≡ true → ⊥
Good G F call (breaks cause) = is_heard call ≡ false → cause ≡ c.BadKey → ⊥

refusal_bad : (cause : Cause) → is_bad (refusal cause) ≡ true → cause ≡ c.BadKey
refusal_bad c.BadKey e = refl
refusal_bad c.WrongKind e = absurd cc
refusal_bad c.WrongChallenge e = absurd cc
refusal_bad c.WrongUser e = absurd cc
refusal_bad c.NotOffered e = absurd cc
refusal_bad c.ServerSaidNo e = absurd cc
refusal_bad c.NoServer e = absurd cc
refusal_bad c.NoRoom e = absurd cc

-- ---- forms

pub either_so : {S : Type 0} (P : Verdict S → Type 0) (b : Bool) (x y : Verdict S) → (b ≡ true → P x) → P y → P (cond b x y)
either_so P true x y first second = first refl
either_so P false x y first second = second

-- tests of which none calls a key bad
abbrev pub NoneBad : List (Rule Cause) → Type 0
NoneBad [] = Unit {0}
NoneBad (rule ∷ rules) = (rule.1 ≡ c.BadKey → ⊥) × NoneBad rules

told_bad : (rules : List (Rule Cause)) (cause : Cause) → NoneBad rules → first_told rules ≡ Some cause → cause ≡ c.BadKey → ⊥
told_bad [] cause none e = absurd cc
told_bad (rule ∷ rules) cause none e = by_test rule.0 e (told_bad rules cause none.1)
  where
    by_test : (b : Bool) → cond b (Some rule.1) (first_told rules) ≡ Some cause → (first_told rules ≡ Some cause → cause ≡ c.BadKey → ⊥) → cause ≡ c.BadKey → ⊥
    by_test true e more = let same : rule.1 ≡ cause = cc in λ bad. none.0 (same ∙ bad)
    by_test false e more = more e

unless_so : {S : Type 0} (P : Verdict S → Type 0) (told : Option Cause) (passed : Verdict S) → ((cause : Cause) → told ≡ Some cause → P (breaks cause)) → P passed → P (unless_told told passed)
unless_so P None passed broken so = so
unless_so P (Some cause) passed broken so = broken cause refl

pub tested_so : {S : Type 0} (G : S → Type 0) (F : Type 0) (call : Call) (rules : List (Rule Cause)) (passed : Verdict S) → NoneBad rules → Good G F call passed → Good G F call (tested rules passed)
tested_so G F call rules passed none so = unless_so (Good G F call) (first_told rules) passed (λ cause e off. told_bad rules cause none e) so

pub tested_heard : {S : Type 0} (G : S → Type 0) (F : Type 0) (bytes : List ℕ) (rules : List (Rule Cause)) (passed : Verdict S) → Good G F (heard bytes) passed → Good G F (heard bytes) (tested rules passed)
tested_heard G F bytes rules passed so = unless_so (Good G F (heard bytes)) (first_told rules) passed (λ cause e off. absurd cc) so

pub sized_so : {S : Type 0} (P : Verdict S → Type 0) (size : ℕ) (b : List ℕ) (whole : Verdict S) → P (stays (g.TooSmall size)) → P (stays g.TooLong) → (length b ≡ size → P whole) → P (sized size b whole)
sized_so P size b whole small long so = by_small (ltb (length b) size) refl
  where
    by_long : (y : Bool) → ltb size (length b) ≡ y → ltb (length b) size ≡ false → P (cond y (stays g.TooLong) whole)
    by_long true f e = long
    by_long false f e = so (omega (arith, ltb-false (length b) size e, ltb-false size (length b) f))

    by_small : (x : Bool) → ltb (length b) size ≡ x → P (cond x (stays (g.TooSmall size)) (cond (ltb size (length b)) (stays g.TooLong) whole))
    by_small true e = small
    by_small false e = by_long (ltb size (length b)) refl e

pub ticket_so : {S : Type 0} (P : Verdict S → Type 0) (cause : Cause) (ticket : Result Ticket FieldFault) (next : Ticket → Verdict S) → P (breaks cause) → ((t : Ticket) → ticket ≡ Ok t → P (next t)) → P (with_ticket cause ticket next)
ticket_so P cause (Ok ticket) next broken so = so ticket refl
ticket_so P cause (Err fault) next broken so = broken

pub request_so : {S : Type 0} (P : Verdict S → Type 0) (cause : Cause) (request : Result TicketReq FieldFault) (next : TicketReq → Verdict S) → P (breaks cause) → ((r : TicketReq) → P (next r)) → P (with_request cause request next)
request_so P cause (Ok request) next broken so = so request
request_so P cause (Err fault) next broken so = broken

-- ---- what follows on a verdict

pub goes_on : {S : Type 0} (G : S → Type 0) (F : Type 0) (call : Call) (p : Progress S) (v : Verdict S) → G p.stage → Good G F call v → G (then_course p v).stage
goes_on G F call p (goes next answer bytes) so good = good.0
goes_on G F call p (stays answer) so good = so
goes_on G F call p (breaks cause) so good = so

-- what is answered, and what is got
pub answer_so : {S : Type 0} (G : S → Type 0) (F : Type 0) (call : Call) (v : Verdict S) → Good G F call v → is_heard call ≡ false → is_bad (answer_of v) ≡ true → ⊥
answer_so G F call (goes next answer bytes) good off e = good.1 off e
answer_so G F call (stays answer) good off e = good e
answer_so G F call (breaks cause) good off e = good off (refusal_bad cause e)

pub bytes_so : {S : Type 0} (G : S → Type 0) (F : Type 0) (call : Call) (v : Verdict S) → Good G F call v → F → length (bytes_of v) ≤ 2048
bytes_so G F call (goes next answer bytes) good f = good.2 f
bytes_so G F call (stays answer) good f = omega arith
bytes_so G F call (breaks cause) good f = omega arith
