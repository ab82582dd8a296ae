-- The forms of p9any's verdicts: a text that a NUL ends, and what is told of a need.
use Rattle.std.proofs.Common.{◌≡◌, ℕ, ◌+◌, List, Bool, true, false, Option, Some, None, Result, Ok, Err, nat_lt, length, ◌==◌, if◌then◌else◌, refl, sym, ap, ◌∙◌}
use Rattle.sealing.specs.Fields.{before_nul}
use Rattle.roles.specs.declared.answer.Gave.{Gave}
use Rattle.roles.specs.declared.answer.Gave.TheVariants as g
use Rattle.roles.specs.declared.need.Need.{Need}
use Rattle.roles.specs.declared.need.Need.TheVariants.{Nothing}
use Rattle.roles.specs.Talks.{Verdict, stays}
use Rattle.conv_p9any.specs.declared.stage.TheConstants.{MOST_TEXT}
use Rattle.conv_p9any.specs.Courses.{waits}
use Rattle.conv_p9any.specs.Talks.{needs_any}
use Rattle.conv_p9any.specs.Texts.{ended_text, text_in, with_text}
use Rattle.wire_histories.specs.Conversations.{is_taken}

pub text_by : {S : Type 0} (P : Verdict S → Type 0) (text : Result (List ℕ) Gave) (whole : List ℕ → Verdict S) → ((answer : Gave) → P (stays answer)) → ((t : List ℕ) → P (whole t)) → P (with_text text whole)
text_by P (Ok text) whole small so = so text
text_by P (Err answer) whole small so = small answer

-- what is told of a text that isn't well is no want of memory
abbrev pub IsPlain : Result (List ℕ) Gave → Type 0
IsPlain (Ok text) = Unit {0}
IsPlain (Err answer) = answer ≡ g.NoMemory → ⊥

plain_if : (b : Bool) (x y : Result (List ℕ) Gave) → IsPlain x → IsPlain y → IsPlain (if b then x else y)
plain_if true x y first second = first
plain_if false x y first second = second

ended_plain : (b : List ℕ) (text : Option (List ℕ)) → IsPlain (ended_text b text)
ended_plain b None = λ e. cc e
ended_plain b (Some text) = plain_if (length b == length text + 1) (Ok text) (Err g.TooLong) tt (λ e. cc e)

pub text_plain : (b : List ℕ) → IsPlain (text_in b)
unfolding text_in
text_plain b = plain_if (nat_lt MOST_TEXT (length b)) (Err g.TooLong) (ended_text b (before_nul b)) (λ e. cc e) (ended_plain b (before_nul b))

pub plain_by : {S : Type 0} (P : Verdict S → Type 0) → ((answer : Gave) → (answer ≡ g.NoMemory → ⊥) → P (stays answer)) → (text : Result (List ℕ) Gave) (whole : List ℕ → Verdict S) → IsPlain text → ((t : List ℕ) → P (whole t)) → P (with_text text whole)
plain_by P small (Ok text) whole plain so = so text
plain_by P small (Err answer) whole plain so = small answer plain

-- ---- what is told of a need

room_if : (b : Bool) → (if b then g.Wait else g.Ok) ≡ g.NoMemory → ⊥
room_if true = λ e. cc e
room_if false = λ e. cc e

pub waits_room : (n : Need) → waits n ≡ g.NoMemory → ⊥
waits_room n = room_if (needs_any n)

taken_if : (b : Bool) → is_taken (if b then g.Wait else g.Ok) ≡ true
taken_if true = refl
taken_if false = refl

pub waits_taken : (n : Need) → is_taken (waits n) ≡ true
waits_taken n = taken_if (needs_any n)

pub no_wait : (n : Need) → n ≡ Nothing → waits n ≡ g.Wait → ⊥
no_wait n none = λ e. cc (sym (ap waits none) ∙ e)
