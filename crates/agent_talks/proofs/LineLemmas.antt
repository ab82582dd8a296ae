-- The lines that are told of a conversation are those that follow on what it met.
use Rattle.std.proofs.Common.{◌≡◌, ℕ, List, [], ◌∷◌, ◌++◌, Bool, true, false, cond, not, ◌&&◌, eqb, ltb, inl, inr, Equal, Greater, Option, Some, None, refl, sym, ap, subst, ◌∙◌}
use Rattle.std.specs.Prelude.{is_some, option_map}
use Rattle.std.specs.Option.{option_to_list}
use Rattle.std.specs.Ordering.{is_eq, nat_cmp}
use Rattle.std.specs.BTreeMap.{is_at}
use Rattle.std.proofs.lemmas.Bool.{cases_Bool, eqb-true, false≢true}
use Rattle.attr_tuples.specs.declared.attr.Attr.{Attr}
use Rattle.roles.specs.declared.need.Outcome.{Outcome}
use Rattle.talks.specs.Protocols.{ends}
use Rattle.talks.specs.Lines.{end_line, end_part, is_end, log_lines, start_line, start_part, start_template}
use Rattle.talks.specs.Standings.{Begun, Phase, Standing, outcome_of, outcome_unless, waits_for_user}
use Rattle.conversations.specs.Asking.{template_begun}
use Rattle.agent_talks.specs.declared.ready.ReadyLine.{ReadyLine}
use Rattle.agent_talks.specs.Ahead.{IsMadeFor, coming_by, goes_on, new_by, new_template, start_by, template_coming, told_of}
use Rattle.agent_talks.proofs.TemplateLaws.{IsOf}

-- ---- what has started was begun

begun_in : (starting waits : Bool) (begun : Option Begun) → is_some (elim starting [ true ↦ outcome_unless waits begun | false ↦ option_map (λ b. ends b.start b.moves) begun ]) ≡ true → is_some begun ≡ true
begun_in true true begun e = absurd (false≢true e)
begun_in true false None e = e
begun_in true false (Some b) e = refl
begun_in false waits None e = e
begun_in false waits (Some b) e = refl

pub started_begun : (s : Standing) → is_some (outcome_of s) ≡ true → is_some s.begun ≡ true
started_begun s e = begun_in s.starting (waits_for_user s.phase) s.begun e

pub ended_started : (o : Option Outcome) → is_end o ≡ true → is_some o ≡ true
ended_started None e = e
ended_started (Some outcome) e = refl

pub of_template : (coming : Option (List Attr)) (begun : Option Begun) → is_some begun ≡ true → IsOf coming begun → coming ≡ Some (start_template begun)
of_template coming None e is = absurd (false≢true e)
of_template coming (Some b) e is = is

-- ---- the lines

start_told : (debug started : Bool) (line : List ℕ) → option_to_list (cond (debug && not started) (Some line) None) ≡ cond (debug && (not started && true)) (line ∷ []) []
start_told true true line = refl
start_told true false line = refl
start_told false started line = refl

none_starts : (debug started : Bool) (line : List ℕ) → cond (debug && (not started && false)) (line ∷ []) [] ≡ []
none_starts true true line = refl
none_starts true false line = refl
none_starts false started line = refl

none_ends : (over : Bool) (none : List (List ℕ)) → cond over none none ≡ none
none_ends true none = refl
none_ends false none = refl

lines_in : (debug : Bool) (conv : ℕ) (before now : Option Outcome) (begun : Option Begun) (over : Bool) (start : Option (List ℕ)) (coming : Option (List Attr)) → over ≡ is_end before
    → (is_some now ≡ true → start ≡ start_by debug conv before coming) → IsOf coming begun → (is_some now ≡ true → is_some begun ≡ true)
    → told_of over start conv (start_template begun) now ≡ start_part debug conv (start_template begun) before now ++ end_part conv (start_template begun) before now
lines_in debug conv before None begun over start coming is starts of has =
    sym (ap (λ (xs : List (List ℕ)). xs ++ cond (is_end before) [] []) (none_starts debug (is_some before) (start_line conv (start_template begun))) ∙ none_ends (is_end before) [])
lines_in debug conv before (Some outcome) begun over start coming is starts of has =
    let template : List Attr = start_template begun in
    let line : List ℕ = start_line conv template in
    let ahead : start ≡ cond (debug && not (is_some before)) (Some line) None = starts refl ∙ ap (λ (o : Option (List Attr)). start_by debug conv before o) (of_template coming begun (has refl) of) in
    ap (λ (o : Option (List ℕ)). option_to_list o ++ cond over [] (end_line conv template (Some outcome))) ahead
    ∙ (ap (λ (b : Bool). option_to_list (cond (debug && not (is_some before)) (Some line) None) ++ cond b [] (end_line conv template (Some outcome))) is
    ∙ ap (λ (xs : List (List ℕ)). xs ++ cond (is_end before) [] (end_line conv template (Some outcome))) (start_told debug (is_some before) line))

pub told_lines : (debug : Bool) (conv : ℕ) (before now : Standing) (over : Bool) (start : Option (List ℕ)) (coming : Option (List Attr)) → over ≡ is_end (outcome_of before)
    → (is_some (outcome_of now) ≡ true → start ≡ start_by debug conv (outcome_of before) coming) → IsOf coming now.begun → told_of over start conv (start_template now.begun) (outcome_of now) ≡ log_lines debug conv before now
told_lines debug conv before now over start coming is starts of = lines_in debug conv (outcome_of before) (outcome_of now) now.begun over start coming is starts of (started_begun now)

-- ---- the line of an end stays made

made_still : (conv : ℕ) (line : Option ReadyLine) (was is : Option Begun) (over ended : Bool) → (over ≡ true → ended ≡ true) → IsOf (template_begun was) is → IsMadeFor (is_some was && not over) conv (start_template was) line → IsMadeFor (is_some is && not ended) conv (start_template is) line
made_still conv line was None over ended stays of made = tt
made_still conv line was (Some b) over true stays of made = tt
made_still conv line None (Some b) over false stays of made = absurd cc
made_still conv line (Some a) (Some b) true false stays of made = absurd (false≢true (stays refl))
made_still conv line (Some a) (Some b) false false stays of made = let same : a.start.template ≡ b.start.template = cc in subst (λ (t : List Attr). IsMadeFor true conv t line) same made

-- by whatever it meets that begins nothing
pub line_stays : (conv : ℕ) (line : Option ReadyLine) (was is : Standing) → (is_end (outcome_of was) ≡ true → is_end (outcome_of is) ≡ true) → IsOf (template_begun was.begun) is.begun → IsMadeFor (goes_on was) conv (start_template was.begun) line → IsMadeFor (goes_on is) conv (start_template is.begun) line
line_stays conv line was is stays of made = made_still conv line was.begun is.begun (is_end (outcome_of was)) (is_end (outcome_of is)) stays of made

made_own : (conv : ℕ) (line : Option ReadyLine) (begun : Option Begun) (over : Bool) (template : List Attr) → template_begun begun ≡ Some template → over ≡ false → IsMadeFor (is_some begun && not over) conv (start_template begun) line → IsMadeFor true conv template line
made_own conv line None over template e f made = absurd cc
made_own conv line (Some b) true template e f made = absurd (false≢true (sym f))
made_own conv line (Some b) false template e f made = let same : b.start.template ≡ template = cc in subst (λ (t : List Attr). IsMadeFor true conv t line) same made

-- one that was begun, and isn't over, has the line of its template
pub own_line : (conv : ℕ) (line : Option ReadyLine) (s : Standing) (template : List Attr) → template_begun s.begun ≡ Some template → is_end (outcome_of s) ≡ false → IsMadeFor (goes_on s) conv (start_template s.begun) line → IsMadeFor true conv template line
own_line conv line s template e f made = made_own conv line s.begun (is_end (outcome_of s)) template e f made

-- ---- a number among others

-- the test by which a map finds a number
pub at_number : (a b : ℕ) → is_at (nat_cmp a) b ≡ true → a ≡ b
at_number a b = elim (cases_Bool (ltb a b)) [
  | inl below ↦ λ is. absurd (false≢true (sym (rw below refl) ∙ is))
  | inr not_below ↦ λ is. eqb-true a b (sym (rw not_below (chosen (eqb a b))) ∙ is)
]
  where
    chosen : (t : Bool) → is_eq (cond t Equal Greater) ≡ t
    chosen true = refl
    chosen false = refl

-- ---- a start that isn't carried out yet

new_in : (begun : Option Begun) (p : Phase) (one other : List Attr) → new_by begun p ≡ Some one → coming_by begun p ≡ Some other → one ≡ other
new_in None p one other e f = let same : Some one ≡ Some other = sym e ∙ f in cc
new_in (Some b) p one other e f = absurd cc

pub new_is : (s : Standing) (one other : List Attr) → new_template s ≡ Some one → template_coming s ≡ Some other → one ≡ other
new_is s one other e f = new_in s.begun s.phase one other e f
