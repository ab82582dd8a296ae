-- Words of the form of `pipe` with its option are taken by clap, which finds the value behind the option.
use Rattle.std.proofs.Common.{◌≡◌, ◌∙◌, ◌&&◌, ℕ, List, [], ◌∷◌, true, refl, ap, sym, subst, codes, Option, Some, None}
use Rattle.std.specs.List.{list_all}
use Rattle.std.specs.Str.{bytes_eq}
use Rattle.std.proofs.lemmas.Slice.Eq.{bytes_eq-Decides}
use Rattle.wire_base.specs.Texts.{is_text}
use Rattle.clap.specs.Words.{App, HasMatchesOf, Text, first_of, first_value, found_of, is_simple, matches_of, rows_of, takes}
use Rattle.clap.specs.Walk.{Held, Step, after_step, nothing_held, walk, walk_from, walked}
use Rattle.clap.specs.Simple.{Shape, built}
use Rattle.clap.specs.Takes.{step_passes, turn_passes, walk_passes}
use Rattle.clap.specs.declared.parser.matches.ArgMatches.{ArgMatches}
use Rattle.clap.proofs.OnLiterals.{clap_on_literals}
use Rattle.auth_program.specs.Reading.{HasText}
use Rattle.auth_program.specs.Words.{is_value}
use Rattle.factotum_program.specs.Reading.{pipe_app}
use Rattle.factotum_program.specs.Words.{auth_given, has_auth_form}
use Rattle.auth_program.proofs.ClapLemmas.{IsPlainWord, at_option, behind, both_pass, either_passes, flag_passes, met_plain, pass_end, pass_on}
use Rattle.auth_program.proofs.WordLemmas.{and_left, and_right, plain_value, same_first, short_form}

abbrev top : Shape
top = (built pipe_app).top

-- ---- the words one by one

auth_value : (word : Text) → IsPlainWord word → walked top.rules [] (at_option [] (codes "auth")) word ≡ behind [] (codes "auth") word
unfolding clap_on_literals
auth_value word p = ap (λ (m : Held × Step). after_step top.rules word (at_option [] (codes "auth")) m.0 m.1) (met_plain top.rules [] (codes "auth") word (at_option [] (codes "auth")).held p)

auth_turn : (word : Text) → IsPlainWord word → turn_passes top [] (at_option [] (codes "auth")) word ≡ true
auth_turn word p = both_pass _ _
    (either_passes (bytes_eq word (45 ∷ 45 ∷ [])) _ (flag_passes top.rules top.args_override_self word (at_option [] (codes "auth")).held p))
    (subst (λ (m : Held × Step). step_passes top 1 m.0 m.1 ≡ true) (sym (met_plain top.rules [] (codes "auth") word (at_option [] (codes "auth")).held p)) refl)

option_walked : walked top.rules [] (walk_from nothing_held) (codes "--auth") ≡ at_option [] (codes "auth")
unfolding clap_on_literals
option_walked = refl

option_turn : turn_passes top [] (walk_from nothing_held) (codes "--auth") ≡ true
unfolding clap_on_literals
option_turn = refl

auth_walk : (x : Text) → IsPlainWord x → walk top.rules [] nothing_held (codes "--auth" ∷ x ∷ []) ≡ behind [] (codes "auth") x
auth_walk x p = rw (option_walked, auth_value x p) refl

auth_pass : (x : Text) → IsPlainWord x → walk_passes top [] (walk_from nothing_held) (codes "--auth" ∷ x ∷ []) ≡ true
auth_pass x p =
    pass_on top [] _ _ (codes "--auth") _ option_turn option_walked
    (pass_on top [] _ _ x _ (auth_turn x p) (auth_value x p)
    (pass_end top [] _))

auth_takes : (n x : Text) → IsPlainWord x → takes pipe_app (n ∷ codes "--auth" ∷ x ∷ []) ≡ true
auth_takes n x p = rw (auth_walk x p, auth_pass x p) refl

auth_found : (n x : Text) → IsPlainWord x → first_of (codes "auth") (matches_of pipe_app (n ∷ codes "--auth" ∷ x ∷ [])) ≡ Some x
auth_found n x p = rw (auth_walk x p) refl

-- ---- the same of any words

option_is : (n o v : Text) → has_auth_form (n ∷ o ∷ v ∷ []) ≡ true → o ≡ codes "--auth"
option_is n o v e = (bytes_eq-Decides o (codes "--auth")).0 (and_left (bytes_eq o (codes "--auth")) _ (and_right (bytes_eq n (codes "pipe")) _ e))

value_is_plain : (n o v : Text) → has_auth_form (n ∷ o ∷ v ∷ []) ≡ true → IsPlainWord v
value_is_plain n o v e = plain_value v (and_right (bytes_eq o (codes "--auth")) _ (and_right (bytes_eq n (codes "pipe")) _ e))

pub auth_taken : (words : List Text) → has_auth_form words ≡ true → takes pipe_app words ≡ true
auth_taken [] e = short_form e
auth_taken (n ∷ []) e = short_form e
auth_taken (n ∷ o ∷ []) e = short_form e
auth_taken (n ∷ o ∷ v ∷ []) e = subst (λ (o : Text). takes pipe_app (n ∷ o ∷ v ∷ []) ≡ true) (sym (option_is n o v e)) (auth_takes n v (value_is_plain n o v e))
auth_taken (n ∷ o ∷ v ∷ w ∷ rest) e = short_form e

-- the value of the option, which is text
pub record HasAuth (words : List Text) : Type 0 where
  pub value : Text
  pub given : auth_given words ≡ Some value
  pub found : first_of (codes "auth") (matches_of pipe_app words) ≡ Some value
  pub text : list_all is_text words ≡ true → is_text value ≡ true

pub has_auth : (words : List Text) → has_auth_form words ≡ true → HasAuth words
has_auth [] e = short_form e
has_auth (n ∷ []) e = short_form e
has_auth (n ∷ o ∷ []) e = short_form e
has_auth (n ∷ o ∷ v ∷ []) e = record {
  value = v;
  given = refl;
  found = subst (λ (o : Text). first_of (codes "auth") (matches_of pipe_app (n ∷ o ∷ v ∷ [])) ≡ Some v) (sym (option_is n o v e)) (auth_found n v (value_is_plain n o v e));
  text = λ all. and_left (is_text v) _ (and_right (is_text o) _ (and_right (is_text n) _ all));
}
has_auth (n ∷ o ∷ v ∷ w ∷ rest) e = short_form e

-- ---- what a parse of the command found

module _ (words : List Text) (app : App) (m : ArgMatches) where
  first_found : app ≡ pipe_app → HasMatchesOf app words m → (value : Text) → first_of (codes "auth") (matches_of pipe_app words) ≡ Some value → first_value (found_of m) (codes "auth") ≡ Some value
  first_found same h value e = same_first (found_of m) (codes "auth") ∙ (ap (first_of (codes "auth")) ((h (ap is_simple same)).0 ∙ ap (λ a. matches_of a words) same) ∙ e)

  pub has_auth_text : has_auth_form words ≡ true → list_all is_text words ≡ true → app ≡ pipe_app → HasMatchesOf app words m → HasText m (codes "auth")
  has_auth_text form text same h = let a = has_auth words form in record { value = a.value; found = first_found same h a.value a.found; text = a.text text }

  pub auth_is_found : (auth : Text) → has_auth_form words ≡ true → app ≡ pipe_app → HasMatchesOf app words m → first_value (found_of m) (codes "auth") ≡ Some auth → auth_given words ≡ Some auth
  auth_is_found auth form same h e = let a = has_auth words form in a.given ∙ (sym (first_found same h a.value a.found) ∙ e)
