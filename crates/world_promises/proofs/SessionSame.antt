-- What a session leaves depends on what is known by the tables that were in force at its requests, and by no others.
use Rattle.std.proofs.Common.{◌≡◌, ℕ, List, [], ◌∷◌, ◌++◌, length, Bool, not, ◌||◌, refl, sym, ap, subst, ◌∙◌}
use Rattle.std.specs.Prelude.{if◌then◌else◌}
use Rattle.auth_server.specs.Requests.{asked_so, is_served, kind_of, needed}
use Rattle.auth_server.specs.Answers.{Knowledge, Posed, answer_in, held_in, is_over_in, posed}
use Rattle.wire_histories.specs.Histories.{Deal, replied, requested}
use Rattle.wire_histories.specs.Sessions.{Came, IsLong, IsSession, MayCome, ends_by, has_ended, posed_as, posed_by, replies_to, session_deals}

abbrev pub AllCame : (Came → Type 0) → List Came → Type 0
AllCame P [] = Unit {0}
AllCame P (came ∷ before) = P came × AllCame P before

pub came_more : (P Q : Came → Type 0) (session : List Came) → ((came : Came) → P came → Q came) → AllCame P session → AllCame Q session
came_more P Q [] so all = tt
came_more P Q (came ∷ before) so all = (so came all.0, came_more P Q before so all.1)

module _ (k j : ℕ → Knowledge) where
  abbrev pub SameAt : Came → Type 0
  SameAt came = k came.tables ≡ j came.tables

  one_posed : (came : Came) → SameAt came → posed_as k came ≡ posed_as j came
  one_posed came same = ap (λ n. posed n (asked_so came.request came.words)) same

  pub posed_same : (session : List Came) → AllCame SameAt session → posed_by k session ≡ posed_by j session
  posed_same [] same = refl
  posed_same (came ∷ before) same = ap (λ p. p ∷ posed_by k before) (one_posed came same.0) ∙ ap (λ ps. posed_as j came ∷ ps) (posed_same before same.1)

  ended_same : (session : List Came) → AllCame SameAt session → has_ended k session ≡ has_ended j session
  ended_same [] same = refl
  ended_same (came ∷ before) same = ap (λ ps. not (is_served (kind_of came.request)) || is_over_in ps) (posed_same (came ∷ before) same)

  may_same : (before : List Came) (came : Came) → AllCame SameAt before → MayCome k before came → MayCome j before came
  may_same before came same may = record {
    goes_on = sym (ended_same before same) ∙ may.goes_on;
    some = may.some;
    long = subst (λ ps. IsLong (needed (held_in ps) (kind_of came.request)) (length came.request)) (posed_same before same) may.long;
    three = may.three;
    words = may.words;
  }

  pub session_same : (session : List Came) → AllCame SameAt session → IsSession k session → IsSession j session
  session_same [] same so = tt
  session_same (came ∷ before) same so = (may_same before came same.1 so.0, session_same before same.1 so.1)

  pub deals_same : (session : List Came) → AllCame SameAt session → session_deals k session ≡ session_deals j session
  deals_same [] same = refl
  deals_same (came ∷ before) same =
      ap (λ over. ends_by over ++ (replies_to k before came ++ requested came.tables came.request came.words ∷ session_deals k before)) (ended_same (came ∷ before) same)
      ∙ (ap (λ ps. ends_by (has_ended j (came ∷ before)) ++ ((if is_served (kind_of came.request) then replied (answer_in ps (posed_as k came)) ∷ [] else []) ++ requested came.tables came.request came.words ∷ session_deals k before)) (posed_same before same.1)
      ∙ (ap (λ p. ends_by (has_ended j (came ∷ before)) ++ ((if is_served (kind_of came.request) then replied (answer_in (posed_by j before) p) ∷ [] else []) ++ requested came.tables came.request came.words ∷ session_deals k before)) (one_posed came same.0)
      ∙ ap (λ ds. ends_by (has_ended j (came ∷ before)) ++ (replies_to j before came ++ requested came.tables came.request came.words ∷ ds)) (deals_same before same.1)))
