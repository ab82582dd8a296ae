-- What a talk leaves in the record, and what met its needs, call by call: each call by what is needed and how it stands
-- before and behind it, what it is answered and what is got.
use Rattle.std.proofs.Common.{◌≡◌, ℕ, List, [], ◌∷◌, ◌++◌, not, ◌&&◌, if◌then◌else◌, refl, ap}
use Rattle.roles.specs.declared.answer.Gave.{Gave}
use Rattle.roles.specs.declared.key.SkKey.{SkKey}
use Rattle.roles.specs.declared.need.Need.{Need}
use Rattle.roles.specs.declared.need.Outcome.{Outcome}
use Rattle.roles.specs.Answers.{is_sought}
use Rattle.roles.specs.Talks.{Call, give, get, found, heard, offered, picked}
use Rattle.talks.specs.Talks.{needs_any}
use Rattle.std.specs.Prelude.{Option}
use Rattle.wire_histories.specs.Histories.{Act, gave, took, answered}
use Rattle.wire_histories.specs.Conversations.{Speaker, acts_from, asks_by, end_by, if_found, is_asked, is_given, is_taken, meets, met_by, waiting}

-- behind a talk: how it has ended, what is needed, the request that waits where something is searched for, what it left
-- and what met its needs
pub record Leaves (s : Speaker) (first : Act) (talk : List Call) (ending : Outcome) (need : Need) (held : Act) (left : List Act) (answers : List Call) : Type 0 where
  pub ends : s.ends talk ≡ ending
  pub needs : s.needs talk ≡ need
  pub waits : waiting s first talk ≡ held
  pub acts : acts_from s first talk ≡ left
  pub met : met_by s talk ≡ answers

-- the request that waits behind a write, what a call met, and what is found leaves
abbrev pub written : Need → Act → List ℕ → Act
written need waits b = if is_sought need then waits else took b

abbrev pub met_with : Need → Call → List Call → List Call
met_with need call met = if meets need call then call ∷ met else met

-- what a call leaves, by what it leaves of itself
abbrev pub step : Outcome → Outcome → Need → Need → List Act → List Act
step e0 e1 n0 n1 own = end_by e0 e1 ++ (asks_by n0 n1 ++ own)

abbrev pub of_give : Need → Need → Gave → List ℕ → List Act
of_give n0 n1 given b = if not (needs_any n0) && (is_taken given && not (is_sought n1)) then took b ∷ [] else []

abbrev pub of_get : Gave → List ℕ → List Act
of_get given b = if is_given given then gave b ∷ [] else []

abbrev pub of_heard : Need → List ℕ → List Act
of_heard n0 b = if is_asked n0 then answered b ∷ [] else []

abbrev pub of_found : Need → Need → Act → List Act
of_found n0 n1 waits = if_found (is_sought n0) (is_sought n1) waits

-- ---- each call

pub begins : (s : Speaker) (first : Act) (e : Outcome) (n : Need) → s.ends [] ≡ e → s.needs [] ≡ n → Leaves s first [] e n first (if is_sought n then [] else first ∷ []) []
begins s first e n ends needs = record { ends = ends; needs = needs; waits = refl; acts = ap (λ need. if is_sought need then [] else first ∷ []) needs; met = refl }

pub gives : (s : Speaker) (first : Act) (before : List Call) (b : List ℕ) (e0 e1 : Outcome) (n0 n1 : Need) (given : Gave) (w : Act) (acts : List Act) (met : List Call)
    → Leaves s first before e0 n0 w acts met → s.ends (give b ∷ before) ≡ e1 → s.needs (give b ∷ before) ≡ n1 → s.answers before (give b) ≡ given
    → Leaves s first (give b ∷ before) e1 n1 (written n0 w b) (step e0 e1 n0 n1 (of_give n0 n1 given b) ++ acts) (met_with n0 (give b) met)
gives s first before b e0 e1 n0 n1 given w acts met h ends needs answers = record {
  ends = ends;
  needs = needs;
  waits = rw (h.needs, h.waits) refl;
  acts = rw (h.ends, h.needs, h.acts, ends, needs, answers) refl;
  met = rw (h.needs, h.met) refl;
}

pub gets : (s : Speaker) (first : Act) (before : List Call) (b : List ℕ) (e0 e1 : Outcome) (n0 n1 : Need) (given : Gave) (w : Act) (acts : List Act) (met : List Call)
    → Leaves s first before e0 n0 w acts met → s.ends (get ∷ before) ≡ e1 → s.needs (get ∷ before) ≡ n1 → s.answers before get ≡ given → s.puts before get ≡ b
    → Leaves s first (get ∷ before) e1 n1 w (step e0 e1 n0 n1 (of_get given b) ++ acts) (met_with n0 get met)
gets s first before b e0 e1 n0 n1 given w acts met h ends needs answers puts = record {
  ends = ends;
  needs = needs;
  waits = h.waits;
  acts = rw (h.ends, h.needs, h.acts, ends, needs, answers, puts) refl;
  met = rw (h.needs, h.met) refl;
}

pub hears : (s : Speaker) (first : Act) (before : List Call) (b : List ℕ) (e0 e1 : Outcome) (n0 n1 : Need) (w : Act) (acts : List Act) (met : List Call)
    → Leaves s first before e0 n0 w acts met → s.ends (heard b ∷ before) ≡ e1 → s.needs (heard b ∷ before) ≡ n1
    → Leaves s first (heard b ∷ before) e1 n1 w (step e0 e1 n0 n1 (of_heard n0 b) ++ acts) (met_with n0 (heard b) met)
hears s first before b e0 e1 n0 n1 w acts met h ends needs = record {
  ends = ends;
  needs = needs;
  waits = h.waits;
  acts = rw (h.ends, h.needs, h.acts, ends, needs) refl;
  met = rw (h.needs, h.met) refl;
}

pub finds : (s : Speaker) (first : Act) (before : List Call) (key : SkKey) (password : Option (List ℕ)) (e0 e1 : Outcome) (n0 n1 : Need) (w : Act) (acts : List Act) (met : List Call)
    → Leaves s first before e0 n0 w acts met → s.ends (found key password ∷ before) ≡ e1 → s.needs (found key password ∷ before) ≡ n1
    → Leaves s first (found key password ∷ before) e1 n1 w (step e0 e1 n0 n1 (of_found n0 n1 w) ++ acts) (met_with n0 (found key password) met)
finds s first before key password e0 e1 n0 n1 w acts met h ends needs = record {
  ends = ends;
  needs = needs;
  waits = h.waits;
  acts = rw (h.ends, h.needs, h.acts, h.waits, ends, needs) refl;
  met = rw (h.needs, h.met) refl;
}

pub offers : (s : Speaker) (first : Act) (before : List Call) (list : List ℕ) (e0 e1 : Outcome) (n0 n1 : Need) (w : Act) (acts : List Act) (met : List Call)
    → Leaves s first before e0 n0 w acts met → s.ends (offered list ∷ before) ≡ e1 → s.needs (offered list ∷ before) ≡ n1
    → Leaves s first (offered list ∷ before) e1 n1 w (step e0 e1 n0 n1 (of_found n0 n1 w) ++ acts) (met_with n0 (offered list) met)
offers s first before list e0 e1 n0 n1 w acts met h ends needs = record {
  ends = ends;
  needs = needs;
  waits = h.waits;
  acts = rw (h.ends, h.needs, h.acts, h.waits, ends, needs) refl;
  met = rw (h.needs, h.met) refl;
}

pub picks : (s : Speaker) (first : Act) (before : List Call) (place : ℕ) (e0 e1 : Outcome) (n0 n1 : Need) (w : Act) (acts : List Act) (met : List Call)
    → Leaves s first before e0 n0 w acts met → s.ends (picked place ∷ before) ≡ e1 → s.needs (picked place ∷ before) ≡ n1
    → Leaves s first (picked place ∷ before) e1 n1 w (step e0 e1 n0 n1 (of_found n0 n1 w) ++ acts) (met_with n0 (picked place) met)
picks s first before place e0 e1 n0 n1 w acts met h ends needs = record {
  ends = ends;
  needs = needs;
  waits = h.waits;
  acts = rw (h.ends, h.needs, h.acts, h.waits, ends, needs) refl;
  met = rw (h.needs, h.met) refl;
}
