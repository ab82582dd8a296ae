-- The conversation that a fid has open on the only connection: it is found by its number, and no other one has the fid open.
use Rattle.std.proofs.Common.{◌≡◌, ℕ, List, [], ◌∷◌, Bool, true, false, eqb, ltb, ◌&&◌, ◌||◌, not, Some, refl, sym, ap, ◌∙◌, inl, inr, map, arith}
use Rattle.std.specs.Prelude.{find, option_map}
use Rattle.std.specs.List.{list_all, AllByRecursion, IsDistinct}
use Rattle.std.proofs.lemmas.Bool.{and_from, and_parts, cases_Bool, eq-eqb, eqb-true, ltb-true}
use Rattle.agent_history.specs.Conversations.{Speaker, conv_of, opened_talks, speaker_of, speakers}
use Rattle.agent_history.specs.Histories.{History, deeds}
use Rattle.agent_laws.specs.Laws.{is_same_place}
use Rattle.agent_laws.proofs.ConversationLaws.{Rise, number, rise_parts, speak_once, speakers_rise}
use Rattle.driven_agents.proofs.SeatLaws.{is_at}
use Rattle.world_promises.proofs.FoundLemmas.{all_numbers, first_found, number_passes, later_found}
use Rattle.world_promises.proofs.OtherTalks.{apart}

abbrev pub AreAlone : List Speaker → Type 0
AreAlone ss = list_all (λ s. eqb s.conn 0) ss ≡ true

abbrev pub seat : ℕ → ℕ → Speaker
seat conv fid = record { conv = conv; conn = 0; fid = fid }

-- who is at the fid with the number is such
is_seat : (s : Speaker) (conv fid : ℕ) → is_at fid s ≡ true → s.conv ≡ conv → s ≡ seat conv fid
is_seat s conv fid at is =
    let parts = and_parts (eqb s.conn 0) (eqb s.fid fid) at in
    ap (λ n. record { conv = n; conn = s.conn; fid = s.fid }) is
    ∙ ap (λ c. record { conv = conv; conn = c; fid = s.fid }) (eqb-true s.conn 0 parts.0)
    ∙ ap (λ f. seat conv f) (eqb-true s.fid fid parts.1)

first_number : (p : Speaker → Bool) (s : Speaker) (ss : List Speaker) (conv : ℕ) → p s ≡ true → option_map number (find p (s ∷ ss)) ≡ Some conv → s.conv ≡ conv
first_number p s ss conv on e = let there : Some s.conv ≡ Some conv = sym (ap (option_map number) (first_found p s ss on)) ∙ e in cc

later_number : (p : Speaker → Bool) (s : Speaker) (ss : List Speaker) (conv : ℕ) → p s ≡ false → option_map number (find p (s ∷ ss)) ≡ Some conv → option_map number (find p ss) ≡ Some conv
later_number p s ss conv off e = sym (ap (option_map number) (later_found p s ss off)) ∙ e

below_apart : (n m : ℕ) → ltb n m ≡ true → eqb n m ≡ false
below_apart n m lt = elim (cases_Bool (eqb n m)) [
  | inl same ↦ absurd (omega (arith, ltb-true n m lt, eqb-true n m same))
  | inr off ↦ off
]

by_number : (top fid conv : ℕ) (ss : List Speaker) → Rise top (map number ss) → option_map number (find (is_at fid) ss) ≡ Some conv → find (λ s. eqb s.conv conv) ss ≡ Some (seat conv fid)
by_number top fid conv [] rise e = absurd cc
by_number top fid conv (s ∷ ss) rise e =
    let parts = rise_parts top s.conv (map number ss) rise in
    elim (cases_Bool (is_at fid s)) [
      | inl on ↦ let is = first_number (is_at fid) s ss conv on e in first_found (λ t. eqb t.conv conv) s ss (eq-eqb s.conv conv is) ∙ ap Some (is_seat s conv fid on is)
      | inr off ↦
          let rest = later_number (is_at fid) s ss conv off e in
          later_found (λ t. eqb t.conv conv) s ss (below_apart s.conv conv (number_passes number (is_at fid) (ltb s.conv) ss conv rest (all_numbers number (ltb s.conv) ss ∙ parts.above)))
          ∙ by_number top fid conv ss parts.rest rest
    ]

pub speaker_found : (h : History) (fid conv : ℕ) → conv_of (deeds h) 0 fid ≡ Some conv → speaker_of (deeds h) conv ≡ Some (seat conv fid)
speaker_found h fid conv e = by_number (opened_talks (deeds h)) fid conv (speakers (deeds h)) (speakers_rise h) e

-- ---- others have other fids

abbrev pub is_apart : ℕ → ℕ → Speaker → Bool
is_apart conv fid s = eqb s.conv conv || not (eqb s.fid fid)

abbrev pub AreApart : ℕ → ℕ → List Speaker → Type 0
AreApart conv fid ss = list_all (is_apart conv fid) ss ≡ true

apart_by : (a b : Bool) → b ≡ false → (a || not b) ≡ true
apart_by true b e = refl
apart_by false b e = ap not e

first_apart : (a b : Bool) → a ≡ true → (a || b) ≡ true
first_apart true b e = refl
first_apart false b e = absurd cc

-- another place of the same connection is another fid
other_fid : (s t : Speaker) (fid : ℕ) → is_at fid s ≡ true → eqb t.conn 0 ≡ true → is_same_place s t ≡ false → eqb t.fid fid ≡ false
other_fid s t fid on zero off =
    let parts = and_parts (eqb s.conn 0) (eqb s.fid fid) on in
    let conns : eqb s.conn t.conn ≡ true = eq-eqb s.conn t.conn (eqb-true s.conn 0 parts.0 ∙ sym (eqb-true t.conn 0 zero)) in
    let fids : eqb s.fid t.fid ≡ false = sym (ap (λ b. b && eqb s.fid t.fid) conns) ∙ off in
    apart fid t.fid (sym (ap (λ f. eqb f t.fid) (eqb-true s.fid fid parts.1)) ∙ fids)

rest_apart : (conv fid : ℕ) (s : Speaker) (ss : List Speaker) → is_at fid s ≡ true → AreAlone ss → AllByRecursion (λ t. is_same_place s t ≡ false) ss → AreApart conv fid ss
rest_apart conv fid s [] on alone others = refl
rest_apart conv fid s (t ∷ ss) on alone others =
    let parts = and_parts (eqb t.conn 0) (list_all (λ u. eqb u.conn 0) ss) alone in
    and_from (is_apart conv fid t) (list_all (is_apart conv fid) ss) (apart_by (eqb t.conv conv) (eqb t.fid fid) (other_fid s t fid on parts.0 others.0)) (rest_apart conv fid s ss on parts.1 others.1)

all_apart : (conv fid : ℕ) (ss : List Speaker) → AreAlone ss → IsDistinct is_same_place ss → option_map number (find (is_at fid) ss) ≡ Some conv → AreApart conv fid ss
unfolding IsDistinct
all_apart conv fid [] alone once e = absurd cc
all_apart conv fid (s ∷ ss) alone once e =
    let parts = and_parts (eqb s.conn 0) (list_all (λ u. eqb u.conn 0) ss) alone in
    elim (cases_Bool (is_at fid s)) [
      | inl on ↦ and_from (is_apart conv fid s) (list_all (is_apart conv fid) ss) (first_apart (eqb s.conv conv) _ (eq-eqb s.conv conv (first_number (is_at fid) s ss conv on e))) (rest_apart conv fid s ss on parts.1 once.0)
      | inr off ↦
          and_from (is_apart conv fid s) (list_all (is_apart conv fid) ss) (apart_by (eqb s.conv conv) (eqb s.fid fid) (sym (ap (λ b. b && eqb s.fid fid) parts.0) ∙ off))
          (all_apart conv fid ss parts.1 once.1 (later_number (is_at fid) s ss conv off e))
    ]

pub others_apart : (h : History) (fid conv : ℕ) → AreAlone (speakers (deeds h)) → conv_of (deeds h) 0 fid ≡ Some conv → AreApart conv fid (speakers (deeds h))
others_apart h fid conv alone e = all_apart conv fid (speakers (deeds h)) alone (speak_once h) e
