-- The fids of a calm agent that have rpc open, and the questions of their conversations.
use Rattle.std.proofs.Common.{◌≡◌, ℕ, ◌<◌, List, [], ◌∷◌, Bool, true, false, cond, eqb, ltb, ◌&&◌, ◌||◌, not, Option, Some, refl, sym, ap, subst, ◌∙◌, inl, inr}
use Rattle.std.specs.Prelude.{filter, find, is_some, option_map}
use Rattle.std.specs.List.{AllByRecursion, IsDistinct, list_all, list_any}
use Rattle.std.proofs.lemmas.Bool.{and_from, and_parts, cases_Bool, eqb-true, eq-eqb, ltb-true}
use Rattle.attr_tuples.proofs.EqualityLemmas.{eqb_swap}
use Rattle.file_tree.specs.declared.tree.Node.TheVariants.{Rpc}
use Rattle.file_tree.specs.Calls.{is_open}
use Rattle.agent_history.specs.Deeds.{Deed, names}
use Rattle.agent_history.specs.Conversations.{Question, Speaker, conv_of, questions, speakers}
use Rattle.agent_history.specs.Histories.{History, deeds}
use Rattle.agent_laws.specs.Laws.{asks_server, is_same_place}
use Rattle.agent_laws.proofs.ConversationLaws.{openers_speak}
use Rattle.agent_laws.proofs.GrowLaws.{all_are_asked}
use Rattle.driven_agents.specs.Idle.{IsCalm}
use Rattle.driven_agents.proofs.FoundLemmas.{found_by, found_passes}

abbrev pub is_at : ℕ → Speaker → Bool
is_at fid s = eqb s.conn 0 && eqb s.fid fid

-- ---- fids

-- the fid is a tag
pub seat_small : (done : List Deed) (fid number : ℕ) → IsCalm done → conv_of done 0 fid ≡ Some number → fid < 65535
seat_small done fid number c is =
    let f = found_by (λ s. s.conv) (find (is_at fid) (speakers done)) number is in
    let passes = found_passes (λ s. ltb s.fid 65535) (is_at fid) (speakers done) f.which f.found c.small in
    let same = eqb-true f.which.fid fid (and_parts (eqb f.which.conn 0) (eqb f.which.fid fid) passes.1).1 in
    ltb-true fid 65535 (ap (λ n. ltb n 65535) (sym same) ∙ passes.0)

off_root : (b : Bool) (fid : ℕ) (h : History) → eqb fid 0 ≡ b → IsCalm (deeds h) → is_some (conv_of (deeds h) 0 fid) ≡ true → b ≡ false
off_root false fid h is c seated = refl
off_root true fid h is c seated =
    let root : is_some (conv_of (deeds h) 0 0) ≡ false = openers_speak h 0 0 ∙ ap (λ o. names Rpc o && is_open o) c.root in
    absurd (let no_way : true ≡ false = sym seated ∙ (ap (λ n. is_some (conv_of (deeds h) 0 n)) (eqb-true fid 0 is) ∙ root) in cc)

-- it isn't the one that names the root
pub seat_off : (h : History) (fid number : ℕ) → IsCalm (deeds h) → conv_of (deeds h) 0 fid ≡ Some number → eqb fid 0 ≡ false
seat_off h fid number c is = off_root (eqb fid 0) fid h refl c (ap is_some is)

-- ---- questions

-- whose conversation stands
abbrev pub has_seat : List Speaker → Question → Bool
has_seat ss q = list_any (λ s. eqb s.conv q.conv) ss

all_first : (p q : Question → Bool) (qs : List Question) → list_all (λ x. p x && q x) qs ≡ true → list_all p qs ≡ true
all_first p q [] all = refl
all_first p q (x ∷ qs) all =
    let parts = and_parts (p x && q x) (list_all (λ x. p x && q x) qs) all in
    and_from (p x) (list_all p qs) (and_parts (p x) (q x) parts.0).0 (all_first p q qs parts.1)

-- all of them do
pub all_seated : (h : History) → list_all (has_seat (speakers (deeds h))) (questions (deeds h)) ≡ true
all_seated h = all_first (has_seat (speakers (deeds h))) (λ q. asks_server (deeds h) q.conv) (questions (deeds h)) (all_are_asked h)

-- ---- one of them ends

abbrev pub stays : ℕ → Speaker → Bool
stays fid s = not (eqb s.conn 0 && eqb s.fid fid)

-- no other has its place
none_there : (fid : ℕ) (s : Speaker) (n : ℕ) (ss : List Speaker) → is_at fid s ≡ true → AllByRecursion (λ y. is_same_place s y ≡ false) ss → list_any (λ t. eqb t.conv n) ss ≡ true → list_any (λ t. eqb t.conv n) (filter (stays fid) ss) ≡ true
none_there fid s n [] here apart any = any
none_there fid s n (y ∷ ss) here apart any = elim (cases_Bool (is_at fid y)) [
  | inl at ↦ absurd (let no_way : true ≡ false = sym (same_place at) ∙ apart.0 in cc)
  | inr off ↦ subst (λ b. list_any (λ t. eqb t.conv n) (cond (not b) (y ∷ filter (stays fid) ss) (filter (stays fid) ss)) ≡ true) (sym off) (rest (eqb y.conv n) any (none_there fid s n ss here apart.1))
]
  where
    same_place : is_at fid y ≡ true → is_same_place s y ≡ true
    same_place at =
        let mine = and_parts (eqb s.conn 0) (eqb s.fid fid) here in
        let theirs = and_parts (eqb y.conn 0) (eqb y.fid fid) at in
        and_from (eqb s.conn y.conn) (eqb s.fid y.fid) (eq-eqb s.conn y.conn (eqb-true s.conn 0 mine.0 ∙ sym (eqb-true y.conn 0 theirs.0))) (eq-eqb s.fid y.fid (eqb-true s.fid fid mine.1 ∙ sym (eqb-true y.fid fid theirs.1)))

    rest : (b : Bool) → (b || list_any (λ t. eqb t.conv n) ss) ≡ true → (list_any (λ t. eqb t.conv n) ss ≡ true → list_any (λ t. eqb t.conv n) (filter (stays fid) ss) ≡ true) → (b || list_any (λ t. eqb t.conv n) (filter (stays fid) ss)) ≡ true
    rest true any more = refl
    rest false any more = more any

-- another conversation stands on
pub others_stand : (fid number n : ℕ) (ss : List Speaker) → IsDistinct is_same_place ss → option_map (λ s. s.conv) (find (is_at fid) ss) ≡ Some number → eqb n number ≡ false → list_any (λ t. eqb t.conv n) ss ≡ true → list_any (λ t. eqb t.conv n) (filter (stays fid) ss) ≡ true
unfolding IsDistinct
others_stand fid number n [] apart is other any = any
others_stand fid number n (s ∷ ss) apart is other any = elim (cases_Bool (is_at fid s)) [
  | inl at ↦ subst (λ b. list_any (λ t. eqb t.conv n) (cond (not b) (s ∷ filter (stays fid) ss) (filter (stays fid) ss)) ≡ true) (sym at) (none_there fid s n ss at apart.0 (tail_any (not_mine (subst (λ b. option_map (λ s. s.conv) (cond b (Some s) (find (is_at fid) ss)) ≡ Some number) at is)) any))
  | inr off ↦ subst (λ b. list_any (λ t. eqb t.conv n) (cond (not b) (s ∷ filter (stays fid) ss) (filter (stays fid) ss)) ≡ true) (sym off) (rest (eqb s.conv n) any (others_stand fid number n ss apart.1 (subst (λ b. option_map (λ s. s.conv) (cond b (Some s) (find (is_at fid) ss)) ≡ Some number) off is) other))
]
  where
    not_mine : ◌≡◌ {A = Option ℕ} (Some s.conv) (Some number) → eqb s.conv n ≡ false
    not_mine e = let same : s.conv ≡ number = cc in ap (λ m. eqb m n) same ∙ (eqb_swap number n ∙ other)

    tail_any : eqb s.conv n ≡ false → (eqb s.conv n || list_any (λ t. eqb t.conv n) ss) ≡ true → list_any (λ t. eqb t.conv n) ss ≡ true
    tail_any off any = ap (λ b. b || list_any (λ t. eqb t.conv n) ss) (sym off) ∙ any

    rest : (b : Bool) → (b || list_any (λ t. eqb t.conv n) ss) ≡ true → (list_any (λ t. eqb t.conv n) ss ≡ true → list_any (λ t. eqb t.conv n) (filter (stays fid) ss) ≡ true) → (b || list_any (λ t. eqb t.conv n) (filter (stays fid) ss)) ≡ true
    rest true any more = refl
    rest false any more = more any
