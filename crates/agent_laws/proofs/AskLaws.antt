-- Lists of conversations and of questions: who is found in them, and what stays when some are left out.
use Rattle.std.proofs.Common.{◌≡◌, ℕ, List, [], ◌∷◌, ◌++◌, Bool, true, false, cond, eqb, ◌&&◌, ◌||◌, not, Some, refl, sym, ap, ◌∙◌}
use Rattle.std.specs.Prelude.{option_map, find}
use Rattle.std.specs.List.{list_all, list_any, filter}
use Rattle.std.proofs.lemmas.Bool.{eq-eqb, eqb-true, and_parts, and_from}
use Rattle.agent_history.specs.Deeds.{Deed}
use Rattle.agent_history.specs.Conversations.{Question, Speaker, asker, conv_of, hand_first, questions, speakers, stands}
use Rattle.agent_laws.specs.Laws.{all_asked, asks_server}

-- ---- small steps

pub or_more : (b c : Bool) → c ≡ true → (b || c) ≡ true
or_more true c e = refl
or_more false c e = e

pub all_append : {X : Type 0} (p : X → Bool) (xs : List X) (x : X) → list_all p xs ≡ true → p x ≡ true → list_all p (xs ++ x ∷ []) ≡ true
all_append p [] x h e = and_from (p x) true e refl
all_append p (y ∷ xs) x h e = let parts = and_parts (p y) (list_all p xs) h in and_from (p y) (list_all p (xs ++ x ∷ [])) parts.0 (all_append p xs x parts.1 e)

pub all_weaker : {X : Type 0} (p q : X → Bool) (xs : List X) → ((x : X) → p x ≡ true → q x ≡ true) → list_all p xs ≡ true → list_all q xs ≡ true
all_weaker p q [] f h = refl
all_weaker p q (x ∷ xs) f h = let parts = and_parts (p x) (list_all p xs) h in and_from (q x) (list_all q xs) (f x parts.0) (all_weaker p q xs f parts.1)

-- of a filtered list each passes both
kept_step : {X : Type 0} (p keep : X → Bool) (x : X) (xs : List X) (b : Bool) → keep x ≡ b → p x ≡ true → list_all (λ y. p y && keep y) (filter keep xs) ≡ true → list_all (λ y. p y && keep y) (cond b (x ∷ filter keep xs) (filter keep xs)) ≡ true
kept_step p keep x xs true e h more = and_from (p x && keep x) _ (and_from (p x) (keep x) h e) more
kept_step p keep x xs false e h more = more

pub all_kept : {X : Type 0} (p keep : X → Bool) (xs : List X) → list_all p xs ≡ true → list_all (λ x. p x && keep x) (filter keep xs) ≡ true
all_kept p keep [] h = refl
all_kept p keep (x ∷ xs) h = let parts = and_parts (p x) (list_all p xs) h in kept_step p keep x xs (keep x) refl parts.0 (all_kept p keep xs parts.1)

-- ---- who is found

found_step : (p : Speaker → Bool) (s : Speaker) (xs : List Speaker) (conv : ℕ) (b : Bool) → option_map (λ t. t.conv) (cond b (Some s) (find p xs)) ≡ Some conv
    → (option_map (λ t. t.conv) (find p xs) ≡ Some conv → list_any (λ t. eqb t.conv conv) xs ≡ true) → (eqb s.conv conv || list_any (λ t. eqb t.conv conv) xs) ≡ true
found_step p s xs conv true e more = let same : s.conv ≡ conv = cc in rw (eq-eqb s.conv conv same) refl
found_step p s xs conv false e more = or_more (eqb s.conv conv) _ (more e)

found_speaks : (p : Speaker → Bool) (xs : List Speaker) (conv : ℕ) → option_map (λ t. t.conv) (find p xs) ≡ Some conv → list_any (λ t. eqb t.conv conv) xs ≡ true
found_speaks p [] conv e = absurd cc
found_speaks p (s ∷ xs) conv e = found_step p s xs conv (p s) e (found_speaks p xs conv)

-- the conversation that a fid has open stands
pub open_stands : (done : List Deed) (conn fid conv : ℕ) → conv_of done conn fid ≡ Some conv → stands done conv ≡ true
open_stands done conn fid conv e = found_speaks (λ s. eqb s.conn conn && eqb s.fid fid) (speakers done) conv e

asker_step : (test : ℕ → Bool) (p : Question → Bool) (q : Question) (qs : List Question) (conv : ℕ) (b : Bool) → option_map (λ x. x.conv) (cond b (Some q) (find p qs)) ≡ Some conv
    → (option_map (λ x. x.conv) (find p qs) ≡ Some conv → list_all (λ x. test x.conv) qs ≡ true → test conv ≡ true) → (test q.conv && list_all (λ x. test x.conv) qs) ≡ true → test conv ≡ true
asker_step test p q qs conv true e more h = let same : q.conv ≡ conv = cc in ap test (sym same) ∙ (and_parts (test q.conv) (list_all (λ x. test x.conv) qs) h).0
asker_step test p q qs conv false e more h = more e (and_parts (test q.conv) (list_all (λ x. test x.conv) qs) h).1

found_asks : (test : ℕ → Bool) (p : Question → Bool) (qs : List Question) (conv : ℕ) → option_map (λ x. x.conv) (find p qs) ≡ Some conv → list_all (λ x. test x.conv) qs ≡ true → test conv ≡ true
found_asks test p [] conv e h = absurd cc
found_asks test p (q ∷ qs) conv e h = asker_step test p q qs conv (p q) e (found_asks test p qs conv) h

-- the conversation of a question that stands is such a one
pub asker_is_asked : (done : List Deed) (call conv : ℕ) → asker done call ≡ Some conv → all_asked done ≡ true → (stands done conv && asks_server done conv) ≡ true
asker_is_asked done call conv e h = found_asks (λ n. stands done n && asks_server done n) (λ q. eqb q.call call) (questions done) conv e h

-- a conversation that doesn't wait for the server has no question
none_step : (done : List Deed) (q : Question) (conv : ℕ) (b : Bool) → eqb q.conv conv ≡ b → asks_server done q.conv ≡ true → asks_server done conv ≡ false → b ≡ false
none_step done q conv true e h off = absurd (let no_way : true ≡ false = sym h ∙ ap (asks_server done) (eqb-true q.conv conv e) ∙ off in cc)
none_step done q conv false e h off = refl

none_asks : (done : List Deed) (qs : List Question) (conv : ℕ) → list_all (λ q. stands done q.conv && asks_server done q.conv) qs ≡ true → asks_server done conv ≡ false → list_any (λ q. eqb q.conv conv) qs ≡ false
none_asks done [] conv h off = refl
none_asks done (q ∷ qs) conv h off =
    let parts = and_parts (stands done q.conv && asks_server done q.conv) (list_all (λ x. stands done x.conv && asks_server done x.conv) qs) h in
    let asks = (and_parts (stands done q.conv) (asks_server done q.conv) parts.0).1 in
    rw (none_step done q conv (eqb q.conv conv) refl asks off) (none_asks done qs conv parts.1 off)

pub no_question : (done : List Deed) (conv : ℕ) → all_asked done ≡ true → asks_server done conv ≡ false → list_any (λ q. eqb q.conv conv) (questions done) ≡ false
no_question done conv h off = none_asks done (questions done) conv h off

-- nor has one that had its answer
gone_step : (q : Question) (conv : ℕ) (qs : List Question) (b : Bool) → eqb q.conv conv ≡ b → list_any (λ x. eqb x.conv conv) qs ≡ false → list_any (λ x. eqb x.conv conv) (cond (not b) (q ∷ qs) qs) ≡ false
gone_step q conv qs true e h = h
gone_step q conv qs false e h = rw e h

pub none_left : (qs : List Question) (conv : ℕ) → list_any (λ q. eqb q.conv conv) (filter (λ q. not (eqb q.conv conv)) qs) ≡ false
none_left [] conv = refl
none_left (q ∷ qs) conv = gone_step q conv (filter (λ x. not (eqb x.conv conv)) qs) (eqb q.conv conv) refl (none_left qs conv)

-- handing one out changes no conversation of a question
hand_step : (test : ℕ → Bool) (q : Question) (qs : List Question) (b : Bool) → (test q.conv && list_all (λ x. test x.conv) qs) ≡ true → (list_all (λ x. test x.conv) qs ≡ true → list_all (λ x. test x.conv) (hand_first qs) ≡ true)
    → list_all (λ x. test x.conv) (cond b (q ∷ hand_first qs) (record { call = q.call; conv = q.conv; handed = true } ∷ qs)) ≡ true
hand_step test q qs true h more = let parts = and_parts (test q.conv) (list_all (λ x. test x.conv) qs) h in and_from (test q.conv) _ parts.0 (more parts.1)
hand_step test q qs false h more = h

pub handed_asks : (test : ℕ → Bool) (qs : List Question) → list_all (λ q. test q.conv) qs ≡ true → list_all (λ q. test q.conv) (hand_first qs) ≡ true
handed_asks test [] h = refl
handed_asks test (q ∷ qs) h = hand_step test q qs q.handed h (handed_asks test qs)
