-- Conversations stand while their fids have rpc open; their numbers and those of questions rise; and a search is over the
-- keys of its moment.
use Rattle.std.proofs.Common.{◌≡◌, ℕ, ◌+◌, ◌≤◌, List, [], ◌∷◌, ◌++◌, length, map, Bool, true, false, cond, eqb, ltb, ◌&&◌, ◌||◌, not, Option, Some, None, refl, sym, ap, subst, ◌∙◌, inl, inr, arith}
use Rattle.std.specs.Prelude.{find, is_some, option_map}
use Rattle.std.specs.List.{filter, list_all, list_any, AllByRecursion, IsDistinct}
use Rattle.std.proofs.lemmas.Bool.{cases_Bool, and_from, and_parts, eqb-true, eq-eqb, ltb-true, lt-ltb, or_left, or_parts}
use Rattle.attr_tuples.proofs.EqualityLemmas.{eqb_swap}
use Rattle.file_tree.specs.declared.tree.Node.{Node}
use Rattle.file_tree.specs.declared.tree.Node.TheVariants.{Root, Factotum, Rpc, Ctl, Confirm, Needkey, Proto, Log}
use Rattle.file_tree.specs.declared.tree.FidState.{FidState}
use Rattle.file_tree.specs.Tree.{file}
use Rattle.file_tree.specs.Calls.{at_rest, is_open, node_of, opened}
use Rattle.talks.specs.Calls as calls
use Rattle.agent_history.specs.Deeds.{Deed, FidDeed, KeyDeed, OfFids, OfKeys, OfReplies, OfConnection, OfTalk, Raised, HandedOut, OfPrompts, OfLog, DropTaken, Swept, Halted, Versioned, Attached, Walked, Opened, Listed, Browsed, Clunked, Entered, Hung, fid_of, names}
use Rattle.agent_history.specs.Conversations.{Question, Speaker, chosen_at, conv_of, hand_first, opened_talks, questions, raised, speakers}
use Rattle.agent_history.specs.Requests.{is_rpc, most_talks}
use Rattle.agent_history.specs.Histories.{History, deeds}
use Rattle.agent_laws.specs.Laws.{AllSearched, has_open, rise_below, is_same_place}
use Rattle.agent_laws.proofs.KindLaws.{KeepsOf, is_done, Fits}
use Rattle.agent_laws.proofs.GrowLaws.{history_grows}

-- ---- small steps

pub any_append : {X : Type 0} (p : X → Bool) (xs : List X) (x : X) → list_any p (xs ++ x ∷ []) ≡ (list_any p xs || p x)
any_append p [] x = last (p x)
  where
    last : (b : Bool) → (b || false) ≡ b
    last true = refl
    last false = refl
any_append p (y ∷ xs) x = ap (λ (b : Bool). p y || b) (any_append p xs x) ∙ sym (or_or (p y) (list_any p xs) (p x))
  where
    or_or : (a b c : Bool) → ((a || b) || c) ≡ (a || (b || c))
    or_or true b c = refl
    or_or false b c = refl

-- where none of a kind is kept
none_step : {X : Type 0} (p : X → Bool) (x : X) (kept : List X) (a k : Bool) → p x ≡ a → (a ≡ true → k ≡ false) → list_any p kept ≡ false → list_any p (cond k (x ∷ kept) kept) ≡ false
none_step p x kept a false e h more = more
none_step p x kept true true e h more = absurd (let no_way : true ≡ false = h refl in cc)
none_step p x kept false true e h more = rw e more

any_none : {X : Type 0} (p q : X → Bool) (xs : List X) → ((x : X) → p x ≡ true → q x ≡ false) → list_any p (filter q xs) ≡ false
any_none p q [] h = refl
any_none p q (x ∷ xs) h = none_step p x (filter q xs) (p x) (q x) refl (h x) (any_none p q xs h)

-- where all of a kind are kept
kept_step : {X : Type 0} (p : X → Bool) (x : X) (kept : List X) (rest a k : Bool) → p x ≡ a → (a ≡ true → k ≡ true) → list_any p kept ≡ rest → list_any p (cond k (x ∷ kept) kept) ≡ (a || rest)
kept_step p x kept rest true true e h more = rw e refl
kept_step p x kept rest false true e h more = rw e more
kept_step p x kept rest true false e h more = absurd (let no_way : false ≡ true = h refl in cc)
kept_step p x kept rest false false e h more = more

pub any_kept : {X : Type 0} (p q : X → Bool) (xs : List X) → ((x : X) → p x ≡ true → q x ≡ true) → list_any p (filter q xs) ≡ list_any p xs
any_kept p q [] h = refl
any_kept p q (x ∷ xs) h = kept_step p x (filter q xs) (list_any p xs) (p x) (q x) refl (h x) (any_kept p q xs h)

pub both_same : (a b c d : ℕ) → (eqb a b && eqb c d) ≡ true → (a ≡ b) × (c ≡ d)
both_same a b c d e = let parts = and_parts (eqb a b) (eqb c d) e in (eqb-true a b parts.0, eqb-true c d parts.1)

-- ---- each fid that has rpc open has a conversation, and no other has

abbrev pub is_at : ℕ → ℕ → Speaker → Bool
is_at conn fid s = eqb s.conn conn && eqb s.fid fid

abbrev pub speaks_at : List Deed → ℕ → ℕ → Bool
speaks_at done conn fid = list_any (is_at conn fid) (speakers done)

abbrev pub on_rpc : Option FidState → Bool
on_rpc o = names Rpc o && is_open o

abbrev pub OpenersSpeak : List Deed → Type 0
OpenersSpeak done = (conn fid : ℕ) → speaks_at done conn fid ≡ on_rpc (fid_of done conn fid)

-- those of a connection, or of a fid of it, that leave
leave_conn : (b : Bool) (at conn fid : ℕ) (xs : List Speaker) (o : Option FidState) → eqb at conn ≡ b → list_any (is_at conn fid) xs ≡ on_rpc o
    → list_any (is_at conn fid) (filter (λ s. not (eqb s.conn at)) xs) ≡ on_rpc (cond b None o)
leave_conn true at conn fid xs o e h =
    any_none (is_at conn fid) (λ s. not (eqb s.conn at)) xs (λ s here. ap not (eq-eqb s.conn at ((both_same s.conn conn s.fid fid here).0 ∙ sym (eqb-true at conn e))))
leave_conn false at conn fid xs o e h =
    any_kept (is_at conn fid) (λ s. not (eqb s.conn at)) xs (λ s here. ap not (ap (λ (n : ℕ). eqb n at) (both_same s.conn conn s.fid fid here).0 ∙ eqb_swap conn at ∙ e)) ∙ h

swapped : (a b c d : ℕ) (x : Bool) → (eqb a b && eqb c d) ≡ x → (eqb b a && eqb d c) ≡ x
swapped a b c d x e = rw (eqb_swap b a, eqb_swap d c) e

leave_fid : (b : Bool) (at f conn fid : ℕ) (xs : List Speaker) (o : Option FidState) → (eqb at conn && eqb f fid) ≡ b → list_any (is_at conn fid) xs ≡ on_rpc o
    → list_any (is_at conn fid) (filter (λ s. not (eqb s.conn at && eqb s.fid f)) xs) ≡ on_rpc (cond b None o)
leave_fid true at f conn fid xs o e h =
    any_none (is_at conn fid) (λ s. not (eqb s.conn at && eqb s.fid f)) xs
    (λ s here. let is = both_same s.conn conn s.fid fid here in ap not (ap (λ (n : ℕ). eqb n at && eqb s.fid f) is.0 ∙ ap (λ (n : ℕ). eqb conn at && eqb n f) is.1 ∙ swapped at conn f fid true e))
leave_fid false at f conn fid xs o e h =
    any_kept (is_at conn fid) (λ s. not (eqb s.conn at && eqb s.fid f)) xs
    (λ s here. let is = both_same s.conn conn s.fid fid here in ap not (ap (λ (n : ℕ). eqb n at && eqb s.fid f) is.0 ∙ ap (λ (n : ℕ). eqb conn at && eqb n f) is.1 ∙ swapped at conn f fid false e)) ∙ h

-- a fid that rested comes to a file, or is opened
names_opened : (mode : ℕ) (o : Option FidState) → is_some o ≡ true → on_rpc (opened mode o) ≡ names Rpc o
names_opened mode None e = absurd cc
names_opened mode (Some state) e = and_true (names Rpc (Some state))
  where
    and_true : (b : Bool) → (b && true) ≡ b
    and_true true = refl
    and_true false = refl

closed : (o : Option FidState) → is_open o ≡ false → on_rpc o ≡ false
closed o e = rw e (and_false (names Rpc o))
  where
    and_false : (b : Bool) → (b && false) ≡ false
    and_false true = refl
    and_false false = refl

comes_to_rest : (b : Bool) (to : Node) (theirs mine : Option FidState) (any : Bool) → (b ≡ true → theirs ≡ mine) → is_open theirs ≡ false → any ≡ on_rpc mine → any ≡ on_rpc (cond b (Some (at_rest to)) mine)
comes_to_rest true to theirs mine any same rests h = h ∙ closed mine (ap is_open (sym (same refl)) ∙ rests) ∙ sym (closed (Some (at_rest to)) refl)
comes_to_rest false to theirs mine any same rests h = h

-- what a fid names, by its number
same_fid : (done : List Deed) (at f conn fid : ℕ) → (eqb at conn && eqb f fid) ≡ true → fid_of done at f ≡ fid_of done conn fid
same_fid done at f conn fid e = let is = both_same at conn f fid e in ap (λ (n : ℕ). fid_of done n f) is.0 ∙ ap (fid_of done conn) is.1

opens_rpc : (r b : Bool) (mode : ℕ) (theirs mine : Option FidState) (xs : List Speaker) (s : Speaker) (conn fid : ℕ) → names Rpc theirs ≡ r → is_at conn fid s ≡ b → (b ≡ true → theirs ≡ mine) → is_some theirs ≡ true → is_open theirs ≡ false
    → list_any (is_at conn fid) xs ≡ on_rpc mine → list_any (is_at conn fid) (cond r (xs ++ s ∷ []) xs) ≡ on_rpc (cond b (opened mode mine) mine)
opens_rpc true true mode theirs mine xs s conn fid n e same named rests h =
    any_append (is_at conn fid) xs s ∙ ap (λ (c : Bool). list_any (is_at conn fid) xs || c) e ∙ or_true (list_any (is_at conn fid) xs)
    ∙ sym (names_opened mode mine (ap is_some (sym (same refl)) ∙ named) ∙ ap (names Rpc) (sym (same refl)) ∙ n)
  where
    or_true : (b : Bool) → (b || true) ≡ true
    or_true true = refl
    or_true false = refl
opens_rpc true false mode theirs mine xs s conn fid n e same named rests h =
    any_append (is_at conn fid) xs s ∙ ap (λ (c : Bool). list_any (is_at conn fid) xs || c) e ∙ or_false (list_any (is_at conn fid) xs) ∙ h
  where
    or_false : (b : Bool) → (b || false) ≡ b
    or_false true = refl
    or_false false = refl
opens_rpc false true mode theirs mine xs s conn fid n e same named rests h =
    h ∙ closed mine (ap is_open (sym (same refl)) ∙ rests) ∙ sym (names_opened mode mine (ap is_some (sym (same refl)) ∙ named) ∙ ap (names Rpc) (sym (same refl)) ∙ n)
opens_rpc false false mode theirs mine xs s conn fid n e same named rests h = h

pub openers_more : (conn : ℕ) → KeepsOf (is_done conn) OpenersSpeak
openers_more c done (OfFids at (Versioned msize)) kind fits h = λ conn fid. leave_conn (eqb at conn) at conn fid (speakers done) (fid_of done conn fid) refl (h conn fid)
openers_more c done (OfConnection at Hung) kind fits h = λ conn fid. leave_conn (eqb at conn) at conn fid (speakers done) (fid_of done conn fid) refl (h conn fid)
openers_more c done (OfFids at (Clunked f)) kind fits h = λ conn fid. leave_fid (eqb at conn && eqb f fid) at f conn fid (speakers done) (fid_of done conn fid) refl (h conn fid)
openers_more c done (OfFids at (Attached f)) kind fits h = λ conn fid. comes_to_rest (eqb at conn && eqb f fid) Root (fid_of done at f) (fid_of done conn fid) (speaks_at done conn fid) (same_fid done at f conn fid) fits (h conn fid)
openers_more c done (OfFids at (Walked f to)) kind fits h = λ conn fid. comes_to_rest (eqb at conn && eqb f fid) to (fid_of done at f) (fid_of done conn fid) (speaks_at done conn fid) (same_fid done at f conn fid) fits (h conn fid)
openers_more c done (OfFids at (Opened f mode)) kind fits h = λ conn fid.
    opens_rpc (names Rpc (fid_of done at f)) (eqb at conn && eqb f fid) mode (fid_of done at f) (fid_of done conn fid) (speakers done) (record { conv = opened_talks done; conn = at; fid = f }) conn fid
    refl refl (same_fid done at f conn fid) fits.named fits.rests (h conn fid)
openers_more c done (OfFids at (Listed f)) kind fits h = h
openers_more c done (OfFids at (Browsed f next)) kind fits h = h
openers_more c done (OfKeys at deed) kind fits h = h
openers_more c done (OfReplies at deed) kind fits h = h
openers_more c done (OfConnection at Entered) kind fits h = h
openers_more c done (OfTalk conv call) kind fits h = h
openers_more c done (Raised conv) kind fits h = h
openers_more c done HandedOut kind fits h = h
openers_more c done DropTaken kind fits h = h
openers_more c done (OfPrompts about doing) kind fits h = h
openers_more c done (OfLog doing) kind fits h = h
openers_more c done Swept kind fits h = h
openers_more c done Halted kind fits h = λ conn fid. refl

pub found_any : (p : Speaker → Bool) (xs : List Speaker) → is_some (option_map (λ s. s.conv) (find p xs)) ≡ list_any p xs
found_any p [] = refl
found_any p (s ∷ xs) = step (p s) (found_any p xs)
  where
    step : (b : Bool) → is_some (option_map (λ x. x.conv) (find p xs)) ≡ list_any p xs → is_some (option_map (λ x. x.conv) (cond b (Some s) (find p xs))) ≡ (b || list_any p xs)
    step true more = refl
    step false more = more

pub or_behind : (x y : Bool) → y ≡ true → (x || y) ≡ true
or_behind true y e = refl
or_behind false y e = e

-- the conversation of a number, and who has it open, stands among the others
speaks_step : (conv conn fid : ℕ) (s v : Speaker) (xs : List Speaker) (b : Bool) → s.conn ≡ conn → s.fid ≡ fid → cond b (Some v) (find (λ x. eqb x.conv conv) xs) ≡ Some s
    → (find (λ x. eqb x.conv conv) xs ≡ Some s → list_any (is_at conn fid) xs ≡ true) → list_any (is_at conn fid) (v ∷ xs) ≡ true
speaks_step conv conn fid s v xs true at_conn at_fid e more =
    let same : v ≡ s = cc in
    or_left (is_at conn fid v) (list_any (is_at conn fid) xs) (and_from (eqb v.conn conn) (eqb v.fid fid) (eq-eqb v.conn conn (ap (λ (x : Speaker). x.conn) same ∙ at_conn)) (eq-eqb v.fid fid (ap (λ (x : Speaker). x.fid) same ∙ at_fid)))
speaks_step conv conn fid s v xs false at_conn at_fid e more = or_behind (is_at conn fid v) (list_any (is_at conn fid) xs) (more e)

pub speaks_there : (conv conn fid : ℕ) (s : Speaker) (xs : List Speaker) → s.conn ≡ conn → s.fid ≡ fid → find (λ x. eqb x.conv conv) xs ≡ Some s → list_any (is_at conn fid) xs ≡ true
speaks_there conv conn fid s [] at_conn at_fid e = absurd cc
speaks_there conv conn fid s (v ∷ xs) at_conn at_fid e = speaks_step conv conn fid s v xs (eqb v.conv conv) at_conn at_fid e (speaks_there conv conn fid s xs at_conn at_fid)

pub openers_speak : (H : History) (conn fid : ℕ) → is_some (conv_of (deeds H) conn fid) ≡ has_open (deeds H) Rpc conn fid
openers_speak H conn fid = found_any (is_at conn fid) (speakers (deeds H)) ∙ history_grows OpenersSpeak openers_more (λ c f. refl) H conn fid

-- ---- one each

apart_kept : {X : Type 0} (e : X → X → Bool) (keep : X → Bool) (x : X) (xs : List X) → AllByRecursion (λ y. e x y ≡ false) xs → AllByRecursion (λ y. e x y ≡ false) (filter keep xs)
apart_kept e keep x [] h = tt
apart_kept e keep x (y ∷ xs) h = elim (cases_Bool (keep y)) [
  | inl on ↦ rw on (h.0, apart_kept e keep x xs h.1)
  | inr off ↦ rw off (apart_kept e keep x xs h.1)
]

apart_append : {X : Type 0} (e : X → X → Bool) (x : X) (xs : List X) (y : X) → AllByRecursion (λ z. e x z ≡ false) xs → e x y ≡ false → AllByRecursion (λ z. e x z ≡ false) (xs ++ y ∷ [])
apart_append e x [] y h off = (off, tt)
apart_append e x (z ∷ xs) y h off = (h.0, apart_append e x xs y h.1 off)

distinct_kept : {X : Type 0} (e : X → X → Bool) (keep : X → Bool) (xs : List X) → IsDistinct e xs → IsDistinct e (filter keep xs)
unfolding IsDistinct
distinct_kept e keep [] h = h
distinct_kept e keep (x ∷ xs) h = elim (cases_Bool (keep x)) [
  | inl on ↦ rw on (apart_kept e keep x xs h.0, distinct_kept e keep xs h.1)
  | inr off ↦ rw off (distinct_kept e keep xs h.1)
]

distinct_append : {X : Type 0} (e : X → X → Bool) (xs : List X) (x : X) → IsDistinct e xs → list_any (λ y. e y x) xs ≡ false → IsDistinct e (xs ++ x ∷ [])
unfolding IsDistinct
distinct_append e [] x h off = (tt, tt)
distinct_append e (y ∷ xs) x h off =
    let parts = or_parts (e y x) (list_any (λ z. e z x) xs) off in
    (apart_append e y xs x h.0 parts.0, distinct_append e xs x h.1 parts.1)

abbrev Once : List Deed → Type 0
Once done = IsDistinct is_same_place (speakers done)

abbrev SpeakOnce : List Deed → Type 0
SpeakOnce done = OpenersSpeak done × Once done

opens_once : (r : Bool) (xs : List Speaker) (s : Speaker) → IsDistinct is_same_place xs → list_any (is_at s.conn s.fid) xs ≡ false → IsDistinct is_same_place (cond r (xs ++ s ∷ []) xs)
opens_once true xs s h off = distinct_append is_same_place xs s h off
opens_once false xs s h off = h

once_more : (conn : ℕ) (done : List Deed) (deed : Deed) → is_done conn deed ≡ true → Fits done deed → SpeakOnce done → Once (deed ∷ done)
unfolding IsDistinct
once_more c done (OfFids at (Versioned msize)) kind fits h = distinct_kept is_same_place (λ s. not (eqb s.conn at)) (speakers done) h.1
once_more c done (OfConnection at Hung) kind fits h = distinct_kept is_same_place (λ s. not (eqb s.conn at)) (speakers done) h.1
once_more c done (OfFids at (Clunked f)) kind fits h = distinct_kept is_same_place (λ s. not (eqb s.conn at && eqb s.fid f)) (speakers done) h.1
once_more c done (OfFids at (Opened f mode)) kind fits h =
    opens_once (names Rpc (fid_of done at f)) (speakers done) (record { conv = opened_talks done; conn = at; fid = f }) h.1 (h.0 at f ∙ closed (fid_of done at f) fits.rests)
once_more c done (OfFids at (Attached f)) kind fits h = h.1
once_more c done (OfFids at (Walked f to)) kind fits h = h.1
once_more c done (OfFids at (Listed f)) kind fits h = h.1
once_more c done (OfFids at (Browsed f next)) kind fits h = h.1
once_more c done (OfKeys at deed) kind fits h = h.1
once_more c done (OfReplies at deed) kind fits h = h.1
once_more c done (OfConnection at Entered) kind fits h = h.1
once_more c done (OfTalk conv call) kind fits h = h.1
once_more c done (Raised conv) kind fits h = h.1
once_more c done HandedOut kind fits h = h.1
once_more c done DropTaken kind fits h = h.1
once_more c done (OfPrompts about doing) kind fits h = h.1
once_more c done (OfLog doing) kind fits h = h.1
once_more c done Swept kind fits h = h.1
once_more c done Halted kind fits h = tt

speak_once_more : (conn : ℕ) → KeepsOf (is_done conn) SpeakOnce
speak_once_more c done deed kind fits h = (openers_more c done deed kind fits h.0, once_more c done deed kind fits h)

none_yet : Once []
unfolding IsDistinct
none_yet = tt

pub speak_once : (H : History) → IsDistinct is_same_place (speakers (deeds H))
speak_once H = (history_grows SpeakOnce speak_once_more (λ c f. refl, none_yet) H).1

-- ---- they are few

filter_fewer : {X : Type 0} (p : X → Bool) (xs : List X) → length (filter p xs) ≤ length xs
filter_fewer p [] = omega arith
filter_fewer p (x ∷ xs) = elim (cases_Bool (p x)) [
  | inl e ↦ rw e (omega (arith, filter_fewer p xs))
  | inr e ↦ rw e (omega (arith, filter_fewer p xs))
]

one_longer : {X : Type 0} (xs : List X) (x : X) → length (xs ++ x ∷ []) ≡ length xs + 1
one_longer [] x = refl
one_longer (y ∷ xs) x = omega (arith, one_longer xs x)

abbrev FewSpeak : List Deed → Type 0
FewSpeak done = length (speakers done) ≤ 1024

rpc_named : (node : Node) → eqb (file node).path (file Rpc).path ≡ true → is_rpc node ≡ true
rpc_named Rpc e = refl
rpc_named Root e = absurd cc
rpc_named Factotum e = absurd cc
rpc_named Ctl e = absurd cc
rpc_named Confirm e = absurd cc
rpc_named Needkey e = absurd cc
rpc_named Proto e = absurd cc
rpc_named Log e = absurd cc

pub rpc_there : (o : Option FidState) → names Rpc o ≡ true → is_rpc (node_of o) ≡ true
rpc_there None e = absurd cc
rpc_there (Some state) e = rpc_named state.node e

has_room : (rpc less : Bool) → rpc ≡ true → (rpc && not less) ≡ false → less ≡ true
has_room true true e f = refl
has_room true false e f = absurd cc
has_room false less e f = absurd cc

one_more_speaks : (r : Bool) (o : Option FidState) (xs : List Speaker) (s : Speaker) → names Rpc o ≡ r → (is_rpc (node_of o) && not (ltb (length xs) most_talks)) ≡ false → length xs ≤ 1024 → length (cond r (xs ++ s ∷ []) xs) ≤ 1024
one_more_speaks true o xs s e room h = omega (arith, one_longer xs s, ltb-true (length xs) 1024 (has_room (is_rpc (node_of o)) (ltb (length xs) most_talks) (rpc_there o e) room))
one_more_speaks false o xs s e room h = h

few_more : (conn : ℕ) → KeepsOf (is_done conn) FewSpeak
few_more c done (OfFids at (Versioned msize)) kind fits h = omega (arith, h, filter_fewer (λ s. not (eqb s.conn at)) (speakers done))
few_more c done (OfConnection at Hung) kind fits h = omega (arith, h, filter_fewer (λ s. not (eqb s.conn at)) (speakers done))
few_more c done (OfFids at (Clunked f)) kind fits h = omega (arith, h, filter_fewer (λ s. not (eqb s.conn at && eqb s.fid f)) (speakers done))
few_more c done (OfFids at (Opened f mode)) kind fits h = one_more_speaks (names Rpc (fid_of done at f)) (fid_of done at f) (speakers done) (record { conv = opened_talks done; conn = at; fid = f }) refl fits.room h
few_more c done (OfFids at (Attached f)) kind fits h = h
few_more c done (OfFids at (Walked f to)) kind fits h = h
few_more c done (OfFids at (Listed f)) kind fits h = h
few_more c done (OfFids at (Browsed f next)) kind fits h = h
few_more c done (OfKeys at deed) kind fits h = h
few_more c done (OfReplies at deed) kind fits h = h
few_more c done (OfConnection at Entered) kind fits h = h
few_more c done (OfTalk conv call) kind fits h = h
few_more c done (Raised conv) kind fits h = h
few_more c done HandedOut kind fits h = h
few_more c done DropTaken kind fits h = h
few_more c done (OfPrompts about doing) kind fits h = h
few_more c done (OfLog doing) kind fits h = h
few_more c done Swept kind fits h = h
few_more c done Halted kind fits h = omega arith

pub few_speak : (H : History) → length (speakers (deeds H)) ≤ most_talks
few_speak H = history_grows FewSpeak few_more (omega arith) H

-- ---- numbers rise

list_all_kept : {X : Type 0} (f : X → ℕ) (p : ℕ → Bool) (keep : X → Bool) (xs : List X) → list_all p (map f xs) ≡ true → list_all p (map f (filter keep xs)) ≡ true
list_all_kept f p keep [] h = refl
list_all_kept f p keep (x ∷ xs) h =
    let parts = and_parts (p (f x)) (list_all p (map f xs)) h in
    step (keep x) parts.0 (list_all_kept f p keep xs parts.1)
  where
    step : (b : Bool) → p (f x) ≡ true → list_all p (map f (filter keep xs)) ≡ true → list_all p (map f (cond b (x ∷ filter keep xs) (filter keep xs))) ≡ true
    step true e more = and_from (p (f x)) _ e more
    step false e more = more

abbrev pub Rise : ℕ → List ℕ → Type 0
Rise top ns = rise_below top ns ≡ true

-- its parts
pub record Rises (top n : ℕ) (ns : List ℕ) : Type 0 where
  pub below : ltb n top ≡ true
  pub above : list_all (ltb n) ns ≡ true
  pub rest : Rise top ns

pub rise_parts : (top n : ℕ) (ns : List ℕ) → Rise top (n ∷ ns) → Rises top n ns
rise_parts top n ns h = by_cases (ltb n top) (list_all (ltb n) ns) (rise_below top ns) refl refl refl h
  where
    by_cases : (a b c : Bool) → ltb n top ≡ a → list_all (ltb n) ns ≡ b → rise_below top ns ≡ c → (a && b && c) ≡ true → Rises top n ns
    by_cases true true true e f g h = record { below = e; above = f; rest = g }
    by_cases true true false e f g h = absurd cc
    by_cases true false c e f g h = absurd cc
    by_cases false b c e f g h = absurd cc

pub rise_from : (top n : ℕ) (ns : List ℕ) → Rises top n ns → Rise top (n ∷ ns)
rise_from top n ns r = rw (r.below, r.above, r.rest) refl

pub rise_kept : {X : Type 0} (f : X → ℕ) (top : ℕ) (keep : X → Bool) (xs : List X) → Rise top (map f xs) → Rise top (map f (filter keep xs))
rise_kept f top keep [] h = refl
rise_kept f top keep (x ∷ xs) h =
    let parts = rise_parts top (f x) (map f xs) h in
    step (keep x) parts (rise_kept f top keep xs parts.rest)
  where
    step : (b : Bool) → Rises top (f x) (map f xs) → Rise top (map f (filter keep xs)) → Rise top (map f (cond b (x ∷ filter keep xs) (filter keep xs)))
    step true parts more = rise_from top (f x) (map f (filter keep xs)) (record { below = parts.below; above = list_all_kept f (ltb (f x)) keep xs parts.above; rest = more })
    step false parts more = more

above_append : {X : Type 0} (f : X → ℕ) (n : ℕ) (xs : List X) (x : X) → list_all (ltb n) (map f xs) ≡ true → ltb n (f x) ≡ true → list_all (ltb n) (map f (xs ++ x ∷ [])) ≡ true
above_append f n [] x h e = rw e refl
above_append f n (y ∷ xs) x h e = let parts = and_parts (ltb n (f y)) (list_all (ltb n) (map f xs)) h in and_from (ltb n (f y)) _ parts.0 (above_append f n xs x parts.1 e)

-- the next number at the end
pub rise_append : {X : Type 0} (f : X → ℕ) (top : ℕ) (xs : List X) (x : X) → f x ≡ top → Rise top (map f xs) → Rise (top + 1) (map f (xs ++ x ∷ []))
rise_append f top [] x e h = rise_from (top + 1) (f x) [] (record { below = lt-ltb (f x) (top + 1) (omega (arith, e)); above = refl; rest = refl })
rise_append f top (y ∷ xs) x e h =
    let parts = rise_parts top (f y) (map f xs) h in
    let lower = ltb-true (f y) top parts.below in
    rise_from (top + 1) (f y) (map f (xs ++ x ∷ [])) (record { below = lt-ltb (f y) (top + 1) (omega (arith, lower)); above = above_append f (f y) xs x parts.above (lt-ltb (f y) (f x) (omega (arith, lower, e))); rest = rise_append f top xs x e parts.rest })

abbrev pub number : Speaker → ℕ
number s = s.conv

abbrev pub SpeakersRise : List Deed → Type 0
SpeakersRise done = Rise (opened_talks done) (map number (speakers done))

next_speaks : (r : Bool) (top : ℕ) (xs : List Speaker) (s : Speaker) → s.conv ≡ top → Rise top (map number xs) → Rise (cond r (top + 1) top) (map number (cond r (xs ++ s ∷ []) xs))
next_speaks true top xs s e h = rise_append number top xs s e h
next_speaks false top xs s e h = h

pub speakers_more : (conn : ℕ) → KeepsOf (is_done conn) SpeakersRise
speakers_more c done (OfFids at (Versioned msize)) kind fits h = rise_kept number (opened_talks done) (λ s. not (eqb s.conn at)) (speakers done) h
speakers_more c done (OfConnection at Hung) kind fits h = rise_kept number (opened_talks done) (λ s. not (eqb s.conn at)) (speakers done) h
speakers_more c done (OfFids at (Clunked f)) kind fits h = rise_kept number (opened_talks done) (λ s. not (eqb s.conn at && eqb s.fid f)) (speakers done) h
speakers_more c done (OfFids at (Opened f mode)) kind fits h = next_speaks (names Rpc (fid_of done at f)) (opened_talks done) (speakers done) (record { conv = opened_talks done; conn = at; fid = f }) refl h
speakers_more c done (OfFids at (Attached f)) kind fits h = h
speakers_more c done (OfFids at (Walked f to)) kind fits h = h
speakers_more c done (OfFids at (Listed f)) kind fits h = h
speakers_more c done (OfFids at (Browsed f next)) kind fits h = h
speakers_more c done (OfKeys at deed) kind fits h = h
speakers_more c done (OfReplies at deed) kind fits h = h
speakers_more c done (OfConnection at Entered) kind fits h = h
speakers_more c done (OfTalk conv call) kind fits h = h
speakers_more c done (Raised conv) kind fits h = h
speakers_more c done HandedOut kind fits h = h
speakers_more c done DropTaken kind fits h = h
speakers_more c done (OfPrompts about doing) kind fits h = h
speakers_more c done (OfLog doing) kind fits h = h
speakers_more c done Swept kind fits h = h
speakers_more c done Halted kind fits h = refl

pub speakers_rise : (H : History) → rise_below (opened_talks (deeds H)) (map number (speakers (deeds H))) ≡ true
speakers_rise H = history_grows SpeakersRise speakers_more refl H

-- ---- and so do those of questions

abbrev call_of : Question → ℕ
call_of q = q.call

abbrev QuestionsRise : List Deed → Type 0
QuestionsRise done = Rise (raised done + 1) (map call_of (questions done))

handed_same : (qs : List Question) → map call_of (hand_first qs) ≡ map call_of qs
handed_same [] = refl
handed_same (q ∷ qs) = step q.handed (handed_same qs)
  where
    step : (b : Bool) → map call_of (hand_first qs) ≡ map call_of qs → map call_of (cond b (q ∷ hand_first qs) (record { call = q.call; conv = q.conv; handed = true } ∷ qs)) ≡ q.call ∷ map call_of qs
    step true more = ap (λ (ns : List ℕ). q.call ∷ ns) more
    step false more = refl

left_rise : (done : List Deed) (keep : Question → Bool) → QuestionsRise done → Rise (raised done + 1) (map call_of (filter keep (questions done)))
left_rise done keep h = rise_kept call_of (raised done + 1) keep (questions done) h

met_rise : (done : List Deed) (conv : ℕ) (call : calls.Call) → QuestionsRise done → QuestionsRise (OfTalk conv call ∷ done)
met_rise done conv (calls.Heard bytes) h = left_rise done (λ q. not (eqb q.conv conv)) h
met_rise done conv calls.Unheard h = left_rise done (λ q. not (eqb q.conv conv)) h
met_rise done conv calls.Roomless h = left_rise done (λ q. not (eqb q.conv conv)) h
met_rise done conv (calls.Stored request) h = h
met_rise done conv (calls.CarriedOut word) h = h
met_rise done conv (calls.Sought found) h = h
met_rise done conv (calls.Consented agrees) h = h
met_rise done conv calls.KeyTold h = h
met_rise done conv calls.Shut h = h
met_rise done conv calls.Took h = h

fids_rise : (done : List Deed) (at : ℕ) (deed : FidDeed) → QuestionsRise done → QuestionsRise (OfFids at deed ∷ done)
fids_rise done at deed h = left_rise done (λ q. list_any (λ s. eqb s.conv q.conv) (speakers (OfFids at deed ∷ done))) h

questions_more : (conn : ℕ) → KeepsOf (is_done conn) QuestionsRise
questions_more c done (OfFids at deed) kind fits h = fids_rise done at deed h
questions_more c done (OfConnection at deed) kind fits h = left_rise done (λ q. list_any (λ s. eqb s.conv q.conv) (speakers (OfConnection at deed ∷ done))) h
questions_more c done (OfKeys at deed) kind fits h = h
questions_more c done (OfReplies at deed) kind fits h = h
questions_more c done (OfTalk conv call) kind fits h = met_rise done conv call h
questions_more c done (Raised conv) kind fits h = rise_append call_of (raised done + 1) (questions done) (record { call = raised done + 1; conv = conv; handed = false }) refl h
questions_more c done HandedOut kind fits h = subst (Rise (raised done + 1)) (sym (handed_same (questions done))) h
questions_more c done DropTaken kind fits h = h
questions_more c done (OfPrompts about doing) kind fits h = h
questions_more c done (OfLog doing) kind fits h = h
questions_more c done Swept kind fits h = h
questions_more c done Halted kind fits h = refl

pub questions_rise : (H : History) → rise_below (raised (deeds H) + 1) (map call_of (questions (deeds H))) ≡ true
questions_rise H = history_grows QuestionsRise questions_more refl H

-- ---- searches

searched_more : (conn : ℕ) → KeepsOf (is_done conn) AllSearched
searched_more c done (OfTalk conv (calls.Sought found)) kind fits h = (fits, h)
searched_more c done (OfTalk conv (calls.Heard bytes)) kind fits h = h
searched_more c done (OfTalk conv calls.Unheard) kind fits h = h
searched_more c done (OfTalk conv calls.Roomless) kind fits h = h
searched_more c done (OfTalk conv (calls.Stored request)) kind fits h = h
searched_more c done (OfTalk conv (calls.CarriedOut word)) kind fits h = h
searched_more c done (OfTalk conv (calls.Consented agrees)) kind fits h = h
searched_more c done (OfTalk conv calls.KeyTold) kind fits h = h
searched_more c done (OfTalk conv calls.Shut) kind fits h = h
searched_more c done (OfTalk conv calls.Took) kind fits h = h
searched_more c done (OfFids at deed) kind fits h = h
searched_more c done (OfKeys at deed) kind fits h = h
searched_more c done (OfReplies at deed) kind fits h = h
searched_more c done (OfConnection at deed) kind fits h = h
searched_more c done (Raised conv) kind fits h = h
searched_more c done HandedOut kind fits h = h
searched_more c done DropTaken kind fits h = h
searched_more c done (OfPrompts about doing) kind fits h = h
searched_more c done (OfLog doing) kind fits h = h
searched_more c done Swept kind fits h = h
searched_more c done Halted kind fits h = h

pub all_searched : (H : History) → AllSearched (deeds H)
all_searched H = history_grows AllSearched searched_more tt H

pub chosen_stays : (done : List Deed) (at conn fid : ℕ) (deed : KeyDeed) → chosen_at (OfKeys at deed ∷ done) conn fid ≡ chosen_at done conn fid
chosen_stays done at conn fid deed = refl
