-- A file that is open by one fid at a time: the fid that has it open is its holder, after every history.
use Rattle.std.proofs.Common.{◌≡◌, ℕ, List, [], ◌∷◌, Bool, true, false, cond, eqb, ◌&&◌, Option, Some, None, refl, sym, ap, ◌∙◌, inl, inr}
use Rattle.std.specs.Prelude.{is_some}
use Rattle.std.proofs.lemmas.Bool.{cases_Bool, eq-eqb, eqb-true, and_parts}
use Rattle.attr_tuples.proofs.EqualityLemmas.{eqb_swap}
use Rattle.file_tree.specs.declared.tree.Node.{Node}
use Rattle.file_tree.specs.declared.tree.FidState.{FidState}
use Rattle.file_tree.specs.Tree.{file, is_exclusive}
use Rattle.file_tree.specs.Calls.{is_open, node_of, at_rest, attached, opened}
use Rattle.file_tree.proofs.WalkLaws.{one_path}
use Rattle.agent_history.specs.Deeds.{Deed, OfFids, OfKeys, OfReplies, OfConnection, OfTalk, Raised, HandedOut, OfPrompts, OfLog, DropTaken, Swept, Halted, Versioned, Attached, Walked, Opened, Listed, Browsed, Clunked, Edited, Switched, Entered, Hung, fid_of, holder_of, names, without}
use Rattle.agent_history.specs.Histories.{History, deeds}
use Rattle.agent_laws.specs.Laws.{has_open}
use Rattle.agent_laws.proofs.KindLaws.{KeepsOf, is_done}
use Rattle.agent_laws.proofs.GrowLaws.{history_grows}

-- ---- small steps

-- a fid has the file open
abbrev pub Has : Node → Option FidState → Type 0
Has node o = (names node o && is_open o) ≡ true

pub named : (node : Node) (o : Option FidState) → Has node o → names node o ≡ true
named node o h = (and_parts (names node o) (is_open o) h).0

opens : (node : Node) (o : Option FidState) → Has node o → is_open o ≡ true
opens node o h = (and_parts (names node o) (is_open o) h).1

has : (node : Node) (o : Option FidState) → names node o ≡ true → is_open o ≡ true → Has node o
has node o n p = rw (n, p) refl

-- a fid that was given up has nothing open, and neither has one that came to a file
not_given_up : (b : Bool) (node : Node) (o : Option FidState) → Has node (cond b None o) → (b ≡ false) × Has node o
not_given_up true node o h = absurd cc
not_given_up false node o h = (refl, h)

not_at_rest : (b : Bool) (node at : Node) (o : Option FidState) → Has node (cond b (Some (at_rest at)) o) → (b ≡ false) × Has node o
not_at_rest true node at o h = let p = opens node (Some (at_rest at)) h in absurd cc
not_at_rest false node at o h = (refl, h)

names_opened : (node : Node) (mode : ℕ) (o : Option FidState) → names node (opened mode o) ≡ names node o
names_opened node mode None = refl
names_opened node mode (Some state) = refl

is_opened : (mode : ℕ) (o : Option FidState) → is_some o ≡ true → is_open (opened mode o) ≡ true
is_opened mode None s = absurd cc
is_opened mode (Some state) s = refl

pub names_it : (node : Node) (o : Option FidState) → names node o ≡ true → node_of o ≡ node
names_it node None n = absurd cc
names_it node (Some state) n = one_path state.node node (eqb-true (file state.node).path (file node).path n)

-- where two pairs of numbers differ one way, they differ the other way
swapped : (a b c d : ℕ) → (eqb a b && eqb c d) ≡ false → (eqb b a && eqb d c) ≡ false
swapped a b c d e = rw (eqb_swap b a, eqb_swap d c) e

both_same : (a b c d : ℕ) → (eqb a b && eqb c d) ≡ true → (a ≡ b) × (c ≡ d)
both_same a b c d e = let parts = and_parts (eqb a b) (eqb c d) e in (eqb-true a b parts.0, eqb-true c d parts.1)

one_holder : (x y : ℕ × ℕ) → Some x ≡ Some y → (x.0 ≡ y.0) × (x.1 ≡ y.1)
one_holder x y e = let same : x ≡ y = cc in (ap (λ (p : ℕ × ℕ). p.0) same, ap (λ (p : ℕ × ℕ). p.1) same)

-- a holder who isn't meant stays, and one that stayed was there
stays : (leaves : ℕ × ℕ → Bool) (h : Option (ℕ × ℕ)) (x : ℕ × ℕ) → h ≡ Some x → leaves x ≡ false → without leaves h ≡ Some x
stays leaves h x e off = rw (e, off) refl

stayed : (leaves : ℕ × ℕ → Bool) (h : Option (ℕ × ℕ)) (x : ℕ × ℕ) → without leaves h ≡ Some x → (h ≡ Some x) × (leaves x ≡ false)
stayed leaves None x e = absurd cc
stayed leaves (Some y) x e = there (leaves y) refl e
  where
    there : (b : Bool) → leaves y ≡ b → cond b None (Some y) ≡ Some x → (Some y ≡ Some x) × (leaves x ≡ false)
    there true l e = absurd cc
    there false l e = let same : y ≡ x = cc in (e, ap leaves (sym same) ∙ l)

-- ---- who has an exclusive file open holds it

abbrev pub Holder : List Deed → Type 0
Holder done = (node : Node) → is_exclusive node ≡ true → (conn fid : ℕ) → has_open done node conn fid ≡ true → holder_of done node ≡ Some (conn, fid)

-- the file is opened by this fid
opened_holds : (b n : Bool) (node : Node) (at f conn fid mode : ℕ) (mine theirs : Option FidState) (before : Option (ℕ × ℕ)) → (b ≡ true → (at ≡ conn) × (f ≡ fid)) → (b ≡ true → theirs ≡ mine)
    → names node theirs ≡ n → (Has node mine → before ≡ Some (conn, fid)) → (n ≡ true → before ≡ None)
    → Has node (cond b (opened mode mine) mine) → cond n (Some (at, f)) before ≡ Some (conn, fid)
opened_holds true true node at f conn fid mode mine theirs before is same n held free h = rw ((is refl).0, (is refl).1) refl
opened_holds true false node at f conn fid mode mine theirs before is same n held free h =
    let yes_named : names node theirs ≡ true = ap (names node) (same refl) ∙ sym (names_opened node mode mine) ∙ named node (opened mode mine) h in
    absurd (let no_way : true ≡ false = sym yes_named ∙ n in cc)
opened_holds false true node at f conn fid mode mine theirs before is same n held free h =
    absurd (let no_way : Some (conn, fid) ≡ None = sym (held h) ∙ free refl in cc)
opened_holds false false node at f conn fid mode mine theirs before is same n held free h = held h

-- no other one has it
is_free : (node : Node) (o : Option FidState) (done : List Deed) → is_exclusive node ≡ true → (is_exclusive (node_of o) && is_some (holder_of done (node_of o))) ≡ false → names node o ≡ true → holder_of done node ≡ None
is_free node o done x fits n =
    let same = names_it node o n in
    nobody (holder_of done node) (ap (λ (b : Bool). b && is_some (holder_of done node)) (sym x) ∙ ap (λ (m : Node). is_exclusive m && is_some (holder_of done m)) (sym same) ∙ fits)
  where
    nobody : (h : Option (ℕ × ℕ)) → is_some h ≡ false → h ≡ None
    nobody None e = refl
    nobody (Some x) e = absurd cc

holder_more : (conn : ℕ) → KeepsOf (is_done conn) Holder
holder_more c done (OfFids at (Versioned msize)) own fits h node x conn fid p =
    let parts = not_given_up (eqb at conn) node (fid_of done conn fid) p in
    stays (λ holder. eqb holder.0 at) (holder_of done node) (conn, fid) (h node x conn fid parts.1) (eqb_swap conn at ∙ parts.0)
holder_more c done (OfConnection at Hung) own fits h node x conn fid p =
    let parts = not_given_up (eqb at conn) node (fid_of done conn fid) p in
    stays (λ holder. eqb holder.0 at) (holder_of done node) (conn, fid) (h node x conn fid parts.1) (eqb_swap conn at ∙ parts.0)
holder_more c done (OfFids at (Clunked f)) own fits h node x conn fid p =
    let parts = not_given_up (eqb at conn && eqb f fid) node (fid_of done conn fid) p in
    stays (λ holder. eqb holder.0 at && eqb holder.1 f) (holder_of done node) (conn, fid) (h node x conn fid parts.1) (swapped at conn f fid parts.0)
holder_more c done (OfFids at (Attached f)) own fits h node x conn fid p = h node x conn fid (not_at_rest (eqb at conn && eqb f fid) node _ (fid_of done conn fid) p).1
holder_more c done (OfFids at (Walked f to)) own fits h node x conn fid p = h node x conn fid (not_at_rest (eqb at conn && eqb f fid) node to (fid_of done conn fid) p).1
holder_more c done (OfFids at (Opened f mode)) own fits h node x conn fid p =
    opened_holds (eqb at conn && eqb f fid) (names node (fid_of done at f)) node at f conn fid mode (fid_of done conn fid) (fid_of done at f) (holder_of done node)
    (λ e. both_same at conn f fid e) (λ e. let is = both_same at conn f fid e in ap (λ (n : ℕ). fid_of done n f) is.0 ∙ ap (fid_of done conn) is.1)
    refl (h node x conn fid) (is_free node (fid_of done at f) done x fits.free) p
holder_more c done (OfFids at (Listed f)) own fits h node x conn fid p = h node x conn fid p
holder_more c done (OfFids at (Browsed f next)) own fits h node x conn fid p = h node x conn fid p
holder_more c done (OfKeys at (Edited edit)) own fits h node x conn fid p = h node x conn fid p
holder_more c done (OfKeys at Switched) own fits h node x conn fid p = h node x conn fid p
holder_more c done (OfReplies at deed) own fits h node x conn fid p = h node x conn fid p
holder_more c done (OfConnection at Entered) own fits h node x conn fid p = h node x conn fid p
holder_more c done (OfTalk conv call) own fits h node x conn fid p = h node x conn fid p
holder_more c done (Raised conv) own fits h node x conn fid p = h node x conn fid p
holder_more c done HandedOut own fits h node x conn fid p = h node x conn fid p
holder_more c done DropTaken own fits h node x conn fid p = h node x conn fid p
holder_more c done (OfPrompts about doing) own fits h node x conn fid p = h node x conn fid p
holder_more c done (OfLog doing) own fits h node x conn fid p = h node x conn fid p
holder_more c done Swept own fits h node x conn fid p = h node x conn fid p
holder_more c done Halted own fits h node x conn fid p = absurd cc

none_holds : Holder []
none_holds node x conn fid p = absurd cc

pub opener_holds : (H : History) → Holder (deeds H)
opener_holds = history_grows Holder holder_more none_holds

pub two_open_are_one : (H : History) (node : Node) (conn fid other another : ℕ) → is_exclusive node ≡ true → has_open (deeds H) node conn fid ≡ true → has_open (deeds H) node other another ≡ true → (conn ≡ other) × (fid ≡ another)
two_open_are_one H node conn fid other another x one two =
    one_holder (conn, fid) (other, another) (sym (opener_holds H node x conn fid one) ∙ opener_holds H node x other another two)

-- ---- and who holds a file has it open

abbrev pub Opener : List Deed → Type 0
Opener done = (node : Node) (conn fid : ℕ) → holder_of done node ≡ Some (conn, fid) → has_open done node conn fid ≡ true

pub still_has : (b : Bool) (node : Node) (new o : Option FidState) → b ≡ false → Has node o → Has node (cond b new o)
still_has true node new o off h = absurd cc
still_has false node new o off h = h

-- a fid that rests isn't the one
pub another_rests : (done : List Deed) (node : Node) (at f conn fid : ℕ) → is_open (fid_of done at f) ≡ false → Has node (fid_of done conn fid) → (eqb at conn && eqb f fid) ≡ false
another_rests done node at f conn fid rests h = elim (cases_Bool (eqb at conn && eqb f fid)) [
  | inl on ↦
      (let is = both_same at conn f fid on in
      let same : fid_of done at f ≡ fid_of done conn fid = ap (λ (n : ℕ). fid_of done n f) is.0 ∙ ap (fid_of done conn) is.1 in
      absurd (let no_way : true ≡ false = sym (opens node (fid_of done conn fid) h) ∙ ap is_open (sym same) ∙ rests in cc))
  | inr off ↦ off
]

opener_opened : (n : Bool) (done : List Deed) (node : Node) (at f conn fid mode : ℕ) → names node (fid_of done at f) ≡ n → is_some (fid_of done at f) ≡ true → is_open (fid_of done at f) ≡ false
    → (holder_of done node ≡ Some (conn, fid) → Has node (fid_of done conn fid)) → cond n (Some (at, f)) (holder_of done node) ≡ Some (conn, fid) → Has node (fid_of (OfFids at (Opened f mode) ∷ done) conn fid)
opener_opened true done node at f conn fid mode n held rests h e =
    let is = one_holder (at, f) (conn, fid) e in
    let one : at ≡ conn = is.0 in
    let two : f ≡ fid = is.1 in
    let same : fid_of done at f ≡ fid_of done conn fid = ap (λ (m : ℕ). fid_of done m f) one ∙ ap (fid_of done conn) two in
    rw (eq-eqb at conn one, eq-eqb f fid two)
    (has node (opened mode (fid_of done conn fid)) (names_opened node mode (fid_of done conn fid) ∙ ap (names node) (sym same) ∙ n) (is_opened mode (fid_of done conn fid) (ap is_some (sym same) ∙ held)))
opener_opened false done node at f conn fid mode n held rests h e =
    still_has (eqb at conn && eqb f fid) node (opened mode (fid_of done conn fid)) (fid_of done conn fid) (another_rests done node at f conn fid rests (h e)) (h e)

pub opener_more : (conn : ℕ) → KeepsOf (is_done conn) Opener
opener_more c done (OfFids at (Versioned msize)) own fits h node conn fid e =
    let was = stayed (λ holder. eqb holder.0 at) (holder_of done node) (conn, fid) e in
    still_has (eqb at conn) node None (fid_of done conn fid) (eqb_swap at conn ∙ was.1) (h node conn fid was.0)
opener_more c done (OfConnection at Hung) own fits h node conn fid e =
    let was = stayed (λ holder. eqb holder.0 at) (holder_of done node) (conn, fid) e in
    still_has (eqb at conn) node None (fid_of done conn fid) (eqb_swap at conn ∙ was.1) (h node conn fid was.0)
opener_more c done (OfFids at (Clunked f)) own fits h node conn fid e =
    let was = stayed (λ holder. eqb holder.0 at && eqb holder.1 f) (holder_of done node) (conn, fid) e in
    still_has (eqb at conn && eqb f fid) node None (fid_of done conn fid) (swapped conn at fid f was.1) (h node conn fid was.0)
opener_more c done (OfFids at (Attached f)) own fits h node conn fid e =
    still_has (eqb at conn && eqb f fid) node attached (fid_of done conn fid) (another_rests done node at f conn fid fits (h node conn fid e)) (h node conn fid e)
opener_more c done (OfFids at (Walked f to)) own fits h node conn fid e =
    still_has (eqb at conn && eqb f fid) node (Some (at_rest to)) (fid_of done conn fid) (another_rests done node at f conn fid fits (h node conn fid e)) (h node conn fid e)
opener_more c done (OfFids at (Opened f mode)) own fits h node conn fid e = opener_opened (names node (fid_of done at f)) done node at f conn fid mode refl fits.named fits.rests (h node conn fid) e
opener_more c done (OfFids at (Listed f)) own fits h node conn fid e = h node conn fid e
opener_more c done (OfFids at (Browsed f next)) own fits h node conn fid e = h node conn fid e
opener_more c done (OfKeys at (Edited edit)) own fits h node conn fid e = h node conn fid e
opener_more c done (OfKeys at Switched) own fits h node conn fid e = h node conn fid e
opener_more c done (OfReplies at deed) own fits h node conn fid e = h node conn fid e
opener_more c done (OfConnection at Entered) own fits h node conn fid e = h node conn fid e
opener_more c done (OfTalk conv call) own fits h node conn fid e = h node conn fid e
opener_more c done (Raised conv) own fits h node conn fid e = h node conn fid e
opener_more c done HandedOut own fits h node conn fid e = h node conn fid e
opener_more c done DropTaken own fits h node conn fid e = h node conn fid e
opener_more c done (OfPrompts about doing) own fits h node conn fid e = h node conn fid e
opener_more c done (OfLog doing) own fits h node conn fid e = h node conn fid e
opener_more c done Swept own fits h node conn fid e = h node conn fid e
opener_more c done Halted own fits h node conn fid e = absurd cc

pub none_opened : Opener []
none_opened node conn fid e = absurd cc

pub holder_opens : (H : History) → Opener (deeds H)
holder_opens = history_grows Opener opener_more none_opened
