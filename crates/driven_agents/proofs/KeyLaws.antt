-- The keys of an agent are tuples that break no rule of keys.
use Rattle.std.proofs.Common.{◌≡◌, ℕ, List, [], ◌∷◌, ◌++◌, length, take, drop, codes, Bool, true, false, cond, not, leb, Option, Some, None, Result, Ok, Err, refl, sym, subst}
use Rattle.std.specs.List.{filter}
use Rattle.std.specs.Prelude.{option_map, if◌then◌else◌}
use Rattle.std.specs.Str.{bytes_eq}
use Rattle.std.proofs.lemmas.Option.{cond_some}
use Rattle.wire_base.specs.Rules.{Rule, first_told}
use Rattle.nine.specs.declared.message.TBody.{TBody}
use Rattle.nine.specs.declared.message.TBody.TheVariants as t
use Rattle.file_tree.specs.declared.tree.Node.{Node}
use Rattle.file_tree.specs.Tree.{lead_to}
use Rattle.file_tree.specs.Calls.{node_of}
use Rattle.attr_tuples.specs.declared.attr.Attr.{Attr}
use Rattle.attr_tuples.specs.declared.fault.TupleFault.{TupleFault}
use Rattle.attr_tuples.specs.Attributes.{is_tuple}
use Rattle.attr_tuples.specs.Equality.{public_equal}
use Rattle.attr_tuples.specs.Grammar.{tuple_of}
use Rattle.attr_tuples.specs.Matching.{matches}
use Rattle.attr_tuples.proofs.ToldLemmas.{reads_read}
use Rattle.key_lists.specs.declared.fault.AddFault.TheVariants.{Full}
use Rattle.key_lists.specs.KeyFaults.{key_fault, key_rules}
use Rattle.key_lists.specs.Lists.{KeyEntry, KeyList, add_fault, is_full, next_entry}
use Rattle.key_lists.specs.Edits.{Add, Delete}
use Rattle.key_lists.specs.CtlLines.{CtlLine, Debug, OnKeys, carried_out, few_of, keys_with, line_fault, line_over, line_with, most_attrs, read_line}
use Rattle.agent_history.specs.Deeds.{Deed, OfFids, OfKeys, OfReplies, OfConnection, OfTalk, Raised, HandedOut, OfPrompts, OfLog, DropTaken, Swept, Halted, fid_of, keys_of}
use Rattle.agent_history.specs.Histories.{History, deeds}
use Rattle.agent_history.specs.Requests.{line_deed, lines_done, walking}
use Rattle.agent_laws.proofs.MetLaws.{keys_of_line, line_is_right, lines_from}
use Rattle.driven_agents.specs.Keys.{AreKeys, IsKey, KeysAreKeys}
use Rattle.driven_agents.proofs.EditGrows.{KeepsLines, KeepsPlain, KeepsWalk, history_keeps, is_special}

-- ---- lists of keys

filtered : (test : KeyEntry → Bool) (keys : List KeyEntry) → AreKeys keys → AreKeys (filter test keys)
filtered test [] are = tt
filtered test (key ∷ keys) are = by_test (test key) (filter test keys) (are.0, filtered test keys are.1)
  where
    by_test : (b : Bool) (rest : List KeyEntry) → IsKey key.tuple × AreKeys rest → AreKeys (cond b (key ∷ rest) rest)
    by_test true rest both = both
    by_test false rest both = both.1

one_more : (keys : List KeyEntry) (key : KeyEntry) → AreKeys keys → IsKey key.tuple → AreKeys (keys ++ key ∷ [])
one_more [] key are is = (is, tt)
one_more (first ∷ keys) key are is = (are.0, one_more keys key are.1 is)

-- what a line edits that is so
abbrev IsEdit : CtlLine → Type 0
IsEdit (OnKeys (Add key)) = IsKey key
IsEdit (OnKeys (Delete template)) = Unit {0}
IsEdit Debug = Unit {0}

edited_keys : (said : CtlLine) (list : KeyList) → IsEdit said → AreKeys list.keys → AreKeys (keys_with said list).keys
edited_keys (OnKeys (Add key)) list is are = one_more _ (next_entry key list) (filtered (λ old. not (public_equal key old.tuple)) list.keys are) is
edited_keys (OnKeys (Delete template)) list is are = filtered (λ key. not (matches template key.tuple)) list.keys are
edited_keys Debug list is are = are

-- ---- a line that is carried out

by_rule : {Told : Type 0} (broken : Bool) (told : Told) (x y : Option Told) → (y ≡ None → x ≡ None) → cond broken (Some told) y ≡ None → cond broken (Some told) x ≡ None
by_rule true told x y more none = absurd cc
by_rule false told x y more none = more none

front_told : {Told : Type 0} (rules later : List (Rule Told)) → first_told (rules ++ later) ≡ None → first_told rules ≡ None
front_told [] later none = refl
front_told (rule ∷ rules) later none = by_rule rule.0 rule.1 (first_told rules) (first_told (rules ++ later)) (front_told rules later) none

unmapped : {A B : Type 0} (f : A → B) (o : Option A) → option_map f o ≡ None → o ≡ None
unmapped f None none = refl
unmapped f (Some x) none = absurd cc

rules_kept : (key : List Attr) (list : KeyList) → add_fault key list ≡ None → key_fault key ≡ None
unfolding add_fault key_fault
rules_kept key list none = front_told (key_rules key) ((is_full key list.keys, Full) ∷ []) none

abbrev few_by : Result (List Attr) TupleFault → Option (List Attr)
few_by r = elim r [ Ok t ↦ if leb (length t) most_attrs then Some t else None | Err fault ↦ None ]

few_tuple : (text : List ℕ) (t : List Attr) (r : Result (List Attr) TupleFault) → tuple_of text ≡ r → few_by r ≡ Some t → is_tuple t ≡ true
few_tuple text t (Err fault) is some = absurd cc
few_tuple text t (Ok u) is some = subst (λ x. is_tuple x ≡ true) (cond_some (leb (length u) most_attrs) u t some).1 (reads_read text u is).valid

-- a line that adds a key adds a tuple
abbrev IsAdded : Result CtlLine (List ℕ) → Type 0
IsAdded (Ok (OnKeys (Add key))) = is_tuple key ≡ true
IsAdded (Ok (OnKeys (Delete template))) = Unit {0}
IsAdded (Ok Debug) = Unit {0}
IsAdded (Err text) = Unit {0}

added_with : (text : List ℕ) (o : Option (List Attr)) → few_of text ≡ o → IsAdded (line_with Add o)
added_with text None is = tt
added_with text (Some t) is = few_tuple text t (tuple_of text) refl is

deleted_with : (o : Option (List Attr)) → IsAdded (line_with Delete o)
deleted_with None = tt
deleted_with (Some t) = tt

either : (b : Bool) (one other : Result CtlLine (List ℕ)) → IsAdded one → IsAdded other → IsAdded (cond b one other)
either true one other p q = p
either false one other p q = q

reads_added : (line : List ℕ) → IsAdded (read_line line)
unfolding read_line
reads_added line =
    let none : Result CtlLine (List ℕ) = Err (codes "unknown ctl verb") in
    let adds = few_of (drop 4 line) in
    let deletes = few_of (drop 7 line) in
    let third = cond (bytes_eq line (codes "debug")) (Ok Debug) none in
    let second = cond (bytes_eq (take 7 line) (codes "delkey ")) (line_with Delete deletes) third in
    either (bytes_eq (take 4 line) (codes "key ")) (line_with Add adds) second (added_with (drop 4 line) adds refl)
    (either (bytes_eq (take 7 line) (codes "delkey ")) (line_with Delete deletes) third (deleted_with deletes)
    (either (bytes_eq line (codes "debug")) (Ok Debug) none (tt {0}) (tt {0})))

-- what is said of a line that is read, where nothing is wrong with it
abbrev unless_wrong : CtlLine → Option (List ℕ) → Result CtlLine (List ℕ)
unless_wrong said fault = elim fault [ Some text ↦ Err text | None ↦ Ok said ]

abbrev said_over : KeyList → Result CtlLine (List ℕ) → Result CtlLine (List ℕ)
said_over keys r = elim r [ Err text ↦ Err text | Ok said ↦ unless_wrong said (line_fault keys said) ]

unless_added : (said : CtlLine) (fault : Option (List ℕ)) → IsAdded (Ok said) → IsAdded (unless_wrong said fault)
unless_added said None is = is
unless_added said (Some text) is = tt

over_added : (keys : KeyList) (r : Result CtlLine (List ℕ)) → IsAdded r → IsAdded (said_over keys r)
over_added keys (Err text) is = tt
over_added keys (Ok said) is = unless_added said (line_fault keys said) is

line_added : (keys : KeyList) (line : List ℕ) → IsAdded (line_over keys line)
unfolding line_over
line_added keys line = over_added keys (read_line line) (reads_added line)

said_edit : (keys : KeyList) (said : CtlLine) → IsAdded (Ok said) → line_fault keys said ≡ None → IsEdit said
said_edit keys (OnKeys (Add key)) is none = record { tuple = is; rules = rules_kept key keys (unmapped _ (add_fault key keys) none) }
said_edit keys (OnKeys (Delete template)) is none = tt
said_edit keys Debug is none = tt

-- ---- deeds

-- the keys are so, and were so before each deed
abbrev pub AllKeyed : List Deed → Type 0
AllKeyed [] = Unit {0}
AllKeyed (deed ∷ before) = AreKeys (keys_of before).keys × AllKeyed before

pub record AreKeyed (done : List Deed) : Type 0 where
  pub now : AreKeys (keys_of done).keys
  pub all : AllKeyed done

plain_keys : (done : List Deed) (deed : Deed) → is_special deed ≡ false → keys_of (deed ∷ done) ≡ keys_of done
plain_keys done (OfKeys at deed) e = absurd cc
plain_keys done (OfFids at deed) e = refl
plain_keys done (OfReplies at deed) e = refl
plain_keys done (OfConnection at deed) e = refl
plain_keys done (OfTalk conv call) e = refl
plain_keys done (Raised conv) e = refl
plain_keys done HandedOut e = refl
plain_keys done DropTaken e = refl
plain_keys done (OfPrompts about doing) e = refl
plain_keys done (OfLog doing) e = refl
plain_keys done Swept e = refl
plain_keys done Halted e = refl

plain_keyed : KeepsPlain AreKeyed
plain_keyed done deed plain p = record { now = subst (λ list. AreKeys list.keys) (sym (plain_keys done deed plain)) p.now; all = (p.now, p.all) }

line_keyed : (conn : ℕ) (said : CtlLine) (done : List Deed) → IsEdit said → AreKeyed done → AreKeyed (OfKeys conn (line_deed said) ∷ done)
line_keyed conn said done is p = record { now = subst (λ list. AreKeys list.keys) (sym (keys_of_line done conn said)) (edited_keys said (keys_of done) is p.now); all = (p.now, p.all) }

by_line : (conn : ℕ) (lines : List (List ℕ)) (done : List Deed) → AreKeyed done
    → ((said : CtlLine) → AreKeyed (OfKeys conn (line_deed said) ∷ done) → AreKeyed (lines_done conn (carried_out (keys_with said (keys_of done)) lines) (OfKeys conn (line_deed said) ∷ done)))
    → (r : Result CtlLine (List ℕ)) → ((said : CtlLine) → r ≡ Ok said → IsEdit said) → AreKeyed (lines_done conn (lines_from (keys_of done) lines r) done)
by_line conn lines done p more (Err text) edits = p
by_line conn lines done p more (Ok said) edits = more said (line_keyed conn said done (edits said refl) p)

lines_keyed : KeepsLines AreKeyed
lines_keyed conn [] done p = p
lines_keyed conn (line ∷ lines) done p =
    by_line conn lines done p
    (λ said q. subst (λ keys. AreKeyed (lines_done conn (carried_out keys lines) (OfKeys conn (line_deed said) ∷ done))) (keys_of_line done conn said) (lines_keyed conn lines (OfKeys conn (line_deed said) ∷ done) q))
    (line_over (keys_of done) line)
    (λ said is. said_edit (keys_of done) said (subst IsAdded is (line_added (keys_of done) line)) (line_is_right (keys_of done) line said is))

walking_keyed : (conn newfid : ℕ) (found : Option Node) (done : List Deed) → AreKeyed done → AreKeyed (walking conn newfid found done)
walking_keyed conn newfid None done p = p
walking_keyed conn newfid (Some node) done p = record { now = p.now; all = (p.now, p.all) }

walks_keyed : (body : TBody) → KeepsWalk AreKeyed body
walks_keyed (t.Walk fid newfid names) = λ done call p. walking_keyed call.conn newfid (lead_to (node_of (fid_of done call.conn fid)) names) done p
walks_keyed (t.Version msize version) = tt
walks_keyed (t.Auth afid uname aname) = tt
walks_keyed (t.Attach fid afid uname aname) = tt
walks_keyed (t.Flush oldtag) = tt
walks_keyed (t.Open fid mode) = tt
walks_keyed (t.Create fid name perm mode) = tt
walks_keyed (t.Read fid offset count) = tt
walks_keyed (t.Write fid offset content) = tt
walks_keyed (t.Clunk fid) = tt
walks_keyed (t.Remove fid) = tt
walks_keyed (t.Stat fid) = tt
walks_keyed (t.Wstat fid stat) = tt

pub all_keyed : (history : History) → AreKeyed (deeds history)
all_keyed history = history_keeps AreKeyed plain_keyed lines_keyed walks_keyed (record { now = tt; all = tt }) history

pub keys_are_keys : KeysAreKeys
keys_are_keys history = (all_keyed history).now
