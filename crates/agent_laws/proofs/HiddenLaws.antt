-- What is asked of keys stays when their secrets are hidden: what a template that tells no secret matches, what is
-- the same in public, what adding and deleting make of a list, why a line isn't carried out, and what is shown.
use Rattle.std.proofs.Common.{◌≡◌, ℕ, suc, ◌+◌, List, [], ◌∷◌, ◌++◌, length, map, Bool, true, false, cond, eqb, leb, ◌&&◌, ◌||◌, not, refl, sym, ap, ◌∙◌, inl, inr}
use Rattle.std.specs.Prelude.{option_map}
use Rattle.std.specs.List.{filter, list_any, list_all}
use Rattle.std.specs.Str.{bytes_eq}
use Rattle.std.proofs.lemmas.Bool.{cases_Bool, or_parts}
use Rattle.std.proofs.lemmas.List.{map-append}
use Rattle.std.proofs.lemmas.Slice.Eq.{bytes_eq-Decides}
use Rattle.attr_tuples.specs.declared.attr.Attr.{Attr}
use Rattle.attr_tuples.specs.declared.attr.Value.{Value}
use Rattle.attr_tuples.specs.declared.attr.Value.TheVariants.{Is, Ask, Bare}
use Rattle.attr_tuples.specs.Attributes.{is_secret, is_named, is_given}
use Rattle.attr_tuples.specs.Equality.{public_equal, same_attr}
use Rattle.attr_tuples.specs.Matching.{has_name, has_null, is_null, meets, matches}
use Rattle.attr_tuples.specs.Printing.{hidden}
use Rattle.attr_tuples.proofs.EqualityLemmas.{public_equal_left, public_equal_right}
use Rattle.key_lists.specs.declared.fault.AddFault.TheVariants.{Full}
use Rattle.key_lists.specs.declared.fault.DeleteFault.TheVariants.{SecretValue, NoneMatched}
use Rattle.wire_base.specs.Rules.{first_told}
use Rattle.attr_tuples.specs.Giving.{is_any}
use Rattle.key_lists.specs.KeyFaults.{key_rules}
use Rattle.key_lists.specs.Lists.{KeyEntry, KeyList, most_keys, is_full, add_fault, next_entry, added, tells_secret, matching, delete_fault, deleted}
use Rattle.key_lists.specs.Edits.{Add, Delete}
use Rattle.key_lists.specs.Listing.{list_text}
use Rattle.key_lists.proofs.ShowLaws.{list_text_alike}
use Rattle.key_lists.specs.CtlLines.{CtlLine, OnKeys, Debug, line_fault, add_text, delete_text}

-- ---- attributes

hidden_again : (a : Attr) → hidden (hidden a) ≡ hidden a
hidden_again a = elim (cases_Bool (is_secret a.name)) [
  | inl secret ↦ rw secret (rw secret refl)
  | inr shown ↦ rw shown (rw shown refl)
]

pub key_hidden_again : (key : List Attr) → map hidden (map hidden key) ≡ map hidden key
key_hidden_again [] = refl
key_hidden_again (a ∷ key) = ap (λ (b : Attr). b ∷ map hidden (map hidden key)) (hidden_again a) ∙ ap (λ (attrs : List Attr). hidden a ∷ attrs) (key_hidden_again key)

-- a public name is no secret one
apart : (x y : List ℕ) → is_secret x ≡ false → is_secret y ≡ true → bytes_eq x y ≡ false
apart x y shown secret = elim (cases_Bool (bytes_eq x y)) [
  | inl same ↦ absurd (let no_way : true ≡ false = sym secret ∙ ap is_secret (sym ((bytes_eq-Decides x y).0 same)) ∙ shown in cc)
  | inr other ↦ other
]

pub apart_too : (x y : List ℕ) → is_secret x ≡ true → is_secret y ≡ false → bytes_eq x y ≡ false
apart_too x y secret shown = elim (cases_Bool (bytes_eq x y)) [
  | inl same ↦ absurd (let no_way : true ≡ false = sym secret ∙ ap is_secret ((bytes_eq-Decides x y).0 same) ∙ shown in cc)
  | inr other ↦ other
]

same_attr_hidden : (a b : Attr) → is_secret a.name ≡ false → same_attr a (hidden b) ≡ same_attr a b
same_attr_hidden a b shown = elim (cases_Bool (is_secret b.name)) [
  | inl secret ↦ rw secret (rw (apart a.name b.name shown secret) refl)
  | inr too ↦ rw too refl
]

pub named_hidden : (name : List ℕ) (b : Attr) → is_named name (hidden b) ≡ is_named name b
named_hidden name b = elim (cases_Bool (is_secret b.name)) [
  | inl secret ↦ rw secret refl
  | inr shown ↦ rw shown refl
]

null_hidden : (name : List ℕ) (b : Attr) → is_secret name ≡ false → (is_named name (hidden b) && is_null (hidden b).value) ≡ (is_named name b && is_null b.value)
null_hidden name b shown = elim (cases_Bool (is_secret b.name)) [
  | inl secret ↦ rw secret (rw (apart_too b.name name secret shown) refl)
  | inr too ↦ rw too refl
]

-- ---- what a template matches

pub any_hidden : (p q : Attr → Bool) → ((b : Attr) → p (hidden b) ≡ q b) → (key : List Attr) → list_any p (map hidden key) ≡ list_any q key
any_hidden p q h [] = refl
any_hidden p q h (b ∷ key) = ap (λ (x : Bool). x || list_any p (map hidden key)) (h b) ∙ ap (λ (x : Bool). q b || x) (any_hidden p q h key)

and_true : (b : Bool) → (b && true) ≡ false → b ≡ false
and_true true e = absurd cc
and_true false e = refl

meets_hidden : (key : List Attr) (name : List ℕ) (value : Value) → (is_secret name && is_given is_any value) ≡ false → meets (map hidden key) name value ≡ meets key name value
meets_hidden key name (Is text) open_ = let a : Attr = record { name = name; value = Is text } in any_hidden (same_attr a) (same_attr a) (λ b. same_attr_hidden a b (and_true (is_secret name) open_)) key
meets_hidden key name Ask open_ = any_hidden (is_named name) (is_named name) (named_hidden name) key
meets_hidden key name Bare open_ = elim (cases_Bool (is_secret name)) [
  | inl secret ↦ rw secret (any_hidden (is_named name) (is_named name) (named_hidden name) key)
  | inr shown ↦ rw shown (any_hidden (λ b. is_named name b && is_null b.value) (λ b. is_named name b && is_null b.value) (λ b. null_hidden name b shown) key)
]

pub matches_hidden : (template key : List Attr) → list_any tells_secret template ≡ false → matches template (map hidden key) ≡ matches template key
unfolding matches
matches_hidden [] key e = refl
matches_hidden (a ∷ template) key e =
    let parts = or_parts (tells_secret a) (list_any tells_secret template) e in
    ap (λ (x : Bool). x && list_all (λ b. meets (map hidden key) b.name b.value) template) (meets_hidden key a.name a.value parts.0)
    ∙ ap (λ (x : Bool). meets key a.name a.value && x) (matches_hidden template key parts.1)

equal_hidden : (key old : List Attr) → public_equal (map hidden key) (map hidden old) ≡ public_equal key old
equal_hidden key old = public_equal_left (map hidden key) key (map hidden old) (key_hidden_again key) ∙ public_equal_right (map hidden old) old key (key_hidden_again old)

-- ---- lists

unfoldable pub hidden_entry : KeyEntry → KeyEntry
hidden_entry entry = record { tuple = map hidden entry.tuple; serial = entry.serial }

abbrev pub hidden_list : KeyList → KeyList
hidden_list list = record { keys = map hidden_entry list.keys; ever_added = list.ever_added }

filter_step : (entry : KeyEntry) (more rest : List KeyEntry) → more ≡ map hidden_entry rest → (x y : Bool) → x ≡ y → cond x (hidden_entry entry ∷ more) more ≡ map hidden_entry (cond y (entry ∷ rest) rest)
filter_step entry more rest h x true e = rw e (ap (λ (ks : List KeyEntry). hidden_entry entry ∷ ks) h)
filter_step entry more rest h x false e = rw e h

pub filter_hidden : (p q : KeyEntry → Bool) → ((entry : KeyEntry) → p (hidden_entry entry) ≡ q entry) → (keys : List KeyEntry) → filter p (map hidden_entry keys) ≡ map hidden_entry (filter q keys)
filter_hidden p q h [] = refl
filter_hidden p q h (entry ∷ keys) = filter_step entry (filter p (map hidden_entry keys)) (filter q keys) (filter_hidden p q h keys) (p (hidden_entry entry)) (q entry) (h entry)

length_hidden : (keys : List KeyEntry) → length (map hidden_entry keys) ≡ length keys
length_hidden [] = refl
length_hidden (entry ∷ keys) = ap suc (length_hidden keys)

pub any_entry_hidden : (p q : KeyEntry → Bool) → ((entry : KeyEntry) → p (hidden_entry entry) ≡ q entry) → (keys : List KeyEntry) → list_any p (map hidden_entry keys) ≡ list_any q keys
any_entry_hidden p q h [] = refl
any_entry_hidden p q h (entry ∷ keys) = ap (λ (x : Bool). x || list_any p (map hidden_entry keys)) (h entry) ∙ ap (λ (x : Bool). q entry || x) (any_entry_hidden p q h keys)

pub added_hidden : (key : List Attr) (list : KeyList) → added (map hidden key) (hidden_list list) ≡ hidden_list (added key list)
unfolding hidden_entry
added_hidden key list =
    let differs : List Attr → KeyEntry → Bool = λ k old. not (public_equal k old.tuple) in
    let make : List KeyEntry → KeyList = λ keys. record { keys = keys; ever_added = list.ever_added + 1 } in
    let kept : filter (differs (map hidden key)) (map hidden_entry list.keys) ≡ map hidden_entry (filter (differs key) list.keys) = filter_hidden (differs (map hidden key)) (differs key) (λ old. ap not (equal_hidden key old.tuple)) list.keys in
    ap (λ (keys : List KeyEntry). make (keys ++ next_entry (map hidden key) (hidden_list list) ∷ [])) kept
    ∙ ap make (sym (map-append hidden_entry (filter (differs key) list.keys) (next_entry key list ∷ [])))

pub deleted_hidden : (template : List Attr) (list : KeyList) → list_any tells_secret template ≡ false → deleted template (hidden_list list) ≡ hidden_list (deleted template list)
unfolding hidden_entry
deleted_hidden template list open_ =
    let keep : KeyEntry → Bool = λ entry. not (matches template entry.tuple) in
    ap (λ (keys : List KeyEntry). record { keys = keys; ever_added = list.ever_added }) (filter_hidden keep keep (λ entry. ap not (matches_hidden template entry.tuple open_)) list.keys)

matching_hidden : (template : List Attr) (list : KeyList) → list_any tells_secret template ≡ false → matching template (hidden_list list) ≡ matching template list
unfolding hidden_entry
matching_hidden template list open_ =
    let found : KeyEntry → Bool = λ entry. matches template entry.tuple in
    ap length (filter_hidden found found (λ entry. matches_hidden template entry.tuple open_) list.keys) ∙ length_hidden (filter found list.keys)

-- ---- why a line isn't carried out

full_hidden : (key : List Attr) (keys : List KeyEntry) → is_full key (map hidden_entry keys) ≡ is_full key keys
unfolding hidden_entry
full_hidden key keys =
    let same : KeyEntry → Bool = λ old. public_equal key old.tuple in
    ap (λ n. leb most_keys n && not (list_any same (map hidden_entry keys))) (length_hidden keys)
    ∙ ap (λ (b : Bool). leb most_keys (length keys) && not b) (any_entry_hidden same same (λ old. public_equal_right (map hidden old.tuple) old.tuple key (key_hidden_again old.tuple)) keys)

add_fault_hidden : (key : List Attr) (list : KeyList) → add_fault key (hidden_list list) ≡ add_fault key list
unfolding add_fault
add_fault_hidden key list = ap (λ (b : Bool). first_told (key_rules key ++ (b, Full) ∷ [])) (full_hidden key list.keys)

delete_step : (b : Bool) (m n : ℕ) → (b ≡ false → m ≡ n) → first_told ((b, SecretValue) ∷ (eqb m 0, NoneMatched) ∷ []) ≡ first_told ((b, SecretValue) ∷ (eqb n 0, NoneMatched) ∷ [])
delete_step true m n e = refl
delete_step false m n e = ap (λ k. first_told ((false, SecretValue) ∷ (eqb k 0, NoneMatched) ∷ [])) (e refl)

delete_fault_hidden : (template : List Attr) (list : KeyList) → delete_fault template (hidden_list list) ≡ delete_fault template list
unfolding delete_fault
delete_fault_hidden template list = delete_step (list_any tells_secret template) (matching template (hidden_list list)) (matching template list) (matching_hidden template list)

pub line_fault_hidden : (list : KeyList) (said : CtlLine) → line_fault (hidden_list list) said ≡ line_fault list said
line_fault_hidden list (OnKeys (Add key)) = ap (option_map add_text) (add_fault_hidden key list)
line_fault_hidden list (OnKeys (Delete template)) = ap (option_map delete_text) (delete_fault_hidden template list)
line_fault_hidden list Debug = refl

-- ---- what is shown

tuples_hidden : (keys : List KeyEntry) → map (λ (entry : KeyEntry). map hidden entry.tuple) (map hidden_entry keys) ≡ map (λ (entry : KeyEntry). map hidden entry.tuple) keys
unfolding hidden_entry
tuples_hidden [] = refl
tuples_hidden (entry ∷ keys) =
    ap (λ (key : List Attr). key ∷ map (λ (e : KeyEntry). map hidden e.tuple) (map hidden_entry keys)) (key_hidden_again entry.tuple)
    ∙ ap (λ (ks : List (List Attr)). map hidden entry.tuple ∷ ks) (tuples_hidden keys)

pub list_text_hidden : (list : KeyList) → list_text (hidden_list list) ≡ list_text list
list_text_hidden list = list_text_alike (hidden_list list) list (tuples_hidden list.keys)

-- ---- templates whose secrets are hidden

-- a secret name alone, and a question for it, want the same
demand_hidden : (key : List Attr) (a : Attr) (secret : Bool) → is_secret a.name ≡ secret → (value : Value) → a.value ≡ value → (secret && is_given is_any value) ≡ false → meets key (hidden a).name (hidden a).value ≡ meets key a.name a.value
demand_hidden key a false e value f open_ = ap (λ (b : Bool). meets key (cond b (record { name = a.name; value = Ask }) a).name (cond b (record { name = a.name; value = Ask }) a).value) e
demand_hidden key a true e (Is text) f open_ = absurd cc
demand_hidden key a true e Ask f open_ = ap (λ (b : Bool). meets key (cond b (record { name = a.name; value = Ask }) a).name (cond b (record { name = a.name; value = Ask }) a).value) e ∙ ap (meets key a.name) (sym f)
demand_hidden key a true e Bare f open_ =
    ap (λ (b : Bool). meets key (cond b (record { name = a.name; value = Ask }) a).name (cond b (record { name = a.name; value = Ask }) a).value) e
    ∙ sym (ap (λ (b : Bool). cond b (has_name key a.name) (has_null key a.name)) e)
    ∙ ap (meets key a.name) (sym f)

demands_hidden : (template key : List Attr) → list_any tells_secret template ≡ false → list_all (λ a. meets key a.name a.value) (map hidden template) ≡ list_all (λ a. meets key a.name a.value) template
demands_hidden [] key open_ = refl
demands_hidden (a ∷ template) key open_ =
    let parts = or_parts (tells_secret a) (list_any tells_secret template) open_ in
    ap (λ (x : Bool). x && list_all (λ b. meets key b.name b.value) (map hidden template)) (demand_hidden key a (is_secret a.name) refl a.value refl parts.0)
    ∙ ap (λ (x : Bool). meets key a.name a.value && x) (demands_hidden template key parts.1)

pub template_hidden : (template key : List Attr) → list_any tells_secret template ≡ false → matches (map hidden template) key ≡ matches template key
unfolding matches
template_hidden template key open_ = demands_hidden template key open_

kept_alike : (p q : KeyEntry → Bool) → ((entry : KeyEntry) → p entry ≡ q entry) → (keys : List KeyEntry) → filter p keys ≡ filter q keys
kept_alike p q h [] = refl
kept_alike p q h (entry ∷ keys) = rw (h entry, kept_alike p q h keys) refl

pub deleted_by_hidden : (template : List Attr) (list : KeyList) → list_any tells_secret template ≡ false → deleted (map hidden template) list ≡ deleted template list
deleted_by_hidden template list open_ =
    ap (λ (keys : List KeyEntry). record { keys = keys; ever_added = list.ever_added })
    (kept_alike (λ entry. not (matches (map hidden template) entry.tuple)) (λ entry. not (matches template entry.tuple)) (λ entry. ap not (template_hidden template entry.tuple open_)) list.keys)
