-- What adding and deleting answer.
use Rattle.std.proofs.Common.{◌≡◌, ℕ, ◌+◌, ◌<◌, arith, List, [], ◌∷◌, ◌++◌, Bool, true, false, cond, not, Result, Ok, Err, Option, Some, None, refl, sym, ap, subst, ◌∙◌, inl, inr}
use Rattle.std.specs.Prelude.{All, IfSome, IfErr, MatchOption}
use Rattle.std.specs.List.{filter, list_any}
use Rattle.std.proofs.lemmas.Bool.{cases_Bool, ne_eqb}
use Rattle.std.proofs.lemmas.List.Elements.{All-filter}
use Rattle.attr_tuples.specs.declared.attr.Attr.{Attr}
use Rattle.attr_tuples.specs.Equality.{public_equal}
use Rattle.attr_tuples.specs.Matching.{matches}
use Rattle.key_lists.specs.declared.fault.AddFault.{AddFault}
use Rattle.key_lists.specs.declared.fault.AddFault.TheVariants.{Full, NoMemory}
use Rattle.key_lists.specs.declared.fault.DeleteFault.{DeleteFault}
use Rattle.key_lists.specs.declared.fault.DeleteFault.TheVariants.{SecretValue, NoneMatched}
use Rattle.wire_base.specs.Rules.{Rule, first_told}
use Rattle.key_lists.specs.KeyFaults.{key_rules, key_fault}
use Rattle.key_lists.specs.Lists.{KeyEntry, KeyList, is_full, add_fault, next_entry, tells_secret, matching, delete_fault}
use Rattle.key_ring.specs.Parts.{IsRing}
use Rattle.key_lists.proofs.BoundLaws.{bounded_added, bounded_deleted}
use Rattle.key_lists.proofs.OrderLaws.{ordered_added, ordered_deleted, nothing_deleted}

-- ---- adding

-- one rule more counts only where no other is broken
broken_before : {Fault : Type 0} (rules : List (Rule Fault)) (last : Rule Fault) (fault : Fault) → first_told rules ≡ Some fault → first_told (rules ++ last ∷ []) ≡ Some fault
broken_before [] last fault h = absurd cc
broken_before (rule ∷ rules) last fault h = elim (cases_Bool rule.0) [
  | inl t ↦ rw t (rw t at h)
  | inr f ↦ rw f (broken_before rules last fault (rw f at h))
]

kept_before : {Fault : Type 0} (rules : List (Rule Fault)) (last : Rule Fault) → first_told rules ≡ None → first_told (rules ++ last ∷ []) ≡ first_told (last ∷ [])
kept_before [] last h = refl
kept_before (rule ∷ rules) last h = elim (cases_Bool rule.0) [
  | inl t ↦ absurd (let s : Some rule.1 ≡ None = rw t at h in cc)
  | inr f ↦ rw f (kept_before rules last (rw f at h))
]

pub bad_key : (key : List Attr) (list : KeyList) (fault : AddFault) → Some fault ≡ key_fault key → add_fault key list ≡ Some fault
unfolding key_fault add_fault
bad_key key list fault h = broken_before (key_rules key) (is_full key list.keys, Full) fault (sym h)

pub good_key : (key : List Attr) (list : KeyList) → key_fault key ≡ None → add_fault key list ≡ cond (is_full key list.keys) (Some Full) None
unfolding key_fault add_fault
good_key key list h = kept_before (key_rules key) (is_full key list.keys, Full) h

pub free_key : (key : List Attr) (list : KeyList) → key_fault key ≡ None → (is_full key list.keys ≡ true → ⊥) → add_fault key list ≡ None
free_key key list h free = elim (cases_Bool (is_full key list.keys)) [
  | inl t ↦ absurd (free t)
  | inr f ↦ good_key key list h ∙ rw f refl
]

-- a fault that is answered is the one that is told
told : (found : Option AddFault) (fault : AddFault) (result : Result ℕ AddFault) → found ≡ Some fault → result ≡ Err fault → IfSome found (λ f. result ≡ Err f)
told None fault result e r = tt
told (Some other) fault result e r = let same : other ≡ fault = cc in r ∙ ap Err (sym same)

none_told : (found : Option AddFault) (result : Result ℕ AddFault) → found ≡ None → IfSome found (λ f. result ≡ Err f)
none_told None result e = tt
none_told (Some other) result e = absurd cc

pub refused_bad : (key : List Attr) (list : KeyList) (fault : AddFault) → Some fault ≡ key_fault key → IfSome (add_fault key list) (λ f. ◌≡◌ {A = Result ℕ AddFault} (Err fault) (Err f))
refused_bad key list fault h = told (add_fault key list) fault (Err fault) (bad_key key list fault h) refl

pub taken_bad : (key : List Attr) (list : KeyList) (fault : AddFault) → Some fault ≡ key_fault key → add_fault key list ≡ None → fault ≡ NoMemory
taken_bad key list fault h none = absurd (let e = bad_key key list fault h in cc)

pub refused_left : (key : List Attr) (list seen : KeyList) (room : AddFault) (result : Result ℕ AddFault) → list ≡ seen → key_fault key ≡ None → (is_full key list.keys ≡ true → room ≡ Full) → result ≡ Err room → IfSome (add_fault key seen) (λ f. result ≡ Err f)
refused_left key list seen room result same good full e =
    subst (λ (l : KeyList). IfSome (add_fault key l) (λ f. result ≡ Err f)) same
    (elim (cases_Bool (is_full key list.keys)) [
      | inl t ↦ told (add_fault key list) Full result (good_key key list good ∙ rw t refl) (e ∙ ap Err (full t))
      | inr f ↦ none_told (add_fault key list) result (good_key key list good ∙ rw f refl)
    ])

pub taken_left : (key : List Attr) (list seen : KeyList) (room : AddFault) (result : Result ℕ AddFault) → list ≡ seen → key_fault key ≡ None → (is_full key list.keys ≡ false → room ≡ NoMemory) → result ≡ Err room → add_fault key seen ≡ None → IfErr result (λ fault. fault ≡ NoMemory)
taken_left key list seen room result same good free e none = elim (cases_Bool (is_full key list.keys)) [
  | inl t ↦ absurd (let s : add_fault key list ≡ Some Full = good_key key list good ∙ rw t refl in let n : add_fault key list ≡ None = ap (add_fault key) same ∙ none in cc)
  | inr f ↦ rw e (free f)
]

-- a key that breaks no rule and finds room isn't refused
pub ample_left : (key : List Attr) (list : KeyList) (room : AddFault) → key_fault key ≡ None → (is_full key list.keys ≡ false → room ≡ NoMemory) → room ≡ Full → add_fault key list ≡ None → ⊥
ample_left key list room good free full none = elim (cases_Bool (is_full key list.keys)) [
  | inl t ↦ (let s : add_fault key list ≡ Some Full = good_key key list good ∙ rw t refl in cc)
  | inr f ↦ (let m = free f in cc)
]

pub refused_none : (key : List Attr) (list seen : KeyList) (result : Result ℕ AddFault) → list ≡ seen → key_fault key ≡ None → (is_full key list.keys ≡ true → ⊥) → IfSome (add_fault key seen) (λ f. result ≡ Err f)
refused_none key list seen result same good free = none_told (add_fault key seen) result (ap (add_fault key) (sym same) ∙ free_key key list good free)

-- the keys after one was put last are in order, and no more than a list holds
pub ring_put : (key : List Attr) (list : KeyList) (kept keys : List KeyEntry) (new : KeyEntry) (put : Bool) → IsRing list → (is_full key list.keys ≡ true → ⊥) → kept ≡ filter (λ old. not (public_equal key old.tuple)) list.keys → new ≡ next_entry key list → keys ≡ cond put (kept ++ new ∷ []) kept → put ≡ true → IsRing (record { keys = keys; ever_added = list.ever_added + 1 })
ring_put key list kept keys new put o free is_kept is_new is_put done =
    let at_end : filter (λ old. not (public_equal key old.tuple)) list.keys ++ next_entry key list ∷ [] ≡ keys = sym (is_put ∙ ap (λ (b : Bool). cond b (kept ++ new ∷ []) kept) done ∙ ap (λ (xs : List KeyEntry). xs ++ new ∷ []) is_kept ∙ ap (λ (x : KeyEntry). filter (λ old. not (public_equal key old.tuple)) list.keys ++ x ∷ []) is_new) in
    subst (λ (xs : List KeyEntry). IsRing (record { keys = xs; ever_added = list.ever_added + 1 })) at_end (record { ordered = ordered_added key list o.ordered; bounded = bounded_added key list o.bounded free })

-- ---- deleting

secret_first : (template : List Attr) (list : KeyList) → list_any tells_secret template ≡ true → delete_fault template list ≡ Some SecretValue
unfolding delete_fault
secret_first template list h = rw h refl

pub secret_told : (template : List Attr) (list : KeyList) → true ≡ list_any tells_secret template → MatchOption (delete_fault template list) (◌≡◌ {A = Result ℕ DeleteFault} (Err SecretValue) (Ok (matching template list))) (λ fault. ◌≡◌ {A = Result ℕ DeleteFault} (Err SecretValue) (Err fault))
secret_told template list h = rw (secret_first template list (sym h)) refl

none_second : (template : List Attr) (list : KeyList) → list_any tells_secret template ≡ false → matching template list ≡ 0 → delete_fault template list ≡ Some NoneMatched
unfolding delete_fault
none_second template list h none = rw (h, none) refl

pub none_told_second : (template : List Attr) (list seen : KeyList) → list ≡ seen → list_any tells_secret template ≡ false → 0 ≡ matching template list → MatchOption (delete_fault template seen) (◌≡◌ {A = Result ℕ DeleteFault} (Err NoneMatched) (Ok (matching template seen))) (λ fault. ◌≡◌ {A = Result ℕ DeleteFault} (Err NoneMatched) (Err fault))
none_told_second template list seen same h none = rw (ap (delete_fault template) (sym same) ∙ none_second template list h (sym none)) refl

some_matched : (template : List Attr) (list : KeyList) → list_any tells_secret template ≡ false → (0 ≡ matching template list → ⊥) → delete_fault template list ≡ None
unfolding delete_fault
some_matched template list h some = rw (h, ne_eqb (matching template list) 0 (λ e. some (sym e))) refl

pub count_told : (template : List Attr) (list seen : KeyList) (count : ℕ) → list ≡ seen → list_any tells_secret template ≡ false → count ≡ matching template list → (0 ≡ count → ⊥) → MatchOption (delete_fault template seen) (◌≡◌ {A = Result ℕ DeleteFault} (Ok count) (Ok (matching template seen))) (λ fault. ◌≡◌ {A = Result ℕ DeleteFault} (Ok count) (Err fault))
count_told template list seen count same h e some =
    rw (ap (delete_fault template) (sym same) ∙ some_matched template list h (λ z. some (z ∙ sym e))) (ap Ok (e ∙ ap (matching template) same))

-- what is left in order, and where nothing matched the same
pub ring_without : (template : List Attr) (list : KeyList) (keys : List KeyEntry) → keys ≡ filter (λ key. not (matches template key.tuple)) list.keys → IsRing list → IsRing (record { keys = keys; ever_added = list.ever_added })
ring_without template list keys e o = subst (λ (xs : List KeyEntry). IsRing (record { keys = xs; ever_added = list.ever_added })) (sym e) (record { ordered = ordered_deleted template list o.ordered; bounded = bounded_deleted template list o.bounded })

pub unchanged_without : (template : List Attr) (list : KeyList) (keys : List KeyEntry) (seen : KeyList) → keys ≡ filter (λ key. not (matches template key.tuple)) list.keys → list ≡ seen → 0 ≡ matching template list → record { keys = keys; ever_added = list.ever_added } ≡ seen
unchanged_without template list keys seen e same none =
    let make : List KeyEntry → KeyList = λ xs. record { keys = xs; ever_added = list.ever_added } in
    ap make e ∙ nothing_deleted template list (sym none) ∙ same

-- the next key has a greater number than those that are kept
pub newest : (key : List Attr) (list : KeyList) (kept : List KeyEntry) (new : KeyEntry) → IsRing list → kept ≡ filter (λ old. not (public_equal key old.tuple)) list.keys → new ≡ next_entry key list → All (λ old. old.serial < new.serial) kept
newest key list kept new o is_kept is_new =
    let number : new.serial ≡ list.ever_added + 1 = ap (λ (x : KeyEntry). x.serial) is_new in
    subst (λ (xs : List KeyEntry). All (λ old. old.serial < new.serial) xs) (sym is_kept)
    (All-filter (λ old. not (public_equal key old.tuple)) (λ (old : KeyEntry). old.serial < new.serial) list.keys (λ k d lt. omega (arith, (o.ordered.counted k d lt).1, number)))
