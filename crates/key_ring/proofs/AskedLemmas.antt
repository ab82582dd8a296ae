-- The keys of a protocol and a domain, as an index has them and as it is said of them.
use Rattle.std.proofs.Common.{◌≡◌, ℕ, suc, List, [], ◌∷◌, Bool, true, false, cond, length, get_or, map, Option, Some, None, codes, refl, sym, ap, ◌∙◌, inl, inr, arith, is_eq, eqb-true}
use Rattle.std.specs.Prelude.{All}
use Rattle.std.specs.List.{filter}
use Rattle.std.specs.Cmp.{both_tied}
use Rattle.std.proofs.lemmas.Bool.{cases_Bool, and_from, and_parts, or_parts}
use Rattle.attr_tuples.specs.declared.attr.Attr.{Attr}
use Rattle.attr_tuples.specs.Attributes.{is_named, is_named_once}
use Rattle.attr_tuples.specs.Equality.{public_equal}
use Rattle.attr_tuples.specs.Forms.{is_dom}
use Rattle.attr_tuples.specs.Giving.{gives}
use Rattle.attr_tuples.specs.Matching.{has_name, holds, matches, value_of}
use Rattle.key_lists.specs.KeyFaults.{key_fault, is_protocol}
use Rattle.key_lists.specs.Lists.{KeyEntry, serves}
use Rattle.key_ring.specs.declared.rank.Order.TheVariants as o
use Rattle.key_ring.specs.Indexed.{asked_by, is_asked_for}
use Rattle.key_ring.specs.Ranks.{RankOf, has_rank, rank_cmp, rank_of, text_cmp}
use Rattle.key_ring.specs.Serials.{is_of}
use Rattle.key_ring.proofs.HeldLemmas.{Few, compared_is_same, held_is_value, matched_holds, said, same_by_equal}
use Rattle.key_ring.proofs.KeyLemmas.{key_holds}
use Rattle.key_ring.proofs.RankLemmas.{own_rank}

-- ---- a key names its protocol and its domain once at most

once_few : (name : List ℕ) (key : List Attr) → is_named_once name key ≡ true → Few name key
once_few name key h = let n = eqb-true (length (filter (is_named name) key)) 1 h in omega (arith, n)

unnamed_few : (name : List ℕ) (key : List Attr) → has_name key name ≡ false → length (filter (is_named name) key) ≡ 0
unnamed_few name [] h = refl
unnamed_few name (a ∷ key) h =
    let parts = or_parts (is_named name a) (has_name key name) h in
    rw parts.0 (unnamed_few name key parts.1)

pub few_protos : (key : List Attr) → key_fault key ≡ None → Few (codes "proto") key
few_protos key h = once_few (codes "proto") key (and_parts (is_named_once (codes "proto") key) (gives (codes "proto") is_protocol key) (key_holds key h).proto).0

pub few_doms : (key : List Attr) → key_fault key ≡ None → Few (codes "dom") key
few_doms key h = elim (cases_Bool (has_name key (codes "dom"))) [
  | inl named ↦ once_few (codes "dom") key (and_parts (is_named_once (codes "dom") key) (gives (codes "dom") is_dom key) ((key_holds key h).dom named)).0
  | inr unnamed ↦ (let none = unnamed_few (codes "dom") key unnamed in omega (arith, none))
]

-- ---- the ranks that are looked for

pub proto_rank : (proto : List ℕ) (key : KeyEntry) → key_fault key.tuple ≡ None → has_rank o.Proto (record { proto = Some proto; dom = None }) key ≡ is_of proto None key.tuple
proto_rank proto key h =
    let first = held_is_value (codes "proto") proto key.tuple (few_protos key.tuple h) ∙ sym (compared_is_same (value_of (codes "proto") key.tuple) proto) in
    sym (both_tied (holds key.tuple (said (codes "proto") proto)) true (text_cmp (value_of (codes "proto") key.tuple) (Some proto)) (text_cmp None None) first refl)

pub dom_rank : (proto dom : List ℕ) (key : KeyEntry) → key_fault key.tuple ≡ None → has_rank o.Dom (record { proto = Some proto; dom = Some dom }) key ≡ is_of proto (Some dom) key.tuple
dom_rank proto dom key h =
    let first = held_is_value (codes "proto") proto key.tuple (few_protos key.tuple h) ∙ sym (compared_is_same (value_of (codes "proto") key.tuple) proto) in
    let second = held_is_value (codes "dom") dom key.tuple (few_doms key.tuple h) ∙ sym (compared_is_same (value_of (codes "dom") key.tuple) dom) in
    sym (both_tied (holds key.tuple (said (codes "proto") proto)) (holds key.tuple (said (codes "dom") dom)) (text_cmp (value_of (codes "proto") key.tuple) (Some proto)) (text_cmp (value_of (codes "dom") key.tuple) (Some dom)) first second)

-- tests that agree at each element of a list leave the same of it
pub filter_alike : {X : Type 0} (p q : X → Bool) (xs : List X) → All (λ x. p x ≡ q x) xs → filter p xs ≡ filter q xs
filter_alike p q [] h = refl
filter_alike {X = X} p q (x ∷ xs) h =
    let first : p x ≡ q x = h 0 x (omega arith) in
    ap (λ (b : Bool). cond b (x ∷ filter p xs) (filter p xs)) first ∙ ap (λ (ys : List X). cond (q x) (x ∷ ys) ys) (filter_alike p q xs (λ k d lt. h (suc k) d (omega arith)))

-- the numbers that the index of protocols lends, and those that the index of domains does
pub protos_lent : (proto : List ℕ) (keys : List KeyEntry) → All (λ key. key_fault key.tuple ≡ None) keys → map (λ (key : KeyEntry). key.serial) (filter (has_rank o.Proto (record { proto = Some proto; dom = None })) keys) ≡ map (λ key. key.serial) (filter (λ key. is_of proto None key.tuple) keys)
protos_lent proto keys valid = ap (map (λ (key : KeyEntry). key.serial)) (filter_alike _ _ keys (λ k d lt. proto_rank proto (get_or keys k d) (valid k d lt)))

pub doms_lent : (proto dom : List ℕ) (keys : List KeyEntry) → All (λ key. key_fault key.tuple ≡ None) keys → map (λ (key : KeyEntry). key.serial) (filter (has_rank o.Dom (record { proto = Some proto; dom = Some dom })) keys) ≡ map (λ key. key.serial) (filter (λ key. is_of proto (Some dom) key.tuple) keys)
doms_lent proto dom keys valid = ap (map (λ (key : KeyEntry). key.serial)) (filter_alike _ _ keys (λ k d lt. dom_rank proto dom (get_or keys k d) (valid k d lt)))

-- ---- what is looked for is among them

asked_step : (template t : List Attr) (proto dom : Option (List ℕ)) → value_of (codes "proto") template ≡ proto → value_of (codes "dom") template ≡ dom → matches template t ≡ true → asked_by proto dom t ≡ true
asked_step template t None dom p d h = refl
asked_step template t (Some proto) None p d h = and_from _ _ (matched_holds template t (codes "proto") proto h p) refl
asked_step template t (Some proto) (Some dom) p d h = and_from _ _ (matched_holds template t (codes "proto") proto h p) (matched_holds template t (codes "dom") dom h d)

pub matching_is_asked : (template t : List Attr) → matches template t ≡ true → is_asked_for template t ≡ true
matching_is_asked template t h = asked_step template t (value_of (codes "proto") template) (value_of (codes "dom") template) refl refl h

pub serving_is_asked : (template : List Attr) (role : List ℕ) (key : KeyEntry) → serves template role key ≡ true → is_asked_for template key.tuple ≡ true
serving_is_asked template role key h = matching_is_asked template key.tuple (and_parts (matches template key.tuple) _ h).0

-- a key that is the same in public has the same rank
pub equal_has_rank : (tuple : List Attr) (key : KeyEntry) → key_fault tuple ≡ None → key_fault key.tuple ≡ None → public_equal tuple key.tuple ≡ true → has_rank o.Dom (rank_of o.Dom tuple) key ≡ true
equal_has_rank tuple key ht hk same =
    let protos = same_by_equal (codes "proto") tuple key.tuple refl (few_protos tuple ht) (few_protos key.tuple hk) same in
    let doms = same_by_equal (codes "dom") tuple key.tuple refl (few_doms tuple ht) (few_doms key.tuple hk) same in
    let make : Option (List ℕ) → Option (List ℕ) → RankOf = λ p d. record { proto = p; dom = d } in
    let ranks : rank_of o.Dom tuple ≡ rank_of o.Dom key.tuple = ap (λ (p : Option (List ℕ)). make p (value_of (codes "dom") tuple)) protos ∙ ap (make (value_of (codes "proto") key.tuple)) doms in
    ap (λ (r : RankOf). is_eq (rank_cmp (rank_of o.Dom key.tuple) r)) ranks ∙ own_rank (rank_of o.Dom key.tuple)
