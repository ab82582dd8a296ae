-- The offers, one key after the other.
use Rattle.std.proofs.Common.{◌≡◌, ℕ, suc, ◌+◌, ◌-◌, ◌<◌, ◌≤◌, List, [], ◌∷◌, ◌++◌, Bool, true, false, cond, not, ◌||◌, length, map, Option, Some, None, refl, sym, ap, subst, ◌∙◌, inl, inr, arith, codes, append_assoc, length-append, option_to_list, take, drop, get_or, drop-cons}
use Rattle.std.specs.List.{filter, list_any, filter_map, cons_option, join_with_byte}
use Rattle.std.specs.Str.{bytes_eq}
use Rattle.std.proofs.lemmas.Bool.{cases_Bool, or_parts, le-ltb, lt-ltb, ne_eqb}
use Rattle.std.proofs.lemmas.List.Elements.{filter-append, filter_map-append}
use Rattle.std.proofs.lemmas.List.{append-nil, map-append, length_push, take_more, take-append-drop, take_all}
use Rattle.key_lists.specs.Lists.{KeyEntry}
use Rattle.key_lists.specs.Listing.{each_once, fitting, most_offered, offer_of, offers_text}
use Rattle.key_ring.specs.Steps.{gap_before, offer_behind, is_this, was_seen, unless_seen}

-- a text that is seen adds nothing, any other stands last
new_of : (x y : List ℕ) (xs : List (List ℕ)) → (same seen : Bool) → same ≡ bytes_eq x y → filter (λ z. not (bytes_eq x z)) (cond seen [] (y ∷ [])) ≡ cond (same || seen) [] (y ∷ [])
new_of x y xs true true e = refl
new_of x y xs true false e = rw (← e) refl
new_of x y xs false true e = refl
new_of x y xs false false e = rw (← e) refl

pub once_more : (xs : List (List ℕ)) (y : List ℕ) → each_once (xs ++ y ∷ []) ≡ each_once xs ++ cond (was_seen y xs) [] (y ∷ [])
once_more [] y = refl
once_more (x ∷ xs) y =
    let other : List ℕ → Bool = λ z. not (bytes_eq x z) in
    ap (λ (ys : List (List ℕ)). x ∷ filter other ys) (once_more xs y)
    ∙ ap (λ (ys : List (List ℕ)). x ∷ ys) (filter-append other (each_once xs) (cond (was_seen y xs) [] (y ∷ [])) ∙ ap (λ (ys : List (List ℕ)). filter other (each_once xs) ++ ys) (new_of x y xs (bytes_eq x y) (was_seen y xs) refl))

-- a text that wasn't seen stands behind those that were, whatever follows
pub once_at : (xs ys : List (List ℕ)) (y : List ℕ) → was_seen y xs ≡ false → (rest : List (List ℕ)) × (each_once (xs ++ y ∷ ys) ≡ each_once xs ++ y ∷ rest)
once_at [] ys y h = (filter (λ z. not (bytes_eq y z)) (each_once ys), refl)
once_at (x ∷ xs) ys y h =
    let parts = or_parts (bytes_eq x y) (was_seen y xs) h in
    let more = once_at xs ys y parts.1 in
    let other : List ℕ → Bool = λ z. not (bytes_eq x z) in
    (filter other more.0, ap (λ (zs : List (List ℕ)). x ∷ zs) (ap (filter other) more.1 ∙ filter-append other (each_once xs) (y ∷ more.0) ∙ ap (λ (zs : List (List ℕ)). filter other (each_once xs) ++ zs) (simp parts.0 refl)))

-- a domain is seen where a key has it
seen_step : (dom : List ℕ) (found : Option (List ℕ)) (later : Bool) (rest : List (List ℕ)) → later ≡ was_seen dom rest → (is_this dom found || later) ≡ was_seen dom (cons_option found rest)
seen_step dom None later rest e = e
seen_step dom (Some other) later rest e = ap (λ (b : Bool). bytes_eq other dom || b) e

pub seen_keys : (dom_in : KeyEntry → Option (List ℕ)) (dom : List ℕ) (keys : List KeyEntry) → list_any (λ key. is_this dom (dom_in key)) keys ≡ was_seen dom (filter_map dom_in keys)
seen_keys dom_in dom [] = refl
seen_keys dom_in dom (key ∷ keys) = seen_step dom (dom_in key) (list_any (λ key. is_this dom (dom_in key)) keys) (filter_map dom_in keys) (seen_keys dom_in dom keys)

pub seen_is_no_new : (others : List (List ℕ)) (found : Option (List ℕ)) (dom : List ℕ) → Some dom ≡ found → was_seen dom others ≡ true → None ≡ unless_seen others found
seen_is_no_new others found dom e seen = let first : None ≡ unless_seen others (Some dom) = rw seen refl in first ∙ ap (unless_seen others) e

pub unseen_is_new : (others : List (List ℕ)) (found : Option (List ℕ)) (dom : List ℕ) → Some dom ≡ found → was_seen dom others ≡ false → Some dom ≡ unless_seen others found
unseen_is_new others found dom e unseen = let first : Some dom ≡ unless_seen others (Some dom) = rw unseen refl in first ∙ ap (unless_seen others) e

-- ---- the offers so far

-- the offers of some domains
abbrev pub made : List (List ℕ) → List (List ℕ)
made doms = map offer_of (each_once doms)

-- the text so far is that of the offers of the domains so far, which all fit, and so many bytes are left
pub record IsSoFar (doms : List (List ℕ)) (before text : List ℕ) (count room : ℕ) : Type 0 where
  pub text_is : text ≡ before ++ offers_text (made doms)
  pub counted : count ≡ length (made doms)
  pub left : (rest : List (List ℕ)) → fitting most_offered (made doms ++ rest) ≡ made doms ++ fitting room rest
  pub small : room + count ≤ 1024

-- what is put out of some domains
pub record IsPutOut (doms : List (List ℕ)) (before text : List ℕ) (count : ℕ) : Type 0 where
  pub text_is : text ≡ before ++ offers_text (fitting most_offered (made doms))
  pub counted : count ≡ length (fitting most_offered (made doms))

pub none_so_far : (before : List ℕ) → IsSoFar [] before before 0 1024
unfolding offers_text
none_so_far before = record { text_is = sym (append-nil before); counted = refl; left = λ rest. refl; small = omega arith }

-- the domains with the next one
none_new : (doms : List (List ℕ)) (found : Option (List ℕ)) → None ≡ unless_seen doms found → each_once (doms ++ option_to_list found) ≡ each_once doms
none_new doms None e = ap each_once (append-nil doms)
none_new doms (Some dom) e = elim (cases_Bool (was_seen dom doms)) [
  | inl t ↦ once_more doms dom ∙ rw t (append-nil (each_once doms))
  | inr f ↦ absurd (let s : None ≡ Some dom = rw f at e in cc)
]

new_found : (doms : List (List ℕ)) (found : Option (List ℕ)) (dom : List ℕ) → Some dom ≡ unless_seen doms found → (found ≡ Some dom) × (was_seen dom doms ≡ false)
new_found doms None dom e = absurd cc
new_found doms (Some other) dom e = elim (cases_Bool (was_seen other doms)) [
  | inl t ↦ absurd (let s : Some dom ≡ None = rw t at e in cc)
  | inr f ↦ (let s : Some dom ≡ Some other = rw f at e in let same : other ≡ dom = cc in (ap Some same, ap (λ (d : List ℕ). was_seen d doms) (sym same) ∙ f))
]

pub so_far_same : (doms more : List (List ℕ)) (found : Option (List ℕ)) (before text : List ℕ) (count room : ℕ) → more ≡ doms ++ option_to_list found → None ≡ unless_seen doms found → IsSoFar doms before text count room → IsSoFar more before text count room
so_far_same doms more found before text count room e none o =
    let same : made doms ≡ made more = ap (map offer_of) (sym (ap each_once e ∙ none_new doms found none)) in
    record {
      text_is = o.text_is ∙ ap (λ (words : List (List ℕ)). before ++ offers_text words) same;
      counted = o.counted ∙ ap (length {A = List ℕ}) same;
      left = λ rest. subst (λ (words : List (List ℕ)). fitting most_offered (words ++ rest) ≡ words ++ fitting room rest) same (o.left rest);
      small = o.small;
    }

-- the text of offers with one more
text_behind : (word : List ℕ) (words : List (List ℕ)) (offer : List ℕ) → join_with_byte 32 ((word ∷ words) ++ offer ∷ []) ≡ join_with_byte 32 (word ∷ words) ++ 32 ∷ offer
text_behind word [] offer = refl
text_behind word (next ∷ words) offer = ap (λ (rest : List ℕ). word ++ 32 ∷ rest) (text_behind next words offer) ∙ sym (append_assoc word (32 ∷ join_with_byte 32 (next ∷ words)) (32 ∷ offer))

gap_behind : (word : List ℕ) (words : List (List ℕ)) → gap_before (length (word ∷ words)) ≡ 32 ∷ []
gap_behind word words = rw (ne_eqb (length (word ∷ words)) 0 (λ e. omega arith)) refl

text_more : (words : List (List ℕ)) (dom : List ℕ) → offers_text (words ++ offer_of dom ∷ []) ≡ offers_text words ++ offer_behind (length words) dom
unfolding offers_text
text_more [] dom = refl
text_more (word ∷ words) dom = text_behind word words (offer_of dom) ∙ ap (λ (gap : List ℕ). join_with_byte 32 (word ∷ words) ++ (gap ++ offer_of dom)) (sym (gap_behind word words))

-- one more offer fits
fits : (room : ℕ) (dom : List ℕ) (rest : List (List ℕ)) → length dom < room - 6 → fitting room (offer_of dom ∷ rest) ≡ offer_of dom ∷ fitting (room - (6 + length dom + 1)) rest
fits room dom rest lt =
    let size : length (offer_of dom) ≡ 6 + length dom = length-append (codes "p9sk1@") dom in
    let there : length (offer_of dom) < room = omega (arith, size) in
    rw (lt-ltb (length (offer_of dom)) room there) (ap (λ n. offer_of dom ∷ fitting (room - (n + 1)) rest) size)

pub so_far_more : (doms more : List (List ℕ)) (found : Option (List ℕ)) (dom before text : List ℕ) (count room : ℕ) → more ≡ doms ++ option_to_list found → Some dom ≡ unless_seen doms found → length dom < room - 6 → IsSoFar doms before text count room → IsSoFar more before (text ++ offer_behind count dom) (count + 1) (room - (6 + length dom + 1))
so_far_more doms more found dom before text count room e new lt o =
    let is = new_found doms found dom new in
    let once : each_once more ≡ each_once doms ++ dom ∷ [] = ap each_once (e ∙ ap (λ (f : Option (List ℕ)). doms ++ option_to_list f) is.0) ∙ once_more doms dom ∙ rw is.1 refl in
    let same : made more ≡ made doms ++ offer_of dom ∷ [] = ap (map offer_of) once ∙ map-append offer_of (each_once doms) (dom ∷ []) in
    record {
      text_is =
          ap (λ (t : List ℕ). t ++ offer_behind count dom) o.text_is ∙ append_assoc before (offers_text (made doms)) (offer_behind count dom)
          ∙ ap (λ n. before ++ (offers_text (made doms) ++ offer_behind n dom)) o.counted
          ∙ ap (λ (t : List ℕ). before ++ t) (sym (text_more (made doms) dom)) ∙ ap (λ (words : List (List ℕ)). before ++ offers_text words) (sym same);
      counted = ap (λ n. n + 1) o.counted ∙ sym (length_push (made doms) (offer_of dom)) ∙ ap (length {A = List ℕ}) (sym same);
      small = omega (arith, o.small);
      left = λ rest.
          ap (λ (words : List (List ℕ)). fitting most_offered (words ++ rest)) same ∙ ap (fitting most_offered) (append_assoc (made doms) (offer_of dom ∷ []) rest) ∙ o.left (offer_of dom ∷ rest)
          ∙ ap (λ (words : List (List ℕ)). made doms ++ words) (fits room dom rest lt) ∙ sym (append_assoc (made doms) (offer_of dom ∷ []) (fitting (room - (6 + length dom + 1)) rest)) ∙ ap (λ (words : List (List ℕ)). words ++ fitting (room - (6 + length dom + 1)) rest) (sym same);
    }

pub so_far_next : (doms more : List (List ℕ)) (found : Option (List ℕ)) (dom before text next : List ℕ) (count room counted left : ℕ) → more ≡ doms ++ option_to_list found → Some dom ≡ unless_seen doms found → length dom < room - 6 → IsSoFar doms before text count room
    → next ≡ text ++ offer_behind count dom → counted ≡ count + 1 → left ≡ room - (6 + length dom + 1) → IsSoFar more before next counted left
so_far_next doms more found dom before text next count room counted left e new lt o is_text is_count is_room = rw (is_text, is_count, is_room) (so_far_more doms more found dom before text count room e new lt o)

pub so_far_kept : (doms more : List (List ℕ)) (found : Option (List ℕ)) (before text next : List ℕ) (count room counted left : ℕ) → more ≡ doms ++ option_to_list found → None ≡ unless_seen doms found → IsSoFar doms before text count room
    → next ≡ text → counted ≡ count → left ≡ room → IsSoFar more before next counted left
so_far_kept doms more found before text next count room counted left e none o is_text is_count is_room = rw (is_text, is_count, is_room) (so_far_same doms more found before text count room e none o)

pub put_out_all : (doms : List (List ℕ)) (before text : List ℕ) (count room : ℕ) → IsSoFar doms before text count room → IsPutOut doms before text count
put_out_all doms before text count room o =
    let all : fitting most_offered (made doms) ≡ made doms = ap (fitting most_offered) (sym (append-nil (made doms))) ∙ o.left [] ∙ append-nil (made doms) in
    record { text_is = o.text_is ∙ ap (λ (words : List (List ℕ)). before ++ offers_text words) (sym all); counted = o.counted ∙ ap (length {A = List ℕ}) (sym all) }

pub put_out_front : (doms all later : List (List ℕ)) (found : Option (List ℕ)) (dom before text : List ℕ) (count room : ℕ) → all ≡ doms ++ (option_to_list found ++ later) → Some dom ≡ unless_seen doms found → room - 6 ≤ length dom → IsSoFar doms before text count room → IsPutOut all before text count
put_out_front doms all later found dom before text count room e new le o =
    let is = new_found doms found dom new in
    let at = once_at doms later dom is.1 in
    let once : each_once all ≡ each_once doms ++ dom ∷ at.0 = ap each_once (e ∙ ap (λ (f : Option (List ℕ)). doms ++ (option_to_list f ++ later)) is.0) ∙ at.1 in
    let same : made all ≡ made doms ++ offer_of dom ∷ map offer_of at.0 = ap (map offer_of) once ∙ map-append offer_of (each_once doms) (dom ∷ at.0) in
    let size : length (offer_of dom) ≡ 6 + length dom = length-append (codes "p9sk1@") dom in
    let ends : fitting room (offer_of dom ∷ map offer_of at.0) ≡ [] = rw (le-ltb (length (offer_of dom)) room (omega (arith, size))) refl in
    let front : fitting most_offered (made all) ≡ made doms = ap (fitting most_offered) same ∙ o.left (offer_of dom ∷ map offer_of at.0) ∙ ap (λ (words : List (List ℕ)). made doms ++ words) ends ∙ append-nil (made doms) in
    record { text_is = o.text_is ∙ ap (λ (words : List (List ℕ)). before ++ offers_text words) (sym front); counted = o.counted ∙ ap (length {A = List ℕ}) (sym front) }

-- ---- the domains up to a key, and behind it

one_found : (found : Option (List ℕ)) → cons_option found [] ≡ option_to_list found
one_found None = refl
one_found (Some dom) = refl

some_found : (found : Option (List ℕ)) (later : List (List ℕ)) → cons_option found later ≡ option_to_list found ++ later
some_found None later = refl
some_found (Some dom) later = refl

pub doms_more : (dom_in : KeyEntry → Option (List ℕ)) (keys : List KeyEntry) (at : ℕ) (key : KeyEntry) → at < length keys → key ≡ get_or keys at key → filter_map dom_in (take (at + 1) keys) ≡ filter_map dom_in (take at keys) ++ option_to_list (dom_in key)
doms_more dom_in keys at key lt is =
    ap (filter_map dom_in) (take_more keys at key lt ∙ ap (λ (k : KeyEntry). take at keys ++ k ∷ []) (sym is)) ∙ filter_map-append dom_in (take at keys) (key ∷ [])
    ∙ ap (λ (ds : List (List ℕ)). filter_map dom_in (take at keys) ++ ds) (one_found (dom_in key))

pub doms_at : (dom_in : KeyEntry → Option (List ℕ)) (keys : List KeyEntry) (at : ℕ) (key : KeyEntry) → at < length keys → key ≡ get_or keys at key → filter_map dom_in keys ≡ filter_map dom_in (take at keys) ++ (option_to_list (dom_in key) ++ filter_map dom_in (drop (suc at) keys))
doms_at dom_in keys at key lt is =
    ap (filter_map dom_in) (sym (take-append-drop at keys) ∙ ap (λ (ks : List KeyEntry). take at keys ++ ks) (drop-cons keys at key lt ∙ ap (λ (k : KeyEntry). k ∷ drop (suc at) keys) (sym is)))
    ∙ filter_map-append dom_in (take at keys) (key ∷ drop (suc at) keys)
    ∙ ap (λ (ds : List (List ℕ)). filter_map dom_in (take at keys) ++ ds) (some_found (dom_in key) (filter_map dom_in (drop (suc at) keys)))

pub put_out_keys : (dom_in : KeyEntry → Option (List ℕ)) (keys : List KeyEntry) (at : ℕ) (before text : List ℕ) (count room : ℕ) → length keys ≤ at → IsSoFar (filter_map dom_in (take at keys)) before text count room → IsPutOut (filter_map dom_in keys) before text count
put_out_keys dom_in keys at before text count room le o =
    subst (λ (ks : List KeyEntry). IsPutOut (filter_map dom_in ks) before text count) (take_all at keys le) (put_out_all (filter_map dom_in (take at keys)) before text count room o)
