-- The list and the choice of p9any as they are sent, and the domain that is picked.
use Rattle.std.proofs.Common.{◌≡◌, ℕ, zero, suc, ◌+◌, ◌<◌, List, [], ◌∷◌, length, drop, nat_le, Bool, true, false, ◌&&◌, ◌||◌, Ok, Err, codes, refl, sym, ap, subst, ◌∙◌, inl, inr, arith, length-append, if◌then◌else◌}
use Rattle.std.specs.Prelude.{◌==◌}
use Rattle.std.specs.List.{list_any, slice_index_or}
use Rattle.std.specs.Str.{bytes_eq}
use Rattle.std.proofs.lemmas.Bool.{and_parts, cases_Bool, eq-eqb, le-ltb, leb-true}
use Rattle.wire_base.specs.Texts.{is_text}
use Rattle.attr_tuples.specs.Forms.{is_dom}
use Rattle.sealing.specs.Fields.{before_nul}
use Rattle.sealing.proofs.FieldLaws.{before}
use Rattle.roles.specs.declared.answer.Gave.TheVariants.{TooLong}
use Rattle.roles.specs.Starts.{Start}
use Rattle.conv_p9any.specs.declared.stage.TheConstants.{MOST_TEXT}
use Rattle.conv_p9any.specs.Offers.{choice_of, consents, dom_in, eligible, eligible_among, is_dom_text, is_eligible, is_marked, is_offered, offers_dom, offers_text, words}
use Rattle.conv_p9any.specs.Texts.{ended_text, text_in, text_with_nul}
use Rattle.conv_p9any.proofs.OfferLemmas.{eligible_dom, eligible_first}
use Rattle.complete_logins.proofs.PassLemmas.{same}

-- ---- a text and its NUL

-- a text without a NUL is read back
pub text_is_read : (text : List ℕ) → list_any (λ b. b == 0) text ≡ false → length text < MOST_TEXT → text_in (text_with_nul text) ≡ Ok text
unfolding text_in
text_is_read text clean short =
    let long = length-append text (0 ∷ []) in
    ap (λ (over : Bool). if over then Err TooLong else ended_text (text_with_nul text) (before_nul (text_with_nul text))) (le-ltb MOST_TEXT (length (text_with_nul text)) (omega (arith, long, short)))
    ∙ ap (ended_text (text_with_nul text)) (before text [] clean)
    ∙ ap (λ (whole : Bool). if whole then Ok text else Err TooLong) (eq-eqb (length (text_with_nul text)) (length text + 1) long)

-- ---- the domain that is picked

-- a domain, which one of some words offers
pub record Offered (name dom : List ℕ) (some : List (List ℕ)) : Type 0 where
  pub is_dom : is_dom_text dom ≡ true
  pub offers : list_any (λ word. offers_dom name dom word) some ≡ true

marked : (name : List ℕ) (start : Start) (word : List ℕ) → is_eligible name start word ≡ true → is_marked (codes "@") name word ≡ true
unfolding is_eligible
marked name start word h = (and_parts (is_marked (codes "@") name word) _ h).0

offers_it : (name : List ℕ) (start : Start) (word : List ℕ) → is_eligible name start word ≡ true → offers_dom name (dom_in name word) word ≡ true
unfolding offers_dom
offers_it name start word h = ap (λ (m : Bool). m && bytes_eq (dom_in name word) (dom_in name word)) (marked name start word h) ∙ same (dom_in name word)

-- it is still one of them with a word in front
more : (name dom word : List ℕ) (rest : List (List ℕ)) → Offered name dom rest → Offered name dom (word ∷ rest)
more name dom word rest o = record { is_dom = o.is_dom; offers = elim (cases_Bool (offers_dom name dom word)) [ inl is ↦ ap (λ (b : Bool). b || list_any (λ word. offers_dom name dom word) rest) is | inr isnt ↦ ap (λ (b : Bool). b || list_any (λ word. offers_dom name dom word) rest) isnt ∙ o.offers ] }

-- the first word is picked, or a later one
at_place : (name : List ℕ) (start : Start) (word : List ℕ) (rest : List (List ℕ)) (place : ℕ) → is_eligible name start word ≡ true → ((n : ℕ) → suc n ≡ place → Offered name (slice_index_or (eligible_among name start rest) n []) rest) → Offered name (slice_index_or (dom_in name word ∷ eligible_among name start rest) place []) (word ∷ rest)
at_place name start word rest zero is later = record { is_dom = eligible_dom name start word is; offers = ap (λ (b : Bool). b || list_any (λ w. offers_dom name (dom_in name word) w) rest) (offers_it name start word is) }
at_place name start word rest (suc n) is later = more name _ word rest (later n refl)

pub is_among : (name : List ℕ) (start : Start) (some : List (List ℕ)) (place : ℕ) → place < length (eligible_among name start some) → Offered name (slice_index_or (eligible_among name start some) place []) some
is_among name start [] place few = absurd (omega (arith, few))
is_among name start (word ∷ rest) place few = elim (cases_Bool (is_eligible name start word)) [
  | inl is ↦ let first = eligible_first name start word rest is in
      let fewer : place < length (dom_in name word ∷ eligible_among name start rest) = subst (λ some. place < length some) first few in
      subst (λ some. Offered name (slice_index_or some place []) (word ∷ rest)) (sym first)
      (at_place name start word rest place is (λ n next. is_among name start rest n (omega (arith, fewer, next))))
  | inr isnt ↦ let same_list : eligible_among name start (word ∷ rest) ≡ eligible_among name start rest = rw isnt refl in
      subst (λ some. Offered name (slice_index_or some place []) (word ∷ rest)) (sym same_list)
      (more name _ word rest (is_among name start rest place (subst (λ some. place < length some) same_list few)))
]

-- the same of a list whose server doesn't consent to the choice
pub is_of_list : (name : List ℕ) (start : Start) (list : List ℕ) (place : ℕ) → consents list ≡ false → place < length (eligible name start list) → Offered name (slice_index_or (eligible name start list) place []) (words list)
unfolding eligible
is_of_list name start list place plain few =
    let same_text : offers_text list ≡ list = ap (λ (b : Bool). if b then drop 4 list else list) plain in
    subst (λ text. Offered name (slice_index_or (eligible name start list) place []) (words text)) same_text (is_among name start (words (offers_text list)) place few)

-- ---- the text of the choice

pub choice_is_offered : (list dom : List ℕ) → Offered (codes "p9sk1") dom (words list) → is_offered (codes "p9sk1") list (choice_of (codes "p9sk1") dom) ≡ true
unfolding is_offered
choice_is_offered list dom o =
    ap (λ (b : Bool). b && list_any (λ word. offers_dom (codes "p9sk1") dom word) (words list)) o.is_dom ∙ o.offers

pub choice_is_clean : (dom : List ℕ) → is_dom_text dom ≡ true → list_any (λ b. b == 0) (choice_of (codes "p9sk1") dom) ≡ false
unfolding is_text
choice_is_clean dom is = elim (cases_Bool (list_any (λ b. b == 0) dom)) [ inl has ↦ absurd (let parts = and_parts (is_text dom) (is_dom dom) is in let f : false ≡ true = rw has at parts.0 in (cc)) | inr hasnt ↦ hasnt ]

pub choice_is_short : (dom : List ℕ) → is_dom_text dom ≡ true → length (choice_of (codes "p9sk1") dom) < MOST_TEXT
choice_is_short dom is =
    let form = (and_parts (is_text dom) (is_dom dom) is).1 in
    let parts = and_parts (nat_le 1 (length dom)) _ form in
    let most = (and_parts (nat_le (length dom) 47) _ parts.1).0 in
    omega (arith, leb-true (length dom) 47 most)
