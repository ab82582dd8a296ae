-- What a search comes to is the same whatever the secrets of keys are: a template that is public matches a key by its public
-- attributes, and of a key that a user is asked about its number and its public text are told.
use Rattle.std.proofs.Common.{◌≡◌, ℕ, List, [], ◌∷◌, map, Bool, true, false, cond, ltb, length, ◌&&◌, ◌||◌, not, Option, Some, None, refl, ap, ◌∙◌, codes, inl, inr}
use Rattle.std.specs.Prelude.{option_map}
use Rattle.std.specs.List.{list_all, list_any}
use Rattle.std.specs.Str.{bytes_eq}
use Rattle.std.proofs.lemmas.Bool.{and_parts, cases_Bool, not-true}
use Rattle.attr_tuples.specs.declared.attr.Attr.{Attr}
use Rattle.attr_tuples.specs.Attributes.{is_given, is_named, is_public, is_secret}
use Rattle.attr_tuples.specs.Matching.{has_name, text_for, texts_of, value_of}
use Rattle.attr_tuples.specs.Giving.{gives}
use Rattle.attr_tuples.specs.Printing.{hidden, public_text, printed_text}
use Rattle.key_lists.specs.Lists.{KeyEntry, KeyList, serves, tells_secret}
use Rattle.key_lists.specs.Listing.{doms_of, dom_of, each_once, fitting, most_offered, offer_of, offers, offers_text}
use Rattle.talks.specs.declared.said.Said.{Said}
use Rattle.talks.specs.declared.said.Asking.{Asking}
use Rattle.talks.specs.Calls.{Found, Chosen, AsksConsent, AsksKey, Denied, NoneServes, Offered, Picked}
use Rattle.talks.specs.Searches.{first_left, found_among, found_at, found_by, is_passed_over, is_refused, offered_by, one_left, serving, wants_consent, is_among}
use Rattle.agent_laws.proofs.HiddenLaws.{any_entry_hidden, any_hidden, apart_too, filter_hidden, hidden_entry, hidden_list, key_hidden_again, matches_hidden, named_hidden}

-- ---- what a name is given

-- the value of a public name
text_hidden : (name : List ℕ) (a : Attr) → is_secret name ≡ false → text_for name (hidden a) ≡ text_for name a
text_hidden name a open_ = elim (cases_Bool (is_secret a.name)) [
  | inl secret ↦ rw secret (rw (apart_too a.name name secret open_) refl)
  | inr shown ↦ rw shown refl
]

texts_hidden : (name : List ℕ) (attrs : List Attr) → is_secret name ≡ false → texts_of name (map hidden attrs) ≡ texts_of name attrs
texts_hidden name [] open_ = refl
texts_hidden name (a ∷ attrs) open_ = rw (text_hidden name a open_, texts_hidden name attrs open_) refl

pub value_hidden : (name : List ℕ) (attrs : List Attr) → is_secret name ≡ false → value_of name (map hidden attrs) ≡ value_of name attrs
unfolding value_of
value_hidden name attrs open_ = rw (texts_hidden name attrs open_) refl

named_in : (name : List ℕ) (attrs : List Attr) → has_name (map hidden attrs) name ≡ has_name attrs name
named_in name attrs = any_hidden (is_named name) (is_named name) (named_hidden name) attrs

given_hidden : (name : List ℕ) (test : List ℕ → Bool) (b : Attr) → is_secret name ≡ false → (is_named name (hidden b) && is_given test (hidden b).value) ≡ (is_named name b && is_given test b.value)
given_hidden name test b open_ = elim (cases_Bool (is_secret b.name)) [
  | inl secret ↦ rw secret (rw (apart_too b.name name secret open_) refl)
  | inr shown ↦ rw shown refl
]

gives_hidden : (name : List ℕ) (test : List ℕ → Bool) (attrs : List Attr) → is_secret name ≡ false → gives name test (map hidden attrs) ≡ gives name test attrs
gives_hidden name test attrs open_ = any_hidden (λ a. is_named name a && is_given test a.value) (λ a. is_named name a && is_given test a.value) (λ b. given_hidden name test b open_) attrs

-- ---- keys that serve

-- a public template tells no secret
tells_none : (template : List Attr) → list_all is_public template ≡ true → list_any tells_secret template ≡ false
tells_none [] h = refl
tells_none (a ∷ template) h =
    let parts = and_parts (is_public a) (list_all is_public template) h in
    rw (not-true (is_secret a.name) parts.0, tells_none template parts.1) refl

serves_hidden : (template : List Attr) (role : List ℕ) → list_all is_public template ≡ true → (key : KeyEntry) → serves template role (hidden_entry key) ≡ serves template role key
unfolding hidden_entry
serves_hidden template role open_ key =
    rw (matches_hidden template key.tuple (tells_none template open_), named_in (codes "role") key.tuple, gives_hidden (codes "role") (λ text. bytes_eq text role) key.tuple refl) refl

serving_hidden : (template : List Attr) (role : List ℕ) (list : KeyList) → list_all is_public template ≡ true → serving template role (hidden_list list) ≡ map hidden_entry (serving template role list)
serving_hidden template role list open_ = filter_hidden (serves template role) (serves template role) (serves_hidden template role open_) list.keys

-- ---- which of them is found

passed_hidden : (said : Said) (asking : Asking) (key : KeyEntry) → is_passed_over said asking (hidden_entry key) ≡ is_passed_over said asking key
unfolding hidden_entry
passed_hidden said asking key = ap (λ (b : Bool). b && is_refused said asking key) (named_in (codes "confirm") key.tuple)

find_step : (key : KeyEntry) (one other : Option KeyEntry) (x y : Bool) → x ≡ y → one ≡ option_map hidden_entry other → cond x (Some (hidden_entry key)) one ≡ option_map hidden_entry (cond y (Some key) other)
find_step key one other x true e f = rw e refl
find_step key one other x false e f = rw e f

left_hidden : (said : Said) (asking : Asking) (keys : List KeyEntry) → first_left said asking (map hidden_entry keys) ≡ option_map hidden_entry (first_left said asking keys)
left_hidden said asking [] = refl
left_hidden said asking (key ∷ keys) =
    find_step key (first_left said asking (map hidden_entry keys)) (first_left said asking keys) (not (is_passed_over said asking (hidden_entry key))) (not (is_passed_over said asking key)) (ap not (passed_hidden said asking key)) (left_hidden said asking keys)

-- what is told of a search: of a key that a user is asked about its number and its public text, and of one that is chosen nothing
pub data ShownFound : Type 0 where
  Chooses : ShownFound
  WantsConsent : (serial : ℕ) (text : List ℕ) → ShownFound
  WantsKey : ShownFound
  IsDenied : ShownFound
  FindsNone : ShownFound
  HasOffers : (list : List ℕ) → ShownFound
  HasPick : ShownFound

abbrev pub shown_found : Found → ShownFound
shown_found (Chosen key) = Chooses
shown_found (AsksConsent key) = WantsConsent key.serial (public_text key.tuple)
shown_found AsksKey = WantsKey
shown_found Denied = IsDenied
shown_found NoneServes = FindsNone
shown_found (Offered list) = HasOffers list
shown_found (Picked place) = HasPick

text_again : (key : List Attr) → public_text (map hidden key) ≡ public_text key
unfolding public_text
text_again key = ap printed_text (key_hidden_again key)

one_hidden : (said : Said) (key : KeyEntry) → shown_found (one_left said (hidden_entry key)) ≡ shown_found (one_left said key)
unfolding hidden_entry
one_hidden said key =
    ap (λ (b : Bool). shown_found (cond (b && not (is_among said.agreed key)) (AsksConsent (record { tuple = map hidden key.tuple; serial = key.serial })) (Chosen (record { tuple = map hidden key.tuple; serial = key.serial })))) (named_in (codes "confirm") key.tuple)
    ∙ by_it (wants_consent key && not (is_among said.agreed key))
  where
    by_it : (b : Bool) → shown_found (cond b (AsksConsent (record { tuple = map hidden key.tuple; serial = key.serial })) (Chosen (record { tuple = map hidden key.tuple; serial = key.serial }))) ≡ shown_found (cond b (AsksConsent key) (Chosen key))
    by_it true = ap (WantsConsent key.serial) (text_again key.tuple)
    by_it false = refl

at_hidden : (said : Said) (asking : Asking) (keys : List KeyEntry) (o : Option KeyEntry) → shown_found (found_at said asking (map hidden_entry keys) (option_map hidden_entry o)) ≡ shown_found (found_at said asking keys o)
at_hidden said asking keys (Some key) = one_hidden said key
at_hidden said asking keys None =
    ap (λ (b : Bool). shown_found (cond (b || ltb 0 (length said.denied)) Denied (cond (asking.needkey && not said.asked) AsksKey NoneServes)))
    (any_entry_hidden (is_passed_over said asking) (is_passed_over said asking) (passed_hidden said asking) keys)

among_hidden : (said : Said) (asking : Asking) (keys : List KeyEntry) → shown_found (found_among said asking (map hidden_entry keys)) ≡ shown_found (found_among said asking keys)
among_hidden said asking keys = ap (λ (o : Option KeyEntry). shown_found (found_at said asking (map hidden_entry keys) o)) (left_hidden said asking keys) ∙ at_hidden said asking keys (first_left said asking keys)

pub found_hidden : (template : List Attr) (role : List ℕ) (said : Said) (asking : Asking) (list : KeyList) → list_all is_public template ≡ true → shown_found (found_by template role said asking (hidden_list list)) ≡ shown_found (found_by template role said asking list)
unfolding found_by
found_hidden template role said asking list open_ = ap (λ (keys : List KeyEntry). shown_found (found_among said asking keys)) (serving_hidden template role list open_) ∙ among_hidden said asking (serving template role list)

-- ---- offers

dom_hidden : (template : List Attr) (role : List ℕ) (key : KeyEntry) → list_all is_public template ≡ true → dom_of template role (hidden_entry key) ≡ dom_of template role key
unfolding hidden_entry
dom_hidden template role key open_ =
    ap (λ (b : Bool). cond b (value_of (codes "dom") (map hidden key.tuple)) None) (serves_hidden template role open_ key)
    ∙ ap (λ (o : Option (List ℕ)). cond (serves template role key) o None) (value_hidden (codes "dom") key.tuple refl)

doms_hidden : (template : List Attr) (role : List ℕ) (keys : List KeyEntry) → list_all is_public template ≡ true → doms_of template role (map hidden_entry keys) ≡ doms_of template role keys
doms_hidden template role [] open_ = refl
doms_hidden template role (key ∷ keys) open_ = rw (dom_hidden template role key open_, doms_hidden template role keys open_) refl

pub offered_hidden : (template : List Attr) (role : List ℕ) (list : KeyList) → list_all is_public template ≡ true → offered_by template role (hidden_list list) ≡ offered_by template role list
unfolding offers
offered_hidden template role list open_ = ap (λ (doms : List (List ℕ)). offers_text (fitting most_offered (map offer_of (each_once doms)))) (doms_hidden template role list.keys open_)
