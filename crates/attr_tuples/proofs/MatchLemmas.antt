-- The first text of a name, found by going over the attributes.
use Rattle.std.proofs.Common.{◌≡◌, ℕ, ◌+◌, ◌<◌, List, [], ◌∷◌, ◌++◌, length, take, drop, get_or, Option, Some, None, sym, ap, ◌∙◌}
use Rattle.std.specs.List.{cons_option, slice_get}
use Rattle.std.proofs.lemmas.List.{take_more, take-append-drop}
use Rattle.std.proofs.lemmas.List.Elements.{filter_map-append}
use Rattle.attr_tuples.specs.declared.attr.Attr.{Attr}
use Rattle.attr_tuples.specs.Matching.{text_for, texts_of, value_of}

-- the texts of one more attribute
texts_more : (name : List ℕ) (attrs : List Attr) (i : ℕ) (a : Attr) → i < length attrs → a ≡ get_or attrs i a →
    texts_of name (take (i + 1) attrs) ≡ texts_of name (take i attrs) ++ texts_of name (a ∷ [])
texts_more name attrs i a lt is =
    ap (texts_of name) (take_more attrs i a lt) ∙ filter_map-append (text_for name) (take i attrs) (get_or attrs i a ∷ [])
    ∙ ap (λ (x : Attr). texts_of name (take i attrs) ++ texts_of name (x ∷ [])) (sym is)

pub none_yet : (name : List ℕ) (attrs : List Attr) (i : ℕ) (a : Attr) → i < length attrs → a ≡ get_or attrs i a →
    texts_of name (take i attrs) ≡ [] → text_for name a ≡ None → texts_of name (take (i + 1) attrs) ≡ []
none_yet name attrs i a lt is none here =
    texts_more name attrs i a lt is ∙ ap (λ (xs : List (List ℕ)). xs ++ texts_of name (a ∷ [])) none ∙ ap (λ (x : Option (List ℕ)). cons_option x []) here

pub first_text : (name : List ℕ) (attrs : List Attr) (i : ℕ) (a : Attr) (text : List ℕ) → i < length attrs → a ≡ get_or attrs i a →
    texts_of name (take i attrs) ≡ [] → text_for name a ≡ Some text → value_of name attrs ≡ Some text
unfolding value_of
first_text name attrs i a text lt is none here =
    let so_far = texts_more name attrs i a lt is ∙ ap (λ (xs : List (List ℕ)). xs ++ texts_of name (a ∷ [])) none ∙ ap (λ (x : Option (List ℕ)). cons_option x []) here in
    let rest = texts_of name (drop (i + 1) attrs) in
    ap (λ (xs : List Attr). slice_get (texts_of name xs) 0) (sym (take-append-drop (i + 1) attrs))
    ∙ ap (λ (xs : List (List ℕ)). slice_get xs 0) (filter_map-append (text_for name) (take (i + 1) attrs) (drop (i + 1) attrs))
    ∙ ap (λ (xs : List (List ℕ)). slice_get (xs ++ rest) 0) so_far

pub no_text : (name : List ℕ) (attrs : List Attr) → texts_of name attrs ≡ [] → value_of name attrs ≡ None
unfolding value_of
no_text name attrs none = ap (λ (xs : List (List ℕ)). slice_get xs 0) none
