-- A printed tuple is its first attribute and the others.
use Rattle.std.proofs.Common.{◌≡◌, ℕ, ◌≤◌, List, [], ◌∷◌, ◌++◌, ◌-◌, length, map, take, drop, get_or, refl, sym, ap, ◌∙◌, arith}
use Rattle.std.specs.List.{flat_map, join_with_byte}
use Rattle.std.proofs.lemmas.List.{append-nil, map-id, take_all}
use Rattle.attr_tuples.specs.declared.attr.Attr.{Attr}
use Rattle.attr_tuples.specs.Printing.{attr_text, printed_text}
use Rattle.attr_tuples.specs.Steps.{seen, others_text}
use Rattle.attr_tuples.specs.declared.print.Secrets.{Secrets}
use Rattle.attr_tuples.specs.declared.print.Secrets.TheVariants.{Printed}

-- pieces joined are the first one, and then each other behind the byte
pub join-cons : (c : ℕ) (x : List ℕ) (xs : List (List ℕ)) → join_with_byte c (x ∷ xs) ≡ x ++ flat_map (λ y. c ∷ y) xs
join-cons c x [] = sym (append-nil x)
join-cons c x (y ∷ ys) = ap (λ (rest : List ℕ). x ++ c ∷ rest) (join-cons c y ys)

-- what a printed tuple has behind its first attribute
pub others_joined : (secrets : Secrets) (attrs : List Attr) → flat_map (λ y. 32 ∷ y) (map attr_text (map (seen secrets) attrs)) ≡ others_text secrets attrs
others_joined secrets [] = refl
others_joined secrets (a ∷ attrs) = ap (λ (rest : List ℕ). (32 ∷ attr_text (seen secrets a)) ++ rest) (others_joined secrets attrs)

-- a printed tuple is its first attribute, and then each other behind a blank
pub printed_cons : (secrets : Secrets) (a : Attr) (attrs : List Attr) → printed_text (map (seen secrets) (a ∷ attrs)) ≡ attr_text (seen secrets a) ++ others_text secrets attrs
unfolding printed_text
printed_cons secrets a attrs =
    join-cons 32 (attr_text (seen secrets a)) (map attr_text (map (seen secrets) attrs))
    ∙ ap (λ (rest : List ℕ). attr_text (seen secrets a) ++ rest) (others_joined secrets attrs)

-- where secrets are printed a tuple is printed as it is
pub printed_as_is : (attrs : List Attr) → printed_text (map (seen Printed) attrs) ≡ printed_text attrs
printed_as_is attrs = ap printed_text (map-id attrs)

-- the same of the first attribute and the others of a list that isn't empty
pub first_and_others : (secrets : Secrets) (attrs : List Attr) (first : Attr) → 1 ≤ length attrs → first ≡ get_or attrs 0 first → attr_text (seen secrets first) ++ others_text secrets (take (length attrs - 1) (drop 1 attrs)) ≡ printed_text (map (seen secrets) attrs)
first_and_others secrets [] first long e = absurd (omega arith)
first_and_others secrets (a ∷ attrs) first long e =
    ap (λ (x : Attr). attr_text (seen secrets x) ++ others_text secrets (take (length (a ∷ attrs) - 1) attrs)) e
    ∙ ap (λ (xs : List Attr). attr_text (seen secrets a) ++ others_text secrets xs) (take_all (length (a ∷ attrs) - 1) attrs (omega arith))
    ∙ sym (printed_cons secrets a attrs)
