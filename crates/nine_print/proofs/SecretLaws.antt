-- What stands behind the `=` of a secret changes nothing of what is shown.
use Rattle.std.proofs.Common.{◌≡◌, ℕ, zero, suc, List, [], ◌∷◌, ◌++◌, length, take, Bool, true, false, cond, eqb, ltb, ◌&&◌, ◌||◌, not, refl, sym, ap, ◌∙◌, length-append, arith, inl, inr}
use Rattle.std.specs.Prelude.{codes}
use Rattle.std.specs.List.{list_all}
use Rattle.std.proofs.lemmas.Bool.{cases_Bool}
use Rattle.nine.specs.declared.message.TBody.TheVariants.{Write}
use Rattle.nine.specs.declared.message.RBody.TheVariants.{Read}
use Rattle.nine_print.specs.Values.{number_text, fid_text, tag_text, open_part, is_in_line, is_printable, open_front, shown_part, piece_text, content_text}
use Rattle.nine_print.specs.Lines.{t_line, r_line}

all_first : (b : ℕ) (name : List ℕ) → list_all is_in_line (b ∷ name) ≡ true → (eqb b 10 ≡ false) × (list_all is_in_line name ≡ true)
all_first b name h = elim (cases_Bool (eqb b 10)) [
  | inl is ↦ absurd (let f : false ≡ true = rw is at h in (cc))
  | inr not ↦ (not, rw not at h)
]

-- behind a `!`, up to the first `=` of the line
name_same : (n : ℕ) (name value other : List ℕ) → list_all is_in_line name ≡ true → open_part true (take n (name ++ 61 ∷ value)) ≡ open_part true (take n (name ++ 61 ∷ other))
name_same zero name value other h = refl
name_same (suc n) [] value other h = refl
name_same (suc n) (b ∷ name) value other h =
    let first = all_first b name h in
    rw first.0 (ap (λ (r : List ℕ). cond (eqb b 61) (b ∷ []) (b ∷ r)) (name_same n name value other first.1))

marked_same : (marked : Bool) (n : ℕ) (name value other : List ℕ) → list_all is_in_line name ≡ true → open_part marked (take n (33 ∷ (name ++ 61 ∷ value))) ≡ open_part marked (take n (33 ∷ (name ++ 61 ∷ other)))
marked_same marked zero name value other h = refl
marked_same true (suc n) name value other h = ap (λ (r : List ℕ). 33 ∷ r) (name_same n name value other h)
marked_same false (suc n) name value other h = ap (λ (r : List ℕ). 33 ∷ r) (name_same n name value other h)

-- whatever stands before the `!`
open_same : (marked : Bool) (n : ℕ) (front name value other : List ℕ) → list_all is_in_line name ≡ true → open_part marked (take n (front ++ 33 ∷ name ++ 61 ∷ value)) ≡ open_part marked (take n (front ++ 33 ∷ name ++ 61 ∷ other))
open_same marked n [] name value other h = marked_same marked n name value other h
open_same marked zero (b ∷ front) name value other h = refl
open_same marked (suc n) (b ∷ front) name value other h =
    ap (λ (r : List ℕ). cond (marked && eqb b 61) (b ∷ []) (b ∷ r)) (open_same (cond (eqb b 10) false (marked || eqb b 33)) n front name value other h)

content_same : (secrets : Bool) (name c d : List ℕ) → length c ≡ length d → shown_part secrets c ≡ shown_part secrets d → content_text secrets name c ≡ content_text secrets name d
unfolding content_text
content_same secrets name c d len same =
    ap (λ (p : List ℕ). number_text name (length c) ++ 32 ∷ piece_text p ++ cond (ltb (length p) (length c)) (codes "..") []) same
    ∙ ap (λ (n : ℕ). number_text name n ++ 32 ∷ piece_text (shown_part secrets d) ++ cond (ltb (length (shown_part secrets d)) n) (codes "..") []) len

front_same : (front name value other : List ℕ) → list_all is_in_line name ≡ true → open_front (front ++ 33 ∷ name ++ 61 ∷ value) ≡ open_front (front ++ 33 ∷ name ++ 61 ∷ other)
unfolding open_front
front_same front name value other h = open_same false 64 front name value other h

secret_same : (secrets : Bool) (label front name value other : List ℕ) → list_all is_in_line name ≡ true → length value ≡ length other → content_text secrets label (front ++ 33 ∷ name ++ 61 ∷ value) ≡ content_text secrets label (front ++ 33 ∷ name ++ 61 ∷ other)
secret_same secrets label front name value other h len = content_same secrets label (front ++ 33 ∷ name ++ 61 ∷ value) (front ++ 33 ∷ name ++ 61 ∷ other)
    (omega (arith, length-append (front ++ 33 ∷ name) (61 ∷ value), length-append (front ++ 33 ∷ name) (61 ∷ other), len))
    (ap (λ (p : List ℕ). cond (secrets || is_printable p) p []) (front_same front name value other h))

-- of what isn't text nothing is shown
hidden_same : (label c d : List ℕ) → length c ≡ length d → is_printable (open_front c) ≡ false → is_printable (open_front d) ≡ false → content_text false label c ≡ content_text false label d
hidden_same label c d len x y = content_same false label c d len (ap (λ (b : Bool). cond b (open_front c) []) x ∙ sym (ap (λ (b : Bool). cond b (open_front d) []) y))

write_same : (secrets other : Bool) (tag fid offset : ℕ) (c d : List ℕ) → content_text secrets (codes " count ") c ≡ content_text other (codes " count ") d
    → t_line secrets (record { tag = tag; body = Write fid offset c }) ≡ t_line other (record { tag = tag; body = Write fid offset d })
unfolding t_line
write_same secrets other tag fid offset c d same = ap (λ (x : List ℕ). codes "Twrite" ++ tag_text tag ++ (fid_text (codes " fid ") fid ++ number_text (codes " offset ") offset ++ x) ++ 10 ∷ []) same

read_same : (secrets other : Bool) (tag : ℕ) (c d : List ℕ) → content_text secrets (codes " count ") c ≡ content_text other (codes " count ") d
    → r_line secrets (record { tag = tag; body = Read c }) ≡ r_line other (record { tag = tag; body = Read d })
unfolding r_line
read_same secrets other tag c d same = ap (λ (x : List ℕ). codes "Rread" ++ tag_text tag ++ x ++ 10 ∷ []) same

pub same_write : (secrets : Bool) (tag fid offset : ℕ) (front name value other : List ℕ) → list_all is_in_line name ≡ true → length value ≡ length other
    → t_line secrets (record { tag = tag; body = Write fid offset (front ++ 33 ∷ name ++ 61 ∷ value) }) ≡ t_line secrets (record { tag = tag; body = Write fid offset (front ++ 33 ∷ name ++ 61 ∷ other) })
same_write secrets tag fid offset front name value other h len =
    write_same secrets secrets tag fid offset (front ++ 33 ∷ name ++ 61 ∷ value) (front ++ 33 ∷ name ++ 61 ∷ other) (secret_same secrets (codes " count ") front name value other h len)

pub same_read : (secrets : Bool) (tag : ℕ) (front name value other : List ℕ) → list_all is_in_line name ≡ true → length value ≡ length other
    → r_line secrets (record { tag = tag; body = Read (front ++ 33 ∷ name ++ 61 ∷ value) }) ≡ r_line secrets (record { tag = tag; body = Read (front ++ 33 ∷ name ++ 61 ∷ other) })
same_read secrets tag front name value other h len =
    read_same secrets secrets tag (front ++ 33 ∷ name ++ 61 ∷ value) (front ++ 33 ∷ name ++ 61 ∷ other) (secret_same secrets (codes " count ") front name value other h len)

pub hidden_write : (tag fid offset : ℕ) (c d : List ℕ) → length c ≡ length d → is_printable (open_front c) ≡ false → is_printable (open_front d) ≡ false
    → t_line false (record { tag = tag; body = Write fid offset c }) ≡ t_line false (record { tag = tag; body = Write fid offset d })
hidden_write tag fid offset c d len x y = write_same false false tag fid offset c d (hidden_same (codes " count ") c d len x y)

pub hidden_read : (tag : ℕ) (c d : List ℕ) → length c ≡ length d → is_printable (open_front c) ≡ false → is_printable (open_front d) ≡ false
    → r_line false (record { tag = tag; body = Read c }) ≡ r_line false (record { tag = tag; body = Read d })
hidden_read tag c d len x y = read_same false false tag c d (hidden_same (codes " count ") c d len x y)
