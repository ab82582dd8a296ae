-- What holds of the fields of a message and of a whole frame, whatever the direction.
use Rattle.std.proofs.Common.{◌≡◌, ℕ, ◌+◌, ◌<◌, ◌^◌, List, [], ◌++◌, length, drop, cond, eqb, Result, Ok, Err, refl, sym, ap, subst, ◌∙◌, append-nil, arith, inl, inr}
use Rattle.std.proofs.lemmas.Bool.{eqb-true, cases_Bool}
use Rattle.std.specs.Int.{w8, w16, w32, w64, to_le_bytes}
use Rattle.wire_base.specs.Readers.{Reader, number, converted}
use Rattle.wire_base.proofs.ReaderLaws.{AreBytes, Taken, Taken-then, Spells, bind_ok, ok_is, wide8, wide16, wide32, wide64, number_spells}
use Rattle.nine.specs.Messages.{frame}
use Rattle.nine.specs.Decoding.{no_message, as_one}

-- a reader of one kind of message takes its fields and nothing else
abbrev pub Reads : {B : Type 0} → (B → ℕ) → (B → List ℕ) → (B → Type 0) → ℕ → Reader B → Type 0
Reads {B} kind_of fields_of Fits kind read = (bytes : List ℕ) (at next : ℕ) (b : B) → AreBytes bytes → read bytes at ≡ Ok (b, next) → (kind_of b ≡ kind) × Taken bytes at next (fields_of b) × Fits b

converted_ok : {A B : Type 0} (f : A → B) (read : Reader A) (bytes : List ℕ) (at next : ℕ) (b : B) → converted f read bytes at ≡ Ok (b, next) → (x : A) × (f x ≡ b) × (read bytes at ≡ Ok (x, next))
converted_ok {A} {B} f read bytes at next b e =
    let c = bind_ok (read bytes at) (λ x. Ok (f x.0, x.1)) (b, next) e in
    let same = ok_is (f c.0.0, c.0.1) (b, next) c.2 in
    (c.0.0, ap (λ (p : B × ℕ). p.0) same, c.1 ∙ ap (λ (n : ℕ). Ok (c.0.0, n)) (ap (λ (p : B × ℕ). p.1) same))

pub reads : {A B : Type 0} (kind_of : B → ℕ) (fields_of : B → List ℕ) (Fits : B → Type 0) (kind : ℕ) (f : A → B) (read : Reader A) (text : A → List ℕ) (P : A → Type 0) → Spells read text P → ((x : A) → kind_of (f x) ≡ kind) → ((x : A) → text x ≡ fields_of (f x)) → ((x : A) → P x → Fits (f x)) → Reads kind_of fields_of Fits kind (converted f read)
reads {A} {B} kind_of fields_of Fits kind f read text P s k t q bytes at next b fits e =
    let c = converted_ok f read bytes at next b e in
    let one = s.taken bytes at next c.0 fits c.2 in
    subst (λ (b : B). (kind_of b ≡ kind) × Taken bytes at next (fields_of b) × Fits b) c.1
    (k c.0, rw (t c.0) at one.0, q c.0 one.1)

-- a choice of two readers
pub chosen_reads : {B : Type 0} (kind_of : B → ℕ) (fields_of : B → List ℕ) (Fits : B → Type 0) (kind k : ℕ) (one other : Reader B) → Reads kind_of fields_of Fits k one → Reads kind_of fields_of Fits kind other → Reads kind_of fields_of Fits kind (cond (eqb kind k) one other)
chosen_reads kind_of fields_of Fits kind k one other p q bytes at next b fits e = elim (cases_Bool (eqb kind k)) [
  | inl is ↦ let r = p bytes at next b fits (rw is at e) in (r.0 ∙ sym (eqb-true kind k is), r.1, r.2)
  | inr not ↦ q bytes at next b fits (rw not at e)
]

pub no_message_reads : {B : Type 0} (kind_of : B → ℕ) (fields_of : B → List ℕ) (Fits : B → Type 0) (kind : ℕ) → Reads kind_of fields_of Fits kind no_message
no_message_reads kind_of fields_of Fits kind bytes at next b fits e = absurd cc

-- a fault that is told at the first byte
one_ok : {A : Type 0} (at : ℕ) (r : Result (A × ℕ) ℕ) (x : A × ℕ) → (elim r as (λ _. Result (A × ℕ) ℕ) [ Ok x ↦ Ok x | Err fault ↦ Err at ]) ≡ Ok x → r ≡ Ok x
one_ok at (Ok y) x e = e
one_ok at (Err fault) x e = absurd cc

pub as_one_spells : {A : Type 0} (read : Reader A) (text : A → List ℕ) (P : A → Type 0) → Spells read text P → Spells (as_one read) text P
as_one_spells read text P s = record {
  taken = λ bytes at next x fits e. s.taken bytes at next x fits (one_ok at (read bytes at) (x, next) e);
  again = λ bytes rest at x fits e. rw (s.again bytes rest at x fits e, as_one) refl;
}

-- ---- numbers

pub n8 : Spells (number w8) (to_le_bytes w8) (λ n. n < 2 ^ 8)
n8 = number_spells w8 (2 ^ 8) wide8

pub n16 : Spells (number w16) (to_le_bytes w16) (λ n. n < 2 ^ 16)
n16 = number_spells w16 (2 ^ 16) wide16

pub n32 : Spells (number w32) (to_le_bytes w32) (λ n. n < 2 ^ 32)
n32 = number_spells w32 (2 ^ 32) wide32

pub n64 : Spells (number w64) (to_le_bytes w64) (λ n. n < 2 ^ 64)
n64 = number_spells w64 (2 ^ 64) wide64

-- ---- whole frames

pub frame_text : ℕ → ℕ → ℕ → List ℕ → List ℕ
frame_text size kind tag fields = to_le_bytes w32 size ++ to_le_bytes w8 kind ++ to_le_bytes w16 tag ++ fields

frame_len : (size kind tag : ℕ) (fields : List ℕ) → length (frame_text size kind tag fields) ≡ 7 + length fields
unfolding frame_text
frame_len size kind tag fields = omega arith

-- the parts of a frame, one behind the other to its end, are all of it
pub frame_taken : (bytes fields : List ℕ) (kind tag five seven last : ℕ) → Taken bytes 0 4 (to_le_bytes w32 (length bytes)) → Taken bytes 4 five (to_le_bytes w8 kind) → Taken bytes 5 seven (to_le_bytes w16 tag) → Taken bytes 7 last fields → drop last bytes ≡ [] → bytes ≡ frame kind tag fields
unfolding frame frame_text
frame_taken bytes fields kind tag five seven last size-is kind-is tag-is fields-is end =
    let kind-part : Taken bytes 4 5 (to_le_bytes w8 kind) = subst (λ (n : ℕ). Taken bytes 4 n (to_le_bytes w8 kind)) kind-is.place kind-is in
    let tag-part : Taken bytes 5 7 (to_le_bytes w16 tag) = subst (λ (n : ℕ). Taken bytes 5 n (to_le_bytes w16 tag)) tag-is.place tag-is in
    let head = Taken-then bytes 0 5 7 _ (to_le_bytes w16 tag) (Taken-then bytes 0 4 5 (to_le_bytes w32 (length bytes)) (to_le_bytes w8 kind) size-is kind-part) tag-part in
    let whole = Taken-then bytes 0 7 last _ fields head fields-is in
    let all : bytes ≡ frame_text (length bytes) kind tag fields = whole.parts ∙ ap (λ (r : List ℕ). frame_text (length bytes) kind tag fields ++ r) end ∙ append-nil (frame_text (length bytes) kind tag fields) in
    all ∙ ap (λ (n : ℕ). frame_text n kind tag fields) (ap length all ∙ frame_len (length bytes) kind tag fields)
