-- Words that say bytes, a name or a kind: what they are, and that they are so read again.
use Rattle.std.proofs.Common.{◌≡◌, ℕ, List, [], ◌∷◌, Bool, true, false, cond, codes, Some, Result, Ok, Err, refl, sym, ap, ◌∙◌, inl, inr, arith, subst, bytes_eq}
use Rattle.std.specs.Result.{result_ok}
use Rattle.std.proofs.lemmas.Slice.Eq.{bytes_eq-Decides}
use Rattle.hex.specs.Hex.{decode_of}
use Rattle.wire_base.specs.Texts.{is_text}
use Rattle.symbolic_runs.specs.declared.kind.MacKind.{MacKind}
use Rattle.symbolic_runs.specs.declared.kind.MacKind.TheVariants.{Apop, Cram}
use Rattle.trace_labels.specs.Words.{Word, IsDigits, IsHex, IsKeyName}
use Rattle.trace_labels.specs.Terms.{kind_word}
use Rattle.trace_labels.specs.Reading.{digits_of, hex_of, name_of, text_in, kind_of, kinds}
use Rattle.trace_labels.proofs.Parts.{same_some, bind_parts, if_parts, find_parts}

ok_parts : {A E : Type 0} (r : Result A E) (a : A) → result_ok r ≡ Some a → r ≡ Ok a
ok_parts (Ok x) a h = ap Ok (same_some x a h)
ok_parts (Err e) a h = absurd cc

pub digits_parts : (word bytes : List ℕ) → digits_of word ≡ Some bytes → IsDigits bytes word
digits_parts [] bytes h = absurd cc
digits_parts (b ∷ word) bytes h = (omega arith, ok_parts (decode_of (b ∷ word)) bytes h)

pub digits_again : (word bytes : List ℕ) → IsDigits bytes word → digits_of word ≡ Some bytes
digits_again [] bytes h = absurd (omega (arith, h.0))
digits_again (b ∷ word) bytes h = ap result_ok h.1

hex_by : (word bytes : List ℕ) (t : Bool) → bytes_eq word (codes "-") ≡ t → cond t (Some []) (digits_of word) ≡ Some bytes → IsHex bytes word
hex_by word bytes true e h = inl ((bytes_eq-Decides word (codes "-")).0 e, sym (same_some [] bytes h))
hex_by word bytes false e h = inr (digits_parts word bytes h)

pub hex_parts : (word bytes : List ℕ) → hex_of word ≡ Some bytes → IsHex bytes word
hex_parts word bytes h = hex_by word bytes (bytes_eq word (codes "-")) refl h

digits_by : (word bytes : List ℕ) (t : Bool) → bytes_eq word (codes "-") ≡ t → IsDigits bytes word → cond t (Some []) (digits_of word) ≡ Some bytes
digits_by word bytes true e h = absurd (
    let dash : word ≡ codes "-" = (bytes_eq-Decides word (codes "-")).0 e in
    let bad : decode_of (codes "-") ≡ Ok bytes = ap decode_of (sym dash) ∙ h.1 in
    cc)
digits_by word bytes false e h = digits_again word bytes h

pub hex_again : (word bytes : List ℕ) → IsHex bytes word → hex_of word ≡ Some bytes
hex_again word bytes (inl h) = rw (h.0, h.1) refl
hex_again word bytes (inr h) = digits_by word bytes (bytes_eq word (codes "-")) refl h

pub name_parts : (word name : List ℕ) → name_of word ≡ Some name → IsKeyName name word
name_parts word name h =
    let found = bind_parts (digits_of word) text_in name h in
    let text = if_parts (is_text found.0) found.0 name found.2 in
    subst (λ n. IsKeyName n word) text.1 (digits_parts word found.0 found.1, text.0)

pub name_again : (word name : List ℕ) → IsKeyName name word → name_of word ≡ Some name
name_again word name h = rw (digits_again word name h.0, h.1) refl

pub kind_parts : (word : Word) (kind : MacKind) → kind_of word ≡ Some kind → word ≡ kind_word kind
kind_parts word kind h = (bytes_eq-Decides word (kind_word kind)).0 (find_parts (λ k. bytes_eq word (kind_word k)) kinds kind h)

pub kind_again : (kind : MacKind) → kind_of (kind_word kind) ≡ Some kind
kind_again Apop = refl
kind_again Cram = refl
