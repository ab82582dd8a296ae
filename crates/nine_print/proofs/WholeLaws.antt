-- Whole frames that are read without faults are shown, unless memory runs out.
use Rattle.std.proofs.Common.{◌≡◌, ℕ, ◌+◌, ◌≤◌, List, length, Option, Some, Bool, refl, ap, subst, length-append, ◌⊎◌, inl, inr, arith}
use Rattle.std.specs.Io.KnownBytes.{Consumes, IsAtEnd}
use Rattle.nine.specs.Streams.{IsFrames}
use Rattle.nine.proofs.StreamLaws.{no_bad_size}
use Rattle.nine.proofs.InputLaws.{front_of, all_read}
use Rattle.nine_print.specs.declared.stream.ShowEnd.{ShowEnd}
use Rattle.nine_print.specs.declared.stream.ShowEnd.TheVariants.{Fine, ReadFault, WriteFault, BadSize, Torn, NoMemory, Flood}
use Rattle.nine_print.specs.Shown.{most_frame, most_input, IsBadText, IsTornText, Shows}

module _ (secrets : Bool) where
  no_flood : (content input : List ℕ) (left : Option (List ℕ)) → Consumes (Some content) left input → length content ≤ most_input → most_input + 1 ≤ length input → ⊥
  no_flood content input left taken few over =
      let r = front_of content input left taken in
      omega (arith, few, over, ap length r.1, length-append input r.0)

  no_tear : (content input text : List ℕ) (left : Option (List ℕ)) → Consumes (Some content) left input → IsAtEnd left → IsFrames most_frame content → IsTornText secrets input text → ⊥
  no_tear content input text left taken end whole t =
      let there : IsFrames most_frame input = subst (IsFrames most_frame) (all_read content input left taken end) whole in
      omega (arith, t.inside, ap length there)

  no_bad : (content input text : List ℕ) (left : Option (List ℕ)) → Consumes (Some content) left input → IsFrames most_frame content → IsBadText secrets input text → ⊥
  no_bad content input text left taken whole b = let r = front_of content input left taken in no_bad_size most_frame b.size content input r.0 whole r.1 b.bad

  pub two_left : (end : ShowEnd) (content : List ℕ) (old left before after : Option (List ℕ)) → Shows secrets end old left before after → old ≡ Some content → IsFrames most_frame content → length content ≤ most_input
      → (end ≡ ReadFault → ⊥) → (end ≡ WriteFault → ⊥) → (end ≡ Fine) ⊎ (end ≡ NoMemory)
  two_left Fine content old left before after s told whole few read write = inl refl
  two_left ReadFault content old left before after s told whole few read write = absurd (read refl)
  two_left WriteFault content old left before after s told whole few read write = absurd (write refl)
  two_left BadSize content old left before after s told whole few read write = absurd (no_bad content s.input s.ends.0 left (rw told at s.read) whole s.ends.1)
  two_left Torn content old left before after s told whole few read write = absurd (no_tear content s.input s.ends.1.0 left (rw told at s.read) s.ends.0 whole s.ends.1.1)
  two_left NoMemory content old left before after s told whole few read write = inr refl
  two_left Flood content old left before after s told whole few read write = absurd (no_flood content s.input left (rw told at s.read) few (s.flood.0 refl))
