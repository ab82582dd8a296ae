-- Whole frames at the front of what a framer holds, one after the other.
use Rattle.std.proofs.Common.{◌≡◌, ℕ, ◌+◌, List, [], ◌∷◌, ◌++◌, length, take, drop, refl, sym, ap, subst, ◌∙◌, append_assoc, append-nil, length-append, length-drop, take-append-drop, take-add, arith}
use Rattle.std.specs.List.{AllByRecursion, concat}
use Rattle.std.proofs.lemmas.List.{length-take-le}
use Rattle.std.proofs.lemmas.List.Folds.{concat-append}
use Rattle.nine.specs.Streams.{IsWhole, front, frames, IsFrames}
use Rattle.nine.specs.Framed.{Framing, passed}
use Rattle.nine.specs.Framing.{HasHandedOut, IsWithin}
use Rattle.nine.proofs.StreamLaws.{front_within, handed_then, no_frames, whole_there}
use Rattle.nine.specs.Batches.{AreFrames}

pub none_yet : (limit : ℕ) (held : List ℕ) → AreFrames limit held 0 0
none_yet limit held = record { some = []; parts = refl; count_is = refl; within = omega arith; each = tt }

both_each : {A : Type 0} (P : A → Type 0) (xs ys : List A) → AllByRecursion P xs → AllByRecursion P ys → AllByRecursion P (xs ++ ys)
both_each P [] ys p q = q
both_each P (x ∷ xs) ys p q = (p.0, both_each P xs ys p.1 q)

-- one frame more
pub one_more : (limit : ℕ) (held : List ℕ) (count size n : ℕ) → AreFrames limit held count size → front limit (drop size held) ≡ IsWhole n → AreFrames limit held (count + 1) (size + n)
one_more limit held count size n a is =
    let frame = take n (drop size held) in
    let there = whole_there limit (drop size held) n is in
    record {
      some = a.some ++ frame ∷ [];
      parts = take-add size n held ∙ ap (λ (l : List ℕ). l ++ frame) a.parts ∙ sym (concat-append a.some (frame ∷ []) ∙ ap (λ (l : List ℕ). concat a.some ++ l) (append-nil frame));
      count_is = omega (arith, a.count_is, length-append a.some (frame ∷ []));
      within = omega (arith, there, length-drop size held, a.within);
      each = both_each (IsWithin limit) a.some (frame ∷ []) a.each (front_within limit (drop size held) n is, tt);
    }

-- they are the frames of their bytes
pub their_frames : (limit : ℕ) (held : List ℕ) (count size : ℕ) → (a : AreFrames limit held count size) → frames limit (take size held) ≡ a.some
their_frames limit held count size a =
    ap (frames limit) (a.parts ∙ sym (append-nil (concat a.some))) ∙ handed_then limit a.some [] a.each ∙ ap (λ (fs : List (List ℕ)). a.some ++ fs) (no_frames limit) ∙ append-nil a.some

pub are_whole : (limit : ℕ) (held : List ℕ) (count size : ℕ) → (a : AreFrames limit held count size) → IsFrames limit (take size held)
are_whole limit held count size a = a.parts ∙ ap concat (sym (their_frames limit held count size a))

-- and the next ones of the stream
pub next_ones : (f : Framing) (stream : List ℕ) (handed : List (List ℕ)) (count size : ℕ) → HasHandedOut f stream handed → AreFrames f.limit f.held count size → HasHandedOut (passed f size) stream (handed ++ frames f.limit (take size f.held))
next_ones f stream handed count size has a =
    let them = their_frames f.limit f.held count size a in
    let joined : concat (handed ++ a.some) ≡ concat handed ++ take size f.held = concat-append handed a.some ∙ ap (λ (l : List ℕ). concat handed ++ l) (sym a.parts) in
    let long : length (take size f.held) ≡ size = length-take-le size f.held a.within in
    subst (λ (fs : List (List ℕ)). HasHandedOut (passed f size) stream (handed ++ fs)) (sym them) (record {
      parts = has.parts ∙ ap (λ (l : List ℕ). concat handed ++ l) (sym (take-append-drop size f.held)) ∙ sym (append_assoc (concat handed) (take size f.held) (drop size f.held)) ∙ ap (λ (l : List ℕ). l ++ drop size f.held) (sym joined);
      place = omega (arith, has.place, ap length joined, length-append (concat handed) (take size f.held), long);
      each = both_each (IsWithin f.limit) handed a.some has.each a.each;
    })
