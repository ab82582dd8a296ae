-- Valid input without faults leaves two statuses.
use Rattle.std.proofs.Common.{◌≡◌, ℕ, ◌≤◌, List, [], ◌++◌, length, Option, Some, refl, ap, subst, ◌∙◌, inl, inr, arith, append_assoc, append-nil, length-append}
use Rattle.std.specs.Prelude.{◌⊎◌}
use Rattle.nine.specs.Streams.{IsFrames}
use Rattle.nine.proofs.StreamLaws.{no_bad_size}
use Rattle.nine.proofs.InputLaws.{front_of, all_read}
use Rattle.auth_program.specs.declared.status.Status.{Status}
use Rattle.auth_program.specs.declared.status.Status.TheVariants.{Fine, Usage, ReadFault, WriteFault, WordFault, BadFrame, Torn, BadScript, BadTables, AsEnded, NoMemory, Flood}
use Rattle.factotum_program.specs.Pipe.{most_frame}
use Rattle.factotum_program.specs.Sights.{Sight}
use Rattle.factotum_program.specs.Commands.{most_input, MeetsBadFrame, EndsInside, EndsSo, Floods}

pub no_flood : (content : List ℕ) (left_old left_new : Option (List ℕ)) (old new : Sight) → left_old ≡ Some content → length content ≤ most_input → Floods left_old left_new old new → ⊥
no_flood content left_old left_new old new told few f =
    let r = front_of content (f.input ++ f.behind) left_new (rw told at f.read.taken) in
    omega (arith, few, f.over, f.read.full f.over, ap length r.1, length-append (f.input ++ f.behind) r.0, length-append f.input f.behind)

pub no_tear : (at : ℕ) (content : List ℕ) (left_old left_new : Option (List ℕ)) (old new : Sight) → left_old ≡ Some content → IsFrames most_frame content → EndsInside at left_old left_new old new → ⊥
no_tear at content left_old left_new old new told whole t =
    let same : content ≡ t.input = all_read content (t.input ++ []) left_new (rw told at t.read.taken) t.at_end ∙ append-nil t.input in
    let there : IsFrames most_frame t.input = subst (IsFrames most_frame) same whole in
    omega (arith, t.inside, t.place, ap length there)

pub no_bad : (at size : ℕ) (content : List ℕ) (left_old left_new : Option (List ℕ)) (old new : Sight) → left_old ≡ Some content → IsFrames most_frame content → MeetsBadFrame at size left_old left_new old new → ⊥
no_bad at size content left_old left_new old new told whole b =
    let r = front_of content (b.input ++ b.behind) left_new (rw told at b.read.taken) in
    no_bad_size most_frame size content b.input (b.behind ++ r.0) whole (r.1 ∙ append_assoc b.input b.behind r.0) b.bad

-- an end that no other explains leaves two statuses
pub two_left : (status : Status) (content : List ℕ) (left_old left_new : Option (List ℕ)) (old new : Sight) → left_old ≡ Some content → IsFrames most_frame content → length content ≤ most_input
    → (status ≡ ReadFault → ⊥) → (status ≡ WriteFault → ⊥) → (status ≡ WordFault → ⊥) → EndsSo status left_old left_new old new → (status ≡ Fine) ⊎ (status ≡ NoMemory)
two_left Fine content lo ln old new told whole few read write draw ends = inl refl
two_left Usage content lo ln old new told whole few read write draw ends = absurd ends
two_left ReadFault content lo ln old new told whole few read write draw ends = absurd (read refl)
two_left WriteFault content lo ln old new told whole few read write draw ends = absurd (write refl)
two_left WordFault content lo ln old new told whole few read write draw ends = absurd (draw refl)
two_left (BadFrame at size) content lo ln old new told whole few read write draw ends = absurd (no_bad at size content lo ln old new told whole ends)
two_left (Torn at) content lo ln old new told whole few read write draw ends = absurd (no_tear at content lo ln old new told whole ends)
two_left (BadScript line cause) content lo ln old new told whole few read write draw ends = absurd ends
two_left (BadTables speaks line) content lo ln old new told whole few read write draw ends = absurd ends
two_left (AsEnded end) content lo ln old new told whole few read write draw ends = absurd ends
two_left NoMemory content lo ln old new told whole few read write draw ends = inr refl
two_left (Flood limit) content lo ln old new told whole few read write draw ends = absurd (no_flood content lo ln old new told few ends.1)
