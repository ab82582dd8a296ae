use Rattle.std.proofs.Common.{◌≡◌, List, ℕ, length}
use Rattle.nine_print.specs.Showing.{Handed, taken_by}
use Rattle.nine_print.proofs.stream.show_frames.Given as goal

abbrev pub invariant-loop : goal.invariant-loop
invariant-loop l = record {
  handed : (so_far stream : List ℕ) (some : List (List ℕ)) → Handed l.secrets so_far stream some l.fn.showing.framer l.fn.showing.lines → (all : List (List ℕ)) × Handed l.secrets so_far stream all l.showing.framer l.showing.lines;
  fed : taken_by l.showing ≡ taken_by l.fn.showing;
}

abbrev pub decreases-loop : goal.decreases-loop
decreases-loop l = length l.showing.framer.held
