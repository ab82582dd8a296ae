-- What is noted line after line.
use Rattle.std.proofs.Common.{◌≡◌, ℕ, List, [], ◌∷◌, Option, Some, refl, sym, subst, ◌∙◌}
use Rattle.wire_histories.specs.Noted.{Noted}
use Rattle.world_scripts.specs.Scripts.{Numbered, script_lines}
use Rattle.world_history.specs.Acts.{Act}
use Rattle.world_history.specs.Noting.{NotesSo}
use Rattle.world_history.specs.NotingFronts.{NotesFront}
use Rattle.world_history.specs.Scripts.{Played, play, plays}
use Rattle.world_history.proofs.NoteLemmas.{notes_done}
use Rattle.world_run.specs.declared.play.WorldEnd.{WorldEnd}
use Rattle.world_run.specs.declared.play.WorldEnd.TheVariants as ends
use Rattle.world_run.specs.declared.run.Run.{Run}
use Rattle.world_run.specs.Noting.{NotesAll, NotesOn, NotesOne, NotesScript}
use Rattle.world_run.specs.Playing.{Goes}
use Rattle.world_run.specs.Standing.{Stands}
use Rattle.wire_histories.specs.declared.step.Step.{Step}
use Rattle.world_run.proofs.PlayLemmas.{plays_on}

-- the lines that are left behind some come to what all do, and what was noted so far is so
pub record NotesGoing (all left : List Numbered) (first : List Act) (run : Run) (n : Noted) : Type 0 where
  pub acts : List Act
  pub stands : Stands left acts run
  pub same : plays first all ≡ plays acts left
  pub front : NotesFront left acts n

pub noted_first : (all : List Numbered) (first : List Act) (run : Run) (n : Noted) → Stands all first run → NotesFront all first n → NotesGoing all all first run n
noted_first all first run n stands front = record { acts = first; stands = stands; same = refl; front = front }

pub noted_on : (all : List Numbered) (line : Numbered) (left : List Numbered) (first : List Act) (run new : Run) (n m : Noted) (recorded : List Step) (before now : Option (List ℕ))
    → NotesGoing all (line ∷ left) first run n → ((acts : List Act) → Stands (line ∷ left) acts run → Goes line left acts new recorded before now)
    → NotesOn line left run n m → NotesGoing all left first new m
noted_on all line left first run new n m recorded before now k goes noted =
    let g = goes k.acts k.stands in
    record {
      acts = g.act ∷ k.acts;
      stands = g.stands;
      same = k.same ∙ plays_on line left k.acts g.act g.fits;
      front = noted k.acts g.act k.stands g.fits k.front;
    }

pub noted_all : (all left : List Numbered) (first : List Act) (run : Run) (n : Noted) → left ≡ [] → NotesGoing all left first run n → NotesSo (plays first all).acts n
noted_all all left first run n none k =
    let over = subst (λ (ls : List Numbered). NotesGoing all ls first run n) none k in
    subst (λ (p : Played). NotesSo p.acts n) (sym over.same) (notes_done over.acts n over.front)

pub noted_end : (all : List Numbered) (line : Numbered) (left : List Numbered) (first run : Run) (end : WorldEnd) (old mid new : Noted) → NotesOne line left run (Some end) mid new → NotesAll all first end old new
noted_end all line left first run ends.Done old mid new h = absurd h
noted_end all line left first run (ends.Bad number cause) old mid new h = tt
noted_end all line left first run ends.WriteFault old mid new h = tt
noted_end all line left first run ends.NoMemory old mid new h = tt

pub noted_script : (script : List ℕ) (lines : List Numbered) (run : Run) (end : WorldEnd) (old new : Noted) → lines ≡ script_lines script → Stands (script_lines script) [] run
    → NotesFront (script_lines script) [] old → NotesAll lines run end old new → NotesScript script end (Some new)
unfolding play
noted_script script lines run ends.Done old new same stands front noted = subst (λ (ls : List Numbered). NotesAll ls run ends.Done old new) same noted [] stands front
noted_script script lines run (ends.Bad number cause) old new same stands front noted = tt
noted_script script lines run ends.WriteFault old new same stands front noted = tt
noted_script script lines run ends.NoMemory old new same stands front noted = tt
