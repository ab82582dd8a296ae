-- A script does few acts: none of its agents stops, and each does what its conversations do.
use Rattle.std.proofs.Common.{ℕ, ◌+◌, ◌≤◌, List, [], ◌∷◌, length, Bool, true, false, cond, eqb, Result, Ok, Err, arith}
use Rattle.std.specs.List.{slice_split}
use Rattle.std.proofs.lemmas.List.Splits.{length-slice_split}
use Rattle.std.proofs.lemmas.List.Sums.{count_by-le-length}
use Rattle.world_scripts.specs.Reading.{line_of}
use Rattle.world_scripts.specs.Scripts.{Numbered, is_skipped, numbered, script_lines}
use Rattle.auth_program.specs.declared.cause.ScriptCause.{ScriptCause}
use Rattle.world_history.specs.Acts.{Act}
use Rattle.world_history.specs.Scripts.{Played, go_on, judged, play, plays}
use Rattle.world_promises.proofs.Legality.{all_legal}
use Rattle.world_promises.proofs.PlayLaws.{played}
use Rattle.world_promises.proofs.RequestsLaws.{requests_do, requests_leave}
use Rattle.world_promises.proofs.AnswerLaws.{absences_do, answers_do}
use Rattle.world_promises.proofs.OtherTalks.{absences_leave, answers_leave}
use Rattle.world_promises.specs.Worlds.{AllDo, AllSeated, ScriptsAreLegal, ScriptsDo, ScriptsRun}
use Rattle.world_promises.proofs.ActLaws.{all_go}
use Rattle.world_promises.proofs.LengthLaws.{few_run}
use Rattle.world_promises.proofs.TurnFacts.{Driven}

-- ---- agents

pub driven : Driven
driven = record {
  requests = requests_do;
  others = requests_leave;
  answers = answers_do;
  absences = absences_do;
  answer_others = answers_leave;
  absence_others = absences_leave;
}

pub all_seated : AllSeated
all_seated acts done run = (all_go driven acts done run).known.seated

pub all_do : AllDo
all_do acts done run = (all_go driven acts done run).all

pub scripts_do : ScriptsDo
scripts_do script run = all_do (play script).acts (played script) run

-- ---- how many acts a script does

numbered_few : (n : ℕ) (lines : List (List ℕ)) → length (numbered n lines) ≤ length lines
numbered_few n [] = omega arith
numbered_few n (line ∷ lines) = by_skip (is_skipped line) (numbered_few (n + 1) lines)
  where
    by_skip : (b : Bool) → length (numbered (n + 1) lines) ≤ length lines → length (cond b (numbered (n + 1) lines) (record { number = n; text = line } ∷ numbered (n + 1) lines)) ≤ length (line ∷ lines)
    by_skip true more = omega arith
    by_skip false more = omega arith

goes_few : (acts : List Act) (number : ℕ) (result : Result Act ScriptCause) (next : List Act → Played) (n : ℕ) → length acts ≤ n → ((act : Act) → length (next (act ∷ acts)).acts ≤ n) → length (go_on acts number result next).acts ≤ n
goes_few acts number (Err cause) next n few more = few
goes_few acts number (Ok act) next n few more = more act

plays_few : (acts : List Act) (lines : List Numbered) → length (plays acts lines).acts ≤ length acts + length lines
plays_few acts [] = omega arith
plays_few acts (line ∷ lines) = goes_few acts line.number (judged acts (line_of line.text)) (λ done. plays done lines) (length acts + length (line ∷ lines)) (omega arith) (λ act. omega (arith, plays_few (act ∷ acts) lines))

acts_few : (script : List ℕ) → length (play script).acts ≤ length script + 1
unfolding play
acts_few script =
    let ends = λ (b : ℕ). eqb b 10 in
    omega (arith, plays_few [] (script_lines script), numbered_few 1 (slice_split ends script), length-slice_split ends script, count_by-le-length ends script)

pub scripts_run : ScriptsRun
scripts_run script few = few_run driven (play script).acts (played script) (omega (arith, acts_few script))

pub scripts_are_legal : ScriptsAreLegal
scripts_are_legal script few = all_legal script (scripts_do script (scripts_run script few))
