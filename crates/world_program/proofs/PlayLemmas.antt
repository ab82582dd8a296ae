-- What a run of a script comes to, and what is left where nothing stands in its way.
use Rattle.std.proofs.Common.{◌≡◌, ◌≤◌, ◌∙◌, ℕ, suc, List, [], ◌∷◌, ◌++◌, append_assoc, length, length-append, Option, Some, None, refl, ap, sym, subst, inl, inr, arith}
use Rattle.std.specs.Prelude.{filter}
use Rattle.std.proofs.lemmas.Grind.{flat_map-append}
use Rattle.wire_streams.specs.Streams.{Gains}
use Rattle.wire_streams.specs.Whole.{GainsFront}
use Rattle.wire_histories.specs.declared.step.Step.{Step}
use Rattle.wire_histories.specs.Lines.{step_line}
use Rattle.world_history.specs.Scripts.{play, world}
use Rattle.world_history.specs.Worlds.{message_in, messages_in}
use Rattle.world_history.specs.Writing.{lines_of}
use Rattle.world_run.specs.declared.play.WorldEnd.{WorldEnd}
use Rattle.world_run.specs.declared.play.WorldEnd.TheVariants as ends
use Rattle.world_run.specs.Runs.{RunsSo}
use Rattle.world_scripts.specs.Generated.{gen_text}
use Rattle.world_promises.proofs.EveryPromise.{promised}
use Rattle.world_promises.proofs.MadeRuns.{made_passes}
use Rattle.auth_program.specs.declared.cause.ScriptCause.{ScriptCause}
use Rattle.auth_program.specs.Files.{ReadsFile, StopsSo}
use Rattle.auth_program.specs.declared.status.Status.{Status}
use Rattle.auth_program.specs.declared.status.Status.TheVariants.{Fine, Usage, ReadFault, WriteFault, WordFault, BadFrame, Torn, BadScript, BadTables, AsEnded, NoMemory, Flood}
use Rattle.world_program.specs.Counts.{is_sought}
use Rattle.world_program.specs.declared.summary.Sought.TheVariants.{Message}
use Rattle.world_program.specs.Playing.{WorldSo}
use Rattle.world_program.specs.Running.{HasNotRun, HasRun, status_of}
use Rattle.world_program.specs.Summing.{GenSo, summary}

-- ---- a script that was read

all_lines : (script : List ℕ) (recorded more : List Step) → recorded ≡ more → recorded ≡ world script → lines_of more ≡ lines_of (world script)
all_lines script recorded more e f = ap lines_of (sym e ∙ f)

-- a front of the lines of the first steps is one of all
more_missing : (front_steps rest_steps : List Step) (old new : Option (List ℕ)) → GainsFront old new (lines_of front_steps) → GainsFront old new (lines_of (front_steps ++ rest_steps))
more_missing front_steps rest_steps old new g = record {
  front = g.front;
  rest = g.rest ++ lines_of rest_steps;
  parts = flat_map-append step_line front_steps rest_steps ∙ (ap (λ (t : List ℕ). t ++ lines_of rest_steps) g.parts ∙ append_assoc g.front g.rest (lines_of rest_steps));
  gained = g.gained;
  missing = omega (arith, g.missing, length-append g.rest (lines_of rest_steps));
}

pub run_ends : (end : WorldEnd) (script : List ℕ) (recorded : List Step) (left_old left_new holds_old holds_new : Option (List ℕ)) → ReadsFile left_old left_new script
    → RunsSo end script recorded holds_old holds_new → WorldSo (status_of end) left_old left_new holds_old holds_new
run_ends ends.Done script recorded lo ln ho hn read so = record {
  script = script;
  read = read;
  done = so.0;
  written = subst (λ (t : List ℕ). Gains ho hn t) (all_lines script recorded so.1.more so.1.recorded so.1.all) so.1.written;
  promised = promised script;
}
run_ends (ends.Bad line cause) script recorded lo ln ho hn read so = record {
  script = script;
  read = read;
  refused = so.0;
  written = subst (λ (t : List ℕ). Gains ho hn t) (all_lines script recorded so.1.more so.1.recorded so.1.all) so.1.written;
  promised = promised script;
}
run_ends ends.WriteFault script recorded lo ln ho hn read so = record {
  script = script;
  read = read;
  written = subst (λ (s : List Step). GainsFront ho hn (lines_of s)) (ap (λ (s : List Step). s ++ so.rest) (sym so.recorded) ∙ so.first) (more_missing so.more so.rest ho hn so.written);
  promised = promised script;
}
run_ends ends.NoMemory script recorded lo ln ho hn read so = inr (record {
  script = script;
  read = read;
  first = so.more;
  rest = so.rest;
  parts = sym so.first ∙ ap (λ (s : List Step). s ++ so.rest) so.recorded;
  written = so.written;
  promised = promised script;
})

-- an end that writing didn't cause
pub status_fault : (end : WorldEnd) → status_of end ≡ WriteFault → end ≡ ends.WriteFault
status_fault ends.Done e = let f : Fine ≡ WriteFault = e in cc
status_fault (ends.Bad line cause) e = let f : BadScript line cause ≡ WriteFault = e in cc
status_fault ends.WriteFault e = refl
status_fault ends.NoMemory e = let f : NoMemory ≡ WriteFault = e in cc

pub status_read : (end : WorldEnd) → status_of end ≡ ReadFault → ⊥
status_read ends.Done e = let f : Fine ≡ ReadFault = e in cc
status_read (ends.Bad line cause) e = let f : BadScript line cause ≡ ReadFault = e in cc
status_read ends.WriteFault e = let f : WriteFault ≡ ReadFault = e in cc
status_read ends.NoMemory e = let f : NoMemory ≡ ReadFault = e in cc

-- a script that wasn't read
pub unread_ends : (status : Status) (left_old left_new holds : Option (List ℕ)) → StopsSo status left_old left_new → WorldSo status left_old left_new holds holds
unread_ends Fine lo ln h s = absurd s
unread_ends Usage lo ln h s = absurd s
unread_ends ReadFault lo ln h s = (s, refl)
unread_ends WriteFault lo ln h s = absurd s
unread_ends WordFault lo ln h s = absurd s
unread_ends (BadFrame at size) lo ln h s = absurd s
unread_ends (Torn at) lo ln h s = absurd s
unread_ends (BadScript line cause) lo ln h s = absurd s
unread_ends (BadTables speaks line) lo ln h s = absurd s
unread_ends (AsEnded end) lo ln h s = absurd s
unread_ends NoMemory lo ln h s = inl refl
unread_ends (Flood limit) lo ln h s = (s.0, s.1, refl)

pub unread_wrote : (status : Status) (left_old left_new : Option (List ℕ)) → StopsSo status left_old left_new → status ≡ WriteFault → ⊥
unread_wrote status lo ln s e = subst (λ (it : Status). StopsSo it lo ln) e s

-- ---- a script that was made

one_counted : (s : Step) (steps : List Step) (m : Option (List ℕ)) → message_in s ≡ m → length (filter (is_sought Message) steps) ≡ length (messages_in steps)
    → length (filter (is_sought Message) (s ∷ steps)) ≡ length (messages_in (s ∷ steps))
one_counted s steps None e rest = rw e rest
one_counted s steps (Some bytes) e rest = rw e (ap suc rest)

pub steps_counted : (steps : List Step) → length (filter (is_sought Message) steps) ≡ length (messages_in steps)
steps_counted [] = refl
steps_counted (s ∷ steps) = one_counted s steps (message_in s) refl (steps_counted steps)

none_refused : (refused : Option (ℕ × ScriptCause)) (line : ℕ) (cause : ScriptCause) → refused ≡ None → refused ≡ Some (line, cause) → ⊥
none_refused refused line cause none some = let no_way : None ≡ Some (line, cause) = sym none ∙ some in cc

pub made_ends : (status : Status) (number rounds : ℕ) (holds : Option (List ℕ)) → rounds ≤ 1000 → HasNotRun (gen_text number rounds) status → GenSo status number rounds holds holds
made_ends Fine number rounds h few s = absurd s
made_ends Usage number rounds h few s = absurd s
made_ends ReadFault number rounds h few s = absurd s
made_ends WriteFault number rounds h few s = absurd s
made_ends WordFault number rounds h few s = absurd s
made_ends (BadFrame at size) number rounds h few s = absurd s
made_ends (Torn at) number rounds h few s = absurd s
made_ends (BadScript line cause) number rounds h few s = absurd (none_refused (play (gen_text number rounds)).refused line cause (made_passes number rounds few) s)
made_ends (BadTables speaks line) number rounds h few s = absurd s
made_ends (AsEnded end) number rounds h few s = absurd s
made_ends NoMemory number rounds h few s = refl
made_ends (Flood limit) number rounds h few s = absurd s

pub made_wrote : (status : Status) (script : List ℕ) → HasNotRun script status → status ≡ WriteFault → ⊥
made_wrote status script s e = subst (λ (it : Status). HasNotRun script it) e s

same_line : (script text : List ℕ) (rounds : ℕ) (recorded : List Step) → HasRun script recorded → text ≡ summary rounds recorded → text ≡ summary rounds (world script)
same_line script text rounds recorded r e = e ∙ ap (summary rounds) r.all

pub made_sums : (number rounds : ℕ) (recorded : List Step) (text : List ℕ) (old new : Option (List ℕ)) → HasRun (gen_text number rounds) recorded → text ≡ summary rounds recorded
    → Gains old new text → GenSo Fine number rounds old new
made_sums number rounds recorded text old new r e written = record {
  done = r.done;
  written = subst (λ (t : List ℕ). Gains old new t) (same_line (gen_text number rounds) text rounds recorded r e) written;
  promised = promised (gen_text number rounds);
}

pub made_front : (number rounds : ℕ) (recorded : List Step) (text : List ℕ) (old new : Option (List ℕ)) → HasRun (gen_text number rounds) recorded → text ≡ summary rounds recorded
    → GainsFront old new text → GenSo WriteFault number rounds old new
made_front number rounds recorded text old new r e written = record {
  done = r.done;
  written = subst (λ (t : List ℕ). GainsFront old new t) (same_line (gen_text number rounds) text rounds recorded r e) written;
  promised = promised (gen_text number rounds);
}
