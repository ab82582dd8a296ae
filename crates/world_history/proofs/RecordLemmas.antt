-- Messages and lines of steps, one step behind the others.
use Rattle.std.proofs.Common.{◌≡◌, ℕ, List, [], ◌∷◌, ◌++◌, append_assoc, append-nil, Option, Some, None, refl, sym, ap, subst, ◌∙◌}
use Rattle.std.specs.Prelude.{Result, Ok, Err, OnOk, OnErr}
use Rattle.std.proofs.lemmas.Grind.{flat_map-append}
use Rattle.std.proofs.lemmas.List.Concat.{flat_map-cons}
use Rattle.std.proofs.lemmas.List.Elements.{filter_map-append}
use Rattle.wire_streams.specs.Streams.{Gains}
use Rattle.wire_streams.specs.Whole.{GainsFront}
use Rattle.wire_streams.proofs.StreamLemmas.{Gains-nil, Gains-trans}
use Rattle.wire_histories.specs.declared.step.Step.{Step}
use Rattle.wire_histories.specs.Lines.{step_line}
use Rattle.world_history.specs.Worlds.{message_in, messages_in}
use Rattle.world_history.specs.declared.record.Cut.{Cut}
use Rattle.world_history.specs.declared.record.Cut.TheVariants.{WriteFault, NoMemory}
use Rattle.world_history.specs.Writing.{StopsBy, WritesBy, lines_of}

pub no_message_behind : (steps : List Step) (step : Step) → message_in step ≡ None → messages_in (steps ++ step ∷ []) ≡ messages_in steps
no_message_behind steps step none = filter_map-append message_in steps (step ∷ []) ∙ (rw none (append-nil (messages_in steps)))

pub message_behind : (steps : List Step) (step : Step) (message : List ℕ) → message_in step ≡ Some message → messages_in (steps ++ step ∷ []) ≡ messages_in steps ++ message ∷ []
message_behind steps step message one = filter_map-append message_in steps (step ∷ []) ∙ (rw one refl)

-- a step that records no message was kept, or none
pub messages_kept : {X E : Type 0} (r : Result X E) (old new : List Step) (step : Step) → None ≡ message_in step → OnOk r (new ≡ old ++ step ∷ []) → OnErr r (new ≡ old) → messages_in old ≡ messages_in new
messages_kept (Ok x) old new step none ok err = sym (ap messages_in ok ∙ no_message_behind old step (sym none))
messages_kept (Err e) old new step none ok err = ap messages_in (sym err)

-- the first of some steps were recorded, and their lines written
pub record Recorded (all left old new : List Step) (before now : Option (List ℕ)) : Type 0 where
  pub front : List Step
  pub parts : all ≡ front ++ left
  pub kept : new ≡ old ++ front
  pub written : Gains before now (lines_of front)

pub recorded_none : (all left old new : List Step) (before : Option (List ℕ)) → left ≡ all → new ≡ old → Recorded all left old new before before
recorded_none all left old new before is same = record {
  front = [];
  parts = sym is;
  kept = same ∙ sym (append-nil old);
  written = Gains-nil before;
}

lines_one : (front : List Step) (step : Step) → lines_of (front ++ step ∷ []) ≡ lines_of front ++ step_line step
lines_one front step = flat_map-append step_line front (step ∷ []) ∙ ap (λ (l : List ℕ). lines_of front ++ l) (flat_map-cons step_line step [] ∙ append-nil (step_line step))

pub recorded_more : (all left rest old mid new : List Step) (step : Step) (before between now : Option (List ℕ)) → Recorded all left old mid before between → left ≡ step ∷ rest → new ≡ mid ++ step ∷ [] → Gains between now (step_line step) → Recorded all rest old new before now
recorded_more all left rest old mid new step before between now r is more gained = record {
  front = r.front ++ step ∷ [];
  parts = r.parts ∙ ap (λ (l : List Step). r.front ++ l) is ∙ sym (append_assoc r.front (step ∷ []) rest);
  kept = more ∙ ap (λ (l : List Step). l ++ step ∷ []) r.kept ∙ append_assoc old r.front (step ∷ []);
  written = subst (λ (l : List ℕ). Gains before now l) (sym (lines_one r.front step)) (Gains-trans before between now (lines_of r.front) (step_line step) r.written gained);
}

pub recorded_all : (all old new : List Step) (before now : Option (List ℕ)) → Recorded all [] old new before now → (new ≡ old ++ all) × Gains before now (lines_of all)
recorded_all all old new before now r =
    let same : r.front ≡ all = sym (r.parts ∙ append-nil r.front) in
    (r.kept ∙ ap (λ (l : List Step). old ++ l) same, subst (λ (l : List Step). Gains before now (lines_of l)) same r.written)

pub by_cut : (cut : Cut) (before between now : Option (List ℕ)) (first second : List ℕ) → Gains before between first → WritesBy cut between now second → WritesBy cut before now (first ++ second)
by_cut NoMemory before between now first second gained w = Gains-trans before between now first second gained w
by_cut WriteFault before between now first second gained w = record {
  front = first ++ w.front;
  rest = w.rest;
  parts = ap (λ (l : List ℕ). first ++ l) w.parts ∙ sym (append_assoc first w.front w.rest);
  gained = Gains-trans before between now first w.front gained w.gained;
  missing = w.missing;
}

pub recorded_cut : (all left rest old mid new : List Step) (step : Step) (cut : Cut) (before between now : Option (List ℕ)) → Recorded all left old mid before between → left ≡ step ∷ rest → StopsBy cut (step ∷ []) mid new between now → StopsBy cut all old new before now
recorded_cut all left rest old mid new step cut before between now r is s = record {
  front = r.front ++ s.front;
  rest = s.rest ++ rest;
  parts = r.parts ∙ ap (λ (l : List Step). r.front ++ l) (is ∙ ap (λ (l : List Step). l ++ rest) s.parts ∙ append_assoc s.front s.rest rest) ∙ sym (append_assoc r.front s.front (s.rest ++ rest));
  kept = s.kept ∙ ap (λ (l : List Step). l ++ s.front) r.kept ∙ append_assoc old r.front s.front;
  written = subst (λ (l : List ℕ). WritesBy cut before now l) (sym (flat_map-append step_line r.front s.front)) (by_cut cut before between now (lines_of r.front) (lines_of s.front) r.written s.written);
}

-- a step that found no memory, and one whose line wasn't written
pub stops_none : (steps old new : List Step) (before : Option (List ℕ)) → new ≡ old → StopsBy NoMemory steps old new before before
stops_none steps old new before same = record {
  front = [];
  rest = steps;
  parts = refl;
  kept = same ∙ sym (append-nil old);
  written = Gains-nil before;
}

pub stops_one : (step : Step) (old new : List Step) (line : List ℕ) (before now : Option (List ℕ)) → new ≡ old ++ step ∷ [] → line ≡ step_line step → GainsFront before now line → StopsBy WriteFault (step ∷ []) old new before now
stops_one step old new line before now kept is w = record {
  front = step ∷ [];
  rest = [];
  parts = refl;
  kept = kept;
  written = subst (λ (l : List ℕ). GainsFront before now l) (is ∙ sym (flat_map-cons step_line step [] ∙ append-nil (step_line step))) w;
}
