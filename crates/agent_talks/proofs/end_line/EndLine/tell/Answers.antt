use Rattle.std.proofs.Common.{ℕ, List, ◌∷◌, [], Some, ◌∙◌, ap, sym}
use Rattle.roles.specs.declared.need.Outcome.{Outcome}
use Rattle.talks.specs.Lines.{end_line}
use Rattle.agent_talks.proofs.end_line.EndLine.tell.Goals as goal

pub returns-in-Accepted : goal.returns-in-Accepted
returns-in-Accepted c = λ conv template ends.
    ap (λ (line : List ℕ). line ∷ []) (c.tell_accepted.ensures conv template ends.done) ∙ ap (λ (o : Outcome). end_line conv template (Some o)) (sym c.in-Accepted.is)

pub returns-in-Finished : goal.returns-in-Finished
returns-in-Finished c = λ conv template ends.
    ap (λ (line : List ℕ). line ∷ []) (c.tell_done.ensures conv template ends.done) ∙ ap (λ (o : Outcome). end_line conv template (Some o)) (sym c.in-Finished.is)
