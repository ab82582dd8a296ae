use Rattle.std.proofs.Common.{ap, sym, ◌∙◌}
use Rattle.world_history.specs.Scripts.{judged}
use Rattle.world_run.proofs.run.Run.note_text.Goals as goal

pub returns : goal.returns
returns c = λ number acts act kept fits stands h.
    let read = sym c.in-Ok.ensures.read in
    c.in_ok-note_line.ensures (record { number = number; text = c.args.text.now }) acts act kept read (sym (ap (judged acts) read) ∙ fits) stands h
