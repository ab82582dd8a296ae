use Rattle.std.proofs.Common.{[]}
use Rattle.std.proofs.lemmas.Result.{on_ok_weaker}
use Rattle.attach_program.specs.Runs.{door_of, exchanged_in, told_next}
use Rattle.attach_program.specs.Steps.{stood}
use Rattle.attach_program.proofs.TurnLemmas.{told_so, turned}
use Rattle.attach_program.proofs.session.turn.Goals as goal

pub returns : goal.returns
returns c = on_ok_weaker c.step.result (λ f keys run s.
    turned keys run c.args.frame.now c.args.word _ _ s.is c.clear.ensures
    (f (door_of run) (stood keys (exchanged_in run) (told_next run c.args.word)) [] s.door ([], told_so keys run c.args.word _ _ s.port c.set_word.ensures)))
    c.step.ensures.stepped
