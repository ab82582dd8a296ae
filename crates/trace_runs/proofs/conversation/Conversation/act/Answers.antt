use Rattle.std.proofs.Common.{refl, ap, ◌∙◌, option_map}
use Rattle.symbolic_runs.specs.Views.{tree}
use Rattle.clean_runs.specs.Runs.{if_some}
use Rattle.trace_runs.specs.declared.conversation.Conversation.{Conversation}
use Rattle.trace_runs.specs.Given.{given_by}
use Rattle.trace_runs.specs.Stages.{StandsFor, chooses}
use Rattle.trace_runs.specs.Views.{move_of}
use Rattle.trace_runs.proofs.ConversationLaws.{acted, on_err, still_stands}
use Rattle.trace_runs.proofs.GivenLaws.{gives_so, lent_move}
use Rattle.trace_runs.proofs.conversation.Conversation.act.Goals as goal

pub returns-clause-ok : goal.returns-clause-ok
returns-clause-ok c = λ own role acts a tells h.
    let after : Conversation = record { own = c.args.self.now.own; role = c.args.self.now.role; stage = c.after-self.result; moves = c.put.new.moves } in
    acted own role acts a c.args.self.now after (if_some (option_map move_of c.in_ok-made.made)) h refl refl (c.after-self.ensures a tells) c.in_ok-put.ensures.ok (c.in_ok-made.ensures a tells)

pub returns-in_err-put-clause-err : goal.returns-in_err-put-clause-err
returns-in_err-put-clause-err c = λ own role acts h.
    let after : Conversation = record { own = c.args.self.now.own; role = c.args.self.now.role; stage = c.args.self.now.stage; moves = c.put.new.moves } in
    on_err c.from_residual-in_err-put.result (StandsFor own role acts after) (still_stands own role acts c.args.self.now after h refl refl refl c.in_err-put.ensures.err)

pub returns-clause-given : goal.returns-clause-given
returns-clause-given c = λ own role acts a tells h s number.
    gives_so own role acts a c.args.self.now (option_map move_of c.in_ok-made.made) (option_map tree c.in_ok-gives.gives) h (c.in_ok-made.ensures a tells)
    (c.in_ok-gives.ensures a tells ∙ ap (given_by a.act (chooses c.args.self.now.stage)) (lent_move c.as_ref.result c.in_ok-made.made c.as_ref.ensures.value)) s number
