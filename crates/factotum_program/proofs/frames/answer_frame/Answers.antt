use Rattle.std.proofs.Common.{[], length, ◌∷◌, arith, refl}
use Rattle.std.proofs.lemmas.Result.{err_from_is_err_and, on_ok_weaker, IfErr-weaker}
use Rattle.agent_history.specs.declared.event.Event.TheVariants.{Request}
use Rattle.agent_history.specs.Replies.{untaken}
use Rattle.agent_history.specs.Histories.{History, deeds}
use Rattle.factotum_program.specs.Pipe.{Turn, after_turn, asked_in, text_of, turn_of}
use Rattle.factotum_program.proofs.AskLemmas.{nothing_made}
use Rattle.factotum_program.proofs.MadeLemmas.{part_all}
use Rattle.factotum_program.proofs.TakeLemmas.{turn_grows, turn_told}
use Rattle.factotum_program.proofs.PartLemmas.{part_none}
use Rattle.factotum_program.proofs.frames.answer_frame.Goals as goal

pub returns-in_err-request-clause-part : goal.returns-in_err-request-clause-part
returns-in_err-request-clause-part g c =
    let p = err_from_is_err_and c.from_residual.result c.from_residual.ensures.1 in
    rw (p.1, p.2) (λ origin H stands told.
    let turn : Turn = turn_of c.args.frame.now c.args.word [] in
    let more = turn_grows H turn in
    record {
      heard = [];
      made = nothing_made (Request 0 c.args.frame.now c.args.word ∷ H) _;
      told = part_none _ origin _ _ (text_of H) (text_of (after_turn H turn)) more.0 refl more.1 told;
    })

pub returns-in_err-ask_all-clause-part : goal.returns-in_err-ask_all-clause-part
returns-in_err-ask_all-clause-part g c =
    let p = err_from_is_err_and c.from_residual-in_err-ask_all.result c.from_residual-in_err-ask_all.ensures.1 in
    rw (p.1, p.2) (λ origin H stands told.
    let asks = c.in_err-ask_all.ensures.err (Request 0 c.args.frame.now c.args.word ∷ H) (c.in_ok-request.ensures.stands H stands) in
    let turn : Turn = turn_of c.args.frame.now c.args.word asks.heard in
    let more = turn_grows H turn in
    record {
      heard = asks.heard;
      made = asks.made;
      told = part_none _ origin _ _ (text_of H) (text_of (after_turn H turn)) more.0 refl more.1 told;
    })

pub returns-clause-ok : goal.returns-clause-ok
unfolding after_turn
returns-clause-ok g c = on_ok_weaker c.take_all.result (λ h origin H stands told.
    let asks = c.in_ok-ask_all.ensures.asked (Request 0 c.args.frame.now c.args.word ∷ H) (c.in_ok-request.ensures.stands H stands) in
    let asked : History = (asked_in H (turn_of c.args.frame.now c.args.word asks.heard)).history in
    let done = h origin asked (length (untaken (deeds asked) 0)) asks.stands (omega arith) (turn_told H c.args.frame.now c.args.word asks.heard origin _ _ told) in
    record { heard = asks.heard; met = asks.met; made = asks.made; stands = done.0; told = done.1 }) c.take_all.ensures.ok

pub returns-clause-part : goal.returns-clause-part
unfolding after_turn
returns-clause-part g c = IfErr-weaker c.take_all.result _ _ (λ status h origin H stands told.
    let asks = c.in_ok-ask_all.ensures.asked (Request 0 c.args.frame.now c.args.word ∷ H) (c.in_ok-request.ensures.stands H stands) in
    let asked : History = (asked_in H (turn_of c.args.frame.now c.args.word asks.heard)).history in
    record {
      heard = asks.heard;
      made = part_all _ _ _ asks.made;
      told = h origin asked (length (untaken (deeds asked) 0)) asks.stands (omega arith) (turn_told H c.args.frame.now c.args.word asks.heard origin _ _ told);
    }) c.take_all.ensures.part
