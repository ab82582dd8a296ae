use Rattle.std.proofs.Common.{ℕ, List, ◌∷◌, refl, sym, subst}
use Rattle.std.proofs.lemmas.Result.{err_from_is_err_and, on_ok_weaker, IfErr-weaker}
use Rattle.agent_history.specs.declared.event.Event.TheVariants.{Take}
use Rattle.factotum_program.specs.Pipe.{text_of}
use Rattle.factotum_program.specs.Gathers.{Gathers}
use Rattle.factotum_program.proofs.TakeLemmas.{still_gives, still_fewer}
use Rattle.factotum_program.proofs.PartLemmas.{part_longer}
use Rattle.factotum_program.proofs.frames.take_next.Goals as goal

pub returns-in_err-make_room-clause-part : goal.returns-in_err-make_room-clause-part
returns-in_err-make_room-clause-part g c =
    let p = err_from_is_err_and c.from_residual.result c.from_residual.ensures.1 in
    rw (p.1, p.2) (λ origin H stands told. part_longer _ origin _ _ (text_of H) (text_of (Take 0 ∷ H)) _ refl (c.in_err-make_room.ensures.part origin (text_of H) told))

pub returns-in-Err-clause-stands : goal.returns-in-Err-clause-stands
returns-in-Err-clause-stands g c = on_ok_weaker c.take_again.result (λ f H stands. f H (c.in-Err.ensures.err_stands H stands)) c.take_again.ensures.stands

pub returns-in-Err-clause-told : goal.returns-in-Err-clause-told
returns-in-Err-clause-told g c = on_ok_weaker c.take_again.result (λ f origin H stands told.
    f origin H (c.in-Err.ensures.err_stands H stands)
    (subst (λ (l : List ℕ). Gathers origin (g.W.Sink.holds c.make_room.new.output) l (text_of H)) (sym c.in-Err.ensures.err_replies) (c.in_ok-make_room.ensures.ok origin (text_of H) told))) c.take_again.ensures.told

pub returns-in-Err-clause-fewer : goal.returns-in-Err-clause-fewer
returns-in-Err-clause-fewer g c = on_ok_weaker c.take_again.result (λ f gives.
    still_fewer c.args.agent.now c.take_one.new.agent _ c.in-Err.ensures.err (f (still_gives c.args.agent.now c.take_one.new.agent c.in-Err.ensures.err gives))) c.take_again.ensures.fewer

pub returns-in-Err-clause-part : goal.returns-in-Err-clause-part
returns-in-Err-clause-part g c = IfErr-weaker c.take_again.result _ _ (λ status f origin H stands told.
    f origin H (c.in-Err.ensures.err_stands H stands)
    (subst (λ (l : List ℕ). Gathers origin (g.W.Sink.holds c.make_room.new.output) l (text_of H)) (sym c.in-Err.ensures.err_replies) (c.in_ok-make_room.ensures.ok origin (text_of H) told))) c.take_again.ensures.part
