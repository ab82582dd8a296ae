use Rattle.std.proofs.Common.{◌∷◌, refl}
use Rattle.std.proofs.lemmas.Result.{err_from_is_err_and}
use Rattle.agent_history.specs.declared.event.Event.TheVariants.{Take}
use Rattle.factotum_program.specs.Pipe.{text_of}
use Rattle.factotum_program.proofs.PartLemmas.{gathers_gone, gathers_left, gathers_failed, part_left, part_longer, part_none}
use Rattle.factotum_program.proofs.frames.take_again.Goals as goal

pub returns-in_err-write_gathered-clause-part : goal.returns-in_err-write_gathered-clause-part
returns-in_err-write_gathered-clause-part g c =
    let p = err_from_is_err_and c.from_residual.result c.from_residual.ensures.1 in
    rw (p.1, p.2) (λ origin H stands told.
    part_longer _ origin _ _ (text_of H) (text_of (Take 0 ∷ H)) _ refl
    (part_left _ origin _ _ (text_of H) c.write_gathered.ensures.none (gathers_failed _ origin _ _ _ (text_of H) c.in_err-write_gathered.ensures.part told)))

pub returns-in_err-take_one-clause-part : goal.returns-in_err-take_one-clause-part
returns-in_err-take_one-clause-part g c =
    let p = err_from_is_err_and c.from_residual-in_err-take_one.result c.from_residual-in_err-take_one.ensures.1 in
    rw (p.1, p.2) (λ origin H stands told.
    part_none _ origin _ _ (text_of H) (text_of (Take 0 ∷ H)) _ refl refl
    (rw (c.in_err-take_one.ensures.err_replies, c.write_gathered.ensures.none) (gathers_gone origin _ _ _ (text_of H) c.in_ok-write_gathered.ensures.ok told)))

pub returns-clause-told : goal.returns-clause-told
returns-clause-told g c = λ origin H stands told.
    c.in_ok-take_one.ensures.told origin _ H stands (gathers_left origin _ _ (text_of H) c.write_gathered.ensures.none (gathers_gone origin _ _ _ (text_of H) c.in_ok-write_gathered.ensures.ok told))
