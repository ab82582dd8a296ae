use Rattle.std.proofs.lemmas.Result.{on_ok_weaker, IfErr-weaker}
use Rattle.factotum_program.proofs.PartLemmas.{gathers_gone, gathers_left, gathers_failed, part_left}
use Rattle.factotum_program.proofs.frames.make_room.Goals as goal

pub returns-clause-ok : goal.returns-clause-ok
returns-clause-ok g c = on_ok_weaker c.write_gathered.result (λ gone origin text told. gathers_left origin _ _ text c.write_gathered.ensures.none (gathers_gone origin _ _ _ text gone told)) c.write_gathered.ensures.ok

pub returns-clause-part : goal.returns-clause-part
returns-clause-part g c = IfErr-weaker c.write_gathered.result _ _ (λ status f origin text told. part_left status origin _ _ text c.write_gathered.ensures.none (gathers_failed status origin _ _ _ text f told)) c.write_gathered.ensures.part
