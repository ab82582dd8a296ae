use Rattle.std.proofs.Common.{not, ◌==◌, rules}
use Rattle.std.proofs.lemmas.Fn.{filter_same}
use Rattle.doors.specs.declared.fid.Held.{Held}
use Rattle.doors.proofs.fids.Fids.remove.Goals as goal

pub returns : goal.returns
returns c = rw (← c.self.view_is) (filter_same _ (λ (h : Held). not (h.fid == c.args.fid)) _ (λ x b f k. search rules) c.self.inside.held.items c.retain.new.self.items c.retain.ensures.filtered)
