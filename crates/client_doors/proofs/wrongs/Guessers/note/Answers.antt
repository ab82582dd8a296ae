use Rattle.std.proofs.Common.{◌∙◌, ap, rules}
use Rattle.client_doors.specs.Wrongs.{remembered, times_of}
use Rattle.client_doors.proofs.WrongLemmas.{noted}
use Rattle.client_doors.proofs.wrongs.Guessers.note.Goals as goal

pub returns-clause-ok : goal.returns-clause-ok
returns-clause-ok c =
    noted c.args.address c.args.now c.args.self.now c.self.inside.list.items c.forget.new.guessers.items c.put_first.new.guessers.items
    c.find_times.result.now c.in_ok-times.times
    (search rules)
    (c.find_times.ensures ∙ ap (times_of c.args.address) c.deref.ensures.value)
    c.in_ok-times.ensures
    (c.forget.ensures.others ∙ ap (remembered c.args.address c.args.now) c.reserve.ensures.items)
    c.put_first.ensures
