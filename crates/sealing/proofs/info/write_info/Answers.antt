use Rattle.std.proofs.Common.{◌≡◌, refl}
use Rattle.sealing.specs.Info.{info_text}
use Rattle.sealing.proofs.info.write_info.Goals as goal
use Rattle.sealing.proofs.info.write_info.Goals.{After-append}

text : (c : After-append) → c.written.result.now ≡ info_text c.args.i.now
unfolding info_text
text c = rw (
  c.written.ensures,
  c.put_counted-4.ensures.value,
  c.put_counted-3.ensures.value,
  c.put_counted-2.ensures.value,
  c.text-2.ensures.value,
  c.put_counted.ensures.value,
  c.text.ensures.value,
  c.new-spelling.ensures,
) refl

pub returns-clause-ok : goal.returns-clause-ok
returns-clause-ok c = rw (text c) at c.append.ensures.ok
