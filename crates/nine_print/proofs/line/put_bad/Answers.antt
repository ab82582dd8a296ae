use Rattle.std.proofs.lemmas.Result.{on_ok_weaker}
use Rattle.nine_print.specs.Lines.{bad_text}
use Rattle.nine_print.proofs.PieceLaws.{five_pieces}
use Rattle.nine_print.proofs.line.put_bad.Goals as goal

pub returns-clause-ok : goal.returns-clause-ok
unfolding bad_text
returns-clause-ok c = on_ok_weaker c.push.result (λ e. five_pieces _ _ _ _ _ _ _ _ _ _ _ c.in_ok-put_number.ensures.ok c.in_ok-put_tag.ensures.ok c.in_ok-put_number-2.ensures.ok c.in_ok-put_number-3.ensures.ok e) c.push.ensures.ok
