use Rattle.std.proofs.Common.{◌≡◌, ◌++◌, take}
use Rattle.std.specs.List.{flat_map}
use Rattle.std.specs.Prelude.{codes}
use Rattle.nine_print.specs.Values.{qid_shown}
use Rattle.nine_print.proofs.reply.put_each_qid.Given as goal

abbrev pub invariant-loop-qid : goal.invariant-loop-qid
invariant-loop-qid l = l.out ≡ l.fn.out ++ flat_map (qid_shown (codes " ")) (take l.qid-index l.qids)
