use Rattle.std.proofs.Common.{◌≡◌, ◌++◌, take}
use Rattle.std.specs.List.{flat_map}
use Rattle.nine.specs.Messages.{qid_text}
use Rattle.nine.proofs.encode_replies.put_qids.Given as goal

abbrev pub invariant-loop-qid : goal.invariant-loop-qid
invariant-loop-qid l = l.out ≡ l.fn.out ++ flat_map qid_text (take l.qid-index l.qids)
