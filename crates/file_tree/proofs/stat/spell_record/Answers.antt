use Rattle.std.proofs.lemmas.Result.{on_ok_weaker}
use Rattle.file_tree.proofs.RecordLaws.{spelled_in_parts}
use Rattle.file_tree.proofs.stat.spell_record.Goals as goal

pub returns-clause-ok : goal.returns-clause-ok
returns-clause-ok c =
    on_ok_weaker c.append-2.result (λ e. spelled_in_parts _ _ _ _ c.args.node (rw c.front.ensures at c.in_ok-append.ensures.ok) (rw c.name.ensures.name at c.in_ok-put_str.ensures.ok) e) c.append-2.ensures.ok
