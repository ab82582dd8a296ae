use Rattle.std.proofs.Common.{◌≡◌, true, false, codes, arith}
use Rattle.wire_base.specs.Names.{IsName}
use Rattle.auth_program.proofs.TextLemmas.{mark_is_text}
use Rattle.auth_program.proofs.task.unknown.Goals as goal

pub unreachable-requires : goal.unreachable-requires
unreachable-requires c =
    let name : IsName 48 (codes "?") = record { text = mark_is_text; short = omega arith } in
    let none : false ≡ true = rw c.in_default.is at c.from_text.ensures.exactly.1 name in
    cc
