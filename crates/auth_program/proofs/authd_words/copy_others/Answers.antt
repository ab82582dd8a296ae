use Rattle.std.proofs.Common.{◌≡◌, true, false}
use Rattle.auth_program.proofs.TextLemmas.{name_is_text}
use Rattle.auth_program.proofs.authd_words.copy_others.Goals as goal

pub unreachable-requires : goal.unreachable-requires
unreachable-requires c =
    let none : false ≡ true = rw c.in_default.is at c.in_ok-name.ensures.exactly.1 name_is_text in
    cc
