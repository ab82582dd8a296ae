use Rattle.auth_program.proofs.WordLemmas.{text_is_utf8}
use Rattle.auth_program.proofs.options.as_str.Goals as goal

pub unreachable-requires : goal.unreachable-requires
unreachable-requires c = c.in-Err.ensures.cases.0 (text_is_utf8 c.as_slice.result.now c.as_slice.ensures.text)
