use Rattle.std.proofs.Common.{◌≡◌, false, true, sym, ◌∙◌, arith}
use Rattle.attr_tuples.proofs.LineLemmas.{line_from_len}
use Rattle.attr_tuples.proofs.parse.parse_tuple.Goals as goal

pub parse_words-requires : goal.parse_words-requires
parse_words-requires c = line_from_len c.args.text.now (omega arith)

pub returns-clause-no_text : goal.returns-clause-no_text
returns-clause-no_text c =
    λ no. absurd (let both : false ≡ true = sym no ∙ line_from_len c.args.text.now (omega arith) in (cc))
