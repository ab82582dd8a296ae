use Rattle.std.proofs.Common.{◌≡◌, ℕ, ◌+◌, List, not, ap, sym, ◌∙◌, arith, length}
use Rattle.attr_tuples.specs.Words.{is_gap, gap_len}
use Rattle.attr_tuples.proofs.PlaceLemmas.{place_found, none_found}
use Rattle.attr_tuples.proofs.word.gap_end.Goals as goal

pub returns-in-Some-clause-value : goal.returns-in-Some-clause-value
unfolding gap_len
returns-in-Some-clause-value c =
    let found = place_found (λ b. not (is_gap b)) c.split_at.result.1.now c.in-Some.gap (sym c.find_word.ensures ∙ c.in-Some.is) in
    ap (λ (n : ℕ). c.args.at + n) found ∙ ap (λ (text : List ℕ). c.args.at + gap_len text) c.split_at.ensures.back

pub returns-in-None-clause-value : goal.returns-in-None-clause-value
unfolding gap_len
returns-in-None-clause-value c =
    let all = none_found (λ b. not (is_gap b)) c.split_at.result.1.now (sym c.find_word.ensures ∙ c.in-None.is) in
    let e : length c.args.text.now ≡ c.args.at + length c.split_at.result.1.now = omega (arith, c.split_at.ensures.back_len) in
    e ∙ ap (λ (n : ℕ). c.args.at + n) all ∙ ap (λ (text : List ℕ). c.args.at + gap_len text) c.split_at.ensures.back
