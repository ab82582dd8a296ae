use Rattle.std.proofs.Common.{ℕ, List, ◌∷◌, [], Option, ap, ◌∙◌, arith}
use Rattle.std.specs.List.{flat_map}
use Rattle.std.proofs.lemmas.List.{take_all}
use Rattle.attr_tuples.specs.Words.{quoted_byte}
use Rattle.talks.specs.Sizes.{behind}
use Rattle.talks.proofs.SizeLemmas.{behind_both, item_behind}
use Rattle.talks.proofs.size.spend_quoted.Goals as goal

pub loop-byte-preserved : goal.loop-byte-preserved
loop-byte-preserved c = item_behind quoted_byte c.args.budget c.loop-byte.left c.spend_quoted_byte-left.result (39 ∷ []) c.args.text.now c.loop-byte.byte-index 0 (omega (arith, c.loop-byte-test.true)) c.loop-byte.invariant c.spend_quoted_byte-left.ensures

pub returns : goal.returns
returns c =
    let text = c.args.text.now in
    let all = take_all c.loop-byte.byte-index text (omega (arith, c.loop-byte-test.false)) in
    let front : List ℕ = 39 ∷ flat_map quoted_byte text in
    let spent = c.spend_text.ensures ∙ ap (λ (bytes : List ℕ). behind c.loop-byte.left bytes) c.as_slice-2.ensures in
    spent ∙ (ap (λ (b : Option ℕ). behind b (39 ∷ [])) (c.loop-byte.invariant ∙ ap (λ (bytes : List ℕ). behind c.args.budget (39 ∷ flat_map quoted_byte bytes)) all) ∙ behind_both c.args.budget front (39 ∷ []))
