use Rattle.std.proofs.Common.{ℕ, List, ◌∷◌, [], Option, ap, subst, ◌≡◌, ◌∙◌, arith}
use Rattle.attr_tuples.specs.declared.attr.Attr.{Attr}
use Rattle.attr_tuples.specs.Printing.{attr_text}
use Rattle.talks.specs.Sizes.{behind, seen}
use Rattle.talks.proofs.SizeLemmas.{behind_both, behind_none, item_behind}
use Rattle.talks.proofs.size.spend_others.Goals as goal

pub loop-attr-init : goal.loop-attr-init
loop-attr-init c = behind_none c.args.budget

pub loop-attr-preserved : goal.loop-attr-preserved
loop-attr-preserved c =
    let one : Attr → List ℕ = λ a. 32 ∷ attr_text (seen c.args.secrets a) in
    let spent : c.spend_attr-left.result ≡ behind c.loop-attr.left (one c.attr-item.result) =
    c.spend_attr-left.ensures ∙ (ap (λ (b : Option ℕ). behind b (attr_text (seen c.args.secrets c.attr-item.result))) (c.spend_text-left.ensures ∙ ap (λ (bytes : List ℕ). behind c.loop-attr.left bytes) c.as_slice.ensures) ∙ behind_both c.loop-attr.left (32 ∷ []) (attr_text (seen c.args.secrets c.attr-item.result))) in
    item_behind one c.args.budget c.loop-attr.left c.spend_attr-left.result [] c.args.attrs.now c.loop-attr.attr-index c.attr-item.result (omega (arith, c.loop-attr-test.true)) c.loop-attr.invariant
    (subst (λ (a : Attr). c.spend_attr-left.result ≡ behind c.loop-attr.left (one a)) c.attr-item.is spent)
