use Rattle.std.proofs.Common.{◌≡◌, ◌∙◌, ◌<◌, ◌^◌, true, false, decimal, subst, sym, arith}
use Rattle.std.proofs.lemmas.Bool.{true≢false}
use Rattle.wire_base.specs.Texts.{is_text}
use Rattle.trace_runs.proofs.KeyTexts.{numbered_text, put_together}
use Rattle.trace_runs.proofs.tables.key_name.Goals as goal

pub unreachable-requires : goal.unreachable-requires
unreachable-requires c =
    let user = c.args.user.now in
    let written = put_together user c.in_ok-name.name c.push.new.self c.append.new.self c.as_slice-2.result.now (decimal c.args.first)
    (c.in_ok-name.ensures ∙ c.as_slice.ensures.same) c.in_ok-push.ensures.ok (rw (← c.as_bytes.ensures.value ∙ c.format.ensures.text) c.in_ok-append.ensures.ok) c.as_slice-2.ensures in
    let small : c.args.first < 2 ^ 64 = omega arith in
    let user_text : is_text user ≡ true = subst (λ x. is_text x ≡ true) c.as_slice.ensures.same c.as_slice.ensures.text in
    let text : is_text c.as_slice-2.result.now ≡ true = subst (λ x. is_text x ≡ true) (sym written) (numbered_text user c.args.first small user_text) in
    let some = c.in_ok-name-2.ensures.exactly.1 text in
    let none : false ≡ true = rw c.in_default.is at some in
    true≢false (sym none)
