use Rattle.std.proofs.Common.{◌≡◌, false, refl, sym, ap, ◌∙◌}
use Rattle.std.specs.List.{list_any}
use Rattle.key_lists.specs.Lists.{KeyList, tells_secret}
use Rattle.key_ring.specs.Parts.{list_of}
use Rattle.key_ring.proofs.AnswerLemmas.{secret_told, none_told_second, count_told, ring_without, unchanged_without}
use Rattle.key_ring.proofs.ring.delete_keys.Goals as goal

pub returns-then-check_tells_secret-clause-answer : goal.returns-then-check_tells_secret-clause-answer
returns-then-check_tells_secret-clause-answer c = secret_told c.args.template.now (list_of c.args.keys.now.keys c.args.ever_added) (c.if-check_tells_secret.ensures ∙ ap (list_any tells_secret) c.attrs.ensures.same)

pub returns-then-count-eq0-clause-answer : goal.returns-then-count-eq0-clause-answer
returns-then-count-eq0-clause-answer c =
    let tells : list_any tells_secret c.args.template.now ≡ false = sym (c.if-check_tells_secret.ensures ∙ ap (list_any tells_secret) c.attrs.ensures.same) in
    let list = list_of c.args.keys.now.keys c.args.ever_added in
    none_told_second c.args.template.now list list refl tells (sym c.if-count-eq0.true ∙ c.drop_matching-count.ensures.count)

pub returns-then-count-eq0-clause-unchanged : goal.returns-then-count-eq0-clause-unchanged
returns-then-count-eq0-clause-unchanged c =
    let list = list_of c.args.keys.now.keys c.args.ever_added in
    ap (λ (l : KeyList). l.keys) (unchanged_without c.args.template.now list _ list c.drop_matching-count.ensures.dropped refl (sym c.if-count-eq0.true ∙ c.drop_matching-count.ensures.count))

pub returns-clause-answer : goal.returns-clause-answer
returns-clause-answer c =
    let tells : list_any tells_secret c.args.template.now ≡ false = sym (c.if-check_tells_secret.ensures ∙ ap (list_any tells_secret) c.attrs.ensures.same) in
    let list = list_of c.args.keys.now.keys c.args.ever_added in
    count_told c.args.template.now list list _ refl tells c.drop_matching-count.ensures.count (λ e. c.if-count-eq0.false (sym e))

pub returns-then-count-eq0-clause-ring : goal.returns-then-count-eq0-clause-ring
returns-then-count-eq0-clause-ring c = ring_without c.args.template.now (list_of c.args.keys.now.keys c.args.ever_added) _ c.drop_matching-count.ensures.dropped c.requires

pub returns-clause-ring : goal.returns-clause-ring
returns-clause-ring c = ring_without c.args.template.now (list_of c.args.keys.now.keys c.args.ever_added) _ c.drop_matching-count.ensures.dropped c.requires
