use Rattle.std.proofs.Common.{◌≡◌, ℕ, ◌<◌, Ok, ◌++◌, ◌∷◌, [], List, length, drop, sym, ap, subst, ◌∙◌, arith}
use Rattle.std.proofs.lemmas.Grind.{common_steps}
use Rattle.attr_tuples.specs.Words.{Cut}
use Rattle.attr_tuples.specs.Lines.{is_line}
use Rattle.attr_tuples.proofs.LineLemmas.{word_line}
use Rattle.attr_tuples.specs.declared.attr.Attr.{Attr}
use Rattle.attr_tuples.specs.Attributes.{is_tuple, is_name, is_value}
use Rattle.attr_tuples.specs.Grammar.{attr_of}
use Rattle.attr_tuples.proofs.AttrLemmas.{begin_line, next_line, value_text_is, tuple_more, reads_some, reads_none}
use Rattle.attr_tuples.proofs.ParseLemmas.{GoesOn, begin, one_more, bad_name, all_read}
use Rattle.attr_tuples.proofs.parse.parse_words.Goals as goal

pub loop-next-init : goal.loop-next-init
loop-next-init c =
    let text = c.args.text.now in
    let next = c.gap_end-next.result in (
      omega arith,
      begin_line text next c.requires c.gap_end-next.ensures.value,
      ap is_tuple c.new-list.ensures.items,
      subst (λ (done : List Attr). GoesOn text done next) (sym c.new-list.ensures.items) (begin text next c.gap_end-next.ensures.value),
    )

pub read_attr-requires : goal.read_attr-requires
read_attr-requires c =
    let cut : Cut = record { bytes = c.take_word.new.word; end = c.in-Ok.end; behind = drop c.in-Ok.end c.args.text.now } in
    ap is_line c.as_slice.ensures ∙ (word_line c.loop-next.next (drop c.loop-next.next c.args.text.now) cut c.in-Ok.ensures.value c.loop-next.invariant.1).0

pub loop-next-preserved : goal.loop-next-preserved
loop-next-preserved c =
    let text = c.args.text.now in
    let at = c.loop-next.next in
    let end = c.in-Ok.end in
    let word = c.take_word.new.word in
    let next = c.gap_end-next-in-loop-next.result in
    let done = c.loop-next.list.items in
    let more = c.push.new.self.items in
    let cut : Cut = record { bytes = word; end = end; behind = drop end text } in
    let lines = word_line at (drop at text) cut c.in-Ok.ensures.value c.loop-next.invariant.1 in
    let more_is : more ≡ done ++ c.in-Some.attr ∷ [] = grind (arith, common_steps) in
    let is = reads_some c.in_ok-attr.field-0 c.in-Some.attr (attr_of c.as_slice.result.now) c.in-Some.is c.in_ok-attr.ensures in
    let few : length done < 36 = omega arith in
    let a_is = is.0 ∙ ap attr_of c.as_slice.ensures in
    let good = sym (ap (λ (w : List ℕ). is_name (attr_of w).name) c.as_slice.ensures) ∙ is.1 in
    let name = ap (λ (a : Attr). is_name a.name) a_is ∙ good in
    let value = ap (λ (a : Attr). is_value a.value) a_is ∙ value_text_is word lines.0 in (
      omega arith,
      next_line text end next lines.1 c.gap_end-next-in-loop-next.ensures.value,
      tuple_more done more c.in-Some.attr c.loop-next.invariant.2 few more_is name value,
      one_more text word done more c.in-Some.attr at end next c.loop-next.invariant.3 (omega arith) few c.in-Ok.ensures.value a_is good more_is c.gap_end-next-in-loop-next.ensures.value,
    )

pub returns-in_default : goal.returns-in_default
returns-in_default c =
    let bad = reads_none c.in_ok-attr.field-0 (attr_of c.as_slice.result.now) c.in_default.is c.in_ok-attr.ensures in
    bad_name c.args.text.now c.take_word.new.word c.loop-next.list.items c.loop-next.next c.in-Ok.end c.loop-next.invariant.3 (omega arith) (omega arith) c.in-Ok.ensures.value
    (sym (ap (λ (w : List ℕ). is_name (attr_of w).name) c.as_slice.ensures) ∙ bad)

pub returns : goal.returns
returns c = all_read c.args.text.now c.loop-next.list.items c.loop-next.next c.loop-next.invariant.3 (omega arith) ∙ ap Ok (sym c.from_vec.ensures)
