use Rattle.std.proofs.Common.{sym, ◌∙◌}
use Rattle.attach_program.proofs.KeyLemmas.{given_all, given_bad, given_more, none_bad, turns_fall}
use Rattle.attach_program.proofs.keys.give_lines.Goals as goal

pub loop-left-preserved : goal.loop-left-preserved
loop-left-preserved c = record {
  given = λ H stands.
      let g = c.loop-left.invariant.given H stands in
      given_more _ _ _ c.in-Some.text c.cut_line.result.0.now c.cut_line.result.1 _ _ _ c.in-Some.is c.cut_line.ensures.lines g
      (sym (c.in_ok-is_taken.ensures.taken g.keys g.stands) ∙ c.if-not-is_taken.false) (c.in_ok-is_taken.ensures.stands c.if-not-is_taken.false g.keys g.stands);
  room = turns_fall _ c.in-Some.text c.cut_line.result.1 _ _ c.in-Some.is c.cut_line.ensures.ends c.loop-left.invariant.room;
}

pub returns-clause-ok : goal.returns-clause-ok
returns-clause-ok c = λ H stands. given_all H _ _ _ _ c.in_default.is (c.loop-left.invariant.given H stands)

pub returns-clause-good : goal.returns-clause-good
returns-clause-good c = λ H stands. none_bad H _ _ _ _ c.in_default.is (c.loop-left.invariant.given H stands)

pub returns-then-not-is_taken-clause-err : goal.returns-then-not-is_taken-clause-err
returns-then-not-is_taken-clause-err c = λ H stands.
    let g = c.loop-left.invariant.given H stands in
    given_bad H _ _ c.in-Some.text c.cut_line.result.0.now c.cut_line.result.1 _ _ c.in-Some.is c.cut_line.ensures.lines g
    (sym (c.in_ok-is_taken.ensures.taken g.keys g.stands) ∙ c.if-not-is_taken.true)
