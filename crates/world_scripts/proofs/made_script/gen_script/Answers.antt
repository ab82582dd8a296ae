use Rattle.std.proofs.Common.{◌≡◌, ◌+◌, ◌-◌, ◌*◌, suc, arith, ap, ◌∙◌}
use Rattle.world_scripts.specs.Rounds.{recorded}
use Rattle.world_scripts.specs.Draws.{words_left}
use Rattle.world_scripts.specs.Generated.{gen_text}
use Rattle.world_scripts.proofs.ScriptLemmas.{makes_all, makes_more, makes_none}
use Rattle.world_scripts.proofs.made_script.gen_script.Goals as goal

pub loop-round-init : goal.loop-round-init
loop-round-init c = record {
  makes = makes_none c.args.number c.args.rounds (5 * c.from.result) (c.args.rounds - 0) (words_left c.new-words.result) c.in_ok-script.script c.in_ok-script.ensures c.new-words.ensures.words (omega arith) (omega arith);
  few_before = omega arith;
  few = omega arith;
}

pub loop-round-preserved : goal.loop-round-preserved
loop-round-preserved c =
    let l = c.loop-round in
    let one : c.args.rounds - l.round ≡ suc (c.args.rounds - (l.round + 1)) = omega arith in
    record {
      makes = makes_more (gen_text c.args.number c.args.rounds) l.script c.put_round.new.out (c.args.rounds - l.round) (c.args.rounds - (l.round + 1)) l.round l.before l.first (l.first + c.recorded-first.result)
          (words_left l.words) (words_left c.draw_round-drawn.new.words) c.draw_round-drawn.result l.invariant.makes one (ap (λ (n : _). l.first + n) (c.recorded-first.ensures.value ∙ ap recorded c.kind_of.ensures)) c.draw_round-drawn.ensures c.in_ok-put_round.ensures;
      few_before = omega arith;
      few = omega (arith, c.recorded-first.ensures.few, l.invariant.few);
    }

pub returns : goal.returns
returns c = makes_all (gen_text c.args.number c.args.rounds) c.loop-round.script (c.args.rounds - c.loop-round.round) c.loop-round.round c.loop-round.before c.loop-round.first (words_left c.loop-round.words) c.loop-round.invariant.makes (omega arith)
