use Rattle.std.proofs.Common.{◌-◌, ◌*◌, ◌≤◌}
use Rattle.world_scripts.specs.Draws.{words_left}
use Rattle.world_scripts.specs.Generated.{gen_text}
use Rattle.world_scripts.proofs.ScriptLemmas.{Makes}
use Rattle.world_scripts.proofs.made_script.gen_script.Given as goal

-- the rounds so far were made, and no round records more than six messages
abbrev pub invariant-loop-round : goal.invariant-loop-round
invariant-loop-round l = record {
  makes : Makes (gen_text l.fn.number l.fn.rounds) l.script (l.fn.rounds - l.round) l.round l.before l.first (words_left l.words);
  few_before : l.before ≤ 6 * l.round;
  few : l.first ≤ 6 * l.round;
}
