use Rattle.std.proofs.Common.{◌≡◌, length, map, ap, sym, arith, ◌∙◌, []}
use Rattle.std.proofs.lemmas.List.{length-map, get_or-map}
use Rattle.des_block.specs.Bits.{binary, xored}
use Rattle.des_block.proofs.WordLaws.{binary_xor}
use Rattle.des_block.proofs.RoundLemmas.{round_step, rounds_all}
use Rattle.des_block.proofs.rounds.run_rounds.Goals as goal

pub loop-key-preserved : goal.loop-key-preserved
loop-key-preserved c =
    let keys = map (binary 48) c.args.keys.now in
    let many : length keys ≡ 16 = length-map c.args.keys.now (binary 48) ∙ omega arith in
    round_step keys c.loop-key.key-index _ _ _ (binary 48 _) (omega (arith, many)) (sym (get_or-map (binary 48) c.args.keys.now c.loop-key.key-index 0 [] (omega arith)))
    (binary_xor 32 _ _ ∙ ap (xored (binary 32 c.loop-key.halves.0)) c.round_function.ensures)
    ∙ c.loop-key.invariant

pub returns : goal.returns
returns c =
    let keys = map (binary 48) c.args.keys.now in
    let many : length keys ≡ 16 = length-map c.args.keys.now (binary 48) ∙ omega arith in
    sym (rounds_all keys c.loop-key.key-index _ _ (omega (arith, many))) ∙ c.loop-key.invariant
