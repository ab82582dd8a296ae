use Rattle.std.proofs.Common.{◌≡◌, List, Bool, ◌+◌, ◌++◌, length, map, take, drop, ap, arith, ◌∙◌, sym, refl}
use Rattle.std.proofs.lemmas.List.{length-map, length-set, map-set}
use Rattle.des_block.specs.Tables.{PC2}
use Rattle.des_block.specs.Bits.{binary, permuted}
use Rattle.des_block.specs.Schedule.{round_keys}
use Rattle.des_block.proofs.RoundLemmas.{key_step, keys_all}
use Rattle.des_block.proofs.WordLaws.{joined_word}
use Rattle.des_block.proofs.schedule.make_round_keys.Goals as goal

pub loop-i-preserved : goal.loop-i-preserved
unfolding PC2 permuted
loop-i-preserved c =
    let i = c.loop-i.i in
    let shifts = c.args.shifts.now in
    let keys = map (binary 48) c.loop-i.keys in
    let many : length keys ≡ 16 = length-map c.loop-i.keys (binary 48) ∙ c.loop-i.invariant.0 in
    let c_next = binary 28 c.shifted-c.result in
    let d_next = binary 28 c.shifted-d.result in (
      length-set _ _ _ ∙ c.loop-i.invariant.0,
      c.shifted-c.ensures.small,
      c.shifted-d.ensures.small,
      ap (λ (ks : List (List Bool)). take (i + 1) ks ++ round_keys (drop (i + 1) shifts) c_next d_next) (map-set (binary 48) c.loop-i.keys i c.look_up.result)
          ∙ key_step shifts keys i (binary 28 c.loop-i.c) (binary 28 c.loop-i.d) c_next d_next (binary 48 c.look_up.result) (omega arith) (omega (arith, many)) c.shifted-c.ensures.value c.shifted-d.ensures.value
          (c.look_up.ensures PC2 refl ∙ ap (permuted PC2) (joined_word c.shifted-c.result c.shifted-d.result c.shifted-c.ensures.small c.shifted-d.ensures.small))
          ∙ c.loop-i.invariant.3,
    )

pub returns : goal.returns
returns c =
    let keys = map (binary 48) c.loop-i.keys in
    let many : length keys ≡ 16 = length-map c.loop-i.keys (binary 48) ∙ c.loop-i.invariant.0 in
    sym (keys_all c.args.shifts.now keys c.loop-i.i _ _ (omega arith) (omega (arith, many))) ∙ c.loop-i.invariant.3
