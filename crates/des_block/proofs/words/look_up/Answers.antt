use Rattle.std.proofs.Common.{◌≡◌, ℕ, ◌-◌, ◌*◌, ◌/◌, ◌%◌, ◌^◌, length, get_or, ap, sym, ◌∙◌, arith, [], bit_xor}
use Rattle.std.proofs.lemmas.Nat.{and_mask}
use Rattle.des_block.specs.Bits.{binary, permuted}
use Rattle.des_block.proofs.ByteLaws.{length-binary}
use Rattle.des_block.proofs.WordLaws.{look_up_begin, look_up_step, look_up_end}
use Rattle.des_block.proofs.words.look_up.Goals as goal

pub loop-i-init : goal.loop-i-init
loop-i-init g c table e = look_up_begin table (length c.args.rows.now) (binary (4 * length c.args.rows.now) c.args.word)

pub loop-i-preserved : goal.loop-i-preserved
loop-i-preserved g c table e =
    let many : length c.args.rows.now ≡ g.row.N = omega arith in
    ap (λ (k : ℕ). binary (length table) (bit_xor c.loop-i.sum (get_or (get_or c.args.rows.now c.loop-i.i []) k 0)))
    (and_mask (c.args.word / 2 ^ (4 * (g.row.N - 1 - c.loop-i.i))) 4 ∙ ap (λ (n : ℕ). c.args.word / 2 ^ (4 * (n - 1 - c.loop-i.i)) % 16) (sym many))
    ∙ look_up_step table c.args.rows.now c.args.word c.loop-i.sum c.loop-i.i e (omega arith) (c.loop-i.invariant table e)

pub returns : goal.returns
returns g c table e =
    let many : length c.args.rows.now ≡ g.row.N = omega arith in
    c.loop-i.invariant table e
    ∙ ap (permuted table) (look_up_end (length c.args.rows.now) c.loop-i.i (binary (4 * length c.args.rows.now) c.args.word) (length-binary (4 * length c.args.rows.now) c.args.word) (omega arith))
    ∙ ap (λ (n : ℕ). permuted table (binary (4 * n) c.args.word)) many
