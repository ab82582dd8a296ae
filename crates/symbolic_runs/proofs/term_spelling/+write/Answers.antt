use Rattle.std.proofs.Common.{◌-◌, length, take, drop, arith, ap, ◌∙◌, option_map}
use Rattle.symbolic_runs.specs.Spellings.{spelling}
use Rattle.symbolic_runs.specs.Views.{tree}
use Rattle.symbolic_runs.specs.Answers.{atoms_of, key_option}
use Rattle.symbolic_runs.proofs.Weights.{lighter_piece, lighter_pieces}
use Rattle.symbolic_runs.proofs.WriteLemmas.{seal_written, digest_written, piece_behind, still_in_front}
use Rattle.symbolic_runs.proofs.term_spelling.+write.Goals as goal

pub write_digest-write_term-requires-2 : goal.write_digest-write_term-requires-2
write_digest-write_term-requires-2 t c = (omega (arith, c.decreases), tt)

pub write_digest-returns : goal.write_digest-returns
write_digest-returns t c =
    digest_written c.args.list.now.items c.write_term.new.list.items c.write_term-2.new.list.items c.truncate.new.self.items c.put.new.list.items (take (c.len-middle.result - c.len-from.result) (drop c.len-from.result c.deref.result.now)) (take (length c.deref-2.result.now - c.len-middle.result) (drop c.len-middle.result c.deref-2.result.now)) c.digest_of-digits.result c.args.kind
    (spelling (atoms_of c.args.reading.now) (tree c.args.secret.now)) (spelling (atoms_of c.args.reading.now) (tree c.args.text.now)) c.put.result c.len-from.result c.len-middle.result
    (c.len-from.ensures ∙ c.args.list.now.ok.0) c.in_ok-write_term.ensures.writes.done (c.len-middle.ensures ∙ c.write_term.new.list.ok.0) c.in_ok-write_term-2.ensures.writes.done
    (ap (λ l. take (c.len-middle.result - c.len-from.result) (drop c.len-from.result l)) c.deref.ensures.value) (ap (λ l. take (length l - c.len-middle.result) (drop c.len-middle.result l)) c.deref-2.ensures.value) c.digest_of-digits.ensures c.truncate.ensures.items c.put.ensures

pub write_pieces-loop-piece-preserved : goal.write_pieces-loop-piece-preserved
write_pieces-loop-piece-preserved t c = (
  piece_behind (atoms_of c.args.reading.now) c.args.pieces.now c.loop-piece.piece-index c.piece-item.result c.loop-piece.list.items c.write_term.new.list.items c.loop-piece-test.true c.piece-item.is c.in_ok-write_term.ensures.writes.done ∙ c.loop-piece.invariant.0,
  still_in_front c.args.list.now.items c.loop-piece.list.items c.write_term.new.list.items (spelling (atoms_of c.args.reading.now) (tree c.piece-item.result)) c.loop-piece.invariant.1 c.in_ok-write_term.ensures.writes.done,
)

pub write_pieces-write_term-requires : goal.write_pieces-write_term-requires
write_pieces-write_term-requires t c = (omega (arith, c.decreases, lighter_piece c.args.pieces.now c.loop-piece.piece-index c.piece-item.result c.loop-piece-test.true c.piece-item.is), tt)

pub write_seal-write_term-requires-2 : goal.write_seal-write_term-requires-2
write_seal-write_term-requires-2 t c = (omega (arith, c.decreases), tt)

pub write_seal-returns : goal.write_seal-returns
write_seal-returns t c =
    seal_written c.args.list.now.items c.write_term.new.list.items c.truncate.new.self.items c.write_term-2.new.list.items c.seal_from.new.list.items
    (spelling (atoms_of c.args.reading.now) (tree c.args.key.now)) (spelling (atoms_of c.args.reading.now) (tree c.args.body.now)) (option_map (λ k. k.0) c.key_of-key_bytes.result) c.seal_from.result c.len-from.result
    (c.len-from.ensures ∙ c.args.list.now.ok.0) c.in_ok-write_term.ensures.writes.done (c.key_of-key_bytes.ensures ∙ ap (λ l. key_option (take (length l - c.len-from.result) (drop c.len-from.result l))) c.deref.ensures.value) c.truncate.ensures.items c.in_ok-write_term-2.ensures.writes.done c.seal_from.ensures.value

pub write_term-write_pieces-requires : goal.write_term-write_pieces-requires
write_term-write_pieces-requires t c = (lighter_pieces c.args.term.now c.in-Cat.pieces c.as_slice-in-Cat.result.now t c.in-Cat.is c.as_slice-in-Cat.ensures c.decreases, tt)
