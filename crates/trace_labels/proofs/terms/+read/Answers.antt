use Rattle.std.proofs.Common.{◌≡◌, arith, ap, sym, ◌∙◌, Err}
use Rattle.std.proofs.lemmas.Result.{err_from_is_err_and, IfOk-weaker}
use Rattle.trace_labels.specs.Reading.{term_in}
use Rattle.trace_labels.proofs.TermLaws.{piece_more, piece_none, pieces_end, behind_found}
use Rattle.trace_labels.specs.declared.unread.Unread.TheVariants.{BadForm}
use Rattle.trace_labels.proofs.Parts.{same_err}
use Rattle.trace_labels.proofs.terms.+read.Goals as goal

pub read_pieces-loop-preserved : goal.read_pieces-loop-preserved
read_pieces-loop-preserved t c = piece_more (term_in c.args.deep) c.args.many c.loop.counter c.args.words.now c.loop.words c.read_term.new.words c.loop.pieces.items c.put_piece.new.pieces.items c.in_ok-piece.piece c.loop.invariant c.loop-test.true c.in_ok-piece.ensures.ok c.in_ok-put_piece.ensures

pub read_pieces-returns-in_err-piece-clause-bad : goal.read_pieces-returns-in_err-piece-clause-bad
read_pieces-returns-in_err-piece-clause-bad t c = λ e. piece_none (term_in c.args.deep) c.args.many c.loop.counter c.args.words.now c.loop.words c.loop.pieces.items c.loop.invariant c.loop-test.true
    (let p = err_from_is_err_and c.from_residual.result c.from_residual.ensures.1 in
    let fault : c.in_err-piece.field-0.0 ≡ BadForm = same_err _ _ (ap Err (sym p.2) ∙ sym p.1 ∙ e) in
    c.read_term.ensures.bad (c.in_err-piece.was ∙ ap Err fault))

pub read_pieces-returns-clause-ok : goal.read_pieces-returns-clause-ok
read_pieces-returns-clause-ok t c = pieces_end (term_in c.args.deep) c.args.many c.loop.counter c.args.words.now c.loop.words c.loop.pieces.items c.loop.invariant (omega (arith, c.loop-test.false))

pub read_term-returns-in-Some-clause-ok : goal.read_term-returns-in-Some-clause-ok
read_term-returns-in-Some-clause-ok t c = IfOk-weaker c.read_behind.result _ _ (λ x h. behind_found c.args.deep c.in_ok-word.word.now c.in-Some.verb c.args.words.now c.take.new.self _ (omega (arith, c.if-deep-eq0.false)) c.in_ok-word.ensures.ok (sym c.in-Some.ensures) h) c.read_behind.ensures.ok
