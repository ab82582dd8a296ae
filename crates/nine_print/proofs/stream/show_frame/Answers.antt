use Rattle.std.proofs.Common.{rules, ◌≡◌, [], ◌∷◌, ◌++◌, refl}
use Rattle.std.proofs.lemmas.Result.{err_from_is_err_and}
use Rattle.nine_print.specs.Lines.{line_of}
use Rattle.nine_print.proofs.ShowLaws.{handed_more, handed_all, handed_some, meets_bad}
use Rattle.nine_print.proofs.stream.show_frame.Goals as goal

pub returns-in_err-frame-clause-err : goal.returns-in_err-frame-clause-err
returns-in_err-frame-clause-err c =
    let p = err_from_is_err_and c.from_residual.result c.from_residual.ensures.1 in
    rw (p.1, p.2) (λ so_far stream handed h. handed_some c.args.secrets so_far stream handed _ _ _ h refl)

pub returns-in_err-put_line-in-Whole-clause-err : goal.returns-in_err-put_line-in-Whole-clause-err
returns-in_err-put_line-in-Whole-clause-err c =
    let p = err_from_is_err_and c.from_residual-in_err-put_line-in-Whole.result c.from_residual-in_err-put_line-in-Whole.ensures.1 in
    rw (p.1, p.2) (λ so_far stream handed h. handed_some c.args.secrets so_far stream handed _ _ _ h c.in_err-put_line-in-Whole.ensures.err)

pub returns-in_err-put_bad_size-in-BadSize-clause-err : goal.returns-in_err-put_bad_size-in-BadSize-clause-err
returns-in_err-put_bad_size-in-BadSize-clause-err c =
    let p = err_from_is_err_and c.from_residual-in_err-put_bad_size-in-BadSize.result c.from_residual-in_err-put_bad_size-in-BadSize.ensures.1 in
    rw (p.1, p.2) (λ so_far stream handed h. handed_some c.args.secrets so_far stream handed _ _ _ h c.in_err-put_bad_size-in-BadSize.ensures.err)

pub returns-in_ok-put_line-in-Whole-clause-more : goal.returns-in_ok-put_line-in-Whole-clause-more
returns-in_ok-put_line-in-Whole-clause-more c =
    let is : c.put_line.new.out ≡ c.args.showing.now.lines ++ line_of c.args.secrets c.args.showing.now.framer.before c.in-Whole.frame = search rules in
    λ so_far stream handed h. (
      handed ++ c.in-Whole.frame ∷ [],
      handed_more c.args.secrets so_far stream handed c.args.showing.now.framer c.next.new.self c.args.showing.now.lines c.put_line.new.out c.in-Whole.frame h (rw c.in-Whole.is at c.in_ok-frame.ensures.answer) is,
    )

pub returns-in-NotYet-clause-all : goal.returns-in-NotYet-clause-all
returns-in-NotYet-clause-all c = λ _ so_far stream handed h. handed_all c.args.secrets so_far stream handed c.args.showing.now.framer c.next.new.self _ h (rw c.in-NotYet.is at c.in_ok-frame.ensures.answer)

pub returns-in_ok-put_bad_size-in-BadSize-clause-err : goal.returns-in_ok-put_bad_size-in-BadSize-clause-err
returns-in_ok-put_bad_size-in-BadSize-clause-err c = λ so_far stream handed h.
    meets_bad c.args.secrets so_far stream handed c.args.showing.now.framer c.next.new.self c.in-BadSize.at c.in-BadSize.size _ _ h (rw c.in-BadSize.is at c.in_ok-frame.ensures.answer) c.in_ok-put_bad_size-in-BadSize.ensures.ok
