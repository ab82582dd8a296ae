use Rattle.std.proofs.Common.{◌≡◌, ◌++◌, sym, subst}
use Rattle.std.proofs.lemmas.Result.{on_ok_weaker}
use Rattle.auth_program.specs.Log.{IsLine, notice_line}
use Rattle.auth_program.proofs.LogLaws.{bad_is_line, bad_made, judged_is_line}
use Rattle.auth_program.proofs.log.append_notice.Goals as goal

pub returns-in_ok-append_asked-in-Bad-clause-ok : goal.returns-in_ok-append_asked-in-Bad-clause-ok
returns-in_ok-append_asked-in-Bad-clause-ok c = on_ok_weaker c.append.result (λ e.
    subst (λ notice. c.append.new.self ≡ c.args.out.now ++ notice_line c.args.address.now notice) (sym c.in-Bad.is)
    (bad_made c.args.address.now c.in-Bad.kind c.args.out.now _ c.append.new.self c.in_ok-append_asked-in-Bad.ensures.ok e))
    c.append.ensures.ok

pub returns-in_ok-append_asked-in-Bad-clause-line : goal.returns-in_ok-append_asked-in-Bad-clause-line
returns-in_ok-append_asked-in-Bad-clause-line c = on_ok_weaker c.append.result (λ _.
    subst (λ notice. IsLine (notice_line c.args.address.now notice)) (sym c.in-Bad.is)
    (bad_is_line c.args.address.now c.in-Bad.kind c.in_ok-append_asked-in-Bad.ensures.short))
    c.append.ensures.ok

pub returns-in_ok-append_asked-in-Judged-clause-line : goal.returns-in_ok-append_asked-in-Judged-clause-line
returns-in_ok-append_asked-in-Judged-clause-line c = on_ok_weaker c.append_judged.result (λ few.
    subst (λ notice. IsLine (notice_line c.args.address.now notice)) (sym c.in-Judged.is)
    (judged_is_line c.args.address.now c.in-Judged.asked.kind c.in_ok-append_asked-in-Judged.ensures.short _ _ c.in-Judged.outcome few.0 few.1))
    c.append_judged.ensures.short
