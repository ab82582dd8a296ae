use Rattle.std.proofs.Common.{◌∙◌, ◌++◌, ℕ, List, ap, codes, map, [], ◌∷◌}
use Rattle.std.proofs.lemmas.Result.{on_ok_weaker}
use Rattle.auth_program.specs.Log.{shown_byte}
use Rattle.pass_program.specs.Notes.{event_words}
use Rattle.pass_program.proofs.NoteLemmas.{line_made}
use Rattle.pass_program.proofs.log.append_event.Goals as goal

pub returns-clause-ok : goal.returns-clause-ok
returns-clause-ok c = on_ok_weaker c.push.result (λ e.
    line_made c.args.out.now _ _ _ _ c.push.new.self (codes "pass_change: ") (map shown_byte c.args.user.now) (codes ": ") (event_words c.args.event) (10 ∷ [])
    c.in_ok-append.ensures.ok
    (c.in_ok-append_shown.ensures.ok ∙ ap (λ (t : List ℕ). c.append.new.self ++ map shown_byte t) c.text.ensures.value)
    c.in_ok-append-2.ensures.ok
    (c.in_ok-append-3.ensures.ok ∙ ap (λ (t : List ℕ). c.append-2.new.self ++ t) c.event_words.ensures)
    e)
    c.push.ensures.ok
