use Rattle.std.proofs.Common.{sym, ◌∙◌, ap, take, subst, ◌≤◌, ℕ, List, length}
use Rattle.nine.specs.Framed.{Framing}
use Rattle.nine.proofs.StreamLaws.{shows_bad, shows_next, shows_none, shows_whole, whole_there}
use Rattle.nine.proofs.block_framer.BlockFramer.peek.Goals as goal

pub split_at-requires : goal.split_at-requires
split_at-requires c = subst (λ (held : List ℕ). c.in-Frame.size ≤ length held) (sym c.rest.ensures) (whole_there c.args.self.now.limit c.args.self.now.held c.in-Frame.size (sym c.in-Frame.ensures))

pub returns-in-Frame-clause-answer : goal.returns-in-Frame-clause-answer
returns-in-Frame-clause-answer c = shows_whole c.args.self.now c.in-Frame.size c.split_at.result.0.now (sym c.in-Frame.ensures) (c.split_at.ensures.front ∙ ap (take c.in-Frame.size) c.rest.ensures)

pub returns-in-Frame-clause-stream : goal.returns-in-Frame-clause-stream
returns-in-Frame-clause-stream c = λ stream handed has. shows_next c.args.self.now c.in-Frame.size c.split_at.result.0.now (sym c.in-Frame.ensures) (c.split_at.ensures.front ∙ ap (take c.in-Frame.size) c.rest.ensures) stream handed has

pub returns-in-Bad-clause-stream : goal.returns-in-Bad-clause-stream
returns-in-Bad-clause-stream c = λ stream handed has.
    let shows = shows_bad c.args.self.now c.in-Bad.size (sym c.in-Bad.ensures) stream handed has in
    (shows.0, ap (λ (f : Framing). f.before) c.self.view_is ∙ shows.1)

pub returns-in-Part-clause-stream : goal.returns-in-Part-clause-stream
returns-in-Part-clause-stream c = λ stream handed has. shows_none c.args.self.now (sym c.in-Part.ensures) stream handed has
