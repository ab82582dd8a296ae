use Rattle.std.proofs.Common.{◌≡◌, ◌∙◌, sym, ap, take, drop}
use Rattle.nine.specs.Streams.{front}
use Rattle.nine.proofs.StreamLaws.{taken_off, whole_there}
use Rattle.nine.proofs.framer.Framer.take_front.Goals as goal

pub split_at-requires-in-Frame : goal.split_at-requires-in-Frame
split_at-requires-in-Frame c = whole_there c.self.inside.limit c.split_at.result.1.now c.in-Frame.length (sym c.in-Frame.ensures)

pub returns-in_ok-frame-in-Frame-clause-answer : goal.returns-in_ok-frame-in-Frame-clause-answer
returns-in_ok-frame-in-Frame-clause-answer c =
    let held : c.split_at.result.1.now ≡ drop c.self.inside.front c.self.inside.bytes.items = c.split_at.ensures.back ∙ ap (drop c.self.inside.front) c.deref.ensures.value in
    rw (← c.self.view_is) (taken_off c.self.inside.limit c.self.inside.before c.self.inside.front c.in-Frame.length c.self.inside.bytes.items c.in_ok-frame-in-Frame.frame
    (ap (front c.self.inside.limit) (sym held) ∙ sym c.in-Frame.ensures)
    (c.in_ok-frame-in-Frame.ensures ∙ c.split_at-in-Frame.ensures.front ∙ ap (take c.in-Frame.length) held))
