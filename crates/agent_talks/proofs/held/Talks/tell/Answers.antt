use Rattle.std.proofs.Common.{◌≡◌, map, true, Some, ap}
use Rattle.std.specs.Prelude.{option_map}
use Rattle.conversations.specs.Shown.{answer_in}
use Rattle.agent_history.specs.Conversations.{fits, standing_of}
use Rattle.agent_talks.specs.Kept.{question_of}
use Rattle.agent_talks.specs.Tells.{answer_at}
use Rattle.agent_talks.proofs.TellLemmas.{handed_short, handed_tells}
use Rattle.agent_talks.proofs.held.Talks.tell.Goals as goal

pub returns-in-Some-true-clause-tells : goal.returns-in-Some-true-clause-tells
returns-in-Some-true-clause-tells c = λ done there h.
    let is = c.in-Some-true.is in
    let test = c.in-Some-true.field-0-test in
    let shown = c.fits.ensures.shown done there h in
    let fit : Some true ≡ option_map (fits c.args.count) (answer_in (standing_of done c.args.conv).phase) = cc in
    handed_tells done c.args.self.now c.hand_answer.new.self c.args.conv c.args.count c.hand_answer.result fit c.hand_answer.ensures.meets (ap (λ qs. map question_of qs.items) c.hand_answer.ensures.questions) (c.hand_answer.ensures.told done there h) there h

pub returns-in-Some-true-clause-short : goal.returns-in-Some-true-clause-short
returns-in-Some-true-clause-short c =
    let is = c.in-Some-true.is in
    let test = c.in-Some-true.field-0-test in
    let held = c.fits.ensures.held in
    let fit : Some true ≡ option_map (fits c.args.count) (answer_at c.args.self.now c.args.conv) = cc in
    handed_short c.args.count (answer_at c.args.self.now c.args.conv) c.hand_answer.result fit c.hand_answer.ensures.held
