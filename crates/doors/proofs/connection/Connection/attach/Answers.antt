use Rattle.std.proofs.Common.{sym, ap, refl, ◌∙◌}
use Rattle.std.proofs.lemmas.Result.{on_ok_weaker}
use Rattle.doors.specs.Calls.{info_request}
use Rattle.doors.specs.Requests.{IsAsked, vouches}
use Rattle.doors.specs.Answers.{asked}
use Rattle.doors.proofs.ServeLemmas.{asks_in}
use Rattle.doors.proofs.connection.Connection.attach.Goals as goal

pub returns-clause-ok : goal.returns-clause-ok
returns-clause-ok g c = on_ok_weaker c.admit-2.result (λ served done setting past aname keeps told. record {
  calls = asked c.in-Some.conversation.now.conv info_request c.in_ok-came.came c.ask.new.answer;
  asks = asks_in (λ a. IsAsked a.conv info_request) done c.args.self.now c.args.afid c.in-Some.conversation.now _ keeps c.in-Some.ensures (refl, refl);
  told = c.in_ok-came.ensures.port setting past told;
  served = served done c.args.afid aname (asked c.in-Some.conversation.now.conv info_request c.in_ok-came.came c.ask.new.answer)
      ((rw (c.as_slice.ensures.same, c.as_slice-2.ensures) at c.vouches-vouched.ensures) ∙ ap (vouches c.args.uname) (sym c.in_ok-came.ensures.heard)) keeps;
}) c.admit-2.ensures.ok
