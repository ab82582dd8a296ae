use Rattle.std.proofs.Common.{◌≡◌, ℕ, List, true, refl, sym, subst, ◌∙◌}
use Rattle.std.proofs.lemmas.Result.{on_ok_weaker}
use Rattle.doors.specs.Calls.{is_fit, write_text}
use Rattle.doors.specs.Requests.{IsAsked}
use Rattle.doors.specs.Answers.{asked}
use Rattle.doors.proofs.ServeLemmas.{asks_in, write_fits}
use Rattle.doors.proofs.connection.Connection.write.Goals as goal

pub ask-requires : goal.ask-requires
ask-requires g c = subst (λ (x : List ℕ). is_fit x ≡ true) (sym (c.as_slice.ensures ∙ c.in_ok-request.ensures)) (write_fits c.args.self.now.fids c.args.fid c.in-Some.conversation.now c.args.content.now (sym c.in-Some.ensures) c.requires.tested)

pub returns-clause-ok : goal.returns-clause-ok
returns-clause-ok g c = on_ok_weaker c.answer_write.result (λ served done setting past offset keeps told. record {
  calls = asked c.in-Some.conversation.now.conv (write_text c.args.content.now) c.in_ok-came.came c.ask.new.answer;
  asks = asks_in (λ a. IsAsked a.conv (write_text c.args.content.now)) done c.args.self.now c.args.fid c.in-Some.conversation.now (asked c.in-Some.conversation.now.conv (write_text c.args.content.now) c.in_ok-came.came c.ask.new.answer) keeps c.in-Some.ensures (refl, refl);
  told = rw (c.as_slice.ensures, c.in_ok-request.ensures) at (c.in_ok-came.ensures.port setting past told);
  served = rw c.as_slice-2.ensures at (served done c.args.fid offset c.in-Some.conversation.now.conv keeps (rw c.as_slice-2.ensures c.in_ok-came.ensures.heard));
}) c.answer_write.ensures.ok
