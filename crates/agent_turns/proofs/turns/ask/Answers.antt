-- a request that is refused is recorded by the replies to its write; any other by what its read comes to
use Rattle.std.proofs.Common.{refl, sym, ◌∙◌}
use Rattle.world_history.specs.Driving.{drive, replies_to}
use Rattle.agent_turns.specs.Turning.{said_asks}
use Rattle.agent_turns.proofs.TurnLemmas.{ask_read, ask_refused}
use Rattle.agent_turns.proofs.turns.ask.Goals as goal

pub returns-then-is_refused : goal.returns-then-is_refused
returns-then-is_refused c = λ H stood.
    let drives = c.in_ok-written.ensures H stood in
    ask_refused c.args.number c.args.conv.now c.args.fid (said_asks c.args.asks) H c.in_ok-write.write c.drive.new.agent c.in_ok-written.written _
    (rw c.in_ok-request_text.ensures at c.in_ok-write.ensures.is) drives
    (sym (c.is_refused.ensures (replies_to c.in_ok-write.write H) (c.as_slice.ensures ∙ drives.replies)) ∙ c.if-is_refused.true)
    (rw (c.as_slice-then-is_refused.ensures, c.new-steps.ensures.items) at c.in_ok-put_frames.ensures) refl

pub returns : goal.returns
returns c = λ H stood.
    let drives = c.in_ok-written.ensures H stood in
    ask_read c.args.number c.args.conv.now c.args.fid (said_asks c.args.asks) H c.in_ok-write.write c.in_ok-read.read c.meet.new.agent c.in_ok-came.came _
    (rw c.in_ok-request_text.ensures at c.in_ok-write.ensures.is)
    (sym (c.is_refused.ensures (replies_to c.in_ok-write.write H) (c.as_slice.ensures ∙ drives.replies)) ∙ c.if-is_refused.false)
    (rw c.word_of.ensures at c.in_ok-read.ensures.is) (c.in_ok-came.ensures (drive c.in_ok-write.write H) drives.stands)
    (rw (c.in_ok-put_own.ensures, c.new-steps.ensures.items) at c.in_ok-put_following.ensures) (rw c.as_slice-2.ensures at c.last_call-call.ensures)
