use Rattle.std.proofs.Common.{subst, Option}
use Rattle.agent_history.specs.Requests.{after_frame}
use Rattle.mailboxes.specs.declared.reply.Reply.{Reply}
use Rattle.agent_requests.specs.Connections.{FrameServed, asked}
use Rattle.agent_requests.proofs.FrameSteps.{answered_keeps, replied_shares, waits_shares}
use Rattle.agent_requests.proofs.connection.Connection.serve.Goals as goal

pub returns-in-Some-clause-shares : goal.returns-in-Some-clause-shares
returns-in-Some-clause-shares c = λ done keeps h.
    let a = c.args in
    let served = subst (λ (o : Option Reply). FrameServed done (asked a.call) a.frame.now c.answer.new.self c.answer.new.shared o) c.in-Some.is
    (c.in_ok-reply.ensures.served done keeps (record { ring = h.ring; holders = h.holders; mail = c.in_ok-reserve.ensures.delivers done h.mail; talks = h.talks; live = h.live; held = h.held })) in
    replied_shares done (asked a.call) a.frame.now c.answer.new.shared c.push.new.self c.in-Some.reply served.shares served.said
    (λ body is. c.push.ensures.delivers (after_frame done (asked a.call) a.frame.now) a.call.tag body is served.shares.mail)

pub returns-in_default-clause-shares : goal.returns-in_default-clause-shares
returns-in_default-clause-shares c = λ done keeps h.
    let a = c.args in
    let served = subst (λ (o : Option Reply). FrameServed done (asked a.call) a.frame.now c.answer.new.self c.answer.new.shared o) c.in_default.is
    (c.in_ok-reply.ensures.served done keeps (record { ring = h.ring; holders = h.holders; mail = c.in_ok-reserve.ensures.delivers done h.mail; talks = h.talks; live = h.live; held = h.held })) in
    waits_shares done (asked a.call) a.frame.now c.answer.new.shared served.shares served.said

pub returns-in-Some-clause-keeps : goal.returns-in-Some-clause-keeps
returns-in-Some-clause-keeps c = λ done keeps h.
    let a = c.args in
    let served = c.in_ok-reply.ensures.served done keeps (record { ring = h.ring; holders = h.holders; mail = c.in_ok-reserve.ensures.delivers done h.mail; talks = h.talks; live = h.live; held = h.held }) in
    answered_keeps done (asked a.call) a.frame.now c.answer.new.self served.keeps

pub returns-in_default-clause-keeps : goal.returns-in_default-clause-keeps
returns-in_default-clause-keeps c = λ done keeps h.
    let a = c.args in
    let served = c.in_ok-reply.ensures.served done keeps (record { ring = h.ring; holders = h.holders; mail = c.in_ok-reserve.ensures.delivers done h.mail; talks = h.talks; live = h.live; held = h.held }) in
    answered_keeps done (asked a.call) a.frame.now c.answer.new.self served.keeps
