use Rattle.std.proofs.Common.{◌≡◌, ℕ, List, ◌∷◌, true, Some, None, subst}
use Rattle.agent_history.specs.Deeds.{Deed, OfReplies, Awaited}
use Rattle.agent_history.specs.Conversations.{standing_of}
use Rattle.agent_history.specs.Requests.{carried}
use Rattle.agent_talks.specs.Speaks.{stands}
use Rattle.agent_talks.specs.Tells.{TellsBy}
use Rattle.mailboxes.specs.Deliveries.{Delivers}
use Rattle.agent_requests.specs.Sharing.{Shares}
use Rattle.agent_requests.proofs.OwnDeeds.{carried_all}
use Rattle.agent_requests.proofs.ShareLemmas.{stands_all, with_mail}
use Rattle.agent_requests.specs.Connections.{asked}
use Rattle.agent_requests.proofs.RpcSteps.{told_none, told_some}
use Rattle.agent_requests.proofs.rpc_requests.read_talk.Goals as goal

pub returns-in-Some-clause-answered : goal.returns-in-Some-clause-answered
returns-in-Some-clause-answered c =
    let a = c.args in
    λ done live there h.
    let now : List Deed = carried a.conv a.call.word done in
    let stand = carried_all (λ at. stands at a.conv ≡ true) (stands_all a.conv) a.conv a.call.word done there in
    let reserved : Shares done (with_mail a.shared.now c.reserve_wait.new.self) = record { ring = h.ring; holders = h.holders; mail = c.in_ok-reserve_wait.ensures.delivers done h.mail; talks = h.talks; live = h.live; held = h.held } in
    let tells = subst (λ (n : ℕ). TellsBy (λ d. Shares d c.tell.new.self) (standing_of now a.conv).phase now a.conv n (Some c.in-Some.told)) c.from.ensures (c.in-Some.ensures.tells now stand (c.in_ok-carry_out.ensures.carried done there reserved)) in
    let told = told_some now (asked a.call) a.read.fid a.read.count a.conv (standing_of now a.conv).phase c.tell.new.self c.in-Some.told c.spell_told.result tells c.spell_told.ensures in
    record { shares = told.0; said = told.1 }

pub returns-in-None-clause-answered : goal.returns-in-None-clause-answered
returns-in-None-clause-answered c =
    let a = c.args in
    λ done live there h.
    let now : List Deed = carried a.conv a.call.word done in
    let stand = carried_all (λ at. stands at a.conv ≡ true) (stands_all a.conv) a.conv a.call.word done there in
    let reserved : Shares done (with_mail a.shared.now c.reserve_wait.new.self) = record { ring = h.ring; holders = h.holders; mail = c.in_ok-reserve_wait.ensures.delivers done h.mail; talks = h.talks; live = h.live; held = h.held } in
    let tells = subst (λ (n : ℕ). TellsBy (λ d. Shares d c.tell.new.self) (standing_of now a.conv).phase now a.conv n None) c.from.ensures (c.in-None.ensures.tells now stand (c.in_ok-carry_out.ensures.carried done there reserved)) in
    let told = told_none now (asked a.call) a.read.fid a.read.count a.conv (standing_of now a.conv).phase c.tell.new.self c.wait.new.self tells
    (λ mail. subst (λ (t : ℕ). Delivers (OfReplies a.call.conn (Awaited t a.read.fid a.read.count) ∷ now) c.wait.new.self) c.requires (c.wait.ensures.delivers now mail)) in
    record { shares = told.0; said = told.1 }
