use Rattle.std.proofs.Common.{◌≡◌, ℕ, Some, sym, subst}
use Rattle.agent_history.specs.Conversations.{Speaker, speaker_of, standing_of}
use Rattle.agent_talks.specs.Kept as kept
use Rattle.agent_talks.proofs.GrowLemmas.{speaker_stands}
use Rattle.agent_requests.proofs.DeliverSteps.{TellsShared, given_read, given_unread, given_untold}
use Rattle.agent_requests.proofs.ShareLemmas.{live_speaker}
use Rattle.agent_requests.proofs.shared.Shared.deliver.Goals as goal

pub returns-in_default-reader-clause-shares : goal.returns-in_default-reader-clause-shares
returns-in_default-reader-clause-shares c =
    let a = c.args in
    let s : Speaker = kept.speaker_of c.in-Some.speaker.now in
    λ done h.
    let is : speaker_of done a.conv ≡ Some s = sym (c.in-Some.ensures done h.talks.tells.talks.speak) in
    given_unread done a.conv s a.self.now is (c.in_default-reader.ensures done (live_speaker done a.conv s h.live is) h.mail) h

pub returns-in-Some-tell-clause-shares : goal.returns-in-Some-tell-clause-shares
returns-in-Some-tell-clause-shares c =
    let a = c.args in
    let s : Speaker = kept.speaker_of c.in-Some.speaker.now in
    λ done h.
    let is : speaker_of done a.conv ≡ Some s = sym (c.in-Some.ensures done h.talks.tells.talks.speak) in
    let hung = live_speaker done a.conv s h.live is in
    let tells = subst (λ (n : ℕ). TellsShared (standing_of done a.conv).phase done c.tell.new.self a.conv n (Some c.in-Some-tell.told)) c.from.ensures (c.in-Some-tell.ensures.tells done (speaker_stands done a.conv s is) h) in
    given_read done a.conv s c.in-Some-reader.read c.tell.new.self c.settle.new.self c.in-Some-tell.told c.spell_told-reply.result hung is (c.in-Some-reader.ensures done hung h.mail) tells c.settle.ensures.delivers c.spell_told-reply.ensures

pub returns-in_default-tell-clause-shares : goal.returns-in_default-tell-clause-shares
returns-in_default-tell-clause-shares c =
    let a = c.args in
    let s : Speaker = kept.speaker_of c.in-Some.speaker.now in
    λ done h.
    let is : speaker_of done a.conv ≡ Some s = sym (c.in-Some.ensures done h.talks.tells.talks.speak) in
    given_untold done a.conv s _ c.tell.new.self is (c.in_default-tell.ensures.tells done (speaker_stands done a.conv s is) h)
