use Rattle.std.proofs.Common.{List, ◌∷◌, refl}
use Rattle.side_files.specs.Calls as side
use Rattle.talks.specs.Calls.{Shut}
use Rattle.agent_history.specs.Deeds.{Deed, OfPrompts}
use Rattle.agent_talks.specs.Keeps.{Converses, KeepingTalks}
use Rattle.agent_talks.specs.Logging.{asking_of, keeping_of}
use Rattle.agent_talks.proofs.MeetLemmas.{shut_converses}
use Rattle.agent_talks.proofs.OtherCalls.{prompts_converses}
use Rattle.agent_talks.proofs.OtherDeedLemmas.{met_have}
use Rattle.agent_talks.proofs.ShutLemmas.{shut_tells}
use Rattle.agent_talks.proofs.standing.Conversations.shut.Goals as goal

pub returns-clause-shut : goal.returns-clause-shut
returns-clause-shut c = λ done is h.
    let a = c.args in
    let before : List Deed = OfPrompts a.kind (side.Withdrawn a.conv) ∷ done in
    let talks : KeepingTalks = record { talks = c.shut.new.self; calls = c.end_if_over.new.calls } in
    let there = (h.tells.users.asked a.kind a.conv is).stands in
    let was : Converses before (keeping_of a.self.now) = prompts_converses done (keeping_of a.self.now) a.kind (side.Withdrawn a.conv) h.tells.talks in
    let now = shut_converses before (keeping_of a.self.now) talks talks.talks a.conv c.raised-behind.result there (c.raised-behind.ensures before was.speak) (c.shut.ensures.shut before there was.speak) c.end_if_over.ensures.calls refl was in
    record {
      tells = shut_tells done (asking_of a.self.now) talks c.withdraw.new.self a.kind a.conv is now (c.withdraw.ensures done h.tells.files) h.tells;
      ends = met_have before a.self.now a.conv Shut refl (λ q there. h.ends q there);
    }
