-- what came of an event is what the agent put out, between how the conversation stood and how it stands
use Rattle.std.proofs.Common.{refl}
use Rattle.world_history.specs.Driving.{drive}
use Rattle.agent_turns.proofs.TurnLemmas.{met_so}
use Rattle.agent_turns.proofs.following.meet.Goals as goal

pub returns : goal.returns
returns c = λ H stood.
    let drives = c.in_ok-driven.ensures H stood in
    met_so c.args.fid c.args.event.now H c.drive.new.agent _ c.in_ok-driven.driven drives refl (c.outcome-before.ensures H stood) (c.outcome-now.ensures (drive c.args.event.now H) drives.stands)
