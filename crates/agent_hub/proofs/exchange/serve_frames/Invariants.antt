use Rattle.agent_history.specs.Histories.{History}
use Rattle.agent_core.specs.Agents.{StandsFor}
use Rattle.agent_hub.specs.Requesting.{frames_in}
use Rattle.agent_hub.specs.Exchanging.{Serving}
use Rattle.agent_hub.proofs.exchange.serve_frames.Given as goal

abbrev pub invariant-loop-word : goal.invariant-loop-word
invariant-loop-word l = (H : History) → StandsFor H l.fn.agent → Serving H l.conn (frames_in l.frames) l.words l.rest l.word-index l.taken.items l.end l.fn.out l.out l.agent
