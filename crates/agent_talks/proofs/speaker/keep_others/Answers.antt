use Rattle.std.proofs.Common.{not, rules}
use Rattle.std.proofs.lemmas.Fn.{filter_same}
use Rattle.agent_talks.specs.declared.speaker.Speaker.{Speaker}
use Rattle.agent_talks.specs.Kept.{leaves}
use Rattle.agent_talks.proofs.speaker.keep_others.Goals as goal

pub returns : goal.returns
returns c = filter_same _ (λ (s : Speaker). not (leaves c.args.leaving s)) _ (λ x b f k. search rules) c.args.speakers.now.items c.retain.new.self.items c.retain.ensures.filtered
