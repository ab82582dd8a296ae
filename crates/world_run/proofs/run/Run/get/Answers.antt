use Rattle.std.proofs.Common.{refl}
use Rattle.world_history.specs.Talking as talk
use Rattle.world_scripts.specs.Lines as l
use Rattle.world_run.proofs.LineLemmas.{conv_unknown, read_judged}
use Rattle.world_run.proofs.RunLemmas.{asked_line}
use Rattle.world_run.proofs.run.Run.get.Goals as goal

pub returns-clause-carried : goal.returns-clause-carried
returns-clause-carried c = asked_line c.args.conv.now talk.gets (l.Read c.args.conv.now) c.args.self.now c.ask.result c.ask.new.self
    (λ acts. read_judged acts c.args.conv.now) (λ acts. conv_unknown acts (l.Read c.args.conv.now) c.args.conv.now refl) c.ask.ensures.carried
