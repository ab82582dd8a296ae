use Rattle.std.proofs.Common.{refl, arith}
use Rattle.world_history.specs.Talking as talk
use Rattle.world_scripts.specs.Lines as l
use Rattle.world_run.proofs.LineLemmas.{conv_unknown, start_judged}
use Rattle.world_run.proofs.RunLemmas.{asked_line}
use Rattle.world_run.proofs.run.Run.start.Goals as goal

pub ask-requires : goal.ask-requires
ask-requires c = omega (arith, c.requires)

pub returns-clause-carried : goal.returns-clause-carried
returns-clause-carried c = asked_line c.args.conv.now (talk.starts c.args.word c.args.tuple.now) (l.Start c.args.conv.now c.args.word c.args.tuple.now) c.args.self.now c.ask.result c.ask.new.self
    (λ acts. start_judged acts c.args.conv.now c.args.word c.args.tuple.now) (λ acts. conv_unknown acts (l.Start c.args.conv.now c.args.word c.args.tuple.now) c.args.conv.now refl) c.ask.ensures.carried
