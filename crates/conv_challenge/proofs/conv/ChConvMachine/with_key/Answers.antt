use Rattle.std.proofs.Common.{option_map}
use Rattle.std.specs.Borrow.{Bor}
use Rattle.wire_base.specs.declared.text.Text.{Text}
use Rattle.roles.specs.Talks.{found}
use Rattle.conv_challenge.proofs.StandLemmas.{tells, keeps}
use Rattle.conv_challenge.proofs.conv.ChConvMachine.with_key.Goals as goal

pub returns-clause-told : goal.returns-clause-told
returns-clause-told c = tells c.args.self.now c.take_key.new.self c.take_key.result (found c.args.key.now (option_map (λ (text : Bor Text). text.now) c.args.password)) c.take_key.ensures

pub returns-clause-kept : goal.returns-clause-kept
returns-clause-kept c = keeps c.args.self.now c.take_key.new.self c.take_key.result (found c.args.key.now (option_map (λ (text : Bor Text). text.now) c.args.password)) c.take_key.ensures

pub returns-clause-unchanged : goal.returns-clause-unchanged
returns-clause-unchanged c = c.take_key.ensures.unchanged
