use Rattle.std.proofs.Common.{option_map}
use Rattle.std.specs.Borrow.{Bor}
use Rattle.wire_base.specs.declared.text.Text.{Text}
use Rattle.roles.proofs.AnswerLemmas.{comes}
use Rattle.roles.specs.Talks.{found}
use Rattle.conv_p9any.proofs.StandLemmas.{choice_leads, kept_with}
use Rattle.conv_p9any.proofs.conv.AnyConvMachine.with_key.Goals as goal

pub returns-in-None-clause-told : goal.returns-in-None-clause-told
returns-in-None-clause-told g c = λ start talk at.
    comes c.take_key.result _ (λ memory. (choice_leads g.M.Machine.stands _ c.args.self.now (record { alloc = c.args.self.now.alloc; chooser = c.take_key.new.self; spoken = c.args.self.now.spoken }) c.take_key.result (found c.args.key.now (option_map (λ (text : Bor Text). text.now) c.args.password)) c.in-None.is c.in-None.is (c.take_key.ensures.takes g.M.Offered.protocol (option_map (λ (text : Bor Text). text.now) c.args.password)) start _ at).0)

pub returns-in-None-clause-kept : goal.returns-in-None-clause-kept
returns-in-None-clause-kept g c = λ start talk at.
    kept_with g.M.Machine.stands _ (record { alloc = c.args.self.now.alloc; chooser = c.take_key.new.self; spoken = c.args.self.now.spoken }) c.take_key.result (found c.args.key.now (option_map (λ (text : Bor Text). text.now) c.args.password)) c.take_key.ensures.told start talk
    (choice_leads g.M.Machine.stands _ c.args.self.now (record { alloc = c.args.self.now.alloc; chooser = c.take_key.new.self; spoken = c.args.self.now.spoken }) c.take_key.result (found c.args.key.now (option_map (λ (text : Bor Text). text.now) c.args.password)) c.in-None.is c.in-None.is (c.take_key.ensures.takes g.M.Offered.protocol (option_map (λ (text : Bor Text). text.now) c.args.password)) start _ at).1
