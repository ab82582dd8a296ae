use Rattle.std.proofs.Common.{subst}
use Rattle.roles.specs.Talks.{get}
use Rattle.conv_p9any.specs.Standing.{Gets, Takes}
use Rattle.conv_p9any.proofs.StandLemmas.{choice_leads}
use Rattle.conv_p9any.proofs.conv.AnyConv.choose_got.Goals as goal

pub returns-in-Ok-Answered-clause-follows : goal.returns-in-Ok-Answered-clause-follows
returns-in-Ok-Answered-clause-follows g c =
    let gets = subst (λ got. Gets c.protocol_name-protocol.result.now c.args.self.now.chooser c.take_got.new.self c.args.out.now c.take_got.new.out got) c.in-Ok-Answered.field-0-is c.in-Ok-Answered.ensures.gets in
    let takes : Takes g.M.Offered.protocol c.args.self.now.chooser c.take_got.new.self c.in-Ok-Answered.gave get =
    subst (λ name. Takes name c.args.self.now.chooser c.take_got.new.self c.in-Ok-Answered.gave get) c.protocol_name-protocol.ensures gets.1.0 in
    record {
      unchanged = λ none. elim (gets.0 none) [ ];
      follows = λ memory. choice_leads g.M.Machine.stands _ c.args.self.now (record { alloc = c.args.self.now.alloc; chooser = c.take_got.new.self; spoken = c.args.self.now.spoken }) c.in-Ok-Answered.gave get c.requires c.requires takes;
    }
