use Rattle.std.proofs.Common.{◌∷◌}
use Rattle.roles.specs.Talks.{undone}
use Rattle.conv_challenge.proofs.NeedLaws.{undone_call}
use Rattle.conv_challenge.proofs.StandLemmas.{stands_back, stands_on}
use Rattle.conv_challenge.proofs.conv.ChConvMachine.undo_need.Goals as goal

pub returns-clause-kept : goal.returns-clause-kept
returns-clause-kept c = stands_on c.args.self.now c.take_undone-answer.new.self undone c.take_undone-answer.ensures.follows

pub returns-clause-back : goal.returns-clause-back
returns-clause-back c = λ start talk call stands none key.
    stands_back c.take_undone-answer.new.self start talk call (undone_call start talk call none key)
    (stands_on c.args.self.now c.take_undone-answer.new.self undone c.take_undone-answer.ensures.follows start (call ∷ talk) stands)
