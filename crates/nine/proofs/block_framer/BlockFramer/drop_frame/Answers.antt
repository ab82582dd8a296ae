use Rattle.std.proofs.Common.{sym}
use Rattle.nine.proofs.StreamLaws.{dropped_one, whole_there}
use Rattle.nine.proofs.block_framer.BlockFramer.drop_frame.Goals as goal

pub pass-requires : goal.pass-requires
pass-requires c = whole_there c.args.self.now.limit c.args.self.now.held c.in-Frame.size (sym c.in-Frame.ensures)

pub returns-in-Frame-clause-stream : goal.returns-in-Frame-clause-stream
returns-in-Frame-clause-stream c = λ size stream handed e has. dropped_one c.args.self.now c.pass.new.self c.in-Frame.size size (sym c.in-Frame.ensures) c.pass.ensures stream handed e has
