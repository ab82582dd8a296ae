use Rattle.std.proofs.Common.{rules}
use Rattle.std.proofs.lemmas.Fn.{filter_same}
use Rattle.client_doors.specs.Wrongs.{is_kept}
use Rattle.client_doors.proofs.wrongs.forget.Goals as goal

pub returns-clause-others : goal.returns-clause-others
returns-clause-others c = filter_same _ (is_kept c.args.address c.args.now) _ (λ x b f k. search rules) c.args.guessers.now.items c.retain.new.self.items c.retain.ensures.filtered
