use Rattle.std.proofs.Common.{sym, ap, ◌∙◌}
use Rattle.agent_talks.specs.declared.numbered.NumberedTalks.{NumberedTalks}
use Rattle.agent_talks.specs.Numbered.{key_in, kept_in, without}
use Rattle.agent_talks.proofs.RemovedLemmas.{removed}
use Rattle.agent_talks.proofs.numbered.NumberedTalks.remove.Goals as goal

pub returns-in-Some : goal.returns-in-Some
returns-in-Some c =
    let new : NumberedTalks = record { keys = c.remove.new.self; slab = c.try_remove.new.self } in
    let found = ap (λ (t : NumberedTalks). key_in t c.args.conv) c.seek.ensures.same ∙ (sym c.seek.ensures.found ∙ c.in-Some.is) in
    λ other.
    removed c.seek.new.self new c.args.conv c.in-Some.key found c.try_remove.ensures.updates c.remove.ensures other
    ∙ ap (λ (t : NumberedTalks). without c.args.conv other (kept_in t other)) c.seek.ensures.same
