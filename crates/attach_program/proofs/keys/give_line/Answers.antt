use Rattle.std.proofs.Common.{[], sym, ◌∙◌}
use Rattle.attach_program.proofs.KeyLemmas.{taken, takes}
use Rattle.attach_program.proofs.keys.give_line.Goals as goal

pub returns-clause-taken : goal.returns-clause-taken
returns-clause-taken c = λ H stands.
    let w = c.in_ok-reply.ensures H [] (record { stands = stands; replied = tt }) in
    c.is_done.ensures ∙ takes c.args.line.now H c.in_ok-reply.reply (sym c.is_empty.ensures ∙ c.if-is_empty.false) (sym c.is_key_line.ensures ∙ c.if-not-is_key_line.false) w.replied.0

pub returns-clause-stands : goal.returns-clause-stands
returns-clause-stands c = λ so H stands. taken c.args.line.now H c.write.new.agent (sym c.is_empty.ensures ∙ c.if-is_empty.false) (c.in_ok-reply.ensures H [] (record { stands = stands; replied = tt })).stands
