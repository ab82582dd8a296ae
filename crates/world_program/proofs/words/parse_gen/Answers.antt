use Rattle.std.proofs.Common.{◌∙◌, ap}
use Rattle.clap.specs.Words.{App, app_of, takes}
use Rattle.auth_program.specs.Reading.{bytes_of}
use Rattle.world_program.proofs.GenClap.{gen_taken, has_number, has_rounds, values_found}
use Rattle.world_program.proofs.words.parse_gen.Goals as goal

pub copy_value-requires : goal.copy_value-requires
copy_value-requires c = has_number (bytes_of c.args.texts.now) (app_of c.in_ok-command.command) c.in-Ok.matches c.requires.form c.requires.text c.in_ok-command.ensures c.in-Ok.ensures.matches

pub copy_value-requires-in-Ok : goal.copy_value-requires-in-Ok
copy_value-requires-in-Ok c = has_rounds (bytes_of c.args.texts.now) (app_of c.in_ok-command.command) c.in-Ok.matches c.requires.form c.requires.text c.in_ok-command.ensures c.in-Ok.ensures.matches

pub unreachable-requires : goal.unreachable-requires
unreachable-requires c =
    let words = bytes_of c.args.texts.now in
    c.in_default.not-OutOfMemory (c.kind.ensures ∙ c.in-Err.ensures.passes (ap (λ (a : App). takes a words) c.in_ok-command.ensures ∙ gen_taken words c.requires.form))

pub returns-in_ok-copy_value-in-Ok-2-clause-ok : goal.returns-in_ok-copy_value-in-Ok-2-clause-ok
returns-in_ok-copy_value-in-Ok-2-clause-ok c =
    let v = values_found (bytes_of c.args.texts.now) (app_of c.in_ok-command.command) c.in-Ok.matches _ _ c.requires.form c.in_ok-command.ensures c.in-Ok.ensures.matches
    c.in_ok-copy_value-in-Ok.ensures c.in_ok-copy_value-in-Ok-2.ensures in
    record { number = v.0; rounds = v.1 }
