use Rattle.std.proofs.Common.{◌≡◌, ◌∙◌, ap}
use Rattle.clap.specs.Words.{App, app_of, takes}
use Rattle.auth_program.specs.Reading.{bytes_of}
use Rattle.factotum_program.proofs.AuthWords.{auth_is_found, auth_taken, has_auth_text}
use Rattle.factotum_program.proofs.words.parse_auth.Goals as goal

pub copy_value-requires : goal.copy_value-requires
copy_value-requires c = has_auth_text (bytes_of c.args.texts.now) (app_of c.in_ok-command.command) c.in-Ok.matches c.requires.form c.requires.text c.in_ok-command.ensures c.in-Ok.ensures.matches

pub unreachable-requires : goal.unreachable-requires
unreachable-requires c =
    let words = bytes_of c.args.texts.now in
    c.in_default.not-OutOfMemory (c.kind.ensures ∙ c.in-Err.ensures.passes (ap (λ (a : App). takes a words) c.in_ok-command.ensures ∙ auth_taken words c.requires.form))

pub returns-in_ok-copy_value-in-Ok-clause-ok : goal.returns-in_ok-copy_value-in-Ok-clause-ok
returns-in_ok-copy_value-in-Ok-clause-ok c = auth_is_found (bytes_of c.args.texts.now) (app_of c.in_ok-command.command) c.in-Ok.matches _ c.requires.form c.in_ok-command.ensures c.in-Ok.ensures.matches c.in_ok-copy_value-in-Ok.ensures
