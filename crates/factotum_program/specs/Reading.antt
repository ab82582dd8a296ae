-- Of the code alone: the command that clap is asked for, as its own definitions see it.
use Rattle.std.specs.Prelude.{codes}
use Rattle.clap.specs.Words.{App, new_app, with_rule}
use Rattle.auth_program.specs.Reading.{option_rule}

-- the command of `pipe`
abbrev pub pipe_app : App
pipe_app = with_rule (new_app (codes "pipe")) (option_rule (codes "auth"))
