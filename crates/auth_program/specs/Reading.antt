-- Of the code alone: the command that clap is asked for, as its own definitions see it.
use Rattle.std.specs.Prelude.{◌≡◌, ℕ, List, Some, map, true, codes}
use Rattle.std.specs.Borrow.{Bor}
use Rattle.wire_base.specs.Texts.{is_text}
use Rattle.clap.specs.Words.{App, Rule, first_value, found_of, new_app, new_rule, with_rule}
use Rattle.clap.specs.declared.builder.action.ArgAction.TheVariants.{Set}
use Rattle.clap.specs.declared.parser.matches.ArgMatches.{ArgMatches}

-- the bytes of texts
abbrev pub bytes_of : List (Bor (List ℕ)) → List (List ℕ)
bytes_of texts = map (λ text. text.now) texts

-- an option that has to be there, with a value
abbrev pub option_rule : List ℕ → Rule
option_rule name = record (new_rule name) { long = Some name; action = Some Set; required = true }

-- the command of `authsrv`
abbrev pub authsrv_app : App
authsrv_app = with_rule (with_rule (with_rule (new_app (codes "authsrv")) (option_rule (codes "dom")))
    (option_rule (codes "keys"))) (option_rule (codes "speaks"))

-- what was found has a value of this name, which is text
pub record HasText (matches : ArgMatches) (name : List ℕ) : Type 0 where
  pub value : List ℕ
  pub found : first_value (found_of matches) name ≡ Some value
  pub text : is_text value ≡ true
