-- The line that tells what came of a look at the files of a server's tables. The definitions are the project's own.
use Rattle.std.specs.Prelude.{ℕ, List, [], ◌∷◌, ◌++◌, Bool, true, codes}
use Rattle.auth_program.specs.Log.{line_under}
use Rattle.auth_program.specs.Statuses.{is_printable, status_text}
use Rattle.auth_program.specs.declared.renewal.Renewal.{Renewal}
use Rattle.auth_program.specs.declared.renewal.Renewal.TheVariants.{Same, Read, Refused}

-- whether it can be told: that of a refusal is made of the status
abbrev pub is_told : Renewal → Bool
is_told Same = true
is_told Read = true
is_told (Refused status) = is_printable status

abbrev pub renewal_text : Renewal → List ℕ
renewal_text Same = []
renewal_text Read = codes "authd: the tables were read again" ++ 10 ∷ []
renewal_text (Refused status) = line_under (codes "authd: the tables stay as they were: ") (status_text status)
