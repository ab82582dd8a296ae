-- What may come behind the login that is written out: ann is removed from the tables of the authentication server,
-- which are read again, and her node is restarted. It shows that records with both can be clean.
use Rattle.std.specs.Prelude.{[], ◌∷◌, codes}
use Rattle.wire_histories.specs.declared.step.Step.TheVariants.{Reload, Restart}
use Rattle.wire_histories.specs.Histories.{History}
use Rattle.wire_histories.specs.Legal.{Setting, Tables}
use Rattle.clean_runs.specs.Login.{Secrets, login, spoken, srv, tables, user_key}

abbrev pub removal : Secrets → History
removal k = Restart (codes "a") ∷ Reload ∷ login k

-- srv has the same key and password as before
abbrev pub tables_without : Secrets → Tables
tables_without k = record { keys = (srv, user_key k.srv_key k.srv_password) ∷ []; speaks = [] }

abbrev pub removal_setting : Secrets → Setting
removal_setting k = record { spoken = spoken k; dom = codes "x"; tables = tables k ∷ tables_without k ∷ [] }
