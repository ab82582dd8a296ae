-- The key that a conversation keeps; and tests that decide whether a reading spells the keys and passwords of all
-- tables, and the key of each conversation.
use Rattle.std.specs.Prelude.{ℕ, zero, suc, List, [], ◌∷◌, Bool, true, ◌&&◌, length, map, Option, Some, None, option_map, unwrap_or}
use Rattle.std.specs.List.{list_all}
use Rattle.auth_tables.specs.Keys.{KeyLine, UserKey}
use Rattle.symbolic_runs.specs.Moves.{Role, client, server, mail_client, mail_server}
use Rattle.symbolic_runs.specs.Spellings.{Atoms}
use Rattle.symbolic_runs.specs.Trees.{long_key, password}
use Rattle.wire_histories.specs.declared.step.Step.{Step}
use Rattle.wire_histories.specs.declared.step.Step.TheVariants.{Start}
use Rattle.wire_histories.specs.Histories.{History}
use Rattle.wire_histories.specs.Legal.{Setting, Spoken, Tables, tables_at}
use Rattle.wire_histories.specs.Noted.{key_by}
use Rattle.clean_runs.specs.KeyNames.{key_in, key_name}
use Rattle.clean_runs.specs.Labels.{Labelling}
use Rattle.clean_runs.specs.Runs.{role_by}
use Rattle.trace_runs.specs.Words.{reads}

-- ---- what a conversation keeps

-- the DES key and the secret of the key that a conversation keeps, where it keeps one
abbrev pub held_by : Option Spoken → Option (List ℕ × Option (List ℕ))
held_by spoken = option_map (λ key. (key.des, key.password)) (key_by spoken)

-- ---- of the code alone: the tables

-- tables whose keys are these: what a reading has to spell of tables is told by their keys alone
abbrev pub tables_of : List (List KeyLine) → List Tables
tables_of lists = map (λ keys. record { keys = keys; speaks = [] }) lists

abbrev pub reads_password : Atoms → List ℕ → Option (List ℕ) → Bool
reads_password atoms name None = true
reads_password atoms name (Some text) = reads atoms (password name) text

abbrev pub reads_key : Atoms → List ℕ → Option UserKey → Bool
reads_key atoms name None = true
reads_key atoms name (Some key) = reads atoms (long_key name) key.des && reads_password atoms name key.password

-- the key that a user has in the tables of a number
abbrev pub reads_user : Atoms → List Tables → ℕ → List ℕ → Bool
reads_user atoms tables number user = reads_key atoms (key_name tables number user) (key_in tables number user)

-- the keys of all users in the tables of a number, and in the tables of all numbers below one
abbrev pub reads_users : Atoms → List Tables → ℕ → Bool
reads_users atoms tables number =
    list_all (λ line. reads_user atoms tables number line.0) (tables_at tables number).keys

abbrev pub reads_below : Atoms → List Tables → ℕ → Bool
reads_below atoms tables zero = true
reads_below atoms tables (suc number) = reads_users atoms tables number && reads_below atoms tables number

abbrev pub reads_tables : Atoms → List Tables → Bool
reads_tables atoms tables = reads_below atoms tables (length tables)

-- ---- of the code alone: the conversations

abbrev pub reads_held : Atoms → Role → List ℕ → Option (List ℕ × Option (List ℕ)) → Bool
reads_held atoms role holder None = true
reads_held atoms client holder (Some held) = reads atoms (long_key holder) held.0
reads_held atoms server holder (Some held) = reads atoms (long_key holder) held.0
reads_held atoms (mail_client kind) holder (Some held) = reads atoms (password holder) (unwrap_or held.1 [])
reads_held atoms (mail_server kind) holder (Some held) = reads atoms (long_key holder) held.0

abbrev pub reads_holder : Atoms → Setting → Labelling → History → Step → Bool
reads_holder atoms z l past (Start conv protocol role random) =
    reads_held atoms (role_by protocol role) (l.holder conv) (held_by (z.spoken conv))
reads_holder atoms z l past step = true
