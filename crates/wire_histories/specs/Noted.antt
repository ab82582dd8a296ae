-- What a program notes of a setting: the key that each conversation keeps, with its secret, and the domain and the
-- tables of the authentication server. It is what is asked of a setting where a labelled history is tested; with what a
-- conversation started isn't noted, nor what else it met. The form is this project's.
use Rattle.std.specs.Prelude.{◌≡◌, ℕ, List, [], ◌∷◌, length, Option, Some, None, option_map}
use Rattle.std.specs.List.{slice_get}
use Rattle.auth_tables.specs.Keys.{UserKey, key_of}
use Rattle.auth_server.specs.Answers.{Knowledge}
use Rattle.auth_server.specs.Standing.{knowledge}
use Rattle.roles.specs.declared.key.SkKey.{SkKey}
use Rattle.wire_histories.specs.Legal.{Setting, Spoken, Tables, known_at, tables_at}

-- the keys by the names of conversations, and the tables, the first of them first
pub record Noted : Type 0 where
  pub keys : List (List ℕ × UserKey)
  pub dom : List ℕ
  pub tables : List Tables

-- the DES key of a conversation, and the secret of its key, where there is one
abbrev pub noted_des : Noted → List ℕ → Option (List ℕ)
noted_des n conv = option_map (λ key. key.des) (key_of conv n.keys)

abbrev pub secret_in : Option UserKey → Option (List ℕ)
secret_in None = None
secret_in (Some key) = key.password

abbrev pub noted_secret : Noted → List ℕ → Option (List ℕ)
noted_secret n conv = secret_in (key_of conv n.keys)

-- the tables of a number, from 0 on, where there are some
abbrev pub noted_tables : Noted → ℕ → Option Tables
noted_tables n number = slice_get n.tables number

-- what the authentication server knows by them
abbrev pub noted_known : Noted → ℕ → Knowledge
noted_known n number = knowledge (record {
  dom = n.dom;
  keys = (tables_at n.tables number).keys;
  speaks = (tables_at n.tables number).speaks;
})

-- ---- what it is noted of

-- a key as it is noted
abbrev pub noted_key : SkKey × Option (List ℕ) → UserKey
noted_key kept = record { des = kept.0.des.0; password = kept.1 }

-- the key that a conversation keeps; one that hasn't started has none
abbrev pub key_by : Option Spoken → Option UserKey
key_by None = None
key_by (Some spoken) = option_map noted_key spoken.key

abbrev pub kept_at : Setting → List ℕ → Option UserKey
kept_at z conv = key_by (z.spoken conv)

abbrev pub kept_des : Setting → List ℕ → Option (List ℕ)
kept_des z conv = option_map (λ key. key.des) (kept_at z conv)

abbrev pub kept_secret : Setting → List ℕ → Option (List ℕ)
kept_secret z conv = secret_in (kept_at z conv)

-- this was noted of a setting
pub record IsNotedOf (z : Setting) (n : Noted) : Type 0 where
  pub keys : (conv : List ℕ) → key_of conv n.keys ≡ kept_at z conv
  pub dom : n.dom ≡ z.dom
  pub as_many : length n.tables ≡ length z.tables
  pub known : (number : ℕ) → noted_known n number ≡ known_at z number
