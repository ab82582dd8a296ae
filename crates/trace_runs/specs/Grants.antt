-- What the code keeps of what the authentication server granted at a request, and the tables that were in force there.
use Rattle.std.specs.Prelude.{◌≡◌, ℕ, ◌==◌, List, [], Bool, Option, Some, None, Result, Ok, Err, is_some, if◌then◌else◌}
use Rattle.wire_base.specs.Names.{name_field}
use Rattle.sealing.specs.declared.fault.FieldFault.{FieldFault}
use Rattle.sealing.specs.declared.request.TicketReq.{TicketReq}
use Rattle.auth_tables.specs.Keys.{KeyLine, UserKey, key_of}
use Rattle.auth_tables.specs.Speaks.{SpeakLine, may_speak, names_of}
use Rattle.symbolic_runs.specs.Gifts.{part}
use Rattle.symbolic_runs.specs.Sessions as table
use Rattle.symbolic_runs.specs.Trees.{Tree}
use Rattle.symbolic_runs.specs.Views.{tree}
use Rattle.clean_runs.specs.KeyNames.{before_first, with_number}
use Rattle.clean_runs.specs.Runs.{nothing_granted}
use Rattle.trace_runs.specs.declared.deeds.Granted.{Granted}
use Rattle.trace_runs.specs.Deeds.{used_of}
use Rattle.trace_runs.specs.Tables.{tables_of}

-- the code keeps all of a grant but for who may speak for its user
pub record IsGrant (granted : Granted) (grant : table.Grant) : Type 0 where
  pub used : used_of granted.used ≡ grant.used
  pub chal : tree granted.challenge ≡ grant.chal
  pub host : granted.host ≡ grant.host
  pub user : granted.user ≡ grant.user

-- ---- of the code alone

-- the key name of a user with this key, behind the keys of the tables before
abbrev pub name_behind : List (List KeyLine) → List ℕ → Option UserKey → List ℕ
name_behind before user None = user
name_behind before user (Some key) = with_number user (before_first (tables_of before) user key)

abbrev pub name_in : List (List KeyLine) → List KeyLine → List ℕ → List ℕ
name_in before keys user = name_behind before user (key_of user keys)

abbrev pub known_in : List (List KeyLine) → List KeyLine → List ℕ → Option (List ℕ)
known_in before keys user = if is_some (key_of user keys) then Some (name_in before keys user) else None

abbrev pub name_if : Bool → List (List KeyLine) → List KeyLine → List ℕ → Option (List ℕ)
name_if may before keys user = if may then known_in before keys user else None

-- what was granted by these tables; who may speak for the user is left out
abbrev pub tickets_in : List (List KeyLine) → List KeyLine → List SpeakLine → TicketReq → Tree → table.Grant
tickets_in before keys speaks r label = record {
  used = table.keys (name_if (may_speak (names_of r.hostid speaks) r.hostid r.uid) before keys r.authid)
      (name_if (may_speak (names_of r.hostid speaks) r.hostid r.uid) before keys r.hostid);
  speakers = [];
  chal = part label 3;
  host = name_field 28 r.hostid;
  user = name_field 28 r.uid;
}

abbrev pub vouch_in : List (List KeyLine) → List KeyLine → TicketReq → Tree → table.Grant
vouch_in before keys r label = record {
  used = table.key_and_password (known_in before keys r.authid) (name_in before keys r.uid);
  speakers = [];
  chal = part (part label 0) 3;
  host = name_field 28 r.uid;
  user = name_field 28 r.uid;
}

abbrev pub grant_in : List (List KeyLine) → List KeyLine → List SpeakLine → Result TicketReq FieldFault → Tree
    → table.Grant
grant_in before keys speaks (Ok r) label =
    if r.kind == 1 then tickets_in before keys speaks r label else vouch_in before keys r label
grant_in before keys speaks (Err fault) label = nothing_granted
