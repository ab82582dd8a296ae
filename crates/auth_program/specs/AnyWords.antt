-- Which clients an `authsrv` serves to their end whatever words are drawn for them, so that nothing need be told of the
-- words. The definitions are the project's own.
use Rattle.std.specs.Prelude.{◌≡◌, ◌≤◌, ◌⊎◌, ℕ, List, [], ◌∷◌, ◌++◌, true, false, length, Option, Some, None}
use Rattle.auth_tables.specs.Keys.{bad_key_line}
use Rattle.auth_tables.specs.Speaks.{bad_speak_line}
use Rattle.auth_server.specs.Requests.{is_served, kind_of}
use Rattle.auth_server.specs.Answers.{Knowledge, Posed, is_over_in}
use Rattle.auth_server.specs.Sessions.{IsSession, exactly}
use Rattle.auth_server.specs.Serving.{most_input}
use Rattle.auth_program.specs.Files.{most_file}
use Rattle.auth_program.specs.Serving.{Outside, ServesSo, known_by}
use Rattle.auth_program.specs.declared.status.Status.{Status}
use Rattle.auth_program.specs.declared.status.Status.TheVariants.{Fine, ReadFault, WriteFault, WordFault, NoMemory}

-- These requests, the newest first, were put to a server that knows this, with three words each.
abbrev pub ArePosed : Knowledge → List (List ℕ) → List Posed → Type 0
ArePosed known [] [] = Unit {0}
ArePosed known (request ∷ older) (p ∷ before) =
    (p.known ≡ known) × (p.asked.request ≡ request) × (length p.asked.words ≡ 3) × ArePosed known older before
ArePosed known requests posed = ⊥

-- their bytes, in the order in which they come
abbrev pub all_bytes : List (List ℕ) → List ℕ
all_bytes [] = []
all_bytes (request ∷ older) = all_bytes older ++ request

-- The client's bytes are told. Whatever words are drawn, they are whole requests of kinds that are served, with too few
-- wrong answers to end the session; and they aren't too many
pub record IsServableAnyhow (known : Knowledge) (client : Option (List ℕ)) : Type 0 where
  pub requests : List (List ℕ)
  pub served : (posed : List Posed) → ArePosed known requests posed
      → IsSession (exactly (λ number. known)) posed × (is_over_in posed ≡ false)
  pub few : length (all_bytes requests) ≤ most_input
  pub told : client ≡ Some (all_bytes requests)

-- both tables are told, not too long and without a bad line, and by them the client is servable so
pub record IsServableAllAnyhow (dom : List ℕ) (before : Outside) : Type 0 where
  pub keys : List ℕ
  pub speaks : List ℕ
  pub keys_told : before.keys ≡ Some keys
  pub speaks_told : before.speaks ≡ Some speaks
  pub few_keys : length keys ≤ most_file
  pub few_speaks : length speaks ≤ most_file
  pub good_keys : bad_key_line keys ≡ None
  pub good_speaks : bad_speak_line speaks ≡ None
  pub client : IsServableAnyhow (known_by dom keys speaks) before.client.left

-- one request of 141 bytes, of a kind that is served, is servable so
abbrev pub OneIsServable : Type 0
OneIsServable = (known : Knowledge) (request : List ℕ) → is_served (kind_of request) ≡ true → length request ≡ 141
    → IsServableAnyhow known (Some request)

-- of such a client an `authsrv` that met no fault comes to its end, unless memory runs out
abbrev pub AreServedAnyhow : Type 0
AreServedAnyhow = (dom : List ℕ) (before now : Outside) → IsServableAllAnyhow dom before
    → (status : Status) → ServesSo dom status before now
    → (status ≡ ReadFault → ⊥) → (status ≡ WriteFault → ⊥) → (status ≡ WordFault → ⊥)
    → (status ≡ Fine) ⊎ (status ≡ NoMemory)
