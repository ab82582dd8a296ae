-- Tables that are read again while a server runs: what looks at their files find, and what is in force behind them.
-- What the files tell is optional. The definitions are the project's own.
use Rattle.std.specs.Prelude.{◌≡◌, ℕ, zero, suc, List, [], ◌∷◌, Option, None, Some, ◌⊎◌, ⊤}
use Rattle.auth_tables.specs.Keys.{bad_key_line}
use Rattle.auth_tables.specs.Speaks.{bad_speak_line}
use Rattle.auth_server.specs.Answers.{Knowledge}
use Rattle.auth_server.specs.Serving.{Moment}
use Rattle.auth_server.specs.Standing.{Server}
use Rattle.auth_program.specs.Cores.{HasCore, StopsEarly}
use Rattle.auth_program.specs.Serving.{known_by}
use Rattle.auth_program.specs.declared.status.Status.{Status}
use Rattle.auth_program.specs.declared.renewal.Renewal.{Renewal}
use Rattle.auth_program.specs.declared.renewal.Renewal.TheVariants.{Same, Read, Refused}

-- the texts of two files, the keys first, each where it is told
pub record Texts : Type 0 where
  pub keys : Option (List ℕ)
  pub speaks : Option (List ℕ)

-- what a look at two files finds: nothing where neither has changed, and else their texts
abbrev pub Found : Type 0
Found = Option Texts

-- a look found this, of those that are told: where no more are told nothing changes any more
abbrev pub Finds : Option (List Found) → Option (List Found) → Found → Type 0
Finds None later found = ⊤
Finds (Some looks) None found = ⊥
Finds (Some []) (Some later) found = (found ≡ None) × (later ≡ [])
Finds (Some (next ∷ looks)) (Some later) found = (found ≡ next) × (later ≡ looks)

-- a server by tables of two files: its domain, what it is, and the files
pub record Tabled (F : Type 0) : Type 0 where
  pub dom : List ℕ
  pub core : Server
  pub files : F

-- ---- a look

-- it found texts, both of which were read to their ends and have no bad line, and the server is the one by these
pub record HasRenewed (dom : List ℕ) (looks later : Option (List Found)) (server : Server) : Type 0 where
  pub texts : Texts
  pub left : Texts
  pub found : Finds looks later (Some texts)
  pub core : HasCore dom texts.keys left.keys texts.speaks left.speaks server

-- it found texts, one of which was refused, or not read to its end
pub record HasRefused (status : Status) (looks later : Option (List Found)) : Type 0 where
  pub texts : Texts
  pub left : Texts
  pub found : Finds looks later (Some texts)
  pub stops : (client : Moment)
      → StopsEarly status (record { keys = texts.keys; speaks = texts.speaks; client = client })
      (record { keys = left.keys; speaks = left.speaks; client = client })

-- what a look came to: a server goes on by its old tables unless both of the new ones are good
abbrev pub Renewed : List ℕ → Renewal → Option (List Found) → Option (List Found) → Server → Server → Type 0
Renewed dom Same looks later old new = Finds looks later None × (new ≡ old)
Renewed dom Read looks later old new = HasRenewed dom looks later new
Renewed dom (Refused status) looks later old new = HasRefused status looks later × (new ≡ old)

-- ---- what is in force

-- texts are told, they are tables without a bad line, and this is what is known by them
pub record IsKnownBy (dom : List ℕ) (texts : Texts) (known : Knowledge) : Type 0 where
  pub keys : List ℕ
  pub speaks : List ℕ
  pub keys_told : (text : List ℕ) → texts.keys ≡ Some text → text ≡ keys
  pub speaks_told : (text : List ℕ) → texts.speaks ≡ Some text → text ≡ speaks
  pub good_keys : bad_key_line keys ≡ None
  pub good_speaks : bad_speak_line speaks ≡ None
  pub is : known ≡ known_by dom keys speaks

-- what may be known behind a look: what was known before it, or what is known by the texts that it found, both of them
abbrev pub MayFollow : List ℕ → Found → Knowledge → Knowledge → Type 0
MayFollow dom None old new = new ≡ old
MayFollow dom (Some texts) old new = (new ≡ old) ⊎ IsKnownBy dom texts new

-- what may be in force at the request of a number, where there is a look before each, and these are the looks that
-- find something
abbrev pub InForceBy : List ℕ → List Found → Knowledge → ℕ → Knowledge → Type 0
InForceBy dom [] old number known = known ≡ old
InForceBy dom (found ∷ looks) old zero known = MayFollow dom found old known
InForceBy dom (found ∷ looks) old (suc number) known =
    (next : Knowledge) × MayFollow dom found old next × InForceBy dom looks next number known

-- the same where the looks may be told
abbrev pub InForceAt : List ℕ → Option (List Found) → Knowledge → ℕ → Knowledge → Type 0
InForceAt dom None old number known = ⊤
InForceAt dom (Some looks) old number known = InForceBy dom looks old number known

-- ---- files in memory

-- what a look finds that opens these, where the files' texts are told so
abbrev pub found_in : {S : Type 0} → (S → Option (List ℕ)) → Option (S × S) → Found
found_in left None = None
found_in left (Some files) = Some (record { keys = left files.0; speaks = left files.1 })
