-- What is promised of every script: of each front of its record, the newest step first, and of its setting then, under
-- every reading of words as terms and every labelling under which that front is clean. So it is promised of a run
-- that was cut short, and of what was recorded before a step that isn't clean.
use Rattle.std.specs.Prelude.{◌≡◌, ℕ, ◌≤◌, List, ◌++◌, length, reverse}
use Rattle.symbolic_runs.specs.Spellings.{Atoms}
use Rattle.wire_histories.specs.Histories.{History}
use Rattle.wire_histories.specs.Legal.{IsLegal, Setting}
use Rattle.clean_runs.specs.Labels.{Labelling}
use Rattle.clean_runs.specs.Clean.{IsClean}
use Rattle.clean_runs.specs.Statements.{IsBridged, IsSecret}
use Rattle.clean_runs.specs.AgreementStatements.{ClientsAreAnswered, ClientsAreHosts, ClientsMatch, EachByATicket, OneByAMatch, OneByAText, OneByATicket, OneUnderAGrant, ServersAgree, ServersNameTheUser}
use Rattle.world_history.specs.Scripts.{play, world}
use Rattle.world_promises.specs.Worlds.{most_script}
use Rattle.world_promises.specs.Settings.{setting, setting_at}

-- these steps, the newest first, are the front of a script's record behind which these later ones come
abbrev pub IsFront : History → History → List ℕ → Type 0
IsFront later past script = later ++ past ≡ reverse (world script)

-- each front of the record of a script that is no longer than one may be is one that a network can have
abbrev pub FrontsAreLegal : List ℕ → Type 0
FrontsAreLegal script = (later past : History) → length script ≤ most_script → IsFront later past script
    → IsLegal past (setting_at (setting (play script).acts) past)

-- this holds of each front of such a record that is clean
abbrev pub OfCleanScript : (History → Setting → Atoms → Labelling → Type 0) → List ℕ → Type 0
OfCleanScript P script =
    (later past : History) (atoms : Atoms) (l : Labelling) → length script ≤ most_script → IsFront later past script
    → IsClean past (setting_at (setting (play script).acts) past) atoms l
    → P past (setting_at (setting (play script).acts) past) atoms l

abbrev pub OfEveryCleanScript : (History → Setting → Atoms → Labelling → Type 0) → Type 0
OfEveryCleanScript P = (script : List ℕ) → OfCleanScript P script

-- all that is promised of one script: each front of its record is one that a network can have; where it is clean it
-- is a symbolic run, and each message that it gives is spelled by its label; no uncompromised secret derives from
-- what the network saw; each acceptance has its partner; and no ticket serves twice
pub record IsPromised (script : List ℕ) : Type 0 where
  pub legal : FrontsAreLegal script
  pub bridged : OfCleanScript IsBridged script
  pub secret : OfCleanScript IsSecret script
  pub named : OfCleanScript (λ history z atoms l. ServersNameTheUser history l) script
  pub agree : OfCleanScript (λ history z atoms l. ServersAgree history z l) script
  pub matched : OfCleanScript (λ history z atoms l. ClientsMatch history z l) script
  pub answered : OfCleanScript (λ history z atoms l. ClientsAreAnswered history z l) script
  pub hosted : OfCleanScript (λ history z atoms l. ClientsAreHosts history z l) script
  pub by_a_ticket : OfCleanScript (λ history z atoms l. EachByATicket history l) script
  pub by_one_ticket : OfCleanScript (λ history z atoms l. OneByATicket history l) script
  pub by_one_text : OfCleanScript (λ history z atoms l. OneByAText history atoms l) script
  pub under_one_grant : OfCleanScript (λ history z atoms l. OneUnderAGrant history z l) script
  pub matched_by_one : OfCleanScript (λ history z atoms l. OneByAMatch history z l) script

abbrev pub EachIsPromised : Type 0
EachIsPromised = (script : List ℕ) → IsPromised script
