-- When the conversations, the questions to their users and the log are those that a list of deeds tells of. After
-- factotum(4) of the Plan 9 manual (confirm, needkey, log).
use Rattle.std.specs.Prelude.{◌≡◌, ◌≤◌, ◌+◌, ℕ, List, [], ◌∷◌, filter, map, Bool, true, ◌==◌, Option, Some, None, if◌then◌else◌}
use Rattle.std.specs.List.{list_any}
use Rattle.side_files.specs.declared.line.PromptKind.{PromptKind}
use Rattle.side_files.specs.Calls as side
use Rattle.conversations.specs.Asking.{IsMade, asked_kind}
use Rattle.agent_history.specs.Deeds.{Deed, OfPrompts}
use Rattle.agent_history.specs.Conversations.{all_withdrawn, ended_by, standing_of}
use Rattle.agent_history.specs.Requests.{said_by}
use Rattle.agent_history.specs.SideFiles.{askers}
use Rattle.agent_talks.specs.declared.speaker.Speaker.{Speaker}
use Rattle.agent_talks.specs.declared.speaker.Leaving.{Leaving}
use Rattle.agent_talks.specs.Kept.{leaves}
use Rattle.agent_talks.specs.Speaks.{stands, talked}
use Rattle.agent_talks.specs.Keeps.{Converses, KeepingTalks}
use Rattle.agent_talks.specs.declared.files.LineFiles.{LineFiles}
use Rattle.agent_talks.specs.Files.{Files, asked_in}

-- a conversation waits for a reply by a file
abbrev pub is_asker : List Deed → PromptKind → ℕ → Bool
is_asker done kind conv = list_any (λ n. n == conv) (askers done kind)

-- one that stands, and whose request waits for that
pub record Waits (done : List Deed) (kind : PromptKind) (conv : ℕ) : Type 0 where
  pub stands : stands done conv ≡ true
  pub asks : asked_kind (standing_of done conv).phase ≡ Some kind

-- how often a number stands among others
abbrev pub times : ℕ → List ℕ → ℕ
times n [] = 0
times n (m ∷ more) = if m == n then times n more + 1 else times n more

-- whoever waits for a reply stands, and its request waits for it; and it waits for one reply by a file
pub record AllWait (done : List Deed) : Type 0 where
  pub asked : (kind : PromptKind) (conv : ℕ) → is_asker done kind conv ≡ true → Waits done kind conv
  pub once : (kind : PromptKind) (conv : ℕ) → times conv (askers done kind) ≤ 1

-- the conversations with the questions to their users and the log
pub record AskingTalks : Type 0 where
  pub talks : KeepingTalks
  pub files : LineFiles

pub record Tells (done : List Deed) (t : AskingTalks) : Type 0 where
  pub talks : Converses done t.talks
  pub files : Files done t.files
  pub users : AllWait done

-- whatever the deeds were, they are still those that they tell of
abbrev pub SameTells : AskingTalks → AskingTalks → Type 0
SameTells old new = (done : List Deed) → Tells done old → Tells done new

-- the user of a conversation replied to the question of a tag, which is forgotten, and it goes on
abbrev pub replied : PromptKind → ℕ → ℕ → Bool → List Deed → List Deed
replied kind tag conv agrees done = talked conv (said_by kind agrees) (OfPrompts kind (side.Replied tag) ∷ done)

-- conversations end by a deed, and their questions are withdrawn first
abbrev pub ended : Deed → List Deed → List Deed
ended deed done = deed ∷ all_withdrawn (ended_by deed done) done

-- of the code alone: a conversation asks the question that was made, if it is to
abbrev pub AsksBy : Option PromptKind → ℕ → LineFiles → LineFiles → Type 0
AsksBy None conv old new = new ≡ old
AsksBy (Some kind) conv old new = (before : List Deed) (about : List ℕ) → IsMade (asked_in kind old.asks) about
    → Files before old → Files (OfPrompts kind (side.Asked conv about) ∷ before) new

-- the conversations of those who leave
abbrev pub convs_leaving : Leaving → List Speaker → List ℕ
convs_leaving who speakers = map (λ s. s.conv) (filter (λ s. leaves who s) speakers)
