-- What is so of an agent of whose fids none ever came to name a file of lines: confirm, needkey or log.
use Rattle.std.specs.Prelude.{◌≡◌, ◌∷◌, ℕ, List, Bool, None, true, not}
use Rattle.std.specs.List.{list_all}
use Rattle.file_tree.specs.declared.tree.Node.{Node}
use Rattle.key_lists.specs.Lists.{KeyEntry}
use Rattle.talks.specs.Calls.{AsksConsent, AsksKey, Found}
use Rattle.talks.specs.Standings.{finds}
use Rattle.agent_history.specs.Deeds.{Deed, OfFids, Walked, holder_of, keys_of}
use Rattle.agent_history.specs.SideFiles.{is_line_file}
use Rattle.agent_history.specs.Conversations.{asking, standing_of}
use Rattle.agent_history.specs.Histories.{History, deeds}
use Rattle.world_history.specs.Acts.{Act}
use Rattle.world_history.specs.Worlds as worlds
use Rattle.world_history.specs.Driving.{clunks, writes}

abbrev pub leads_away : Deed → Bool
leads_away (OfFids at (Walked fid node)) = not (is_line_file node)
leads_away deed = true

abbrev pub NamesNoLines : List Deed → Type 0
NamesNoLines done = list_all leads_away done ≡ true

-- a write leaves with what each conversation was started, and what it met since
abbrev pub WritesStartNone : Type 0
WritesStartNone = (fid : ℕ) (bytes : List ℕ) (history : History) (conv : ℕ) → NamesNoLines (deeds history)
    → (standing_of (deeds (writes fid bytes ∷ history)) conv).begun ≡ (standing_of (deeds history) conv).begun

-- a closing changes no conversation
abbrev pub ClosingsChangeNone : Type 0
ClosingsChangeNone = (fid : ℕ) (history : History) (conv : ℕ) → NamesNoLines (deeds history)
    → standing_of (deeds (clunks fid ∷ history)) conv ≡ standing_of (deeds history) conv

-- no fid of a node of a network ever comes to name one
abbrev pub NodesNameNoLines : Type 0
NodesNameNoLines = (acts : List Act) (node : List ℕ) → NamesNoLines (deeds (worlds.history acts node))

-- so nobody has one open, and no search comes to a question for a user
abbrev pub NodesOpenNoLines : Type 0
NodesOpenNoLines = (acts : List Act) (node : List ℕ) (file : Node) → is_line_file file ≡ true
    → holder_of (deeds (worlds.history acts node)) file ≡ None

abbrev pub found_in : List Deed → ℕ → Found
found_in done conv = finds (standing_of done conv) (asking done) (keys_of done)

abbrev pub AskNoConsent : Type 0
AskNoConsent = (acts : List Act) (node : List ℕ) (conv : ℕ) (key : KeyEntry)
    → found_in (deeds (worlds.history acts node)) conv ≡ AsksConsent key → ⊥

abbrev pub AskForNoKey : Type 0
AskForNoKey = (acts : List Act) (node : List ℕ) (conv : ℕ) → found_in (deeds (worlds.history acts node)) conv ≡ AsksKey
    → ⊥
