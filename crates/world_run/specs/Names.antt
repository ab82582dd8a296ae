-- What the code keeps of conversations, as the definitions say it. This serves proofs alone.
use Rattle.std.specs.Prelude.{ℕ, List, Option, Some, None, option_map, if◌then◌else◌}
use Rattle.std.specs.Map.{lookup}
use Rattle.std.specs.Str.{bytes_eq}
use Rattle.world_run.specs.declared.named_talks.Talk.{Talk}

-- a conversation that was opened, if it is open still
abbrev pub still_open : Option (Option Talk) → Option Talk
still_open None = None
still_open (Some talk) = talk

-- what a name finds once something was put under a name
abbrev pub put_under : {X : Type 0} → List ℕ → X → List (List ℕ × X) → List ℕ → Option X
put_under name value entries other = if bytes_eq name other then Some value else lookup (bytes_eq other) entries

-- what a name finds once what stands under a name was changed
abbrev pub changed_under : {X : Type 0} → List ℕ → (X → X) → List (List ℕ × X) → List ℕ → Option X
changed_under name change entries other =
    if bytes_eq name other then option_map change (lookup (bytes_eq other) entries)
    else lookup (bytes_eq other) entries

-- a conversation with a question outstanding, or none
abbrev pub with_call : Option ℕ → Talk → Talk
with_call call talk = record { node = talk.node; fid = talk.fid; call = call }

-- a conversation is open no more where it is of this node
abbrev pub left_behind : List ℕ → Option Talk → Option Talk
left_behind node None = None
left_behind node (Some talk) = if bytes_eq talk.node node then None else Some talk
