-- What an act of a conversation gives to the network: the labels of its events.
use Rattle.std.specs.Prelude.{ℕ, List, ◌++◌, Bool, map, Option, Some, None, if◌then◌else◌}
use Rattle.symbolic_runs.specs.Moves.{Own, Role, Move, gives, asks}
use Rattle.symbolic_runs.specs.Runs.{Event, moves}
use Rattle.symbolic_runs.specs.Trees.{Tree, plain}
use Rattle.wire_histories.specs.Histories.{Act, gave}
use Rattle.clean_runs.specs.Labels.{Labelled}
use Rattle.clean_runs.specs.Runs.{acts_in, is_choosing, moves_by, moves_for, talk_events}

-- the events of an act, behind those before it, of the conversation with a number
abbrev pub events_by : ℕ → Own → Role → List Labelled → Labelled → List Event
events_by number own role acts a = talk_events number (is_choosing (acts_in acts)) a.act
    ++ map (moves number) (moves_for own role (is_choosing (acts_in acts)) (moves_by own role acts) a.act a.label)

-- ---- of the code alone

-- the label of what a move gives
abbrev pub label_of : Option Move → Option Tree
label_of (Some (gives t)) = Some t
label_of (Some (asks t)) = Some t
label_of made = None

-- the same of an act that is this move, or none
abbrev pub given_by : Act → Bool → Option Move → Option Tree
given_by (gave b) choosing made = if choosing then Some (plain b) else label_of made
given_by act choosing made = label_of made
