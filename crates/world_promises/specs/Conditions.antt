-- What is so of the acts of a script: each fits behind those before it, is one that a line can spell, and names what
-- there is.
use Rattle.std.specs.Prelude.{◌≡◌, List, [], ◌∷◌, All, true, false, length}
use Rattle.wire_base.specs.Texts.{is_text}
use Rattle.sealing.specs.Fitting.{IsBlock}
use Rattle.world_history.specs.Acts.{Act, Domain, Restarted, Told, Opened, Started, Answered, Unanswered, Asked, is_node}
use Rattle.world_history.specs.Scripts.{call_now, is_unfit}

-- a domain is text, random words have eight bytes, and a request to a session has three of them
abbrev pub IsSpelled : Act → Type 0
IsSpelled (Domain dom) = is_text dom ≡ true
IsSpelled (Started conv word tuple) = IsBlock 8 word
IsSpelled (Asked session request words) = (length words ≡ 3) × All (IsBlock 8) words
IsSpelled act = Unit {0}

-- the node on which something is done, and one that is restarted, was made, and a question that is answered is the one
-- that is outstanding
abbrev pub IsNamed : List Act → Act → Type 0
IsNamed before (Restarted node) = is_node before node ≡ true
IsNamed before (Told node line) = is_node before node ≡ true
IsNamed before (Opened node conv) = is_node before node ≡ true
IsNamed before (Answered conv bytes call) = call ≡ call_now before conv
IsNamed before (Unanswered conv call) = call ≡ call_now before conv
IsNamed before act = Unit {0}

pub record MayFollow (before : List Act) (act : Act) : Type 0 where
  pub fits : is_unfit before act ≡ false
  pub spelled : IsSpelled act
  pub named : IsNamed before act

abbrev pub AreDone : List Act → Type 0
AreDone [] = Unit {0}
AreDone (act ∷ before) = MayFollow before act × AreDone before
