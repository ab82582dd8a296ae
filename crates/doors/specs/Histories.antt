-- The history of a connection: its frames, each with what was asked at the port for it, the newest first; and what
-- each frame is answered.
use Rattle.std.specs.Prelude.{◌≡◌, ℕ, List, [], ◌∷◌, ◌++◌}
use Rattle.nine.specs.declared.message.RBody.{RBody}
use Rattle.nine.specs.Messages.{r_frame}
use Rattle.agent_history.specs.Requests.{tag_of}
use Rattle.doors.specs.Calls.{PortCall}
use Rattle.doors.specs.Deeds.{Deed}
use Rattle.doors.specs.Requests.{AsksFor, after_granted, granted, reply_for}

-- a frame, and the calls of the port that were made for it, the newest first
pub record Turn : Type 0 where
  pub frame : List ℕ
  pub calls : List PortCall

abbrev pub History : Type 0
History = List Turn

-- the deeds after a turn
abbrev pub after_turn : List Deed → Turn → List Deed
after_turn done turn = after_granted done (granted done turn.frame) turn.calls

-- what a history did
abbrev pub deeds : History → List Deed
deeds [] = []
deeds (turn ∷ before) = after_turn (deeds before) turn

-- all calls of the port
abbrev pub calls_of : History → List PortCall
calls_of [] = []
calls_of (turn ∷ before) = turn.calls ++ calls_of before

-- the port was asked what the definitions say
abbrev pub IsTurn : History → Turn → Type 0
IsTurn before turn = AsksFor (deeds before) (granted (deeds before) turn.frame) turn.calls

abbrev pub AreTurns : History → Type 0
AreTurns [] = Unit {0}
AreTurns (turn ∷ before) = IsTurn before turn × AreTurns before

-- the reply to a frame behind a history
abbrev pub reply_to : History → Turn → List ℕ
reply_to before turn = r_frame (record {
  tag = tag_of turn.frame;
  body = reply_for (deeds before)
      (granted (deeds before) turn.frame) turn.calls;
})

-- the replies to the frames of a history, one behind the other
abbrev pub replies : History → List ℕ
replies [] = []
replies (turn ∷ before) = replies before ++ reply_to before turn
