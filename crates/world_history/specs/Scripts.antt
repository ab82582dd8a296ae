-- What a script comes to: its lines are carried out in order, up to the first that is refused. Of a line its form is
-- looked at first, then the names that it takes from others, then the messages, and then whether it can be carried
-- out.
use Rattle.std.specs.Prelude.{ℕ, ◌+◌, List, [], ◌∷◌, ◌++◌, length, take, drop, Bool, false, not, ◌&&◌, ◌||◌, ◌==◌, nat_le, nat_lt, slice_get, Option, Some, None, is_some, option_map, Result, Ok, Err, if◌then◌else◌}
use Rattle.attr_tuples.specs.Forms.{is_dom}
use Rattle.hex.specs.Hex.{decode_of}
use Rattle.std.specs.Result.{result_unwrap_or}
use Rattle.auth_tables.specs.Lines.{first_bad}
use Rattle.auth_tables.specs.Keys.{fits_keys}
use Rattle.auth_tables.specs.Speaks.{fits_speaks}
use Rattle.auth_server.specs.Requests.{is_served, kind_of, needed}
use Rattle.auth_server.specs.Answers.{held_in}
use Rattle.wire_histories.specs.declared.step.Step.{Step}
use Rattle.auth_program.specs.declared.cause.ScriptCause.{ScriptCause}
use Rattle.auth_program.specs.declared.cause.ScriptCause.TheVariants.{BadLine, UnknownNode, UnknownConv, NoSuchMessage}
use Rattle.world_scripts.specs.Pieces.{Piece, number_in}
use Rattle.world_scripts.specs.Pieces as p
use Rattle.world_scripts.specs.Lines.{ScriptLine}
use Rattle.world_scripts.specs.Lines as l
use Rattle.world_scripts.specs.Reading.{line_of}
use Rattle.world_scripts.specs.Scripts.{Numbered, script_lines}
use Rattle.world_history.specs.Acts.{Act, Domain, KeyLine, SpeakLine, Reloaded, Made, Restarted, Told, Opened, Started, Got, Given, Answered, Unanswered, Asked, Closed, agent_of, has_name, is_node, key_lines, nodes, opened_names, speak_lines, talk_of, was_asked, were_used}
use Rattle.world_history.specs.Driving.{refuses_open}
use Rattle.world_history.specs.Talking.{gives, request_text}
use Rattle.world_history.specs.Worlds.{fid_for, has_ended, history, messages, outstanding, requests, steps}

-- ---- bytes

-- a piece of the bytes of a line, where its message is recorded and is long enough
abbrev pub part_in : ℕ → ℕ → Option (List ℕ) → Option (List ℕ)
part_in at size None = None
part_in at size (Some message) =
    if nat_le (at + size) (length message) then Some (take size (drop at message))
    else None

abbrev pub piece_in : List (List ℕ) → Piece → Option (List ℕ)
piece_in recorded (p.Spelled digits) = Some (result_unwrap_or (decode_of digits) [])
piece_in recorded (p.Whole message) = slice_get recorded (number_in message)
piece_in recorded (p.Part message start len) =
    part_in (number_in start) (number_in len) (slice_get recorded (number_in message))

abbrev pub joined : Option (List ℕ) → Option (List ℕ) → Option (List ℕ)
joined (Some front) (Some rest) = Some (front ++ rest)
joined front rest = None

-- the bytes of a line, where all of their messages are recorded
abbrev pub spelled : List (List ℕ) → List Piece → Option (List ℕ)
spelled recorded [] = Some []
spelled recorded (piece ∷ more) = joined (piece_in recorded piece) (spelled recorded more)

-- ---- lines

-- a line takes a name that no other gave
abbrev pub on_node : List Act → List ℕ → Option ScriptCause
on_node acts node = if is_node acts node then None else Some UnknownNode

abbrev pub on_conv : List Act → List ℕ → Option ScriptCause
on_conv acts conv = if is_some (talk_of acts conv) then None else Some UnknownConv

abbrev pub misnamed : List Act → ScriptLine → Option ScriptCause
misnamed acts (l.Restart node) = on_node acts node
misnamed acts (l.Ctl node line) = on_node acts node
misnamed acts (l.Open node conv) = on_node acts node
misnamed acts (l.Start conv word tuple) = on_conv acts conv
misnamed acts (l.Read conv) = on_conv acts conv
misnamed acts (l.Write conv bytes) = on_conv acts conv
misnamed acts (l.Answer conv bytes) = on_conv acts conv
misnamed acts (l.NoAnswer conv) = on_conv acts conv
misnamed acts (l.Close conv) = on_conv acts conv
misnamed acts line = None

-- the number of an outstanding question, and 0 where none is
abbrev pub call_or : Option ℕ → ℕ
call_or None = 0
call_or (Some call) = call

abbrev pub call_now : List Act → List ℕ → ℕ
call_now acts conv = call_or (outstanding acts conv)

-- the act that a line is behind others, where all of its messages are recorded
abbrev pub act_of : List Act → List (List ℕ) → ScriptLine → Option Act
act_of acts recorded (l.Dom dom) = Some (Domain dom)
act_of acts recorded (l.AsKey tuple) = Some (KeyLine tuple)
act_of acts recorded (l.AsSpeak tuple) = Some (SpeakLine tuple)
act_of acts recorded l.Reload = Some Reloaded
act_of acts recorded (l.Node node) = Some (Made node)
act_of acts recorded (l.Restart node) = Some (Restarted node)
act_of acts recorded (l.Ctl node line) = Some (Told node line)
act_of acts recorded (l.Open node conv) = Some (Opened node conv)
act_of acts recorded (l.Start conv word tuple) = Some (Started conv word tuple)
act_of acts recorded (l.Read conv) = Some (Got conv)
act_of acts recorded (l.Write conv bytes) = option_map (λ given. Given conv given) (spelled recorded bytes)
act_of acts recorded (l.Answer conv bytes) =
    option_map (λ given. Answered conv given (call_now acts conv)) (spelled recorded bytes)
act_of acts recorded (l.NoAnswer conv) = Some (Unanswered conv (call_now acts conv))
act_of acts recorded (l.AsGive session bytes first second third) =
    option_map (λ given. Asked session given (first ∷ second ∷ third ∷ [])) (spelled recorded bytes)
act_of acts recorded (l.Close conv) = Some (Closed conv)

-- the most nodes, the most bytes of a request and of an answer
abbrev pub most_nodes : ℕ
most_nodes = 64

abbrev pub most_request : ℕ
most_request = 4096

abbrev pub most_answer : ℕ
most_answer = 160

-- a line of a table is bad behind others
abbrev pub is_bad_line : (List (List ℕ) → List ℕ → Bool) → List (List ℕ) → List ℕ → Bool
is_bad_line fits lines line = is_some (first_bad fits (lines ++ line ∷ []))

-- this is the length, if one is wanted
abbrev pub has_length : ℕ → Option ℕ → Bool
has_length size None = false
has_length size (Some wanted) = size == wanted

-- a request to a session isn't one: it is empty, or is of a kind that is served and hasn't its length
abbrev pub is_misshaped : List Act → List ℕ → List ℕ → Bool
is_misshaped acts session request = length request == 0
    || (is_served (kind_of request)
    && not (has_length (length request) (needed (held_in (requests acts session)) (kind_of request))))

-- an act can't be done: its name is taken; too many nodes; no question is outstanding; the session ended; the bytes
-- are too many, or have not their length; the table or the agent refuses it; the domain is told once the server was
-- asked, or a table once it was asked by this
unfoldable pub is_unfit : List Act → Act → Bool
is_unfit acts (Domain dom) = was_asked acts || not (is_dom dom)
is_unfit acts (KeyLine tuple) = were_used acts || is_bad_line fits_keys (key_lines acts) tuple
is_unfit acts (SpeakLine tuple) = were_used acts || is_bad_line fits_speaks (speak_lines acts) tuple
is_unfit acts (Made node) = is_node acts node || nat_le most_nodes (length (nodes acts))
is_unfit acts (Opened node conv) =
    has_name conv (opened_names acts) || refuses_open (fid_for acts node) (history acts (agent_of acts node))
is_unfit acts (Given conv bytes) = nat_lt most_request (length (request_text (gives bytes)))
is_unfit acts (Answered conv bytes call) = not (is_some (outstanding acts conv)) || nat_lt most_answer (length bytes)
is_unfit acts (Unanswered conv call) = not (is_some (outstanding acts conv))
is_unfit acts (Asked session request words) = has_ended acts session || is_misshaped acts session request
is_unfit acts act = false

-- the act that a line is, or why it is refused
abbrev pub fitting : List Act → Option Act → Result Act ScriptCause
fitting acts None = Err NoSuchMessage
fitting acts (Some act) = if is_unfit acts act then Err BadLine else Ok act

abbrev pub named : List Act → ScriptLine → Option ScriptCause → Result Act ScriptCause
named acts line (Some cause) = Err cause
named acts line None = fitting acts (act_of acts (messages acts) line)

abbrev pub judged : List Act → Option ScriptLine → Result Act ScriptCause
judged acts None = Err BadLine
judged acts (Some line) = named acts line (misnamed acts line)

-- ---- scripts

-- what became of a script: its acts, and the first line that was refused, with its cause
pub record Played : Type 0 where
  pub acts : List Act
  pub refused : Option (ℕ × ScriptCause)

abbrev pub played : List Act → Option (ℕ × ScriptCause) → Played
played acts refused = record { acts = acts; refused = refused }

-- the line of a number is refused, or done and the others follow
abbrev pub go_on : List Act → ℕ → Result Act ScriptCause → (List Act → Played) → Played
go_on acts number (Err cause) next = played acts (Some (number, cause))
go_on acts number (Ok act) next = next (act ∷ acts)

-- lines behind some acts
abbrev pub plays : List Act → List Numbered → Played
plays acts [] = played acts None
plays acts (line ∷ more) = go_on acts line.number (judged acts (line_of line.text)) (λ done. plays done more)

-- a script
unfoldable pub play : List ℕ → Played
play script = plays [] (script_lines script)

-- its record
abbrev pub world : List ℕ → List Step
world script = steps (play script).acts
