-- What a line comes to, by what is known of the names in it.
use Rattle.std.proofs.Common.{◌≡◌, ℕ, List, length, Bool, true, false, Some, None, Ok, Err, refl, ap, ◌∙◌}
use Rattle.std.specs.Prelude.{is_some, nat_lt, nat_le, not, ◌||◌}
use Rattle.world_scripts.specs.Lines as l
use Rattle.world_scripts.specs.Lines.{ScriptLine}
use Rattle.world_scripts.specs.Pieces.{Piece}
use Rattle.auth_program.specs.declared.cause.ScriptCause.TheVariants.{BadLine, UnknownNode, UnknownConv, NoSuchMessage}
use Rattle.world_history.specs.Acts.{Act, Reloaded, Made, Restarted, Told, Opened, Started, Got, Given, Answered, Unanswered, Closed, agent_of, has_name, is_node, nodes, opened_names, talk_of}
use Rattle.world_history.specs.Driving.{refuses_open}
use Rattle.world_history.specs.Scripts.{act_of, call_now, fitting, is_unfit, judged, misnamed, most_answer, most_nodes, most_request, named, spelled}
use Rattle.world_history.specs.Talking.{gives, request_text}
use Rattle.world_history.specs.Worlds.{fid_for, history, messages, outstanding}
use Rattle.world_history.specs.Scripts as scripts

-- ---- lines that take no name

-- an act is done where it fits, and else the line is bad
pub fits : (acts : List Act) (act : Act) → is_unfit acts act ≡ false → fitting acts (Some act) ≡ Ok act
fits acts act fit = rw fit refl

pub unfit : (acts : List Act) (act : Act) → is_unfit acts act ≡ true → fitting acts (Some act) ≡ Err BadLine
unfit acts act is = rw is refl

-- ---- lines that take a node's name

pub node_unknown : (acts : List Act) (node line : List ℕ) → is_node acts node ≡ false → judged acts (Some (l.Ctl node line)) ≡ Err UnknownNode
node_unknown acts node line none = rw none refl

pub restarted_unknown : (acts : List Act) (node : List ℕ) → is_node acts node ≡ false → judged acts (Some (l.Restart node)) ≡ Err UnknownNode
restarted_unknown acts node none = rw none refl

pub restarted_judged : (acts : List Act) (node : List ℕ) → is_node acts node ≡ true → judged acts (Some (l.Restart node)) ≡ Ok (Restarted node)
unfolding is_unfit
restarted_judged acts node is = rw is refl

pub reloaded_judged : (acts : List Act) → judged acts (Some l.Reload) ≡ Ok Reloaded
unfolding is_unfit
reloaded_judged acts = refl

pub told_judged : (acts : List Act) (node line : List ℕ) → is_node acts node ≡ true → judged acts (Some (l.Ctl node line)) ≡ Ok (Told node line)
unfolding is_unfit
told_judged acts node line is = rw is refl

pub opener_unknown : (acts : List Act) (node conv : List ℕ) → is_node acts node ≡ false → judged acts (Some (l.Open node conv)) ≡ Err UnknownNode
opener_unknown acts node conv none = rw none refl

pub open_judged : (acts : List Act) (node conv : List ℕ) → is_node acts node ≡ true → judged acts (Some (l.Open node conv)) ≡ fitting acts (Some (Opened node conv))
open_judged acts node conv is = rw is refl

pub name_taken : (acts : List Act) (node conv : List ℕ) → is_node acts node ≡ true → has_name conv (opened_names acts) ≡ true → judged acts (Some (l.Open node conv)) ≡ Err BadLine
unfolding is_unfit
name_taken acts node conv is taken = open_judged acts node conv is ∙ rw taken refl

pub open_refused : (acts : List Act) (node conv : List ℕ) → is_node acts node ≡ true → has_name conv (opened_names acts) ≡ false → refuses_open (fid_for acts node) (history acts (agent_of acts node)) ≡ true → judged acts (Some (l.Open node conv)) ≡ Err BadLine
unfolding is_unfit
open_refused acts node conv is free refuses = open_judged acts node conv is ∙ rw (free, refuses) refl

pub open_done : (acts : List Act) (node conv : List ℕ) → is_node acts node ≡ true → has_name conv (opened_names acts) ≡ false → refuses_open (fid_for acts node) (history acts (agent_of acts node)) ≡ false → judged acts (Some (l.Open node conv)) ≡ Ok (Opened node conv)
unfolding is_unfit
open_done acts node conv is free lets = open_judged acts node conv is ∙ rw (free, lets) refl

-- ---- lines that take a conversation's name

-- what a line that takes a conversation's name comes to
pub conv_unknown : (acts : List Act) (line : ScriptLine) (conv : List ℕ) → misnamed acts line ≡ scripts.on_conv acts conv → is_some (talk_of acts conv) ≡ false → judged acts (Some line) ≡ Err UnknownConv
conv_unknown acts line conv takes none = rw (takes, none) refl

pub conv_known : (acts : List Act) (line : ScriptLine) (conv : List ℕ) → misnamed acts line ≡ scripts.on_conv acts conv → is_some (talk_of acts conv) ≡ true → judged acts (Some line) ≡ fitting acts (act_of acts (messages acts) line)
conv_known acts line conv takes is = rw (takes, is) refl

-- bytes of messages that aren't recorded
pub write_unspelled : (acts : List Act) (conv : List ℕ) (pieces : List Piece) → is_some (talk_of acts conv) ≡ true → spelled (messages acts) pieces ≡ None → judged acts (Some (l.Write conv pieces)) ≡ Err NoSuchMessage
write_unspelled acts conv pieces is none = conv_known acts (l.Write conv pieces) conv refl is ∙ rw none refl

pub write_judged : (acts : List Act) (conv bytes : List ℕ) (pieces : List Piece) → is_some (talk_of acts conv) ≡ true → spelled (messages acts) pieces ≡ Some bytes → judged acts (Some (l.Write conv pieces)) ≡ fitting acts (Some (Given conv bytes))
write_judged acts conv bytes pieces is some = conv_known acts (l.Write conv pieces) conv refl is ∙ rw some refl

pub given_fits : (acts : List Act) (conv bytes : List ℕ) → nat_lt most_request (length (request_text (gives bytes))) ≡ false → is_unfit acts (Given conv bytes) ≡ false
unfolding is_unfit
given_fits acts conv bytes short = short

pub given_unfit : (acts : List Act) (conv bytes : List ℕ) → nat_lt most_request (length (request_text (gives bytes))) ≡ true → is_unfit acts (Given conv bytes) ≡ true
unfolding is_unfit
given_unfit acts conv bytes long = long

pub answer_unspelled : (acts : List Act) (conv : List ℕ) (pieces : List Piece) → is_some (talk_of acts conv) ≡ true → spelled (messages acts) pieces ≡ None → judged acts (Some (l.Answer conv pieces)) ≡ Err NoSuchMessage
answer_unspelled acts conv pieces is none = conv_known acts (l.Answer conv pieces) conv refl is ∙ rw none refl

pub answer_judged : (acts : List Act) (conv bytes : List ℕ) (pieces : List Piece) → is_some (talk_of acts conv) ≡ true → spelled (messages acts) pieces ≡ Some bytes → judged acts (Some (l.Answer conv pieces)) ≡ fitting acts (Some (Answered conv bytes (call_now acts conv)))
answer_judged acts conv bytes pieces is some = conv_known acts (l.Answer conv pieces) conv refl is ∙ rw some refl

-- an answer where no question is outstanding, one that is too long, and one that fits
pub unasked_unfit : (acts : List Act) (conv bytes : List ℕ) (call : ℕ) → outstanding acts conv ≡ None → is_unfit acts (Answered conv bytes call) ≡ true
unfolding is_unfit
unasked_unfit acts conv bytes call none = rw none refl

pub answer_unfit : (acts : List Act) (conv bytes : List ℕ) (call : ℕ) → nat_lt most_answer (length bytes) ≡ true → is_unfit acts (Answered conv bytes call) ≡ true
unfolding is_unfit
answer_unfit acts conv bytes call long = ap (λ (b : Bool). not (is_some (outstanding acts conv)) || b) long ∙ last (not (is_some (outstanding acts conv))) where
  last : (b : Bool) → b || true ≡ true
  last true = refl
  last false = refl

pub answer_fits : (acts : List Act) (conv bytes : List ℕ) (call question : ℕ) → outstanding acts conv ≡ Some question → nat_lt most_answer (length bytes) ≡ false → is_unfit acts (Answered conv bytes call) ≡ false
unfolding is_unfit
answer_fits acts conv bytes call question asks short = rw (asks, short) refl

pub miss_unfit : (acts : List Act) (conv : List ℕ) (call : ℕ) → outstanding acts conv ≡ None → is_unfit acts (Unanswered conv call) ≡ true
unfolding is_unfit
miss_unfit acts conv call none = rw none refl

pub miss_fits : (acts : List Act) (conv : List ℕ) (call question : ℕ) → outstanding acts conv ≡ Some question → is_unfit acts (Unanswered conv call) ≡ false
unfolding is_unfit
miss_fits acts conv call question asks = rw asks refl

pub close_judged : (acts : List Act) (conv : List ℕ) → is_some (talk_of acts conv) ≡ true → judged acts (Some (l.Close conv)) ≡ Ok (Closed conv)
unfolding is_unfit
close_judged acts conv is = conv_known acts (l.Close conv) conv refl is

-- ---- requests to conversations

pub start_judged : (acts : List Act) (conv word tuple : List ℕ) → is_some (talk_of acts conv) ≡ true → judged acts (Some (l.Start conv word tuple)) ≡ Ok (Started conv word tuple)
unfolding is_unfit
start_judged acts conv word tuple is = conv_known acts (l.Start conv word tuple) conv refl is

pub read_judged : (acts : List Act) (conv : List ℕ) → is_some (talk_of acts conv) ≡ true → judged acts (Some (l.Read conv)) ≡ Ok (Got conv)
unfolding is_unfit
read_judged acts conv is = conv_known acts (l.Read conv) conv refl is

-- ---- nodes

pub node_twice : (acts : List Act) (node : List ℕ) → is_node acts node ≡ true → judged acts (Some (l.Node node)) ≡ Err BadLine
unfolding is_unfit
node_twice acts node is = rw is refl

pub too_many : (acts : List Act) (node : List ℕ) → is_node acts node ≡ false → nat_le most_nodes (length (nodes acts)) ≡ true → judged acts (Some (l.Node node)) ≡ Err BadLine
unfolding is_unfit
too_many acts node new many = rw (new, many) refl

pub node_made : (acts : List Act) (node : List ℕ) → is_node acts node ≡ false → nat_le most_nodes (length (nodes acts)) ≡ false → judged acts (Some (l.Node node)) ≡ Ok (Made node)
unfolding is_unfit
node_made acts node new few = rw (new, few) refl
