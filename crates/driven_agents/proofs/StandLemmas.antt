-- What is so of a conversation behind each move that its role makes, and behind each answer that is there, is so behind all that a
-- request comes to.
use Rattle.std.proofs.Common.{ℕ, List, true, Option, Some, None}
use Rattle.attr_tuples.specs.declared.attr.Attr.{Attr}
use Rattle.key_lists.specs.Lists.{KeyEntry}
use Rattle.key_lists.specs.CtlLines.{few_of}
use Rattle.roles.specs.declared.answer.StartFault.{StartFault}
use Rattle.roles.specs.Talks.{Call as Move, get, give}
use Rattle.talks.specs.Requests.{RpcRequest, starts, reads, writes, asks_info, asks_attributes}
use Rattle.talks.specs.declared.answer.RpcAnswer.{RpcAnswer}
use Rattle.talks.specs.declared.answer.RpcAnswer.TheVariants as a
use Rattle.talks.specs.Protocols.{answers, puts, refuses}
use Rattle.talks.specs.Answers.{attributes, move_answer, start_answer}
use Rattle.talks.specs.Standings.{Begun, Standing, answered, begin, begin_once, carried_out, chosen_for, if_begun, info_of, made, make_move, moved, start_by, started, told_of_key, with_key, with_move}

pub record Stands (P : Standing → Type 0) : Type 0 where
  pub moves : (s : Standing) (b : Begun) (answer : RpcAnswer) → P (moved s b answer)
  pub ends : (s : Standing) (answer : RpcAnswer) → P (answered s answer)

started_so : (P : Standing → Type 0) → Stands P → (s : Standing) (word : List ℕ) (template : List Attr) (fault : Option StartFault) → P (started s word template fault)
started_so P k s word template (Some fault) = k.ends s (start_answer fault)
started_so P k s word template None = k.moves (record { begun = s.begun; phase = s.phase; starting = true; said = s.said }) (begin template word) a.Ok

start_so : (P : Standing → Type 0) → Stands P → (s : Standing) (word : List ℕ) (template : Option (List Attr)) → P (start_by s word template)
start_so P k s word None = k.ends s a.BadTemplate
start_so P k s word (Some template) = started_so P k s word template (refuses template)

once_so : (P : Standing → Type 0) → Stands P → (s : Standing) (word text : List ℕ) (begun : Option Begun) → P (begin_once s word text begun)
once_so P k s word text (Some b) = k.ends s a.AlreadyStarted
once_so P k s word text None = start_so P k s word (few_of text)

where_begun : (P : Standing → Type 0) → Stands P → (s : Standing) (o : Option Begun) (next : Begun → Standing) → ((b : Begun) → P (next b)) → P (if_begun s o next)
where_begun P k s None next so = k.ends s a.NotStarted
where_begun P k s (Some b) next so = so b

move_so : (P : Standing → Type 0) → Stands P → (s : Standing) (b : Begun) (move : Move) (well : RpcAnswer) → P (make_move s b move well)
move_so P k s b move well = k.moves s (with_move b move) (move_answer well b.key (answers b.start b.moves move))

-- a request that is carried out
pub carried_so : (P : Standing → Type 0) → Stands P → (s : Standing) (word : List ℕ) (request : RpcRequest) → P (carried_out s word request)
carried_so P k s word (starts text) = once_so P k s word text s.begun
carried_so P k s word reads = where_begun P k s s.begun (λ b. make_move s b get (a.Got (puts b.start b.moves get))) (λ b. move_so P k s b get (a.Got (puts b.start b.moves get)))
carried_so P k s word (writes message) = where_begun P k s s.begun (λ b. make_move s b (give message) a.Ok) (λ b. move_so P k s b (give message) a.Ok)
carried_so P k s word asks_info = k.ends s (info_of s.begun)
carried_so P k s word asks_attributes = where_begun P k s s.begun (λ b. answered s (a.Attributes (attributes b.start.template b.key))) (λ b. k.ends s (a.Attributes (attributes b.start.template b.key)))

-- a key that is chosen, and what else no request makes
pub key_so : (P : Standing → Type 0) → Stands P → (s : Standing) (key : KeyEntry) (begun : Option Begun) → P s → P (with_key s key begun)
key_so P k s key None p = p
key_so P k s key (Some b) p = k.moves s (chosen_for key b) (move_answer a.Ok (Some key) (answers b.start b.moves (told_of_key key)))

pub made_so : (P : Standing → Type 0) → Stands P → (s : Standing) (move : Move) (begun : Option Begun) → P s → P (made s move begun)
made_so P k s move None p = p
made_so P k s move (Some b) p = move_so P k s b move a.Ok
