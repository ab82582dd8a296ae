-- What is kept of a conversation that was started is what the definitions say was begun, and a move makes of it what
-- they say.
use Rattle.std.specs.Prelude.{◌≡◌, ℕ, List, ◌∷◌, Option, Some, None}
use Rattle.attr_tuples.specs.declared.attr.Attr.{Attr}
use Rattle.key_lists.specs.Lists.{KeyList}
use Rattle.roles.specs.declared.answer.Gave.{Gave}
use Rattle.roles.specs.declared.answer.StartFault.{StartFault}
use Rattle.roles.specs.declared.need.Need.{Need}
use Rattle.roles.specs.declared.need.Need.TheVariants.{Nothing, Key, Offers, Pick, Exchange}
use Rattle.roles.specs.Starts.{Start}
use Rattle.roles.specs.Talks.{get, Call as Move}
use Rattle.talks.specs.declared.conv.Conv.{Conv}
use Rattle.talks.specs.Protocols.{answers, needs, puts, refuses}
use Rattle.talks.specs.Standing.{Stands}
use Rattle.talks.specs.declared.answer.RpcAnswer.{RpcAnswer}
use Rattle.talks.specs.declared.answer.RpcAnswer.TheVariants as a
use Rattle.talks.specs.Answers.{move_answer, start_answer}
use Rattle.talks.specs.Searches.{offered_by, picked_by}
use Rattle.talks.specs.Standings.{Begun, begin, phase_after, with_move}
use Rattle.conversations.specs.declared.begun.Begun.{Begun as Held}
use Rattle.conversations.specs.declared.opening.Opening.{Opening}
use Rattle.conversations.specs.declared.opening.Opening.TheVariants as o
use Rattle.conversations.specs.declared.phase.Phase.{Phase}
use Rattle.conversations.specs.Meanings.{phase_of}

-- what is kept of a conversation that was started so, and whose role met these moves
pub record IsBegun (held : Held) (b : Begun) : Type 0 where
  pub machine : Stands held.machine b.start b.moves
  pub template : held.template ≡ b.start.template
  pub key : held.key ≡ b.key

-- a move of the machine was made, and answered so
abbrev pub Made : Conv → Conv → Move → Gave → Type 0
Made old new move gave = (start : Start) (moves : List Move) → Stands old start moves
    → (gave ≡ answers start moves move) × Stands new start (move ∷ moves)

-- these bytes are got of it
abbrev pub Got : Conv → List ℕ → Type 0
Got old bytes = (start : Start) (moves : List Move) → Stands old start moves → bytes ≡ puts start moves get

-- the phase that follows where this was begun, and this is the answer where nothing is needed
abbrev pub MoveTo : Phase → Begun → RpcAnswer → Type 0
MoveTo phase b answer = phase_of phase ≡ phase_after (needs b.start b.moves) answer

pub record Becomes (new : Held) (phase : Phase) (b : Begun) (answer : RpcAnswer) : Type 0 where
  pub begun : IsBegun new b
  pub leads : MoveTo phase b answer

-- a move that is answered `ok` where it is done
abbrev pub Moves : Held → Held → Phase → Move → Type 0
Moves old new phase move = (b : Begun) → IsBegun old b
    → Becomes new phase (with_move b move) (move_answer a.Ok b.key (answers b.start b.moves move))

-- a start that was tried
abbrev pub Opens : Opening → List Attr → List ℕ → Type 0
Opens (o.Refused answer) template word =
    (fault : StartFault) × ((refuses template ≡ Some fault) × (answer ≡ start_answer fault))
Opens (o.Started held) template word = (refuses template ≡ None) × IsBegun held (begin template word)

-- where offers are needed, or a key, this is the list of what the keys offer that serve
abbrev pub IsOfferedBy : List ℕ → Need → List ℕ → KeyList → Type 0
IsOfferedBy given Nothing role list = Unit {0}
IsOfferedBy given (Key template) role list = given ≡ offered_by template role list
IsOfferedBy given (Offers template) role list = given ≡ offered_by template role list
IsOfferedBy given (Pick templates) role list = Unit {0}
IsOfferedBy given (Exchange request shape) role list = Unit {0}

-- where one of some templates is to be picked, this is its place
abbrev pub IsPickedBy : ℕ → Need → List ℕ → KeyList → Type 0
IsPickedBy place Nothing role list = Unit {0}
IsPickedBy place (Key template) role list = Unit {0}
IsPickedBy place (Offers template) role list = Unit {0}
IsPickedBy place (Pick templates) role list = place ≡ picked_by templates role list
IsPickedBy place (Exchange request shape) role list = Unit {0}
