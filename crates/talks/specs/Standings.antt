-- How a conversation of rpc stands after what it met: with what it was started, what its role met since, and what
-- became of its latest request. After factotum(4) of the Plan 9 manual: a write is a request, and the read that
-- follows it carries it out and is its answer. A call that can't come changes nothing.
use Rattle.std.specs.Prelude.{ℕ, List, [], ◌∷◌, ◌++◌, Bool, true, false, Option, Some, None, codes, option_map}
use Rattle.attr_tuples.specs.declared.attr.Attr.{Attr}
use Rattle.attr_tuples.specs.Matching.{value_of}
use Rattle.key_lists.specs.Lists.{KeyEntry, KeyList}
use Rattle.key_lists.specs.CtlLines.{few_of}
use Rattle.roles.specs.declared.need.Need.{Need}
use Rattle.roles.specs.declared.need.Need.TheVariants.{Nothing, Key, Offers, Pick, Exchange}
use Rattle.roles.specs.declared.need.Outcome.{Outcome}
use Rattle.roles.specs.declared.answer.StartFault.{StartFault}
use Rattle.roles.specs.Starts.{Start, start_with}
use Rattle.roles.specs.Talks.{give, get, found, heard, unheard, roomless, undone, offered, picked, Call as Move}
use Rattle.talks.specs.Requests.{RpcRequest, starts, reads, writes, asks_info, asks_attributes}
use Rattle.talks.specs.declared.answer.RpcAnswer.{RpcAnswer}
use Rattle.talks.specs.declared.answer.RpcAnswer.TheVariants as a
use Rattle.talks.specs.Calls.{Call, Found, Chosen, AsksConsent, AsksKey, Denied, NoneServes, Offered, Picked, Stored, CarriedOut, Sought, Consented, KeyTold, Shut, Heard, Unheard, Roomless, Took}
use Rattle.talks.specs.declared.said.Said.{Said}
use Rattle.talks.specs.declared.said.Asking.{Asking}
use Rattle.talks.specs.Searches.{found_by, offered_by, picked_by}
use Rattle.talks.specs.Protocols.{refuses, answers, puts, needs, ends, has_ended}
use Rattle.talks.specs.Answers.{told_key, start_answer, move_answer, info_answer, attributes}

-- a conversation that was started: with what, what its role met since, the newest first, and the key that was chosen
pub record Begun : Type 0 where
  pub start : Start
  pub moves : List Move
  pub key : Option KeyEntry

-- what became of the latest request
pub data Phase : Type 0 where
  -- its answer was read, or there was none
  Resting : Phase
  -- it isn't carried out yet
  Waiting : (request : RpcRequest) → Phase
  -- it needs something of the keys, which is searched for
  Seeking : Phase
  -- its user is asked whether the key of this number may be used
  OnConfirm : (serial : ℕ) → Phase
  -- its user is asked for a key
  OnNeedkey : Phase
  -- the authentication server is asked
  OnServer : Phase
  -- it has this answer, which wasn't read yet
  Kept : (answer : RpcAnswer) → Phase

pub record Standing : Type 0 where
  pub begun : Option Begun
  pub phase : Phase
  -- the latest request that was carried out is a start
  pub starting : Bool
  -- what the latest request has learnt of its user
  pub said : Said

-- ---- the words of what follows

abbrev pub nothing_said : Said
nothing_said = record { agreed = []; denied = []; asked = false }

-- before it met anything
abbrev pub untouched : Standing
untouched = record { begun = None; phase = Resting; starting = false; said = nothing_said }

-- in another phase
abbrev pub in_phase : Standing → Phase → Standing
in_phase s phase = record { begun = s.begun; phase = phase; starting = s.starting; said = s.said }

-- the answer is there
abbrev pub answered : Standing → RpcAnswer → Standing
answered s answer = in_phase s (Kept answer)

-- what follows on a move that is answered so: what the role needs is got for it, and where it needs nothing the
-- answer is there
abbrev pub phase_after : Need → RpcAnswer → Phase
phase_after (Key template) answer = Seeking
phase_after (Offers template) answer = Seeking
phase_after (Pick templates) answer = Seeking
phase_after (Exchange request shape) answer = OnServer
phase_after Nothing answer = Kept answer

-- one more move
abbrev pub with_move : Begun → Move → Begun
with_move b move = record { start = b.start; moves = move ∷ b.moves; key = b.key }

-- the role met a move, which is answered so where it needs nothing
abbrev pub moved : Standing → Begun → RpcAnswer → Standing
moved s b answer = record {
  begun = Some b;
  phase = phase_after (needs b.start b.moves) answer;
  starting = s.starting;
  said = s.said;
}

-- a move is made, and where it is done this is the answer
abbrev pub make_move : Standing → Begun → Move → RpcAnswer → Standing
make_move s b move done = moved s (with_move b move) (move_answer done b.key (answers b.start b.moves move))

-- where it was started, what follows
abbrev pub if_begun : Standing → Option Begun → (Begun → Standing) → Standing
if_begun s None next = answered s a.NotStarted
if_begun s (Some b) next = next b

-- ---- a request is carried out

abbrev pub begin : List Attr → List ℕ → Begun
begin template word = record { start = start_with template word; moves = []; key = None }

abbrev pub started : Standing → List ℕ → List Attr → Option StartFault → Standing
started s word template (Some fault) = answered s (start_answer fault)
started s word template None =
    moved (record { begun = s.begun; phase = s.phase; starting = true; said = s.said }) (begin template word) a.Ok

abbrev pub start_by : Standing → List ℕ → Option (List Attr) → Standing
start_by s word None = answered s a.BadTemplate
start_by s word (Some template) = started s word template (refuses template)

abbrev pub begin_once : Standing → List ℕ → List ℕ → Option Begun → Standing
begin_once s word text (Some b) = answered s a.AlreadyStarted
begin_once s word text None = start_by s word (few_of text)

-- who was accepted
abbrev pub info_of : Option Begun → RpcAnswer
info_of None = a.NoInfo
info_of (Some b) = info_answer (has_ended b.start b.moves) (ends b.start b.moves)

abbrev pub carried_out : Standing → List ℕ → RpcRequest → Standing
carried_out s word (starts text) = begin_once s word text s.begun
carried_out s word reads = if_begun s s.begun (λ b. make_move s b get (a.Got (puts b.start b.moves get)))
carried_out s word (writes message) = if_begun s s.begun (λ b. make_move s b (give message) a.Ok)
carried_out s word asks_info = answered s (info_of s.begun)
carried_out s word asks_attributes =
    if_begun s s.begun (λ b. answered s (a.Attributes (attributes b.start.template b.key)))

-- ---- what is needed is searched for

-- what it needs
abbrev pub need_in : Option Begun → Need
need_in None = Nothing
need_in (Some b) = needs b.start b.moves

-- the template that is asked of a key, where one is needed
abbrev pub template_in : Need → List Attr
template_in (Key template) = template
template_in (Offers template) = []
template_in (Pick templates) = []
template_in (Exchange request shape) = []
template_in Nothing = []

abbrev pub template_of : Option Begun → List Attr
template_of None = []
template_of (Some b) = template_in (needs b.start b.moves)

-- the role of a start
abbrev pub role_in : List Attr → List ℕ
role_in template = elim (value_of (codes "role") template) [ None ↦ [] | Some role ↦ role ]

abbrev pub role_name : Option Begun → List ℕ
role_name None = []
role_name (Some b) = role_in b.start.template

-- what is found for a need among the keys of a moment
abbrev pub found_for : Need → List ℕ → Said → Asking → KeyList → Found
found_for (Key template) role said asking list = found_by template role said asking list
found_for (Offers template) role said asking list = Offered (offered_by template role list)
found_for (Pick templates) role said asking list = Picked (picked_by templates role list)
found_for (Exchange request shape) role said asking list = NoneServes
found_for Nothing role said asking list = NoneServes

-- what a conversation finds among the keys of a moment
unfoldable pub finds : Standing → Asking → KeyList → Found
finds s asking list = found_for (need_in s.begun) (role_name s.begun) s.said asking list

-- what is found is what is needed
abbrev pub is_for : Need → Found → Bool
is_for (Key template) (Offered list) = false
is_for (Key template) (Picked place) = false
is_for (Key template) came = true
is_for (Offers template) (Offered list) = true
is_for (Pick templates) (Picked place) = true
is_for need came = false

-- the request that needed a key is taken back: a start is none, and another move wasn't made
abbrev pub taken_back : Bool → Option Begun → Option Begun
taken_back starting None = None
taken_back true (Some b) = None
taken_back false (Some b) = Some (with_move b undone)

-- it is taken back with this answer
abbrev pub refused : Standing → RpcAnswer → Standing
refused s answer = record {
  begun = taken_back s.starting s.begun;
  phase = Kept answer;
  starting = s.starting;
  said = s.said;
}

abbrev pub needs_key : Standing → RpcAnswer
needs_key s = a.NeedKey (template_of s.begun)

-- the move by which the role is told of a key
abbrev pub told_of_key : KeyEntry → Move
told_of_key key = found (told_key key) (value_of (codes "!password") key.tuple)

-- a key isn't kept that was found for the sake of the offers, which are needed again
abbrev pub kept_key : KeyEntry → Need → Option KeyEntry
kept_key key (Offers template) = None
kept_key key (Key template) = Some key
kept_key key (Pick templates) = Some key
kept_key key (Exchange request shape) = Some key
kept_key key Nothing = Some key

-- the role is told of the key
abbrev pub chosen_for : KeyEntry → Begun → Begun
chosen_for key b = record {
  start = b.start;
  moves = told_of_key key ∷ b.moves;
  key = kept_key key (needs b.start (told_of_key key ∷ b.moves));
}

abbrev pub with_key : Standing → KeyEntry → Option Begun → Standing
with_key s key None = s
with_key s key (Some b) =
    moved s (chosen_for key b) (move_answer a.Ok (Some key) (answers b.start b.moves (told_of_key key)))

-- a move that no request makes is made, which is answered `ok` where it is done
abbrev pub made : Standing → Move → Option Begun → Standing
made s move None = s
made s move (Some b) = make_move s b move a.Ok

abbrev pub asks_for_key : Said → Said
asks_for_key said = record { agreed = said.agreed; denied = said.denied; asked = true }

abbrev pub sought : Standing → Found → Standing
sought s (Chosen key) = with_key s key s.begun
sought s (AsksConsent key) = in_phase s (OnConfirm key.serial)
sought s AsksKey = record { begun = s.begun; phase = OnNeedkey; starting = s.starting; said = asks_for_key s.said }
sought s Denied = refused s a.Denied
sought s NoneServes = refused s (needs_key s)
sought s (Offered list) = made s (offered list) s.begun
sought s (Picked place) = made s (picked place) s.begun

-- what is found counts where it is what is needed
abbrev pub sought_if : Bool → Standing → Found → Standing
sought_if true s came = sought s came
sought_if false s came = s

-- ---- its user answers, or can't

-- he agreed to the use of a key, or denied it
abbrev pub says_of : ℕ → Bool → Said → Said
says_of serial true said = record { agreed = said.agreed ++ serial ∷ []; denied = said.denied; asked = said.asked }
says_of serial false said = record { agreed = said.agreed; denied = said.denied ++ serial ∷ []; asked = said.asked }

abbrev pub told_of : ℕ → Bool → Standing → Standing
told_of serial agrees s = record {
  begun = s.begun;
  phase = Seeking;
  starting = s.starting;
  said = says_of serial agrees s.said;
}

-- ---- what each call comes to

abbrev pub stored : Standing → RpcRequest → Standing
stored s request = record { begun = s.begun; phase = Waiting request; starting = false; said = nothing_said }

abbrev pub then_stands : Standing → Phase → Call → Standing
then_stands s Resting (Stored request) = stored s request
then_stands s (Waiting request) (CarriedOut word) = carried_out s word request
then_stands s Seeking (Sought came) = sought_if (is_for (need_in s.begun) came) s came
then_stands s (OnConfirm serial) (Consented agrees) = told_of serial agrees s
then_stands s (OnConfirm serial) Shut = refused s a.Denied
then_stands s OnNeedkey KeyTold = in_phase s Seeking
then_stands s OnNeedkey Shut = refused s (needs_key s)
then_stands s OnServer (Heard bytes) = made s (heard bytes) s.begun
then_stands s OnServer Unheard = made s unheard s.begun
then_stands s OnServer Roomless = made s roomless s.begun
then_stands s (Kept answer) Took = in_phase s Resting
then_stands s phase call = s

-- how a conversation stands after a talk
abbrev pub standing : List Call → Standing
standing [] = untouched
standing (call ∷ before) = then_stands (standing before) (standing before).phase call

-- ---- what is asked of a talk

-- the question for the authentication server that stands
abbrev pub question_of : Standing → Need
question_of s = need_in s.begun

-- a start that waits for its user, or for what is searched for, hasn't started yet
abbrev pub waits_for_user : Phase → Bool
waits_for_user Seeking = true
waits_for_user (OnConfirm serial) = true
waits_for_user OnNeedkey = true
waits_for_user Resting = false
waits_for_user (Waiting request) = false
waits_for_user OnServer = false
waits_for_user (Kept answer) = false

abbrev pub outcome_unless : Bool → Option Begun → Option Outcome
outcome_unless true begun = None
outcome_unless false begun = option_map (λ b. ends b.start b.moves) begun

-- how it stands as to its end, once it has started
abbrev pub outcome_of : Standing → Option Outcome
outcome_of s = elim s.starting [
  | true ↦ outcome_unless (waits_for_user s.phase) s.begun
  | false ↦ option_map
      (λ b. ends b.start b.moves) s.begun
]

-- the key that it has chosen
abbrev pub key_of : Standing → Option KeyEntry
key_of s = elim s.begun [ None ↦ None | Some b ↦ b.key ]
