-- When a conversation holds for a talk: what was begun is what the definitions say was begun, and so are the phase, the
-- start and what the user said.
use Rattle.std.specs.Prelude.{◌≡◌, ℕ, List, [], ◌∷◌, true, false, Option, Some, None, if◌then◌else◌}
use Rattle.attr_tuples.specs.declared.attr.Attr.{Attr}
use Rattle.key_lists.specs.Lists.{KeyList}
use Rattle.roles.specs.declared.need.Need.TheVariants.{Nothing}
use Rattle.roles.specs.Answers.{IsOffers, IsPick}
use Rattle.roles.specs.Talks.{offered}
use Rattle.talks.specs.declared.answer.RpcAnswer.{RpcAnswer}
use Rattle.talks.specs.Calls.{Call, CarriedOut, Sought}
use Rattle.talks.specs.declared.said.Asking.{Asking}
use Rattle.talks.specs.Standings.{Begun, Standing, finds, made, need_in, question_of, standing, template_of, then_stands}
use Rattle.conversations.specs.declared.begun.Begun.{Begun as Held}
use Rattle.conversations.specs.declared.conversation.Conversation.{Conversation}
use Rattle.conversations.specs.declared.phase.Phase.{Phase}
use Rattle.conversations.specs.declared.phase.Phase.TheVariants as held
use Rattle.conversations.specs.Begins.{IsBegun}
use Rattle.conversations.specs.Meanings.{phase_of}
use Rattle.conversations.specs.Shown.{answer_in, asks_user, has_request, is_seeking}

-- ---- what was begun

abbrev pub BothBegun : Option Held → Option Begun → Type 0
BothBegun None None = Unit {0}
BothBegun None (Some b) = ⊥
BothBegun (Some held) None = ⊥
BothBegun (Some held) (Some b) = IsBegun held b

-- ---- a conversation

-- the template for which a user is asked, while he is asked
abbrev pub IsAsked : Phase → List Attr → Type 0
IsAsked (held.OnNeedkey asked) template = asked ≡ template
IsAsked held.Resting template = Unit {0}
IsAsked (held.Waiting request) template = Unit {0}
IsAsked held.Seeking template = Unit {0}
IsAsked (held.OnConfirm serial) template = Unit {0}
IsAsked held.OnServer template = Unit {0}
IsAsked (held.Kept answer) template = Unit {0}

-- all but its phase
pub record Carries (c : Conversation) (s : Standing) : Type 0 where
  pub begun : BothBegun c.begun s.begun
  pub starting : c.starting ≡ s.starting
  pub said : c.said ≡ s.said

pub record Fits (c : Conversation) (s : Standing) : Type 0 where
  pub carries : Carries c s
  pub phase : phase_of c.phase ≡ s.phase
  pub asked : IsAsked c.phase (template_of s.begun)

-- it holds for a talk
abbrev pub Holds : Conversation → List Call → Type 0
Holds c talk = Fits c (standing talk)

-- whatever its talk was, it holds for the talk with one more call
abbrev pub Keeps : Conversation → Conversation → Call → Type 0
Keeps old new call = (talk : List Call) → Holds old talk → Holds new (call ∷ talk)

-- what is shown of it is what its talk makes
abbrev pub Shows : {A : Type 0} → Conversation → (Standing → A) → A → Type 0
Shows c made shown = (talk : List Call) → Holds c talk → shown ≡ made (standing talk)

-- the answer that it keeps
abbrev pub answer_held : Conversation → Option RpcAnswer
answer_held c = answer_in (phase_of c.phase)

-- ---- a request and the search that it wants

-- a talk, and behind it a search among the keys of a moment, where something is sought
abbrev pub with_search_once : Asking → KeyList → List Call → List Call
with_search_once asking list talk =
    if is_seeking (standing talk).phase then Sought (finds (standing talk) asking list) ∷ talk
    else talk

-- and as many as it wants: a start may want the offers, a key where there are none, and the offers again
abbrev pub with_search : Asking → KeyList → List Call → List Call
with_search asking list talk =
    if (standing talk).starting
    then with_search_once asking list (with_search_once asking list (with_search_once asking list talk))
    else with_search_once asking list talk

-- a talk with its request carried out, and the search that this wants; as it was, where it has no request
abbrev pub with_request : List ℕ → Asking → KeyList → List Call → List Call
with_request word asking list talk =
    if has_request (standing talk).phase then with_search asking list (CarriedOut word ∷ talk)
    else talk

-- a talk in which its user answers, and the search that this wants, where he was asked
abbrev pub with_answer : Call → Asking → KeyList → List Call → List Call
with_answer call asking list talk =
    if asks_user (standing talk).phase then with_search asking list (call ∷ talk)
    else call ∷ talk

-- whatever its talk was, it holds for the talk in which its user answers
abbrev pub Resumes : Conversation → Conversation → Call → Asking → KeyList → Type 0
Resumes old new call asking list = (talk : List Call) → Holds old talk → Holds new (with_answer call asking list talk)

-- whatever its talk was, it holds for the talk with its request carried out
abbrev pub Performs : Conversation → Conversation → List ℕ → Asking → KeyList → Type 0
Performs old new word asking list = (talk : List Call) → Holds old talk → Holds new (with_request word asking list talk)

-- whatever its talk was, it holds for it still
abbrev pub Stays : Conversation → Conversation → Type 0
Stays old new = (talk : List Call) → Holds old talk → Holds new talk

-- ---- for the proofs of its methods alone

-- a standing, and the search that it wants, once, and as often as it wants it
abbrev pub searched_once : Asking → KeyList → Standing → Standing
searched_once asking list s = if is_seeking s.phase then then_stands s s.phase (Sought (finds s asking list)) else s

abbrev pub searched : Asking → KeyList → Standing → Standing
searched asking list s =
    if s.starting then searched_once asking list (searched_once asking list (searched_once asking list s))
    else searched_once asking list s

-- a search finds no memory: something is sought, and it is no pick
pub record Lacks (s : Standing) : Type 0 where
  pub seeks : is_seeking s.phase ≡ true
  pub picks : IsPick (need_in s.begun) → ⊥

-- a start that found no memory for its search is as it was but for what was begun
pub record Shaken (old new : Conversation) : Type 0 where
  pub starting : new.starting ≡ old.starting
  pub said : new.said ≡ old.said
  pub once : old.starting ≡ false → new ≡ old

-- nothing is needed, and the latest request that was carried out is forgotten
pub record IsIdle (s : Standing) : Type 0 where
  pub free : question_of s ≡ Nothing
  pub starting : s.starting ≡ false

-- where it was idle, it stands as it did, its phase aside
abbrev pub PutsBack : Conversation → Conversation → Type 0
PutsBack old new = (s : Standing) → Carries old s → IsIdle s → Carries new s

-- however it stood, its phase aside, it stands so now
abbrev pub Meets : Conversation → Conversation → (Standing → Standing) → Type 0
Meets old new change = (s : Standing) → Carries old s → Fits new (change s)

-- however it stood, it stands so now
abbrev pub Turns : Conversation → Conversation → (Standing → Standing) → Type 0
Turns old new change = (s : Standing) → Fits old s → Fits new (change s)

-- a list of offers is used where they are needed
pub record UsesList (old new : Conversation) (given : List ℕ) : Type 0 where
  pub empty : given ≡ [] → new ≡ old
  pub rests : is_seeking (phase_of old.phase) ≡ false → new ≡ old
  pub listed : (s : Standing) (b : ℕ) (rest : List ℕ) → given ≡ b ∷ rest → Fits old s → is_seeking s.phase ≡ true
      → IsOffers (need_in s.begun) → Fits new (made s (offered given) s.begun)
