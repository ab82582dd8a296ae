-- The questions to users that are made before they are asked. After factotum(4) of the Plan 9 manual (confirm,
-- needkey).
use Rattle.std.specs.Prelude.{◌≡◌, ◌<◌, ◌-◌, ◌^◌, ℕ, List, ◌∷◌, Bool, true, false, Option, Some, None}
use Rattle.attr_tuples.specs.Printing.{public_text}
use Rattle.key_lists.specs.Lists.{KeyEntry, KeyList}
use Rattle.roles.specs.Templates.{shown_text}
use Rattle.attr_tuples.specs.declared.attr.Attr.{Attr}
use Rattle.talks.specs.Requests.{RpcRequest, starts, reads, writes, asks_info, asks_attributes}
use Rattle.side_files.specs.declared.line.PromptKind.{PromptKind}
use Rattle.side_files.specs.declared.line.PromptKind.TheVariants as k
use Rattle.side_files.specs.Questions.{Questions, next_line}
use Rattle.talks.specs.Calls.{Call, Found, AsksConsent, Consented, KeyTold}
use Rattle.talks.specs.declared.said.Asking.{Asking}
use Rattle.talks.specs.Standings.{Begun, Phase, Resting, Waiting, Seeking, OnConfirm, OnNeedkey, OnServer, Kept, Standing, finds, sought, standing, template_of}
use Rattle.conversations.specs.declared.asks.Asks.{Asks}
use Rattle.conversations.specs.declared.conversation.Conversation.{Conversation}
use Rattle.conversations.specs.Fits.{Carries, Fits, Holds, with_answer}

-- the next question is made, about this
pub record IsMade (q : Questions) (about : List ℕ) : Type 0 where
  pub line : q.reserved ≡ Some (next_line q about)
  pub few : q.asked < 2 ^ 64 - 1

-- but for the question that is made
abbrev pub unmade : Questions → Questions
unmade q = record q { reserved = None }

-- the same questions were asked, whether the next ones are made or not
pub record SameAsks (old new : Asks) : Type 0 where
  pub confirm : unmade new.confirm ≡ unmade old.confirm
  pub needkey : unmade new.needkey ≡ unmade old.needkey

-- where a conversation asks its user, by a search among the keys of a moment, its question is made
abbrev pub ReadyIn : Phase → Standing → Asking → KeyList → Asks → Type 0
ReadyIn (OnConfirm serial) s asking list asks =
    (key : KeyEntry) → finds s asking list ≡ AsksConsent key → IsMade asks.confirm (public_text key.tuple)
ReadyIn OnNeedkey s asking list asks = IsMade asks.needkey (shown_text (template_of s.begun))
ReadyIn Resting s asking list asks = Unit {0}
ReadyIn (Waiting request) s asking list asks = Unit {0}
ReadyIn Seeking s asking list asks = Unit {0}
ReadyIn OnServer s asking list asks = Unit {0}
ReadyIn (Kept answer) s asking list asks = Unit {0}

abbrev pub IsReady : Asking → KeyList → Standing → Asks → Type 0
IsReady asking list s asks = ReadyIn s.phase s asking list asks

-- whatever its talk was, that is so behind what follows, where it was so before
abbrev pub Readies : Conversation → (List Call → List Call) → Asking → KeyList → Asks → Asks → Type 0
Readies old then asking list before after = (talk : List Call) → Holds old talk
    → IsReady asking list (standing talk) before → IsReady asking list (standing (then talk)) after

-- what a call answers is asked
abbrev pub asks_that : Call → Phase → Bool
asks_that (Consented agrees) (OnConfirm serial) = true
asks_that KeyTold OnNeedkey = true
asks_that call phase = false

-- and behind what its user answered
abbrev pub Answers : Conversation → Call → Asking → KeyList → Asks → Type 0
Answers old call asking list asks = (talk : List Call) → Holds old talk → asks_that call (standing talk).phase ≡ true
    → IsReady asking list (standing (with_answer call asking list talk)) asks

-- by which file a user is asked
abbrev pub asked_kind : Phase → Option PromptKind
asked_kind (OnConfirm serial) = Some k.Confirm
asked_kind OnNeedkey = Some k.Needkey
asked_kind Resting = None
asked_kind (Waiting request) = None
asked_kind Seeking = None
asked_kind OnServer = None
asked_kind (Kept answer) = None

-- ---- what was begun, or is to be

-- the text of a start that isn't carried out yet
abbrev pub start_in : RpcRequest → Option (List ℕ)
start_in (starts text) = Some text
start_in reads = None
start_in (writes message) = None
start_in asks_info = None
start_in asks_attributes = None

abbrev pub start_text : Phase → Option (List ℕ)
start_text (Waiting request) = start_in request
start_text Resting = None
start_text Seeking = None
start_text (OnConfirm serial) = None
start_text OnNeedkey = None
start_text OnServer = None
start_text (Kept answer) = None

-- the template by which it was started
abbrev pub template_begun : Option Begun → Option (List Attr)
template_begun None = None
template_begun (Some b) = Some b.start.template

-- ---- for the proofs of methods alone

abbrev pub TurnsReady : Conversation → (Standing → Standing) → Asking → KeyList → Asks → Asks → Type 0
TurnsReady old change asking list before after =
    (s : Standing) → Fits old s → IsReady asking list s before → IsReady asking list (change s) after

abbrev pub MeetsReady : Conversation → (Standing → Standing) → Asking → KeyList → Asks → Type 0
MeetsReady old change asking list asks = (s : Standing) → Carries old s → IsReady asking list (change s) asks

-- this was found
abbrev pub FindsReady : Conversation → Found → Asks → Type 0
FindsReady old came asks = (s : Standing) (asking : Asking) (list : KeyList) → Fits old s → finds s asking list ≡ came
    → IsReady asking list (sought s came) asks
