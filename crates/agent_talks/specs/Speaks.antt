-- When the conversations that are kept are those that a list of deeds tells of.
use Rattle.std.specs.Prelude.{◌≡◌, ℕ, ◌≤◌, List, [], ◌∷◌, Bool, true, false, ◌==◌, Option, Some, None}
use Rattle.std.specs.List.{list_any}
use Rattle.key_lists.specs.Lists.{KeyList}
use Rattle.talks.specs.Calls.{Call, CarriedOut}
use Rattle.talks.specs.Standings.{OnServer, Phase, Waiting, standing}
use Rattle.talks.specs.declared.said.Asking.{Asking}
use Rattle.agent_history.specs.Deeds.{Deed, OfTalk, keys_of}
use Rattle.agent_history.specs.Conversations as told
use Rattle.agent_history.specs.Conversations.{Question, Speaker, opened_talks, standing_of, talk, then_raised, then_sought}
use Rattle.conversations.specs.declared.conversation.Conversation.{Conversation}
use Rattle.conversations.specs.declared.asks.Asks.{Asks}
use Rattle.conversations.specs.Asking as C
use Rattle.conversations.specs.Fits.{Holds, with_search}
use Rattle.conversations.specs.Shown.{has_request}
use Rattle.agent_talks.specs.declared.held.Talks.{Talks}
use Rattle.agent_talks.specs.Kept.{kept_at, questions_in, speakers_in}

-- the conversation of a number is one of those that stand
abbrev pub is_among : List Speaker → ℕ → Bool
is_among standing conv = list_any (λ s. s.conv == conv) standing

abbrev pub stands : List Deed → ℕ → Bool
stands done conv = is_among (told.speakers done) conv

-- some question is of the conversation of a number
abbrev pub asks_for : List Question → ℕ → Bool
asks_for questions conv = list_any (λ q. q.conv == conv) questions

-- a conversation is kept exactly where it stands, and it holds for its talk
abbrev pub IsKept : Bool → List Call → Option Conversation → Type 0
IsKept true talk (Some c) = Holds c talk
IsKept true talk None = ⊥
IsKept false talk (Some c) = ⊥
IsKept false talk None = Unit {0}

-- a conversation stands, and the authentication server is asked for it
pub record OnServerNow (done : List Deed) (conv : ℕ) : Type 0 where
  pub stands : stands done conv ≡ true
  pub phase : (standing_of done conv).phase ≡ OnServer

pub record Speak (done : List Deed) (t : Talks) : Type 0 where
  pub opened : t.opened ≡ opened_talks done
  pub speakers : speakers_in t ≡ told.speakers done
  pub table : (conv : ℕ) → IsKept (stands done conv) (talk done conv) (kept_at t conv)
  pub raised : t.raised ≡ told.raised done
  pub questions : questions_in t ≡ told.questions done
  -- a conversation that wasn't opened yet met nothing
  pub fresh : (conv : ℕ) → opened_talks done ≤ conv → talk done conv ≡ []
  -- a question that stands is of a conversation that stands and waits for its answer
  pub asked : (conv : ℕ) → asks_for (told.questions done) conv ≡ true → OnServerNow done conv

-- a conversation met something, and what it needs then is got for it or asked for
abbrev pub talked : ℕ → Call → List Deed → List Deed
talked conv call done = then_raised conv (then_sought conv (OfTalk conv call ∷ done))

-- the conversation of a number, where one is meant, met something
abbrev pub talked_by : Option ℕ → Call → List Deed → List Deed
talked_by None call done = done
talked_by (Some conv) call done = talked conv call done

-- a conversation carried its request out, where it has one
abbrev pub carried_in : ℕ → List ℕ → Phase → List Deed → List Deed
carried_in conv word (Waiting request) done = talked conv (CarriedOut word) done
carried_in conv word phase done = done

abbrev pub carried_talk : ℕ → List ℕ → List Deed → List Deed
carried_talk conv word done = carried_in conv word (standing_of done conv).phase done

-- the same conversations and the same questions
pub record SameTalks (old new : Talks) : Type 0 where
  pub opened : new.opened ≡ old.opened
  pub speakers : speakers_in new ≡ speakers_in old
  pub table : (conv : ℕ) → kept_at new conv ≡ kept_at old conv
  pub raised : new.raised ≡ old.raised
  pub questions : questions_in new ≡ questions_in old

-- the conversation that is kept for a fid, where the fid has this one open
abbrev pub IsOpenAt : List Deed → Option ℕ → Option Conversation → Type 0
IsOpenAt done None None = Unit {0}
IsOpenAt done None (Some c) = ⊥
IsOpenAt done (Some conv) None = ⊥
IsOpenAt done (Some conv) (Some c) = Holds c (talk done conv)

-- a conversation stands, among these keys, and these files are open
pub record IsReady (done : List Deed) (conv : ℕ) (list : KeyList) (asking : Asking) : Type 0 where
  pub stands : stands done conv ≡ true
  pub keys : keys_of done ≡ list
  pub files : told.asking done ≡ asking

-- the conversation of a number, where it has a request, whatever deeds the conversations are those of
abbrev pub ShowsRequest : Talks → ℕ → Bool → Type 0
ShowsRequest t conv has =
    (done : List Deed) → stands done conv ≡ true → Speak done t → has ≡ has_request (standing_of done conv).phase

-- a conversation met something, and the question to its user that this comes to, if he is asked, is made
abbrev pub Readied : List Deed → ℕ → Call → Asking → KeyList → Asks → Type 0
Readied done conv call asking list asks =
    C.IsReady asking list (standing (with_search asking list (call ∷ talk done conv))) asks
