-- What a program that answers for its user enters at an agent, and how that ends. Own entries stand with the newest
-- first. The definitions are the project's own.
use Rattle.std.specs.Prelude.{◌≡◌, ◌<◌, ◌≤◌, ◌⊎◌, ℕ, List, [], ◌∷◌, ◌++◌, length, map, reverse, take, Bool, true, false, not, ◌||◌, nat_lt, Some, None, Result, Ok, Err, if◌then◌else◌}
use Rattle.nine.specs.declared.message.TMsg.{TMsg}
use Rattle.nine.specs.Messages.{t_frame}
use Rattle.wire_base.specs.declared.bytes.NoMemory.{NoMemory}
use Rattle.prompters.specs.Manners.{Manner}
use Rattle.side_files.specs.declared.question.Question.{Question}
use Rattle.turn_lock.specs.Fronts.{events}
use Rattle.turn_lock.specs.Seats.{front}
use Rattle.agent_history.specs.declared.event.Event.{Event}
use Rattle.agent_history.specs.declared.event.Event.TheVariants.{Hang, Request, Take}
use Rattle.agent_history.specs.declared.event.StepAnswer.{StepAnswer}
use Rattle.agent_history.specs.declared.event.StepAnswer.TheVariants.{Reply, Gone as IsGone}
use Rattle.agent_history.specs.declared.event.StepAnswer.TheVariants as a
use Rattle.agent_history.specs.Histories.{History, answer, has_stopped, is_reply}
use Rattle.agent_hub.specs.declared.exchange.Exchanged.{Exchanged}
use Rattle.agent_hub.specs.declared.exchange.TakesEnd.{TakesEnd}
use Rattle.agent_hub.specs.declared.exchange.TakesEnd.TheVariants.{NoneLeft, Stopped, Left}
use Rattle.agent_hub.specs.Submits.{HubSeat}
use Rattle.agent_hub.specs.Entries.{Adds, Entered, LastIs, entry, events_in, in_turn, text_of}
use Rattle.agent_hub.specs.Exchanging.{without_takes}
use Rattle.prompters.specs.Requests.{opening}
use Rattle.prompters.specs.Replies.{are_open, meets_use, question_read, refuses_by, too_small_text}
use Rattle.prompters.specs.Wanted.{chain_behind, is_over, meets_long_line, wanted}
use Rattle.agent_serving.specs.declared.prompts.PromptsEnd.{PromptsEnd}
use Rattle.agent_serving.specs.declared.prompts.PromptsEnd.TheVariants.{Idle, InUse, TooLong, NoQuestion, Gone}
use Rattle.agent_serving.specs.declared.prompts.PromptsEnd.TheVariants as e

-- the word of each of its requests: eight zeros
abbrev pub zeros : List ℕ
zeros = 0 ∷ 0 ∷ 0 ∷ 0 ∷ 0 ∷ 0 ∷ 0 ∷ 0 ∷ []

-- a request on a connection
abbrev pub asks : ℕ → TMsg → Event
asks conn m = Request conn (t_frame m) zeros

-- ---- the opening

-- These entries were made in one turn, one behind the other, so that no other entry stands between them. They are so
-- many requests of the opening, from its first one on, with takes on the connection between and behind them, and this
-- is what the takes gave. So no other connection comes between what the first request gives up and what the last ones
-- open.
pub record Opening (conn entered : ℕ) (heard : List ℕ) (mine : List Entered) : Type 0 where
  pub before : History
  pub done : List Event
  pub one_turn : mine ≡ in_turn before done
  pub asked : without_takes conn done ≡ reverse (map (asks conn) (take entered opening))
  pub gave : heard ≡ text_of mine

-- ---- the talk behind it

-- These entries made these requests and took these replies: each request was the next one that is asked for once the
-- replies before it were taken, a read or a write of a file, and all other entries are takes. So none of them gives up
-- what is open.
pub data Talks (conn : ℕ) (chain : List Manner) : List Entered → List TMsg → List (List ℕ) → Type 0 where
  Begins : Talks conn chain [] [] []
  Makes : (older : List Entered) (made still : List TMsg) (replies : List (List ℕ)) (m : TMsg) (h : History)
      → Talks conn chain older made replies → wanted chain replies ≡ still ++ m ∷ made
      → Talks conn chain (entry h (asks conn m) ∷ older) (m ∷ made) replies
  Takes : (older : List Entered) (made : List TMsg) (replies : List (List ℕ)) (reply : List ℕ) (h : History)
      → Talks conn chain older made replies → answer h (Take conn) ≡ (Reply, reply)
      → Talks conn chain (entry h (Take conn) ∷ older) made (reply ∷ replies)
  TakesNone : (older : List Entered) (made : List TMsg) (replies : List (List ℕ)) (h : History)
      → Talks conn chain older made replies → is_reply (answer h (Take conn)).0 ≡ false
      → Talks conn chain (entry h (Take conn) ∷ older) made replies

-- the end says that a file is in use, or that a line is too long
abbrev pub is_in_use : PromptsEnd → Bool
is_in_use Idle = false
is_in_use InUse = true
is_in_use TooLong = false
is_in_use NoQuestion = false
is_in_use Gone = false
is_in_use e.NoMemory = false

abbrev pub is_too_long : PromptsEnd → Bool
is_too_long Idle = false
is_too_long InUse = false
is_too_long TooLong = true
is_too_long NoQuestion = false
is_too_long Gone = false
is_too_long e.NoMemory = false

-- the whole opening was entered and both files are open; behind that all was made that was asked for, and the chain was
-- asked for each line
pub record AllMade (chain now : List Manner) (entered : ℕ) (heard : List ℕ) (made : List TMsg)
    (replies : List (List ℕ)) : Type 0 where
  pub whole : entered ≡ length opening
  pub both_open : are_open heard ≡ true
  pub all : made ≡ wanted chain replies
  pub asked : now ≡ chain_behind chain replies

-- the talk hasn't begun, and nobody was asked
pub record NotBegun (chain now : List Manner) (talk : List Entered) : Type 0 where
  pub none : talk ≡ []
  pub same : now ≡ chain

-- the last take was answered that the connection is gone, or the agent has stopped
abbrev pub IsGoneBy : List Entered → HubSeat → Type 0
IsGoneBy talk after = LastIs IsGone talk ⊎ (has_stopped (events (front after)) ≡ true)

-- what follows the opening and its talk: the hang of the connection where a file is in use, and else nothing, so that
-- the connection has the files open still
abbrev pub Leaves : PromptsEnd → ℕ → List Entered → Type 0
Leaves Idle conn last = ⊥
Leaves InUse conn last = events_in last ≡ Hang conn ∷ []
Leaves TooLong conn last = last ≡ []
Leaves NoQuestion conn last = last ≡ []
Leaves Gone conn last = last ≡ []
Leaves e.NoMemory conn last = last ≡ []

-- Of the code alone: both files were opened
pub record Opened (conn : ℕ) (opened : List Entered) : Type 0 where
  pub heard : List ℕ
  pub opens : Opening conn 6 heard opened
  pub both : are_open heard ≡ true
  pub free : meets_use heard ≡ false

module _ (conn : ℕ) (chain now : List Manner) (before after : HubSeat) where
  -- what was made unless memory was short, by the end; a reply without a question is the end only where a read brought
  -- none
  abbrev pub MadeAll : PromptsEnd → ℕ → List ℕ → List Entered → List TMsg → List (List ℕ) → Type 0
  MadeAll Idle entered heard talk made replies = ⊥
  MadeAll InUse entered heard talk made replies = NotBegun chain now talk
  MadeAll TooLong entered heard talk made replies = AllMade chain now entered heard made replies
  MadeAll NoQuestion entered heard talk made replies = AllMade chain now entered heard made replies
      × (is_over replies ≡ true)
  MadeAll Gone entered heard talk made replies = IsGoneBy talk after
      × (AllMade chain now entered heard made replies ⊎ NotBegun chain now talk)
  MadeAll e.NoMemory entered heard talk made replies = Unit {0}

  -- The seat's own new entries are an opening, a talk and what follows them. Only where both files were opened there is
  -- a talk. The end says that a file is in use exactly where the reply to an open did, and that a line is too long
  -- exactly where the reply to a read did.
  pub record Prompts (end : PromptsEnd) : Type 0 where
    pub entered : ℕ
    pub heard : List ℕ
    pub opened : List Entered
    pub opens : Opening conn entered heard opened
    pub talk : List Entered
    pub last : List Entered
    pub added : Adds (last ++ (talk ++ opened)) before after
    pub made : List TMsg
    pub replies : List (List ℕ)
    pub talks : Talks conn chain talk made replies
    pub begins : (are_open heard ≡ true) ⊎ (talk ≡ [])
    pub all : MadeAll end entered heard talk made replies
    pub in_use : is_in_use end ≡ meets_use heard
    pub too_long : is_too_long end ≡ meets_long_line replies
    pub leaves : Leaves end conn last

  -- it enters nothing and asks nobody
  pub record Rests : Type 0 where
    pub none : Adds [] before after
    pub same : now ≡ chain

  -- it is idle exactly where the chain has fewer than two prompters
  abbrev pub PromptsSo : PromptsEnd → Type 0
  PromptsSo Idle = (length chain < 2) × Rests
  PromptsSo InUse = (2 ≤ length chain) × Prompts InUse
  PromptsSo TooLong = (2 ≤ length chain) × Prompts TooLong
  PromptsSo NoQuestion = (2 ≤ length chain) × Prompts NoQuestion
  PromptsSo Gone = (2 ≤ length chain) × Prompts Gone
  PromptsSo e.NoMemory = (2 ≤ length chain) × Prompts e.NoMemory

  -- ---- of the code alone

  -- these requests are to be made yet
  pub record Speaks (still : List TMsg) : Type 0 where
    pub opened : List Entered
    pub begun : Opened conn opened
    pub talk : List Entered
    pub added : Adds (talk ++ opened) before after
    pub made : List TMsg
    pub replies : List (List ℕ)
    pub talks : Talks conn chain talk made replies
    pub wants : wanted chain replies ≡ still ++ made
    pub asked : chain_behind chain replies ≡ now
    pub goes : is_over replies ≡ false
    pub fits : meets_long_line replies ≡ false

  -- a reply was taken last
  pub record Hears (reply : List ℕ) : Type 0 where
    pub opened : List Entered
    pub begun : Opened conn opened
    pub talk : List Entered
    pub added : Adds (talk ++ opened) before after
    pub made : List TMsg
    pub replies : List (List ℕ)
    pub talks : Talks conn chain talk made (reply ∷ replies)
    pub wants : wanted chain replies ≡ made
    pub asked : chain_behind chain replies ≡ now
    pub goes : is_over replies ≡ false
    pub fits : meets_long_line replies ≡ false

  -- it ends so
  pub record Stops (end : PromptsEnd) : Type 0 where
    pub entered : ℕ
    pub heard : List ℕ
    pub opened : List Entered
    pub opens : Opening conn entered heard opened
    pub talk : List Entered
    pub added : Adds (talk ++ opened) before after
    pub made : List TMsg
    pub replies : List (List ℕ)
    pub talks : Talks conn chain talk made replies
    pub begins : (are_open heard ≡ true) ⊎ (talk ≡ [])
    pub all : MadeAll end entered heard talk made replies
    pub in_use : is_in_use end ≡ meets_use heard
    pub too_long : is_too_long end ≡ meets_long_line replies

  abbrev pub SpeaksOn : Result (Unit {0}) PromptsEnd → List TMsg → Type 0
  SpeaksOn (Ok x) still = Speaks still
  SpeaksOn (Err end) still = Stops end

  abbrev pub HearsOne : Result (Unit {0}) PromptsEnd → List ℕ → Type 0
  HearsOne (Ok x) reply = Hears reply
  HearsOne (Err end) reply = Stops end

  abbrev pub TakesOne : Result Bool PromptsEnd → List ℕ → Type 0
  TakesOne (Ok true) reply = Hears reply
  TakesOne (Ok false) reply = Speaks []
  TakesOne (Err end) reply = Stops end

-- the agent has stopped
abbrev pub is_stopped : TakesEnd → Bool
is_stopped NoneLeft = false
is_stopped Stopped = true
is_stopped Left = false

-- what came of an opening
abbrev pub opened_by : Exchanged → List ℕ → Result (Unit {0}) PromptsEnd
opened_by came heard =
    if meets_use heard then Err InUse
    else if is_stopped came.end then Err Gone
    else if nat_lt came.entered 6 || not (are_open heard) then Err e.NoMemory
    else Ok tt

-- what the answer to a take comes to: a reply, none, or an end
abbrev pub taken_of : Result StepAnswer NoMemory → Result Bool PromptsEnd
taken_of (Ok a.Done) = Ok false
taken_of (Ok Reply) = Ok true
taken_of (Ok a.NoReply) = Ok false
taken_of (Ok IsGone) = Err Gone
taken_of (Ok (a.Ask call conv shape)) = Ok false
taken_of (Ok (a.DropCall conv)) = Ok false
taken_of (Ok a.NoAsk) = Ok false
taken_of (Ok a.Stopped) = Ok false
taken_of (Err short) = Err e.NoMemory

-- the question that the reply to a read holds, or why there is none
abbrev pub Asked : Result Question PromptsEnd → List ℕ → Type 0
Asked (Ok q) reply = (question_read reply ≡ Some q) × (refuses_by too_small_text reply ≡ false)
Asked (Err Idle) reply = ⊥
Asked (Err InUse) reply = ⊥
Asked (Err TooLong) reply = refuses_by too_small_text reply ≡ true
Asked (Err NoQuestion) reply = (question_read reply ≡ None) × (refuses_by too_small_text reply ≡ false)
Asked (Err Gone) reply = ⊥
Asked (Err e.NoMemory) reply = refuses_by too_small_text reply ≡ false
