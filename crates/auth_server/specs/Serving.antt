-- What a server that serves one client has read, drawn and written when it ends. Content is optional: the words on it
-- hold where it is told.
use Rattle.std.specs.Prelude.{◌≡◌, ℕ, ◌+◌, ◌<◌, ◌≤◌, List, [], ◌∷◌, ◌++◌, true, false, length, Option, Some, None}
use Rattle.std.specs.Io.KnownBytes.{Consumes, IsAtEnd}
use Rattle.wire_streams.specs.Streams.{Gains}
use Rattle.wire_streams.specs.Whole.{GainsFront}
use Rattle.auth_server.specs.Requests.{kind_of, needed}
use Rattle.auth_server.specs.Answers.{Knowledge, Posed, held_in, is_over_in}
use Rattle.auth_server.specs.Sessions.{IsSession, IsPart, exactly, IsUnfinished, DrawsAll, answers_of, bytes_of, words_of}
use Rattle.auth_server.specs.declared.serve.AuthEnd.{AuthEnd}
use Rattle.auth_server.specs.declared.serve.AuthEnd.TheVariants.{End, UnknownType, Torn, TooManyWrong, ReadFault, WriteFault, WordFault, Flood, NoMemory}

-- how many bytes of a client are taken: 2^40
abbrev pub most_input : ℕ
most_input = 1099511627776

-- What the outside tells at a moment: the bytes that the client's source has left, the words that are to come, and the
-- bytes that the client's sink holds.
pub record Moment : Type 0 where
  pub left : Option (List ℕ)
  pub to_come : Option (List (List ℕ))
  pub holds : Option (List ℕ)

-- a moment by its parts
abbrev pub moment : Option (List ℕ) → Option (List (List ℕ)) → Option (List ℕ) → Moment
moment left to_come holds = record { left = left; to_come = to_come; holds = holds }

-- between two moments the bytes of a session were read, and these behind them; its words were drawn, and these behind
-- them
pub record Reads (InForce : ℕ → Knowledge → Type 0) (before now : Moment) (requests : List Posed) (rest : List ℕ)
    (drawn : List (List ℕ)) : Type 0 where
  pub session : IsSession InForce requests
  pub read : Consumes before.left now.left (bytes_of requests ++ rest)
  pub drew : DrawsAll before.to_come now.to_come (words_of requests ++ drawn)

-- and every one of its requests was answered
pub record Answers (InForce : ℕ → Knowledge → Type 0) (before now : Moment) (requests : List Posed) (rest : List ℕ)
    (drawn : List (List ℕ)) : Type 0 where
  pub reads : Reads InForce before now requests rest drawn
  pub written : Gains before.holds now.holds (answers_of requests)

-- ---- the ends

-- the input ended behind a request
pub record EndsWhole (InForce : ℕ → Knowledge → Type 0) (before now : Moment) : Type 0 where
  pub requests : List Posed
  pub answers : Answers InForce before now requests [] []
  pub goes_on : is_over_in requests ≡ false
  pub at_end : IsAtEnd now.left
  pub few : length (bytes_of requests) ≤ most_input

-- behind the requests stands a byte that begins none
pub record MeetsUnknown (InForce : ℕ → Knowledge → Type 0) (at kind : ℕ) (before now : Moment) : Type 0 where
  pub requests : List Posed
  pub behind : List ℕ
  pub answers : Answers InForce before now requests (kind ∷ behind) []
  pub goes_on : is_over_in requests ≡ false
  pub unknown : needed (held_in requests) kind ≡ None
  pub place : at ≡ length (bytes_of requests)
  pub few : at < most_input

-- the input ended inside the request behind those that were answered
pub record EndsInside (InForce : ℕ → Knowledge → Type 0) (at : ℕ) (before now : Moment) : Type 0 where
  pub requests : List Posed
  pub rest : List ℕ
  pub answers : Answers InForce before now requests rest []
  pub goes_on : is_over_in requests ≡ false
  pub inside : IsPart (held_in requests) rest
  pub at_end : IsAtEnd now.left
  pub place : at ≡ length (bytes_of requests)

-- the last request is one wrong answer too many
pub record EndsWrong (InForce : ℕ → Knowledge → Type 0) (before now : Moment) : Type 0 where
  pub requests : List Posed
  pub answers : Answers InForce before now requests [] []
  pub over : is_over_in requests ≡ true

-- what was read is the requests that were answered, and no whole one behind them
pub record AnswersSoFar (InForce : ℕ → Knowledge → Type 0) (before now : Moment) : Type 0 where
  pub requests : List Posed
  pub rest : List ℕ
  pub answers : Answers InForce before now requests rest []
  pub goes_on : is_over_in requests ≡ false
  pub unfinished : IsUnfinished (held_in requests) rest

-- for a whole request behind those that were answered fewer than three words were drawn
pub record LacksWords (InForce : ℕ → Knowledge → Type 0) (before now : Moment) : Type 0 where
  pub requests : List Posed
  pub request : List ℕ
  pub drawn : List (List ℕ)
  pub answers : Answers InForce before now requests request drawn
  pub goes_on : is_over_in requests ≡ false
  pub whole : needed (held_in requests) (kind_of request) ≡ Some (length request)
  pub few : length drawn < 3

-- so many bytes were read as are taken at most, with no whole request behind those that were answered, and one more
pub record Floods (InForce : ℕ → Knowledge → Type 0) (before now : Moment) : Type 0 where
  pub requests : List Posed
  pub rest : List ℕ
  pub more : ℕ
  pub answers : Answers InForce before now requests (rest ++ more ∷ []) []
  pub goes_on : is_over_in requests ≡ false
  pub unfinished : IsUnfinished (held_in requests) rest
  pub full : length (bytes_of requests) + length rest ≡ most_input

-- a front of the answers was written, and some of them is missing
pub record AnswersFront (InForce : ℕ → Knowledge → Type 0) (before now : Moment) : Type 0 where
  pub requests : List Posed
  pub reads : Reads InForce before now requests [] []
  pub written : GainsFront before.holds now.holds (answers_of requests)

-- for a whole request behind those that were answered three words were drawn, and memory ran out
pub record LacksMemory (InForce : ℕ → Knowledge → Type 0) (before now : Moment) : Type 0 where
  pub requests : List Posed
  pub request : List ℕ
  pub drawn : List (List ℕ)
  pub answers : Answers InForce before now requests request drawn
  pub goes_on : is_over_in requests ≡ false
  pub whole : needed (held_in requests) (kind_of request) ≡ Some (length request)
  pub three : length drawn ≡ 3

-- what a server that ended so has read, drawn and written, by what it may know at each request
abbrev pub EndsUnder : (ℕ → Knowledge → Type 0) → AuthEnd → Moment → Moment → Type 0
EndsUnder InForce End before now = EndsWhole InForce before now
EndsUnder InForce (UnknownType at kind) before now = MeetsUnknown InForce at kind before now
EndsUnder InForce (Torn at) before now = EndsInside InForce at before now
EndsUnder InForce TooManyWrong before now = EndsWrong InForce before now
EndsUnder InForce ReadFault before now = AnswersSoFar InForce before now
EndsUnder InForce WriteFault before now = AnswersFront InForce before now
EndsUnder InForce WordFault before now = LacksWords InForce before now
EndsUnder InForce Flood before now = Floods InForce before now
EndsUnder InForce NoMemory before now = LacksMemory InForce before now

-- the same where the tables stay as they are
abbrev pub EndsSo : Knowledge → AuthEnd → Moment → Moment → Type 0
EndsSo known end before now = EndsUnder (exactly (λ number. known)) end before now

-- ---- what is served to its end

-- the client's bytes are told, they are whole requests of kinds that are served, with too few wrong answers to end the
-- session, and not too many; and their words are told to come. What the server knows at each request is given.
pub record IsServableBy (tables : ℕ → Knowledge) (before : Moment) : Type 0 where
  pub requests : List Posed
  pub later : List (List ℕ)
  pub session : IsSession (exactly tables) requests
  pub goes_on : is_over_in requests ≡ false
  pub few : length (bytes_of requests) ≤ most_input
  pub left : before.left ≡ Some (bytes_of requests)
  pub to_come : before.to_come ≡ Some (words_of requests ++ later)

-- the client's bytes are told, they begin with a session that five wrong answers end, and that isn't too many; and
-- its words are told to come
pub record IsSpentBy (tables : ℕ → Knowledge) (before : Moment) : Type 0 where
  pub requests : List Posed
  pub behind : List ℕ
  pub later : List (List ℕ)
  pub session : IsSession (exactly tables) requests
  pub over : is_over_in requests ≡ true
  pub few : length (bytes_of requests) ≤ most_input
  pub left : before.left ≡ Some (bytes_of requests ++ behind)
  pub to_come : before.to_come ≡ Some (words_of requests ++ later)

-- both where the tables stay as they are
abbrev pub IsServable : Knowledge → Moment → Type 0
IsServable known before = IsServableBy (λ number. known) before

abbrev pub IsSpent : Knowledge → Moment → Type 0
IsSpent known before = IsSpentBy (λ number. known) before
