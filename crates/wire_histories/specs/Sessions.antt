-- What a session of the authentication server leaves in the record, by its requests, the newest first. A request of a
-- kind that isn't served ends the session without an answer; so does, with its answer, one wrong answer too many. Each
-- request is answered by the tables that were in force when it came.
use Rattle.std.specs.Prelude.{◌≡◌, ℕ, ◌<◌, List, [], ◌∷◌, ◌++◌, All, Bool, false, not, ◌||◌, length, Option, Some, None, if◌then◌else◌}
use Rattle.sealing.specs.Fitting.{IsBlock}
use Rattle.auth_server.specs.Requests.{Challenge, asked_so, is_served, kind_of, needed}
use Rattle.auth_server.specs.Answers.{Knowledge, Posed, answer_in, held_in, is_over_in, posed}
use Rattle.wire_histories.specs.Histories.{Deal, requested, replied, ended}

-- A request that came, the words that were drawn for it, and the number of the tables that were in force.
pub record Came : Type 0 where
  pub tables : ℕ
  pub request : List ℕ
  pub words : List (List ℕ)

-- ---- with what is known by the tables of each number

-- requests as they were put to the authentication server
abbrev pub posed_as : (ℕ → Knowledge) → Came → Posed
posed_as known came = posed (known came.tables) (asked_so came.request came.words)

abbrev pub posed_by : (ℕ → Knowledge) → List Came → List Posed
posed_by known [] = []
posed_by known (came ∷ before) = posed_as known came ∷ posed_by known before

-- the challenge that a session holds, whether it has come to its end by wrong answers, and the answer to a request
abbrev pub held : (ℕ → Knowledge) → List Came → Option Challenge
held known session = held_in (posed_by known session)

abbrev pub is_over : (ℕ → Knowledge) → List Came → Bool
is_over known session = is_over_in (posed_by known session)

abbrev pub answer : (ℕ → Knowledge) → List Came → Came → List ℕ
answer known before came = answer_in (posed_by known before) (posed_as known came)

-- its newest request ended it
abbrev pub has_ended : (ℕ → Knowledge) → List Came → Bool
has_ended known [] = false
has_ended known (came ∷ before) = not (is_served (kind_of came.request)) || is_over known (came ∷ before)

-- a request is as long as is needed, where one of its kind is served
abbrev pub IsLong : Option ℕ → ℕ → Type 0
IsLong None size = Unit {0}
IsLong (Some wanted) size = size ≡ wanted

-- a request may come behind others: they didn't end the session, it isn't empty, it is as long as is needed, and it has
-- three words of eight bytes
pub record MayCome (known : ℕ → Knowledge) (before : List Came) (came : Came) : Type 0 where
  pub goes_on : has_ended known before ≡ false
  pub some : 0 < length came.request
  pub long : IsLong (needed (held known before) (kind_of came.request)) (length came.request)
  pub three : length came.words ≡ 3
  pub words : All (IsBlock 8) came.words

abbrev pub IsSession : (ℕ → Knowledge) → List Came → Type 0
IsSession known [] = Unit {0}
IsSession known (came ∷ before) = MayCome known before came × IsSession known before

-- ---- what is left of it

-- what an answered request leaves, and one that isn't answered
abbrev pub replies_to : (ℕ → Knowledge) → List Came → Came → List Deal
replies_to known before came =
    if is_served (kind_of came.request) then replied (answer known before came) ∷ []
    else []

abbrev pub ends_by : Bool → List Deal
ends_by over = if over then ended ∷ [] else []

-- all that its requests leave, the newest first
abbrev pub session_deals : (ℕ → Knowledge) → List Came → List Deal
session_deals known [] = []
session_deals known (came ∷ before) = ends_by (has_ended known (came ∷ before))
    ++ (replies_to known before came ++ requested came.tables came.request came.words ∷ session_deals known before)
