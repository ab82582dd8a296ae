-- A session over a stream of bytes: its requests stand in it one behind the other, each as long as is needed of its
-- kind by then, and three words are drawn for each. A session is the list of its requests, the newest first.
use Rattle.std.specs.Prelude.{◌≡◌, ℕ, ◌<◌, List, [], ◌∷◌, ◌++◌, false, length, Option, Some, None, ◌⊎◌, ⊤}
use Rattle.auth_server.specs.Requests.{Challenge, kind_of, needed}
use Rattle.auth_server.specs.Answers.{Knowledge, Posed, answer_in, held_in, is_over_in}

-- What a server may know at each request of a session, by the number of the requests before it: these tables, and no
-- others.
abbrev pub exactly : (ℕ → Knowledge) → ℕ → Knowledge → Type 0
exactly tables number known = known ≡ tables number

-- a request may follow others: the server may know so when it comes, they have not come to an end by wrong answers, it
-- is as long as is needed, and it has three words
pub record Follows (InForce : ℕ → Knowledge → Type 0) (before : List Posed) (p : Posed) : Type 0 where
  pub in_force : InForce (length before) p.known
  pub goes_on : is_over_in before ≡ false
  pub whole : needed (held_in before) (kind_of p.asked.request) ≡ Some (length p.asked.request)
  pub three : length p.asked.words ≡ 3

-- requests are a session where each may follow those before it
abbrev pub IsSession : (ℕ → Knowledge → Type 0) → List Posed → Type 0
IsSession InForce [] = Unit {0}
IsSession InForce (p ∷ before) = Follows InForce before p × IsSession InForce before

-- the bytes of the requests, their words, and their answers, each in the order in which they came
abbrev pub bytes_of : List Posed → List ℕ
bytes_of [] = []
bytes_of (p ∷ before) = bytes_of before ++ p.asked.request

abbrev pub words_of : List Posed → List (List ℕ)
words_of [] = []
words_of (p ∷ before) = words_of before ++ p.asked.words

abbrev pub answers_of : List Posed → List ℕ
answers_of [] = []
answers_of (p ∷ before) = answers_of before ++ answer_in before p

-- ---- bytes that are no whole request

-- bytes are the front of a request: its kind is one that is served, and they are fewer than it has
pub record IsPart (held : Option Challenge) (bytes : List ℕ) : Type 0 where
  pub some : 0 < length bytes
  pub need : ℕ
  pub served : needed held (kind_of bytes) ≡ Some need
  pub short : length bytes < need

-- no bytes, or the front of a request
abbrev pub IsUnfinished : Option Challenge → List ℕ → Type 0
IsUnfinished held bytes = (bytes ≡ []) ⊎ IsPart held bytes

-- ---- words that are drawn

-- these words were drawn, the first of them first, where the words to come are told
abbrev pub DrawsAll : Option (List (List ℕ)) → Option (List (List ℕ)) → List (List ℕ) → Type 0
DrawsAll None new drawn = ⊤
DrawsAll (Some words) None drawn = ⊥
DrawsAll (Some words) (Some later) drawn = words ≡ drawn ++ later

-- fewer than three words were drawn
pub record DrawsFew (words later : Option (List (List ℕ))) : Type 0 where
  pub drawn : List (List ℕ)
  pub drew : DrawsAll words later drawn
  pub few : length drawn < 3

-- the one is the other, or goes on from it
abbrev pub GoesOnFrom : List Posed → List Posed → Type 0
GoesOnFrom longer shorter = (later : List Posed) × (longer ≡ later ++ shorter)
