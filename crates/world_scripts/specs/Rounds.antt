-- One round of a script that is made of random words: a conversation of each of two nodes, between which somebody
-- carries messages.
use Rattle.std.specs.Prelude.{ℕ, ◌+◌, ◌%◌, List, [], ◌∷◌, ◌++◌, ◌==◌, codes, replicate, if◌then◌else◌}
use Rattle.std.specs.Fmt.{decimal}
use Rattle.world_scripts.specs.Pieces.{Whole, Spelled}
use Rattle.world_scripts.specs.Lines.{ScriptLine, Open, Start, Read, Write, Answer, NoAnswer, AsGive, Close}
use Rattle.world_scripts.specs.declared.round.Kind.{Kind}
use Rattle.world_scripts.specs.declared.round.Kind.TheVariants.{Honest, Replayed, Unanswered, Blank}
use Rattle.world_scripts.specs.declared.round.Drawn.{Drawn}

-- ---- names

-- a letter and a number
abbrev pub name : ℕ → ℕ → List ℕ
name letter round = letter ∷ decimal round

-- the client's conversation, the server's, and the session of the authentication server
abbrev pub client_of : ℕ → List ℕ
client_of round = name 99 round

abbrev pub server_of : ℕ → List ℕ
server_of round = name 115 round

abbrev pub session_of : ℕ → List ℕ
session_of round = name 114 round

-- ---- kinds of rounds

-- what the server is given in the end: the client's own message, that of the round before, none since the client's
-- question isn't answered, zeros
abbrev pub kind_of : ℕ → Kind
kind_of round =
    if round % 4 == 0 then Honest
    else if round % 4 == 1 then Replayed
    else if round % 4 == 2 then Unanswered
    else Blank

-- how many messages a round records: both challenges and the question; the answer and the client's message behind it;
-- the server's last one
abbrev pub recorded : Kind → ℕ
recorded Honest = 6
recorded Replayed = 5
recorded Unanswered = 3
recorded Blank = 5

-- the question of a round whose first message has this number, the authentication server's answer to it, the client's
-- message behind it, and the server's last one
abbrev pub question_of : ℕ → ℕ
question_of first = first + 2

abbrev pub answer_of : ℕ → ℕ
answer_of first = first + 3

abbrev pub proof_of : ℕ → ℕ
proof_of first = first + 4

abbrev pub last_of : ℕ → ℕ
last_of first = first + 5

-- ---- lines

-- what a conversation is given: a message whole
abbrev pub gives : List ℕ → ℕ → ScriptLine
gives conv message = Write conv (Whole (decimal message) ∷ [])

-- how each starts
unfoldable pub client_tuple : List ℕ
client_tuple = codes "proto=p9sk1 role=client"

unfoldable pub server_tuple : List ℕ
server_tuple = codes "proto=p9sk1 role=server"

-- both conversations start
abbrev pub starting : ℕ → Drawn → List ScriptLine
starting round drawn =
    Open (codes "a") (client_of round)
    ∷ Open (codes "b") (server_of round)
    ∷ Start (client_of round) drawn.client client_tuple
    ∷ Start (server_of round) drawn.server server_tuple
    ∷ []

-- their challenges are carried, behind which the client has its question
abbrev pub challenging : ℕ → ℕ → List ScriptLine
challenging round first =
    Read (client_of round)
    ∷ gives (server_of round) first
    ∷ Read (server_of round)
    ∷ gives (client_of round) (first + 1)
    ∷ []

-- the question is answered
abbrev pub answering : ℕ → ℕ → Drawn → List ScriptLine
answering round first drawn =
    AsGive (session_of round) (Whole (decimal (question_of first)) ∷ []) drawn.first drawn.second drawn.third
    ∷ Answer (client_of round) (Whole (decimal (answer_of first)) ∷ [])
    ∷ Read (client_of round)
    ∷ []

-- 85 bytes of zeros, in digits
abbrev pub zeros : List ℕ
zeros = replicate 170 48

-- how it goes on, where the round before had its first message at this number
abbrev pub middle : Kind → ℕ → ℕ → ℕ → Drawn → List ScriptLine
middle Honest round before first drawn =
    answering round first drawn
    ++ gives (server_of round) (proof_of first) ∷ Read (server_of round) ∷ gives (client_of round) (last_of first)
    ∷ []
middle Replayed round before first drawn = answering round first drawn ++ gives (server_of round) (proof_of before) ∷ []
middle Unanswered round before first drawn = NoAnswer (client_of round) ∷ []
middle Blank round before first drawn = answering round first drawn ++ Write (server_of round) (Spelled zeros ∷ []) ∷ []

-- both are closed
abbrev pub ending : ℕ → List ScriptLine
ending round = Close (client_of round) ∷ Close (server_of round) ∷ []

abbrev pub round_lines : ℕ → ℕ → ℕ → Drawn → List ScriptLine
round_lines round before first drawn = starting round drawn
    ++ (challenging round first ++ (middle (kind_of round) round before first drawn ++ ending round))
