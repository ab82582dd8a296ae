-- What the laws of agreement say, each under a name.
use Rattle.std.specs.Prelude.{◌≡◌, ℕ, false}
use Rattle.symbolic_runs.specs.Trees.{Tree}
use Rattle.symbolic_runs.specs.Runs.{Run, Setting}
use Rattle.symbolic_runs.specs.Secrets.{is_compromised, is_exposed}
use Rattle.symbolic_runs.specs.Agreement.{Acceptance, ClientAcceptance, IsAnswered, IsByTicket, IsClientUnder, IsGrantedTo, IsHost, IsMatched, IsUnder, Matches, SpeakersAreTrue}

-- the holder of a server that accepts isn't compromised
abbrev pub IsTrueServer : (s : Setting) (run : Run) → Acceptance s run → Type 0
IsTrueServer s run a = is_compromised s (s.holder a.conv) ≡ false

-- a true server's acceptance rests on a grant
abbrev pub ServersAgree : Setting → Run → Type 0
ServersAgree s run = (a : Acceptance s run) → IsTrueServer s run a → (number : ℕ) × IsGrantedTo s run a number

-- a true server's acceptance under a grant whose speakers are true has a match before it
abbrev pub ClientsMatch : Setting → Run → Type 0
ClientsMatch s run = (a : Acceptance s run) → IsTrueServer s run a → (number : ℕ) → IsUnder s run a number
    → SpeakersAreTrue s number → IsMatched s a.past number a.user

-- each acceptance is by a ticket; two by one ticket are one
abbrev pub EachByATicket : Setting → Run → Type 0
EachByATicket s run = (a : Acceptance s run) → (t : Tree) × IsByTicket s run a t

abbrev pub OneByATicket : Setting → Run → Type 0
OneByATicket s run = (a b : Acceptance s run) (t u : Tree) → IsByTicket s run a t → IsByTicket s run b u → t ≡ u
    → a.past ≡ b.past

-- two acceptances of true servers under one grant are one; so are two that one conversation matches
abbrev pub OneUnderAGrant : Setting → Run → Type 0
OneUnderAGrant s run = (a b : Acceptance s run) → IsTrueServer s run a → IsTrueServer s run b → (number : ℕ)
    → IsUnder s run a number → IsUnder s run b number → a.past ≡ b.past

abbrev pub OneByAMatch : Setting → Run → Type 0
OneByAMatch s run = (a b : Acceptance s run) → IsTrueServer s run a → IsTrueServer s run b → (number other conv : ℕ)
    → IsUnder s run a number → IsUnder s run b other → Matches s a.past number a.user conv
    → Matches s b.past other b.user conv → a.past ≡ b.past

-- a client that accepts under a grant that isn't exposed was answered
abbrev pub ClientsAreAnswered : Setting → Run → Type 0
ClientsAreAnswered s run = (a : ClientAcceptance s run) (number : ℕ) → IsClientUnder s run a number
    → is_exposed s number ≡ false → IsAnswered s run a number

-- a client whose holder isn't compromised accepts under a grant for its holder
abbrev pub ClientsAreHosts : Setting → Run → Type 0
ClientsAreHosts s run =
    (a : ClientAcceptance s run) → is_compromised s (s.holder a.conv) ≡ false → (number : ℕ) × IsHost s run a number
