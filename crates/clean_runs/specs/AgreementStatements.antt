-- What the laws of agreement say of a labelled history of real bytes, each under a name.
use Rattle.std.specs.Prelude.{◌≡◌, ℕ, List, Contains, false, Ok}
use Rattle.symbolic_runs.specs.Forms.{name_text}
use Rattle.symbolic_runs.specs.Trees.{Tree, long_key}
use Rattle.symbolic_runs.specs.Spellings.{Atoms, bytes_of, spelling}
use Rattle.symbolic_runs.specs.Secrets.{is_compromised, is_exposed}
use Rattle.wire_histories.specs.Histories.{History}
use Rattle.wire_histories.specs.Legal.{Setting}
use Rattle.clean_runs.specs.KeyNames.{speakers}
use Rattle.clean_runs.specs.Labels.{Labelling}
use Rattle.clean_runs.specs.Runs.{setting_of}
use Rattle.clean_runs.specs.Agreement.{Acceptance, ClientAcceptance, IsAnswered, IsByTicket, IsClientUnder, IsGrantedTo, IsHost, IsMade, IsMatched, IsUnder, Matches, tables_of, user_of}

-- a key name isn't compromised
abbrev pub IsTrue : History → Setting → Labelling → List ℕ → Type 0
IsTrue history z l name = is_compromised (setting_of z l history) name ≡ false

-- the holder of a server that accepts isn't compromised
abbrev pub IsTrueServer : (history : History) → Setting → Labelling → Acceptance history → Type 0
IsTrueServer history z l a = IsTrue history z l (l.holder a.conv)

-- what the step of an acceptance tells is the user whose field the server accepted
abbrev pub ServersNameTheUser : History → Labelling → Type 0
ServersNameTheUser history l = (a : Acceptance history) → name_text (user_of l a) ≡ a.suid

-- of those who may speak for the user of a grant, by the tables that were in force, no key name is compromised
abbrev pub SpeakersAreTrue : (history : History) {past : History} (z : Setting) (l : Labelling) {number : ℕ}
    → IsMade past z l number → Type 0
SpeakersAreTrue history z l made =
    (name : List ℕ) → Contains (speakers z (tables_of made) made.read.uid) name → IsTrue history z l name

-- a true server's acceptance rests on a grant
abbrev pub ServersAgree : History → Setting → Labelling → Type 0
ServersAgree history z l =
    (a : Acceptance history) → IsTrueServer history z l a → (number : ℕ) × IsGrantedTo z l a number

-- where also those who may speak for the user are true, the acceptance has a match before it
abbrev pub ClientsMatch : History → Setting → Labelling → Type 0
ClientsMatch history z l = (a : Acceptance history) → IsTrueServer history z l a
    → (number : ℕ) (g : IsGrantedTo z l a number) → SpeakersAreTrue history z l g.made
    → IsMatched history a.past z l g.made (user_of l a)

-- each acceptance is by a ticket; two by one ticket are one
abbrev pub EachByATicket : History → Labelling → Type 0
EachByATicket history l = (a : Acceptance history) → (t : Tree) × IsByTicket l a t

abbrev pub OneByATicket : History → Labelling → Type 0
OneByATicket history l =
    (a b : Acceptance history) (t u : Tree) → IsByTicket l a t → IsByTicket l b u → t ≡ u → a.past ≡ b.past

-- a text is the ticket by which a server accepts, in bytes
pub record IsByText {history : History} (atoms : Atoms) (l : Labelling) (a : Acceptance history)
    (text : List ℕ) : Type 0 where
  pub ticket : Tree
  pub by_ticket : IsByTicket l a ticket
  pub spells : spelling atoms ticket ≡ Ok text

-- two acceptances by the same bytes under one key are one
abbrev pub OneByAText : History → Atoms → Labelling → Type 0
OneByAText history atoms l = (a b : Acceptance history) (text : List ℕ)
    → bytes_of atoms (long_key (l.holder a.conv)) ≡ bytes_of atoms (long_key (l.holder b.conv))
    → IsByText atoms l a text → IsByText atoms l b text → a.past ≡ b.past

-- two acceptances of true servers under one grant are one; so are two that one conversation matches
abbrev pub OneUnderAGrant : History → Setting → Labelling → Type 0
OneUnderAGrant history z l = (a b : Acceptance history) → IsTrueServer history z l a → IsTrueServer history z l b
    → (number : ℕ) → IsUnder l a number → IsUnder l b number → a.past ≡ b.past

abbrev pub OneByAMatch : History → Setting → Labelling → Type 0
OneByAMatch history z l = (a b : Acceptance history) → IsTrueServer history z l a → IsTrueServer history z l b
    → (number other : ℕ) (g : IsGrantedTo z l a number) (h : IsGrantedTo z l b other) (conv : List ℕ)
    → Matches history a.past z l g.made (user_of l a) conv → Matches history b.past z l h.made (user_of l b) conv
    → a.past ≡ b.past

-- a client that accepts under a grant that isn't exposed was answered
abbrev pub ClientsAreAnswered : History → Setting → Labelling → Type 0
ClientsAreAnswered history z l = (a : ClientAcceptance history) (number : ℕ) → IsClientUnder l a number
    → is_exposed (setting_of z l history) number ≡ false → IsAnswered history z l a number

-- a client whose holder isn't compromised accepts under a grant for its holder
abbrev pub ClientsAreHosts : History → Setting → Labelling → Type 0
ClientsAreHosts history z l =
    (a : ClientAcceptance history) → IsTrue history z l (l.holder a.conv) → (number : ℕ) × IsHost z l a number
