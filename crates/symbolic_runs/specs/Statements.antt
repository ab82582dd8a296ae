-- What the laws say, each under a name.
use Rattle.std.specs.Prelude.{◌≡◌, ℕ, List, ◌++◌, length, true, Some}
use Rattle.std.specs.List.{slice_get}
use Rattle.symbolic_runs.specs.declared.kind.MacKind.{MacKind}
use Rattle.symbolic_runs.specs.Trees.{Tree, seal, digest}
use Rattle.symbolic_runs.specs.Derivations.{Derives}
use Rattle.symbolic_runs.specs.Forms.{AreFields, Fields, authenticator, client_message, mail_challenge, request, ticket}
use Rattle.symbolic_runs.specs.Moves.{AreNames, Move, Own, Role, Row, accepts}
use Rattle.symbolic_runs.specs.Gifts.{is_gift, next_gift}
use Rattle.symbolic_runs.specs.Sessions.{Deed, got, gives_vouch}
use Rattle.symbolic_runs.specs.Runs.{Event, IsSymbolicRun, Run, Setting, known, moves, serves, started, starts}
use Rattle.symbolic_runs.specs.Places.{ChallengedIn, InTurn, Stands, StartsIn, answers_to, turn}
use Rattle.symbolic_runs.specs.Secrets.{Guarded, is_secret}
use Rattle.symbolic_runs.specs.Origins.{Digests, Origin, Seals}
use Rattle.symbolic_runs.specs.Logins.{Login, MailLogin, mail_login, mail_setting, p9any_login, p9sk1_login, p9sk1_setting}

-- it is so of every symbolic run
abbrev pub OfEveryRun : (Setting → Run → Type 0) → Type 0
OfEveryRun P = (s : Setting) (run : Run) → IsSymbolicRun s run → P s run

-- at each place, no uncompromised secret follows from what an attacker knows there
abbrev pub KeepsSecrets : Setting → Run → Type 0
KeepsSecrets s run = (later past : Run) → run ≡ later ++ past → (t : Tree) → is_secret s t ≡ true
    → Derives (known s past) t → ⊥

-- each of these trees is so
abbrev pub OfEach : (Tree → Type 0) → List Tree → Type 0
OfEach P terms = (index : ℕ) (t : Tree) → slice_get terms index ≡ Some t → P t

abbrev pub GuardedIsClosed : Setting → List Tree → Type 0
GuardedIsClosed s terms = OfEach (Guarded s) terms → (t : Tree) → Derives terms t → Guarded s t

abbrev pub FollowsFromMore : List Tree → List Tree → Type 0
FollowsFromMore less more = OfEach (Derives more) less → (t : Tree) → Derives less t → Derives more t

-- each seal that an attacker can have, under a key that may not be known, was made by a row; each digest likewise
abbrev pub SealsAreMade : Setting → Run → Type 0
SealsAreMade s run = (key body : Tree) → Derives (known s run) (seal key body) → (Guarded s key → ⊥)
    → Origin (Seals s) run (seal key body)

abbrev pub DigestsAreMade : Setting → Run → Type 0
DigestsAreMade s run = (kind : MacKind) (secret text : Tree) → Derives (known s run) (digest kind secret text)
    → (Guarded s secret → ⊥) → Origin (Digests s) run (digest kind secret text)

abbrev pub PartsAreRuns : Setting → Run → Type 0
PartsAreRuns s run = (later past : Run) → run ≡ later ++ past → IsSymbolicRun s past

abbrev pub StaysKnown : Setting → Run → Type 0
StaysKnown s run = (later past : Run) → run ≡ later ++ past → (t : Tree) → Derives (known s past) t
    → Derives (known s run) t

-- each move comes in a turn of its kind
abbrev pub MovesInTurn : Setting → Run → Type 0
MovesInTurn s run = (past : Run) (conv : ℕ) (move : Move) → Stands run past (moves conv move)
    → InTurn (s.role conv) (turn conv past) move

-- two places where these stand are one: moves of a conversation in one turn, two acceptances of it, starts with one
-- number, requests with one number, answers to one request, vouches for one challenge
abbrev pub TurnsOnce : Run → Type 0
TurnsOnce run = (past other : Run) (conv : ℕ) (move again : Move) → Stands run past (moves conv move)
    → Stands run other (moves conv again) → turn conv past ≡ turn conv other → past ≡ other

abbrev pub AcceptsOnce : Setting → Run → Type 0
AcceptsOnce s run = (past other : Run) (conv : ℕ) (user again : List ℕ) → Stands run past (moves conv (accepts user))
    → Stands run other (moves conv (accepts again)) → past ≡ other

abbrev pub StartsOnce : Run → Type 0
StartsOnce run = (past other : Run) → Stands run past starts → Stands run other starts → started past ≡ started other
    → past ≡ other

abbrev pub RequestsOnce : Setting → Run → Type 0
RequestsOnce s run = (past other : Run) (session again number : ℕ) (t u : Tree)
    → Stands run past (serves session (got number t)) → Stands run other (serves again (got number u)) → past ≡ other

abbrev pub AnswersOnce : Setting → Run → Type 0
AnswersOnce s run = (past other : Run) (session again number : ℕ) (deed done : Deed)
    → Stands run past (serves session deed) → Stands run other (serves again done) → answers_to deed ≡ Some number
    → answers_to done ≡ Some number → past ≡ other

abbrev pub VouchesOnce : Setting → Run → Type 0
VouchesOnce s run = (past other : Run) (session again : ℕ) (kind same : MacKind) (number later first : ℕ)
    → Stands run past (serves session (gives_vouch kind number first))
    → Stands run other (serves again (gives_vouch same later first)) → past ≡ other

-- a vouch stands in the session that gave the challenge; a move behind the start with its conversation's number
abbrev pub VouchesAtHome : Setting → Run → Type 0
VouchesAtHome s run = (past : Run) (session : ℕ) (kind : MacKind) (number first : ℕ)
    → Stands run past (serves session (gives_vouch kind number first)) → ChallengedIn past session kind first

abbrev pub MovesBehindStarts : Setting → Run → Type 0
MovesBehindStarts s run = (past : Run) (conv : ℕ) (move : Move) → Stands run past (moves conv move) → StartsIn past conv

abbrev pub OneEvent : Run → Type 0
OneEvent run = (past : Run) (event other : Event) → Stands run past event → Stands run past other → event ≡ other

-- equal messages have equal parts
abbrev pub RequestParts : Type 0
RequestParts = (kind other : List ℕ) (f g : Fields) (x y : Tree) → request kind f x ≡ request other g y
    → (kind ≡ other) × (f ≡ g) × (x ≡ y)

abbrev pub TicketParts : Type 0
TicketParts = (number other : List ℕ) (x y : Tree) (cuid cuid' suid suid' : List ℕ) (k l : Tree)
    → ticket number x cuid suid k ≡ ticket other y cuid' suid' l
    → (number ≡ other) × (x ≡ y) × (cuid ≡ cuid') × (suid ≡ suid') × (k ≡ l)

abbrev pub AuthenticatorParts : Type 0
AuthenticatorParts = (number other : List ℕ) (x y : Tree) → authenticator number x ≡ authenticator other y
    → (number ≡ other) × (x ≡ y)

abbrev pub PairParts : (Tree → Tree → Tree) → Type 0
PairParts form = (a b c d : Tree) → form a c ≡ form b d → (a ≡ b) × (c ≡ d)

abbrev pub ClientMessageParts : Type 0
ClientMessageParts = (h i k l x y : Tree) → client_message h k x ≡ client_message i l y → (h ≡ i) × (k ≡ l) × (x ≡ y)

abbrev pub ChallengeParts : Type 0
ChallengeParts = (domain other : List ℕ) (m n : ℕ) → mail_challenge domain m ≡ mail_challenge other n
    → (domain ≡ other) × (m ≡ n)

-- each row that gives or asks is computed; whatever is computed is a row
abbrev pub GiftsAreComputed : Type 0
GiftsAreComputed = (own : Own) (role : Role) (before : List Move) (move : Move) → Row own role before move
    → is_gift move ≡ true → (names : Fields) × (next_gift own role before names ≡ Some move)

abbrev pub ComputedAreAllowed : Type 0
ComputedAreAllowed = (own : Own) (role : Role) (before : List Move) (names : Fields) (move : Move)
    → next_gift own role before names ≡ Some move → Row own role before move

-- what is put into a login has the lengths of its fields
pub record IsLogin (login : Login) : Type 0 where
  pub offered : AreFields login.offered
  pub asked : AreFields login.asked
  pub names : AreNames login.cuid login.suid

pub record IsMailLogin (login : MailLogin) : Type 0 where
  pub first : AreFields login.first
  pub second : AreFields login.second
  pub names : AreNames login.second.uid login.second.uid
  pub head : length login.head ≡ 6

-- the login, written out, is a run; with a choice of the protocol before it, whatever the network makes of offers and
-- choice
abbrev pub IsP9sk1Run : Login → Type 0
IsP9sk1Run login = IsSymbolicRun (p9sk1_setting login) (p9sk1_login login)

abbrev pub IsP9anyRun : Login → Type 0
IsP9anyRun login = (offers heard choice taken : List ℕ)
    → IsSymbolicRun (p9sk1_setting login) (p9any_login login offers heard choice taken)

abbrev pub IsMailRun : MacKind → MailLogin → Type 0
IsMailRun kind login = IsSymbolicRun (mail_setting kind login) (mail_login kind login)
