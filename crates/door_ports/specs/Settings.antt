-- What a port asks an agent for its calls, and what the calls are answered by what the agent replies. The definitions
-- are this project's.
use Rattle.std.specs.Prelude.{◌≡◌, ℕ, zero, suc, ◌+◌, List, [], ◌∷◌, ◌++◌, filter, find, Bool, true, false, not, ◌==◌, ◌⊎◌, is_some, codes, if◌then◌else◌}
use Rattle.doors.specs.declared.port.PortOpen.{PortOpen}
use Rattle.doors.specs.declared.port.PortOpen.TheVariants as o
use Rattle.doors.specs.declared.port.PortSaid.{PortSaid}
use Rattle.doors.specs.declared.port.PortSaid.TheVariants as s
use Rattle.doors.specs.Calls.{PortCall, Opened, Asked, Closed, is_start}
use Rattle.door_ports.specs.declared.reply.Reply.{Reply}
use Rattle.door_ports.specs.declared.reply.Reply.TheVariants.{Gone, Refused, Read}
use Rattle.door_ports.specs.Exchanges.{Exchange, IsClunk, IsPreparing, IsTold, IsTry, no_word}

-- what stands at a moment: the number of the port's connection, whether that was made ready, the conversations that
-- are open, and the word that the port was told last
pub record Setting : Type 0 where
  pub conn : ℕ
  pub ready : Bool
  pub convs : List ℕ
  pub word : List ℕ

-- where nothing was asked yet
abbrev pub unasked : ℕ → Setting
unasked conn = record { conn = conn; ready = false; convs = []; word = no_word }

-- where a word was told
abbrev pub with_word : List ℕ → Setting → Setting
with_word word s = record { conn = s.conn; ready = s.ready; convs = s.convs; word = word }

-- where the connection is ready
abbrev pub readied : Setting → Setting
readied s = record { conn = s.conn; ready = true; convs = s.convs; word = s.word }

-- ---- conversations: each has the number of its fid

abbrev pub holds : ℕ → List ℕ → Bool
holds conv convs = is_some (find (λ c. c == conv) convs)

-- the least number from this on that none has, of so many
abbrev pub least_from : ℕ → ℕ → List ℕ → ℕ
least_from zero at convs = at
least_from (suc more) at convs = if holds at convs then least_from more (at + 1) convs else at

-- a connection holds 256 fids at most, of which 0 and 1 open no conversation
unfoldable pub next_conv : List ℕ → ℕ
next_conv convs = least_from 256 2 convs

abbrev pub with_conv : ℕ → Setting → Setting
with_conv conv s = record { conn = s.conn; ready = true; convs = s.convs ++ conv ∷ []; word = s.word }

abbrev pub all_but : ℕ → List ℕ → List ℕ
all_but conv convs = filter (λ c. not (c == conv)) convs

abbrev pub without_conv : ℕ → Setting → Setting
without_conv conv s = record { conn = s.conn; ready = s.ready; convs = all_but conv s.convs; word = s.word }

-- behind an open, the connection is ready
abbrev pub after_open : PortOpen → Setting → Setting
after_open (o.Open conv) s = with_conv conv s
after_open answer s = readied s

-- behind a call, and behind some
abbrev pub after_call : PortCall → Setting → Setting
after_call (Opened answer) s = after_open answer s
after_call (Asked conv request came answer) s = s
after_call (Closed conv) s = without_conv conv s

abbrev pub after : Setting → List PortCall → Setting
after s [] = s
after s (call ∷ calls) = after_call call (after s calls)

-- ---- what is asked, and what a call is answered by it

-- one behind the other
pub record Behind (first second : List Exchange → Type 0) (more : List Exchange) : Type 0 where
  pub earlier : List Exchange
  pub later : List Exchange
  pub parts : more ≡ later ++ earlier
  pub before : first earlier
  pub behind : second later

-- the connection is made ready by the first open
abbrev pub IsReadying : Bool → ℕ → List Exchange → Type 0
IsReadying true conn more = more ≡ []
IsReadying false conn more = IsPreparing conn more

-- an open, by whether the agent let it
abbrev pub IsOpenedSo : ℕ → ℕ → PortOpen → List Exchange → Type 0
IsOpenedSo conn fid (o.Open conv) more = (conv ≡ fid) × IsTry conn fid true more
IsOpenedSo conn fid o.Refused more = IsTry conn fid false more
IsOpenedSo conn fid o.NoMemory more = ⊥

-- a request, by what the agent replied last: the answer that was read, or why the write or the read was refused
abbrev pub IsSaidSo : Reply → PortSaid → List ℕ → Type 0
IsSaidSo (Read content) s.Said answer = answer ≡ content
IsSaidSo (Refused text) s.Said answer = answer ≡ text
IsSaidSo Gone s.Gone answer = Unit {0}
IsSaidSo reply came answer = ⊥

-- of a conversation that isn't open, the agent isn't asked
abbrev pub unknown_fid : Reply
unknown_fid = Refused (codes "unknown fid")

pub record IsToldSo (conn fid : ℕ) (request word : List ℕ) (came : PortSaid) (answer : List ℕ)
    (more : List Exchange) : Type 0 where
  pub reply : Reply
  pub told : IsTold conn fid request word reply more
  pub said : IsSaidSo reply came answer

abbrev pub IsAskedSo : Bool → ℕ → ℕ → List ℕ → List ℕ → PortSaid → List ℕ → List Exchange → Type 0
IsAskedSo true conn conv request word came answer more = IsToldSo conn conv request word came answer more
IsAskedSo false conn conv request word came answer more = (more ≡ []) × IsSaidSo unknown_fid came answer

-- a close
abbrev pub IsClosedSo : Bool → ℕ → ℕ → List Exchange → Type 0
IsClosedSo true conn conv more = IsClunk conn conv more
IsClosedSo false conn conv more = more ≡ []

-- a start is carried out with the word, and any other request with none
abbrev pub word_for : Setting → List ℕ → List ℕ
word_for s request = if is_start request then s.word else no_word

-- what is asked for one call, and what that is answered
abbrev pub IsCall : Setting → PortCall → List Exchange → Type 0
IsCall s (Opened answer) more =
    Behind (IsReadying s.ready s.conn) (IsOpenedSo s.conn (next_conv s.convs) answer) more
IsCall s (Asked conv request came answer) more =
    IsAskedSo (holds conv s.convs) s.conn conv request (word_for s request) came answer more
IsCall s (Closed conv) more = IsClosedSo (holds conv s.convs) s.conn conv more

-- what is asked for some calls, each answered by that
abbrev pub AllAreMade : Setting → List PortCall → List Exchange → Type 0
AllAreMade s [] more = more ≡ []
AllAreMade s (call ∷ calls) more = Behind (AllAreMade s calls) (IsCall (after s calls) call) more

-- a call that finds no memory is told so, but for a close
abbrev pub FindsNoMemory : PortCall → Type 0
FindsNoMemory (Opened answer) = answer ≡ o.NoMemory
FindsNoMemory (Asked conv request came answer) = came ≡ s.NoMemory
FindsNoMemory (Closed conv) = Unit {0}

-- each call is answered so, up to one that found no memory: from there on none finds any. What that one asked isn't
-- among the exchanges
abbrev pub AreMade : Setting → List PortCall → List Exchange → Type 0
AreMade s [] more = more ≡ []
AreMade s (call ∷ calls) more =
    AllAreMade s (call ∷ calls) more ⊎ (FindsNoMemory call × AreMade s calls more)
