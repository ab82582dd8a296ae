-- What a conversation's talk leaves in the record. The talk is the list of all its calls; what each comes to is what
-- its role says (factotum(4) and authsrv(6) of the Plan 9 manual). The form of the record is this project's.
use Rattle.std.specs.Prelude.{ℕ, List, [], ◌∷◌, ◌++◌, Bool, true, false, not, ◌&&◌, Option, Some, None, if◌then◌else◌}
use Rattle.wire_histories.specs.declared.step.Protocol.{Protocol}
use Rattle.wire_histories.specs.declared.step.Protocol.TheVariants as protocol
use Rattle.wire_histories.specs.declared.step.Role.{Role}
use Rattle.wire_histories.specs.declared.step.Role.TheVariants as role
use Rattle.roles.specs.declared.answer.Gave.{Gave}
use Rattle.roles.specs.declared.answer.Gave.TheVariants as g
use Rattle.roles.specs.declared.key.SkKey.{SkKey}
use Rattle.roles.specs.declared.need.Need.{Need}
use Rattle.roles.specs.declared.need.Need.TheVariants.{Nothing, Key, Offers, Pick, Exchange}
use Rattle.roles.specs.declared.need.Outcome.{Outcome}
use Rattle.roles.specs.declared.need.Outcome.TheVariants.{Running, Accepted, Finished, Broken}
use Rattle.roles.specs.declared.stage.Role.{Role as Part}
use Rattle.roles.specs.declared.stage.Role.TheVariants.{Client, Server, Speakfor}
use Rattle.roles.specs.Answers.{is_sought}
use Rattle.roles.specs.Starts.{Start, role_of}
use Rattle.roles.specs.Talks.{Call, give, get, found, heard, unheard, roomless, undone, offered, picked}
use Rattle.talks.specs.Talks.{needs_any}
use Rattle.conv_challenge.specs.declared.stage.Proto.{Proto}
use Rattle.conv_challenge.specs.declared.stage.Proto.TheVariants.{Apop, Cram}
use Rattle.conv_challenge.specs.declared.stage.Side.{Side}
use Rattle.conv_challenge.specs.declared.stage.Side.TheVariants as side
use Rattle.conv_challenge.specs.Starts.{proto_of, side_of}
use Rattle.talks.specs.Protocols.{Protocol as Spoken, P9sk1, P9any, Mail, answers_by, ends_by, is_over, needs_by, protocol_of, puts_by}
use Rattle.talks.specs.Lines.{cause_text}
use Rattle.wire_histories.specs.Histories.{Act, started, gave, took, asked, answered, unanswered, accepted, failed}

-- ---- the start

abbrev pub mail_protocol : Proto → Protocol
mail_protocol Apop = protocol.Apop
mail_protocol Cram = protocol.Cram

abbrev pub protocol_as : Spoken → Proto → Protocol
protocol_as P9sk1 proto = protocol.P9sk1
protocol_as P9any proto = protocol.P9any
protocol_as Mail proto = mail_protocol proto

abbrev pub part_as : Part → Role
part_as Client = role.Client
part_as Server = role.Server
part_as (Speakfor user) = role.Speakfor

abbrev pub side_as : Side → Role
side_as side.Client = role.Client
side_as side.Server = role.Server

abbrev pub role_as : Spoken → Part → Side → Role
role_as P9sk1 part side = part_as part
role_as P9any part side = part_as part
role_as Mail part side = side_as side

-- a start, with the protocol and the role that its template names
abbrev pub started_by : Start → Act
started_by start = started (protocol_as (protocol_of start.template) (proto_of start.template))
    (role_as (protocol_of start.template) (role_of start.template) (side_of start.template)) start.word

-- ---- how a conversation speaks

-- what its calls are answered behind a talk, the bytes that are got by them, what is needed behind a talk, and how it
-- ends
pub record Speaker : Type 0 where
  pub answers : List Call → Call → Gave
  pub puts : List Call → Call → List ℕ
  pub needs : List Call → Need
  pub ends : List Call → Outcome

abbrev pub speaks : Spoken → Start → Speaker
speaks p start = record {
  answers = answers_by p start;
  puts = puts_by p start;
  needs = needs_by p start;
  ends = ends_by p start;
}

abbrev pub speaker : Start → Speaker
speaker start = speaks (protocol_of start.template) start

-- ---- what a call leaves

-- a key, a list of offers or a pick is searched for
abbrev pub seeks : Speaker → List Call → Bool
seeks s talk = is_sought (s.needs talk)

-- the authentication server is asked, and what
abbrev pub is_asked : Need → Bool
is_asked Nothing = false
is_asked (Key template) = false
is_asked (Offers template) = false
is_asked (Pick templates) = false
is_asked (Exchange request shape) = true

abbrev pub asked_now : Need → List Act
asked_now Nothing = []
asked_now (Key template) = []
asked_now (Offers template) = []
asked_now (Pick templates) = []
asked_now (Exchange request shape) = asked request ∷ []

-- an answer to a write with which its bytes were taken: the move was made, or broke the conversation, or the last
-- move was made before
abbrev pub is_taken : Gave → Bool
is_taken g.Ok = true
is_taken g.Wait = true
is_taken (g.Phase word) = false
is_taken (g.TooSmall size) = false
is_taken g.TooLong = false
is_taken (g.Done haveai) = true
is_taken g.BadKey = true
is_taken (g.Refused cause) = true
is_taken g.NoMemory = false

-- an answer to a read with which a message was given
abbrev pub is_given : Gave → Bool
is_given g.Ok = true
is_given g.Wait = false
is_given (g.Phase word) = false
is_given (g.TooSmall size) = false
is_given g.TooLong = false
is_given (g.Done haveai) = false
is_given g.BadKey = false
is_given (g.Refused cause) = false
is_given g.NoMemory = false

-- the request that waits while something is searched for: the start, or a write. It is recorded when that is found, and
-- not at all where the search is in vain
abbrev pub waiting : Speaker → Act → List Call → Act
waiting s first [] = first
waiting s first (give b ∷ before) = if seeks s before then waiting s first before else took b
waiting s first (call ∷ before) = waiting s first before

-- what is found ends the search
abbrev pub if_found : Bool → Bool → Act → List Act
if_found before now act = if before && not now then act ∷ [] else []

-- what a call of a talk leaves of itself. A write comes only where nothing is needed, an answer of the authentication
-- server only where it was asked
abbrev pub done_by : Speaker → Act → List Call → Call → List Act
done_by s first before (give b) =
    if not (needs_any (s.needs before)) && (is_taken (s.answers before (give b)) && not (seeks s (give b ∷ before)))
    then took b ∷ []
    else []
done_by s first before get = if is_given (s.answers before get) then gave (s.puts before get) ∷ [] else []
done_by s first before (heard b) = if is_asked (s.needs before) then answered b ∷ [] else []
done_by s first before unheard = if is_asked (s.needs before) then unanswered ∷ [] else []
done_by s first before roomless = []
done_by s first before undone = []
done_by s first before call = if_found (seeks s before) (seeks s (call ∷ before)) (waiting s first before)

-- it asks the authentication server now, and didn't before
abbrev pub asks_by : Need → Need → List Act
asks_by before now = if is_asked before then [] else asked_now now

-- it has come to its end now, and hadn't before. A mail client that is done accepts nobody
abbrev pub ended_as : Outcome → List Act
ended_as Running = []
ended_as (Accepted info) = accepted info.cuid info.suid ∷ []
ended_as Finished = []
ended_as (Broken cause) = failed (cause_text cause) ∷ []

abbrev pub end_by : Outcome → Outcome → List Act
end_by before now = if is_over before then [] else ended_as now

-- the step of an input stands before the steps that it causes
abbrev pub acts_by : Speaker → Act → List Call → Call → List Act
acts_by s first before call = end_by (s.ends before) (s.ends (call ∷ before))
    ++ (asks_by (s.needs before) (s.needs (call ∷ before)) ++ done_by s first before call)

-- all that the calls of a talk leave behind its first act, the newest first
abbrev pub acts_from : Speaker → Act → List Call → List Act
acts_from s first [] = if seeks s [] then [] else first ∷ []
acts_from s first (call ∷ before) = acts_by s first before call ++ acts_from s first before

abbrev pub talk_acts : Start → List Call → List Act
talk_acts start talk = acts_from (speaker start) (started_by start) talk

-- ---- what met the needs of a talk

abbrev pub meets : Need → Call → Bool
meets (Key template) (found key password) = true
meets (Offers template) (offered list) = true
meets (Pick templates) (picked place) = true
meets need call = false

-- the calls of a talk that met one, the newest first
abbrev pub met_by : Speaker → List Call → List Call
met_by s [] = []
met_by s (call ∷ before) = if meets (s.needs before) call then call ∷ met_by s before else met_by s before

abbrev pub met_in : Start → List Call → List Call
met_in start talk = met_by (speaker start) talk

-- ---- the key of a talk

-- offers are needed
abbrev pub are_wanted : Need → Bool
are_wanted (Offers template) = true
are_wanted need = false

-- a key with its secret, where one was found; it isn't kept where offers are needed behind it, for the sake of which it
-- was found (a server of p9any that had none)
abbrev pub kept_now : Need → Call → Option (SkKey × Option (List ℕ)) → Option (SkKey × Option (List ℕ))
kept_now need (found key secret) before = if are_wanted need then None else Some (key, secret)
kept_now need call before = before

-- the key that a conversation keeps behind its talk: that which met a need last, if it is kept
abbrev pub kept_by : Speaker → List Call → Option (SkKey × Option (List ℕ))
kept_by s [] = None
kept_by s (call ∷ before) =
    if meets (s.needs before) call then kept_now (s.needs (call ∷ before)) call (kept_by s before) else kept_by s before

abbrev pub kept_in : Start → List Call → Option (SkKey × Option (List ℕ))
kept_in start talk = kept_by (speaker start) talk
