-- What a read or a write of rpc does.
use Rattle.std.specs.Prelude.{◌≡◌, ℕ, List, [], ◌∷◌, length, true, not, ◌&&◌, ◌⊎◌, Option, Some, None, Result, Ok, Err, codes}
use Rattle.wire_base.specs.Rules.{first_told}
use Rattle.nine.specs.declared.message.RBody.TheVariants as r
use Rattle.talks.specs.Requests.{meant, request_of}
use Rattle.talks.specs.declared.request.Request.{Request}
use Rattle.talks.specs.declared.request.RpcFault.TheVariants.{TooLong, UnknownVerb}
use Rattle.agent_history.specs.Deeds.{Deed}
use Rattle.agent_history.specs.Replies.{waits_for}
use Rattle.agent_history.specs.Conversations.{conv_of, stands}
use Rattle.agent_history.specs.Requests.{Call, has_answer, is_resting, is_too_long, is_unknown, phase_of, reading_talk, stored, talk_read, waits_enough}
use Rattle.mailboxes.specs.declared.reply.Reply.{Reply}
use Rattle.agent_requests.specs.declared.refused.Refused.{Refused}
use Rattle.agent_requests.specs.declared.refused.Refused.TheVariants as e
use Rattle.agent_requests.specs.declared.refused.Refusal.TheVariants as f
use Rattle.agent_requests.specs.declared.shared.Shared.{Shared}
use Rattle.agent_requests.specs.Sharing.{Shares}
use Rattle.agent_requests.specs.Connections.{Says, Told}

-- ---- reads

-- the tests of a read of rpc that is open for reading
abbrev pub read_refusal : List Deed → ℕ → ℕ → Option (List ℕ)
read_refusal done conn fid = first_told (
    (waits_for done conn fid, codes "rpc busy")
    ∷ (is_resting (phase_of done conn fid), codes "no rpc pending")
    ∷ (not (has_answer (phase_of done conn fid)) && waits_enough done conn, codes "too many waiting")
    ∷ [])

-- the request of a conversation was carried out, and its answer read, or the read waits for it
pub record Answered (done : List Deed) (call : Call) (fid count conv : ℕ) (s : Shared)
    (reply : Option Reply) : Type 0 where
  pub shares : Shares (reading_talk call fid count (Some conv) done) s
  pub said : Says call.tag (talk_read call.word count (Some conv) done) reply

pub record ReadServed (done : List Deed) (call : Call) (fid count : ℕ) (s : Shared)
    (reply : Option Reply) : Type 0 where
  pub shares : Shares (reading_talk call fid count (conv_of done call.conn fid) done) s
  pub said : Says call.tag (talk_read call.word count (conv_of done call.conn fid) done) reply

abbrev pub ReadTold : List Deed → Call → ℕ → ℕ → Shared → Result (Option Reply) Refused → Type 0
ReadTold done call fid count s result = Told (read_refusal done call.conn fid) (ReadServed done call fid count s) result

-- ---- writes

-- the conversation stands, where one is meant
abbrev pub IsOpen : List Deed → Option ℕ → Type 0
IsOpen done None = Unit {0}
IsOpen done (Some conv) = stands done conv ≡ true

-- the tests of a write of rpc that is open for writing
abbrev pub write_refusal : List Deed → ℕ → ℕ → List ℕ → Option (List ℕ)
write_refusal done conn fid content = first_told (
    (not (is_resting (phase_of done conn fid)), codes "rpc busy")
    ∷ (is_too_long (request_of content), codes "rpc too long")
    ∷ (is_unknown (request_of content), codes "unknown rpc verb")
    ∷ [])

pub record WriteServed (done : List Deed) (call : Call) (fid : ℕ) (content : List ℕ) (s : Shared)
    (reply : Option Reply) : Type 0 where
  pub shares : Shares (stored (conv_of done call.conn fid) (request_of content) done) s
  pub said : Says call.tag (Some (r.Write (length content))) reply

abbrev pub WriteTold : List Deed → Call → ℕ → List ℕ → Shared → Result (Option Reply) Refused → Type 0
WriteTold done call fid content s result =
    Told (write_refusal done call.conn fid content) (WriteServed done call fid content s) result

-- what is written is a request, or refused
abbrev pub Requests : Result Request Refused → List ℕ → Type 0
Requests (Ok request) content = request_of content ≡ Ok (meant request)
Requests (Err why) content = ((why ≡ e.For f.RpcTooLong) × (request_of content ≡ Err TooLong))
    ⊎ ((why ≡ e.For f.UnknownRpcVerb) × (request_of content ≡ Err UnknownVerb))
