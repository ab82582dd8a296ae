-- A client, from its first request to the end of its input.
use Rattle.std.proofs.Common.{◌≡◌, ℕ, ◌+◌, ◌<◌, ◌≤◌, List, [], ◌++◌, Bool, true, false, cond, ◌&&◌, length, Option, None, Some, refl, sym, subst, ◌∙◌, arith}
use Rattle.std.specs.Io.KnownBytes.{Consumes, IsAtEnd}
use Rattle.std.proofs.KnownBytes.{Consumes-nil}
use Rattle.wire_streams.proofs.StreamLemmas.{Gains-nil}
use Rattle.auth_server.specs.Requests.{Challenge, is_for, is_mail, is_served, needed}
use Rattle.auth_server.specs.Answers.{Knowledge, Posed}
use Rattle.auth_server.specs.Standing.{Standing, Stands}
use Rattle.auth_server.specs.Sessions.{bytes_of}
use Rattle.auth_server.specs.Serving.{Moment, most_input}
use Rattle.auth_server.specs.Notices.{EndsNoted, notices_of}
use Rattle.auth_server.specs.Steps.{EndsBehind, HasAnswered, Incoming, Received}
use Rattle.auth_server.specs.declared.serve.AuthEnd.{AuthEnd}
use Rattle.auth_server.specs.declared.serve.AuthEnd.TheVariants as e
use Rattle.auth_server.specs.declared.log.Notice.{Notice}
use Rattle.wire_streams.specs.Spawning.{Gains as Tells}
use Rattle.auth_server.proofs.ListenLemmas.{Gains-nil as Tells-nil}
use Rattle.auth_server.proofs.DrawLemmas.{none_drawn}

-- before the first request
pub none_answered : (InForce : ℕ → Knowledge → Type 0) (now : Moment) (log : Option (List Notice)) (session : Standing) (incoming : Incoming) → Stands [] session → incoming.at ≡ 0 → HasAnswered InForce InForce now now log log incoming.at session
none_answered InForce now log session incoming stands first = record {
  requests = [];
  since = λ number known force. subst (λ (n : ℕ). InForce n known) (omega arith) force;
  received = record {
    answers = record {
      reads = record { session = tt; read = Consumes-nil now.left; drew = none_drawn now.to_come };
      written = Gains-nil now.holds;
    };
    goes_on = refl;
    stands = stands;
    place = first;
  };
  noted = Tells-nil log;
}

-- an end behind requests that were noted
pub noted_behind : (InForce : ℕ → Knowledge → Type 0) (end : AuthEnd) (before now : Moment) (requests : List Posed) (log later : Option (List Notice)) → EndsBehind InForce end before now requests → Tells log later (notices_of requests) → EndsNoted InForce end before now log later
noted_behind InForce end before now requests log later e t = record { ends = e.ends; noted = subst (λ (judged : List Posed). Tells log later (notices_of judged)) (sym e.judged) t }

-- what is known of an incoming request is known of its parts
pub at_parts : (InForce : ℕ → Knowledge → Type 0) (before now : Moment) (requests : List Posed) (session : Standing) (incoming : Incoming) (at : ℕ) (bytes : List ℕ) → incoming.at ≡ at → incoming.bytes ≡ bytes → Received InForce before now requests session incoming → Received InForce before now requests session (record { at = at; bytes = bytes })
at_parts InForce before now requests session incoming at bytes place is h = record {
  answers = record { reads = record { session = h.answers.reads.session; read = subst (λ (rest : List ℕ). Consumes before.left now.left (bytes_of requests ++ rest)) is h.answers.reads.read; drew = h.answers.reads.drew }; written = h.answers.written };
  goes_on = h.goes_on;
  stands = h.stands;
  place = sym place ∙ h.place;
}

-- the input ended before another request
pub ends_whole : (InForce : ℕ → Knowledge → Type 0) (before now : Moment) (requests : List Posed) (session : Standing) (incoming : Incoming) → Received InForce before now requests session incoming → incoming.bytes ≡ [] → IsAtEnd now.left → incoming.at + length incoming.bytes ≤ most_input → EndsBehind InForce e.End before now requests
ends_whole InForce before now requests session incoming h none at_end few =
    let parts = at_parts InForce before now requests session incoming incoming.at [] refl none h in
    record { ends = record { requests = requests; answers = parts.answers; goes_on = parts.goes_on; at_end = at_end; few = omega (arith, few, parts.place) }; judged = refl }

-- a request has some bytes
some_needed : (served second : Bool) (n : ℕ) → cond served (Some (cond second 173 141)) None ≡ Some n → 0 < n
some_needed true true n h = let is : n ≡ 173 = cc in omega (arith, is)
some_needed true false n h = let is : n ≡ 141 = cc in omega (arith, is)
some_needed false second n h = absurd cc

pub needs_some : (held : Option Challenge) (kind n : ℕ) → needed held kind ≡ Some n → 0 < n
needs_some held kind n h = some_needed (is_served kind) (is_mail kind && is_for kind held) n h
