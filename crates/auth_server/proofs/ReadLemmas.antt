-- What the reads of a request leave.
use Rattle.std.proofs.Common.{◌≡◌, ℕ, ◌+◌, ◌<◌, ◌≤◌, List, [], ◌∷◌, ◌++◌, length, Option, None, refl, sym, ap, subst, ◌∙◌, append_assoc, inl, inr, arith}
use Rattle.std.specs.Io.KnownBytes.{Consumes, IsAtEnd, Keeps}
use Rattle.std.proofs.KnownBytes.{Consumes-kept, Consumes-trans}
use Rattle.auth_server.specs.Requests.{Challenge, kind_of, needed}
use Rattle.auth_server.specs.Answers.{Knowledge, Posed, held_in}
use Rattle.auth_server.specs.Standing.{Standing}
use Rattle.auth_server.specs.Sessions.{IsPart, IsUnfinished, bytes_of}
use Rattle.auth_server.specs.Serving.{Answers, Moment, moment, most_input}
use Rattle.auth_server.specs.Steps.{EndsBehind, Incoming, Received}
use Rattle.auth_server.specs.declared.serve.AuthEnd.TheVariants as e

-- one piece, and a byte at its head
only_byte : (piece : List ℕ) → 0 < length piece → length piece ≤ 1 → (byte : ℕ) × (piece ≡ byte ∷ [])
only_byte [] some few = absurd (omega (arith, some))
only_byte (byte ∷ []) some few = (byte, refl)
only_byte (byte ∷ other ∷ piece) some few = absurd (omega (arith, few))

first_byte : (bytes : List ℕ) → 0 < length bytes → (behind : List ℕ) × (bytes ≡ kind_of bytes ∷ behind)
first_byte [] some = absurd (omega (arith, some))
first_byte (byte ∷ behind) some = (behind, refl)

-- more bytes behind those of the requests
pub read_more : (InForce : ℕ → Knowledge → Type 0) (before : Moment) (left later : Option (List ℕ)) (words : Option (List (List ℕ))) (holds : Option (List ℕ)) (requests : List Posed) (rest piece : List ℕ)
    → Answers InForce before (moment left words holds) requests rest [] → Consumes left later piece → Answers InForce before (moment later words holds) requests (rest ++ piece) []
read_more InForce before left later words holds requests rest piece a got = record {
  reads = record {
    session = a.reads.session;
    read = subst (Consumes before.left later) (append_assoc (bytes_of requests) rest piece) (Consumes-trans before.left left later (bytes_of requests ++ rest) piece a.reads.read got);
    drew = a.reads.drew;
  };
  written = a.written;
}

module _ (InForce : ℕ → Knowledge → Type 0) (before : Moment) (left later : Option (List ℕ)) (words : Option (List (List ℕ))) (holds : Option (List ℕ)) (requests : List Posed) (session : Standing) (old new : Incoming) (h : Received InForce before (moment left words holds) requests session old) where
  -- what was read before is unfinished to the definitions too
  unfinished : IsUnfinished session.held old.bytes → IsUnfinished (held_in requests) old.bytes
  unfinished u = subst (λ (now : Option Challenge). IsUnfinished now old.bytes) h.stands.held u

  -- nothing more was read
  kept : Keeps left later → Answers InForce before (moment later words holds) requests old.bytes []
  kept k = record {
    reads = record { session = h.answers.reads.session; read = Consumes-kept before.left left later (bytes_of requests ++ old.bytes) h.answers.reads.read k; drew = h.answers.reads.drew };
    written = h.answers.written;
  }

  -- some bytes that are unfinished are a part
  part_of : (now : Option Challenge) (bytes : List ℕ) → IsUnfinished now bytes → 0 < length bytes → IsPart now bytes
  part_of now bytes u some = elim u [
    | inl none ↦ absurd (let zero : length bytes ≡ 0 = ap length none in omega (arith, some, zero))
    | inr part ↦ part
  ]

  -- the end inside the request
  pub torn : IsUnfinished session.held old.bytes → 0 < length old.bytes → IsAtEnd later → Keeps left later → (at : ℕ) → at ≡ old.at → EndsBehind InForce (e.Torn at) before (moment later words holds) requests
  torn u some at_end k at same = record {
    ends = record {
      requests = requests;
      rest = old.bytes;
      answers = kept k;
      goes_on = h.goes_on;
      inside = part_of (held_in requests) old.bytes (unfinished u) some;
      at_end = at_end;
      place = same ∙ h.place;
    };
    judged = refl;
  }

  -- a read that failed
  pub stopped : IsUnfinished session.held old.bytes → Keeps left later → EndsBehind InForce e.ReadFault before (moment later words holds) requests
  stopped u k = record {
    ends = record { requests = requests; rest = old.bytes; answers = kept k; goes_on = h.goes_on; unfinished = unfinished u };
    judged = refl;
  }

  -- a byte past the limit
  pub flooded : (piece : List ℕ) → 0 < length piece → length piece ≤ 1 → Consumes left later piece → IsUnfinished session.held old.bytes → old.at + length old.bytes ≡ most_input
      → EndsBehind InForce e.Flood before (moment later words holds) requests
  flooded piece some few got u full =
      let byte = only_byte piece some few in
      record {
        ends = record {
          requests = requests;
          rest = old.bytes;
          more = byte.0;
          answers = subst (λ (more : List ℕ). Answers InForce before (moment later words holds) requests (old.bytes ++ more) []) byte.1 (read_more InForce before left later words holds requests old.bytes piece h.answers got);
          goes_on = h.goes_on;
          unfinished = unfinished u;
          full = ap (λ (n : ℕ). n + length old.bytes) (sym h.place) ∙ full;
        };
        judged = refl;
      }

  -- a byte that begins no request
  pub met_unknown : (piece : List ℕ) → new.bytes ≡ old.bytes ++ piece → 0 < length new.bytes → Consumes left later piece → new.at ≡ old.at → old.at + length old.bytes < most_input → needed session.held (kind_of new.bytes) ≡ None
      → EndsBehind InForce (e.UnknownType new.at (kind_of new.bytes)) before (moment later words holds) requests
  met_unknown piece is some got same few unknown =
      let first = first_byte new.bytes some in
      record {
        ends = record {
          requests = requests;
          behind = first.0;
          answers = subst (λ (rest : List ℕ). Answers InForce before (moment later words holds) requests rest []) (sym is ∙ first.1) (read_more InForce before left later words holds requests old.bytes piece h.answers got);
          goes_on = h.goes_on;
          unknown = ap (λ (now : Option Challenge). needed now (kind_of new.bytes)) (sym h.stands.held) ∙ unknown;
          place = same ∙ h.place;
          few = omega (arith, few, same);
        };
        judged = refl;
      }
