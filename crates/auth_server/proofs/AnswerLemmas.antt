-- A request that is whole and answered, and where its answering stops.
use Rattle.std.proofs.Common.{◌≡◌, ◌↔◌, ℕ, suc, ◌+◌, ◌<◌, List, [], ◌∷◌, ◌++◌, Bool, true, false, length, Option, Some, refl, sym, ap, subst, ◌∙◌, append_assoc, append-nil, length-append, arith}
use Rattle.std.specs.Io.KnownBytes.{Consumes}
use Rattle.std.proofs.lemmas.Bool.{leb-false}
use Rattle.wire_streams.specs.Streams.{Gains}
use Rattle.wire_streams.specs.Whole.{GainsFront}
use Rattle.wire_streams.proofs.StreamLemmas.{Gains-trans}
use Rattle.auth_server.specs.declared.session.AsStep.{AsStep}
use Rattle.auth_server.specs.declared.session.AsStep.TheVariants.{Replied, TooManyWrong}
use Rattle.auth_server.specs.Requests.{Challenge, asked_so, kind_of, needed}
use Rattle.auth_server.specs.Answers.{Knowledge, Posed, answer_in, held_in, is_over_in, most_wrong, posed, wrong_in}
use Rattle.auth_server.specs.Standing.{Standing, Stands}
use Rattle.auth_server.specs.Sessions.{DrawsAll, DrawsFew, answers_of, bytes_of, words_of}
use Rattle.auth_server.specs.Serving.{Answers, Moment, Reads, moment}
use Rattle.auth_server.specs.Notices.{notice_of, notices_of}
use Rattle.auth_server.specs.Steps.{EndsBehind, HasAnswered, IsSince, Received}
use Rattle.auth_server.specs.declared.serve.AuthEnd.TheVariants as e
use Rattle.auth_server.specs.declared.log.Notice.{Notice}
use Rattle.sealing.specs.Request.{request_of}
use Rattle.wire_streams.specs.Spawning.{Gains as Tells}
use Rattle.auth_server.proofs.ListenLemmas.{Gains-trans as Tells-trans}
use Rattle.auth_server.proofs.DrawLemmas.{drawn_more}

-- a session that hasn't come to its end has few wrong answers
pub few_wrong : (requests : List Posed) (session : Standing) → is_over_in requests ≡ false → Stands requests session → session.wrong < most_wrong
few_wrong requests session h s =
    let few : wrong_in requests < most_wrong = leb-false most_wrong (wrong_in requests) h in
    omega (arith, few, s.wrong)

-- part of what a sink gains behind what it has gained
front_more : (a b c : Option (List ℕ)) (some piece : List ℕ) → Gains a b some → GainsFront b c piece → GainsFront a c (some ++ piece)
front_more a b c some piece p q = record {
  front = some ++ q.front;
  rest = q.rest;
  parts = ap (λ (l : List ℕ). some ++ l) q.parts ∙ sym (append_assoc some q.front q.rest);
  gained = Gains-trans a b c some q.front p q.gained;
  missing = q.missing;
}

module _ (InForce : ℕ → Knowledge → Type 0) (before : Moment) (left : Option (List ℕ)) (words later : Option (List (List ℕ))) (holds : Option (List ℕ)) (at : ℕ) (requests : List Posed) (session : Standing) (request : List ℕ)
    (h : Received InForce before (moment left words holds) requests session (record { at = at; bytes = request }))
    (whole : needed session.held (kind_of request) ≡ Some (length request)) where
  -- the length is the one that is needed after the requests before
  needed_so : needed (held_in requests) (kind_of request) ≡ Some (length request)
  needed_so = ap (λ (now : Option Challenge). needed now (kind_of request)) (sym h.stands.held) ∙ whole

  drew_more : (drawn : List (List ℕ)) → DrawsAll words later drawn → DrawsAll before.to_come later (words_of requests ++ drawn)
  drew_more drawn d = drawn_more before.to_come words later (words_of requests) drawn (subst (DrawsAll before.to_come words) (append-nil (words_of requests)) h.answers.reads.drew) d

  -- no words for it
  pub lacks_words : DrawsFew words later → EndsBehind InForce e.WordFault before (moment left later holds) requests
  lacks_words few = record {
    ends = record {
      requests = requests;
      request = request;
      drawn = few.drawn;
      answers = record {
        reads = record { session = h.answers.reads.session; read = h.answers.reads.read; drew = drew_more few.drawn few.drew };
        written = h.answers.written;
      };
      goes_on = h.goes_on;
      whole = needed_so;
      few = few.few;
    };
    judged = refl;
  }

  -- no memory for its answer
  pub lacks_memory : (drawn : List (List ℕ)) → length drawn ≡ 3 → DrawsAll words later drawn → EndsBehind InForce e.NoMemory before (moment left later holds) requests
  lacks_memory drawn three d = record {
    ends = record {
      requests = requests;
      request = request;
      drawn = drawn;
      answers = record {
        reads = record { session = h.answers.reads.session; read = h.answers.reads.read; drew = drew_more drawn d };
        written = h.answers.written;
      };
      goes_on = h.goes_on;
      whole = needed_so;
      three = three;
    };
    judged = refl;
  }

  module _ (known : Knowledge) (force : InForce (length requests) known) (drawn : List (List ℕ)) (three : length drawn ≡ 3) (d : DrawsAll words later drawn) where
    -- it was read, and its words were drawn
    reads_it : (now : Option (List ℕ)) → Reads InForce before (moment left later now) (posed known (asked_so request drawn) ∷ requests) [] []
    reads_it now = record {
      session = (record { in_force = force; goes_on = h.goes_on; whole = needed_so; three = three }, h.answers.reads.session);
      read = subst (Consumes before.left left) (sym (append-nil (bytes_of requests ++ request))) h.answers.reads.read;
      drew = subst (DrawsAll before.to_come later) (sym (append-nil (words_of requests ++ drawn))) (drew_more drawn d);
    }

    -- its answer was written in part
    pub answers_front : (now : Option (List ℕ)) (piece : List ℕ) → piece ≡ answer_in requests (posed known (asked_so request drawn)) → GainsFront holds now piece → EndsBehind InForce e.WriteFault before (moment left later now) (posed known (asked_so request drawn) ∷ requests)
    answers_front now piece is part = record {
      ends = record {
        requests = posed known (asked_so request drawn) ∷ requests;
        reads = reads_it now;
        written = subst (λ (text : List ℕ). GainsFront before.holds now (answers_of requests ++ text)) is (front_more before.holds holds now (answers_of requests) piece h.answers.written part);
      };
      judged = refl;
    }

    -- its answer was written
    answers_it : (now : Option (List ℕ)) (piece : List ℕ) → piece ≡ answer_in requests (posed known (asked_so request drawn)) → Gains holds now piece → Answers InForce before (moment left later now) (posed known (asked_so request drawn) ∷ requests) [] []
    answers_it now piece is gained = record {
      reads = reads_it now;
      written = subst (λ (text : List ℕ). Gains before.holds now (answers_of requests ++ text)) is (Gains-trans before.holds holds now (answers_of requests) piece h.answers.written gained);
    }

    pub ends_wrong : (now : Option (List ℕ)) (piece : List ℕ) → piece ≡ answer_in requests (posed known (asked_so request drawn)) → Gains holds now piece → is_over_in (posed known (asked_so request drawn) ∷ requests) ≡ true → EndsBehind InForce e.TooManyWrong before (moment left later now) (posed known (asked_so request drawn) ∷ requests)
    ends_wrong now piece is gained over = record { ends = record { requests = posed known (asked_so request drawn) ∷ requests; answers = answers_it now piece is gained; over = over }; judged = refl }

    pub has_answered : (Later : ℕ → Knowledge → Type 0) → IsSince InForce Later (length requests + 1) → (now : Option (List ℕ)) (piece : List ℕ) (standing : Standing) (log noted : Option (List Notice)) → piece ≡ answer_in requests (posed known (asked_so request drawn)) → Gains holds now piece → is_over_in (posed known (asked_so request drawn) ∷ requests) ≡ false → Stands (posed known (asked_so request drawn) ∷ requests) standing
        → Tells log noted (notices_of (posed known (asked_so request drawn) ∷ requests)) → HasAnswered InForce Later before (moment left later now) log noted (at + length request) standing
    has_answered Later since now piece standing log noted is gained goes_on stands tells = record {
      requests = posed known (asked_so request drawn) ∷ requests;
      since = λ number at force. subst (λ (n : ℕ). InForce n at) (omega arith) (since number at force);
      received = record {
        answers = answers_it now piece is gained;
        goes_on = goes_on;
        stands = stands;
        place = ap (λ (n : ℕ). n + length request) h.place ∙ sym (length-append (bytes_of requests) request);
      };
      noted = tells;
    }

-- the tables that are in force at the request behind so many
pub force_next : (InForce Old : ℕ → Knowledge → Type 0) (count : ℕ) (known now : Knowledge) → IsSince InForce Old count → Old 0 known → now ≡ known → InForce count now
force_next InForce Old count known now since next is = subst (InForce count) (sym is) (subst (λ (n : ℕ). InForce n known) (omega arith) (since 0 known next))

-- and those that may be in force behind it
pub since_next : (InForce Old New : ℕ → Knowledge → Type 0) (count : ℕ) → IsSince InForce Old count → ((number : ℕ) (known : Knowledge) → New number known → Old (suc number) known) → IsSince InForce New (count + 1)
since_next InForce Old New count since later = λ number known force. subst (λ (n : ℕ). InForce n known) (omega arith) (since (suc number) known (later number known force))

-- what is noted of the requests before, and of one more
pub noted_more : (known : Knowledge) (requests : List Posed) (session : Standing) (request : List ℕ) (drawn : List (List ℕ)) (log now later : Option (List Notice)) (notice : Notice)
    → Stands requests session → notice ≡ notice_of known (asked_so request drawn) session.held (request_of request)
    → Tells log now (notices_of requests) → Tells now later (notice ∷ []) → Tells log later (notices_of (posed known (asked_so request drawn) ∷ requests))
noted_more known requests session request drawn log now later notice s is before one =
    let so = is ∙ ap (λ (held : Option Challenge). notice_of known (asked_so request drawn) held (request_of request)) s.held in
    Tells-trans log now later (notices_of requests) _ before (subst (λ (n : Notice). Tells now later (n ∷ [])) so one)

-- what a step answers tells whether the session goes on
pub replied : (step : AsStep) (b : Bool) → step ≡ Replied → (step ≡ TooManyWrong) ↔ (b ≡ true) → b ≡ false
replied step true is e = absurd (let s : Replied ≡ TooManyWrong = sym is ∙ e.1 refl in cc)
replied step false is e = refl
