-- What a client is served whatever words are drawn: of each session that was served there is one of its requests with the
-- same words, as far as both go.
use Rattle.std.proofs.Common.{◌≡◌, ◌⊎◌, ℕ, zero, suc, ◌≤◌, ◌<◌, List, [], ◌∷◌, ◌++◌, Bool, true, false, cond, eqb, leb, ◌+◌, ◌&&◌, length, Option, Some, None, refl, sym, ap, ◌∙◌, append_assoc, append-nil, inl, inr, arith}
use Rattle.std.proofs.lemmas.Bool.{cases_Bool, cases_lt, eqb-true, eq-eqb}
use Rattle.std.specs.Prelude.{Result, Ok, Err}
use Rattle.wire_base.specs.Kinds.{ticket_request}
use Rattle.sealing.specs.declared.fault.FieldFault.{FieldFault}
use Rattle.sealing.specs.declared.request.TicketReq.{TicketReq}
use Rattle.sealing.specs.Request.{request_of}
use Rattle.auth_server.specs.Requests.{Asked, asked_so, is_mail, is_served, kind_of, needed}
use Rattle.auth_server.specs.Answers.{Knowledge, Posed, is_over_in, posed, wrong_by}
use Rattle.auth_server.specs.Sessions.{IsSession, bytes_of, exactly, words_of}
use Rattle.auth_server.specs.Serving.{Answers, EndsSo, IsServable, Moment, moment}
use Rattle.auth_server.specs.declared.serve.AuthEnd.{AuthEnd}
use Rattle.auth_server.specs.declared.serve.AuthEnd.TheVariants as e
use Rattle.auth_server.proofs.CompleteLaws.{served_whole}
use Rattle.auth_program.specs.AnyWords.{ArePosed, IsServableAnyhow, OneIsServable, all_bytes}

-- ---- the words of a session by the number of their request

abbrev words_at : List Posed → ℕ → List (List ℕ)
words_at [] n = [] ∷ [] ∷ [] ∷ []
words_at (p ∷ before) n = cond (eqb n (length before)) p.asked.words (words_at before n)

three_either : (b : Bool) (xs ys : List (List ℕ)) → length xs ≡ 3 → length ys ≡ 3 → length (cond b xs ys) ≡ 3
three_either true xs ys x y = x
three_either false xs ys x y = y

three_at : (known : Knowledge) (session : List Posed) → IsSession (exactly (λ number. known)) session → (n : ℕ) → length (words_at session n) ≡ 3
three_at known [] s n = refl
three_at known (p ∷ before) s n = three_either (eqb n (length before)) p.asked.words (words_at before n) s.0.three (three_at known before s.1 n)

abbrev pose : Knowledge → (ℕ → List (List ℕ)) → List (List ℕ) → List Posed
pose known words [] = []
pose known words (request ∷ older) = posed known (asked_so request (words (length older))) ∷ pose known words older

are_posed : (known : Knowledge) (words : ℕ → List (List ℕ)) → ((n : ℕ) → length (words n) ≡ 3) → (requests : List (List ℕ)) → ArePosed known requests (pose known words requests)
are_posed known words three [] = tt
are_posed known words three (request ∷ older) = (refl, refl, three (length older), are_posed known words three older)

bytes_posed : (known : Knowledge) (words : ℕ → List (List ℕ)) (requests : List (List ℕ)) → bytes_of (pose known words requests) ≡ all_bytes requests
bytes_posed known words [] = refl
bytes_posed known words (request ∷ older) = ap (λ (l : List ℕ). l ++ request) (bytes_posed known words older)

-- the words of the first requests, one behind the other
abbrev flat : (ℕ → List (List ℕ)) → ℕ → List (List ℕ)
flat words zero = []
flat words (suc n) = flat words n ++ words n

words_posed : (known : Knowledge) (words : ℕ → List (List ℕ)) (requests : List (List ℕ)) → words_of (pose known words requests) ≡ flat words (length requests)
words_posed known words [] = refl
words_posed known words (request ∷ older) = ap (λ (l : List (List ℕ)). l ++ words (length older)) (words_posed known words older)

other_number : (n m : ℕ) → n < m → eqb n m ≡ false
other_number n m less = elim (cases_Bool (eqb n m)) [
  | inl t ↦ absurd (let same = eqb-true n m t in omega (arith, same, less))
  | inr f ↦ f
]

flat_before : (p : Posed) (before : List Posed) (n : ℕ) → n ≤ length before → flat (words_at (p ∷ before)) n ≡ flat (words_at before) n
flat_before p before zero less = refl
flat_before p before (suc n) less =
    ap (λ (l : List (List ℕ)). l ++ cond (eqb n (length before)) p.asked.words (words_at before n)) (flat_before p before n (omega (arith, less)))
    ∙ ap (λ (b : Bool). flat (words_at before) n ++ cond b p.asked.words (words_at before n)) (other_number n (length before) (omega (arith, less)))

words_flat : (session : List Posed) → words_of session ≡ flat (words_at session) (length session)
words_flat [] = refl
words_flat (p ∷ before) =
    ap (λ (l : List (List ℕ)). l ++ p.asked.words) (words_flat before ∙ sym (flat_before p before (length before) (omega arith)))
    ∙ ap (λ (b : Bool). flat (words_at (p ∷ before)) (length before) ++ cond b p.asked.words (words_at before (length before))) (sym (eq-eqb (length before) (length before) refl))

flat_more : (words : ℕ → List (List ℕ)) (m n : ℕ) → m ≤ n → (more : List (List ℕ)) × (flat words n ≡ flat words m ++ more)
flat_more words zero zero less = ([], refl)
flat_more words (suc m) zero less = absurd (omega (arith, less))
flat_more words m (suc n) less = elim (cases_Bool (eqb m (suc n))) [
  | inl t ↦ ([], sym (append-nil (flat words (suc n))) ∙ ap (λ (k : ℕ). flat words k ++ []) (sym (eqb-true m (suc n) t)))
  | inr f ↦ (
      let rest = flat_more words m n (not_last m n less f) in
      (rest.0 ++ words n, ap (λ (l : List (List ℕ)). l ++ words n) rest.1 ∙ append_assoc (flat words m) rest.0 (words n)))
]
  where
    not_last : (m n : ℕ) → m ≤ suc n → eqb m (suc n) ≡ false → m ≤ n
    not_last m n less f = elim (cases_lt m (suc n)) [
      | inl lt ↦ omega (arith, lt)
      | inr le ↦ absurd (let same : m ≡ suc n = omega (arith, less, le) in let t : eqb m (suc n) ≡ true = eq-eqb m (suc n) same in let both : true ≡ false = sym t ∙ f in cc)
    ]

-- ---- the session that is told

-- words to come that go on from those of the one session and of the other
record Comes (told session : List Posed) : Type 0 where
  all : List (List ℕ)
  later : List (List ℕ)
  other : List (List ℕ)
  drew : all ≡ words_of session ++ later
  comes : all ≡ words_of told ++ other

module _ (known : Knowledge) (session : List Posed) (requests : List (List ℕ)) where
  abbrev told : List Posed
  told = pose known (words_at session) requests

  words_come : Comes told session
  words_come = elim (cases_lt (length session) (length requests)) [
    | inl lt ↦ (
        let rest = flat_more (words_at session) (length session) (length requests) (omega (arith, lt)) in
        record {
          all = words_of told;
          later = rest.0;
          other = [];
          drew = words_posed known (words_at session) requests ∙ rest.1 ∙ ap (λ (l : List (List ℕ)). l ++ rest.0) (sym (words_flat session));
          comes = sym (append-nil (words_of told));
        })
    | inr le ↦ (
        let rest = flat_more (words_at session) (length requests) (length session) (omega (arith, le)) in
        record {
          all = words_of session;
          later = [];
          other = rest.0;
          drew = sym (append-nil (words_of session));
          comes = words_flat session ∙ rest.1 ∙ ap (λ (l : List (List ℕ)). l ++ rest.0) (sym (words_posed known (words_at session) requests));
        })
  ]

module _ (known : Knowledge) (before now : Moment) (v : IsServableAnyhow known before.left) where
  module _ (session : List Posed) (rest : List ℕ) (a : Answers (exactly (λ number. known)) before now session rest []) where
    abbrev came : Comes (told known session v.requests) session
    came = words_come known session v.requests

    -- the moments as they would be if these words were told
    abbrev first : Moment
    first = moment before.left (Some came.all) before.holds

    abbrev last : Moment
    last = moment now.left (Some came.later) now.holds

    answers_told : Answers (exactly (λ number. known)) first last session rest []
    answers_told = record {
      reads = record {
        session = a.reads.session;
        read = a.reads.read;
        drew = came.drew ∙ ap (λ (l : List (List ℕ)). l ++ came.later) (sym (append-nil (words_of session)));
      };
      written = a.written;
    }

    servable : IsServable known first
    servable =
        let served = v.served (told known session v.requests) (are_posed known (words_at session) (three_at known session a.reads.session) v.requests) in
        let same = bytes_posed known (words_at session) v.requests in
        let few = v.few in
        record {
          requests = told known session v.requests;
          later = came.other;
          session = served.0;
          goes_on = served.1;
          few = rw same few;
          left = v.told ∙ ap Some (sym same);
          to_come = ap Some came.comes;
        }

  pub served_anyhow : (end : AuthEnd) → EndsSo known end before now → (end ≡ e.ReadFault → ⊥) → (end ≡ e.WriteFault → ⊥) → (end ≡ e.WordFault → ⊥) → (end ≡ e.End) ⊎ (end ≡ e.NoMemory)
  served_anyhow e.End h r w d = inl refl
  served_anyhow (e.UnknownType at kind) h r w d =
      served_whole known _ _ (servable h.requests _ h.answers) (e.UnknownType at kind)
      (record { requests = h.requests; behind = h.behind; answers = answers_told h.requests _ h.answers; goes_on = h.goes_on; unknown = h.unknown; place = h.place; few = h.few }) r w d
  served_anyhow (e.Torn at) h r w d =
      served_whole known _ _ (servable h.requests _ h.answers) (e.Torn at)
      (record { requests = h.requests; rest = h.rest; answers = answers_told h.requests _ h.answers; goes_on = h.goes_on; inside = h.inside; at_end = h.at_end; place = h.place }) r w d
  served_anyhow e.TooManyWrong h r w d =
      served_whole known _ _ (servable h.requests _ h.answers) e.TooManyWrong
      (record { requests = h.requests; answers = answers_told h.requests _ h.answers; over = h.over }) r w d
  served_anyhow e.ReadFault h r w d = absurd (r refl)
  served_anyhow e.WriteFault h r w d = absurd (w refl)
  served_anyhow e.WordFault h r w d = absurd (d refl)
  served_anyhow e.Flood h r w d =
      served_whole known _ _ (servable h.requests _ h.answers) e.Flood
      (record { requests = h.requests; rest = h.rest; more = h.more; answers = answers_told h.requests _ h.answers; goes_on = h.goes_on; unfinished = h.unfinished; full = h.full }) r w d
  served_anyhow e.NoMemory h r w d = inr refl

-- ---- one request

no_wrong : (known : Knowledge) (asked : Asked) (came : Result TicketReq FieldFault) → wrong_by known asked None came ≡ 0
no_wrong known asked (Err fault) = refl
no_wrong known asked (Ok r) = either (eqb r.kind ticket_request) 0
  where
    either : (b : Bool) (n : ℕ) → cond b n n ≡ n
    either true n = refl
    either false n = refl

needs_first : (kind : ℕ) → is_served kind ≡ true → needed None kind ≡ Some 141
needs_first kind served = rw served (ap Some (never (is_mail kind) 173 141))
  where
    never : (b : Bool) (n m : ℕ) → cond (b && false) n m ≡ m
    never true n m = refl
    never false n m = refl

pub one_is_servable : OneIsServable
one_is_servable known request served whole = record {
  requests = request ∷ [];
  served = alone;
  few = omega (arith, whole);
  told = refl;
}
  where
    alone : (posed : List Posed) → ArePosed known (request ∷ []) posed → IsSession (exactly (λ number. known)) posed × (is_over_in posed ≡ false)
    alone [] h = absurd h
    alone (p ∷ q ∷ before) (k, r, three, rest) = absurd rest
    alone (p ∷ []) (k, r, three, rest) = (
      (
        record {
          in_force = k;
          goes_on = refl;
          whole = rw r (needs_first (kind_of request) served ∙ ap Some (sym whole));
          three = three;
        },
        tt,
      ),
      ap (λ (n : ℕ). leb 5 (0 + n)) (no_wrong p.known p.asked (request_of p.asked.request)),
    )
