-- A session, from its first byte to its end.
use Rattle.std.proofs.Common.{◌≡◌, ◌≢◌, ◌∙◌, inl, inr, ℕ, ◌+◌, ◌*◌, ◌<◌, ◌==◌, List, [], ◌∷◌, ◌++◌, false, length, Option, Result, Ok, Err, refl, sym, ap, subst, append_assoc, append-nil, arith}
use Rattle.std.specs.Prelude.{OnErr, OnOk, ⊤}
use Rattle.std.specs.Io.KnownBytes.{Consumes}
use Rattle.std.proofs.KnownBytes.{Consumes-nil, Consumes-trans}
use Rattle.std.proofs.lemmas.Bool.{ne_eqb}
use Rattle.wire_base.specs.Kinds.{answer_ok, password_request}
use Rattle.wire_streams.specs.Spawning.{Gains as Notes}
use Rattle.wire_streams.specs.Streams.{Gains}
use Rattle.wire_streams.specs.Whole.{GainsFront}
use Rattle.wire_streams.proofs.StreamLemmas.{Gains-nil, Gains-trans}
use Rattle.wire_streams.proofs.AddLemmas.{Gains-nil as Notes-nil, Gains-trans as Notes-trans}
use Rattle.auth_tables.specs.Keys.{KeyLine}
use Rattle.auth_tables.specs.Printing.{table_text, with_password}
use Rattle.auth_server.specs.Sessions.{DrawsAll}
use Rattle.auth_server.proofs.DrawLemmas.{none_drawn}
use Rattle.pass_program.specs.Changes.{judged, most_refusals, refused, session_key, ticket_answer}
use Rattle.pass_program.specs.Sessions.{Asked, GoesOn, IsAsked, answers_of, bytes_of, message_bytes, messages_of, notes_of, refusals_of, request_bytes}
use Rattle.pass_program.specs.Changing.{Changes, Moment, Moves, SessionEnds, Talked, moment, new_table}
use Rattle.pass_program.specs.Steps.{AnswerEnds, DrawsNotBoth, Hears, IsAnswered, IsRequested, LacksSo, Served, at_left, lack_at}
use Rattle.pass_program.specs.declared.fill.Lack.{Lack}
use Rattle.pass_program.specs.declared.fill.Lack.TheVariants.{Ended, Failed}
use Rattle.pass_program.specs.declared.refusal.Event.{Event}
use Rattle.pass_program.specs.declared.refusal.Event.TheVariants.{Changed, Refused as NotedRefusal}
use Rattle.pass_program.specs.declared.refusal.Refusal.{Refusal}
use Rattle.pass_program.specs.declared.refusal.Refusal.TheVariants.{TableNotWritten}
use Rattle.pass_program.specs.declared.session.Session.{Session}
use Rattle.pass_program.specs.declared.status.PassStatus.{PassStatus}
use Rattle.pass_program.specs.declared.status.PassStatus.TheVariants.{Fine, Usage, ReadFault, WriteFault, WordFault, Torn, BadTable, Refused as WasRefused, NoMemory, Flood}

-- ---- moves

pub no_moves : (m : Moment) → Moves m m [] [] [] []
no_moves m = record { took = Consumes-nil m.left; drew = none_drawn m.to_come; told = Gains-nil m.holds; notes = Notes-nil m.noted }

-- more of the client was read
pub read_more : (before : Moment) (left next : Option (List ℕ)) (to_come : Option (List (List ℕ))) (holds table : Option (List ℕ)) (noted : Option (List (List ℕ × Event)))
    (read more : List ℕ) (drawn : List (List ℕ)) (answered : List ℕ) (notes : List (List ℕ × Event))
    → Moves before (moment left to_come holds table noted) read drawn answered notes → Consumes left next more
    → Moves before (moment next to_come holds table noted) (read ++ more) drawn answered notes
read_more before left next to_come holds table noted read more drawn answered notes m took = record {
  took = Consumes-trans before.left left next read more m.took took;
  drew = m.drew;
  told = m.told;
  notes = m.notes;
}

-- more was answered
pub told_more : (before : Moment) (left : Option (List ℕ)) (to_come : Option (List (List ℕ))) (holds next table later : Option (List ℕ)) (noted : Option (List (List ℕ × Event)))
    (read : List ℕ) (drawn : List (List ℕ)) (answered more : List ℕ) (notes : List (List ℕ × Event))
    → Moves before (moment left to_come holds table noted) read drawn answered notes → Gains holds next more
    → Moves before (moment left to_come next later noted) read drawn (answered ++ more) notes
told_more before left to_come holds next table later noted read drawn answered more notes m told = record {
  took = m.took;
  drew = m.drew;
  told = Gains-trans before.holds holds next answered more m.told told;
  notes = m.notes;
}

-- more was noted
pub noted_more : (before : Moment) (left : Option (List ℕ)) (to_come : Option (List (List ℕ))) (holds table : Option (List ℕ)) (noted next : Option (List (List ℕ × Event)))
    (read : List ℕ) (drawn : List (List ℕ)) (answered : List ℕ) (notes more : List (List ℕ × Event))
    → Moves before (moment left to_come holds table noted) read drawn answered notes → Notes noted next more
    → Moves before (moment left to_come holds table next) read drawn answered (notes ++ more)
noted_more before left to_come holds table noted next read drawn answered notes more m n = record {
  took = m.took;
  drew = m.drew;
  told = m.told;
  notes = Notes-trans before.noted noted next notes more m.notes n;
}

-- ---- a part of a message

zero_some : (n : ℕ) → 0 < n → (n == 0) ≡ false
zero_some n some = ne_eqb n 0 (λ e. omega (arith, e, some))

-- a lack that left some bytes tears a message, and one that left none ends the input
torn_so : (keys : List KeyLine) (have at : ℕ) (before now : Moment) → 0 < have → SessionEnds keys (Torn at) before now → SessionEnds keys (lack_at (Ended have) at) before now
torn_so keys have at before now some it = rw (zero_some have some) it

ended_so : (keys : List KeyLine) (have at : ℕ) (before now : Moment) → have ≡ 0 → SessionEnds keys (Fine false) before now → SessionEnds keys (lack_at (Ended have) at) before now
ended_so keys have at before now none it = rw (none) it

-- before the first byte of the request
pub lacks_kind : (keys : List KeyLine) (o : Moment) (old new : Option (List ℕ)) (lack : Lack) → LacksSo lack old new 0 1 → SessionEnds keys (lack_at lack 0) (at_left o old) (at_left o new)
lacks_kind keys o old new (Ended have) ([], took, is, short, end) = ended_so keys have 0 _ _ (is) (inl (record {
  moves = read_more (at_left o old) old new o.to_come o.holds o.table o.noted [] [] [] [] [] (no_moves (at_left o old)) took;
  kept = refl;
  at_end = end;
}))
lacks_kind keys o old new (Ended have) (byte ∷ rest, took, is, short, end) = absurd (omega (arith, short))
lacks_kind keys o old new Failed (part, took, short) = inl (
  part,
  record {
    moves = read_more (at_left o old) old new o.to_come o.holds o.table o.noted [] part [] [] [] (no_moves (at_left o old)) took;
    kept = refl;
    short = omega (arith, short);
    kind = λ some. absurd (omega (arith, some, short));
  },
)

-- behind it
pub lacks_rest : (keys : List KeyLine) (o : Moment) (old mid new : Option (List ℕ)) (lack : Lack) → Consumes old mid (password_request ∷ []) → LacksSo lack mid new 1 141 → SessionEnds keys (lack_at lack 0) (at_left o old) (at_left o new)
lacks_rest keys o old mid new (Ended have) first (part, took, is, short, end) = torn_so keys have 0 _ _ (omega (arith, is)) (inl (record {
  part = password_request ∷ part;
  some = omega arith;
  reads = record {
    moves = read_more (at_left o old) old new o.to_come o.holds o.table o.noted [] (password_request ∷ part) [] [] [] (no_moves (at_left o old)) (Consumes-trans old mid new (password_request ∷ []) part first took);
    kept = refl;
    short = omega (arith, short);
    kind = λ some. refl;
  };
  first = refl;
  at_end = end;
}))
lacks_rest keys o old mid new Failed first (part, took, short) = inl (
  password_request ∷ part,
  record {
    moves = read_more (at_left o old) old new o.to_come o.holds o.table o.noted [] (password_request ∷ part) [] [] [] (no_moves (at_left o old)) (Consumes-trans old mid new (password_request ∷ []) part first took);
    kept = refl;
    short = omega (arith, short);
    kind = λ some. refl;
  },
)

-- a first byte of another kind
pub meets_other : (keys : List KeyLine) (o : Moment) (old new : Option (List ℕ)) (kind : ℕ) → Consumes old new (kind ∷ []) → kind ≢ password_request → SessionEnds keys WasRefused (at_left o old) (at_left o new)
meets_other keys o old new kind took other = inl (record {
  kind = kind;
  other = other;
  moves = read_more (at_left o old) old new o.to_come o.holds o.table o.noted [] (kind ∷ []) [] [] [] (no_moves (at_left o old)) took;
  kept = refl;
})

-- ---- the answer to the request

module _ (keys : List KeyLine) (left next : Option (List ℕ)) (to_come later : Option (List (List ℕ))) (holds now table : Option (List ℕ)) (noted : Option (List (List ℕ × Event))) (request : List ℕ) (words : List (List ℕ)) where
  abbrev asked : Asked
  asked = record { request = request; words = words }

  is_asked : IsRequested left next request → length words ≡ 2 → IsAsked asked
  is_asked r two = record { whole = r.whole; kind = r.kind; two = two }

  answered : (answer : List ℕ) → IsRequested left next request → DrawsAll to_come later words → Gains holds now answer → Moves (moment left to_come holds table noted) (moment next later now table noted) request words answer []
  answered answer r drew told = record { took = r.read; drew = drew; told = told; notes = Notes-nil noted }

  pub served_first : (session : Session) → IsRequested left next request → length words ≡ 2 → DrawsAll to_come later words → IsAnswered keys request words holds now session
      → Served keys (moment left to_come holds table noted) (moment next later now table noted) session 0
  served_first session r two drew a =
      let m = answered (ticket_answer keys words a.r) r drew a.told in
      record {
        asked = asked;
        r = a.r;
        tries = [];
        stands = record { asks = is_asked r two; read = a.read; refused = tt };
        moves = record {
          took = subst (Consumes left next) (sym (append-nil request)) m.took;
          drew = m.drew;
          told = subst (Gains holds now) (sym (append-nil (ticket_answer keys words a.r))) m.told;
          notes = m.notes;
        };
        kept = refl;
        user = a.user;
        key = a.key;
        count = refl;
      }

  pub answer_ends : (status : PassStatus) → IsRequested left next request → length words ≡ 2 → DrawsAll to_come later words → AnswerEnds keys request words status holds now
      → SessionEnds keys status (moment left to_come holds table noted) (moment next later now table noted)
  answer_ends WriteFault r two drew lost = inl (record {
    asked = asked;
    asks = is_asked r two;
    loses = record { front = lost.front; rest = lost.rest; parts = lost.parts; missing = lost.missing; moves = answered lost.front r drew lost.gained };
    kept = refl;
  })
  answer_ends WasRefused r two drew denied = inr (inl (record {
    asked = asked;
    fault = denied.fault;
    asks = is_asked r two;
    bad = denied.bad;
    moves = answered _ r drew denied.told;
    kept = refl;
  }))
  answer_ends (Fine changed) r two drew e = absurd e
  answer_ends Usage r two drew e = absurd e
  answer_ends ReadFault r two drew e = absurd e
  answer_ends WordFault r two drew e = absurd e
  answer_ends (Torn at) r two drew e = absurd e
  answer_ends (BadTable line) r two drew e = absurd e
  answer_ends NoMemory r two drew e = absurd e
  answer_ends (Flood limit) r two drew e = absurd e

pub lacks_words : (keys : List KeyLine) (left next : Option (List ℕ)) (to_come later : Option (List (List ℕ))) (holds table : Option (List ℕ)) (noted : Option (List (List ℕ × Event))) (request : List ℕ)
    → IsRequested left next request → DrawsNotBoth to_come later → SessionEnds keys WordFault (moment left to_come holds table noted) (moment next later holds table noted)
lacks_words keys left next to_come later holds table noted request r few = record {
  request = request;
  drawn = few.drawn;
  whole = r.whole;
  kind = r.kind;
  few = few.few;
  moves = record { took = r.read; drew = few.drew; told = Gains-nil holds; notes = Notes-nil noted };
  kept = refl;
}

-- ---- a message

module _ (keys : List KeyLine) (before : Moment) (left next : Option (List ℕ)) (to_come : Option (List (List ℕ))) (holds table : Option (List ℕ)) (noted : Option (List (List ℕ × Event))) (session : Session) (n : ℕ) where
  goes_on : (s : Served keys before (moment left to_come holds table noted) session n) → n < most_refusals → GoesOn keys s.asked s.r s.tries
  goes_on s few = record { session = s.stands; few = omega (arith, few, s.count) }

  talked : (s : Served keys before (moment left to_come holds table noted) session n) (part : List ℕ) → n < most_refusals → Consumes left next part
      → Talked keys before (moment next to_come holds table noted) s.asked s.r s.tries part
  talked s part few took = record {
    goes_on = goes_on s few;
    moves = read_more before left next to_come holds table noted _ part _ _ _ s.moves took;
    kept = s.kept;
  }

  place : (s : Served keys before (moment left to_come holds table noted) session n) → 141 + 90 * n ≡ request_bytes + message_bytes * length s.tries
  place s = ap (λ (m : ℕ). 141 + 90 * m) (sym s.count)

  pub lacks_message : (lack : Lack) → Served keys before (moment left to_come holds table noted) session n → n < most_refusals → LacksSo lack left next 0 90
      → SessionEnds keys (lack_at lack (141 + 90 * n)) before (moment next to_come holds table noted)
  lacks_message (Ended have) s few ([], took, is, short, end) = ended_so keys have _ _ _ is (inr (record {
    asked = s.asked;
    r = s.r;
    tries = s.tries;
    talked = talked s [] few took;
    at_end = end;
  }))
  lacks_message (Ended have) s few (byte ∷ rest, took, is, short, end) = torn_so keys have _ _ _ (omega (arith, is)) (inr (record {
    part = byte ∷ rest;
    some = omega arith;
    reads = record { asked = s.asked; r = s.r; tries = s.tries; talked = talked s (byte ∷ rest) few took; short = omega (arith, short); place = place s };
    at_end = end;
  }))
  lacks_message Failed s few (part, took, short) = inr (_, part, record { asked = s.asked; r = s.r; tries = s.tries; talked = talked s part few took; short = omega (arith, short); place = place s })

  -- it is taken
  pub hears : (message password : List ℕ) → Served keys before (moment left to_come holds table noted) session n → n < most_refusals → Consumes left next message → length message ≡ 90
      → judged keys session.user session.key.0 message ≡ Ok password → Hears keys before (moment next to_come holds table noted) session.user password
  hears message password s few took whole taken = record {
    asked = s.asked;
    r = s.r;
    tries = s.tries;
    message = message;
    taken = record { goes_on = goes_on s few; whole = whole; taken = subst (λ (u : List ℕ). judged keys u (session_key s.asked.words) message ≡ Ok password) s.user (subst (λ (k : List ℕ). judged keys session.user k message ≡ Ok password) s.key taken) };
    moves = read_more before left next to_come holds table noted _ message _ _ _ s.moves took;
    kept = s.kept;
    same = s.user;
  }

  -- it is refused
  its_cause : (s : Served keys before (moment left to_come holds table noted) session n) (message : List ℕ) (why : Refusal) → judged keys session.user session.key.0 message ≡ Err why → judged keys s.r.uid (session_key s.asked.words) message ≡ Err why
  its_cause s message why is = subst (λ (u : List ℕ). judged keys u (session_key s.asked.words) message ≡ Err why) s.user (subst (λ (k : List ℕ). judged keys session.user k message ≡ Err why) s.key is)

  heard : (later : Option (List (List ℕ × Event))) (s : Served keys before (moment left to_come holds table noted) session n) (message : List ℕ) (why : Refusal) → Consumes left next message → Notes noted later ((session.user, NotedRefusal why) ∷ [])
      → Moves before (moment next to_come holds table later) (bytes_of s.asked (record { message = message; why = why } ∷ s.tries)) s.asked.words (answers_of keys s.asked s.r s.tries) (notes_of s.r.uid (record { message = message; why = why } ∷ s.tries))
  heard later s message why took notes =
      let m = noted_more before next to_come holds table noted later _ _ _ _ _ (read_more before left next to_come holds table noted _ message _ _ _ s.moves took)
      (subst (λ (u : List ℕ). Notes noted later ((u, NotedRefusal why) ∷ [])) s.user notes) in
      record { took = subst (Consumes before.left next) (append_assoc s.asked.request (messages_of s.tries) message) m.took; drew = m.drew; told = m.told; notes = m.notes }

  pub refused_more : (now : Option (List ℕ)) (later : Option (List (List ℕ × Event))) (message : List ℕ) (why : Refusal) → Served keys before (moment left to_come holds table noted) session n → n < most_refusals → Consumes left next message → length message ≡ 90
      → judged keys session.user session.key.0 message ≡ Err why → Notes noted later ((session.user, NotedRefusal why) ∷ []) → Gains holds now (refused why) → Served keys before (moment next to_come now table later) session (n + 1)
  refused_more now later message why s few took whole is notes told =
      let m = heard later s message why took notes in
      record {
        asked = s.asked;
        r = s.r;
        tries = record { message = message; why = why } ∷ s.tries;
        stands = record { asks = s.stands.asks; read = s.stands.read; refused = (whole, its_cause s message why is, s.stands.refused) };
        moves = record { took = m.took; drew = m.drew; told = subst (Gains before.holds now) (append_assoc (ticket_answer keys s.asked.words s.r) (refusals_of s.tries) (refused why)) (Gains-trans before.holds holds now _ _ m.told told); notes = m.notes };
        kept = s.kept;
        user = s.user;
        key = s.key;
        count = omega (arith, s.count);
      }

  pub loses_refusal : (now : Option (List ℕ)) (later : Option (List (List ℕ × Event))) (message : List ℕ) (why : Refusal) → Served keys before (moment left to_come holds table noted) session n → n < most_refusals → Consumes left next message → length message ≡ 90
      → judged keys session.user session.key.0 message ≡ Err why → Notes noted later ((session.user, NotedRefusal why) ∷ []) → GainsFront holds now (refused why) → SessionEnds keys WriteFault before (moment next to_come now table later)
  loses_refusal now later message why s few took whole is notes lost = inr (inl (record {
    asked = s.asked;
    r = s.r;
    tries = s.tries;
    last = record { message = message; why = why };
    goes_on = goes_on s few;
    all_refused = (whole, its_cause s message why is, s.stands.refused);
    loses = record {
      front = lost.front;
      rest = lost.rest;
      parts = lost.parts;
      missing = lost.missing;
      moves = told_more before next to_come holds now table table later _ _ _ lost.front _ (heard later s message why took notes) lost.gained;
    };
    kept = s.kept;
  }))

-- five messages were refused
pub ends_refused : (keys : List KeyLine) (before now : Moment) (session : Session) → Served keys before now session 5 → SessionEnds keys WasRefused before now
ends_refused keys before now session s = inr (inr (record { asked = s.asked; r = s.r; tries = s.tries; session = s.stands; many = s.count; moves = s.moves; kept = s.kept }))

-- ---- the new table

module _ (keys : List KeyLine) (before : Moment) (left : Option (List ℕ)) (to_come : Option (List (List ℕ))) (holds now table written : Option (List ℕ)) (noted later : Option (List (List ℕ × Event))) (user password text : List ℕ)
    (h : Hears keys before (moment left to_come holds table noted) user password) (is : text ≡ table_text (with_password user password keys)) where
  -- it was written, by what was written before
  same_text : text ≡ new_table keys h.r password
  same_text = is ∙ ap (λ (u : List ℕ). table_text (with_password u password keys)) h.same

  wrote : Gains table written text → Gains before.table written (new_table keys h.r password)
  wrote w = subst (λ (t : Option (List ℕ)). Gains t written (new_table keys h.r password)) h.kept (subst (Gains table written) same_text w)

  by_user : (event : Event) → Notes noted later ((user, event) ∷ []) → Notes noted later ((h.r.uid, event) ∷ [])
  by_user event n = subst (λ (u : List ℕ). Notes noted later ((u, event) ∷ [])) h.same n

  pub changes : Gains table written text → Gains holds now (answer_ok ∷ []) → Notes noted later ((user, Changed) ∷ []) → Changes keys before (moment left to_come now written later)
  changes w told n = record {
    asked = h.asked;
    r = h.r;
    tries = h.tries;
    message = h.message;
    password = password;
    taken = h.taken;
    moves = noted_more before left to_come now written noted later _ _ _ _ _ (told_more before left to_come holds now table written noted _ _ _ _ _ h.moves told) (by_user Changed n);
    wrote = wrote w;
  }

  pub loses_consent : Gains table written text → GainsFront holds now (answer_ok ∷ []) → SessionEnds keys WriteFault before (moment left to_come now written noted)
  loses_consent w lost = inr (inr (inl (record {
    asked = h.asked;
    r = h.r;
    tries = h.tries;
    message = h.message;
    password = password;
    taken = h.taken;
    loses = record {
      front = lost.front;
      rest = lost.rest;
      parts = lost.parts;
      missing = lost.missing;
      moves = told_more before left to_come holds now table written noted _ _ _ lost.front _ h.moves lost.gained;
    };
    wrote = wrote w;
  })))

  front_of : GainsFront table written text → GainsFront before.table written (new_table keys h.r password)
  front_of w = record { front = w.front; rest = w.rest; parts = sym same_text ∙ w.parts; gained = subst (λ (t : Option (List ℕ)). Gains t written w.front) h.kept w.gained; missing = w.missing }

  pub loses_table : (front rest : List ℕ) → refused TableNotWritten ≡ front ++ rest → GainsFront table written text → Gains holds now front → Notes noted later ((user, NotedRefusal TableNotWritten) ∷ [])
      → SessionEnds keys WriteFault before (moment left to_come now written later)
  loses_table front rest parts w told n = inr (inr (inr (record {
    asked = h.asked;
    r = h.r;
    tries = h.tries;
    message = h.message;
    password = password;
    front = front;
    rest = rest;
    taken = h.taken;
    parts = parts;
    moves = noted_more before left to_come now written noted later _ _ _ _ _ (told_more before left to_come holds now table written noted _ _ _ front _ h.moves told) (by_user (NotedRefusal TableNotWritten) n);
    wrote = front_of w;
  })))

pub lacks_memory : (keys : List KeyLine) (before now : Moment) (user password : List ℕ) → Hears keys before now user password → SessionEnds keys NoMemory before now
lacks_memory keys before now user password h = record { asked = h.asked; r = h.r; tries = h.tries; message = h.message; password = password; taken = h.taken; moves = h.moves; kept = h.kept }

-- an answer whose loss isn't looked at was written in front, in either case
pub front_either : {E : Type 0} (before now : Option (List ℕ)) (piece : List ℕ) (r : Result ⊤ E) → OnOk r (Gains before now piece) → OnErr r (GainsFront before now piece)
    → (front : List ℕ) × (rest : List ℕ) × (piece ≡ front ++ rest) × Gains before now front
front_either before now piece (Ok done) ok err = (piece, [], sym (append-nil piece), ok)
front_either before now piece (Err fault) ok err = (err.front, err.rest, err.parts, err.gained)

-- what isn't an error is well
pub ok_left : {E P : Type 0} (r : Result ⊤ E) → ((fault : E) → r ≡ Err fault → ⊥) → OnOk r P → P
ok_left (Ok done) none ok = ok
ok_left (Err fault) none ok = absurd (none fault refl)
