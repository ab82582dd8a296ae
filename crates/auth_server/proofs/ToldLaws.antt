-- Where the outside tells a session, and some of its requests were answered: what stands behind these.
use Rattle.std.proofs.Common.{◌≡◌, ℕ, ◌+◌, ◌<◌, ◌≤◌, List, [], ◌∷◌, ◌++◌, true, false, length, Option, Some, None, sym, ap, subst, ◌∙◌, append_assoc, append-nil, length-append, inl, inr, arith}
use Rattle.std.specs.Io.KnownBytes.{Consumes, IsAtEnd}
use Rattle.std.proofs.lemmas.List.{append_cancel_left}
use Rattle.auth_server.specs.Requests.{kind_of, needed}
use Rattle.auth_server.specs.Answers.{Knowledge, Posed, held_in, is_over_in}
use Rattle.auth_server.specs.Sessions.{DrawsAll, Follows, IsPart, IsSession, bytes_of, exactly, words_of}
use Rattle.auth_server.specs.Serving.{EndsInside, Floods, MeetsUnknown, Moment, Reads, most_input}
use Rattle.auth_server.proofs.SessionLaws.{OneGoesOn, bytes_on, follows_first, kind_kept, one_session, some_bytes, with_last}

-- told bytes and words that were read and drawn
told_read : (old now : Option (List ℕ)) (told taken : List ℕ) → old ≡ Some told → Consumes old now taken → (rest : List ℕ) × (told ≡ taken ++ rest)
told_read None now told taken e h = absurd cc
told_read (Some bytes) None told taken e h = absurd h
told_read (Some bytes) (Some rest) told taken e h = (rest, let same : told ≡ bytes = cc in same ∙ h)

read_all : (old now : Option (List ℕ)) (told taken : List ℕ) → old ≡ Some told → Consumes old now taken → IsAtEnd now → told ≡ taken ++ []
read_all None now told taken e h end = absurd cc
read_all (Some bytes) None told taken e h end = absurd h
read_all (Some bytes) (Some rest) told taken e h end = let same : told ≡ bytes = cc in same ∙ (h ∙ ap (λ (l : List ℕ). taken ++ l) end)

told_drawn : (old now : Option (List (List ℕ))) (told taken : List (List ℕ)) → old ≡ Some told → DrawsAll old now taken → (rest : List (List ℕ)) × (told ≡ taken ++ rest)
told_drawn None now told taken e h = absurd cc
told_drawn (Some words) None told taken e h = absurd h
told_drawn (Some words) (Some rest) told taken e h = (rest, let same : told ≡ words = cc in same ∙ h)

-- a session is told, with other bytes and words behind its own
pub record Tells (tables : ℕ → Knowledge) (before : Moment) (told : List Posed) (behind : List ℕ) : Type 0 where
  pub session : IsSession (exactly tables) told
  pub few : length (bytes_of told) ≤ most_input
  pub left : before.left ≡ Some (bytes_of told ++ behind)
  pub later : List (List ℕ)
  pub to_come : before.to_come ≡ Some (words_of told ++ later)

-- it goes on behind some requests with another
pub record GoesOnWith (told requests : List Posed) : Type 0 where
  pub later : List Posed
  pub posed : Posed
  pub is : told ≡ later ++ posed ∷ requests

pub goes_on_by : (told requests : List Posed) (first : Posed) (more : List Posed) → told ≡ (first ∷ more) ++ requests → GoesOnWith told requests
goes_on_by told requests first more is =
    let last = with_last first more in
    record { later = last.0; posed = last.1; is = is ∙ (ap (λ (l : List Posed). l ++ requests) last.2 ∙ append_assoc last.0 (last.1 ∷ []) requests) }

-- a session that isn't over goes on from none that is
pub over_or_not : (tables : ℕ → Knowledge) (whole requests : List Posed) → IsSession (exactly tables) whole → is_over_in whole ≡ false → (more : List Posed) → whole ≡ more ++ requests → is_over_in requests ≡ true → ⊥
over_or_not tables whole requests s goes_on [] is over = absurd (let same : is_over_in whole ≡ true = ap is_over_in is ∙ over in let contra : false ≡ true = sym goes_on ∙ same in cc)
over_or_not tables whole requests s goes_on (first ∷ more) is over =
    let next = goes_on_by whole requests first more is in
    let f = follows_first (exactly tables) next.later requests next.posed (subst (IsSession (exactly tables)) next.is s) in
    absurd (let contra : false ≡ true = sym f.goes_on ∙ over in cc)

module _ (tables : ℕ → Knowledge) (before now : Moment) (told : List Posed) (behind : List ℕ) (t : Tells tables before told behind) (requests : List Posed) (rest : List ℕ) (reads : Reads (exactly tables) before now requests rest []) where
  -- the bytes that are told are those that were read, and what is left
  abbrev pub IsLeft : List ℕ → Type 0
  IsLeft left = bytes_of told ++ behind ≡ (bytes_of requests ++ rest) ++ left

  pub some_left : (left : List ℕ) × IsLeft left
  some_left = told_read before.left now.left (bytes_of told ++ behind) (bytes_of requests ++ rest) t.left reads.read

  pub none_left : IsAtEnd now.left → IsLeft []
  none_left at_end = read_all before.left now.left (bytes_of told ++ behind) (bytes_of requests ++ rest) t.left reads.read at_end

  -- of the two sessions one goes on from the other
  pub same_session : OneGoesOn told requests
  same_session =
      let bytes = some_left in
      let words = told_drawn before.to_come now.to_come (words_of told ++ t.later) (words_of requests ++ []) t.to_come reads.drew in
      one_session tables told requests behind (rest ++ bytes.0) t.later words.0 t.session reads.session
      (bytes.1 ∙ append_assoc (bytes_of requests) rest bytes.0)
      (words.1 ∙ ap (λ (l : List (List ℕ)). l ++ words.0) (append-nil (words_of requests)))

  -- ---- the request that is told to be next
  module _ (next : GoesOnWith told requests) where
    follows_next : Follows (exactly tables) requests next.posed
    follows_next = follows_first (exactly tables) next.later requests next.posed (subst (IsSession (exactly tables)) next.is t.session)

    pub some_next : 0 < length next.posed.asked.request
    some_next = some_bytes (exactly tables) requests next.posed follows_next

    all_bytes : bytes_of told ≡ (bytes_of requests ++ next.posed.asked.request) ++ bytes_of next.later
    all_bytes = ap bytes_of next.is ∙ bytes_on next.later (next.posed ∷ requests)

    -- it begins with what was read behind those that were answered
    bytes_next : (left : List ℕ) → IsLeft left → next.posed.asked.request ++ (bytes_of next.later ++ behind) ≡ rest ++ left
    bytes_next left is =
        let later = bytes_of next.later ++ behind in
        append_cancel_left (bytes_of requests) (next.posed.asked.request ++ later) (rest ++ left) (
        sym (append_assoc (bytes_of requests) next.posed.asked.request later)
        ∙ (sym (append_assoc (bytes_of requests ++ next.posed.asked.request) (bytes_of next.later) behind)
        ∙ (ap (λ (l : List ℕ). l ++ behind) (sym all_bytes)
        ∙ (is ∙ append_assoc (bytes_of requests) rest left))))

    kind_next : 0 < length rest → kind_of next.posed.asked.request ≡ kind_of rest
    kind_next some =
        sym (kind_kept next.posed.asked.request (bytes_of next.later ++ behind) some_next) ∙ (ap kind_of (bytes_next some_left.0 some_left.1) ∙ kind_kept rest some_left.0 some)

    -- it isn't longer than what was read behind those and what is left, nor than what is told behind those
    pub short_next : (left : List ℕ) → IsLeft left → length next.posed.asked.request ≤ length rest + length left
    short_next left is =
        let same : length next.posed.asked.request + length (bytes_of next.later ++ behind) ≡ length rest + length left
        = sym (length-append next.posed.asked.request (bytes_of next.later ++ behind)) ∙ (ap length (bytes_next left is) ∙ length-append rest left) in
        omega (arith, same)

    few_next : length (bytes_of requests) + length next.posed.asked.request ≤ length (bytes_of told)
    few_next =
        let same : length (bytes_of told) ≡ (length (bytes_of requests) + length next.posed.asked.request) + length (bytes_of next.later)
        = ap length all_bytes ∙ (length-append (bytes_of requests ++ next.posed.asked.request) (bytes_of next.later) ∙ ap (λ (n : ℕ). n + length (bytes_of next.later)) (length-append (bytes_of requests) next.posed.asked.request)) in
        omega (arith, same)

    -- a part of it is shorter
    part_next : (part : List ℕ) → kind_of next.posed.asked.request ≡ kind_of part → IsPart (held_in requests) part → length part < length next.posed.asked.request
    part_next part same p =
        let needs : Some (length next.posed.asked.request) ≡ Some p.need = sym follows_next.whole ∙ (ap (needed (held_in requests)) same ∙ p.served) in
        let long : length next.posed.asked.request ≡ p.need = cc in
        omega (arith, long, p.short)

module _ (tables : ℕ → Knowledge) (before now : Moment) (told : List Posed) (behind : List ℕ) (t : Tells tables before told behind) where
  -- no byte is met that begins no request
  pub no_unknown : (at kind : ℕ) (u : MeetsUnknown (exactly tables) at kind before now) → GoesOnWith told u.requests → ⊥
  no_unknown at kind u next =
      let reads = u.answers.reads in
      let same = kind_next tables before now told behind t u.requests (kind ∷ u.behind) reads next (omega arith) in
      let follows = follows_next tables before now told behind t u.requests (kind ∷ u.behind) reads next in
      let found : None ≡ Some (length next.posed.asked.request) = sym u.unknown ∙ (ap (needed (held_in u.requests)) (sym same) ∙ follows.whole) in
      absurd cc

  -- the input doesn't end inside a request
  pub no_torn : (at : ℕ) (e : EndsInside (exactly tables) at before now) → GoesOnWith told e.requests → ⊥
  no_torn at e next =
      let reads = e.answers.reads in
      let same = kind_next tables before now told behind t e.requests e.rest reads next e.inside.some in
      let long = part_next tables before now told behind t e.requests e.rest reads next e.rest same e.inside in
      let short = short_next tables before now told behind t e.requests e.rest reads next [] (none_left tables before now told behind t e.requests e.rest reads e.at_end) in
      absurd (omega (arith, long, short))

  -- there are no more bytes than are taken
  pub no_flood : (f : Floods (exactly tables) before now) → GoesOnWith told f.requests → ⊥
  no_flood f next =
      let reads = f.answers.reads in
      let taken = f.rest ++ f.more ∷ [] in
      let few = few_next tables before now told behind t f.requests taken reads next in
      elim f.unfinished [
        | inl none ↦
            let some = some_next tables before now told behind t f.requests taken reads next in
            let empty : length f.rest ≡ 0 = ap length none in
            absurd (omega (arith, few, some, empty, f.full, t.few))
        | inr part ↦
            let more : 0 < length taken = (let long : length taken ≡ length f.rest + 1 = length-append f.rest (f.more ∷ []) in omega (arith, long)) in
            let same = kind_next tables before now told behind t f.requests taken reads next more ∙ kind_kept f.rest (f.more ∷ []) part.some in
            let long = part_next tables before now told behind t f.requests taken reads next f.rest same part in
            absurd (omega (arith, few, long, f.full, t.few))
      ]
