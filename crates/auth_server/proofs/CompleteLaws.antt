-- What is servable is served to its end.
use Rattle.std.proofs.Common.{◌≡◌, ◌⊎◌, ℕ, ◌+◌, ◌<◌, ◌≤◌, List, [], ◌∷◌, ◌++◌, true, false, length, Some, refl, sym, ap, subst, ◌∙◌, append-nil, length-append, inl, inr, arith}
use Rattle.auth_server.specs.declared.serve.AuthEnd.{AuthEnd}
use Rattle.auth_server.specs.declared.serve.AuthEnd.TheVariants as e
use Rattle.auth_server.specs.Answers.{Knowledge, Posed, is_over_in}
use Rattle.auth_server.specs.Sessions.{IsSession, bytes_of, exactly}
use Rattle.auth_server.specs.Serving.{EndsSo, EndsUnder, EndsWrong, IsServable, IsServableBy, Moment, Reads}
use Rattle.auth_server.proofs.SessionLaws.{bytes_on, some_bytes}
use Rattle.auth_server.proofs.ToldLaws.{GoesOnWith, Tells, goes_on_by, no_flood, no_torn, no_unknown, over_or_not, same_session, some_left}

-- a session that isn't longer than one it goes on from is that one
longer_none : (tables : ℕ → Knowledge) (whole more requests : List Posed) → IsSession (exactly tables) requests → requests ≡ more ++ whole → length (bytes_of requests) ≤ length (bytes_of whole) → more ≡ []
longer_none tables whole [] requests s is few = refl
longer_none tables whole (first ∷ more) requests s is few =
    let some : 0 < length first.asked.request = some_bytes (exactly tables) (more ++ whole) first (subst (IsSession (exactly tables)) is s).0 in
    let long : length (bytes_of requests) ≡ length (bytes_of (more ++ whole)) + length first.asked.request = ap (λ (l : List Posed). length (bytes_of l)) is ∙ length-append (bytes_of (more ++ whole)) first.asked.request in
    let longer : length (bytes_of (more ++ whole)) ≡ length (bytes_of whole) + length (bytes_of more) = ap length (bytes_on more whole) ∙ length-append (bytes_of whole) (bytes_of more) in
    absurd (omega (arith, some, long, longer, few))

module _ (tables : ℕ → Knowledge) (before now : Moment) (v : IsServableBy tables before) where
  tells : Tells tables before v.requests []
  tells = record { session = v.session; few = v.few; left = v.left ∙ ap Some (sym (append-nil (bytes_of v.requests))); later = v.later; to_come = v.to_come }

  -- no more is read than is told
  no_longer : (requests : List Posed) (rest : List ℕ) → Reads (exactly tables) before now requests rest [] → length (bytes_of requests) + length rest ≤ length (bytes_of v.requests)
  no_longer requests rest reads =
      let bytes = some_left tables before now v.requests [] tells requests rest reads in
      let same : length (bytes_of v.requests) ≡ (length (bytes_of requests) + length rest) + length bytes.0
      = ap length (sym (append-nil (bytes_of v.requests)) ∙ bytes.1) ∙ (length-append (bytes_of requests ++ rest) bytes.0 ∙ ap (λ (n : ℕ). n + length bytes.0) (length-append (bytes_of requests) rest)) in
      omega (arith, same)

  -- where something was read behind some requests, the session that is told goes on with another
  next : (requests : List Posed) (rest : List ℕ) → Reads (exactly tables) before now requests rest [] → 0 < length rest → GoesOnWith v.requests requests
  next requests rest reads some = elim (same_session tables before now v.requests [] tells requests rest reads) [
    | inl more ↦ by_more more.0 more.1
    | inr more ↦ absurd (
        let longer : length (bytes_of requests) ≡ length (bytes_of v.requests) + length (bytes_of more.0) = ap length (ap bytes_of more.1 ∙ bytes_on more.0 v.requests) ∙ length-append (bytes_of v.requests) (bytes_of more.0) in
        omega (arith, some, no_longer requests rest reads, longer))
  ]
    where
      by_more : (more : List Posed) → v.requests ≡ more ++ requests → GoesOnWith v.requests requests
      by_more [] is = absurd (
          let same : length (bytes_of v.requests) ≡ length (bytes_of requests) = ap (λ (l : List Posed). length (bytes_of l)) is in
          omega (arith, some, no_longer requests rest reads, same))
      by_more (first ∷ more) is = goes_on_by v.requests requests first more is

  -- and there is no wrong answer too many
  no_wrong : EndsWrong (exactly tables) before now → ⊥
  no_wrong w =
      let reads = w.answers.reads in
      elim (same_session tables before now v.requests [] tells w.requests [] reads) [
        | inl more ↦ over_or_not tables v.requests w.requests v.session v.goes_on more.0 more.1 w.over
        | inr more ↦
            let few = no_longer w.requests [] reads in
            let none : more.0 ≡ [] = longer_none tables v.requests more.0 w.requests reads.session more.1 (omega (arith, few)) in
            let same : w.requests ≡ v.requests = more.1 ∙ ap (λ (l : List Posed). l ++ v.requests) none in
            absurd (let contra : false ≡ true = sym v.goes_on ∙ (ap is_over_in (sym same) ∙ w.over) in cc)
      ]

  pub served_whole_by : (end : AuthEnd) → EndsUnder (exactly tables) end before now → (end ≡ e.ReadFault → ⊥) → (end ≡ e.WriteFault → ⊥) → (end ≡ e.WordFault → ⊥) → (end ≡ e.End) ⊎ (end ≡ e.NoMemory)
  served_whole_by e.End h r w d = inl refl
  served_whole_by (e.UnknownType at kind) h r w d = absurd (no_unknown tables before now v.requests [] tells at kind h (next h.requests _ h.answers.reads (omega arith)))
  served_whole_by (e.Torn at) h r w d = absurd (no_torn tables before now v.requests [] tells at h (next h.requests _ h.answers.reads h.inside.some))
  served_whole_by e.TooManyWrong h r w d = absurd (no_wrong h)
  served_whole_by e.ReadFault h r w d = absurd (r refl)
  served_whole_by e.WriteFault h r w d = absurd (w refl)
  served_whole_by e.WordFault h r w d = absurd (d refl)
  served_whole_by e.Flood h r w d = absurd (
      let more : 0 < length (h.rest ++ h.more ∷ []) = (let long : length (h.rest ++ h.more ∷ []) ≡ length h.rest + 1 = length-append h.rest (h.more ∷ []) in omega (arith, long)) in
      no_flood tables before now v.requests [] tells h (next h.requests _ h.answers.reads more))
  served_whole_by e.NoMemory h r w d = inr refl

-- the same where the tables stay as they are
pub served_whole : (known : Knowledge) (before now : Moment) → IsServable known before → (end : AuthEnd) → EndsSo known end before now → (end ≡ e.ReadFault → ⊥) → (end ≡ e.WriteFault → ⊥) → (end ≡ e.WordFault → ⊥) → (end ≡ e.End) ⊎ (end ≡ e.NoMemory)
served_whole known = served_whole_by (λ number. known)
