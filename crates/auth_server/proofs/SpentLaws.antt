-- Where five wrong answers end what a client sends, it is served to the fifth.
use Rattle.std.proofs.Common.{◌≡◌, ◌⊎◌, ℕ, List, [], ◌∷◌, ◌++◌, true, false, refl, sym, ap, ◌∙◌, inl, inr, arith}
use Rattle.auth_server.specs.declared.serve.AuthEnd.{AuthEnd}
use Rattle.auth_server.specs.declared.serve.AuthEnd.TheVariants as e
use Rattle.auth_server.specs.Answers.{Knowledge, Posed, is_over_in}
use Rattle.auth_server.specs.Sessions.{exactly}
use Rattle.auth_server.specs.Serving.{EndsUnder, EndsWhole, IsSpentBy, Moment, Reads}
use Rattle.auth_server.proofs.ToldLaws.{GoesOnWith, Tells, goes_on_by, no_flood, no_torn, no_unknown, none_left, over_or_not, same_session, short_next, some_next}

module _ (tables : ℕ → Knowledge) (before now : Moment) (v : IsSpentBy tables before) where
  tells : Tells tables before v.requests v.behind
  tells = record { session = v.session; few = v.few; left = v.left; later = v.later; to_come = v.to_come }

  -- the session that is told goes on behind each that isn't over
  next : (requests : List Posed) (rest : List ℕ) → Reads (exactly tables) before now requests rest [] → is_over_in requests ≡ false → GoesOnWith v.requests requests
  next requests rest reads goes_on = elim (same_session tables before now v.requests v.behind tells requests rest reads) [
    | inl more ↦ by_more more.0 more.1
    | inr more ↦ absurd (over_or_not tables requests v.requests reads.session goes_on more.0 more.1 v.over)
  ]
    where
      by_more : (more : List Posed) → v.requests ≡ more ++ requests → GoesOnWith v.requests requests
      by_more [] is = absurd (let contra : true ≡ false = sym v.over ∙ (ap is_over_in is ∙ goes_on) in cc)
      by_more (first ∷ more) is = goes_on_by v.requests requests first more is

  no_end : EndsWhole (exactly tables) before now → ⊥
  no_end w =
      let reads = w.answers.reads in
      let with = next w.requests [] reads w.goes_on in
      let some = some_next tables before now v.requests v.behind tells w.requests [] reads with in
      let none = short_next tables before now v.requests v.behind tells w.requests [] reads with [] (none_left tables before now v.requests v.behind tells w.requests [] reads w.at_end) in
      absurd (omega (arith, some, none))

  pub served_spent : (end : AuthEnd) → EndsUnder (exactly tables) end before now → (end ≡ e.ReadFault → ⊥) → (end ≡ e.WriteFault → ⊥) → (end ≡ e.WordFault → ⊥) → (end ≡ e.TooManyWrong) ⊎ (end ≡ e.NoMemory)
  served_spent e.End h r w d = absurd (no_end h)
  served_spent (e.UnknownType at kind) h r w d = absurd (no_unknown tables before now v.requests v.behind tells at kind h (next h.requests _ h.answers.reads h.goes_on))
  served_spent (e.Torn at) h r w d = absurd (no_torn tables before now v.requests v.behind tells at h (next h.requests _ h.answers.reads h.goes_on))
  served_spent e.TooManyWrong h r w d = inl refl
  served_spent e.ReadFault h r w d = absurd (r refl)
  served_spent e.WriteFault h r w d = absurd (w refl)
  served_spent e.WordFault h r w d = absurd (d refl)
  served_spent e.Flood h r w d = absurd (no_flood tables before now v.requests v.behind tells h (next h.requests _ h.answers.reads h.goes_on))
  served_spent e.NoMemory h r w d = inr refl
