-- What holds of every list of deeds: no more replies are taken than were given.
use Rattle.std.proofs.Common.{ℕ, ◌≤◌, List, [], ◌∷◌, length, reverse, eqb, ltb, ◌&&◌, inl, inr, arith, length-append}
use Rattle.std.specs.List.{filter_map}
use Rattle.std.proofs.lemmas.Bool.{cases_Bool, and_parts, ltb-true}
use Rattle.agent_history.specs.Deeds.{Deed, OfFids, OfKeys, OfReplies, OfConnection, OfTalk, Raised, HandedOut, OfPrompts, OfLog, DropTaken, Swept, Halted, Answered, Awaited, Settled, Flushed, Taken}
use Rattle.agent_history.specs.Replies.{replies, reply_in, taken, waits}

-- no more replies are taken than were given
pub taken_given : (done : List Deed) (conn : ℕ) → taken done conn ≤ length (replies done conn)
taken_given [] conn = omega arith
taken_given (OfReplies at (Answered tag body) ∷ done) conn = elim (cases_Bool (eqb at conn)) [
  | inl now ↦ rw now (omega (arith, taken_given done conn))
  | inr not_now ↦ rw not_now (taken_given done conn)
]
taken_given (OfReplies at Taken ∷ done) conn = elim (cases_Bool (eqb at conn && ltb (taken done conn) (length (replies done conn)))) [
  | inl now ↦ rw now (omega (arith, ltb-true _ _ (and_parts (eqb at conn) _ now).1))
  | inr not_now ↦ rw not_now (taken_given done conn)
]
taken_given (OfReplies at (Awaited tag fid count) ∷ done) conn = taken_given done conn
taken_given (OfReplies at (Settled tag body) ∷ done) conn = taken_given done conn
taken_given (OfReplies at (Flushed tag) ∷ done) conn = taken_given done conn
taken_given (OfFids at deed ∷ done) conn = taken_given done conn
taken_given (OfKeys at deed ∷ done) conn = taken_given done conn
taken_given (OfConnection at deed ∷ done) conn = taken_given done conn
taken_given (OfTalk conv call ∷ done) conn = taken_given done conn
taken_given (Raised conv ∷ done) conn = taken_given done conn
taken_given (HandedOut ∷ done) conn = taken_given done conn
taken_given (DropTaken ∷ done) conn = taken_given done conn
taken_given (OfPrompts about doing ∷ done) conn = taken_given done conn
taken_given (OfLog doing ∷ done) conn = taken_given done conn
taken_given (Swept ∷ done) conn = omega (arith, length-append (reverse (filter_map reply_in (waits done conn))) (replies done conn), taken_given done conn)
taken_given (Halted ∷ done) conn = taken_given done conn
