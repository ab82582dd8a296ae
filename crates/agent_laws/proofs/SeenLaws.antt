-- What else is read off the deeds that are in public: fids that are held, connections, conversations, and whether reads were
-- settled since the last sweep.
use Rattle.std.proofs.Common.{◌≡◌, ℕ, List, [], ◌∷◌, Bool, eqb, ◌||◌, refl, sym, ap, ◌∙◌}
use Rattle.std.specs.List.{list_any}
use Rattle.agent_history.specs.Deeds.{Deed, is_debug, OfFids, OfKeys, OfReplies, OfConnection, OfTalk, Raised, HandedOut, OfPrompts, OfLog, DropTaken, Swept, Halted, Versioned, Attached, Walked, Opened, Listed, Browsed, Clunked, Edited, Switched, Answered, Awaited, Settled, Flushed, Taken, Entered, Hung, held_by, is_halted, was_hung, was_opened}
use Rattle.agent_history.specs.Replies.{Wait, has_settled, waits, waits_for, waits_under}
use Rattle.agent_history.specs.Conversations.{opened_talks, speakers}
use Rattle.agent_laws.specs.Laws.{in_public}
use Rattle.agent_laws.proofs.PublicLaws.{any_saw, fid_public, saw, waits_public}

pub held_public : (done : List Deed) (conn : ℕ) → held_by (in_public done) conn ≡ held_by done conn
held_public [] conn = refl
held_public (OfFids at (Versioned msize) ∷ done) conn = rw (held_public done conn) refl
held_public (OfFids at (Attached f) ∷ done) conn = rw (fid_public done conn f, held_public done conn) refl
held_public (OfFids at (Walked f to) ∷ done) conn = rw (fid_public done conn f, held_public done conn) refl
held_public (OfFids at (Opened f mode) ∷ done) conn = held_public done conn
held_public (OfFids at (Listed f) ∷ done) conn = held_public done conn
held_public (OfFids at (Browsed f place) ∷ done) conn = held_public done conn
held_public (OfFids at (Clunked f) ∷ done) conn = rw (fid_public done conn f, held_public done conn) refl
held_public (OfKeys at (Edited edit) ∷ done) conn = held_public done conn
held_public (OfKeys at Switched ∷ done) conn = held_public done conn
held_public (OfReplies at (Answered tag body) ∷ done) conn = held_public done conn
held_public (OfReplies at (Awaited tag f count) ∷ done) conn = held_public done conn
held_public (OfReplies at (Settled tag body) ∷ done) conn = held_public done conn
held_public (OfReplies at (Flushed tag) ∷ done) conn = held_public done conn
held_public (OfReplies at Taken ∷ done) conn = held_public done conn
held_public (OfConnection at Entered ∷ done) conn = held_public done conn
held_public (OfConnection at Hung ∷ done) conn = rw (held_public done conn) refl
held_public (OfTalk talker call ∷ done) conn = held_public done conn
held_public (Raised talker ∷ done) conn = held_public done conn
held_public (HandedOut ∷ done) conn = held_public done conn
held_public (DropTaken ∷ done) conn = held_public done conn
held_public (OfPrompts about doing ∷ done) conn = held_public done conn
held_public (OfLog doing ∷ done) conn = held_public done conn
held_public (Swept ∷ done) conn = held_public done conn
held_public (Halted ∷ done) conn = refl

pub talks_public : (done : List Deed) → opened_talks (in_public done) ≡ opened_talks done
talks_public [] = refl
talks_public (OfFids at (Versioned msize) ∷ done) = talks_public done
talks_public (OfFids at (Attached f) ∷ done) = talks_public done
talks_public (OfFids at (Walked f to) ∷ done) = talks_public done
talks_public (OfFids at (Opened f mode) ∷ done) = rw (fid_public done at f, talks_public done) refl
talks_public (OfFids at (Listed f) ∷ done) = talks_public done
talks_public (OfFids at (Browsed f place) ∷ done) = talks_public done
talks_public (OfFids at (Clunked f) ∷ done) = talks_public done
talks_public (OfKeys at (Edited edit) ∷ done) = talks_public done
talks_public (OfKeys at Switched ∷ done) = talks_public done
talks_public (OfReplies at (Answered tag body) ∷ done) = talks_public done
talks_public (OfReplies at (Awaited tag f count) ∷ done) = talks_public done
talks_public (OfReplies at (Settled tag body) ∷ done) = talks_public done
talks_public (OfReplies at (Flushed tag) ∷ done) = talks_public done
talks_public (OfReplies at Taken ∷ done) = talks_public done
talks_public (OfConnection at Entered ∷ done) = talks_public done
talks_public (OfConnection at Hung ∷ done) = talks_public done
talks_public (OfTalk talker call ∷ done) = talks_public done
talks_public (Raised talker ∷ done) = talks_public done
talks_public (HandedOut ∷ done) = talks_public done
talks_public (DropTaken ∷ done) = talks_public done
talks_public (OfPrompts about doing ∷ done) = talks_public done
talks_public (OfLog doing ∷ done) = talks_public done
talks_public (Swept ∷ done) = talks_public done
talks_public (Halted ∷ done) = talks_public done

pub speakers_public : (done : List Deed) → speakers (in_public done) ≡ speakers done
speakers_public [] = refl
speakers_public (OfFids at (Versioned msize) ∷ done) = rw (speakers_public done) refl
speakers_public (OfFids at (Attached f) ∷ done) = speakers_public done
speakers_public (OfFids at (Walked f to) ∷ done) = speakers_public done
speakers_public (OfFids at (Opened f mode) ∷ done) = rw (fid_public done at f, talks_public done, speakers_public done) refl
speakers_public (OfFids at (Listed f) ∷ done) = speakers_public done
speakers_public (OfFids at (Browsed f place) ∷ done) = speakers_public done
speakers_public (OfFids at (Clunked f) ∷ done) = rw (speakers_public done) refl
speakers_public (OfKeys at (Edited edit) ∷ done) = speakers_public done
speakers_public (OfKeys at Switched ∷ done) = speakers_public done
speakers_public (OfReplies at (Answered tag body) ∷ done) = speakers_public done
speakers_public (OfReplies at (Awaited tag f count) ∷ done) = speakers_public done
speakers_public (OfReplies at (Settled tag body) ∷ done) = speakers_public done
speakers_public (OfReplies at (Flushed tag) ∷ done) = speakers_public done
speakers_public (OfReplies at Taken ∷ done) = speakers_public done
speakers_public (OfConnection at Entered ∷ done) = speakers_public done
speakers_public (OfConnection at Hung ∷ done) = rw (speakers_public done) refl
speakers_public (OfTalk talker call ∷ done) = speakers_public done
speakers_public (Raised talker ∷ done) = speakers_public done
speakers_public (HandedOut ∷ done) = speakers_public done
speakers_public (DropTaken ∷ done) = speakers_public done
speakers_public (OfPrompts about doing ∷ done) = speakers_public done
speakers_public (OfLog doing ∷ done) = speakers_public done
speakers_public (Swept ∷ done) = speakers_public done
speakers_public (Halted ∷ done) = refl

pub opened_public : (done : List Deed) (conn : ℕ) → was_opened (in_public done) conn ≡ was_opened done conn
opened_public [] conn = refl
opened_public (OfFids at (Versioned msize) ∷ done) conn = opened_public done conn
opened_public (OfFids at (Attached f) ∷ done) conn = opened_public done conn
opened_public (OfFids at (Walked f to) ∷ done) conn = opened_public done conn
opened_public (OfFids at (Opened f mode) ∷ done) conn = opened_public done conn
opened_public (OfFids at (Listed f) ∷ done) conn = opened_public done conn
opened_public (OfFids at (Browsed f place) ∷ done) conn = opened_public done conn
opened_public (OfFids at (Clunked f) ∷ done) conn = opened_public done conn
opened_public (OfKeys at (Edited edit) ∷ done) conn = opened_public done conn
opened_public (OfKeys at Switched ∷ done) conn = opened_public done conn
opened_public (OfReplies at (Answered tag body) ∷ done) conn = opened_public done conn
opened_public (OfReplies at (Awaited tag f count) ∷ done) conn = opened_public done conn
opened_public (OfReplies at (Settled tag body) ∷ done) conn = opened_public done conn
opened_public (OfReplies at (Flushed tag) ∷ done) conn = opened_public done conn
opened_public (OfReplies at Taken ∷ done) conn = opened_public done conn
opened_public (OfConnection at Entered ∷ done) conn = rw (opened_public done conn) refl
opened_public (OfConnection at Hung ∷ done) conn = opened_public done conn
opened_public (OfTalk talker call ∷ done) conn = opened_public done conn
opened_public (Raised talker ∷ done) conn = opened_public done conn
opened_public (HandedOut ∷ done) conn = opened_public done conn
opened_public (DropTaken ∷ done) conn = opened_public done conn
opened_public (OfPrompts about doing ∷ done) conn = opened_public done conn
opened_public (OfLog doing ∷ done) conn = opened_public done conn
opened_public (Swept ∷ done) conn = opened_public done conn
opened_public (Halted ∷ done) conn = opened_public done conn

pub hung_public : (done : List Deed) (conn : ℕ) → was_hung (in_public done) conn ≡ was_hung done conn
hung_public [] conn = refl
hung_public (OfFids at (Versioned msize) ∷ done) conn = hung_public done conn
hung_public (OfFids at (Attached f) ∷ done) conn = hung_public done conn
hung_public (OfFids at (Walked f to) ∷ done) conn = hung_public done conn
hung_public (OfFids at (Opened f mode) ∷ done) conn = hung_public done conn
hung_public (OfFids at (Listed f) ∷ done) conn = hung_public done conn
hung_public (OfFids at (Browsed f place) ∷ done) conn = hung_public done conn
hung_public (OfFids at (Clunked f) ∷ done) conn = hung_public done conn
hung_public (OfKeys at (Edited edit) ∷ done) conn = hung_public done conn
hung_public (OfKeys at Switched ∷ done) conn = hung_public done conn
hung_public (OfReplies at (Answered tag body) ∷ done) conn = hung_public done conn
hung_public (OfReplies at (Awaited tag f count) ∷ done) conn = hung_public done conn
hung_public (OfReplies at (Settled tag body) ∷ done) conn = hung_public done conn
hung_public (OfReplies at (Flushed tag) ∷ done) conn = hung_public done conn
hung_public (OfReplies at Taken ∷ done) conn = hung_public done conn
hung_public (OfConnection at Entered ∷ done) conn = hung_public done conn
hung_public (OfConnection at Hung ∷ done) conn = rw (hung_public done conn) refl
hung_public (OfTalk talker call ∷ done) conn = hung_public done conn
hung_public (Raised talker ∷ done) conn = hung_public done conn
hung_public (HandedOut ∷ done) conn = hung_public done conn
hung_public (DropTaken ∷ done) conn = hung_public done conn
hung_public (OfPrompts about doing ∷ done) conn = hung_public done conn
hung_public (OfLog doing ∷ done) conn = hung_public done conn
hung_public (Swept ∷ done) conn = hung_public done conn
hung_public (Halted ∷ done) conn = hung_public done conn

pub debug_public : (done : List Deed) → is_debug (in_public done) ≡ is_debug done
debug_public [] = refl
debug_public (OfFids at (Versioned msize) ∷ done) = debug_public done
debug_public (OfFids at (Attached f) ∷ done) = debug_public done
debug_public (OfFids at (Walked f to) ∷ done) = debug_public done
debug_public (OfFids at (Opened f mode) ∷ done) = debug_public done
debug_public (OfFids at (Listed f) ∷ done) = debug_public done
debug_public (OfFids at (Browsed f place) ∷ done) = debug_public done
debug_public (OfFids at (Clunked f) ∷ done) = debug_public done
debug_public (OfKeys at (Edited edit) ∷ done) = debug_public done
debug_public (OfKeys at Switched ∷ done) = rw (debug_public done) refl
debug_public (OfReplies at (Answered tag body) ∷ done) = debug_public done
debug_public (OfReplies at (Awaited tag f count) ∷ done) = debug_public done
debug_public (OfReplies at (Settled tag body) ∷ done) = debug_public done
debug_public (OfReplies at (Flushed tag) ∷ done) = debug_public done
debug_public (OfReplies at Taken ∷ done) = debug_public done
debug_public (OfConnection at Entered ∷ done) = debug_public done
debug_public (OfConnection at Hung ∷ done) = debug_public done
debug_public (OfTalk talker call ∷ done) = debug_public done
debug_public (Raised talker ∷ done) = debug_public done
debug_public (HandedOut ∷ done) = debug_public done
debug_public (DropTaken ∷ done) = debug_public done
debug_public (OfPrompts about doing ∷ done) = debug_public done
debug_public (OfLog doing ∷ done) = debug_public done
debug_public (Swept ∷ done) = debug_public done
debug_public (Halted ∷ done) = debug_public done

pub halted_public : (done : List Deed) → is_halted (in_public done) ≡ is_halted done
halted_public [] = refl
halted_public (OfFids at (Versioned msize) ∷ done) = halted_public done
halted_public (OfFids at (Attached f) ∷ done) = halted_public done
halted_public (OfFids at (Walked f to) ∷ done) = halted_public done
halted_public (OfFids at (Opened f mode) ∷ done) = halted_public done
halted_public (OfFids at (Listed f) ∷ done) = halted_public done
halted_public (OfFids at (Browsed f place) ∷ done) = halted_public done
halted_public (OfFids at (Clunked f) ∷ done) = halted_public done
halted_public (OfKeys at (Edited edit) ∷ done) = halted_public done
halted_public (OfKeys at Switched ∷ done) = halted_public done
halted_public (OfReplies at (Answered tag body) ∷ done) = halted_public done
halted_public (OfReplies at (Awaited tag f count) ∷ done) = halted_public done
halted_public (OfReplies at (Settled tag body) ∷ done) = halted_public done
halted_public (OfReplies at (Flushed tag) ∷ done) = halted_public done
halted_public (OfReplies at Taken ∷ done) = halted_public done
halted_public (OfConnection at Entered ∷ done) = halted_public done
halted_public (OfConnection at Hung ∷ done) = halted_public done
halted_public (OfTalk talker call ∷ done) = halted_public done
halted_public (Raised talker ∷ done) = halted_public done
halted_public (HandedOut ∷ done) = halted_public done
halted_public (DropTaken ∷ done) = halted_public done
halted_public (OfPrompts about doing ∷ done) = halted_public done
halted_public (OfLog doing ∷ done) = halted_public done
halted_public (Swept ∷ done) = halted_public done
halted_public (Halted ∷ done) = refl

under_public : (done : List Deed) (conn tag : ℕ) → waits_under (in_public done) conn tag ≡ waits_under done conn tag
under_public done conn tag = sym (any_saw tag (waits (in_public done) conn)) ∙ ap (list_any (λ w. eqb w.tag tag)) (waits_public done conn) ∙ any_saw tag (waits done conn)

any_fid : (fid : ℕ) (ws : List Wait) → list_any (λ w. eqb w.fid fid) (saw ws) ≡ list_any (λ w. eqb w.fid fid) ws
any_fid fid [] = refl
any_fid fid (w ∷ ws) = ap (λ (b : Bool). eqb w.fid fid || b) (any_fid fid ws)

for_public : (done : List Deed) (conn fid : ℕ) → waits_for (in_public done) conn fid ≡ waits_for done conn fid
for_public done conn fid = sym (any_fid fid (waits (in_public done) conn)) ∙ ap (list_any (λ w. eqb w.fid fid)) (waits_public done conn) ∙ any_fid fid (waits done conn)

pub settled_public : (done : List Deed) → has_settled (in_public done) ≡ has_settled done
settled_public [] = refl
settled_public (OfFids at (Versioned msize) ∷ done) = settled_public done
settled_public (OfFids at (Attached f) ∷ done) = settled_public done
settled_public (OfFids at (Walked f to) ∷ done) = settled_public done
settled_public (OfFids at (Opened f mode) ∷ done) = settled_public done
settled_public (OfFids at (Listed f) ∷ done) = settled_public done
settled_public (OfFids at (Browsed f place) ∷ done) = settled_public done
settled_public (OfFids at (Clunked f) ∷ done) = rw (for_public done at f, settled_public done) refl
settled_public (OfKeys at (Edited edit) ∷ done) = settled_public done
settled_public (OfKeys at Switched ∷ done) = settled_public done
settled_public (OfReplies at (Answered tag body) ∷ done) = settled_public done
settled_public (OfReplies at (Awaited tag f count) ∷ done) = settled_public done
settled_public (OfReplies at (Settled tag body) ∷ done) = rw (under_public done at tag, settled_public done) refl
settled_public (OfReplies at (Flushed tag) ∷ done) = settled_public done
settled_public (OfReplies at Taken ∷ done) = settled_public done
settled_public (OfConnection at Entered ∷ done) = settled_public done
settled_public (OfConnection at Hung ∷ done) = settled_public done
settled_public (OfTalk talker call ∷ done) = settled_public done
settled_public (Raised talker ∷ done) = settled_public done
settled_public (HandedOut ∷ done) = settled_public done
settled_public (DropTaken ∷ done) = settled_public done
settled_public (OfPrompts about doing ∷ done) = settled_public done
settled_public (OfLog doing ∷ done) = settled_public done
settled_public (Swept ∷ done) = refl
settled_public (Halted ∷ done) = refl
