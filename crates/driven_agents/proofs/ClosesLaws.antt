-- A fid that has rpc open is given up: the agent is idle again, other conversations and their questions stay, and no reply gives
-- what was read.
use Rattle.std.proofs.Common.{◌≡◌, ℕ, ◌<◌, ◌^◌, List, [], ◌∷◌, Bool, true, false, cond, eqb, ◌&&◌, Option, Some, None, refl, sym, ap, subst, ◌∙◌, arith}
use Rattle.std.specs.Prelude.{filter, find, option_map}
use Rattle.std.specs.List.{filter_map}
use Rattle.nine.specs.declared.message.TMsg.{TMsg}
use Rattle.nine.specs.declared.message.TBody.TheVariants as t
use Rattle.nine.specs.declared.message.RBody.{RBody}
use Rattle.nine.specs.Messages.{t_frame}
use Rattle.agent_history.specs.Deeds.{Deed, Swept}
use Rattle.agent_history.specs.Replies.{Wait, has_settled, is_unsettled, reply_in, swept, waits}
use Rattle.agent_history.specs.Conversations.{Speaker, asker, conv_of, opened_talks, speakers}
use Rattle.agent_history.specs.Requests.{Call, after, after_frame, answered, body_to, call_of, granted, replied, reply_of}
use Rattle.agent_history.specs.Histories.{History, deeds}
use Rattle.world_history.specs.Driving.{clunks, drive, no_word, replies_to}
use Rattle.driven_agents.specs.Idle.{AreRead, IsCalm, IsIdle, Runs}
use Rattle.driven_agents.proofs.AlikeLaws.{GivesNone, IsBare, body_bare, granted_keeps, own_gives_none, read_answered}
use Rattle.driven_agents.proofs.ClunkLaws.{EndsSo, clunk_ends, ends_not}
use Rattle.driven_agents.proofs.ExactLaws.{granted_only}
use Rattle.driven_agents.proofs.FoundLemmas.{found_kept}
use Rattle.driven_agents.proofs.IdleLaws.{asker_behind, idle_behind, seats_behind}
use Rattle.driven_agents.proofs.LeftLaws.{request_deeds, request_left, swept_replies}
use Rattle.driven_agents.proofs.RunLaws.{event_runs}
use Rattle.driven_agents.proofs.SeatLaws.{seat_off, seat_small}
use Rattle.driven_agents.proofs.IdleStillLaws.{IsStill, calm_of, still_answered, swept_settled, swept_still}
use Rattle.driven_agents.proofs.TakenLaws.{replies_so}
use Rattle.driven_agents.proofs.UnsettledLaws.{waits_at}

-- ---- its reply, and a sweep

ends_answered : (fid number : ℕ) (call : Call) (o : Option RBody) (done later : List Deed) → EndsSo fid number done later → EndsSo fid number done (replied call o later)
ends_answered fid number call None done later e = e
ends_answered fid number call (Some body) done later e = record {
  still = still_answered call.conn call.tag body later e.still;
  read = read_answered call.conn call.tag body later (speakers later) e.read;
  opened = e.opened;
  others = e.others;
  askers = e.askers;
  told = e.told;
}

-- a read that waits is found behind a sweep
swept_reader : (fid : ℕ) (ws : List Wait) → find (waits_at fid) (filter is_unsettled ws) ≡ find (waits_at fid) ws
swept_reader fid ws = found_kept (waits_at fid) is_unsettled ws (λ w at. unsettled (eqb w.fid fid) (is_unsettled w) at)
  where
    unsettled : (a b : Bool) → (a && b) ≡ true → b ≡ true
    unsettled true b at = at
    unsettled false b at = absurd cc

read_swept : (done : List Deed) (ss : List Speaker) → AreRead done ss → AreRead (Swept ∷ done) ss
read_swept done [] read = tt
read_swept done (s ∷ ss) read = (λ on. swept_reader s.fid (waits done 0) ∙ read.0 on, read_swept done ss read.1)

swept_read : (done : List Deed) → AreRead done (speakers done) → AreRead (swept done) (speakers (swept done))
swept_read done read = by_settled (has_settled done)
  where
    by_settled : (b : Bool) → AreRead (cond b (Swept ∷ done) done) (speakers (cond b (Swept ∷ done) done))
    by_settled true = read_swept done (speakers done) read
    by_settled false = read

-- so it is calm
calm_swept : (done : List Deed) → IsStill done → AreRead done (speakers done) → IsCalm (swept done)
calm_swept done still read = calm_of (swept done) (swept_still done still) (swept_settled done) (swept_read done read)

told_swept : (b : Bool) (done : List Deed) → GivesNone (filter_map reply_in (waits done 0)) → GivesNone (cond b (filter_map reply_in (waits done 0)) [])
told_swept true done told = told
told_swept false done told = tt

same_swept : {X : Type 0} (f : List Deed → X) → ((d : List Deed) → f (Swept ∷ d) ≡ f d) → (done : List Deed) → f (swept done) ≡ f done
same_swept {X} f one done = by_settled (has_settled done)
  where
    by_settled : (b : Bool) → f (cond b (Swept ∷ done) done) ≡ f done
    by_settled true = one done
    by_settled false = refl

-- ---- the event

abbrev close_asked : ℕ → TMsg
close_asked fid = record { tag = 0; body = t.Clunk fid }

abbrev close_frame : ℕ → List ℕ
close_frame fid = t_frame (close_asked fid)

abbrev close_call : ℕ → Call
close_call fid = call_of 0 (close_frame fid) no_word

clunk_bare : (done : List Deed) (call : Call) (fid : ℕ) → IsBare (reply_of done call (t.Clunk fid))
unfolding reply_of
clunk_bare done call fid = refl

frame_ends : (fid number : ℕ) (h : History) → IsCalm (deeds h) → conv_of (deeds h) 0 fid ≡ Some number → EndsSo fid number (deeds h) (after_frame (deeds h) (close_call fid) (close_frame fid))
unfolding after_frame
frame_ends fid number h c seat =
    let done = deeds h in
    let call = close_call fid in
    let small : fid < 2 ^ 32 = omega (arith, seat_small done fid number c seat) in
    granted_keeps (EndsSo fid number done) done call (granted done call (close_frame fid)) (ends_not fid number done c)
    (granted_only (λ body. EndsSo fid number done (after done call body)) done call (close_asked fid) (omega arith) small (clunk_ends fid number call h refl c (seat_off h fid number c seat) seat))

frame_bare : (fid number : ℕ) (done : List Deed) → IsCalm done → conv_of done 0 fid ≡ Some number → IsBare (body_to done (close_call fid) (close_frame fid))
unfolding body_to
frame_bare fid number done c seat =
    let call = close_call fid in
    let small : fid < 2 ^ 32 = omega (arith, seat_small done fid number c seat) in
    body_bare done call (granted done call (close_frame fid)) (granted_only (λ body. IsBare (reply_of done call body)) done call (close_asked fid) (omega arith) small (clunk_bare done call fid))

pub record CloseSo (fid number : ℕ) (h : History) : Type 0 where
  pub idle : IsIdle (drive (clunks fid) h)
  pub opened : opened_talks (deeds (drive (clunks fid) h)) ≡ opened_talks (deeds h)
  pub others : (other : ℕ) → eqb other fid ≡ false → conv_of (deeds (drive (clunks fid) h)) 0 other ≡ conv_of (deeds h) 0 other
  pub askers : (call n : ℕ) → asker (deeds h) call ≡ Some n → eqb n number ≡ false → asker (deeds (drive (clunks fid) h)) call ≡ Some n
  pub replies : GivesNone (replies_to (clunks fid) h)

pub close_is : (fid number : ℕ) (h : History) → IsIdle h → conv_of (deeds h) 0 fid ≡ Some number → Runs (drive (clunks fid) h) → CloseSo fid number h
close_is fid number h idle seat runs =
    let c = idle.calm in
    let done = deeds h in
    let call = close_call fid in
    let frame = close_frame fid in
    let o = body_to done call frame in
    let all = answered done call frame in
    let once = event_runs (clunks fid) h runs in
    let is : deeds (clunks fid ∷ h) ≡ swept all = request_deeds frame no_word h once c.entered c.there in
    let e = ends_answered fid number call o done (after_frame done call frame) (frame_ends fid number h c seat) in
    let now : IsCalm (deeds (clunks fid ∷ h)) = subst IsCalm (sym is) (calm_swept all e.still e.read) in
    let behind = seats_behind (clunks fid) h runs now.entered in
    record {
      idle = idle_behind (clunks fid) h now runs;
      opened = behind.opened ∙ (ap opened_talks is ∙ (same_swept opened_talks (λ d. refl) all ∙ e.opened));
      others = λ other apart. ap (λ ss. option_map (λ s. s.conv) (find (λ s. eqb s.conn 0 && eqb s.fid other) ss)) behind.speakers ∙ (ap (λ d. conv_of d 0 other) is ∙ (same_swept (λ d. conv_of d 0 other) (λ d. refl) all ∙ e.others other apart));
      askers = λ n m asks apart. asker_behind (clunks fid) h n runs now.entered ∙ (ap (λ d. asker d n) is ∙ (same_swept (λ d. asker d n) (λ d. refl) all ∙ e.askers n m asks apart));
      replies = subst GivesNone (sym (replies_so (clunks fid) h now.there runs ∙ request_left frame no_word h once c.entered c.there idle.taken))
          (own_gives_none call o (swept_replies all) (frame_bare fid number done c seat) (told_swept (has_settled all) all e.told));
    }
