-- A fid that opens a file leaves the agent idle; where rpc is opened by a fid that comes to it, a conversation stands that is
-- the next, and others stay.
use Rattle.std.proofs.Common.{◌≡◌, ℕ, ◌+◌, ◌<◌, List, [], ◌∷◌, ◌++◌, Bool, true, false, cond, eqb, ltb, ◌||◌, codes, Some, None, refl, sym, ap, subst, ◌∙◌, arith}
use Rattle.std.specs.Prelude.{find, option_map}
use Rattle.std.specs.List.{list_all}
use Rattle.std.proofs.lemmas.Bool.{and_from, and_parts, lt-ltb}
use Rattle.nine.specs.declared.message.TMsg.{TMsg}
use Rattle.nine.specs.declared.message.TBody.TheVariants as t
use Rattle.nine.specs.Messages.{t_frame}
use Rattle.file_tree.specs.declared.tree.Node.TheVariants.{Rpc}
use Rattle.file_tree.specs.Calls.{at_rest, opened}
use Rattle.roles.specs.Answers.{IsExchange}
use Rattle.talks.specs.Standings.{OnServer, need_in, standing}
use Rattle.agent_history.specs.Deeds.{Deed, OfFids, Opened, fid_of, names}
use Rattle.agent_history.specs.Conversations.{Question, Speaker, asker, conv_of, opened_talks, questions, speakers, standing_of, talk}
use Rattle.agent_history.specs.Requests.{Call, after, after_frame, call_of, granted}
use Rattle.agent_history.specs.Histories.{History, deeds}
use Rattle.agent_laws.proofs.KindLaws.{same_number}
use Rattle.driven_agents.proofs.NamesLaws.{to_rpc}
use Rattle.world_history.specs.Driving.{drive, is_refused, no_word, opens, refuses_open, replies_to, walked, walks}
use Rattle.world_history.specs.Driving as driving
use Rattle.driven_agents.specs.Idle.{AreRead, IsCalm, IsIdle, IsRead, Runs}
use Rattle.driven_agents.proofs.AlikeLaws.{granted_keeps}
use Rattle.driven_agents.proofs.AskedLemmas.{needs_exchange}
use Rattle.driven_agents.proofs.ExactLaws.{granted_only}
use Rattle.driven_agents.proofs.FoundLemmas.{all_pass, found_before, found_last, none_by}
use Rattle.driven_agents.proofs.GrantLaws.{asker_then, calm_event, granted_after, granted_so, opened_then, speakers_then, talk_then}
use Rattle.driven_agents.proofs.IdleLaws.{idle_behind}
use Rattle.driven_agents.proofs.RunLaws.{drive_runs, event_runs}
use Rattle.driven_agents.proofs.SeatLaws.{all_seated, has_seat, is_at}
use Rattle.driven_agents.proofs.IdleStillLaws.{all_behind}
use Rattle.driven_agents.proofs.WalkLaws.{at_rpc, rpc_string, walk_is}

-- ---- the request

abbrev pub open_asked : ℕ → TMsg
open_asked fid = record { tag = 0; body = t.Open fid 2 }

abbrev pub open_frame : ℕ → List ℕ
open_frame fid = t_frame (open_asked fid)

abbrev pub open_call : ℕ → Call
open_call fid = call_of 0 (open_frame fid) no_word

-- the next conversation
abbrev pub seat_of : ℕ → List Deed → Speaker
seat_of fid done = record { conv = opened_talks done; conn = 0; fid = fid }

-- ---- what it does

-- one that was never started isn't on the authentication server
not_begun : (h : History) (n : ℕ) → (standing_of (deeds h) n).begun ≡ None → (standing_of (deeds h) n).phase ≡ OnServer → ⊥
not_begun h n none on = subst (λ o. IsExchange (need_in o)) none (needs_exchange (talk (deeds h) n) on)

read_more : (fid mode : ℕ) (done : List Deed) (ss : List Speaker) → AreRead done ss → AreRead (OfFids 0 (Opened fid mode) ∷ done) ss
read_more fid mode done [] read = tt
read_more fid mode done (s ∷ ss) read = (read.0, read_more fid mode done ss read.1)

read_last : (done : List Deed) (ss : List Speaker) (s : Speaker) → AreRead done ss → IsRead done s → AreRead done (ss ++ s ∷ [])
read_last done [] s read is = (is, tt)
read_last done (x ∷ ss) s read is = (read.0, read_last done ss s read.1 is)

-- of rpc or of another file
all_or : (b : Bool) (p : Speaker → Bool) (ss : List Speaker) (s : Speaker) → list_all p ss ≡ true → p s ≡ true → list_all p (cond b (ss ++ s ∷ []) ss) ≡ true
all_or true p ss s all is = all_behind p ss s all is
all_or false p ss s all is = all

read_or : (b : Bool) (done : List Deed) (ss : List Speaker) (s : Speaker) → AreRead done ss → IsRead done s → AreRead done (cond b (ss ++ s ∷ []) ss)
read_or true done ss s read is = read_last done ss s read is
read_or false done ss s read is = read

open_calm : (fid : ℕ) (h : History) → IsCalm (deeds h) → fid < 65535 → eqb fid 0 ≡ false → (standing_of (deeds h) (opened_talks (deeds h))).begun ≡ None → IsCalm (OfFids 0 (Opened fid 2) ∷ deeds h)
open_calm fid h c small off new =
    let done = deeds h in
    let b = names Rpc (fid_of done 0 fid) in
    let s = seat_of fid done in
    record {
      names = c.names;
      entered = c.entered;
      there = c.there;
      msize = c.msize;
      alone = all_or b (λ s. eqb s.conn 0) (speakers done) s c.alone refl;
      root = ap (λ b. cond b (opened 2 (fid_of done 0 0)) (fid_of done 0 0)) off ∙ c.root;
      small = all_or b (λ s. ltb s.fid 65535) (speakers done) s c.small (lt-ltb fid 65535 small);
      tagged = c.tagged;
      counted = c.counted;
      settled = c.settled;
      read = read_or b (OfFids 0 (Opened fid 2) ∷ done) (speakers done) s (read_more fid 2 done (speakers done) c.read) (λ on. absurd (not_begun h (opened_talks done) new on));
    }

-- its questions stay
any_more : (ss : List Speaker) (s : Speaker) (q : Question) → has_seat ss q ≡ true → has_seat (ss ++ s ∷ []) q ≡ true
any_more [] s q any = absurd cc
any_more (x ∷ ss) s q any = by_first (eqb x.conv q.conv) any (any_more ss s q)
  where
    by_first : (b : Bool) → (b || has_seat ss q) ≡ true → (has_seat ss q ≡ true → has_seat (ss ++ s ∷ []) q ≡ true) → (b || has_seat (ss ++ s ∷ []) q) ≡ true
    by_first true any more = refl
    by_first false any more = more any

seats_more : (b : Bool) (ss : List Speaker) (s : Speaker) (qs : List Question) → list_all (has_seat ss) qs ≡ true → list_all (has_seat (cond b (ss ++ s ∷ []) ss)) qs ≡ true
seats_more false ss s qs all = all
seats_more true ss s [] all = refl
seats_more true ss s (q ∷ qs) all =
    let parts = and_parts (has_seat ss q) (list_all (has_seat ss) qs) all in
    and_from (has_seat (ss ++ s ∷ []) q) (list_all (has_seat (ss ++ s ∷ [])) qs) (any_more ss s q parts.0) (seats_more true ss s qs parts.1)

-- of an agent before and behind it
pub record OpenedSo (done later : List Deed) : Type 0 where
  pub calm : IsCalm later
  pub asked : questions later ≡ questions done
  pub talks : (conv : ℕ) → talk later conv ≡ talk done conv

opens_so : (call : Call) (fid : ℕ) (h : History) → call.conn ≡ 0 → IsCalm (deeds h) → fid < 65535 → eqb fid 0 ≡ false → (standing_of (deeds h) (opened_talks (deeds h))).begun ≡ None → OpenedSo (deeds h) (after (deeds h) call (t.Open fid 2))
unfolding after
opens_so call fid h on c small off new =
    let done = deeds h in
    subst (λ conn. OpenedSo done (OfFids conn (Opened fid 2) ∷ done)) (sym on) (record {
      calm = open_calm fid h c small off new;
      asked = all_pass (has_seat (cond (names Rpc (fid_of done 0 fid)) (speakers done ++ seat_of fid done ∷ []) (speakers done))) (questions done) (seats_more (names Rpc (fid_of done 0 fid)) (speakers done) (seat_of fid done) (questions done) (all_seated h));
      talks = λ conv. refl;
    })

-- where rpc is opened
rpc_opened : (call : Call) (fid : ℕ) (done : List Deed) → call.conn ≡ 0 → fid_of done 0 fid ≡ Some (at_rest Rpc) → (speakers (after done call (t.Open fid 2)) ≡ speakers done ++ seat_of fid done ∷ []) × (opened_talks (after done call (t.Open fid 2)) ≡ opened_talks done + 1)
unfolding after
rpc_opened call fid done on rests =
    subst (λ conn. (speakers (OfFids conn (Opened fid 2) ∷ done) ≡ speakers done ++ seat_of fid done ∷ []) × (opened_talks (OfFids conn (Opened fid 2) ∷ done) ≡ opened_talks done + 1)) (sym on)
    (ap (λ o. cond (names Rpc o) (speakers done ++ seat_of fid done ∷ []) (speakers done)) rests, ap (λ o. cond (names Rpc o) (opened_talks done + 1) (opened_talks done)) rests)

-- ---- behind it

pub record OpenSo (fid : ℕ) (h : History) : Type 0 where
  pub calm : IsCalm (deeds (opens fid ∷ h))
  pub idle : IsIdle (drive (opens fid) h)
  pub askers : (call : ℕ) → asker (deeds (drive (opens fid) h)) call ≡ asker (deeds h) call
  pub talks : (conv : ℕ) → talk (deeds (drive (opens fid) h)) conv ≡ talk (deeds h) conv

pub open_is : (fid : ℕ) (h : History) → IsIdle h → fid < 65535 → eqb fid 0 ≡ false → (standing_of (deeds h) (opened_talks (deeds h))).begun ≡ None → Runs (drive (opens fid) h) → OpenSo fid h
unfolding after_frame
open_is fid h idle small off new runs =
    let c = idle.calm in
    let done = deeds h in
    let call = open_call fid in
    let frame = open_frame fid in
    let a : OpenedSo done (after_frame done call frame) = granted_keeps (OpenedSo done) done call (granted done call frame) (record { calm = c; asked = refl; talks = λ conv. refl })
    (granted_only (λ body. OpenedSo done (after done call body)) done call (open_asked fid) (omega arith) (omega arith, omega arith) (opens_so call fid h refl c small off new)) in
    let now = calm_event frame no_word h c (event_runs (opens fid) h runs) a.calm in
    record {
      calm = now;
      idle = idle_behind (opens fid) h now runs;
      askers = λ n. asker_then frame no_word h c runs now n ∙ ap (λ qs. option_map (λ q. q.conv) (find (λ q. eqb q.call n) qs)) a.asked;
      talks = λ conv. talk_then frame no_word h c runs now conv ∙ a.talks conv;
    }

-- ---- a conversation

-- behind a fid that came to rpc and opened it
pub record SeatSo (fid : ℕ) (h : History) : Type 0 where
  pub idle : IsIdle (driving.opened fid h)
  pub opened : opened_talks (deeds (driving.opened fid h)) ≡ opened_talks (deeds h) + 1
  pub seat : conv_of (deeds (driving.opened fid h)) 0 fid ≡ Some (opened_talks (deeds h))
  pub others : (other : ℕ) → eqb fid other ≡ false → conv_of (deeds (driving.opened fid h)) 0 other ≡ conv_of (deeds h) 0 other
  pub askers : (call : ℕ) → asker (deeds (driving.opened fid h)) call ≡ asker (deeds h) call
  pub talks : (conv : ℕ) → talk (deeds (driving.opened fid h)) conv ≡ talk (deeds h) conv

both_granted : (a b : Bool) → cond a true b ≡ false → (a ≡ false) × (b ≡ false)
both_granted true b none = absurd cc
both_granted false b none = (refl, none)

pub seat_is : (fid : ℕ) (h : History) → IsIdle h → fid < 65535 → eqb fid 0 ≡ false → (standing_of (deeds h) (opened_talks (deeds h))).begun ≡ None → Runs (driving.opened fid h) → refuses_open fid h ≡ false → SeatSo fid h
seat_is fid h idle small off new runs none =
    let parts = both_granted (is_refused (replies_to (walks fid (codes "rpc")) h)) (is_refused (replies_to (opens fid) (walked fid h))) none in
    let on = walked fid h in
    let on_runs = drive_runs (opens fid) on runs in
    let w = walk_is fid (codes "rpc") h idle small off rpc_string to_rpc on_runs in
    let at = at_rpc fid h idle small w.calm on_runs parts.0 in
    let done = deeds on in
    let still : (standing_of done (opened_talks done)).begun ≡ None = ap (λ n. (standing_of done n).begun) w.seats.opened ∙ (ap (λ talk. (standing talk).begun) (w.talks (opened_talks (deeds h))) ∙ new) in
    let o = open_is fid on w.idle small off still runs in
    let g = granted_so (open_asked fid) no_word on (omega arith) (omega arith, omega arith) w.idle runs o.calm parts.1 in
    let frame = open_frame fid in
    let is = granted_after (open_asked fid) no_word on g in
    let seated = rpc_opened (open_call fid) fid done refl at.rests in
    let ss : speakers (deeds (driving.opened fid h)) ≡ speakers (deeds h) ++ seat_of fid (deeds h) ∷ []
    = speakers_then frame no_word on w.idle.calm runs o.calm ∙ (ap speakers is ∙ (seated.0 ∙ (ap (λ ss. ss ++ seat_of fid done ∷ []) w.seats.speakers ∙ ap (λ n. speakers (deeds h) ++ record { conv = n; conn = 0; fid = fid } ∷ []) w.seats.opened))) in
    let free = none_by (λ s. s.conv) (find (is_at fid) (speakers (deeds h))) at.free in
    record {
      idle = o.idle;
      opened = opened_then frame no_word on w.idle.calm runs o.calm ∙ (ap opened_talks is ∙ (seated.1 ∙ ap (λ n. n + 1) w.seats.opened));
      seat = ap (λ ss. option_map (λ s. s.conv) (find (is_at fid) ss)) ss ∙ ap (option_map (λ s. s.conv)) (found_last (is_at fid) (speakers (deeds h)) (seat_of fid (deeds h)) free (same_number fid));
      others = λ other apart. ap (λ ss. option_map (λ s. s.conv) (find (is_at other) ss)) ss ∙ ap (option_map (λ s. s.conv)) (found_before (is_at other) (speakers (deeds h)) (seat_of fid (deeds h)) apart);
      askers = λ n. o.askers n ∙ w.askers n;
      talks = λ conv. o.talks conv ∙ w.talks conv;
    }
