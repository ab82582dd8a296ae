-- A conversation that is opened on an agent that serves none, and one that is closed: neither is refused.
use Rattle.std.proofs.Common.{◌≡◌, ℕ, ◌+◌, ◌≤◌, List, [], ◌∷◌, ◌++◌, map, true, false, cond, eqb, ltb, ◌||◌, codes, length, Option, Some, None, refl, sym, ap, subst, ◌∙◌, arith}
use Rattle.std.specs.Prelude.{filter}
use Rattle.std.specs.List.{list_any}
use Rattle.std.specs.Str.{is_utf8, chars}
use lib.Utf8.{encode}
use Rattle.wire_base.specs.Readers.{IsString}
use Rattle.wire_base.specs.Texts.{is_text}
use Rattle.nine.specs.declared.message.RMsg.{RMsg}
use Rattle.nine.specs.declared.message.RBody.TheVariants as r
use Rattle.nine.specs.declared.message.TMsg.{TMsg}
use Rattle.nine.specs.declared.message.TBody.TheVariants as t
use Rattle.nine.specs.Messages.{frame, t_fits, t_frame}
use Rattle.file_tree.specs.declared.tree.Node.TheVariants.{Rpc}
use Rattle.file_tree.specs.declared.tree.FidState.{FidState}
use Rattle.file_tree.specs.Tree.{lead_to, qid_of, step, visited}
use Rattle.file_tree.specs.Calls.{at_rest, attached, node_of, opened}
use Rattle.key_lists.specs.Lists.{KeyList}
use Rattle.talks.specs.Standings.{Standing, untouched}
use Rattle.agent_history.specs.Deeds.{Deed, OfFids, Clunked, Opened, Walked, fid_of, names, one_less, one_more}
use Rattle.agent_history.specs.Replies.{fid_given_up, has_settled, settle_fid, waits}
use Rattle.agent_history.specs.Conversations.{ended_by, opened_talks, speakers, standing_of}
use Rattle.agent_history.specs.Requests.{Call, after, call_of, reply_of, walking}
use Rattle.agent_history.specs.Histories.{History, deeds}
use Rattle.world_history.specs.Driving.{clunks, drive, is_refused, no_word, opens, refuses_open, replies_to, walked, walks}
use Rattle.world_history.specs.Driving as driving
use Rattle.driven_agents.specs.Idle.{AreRead, IsCalm, IsIdle, Runs}
use Rattle.driven_agents.proofs.ClunkLaws.{clunk_ends, clunk_is, gone_by, withdrawn_keeps}
use Rattle.driven_agents.proofs.GrantLaws.{calm_event}
use Rattle.driven_agents.proofs.IdleStillLaws.{IsStill, calm_of}
use Rattle.driven_agents.proofs.NamesLaws.{to_rpc}
use Rattle.driven_agents.proofs.OpensLaws.{open_asked, open_is}
use Rattle.driven_agents.proofs.RunLaws.{drive_runs, event_runs}
use Rattle.driven_agents.proofs.SeatLaws.{stays}
use Rattle.driven_agents.proofs.WalkLaws.{rpc_string, walk_asked, walk_is, way_to}
use Rattle.driven_agents.proofs.WriteLaws.{quiet_deeds}
use Rattle.world_promises.proofs.EventDeeds.{frame_by}
use Rattle.world_promises.proofs.GrantedLaws.{clunk_none, granted_plain, open_none, walk_none}
use Rattle.world_promises.proofs.DrivenTurns.{Sits, seated, there}
use Rattle.world_promises.proofs.SightLaws.{Sight, comes_granted, restand, sight}
use Rattle.std.specs.Prelude.{Ok}

-- nobody is there, and no conversation of this number on met anything
abbrev pub unseated : ℕ → KeyList → Standing → Sight
unseated k keys s = record { keys = keys; waiting = []; own = None; held = 2; seated = []; numbered = k; stands = s }

pub record Rests (k : ℕ) (keys : KeyList) (h : History) : Type 0 where
  pub idle : IsIdle h
  pub sees : (m : ℕ) → k ≤ m → sight m (deeds h) ≡ unseated k keys untouched

-- ---- it is opened

factotum_string : IsString (codes "factotum")
unfolding is_text is_utf8 chars encode
factotum_string = record { short = omega arith; text = refl }

walk_fits : t_fits (t.Walk 0 2 (way_to (codes "rpc")))
walk_fits = ((omega arith, omega arith), record { few = omega arith; each = (factotum_string, (rpc_string, tt)) })

walk_short : ltb 8216 (length (t_frame (walk_asked 2 (codes "rpc")))) ≡ false
unfolding frame
walk_short = refl

open_short : ltb 8216 (length (t_frame (open_asked 2))) ≡ false
unfolding frame
open_short = refl

leads_there : (o : Option FidState) → o ≡ attached → lead_to (node_of o) (way_to (codes "rpc")) ≡ Some Rpc
unfolding step
leads_there o is = ap (λ o. lead_to (node_of o) (way_to (codes "rpc"))) is

walk_does : (done : List Deed) (call : Call) → call.conn ≡ 0 → fid_of done 0 0 ≡ attached → after done call (t.Walk 0 2 (way_to (codes "rpc"))) ≡ OfFids 0 (Walked 2 Rpc) ∷ done
unfolding after
walk_does done call on root =
    ap (λ conn. walking conn 2 (lead_to (node_of (fid_of done conn 0)) (way_to (codes "rpc"))) done) on
    ∙ ap (λ o. walking 0 2 o done) (leads_there (fid_of done 0 0) root)

walk_replies : (done : List Deed) (call : Call) → reply_of done call (t.Walk 0 2 (way_to (codes "rpc"))) ≡ Some (r.Walk (map qid_of (visited (node_of (fid_of done call.conn 0)) (way_to (codes "rpc")))))
unfolding reply_of
walk_replies done call = refl

open_does : (done : List Deed) (call : Call) → call.conn ≡ 0 → after done call (t.Open 2 2) ≡ OfFids 0 (Opened 2 2) ∷ done
unfolding after
open_does done call on = ap (λ conn. OfFids conn (Opened 2 2) ∷ done) on

open_replies : (done : List Deed) (call : Call) → reply_of done call (t.Open 2 2) ≡ Some (r.Open (qid_of (node_of (fid_of done call.conn 2))) 0)
unfolding reply_of
open_replies done call = refl

-- at rest on rpc
abbrev on_rpc : ℕ → KeyList → Standing → Sight
on_rpc k keys s = record { keys = keys; waiting = []; own = Some (at_rest Rpc); held = 3; seated = []; numbered = k; stands = s }

by_walk : Sight → Sight
by_walk v = record { keys = v.keys; waiting = v.waiting; own = Some (at_rest Rpc); held = one_more v.own v.held; seated = v.seated; numbered = v.numbered; stands = v.stands }

walked_sees : (m k : ℕ) (keys : KeyList) (s : Standing) (done : List Deed) → sight m done ≡ unseated k keys s → sight m (OfFids 0 (Walked 2 Rpc) ∷ done) ≡ on_rpc k keys s
unfolding by_walk
walked_sees m k keys s done sees = ap by_walk sees

by_open : Sight → Sight
by_open v = record {
  keys = v.keys;
  waiting = v.waiting;
  own = opened 2 v.own;
  held = v.held;
  seated = cond (names Rpc v.own) (v.seated ++ record { conv = v.numbered; conn = 0; fid = 2 } ∷ []) v.seated;
  numbered = cond (names Rpc v.own) (v.numbered + 1) v.numbered;
  stands = v.stands;
}

opened_sees : (m k : ℕ) (keys : KeyList) (s : Standing) (done : List Deed) → sight m done ≡ on_rpc k keys s → sight m (OfFids 0 (Opened 2 2) ∷ done) ≡ seated k keys [] s
unfolding by_open
opened_sees m k keys s done sees = ap by_open sees

-- the fid comes to rpc
record IsWalked (k : ℕ) (keys : KeyList) (h : History) : Type 0 where
  taken : is_refused (replies_to (walks 2 (codes "rpc")) h) ≡ false
  idle : IsIdle (walked 2 h)
  sees : (m : ℕ) → k ≤ m → sight m (deeds (walked 2 h)) ≡ on_rpc k keys untouched

walk_goes : (k : ℕ) (keys : KeyList) (h : History) → Rests k keys h → Runs (walked 2 h) → IsWalked k keys h
walk_goes k keys h rests runs =
    let asked = walk_asked 2 (codes "rpc") in
    let done = deeds h in
    let call : Call = call_of 0 (t_frame asked) no_word in
    let c = rests.idle.calm in
    let sees = rests.sees k (omega arith) in
    let none = walk_none done call c.root (ap (λ v. v.own) sees) (ap (λ v. v.held) sees) in
    let g = granted_plain done call asked (omega arith) walk_fits c.msize walk_short refl (ap (λ v. v.waiting) sees) none in
    let w = walk_is 2 (codes "rpc") h rests.idle (omega arith) refl rpc_string to_rpc runs in
    let came = comes_granted asked no_word h (OfFids 0 (Walked 2 Rpc) ∷ done) (Some (r.Walk (map qid_of (visited (node_of (fid_of done 0 0)) (way_to (codes "rpc")))))) rests.idle runs g (walk_does done call refl c.root) (walk_replies done call) w.calm c.settled in
    record {
      taken = ap is_refused came.replies;
      idle = came.idle;
      sees = λ m from. came.sees m ∙ walked_sees m k keys untouched done (rests.sees m from);
    }

pub record IsOpened (k : ℕ) (keys : KeyList) (h : History) : Type 0 where
  pub taken : refuses_open 2 h ≡ false
  pub sits : Sits k keys untouched (driving.opened 2 h)

pub open_goes : (k : ℕ) (keys : KeyList) (h : History) → Rests k keys h → Runs (driving.opened 2 h) → IsOpened k keys h
open_goes k keys h rests runs =
    let on = walked 2 h in
    let w = walk_goes k keys h rests (drive_runs (opens 2) on runs) in
    let asked = open_asked 2 in
    let done = deeds on in
    let call : Call = call_of 0 (t_frame asked) no_word in
    let c = w.idle.calm in
    let sees = w.sees k (omega arith) in
    let none = open_none done call (ap (λ v. v.own) sees) (ap (λ v. v.seated) sees) in
    let g = granted_plain done call asked (omega arith) (omega arith, omega arith) c.msize open_short refl (ap (λ v. v.waiting) sees) none in
    let new : (standing_of done (opened_talks done)).begun ≡ None = ap (λ n. (standing_of done n).begun) (ap (λ v. v.numbered) sees) ∙ ap (λ v. v.stands.begun) sees in
    let o = open_is 2 on w.idle (omega arith) refl new runs in
    let came = comes_granted asked no_word on (OfFids 0 (Opened 2 2) ∷ done) (Some (r.Open (qid_of (node_of (fid_of done 0 2))) 0)) w.idle runs g (open_does done call refl) (open_replies done call) o.calm c.settled in
    let not_refused : is_refused (replies_to (opens 2) on) ≡ false = ap is_refused came.replies in
    record {
      taken = ap (λ b. cond b true (is_refused (replies_to (opens 2) on))) w.taken ∙ not_refused;
      sits = record {
        idle = came.idle;
        sees = came.sees k ∙ opened_sees k k keys untouched done sees;
        fresh = λ m below. ap (λ v. v.stands) (came.sees m ∙ opened_sees m k keys untouched done (w.sees m (omega (arith, below))));
      };
    }

-- ---- it is closed

abbrev close_asked : TMsg
close_asked = record { tag = 0; body = t.Clunk 2 }

close_short : ltb 8216 (length (t_frame close_asked)) ≡ false
unfolding frame
close_short = refl

close_replies : (done : List Deed) (call : Call) → reply_of done call (t.Clunk 2) ≡ Some r.Clunk
unfolding reply_of
close_replies done call = refl

gone_sees : (m : ℕ) (done : List Deed) → sight m (gone_by 2 done) ≡ sight m done
gone_sees m done = withdrawn_keeps (λ d. sight m d ≡ sight m done) (λ kind conv d p. p) (ended_by (OfFids 0 (Clunked 2)) done) done refl

gone_settled : (done : List Deed) → has_settled (gone_by 2 done) ≡ has_settled done
gone_settled done = withdrawn_keeps (λ d. has_settled d ≡ has_settled done) (λ kind conv d p. p) (ended_by (OfFids 0 (Clunked 2)) done) done refl

by_close : Sight → Sight
by_close v = record {
  keys = v.keys;
  waiting = map (settle_fid 2 fid_given_up) v.waiting;
  own = None;
  held = one_less v.own v.held;
  seated = filter (stays 2) v.seated;
  numbered = v.numbered;
  stands = v.stands;
}

closed_sees : (m n : ℕ) (keys : KeyList) (s : Standing) (done : List Deed) → sight m done ≡ seated n keys [] s → sight m (OfFids 0 (Clunked 2) ∷ gone_by 2 done) ≡ unseated (n + 1) keys s
unfolding by_close
closed_sees m n keys s done sees = ap by_close (gone_sees m done ∙ sees)

-- of a later one
later_sees : (m n : ℕ) (keys : KeyList) (s : Standing) (done : List Deed) → sight n done ≡ seated n keys [] s → standing_of done m ≡ untouched → sight m done ≡ seated n keys [] untouched
later_sees m n keys s done sees none = ap (λ v. restand v (standing_of done m)) sees ∙ ap (λ x. seated n keys [] x) none

pub record IsClosed (n : ℕ) (keys : KeyList) (h : History) : Type 0 where
  pub rests : Rests (n + 1) keys (drive (clunks 2) h)
  pub replies : map (λ (m : RMsg). m.body) (replies_to (clunks 2) h) ≡ r.Clunk ∷ []

pub close_goes : (n : ℕ) (keys : KeyList) (s : Standing) (h : History) → Sits n keys s h → Runs (drive (clunks 2) h) → IsClosed n keys h
close_goes n keys s h sits runs =
    let asked = close_asked in
    let done = deeds h in
    let call : Call = call_of 0 (t_frame asked) no_word in
    let c = sits.idle.calm in
    let on = there n keys [] s done sits.sees in
    let free : waits done 0 ≡ [] = ap (λ v. v.waiting) sits.sees in
    let g = granted_plain done call asked (omega arith) (omega arith) c.msize close_short refl free (clunk_none done call (ap (λ v. v.own) sits.sees)) in
    let gone = gone_by 2 done in
    let all = OfFids 0 (Clunked 2) ∷ gone in
    let is : after done call (t.Clunk 2) ≡ all = clunk_is call 2 done refl (quiet_deeds h c.names).asked in
    let none : has_settled all ≡ false = ap (λ v. list_any (λ w. eqb w.fid 2) v.waiting || has_settled gone) (gone_sees n done ∙ sits.sees) ∙ (gone_settled done ∙ c.settled) in
    let e = clunk_ends 2 n call h refl c refl on in
    let calm : IsCalm all = calm_of all (subst IsStill is e.still) none (subst (λ d. AreRead d (speakers d)) is e.read) in
    let event_calm : IsCalm (deeds (clunks 2 ∷ h)) = calm_event (t_frame asked) no_word h c (event_runs (clunks 2) h runs) (subst IsCalm (sym (frame_by done call (t_frame asked) (Ok (t.Clunk 2)) g ∙ is)) calm) in
    let came = comes_granted asked no_word h all (Some r.Clunk) sits.idle runs g is (close_replies done call) event_calm none in
    record {
      rests = record {
        idle = came.idle;
        sees = λ m from. came.sees m ∙ closed_sees m n keys untouched done (later_sees m n keys s done sits.sees (sits.fresh m (omega (arith, from))));
      };
      replies = ap (map (λ (m : RMsg). m.body)) came.replies;
    }
