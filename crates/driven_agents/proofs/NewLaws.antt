-- A new node is idle, and no conversation of it met anything.
use Rattle.std.proofs.Common.{◌≡◌, ℕ, ◌<◌, ◌^◌, List, [], ◌∷◌, Bool, true, false, cond, eqb, ltb, not, codes, Option, Some, None, refl, sym, ap, subst, ◌∙◌, arith}
use Rattle.std.specs.Prelude.{Result, Ok, Err, is_some}
use Rattle.std.specs.List.{list_all, list_any}
use Rattle.std.specs.Str.{is_utf8, chars}
use lib.Utf8.{encode}
use Rattle.wire_base.specs.Readers.{IsString}
use Rattle.wire_base.specs.Texts.{is_text}
use Rattle.nine.specs.declared.message.TMsg.{TMsg}
use Rattle.nine.specs.declared.message.TBody.{TBody}
use Rattle.nine.specs.declared.message.TBody.TheVariants as t
use Rattle.nine.specs.declared.message.RBody.{RBody}
use Rattle.nine.specs.Messages.{frame, t_fits, t_frame}
use Rattle.nine.specs.Decoding.{request_of}
use Rattle.file_tree.specs.Calls.{attach_fault}
use Rattle.talks.specs.Standings.{standing}
use Rattle.agent_history.specs.Deeds.{Attached, Deed, Entered, OfConnection, OfFids, Versioned, fid_of, held_by, msize_of, was_hung, was_opened}
use Rattle.agent_history.specs.Replies.{has_settled, swept, waits}
use Rattle.agent_history.specs.Conversations.{opened_talks, speakers, talk}
use Rattle.agent_history.specs.Requests.{Call, after, after_frame, after_granted, body_to, call_of, granted, granted_body, is_over, lacks_version, refusal, repeats_tag, replied}
use Rattle.agent_history.specs.Histories.{History, deeds}
use Rattle.driven_agents.proofs.NamesLaws.{to_ctl}
use Rattle.world_history.specs.Driving.{agrees, attaches, drive, new_node, no_word, opens, walks}
use Rattle.driven_agents.specs.Quiet.{NamesNoLines}
use Rattle.driven_agents.specs.Idle.{AreRead, IsCalm, IsIdle, Runs}
use Rattle.driven_agents.proofs.AlikeLaws.{answered_same, calm_answered}
use Rattle.driven_agents.proofs.ExactLaws.{read_again}
use Rattle.driven_agents.proofs.IdleLaws.{idle_behind}
use Rattle.driven_agents.proofs.KeptLaws.{KeepsTaken, behind_takes}
use Rattle.driven_agents.proofs.LeftLaws.{request_deeds}
use Rattle.driven_agents.proofs.OpensLaws.{open_is}
use Rattle.driven_agents.proofs.RunLaws.{drive_runs, event_runs, going}
use Rattle.driven_agents.proofs.WalkLaws.{ctl_string, walk_is}

version_string : IsString (codes "9P2000")
unfolding is_text is_utf8 chars encode
version_string = record { short = omega arith; text = refl }

world_string : IsString (codes "world")
unfolding is_text is_utf8 chars encode
world_string = record { short = omega arith; text = refl }

no_string : IsString []
unfolding is_text is_utf8 chars encode
no_string = record { short = omega arith; text = refl }

-- a frame that is read exactly and that no test refuses
granted_is : (done : List Deed) (call : Call) (asked : TMsg) → asked.tag < 2 ^ 16 → t_fits asked.body → is_over (msize_of done call.conn) (t_frame asked) ≡ false → granted_body done call asked.body ≡ Ok asked.body → granted done call (t_frame asked) ≡ Ok asked.body
unfolding granted
granted_is done call asked tag fits within is =
    ap (λ b. cond b (Err (codes "message over msize")) (elim (request_of (t_frame asked)) as (λ x. Result TBody (List ℕ)) [ None ↦ Err (codes "bad message") | Some m ↦ granted_body done call m.body ])) within
    ∙ (ap (λ (o : Option TMsg). elim o as (λ x. Result TBody (List ℕ)) [ None ↦ Err (codes "bad message") | Some m ↦ granted_body done call m.body ]) (read_again asked tag fits) ∙ is)

-- ---- the version

abbrev pub version_asked : TMsg
version_asked = record { tag = 65535; body = t.Version 8216 (codes "9P2000") }

abbrev pub first_deeds : List Deed
first_deeds = OfFids 0 (Versioned (Some 8216)) ∷ OfConnection 0 Entered ∷ []

agrees_does : after_frame (OfConnection 0 Entered ∷ []) (call_of 0 (t_frame version_asked) no_word) (t_frame version_asked) ≡ first_deeds
unfolding after_frame after refusal
agrees_does =
    let call = call_of 0 (t_frame version_asked) no_word in
    let fits : t_fits version_asked.body = (omega arith, version_string) in
    ap (after_granted (OfConnection 0 Entered ∷ []) call) (granted_is (OfConnection 0 Entered ∷ []) call version_asked (omega arith) fits refl refl)

-- what is so of an agent that agreed on a version and did nothing else
pub record IsFresh (done : List Deed) : Type 0 where
  pub names : NamesNoLines done
  pub entered : was_opened done 0 ≡ true
  pub there : was_hung done 0 ≡ false
  pub msize : msize_of done 0 ≡ Some 8216
  pub nobody : speakers done ≡ []
  pub free : fid_of done 0 0 ≡ None
  pub held : held_by done 0 ≡ 0
  pub waiting : waits done 0 ≡ []
  pub settled : has_settled done ≡ false
  pub talks : (conv : ℕ) → talk done conv ≡ []

fresh_taken : KeepsTaken IsFresh
fresh_taken = record {
  takes = record { takes = λ done f. record { names = f.names; entered = f.entered; there = f.there; msize = f.msize; nobody = f.nobody; free = f.free; held = f.held; waiting = f.waiting; settled = f.settled; talks = f.talks } };
  asks = record {
    hands = λ done f. record { names = f.names; entered = f.entered; there = f.there; msize = f.msize; nobody = f.nobody; free = f.free; held = f.held; waiting = f.waiting; settled = f.settled; talks = f.talks };
    drops = λ done f. record { names = f.names; entered = f.entered; there = f.there; msize = f.msize; nobody = f.nobody; free = f.free; held = f.held; waiting = f.waiting; settled = f.settled; talks = f.talks };
  };
}

first_fresh : IsFresh first_deeds
first_fresh = record { names = refl; entered = refl; there = refl; msize = refl; nobody = refl; free = refl; held = refl; waiting = refl; settled = refl; talks = λ conv. refl }

fresh_replied : (call : Call) (o : Option RBody) → IsFresh (swept (replied call o first_deeds))
fresh_replied call None = first_fresh
fresh_replied call (Some body) = record { names = refl; entered = refl; there = refl; msize = refl; nobody = refl; free = refl; held = refl; waiting = refl; settled = refl; talks = λ conv. refl }

abbrev pub version_call : Call
version_call = call_of 0 (t_frame version_asked) no_word

-- its reply, which isn't looked at
abbrev pub version_reply : Option RBody
version_reply = body_to (OfConnection 0 Entered ∷ []) version_call (t_frame version_asked)

pub agreed_deeds : Runs (agrees ∷ []) → deeds (agrees ∷ []) ≡ swept (replied version_call version_reply first_deeds)
agreed_deeds runs = (going agrees [] runs).now ∙ ap (λ d. swept (replied version_call version_reply d)) agrees_does

agreed_fresh : Runs (agrees ∷ []) → IsFresh (deeds (agrees ∷ []))
agreed_fresh runs = subst IsFresh (sym (agreed_deeds runs)) (fresh_replied version_call version_reply)

-- ---- the root

abbrev attach_asked : TMsg
attach_asked = record { tag = 0; body = t.Attach 0 4294967295 (codes "world") [] }

attach_fits : t_fits attach_asked.body
attach_fits = (((omega arith, omega arith), world_string), no_string)

attach_within : (o : Option ℕ) → o ≡ Some 8216 → is_over o (t_frame attach_asked) ≡ false
unfolding frame
attach_within o is = ap (λ o. is_over o (t_frame attach_asked)) is

attach_free : (done : List Deed) (call : Call) → call.conn ≡ 0 → IsFresh done → refusal done call attach_asked.body ≡ None
unfolding refusal attach_fault
attach_free done call on f = rw (on, f.free, f.held) refl

by_tests : (a b : Bool) (x y : List ℕ) (o : Option (List ℕ)) (body : TBody) → a ≡ false → b ≡ false → o ≡ None → cond a (Err x) (cond b (Err y) (elim o as (λ o. Result TBody (List ℕ)) [ Some text ↦ Err text | None ↦ Ok body ])) ≡ Ok body
by_tests a b x y o body version tag none = rw (version, tag, none) refl

attach_granted : (done : List Deed) (call : Call) → call.conn ≡ 0 → IsFresh done → granted_body done call attach_asked.body ≡ Ok attach_asked.body
attach_granted done call on f =
    by_tests (lacks_version done call attach_asked.body) (repeats_tag done call attach_asked.body) _ _ (refusal done call attach_asked.body) attach_asked.body
    (ap (λ conn. not (is_some (msize_of done conn))) on ∙ ap (λ o. not (is_some o)) f.msize)
    (ap (λ conn. list_any (λ w. eqb w.tag call.tag) (waits done conn)) on ∙ ap (list_any (λ w. eqb w.tag call.tag)) f.waiting)
    (attach_free done call on f)

-- calm from then on
pub record IsCalmNew (done : List Deed) : Type 0 where
  pub calm : IsCalm done
  pub talks : (conv : ℕ) → talk done conv ≡ []

attached_calm : (done : List Deed) → IsFresh done → IsCalmNew (OfFids 0 (Attached 0) ∷ done)
attached_calm done f = record {
  calm = record {
    names = f.names;
    entered = f.entered;
    there = f.there;
    msize = f.msize;
    alone = ap (list_all (λ s. eqb s.conn 0)) f.nobody;
    root = refl;
    small = ap (list_all (λ s. ltb s.fid 65535)) f.nobody;
    tagged = ap (list_all (λ w. eqb w.tag w.fid)) f.waiting;
    counted = ap (list_all (λ w. eqb w.count 8192)) f.waiting;
    settled = f.settled;
    read = subst (AreRead (OfFids 0 (Attached 0) ∷ done)) (sym f.nobody) tt;
  };
  talks = f.talks;
}

attaches_does : (done : List Deed) (call : Call) → call.conn ≡ 0 → IsFresh done → IsCalmNew (after_frame done call (t_frame attach_asked))
unfolding after_frame after
attaches_does done call on f =
    subst IsCalmNew (sym (ap (after_granted done call) (granted_is done call attach_asked (omega arith) attach_fits (attach_within (msize_of done call.conn) (ap (msize_of done) on ∙ f.msize)) (attach_granted done call on f))))
    (subst (λ conn. IsCalmNew (OfFids conn (Attached 0) ∷ done)) (sym on) (attached_calm done f))

attached_new : (h : History) → IsFresh (deeds h) → Runs (attaches ∷ h) → IsCalmNew (deeds (attaches ∷ h))
attached_new h f runs =
    let frame = t_frame attach_asked in
    let call = call_of 0 frame no_word in
    let done = deeds h in
    let o = body_to done call frame in
    let a = attaches_does done call refl f in
    subst IsCalmNew (sym (request_deeds frame no_word h runs f.entered f.there)) (record {
      calm = calm_answered call o (after_frame done call frame) a.calm;
      talks = λ conv. answered_same (λ d. talk d conv) (λ at tag body d. refl) (λ d. refl) call o (after_frame done call frame) ∙ a.talks conv;
    })

-- ---- ctl

pub record IsNew (h : History) : Type 0 where
  pub idle : IsIdle h
  pub talks : (conv : ℕ) → talk (deeds h) conv ≡ []

new_talks : KeepsTaken (λ done. (conv : ℕ) → talk done conv ≡ [])
new_talks = record { takes = record { takes = λ done same. same }; asks = record { hands = λ done same. same; drops = λ done same. same } }

pub new_is : Runs new_node → IsNew new_node
new_is runs =
    let one = drive agrees [] in
    let two = drive attaches one in
    let three = drive (walks 1 (codes "ctl")) two in
    let three_runs : Runs three = drive_runs (opens 1) three runs in
    let two_runs : Runs two = drive_runs (walks 1 (codes "ctl")) two three_runs in
    let one_runs : Runs one = drive_runs attaches one two_runs in
    let first = agreed_fresh (event_runs agrees [] one_runs) in
    let fresh : IsFresh (deeds one) = behind_takes IsFresh fresh_taken agrees [] one_runs first.entered first in
    let second = attached_new one fresh (event_runs attaches one two_runs) in
    let told : (conv : ℕ) → talk (deeds two) conv ≡ [] = behind_takes (λ done. (conv : ℕ) → talk done conv ≡ []) new_talks attaches one two_runs second.calm.entered second.talks in
    let w = walk_is 1 (codes "ctl") two (idle_behind attaches one second.calm two_runs) (omega arith) refl ctl_string to_ctl three_runs in
    let told_then : (conv : ℕ) → talk (deeds three) conv ≡ [] = λ conv. w.talks conv ∙ told conv in
    let o = open_is 1 three w.idle (omega arith) refl (ap (λ talk. (standing talk).begun) (told_then (opened_talks (deeds three)))) runs in
    record { idle = o.idle; talks = λ conv. o.talks conv ∙ told_then conv }
