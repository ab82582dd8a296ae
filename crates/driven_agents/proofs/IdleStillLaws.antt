-- What is so of a calm agent whatever its conversations met: all of it but that each of them which asks is read.
use Rattle.std.proofs.Common.{◌≡◌, ℕ, List, [], ◌∷◌, ◌++◌, Bool, true, false, cond, eqb, ltb, ◌&&◌, Some, None, refl, ap, ◌∙◌}
use Rattle.std.specs.Prelude.{filter}
use Rattle.std.specs.List.{list_all}
use Rattle.std.proofs.lemmas.Bool.{and_from, and_parts}
use Rattle.nine.specs.declared.message.RBody.{RBody}
use Rattle.file_tree.specs.Calls.{attached}
use Rattle.agent_history.specs.Deeds.{Deed, OfFids, OfKeys, OfReplies, OfConnection, OfTalk, OfPrompts, OfLog, Raised, HandedOut, DropTaken, Swept, Halted, Answered, Awaited, Settled, Flushed, Taken, fid_of, msize_of, was_hung, was_opened}
use Rattle.agent_history.specs.Replies.{Wait, has_settled, is_unsettled, settle_tag, settled_by, swept, waits}
use Rattle.agent_history.specs.Conversations.{speakers}
use Rattle.agent_laws.proofs.GrowLaws.{KeepsAny}
use Rattle.agent_laws.proofs.KindLaws.{is_met, same_number}
use Rattle.driven_agents.specs.Quiet.{NamesNoLines}
use Rattle.driven_agents.specs.Idle.{AreRead, IsCalm}

pub record IsStill (done : List Deed) : Type 0 where
  pub names : NamesNoLines done
  pub entered : was_opened done 0 ≡ true
  pub there : was_hung done 0 ≡ false
  pub msize : msize_of done 0 ≡ Some 8216
  pub alone : list_all (λ s. eqb s.conn 0) (speakers done) ≡ true
  pub root : fid_of done 0 0 ≡ attached
  pub small : list_all (λ s. ltb s.fid 65535) (speakers done) ≡ true
  pub tagged : list_all (λ w. eqb w.tag w.fid) (waits done 0) ≡ true
  pub counted : list_all (λ w. eqb w.count 8192) (waits done 0) ≡ true

pub still_of : (done : List Deed) → IsCalm done → IsStill done
still_of done c = record { names = c.names; entered = c.entered; there = c.there; msize = c.msize; alone = c.alone; root = c.root; small = c.small; tagged = c.tagged; counted = c.counted }

pub calm_of : (done : List Deed) → IsStill done → has_settled done ≡ false → AreRead done (speakers done) → IsCalm done
calm_of done s settled read = record { names = s.names; entered = s.entered; there = s.there; msize = s.msize; alone = s.alone; root = s.root; small = s.small; tagged = s.tagged; counted = s.counted; settled = settled; read = read }

-- ---- reads that wait

pub settled_all : (p : Wait → Bool) → ((body : RBody) (w : Wait) → p (settled_by body w) ≡ p w) → (tag : ℕ) (body : RBody) (ws : List Wait) → list_all p (settle_tag tag body ws) ≡ list_all p ws
settled_all p same tag body [] = refl
settled_all p same tag body (w ∷ ws) = by_tag (eqb w.tag tag) (settled_all p same tag body ws)
  where
    by_tag : (b : Bool) → list_all p (settle_tag tag body ws) ≡ list_all p ws → list_all p (cond b (settled_by body w ∷ ws) (w ∷ settle_tag tag body ws)) ≡ (p w && list_all p ws)
    by_tag true more = ap (λ b. b && list_all p ws) (same body w)
    by_tag false more = ap (λ b. p w && b) more

pub kept_all : {X : Type 0} (p keep : X → Bool) (ws : List X) → list_all p ws ≡ true → list_all p (filter keep ws) ≡ true
kept_all p keep [] all = refl
kept_all p keep (w ∷ ws) all = let parts = and_parts (p w) (list_all p ws) all in by_kept (keep w) parts.0 (kept_all p keep ws parts.1)
  where
    by_kept : (b : Bool) → p w ≡ true → list_all p (filter keep ws) ≡ true → list_all p (cond b (w ∷ filter keep ws) (filter keep ws)) ≡ true
    by_kept true is more = and_from (p w) (list_all p (filter keep ws)) is more
    by_kept false is more = more

pub all_behind : {X : Type 0} (p : X → Bool) (xs : List X) (x : X) → list_all p xs ≡ true → p x ≡ true → list_all p (xs ++ x ∷ []) ≡ true
all_behind p [] x all is = and_from (p x) true is refl
all_behind p (y ∷ xs) x all is = let parts = and_parts (p y) (list_all p xs) all in and_from (p y) (list_all p (xs ++ x ∷ [])) parts.0 (all_behind p xs x parts.1 is)

-- ---- deeds that leave it so

with_waits : (done : List Deed) (deed : Deed) → IsStill done
    → NamesNoLines (deed ∷ done) → was_opened (deed ∷ done) 0 ≡ was_opened done 0 → was_hung (deed ∷ done) 0 ≡ was_hung done 0 → msize_of (deed ∷ done) 0 ≡ msize_of done 0 → speakers (deed ∷ done) ≡ speakers done → fid_of (deed ∷ done) 0 0 ≡ fid_of done 0 0
    → list_all (λ w. eqb w.tag w.fid) (waits (deed ∷ done) 0) ≡ true → list_all (λ w. eqb w.count 8192) (waits (deed ∷ done) 0) ≡ true → IsStill (deed ∷ done)
with_waits done deed s names open_ hung msize ss root tagged counted = record {
  names = names;
  entered = open_ ∙ s.entered;
  there = hung ∙ s.there;
  msize = msize ∙ s.msize;
  alone = ap (list_all (λ s. eqb s.conn 0)) ss ∙ s.alone;
  root = root ∙ s.root;
  small = ap (list_all (λ s. ltb s.fid 65535)) ss ∙ s.small;
  tagged = tagged;
  counted = counted;
}

settled_one : (b : Bool) (p : Wait → Bool) (tag : ℕ) (body : RBody) (ws : List Wait) → ((body : RBody) (w : Wait) → p (settled_by body w) ≡ p w) → list_all p ws ≡ true → list_all p (cond b (settle_tag tag body ws) ws) ≡ true
settled_one true p tag body ws same all = settled_all p same tag body ws ∙ all
settled_one false p tag body ws same all = all

still_settled : (at tag : ℕ) (body : RBody) (done : List Deed) → IsStill done → IsStill (OfReplies at (Settled tag body) ∷ done)
still_settled at tag body done s =
    with_waits done (OfReplies at (Settled tag body)) s s.names refl refl refl refl refl
    (settled_one (eqb at 0) (λ w. eqb w.tag w.fid) tag body (waits done 0) (λ b w. refl) s.tagged)
    (settled_one (eqb at 0) (λ w. eqb w.count 8192) tag body (waits done 0) (λ b w. refl) s.counted)

-- what conversations meet
pub still_met : KeepsAny is_met IsStill
still_met done (OfTalk conv call) is s = with_waits done (OfTalk conv call) s s.names refl refl refl refl refl s.tagged s.counted
still_met done (OfPrompts kind call) is s = with_waits done (OfPrompts kind call) s s.names refl refl refl refl refl s.tagged s.counted
still_met done (OfLog call) is s = with_waits done (OfLog call) s s.names refl refl refl refl refl s.tagged s.counted
still_met done (Raised conv) is s = with_waits done (Raised conv) s s.names refl refl refl refl refl s.tagged s.counted
still_met done (OfReplies at (Settled tag body)) is s = still_settled at tag body done s
still_met done (OfReplies at (Answered tag body)) is s = absurd cc
still_met done (OfReplies at (Awaited tag fid count)) is s = absurd cc
still_met done (OfReplies at (Flushed tag)) is s = absurd cc
still_met done (OfReplies at Taken) is s = absurd cc
still_met done (OfFids at deed) is s = absurd cc
still_met done (OfKeys at deed) is s = absurd cc
still_met done (OfConnection at deed) is s = absurd cc
still_met done HandedOut is s = absurd cc
still_met done DropTaken is s = absurd cc
still_met done Swept is s = absurd cc
still_met done Halted is s = absurd cc

-- a reply, a line of ctl, a sweep
pub still_answered : (at tag : ℕ) (body : RBody) (done : List Deed) → IsStill done → IsStill (OfReplies at (Answered tag body) ∷ done)
still_answered at tag body done s = with_waits done (OfReplies at (Answered tag body)) s s.names refl refl refl refl refl s.tagged s.counted

still_swept : (done : List Deed) → IsStill done → IsStill (Swept ∷ done)
still_swept done s =
    with_waits done Swept s s.names refl refl refl refl refl
    (kept_all (λ w. eqb w.tag w.fid) is_unsettled (waits done 0) s.tagged) (kept_all (λ w. eqb w.count 8192) is_unsettled (waits done 0) s.counted)

pub swept_still : (done : List Deed) → IsStill done → IsStill (swept done)
swept_still done s = by_settled (has_settled done)
  where
    by_settled : (b : Bool) → IsStill (cond b (Swept ∷ done) done)
    by_settled true = still_swept done s
    by_settled false = s

-- a read of a network's that waits
pub still_awaited : (fid : ℕ) (done : List Deed) → IsStill done → IsStill (OfReplies 0 (Awaited fid fid 8192) ∷ done)
still_awaited fid done s =
    with_waits done (OfReplies 0 (Awaited fid fid 8192)) s s.names refl refl refl refl refl
    (all_behind (λ w. eqb w.tag w.fid) (waits done 0) (record { tag = fid; fid = fid; count = 8192; reply = None }) s.tagged (same_number fid))
    (all_behind (λ w. eqb w.count 8192) (waits done 0) (record { tag = fid; fid = fid; count = 8192; reply = None }) s.counted refl)

-- ---- behind a sweep nothing is left to be swept

pub swept_settled : (done : List Deed) → has_settled (swept done) ≡ false
swept_settled done = by_settled (has_settled done) refl
  where
    by_settled : (b : Bool) → has_settled done ≡ b → has_settled (cond b (Swept ∷ done) done) ≡ false
    by_settled true is = refl
    by_settled false is = is
