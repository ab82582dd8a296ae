-- What a read that is granted does to a calm agent: the request of its conversation is carried out, and its answer is read, told to
-- be too long, or waited for.
use Rattle.std.proofs.Common.{◌≡◌, ℕ, List, [], ◌∷◌, ◌++◌, Bool, true, false, cond, eqb, ◌&&◌, Some, None, refl, sym, ap, subst, ◌∙◌}
use Rattle.std.specs.Prelude.{find}
use Rattle.std.specs.List.{list_any}
use Rattle.std.proofs.lemmas.Bool.{eqb-true, or_parts}
use Rattle.talks.specs.Standings.{Phase, OnServer, standing}
use Rattle.agent_history.specs.Deeds.{Deed, OfReplies, Awaited}
use Rattle.agent_history.specs.Replies.{Wait, is_unsettled, waits, waits_for}
use Rattle.agent_history.specs.Conversations.{Speaker, speakers, standing_of, talk}
use Rattle.agent_laws.proofs.KindLaws.{same_number}
use Rattle.driven_agents.specs.Idle.{AreRead, IsCalm, IsRead, read_of}
use Rattle.driven_agents.proofs.IdleStillLaws.{IsStill, calm_of, still_awaited}
use Rattle.world_promises.proofs.SeatLaws.{AreMine}
use Rattle.world_promises.proofs.TalkSides.{Going}

-- ---- the reads of the conversations that ask

-- the others are read as before, and this one as is shown
read_each : (number fid : ℕ) (old new : List Deed) (ss : List Speaker) → AreMine number fid ss → AreRead old ss
    → ((s : Speaker) → eqb number s.conv ≡ false → IsRead old s → IsRead new s) → ((s : Speaker) → eqb number s.conv ≡ true → s.fid ≡ fid → IsRead new s) → AreRead new ss
read_each number fid old new [] mine read other own = tt
read_each number fid old new (s ∷ ss) mine read other own = (by_number (eqb number s.conv) refl, read_each number fid old new ss mine.1 read.1 other own)
  where
    by_number : (b : Bool) → eqb number s.conv ≡ b → IsRead new s
    by_number true e = own s e (mine.0 e)
    by_number false e = other s e read.0

phase_of_other : (number : ℕ) (old new : List Deed) → ((other : ℕ) → eqb number other ≡ false → talk new other ≡ talk old other) → (s : Speaker) → eqb number s.conv ≡ false → (standing_of new s.conv).phase ≡ OnServer → (standing_of old s.conv).phase ≡ OnServer
phase_of_other number old new same s off e = ap (λ x. (standing x).phase) (sym (same s.conv off)) ∙ e

-- a conversation that doesn't ask is read by nobody
unasked : (number : ℕ) (new : List Deed) (phase : Phase) → (standing_of new number).phase ≡ phase → (phase ≡ OnServer → ⊥) → (s : Speaker) → eqb number s.conv ≡ true → IsRead new s
unasked number new phase e none s same = λ asks. absurd (none (sym e ∙ (ap (λ n. (standing_of new n).phase) (eqb-true number s.conv same) ∙ asks)))

read_still : (number fid : ℕ) (old new : List Deed) (phase : Phase) → AreMine number fid (speakers old) → AreRead old (speakers old) → speakers new ≡ speakers old → waits new 0 ≡ waits old 0
    → ((other : ℕ) → eqb number other ≡ false → talk new other ≡ talk old other) → (standing_of new number).phase ≡ phase → (phase ≡ OnServer → ⊥) → AreRead new (speakers new)
read_still number fid old new phase mine read seated same others e none =
    subst (AreRead new) (sym seated)
    (read_each number fid old new (speakers old) mine read
    (λ s off is asks. ap (find (λ w. eqb w.fid s.fid && is_unsettled w)) same ∙ is (phase_of_other number old new others s off asks))
    (λ s on mine_. unasked number new phase e none s on))

-- ---- a read that waits

found_still : (p : Wait → Bool) (ws : List Wait) (w last : Wait) → find p ws ≡ Some w → find p (ws ++ last ∷ []) ≡ Some w
found_still p [] w last e = absurd cc
found_still p (v ∷ ws) w last e = by_test (p v) e (found_still p ws w last)
  where
    by_test : (b : Bool) → cond b (Some v) (find p ws) ≡ Some w → (find p ws ≡ Some w → find p (ws ++ last ∷ []) ≡ Some w) → cond b (Some v) (find p (ws ++ last ∷ [])) ≡ Some w
    by_test true e more = e
    by_test false e more = more e

found_last : (fid : ℕ) (ws : List Wait) → list_any (λ w. eqb w.fid fid) ws ≡ false → find (λ w. eqb w.fid fid && is_unsettled w) (ws ++ read_of fid ∷ []) ≡ Some (read_of fid)
found_last fid [] none = ap (λ b. cond (b && true) (Some (read_of fid)) None) (same_number fid)
found_last fid (w ∷ ws) none =
    let parts = or_parts (eqb w.fid fid) (list_any (λ x. eqb x.fid fid) ws) none in
    ap (λ b. cond (b && is_unsettled w) (Some w) (find (λ x. eqb x.fid fid && is_unsettled x) (ws ++ read_of fid ∷ []))) parts.0 ∙ found_last fid ws parts.1

read_waiting : (number fid : ℕ) (old new : List Deed) → AreMine number fid (speakers old) → AreRead old (speakers old) → speakers new ≡ speakers old → waits new 0 ≡ waits old 0 ++ read_of fid ∷ []
    → ((other : ℕ) → eqb number other ≡ false → talk new other ≡ talk old other) → waits_for old 0 fid ≡ false → AreRead new (speakers new)
read_waiting number fid old new mine read seated more others free =
    subst (AreRead new) (sym seated)
    (read_each number fid old new (speakers old) mine read
    (λ s off is asks. ap (find (λ w. eqb w.fid s.fid && is_unsettled w)) more ∙ found_still (λ w. eqb w.fid s.fid && is_unsettled w) (waits old 0) (read_of s.fid) (read_of fid) (is (phase_of_other number old new others s off asks)))
    (λ s on mine_ asks. ap (find (λ w. eqb w.fid s.fid && is_unsettled w)) more ∙ subst (λ f. find (λ w. eqb w.fid f && is_unsettled w) (waits old 0 ++ read_of fid ∷ []) ≡ Some (read_of f)) (sym mine_) (found_last fid (waits old 0) free)))

-- ---- the deeds behind it

-- what is calm goes on so where the conversation's answer is there
pub kept_calm : (number fid : ℕ) (old new : List Deed) (phase : Phase) → IsCalm old → AreMine number fid (speakers old) → IsStill new → Going number old new → (standing_of new number).phase ≡ phase → (phase ≡ OnServer → ⊥) → IsCalm new
kept_calm number fid old new phase calm mine still g e none =
    calm_of new still (ap (λ s. s.told) g.side ∙ calm.settled)
    (read_still number fid old new phase mine calm.read (ap (λ s. s.seated) g.side) (ap (λ s. s.waiting) g.side) g.others e none)

-- and where it is waited for
pub waiting_calm : (number fid : ℕ) (old new : List Deed) → IsCalm old → AreMine number fid (speakers old) → IsStill new → Going number old new → waits_for old 0 fid ≡ false → IsCalm (OfReplies 0 (Awaited fid fid 8192) ∷ new)
waiting_calm number fid old new calm mine still g free =
    let all = OfReplies 0 (Awaited fid fid 8192) ∷ new in
    calm_of all (still_awaited fid new still) (ap (λ s. s.told) g.side ∙ calm.settled)
    (read_waiting number fid old all mine calm.read (ap (λ s. s.seated) g.side) (ap (λ s. s.waiting ++ read_of fid ∷ []) g.side) (λ other off. g.others other off) free)
