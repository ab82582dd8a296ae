-- Behind an answer of the authentication server the agent is calm: its conversation waits no more, and all else is as it was.
use Rattle.std.proofs.Common.{◌≡◌, ℕ, List, [], ◌∷◌, Bool, true, false, cond, eqb, ltb, ◌||◌, not, refl, sym, ap, subst, ◌∙◌, inl, inr}
use Rattle.std.specs.Prelude.{find}
use Rattle.std.specs.List.{list_all}
use Rattle.std.proofs.lemmas.Bool.{and_parts, cases_Bool, eqb-true, not-true}
use Rattle.roles.specs.Talks.{Call as Move}
use Rattle.talks.specs.declared.said.Said.{Said}
use Rattle.talks.specs.Calls.{Call, Took}
use Rattle.talks.specs.Standings.{Begun, OnServer, Resting, Standing, in_phase, outcome_of, standing, then_stands}
use Rattle.talks.specs.declared.answer.RpcAnswer.{RpcAnswer}
use Rattle.agent_history.specs.Deeds.{Deed, OfTalk, fid_of, msize_of, was_hung, was_opened}
use Rattle.agent_history.specs.Replies.{waits}
use Rattle.agent_history.specs.Conversations.{Speaker, fits, speakers, standing_of, talk, told}
use Rattle.driven_agents.specs.Quiet.{leads_away}
use Rattle.driven_agents.specs.Idle.{AreRead, IsCalm, IsRead, read_of}
use Rattle.driven_agents.proofs.UnsettledLaws.{waits_at}
use Rattle.driven_agents.proofs.CallLemmas.{logged_same, other_talk, own_talk}
use Rattle.world_promises.proofs.AnswerDeeds.{answer_by, answered_by, kept, lines_by, met_by, untold_same}
use Rattle.world_promises.proofs.OtherTalks.{apart}
use Rattle.world_promises.proofs.AnswerSeatLaws.{AreApart, is_apart}
use Rattle.world_promises.proofs.ToldReads.{all_left, left_by, other_left}

-- ---- how the conversation stands

-- its answer was read, or is still there
abbrev pub told_stands : Bool → Standing → Standing
told_stands true s = in_phase s Resting
told_stands false s = s

took_stands : (b : Bool) (number : ℕ) (done : List Deed) (move : Move) (begun : Begun) (starting : Bool) (said : Said) → standing_of done number ≡ kept move begun starting said → standing_of (cond b (OfTalk number Took ∷ done) done) number ≡ told_stands b (kept move begun starting said)
took_stands true number done move begun starting said e = ap standing (own_talk number Took done) ∙ ap (λ s. then_stands s s.phase Took) e
took_stands false number done move begun starting said e = e

pub stands_told : (number fid : ℕ) (call : Call) (done : List Deed) (move : Move) (begun : Begun) (starting : Bool) (said : Said) → standing_of (OfTalk number call ∷ done) number ≡ kept move begun starting said
    → standing_of (answered_by number fid call (answer_by move begun) done) number ≡ told_stands (fits 8192 (answer_by move begun)) (kept move begun starting said)
stands_told number fid call done move begun starting said e =
    took_stands (fits 8192 (answer_by move begun)) number (met_by number call done) move begun starting said
    (ap standing (logged_same (λ d. talk d number) (λ line d. refl) (lines_by number call done) (OfTalk number call ∷ done)) ∙ e)

-- with what it was begun, and how it ends, don't depend on that
pub told_begun : (b : Bool) (s : Standing) → (told_stands b s).begun ≡ s.begun
told_begun true s = refl
told_begun false s = refl

pub told_outcome : (b : Bool) (move : Move) (begun : Begun) (starting : Bool) (said : Said) → outcome_of (told_stands b (kept move begun starting said)) ≡ outcome_of (kept move begun starting said)
told_outcome true move begun true said = refl
told_outcome true move begun false said = refl
told_outcome false move begun starting said = refl

-- it doesn't wait for the server
told_waits : (b : Bool) (move : Move) (begun : Begun) (starting : Bool) (said : Said) → (told_stands b (kept move begun starting said)).phase ≡ OnServer → ⊥
told_waits true move begun starting said e = absurd cc
told_waits false move begun starting said e = absurd cc

-- the others stand as they did
pub others_stand : (number fid : ℕ) (call : Call) (answer : RpcAnswer) (done : List Deed) (other : ℕ) → eqb other number ≡ false → standing_of (answered_by number fid call answer done) other ≡ standing_of done other
others_stand number fid call answer done other off =
    ap standing (untold_same (λ d. talk d other) number call answer done (λ line d. refl) (λ c d. other_talk number other c d (apart other number off)))

-- ---- the reads that wait

pub left_waits : (number fid : ℕ) (call : Call) (answer : RpcAnswer) (done : List Deed) → waits (answered_by number fid call answer done) 0 ≡ left_by fid (told 8192 answer) (waits done 0)
left_waits number fid call answer done = ap (left_by fid (told 8192 answer)) (untold_same (λ d. waits d 0) number call answer done (λ line d. refl) (λ c d. refl))

apart_fid : (a b : Bool) → a ≡ false → (a || not b) ≡ true → b ≡ false
apart_fid true b e h = absurd cc
apart_fid false b e h = not-true b h

one_read : (number fid : ℕ) (call : Call) (answer : RpcAnswer) (done : List Deed) → IsCalm done → ((standing_of (answered_by number fid call answer done) number).phase ≡ OnServer → ⊥)
    → (s : Speaker) → is_apart number fid s ≡ true → IsRead done s → IsRead (answered_by number fid call answer done) s
one_read number fid call answer done calm rests s away read waits_now =
    let all = answered_by number fid call answer done in
    elim (cases_Bool (eqb s.conv number)) [
      | inl same ↦ absurd (rests (ap (λ n. (standing_of all n).phase) (sym (eqb-true s.conv number same)) ∙ waits_now))
      | inr off ↦
          let still = read (ap (λ x. x.phase) (sym (others_stand number fid call answer done s.conv off)) ∙ waits_now) in
          ap (λ ws. find (waits_at s.fid) ws) (left_waits number fid call answer done)
          ∙ other_left fid s.fid (told 8192 answer) (waits done 0) (read_of s.fid) (apart_fid (eqb s.conv number) (eqb s.fid fid) off away) calm.tagged still
    ]

all_read : (number fid : ℕ) (call : Call) (answer : RpcAnswer) (done : List Deed) → IsCalm done → ((standing_of (answered_by number fid call answer done) number).phase ≡ OnServer → ⊥)
    → (ss : List Speaker) → AreApart number fid ss → AreRead done ss → AreRead (answered_by number fid call answer done) ss
all_read number fid call answer done calm rests [] away read = tt
all_read number fid call answer done calm rests (s ∷ ss) away read =
    let parts = and_parts (is_apart number fid s) (list_all (is_apart number fid) ss) away in
    (one_read number fid call answer done calm rests s parts.0 read.0, all_read number fid call answer done calm rests ss parts.1 read.1)

-- ---- all of it

pub same_speakers : (number fid : ℕ) (call : Call) (answer : RpcAnswer) (done : List Deed) → speakers (answered_by number fid call answer done) ≡ speakers done
same_speakers number fid call answer done = untold_same speakers number call answer done (λ line d. refl) (λ c d. refl)

calm_by : (number fid : ℕ) (call : Call) (answer : RpcAnswer) (done : List Deed) → IsCalm done → ((standing_of (answered_by number fid call answer done) number).phase ≡ OnServer → ⊥) → AreApart number fid (speakers done) → IsCalm (answered_by number fid call answer done)
calm_by number fid call answer done calm rests away =
    let all = answered_by number fid call answer done in
    let ss = same_speakers number fid call answer done in
    let ws = left_waits number fid call answer done in
    record {
      names = untold_same (list_all leads_away) number call answer done (λ line d. refl) (λ c d. refl) ∙ calm.names;
      entered = untold_same (λ d. was_opened d 0) number call answer done (λ line d. refl) (λ c d. refl) ∙ calm.entered;
      there = untold_same (λ d. was_hung d 0) number call answer done (λ line d. refl) (λ c d. refl) ∙ calm.there;
      msize = untold_same (λ d. msize_of d 0) number call answer done (λ line d. refl) (λ c d. refl) ∙ calm.msize;
      alone = ap (list_all (λ s. eqb s.conn 0)) ss ∙ calm.alone;
      root = untold_same (λ d. fid_of d 0 0) number call answer done (λ line d. refl) (λ c d. refl) ∙ calm.root;
      small = ap (list_all (λ s. ltb s.fid 65535)) ss ∙ calm.small;
      tagged = ap (list_all (λ w. eqb w.tag w.fid)) ws ∙ all_left (λ w. eqb w.tag w.fid) (λ body w. refl) fid (told 8192 answer) (waits done 0) calm.tagged;
      counted = ap (list_all (λ w. eqb w.count 8192)) ws ∙ all_left (λ w. eqb w.count 8192) (λ body w. refl) fid (told 8192 answer) (waits done 0) calm.counted;
      settled = refl;
      read = subst (AreRead all) (sym ss) (all_read number fid call answer done calm rests (speakers done) away calm.read);
    }

pub answered_calm : (number fid : ℕ) (call : Call) (done : List Deed) (move : Move) (begun : Begun) (starting : Bool) (said : Said) → standing_of (OfTalk number call ∷ done) number ≡ kept move begun starting said
    → IsCalm done → AreApart number fid (speakers done) → IsCalm (answered_by number fid call (answer_by move begun) done)
answered_calm number fid call done move begun starting said e calm away =
    let answer = answer_by move begun in
    calm_by number fid call answer done calm (λ waits_now. told_waits (fits 8192 answer) move begun starting said (ap (λ s. s.phase) (sym (stands_told number fid call done move begun starting said e)) ∙ waits_now)) away
