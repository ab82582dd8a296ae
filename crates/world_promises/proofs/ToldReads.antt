-- A read that is told is swept with its reply; those that wait for others stay.
use Rattle.std.proofs.Common.{◌≡◌, ℕ, List, [], ◌∷◌, Bool, true, false, cond, eqb, ◌&&◌, not, Option, Some, None, refl, sym, ap, ◌∙◌, inl, inr}
use Rattle.std.specs.Prelude.{find, is_some}
use Rattle.std.specs.List.{filter, filter_map, list_all}
use Rattle.std.proofs.lemmas.Bool.{and_from, and_parts, cases_Bool, eqb-true}
use Rattle.nine.specs.declared.message.RBody.{RBody}
use Rattle.agent_history.specs.Replies.{Wait, first_of, is_unsettled, reply_in, settle_tag, settled_by}
use Rattle.driven_agents.specs.Idle.{read_of}
use Rattle.driven_agents.proofs.UnsettledLaws.{AreUnsettled, none_given, unsettled_none, waits_at}
use Rattle.driven_agents.proofs.IdleStillLaws.{kept_all, settled_all}
use Rattle.driven_agents.proofs.FoundLemmas.{found_stays}
use Rattle.agent_laws.proofs.KindLaws.{same_number}
use Rattle.world_promises.proofs.FoundLemmas.{first_found, found_first, found_later, later_found}
use Rattle.world_promises.proofs.OtherTalks.{apart}

abbrev pub AreTagged : List Wait → Type 0
AreTagged ws = list_all (λ w. eqb w.tag w.fid) ws ≡ true

-- the reads that are left
abbrev pub left_by : ℕ → RBody → List Wait → List Wait
left_by fid body ws = filter is_unsettled (settle_tag fid body ws)

pub all_left : (test : Wait → Bool) → ((body : RBody) (w : Wait) → test (settled_by body w) ≡ test w) → (fid : ℕ) (body : RBody) (ws : List Wait) → list_all test ws ≡ true → list_all test (left_by fid body ws) ≡ true
all_left test same fid body ws all = kept_all test is_unsettled (settle_tag fid body ws) (settled_all test same fid body ws ∙ all)

-- ---- one is told

now_settled : (body : RBody) (w : Wait) → is_unsettled (settled_by body w) ≡ false
now_settled body w = by_reply w.reply
  where
    by_reply : (o : Option RBody) → not (is_some (first_of body o)) ≡ false
    by_reply None = refl
    by_reply (Some first) = refl

-- the reads that were settled are the one that was told
pub one_replied : (fid : ℕ) (body : RBody) (ws : List Wait) → AreUnsettled ws → AreTagged ws → find (waits_at fid) ws ≡ Some (read_of fid) → filter_map reply_in (settle_tag fid body ws) ≡ record { tag = fid; body = body } ∷ []
one_replied fid body [] all tagged e = absurd cc
one_replied fid body (w ∷ ws) all tagged e =
    let unsettled = and_parts (is_unsettled w) (list_all is_unsettled ws) all in
    let tags = and_parts (eqb w.tag w.fid) (list_all (λ v. eqb v.tag v.fid) ws) tagged in
    elim (cases_Bool (eqb w.fid fid)) [
      | inl on ↦
          let is = found_first (waits_at fid) w (read_of fid) ws (and_from (eqb w.fid fid) (is_unsettled w) on unsettled.0) e in
          ap (λ v. filter_map reply_in (settle_tag fid body (v ∷ ws))) is
          ∙ ap (λ b. filter_map reply_in (cond b (settled_by body (read_of fid) ∷ ws) (read_of fid ∷ settle_tag fid body ws))) (same_number fid)
          ∙ ap (λ rs. record { tag = fid; body = body } ∷ rs) (none_given ws unsettled.1)
      | inr off ↦
          let other : eqb w.tag fid ≡ false = ap (λ n. eqb n fid) (eqb-true w.tag w.fid tags.0) ∙ off in
          rw other (rw (unsettled_none w w.reply refl unsettled.0) (one_replied fid body ws unsettled.1 tags.1 (found_later (waits_at fid) w (read_of fid) ws (ap (λ b. b && is_unsettled w) off) e)))
    ]

-- ---- the others stay

not_at : (fid : ℕ) (w : Wait) → waits_at fid w ≡ true → is_unsettled w ≡ true
not_at fid w e = (and_parts (eqb w.fid fid) (is_unsettled w) e).1

-- a read of another fid is found as before
pub other_left : (fid other : ℕ) (body : RBody) (ws : List Wait) (x : Wait) → eqb other fid ≡ false → AreTagged ws → find (waits_at other) ws ≡ Some x → find (waits_at other) (left_by fid body ws) ≡ Some x
other_left fid other body [] x off tagged e = absurd cc
other_left fid other body (w ∷ ws) x off tagged e =
    let tags = and_parts (eqb w.tag w.fid) (list_all (λ v. eqb v.tag v.fid) ws) tagged in
    elim (cases_Bool (eqb w.tag fid)) [
      | inl on ↦
          let same : w.fid ≡ fid = sym (eqb-true w.tag w.fid tags.0) ∙ eqb-true w.tag fid on in
          let elsewhere : eqb w.fid other ≡ false = ap (λ n. eqb n other) same ∙ apart other fid off in
          rw on (rw (now_settled body w) (kept_found ws (found_later (waits_at other) w x ws (ap (λ b. b && is_unsettled w) elsewhere) e)))
      | inr not_on ↦ rw not_on (elim (cases_Bool (is_unsettled w)) [
        | inl unsettled ↦ rw unsettled (elim (cases_Bool (eqb w.fid other)) [
          | inl here ↦
              let at = and_from (eqb w.fid other) (is_unsettled w) here unsettled in
              first_found (waits_at other) w (left_by fid body ws) at ∙ ap Some (found_first (waits_at other) w x ws at e)
          | inr there ↦
              let past : waits_at other w ≡ false = ap (λ b. b && is_unsettled w) there in
              later_found (waits_at other) w (left_by fid body ws) past ∙ other_left fid other body ws x off tags.1 (found_later (waits_at other) w x ws past e)
        ])
        | inr settled ↦ rw settled (other_left fid other body ws x off tags.1 (found_later (waits_at other) w x ws (and_off (eqb w.fid other) (is_unsettled w) settled) e))
      ])
    ]
  where
    and_off : (a b : Bool) → b ≡ false → (a && b) ≡ false
    and_off true b e = e
    and_off false b e = refl

    found_on : (vs : List Wait) → find (waits_at other) vs ≡ Some x → is_unsettled x ≡ true
    found_on [] e = absurd cc
    found_on (v ∷ vs) e = elim (cases_Bool (waits_at other v)) [
      | inl on ↦ ap is_unsettled (sym (found_first (waits_at other) v x vs on e)) ∙ not_at other v on
      | inr off_here ↦ found_on vs (found_later (waits_at other) v x vs off_here e)
    ]

    kept_found : (vs : List Wait) → find (waits_at other) vs ≡ Some x → find (waits_at other) (filter is_unsettled vs) ≡ Some x
    kept_found vs e = found_stays (waits_at other) is_unsettled vs x e (found_on vs e)
