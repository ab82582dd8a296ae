-- Where no read was settled since the last sweep, none that waits is; and what reads are found behind a fid that was given up.
use Rattle.std.proofs.Common.{◌≡◌, ℕ, List, [], ◌∷◌, ◌++◌, Bool, true, false, cond, eqb, ◌&&◌, not, map, Option, Some, None, refl, sym, ap, subst, ◌∙◌, inl, inr}
use Rattle.std.specs.Prelude.{filter, find, is_some}
use Rattle.std.specs.List.{filter_map, list_all, list_any}
use Rattle.std.proofs.lemmas.Bool.{and_from, and_parts, cases_Bool, eqb-true, or_parts}
use Rattle.attr_tuples.proofs.EqualityLemmas.{eqb_swap}
use Rattle.nine.specs.declared.message.RBody.{RBody}
use Rattle.agent_history.specs.Deeds.{Deed, OfFids, OfReplies, OfConnection, Swept, Halted, Versioned, Clunked, Awaited, Settled, Flushed, Hung}
use Rattle.agent_history.specs.Replies.{Wait, fid_given_up, has_settled, is_unsettled, reply_in, settle_fid, settle_tag, settled_by, waits, waits_for, waits_under}
use Rattle.driven_agents.proofs.AlikeLaws.{GivesNone}
use Rattle.driven_agents.proofs.IdleStillLaws.{all_behind, kept_all}

-- ---- none is settled

no_tag : (tag : ℕ) (body : RBody) (ws : List Wait) → list_any (λ w. eqb w.tag tag) ws ≡ false → settle_tag tag body ws ≡ ws
no_tag tag body [] none = refl
no_tag tag body (w ∷ ws) none =
    let parts = or_parts (eqb w.tag tag) (list_any (λ w. eqb w.tag tag) ws) none in
    ap (λ b. cond b (settled_by body w ∷ ws) (w ∷ settle_tag tag body ws)) parts.0 ∙ ap (λ ws. w ∷ ws) (no_tag tag body ws parts.1)

no_fid : (fid : ℕ) (body : RBody) (ws : List Wait) → list_any (λ w. eqb w.fid fid) ws ≡ false → map (settle_fid fid body) ws ≡ ws
no_fid fid body [] none = refl
no_fid fid body (w ∷ ws) none =
    let parts = or_parts (eqb w.fid fid) (list_any (λ w. eqb w.fid fid) ws) none in
    ap (λ b. cond b (settled_by body w) w ∷ map (settle_fid fid body) ws) parts.0 ∙ ap (λ ws. w ∷ ws) (no_fid fid body ws parts.1)

filtered : (keep : Wait → Bool) (ws : List Wait) → list_all keep (filter keep ws) ≡ true
filtered keep [] = refl
filtered keep (w ∷ ws) = elim (cases_Bool (keep w)) [
  | inl on ↦ subst (λ b. list_all keep (cond b (w ∷ filter keep ws) (filter keep ws)) ≡ true) (sym on) (and_from (keep w) (list_all keep (filter keep ws)) on (filtered keep ws))
  | inr off ↦ subst (λ b. list_all keep (cond b (w ∷ filter keep ws) (filter keep ws)) ≡ true) (sym off) (filtered keep ws)
]

abbrev pub AreUnsettled : List Wait → Type 0
AreUnsettled ws = list_all is_unsettled ws ≡ true

choice : (b : Bool) (one other : List Wait) → (b ≡ true → AreUnsettled one) → AreUnsettled other → AreUnsettled (cond b one other)
choice true one other p q = p refl
choice false one other p q = q

by_number : (at conn : ℕ) (P : ℕ → Type 0) → eqb at conn ≡ true → P at → P conn
by_number at conn P is p = subst P (eqb-true at conn is) p

pub none_settled : (done : List Deed) (conn : ℕ) → has_settled done ≡ false → AreUnsettled (waits done conn)
none_settled [] conn none = refl
none_settled (OfReplies at (Awaited tag fid count) ∷ done) conn none =
    choice (eqb at conn) (waits done conn ++ record { tag = tag; fid = fid; count = count; reply = None } ∷ []) (waits done conn)
    (λ _. all_behind is_unsettled (waits done conn) (record { tag = tag; fid = fid; count = count; reply = None }) (none_settled done conn none) refl) (none_settled done conn none)
none_settled (OfReplies at (Settled tag body) ∷ done) conn none =
    let parts = or_parts (waits_under done at tag) (has_settled done) none in
    let before = none_settled done conn parts.1 in
    choice (eqb at conn) (settle_tag tag body (waits done conn)) (waits done conn)
    (λ on. subst AreUnsettled (sym (no_tag tag body (waits done conn) (by_number at conn (λ n. waits_under done n tag ≡ false) on parts.0))) before) before
none_settled (OfReplies at (Flushed tag) ∷ done) conn none =
    let before = none_settled done conn none in
    choice (eqb at conn) (filter (λ w. not (eqb w.tag tag)) (waits done conn)) (waits done conn) (λ _. kept_all is_unsettled (λ w. not (eqb w.tag tag)) (waits done conn) before) before
none_settled (OfFids at (Versioned msize) ∷ done) conn none = choice (eqb at conn) [] (waits done conn) (λ _. refl) (none_settled done conn none)
none_settled (OfFids at (Clunked fid) ∷ done) conn none =
    let parts = or_parts (waits_for done at fid) (has_settled done) none in
    let before = none_settled done conn parts.1 in
    choice (eqb at conn) (map (settle_fid fid fid_given_up) (waits done conn)) (waits done conn)
    (λ on. subst AreUnsettled (sym (no_fid fid fid_given_up (waits done conn) (by_number at conn (λ n. waits_for done n fid ≡ false) on parts.0))) before) before
none_settled (OfConnection at Hung ∷ done) conn none = choice (eqb at conn) [] (waits done conn) (λ _. refl) (none_settled done conn none)
none_settled (Swept ∷ done) conn none = filtered is_unsettled (waits done conn)
none_settled (Halted ∷ done) conn none = refl
none_settled (deed ∷ done) conn none = none_settled done conn none

-- ---- what is swept then

pub unsettled_none : (w : Wait) (o : Option RBody) → w.reply ≡ o → not (is_some o) ≡ true → reply_in w ≡ None
unsettled_none w None is none = ap (λ o. reply_in (record { tag = w.tag; fid = w.fid; count = w.count; reply = o })) is
unsettled_none w (Some body) is none = absurd cc

pub none_given : (ws : List Wait) → AreUnsettled ws → filter_map reply_in ws ≡ []
none_given [] none = refl
none_given (w ∷ ws) none =
    let parts = and_parts (is_unsettled w) (list_all is_unsettled ws) none in
    rw (unsettled_none w w.reply refl parts.0) (none_given ws parts.1)

given_up_step : (b : Bool) (fid : ℕ) (w : Wait) (ws : List Wait) (o : Option RBody) → w.reply ≡ o → not (is_some o) ≡ true → GivesNone (filter_map reply_in ws) → GivesNone (filter_map reply_in (cond b (settled_by fid_given_up w) w ∷ ws))
given_up_step true fid w ws (Some body) is none more = absurd cc
given_up_step true fid w ws None is none more = rw is (refl, more)
given_up_step false fid w ws o is none more = rw (unsettled_none w o is none) more

-- of reads that aren't settled those of a fid are told that it is given up
pub given_up_bare : (fid : ℕ) (ws : List Wait) → AreUnsettled ws → GivesNone (filter_map reply_in (map (settle_fid fid fid_given_up) ws))
given_up_bare fid [] none = tt
given_up_bare fid (w ∷ ws) none =
    let parts = and_parts (is_unsettled w) (list_all is_unsettled ws) none in
    given_up_step (eqb w.fid fid) fid w (map (settle_fid fid fid_given_up) ws) w.reply refl parts.0 (given_up_bare fid ws parts.1)

-- ---- who is found

abbrev pub waits_at : ℕ → Wait → Bool
waits_at fid w = eqb w.fid fid && is_unsettled w

other_step : (b : Bool) (fid other : ℕ) (body : RBody) (w : Wait) (ws more : List Wait) → eqb w.fid fid ≡ b → eqb other fid ≡ false → find (waits_at other) more ≡ find (waits_at other) ws → find (waits_at other) (cond b (settled_by body w) w ∷ more) ≡ find (waits_at other) (w ∷ ws)
other_step true fid other body w ws more is apart same =
    let off : eqb w.fid other ≡ false = ap (λ n. eqb n other) (eqb-true w.fid fid is) ∙ (eqb_swap fid other ∙ apart) in
    rw off same
other_step false fid other body w ws more is apart same = ap (λ o. cond (waits_at other w) (Some w) o) same

-- the read of another fid
pub other_reader : (fid other : ℕ) (body : RBody) (ws : List Wait) → eqb other fid ≡ false → find (waits_at other) (map (settle_fid fid body) ws) ≡ find (waits_at other) ws
other_reader fid other body [] apart = refl
other_reader fid other body (w ∷ ws) apart = other_step (eqb w.fid fid) fid other body w ws (map (settle_fid fid body) ws) refl apart (other_reader fid other body ws apart)
