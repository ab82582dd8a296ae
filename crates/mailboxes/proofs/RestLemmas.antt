-- A connection whose reads weren't settled has nothing that a sweep moves.
use Rattle.std.proofs.Common.{Equal, Greater, ◌≡◌, ℕ, List, [], ◌∷◌, ◌++◌, filter, map, Bool, true, false, cond, eqb, ltb, not, ◌||◌, ◌==◌, Option, None, Some, refl, sym, ap, subst, ◌∙◌, inl, inr, append-nil, arith}
use Rattle.std.specs.Prelude.{is_some, option_map}
use Rattle.std.specs.List.{filter_map, list_any}
use Rattle.std.specs.Ordering.{is_eq, nat_cmp}
use Rattle.std.specs.BTreeMap.{BTreeMap, get, is_at}
use Rattle.std.proofs.lemmas.Bool.{cases_Bool, eq-eqb, eqb-true, false≢true, ltb-true}
use Rattle.mailboxes.specs.declared.settled_for.SettledFor.{SettledFor}
use Rattle.mailboxes.specs.declared.settled_for.SettledFor.TheVariants as s
use Rattle.mailboxes.specs.Mails.{Mail, Pending, has_fid, has_tag, is_unsettled, no_mail, settle_fid, settle_tag, settled_by, swept}
use Rattle.mailboxes.specs.Deliveries.{mail_in}
use Rattle.mailboxes.specs.Rests.{Rests, covers, has_settled, has_settled_in}

at_number : (a b : ℕ) → is_at (nat_cmp a) b ≡ true → a ≡ b
at_number a b = elim (cases_Bool (ltb a b)) [
  | inl below ↦ λ is. absurd (false≢true (sym (rw below refl) ∙ is))
  | inr not_below ↦ λ is. eqb-true a b (sym (rw not_below (chosen (eqb a b))) ∙ is)
]
  where
    chosen : (t : Bool) → is_eq (cond t Equal Greater) ≡ t
    chosen true = refl
    chosen false = refl

-- ---- reads that wait

pub swept_rest : (ws : List Pending) → has_settled (filter is_unsettled ws) ≡ false
swept_rest [] = refl
swept_rest (w ∷ ws) = step (is_some w.reply) refl (swept_rest ws)
  where
    step : (b : Bool) → is_some w.reply ≡ b → has_settled (filter is_unsettled ws) ≡ false → has_settled (cond (not b) (w ∷ filter is_unsettled ws) (filter is_unsettled ws)) ≡ false
    step true is more = more
    step false is more = rw is more

pub left_rest : (p : Pending → Bool) (ws : List Pending) → has_settled ws ≡ false → has_settled (filter p ws) ≡ false
left_rest p [] e = refl
left_rest p (w ∷ ws) e = step (p w) (is_some w.reply) refl e (left_rest p ws)
  where
    step : (b c : Bool) → is_some w.reply ≡ c → (c || has_settled ws) ≡ false → (has_settled ws ≡ false → has_settled (filter p ws) ≡ false) → has_settled (cond b (w ∷ filter p ws) (filter p ws)) ≡ false
    step b true is e more = absurd (false≢true (sym e))
    step true false is e more = rw is (more e)
    step false false is e more = more e

all_unsettled : (ws : List Pending) → has_settled ws ≡ false → ws ≡ filter is_unsettled ws
all_unsettled [] e = refl
all_unsettled (w ∷ ws) e = step (is_some w.reply) e (all_unsettled ws)
  where
    step : (b : Bool) → (b || has_settled ws) ≡ false → (has_settled ws ≡ false → ws ≡ filter is_unsettled ws) → w ∷ ws ≡ cond (not b) (w ∷ filter is_unsettled ws) (filter is_unsettled ws)
    step true e more = absurd (false≢true (sym e))
    step false e more = ap (λ (vs : List Pending). w ∷ vs) (more e)

none_settled : (ws : List Pending) → has_settled ws ≡ false → filter_map (λ w. w.reply) ws ≡ []
none_settled [] e = refl
none_settled (w ∷ ws) e = step w.reply refl e (none_settled ws)
  where
    step : (o : Option (List ℕ)) → w.reply ≡ o → (is_some o || has_settled ws) ≡ false → (has_settled ws ≡ false → filter_map (λ v. v.reply) ws ≡ []) → filter_map (λ v. v.reply) (w ∷ ws) ≡ []
    step (Some frame) is e more = absurd (false≢true (sym e))
    step None is e more = rw is (more e)

pub same_swept : (mail : Mail) → has_settled mail.waits ≡ false → mail ≡ swept mail
same_swept mail e =
    ap (λ (ws : List Pending). record { replies = mail.replies; waits = ws; has_room = mail.has_room; has_place = mail.has_place }) (all_unsettled mail.waits e)
    ∙ ap (λ (rs : List (List ℕ)). record { replies = rs; waits = filter is_unsettled mail.waits; has_room = mail.has_room; has_place = mail.has_place }) (sym (append-nil mail.replies) ∙ ap (λ (rs : List (List ℕ)). mail.replies ++ rs) (sym (none_settled mail.waits e)))

pub tag_rest : (tag : ℕ) (frame : List ℕ) (ws : List Pending) → has_tag tag ws ≡ false → ws ≡ settle_tag tag frame ws
tag_rest tag frame [] e = refl
tag_rest tag frame (w ∷ ws) e = step (eqb w.tag tag) e (tag_rest tag frame ws)
  where
    step : (b : Bool) → (b || has_tag tag ws) ≡ false → (has_tag tag ws ≡ false → ws ≡ settle_tag tag frame ws) → w ∷ ws ≡ cond b (settled_by frame w ∷ ws) (w ∷ settle_tag tag frame ws)
    step true e more = absurd (false≢true (sym e))
    step false e more = ap (λ (vs : List Pending). w ∷ vs) (more e)

pub fid_rest : (fid : ℕ) (frame : ℕ → List ℕ) (ws : List Pending) → has_fid fid ws ≡ false → ws ≡ map (settle_fid fid frame) ws
fid_rest fid frame [] e = refl
fid_rest fid frame (w ∷ ws) e = step (eqb w.fid fid) e (fid_rest fid frame ws)
  where
    step : (b : Bool) → (b || has_fid fid ws) ≡ false → (has_fid fid ws ≡ false → ws ≡ map (settle_fid fid frame) ws) → w ∷ ws ≡ cond b (settled_by (frame w.tag) w) w ∷ map (settle_fid fid frame) ws
    step true e more = absurd (false≢true (sym e))
    step false e more = ap (λ (vs : List Pending). w ∷ vs) (more e)

pub all_rest : (o : Option Mail) → has_settled_in (option_map swept o) ≡ false
all_rest None = refl
all_rest (Some mail) = swept_rest mail.waits

-- ---- one mailbox is written

-- of the code alone: of one connection this is kept, and of all others what was
abbrev pub Puts : BTreeMap ℕ Mail → BTreeMap ℕ Mail → ℕ → Mail → Type 0
Puts old new conn mail = (q : ℕ) → get nat_cmp new q ≡ cond (is_at (nat_cmp conn) q) (Some mail) (get nat_cmp old q)

pub rests_put : (before now : SettledFor) (old new : BTreeMap ℕ Mail) (conn : ℕ) (mail : Mail) → Puts old new conn mail → (covers now conn ≡ false → has_settled mail.waits ≡ false) → ((q : ℕ) → covers now q ≡ false → covers before q ≡ false) → Rests before old → Rests now new
rests_put before now old new conn mail puts calm less rests = λ q off. ap has_settled_in (puts q) ∙ step q off (is_at (nat_cmp conn) q) refl
  where
    step : (q : ℕ) → covers now q ≡ false → (b : Bool) → is_at (nat_cmp conn) q ≡ b → has_settled_in (cond b (Some mail) (get nat_cmp old q)) ≡ false
    step q off true is = calm (subst (λ (n : ℕ). covers now n ≡ false) (sym (at_number conn q is)) off)
    step q off false is = rests q (less q off)

-- what was kept of it, where it isn't one of them
pub rested : (before : SettledFor) (old : BTreeMap ℕ Mail) (conn : ℕ) (mail : Mail) → Some mail ≡ get nat_cmp old conn → Rests before old → covers before conn ≡ false → has_settled mail.waits ≡ false
rested before old conn mail is rests off = ap has_settled_in is ∙ rests conn off

-- ---- one is swept, and all others have nothing that is

pub none_covered : (conn q : ℕ) (b : Bool) → is_at (nat_cmp conn) q ≡ b → b ≡ false → covers (s.One conn) q ≡ false
none_covered conn q b is off = elim (cases_Bool (eqb conn q)) [
  | inl e ↦ absurd (false≢true (sym (is ∙ off) ∙ subst (λ (n : ℕ). is_at (nat_cmp conn) n ≡ true) (eqb-true conn q e) (itself conn)))
  | inr e ↦ e
]
  where
    itself : (n : ℕ) → is_at (nat_cmp n) n ≡ true
    itself n = elim (cases_Bool (ltb n n)) [
      | inl below ↦ absurd (omega (arith, ltb-true n n below))
      | inr not_below ↦ rw (not_below, eq-eqb n n refl) refl
    ]

pub one_rests : (old new : BTreeMap ℕ Mail) (conn : ℕ) (mail : Mail) → Puts old new conn (swept mail) → Rests (s.One conn) old → Rests s.Nobody new
one_rests old new conn mail puts rests = λ q off. ap has_settled_in (puts q) ∙ step q (is_at (nat_cmp conn) q) refl
  where
    step : (q : ℕ) (b : Bool) → is_at (nat_cmp conn) q ≡ b → has_settled_in (cond b (Some (swept mail)) (get nat_cmp old q)) ≡ false
    step q true is = swept_rest mail.waits
    step q false is = rests q (none_covered conn q false is refl)

calm_in : (o : Option Mail) → has_settled_in o ≡ false → mail_in o ≡ swept (mail_in o)
calm_in None e = refl
calm_in (Some mail) e = same_swept mail e

pub one_swept : (old new : BTreeMap ℕ Mail) (conn : ℕ) (mail : Mail) → Some mail ≡ get nat_cmp old conn → Puts old new conn (swept mail) → Rests (s.One conn) old → (q : ℕ) → mail_in (get nat_cmp new q) ≡ swept (mail_in (get nat_cmp old q))
one_swept old new conn mail was puts rests q = ap mail_in (puts q) ∙ step (is_at (nat_cmp conn) q) refl
  where
    step : (b : Bool) → is_at (nat_cmp conn) q ≡ b → mail_in (cond b (Some (swept mail)) (get nat_cmp old q)) ≡ swept (mail_in (get nat_cmp old q))
    step true is = ap (λ (o : Option Mail). swept (mail_in o)) (was ∙ ap (λ (n : ℕ). get nat_cmp old n) (at_number conn q is))
    step false is = calm_in (get nat_cmp old q) (rests q (none_covered conn q false is refl))

-- nothing is kept of it

pub nothing_rests : (old : BTreeMap ℕ Mail) (conn : ℕ) → None ≡ get nat_cmp old conn → Rests (s.One conn) old → (q : ℕ) → has_settled_in (get nat_cmp old q) ≡ false
nothing_rests old conn was rests q = elim (cases_Bool (is_at (nat_cmp conn) q)) [
  | inl is ↦ ap has_settled_in (ap (λ (n : ℕ). get nat_cmp old n) (sym (at_number conn q is)) ∙ sym was)
  | inr is ↦ rests q (none_covered conn q false is refl)
]

pub nothing_swept : (old : BTreeMap ℕ Mail) (conn : ℕ) → None ≡ get nat_cmp old conn → Rests (s.One conn) old → (q : ℕ) → mail_in (get nat_cmp old q) ≡ swept (mail_in (get nat_cmp old q))
nothing_swept old conn was rests q = calm_in (get nat_cmp old q) (nothing_rests old conn was rests q)

-- where a connection isn't one of those, no read of it was found
pub calm_by : {found at : Bool} → (found ≡ true → at ≡ true) → at ≡ false → found ≡ false
calm_by {found} {at} h off = elim (cases_Bool found) [
  | inl is ↦ absurd (false≢true (sym off ∙ h is))
  | inr is ↦ is
]
