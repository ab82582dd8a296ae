-- A connection that a conversation keeps is given up once, by one whose question for a challenge was the last that was put
-- out.
use Rattle.std.proofs.Common.{◌≡◌, ℕ, ◌+◌, ◌<◌, List, [], ◌∷◌, ◌++◌, drop, map, Bool, true, false, cond, eqb, ltb, ◌&&◌, ◌||◌, not, Option, Some, None, refl, sym, ap, subst, ◌∙◌, inl, inr, arith}
use Rattle.std.specs.Prelude.{◌⊎◌}
use Rattle.std.specs.List.{list_all, list_any, filter}
use Rattle.std.proofs.lemmas.Bool.{and_parts, eqb-true, eq-eqb, ltb-true, lt-ltb, not-true, or_parts}
use Rattle.wire_base.specs.declared.shape.Shape.{Shape}
use Rattle.wire_base.specs.declared.shape.Shape.TheVariants.{Challenge, Vouch, Tickets}
use Rattle.roles.specs.declared.need.Need.{Need}
use Rattle.roles.specs.declared.need.Need.TheVariants.{Nothing, Key, Offers, Pick, Exchange}
use Rattle.file_tree.specs.declared.tree.Node.TheVariants.{Rpc}
use Rattle.talks.specs.Calls as calls
use Rattle.talks.specs.Standings.{Standing, outcome_of, question_of, standing}
use Rattle.agent_history.specs.Deeds.{Deed, FidDeed, ConnectionDeed, OfFids, OfKeys, OfReplies, OfConnection, OfTalk, Raised, HandedOut, OfPrompts, OfLog, DropTaken, Swept, Halted, Versioned, Attached, Walked, Opened, Listed, Browsed, Clunked, Entered, Hung, fid_of, names}
use Rattle.talks.specs.Lines.{is_end}
use Rattle.agent_history.specs.Conversations.{Drop, Question, Speaker, asks_challenge, drop_of, drops, given_up, gives_up, keeps, kept_by, next_question, opened_talks, questions, speakers, standing_of, stands, talk}
use Rattle.agent_history.specs.Histories.{History, deeds}
use Rattle.agent_laws.specs.Laws.{all_asked, asks_server}
use Rattle.agent_laws.proofs.KindLaws.{KeepsOf, is_done}
use Rattle.agent_laws.proofs.GrowLaws.{asked_more, history_grows}
use Rattle.agent_laws.proofs.ConversationLaws.{Rise, SpeakersRise, number, rise_parts, speakers_more}
use Rattle.agent_laws.proofs.PutLaws.{asked_there, found_asks, on_server, waits_with_question}
use Rattle.agent_laws.proofs.OverLaws.{Over, ended_over, over_asks_none, over_more}

-- ---- words

abbrev pub has_drop : List Drop → ℕ → Bool
has_drop ds conv = list_any (λ d. eqb d.conv conv) ds

abbrev pub is_first : List Drop → ℕ → Bool
is_first [] conv = false
is_first (d ∷ more) conv = eqb d.conv conv

-- a connection of the conversation was given up
abbrev pub was_dropped : List Deed → ℕ → Bool
was_dropped [] conv = false
was_dropped (DropTaken ∷ before) conv = is_first (drops before) conv || was_dropped before conv
was_dropped (deed ∷ before) conv = was_dropped before conv

-- the shape of its last question that was put out
abbrev pub shape_of : Need → Option Shape
shape_of (Exchange request shape) = Some shape
shape_of (Key template) = None
shape_of (Offers template) = None
shape_of (Pick templates) = None
shape_of Nothing = None

abbrev pub put_by : List Deed → Option Question → ℕ → Option Shape → Option Shape
put_by done None conv earlier = earlier
put_by done (Some q) conv earlier = cond (eqb q.conv conv) (shape_of (question_of (standing_of done conv))) earlier

abbrev pub last_put : List Deed → ℕ → Option Shape
last_put [] conv = None
last_put (HandedOut ∷ before) conv = put_by before (next_question before) conv (last_put before conv)
last_put (deed ∷ before) conv = last_put before conv

-- a conversation that never asks again: it doesn't stand any more, or it has come to its end
abbrev pub IsGone : List Deed → ℕ → Type 0
IsGone done conv = ((stands done conv ≡ false) × (ltb conv (opened_talks done) ≡ true)) ⊎ Over (standing_of done conv)

abbrev pub Dropped : List Deed → ℕ → Type 0
Dropped done conv = (keeps done conv ≡ false) × IsGone done conv

-- no two are of one conversation
abbrev pub NoTwice : List Drop → Type 0
NoTwice [] = Unit {0}
NoTwice (d ∷ ds) = (has_drop ds d.conv ≡ false) × NoTwice ds

-- those that are to be given up, where these conversations gave theirs up before
pub record DropsFit (done : List Deed) (was : ℕ → Bool) (ds : List Drop) : Type 0 where
  pub gone : (conv : ℕ) → (has_drop ds conv || was conv) ≡ true → Dropped done conv
  pub shapes : (conv : ℕ) → has_drop ds conv ≡ true → last_put done conv ≡ Some Challenge
  pub once : NoTwice ds
  pub apart : (conv : ℕ) → has_drop ds conv ≡ true → was conv ≡ false

abbrev pub Keeping : List Deed → ℕ → Type 0
Keeping done conv = (stands done conv ≡ true) × (last_put done conv ≡ Some Challenge)

pub record Well (done : List Deed) : Type 0 where
  pub asked : all_asked done ≡ true
  pub rise : SpeakersRise done
  pub kept : (conv : ℕ) → keeps done conv ≡ true → Keeping done conv
  pub fit : DropsFit done (λ conv. was_dropped done conv) (drops done)

-- ---- small steps

never : {X : Type 0} (b : Bool) → b ≡ true → b ≡ false → X
never b e f = absurd (let no_way : true ≡ false = sym e ∙ f in cc)

or_left : (b c : Bool) → b ≡ true → (b || c) ≡ true
or_left true c e = refl
or_left false c e = absurd cc

or_right : (b c : Bool) → c ≡ true → (b || c) ≡ true
or_right true c e = refl
or_right false c e = e

or_either : (b c : Bool) → (b || c) ≡ true → (b ≡ true) ⊎ (c ≡ true)
or_either true c e = inl refl
or_either false c e = inr e

other_part : (b c : Bool) → b ≡ false → (b || c) ≡ true → c ≡ true
other_part true c off e = absurd cc
other_part false c off e = e

and_less : (b c : Bool) → b ≡ false → (b && c) ≡ false
and_less true c e = absurd cc
and_less false c e = refl

has_append : (ds es : List Drop) (conv : ℕ) → has_drop (ds ++ es) conv ≡ (has_drop ds conv || has_drop es conv)
has_append [] es conv = refl
has_append (d ∷ ds) es conv = ap (λ (b : Bool). eqb d.conv conv || b) (has_append ds es conv) ∙ or_again (eqb d.conv conv) (has_drop ds conv) (has_drop es conv)
  where
    or_again : (a b c : Bool) → (a || (b || c)) ≡ ((a || b) || c)
    or_again true b c = refl
    or_again false b c = refl

either_none : (a b c : Bool) → a ≡ (b || c) → b ≡ false → c ≡ false → a ≡ false
either_none a b c e f g = e ∙ rw (f, g) refl

no_twice_append : (ds es : List Drop) → NoTwice ds → NoTwice es → ((conv : ℕ) → has_drop es conv ≡ true → has_drop ds conv ≡ false) → NoTwice (ds ++ es)
no_twice_append [] es n k off = k
no_twice_append (d ∷ ds) es n k off = (
  either_none (has_drop (ds ++ es) d.conv) (has_drop ds d.conv) (has_drop es d.conv) (has_append ds es d.conv) n.0 (not_there (has_drop es d.conv) refl),
  no_twice_append ds es n.1 k (λ conv e. (or_parts (eqb d.conv conv) (has_drop ds conv) (off conv e)).1),
)
  where
    not_there : (b : Bool) → has_drop es d.conv ≡ b → b ≡ false
    not_there true e = absurd (let no_way : true ≡ false = sym (or_left (eqb d.conv d.conv) (has_drop ds d.conv) (eq-eqb d.conv d.conv refl)) ∙ off d.conv e in cc)
    not_there false e = refl

-- ---- more are to be given up

-- what is known of those that come
record NewFit (done : List Deed) (was : ℕ → Bool) (ds es : List Drop) : Type 0 where
  pub gone : (conv : ℕ) → has_drop es conv ≡ true → Dropped done conv
  pub shapes : (conv : ℕ) → has_drop es conv ≡ true → last_put done conv ≡ Some Challenge
  pub once : NoTwice es
  pub anew : (conv : ℕ) → has_drop es conv ≡ true → (has_drop ds conv || was conv) ≡ false

fit_append : (done : List Deed) (was : ℕ → Bool) (ds es : List Drop) → DropsFit done was ds → NewFit done was ds es → DropsFit done was (ds ++ es)
fit_append done was ds es h k = record {
  gone = λ conv e. by_gone conv (or_either (has_drop (ds ++ es) conv) (was conv) e);
  shapes = λ conv e. by_shapes conv (or_either (has_drop ds conv) (has_drop es conv) (sym (has_append ds es conv) ∙ e));
  once = no_twice_append ds es h.once k.once (λ conv e. (or_parts (has_drop ds conv) (was conv) (k.anew conv e)).0);
  apart = λ conv e. by_apart conv (or_either (has_drop ds conv) (has_drop es conv) (sym (has_append ds es conv) ∙ e));
}
  where
    by_either : (conv : ℕ) → (has_drop ds conv ≡ true) ⊎ (has_drop es conv ≡ true) → Dropped done conv
    by_either conv (inl e) = h.gone conv (or_left (has_drop ds conv) (was conv) e)
    by_either conv (inr e) = k.gone conv e

    by_gone : (conv : ℕ) → (has_drop (ds ++ es) conv ≡ true) ⊎ (was conv ≡ true) → Dropped done conv
    by_gone conv (inl e) = by_either conv (or_either (has_drop ds conv) (has_drop es conv) (sym (has_append ds es conv) ∙ e))
    by_gone conv (inr e) = h.gone conv (or_right (has_drop ds conv) (was conv) e)

    by_shapes : (conv : ℕ) → (has_drop ds conv ≡ true) ⊎ (has_drop es conv ≡ true) → last_put done conv ≡ Some Challenge
    by_shapes conv (inl e) = h.shapes conv e
    by_shapes conv (inr e) = k.shapes conv e

    by_apart : (conv : ℕ) → (has_drop ds conv ≡ true) ⊎ (has_drop es conv ≡ true) → was conv ≡ false
    by_apart conv (inl e) = h.apart conv e
    by_apart conv (inr e) = (or_parts (has_drop ds conv) (was conv) (k.anew conv e)).1

-- of a conversation that keeps one none is given up
keeping_is_new : (done : List Deed) (was : ℕ → Bool) (ds : List Drop) (conv : ℕ) → DropsFit done was ds → keeps done conv ≡ true → (has_drop ds conv || was conv) ≡ false
keeping_is_new done was ds conv h e = by_cases (has_drop ds conv || was conv) refl
  where
    by_cases : (b : Bool) → (has_drop ds conv || was conv) ≡ b → b ≡ false
    by_cases true f = never (keeps done conv) e (h.gone conv f).0
    by_cases false f = refl

-- ---- a question is handed out

challenge_shape : (need : Need) → asks_challenge need ≡ true → shape_of need ≡ Some Challenge
challenge_shape (Exchange request Challenge) e = refl
challenge_shape (Exchange request Vouch) e = absurd cc
challenge_shape (Exchange request Tickets) e = absurd cc
challenge_shape (Key template) e = absurd cc
challenge_shape (Offers template) e = absurd cc
challenge_shape (Pick templates) e = absurd cc
challenge_shape Nothing e = absurd cc

next_asks : (done : List Deed) (q : Question) → all_asked done ≡ true → next_question done ≡ Some q → (stands done q.conv && asks_server done q.conv) ≡ true
next_asks done q h e = found_asks (λ n. stands done n && asks_server done n) (λ x. not x.handed) (questions done) q e h

-- one that never asks again has no question
gone_asks_none : (done : List Deed) (q : Question) → all_asked done ≡ true → next_question done ≡ Some q → IsGone done q.conv → ⊥
gone_asks_none done q h e (inl gone) = never (stands done q.conv) (and_parts (stands done q.conv) (asks_server done q.conv) (next_asks done q h e)).0 gone.0
gone_asks_none done q h e (inr over) =
    over_asks_none (standing_of done q.conv) over
    (asked_there (standing_of done q.conv).phase (question_of (standing_of done q.conv)) (on_server (standing_of done q.conv).phase (and_parts (stands done q.conv) (asks_server done q.conv) (next_asks done q h e)).1) (waits_with_question (talk done q.conv)))

hands_kept : (done : List Deed) (o : Option Question) (conv : ℕ) → ((q : Question) → o ≡ Some q → stands done q.conv ≡ true) → (keeps done conv ≡ true → Keeping done conv)
    → kept_by done o conv (keeps done conv) ≡ true → (stands done conv ≡ true) × (put_by done o conv (last_put done conv) ≡ Some Challenge)
hands_kept done None conv there old e = old e
hands_kept done (Some q) conv there old e = step (eqb q.conv conv) refl e
  where
    step : (b : Bool) → eqb q.conv conv ≡ b → cond b (asks_challenge (question_of (standing_of done conv))) (keeps done conv) ≡ true → (stands done conv ≡ true) × (cond b (shape_of (question_of (standing_of done conv))) (last_put done conv) ≡ Some Challenge)
    step true is f = (ap (stands done) (sym (eqb-true q.conv conv is)) ∙ there q refl, challenge_shape (question_of (standing_of done conv)) f)
    step false is f = old f

hands_gone : (done : List Deed) (o : Option Question) (conv : ℕ) → ((q : Question) → o ≡ Some q → IsGone done q.conv → ⊥) → Dropped done conv → (kept_by done o conv (keeps done conv) ≡ false) × IsGone done conv
hands_gone done None conv none d = d
hands_gone done (Some q) conv none d = (step (eqb q.conv conv) refl, d.1)
  where
    step : (b : Bool) → eqb q.conv conv ≡ b → cond b (asks_challenge (question_of (standing_of done conv))) (keeps done conv) ≡ false
    step true is = absurd (none q refl (subst (λ (n : ℕ). IsGone done n) (sym (eqb-true q.conv conv is)) d.1))
    step false is = d.0

hands_shape : (done : List Deed) (o : Option Question) (conv : ℕ) → ((q : Question) → o ≡ Some q → IsGone done q.conv → ⊥) → IsGone done conv → last_put done conv ≡ Some Challenge → put_by done o conv (last_put done conv) ≡ Some Challenge
hands_shape done None conv none gone e = e
hands_shape done (Some q) conv none gone e = step (eqb q.conv conv) refl
  where
    step : (b : Bool) → eqb q.conv conv ≡ b → cond b (shape_of (question_of (standing_of done conv))) (last_put done conv) ≡ Some Challenge
    step true is = absurd (none q refl (subst (λ (n : ℕ). IsGone done n) (sym (eqb-true q.conv conv is)) gone))
    step false is = e

hands_well : (done : List Deed) → Well done → all_asked (HandedOut ∷ done) ≡ true → Well (HandedOut ∷ done)
hands_well done h asked = record {
  asked = asked;
  rise = h.rise;
  kept = λ conv. hands_kept done (next_question done) conv (λ q e. (and_parts (stands done q.conv) (asks_server done q.conv) (next_asks done q h.asked e)).0) (h.kept conv);
  fit = record {
    gone = λ conv e. hands_gone done (next_question done) conv (λ q. gone_asks_none done q h.asked) (h.fit.gone conv e);
    shapes = λ conv e. hands_shape done (next_question done) conv (λ q. gone_asks_none done q h.asked) (h.fit.gone conv (or_left (has_drop (drops done) conv) (was_dropped done conv) e)).1 (h.fit.shapes conv e);
    once = h.fit.once;
    apart = h.fit.apart;
  };
}

-- ---- one is given up

take_fit : (done : List Deed) (was : ℕ → Bool) (ds : List Drop) → DropsFit done was ds → DropsFit (DropTaken ∷ done) (λ conv. is_first ds conv || was conv) (drop 1 ds)
take_fit done was [] h = record { gone = h.gone; shapes = h.shapes; once = tt; apart = λ conv e. absurd cc }
take_fit done was (d ∷ ds) h = record {
  gone = λ conv e. h.gone conv (shuffled (has_drop ds conv) (eqb d.conv conv) (was conv) e);
  shapes = λ conv e. h.shapes conv (or_right (eqb d.conv conv) (has_drop ds conv) e);
  once = h.once.1;
  apart = λ conv e. either_none (eqb d.conv conv || was conv) (eqb d.conv conv) (was conv) refl (other conv (eqb d.conv conv) refl e) (h.apart conv (or_right (eqb d.conv conv) (has_drop ds conv) e));
}
  where
    shuffled : (a b c : Bool) → (a || (b || c)) ≡ true → ((b || a) || c) ≡ true
    shuffled true true c e = refl
    shuffled true false c e = refl
    shuffled false true c e = refl
    shuffled false false c e = e

    other : (conv : ℕ) (b : Bool) → eqb d.conv conv ≡ b → has_drop ds conv ≡ true → b ≡ false
    other conv true is e = never (has_drop ds conv) e (ap (has_drop ds) (sym (eqb-true d.conv conv is)) ∙ h.once.0)
    other conv false is e = refl

-- ---- a conversation meets something

less_kept : (b x y : Bool) → cond b (x && y) x ≡ true → x ≡ true
less_kept true x y e = (and_parts x y e).0
less_kept false x y e = e

none_kept : (b x y : Bool) → x ≡ false → cond b (x && y) x ≡ false
none_kept true x y e = and_less x y e
none_kept false x y e = e

talk_over : (talks : List calls.Call) (call : calls.Call) (b : Bool) → Over (standing talks) → Over (standing (cond b (call ∷ talks) talks))
talk_over talks call true over = over_more talks call over
talk_over talks call false over = over

talk_gone : (done : List Deed) (at : ℕ) (call : calls.Call) (conv : ℕ) → IsGone done conv → IsGone (OfTalk at call ∷ done) conv
talk_gone done at call conv (inl gone) = inl gone
talk_gone done at call conv (inr over) = inr (talk_over (talk done conv) call (eqb at conv) over)

-- one that gave it up is at its end
now_ended : (b x y : Bool) → b ≡ true → x ≡ true → cond b (x && not y) x ≡ false → y ≡ true
now_ended true true true e f g = refl
now_ended true true false e f g = absurd cc
now_ended true false y e f g = absurd cc
now_ended false x y e f g = absurd cc

-- it is the only one of those
only_one : (done : List Deed) (at conv : ℕ) → has_drop (drop_of done at ∷ []) conv ≡ true → at ≡ conv
only_one done at conv e = eqb-true at conv (by_cases (eqb at conv) e)
  where
    by_cases : (b : Bool) → (b || false) ≡ true → b ≡ true
    by_cases true f = refl
    by_cases false f = absurd cc

talk_new : (done : List Deed) (at : ℕ) (call : calls.Call) → Well done → gives_up (OfTalk at call) done at ≡ true → NewFit (OfTalk at call ∷ done) (λ conv. was_dropped done conv) (drops done) (drop_of done at ∷ [])
talk_new done at call h gives =
    let parts = and_parts (keeps done at) (not (keeps (OfTalk at call ∷ done) at)) gives in
    let off : keeps (OfTalk at call ∷ done) at ≡ false = not-true (keeps (OfTalk at call ∷ done) at) parts.1 in
    let over = ended_over (standing_of (OfTalk at call ∷ done) at) (now_ended (eqb at at) (keeps done at) (is_end (outcome_of (standing_of (OfTalk at call ∷ done) at))) (eq-eqb at at refl) parts.0 off) in
    record {
      gone = λ conv e. subst (λ (n : ℕ). Dropped (OfTalk at call ∷ done) n) (only_one done at conv e) (off, inr over);
      shapes = λ conv e. ap (λ (n : ℕ). last_put done n) (sym (only_one done at conv e)) ∙ (h.kept at parts.0).1;
      once = (refl, tt);
      anew = λ conv e. ap (λ (n : ℕ). has_drop (drops done) n || was_dropped done n) (sym (only_one done at conv e)) ∙ keeping_is_new done (λ n. was_dropped done n) (drops done) at h.fit parts.0;
    }

talk_still : (done : List Deed) (at : ℕ) (call : calls.Call) → Well done → DropsFit (OfTalk at call ∷ done) (λ conv. was_dropped done conv) (drops done)
talk_still done at call h = record {
  gone = λ conv e.
      let d = h.fit.gone conv e in
      (none_kept (eqb at conv) (keeps done conv) (not (is_end (outcome_of (standing_of (OfTalk at call ∷ done) conv)))) d.0, talk_gone done at call conv d.1);
  shapes = h.fit.shapes;
  once = h.fit.once;
  apart = h.fit.apart;
}

either_fit : (done : List Deed) (was : ℕ → Bool) (b : Bool) (ds es : List Drop) → (b ≡ true → DropsFit done was es) → DropsFit done was ds → DropsFit done was (cond b es ds)
either_fit done was true ds es new still = new refl
either_fit done was false ds es new still = still

talk_well : (done : List Deed) (at : ℕ) (call : calls.Call) → Well done → all_asked (OfTalk at call ∷ done) ≡ true → Well (OfTalk at call ∷ done)
talk_well done at call h asked = record {
  asked = asked;
  rise = h.rise;
  kept = λ conv e. h.kept conv (less_kept (eqb at conv) (keeps done conv) (not (is_end (outcome_of (standing_of (OfTalk at call ∷ done) conv)))) e);
  fit = either_fit (OfTalk at call ∷ done) (λ conv. was_dropped done conv) (gives_up (OfTalk at call) done at) (drops done) (drops done ++ drop_of done at ∷ [])
      (λ gives. fit_append (OfTalk at call ∷ done) (λ conv. was_dropped done conv) (drops done) (drop_of done at ∷ []) (talk_still done at call h) (talk_new done at call h gives))
      (talk_still done at call h);
}

-- ---- conversations end with their fids

-- the conversations of a given list that give theirs up
given_has : (done : List Deed) (gives : ℕ → Bool) (xs : List Speaker) (conv : ℕ) → has_drop (map (λ (s : Speaker). drop_of done s.conv) (filter (λ (s : Speaker). gives s.conv) xs)) conv ≡ true → gives conv ≡ true
given_has done gives [] conv e = absurd cc
given_has done gives (s ∷ xs) conv e = step (gives s.conv) refl (eqb s.conv conv) refl (given_has done gives xs conv) e
  where
    step : (b : Bool) → gives s.conv ≡ b → (c : Bool) → eqb s.conv conv ≡ c
        → (has_drop (map (λ (t : Speaker). drop_of done t.conv) (filter (λ (t : Speaker). gives t.conv) xs)) conv ≡ true → gives conv ≡ true)
        → has_drop (map (λ (t : Speaker). drop_of done t.conv) (cond b (s ∷ filter (λ (t : Speaker). gives t.conv) xs) (filter (λ (t : Speaker). gives t.conv) xs))) conv ≡ true → gives conv ≡ true
    step true g true is more f = ap gives (sym (eqb-true s.conv conv is)) ∙ g
    step true g false is more f = more (other_part (eqb s.conv conv) (has_drop (map (λ (t : Speaker). drop_of done t.conv) (filter (λ (t : Speaker). gives t.conv) xs)) conv) is f)
    step false g c is more f = more f

-- numbers that are all above another
above_none : (done : List Deed) (gives : ℕ → Bool) (n : ℕ) (xs : List Speaker) → list_all (ltb n) (map number xs) ≡ true → has_drop (map (λ (s : Speaker). drop_of done s.conv) (filter (λ (s : Speaker). gives s.conv) xs)) n ≡ false
above_none done gives n [] h = refl
above_none done gives n (s ∷ xs) h =
    let parts = and_parts (ltb n s.conv) (list_all (ltb n) (map number xs)) h in
    step (gives s.conv) (eqb s.conv n) refl (above_none done gives n xs parts.1) (ltb-true n s.conv parts.0)
  where
    step : (b c : Bool) → eqb s.conv n ≡ c → has_drop (map (λ (t : Speaker). drop_of done t.conv) (filter (λ (t : Speaker). gives t.conv) xs)) n ≡ false → n < s.conv
        → has_drop (map (λ (t : Speaker). drop_of done t.conv) (cond b (s ∷ filter (λ (t : Speaker). gives t.conv) xs) (filter (λ (t : Speaker). gives t.conv) xs))) n ≡ false
    step true true is more lower = absurd (omega (arith, eqb-true s.conv n is, lower))
    step true false is more lower = rw is more
    step false c is more lower = more

given_once : (done : List Deed) (gives : ℕ → Bool) (top : ℕ) (xs : List Speaker) → Rise top (map number xs) → NoTwice (map (λ (s : Speaker). drop_of done s.conv) (filter (λ (s : Speaker). gives s.conv) xs))
given_once done gives top [] h = tt
given_once done gives top (s ∷ xs) h = let parts = rise_parts top s.conv (map number xs) h in step (gives s.conv) (above_none done gives s.conv xs parts.above) (given_once done gives top xs parts.rest)
  where
    step : (b : Bool) → has_drop (map (λ (t : Speaker). drop_of done t.conv) (filter (λ (t : Speaker). gives t.conv) xs)) s.conv ≡ false → NoTwice (map (λ (t : Speaker). drop_of done t.conv) (filter (λ (t : Speaker). gives t.conv) xs))
        → NoTwice (map (λ (t : Speaker). drop_of done t.conv) (cond b (s ∷ filter (λ (t : Speaker). gives t.conv) xs) (filter (λ (t : Speaker). gives t.conv) xs)))
    step true off more = (off, more)
    step false off more = more

-- one that stands has a number that was given
stands_below : (top : ℕ) (xs : List Speaker) (conv : ℕ) → Rise top (map number xs) → list_any (λ (s : Speaker). eqb s.conv conv) xs ≡ true → ltb conv top ≡ true
stands_below top [] conv h e = absurd cc
stands_below top (s ∷ xs) conv h e = let parts = rise_parts top s.conv (map number xs) h in step (eqb s.conv conv) refl parts.below (stands_below top xs conv parts.rest) e
  where
    step : (b : Bool) → eqb s.conv conv ≡ b → ltb s.conv top ≡ true → (list_any (λ (t : Speaker). eqb t.conv conv) xs ≡ true → ltb conv top ≡ true) → (b || list_any (λ (t : Speaker). eqb t.conv conv) xs) ≡ true → ltb conv top ≡ true
    step true is below more f = ap (λ (n : ℕ). ltb n top) (sym (eqb-true s.conv conv is)) ∙ below
    step false is below more f = more f

-- none of some that are left out, and the next one is another
none_left_out : (keep : Speaker → Bool) (xs : List Speaker) (conv : ℕ) → list_any (λ (s : Speaker). eqb s.conv conv) xs ≡ false → list_any (λ (s : Speaker). eqb s.conv conv) (filter keep xs) ≡ false
none_left_out keep [] conv e = refl
none_left_out keep (s ∷ xs) conv e = let parts = or_parts (eqb s.conv conv) (list_any (λ (t : Speaker). eqb t.conv conv) xs) e in step (keep s) parts.0 (none_left_out keep xs conv parts.1)
  where
    step : (b : Bool) → eqb s.conv conv ≡ false → list_any (λ (t : Speaker). eqb t.conv conv) (filter keep xs) ≡ false → list_any (λ (t : Speaker). eqb t.conv conv) (cond b (s ∷ filter keep xs) (filter keep xs)) ≡ false
    step true off more = rw off more
    step false off more = more

none_appended : (xs : List Speaker) (s : Speaker) (conv : ℕ) → list_any (λ (t : Speaker). eqb t.conv conv) xs ≡ false → eqb s.conv conv ≡ false → list_any (λ (t : Speaker). eqb t.conv conv) (xs ++ s ∷ []) ≡ false
none_appended [] s conv e off = rw off refl
none_appended (x ∷ xs) s conv e off = let parts = or_parts (eqb x.conv conv) (list_any (λ (t : Speaker). eqb t.conv conv) xs) e in rw parts.0 (none_appended xs s conv parts.1 off)

another : (n top : ℕ) → ltb n top ≡ true → eqb top n ≡ false
another n top e = by_cases (eqb top n) refl
  where
    by_cases : (b : Bool) → eqb top n ≡ b → b ≡ false
    by_cases true f = absurd (omega (arith, ltb-true n top e, eqb-true top n f))
    by_cases false f = refl

-- what becomes of a conversation that doesn't stand
record Stays (done after : List Deed) (conv : ℕ) : Type 0 where
  pub below : ltb conv (opened_talks done) ≡ true → ltb conv (opened_talks after) ≡ true
  pub off : stands done conv ≡ false → ltb conv (opened_talks done) ≡ true → stands after conv ≡ false

opens_stays : (done : List Deed) (at f mode conv : ℕ) → Stays done (OfFids at (Opened f mode) ∷ done) conv
opens_stays done at f mode conv = record { below = below (names Rpc (fid_of done at f)); off = off (names Rpc (fid_of done at f)) }
  where
    below : (r : Bool) → ltb conv (opened_talks done) ≡ true → ltb conv (cond r (opened_talks done + 1) (opened_talks done)) ≡ true
    below true e = lt-ltb conv (opened_talks done + 1) (omega (arith, ltb-true conv (opened_talks done) e))
    below false e = e

    off : (r : Bool) → stands done conv ≡ false → ltb conv (opened_talks done) ≡ true
        → list_any (λ (s : Speaker). eqb s.conv conv) (cond r (speakers done ++ record { conv = opened_talks done; conn = at; fid = f } ∷ []) (speakers done)) ≡ false
    off true e lower = none_appended (speakers done) (record { conv = opened_talks done; conn = at; fid = f }) conv e (another conv (opened_talks done) lower)
    off false e lower = e

fids_stay : (done : List Deed) (at : ℕ) (deed : FidDeed) (conv : ℕ) → Stays done (OfFids at deed ∷ done) conv
fids_stay done at (Opened f mode) conv = opens_stays done at f mode conv
fids_stay done at (Versioned msize) conv = record { below = λ e. e; off = λ e lower. none_left_out (λ s. not (eqb s.conn at)) (speakers done) conv e }
fids_stay done at (Clunked f) conv = record { below = λ e. e; off = λ e lower. none_left_out (λ s. not (eqb s.conn at && eqb s.fid f)) (speakers done) conv e }
fids_stay done at (Attached f) conv = record { below = λ e. e; off = λ e lower. e }
fids_stay done at (Walked f node) conv = record { below = λ e. e; off = λ e lower. e }
fids_stay done at (Listed f) conv = record { below = λ e. e; off = λ e lower. e }
fids_stay done at (Browsed f next) conv = record { below = λ e. e; off = λ e lower. e }

connection_stays : (done : List Deed) (at : ℕ) (deed : ConnectionDeed) (conv : ℕ) → Stays done (OfConnection at deed ∷ done) conv
connection_stays done at Hung conv = record { below = λ e. e; off = λ e lower. none_left_out (λ s. not (eqb s.conn at)) (speakers done) conv e }
connection_stays done at Entered conv = record { below = λ e. e; off = λ e lower. e }

-- a deed by which conversations end: it changes neither what they met nor what was put out
record Ends (done : List Deed) (deed : Deed) : Type 0 where
  pub kept : (conv : ℕ) → keeps (deed ∷ done) conv ≡ (keeps done conv && stands (deed ∷ done) conv)
  pub same : (conv : ℕ) → standing_of (deed ∷ done) conv ≡ standing_of done conv
  pub put : (conv : ℕ) → last_put (deed ∷ done) conv ≡ last_put done conv
  pub stays : (conv : ℕ) → Stays done (deed ∷ done) conv

ends_gone : (done : List Deed) (deed : Deed) (conv : ℕ) → Ends done deed → IsGone done conv → IsGone (deed ∷ done) conv
ends_gone done deed conv k (inl gone) = inl ((k.stays conv).off gone.0 gone.1, (k.stays conv).below gone.1)
ends_gone done deed conv k (inr over) = inr (subst (λ (s : Standing). Over s) (sym (k.same conv)) over)

ends_still : (done : List Deed) (deed : Deed) → Ends done deed → Well done → DropsFit (deed ∷ done) (λ conv. was_dropped done conv) (drops done)
ends_still done deed k h = record {
  gone = λ conv e.
      let d = h.fit.gone conv e in
      (k.kept conv ∙ and_less (keeps done conv) (stands (deed ∷ done) conv) d.0, ends_gone done deed conv k d.1);
  shapes = λ conv e. k.put conv ∙ h.fit.shapes conv e;
  once = h.fit.once;
  apart = h.fit.apart;
}

left_off : (b x y : Bool) → b ≡ (x && y) → x ≡ true → b ≡ false → y ≡ false
left_off b true y e f g = sym e ∙ g
left_off b false y e f g = absurd cc

ends_new : (done : List Deed) (deed : Deed) → Ends done deed → Well done → NewFit (deed ∷ done) (λ conv. was_dropped done conv) (drops done) (given_up deed done (speakers done))
ends_new done deed k h = record {
  gone = λ conv e.
      let parts = both conv e in
      let kept = h.kept conv parts.0 in
      let off = not-true (keeps (deed ∷ done) conv) parts.1 in
      (off, inl (left_off (keeps (deed ∷ done) conv) (keeps done conv) (stands (deed ∷ done) conv) (k.kept conv) parts.0 off, (k.stays conv).below (stands_below (opened_talks done) (speakers done) conv h.rise kept.0)));
  shapes = λ conv e. k.put conv ∙ (h.kept conv (both conv e).0).1;
  once = given_once done (gives_up deed done) (opened_talks done) (speakers done) h.rise;
  anew = λ conv e. keeping_is_new done (λ n. was_dropped done n) (drops done) conv h.fit (both conv e).0;
}
  where
    both : (conv : ℕ) → has_drop (given_up deed done (speakers done)) conv ≡ true → (keeps done conv ≡ true) × (not (keeps (deed ∷ done) conv) ≡ true)
    both conv e = and_parts (keeps done conv) (not (keeps (deed ∷ done) conv)) (given_has done (gives_up deed done) (speakers done) conv e)

ends_fit : (done : List Deed) (deed : Deed) → Ends done deed → Well done → DropsFit (deed ∷ done) (λ conv. was_dropped done conv) (drops done ++ given_up deed done (speakers done))
ends_fit done deed k h = fit_append (deed ∷ done) (λ conv. was_dropped done conv) (drops done) (given_up deed done (speakers done)) (ends_still done deed k h) (ends_new done deed k h)

ends_kept : (done : List Deed) (deed : Deed) (conv : ℕ) → Ends done deed → Well done → keeps (deed ∷ done) conv ≡ true → Keeping (deed ∷ done) conv
ends_kept done deed conv k h e =
    let parts = and_parts (keeps done conv) (stands (deed ∷ done) conv) (sym (k.kept conv) ∙ e) in
    (parts.1, k.put conv ∙ (h.kept conv parts.0).1)

fids_end : (done : List Deed) (at : ℕ) (deed : FidDeed) → Ends done (OfFids at deed)
fids_end done at deed = record { kept = λ conv. refl; same = λ conv. refl; put = λ conv. refl; stays = fids_stay done at deed }

connection_ends : (done : List Deed) (at : ℕ) (deed : ConnectionDeed) → Ends done (OfConnection at deed)
connection_ends done at deed = record { kept = λ conv. refl; same = λ conv. refl; put = λ conv. refl; stays = connection_stays done at deed }

-- a stop ends them all
halted_gone : (done : List Deed) (conv : ℕ) → IsGone done conv → IsGone (Halted ∷ done) conv
halted_gone done conv (inl gone) = inl (refl, gone.1)
halted_gone done conv (inr over) = inr over

-- ---- every list of deeds of a history

well_more : (conn : ℕ) → KeepsOf (is_done conn) Well
well_more c done (OfFids at deed) kind fits h =
    let k = fids_end done at deed in
    record { asked = asked_more c done (OfFids at deed) kind fits h.asked; rise = speakers_more c done (OfFids at deed) kind fits h.rise; kept = λ conv. ends_kept done (OfFids at deed) conv k h; fit = ends_fit done (OfFids at deed) k h }
well_more c done (OfConnection at deed) kind fits h =
    let k = connection_ends done at deed in
    record { asked = asked_more c done (OfConnection at deed) kind fits h.asked; rise = speakers_more c done (OfConnection at deed) kind fits h.rise; kept = λ conv. ends_kept done (OfConnection at deed) conv k h; fit = ends_fit done (OfConnection at deed) k h }
well_more c done (OfTalk at call) kind fits h = talk_well done at call h (asked_more c done (OfTalk at call) kind fits h.asked)
well_more c done HandedOut kind fits h = hands_well done h (asked_more c done HandedOut kind fits h.asked)
well_more c done DropTaken kind fits h = record { asked = h.asked; rise = h.rise; kept = h.kept; fit = take_fit done (λ conv. was_dropped done conv) (drops done) h.fit }
well_more c done (OfPrompts about doing) kind fits h = record { asked = h.asked; rise = h.rise; kept = h.kept; fit = record { gone = h.fit.gone; shapes = h.fit.shapes; once = h.fit.once; apart = h.fit.apart } }
well_more c done (OfLog doing) kind fits h = record { asked = h.asked; rise = h.rise; kept = h.kept; fit = record { gone = h.fit.gone; shapes = h.fit.shapes; once = h.fit.once; apart = h.fit.apart } }
well_more c done (OfKeys at deed) kind fits h = record { asked = h.asked; rise = h.rise; kept = h.kept; fit = record { gone = h.fit.gone; shapes = h.fit.shapes; once = h.fit.once; apart = h.fit.apart } }
well_more c done (OfReplies at deed) kind fits h = record { asked = h.asked; rise = h.rise; kept = h.kept; fit = record { gone = h.fit.gone; shapes = h.fit.shapes; once = h.fit.once; apart = h.fit.apart } }
well_more c done (Raised conv) kind fits h =
    record { asked = asked_more c done (Raised conv) kind fits h.asked; rise = h.rise; kept = h.kept; fit = record { gone = h.fit.gone; shapes = h.fit.shapes; once = h.fit.once; apart = h.fit.apart } }
well_more c done Swept kind fits h = record { asked = h.asked; rise = h.rise; kept = h.kept; fit = record { gone = h.fit.gone; shapes = h.fit.shapes; once = h.fit.once; apart = h.fit.apart } }
well_more c done Halted kind fits h = record {
  asked = refl;
  rise = refl;
  kept = λ conv e. absurd cc;
  fit = record { gone = λ conv e. (refl, halted_gone done conv (h.fit.gone conv (or_right (has_drop (drops done) conv) (was_dropped done conv) e)).1); shapes = λ conv e. absurd cc; once = tt; apart = λ conv e. absurd cc };
}

none_yet : Well []
none_yet = record { asked = refl; rise = refl; kept = λ conv e. absurd cc; fit = record { gone = λ conv e. absurd cc; shapes = λ conv e. absurd cc; once = tt; apart = λ conv e. absurd cc } }

pub all_well : (H : History) → Well (deeds H)
all_well H = history_grows Well well_more none_yet H
