-- What is put out of connections that are given up, along a history.
use Rattle.std.proofs.Common.{◌≡◌, ℕ, ◌+◌, List, [], ◌∷◌, ◌++◌, Bool, true, false, cond, eqb, ltb, ◌||◌, Option, Some, None, length, refl, sym, ap, subst, ◌∙◌}
use Rattle.std.proofs.lemmas.Bool.{eq-eqb, eqb-true}
use Rattle.wire_base.specs.declared.shape.Shape.{Shape}
use Rattle.wire_base.specs.declared.shape.Shape.TheVariants.{Challenge}
use Rattle.nine.specs.declared.message.RMsg.{RMsg}
use Rattle.roles.specs.declared.need.Need.{Need}
use Rattle.roles.specs.declared.need.Need.TheVariants.{Nothing, Key, Offers, Pick, Exchange}
use Rattle.talks.specs.Standings.{question_of}
use Rattle.agent_history.specs.declared.event.Event.{Event}
use Rattle.agent_history.specs.declared.event.Event.TheVariants.{Request, Hang, Answer, NoAnswer, NoRoom, Take, TakeAsk, Stop}
use Rattle.agent_history.specs.declared.event.StepAnswer.{StepAnswer}
use Rattle.agent_history.specs.declared.event.StepAnswer.TheVariants.{DropCall, Gone, NoAsk, Stopped}
use Rattle.agent_history.specs.Deeds.{Deed, OfFids, OfKeys, OfReplies, OfConnection, OfTalk, Raised, HandedOut, OfPrompts, OfLog, DropTaken, Swept, Halted, Entered, is_gone, is_halted, was_hung, was_opened}
use Rattle.agent_history.specs.Conversations.{Drop, Due, DropDue, NoneDue, Question, QuestionDue, drops, due, due_of, next_question, standing_of, talk}
use Rattle.agent_history.specs.Replies.{untaken}
use Rattle.agent_history.specs.Histories.{History, answer, asks, deeds, entered, first_reply, handing, most_events, put_out, taking}
use Rattle.agent_laws.specs.Laws.{asked_by, last_asked}
use Rattle.agent_laws.proofs.KindLaws.{KeepsOf, is_done, is_said}
use Rattle.agent_laws.proofs.GrowLaws.{conn_of, either_way, event_grows, event_says, is_take, last_or_not, on_its_own}
use Rattle.agent_laws.proofs.PutLaws.{IsAsked, asked_there, due_is_next, due_waits, waits_with_question}
use Rattle.agent_laws.proofs.DropLaws.{all_well, has_drop, is_first, last_put, put_by, shape_of, was_dropped}

-- ---- what is put out

pub drop_is_put : (H : History) (drop : Drop) → is_halted (deeds H) ≡ false → due (deeds H) ≡ DropDue drop → answer H TakeAsk ≡ (DropCall drop.conv, [])
drop_is_put H drop going e = ap (λ (b : Bool). cond b (Stopped, []) (put_out (deeds H) (due (deeds H)))) going ∙ ap (put_out (deeds H)) e

pub nothing_is_put : (H : History) → is_halted (deeds H) ≡ false → due (deeds H) ≡ NoneDue → answer H TakeAsk ≡ (NoAsk, [])
nothing_is_put H going e = ap (λ (b : Bool). cond b (Stopped, []) (put_out (deeds H) (due (deeds H)))) going ∙ ap (put_out (deeds H)) e

-- where a connection is given up, it is the oldest of those that are to be
record Gives (done : List Deed) (conv : ℕ) : Type 0 where
  pub going : is_halted done ≡ false
  pub drop : Drop
  pub is_due : due done ≡ DropDue drop
  pub number : drop.conv ≡ conv

asks_no_drop : (q : Question) (need : Need) (conv : ℕ) → asks q need ≡ (DropCall conv, []) → ⊥
asks_no_drop q (Exchange request shape) conv e = let no_way = ap (λ (a : StepAnswer × List ℕ). a.0) e in cc
asks_no_drop q (Key template) conv e = let no_way = ap (λ (a : StepAnswer × List ℕ). a.0) e in cc
asks_no_drop q (Offers template) conv e = let no_way = ap (λ (a : StepAnswer × List ℕ). a.0) e in cc
asks_no_drop q (Pick templates) conv e = let no_way = ap (λ (a : StepAnswer × List ℕ). a.0) e in cc
asks_no_drop q Nothing conv e = let no_way = ap (λ (a : StepAnswer × List ℕ). a.0) e in cc

same_number : (one other : ℕ) → DropCall one ≡ DropCall other → one ≡ other
same_number one other e = cc

puts_drop : (done : List Deed) (conv : ℕ) (o : Due) → is_halted done ≡ false → due done ≡ o → put_out done o ≡ (DropCall conv, []) → Gives done conv
puts_drop done conv NoneDue going e f = absurd (let no_way = ap (λ (a : StepAnswer × List ℕ). a.0) f in cc)
puts_drop done conv (DropDue drop) going e f = record { going = going; drop = drop; is_due = e; number = same_number drop.conv conv (ap (λ (a : StepAnswer × List ℕ). a.0) f) }
puts_drop done conv (QuestionDue q) going e f = absurd (asks_no_drop q (question_of (standing_of done q.conv)) conv f)

gives_drop : (done : List Deed) (conv : ℕ) (b : Bool) → is_halted done ≡ b → cond b (Stopped, []) (put_out done (due done)) ≡ (DropCall conv, []) → Gives done conv
gives_drop done conv true h e = absurd (let no_way = ap (λ (a : StepAnswer × List ℕ). a.0) e in cc)
gives_drop done conv false h e = puts_drop done conv (due done) h refl e

drop_given : (H : History) (conv : ℕ) → answer H TakeAsk ≡ (DropCall conv, []) → Gives (deeds H) conv
drop_given H conv e = gives_drop (deeds H) conv (is_halted (deeds H)) refl e

-- it is the first of them
first_here : (ds : List Drop) (next : Option Question) (drop : Drop) → due_of ds next ≡ DropDue drop → is_first ds drop.conv ≡ true
first_here [] None drop e = absurd cc
first_here [] (Some q) drop e = absurd cc
first_here (d ∷ more) None drop e = same_drop d drop e
  where
    same_drop : (d drop : Drop) → DropDue d ≡ DropDue drop → eqb d.conv drop.conv ≡ true
    same_drop d drop e = let same : d ≡ drop = cc in eq-eqb d.conv drop.conv (ap (λ (x : Drop). x.conv) same)
first_here (d ∷ more) (Some q) drop e = by_cases (ltb d.behind q.call) e
  where
    by_cases : (b : Bool) → cond b (DropDue d) (QuestionDue q) ≡ DropDue drop → eqb d.conv drop.conv ≡ true
    by_cases true f = let same : d ≡ drop = cc in eq-eqb d.conv drop.conv (ap (λ (x : Drop). x.conv) same)
    by_cases false f = absurd cc

first_has : (ds : List Drop) (conv : ℕ) → is_first ds conv ≡ true → has_drop ds conv ≡ true
first_has [] conv e = absurd cc
first_has (d ∷ more) conv e = rw e refl

-- ---- it comes once

gives_has : (done : List Deed) (conv : ℕ) → Gives done conv → is_first (drops done) conv ≡ true
gives_has done conv g = subst (λ (n : ℕ). is_first (drops done) n ≡ true) g.number (first_here (drops done) (next_question done) g.drop g.is_due)

abbrev WasDropped : ℕ → List Deed → Type 0
WasDropped conv done = was_dropped done conv ≡ true

or_more : (b c : Bool) → c ≡ true → (b || c) ≡ true
or_more true c e = refl
or_more false c e = e

dropped_more : (conv at : ℕ) → KeepsOf (is_done at) (WasDropped conv)
dropped_more conv at done (OfFids c deed) kind fits h = h
dropped_more conv at done (OfKeys c deed) kind fits h = h
dropped_more conv at done (OfReplies c deed) kind fits h = h
dropped_more conv at done (OfConnection c deed) kind fits h = h
dropped_more conv at done (OfTalk c call) kind fits h = h
dropped_more conv at done (Raised c) kind fits h = h
dropped_more conv at done HandedOut kind fits h = h
dropped_more conv at done DropTaken kind fits h = or_more (is_first (drops done) conv) (was_dropped done conv) h
dropped_more conv at done (OfPrompts about doing) kind fits h = h
dropped_more conv at done (OfLog doing) kind fits h = h
dropped_more conv at done Swept kind fits h = h
dropped_more conv at done Halted kind fits h = h

dropped_since : (more H : History) (conv : ℕ) → was_dropped (deeds H) conv ≡ true → was_dropped (deeds (more ++ H)) conv ≡ true
dropped_since [] H conv h = h
dropped_since (e ∷ more) H conv h = event_grows (WasDropped conv) (conn_of e) (dropped_more conv (conn_of e)) e (more ++ H) (on_its_own e) (dropped_since more H conv h)

-- the take that gives it up
take_drops : (H : History) (conv : ℕ) → Gives (deeds H) conv → was_dropped (deeds (TakeAsk ∷ H)) conv ≡ true
take_drops H conv g = rw g.going (by_last (ltb (length H + 1) most_events))
  where
    handed : was_dropped (handing (due (deeds H)) (deeds H)) conv ≡ true
    handed = ap (λ (o : Due). was_dropped (handing o (deeds H)) conv) g.is_due ∙ ap (λ (b : Bool). b || was_dropped (deeds H) conv) (gives_has (deeds H) conv g)

    by_last : (b : Bool) → was_dropped (cond b (handing (due (deeds H)) (deeds H)) (Halted ∷ handing (due (deeds H)) (deeds H))) conv ≡ true
    by_last true = handed
    by_last false = handed

pub drops_come_once : (H more : History) (conv : ℕ) → answer H TakeAsk ≡ (DropCall conv, []) → answer (more ++ TakeAsk ∷ H) TakeAsk ≡ (DropCall conv, []) → ⊥
drops_come_once H more conv e f =
    let later = more ++ TakeAsk ∷ H in
    let was = dropped_since more (TakeAsk ∷ H) conv (take_drops H conv (drop_given H conv e)) in
    let again = first_has (drops (deeds later)) conv (gives_has (deeds later) conv (drop_given later conv f)) in
    let no_way : true ≡ false = sym was ∙ (all_well later).fit.apart conv again in
    cc

-- ---- behind a question for a challenge

abbrev SamePut : ℕ → Option Shape → List Deed → Type 0
SamePut conv shape done = last_put done conv ≡ shape

put_more : (conv at : ℕ) (shape : Option Shape) → KeepsOf (is_said at) (SamePut conv shape)
put_more conv at shape done (OfFids c deed) kind fits h = h
put_more conv at shape done (OfKeys c deed) kind fits h = h
put_more conv at shape done (OfReplies c deed) kind fits h = h
put_more conv at shape done (OfConnection c deed) kind fits h = h
put_more conv at shape done (OfTalk c call) kind fits h = h
put_more conv at shape done (Raised c) kind fits h = h
put_more conv at shape done HandedOut kind fits h = absurd cc
put_more conv at shape done DropTaken kind fits h = absurd cc
put_more conv at shape done (OfPrompts about doing) kind fits h = h
put_more conv at shape done (OfLog doing) kind fits h = h
put_more conv at shape done Swept kind fits h = h
put_more conv at shape done Halted kind fits h = h

-- an event by which nothing is taken
says_same : (e : Event) (H : History) (conv : ℕ) → is_take e ≡ false → last_put (deeds (e ∷ H)) conv ≡ last_put (deeds H) conv
says_same e H conv none = event_says (SamePut conv (last_put (deeds H) conv)) (conn_of e) (put_more conv (conn_of e) (last_put (deeds H) conv)) e H (on_its_own e) none refl

-- a take of a reply
take_same : (H : History) (at conv : ℕ) → last_put (deeds (Take at ∷ H)) conv ≡ last_put (deeds H) conv
take_same H at conv =
    last_or_not (SamePut conv (last_put (deeds H) conv)) H (Take at) (λ done h. h) refl
    (either_way (SamePut conv (last_put (deeds H) conv)) (was_hung (deeds H) at) (deeds H) (taking at (untaken (deeds H) at) (entered at (deeds H))) refl (taken (untaken (deeds H) at) (was_opened (deeds H) at)))
  where
    taken : (left : List RMsg) (b : Bool) → last_put (taking at left (cond b (deeds H) (OfConnection at Entered ∷ deeds H))) conv ≡ last_put (deeds H) conv
    taken [] true = refl
    taken [] false = refl
    taken (reply ∷ rest) true = refl
    taken (reply ∷ rest) false = refl

reply_same : (conv : ℕ) (shape : Option Shape) (gone : Bool) (left : List RMsg) → asked_by conv (cond gone (Gone, []) (first_reply left)).0 shape ≡ shape
reply_same conv shape true left = refl
reply_same conv shape false [] = refl
reply_same conv shape false (reply ∷ rest) = refl

-- a take of what is due
shape_here : (done : List Deed) (q : Question) (conv : ℕ) (request : List ℕ) (shape : Shape) (earlier : Option Shape) → question_of (standing_of done q.conv) ≡ Exchange request shape → (b : Bool) → eqb q.conv conv ≡ b
    → cond b (Some shape) earlier ≡ cond b (shape_of (question_of (standing_of done conv))) earlier
shape_here done q conv request shape earlier e true is = sym (ap (λ (n : ℕ). shape_of (question_of (standing_of done n))) (sym (eqb-true q.conv conv is)) ∙ ap shape_of e)
shape_here done q conv request shape earlier e false is = refl

due_put : (done : List Deed) (conv : ℕ) (o : Due) → due done ≡ o → ((q : Question) → o ≡ QuestionDue q → IsAsked (question_of (standing_of done q.conv))) → asked_by conv (put_out done o).0 (last_put done conv) ≡ last_put (handing o done) conv
due_put done conv NoneDue e asked = refl
due_put done conv (DropDue drop) e asked = refl
due_put done conv (QuestionDue q) e asked =
    let a = asked q refl in
    ap (λ (need : Need). asked_by conv (asks q need).0 (last_put done conv)) a.2
    ∙ shape_here done q conv a.0 a.1 (last_put done conv) a.2 (eqb q.conv conv) refl
    ∙ sym (ap (λ (o : Option Question). put_by done o conv (last_put done conv)) (due_is_next (drops done) (next_question done) q e))

due_asked : (H : History) (q : Question) → due (deeds H) ≡ QuestionDue q → IsAsked (question_of (standing_of (deeds H) q.conv))
due_asked H q e = asked_there (standing_of (deeds H) q.conv).phase (question_of (standing_of (deeds H) q.conv)) (due_waits H q e) (waits_with_question (talk (deeds H) q.conv))

ask_put : (H : History) (conv : ℕ) → asked_by conv (answer H TakeAsk).0 (last_put (deeds H) conv) ≡ last_put (deeds (TakeAsk ∷ H)) conv
ask_put H conv = by_halt (is_halted (deeds H))
  where
    by_last : (b : Bool) → last_put (cond b (handing (due (deeds H)) (deeds H)) (Halted ∷ handing (due (deeds H)) (deeds H))) conv ≡ last_put (handing (due (deeds H)) (deeds H)) conv
    by_last true = refl
    by_last false = refl

    by_halt : (b : Bool) → asked_by conv (cond b (Stopped, []) (put_out (deeds H) (due (deeds H)))).0 (last_put (deeds H) conv)
        ≡ last_put (cond b (deeds H) (cond (ltb (length H + 1) most_events) (handing (due (deeds H)) (deeds H)) (Halted ∷ handing (due (deeds H)) (deeds H)))) conv
    by_halt true = refl
    by_halt false = due_put (deeds H) conv (due (deeds H)) refl (λ q e. due_asked H q e) ∙ sym (by_last (ltb (length H + 1) most_events))

last_is : (H : History) (conv : ℕ) → last_asked H conv ≡ last_put (deeds H) conv
last_is [] conv = refl
last_is (TakeAsk ∷ H) conv = ap (asked_by conv (answer H TakeAsk).0) (last_is H conv) ∙ ask_put H conv
last_is (Take at ∷ H) conv = reply_same conv (last_asked H conv) (is_gone (deeds H) at) (untaken (deeds H) at) ∙ last_is H conv ∙ sym (take_same H at conv)
last_is (Request at frame word ∷ H) conv = last_is H conv ∙ sym (says_same (Request at frame word) H conv refl)
last_is (Hang at ∷ H) conv = last_is H conv ∙ sym (says_same (Hang at) H conv refl)
last_is (Answer call bytes ∷ H) conv = last_is H conv ∙ sym (says_same (Answer call bytes) H conv refl)
last_is (NoAnswer call ∷ H) conv = last_is H conv ∙ sym (says_same (NoAnswer call) H conv refl)
last_is (NoRoom call ∷ H) conv = last_is H conv ∙ sym (says_same (NoRoom call) H conv refl)
last_is (Stop ∷ H) conv = last_is H conv ∙ sym (says_same Stop H conv refl)

pub drops_follow_challenges : (H : History) (conv : ℕ) → answer H TakeAsk ≡ (DropCall conv, []) → last_asked H conv ≡ Some Challenge
drops_follow_challenges H conv e =
    last_is H conv ∙ (all_well H).fit.shapes conv (first_has (drops (deeds H)) conv (gives_has (deeds H) conv (drop_given H conv e)))
