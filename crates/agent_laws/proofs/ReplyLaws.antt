-- The replies that takes give are the first ones of those that the history gave, in order.
use Rattle.std.proofs.Common.{◌≡◌, ℕ, ◌+◌, ◌<◌, List, [], ◌∷◌, ◌++◌, length, take, drop, map, reverse, Bool, true, false, cond, eqb, ltb, ◌&&◌, ◌||◌, not, refl, sym, ap, ◌∙◌, inl, inr, arith, append_assoc}
use Rattle.std.proofs.Math.Seq.{take-add}
use Rattle.std.specs.List.{filter_map}
use Rattle.std.proofs.lemmas.Bool.{cases_Bool, eq-eqb, eqb-true, ltb-true, ltb-false}
use Rattle.std.proofs.lemmas.List.{take-append-le, take-append-drop, drop-drop, drop_all, length-drop, length-reverse, reverse-append, map-append}
use Rattle.nine.specs.declared.message.RMsg.{RMsg}
use Rattle.nine.specs.Messages.{r_frame}
use Rattle.agent_history.specs.declared.event.Event.{Event}
use Rattle.agent_history.specs.declared.event.Event.TheVariants.{Request, Hang, Answer, NoAnswer, NoRoom, Take, TakeAsk, Stop}
use Rattle.agent_history.specs.declared.event.StepAnswer.TheVariants.{Gone}
use Rattle.agent_history.specs.Deeds.{Deed, OfFids, OfKeys, OfReplies, OfConnection, OfTalk, Raised, HandedOut, OfPrompts, OfLog, DropTaken, Swept, Halted, Answered, Awaited, Settled, Flushed, Taken, Entered, is_gone, is_halted, was_hung, was_opened}
use Rattle.agent_history.specs.Replies.{replies, reply_in, taken, untaken, waits}
use Rattle.agent_history.specs.Conversations.{Due, NoneDue, DropDue, QuestionDue, due}
use Rattle.agent_history.specs.Histories.{History, answer, deeds, does, entered, first_reply, handing, is_reply, most_events, taking}
use Rattle.agent_laws.specs.Laws.{given, gives, put_out}
use Rattle.agent_laws.proofs.KindLaws.{KeepsOf, is_said}
use Rattle.agent_laws.proofs.GrowLaws.{conn_of, event_says, is_take, last_or_not, on_its_own}
use Rattle.agent_laws.proofs.HistoryLaws.{taken_given}

-- ---- what a take gives

-- a reply is left exactly where fewer were taken than were given
first_is_reply : (n : ℕ) (xs : List RMsg) → is_reply (first_reply (drop n xs)).0 ≡ ltb n (length xs)
first_is_reply n xs = elim (cases_Bool (ltb n (length xs))) [
  | inl some ↦ is_some_left (drop n xs) (omega (arith, ltb-true n (length xs) some, length-drop n xs)) ∙ sym some
  | inr none ↦ ap (λ (left : List RMsg). is_reply (first_reply left).0) (drop_all n xs (ltb-false n (length xs) none)) ∙ sym none
]
  where
    is_some_left : (left : List RMsg) → 0 < length left → is_reply (first_reply left).0 ≡ true
    is_some_left [] lt = absurd (omega arith)
    is_some_left (reply ∷ left) lt = refl

answer_is_reply : (gone : Bool) (left : List RMsg) → is_reply (cond gone (Gone, []) (first_reply left)).0 ≡ (not gone && is_reply (first_reply left).0)
answer_is_reply true left = refl
answer_is_reply false left = refl

gives_where_taken : (H : History) (conn : ℕ) → gives H conn ≡ (not (is_gone (deeds H) conn) && ltb (taken (deeds H) conn) (length (replies (deeds H) conn)))
gives_where_taken H conn =
    answer_is_reply (is_gone (deeds H) conn) (untaken (deeds H) conn)
    ∙ ap (λ (b : Bool). not (is_gone (deeds H) conn) && b) (first_is_reply (taken (deeds H) conn) (reverse (replies (deeds H) conn)) ∙ ap (ltb (taken (deeds H) conn)) (length-reverse (replies (deeds H) conn)))

-- ---- what an event makes of the replies: more may be given, and a take alone takes one

-- none was taken, and more may have been given
abbrev pub Given : ℕ → List RMsg → ℕ → List Deed → Type 0
Given n rs conn done = (taken done conn ≡ n) × ((more : List RMsg) × (replies done conn ≡ more ++ rs))

given_same : (done : List Deed) (conn : ℕ) → Given (taken done conn) (replies done conn) conn done
given_same done conn = (refl, ([], refl))

answer_more : (on : Bool) (reply : RMsg) (rs more before : List RMsg) → before ≡ more ++ rs → (also : List RMsg) × (cond on (reply ∷ before) before ≡ also ++ rs)
answer_more true reply rs more before e = (reply ∷ more, ap (λ (xs : List RMsg). reply ∷ xs) e)
answer_more false reply rs more before e = (more, e)

said_gives : (at n : ℕ) (rs : List RMsg) (conn : ℕ) → KeepsOf (is_said at) (Given n rs conn)
said_gives at n rs conn done (OfFids c deed) kind fits g = g
said_gives at n rs conn done (OfKeys c deed) kind fits g = g
said_gives at n rs conn done (OfConnection c deed) kind fits g = g
said_gives at n rs conn done (OfReplies c (Answered tag body)) kind fits g = (g.0, answer_more (eqb c conn) (record { tag = tag; body = body }) rs g.1.0 (replies done conn) g.1.1)
said_gives at n rs conn done (OfReplies c (Flushed tag)) kind fits g = g
said_gives at n rs conn done (OfReplies c (Awaited tag fid count)) kind fits g = g
said_gives at n rs conn done (OfReplies c (Settled tag body)) kind fits g = g
said_gives at n rs conn done (OfReplies c Taken) kind fits g = absurd cc
said_gives at n rs conn done (OfTalk conv call) kind fits g = g
said_gives at n rs conn done (Raised conv) kind fits g = g
said_gives at n rs conn done HandedOut kind fits g = absurd cc
said_gives at n rs conn done DropTaken kind fits g = absurd cc
said_gives at n rs conn done (OfPrompts about doing) kind fits g = g
said_gives at n rs conn done (OfLog doing) kind fits g = g
said_gives at n rs conn done Swept kind fits g =
    let settled = reverse (filter_map reply_in (waits done conn)) in
    (g.0, (settled ++ g.1.0, ap (λ (xs : List RMsg). settled ++ xs) g.1.1 ∙ sym (append_assoc settled g.1.0 rs)))
said_gives at n rs conn done Halted kind fits g = g

-- an event by which nothing is taken
event_gives : (e : Event) (H : History) (conn : ℕ) → is_take e ≡ false → Given (taken (deeds H) conn) (replies (deeds H) conn) conn (deeds (e ∷ H))
event_gives e H conn none = event_says (Given (taken (deeds H) conn) (replies (deeds H) conn) conn) (conn_of e) (said_gives (conn_of e) (taken (deeds H) conn) (replies (deeds H) conn) conn) e H (on_its_own e) none (given_same (deeds H) conn)

-- and one that takes what is due
handing_gives : (o : Due) (done : List Deed) (conn : ℕ) → Given (taken done conn) (replies done conn) conn (handing o done)
handing_gives NoneDue done conn = given_same done conn
handing_gives (DropDue drop) done conn = given_same done conn
handing_gives (QuestionDue question) done conn = given_same done conn

ask_gives : (H : History) (conn : ℕ) → Given (taken (deeds H) conn) (replies (deeds H) conn) conn (deeds (TakeAsk ∷ H))
ask_gives H conn =
    last_or_not (Given (taken (deeds H) conn) (replies (deeds H) conn) conn) H TakeAsk (λ done g. g) (given_same (deeds H) conn) (handing_gives (due (deeds H)) (deeds H) conn)

-- the first ones are the same
given_still : (e : Event) (H : History) (conn : ℕ) → Given (taken (deeds H) conn) (replies (deeds H) conn) conn (deeds (e ∷ H)) → given H conn ≡ take (taken (deeds H) conn) (reverse (replies (deeds H) conn)) → given H conn ≡ take (taken (deeds (e ∷ H)) conn) (reverse (replies (deeds (e ∷ H)) conn))
given_still e H conn g h =
    let n = taken (deeds H) conn in
    let rs = replies (deeds H) conn in
    h ∙ sym (ap (λ (k : ℕ). take k (reverse (replies (deeds (e ∷ H)) conn))) g.0
    ∙ ap (λ (all : List RMsg). take n (reverse all)) g.1.1
    ∙ ap (take n) (reverse-append g.1.0 rs)
    ∙ take-append-le n (reverse rs) (reverse g.1.0) (omega (arith, taken_given (deeds H) conn, length-reverse rs)))

-- a take: one more is taken where it gives a reply
pub record Took (H : History) (at conn : ℕ) (done : List Deed) : Type 0 where
  pub same : replies done conn ≡ replies (deeds H) conn
  pub count : taken done conn ≡ cond (eqb at conn && gives H conn) (taken (deeds H) conn + 1) (taken (deeds H) conn)

-- where something is left to take of the connection, it is taken
one_taken : (done : List Deed) (at conn : ℕ) (on : Bool) → eqb at conn ≡ on → (b : Bool) → ltb (taken done conn) (length (replies done conn)) ≡ b
    → (left : List RMsg) → is_reply (first_reply left).0 ≡ ltb (taken done at) (length (replies done at)) → taken (taking at left done) conn ≡ cond (on && b) (taken done conn + 1) (taken done conn)
one_taken done at conn on is b room (reply ∷ rest) l = rw (is, room) refl
one_taken done at conn true is true room [] l =
    let no_way : false ≡ true = l ∙ ap (λ (n : ℕ). ltb (taken done n) (length (replies done n))) (eqb-true at conn is) ∙ room in
    absurd cc
one_taken done at conn true is false room [] l = refl
one_taken done at conn false is b room [] l = refl

entered_takes : (done : List Deed) (at conn : ℕ) → (taken (entered at done) conn ≡ taken done conn) × (replies (entered at done) conn ≡ replies done conn)
entered_takes done at conn = by_cases (was_opened done at)
  where
    by_cases : (b : Bool) → (taken (cond b done (OfConnection at Entered ∷ done)) conn ≡ taken done conn) × (replies (cond b done (OfConnection at Entered ∷ done)) conn ≡ replies done conn)
    by_cases true = (refl, refl)
    by_cases false = (refl, refl)

-- the connection is gone, or isn't the one
none_taken : (H : History) (at conn : ℕ) → (eqb at conn && gives H conn) ≡ false → Took H at conn (deeds H)
none_taken H at conn e = record { same = refl; count = rw e refl }

both_false : (x y : Bool) → y ≡ false → (x && y) ≡ false
both_false true y e = e
both_false false y e = refl

gone_gives_none : (H : History) (conn : ℕ) → is_gone (deeds H) conn ≡ true → gives H conn ≡ false
gone_gives_none H conn gone = gives_where_taken H conn ∙ ap (λ (b : Bool). not b && ltb (taken (deeds H) conn) (length (replies (deeds H) conn))) gone

hung_is_gone : (H : History) (conn : ℕ) → was_hung (deeds H) conn ≡ true → is_gone (deeds H) conn ≡ true
hung_is_gone H conn hung = ap (λ (b : Bool). is_halted (deeds H) || b) hung ∙ or_true (is_halted (deeds H))
  where
    or_true : (b : Bool) → (b || true) ≡ true
    or_true true = refl
    or_true false = refl

-- a take of a connection that was hung up
hung_takes : (H : History) (at conn : ℕ) → was_hung (deeds H) at ≡ true → Took H at conn (deeds H)
hung_takes H at conn hung = none_taken H at conn (by_cases (eqb at conn) refl)
  where
    by_cases : (on : Bool) → eqb at conn ≡ on → (on && gives H conn) ≡ false
    by_cases true on = gone_gives_none H conn (hung_is_gone H conn (ap (was_hung (deeds H)) (sym (eqb-true at conn on)) ∙ hung))
    by_cases false on = refl

-- a take of one that wasn't, of an agent that goes on
going_takes : (H : History) (at conn : ℕ) → is_halted (deeds H) ≡ false → was_hung (deeds H) at ≡ false → Took H at conn (taking at (untaken (deeds H) at) (entered at (deeds H)))
going_takes H at conn going there =
    let done = deeds H in
    let opened = entered at done in
    let left = untaken done at in
    let here = entered_takes done at at in
    let same = entered_takes done at conn in
    let b = ltb (taken opened conn) (length (replies opened conn)) in
    let l : is_reply (first_reply left).0 ≡ ltb (taken opened at) (length (replies opened at)) =
    first_is_reply (taken done at) (reverse (replies done at)) ∙ ap (ltb (taken done at)) (length-reverse (replies done at)) ∙ rw (here.0, here.1) refl in
    record {
      same = unchanged left opened ∙ same.1;
      count = one_taken opened at conn (eqb at conn) refl b refl left l ∙ by_cases (eqb at conn) refl same.0 same.1;
    }
  where
    unchanged : (left : List RMsg) (opened : List Deed) → replies (taking at left opened) conn ≡ replies opened conn
    unchanged [] opened = refl
    unchanged (reply ∷ rest) opened = refl

    not_gone : eqb at conn ≡ true → is_gone (deeds H) conn ≡ false
    not_gone on = ap (λ (b : Bool). b || was_hung (deeds H) conn) going ∙ ap (was_hung (deeds H)) (sym (eqb-true at conn on)) ∙ there

    by_cases : {n : ℕ} {rs : List RMsg} (on : Bool) → eqb at conn ≡ on → n ≡ taken (deeds H) conn → rs ≡ replies (deeds H) conn
        → cond (on && ltb n (length rs)) (n + 1) n ≡ cond (on && gives H conn) (taken (deeds H) conn + 1) (taken (deeds H) conn)
    by_cases true on e f = rw (e, f, gives_where_taken H conn, not_gone on) refl
    by_cases false on e f = e

take_takes : (H : History) (at conn : ℕ) → Took H at conn (deeds (Take at ∷ H))
take_takes H at conn = by_halt (is_halted (deeds H)) refl
  where
    halted_too : (done : List Deed) → Took H at conn done → Took H at conn (Halted ∷ done)
    halted_too done t = record { same = t.same; count = t.count }

    by_hung : is_halted (deeds H) ≡ false → (hung : Bool) → was_hung (deeds H) at ≡ hung → Took H at conn (cond hung (deeds H) (taking at (untaken (deeds H) at) (entered at (deeds H))))
    by_hung going true is = hung_takes H at conn is
    by_hung going false is = going_takes H at conn going is

    by_last : (within : Bool) → Took H at conn (does (deeds H) (Take at)) → Took H at conn (cond within (does (deeds H) (Take at)) (Halted ∷ does (deeds H) (Take at)))
    by_last true t = t
    by_last false t = halted_too (does (deeds H) (Take at)) t

    by_halt : (halted : Bool) → is_halted (deeds H) ≡ halted → Took H at conn (cond halted (deeds H) (cond (ltb (length H + 1) most_events) (does (deeds H) (Take at)) (Halted ∷ does (deeds H) (Take at))))
    by_halt true is = none_taken H at conn (both_false (eqb at conn) (gives H conn) (gone_gives_none H conn (ap (λ (b : Bool). b || was_hung (deeds H) conn) is)))
    by_halt false is = by_last (ltb (length H + 1) most_events) (by_hung is (was_hung (deeds H) at) refl)

-- ---- the first ones, in order

one_taken_more : (b : Bool) (n : ℕ) (xs got : List RMsg) → got ≡ take n xs → cond b (got ++ take 1 (drop n xs)) got ≡ take (cond b (n + 1) n) xs
one_taken_more true n xs got e = ap (λ (ms : List RMsg). ms ++ take 1 (drop n xs)) e ∙ sym (take-add n 1 xs)
one_taken_more false n xs got e = e

pub given_in_order : (H : History) (conn : ℕ) → given H conn ≡ take (taken (deeds H) conn) (reverse (replies (deeds H) conn))
given_in_order [] conn = refl
given_in_order (Take at ∷ H) conn =
    let t = take_takes H at conn in
    one_taken_more (eqb at conn && gives H conn) (taken (deeds H) conn) (reverse (replies (deeds H) conn)) (given H conn) (given_in_order H conn)
    ∙ rw (t.count, t.same) refl
given_in_order (Request at frame word ∷ H) conn = given_still (Request at frame word) H conn (event_gives (Request at frame word) H conn refl) (given_in_order H conn)
given_in_order (Hang at ∷ H) conn = given_still (Hang at) H conn (event_gives (Hang at) H conn refl) (given_in_order H conn)
given_in_order (Answer call bytes ∷ H) conn = given_still (Answer call bytes) H conn (event_gives (Answer call bytes) H conn refl) (given_in_order H conn)
given_in_order (NoAnswer call ∷ H) conn = given_still (NoAnswer call) H conn (event_gives (NoAnswer call) H conn refl) (given_in_order H conn)
given_in_order (NoRoom call ∷ H) conn = given_still (NoRoom call) H conn (event_gives (NoRoom call) H conn refl) (given_in_order H conn)
given_in_order (TakeAsk ∷ H) conn = given_still TakeAsk H conn (ask_gives H conn) (given_in_order H conn)
given_in_order (Stop ∷ H) conn = given_still Stop H conn (event_gives Stop H conn refl) (given_in_order H conn)

-- with those that are left they are all
pub given_and_left : (H : History) (conn : ℕ) → given H conn ++ untaken (deeds H) conn ≡ reverse (replies (deeds H) conn)
given_and_left H conn = ap (λ (ms : List RMsg). ms ++ untaken (deeds H) conn) (given_in_order H conn) ∙ take-append-drop (taken (deeds H) conn) (reverse (replies (deeds H) conn))

-- ---- what is put out

first_frame : (left : List RMsg) → is_reply (first_reply left).0 ≡ true → (first_reply left).1 ∷ [] ≡ map r_frame (take 1 left)
first_frame [] e = absurd (cc)
first_frame (reply ∷ left) e = refl

answer_frame : (gone : Bool) (left : List RMsg) → is_reply (cond gone (Gone, []) (first_reply left)).0 ≡ true → (cond gone (Gone, []) (first_reply left)).1 ∷ [] ≡ map r_frame (take 1 left)
answer_frame true left e = absurd (cc)
answer_frame false left e = first_frame left e

frames_more : (on reply : Bool) (frames : List (List ℕ)) (frame : List ℕ) (got first : List RMsg) → frames ≡ map r_frame got → (reply ≡ true → frame ∷ [] ≡ map r_frame first)
    → cond (on && reply) (frames ++ frame ∷ []) frames ≡ map r_frame (cond (on && reply) (got ++ first) got)
frames_more false reply frames frame got first e f = e
frames_more true false frames frame got first e f = e
frames_more true true frames frame got first e f = ap (λ (fs : List (List ℕ)). fs ++ frame ∷ []) e ∙ ap (λ (fs : List (List ℕ)). map r_frame got ++ fs) (f refl) ∙ sym (map-append r_frame got first)

pub frames_put_out : (H : History) (conn : ℕ) → put_out H conn ≡ map r_frame (given H conn)
frames_put_out [] conn = refl
frames_put_out (Take at ∷ H) conn = frames_more (eqb at conn) (gives H conn) (put_out H conn) (answer H (Take conn)).1 (given H conn) (take 1 (untaken (deeds H) conn)) (frames_put_out H conn) (answer_frame (is_gone (deeds H) conn) (untaken (deeds H) conn))
frames_put_out (Request at frame word ∷ H) conn = frames_put_out H conn
frames_put_out (Hang at ∷ H) conn = frames_put_out H conn
frames_put_out (Answer call bytes ∷ H) conn = frames_put_out H conn
frames_put_out (NoAnswer call ∷ H) conn = frames_put_out H conn
frames_put_out (NoRoom call ∷ H) conn = frames_put_out H conn
frames_put_out (TakeAsk ∷ H) conn = frames_put_out H conn
frames_put_out (Stop ∷ H) conn = frames_put_out H conn

-- ---- what is left

pub left_after_take : (H : History) (conn : ℕ) → gives H conn ≡ true → untaken (deeds (Take conn ∷ H)) conn ≡ drop 1 (untaken (deeds H) conn)
left_after_take H conn e =
    let t = take_takes H conn conn in
    let count : taken (deeds (Take conn ∷ H)) conn ≡ taken (deeds H) conn + 1 = t.count ∙ rw (eq-eqb conn conn refl, e) refl in
    ap (λ (n : ℕ). drop n (reverse (replies (deeds (Take conn ∷ H)) conn))) count
    ∙ ap (λ (rs : List RMsg). drop (taken (deeds H) conn + 1) (reverse rs)) t.same
    ∙ sym (drop-drop 1 (taken (deeds H) conn) (reverse (replies (deeds H) conn)))
