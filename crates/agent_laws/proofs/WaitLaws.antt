-- The reads that wait: which they are, that those which are settled are swept in their event, and that a frame has no
-- reply only where it is such a read.
use Rattle.std.proofs.Common.{◌≡◌, ℕ, ◌+◌, ◌<◌, ◌≤◌, List, [], ◌∷◌, ◌++◌, length, map, Bool, true, false, cond, eqb, ◌&&◌, not, Option, Some, None, refl, sym, ap, subst, ◌∙◌, inl, inr, arith, ◌||◌}
use Rattle.std.specs.Prelude.{Result, Ok, Err, is_some, find}
use Rattle.std.specs.List.{filter, list_all, list_any, AllByRecursion, IsDistinct}
use Rattle.std.proofs.lemmas.Bool.{cases_Bool, and_from, and_parts, eqb-true, or_parts, eq-eqb}
use Rattle.attr_tuples.proofs.EqualityLemmas.{eqb_swap}
use Rattle.nine.specs.declared.message.RMsg.{RMsg}
use Rattle.nine.specs.declared.message.RBody.{RBody}
use Rattle.nine.specs.declared.message.TBody.{TBody}
use Rattle.nine.specs.declared.message.TBody.TheVariants as t
use Rattle.file_tree.specs.declared.tree.Node.TheVariants.{Rpc, Root, Factotum, Ctl, Confirm, Needkey, Proto, Log}
use Rattle.file_tree.specs.declared.tree.FidState.{FidState}
use Rattle.file_tree.specs.Calls.{at_rest, attached, is_open, node_of, opened}
use Rattle.talks.specs.Calls as calls
use Rattle.talks.specs.Standings.{Phase, Resting, Waiting as IsStored, Seeking, OnConfirm, OnNeedkey, OnServer, Kept}
use Rattle.agent_history.specs.declared.event.Event.{Event}
use Rattle.agent_history.specs.declared.event.Event.TheVariants.{Request, Hang, Answer, NoAnswer, NoRoom, Take, TakeAsk, Stop}
use Rattle.agent_history.specs.Deeds.{Deed, OfFids, OfKeys, OfReplies, OfConnection, OfTalk, Raised, HandedOut, OfPrompts, OfLog, DropTaken, Swept, Halted, Versioned, Attached, Walked, Opened, Listed, Browsed, Clunked, Answered, Awaited, Settled, Flushed, Taken, Entered, Hung, fid_of, names, was_hung, was_opened}
use Rattle.agent_history.specs.Replies.{Wait, fid_given_up, first_of, has_settled, is_unsettled, settle_fid, settle_tag, settled_by, swept, untaken, waits, waits_for, waits_under}
use Rattle.agent_history.specs.Conversations.{asker, resumed, conv_of, standing_of, Due, NoneDue, DropDue, QuestionDue, due, given_up_by}
use Rattle.agent_history.specs.Requests.{Call, answered, body_for, body_to, call_of, granted, is_rpc, reply_of, after, after_frame, after_granted, answer_read, carried, is_resting, phase_in, reading, reading_answer, reading_talk, refusal, talk_read, line_read_reply, reading_line}
use Rattle.agent_history.specs.Histories.{History, deeds, does, entered, handing, taking}
use Rattle.agent_laws.specs.Laws.{AllTold, AreWaiting, IsBehind, as_it_came, may_wait, may_wait_on}
use Rattle.agent_laws.proofs.SettleLaws.{tag_length, tag_same}
use Rattle.agent_laws.proofs.KindLaws.{KeepsOf, is_done, Fits, is_met}
use Rattle.agent_laws.proofs.FileLaws.{told_by_file}
use Rattle.agent_laws.proofs.ConversationLaws.{OpenersSpeak, openers_more}
use Rattle.agent_laws.proofs.ExclusiveLaws.{Opener, none_opened, opener_more}
use Rattle.agent_laws.proofs.GrowLaws.{either_way, history_grows, last_or_not, Passed, is_pending, none_refuses, read_count, KeepsAny, carried_any}
use Rattle.agent_laws.proofs.FitLaws.{counts_fit}
use Rattle.agent_history.specs.SideFiles.{is_line_file, lines_in}
use Rattle.side_files.specs.Lines.{Found, Nothing, TooLong, First, found}
use Rattle.file_tree.specs.declared.tree.Node.{Node}
use Rattle.file_tree.specs.Tree.{file}

-- ---- what is settled is swept

abbrev NoneSettled : List Deed → Type 0
NoneSettled done = has_settled done ≡ false

swept_settles : (done : List Deed) → NoneSettled (swept done)
swept_settles done = by_cases (has_settled done) refl
  where
    by_cases : (b : Bool) → has_settled done ≡ b → NoneSettled (cond b (Swept ∷ done) done)
    by_cases true e = refl
    by_cases false e = e

entered_settles : (at : ℕ) (done : List Deed) → NoneSettled done → NoneSettled (entered at done)
entered_settles at done h = either_way NoneSettled (was_opened done at) done (OfConnection at Entered ∷ done) h h

taking_settles : (at : ℕ) (left : List RMsg) (done : List Deed) → NoneSettled done → NoneSettled (taking at left done)
taking_settles at [] done h = h
taking_settles at (reply ∷ rest) done h = h

handing_settles : (o : Due) (done : List Deed) → NoneSettled done → NoneSettled (handing o done)
handing_settles NoneDue done h = h
handing_settles (DropDue drop) done h = h
handing_settles (QuestionDue question) done h = h

event_settles : (e : Event) (done : List Deed) → NoneSettled done → NoneSettled (does done e)
event_settles (Request at frame word) done h = either_way NoneSettled (was_hung done at) done _ h (swept_settles (answered (entered at done) (call_of at frame word) frame))
event_settles (Take at) done h = either_way NoneSettled (was_hung done at) done _ h (taking_settles at (untaken done at) (entered at done) (entered_settles at done h))
event_settles (Hang at) done h = either_way NoneSettled (was_opened done at && not (was_hung done at)) _ done (swept_settles (given_up_by (OfConnection at Hung) done)) h
event_settles Stop done h = refl
event_settles (Answer number bytes) done h = swept_settles (resumed (asker done number) (calls.Heard bytes) done)
event_settles (NoAnswer number) done h = swept_settles (resumed (asker done number) calls.Unheard done)
event_settles (NoRoom number) done h = swept_settles (resumed (asker done number) calls.Roomless done)
event_settles TakeAsk done h = handing_settles (due done) done h

pub none_settled : (H : History) → has_settled (deeds H) ≡ false
none_settled [] = refl
none_settled (e ∷ H) = last_or_not NoneSettled H e (λ done q. refl) (none_settled H) (event_settles e (deeds H) (none_settled H))

-- ---- lists of reads

abbrev Unsettled : List Wait → Type 0
Unsettled ws = list_all is_unsettled ws ≡ true

-- an unsettled read's fid is open
abbrev OpenIf : (ℕ → Bool) → Wait → Type 0
OpenIf opens wait = is_unsettled wait ≡ true → opens wait.fid ≡ true

-- no two have the same number
abbrev Apart : (Wait → ℕ) → List Wait → Type 0
Apart f ws = IsDistinct eqb (map f ws)

-- what is so of all of them, where these fids are open
pub record Well (opens : ℕ → Bool) (ws : List Wait) : Type 0 where
  pub opened : AllByRecursion (OpenIf opens) ws
  pub tags : Apart (λ wait. wait.tag) ws
  pub few : length ws ≤ 64

none_well : (opens : ℕ → Bool) → Well opens []
unfolding IsDistinct
none_well opens = record { opened = tt; tags = tt; few = omega arith }

each_weaker : {X : Type 0} (P Q : X → Type 0) (xs : List X) → ((x : X) → P x → Q x) → AllByRecursion P xs → AllByRecursion Q xs
each_weaker P Q [] f h = tt
each_weaker P Q (x ∷ xs) f h = (f x h.0, each_weaker P Q xs f h.1)

each_append : {X : Type 0} (P : X → Type 0) (xs : List X) (x : X) → AllByRecursion P xs → P x → AllByRecursion P (xs ++ x ∷ [])
each_append P [] x h p = (p, tt)
each_append P (y ∷ xs) x h p = (h.0, each_append P xs x h.1 p)

each_kept : {X : Type 0} (P : X → Type 0) (keep : X → Bool) (xs : List X) → AllByRecursion P xs → AllByRecursion P (filter keep xs)
each_kept P keep [] h = tt
each_kept P keep (x ∷ xs) h = elim (cases_Bool (keep x)) [
  | inl e ↦ rw e (h.0, each_kept P keep xs h.1)
  | inr e ↦ rw e (each_kept P keep xs h.1)
]

-- numbers of some that are kept
numbers_kept : (P : ℕ → Type 0) (f : Wait → ℕ) (keep : Wait → Bool) (ws : List Wait) → AllByRecursion P (map f ws) → AllByRecursion P (map f (filter keep ws))
numbers_kept P f keep [] h = tt
numbers_kept P f keep (w ∷ ws) h = elim (cases_Bool (keep w)) [
  | inl e ↦ rw e (h.0, numbers_kept P f keep ws h.1)
  | inr e ↦ rw e (numbers_kept P f keep ws h.1)
]

apart_kept : (f : Wait → ℕ) (keep : Wait → Bool) (ws : List Wait) → Apart f ws → Apart f (filter keep ws)
unfolding IsDistinct
apart_kept f keep [] h = h
apart_kept f keep (w ∷ ws) h = elim (cases_Bool (keep w)) [
  | inl e ↦ rw e (numbers_kept (λ n. eqb (f w) n ≡ false) f keep ws h.0, apart_kept f keep ws h.1)
  | inr e ↦ rw e (apart_kept f keep ws h.1)
]

numbers_append : (P : ℕ → Type 0) (f : Wait → ℕ) (ws : List Wait) (w : Wait) → AllByRecursion P (map f ws) → P (f w) → AllByRecursion P (map f (ws ++ w ∷ []))
numbers_append P f [] w h p = (p, tt)
numbers_append P f (v ∷ ws) w h p = (h.0, numbers_append P f ws w h.1 p)

apart_append : (f : Wait → ℕ) (ws : List Wait) (w : Wait) → Apart f ws → list_any (λ v. eqb (f v) (f w)) ws ≡ false → Apart f (ws ++ w ∷ [])
unfolding IsDistinct
apart_append f [] w h e = (tt, tt)
apart_append f (v ∷ ws) w h e =
    let parts = or_parts (eqb (f v) (f w)) (list_any (λ x. eqb (f x) (f w)) ws) e in
    (numbers_append (λ n. eqb (f v) n ≡ false) f ws w h.0 parts.0, apart_append f ws w h.1 parts.1)

fewer_kept : (keep : Wait → Bool) (ws : List Wait) → length (filter keep ws) ≤ length ws
fewer_kept keep [] = omega arith
fewer_kept keep (w ∷ ws) = elim (cases_Bool (keep w)) [
  | inl e ↦ rw e (omega (arith, fewer_kept keep ws))
  | inr e ↦ rw e (omega (arith, fewer_kept keep ws))
]

one_longer : (ws : List Wait) (w : Wait) → length (ws ++ w ∷ []) ≡ length ws + 1
one_longer [] w = refl
one_longer (v ∷ ws) w = omega (arith, one_longer ws w)

-- ---- what deeds make of them

kept_well : (opens : ℕ → Bool) (keep : Wait → Bool) (ws : List Wait) → Well opens ws → Well opens (filter keep ws)
kept_well opens keep ws h = record {
  opened = each_kept (OpenIf opens) keep ws h.opened;
  tags = apart_kept (λ wait. wait.tag) keep ws h.tags;
  few = omega (arith, h.few, fewer_kept keep ws);
}

append_well : (opens : ℕ → Bool) (ws : List Wait) (w : Wait) → Well opens ws → opens w.fid ≡ true → list_any (λ v. eqb v.tag w.tag) ws ≡ false → length ws < 64 → Well opens (ws ++ w ∷ [])
append_well opens ws w h o unused few = record {
  opened = each_append (OpenIf opens) ws w h.opened (λ e. o);
  tags = apart_append (λ wait. wait.tag) ws w h.tags unused;
  few = omega (arith, few, one_longer ws w);
}

-- a read that is settled has the same numbers, and isn't unsettled
is_settled : (body : RBody) (w : Wait) → is_unsettled (settled_by body w) ≡ false
is_settled body w = by_reply w.reply
  where
    by_reply : (o : Option RBody) → not (is_some (first_of body o)) ≡ false
    by_reply None = refl
    by_reply (Some first) = refl

settled_open : (opens : ℕ → Bool) (body : RBody) (w : Wait) → OpenIf opens (settled_by body w)
settled_open opens body w e = absurd (let no_way : true ≡ false = sym e ∙ is_settled body w in cc)

tag_open : (opens : ℕ → Bool) (tag : ℕ) (body : RBody) (ws : List Wait) → AllByRecursion (OpenIf opens) ws → AllByRecursion (OpenIf opens) (settle_tag tag body ws)
tag_open opens tag body [] h = tt
tag_open opens tag body (w ∷ ws) h = elim (cases_Bool (eqb w.tag tag)) [
  | inl e ↦ rw e (settled_open opens body w, h.1)
  | inr e ↦ rw e (h.0, tag_open opens tag body ws h.1)
]

tag_well : (opens : ℕ → Bool) (tag : ℕ) (body : RBody) (ws : List Wait) → Well opens ws → Well opens (settle_tag tag body ws)
tag_well opens tag body ws h = record {
  opened = tag_open opens tag body ws h.opened;
  tags = subst (IsDistinct eqb) (sym (tag_same (λ wait. wait.tag) (λ body w. refl) tag body ws)) h.tags;
  few = omega (arith, h.few, tag_length tag body ws);
}

-- the reads of a fid that is given up
fid_open : (opens : ℕ → Bool) (fid : ℕ) (body : RBody) (ws : List Wait) → AllByRecursion (OpenIf opens) ws → AllByRecursion (OpenIf (λ n. not (eqb n fid) && opens n)) (map (settle_fid fid body) ws)
fid_open opens fid body [] h = tt
fid_open opens fid body (w ∷ ws) h = (step (eqb w.fid fid) refl, fid_open opens fid body ws h.1)
  where
    step : (b : Bool) → eqb w.fid fid ≡ b → OpenIf (λ n. not (eqb n fid) && opens n) (cond b (settled_by body w) w)
    step true e = settled_open (λ n. not (eqb n fid) && opens n) body w
    step false e = λ un. rw e (h.0 un)

pub fid_same : (f : Wait → ℕ) → ((body : RBody) (w : Wait) → f (settled_by body w) ≡ f w) → (fid : ℕ) (body : RBody) (ws : List Wait) → map f (map (settle_fid fid body) ws) ≡ map f ws
fid_same f same fid body [] = refl
fid_same f same fid body (w ∷ ws) = elim (cases_Bool (eqb w.fid fid)) [
  | inl e ↦ rw (e, fid_same f same fid body ws) (ap (λ (n : ℕ). n ∷ map f ws) (same body w))
  | inr e ↦ rw (e, fid_same f same fid body ws) refl
]

fid_length : (fid : ℕ) (body : RBody) (ws : List Wait) → length (map (settle_fid fid body) ws) ≡ length ws
fid_length fid body [] = refl
fid_length fid body (w ∷ ws) = omega (arith, fid_length fid body ws)

fid_well : (opens : ℕ → Bool) (fid : ℕ) (body : RBody) (ws : List Wait) → Well opens ws → Well (λ n. not (eqb n fid) && opens n) (map (settle_fid fid body) ws)
fid_well opens fid body ws h = record {
  opened = fid_open opens fid body ws h.opened;
  tags = subst (IsDistinct eqb) (sym (fid_same (λ wait. wait.tag) (λ body w. refl) fid body ws)) h.tags;
  few = omega (arith, h.few, fid_length fid body ws);
}

open_well : (opens other : ℕ → Bool) (ws : List Wait) → ((n : ℕ) → opens n ≡ true → other n ≡ true) → Well opens ws → Well other ws
open_well opens other ws f h = record { opened = each_weaker (OpenIf opens) (OpenIf other) ws (λ w o un. f w.fid (o un)) h.opened; tags = h.tags; few = h.few }

either_well : (b : Bool) (opens : ℕ → Bool) (one other : List Wait) → (b ≡ true → Well opens one) → Well opens other → Well opens (cond b one other)
either_well true opens one other h k = h refl
either_well false opens one other h k = k

-- ---- every deed

-- the fids of a connection that have a file open whose reads may wait
abbrev opens_file : List Deed → ℕ → ℕ → Bool
opens_file done conn fid = may_wait_on (fid_of done conn fid)

abbrev AllWell : List Deed → Type 0
AllWell done = (conn : ℕ) → Well (opens_file done conn) (waits done conn)

-- a connection on which all fids are given up
dropped_well : (b : Bool) (done : List Deed) (conn : ℕ) (ws : List Wait) → Well (opens_file done conn) ws
    → Well (λ fid. may_wait_on (cond b None (fid_of done conn fid))) (cond b [] ws)
dropped_well true done conn ws h = none_well _
dropped_well false done conn ws h = h

clunked_well : (b : Bool) (done : List Deed) (conn f : ℕ) (ws : List Wait) → Well (opens_file done conn) ws
    → Well (λ fid. may_wait_on (cond (b && eqb f fid) None (fid_of done conn fid))) (cond b (map (settle_fid f fid_given_up) ws) ws)
clunked_well true done conn f ws h =
    open_well (λ n. not (eqb n f) && opens_file done conn n) _ (map (settle_fid f fid_given_up) ws) (λ n e. other n (eqb n f) refl e) (fid_well (opens_file done conn) f fid_given_up ws h)
  where
    other : (n : ℕ) (b : Bool) → eqb n f ≡ b → (not b && opens_file done conn n) ≡ true → may_wait_on (cond (eqb f n) None (fid_of done conn n)) ≡ true
    other n true e h = absurd cc
    other n false e h = let off : eqb f n ≡ false = eqb_swap f n ∙ e in rw off h
clunked_well false done conn f ws h = h

-- a fid that rested comes to something
still_open : (b : Bool) (new old : Option FidState) → b ≡ false → may_wait_on old ≡ true → may_wait_on (cond b new old) ≡ true
still_open true new old off e = absurd cc
still_open false new old off e = e

open_there : (o : Option FidState) → may_wait_on o ≡ true → is_open o ≡ true
open_there o e = (and_parts (is_open o) _ e).0

rests_step : (b c : Bool) (done : List Deed) (at f conn fid : ℕ) → eqb at conn ≡ b → eqb f fid ≡ c → is_open (fid_of done at f) ≡ false → is_open (fid_of done conn fid) ≡ true → (b && c) ≡ false
rests_step true true done at f conn fid e g rests opened_ =
    let same : fid_of done at f ≡ fid_of done conn fid = ap (λ (n : ℕ). fid_of done n f) (eqb-true at conn e) ∙ ap (fid_of done conn) (eqb-true f fid g) in
    absurd (let no_way : true ≡ false = sym opened_ ∙ ap is_open (sym same) ∙ rests in cc)
rests_step true false done at f conn fid e g rests opened_ = refl
rests_step false c done at f conn fid e g rests opened_ = refl

other_rests : (done : List Deed) (at f conn fid : ℕ) → is_open (fid_of done at f) ≡ false → may_wait_on (fid_of done conn fid) ≡ true → (eqb at conn && eqb f fid) ≡ false
other_rests done at f conn fid rests e = rests_step (eqb at conn) (eqb f fid) done at f conn fid refl refl rests (open_there (fid_of done conn fid) e)

changed_well : (done : List Deed) (at f conn : ℕ) (new : ℕ → Option FidState) (ws : List Wait) → is_open (fid_of done at f) ≡ false → Well (opens_file done conn) ws
    → Well (λ fid. may_wait_on (cond (eqb at conn && eqb f fid) (new fid) (fid_of done conn fid))) ws
changed_well done at f conn new ws rests h =
    open_well (opens_file done conn) _ ws (λ fid e. still_open (eqb at conn && eqb f fid) (new fid) (fid_of done conn fid) (other_rests done at f conn fid rests e) e) h

well_more : (c : ℕ) → KeepsOf (is_done c) AllWell
well_more c done (OfFids at (Versioned msize)) kind fits h = λ conn. dropped_well (eqb at conn) done conn (waits done conn) (h conn)
well_more c done (OfConnection at Hung) kind fits h = λ conn. dropped_well (eqb at conn) done conn (waits done conn) (h conn)
well_more c done (OfFids at (Clunked f)) kind fits h = λ conn. clunked_well (eqb at conn) done conn f (waits done conn) (h conn)
well_more c done (OfFids at (Attached f)) kind fits h = λ conn. changed_well done at f conn (λ fid. attached) (waits done conn) fits (h conn)
well_more c done (OfFids at (Walked f to)) kind fits h = λ conn. changed_well done at f conn (λ fid. Some (at_rest to)) (waits done conn) fits (h conn)
well_more c done (OfFids at (Opened f mode)) kind fits h = λ conn. changed_well done at f conn (λ fid. opened mode (fid_of done conn fid)) (waits done conn) fits.rests (h conn)
well_more c done (OfFids at (Listed f)) kind fits h = h
well_more c done (OfFids at (Browsed f next)) kind fits h = h
well_more c done (OfKeys at deed) kind fits h = h
well_more c done (OfReplies at (Answered tag body)) kind fits h = h
well_more c done (OfReplies at (Awaited tag fid count)) kind fits h = λ conn.
    either_well (eqb at conn) (opens_file done conn) _ (waits done conn)
    (λ on.
    let is = eqb-true at conn on in
    append_well (opens_file done conn) (waits done conn) (record { tag = tag; fid = fid; count = count; reply = None }) (h conn)
    (subst (λ (n : ℕ). may_wait_on (fid_of done n fid) ≡ true) is fits.opened) (subst (λ (n : ℕ). waits_under done n tag ≡ false) is fits.unused)
    (subst (λ (n : ℕ). length (waits done n) < 64) is fits.few)) (h conn)
well_more c done (OfReplies at (Settled tag body)) kind fits h = λ conn. either_well (eqb at conn) (opens_file done conn) _ (waits done conn) (λ on. tag_well (opens_file done conn) tag body (waits done conn) (h conn)) (h conn)
well_more c done (OfReplies at (Flushed tag)) kind fits h = λ conn. either_well (eqb at conn) (opens_file done conn) _ (waits done conn) (λ on. kept_well (opens_file done conn) (λ wait. not (eqb wait.tag tag)) (waits done conn) (h conn)) (h conn)
well_more c done (OfReplies at Taken) kind fits h = h
well_more c done (OfConnection at Entered) kind fits h = h
well_more c done (OfTalk conv call) kind fits h = h
well_more c done (Raised conv) kind fits h = h
well_more c done HandedOut kind fits h = h
well_more c done DropTaken kind fits h = h
well_more c done (OfPrompts about doing) kind fits h = h
well_more c done (OfLog doing) kind fits h = h
well_more c done Swept kind fits h = λ conn. kept_well (opens_file done conn) is_unsettled (waits done conn) (h conn)
well_more c done Halted kind fits h = λ conn. none_well (λ fid. false)

pub all_well : (H : History) → AllWell (deeds H)
all_well = history_grows AllWell well_more (λ conn. none_well (λ fid. false))

-- ---- of a fid that has rpc open one read waits at most

-- a read of the fid that isn't settled
abbrev waits_of : ℕ → Wait → Bool
waits_of fid wait = eqb wait.fid fid && is_unsettled wait

abbrev so_many : ℕ → List Wait → ℕ
so_many fid ws = length (filter (waits_of fid) ws)

abbrev Alone : (ℕ → Bool) → List Wait → Type 0
Alone rpc ws = (fid : ℕ) → rpc fid ≡ true → so_many fid ws ≤ 1

-- a list with no more of any fid
many_one : (b : Bool) (w : Wait) (ws : List Wait) → length (cond b (w ∷ ws) ws) ≤ 1 + length ws
many_one true w ws = omega arith
many_one false w ws = omega arith

fewer_step : (b c : Bool) (w v : Wait) (xs ys : List Wait) → (c ≡ true → b ≡ true) → length xs ≤ length ys → length (cond c (v ∷ xs) xs) ≤ length (cond b (w ∷ ys) ys)
fewer_step true true w v xs ys f h = omega (arith, h)
fewer_step true false w v xs ys f h = omega (arith, h)
fewer_step false true w v xs ys f h = let no_way : false ≡ true = f refl in absurd cc
fewer_step false false w v xs ys f h = h

kept_fewer : (fid : ℕ) (keep : Wait → Bool) (ws : List Wait) → so_many fid (filter keep ws) ≤ so_many fid ws
kept_fewer fid keep [] = omega arith
kept_fewer fid keep (w ∷ ws) = elim (cases_Bool (keep w)) [
  | inl e ↦ rw e (fewer_step (waits_of fid w) (waits_of fid w) w w (filter (waits_of fid) (filter keep ws)) (filter (waits_of fid) ws) (λ f. f) (kept_fewer fid keep ws))
  | inr e ↦ rw e (left_out (waits_of fid w) w (filter (waits_of fid) (filter keep ws)) (filter (waits_of fid) ws) (kept_fewer fid keep ws))
]
  where
    left_out : (b : Bool) (v : Wait) (xs ys : List Wait) → length xs ≤ length ys → length xs ≤ length (cond b (v ∷ ys) ys)
    left_out true v xs ys h = omega (arith, h)
    left_out false v xs ys h = h

-- a read that is settled waits no more
settled_not : (fid : ℕ) (body : RBody) (w : Wait) → waits_of fid (settled_by body w) ≡ true → waits_of fid w ≡ true
settled_not fid body w e = absurd (let no_way : true ≡ false = sym (and_parts (eqb w.fid fid) _ e).1 ∙ is_settled body w in cc)

tag_fewer : (fid tag : ℕ) (body : RBody) (ws : List Wait) → so_many fid (settle_tag tag body ws) ≤ so_many fid ws
tag_fewer fid tag body [] = omega arith
tag_fewer fid tag body (w ∷ ws) = elim (cases_Bool (eqb w.tag tag)) [
  | inl e ↦ rw e (fewer_step (waits_of fid w) (waits_of fid (settled_by body w)) w (settled_by body w) (filter (waits_of fid) ws) (filter (waits_of fid) ws) (settled_not fid body w) (omega arith))
  | inr e ↦ rw e (fewer_step (waits_of fid w) (waits_of fid w) w w (filter (waits_of fid) (settle_tag tag body ws)) (filter (waits_of fid) ws) (λ f. f) (tag_fewer fid tag body ws))
]

fid_fewer : (fid f : ℕ) (body : RBody) (ws : List Wait) → so_many fid (map (settle_fid f body) ws) ≤ so_many fid ws
fid_fewer fid f body [] = omega arith
fid_fewer fid f body (w ∷ ws) = elim (cases_Bool (eqb w.fid f)) [
  | inl e ↦ rw e (fewer_step (waits_of fid w) (waits_of fid (settled_by body w)) w (settled_by body w) (filter (waits_of fid) (map (settle_fid f body) ws)) (filter (waits_of fid) ws) (settled_not fid body w) (fid_fewer fid f body ws))
  | inr e ↦ rw e (fewer_step (waits_of fid w) (waits_of fid w) w w (filter (waits_of fid) (map (settle_fid f body) ws)) (filter (waits_of fid) ws) (λ g. g) (fid_fewer fid f body ws))
]

append_many : (fid : ℕ) (ws : List Wait) (w : Wait) → so_many fid (ws ++ w ∷ []) ≤ so_many fid ws + 1
append_many fid [] w = many_one (waits_of fid w) w []
append_many fid (v ∷ ws) w = step (waits_of fid v) (append_many fid ws w)
  where
    step : (b : Bool) → so_many fid (ws ++ w ∷ []) ≤ so_many fid ws + 1 → length (cond b (v ∷ filter (waits_of fid) (ws ++ w ∷ [])) (filter (waits_of fid) (ws ++ w ∷ []))) ≤ length (cond b (v ∷ filter (waits_of fid) ws) (filter (waits_of fid) ws)) + 1
    step true h = omega (arith, h)
    step false h = h

append_other : (fid : ℕ) (ws : List Wait) (w : Wait) → waits_of fid w ≡ false → so_many fid (ws ++ w ∷ []) ≡ so_many fid ws
append_other fid [] w e = rw e refl
append_other fid (v ∷ ws) w e = step (waits_of fid v) (append_other fid ws w e)
  where
    step : (b : Bool) → so_many fid (ws ++ w ∷ []) ≡ so_many fid ws → length (cond b (v ∷ filter (waits_of fid) (ws ++ w ∷ [])) (filter (waits_of fid) (ws ++ w ∷ []))) ≡ length (cond b (v ∷ filter (waits_of fid) ws) (filter (waits_of fid) ws))
    step true h = omega (arith, h)
    step false h = h

none_many : (fid : ℕ) (ws : List Wait) → list_any (λ w. eqb w.fid fid) ws ≡ false → so_many fid ws ≡ 0
none_many fid [] e = refl
none_many fid (w ∷ ws) e = let parts = or_parts (eqb w.fid fid) (list_any (λ v. eqb v.fid fid) ws) e in rw parts.0 (none_many fid ws parts.1)

-- where none of the fid has such a file open, none is unsettled
closed_many : (opens : ℕ → Bool) (fid : ℕ) (ws : List Wait) → opens fid ≡ false → AllByRecursion (OpenIf opens) ws → so_many fid ws ≡ 0
closed_many opens fid [] off h = refl
closed_many opens fid (w ∷ ws) off h = step (waits_of fid w) refl (closed_many opens fid ws off h.1)
  where
    step : (b : Bool) → waits_of fid w ≡ b → so_many fid ws ≡ 0 → length (cond b (w ∷ filter (waits_of fid) ws) (filter (waits_of fid) ws)) ≡ 0
    step true e more =
        let parts = and_parts (eqb w.fid fid) (is_unsettled w) e in
        absurd (let no_way : true ≡ false = sym (h.0 parts.1) ∙ ap opens (eqb-true w.fid fid parts.0) ∙ off in cc)
    step false e more = more

abbrev opens_rpc : Option FidState → Bool
opens_rpc o = names Rpc o && is_open o

abbrev AllAlone : List Deed → Type 0
AllAlone done = (conn : ℕ) → Alone (λ fid. opens_rpc (fid_of done conn fid)) (waits done conn)

dropped_alone : (b : Bool) (o : Option FidState) (fid : ℕ) (ws : List Wait) → (opens_rpc o ≡ true → so_many fid ws ≤ 1) → opens_rpc (cond b None o) ≡ true → so_many fid (cond b [] ws) ≤ 1
dropped_alone true o fid ws h e = omega arith
dropped_alone false o fid ws h e = h e

-- a fid that comes to a file, or is given up, has no file open; of any other nothing changes
rested_alone : (b : Bool) (new old : Option FidState) (n : ℕ) → (opens_rpc new ≡ true → ⊥) → (opens_rpc old ≡ true → n ≤ 1) → opens_rpc (cond b new old) ≡ true → n ≤ 1
rested_alone true new old n off h e = absurd (off e)
rested_alone false new old n off h e = h e

no_fid : opens_rpc None ≡ true → ⊥
no_fid e = absurd cc

at_rest_rests : (node : Node) → opens_rpc (Some (at_rest node)) ≡ true → ⊥
at_rest_rests node e = let parts = and_parts (names Rpc (Some (at_rest node))) (is_open (Some (at_rest node))) e in let no_way : false ≡ true = parts.1 in absurd cc

fewer_if : (b : Bool) (fid : ℕ) (one other : List Wait) → so_many fid one ≤ so_many fid other → so_many fid other ≤ 1 → so_many fid (cond b one other) ≤ 1
fewer_if true fid one other h k = omega (arith, h, k)
fewer_if false fid one other h k = k

opened_alone : (b : Bool) (new old : Option FidState) (fid : ℕ) (ws : List Wait) → (b ≡ true → so_many fid ws ≡ 0) → (opens_rpc old ≡ true → so_many fid ws ≤ 1) → opens_rpc (cond b new old) ≡ true → so_many fid ws ≤ 1
opened_alone true new old fid ws none h e = omega (arith, none refl)
opened_alone false new old fid ws none h e = h e

rpc_node : (state : FidState) (node : Node) → state.node ≡ node → eqb (file node).path (file Rpc).path ≡ true → is_rpc (node_of (Some state)) ≡ true
rpc_node state Rpc is e = ap is_rpc is
rpc_node state Root is e = absurd cc
rpc_node state Factotum is e = absurd cc
rpc_node state Ctl is e = absurd cc
rpc_node state Confirm is e = absurd cc
rpc_node state Needkey is e = absurd cc
rpc_node state Proto is e = absurd cc
rpc_node state Log is e = absurd cc

rpc_named : (o : Option FidState) → opens_rpc o ≡ true → is_rpc (node_of o) ≡ true
rpc_named None e = absurd cc
rpc_named (Some state) e = rpc_node state state.node refl (and_parts (names Rpc (Some state)) (is_open (Some state)) e).0

awaited_alone : (b c : Bool) (fid : ℕ) (ws : List Wait) (w : Wait) → waits_of fid w ≡ c → (b ≡ true → c ≡ true → so_many fid ws ≡ 0) → so_many fid ws ≤ 1 → so_many fid (cond b (ws ++ w ∷ []) ws) ≤ 1
awaited_alone true true fid ws w e none h = omega (arith, append_many fid ws w, none refl refl)
awaited_alone true false fid ws w e none h = omega (arith, append_other fid ws w e, h)
awaited_alone false c fid ws w e none h = h

no_rest : (o : Option FidState) → is_open o ≡ false → may_wait_on o ≡ false
no_rest o e = rw e refl

alone_more : (c : ℕ) (done : List Deed) (deed : Deed) → is_done c deed ≡ true → Fits done deed → AllWell done → AllAlone done → AllAlone (deed ∷ done)
alone_more c done (OfFids at (Versioned msize)) kind fits w h = λ conn fid e. dropped_alone (eqb at conn) (fid_of done conn fid) fid (waits done conn) (h conn fid) e
alone_more c done (OfConnection at Hung) kind fits w h = λ conn fid e. dropped_alone (eqb at conn) (fid_of done conn fid) fid (waits done conn) (h conn fid) e
alone_more c done (OfFids at (Clunked f)) kind fits w h = λ conn fid e.
    rested_alone (eqb at conn && eqb f fid) None (fid_of done conn fid) _ no_fid (λ g. fewer_if (eqb at conn) fid (map (settle_fid f fid_given_up) (waits done conn)) (waits done conn) (fid_fewer fid f fid_given_up (waits done conn)) (h conn fid g)) e
alone_more c done (OfFids at (Attached f)) kind fits w h = λ conn fid e. rested_alone (eqb at conn && eqb f fid) attached (fid_of done conn fid) (so_many fid (waits done conn)) (at_rest_rests Root) (h conn fid) e
alone_more c done (OfFids at (Walked f to)) kind fits w h = λ conn fid e. rested_alone (eqb at conn && eqb f fid) (Some (at_rest to)) (fid_of done conn fid) (so_many fid (waits done conn)) (at_rest_rests to) (h conn fid) e
alone_more c done (OfFids at (Opened f mode)) kind fits w h = λ conn fid e.
    opened_alone (eqb at conn && eqb f fid) (opened mode (fid_of done conn fid)) (fid_of done conn fid) fid (waits done conn)
    (λ b.
    let parts = and_parts (eqb at conn) (eqb f fid) b in
    let rests : is_open (fid_of done conn fid) ≡ false = ap is_open (sym (ap (λ (n : ℕ). fid_of done n f) (eqb-true at conn parts.0) ∙ ap (fid_of done conn) (eqb-true f fid parts.1))) ∙ fits.rests in
    closed_many (opens_file done conn) fid (waits done conn) (no_rest (fid_of done conn fid) rests) (w conn).opened) (h conn fid) e
alone_more c done (OfFids at (Listed f)) kind fits w h = h
alone_more c done (OfFids at (Browsed f next)) kind fits w h = h
alone_more c done (OfKeys at deed) kind fits w h = h
alone_more c done (OfReplies at (Answered tag body)) kind fits w h = h
alone_more c done (OfReplies at (Awaited tag f count)) kind fits w h = λ conn fid e.
    let new : Wait = record { tag = tag; fid = f; count = count; reply = None } in
    awaited_alone (eqb at conn) (waits_of fid new) fid (waits done conn) new refl
    (λ on same.
    let here = eqb-true at conn on in
    let this = eqb-true f fid (and_parts (eqb f fid) true same).0 in
    let named : is_rpc (node_of (fid_of done at f)) ≡ true = ap (λ (o : Option FidState). is_rpc (node_of o)) (ap (λ (n : ℕ). fid_of done n f) here ∙ ap (fid_of done conn) this) ∙ rpc_named (fid_of done conn fid) e in
    none_many fid (waits done conn) (ap (λ (n : ℕ). waits_for done conn n) (sym this) ∙ ap (λ (n : ℕ). waits_for done n f) (sym here) ∙ fits.free named)) (h conn fid e)
alone_more c done (OfReplies at (Settled tag body)) kind fits w h = λ conn fid e. fewer_if (eqb at conn) fid (settle_tag tag body (waits done conn)) (waits done conn) (tag_fewer fid tag body (waits done conn)) (h conn fid e)
alone_more c done (OfReplies at (Flushed tag)) kind fits w h = λ conn fid e. fewer_if (eqb at conn) fid (filter (λ wait. not (eqb wait.tag tag)) (waits done conn)) (waits done conn) (kept_fewer fid (λ wait. not (eqb wait.tag tag)) (waits done conn)) (h conn fid e)
alone_more c done (OfReplies at Taken) kind fits w h = h
alone_more c done (OfConnection at Entered) kind fits w h = h
alone_more c done (OfTalk conv call) kind fits w h = h
alone_more c done (Raised conv) kind fits w h = h
alone_more c done HandedOut kind fits w h = h
alone_more c done DropTaken kind fits w h = h
alone_more c done (OfPrompts about doing) kind fits w h = h
alone_more c done (OfLog doing) kind fits w h = h
alone_more c done Swept kind fits w h = λ conn fid e. omega (arith, kept_fewer fid is_unsettled (waits done conn), h conn fid e)
alone_more c done Halted kind fits w h = λ conn fid e. omega arith

abbrev WellAlone : List Deed → Type 0
WellAlone done = AllWell done × AllAlone done

both_more : (c : ℕ) → KeepsOf (is_done c) WellAlone
both_more c done deed kind fits h = (well_more c done deed kind fits h.0, alone_more c done deed kind fits h.0 h.1)

all_alone : (H : History) → AllAlone (deeds H)
all_alone H = (history_grows WellAlone both_more (λ conn. none_well (λ fid. false), λ conn fid e. omega arith) H).1

-- where none is settled, all are counted
counted_all : (fid : ℕ) (ws : List Wait) → list_all is_unsettled ws ≡ true → length (filter (λ w. eqb w.fid fid) ws) ≡ so_many fid ws
counted_all fid [] h = refl
counted_all fid (w ∷ ws) h =
    let parts = and_parts (is_unsettled w) (list_all is_unsettled ws) h in
    step (eqb w.fid fid) (is_unsettled w) parts.0 (counted_all fid ws parts.1)
  where
    step : (b c : Bool) → c ≡ true → length (filter (λ v. eqb v.fid fid) ws) ≡ so_many fid ws → length (cond b (w ∷ filter (λ v. eqb v.fid fid) ws) (filter (λ v. eqb v.fid fid) ws)) ≡ length (cond (b && c) (w ∷ filter (waits_of fid) ws) (filter (waits_of fid) ws))
    step true true e more = omega (arith, more)
    step true false e more = absurd cc
    step false c e more = more

-- ---- what is settled is told an answer

pub found_number : (P : ℕ → Type 0) (test : Wait → Bool) (wait : Wait) (ws : List Wait) → find test ws ≡ Some wait → AllByRecursion P (map (λ (w : Wait). w.tag) ws) → P wait.tag
found_number P test wait [] e h = absurd cc
found_number P test wait (v ∷ ws) e h = step (test v) e (λ f. found_number P test wait ws f h.1)
  where
    step : (b : Bool) → cond b (Some v) (find test ws) ≡ Some wait → (find test ws ≡ Some wait → P wait.tag) → P wait.tag
    step true f more = let same : v ≡ wait = cc in subst (λ (w : Wait). P w.tag) same h.0
    step false f more = more f

under_step : (test : Wait → Bool) (v wait : Wait) (ws : List Wait) (b : Bool) → cond b (Some v) (find test ws) ≡ Some wait → AllByRecursion (λ n. eqb v.tag n ≡ false) (map (λ (w : Wait). w.tag) ws)
    → (find test ws ≡ Some wait → find (λ w. eqb w.tag wait.tag) ws ≡ Some wait) → cond (eqb v.tag wait.tag) (Some v) (find (λ w. eqb w.tag wait.tag) ws) ≡ Some wait
under_step test v wait ws true e h more = let same : v ≡ wait = cc in rw (eq-eqb v.tag wait.tag (ap (λ (w : Wait). w.tag) same)) e
under_step test v wait ws false e h more = rw (found_number (λ n. eqb v.tag n ≡ false) test wait ws e h) (more e)

-- it is the one under its tag, since no other has it
found_under : (test : Wait → Bool) (wait : Wait) (ws : List Wait) → find test ws ≡ Some wait → Apart (λ w. w.tag) ws → find (λ w. eqb w.tag wait.tag) ws ≡ Some wait
unfolding IsDistinct
found_under test wait [] e h = absurd cc
found_under test wait (v ∷ ws) e h = under_step test v wait ws (test v) e h.0 (λ f. found_under test wait ws f h.1)

record WellTold (done : List Deed) : Type 0 where
  well : AllWell done
  told : AllTold done
  speak : OpenersSpeak done
  opener : Opener done

told_more : (c : ℕ) (done : List Deed) (deed : Deed) → is_done c deed ≡ true → Fits done deed → WellTold done → AllTold (deed ∷ done)
told_more c done (OfReplies conn (Settled tag body)) kind fits h = (
  (fits.wait, subst (λ (n : ℕ). find (λ w. eqb w.tag n) (waits done conn) ≡ Some fits.wait) fits.under (found_under fits.test fits.wait (waits done conn) fits.found (h.well conn).tags), fits.waited, told_by_file done conn fits.wait body h.speak h.opener fits.told_so),
  h.told,
)
told_more c done (OfReplies conn (Answered tag body)) kind fits h = h.told
told_more c done (OfReplies conn (Awaited tag fid count)) kind fits h = h.told
told_more c done (OfReplies conn (Flushed tag)) kind fits h = h.told
told_more c done (OfReplies conn Taken) kind fits h = h.told
told_more c done (OfFids at deed) kind fits h = h.told
told_more c done (OfKeys at deed) kind fits h = h.told
told_more c done (OfConnection at deed) kind fits h = h.told
told_more c done (OfTalk conv call) kind fits h = h.told
told_more c done (Raised conv) kind fits h = h.told
told_more c done HandedOut kind fits h = h.told
told_more c done DropTaken kind fits h = h.told
told_more c done (OfPrompts about doing) kind fits h = h.told
told_more c done (OfLog doing) kind fits h = h.told
told_more c done Swept kind fits h = h.told
told_more c done Halted kind fits h = h.told

well_told : (c : ℕ) → KeepsOf (is_done c) WellTold
well_told c done deed kind fits h = record {
  well = well_more c done deed kind fits h.well;
  told = told_more c done deed kind fits h;
  speak = openers_more c done deed kind fits h.speak;
  opener = opener_more c done deed kind fits h.opener;
}

pub all_told : (H : History) → AllTold (deeds H)
all_told H = (history_grows WellTold well_told (record { well = λ conn. none_well (λ fid. false); told = tt; speak = λ c f. refl; opener = none_opened }) H).told

-- ---- between two events none is settled

abbrev SettledAreKnown : List Deed → Type 0
SettledAreKnown done = NoneSettled done → (conn : ℕ) → Unsettled (waits done conn)

unsettled_kept : (p keep : Wait → Bool) (ws : List Wait) → list_all p ws ≡ true → list_all p (filter keep ws) ≡ true
unsettled_kept p keep [] h = refl
unsettled_kept p keep (w ∷ ws) h =
    let parts = and_parts (p w) (list_all p ws) h in
    step (keep w) parts.0 (unsettled_kept p keep ws parts.1)
  where
    step : (b : Bool) → p w ≡ true → list_all p (filter keep ws) ≡ true → list_all p (cond b (w ∷ filter keep ws) (filter keep ws)) ≡ true
    step true e more = and_from (p w) _ e more
    step false e more = more

only_kept : (p : Wait → Bool) (ws : List Wait) → list_all p (filter p ws) ≡ true
only_kept p [] = refl
only_kept p (w ∷ ws) = step (p w) refl (only_kept p ws)
  where
    step : (b : Bool) → p w ≡ b → list_all p (filter p ws) ≡ true → list_all p (cond b (w ∷ filter p ws) (filter p ws)) ≡ true
    step true e more = and_from (p w) _ e more
    step false e more = more

unsettled_append : (ws : List Wait) (w : Wait) → Unsettled ws → is_unsettled w ≡ true → Unsettled (ws ++ w ∷ [])
unsettled_append [] w h e = and_from (is_unsettled w) true e refl
unsettled_append (v ∷ ws) w h e = let parts = and_parts (is_unsettled v) (list_all is_unsettled ws) h in and_from (is_unsettled v) _ parts.0 (unsettled_append ws w parts.1 e)

-- none of the tag, or of the fid, is there
tag_none : (tag : ℕ) (body : RBody) (ws : List Wait) → list_any (λ w. eqb w.tag tag) ws ≡ false → settle_tag tag body ws ≡ ws
tag_none tag body [] e = refl
tag_none tag body (w ∷ ws) e =
    let parts = or_parts (eqb w.tag tag) (list_any (λ v. eqb v.tag tag) ws) e in
    rw parts.0 (ap (λ (vs : List Wait). w ∷ vs) (tag_none tag body ws parts.1))

fid_none : (fid : ℕ) (body : RBody) (ws : List Wait) → list_any (λ w. eqb w.fid fid) ws ≡ false → map (settle_fid fid body) ws ≡ ws
fid_none fid body [] e = refl
fid_none fid body (w ∷ ws) e =
    let parts = or_parts (eqb w.fid fid) (list_any (λ v. eqb v.fid fid) ws) e in
    rw (parts.0, fid_none fid body ws parts.1) refl

either_un : (b : Bool) (one other : List Wait) → (b ≡ true → Unsettled one) → Unsettled other → Unsettled (cond b one other)
either_un true one other h k = h refl
either_un false one other h k = k

known_more : (c : ℕ) → KeepsOf (is_done c) SettledAreKnown
known_more c done (OfFids at (Versioned msize)) kind fits h = λ e conn. either_un (eqb at conn) [] (waits done conn) (λ on. refl) (h e conn)
known_more c done (OfConnection at Hung) kind fits h = λ e conn. either_un (eqb at conn) [] (waits done conn) (λ on. refl) (h e conn)
known_more c done (OfFids at (Clunked f)) kind fits h = λ e conn.
    let parts = or_parts (waits_for done at f) (has_settled done) e in
    either_un (eqb at conn) _ (waits done conn)
    (λ on. subst Unsettled (sym (fid_none f fid_given_up (waits done conn) (subst (λ (n : ℕ). waits_for done n f ≡ false) (eqb-true at conn on) parts.0))) (h parts.1 conn)) (h parts.1 conn)
known_more c done (OfFids at (Attached f)) kind fits h = h
known_more c done (OfFids at (Walked f to)) kind fits h = h
known_more c done (OfFids at (Opened f mode)) kind fits h = h
known_more c done (OfFids at (Listed f)) kind fits h = h
known_more c done (OfFids at (Browsed f next)) kind fits h = h
known_more c done (OfKeys at deed) kind fits h = h
known_more c done (OfReplies at (Answered tag body)) kind fits h = h
known_more c done (OfReplies at (Awaited tag fid count)) kind fits h = λ e conn.
    either_un (eqb at conn) _ (waits done conn) (λ on. unsettled_append (waits done conn) (record { tag = tag; fid = fid; count = count; reply = None }) (h e conn) refl) (h e conn)
known_more c done (OfReplies at (Settled tag body)) kind fits h = λ e conn.
    let parts = or_parts (waits_under done at tag) (has_settled done) e in
    either_un (eqb at conn) _ (waits done conn)
    (λ on. subst Unsettled (sym (tag_none tag body (waits done conn) (subst (λ (n : ℕ). waits_under done n tag ≡ false) (eqb-true at conn on) parts.0))) (h parts.1 conn)) (h parts.1 conn)
known_more c done (OfReplies at (Flushed tag)) kind fits h = λ e conn.
    either_un (eqb at conn) _ (waits done conn) (λ on. unsettled_kept is_unsettled (λ wait. not (eqb wait.tag tag)) (waits done conn) (h e conn)) (h e conn)
known_more c done (OfReplies at Taken) kind fits h = h
known_more c done (OfConnection at Entered) kind fits h = h
known_more c done (OfTalk conv call) kind fits h = h
known_more c done (Raised conv) kind fits h = h
known_more c done HandedOut kind fits h = h
known_more c done DropTaken kind fits h = h
known_more c done (OfPrompts about doing) kind fits h = h
known_more c done (OfLog doing) kind fits h = h
known_more c done Swept kind fits h = λ e conn. only_kept is_unsettled (waits done conn)
known_more c done Halted kind fits h = λ e conn. refl

none_is_settled : (H : History) (conn : ℕ) → Unsettled (waits (deeds H) conn)
none_is_settled H = history_grows SettledAreKnown known_more (λ e conn. refl) H (none_settled H)

-- where none is settled, all fids are open
all_open_now : (opens : ℕ → Bool) (ws : List Wait) → Unsettled ws → AllByRecursion (OpenIf opens) ws → list_all (λ wait. opens wait.fid) ws ≡ true
all_open_now opens [] u h = refl
all_open_now opens (w ∷ ws) u h =
    let parts = and_parts (is_unsettled w) (list_all is_unsettled ws) u in
    and_from (opens w.fid) _ (h.0 parts.0) (all_open_now opens ws parts.1 h.1)

pub reads_wait : (H : History) (conn : ℕ) → AreWaiting (deeds H) conn (waits (deeds H) conn)
reads_wait H conn =
    let well = all_well H conn in
    let un = none_is_settled H conn in
    record {
      unsettled = un;
      fitting = counts_fit H conn;
      opened = all_open_now (opens_file (deeds H) conn) (waits (deeds H) conn) un well.opened;
      tags = well.tags;
      alone = λ fid e. omega (arith, counted_all fid (waits (deeds H) conn) un, all_alone H conn fid e);
      few = well.few;
    }

-- ---- only reads of rpc and of files of lines have no reply

read_only : (b c : Bool) (o : Option RBody) (what : Found) (body : RBody) → cond b o (cond c (line_read_reply what) (Some body)) ≡ None → (b || c) ≡ true
read_only true c o what body e = refl
read_only false true o what body e = refl
read_only false false o what body e = absurd cc

none_is_read : (done : List Deed) (call : Call) (body : TBody) → reply_of done call body ≡ None → may_wait done call body ≡ true
unfolding reply_of
none_is_read done call (t.Version msize version) e = absurd cc
none_is_read done call (t.Auth afid uname aname) e = absurd cc
none_is_read done call (t.Attach fid afid uname aname) e = absurd cc
none_is_read done call (t.Flush oldtag) e = absurd cc
none_is_read done call (t.Walk fid newfid wname) e = absurd cc
none_is_read done call (t.Open fid mode) e = absurd cc
none_is_read done call (t.Create fid name perm mode) e = absurd cc
none_is_read done call (t.Read fid offset count) e =
    let node = node_of (fid_of done call.conn fid) in
    read_only (is_rpc node) (is_line_file node) _ (found (read_count done call count) (lines_in done node)) _ e
none_is_read done call (t.Write fid offset content) e = absurd cc
none_is_read done call (t.Clunk fid) e = absurd cc
none_is_read done call (t.Remove fid) e = absurd cc
none_is_read done call (t.Stat fid) e = absurd cc
none_is_read done call (t.Wstat fid stat) e = absurd cc

granted_reads : (done : List Deed) (call : Call) (g : Result TBody (List ℕ)) → body_for done call g ≡ None → (body : TBody) × (g ≡ Ok body) × (may_wait done call body ≡ true)
granted_reads done call (Err text) e = absurd cc
granted_reads done call (Ok body) e = (body, refl, none_is_read done call body e)

pub only_reads_wait : (done : List Deed) (call : Call) (frame : List ℕ) → body_to done call frame ≡ None → (body : TBody) × (granted done call frame ≡ Ok body) × (may_wait done call body ≡ true)
unfolding body_to
only_reads_wait done call frame e = granted_reads done call (granted done call frame) e

-- ---- a read that has no reply waits behind the others

came_same : (tag : ℕ) (body : RBody) (ws : List Wait) → map as_it_came (settle_tag tag body ws) ≡ map as_it_came ws
came_same tag body [] = refl
came_same tag body (w ∷ ws) = elim (cases_Bool (eqb w.tag tag)) [
  | inl e ↦ rw e refl
  | inr e ↦ rw e (ap (λ (vs : List Wait). as_it_came w ∷ vs) (came_same tag body ws))
]

came_if : (b : Bool) (tag : ℕ) (body : RBody) (ws old : List Wait) → map as_it_came ws ≡ map as_it_came old → map as_it_came (cond b (settle_tag tag body ws) ws) ≡ map as_it_came old
came_if true tag body ws old e = came_same tag body ws ∙ e
came_if false tag body ws old e = e

met_came : (conn : ℕ) (before : List Wait) → KeepsAny is_met (λ done. map as_it_came (waits done conn) ≡ map as_it_came before)
met_came conn before done (OfTalk conv call) is p = p
met_came conn before done (OfPrompts about doing) is p = p
met_came conn before done (OfLog doing) is p = p
met_came conn before done (Raised conv) is p = p
met_came conn before done (OfReplies at (Settled tag body)) is p = came_if (eqb at conn) tag body (waits done conn) before p
met_came conn before done (OfFids at deed) is p = absurd cc
met_came conn before done (OfKeys at deed) is p = absurd cc
met_came conn before done (OfConnection at deed) is p = absurd cc
met_came conn before done (OfReplies at (Answered tag body)) is p = absurd cc
met_came conn before done (OfReplies at (Awaited tag f count)) is p = absurd cc
met_came conn before done (OfReplies at (Flushed tag)) is p = absurd cc
met_came conn before done (OfReplies at Taken) is p = absurd cc
met_came conn before done HandedOut is p = absurd cc
met_came conn before done DropTaken is p = absurd cc
met_came conn before done Swept is p = absurd cc
met_came conn before done Halted is p = absurd cc

-- a read of the fid waits behind the others
abbrev Behind : Call → ℕ → ℕ → List Wait → List Wait → Type 0
Behind call fid count before after = IsBehind before after (record { tag = call.tag; fid = fid; count = count; reply = None })

one_behind : (call : Call) (fid count : ℕ) (before : List Wait) (done : List Deed) → map as_it_came (waits done call.conn) ≡ map as_it_came before → Behind call fid count before (waits (OfReplies call.conn (Awaited call.tag fid count) ∷ done) call.conn)
one_behind call fid count before done e = (waits done call.conn, e, rw (eq-eqb call.conn call.conn refl) refl)

answer_behind : (call : Call) (conv fid count : ℕ) (before : List Wait) (ph : Phase) (done : List Deed) → map as_it_came (waits done call.conn) ≡ map as_it_came before → answer_read count ph ≡ None → Behind call fid count before (waits (reading_answer call conv fid count ph done) call.conn)
answer_behind call conv fid count before (Kept answer) done e n = absurd cc
answer_behind call conv fid count before Resting done e n = one_behind call fid count before done e
answer_behind call conv fid count before (IsStored request) done e n = one_behind call fid count before done e
answer_behind call conv fid count before Seeking done e n = one_behind call fid count before done e
answer_behind call conv fid count before (OnConfirm serial) done e n = one_behind call fid count before done e
answer_behind call conv fid count before OnNeedkey done e n = one_behind call fid count before done e
answer_behind call conv fid count before OnServer done e n = one_behind call fid count before done e

talk_behind : (call : Call) (fid count : ℕ) (o : Option ℕ) (done : List Deed) → is_resting (phase_in done o) ≡ false → talk_read call.word count o done ≡ None → Behind call fid count (waits done call.conn) (waits (reading_talk call fid count o done) call.conn)
talk_behind call fid count None done there e = absurd cc
talk_behind call fid count (Some conv) done there e =
    let after = carried conv call.word done in
    let old = waits done call.conn in
    answer_behind call conv fid count old (standing_of after conv).phase after
    (carried_any (λ d. map as_it_came (waits d call.conn) ≡ map as_it_came old) (met_came call.conn old) conv call.word (standing_of done conv).phase done refl) e

line_behind : (call : Call) (fid count : ℕ) (node : Node) (what : Found) (done : List Deed) → line_read_reply what ≡ None → Behind call fid count (waits done call.conn) (waits (reading_line call fid count node what done) call.conn)
line_behind call fid count node Nothing done e = one_behind call fid count (waits done call.conn) done refl
line_behind call fid count node TooLong done e = absurd cc
line_behind call fid count node (First line) done e = absurd cc

file_behind : (call : Call) (fid count : ℕ) (b c : Bool) (o : Option RBody) (node : Node) (what : Found) (body : RBody) (done one other : List Deed) → (b ≡ true → o ≡ None → Behind call fid count (waits done call.conn) (waits one call.conn))
    → cond b o (cond c (line_read_reply what) (Some body)) ≡ None → Behind call fid count (waits done call.conn) (waits (cond b one (cond c (reading_line call fid count node what done) other)) call.conn)
file_behind call fid count true c o node what body done one other h e = h refl e
file_behind call fid count false true o node what body done one other h e = line_behind call fid count node what done e
file_behind call fid count false false o node what body done one other h e = absurd cc

-- some read does
abbrev Waits : List Deed → Call → List Deed → Type 0
Waits done call after = (fid : ℕ) × (count : ℕ) × Behind call fid count (waits done call.conn) (waits after call.conn)

body_behind : (done : List Deed) (call : Call) (body : TBody) → refusal done call body ≡ None → reply_of done call body ≡ None → Waits done call (after done call body)
unfolding reply_of after
body_behind done call (t.Version msize version) r e = absurd cc
body_behind done call (t.Auth afid uname aname) r e = absurd cc
body_behind done call (t.Attach fid afid uname aname) r e = absurd cc
body_behind done call (t.Flush oldtag) r e = absurd cc
body_behind done call (t.Walk fid newfid wname) r e = absurd cc
body_behind done call (t.Open fid mode) r e = absurd cc
body_behind done call (t.Create fid name perm mode) r e = absurd cc
body_behind done call (t.Read fid offset count) r e =
    let most = read_count done call count in
    let node = node_of (fid_of done call.conn fid) in (
      fid,
      most,
      file_behind call fid most (is_rpc node) (is_line_file node) _ node (found most (lines_in done node)) _ done (reading_talk call fid most (conv_of done call.conn fid) done) (reading done call.conn fid offset most node)
          (λ is none. talk_behind call fid most (conv_of done call.conn fid) done (is_pending done call fid offset count r is) none) e,
    )
body_behind done call (t.Write fid offset content) r e = absurd cc
body_behind done call (t.Clunk fid) r e = absurd cc
body_behind done call (t.Remove fid) r e = absurd cc
body_behind done call (t.Stat fid) r e = absurd cc
body_behind done call (t.Wstat fid stat) r e = absurd cc

granted_behind : (done : List Deed) (call : Call) (g : Result TBody (List ℕ)) → ((body : TBody) → g ≡ Ok body → Passed done call body) → body_for done call g ≡ None → Waits done call (after_granted done call g)
granted_behind done call (Err text) passes e = absurd cc
granted_behind done call (Ok body) passes e = body_behind done call body (passes body refl).none e

pub waits_behind : (done : List Deed) (call : Call) (frame : List ℕ) → body_to done call frame ≡ None → Waits done call (after_frame done call frame)
unfolding body_to after_frame
waits_behind done call frame e = granted_behind done call (granted done call frame) (none_refuses done call frame) e
