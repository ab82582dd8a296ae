-- Between events each conversation that waits has asked for what it waits for, and of one that waits for nothing no read waits.
use Rattle.std.proofs.Common.{◌≡◌, ℕ, ◌+◌, List, [], ◌∷◌, ◌++◌, Bool, true, false, cond, eqb, ltb, ◌&&◌, ◌||◌, not, Option, Some, None, refl, sym, ap, subst, ◌∙◌, inl, inr, arith}
use Rattle.std.specs.Prelude.{◌⊎◌, Result, Ok, Err, find, is_some, option_map}
use Rattle.std.specs.List.{filter, list_all, list_any}
use Rattle.std.proofs.lemmas.Bool.{and_parts, eq-eqb, eqb-true, ltb-true, ltb-false, or_parts}
use Rattle.nine.specs.declared.message.RMsg.{RMsg}
use Rattle.nine.specs.declared.message.RBody.{RBody}
use Rattle.nine.specs.declared.message.TBody.{TBody}
use Rattle.nine.specs.declared.message.TBody.TheVariants as t
use Rattle.file_tree.specs.declared.tree.Node.{Node}
use Rattle.file_tree.specs.declared.tree.Node.TheVariants.{Root, Factotum, Rpc, Ctl, Confirm, Needkey, Proto, Log}
use Rattle.file_tree.specs.declared.tree.FidState.{FidState}
use Rattle.file_tree.specs.Tree.{lead_to}
use Rattle.file_tree.specs.Calls.{is_open, mode_of, node_of}
use Rattle.file_tree.specs.Directories.{dir_end}
use Rattle.key_lists.specs.CtlLines.{CtlLine, carried_out, lines_of}
use Rattle.side_files.specs.declared.line.PromptKind.{PromptKind}
use Rattle.side_files.specs.declared.reply.Reply.{Reply}
use Rattle.side_files.specs.Lines.{Found as Line, Nothing as NoLine, TooLong, First, found}
use Rattle.side_files.specs.Questions.{asker_of}
use Rattle.side_files.specs.Replies as prompt
use Rattle.talks.specs.Requests.{RpcRequest}
use Rattle.talks.specs.Requests as rpc
use Rattle.talks.specs.declared.request.RpcFault.{RpcFault}
use Rattle.talks.specs.Calls as calls
use Rattle.talks.specs.Standings.{Phase, Resting, Waiting, Seeking, OnConfirm, OnNeedkey, OnServer, Kept, Standing, standing, then_stands}
use Rattle.agent_history.specs.declared.event.Event.{Event}
use Rattle.agent_history.specs.declared.event.Event.TheVariants.{Request, Hang, NoAnswer, NoRoom, Take, TakeAsk, Stop, Answer as AnswerCame}
use Rattle.agent_history.specs.Deeds.{Deed, OfFids, OfKeys, OfReplies, OfConnection, OfTalk, OfPrompts, OfLog, Raised, HandedOut, DropTaken, Swept, Halted, Versioned, Attached, Opened, Listed, Clunked, Answered, Awaited, Settled, Flushed, Taken, Entered, Hung, fid_of, keys_of, msize_of, names, next_of, was_hung, was_opened}
use Rattle.agent_history.specs.Replies.{Wait, has_settled, is_unsettled, swept, untaken, waits, waits_for}
use Rattle.agent_history.specs.SideFiles.{is_line_file, kind_at, line_read, lines_in, prompts_of}
use Rattle.agent_history.specs.Conversations.{Due, NoneDue, DropDue, QuestionDue, Question, Speaker, asker, conv_of, due, fits, given_up_by, hand_first, met, opened_talks, questions, resumed, speakers, standing_of, talk, then_took}
use Rattle.agent_history.specs.Requests.{Call, after, after_frame, after_granted, agreed, answered, body_to, call_of, carrying_out, effective, granted, has_answer, is_elsewhere, is_resting, is_rpc, lets_read, line_deed, phase_in, lines_done, reading, reading_answer, reading_line, reading_talk, refusal, replied, replying, stored, walking}
use Rattle.agent_history.specs.Histories.{History, deeds, does, entered, handing, taking}
use Rattle.agent_laws.specs.Laws.{is_asked_for, may_wait_on}
use Rattle.agent_laws.proofs.AskLaws.{open_stands}
use Rattle.agent_laws.proofs.ConversationLaws.{OpenersSpeak, SpeakersRise, any_append, rpc_there, speakers_rise, both_same, is_at, openers_more}
use Rattle.agent_laws.proofs.GrowLaws.{KeepsAny, Passed, known_more, line_file_no_rpc, where_true, all_are_known, either_way, history_grows, is_pending, last_or_not, met_any, none_refuses}
use Rattle.agent_laws.proofs.KindLaws.{is_met, same_number}
use Rattle.agent_laws.proofs.MetLaws.{choice_none, is_reader, no_open_fault, or_none}
use Rattle.agent_laws.proofs.FrameLaws.{clunked, hung, versioned}
use Rattle.agent_laws.proofs.StepLaws.{own_talk, step_met, took_talk, is_up, carried_up, Apart, Ground, Still, call_meets, once_from, other_talk, others_of_all, still_ground, still_itself, still_seats, took_met, seat as seat_of}
use Rattle.agent_laws.proofs.ViewLaws.{AllMet, Alike, Met, Seen, alike_either, alike_itself, alike_then, all_of_met, grows_same, idle_from, line_alike, met_of_all, no_reads, none_from, seen, settle_idle, wants, wants_more}
use Rattle.agent_laws.proofs.WaitLaws.{reads_wait}
use Rattle.agent_laws.proofs.GoodLaws.{Fresh, Good, Known, alike_good, answer_good, apart_fresh, good_either, leaves_good, met_still, reply_good, stands_below}
use Rattle.agent_laws.proofs.LeaveLaws.{attached_alike, browsed_alike, clunked_left, entered_alike, hung_left, left_alike, left_ground, listed_alike, question_stays, versioned_left, walked_alike}

-- ---- an open

found_more : (p : Speaker → Bool) (xs : List Speaker) (s : Speaker) (conv : ℕ) → option_map (λ (x : Speaker). x.conv) (find p (xs ++ s ∷ [])) ≡ Some conv
    → (option_map (λ (x : Speaker). x.conv) (find p xs) ≡ Some conv) ⊎ ((p s ≡ true) × (s.conv ≡ conv))
found_more p [] s conv e = by_it (p s) refl e
  where
    by_it : (b : Bool) → p s ≡ b → option_map (λ (x : Speaker). x.conv) (cond b (Some s) None) ≡ Some conv → (option_map (λ (x : Speaker). x.conv) None ≡ Some conv) ⊎ ((p s ≡ true) × (s.conv ≡ conv))
    by_it true is f = inr (is, cc)
    by_it false is f = absurd cc
found_more p (x ∷ xs) s conv e = by_it (p x) refl e (λ f. found_more p xs s conv f)
  where
    more_of : p x ≡ false → (option_map (λ (y : Speaker). y.conv) (find p xs) ≡ Some conv) ⊎ ((p s ≡ true) × (s.conv ≡ conv)) → (option_map (λ (y : Speaker). y.conv) (cond (p x) (Some x) (find p xs)) ≡ Some conv) ⊎ ((p s ≡ true) × (s.conv ≡ conv))
    more_of is (inl g) = inl (ap (λ (b : Bool). option_map (λ (y : Speaker). y.conv) (cond b (Some x) (find p xs))) is ∙ g)
    more_of is (inr g) = inr g

    by_it : (b : Bool) → p x ≡ b → option_map (λ (y : Speaker). y.conv) (cond b (Some x) (find p (xs ++ s ∷ []))) ≡ Some conv
        → (option_map (λ (y : Speaker). y.conv) (find p (xs ++ s ∷ [])) ≡ Some conv → (option_map (λ (y : Speaker). y.conv) (find p xs) ≡ Some conv) ⊎ ((p s ≡ true) × (s.conv ≡ conv)))
        → (option_map (λ (y : Speaker). y.conv) (cond (p x) (Some x) (find p xs)) ≡ Some conv) ⊎ ((p s ≡ true) × (s.conv ≡ conv))
    by_it true is f more = inl (ap (λ (b : Bool). option_map (λ (y : Speaker). y.conv) (cond b (Some x) (find p xs))) is ∙ f)
    by_it false is f more = more_of is (more f)

found_either : (r : Bool) (p : Speaker → Bool) (xs : List Speaker) (s : Speaker) (conv : ℕ) → option_map (λ (x : Speaker). x.conv) (find p (cond r (xs ++ s ∷ []) xs)) ≡ Some conv
    → (option_map (λ (x : Speaker). x.conv) (find p xs) ≡ Some conv) ⊎ ((p s ≡ true) × (s.conv ≡ conv))
found_either true p xs s conv e = found_more p xs s conv e
found_either false p xs s conv e = inl e

-- a fid that rests isn't read
reads_none : (opens : ℕ → Bool) (fid : ℕ) (ws : List Wait) → list_all (λ (w : Wait). opens w.fid) ws ≡ true → opens fid ≡ false → list_any (is_reader fid) ws ≡ false
reads_none opens fid [] h off = refl
reads_none opens fid (w ∷ ws) h off =
    let parts = and_parts (opens w.fid) (list_all (λ (v : Wait). opens v.fid) ws) h in
    rw (by_it (eqb w.fid fid) refl parts.0) (reads_none opens fid ws parts.1 off)
  where
    by_it : (b : Bool) → eqb w.fid fid ≡ b → opens w.fid ≡ true → (b && is_unsettled w) ≡ false
    by_it true e open_ = absurd (let no_way : true ≡ false = sym open_ ∙ (ap opens (eqb-true w.fid fid e) ∙ off) in cc)
    by_it false e open_ = refl

rests_closed : (o : Option FidState) → is_open o ≡ false → may_wait_on o ≡ false
rests_closed o e = ap (λ (b : Bool). b && (is_rpc (node_of o) || is_line_file (node_of o))) e

not_itself : (n : ℕ) → ltb n n ≡ false
not_itself n = by_it (ltb n n) refl
  where
    by_it : (b : Bool) → ltb n n ≡ b → b ≡ false
    by_it true e = absurd (omega (arith, ltb-true n n e))
    by_it false e = refl

still_above : (r : Bool) (n top : ℕ) → ltb n (cond r (top + 1) top) ≡ false → ltb n top ≡ false
still_above false n top e = e
still_above true n top e = by_it (ltb n top) refl
  where
    by_it : (b : Bool) → ltb n top ≡ b → b ≡ false
    by_it true f = absurd (omega (arith, ltb-true n top f, ltb-false n (top + 1) e))
    by_it false f = refl

-- what is known of the reads of fids
abbrev ReadsOpen : List Deed → Type 0
ReadsOpen done = (conn : ℕ) → list_all (λ (w : Wait). may_wait_on (fid_of done conn w.fid)) (waits done conn) ≡ true

opened_good : (at f mode : ℕ) (done : List Deed) → ReadsOpen done → is_open (fid_of done at f) ≡ false → Good done → Good (OfFids at (Opened f mode) ∷ done)
opened_good at f mode done open_ rests g = record {
  met = λ conn fid conv is. by_seat conn fid conv is (found_either (names Rpc (fid_of done at f)) (is_at conn fid) (speakers done) s conv is);
  fresh = λ n off. g.fresh n (still_above (names Rpc (fid_of done at f)) n (opened_talks done) off);
}
  where
    new : List Deed
    new = OfFids at (Opened f mode) ∷ done

    s : Speaker
    s = record { conv = opened_talks done; conn = at; fid = f }

    by_seat : (conn fid conv : ℕ) → conv_of new conn fid ≡ Some conv → (conv_of done conn fid ≡ Some conv) ⊎ ((is_at conn fid s ≡ true) × (s.conv ≡ conv)) → wants true true (seen new conn fid conv) (standing_of new conv).phase ≡ true
    by_seat conn fid conv is (inl was) =
        wants_more true true (seen done conn fid conv) (seen new conn fid conv) (standing_of done conv).phase
        (record { idle = λ e. e; asked = λ e. question_stays new (questions done) conv (open_stands new conn fid conv is) e; confirm = λ e. e; needkey = λ e. e }) (g.met conn fid conv was)
    by_seat conn fid conv is (inr now) =
        let place = both_same at conn f fid now.0 in
        let none : talk done conv ≡ [] = subst (λ n. talk done n ≡ []) now.1 (g.fresh (opened_talks done) (not_itself (opened_talks done))) in
        let off : may_wait_on (fid_of done conn fid) ≡ false = rests_closed (fid_of done conn fid) (subst (λ n. is_open (fid_of done n fid) ≡ false) place.0 (subst (λ n. is_open (fid_of done at n) ≡ false) place.1 rests)) in
        ap (λ l. wants true true (seen new conn fid conv) (standing l).phase) none
        ∙ idle_from fid (waits done conn) (reads_none (λ n. may_wait_on (fid_of done conn n)) fid (waits done conn) (open_ conn) off)

-- ---- a read of rpc

-- a read that begins to wait changes what is seen of its own fid alone
begun_idle : (b : Bool) (f fid : ℕ) (ws : List Wait) (w : Wait) → w.fid ≡ f → (b ≡ true → eqb f fid ≡ false) → no_reads fid ws ≡ true → no_reads fid (cond b (ws ++ w ∷ []) ws) ≡ true
begun_idle false f fid ws w of other e = e
begun_idle true f fid ws w of other e =
    let off : is_reader fid w ≡ false = ap (λ (n : ℕ). eqb n fid && is_unsettled w) of ∙ ap (λ (b : Bool). b && is_unsettled w) (other refl) in
    ap not (any_append (is_reader fid) ws w ∙ (ap (λ (b : Bool). b || is_reader fid w) (none_from fid ws e) ∙ off))

-- one that waits for something may be read
read_wants : (v w : Seen) (ph : Phase) → has_answer ph ≡ false → (v.asked ≡ w.asked) × (v.confirm ≡ w.confirm) × (v.needkey ≡ w.needkey) → wants true false v ph ≡ true → wants true true w ph ≡ true
read_wants v w Resting off same e = absurd cc
read_wants v w (Waiting request) off same e = absurd cc
read_wants v w Seeking off same e = refl
read_wants v w (OnConfirm serial) off same e = sym same.1 ∙ e
read_wants v w OnNeedkey off same e = sym same.2 ∙ e
read_wants v w OnServer off same e = sym same.0 ∙ e
read_wants v w (Kept answer) off same e = absurd cc

awaited_met : (at tag f count c : ℕ) (done : List Deed) → conv_of done at f ≡ Some c → has_answer (standing_of done c).phase ≡ false → Met c true false done → AllMet (OfReplies at (Awaited tag f count) ∷ done)
awaited_met at tag f count c done seat off m conn fid conv is = by_own (eqb c conv) refl
  where
    new : List Deed
    new = OfReplies at (Awaited tag f count) ∷ done

    same_seat : (x y : ℕ) → conv_of done at f ≡ Some x → conv_of done at f ≡ Some y → x ≡ y
    same_seat x y e g = cc

    apart : eqb c conv ≡ false → (b : Bool) → eqb at conn ≡ true → eqb f fid ≡ b → b ≡ false
    apart other true on e =
        let here : conv_of done at f ≡ Some conv = ap (λ (n : ℕ). conv_of done n f) (eqb-true at conn on) ∙ (ap (conv_of done conn) (eqb-true f fid e) ∙ is) in
        absurd (let no_way : true ≡ false = sym (eq-eqb c conv (same_seat c conv seat here)) ∙ other in cc)
    apart other false on e = refl

    by_own : (own : Bool) → eqb c conv ≡ own → wants true true (seen new conn fid conv) (standing_of done conv).phase ≡ true
    by_own true e =
        read_wants (seen done conn fid conv) (seen new conn fid conv) (standing_of done conv).phase (subst (λ n. has_answer (standing_of done n).phase ≡ false) (eqb-true c conv e) off) (refl, refl, refl) (m conn fid conv true e is)
    by_own false e =
        wants_more true true (seen done conn fid conv) (seen new conn fid conv) (standing_of done conv).phase
        (record { idle = λ h. begun_idle (eqb at conn) f fid (waits done conn) (record { tag = tag; fid = f; count = count; reply = None }) refl (λ on. apart e (eqb f fid) on refl) h; asked = λ h. h; confirm = λ h. h; needkey = λ h. h })
        (m conn fid conv false e is)

-- the answer is read, or waited for
read_met : (call : Call) (c fid count : ℕ) (ph : Phase) (done : List Deed) → (standing_of done c).phase ≡ ph → SpeakersRise done → conv_of done call.conn fid ≡ Some c → no_reads fid (waits done call.conn) ≡ true → Met c true false done → AllMet (reading_answer call c fid count ph done)
read_met call c fid count (Kept answer) done on rise seat idle m =
    all_of_met c (then_took c count answer done) (took_met c (fits count answer) answer done on (λ conn f conv e at. own conn f conv e at) m)
  where
    one_seat : (s r : Speaker) → Some s ≡ Some r → s ≡ r
    one_seat s r e = cc

    own : (conn f conv : ℕ) → eqb c conv ≡ true → conv_of done conn f ≡ Some conv → no_reads f (waits done conn) ≡ true
    own conn f conv e at =
        let there = seat_of done conn f c rise (subst (λ n. conv_of done conn f ≡ Some n) (sym (eqb-true c conv e)) at) in
        let same = one_seat (record { conv = c; conn = call.conn; fid = fid }) (record { conv = c; conn = conn; fid = f }) (sym (seat_of done call.conn fid c rise seat) ∙ there) in
        subst (λ (s : Speaker). no_reads s.fid (waits done s.conn) ≡ true) same idle
read_met call c fid count Resting done on rise seat idle m = awaited_met call.conn call.tag fid count c done seat (ap has_answer on) m
read_met call c fid count (Waiting request) done on rise seat idle m = awaited_met call.conn call.tag fid count c done seat (ap has_answer on) m
read_met call c fid count Seeking done on rise seat idle m = awaited_met call.conn call.tag fid count c done seat (ap has_answer on) m
read_met call c fid count (OnConfirm serial) done on rise seat idle m = awaited_met call.conn call.tag fid count c done seat (ap has_answer on) m
read_met call c fid count OnNeedkey done on rise seat idle m = awaited_met call.conn call.tag fid count c done seat (ap has_answer on) m
read_met call c fid count OnServer done on rise seat idle m = awaited_met call.conn call.tag fid count c done seat (ap has_answer on) m

answer_talk : (call : Call) (c fid count : ℕ) (ph : Phase) (done : List Deed) → Apart c done (reading_answer call c fid count ph done)
answer_talk call c fid count (Kept answer) done conv e = took_talk c (fits count answer) done conv e
answer_talk call c fid count Resting done conv e = refl
answer_talk call c fid count (Waiting request) done conv e = refl
answer_talk call c fid count Seeking done conv e = refl
answer_talk call c fid count (OnConfirm serial) done conv e = refl
answer_talk call c fid count OnNeedkey done conv e = refl
answer_talk call c fid count OnServer done conv e = refl

took_opened : (c : ℕ) (b : Bool) (done : List Deed) → opened_talks (cond b (OfTalk c calls.Took ∷ done) done) ≡ opened_talks done
took_opened c true done = refl
took_opened c false done = refl

answer_opened : (call : Call) (c fid count : ℕ) (ph : Phase) (done : List Deed) → opened_talks (reading_answer call c fid count ph done) ≡ opened_talks done
answer_opened call c fid count (Kept answer) done = took_opened c (fits count answer) done
answer_opened call c fid count Resting done = refl
answer_opened call c fid count (Waiting request) done = refl
answer_opened call c fid count Seeking done = refl
answer_opened call c fid count (OnConfirm serial) done = refl
answer_opened call c fid count OnNeedkey done = refl
answer_opened call c fid count OnServer done = refl

-- it has a request that isn't carried out yet
abbrev is_waiting : Phase → Bool
is_waiting (Waiting request) = true
is_waiting ph = false

-- one that is at something already
at_something : (v : Seen) (ph : Phase) → is_resting ph ≡ false → is_waiting ph ≡ false → wants true true v ph ≡ true → wants true false v ph ≡ true
at_something v Resting rests stored e = absurd cc
at_something v (Waiting request) rests stored e = absurd cc
at_something v Seeking rests stored e = e
at_something v (OnConfirm serial) rests stored e = e
at_something v OnNeedkey rests stored e = e
at_something v OnServer rests stored e = e
at_something v (Kept answer) rests stored e = refl

at_met : (c : ℕ) (done : List Deed) → is_resting (standing_of done c).phase ≡ false → is_waiting (standing_of done c).phase ≡ false → AllMet done → Met c true false done
at_met c done rests stored all =
    step_met c true true true false done done (λ conn fid conv at. at) (λ conn fid conv e at. grows_same _ _ refl) (λ conv e. refl)
    (λ conn fid conv e at w. at_something (seen done conn fid conv) (standing_of done conv).phase
    (subst (λ n. is_resting (standing_of done n).phase ≡ false) (eqb-true c conv e) rests) (subst (λ n. is_waiting (standing_of done n).phase ≡ false) (eqb-true c conv e) stored) w) (met_of_all c done all)

-- while conversations meet something no read of the fid comes
idle_more : (conn fid : ℕ) → KeepsAny is_met (λ done. no_reads fid (waits done conn) ≡ true)
idle_more conn fid done (OfTalk conv call) is e = e
idle_more conn fid done (OfPrompts about doing) is e = e
idle_more conn fid done (OfLog doing) is e = e
idle_more conn fid done (Raised conv) is e = e
idle_more conn fid done (OfReplies at (Settled tag body)) is e = settle_idle (eqb at conn) fid tag body (waits done conn) e
idle_more conn fid done (OfReplies at (Answered tag body)) is e = absurd cc
idle_more conn fid done (OfReplies at (Awaited tag f count)) is e = absurd cc
idle_more conn fid done (OfReplies at (Flushed tag)) is e = absurd cc
idle_more conn fid done (OfReplies at Taken) is e = absurd cc
idle_more conn fid done (OfFids at deed) is e = absurd cc
idle_more conn fid done (OfKeys at deed) is e = absurd cc
idle_more conn fid done (OfConnection at deed) is e = absurd cc
idle_more conn fid done HandedOut is e = absurd cc
idle_more conn fid done DropTaken is e = absurd cc
idle_more conn fid done Swept is e = absurd cc
idle_more conn fid done Halted is e = absurd cc

-- behind what is carried out
behind_carried : (call : Call) (c fid count : ℕ) (old done : List Deed) → Still old done → Apart c old done → Ground old → conv_of old call.conn fid ≡ Some c → no_reads fid (waits done call.conn) ≡ true → Met c true false done → Fresh old
    → Good (reading_answer call c fid count (standing_of done c).phase done)
behind_carried call c fid count old done s apart g seat idle m fresh =
    let ph = (standing_of done c).phase in
    let ground = still_ground old done s g in
    let there = still_seats done old (sym s.speaks) call.conn fid c seat in
    record {
      met = read_met call c fid count ph done refl ground.rise there idle m;
      fresh = apart_fresh c old (reading_answer call c fid count ph done) (λ conv e. answer_talk call c fid count ph done conv e ∙ apart conv e) (answer_opened call c fid count ph done ∙ s.opened) (stands_below old c g.rise (open_stands old call.conn fid c seat)) fresh;
    }

carried_good : (call : Call) (c fid count : ℕ) (ph : Phase) (done : List Deed) → (standing_of done c).phase ≡ ph → is_resting ph ≡ false → Ground done → conv_of done call.conn fid ≡ Some c → no_reads fid (waits done call.conn) ≡ true → Good done
    → Good (reading_answer call c fid count (standing_of (carrying_out c call.word ph done) c).phase (carrying_out c call.word ph done))
carried_good call c fid count (Waiting request) done on rests ground seat idle g =
    let deed = calls.CarriedOut call.word in
    let now = met c deed done in
    let up : is_up (then_stands (standing_of done c) (standing_of done c).phase deed).phase ≡ true = ap (λ ph. is_up (then_stands (standing_of done c) ph deed).phase) on ∙ carried_up (standing_of done c) call.word request in
    let m = call_meets c deed done (others_of_all c done g.met) up in
    behind_carried call c fid count done now (met_still c deed done done (still_itself done)) m.apart ground seat (met_any (λ d. no_reads fid (waits d call.conn) ≡ true) (idle_more call.conn fid) c deed done idle) m.met g.fresh
carried_good call c fid count Resting done on rests ground seat idle g = absurd cc
carried_good call c fid count Seeking done on rests ground seat idle g =
    behind_carried call c fid count done done (still_itself done) (λ conv e. refl) ground seat idle (at_met c done (ap is_resting on) (ap is_waiting on) g.met) g.fresh
carried_good call c fid count (OnConfirm serial) done on rests ground seat idle g =
    behind_carried call c fid count done done (still_itself done) (λ conv e. refl) ground seat idle (at_met c done (ap is_resting on) (ap is_waiting on) g.met) g.fresh
carried_good call c fid count OnNeedkey done on rests ground seat idle g =
    behind_carried call c fid count done done (still_itself done) (λ conv e. refl) ground seat idle (at_met c done (ap is_resting on) (ap is_waiting on) g.met) g.fresh
carried_good call c fid count OnServer done on rests ground seat idle g =
    behind_carried call c fid count done done (still_itself done) (λ conv e. refl) ground seat idle (at_met c done (ap is_resting on) (ap is_waiting on) g.met) g.fresh
carried_good call c fid count (Kept answer) done on rests ground seat idle g =
    behind_carried call c fid count done done (still_itself done) (λ conv e. refl) ground seat idle (at_met c done (ap is_resting on) (ap is_waiting on) g.met) g.fresh

-- where a read of rpc isn't refused, no other read of the fid waits
read_free : (done : List Deed) (call : Call) (fid offset count : ℕ) → refusal done call (t.Read fid offset count) ≡ None → is_rpc (node_of (fid_of done call.conn fid)) ≡ true → waits_for done call.conn fid ≡ false
unfolding refusal
read_free done call fid offset count e is =
    let o = fid_of done call.conn fid in
    let node = node_of o in
    let one = choice_none (not (is_open o)) _ _ (or_none _ _ e).1 in
    let two = choice_none (not (lets_read (mode_of o))) _ _ one.1 in
    let three = choice_none (is_elsewhere node (next_of done call.conn fid) offset) _ _ two.1 in
    where_true (is_rpc node) (waits_for done call.conn fid) is (choice_none (is_rpc node && waits_for done call.conn fid) _ _ three.1).0

talk_good : (call : Call) (fid count : ℕ) (o : Option ℕ) (done : List Deed) → conv_of done call.conn fid ≡ o → is_resting (phase_in done o) ≡ false → waits_for done call.conn fid ≡ false → Ground done → Good done → Good (reading_talk call fid count o done)
talk_good call fid count None done seat rests free ground g = g
talk_good call fid count (Some c) done seat rests free ground g =
    carried_good call c fid count (standing_of done c).phase done refl rests ground seat (idle_from fid (waits done call.conn) (not_read fid (waits done call.conn) free)) g
  where
    not_read : (fid : ℕ) (ws : List Wait) → list_any (λ (w : Wait). eqb w.fid fid) ws ≡ false → list_any (is_reader fid) ws ≡ false
    not_read fid [] e = refl
    not_read fid (w ∷ ws) e =
        let parts = or_parts (eqb w.fid fid) (list_any (λ (v : Wait). eqb v.fid fid) ws) e in
        rw (parts.0, not_read fid ws parts.1) refl

-- ---- a read of a file of lines

-- a fid that has a file of lines open has no conversation
found_any : (p : Speaker → Bool) (xs : List Speaker) (conv : ℕ) → option_map (λ (s : Speaker). s.conv) (find p xs) ≡ Some conv → list_any p xs ≡ true
found_any p [] conv e = absurd cc
found_any p (s ∷ xs) conv e = by_it (p s) e (λ f. found_any p xs conv f)
  where
    by_it : (b : Bool) → option_map (λ (s : Speaker). s.conv) (cond b (Some s) (find p xs)) ≡ Some conv → (option_map (λ (s : Speaker). s.conv) (find p xs) ≡ Some conv → list_any p xs ≡ true) → (b || list_any p xs) ≡ true
    by_it true f more = refl
    by_it false f more = more f

line_seat : (done : List Deed) (conn fid conv : ℕ) → OpenersSpeak done → is_line_file (node_of (fid_of done conn fid)) ≡ true → conv_of done conn fid ≡ Some conv → ⊥
line_seat done conn fid conv speak is e =
    let o = fid_of done conn fid in
    let on = and_parts (names Rpc o) (is_open o) (sym (speak conn fid) ∙ found_any (is_at conn fid) (speakers done) conv e) in
    let no_way : true ≡ false = sym (rpc_there o on.0) ∙ line_file_no_rpc (node_of o) is in
    cc

line_awaited : (at tag f count : ℕ) (done : List Deed) → OpenersSpeak done → is_line_file (node_of (fid_of done at f)) ≡ true → Alike done (OfReplies at (Awaited tag f count) ∷ done)
line_awaited at tag f count done speak is = record {
  seats = λ conn fid conv e. e;
  sees = λ conn fid conv e. record {
    idle = λ h. begun_idle (eqb at conn) f fid (waits done conn) (record { tag = tag; fid = f; count = count; reply = None }) refl (λ on. apart conn fid conv e on (eqb f fid) refl) h;
    asked = λ h. h;
    confirm = λ h. h;
    needkey = λ h. h;
  };
  talks = λ n. refl;
  opened = refl;
}
  where
    apart : (conn fid conv : ℕ) → conv_of done conn fid ≡ Some conv → eqb at conn ≡ true → (b : Bool) → eqb f fid ≡ b → b ≡ false
    apart conn fid conv e on true g = absurd (line_seat done at f conv speak is (ap (λ (n : ℕ). conv_of done n f) (eqb-true at conn on) ∙ (ap (conv_of done conn) (eqb-true f fid g) ∙ e)))
    apart conn fid conv e on false g = refl

line_good : (call : Call) (fid count : ℕ) (node : Node) (what : Line) (done : List Deed) → OpenersSpeak done → is_line_file (node_of (fid_of done call.conn fid)) ≡ true → Good done → Good (reading_line call fid count node what done)
line_good call fid count node NoLine done speak is g = alike_good done (OfReplies call.conn (Awaited call.tag fid count) ∷ done) (line_awaited call.conn call.tag fid count done speak is) g
line_good call fid count node TooLong done speak is g = g
line_good call fid count node (First line) done speak is g = alike_good done (line_read node done) (line_alike node done) g

reading_alike : (done : List Deed) (conn fid offset count : ℕ) (node : Node) → Alike done (reading done conn fid offset count node)
reading_alike done conn fid offset count Ctl = alike_either (eqb offset 0) done (OfFids conn (Listed fid) ∷ done) done (listed_alike conn fid done) (alike_itself done)
reading_alike done conn fid offset count Root = browsed_alike conn fid (dir_end Root offset count) done
reading_alike done conn fid offset count Factotum = browsed_alike conn fid (dir_end Factotum offset count) done
reading_alike done conn fid offset count Rpc = alike_itself done
reading_alike done conn fid offset count Confirm = alike_itself done
reading_alike done conn fid offset count Needkey = alike_itself done
reading_alike done conn fid offset count Proto = alike_itself done
reading_alike done conn fid offset count Log = alike_itself done

-- ---- other requests

stored_wants : (v : Seen) (s : Standing) (ph : Phase) (request : RpcRequest) → s.phase ≡ ph → wants true true v ph ≡ true → wants true true v (then_stands s ph (calls.Stored request)).phase ≡ true
stored_wants v s Resting request on e = e
stored_wants v s (Waiting other) request on e = ap (wants true true v) on ∙ e
stored_wants v s Seeking request on e = ap (wants true true v) on ∙ e
stored_wants v s (OnConfirm serial) request on e = ap (wants true true v) on ∙ e
stored_wants v s OnNeedkey request on e = ap (wants true true v) on ∙ e
stored_wants v s OnServer request on e = ap (wants true true v) on ∙ e
stored_wants v s (Kept answer) request on e = ap (wants true true v) on ∙ e

stored_good : (conn fid : ℕ) (o : Option ℕ) (came : Result RpcRequest RpcFault) (done : List Deed) → conv_of done conn fid ≡ o → Ground done → Good done → Good (stored o came done)
stored_good conn fid None came done seat ground g = g
stored_good conn fid (Some c) (Err fault) done seat ground g = g
stored_good conn fid (Some c) (Ok request) done seat ground g =
    let call = calls.Stored request in
    let new = OfTalk c call ∷ done in
    record {
      met = all_of_met c new (step_met c true true true true done new (λ conn fid conv at. at) (λ conn fid conv e at. grows_same _ _ refl) (λ conv e. other_talk c call done conv e)
          (λ conn fid conv e at w. ap (λ (x : Standing). wants true true (seen done conn fid conv) x.phase) (own_talk c call done conv e)
          ∙ stored_wants (seen done conn fid conv) (standing_of done conv) (standing_of done conv).phase request refl w) (met_of_all c done g.met));
      fresh = apart_fresh c done new (λ conv e. other_talk c call done conv e) refl (stands_below done c ground.rise (open_stands done conn fid c seat)) g.fresh;
    }

same_alike : (deed : Deed) (done : List Deed) → ((conn fid conv : ℕ) → seen (deed ∷ done) conn fid conv ≡ seen done conn fid conv) → speakers (deed ∷ done) ≡ speakers done → ((n : ℕ) → talk (deed ∷ done) n ≡ talk done n) → opened_talks (deed ∷ done) ≡ opened_talks done → Alike done (deed ∷ done)
same_alike deed done same speak tk op = record {
  seats = still_seats done (deed ∷ done) speak;
  sees = λ conn fid conv at. grows_same _ _ (sym (same conn fid conv));
  talks = tk;
  opened = op;
}

lines_alike : (conn : ℕ) (lines : List CtlLine) (done : List Deed) → Alike done (lines_done conn lines done)
lines_alike conn [] done = alike_itself done
lines_alike conn (line ∷ lines) done =
    let one = OfKeys conn (line_deed line) ∷ done in
    alike_then done one (lines_done conn lines one) (same_alike (OfKeys conn (line_deed line)) done (λ conn fid conv. refl) refl (λ n. refl) refl) (lines_alike conn lines one)

-- some reads are left out
fewer_none : (p keep : Wait → Bool) (ws : List Wait) → list_any p ws ≡ false → list_any p (filter keep ws) ≡ false
fewer_none p keep [] e = refl
fewer_none p keep (w ∷ ws) e =
    let parts = or_parts (p w) (list_any p ws) e in
    by_it (keep w) parts.0 (fewer_none p keep ws parts.1)
  where
    by_it : (b : Bool) → p w ≡ false → list_any p (filter keep ws) ≡ false → list_any p (cond b (w ∷ filter keep ws) (filter keep ws)) ≡ false
    by_it true first more = rw first more
    by_it false first more = more

fewer_idle : (b : Bool) (fid : ℕ) (keep : Wait → Bool) (ws : List Wait) → no_reads fid ws ≡ true → no_reads fid (cond b (filter keep ws) ws) ≡ true
fewer_idle true fid keep ws e = idle_from fid (filter keep ws) (fewer_none (is_reader fid) keep ws (none_from fid ws e))
fewer_idle false fid keep ws e = e

flushed_alike : (at tag : ℕ) (done : List Deed) → Alike done (OfReplies at (Flushed tag) ∷ done)
flushed_alike at tag done = record {
  seats = λ conn fid conv e. e;
  sees = λ conn fid conv e. record { idle = fewer_idle (eqb at conn) fid (λ (w : Wait). not (eqb w.tag tag)) (waits done conn); asked = λ h. h; confirm = λ h. h; needkey = λ h. h };
  talks = λ n. refl;
  opened = refl;
}

walking_alike : (conn newfid : ℕ) (o : Option Node) (done : List Deed) → Alike done (walking conn newfid o done)
walking_alike conn newfid None done = alike_itself done
walking_alike conn newfid (Some node) done = walked_alike conn newfid node done

replying_good : (kind : Option PromptKind) (reply : Option Reply) (done : List Deed) → Known done → Good done → Good (replying kind reply done)
replying_good None reply done k g = g
replying_good (Some kind) None done k g = g
replying_good (Some kind) (Some reply) done k g = reply_good kind reply.tag reply.agrees (asker_of reply.tag (prompts_of done kind)) done refl k g

-- what is known when a request comes
record Base (done : List Deed) : Type 0 where
  known : Known done
  speak : OpenersSpeak done
  open_ : ReadsOpen done

either_good : (b : Bool) (one other : List Deed) → (b ≡ true → Good one) → (b ≡ false → Good other) → Good (cond b one other)
either_good true one other p q = p refl
either_good false one other p q = q refl

clunk_good : (conn fid : ℕ) (done : List Deed) → Known done → Good done → Good (given_up_by (OfFids conn (Clunked fid)) done)
clunk_good conn fid done k g = leaves_good (OfFids conn (Clunked fid)) done (clunked conn fid done k.known) (left_alike (OfFids conn (Clunked fid)) done (clunked_left conn fid done)) (left_ground (OfFids conn (Clunked fid)) done (clunked_left conn fid done) k.ground) g

body_good : (done : List Deed) (call : Call) (body : TBody) → Base done → refusal done call body ≡ None → Good done → Good (after done call body)
unfolding after refusal
body_good done call (t.Version msize version) b e g =
    let deed = OfFids call.conn (Versioned (agreed msize version)) in
    let l = versioned_left call.conn (agreed msize version) done in
    leaves_good deed done (versioned call.conn (agreed msize version) done b.known.known) (left_alike deed done l) (left_ground deed done l b.known.ground) g
body_good done call (t.Auth afid uname aname) b e g = g
body_good done call (t.Attach fid afid uname aname) b e g = alike_good done (OfFids call.conn (Attached fid) ∷ done) (attached_alike call.conn fid done) g
body_good done call (t.Flush oldtag) b e g = alike_good done (OfReplies call.conn (Flushed oldtag) ∷ done) (flushed_alike call.conn oldtag done) g
body_good done call (t.Walk fid newfid wname) b e g =
    let to = lead_to (node_of (fid_of done call.conn fid)) wname in
    alike_good done (walking call.conn newfid to done) (walking_alike call.conn newfid to done) g
body_good done call (t.Open fid mode) b e g = opened_good call.conn fid mode done b.open_ (no_open_fault (fid_of done call.conn fid) mode (or_none _ _ e).0).1 g
body_good done call (t.Create fid name perm mode) b e g = g
body_good done call (t.Read fid offset count) b e g =
    let node = node_of (fid_of done call.conn fid) in
    let most = effective count (msize_of done call.conn) in
    let what = found most (lines_in done node) in
    let o = conv_of done call.conn fid in
    either_good (is_rpc node) (reading_talk call fid most o done) _
    (λ is. talk_good call fid most o done refl (is_pending done call fid offset count e is) (read_free done call fid offset count e is) b.known.ground g)
    (λ no. either_good (is_line_file node) (reading_line call fid most node what done) (reading done call.conn fid offset most node) (λ is. line_good call fid most node what done b.speak is g)
    (λ no_line. alike_good done (reading done call.conn fid offset most node) (reading_alike done call.conn fid offset most node) g))
body_good done call (t.Write fid offset content) b e g =
    let node = node_of (fid_of done call.conn fid) in
    let lines = carried_out (keys_of done) (lines_of content) in
    good_either (is_rpc node) (stored (conv_of done call.conn fid) (rpc.request_of content) done) _ (stored_good call.conn fid (conv_of done call.conn fid) (rpc.request_of content) done refl b.known.ground g)
    (good_either (is_some (kind_at node)) (replying (kind_at node) (prompt.reply_of content) done) (lines_done call.conn lines done) (replying_good (kind_at node) (prompt.reply_of content) done b.known g) (alike_good done (lines_done call.conn lines done) (lines_alike call.conn lines done) g))
body_good done call (t.Clunk fid) b e g = clunk_good call.conn fid done b.known g
body_good done call (t.Remove fid) b e g = clunk_good call.conn fid done b.known g
body_good done call (t.Stat fid) b e g = g
body_good done call (t.Wstat fid stat) b e g = g

granted_good : (done : List Deed) (call : Call) (r : Result TBody (List ℕ)) → ((body : TBody) → r ≡ Ok body → Passed done call body) → Base done → Good done → Good (after_granted done call r)
granted_good done call (Err text) passed b g = g
granted_good done call (Ok body) passed b g = body_good done call body b (passed body refl).none g

frame_good : (done : List Deed) (call : Call) (frame : List ℕ) → Base done → Good done → Good (after_frame done call frame)
unfolding after_frame
frame_good done call frame b g = granted_good done call (granted done call frame) (none_refuses done call frame) b g

-- ---- events

replied_good : (call : Call) (o : Option RBody) (done : List Deed) → Good done → Good (replied call o done)
replied_good call None done g = g
replied_good call (Some body) done g = alike_good done (OfReplies call.conn (Answered call.tag body) ∷ done) (same_alike (OfReplies call.conn (Answered call.tag body)) done (λ conn fid conv. refl) refl (λ n. refl) refl) g

swept_alike : (done : List Deed) → Alike done (Swept ∷ done)
swept_alike done = record {
  seats = λ conn fid conv e. e;
  sees = λ conn fid conv e. record { idle = fewer_idle true fid is_unsettled (waits done conn); asked = λ h. h; confirm = λ h. h; needkey = λ h. h };
  talks = λ n. refl;
  opened = refl;
}

swept_good : (done : List Deed) → Good done → Good (swept done)
swept_good done g = good_either (has_settled done) (Swept ∷ done) done (alike_good done (Swept ∷ done) (swept_alike done) g) g

entered_good : (at : ℕ) (done : List Deed) → Good done → Good (entered at done)
entered_good at done g = good_either (was_opened done at) done (OfConnection at Entered ∷ done) g (alike_good done (OfConnection at Entered ∷ done) (entered_alike at done) g)

entered_base : (at : ℕ) (done : List Deed) → Base done → Base (entered at done)
entered_base at done b = either_way Base (was_opened done at) done (OfConnection at Entered ∷ done) b
    (record {
      known = record {
        ground = record { rise = b.known.ground.rise; lone = b.known.ground.lone };
        known = known_more (Unit {0}) at done (OfConnection at Entered) (same_number at) tt (λ _. b.known.known) tt;
      };
      speak = b.speak;
      open_ = b.open_;
    })

taking_good : (at : ℕ) (left : List RMsg) (done : List Deed) → Good done → Good (taking at left done)
taking_good at [] done g = g
taking_good at (reply ∷ rest) done g = alike_good done (OfReplies at Taken ∷ done) (same_alike (OfReplies at Taken) done (λ conn fid conv. refl) refl (λ n. refl) refl) g

handed_there : (conv : ℕ) (qs : List Question) → list_any (λ (q : Question). eqb q.conv conv) (hand_first qs) ≡ list_any (λ (q : Question). eqb q.conv conv) qs
handed_there conv [] = refl
handed_there conv (q ∷ qs) = by_it q.handed (handed_there conv qs)
  where
    by_it : (b : Bool) → list_any (λ (x : Question). eqb x.conv conv) (hand_first qs) ≡ list_any (λ (x : Question). eqb x.conv conv) qs
        → list_any (λ (x : Question). eqb x.conv conv) (cond b (q ∷ hand_first qs) (record { call = q.call; conv = q.conv; handed = true } ∷ qs)) ≡ (eqb q.conv conv || list_any (λ (x : Question). eqb x.conv conv) qs)
    by_it true more = ap (λ (x : Bool). eqb q.conv conv || x) more
    by_it false more = refl

handing_good : (o : Due) (done : List Deed) → Good done → Good (handing o done)
handing_good NoneDue done g = g
handing_good (DropDue drop) done g = alike_good done (DropTaken ∷ done) (same_alike DropTaken done (λ conn fid conv. refl) refl (λ n. refl) refl) g
handing_good (QuestionDue question) done g =
    alike_good done (HandedOut ∷ done) (record {
      seats = λ conn fid conv e. e;
      sees = λ conn fid conv e. record { idle = λ h. h; asked = λ h. handed_there conv (questions done) ∙ h; confirm = λ h. h; needkey = λ h. h };
      talks = λ n. refl;
      opened = refl;
    }) g

halted_good : (done : List Deed) → Good done → Good (Halted ∷ done)
halted_good done g = record { met = λ conn fid conv e. absurd cc; fresh = g.fresh }

does_good : (done : List Deed) (e : Event) → Base done → Good done → Good (does done e)
does_good done (Request at frame word) b g =
    let there = entered at done in
    let call = call_of at frame word in
    good_either (was_hung done at) done (swept (answered there call frame)) g
    (swept_good (answered there call frame) (replied_good call (body_to there call frame) (after_frame there call frame) (frame_good there call frame (entered_base at done b) (entered_good at done g))))
does_good done (Take at) b g = good_either (was_hung done at) done (taking at (untaken done at) (entered at done)) g (taking_good at (untaken done at) (entered at done) (entered_good at done g))
does_good done (Hang at) b g =
    let deed = OfConnection at Hung in
    let l = hung_left at done in
    good_either (was_opened done at && not (was_hung done at)) (swept (given_up_by deed done)) done
    (swept_good (given_up_by deed done) (leaves_good deed done (hung at done b.known.known) (left_alike deed done l) (left_ground deed done l b.known.ground) g)) g
does_good done (AnswerCame call bytes) b g = swept_good (resumed (asker done call) (calls.Heard bytes) done) (answer_good (calls.Heard bytes) call (asker done call) done refl refl b.known g)
does_good done (NoAnswer call) b g = swept_good (resumed (asker done call) calls.Unheard done) (answer_good calls.Unheard call (asker done call) done refl refl b.known g)
does_good done (NoRoom call) b g = swept_good (resumed (asker done call) calls.Roomless done) (answer_good calls.Roomless call (asker done call) done refl refl b.known g)
does_good done TakeAsk b g = handing_good (due done) done g
does_good done Stop b g = halted_good done g

-- what is known after a history
base_of : (H : History) → Base (deeds H)
base_of H = record {
  known = record {
    ground = record {
      rise = speakers_rise H;
      lone = λ conn fid conv e.
          let w = reads_wait H conn in
          (w.tags, once_from fid (waits (deeds H) conn) (w.alone fid (sym (history_grows OpenersSpeak openers_more (λ c f. refl) H conn fid) ∙ found_any (is_at conn fid) (speakers (deeds H)) conv e)));
    };
    known = all_are_known H;
  };
  speak = history_grows OpenersSpeak openers_more (λ c f. refl) H;
  open_ = λ conn. (reads_wait H conn).opened;
}

all_good : (H : History) → Good (deeds H)
all_good [] = record { met = λ conn fid conv e. absurd cc; fresh = λ n off. refl }
all_good (e ∷ H) = last_or_not Good H e (λ done g. halted_good done g) (all_good H) (does_good (deeds H) e (base_of H) (all_good H))

-- ---- the law

still_read : (fid : ℕ) (ws : List Wait) → list_all is_unsettled ws ≡ true → list_any (λ (w : Wait). eqb w.fid fid) ws ≡ true → list_any (is_reader fid) ws ≡ true
still_read fid [] h e = absurd cc
still_read fid (w ∷ ws) h e =
    let parts = and_parts (is_unsettled w) (list_all is_unsettled ws) h in
    by_it (eqb w.fid fid) (is_unsettled w) parts.0 e (λ more. still_read fid ws parts.1 more)
  where
    by_it : (a b : Bool) → b ≡ true → (a || list_any (λ (v : Wait). eqb v.fid fid) ws) ≡ true → (list_any (λ (v : Wait). eqb v.fid fid) ws ≡ true → list_any (is_reader fid) ws ≡ true) → ((a && b) || list_any (is_reader fid) ws) ≡ true
    by_it true true f g more = refl
    by_it true false f g more = absurd cc
    by_it false b f g more = more g

asks_so : (done : List Deed) (conn fid conv : ℕ) (ph : Phase) → no_reads fid (waits done conn) ≡ false → wants true true (seen done conn fid conv) ph ≡ true → is_asked_for done conv ph ≡ true
asks_so done conn fid conv Resting read e = absurd (let no_way : true ≡ false = sym e ∙ read in cc)
asks_so done conn fid conv (Waiting request) read e = absurd (let no_way : true ≡ false = sym e ∙ read in cc)
asks_so done conn fid conv Seeking read e = refl
asks_so done conn fid conv (OnConfirm serial) read e = e
asks_so done conn fid conv OnNeedkey read e = e
asks_so done conn fid conv OnServer read e = e
asks_so done conn fid conv (Kept answer) read e = absurd (let no_way : true ≡ false = sym e ∙ read in cc)

pub waiting_read_asks : (H : History) (conn fid conv : ℕ) → waits_for (deeds H) conn fid ≡ true → conv_of (deeds H) conn fid ≡ Some conv → is_asked_for (deeds H) conv (standing_of (deeds H) conv).phase ≡ true
waiting_read_asks H conn fid conv read e =
    let done = deeds H in
    asks_so done conn fid conv (standing_of done conv).phase (ap not (still_read fid (waits done conn) (reads_wait H conn).unsettled read)) ((all_good H).met conn fid conv e)
