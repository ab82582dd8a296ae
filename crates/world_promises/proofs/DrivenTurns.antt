-- What a network's turns do to an agent that serves one conversation at a time, by its fid 2: none of its requests is
-- refused, and how the conversation stands then is what its talk makes of the keys.
use Rattle.std.proofs.Common.{◌≡◌, ℕ, ◌+◌, ◌≤◌, ◌<◌, List, [], ◌∷◌, ◌++◌, map, Bool, true, false, cond, eqb, ltb, ◌&&◌, length, Option, Some, None, Ok, refl, sym, ap, subst, ◌∙◌, arith}
use Rattle.std.specs.Prelude.{find, option_map}
use Rattle.std.specs.List.{list_any}
use Rattle.std.proofs.lemmas.Bool.{le-ltb, ne_eqb}
use Rattle.nine.specs.declared.message.RMsg.{RMsg}
use Rattle.nine.specs.declared.message.RBody.{RBody}
use Rattle.nine.specs.declared.message.RBody.TheVariants as r
use Rattle.nine.specs.declared.message.TBody.TheVariants as t
use Rattle.nine.specs.Messages.{frame, t_fields, t_frame}
use Rattle.file_tree.specs.declared.tree.FidState.{FidState}
use Rattle.key_lists.specs.Lists.{KeyList}
use Rattle.talks.specs.RpcAnswers.{answer_text}
use Rattle.talks.specs.Requests.{RpcRequest}
use Rattle.talks.specs.Requests as rpc
use Rattle.talks.specs.declared.answer.RpcAnswer.{RpcAnswer}
use Rattle.talks.specs.declared.said.Asking.{Asking}
use Rattle.talks.specs.Calls as calls
use Rattle.talks.specs.Standings.{Begun, Phase, standing, untouched, Resting, Waiting, OnServer, Kept, Standing, carried_out, in_phase, need_in, nothing_said, then_stands}
use Rattle.agent_history.specs.Deeds.{Deed, OfConnection, OfFids, OfReplies, OfTalk, Awaited, Halted, fid_of, held_by, keys_of}
use Rattle.agent_history.specs.Replies.{Wait, has_settled, too_small, waits}
use Rattle.agent_history.specs.Conversations.{Speaker, asker, asking, conv_of, fits, opened_talks, questions, raised, speakers, standing_of}
use Rattle.agent_history.specs.Requests.{Call, after, answer_read, call_of, granted, phase_of, reading_answer, reply_of}
use Rattle.agent_history.specs.Histories.{History, deeds}
use Rattle.agent_laws.proofs.ConversationLaws.{questions_rise, speakers_rise}
use Rattle.agent_laws.proofs.GrowLaws.{KeepsAny, met_any}
use Rattle.agent_laws.proofs.KindLaws.{is_met}
use Rattle.world_history.specs.declared.question.Question.{Question}
use Rattle.world_history.specs.Driving.{drive, is_refused, no_word, questions_to, reads, replies_to}
use Rattle.world_history.specs.Talking.{Asks, request_text, word_of}
use Rattle.world_promises.specs.Telling.{idle}
use Rattle.world_promises.specs.Agents.{asked_as, write_of}
use Rattle.driven_agents.specs.Idle.{IsCalm, IsIdle, Runs, read_of}
use Rattle.driven_agents.proofs.CallLemmas.{other_talk}
use Rattle.driven_agents.proofs.GrantLaws.{calm_event}
use Rattle.driven_agents.proofs.HandedLaws.{bytes_of}
use Rattle.driven_agents.proofs.IdleStillLaws.{IsStill, still_met, still_of}
use Rattle.driven_agents.proofs.RunLaws.{event_runs}
use Rattle.driven_agents.proofs.WritesLaws.{write_calm}
use Rattle.world_promises.proofs.CarriedLaws.{kept_calm, waiting_calm}
use Rattle.world_promises.proofs.FrameReads.{read_fits, read_msg, tag_again, write_fits, write_long, write_msg}
use Rattle.world_promises.proofs.EventDeeds.{frame_by}
use Rattle.world_promises.proofs.GrantedLaws.{granted_plain, read_none, rpc_open, write_none, write_replies}
use Rattle.world_promises.proofs.MetDeeds.{MetSo, asked_then, met_so, most_searches, next_asked, shut_of}
use Rattle.world_promises.proofs.OpenRpc.{carried_on, opens_rpc, phase_there, read_does, read_replies, write_does}
use Rattle.world_promises.proofs.ReadLaws.{last_found, none_put, one_put}
use Rattle.world_promises.proofs.SearchDeeds.{ran}
use Rattle.world_promises.proofs.SearchEnds.{searches_enough}
use Rattle.world_promises.proofs.SeatLaws.{all_mine}
use Rattle.world_promises.proofs.SightLaws.{Sight, comes_granted, restand, sight, sight_talk}
use Rattle.world_promises.proofs.TalkSides.{talk_going}
use Rattle.driven_agents.proofs.KeyLaws.{keys_are_keys}
use Rattle.roles.specs.declared.need.Need.TheVariants.{Nothing}
use Rattle.world_promises.proofs.ReadComes.{driven_so}

-- ---- agents

abbrev pub seat : ℕ → Speaker
seat n = record { conv = n; conn = 0; fid = 2 }

-- a conversation stands so, and is open by fid 2
abbrev pub seated : ℕ → KeyList → List Wait → Standing → Sight
seated n keys waiting s = record { keys = keys; waiting = waiting; own = rpc_open; held = 3; seated = seat n ∷ []; numbered = n + 1; stands = s }

-- no later one met anything
abbrev pub Fresh : ℕ → List Deed → Type 0
Fresh n done = (m : ℕ) → n < m → standing_of done m ≡ untouched

pub record Sits (n : ℕ) (keys : KeyList) (s : Standing) (h : History) : Type 0 where
  pub idle : IsIdle h
  pub sees : sight n (deeds h) ≡ seated n keys [] s
  pub fresh : Fresh n (deeds h)

-- its read waits for the authentication server's answer to the question of this number
pub record AsksServer (n : ℕ) (keys : KeyList) (s : Standing) (call : ℕ) (h : History) : Type 0 where
  pub idle : IsIdle h
  pub sees : sight n (deeds h) ≡ seated n keys (read_of 2 ∷ []) s
  pub fresh : Fresh n (deeds h)
  pub asks : asker (deeds h) call ≡ Some n

found_in : Sight → Option ℕ
found_in v = option_map (λ s. s.conv) (find (λ s. eqb s.conn 0 && eqb s.fid 2) v.seated)

pub there : (n : ℕ) (keys : KeyList) (waiting : List Wait) (s : Standing) (done : List Deed) → sight n done ≡ seated n keys waiting s → conv_of done 0 2 ≡ Some n
unfolding found_in
there n keys waiting s done sees = ap found_in sees

off_number : (n m : ℕ) → n < m → eqb n m ≡ false
off_number n m below = ne_eqb n m (λ same. omega (arith, below, same))

fresh_talk : (n : ℕ) (call : calls.Call) (done : List Deed) → Fresh n done → Fresh n (OfTalk n call ∷ done)
fresh_talk n call done fresh m below = ap standing (other_talk n m call done (off_number n m below)) ∙ fresh m below

fresh_then : (n : ℕ) (now later : List Deed) → ((m : ℕ) → sight m later ≡ sight m now) → Fresh n now → Fresh n later
fresh_then n now later same fresh m below = ap (λ v. v.stands) (same m) ∙ fresh m below

-- ---- a request is written

-- the write isn't refused, and the request waits
pub record IsWritten (n : ℕ) (keys : KeyList) (s : Standing) (what : Asks) (h : History) : Type 0 where
  pub taken : is_refused (replies_to (write_of 2 what) h) ≡ false
  pub sits : Sits n keys (idle s.begun (Waiting (asked_as what)) nothing_said) (drive (write_of 2 what) h)

stored_so : (n : ℕ) (keys : KeyList) (s : Standing) (request : RpcRequest) (v : Sight) → v ≡ seated n keys [] s → s.phase ≡ Resting → restand v (then_stands v.stands v.stands.phase (calls.Stored request)) ≡ seated n keys [] (idle s.begun (Waiting request) nothing_said)
stored_so n keys s request v sees rests = ap (λ v. restand v (then_stands v.stands v.stands.phase (calls.Stored request))) sees ∙ ap (λ p. seated n keys [] (then_stands s p (calls.Stored request))) rests

pub write_goes : (n : ℕ) (keys : KeyList) (s : Standing) (what : Asks) (h : History) → Sits n keys s h → s.phase ≡ Resting → length (request_text what) ≤ 8000 → rpc.request_of (request_text what) ≡ Ok (asked_as what) → Runs (drive (write_of 2 what) h) → IsWritten n keys s what h
write_goes n keys s what h sits rests short asked_ok runs =
    let text = request_text what in
    let asked = write_msg 2 text in
    let done = deeds h in
    let call : Call = call_of 0 (t_frame asked) no_word in
    let c = sits.idle.calm in
    let on = there n keys [] s done sits.sees in
    let own : fid_of done 0 2 ≡ rpc_open = ap (λ v. v.own) sits.sees in
    let free : waits done 0 ≡ [] = ap (λ v. v.waiting) sits.sees in
    let phase : phase_of done 0 2 ≡ Resting = phase_there done 2 n on ∙ (ap (λ v. v.stands.phase) sits.sees ∙ rests) in
    let none = write_none done call text (asked_as what) own phase asked_ok in
    let g = granted_plain done call asked (omega arith) (write_fits 2 text (omega arith) (omega (arith, short))) c.msize (le-ltb 8216 (length (t_frame asked)) (omega (arith, short, write_long 2 text))) refl free none in
    let does = write_does done call 2 n text (asked_as what) (opens_rpc h 2 n on) on asked_ok in
    let replies = write_replies done call text own in
    let came = comes_granted asked no_word h (OfTalk n (calls.Stored (asked_as what)) ∷ done) (Some (r.Write (length text))) sits.idle runs g does replies (write_calm 2 text h c (event_runs (write_of 2 what) h runs)) c.settled in
    record {
      taken = ap is_refused came.replies;
      sits = record {
        idle = came.idle;
        sees = came.sees n ∙ (sight_talk n (calls.Stored (asked_as what)) done ∙ stored_so n keys s (asked_as what) (sight n done) sits.sees rests);
        fresh = fresh_then n (OfTalk n (calls.Stored (asked_as what)) ∷ done) (deeds (drive (write_of 2 what) h)) came.sees (fresh_talk n (calls.Stored (asked_as what)) done sits.fresh);
      };
    }

-- ---- the request is read

-- what is met leaves the fid as it is
abbrev Held : Option FidState → ℕ → List Deed → Type 0
Held o k done = (fid_of done 0 2 ≡ o) × (held_by done 0 ≡ k)

met_held : (o : Option FidState) (k : ℕ) → KeepsAny is_met (Held o k)
met_held o k done (OfFids at deed) is p = absurd cc
met_held o k done (OfConnection at deed) is p = absurd cc
met_held o k done Halted is p = absurd cc
met_held o k done deed is p = p

same_sight : (n : ℕ) (done now : List Deed) → keys_of now ≡ keys_of done → waits now 0 ≡ waits done 0 → fid_of now 0 2 ≡ fid_of done 0 2 → held_by now 0 ≡ held_by done 0 → speakers now ≡ speakers done → opened_talks now ≡ opened_talks done → sight n now ≡ restand (sight n done) (standing_of now n)
same_sight n done now keys waiting own held seats numbered = rw (keys, waiting, own, held, seats, numbered) refl

-- how a request is carried out among some keys, where nobody is asked
abbrev pub nobody_asked : Asking
nobody_asked = record { confirm = false; needkey = false }

abbrev pub carried_among : KeyList → Option Begun → Asks → Standing
carried_among keys begun what =
    let s = carried_out (idle begun (Waiting (asked_as what)) nothing_said) (word_of what) (asked_as what) in
    ran (most_searches s.starting) keys nobody_asked s

none_asking : (done : List Deed) → IsCalm done → asking done ≡ nobody_asked
none_asking done c = let shut = shut_of done c.names in rw (shut.0, shut.1) refl

-- it is carried out: what is known behind the read that is granted
record IsRead (n : ℕ) (keys : KeyList) (begun : Option Begun) (what : Asks) (h : History) (now : List Deed) : Type 0 where
  ok : granted (deeds h) (call_of 0 (t_frame (read_msg 2)) (word_of what)) (t_frame (read_msg 2)) ≡ Ok (t.Read 2 0 8192)
  does : after (deeds h) (call_of 0 (t_frame (read_msg 2)) (word_of what)) (t.Read 2 0 8192) ≡ reading_answer (call_of 0 (t_frame (read_msg 2)) (word_of what)) n 2 8192 (standing_of now n).phase now
  told : reply_of (deeds h) (call_of 0 (t_frame (read_msg 2)) (word_of what)) (t.Read 2 0 8192) ≡ answer_read 8192 (standing_of now n).phase
  met : MetSo n (word_of what) (asked_as what) (idle begun (Waiting (asked_as what)) nothing_said) (deeds h) now
  stands : standing_of now n ≡ carried_among keys begun what
  sees : sight n now ≡ seated n keys [] (carried_among keys begun what)
  fresh : Fresh n now
  still : IsStill now

read_short : ltb 8216 (length (t_frame (read_msg 2))) ≡ false
unfolding frame
read_short = refl

read_so : (n : ℕ) (keys : KeyList) (begun : Option Begun) (what : Asks) (h : History) → Sits n keys (idle begun (Waiting (asked_as what)) nothing_said) h → need_in begun ≡ Nothing → IsRead n keys begun what h (carried_on n (word_of what) (deeds h))
read_so n keys begun what h sits none =
    let asked = read_msg 2 in
    let s = idle begun (Waiting (asked_as what)) nothing_said in
    let done = deeds h in
    let word = word_of what in
    let call : Call = call_of 0 (t_frame asked) word in
    let c = sits.idle.calm in
    let on = there n keys [] s done sits.sees in
    let own : fid_of done 0 2 ≡ rpc_open = ap (λ v. v.own) sits.sees in
    let held : held_by done 0 ≡ 3 = ap (λ v. v.held) sits.sees in
    let free : waits done 0 ≡ [] = ap (λ v. v.waiting) sits.sees in
    let stood : standing_of done n ≡ s = ap (λ v. v.stands) sits.sees in
    let waiting : (standing_of done n).phase ≡ Waiting (asked_as what) = ap (λ x. x.phase) stood in
    let refusing = read_none done call (asked_as what) own (phase_there done 2 n on ∙ waiting) free in
    let is = opens_rpc h 2 n on in
    let now = carried_on n word done in
    let met : MetSo n word (asked_as what) s done now = met_so n word (asked_as what) s done c.names stood refl (searches_enough begun (Waiting (asked_as what)) nothing_said word (asked_as what) (keys_of done) (asking done) (keys_are_keys h) none (driven_so what)) in
    let m = most_searches (carried_out s word (asked_as what)).starting in
    let stands : standing_of now n ≡ carried_among keys begun what = met.ran ∙ (ap (λ list. ran m list (asking done) (carried_out s word (asked_as what))) (ap (λ v. v.keys) sits.sees) ∙ ap (λ a. ran m keys a (carried_out s word (asked_as what))) (none_asking done c)) in
    let kept : Held rpc_open 3 now = met_any (Held rpc_open 3) (met_held rpc_open 3) n (calls.CarriedOut word) done (own, held) in
    let same : sight n now ≡ restand (sight n done) (standing_of now n) = same_sight n done now met.going.keys (ap (λ x. x.waiting) met.going.side) (kept.0 ∙ sym own) (kept.1 ∙ sym held) (ap (λ x. x.seated) met.going.side) (ap (λ x. x.numbered) met.going.side) in
    record {
      ok = granted_plain done call asked (omega arith) (read_fits 2 (omega arith)) c.msize read_short refl free refusing;
      does = read_does done call 2 n (asked_as what) is c.msize on waiting;
      told = read_replies done call 2 n (asked_as what) is c.msize on waiting;
      met = met;
      stands = stands;
      sees = same ∙ (ap (λ v. restand v (standing_of now n)) sits.sees ∙ ap (λ x. seated n keys [] x) stands);
      fresh = λ m below. ap standing (met.going.others m (off_number n m below)) ∙ sits.fresh m below;
      still = met_any IsStill still_met n (calls.CarriedOut word) done (still_of done c);
    }

abbrev read_call : Asks → Call
read_call what = call_of 0 (t_frame (read_msg 2)) (word_of what)

call_tag : (what : Asks) → (read_call what).tag ≡ 2
call_tag what = tag_again 116 2 (t_fields (t.Read 2 0 8192)) (omega arith)

-- the agent is calm behind what the read does
calm_then : (what : Asks) (h : History) (done : List Deed) → IsCalm (deeds h) → Runs (drive (reads 2 (word_of what)) h) → granted (deeds h) (read_call what) (t_frame (read_msg 2)) ≡ Ok (t.Read 2 0 8192) → after (deeds h) (read_call what) (t.Read 2 0 8192) ≡ done → IsCalm done → IsCalm (deeds (reads 2 (word_of what) ∷ h))
calm_then what h done c runs ok does calm =
    calm_event (t_frame (read_msg 2)) (word_of what) h c (event_runs (reads 2 (word_of what)) h runs)
    (subst IsCalm (sym (frame_by (deeds h) (read_call what) (t_frame (read_msg 2)) (Ok (t.Read 2 0 8192)) ok ∙ does)) calm)

-- an answer is there: it is told where it fits, and else that the read holds too little
abbrev pub told_body : Bool → RpcAnswer → RBody
told_body true answer = r.Read (answer_text answer)
told_body false answer = too_small

abbrev pub told_rests : Bool → Standing → Standing
told_rests true s = in_phase s Resting
told_rests false s = s

pub record IsTold (n : ℕ) (keys : KeyList) (s : Standing) (answer : RpcAnswer) (fit : Bool) (what : Asks) (h : History) : Type 0 where
  pub sits : Sits n keys (told_rests fit s) (drive (reads 2 (word_of what)) h)
  pub replies : map (λ (m : RMsg). m.body) (replies_to (reads 2 (word_of what)) h) ≡ told_body fit answer ∷ []
  pub questions : questions_to (reads 2 (word_of what)) h ≡ []

kept_asked : (n : ℕ) (done : List Deed) (phase : Phase) (answer : RpcAnswer) → phase ≡ Kept answer → asked_then n phase done ≡ questions done
kept_asked n done phase answer e = ap (λ p. asked_then n p done) e

abbrev taken_by : Bool → ℕ → List Deed → List Deed
taken_by true n now = OfTalk n calls.Took ∷ now
taken_by false n now = now

-- whether it fits or not
record IsTaken (n : ℕ) (keys : KeyList) (s : Standing) (fit : Bool) (h : History) (now : List Deed) : Type 0 where
  calm : IsCalm (taken_by fit n now)
  sees : sight n (taken_by fit n now) ≡ seated n keys [] (told_rests fit s)
  fresh : Fresh n (taken_by fit n now)
  unsettled : has_settled (taken_by fit n now) ≡ false
  asked : questions (taken_by fit n now) ≡ questions now

took_sees : (n : ℕ) (keys : KeyList) (s : Standing) (answer : RpcAnswer) (now : List Deed) → sight n now ≡ seated n keys [] s → s.phase ≡ Kept answer → sight n (OfTalk n calls.Took ∷ now) ≡ seated n keys [] (in_phase s Resting)
took_sees n keys s answer now sees e =
    sight_talk n calls.Took now ∙ (ap (λ v. restand v (then_stands v.stands v.stands.phase calls.Took)) sees ∙ ap (λ p. seated n keys [] (then_stands s p calls.Took)) e)

taken_so : (n : ℕ) (keys : KeyList) (begun : Option Begun) (what : Asks) (h : History) (now : List Deed) (answer : RpcAnswer) (fit : Bool) → IsCalm (deeds h) → conv_of (deeds h) 0 2 ≡ Some n → IsRead n keys begun what h now → (carried_among keys begun what).phase ≡ Kept answer → IsTaken n keys (carried_among keys begun what) fit h now
taken_so n keys begun what h now answer true c on i e =
    let s = carried_among keys begun what in
    let sees = took_sees n keys s answer now i.sees e in
    let mine = all_mine (opened_talks (deeds h)) 2 n (speakers (deeds h)) (speakers_rise h) on in
    record {
      calm = kept_calm n 2 (deeds h) (OfTalk n calls.Took ∷ now) Resting c mine (still_met now (OfTalk n calls.Took) refl i.still) (talk_going n (deeds h) now calls.Took i.met.going) (ap (λ v. v.stands.phase) sees) (λ x. cc x);
      sees = sees;
      fresh = fresh_talk n calls.Took now i.fresh;
      unsettled = ap (λ x. x.told) i.met.going.side ∙ c.settled;
      asked = refl;
    }
taken_so n keys begun what h now answer false c on i e =
    let mine = all_mine (opened_talks (deeds h)) 2 n (speakers (deeds h)) (speakers_rise h) on in
    record {
      calm = kept_calm n 2 (deeds h) now (Kept answer) c mine i.still i.met.going (ap (λ x. x.phase) i.stands ∙ e) (λ x. cc x);
      sees = i.sees;
      fresh = i.fresh;
      unsettled = ap (λ x. x.told) i.met.going.side ∙ c.settled;
      asked = refl;
    }

kept_does : (call : Call) (n : ℕ) (answer : RpcAnswer) (fit : Bool) (phase : Phase) (now : List Deed) → phase ≡ Kept answer → fits 8192 answer ≡ fit → reading_answer call n 2 8192 phase now ≡ taken_by fit n now
kept_does call n answer true phase now e fit = ap (λ p. reading_answer call n 2 8192 p now) e ∙ ap (λ b. cond b (OfTalk n calls.Took ∷ now) now) fit
kept_does call n answer false phase now e fit = ap (λ p. reading_answer call n 2 8192 p now) e ∙ ap (λ b. cond b (OfTalk n calls.Took ∷ now) now) fit

kept_replies : (answer : RpcAnswer) (fit : Bool) (phase : Phase) → phase ≡ Kept answer → fits 8192 answer ≡ fit → answer_read 8192 phase ≡ Some (told_body fit answer)
kept_replies answer true phase e fit = ap (answer_read 8192) e ∙ ap (λ b. Some (cond b (r.Read (answer_text answer)) too_small)) fit
kept_replies answer false phase e fit = ap (answer_read 8192) e ∙ ap (λ b. Some (cond b (r.Read (answer_text answer)) too_small)) fit

pub read_told : (n : ℕ) (keys : KeyList) (begun : Option Begun) (what : Asks) (h : History) (answer : RpcAnswer) (fit : Bool) → Sits n keys (idle begun (Waiting (asked_as what)) nothing_said) h → need_in begun ≡ Nothing → (carried_among keys begun what).phase ≡ Kept answer → fits 8192 answer ≡ fit → Runs (drive (reads 2 (word_of what)) h)
    → IsTold n keys (carried_among keys begun what) answer fit what h
read_told n keys begun what h answer fit sits none e fit_so runs =
    let c = sits.idle.calm in
    let on = there n keys [] (idle begun (Waiting (asked_as what)) nothing_said) (deeds h) sits.sees in
    let now = carried_on n (word_of what) (deeds h) in
    let i = read_so n keys begun what h sits none in
    let kept : (standing_of now n).phase ≡ Kept answer = ap (λ x. x.phase) i.stands ∙ e in
    let k = taken_so n keys begun what h now answer fit c on i e in
    let does = i.does ∙ kept_does (read_call what) n answer fit (standing_of now n).phase now kept fit_so in
    let body = i.told ∙ kept_replies answer fit (standing_of now n).phase kept fit_so in
    let came = comes_granted (read_msg 2) (word_of what) h (taken_by fit n now) (Some (told_body fit answer)) sits.idle runs i.ok does body (calm_then what h (taken_by fit n now) c runs i.ok does k.calm) k.unsettled in
    record {
      sits = record { idle = came.idle; sees = came.sees n ∙ k.sees; fresh = fresh_then n (taken_by fit n now) (deeds (drive (reads 2 (word_of what)) h)) came.sees k.fresh };
      replies = ap (map (λ (m : RMsg). m.body)) came.replies;
      questions = came.questions ∙ none_put (deeds h) (taken_by fit n now) sits.idle.handed (k.asked ∙ (i.met.asked ∙ kept_asked n (deeds h) (standing_of now n).phase answer kept));
    }

-- the authentication server is asked
abbrev pub asked_next : ℕ → Standing → Question
asked_next call s = record { call = call; bytes = bytes_of (need_in s.begun) }

pub record IsAsked (n : ℕ) (keys : KeyList) (s : Standing) (what : Asks) (h : History) : Type 0 where
  pub call : ℕ
  pub asking : AsksServer n keys s call (drive (reads 2 (word_of what)) h)
  pub replies : map (λ (m : RMsg). m.body) (replies_to (reads 2 (word_of what)) h) ≡ []
  pub questions : questions_to (reads 2 (word_of what)) h ≡ asked_next call s ∷ []

more_waits : Sight → Sight
more_waits v = record { keys = v.keys; waiting = v.waiting ++ read_of 2 ∷ []; own = v.own; held = v.held; seated = v.seated; numbered = v.numbered; stands = v.stands }

awaited_sees : (n : ℕ) (keys : KeyList) (s : Standing) (now : List Deed) → sight n now ≡ seated n keys [] s → sight n (OfReplies 0 (Awaited 2 2 8192) ∷ now) ≡ seated n keys (read_of 2 ∷ []) s
unfolding more_waits
awaited_sees n keys s now sees = ap more_waits sees

pub read_asks : (n : ℕ) (keys : KeyList) (begun : Option Begun) (what : Asks) (h : History) → Sits n keys (idle begun (Waiting (asked_as what)) nothing_said) h → need_in begun ≡ Nothing → (carried_among keys begun what).phase ≡ OnServer → Runs (drive (reads 2 (word_of what)) h)
    → IsAsked n keys (carried_among keys begun what) what h
read_asks n keys begun what h sits none e runs =
    let c = sits.idle.calm in
    let done = deeds h in
    let s = carried_among keys begun what in
    let on = there n keys [] (idle begun (Waiting (asked_as what)) nothing_said) done sits.sees in
    let now = carried_on n (word_of what) done in
    let i = read_so n keys begun what h sits none in
    let asks : (standing_of now n).phase ≡ OnServer = ap (λ x. x.phase) i.stands ∙ e in
    let behind = OfReplies 0 (Awaited 2 2 8192) ∷ now in
    let mine = all_mine (opened_talks done) 2 n (speakers done) (speakers_rise h) on in
    let free = ap (λ v. list_any (λ w. eqb w.fid 2) v.waiting) sits.sees in
    let calm = waiting_calm n 2 done now c mine i.still i.met.going free in
    let does : after done (read_call what) (t.Read 2 0 8192) ≡ behind = i.does ∙ (ap (λ p. reading_answer (read_call what) n 2 8192 p now) asks ∙ ap (λ tag. OfReplies 0 (Awaited tag 2 8192) ∷ now) (call_tag what)) in
    let body = i.told ∙ ap (answer_read 8192) asks in
    let came = comes_granted (read_msg 2) (word_of what) h behind None sits.idle runs i.ok does body (calm_then what h behind c runs i.ok does calm) (ap (λ x. x.told) i.met.going.side ∙ c.settled) in
    let same : questions behind ≡ questions done ++ next_asked n done ∷ [] = i.met.asked ∙ ap (λ p. asked_then n p done) asks in
    let top = raised done + 1 in
    record {
      call = top;
      asking = record {
        idle = came.idle;
        sees = came.sees n ∙ awaited_sees n keys s now i.sees;
        fresh = fresh_then n behind (deeds (drive (reads 2 (word_of what)) h)) came.sees i.fresh;
        asks = came.askers top ∙ (ap (λ qs. option_map (λ q. q.conv) (find (λ q. eqb q.call top) qs)) same ∙ last_found top (questions done) (next_asked n done) (questions_rise h) refl);
      };
      replies = ap (map (λ (m : RMsg). m.body)) came.replies;
      questions = came.questions ∙ (one_put n done behind sits.idle.handed same ∙ ap (λ x. asked_next top x ∷ []) i.stands);
    }
