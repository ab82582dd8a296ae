-- From what is kept to what deeds say of conversations and of their questions.
use Rattle.std.proofs.Common.{◌≡◌, ℕ, ◌+◌, ◌≤◌, List, [], ◌∷◌, ◌++◌, length, map, filter, Bool, true, false, cond, eqb, not, ◌&&◌, ◌||◌, ◌==◌, Option, Some, None, refl, sym, ap, subst, ◌∙◌, inl, inr, arith}
use Rattle.std.specs.Prelude.{find, is_some, option_map}
use Rattle.std.specs.List.{list_any}
use Rattle.std.proofs.lemmas.Bool.{cases_Bool, eq-eqb, eqb-true, false≢true}
use Rattle.std.proofs.lemmas.List.{length-map}
use Rattle.talks.specs.Requests.{RpcRequest}
use Rattle.talks.specs.Calls as calls
use Rattle.talks.specs.Calls.{Call}
use Rattle.talks.specs.Standings.{OnServer, Phase, Standing, standing, then_stands}
use Rattle.file_tree.specs.declared.tree.Node.TheVariants.{Rpc}
use Rattle.conversations.specs.declared.conversation.Conversation.{Conversation}
use Rattle.conversations.specs.Fits.{Holds}
use Rattle.agent_history.specs.Deeds.{Deed, FidDeed, OfFids, OfConnection, OfTalk, Versioned, Opened, Clunked, Hung, fid_of, names}
use Rattle.agent_history.specs.Conversations.{Question, Speaker, conv_of, of_speakers, opened_talks, questions, raised, speakers, standing_of, talk}
use Rattle.agent_history.specs.Conversations as told
use Rattle.agent_talks.specs.declared.speaker.Speaker.{Speaker as HeldSpeaker}
use Rattle.agent_talks.specs.declared.speaker.Leaving.{Leaving}
use Rattle.agent_talks.specs.declared.speaker.Leaving.TheVariants as l
use Rattle.agent_talks.specs.declared.held.Talks.{Talks}
use Rattle.agent_talks.specs.Kept.{kept_at, leaves, question_of, questions_in, speaker_of}
use Rattle.agent_talks.specs.Speaks.{IsKept, OnServerNow, SameTalks, Speak, asks_for, is_among, stands}
use Rattle.agent_talks.specs.Changes.{BothMet, IsNew, Leaves, Meets, Opens, leaving_at}
use Rattle.agent_talks.proofs.LeaveLemmas.{all_stay_there}
use Rattle.agent_talks.proofs.StandLemmas.{all_stay, among_last, are_numbered, filter_map_same, find_map, leaving, left_asks, left_gone, left_stays}

-- ---- what stands

pub counted : (done : List Deed) (t : Talks) → Speak done t → length t.speakers ≡ length (speakers done)
counted done t h = sym (length-map t.speakers speaker_of) ∙ ap (λ (xs : List Speaker). length xs) h.speakers

pub found_at : (done : List Deed) (t : Talks) (conn fid : ℕ) → Speak done t → option_map (λ s. s.conv) (find (λ s. s.conn == conn && s.fid == fid) t.speakers) ≡ conv_of done conn fid
found_at done t conn fid h =
    sym (mapped (find (λ s. s.conn == conn && s.fid == fid) t.speakers))
    ∙ (ap (option_map (λ (s : Speaker). s.conv)) (sym (find_map speaker_of (λ s. s.conn == conn && s.fid == fid) t.speakers))
    ∙ ap (λ (xs : List Speaker). option_map (λ (s : Speaker). s.conv) (find (λ s. s.conn == conn && s.fid == fid) xs)) h.speakers)
  where
    mapped : (o : Option HeldSpeaker) → option_map (λ (s : Speaker). s.conv) (option_map speaker_of o) ≡ option_map (λ (s : HeldSpeaker). s.conv) o
    mapped None = refl
    mapped (Some s) = refl

pub found_speaker : (done : List Deed) (t : Talks) (conv : ℕ) → Speak done t → option_map speaker_of (find (λ s. s.conv == conv) t.speakers) ≡ told.speaker_of done conv
found_speaker done t conv h = sym (find_map speaker_of (λ s. s.conv == conv) t.speakers) ∙ ap (λ (xs : List Speaker). find (λ (s : Speaker). s.conv == conv) xs) h.speakers

-- ---- nothing has changed

pub same_speak : (done : List Deed) (old new : Talks) → SameTalks old new → Speak done old → Speak done new
same_speak done old new s h = record {
  opened = s.opened ∙ h.opened;
  speakers = s.speakers ∙ h.speakers;
  table = λ q. subst (IsKept (stands done q) (talk done q)) (sym (s.table q)) (h.table q);
  raised = s.raised ∙ h.raised;
  questions = s.questions ∙ h.questions;
  fresh = h.fresh;
  asked = h.asked;
}

-- ---- a fid opens a conversation

opened_kept : (b here : Bool) (calls : List Call) (old new : Option Conversation) → b ≡ here → (b ≡ true → (calls ≡ []) × IsNew new) → (b ≡ false → new ≡ old) → (standing : Bool) → IsKept standing calls old → IsKept (standing || here) calls new
opened_kept true true calls old None e is others standing h = absurd (is refl).1
opened_kept true true calls old (Some c) e is others standing h = both standing
  where
    both : (s : Bool) → IsKept (s || true) calls (Some c)
    both true = subst (Holds c) (sym (is refl).0) (is refl).1
    both false = subst (Holds c) (sym (is refl).0) (is refl).1
opened_kept false false calls old new e is others standing h = subst (IsKept (standing || false) calls) (sym (others refl)) (both standing h)
  where
    both : (s : Bool) → IsKept s calls old → IsKept (s || false) calls old
    both true h = h
    both false h = h
opened_kept true false calls old new e is others standing h = absurd (false≢true (sym e))
opened_kept false true calls old new e is others standing h = absurd (false≢true e)

among_more : (xs : List Speaker) (s : Speaker) (q : ℕ) → is_among xs q ≡ true → is_among (xs ++ s ∷ []) q ≡ true
among_more xs s q e = among_last xs s q ∙ rw e refl

pub opened_speak : (done : List Deed) (old new : Talks) (conn fid mode : ℕ) → names Rpc (fid_of done conn fid) ≡ true → Opens old new conn fid → Speak done old → Speak (OfFids conn (Opened fid mode) ∷ done) new
opened_speak done old new conn fid mode rpc o h =
    let s : Speaker = record { conv = opened_talks done; conn = conn; fid = fid } in
    record {
      opened = rw rpc (o.opened ∙ ap (λ (n : ℕ). n + 1) h.opened);
      speakers = rw rpc (o.speakers ∙ (ap (λ (xs : List Speaker). xs ++ record { conv = old.opened; conn = conn; fid = fid } ∷ []) h.speakers ∙ ap (λ (n : ℕ). speakers done ++ record { conv = n; conn = conn; fid = fid } ∷ []) h.opened));
      table = λ q. rw (rpc, among_last (speakers done) s q)
          (opened_kept (eqb (opened_talks done) q) (eqb (opened_talks done) q) (talk done q) (kept_at old q) (kept_at new q) refl
          (λ is. (h.fresh q (omega (arith, eqb-true (opened_talks done) q is)), subst (λ (n : ℕ). IsNew (kept_at new n)) (h.opened ∙ eqb-true (opened_talks done) q is) o.this))
          (λ not_is. o.others q (λ e. false≢true (sym not_is ∙ eq-eqb (opened_talks done) q (sym h.opened ∙ e))))
          (stands done q) (h.table q));
      raised = o.raised ∙ h.raised;
      questions = o.questions ∙ (h.questions ∙ rw rpc (sym (all_stay (is_among (speakers done ++ s ∷ [])) (questions done) (λ n e. among_more (speakers done) s n (h.asked n e).stands))));
      fresh = λ q le. h.fresh q (let more : opened_talks done + 1 ≤ q = rw rpc at le in omega (arith, more));
      asked = λ q e. let were = left_asks (is_among (speakers done ++ s ∷ [])) (questions done) q (rw rpc at e) in record { stands = rw rpc were.0; phase = (h.asked q were.1).phase };
    }

-- ---- conversations end

some_kept : (b : Bool) (calls : List Call) (o : Option Conversation) → IsKept b calls o → is_some o ≡ b
some_kept true calls (Some c) h = refl
some_kept true calls None h = absurd h
some_kept false calls (Some c) h = absurd h
some_kept false calls None h = refl

-- what is left of those that a relation of deeds tells of
pub record Ends (done after : List Deed) (keep : Speaker → Bool) : Type 0 where
  pub opened : opened_talks after ≡ opened_talks done
  pub speakers : told.speakers after ≡ filter keep (told.speakers done)
  pub talks : (q : ℕ) → talk after q ≡ talk done q
  pub raised : told.raised after ≡ told.raised done
  pub questions : told.questions after ≡ of_speakers (told.speakers after) (told.questions done)

left_kept : (keep : Speaker → Bool) (done : List Deed) (q : ℕ) (o : Option Conversation) → IsKept (stands done q) (talk done q) o → IsKept (is_among (filter keep (speakers done)) q) (talk done q) (cond (list_any (leaving keep q) (speakers done)) None o)
left_kept keep done q o h = elim (cases_Bool (list_any (leaving keep q) (speakers done))) [
  | inl is ↦ rw (is, left_gone keep (speakers done) q (are_numbered done).apart is) tt
  | inr is ↦ rw (is, left_stays keep (speakers done) q is) h
]

pub leaving_map : (who : Leaving) (keep : Speaker → Bool) → ((s : HeldSpeaker) → keep (speaker_of s) ≡ not (leaves who s)) → (xs : List HeldSpeaker) (q : ℕ) → list_any (leaving keep q) (map speaker_of xs) ≡ leaving_at who xs q
leaving_map who keep every [] q = refl
leaving_map who keep every (s ∷ xs) q = step (leaves who s) (keep (speaker_of s)) (every s) (leaving_map who keep every xs q)
  where
    step : (b k : Bool) → k ≡ not b → list_any (leaving keep q) (map speaker_of xs) ≡ leaving_at who xs q → ((not k && eqb s.conv q) || list_any (leaving keep q) (map speaker_of xs)) ≡ ((b && eqb s.conv q) || leaving_at who xs q)
    step true true e more = absurd (false≢true (sym e))
    step true false e more = ap (λ (b : Bool). eqb s.conv q || b) more
    step false true e more = more
    step false false e more = absurd (false≢true e)

ended_table : (done after : List Deed) (old new : Talks) (who : Leaving) (keep : Speaker → Bool) → ((s : HeldSpeaker) → keep (speaker_of s) ≡ not (leaves who s)) → Ends done after keep → Leaves old new who → Speak done old → (q : ℕ) → IsKept (stands after q) (talk after q) (kept_at new q)
ended_table done after old new who keep every ends l h q =
    let left : list_any (leaving keep q) (speakers done) ≡ leaving_at who old.speakers q = ap (λ (xs : List Speaker). list_any (leaving keep q) xs) (sym h.speakers) ∙ leaving_map who keep every old.speakers q in
    rw (l.table q, ← left, ends.talks q, ends.speakers) (left_kept keep done q (kept_at old q) (h.table q))

pub ended_speak : (done after : List Deed) (old new : Talks) (who : Leaving) (keep : Speaker → Bool) → ((s : HeldSpeaker) → keep (speaker_of s) ≡ not (leaves who s)) → Ends done after keep → Leaves old new who → Speak done old → Speak after new
ended_speak done after old new who keep every ends l h =
    let table : (q : ℕ) → IsKept (stands after q) (talk after q) (kept_at new q) = ended_table done after old new who keep every ends l h in
    record {
      opened = l.opened ∙ (h.opened ∙ sym ends.opened);
      speakers = ap (map speaker_of) l.speakers ∙ (filter_map_same speaker_of keep (λ s. not (leaves who s)) every old.speakers ∙ (ap (filter keep) h.speakers ∙ sym ends.speakers));
      table = table;
      raised = l.raised ∙ (h.raised ∙ sym ends.raised);
      questions = elim l.questions [
        | inl none ↦
            let staying : told.speakers after ≡ told.speakers done = ends.speakers ∙ (ap (filter keep) (sym h.speakers) ∙ (sym (filter_map_same speaker_of keep (λ s. not (leaves who s)) every old.speakers) ∙ (ap (map speaker_of) (all_stay_there who old.speakers none.0) ∙ h.speakers))) in
            ap (map question_of) none.1
            ∙ (h.questions ∙ (sym (all_stay (is_among (speakers done)) (questions done) (λ n e. (h.asked n e).stands)) ∙ (ap (λ ss. of_speakers ss (questions done)) (sym staying) ∙ sym ends.questions)))
        | inr left ↦
            ap (map question_of) left
            ∙ (filter_map_same question_of (λ q. is_among (speakers after) q.conv) (λ q. is_some (kept_at new q.conv)) (λ q. sym (some_kept (stands after q.conv) (talk after q.conv) (kept_at new q.conv) (table q.conv))) old.questions.items
            ∙ (ap (of_speakers (speakers after)) h.questions ∙ sym ends.questions))
      ];
      fresh = λ q le. ends.talks q ∙ h.fresh q (subst (λ (n : ℕ). n ≤ q) ends.opened le);
      asked = λ q e.
          let were = left_asks (is_among (speakers after)) (questions done) q (ap (λ (qs : List Question). asks_for qs q) (sym ends.questions) ∙ e) in
          record { stands = were.0; phase = ap (λ (calls : List Call). (standing calls).phase) (ends.talks q) ∙ (h.asked q were.1).phase };
    }

pub clunked_speak : (done : List Deed) (old new : Talks) (conn fid : ℕ) → Leaves old new (l.Fid conn fid) → Speak done old → Speak (OfFids conn (Clunked fid) ∷ done) new
clunked_speak done old new conn fid left h =
    ended_speak done (OfFids conn (Clunked fid) ∷ done) old new (l.Fid conn fid) (λ s. not (s.conn == conn && s.fid == fid)) (λ s. refl)
    (record { opened = refl; speakers = refl; talks = λ q. refl; raised = refl; questions = refl }) left h

pub versioned_speak : (done : List Deed) (old new : Talks) (conn : ℕ) (msize : Option ℕ) → Leaves old new (l.Connection conn) → Speak done old → Speak (OfFids conn (Versioned msize) ∷ done) new
versioned_speak done old new conn msize left h =
    ended_speak done (OfFids conn (Versioned msize) ∷ done) old new (l.Connection conn) (λ s. not (s.conn == conn)) (λ s. refl)
    (record { opened = refl; speakers = refl; talks = λ q. refl; raised = refl; questions = refl }) left h

pub hung_speak : (done : List Deed) (old new : Talks) (conn : ℕ) → Leaves old new (l.Connection conn) → Speak done old → Speak (OfConnection conn Hung ∷ done) new
hung_speak done old new conn left h =
    ended_speak done (OfConnection conn Hung ∷ done) old new (l.Connection conn) (λ s. not (s.conn == conn)) (λ s. refl)
    (record { opened = refl; speakers = refl; talks = λ q. refl; raised = refl; questions = refl }) left h

-- ---- one met something

met_kept : (standing : Bool) (before : List Call) (old new : Option Conversation) (call : Call) → BothMet old new call → IsKept standing before old → IsKept standing (call ∷ before) new
met_kept true before None new call m h = absurd h
met_kept true before (Some c) None call m h = absurd m
met_kept true before (Some c) (Some d) call m h = m before h
met_kept false before None None call m h = tt
met_kept false before None (Some d) call m h = absurd m
met_kept false before (Some c) new call m h = absurd h

-- whatever it meets but the server's answer, one that waits for it goes on waiting
abbrev pub AllAsked : List Deed → Type 0
AllAsked done = (conv : ℕ) → asks_for (questions done) conv ≡ true → OnServerNow done conv

waits_on : (call : Call) (s : Standing) (p : Phase) → ((t : Standing) → t.phase ≡ OnServer → (then_stands t OnServer call).phase ≡ OnServer) → p ≡ OnServer → s.phase ≡ OnServer → (then_stands s p call).phase ≡ OnServer
waits_on call s p stays is e = subst (λ (o : Phase). (then_stands s o call).phase ≡ OnServer) (sym is) (stays s e)

pub still_asked : (done : List Deed) (conv : ℕ) (call : Call) → ((t : Standing) → t.phase ≡ OnServer → (then_stands t OnServer call).phase ≡ OnServer) → (q : ℕ) → OnServerNow done q → OnServerNow (OfTalk conv call ∷ done) q
still_asked done conv call stays q o = record {
  stands = o.stands;
  phase = elim (cases_Bool (eqb conv q)) [
    | inl is ↦ rw is (waits_on call (standing_of done q) (standing_of done q).phase stays o.phase o.phase)
    | inr is ↦ rw is o.phase
  ];
}

pub below_opened : (done : List Deed) (conv q : ℕ) → stands done conv ≡ true → opened_talks done ≤ q → eqb conv q ≡ false
below_opened done conv q e le = elim (cases_Bool (eqb conv q)) [
  | inl is ↦ absurd (omega (arith, (are_numbered done).below conv e, eqb-true conv q is, le))
  | inr is ↦ is
]

pub met_speak : (done : List Deed) (old new : Talks) (conv : ℕ) (call : Call) → Meets old new conv call → questions_in new ≡ questions (OfTalk conv call ∷ done) → AllAsked (OfTalk conv call ∷ done) → stands done conv ≡ true → Speak done old → Speak (OfTalk conv call ∷ done) new
met_speak done old new conv call m asks asked there h = record {
  opened = m.opened ∙ h.opened;
  speakers = m.speakers ∙ h.speakers;
  table = λ q. elim (cases_Bool (eqb conv q)) [
    | inl is ↦
        let e : conv ≡ q = eqb-true conv q is in
        rw is (subst (λ (n : ℕ). IsKept (stands done n) (call ∷ talk done n) (kept_at new n)) e (met_kept (stands done conv) (talk done conv) (kept_at old conv) (kept_at new conv) call m.this (h.table conv)))
    | inr is ↦ rw is (subst (IsKept (stands done q) (talk done q)) (sym (m.others q (λ e. false≢true (sym is ∙ eq-eqb conv q e)))) (h.table q))
  ];
  raised = m.raised ∙ h.raised;
  questions = asks;
  fresh = λ q le. rw (below_opened done conv q there le) (h.fresh q le);
  asked = asked;
}

pub stored_speak : (done : List Deed) (old new : Talks) (conv : ℕ) (request : RpcRequest) → Meets old new conv (calls.Stored request) → questions_in new ≡ questions_in old → stands done conv ≡ true → Speak done old → Speak (OfTalk conv (calls.Stored request) ∷ done) new
stored_speak done old new conv request m asks there h = met_speak done old new conv (calls.Stored request) m (asks ∙ h.questions) (λ q e. still_asked done conv (calls.Stored request) (λ t p. p) q (h.asked q e)) there h

pub took_speak : (done : List Deed) (old new : Talks) (conv : ℕ) → Meets old new conv calls.Took → questions_in new ≡ questions_in old → stands done conv ≡ true → Speak done old → Speak (OfTalk conv calls.Took ∷ done) new
took_speak done old new conv m asks there h = met_speak done old new conv calls.Took m (asks ∙ h.questions) (λ q e. still_asked done conv calls.Took (λ t p. p) q (h.asked q e)) there h

pub shut_speak : (done : List Deed) (old new : Talks) (conv : ℕ) → Meets old new conv calls.Shut → questions_in new ≡ questions_in old → stands done conv ≡ true → Speak done old → Speak (OfTalk conv calls.Shut ∷ done) new
shut_speak done old new conv m asks there h = met_speak done old new conv calls.Shut m (asks ∙ h.questions) (λ q e. still_asked done conv calls.Shut (λ t p. p) q (h.asked q e)) there h

-- ---- deeds that are none of a conversation

pub fids_speak : (done : List Deed) (t : Talks) (at : ℕ) (deed : FidDeed) → opened_talks (OfFids at deed ∷ done) ≡ opened_talks done → speakers (OfFids at deed ∷ done) ≡ speakers done → Speak done t → Speak (OfFids at deed ∷ done) t
fids_speak done t at deed opened standing h = record {
  opened = h.opened ∙ sym opened;
  speakers = h.speakers ∙ sym standing;
  table = λ q. rw standing (h.table q);
  raised = h.raised;
  questions = h.questions ∙ rw standing (sym (all_stay (is_among (speakers done)) (questions done) (λ n e. (h.asked n e).stands)));
  fresh = λ q le. h.fresh q (subst (λ (n : ℕ). n ≤ q) opened le);
  asked = λ q e. let were = left_asks (is_among (speakers (OfFids at deed ∷ done))) (questions done) q e in record { stands = were.0; phase = (h.asked q were.1).phase };
}
