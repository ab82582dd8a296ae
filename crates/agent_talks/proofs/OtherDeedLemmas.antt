-- Deeds of other kinds leave the lines of ends as they are.
use Rattle.std.proofs.Common.{map, not, ◌≡◌, ◌≤◌, ℕ, List, [], ◌∷◌, ◌++◌, Bool, true, false, cond, eqb, ◌||◌, filter, Option, None, refl, sym, ap, subst, ◌∙◌, arith}
use Rattle.std.specs.List.{list_any}
use Rattle.std.proofs.lemmas.Bool.{eqb-true, false≢true}
use Rattle.file_tree.specs.declared.tree.Node.TheVariants.{Rpc}
use Rattle.side_files.specs.Calls as side
use Rattle.side_files.specs.declared.line.PromptKind.TheVariants as k
use Rattle.talks.specs.declared.answer.RpcAnswer.{RpcAnswer}
use Rattle.talks.specs.Calls.{Call, Took}
use Rattle.talks.specs.Standings.{Phase, Resting, Waiting, Seeking, OnConfirm, OnNeedkey, OnServer, Kept, Standing, then_stands}
use Rattle.agent_history.specs.Deeds.{Deed, OfFids, OfPrompts, OfTalk, Opened, fid_of, names}
use Rattle.agent_history.specs.Conversations.{Speaker, all_withdrawn, fits, opened_talks, speakers, standing_of, talk, then_took}
use Rattle.agent_talks.specs.Speaks.{Speak, is_among, stands}
use Rattle.agent_talks.specs.declared.tell.Told.{Told}
use Rattle.agent_talks.specs.Tells.{TellsBy}
use Rattle.agent_talks.specs.declared.speaker.Speaker.{Speaker as HeldSpeaker}
use Rattle.agent_talks.specs.declared.speaker.Leaving.{Leaving}
use Rattle.agent_talks.specs.Kept.{leaves, speaker_of}
use Rattle.agent_talks.specs.Changes.{left_at, leaving_at}
use Rattle.agent_talks.proofs.LeaveLemmas.{left_same}
use Rattle.agent_talks.proofs.SpeakLemmas.{leaving_map}
use Rattle.agent_talks.proofs.StandLemmas.{among_last, are_numbered, leaving, left_among, left_gone, or_cases}
use Rattle.agent_talks.specs.Asking.{AskingTalks}
use Rattle.agent_talks.specs.Asking.{Tells}
use Rattle.agent_talks.specs.declared.standing.Conversations.{Conversations}
use Rattle.agent_talks.specs.Ahead.{EndLines, line_in}
use Rattle.agent_talks.specs.Logging.{HasItsLine, Logs, line_at, with_ends}
use Rattle.agent_talks.proofs.EndedLaws.{stays_over}
use Rattle.agent_talks.proofs.LineLemmas.{line_stays}
use Rattle.agent_talks.proofs.LogLemmas.{AllHaveLines, LineFor, line_for}
use Rattle.agent_talks.proofs.TemplateLaws.{carries_out, its_own, keeps_template}

-- ---- nobody meets anything

-- where those who stand stood, and met nothing since
pub still_have : (done after : List Deed) (old new : Conversations) → ((q : ℕ) → stands after q ≡ true → stands done q ≡ true) → ((q : ℕ) → talk after q ≡ talk done q) → ((q : ℕ) → stands after q ≡ true → line_at new q ≡ line_at old q) → AllHaveLines done old → AllHaveLines after new
still_have done after old new stood talks lines ends q there = line_for (talk done q) (talk after q) q (line_at old q) (line_at new q) (talks q) (lines q there) (ends q (stood q there))

-- ---- one is opened

-- one that is new wasn't begun, so it needs no line
pub opened_have : (done : List Deed) (t : Conversations) (conn fid mode : ℕ) → Speak done t.talks → names Rpc (fid_of done conn fid) ≡ true → AllHaveLines done t → AllHaveLines (OfFids conn (Opened fid mode) ∷ done) t
opened_have done t conn fid mode h named ends q there = or_cases (is_among (speakers done) q) (eqb (opened_talks done) q) (sym among ∙ there) (λ stood. ends q stood) (λ is. new q (eqb-true (opened_talks done) q is))
  where
    next : Speaker
    next = record { conv = opened_talks done; conn = conn; fid = fid }

    among : stands (OfFids conn (Opened fid mode) ∷ done) q ≡ (is_among (speakers done) q || eqb (opened_talks done) q)
    among = ap (λ (b : Bool). is_among (cond b (speakers done ++ next ∷ []) (speakers done)) q) named ∙ among_last (speakers done) next q

    new : (q : ℕ) → opened_talks done ≡ q → HasItsLine done t q
    new q e = line_for [] (talk done q) q (line_at t q) (line_at t q) (h.fresh q (subst (λ (n : ℕ). opened_talks done ≤ n) e (omega arith))) refl tt

-- ---- some are given up

pub withdrawn_talks : (convs : List ℕ) (done : List Deed) (q : ℕ) → talk (all_withdrawn convs done) q ≡ talk done q
withdrawn_talks [] done q = refl
withdrawn_talks (conv ∷ more) done q = withdrawn_talks more (OfPrompts k.Needkey (side.Withdrawn conv) ∷ OfPrompts k.Confirm (side.Withdrawn conv) ∷ done) q

pub withdrawn_speakers : (convs : List ℕ) (done : List Deed) → speakers (all_withdrawn convs done) ≡ speakers done
withdrawn_speakers [] done = refl
withdrawn_speakers (conv ∷ more) done = withdrawn_speakers more (OfPrompts k.Needkey (side.Withdrawn conv) ∷ OfPrompts k.Confirm (side.Withdrawn conv) ∷ done)

-- who stands among those that are left stood
left_stood : (keep : Speaker → Bool) (xs : List Speaker) (q : ℕ) → is_among (filter keep xs) q ≡ true → is_among xs q ≡ true
left_stood keep xs q there = by_standing (is_among xs q) refl
  where
    by_standing : (b : Bool) → is_among xs q ≡ b → b ≡ true
    by_standing true e = refl
    by_standing false e = absurd (false≢true (sym (left_among keep xs q e) ∙ there))

-- the lines of those who stand are kept
pub left_lines : (done after : List Deed) (convs : List ℕ) (who : Leaving) (keep : Speaker → Bool) → ((s : HeldSpeaker) → keep (speaker_of s) ≡ not (leaves who s)) → (xs ys : List HeldSpeaker) → map speaker_of xs ≡ speakers done → filter (λ s. leaves who s) ys ≡ filter (λ s. leaves who s) xs
    → speakers after ≡ filter keep (speakers (all_withdrawn convs done)) → (old new : EndLines) → ((q : ℕ) → line_in new q ≡ left_at who ys q (line_in old q)) → (q : ℕ) → stands after q ≡ true → line_in new q ≡ line_in old q
left_lines done after convs who keep every xs ys e same left old new kept q there =
    kept q ∙ (left_same who ys xs q (line_in old q) same ∙ by_leaving (leaving_at who xs q) refl)
  where
    left_now : is_among (filter keep (speakers done)) q ≡ true
    left_now = ap (λ (ss : List Speaker). is_among (filter keep ss) q) (sym (withdrawn_speakers convs done)) ∙ (ap (λ (ss : List Speaker). is_among ss q) (sym left) ∙ there)

    all_leaving : list_any (leaving keep q) (speakers done) ≡ leaving_at who xs q
    all_leaving = ap (λ (ss : List Speaker). list_any (leaving keep q) ss) (sym e) ∙ leaving_map who keep every xs q

    by_leaving : (b : Bool) → leaving_at who xs q ≡ b → cond b None (line_in old q) ≡ line_in old q
    by_leaving true is = absurd (false≢true (sym (left_gone keep (speakers done) q (are_numbered done).apart (all_leaving ∙ is)) ∙ left_now))
    by_leaving false is = refl

pub left_have : (done after : List Deed) (convs : List ℕ) (keep : Speaker → Bool) (old new : Conversations) → speakers after ≡ filter keep (speakers (all_withdrawn convs done)) → ((q : ℕ) → talk after q ≡ talk (all_withdrawn convs done) q) → ((q : ℕ) → stands after q ≡ true → line_at new q ≡ line_at old q)
    → AllHaveLines done old → AllHaveLines after new
left_have done after convs keep old new left talks kept ends =
    still_have done after old new
    (λ q there. ap (λ (xs : List Speaker). is_among xs q) (sym (withdrawn_speakers convs done)) ∙ left_stood keep (speakers (all_withdrawn convs done)) q (ap (λ (xs : List Speaker). is_among xs q) (sym left) ∙ there))
    (λ q. talks q ∙ withdrawn_talks convs done q) kept ends

-- ---- a conversation meets what begins nothing

pub met_have : (done : List Deed) (t : Conversations) (conv : ℕ) (call : Call) → carries_out call ≡ false → AllHaveLines done t → AllHaveLines (OfTalk conv call ∷ done) t
met_have done t conv call begins ends q there = by_number (eqb conv q) refl
  where
    was : Standing
    was = standing_of done q

    met_it : LineFor (call ∷ talk done q) q (line_at t q)
    met_it = line_stays q (line_at t q) was (then_stands was was.phase call) (λ over. stays_over was call over) (keeps_template _ was call begins (its_own was.begun)) (ends q there)

    by_number : (b : Bool) → eqb conv q ≡ b → LineFor (cond b (call ∷ talk done q) (talk done q)) q (line_at t q)
    by_number true e = met_it
    by_number false e = ends q there

-- ---- an answer is read

took_have : (done : List Deed) (t : Conversations) (conv count : ℕ) (answer : RpcAnswer) → AllHaveLines done t → AllHaveLines (then_took conv count answer done) t
took_have done t conv count answer ends = by_size (fits count answer)
  where
    by_size : (b : Bool) → AllHaveLines (cond b (OfTalk conv Took ∷ done) done) t
    by_size true = met_have done t conv Took refl ends
    by_size false = ends

pub told_logs : (p : Phase) (done : List Deed) (old : Conversations) (asking : AskingTalks) (conv count : ℕ) (result : Option Told) → Logs done old → TellsBy (λ d. Tells d asking) p done conv count result → TellsBy (λ d. Logs d (with_ends asking old.ends)) p done conv count result
told_logs (Kept answer) done old asking conv count result h t = (t.0, record { tells = t.1; ends = took_have done old conv count answer h.ends })
told_logs Resting done old asking conv count result h t = (t.0, record { tells = t.1; ends = h.ends })
told_logs (Waiting request) done old asking conv count result h t = (t.0, record { tells = t.1; ends = h.ends })
told_logs Seeking done old asking conv count result h t = (t.0, record { tells = t.1; ends = h.ends })
told_logs (OnConfirm serial) done old asking conv count result h t = (t.0, record { tells = t.1; ends = h.ends })
told_logs OnNeedkey done old asking conv count result h t = (t.0, record { tells = t.1; ends = h.ends })
told_logs OnServer done old asking conv count result h t = (t.0, record { tells = t.1; ends = h.ends })
