-- What conversations meet by which nobody is asked.
use Rattle.std.proofs.Common.{◌≡◌, ℕ, List, ◌∷◌, Bool, true, false, cond, Option, Some, None, refl, sym, ap, subst, ◌∙◌}
use Rattle.talks.specs.declared.answer.RpcAnswer.{RpcAnswer}
use Rattle.talks.specs.Calls.{Call, Took}
use Rattle.talks.specs.Standings.{Phase, Resting, Waiting, Seeking, OnConfirm, OnNeedkey, OnServer, Kept, standing}
use Rattle.agent_history.specs.Deeds.{Deed, OfTalk}
use Rattle.agent_history.specs.Conversations as told
use Rattle.agent_history.specs.Conversations.{fits, standing_of, talk, then_took}
use Rattle.agent_talks.specs.declared.tell.Told.{Told}
use Rattle.agent_talks.specs.Speaks.{talked, talked_by}
use Rattle.agent_talks.specs.Tells.{TellsBy}
use Rattle.agent_talks.proofs.AskLemmas.{is_asked, met_rests}
use Rattle.agent_talks.proofs.StandLemmas.{same}
use Rattle.agent_talks.specs.Keeps.{Converses}
use Rattle.agent_talks.specs.Keeps.{KeepingTalks}
use Rattle.agent_talks.proofs.MeetLemmas.{Rests}
use Rattle.agent_talks.specs.declared.files.LineFiles.{LineFiles}
use Rattle.agent_talks.specs.Files.{Files}
use Rattle.agent_talks.specs.Asking.{AskingTalks}
use Rattle.agent_talks.specs.Asking.{AllWait, Tells}
use Rattle.agent_talks.proofs.WaitLemmas.{Leaves, met_wait, took_leaves}

pub met_tells : (done : List Deed) (talks : KeepingTalks) (files : LineFiles) (conv : ℕ) (call : Call) → Leaves call → Converses (OfTalk conv call ∷ done) talks → Files done files → AllWait done → Tells (OfTalk conv call ∷ done) (record { talks = talks; files = files })
met_tells done talks files conv call leaves converses lines users = record {
  talks = converses;
  files = record { confirm = lines.confirm; needkey = lines.needkey; log = lines.log; debug = lines.debug };
  users = met_wait done conv call leaves users;
}

-- ---- the authentication server is done with one

pub over_tells : (done : List Deed) (old : AskingTalks) (talks : KeepingTalks) (number : ℕ) (call : Call) → Rests done call → Leaves call → Converses (talked_by (told.asker done number) call done) talks → Tells done old → Tells (talked_by (told.asker done number) call done) (record { talks = talks; files = old.files })
over_tells done old talks number call rests leaves converses h = here (told.asker done number) refl converses
  where
    here : (o : Option ℕ) → o ≡ told.asker done number → Converses (talked_by o call done) talks → Tells (talked_by o call done) (record { talks = talks; files = old.files })
    here None is now = record { talks = now; files = h.files; users = h.users }
    here (Some conv) is now =
        let on = is_asked done old.talks.talks number conv is h.talks.speak in
        let rest = rests conv on.phase in
        let met_it : talk (OfTalk conv call ∷ done) conv ≡ call ∷ talk done conv = rw (same conv) refl in
        let rested : (standing_of (OfTalk conv call ∷ done) conv).phase ≡ Kept rest.0 = ap (λ (cs : List Call). (standing cs).phase) met_it ∙ rest.1 in
        let alone : talked conv call done ≡ OfTalk conv call ∷ done = met_rests done conv call rest.0 rested in
        subst (λ (d : List Deed). Tells d (record { talks = talks; files = old.files })) (sym alone)
        (met_tells done talks old.files conv call leaves (subst (λ (d : List Deed). Converses d talks) alone now) h.files h.users)

-- ---- an answer is read

took_tells : (done : List Deed) (old : AskingTalks) (talks : KeepingTalks) (conv count : ℕ) (answer : RpcAnswer) → Converses (then_took conv count answer done) talks → Tells done old → Tells (then_took conv count answer done) (record { talks = talks; files = old.files })
took_tells done old talks conv count answer converses h = here (fits count answer) converses
  where
    here : (b : Bool) → Converses (cond b (OfTalk conv Took ∷ done) done) talks → Tells (cond b (OfTalk conv Took ∷ done) done) (record { talks = talks; files = old.files })
    here true now = met_tells done talks old.files conv Took took_leaves now h.files h.users
    here false now = record { talks = now; files = h.files; users = h.users }

pub told_tells : (p : Phase) (done : List Deed) (old : AskingTalks) (talks : KeepingTalks) (conv count : ℕ) (result : Option Told) → Tells done old → TellsBy (λ d. Converses d talks) p done conv count result → TellsBy (λ d. Tells d (record { talks = talks; files = old.files })) p done conv count result
told_tells (Kept answer) done old talks conv count result h t = (t.0, took_tells done old talks conv count answer t.1 h)
told_tells Resting done old talks conv count result h t = (t.0, record { talks = t.1; files = h.files; users = h.users })
told_tells (Waiting request) done old talks conv count result h t = (t.0, record { talks = t.1; files = h.files; users = h.users })
told_tells Seeking done old talks conv count result h t = (t.0, record { talks = t.1; files = h.files; users = h.users })
told_tells (OnConfirm serial) done old talks conv count result h t = (t.0, record { talks = t.1; files = h.files; users = h.users })
told_tells OnNeedkey done old talks conv count result h t = (t.0, record { talks = t.1; files = h.files; users = h.users })
told_tells OnServer done old talks conv count result h t = (t.0, record { talks = t.1; files = h.files; users = h.users })
