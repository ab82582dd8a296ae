-- What conversations meet, with the connections that they keep.
use Rattle.std.proofs.Common.{◌≡◌, ℕ, List, ◌∷◌, true, Option, Some, None, refl, sym, ap, subst, ◌∙◌}
use Rattle.talks.specs.declared.answer.RpcAnswer.{RpcAnswer}
use Rattle.talks.specs.Calls as calls
use Rattle.talks.specs.Calls.{Call}
use Rattle.conversations.specs.Shown.{asks_user}
use Rattle.talks.specs.Standings.{Phase, Resting, Waiting, Seeking, OnConfirm, OnNeedkey, OnServer, Kept, standing}
use Rattle.agent_history.specs.Deeds.{Deed, OfTalk}
use Rattle.agent_history.specs.Conversations as told
use Rattle.agent_history.specs.Conversations.{raised, stands, standing_of, talk}
use Rattle.agent_talks.specs.declared.held.Talks.{Talks}
use Rattle.agent_talks.specs.declared.tell.Told.{Told}
use Rattle.agent_talks.specs.Speaks.{Speak, carried_talk, talked, talked_by}
use Rattle.agent_talks.specs.Tells.{TellsBy}
use Rattle.agent_talks.proofs.AskLemmas.{is_asked, met_rests}
use Rattle.agent_talks.proofs.GrowLemmas as grow
use Rattle.agent_talks.specs.Calls.{Calls, ended_if}
use Rattle.agent_talks.specs.Keeps.{Converses, EndsAsker, EndsOver, Keeps, is_over_at}
use Rattle.agent_talks.specs.Keeps.{KeepingTalks}
use Rattle.agent_talks.proofs.CallLemmas.{same}
use Rattle.agent_talks.proofs.SeekLemmas.{SameBegun}
use Rattle.agent_talks.proofs.TalkLemmas.{answered_keeps, carried_keeps, talk_keeps, then_took_keeps}

-- what conversations and calls become
both : (done : List Deed) (new : KeepingTalks) (t : Talks) (c : Calls) → new.talks ≡ t → new.calls ≡ c → Speak done t → Keeps done c → Converses done new
both done new t c e f h k = record { speak = subst (λ (u : Talks). Speak done u) (sym e) h; calls = subst (λ (d : Calls). Keeps done d) (sym f) k }

-- ---- a request is carried out

pub carried_converses : (done : List Deed) (old new : KeepingTalks) (t : Talks) (conv behind : ℕ) (word : List ℕ) → stands done conv ≡ true → behind ≡ raised done → Speak (carried_talk conv word done) t → EndsOver conv behind t old.calls new.calls → new.talks ≡ t → Converses done old → Converses (carried_talk conv word done) new
carried_converses done old new t conv behind word there b speak ends e h =
    let after : List Deed = carried_talk conv word done in
    let still : stands after conv ≡ true = grow.carried_keeps (λ d. stands d conv ≡ true) (grow.stands_stay conv) done conv word there in
    both after new t (ended_if (is_over_at after conv) conv behind old.calls) e (ends after still speak) speak
    (subst (λ (n : ℕ). Keeps after (ended_if (is_over_at after conv) conv n old.calls)) (sym b) (carried_keeps done old.calls conv word h.calls))

-- ---- its user answered, or can't

pub answered_converses : (done : List Deed) (old new : KeepingTalks) (t : Talks) (conv behind : ℕ) (call : Call) → SameBegun call → asks_user (standing_of done conv).phase ≡ true → stands done conv ≡ true → behind ≡ raised done → Speak (talked conv call done) t → EndsOver conv behind t old.calls new.calls → new.talks ≡ t → Converses done old → Converses (talked conv call done) new
answered_converses done old new t conv behind call begun asks there b speak ends e h =
    let after : List Deed = talked conv call done in
    let still : stands after conv ≡ true = grow.met_keeps (λ d. stands d conv ≡ true) (grow.stands_stay conv) done conv call there in
    both after new t (ended_if (is_over_at after conv) conv behind old.calls) e (ends after still speak) speak
    (subst (λ (n : ℕ). Keeps after (ended_if (is_over_at after conv) conv n old.calls)) (sym b) (answered_keeps done old.calls conv call begun asks h.calls))

pub shut_converses : (done : List Deed) (old new : KeepingTalks) (t : Talks) (conv behind : ℕ) → stands done conv ≡ true → behind ≡ raised done → Speak (OfTalk conv calls.Shut ∷ done) t → EndsOver conv behind t old.calls new.calls → new.talks ≡ t → Converses done old → Converses (OfTalk conv calls.Shut ∷ done) new
shut_converses done old new t conv behind there b speak ends e h =
    let after : List Deed = OfTalk conv calls.Shut ∷ done in
    both after new t (ended_if (is_over_at after conv) conv behind old.calls) e (ends after there speak) speak
    (subst (λ (n : ℕ). Keeps after (ended_if (is_over_at after conv) conv n old.calls)) (sym b) (talk_keeps done old.calls conv calls.Shut h.calls))

-- ---- the authentication server is done with

-- there is an answer then, and nothing else follows
over_keeps : (done : List Deed) (c : Calls) (conv : ℕ) (call : Call) (answer : RpcAnswer) → (standing (call ∷ talk done conv)).phase ≡ Kept answer → Keeps done c → Keeps (talked conv call done) (ended_if (is_over_at (talked conv call done) conv) conv (raised done) c)
over_keeps done c conv call answer rest k =
    let met_it : talk (OfTalk conv call ∷ done) conv ≡ call ∷ talk done conv = rw (same conv) refl in
    let rests : (standing_of (OfTalk conv call ∷ done) conv).phase ≡ Kept answer = ap (λ (cs : List Call). (standing cs).phase) met_it ∙ rest in
    subst (λ (d : List Deed). Keeps d (ended_if (is_over_at d conv) conv (raised done) c)) (sym (met_rests done conv call answer rests)) (talk_keeps done c conv call k)

abbrev pub Rests : List Deed → Call → Type 0
Rests done call = (conv : ℕ) → (standing_of done conv).phase ≡ OnServer → (answer : RpcAnswer) × ((standing (call ∷ talk done conv)).phase ≡ Kept answer)

pub met_converses : (done : List Deed) (old new : KeepingTalks) (t : Talks) (asker : Option ℕ) (behind number : ℕ) (call : Call) → Rests done call → asker ≡ told.asker done number → behind ≡ raised done
    → Speak (talked_by (told.asker done number) call done) t → EndsAsker asker behind t old.calls new.calls → new.talks ≡ t → Converses done old → Converses (talked_by (told.asker done number) call done) new
met_converses done old new t asker behind number call rests is b speak ends e h =
    subst (λ (o : Option ℕ). Converses (talked_by o call done) new) is (here asker is (subst (λ (o : Option ℕ). Speak (talked_by o call done) t) (sym is) speak) ends)
  where
    here : (o : Option ℕ) → o ≡ told.asker done number → Speak (talked_by o call done) t → EndsAsker o behind t old.calls new.calls → Converses (talked_by o call done) new
    here None f now kept = both done new t old.calls e kept now h.calls
    here (Some conv) f now kept =
        let after : List Deed = talked conv call done in
        let on = is_asked done old.talks number conv f h.speak in
        let rest = rests conv on.phase in
        let still : stands after conv ≡ true = grow.met_keeps (λ d. stands d conv ≡ true) (grow.stands_stay conv) done conv call on.stands in
        both after new t (ended_if (is_over_at after conv) conv behind old.calls) e (kept after still now) now
        (subst (λ (n : ℕ). Keeps after (ended_if (is_over_at after conv) conv n old.calls)) (sym b) (over_keeps done old.calls conv call rest.0 rest.1 h.calls))

-- ---- an answer is read

pub told_converses : (p : Phase) (done : List Deed) (new : KeepingTalks) (conv count : ℕ) (result : Option Told) → Keeps done new.calls → TellsBy (λ d. Speak d new.talks) p done conv count result → TellsBy (λ d. Converses d new) p done conv count result
told_converses (Kept answer) done new conv count result k t = (t.0, record { speak = t.1; calls = then_took_keeps done new.calls conv count answer k })
told_converses Resting done new conv count result k t = (t.0, record { speak = t.1; calls = k })
told_converses (Waiting request) done new conv count result k t = (t.0, record { speak = t.1; calls = k })
told_converses Seeking done new conv count result k t = (t.0, record { speak = t.1; calls = k })
told_converses (OnConfirm serial) done new conv count result k t = (t.0, record { speak = t.1; calls = k })
told_converses OnNeedkey done new conv count result k t = (t.0, record { speak = t.1; calls = k })
told_converses OnServer done new conv count result k t = (t.0, record { speak = t.1; calls = k })
