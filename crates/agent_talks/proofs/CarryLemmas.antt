-- From what is kept to what deeds say of a conversation whose request was carried out.
use Rattle.std.proofs.Common.{◌≡◌, ℕ, ◌+◌, ◌≤◌, List, [], ◌∷◌, ◌++◌, Bool, true, false, cond, eqb, Option, Some, None, refl, sym, ap, subst, ◌∙◌, inl, inr}
use Rattle.std.proofs.lemmas.Bool.{cases_Bool, eq-eqb, eqb-true, false≢true}
use Rattle.key_lists.specs.Lists.{KeyList}
use Rattle.talks.specs.Calls.{AsksConsent, AsksKey, Call, CarriedOut, Chosen, Consented, Denied, Found, Heard, KeyTold, NoneServes, Offered, Picked, Roomless, Shut, Sought, Stored, Took, Unheard}
use Rattle.talks.specs.declared.said.Asking.{Asking}
use Rattle.talks.specs.Standings.{Phase, Resting, Waiting, Seeking, OnConfirm, OnNeedkey, OnServer, Kept, Standing, finds, standing}
use Rattle.conversations.specs.declared.conversation.Conversation.{Conversation}
use Rattle.conversations.specs.declared.asks.Asks.{Asks}
use Rattle.conversations.specs.Asking.{IsReady as Made, ReadyIn, asks_that}
use Rattle.agent_talks.specs.declared.carry.Step.{Step}
use Rattle.agent_talks.specs.declared.carry.Step.TheVariants as p
use Rattle.conversations.specs.Fits.{Holds, with_answer, with_request, with_search, with_search_once}
use Rattle.conversations.specs.Shown.{asks_user, has_request, is_seeking, waits_for_server}
use Rattle.agent_history.specs.Deeds.{Deed, OfTalk, Raised, keys_of}
use Rattle.agent_history.specs.Conversations.{Question, Speaker, opened_talks, prompting, questions, raised, raising, seeking, seeking_all, sought, sought_once, speakers, standing_of, talk, then_sought}
use Rattle.agent_history.specs.Conversations as told
use Rattle.agent_talks.specs.declared.held.Talks.{Talks}
use Rattle.agent_talks.specs.Kept.{kept_at, questions_in, speakers_in}
use Rattle.agent_talks.specs.Speaks.{IsKept, IsReady, OnServerNow, Readied, Speak, asks_for, carried_in, carried_talk, is_among, stands, talked}
use Rattle.agent_talks.specs.Changes.{BothGo, BothReady, Goes, IsAsking, may_take, more_asked, more_raised, next_by}
use Rattle.agent_talks.proofs.StandLemmas.{asks_last, or_cases, same}
use Rattle.agent_talks.proofs.SpeakLemmas.{AllAsked, below_opened}

-- ---- only one conversation met something

record OnlyTalk (before after : List Deed) (conv : ℕ) : Type 0 where
  pub opened : opened_talks after ≡ opened_talks before
  pub speakers : told.speakers after ≡ told.speakers before
  pub talks : (q : ℕ) → eqb conv q ≡ false → talk after q ≡ talk before q
  pub raised : told.raised after ≡ told.raised before
  pub questions : told.questions after ≡ told.questions before
  pub keys : keys_of after ≡ keys_of before
  pub files : told.asking after ≡ told.asking before

only_same : (done : List Deed) (conv : ℕ) → OnlyTalk done done conv
only_same done conv = record { opened = refl; speakers = refl; talks = λ q e. refl; raised = refl; questions = refl; keys = refl; files = refl }

only_then : (done one two : List Deed) (conv : ℕ) → OnlyTalk done one conv → OnlyTalk one two conv → OnlyTalk done two conv
only_then done one two conv first then = record {
  opened = then.opened ∙ first.opened;
  speakers = then.speakers ∙ first.speakers;
  talks = λ q e. then.talks q e ∙ first.talks q e;
  raised = then.raised ∙ first.raised;
  questions = then.questions ∙ first.questions;
  keys = then.keys ∙ first.keys;
  files = then.files ∙ first.files;
}

only_prompting : (done : List Deed) (conv : ℕ) (came : Found) → OnlyTalk done (prompting conv came done) conv
only_prompting done conv (AsksConsent key) = record { opened = refl; speakers = refl; talks = λ q e. refl; raised = refl; questions = refl; keys = refl; files = refl }
only_prompting done conv AsksKey = record { opened = refl; speakers = refl; talks = λ q e. refl; raised = refl; questions = refl; keys = refl; files = refl }
only_prompting done conv (Chosen key) = only_same done conv
only_prompting done conv Denied = only_same done conv
only_prompting done conv NoneServes = only_same done conv
only_prompting done conv (Offered list) = only_same done conv
only_prompting done conv (Picked place) = only_same done conv

only_found : (done : List Deed) (conv : ℕ) (came : Found) → OnlyTalk done (sought conv came done) conv
only_found done conv came =
    only_then done (OfTalk conv (Sought came) ∷ done) (sought conv came done) conv
    (record { opened = refl; speakers = refl; talks = λ q e. rw e refl; raised = refl; questions = refl; keys = refl; files = refl })
    (only_prompting (OfTalk conv (Sought came) ∷ done) conv came)

only_seeking : (done : List Deed) (conv : ℕ) (p : Phase) → OnlyTalk done (seeking conv p done) conv
only_seeking done conv Seeking = only_found done conv (finds (standing_of done conv) (told.asking done) (keys_of done))
only_seeking done conv Resting = only_same done conv
only_seeking done conv (Waiting request) = only_same done conv
only_seeking done conv (OnConfirm serial) = only_same done conv
only_seeking done conv OnNeedkey = only_same done conv
only_seeking done conv OnServer = only_same done conv
only_seeking done conv (Kept answer) = only_same done conv

only_once : (done : List Deed) (conv : ℕ) → OnlyTalk done (sought_once conv done) conv
only_once done conv = only_seeking done conv (standing_of done conv).phase

only_sought : (done : List Deed) (conv : ℕ) (starting : Bool) → OnlyTalk done (seeking_all starting conv done) conv
only_sought done conv false = only_once done conv
only_sought done conv true =
    let one : List Deed = sought_once conv done in
    let two : List Deed = sought_once conv one in
    only_then done one (sought_once conv two) conv (only_once done conv) (only_then one two (sought_once conv two) conv (only_once one conv) (only_once two conv))

-- the deeds after it met something and the searches that this wants
abbrev pub searched_for : List Deed → ℕ → Call → List Deed
searched_for done conv call = then_sought conv (OfTalk conv call ∷ done)

only_met : (done : List Deed) (conv : ℕ) (call : Call) → questions (OfTalk conv call ∷ done) ≡ questions done → OnlyTalk done (searched_for done conv call) conv
only_met done conv call same_questions =
    let one : List Deed = OfTalk conv call ∷ done in
    only_then done one (searched_for done conv call) conv
    (record { opened = refl; speakers = refl; talks = λ q e. rw e refl; raised = refl; questions = same_questions; keys = refl; files = refl })
    (only_sought one conv (standing_of one conv).starting)

-- what it met then
prompting_talk : (done : List Deed) (conv : ℕ) (came : Found) → talk (prompting conv came done) conv ≡ talk done conv
prompting_talk done conv (AsksConsent key) = refl
prompting_talk done conv AsksKey = refl
prompting_talk done conv (Chosen key) = refl
prompting_talk done conv Denied = refl
prompting_talk done conv NoneServes = refl
prompting_talk done conv (Offered list) = refl
prompting_talk done conv (Picked place) = refl

found_talk : (done : List Deed) (conv : ℕ) (came : Found) → talk (sought conv came done) conv ≡ Sought came ∷ talk done conv
found_talk done conv came = prompting_talk (OfTalk conv (Sought came) ∷ done) conv came ∙ rw (same conv) refl

seeking_talk : (done : List Deed) (conv : ℕ) (p : Phase) → talk (seeking conv p done) conv
    ≡ cond (is_seeking p) (Sought (finds (standing_of done conv) (told.asking done) (keys_of done)) ∷ talk done conv) (talk done conv)
seeking_talk done conv Seeking = found_talk done conv (finds (standing_of done conv) (told.asking done) (keys_of done))
seeking_talk done conv Resting = refl
seeking_talk done conv (Waiting request) = refl
seeking_talk done conv (OnConfirm serial) = refl
seeking_talk done conv OnNeedkey = refl
seeking_talk done conv OnServer = refl
seeking_talk done conv (Kept answer) = refl

once_talk : (done : List Deed) (conv : ℕ) → talk (sought_once conv done) conv ≡ with_search_once (told.asking done) (keys_of done) (talk done conv)
once_talk done conv = seeking_talk done conv (standing_of done conv).phase

-- behind other searches, which change neither the keys nor the files that are open
once_more : (done one : List Deed) (conv : ℕ) (met : List Call) → OnlyTalk done one conv → talk one conv ≡ met → talk (sought_once conv one) conv ≡ with_search_once (told.asking done) (keys_of done) met
once_more done one conv met only e =
    once_talk one conv
    ∙ (ap (λ (a : Asking). with_search_once a (keys_of one) (talk one conv)) only.files
    ∙ (ap (λ (l : KeyList). with_search_once (told.asking done) l (talk one conv)) only.keys
    ∙ ap (with_search_once (told.asking done) (keys_of done)) e))

sought_talk : (done : List Deed) (conv : ℕ) (starting : Bool) → talk (seeking_all starting conv done) conv
    ≡ cond starting (with_search_once (told.asking done) (keys_of done) (with_search_once (told.asking done) (keys_of done) (with_search_once (told.asking done) (keys_of done) (talk done conv)))) (with_search_once (told.asking done) (keys_of done) (talk done conv))
sought_talk done conv false = once_talk done conv
sought_talk done conv true =
    let one : List Deed = sought_once conv done in
    let two : List Deed = sought_once conv one in
    let met_one : List Call = with_search_once (told.asking done) (keys_of done) (talk done conv) in
    let met_two : List Call = with_search_once (told.asking done) (keys_of done) met_one in
    let only_one = only_once done conv in
    once_more done two conv met_two (only_then done one two conv only_one (only_once one conv))
    (once_more done one conv met_one only_one (once_talk done conv))

met_talk : (done : List Deed) (conv : ℕ) (call : Call) → talk (searched_for done conv call) conv ≡ with_search (told.asking done) (keys_of done) (call ∷ talk done conv)
met_talk done conv call =
    let one : List Deed = OfTalk conv call ∷ done in
    let met_it : talk one conv ≡ call ∷ talk done conv = rw (same conv) refl in
    sought_talk one conv (standing_of one conv).starting
    ∙ ap (with_search (told.asking done) (keys_of done)) met_it

raising_talk : (done : List Deed) (conv : ℕ) (p : Phase) → talk (raising conv p done) conv ≡ talk done conv
raising_talk done conv OnServer = refl
raising_talk done conv Resting = refl
raising_talk done conv (Waiting request) = refl
raising_talk done conv Seeking = refl
raising_talk done conv (OnConfirm serial) = refl
raising_talk done conv OnNeedkey = refl
raising_talk done conv (Kept answer) = refl

-- what a conversation met behind a call and all that this wants
pub talked_talk : (done : List Deed) (conv : ℕ) (call : Call) → talk (talked conv call done) conv ≡ with_search (told.asking done) (keys_of done) (call ∷ talk done conv)
talked_talk done conv call = raising_talk (searched_for done conv call) conv (standing_of (searched_for done conv call) conv).phase ∙ met_talk done conv call

-- ---- a question is raised

-- all that is kept but the questions is what deeds tell of
record Base (done : List Deed) (t : Talks) : Type 0 where
  pub opened : t.opened ≡ opened_talks done
  pub speakers : speakers_in t ≡ told.speakers done
  pub table : (conv : ℕ) → IsKept (stands done conv) (talk done conv) (kept_at t conv)
  pub fresh : (conv : ℕ) → opened_talks done ≤ conv → talk done conv ≡ []
  pub asked : AllAsked done

none_raised : (done : List Deed) (t : Talks) → Base done t → t.raised ≡ raised done → questions_in t ≡ questions done → Speak done t
none_raised done t b r q = record { opened = b.opened; speakers = b.speakers; table = b.table; raised = r; questions = q; fresh = b.fresh; asked = b.asked }

one_raised : (done : List Deed) (t : Talks) (conv : ℕ) → OnServerNow done conv → Base done t → t.raised ≡ raised done + 1 → questions_in t ≡ questions done ++ record { call = raised done + 1; conv = conv; handed = false } ∷ [] → Speak (Raised conv ∷ done) t
one_raised done t conv on b r q = record {
  opened = b.opened;
  speakers = b.speakers;
  table = b.table;
  raised = r;
  questions = q;
  fresh = b.fresh;
  asked = λ n e. or_cases (asks_for (questions done) n) (eqb conv n) (sym (asks_last (questions done) (record { call = raised done + 1; conv = conv; handed = false }) n) ∙ e)
      (λ was. record { stands = (b.asked n was).stands; phase = (b.asked n was).phase })
      (λ here. let same : conv ≡ n = eqb-true conv n here in record { stands = ap (stands done) (sym same) ∙ on.stands; phase = ap (λ (m : ℕ). (standing_of done m).phase) (sym same) ∙ on.phase });
}

raised_speak : (done : List Deed) (t : Talks) (conv : ℕ) (p : Phase) → (standing_of done conv).phase ≡ p → stands done conv ≡ true → Base done t → t.raised ≡ more_raised (waits_for_server p) (raised done) → questions_in t ≡ more_asked (waits_for_server p) (raised done) conv (questions done) → Speak (raising conv p done) t
raised_speak done t conv OnServer e there b r q = one_raised done t conv (record { stands = there; phase = e }) b r q
raised_speak done t conv Resting e there b r q = none_raised done t b r q
raised_speak done t conv (Waiting request) e there b r q = none_raised done t b r q
raised_speak done t conv Seeking e there b r q = none_raised done t b r q
raised_speak done t conv (OnConfirm serial) e there b r q = none_raised done t b r q
raised_speak done t conv OnNeedkey e there b r q = none_raised done t b r q
raised_speak done t conv (Kept answer) e there b r q = none_raised done t b r q

-- ---- it met something, and all that follows

asks_now : (talk : List Call) (o : Option Conversation) (asks : Bool) → IsKept true talk o → IsAsking o asks → asks ≡ waits_for_server (standing talk).phase
asks_now talk (Some c) asks h shows = shows talk h
asks_now talk None asks h shows = absurd h

-- what waits for the server is in no other phase
apart_from : (done : List Deed) (conv q : ℕ) → waits_for_server (standing_of done conv).phase ≡ false → OnServerNow done q → eqb conv q ≡ false
apart_from done conv q e on = elim (cases_Bool (eqb conv q)) [
  | inl is ↦ absurd (false≢true (sym e ∙ (ap (λ (n : ℕ). waits_for_server (standing_of done n).phase) (eqb-true conv q is) ∙ ap waits_for_server on.phase)))
  | inr is ↦ is
]

moved_kept : (b c : Bool) (xs ys : List Call) (o p : Option Conversation) → c ≡ b → ys ≡ xs → p ≡ o → IsKept b xs o → IsKept c ys p
moved_kept b c xs ys o p e f g h = rw (e, f, g) h

-- what was kept for a number holds now for the talk with this call and the searches that it wants
abbrev Becomes : List Deed → Talks → ℕ → Call → Type 0
Becomes done new conv call = IsKept true (with_search (told.asking done) (keys_of done) (call ∷ talk done conv)) (kept_at new conv)

met_base : (done : List Deed) (old new : Talks) (conv : ℕ) (call : Call) (asks : Bool) → questions (OfTalk conv call ∷ done) ≡ questions done → waits_for_server (standing_of done conv).phase ≡ false → Goes old new conv asks → Becomes done new conv call → stands done conv ≡ true → Speak done old → Base (searched_for done conv call) new
met_base done old new conv call asks quiet e c now there h =
    let after : List Deed = searched_for done conv call in
    let only = only_met done conv call quiet in
    let standing_same : (q : ℕ) → stands after q ≡ stands done q = λ q. ap (λ (xs : List Speaker). is_among xs q) only.speakers in
    let here : IsKept (stands after conv) (talk after conv) (kept_at new conv) =
    moved_kept true (stands after conv) (with_search (told.asking done) (keys_of done) (call ∷ talk done conv)) (talk after conv) (kept_at new conv) (kept_at new conv) (standing_same conv ∙ there) (met_talk done conv call) refl now in
    record {
      opened = c.opened ∙ (h.opened ∙ sym only.opened);
      speakers = c.speakers ∙ (h.speakers ∙ sym only.speakers);
      table = λ q. elim (cases_Bool (eqb conv q)) [
        | inl is ↦ subst (λ (n : ℕ). IsKept (stands after n) (talk after n) (kept_at new n)) (eqb-true conv q is) here
        | inr is ↦ moved_kept (stands done q) (stands after q) (talk done q) (talk after q) (kept_at old q) (kept_at new q) (standing_same q) (only.talks q is) (c.others q (λ e. false≢true (sym is ∙ eq-eqb conv q e))) (h.table q)
      ];
      fresh = λ q le.
          let le_done : opened_talks done ≤ q = subst (λ (n : ℕ). n ≤ q) only.opened le in
          only.talks q (below_opened done conv q there le_done) ∙ h.fresh q le_done;
      asked = λ q is.
          let on = h.asked q (ap (λ (qs : List Question). asks_for qs q) (sym only.questions) ∙ is) in
          let apart : eqb conv q ≡ false = apart_from done conv q e on in
          record { stands = standing_same q ∙ on.stands; phase = ap (λ (cs : List Call). (standing cs).phase) (only.talks q apart) ∙ on.phase };
    }

talked_speak : (done : List Deed) (old new : Talks) (conv : ℕ) (call : Call) (asks : Bool) → questions (OfTalk conv call ∷ done) ≡ questions done → waits_for_server (standing_of done conv).phase ≡ false → Goes old new conv asks → Becomes done new conv call → stands done conv ≡ true → Speak done old → Speak (talked conv call done) new
talked_speak done old new conv call asks quiet e c became there h =
    let after : List Deed = searched_for done conv call in
    let only = only_met done conv call quiet in
    let base = met_base done old new conv call asks quiet e c became there h in
    let still : stands after conv ≡ true = ap (λ (xs : List Speaker). is_among xs conv) only.speakers ∙ there in
    let kept : IsKept true (talk after conv) (kept_at new conv) = subst (λ (b : Bool). IsKept b (talk after conv) (kept_at new conv)) still (base.table conv) in
    let now : asks ≡ waits_for_server (standing_of after conv).phase = asks_now (talk after conv) (kept_at new conv) asks kept c.asked in
    raised_speak after new conv (standing_of after conv).phase refl still base
    (c.raised ∙ (ap (λ (b : Bool). more_raised b old.raised) now ∙ ap (more_raised (waits_for_server (standing_of after conv).phase)) (h.raised ∙ sym only.raised)))
    (c.questions ∙ (ap (λ (b : Bool). more_asked b old.raised conv (questions_in old)) now
    ∙ (ap (λ (n : ℕ). more_asked (waits_for_server (standing_of after conv).phase) n conv (questions_in old)) (h.raised ∙ sym only.raised)
    ∙ ap (more_asked (waits_for_server (standing_of after conv).phase) (raised after) conv) (h.questions ∙ sym only.questions))))

-- among these keys, and with these files
among : (done : List Deed) (old new : Talks) (conv : ℕ) (asking : Asking) (list : KeyList) (next : Asking → KeyList → List Call → List Call) → IsReady done conv list asking → BothGo (kept_at old conv) (kept_at new conv) (next asking list) → BothGo (kept_at old conv) (kept_at new conv) (next (told.asking done) (keys_of done))
among done old new conv asking list next ready goes =
    subst (λ (a : Asking). BothGo (kept_at old conv) (kept_at new conv) (next a (keys_of done))) (sym ready.files) (subst (λ (l : KeyList). BothGo (kept_at old conv) (kept_at new conv) (next asking l)) (sym ready.keys) goes)

gone_kept : (b : Bool) (talk after : List Call) (old new : Option Conversation) (next : List Call → List Call) → b ≡ true → next talk ≡ after → BothGo old new next → IsKept b talk old → IsKept true after new
gone_kept true talk after (Some c) (Some d) next e is goes h = subst (λ (t : List Call). Holds d t) is (goes talk h)
gone_kept true talk after (Some c) None next e is goes h = absurd goes
gone_kept true talk after None new next e is goes h = absurd h
gone_kept false talk after old new next e is goes h = absurd (false≢true e)

-- ---- the request is carried out

not_on_server : (p : Phase) → has_request p ≡ true → waits_for_server p ≡ false
not_on_server (Waiting request) has = refl
not_on_server Resting has = absurd (false≢true has)
not_on_server Seeking has = absurd (false≢true has)
not_on_server (OnConfirm serial) has = absurd (false≢true has)
not_on_server OnNeedkey has = absurd (false≢true has)
not_on_server OnServer has = absurd (false≢true has)
not_on_server (Kept answer) has = absurd (false≢true has)

by_phase : (done : List Deed) (new : Talks) (conv : ℕ) (word : List ℕ) (p : Phase) → has_request p ≡ true → Speak (talked conv (CarriedOut word) done) new → Speak (carried_in conv word p done) new
by_phase done new conv word (Waiting request) has h = h
by_phase done new conv word Resting has h = absurd (false≢true has)
by_phase done new conv word Seeking has h = absurd (false≢true has)
by_phase done new conv word (OnConfirm serial) has h = absurd (false≢true has)
by_phase done new conv word OnNeedkey has h = absurd (false≢true has)
by_phase done new conv word OnServer has h = absurd (false≢true has)
by_phase done new conv word (Kept answer) has h = absurd (false≢true has)

pub carried_speak : (done : List Deed) (old new : Talks) (conv : ℕ) (word : List ℕ) (asking : Asking) (list : KeyList) (asks : Bool) → has_request (standing_of done conv).phase ≡ true → IsReady done conv list asking → BothGo (kept_at old conv) (kept_at new conv) (with_request word asking list) → Goes old new conv asks → Speak done old → Speak (carried_talk conv word done) new
carried_speak done old new conv word asking list asks has ready goes c h =
    let request : with_request word (told.asking done) (keys_of done) (talk done conv) ≡ with_search (told.asking done) (keys_of done) (CarriedOut word ∷ talk done conv) =
    ap (λ (b : Bool). cond b (with_search (told.asking done) (keys_of done) (CarriedOut word ∷ talk done conv)) (talk done conv)) has in
    by_phase done new conv word (standing_of done conv).phase has
    (talked_speak done old new conv (CarriedOut word) asks refl (not_on_server (standing_of done conv).phase has) c
    (gone_kept (stands done conv) (talk done conv) _ (kept_at old conv) (kept_at new conv) (with_request word (told.asking done) (keys_of done)) ready.stands request
    (among done old new conv asking list (λ a l. with_request word a l) ready goes) (h.table conv)) ready.stands h)

-- ---- its user answered

not_asking : (p : Phase) → asks_user p ≡ true → waits_for_server p ≡ false
not_asking (OnConfirm serial) asks = refl
not_asking OnNeedkey asks = refl
not_asking (Waiting request) asks = absurd (false≢true asks)
not_asking Resting asks = absurd (false≢true asks)
not_asking Seeking asks = absurd (false≢true asks)
not_asking OnServer asks = absurd (false≢true asks)
not_asking (Kept answer) asks = absurd (false≢true asks)

pub resumed_speak : (done : List Deed) (old new : Talks) (conv : ℕ) (call : Call) (asking : Asking) (list : KeyList) (asks : Bool) → questions (OfTalk conv call ∷ done) ≡ questions done → asks_user (standing_of done conv).phase ≡ true → IsReady done conv list asking → BothGo (kept_at old conv) (kept_at new conv) (with_answer call asking list) → Goes old new conv asks → Speak done old → Speak (talked conv call done) new
resumed_speak done old new conv call asking list asks quiet asked ready goes c h =
    let answer : with_answer call (told.asking done) (keys_of done) (talk done conv) ≡ with_search (told.asking done) (keys_of done) (call ∷ talk done conv) =
    ap (λ (b : Bool). cond b (with_search (told.asking done) (keys_of done) (call ∷ talk done conv)) (call ∷ talk done conv)) asked in
    talked_speak done old new conv call asks quiet (not_asking (standing_of done conv).phase asked) c
    (gone_kept (stands done conv) (talk done conv) _ (kept_at old conv) (kept_at new conv) (with_answer call (told.asking done) (keys_of done)) ready.stands answer
    (among done old new conv asking list (λ a l. with_answer call a l) ready goes) (h.table conv)) ready.stands h

-- ---- the question to its user is made

-- a request that waits asks nobody
waiting_ready : (p : Phase) (s : Standing) (asking : Asking) (list : KeyList) (asks : Asks) → has_request p ≡ true → ReadyIn p s asking list asks
waiting_ready (Waiting request) s asking list asks has = tt
waiting_ready Resting s asking list asks has = absurd (false≢true has)
waiting_ready Seeking s asking list asks has = absurd (false≢true has)
waiting_ready (OnConfirm serial) s asking list asks has = absurd (false≢true has)
waiting_ready OnNeedkey s asking list asks has = absurd (false≢true has)
waiting_ready OnServer s asking list asks has = absurd (false≢true has)
waiting_ready (Kept answer) s asking list asks has = absurd (false≢true has)

pub request_ready : (talk : List Call) (asking : Asking) (list : KeyList) (asks : Asks) → has_request (standing talk).phase ≡ true → Made asking list (standing talk) asks
request_ready talk asking list asks has = waiting_ready (standing talk).phase (standing talk) asking list asks has

kept_ready : (b : Bool) (talk after : List Call) (o : Option Conversation) (step : Step) (asking : Asking) (list : KeyList) (asks : Asks) → b ≡ true → may_take step (standing talk).phase ≡ true → next_by step asking list talk ≡ after → BothReady o step asking list asks → IsKept b talk o → Made asking list (standing after) asks
kept_ready true talk after (Some c) step asking list asks e may is ready h = subst (λ (t : List Call). Made asking list (standing t) asks) is (ready talk h may)
kept_ready true talk after None step asking list asks e may is ready h = absurd h
kept_ready false talk after o step asking list asks e may is ready h = absurd (false≢true e)

pub carried_ready : (done : List Deed) (old : Talks) (conv : ℕ) (word : List ℕ) (asking : Asking) (list : KeyList) (asks : Asks) → stands done conv ≡ true → has_request (standing_of done conv).phase ≡ true → BothReady (kept_at old conv) (p.CarryOut word) asking list asks → Speak done old → Readied done conv (CarriedOut word) asking list asks
carried_ready done old conv word asking list asks there has ready h =
    kept_ready (stands done conv) (talk done conv) _ (kept_at old conv) (p.CarryOut word) asking list asks there has
    (ap (λ (b : Bool). cond b (with_search asking list (CarriedOut word ∷ talk done conv)) (talk done conv)) has) ready (h.table conv)

asks_so : (call : Call) (p : Phase) → asks_that call p ≡ true → asks_user p ≡ true
asks_so (Consented agrees) (OnConfirm serial) e = refl
asks_so (Consented agrees) OnNeedkey e = refl
asks_so (Consented agrees) Resting e = absurd (false≢true e)
asks_so (Consented agrees) (Waiting request) e = absurd (false≢true e)
asks_so (Consented agrees) Seeking e = absurd (false≢true e)
asks_so (Consented agrees) OnServer e = absurd (false≢true e)
asks_so (Consented agrees) (Kept answer) e = absurd (false≢true e)
asks_so KeyTold (OnConfirm serial) e = refl
asks_so KeyTold OnNeedkey e = refl
asks_so KeyTold Resting e = absurd (false≢true e)
asks_so KeyTold (Waiting request) e = absurd (false≢true e)
asks_so KeyTold Seeking e = absurd (false≢true e)
asks_so KeyTold OnServer e = absurd (false≢true e)
asks_so KeyTold (Kept answer) e = absurd (false≢true e)
asks_so (Stored request) p e = absurd (false≢true e)
asks_so (CarriedOut word) p e = absurd (false≢true e)
asks_so (Sought came) p e = absurd (false≢true e)
asks_so Shut p e = absurd (false≢true e)
asks_so (Heard bytes) p e = absurd (false≢true e)
asks_so Unheard p e = absurd (false≢true e)
asks_so Roomless p e = absurd (false≢true e)
asks_so Took p e = absurd (false≢true e)

answered : (done : List Deed) (conv : ℕ) (call : Call) (asking : Asking) (list : KeyList) → asks_that call (standing_of done conv).phase ≡ true → with_answer call asking list (talk done conv) ≡ with_search asking list (call ∷ talk done conv)
answered done conv call asking list e = ap (λ (b : Bool). cond b (with_search asking list (call ∷ talk done conv)) (call ∷ talk done conv)) (asks_so call (standing_of done conv).phase e)

pub consented_ready : (done : List Deed) (old : Talks) (conv : ℕ) (agrees : Bool) (asking : Asking) (list : KeyList) (asks : Asks) → stands done conv ≡ true → asks_that (Consented agrees) (standing_of done conv).phase ≡ true → BothReady (kept_at old conv) (p.Consent agrees) asking list asks → Speak done old → Readied done conv (Consented agrees) asking list asks
consented_ready done old conv agrees asking list asks there may ready h =
    kept_ready (stands done conv) (talk done conv) _ (kept_at old conv) (p.Consent agrees) asking list asks there may (answered done conv (Consented agrees) asking list may) ready (h.table conv)

pub told_ready : (done : List Deed) (old : Talks) (conv : ℕ) (asking : Asking) (list : KeyList) (asks : Asks) → stands done conv ≡ true → asks_that KeyTold (standing_of done conv).phase ≡ true → BothReady (kept_at old conv) p.KeyTold asking list asks → Speak done old → Readied done conv KeyTold asking list asks
told_ready done old conv asking list asks there may ready h =
    kept_ready (stands done conv) (talk done conv) _ (kept_at old conv) p.KeyTold asking list asks there may (answered done conv KeyTold asking list may) ready (h.table conv)
