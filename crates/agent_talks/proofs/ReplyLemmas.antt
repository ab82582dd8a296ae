-- A user replied: the question is forgotten, and its conversation goes on.
use Rattle.std.proofs.Common.{◌≡◌, ◌≤◌, ℕ, List, ◌∷◌, Bool, true, false, Option, Some, None, refl, sym, subst, ◌∙◌, inl, inr, arith}
use Rattle.std.specs.Prelude.{IfSome}
use Rattle.std.proofs.lemmas.Bool.{cases_Bool}
use Rattle.key_lists.specs.Lists.{KeyList}
use Rattle.side_files.specs.declared.line.PromptKind.{PromptKind}
use Rattle.side_files.specs.declared.line.PromptKind.TheVariants as k
use Rattle.side_files.specs.Calls as side
use Rattle.side_files.specs.Questions.{asker_of, replied}
use Rattle.talks.specs.declared.said.Asking.{Asking}
use Rattle.talks.specs.Standings.{Phase, Resting, Waiting, Seeking, OnConfirm, OnNeedkey, OnServer, Kept, Standing, then_stands}
use Rattle.conversations.specs.Shown.{asks_user}
use Rattle.conversations.specs.Asking.{SameAsks, asked_kind, asks_that}
use Rattle.agent_history.specs.Deeds.{Deed, OfPrompts, OfTalk, keys_of}
use Rattle.agent_history.specs.Conversations as told
use Rattle.agent_history.specs.Conversations.{standing_of}
use Rattle.agent_history.specs.Requests.{said_by}
use Rattle.agent_history.specs.SideFiles.{askers, prompts_of}
use Rattle.agent_talks.specs.Speaks.{IsReady, Readied, stands, talked}
use Rattle.agent_talks.proofs.GrowLemmas as grow
use Rattle.agent_talks.proofs.StandLemmas.{same}
use Rattle.agent_talks.proofs.SeekLemmas.{SameBegun, consented_begun, told_begun}
use Rattle.agent_talks.specs.Keeps.{Converses}
use Rattle.agent_talks.proofs.OtherCalls.{prompts_converses}
use Rattle.agent_talks.specs.declared.files.LineFiles.{LineFiles}
use Rattle.agent_talks.specs.Files.{Files}
use Rattle.agent_talks.specs.Asking.{AskingTalks}
use Rattle.agent_talks.specs.Asking.{AllWait, AsksBy, Tells, Waits, is_asker, times}
use Rattle.agent_talks.specs.Asking as asking
use Rattle.agent_talks.specs.declared.standing.Conversations.{Conversations}
use Rattle.agent_talks.specs.Logging.{Logs}
use Rattle.agent_talks.proofs.AskingLemmas.{AsksOn, asks_on, talked_tells}
use Rattle.agent_talks.proofs.TimesLemmas.{asker_waits, convs, replied_fewer, replied_less, times_none}
use Rattle.agent_talks.proofs.WaitLemmas.{no_more_wait}

-- ---- who asked waits for a reply to this question

pub who_asked : (done : List Deed) (kind : PromptKind) (tag conv : ℕ) → asker_of tag (prompts_of done kind) ≡ Some conv → AllWait done → Waits done kind conv
who_asked done kind tag conv e h = h.asked kind conv (asker_waits (prompts_of done kind) tag conv e)

pub replier_stands : (t : Conversations) (kind : PromptKind) (tag : ℕ) (result : Option ℕ) → ((done : List Deed) → Logs done t → result ≡ asker_of tag (prompts_of done kind)) → IfSome result (λ conv. (done : List Deed) → Logs done t → stands done conv ≡ true)
replier_stands t kind tag None is = tt
replier_stands t kind tag (Some conv) is = λ done h. (who_asked done kind tag conv (sym (is done h)) h.tells.users).stands

-- ---- behind the reply it waits for none, and all others wait as before

abbrev told_deeds : PromptKind → ℕ → List Deed → List Deed
told_deeds kind tag done = OfPrompts kind (side.Replied tag) ∷ done

fewer_by : (done : List Deed) (kind at : PromptKind) (tag n : ℕ) → times n (askers (told_deeds kind tag done) at) ≤ times n (askers done at)
fewer_by done k.Confirm k.Confirm tag n = replied_fewer (prompts_of done k.Confirm) tag n
fewer_by done k.Confirm k.Needkey tag n = omega arith
fewer_by done k.Needkey k.Confirm tag n = omega arith
fewer_by done k.Needkey k.Needkey tag n = replied_fewer (prompts_of done k.Needkey) tag n

replied_wait : (done : List Deed) (kind : PromptKind) (tag : ℕ) → AllWait done → AllWait (told_deeds kind tag done)
replied_wait done kind tag h = no_more_wait done (told_deeds kind tag done) (record {
  fewer = λ at n. fewer_by done kind at tag n;
  still = λ at n e w. record { stands = w.stands; asks = w.asks };
}) h

-- by one file at a time
one_file : (done : List Deed) (kind at : PromptKind) (conv : ℕ) → (Some kind ≡ Some at → ⊥) → is_asker done kind conv ≡ true → AllWait done → is_asker done at conv ≡ false
one_file done kind at conv apart is h = elim (cases_Bool (is_asker done at conv)) [
  | inl there ↦ absurd (apart (sym (h.asked kind conv is).asks ∙ (h.asked at conv there).asks))
  | inr none ↦ none
]

quiet_in : (done : List Deed) (kind at : PromptKind) (tag conv : ℕ) → asker_of tag (prompts_of done kind) ≡ Some conv → AllWait done → is_asker (told_deeds kind tag done) at conv ≡ false
quiet_in done k.Confirm k.Confirm tag conv e h =
    let less = replied_less (prompts_of done k.Confirm) tag conv e in
    let once = h.once k.Confirm conv in
    times_none (convs (replied tag (prompts_of done k.Confirm))) conv (omega (arith, less, once))
quiet_in done k.Needkey k.Needkey tag conv e h =
    let less = replied_less (prompts_of done k.Needkey) tag conv e in
    let once = h.once k.Needkey conv in
    times_none (convs (replied tag (prompts_of done k.Needkey))) conv (omega (arith, less, once))
quiet_in done k.Confirm k.Needkey tag conv e h = one_file done k.Confirm k.Needkey conv (λ is. cc) (asker_waits (prompts_of done k.Confirm) tag conv e) h
quiet_in done k.Needkey k.Confirm tag conv e h = one_file done k.Needkey k.Confirm conv (λ is. cc) (asker_waits (prompts_of done k.Needkey) tag conv e) h

-- ---- the call by which it goes on

no_kind : {A : Type 0} (kind : PromptKind) → None ≡ Some kind → A
no_kind kind e = absurd cc

-- it answers what was asked
pub said_asks : (p : Phase) (kind : PromptKind) (agrees : Bool) → asked_kind p ≡ Some kind → asks_that (said_by kind agrees) p ≡ true
said_asks (OnConfirm serial) k.Confirm agrees e = refl
said_asks (OnConfirm serial) k.Needkey agrees e = absurd cc
said_asks OnNeedkey k.Needkey agrees e = refl
said_asks OnNeedkey k.Confirm agrees e = absurd cc
said_asks Resting kind agrees e = no_kind kind e
said_asks (Waiting request) kind agrees e = no_kind kind e
said_asks Seeking kind agrees e = no_kind kind e
said_asks OnServer kind agrees e = no_kind kind e
said_asks (Kept answer) kind agrees e = no_kind kind e

pub waits_asks : (p : Phase) (kind : PromptKind) → asked_kind p ≡ Some kind → asks_user p ≡ true
waits_asks (OnConfirm serial) kind e = refl
waits_asks OnNeedkey kind e = refl
waits_asks Resting kind e = no_kind kind e
waits_asks (Waiting request) kind e = no_kind kind e
waits_asks Seeking kind e = no_kind kind e
waits_asks OnServer kind e = no_kind kind e
waits_asks (Kept answer) kind e = no_kind kind e

-- and behind it nobody is asked yet
said_none : (s : Standing) (p : Phase) (kind : PromptKind) (agrees : Bool) → asked_kind p ≡ Some kind → asked_kind (then_stands s p (said_by kind agrees)).phase ≡ None
said_none s (OnConfirm serial) k.Confirm agrees e = refl
said_none s (OnConfirm serial) k.Needkey agrees e = absurd cc
said_none s OnNeedkey k.Needkey agrees e = refl
said_none s OnNeedkey k.Confirm agrees e = absurd cc
said_none s Resting kind agrees e = no_kind kind e
said_none s (Waiting request) kind agrees e = no_kind kind e
said_none s Seeking kind agrees e = no_kind kind e
said_none s OnServer kind agrees e = no_kind kind e
said_none s (Kept answer) kind agrees e = no_kind kind e

goes_on : (done : List Deed) (conv : ℕ) (kind : PromptKind) (agrees : Bool) → asked_kind (standing_of done conv).phase ≡ Some kind → asked_kind (standing_of (OfTalk conv (said_by kind agrees) ∷ done) conv).phase ≡ None
goes_on done conv kind agrees e = rw (same conv) (said_none (standing_of done conv) (standing_of done conv).phase kind agrees e)

-- ---- the files

-- whether a question was made or not
pub resumed_files : (done : List Deed) (old new : LineFiles) → SameAsks old.asks new.asks → new.log ≡ old.log → new.debug ≡ old.debug → Files done old → Files done new
resumed_files done old new same log debug h = record { confirm = same.confirm ∙ h.confirm; needkey = same.needkey ∙ h.needkey; log = log ∙ h.log; debug = debug ∙ h.debug }

-- of the code alone: the question of a tag is forgotten, whatever was asked before
abbrev Forgets : PromptKind → ℕ → LineFiles → LineFiles → Type 0
Forgets kind tag old new = (done : List Deed) → Files done old → Files (OfPrompts kind (side.Replied tag) ∷ done) new

-- it is the same whether a question is asked before another is forgotten or behind it
other_order : (done : List Deed) (kind at : PromptKind) (tag conv : ℕ) (about : List ℕ) (f : LineFiles) → Files (OfPrompts kind (side.Replied tag) ∷ OfPrompts at (side.Asked conv about) ∷ done) f → Files (OfPrompts at (side.Asked conv about) ∷ OfPrompts kind (side.Replied tag) ∷ done) f
other_order done k.Confirm k.Confirm tag conv about f h = record { confirm = h.confirm; needkey = h.needkey; log = h.log; debug = h.debug }
other_order done k.Confirm k.Needkey tag conv about f h = record { confirm = h.confirm; needkey = h.needkey; log = h.log; debug = h.debug }
other_order done k.Needkey k.Confirm tag conv about f h = record { confirm = h.confirm; needkey = h.needkey; log = h.log; debug = h.debug }
other_order done k.Needkey k.Needkey tag conv about f h = record { confirm = h.confirm; needkey = h.needkey; log = h.log; debug = h.debug }

forgets_on : (now : Option PromptKind) (done : List Deed) (kind : PromptKind) (tag conv : ℕ) (mid asked new : LineFiles) → AsksBy now conv mid asked → Forgets kind tag asked new → Files done mid → AsksOn now (told_deeds kind tag done) conv mid.asks new
forgets_on None done kind tag conv mid asked new asks forgets h = forgets done (asks_on None done conv mid asked asks h)
forgets_on (Some at) done kind tag conv mid asked new asks forgets h = λ about made. other_order done kind at tag conv about new (forgets (OfPrompts at (side.Asked conv about) ∷ done) (asks done about made h))

-- what a user says begins nothing
pub said_begun : (kind : PromptKind) (agrees : Bool) → SameBegun (said_by kind agrees)
said_begun k.Confirm agrees = consented_begun agrees
said_begun k.Needkey agrees = told_begun

-- ---- all of it

pub replied_ready : (done : List Deed) (kind : PromptKind) (tag conv : ℕ) (list : KeyList) (files : Asking) → IsReady done conv list files → IsReady (OfPrompts kind (side.Replied tag) ∷ done) conv list files
replied_ready done kind tag conv list files r = record { stands = r.stands; keys = r.keys; files = r.files }

pub replied_tells : (done : List Deed) (old mid : AskingTalks) (asked new : LineFiles) (kind : PromptKind) (tag conv : ℕ) (agrees : Bool) (files : Asking) (list : KeyList) → asker_of tag (prompts_of done kind) ≡ Some conv → IsReady done conv list files
    → ((d : List Deed) → IsReady d conv list files → Converses d old.talks → asked_kind (standing_of d conv).phase ≡ Some kind → Converses (talked conv (said_by kind agrees) d) mid.talks)
    → ((d : List Deed) → IsReady d conv list files → Converses d old.talks → asked_kind (standing_of d conv).phase ≡ Some kind → Readied d conv (said_by kind agrees) files list mid.files.asks)
    → Files done mid.files → ((d : List Deed) → stands d conv ≡ true → Converses d mid.talks → AsksBy (asked_kind (standing_of d conv).phase) conv mid.files asked) → Forgets kind tag asked new
    → Tells done old → Tells (asking.replied kind tag conv agrees done) (record { talks = mid.talks; files = new })
replied_tells done old mid asked new kind tag conv agrees files list e ready kept readied lines asks forgets h =
    let told_of : List Deed = told_deeds kind tag done in
    let call = said_by kind agrees in
    let waits = who_asked done kind tag conv e h.users in
    let ready_now : IsReady told_of conv list files = replied_ready done kind tag conv list files ready in
    let before : Converses told_of old.talks = prompts_converses done old.talks kind (side.Replied tag) h.talks in
    let after : Converses (talked conv call told_of) mid.talks = kept told_of ready_now before waits.asks in
    let made : Readied told_of conv call (told.asking told_of) (keys_of told_of) mid.files.asks =
    subst (λ (a : Asking). Readied told_of conv call a (keys_of told_of) mid.files.asks) (sym ready_now.files) (subst (λ (l : KeyList). Readied told_of conv call files l mid.files.asks) (sym ready_now.keys) (readied told_of ready_now before waits.asks)) in
    let still : stands (talked conv call told_of) conv ≡ true = grow.met_keeps (λ d. stands d conv ≡ true) (grow.stands_stay conv) told_of conv call ready_now.stands in
    talked_tells told_of mid.talks mid.files.asks new conv call (λ at. quiet_in done kind at tag conv e h.users) (goes_on told_of conv kind agrees waits.asks) ready_now.stands made after
    (forgets_on (asked_kind (standing_of (talked conv call told_of) conv).phase) done kind tag conv mid.files asked new (asks (talked conv call told_of) still after) forgets lines) (replied_wait done kind tag h.users)
