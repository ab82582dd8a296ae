-- What a conversation meets, with the questions to its user.
use Rattle.std.proofs.Common.{◌≡◌, ◌≤◌, ◌==◌, ◌++◌, ℕ, List, [], ◌∷◌, Bool, true, false, eqb, Option, Some, None, refl, sym, ap, subst, ◌∙◌, inl, inr, ◌||◌}
use Rattle.std.specs.List.{list_any}
use Rattle.std.proofs.lemmas.Bool.{cases_Bool, eq-eqb, eqb-true, false≢true}
use Rattle.attr_tuples.specs.Printing.{public_text}
use Rattle.key_lists.specs.Lists.{KeyEntry, KeyList}
use Rattle.roles.specs.Templates.{shown_text}
use Rattle.side_files.specs.declared.line.PromptKind.{PromptKind}
use Rattle.side_files.specs.declared.line.PromptKind.TheVariants as k
use Rattle.side_files.specs.Calls as side
use Rattle.agent_talks.specs.Keeps.{KeepingTalks}
use Rattle.side_files.specs.Questions.{Questions, asked_by}
use Rattle.talks.specs.Calls.{AsksConsent, AsksKey, Call, CarriedOut, Chosen, Denied, Found, NoneServes, Offered, Picked, Sought}
use Rattle.talks.specs.declared.said.Asking.{Asking}
use Rattle.attr_tuples.specs.declared.attr.Attr.{Attr}
use Rattle.key_lists.specs.CtlLines.{few_of}
use Rattle.roles.specs.declared.answer.StartFault.{StartFault}
use Rattle.roles.specs.declared.need.Need.{Need}
use Rattle.roles.specs.declared.need.Need.TheVariants.{Nothing, Key, Offers, Pick, Exchange}
use Rattle.talks.specs.Requests.{RpcRequest, starts, reads, writes, asks_info, asks_attributes}
use Rattle.talks.specs.declared.answer.RpcAnswer.{RpcAnswer}
use Rattle.talks.specs.Protocols.{refuses}
use Rattle.talks.specs.Standings.{Begun, Phase, Resting, Waiting, Seeking, OnConfirm, OnNeedkey, OnServer, Kept, Standing, begin_once, carried_out, finds, if_begun, phase_after, standing, start_by, started, template_of, then_stands}
use Rattle.conversations.specs.Shown.{has_request}
use Rattle.conversations.specs.declared.asks.Asks.{Asks}
use Rattle.conversations.specs.declared.conversation.Conversation.{Conversation}
use Rattle.conversations.specs.Asking as C
use Rattle.conversations.specs.Asking.{IsMade, ReadyIn, SameAsks, asked_kind}
use Rattle.conversations.specs.Fits.{Shows}
use Rattle.agent_history.specs.Deeds.{Deed, OfPrompts, OfTalk, is_debug, keys_of}
use Rattle.agent_history.specs.Conversations as told
use Rattle.agent_history.specs.Conversations.{prompting, raising, seeking, seeking_all, sought_once, standing_of, talk, then_sought}
use Rattle.agent_history.specs.SideFiles.{askers, log_of, prompts_of}
use Rattle.agent_talks.specs.Speaks.{IsKept, IsReady, Readied, carried_in, carried_talk, stands, talked}
use Rattle.agent_talks.proofs.CarryLemmas.{talked_talk}
use Rattle.agent_talks.proofs.GrowLemmas as grow
use Rattle.agent_talks.specs.Keeps.{Converses}
use Rattle.agent_talks.specs.declared.files.LineFiles.{LineFiles}
use Rattle.agent_talks.specs.Asked.{Asked, AskedIn, NoneAsked, asks_about}
use Rattle.agent_talks.specs.Files.{Files, asked_in}
use Rattle.agent_talks.proofs.AskedLemmas.{talked_asks}
use Rattle.agent_talks.specs.Asking.{AskingTalks}
use Rattle.agent_talks.specs.Asking.{AllWait, AsksBy, Tells, Waits, is_asker, times}
use Rattle.agent_talks.proofs.TimesLemmas.{asked_last, asked_once, convs}

-- ---- by which file the user of one that stands is to be asked

pub shown_kind : (b : Bool) (xs : List Call) (o : Option Conversation) (c : Conversation) (kind : Option PromptKind) → b ≡ true → o ≡ Some c → Shows c (λ s. asked_kind s.phase) kind → IsKept b xs o → kind ≡ asked_kind (standing xs).phase
shown_kind true xs (Some d) c kind e is shows h = shows xs (subst (λ (o : Option Conversation). IsKept true xs o) is h)
shown_kind true xs None c kind e is shows h = absurd h
shown_kind false xs o c kind e is shows h = absurd (false≢true e)

pub no_kind : (b : Bool) (xs : List Call) (o : Option Conversation) → b ≡ true → o ≡ None → IsKept b xs o → None ≡ asked_kind (standing xs).phase
no_kind true xs None e is h = absurd h
no_kind true xs (Some c) e is h = absurd cc
no_kind false xs o e is h = absurd (false≢true e)

-- ---- files of lines

files_by : (one two : List Deed) (f : LineFiles) → prompts_of two k.Confirm ≡ prompts_of one k.Confirm → prompts_of two k.Needkey ≡ prompts_of one k.Needkey → log_of two ≡ log_of one → is_debug two ≡ is_debug one → Files one f → Files two f
files_by one two f confirm needkey log debug h = record { confirm = h.confirm ∙ sym confirm; needkey = h.needkey ∙ sym needkey; log = h.log ∙ sym log; debug = h.debug ∙ sym debug }

pub same_files : (done : List Deed) (f : LineFiles) (asks : Asks) → SameAsks f.asks asks → Files done f → Files done (record { asks = asks; log = f.log; debug = f.debug })
same_files done f asks same h = record { confirm = same.confirm ∙ h.confirm; needkey = same.needkey ∙ h.needkey; log = h.log; debug = h.debug }

talked_log : (done : List Deed) (conv : ℕ) (call : Call) → log_of (talked conv call done) ≡ log_of done
talked_log done conv call = grow.met_keeps (λ d. log_of d ≡ log_of done) (record { met = λ d conv call h. h; asked = λ d kind call h. h; raised = λ d conv h. h }) done conv call refl

talked_debug : (done : List Deed) (conv : ℕ) (call : Call) → is_debug (talked conv call done) ≡ is_debug done
talked_debug done conv call = grow.met_keeps (λ d. is_debug d ≡ is_debug done) (record { met = λ d conv call h. h; asked = λ d kind call h. h; raised = λ d conv h. h }) done conv call refl

-- the question is made
made_confirm : (p : Phase) (s : Standing) (files : Asking) (list : KeyList) (asks : Asks) (key : KeyEntry) → Some k.Confirm ≡ asked_kind p → ReadyIn p s files list asks → finds s files list ≡ AsksConsent key → IsMade asks.confirm (public_text key.tuple)
made_confirm (OnConfirm serial) s files list asks key e ready found = ready key found
made_confirm OnNeedkey s files list asks key e ready found = absurd cc
made_confirm Resting s files list asks key e ready found = absurd cc
made_confirm (Waiting request) s files list asks key e ready found = absurd cc
made_confirm Seeking s files list asks key e ready found = absurd cc
made_confirm OnServer s files list asks key e ready found = absurd cc
made_confirm (Kept answer) s files list asks key e ready found = absurd cc

made_needkey : (p : Phase) (s : Standing) (files : Asking) (list : KeyList) (asks : Asks) → Some k.Needkey ≡ asked_kind p → ReadyIn p s files list asks → IsMade asks.needkey (shown_text (template_of s.begun))
made_needkey OnNeedkey s files list asks e ready = ready
made_needkey (OnConfirm serial) s files list asks e ready = absurd cc
made_needkey Resting s files list asks e ready = absurd cc
made_needkey (Waiting request) s files list asks e ready = absurd cc
made_needkey Seeking s files list asks e ready = absurd cc
made_needkey OnServer s files list asks e ready = absurd cc
made_needkey (Kept answer) s files list asks e ready = absurd cc

-- ---- the questions behind what a conversation met

-- so the files are behind it, where its question, if it is to ask, was made
abbrev pub AsksOn : Option PromptKind → List Deed → ℕ → Asks → LineFiles → Type 0
AsksOn None done conv asks new = Files done new
AsksOn (Some kind) done conv asks new = (about : List ℕ) → IsMade (asked_in kind asks) about → Files (OfPrompts kind (side.Asked conv about) ∷ done) new

pub asks_on : (kind : Option PromptKind) (done : List Deed) (conv : ℕ) (mid new : LineFiles) → AsksBy kind conv mid new → Files done mid → AsksOn kind done conv mid.asks new
asks_on None done conv mid new same h = subst (λ (f : LineFiles). Files done f) (sym same) h
asks_on (Some kind) done conv mid new asks h = λ about made. asks done about made h

by_kind : (done : List Deed) (asks : Asks) (new : LineFiles) (conv : ℕ) (call : Call) (kind : Option PromptKind) → kind ≡ asked_kind (standing_of (talked conv call done) conv).phase → AskedIn kind done (talked conv call done) conv (standing_of (talked conv call done) conv)
    → C.IsReady (told.asking done) (keys_of done) (standing_of (talked conv call done) conv) asks → AsksOn kind done conv asks new → Files (talked conv call done) new
by_kind done asks new conv call None e none ready h = files_by done (talked conv call done) new none.confirm none.needkey (talked_log done conv call) (talked_debug done conv call) h
by_kind done asks new conv call (Some k.Confirm) e asked ready h =
    let now = standing_of (talked conv call done) conv in
    let made = made_confirm now.phase now (told.asking done) (keys_of done) asks asked.0 e ready asked.1.found in
    let about = public_text asked.0.tuple in
    files_by (OfPrompts k.Confirm (side.Asked conv about) ∷ done) (talked conv call done) new asked.1.confirm asked.1.needkey (talked_log done conv call) (talked_debug done conv call) (h about made)
by_kind done asks new conv call (Some k.Needkey) e asked ready h =
    let now = standing_of (talked conv call done) conv in
    let made = made_needkey now.phase now (told.asking done) (keys_of done) asks e ready in
    let about = shown_text (template_of now.begun) in
    files_by (OfPrompts k.Needkey (side.Asked conv about) ∷ done) (talked conv call done) new asked.confirm asked.needkey (talked_log done conv call) (talked_debug done conv call) (h about made)

-- ---- who waits

any_last : (xs ys : List ℕ) (n : ℕ) → list_any (λ m. m == n) (xs ++ ys) ≡ (list_any (λ m. m == n) xs || list_any (λ m. m == n) ys)
any_last [] ys n = refl
any_last (x ∷ xs) ys n = ap (λ (b : Bool). (x == n) || b) (any_last xs ys n) ∙ swap (x == n) (list_any (λ m. m == n) xs) (list_any (λ m. m == n) ys)
  where
    swap : (a b c : Bool) → (a || (b || c)) ≡ ((a || b) || c)
    swap true b c = refl
    swap false b c = refl

or_false : (b : Bool) → (b || false) ≡ b
or_false true = refl
or_false false = refl

one_more : (q : Questions) (conv : ℕ) (line : List ℕ) (n : ℕ) → list_any (λ m. m == n) (convs (asked_by conv line q)) ≡ (list_any (λ m. m == n) (convs q) || (conv == n))
one_more q conv line n =
    ap (list_any (λ m. m == n)) (asked_last q conv line)
    ∙ (any_last (convs q) (conv ∷ []) n ∙ ap (λ (b : Bool). list_any (λ m. m == n) (convs q) || b) (or_false (conv == n)))

-- whoever waits behind it waited before, or is the one that met something, which waits by this file
abbrev Either : List Deed → List Deed → ℕ → PromptKind → ℕ → Type 0
Either before after conv kind n = is_asker after kind n ≡ true → (is_asker before kind n ≡ true → Waits after kind n) → ((conv == n) ≡ true → asked_kind (standing_of after conv).phase ≡ Some kind → Waits after kind n) → Waits after kind n

pub or_cases : {A : Type 0} (b c : Bool) → (b || c) ≡ true → (b ≡ true → A) → (c ≡ true → A) → A
or_cases true c e first second = first refl
or_cases false c e first second = second e

same_askers : (before after : List Deed) (kind : PromptKind) (n : ℕ) → prompts_of after kind ≡ prompts_of before kind → is_asker after kind n ≡ is_asker before kind n
same_askers before after kind n e = ap (λ (q : Questions). list_any (λ m. m == n) (convs q)) e

more_askers : (before after : List Deed) (kind : PromptKind) (conv : ℕ) (about : List ℕ) (n : ℕ) → prompts_of after kind ≡ asks_about conv about (prompts_of before kind) → is_asker after kind n ≡ (is_asker before kind n || (conv == n))
more_askers before after kind conv about n e = ap (λ (q : Questions). list_any (λ m. m == n) (convs q)) e ∙ one_more (prompts_of before kind) conv _ n

who_waits : (before after : List Deed) (conv : ℕ) (now kind : PromptKind) (n : ℕ) → asked_kind (standing_of after conv).phase ≡ Some now → AskedIn (Some now) before after conv (standing_of after conv) → Either before after conv kind n
who_waits before after conv k.Confirm k.Confirm n e asked = λ is was one. or_cases (is_asker before k.Confirm n) (conv == n) (sym (more_askers before after k.Confirm conv _ n asked.1.confirm) ∙ is) was (λ here. one here e)
who_waits before after conv k.Confirm k.Needkey n e asked = λ is was one. was (sym (same_askers before after k.Needkey n asked.1.needkey) ∙ is)
who_waits before after conv k.Needkey k.Confirm n e asked = λ is was one. was (sym (same_askers before after k.Confirm n asked.confirm) ∙ is)
who_waits before after conv k.Needkey k.Needkey n e asked = λ is was one. or_cases (is_asker before k.Needkey n) (conv == n) (sym (more_askers before after k.Needkey conv _ n asked.needkey) ∙ is) was (λ here. one here e)

none_waits : (before after : List Deed) (conv : ℕ) (kind : PromptKind) (n : ℕ) → NoneAsked before after → Either before after conv kind n
none_waits before after conv k.Confirm n none = λ is was one. was (sym (same_askers before after k.Confirm n none.confirm) ∙ is)
none_waits before after conv k.Needkey n none = λ is was one. was (sym (same_askers before after k.Needkey n none.needkey) ∙ is)

all_wait : (before after : List Deed) (conv : ℕ) (now : Option PromptKind) (kind : PromptKind) (n : ℕ) → asked_kind (standing_of after conv).phase ≡ now → AskedIn now before after conv (standing_of after conv) → Either before after conv kind n
all_wait before after conv None kind n e asked = none_waits before after conv kind n asked
all_wait before after conv (Some now) kind n e asked = who_waits before after conv now kind n e asked

-- what all others met is as before
apart_prompting : (done : List Deed) (conv n : ℕ) (came : Found) → talk (prompting conv came done) n ≡ talk done n
apart_prompting done conv n (AsksConsent key) = refl
apart_prompting done conv n AsksKey = refl
apart_prompting done conv n (Chosen key) = refl
apart_prompting done conv n Denied = refl
apart_prompting done conv n NoneServes = refl
apart_prompting done conv n (Offered list) = refl
apart_prompting done conv n (Picked place) = refl

apart_met : (done : List Deed) (conv n : ℕ) (call : Call) → eqb conv n ≡ false → talk (OfTalk conv call ∷ done) n ≡ talk done n
apart_met done conv n call e = rw e refl

apart_seeking : (done : List Deed) (conv n : ℕ) (p : Phase) → eqb conv n ≡ false → talk (seeking conv p done) n ≡ talk done n
apart_seeking done conv n Seeking e =
    let came = finds (standing_of done conv) (told.asking done) (keys_of done) in
    apart_prompting (OfTalk conv (Sought came) ∷ done) conv n came ∙ apart_met done conv n (Sought came) e
apart_seeking done conv n Resting e = refl
apart_seeking done conv n (Waiting request) e = refl
apart_seeking done conv n (OnConfirm serial) e = refl
apart_seeking done conv n OnNeedkey e = refl
apart_seeking done conv n OnServer e = refl
apart_seeking done conv n (Kept answer) e = refl

apart_once : (done : List Deed) (conv n : ℕ) → eqb conv n ≡ false → talk (sought_once conv done) n ≡ talk done n
apart_once done conv n e = apart_seeking done conv n (standing_of done conv).phase e

apart_all : (done : List Deed) (conv n : ℕ) (starting : Bool) → eqb conv n ≡ false → talk (seeking_all starting conv done) n ≡ talk done n
apart_all done conv n false e = apart_once done conv n e
apart_all done conv n true e =
    let one : List Deed = sought_once conv done in
    apart_once (sought_once conv one) conv n e ∙ (apart_once one conv n e ∙ apart_once done conv n e)

apart_raising : (done : List Deed) (conv n : ℕ) (p : Phase) → talk (raising conv p done) n ≡ talk done n
apart_raising done conv n OnServer = refl
apart_raising done conv n Resting = refl
apart_raising done conv n (Waiting request) = refl
apart_raising done conv n Seeking = refl
apart_raising done conv n (OnConfirm serial) = refl
apart_raising done conv n OnNeedkey = refl
apart_raising done conv n (Kept answer) = refl

pub talk_apart : (done : List Deed) (conv n : ℕ) (call : Call) → eqb conv n ≡ false → talk (talked conv call done) n ≡ talk done n
talk_apart done conv n call e =
    let one : List Deed = OfTalk conv call ∷ done in
    apart_raising (then_sought conv one) conv n (standing_of (then_sought conv one) conv).phase
    ∙ (apart_all one conv n (standing_of one conv).starting e ∙ apart_met done conv n call e)

no_way : (kind : PromptKind) → None ≡ Some kind → ⊥
no_way kind e = cc

-- each waits once by a file, where the one that met something didn't wait
abbrev pub IsQuiet : List Deed → ℕ → Type 0
IsQuiet done conv = (kind : PromptKind) → is_asker done kind conv ≡ false

same_times : (before after : List Deed) (kind : PromptKind) (n : ℕ) → prompts_of after kind ≡ prompts_of before kind → times n (askers before kind) ≤ 1 → times n (askers after kind) ≤ 1
same_times before after kind n e once = subst (λ (q : Questions). times n (convs q) ≤ 1) (sym e) once

more_times : (before after : List Deed) (kind : PromptKind) (conv : ℕ) (about : List ℕ) (n : ℕ) → prompts_of after kind ≡ asks_about conv about (prompts_of before kind) → is_asker before kind conv ≡ false → times n (askers before kind) ≤ 1 → times n (askers after kind) ≤ 1
more_times before after kind conv about n e quiet once = subst (λ (q : Questions). times n (convs q) ≤ 1) (sym e) (asked_once (prompts_of before kind) conv _ n quiet once)

all_once : (before after : List Deed) (conv : ℕ) (now : Option PromptKind) (kind : PromptKind) (n : ℕ) → AskedIn now before after conv (standing_of after conv) → IsQuiet before conv → times n (askers before kind) ≤ 1 → times n (askers after kind) ≤ 1
all_once before after conv None k.Confirm n none quiet once = same_times before after k.Confirm n none.confirm once
all_once before after conv None k.Needkey n none quiet once = same_times before after k.Needkey n none.needkey once
all_once before after conv (Some k.Confirm) k.Confirm n asked quiet once = more_times before after k.Confirm conv _ n asked.1.confirm (quiet k.Confirm) once
all_once before after conv (Some k.Confirm) k.Needkey n asked quiet once = same_times before after k.Needkey n asked.1.needkey once
all_once before after conv (Some k.Needkey) k.Confirm n asked quiet once = same_times before after k.Confirm n asked.confirm once
all_once before after conv (Some k.Needkey) k.Needkey n asked quiet once = more_times before after k.Needkey conv _ n asked.needkey (quiet k.Needkey) once

-- ---- it is so of all behind what a conversation met whose user wasn't asked

talked_wait : (done : List Deed) (conv : ℕ) (call : Call) → IsQuiet done conv → Asked done (talked conv call done) conv → stands done conv ≡ true → AllWait done → AllWait (talked conv call done)
talked_wait done conv call quiet asked there h =
    let after : List Deed = talked conv call done in
    record {
      asked = λ kind n is. all_wait done after conv (asked_kind (standing_of after conv).phase) kind n refl asked is
          (λ was. elim (cases_Bool (eqb conv n)) [
            | inl here ↦ absurd (false≢true (sym (quiet kind) ∙ (ap (λ (m : ℕ). is_asker done kind m) (eqb-true conv n here) ∙ was)))
            | inr apart ↦ record {
              stands = grow.met_keeps (λ d. stands d n ≡ true) (grow.stands_stay n) done conv call (h.asked kind n was).stands;
              asks = ap (λ (xs : List Call). asked_kind (standing xs).phase) (talk_apart done conv n call apart) ∙ (h.asked kind n was).asks;
            }
          ])
          (λ here asks_so. record {
            stands = grow.met_keeps (λ d. stands d n ≡ true) (grow.stands_stay n) done conv call (subst (λ (m : ℕ). stands done m ≡ true) (eqb-true conv n here) there);
            asks = subst (λ (m : ℕ). asked_kind (standing_of after m).phase ≡ Some kind) (eqb-true conv n here) asks_so;
          });
      once = λ kind n. all_once done after conv (asked_kind (standing_of after conv).phase) kind n asked quiet (h.once kind n);
    }

pub talked_tells : (done : List Deed) (talks : KeepingTalks) (asks : Asks) (new : LineFiles) (conv : ℕ) (call : Call) → IsQuiet done conv → asked_kind (standing_of (OfTalk conv call ∷ done) conv).phase ≡ None → stands done conv ≡ true → Readied done conv call (told.asking done) (keys_of done) asks
    → Converses (talked conv call done) talks → AsksOn (asked_kind (standing_of (talked conv call done) conv).phase) done conv asks new → AllWait done → Tells (talked conv call done) (record { talks = talks; files = new })
talked_tells done talks asks new conv call quiet first there ready converses files users =
    let after : List Deed = talked conv call done in
    let asked : Asked done after conv = talked_asks done conv call first in
    let ready_now : C.IsReady (told.asking done) (keys_of done) (standing_of after conv) asks = subst (λ (xs : List Call). C.IsReady (told.asking done) (keys_of done) (standing xs) asks) (sym (talked_talk done conv call)) ready in
    record {
      talks = converses;
      files = by_kind done asks new conv call (asked_kind (standing_of after conv).phase) refl asked ready_now files;
      users = talked_wait done conv call quiet asked there users;
    }

-- who isn't to be asked doesn't wait
pub is_quiet : (done : List Deed) (conv : ℕ) → asked_kind (standing_of done conv).phase ≡ None → AllWait done → IsQuiet done conv
is_quiet done conv none h = λ kind. elim (cases_Bool (is_asker done kind conv)) [
  | inl is ↦ absurd (no_way kind (sym none ∙ (h.asked kind conv is).asks))
  | inr not_so ↦ not_so
]

-- ---- a request is carried out

request_none : (p : Phase) → has_request p ≡ true → asked_kind p ≡ None
request_none (Waiting request) has = refl
request_none Resting has = refl
request_none Seeking has = refl
request_none (OnConfirm serial) has = absurd (false≢true has)
request_none OnNeedkey has = absurd (false≢true has)
request_none OnServer has = refl
request_none (Kept answer) has = refl

-- behind a request that is carried out nobody is asked yet
moved_none : (need : Need) (answer : RpcAnswer) → asked_kind (phase_after need answer) ≡ None
moved_none Nothing answer = refl
moved_none (Key template) answer = refl
moved_none (Offers template) answer = refl
moved_none (Pick templates) answer = refl
moved_none (Exchange request shape) answer = refl

started_none : (s : Standing) (word : List ℕ) (template : List Attr) (fault : Option StartFault) → asked_kind (started s word template fault).phase ≡ None
started_none s word template (Some fault) = refl
started_none s word template None = moved_none _ _

start_none : (s : Standing) (word : List ℕ) (template : Option (List Attr)) → asked_kind (start_by s word template).phase ≡ None
start_none s word None = refl
start_none s word (Some template) = started_none s word template (refuses template)

once_none : (s : Standing) (word text : List ℕ) (begun : Option Begun) → asked_kind (begin_once s word text begun).phase ≡ None
once_none s word text (Some b) = refl
once_none s word text None = start_none s word (few_of text)

begun_none : (s : Standing) (begun : Option Begun) (next : Begun → Standing) → ((b : Begun) → asked_kind (next b).phase ≡ None) → asked_kind (if_begun s begun next).phase ≡ None
begun_none s None next none = refl
begun_none s (Some b) next none = none b

carried_none : (s : Standing) (word : List ℕ) (request : RpcRequest) → asked_kind (carried_out s word request).phase ≡ None
carried_none s word (starts text) = once_none s word text s.begun
carried_none s word reads = begun_none s s.begun _ (λ b. moved_none _ _)
carried_none s word (writes message) = begun_none s s.begun _ (λ b. moved_none _ _)
carried_none s word asks_info = refl
carried_none s word asks_attributes = begun_none s s.begun _ (λ b. refl)

same_conv : (n : ℕ) → eqb n n ≡ true
same_conv n = eq-eqb n n refl

met_none : (done : List Deed) (conv : ℕ) (word : List ℕ) (p : Phase) → (standing_of done conv).phase ≡ p → has_request p ≡ true → asked_kind (standing_of (OfTalk conv (CarriedOut word) ∷ done) conv).phase ≡ None
met_none done conv word (Waiting request) e has = rw (same_conv conv) (ap (λ (p : Phase). asked_kind (then_stands (standing_of done conv) p (CarriedOut word)).phase) e ∙ carried_none (standing_of done conv) word request)
met_none done conv word Resting e has = absurd (false≢true has)
met_none done conv word Seeking e has = absurd (false≢true has)
met_none done conv word (OnConfirm serial) e has = absurd (false≢true has)
met_none done conv word OnNeedkey e has = absurd (false≢true has)
met_none done conv word OnServer e has = absurd (false≢true has)
met_none done conv word (Kept answer) e has = absurd (false≢true has)

-- the deeds behind it, by whether there is a request
carried_is : (done : List Deed) (conv : ℕ) (word : List ℕ) (p : Phase) → has_request p ≡ true → carried_in conv word p done ≡ talked conv (CarriedOut word) done
carried_is done conv word (Waiting request) has = refl
carried_is done conv word Resting has = absurd (false≢true has)
carried_is done conv word Seeking has = absurd (false≢true has)
carried_is done conv word (OnConfirm serial) has = absurd (false≢true has)
carried_is done conv word OnNeedkey has = absurd (false≢true has)
carried_is done conv word OnServer has = absurd (false≢true has)
carried_is done conv word (Kept answer) has = absurd (false≢true has)

uncarried_is : (done : List Deed) (conv : ℕ) (word : List ℕ) (p : Phase) → has_request p ≡ false → carried_in conv word p done ≡ done
uncarried_is done conv word (Waiting request) none = absurd (false≢true (sym none))
uncarried_is done conv word Resting none = refl
uncarried_is done conv word Seeking none = refl
uncarried_is done conv word (OnConfirm serial) none = refl
uncarried_is done conv word OnNeedkey none = refl
uncarried_is done conv word OnServer none = refl
uncarried_is done conv word (Kept answer) none = refl

pub uncarried_tells : (done : List Deed) (t : AskingTalks) (conv : ℕ) (word : List ℕ) → has_request (standing_of done conv).phase ≡ false → Tells done t → Tells (carried_talk conv word done) t
uncarried_tells done t conv word none h = subst (λ (d : List Deed). Tells d t) (sym (uncarried_is done conv word (standing_of done conv).phase none)) h

pub carried_tells : (done : List Deed) (old : AskingTalks) (talks : KeepingTalks) (asks : Asks) (new : LineFiles) (conv : ℕ) (word : List ℕ) (files : Asking) (list : KeyList) → IsReady done conv list files → has_request (standing_of done conv).phase ≡ true → Readied done conv (CarriedOut word) files list asks → SameAsks old.files.asks asks
    → Converses (carried_talk conv word done) talks → ((d : List Deed) → Converses d talks → stands d conv ≡ true → AsksBy (asked_kind (standing_of d conv).phase) conv (record { asks = asks; log = old.files.log; debug = old.files.debug }) new) → Tells done old → Tells (carried_talk conv word done) (record { talks = talks; files = new })
carried_tells done old talks asks new conv word files list ready has readied same converses asked h =
    let is : carried_talk conv word done ≡ talked conv (CarriedOut word) done = carried_is done conv word (standing_of done conv).phase has in
    let now : Converses (talked conv (CarriedOut word) done) talks = subst (λ (d : List Deed). Converses d talks) is converses in
    let still : stands (talked conv (CarriedOut word) done) conv ≡ true = grow.met_keeps (λ d. stands d conv ≡ true) (grow.stands_stay conv) done conv (CarriedOut word) ready.stands in
    let made : Readied done conv (CarriedOut word) (told.asking done) (keys_of done) asks =
    subst (λ (a : Asking). Readied done conv (CarriedOut word) a (keys_of done) asks) (sym ready.files) (subst (λ (l : KeyList). Readied done conv (CarriedOut word) files l asks) (sym ready.keys) readied) in
    subst (λ (d : List Deed). Tells d (record { talks = talks; files = new })) (sym is)
    (talked_tells done talks asks new conv (CarriedOut word) (is_quiet done conv (request_none (standing_of done conv).phase has) h.users) (met_none done conv word (standing_of done conv).phase refl has) ready.stands made now
    (asks_on (asked_kind (standing_of (talked conv (CarriedOut word) done) conv).phase) done conv (record { asks = asks; log = old.files.log; debug = old.files.debug }) new (asked (talked conv (CarriedOut word) done) now still) (same_files done old.files asks same h.files)) h.users)
