-- A request that is carried out together with the searches that it wants, and how it is put back.
use Rattle.std.proofs.Common.{◌≡◌, ℕ, List, ◌∷◌, Bool, true, false, Option, Some, None, Result, Ok, Err, OnErr, refl, sym, ap, subst, ◌∙◌, if◌then◌else◌}
use Rattle.attr_tuples.specs.declared.attr.Attr.{Attr}
use Rattle.key_lists.specs.Lists.{KeyList}
use Rattle.key_lists.specs.CtlLines.{few_of}
use Rattle.roles.specs.declared.answer.StartFault.{StartFault}
use Rattle.roles.specs.declared.need.Need.{Need}
use Rattle.roles.specs.declared.need.Need.TheVariants.{Nothing, Key, Offers, Pick, Exchange}
use Rattle.roles.specs.Answers.{IsKey, IsOffers, IsPick, is_sought}
use Rattle.roles.specs.Talks.{get, give, Call as Move}
use Rattle.talks.specs.Requests.{RpcRequest, starts, reads, writes, asks_info, asks_attributes}
use Rattle.talks.specs.declared.answer.RpcAnswer.{RpcAnswer}
use Rattle.talks.specs.declared.answer.RpcAnswer.TheVariants as a
use Rattle.talks.specs.Answers.{attributes, move_answer}
use Rattle.talks.specs.Calls.{Call, CarriedOut}
use Rattle.talks.specs.declared.said.Asking.{Asking}
use Rattle.talks.specs.Protocols.{answers, needs, puts, refuses}
use Rattle.talks.specs.Standings.{Begun, Phase, Waiting, Kept, Standing, begin, begin_once, carried_out, if_begun, make_move, moved, need_in, phase_after, standing, start_by, started, taken_back, then_stands, with_move}
use Rattle.conversations.specs.declared.conversation.Conversation.{Conversation}
use Rattle.conversations.specs.declared.phase.Phase.{Phase as HeldPhase}
use Rattle.conversations.specs.declared.phase.Phase.TheVariants as held
use Rattle.conversations.specs.declared.phase.Stored.{Stored}
use Rattle.conversations.specs.Fits.{BothBegun, Carries, Fits, Holds, IsIdle, Lacks, Meets, PutsBack, Shaken, searched, with_request, with_search}
use Rattle.conversations.specs.Meanings.{phase_of}
use Rattle.conversations.specs.Shown.{has_request, is_seeking}
use Rattle.talks.proofs.Laws.{offers_stay, undone_needs}
use Rattle.conversations.proofs.SearchLemmas.{standing_searched}
use Rattle.conversations.proofs.WaitLaws.{waits_idle}

-- ---- a request is carried out

pub performed : (c : Conversation) (word : List ℕ) (asking : Asking) (list : KeyList) (talk : List Call) (request : RpcRequest) → (standing talk).phase ≡ Waiting request → Fits c (searched asking list (carried_out (standing talk) word request)) → Holds c (with_request word asking list talk)
performed c word asking list talk request waits fits =
    let came : Fits c (searched asking list (standing (CarriedOut word ∷ talk))) = subst (λ (phase : Phase). Fits c (searched asking list (then_stands (standing talk) phase (CarriedOut word)))) (sym waits) fits in
    let holds : Holds c (with_search asking list (CarriedOut word ∷ talk)) = subst (λ (s : Standing). Fits c s) (sym (standing_searched asking list (CarriedOut word ∷ talk))) came in
    subst (λ (test : Bool). Holds c (if test then with_search asking list (CarriedOut word ∷ talk) else talk)) (sym (ap has_request waits)) holds

pub performed_is : (word : List ℕ) (asking : Asking) (list : KeyList) (talk : List Call) (request : RpcRequest) → (standing talk).phase ≡ Waiting request → standing (with_request word asking list talk) ≡ searched asking list (carried_out (standing talk) word request)
performed_is word asking list talk request waits =
    ap (λ (test : Bool). standing (if test then with_search asking list (CarriedOut word ∷ talk) else talk)) (ap has_request waits)
    ∙ (standing_searched asking list (CarriedOut word ∷ talk)
    ∙ ap (λ (phase : Phase). searched asking list (then_stands (standing talk) phase (CarriedOut word))) waits)

pub unrequested_is : (word : List ℕ) (asking : Asking) (list : KeyList) (talk : List Call) → has_request (standing talk).phase ≡ false → standing (with_request word asking list talk) ≡ standing talk
unrequested_is word asking list talk none = ap (λ (test : Bool). standing (if test then with_search asking list (CarriedOut word ∷ talk) else talk)) none

-- no request is there
pub unrequested : (c : Conversation) (word : List ℕ) (asking : Asking) (list : KeyList) (talk : List Call) → has_request (standing talk).phase ≡ false → Holds c talk → Holds c (with_request word asking list talk)
unrequested c word asking list talk none holds = subst (λ (test : Bool). Holds c (if test then with_search asking list (CarriedOut word ∷ talk) else talk)) (sym none) holds

pub not_waiting : (phase : HeldPhase) → ((request : Stored) → phase ≡ held.Waiting request → ⊥) → has_request (phase_of phase) ≡ false
not_waiting held.Resting no_request = refl
not_waiting (held.Waiting request) no_request = absurd (no_request request refl)
not_waiting held.Seeking no_request = refl
not_waiting (held.OnConfirm serial) no_request = refl
not_waiting (held.OnNeedkey template) no_request = refl
not_waiting held.OnServer no_request = refl
not_waiting (held.Kept answer) no_request = refl

-- ---- a request is taken back

never : false ≡ true → ⊥
never e = cc

wants_key : (need : Need) (answer : RpcAnswer) → is_seeking (phase_after need answer) ≡ true → (IsOffers need → ⊥) → (IsPick need → ⊥) → IsKey need
wants_key Nothing answer e offers pick = absurd (never e)
wants_key (Key template) answer e offers pick = tt
wants_key (Offers template) answer e offers pick = absurd (offers tt)
wants_key (Pick templates) answer e offers pick = absurd (pick tt)
wants_key (Exchange request shape) answer e offers pick = absurd (never e)

seeks_need : (need : Need) (answer : RpcAnswer) → is_seeking (phase_after need answer) ≡ true → is_sought need ≡ true
seeks_need Nothing answer e = absurd (never e)
seeks_need (Key template) answer e = refl
seeks_need (Offers template) answer e = refl
seeks_need (Pick templates) answer e = refl
seeks_need (Exchange request shape) answer e = absurd (never e)

-- offers aren't needed behind a move before which nothing was
no_offers : (b : Begun) (move : Move) (answer : RpcAnswer) → needs b.start b.moves ≡ Nothing → is_seeking (phase_after (needs b.start (move ∷ b.moves)) answer) ≡ true → IsOffers (needs b.start (move ∷ b.moves)) → ⊥
no_offers b move answer none seeks offers = offers_stay b.start (move ∷ b.moves) offers (undone_needs b.start b.moves move none (seeks_need (needs b.start (move ∷ b.moves)) answer seeks))

-- what taking a request back does to what was begun
abbrev pub Taken : Conversation → Conversation → Type 0
Taken old new = (b : Option Begun) → BothBegun old.begun b → BothBegun new.begun (taken_back old.starting b)

abbrev pub Back : Conversation → Conversation → Type 0
Back old new = old.starting ≡ false → (b : Begun) (move : Move) → needs b.start b.moves ≡ Nothing → IsKey (needs b.start (move ∷ b.moves)) → BothBegun old.begun (Some (with_move b move)) → BothBegun new.begun (Some b)

pub record Unmade (old new : Conversation) : Type 0 where
  pub taken : Taken old new
  pub back : Back old new
  pub starting : new.starting ≡ false
  pub said : new.said ≡ old.said

unmakes_move : (old new : Conversation) (s : Standing) (b : Begun) (move : Move) (answer : RpcAnswer) → Unmade old new → s.begun ≡ Some b → IsIdle s → Carries old (moved s (with_move b move) answer) → Lacks (moved s (with_move b move) answer) → Carries new s
unmakes_move old new s b move answer u is idle c lacks =
    let free : needs b.start b.moves ≡ Nothing = subst (λ (begun : Option Begun). need_in begun ≡ Nothing) is idle.free in
    record {
      begun = subst (λ (begun : Option Begun). BothBegun new.begun begun) (sym is) (u.back (c.starting ∙ idle.starting) b move free (wants_key (needs b.start (move ∷ b.moves)) answer lacks.seeks (no_offers b move answer free lacks.seeks) lacks.picks) c.begun);
      starting = u.starting ∙ sym idle.starting;
      said = u.said ∙ c.said;
    }

unmakes_read : (old new : Conversation) (s : Standing) (begun : Option Begun) → Unmade old new → s.begun ≡ begun → IsIdle s → Fits old (if_begun s begun (λ b. make_move s b get (a.Got (puts b.start b.moves get)))) → Lacks (if_begun s begun (λ b. make_move s b get (a.Got (puts b.start b.moves get)))) → Carries new s
unmakes_read old new s None u is idle fits seeks = absurd (never seeks.seeks)
unmakes_read old new s (Some b) u is idle fits seeks = unmakes_move old new s b get (move_answer (a.Got (puts b.start b.moves get)) b.key (answers b.start b.moves get)) u is idle fits.carries seeks

unmakes_write : (old new : Conversation) (s : Standing) (message : List ℕ) (begun : Option Begun) → Unmade old new → s.begun ≡ begun → IsIdle s → Fits old (if_begun s begun (λ b. make_move s b (give message) a.Ok)) → Lacks (if_begun s begun (λ b. make_move s b (give message) a.Ok)) → Carries new s
unmakes_write old new s message None u is idle fits seeks = absurd (never seeks.seeks)
unmakes_write old new s message (Some b) u is idle fits seeks = unmakes_move old new s b (give message) (move_answer a.Ok b.key (answers b.start b.moves (give message))) u is idle fits.carries seeks

shows_no_need : (s : Standing) (begun : Option Begun) → is_seeking (if_begun s begun (λ b. record { begun = s.begun; phase = Kept (a.Attributes (attributes b.start.template b.key)); starting = s.starting; said = s.said })).phase ≡ true → ⊥
shows_no_need s None seeks = never seeks
shows_no_need s (Some b) seeks = never seeks

unmakes_try : (old new : Conversation) (s : Standing) (word : List ℕ) (template : List Attr) (fault : Option StartFault) → Unmade old new → s.begun ≡ None → IsIdle s → Fits old (started s word template fault) → Lacks (started s word template fault) → Carries new s
unmakes_try old new s word template (Some fault) u is idle fits seeks = absurd (never seeks.seeks)
unmakes_try old new s word template None u is idle fits seeks =
    record {
      begun = subst (λ (begun : Option Begun). BothBegun new.begun begun) (sym is)
          (subst (λ (starting : Bool). BothBegun new.begun (taken_back starting (Some (begin template word)))) fits.carries.starting (u.taken (Some (begin template word)) fits.carries.begun));
      starting = u.starting ∙ sym idle.starting;
      said = u.said ∙ fits.carries.said;
    }

unmakes_start : (old new : Conversation) (s : Standing) (word : List ℕ) (template : Option (List Attr)) → Unmade old new → s.begun ≡ None → IsIdle s → Fits old (start_by s word template) → Lacks (start_by s word template) → Carries new s
unmakes_start old new s word None u is idle fits seeks = absurd (never seeks.seeks)
unmakes_start old new s word (Some template) u is idle fits seeks = unmakes_try old new s word template (refuses template) u is idle fits seeks

unmakes_once : (old new : Conversation) (s : Standing) (word text : List ℕ) (begun : Option Begun) → Unmade old new → s.begun ≡ begun → IsIdle s → Fits old (begin_once s word text begun) → Lacks (begin_once s word text begun) → Carries new s
unmakes_once old new s word text (Some b) u is idle fits seeks = absurd (never seeks.seeks)
unmakes_once old new s word text None u is idle fits seeks = unmakes_start old new s word (few_of text) u is idle fits seeks

pub unmakes : (old new : Conversation) → Unmade old new → (s : Standing) (word : List ℕ) (request : RpcRequest) → Fits old (carried_out s word request) → Lacks (carried_out s word request) → IsIdle s → Carries new s
unmakes old new u s word (starts text) fits seeks idle = unmakes_once old new s word text s.begun u refl idle fits seeks
unmakes old new u s word reads fits seeks idle = unmakes_read old new s s.begun u refl idle fits seeks
unmakes old new u s word (writes message) fits seeks idle = unmakes_write old new s message s.begun u refl idle fits seeks
unmakes old new u s word asks_info fits seeks idle = absurd (never seeks.seeks)
unmakes old new u s word asks_attributes fits seeks idle = absurd (shows_no_need s s.begun seeks.seeks)

-- ---- a request waits

pub waiting_idle : (old : Conversation) (talk : List Call) (request : RpcRequest) → Holds old talk → phase_of old.phase ≡ Waiting request → IsIdle (standing talk)
waiting_idle old talk request holds waits = waits_idle talk request (sym holds.phase ∙ waits)

pub both_on_err : {T E A B C : Type 0} (r : Result T E) → (A → B → C) → OnErr r A → OnErr r B → OnErr r C
both_on_err (Ok x) f a b = tt
both_on_err (Err e) f a b = f a b

-- a start is made where nothing was begun
tried : (s : Standing) (word : List ℕ) (template : List Attr) (fault : Option StartFault) → s.starting ≡ false → (started s word template fault).starting ≡ true → (started s word template fault).said ≡ s.said
tried s word template (Some fault) idle e = absurd (never (sym idle ∙ e))
tried s word template None idle e = refl

begun_by : (s : Standing) (word : List ℕ) (template : Option (List Attr)) → s.starting ≡ false → (start_by s word template).starting ≡ true → (start_by s word template).said ≡ s.said
begun_by s word None idle e = absurd (never (sym idle ∙ e))
begun_by s word (Some template) idle e = tried s word template (refuses template) idle e

abbrev pub Began : Standing → Standing → Type 0
Began s after = (s.begun ≡ None) × (after.said ≡ s.said)

began_once : (s : Standing) (word text : List ℕ) (begun : Option Begun) → s.begun ≡ begun → s.starting ≡ false → (begin_once s word text begun).starting ≡ true → Began s (begin_once s word text begun)
began_once s word text (Some b) is idle e = absurd (never (sym idle ∙ e))
began_once s word text None is idle e = (is, begun_by s word (few_of text) idle e)

reads_on : (s : Standing) (begun : Option Begun) → (if_begun s begun (λ b. make_move s b get (a.Got (puts b.start b.moves get)))).starting ≡ s.starting
reads_on s None = refl
reads_on s (Some b) = refl

writes_on : (s : Standing) (message : List ℕ) (begun : Option Begun) → (if_begun s begun (λ b. make_move s b (give message) a.Ok)).starting ≡ s.starting
writes_on s message None = refl
writes_on s message (Some b) = refl

shows_on : (s : Standing) (begun : Option Begun) → (if_begun s begun (λ b. record { begun = s.begun; phase = Kept (a.Attributes (attributes b.start.template b.key)); starting = s.starting; said = s.said })).starting ≡ s.starting
shows_on s None = refl
shows_on s (Some b) = refl

began : (s : Standing) (word : List ℕ) (request : RpcRequest) → s.starting ≡ false → (carried_out s word request).starting ≡ true → Began s (carried_out s word request)
began s word (starts text) idle e = began_once s word text s.begun refl idle e
began s word reads idle e = absurd (never (sym idle ∙ (sym (reads_on s s.begun) ∙ e)))
began s word (writes message) idle e = absurd (never (sym idle ∙ (sym (writes_on s message s.begun) ∙ e)))
began s word asks_info idle e = absurd (never (sym idle ∙ e))
began s word asks_attributes idle e = absurd (never (sym idle ∙ (sym (shows_on s s.begun) ∙ e)))

-- a start that is put back
forgets : (new : Conversation) (s after : Standing) (between : Conversation) → Began s after → Carries between after → IsIdle s → new.begun ≡ None → new.starting ≡ false → new.said ≡ between.said → Carries new s
forgets new s after between start carries idle begun starting said =
    record {
      begun = subst (λ (b : Option Begun). BothBegun new.begun b) (sym start.0) (subst (λ held. BothBegun held None) (sym begun) tt);
      starting = starting ∙ sym idle.starting;
      said = said ∙ (carries.said ∙ start.1);
    }

-- what was unmade
pub record Unmakes (after new : Conversation) : Type 0 where
  pub made : (s : Standing) (word : List ℕ) (request : RpcRequest) → Fits after (carried_out s word request) → Lacks (carried_out s word request) → IsIdle s → Carries new s
  pub begun : after.starting ≡ true → new.begun ≡ None
  pub starting : new.starting ≡ false
  pub said : new.said ≡ after.said

puts_back : (between after new : Conversation) (s : Standing) (word : List ℕ) (request : RpcRequest) (starting : Bool) → between.starting ≡ starting → Fits between (carried_out s word request) → Shaken between after → (between.starting ≡ false → (s : Standing) → Fits between s → Lacks s) → Unmakes after new → IsIdle s → Carries new s
puts_back between after new s word request false is fits shaken lacks un idle =
    un.made s word request (subst (λ (c : Conversation). Fits c (carried_out s word request)) (sym (shaken.once is)) fits) (lacks is (carried_out s word request) fits) idle
puts_back between after new s word request true is fits shaken lacks un idle =
    forgets new s (carried_out s word request) between (began s word request idle.starting (sym fits.carries.starting ∙ is)) fits.carries idle (un.begun (shaken.starting ∙ is)) un.starting (un.said ∙ shaken.said)

-- a request was carried out, its search found no memory, and it was unmade
pub put_back : (old between after new : Conversation) (word : List ℕ) (request : RpcRequest) → Meets old between (λ s. carried_out s word request) → Unmakes after new → Shaken between after → (between.starting ≡ false → (s : Standing) → Fits between s → Lacks s) → PutsBack old new
put_back old between after new word request met un shaken lacks = λ s carries idle.
    puts_back between after new s word request between.starting refl (met s carries) shaken lacks un idle
