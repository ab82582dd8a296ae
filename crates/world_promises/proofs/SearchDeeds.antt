-- The searches that follow on what a conversation meets, where nobody can be asked: each finds what is needed.
use Rattle.std.proofs.Common.{◌≡◌, ℕ, zero, suc, List, ◌∷◌, Bool, true, false, cond, Option, Some, None, refl, sym, ap, subst, ◌∙◌}
use Rattle.attr_tuples.specs.declared.attr.Attr.{Attr}
use Rattle.file_tree.specs.declared.tree.Node.TheVariants.{Confirm, Needkey}
use Rattle.key_lists.specs.Lists.{KeyEntry, KeyList}
use Rattle.roles.specs.declared.need.Need.{Need}
use Rattle.roles.specs.declared.need.Need.TheVariants.{Nothing, Key, Offers, Pick, Exchange}
use Rattle.roles.specs.Answers.{is_sought}
use Rattle.talks.specs.declared.said.Said.{Said}
use Rattle.talks.specs.declared.said.Asking.{Asking}
use Rattle.talks.specs.Calls as calls
use Rattle.talks.specs.Calls.{Found, Chosen, AsksConsent, AsksKey, Denied, NoneServes, Offered, Picked}
use Rattle.talks.specs.Searches.{first_left, found_at, found_by, is_denied, serving}
use Rattle.talks.specs.Standings.{Phase, Resting, Waiting, Seeking, OnConfirm, OnNeedkey, OnServer, Kept, Standing, finds, found_for, is_for, need_in, role_name, sought, sought_if, then_stands}
use Rattle.agent_history.specs.Deeds.{Deed, OfTalk, holder_of, keys_of}
use Rattle.agent_history.specs.Conversations.{asking, questions, raised, seeking, sought_once, standing_of, talk}
use Rattle.agent_history.specs.Conversations as deed
use Rattle.agent_laws.proofs.ClosedLaws.{none_asks_consent, none_asks_key}
use Rattle.world_promises.specs.Telling.{Searches, asks_nobody}
use Rattle.world_promises.specs.Telling as told
use Rattle.world_promises.proofs.RestLaws.{seeks_need}
use Rattle.world_promises.proofs.TalkSides.{Going, stands_here, talk_going}

-- ---- what is found is what is needed

either_for : (n : Need) (b : Bool) (one other : Found) → is_for n one ≡ true → is_for n other ≡ true → is_for n (cond b one other) ≡ true
either_for n true one other p q = p
either_for n false one other p q = q

at_for : (template : List Attr) (said : Said) (asks : Asking) (keys : List KeyEntry) (o : Option KeyEntry) → is_for (Key template) (found_at said asks keys o) ≡ true
at_for template said asks keys (Some key) = either_for (Key template) _ (AsksConsent key) (Chosen key) refl refl
at_for template said asks keys None = either_for (Key template) (is_denied said asks keys) Denied _ refl (either_for (Key template) _ AsksKey NoneServes refl refl)

key_for : (template : List Attr) (role : List ℕ) (said : Said) (asks : Asking) (list : KeyList) → is_for (Key template) (found_by template role said asks list) ≡ true
unfolding found_by
key_for template role said asks list = at_for template said asks (serving template role list) (first_left said asks (serving template role list))

found_is_for : (n : Need) (role : List ℕ) (said : Said) (asks : Asking) (list : KeyList) → is_sought n ≡ true → is_for n (found_for n role said asks list) ≡ true
found_is_for Nothing role said asks list is = absurd cc
found_is_for (Key template) role said asks list is = key_for template role said asks list
found_is_for (Offers template) role said asks list is = refl
found_is_for (Pick templates) role said asks list is = refl
found_is_for (Exchange request shape) role said asks list is = absurd cc

pub finds_for : (s : Standing) (asks : Asking) (list : KeyList) → is_sought (need_in s.begun) ≡ true → is_for (need_in s.begun) (finds s asks list) ≡ true
unfolding finds
finds_for s asks list is = found_is_for (need_in s.begun) (role_name s.begun) s.said asks list is

nobody : (came : Found) → ((key : KeyEntry) → came ≡ AsksConsent key → ⊥) → (came ≡ AsksKey → ⊥) → asks_nobody came ≡ true
nobody (Chosen key) consent asks = refl
nobody (AsksConsent key) consent asks = absurd (consent key refl)
nobody AsksKey consent asks = absurd (asks refl)
nobody Denied consent asks = refl
nobody NoneServes consent asks = refl
nobody (Offered list) consent asks = refl
nobody (Picked place) consent asks = refl

-- nobody has open what a user is asked by
abbrev pub IsShut : List Deed → Type 0
IsShut done = (holder_of done Confirm ≡ None) × (holder_of done Needkey ≡ None)

found_nobody : (done : List Deed) (conv : ℕ) → IsShut done → asks_nobody (finds (standing_of done conv) (asking done) (keys_of done)) ≡ true
found_nobody done conv shut = nobody (finds (standing_of done conv) (asking done) (keys_of done)) (λ key. none_asks_consent done conv key shut.0) (none_asks_key done conv shut.1)

pub prompts_none : (conv : ℕ) (came : Found) (done : List Deed) → asks_nobody came ≡ true → deed.sought conv came done ≡ OfTalk conv (calls.Sought came) ∷ done
prompts_none conv (Chosen key) done is = refl
prompts_none conv (AsksConsent key) done is = absurd cc
prompts_none conv AsksKey done is = absurd cc
prompts_none conv Denied done is = refl
prompts_none conv NoneServes done is = refl
prompts_none conv (Offered list) done is = refl
prompts_none conv (Picked place) done is = refl

-- ---- phases

abbrev pub is_seeking : Phase → Bool
is_seeking Seeking = true
is_seeking phase = false

pub still : (conv : ℕ) (done : List Deed) (phase : Phase) → is_seeking phase ≡ false → seeking conv phase done ≡ done
still conv done Resting e = refl
still conv done (Waiting request) e = refl
still conv done Seeking e = absurd cc
still conv done (OnConfirm serial) e = refl
still conv done OnNeedkey e = refl
still conv done OnServer e = refl
still conv done (Kept answer) e = refl

pub seeks : (phase : Phase) → is_seeking phase ≡ true → phase ≡ Seeking
seeks Resting e = absurd cc
seeks (Waiting request) e = absurd cc
seeks Seeking e = refl
seeks (OnConfirm serial) e = absurd cc
seeks OnNeedkey e = absurd cc
seeks OnServer e = absurd cc
seeks (Kept answer) e = absurd cc

pub unsought : (phase : Phase) → is_seeking phase ≡ false → phase ≡ Seeking → ⊥
unsought phase e same = let no_way : true ≡ false = sym (ap is_seeking same) ∙ e in cc

-- ---- searches one after the other

abbrev pub times : ℕ → ℕ → List Deed → List Deed
times zero conv done = done
times (suc n) conv done = times n conv (sought_once conv done)

-- behind so many searches among some keys nothing is searched for
abbrev pub Rests : ℕ → KeyList → Asking → Standing → Type 0
Rests zero list asks s = s.phase ≡ Seeking → ⊥
Rests (suc n) list asks s = s.phase ≡ Seeking → Rests n list asks (sought s (finds s asks list))

pub rests_so : (n : ℕ) (list : KeyList) (asks : Asking) (s : Standing) → (s.phase ≡ Seeking → ⊥) → Rests n list asks s
rests_so zero list asks s none = none
rests_so (suc n) list asks s none = λ e. absurd (none e)

pub record SearchedOn (conv : ℕ) (from done : List Deed) (s : Standing) : Type 0 where
  pub going : Going conv from done
  pub asked : questions done ≡ questions from
  pub risen : raised done ≡ raised from
  pub searches : Searches s (standing_of done conv)

pub searched_on : (n conv : ℕ) (from done : List Deed) → IsShut done → Going conv from done → questions done ≡ questions from → raised done ≡ raised from → Rests n (keys_of done) (asking done) (standing_of done conv) → SearchedOn conv from (times n conv done) (standing_of done conv)
searched_on zero conv from done shut g asked risen r = record { going = g; asked = asked; risen = risen; searches = told.rests r }
searched_on (suc n) conv from done shut g asked risen r = by_phase (λ d. searched_on n conv from d) (is_seeking (standing_of done conv).phase) refl
  where
    s : Standing
    s = standing_of done conv

    came : Found
    came = finds s (asking done) (keys_of done)

    one : List Deed
    one = OfTalk conv (calls.Sought came) ∷ done

    by_phase : ((d : List Deed) → IsShut d → Going conv from d → questions d ≡ questions from → raised d ≡ raised from → Rests n (keys_of d) (asking d) (standing_of d conv) → SearchedOn conv from (times n conv d) (standing_of d conv)) → (b : Bool) → is_seeking (standing_of done conv).phase ≡ b → SearchedOn conv from (times n conv (sought_once conv done)) (standing_of done conv)
    by_phase again false e =
        let none = unsought s.phase e in
        subst (λ d. SearchedOn conv from (times n conv d) s) (sym (still conv done s.phase e)) (again done shut g asked risen (rests_so n (keys_of done) (asking done) s none))
    by_phase again true e =
        let on = seeks s.phase e in
        let is = finds_for s (asking done) (keys_of done) (seeks_need (talk done conv) on) in
        let asks = found_nobody done conv shut in
        let step : sought_once conv done ≡ one = ap (λ p. seeking conv p done) on ∙ prompts_none conv came done asks in
        let now : standing_of one conv ≡ sought s came = stands_here conv (calls.Sought came) done s refl ∙ ap (λ p. then_stands s p (calls.Sought came)) on ∙ ap (λ b. sought_if b s came) is in
        let more = again one shut (talk_going conv from done (calls.Sought came) g) asked risen (subst (Rests n (keys_of done) (asking done)) (sym now) (r on)) in
        subst (λ d. SearchedOn conv from (times n conv d) s) (sym step)
        (record { going = more.going; asked = more.asked; risen = more.risen; searches = told.finds came on is asks (subst (λ x. Searches x (standing_of (times n conv one) conv)) now more.searches) })

-- ---- how it stands behind them

-- a search finds what it finds, where something is searched for
abbrev pub once : Bool → KeyList → Asking → Standing → Standing
once true list asks s = sought s (finds s asks list)
once false list asks s = s

abbrev pub ran : ℕ → KeyList → Asking → Standing → Standing
ran zero list asks s = s
ran (suc n) list asks s = ran n list asks (once (is_seeking s.phase) list asks s)

pub ran_on : (n conv : ℕ) (done : List Deed) → IsShut done → standing_of (times n conv done) conv ≡ ran n (keys_of done) (asking done) (standing_of done conv)
ran_on zero conv done shut = refl
ran_on (suc n) conv done shut = by_phase (λ d. ran_on n conv d) (is_seeking (standing_of done conv).phase) refl
  where
    s : Standing
    s = standing_of done conv

    came : Found
    came = finds s (asking done) (keys_of done)

    one : List Deed
    one = OfTalk conv (calls.Sought came) ∷ done

    by_phase : ((d : List Deed) → IsShut d → standing_of (times n conv d) conv ≡ ran n (keys_of d) (asking d) (standing_of d conv)) → (b : Bool) → is_seeking (standing_of done conv).phase ≡ b → standing_of (times n conv (sought_once conv done)) conv ≡ ran n (keys_of done) (asking done) (once (is_seeking (standing_of done conv).phase) (keys_of done) (asking done) (standing_of done conv))
    by_phase again false e =
        ap (λ d. standing_of (times n conv d) conv) (still conv done s.phase e) ∙ (again done shut ∙ ap (λ b. ran n (keys_of done) (asking done) (once b (keys_of done) (asking done) s)) (sym e))
    by_phase again true e =
        let on = seeks s.phase e in
        let is = finds_for s (asking done) (keys_of done) (seeks_need (talk done conv) on) in
        let asks = found_nobody done conv shut in
        let step : sought_once conv done ≡ one = ap (λ p. seeking conv p done) on ∙ prompts_none conv came done asks in
        let now : standing_of one conv ≡ sought s came = stands_here conv (calls.Sought came) done s refl ∙ ap (λ p. then_stands s p (calls.Sought came)) on ∙ ap (λ b. sought_if b s came) is in
        ap (λ d. standing_of (times n conv d) conv) step ∙ (again one shut ∙ (ap (ran n (keys_of done) (asking done)) now ∙ ap (λ b. ran n (keys_of done) (asking done) (once b (keys_of done) (asking done) s)) (sym e)))
