-- The searches of a standing are those of its talk, and what is found is what is needed.
use Rattle.std.proofs.Common.{◌≡◌, ℕ, List, ◌∷◌, Bool, true, false, Option, Some, None, refl, sym, ap, subst, ◌∙◌, if◌then◌else◌, ◌&&◌, not}
use Rattle.attr_tuples.specs.declared.attr.Attr.{Attr}
use Rattle.key_lists.specs.Lists.{KeyEntry, KeyList}
use Rattle.roles.specs.declared.need.Need.{Need}
use Rattle.roles.specs.declared.need.Need.TheVariants.{Nothing, Key, Offers, Pick, Exchange}
use Rattle.roles.specs.Answers.{IsKey, IsOffers, IsPick}
use Rattle.talks.specs.Calls.{Call, Found, Chosen, AsksConsent, AsksKey, Denied, NoneServes, Sought}
use Rattle.talks.specs.Searches.{first_left, found_at, found_by, is_among, is_denied, none_left, one_left, serving, wants_consent}
use Rattle.talks.specs.declared.said.Said.{Said}
use Rattle.talks.specs.declared.said.Asking.{Asking}
use Rattle.talks.specs.Standings.{Phase, Resting, Waiting, Seeking, OnConfirm, OnNeedkey, OnServer, Kept, Standing, finds, found_for, is_for, need_in, role_name, sought, sought_if, standing, then_stands}
use Rattle.conversations.specs.declared.begun.Wanted.{Wanted}
use Rattle.conversations.specs.declared.begun.Wanted.TheVariants as w
use Rattle.conversations.specs.declared.conversation.Conversation.{Conversation}
use Rattle.conversations.specs.Fits.{Carries, Fits, Lacks, Turns, searched, searched_once, with_search, with_search_once}
use Rattle.conversations.specs.Meanings.{phase_of}
use Rattle.conversations.specs.Shown.{is_seeking, wanted_in}

never : false ≡ true → ⊥
never e = cc

-- ---- of a talk

once_so : (test : Bool) (call : Call) (talk : List Call) → standing (if test then call ∷ talk else talk) ≡ (if test then then_stands (standing talk) (standing talk).phase call else standing talk)
once_so true call talk = refl
once_so false call talk = refl

once : (asking : Asking) (list : KeyList) (talk : List Call) → standing (with_search_once asking list talk) ≡ searched_once asking list (standing talk)
once asking list talk = once_so (is_seeking (standing talk).phase) (Sought (finds (standing talk) asking list)) talk

so_often : (asking : Asking) (list : KeyList) (talk : List Call) (starting : Bool) → standing (if starting then with_search_once asking list (with_search_once asking list (with_search_once asking list talk)) else with_search_once asking list talk) ≡ (if starting then searched_once asking list (searched_once asking list (searched_once asking list (standing talk))) else searched_once asking list (standing talk))
so_often asking list talk true =
    once asking list (with_search_once asking list (with_search_once asking list talk))
    ∙ ap (λ (s : Standing). searched_once asking list s) (once asking list (with_search_once asking list talk) ∙ ap (λ (s : Standing). searched_once asking list s) (once asking list talk))
so_often asking list talk false = once asking list talk

pub standing_searched : (asking : Asking) (list : KeyList) (talk : List Call) → standing (with_search asking list talk) ≡ searched asking list (standing talk)
standing_searched asking list talk = so_often asking list talk (standing talk).starting

-- ---- what is found is what is needed

one_is_for : (template : List Attr) (said : Said) (key : KeyEntry) (asks : Bool) → is_for (Key template) (if asks then AsksConsent key else Chosen key) ≡ true
one_is_for template said key true = refl
one_is_for template said key false = refl

none_is_for : (template : List Attr) (denied asks : Bool) → is_for (Key template) (if denied then Denied else if asks then AsksKey else NoneServes) ≡ true
none_is_for template true asks = refl
none_is_for template false true = refl
none_is_for template false false = refl

at_is_for : (template : List Attr) (said : Said) (asking : Asking) (keys : List KeyEntry) (left : Option KeyEntry) → is_for (Key template) (found_at said asking keys left) ≡ true
at_is_for template said asking keys (Some key) = one_is_for template said key (wants_consent key && not (is_among said.agreed key))
at_is_for template said asking keys None = none_is_for template (is_denied said asking keys) (asking.needkey && not said.asked)

pub key_is_for : (template : List Attr) (role : List ℕ) (said : Said) (asking : Asking) (list : KeyList) → is_for (Key template) (found_by template role said asking list) ≡ true
unfolding found_by
key_is_for template role said asking list = at_is_for template said asking (serving template role list) (first_left said asking (serving template role list))

is_sought_for : (need : Need) (role : List ℕ) (said : Said) (asking : Asking) (list : KeyList) → (wanted_in need ≡ w.Nothing → ⊥) → is_for need (found_for need role said asking list) ≡ true
is_sought_for Nothing role said asking list some = absurd (some refl)
is_sought_for (Key template) role said asking list some = key_is_for template role said asking list
is_sought_for (Offers template) role said asking list some = refl
is_sought_for (Pick templates) role said asking list some = refl
is_sought_for (Exchange request shape) role said asking list some = absurd (some refl)

is_for_nothing : (need : Need) (role : List ℕ) (said : Said) (asking : Asking) (list : KeyList) → wanted_in need ≡ w.Nothing → is_for need (found_for need role said asking list) ≡ false
is_for_nothing Nothing role said asking list none = refl
is_for_nothing (Key template) role said asking list none = absurd (cc)
is_for_nothing (Offers template) role said asking list none = absurd (cc)
is_for_nothing (Pick templates) role said asking list none = absurd (cc)
is_for_nothing (Exchange request shape) role said asking list none = refl

-- ---- a search that was made

in_seeking : (phase : Phase) → is_seeking phase ≡ true → phase ≡ Seeking
in_seeking Resting e = absurd (never e)
in_seeking (Waiting request) e = absurd (never e)
in_seeking Seeking e = refl
in_seeking (OnConfirm serial) e = absurd (never e)
in_seeking OnNeedkey e = absurd (never e)
in_seeking OnServer e = absurd (never e)
in_seeking (Kept answer) e = absurd (never e)

-- what a search comes to where something is sought
comes_to : (asking : Asking) (list : KeyList) (s : Standing) → is_seeking s.phase ≡ true → searched_once asking list s ≡ sought_if (is_for (need_in s.begun) (finds s asking list)) s (finds s asking list)
comes_to asking list s seeks =
    ap (λ (test : Bool). if test then then_stands s s.phase (Sought (finds s asking list)) else s) seeks
    ∙ ap (λ (phase : Phase). then_stands s phase (Sought (finds s asking list))) (in_seeking s.phase seeks)

-- it is for what is needed
pub searched_is : (asking : Asking) (list : KeyList) (s : Standing) → is_seeking s.phase ≡ true → (wanted_in (need_in s.begun) ≡ w.Nothing → ⊥) → searched_once asking list s ≡ sought s (finds s asking list)
unfolding finds
searched_is asking list s seeks some =
    comes_to asking list s seeks
    ∙ ap (λ (test : Bool). sought_if test s (finds s asking list)) (is_sought_for (need_in s.begun) (role_name s.begun) s.said asking list some)

pub searched_for_none : (asking : Asking) (list : KeyList) (s : Standing) → is_seeking s.phase ≡ true → wanted_in (need_in s.begun) ≡ w.Nothing → searched_once asking list s ≡ s
unfolding finds
searched_for_none asking list s seeks none =
    comes_to asking list s seeks
    ∙ ap (λ (test : Bool). sought_if test s (finds s asking list)) (is_for_nothing (need_in s.begun) (role_name s.begun) s.said asking list none)

pub searched_so : (c : Conversation) (asking : Asking) (list : KeyList) (s : Standing) → is_seeking s.phase ≡ true → (wanted_in (need_in s.begun) ≡ w.Nothing → ⊥) → Fits c (sought s (finds s asking list)) → Fits c (searched_once asking list s)
unfolding finds
searched_so c asking list s seeks some fits =
    subst (λ (t : Standing). Fits c t) (sym (comes_to asking list s seeks))
    (subst (λ (test : Bool). Fits c (sought_if test s (finds s asking list))) (sym (is_sought_for (need_in s.begun) (role_name s.begun) s.said asking list some)) fits)

pub searched_nothing : (c : Conversation) (asking : Asking) (list : KeyList) (s : Standing) → is_seeking s.phase ≡ true → wanted_in (need_in s.begun) ≡ w.Nothing → Fits c s → Fits c (searched_once asking list s)
unfolding finds
searched_nothing c asking list s seeks none fits =
    subst (λ (t : Standing). Fits c t) (sym (comes_to asking list s seeks))
    (subst (λ (test : Bool). Fits c (sought_if test s (finds s asking list))) (sym (is_for_nothing (need_in s.begun) (role_name s.begun) s.said asking list none)) fits)

-- whether something is sought
pub seeks_so : (c : Conversation) (s : Standing) (test : Bool) → Fits c s → test ≡ is_seeking (phase_of c.phase) → is_seeking s.phase ≡ test
seeks_so c s test fits e = ap (λ (phase : Phase). is_seeking phase) (sym fits.phase) ∙ sym e

-- no search was wanted
pub unsearched : (c : Conversation) (asking : Asking) (list : KeyList) (s : Standing) → is_seeking s.phase ≡ false → Fits c s → Fits c (searched_once asking list s)
unsearched c asking list s rests fits = subst (λ (test : Bool). Fits c (if test then then_stands s s.phase (Sought (finds s asking list)) else s)) (sym rests) fits

-- ---- which thing is needed

other_key : w.Key ≡ w.Nothing → ⊥
other_key e = cc

other_offers : w.Offers ≡ w.Nothing → ⊥
other_offers e = cc

other_pick : w.Pick ≡ w.Nothing → ⊥
other_pick e = cc

pub wants_key : (need : Need) → w.Key ≡ wanted_in need → IsKey need
wants_key Nothing e = absurd (cc)
wants_key (Key template) e = tt
wants_key (Offers template) e = absurd (cc)
wants_key (Pick templates) e = absurd (cc)
wants_key (Exchange request shape) e = absurd (cc)

pub wants_offers : (need : Need) → w.Offers ≡ wanted_in need → IsOffers need
wants_offers Nothing e = absurd (cc)
wants_offers (Key template) e = absurd (cc)
wants_offers (Offers template) e = tt
wants_offers (Pick templates) e = absurd (cc)
wants_offers (Exchange request shape) e = absurd (cc)

pub wants_pick : (need : Need) → w.Pick ≡ wanted_in need → IsPick need
wants_pick Nothing e = absurd (cc)
wants_pick (Key template) e = absurd (cc)
wants_pick (Offers template) e = absurd (cc)
wants_pick (Pick templates) e = tt
wants_pick (Exchange request shape) e = absurd (cc)

picks_not : (need : Need) (wanted : Wanted) → wanted ≡ wanted_in need → (wanted ≡ w.Pick → ⊥) → IsPick need → ⊥
picks_not Nothing wanted e no_pick pick = pick
picks_not (Key template) wanted e no_pick pick = pick
picks_not (Offers template) wanted e no_pick pick = pick
picks_not (Pick templates) wanted e no_pick pick = no_pick e
picks_not (Exchange request shape) wanted e no_pick pick = pick

-- a search found no memory
pub lacks_so : (c : Conversation) (s : Standing) (test : Bool) (wanted : Wanted) → test ≡ true → Fits c s → test ≡ is_seeking (phase_of c.phase) → wanted ≡ wanted_in (need_in s.begun) → (wanted ≡ w.Pick → ⊥) → Lacks s
lacks_so c s test wanted is fits e shown no_pick = record { seeks = seeks_so c s test fits e ∙ is; picks = picks_not (need_in s.begun) wanted shown no_pick }

-- ---- the searches of a start, and of another request

pub thrice : (old first second third : Conversation) (asking : Asking) (list : KeyList) → old.starting ≡ true → Turns old first (searched_once asking list) → Turns first second (searched_once asking list) → Turns second third (searched_once asking list) → Turns old third (searched asking list)
thrice old first second third asking list starting a b c = λ s fits.
    subst (λ (test : Bool). Fits third (if test then searched_once asking list (searched_once asking list (searched_once asking list s)) else searched_once asking list s)) (sym starting ∙ fits.carries.starting)
    (c (searched_once asking list (searched_once asking list s)) (b (searched_once asking list s) (a s fits)))

pub no_start : (old new : Conversation) (asking : Asking) (list : KeyList) → old.starting ≡ false → Turns old new (searched_once asking list) → Turns old new (searched asking list)
no_start old new asking list starting a = λ s fits.
    subst (λ (test : Bool). Fits new (if test then searched_once asking list (searched_once asking list (searched_once asking list s)) else searched_once asking list s)) (sym starting ∙ fits.carries.starting) (a s fits)

pub key_some : (need : Need) → w.Key ≡ wanted_in need → wanted_in need ≡ w.Nothing → ⊥
key_some need key nothing = other_key (key ∙ nothing)

pub offers_some : (need : Need) → w.Offers ≡ wanted_in need → wanted_in need ≡ w.Nothing → ⊥
offers_some need offers nothing = other_offers (offers ∙ nothing)

pub pick_some : (need : Need) → w.Pick ≡ wanted_in need → wanted_in need ≡ w.Nothing → ⊥
pick_some need pick nothing = other_pick (pick ∙ nothing)
