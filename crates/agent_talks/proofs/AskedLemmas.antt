-- The questions to users behind the searches of a conversation.
use Rattle.std.proofs.Common.{◌≡◌, ◌==◌, ℕ, List, ◌∷◌, Bool, true, false, Option, Some, None, refl, sym, ap, subst, ◌∙◌}
use Rattle.std.proofs.lemmas.Bool.{eq-eqb}
use Rattle.key_lists.specs.Lists.{KeyEntry, KeyList}
use Rattle.roles.specs.declared.need.Need.{Need}
use Rattle.roles.specs.declared.need.Need.TheVariants.{Nothing, Key, Offers, Pick, Exchange}
use Rattle.talks.specs.declared.answer.RpcAnswer.{RpcAnswer}
use Rattle.talks.specs.Calls.{Call, Found, Chosen, AsksConsent, AsksKey, Denied, NoneServes, Offered, Picked, Sought}
use Rattle.talks.specs.declared.said.Said.{Said}
use Rattle.talks.specs.declared.said.Asking.{Asking}
use Rattle.talks.specs.Standings.{Begun, Phase, Resting, Waiting, Seeking, OnConfirm, OnNeedkey, OnServer, Kept, Standing, finds, found_for, in_phase, is_for, made, need_in, phase_after, role_name, sought as comes, sought_if, template_of, then_stands, with_key}
use Rattle.attr_tuples.specs.Printing.{public_text}
use Rattle.roles.specs.Templates.{shown_text}
use Rattle.side_files.specs.declared.line.PromptKind.{PromptKind}
use Rattle.side_files.specs.declared.line.PromptKind.TheVariants as k
use Rattle.roles.specs.Talks.{Call as Move}
use Rattle.conversations.specs.Asking.{asked_kind}
use Rattle.agent_history.specs.Deeds.{Deed, OfTalk, keys_of}
use Rattle.agent_history.specs.Conversations.{asking, prompting, raising, seeking, seeking_all, sought, sought_once, standing_of, then_sought}
use Rattle.agent_talks.specs.Speaks.{talked}
use Rattle.agent_talks.specs.Asked.{Asked, AskedIn, NoneAsked, asks_about}

-- ---- who isn't asked

moved_none : (need : Need) (answer : RpcAnswer) → asked_kind (phase_after need answer) ≡ None
moved_none Nothing answer = refl
moved_none (Key template) answer = refl
moved_none (Offers template) answer = refl
moved_none (Pick templates) answer = refl
moved_none (Exchange request shape) answer = refl

key_none : (s : Standing) (key : KeyEntry) (begun : Option Begun) → asked_kind s.phase ≡ None → asked_kind (with_key s key begun).phase ≡ None
key_none s key None e = e
key_none s key (Some b) e = moved_none _ _

made_none : (s : Standing) (move : Move) (begun : Option Begun) → asked_kind s.phase ≡ None → asked_kind (made s move begun).phase ≡ None
made_none s move None e = e
made_none s move (Some b) e = moved_none _ _

-- of what is found nobody is asked about
abbrev Quiet : Found → Type 0
Quiet came = (wanted : Bool) (s : Standing) → asked_kind s.phase ≡ None → asked_kind (sought_if wanted s came).phase ≡ None

chosen_none : (key : KeyEntry) → Quiet (Chosen key)
chosen_none key true s e = key_none s key s.begun e
chosen_none key false s e = e

denied_none : Quiet Denied
denied_none true s e = refl
denied_none false s e = e

none_none : Quiet NoneServes
none_none true s e = refl
none_none false s e = e

offered_none : (list : List ℕ) → Quiet (Offered list)
offered_none list true s e = made_none s _ s.begun e
offered_none list false s e = e

picked_none : (place : ℕ) → Quiet (Picked place)
picked_none place true s e = made_none s _ s.begun e
picked_none place false s e = e

-- ---- what is found is what is needed, where somebody is asked

consent_wanted : (need : Need) (role : List ℕ) (said : Said) (files : Asking) (list : KeyList) (key : KeyEntry) → found_for need role said files list ≡ AsksConsent key → is_for need (AsksConsent key) ≡ true
consent_wanted (Key template) role said files list key e = refl
consent_wanted Nothing role said files list key e = absurd cc
consent_wanted (Offers template) role said files list key e = absurd cc
consent_wanted (Pick templates) role said files list key e = absurd cc
consent_wanted (Exchange request shape) role said files list key e = absurd cc

key_wanted : (need : Need) (role : List ℕ) (said : Said) (files : Asking) (list : KeyList) → found_for need role said files list ≡ AsksKey → is_for need AsksKey ≡ true
key_wanted (Key template) role said files list e = refl
key_wanted Nothing role said files list e = absurd cc
key_wanted (Offers template) role said files list e = absurd cc
key_wanted (Pick templates) role said files list e = absurd cc
key_wanted (Exchange request shape) role said files list e = absurd cc

wants_consent : (s : Standing) (files : Asking) (list : KeyList) (key : KeyEntry) → finds s files list ≡ AsksConsent key → is_for (need_in s.begun) (AsksConsent key) ≡ true
unfolding finds
wants_consent s files list key e = consent_wanted (need_in s.begun) (role_name s.begun) s.said files list key e

wants_key : (s : Standing) (files : Asking) (list : KeyList) → finds s files list ≡ AsksKey → is_for (need_in s.begun) AsksKey ≡ true
unfolding finds
wants_key s files list e = key_wanted (need_in s.begun) (role_name s.begun) s.said files list e

same_found : (s : Standing) (files : Asking) (list : KeyList) (key : KeyEntry) → finds s files list ≡ AsksConsent key → finds (in_phase s (OnConfirm key.serial)) files list ≡ AsksConsent key
unfolding finds
same_found s files list key e = e

-- ---- one search

same : (n : ℕ) → (n == n) ≡ true
same n = eq-eqb n n refl

-- how it stands behind it
stands_behind : (done : List Deed) (conv : ℕ) (came : Found) → (standing_of done conv).phase ≡ Seeking → standing_of (OfTalk conv (Sought came) ∷ done) conv ≡ sought_if (is_for (need_in (standing_of done conv).begun) came) (standing_of done conv) came
stands_behind done conv came e = rw (same conv) (ap (λ (p : Phase). then_stands (standing_of done conv) p (Sought came)) e)

asked_so : (before after : List Deed) (conv : ℕ) (now next : Standing) → now ≡ next → AskedIn (asked_kind next.phase) before after conv next → AskedIn (asked_kind now.phase) before after conv now
asked_so before after conv now next e asked = subst (λ (s : Standing). AskedIn (asked_kind s.phase) before after conv s) (sym e) asked

quiet_so : (before after : List Deed) (conv : ℕ) (now : Standing) → asked_kind now.phase ≡ None → NoneAsked before after → AskedIn (asked_kind now.phase) before after conv now
quiet_so before after conv now e none = subst (λ (o : Option PromptKind). AskedIn o before after conv now) (sym e) none

none_asked : (done : List Deed) (conv : ℕ) (came : Found) → NoneAsked done (OfTalk conv (Sought came) ∷ done)
none_asked done conv came = record { confirm = refl; needkey = refl }

found_asks : (done : List Deed) (conv : ℕ) (came : Found) → (standing_of done conv).phase ≡ Seeking → finds (standing_of done conv) (asking done) (keys_of done) ≡ came → Asked done (sought conv came done) conv
found_asks done conv (AsksConsent key) e found =
    let s = standing_of done conv in
    asked_so done (sought conv (AsksConsent key) done) conv (standing_of (sought conv (AsksConsent key) done) conv) (in_phase s (OnConfirm key.serial))
    (stands_behind done conv (AsksConsent key) e ∙ ap (λ (b : Bool). sought_if b s (AsksConsent key)) (wants_consent s (asking done) (keys_of done) key found))
    (key, record { found = same_found s (asking done) (keys_of done) key found; confirm = refl; needkey = refl })
found_asks done conv AsksKey e found =
    let s = standing_of done conv in
    let stands : standing_of (OfTalk conv (Sought AsksKey) ∷ done) conv ≡ comes s AsksKey = stands_behind done conv AsksKey e ∙ ap (λ (b : Bool). sought_if b s AsksKey) (wants_key s (asking done) (keys_of done) found) in
    subst (λ (t : Standing). AskedIn (asked_kind t.phase) done (sought conv AsksKey done) conv (standing_of (OfTalk conv (Sought AsksKey) ∷ done) conv)) (sym stands)
    (record { confirm = refl; needkey = refl })
found_asks done conv (Chosen key) e found =
    quiet_so done _ conv (standing_of (OfTalk conv (Sought (Chosen key)) ∷ done) conv)
    (ap (λ (s : Standing). asked_kind s.phase) (stands_behind done conv (Chosen key) e) ∙ chosen_none key _ (standing_of done conv) (ap asked_kind e)) (none_asked done conv (Chosen key))
found_asks done conv Denied e found =
    quiet_so done _ conv (standing_of (OfTalk conv (Sought Denied) ∷ done) conv)
    (ap (λ (s : Standing). asked_kind s.phase) (stands_behind done conv Denied e) ∙ denied_none _ (standing_of done conv) (ap asked_kind e)) (none_asked done conv Denied)
found_asks done conv NoneServes e found =
    quiet_so done _ conv (standing_of (OfTalk conv (Sought NoneServes) ∷ done) conv)
    (ap (λ (s : Standing). asked_kind s.phase) (stands_behind done conv NoneServes e) ∙ none_none _ (standing_of done conv) (ap asked_kind e)) (none_asked done conv NoneServes)
found_asks done conv (Offered list) e found =
    quiet_so done _ conv (standing_of (OfTalk conv (Sought (Offered list)) ∷ done) conv)
    (ap (λ (s : Standing). asked_kind s.phase) (stands_behind done conv (Offered list) e) ∙ offered_none list _ (standing_of done conv) (ap asked_kind e)) (none_asked done conv (Offered list))
found_asks done conv (Picked place) e found =
    quiet_so done _ conv (standing_of (OfTalk conv (Sought (Picked place)) ∷ done) conv)
    (ap (λ (s : Standing). asked_kind s.phase) (stands_behind done conv (Picked place) e) ∙ picked_none place _ (standing_of done conv) (ap asked_kind e)) (none_asked done conv (Picked place))

once_asks : (done : List Deed) (conv : ℕ) (p : Phase) → (standing_of done conv).phase ≡ p → asked_kind p ≡ None → Asked done (seeking conv p done) conv
once_asks done conv Seeking e none = found_asks done conv (finds (standing_of done conv) (asking done) (keys_of done)) e refl
once_asks done conv Resting e none = quiet_so done done conv (standing_of done conv) (ap asked_kind e) (record { confirm = refl; needkey = refl })
once_asks done conv (Waiting request) e none = quiet_so done done conv (standing_of done conv) (ap asked_kind e) (record { confirm = refl; needkey = refl })
once_asks done conv OnServer e none = quiet_so done done conv (standing_of done conv) (ap asked_kind e) (record { confirm = refl; needkey = refl })
once_asks done conv (Kept answer) e none = quiet_so done done conv (standing_of done conv) (ap asked_kind e) (record { confirm = refl; needkey = refl })
once_asks done conv (OnConfirm serial) e none = absurd cc
once_asks done conv OnNeedkey e none = absurd cc

-- ---- all searches

-- the same keys, and the same files by which users are asked
record Same (before after : List Deed) : Type 0 where
  pub files : asking after ≡ asking before
  pub keys : keys_of after ≡ keys_of before

no_change : (done : List Deed) → Same done done
no_change done = record { files = refl; keys = refl }

prompting_same : (done : List Deed) (conv : ℕ) (came : Found) → Same done (prompting conv came done)
prompting_same done conv (AsksConsent key) = record { files = refl; keys = refl }
prompting_same done conv AsksKey = record { files = refl; keys = refl }
prompting_same done conv (Chosen key) = no_change done
prompting_same done conv Denied = no_change done
prompting_same done conv NoneServes = no_change done
prompting_same done conv (Offered list) = no_change done
prompting_same done conv (Picked place) = no_change done

found_same : (done : List Deed) (conv : ℕ) (came : Found) → Same done (sought conv came done)
found_same done conv came =
    let s = prompting_same (OfTalk conv (Sought came) ∷ done) conv came in
    record { files = s.files; keys = s.keys }

seeking_same : (done : List Deed) (conv : ℕ) (p : Phase) → Same done (seeking conv p done)
seeking_same done conv Seeking = found_same done conv (finds (standing_of done conv) (asking done) (keys_of done))
seeking_same done conv Resting = no_change done
seeking_same done conv (Waiting request) = no_change done
seeking_same done conv (OnConfirm serial) = no_change done
seeking_same done conv OnNeedkey = no_change done
seeking_same done conv OnServer = no_change done
seeking_same done conv (Kept answer) = no_change done

once_same : (before done : List Deed) (conv : ℕ) → Same before done → Same before (sought_once conv done)
once_same before done conv first =
    let second = seeking_same done conv (standing_of done conv).phase in
    record { files = second.files ∙ first.files; keys = second.keys ∙ first.keys }

-- behind deeds by which nothing was asked
after_none : (before done after : List Deed) (conv : ℕ) (now : Standing) (kind : Option PromptKind) → Same before done → NoneAsked before done → AskedIn kind done after conv now → AskedIn kind before after conv now
after_none before done after conv now None keep none asked = record { confirm = asked.confirm ∙ none.confirm; needkey = asked.needkey ∙ none.needkey }
after_none before done after conv now (Some k.Confirm) keep none asked = (
  asked.0,
  record {
    found = ap (λ (a : Asking). finds now a (keys_of before)) (sym keep.files) ∙ (ap (λ (l : KeyList). finds now (asking done) l) (sym keep.keys) ∙ asked.1.found);
    confirm = asked.1.confirm ∙ ap (asks_about conv (public_text asked.0.tuple)) none.confirm;
    needkey = asked.1.needkey ∙ none.needkey;
  },
)
after_none before done after conv now (Some k.Needkey) keep none asked =
    record { confirm = asked.confirm ∙ none.confirm; needkey = asked.needkey ∙ ap (asks_about conv (shown_text (template_of now.begun))) none.needkey }

-- one search more
more_asks : (before done : List Deed) (conv : ℕ) (p : Phase) → (standing_of done conv).phase ≡ p → Same before done → AskedIn (asked_kind p) before done conv (standing_of done conv) → Asked before (seeking conv p done) conv
more_asks before done conv Seeking e keep none = after_none before done _ conv _ _ keep none (once_asks done conv Seeking e refl)
more_asks before done conv Resting e keep none = quiet_so before done conv (standing_of done conv) (ap asked_kind e) none
more_asks before done conv (Waiting request) e keep none = quiet_so before done conv (standing_of done conv) (ap asked_kind e) none
more_asks before done conv OnServer e keep none = quiet_so before done conv (standing_of done conv) (ap asked_kind e) none
more_asks before done conv (Kept answer) e keep none = quiet_so before done conv (standing_of done conv) (ap asked_kind e) none
more_asks before done conv (OnConfirm serial) e keep asked = subst (λ (o : Option PromptKind). AskedIn o before done conv (standing_of done conv)) (sym (ap asked_kind e)) asked
more_asks before done conv OnNeedkey e keep asked = subst (λ (o : Option PromptKind). AskedIn o before done conv (standing_of done conv)) (sym (ap asked_kind e)) asked

next_asks : (before done : List Deed) (conv : ℕ) → Same before done → Asked before done conv → Asked before (sought_once conv done) conv
next_asks before done conv keep asked = more_asks before done conv (standing_of done conv).phase refl keep asked

all_ask : (before done : List Deed) (conv : ℕ) (starting : Bool) → Same before done → Asked before done conv → Asked before (seeking_all starting conv done) conv
all_ask before done conv false keep asked = next_asks before done conv keep asked
all_ask before done conv true keep asked =
    let one : List Deed = sought_once conv done in
    let two : List Deed = sought_once conv one in
    let keep_one = once_same before done conv keep in
    next_asks before two conv (once_same before one conv keep_one) (next_asks before one conv keep_one (next_asks before done conv keep asked))

-- a question for the authentication server asks no user
raising_asks : (before done : List Deed) (conv : ℕ) (p : Phase) → Asked before done conv → Asked before (raising conv p done) conv
raising_asks before done conv OnServer asked = by_kind (asked_kind (standing_of done conv).phase) asked
  where
    by_kind : (kind : Option PromptKind) → AskedIn kind before done conv (standing_of done conv) → AskedIn kind before (raising conv OnServer done) conv (standing_of done conv)
    by_kind None a = record { confirm = a.confirm; needkey = a.needkey }
    by_kind (Some k.Confirm) a = (a.0, record { found = a.1.found; confirm = a.1.confirm; needkey = a.1.needkey })
    by_kind (Some k.Needkey) a = record { confirm = a.confirm; needkey = a.needkey }
raising_asks before done conv Resting asked = asked
raising_asks before done conv (Waiting request) asked = asked
raising_asks before done conv Seeking asked = asked
raising_asks before done conv (OnConfirm serial) asked = asked
raising_asks before done conv OnNeedkey asked = asked
raising_asks before done conv (Kept answer) asked = asked

-- a conversation met something, after which nobody is asked yet, and what it needs then is got for it or asked for
pub talked_asks : (done : List Deed) (conv : ℕ) (call : Call) → asked_kind (standing_of (OfTalk conv call ∷ done) conv).phase ≡ None → Asked done (talked conv call done) conv
talked_asks done conv call none =
    let one : List Deed = OfTalk conv call ∷ done in
    let first : Asked done one conv = quiet_so done one conv (standing_of one conv) none (record { confirm = refl; needkey = refl }) in
    let all = all_ask done one conv (standing_of one conv).starting (record { files = refl; keys = refl }) first in
    raising_asks done (then_sought conv one) conv (standing_of (then_sought conv one) conv).phase all
