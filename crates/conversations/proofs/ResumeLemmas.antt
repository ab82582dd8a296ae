-- A request that goes on behind its user's answer: a start whose key is found for the sake of its offers is given the list
-- of these that was made ahead.
use Rattle.std.proofs.Common.{◌≡◌, ℕ, List, [], ◌∷◌, Bool, true, false, Option, Some, None, refl, sym, ap, subst, ◌∙◌, if◌then◌else◌}
use Rattle.attr_tuples.specs.declared.attr.Attr.{Attr}
use Rattle.attr_tuples.specs.Matching.{value_of}
use Rattle.std.specs.Prelude.{codes}
use Rattle.key_lists.specs.Lists.{KeyEntry, KeyList}
use Rattle.roles.specs.declared.need.Need.{Need}
use Rattle.roles.specs.declared.need.Need.TheVariants.{Nothing, Key, Offers, Pick, Exchange}
use Rattle.roles.specs.Answers.{IsKey, IsOffers, is_sought}
use Rattle.roles.specs.Talks.{found, offered}
use Rattle.talks.specs.declared.answer.RpcAnswer.{RpcAnswer}
use Rattle.talks.specs.declared.answer.RpcAnswer.TheVariants as a
use Rattle.talks.specs.Answers.{move_answer, told_key}
use Rattle.talks.specs.Calls.{Call, Found, Chosen, AsksConsent, AsksKey, Denied, NoneServes, Offered, Picked, Sought, Consented, KeyTold}
use Rattle.talks.specs.Searches.{found_by, offered_by}
use Rattle.talks.specs.declared.said.Said.{Said}
use Rattle.talks.specs.declared.said.Asking.{Asking}
use Rattle.talks.specs.Protocols.{answers, needs, protocol_of, needs_by}
use Rattle.talks.specs.Standings.{Begun, Phase, Resting, Waiting, Seeking, OnConfirm, OnNeedkey, OnServer, Kept, Standing, chosen_for, finds, found_for, in_phase, is_for, kept_key, made, need_in, phase_after, role_in, role_name, says_of, sought, sought_if, standing, template_in, template_of, then_stands, told_of, told_of_key, with_key, with_move}
use Rattle.conversations.specs.declared.begun.Begun.{Begun as Held}
use Rattle.conversations.specs.declared.phase.Phase.{Phase as HeldPhase}
use Rattle.conversations.specs.declared.phase.Phase.TheVariants as held
use Rattle.conversations.specs.Begins.{IsBegun}
use Rattle.conversations.specs.Meanings.{phase_of}
use Rattle.conversations.specs.Shown.{asks_for_key, asks_user, is_seeking, serial_in}
use Rattle.conversations.specs.declared.conversation.Conversation.{Conversation}
use Rattle.conversations.specs.Fits.{BothBegun, Carries, Fits, Holds, IsAsked, UsesList, searched, searched_once, with_answer, with_search}
use Rattle.conversations.proofs.OfferLaws.{Behind, behind, stands_again}
use Rattle.conversations.proofs.SearchLemmas.{key_is_for, standing_searched}

pub never : false ≡ true → ⊥
never e = cc

-- ---- a search that changes nothing

pub stays : (asking : Asking) (list : KeyList) (s : Standing) → is_seeking s.phase ≡ false → searched_once asking list s ≡ s
stays asking list s rests = ap (λ (test : Bool). if test then then_stands s s.phase (Sought (finds s asking list)) else s) rests

pub thrice : (asking : Asking) (list : KeyList) (s : Standing) → is_seeking s.phase ≡ false → searched_once asking list (searched_once asking list s) ≡ s
thrice asking list s rests = ap (λ (t : Standing). searched_once asking list t) (stays asking list s rests) ∙ stays asking list s rests

all_stays : (asking : Asking) (list : KeyList) (s : Standing) (starting : Bool) → is_seeking s.phase ≡ false → (if starting then searched_once asking list (searched_once asking list (searched_once asking list s)) else searched_once asking list s) ≡ s
all_stays asking list s true rests = ap (λ (t : Standing). searched_once asking list t) (thrice asking list s rests) ∙ stays asking list s rests
all_stays asking list s false rests = stays asking list s rests

pub rests_so : (asking : Asking) (list : KeyList) (s : Standing) → is_seeking s.phase ≡ false → searched asking list s ≡ s
rests_so asking list s rests = all_stays asking list s s.starting rests

-- ---- a start that is searched for

-- one that seeks something
abbrev pub seeks : Begun → Said → Standing
seeks b said = record { begun = Some b; phase = Seeking; starting = true; said = said }

once_is : (b : Begun) (said : Said) (asking : Asking) (list : KeyList) (came : Found) → found_for (needs b.start b.moves) (role_in b.start.template) said asking list ≡ came → searched_once asking list (seeks b said) ≡ sought_if (is_for (needs b.start b.moves) came) (seeks b said) came
unfolding finds
once_is b said asking list came e = ap (λ (c : Found). sought_if (is_for (needs b.start b.moves) c) (seeks b said) c) e

pub at_key : (b : Begun) (said : Said) (asking : Asking) (list : KeyList) (t : List Attr) (came : Found) → needs b.start b.moves ≡ Key t → found_by t (role_in b.start.template) said asking list ≡ came → searched_once asking list (seeks b said) ≡ sought_if (is_for (Key t) came) (seeks b said) came
at_key b said asking list t came need e =
    once_is b said asking list came (ap (λ (n : Need). found_for n (role_in b.start.template) said asking list) need ∙ e)
    ∙ ap (λ (n : Need). sought_if (is_for n came) (seeks b said) came) need

at_offers : (b : Begun) (said : Said) (asking : Asking) (list : KeyList) (t : List Attr) → needs b.start b.moves ≡ Offers t → searched_once asking list (seeks b said) ≡ made (seeks b said) (offered (offered_by t (role_in b.start.template) list)) (Some b)
at_offers b said asking list t need =
    once_is b said asking list (Offered (offered_by t (role_in b.start.template) list)) (ap (λ (n : Need). found_for n (role_in b.start.template) said asking list) need)
    ∙ ap (λ (n : Need). sought_if (is_for n (Offered (offered_by t (role_in b.start.template) list))) (seeks b said) (Offered (offered_by t (role_in b.start.template) list))) need

-- nothing is sought any more behind the first search
quiet : (c d : Conversation) (given : List ℕ) (s : Standing) (asking : Asking) (list : KeyList) → is_seeking s.phase ≡ false → Fits c s → UsesList c d given → Fits d (searched_once asking list (searched_once asking list s))
quiet c d given s asking list rests fits uses =
    subst (λ (t : Standing). Fits d t) (sym (thrice asking list s rests))
    (subst (λ (c : Conversation). Fits c s) (sym (uses.rests (ap (λ (p : Phase). is_seeking p) fits.phase ∙ rests))) fits)

quiet_by : (c d : Conversation) (given : List ℕ) (s t : Standing) (asking : Asking) (list : KeyList) → s ≡ t → is_seeking t.phase ≡ false → Fits c s → UsesList c d given → Fits d (searched_once asking list (searched_once asking list s))
quiet_by c d given s t asking list e rests fits uses = quiet c d given s asking list (ap (λ (t : Standing). is_seeking t.phase) e ∙ rests) fits uses

-- ---- a key was found

-- what was begun then, where offers are needed again
abbrev pub behind_key : Begun → KeyEntry → Begun
behind_key b key = record { start = b.start; moves = told_of_key key ∷ b.moves; key = None }

abbrev pub behind_none : Begun → KeyEntry → Begun
behind_none b key = record { start = b.start; moves = offered [] ∷ told_of_key key ∷ b.moves; key = None }

abbrev pub behind_again : Begun → KeyEntry → Begun
behind_again b key = record { start = b.start; moves = told_of_key key ∷ offered [] ∷ told_of_key key ∷ b.moves; key = None }

abbrev pub Law : Begun → KeyEntry → Type 0
Law b key = Behind (needs_by (protocol_of b.start.template)) b.start b.moves (told_key key) (value_of (codes "!password") key.tuple)

-- the role was told of it
pub found_first : (b : Begun) (said : Said) (key : KeyEntry) (t : List Attr) (answer : RpcAnswer) → needs b.start (told_of_key key ∷ b.moves) ≡ Offers t → record { begun = Some (chosen_for key b); phase = phase_after (needs b.start (told_of_key key ∷ b.moves)) answer; starting = true; said = said } ≡ seeks (behind_key b key) said
found_first b said key t answer need = ap (λ (n : Need). record { begun = Some (record { start = b.start; moves = told_of_key key ∷ b.moves; key = kept_key key n }); phase = phase_after n answer; starting = true; said = said }) need

offered_first : (b : Begun) (said : Said) (key : KeyEntry) (t : List Attr) (answer : RpcAnswer) → needs b.start (offered [] ∷ told_of_key key ∷ b.moves) ≡ Key t → record { begun = Some (behind_none b key); phase = phase_after (needs b.start (offered [] ∷ told_of_key key ∷ b.moves)) answer; starting = true; said = said } ≡ seeks (behind_none b key) said
offered_first b said key t answer need = ap (λ (n : Need). record { begun = Some (behind_none b key); phase = phase_after n answer; starting = true; said = said }) need

-- the conversation is where it was, whether there were no offers in between or not
same_begun : (begun : Option Held) (b : Begun) (key : KeyEntry) → IsKey (needs b.start b.moves) → is_sought (needs b.start (told_of_key key ∷ b.moves)) ≡ true → BothBegun begun (Some (behind_key b key)) → BothBegun begun (Some (behind_again b key))
same_begun None b key wanted sought both = both
same_begun (Some held) b key wanted sought both = record {
  machine = stands_again held.machine b.start b.moves (told_key key) (value_of (codes "!password") key.tuple) wanted sought both.machine;
  template = both.template;
  key = both.key;
}

same_again : (c : Conversation) (b : Begun) (said : Said) (key : KeyEntry) → IsKey (needs b.start b.moves) → is_sought (needs b.start (told_of_key key ∷ b.moves)) ≡ true → Law b key → Fits c (seeks (behind_key b key) said) → Fits c (seeks (behind_again b key) said)
same_again c b said key wanted sought law fits = record {
  carries = record { begun = same_begun c.begun b key wanted sought fits.carries.begun; starting = fits.carries.starting; said = fits.carries.said };
  phase = fits.phase;
  asked = subst (λ (n : Need). IsAsked c.phase (template_in n)) (sym law.again) fits.asked;
}

-- the second and the third search, behind the first that found a key
abbrev Goal : Conversation → Begun → Said → KeyEntry → Asking → KeyList → Type 0
Goal d b said key asking list = Fits d (searched_once asking list (searched_once asking list (seeks (behind_key b key) said)))

-- without offers it comes back to where it is
pub no_offers_is : (b : Begun) (said : Said) (key : KeyEntry) (t : List Attr) (asking : Asking) (list : KeyList) → needs b.start b.moves ≡ Key t → Law b key → needs b.start (told_of_key key ∷ b.moves) ≡ Offers t → found_by t (role_in b.start.template) said asking list ≡ Chosen key → offered_by t (role_in b.start.template) list ≡ [] → searched_once asking list (searched_once asking list (seeks (behind_key b key) said)) ≡ seeks (behind_again b key) said
no_offers_is b said key t asking list need law offers came none =
    let second : searched_once asking list (seeks (behind_key b key) said) ≡ seeks (behind_none b key) said =
    at_offers (behind_key b key) said asking list t offers
    ∙ (ap (λ (l : List ℕ). made (seeks (behind_key b key) said) (offered l) (Some (behind_key b key))) none
    ∙ offered_first b said key t (move_answer a.Ok None (answers b.start (told_of_key key ∷ b.moves) (offered []))) (law.empty ∙ need)) in
    let third : searched_once asking list (seeks (behind_none b key) said) ≡ seeks (behind_again b key) said =
    at_key (behind_none b key) said asking list t (Chosen key) (law.empty ∙ need) came
    ∙ found_first (behind_none b key) said key t (move_answer a.Ok (Some key) (answers b.start (offered [] ∷ told_of_key key ∷ b.moves) (told_of_key key))) (law.again ∙ offers) in
    ap (λ (s : Standing). searched_once asking list s) second ∙ third

no_offers : (c d : Conversation) (b : Begun) (said : Said) (key : KeyEntry) (t : List Attr) (asking : Asking) (list : KeyList) → needs b.start b.moves ≡ Key t → is_sought (needs b.start (told_of_key key ∷ b.moves)) ≡ true → Law b key → needs b.start (told_of_key key ∷ b.moves) ≡ Offers t → found_by t (role_in b.start.template) said asking list ≡ Chosen key → offered_by t (role_in b.start.template) list ≡ [] → d ≡ c → Fits c (seeks (behind_key b key) said) → Goal d b said key asking list
no_offers c d b said key t asking list need sought law offers came none same fits =
    let wanted : IsKey (needs b.start b.moves) = subst (λ (n : Need). IsKey n) (sym need) tt in
    subst (λ (s : Standing). Fits d s) (sym (no_offers_is b said key t asking list need law offers came none))
    (subst (λ (c : Conversation). Fits c (seeks (behind_again b key) said)) (sym same) (same_again c b said key wanted sought law fits))

-- with offers nothing is sought any more
abbrev pub with_offers : Begun → Said → KeyEntry → List ℕ → Standing
with_offers b said key given = made (seeks (behind_key b key) said) (offered given) (Some (behind_key b key))

pub some_offers_is : (b : Begun) (said : Said) (key : KeyEntry) (t : List Attr) (asking : Asking) (list : KeyList) (x : ℕ) (rest : List ℕ) → Law b key → needs b.start (told_of_key key ∷ b.moves) ≡ Offers t → offered_by t (role_in b.start.template) list ≡ x ∷ rest → searched_once asking list (searched_once asking list (seeks (behind_key b key) said)) ≡ with_offers b said key (offered_by t (role_in b.start.template) list)
some_offers_is b said key t asking list x rest law offers some =
    let given = offered_by t (role_in b.start.template) list in
    let done : needs b.start (offered given ∷ told_of_key key ∷ b.moves) ≡ Nothing = ap (λ (l : List ℕ). needs b.start (offered l ∷ told_of_key key ∷ b.moves)) some ∙ law.listed x rest in
    let rests : is_seeking (with_offers b said key given).phase ≡ false =
    ap (λ (n : Need). is_seeking (phase_after n (move_answer a.Ok None (answers b.start (told_of_key key ∷ b.moves) (offered given))))) done in
    ap (λ (s : Standing). searched_once asking list s) (at_offers (behind_key b key) said asking list t offers) ∙ stays asking list (with_offers b said key given) rests

some_offers : (c d : Conversation) (b : Begun) (said : Said) (key : KeyEntry) (t : List Attr) (asking : Asking) (list : KeyList) (x : ℕ) (rest : List ℕ) → Law b key → needs b.start (told_of_key key ∷ b.moves) ≡ Offers t → offered_by t (role_in b.start.template) list ≡ x ∷ rest → UsesList c d (offered_by t (role_in b.start.template) list) → Fits c (seeks (behind_key b key) said) → Goal d b said key asking list
some_offers c d b said key t asking list x rest law offers some uses fits =
    subst (λ (s : Standing). Fits d s) (sym (some_offers_is b said key t asking list x rest law offers some))
    (uses.listed (seeks (behind_key b key) said) x rest some fits refl (subst (λ (n : Need). IsOffers n) (sym offers) tt))

-- by the list that was made ahead
by_list : (c d : Conversation) (b : Begun) (said : Said) (key : KeyEntry) (t : List Attr) (asking : Asking) (list : KeyList) (given : List ℕ) → needs b.start b.moves ≡ Key t → is_sought (needs b.start (told_of_key key ∷ b.moves)) ≡ true → Law b key → needs b.start (told_of_key key ∷ b.moves) ≡ Offers t → found_by t (role_in b.start.template) said asking list ≡ Chosen key → offered_by t (role_in b.start.template) list ≡ given → UsesList c d (offered_by t (role_in b.start.template) list) → Fits c (seeks (behind_key b key) said) → Goal d b said key asking list
by_list c d b said key t asking list [] need sought law offers came none uses fits = no_offers c d b said key t asking list need sought law offers came none (uses.empty none) fits
by_list c d b said key t asking list (x ∷ rest) need sought law offers came some uses fits = some_offers c d b said key t asking list x rest law offers some uses fits

pub unsought : (need : Need) (answer : RpcAnswer) → is_sought need ≡ false → is_seeking (phase_after need answer) ≡ false
unsought Nothing answer e = refl
unsought (Key template) answer e = absurd (never (sym e))
unsought (Offers template) answer e = absurd (never (sym e))
unsought (Pick templates) answer e = absurd (never (sym e))
unsought (Exchange request shape) answer e = refl

-- whether something is sought behind the key
by_need : (c d : Conversation) (b : Begun) (said : Said) (key : KeyEntry) (t : List Attr) (asking : Asking) (list : KeyList) (more : Bool) → needs b.start b.moves ≡ Key t → found_by t (role_in b.start.template) said asking list ≡ Chosen key → is_sought (needs b.start (told_of_key key ∷ b.moves)) ≡ more → UsesList c d (offered_by t (role_in b.start.template) list) → Fits c (searched_once asking list (seeks b said)) → Fits d (searched asking list (seeks b said))
by_need c d b said key t asking list true need came sought uses fits =
    let wanted : IsKey (needs b.start b.moves) = subst (λ (n : Need). IsKey n) (sym need) tt in
    let law : Law b key = behind b.start b.moves (told_key key) (value_of (codes "!password") key.tuple) wanted sought in
    let offers : needs b.start (told_of_key key ∷ b.moves) ≡ Offers t = law.offers ∙ ap (λ (n : Need). Offers (template_in n)) need in
    let first : searched_once asking list (seeks b said) ≡ seeks (behind_key b key) said =
    at_key b said asking list t (Chosen key) need came ∙ found_first b said key t (move_answer a.Ok (Some key) (answers b.start b.moves (told_of_key key))) offers in
    subst (λ (s : Standing). Fits d (searched_once asking list (searched_once asking list s))) (sym first)
    (by_list c d b said key t asking list (offered_by t (role_in b.start.template) list) need sought law offers came refl uses (subst (λ (s : Standing). Fits c s) first fits))
by_need c d b said key t asking list false need came sought uses fits =
    quiet_by c d _ (searched_once asking list (seeks b said)) (with_key (seeks b said) key (Some b)) asking list (at_key b said asking list t (Chosen key) need came)
    (unsought (needs b.start (told_of_key key ∷ b.moves)) (move_answer a.Ok (Some key) (answers b.start b.moves (told_of_key key))) sought) fits uses

-- whatever the first search comes to
by_found : (c d : Conversation) (b : Begun) (said : Said) (t : List Attr) (asking : Asking) (list : KeyList) (came : Found) → needs b.start b.moves ≡ Key t → found_by t (role_in b.start.template) said asking list ≡ came → is_for (Key t) came ≡ true → UsesList c d (offered_by t (role_in b.start.template) list) → Fits c (searched_once asking list (seeks b said)) → Fits d (searched asking list (seeks b said))
by_found c d b said t asking list (Chosen key) need came is uses fits = by_need c d b said key t asking list (is_sought (needs b.start (told_of_key key ∷ b.moves))) need came refl uses fits
by_found c d b said t asking list (AsksConsent key) need came is uses fits = quiet_by c d _ _ _ asking list (at_key b said asking list t (AsksConsent key) need came) refl fits uses
by_found c d b said t asking list AsksKey need came is uses fits = quiet_by c d _ _ _ asking list (at_key b said asking list t AsksKey need came) refl fits uses
by_found c d b said t asking list Denied need came is uses fits = quiet_by c d _ _ _ asking list (at_key b said asking list t Denied need came) refl fits uses
by_found c d b said t asking list NoneServes need came is uses fits = quiet_by c d _ _ _ asking list (at_key b said asking list t NoneServes need came) refl fits uses
by_found c d b said t asking list (Offered l) need came is uses fits = absurd (never is)
by_found c d b said t asking list (Picked place) need came is uses fits = absurd (never is)

by_key : (c d : Conversation) (b : Begun) (said : Said) (asking : Asking) (list : KeyList) (given : List ℕ) (need : Need) → needs b.start b.moves ≡ need → IsKey need → given ≡ offered_by (template_in need) (role_in b.start.template) list → UsesList c d given → Fits c (searched_once asking list (seeks b said)) → Fits d (searched asking list (seeks b said))
by_key c d b said asking list given Nothing need key is uses fits = absurd key
by_key c d b said asking list given (Key t) need key is uses fits =
    by_found c d b said t asking list (found_by t (role_in b.start.template) said asking list) need refl (key_is_for t (role_in b.start.template) said asking list)
    (subst (λ (l : List ℕ). UsesList c d l) is uses) fits
by_key c d b said asking list given (Offers t) need key is uses fits = absurd key
by_key c d b said asking list given (Pick ts) need key is uses fits = absurd key
by_key c d b said asking list given (Exchange request shape) need key is uses fits = absurd key

-- ---- a conversation goes on

-- all searches of a start, where its list of offers was made ahead
start_on : (c d : Conversation) (begun : Option Begun) (said : Said) (asking : Asking) (list : KeyList) (given : List ℕ) → IsKey (need_in begun) → given ≡ offered_by (template_of begun) (role_name begun) list → UsesList c d given → Fits c (searched_once asking list (record { begun = begun; phase = Seeking; starting = true; said = said })) → Fits d (searched asking list (record { begun = begun; phase = Seeking; starting = true; said = said }))
start_on c d None said asking list given key is uses fits = absurd key
start_on c d (Some b) said asking list given key is uses fits = by_key c d b said asking list given (needs b.start b.moves) refl key is uses fits

abbrev sought_by : Standing → Bool → Standing
sought_by s starting = record { begun = s.begun; phase = Seeking; starting = starting; said = s.said }

go : (c d : Conversation) (s : Standing) (starting : Bool) (asking : Asking) (list : KeyList) (given : List ℕ) → IsKey (need_in s.begun) → (starting ≡ false → given ≡ []) → (starting ≡ true → given ≡ offered_by (template_of s.begun) (role_name s.begun) list) → UsesList c d given → Fits c (searched_once asking list (sought_by s starting)) → Fits d (searched asking list (sought_by s starting))
go c d s true asking list given key none is uses fits = start_on c d s.begun s.said asking list given key (is refl) uses fits
go c d s false asking list given key none is uses fits = subst (λ (c : Conversation). Fits c (searched_once asking list (sought_by s false))) (sym (uses.empty (none refl))) fits

-- it seeks something from now on
abbrev pub now_in : Conversation → HeldPhase → Conversation
now_in c phase = record { begun = c.begun; phase = phase; starting = c.starting; said = c.said }

seeks_now : (c : Conversation) (s : Standing) → Carries c s → Fits (now_in c held.Seeking) (in_phase s Seeking)
seeks_now c s carries = record { carries = record { begun = carries.begun; starting = carries.starting; said = carries.said }; phase = refl; asked = tt }

pub seeks_in : (c : Conversation) (phase : HeldPhase) (s : Standing) → phase ≡ held.Seeking → Carries c s → Fits (now_in c phase) (in_phase s Seeking)
seeks_in c phase s is carries = subst (λ (p : HeldPhase). Fits (now_in c p) (in_phase s Seeking)) (sym is) (seeks_now c s carries)

pub goes_on : (old between new : Conversation) (phase : HeldPhase) (s : Standing) (asking : Asking) (list : KeyList) (given : List ℕ) → phase ≡ held.Seeking → Carries old s → IsKey (need_in s.begun) → (old.starting ≡ false → given ≡ []) → (old.starting ≡ true → (s : Standing) → Carries old s → IsKey (need_in s.begun) → given ≡ offered_by (template_of s.begun) (role_name s.begun) list) → ((s : Standing) → Fits (now_in old phase) s → Fits between (searched_once asking list s)) → UsesList between new given → Fits new (searched asking list (in_phase s Seeking))
goes_on old between new phase s asking list given seeks carries key none is searches uses =
    go between new s s.starting asking list given key (λ e. none (carries.starting ∙ e)) (λ e. is (carries.starting ∙ e) s carries key) uses
    (searches (in_phase s Seeking) (subst (λ (p : HeldPhase). Fits (now_in old p) (in_phase s Seeking)) (sym seeks) (seeks_now old s carries)))

-- ---- behind the user's answer

-- he isn't asked that
not_consent : (s : Standing) (phase : Phase) (agrees : Bool) → serial_in phase ≡ None → then_stands s phase (Consented agrees) ≡ s
not_consent s Resting agrees e = refl
not_consent s (Waiting request) agrees e = refl
not_consent s Seeking agrees e = refl
not_consent s (OnConfirm serial) agrees e = absurd cc
not_consent s OnNeedkey agrees e = refl
not_consent s OnServer agrees e = refl
not_consent s (Kept answer) agrees e = refl

not_key : (s : Standing) (phase : Phase) → asks_for_key phase ≡ false → then_stands s phase KeyTold ≡ s
not_key s Resting e = refl
not_key s (Waiting request) e = refl
not_key s Seeking e = refl
not_key s (OnConfirm serial) e = refl
not_key s OnNeedkey e = absurd (never (sym e))
not_key s OnServer e = refl
not_key s (Kept answer) e = refl

asks_nothing : (phase : Phase) → asks_user phase ≡ true → is_seeking phase ≡ false
asks_nothing Resting e = refl
asks_nothing (Waiting request) e = refl
asks_nothing Seeking e = absurd (never e)
asks_nothing (OnConfirm serial) e = refl
asks_nothing OnNeedkey e = refl
asks_nothing OnServer e = refl
asks_nothing (Kept answer) e = refl

-- a call that can't come
unasked : (c : Conversation) (call : Call) (asking : Asking) (list : KeyList) (talk : List Call) (asks : Bool) → asks_user (standing talk).phase ≡ asks → standing (call ∷ talk) ≡ standing talk → Holds c talk → Holds c (if asks then with_search asking list (call ∷ talk) else call ∷ talk)
unasked c call asking list talk true asks same holds =
    subst (λ (s : Standing). Fits c s) (sym (standing_searched asking list (call ∷ talk)
    ∙ (ap (λ (s : Standing). searched asking list s) same ∙ rests_so asking list (standing talk) (asks_nothing (standing talk).phase asks)))) holds
unasked c call asking list talk false asks same holds = subst (λ (s : Standing). Fits c s) (sym same) holds

pub no_consent : (c : Conversation) (agrees : Bool) (asking : Asking) (list : KeyList) (talk : List Call) → serial_in (phase_of c.phase) ≡ None → Holds c talk → Holds c (with_answer (Consented agrees) asking list talk)
no_consent c agrees asking list talk none holds =
    unasked c (Consented agrees) asking list talk (asks_user (standing talk).phase) refl
    (not_consent (standing talk) (standing talk).phase agrees (ap (λ (p : Phase). serial_in p) (sym holds.phase) ∙ none)) holds

pub no_key : (c : Conversation) (asking : Asking) (list : KeyList) (talk : List Call) → asks_for_key (phase_of c.phase) ≡ false → Holds c talk → Holds c (with_answer KeyTold asking list talk)
no_key c asking list talk none holds =
    unasked c KeyTold asking list talk (asks_user (standing talk).phase) refl
    (not_key (standing talk) (standing talk).phase (ap (λ (p : Phase). asks_for_key p) (sym holds.phase) ∙ none)) holds

pub on_confirm : (phase : Phase) (serial : ℕ) → serial_in phase ≡ Some serial → phase ≡ OnConfirm serial
on_confirm Resting serial e = absurd cc
on_confirm (Waiting request) serial e = absurd cc
on_confirm Seeking serial e = absurd cc
on_confirm (OnConfirm n) serial e = cc
on_confirm OnNeedkey serial e = absurd cc
on_confirm OnServer serial e = absurd cc
on_confirm (Kept answer) serial e = absurd cc

pub on_needkey : (phase : Phase) → asks_for_key phase ≡ true → phase ≡ OnNeedkey
on_needkey Resting e = absurd (never e)
on_needkey (Waiting request) e = absurd (never e)
on_needkey Seeking e = absurd (never e)
on_needkey (OnConfirm n) e = absurd (never e)
on_needkey OnNeedkey e = refl
on_needkey OnServer e = absurd (never e)
on_needkey (Kept answer) e = absurd (never e)

-- he was asked, and the request goes on
pub answered_is : (call : Call) (asking : Asking) (list : KeyList) (talk : List Call) (phase : Phase) (s : Standing) → (standing talk).phase ≡ phase → asks_user phase ≡ true → then_stands (standing talk) phase call ≡ s → standing (with_answer call asking list talk) ≡ searched asking list s
answered_is call asking list talk phase s is asks comes =
    ap (λ (test : Bool). standing (if test then with_search asking list (call ∷ talk) else call ∷ talk)) (ap (λ (p : Phase). asks_user p) is ∙ asks)
    ∙ (standing_searched asking list (call ∷ talk)
    ∙ ap (λ (t : Standing). searched asking list t) (ap (λ (p : Phase). then_stands (standing talk) p call) is ∙ comes))

answered_so : (c : Conversation) (call : Call) (asking : Asking) (list : KeyList) (talk : List Call) (phase : Phase) (s : Standing) → (standing talk).phase ≡ phase → asks_user phase ≡ true → then_stands (standing talk) phase call ≡ s → Fits c (searched asking list s) → Holds c (with_answer call asking list talk)
answered_so c call asking list talk phase s is asks comes fits = subst (λ (t : Standing). Fits c t) (sym (answered_is call asking list talk phase s is asks comes)) fits

pub agreed_so : (c d : Conversation) (agrees : Bool) (serial : ℕ) (asking : Asking) (list : KeyList) (talk : List Call) → serial_in (phase_of c.phase) ≡ Some serial → Holds c talk → Fits d (searched asking list (told_of serial agrees (standing talk))) → Holds d (with_answer (Consented agrees) asking list talk)
agreed_so c d agrees serial asking list talk asked holds fits =
    answered_so d (Consented agrees) asking list talk (OnConfirm serial) (told_of serial agrees (standing talk))
    (on_confirm (standing talk).phase serial (ap (λ (p : Phase). serial_in p) (sym holds.phase) ∙ asked)) refl refl fits

pub told_so : (c d : Conversation) (asking : Asking) (list : KeyList) (talk : List Call) → asks_for_key (phase_of c.phase) ≡ true → Holds c talk → Fits d (searched asking list (in_phase (standing talk) Seeking)) → Holds d (with_answer KeyTold asking list talk)
told_so c d asking list talk asked holds fits =
    answered_so d KeyTold asking list talk OnNeedkey (in_phase (standing talk) Seeking)
    (on_needkey (standing talk).phase (ap (λ (p : Phase). asks_for_key p) (sym holds.phase) ∙ asked)) refl refl fits

-- he is asked
pub asks_consent : (phase : Phase) (serial : ℕ) → serial_in phase ≡ Some serial → asks_user phase ≡ true
asks_consent phase serial e = ap (λ (p : Phase). asks_user p) (on_confirm phase serial e)

pub asks_key : (phase : Phase) → asks_for_key phase ≡ true → asks_user phase ≡ true
asks_key phase e = ap (λ (p : Phase). asks_user p) (on_needkey phase e)

-- and what he said is noted
pub noted : (c : Conversation) (s : Standing) (serial : ℕ) (agrees : Bool) (said : Said) → said ≡ says_of serial agrees c.said → Carries c s → Carries (record { begun = c.begun; phase = c.phase; starting = c.starting; said = said }) (record { begun = s.begun; phase = s.phase; starting = s.starting; said = says_of serial agrees s.said })
noted c s serial agrees said is carries = record { begun = carries.begun; starting = carries.starting; said = is ∙ ap (λ (t : Said). says_of serial agrees t) carries.said }
