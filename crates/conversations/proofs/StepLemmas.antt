-- What a conversation is when what was begun of it met a move: it stands as the definitions say.
use Rattle.std.proofs.Common.{◌≡◌, ℕ, List, Bool, true, false, Option, Some, None, ap, sym, subst, ◌∙◌}
use Rattle.attr_tuples.specs.declared.attr.Attr.{Attr}
use Rattle.key_lists.specs.Lists.{KeyEntry, KeyList}
use Rattle.roles.specs.declared.need.Need.{Need}
use Rattle.roles.specs.declared.need.Need.TheVariants.{Nothing, Key, Offers, Pick, Exchange}
use Rattle.roles.specs.Answers.{IsOffers, IsPick}
use Rattle.roles.specs.Talks.{offered, picked}
use Rattle.talks.specs.declared.answer.RpcAnswer.{RpcAnswer}
use Rattle.talks.specs.declared.answer.RpcAnswer.TheVariants as a
use Rattle.talks.specs.Answers.{move_answer}
use Rattle.talks.specs.Calls.{Found, Offered, Picked}
use Rattle.talks.specs.declared.said.Said.{Said}
use Rattle.talks.specs.declared.said.Asking.{Asking}
use Rattle.talks.specs.Protocols.{answers, needs}
use Rattle.talks.specs.Standings.{Begun, Phase, Resting, Waiting, Seeking, OnConfirm, OnNeedkey, OnServer, Kept, Standing, chosen_for, finds, found_for, made, moved, need_in, phase_after, role_in, role_name, sought, told_of_key, with_key, with_move}
use Rattle.conversations.specs.declared.begun.Begun.{Begun as Held}
use Rattle.conversations.specs.declared.conversation.Conversation.{Conversation}
use Rattle.conversations.specs.declared.phase.Phase.{Phase as HeldPhase}
use Rattle.conversations.specs.declared.phase.Phase.TheVariants as held
use Rattle.conversations.specs.Begins.{Becomes, IsBegun, IsOfferedBy, IsPickedBy}
use Rattle.conversations.specs.Fits.{BothBegun, Carries, Fits, IsAsked}
use Rattle.conversations.specs.Meanings.{phase_of}

-- of a conversation whose begun part is this, in this phase
abbrev pub after : Conversation → Held → HeldPhase → Conversation
after c new phase = record { begun = Some new; phase = phase; starting = c.starting; said = c.said }

-- ---- no template is asked of a user behind a move

never : false ≡ true → ⊥
never e = cc

abbrev is_needkey : Phase → Bool
is_needkey Resting = false
is_needkey (Waiting request) = false
is_needkey Seeking = false
is_needkey (OnConfirm serial) = false
is_needkey OnNeedkey = true
is_needkey OnServer = false
is_needkey (Kept answer) = false

needs_none : (need : Need) (answer : RpcAnswer) → is_needkey (phase_after need answer) ≡ true → ⊥
needs_none Nothing answer e = never e
needs_none (Key template) answer e = never e
needs_none (Offers template) answer e = never e
needs_none (Pick templates) answer e = never e
needs_none (Exchange request shape) answer e = never e

none_asked : (phase : HeldPhase) (template : List Attr) (need : Need) (answer : RpcAnswer) → phase_of phase ≡ phase_after need answer → IsAsked phase template
none_asked held.Resting template need answer e = tt
none_asked (held.Waiting request) template need answer e = tt
none_asked held.Seeking template need answer e = tt
none_asked (held.OnConfirm serial) template need answer e = tt
none_asked (held.OnNeedkey asked) template need answer e = absurd (needs_none need answer (sym (ap is_needkey e)))
none_asked held.OnServer template need answer e = tt
none_asked (held.Kept kept) template need answer e = tt

-- ---- a move was made

fits_moved : (c : Conversation) (new : Held) (phase : HeldPhase) (s : Standing) (b : Begun) (answer : RpcAnswer) → Carries c s → Becomes new phase b answer → Fits (after c new phase) (moved s b answer)
fits_moved c new phase s b answer carries becomes =
    record {
      carries = record { begun = becomes.begun; starting = carries.starting; said = carries.said };
      phase = becomes.leads;
      asked = none_asked phase _ (needs b.start b.moves) answer becomes.leads;
    }

pub both_so : (c : Conversation) (kept : Held) (s : Standing) → c.begun ≡ Some kept → Carries c s → BothBegun (Some kept) s.begun
both_so c kept s is carries = subst (λ (begun : Option Held). BothBegun begun s.begun) is carries.begun

pub fits_key : (c : Conversation) (kept new : Held) (phase : HeldPhase) (key : KeyEntry) (s : Standing) (begun : Option Begun) → BothBegun (Some kept) begun → Carries c s → ((b : Begun) → IsBegun kept b → Becomes new phase (chosen_for key b) (move_answer a.Ok (Some key) (answers b.start b.moves (told_of_key key)))) → Fits (after c new phase) (with_key s key begun)
fits_key c kept new phase key s None both carries becomes = absurd both
fits_key c kept new phase key s (Some b) both carries becomes = fits_moved c new phase s (chosen_for key b) (move_answer a.Ok (Some key) (answers b.start b.moves (told_of_key key))) carries (becomes b both)

-- ---- offers came, or a pick

is_offered : (need : Need) (role given : List ℕ) (said : Said) (asking : Asking) (list : KeyList) → IsOffers need → IsOfferedBy given need role list → found_for need role said asking list ≡ Offered given
is_offered Nothing role given said asking list wanted is = absurd wanted
is_offered (Key template) role given said asking list wanted is = absurd wanted
is_offered (Offers template) role given said asking list wanted is = ap (λ (l : List ℕ). Offered l) (sym is)
is_offered (Pick templates) role given said asking list wanted is = absurd wanted
is_offered (Exchange request shape) role given said asking list wanted is = absurd wanted

made_offers : (c : Conversation) (kept new : Held) (phase : HeldPhase) (given : List ℕ) (s : Standing) (asking : Asking) (list : KeyList) (begun : Option Begun) → BothBegun (Some kept) begun → Carries c s → IsOffers (need_in begun) → ((b : Begun) → IsBegun kept b → IsOfferedBy given (needs b.start b.moves) (role_in b.start.template) list) → ((b : Begun) → IsBegun kept b → IsOffers (needs b.start b.moves) → Becomes new phase (with_move b (offered given)) (move_answer a.Ok b.key (answers b.start b.moves (offered given)))) → (found_for (need_in begun) (role_name begun) s.said asking list ≡ Offered given) × Fits (after c new phase) (made s (offered given) begun)
made_offers c kept new phase given s asking list None both carries wanted listed becomes = absurd both
made_offers c kept new phase given s asking list (Some b) both carries wanted listed becomes = (
  is_offered (needs b.start b.moves) (role_in b.start.template) given s.said asking list wanted (listed b both),
  fits_moved c new phase s (with_move b (offered given)) (move_answer a.Ok b.key (answers b.start b.moves (offered given))) carries (becomes b both wanted),
)

pub fits_offers : (c : Conversation) (kept new : Held) (phase : HeldPhase) (given : List ℕ) (s : Standing) (asking : Asking) (list : KeyList) → c.begun ≡ Some kept → Carries c s → IsOffers (need_in s.begun) → ((b : Begun) → IsBegun kept b → IsOfferedBy given (needs b.start b.moves) (role_in b.start.template) list) → ((b : Begun) → IsBegun kept b → IsOffers (needs b.start b.moves) → Becomes new phase (with_move b (offered given)) (move_answer a.Ok b.key (answers b.start b.moves (offered given)))) → Fits (after c new phase) (sought s (finds s asking list))
unfolding finds
fits_offers c kept new phase given s asking list is carries wanted listed becomes =
    let so = made_offers c kept new phase given s asking list s.begun (both_so c kept s is carries) carries wanted listed becomes in
    subst (λ (came : Found). Fits (after c new phase) (sought s came)) (sym so.0) so.1

is_picked : (need : Need) (role : List ℕ) (place : ℕ) (said : Said) (asking : Asking) (list : KeyList) → IsPick need → IsPickedBy place need role list → found_for need role said asking list ≡ Picked place
is_picked Nothing role place said asking list wanted is = absurd wanted
is_picked (Key template) role place said asking list wanted is = absurd wanted
is_picked (Offers template) role place said asking list wanted is = absurd wanted
is_picked (Pick templates) role place said asking list wanted is = ap (λ (n : ℕ). Picked n) (sym is)
is_picked (Exchange request shape) role place said asking list wanted is = absurd wanted

made_pick : (c : Conversation) (kept new : Held) (phase : HeldPhase) (place : ℕ) (s : Standing) (asking : Asking) (list : KeyList) (begun : Option Begun) → BothBegun (Some kept) begun → Carries c s → IsPick (need_in begun) → ((b : Begun) → IsBegun kept b → IsPickedBy place (needs b.start b.moves) (role_in b.start.template) list) → ((b : Begun) → IsBegun kept b → IsPick (needs b.start b.moves) → Becomes new phase (with_move b (picked place)) (move_answer a.Ok b.key (answers b.start b.moves (picked place)))) → (found_for (need_in begun) (role_name begun) s.said asking list ≡ Picked place) × Fits (after c new phase) (made s (picked place) begun)
made_pick c kept new phase place s asking list None both carries wanted listed becomes = absurd both
made_pick c kept new phase place s asking list (Some b) both carries wanted listed becomes = (
  is_picked (needs b.start b.moves) (role_in b.start.template) place s.said asking list wanted (listed b both),
  fits_moved c new phase s (with_move b (picked place)) (move_answer a.Ok b.key (answers b.start b.moves (picked place))) carries (becomes b both wanted),
)

pub fits_pick : (c : Conversation) (kept new : Held) (phase : HeldPhase) (place : ℕ) (s : Standing) (asking : Asking) (list : KeyList) → c.begun ≡ Some kept → Carries c s → IsPick (need_in s.begun) → ((b : Begun) → IsBegun kept b → IsPickedBy place (needs b.start b.moves) (role_in b.start.template) list) → ((b : Begun) → IsBegun kept b → IsPick (needs b.start b.moves) → Becomes new phase (with_move b (picked place)) (move_answer a.Ok b.key (answers b.start b.moves (picked place)))) → Fits (after c new phase) (sought s (finds s asking list))
unfolding finds
fits_pick c kept new phase place s asking list is carries wanted listed becomes =
    let so = made_pick c kept new phase place s asking list s.begun (both_so c kept s is carries) carries wanted listed becomes in
    subst (λ (came : Found). Fits (after c new phase) (sought s came)) (sym so.0) so.1

-- the same where the list was made ahead
list_so : (c : Conversation) (kept new : Held) (phase : HeldPhase) (given : List ℕ) (s : Standing) (begun : Option Begun) → BothBegun (Some kept) begun → Carries c s → IsOffers (need_in begun) → ((b : Begun) → IsBegun kept b → IsOffers (needs b.start b.moves) → Becomes new phase (with_move b (offered given)) (move_answer a.Ok b.key (answers b.start b.moves (offered given)))) → Fits (after c new phase) (made s (offered given) begun)
list_so c kept new phase given s None both carries wanted becomes = absurd both
list_so c kept new phase given s (Some b) both carries wanted becomes = fits_moved c new phase s (with_move b (offered given)) (move_answer a.Ok b.key (answers b.start b.moves (offered given))) carries (becomes b both wanted)

pub fits_list : (c : Conversation) (kept new : Held) (phase : HeldPhase) (given : List ℕ) (s : Standing) → c.begun ≡ Some kept → Carries c s → IsOffers (need_in s.begun) → ((b : Begun) → IsBegun kept b → IsOffers (needs b.start b.moves) → Becomes new phase (with_move b (offered given)) (move_answer a.Ok b.key (answers b.start b.moves (offered given)))) → Fits (after c new phase) (made s (offered given) s.begun)
fits_list c kept new phase given s is carries wanted becomes = list_so c kept new phase given s s.begun (both_so c kept s is carries) carries wanted becomes
