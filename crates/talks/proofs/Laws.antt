-- Laws of what is needed and answered after a talk, whatever the protocol is.
use Rattle.std.proofs.Common.{◌≡◌, ℕ, List, [], ◌∷◌, Bool, true, false, Option, Some, None, refl, ◌⊎◌, inl, inr}
use Rattle.roles.specs.declared.answer.Cause.{Cause}
use Rattle.roles.specs.declared.answer.Cause.TheVariants.{NoServer, NoRoom}
use Rattle.roles.specs.declared.answer.Gave.{Gave}
use Rattle.roles.specs.declared.answer.Gave.TheVariants as g
use Rattle.roles.specs.declared.key.SkKey.{SkKey}
use Rattle.roles.specs.declared.need.Need.{Need}
use Rattle.roles.specs.declared.need.Need.TheVariants.{Nothing}
use Rattle.roles.specs.Answers.{IsExchange, IsKey, IsOffers, IsPick, is_sought}
use Rattle.roles.specs.Starts.{Start}
use Rattle.roles.specs.Talks.{Call, found, heard, offered, picked, roomless, undone, unheard}
use Rattle.roles.specs.Courses.{answer_of, need_unless, unless_broken}
use Rattle.roles.proofs.NeedLaws.{p9sk1_seeks}
use Rattle.conv_p9any.specs.declared.stage.Stage.TheVariants.{ServerOffers, ServerKey, ServerFirst, ServerSecond, ClientFirst, ClientPick, ClientSecond, ClientThird}
use Rattle.conv_p9any.specs.Talks.{Standing, choosing, within}
use Rattle.conv_p9any.specs.Courses as choice
use Rattle.conv_p9any.proofs.NeedLaws as any
use Rattle.conv_challenge.proofs.NeedLaws as mail
use Rattle.talks.specs.Protocols.{Protocol, P9sk1, P9any, Mail, answers, answers_by, needs, needs_by, p9sk1, protocol_of}

-- ---- what is sought is taken back, and each search ends

undone_by : (p : Protocol) (start : Start) (talk : List Call) (call : Call) → needs_by p start talk ≡ Nothing → is_sought (needs_by p start (call ∷ talk)) ≡ true → needs_by p start (undone ∷ call ∷ talk) ≡ Nothing
undone_by P9sk1 start talk call none sought = p9sk1_seeks.undone_needs start talk call none sought
undone_by P9any start talk call none sought = any.undone_needs p9sk1 p9sk1_seeks start talk call none sought
undone_by Mail start talk call none sought = mail.undone_needs start talk call none sought

pub undone_needs : (start : Start) (talk : List Call) (call : Call) → needs start talk ≡ Nothing → is_sought (needs start (call ∷ talk)) ≡ true → needs start (undone ∷ call ∷ talk) ≡ Nothing
undone_needs start talk call none sought = undone_by (protocol_of start.template) start talk call none sought

found_by : (p : Protocol) (start : Start) (talk : List Call) (key : SkKey) (password : Option (List ℕ)) → IsKey (needs_by p start talk) → needs_by p start (undone ∷ talk) ≡ Nothing → is_sought (needs_by p start (found key password ∷ talk)) ≡ false
found_by P9sk1 start talk key password wanted none = p9sk1_seeks.found_needs start talk key password wanted
found_by P9any start talk key password wanted none = any.found_needs p9sk1 p9sk1_seeks start talk key password wanted none
found_by Mail start talk key password wanted none = mail.found_needs start talk key password wanted

pub found_needs : (start : Start) (talk : List Call) (key : SkKey) (password : Option (List ℕ)) → IsKey (needs start talk) → needs start (undone ∷ talk) ≡ Nothing → is_sought (needs start (found key password ∷ talk)) ≡ false
found_needs start talk key password wanted none = found_by (protocol_of start.template) start talk key password wanted none

picked_by : (p : Protocol) (start : Start) (talk : List Call) (place : ℕ) → IsPick (needs_by p start talk) → is_sought (needs_by p start (picked place ∷ talk)) ≡ false
picked_by P9sk1 start talk place wanted = absurd (p9sk1_seeks.never_picks start talk wanted)
picked_by P9any start talk place wanted = any.picked_needs p9sk1 p9sk1_seeks start talk place wanted
picked_by Mail start talk place wanted = absurd (mail.never_picks start talk wanted)

pub picked_needs : (start : Start) (talk : List Call) (place : ℕ) → IsPick (needs start talk) → is_sought (needs start (picked place ∷ talk)) ≡ false
picked_needs start talk place wanted = picked_by (protocol_of start.template) start talk place wanted

-- offers are needed by starts alone
stay_by : (p : Protocol) (start : Start) (talk : List Call) → IsOffers (needs_by p start talk) → needs_by p start (undone ∷ talk) ≡ Nothing → ⊥
stay_by P9sk1 start talk wanted none = p9sk1_seeks.never_offers start talk wanted
stay_by P9any start talk wanted none = any.offers_stay p9sk1 p9sk1_seeks start talk wanted none
stay_by Mail start talk wanted none = mail.never_offers start talk wanted

pub offers_stay : (start : Start) (talk : List Call) → IsOffers (needs start talk) → needs start (undone ∷ talk) ≡ Nothing → ⊥
offers_stay start talk wanted none = stay_by (protocol_of start.template) start talk wanted none

-- ---- offers and picks are answered well

-- it is answered that it is done, or that something is needed first
abbrev pub IsWell : Gave → Type 0
IsWell gave = (gave ≡ g.Ok) ⊎ (gave ≡ g.Wait)

offers_well : (list : List ℕ) → IsWell (answer_of (choice.offers_came list))
offers_well [] = inr refl
offers_well (b ∷ list) = inl refl

any_offered : (start : Start) (stage : Standing) (broken : Option Cause) (list : List ℕ) → IsOffers (need_unless broken (choice.need_of p9sk1 start stage)) → IsWell (answer_of (unless_broken broken (choice.move p9sk1 start stage (offered list))))
any_offered start stage (Some cause) list wanted = absurd wanted
any_offered start (choosing ServerOffers) None list wanted = offers_well list
any_offered start (choosing ServerKey) None list wanted = absurd wanted
any_offered start (choosing (ServerFirst l)) None list wanted = absurd wanted
any_offered start (choosing (ServerSecond l)) None list wanted = absurd wanted
any_offered start (choosing ClientFirst) None list wanted = absurd wanted
any_offered start (choosing (ClientPick l)) None list wanted = absurd wanted
any_offered start (choosing (ClientSecond l place)) None list wanted = absurd wanted
any_offered start (choosing (ClientThird l place)) None list wanted = absurd wanted
any_offered start (within before text talk) None list wanted = absurd (p9sk1_seeks.never_offers (choice.chosen_start p9sk1 start text) talk wanted)

offered_by : (p : Protocol) (start : Start) (talk : List Call) (list : List ℕ) → IsOffers (needs_by p start talk) → IsWell (answers_by p start talk (offered list))
offered_by P9sk1 start talk list wanted = absurd (p9sk1_seeks.never_offers start talk wanted)
offered_by P9any start talk list wanted = any_offered start (choice.course p9sk1 start talk).stage (choice.course p9sk1 start talk).broken list wanted
offered_by Mail start talk list wanted = absurd (mail.never_offers start talk wanted)

pub offered_well : (start : Start) (talk : List Call) (list : List ℕ) → IsOffers (needs start talk) → IsWell (answers start talk (offered list))
offered_well start talk list wanted = offered_by (protocol_of start.template) start talk list wanted

any_picked : (start : Start) (stage : Standing) (broken : Option Cause) (place : ℕ) → IsPick (need_unless broken (choice.need_of p9sk1 start stage)) → IsWell (answer_of (unless_broken broken (choice.move p9sk1 start stage (picked place))))
any_picked start stage (Some cause) place wanted = absurd wanted
any_picked start (choosing ServerOffers) None place wanted = absurd wanted
any_picked start (choosing ServerKey) None place wanted = absurd wanted
any_picked start (choosing (ServerFirst l)) None place wanted = absurd wanted
any_picked start (choosing (ServerSecond l)) None place wanted = absurd wanted
any_picked start (choosing ClientFirst) None place wanted = absurd wanted
any_picked start (choosing (ClientPick l)) None place wanted = inl refl
any_picked start (choosing (ClientSecond l p)) None place wanted = absurd wanted
any_picked start (choosing (ClientThird l p)) None place wanted = absurd wanted
any_picked start (within before text talk) None place wanted = absurd (p9sk1_seeks.never_picks (choice.chosen_start p9sk1 start text) talk wanted)

place_by : (p : Protocol) (start : Start) (talk : List Call) (place : ℕ) → IsPick (needs_by p start talk) → IsWell (answers_by p start talk (picked place))
place_by P9sk1 start talk place wanted = absurd (p9sk1_seeks.never_picks start talk wanted)
place_by P9any start talk place wanted = any_picked start (choice.course p9sk1 start talk).stage (choice.course p9sk1 start talk).broken place wanted
place_by Mail start talk place wanted = absurd (mail.never_picks start talk wanted)

pub picked_well : (start : Start) (talk : List Call) (place : ℕ) → IsPick (needs start talk) → IsWell (answers start talk (picked place))
picked_well start talk place wanted = place_by (protocol_of start.template) start talk place wanted

-- ---- the authentication server is done with

heard_by : (p : Protocol) (start : Start) (talk : List Call) (bytes : List ℕ) → IsExchange (needs_by p start talk) → needs_by p start (heard bytes ∷ talk) ≡ Nothing
heard_by P9sk1 start talk bytes asked = p9sk1_seeks.heard_needs start talk bytes asked
heard_by P9any start talk bytes asked = any.heard_needs p9sk1 p9sk1_seeks start talk bytes asked
heard_by Mail start talk bytes asked = mail.heard_needs start talk bytes asked

pub heard_needs : (start : Start) (talk : List Call) (bytes : List ℕ) → IsExchange (needs start talk) → needs start (heard bytes ∷ talk) ≡ Nothing
heard_needs start talk bytes asked = heard_by (protocol_of start.template) start talk bytes asked

unheard_by : (p : Protocol) (start : Start) (talk : List Call) → IsExchange (needs_by p start talk) → (needs_by p start (unheard ∷ talk) ≡ Nothing) × (answers_by p start talk unheard ≡ g.Refused NoServer)
unheard_by P9sk1 start talk asked = (p9sk1_seeks.unheard_needs start talk asked, p9sk1_seeks.unheard_tells start talk asked)
unheard_by P9any start talk asked = (any.unheard_needs p9sk1 p9sk1_seeks start talk asked, any.unheard_tells p9sk1 p9sk1_seeks start talk asked)
unheard_by Mail start talk asked = (mail.unheard_needs start talk asked, mail.unheard_tells start talk asked)

pub unheard_needs : (start : Start) (talk : List Call) → IsExchange (needs start talk) → needs start (unheard ∷ talk) ≡ Nothing
unheard_needs start talk asked = (unheard_by (protocol_of start.template) start talk asked).0

pub unheard_tells : (start : Start) (talk : List Call) → IsExchange (needs start talk) → answers start talk unheard ≡ g.Refused NoServer
unheard_tells start talk asked = (unheard_by (protocol_of start.template) start talk asked).1

roomless_by : (p : Protocol) (start : Start) (talk : List Call) → IsExchange (needs_by p start talk) → (needs_by p start (roomless ∷ talk) ≡ Nothing) × (answers_by p start talk roomless ≡ g.Refused NoRoom)
roomless_by P9sk1 start talk asked = (p9sk1_seeks.roomless_needs start talk asked, p9sk1_seeks.roomless_tells start talk asked)
roomless_by P9any start talk asked = (any.roomless_needs p9sk1 p9sk1_seeks start talk asked, any.roomless_tells p9sk1 p9sk1_seeks start talk asked)
roomless_by Mail start talk asked = (mail.roomless_needs start talk asked, mail.roomless_tells start talk asked)

pub roomless_needs : (start : Start) (talk : List Call) → IsExchange (needs start talk) → needs start (roomless ∷ talk) ≡ Nothing
roomless_needs start talk asked = (roomless_by (protocol_of start.template) start talk asked).0

pub roomless_tells : (start : Start) (talk : List Call) → IsExchange (needs start talk) → answers start talk roomless ≡ g.Refused NoRoom
roomless_tells start talk asked = (roomless_by (protocol_of start.template) start talk asked).1
