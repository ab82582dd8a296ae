-- The roles of p9any are as roles should be: those that choose a domain, and then those of p9sk1.
use Rattle.std.proofs.Common.{◌≡◌, ℕ, List, [], ◌∷◌, Bool, true, false, Option, Some, None, if◌then◌else◌, refl, sym, ap, subst, ◌∙◌}
use Rattle.attr_tuples.specs.declared.attr.Attr.{Attr}
use Rattle.roles.specs.declared.answer.Cause.{Cause}
use Rattle.roles.specs.declared.answer.Gave.TheVariants as g
use Rattle.roles.specs.declared.need.Need.{Need}
use Rattle.roles.specs.declared.need.Need.TheVariants.{Nothing, Pick}
use Rattle.roles.specs.declared.need.Outcome.{Outcome}
use Rattle.roles.specs.declared.need.Outcome.TheVariants.{Running}
use Rattle.roles.specs.declared.stage.Role.{Role}
use Rattle.roles.specs.declared.stage.Role.TheVariants.{Client, Server, Speakfor}
use Rattle.roles.specs.Answers.{is_sought}
use Rattle.roles.specs.Courses as sk
use Rattle.roles.specs.Courses.{answer_of, need_unless, outcome_unless, then_course}
use Rattle.roles.specs.Starts.{Start, role_of}
use Rattle.roles.specs.Talks.{Call, Progress, Verdict, found, get, give, goes, heard, offered, picked, roomless, undone, unheard}
use Rattle.conv_p9any.specs.declared.stage.Stage.{Stage}
use Rattle.conv_p9any.specs.declared.stage.Stage.TheVariants.{ServerOffers, ServerKey, ServerFirst, ServerSecond, ClientFirst, ClientPick, ClientSecond, ClientThird}
use Rattle.conv_p9any.specs.Courses.{asked_each, choice_need, choice_tests, choice_text, chosen_start, consent_tests, course, first_stage, list_tests, move, need_of, outcome_of, passed_on, seeks_first, verdict}
use Rattle.conv_p9any.specs.Offers.{consents, dom_in}
use Rattle.conv_p9any.specs.Talks.{Standing, choosing, needs_any, within}
use Rattle.conv_p9any.specs.Texts.{text_in}
use Rattle.talks.specs.Protocols.{P9any, P9sk1, is_over, p9sk1}
use Rattle.wire_histories.specs.Conversations.{end_by, ended_as, is_asked, is_given, is_taken, meets, speaks}
use Rattle.clean_runs.proofs.AnyLemmas.{inner_role}
use Rattle.world_promises.specs.Roles.{IsRole}
use Rattle.world_promises.proofs.AnyForms.{plain_by, text_by, text_plain, waits_room, waits_taken, no_wait}
use Rattle.world_promises.proofs.RoleForms.{either, either_so, refusal_room, tested_by}
use Rattle.world_promises.proofs.SkRole.{first_one, found_meets, sk_role}

abbrev at : Standing → Option Cause → Progress Standing
at standing broken = record { stage = standing; broken = broken }

-- how far a call leads, what is needed then, and how it has ended
abbrev next : Start → Progress Standing → Call → Progress Standing
next start p call = then_course p (verdict p9sk1 start p call)

abbrev need_at : Start → Progress Standing → Need
need_at start p = need_unless p.broken (need_of p9sk1 start p.stage)

abbrev outcome_at : Start → Progress Standing → Outcome
outcome_at start p = outcome_unless p.broken (outcome_of p9sk1 start p.stage)

-- the inner role
abbrev inner : Start → List ℕ → Start
inner start text = chosen_start p9sk1 start text

role : (start : Start) (text : List ℕ) → IsRole (speaks P9sk1 (inner start text))
role start text = sk_role (inner start text)

-- ---- no answer is want of memory

abbrev HasRoom : Verdict Standing → Type 0
HasRoom v = answer_of v ≡ g.NoMemory → ⊥

move_room : (start : Start) (standing : Standing) (call : Call) → HasRoom (move p9sk1 start standing call)
move_room start (choosing ServerOffers) (give b) = λ e. cc e
move_room start (choosing ServerOffers) get = λ e. cc e
move_room start (choosing ServerOffers) (found k pw) = λ e. cc e
move_room start (choosing ServerOffers) (heard b) = λ e. cc e
move_room start (choosing ServerOffers) unheard = λ e. cc e
move_room start (choosing ServerOffers) roomless = λ e. cc e
move_room start (choosing ServerOffers) undone = λ e. cc e
move_room start (choosing ServerOffers) (offered []) = λ e. cc e
move_room start (choosing ServerOffers) (offered (x ∷ list')) = λ e. cc e
move_room start (choosing ServerOffers) (picked place') = λ e. cc e
move_room start (choosing ServerKey) (give b) = λ e. cc e
move_room start (choosing ServerKey) get = λ e. cc e
move_room start (choosing ServerKey) (found k pw) = λ e. cc e
move_room start (choosing ServerKey) (heard b) = λ e. cc e
move_room start (choosing ServerKey) unheard = λ e. cc e
move_room start (choosing ServerKey) roomless = λ e. cc e
move_room start (choosing ServerKey) undone = λ e. cc e
move_room start (choosing ServerKey) (offered list') = λ e. cc e
move_room start (choosing ServerKey) (picked place') = λ e. cc e
move_room start (choosing (ServerFirst list)) (give b) = λ e. cc e
move_room start (choosing (ServerFirst list)) get = λ e. cc e
move_room start (choosing (ServerFirst list)) (found k pw) = λ e. cc e
move_room start (choosing (ServerFirst list)) (heard b) = λ e. cc e
move_room start (choosing (ServerFirst list)) unheard = λ e. cc e
move_room start (choosing (ServerFirst list)) roomless = λ e. cc e
move_room start (choosing (ServerFirst list)) undone = λ e. cc e
move_room start (choosing (ServerFirst list)) (offered list') = λ e. cc e
move_room start (choosing (ServerFirst list)) (picked place') = λ e. cc e
move_room start (choosing (ServerSecond list)) (give b) = plain_by HasRoom (λ answer is. is) (text_in b) _ (text_plain b) (λ t. tested_by HasRoom (choice_tests p9sk1.name list t) _ refusal_room (waits_room (p9sk1.needs (inner start t) [])))
move_room start (choosing (ServerSecond list)) get = λ e. cc e
move_room start (choosing (ServerSecond list)) (found k pw) = λ e. cc e
move_room start (choosing (ServerSecond list)) (heard b) = λ e. cc e
move_room start (choosing (ServerSecond list)) unheard = λ e. cc e
move_room start (choosing (ServerSecond list)) roomless = λ e. cc e
move_room start (choosing (ServerSecond list)) undone = λ e. cc e
move_room start (choosing (ServerSecond list)) (offered list') = λ e. cc e
move_room start (choosing (ServerSecond list)) (picked place') = λ e. cc e
move_room start (choosing ClientFirst) (give b) = plain_by HasRoom (λ answer is. is) (text_in b) _ (text_plain b) (λ t. tested_by HasRoom (list_tests p9sk1.name start t) _ refusal_room (λ e. cc e))
move_room start (choosing ClientFirst) get = λ e. cc e
move_room start (choosing ClientFirst) (found k pw) = λ e. cc e
move_room start (choosing ClientFirst) (heard b) = λ e. cc e
move_room start (choosing ClientFirst) unheard = λ e. cc e
move_room start (choosing ClientFirst) roomless = λ e. cc e
move_room start (choosing ClientFirst) undone = λ e. cc e
move_room start (choosing ClientFirst) (offered list') = λ e. cc e
move_room start (choosing ClientFirst) (picked place') = λ e. cc e
move_room start (choosing (ClientPick list)) (give b) = λ e. cc e
move_room start (choosing (ClientPick list)) get = λ e. cc e
move_room start (choosing (ClientPick list)) (found k pw) = λ e. cc e
move_room start (choosing (ClientPick list)) (heard b) = λ e. cc e
move_room start (choosing (ClientPick list)) unheard = λ e. cc e
move_room start (choosing (ClientPick list)) roomless = λ e. cc e
move_room start (choosing (ClientPick list)) undone = λ e. cc e
move_room start (choosing (ClientPick list)) (offered list') = λ e. cc e
move_room start (choosing (ClientPick list)) (picked place') = λ e. cc e
move_room start (choosing (ClientSecond list place)) (give b) = λ e. cc e
move_room start (choosing (ClientSecond list place)) get = either (HasRoom) (consents list) _ _ (λ e. cc e) (waits_room (p9sk1.needs (inner start (choice_text p9sk1.name start list place)) []))
move_room start (choosing (ClientSecond list place)) (found k pw) = λ e. cc e
move_room start (choosing (ClientSecond list place)) (heard b) = λ e. cc e
move_room start (choosing (ClientSecond list place)) unheard = λ e. cc e
move_room start (choosing (ClientSecond list place)) roomless = λ e. cc e
move_room start (choosing (ClientSecond list place)) undone = λ e. cc e
move_room start (choosing (ClientSecond list place)) (offered list') = λ e. cc e
move_room start (choosing (ClientSecond list place)) (picked place') = λ e. cc e
move_room start (choosing (ClientThird list place)) (give b) = plain_by HasRoom (λ answer is. is) (text_in b) _ (text_plain b) (λ t. tested_by HasRoom (consent_tests t) _ refusal_room (waits_room (p9sk1.needs (inner start (choice_text p9sk1.name start list place)) [])))
move_room start (choosing (ClientThird list place)) get = λ e. cc e
move_room start (choosing (ClientThird list place)) (found k pw) = λ e. cc e
move_room start (choosing (ClientThird list place)) (heard b) = λ e. cc e
move_room start (choosing (ClientThird list place)) unheard = λ e. cc e
move_room start (choosing (ClientThird list place)) roomless = λ e. cc e
move_room start (choosing (ClientThird list place)) undone = λ e. cc e
move_room start (choosing (ClientThird list place)) (offered list') = λ e. cc e
move_room start (choosing (ClientThird list place)) (picked place') = λ e. cc e
move_room start (within before text talk) (give b) = (role start text).has_room talk (give b)
move_room start (within before text talk) get = (role start text).has_room talk get
move_room start (within before text talk) (found k pw) = (role start text).has_room talk (found k pw)
move_room start (within before text talk) (heard b) = (role start text).has_room talk (heard b)
move_room start (within before text talk) unheard = (role start text).has_room talk unheard
move_room start (within before text talk) roomless = (role start text).has_room talk roomless
move_room start (within before text talk) undone = either HasRoom (seeks_first p9sk1.needs (inner start text) talk) _ _ (λ e. cc e) ((role start text).has_room talk undone)
move_room start (within before text talk) (offered list') = waits_room (p9sk1.needs (inner start text) talk)
move_room start (within before text talk) (picked place') = waits_room (p9sk1.needs (inner start text) talk)

room : (start : Start) (standing : Standing) (broken : Option Cause) (call : Call) → HasRoom (verdict p9sk1 start (at standing broken) call)
room start standing None call = move_room start standing call
room start standing (Some cause) call = λ e. cc e

-- ---- clients stay clients

abbrev IsClient : Role → Type 0
IsClient Client = Unit {0}
IsClient (Speakfor user) = Unit {0}
IsClient Server = ⊥

abbrev SideOf : Start → Stage → Type 0
SideOf start ServerOffers = Unit {0}
SideOf start ServerKey = Unit {0}
SideOf start (ServerFirst list) = Unit {0}
SideOf start (ServerSecond list) = Unit {0}
SideOf start ClientFirst = IsClient (role_of start.template)
SideOf start (ClientPick list) = IsClient (role_of start.template)
SideOf start (ClientSecond list place) = IsClient (role_of start.template)
SideOf start (ClientThird list place) = IsClient (role_of start.template)

abbrev IsSound : Start → Standing → Type 0
IsSound start (choosing stage) = SideOf start stage
IsSound start (within before text talk) = SideOf start before

abbrev LeadsTo : Start → Progress Standing → Verdict Standing → Type 0
LeadsTo start p v = IsSound start (then_course p v).stage

move_sound : (start : Start) (standing : Standing) (call : Call) → IsSound start standing → LeadsTo start (at standing None) (move p9sk1 start standing call)
move_sound start (choosing ServerOffers) (give b) so = tt
move_sound start (choosing ServerOffers) get so = tt
move_sound start (choosing ServerOffers) (found k pw) so = tt
move_sound start (choosing ServerOffers) (heard b) so = tt
move_sound start (choosing ServerOffers) unheard so = tt
move_sound start (choosing ServerOffers) roomless so = tt
move_sound start (choosing ServerOffers) undone so = tt
move_sound start (choosing ServerOffers) (offered []) so = tt
move_sound start (choosing ServerOffers) (offered (x ∷ list')) so = tt
move_sound start (choosing ServerOffers) (picked place') so = tt
move_sound start (choosing ServerKey) (give b) so = tt
move_sound start (choosing ServerKey) get so = tt
move_sound start (choosing ServerKey) (found k pw) so = tt
move_sound start (choosing ServerKey) (heard b) so = tt
move_sound start (choosing ServerKey) unheard so = tt
move_sound start (choosing ServerKey) roomless so = tt
move_sound start (choosing ServerKey) undone so = tt
move_sound start (choosing ServerKey) (offered list') so = tt
move_sound start (choosing ServerKey) (picked place') so = tt
move_sound start (choosing (ServerFirst list)) (give b) so = tt
move_sound start (choosing (ServerFirst list)) get so = tt
move_sound start (choosing (ServerFirst list)) (found k pw) so = tt
move_sound start (choosing (ServerFirst list)) (heard b) so = tt
move_sound start (choosing (ServerFirst list)) unheard so = tt
move_sound start (choosing (ServerFirst list)) roomless so = tt
move_sound start (choosing (ServerFirst list)) undone so = tt
move_sound start (choosing (ServerFirst list)) (offered list') so = tt
move_sound start (choosing (ServerFirst list)) (picked place') so = tt
move_sound start (choosing (ServerSecond list)) (give b) so = text_by (LeadsTo start (at (choosing (ServerSecond list)) None)) (text_in b) _ (λ answer. tt) (λ t. tested_by (LeadsTo start (at (choosing (ServerSecond list)) None)) (choice_tests p9sk1.name list t) _ (λ cause. tt) (tt))
move_sound start (choosing (ServerSecond list)) get so = tt
move_sound start (choosing (ServerSecond list)) (found k pw) so = tt
move_sound start (choosing (ServerSecond list)) (heard b) so = tt
move_sound start (choosing (ServerSecond list)) unheard so = tt
move_sound start (choosing (ServerSecond list)) roomless so = tt
move_sound start (choosing (ServerSecond list)) undone so = tt
move_sound start (choosing (ServerSecond list)) (offered list') so = tt
move_sound start (choosing (ServerSecond list)) (picked place') so = tt
move_sound start (choosing ClientFirst) (give b) so = text_by (LeadsTo start (at (choosing ClientFirst) None)) (text_in b) _ (λ answer. so) (λ t. tested_by (LeadsTo start (at (choosing ClientFirst) None)) (list_tests p9sk1.name start t) _ (λ cause. so) (so))
move_sound start (choosing ClientFirst) get so = so
move_sound start (choosing ClientFirst) (found k pw) so = so
move_sound start (choosing ClientFirst) (heard b) so = so
move_sound start (choosing ClientFirst) unheard so = so
move_sound start (choosing ClientFirst) roomless so = so
move_sound start (choosing ClientFirst) undone so = so
move_sound start (choosing ClientFirst) (offered list') so = so
move_sound start (choosing ClientFirst) (picked place') so = so
move_sound start (choosing (ClientPick list)) (give b) so = so
move_sound start (choosing (ClientPick list)) get so = so
move_sound start (choosing (ClientPick list)) (found k pw) so = so
move_sound start (choosing (ClientPick list)) (heard b) so = so
move_sound start (choosing (ClientPick list)) unheard so = so
move_sound start (choosing (ClientPick list)) roomless so = so
move_sound start (choosing (ClientPick list)) undone so = so
move_sound start (choosing (ClientPick list)) (offered list') so = so
move_sound start (choosing (ClientPick list)) (picked place') so = so
move_sound start (choosing (ClientSecond list place)) (give b) so = so
move_sound start (choosing (ClientSecond list place)) get so = either (LeadsTo start (at (choosing (ClientSecond list place)) None)) (consents list) _ _ (so) (so)
move_sound start (choosing (ClientSecond list place)) (found k pw) so = so
move_sound start (choosing (ClientSecond list place)) (heard b) so = so
move_sound start (choosing (ClientSecond list place)) unheard so = so
move_sound start (choosing (ClientSecond list place)) roomless so = so
move_sound start (choosing (ClientSecond list place)) undone so = so
move_sound start (choosing (ClientSecond list place)) (offered list') so = so
move_sound start (choosing (ClientSecond list place)) (picked place') so = so
move_sound start (choosing (ClientThird list place)) (give b) so = text_by (LeadsTo start (at (choosing (ClientThird list place)) None)) (text_in b) _ (λ answer. so) (λ t. tested_by (LeadsTo start (at (choosing (ClientThird list place)) None)) (consent_tests t) _ (λ cause. so) (so))
move_sound start (choosing (ClientThird list place)) get so = so
move_sound start (choosing (ClientThird list place)) (found k pw) so = so
move_sound start (choosing (ClientThird list place)) (heard b) so = so
move_sound start (choosing (ClientThird list place)) unheard so = so
move_sound start (choosing (ClientThird list place)) roomless so = so
move_sound start (choosing (ClientThird list place)) undone so = so
move_sound start (choosing (ClientThird list place)) (offered list') so = so
move_sound start (choosing (ClientThird list place)) (picked place') so = so
move_sound start (within before text talk) (give b) so = so
move_sound start (within before text talk) get so = so
move_sound start (within before text talk) (found k pw) so = so
move_sound start (within before text talk) (heard b) so = so
move_sound start (within before text talk) unheard so = so
move_sound start (within before text talk) roomless so = so
move_sound start (within before text talk) undone so = either (LeadsTo start (at (within before text talk) None)) (seeks_first p9sk1.needs (inner start text) talk) _ _ so so
move_sound start (within before text talk) (offered list') so = so
move_sound start (within before text talk) (picked place') so = so

next_sound : (start : Start) (standing : Standing) (broken : Option Cause) (call : Call) → IsSound start standing → IsSound start (next start (at standing broken) call).stage
next_sound start standing None call so = move_sound start standing call so
next_sound start standing (Some cause) call so = so

first_side : (start : Start) (side : Role) → role_of start.template ≡ side → SideOf start (first_stage side)
first_side start Client is = subst IsClient (sym is) tt
first_side start (Speakfor user) is = subst IsClient (sym is) tt
first_side start Server is = tt

sound : (start : Start) (talk : List Call) → IsSound start (course p9sk1 start talk).stage
sound start [] = first_side start (role_of start.template) refl
sound start (call ∷ talk) = next_sound start (course p9sk1 start talk).stage (course p9sk1 start talk).broken call (sound start talk)

-- a client of p9sk1 needs nothing at first
client_rests : (start : Start) (side : Role) → IsClient side → sk.need_of start (sk.first_stage side) ≡ Nothing
client_rests start Client is = refl
client_rests start (Speakfor user) is = refl
client_rests start Server is = absurd is

inner_rests : (start : Start) (text : List ℕ) → IsClient (role_of start.template) → p9sk1.needs (inner start text) [] ≡ Nothing
inner_rests start text is = client_rests (inner start text) (role_of (inner start text).template) (subst IsClient (sym (inner_role start.template (dom_in p9sk1.name text))) is)

-- ---- ends

first_seeks : (start : Start) (text : List ℕ) (talk : List Call) → seeks_first p9sk1.needs (inner start text) talk ≡ true → p9sk1.ends (inner start text) talk ≡ Running
first_seeks start text [] is = (role start text).goes_on [] is
first_seeks start text (call ∷ talk) is = cc is

stays_at : (start : Start) (standing : Standing) (broken : Option Cause) (call : Call) → is_over (outcome_at start (at standing broken)) ≡ true → outcome_at start (next start (at standing broken) call) ≡ outcome_at start (at standing broken)
stays_at start standing (Some cause) call over = refl
stays_at start (choosing stage) None call over = cc over
stays_at start (within before text talk) None (give b) over = (role start text).stays talk (give b) over
stays_at start (within before text talk) None get over = (role start text).stays talk get over
stays_at start (within before text talk) None (found k pw) over = (role start text).stays talk (found k pw) over
stays_at start (within before text talk) None (heard b) over = (role start text).stays talk (heard b) over
stays_at start (within before text talk) None unheard over = (role start text).stays talk unheard over
stays_at start (within before text talk) None roomless over = (role start text).stays talk roomless over
stays_at start (within before text talk) None undone over = either_so (λ v. outcome_at start (then_course (at (within before text talk) None) v) ≡ p9sk1.ends (inner start text) talk) (seeks_first p9sk1.needs (inner start text) talk) _ _ (λ is. sym (first_seeks start text talk is)) (λ is. (role start text).stays talk undone over)
stays_at start (within before text talk) None (offered list') over = refl
stays_at start (within before text talk) None (picked place') over = refl

goes_on : (start : Start) (standing : Standing) (broken : Option Cause) → is_sought (need_at start (at standing broken)) ≡ true → outcome_at start (at standing broken) ≡ Running
goes_on start standing (Some cause) sought = cc sought
goes_on start (choosing stage) None sought = refl
goes_on start (within before text talk) None sought = (role start text).goes_on talk sought

-- ---- a message is got

abbrev Rests : Start → Progress Standing → Verdict Standing → Type 0
Rests start p v = need_at start (then_course p v) ≡ Nothing

got_at : (start : Start) (standing : Standing) (broken : Option Cause) → IsSound start standing → need_at start (at standing broken) ≡ Nothing → Rests start (at standing broken) (verdict p9sk1 start (at standing broken) get)
got_at start standing (Some cause) so none = refl
got_at start (choosing ServerOffers) None so none = cc none
got_at start (choosing ServerKey) None so none = cc none
got_at start (choosing (ServerFirst list)) None so none = refl
got_at start (choosing (ServerSecond list)) None so none = refl
got_at start (choosing ClientFirst) None so none = refl
got_at start (choosing (ClientPick list)) None so none = cc none
got_at start (choosing (ClientSecond list place)) None so none = either (Rests start (at (choosing (ClientSecond list place)) None)) (consents list) _ _ (refl) (inner_rests start (choice_text p9sk1.name start list place) so)
got_at start (choosing (ClientThird list place)) None so none = refl
got_at start (within before text talk) None so none = (role start text).got talk none

abbrev Gives : Start → Progress Standing → Verdict Standing → Type 0
Gives start p v = is_given (answer_of v) ≡ true → end_by (outcome_at start p) (outcome_at start (then_course p v)) ≡ []

given_at : (start : Start) (standing : Standing) (broken : Option Cause) → need_at start (at standing broken) ≡ Nothing → Gives start (at standing broken) (verdict p9sk1 start (at standing broken) get)
given_at start standing (Some cause) none = λ given. cc
given_at start (choosing ServerOffers) None none = λ given. cc
given_at start (choosing ServerKey) None none = λ given. cc
given_at start (choosing (ServerFirst list)) None none = λ given. refl
given_at start (choosing (ServerSecond list)) None none = λ given. cc
given_at start (choosing ClientFirst) None none = λ given. cc
given_at start (choosing (ClientPick list)) None none = λ given. cc
given_at start (choosing (ClientSecond list place)) None none = either (Gives start (at (choosing (ClientSecond list place)) None)) (consents list) _ _ (λ given. refl) (λ given. ap ended_as (role start (choice_text p9sk1.name start list place)).begins)
given_at start (choosing (ClientThird list place)) None none = λ given. cc
given_at start (within before text talk) None none = (role start text).given talk none

abbrev Waits : Verdict Standing → Type 0
Waits v = answer_of v ≡ g.Wait → ⊥

at_once : (start : Start) (standing : Standing) (broken : Option Cause) → IsSound start standing → need_at start (at standing broken) ≡ Nothing → Waits (verdict p9sk1 start (at standing broken) get)
at_once start standing (Some cause) so none = λ e. cc e
at_once start (choosing ServerOffers) None so none = λ e. cc none
at_once start (choosing ServerKey) None so none = λ e. cc none
at_once start (choosing (ServerFirst list)) None so none = λ e. cc e
at_once start (choosing (ServerSecond list)) None so none = λ e. cc e
at_once start (choosing ClientFirst) None so none = λ e. cc e
at_once start (choosing (ClientPick list)) None so none = λ e. cc none
at_once start (choosing (ClientSecond list place)) None so none = either (Waits) (consents list) _ _ (λ e. cc e) (no_wait (p9sk1.needs (inner start (choice_text p9sk1.name start list place)) []) (inner_rests start (choice_text p9sk1.name start list place) so))
at_once start (choosing (ClientThird list place)) None so none = λ e. cc e
at_once start (within before text talk) None so none = (role start text).at_once talk none

-- ---- bytes are given

abbrev Takes : Start → Progress Standing → Verdict Standing → Type 0
Takes start p v = needs_any (need_at start (then_course p v)) ≡ true → is_taken (answer_of v) ≡ true

taken_at : (start : Start) (standing : Standing) (broken : Option Cause) (b : List ℕ) → need_at start (at standing broken) ≡ Nothing → Takes start (at standing broken) (verdict p9sk1 start (at standing broken) (give b))
taken_at start standing (Some cause) b none = λ e. cc e
taken_at start (choosing ServerOffers) None b none = cc none
taken_at start (choosing ServerKey) None b none = cc none
taken_at start (choosing (ServerFirst list)) None b none = λ e. cc e
taken_at start (choosing (ServerSecond list)) None b none = text_by (Takes start (at (choosing (ServerSecond list)) None)) (text_in b) _ (λ answer. λ e. cc e) (λ t. tested_by (Takes start (at (choosing (ServerSecond list)) None)) (choice_tests p9sk1.name list t) _ (λ cause e. cc e) (λ e. waits_taken (p9sk1.needs (inner start t) [])))
taken_at start (choosing ClientFirst) None b none = text_by (Takes start (at (choosing ClientFirst) None)) (text_in b) _ (λ answer. λ e. cc e) (λ t. tested_by (Takes start (at (choosing ClientFirst) None)) (list_tests p9sk1.name start t) _ (λ cause e. cc e) (λ e. refl))
taken_at start (choosing (ClientPick list)) None b none = cc none
taken_at start (choosing (ClientSecond list place)) None b none = λ e. cc e
taken_at start (choosing (ClientThird list place)) None b none = text_by (Takes start (at (choosing (ClientThird list place)) None)) (text_in b) _ (λ answer. λ e. cc e) (λ t. tested_by (Takes start (at (choosing (ClientThird list place)) None)) (consent_tests t) _ (λ cause e. cc e) (λ e. waits_taken (p9sk1.needs (inner start (choice_text p9sk1.name start list place)) [])))
taken_at start (within before text talk) None b none = (role start text).taken talk b none

-- a call that meets the need of a verdict leaves nothing to be searched for
abbrev Unsought : Start → Progress Standing → Verdict Standing → Type 0
Unsought start p v = is_sought (need_at start (then_course p v)) ≡ false

abbrev Meets : Start → Progress Standing → Call → Verdict Standing → Type 0
Meets start p call v = meets (need_at start (then_course p v)) call ≡ true → Unsought start (then_course p v) (verdict p9sk1 start (then_course p v) call)

-- of the inner role
entered_one : (start : Start) (before : Stage) (text : List ℕ) (call : Call) → meets (p9sk1.needs (inner start text) []) call ≡ true → Unsought start (at (within before text []) None) (move p9sk1 start (within before text []) call)
entered_one start before text call = found_meets (inner start text) [] (λ c. Unsought start (at (within before text []) None) (move p9sk1 start (within before text []) c)) call (λ key password is. first_one (inner start text) (found key password) is)

within_one : (start : Start) (before : Stage) (text : List ℕ) (talk : List Call) (b : List ℕ) (call : Call) → p9sk1.needs (inner start text) talk ≡ Nothing → meets (p9sk1.needs (inner start text) (give b ∷ talk)) call ≡ true → Unsought start (at (within before text (give b ∷ talk)) None) (move p9sk1 start (within before text (give b ∷ talk)) call)
within_one start before text talk b call none = found_meets (inner start text) (give b ∷ talk) (λ c. Unsought start (at (within before text (give b ∷ talk)) None) (move p9sk1 start (within before text (give b ∷ talk)) c)) call (λ key password is. (role start text).one talk b (found key password) none is)

pick_one : (start : Start) (list : List ℕ) (templates : List (List Attr)) (call : Call) → meets (Pick templates) call ≡ true → Unsought start (at (choosing (ClientPick list)) None) (move p9sk1 start (choosing (ClientPick list)) call)
pick_one start list templates (give b) is = cc is
pick_one start list templates get is = cc is
pick_one start list templates (found k pw) is = cc is
pick_one start list templates (heard b) is = cc is
pick_one start list templates unheard is = cc is
pick_one start list templates roomless is = cc is
pick_one start list templates undone is = cc
pick_one start list templates (offered list') is = cc is
pick_one start list templates (picked place') is = refl

one_at : (start : Start) (standing : Standing) (broken : Option Cause) (b : List ℕ) (call : Call) → need_at start (at standing broken) ≡ Nothing → Meets start (at standing broken) call (verdict p9sk1 start (at standing broken) (give b))
one_at start standing (Some cause) b call none = λ e. cc
one_at start (choosing ServerOffers) None b call none = cc none
one_at start (choosing ServerKey) None b call none = cc none
one_at start (choosing (ServerFirst list)) None b call none = λ e. cc e
one_at start (choosing (ServerSecond list)) None b call none = text_by (Meets start (at (choosing (ServerSecond list)) None) call) (text_in b) _ (λ answer. λ e. cc e) (λ t. tested_by (Meets start (at (choosing (ServerSecond list)) None) call) (choice_tests p9sk1.name list t) _ (λ cause e. cc) (entered_one start (ServerSecond list) t call))
one_at start (choosing ClientFirst) None b call none = text_by (Meets start (at (choosing ClientFirst) None) call) (text_in b) _ (λ answer. λ e. cc e) (λ t. tested_by (Meets start (at (choosing ClientFirst) None) call) (list_tests p9sk1.name start t) _ (λ cause e. cc) (pick_one start t (asked_each p9sk1.name start t) call))
one_at start (choosing (ClientPick list)) None b call none = cc none
one_at start (choosing (ClientSecond list place)) None b call none = λ e. cc e
one_at start (choosing (ClientThird list place)) None b call none = text_by (Meets start (at (choosing (ClientThird list place)) None) call) (text_in b) _ (λ answer. λ e. cc e) (λ t. tested_by (Meets start (at (choosing (ClientThird list place)) None) call) (consent_tests t) _ (λ cause e. cc) (entered_one start (ClientThird list place) (choice_text p9sk1.name start list place) call))
one_at start (within before text talk) None b call none = within_one start before text talk b call none

-- where something is searched for, it is undone
abbrev Undoes : Start → Progress Standing → Verdict Standing → Type 0
Undoes start p v = is_sought (need_at start (then_course p v)) ≡ true → (need_at start (next start (then_course p v) undone) ≡ Nothing) × (outcome_at start (next start (then_course p v) undone) ≡ outcome_at start p)

entered_undone : (start : Start) (before : Stage) (text : List ℕ) → choice_need p9sk1.name start before ≡ Nothing → is_sought (p9sk1.needs (inner start text) []) ≡ true → (need_at start (next start (at (within before text []) None) undone) ≡ Nothing) × (outcome_at start (next start (at (within before text []) None) undone) ≡ Running)
entered_undone start before text none sought =
    let back : Bool → Verdict Standing = λ b. if b then goes (choosing before) g.Ok [] else passed_on p9sk1 start before text [] undone in
    (ap (λ b. need_at start (then_course (at (within before text []) None) (back b))) sought ∙ none, ap (λ b. outcome_at start (then_course (at (within before text []) None) (back b))) sought)

undone_at : (start : Start) (standing : Standing) (broken : Option Cause) (b : List ℕ) → need_at start (at standing broken) ≡ Nothing → Undoes start (at standing broken) (verdict p9sk1 start (at standing broken) (give b))
undone_at start standing (Some cause) b none = λ e. cc e
undone_at start (choosing ServerOffers) None b none = cc none
undone_at start (choosing ServerKey) None b none = cc none
undone_at start (choosing (ServerFirst list)) None b none = λ e. cc e
undone_at start (choosing (ServerSecond list)) None b none = text_by (Undoes start (at (choosing (ServerSecond list)) None)) (text_in b) _ (λ answer. λ e. cc e) (λ t. tested_by (Undoes start (at (choosing (ServerSecond list)) None)) (choice_tests p9sk1.name list t) _ (λ cause e. cc e) (entered_undone start (ServerSecond list) t refl))
undone_at start (choosing ClientFirst) None b none = text_by (Undoes start (at (choosing ClientFirst) None)) (text_in b) _ (λ answer. λ e. cc e) (λ t. tested_by (Undoes start (at (choosing ClientFirst) None)) (list_tests p9sk1.name start t) _ (λ cause e. cc e) (λ e. (refl, refl)))
undone_at start (choosing (ClientPick list)) None b none = cc none
undone_at start (choosing (ClientSecond list place)) None b none = λ e. cc e
undone_at start (choosing (ClientThird list place)) None b none = text_by (Undoes start (at (choosing (ClientThird list place)) None)) (text_in b) _ (λ answer. λ e. cc e) (λ t. tested_by (Undoes start (at (choosing (ClientThird list place)) None)) (consent_tests t) _ (λ cause e. cc e) (entered_undone start (ClientThird list place) (choice_text p9sk1.name start list place) refl))
undone_at start (within before text talk) None b none = λ sought. ((role start text).undoes talk b none sought, (role start text).unended talk b none sought)

-- ---- what is needed comes

abbrev IsTakenBy : Verdict Standing → Type 0
IsTakenBy v = is_taken (answer_of v) ≡ true

met_at : (start : Start) (standing : Standing) (broken : Option Cause) (call : Call) → meets (need_at start (at standing broken)) call ≡ true → IsTakenBy (verdict p9sk1 start (at standing broken) call)
met_at start standing (Some cause) call is = cc is
met_at start (choosing ServerOffers) None (give b) is = cc
met_at start (choosing ServerOffers) None get is = cc
met_at start (choosing ServerOffers) None (found k pw) is = cc
met_at start (choosing ServerOffers) None (heard b) is = cc
met_at start (choosing ServerOffers) None unheard is = cc
met_at start (choosing ServerOffers) None roomless is = cc
met_at start (choosing ServerOffers) None undone is = cc
met_at start (choosing ServerOffers) None (offered []) is = refl
met_at start (choosing ServerOffers) None (offered (x ∷ list')) is = refl
met_at start (choosing ServerOffers) None (picked place') is = cc
met_at start (choosing ServerKey) None (give b) is = cc
met_at start (choosing ServerKey) None get is = cc
met_at start (choosing ServerKey) None (found k pw) is = refl
met_at start (choosing ServerKey) None (heard b) is = cc
met_at start (choosing ServerKey) None unheard is = cc
met_at start (choosing ServerKey) None roomless is = cc
met_at start (choosing ServerKey) None undone is = cc
met_at start (choosing ServerKey) None (offered list') is = cc
met_at start (choosing ServerKey) None (picked place') is = cc
met_at start (choosing (ServerFirst list)) None call is = cc is
met_at start (choosing (ServerSecond list)) None call is = cc is
met_at start (choosing ClientFirst) None call is = cc is
met_at start (choosing (ClientPick list)) None (give b) is = cc
met_at start (choosing (ClientPick list)) None get is = cc
met_at start (choosing (ClientPick list)) None (found k pw) is = cc
met_at start (choosing (ClientPick list)) None (heard b) is = cc
met_at start (choosing (ClientPick list)) None unheard is = cc
met_at start (choosing (ClientPick list)) None roomless is = cc
met_at start (choosing (ClientPick list)) None undone is = cc
met_at start (choosing (ClientPick list)) None (offered list') is = cc
met_at start (choosing (ClientPick list)) None (picked place') is = refl
met_at start (choosing (ClientSecond list place)) None call is = cc is
met_at start (choosing (ClientThird list place)) None call is = cc is
met_at start (within before text talk) None call is = found_meets (inner start text) talk (λ c. IsTakenBy (move p9sk1 start (within before text talk) c)) call (λ key password so. (role start text).met talk (found key password) so) is

choice_unasked : (start : Start) (stage : Stage) → is_asked (choice_need p9sk1.name start stage) ≡ false
choice_unasked start ServerOffers = refl
choice_unasked start ServerKey = refl
choice_unasked start (ServerFirst list) = refl
choice_unasked start (ServerSecond list) = refl
choice_unasked start ClientFirst = refl
choice_unasked start (ClientPick list) = refl
choice_unasked start (ClientSecond list place) = refl
choice_unasked start (ClientThird list place) = refl

answered_at : (start : Start) (standing : Standing) (broken : Option Cause) (b : List ℕ) → is_asked (need_at start (at standing broken)) ≡ true → Rests start (at standing broken) (verdict p9sk1 start (at standing broken) (heard b))
answered_at start standing (Some cause) b asked = cc
answered_at start (choosing stage) None b asked = absurd (cc (sym (choice_unasked start stage) ∙ asked))
answered_at start (within before text talk) None b asked = (role start text).answered talk b asked

unanswered_at : (start : Start) (standing : Standing) (broken : Option Cause) → is_asked (need_at start (at standing broken)) ≡ true → Rests start (at standing broken) (verdict p9sk1 start (at standing broken) unheard)
unanswered_at start standing (Some cause) asked = cc
unanswered_at start (choosing stage) None asked = absurd (cc (sym (choice_unasked start stage) ∙ asked))
unanswered_at start (within before text talk) None asked = (role start text).unanswered talk asked

-- ---- all of it

pub any_role : (start : Start) → IsRole (speaks P9any start)
any_role start = record {
  begins = refl;
  asks_nobody = choice_unasked start (first_stage (role_of start.template));
  has_room = λ talk call. room start (course p9sk1 start talk).stage (course p9sk1 start talk).broken call;
  stays = λ talk call. stays_at start (course p9sk1 start talk).stage (course p9sk1 start talk).broken call;
  goes_on = λ talk. goes_on start (course p9sk1 start talk).stage (course p9sk1 start talk).broken;
  got = λ talk. got_at start (course p9sk1 start talk).stage (course p9sk1 start talk).broken (sound start talk);
  given = λ talk. given_at start (course p9sk1 start talk).stage (course p9sk1 start talk).broken;
  at_once = λ talk. at_once start (course p9sk1 start talk).stage (course p9sk1 start talk).broken (sound start talk);
  taken = λ talk. taken_at start (course p9sk1 start talk).stage (course p9sk1 start talk).broken;
  one = λ talk. one_at start (course p9sk1 start talk).stage (course p9sk1 start talk).broken;
  undoes = λ talk b none sought. (undone_at start (course p9sk1 start talk).stage (course p9sk1 start talk).broken b none sought).0;
  unended = λ talk b none sought. (undone_at start (course p9sk1 start talk).stage (course p9sk1 start talk).broken b none sought).1;
  met = λ talk. met_at start (course p9sk1 start talk).stage (course p9sk1 start talk).broken;
  answered = λ talk. answered_at start (course p9sk1 start talk).stage (course p9sk1 start talk).broken;
  unanswered = λ talk. unanswered_at start (course p9sk1 start talk).stage (course p9sk1 start talk).broken;
}
