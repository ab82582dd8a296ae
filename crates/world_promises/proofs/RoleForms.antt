-- The forms of verdicts: what holds of each end of a form holds of it.
use Rattle.std.proofs.Common.{◌≡◌, ℕ, List, [], Bool, true, false, Option, Some, None, Result, Ok, Err, length, nat_lt, if◌then◌else◌, refl, sym, ap, ◌∙◌}
use Rattle.wire_base.specs.Rules.{Rule, first_told}
use Rattle.sealing.specs.declared.fault.FieldFault.{FieldFault}
use Rattle.sealing.specs.declared.request.TicketReq.{TicketReq}
use Rattle.sealing.specs.declared.ticket.Ticket.{Ticket}
use Rattle.roles.specs.declared.answer.Cause.{Cause}
use Rattle.roles.specs.declared.answer.Cause.TheVariants as c
use Rattle.roles.specs.declared.answer.Gave.TheVariants as g
use Rattle.roles.specs.declared.need.Need.{Need}
use Rattle.roles.specs.declared.need.Need.TheVariants.{Nothing, Key}
use Rattle.roles.specs.declared.need.Outcome.{Outcome}
use Rattle.roles.specs.declared.need.Outcome.TheVariants.{Running, Accepted, Finished, Broken}
use Rattle.roles.specs.declared.key.SkKey.{SkKey}
use Rattle.attr_tuples.specs.declared.attr.Attr.{Attr}
use Rattle.roles.specs.Answers.{is_sought}
use Rattle.roles.specs.Courses.{refusal}
use Rattle.roles.specs.Talks.{Call, Verdict, breaks, found, get, give, heard, offered, picked, roomless, sized, stays, tested, undone, unheard, unless_told}
use Rattle.roles.specs.Tickets.{with_request, with_ticket}
use Rattle.conv_p9any.specs.Talks.{needs_any}
use Rattle.conv_challenge.specs.Clients.{bounded}
use Rattle.wire_histories.specs.Conversations.{end_by, is_asked, meets}

pub either : {S : Type 0} (P : Verdict S → Type 0) (b : Bool) (x y : Verdict S) → P x → P y → P (if b then x else y)
either P true x y first second = first
either P false x y first second = second

pub either_so : {S : Type 0} (P : Verdict S → Type 0) (b : Bool) (x y : Verdict S) → (b ≡ true → P x) → (b ≡ false → P y) → P (if b then x else y)
either_so P true x y first second = first refl
either_so P false x y first second = second refl

unless_by : {S : Type 0} (P : Verdict S → Type 0) (told : Option Cause) (passed : Verdict S) → ((cause : Cause) → P (breaks cause)) → P passed → P (unless_told told passed)
unless_by P None passed broken so = so
unless_by P (Some cause) passed broken so = broken cause

pub tested_by : {S : Type 0} (P : Verdict S → Type 0) (tests : List (Rule Cause)) (passed : Verdict S) → ((cause : Cause) → P (breaks cause)) → P passed → P (tested tests passed)
tested_by P tests passed broken so = unless_by P (first_told tests) passed broken so

pub sized_by : {S : Type 0} (P : Verdict S → Type 0) (size : ℕ) (b : List ℕ) (whole : Verdict S) → P (stays (g.TooSmall size)) → P (stays g.TooLong) → P whole → P (sized size b whole)
sized_by P size b whole small long so = either P (nat_lt (length b) size) (stays (g.TooSmall size)) (if nat_lt size (length b) then stays g.TooLong else whole) small (either P (nat_lt size (length b)) (stays g.TooLong) whole long so)

pub bounded_by : {S : Type 0} (P : Verdict S → Type 0) (most : ℕ) (b : List ℕ) (whole : Verdict S) → P (stays (g.TooSmall 1)) → P (stays g.TooLong) → P whole → P (bounded most b whole)
bounded_by P most b whole small long so = either P (nat_lt (length b) 1) (stays (g.TooSmall 1)) (if nat_lt most (length b) then stays g.TooLong else whole) small (either P (nat_lt most (length b)) (stays g.TooLong) whole long so)

pub ticket_by : {S : Type 0} (P : Verdict S → Type 0) (cause : Cause) (ticket : Result Ticket FieldFault) (next : Ticket → Verdict S) → P (breaks cause) → ((t : Ticket) → P (next t)) → P (with_ticket cause ticket next)
ticket_by P cause (Ok ticket) next broken so = so ticket
ticket_by P cause (Err fault) next broken so = broken

pub request_by : {S : Type 0} (P : Verdict S → Type 0) (cause : Cause) (request : Result TicketReq FieldFault) (next : TicketReq → Verdict S) → P (breaks cause) → ((r : TicketReq) → request ≡ Ok r → P (next r)) → P (with_request cause request next)
request_by P cause (Ok request) next broken so = so request refl
request_by P cause (Err fault) next broken so = broken

-- ---- needs

pub none_any : {A : Type 0} (n : Need) → n ≡ Nothing → needs_any n ≡ true → A
none_any n none is = absurd (cc (sym (ap needs_any none) ∙ is))

pub none_sought : {A : Type 0} (n : Need) → n ≡ Nothing → is_sought n ≡ true → A
none_sought n none is = absurd (cc (sym (ap is_sought none) ∙ is))

pub none_asked : {A : Type 0} (n : Need) → n ≡ Nothing → is_asked n ≡ true → A
none_asked n none is = absurd (cc (sym (ap is_asked none) ∙ is))

pub none_met : {A : Type 0} (n : Need) (call : Call) → n ≡ Nothing → meets n call ≡ true → A
none_met n call none is = absurd (cc (sym (ap (λ x. meets x call) none) ∙ is))

pub refusal_room : (cause : Cause) → refusal cause ≡ g.NoMemory → ⊥
refusal_room c.BadKey = λ e. cc e
refusal_room c.WrongKind = λ e. cc e
refusal_room c.WrongChallenge = λ e. cc e
refusal_room c.WrongUser = λ e. cc e
refusal_room c.NotOffered = λ e. cc e
refusal_room c.ServerSaidNo = λ e. cc e
refusal_room c.NoServer = λ e. cc e
refusal_room c.NoRoom = λ e. cc e

pub same_end : (o : Outcome) → end_by o o ≡ []
same_end Running = refl
same_end (Accepted info) = refl
same_end Finished = refl
same_end (Broken cause) = refl

-- what meets the need for a key is a key
pub meets_key : (P : Call → Type 0) (template : List Attr) (call : Call) → ((key : SkKey) (password : Option (List ℕ)) → P (found key password)) → meets (Key template) call ≡ true → P call
meets_key P template (found key password) so is = so key password
meets_key P template (give b) so is = absurd (cc is)
meets_key P template get so is = absurd (cc is)
meets_key P template (heard b) so is = absurd (cc is)
meets_key P template unheard so is = absurd (cc is)
meets_key P template roomless so is = absurd (cc is)
meets_key P template undone so is = absurd (cc is)
meets_key P template (offered list) so is = absurd (cc is)
meets_key P template (picked place) so is = absurd (cc is)
