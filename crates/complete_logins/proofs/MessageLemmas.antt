-- The messages of a login by p9sk1, as they are made and as they open.
use Rattle.std.proofs.Common.{◌≡◌, ℕ, ◌<◌, List, [], ◌∷◌, ◌++◌, length, take, drop, Ok, ap, ◌∙◌, arith, length-append}
use Rattle.std.specs.Int.{w32, to_le_bytes}
use Rattle.std.proofs.lemmas.List.{length-take-le, drop_at, take_at}
use Rattle.std.proofs.lemmas.List.Elements.{All-take}
use Rattle.wire_base.specs.Names.{name_field}
use Rattle.sealing.specs.Sealing.{opened, sealed}
use Rattle.sealing.proofs.SealLaws.{length-sealed}
use Rattle.sealing.specs.Authenticator.{authenticator_text}
use Rattle.sealing.specs.Fitting.{FitsRequest, FitsTicket, IsBlock}
use Rattle.sealing.specs.Request.{request_of, request_text}
use Rattle.sealing.specs.Ticket.{ticket_of, ticket_text}
use Rattle.sealing.specs.declared.authenticator.Authenticator.{Authenticator}
use Rattle.sealing.specs.declared.request.TicketReq.{TicketReq}
use Rattle.sealing.specs.declared.ticket.Ticket.{Ticket}
use Rattle.sealing.proofs.FieldLaws.{length-name_field}
use Rattle.sealing.proofs.RequestLaws.{request_again, request_written}
use Rattle.sealing.proofs.SealedLaws.{ticket_opened}

-- ---- lengths

pub length_request : (r : TicketReq) → FitsRequest r → length (request_text r) ≡ 141
unfolding request_text
length_request r fits =
    let a = length-name_field 28 r.authid fits.authid.short in
    let d = length-name_field 48 r.authdom fits.authdom.short in
    let h = length-name_field 28 r.hostid fits.hostid.short in
    let u = length-name_field 28 r.uid fits.uid.short in
    let p1 = r.kind ∷ [] ++ name_field 28 r.authid in
    let p2 = p1 ++ name_field 48 r.authdom in
    let p3 = p2 ++ r.chal in
    let p4 = p3 ++ name_field 28 r.hostid in
    omega (arith, a, d, h, u, fits.chal, length-append (r.kind ∷ []) (name_field 28 r.authid), length-append p1 (name_field 48 r.authdom), length-append p2 r.chal, length-append p3 (name_field 28 r.hostid), length-append p4 (name_field 28 r.uid))

length_ticket : (t : Ticket) → FitsTicket t → length (ticket_text t) ≡ 72
unfolding ticket_text
length_ticket t fits =
    let c = length-name_field 28 t.cuid fits.cuid.short.short in
    let s = length-name_field 28 t.suid fits.suid.short.short in
    let a = t.num ∷ [] ++ t.chal in
    let b = a ++ name_field 28 t.cuid in
    let d = b ++ name_field 28 t.suid in
    omega (arith, fits.chal.whole, c, s, fits.key.whole, length-append (t.num ∷ []) t.chal, length-append a (name_field 28 t.cuid), length-append b (name_field 28 t.suid), length-append d t.key.0)

pub length_sealed_ticket : (key : List ℕ) (t : Ticket) → FitsTicket t → length (sealed key (ticket_text t)) ≡ 72
length_sealed_ticket key t fits = let long = length_ticket t fits in length-sealed key (ticket_text t) (omega (arith, long)) ∙ long

length_authenticator : (a : Authenticator) → length a.chal ≡ 8 → length (authenticator_text a) ≡ 13
unfolding authenticator_text
length_authenticator a chal = omega (arith, chal, length-append (a.num ∷ []) a.chal, length-append (a.num ∷ [] ++ a.chal) (to_le_bytes w32 a.id))

pub length_sealed_authenticator : (key : List ℕ) (a : Authenticator) → length a.chal ≡ 8 → length (sealed key (authenticator_text a)) ≡ 13
length_sealed_authenticator key a chal = let long = length_authenticator a chal in length-sealed key (authenticator_text a) (omega (arith, long)) ∙ long

-- ---- what they open to

pub request_read : (r : TicketReq) → FitsRequest r → request_of (request_text r) ≡ Ok r
request_read r fits = request_again (request_text r) r (request_written r fits)

-- the key that a word stands for
pub seven : (w : List ℕ) → IsBlock 8 w → IsBlock 7 (take 7 w)
seven w block = record { whole = length-take-le 7 w (omega (arith, block.whole)); bytes = All-take (λ b. b < 256) 7 w block.bytes }

-- a sealed ticket in front of what follows
pub ticket_in_front : (key rest : List ℕ) (t : Ticket) → FitsTicket t → ticket_of (opened key (take 72 (sealed key (ticket_text t) ++ rest))) ≡ Ok t
ticket_in_front key rest t fits = ap (λ text. ticket_of (opened key text)) (take_at (sealed key (ticket_text t)) rest 72 (length_sealed_ticket key t fits)) ∙ ticket_opened key t fits

pub rest_behind : (key rest : List ℕ) (t : Ticket) → FitsTicket t → drop 72 (sealed key (ticket_text t) ++ rest) ≡ rest
rest_behind key rest t fits = drop_at (sealed key (ticket_text t)) rest 72 (length_sealed_ticket key t fits)
