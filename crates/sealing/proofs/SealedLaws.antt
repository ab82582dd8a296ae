-- What was written and sealed is opened as it was written.
use Rattle.std.proofs.Common.{◌≡◌, ℕ, zero, suc, ◌<◌, ◌≤◌, List, [], ◌∷◌, ◌++◌, length, Ok, ap, ◌∙◌, arith}
use Rattle.std.specs.Prelude.{All}
use Rattle.std.specs.Int.{w32, byte_at, bytes_low_first, to_le_bytes}
use Rattle.std.proofs.lemmas.List.{length-append}
use Rattle.std.proofs.lemmas.List.Elements.{All-append, All-cons, All-nil, All-replicate}
use Rattle.sealing.specs.Sealing.{opened, sealed}
use Rattle.sealing.proofs.SealLaws.{sealed_undone}
use Rattle.wire_base.specs.Names.{name_field}
use Rattle.sealing.specs.Authenticator.{authenticator_of, authenticator_text}
use Rattle.sealing.specs.Fitting.{FitsAuthenticator, FitsName, FitsTicket}
use Rattle.sealing.specs.Ticket.{ticket_of, ticket_text}
use Rattle.sealing.specs.declared.authenticator.Authenticator.{Authenticator}
use Rattle.sealing.specs.declared.ticket.Ticket.{Ticket}
use Rattle.sealing.proofs.AuthenticatorLaws.{authenticator_written}
use Rattle.sealing.proofs.TicketLaws.{ticket_written}

abbrev IsByte : ℕ → Type 0
IsByte b = b < 256

-- a name's field is bytes
field_bytes : (size : ℕ) (name : List ℕ) → FitsName size name → All IsByte (name_field size name)
field_bytes size name fits =
    All-append IsByte name _ fits.bytes (All-cons IsByte 0 _ (omega arith) (All-replicate IsByte _ 0 (omega arith)))

ticket_bytes : (t : Ticket) → FitsTicket t → All IsByte (ticket_text t)
unfolding ticket_text
ticket_bytes t fits =
    All-append IsByte (t.num ∷ [] ++ t.chal ++ name_field 28 t.cuid ++ name_field 28 t.suid) t.key.0
    (All-append IsByte (t.num ∷ [] ++ t.chal ++ name_field 28 t.cuid) (name_field 28 t.suid)
    (All-append IsByte (t.num ∷ [] ++ t.chal) (name_field 28 t.cuid)
    (All-append IsByte (t.num ∷ []) t.chal (All-cons IsByte t.num [] fits.num (All-nil IsByte)) fits.chal.bytes)
    (field_bytes 28 t.cuid fits.cuid))
    (field_bytes 28 t.suid fits.suid))
    fits.key.bytes

ticket_long : (t : Ticket) → FitsTicket t → 8 ≤ length (ticket_text t)
unfolding ticket_text
ticket_long t fits =
    let a = t.num ∷ [] ++ t.chal in
    let b = a ++ name_field 28 t.cuid in
    let c = b ++ name_field 28 t.suid in
    omega (arith, length-append c t.key.0, length-append b (name_field 28 t.suid), length-append a (name_field 28 t.cuid), length-append (t.num ∷ []) t.chal, fits.chal.whole)

pub ticket_opened : (key : List ℕ) (t : Ticket) → FitsTicket t → ticket_of (opened key (sealed key (ticket_text t))) ≡ Ok t
ticket_opened key t fits =
    ap ticket_of (sealed_undone key (ticket_text t) (ticket_long t fits) (ticket_bytes t fits))
    ∙ ticket_written t (record { chal = fits.chal.whole; cuid = fits.cuid.short; suid = fits.suid.short; key = fits.key.whole })

byte_small : (i n : ℕ) → byte_at i n < 256
byte_small zero n = omega arith
byte_small (suc i) n = omega arith

low_bytes : (i k n : ℕ) → All IsByte (bytes_low_first i k n)
low_bytes i zero n = All-nil IsByte
low_bytes i (suc k) n = All-cons IsByte (byte_at i n) (bytes_low_first (suc i) k n) (byte_small i n) (low_bytes (suc i) k n)

authenticator_bytes : (a : Authenticator) → FitsAuthenticator a → All IsByte (authenticator_text a)
unfolding authenticator_text
authenticator_bytes a fits =
    All-append IsByte (a.num ∷ [] ++ a.chal) (to_le_bytes w32 a.id)
    (All-append IsByte (a.num ∷ []) a.chal (All-cons IsByte a.num [] fits.num (All-nil IsByte)) fits.chal.bytes)
    (low_bytes 0 4 a.id)

authenticator_long : (a : Authenticator) → FitsAuthenticator a → 8 ≤ length (authenticator_text a)
unfolding authenticator_text
authenticator_long a fits =
    omega (arith, length-append (a.num ∷ [] ++ a.chal) (to_le_bytes w32 a.id), length-append (a.num ∷ []) a.chal, fits.chal.whole)

pub authenticator_opened : (key : List ℕ) (a : Authenticator) → FitsAuthenticator a → authenticator_of (opened key (sealed key (authenticator_text a))) ≡ a
authenticator_opened key a fits =
    ap authenticator_of (sealed_undone key (authenticator_text a) (authenticator_long a fits) (authenticator_bytes a fits))
    ∙ authenticator_written a fits.chal.whole fits.id
