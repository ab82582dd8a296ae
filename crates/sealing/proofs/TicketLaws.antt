-- A ticket is read exactly where its fields stand; and as it is written it is read.
use Rattle.std.proofs.Common.{◌≡◌, ℕ, List, [], ◌∷◌, ◌++◌, length, drop, Ok, Err, refl, ap, subst, append_assoc, append-nil}
use Rattle.std.specs.Prelude.{◌↔◌, ◌≢◌, slice_index}
use Rattle.wire_base.specs.Names.{IsName, name_field}
use Rattle.sealing.specs.Fields.{FirstBad, field, name_in, ◌>>=◌}
use Rattle.sealing.specs.Ticket.{ticket_names, ticket_text, IsTicket, ticket_of}
use Rattle.sealing.specs.declared.ticket.Ticket.{Ticket}
use Rattle.sealing.specs.declared.fault.FieldFault.{FieldFault}
use Rattle.sealing.specs.declared.fault.FieldFault.TheVariants.{Short}
use Rattle.sealing.proofs.FaultLaws.{first_bad, none_bad}
use Rattle.sealing.proofs.FieldLaws.{name_holds, name_read, bind_ok, field_here, behind_field, name_here, behind_name, never_short, bind_never_short, name_never_short}

-- a ticket whose names and other fields have the sizes of their fields
pub record HasSizes (t : Ticket) : Type 0 where
  pub chal : length t.chal ≡ 8
  pub cuid : IsName 28 t.cuid
  pub suid : IsName 28 t.suid
  pub key : length t.key.0 ≡ 7

abbrev ticket : List ℕ → List ℕ → List ℕ → Ticket
ticket bytes cuid suid = record { num = slice_index bytes 0; chal = field 1 8 bytes; cuid = cuid; suid = suid; key = record { 0 = field 65 7 bytes } }

ticket_taken : (bytes : List ℕ) (t : Ticket) → ticket_of bytes ≡ Ok t → IsTicket bytes t
unfolding ticket_of
ticket_taken bytes t e =
    let c = bind_ok (name_in 9 28 bytes) (λ cuid. name_in 37 28 bytes >>= λ suid. Ok (ticket bytes cuid suid)) t e in
    let s = bind_ok (name_in 37 28 bytes) (λ suid. Ok (ticket bytes c.0 suid)) t c.2 in
    let same : ticket bytes c.0 s.0 ≡ t = cc in
    let P : Ticket → Type 0 = λ t. IsTicket bytes t in
    subst P same (record {
      num = refl;
      chal = refl;
      cuid = name_holds 9 28 bytes c.0 c.1;
      suid = name_holds 37 28 bytes s.0 s.1;
      key = refl;
    })

ticket_again : (bytes : List ℕ) (t : Ticket) → IsTicket bytes t → ticket_of bytes ≡ Ok t
unfolding ticket_of
ticket_again bytes t is =
    rw (
      name_read 9 28 bytes t.cuid is.cuid,
      name_read 37 28 bytes t.suid is.suid,
      is.num,
      is.chal,
      is.key,
    ) refl

pub ticket_layout : (bytes : List ℕ) (t : Ticket) → (ticket_of bytes ≡ Ok t) ↔ IsTicket bytes t
ticket_layout bytes t = (ticket_taken bytes t, ticket_again bytes t)

-- the fault is that of the first bad field
pub ticket_fault : (bytes : List ℕ) (fault : FieldFault) → (ticket_of bytes ≡ Err fault) ↔ FirstBad ticket_names bytes fault
unfolding ticket_of
ticket_fault bytes fault =
    first_bad 9 28 bytes fault ((37, 28) ∷ []) _ (λ cuid.
    first_bad 37 28 bytes fault [] _ (λ suid. none_bad bytes fault (ticket bytes cuid suid)))

pub ticket_never_short : (bytes : List ℕ) (need : ℕ) → ticket_of bytes ≢ Err (Short need)
unfolding ticket_of
ticket_never_short bytes need =
    never_short (ticket_of bytes) need (
    bind_never_short (name_in 9 28 bytes) _ (name_never_short 9 28 bytes) (λ cuid.
    bind_never_short (name_in 37 28 bytes) _ (name_never_short 37 28 bytes) (λ suid. tt)))

regrouped : (num : ℕ) (a b c d : List ℕ) → num ∷ [] ++ a ++ b ++ c ++ d ≡ num ∷ (a ++ (b ++ (c ++ (d ++ []))))
regrouped num a b c d = simp (append_assoc, append-nil)

-- a ticket as it is written is read again
pub ticket_written : (t : Ticket) → HasSizes t → ticket_of (ticket_text t) ≡ Ok t
unfolding ticket_text
ticket_written t fits =
    let bytes = t.num ∷ [] ++ t.chal ++ name_field 28 t.cuid ++ name_field 28 t.suid ++ t.key.0 in
    let key_rest = t.key.0 ++ [] in
    let suid_rest = name_field 28 t.suid ++ key_rest in
    let cuid_rest = name_field 28 t.cuid ++ suid_rest in
    let all : bytes ≡ t.num ∷ (t.chal ++ cuid_rest) = regrouped t.num t.chal (name_field 28 t.cuid) (name_field 28 t.suid) t.key.0 in
    let at_1 : drop 1 bytes ≡ t.chal ++ cuid_rest = ap (λ (xs : List ℕ). drop 1 xs) all in
    let at_9 : drop 9 bytes ≡ cuid_rest = behind_field bytes t.chal cuid_rest 1 8 fits.chal at_1 in
    let at_37 : drop 37 bytes ≡ suid_rest = behind_name bytes t.cuid suid_rest 9 28 fits.cuid at_9 in
    let at_65 : drop 65 bytes ≡ key_rest = behind_name bytes t.suid key_rest 37 28 fits.suid at_37 in
    ticket_again bytes t (record {
      num = refl;
      chal = field_here bytes t.chal cuid_rest 1 8 fits.chal at_1;
      cuid = name_here bytes t.cuid suid_rest 9 28 fits.cuid at_9;
      suid = name_here bytes t.suid key_rest 37 28 fits.suid at_37;
      key = field_here bytes t.key.0 [] 65 7 fits.key at_65;
    })
