-- A request is read exactly where its fields stand; and as it is written it is read.
use Rattle.std.proofs.Common.{◌≡◌, ℕ, ◌<◌, ◌≤◌, cond, ltb, List, [], ◌∷◌, ◌++◌, length, drop, Ok, Err, refl, ap, subst, arith, append_assoc, append-nil, inl, inr}
use Rattle.std.specs.Prelude.{◌↔◌, Result, slice_index}
use Rattle.std.proofs.lemmas.Bool.{cases_Bool, le-ltb, lt-ltb, ltb-true, ltb-false}
use Rattle.std.proofs.lemmas.List.{length-append, length-drop}
use Rattle.wire_base.specs.Names.{name_field}
use Rattle.sealing.specs.Fields.{FirstBad, field, name_in, ◌>>=◌}
use Rattle.sealing.specs.Fitting.{FitsRequest}
use Rattle.sealing.specs.Request.{request_names, request_text, IsRequest, request_fields, request_of}
use Rattle.sealing.specs.declared.request.TicketReq.{TicketReq}
use Rattle.sealing.specs.declared.fault.FieldFault.{FieldFault}
use Rattle.sealing.specs.declared.fault.FieldFault.TheVariants.{Short}
use Rattle.sealing.proofs.FaultLaws.{first_bad, none_bad}
use Rattle.sealing.proofs.FieldLaws.{name_holds, name_read, bind_ok, field_here, behind_field, name_here, behind_name, length-name_field, NeverShort, never_short, bind_never_short, name_never_short}

abbrev fine : TicketReq → Result TicketReq FieldFault
fine r = Ok r

abbrev request : List ℕ → List ℕ → List ℕ → List ℕ → List ℕ → TicketReq
request bytes authid authdom hostid uid = record { kind = slice_index bytes 0; authid = authid; authdom = authdom; chal = field 77 8 bytes; hostid = hostid; uid = uid }

found : (bytes authid authdom hostid uid : List ℕ) (r : TicketReq) → 141 ≤ length bytes → name_in 1 28 bytes ≡ Ok authid → name_in 29 48 bytes ≡ Ok authdom → name_in 85 28 bytes ≡ Ok hostid → name_in 113 28 bytes ≡ Ok uid
    → fine (request bytes authid authdom hostid uid) ≡ fine r → IsRequest bytes r
found bytes authid authdom hostid uid r whole a d h u e =
    let same : request bytes authid authdom hostid uid ≡ r = cc in
    let P : TicketReq → Type 0 = λ r. IsRequest bytes r in
    subst P same (record {
      whole = whole;
      kind = refl;
      authid = name_holds 1 28 bytes authid a;
      authdom = name_holds 29 48 bytes authdom d;
      chal = refl;
      hostid = name_holds 85 28 bytes hostid h;
      uid = name_holds 113 28 bytes uid u;
    })

fields_taken : (bytes : List ℕ) (r : TicketReq) → 141 ≤ length bytes → request_fields bytes ≡ Ok r → IsRequest bytes r
unfolding request_fields
fields_taken bytes r whole e =
    let a = bind_ok (name_in 1 28 bytes) (λ authid. name_in 29 48 bytes >>= λ authdom. name_in 85 28 bytes >>= λ hostid. name_in 113 28 bytes >>= λ uid. Ok (request bytes authid authdom hostid uid)) r e in
    let d = bind_ok (name_in 29 48 bytes) (λ authdom. name_in 85 28 bytes >>= λ hostid. name_in 113 28 bytes >>= λ uid. Ok (request bytes a.0 authdom hostid uid)) r a.2 in
    let h = bind_ok (name_in 85 28 bytes) (λ hostid. name_in 113 28 bytes >>= λ uid. Ok (request bytes a.0 d.0 hostid uid)) r d.2 in
    let u = bind_ok (name_in 113 28 bytes) (λ uid. Ok (request bytes a.0 d.0 h.0 uid)) r h.2 in
    found bytes a.0 d.0 h.0 u.0 r whole a.1 d.1 h.1 u.1 u.2

pub request_taken : (bytes : List ℕ) (r : TicketReq) → request_of bytes ≡ Ok r → IsRequest bytes r
unfolding request_of
request_taken bytes r e =
    elim (cases_Bool (ltb (length bytes) 141)) [
      | inl is ↦ absurd (let f = rw is at e in (cc))
      | inr not_so ↦ fields_taken bytes r (ltb-false _ _ not_so) (rw not_so at e)
    ]

pub request_again : (bytes : List ℕ) (r : TicketReq) → IsRequest bytes r → request_of bytes ≡ Ok r
unfolding request_of request_fields
request_again bytes r is =
    rw (
      le-ltb (length bytes) 141 is.whole,
      name_read 1 28 bytes r.authid is.authid,
      name_read 29 48 bytes r.authdom is.authdom,
      name_read 85 28 bytes r.hostid is.hostid,
      name_read 113 28 bytes r.uid is.uid,
      is.kind,
      is.chal,
    ) refl

-- where there are bytes enough the fields decide
pub request_whole : (bytes : List ℕ) → 141 ≤ length bytes → request_of bytes ≡ request_fields bytes
unfolding request_of
request_whole bytes whole = rw (le-ltb (length bytes) 141 whole) refl

pub request_layout : (bytes : List ℕ) (r : TicketReq) → (request_of bytes ≡ Ok r) ↔ IsRequest bytes r
request_layout bytes r = (request_taken bytes r, request_again bytes r)

fields_never_short : (bytes : List ℕ) → NeverShort (request_fields bytes)
unfolding request_fields
fields_never_short bytes =
    bind_never_short (name_in 1 28 bytes) _ (name_never_short 1 28 bytes) (λ authid.
    bind_never_short (name_in 29 48 bytes) _ (name_never_short 29 48 bytes) (λ authdom.
    bind_never_short (name_in 85 28 bytes) _ (name_never_short 85 28 bytes) (λ hostid.
    bind_never_short (name_in 113 28 bytes) _ (name_never_short 113 28 bytes) (λ uid. tt))))

-- the fault is that of the first bad field
fields_fault : (bytes : List ℕ) (fault : FieldFault) → (request_fields bytes ≡ Err fault) ↔ FirstBad request_names bytes fault
unfolding request_fields
fields_fault bytes fault =
    first_bad 1 28 bytes fault ((29, 48) ∷ (85, 28) ∷ (113, 28) ∷ []) _ (λ authid.
    first_bad 29 48 bytes fault ((85, 28) ∷ (113, 28) ∷ []) _ (λ authdom.
    first_bad 85 28 bytes fault ((113, 28) ∷ []) _ (λ hostid.
    first_bad 113 28 bytes fault [] _ (λ uid. none_bad bytes fault (request bytes authid authdom hostid uid)))))

pub request_fault : (bytes : List ℕ) (fault : FieldFault) → 141 ≤ length bytes → (request_of bytes ≡ Err fault) ↔ FirstBad request_names bytes fault
request_fault bytes fault whole = rw (request_whole bytes whole) (fields_fault bytes fault)

pub request_short : (bytes : List ℕ) → (request_of bytes ≡ Err (Short 141)) ↔ (length bytes < 141)
unfolding request_of
request_short bytes = (wants, λ less. rw (lt-ltb (length bytes) 141 less) refl)
  where
    wants : cond (ltb (length bytes) 141) (Err (Short 141)) (request_fields bytes) ≡ Err (Short 141) → length bytes < 141
    wants e = elim (cases_Bool (ltb (length bytes) 141)) [
      | inl is ↦ ltb-true _ _ is
      | inr not_so ↦ absurd (never_short (request_fields bytes) 141 (fields_never_short bytes) (rw not_so at e))
    ]

regrouped : (kind : ℕ) (a b c d e : List ℕ) → kind ∷ [] ++ a ++ b ++ c ++ d ++ e ≡ kind ∷ (a ++ (b ++ (c ++ (d ++ (e ++ [])))))
regrouped kind a b c d e = simp (append_assoc, append-nil)

-- the fields of a request as it is written stand at their offsets
pub request_written : (r : TicketReq) → FitsRequest r → IsRequest (request_text r) r
unfolding request_text
request_written r fits =
    let bytes = r.kind ∷ [] ++ name_field 28 r.authid ++ name_field 48 r.authdom ++ r.chal ++ name_field 28 r.hostid ++ name_field 28 r.uid in
    let uid_rest = name_field 28 r.uid ++ [] in
    let hostid_rest = name_field 28 r.hostid ++ uid_rest in
    let chal_rest = r.chal ++ hostid_rest in
    let authdom_rest = name_field 48 r.authdom ++ chal_rest in
    let all : bytes ≡ r.kind ∷ (name_field 28 r.authid ++ authdom_rest) = regrouped r.kind (name_field 28 r.authid) (name_field 48 r.authdom) r.chal (name_field 28 r.hostid) (name_field 28 r.uid) in
    let at_1 : drop 1 bytes ≡ name_field 28 r.authid ++ authdom_rest = ap (λ (xs : List ℕ). drop 1 xs) all in
    let at_29 : drop 29 bytes ≡ authdom_rest = behind_name bytes r.authid authdom_rest 1 28 fits.authid at_1 in
    let at_77 : drop 77 bytes ≡ chal_rest = behind_name bytes r.authdom chal_rest 29 48 fits.authdom at_29 in
    let at_85 : drop 85 bytes ≡ hostid_rest = behind_field bytes r.chal hostid_rest 77 8 fits.chal at_77 in
    let at_113 : drop 113 bytes ≡ uid_rest = behind_name bytes r.hostid uid_rest 85 28 fits.hostid at_85 in
    record {
      whole = omega (arith, length-drop 113 bytes, ap length at_113, length-append (name_field 28 r.uid) [], length-name_field 28 r.uid fits.uid.short);
      kind = refl;
      authid = name_here bytes r.authid authdom_rest 1 28 fits.authid at_1;
      authdom = name_here bytes r.authdom chal_rest 29 48 fits.authdom at_29;
      chal = field_here bytes r.chal hostid_rest 77 8 fits.chal at_77;
      hostid = name_here bytes r.hostid uid_rest 85 28 fits.hostid at_85;
      uid = name_here bytes r.uid [] 113 28 fits.uid at_113;
    }
