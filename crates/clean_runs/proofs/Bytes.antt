-- What a tree of bytes spells are bytes, and the records of authsrv(6) in them: a request's and a ticket's fields stand where
-- the codec reads them.
use Rattle.std.proofs.Common.{◌≡◌, ℕ, ◌+◌, ◌<◌, ◌/◌, ◌%◌, List, [], ◌∷◌, ◌++◌, append_assoc, append-nil, length, length-append, drop, slice_index, All, Option, Some, None, Ok, Err, Bool, true, false, ◌==◌, if◌then◌else◌, inl, inr, refl, sym, ap, subst, ◌∙◌, arith}
use Rattle.std.proofs.lemmas.Bool.{and_parts, cases_Bool, ltb-false, ltb-true}
use Rattle.std.proofs.lemmas.List.{get_or_past}
use Rattle.std.proofs.lemmas.List.Elements.{All-append, All-cons, All-get_or, All-nil}
use Rattle.std.specs.List.{list_all, list_any}
use Rattle.std.specs.Prelude.{nat_lt}
use Rattle.hex.specs.Hex.{encode_with, lower_digits}
use Rattle.md5.specs.Md5.{md5}
use Rattle.sealing.specs.Answer.{apop_digits, cram_digits}
use Rattle.sealing.specs.Hmac.{hmac}
use Rattle.sealing.proofs.SealLaws.{IsBytes-sealed}
use Rattle.wire_base.specs.Names.{name_field}
use Rattle.wire_base.specs.Texts.{is_text}
use Rattle.sealing.specs.Authenticator.{authenticator_text}
use Rattle.sealing.specs.Fields.{HoldsName, field}
use Rattle.sealing.specs.Fitting.{FitsRequest}
use Rattle.sealing.specs.Request.{request_text}
use Rattle.sealing.specs.Ticket.{ticket_of}
use Rattle.sealing.specs.declared.request.TicketReq.{TicketReq}
use Rattle.sealing.specs.declared.ticket.Ticket.{Ticket}
use Rattle.sealing.proofs.FieldLaws.{behind_field, field_here, length-name_field}
use Rattle.sealing.proofs.TicketLaws.{ticket_layout}
use Rattle.symbolic_runs.specs.declared.kind.MacKind.{MacKind}
use Rattle.symbolic_runs.specs.declared.kind.MacKind.TheVariants.{Apop, Cram}
use Rattle.symbolic_runs.specs.Trees.{Tree, Trees, plain, nonce, challenge, long_key, ticket_key, junk_key, password, joined, seal, digest, none, piece}
use Rattle.symbolic_runs.specs.Spellings.{Atoms, Spelling, and_then, atom_bytes, bytes_of, digest_bytes, spelling, spelling_all}
use Rattle.symbolic_runs.specs.Forms.{Fields, authenticator, name_text, request, ticket}
use Rattle.clean_runs.specs.Clean.{AllHoldBytes, GivesBytes, HoldsBytes}
use Rattle.clean_runs.specs.Runs.{names_in}
use Rattle.clean_runs.proofs.Spelled.{all_parts, all_spell, seal_parts}

abbrev pub AreBytes : List ℕ → Type 0
AreBytes b = All (λ n. n < 256) b

-- ---- digits are bytes

digit_small : (i : ℕ) → slice_index lower_digits i < 256
digit_small i = elim (cases_Bool (nat_lt i 16)) [
  | inl few ↦ All-get_or (λ n. n < 256) lower_digits i 0 (ltb-true i 16 few) (small lower_digits refl)
  | inr many ↦ (let past : slice_index lower_digits i ≡ 0 = get_or_past lower_digits i 0 (ltb-false i 16 many) in omega (arith, past))
]
  where
    small : (text : List ℕ) → list_all (λ b. nat_lt b 256) text ≡ true → All (λ n. n < 256) text
    small [] is = All-nil (λ n. n < 256)
    small (b ∷ text) is =
        let parts = and_parts (nat_lt b 256) (list_all (λ b. nat_lt b 256) text) is in
        All-cons (λ n. n < 256) b text (ltb-true b 256 parts.0) (small text parts.1)

pub digits_small : (b : List ℕ) → AreBytes (encode_with lower_digits b)
unfolding encode_with
digits_small [] = All-nil (λ n. n < 256)
digits_small (b ∷ rest) = All-cons (λ n. n < 256) (slice_index lower_digits (b / 16)) (slice_index lower_digits (b % 16) ∷ encode_with lower_digits rest) (digit_small (b / 16)) (All-cons (λ n. n < 256) (slice_index lower_digits (b % 16)) (encode_with lower_digits rest) (digit_small (b % 16)) (digits_small rest))

digest_small : (kind : MacKind) (secret text : List ℕ) → AreBytes (digest_bytes kind secret text)
unfolding apop_digits cram_digits
digest_small Apop secret text = digits_small (md5 (text ++ secret))
digest_small Cram secret text = digits_small (hmac secret text)

-- ---- what a tree spells

atom_is : (o : Option (List ℕ)) (b : List ℕ) → atom_bytes o ≡ Ok b → o ≡ Some b
atom_is (Some x) b is = (let same : x ≡ b = cc in ap Some same)
atom_is None b is = absurd (cc)

pub record Digested (kind : MacKind) (of_secret of_text : Spelling) (b : List ℕ) : Type 0 where
  pub secret : List ℕ
  pub text : List ℕ
  pub is : b ≡ digest_bytes kind secret text

digest_in : (kind : MacKind) (of_secret of_text : Spelling) (b : List ℕ) → and_then of_secret (λ secret. and_then of_text (λ text. Ok (digest_bytes kind secret text))) ≡ Ok b → Digested kind of_secret of_text b
digest_in kind (Ok secret) (Ok text) b is = record { secret = secret; text = text; is = (let same : b ≡ digest_bytes kind secret text = cc in same) }
digest_in kind (Ok secret) (Err fault) b is = absurd (cc)
digest_in kind (Err fault) of_text b is = absurd (cc)

mutual
  pub tree_bytes : (atoms : Atoms) → GivesBytes atoms → (t : Tree) → HoldsBytes t → (b : List ℕ) → spelling atoms t ≡ Ok b → AreBytes b
  tree_bytes atoms gives (plain bs) holds b is = (let same : bs ≡ b = cc in subst AreBytes same holds)
  tree_bytes atoms gives (nonce n) holds b is = gives (nonce n) b (atom_is (bytes_of atoms (nonce n)) b is)
  tree_bytes atoms gives (challenge n) holds b is = gives (challenge n) b (atom_is (bytes_of atoms (challenge n)) b is)
  tree_bytes atoms gives (long_key n) holds b is = gives (long_key n) b (atom_is (bytes_of atoms (long_key n)) b is)
  tree_bytes atoms gives (ticket_key n) holds b is = gives (ticket_key n) b (atom_is (bytes_of atoms (ticket_key n)) b is)
  tree_bytes atoms gives (junk_key n) holds b is = gives (junk_key n) b (atom_is (bytes_of atoms (junk_key n)) b is)
  tree_bytes atoms gives (password n) holds b is = gives (password n) b (atom_is (bytes_of atoms (password n)) b is)
  tree_bytes atoms gives (joined ts) holds b is = trees_bytes atoms gives ts holds b is
  tree_bytes atoms gives (seal k t) holds b is = let p = seal_parts atoms k t b is in subst AreBytes (sym p.is) (IsBytes-sealed p.key p.body (tree_bytes atoms gives t holds.1 p.body p.body_is))
  tree_bytes atoms gives (digest kind p t) holds b is = let d = digest_in kind (spelling atoms p) (spelling atoms t) b is in subst AreBytes (sym d.is) (digest_small kind d.secret d.text)

  trees_bytes : (atoms : Atoms) → GivesBytes atoms → (ts : Trees) → AllHoldBytes ts → (b : List ℕ) → spelling_all atoms ts ≡ Ok b → AreBytes b
  trees_bytes atoms gives none holds b is = (let same : [] ≡ b = cc in subst AreBytes same (All-nil (λ n. n < 256)))
  trees_bytes atoms gives (piece t ts) holds b is =
      let p = all_parts atoms t ts b is in
      subst AreBytes (sym p.parts) (All-append (λ n. n < 256) p.front p.rest (tree_bytes atoms gives t holds.0 p.front p.of_front) (trees_bytes atoms gives ts holds.1 p.rest p.of_rest))

-- ---- a request

-- a request's bytes, field behind field
abbrev pub request_with : List ℕ → List ℕ → List ℕ → List ℕ → List ℕ → List ℕ → List ℕ
request_with kind a d c h u = kind ++ (a ++ (d ++ (c ++ (h ++ (u ++ [])))))

pub request_spells : (atoms : Atoms) (kind : List ℕ) (f : Fields) (x : Tree) (c : List ℕ) → spelling atoms x ≡ Ok c → spelling atoms (request kind f x) ≡ Ok (request_with kind f.authid f.authdom c f.hostid f.uid)
request_spells atoms kind f x c is =
    let after : Trees = piece (plain f.hostid) (piece (plain f.uid) none) in
    all_spell atoms (plain kind) (piece (plain f.authid) (piece (plain f.authdom) (piece x after))) kind (f.authid ++ (f.authdom ++ (c ++ (f.hostid ++ (f.uid ++ []))))) refl
    (all_spell atoms (plain f.authid) (piece (plain f.authdom) (piece x after)) f.authid (f.authdom ++ (c ++ (f.hostid ++ (f.uid ++ [])))) refl
    (all_spell atoms (plain f.authdom) (piece x after) f.authdom (c ++ (f.hostid ++ (f.uid ++ []))) refl
    (all_spell atoms x after c (f.hostid ++ (f.uid ++ [])) is refl)))

abbrev fields_text : TicketReq → List ℕ
fields_text r = request_with (r.kind ∷ []) (name_field 28 r.authid) (name_field 48 r.authdom) r.chal (name_field 28 r.hostid) (name_field 28 r.uid)

text_is : (r : TicketReq) → request_text r ≡ fields_text r
unfolding request_text
text_is r =
    let k = r.kind ∷ [] in
    let a = name_field 28 r.authid in
    let d = name_field 48 r.authdom in
    let c = r.chal in
    let h = name_field 28 r.hostid in
    let u = name_field 28 r.uid in
    append_assoc (((k ++ a) ++ d) ++ c) h u ∙ append_assoc ((k ++ a) ++ d) c (h ++ u) ∙ append_assoc (k ++ a) d (c ++ (h ++ u)) ∙ append_assoc k a (d ++ (c ++ (h ++ u))) ∙ ap (λ e. k ++ (a ++ (d ++ (c ++ (h ++ e))))) (sym (append-nil u))

-- with more behind it
text_before : (r : TicketReq) (more : List ℕ) → request_text r ++ more ≡ (r.kind ∷ []) ++ (name_field 28 r.authid ++ (name_field 48 r.authdom ++ (r.chal ++ (name_field 28 r.hostid ++ (name_field 28 r.uid ++ more)))))
text_before r more =
    let a = name_field 28 r.authid in
    let d = name_field 48 r.authdom in
    let c = r.chal in
    let h = name_field 28 r.hostid in
    let u = name_field 28 r.uid in
    ap (λ x. x ++ more) (text_is r)
    ∙ ap (λ x. r.kind ∷ x) (append_assoc a (d ++ (c ++ (h ++ (u ++ [])))) more
    ∙ ap (λ x. a ++ x) (append_assoc d (c ++ (h ++ (u ++ []))) more
    ∙ ap (λ x. d ++ x) (append_assoc c (h ++ (u ++ [])) more
    ∙ ap (λ x. c ++ x) (append_assoc h (u ++ []) more
    ∙ ap (λ x. h ++ x) (append_assoc u [] more)))))

-- the names of a request stand in bytes
pub record NamesAre (b : List ℕ) (r : TicketReq) : Type 0 where
  pub authid : (names_in b).authid ≡ name_field 28 r.authid
  pub authdom : (names_in b).authdom ≡ name_field 48 r.authdom
  pub hostid : (names_in b).hostid ≡ name_field 28 r.hostid
  pub uid : (names_in b).uid ≡ name_field 28 r.uid

names_stand : (r : TicketReq) (text more : List ℕ) → FitsRequest r → text ≡ (r.kind ∷ []) ++ (name_field 28 r.authid ++ (name_field 48 r.authdom ++ (r.chal ++ (name_field 28 r.hostid ++ (name_field 28 r.uid ++ more))))) → NamesAre text r
names_stand r text more fits is =
    let a = name_field 28 r.authid in
    let d = name_field 48 r.authdom in
    let c = r.chal in
    let h = name_field 28 r.hostid in
    let u = name_field 28 r.uid in
    let b = (r.kind ∷ []) ++ (a ++ (d ++ (c ++ (h ++ (u ++ more))))) in
    let la = length-name_field 28 r.authid fits.authid.short in
    let ld = length-name_field 48 r.authdom fits.authdom.short in
    let lh = length-name_field 28 r.hostid fits.hostid.short in
    let lu = length-name_field 28 r.uid fits.uid.short in
    let e1 : drop 1 b ≡ a ++ (d ++ (c ++ (h ++ (u ++ more)))) = refl in
    let e29 : drop 29 b ≡ d ++ (c ++ (h ++ (u ++ more))) = behind_field b a (d ++ (c ++ (h ++ (u ++ more)))) 1 28 la e1 in
    let e77 : drop 77 b ≡ c ++ (h ++ (u ++ more)) = behind_field b d (c ++ (h ++ (u ++ more))) 29 48 ld e29 in
    let e85 : drop 85 b ≡ h ++ (u ++ more) = behind_field b c (h ++ (u ++ more)) 77 8 fits.chal e77 in
    let e113 : drop 113 b ≡ u ++ more = behind_field b h (u ++ more) 85 28 lh e85 in
    record {
      authid = ap (λ b. field 1 28 b) is ∙ field_here b a (d ++ (c ++ (h ++ (u ++ more)))) 1 28 la e1;
      authdom = ap (λ b. field 29 48 b) is ∙ field_here b d (c ++ (h ++ (u ++ more))) 29 48 ld e29;
      hostid = ap (λ b. field 85 28 b) is ∙ field_here b h (u ++ more) 85 28 lh e85;
      uid = ap (λ b. field 113 28 b) is ∙ field_here b u more 113 28 lu e113;
    }

-- the tree with these names spells the request
names_spell : (atoms : Atoms) (r : TicketReq) (x : Tree) (b : List ℕ) → NamesAre b r → spelling atoms x ≡ Ok r.chal → spelling atoms (request (r.kind ∷ []) (names_in b) x) ≡ Ok (request_text r)
names_spell atoms r x b n is =
    let f = names_in b in
    request_spells atoms (r.kind ∷ []) f x r.chal is
    ∙ ap (λ a. Ok (request_with (r.kind ∷ []) a f.authdom r.chal f.hostid f.uid)) n.authid
    ∙ ap (λ d. Ok (request_with (r.kind ∷ []) (name_field 28 r.authid) d r.chal f.hostid f.uid)) n.authdom
    ∙ ap (λ h. Ok (request_with (r.kind ∷ []) (name_field 28 r.authid) (name_field 48 r.authdom) r.chal h f.uid)) n.hostid
    ∙ ap (λ u. Ok (request_with (r.kind ∷ []) (name_field 28 r.authid) (name_field 48 r.authdom) r.chal (name_field 28 r.hostid) u)) n.uid
    ∙ ap Ok (sym (text_is r))

-- a request that is written is spelled by the tree with its names, and so is one with more behind it
pub request_is_spelled : (atoms : Atoms) (r : TicketReq) (x : Tree) → FitsRequest r → spelling atoms x ≡ Ok r.chal → spelling atoms (request (r.kind ∷ []) (names_in (request_text r)) x) ≡ Ok (request_text r)
request_is_spelled atoms r x fits is = names_spell atoms r x (request_text r) (names_stand r (request_text r) [] fits (text_is r)) is

pub request_before_is_spelled : (atoms : Atoms) (r : TicketReq) (x : Tree) (more : List ℕ) → FitsRequest r → spelling atoms x ≡ Ok r.chal → spelling atoms (request (r.kind ∷ []) (names_in (request_text r ++ more)) x) ≡ Ok (request_text r)
request_before_is_spelled atoms r x more fits is = names_spell atoms r x (request_text r ++ more) (names_stand r (request_text r ++ more) more fits (text_before r more)) is

-- ---- an authenticator

abbrev pub proof_with : List ℕ → List ℕ → List ℕ
proof_with kind c = kind ++ (c ++ (0 ∷ 0 ∷ 0 ∷ 0 ∷ []))

pub authenticator_spells : (atoms : Atoms) (kind : List ℕ) (x : Tree) (c : List ℕ) → spelling atoms x ≡ Ok c → spelling atoms (authenticator kind x) ≡ Ok (proof_with kind c)
authenticator_spells atoms kind x c is =
    let after : Trees = piece (plain (0 ∷ 0 ∷ 0 ∷ 0 ∷ [])) none in
    all_spell atoms (plain kind) (piece x after) kind (c ++ (0 ∷ 0 ∷ 0 ∷ 0 ∷ [])) refl (all_spell atoms x after c (0 ∷ 0 ∷ 0 ∷ 0 ∷ []) is refl)

pub authenticator_is : (num : ℕ) (c : List ℕ) → authenticator_text (record { num = num; chal = c; id = 0 }) ≡ proof_with (num ∷ []) c
unfolding authenticator_text
authenticator_is num c = append_assoc (num ∷ []) c (0 ∷ 0 ∷ 0 ∷ 0 ∷ [])

-- ---- a ticket

abbrev pub ticket_with : List ℕ → List ℕ → List ℕ → List ℕ → List ℕ → List ℕ
ticket_with number c cuid suid key = number ++ (c ++ (cuid ++ (suid ++ (key ++ []))))

pub ticket_spells : (atoms : Atoms) (number cuid suid : List ℕ) (x k : Tree) (c key : List ℕ) → spelling atoms x ≡ Ok c → spelling atoms k ≡ Ok key → spelling atoms (ticket number x cuid suid k) ≡ Ok (ticket_with number c cuid suid key)
ticket_spells atoms number cuid suid x k c key of_x of_k =
    all_spell atoms (plain number) (piece x (piece (plain cuid) (piece (plain suid) (piece k none)))) number (c ++ (cuid ++ (suid ++ (key ++ [])))) refl
    (all_spell atoms x (piece (plain cuid) (piece (plain suid) (piece k none))) c (cuid ++ (suid ++ (key ++ []))) of_x
    (all_spell atoms (plain cuid) (piece (plain suid) (piece k none)) cuid (suid ++ (key ++ [])) refl
    (all_spell atoms (plain suid) (piece k none) suid (key ++ []) refl
    (all_spell atoms k none key [] of_k refl))))

-- the key of a ticket that is opened
pub opened_key : (number : ℕ) (c cuid suid key : List ℕ) (t : Ticket) → length c ≡ 8 → length cuid ≡ 28 → length suid ≡ 28 → length key ≡ 7 → ticket_of (ticket_with (number ∷ []) c cuid suid key) ≡ Ok t → t.key.0 ≡ key
opened_key number c cuid suid key t lc lu ls lk is =
    let b = ticket_with (number ∷ []) c cuid suid key in
    let e1 : drop 1 b ≡ c ++ (cuid ++ (suid ++ (key ++ []))) = refl in
    let e9 : drop 9 b ≡ cuid ++ (suid ++ (key ++ [])) = behind_field b c (cuid ++ (suid ++ (key ++ []))) 1 8 lc e1 in
    let e37 : drop 37 b ≡ suid ++ (key ++ []) = behind_field b cuid (suid ++ (key ++ [])) 9 28 lu e9 in
    let e65 : drop 65 b ≡ key ++ [] = behind_field b suid (key ++ []) 37 28 ls e37 in
    sym ((ticket_layout b t).0 is).key ∙ field_here b key [] 65 7 lk e65

-- its names are the texts of its fields
name_before : (name behind : List ℕ) → list_any (λ b. b == 0) name ≡ false → name_text (name ++ 0 ∷ behind) ≡ name
name_before [] behind clean = refl
name_before (b ∷ name) behind clean = elim (cases_Bool (b == 0)) [
  | inl is ↦ absurd (let so : true ≡ false = rw is at clean in cc)
  | inr is_none ↦ (
      let rest : list_any (λ b. b == 0) name ≡ false = rw is_none at clean in
      ap (λ (nul : Bool). if nul then [] else b ∷ name_text (name ++ 0 ∷ behind)) is_none ∙ ap (λ text. b ∷ text) (name_before name behind rest))
]

no_nul : (name : List ℕ) → is_text name ≡ true → list_any (λ b. b == 0) name ≡ false
unfolding is_text
no_nul name text = elim (cases_Bool (list_any (λ b. b == 0) name)) [
  | inl is ↦ absurd (let so : false ≡ true = rw is at text in cc)
  | inr is_none ↦ is_none
]

pub text_of_name : (b name : List ℕ) → HoldsName b name → name_text b ≡ name
text_of_name b name holds = ap name_text holds.parts ∙ name_before name holds.behind (no_nul name holds.text)

pub opened_names : (number : ℕ) (c cuid suid key : List ℕ) (t : Ticket) → length c ≡ 8 → length cuid ≡ 28 → length suid ≡ 28 → ticket_of (ticket_with (number ∷ []) c cuid suid key) ≡ Ok t → (name_text cuid ≡ t.cuid) × (name_text suid ≡ t.suid)
opened_names number c cuid suid key t lc lu ls is =
    let b = ticket_with (number ∷ []) c cuid suid key in
    let e1 : drop 1 b ≡ c ++ (cuid ++ (suid ++ (key ++ []))) = refl in
    let e9 : drop 9 b ≡ cuid ++ (suid ++ (key ++ [])) = behind_field b c (cuid ++ (suid ++ (key ++ []))) 1 8 lc e1 in
    let e37 : drop 37 b ≡ suid ++ (key ++ []) = behind_field b cuid (suid ++ (key ++ [])) 9 28 lu e9 in
    let layout = (ticket_layout b t).0 is in
    (text_of_name cuid t.cuid (subst (λ x. HoldsName x t.cuid) (field_here b cuid (suid ++ (key ++ [])) 9 28 lu e9) layout.cuid), text_of_name suid t.suid (subst (λ x. HoldsName x t.suid) (field_here b suid (key ++ []) 37 28 ls e37) layout.suid))

pub ticket_long : (number : ℕ) (c cuid suid key : List ℕ) → length c ≡ 8 → length cuid ≡ 28 → length suid ≡ 28 → length (ticket_with (number ∷ []) c cuid suid key) ≡ 65 + length key
ticket_long number c cuid suid key lc lu ls =
    let a = length-append c (cuid ++ (suid ++ (key ++ []))) in
    let b = length-append cuid (suid ++ (key ++ [])) in
    let d = length-append suid (key ++ []) in
    let e = length-append key [] in
    omega (arith, a, b, d, e, lc, lu, ls)
