-- What an answer of the authentication server spells: keys of names and keys that are made up, tickets, what vouches for a
-- right answer, and challenges; and where the challenge of a request stands in its bytes.
use Rattle.std.proofs.Common.{◌≡◌, ℕ, ◌+◌, ◌-◌, ◌*◌, ◌<◌, List, [], ◌∷◌, ◌++◌, append_assoc, append-nil, length, length-append, take, drop, replicate, codes, decimal, is_some, All, Option, Some, None, Ok, Err, Bool, true, false, if◌then◌else◌, refl, sym, ap, subst, ◌∙◌, arith}
use Rattle.std.proofs.lemmas.Fmt.{length-decimal-le}
use Rattle.std.proofs.lemmas.List.{length-replicate, length-take, take_at, drop_at}
use Rattle.std.proofs.lemmas.List.Elements.{All-head}
use Rattle.hex.specs.Hex.{encode_lower, encode_with, lower_digits}
use Rattle.md5.proofs.StandardFacts.{length-md5}
use Rattle.md5.specs.Md5.{md5}
use Rattle.sealing.specs.Answer.{apop_digits, cram_digits}
use Rattle.sealing.specs.Hmac.{hmac}
use Rattle.sealing.specs.Sealing.{sealed}
use Rattle.wire_base.specs.Names.{name_field}
use Rattle.sealing.specs.Authenticator.{authenticator_text}
use Rattle.sealing.specs.Fields.{HoldsName, field}
use Rattle.sealing.specs.Fitting.{IsBlock}
use Rattle.sealing.specs.Ticket.{ticket_text}
use Rattle.sealing.specs.declared.request.TicketReq.{TicketReq}
use Rattle.sealing.proofs.FieldLaws.{behind_field, field_here, length-name_field}
use Rattle.auth_tables.specs.Keys.{UserKey}
use Rattle.auth_server.specs.Answers.{challenge_answer, challenge_at, grant, granted_key, shared_key, ticket as ticket_bytes, tickets as tickets_bytes, vouch as vouch_bytes, vouch_text, word}
use Rattle.symbolic_runs.specs.declared.kind.MacKind.{MacKind}
use Rattle.symbolic_runs.specs.declared.kind.MacKind.TheVariants.{Apop, Cram}
use Rattle.symbolic_runs.specs.Trees.{Tree, Trees, plain, challenge, long_key, ticket_key, junk_key, joined, seal, digest, none, piece}
use Rattle.symbolic_runs.specs.Spellings.{Atoms, Spelling, and_then, atom_bytes, digest_bytes, spelling}
use Rattle.symbolic_runs.specs.Forms.{answer_ok, by_client, Fields, AreFields, authenticator, mail_challenge, pair, request, ticket}
use Rattle.symbolic_runs.specs.Gifts.{part as piece_of}
use Rattle.symbolic_runs.specs.Sessions.{client_key, server_key, ticket_for_client, ticket_for_server, tickets_given, vouch_given, vouched_proof, vouched_ticket}
use Rattle.wire_histories.specs.Legal.{Setting, known_at}
use Rattle.clean_runs.specs.KeyNames.{key_name, known_name}
use Rattle.clean_runs.specs.Runs.{name_where, tickets_for, vouch_for}
use Rattle.clean_runs.specs.Clean.{GivesSevens, Reads, ReadsTables, ReadsWords}
use Rattle.clean_runs.proofs.Bytes.{authenticator_is, authenticator_spells, ticket_long, ticket_spells, ticket_with}
use Rattle.clean_runs.proofs.Spelled.{all_parts, all_spell, seal_spells}

-- ---- names of a request

pub short_name : (at : ℕ) (bytes name : List ℕ) → HoldsName (field at 28 bytes) name → length name < 28
short_name at bytes name holds =
    let parts = ap length holds.parts ∙ length-append name (0 ∷ holds.behind) in
    let few = length-take 28 (drop at bytes) in
    omega (arith, parts, few)

-- ---- the challenge of a request

pub record ChallengeIs (atoms : Atoms) (chal : Tree) (c : List ℕ) : Type 0 where
  pub spells : spelling atoms chal ≡ Ok c
  pub eight : length c ≡ 8

ok_same : {a b : List ℕ} → ◌≡◌ {A = Spelling} (Ok a) (Ok b) → a ≡ b
ok_same e = cc

-- the tree of a request spells the front of these bytes, which are 141
pub challenge_is : (atoms : Atoms) (kind : ℕ) (f : Fields) (chal : Tree) (b more : List ℕ) → AreFields f → spelling atoms (request (kind ∷ []) f chal) ≡ Ok b → length b ≡ 141 → ChallengeIs atoms chal (field 77 8 (b ++ more))
challenge_is atoms kind f chal b more whole spells long =
    let after : Trees = piece (plain f.hostid) (piece (plain f.uid) none) in
    let p1 = all_parts atoms (plain (kind ∷ [])) (piece (plain f.authid) (piece (plain f.authdom) (piece chal after))) b spells in
    let p2 = all_parts atoms (plain f.authid) (piece (plain f.authdom) (piece chal after)) p1.rest p1.of_rest in
    let p3 = all_parts atoms (plain f.authdom) (piece chal after) p2.rest p2.of_rest in
    let p4 = all_parts atoms chal after p3.rest p3.of_rest in
    let p5 = all_parts atoms (plain f.hostid) (piece (plain f.uid) none) p4.rest p4.of_rest in
    let p6 = all_parts atoms (plain f.uid) none p5.rest p5.of_rest in
    let k : kind ∷ [] ≡ p1.front = ok_same p1.of_front in
    let a : f.authid ≡ p2.front = ok_same p2.of_front in
    let d : f.authdom ≡ p3.front = ok_same p3.of_front in
    let h : f.hostid ≡ p5.front = ok_same p5.of_front in
    let u : f.uid ≡ p6.front = ok_same p6.of_front in
    let z : [] ≡ p6.rest = ok_same p6.of_rest in
    let lk : length p1.front ≡ 1 = sym (ap length k) in
    let la : length p2.front ≡ 28 = sym (ap length a) ∙ whole.authid in
    let ld : length p3.front ≡ 48 = sym (ap length d) ∙ whole.authdom in
    let lh : length p5.front ≡ 28 = sym (ap length h) ∙ whole.hostid in
    let lu : length p6.front ≡ 28 = sym (ap length u) ∙ whole.uid in
    let lz : length p6.rest ≡ 0 = sym (ap length z) in
    let l1 = ap length p1.parts ∙ length-append p1.front p1.rest in
    let l2 = ap length p2.parts ∙ length-append p2.front p2.rest in
    let l3 = ap length p3.parts ∙ length-append p3.front p3.rest in
    let l4 = ap length p4.parts ∙ length-append p4.front p4.rest in
    let l5 = ap length p5.parts ∙ length-append p5.front p5.rest in
    let l6 = ap length p6.parts ∙ length-append p6.front p6.rest in
    let eight : length p4.front ≡ 8 = omega (arith, long, l1, l2, l3, l4, l5, l6, lk, la, ld, lh, lu, lz) in
    let all : b ++ more ≡ p1.front ++ (p1.rest ++ more) = ap (λ x. x ++ more) p1.parts ∙ append_assoc p1.front p1.rest more in
    let e1 : drop 1 (b ++ more) ≡ p2.front ++ (p2.rest ++ more) = ap (drop 1) all ∙ drop_at p1.front (p1.rest ++ more) 1 lk ∙ ap (λ x. x ++ more) p2.parts ∙ append_assoc p2.front p2.rest more in
    let e29 : drop 29 (b ++ more) ≡ p3.front ++ (p3.rest ++ more) = behind_field (b ++ more) p2.front (p2.rest ++ more) 1 28 la e1 ∙ ap (λ x. x ++ more) p3.parts ∙ append_assoc p3.front p3.rest more in
    let e77 : drop 77 (b ++ more) ≡ p4.front ++ (p4.rest ++ more) = behind_field (b ++ more) p3.front (p3.rest ++ more) 29 48 ld e29 ∙ ap (λ x. x ++ more) p4.parts ∙ append_assoc p4.front p4.rest more in
    let here : field 77 8 (b ++ more) ≡ p4.front = field_here (b ++ more) p4.front (p4.rest ++ more) 77 8 eight e77 in
    record { spells = p4.of_front ∙ ap Ok (sym here); eight = ap length here ∙ eight }

-- ---- keys

pub record KeySpells (atoms : Atoms) (k : Tree) (key : List ℕ) : Type 0 where
  pub spells : spelling atoms k ≡ Ok key
  pub seven : length key ≡ 7

-- what the reading says of a request: of its words and of the server's tables
pub record IsReading (atoms : Atoms) (z : Setting) (number : ℕ) (words : List (List ℕ)) : Type 0 where
  pub drawn : ReadsWords atoms number words
  pub tables : ReadsTables atoms z
  pub sevens : GivesSevens atoms

shared_spells : (atoms : Atoms) (z : Setting) (number : ℕ) (words : List (List ℕ)) → IsReading atoms z number words → KeySpells atoms (ticket_key number) (shared_key words)
shared_spells atoms z number words read = record { spells = ap atom_bytes read.drawn.shared; seven = read.sevens (ticket_key number) (shared_key words) refl read.drawn.shared }

-- the key of the server's ticket, and that of the client's, from the table or made up
server_spells : (atoms : Atoms) (z : Setting) (tables number : ℕ) (words : List (List ℕ)) → IsReading atoms z number words → (name : List ℕ) (may : Bool) (o : Option UserKey) → (known_at z tables).key name ≡ o → KeySpells atoms (server_key (name_where may (if is_some o then Some (key_name z.tables tables name) else None)) number) (granted_key may o (word 1 words))
server_spells atoms z tables number words read name true (Some key) found = record { spells = ap atom_bytes (read.tables tables name key found).0; seven = read.sevens (long_key (key_name z.tables tables name)) key.des refl (read.tables tables name key found).0 }
server_spells atoms z tables number words read name true None found = record { spells = ap atom_bytes read.drawn.for_server; seven = read.sevens (junk_key (2 * number)) _ refl read.drawn.for_server }
server_spells atoms z tables number words read name false o found = record { spells = ap atom_bytes read.drawn.for_server; seven = read.sevens (junk_key (2 * number)) _ refl read.drawn.for_server }

client_spells : (atoms : Atoms) (z : Setting) (tables number : ℕ) (words : List (List ℕ)) → IsReading atoms z number words → (name : List ℕ) (may : Bool) (o : Option UserKey) → (known_at z tables).key name ≡ o → KeySpells atoms (client_key (name_where may (if is_some o then Some (key_name z.tables tables name) else None)) number) (granted_key may o (word 2 words))
client_spells atoms z tables number words read name true (Some key) found = record { spells = ap atom_bytes (read.tables tables name key found).0; seven = read.sevens (long_key (key_name z.tables tables name)) key.des refl (read.tables tables name key found).0 }
client_spells atoms z tables number words read name true None found = record { spells = ap atom_bytes read.drawn.for_client; seven = read.sevens (junk_key (2 * number + 1)) _ refl read.drawn.for_client }
client_spells atoms z tables number words read name false o found = record { spells = ap atom_bytes read.drawn.for_client; seven = read.sevens (junk_key (2 * number + 1)) _ refl read.drawn.for_client }

-- ---- tickets

ticket_text_is : (num : ℕ) (c cuid suid key : List ℕ) → ticket_text (record { num = num; chal = c; cuid = cuid; suid = suid; key = record { 0 = key } }) ≡ ticket_with (num ∷ []) c (name_field 28 cuid) (name_field 28 suid) key
unfolding ticket_text
ticket_text_is num c cuid suid key =
    let n = num ∷ [] in
    let u = name_field 28 cuid in
    let s = name_field 28 suid in
    append_assoc ((n ++ c) ++ u) s key ∙ append_assoc (n ++ c) u (s ++ key) ∙ append_assoc n c (u ++ (s ++ key)) ∙ ap (λ e. n ++ (c ++ (u ++ (s ++ e)))) (sym (append-nil key))

ticket_seals : (atoms : Atoms) (num : ℕ) (chal shared_tree key_tree : Tree) (c cuid suid shared key : List ℕ) → ChallengeIs atoms chal c → length cuid < 28 → length suid < 28 → KeySpells atoms shared_tree shared → KeySpells atoms key_tree key → spelling atoms (seal key_tree (ticket (num ∷ []) chal (name_field 28 cuid) (name_field 28 suid) shared_tree)) ≡ Ok (ticket_bytes num c cuid suid shared key)
ticket_seals atoms num chal shared_tree key_tree c cuid suid shared key of_chal of_cuid of_suid of_shared of_key =
    let body = ticket_with (num ∷ []) c (name_field 28 cuid) (name_field 28 suid) shared in
    let long = ticket_long num c (name_field 28 cuid) (name_field 28 suid) shared of_chal.eight (length-name_field 28 cuid of_cuid) (length-name_field 28 suid of_suid) in
    seal_spells atoms key_tree (ticket (num ∷ []) chal (name_field 28 cuid) (name_field 28 suid) shared_tree) key body of_key.spells (ticket_spells atoms (num ∷ []) (name_field 28 cuid) (name_field 28 suid) chal shared_tree c shared of_chal.spells of_shared.spells) of_key.seven (omega (arith, long))
    ∙ ap (λ text. Ok (sealed key text)) (sym (ticket_text_is num c cuid suid shared))

-- two sealed trees under their byte
both_spell : (atoms : Atoms) (a b : Tree) (first second : List ℕ) → spelling atoms a ≡ Ok first → spelling atoms b ≡ Ok second → spelling atoms (joined (piece (plain answer_ok) (piece a (piece b none)))) ≡ Ok ((4 ∷ []) ++ (first ++ (second ++ [])))
both_spell atoms a b first second of_a of_b =
    all_spell atoms (plain answer_ok) (piece a (piece b none)) answer_ok (first ++ (second ++ [])) refl
    (all_spell atoms a (piece b none) first (second ++ []) of_a
    (all_spell atoms b none second [] of_b refl))

two_behind : (first second : List ℕ) → (4 ∷ []) ++ (first ++ (second ++ [])) ≡ (4 ∷ []) ++ first ++ second
two_behind first second = ap (λ e. (4 ∷ []) ++ (first ++ e)) (append-nil second) ∙ sym (append_assoc (4 ∷ []) first second)

tickets_are : (r : TicketReq) (shared hosts servers : List ℕ) → tickets_bytes r shared hosts servers ≡ (4 ∷ []) ++ ticket_bytes 65 r.chal r.hostid r.uid shared hosts ++ ticket_bytes 64 r.chal r.hostid r.uid shared servers
unfolding tickets_bytes
tickets_are r shared hosts servers = refl

vouch_is : (r : TicketReq) (shared servers : List ℕ) → vouch_text r shared servers ≡ (4 ∷ []) ++ ticket_bytes 64 r.chal r.uid r.uid shared servers ++ sealed shared (authenticator_text (record { num = 67; chal = r.chal; id = 0 }))
unfolding vouch_text
vouch_is r shared servers = refl

-- the tickets of a request
pub grant_spells : (atoms : Atoms) (z : Setting) (tables number : ℕ) (words : List (List ℕ)) → IsReading atoms z number words → (r : TicketReq) (t : Tree) → ChallengeIs atoms (piece_of t 3) r.chal → length r.hostid < 28 → length r.uid < 28 → spelling atoms (tickets_given (tickets_for z tables r t) number) ≡ Ok (grant (known_at z tables) words r)
grant_spells atoms z tables number words read r t of_chal of_host of_user =
    let known = known_at z tables in
    let may = known.speaks r.hostid r.uid in
    let shared = shared_spells atoms z number words read in
    let hosts = granted_key may (known.key r.hostid) (word 2 words) in
    let servers = granted_key may (known.key r.authid) (word 1 words) in
    let for_host = client_spells atoms z tables number words read r.hostid may (known.key r.hostid) refl in
    let for_authid = server_spells atoms z tables number words read r.authid may (known.key r.authid) refl in
    let a = ticket_seals atoms 65 (piece_of t 3) (ticket_key number) (client_key (name_where may (known_name z tables r.hostid)) number) r.chal r.hostid r.uid (shared_key words) hosts of_chal of_host of_user shared for_host in
    let b = ticket_seals atoms 64 (piece_of t 3) (ticket_key number) (server_key (name_where may (known_name z tables r.authid)) number) r.chal r.hostid r.uid (shared_key words) servers of_chal of_host of_user shared for_authid in
    let grant_is = tickets_for z tables r t in
    let first = ticket_bytes 65 r.chal r.hostid r.uid (shared_key words) hosts in
    let second = ticket_bytes 64 r.chal r.hostid r.uid (shared_key words) servers in
    both_spell atoms (ticket_for_client grant_is number) (ticket_for_server grant_is number) first second a b ∙ ap Ok (two_behind first second ∙ sym (tickets_are r (shared_key words) hosts servers))

-- what vouches for a right answer
pub vouch_spells : (atoms : Atoms) (z : Setting) (tables number : ℕ) (words : List (List ℕ)) → IsReading atoms z number words → (r : TicketReq) (t : Tree) → ChallengeIs atoms (piece_of (piece_of t 0) 3) r.chal → length r.uid < 28 → spelling atoms (vouch_given (vouch_for z tables r t) number) ≡ Ok (vouch_bytes (known_at z tables) words r)
vouch_spells atoms z tables number words read r t of_chal of_user =
    let known = known_at z tables in
    let chal = piece_of (piece_of t 0) 3 in
    let shared = shared_spells atoms z number words read in
    let servers = granted_key true (known.key r.authid) (word 1 words) in
    let for_authid = server_spells atoms z tables number words read r.authid true (known.key r.authid) refl in
    let a = ticket_seals atoms 64 chal (ticket_key number) (server_key (known_name z tables r.authid) number) r.chal r.uid r.uid (shared_key words) servers of_chal of_user of_user shared for_authid in
    let body = (67 ∷ []) ++ (r.chal ++ (0 ∷ 0 ∷ 0 ∷ 0 ∷ [])) in
    let size = length-append r.chal (0 ∷ 0 ∷ 0 ∷ 0 ∷ []) in
    let eight = of_chal.eight in
    let b : spelling atoms (seal (ticket_key number) (authenticator by_client chal)) ≡ Ok (sealed (shared_key words) (authenticator_text (record { num = 67; chal = r.chal; id = 0 }))) =
    seal_spells atoms (ticket_key number) (authenticator by_client chal) (shared_key words) body shared.spells (authenticator_spells atoms by_client chal r.chal of_chal.spells) shared.seven (omega (arith, size, eight))
    ∙ ap (λ text. Ok (sealed (shared_key words) text)) (sym (authenticator_is 67 r.chal)) in
    let grant_is = vouch_for z tables r t in
    let first = ticket_bytes 64 r.chal r.uid r.uid (shared_key words) servers in
    let second = sealed (shared_key words) (authenticator_text (record { num = 67; chal = r.chal; id = 0 })) in
    both_spell atoms (vouched_ticket grant_is number) (vouched_proof grant_is number) first second a b ∙ ap Ok (two_behind first second ∙ sym (vouch_is r (shared_key words) servers))

-- ---- digits

twice : (table bytes : List ℕ) → length (encode_with table bytes) ≡ length bytes + length bytes
unfolding encode_with
twice table [] = refl
twice table (b ∷ rest) = omega (arith, twice table rest)

length_hmac : (key text : List ℕ) → length (hmac key text) ≡ 16
unfolding hmac
length_hmac key text = length-md5 _

length_digest : (kind : MacKind) (secret text : List ℕ) → length (digest_bytes kind secret text) ≡ 32
unfolding apop_digits cram_digits
length_digest Apop secret text = omega (arith, twice lower_digits (md5 (text ++ secret)), length-md5 (text ++ secret))
length_digest Cram secret text = omega (arith, twice lower_digits (hmac secret text), length_hmac secret text)

digest_long_in : (kind : MacKind) (of_secret of_text : Spelling) (b : List ℕ) → and_then of_secret (λ secret. and_then of_text (λ text. Ok (digest_bytes kind secret text))) ≡ Ok b → length b ≡ 32
digest_long_in kind (Ok secret) (Ok text) b is = ap length (sym (ok_same is)) ∙ length_digest kind secret text
digest_long_in kind (Ok secret) (Err fault) b is = absurd (cc)
digest_long_in kind (Err fault) of_text b is = absurd (cc)

pub digest_long : (atoms : Atoms) (kind : MacKind) (p t : Tree) (b : List ℕ) → spelling atoms (digest kind p t) ≡ Ok b → length b ≡ 32
digest_long atoms kind p t b is = digest_long_in kind (spelling atoms p) (spelling atoms t) b is

-- the challenge of a request with an answer behind it
pub answered_challenge : (atoms : Atoms) (number : ℕ) (kind : MacKind) (f : Fields) (chal p text : Tree) (b : List ℕ) → AreFields f → spelling atoms (pair (request (number ∷ []) f chal) (digest kind p text)) ≡ Ok b → length b ≡ 173 → ChallengeIs atoms chal (field 77 8 b)
answered_challenge atoms number kind f chal p text b whole spells long =
    let p1 = all_parts atoms (request (number ∷ []) f chal) (piece (digest kind p text) none) b spells in
    let p2 = all_parts atoms (digest kind p text) none p1.rest p1.of_rest in
    let digits = digest_long atoms kind p text p2.front p2.of_front in
    let z : length p2.rest ≡ 0 = sym (ap length (ok_same p2.of_rest)) in
    let l1 = ap length p1.parts ∙ length-append p1.front p1.rest in
    let l2 = ap length p2.parts ∙ length-append p2.front p2.rest in
    let first : length p1.front ≡ 141 = omega (arith, long, l1, l2, digits, z) in
    subst (λ x. ChallengeIs atoms chal (field 77 8 x)) (sym p1.parts) (challenge_is atoms number f chal p1.front p1.rest whole p1.of_front first)

-- ---- challenges

length_challenge : (word dom : List ℕ) → length word ≡ 8 → length (challenge_at word dom) ≡ length dom + 19
unfolding challenge_at
length_challenge word dom long =
    let digits = twice lower_digits word in
    let a = codes "<" ++ encode_lower word in
    let b = a ++ codes "@" in
    let c = b ++ dom in
    omega (arith, long, digits, length-append (codes "<") (encode_lower word), length-append a (codes "@"), length-append b dom, length-append c (codes ">"))

challenge_spells : (atoms : Atoms) (number : ℕ) (word dom : List ℕ) → Reads atoms (challenge number) (encode_lower word) → spelling atoms (mail_challenge dom number) ≡ Ok (challenge_at word dom)
unfolding challenge_at
challenge_spells atoms number word dom reads =
    let digits = encode_lower word in
    let last = 64 ∷ (dom ++ 62 ∷ []) in
    all_spell atoms (plain (60 ∷ [])) (piece (challenge number) (piece (plain last) none)) (60 ∷ []) (digits ++ (last ++ [])) refl
    (all_spell atoms (challenge number) (piece (plain last) none) digits (last ++ []) (ap atom_bytes reads)
    (all_spell atoms (plain last) none last [] refl refl))
    ∙ ap (λ x. Ok ((60 ∷ []) ++ (digits ++ x))) (append-nil last)
    ∙ ap Ok (sym (append_assoc (60 ∷ []) digits last) ∙ sym (append_assoc ((60 ∷ []) ++ digits) (64 ∷ []) (dom ++ 62 ∷ [])) ∙ sym (append_assoc (((60 ∷ []) ++ digits) ++ (64 ∷ [])) dom (62 ∷ [])))

-- a challenge stands behind six bytes, where its length has at most five digits
pub record IsCounted (text : List ℕ) : Type 0 where
  pub parts : challenge_answer text ≡ take 6 (challenge_answer text) ++ text
  pub six : length (take 6 (challenge_answer text)) ≡ 6

counted : (text : List ℕ) → length text < 100000 → IsCounted text
unfolding challenge_answer
counted text few =
    let digits = decimal (length text) in
    let five = length-decimal-le 5 (length text) (omega arith) (omega (arith, few)) (omega (arith, few)) in
    let head = ((9 ∷ []) ++ digits) ++ replicate (5 - length digits) 32 in
    let six : length head ≡ 6 = omega (arith, five, length-append (9 ∷ []) digits, length-append ((9 ∷ []) ++ digits) (replicate (5 - length digits) 32), length-replicate {A = ℕ} (5 - length digits) 32) in
    let front : take 6 (head ++ text) ≡ head = take_at head text 6 six in
    record { parts = ap (λ x. x ++ text) (sym front); six = ap length front ∙ six }

pub record ChallengeGiven (atoms : Atoms) (dom : List ℕ) (number : ℕ) (b : List ℕ) : Type 0 where
  pub six : length (take 6 b) ≡ 6
  pub spells : spelling atoms (pair (plain (take 6 b)) (mail_challenge dom number)) ≡ Ok b

pub challenge_given : (atoms : Atoms) (dom : List ℕ) (number : ℕ) (word : List ℕ) → Reads atoms (challenge number) (encode_lower word) → length word ≡ 8 → length dom < 48 → ChallengeGiven atoms dom number (challenge_answer (challenge_at word dom))
challenge_given atoms dom number word reads eight short =
    let text = challenge_at word dom in
    let long = length_challenge word dom eight in
    let c = counted text (omega (arith, long, short)) in
    let head = take 6 (challenge_answer text) in
    record {
      six = c.six;
      spells =
          all_spell atoms (plain head) (piece (mail_challenge dom number) none) head (text ++ []) refl
          (all_spell atoms (mail_challenge dom number) none text [] (challenge_spells atoms number word dom reads) refl)
          ∙ ap (λ x. Ok (head ++ x)) (append-nil text)
          ∙ ap Ok (sym c.parts);
    }

-- the first of three words
pub first_word : (words : List (List ℕ)) → length words ≡ 3 → All (IsBlock 8) words → length (word 0 words) ≡ 8
first_word [] three all = absurd (omega (arith, three))
first_word (w ∷ words) three all = (All-head (IsBlock 8) w words all).whole
