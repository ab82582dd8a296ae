-- What is decided is what the forms say.
use Rattle.std.proofs.Common.{◌≡◌, ℕ, ◌↔◌, [], ◌∷◌, List, length, refl, sym, ap, ◌∙◌, Bool, true, ◌&&◌, eqb, subst, Ok, Err, Some, None}
use Rattle.std.proofs.lemmas.Bool.{and_parts, and_from, eq-eqb, eqb-true}
use Rattle.symbolic_runs.specs.Forms.{Fields, AreFields, authenticator, by_client, for_client, for_server, mail_challenge as challenge_text, mail_request, pair, request, server_message, ticket, ticket_request, tickets, vouch}
use Rattle.symbolic_runs.specs.Gifts.{are_whole, bytes, fields_of, has_names, hears_challenge, is_request, opened, part, shown, takes_ticket, ticket_like}
use Rattle.symbolic_runs.specs.Moves.{AreNames, Role, client, server, mail_server, Move, takes, hears, gives, asks, Own}
use Rattle.symbolic_runs.specs.declared.spelling.SpellFault.{SpellFault}
use Rattle.symbolic_runs.specs.Answers.{behind}
use Rattle.symbolic_runs.specs.Spellings.{Atoms, Spelling, spelling}
use Rattle.symbolic_runs.specs.Trees.{Tree, digest, password, plain, same_tree, seal}
use Rattle.symbolic_runs.specs.Runs.{Setting}
use Rattle.symbolic_runs.specs.Sessions.{Deed, Used, got, gives_challenge, gives_tickets, gives_vouch, key_and_password, keys}
use Rattle.symbolic_runs.proofs.EqualityLaws.{equal_trees, tree_equals, tree_itself}
use Rattle.clean_runs.specs.Forms.{IsAnswer, IsAnswered, IsRight, IsChallenge, IsFormed, IsPlain, IsRequest, IsShown, IsVouch}
use Rattle.symbolic_runs.specs.declared.kind.MacKind.{MacKind}
use Rattle.trace_runs.specs.Shapes.{is_answer, is_public, is_vouch}
use Rattle.trace_runs.specs.Rows.{answer_and_question, answer_heard, proof_and_answer, request_and_word, ticket_taken, user_taken, vouch_heard}
use Rattle.trace_runs.proofs.ShapeLaws.{public_is}
use Rattle.trace_runs.specs.Formed.{answered, formed, is_right, is_right_answer, is_server_proof, is_seven, is_whole_request, is_whole_shown, is_whole_vouch}

is_size : (text : List ℕ) (size : ℕ) → length text ≡ size → eqb (length text) size ≡ true
is_size text size e = eq-eqb (length text) size e

whole_fields : (fields : Fields) → AreFields fields → are_whole fields ≡ true
whole_fields fields w = and_from (eqb (length fields.authid) 28) _ (is_size fields.authid 28 w.authid)
    (and_from (eqb (length fields.authdom) 48) _ (is_size fields.authdom 48 w.authdom)
    (and_from (eqb (length fields.hostid) 28) (eqb (length fields.uid) 28) (is_size fields.hostid 28 w.hostid) (is_size fields.uid 28 w.uid)))

fields_whole : (fields : Fields) → are_whole fields ≡ true → AreFields fields
fields_whole fields e =
    let a = and_parts (eqb (length fields.authid) 28) ((eqb (length fields.authdom) 48) && ((eqb (length fields.hostid) 28) && (eqb (length fields.uid) 28))) e in
    let b = and_parts (eqb (length fields.authdom) 48) ((eqb (length fields.hostid) 28) && (eqb (length fields.uid) 28)) a.1 in
    let c = and_parts (eqb (length fields.hostid) 28) (eqb (length fields.uid) 28) b.1 in
    record { authid = eqb-true (length fields.authid) 28 a.0; authdom = eqb-true (length fields.authdom) 48 b.0; hostid = eqb-true (length fields.hostid) 28 c.0; uid = eqb-true (length fields.uid) 28 c.1 }

two_names : (cuid suid : List ℕ) → AreNames cuid suid → ((eqb (length cuid) 28) && (eqb (length suid) 28)) ≡ true
two_names cuid suid w = and_from (eqb (length cuid) 28) (eqb (length suid) 28) (is_size cuid 28 w.client_whole) (is_size suid 28 w.server_whole)

names_whole : (cuid suid : List ℕ) → ((eqb (length cuid) 28) && (eqb (length suid) 28)) ≡ true → AreNames cuid suid
names_whole cuid suid e = let a = and_parts (eqb (length cuid) 28) (eqb (length suid) 28) e in record { client_whole = eqb-true (length cuid) 28 a.0; server_whole = eqb-true (length suid) 28 a.1 }

seven_of : (s : Spelling) → is_seven s ≡ true → (b : List ℕ) → s ≡ Ok b → length b ≡ 7
seven_of (Ok a) e b h = let is : a ≡ b = cc in subst (λ x. length x ≡ 7) is (eqb-true (length a) 7 e)
seven_of (Err fault) e b h = absurd (cc)

is_seven_of : (s : Spelling) → ((b : List ℕ) → s ≡ Ok b → length b ≡ 7) → is_seven s ≡ true
is_seven_of (Ok b) f = eq-eqb (length b) 7 (f b refl)
is_seven_of (Err fault) f = refl

pub request_law : (kind : List ℕ) (t : Tree) → (is_whole_request kind t ≡ true) ↔ IsRequest kind t
request_law kind t = (
  (λ e. let x = and_parts (is_request kind t (part t 3)) (are_whole (fields_of t)) e in
      record { fields = fields_of t; whole = fields_whole (fields_of t) x.1; chal = part t 3; is = equal_trees t (request kind (fields_of t) (part t 3)) x.0 }),
  (λ h. subst (λ x. is_whole_request kind x ≡ true) (sym h.is)
      (and_from (is_request kind (request kind h.fields h.chal) h.chal) (are_whole h.fields) (tree_itself (request kind h.fields h.chal)) (whole_fields h.fields h.whole))),
)

answer_law : (atoms : Atoms) (own : Own) (q t : Tree) → (is_right_answer atoms own q t ≡ true) ↔ IsAnswer atoms own q t
answer_law atoms own q t = (
  (λ e. let x = and_parts (is_answer own (part q 3) t) (has_names (opened t) && is_seven (spelling atoms (part (opened t) 4))) e in
      let y = and_parts (has_names (opened t)) (is_seven (spelling atoms (part (opened t) 4))) x.1 in
      record {
        cuid = bytes (part (opened t) 2);
        suid = bytes (part (opened t) 3);
        names = names_whole (bytes (part (opened t) 2)) (bytes (part (opened t) 3)) y.0;
        key = part (opened t) 4;
        seven = seven_of (spelling atoms (part (opened t) 4)) y.1;
        handed = part t 2;
        is = equal_trees t (tickets (seal own.key (ticket_like for_client (part q 3) (opened t))) (part t 2)) x.0;
      }),
  (λ h. let form = tickets (seal own.key (ticket for_client (part q 3) h.cuid h.suid h.key)) h.handed in
      subst (λ x. is_right_answer atoms own q x ≡ true) (sym h.is)
      (and_from (same_tree form form) ((eqb (length h.cuid) 28 && eqb (length h.suid) 28) && is_seven (spelling atoms h.key)) (tree_itself form)
      (and_from (eqb (length h.cuid) 28 && eqb (length h.suid) 28) (is_seven (spelling atoms h.key)) (two_names h.cuid h.suid h.names) (is_seven_of (spelling atoms h.key) h.seven)))),
)

proof_law : (own : Own) (a t : Tree) → (is_server_proof own a t ≡ true) ↔ (t ≡ server_message (part (opened a) 4) own.word)
proof_law own a t = (equal_trees t (server_message (part (opened a) 4) own.word), tree_equals t (server_message (part (opened a) 4) own.word))

shown_law : (own : Own) (t : Tree) → (is_whole_shown own t ≡ true) ↔ IsShown own t
shown_law own t = (
  (λ e. let x = and_parts (takes_ticket own t (bytes (part (shown t) 3))) (has_names (shown t)) e in
      record {
        cuid = bytes (part (shown t) 2);
        suid = bytes (part (shown t) 3);
        names = names_whole (bytes (part (shown t) 2)) (bytes (part (shown t) 3)) x.1;
        key = part (shown t) 4;
        is = equal_trees t (pair (seal own.key (ticket_like for_server own.word (shown t))) (seal (part (shown t) 4) (authenticator by_client own.word))) x.0;
      }),
  (λ h. let form = pair (seal own.key (ticket for_server own.word h.cuid h.suid h.key)) (seal h.key (authenticator by_client own.word)) in
      subst (λ x. is_whole_shown own x ≡ true) (sym h.is)
      (and_from (same_tree form form) (eqb (length h.cuid) 28 && eqb (length h.suid) 28) (tree_itself form) (two_names h.cuid h.suid h.names))),
)

vouch_law : (own : Own) (t : Tree) → (is_whole_vouch own t ≡ true) ↔ IsVouch own t
vouch_law own t = (
  (λ e. let x = and_parts (is_vouch own t) (has_names (opened t)) e in
      record {
        cuid = bytes (part (opened t) 2);
        suid = bytes (part (opened t) 3);
        names = names_whole (bytes (part (opened t) 2)) (bytes (part (opened t) 3)) x.1;
        key = part (opened t) 4;
        is = equal_trees t (vouch (seal own.key (ticket_like for_server own.word (opened t))) (seal (part (opened t) 4) (authenticator by_client own.word))) x.0;
      }),
  (λ h. let form = vouch (seal own.key (ticket for_server own.word h.cuid h.suid h.key)) (seal h.key (authenticator by_client own.word)) in
      subst (λ x. is_whole_vouch own x ≡ true) (sym h.is)
      (and_from (same_tree form form) (eqb (length h.cuid) 28 && eqb (length h.suid) 28) (tree_itself form) (two_names h.cuid h.suid h.names))),
)

challenge_law : (t : Tree) → (hears_challenge t ≡ true) ↔ IsChallenge t
challenge_law t = (
  (λ e. let x = and_parts (same_tree t (pair (plain (bytes (part t 0))) (part t 1))) (eqb (length (bytes (part t 0))) 6) e in
      record { head = bytes (part t 0); six = eqb-true (length (bytes (part t 0))) 6 x.1; chal = part t 1; is = equal_trees t (pair (plain (bytes (part t 0))) (part t 1)) x.0 }),
  (λ h. let form = pair (plain h.head) h.chal in
      subst (λ x. hears_challenge x ≡ true) (sym h.is)
      (and_from (same_tree form form) (eqb (length h.head) 6) (tree_itself form) (is_size h.head 6 h.six))),
)

plain_law : (t : Tree) → (same_tree t (plain (bytes t)) ≡ true) ↔ IsPlain t
plain_law t = (
  (λ e. record { bytes = bytes t; is = equal_trees t (plain (bytes t)) e }),
  (λ h. subst (λ x. same_tree x (plain (bytes x)) ≡ true) (sym h.is) (tree_itself (plain h.bytes))),
)

pub formed_law : (atoms : Atoms) (own : Own) (role : Role) (before : List Move) → (formed atoms own role before ≡ true) ↔ IsFormed atoms own role before
formed_law atoms own client (takes t ∷ gives w ∷ []) = request_law ticket_request t
formed_law atoms own client (hears t ∷ asks q ∷ takes r ∷ gives w ∷ []) = answer_law atoms own q t
formed_law atoms own client (takes t ∷ gives g ∷ hears a ∷ asks q ∷ takes r ∷ gives w ∷ []) = proof_law own a t
formed_law atoms own server (takes t ∷ gives r ∷ takes y ∷ []) = shown_law own t
formed_law atoms own (mail_server kind) (hears t ∷ asks q ∷ []) = challenge_law t
formed_law atoms own (mail_server kind) (takes t ∷ gives c ∷ hears a ∷ asks q ∷ []) = plain_law t
formed_law atoms own (mail_server kind) (hears t ∷ asks v ∷ takes r ∷ takes u ∷ gives c ∷ hears a ∷ asks q ∷ []) = vouch_law own t
formed_law atoms own role before = ((λ e. tt), (λ h. refl))

-- for the code

pub seven_spelled : (s : Spelling) (out : List ℕ) → behind [] s ≡ Ok out → eqb (length out) 7 ≡ is_seven s
seven_spelled (Ok b) out e = let is : b ≡ out = cc in ap (λ x. eqb (length x) 7) (sym is)
seven_spelled (Err fault) out e = absurd (cc)

pub unspelled : (s : Spelling) (fault : SpellFault) → s ≡ Err fault → true ≡ is_seven s
unspelled s fault e = rw e refl

pub decided : (atoms : Atoms) (own : Own) (role : Role) (before : List Move) (so : Bool) → so ≡ formed atoms own role before → (so ≡ true) ↔ IsFormed atoms own role before
decided atoms own role before so e = subst (λ b. (b ≡ true) ↔ IsFormed atoms own role before) (sym e) (formed_law atoms own role before)

-- what stands in the rows

one_some : (a b : Tree) → Some a ≡ Some b → a ≡ b
one_some a b e = cc

pub client_request : (atoms : Atoms) (own : Own) (before : List Move) (r w : Tree) → Some (r, w) ≡ request_and_word before → formed atoms own client before ≡ is_whole_request ticket_request r
client_request atoms own (takes t ∷ gives u ∷ []) r w e =
    let is : ◌≡◌ {A = Tree × Tree} (r, w) (t, u) = cc in
    ap (λ p. is_whole_request ticket_request p.0) (sym is)
client_request atoms own [] r w e = absurd (cc)
client_request atoms own (m1 ∷ []) r w e = absurd (cc)
client_request atoms own (m1 ∷ m2 ∷ []) r w e = absurd (cc)
client_request atoms own (m1 ∷ m2 ∷ m0 ∷ more) r w e = absurd (cc)

pub client_answer : (atoms : Atoms) (own : Own) (before : List Move) (a q : Tree) → Some (a, q) ≡ answer_and_question before → formed atoms own client before ≡ is_right_answer atoms own q a
client_answer atoms own (hears t ∷ asks u ∷ takes r ∷ gives w ∷ []) a q e =
    let is : ◌≡◌ {A = Tree × Tree} (a, q) (t, u) = cc in
    ap (λ p. is_right_answer atoms own p.1 p.0) (sym is)
client_answer atoms own [] a q e = absurd (cc)
client_answer atoms own (m1 ∷ []) a q e = absurd (cc)
client_answer atoms own (m1 ∷ m2 ∷ []) a q e = absurd (cc)
client_answer atoms own (m1 ∷ m2 ∷ m3 ∷ []) a q e = absurd (cc)
client_answer atoms own (m1 ∷ m2 ∷ m3 ∷ m4 ∷ []) a q e = absurd (cc)
client_answer atoms own (m1 ∷ m2 ∷ m3 ∷ m4 ∷ m0 ∷ more) a q e = absurd (cc)

pub client_proven : (atoms : Atoms) (own : Own) (before : List Move) (t a : Tree) → Some (t, a) ≡ proof_and_answer before → formed atoms own client before ≡ is_server_proof own a t
client_proven atoms own (takes u ∷ gives g ∷ hears v ∷ asks q ∷ takes r ∷ gives w ∷ []) t a e =
    let is : ◌≡◌ {A = Tree × Tree} (t, a) (u, v) = cc in
    ap (λ p. is_server_proof own p.1 p.0) (sym is)
client_proven atoms own [] t a e = absurd (cc)
client_proven atoms own (m1 ∷ []) t a e = absurd (cc)
client_proven atoms own (m1 ∷ m2 ∷ []) t a e = absurd (cc)
client_proven atoms own (m1 ∷ m2 ∷ m3 ∷ []) t a e = absurd (cc)
client_proven atoms own (m1 ∷ m2 ∷ m3 ∷ m4 ∷ []) t a e = absurd (cc)
client_proven atoms own (m1 ∷ m2 ∷ m3 ∷ m4 ∷ m5 ∷ []) t a e = absurd (cc)
client_proven atoms own (m1 ∷ m2 ∷ m3 ∷ m4 ∷ m5 ∷ m6 ∷ []) t a e = absurd (cc)
client_proven atoms own (m1 ∷ m2 ∷ m3 ∷ m4 ∷ m5 ∷ m6 ∷ m0 ∷ more) t a e = absurd (cc)

pub client_free : (atoms : Atoms) (own : Own) (before : List Move) → None ≡ request_and_word before → None ≡ answer_and_question before → None ≡ proof_and_answer before → true ≡ formed atoms own client before
client_free atoms own (takes t ∷ gives u ∷ []) e f g = absurd (cc)
client_free atoms own (hears t ∷ asks u ∷ takes r ∷ gives w ∷ []) e f g = absurd (cc)
client_free atoms own (takes u ∷ gives g ∷ hears v ∷ asks q ∷ takes r ∷ gives w ∷ []) e f h = absurd (cc)
client_free atoms own before e f g = refl

pub server_ticket : (atoms : Atoms) (own : Own) (before : List Move) (t : Tree) → Some t ≡ ticket_taken before → formed atoms own server before ≡ is_whole_shown own t
server_ticket atoms own (takes u ∷ gives r ∷ takes y ∷ []) t e = ap (is_whole_shown own) (sym (one_some t u e))
server_ticket atoms own [] t e = absurd (cc)
server_ticket atoms own (m1 ∷ []) t e = absurd (cc)
server_ticket atoms own (m1 ∷ m2 ∷ []) t e = absurd (cc)
server_ticket atoms own (m1 ∷ m2 ∷ m3 ∷ []) t e = absurd (cc)
server_ticket atoms own (m1 ∷ m2 ∷ m3 ∷ m0 ∷ more) t e = absurd (cc)

pub server_free : (atoms : Atoms) (own : Own) (before : List Move) → None ≡ ticket_taken before → true ≡ formed atoms own server before
server_free atoms own (takes u ∷ gives r ∷ takes y ∷ []) e = absurd (cc)
server_free atoms own before e = refl

pub mail_challenge : (atoms : Atoms) (own : Own) (kind : MacKind) (before : List Move) (t : Tree) → Some t ≡ answer_heard before → formed atoms own (mail_server kind) before ≡ hears_challenge t
mail_challenge atoms own kind (hears u ∷ asks q ∷ []) t e = ap hears_challenge (sym (one_some t u e))
mail_challenge atoms own kind [] t e = absurd (cc)
mail_challenge atoms own kind (m1 ∷ []) t e = absurd (cc)
mail_challenge atoms own kind (m1 ∷ m2 ∷ []) t e = absurd (cc)
mail_challenge atoms own kind (m1 ∷ m2 ∷ m0 ∷ more) t e = absurd (cc)

pub mail_user : (atoms : Atoms) (own : Own) (kind : MacKind) (before : List Move) (t : Tree) → Some t ≡ user_taken before → formed atoms own (mail_server kind) before ≡ is_public t
mail_user atoms own kind (takes u ∷ gives c ∷ hears a ∷ asks q ∷ []) t e = sym (public_is u) ∙ ap is_public (sym (one_some t u e))
mail_user atoms own kind [] t e = absurd (cc)
mail_user atoms own kind (m1 ∷ []) t e = absurd (cc)
mail_user atoms own kind (m1 ∷ m2 ∷ []) t e = absurd (cc)
mail_user atoms own kind (m1 ∷ m2 ∷ m3 ∷ []) t e = absurd (cc)
mail_user atoms own kind (m1 ∷ m2 ∷ m3 ∷ m4 ∷ []) t e = absurd (cc)
mail_user atoms own kind (m1 ∷ m2 ∷ m3 ∷ m4 ∷ m0 ∷ more) t e = absurd (cc)

pub mail_vouch : (atoms : Atoms) (own : Own) (kind : MacKind) (before : List Move) (t : Tree) → Some t ≡ vouch_heard before → formed atoms own (mail_server kind) before ≡ is_whole_vouch own t
mail_vouch atoms own kind (hears u ∷ asks v ∷ takes r ∷ takes w ∷ gives c ∷ hears a ∷ asks q ∷ []) t e = ap (is_whole_vouch own) (sym (one_some t u e))
mail_vouch atoms own kind [] t e = absurd (cc)
mail_vouch atoms own kind (m1 ∷ []) t e = absurd (cc)
mail_vouch atoms own kind (m1 ∷ m2 ∷ []) t e = absurd (cc)
mail_vouch atoms own kind (m1 ∷ m2 ∷ m3 ∷ []) t e = absurd (cc)
mail_vouch atoms own kind (m1 ∷ m2 ∷ m3 ∷ m4 ∷ []) t e = absurd (cc)
mail_vouch atoms own kind (m1 ∷ m2 ∷ m3 ∷ m4 ∷ m5 ∷ []) t e = absurd (cc)
mail_vouch atoms own kind (m1 ∷ m2 ∷ m3 ∷ m4 ∷ m5 ∷ m6 ∷ []) t e = absurd (cc)
mail_vouch atoms own kind (m1 ∷ m2 ∷ m3 ∷ m4 ∷ m5 ∷ m6 ∷ m7 ∷ []) t e = absurd (cc)
mail_vouch atoms own kind (m1 ∷ m2 ∷ m3 ∷ m4 ∷ m5 ∷ m6 ∷ m7 ∷ m0 ∷ more) t e = absurd (cc)

pub mail_free : (atoms : Atoms) (own : Own) (kind : MacKind) (before : List Move) → None ≡ answer_heard before → None ≡ user_taken before → None ≡ vouch_heard before → true ≡ formed atoms own (mail_server kind) before
mail_free atoms own kind (hears u ∷ asks q ∷ []) e f g = absurd (cc)
mail_free atoms own kind (takes u ∷ gives c ∷ hears a ∷ asks q ∷ []) e f g = absurd (cc)
mail_free atoms own kind (hears u ∷ asks v ∷ takes r ∷ takes w ∷ gives c ∷ hears a ∷ asks q ∷ []) e f g = absurd (cc)
mail_free atoms own kind before e f g = refl

-- ---- answers of the authentication server

right_so : (s : Setting) (kind : MacKind) (number first : ℕ) (t : Tree) (used : Used) → (s.grants number).used ≡ used → is_right used (s.grants number).chal s.domain kind first t ≡ true → IsRight s kind number first t
right_so s kind number first t (keys sealer host) u e = absurd (cc)
right_so s kind number first t (key_and_password sealer name) u e =
    let form = pair (request (mail_request kind) (fields_of (part t 0)) (s.grants number).chal) (digest kind (password name) (challenge_text s.domain first)) in
    let x = and_parts (same_tree t form) (are_whole (fields_of (part t 0))) e in
    record { fields = fields_of (part t 0); whole = fields_whole (fields_of (part t 0)) x.1; sealer = sealer; name = name; used = u; is = equal_trees t form x.0 }

so_right : (s : Setting) (kind : MacKind) (number first : ℕ) (t : Tree) → IsRight s kind number first t → is_right (s.grants number).used (s.grants number).chal s.domain kind first t ≡ true
so_right s kind number first t h =
    let form = pair (request (mail_request kind) h.fields (s.grants number).chal) (digest kind (password h.name) (challenge_text s.domain first)) in
    subst (λ x. is_right (s.grants number).used (s.grants number).chal s.domain kind first x ≡ true) (sym h.is)
    (subst (λ u. is_right u (s.grants number).chal s.domain kind first form ≡ true) (sym h.used)
    (and_from (same_tree form form) (are_whole h.fields) (tree_itself form) (whole_fields h.fields h.whole)))

pub answered_law : (s : Setting) (before : List Deed) (deed : Deed) → (answered s before deed ≡ true) ↔ IsAnswered s before deed
answered_law s (got number t ∷ before) (gives_tickets at) = request_law ticket_request t
answered_law s (got number t ∷ before) (gives_challenge kind at head) = request_law (mail_request kind) t
answered_law s (got number t ∷ before) (gives_vouch kind at first) =
    (right_so s kind number first t (s.grants number).used refl, so_right s kind number first t)
answered_law s before deed = ((λ e. tt), (λ h. refl))
