-- Every grant has one form, whatever the tables say.
use Rattle.std.proofs.Common.{◌≡◌, ℕ, ◌<◌, List, [], ◌∷◌, ◌++◌, Bool, true, false, eqb, length, drop, Option, Some, None, Ok, refl, sym, ap, ◌∙◌, length-append, length-drop, arith}
use Rattle.std.proofs.lemmas.Bool.{cond-true, eq-eqb}
use Rattle.std.proofs.lemmas.List.{length-take, length-take-le}
use Rattle.wire_base.specs.Names.{name_field}
use Rattle.sealing.proofs.SealLaws.{length-sealed}
use Rattle.sealing.specs.declared.request.TicketReq.{TicketReq}
use Rattle.sealing.specs.declared.ticket.Ticket.{Ticket}
use Rattle.sealing.specs.Fields.{HoldsName, field}
use Rattle.sealing.specs.Request.{IsRequest, request_of}
use Rattle.sealing.specs.Ticket.{ticket_text}
use Rattle.sealing.proofs.FieldLaws.{length-name_field}
use Rattle.sealing.proofs.RequestLaws.{request_layout}
use Rattle.auth_tables.specs.Keys.{UserKey}
use Rattle.wire_base.specs.Kinds.{ticket_request}
use Rattle.auth_server.specs.Answers.{HasKeys, HasWords, IsGrant, Knowledge, Posed, answer_in, answer_to, grant, granted_key, held_in, judged, key_or, mail_answer, shared_key, ticket, tickets, word, word_key}

-- ---- lengths

length_ticket : (t : Ticket) → length t.chal ≡ 8 → length t.cuid < 28 → length t.suid < 28 → length t.key.0 ≡ 7 → length (ticket_text t) ≡ 72
unfolding ticket_text
length_ticket t chal cuid suid key =
    let c = length-name_field 28 t.cuid cuid in
    let s = length-name_field 28 t.suid suid in
    omega (arith, chal, c, s, key, length-append (t.num ∷ []) t.chal, length-append ((t.num ∷ []) ++ t.chal) (name_field 28 t.cuid), length-append (((t.num ∷ []) ++ t.chal) ++ name_field 28 t.cuid) (name_field 28 t.suid), length-append ((((t.num ∷ []) ++ t.chal) ++ name_field 28 t.cuid) ++ name_field 28 t.suid) t.key.0)

pub length_sealed : (num : ℕ) (chal cuid suid shared key : List ℕ) → length chal ≡ 8 → length cuid < 28 → length suid < 28 → length shared ≡ 7 → length (ticket num chal cuid suid shared key) ≡ 72
length_sealed num chal cuid suid shared key a b c d =
    let t : Ticket = record { num = num; chal = chal; cuid = cuid; suid = suid; key = record { 0 = shared } } in
    let long = length_ticket t a b c d in
    length-sealed key (ticket_text t) (omega (arith, long)) ∙ long

length_tickets : (r : TicketReq) (shared hosts servers : List ℕ) → length r.chal ≡ 8 → length r.hostid < 28 → length r.uid < 28 → length shared ≡ 7 → length (tickets r shared hosts servers) ≡ 145
unfolding tickets
length_tickets r shared hosts servers a b c d =
    let first = length_sealed 65 r.chal r.hostid r.uid shared hosts a b c d in
    let second = length_sealed 64 r.chal r.hostid r.uid shared servers a b c d in
    omega (arith, first, second, length-append (4 ∷ []) (ticket 65 r.chal r.hostid r.uid shared hosts), length-append ((4 ∷ []) ++ ticket 65 r.chal r.hostid r.uid shared hosts) (ticket 64 r.chal r.hostid r.uid shared servers))

-- the fields of a request that was read
short_name : (at : ℕ) (bytes name : List ℕ) → HoldsName (field at 28 bytes) name → length name < 28
short_name at bytes name h =
    let parts = ap length h.parts ∙ length-append name (0 ∷ h.behind) in
    let few = length-take 28 (drop at bytes) in
    omega (arith, parts, few)

eight_bytes : (bytes : List ℕ) (r : TicketReq) → IsRequest bytes r → length r.chal ≡ 8
eight_bytes bytes r h = sym (ap length h.chal) ∙ length-take-le 8 (drop 77 bytes) (omega (arith, length-drop 77 bytes, h.whole))

-- ---- keys

seven_of_word : (w : List ℕ) → length w ≡ 8 → length (word_key w) ≡ 7
seven_of_word w h = length-take-le 7 w (omega (arith, h))

seven_or : (known : Knowledge) (user w : List ℕ) → HasKeys known → length w ≡ 8 → length (key_or (known.key user) w) ≡ 7
seven_or known user w keys h = by_key (known.key user) refl
  where
    by_key : (o : Option UserKey) → known.key user ≡ o → length (key_or o w) ≡ 7
    by_key (Some key) e = keys user key e
    by_key None e = seven_of_word w h

seven_granted : (known : Knowledge) (may : Bool) (user w : List ℕ) → HasKeys known → length w ≡ 8 → length (granted_key may (known.key user) w) ≡ 7
seven_granted known true user w keys h = seven_or known user w keys h
seven_granted known false user w keys h = seven_of_word w h

-- ---- the form

grant_form : (known : Knowledge) (words : List (List ℕ)) (r : TicketReq) (request : List ℕ) → HasKeys known → HasWords words → IsRequest request r → IsGrant r words (grant known words r)
grant_form known words r request keys has is =
    let may = known.speaks r.hostid r.uid in
    let hosts = granted_key may (known.key r.hostid) (word 2 words) in
    let servers = granted_key may (known.key r.authid) (word 1 words) in
    record {
      hosts = hosts;
      servers = servers;
      host_seven = seven_granted known may r.hostid (word 2 words) keys (has.eight 2 (omega arith));
      server_seven = seven_granted known may r.authid (word 1 words) keys (has.eight 1 (omega arith));
      is = refl;
      whole = length_tickets r (shared_key words) hosts servers
          (eight_bytes request r is) (short_name 85 request r.hostid is.hostid) (short_name 113 request r.uid is.uid) (seven_of_word (word 0 words) (has.eight 0 (omega arith)));
    }

granted : (before : List Posed) (p : Posed) (r : TicketReq) → request_of p.asked.request ≡ Ok r → r.kind ≡ ticket_request → answer_in before p ≡ grant p.known p.asked.words r
unfolding answer_in
granted before p r read kind =
    ap (answer_to p.known p.asked (held_in before)) read
    ∙ cond-true (eqb r.kind ticket_request) (grant p.known p.asked.words r) (mail_answer p.known p.asked r (judged p.known p.asked r (held_in before))) (eq-eqb r.kind ticket_request kind)

pub is_grant : (before : List Posed) (p : Posed) (r : TicketReq) → HasKeys p.known → HasWords p.asked.words → request_of p.asked.request ≡ Ok r → r.kind ≡ ticket_request → IsGrant r p.asked.words (answer_in before p)
is_grant before p r keys has read kind =
    let form = grant_form p.known p.asked.words r p.asked.request keys has ((request_layout p.asked.request r).0 read) in
    let is = granted before p r read kind in
    record { hosts = form.hosts; servers = form.servers; host_seven = form.host_seven; server_seven = form.server_seven; is = is ∙ form.is; whole = ap length is ∙ form.whole }
