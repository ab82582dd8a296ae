-- A client and a server of p9sk1 in conversations, each among one key: how it stands behind each request.
use Rattle.std.proofs.Common.{◌≡◌, ℕ, ◌<◌, List, [], ◌∷◌, length, codes, Bool, true, false, cond, Option, Some, None, Result, Ok, Err, refl, sym, ap, subst, ◌∙◌, arith, nat_lt, length-append}
use Rattle.std.specs.Prelude.{All}
use Rattle.std.specs.List.{list_all}
use Rattle.std.proofs.lemmas.Bool.{and_parts, ltb-true}
use Rattle.std.proofs.lemmas.List.Elements.{All-cons, All-nil}
use Rattle.std.specs.Str.{chars, is_utf8}
use Rattle.std.specs.Str.Lossy.{utf8_valid_len}
use lib.Utf8.{encode}
use Rattle.wire_base.specs.Texts.{is_text}
use Rattle.wire_base.specs.Names.{IsName}
use Rattle.wire_base.specs.declared.shape.Shape.TheVariants.{Tickets}
use Rattle.wire_base.specs.Rules.{first_told}
use Rattle.attr_tuples.specs.declared.attr.Attr.{Attr}
use Rattle.attr_tuples.specs.Forms.{is_dom}
use Rattle.attr_tuples.specs.Grammar.{attr_of, tuple_of, words_from}
use Rattle.attr_tuples.specs.Lines.{line_len}
use Rattle.attr_tuples.specs.Matching.{matches, value_of}
use Rattle.attr_tuples.specs.Words.{first_word, gap_len}
use Rattle.sealing.specs.Request.{request_text}
use Rattle.sealing.specs.Fitting.{FitsName, FitsTicket, IsBlock}
use Rattle.sealing.specs.declared.fault.FieldFault.{FieldFault}
use Rattle.sealing.specs.declared.kind.TheConstants.{AUTH_AC, AUTH_AS}
use Rattle.sealing.specs.declared.ticket.Ticket.{Ticket}
use Rattle.key_lists.specs.Lists.{KeyEntry, KeyList}
use Rattle.key_lists.specs.CtlLines.{few_of}
use Rattle.key_ring.specs.DesKeys.{des_key}
use Rattle.auth_tables.specs.Keys.{key_in, key_of, keys_in}
use Rattle.auth_tables.specs.Lines.{tuple_in}
use Rattle.auth_tables.specs.Speaks.{may_speak}
use Rattle.auth_server.specs.Answers.{Knowledge, answer, shared_key}
use Rattle.auth_server.specs.Requests.{asked_so}
use Rattle.roles.specs.declared.answer.Cause.{Cause}
use Rattle.roles.specs.declared.answer.Cause.TheVariants.{NoServer, WrongKind}
use Rattle.roles.specs.declared.answer.Gave.{Gave}
use Rattle.roles.specs.declared.answer.Gave.TheVariants as g
use Rattle.roles.specs.declared.need.Need.{Need}
use Rattle.roles.specs.declared.need.Need.TheVariants.{Nothing, Key, Exchange}
use Rattle.roles.specs.declared.stage.Role.TheVariants.{Client, Server}
use Rattle.roles.specs.declared.stage.Stage.{Stage}
use Rattle.roles.specs.declared.stage.Stage.TheVariants.{ClientFirst, ClientSecond, ClientKey, ClientAsk, ClientThird, ClientFourth, ClientDone, ServerKey, ServerFirst, ServerSecond, ServerThird, ServerFourth, ServerDone}
use Rattle.roles.specs.Clients.{is_elsewhere, wanted_user}
use Rattle.roles.specs.Courses.{answer_of, answer_after, answer_need, key_need, need_after, need_at, puts_after, then_course, verdict}
use Rattle.roles.specs.Servers.{shown_tests}
use Rattle.roles.specs.Starts.{role_of, start_fault, start_with}
use Rattle.roles.specs.Talks.{Call, Verdict, give, get, found, heard, unheard, goes, stays, tested, unless_told}
use Rattle.roles.specs.Templates.{asked, asked_first, asked_in, given_as}
use Rattle.roles.specs.Tickets.{proof_under, rest_part, ticket_part, ticket_under, with_ticket}
use Rattle.talks.specs.declared.answer.RpcAnswer.{RpcAnswer}
use Rattle.talks.specs.declared.answer.RpcAnswer.TheVariants as a
use Rattle.talks.specs.Answers.{move_answer, told_key}
use Rattle.talks.specs.Calls.{Chosen}
use Rattle.talks.specs.Protocols.{P9sk1, answers, answers_by, needs, needs_by, protocol_of, puts, puts_by, refuses_by}
use Rattle.talks.specs.Searches.{found_by}
use Rattle.talks.specs.Standings.{Begun, Phase, need_in, role_in, role_name, Kept, OnServer, Seeking, Standing, begin, finds, found_for, kept_key, make_move, nothing_said, phase_after, sought, start_by, started, told_of_key, with_move}
use Rattle.complete_logins.specs.Logins.{Login, MayLogIn}
use Rattle.complete_logins.proofs.PassLemmas.{at}
use Rattle.complete_logins.proofs.MessageLemmas.{length_request, length_sealed_authenticator, length_sealed_ticket, request_read, seven}
use Rattle.complete_logins.proofs.LoginLaws.{Passes, accepts, asks, both, client_0, clients, ends, fits_request, greets, hands_on, hears, passes_by, proof, proved, proves, question, request_in, sealed_clients, sealed_proof, sealed_servers, sent, server_0, servers, shown, ticket_num}
use Rattle.complete_logins.proofs.LoginLaws as login
use Rattle.world_promises.proofs.SearchDeeds.{ran}
use Rattle.world_promises.proofs.MetDeeds.{most_searches}
use Rattle.world_promises.proofs.DrivenTurns.{nobody_asked}

-- ---- what both start by, and their keys

abbrev pub client_start : List Attr
client_start = given_as (codes "proto") (codes "p9sk1") ∷ given_as (codes "role") (codes "client") ∷ []

abbrev pub server_start : List Attr
server_start = given_as (codes "proto") (codes "p9sk1") ∷ given_as (codes "role") (codes "server") ∷ []

abbrev pub key_tuple : List ℕ → List ℕ → List Attr
key_tuple user password = given_as (codes "proto") (codes "p9sk1") ∷ given_as (codes "dom") (codes "x") ∷ given_as (codes "user") user ∷ given_as (codes "!password") password ∷ []

abbrev pub ann_entry : KeyEntry
ann_entry = record { tuple = key_tuple (codes "ann") (codes "annpass"); serial = 1 }

abbrev pub srv_entry : KeyEntry
srv_entry = record { tuple = key_tuple (codes "srv") (codes "srvpass"); serial = 1 }

abbrev pub one_key : KeyEntry → KeyList
one_key entry = record { keys = entry ∷ []; ever_added = 1 }

client_tuple_read : few_of (codes "proto=p9sk1 role=client") ≡ Some client_start
unfolding tuple_of words_from first_word gap_len attr_of value_of line_len is_text is_utf8 chars encode utf8_valid_len
client_tuple_read = refl

server_tuple_read : few_of (codes "proto=p9sk1 role=server") ≡ Some server_start
unfolding tuple_of words_from first_word gap_len attr_of value_of line_len is_text is_utf8 chars encode utf8_valid_len
server_tuple_read = refl

client_named : protocol_of client_start ≡ P9sk1
unfolding protocol_of value_of
client_named = refl

server_named : protocol_of server_start ≡ P9sk1
unfolding protocol_of value_of
server_named = refl

client_starts : start_fault client_start ≡ None
unfolding start_fault value_of
client_starts = refl

server_starts : start_fault server_start ≡ None
unfolding start_fault value_of
server_starts = refl

client_role : role_of client_start ≡ Client
unfolding role_of value_of
client_role = refl

server_role : role_of server_start ≡ Server
unfolding role_of value_of
server_role = refl

-- ---- the login of a round

pub record Words : Type 0 where
  pub client : List ℕ
  pub server : List ℕ
  pub first : List ℕ
  pub second : List ℕ
  pub third : List ℕ

abbrev pub known_server : Knowledge
known_server = record {
  dom = codes "x";
  key = λ user. key_of user (keys_in (codes "user=ann !password=annpass" ∷ codes "user=srv !password=srvpass" ∷ []));
  speaks = λ host user. may_speak [] host user;
}

abbrev pub made_login : Words → Login
made_login w = record {
  client = start_with client_start w.client;
  client_key = told_key ann_entry;
  client_password = value_of (codes "!password") ann_entry.tuple;
  server = start_with server_start w.server;
  server_key = told_key srv_entry;
  server_password = value_of (codes "!password") srv_entry.tuple;
  known = known_server;
  before = [];
  words = w.first ∷ w.second ∷ w.third ∷ [];
}

ann_known : key_of (codes "ann") (keys_in (codes "user=ann !password=annpass" ∷ codes "user=srv !password=srvpass" ∷ [])) ≡ Some (record { des = des_key (key_tuple (codes "ann") (codes "annpass")); password = Some (codes "annpass") })
unfolding key_in tuple_in tuple_of words_from first_word gap_len attr_of value_of line_len is_text is_utf8 chars encode utf8_valid_len des_key
ann_known = refl

srv_known : key_of (codes "srv") (keys_in (codes "user=ann !password=annpass" ∷ codes "user=srv !password=srvpass" ∷ [])) ≡ Some (record { des = des_key (key_tuple (codes "srv") (codes "srvpass")); password = Some (codes "srvpass") })
unfolding key_in tuple_in tuple_of words_from first_word gap_len attr_of value_of line_len is_text is_utf8 chars encode utf8_valid_len des_key
srv_known = refl

ann_user : told_key ann_entry ≡ record { des = record { 0 = des_key ann_entry.tuple }; user = codes "ann"; dom = codes "x" }
unfolding value_of
ann_user = refl

srv_user : told_key srv_entry ≡ record { des = record { 0 = des_key srv_entry.tuple }; user = codes "srv"; dom = codes "x" }
unfolding value_of
srv_user = refl

one_text : (name : List ℕ) → is_text name ≡ true → length name < 28 → list_all (λ n. nat_lt n 256) name ≡ true → FitsName 28 name
one_text name text short small = record { short = record { text = text; short = short }; bytes = all_small name small }
  where
    all_small : (bytes : List ℕ) → list_all (λ b. nat_lt b 256) bytes ≡ true → All (λ b. b < 256) bytes
    all_small [] small = All-nil (λ b. b < 256)
    all_small (b ∷ bytes) small =
        let parts = and_parts (nat_lt b 256) (list_all (λ b. nat_lt b 256) bytes) small in
        All-cons (λ b. b < 256) b bytes (ltb-true b 256 parts.0) (all_small bytes parts.1)

ann_fits : FitsName 28 (codes "ann")
unfolding is_text is_utf8 chars encode
ann_fits = one_text (codes "ann") refl (omega arith) refl

srv_fits : FitsName 28 (codes "srv")
unfolding is_text is_utf8 chars encode
srv_fits = one_text (codes "srv") refl (omega arith) refl

dom_fits : IsName 48 (codes "x")
unfolding is_text is_utf8 chars encode
dom_fits = record { text = refl; short = omega arith }

dom_well : is_dom (codes "x") ≡ true
dom_well = refl

no_dom : value_of (codes "dom") client_start ≡ None
unfolding value_of
no_dom = refl

ann_speaks : may_speak [] (codes "ann") (codes "ann") ≡ true
unfolding may_speak
ann_speaks = refl

pub record AreWords (w : Words) : Type 0 where
  pub client : IsBlock 8 w.client
  pub server : IsBlock 8 w.server
  pub first : IsBlock 8 w.first

pub may_log_in : (w : Words) → AreWords w → MayLogIn (made_login w)
may_log_in w are =
    let ann : (told_key ann_entry).user ≡ codes "ann" = ap (λ k. k.user) ann_user in
    let srv : (told_key srv_entry).user ≡ codes "srv" = ap (λ k. k.user) srv_user in
    let wants : wanted_user (role_of client_start) (told_key ann_entry) ≡ codes "ann" = ap (λ role. wanted_user role (told_key ann_entry)) client_role ∙ ann in
    record {
      client_role = λ e. let no_way : Client ≡ Server = sym client_role ∙ e in cc;
      server_role = server_role;
      client_word = are.client;
      server_word = are.server;
      client_known = record { line = record { des = des_key ann_entry.tuple; password = Some (codes "annpass") }; knows = ap known_server.key ann ∙ ann_known; same = refl };
      server_known = record { line = record { des = des_key srv_entry.tuple; password = Some (codes "srvpass") }; knows = ap known_server.key srv ∙ srv_known; same = refl };
      client_user = record { fits = subst (FitsName 28) (sym ann) ann_fits; some = subst (λ n. 0 < length n) (sym ann) (omega arith) };
      server_user = record { fits = subst (FitsName 28) (sym srv) srv_fits; some = subst (λ n. 0 < length n) (sym srv) (omega arith) };
      dom_name = subst (IsName 48) (sym (ap (λ k. k.dom) srv_user)) dom_fits;
      dom_form = ap is_dom (ap (λ k. k.dom) srv_user) ∙ dom_well;
      same_dom = ap (λ o. is_elsewhere o (told_key srv_entry).dom) no_dom;
      wanted = record { fits = subst (FitsName 28) (sym wants) ann_fits; some = subst (λ n. 0 < length n) (sym wants) (omega arith) };
      speaks = ap (λ n. may_speak [] (told_key ann_entry).user n) wants ∙ (ap (λ n. may_speak [] n (codes "ann")) ann ∙ ann_speaks);
      drawn = are.first;
    }

-- ---- the talks of both

module _ (w : Words) (are : AreWords w) where
  abbrev l : Login
  l = made_login w

  abbrev may : MayLogIn (made_login w)
  may = may_log_in w are

  abbrev pub c_1 : List Call
  c_1 = get ∷ []

  abbrev pub c_2 : List Call
  c_2 = give (sent l) ∷ c_1

  abbrev pub c_3 : List Call
  c_3 = found l.client_key l.client_password ∷ c_2

  abbrev pub c_4 : List Call
  c_4 = heard (4 ∷ both l) ∷ c_3

  abbrev pub c_5 : List Call
  c_5 = get ∷ c_4

  abbrev pub s_1 : List Call
  s_1 = found l.server_key l.server_password ∷ []

  abbrev pub s_2 : List Call
  s_2 = give w.client ∷ s_1

  abbrev pub s_3 : List Call
  s_3 = get ∷ s_2

  abbrev pub s_4 : List Call
  s_4 = give (shown l) ∷ s_3

  client_1 : Passes l.client [] get ClientSecond g.Ok w.client
  client_1 = passes_by l.client [] get ClientFirst ClientSecond g.Ok w.client (client_0 l may) refl

  client_2 : Passes l.client c_1 (give (sent l)) (ClientKey (sent l)) g.Wait []
  client_2 = passes_by l.client c_1 (give (sent l)) ClientSecond (ClientKey (sent l)) g.Wait [] client_1.course (asks l may (sent l) refl)

  client_3 : Passes l.client c_2 (found l.client_key l.client_password) (ClientAsk (sent l) l.client_key) g.Wait []
  client_3 = passes_by l.client c_2 (found l.client_key l.client_password) (ClientKey (sent l)) (ClientAsk (sent l) l.client_key) g.Wait [] client_2.course (login.finds l may)

  client_4 : Passes l.client c_3 (heard (4 ∷ both l)) (ClientThird (sent l) l.client_key (both l)) g.Ok []
  client_4 = passes_by l.client c_3 (heard (4 ∷ both l)) (ClientAsk (sent l) l.client_key) (ClientThird (sent l) l.client_key (both l)) g.Ok [] client_3.course (hears l may (4 ∷ both l) refl)

  client_5 : Passes l.client c_4 get (ClientFourth (sent l) l.client_key (both l)) g.Ok (shown l)
  client_5 = passes_by l.client c_4 get (ClientThird (sent l) l.client_key (both l)) (ClientFourth (sent l) l.client_key (both l)) g.Ok (shown l) client_4.course (hands_on l may)

  client_6 : Passes l.client c_5 (give (proved l)) (ClientDone (sent l) l.client_key (both l) (proved l)) g.Ok []
  client_6 = passes_by l.client c_5 (give (proved l)) (ClientFourth (sent l) l.client_key (both l)) (ClientDone (sent l) l.client_key (both l) (proved l)) g.Ok [] client_5.course (ends l may (proved l) refl)

  server_1 : Passes l.server [] (found l.server_key l.server_password) (ServerFirst l.server_key) g.Ok []
  server_1 = passes_by l.server [] (found l.server_key l.server_password) ServerKey (ServerFirst l.server_key) g.Ok [] (server_0 l may) refl

  server_2 : Passes l.server s_1 (give w.client) (ServerSecond l.server_key w.client) g.Ok []
  server_2 = passes_by l.server s_1 (give w.client) (ServerFirst l.server_key) (ServerSecond l.server_key w.client) g.Ok [] server_1.course (greets l w.client refl are.client.whole)

  server_3 : Passes l.server s_2 get (ServerThird l.server_key w.client) g.Ok (sent l)
  server_3 = passes_by l.server s_2 get (ServerSecond l.server_key w.client) (ServerThird l.server_key w.client) g.Ok (sent l) server_2.course refl

  server_4 : Passes l.server s_3 (give (shown l)) (ServerFourth l.server_key w.client (shown l)) g.Ok []
  server_4 = passes_by l.server s_3 (give (shown l)) (ServerThird l.server_key w.client) (ServerFourth l.server_key w.client (shown l)) g.Ok [] server_3.course (accepts l may (shown l) refl)

  server_5 : Passes l.server s_4 get (ServerDone l.server_key w.client (shown l)) g.Ok (proved l)
  server_5 = passes_by l.server s_4 get (ServerFourth l.server_key w.client (shown l)) (ServerDone l.server_key w.client (shown l)) g.Ok (proved l) server_4.course (proves l may)

  -- the server gets no further by whatever else it is given
  abbrev rests_by : Verdict Stage → Type 0
  rests_by v = need_at l.server (then_course (at (ServerThird l.server_key w.client)) v) ≡ Nothing

  either_rests : (b : Bool) (one other : Verdict Stage) → rests_by one → rests_by other → rests_by (cond b one other)
  either_rests true one other p q = p
  either_rests false one other p q = q

  told_rests : (o : Option Cause) (m : List ℕ) → rests_by (unless_told o (goes (ServerFourth l.server_key w.client m) g.Ok []))
  told_rests None m = refl
  told_rests (Some cause) m = refl

  ticket_rests : (m : List ℕ) (r : Result Ticket FieldFault) → rests_by (with_ticket WrongKind r (λ ticket. tested (shown_tests l.server ticket (proof_under ticket (rest_part m))) (goes (ServerFourth l.server_key w.client m) g.Ok [])))
  ticket_rests m (Ok ticket) = told_rests (first_told (shown_tests l.server ticket (proof_under ticket (rest_part m)))) m
  ticket_rests m (Err fault) = refl

  any_rests : (m : List ℕ) → need_after l.server (give m ∷ s_3) ≡ Nothing
  any_rests m =
      ap (λ p. need_at l.server (then_course p (verdict l.server p (give m)))) server_3.course
      ∙ either_rests (nat_lt (length m) 85) (stays (g.TooSmall 85)) _ refl (either_rests (nat_lt 85 (length m)) (stays g.TooLong) _ refl (ticket_rests m (ticket_under l.server_key (ticket_part m))))

  -- ---- in conversations

  abbrev pub among : KeyList → Standing → Standing
  among keys s = ran (most_searches s.starting) keys nobody_asked s

  abbrev pub up : Begun → Bool → RpcAnswer → Standing
  up b starting answer = record { begun = Some b; phase = Kept answer; starting = starting; said = nothing_said }

  abbrev pub stood : Option Begun → Phase → Standing
  stood begun phase = record { begun = begun; phase = phase; starting = false; said = nothing_said }

  move_up : (keys : KeyList) (phase : Phase) (b : Begun) (made : Call) (well : RpcAnswer) (gave : Gave) → needs b.start (made ∷ b.moves) ≡ Nothing → answers b.start b.moves made ≡ gave
      → among keys (make_move (stood (Some b) phase) b made well) ≡ up (with_move b made) false (move_answer well b.key gave)
  move_up keys phase b made well gave needs_so answers_so =
      ap (λ n. among keys (record { begun = Some (with_move b made); phase = phase_after n (move_answer well b.key (answers b.start b.moves made)); starting = false; said = nothing_said })) needs_so
      ∙ ap (λ x. up (with_move b made) false (move_answer well b.key x)) answers_so

  client_needs : (talk : List Call) (n : Need) → need_after l.client talk ≡ n → needs l.client talk ≡ n
  client_needs talk n e = ap (λ p. needs_by p l.client talk) client_named ∙ e

  server_needs : (talk : List Call) (n : Need) → need_after l.server talk ≡ n → needs l.server talk ≡ n
  server_needs talk n e = ap (λ p. needs_by p l.server talk) server_named ∙ e

  client_answers : (talk : List Call) (call : Call) (gave : Gave) → answer_after l.client talk call ≡ gave → answers l.client talk call ≡ gave
  client_answers talk call gave e = ap (λ p. answers_by p l.client talk call) client_named ∙ e

  server_answers : (talk : List Call) (call : Call) (gave : Gave) → answer_after l.server talk call ≡ gave → answers l.server talk call ≡ gave
  server_answers talk call gave e = ap (λ p. answers_by p l.server talk call) server_named ∙ e

  client_puts : (talk : List Call) (bytes : List ℕ) → puts_after l.client talk get ≡ bytes → puts l.client talk get ≡ bytes
  client_puts talk bytes e = ap (λ p. puts_by p l.client talk get) client_named ∙ e

  server_puts : (talk : List Call) (bytes : List ℕ) → puts_after l.server talk get ≡ bytes → puts l.server talk get ≡ bytes
  server_puts talk bytes e = ap (λ p. puts_by p l.server talk get) server_named ∙ e

  abbrev pub client_at : List Call → Option KeyEntry → Begun
  client_at moves key = record { start = l.client; moves = moves; key = key }

  abbrev pub server_at : List Call → Begun
  server_at moves = record { start = l.server; moves = moves; key = Some srv_entry }

  -- the client starts, and gets its challenge
  pub start_client : (keys : KeyList) (phase : Phase) → among keys (start_by (stood None phase) w.client (few_of (codes "proto=p9sk1 role=client"))) ≡ up (client_at [] None) true a.Ok
  start_client keys phase =
      ap (λ o. among keys (start_by (stood None phase) w.client o)) client_tuple_read
      ∙ (ap (λ p. among keys (started (stood None phase) w.client client_start (refuses_by p client_start))) client_named
      ∙ (ap (λ f. among keys (started (stood None phase) w.client client_start f)) client_starts
      ∙ ap (λ n. among keys (record { begun = Some (client_at [] None); phase = phase_after n a.Ok; starting = true; said = nothing_said })) (client_needs [] Nothing (ap (need_at l.client) (client_0 l may)))))

  pub got_client : (keys : KeyList) (phase : Phase) → among keys (make_move (stood (Some (client_at [] None)) phase) (client_at [] None) get (a.Got (puts l.client [] get))) ≡ up (client_at c_1 None) false (a.Got w.client)
  got_client keys phase =
      move_up keys phase (client_at [] None) get (a.Got (puts l.client [] get)) g.Ok (client_needs c_1 Nothing (ap (need_at l.client) client_1.course)) (client_answers [] get g.Ok client_1.answer)
      ∙ ap (λ b. up (client_at c_1 None) false (a.Got b)) (client_puts [] w.client client_1.puts)

  -- it is given the server's request, finds its key, and asks
  abbrev pub asking : Need
  asking = Exchange (request_text (question l)) Tickets

  needs_key : needs l.client c_2 ≡ Key (asked_in l.client l.server_key.dom)
  needs_key = client_needs c_2 (Key (asked_in l.client l.server_key.dom)) (ap (need_at l.client) client_2.course ∙ ap (key_need l.client) (request_read (request_in l) (fits_request l may)))

  pub needs_tickets : needs l.client c_3 ≡ asking
  needs_tickets = client_needs c_3 asking (ap (need_at l.client) client_3.course ∙ ap (answer_need l.client l.client_key) (request_read (request_in l) (fits_request l may)))

  client_finds : found_for (Key (asked_in l.client l.server_key.dom)) (codes "client") nothing_said nobody_asked (one_key ann_entry) ≡ Chosen ann_entry
  unfolding found_by asked role_of value_of matches
  client_finds = refl

  client_role_in : role_in client_start ≡ codes "client"
  unfolding value_of
  client_role_in = refl

  searched : (s : Standing) (b : Begun) (n : Need) (role : List ℕ) (keys : KeyList) → s.begun ≡ Some b → s.said ≡ nothing_said → needs b.start b.moves ≡ n → role_in b.start.template ≡ role → finds s nobody_asked keys ≡ found_for n role nothing_said nobody_asked keys
  unfolding finds
  searched s b n role keys begun said need role_so =
      ap (λ x. found_for (need_in x) (role_name x) s.said nobody_asked keys) begun
      ∙ (ap (λ x. found_for (needs b.start b.moves) (role_in b.start.template) x nobody_asked keys) said
      ∙ (ap (λ x. found_for x (role_in b.start.template) nothing_said nobody_asked keys) need ∙ ap (λ x. found_for n x nothing_said nobody_asked keys) role_so))

  pub asks_client : (phase : Phase) → among (one_key ann_entry) (make_move (stood (Some (client_at c_1 None)) phase) (client_at c_1 None) (give (sent l)) a.Ok) ≡ stood (Some (client_at c_3 (Some ann_entry))) OnServer
  asks_client phase =
      let keys = one_key ann_entry in
      let told = move_answer a.Ok None (answers l.client c_1 (give (sent l))) in
      let s = stood (Some (client_at c_2 None)) Seeking in
      let again = move_answer a.Ok (Some ann_entry) (answers l.client c_2 (told_of_key ann_entry)) in
      ap (λ n. among keys (stood (Some (client_at c_2 None)) (phase_after n told))) needs_key
      ∙ (ap (sought s) (searched s (client_at c_2 None) (Key (asked_in l.client l.server_key.dom)) (codes "client") keys refl refl needs_key client_role_in ∙ client_finds)
      ∙ ap (λ n. stood (Some (client_at c_3 (kept_key ann_entry n))) (phase_after n again)) needs_tickets)

  -- the server starts, finds its key, and is given the client's challenge
  needs_first : needs l.server [] ≡ Key (asked_first l.server)
  needs_first = server_needs [] (Key (asked_first l.server)) (ap (need_at l.server) (server_0 l may))

  server_finds : found_for (Key (asked_first l.server)) (codes "server") nothing_said nobody_asked (one_key srv_entry) ≡ Chosen srv_entry
  unfolding found_by asked role_of value_of matches
  server_finds = refl

  server_role_in : role_in server_start ≡ codes "server"
  unfolding value_of
  server_role_in = refl

  pub start_server : (phase : Phase) → among (one_key srv_entry) (start_by (stood None phase) w.server (few_of (codes "proto=p9sk1 role=server"))) ≡ up (server_at s_1) true a.Ok
  start_server phase =
      let keys = one_key srv_entry in
      let b : Begun = begin server_start w.server in
      let s : Standing = record { begun = Some b; phase = Seeking; starting = true; said = nothing_said } in
      let told : Gave → RpcAnswer = λ gave. move_answer a.Ok (Some srv_entry) gave in
      ap (λ o. among keys (start_by (stood None phase) w.server o)) server_tuple_read
      ∙ (ap (λ p. among keys (started (stood None phase) w.server server_start (refuses_by p server_start))) server_named
      ∙ (ap (λ f. among keys (started (stood None phase) w.server server_start f)) server_starts
      ∙ (ap (λ n. among keys (record { begun = Some b; phase = phase_after n a.Ok; starting = true; said = nothing_said })) needs_first
      ∙ (ap (λ came. ran 2 keys nobody_asked (sought s came)) (searched s b (Key (asked_first l.server)) (codes "server") keys refl refl needs_first server_role_in ∙ server_finds)
      ∙ (ap (λ n. ran 2 keys nobody_asked (record { begun = Some (record { start = l.server; moves = s_1; key = kept_key srv_entry n }); phase = phase_after n (told (answers l.server [] (told_of_key srv_entry))); starting = true; said = nothing_said })) (server_needs s_1 Nothing (ap (need_at l.server) server_1.course))
      ∙ ap (λ gave. up (server_at s_1) true (told gave)) (server_answers [] (told_of_key srv_entry) g.Ok server_1.answer))))))

  pub given_server : (keys : KeyList) (phase : Phase) → among keys (make_move (stood (Some (server_at s_1)) phase) (server_at s_1) (give w.client) a.Ok) ≡ up (server_at s_2) false a.Ok
  given_server keys phase = move_up keys phase (server_at s_1) (give w.client) a.Ok g.Ok (server_needs s_2 Nothing (ap (need_at l.server) server_2.course)) (server_answers s_1 (give w.client) g.Ok server_2.answer)

  pub got_server : (keys : KeyList) (phase : Phase) → among keys (make_move (stood (Some (server_at s_2)) phase) (server_at s_2) get (a.Got (puts l.server s_2 get))) ≡ up (server_at s_3) false (a.Got (sent l))
  got_server keys phase =
      move_up keys phase (server_at s_2) get (a.Got (puts l.server s_2 get)) g.Ok (server_needs s_3 Nothing (ap (need_at l.server) server_3.course)) (server_answers s_2 get g.Ok server_3.answer)
      ∙ ap (λ b. up (server_at s_3) false (a.Got b)) (server_puts s_2 (sent l) server_3.puts)

  -- the client hears, and shows
  pub hears_client : move_answer a.Ok (Some ann_entry) (answers l.client c_3 (heard (4 ∷ both l))) ≡ a.Ok
  hears_client = ap (move_answer a.Ok (Some ann_entry)) (client_answers c_3 (heard (4 ∷ both l)) g.Ok client_4.answer)

  pub misses_client : move_answer a.Ok (Some ann_entry) (answers l.client c_3 unheard) ≡ a.NoServer
  misses_client = ap (move_answer a.Ok (Some ann_entry)) (client_answers c_3 unheard (g.Refused NoServer) (ap (λ p. answer_of (verdict l.client p unheard)) client_3.course))

  pub shows_client : (keys : KeyList) (phase : Phase) → among keys (make_move (stood (Some (client_at c_4 (Some ann_entry))) phase) (client_at c_4 (Some ann_entry)) get (a.Got (puts l.client c_4 get))) ≡ up (client_at c_5 (Some ann_entry)) false (a.Got (shown l))
  shows_client keys phase =
      move_up keys phase (client_at c_4 (Some ann_entry)) get (a.Got (puts l.client c_4 get)) g.Ok (client_needs c_5 Nothing (ap (need_at l.client) client_5.course)) (client_answers c_4 get g.Ok client_5.answer)
      ∙ ap (λ b. up (client_at c_5 (Some ann_entry)) false (a.Got b)) (client_puts c_4 (shown l) client_5.puts)

  -- the server is given that, and proves itself
  pub shown_server : (keys : KeyList) (phase : Phase) → among keys (make_move (stood (Some (server_at s_3)) phase) (server_at s_3) (give (shown l)) a.Ok) ≡ up (server_at s_4) false a.Ok
  shown_server keys phase = move_up keys phase (server_at s_3) (give (shown l)) a.Ok g.Ok (server_needs s_4 Nothing (ap (need_at l.server) server_4.course)) (server_answers s_3 (give (shown l)) g.Ok server_4.answer)

  pub proves_server : (keys : KeyList) (phase : Phase) → among keys (make_move (stood (Some (server_at s_4)) phase) (server_at s_4) get (a.Got (puts l.server s_4 get))) ≡ up (server_at (get ∷ s_4)) false (a.Got (proved l))
  proves_server keys phase =
      move_up keys phase (server_at s_4) get (a.Got (puts l.server s_4 get)) g.Ok (server_needs (get ∷ s_4) Nothing (ap (need_at l.server) server_5.course)) (server_answers s_4 get g.Ok server_5.answer)
      ∙ ap (λ b. up (server_at (get ∷ s_4)) false (a.Got b)) (server_puts s_4 (proved l) server_5.puts)

  pub proved_client : (keys : KeyList) (phase : Phase) → among keys (make_move (stood (Some (client_at c_5 (Some ann_entry))) phase) (client_at c_5 (Some ann_entry)) (give (proved l)) a.Ok) ≡ up (client_at (give (proved l) ∷ c_5) (Some ann_entry)) false a.Ok
  proved_client keys phase = move_up keys phase (client_at c_5 (Some ann_entry)) (give (proved l)) a.Ok g.Ok (client_needs (give (proved l) ∷ c_5) Nothing (ap (need_at l.client) client_6.course)) (client_answers c_5 (give (proved l)) g.Ok client_6.answer)

  -- or it is given something else
  pub other_server : (keys : KeyList) (phase : Phase) (m : List ℕ) → among keys (make_move (stood (Some (server_at s_3)) phase) (server_at s_3) (give m) a.Ok) ≡ up (server_at (give m ∷ s_3)) false (move_answer a.Ok (Some srv_entry) (answers l.server s_3 (give m)))
  other_server keys phase m = move_up keys phase (server_at s_3) (give m) a.Ok (answers l.server s_3 (give m)) (server_needs (give m ∷ s_3) Nothing (any_rests m)) refl

  -- ---- how long the messages are

  fits_ticket : (num : ℕ) → num < 256 → FitsTicket (ticket_num num l)
  fits_ticket num small = record { num = small; chal = are.server; cuid = may.client_user.fits; suid = may.wanted.fits; key = seven w.first are.first }

  pub sent_long : length (sent l) ≡ 141
  sent_long = length_request (request_in l) (fits_request l may)

  pub question_long : length (request_text (question l)) ≡ 141
  question_long = length_request (question l) (login.fits_question l may)

  pub both_long : length (4 ∷ both l) ≡ 145
  both_long =
      omega (arith, length-append (sealed_clients l) (sealed_servers l), length_sealed_ticket l.client_key.des.0 (clients l) (fits_ticket 65 (omega arith)), length_sealed_ticket l.server_key.des.0 (servers l) (fits_ticket 64 (omega arith)))

  pub shown_long : length (shown l) ≡ 85
  shown_long =
      omega (arith, length-append (sealed_servers l) (sealed_proof AUTH_AC w.server l), length_sealed_ticket l.server_key.des.0 (servers l) (fits_ticket 64 (omega arith)), length_sealed_authenticator (shared_key l.words) (proof AUTH_AC w.server) are.server.whole)

  pub proved_long : length (proved l) ≡ 13
  proved_long = length_sealed_authenticator (shared_key l.words) (proof AUTH_AS w.client) are.client.whole

  -- ---- what the authentication server answers

  pub granted : answer known_server [] (asked_so (request_text (question l)) (w.first ∷ w.second ∷ w.third ∷ [])) ≡ 4 ∷ both l
  granted = login.grant_is l may ∙ login.tickets_are l
