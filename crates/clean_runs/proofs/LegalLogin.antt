-- That the login is a history that a network can have: each side's talk leaves what the record says of it.
use Rattle.std.proofs.Common.{◌≡◌, ℕ, ◌+◌, List, [], ◌∷◌, ◌++◌, nat_le, Bool, false, All, Some, None, Ok, refl, ap, subst, ◌∙◌, inl, inr, arith, codes}
use Rattle.std.specs.Str.{bytes_eq, is_utf8, chars}
use lib.Utf8.{encode}
use Rattle.std.proofs.lemmas.Bool.{cases_Bool}
use Rattle.std.proofs.lemmas.List.Elements.{All-cons, All-nil}
use Rattle.std.proofs.lemmas.Slice.Eq.{bytes_eq-Decides}
use Rattle.wire_base.specs.Texts.{is_text}
use Rattle.attr_tuples.specs.Matching.{value_of}
use Rattle.sealing.specs.Authenticator.{authenticator_text}
use Rattle.sealing.specs.Fields.{before_nul}
use Rattle.sealing.specs.Fitting.{FitsName, IsBlock}
use Rattle.sealing.specs.Request.{request_of, request_text}
use Rattle.sealing.specs.Ticket.{ticket_text}
use Rattle.auth_tables.specs.Speaks.{may_speak}
use Rattle.auth_server.specs.Requests.{asked_so}
use Rattle.auth_server.specs.Answers.{Knowledge, wrong_by}
use Rattle.roles.specs.declared.answer.Gave.TheVariants as g
use Rattle.roles.specs.declared.answer.Cause.TheVariants.{BadKey, WrongKind}
use Rattle.roles.specs.declared.need.Need.{Need}
use Rattle.roles.specs.declared.need.Need.TheVariants.{Nothing, Key}
use Rattle.roles.specs.declared.need.Outcome.TheVariants.{Running}
use Rattle.roles.specs.declared.stage.Role.TheVariants.{Server}
use Rattle.roles.specs.declared.stage.Stage.TheVariants as p
use Rattle.roles.specs.Courses.{accepted as accepts_as, answer_need, key_need, need_unless, outcome_unless}
use Rattle.roles.specs.Starts.{Start, fault_of, role_of}
use Rattle.roles.specs.Templates.{asked_first, asked_in}
use Rattle.roles.specs.Talks.{Call, give, get, found, heard, offered, picked}
use Rattle.conv_p9any.specs.declared.stage.Stage.TheVariants as c
use Rattle.conv_p9any.specs.Courses.{begun, course}
use Rattle.conv_p9any.specs.Courses as choice
use Rattle.conv_p9any.specs.Inner.{inner_start}
use Rattle.conv_p9any.specs.Offers.{eligible, is_eligible, is_offered, offers_dom}
use Rattle.conv_p9any.specs.Talks.{Standing, choosing, within}
use Rattle.conv_p9any.specs.Texts.{text_in}
use Rattle.talks.specs.Protocols.{P9any as ByP9any, protocol_of}
use Rattle.complete_logins.specs.Choices.{p9sk1}
use Rattle.complete_logins.specs.Logins.{Login, MayLogIn}
use Rattle.complete_logins.proofs.PassLemmas.{at}
use Rattle.complete_logins.proofs.MessageLemmas.{length_request, request_read}
use Rattle.complete_logins.proofs.LoginLaws as alone
use Rattle.complete_logins.proofs.WithinLemmas.{Leads, Passes, passes_by}
use Rattle.wire_histories.specs.Histories.{Act, started, gave, took, asked, answered, accepted, requested, replied, acts_of, deals_of}
use Rattle.wire_histories.specs.declared.step.Protocol.TheVariants.{P9any}
use Rattle.wire_histories.specs.declared.step.Role.TheVariants.{Client as Clients, Server as Serves}
use Rattle.wire_histories.specs.Conversations.{Speaker, speaks, kept_in, talk_acts, met_in}
use Rattle.wire_histories.specs.Sessions.{Came, MayCome, answer, ends_by, is_over, session_deals}
use Rattle.wire_histories.specs.Legal.{IsConversation, IsLegal, IsMet, IsRingKey, IsServed, MayBe, Setting, Tables, known_at}
use Rattle.clean_runs.specs.Login.{Secrets, Word, ann, answer_bytes, choice_bytes, conv_c, conv_s, key_bytes, key_of, login, login_setting, offer_bytes, proof_bytes, request_bytes, session_r, shown_bytes, spoken, spoken_c, spoken_s, srv, start_as, tables, word_bytes}
use Rattle.clean_runs.specs.ExampleStatements.{AreBytes, AreFresh, LoginIsLegal}
use Rattle.wire_histories.proofs.RestartLemmas.{unrestarted}
use Rattle.clean_runs.proofs.ActLemmas as talk
use Rattle.clean_runs.proofs.Kept.{kept_behind, kept_found}
use Rattle.clean_runs.proofs.LoginLaw.{login_is_clean}
use Rattle.clean_runs.proofs.MailOf.{block_7, block_8, fits_ann, fits_srv, fits_x}
use Rattle.clean_runs.proofs.WithinActs.{comes}

-- ---- the login as one whose messages all arrive

abbrev words : Secrets → List (List ℕ)
words k = word_bytes k.first ∷ word_bytes k.second ∷ word_bytes k.third ∷ []

abbrev cs : Secrets → Start
cs k = start_as (codes "p9any") (codes "client") k.client

abbrev ss : Secrets → Start
ss k = start_as (codes "p9any") (codes "server") k.server

abbrev of : Secrets → Login
of k = record {
  client = inner_start (codes "p9sk1") (cs k) (codes "x");
  client_key = key_of ann k.ann_key;
  client_password = Some k.ann_password;
  server = inner_start (codes "p9sk1") (ss k) (codes "x");
  server_key = key_of srv k.srv_key;
  server_password = Some k.srv_password;
  known = known_at (login_setting k (spoken k)) 0;
  before = [];
  words = words k;
}

is_client : (k : Secrets) → role_of (of k).client.template ≡ Server → ⊥
unfolding role_of value_of
is_client k is = absurd (cc)

is_server : (k : Secrets) → role_of (of k).server.template ≡ Server
unfolding role_of value_of
is_server k = refl

may : (k : Secrets) → AreFresh k → MayLogIn (of k)
unfolding role_of value_of may_speak
may k f = record {
  client_role = is_client k;
  server_role = is_server k;
  client_word = block_8 k.client f.client;
  server_word = block_8 k.server f.server;
  client_known = record { line = record { des = key_bytes k.ann_key; password = Some k.ann_password }; knows = refl; same = refl };
  server_known = record { line = record { des = key_bytes k.srv_key; password = Some k.srv_password }; knows = refl; same = refl };
  client_user = record { fits = fits_ann; some = omega arith };
  server_user = record { fits = fits_srv; some = omega arith };
  dom_name = fits_x.short;
  dom_form = refl;
  same_dom = refl;
  wanted = record { fits = fits_ann; some = omega arith };
  speaks = refl;
  drawn = block_8 k.first f.first;
}

-- ---- its messages are those of the record

abbrev list : List ℕ
list = codes "p9sk1@x"

abbrev choice_text : List ℕ
choice_text = codes "p9sk1 x"

request_is : (k : Secrets) → alone.sent (of k) ≡ request_bytes [] k
unfolding request_text
request_is k = refl

question_is : (k : Secrets) → request_text (alone.question (of k)) ≡ request_bytes ann k
unfolding request_text role_of value_of
question_is k = refl

answer_is : (k : Secrets) → 4 ∷ alone.both (of k) ≡ answer_bytes k
unfolding ticket_text role_of value_of
answer_is k = refl

shown_is : (k : Secrets) → alone.shown (of k) ≡ shown_bytes k
unfolding ticket_text authenticator_text role_of value_of
shown_is k = refl

proof_is : (k : Secrets) → alone.proved (of k) ≡ proof_bytes 66 k.client k
unfolding authenticator_text
proof_is k = refl

-- ---- p9sk1, move by move, with the messages written out

client_1 : (l : Login) → MayLogIn l → alone.Passes l.client [] get p.ClientSecond g.Ok l.client.word
client_1 l may = alone.passes_by l.client [] get p.ClientFirst p.ClientSecond g.Ok l.client.word (alone.client_0 l may) refl

client_2 : (l : Login) → MayLogIn l → alone.Passes l.client (get ∷ []) (give (alone.sent l)) (p.ClientKey (alone.sent l)) g.Wait []
client_2 l may = alone.passes_by l.client (get ∷ []) (give (alone.sent l)) p.ClientSecond (p.ClientKey (alone.sent l)) g.Wait [] (client_1 l may).course (alone.asks l may (alone.sent l) refl)

abbrev client_found : Login → List Call
client_found l = found l.client_key l.client_password ∷ give (alone.sent l) ∷ get ∷ []

client_3 : (l : Login) → MayLogIn l → alone.Passes l.client (give (alone.sent l) ∷ get ∷ []) (found l.client_key l.client_password) (p.ClientAsk (alone.sent l) l.client_key) g.Wait []
client_3 l may = alone.passes_by l.client (give (alone.sent l) ∷ get ∷ []) (found l.client_key l.client_password) (p.ClientKey (alone.sent l)) (p.ClientAsk (alone.sent l) l.client_key) g.Wait [] (client_2 l may).course (alone.finds l may)

client_4 : (l : Login) → MayLogIn l → alone.Passes l.client (client_found l) (heard (4 ∷ alone.both l)) (p.ClientThird (alone.sent l) l.client_key (alone.both l)) g.Ok []
client_4 l may = alone.passes_by l.client (client_found l) (heard (4 ∷ alone.both l)) (p.ClientAsk (alone.sent l) l.client_key) (p.ClientThird (alone.sent l) l.client_key (alone.both l)) g.Ok [] (client_3 l may).course (alone.hears l may (4 ∷ alone.both l) refl)

abbrev client_heard : Login → List Call
client_heard l = heard (4 ∷ alone.both l) ∷ client_found l

client_5 : (l : Login) → MayLogIn l → alone.Passes l.client (client_heard l) get (p.ClientFourth (alone.sent l) l.client_key (alone.both l)) g.Ok (alone.shown l)
client_5 l may = alone.passes_by l.client (client_heard l) get (p.ClientThird (alone.sent l) l.client_key (alone.both l)) (p.ClientFourth (alone.sent l) l.client_key (alone.both l)) g.Ok (alone.shown l) (client_4 l may).course (alone.hands_on l may)

client_6 : (l : Login) → MayLogIn l → alone.Passes l.client (get ∷ client_heard l) (give (alone.proved l)) (p.ClientDone (alone.sent l) l.client_key (alone.both l) (alone.proved l)) g.Ok []
client_6 l may = alone.passes_by l.client (get ∷ client_heard l) (give (alone.proved l)) (p.ClientFourth (alone.sent l) l.client_key (alone.both l)) (p.ClientDone (alone.sent l) l.client_key (alone.both l) (alone.proved l)) g.Ok [] (client_5 l may).course (alone.ends l may (alone.proved l) refl)

server_1 : (l : Login) → MayLogIn l → alone.Passes l.server [] (found l.server_key l.server_password) (p.ServerFirst l.server_key) g.Ok []
server_1 l may = alone.passes_by l.server [] (found l.server_key l.server_password) p.ServerKey (p.ServerFirst l.server_key) g.Ok [] (alone.server_0 l may) refl

abbrev server_found : Login → List Call
server_found l = found l.server_key l.server_password ∷ []

server_2 : (l : Login) → MayLogIn l → alone.Passes l.server (server_found l) (give l.client.word) (p.ServerSecond l.server_key l.client.word) g.Ok []
server_2 l may = alone.passes_by l.server (server_found l) (give l.client.word) (p.ServerFirst l.server_key) (p.ServerSecond l.server_key l.client.word) g.Ok [] (server_1 l may).course (alone.greets l l.client.word refl may.client_word.whole)

abbrev server_greeted : Login → List Call
server_greeted l = give l.client.word ∷ server_found l

server_3 : (l : Login) → MayLogIn l → alone.Passes l.server (server_greeted l) get (p.ServerThird l.server_key l.client.word) g.Ok (alone.sent l)
server_3 l may = alone.passes_by l.server (server_greeted l) get (p.ServerSecond l.server_key l.client.word) (p.ServerThird l.server_key l.client.word) g.Ok (alone.sent l) (server_2 l may).course refl

server_4 : (l : Login) → MayLogIn l → alone.Passes l.server (get ∷ server_greeted l) (give (alone.shown l)) (p.ServerFourth l.server_key l.client.word (alone.shown l)) g.Ok []
server_4 l may = alone.passes_by l.server (get ∷ server_greeted l) (give (alone.shown l)) (p.ServerThird l.server_key l.client.word) (p.ServerFourth l.server_key l.client.word (alone.shown l)) g.Ok [] (server_3 l may).course (alone.accepts l may (alone.shown l) refl)

abbrev server_shown : Login → List Call
server_shown l = give (alone.shown l) ∷ get ∷ server_greeted l

server_5 : (l : Login) → MayLogIn l → alone.Passes l.server (server_shown l) get (p.ServerDone l.server_key l.client.word (alone.shown l)) g.Ok (alone.proved l)
server_5 l may = alone.passes_by l.server (server_shown l) get (p.ServerFourth l.server_key l.client.word (alone.shown l)) (p.ServerDone l.server_key l.client.word (alone.shown l)) g.Ok (alone.proved l) (server_4 l may).course (alone.proves l may)

-- ---- p9any leads to it

-- how it ends and what is needed at a place of the choice
ends_at : (start : Start) (before : List Call) (s : Standing) → course p9sk1 start before ≡ at s → choice.outcome_after p9sk1 start before ≡ choice.outcome_of p9sk1 start s
ends_at start before s here = ap (λ p. outcome_unless p.broken (choice.outcome_of p9sk1 start p.stage)) here

needs_at : (start : Start) (before : List Call) (s : Standing) → course p9sk1 start before ≡ at s → choice.need_after p9sk1 start before ≡ choice.need_of p9sk1 start s
needs_at start before s here = ap (λ p. need_unless p.broken (choice.need_of p9sk1 start p.stage)) here

abbrev listed : List Call
listed = give offer_bytes ∷ []

abbrev client_chosen : List Call
client_chosen = get ∷ picked 0 ∷ listed

lists : (k : Secrets) → Passes (cs k) [] (give offer_bytes) (choosing (c.ClientPick list)) g.Wait []
unfolding role_of value_of text_in before_nul eligible is_eligible is_text is_utf8 chars encode
lists k = passes_by (cs k) [] (give offer_bytes) (choosing c.ClientFirst) (choosing (c.ClientPick list)) g.Wait [] refl refl

chooses : (k : Secrets) → Passes (cs k) listed (picked 0) (choosing (c.ClientSecond list 0)) g.Ok []
chooses k = passes_by (cs k) listed (picked 0) (choosing (c.ClientPick list)) (choosing (c.ClientSecond list 0)) g.Ok [] (lists k).course refl

tells : (k : Secrets) → Passes (cs k) (picked 0 ∷ listed) get (within (c.ClientSecond list 0) choice_text []) g.Ok choice_bytes
unfolding role_of value_of eligible is_eligible is_text is_utf8 chars encode
tells k = passes_by (cs k) (picked 0 ∷ listed) get (choosing (c.ClientSecond list 0)) (within (c.ClientSecond list 0) choice_text []) g.Ok choice_bytes (chooses k).course refl

client_led : (k : Secrets) → Leads (cs k) client_chosen (of k).client
client_led k = record { stage = c.ClientSecond list 0; text = choice_text; course = (tells k).course; chosen = refl }

abbrev offering : List Call
offering = offered list ∷ []

abbrev server_chosen : List Call
server_chosen = give choice_bytes ∷ get ∷ offering

serves : (k : Secrets) → Passes (ss k) [] (offered list) (choosing (c.ServerFirst list)) g.Ok []
unfolding role_of value_of
serves k = passes_by (ss k) [] (offered list) (choosing c.ServerOffers) (choosing (c.ServerFirst list)) g.Ok [] refl refl

shows : (k : Secrets) → Passes (ss k) offering get (choosing (c.ServerSecond list)) g.Ok offer_bytes
shows k = passes_by (ss k) offering get (choosing (c.ServerFirst list)) (choosing (c.ServerSecond list)) g.Ok offer_bytes (serves k).course refl

is_told : (k : Secrets) → Passes (ss k) (get ∷ offering) (give choice_bytes) (within (c.ServerSecond list) choice_text []) g.Wait []
unfolding role_of value_of text_in before_nul is_offered offers_dom is_text is_utf8 chars encode
is_told k = passes_by (ss k) (get ∷ offering) (give choice_bytes) (choosing (c.ServerSecond list)) (within (c.ServerSecond list) choice_text []) g.Wait [] (shows k).course refl

server_led : (k : Secrets) → Leads (ss k) server_chosen (of k).server
server_led k = record { stage = c.ServerSecond list; text = choice_text; course = (is_told k).course; chosen = refl }

-- ---- what the client's talk leaves

abbrev c_says : Secrets → Speaker
c_says k = speaks ByP9any (cs k)

abbrev c_first : Secrets → Act
c_first k = started P9any Clients (word_bytes k.client)

abbrev pick : Secrets → Need
pick k = choice.choice_need (codes "p9sk1") (cs k) (c.ClientPick list)

abbrev asks_key : Secrets → Need
asks_key k = Key (asked_in (of k).client (codes "x"))

abbrev asks_tickets : Secrets → Need
asks_tickets k = answer_need (of k).client (of k).client_key (Ok (alone.request_in (of k)))

abbrev picks_it : List Call
picks_it = picked 0 ∷ []

abbrev finds_ann : Secrets → List Call
finds_ann k = found (key_of ann k.ann_key) (Some k.ann_password) ∷ picks_it

c_0 : (k : Secrets) → talk.Leaves (c_says k) (c_first k) [] Running Nothing (c_first k) (c_first k ∷ []) []
unfolding role_of value_of
c_0 k = talk.begins (c_says k) (c_first k) Running Nothing refl refl

c_1 : (k : Secrets) → talk.Leaves (c_says k) (c_first k) listed Running (pick k) (took offer_bytes) (c_first k ∷ []) []
c_1 k =
    let s = choosing (c.ClientPick list) in
    talk.gives (c_says k) (c_first k) [] offer_bytes Running Running Nothing (pick k) g.Wait (c_first k) (c_first k ∷ []) [] (c_0 k) (ends_at (cs k) listed s (lists k).course) (needs_at (cs k) listed s (lists k).course) (lists k).answer

abbrev c_acts_2 : Secrets → List Act
c_acts_2 k = took offer_bytes ∷ c_first k ∷ []

c_2 : (k : Secrets) → talk.Leaves (c_says k) (c_first k) (picked 0 ∷ listed) Running Nothing (took offer_bytes) (c_acts_2 k) picks_it
c_2 k =
    let s = choosing (c.ClientSecond list 0) in
    talk.picks (c_says k) (c_first k) listed 0 Running Running (pick k) Nothing (took offer_bytes) (c_first k ∷ []) [] (c_1 k) (ends_at (cs k) (picked 0 ∷ listed) s (chooses k).course) (needs_at (cs k) (picked 0 ∷ listed) s (chooses k).course)

begins_client : (k : Secrets) → choice.need_of p9sk1 (cs k) (within (c.ClientSecond list 0) choice_text []) ≡ Nothing
unfolding role_of value_of
begins_client k = refl

begins_running : (k : Secrets) → choice.outcome_of p9sk1 (cs k) (within (c.ClientSecond list 0) choice_text []) ≡ Running
unfolding role_of value_of
begins_running k = refl

abbrev c_acts_3 : Secrets → List Act
c_acts_3 k = gave choice_bytes ∷ c_acts_2 k

c_3 : (k : Secrets) → talk.Leaves (c_says k) (c_first k) client_chosen Running Nothing (took offer_bytes) (c_acts_3 k) picks_it
c_3 k =
    let s = within (c.ClientSecond list 0) choice_text [] in
    talk.gets (c_says k) (c_first k) (picked 0 ∷ listed) choice_bytes Running Running Nothing Nothing g.Ok (took offer_bytes) (c_acts_2 k) picks_it (c_2 k) (ends_at (cs k) client_chosen s (tells k).course ∙ begins_running k) (needs_at (cs k) client_chosen s (tells k).course ∙ begins_client k) (tells k).answer (tells k).puts

abbrev c_acts_4 : Secrets → List Act
c_acts_4 k = gave (word_bytes k.client) ∷ c_acts_3 k

c_4 : (k : Secrets) → AreFresh k → talk.Leaves (c_says k) (c_first k) (get ∷ client_chosen) Running Nothing (took offer_bytes) (c_acts_4 k) picks_it
c_4 k f =
    let came = comes (cs k) client_chosen (of k).client (client_led k) [] tt get tt p.ClientSecond g.Ok (word_bytes k.client) Running Nothing (client_1 (of k) (may k f)) refl refl in
    talk.gets (c_says k) (c_first k) client_chosen (word_bytes k.client) Running Running Nothing Nothing g.Ok (took offer_bytes) (c_acts_3 k) picks_it (c_3 k) came.ends came.needs came.answer came.puts

abbrev asked_talk : Secrets → List Call
asked_talk k = give (alone.sent (of k)) ∷ get ∷ client_chosen

c_5 : (k : Secrets) → AreFresh k → talk.Leaves (c_says k) (c_first k) (asked_talk k) Running (asks_key k) (took (alone.sent (of k))) (c_acts_4 k) picks_it
c_5 k f =
    let came = comes (cs k) client_chosen (of k).client (client_led k) (get ∷ []) (tt, tt) (give (alone.sent (of k))) tt (p.ClientKey (alone.sent (of k))) g.Wait [] Running (asks_key k) (client_2 (of k) (may k f)) refl
    (ap (key_need (of k).client) (request_read (alone.request_in (of k)) (alone.fits_request (of k) (may k f)))) in
    talk.gives (c_says k) (c_first k) (get ∷ client_chosen) (alone.sent (of k)) Running Running Nothing (asks_key k) g.Wait (took offer_bytes) (c_acts_4 k) picks_it (c_4 k f) came.ends came.needs came.answer

abbrev c_acts_6 : Secrets → List Act
c_acts_6 k = asked (request_text (alone.question (of k))) ∷ took (alone.sent (of k)) ∷ c_acts_4 k

c_6 : (k : Secrets) → AreFresh k → talk.Leaves (c_says k) (c_first k) (client_found (of k) ++ client_chosen) Running (asks_tickets k) (took (alone.sent (of k))) (c_acts_6 k) (finds_ann k)
c_6 k f =
    let l = of k in
    let came = comes (cs k) client_chosen l.client (client_led k) (give (alone.sent l) ∷ get ∷ []) (tt, (tt, tt)) (found l.client_key l.client_password) tt (p.ClientAsk (alone.sent l) l.client_key) g.Wait [] Running (asks_tickets k) (client_3 l (may k f)) refl
    (ap (answer_need l.client l.client_key) (request_read (alone.request_in l) (alone.fits_request l (may k f)))) in
    talk.finds (c_says k) (c_first k) (asked_talk k) l.client_key l.client_password Running Running (asks_key k) (asks_tickets k) (took (alone.sent l)) (c_acts_4 k) picks_it (c_5 k f) came.ends came.needs

abbrev c_acts_7 : Secrets → List Act
c_acts_7 k = answered (4 ∷ alone.both (of k)) ∷ c_acts_6 k

c_7 : (k : Secrets) → AreFresh k → talk.Leaves (c_says k) (c_first k) (client_heard (of k) ++ client_chosen) Running Nothing (took (alone.sent (of k))) (c_acts_7 k) (finds_ann k)
c_7 k f =
    let l = of k in
    let came = comes (cs k) client_chosen l.client (client_led k) (client_found l) (tt, (tt, (tt, tt))) (heard (4 ∷ alone.both l)) tt (p.ClientThird (alone.sent l) l.client_key (alone.both l)) g.Ok [] Running Nothing (client_4 l (may k f)) refl refl in
    talk.hears (c_says k) (c_first k) (client_found l ++ client_chosen) (4 ∷ alone.both l) Running Running (asks_tickets k) Nothing (took (alone.sent l)) (c_acts_6 k) (finds_ann k) (c_6 k f) came.ends came.needs

abbrev c_acts_8 : Secrets → List Act
c_acts_8 k = gave (alone.shown (of k)) ∷ c_acts_7 k

c_8 : (k : Secrets) → AreFresh k → talk.Leaves (c_says k) (c_first k) (get ∷ client_heard (of k) ++ client_chosen) Running Nothing (took (alone.sent (of k))) (c_acts_8 k) (finds_ann k)
c_8 k f =
    let l = of k in
    let came = comes (cs k) client_chosen l.client (client_led k) (client_heard l) (tt, (tt, (tt, (tt, tt)))) get tt (p.ClientFourth (alone.sent l) l.client_key (alone.both l)) g.Ok (alone.shown l) Running Nothing (client_5 l (may k f)) refl refl in
    talk.gets (c_says k) (c_first k) (client_heard l ++ client_chosen) (alone.shown l) Running Running Nothing Nothing g.Ok (took (alone.sent l)) (c_acts_7 k) (finds_ann k) (c_7 k f) came.ends came.needs came.answer came.puts

abbrev c_talk : Secrets → List Call
c_talk k = give (alone.proved (of k)) ∷ get ∷ client_heard (of k) ++ client_chosen

abbrev c_acts : Secrets → List Act
c_acts k = accepted ann (alone.wanted (of k)) ∷ took (alone.proved (of k)) ∷ c_acts_8 k

c_9 : (k : Secrets) → AreFresh k → talk.Leaves (c_says k) (c_first k) (c_talk k) (accepts_as BadKey (Ok (alone.clients (of k)))) Nothing (took (alone.proved (of k))) (c_acts k) (finds_ann k)
c_9 k f =
    let l = of k in
    let accepts = accepts_as BadKey (Ok (alone.clients l)) in
    let came = comes (cs k) client_chosen l.client (client_led k) (get ∷ client_heard l) (tt, (tt, (tt, (tt, (tt, tt))))) (give (alone.proved l)) tt (p.ClientDone (alone.sent l) l.client_key (alone.both l) (alone.proved l)) g.Ok [] accepts Nothing (client_6 l (may k f)) (ap (accepts_as BadKey) (alone.opens l (may k f))) refl in
    talk.gives (c_says k) (c_first k) (get ∷ client_heard l ++ client_chosen) (alone.proved l) Running accepts Nothing Nothing g.Ok (took (alone.sent l)) (c_acts_8 k) (finds_ann k) (c_8 k f) came.ends came.needs came.answer

-- ---- what the server's talk leaves

abbrev s_says : Secrets → Speaker
s_says k = speaks ByP9any (ss k)

abbrev s_first : Secrets → Act
s_first k = started P9any Serves (word_bytes k.server)

abbrev offers : Secrets → Need
offers k = choice.choice_need (codes "p9sk1") (ss k) c.ServerOffers

abbrev own_key : Secrets → Need
own_key k = Key (asked_first (of k).server)

abbrev offers_it : List Call
offers_it = offered list ∷ []

abbrev finds_srv : Secrets → List Call
finds_srv k = found (key_of srv k.srv_key) (Some k.srv_password) ∷ offers_it

s_0 : (k : Secrets) → talk.Leaves (s_says k) (s_first k) [] Running (offers k) (s_first k) [] []
unfolding role_of value_of
s_0 k = talk.begins (s_says k) (s_first k) Running (offers k) refl refl

s_1 : (k : Secrets) → talk.Leaves (s_says k) (s_first k) offering Running Nothing (s_first k) (s_first k ∷ []) offers_it
s_1 k =
    let s = choosing (c.ServerFirst list) in
    talk.offers (s_says k) (s_first k) [] list Running Running (offers k) Nothing (s_first k) [] [] (s_0 k) (ends_at (ss k) offering s (serves k).course) (needs_at (ss k) offering s (serves k).course)

abbrev s_acts_2 : Secrets → List Act
s_acts_2 k = gave offer_bytes ∷ s_first k ∷ []

s_2 : (k : Secrets) → talk.Leaves (s_says k) (s_first k) (get ∷ offering) Running Nothing (s_first k) (s_acts_2 k) offers_it
s_2 k =
    let s = choosing (c.ServerSecond list) in
    talk.gets (s_says k) (s_first k) offering offer_bytes Running Running Nothing Nothing g.Ok (s_first k) (s_first k ∷ []) offers_it (s_1 k) (ends_at (ss k) (get ∷ offering) s (shows k).course) (needs_at (ss k) (get ∷ offering) s (shows k).course) (shows k).answer (shows k).puts

begins_server : (k : Secrets) → choice.need_of p9sk1 (ss k) (within (c.ServerSecond list) choice_text []) ≡ own_key k
unfolding role_of value_of
begins_server k = refl

serves_running : (k : Secrets) → choice.outcome_of p9sk1 (ss k) (within (c.ServerSecond list) choice_text []) ≡ Running
unfolding role_of value_of
serves_running k = refl

s_3 : (k : Secrets) → talk.Leaves (s_says k) (s_first k) server_chosen Running (own_key k) (took choice_bytes) (s_acts_2 k) offers_it
s_3 k =
    let s = within (c.ServerSecond list) choice_text [] in
    talk.gives (s_says k) (s_first k) (get ∷ offering) choice_bytes Running Running Nothing (own_key k) g.Wait (s_first k) (s_acts_2 k) offers_it (s_2 k) (ends_at (ss k) server_chosen s (is_told k).course ∙ serves_running k) (needs_at (ss k) server_chosen s (is_told k).course ∙ begins_server k) (is_told k).answer

abbrev s_acts_4 : Secrets → List Act
s_acts_4 k = took choice_bytes ∷ s_acts_2 k

s_4 : (k : Secrets) → AreFresh k → talk.Leaves (s_says k) (s_first k) (server_found (of k) ++ server_chosen) Running Nothing (took choice_bytes) (s_acts_4 k) (finds_srv k)
s_4 k f =
    let l = of k in
    let came = comes (ss k) server_chosen l.server (server_led k) [] tt (found l.server_key l.server_password) tt (p.ServerFirst l.server_key) g.Ok [] Running Nothing (server_1 l (may k f)) refl refl in
    talk.finds (s_says k) (s_first k) server_chosen l.server_key l.server_password Running Running (own_key k) Nothing (took choice_bytes) (s_acts_2 k) offers_it (s_3 k) came.ends came.needs

abbrev s_acts_5 : Secrets → List Act
s_acts_5 k = took (word_bytes k.client) ∷ s_acts_4 k

s_5 : (k : Secrets) → AreFresh k → talk.Leaves (s_says k) (s_first k) (server_greeted (of k) ++ server_chosen) Running Nothing (took (word_bytes k.client)) (s_acts_5 k) (finds_srv k)
s_5 k f =
    let l = of k in
    let came = comes (ss k) server_chosen l.server (server_led k) (server_found l) (tt, tt) (give (word_bytes k.client)) tt (p.ServerSecond l.server_key (word_bytes k.client)) g.Ok [] Running Nothing (server_2 l (may k f)) refl refl in
    talk.gives (s_says k) (s_first k) (server_found l ++ server_chosen) (word_bytes k.client) Running Running Nothing Nothing g.Ok (took choice_bytes) (s_acts_4 k) (finds_srv k) (s_4 k f) came.ends came.needs came.answer

abbrev s_acts_6 : Secrets → List Act
s_acts_6 k = gave (alone.sent (of k)) ∷ s_acts_5 k

s_6 : (k : Secrets) → AreFresh k → talk.Leaves (s_says k) (s_first k) (get ∷ server_greeted (of k) ++ server_chosen) Running Nothing (took (word_bytes k.client)) (s_acts_6 k) (finds_srv k)
s_6 k f =
    let l = of k in
    let came = comes (ss k) server_chosen l.server (server_led k) (server_greeted l) (tt, (tt, tt)) get tt (p.ServerThird l.server_key (word_bytes k.client)) g.Ok (alone.sent l) Running Nothing (server_3 l (may k f)) refl refl in
    talk.gets (s_says k) (s_first k) (server_greeted l ++ server_chosen) (alone.sent l) Running Running Nothing Nothing g.Ok (took (word_bytes k.client)) (s_acts_5 k) (finds_srv k) (s_5 k f) came.ends came.needs came.answer came.puts

abbrev s_acts_7 : Secrets → List Act
s_acts_7 k = accepted ann (alone.wanted (of k)) ∷ took (alone.shown (of k)) ∷ s_acts_6 k

s_7 : (k : Secrets) → AreFresh k → talk.Leaves (s_says k) (s_first k) (server_shown (of k) ++ server_chosen) (accepts_as WrongKind (Ok (alone.servers (of k)))) Nothing (took (alone.shown (of k))) (s_acts_7 k) (finds_srv k)
s_7 k f =
    let l = of k in
    let accepts = accepts_as WrongKind (Ok (alone.servers l)) in
    let came = comes (ss k) server_chosen l.server (server_led k) (get ∷ server_greeted l) (tt, (tt, (tt, tt))) (give (alone.shown l)) tt (p.ServerFourth l.server_key (word_bytes k.client) (alone.shown l)) g.Ok [] accepts Nothing (server_4 l (may k f)) (ap (accepts_as WrongKind) (alone.opens_there l (may k f))) refl in
    talk.gives (s_says k) (s_first k) (get ∷ server_greeted l ++ server_chosen) (alone.shown l) Running accepts Nothing Nothing g.Ok (took (word_bytes k.client)) (s_acts_6 k) (finds_srv k) (s_6 k f) came.ends came.needs came.answer

abbrev s_talk : Secrets → List Call
s_talk k = get ∷ server_shown (of k) ++ server_chosen

abbrev s_acts : Secrets → List Act
s_acts k = gave (alone.proved (of k)) ∷ s_acts_7 k

s_8 : (k : Secrets) → AreFresh k → talk.Leaves (s_says k) (s_first k) (s_talk k) (accepts_as WrongKind (Ok (alone.servers (of k)))) Nothing (took (alone.shown (of k))) (s_acts k) (finds_srv k)
s_8 k f =
    let l = of k in
    let accepts = accepts_as WrongKind (Ok (alone.servers l)) in
    let came = comes (ss k) server_chosen l.server (server_led k) (server_shown l) (tt, (tt, (tt, (tt, tt)))) get tt (p.ServerDone l.server_key (word_bytes k.client) (alone.shown l)) g.Ok (alone.proved l) accepts Nothing (server_5 l (may k f)) (ap (accepts_as WrongKind) (alone.opens_there l (may k f))) refl in
    talk.gets (s_says k) (s_first k) (server_shown l ++ server_chosen) (alone.proved l) accepts accepts Nothing Nothing g.Ok (took (alone.shown l)) (s_acts_7 k) (finds_srv k) (s_7 k f) came.ends came.needs came.answer came.puts

-- ---- both are conversations of the setting

key_fits : (user : List ℕ) (key : Word) → FitsName 28 user → AreBytes (word_bytes key) → IsRingKey (key_of user key)
key_fits user key fits bytes = record { des = block_7 key bytes; user = fits; dom = fits_x }

c_may : (k : Secrets) → AreFresh k → MayBe (spoken_c k)
unfolding protocol_of fault_of value_of is_text is_utf8 chars encode
c_may k f = record { tuple = refl; fits = refl; starts = refl; word = block_8 k.client f.client; keys = All-cons IsMet (found (key_of ann k.ann_key) (Some k.ann_password)) picks_it (key_fits ann k.ann_key fits_ann f.ann_key) (All-cons IsMet (picked 0) [] tt (All-nil IsMet)) }

s_may : (k : Secrets) → AreFresh k → MayBe (spoken_s k)
unfolding protocol_of fault_of value_of is_text is_utf8 chars encode
s_may k f = record { tuple = refl; fits = refl; starts = refl; word = block_8 k.server f.server; keys = All-cons IsMet (found (key_of srv k.srv_key) (Some k.srv_password)) offers_it (key_fits srv k.srv_key fits_srv f.srv_key) (All-cons IsMet (offered list) [] tt (All-nil IsMet)) }

c_left : (k : Secrets) → AreFresh k → talk_acts (cs k) (c_talk k) ≡ acts_of conv_c (login k)
unfolding protocol_of role_of value_of request_text ticket_text authenticator_text
c_left k f = (c_9 k f).acts

s_left : (k : Secrets) → AreFresh k → talk_acts (ss k) (s_talk k) ≡ acts_of conv_s (login k)
unfolding protocol_of role_of value_of request_text ticket_text authenticator_text
s_left k f = (s_8 k f).acts

c_met : (k : Secrets) → AreFresh k → met_in (cs k) (c_talk k) ≡ finds_ann k
unfolding protocol_of value_of
c_met k f = (c_9 k f).met

s_met : (k : Secrets) → AreFresh k → met_in (ss k) (s_talk k) ≡ finds_srv k
unfolding protocol_of value_of
s_met k f = (s_8 k f).met

c_kept : (k : Secrets) → AreFresh k → kept_in (cs k) (c_talk k) ≡ Some (key_of ann k.ann_key, Some k.ann_password)
unfolding protocol_of value_of
c_kept k f =
    kept_behind (c_says k) (give (alone.proved (of k)) ∷ get ∷ heard (4 ∷ alone.both (of k)) ∷ []) (client_found (of k) ++ client_chosen) tt
    ∙ kept_found (c_says k) (key_of ann k.ann_key) (Some k.ann_password) (asked_talk k) (asks_key k) (asks_tickets k) (c_5 k f).needs (c_6 k f).needs refl refl

s_kept : (k : Secrets) → AreFresh k → kept_in (ss k) (s_talk k) ≡ Some (key_of srv k.srv_key, Some k.srv_password)
unfolding protocol_of value_of
s_kept k f =
    kept_behind (s_says k) (get ∷ give (alone.shown (of k)) ∷ get ∷ give (word_bytes k.client) ∷ []) (server_found (of k) ++ server_chosen) tt
    ∙ kept_found (s_says k) (key_of srv k.srv_key) (Some k.srv_password) server_chosen (own_key k) Nothing (s_3 k).needs (s_4 k f).needs refl refl

c_is : (k : Secrets) → AreFresh k → IsConversation (spoken k conv_c) (acts_of conv_c (login k))
c_is k f = record { may = c_may k f; talk = c_talk k; met = c_met k f; kept = c_kept k f; later = []; left = c_left k f }

s_is : (k : Secrets) → AreFresh k → IsConversation (spoken k conv_s) (acts_of conv_s (login k))
s_is k f = record { may = s_may k f; talk = s_talk k; met = s_met k f; kept = s_kept k f; later = []; left = s_left k f }

pub conversations : (k : Secrets) → AreFresh k → (name : List ℕ) → IsConversation (spoken k name) (acts_of name (login k))
conversations k f name = elim (cases_Bool (bytes_eq conv_c name)) [
  | inl is ↦ subst (λ (n : List ℕ). IsConversation (spoken k n) (acts_of n (login k))) ((bytes_eq-Decides conv_c name).0 is) (c_is k f)
  | inr isnt ↦ elim (cases_Bool (bytes_eq conv_s name)) [
    | inl is ↦ subst (λ (n : List ℕ). IsConversation (spoken k n) (acts_of n (login k))) ((bytes_eq-Decides conv_s name).0 is) (s_is k f)
    | inr nobody ↦ rw (isnt, nobody) refl
  ]
]

-- ---- the session

-- whatever tables may come later
abbrev with_tables : Secrets → List Tables → Setting
with_tables k more = record { spoken = spoken k; dom = codes "x"; tables = tables k ∷ more }

abbrev known : Secrets → List Tables → ℕ → Knowledge
known k more = known_at (with_tables k more)

abbrev question : Secrets → List ℕ
question k = request_text (alone.question (of k))

abbrev asks_once : Secrets → Came
asks_once k = record { tables = 0; request = question k; words = words k }

question_read : (k : Secrets) → AreFresh k → request_of (question k) ≡ Ok (alone.question (of k))
question_read k f = request_read (alone.question (of k)) (alone.fits_question (of k) (may k f))

never_wrong : (k : Secrets) → AreFresh k → (more : List Tables) → is_over (known k more) (asks_once k ∷ []) ≡ false
never_wrong k f more = ap (λ r. nat_le 5 (0 + wrong_by (known k more 0) (asked_so (question k) (words k)) None r)) (question_read k f)

answer_comes : (k : Secrets) → AreFresh k → (more : List Tables) → answer (known k more) [] (asks_once k) ≡ 4 ∷ alone.both (of k)
answer_comes k f more = alone.grant_is (of k) (may k f) ∙ alone.tickets_are (of k)

three : (k : Secrets) → AreFresh k → All (IsBlock 8) (words k)
three k f = All-cons (IsBlock 8) (word_bytes k.first) (word_bytes k.second ∷ word_bytes k.third ∷ []) (block_8 k.first f.first) (All-cons (IsBlock 8) (word_bytes k.second) (word_bytes k.third ∷ []) (block_8 k.second f.second) (All-cons (IsBlock 8) (word_bytes k.third) [] (block_8 k.third f.third) (All-nil (IsBlock 8))))

comes_once : (k : Secrets) → AreFresh k → (more : List Tables) → MayCome (known k more) [] (asks_once k)
unfolding request_text
comes_once k f more = let long = length_request (alone.question (of k)) (alone.fits_question (of k) (may k f)) in
    record { goes_on = refl; some = omega (arith, long); long = long; three = refl; words = three k f }

r_left : (k : Secrets) → AreFresh k → (more : List Tables) → session_deals (known k more) (asks_once k ∷ []) ≡ deals_of session_r (login k)
unfolding request_text ticket_text role_of value_of
r_left k f more =
    ap (λ (over : Bool). ends_by over ++ (replied (answer (known k more) [] (asks_once k)) ∷ requested 0 (question k) (words k) ∷ [])) (never_wrong k f more)
    ∙ ap (λ (a : List ℕ). replied a ∷ requested 0 (question k) (words k) ∷ []) (answer_comes k f more)

r_is : (k : Secrets) → AreFresh k → (more : List Tables) → IsServed (known k more) (deals_of session_r (login k))
r_is k f more = record { requests = asks_once k ∷ []; session = (comes_once k f more, tt); later = []; left = r_left k f more }

nobody_asks : (k : Secrets) (more : List Tables) → IsServed (known k more) []
nobody_asks k more = record { requests = []; session = tt; later = []; left = refl }

pub sessions : (k : Secrets) → AreFresh k → (more : List Tables) → (name : List ℕ) → IsServed (known k more) (deals_of name (login k))
sessions k f more name = elim (cases_Bool (bytes_eq session_r name)) [
  | inl is ↦ subst (λ (n : List ℕ). IsServed (known k more) (deals_of n (login k))) ((bytes_eq-Decides session_r name).0 is) (r_is k f more)
  | inr isnt ↦ rw isnt (nobody_asks k more)
]

-- ---- all of it

pub legal : (k : Secrets) → AreFresh k → IsLegal (login k) (login_setting k (spoken k))
legal k f = record {
  domain = fits_x.short;
  tables = refl;
  conversations = conversations k f;
  restarts = λ name. unrestarted (spoken k name) name (login k) refl;
  sessions = sessions k f [];
  numbered = (tt, (tt, (refl, (tt, (tt, (refl, (tt, (refl, (tt, (refl, (tt, (refl, (tt, (refl, (tt, (refl, (tt, (refl, (tt, (tt, tt))))))))))))))))))));
}

pub login_is_legal : LoginIsLegal
login_is_legal k f = record { legal = legal k f; clean = login_is_clean k (spoken k) f refl refl }
