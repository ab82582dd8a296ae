-- That the login by APOP is a history that a network can have: each side's talk and the session leave what the record says
-- of them.
use Rattle.std.proofs.Common.{◌≡◌, ℕ, ◌+◌, List, [], ◌∷◌, ◌++◌, length, nat_le, Bool, false, All, Some, None, Ok, refl, sym, ap, subst, ◌∙◌, inl, inr, arith, length-append}
use Rattle.std.proofs.lemmas.Bool.{cases_Bool}
use Rattle.std.proofs.lemmas.List.Elements.{All-cons, All-nil}
use Rattle.std.proofs.lemmas.Slice.Eq.{bytes_eq-Decides}
use Rattle.std.specs.Fmt.{digits}
use Rattle.std.specs.Str.{bytes_eq, is_utf8, chars}
use lib.Utf8.{encode}
use Rattle.wire_base.specs.Texts.{is_text}
use Rattle.sealing.specs.Fitting.{IsBlock}
use Rattle.hex.specs.Hex.{encode_with}
use Rattle.attr_tuples.specs.Matching.{value_of}
use Rattle.sealing.specs.Authenticator.{authenticator_text}
use Rattle.sealing.specs.Request.{request_of, request_text}
use Rattle.sealing.specs.Ticket.{ticket_text}
use Rattle.auth_server.specs.Requests.{Asked, asked_so, kind_of, needed}
use Rattle.auth_server.specs.Answers.{Knowledge, challenge_answer, challenge_at, wrong_by}
use Rattle.roles.specs.declared.answer.Cause.TheVariants.{BadKey}
use Rattle.roles.specs.declared.answer.Gave.{Gave}
use Rattle.roles.specs.declared.answer.Gave.TheVariants as g
use Rattle.roles.specs.declared.need.Need.{Need}
use Rattle.roles.specs.declared.need.Need.TheVariants.{Nothing, Key}
use Rattle.roles.specs.declared.need.Outcome.{Outcome}
use Rattle.roles.specs.declared.need.Outcome.TheVariants.{Running, Finished}
use Rattle.roles.specs.Courses.{accepted as accepts_as}
use Rattle.roles.specs.Starts.{Start}
use Rattle.roles.specs.Talks.{Call, give, get, found, heard}
use Rattle.conv_challenge.specs.declared.stage.Stage.{Stage}
use Rattle.conv_challenge.specs.declared.stage.Stage.TheVariants as m
use Rattle.conv_challenge.specs.Clients.{digits_by}
use Rattle.conv_challenge.specs.Courses.{need_after, need_at, need_of, outcome_after, outcome_at, outcome_of}
use Rattle.conv_challenge.specs.Starts.{asked_by_client, asked_by_server, proto_of, side_of, start_fault}
use Rattle.talks.specs.Protocols.{Mail, protocol_of}
use Rattle.complete_logins.specs.MailLogins.{MailLogin, MayMail}
use Rattle.complete_logins.proofs.MessageLemmas.{length_request, request_read}
use Rattle.complete_logins.proofs.MailLaws as alone
use Rattle.complete_logins.proofs.DigitLemmas.{length_digits}
use Rattle.wire_histories.specs.Histories.{Act, Deal, started, gave, took, asked, answered, accepted, requested, replied, acts_of, deals_of}
use Rattle.wire_histories.specs.declared.step.Protocol.TheVariants.{Apop}
use Rattle.wire_histories.specs.declared.step.Role.TheVariants.{Client as Clients, Server as Serves}
use Rattle.wire_histories.specs.Conversations.{Speaker, speaks, kept_in, talk_acts, met_in}
use Rattle.wire_histories.specs.Sessions.{Came, IsLong, MayCome, answer, ends_by, held, is_over, session_deals}
use Rattle.wire_histories.specs.Legal.{IsConversation, IsLegal, IsMet, IsServed, MayBe, known_at}
use Rattle.clean_runs.specs.Login.{ann, conv_c, conv_s, key_of, session_r, srv, word_bytes}
use Rattle.clean_runs.specs.MailLogin.{Secrets, challenge_bytes, checked_bytes, digits as login_digits, first_words, given_bytes, login, mail_key, request_bytes, setting, spoken, spoken_c, spoken_s, then_words, vouch_bytes}
use Rattle.clean_runs.specs.ExampleStatements.{AreFreshInMail, MailLoginIsLegal}
use Rattle.wire_histories.proofs.RestartLemmas.{unrestarted}
use Rattle.clean_runs.proofs.ActLemmas as talk
use Rattle.clean_runs.proofs.Kept.{last_found, mail_keeps}
use Rattle.clean_runs.proofs.MailClean.{mail_login_is_clean}
use Rattle.clean_runs.proofs.MailOf.{block_7, block_8, fits_ann, fits_none, fits_srv, fits_x, may, of}

-- ---- the moves, with the messages written out

abbrev given : MailLogin → List ℕ
given l = challenge_answer (alone.challenge l)

server_1 : (l : MailLogin) → MayMail l → alone.Passes l.server [] (found l.server_key l.server_password) (m.ServerAsk l.server_key) g.Wait []
server_1 l may = alone.passes_by l.server [] (found l.server_key l.server_password) m.ServerKey (m.ServerAsk l.server_key) g.Wait [] (alone.server_0 l may) refl

abbrev asked_talk : MailLogin → List Call
asked_talk l = found l.server_key l.server_password ∷ []

server_2 : (l : MailLogin) → MayMail l → alone.Passes l.server (asked_talk l) (heard (given l)) (m.ServerFirst l.server_key (alone.challenge l)) g.Ok []
server_2 l may = alone.passes_by l.server (asked_talk l) (heard (given l)) (m.ServerAsk l.server_key) (m.ServerFirst l.server_key (alone.challenge l)) g.Ok [] (server_1 l may).course (alone.hears_challenge l may (given l) (alone.spelled (alone.challenge l)))

abbrev heard_talk : MailLogin → List Call
heard_talk l = heard (given l) ∷ asked_talk l

server_3 : (l : MailLogin) → MayMail l → alone.Passes l.server (heard_talk l) get (m.ServerSecond l.server_key (alone.challenge l)) g.Ok (alone.challenge l)
server_3 l may = alone.passes_by l.server (heard_talk l) get (m.ServerFirst l.server_key (alone.challenge l)) (m.ServerSecond l.server_key (alone.challenge l)) g.Ok (alone.challenge l) (server_2 l may).course refl

server_4 : (l : MailLogin) → MayMail l → alone.Passes l.server (get ∷ heard_talk l) (give l.user) (m.ServerThird l.server_key (alone.challenge l) l.user) g.Ok []
server_4 l may = alone.passes_by l.server (get ∷ heard_talk l) (give l.user) (m.ServerSecond l.server_key (alone.challenge l)) (m.ServerThird l.server_key (alone.challenge l) l.user) g.Ok [] (server_3 l may).course (alone.names_user l may)

server_5 : (l : MailLogin) → MayMail l → alone.Passes l.server (give l.user ∷ get ∷ heard_talk l) (give (alone.digits l)) (m.ServerVouch l.server_key (alone.challenge l) l.user (alone.digits l)) g.Wait []
server_5 l may = alone.passes_by l.server (give l.user ∷ get ∷ heard_talk l) (give (alone.digits l)) (m.ServerThird l.server_key (alone.challenge l) l.user) (m.ServerVouch l.server_key (alone.challenge l) l.user (alone.digits l)) g.Wait [] (server_4 l may).course (alone.answers_it l may (alone.digits l) (ap (λ p. digits_by p (alone.challenge l) l.password) (sym may.same_proto)))

abbrev checked_talk : MailLogin → List Call
checked_talk l = give (alone.digits l) ∷ give l.user ∷ get ∷ heard_talk l

server_6 : (l : MailLogin) → MayMail l → alone.Passes l.server (checked_talk l) (heard (4 ∷ alone.both l)) (m.ServerDone l.server_key (alone.challenge l) l.user (alone.digits l) (alone.both l)) g.Ok []
server_6 l may = alone.passes_by l.server (checked_talk l) (heard (4 ∷ alone.both l)) (m.ServerVouch l.server_key (alone.challenge l) l.user (alone.digits l)) (m.ServerDone l.server_key (alone.challenge l) l.user (alone.digits l) (alone.both l)) g.Ok [] (server_5 l may).course (alone.hears_vouch l may (4 ∷ alone.both l) refl)

client_1 : (l : MailLogin) → MayMail l → alone.Passes l.client [] (give (alone.challenge l)) (m.ClientKey (alone.challenge l)) g.Wait []
client_1 l may = alone.passes_by l.client [] (give (alone.challenge l)) m.ClientFirst (m.ClientKey (alone.challenge l)) g.Wait [] (alone.client_0 l may) (alone.is_challenged l may (alone.challenge l) refl)

abbrev challenged : MailLogin → List Call
challenged l = give (alone.challenge l) ∷ []

client_2 : (l : MailLogin) → MayMail l → alone.Passes l.client (challenged l) (found l.client_key (Some l.password)) (m.ClientSecond (alone.challenge l) l.password) g.Ok []
client_2 l may = alone.passes_by l.client (challenged l) (found l.client_key (Some l.password)) (m.ClientKey (alone.challenge l)) (m.ClientSecond (alone.challenge l) l.password) g.Ok [] (client_1 l may).course refl

abbrev keyed : MailLogin → List Call
keyed l = found l.client_key (Some l.password) ∷ challenged l

abbrev own_digits : MailLogin → List ℕ
own_digits l = digits_by (proto_of l.client.template) (alone.challenge l) l.password

client_3 : (l : MailLogin) → MayMail l → alone.Passes l.client (keyed l) get (m.ClientDone (alone.challenge l) l.password) g.Ok (own_digits l)
client_3 l may = alone.passes_by l.client (keyed l) get (m.ClientSecond (alone.challenge l) l.password) (m.ClientDone (alone.challenge l) l.password) g.Ok (own_digits l) (client_2 l may).course refl

-- how it ends and what is needed behind a call that passes
ends_by_passing : (start : Start) (before : List Call) (call : Call) (next : Stage) (answer : Gave) (bytes : List ℕ) → alone.Passes start before call next answer bytes → outcome_after start (call ∷ before) ≡ outcome_of next
ends_by_passing start before call next answer bytes passed = ap outcome_at passed.course

needs_by_passing : (start : Start) (before : List Call) (call : Call) (next : Stage) (answer : Gave) (bytes : List ℕ) → alone.Passes start before call next answer bytes → need_after start (call ∷ before) ≡ need_of start next
needs_by_passing start before call next answer bytes passed = ap (need_at start) passed.course

-- ---- what each talk leaves

abbrev server_first : MailLogin → Act
server_first l = started Apop Serves l.server.word

abbrev client_first : MailLogin → Act
client_first l = started Apop Clients l.client.word

abbrev serves : MailLogin → Speaker
serves l = speaks Mail l.server

abbrev calls : MailLogin → Speaker
calls l = speaks Mail l.client

abbrev wants_key : MailLogin → Need
wants_key l = Key (asked_by_server l.server)

abbrev wants_password : MailLogin → Need
wants_password l = Key (asked_by_client l.client)

abbrev found_srv : MailLogin → List Call
found_srv l = found l.server_key l.server_password ∷ []

abbrev found_ann : MailLogin → List Call
found_ann l = found l.client_key (Some l.password) ∷ []

s_0 : (l : MailLogin) → MayMail l → talk.Leaves (serves l) (server_first l) [] Running (wants_key l) (server_first l) [] []
s_0 l may = talk.begins (serves l) (server_first l) Running (wants_key l) (ap outcome_at (alone.server_0 l may)) (ap (need_at l.server) (alone.server_0 l may))

abbrev asks_first : MailLogin → Need
asks_first l = need_of l.server (m.ServerAsk l.server_key)

abbrev s_acts_1 : MailLogin → List Act
s_acts_1 l = asked (alone.first_request l) ∷ server_first l ∷ []

s_1 : (l : MailLogin) → MayMail l → talk.Leaves (serves l) (server_first l) (asked_talk l) Running (asks_first l) (server_first l) (s_acts_1 l) (found_srv l)
s_1 l may =
    let next = m.ServerAsk l.server_key in
    let call = found l.server_key l.server_password in
    talk.finds (serves l) (server_first l) [] l.server_key l.server_password Running Running (wants_key l) (asks_first l) (server_first l) [] [] (s_0 l may)
    (ends_by_passing l.server [] call next g.Wait [] (server_1 l may)) (needs_by_passing l.server [] call next g.Wait [] (server_1 l may))

abbrev s_acts_2 : MailLogin → List Act
s_acts_2 l = answered (given l) ∷ s_acts_1 l

s_2 : (l : MailLogin) → MayMail l → talk.Leaves (serves l) (server_first l) (heard_talk l) Running Nothing (server_first l) (s_acts_2 l) (found_srv l)
s_2 l may =
    let next = m.ServerFirst l.server_key (alone.challenge l) in
    talk.hears (serves l) (server_first l) (asked_talk l) (given l) Running Running (asks_first l) Nothing (server_first l) (s_acts_1 l) (found_srv l) (s_1 l may)
    (ends_by_passing l.server (asked_talk l) (heard (given l)) next g.Ok [] (server_2 l may)) (needs_by_passing l.server (asked_talk l) (heard (given l)) next g.Ok [] (server_2 l may))

abbrev s_acts_3 : MailLogin → List Act
s_acts_3 l = gave (alone.challenge l) ∷ s_acts_2 l

s_3 : (l : MailLogin) → MayMail l → talk.Leaves (serves l) (server_first l) (get ∷ heard_talk l) Running Nothing (server_first l) (s_acts_3 l) (found_srv l)
s_3 l may =
    let next = m.ServerSecond l.server_key (alone.challenge l) in
    talk.gets (serves l) (server_first l) (heard_talk l) (alone.challenge l) Running Running Nothing Nothing g.Ok (server_first l) (s_acts_2 l) (found_srv l) (s_2 l may)
    (ends_by_passing l.server (heard_talk l) get next g.Ok (alone.challenge l) (server_3 l may)) (needs_by_passing l.server (heard_talk l) get next g.Ok (alone.challenge l) (server_3 l may)) (server_3 l may).answer (server_3 l may).puts

abbrev s_acts_4 : MailLogin → List Act
s_acts_4 l = took l.user ∷ s_acts_3 l

s_4 : (l : MailLogin) → MayMail l → talk.Leaves (serves l) (server_first l) (give l.user ∷ get ∷ heard_talk l) Running Nothing (took l.user) (s_acts_4 l) (found_srv l)
s_4 l may =
    let next = m.ServerThird l.server_key (alone.challenge l) l.user in
    let before = get ∷ heard_talk l in
    talk.gives (serves l) (server_first l) before l.user Running Running Nothing Nothing g.Ok (server_first l) (s_acts_3 l) (found_srv l) (s_3 l may)
    (ends_by_passing l.server before (give l.user) next g.Ok [] (server_4 l may)) (needs_by_passing l.server before (give l.user) next g.Ok [] (server_4 l may)) (server_4 l may).answer

abbrev asks_then : MailLogin → Need
asks_then l = need_of l.server (m.ServerVouch l.server_key (alone.challenge l) l.user (alone.digits l))

abbrev s_acts_5 : MailLogin → List Act
s_acts_5 l = asked (alone.then_request l) ∷ took (alone.digits l) ∷ s_acts_4 l

s_5 : (l : MailLogin) → MayMail l → talk.Leaves (serves l) (server_first l) (checked_talk l) Running (asks_then l) (took (alone.digits l)) (s_acts_5 l) (found_srv l)
s_5 l may =
    let next = m.ServerVouch l.server_key (alone.challenge l) l.user (alone.digits l) in
    let before = give l.user ∷ get ∷ heard_talk l in
    talk.gives (serves l) (server_first l) before (alone.digits l) Running Running Nothing (asks_then l) g.Wait (took l.user) (s_acts_4 l) (found_srv l) (s_4 l may)
    (ends_by_passing l.server before (give (alone.digits l)) next g.Wait [] (server_5 l may)) (needs_by_passing l.server before (give (alone.digits l)) next g.Wait [] (server_5 l may)) (server_5 l may).answer

abbrev accepts : MailLogin → Outcome
accepts l = accepts_as BadKey (Ok (alone.ticket l))

abbrev s_talk : MailLogin → List Call
s_talk l = heard (4 ∷ alone.both l) ∷ checked_talk l

abbrev s_acts : MailLogin → List Act
s_acts l = accepted l.user l.user ∷ answered (4 ∷ alone.both l) ∷ s_acts_5 l

s_6 : (l : MailLogin) → MayMail l → talk.Leaves (serves l) (server_first l) (s_talk l) (accepts l) Nothing (took (alone.digits l)) (s_acts l) (found_srv l)
s_6 l may =
    let next = m.ServerDone l.server_key (alone.challenge l) l.user (alone.digits l) (alone.both l) in
    let call = heard (4 ∷ alone.both l) in
    talk.hears (serves l) (server_first l) (checked_talk l) (4 ∷ alone.both l) Running (accepts l) (asks_then l) Nothing (took (alone.digits l)) (s_acts_5 l) (found_srv l) (s_5 l may)
    (ends_by_passing l.server (checked_talk l) call next g.Ok [] (server_6 l may) ∙ ap (accepts_as BadKey) (alone.opens l may)) (needs_by_passing l.server (checked_talk l) call next g.Ok [] (server_6 l may))

c_0 : (l : MailLogin) → MayMail l → talk.Leaves (calls l) (client_first l) [] Running Nothing (client_first l) (client_first l ∷ []) []
c_0 l may = talk.begins (calls l) (client_first l) Running Nothing (ap outcome_at (alone.client_0 l may)) (ap (need_at l.client) (alone.client_0 l may))

c_1 : (l : MailLogin) → MayMail l → talk.Leaves (calls l) (client_first l) (challenged l) Running (wants_password l) (took (alone.challenge l)) (client_first l ∷ []) []
c_1 l may =
    let next = m.ClientKey (alone.challenge l) in
    let call = give (alone.challenge l) in
    talk.gives (calls l) (client_first l) [] (alone.challenge l) Running Running Nothing (wants_password l) g.Wait (client_first l) (client_first l ∷ []) [] (c_0 l may)
    (ends_by_passing l.client [] call next g.Wait [] (client_1 l may)) (needs_by_passing l.client [] call next g.Wait [] (client_1 l may)) (client_1 l may).answer

abbrev c_acts_2 : MailLogin → List Act
c_acts_2 l = took (alone.challenge l) ∷ client_first l ∷ []

c_2 : (l : MailLogin) → MayMail l → talk.Leaves (calls l) (client_first l) (keyed l) Running Nothing (took (alone.challenge l)) (c_acts_2 l) (found_ann l)
c_2 l may =
    let next = m.ClientSecond (alone.challenge l) l.password in
    let call = found l.client_key (Some l.password) in
    talk.finds (calls l) (client_first l) (challenged l) l.client_key (Some l.password) Running Running (wants_password l) Nothing (took (alone.challenge l)) (client_first l ∷ []) [] (c_1 l may)
    (ends_by_passing l.client (challenged l) call next g.Ok [] (client_2 l may)) (needs_by_passing l.client (challenged l) call next g.Ok [] (client_2 l may))

abbrev c_talk : MailLogin → List Call
c_talk l = get ∷ keyed l

abbrev c_acts : MailLogin → List Act
c_acts l = gave (own_digits l) ∷ c_acts_2 l

c_3 : (l : MailLogin) → MayMail l → talk.Leaves (calls l) (client_first l) (c_talk l) Finished Nothing (took (alone.challenge l)) (c_acts l) (found_ann l)
c_3 l may =
    let next = m.ClientDone (alone.challenge l) l.password in
    talk.gets (calls l) (client_first l) (keyed l) (own_digits l) Running Finished Nothing Nothing g.Ok (took (alone.challenge l)) (c_acts_2 l) (found_ann l) (c_2 l may)
    (ends_by_passing l.client (keyed l) get next g.Ok (own_digits l) (client_3 l may)) (needs_by_passing l.client (keyed l) get next g.Ok (own_digits l) (client_3 l may)) (client_3 l may).answer (client_3 l may).puts

-- ---- both are conversations of the setting

c_may : (k : Secrets) → AreFreshInMail k → MayBe (spoken_c k)
unfolding protocol_of start_fault value_of is_text is_utf8 chars encode
c_may k f = record { tuple = refl; fits = refl; starts = refl; word = block_8 k.client f.client; keys = All-cons IsMet (found (mail_key k) (Some k.ann_password)) [] (record { des = block_7 k.ann_key f.ann_key; user = fits_ann; dom = fits_none }) (All-nil IsMet) }

s_may : (k : Secrets) → AreFreshInMail k → MayBe (spoken_s k)
unfolding protocol_of start_fault value_of is_text is_utf8 chars encode
s_may k f = record { tuple = refl; fits = refl; starts = refl; word = block_8 k.server f.server; keys = All-cons IsMet (found (key_of srv k.srv_key) (Some k.srv_password)) [] (record { des = block_7 k.srv_key f.srv_key; user = fits_srv; dom = fits_x }) (All-nil IsMet) }

c_left : (k : Secrets) → AreFreshInMail k → talk_acts (of k).client (c_talk (of k)) ≡ acts_of conv_c (login k)
unfolding protocol_of proto_of side_of value_of challenge_at encode_with
c_left k f = (c_3 (of k) (may k f)).acts

-- the messages are those of the record
first_is : (k : Secrets) → alone.first_request (of k) ≡ request_bytes [] k
unfolding request_text proto_of value_of
first_is k = refl

challenge_is : (k : Secrets) → alone.challenge (of k) ≡ challenge_bytes k
unfolding challenge_at encode_with
challenge_is k = refl

given_is : (k : Secrets) → given (of k) ≡ given_bytes k
unfolding challenge_answer challenge_at encode_with digits
given_is k = refl

digits_are : (k : Secrets) → alone.digits (of k) ≡ login_digits k
unfolding challenge_at encode_with proto_of value_of
digits_are k = refl

then_is : (k : Secrets) → alone.then_request (of k) ≡ checked_bytes k
unfolding request_text challenge_at encode_with proto_of value_of
then_is k = refl

vouch_is : (k : Secrets) → 4 ∷ alone.both (of k) ≡ vouch_bytes k
unfolding ticket_text authenticator_text
vouch_is k = refl

abbrev s_acts_with : Secrets → List ℕ → List ℕ → List ℕ → List ℕ → List ℕ → List ℕ → List Act
s_acts_with k vouched checked answering challenge challenged asking =
    accepted ann ann ∷ answered vouched ∷ asked checked ∷ took answering ∷ took ann ∷ gave challenge ∷ answered challenged
    ∷ asked asking ∷ started Apop Serves (word_bytes k.server) ∷ []

s_acts_are : (k : Secrets) → s_acts (of k) ≡ acts_of conv_s (login k)
s_acts_are k =
    ap (λ (b : List ℕ). s_acts_with k b (alone.then_request (of k)) (alone.digits (of k)) (alone.challenge (of k)) (given (of k)) (alone.first_request (of k))) (vouch_is k)
    ∙ ap (λ (b : List ℕ). s_acts_with k (vouch_bytes k) b (alone.digits (of k)) (alone.challenge (of k)) (given (of k)) (alone.first_request (of k))) (then_is k)
    ∙ ap (λ (b : List ℕ). s_acts_with k (vouch_bytes k) (checked_bytes k) b (alone.challenge (of k)) (given (of k)) (alone.first_request (of k))) (digits_are k)
    ∙ ap (λ (b : List ℕ). s_acts_with k (vouch_bytes k) (checked_bytes k) (login_digits k) b (given (of k)) (alone.first_request (of k))) (challenge_is k)
    ∙ ap (λ (b : List ℕ). s_acts_with k (vouch_bytes k) (checked_bytes k) (login_digits k) (challenge_bytes k) b (alone.first_request (of k))) (given_is k)
    ∙ ap (λ (b : List ℕ). s_acts_with k (vouch_bytes k) (checked_bytes k) (login_digits k) (challenge_bytes k) (given_bytes k) b) (first_is k)

s_left : (k : Secrets) → AreFreshInMail k → talk_acts (of k).server (s_talk (of k)) ≡ acts_of conv_s (login k)
unfolding protocol_of proto_of side_of value_of
s_left k f = (s_6 (of k) (may k f)).acts ∙ s_acts_are k

c_met : (k : Secrets) → AreFreshInMail k → met_in (of k).client (c_talk (of k)) ≡ found_ann (of k)
unfolding protocol_of value_of
c_met k f = (c_3 (of k) (may k f)).met

s_met : (k : Secrets) → AreFreshInMail k → met_in (of k).server (s_talk (of k)) ≡ found_srv (of k)
unfolding protocol_of value_of
s_met k f = (s_6 (of k) (may k f)).met

c_kept : (k : Secrets) → AreFreshInMail k → kept_in (of k).client (c_talk (of k)) ≡ Some (mail_key k, Some k.ann_password)
unfolding protocol_of value_of
c_kept k f = mail_keeps (of k).client (c_talk (of k)) ∙ ap last_found (c_3 (of k) (may k f)).met

s_kept : (k : Secrets) → AreFreshInMail k → kept_in (of k).server (s_talk (of k)) ≡ Some (key_of srv k.srv_key, Some k.srv_password)
unfolding protocol_of value_of
s_kept k f = mail_keeps (of k).server (s_talk (of k)) ∙ ap last_found (s_6 (of k) (may k f)).met

c_is : (k : Secrets) → AreFreshInMail k → IsConversation (spoken k conv_c) (acts_of conv_c (login k))
c_is k f = record { may = c_may k f; talk = c_talk (of k); met = c_met k f; kept = c_kept k f; later = []; left = c_left k f }

s_is : (k : Secrets) → AreFreshInMail k → IsConversation (spoken k conv_s) (acts_of conv_s (login k))
s_is k f = record { may = s_may k f; talk = s_talk (of k); met = s_met k f; kept = s_kept k f; later = []; left = s_left k f }

conversations : (k : Secrets) → AreFreshInMail k → (name : List ℕ) → IsConversation (spoken k name) (acts_of name (login k))
conversations k f name = elim (cases_Bool (bytes_eq conv_c name)) [
  | inl is ↦ subst (λ (n : List ℕ). IsConversation (spoken k n) (acts_of n (login k))) ((bytes_eq-Decides conv_c name).0 is) (c_is k f)
  | inr isnt ↦ elim (cases_Bool (bytes_eq conv_s name)) [
    | inl is ↦ subst (λ (n : List ℕ). IsConversation (spoken k n) (acts_of n (login k))) ((bytes_eq-Decides conv_s name).0 is) (s_is k f)
    | inr nobody ↦ rw (isnt, nobody) refl
  ]
]

-- ---- the session

abbrev known : Secrets → ℕ → Knowledge
known k = known_at (setting k)

abbrev asks_challenge : Secrets → Came
asks_challenge k = record { tables = 0; request = alone.first_request (of k); words = first_words k }

abbrev asks_vouch : Secrets → Came
asks_vouch k = record { tables = 0; request = alone.then_request (of k); words = then_words k }

-- as they are put to the authentication server
abbrev puts_first : Secrets → Asked
puts_first k = asked_so (alone.first_request (of k)) (first_words k)

abbrev puts_then : Secrets → Asked
puts_then k = asked_so (alone.then_request (of k)) (then_words k)

first_read : (k : Secrets) → AreFreshInMail k → request_of (alone.first_request (of k)) ≡ Ok (alone.request_about [] (of k))
first_read k f = request_read (alone.request_about [] (of k)) (alone.fits_first (of k) (may k f))

-- neither is a wrong answer
first_counts : (k : Secrets) → AreFreshInMail k → wrong_by (known k 0) (puts_first k) None (request_of (alone.first_request (of k))) ≡ 0
unfolding proto_of value_of
first_counts k f = ap (wrong_by (known k 0) (puts_first k) None) (first_read k f)

then_counts : (k : Secrets) → AreFreshInMail k → wrong_by (known k 0) (puts_then k) (held (known k) (asks_challenge k ∷ [])) (request_of (alone.then_request (of k))) ≡ 0
unfolding proto_of value_of
then_counts k f =
    ap (wrong_by (known k 0) (puts_then k) (held (known k) (asks_challenge k ∷ []))) (alone.then_read (of k) (may k f))
    ∙ ap (λ h. wrong_by (known k 0) (puts_then k) h (Ok (alone.request_about ann (of k)))) (alone.held_is (of k) (may k f))
    ∙ rw (alone.right (of k) (may k f)) refl

goes_on : (k : Secrets) → AreFreshInMail k → is_over (known k) (asks_challenge k ∷ []) ≡ false
goes_on k f = ap (λ n. nat_le 5 (0 + n)) (first_counts k f)

never_over : (k : Secrets) → AreFreshInMail k → is_over (known k) (asks_vouch k ∷ asks_challenge k ∷ []) ≡ false
never_over k f =
    ap (λ n. nat_le 5 (0 + n + wrong_by (known k 0) (puts_then k) (held (known k) (asks_challenge k ∷ [])) (request_of (alone.then_request (of k))))) (first_counts k f)
    ∙ ap (λ n. nat_le 5 (0 + 0 + n)) (then_counts k f)

challenge_comes : (k : Secrets) → AreFreshInMail k → answer (known k) [] (asks_challenge k) ≡ given (of k)
challenge_comes k f = alone.first_answer (of k) (may k f)

vouch_comes : (k : Secrets) → AreFreshInMail k → answer (known k) (asks_challenge k ∷ []) (asks_vouch k) ≡ 4 ∷ alone.both (of k)
vouch_comes k f = alone.vouch_is (of k) (may k f) ∙ alone.vouch_spelled (of k) (may k f)

three : (a b c : List ℕ) → IsBlock 8 a → IsBlock 8 b → IsBlock 8 c → All (IsBlock 8) (a ∷ b ∷ c ∷ [])
three a b c of_a of_b of_c = All-cons (IsBlock 8) a (b ∷ c ∷ []) of_a (All-cons (IsBlock 8) b (c ∷ []) of_b (All-cons (IsBlock 8) c [] of_c (All-nil (IsBlock 8))))

comes_first : (k : Secrets) → AreFreshInMail k → MayCome (known k) [] (asks_challenge k)
unfolding request_text proto_of value_of
comes_first k f =
    let long = length_request (alone.request_about [] (of k)) (alone.fits_first (of k) (may k f)) in
    record { goes_on = refl; some = omega (arith, long); long = long; three = refl; words = three (word_bytes k.first) (word_bytes k.second) (word_bytes k.third) (block_8 k.first f.first) (block_8 k.second f.second) (block_8 k.third f.third) }

-- behind a challenge that is held 32 digits are wanted behind a request
wanted : (k : Secrets) → AreFreshInMail k → IsLong (needed (held (known k) (asks_challenge k ∷ [])) (kind_of (alone.then_request (of k)))) (length (alone.then_request (of k)))
unfolding request_text proto_of value_of
wanted k f =
    let front = length_request (alone.request_about ann (of k)) (alone.fits_then (of k) (may k f)) in
    let long = length_digits (alone.proto (of k)) (alone.challenge (of k)) k.ann_password in
    let size : length (alone.then_request (of k)) ≡ 173 = omega (arith, front, long, length-append (request_text (alone.request_about ann (of k))) (alone.digits (of k))) in
    subst (λ h. IsLong (needed h (kind_of (alone.then_request (of k)))) (length (alone.then_request (of k)))) (sym (alone.held_is (of k) (may k f))) size

comes_then : (k : Secrets) → AreFreshInMail k → MayCome (known k) (asks_challenge k ∷ []) (asks_vouch k)
unfolding request_text proto_of value_of
comes_then k f =
    let front = length_request (alone.request_about ann (of k)) (alone.fits_then (of k) (may k f)) in
    record {
      goes_on = goes_on k f;
      some = omega (arith, front, length-append (request_text (alone.request_about ann (of k))) (alone.digits (of k)));
      long = wanted k f;
      three = refl;
      words = three (word_bytes k.fourth) (word_bytes k.fifth) (word_bytes k.sixth) (block_8 k.fourth f.fourth) (block_8 k.fifth f.fifth) (block_8 k.sixth f.sixth);
    }

-- what each request leaves, by what is known of its answer and of the end
abbrev then_left : Secrets → Bool → Bool → List ℕ → List ℕ → List Deal
then_left k over once vouched challenged =
    ends_by over ++ (replied vouched ∷ requested 0 (alone.then_request (of k)) (then_words k)
    ∷ (ends_by once ++ (replied challenged ∷ requested 0 (alone.first_request (of k)) (first_words k) ∷ [])))

abbrev deals_with : Secrets → List ℕ → List ℕ → List ℕ → List ℕ → List Deal
deals_with k vouched checked challenged asking =
    replied vouched ∷ requested 0 checked (then_words k) ∷ replied challenged ∷ requested 0 asking (first_words k) ∷ []

deals_are : (k : Secrets) → deals_with k (4 ∷ alone.both (of k)) (alone.then_request (of k)) (given (of k)) (alone.first_request (of k)) ≡ deals_of session_r (login k)
deals_are k =
    ap (λ (b : List ℕ). deals_with k b (alone.then_request (of k)) (given (of k)) (alone.first_request (of k))) (vouch_is k)
    ∙ ap (λ (b : List ℕ). deals_with k (vouch_bytes k) b (given (of k)) (alone.first_request (of k))) (then_is k)
    ∙ ap (λ (b : List ℕ). deals_with k (vouch_bytes k) (checked_bytes k) b (alone.first_request (of k))) (given_is k)
    ∙ ap (λ (b : List ℕ). deals_with k (vouch_bytes k) (checked_bytes k) (given_bytes k) b) (first_is k)

r_left : (k : Secrets) → AreFreshInMail k → session_deals (known k) (asks_vouch k ∷ asks_challenge k ∷ []) ≡ deals_of session_r (login k)
unfolding request_text proto_of value_of
r_left k f =
    ap (λ (over : Bool). then_left k over (is_over (known k) (asks_challenge k ∷ [])) (answer (known k) (asks_challenge k ∷ []) (asks_vouch k)) (answer (known k) [] (asks_challenge k))) (never_over k f)
    ∙ ap (λ (once : Bool). then_left k false once (answer (known k) (asks_challenge k ∷ []) (asks_vouch k)) (answer (known k) [] (asks_challenge k))) (goes_on k f)
    ∙ ap (λ (vouched : List ℕ). then_left k false false vouched (answer (known k) [] (asks_challenge k))) (vouch_comes k f)
    ∙ ap (λ (challenged : List ℕ). then_left k false false (4 ∷ alone.both (of k)) challenged) (challenge_comes k f)
    ∙ deals_are k

r_is : (k : Secrets) → AreFreshInMail k → IsServed (known k) (deals_of session_r (login k))
r_is k f = record { requests = asks_vouch k ∷ asks_challenge k ∷ []; session = (comes_then k f, (comes_first k f, tt)); later = []; left = r_left k f }

nobody_asks : (k : Secrets) → IsServed (known k) []
nobody_asks k = record { requests = []; session = tt; later = []; left = refl }

sessions : (k : Secrets) → AreFreshInMail k → (name : List ℕ) → IsServed (known k) (deals_of name (login k))
sessions k f name = elim (cases_Bool (bytes_eq session_r name)) [
  | inl is ↦ subst (λ (n : List ℕ). IsServed (known k) (deals_of n (login k))) ((bytes_eq-Decides session_r name).0 is) (r_is k f)
  | inr isnt ↦ rw isnt (nobody_asks k)
]

-- ---- all of it

legal : (k : Secrets) → AreFreshInMail k → IsLegal (login k) (setting k)
legal k f = record {
  domain = fits_x.short;
  tables = refl;
  conversations = conversations k f;
  restarts = λ name. unrestarted (spoken k name) name (login k) refl;
  sessions = sessions k f;
  numbered = (tt, (tt, (refl, (tt, (refl, (tt, (tt, (refl, (tt, (tt, (refl, (tt, (refl, (tt, (refl, (tt, tt))))))))))))))));
}

pub mail_login_is_legal : MailLoginIsLegal
mail_login_is_legal k f = record { legal = legal k f; clean = mail_login_is_clean k f }
