-- A mail server's acts are the moves of a symbolic mail server: it asks for a challenge and hears it, gives it on, takes a user
-- and his digits, asks whether they are right, hears a ticket and an authenticator, and accepts.
use Rattle.std.proofs.Common.{◌≡◌, ℕ, List, [], ◌∷◌, ◌++◌, All, append-nil, length, take, drop, Option, Some, None, Bool, false, Ok, if◌then◌else◌, refl, sym, ap, subst, ◌∙◌, arith}
use Rattle.std.proofs.lemmas.List.{take_at, drop_at}
use Rattle.std.proofs.lemmas.List.Elements.{All-head}
use Rattle.sealing.specs.Sealing.{opened as opened_bytes, sealed}
use Rattle.sealing.proofs.SealLaws.{length-sealed, sealed_undone}
use Rattle.wire_base.specs.Names.{IsName}
use Rattle.sealing.specs.Fitting.{FitsRequest}
use Rattle.sealing.specs.Ticket.{ticket_of}
use Rattle.sealing.specs.declared.request.TicketReq.{TicketReq}
use Rattle.sealing.specs.declared.ticket.Ticket.{Ticket}
use Rattle.symbolic_runs.specs.declared.kind.MacKind.{MacKind}
use Rattle.symbolic_runs.specs.Trees.{Tree, same_tree, nonce, long_key, seal, none, piece, plain}
use Rattle.symbolic_runs.specs.Spellings.{Atoms, atom_bytes, bytes_of, spelling}
use Rattle.roles.specs.declared.key.SkKey.{SkKey}
use Rattle.roles.specs.Starts.{Start, role_of}
use Rattle.roles.specs.Talks.{Call, found}
use Rattle.roles.specs.Tickets.{ticket_part}
use Rattle.roles.proofs.StartLemmas.{nobody_is_name}
use Rattle.conv_challenge.specs.declared.stage.Proto.{Proto}
use Rattle.conv_challenge.specs.declared.stage.Proto.TheVariants.{Apop, Cram}
use Rattle.conv_challenge.specs.declared.stage.Side.TheVariants.{Server}
use Rattle.conv_challenge.specs.Servers.{challenge_question, request_about, request_kind, vouch_question}
use Rattle.conv_challenge.specs.Starts.{proto_of, side_of}
use Rattle.talks.specs.Protocols.{Mail, protocol_of}
use Rattle.talks.specs.Lines.{cause_text}
use Rattle.wire_histories.specs.declared.step.Role.TheVariants as part
use Rattle.symbolic_runs.specs.Forms.{by_client, for_server, mail_request, Fields, authenticator, name_text, pair, request, ticket, vouch}
use Rattle.symbolic_runs.specs.Gifts.{bytes, next_gift, opened, part as piece_of}
use Rattle.symbolic_runs.specs.Moves.{Role, mail_server, Move, takes, hears, gives, asks, accepts, fails, Own, Row, mail_question, mail_answer, mail_challenge_on, mail_user, mail_digest, mail_second_question, mail_second_answer, mail_accepts}
use Rattle.symbolic_runs.proofs.GiftLaws.{computed}
use Rattle.wire_histories.specs.Histories.{Act, started, gave, took, asked, answered, unanswered, accepted, failed}
use Rattle.wire_histories.specs.Conversations.{acts_from, mail_protocol, met_by, protocol_as, role_as, side_as, speaks, started_by}
use Rattle.wire_histories.specs.Legal.{IsMet, IsRingKey, IsTalk, Spoken}
use Rattle.clean_runs.specs.Labels.{Labelled}
use Rattle.clean_runs.specs.Runs.{acts_in, if_some, is_choosing, moves_by, moves_for, names_in, role_by, takes_now}
use Rattle.clean_runs.specs.Forms.{IsChallenge, IsFormed, IsPlain, IsVouch}
use Rattle.clean_runs.specs.Clean.{GivesBytes, HoldsBytes, ReadsKept, ReadsWord}
use Rattle.clean_runs.proofs.Begun.{BeginsWith}
use Rattle.clean_runs.proofs.Bytes.{opened_names, request_before_is_spelled, request_is_spelled, ticket_long, ticket_spells, ticket_with, tree_bytes}
use Rattle.clean_runs.proofs.Follows.{CleanActs, Follows, IsFollowed, IsLawful, IsOrderlyTalk, accepts_it, as_follows, asks_it, fails_so, gives_it, hears_it, hears_none, known_act, moves_next, one_act, own_by, role_in, takes_it, takes_none}
use Rattle.clean_runs.proofs.Kept.{ReadsMet, mail_kept}
use Rattle.clean_runs.proofs.MailClientLaw.{kind_of}
use Rattle.clean_runs.proofs.MailServers.{IsVouched, Stands, accepted_acts, asked_acts, asking, deceived, denied, digits_acts, done, given_acts, handing, heard_acts, named, named_acts, ready, seeking, stands, unnamed, vouch_acts, vouched_acts, vouching}
use Rattle.clean_runs.proofs.SkClientLaw.{was_true}
use Rattle.clean_runs.proofs.SkClients.{Instead, by_answer, by_no_room, by_none, instead}
use Rattle.clean_runs.proofs.SkServerLaw.{ok_same}
use Rattle.clean_runs.proofs.SkServers.{Told, at_once, told}
use Rattle.clean_runs.proofs.Spelled.{all_parts, all_spell, seal_parts}
use Rattle.clean_runs.proofs.Steps.{goes_on, is_start, taken_by}

-- a mail server's start
pub record IsMailServer (start : Start) : Type 0 where
  pub mail : protocol_of start.template ≡ Mail
  pub server : side_of start.template ≡ Server

abbrev pub first : Start → Act
first start = started (mail_protocol (proto_of start.template)) part.Server start.word

first_is : (start : Start) → IsMailServer start → started_by start ≡ first start
first_is start is = ap (λ p. started (protocol_as p (proto_of start.template)) (role_as p (role_of start.template) (side_of start.template)) start.word) is.mail ∙ ap (λ s. started (mail_protocol (proto_of start.template)) (side_as s) start.word) is.server

role_is : (proto : Proto) → role_by (mail_protocol proto) part.Server ≡ mail_server (kind_of proto)
unfolding kind_of
role_is Apop = refl
role_is Cram = refl

kind_is : (proto : Proto) → mail_request (kind_of proto) ≡ request_kind proto ∷ []
unfolding kind_of
kind_is Apop = refl
kind_is Cram = refl

-- ---- what may come next

abbrev askeds : Start → SkKey → List Act
askeds start key = asked_acts start (first start) key

abbrev heards : Start → SkKey → List ℕ → List Act
heards start key a = heard_acts start (first start) key a

abbrev givens : Start → SkKey → List ℕ → List Act
givens start key a = given_acts start (first start) key a

abbrev nameds : Start → SkKey → List ℕ → List ℕ → List Act
nameds start key a u = named_acts start (first start) key a u

abbrev digitses : Start → SkKey → List ℕ → List ℕ → List ℕ → List Act
digitses start key a u r = digits_acts start (first start) key a u r

abbrev vouchings : Start → SkKey → List ℕ → List ℕ → List ℕ → List Act
vouchings start key a u r = vouch_acts start (first start) key a u r

abbrev voucheds : Start → SkKey → List ℕ → List ℕ → List ℕ → List ℕ → List Act
voucheds start key a u r v = vouched_acts start (first start) key a u r v

abbrev accepteds : Start → SkKey → List ℕ → List ℕ → List ℕ → List ℕ → Ticket → List Act
accepteds start key a u r v t = accepted_acts start (first start) key a u r v t

data Next (start : Start) (met : List Call) : Act → List Act → Type 0 where
  it_starts : Next start met (first start) []
  it_asks : (key : SkKey) (secret : Option (List ℕ)) → met ≡ found key secret ∷ [] → Next start met (asked (challenge_question start key)) (first start ∷ [])
  it_hears : (key : SkKey) (a : List ℕ) → Next start met (answered a) (askeds start key)
  it_hears_none : (key : SkKey) → Next start met unanswered (askeds start key)
  it_is_denied : (key : SkKey) (i : Instead) (cause : List ℕ) → Next start met (failed cause) (instead i ++ askeds start key)
  it_gives : (key : SkKey) (a : List ℕ) → Next start met (gave (drop 6 a)) (heards start key a)
  it_takes_user : (key : SkKey) (a u : List ℕ) → Next start met (took u) (givens start key a)
  it_refuses : (key : SkKey) (a u cause : List ℕ) → Next start met (failed cause) (nameds start key a u)
  it_takes_digits : (key : SkKey) (a u r : List ℕ) → Next start met (took r) (nameds start key a u)
  it_asks_again : (key : SkKey) (secret : Option (List ℕ)) (a u r : List ℕ) → met ≡ found key secret ∷ [] → IsName 28 u → Next start met (asked (vouch_question start key u r)) (digitses start key a u r)
  it_hears_again : (key : SkKey) (a u r v : List ℕ) → Next start met (answered v) (vouchings start key a u r)
  it_hears_none_again : (key : SkKey) (a u r : List ℕ) → Next start met unanswered (vouchings start key a u r)
  it_is_deceived : (key : SkKey) (a u r : List ℕ) (i : Instead) (cause : List ℕ) → Next start met (failed cause) (instead i ++ vouchings start key a u r)
  it_accepts : (key : SkKey) (secret : Option (List ℕ)) (a u r v : List ℕ) (t : Ticket) → met ≡ found key secret ∷ [] → IsVouched key u v t → Next start met (accepted t.cuid t.suid) (voucheds start key a u r v)
  it_is_told : {acts : List Act} (key : SkKey) (a u r v : List ℕ) (t : Ticket) (more : List ℕ) → Told (accepteds start key a u r v t) acts → Next start met (took more) acts

abbrev AllNext : Start → List Call → List Act → Type 0
AllNext start met [] = Unit {0}
AllNext start met (act ∷ acts) = Next start met act acts × AllNext start met acts

front : (start : Start) (met : List Call) (later acts : List Act) → AllNext start met (later ++ acts) → AllNext start met acts
front start met [] acts all = all
front start met (act ∷ later) acts all = front start met later acts all.1

asked_next : (start : Start) (met : List Call) (key : SkKey) (secret : Option (List ℕ)) → met ≡ found key secret ∷ [] → AllNext start met (askeds start key)
asked_next start met key secret has = (it_asks key secret has, (it_starts, tt))

heard_next : (start : Start) (met : List Call) (key : SkKey) (secret : Option (List ℕ)) (a : List ℕ) → met ≡ found key secret ∷ [] → AllNext start met (heards start key a)
heard_next start met key secret a has = (it_hears key a, asked_next start met key secret has)

given_next : (start : Start) (met : List Call) (key : SkKey) (secret : Option (List ℕ)) (a : List ℕ) → met ≡ found key secret ∷ [] → AllNext start met (givens start key a)
given_next start met key secret a has = (it_gives key a, heard_next start met key secret a has)

named_next : (start : Start) (met : List Call) (key : SkKey) (secret : Option (List ℕ)) (a u : List ℕ) → met ≡ found key secret ∷ [] → AllNext start met (nameds start key a u)
named_next start met key secret a u has = (it_takes_user key a u, given_next start met key secret a has)

vouch_next : (start : Start) (met : List Call) (key : SkKey) (secret : Option (List ℕ)) (a u r : List ℕ) → met ≡ found key secret ∷ [] → IsName 28 u → AllNext start met (vouchings start key a u r)
vouch_next start met key secret a u r has name = (it_asks_again key secret a u r has name, (it_takes_digits key a u r, named_next start met key secret a u has))

vouched_next : (start : Start) (met : List Call) (key : SkKey) (secret : Option (List ℕ)) (a u r v : List ℕ) → met ≡ found key secret ∷ [] → IsName 28 u → AllNext start met (voucheds start key a u r v)
vouched_next start met key secret a u r v has name = (it_hears_again key a u r v, vouch_next start met key secret a u r has name)

told_next : (start : Start) (met : List Call) (key : SkKey) (secret : Option (List ℕ)) (a u r v : List ℕ) (t : Ticket) (acts : List Act) → met ≡ found key secret ∷ [] → IsName 28 u → IsVouched key u v t → Told (accepteds start key a u r v t) acts → AllNext start met acts
told_next start met key secret a u r v t acts has name vouched at_once = (it_accepts key secret a u r v t has vouched, vouched_next start met key secret a u r v has name)
told_next start met key secret a u r v t acts has name vouched (told {acts = earlier} more rest) = (it_is_told key a u r v t more rest, told_next start met key secret a u r v t earlier has name vouched rest)

denied_next : (start : Start) (met : List Call) (key : SkKey) (secret : Option (List ℕ)) (i : Instead) → met ≡ found key secret ∷ [] → AllNext start met (instead i ++ askeds start key)
denied_next start met key secret (by_answer a) has = heard_next start met key secret a has
denied_next start met key secret by_none has = (it_hears_none key, asked_next start met key secret has)
denied_next start met key secret by_no_room has = asked_next start met key secret has

deceived_next : (start : Start) (met : List Call) (key : SkKey) (secret : Option (List ℕ)) (a u r : List ℕ) (i : Instead) → met ≡ found key secret ∷ [] → IsName 28 u → AllNext start met (instead i ++ vouchings start key a u r)
deceived_next start met key secret a u r (by_answer v) has name = vouched_next start met key secret a u r v has name
deceived_next start met key secret a u r by_none has name = (it_hears_none_again key a u r, vouch_next start met key secret a u r has name)
deceived_next start met key secret a u r by_no_room has name = vouch_next start met key secret a u r has name

abbrev Acts : Start → List Call → List Act
Acts start talk = acts_from (speaks Mail start) (first start) talk

abbrev Met : Start → List Call → List Call
Met start talk = met_by (speaks Mail start) talk

all_next : (start : Start) (talk : List Call) → Stands start (first start) talk → AllNext start (Met start talk) (Acts start talk)
all_next start talk (seeking here waited) = subst (AllNext start (Met start talk)) (sym here.left) tt
all_next start talk (asking key secret here) = subst (AllNext start (Met start talk)) (sym here.left) (asked_next start (Met start talk) key secret here.has)
all_next start talk (denied key secret i cause here) = subst (AllNext start (Met start talk)) (sym here.left) (it_is_denied key i (cause_text cause), denied_next start (Met start talk) key secret i here.has)
all_next start talk (ready key secret a here) = subst (AllNext start (Met start talk)) (sym here.left) (heard_next start (Met start talk) key secret a here.has)
all_next start talk (handing key secret a here) = subst (AllNext start (Met start talk)) (sym here.left) (given_next start (Met start talk) key secret a here.has)
all_next start talk (unnamed key secret a u cause here) = subst (AllNext start (Met start talk)) (sym here.left) (it_refuses key a u (cause_text cause), named_next start (Met start talk) key secret a u here.has)
all_next start talk (named key secret a u name here) = subst (AllNext start (Met start talk)) (sym here.left) (named_next start (Met start talk) key secret a u here.has)
all_next start talk (vouching key secret a u r name here) = subst (AllNext start (Met start talk)) (sym here.left) (vouch_next start (Met start talk) key secret a u r here.has name)
all_next start talk (deceived key secret a u r i cause name here) = subst (AllNext start (Met start talk)) (sym here.left) (it_is_deceived key a u r i (cause_text cause), deceived_next start (Met start talk) key secret a u r i here.has name)
all_next start talk (done key secret a u r v t xs name vouched behind here) = subst (AllNext start (Met start talk)) (sym here.left) (told_next start (Met start talk) key secret a u r v t xs here.has name vouched behind)

nexts : (spoken : Spoken) → IsMailServer spoken.start → (acts : List Act) → IsTalk spoken acts → AllNext spoken.start spoken.met acts
nexts spoken is acts t =
    let start = spoken.start in
    let mets : Met start t.talk ≡ spoken.met = sym (ap (λ p. met_by (speaks p start) t.talk) is.mail) ∙ t.met in
    let left : Acts start t.talk ≡ t.later ++ acts = sym (ap (λ p. acts_from (speaks p start) (started_by start) t.talk) is.mail ∙ ap (λ f. acts_from (speaks Mail start) f t.talk) (first_is start is)) ∙ t.left in
    front start spoken.met t.later acts (subst (AllNext start spoken.met) left (subst (λ m. AllNext start m (Acts start t.talk)) mets (all_next start t.talk (stands start (first start) is.server t.talk))))

-- ---- they begin with the start

told_begins : (start : Start) (key : SkKey) (a u r v : List ℕ) (t : Ticket) (more : List ℕ) (acts : List Act) → Told (accepteds start key a u r v t) acts → BeginsWith (first start) (took more ∷ acts)
told_begins start key a u r v t more acts at_once = (refl, (refl, (refl, (refl, (refl, (refl, (refl, (refl, (refl, refl)))))))))
told_begins start key a u r v t more acts (told {acts = earlier} other rest) = (refl, told_begins start key a u r v t other earlier rest)

denied_begins : (start : Start) (key : SkKey) (i : Instead) (cause : List ℕ) → BeginsWith (first start) (failed cause ∷ (instead i ++ askeds start key))
denied_begins start key (by_answer a) cause = (refl, (refl, (refl, refl)))
denied_begins start key by_none cause = (refl, (refl, (refl, refl)))
denied_begins start key by_no_room cause = (refl, (refl, refl))

deceived_begins : (start : Start) (key : SkKey) (a u r : List ℕ) (i : Instead) (cause : List ℕ) → BeginsWith (first start) (failed cause ∷ (instead i ++ vouchings start key a u r))
deceived_begins start key a u r (by_answer v) cause = (refl, (refl, (refl, (refl, (refl, (refl, (refl, (refl, refl))))))))
deceived_begins start key a u r by_none cause = (refl, (refl, (refl, (refl, (refl, (refl, (refl, (refl, refl))))))))
deceived_begins start key a u r by_no_room cause = (refl, (refl, (refl, (refl, (refl, (refl, (refl, refl)))))))

begins_with : (start : Start) (met : List Call) (act : Act) (acts : List Act) → Next start met act acts → BeginsWith (first start) (act ∷ acts)
begins_with start met act acts it_starts = refl
begins_with start met act acts (it_asks key secret has) = (refl, refl)
begins_with start met act acts (it_hears key a) = (refl, (refl, refl))
begins_with start met act acts (it_hears_none key) = (refl, (refl, refl))
begins_with start met act acts (it_is_denied key i cause) = denied_begins start key i cause
begins_with start met act acts (it_gives key a) = (refl, (refl, (refl, refl)))
begins_with start met act acts (it_takes_user key a u) = (refl, (refl, (refl, (refl, refl))))
begins_with start met act acts (it_refuses key a u cause) = (refl, (refl, (refl, (refl, (refl, refl)))))
begins_with start met act acts (it_takes_digits key a u r) = (refl, (refl, (refl, (refl, (refl, refl)))))
begins_with start met act acts (it_asks_again key secret a u r has name) = (refl, (refl, (refl, (refl, (refl, (refl, refl))))))
begins_with start met act acts (it_hears_again key a u r v) = (refl, (refl, (refl, (refl, (refl, (refl, (refl, refl)))))))
begins_with start met act acts (it_hears_none_again key a u r) = (refl, (refl, (refl, (refl, (refl, (refl, (refl, refl)))))))
begins_with start met act acts (it_is_deceived key a u r i cause) = deceived_begins start key a u r i cause
begins_with start met act acts (it_accepts key secret a u r v t has vouched) = (refl, (refl, (refl, (refl, (refl, (refl, (refl, (refl, refl))))))))
begins_with start met act acts (it_is_told key a u r v t more rest) = told_begins start key a u r v t more acts rest

orderly : (spoken : Spoken) → IsMailServer spoken.start → IsOrderlyTalk spoken
orderly spoken is act acts t = subst (λ f. BeginsWith f (act ∷ acts)) (sym (first_is spoken.start is)) (begins_with spoken.start spoken.met act acts (nexts spoken is (act ∷ acts) t).0)

-- ---- what is computed

abbrev first_label : Own → MacKind → List ℕ → Tree
first_label own kind q = request (mail_request kind) (names_in q) own.word

abbrev second_label : Own → MacKind → List ℕ → Tree → Tree
second_label own kind q r = pair (request (mail_request kind) (names_in q) own.word) r

challenge_row : (own : Own) (kind : MacKind) (q a : Tree) → IsChallenge a → Row own (mail_server kind) (hears a ∷ asks q ∷ []) (gives (piece_of a 1))
challenge_row own kind q a form = subst (λ a. Row own (mail_server kind) (hears a ∷ asks q ∷ []) (gives (piece_of a 1))) (sym form.is) (mail_challenge_on {kind = kind} {q = q} {t = form.chal} {head = form.head} form.six)

challenge_gift : (own : Own) (kind : MacKind) (q a : Tree) (names : Fields) → IsChallenge a → next_gift own (mail_server kind) (hears a ∷ asks q ∷ []) names ≡ Some (gives (piece_of a 1))
challenge_gift own kind q a names form =
    subst (λ a. next_gift own (mail_server kind) (hears a ∷ asks q ∷ []) names ≡ Some (gives (piece_of a 1))) (sym form.is)
    (computed own (mail_server kind) (hears (pair (plain form.head) form.chal) ∷ asks q ∷ []) (gives form.chal) (mail_challenge_on {kind = kind} {q = q} {t = form.chal} {head = form.head} form.six) refl).1

second_row : (own : Own) (kind : MacKind) (q a c u r : Tree) (text : List ℕ) → IsPlain u → Row own (mail_server kind) (takes r ∷ takes u ∷ gives c ∷ hears a ∷ asks q ∷ []) (asks (second_label own kind text r))
second_row own kind q a c u r text form = subst (λ u. Row own (mail_server kind) (takes r ∷ takes u ∷ gives c ∷ hears a ∷ asks q ∷ []) (asks (second_label own kind text r))) (sym form.is) (mail_second_question {kind = kind} {q = q} {a = a} {t = c} {r = r} {user = form.bytes} (names_in text))

second_gift : (own : Own) (kind : MacKind) (q a c u r : Tree) (text : List ℕ) → IsPlain u → next_gift own (mail_server kind) (takes r ∷ takes u ∷ gives c ∷ hears a ∷ asks q ∷ []) (names_in text) ≡ Some (asks (second_label own kind text r))
second_gift own kind q a c u r text form =
    let P = plain form.bytes in
    let made = computed own (mail_server kind) (takes r ∷ takes P ∷ gives c ∷ hears a ∷ asks q ∷ []) (asks (second_label own kind text r)) (mail_second_question {kind = kind} {q = q} {a = a} {t = c} {r = r} {user = form.bytes} (names_in text)) refl in
    let test = same_tree P (plain (bytes P)) in
    subst (λ u. next_gift own (mail_server kind) (takes r ∷ takes u ∷ gives c ∷ hears a ∷ asks q ∷ []) (names_in text) ≡ Some (asks (second_label own kind text r))) (sym form.is)
    (ap (λ (b : Bool). if b then Some (asks (second_label own kind text r)) else None) (was_true test (asks (pair (request (mail_request kind) made.0 own.word) r)) (asks (second_label own kind text r)) made.1))

digest_row : (own : Own) (kind : MacKind) (q a c u r : Tree) → IsPlain u → Row own (mail_server kind) (takes u ∷ gives c ∷ hears a ∷ asks q ∷ []) (takes r)
digest_row own kind q a c u r form = subst (λ u. Row own (mail_server kind) (takes u ∷ gives c ∷ hears a ∷ asks q ∷ []) (takes r)) (sym form.is) (mail_digest {kind = kind} {q = q} {a = a} {t = c} {r = r} {user = form.bytes})

second_answer_row : (own : Own) (kind : MacKind) (q a c u r s v : Tree) → IsPlain u → Row own (mail_server kind) (asks s ∷ takes r ∷ takes u ∷ gives c ∷ hears a ∷ asks q ∷ []) (hears v)
second_answer_row own kind q a c u r s v form = subst (λ u. Row own (mail_server kind) (asks s ∷ takes r ∷ takes u ∷ gives c ∷ hears a ∷ asks q ∷ []) (hears v)) (sym form.is) (mail_second_answer {kind = kind} {q = q} {a = a} {t = c} {r = r} {u = v} {v = s} {user = form.bytes})

accepts_row : (own : Own) (kind : MacKind) (q a c u r v : Tree) (text : List ℕ) → (name : IsPlain u) → (form : IsVouch own v) → name_text form.cuid ≡ name.bytes → name_text form.suid ≡ name.bytes → Row own (mail_server kind) (hears v ∷ asks (second_label own kind text r) ∷ takes r ∷ takes u ∷ gives c ∷ hears a ∷ asks q ∷ []) (accepts (bytes (piece_of (opened v) 3)))
accepts_row own kind q a c u r v text name form cuid suid =
    subst (λ v. Row own (mail_server kind) (hears v ∷ asks (second_label own kind text r) ∷ takes r ∷ takes u ∷ gives c ∷ hears a ∷ asks q ∷ []) (accepts (bytes (piece_of (opened v) 3)))) (sym form.is)
    (subst (λ u. Row own (mail_server kind) (hears (vouch (seal own.key (ticket for_server own.word form.cuid form.suid form.key)) (seal form.key (authenticator by_client own.word))) ∷ asks (second_label own kind text r) ∷ takes r ∷ takes u ∷ gives c ∷ hears a ∷ asks q ∷ []) (accepts form.suid)) (sym name.is)
    (mail_accepts {kind = kind} {q = q} {a = a} {t = c} {r = r} {key = form.key} {user = name.bytes} {cuid = form.cuid} {suid = form.suid} (names_in text) form.names cuid suid))

-- ---- the moves behind each act

-- p9any isn't spoken
not_choosing : (proto : Proto) (word q : List ℕ) → (is_choosing (started (mail_protocol proto) part.Server word ∷ []) ≡ false) × (is_choosing (asked q ∷ started (mail_protocol proto) part.Server word ∷ []) ≡ false)
not_choosing Apop word q = (refl, refl)
not_choosing Cram word q = (refl, refl)

at_start : (start : Start) (own : Own) (kind : MacKind) (before : List Labelled) → acts_in before ≡ first start ∷ [] → (moves_by own (mail_server kind) before ≡ []) × (is_choosing (acts_in before) ≡ false)
at_start start own kind before is =
    let a = one_act before (first start) is in
    (ap (moves_by own (mail_server kind)) a.1 ∙ ap (λ act. moves_for own (mail_server kind) false [] act a.0.label ++ []) a.2, ap is_choosing is ∙ (not_choosing (proto_of start.template) start.word []).0)

at_asked : (atoms : Atoms) (start : Start) (own : Own) (kind : MacKind) (key : SkKey) (before : List Labelled) → acts_in before ≡ askeds start key → CleanActs atoms own (mail_server kind) before → (moves_by own (mail_server kind) before ≡ asks (first_label own kind (challenge_question start key)) ∷ []) × (is_choosing (acts_in before) ≡ false)
at_asked atoms start own kind key before is clean =
    let q = challenge_question start key in
    let p = known_act atoms own (mail_server kind) before (asked q) (first start ∷ []) is clean in
    let s = at_start start own kind p.more p.rest in
    (moves_next own (mail_server kind) before p.more p.a [] false (asked q) (asks (first_label own kind q) ∷ []) p.front s.0 s.1 p.act_is refl, ap is_choosing is ∙ (not_choosing (proto_of start.template) start.word q).1)

pub record HeardIt (atoms : Atoms) (own : Own) (kind : MacKind) (q a : List ℕ) (before : List Labelled) : Type 0 where
  pub answer : Tree
  pub moves : moves_by own (mail_server kind) before ≡ hears answer ∷ asks (first_label own kind q) ∷ []
  pub choosing : is_choosing (acts_in before) ≡ false
  pub spells : spelling atoms answer ≡ Ok a

at_heard : (atoms : Atoms) (start : Start) (own : Own) (kind : MacKind) (key : SkKey) (a : List ℕ) (before : List Labelled) → acts_in before ≡ heards start key a → CleanActs atoms own (mail_server kind) before → HeardIt atoms own kind (challenge_question start key) a before
at_heard atoms start own kind key a before is clean =
    let q = challenge_question start key in
    let p = known_act atoms own (mail_server kind) before (answered a) (askeds start key) is clean in
    let s = at_asked atoms start own kind key p.more p.rest p.clean_rest in
    record {
      answer = p.a.label;
      moves = moves_next own (mail_server kind) before p.more p.a (asks (first_label own kind q) ∷ []) false (answered a) (hears p.a.label ∷ []) p.front s.0 s.1 p.act_is refl;
      choosing = ap is_choosing is;
      spells = p.clean.spells a (ap taken_by p.act_is);
    }

-- the moves up to the challenge
abbrev handed : Own → MacKind → List ℕ → Tree → List Move
handed own kind q answer = gives (piece_of answer 1) ∷ hears answer ∷ asks (first_label own kind q) ∷ []

pub record GivenIt (own : Own) (kind : MacKind) (q : List ℕ) (before : List Labelled) : Type 0 where
  pub answer : Tree
  pub moves : moves_by own (mail_server kind) before ≡ handed own kind q answer
  pub choosing : is_choosing (acts_in before) ≡ false

at_given : (atoms : Atoms) (start : Start) (own : Own) (kind : MacKind) (key : SkKey) (a : List ℕ) (before : List Labelled) → acts_in before ≡ givens start key a → CleanActs atoms own (mail_server kind) before → GivenIt own kind (challenge_question start key) before
at_given atoms start own kind key a before is clean =
    let q = challenge_question start key in
    let p = known_act atoms own (mail_server kind) before (gave (drop 6 a)) (heards start key a) is clean in
    let s = at_heard atoms start own kind key a p.more p.rest p.clean_rest in
    let form : IsChallenge s.answer = subst (IsFormed atoms own (mail_server kind)) s.moves (p.clean.formed (ap goes_on p.act_is)) in
    record {
      answer = s.answer;
      moves = moves_next own (mail_server kind) before p.more p.a (hears s.answer ∷ asks (first_label own kind q) ∷ []) false (gave (drop 6 a)) (gives (piece_of s.answer 1) ∷ []) p.front s.moves s.choosing p.act_is (ap if_some (challenge_gift own kind (first_label own kind q) s.answer (names_in (drop 6 a)) form));
      choosing = ap is_choosing is;
    }

pub record NamedIt (atoms : Atoms) (own : Own) (kind : MacKind) (q u : List ℕ) (before : List Labelled) : Type 0 where
  pub answer : Tree
  pub user : Tree
  pub moves : moves_by own (mail_server kind) before ≡ takes user ∷ handed own kind q answer
  pub choosing : is_choosing (acts_in before) ≡ false
  pub spells : spelling atoms user ≡ Ok u

at_named : (atoms : Atoms) (start : Start) (own : Own) (kind : MacKind) (key : SkKey) (a u : List ℕ) (before : List Labelled) → acts_in before ≡ nameds start key a u → CleanActs atoms own (mail_server kind) before → NamedIt atoms own kind (challenge_question start key) u before
at_named atoms start own kind key a u before is clean =
    let p = known_act atoms own (mail_server kind) before (took u) (givens start key a) is clean in
    let s = at_given atoms start own kind key a p.more p.rest p.clean_rest in
    record {
      answer = s.answer;
      user = p.a.label;
      moves = moves_next own (mail_server kind) before p.more p.a (handed own kind (challenge_question start key) s.answer) false (took u) (takes p.a.label ∷ []) p.front s.moves s.choosing p.act_is refl;
      choosing = ap is_choosing is;
      spells = p.clean.spells u (ap taken_by p.act_is);
    }

pub record DigitsIt (atoms : Atoms) (own : Own) (kind : MacKind) (q u r : List ℕ) (before : List Labelled) : Type 0 where
  pub answer : Tree
  pub user : Tree
  pub digits : Tree
  pub form : IsPlain user
  pub moves : moves_by own (mail_server kind) before ≡ takes digits ∷ takes user ∷ handed own kind q answer
  pub choosing : is_choosing (acts_in before) ≡ false
  pub spells : spelling atoms user ≡ Ok u
  pub shown : spelling atoms digits ≡ Ok r

at_digits : (atoms : Atoms) (start : Start) (own : Own) (kind : MacKind) (key : SkKey) (a u r : List ℕ) (before : List Labelled) → acts_in before ≡ digitses start key a u r → CleanActs atoms own (mail_server kind) before → DigitsIt atoms own kind (challenge_question start key) u r before
at_digits atoms start own kind key a u r before is clean =
    let p = known_act atoms own (mail_server kind) before (took r) (nameds start key a u) is clean in
    let s = at_named atoms start own kind key a u p.more p.rest p.clean_rest in
    let form : IsPlain s.user = subst (IsFormed atoms own (mail_server kind)) s.moves (p.clean.formed (ap goes_on p.act_is)) in
    record {
      answer = s.answer;
      user = s.user;
      digits = p.a.label;
      form = form;
      moves = moves_next own (mail_server kind) before p.more p.a (takes s.user ∷ handed own kind (challenge_question start key) s.answer) false (took r) (takes p.a.label ∷ []) p.front s.moves s.choosing p.act_is refl;
      choosing = ap is_choosing is;
      spells = s.spells;
      shown = p.clean.spells r (ap taken_by p.act_is);
    }

-- the moves up to the second question
abbrev questioned : Own → MacKind → List ℕ → List ℕ → Tree → Tree → Tree → List Move
questioned own kind q s answer user digits = asks (second_label own kind s digits) ∷ takes digits ∷ takes user ∷ handed own kind q answer

pub record VouchingIt (atoms : Atoms) (own : Own) (kind : MacKind) (q s u : List ℕ) (before : List Labelled) : Type 0 where
  pub answer : Tree
  pub user : Tree
  pub digits : Tree
  pub form : IsPlain user
  pub moves : moves_by own (mail_server kind) before ≡ questioned own kind q s answer user digits
  pub choosing : is_choosing (acts_in before) ≡ false
  pub spells : spelling atoms user ≡ Ok u

at_vouching : (atoms : Atoms) (start : Start) (own : Own) (kind : MacKind) (key : SkKey) (a u r : List ℕ) (before : List Labelled) → acts_in before ≡ vouchings start key a u r → CleanActs atoms own (mail_server kind) before → VouchingIt atoms own kind (challenge_question start key) (vouch_question start key u r) u before
at_vouching atoms start own kind key a u r before is clean =
    let q = challenge_question start key in
    let s = vouch_question start key u r in
    let p = known_act atoms own (mail_server kind) before (asked s) (digitses start key a u r) is clean in
    let d = at_digits atoms start own kind key a u r p.more p.rest p.clean_rest in
    record {
      answer = d.answer;
      user = d.user;
      digits = d.digits;
      form = d.form;
      moves = moves_next own (mail_server kind) before p.more p.a (takes d.digits ∷ takes d.user ∷ handed own kind q d.answer) false (asked s) (asks (second_label own kind s d.digits) ∷ []) p.front d.moves d.choosing p.act_is (ap if_some (second_gift own kind (first_label own kind q) d.answer (piece_of d.answer 1) d.user d.digits s d.form));
      choosing = ap is_choosing is;
      spells = d.spells;
    }

pub record VouchedIt (atoms : Atoms) (own : Own) (kind : MacKind) (q s u v : List ℕ) (before : List Labelled) : Type 0 where
  pub answer : Tree
  pub user : Tree
  pub digits : Tree
  pub form : IsPlain user
  pub vouched : Tree
  pub moves : moves_by own (mail_server kind) before ≡ hears vouched ∷ questioned own kind q s answer user digits
  pub choosing : is_choosing (acts_in before) ≡ false
  pub spells : spelling atoms user ≡ Ok u
  pub shown : spelling atoms vouched ≡ Ok v
  pub holds : HoldsBytes vouched

at_vouched : (atoms : Atoms) (start : Start) (own : Own) (kind : MacKind) (key : SkKey) (a u r v : List ℕ) (before : List Labelled) → acts_in before ≡ voucheds start key a u r v → CleanActs atoms own (mail_server kind) before → VouchedIt atoms own kind (challenge_question start key) (vouch_question start key u r) u v before
at_vouched atoms start own kind key a u r v before is clean =
    let q = challenge_question start key in
    let s = vouch_question start key u r in
    let p = known_act atoms own (mail_server kind) before (answered v) (vouchings start key a u r) is clean in
    let d = at_vouching atoms start own kind key a u r p.more p.rest p.clean_rest in
    record {
      answer = d.answer;
      user = d.user;
      digits = d.digits;
      form = d.form;
      vouched = p.a.label;
      moves = moves_next own (mail_server kind) before p.more p.a (questioned own kind q s d.answer d.user d.digits) false (answered v) (hears p.a.label ∷ []) p.front d.moves d.choosing p.act_is refl;
      choosing = ap is_choosing is;
      spells = d.spells;
      shown = p.clean.spells v (ap taken_by p.act_is);
      holds = p.clean.of_bytes v (ap taken_by p.act_is);
    }

-- behind its last move
pub record Ended (own : Own) (kind : MacKind) (before : List Labelled) : Type 0 where
  pub done_so : List Move
  pub moves : moves_by own (mail_server kind) before ≡ done_so
  pub takes_no_more : takes_now (mail_server kind) done_so ≡ false
  pub choosing : is_choosing (acts_in before) ≡ false

told_choosing : (start : Start) (key : SkKey) (a u r v : List ℕ) (t : Ticket) (more : List ℕ) (acts : List Act) → Told (accepteds start key a u r v t) acts → is_choosing (took more ∷ acts) ≡ false
told_choosing start key a u r v t more acts at_once = refl
told_choosing start key a u r v t more acts (told c rest) = refl

takes_nothing : (own : Own) (kind : MacKind) (ms : List Move) (more : List ℕ) (label : Tree) → takes_now (mail_server kind) ms ≡ false → moves_for own (mail_server kind) false ms (took more) label ≡ []
takes_nothing own kind ms more label past = ap (λ (now : Bool). if now then takes label ∷ [] else []) past

ended_in : (atoms : Atoms) (start : Start) (own : Own) (kind : MacKind) (key : SkKey) (a u r v : List ℕ) (t : Ticket) (acts : List Act) → Told (accepteds start key a u r v t) acts → (before : List Labelled) → acts_in before ≡ acts → CleanActs atoms own (mail_server kind) before → Ended own kind before
ended_in atoms start own kind key a u r v t acts at_once before is clean =
    let q = challenge_question start key in
    let s = vouch_question start key u r in
    let p = known_act atoms own (mail_server kind) before (accepted t.cuid t.suid) (voucheds start key a u r v) is clean in
    let d = at_vouched atoms start own kind key a u r v p.more p.rest p.clean_rest in
    let field = bytes (piece_of (opened d.vouched) 3) in
    record {
      done_so = accepts field ∷ hears d.vouched ∷ questioned own kind q s d.answer d.user d.digits;
      moves = moves_next own (mail_server kind) before p.more p.a (hears d.vouched ∷ questioned own kind q s d.answer d.user d.digits) false (accepted t.cuid t.suid) (accepts field ∷ []) p.front d.moves d.choosing p.act_is refl;
      takes_no_more = refl;
      choosing = ap is_choosing is;
    }
ended_in atoms start own kind key a u r v t acts (told {acts = earlier} more rest) before is clean =
    let p = known_act atoms own (mail_server kind) before (took more) earlier is clean in
    let d = ended_in atoms start own kind key a u r v t earlier rest p.more p.rest p.clean_rest in
    record {
      done_so = d.done_so;
      moves = moves_next own (mail_server kind) before p.more p.a d.done_so false (took more) [] p.front d.moves d.choosing p.act_is (takes_nothing own kind d.done_so more p.a.label d.takes_no_more);
      takes_no_more = d.takes_no_more;
      choosing = ap is_choosing is ∙ told_choosing start key a u r v t more earlier rest;
    }

-- ---- what is spelled

challenge_spells : (atoms : Atoms) (t : Tree) (a : List ℕ) → IsChallenge t → spelling atoms t ≡ Ok a → spelling atoms (piece_of t 1) ≡ Ok (drop 6 a)
challenge_spells atoms t a form spells =
    let whole : spelling atoms (pair (plain form.head) form.chal) ≡ Ok a = subst (λ t. spelling atoms t ≡ Ok a) form.is spells in
    let p = all_parts atoms (plain form.head) (piece form.chal none) a whole in
    let p2 = all_parts atoms form.chal none p.rest p.of_rest in
    let head_is : p.front ≡ form.head = ok_same (sym p.of_front) in
    let none_is : p2.rest ≡ [] = ok_same (sym p2.of_rest) in
    let behind : drop 6 a ≡ p2.front = ap (drop 6) (p.parts ∙ ap (λ x. x ++ p.rest) head_is) ∙ drop_at form.head p.rest 6 form.six ∙ p2.parts ∙ ap (λ x. p2.front ++ x) none_is ∙ append-nil p2.front in
    ap (λ t. spelling atoms (piece_of t 1)) form.is ∙ p2.of_front ∙ ap (λ x. Ok x) (sym behind)

abbrev asks_about : Start → SkKey → List ℕ → TicketReq
asks_about start key user = record { kind = request_kind (proto_of start.template); authid = key.user; authdom = key.dom; chal = start.word; hostid = key.user; uid = user }

-- what the reading says
pub record Reading (atoms : Atoms) (start : Start) (met : List Call) (number : ℕ) (holder : List ℕ) : Type 0 where
  pub bytes : GivesBytes atoms
  pub word : bytes_of atoms (nonce number) ≡ Some start.word
  pub eight : length start.word ≡ 8
  pub keys : All IsMet met
  pub key : ReadsMet atoms (mail_server (kind_of (proto_of start.template))) holder met

the_key : (atoms : Atoms) (start : Start) (met : List Call) (number : ℕ) (holder : List ℕ) (key : SkKey) (secret : Option (List ℕ)) → Reading atoms start met number holder → met ≡ found key secret ∷ [] → IsRingKey key × (bytes_of atoms (long_key holder) ≡ Some key.des.0)
the_key atoms start met number holder key secret read has =
    let of_key : ReadsMet atoms (mail_server (kind_of (proto_of start.template))) holder (found key secret ∷ []) = subst (ReadsMet atoms (mail_server (kind_of (proto_of start.template))) holder) has read.key in
    (All-head IsMet (found key secret) [] (subst (All IsMet) has read.keys), of_key)

fits_about : (start : Start) (key : SkKey) (user : List ℕ) → length start.word ≡ 8 → IsRingKey key → IsName 28 user → FitsRequest (asks_about start key user)
fits_about start key user eight ring name = record { authid = ring.user.short; authdom = ring.dom.short; chal = eight; hostid = ring.user.short; uid = name }

first_spells : (atoms : Atoms) (start : Start) (key : SkKey) (number : ℕ) (holder : List ℕ) → length start.word ≡ 8 → IsRingKey key → bytes_of atoms (nonce number) ≡ Some start.word → spelling atoms (first_label (own_by number holder) (kind_of (proto_of start.template)) (challenge_question start key)) ≡ Ok (challenge_question start key)
first_spells atoms start key number holder eight ring word =
    ap (λ k. spelling atoms (request k (names_in (challenge_question start key)) (nonce number))) (kind_is (proto_of start.template))
    ∙ request_is_spelled atoms (asks_about start key []) (nonce number) (fits_about start key [] eight ring nobody_is_name) (ap atom_bytes word)

second_spells : (atoms : Atoms) (start : Start) (key : SkKey) (number : ℕ) (holder u r : List ℕ) (digits : Tree) → length start.word ≡ 8 → IsRingKey key → IsName 28 u → bytes_of atoms (nonce number) ≡ Some start.word → spelling atoms digits ≡ Ok r → spelling atoms (second_label (own_by number holder) (kind_of (proto_of start.template)) (vouch_question start key u r) digits) ≡ Ok (vouch_question start key u r)
second_spells atoms start key number holder u r digits eight ring name word shown =
    let text = vouch_question start key u r in
    let kind = kind_of (proto_of start.template) in
    let front : spelling atoms (request (mail_request kind) (names_in text) (nonce number)) ≡ Ok (request_about start key u) =
    ap (λ k. spelling atoms (request k (names_in text) (nonce number))) (kind_is (proto_of start.template))
    ∙ request_before_is_spelled atoms (asks_about start key u) (nonce number) r (fits_about start key u eight ring name) (ap atom_bytes word) in
    all_spell atoms (request (mail_request kind) (names_in text) (nonce number)) (piece digits none) (request_about start key u) (r ++ []) front (all_spell atoms digits none r [] shown refl)
    ∙ ap (λ x. Ok (request_about start key u ++ x)) (append-nil r)

-- the names in the ticket that vouches
vouch_names : (atoms : Atoms) → GivesBytes atoms → (number : ℕ) (holder word : List ℕ) (key : SkKey) (m : Tree) (u v : List ℕ) (t : Ticket) → bytes_of atoms (nonce number) ≡ Some word → length word ≡ 8 → bytes_of atoms (long_key holder) ≡ Some key.des.0 → (form : IsVouch (own_by number holder) m) → HoldsBytes m → spelling atoms m ≡ Ok v → IsVouched key u v t → (name_text form.cuid ≡ u) × (name_text form.suid ≡ u)
vouch_names atoms reads number holder word key m u v t of_word eight of_key form holds spells vouched =
    let T = ticket for_server (nonce number) form.cuid form.suid form.key in
    let S = seal (long_key holder) T in
    let A = authenticator by_client (nonce number) in
    let S2 = seal form.key A in
    let whole : spelling atoms (vouch S S2) ≡ Ok v = subst (λ m. spelling atoms m ≡ Ok v) form.is spells in
    let held : HoldsBytes (vouch S S2) = subst HoldsBytes form.is holds in
    let p1 = all_parts atoms (plain (4 ∷ [])) (piece S (piece S2 none)) v whole in
    let p2 = all_parts atoms S (piece S2 none) p1.rest p1.of_rest in
    let p3 = all_parts atoms S2 none p2.rest p2.of_rest in
    let s1 = seal_parts atoms (long_key holder) T p2.front p2.of_front in
    let s2 = seal_parts atoms form.key A p3.front p3.of_front in
    let body = ticket_with for_server word form.cuid form.suid s2.key in
    let of_body : spelling atoms T ≡ Ok body = ticket_spells atoms for_server form.cuid form.suid (nonce number) form.key word s2.key (ap atom_bytes of_word) s2.key_is in
    let body_is : s1.body ≡ body = ok_same (sym s1.body_is ∙ of_body) in
    let key_is : s1.key ≡ key.des.0 = ok_same (sym s1.key_is ∙ ap atom_bytes of_key) in
    let long = ticket_long 64 word form.cuid form.suid s2.key eight form.names.client_whole form.names.server_whole in
    let seven = s2.seven in
    let size : length body ≡ 72 = omega (arith, long, seven) in
    let S_is : p2.front ≡ sealed key.des.0 body = s1.is ∙ ap (λ k. sealed k s1.body) key_is ∙ ap (sealed key.des.0) body_is in
    let S_long : length (sealed key.des.0 body) ≡ 72 = length-sealed key.des.0 body (omega (arith, size)) ∙ size in
    let one : p1.front ≡ 4 ∷ [] = ok_same (sym p1.of_front) in
    let behind_one : drop 1 v ≡ sealed key.des.0 body ++ p2.rest = ap (drop 1) (p1.parts ∙ ap (λ x. x ++ p1.rest) one) ∙ p2.parts ∙ ap (λ x. x ++ p2.rest) S_is in
    let undone : opened_bytes key.des.0 (ticket_part (drop 1 v)) ≡ body = ap (λ x. opened_bytes key.des.0 (take 72 x)) behind_one ∙ ap (opened_bytes key.des.0) (take_at (sealed key.des.0 body) p2.rest 72 S_long) ∙ sealed_undone key.des.0 body (omega (arith, size)) (tree_bytes atoms reads T held.1.0.1 body of_body) in
    let names = opened_names 64 word form.cuid form.suid s2.key t eight form.names.client_whole form.names.server_whole (ap ticket_of (sym undone) ∙ vouched.opens) in
    (names.0 ∙ vouched.cuid, names.1 ∙ vouched.suid)

-- ---- each act

plain_bytes : (atoms : Atoms) (t : Tree) (u : List ℕ) → (form : IsPlain t) → spelling atoms t ≡ Ok u → u ≡ form.bytes
plain_bytes atoms t u form spells =
    let whole : spelling atoms (plain form.bytes) ≡ Ok u = subst (λ t. spelling atoms t ≡ Ok u) form.is spells in
    ok_same (sym whole)

followed_in : (start : Start) (met : List Call) (act : Act) (acts : List Act) → Next start met act acts → (atoms : Atoms) (number : ℕ) (holder : List ℕ) → Reading atoms start met number holder → (before : List Labelled) (x : Labelled) → x.act ≡ act → acts_in before ≡ acts → CleanActs atoms (own_by number holder) (mail_server (kind_of (proto_of start.template))) (x ∷ before) → is_start act ≡ false →
    Follows atoms (own_by number holder) (mail_server (kind_of (proto_of start.template))) (moves_by (own_by number holder) (mail_server (kind_of (proto_of start.template))) before) (is_choosing (acts_in before)) x.act x.label (moves_for (own_by number holder) (mail_server (kind_of (proto_of start.template))) (is_choosing (acts_in before)) (moves_by (own_by number holder) (mail_server (kind_of (proto_of start.template))) before) x.act x.label)
followed_in start met act acts it_starts atoms number holder read before x act_is acts_are clean no_start = absurd (cc)
followed_in start met act acts (it_asks key secret has) atoms number holder read before x act_is acts_are clean no_start =
    let own = own_by number holder in
    let kind = kind_of (proto_of start.template) in
    let q = challenge_question start key in
    let s = at_start start own kind before acts_are in
    let ring = (the_key atoms start met number holder key secret read has).0 in
    as_follows atoms own (mail_server kind) before x [] false (asked q) (asks (first_label own kind q) ∷ []) s.0 s.1 act_is refl
    (asks_it q (first_label own kind q) (mail_question {kind = kind} (names_in q)) (first_spells atoms start key number holder read.eight ring read.word))
followed_in start met act acts (it_hears key a) atoms number holder read before x act_is acts_are clean no_start =
    let own = own_by number holder in
    let kind = kind_of (proto_of start.template) in
    let q = challenge_question start key in
    let s = at_asked atoms start own kind key before acts_are clean.1 in
    as_follows atoms own (mail_server kind) before x (asks (first_label own kind q) ∷ []) false (answered a) (hears x.label ∷ []) s.0 s.1 act_is refl (hears_it a (mail_answer {kind = kind} {q = first_label own kind q} {t = x.label}))
followed_in start met act acts (it_hears_none key) atoms number holder read before x act_is acts_are clean no_start =
    let own = own_by number holder in
    let kind = kind_of (proto_of start.template) in
    as_follows atoms own (mail_server kind) before x (moves_by own (mail_server kind) before) (is_choosing (acts_in before)) unanswered [] refl refl act_is refl hears_none
followed_in start met act acts (it_is_denied key i cause) atoms number holder read before x act_is acts_are clean no_start =
    let own = own_by number holder in
    let kind = kind_of (proto_of start.template) in
    as_follows atoms own (mail_server kind) before x (moves_by own (mail_server kind) before) (is_choosing (acts_in before)) (failed cause) (fails ∷ []) refl refl act_is refl (fails_so cause)
followed_in start met act acts (it_gives key a) atoms number holder read before x act_is acts_are clean no_start =
    let own = own_by number holder in
    let kind = kind_of (proto_of start.template) in
    let q = challenge_question start key in
    let s = at_heard atoms start own kind key a before acts_are clean.1 in
    let form : IsChallenge s.answer = subst (IsFormed atoms own (mail_server kind)) s.moves (clean.0.formed (ap goes_on act_is)) in
    as_follows atoms own (mail_server kind) before x (hears s.answer ∷ asks (first_label own kind q) ∷ []) false (gave (drop 6 a)) (gives (piece_of s.answer 1) ∷ []) s.moves s.choosing act_is (ap if_some (challenge_gift own kind (first_label own kind q) s.answer (names_in (drop 6 a)) form))
    (gives_it (drop 6 a) (piece_of s.answer 1) (challenge_row own kind (first_label own kind q) s.answer form) (challenge_spells atoms s.answer a form s.spells))
followed_in start met act acts (it_takes_user key a u) atoms number holder read before x act_is acts_are clean no_start =
    let own = own_by number holder in
    let kind = kind_of (proto_of start.template) in
    let q = challenge_question start key in
    let s = at_given atoms start own kind key a before acts_are clean.1 in
    as_follows atoms own (mail_server kind) before x (handed own kind q s.answer) false (took u) (takes x.label ∷ []) s.moves s.choosing act_is refl (takes_it u (mail_user {kind = kind} {q = first_label own kind q} {a = s.answer} {t = piece_of s.answer 1} {u = x.label}))
followed_in start met act acts (it_refuses key a u cause) atoms number holder read before x act_is acts_are clean no_start =
    let own = own_by number holder in
    let kind = kind_of (proto_of start.template) in
    as_follows atoms own (mail_server kind) before x (moves_by own (mail_server kind) before) (is_choosing (acts_in before)) (failed cause) (fails ∷ []) refl refl act_is refl (fails_so cause)
followed_in start met act acts (it_takes_digits key a u r) atoms number holder read before x act_is acts_are clean no_start =
    let own = own_by number holder in
    let kind = kind_of (proto_of start.template) in
    let q = challenge_question start key in
    let s = at_named atoms start own kind key a u before acts_are clean.1 in
    let form : IsPlain s.user = subst (IsFormed atoms own (mail_server kind)) s.moves (clean.0.formed (ap goes_on act_is)) in
    as_follows atoms own (mail_server kind) before x (takes s.user ∷ handed own kind q s.answer) false (took r) (takes x.label ∷ []) s.moves s.choosing act_is refl (takes_it r (digest_row own kind (first_label own kind q) s.answer (piece_of s.answer 1) s.user x.label form))
followed_in start met act acts (it_asks_again key secret a u r has name) atoms number holder read before x act_is acts_are clean no_start =
    let own = own_by number holder in
    let kind = kind_of (proto_of start.template) in
    let q = challenge_question start key in
    let text = vouch_question start key u r in
    let s = at_digits atoms start own kind key a u r before acts_are clean.1 in
    let ring = (the_key atoms start met number holder key secret read has).0 in
    as_follows atoms own (mail_server kind) before x (takes s.digits ∷ takes s.user ∷ handed own kind q s.answer) false (asked text) (asks (second_label own kind text s.digits) ∷ []) s.moves s.choosing act_is (ap if_some (second_gift own kind (first_label own kind q) s.answer (piece_of s.answer 1) s.user s.digits text s.form))
    (asks_it text (second_label own kind text s.digits) (second_row own kind (first_label own kind q) s.answer (piece_of s.answer 1) s.user s.digits text s.form) (second_spells atoms start key number holder u r s.digits read.eight ring name read.word s.shown))
followed_in start met act acts (it_hears_again key a u r v) atoms number holder read before x act_is acts_are clean no_start =
    let own = own_by number holder in
    let kind = kind_of (proto_of start.template) in
    let q = challenge_question start key in
    let text = vouch_question start key u r in
    let s = at_vouching atoms start own kind key a u r before acts_are clean.1 in
    as_follows atoms own (mail_server kind) before x (questioned own kind q text s.answer s.user s.digits) false (answered v) (hears x.label ∷ []) s.moves s.choosing act_is refl (hears_it v (second_answer_row own kind (first_label own kind q) s.answer (piece_of s.answer 1) s.user s.digits (second_label own kind text s.digits) x.label s.form))
followed_in start met act acts (it_hears_none_again key a u r) atoms number holder read before x act_is acts_are clean no_start =
    let own = own_by number holder in
    let kind = kind_of (proto_of start.template) in
    as_follows atoms own (mail_server kind) before x (moves_by own (mail_server kind) before) (is_choosing (acts_in before)) unanswered [] refl refl act_is refl hears_none
followed_in start met act acts (it_is_deceived key a u r i cause) atoms number holder read before x act_is acts_are clean no_start =
    let own = own_by number holder in
    let kind = kind_of (proto_of start.template) in
    as_follows atoms own (mail_server kind) before x (moves_by own (mail_server kind) before) (is_choosing (acts_in before)) (failed cause) (fails ∷ []) refl refl act_is refl (fails_so cause)
followed_in start met act acts (it_accepts key secret a u r v t has vouched) atoms number holder read before x act_is acts_are clean no_start =
    let own = own_by number holder in
    let kind = kind_of (proto_of start.template) in
    let q = challenge_question start key in
    let text = vouch_question start key u r in
    let s = at_vouched atoms start own kind key a u r v before acts_are clean.1 in
    let form : IsVouch own s.vouched = subst (IsFormed atoms own (mail_server kind)) s.moves (clean.0.formed (ap goes_on act_is)) in
    let of_key = (the_key atoms start met number holder key secret read has).1 in
    let names = vouch_names atoms read.bytes number holder start.word key s.vouched u v t read.word read.eight of_key form s.holds s.shown vouched in
    let user = plain_bytes atoms s.user u s.form s.spells in
    let field = bytes (piece_of (opened s.vouched) 3) in
    let suid : name_text field ≡ t.suid = ap (λ m. name_text (bytes (piece_of (opened m) 3))) form.is ∙ (names.1 ∙ sym vouched.suid) in
    as_follows atoms own (mail_server kind) before x (hears s.vouched ∷ questioned own kind q text s.answer s.user s.digits) false (accepted t.cuid t.suid) (accepts field ∷ []) s.moves s.choosing act_is refl
    (accepts_it t.cuid t.suid field (λ serves. suid) (accepts_row own kind (first_label own kind q) s.answer (piece_of s.answer 1) s.user s.digits s.vouched text s.form form (names.0 ∙ user) (names.1 ∙ user)))
followed_in start met act acts (it_is_told key a u r v t more rest) atoms number holder read before x act_is acts_are clean no_start =
    let own = own_by number holder in
    let kind = kind_of (proto_of start.template) in
    let s = ended_in atoms start own kind key a u r v t acts rest before acts_are clean.1 in
    as_follows atoms own (mail_server kind) before x s.done_so false (took more) [] s.moves s.choosing act_is (takes_nothing own kind s.done_so more x.label s.takes_no_more) (takes_none more)

of_this_role : (start : Start) (role : Role) → IsMailServer start → role_in (started_by start) role → role ≡ mail_server (kind_of (proto_of start.template))
of_this_role start role is in_it =
    let role_so : role ≡ role_by (mail_protocol (proto_of start.template)) part.Server = subst (λ act. role_in act role) (first_is start is) in_it in
    role_so ∙ role_is (proto_of start.template)

followed : (spoken : Spoken) → IsMailServer spoken.start → IsFollowed spoken
followed spoken is atoms number holder role read before x t clean no_start =
    let role_so = of_this_role spoken.start role is read.of_start in
    let word = subst (λ role. ReadsWord atoms role number spoken.start.word) role_so read.word in
    let key = subst (ReadsKept atoms (mail_server (kind_of (proto_of spoken.start.template))) holder) (mail_kept spoken (x.act ∷ acts_in before) is.mail t) (subst (λ role. ReadsKept atoms role holder spoken.key) role_so read.key) in
    subst (λ role. Follows atoms (own_by number holder) role (moves_by (own_by number holder) role before) (is_choosing (acts_in before)) x.act x.label (moves_for (own_by number holder) role (is_choosing (acts_in before)) (moves_by (own_by number holder) role before) x.act x.label)) (sym role_so)
    (followed_in spoken.start spoken.met x.act (acts_in before) (nexts spoken is (x.act ∷ acts_in before) t).0 atoms number holder (record { bytes = read.bytes; word = word; eight = t.may.word.whole; keys = t.may.keys; key = key }) before x refl refl (subst (λ role. CleanActs atoms (own_by number holder) role (x ∷ before)) role_so clean) no_start)

-- a mail server is lawful
pub mail_server_is_lawful : (spoken : Spoken) → IsMailServer spoken.start → IsLawful spoken
mail_server_is_lawful spoken is = record { orderly = orderly spoken is; followed = followed spoken is }
