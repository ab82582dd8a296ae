-- A p9sk1 client's acts are the moves of a symbolic client: it gives its challenge, takes a server's request, asks the
-- authentication server, hands the server's ticket on with an authenticator, takes the server's authenticator, and accepts.
use Rattle.std.proofs.Common.{◌≡◌, ℕ, List, [], ◌∷◌, ◌++◌, All, append-nil, append_assoc, length, length-append, take, drop, Option, Some, None, Bool, true, false, Ok, ◌&&◌, if◌then◌else◌, inl, inr, refl, sym, ap, subst, ◌∙◌, arith}
use Rattle.std.specs.Prelude.{◌⊎◌}
use Rattle.std.proofs.lemmas.List.{take_at, drop_at}
use Rattle.std.proofs.lemmas.List.Elements.{All-head}
use Rattle.sealing.specs.Sealing.{opened as opened_bytes, sealed}
use Rattle.sealing.proofs.SealLaws.{length-sealed, sealed_undone}
use Rattle.wire_base.specs.Names.{IsName}
use Rattle.sealing.specs.Authenticator.{authenticator_text}
use Rattle.sealing.specs.Fields.{HoldsName, field}
use Rattle.sealing.specs.Fitting.{FitsRequest}
use Rattle.sealing.specs.Request.{request_of}
use Rattle.sealing.specs.Ticket.{ticket_of}
use Rattle.sealing.specs.declared.request.TicketReq.{TicketReq}
use Rattle.sealing.specs.declared.ticket.Ticket.{Ticket}
use Rattle.sealing.proofs.FieldLaws.{behind_field, field_here}
use Rattle.sealing.proofs.RequestLaws.{request_taken}
use Rattle.symbolic_runs.specs.Trees.{Tree, same_tree, nonce, long_key, seal, none, piece, plain}
use Rattle.symbolic_runs.specs.Spellings.{Atoms, atom_bytes, bytes_of, spelling}
use Rattle.roles.specs.declared.key.SkKey.{SkKey}
use Rattle.roles.specs.declared.stage.Role.{Role as SkRole}
use Rattle.roles.specs.Answers.{is_sought}
use Rattle.roles.specs.Courses as sk
use Rattle.roles.specs.Clients.{wanted_user}
use Rattle.roles.specs.Starts.{Start, role_of}
use Rattle.roles.specs.Talks.{Call, found}
use Rattle.roles.specs.Tickets.{challenge_in, rest_part, ticket_part, ticket_under}
use Rattle.conv_challenge.specs.Starts.{proto_of, side_of}
use Rattle.talks.specs.Protocols.{P9sk1, protocol_of}
use Rattle.talks.specs.Lines.{cause_text}
use Rattle.wire_histories.specs.declared.step.Protocol.TheVariants as protocol
use Rattle.symbolic_runs.specs.Forms.{Fields, by_client, for_client, ticket_request, authenticator, client_message, request, server_message, ticket, tickets}
use Rattle.symbolic_runs.specs.Gifts.{are_whole, bytes, fields_of, is_request, next_gift, opened, part as piece_of}
use Rattle.symbolic_runs.specs.Moves.{Role, client, Move, takes, hears, gives, asks, accepts, fails, Own, Row, client_accepts, client_answer, client_challenge, client_proof, client_question, client_request, client_ticket}
use Rattle.symbolic_runs.proofs.GiftLaws.{computed}
use Rattle.wire_histories.specs.Histories.{Act, started, gave, took, asked, answered, unanswered, accepted, failed}
use Rattle.wire_histories.specs.Conversations.{acts_from, met_by, part_as, protocol_as, role_as, speaks, started_by}
use Rattle.wire_histories.specs.Legal.{IsMet, IsRingKey, IsTalk, Spoken}
use Rattle.clean_runs.specs.Labels.{Labelled}
use Rattle.clean_runs.specs.Runs.{acts_in, if_some, is_choosing, moves_by, moves_for, names_in, role_by}
use Rattle.clean_runs.specs.Forms.{IsAnswer, IsFormed, IsRequest}
use Rattle.clean_runs.specs.Clean.{GivesBytes, HoldsBytes, ReadsKept, ReadsWord}
use Rattle.clean_runs.proofs.Begun.{BeginsWith}
use Rattle.clean_runs.proofs.Bytes.{authenticator_is, authenticator_spells, opened_key, proof_with, request_is_spelled, request_with, ticket_long, ticket_spells, ticket_with, tree_bytes}
use Rattle.clean_runs.proofs.Follows.{CleanActs, Follows, IsFollowed, IsLawful, IsOrderlyTalk, accepts_it, as_follows, asks_it, fails_so, gives_it, hears_it, hears_none, known_act, moves_next, own_by, role_in, takes_it, takes_none}
use Rattle.clean_runs.proofs.Grounds.{Each, Found, Ground, begins_more, each_behind, sk_ground, told_begins, told_on, told_quiet}
use Rattle.clean_runs.proofs.Kept.{ReadsMet, sk_kept}
use Rattle.clean_runs.proofs.LeftLemmas.{above_all, acts_above, at}
use Rattle.clean_runs.proofs.SkClients.{Instead, IsClientRole, Stands, accepted_acts, asked_acts, asking, begun, by_answer, by_no_room, by_none, deceived, denied, done, for_another, for_itself, greeting, handed, heard_acts, instead, keyless, question, ready, refused, second, showing, shown_acts, stands}
use Rattle.clean_runs.proofs.SkServerLaw.{ok_same}
use Rattle.clean_runs.proofs.SkServers.{Told, at_once, told}
use Rattle.clean_runs.proofs.Spelled.{all_parts, all_spell, seal_parts, seal_spells}
use Rattle.clean_runs.proofs.Steps.{goes_on, is_start, taken_by}

pub record IsClient (start : Start) : Type 0 where
  pub p9sk1 : protocol_of start.template ≡ P9sk1
  pub client : IsClientRole (role_of start.template)

abbrev pub first : Start → Act
first start = started protocol.P9sk1 (part_as (role_of start.template)) start.word

first_is : (start : Start) → IsClient start → started_by start ≡ first start
first_is start is = ap (λ p. started (protocol_as p (proto_of start.template)) (role_as p (role_of start.template) (side_of start.template)) start.word) is.p9sk1

-- ---- what may come next

-- what a server's request and an answer to the question must be
pub record IsAsked (met : List Call) (r : List ℕ) (q : TicketReq) (key : SkKey) : Type 0 where
  pub has : Found met key
  pub is : request_of r ≡ Ok q
  pub size : length r ≡ 141

pub record IsHeard (key : SkKey) (a : List ℕ) (t : Ticket) : Type 0 where
  pub long : length a ≡ 145
  pub opens : ticket_under key (ticket_part (drop 1 a)) ≡ Ok t

pub data Next (start : Start) (ground : List Act) (met : List Call) : Act → List Act → Type 0 where
  it_greets : Next start ground met (gave start.word) ground
  it_takes : (r : List ℕ) → Next start ground met (took r) (greeting start ground)
  it_refuses : (r cause : List ℕ) → Next start ground met (failed cause) (took r ∷ greeting start ground)
  it_asks : (r : List ℕ) (q : TicketReq) (key : SkKey) → IsAsked met r q key → Next start ground met (asked (question start key q)) (took r ∷ greeting start ground)
  it_hears : (r : List ℕ) (q : TicketReq) (key : SkKey) (a : List ℕ) → Next start ground met (answered a) (asked_acts start ground r q key)
  it_hears_none : (r : List ℕ) (q : TicketReq) (key : SkKey) → Next start ground met unanswered (asked_acts start ground r q key)
  it_is_denied : (r : List ℕ) (q : TicketReq) (key : SkKey) (i : Instead) (cause : List ℕ) → Next start ground met (failed cause) (instead i ++ asked_acts start ground r q key)
  it_shows : (r : List ℕ) (q : TicketReq) (key : SkKey) (a : List ℕ) (t : Ticket) → IsAsked met r q key → IsHeard key a t → Next start ground met (gave (handed r a t)) (heard_acts start ground r q key a)
  it_takes_proof : (r : List ℕ) (q : TicketReq) (key : SkKey) (a : List ℕ) (t : Ticket) (p : List ℕ) → Next start ground met (took p) (shown_acts start ground r q key a t)
  it_breaks : (r : List ℕ) (q : TicketReq) (key : SkKey) (a : List ℕ) (t : Ticket) (p cause : List ℕ) → Next start ground met (failed cause) (took p ∷ shown_acts start ground r q key a t)
  it_accepts : (r : List ℕ) (q : TicketReq) (key : SkKey) (a : List ℕ) (t : Ticket) (p cuid suid : List ℕ) → Next start ground met (accepted cuid suid) (took p ∷ shown_acts start ground r q key a t)
  it_is_told : {acts : List Act} (r : List ℕ) (q : TicketReq) (key : SkKey) (a : List ℕ) (t : Ticket) (p more : List ℕ) → Told (accepted_acts start ground r q key a t p) acts → Next start ground met (took more) acts

-- or what stands on the ground
abbrev pub Comes : Start → List Act → List Call → (Act → List Act → Type 0) → Act → List Act → Type 0
Comes start ground met Before act acts = Next start ground met act acts ⊎ Before act acts

greeted_next : (start : Start) (ground : List Act) (met : List Call) (Before : Act → List Act → Type 0) → Each (Comes start ground met Before) ground → Each (Comes start ground met Before) (greeting start ground)
greeted_next start ground met Before stand = (inl it_greets, stand)

asked_next : (start : Start) (ground : List Act) (met : List Call) (Before : Act → List Act → Type 0) (r : List ℕ) (q : TicketReq) (key : SkKey) → IsAsked met r q key → Each (Comes start ground met Before) ground → Each (Comes start ground met Before) (asked_acts start ground r q key)
asked_next start ground met Before r q key is stand = (inl (it_asks r q key is), (inl (it_takes r), greeted_next start ground met Before stand))

heard_next : (start : Start) (ground : List Act) (met : List Call) (Before : Act → List Act → Type 0) (r : List ℕ) (q : TicketReq) (key : SkKey) (a : List ℕ) → IsAsked met r q key → Each (Comes start ground met Before) ground → Each (Comes start ground met Before) (heard_acts start ground r q key a)
heard_next start ground met Before r q key a is stand = (inl (it_hears r q key a), asked_next start ground met Before r q key is stand)

shown_next : (start : Start) (ground : List Act) (met : List Call) (Before : Act → List Act → Type 0) (r : List ℕ) (q : TicketReq) (key : SkKey) (a : List ℕ) (t : Ticket) → IsAsked met r q key → IsHeard key a t → Each (Comes start ground met Before) ground → Each (Comes start ground met Before) (shown_acts start ground r q key a t)
shown_next start ground met Before r q key a t is heard_it stand = (inl (it_shows r q key a t is heard_it), heard_next start ground met Before r q key a is stand)

told_next : (start : Start) (ground : List Act) (met : List Call) (Before : Act → List Act → Type 0) (r : List ℕ) (q : TicketReq) (key : SkKey) (a : List ℕ) (t : Ticket) (p : List ℕ) (acts : List Act) → IsAsked met r q key → IsHeard key a t → Each (Comes start ground met Before) ground → Told (accepted_acts start ground r q key a t p) acts → Each (Comes start ground met Before) acts
told_next start ground met Before r q key a t p acts is heard_it stand at_once = (inl (it_accepts r q key a t p t.cuid t.suid), (inl (it_takes_proof r q key a t p), shown_next start ground met Before r q key a t is heard_it stand))
told_next start ground met Before r q key a t p acts is heard_it stand (told {acts = earlier} more rest) = (inl (it_is_told r q key a t p more rest), told_next start ground met Before r q key a t p earlier is heard_it stand rest)

denied_next : (start : Start) (ground : List Act) (met : List Call) (Before : Act → List Act → Type 0) (r : List ℕ) (q : TicketReq) (key : SkKey) (i : Instead) → IsAsked met r q key → Each (Comes start ground met Before) ground → Each (Comes start ground met Before) (instead i ++ asked_acts start ground r q key)
denied_next start ground met Before r q key (by_answer a) is stand = heard_next start ground met Before r q key a is stand
denied_next start ground met Before r q key by_none is stand = (inl (it_hears_none r q key), asked_next start ground met Before r q key is stand)
denied_next start ground met Before r q key by_no_room is stand = asked_next start ground met Before r q key is stand

abbrev Acts : Start → Act → List Call → List Act
Acts start first talk = acts_above (speaks P9sk1 start) first talk

abbrev Met : Start → List Call → List Call
Met start talk = met_by (speaks P9sk1 start) talk

asks_so : (start : Start) (talk met more : List Call) (r : List ℕ) (q : TicketReq) (key : SkKey) (secret : Option (List ℕ)) → met ≡ Met start talk ++ more → Met start talk ≡ found key secret ∷ [] → request_of r ≡ Ok q → length r ≡ 141 → IsAsked met r q key
asks_so start talk met more r q key secret met_is has is size = record { has = record { secret = secret; more = more; is = met_is ∙ ap (λ m. m ++ more) has }; is = is; size = size }

-- all that a talk leaves on what stood before it
pub all_next : (start : Start) (act : Act) (ground : List Act) (met more : List Call) (Before : Act → List Act → Type 0) (talk : List Call) → Each (Comes start ground met Before) ground → met ≡ Met start talk ++ more → Stands start act talk → Each (Comes start ground met Before) (Acts start act talk ++ ground)
all_next start act ground met more Before talk stand met_is (begun here stood has) = subst (λ xs. Each (Comes start ground met Before) (xs ++ ground)) (sym stood) stand
all_next start act ground met more Before talk stand met_is (second here stood has) = subst (λ xs. Each (Comes start ground met Before) (xs ++ ground)) (sym stood) (greeted_next start ground met Before stand)
all_next start act ground met more Before talk stand met_is (refused r cause here stood has) = subst (λ xs. Each (Comes start ground met Before) (xs ++ ground)) (sym stood) (inl (it_refuses r (cause_text cause)), (inl (it_takes r), greeted_next start ground met Before stand))
all_next start act ground met more Before talk stand met_is (keyless r q is size here stood waited has) = subst (λ xs. Each (Comes start ground met Before) (xs ++ ground)) (sym stood) (greeted_next start ground met Before stand)
all_next start act ground met more Before talk stand met_is (asking r q key secret is size here stood has) = subst (λ xs. Each (Comes start ground met Before) (xs ++ ground)) (sym stood) (asked_next start ground met Before r q key (asks_so start talk met more r q key secret met_is has is size) stand)
all_next start act ground met more Before talk stand met_is (denied r q key secret i cause is size here stood has) =
    let so = asks_so start talk met more r q key secret met_is has is size in
    subst (λ xs. Each (Comes start ground met Before) (xs ++ ground)) (sym stood)
    (subst (λ xs. Each (Comes start ground met Before) (failed (cause_text cause) ∷ xs)) (sym (append_assoc (instead i) (asked_acts start [] r q key) ground)) (inl (it_is_denied r q key i (cause_text cause)), denied_next start ground met Before r q key i so stand))
all_next start act ground met more Before talk stand met_is (ready r q key secret a t is size long opens here stood has) = subst (λ xs. Each (Comes start ground met Before) (xs ++ ground)) (sym stood) (heard_next start ground met Before r q key a (asks_so start talk met more r q key secret met_is has is size) stand)
all_next start act ground met more Before talk stand met_is (showing r q key secret a t is size long opens here stood has) = subst (λ xs. Each (Comes start ground met Before) (xs ++ ground)) (sym stood) (shown_next start ground met Before r q key a t (asks_so start talk met more r q key secret met_is has is size) (record { long = long; opens = opens }) stand)
all_next start act ground met more Before talk stand met_is (deceived r q key secret a t p cause is size long opens here stood has) = subst (λ xs. Each (Comes start ground met Before) (xs ++ ground)) (sym stood) (inl (it_breaks r q key a t p (cause_text cause)), (inl (it_takes_proof r q key a t p), shown_next start ground met Before r q key a t (asks_so start talk met more r q key secret met_is has is size) (record { long = long; opens = opens }) stand))
all_next start act ground met more Before talk stand met_is (done r q key secret a t p is size long opens here stood has) = told_next start ground met Before r q key a t p (Acts start act talk ++ ground) (asks_so start talk met more r q key secret met_is has is size) (record { long = long; opens = opens }) stand (told_on ground (accepted_acts start [] r q key a t p) (Acts start act talk) stood)

-- ---- they begin with the start

asked_begins : (outer : Act) (start : Start) (ground : List Act) (r : List ℕ) (q : TicketReq) (key : SkKey) → BeginsWith outer ground → BeginsWith outer (asked_acts start ground r q key)
asked_begins outer start ground r q key so_far = (refl, (refl, begins_more outer (gave start.word) ground refl so_far))

denied_begins : (outer : Act) (start : Start) (ground : List Act) (r : List ℕ) (q : TicketReq) (key : SkKey) (i : Instead) (cause : List ℕ) → BeginsWith outer ground → BeginsWith outer (failed cause ∷ (instead i ++ asked_acts start ground r q key))
denied_begins outer start ground r q key (by_answer a) cause so_far = (refl, (refl, asked_begins outer start ground r q key so_far))
denied_begins outer start ground r q key by_none cause so_far = (refl, (refl, asked_begins outer start ground r q key so_far))
denied_begins outer start ground r q key by_no_room cause so_far = (refl, asked_begins outer start ground r q key so_far)

pub begins_with : (outer : Act) (start : Start) (ground : List Act) (met : List Call) (act : Act) (acts : List Act) → BeginsWith outer ground → Next start ground met act acts → BeginsWith outer (act ∷ acts)
begins_with outer start ground met act acts so_far it_greets = begins_more outer (gave start.word) ground refl so_far
begins_with outer start ground met act acts so_far (it_takes r) = (refl, begins_more outer (gave start.word) ground refl so_far)
begins_with outer start ground met act acts so_far (it_refuses r cause) = (refl, (refl, begins_more outer (gave start.word) ground refl so_far))
begins_with outer start ground met act acts so_far (it_asks r q key is) = asked_begins outer start ground r q key so_far
begins_with outer start ground met act acts so_far (it_hears r q key a) = (refl, asked_begins outer start ground r q key so_far)
begins_with outer start ground met act acts so_far (it_hears_none r q key) = (refl, asked_begins outer start ground r q key so_far)
begins_with outer start ground met act acts so_far (it_is_denied r q key i cause) = denied_begins outer start ground r q key i cause so_far
begins_with outer start ground met act acts so_far (it_shows r q key a t is heard_it) = (refl, (refl, asked_begins outer start ground r q key so_far))
begins_with outer start ground met act acts so_far (it_takes_proof r q key a t p) = (refl, (refl, (refl, asked_begins outer start ground r q key so_far)))
begins_with outer start ground met act acts so_far (it_breaks r q key a t p cause) = (refl, (refl, (refl, (refl, asked_begins outer start ground r q key so_far))))
begins_with outer start ground met act acts so_far (it_accepts r q key a t p cuid suid) = (refl, (refl, (refl, (refl, asked_begins outer start ground r q key so_far))))
begins_with outer start ground met act acts so_far (it_is_told r q key a t p more rest) = begins_more outer (took more) acts refl (told_begins outer (accepted_acts start ground r q key a t p) acts (refl, (refl, (refl, (refl, asked_begins outer start ground r q key so_far)))) rest)

-- ---- what is computed

pub question_of : Own → Tree → List ℕ → Tree
question_of own t q = request ticket_request (names_in q) (piece_of t 3)

question_row : (own : Own) (t : Tree) (q : List ℕ) → IsRequest ticket_request t → Row own client (takes t ∷ gives own.word ∷ []) (asks (question_of own t q))
unfolding question_of
question_row own t q form = subst (λ t. Row own client (takes t ∷ gives own.word ∷ []) (asks (request ticket_request (names_in q) (piece_of t 3)))) (sym form.is) (client_question form.fields (names_in q) {chal = form.chal} form.whole)

pub was_true : (test : Bool) (gift other : Move) → (if test then Some gift else None) ≡ Some other → test ≡ true
was_true true gift other is = refl
was_true false gift other is = absurd (cc)

question_gift : (own : Own) (t : Tree) (q : List ℕ) → IsRequest ticket_request t → next_gift own client (takes t ∷ gives own.word ∷ []) (names_in q) ≡ Some (asks (question_of own t q))
unfolding question_of
question_gift own t q form =
    let T = request ticket_request form.fields form.chal in
    let made = computed own client (takes T ∷ gives own.word ∷ []) (asks (request ticket_request (names_in q) form.chal)) (client_question form.fields (names_in q) {chal = form.chal} form.whole) refl in
    let test = same_tree own.word own.word && (is_request ticket_request T (piece_of T 3) && are_whole (fields_of T)) in
    subst (λ t. next_gift own client (takes t ∷ gives own.word ∷ []) (names_in q) ≡ Some (asks (request ticket_request (names_in q) (piece_of t 3)))) (sym form.is)
    (ap (λ (b : Bool). if b then Some (asks (request ticket_request (names_in q) form.chal)) else None) (was_true test (asks (request ticket_request made.0 form.chal)) (asks (request ticket_request (names_in q) form.chal)) made.1))

abbrev handed_label : Tree → Tree
handed_label u = client_message (piece_of u 2) (piece_of (opened u) 4) (piece_of (opened u) 1)

handed_row : (atoms : Atoms) (own : Own) (t u : Tree) (q : List ℕ) → IsAnswer atoms own (question_of own t q) u → Row own client (hears u ∷ asks (question_of own t q) ∷ takes t ∷ gives own.word ∷ []) (gives (handed_label u))
unfolding question_of
handed_row atoms own t u q form = subst (λ u. Row own client (hears u ∷ asks (question_of own t q) ∷ takes t ∷ gives own.word ∷ []) (gives (handed_label u))) (sym form.is) (client_ticket (names_in q) {chal = piece_of t 3} {key = form.key} {handed = form.handed} form.names)

handed_gift : (atoms : Atoms) (own : Own) (t u : Tree) (q : List ℕ) (names : Fields) → IsAnswer atoms own (question_of own t q) u → next_gift own client (hears u ∷ asks (question_of own t q) ∷ takes t ∷ gives own.word ∷ []) names ≡ Some (gives (handed_label u))
unfolding question_of
handed_gift atoms own t u q names form =
    subst (λ u. next_gift own client (hears u ∷ asks (question_of own t q) ∷ takes t ∷ gives own.word ∷ []) names ≡ Some (gives (handed_label u))) (sym form.is)
    (computed own client (hears (tickets (seal own.key (ticket for_client (piece_of t 3) form.cuid form.suid form.key)) form.handed) ∷ asks (question_of own t q) ∷ takes t ∷ gives own.word ∷ []) (gives (client_message form.handed form.key (piece_of t 3))) (client_ticket (names_in q) {chal = piece_of t 3} {key = form.key} {handed = form.handed} form.names) refl).1

accepts_row : (atoms : Atoms) (own : Own) (t u m : Tree) (q : List ℕ) → IsAnswer atoms own (question_of own t q) u → m ≡ server_message (piece_of (opened u) 4) own.word → Row own client (takes m ∷ gives (handed_label u) ∷ hears u ∷ asks (question_of own t q) ∷ takes t ∷ gives own.word ∷ []) (accepts (bytes (piece_of (opened u) 3)))
unfolding question_of
accepts_row atoms own t u m q form is =
    subst (λ m. Row own client (takes m ∷ gives (handed_label u) ∷ hears u ∷ asks (question_of own t q) ∷ takes t ∷ gives own.word ∷ []) (accepts (bytes (piece_of (opened u) 3)))) (sym is)
    (subst (λ u. Row own client (takes (server_message (piece_of (opened u) 4) own.word) ∷ gives (handed_label u) ∷ hears u ∷ asks (question_of own t q) ∷ takes t ∷ gives own.word ∷ []) (accepts (bytes (piece_of (opened u) 3)))) (sym form.is)
    (client_accepts {chal = piece_of t 3} {key = form.key} {handed = form.handed} {cuid = form.cuid} {suid = form.suid}))

-- ---- the moves behind each act

at_greeted : (atoms : Atoms) (start : Start) (outer : Act) (ground : List Act) (g : Ground outer client ground) (own : Own) (before : List Labelled) → acts_in before ≡ greeting start ground → CleanActs atoms own client before → (moves_by own client before ≡ gives own.word ∷ []) × (is_choosing (acts_in before) ≡ false)
at_greeted atoms start outer ground g own before is clean =
    let p = known_act atoms own client before (gave start.word) ground is clean in
    (moves_next own client before p.more p.a [] false (gave start.word) (gives own.word ∷ []) p.front (g.still own p.more p.rest) (ap is_choosing p.rest ∙ g.quiet) p.act_is refl, ap is_choosing is ∙ g.gave_quiet start.word)

pub record TookIt (atoms : Atoms) (own : Own) (r : List ℕ) (before : List Labelled) : Type 0 where
  pub t : Tree
  pub moves : moves_by own client before ≡ takes t ∷ gives own.word ∷ []
  pub choosing : is_choosing (acts_in before) ≡ false
  pub spells : spelling atoms t ≡ Ok r

at_took : (atoms : Atoms) (start : Start) (outer : Act) (ground : List Act) (g : Ground outer client ground) (own : Own) (r : List ℕ) (before : List Labelled) → acts_in before ≡ took r ∷ greeting start ground → CleanActs atoms own client before → TookIt atoms own r before
at_took atoms start outer ground g own r before is clean =
    let p = known_act atoms own client before (took r) (greeting start ground) is clean in
    let q = at_greeted atoms start outer ground g own p.more p.rest p.clean_rest in
    record {
      t = p.a.label;
      moves = moves_next own client before p.more p.a (gives own.word ∷ []) false (took r) (takes p.a.label ∷ []) p.front q.0 q.1 p.act_is refl;
      choosing = ap is_choosing is;
      spells = p.clean.spells r (ap taken_by p.act_is);
    }

pub record AskedIt (atoms : Atoms) (own : Own) (r q : List ℕ) (before : List Labelled) : Type 0 where
  pub t : Tree
  pub form : IsRequest ticket_request t
  pub moves : moves_by own client before ≡ asks (question_of own t q) ∷ takes t ∷ gives own.word ∷ []
  pub choosing : is_choosing (acts_in before) ≡ false
  pub spells : spelling atoms t ≡ Ok r

at_asked : (atoms : Atoms) (start : Start) (outer : Act) (ground : List Act) (g : Ground outer client ground) (own : Own) (r : List ℕ) (q : TicketReq) (key : SkKey) (before : List Labelled) → acts_in before ≡ asked_acts start ground r q key → CleanActs atoms own client before → AskedIt atoms own r (question start key q) before
at_asked atoms start outer ground g own r q key before is clean =
    let p = known_act atoms own client before (asked (question start key q)) (took r ∷ greeting start ground) is clean in
    let b = at_took atoms start outer ground g own r p.more p.rest p.clean_rest in
    let form : IsRequest ticket_request b.t = subst (IsFormed atoms own client) b.moves (p.clean.formed (ap goes_on p.act_is)) in
    record {
      t = b.t;
      form = form;
      moves = moves_next own client before p.more p.a (takes b.t ∷ gives own.word ∷ []) false (asked (question start key q)) (asks (question_of own b.t (question start key q)) ∷ []) p.front b.moves b.choosing p.act_is (ap if_some (question_gift own b.t (question start key q) form));
      choosing = ap is_choosing is;
      spells = b.spells;
    }

pub record HeardIt (atoms : Atoms) (own : Own) (r q a : List ℕ) (before : List Labelled) : Type 0 where
  pub t : Tree
  pub form : IsRequest ticket_request t
  pub u : Tree
  pub moves : moves_by own client before ≡ hears u ∷ asks (question_of own t q) ∷ takes t ∷ gives own.word ∷ []
  pub choosing : is_choosing (acts_in before) ≡ false
  pub spells : spelling atoms t ≡ Ok r
  pub answer : spelling atoms u ≡ Ok a
  pub holds : HoldsBytes u

at_heard : (atoms : Atoms) (start : Start) (outer : Act) (ground : List Act) (g : Ground outer client ground) (own : Own) (r : List ℕ) (q : TicketReq) (key : SkKey) (a : List ℕ) (before : List Labelled) → acts_in before ≡ heard_acts start ground r q key a → CleanActs atoms own client before → HeardIt atoms own r (question start key q) a before
at_heard atoms start outer ground g own r q key a before is clean =
    let p = known_act atoms own client before (answered a) (asked_acts start ground r q key) is clean in
    let b = at_asked atoms start outer ground g own r q key p.more p.rest p.clean_rest in
    record {
      t = b.t;
      form = b.form;
      u = p.a.label;
      moves = moves_next own client before p.more p.a (asks (question_of own b.t (question start key q)) ∷ takes b.t ∷ gives own.word ∷ []) false (answered a) (hears p.a.label ∷ []) p.front b.moves b.choosing p.act_is refl;
      choosing = ap is_choosing is;
      spells = b.spells;
      answer = p.clean.spells a (ap taken_by p.act_is);
      holds = p.clean.of_bytes a (ap taken_by p.act_is);
    }

pub record ShownIt (atoms : Atoms) (own : Own) (r q a : List ℕ) (before : List Labelled) : Type 0 where
  pub t : Tree
  pub u : Tree
  pub form : IsAnswer atoms own (question_of own t q) u
  pub moves : moves_by own client before ≡ gives (handed_label u) ∷ hears u ∷ asks (question_of own t q) ∷ takes t ∷ gives own.word ∷ []
  pub choosing : is_choosing (acts_in before) ≡ false

at_shown : (atoms : Atoms) (start : Start) (outer : Act) (ground : List Act) (g : Ground outer client ground) (own : Own) (r : List ℕ) (q : TicketReq) (key : SkKey) (a : List ℕ) (k : Ticket) (before : List Labelled) → acts_in before ≡ shown_acts start ground r q key a k → CleanActs atoms own client before → ShownIt atoms own r (question start key q) a before
at_shown atoms start outer ground g own r q key a k before is clean =
    let Q = question start key q in
    let p = known_act atoms own client before (gave (handed r a k)) (heard_acts start ground r q key a) is clean in
    let b = at_heard atoms start outer ground g own r q key a p.more p.rest p.clean_rest in
    let form : IsAnswer atoms own (question_of own b.t Q) b.u = subst (IsFormed atoms own client) b.moves (p.clean.formed (ap goes_on p.act_is)) in
    record {
      t = b.t;
      u = b.u;
      form = form;
      moves = moves_next own client before p.more p.a (hears b.u ∷ asks (question_of own b.t Q) ∷ takes b.t ∷ gives own.word ∷ []) false (gave (handed r a k)) (gives (handed_label b.u) ∷ []) p.front b.moves b.choosing p.act_is (ap if_some (handed_gift atoms own b.t b.u Q (names_in (handed r a k)) form));
      choosing = ap is_choosing is;
    }

pub record ProvenIt (atoms : Atoms) (own : Own) (r q a : List ℕ) (before : List Labelled) : Type 0 where
  pub t : Tree
  pub u : Tree
  pub m : Tree
  pub form : IsAnswer atoms own (question_of own t q) u
  pub moves : moves_by own client before ≡ takes m ∷ gives (handed_label u) ∷ hears u ∷ asks (question_of own t q) ∷ takes t ∷ gives own.word ∷ []
  pub choosing : is_choosing (acts_in before) ≡ false

at_proven : (atoms : Atoms) (start : Start) (outer : Act) (ground : List Act) (g : Ground outer client ground) (own : Own) (r : List ℕ) (q : TicketReq) (key : SkKey) (a : List ℕ) (k : Ticket) (b : List ℕ) (before : List Labelled) → acts_in before ≡ took b ∷ shown_acts start ground r q key a k → CleanActs atoms own client before → ProvenIt atoms own r (question start key q) a before
at_proven atoms start outer ground g own r q key a k b before is clean =
    let Q = question start key q in
    let p = known_act atoms own client before (took b) (shown_acts start ground r q key a k) is clean in
    let c = at_shown atoms start outer ground g own r q key a k p.more p.rest p.clean_rest in
    record {
      t = c.t;
      u = c.u;
      m = p.a.label;
      form = c.form;
      moves = moves_next own client before p.more p.a (gives (handed_label c.u) ∷ hears c.u ∷ asks (question_of own c.t Q) ∷ takes c.t ∷ gives own.word ∷ []) false (took b) (takes p.a.label ∷ []) p.front c.moves c.choosing p.act_is refl;
      choosing = ap is_choosing is;
    }

pub record Ended (own : Own) (before : List Labelled) : Type 0 where
  pub p1 : Move
  pub p2 : Move
  pub p3 : Move
  pub p4 : Move
  pub p5 : Move
  pub p6 : Move
  pub p7 : Move
  pub moves : moves_by own client before ≡ p1 ∷ p2 ∷ p3 ∷ p4 ∷ p5 ∷ p6 ∷ p7 ∷ []
  pub choosing : is_choosing (acts_in before) ≡ false

ended_in : (atoms : Atoms) (start : Start) (outer : Act) (ground : List Act) (g : Ground outer client ground) (own : Own) (r : List ℕ) (q : TicketReq) (key : SkKey) (a : List ℕ) (k : Ticket) (b : List ℕ) (acts : List Act) → Told (accepted_acts start ground r q key a k b) acts → (before : List Labelled) → acts_in before ≡ acts → CleanActs atoms own client before → Ended own before
ended_in atoms start outer ground g own r q key a k b acts at_once before is clean =
    let Q = question start key q in
    let p = known_act atoms own client before (accepted k.cuid k.suid) (took b ∷ shown_acts start ground r q key a k) is clean in
    let c = at_proven atoms start outer ground g own r q key a k b p.more p.rest p.clean_rest in
    record {
      p1 = accepts (bytes (piece_of (opened c.u) 3));
      p2 = takes c.m;
      p3 = gives (handed_label c.u);
      p4 = hears c.u;
      p5 = asks (question_of own c.t Q);
      p6 = takes c.t;
      p7 = gives own.word;
      moves = moves_next own client before p.more p.a (takes c.m ∷ gives (handed_label c.u) ∷ hears c.u ∷ asks (question_of own c.t Q) ∷ takes c.t ∷ gives own.word ∷ []) false (accepted k.cuid k.suid) (accepts (bytes (piece_of (opened c.u) 3)) ∷ []) p.front c.moves c.choosing p.act_is refl;
      choosing = ap is_choosing is;
    }
ended_in atoms start outer ground g own r q key a k b acts (told {acts = earlier} more rest) before is clean =
    let p = known_act atoms own client before (took more) earlier is clean in
    let c = ended_in atoms start outer ground g own r q key a k b earlier rest p.more p.rest p.clean_rest in
    record {
      p1 = c.p1;
      p2 = c.p2;
      p3 = c.p3;
      p4 = c.p4;
      p5 = c.p5;
      p6 = c.p6;
      p7 = c.p7;
      moves = moves_next own client before p.more p.a (c.p1 ∷ c.p2 ∷ c.p3 ∷ c.p4 ∷ c.p5 ∷ c.p6 ∷ c.p7 ∷ []) false (took more) [] p.front c.moves c.choosing p.act_is refl;
      choosing = ap is_choosing is ∙ told_quiet (accepted_acts start ground r q key a k b) earlier (λ more. refl) rest more;
    }

-- ---- what the server's request spells

-- its challenge, and its names as they are read
pub record RequestBytes (atoms : Atoms) (t : Tree) (r : List ℕ) (q : TicketReq) : Type 0 where
  pub chal : List ℕ
  pub spells : spelling atoms (piece_of t 3) ≡ Ok chal
  pub eight : length chal ≡ 8
  pub read : q.chal ≡ chal
  pub stands : challenge_in r ≡ chal
  pub authid : IsName 28 q.authid
  pub authdom : IsName 48 q.authdom

short_name : (size : ℕ) (b name : List ℕ) → length b ≡ size → HoldsName b name → IsName size name
short_name size b name long holds =
    let whole : length b ≡ length (name ++ 0 ∷ holds.behind) = ap length holds.parts in
    let parts = length-append name (0 ∷ holds.behind) in
    record { text = holds.text; short = omega (arith, long, whole, parts) }

request_bytes : (atoms : Atoms) (t : Tree) (r : List ℕ) (q : TicketReq) → IsRequest ticket_request t → spelling atoms t ≡ Ok r → length r ≡ 141 → request_of r ≡ Ok q → RequestBytes atoms t r q
request_bytes atoms t r q form spells size is =
    let f = form.fields in
    let x = form.chal in
    let after = piece (plain f.hostid) (piece (plain f.uid) none) in
    let whole : spelling atoms (request ticket_request f x) ≡ Ok r = subst (λ t. spelling atoms t ≡ Ok r) form.is spells in
    let p1 = all_parts atoms (plain ticket_request) (piece (plain f.authid) (piece (plain f.authdom) (piece x after))) r whole in
    let p2 = all_parts atoms (plain f.authid) (piece (plain f.authdom) (piece x after)) p1.rest p1.of_rest in
    let p3 = all_parts atoms (plain f.authdom) (piece x after) p2.rest p2.of_rest in
    let p4 = all_parts atoms x after p3.rest p3.of_rest in
    let c = p4.front in
    let tail = f.hostid ++ (f.uid ++ []) in
    let tail_is : p4.rest ≡ tail = ok_same (sym p4.of_rest) in
    let k_is : p1.front ≡ 1 ∷ [] = ok_same (sym p1.of_front) in
    let a_is : p2.front ≡ f.authid = ok_same (sym p2.of_front) in
    let d_is : p3.front ≡ f.authdom = ok_same (sym p3.of_front) in
    let text : r ≡ request_with (1 ∷ []) f.authid f.authdom c f.hostid f.uid =
    p1.parts ∙ ap (λ k. k ++ p1.rest) k_is ∙ ap (λ x. 1 ∷ x) (p2.parts ∙ ap (λ a. a ++ p2.rest) a_is ∙ ap (λ x. f.authid ++ x) (p3.parts ∙ ap (λ d. d ++ p3.rest) d_is ∙ ap (λ x. f.authdom ++ x) (p4.parts ∙ ap (λ t. c ++ t) tail_is))) in
    let b = request_with (1 ∷ []) f.authid f.authdom c f.hostid f.uid in
    let whole_size = sym (ap length text) ∙ size in
    let la = length-append f.authid (f.authdom ++ (c ++ tail)) in
    let ld = length-append f.authdom (c ++ tail) in
    let lc = length-append c tail in
    let lh = length-append f.hostid (f.uid ++ []) in
    let lu = length-append f.uid [] in
    let wa = form.whole.authid in
    let wd = form.whole.authdom in
    let wh = form.whole.hostid in
    let wu = form.whole.uid in
    let eight : length c ≡ 8 = omega (arith, whole_size, la, ld, lc, lh, lu, wa, wd, wh, wu) in
    let e1 : drop 1 b ≡ f.authid ++ (f.authdom ++ (c ++ tail)) = refl in
    let e29 : drop 29 b ≡ f.authdom ++ (c ++ tail) = behind_field b f.authid (f.authdom ++ (c ++ tail)) 1 28 wa e1 in
    let e77 : drop 77 b ≡ c ++ tail = behind_field b f.authdom (c ++ tail) 29 48 wd e29 in
    let stands : field 77 8 r ≡ c = ap (λ b. field 77 8 b) text ∙ field_here b c tail 77 8 eight e77 in
    let holds = request_taken r q is in
    let in_authid : length (field 1 28 r) ≡ 28 = ap (λ b. length (field 1 28 b)) text ∙ ap length (field_here b f.authid (f.authdom ++ (c ++ tail)) 1 28 wa e1) ∙ wa in
    let in_authdom : length (field 29 48 r) ≡ 48 = ap (λ b. length (field 29 48 b)) text ∙ ap length (field_here b f.authdom (c ++ tail) 29 48 wd e29) ∙ wd in
    record {
      chal = c;
      spells = ap (λ t. spelling atoms (piece_of t 3)) form.is ∙ p4.of_front;
      eight = eight;
      read = sym holds.chal ∙ stands;
      stands = stands;
      authid = short_name 28 (field 1 28 r) q.authid in_authid holds.authid;
      authdom = short_name 48 (field 29 48 r) q.authdom in_authdom holds.authdom;
    }

-- ---- what the client hands on

-- what the answer spells: the ticket's key, and what stands behind the ticket
pub record AnswerBytes (atoms : Atoms) (own : Own) (Q u : Tree) (form : IsAnswer atoms own Q u) (a : List ℕ) (t : Ticket) : Type 0 where
  pub key : List ℕ
  pub spells : spelling atoms form.key ≡ Ok key
  pub seven : length key ≡ 7
  pub same : t.key.0 ≡ key
  pub rest : List ℕ
  pub handed_is : spelling atoms form.handed ≡ Ok rest
  pub behind : rest_part (drop 1 a) ≡ rest

answer_bytes : (atoms : Atoms) → GivesBytes atoms → (number : ℕ) (holder : List ℕ) (key : SkKey) (Q u : Tree) (c a : List ℕ) (t : Ticket) → bytes_of atoms (long_key holder) ≡ Some key.des.0 → (form : IsAnswer atoms (own_by number holder) Q u) → HoldsBytes u → spelling atoms u ≡ Ok a → spelling atoms (piece_of Q 3) ≡ Ok c → length c ≡ 8 → ticket_under key (ticket_part (drop 1 a)) ≡ Ok t → AnswerBytes atoms (own_by number holder) Q u form a t
answer_bytes atoms reads number holder key Q u c a t of_key form holds spells of_chal eight opens =
    let x = piece_of Q 3 in
    let T = ticket for_client x form.cuid form.suid form.key in
    let S = seal (long_key holder) T in
    let H = form.handed in
    let whole : spelling atoms (tickets S H) ≡ Ok a = subst (λ u. spelling atoms u ≡ Ok a) form.is spells in
    let held : HoldsBytes (tickets S H) = subst HoldsBytes form.is holds in
    let p1 = all_parts atoms (plain (4 ∷ [])) (piece S (piece H none)) a whole in
    let p2 = all_parts atoms S (piece H none) p1.rest p1.of_rest in
    let p3 = all_parts atoms H none p2.rest p2.of_rest in
    let s1 = seal_parts atoms (long_key holder) T p2.front p2.of_front in
    let t1 = all_parts atoms (plain for_client) (piece x (piece (plain form.cuid) (piece (plain form.suid) (piece form.key none)))) s1.body s1.body_is in
    let t2 = all_parts atoms x (piece (plain form.cuid) (piece (plain form.suid) (piece form.key none))) t1.rest t1.of_rest in
    let t3 = all_parts atoms (plain form.cuid) (piece (plain form.suid) (piece form.key none)) t2.rest t2.of_rest in
    let t4 = all_parts atoms (plain form.suid) (piece form.key none) t3.rest t3.of_rest in
    let t5 = all_parts atoms form.key none t4.rest t4.of_rest in
    let k = t5.front in
    let seven = form.seven k t5.of_front in
    let body = ticket_with for_client c form.cuid form.suid k in
    let of_body : spelling atoms T ≡ Ok body = ticket_spells atoms for_client form.cuid form.suid x form.key c k of_chal t5.of_front in
    let body_is : s1.body ≡ body = ok_same (sym s1.body_is ∙ of_body) in
    let key_is : s1.key ≡ key.des.0 = ok_same (sym s1.key_is ∙ ap atom_bytes of_key) in
    let long = ticket_long 65 c form.cuid form.suid k eight form.names.client_whole form.names.server_whole in
    let size : length body ≡ 72 = omega (arith, long, seven) in
    let S_is : p2.front ≡ sealed key.des.0 body = s1.is ∙ ap (λ k. sealed k s1.body) key_is ∙ ap (sealed key.des.0) body_is in
    let S_long : length (sealed key.des.0 body) ≡ 72 = length-sealed key.des.0 body (omega (arith, size)) ∙ size in
    let one : p1.front ≡ 4 ∷ [] = ok_same (sym p1.of_front) in
    let none_is : p3.rest ≡ [] = ok_same (sym p3.of_rest) in
    let behind_one : drop 1 a ≡ sealed key.des.0 body ++ p2.rest = ap (drop 1) (p1.parts ∙ ap (λ x. x ++ p1.rest) one) ∙ p2.parts ∙ ap (λ x. x ++ p2.rest) S_is in
    let H_is : p2.rest ≡ p3.front = p3.parts ∙ ap (λ x. p3.front ++ x) none_is ∙ append-nil p3.front in
    let undone : opened_bytes key.des.0 (ticket_part (drop 1 a)) ≡ body = ap (λ x. opened_bytes key.des.0 (take 72 x)) behind_one ∙ ap (opened_bytes key.des.0) (take_at (sealed key.des.0 body) p2.rest 72 S_long) ∙ sealed_undone key.des.0 body (omega (arith, size)) (tree_bytes atoms reads T held.1.0.1 body of_body) in
    record {
      key = k;
      spells = t5.of_front;
      seven = seven;
      same = opened_key 65 c form.cuid form.suid k t eight form.names.client_whole form.names.server_whole seven (ap ticket_of (sym undone) ∙ opens);
      rest = p3.front;
      handed_is = p3.of_front;
      behind = ap (drop 72) behind_one ∙ drop_at (sealed key.des.0 body) p2.rest 72 S_long ∙ H_is;
    }

handed_spells : (atoms : Atoms) → GivesBytes atoms → (number : ℕ) (holder : List ℕ) (key : SkKey) (Q u : Tree) (c r a : List ℕ) (t : Ticket) → bytes_of atoms (long_key holder) ≡ Some key.des.0 → IsAnswer atoms (own_by number holder) Q u → HoldsBytes u → spelling atoms u ≡ Ok a → spelling atoms (piece_of Q 3) ≡ Ok c → length c ≡ 8 → challenge_in r ≡ c → ticket_under key (ticket_part (drop 1 a)) ≡ Ok t → spelling atoms (handed_label u) ≡ Ok (handed r a t)
handed_spells atoms reads number holder key Q u c r a t of_key form holds spells of_chal eight stands opens =
    let k = answer_bytes atoms reads number holder key Q u c a t of_key form holds spells of_chal eight opens in
    let x = piece_of Q 3 in
    let A = authenticator by_client x in
    let proof = proof_with (67 ∷ []) c in
    let size = length-append c (0 ∷ 0 ∷ 0 ∷ 0 ∷ []) in
    let sealed_is : spelling atoms (seal form.key A) ≡ Ok (sealed k.key proof) = seal_spells atoms form.key A k.key proof k.spells (authenticator_spells atoms by_client x c of_chal) k.seven (omega (arith, size, eight)) in
    ap (λ u. spelling atoms (handed_label u)) form.is
    ∙ all_spell atoms form.handed (piece (seal form.key A) none) k.rest (sealed k.key proof ++ []) k.handed_is (all_spell atoms (seal form.key A) none (sealed k.key proof) [] sealed_is refl)
    ∙ ap (λ x. Ok (k.rest ++ x)) (append-nil (sealed k.key proof))
    ∙ ap (λ front. Ok (front ++ sealed k.key proof)) (sym k.behind)
    ∙ ap (λ key. Ok (rest_part (drop 1 a) ++ sealed key proof)) (sym k.same)
    ∙ ap (λ text. Ok (rest_part (drop 1 a) ++ sealed t.key.0 text)) (sym (authenticator_is 67 c))
    ∙ ap (λ c. Ok (rest_part (drop 1 a) ++ sealed t.key.0 (authenticator_text (record { num = 67; chal = c; id = 0 })))) (sym stands)

-- ---- each act

-- what the reading says of a conversation with a key for its role
pub record Reading (atoms : Atoms) (start : Start) (met : List Call) (number : ℕ) (holder : List ℕ) : Type 0 where
  pub bytes : GivesBytes atoms
  pub role : IsClientRole (role_of start.template)
  pub word : bytes_of atoms (nonce number) ≡ Some start.word
  pub keys : All IsMet met
  pub key : ReadsMet atoms client holder met

the_key : (atoms : Atoms) (start : Start) (met : List Call) (number : ℕ) (holder r : List ℕ) (q : TicketReq) (key : SkKey) → Reading atoms start met number holder → IsAsked met r q key → IsRingKey key × (bytes_of atoms (long_key holder) ≡ Some key.des.0)
the_key atoms start met number holder r q key read is =
    let of_key : ReadsMet atoms client holder (found key is.has.secret ∷ is.has.more) = subst (ReadsMet atoms client holder) is.has.is read.key in
    (All-head IsMet (found key is.has.secret) is.has.more (subst (All IsMet) is.has.is read.keys), of_key)

-- the question's challenge is the request's
question_chal : (own : Own) (t : Tree) (q : List ℕ) → piece_of (question_of own t q) 3 ≡ piece_of t 3
unfolding question_of
question_chal own t q = refl

-- whom a client asks to be fits a field
wanted_fits : (role : SkRole) (key : SkKey) → IsClientRole role → IsName 28 key.user → IsName 28 (wanted_user role key)
wanted_fits role key for_itself name = name
wanted_fits role key (for_another user fits) name = fits

question_spells : (atoms : Atoms) (own : Own) (start : Start) (t : Tree) (r : List ℕ) (q : TicketReq) (key : SkKey) → IsClientRole (role_of start.template) → IsRingKey key → RequestBytes atoms t r q → spelling atoms (question_of own t (question start key q)) ≡ Ok (question start key q)
unfolding question_of
question_spells atoms own start t r q key role ring b =
    let asks_for : TicketReq = record { kind = 1; authid = q.authid; authdom = q.authdom; chal = q.chal; hostid = key.user; uid = wanted_user (role_of start.template) key } in
    let fits : FitsRequest asks_for = record { authid = b.authid; authdom = b.authdom; chal = ap length b.read ∙ b.eight; hostid = ring.user.short; uid = wanted_fits (role_of start.template) key role ring.user.short } in
    request_is_spelled atoms asks_for (piece_of t 3) fits (b.spells ∙ ap Ok (sym b.read))

pub followed_in : (outer : Act) (ground : List Act) (g : Ground outer client ground) (start : Start) (met : List Call) (act : Act) (acts : List Act) → Next start ground met act acts → (atoms : Atoms) (number : ℕ) (holder : List ℕ) → Reading atoms start met number holder → (before : List Labelled) (a : Labelled) → a.act ≡ act → acts_in before ≡ acts → CleanActs atoms (own_by number holder) client (a ∷ before) → is_start act ≡ false →
    Follows atoms (own_by number holder) client (moves_by (own_by number holder) client before) (is_choosing (acts_in before)) a.act a.label (moves_for (own_by number holder) client (is_choosing (acts_in before)) (moves_by (own_by number holder) client before) a.act a.label)
followed_in outer ground g start met act acts it_greets atoms number holder read before a act_is acts_are clean no_start =
    let own = own_by number holder in
    as_follows atoms own client before a [] false (gave start.word) (gives own.word ∷ []) (g.still own before acts_are) (ap is_choosing acts_are ∙ g.quiet) act_is refl (gives_it start.word own.word client_challenge (ap atom_bytes read.word))
followed_in outer ground g start met act acts (it_takes r) atoms number holder read before a act_is acts_are clean no_start =
    let own = own_by number holder in
    let p = at_greeted atoms start outer ground g own before acts_are clean.1 in
    as_follows atoms own client before a (gives own.word ∷ []) false (took r) (takes a.label ∷ []) p.0 p.1 act_is refl (takes_it r client_request)
followed_in outer ground g start met act acts (it_refuses r cause) atoms number holder read before a act_is acts_are clean no_start =
    let own = own_by number holder in
    let p = at_took atoms start outer ground g own r before acts_are clean.1 in
    as_follows atoms own client before a (takes p.t ∷ gives own.word ∷ []) false (failed cause) (fails ∷ []) p.moves p.choosing act_is refl (fails_so cause)
followed_in outer ground g start met act acts (it_asks r q key is) atoms number holder read before a act_is acts_are clean no_start =
    let own = own_by number holder in
    let Q = question start key q in
    let p = at_took atoms start outer ground g own r before acts_are clean.1 in
    let form : IsRequest ticket_request p.t = subst (IsFormed atoms own client) p.moves (clean.0.formed (ap goes_on act_is)) in
    let b = request_bytes atoms p.t r q form p.spells is.size is.is in
    let ring = (the_key atoms start met number holder r q key read is).0 in
    as_follows atoms own client before a (takes p.t ∷ gives own.word ∷ []) false (asked Q) (asks (question_of own p.t Q) ∷ []) p.moves p.choosing act_is (ap if_some (question_gift own p.t Q form))
    (asks_it Q (question_of own p.t Q) (question_row own p.t Q form) (question_spells atoms own start p.t r q key read.role ring b))
followed_in outer ground g start met act acts (it_hears r q key b) atoms number holder read before a act_is acts_are clean no_start =
    let own = own_by number holder in
    let p = at_asked atoms start outer ground g own r q key before acts_are clean.1 in
    as_follows atoms own client before a (asks (question_of own p.t (question start key q)) ∷ takes p.t ∷ gives own.word ∷ []) false (answered b) (hears a.label ∷ []) p.moves p.choosing act_is refl (hears_it b client_answer)
followed_in outer ground g start met act acts (it_hears_none r q key) atoms number holder read before a act_is acts_are clean no_start =
    let own = own_by number holder in
    let p = at_asked atoms start outer ground g own r q key before acts_are clean.1 in
    as_follows atoms own client before a (asks (question_of own p.t (question start key q)) ∷ takes p.t ∷ gives own.word ∷ []) false unanswered [] p.moves p.choosing act_is refl hears_none
followed_in outer ground g start met act acts (it_is_denied r q key i cause) atoms number holder read before a act_is acts_are clean no_start =
    let own = own_by number holder in
    as_follows atoms own client before a (moves_by own client before) (is_choosing (acts_in before)) (failed cause) (fails ∷ []) refl refl act_is refl (fails_so cause)
followed_in outer ground g start met act acts (it_shows r q key b t is heard_it) atoms number holder read before a act_is acts_are clean no_start =
    let own = own_by number holder in
    let Q = question start key q in
    let p = at_heard atoms start outer ground g own r q key b before acts_are clean.1 in
    let form : IsAnswer atoms own (question_of own p.t Q) p.u = subst (IsFormed atoms own client) p.moves (clean.0.formed (ap goes_on act_is)) in
    let rb = request_bytes atoms p.t r q p.form p.spells is.size is.is in
    let of_key = (the_key atoms start met number holder r q key read is).1 in
    let chal : spelling atoms (piece_of (question_of own p.t Q) 3) ≡ Ok rb.chal = ap (spelling atoms) (question_chal own p.t Q) ∙ rb.spells in
    as_follows atoms own client before a (hears p.u ∷ asks (question_of own p.t Q) ∷ takes p.t ∷ gives own.word ∷ []) false (gave (handed r b t)) (gives (handed_label p.u) ∷ []) p.moves p.choosing act_is (ap if_some (handed_gift atoms own p.t p.u Q (names_in (handed r b t)) form))
    (gives_it (handed r b t) (handed_label p.u) (handed_row atoms own p.t p.u Q form) (handed_spells atoms read.bytes number holder key (question_of own p.t Q) p.u rb.chal r b t of_key form p.holds p.answer chal rb.eight rb.stands heard_it.opens))
followed_in outer ground g start met act acts (it_takes_proof r q key b t m) atoms number holder read before a act_is acts_are clean no_start =
    let own = own_by number holder in
    let p = at_shown atoms start outer ground g own r q key b t before acts_are clean.1 in
    as_follows atoms own client before a (gives (handed_label p.u) ∷ hears p.u ∷ asks (question_of own p.t (question start key q)) ∷ takes p.t ∷ gives own.word ∷ []) false (took m) (takes a.label ∷ []) p.moves p.choosing act_is refl (takes_it m client_proof)
followed_in outer ground g start met act acts (it_breaks r q key b t m cause) atoms number holder read before a act_is acts_are clean no_start =
    let own = own_by number holder in
    let p = at_proven atoms start outer ground g own r q key b t m before acts_are clean.1 in
    as_follows atoms own client before a (moves_by own client before) (is_choosing (acts_in before)) (failed cause) (fails ∷ []) refl refl act_is refl (fails_so cause)
followed_in outer ground g start met act acts (it_accepts r q key b t m cuid suid) atoms number holder read before a act_is acts_are clean no_start =
    let own = own_by number holder in
    let Q = question start key q in
    let p = at_proven atoms start outer ground g own r q key b t m before acts_are clean.1 in
    let is : p.m ≡ server_message (piece_of (opened p.u) 4) own.word = subst (IsFormed atoms own client) p.moves (clean.0.formed (ap goes_on act_is)) in
    as_follows atoms own client before a (takes p.m ∷ gives (handed_label p.u) ∷ hears p.u ∷ asks (question_of own p.t Q) ∷ takes p.t ∷ gives own.word ∷ []) false (accepted cuid suid) (accepts (bytes (piece_of (opened p.u) 3)) ∷ []) p.moves p.choosing act_is refl (accepts_it cuid suid (bytes (piece_of (opened p.u) 3)) (λ serves. absurd (cc)) (accepts_row atoms own p.t p.u p.m Q p.form is))
followed_in outer ground g start met act acts (it_is_told r q key b t m more rest) atoms number holder read before a act_is acts_are clean no_start =
    let own = own_by number holder in
    let p = ended_in atoms start outer ground g own r q key b t m acts rest before acts_are clean.1 in
    as_follows atoms own client before a (p.p1 ∷ p.p2 ∷ p.p3 ∷ p.p4 ∷ p.p5 ∷ p.p6 ∷ p.p7 ∷ []) false (took more) [] p.moves p.choosing act_is refl (takes_none more)

-- ---- p9sk1 alone

-- its start
abbrev IsStart : Start → Act → List Act → Type 0
IsStart start act acts = (act ≡ first start) × (acts ≡ [])

seeks_none : (start : Start) (role : SkRole) → IsClientRole role → is_sought (sk.need_at start (at (sk.first_stage role))) ≡ false
seeks_none start role for_itself = refl
seeks_none start role (for_another user name) = refl

first_alone : (start : Start) (act : Act) → IsClientRole (role_of start.template) → acts_from (speaks P9sk1 start) act [] ≡ act ∷ []
first_alone start act role = ap (λ (b : Bool). if b then [] else act ∷ []) (seeks_none start (role_of start.template) role)

nexts : (spoken : Spoken) → IsClient spoken.start → (acts : List Act) → IsTalk spoken acts → Each (Comes spoken.start (first spoken.start ∷ []) spoken.met (IsStart spoken.start)) acts
nexts spoken is acts t =
    let start = spoken.start in
    let P = Comes start (first start ∷ []) spoken.met (IsStart start) in
    let mets : Met start t.talk ≡ spoken.met = sym (ap (λ p. met_by (speaks p start) t.talk) is.p9sk1) ∙ t.met in
    let all : acts_from (speaks P9sk1 start) (first start) t.talk ≡ t.later ++ acts = sym (ap (λ p. acts_from (speaks p start) (started_by start) t.talk) is.p9sk1 ∙ ap (λ f. acts_from (speaks P9sk1 start) f t.talk) (first_is start is)) ∙ t.left in
    let left : Acts start (first start) t.talk ++ (first start ∷ []) ≡ t.later ++ acts = ap (λ xs. Acts start (first start) t.talk ++ xs) (sym (first_alone start (first start) is.client)) ∙ sym (above_all (speaks P9sk1 start) (first start) t.talk) ∙ all in
    each_behind P t.later acts (subst (Each P) left (all_next start (first start) (first start ∷ []) spoken.met [] (IsStart start) t.talk (inr (refl, refl), tt) (sym mets ∙ sym (append-nil (Met start t.talk))) (stands start (first start) is.client t.talk)))

begins_so : (start : Start) (met : List Call) (act : Act) (acts : List Act) → Comes start (first start ∷ []) met (IsStart start) act acts → BeginsWith (first start) (act ∷ acts)
begins_so start met act acts (inl next) = begins_with (first start) start (first start ∷ []) met act acts refl next
begins_so start met act acts (inr is) = subst (λ xs. BeginsWith (first start) (act ∷ xs)) (sym is.1) is.0

orderly : (spoken : Spoken) → IsClient spoken.start → IsOrderlyTalk spoken
orderly spoken is act acts t = subst (λ f. BeginsWith f (act ∷ acts)) (sym (first_is spoken.start is)) (begins_so spoken.start spoken.met act acts (nexts spoken is (act ∷ acts) t).0)

follows_so : (start : Start) (met : List Call) (act : Act) (acts : List Act) → Comes start (first start ∷ []) met (IsStart start) act acts → (atoms : Atoms) (number : ℕ) (holder : List ℕ) → Reading atoms start met number holder → (before : List Labelled) (a : Labelled) → a.act ≡ act → acts_in before ≡ acts → CleanActs atoms (own_by number holder) client (a ∷ before) → is_start act ≡ false →
    Follows atoms (own_by number holder) client (moves_by (own_by number holder) client before) (is_choosing (acts_in before)) a.act a.label (moves_for (own_by number holder) client (is_choosing (acts_in before)) (moves_by (own_by number holder) client before) a.act a.label)
follows_so start met act acts (inl next) atoms number holder read before a act_is acts_are clean no_start = followed_in (first start) (first start ∷ []) (sk_ground (part_as (role_of start.template)) start.word client) start met act acts next atoms number holder read before a act_is acts_are clean no_start
follows_so start met act acts (inr is) atoms number holder read before a act_is acts_are clean no_start = absurd (let both : true ≡ false = sym (ap is_start is.0) ∙ no_start in cc)

-- the part that a client names
client_part : (role : SkRole) → IsClientRole role → role_by protocol.P9sk1 (part_as role) ≡ client
client_part role for_itself = refl
client_part role (for_another user name) = refl

of_this_role : (start : Start) (role : Role) → IsClient start → role_in (started_by start) role → role ≡ client
of_this_role start role is in_it =
    let so : role ≡ role_by protocol.P9sk1 (part_as (role_of start.template)) = subst (λ act. role_in act role) (first_is start is) in_it in
    so ∙ client_part (role_of start.template) is.client

followed : (spoken : Spoken) → IsClient spoken.start → IsFollowed spoken
followed spoken is atoms number holder role read before a t clean no_start =
    let role_so = of_this_role spoken.start role is read.of_start in
    let word = subst (λ role. ReadsWord atoms role number spoken.start.word) role_so read.word in
    let key = subst (ReadsKept atoms client holder) (sk_kept spoken (a.act ∷ acts_in before) is.p9sk1 t) (subst (λ role. ReadsKept atoms role holder spoken.key) role_so read.key) in
    subst (λ role. Follows atoms (own_by number holder) role (moves_by (own_by number holder) role before) (is_choosing (acts_in before)) a.act a.label (moves_for (own_by number holder) role (is_choosing (acts_in before)) (moves_by (own_by number holder) role before) a.act a.label)) (sym role_so)
    (follows_so spoken.start spoken.met a.act (acts_in before) (nexts spoken is (a.act ∷ acts_in before) t).0 atoms number holder (record { bytes = read.bytes; role = is.client; word = word; keys = t.may.keys; key = key }) before a refl refl (subst (λ role. CleanActs atoms (own_by number holder) role (a ∷ before)) role_so clean) no_start)

-- a p9sk1 client is lawful, for itself or speaking for another
pub client_is_lawful : (spoken : Spoken) → IsClient spoken.start → IsLawful spoken
client_is_lawful spoken is = record { orderly = orderly spoken is; followed = followed spoken is }
