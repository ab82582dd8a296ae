-- The symbolic run of a labelled history, event by event. What is taken has its label; the tree of what is given is
-- computed from what was done before (authsrv(6) of the Plan 9 manual), with the names of a request as they stand in
-- its bytes. Before p9any has chosen, what is given are bytes that anybody may know. A message behind a
-- conversation's last move, which is told that it is done, is no event.
use Rattle.std.specs.Prelude.{ℕ, ◌==◌, List, [], ◌∷◌, ◌++◌, Bool, true, false, length, take, map, Option, Some, None, Result, Ok, Err, if◌then◌else◌}
use Rattle.std.specs.List.{list_any}
use Rattle.wire_base.specs.Names.{name_field}
use Rattle.symbolic_runs.specs.declared.kind.MacKind.{MacKind}
use Rattle.symbolic_runs.specs.declared.kind.MacKind.TheVariants as mac
use Rattle.symbolic_runs.specs.Trees.{Tree, plain}
use Rattle.sealing.specs.Fields.{field}
use Rattle.sealing.specs.Request.{request_of}
use Rattle.sealing.specs.declared.fault.FieldFault.{FieldFault}
use Rattle.sealing.specs.declared.request.TicketReq.{TicketReq}
use Rattle.auth_server.specs.Requests.{kind_of}
use Rattle.conv_p9any.specs.Offers.{consents}
use Rattle.wire_histories.specs.declared.step.Protocol.{Protocol}
use Rattle.wire_histories.specs.declared.step.Protocol.TheVariants.{P9sk1, P9any, Apop, Cram}
use Rattle.wire_histories.specs.declared.step.Role.{Role as Part}
use Rattle.wire_histories.specs.declared.step.Role.TheVariants as part
use Rattle.wire_histories.specs.declared.step.Step.{Step}
use Rattle.wire_histories.specs.declared.step.Step.TheVariants.{Start, Out, In, Ask, Heard, Unheard, Accept, Fail, Reply, Refused, AsGot, AsGave, AsEnd, Restart, Reload}
use Rattle.symbolic_runs.specs.Forms.{Fields}
use Rattle.symbolic_runs.specs.Moves.{Role, client, server, mail_client, mail_server, Move, takes, hears, gives, accepts, fails, Own}
use Rattle.symbolic_runs.specs.Sessions.{keys, key_and_password, Grant, Deed, got, gives_tickets, gives_challenge, gives_vouch, refuses, held}
use Rattle.symbolic_runs.specs.Gifts.{bytes, next_gift, opened, part as piece_of, shown}
use Rattle.symbolic_runs.specs.Runs.{Setting as Symbolic, Event, starts, talks, moves, serves, Run, own_of}
use Rattle.wire_histories.specs.Histories.{History, Act, started, gave, took, asked, answered, unanswered, accepted, failed, Deal, requested, replied, ended, reloads_in}
use Rattle.wire_histories.specs.Legal.{Setting, known_at}
use Rattle.clean_runs.specs.KeyNames.{key_name, known_name, speakers}
use Rattle.clean_runs.specs.Labels.{Labelling, Labelled, Dealt, starts_in, requests_in, started_as, opened_as, or_so, or_zero, labelled, dealt}

-- ---- roles and holders of the conversations by the numbers of their starts

abbrev pub role_by : Protocol → Part → Role
role_by P9sk1 part.Client = client
role_by P9sk1 part.Server = server
role_by P9sk1 part.Speakfor = client
role_by P9any part.Client = client
role_by P9any part.Server = server
role_by P9any part.Speakfor = client
role_by Apop part.Client = mail_client mac.Apop
role_by Apop part.Server = mail_server mac.Apop
role_by Apop part.Speakfor = mail_client mac.Apop
role_by Cram part.Client = mail_client mac.Cram
role_by Cram part.Server = mail_server mac.Cram
role_by Cram part.Speakfor = mail_client mac.Cram

abbrev pub role_at : History → ℕ → Role
role_at [] number = client
role_at (Start conv protocol role word ∷ past) number =
    if starts_in past == number then role_by protocol role
    else role_at past number
role_at (step ∷ past) number = role_at past number

abbrev pub holder_at : Labelling → History → ℕ → List ℕ
holder_at l [] number = []
holder_at l (Start conv protocol role word ∷ past) number =
    if starts_in past == number then l.holder conv
    else holder_at l past number
holder_at l (step ∷ past) number = holder_at l past number

-- ---- what was used and granted at each request

abbrev pub name_where : Bool → Option (List ℕ) → Option (List ℕ)
name_where may name = if may then name else None

-- a ticket request uses the keys of the server and of the host, where the host may speak for the user; a mail request
-- the key of the server and the password of the user. These are told by their key names in the tables of a number,
-- which are in force. The challenge is that of the request's label, the names are written anew
abbrev pub tickets_for : Setting → ℕ → TicketReq → Tree → Grant
tickets_for z number r label = record {
  used = keys (name_where ((known_at z number).speaks r.hostid r.uid) (known_name z number r.authid))
      (name_where ((known_at z number).speaks r.hostid r.uid) (known_name z number r.hostid));
  speakers = speakers z number r.uid;
  chal = piece_of label 3;
  host = name_field 28 r.hostid;
  user = name_field 28 r.uid;
}

abbrev pub vouch_for : Setting → ℕ → TicketReq → Tree → Grant
vouch_for z number r label = record {
  used = key_and_password (known_name z number r.authid) (key_name z.tables number r.uid);
  speakers = speakers z number r.uid;
  chal = piece_of (piece_of label 0) 3;
  host = name_field 28 r.uid;
  user = name_field 28 r.uid;
}

-- a request that can't be read grants nothing
abbrev pub nothing_granted : Grant
nothing_granted = record { used = keys None None; speakers = []; chal = plain []; host = []; user = [] }

abbrev pub grant_by : Setting → ℕ → Result TicketReq FieldFault → Tree → Grant
grant_by z tables (Ok r) label = if r.kind == 1 then tickets_for z tables r label else vouch_for z tables r label
grant_by z tables (Err fault) label = nothing_granted

abbrev pub grant_at : Setting → Labelling → History → ℕ → Grant
grant_at z l [] number = nothing_granted
grant_at z l (AsGot session b words ∷ past) number =
    if requests_in past == number then grant_by z (reloads_in past) (request_of b) (l.label (length past))
    else grant_at z l past number
grant_at z l (step ∷ past) number = grant_at z l past number

-- the setting of the run
abbrev pub setting_of : Setting → Labelling → History → Symbolic
setting_of z l history = record {
  compromised = l.compromised;
  domain = z.dom;
  role = role_at history;
  holder = holder_at l history;
  grants = grant_at z l history;
}

-- ---- what a conversation does, move by move

-- p9any is choosing still: a server gives its list and takes the choice; a client takes the list, gives the choice,
-- and takes the consent of a server that said it would give one
abbrev pub is_choosing : List Act → Bool
is_choosing (started P9any role word ∷ []) = true
is_choosing (act ∷ started P9any role word ∷ []) = true
is_choosing (gave choice ∷ took list ∷ started P9any role word ∷ []) = consents list
is_choosing acts = false

abbrev pub acts_in : List Labelled → List Act
acts_in labels = map (λ a. a.act) labels

-- the names that stand in the bytes of a request
abbrev pub names_in : List ℕ → Fields
names_in b = record { authid = field 1 28 b; authdom = field 29 48 b; hostid = field 85 28 b; uid = field 113 28 b }

-- the turns in which a role takes a message
abbrev pub turns_that_take : Role → List ℕ
turns_that_take client = 1 ∷ 5 ∷ []
turns_that_take server = 0 ∷ 2 ∷ []
turns_that_take (mail_client kind) = 0 ∷ []
turns_that_take (mail_server kind) = 3 ∷ 4 ∷ []

abbrev pub takes_now : Role → List Move → Bool
takes_now role before = list_any (λ turn. turn == length before) (turns_that_take role)

-- the field of the user in the ticket by which a conversation accepts
abbrev pub accepted_field : Role → List Move → List ℕ
accepted_field client (takes m ∷ gives g ∷ hears a ∷ before) = bytes (piece_of (opened a) 3)
accepted_field server (takes m ∷ before) = bytes (piece_of (shown m) 3)
accepted_field (mail_server kind) (hears a ∷ before) = bytes (piece_of (opened a) 3)
accepted_field role before = []

abbrev pub if_some : {A : Type 0} → Option A → List A
if_some (Some a) = a ∷ []
if_some None = []

-- the moves of an act, behind those before it
abbrev pub moves_for : Own → Role → Bool → List Move → Act → Tree → List Move
moves_for own role choosing before (started protocol by word) label = []
moves_for own role choosing before (gave b) label =
    if choosing then []
    else if_some (next_gift own role before (names_in b))
moves_for own role choosing before (took b) label =
    if choosing then []
    else if takes_now role before then takes label ∷ []
    else []
moves_for own role choosing before (asked b) label = if_some (next_gift own role before (names_in b))
moves_for own role choosing before (answered b) label = hears label ∷ []
moves_for own role choosing before unanswered label = []
moves_for own role choosing before (accepted cuid suid) label = accepts (accepted_field role before) ∷ []
moves_for own role choosing before (failed cause) label = fails ∷ []

abbrev pub moves_by : Own → Role → List Labelled → List Move
moves_by own role [] = []
moves_by own role (a ∷ before) = moves_for own role (is_choosing (acts_in before))
    (moves_by own role before) a.act a.label ++ moves_by own role before

-- ---- what a session does, deed by deed

-- the kind of a mail request, by its first byte
abbrev pub mail_kind : List ℕ → MacKind
mail_kind request = if kind_of request == 7 then mac.Apop else mac.Cram

-- the request that is answered: the newest
abbrev pub is_request : Deal → Option (List ℕ)
is_request (requested tables b words) = Some b
is_request (replied b) = None
is_request ended = None

-- a vouch is for an answer to the challenge that the session holds
abbrev pub vouch_deed : MacKind → ℕ → Option ℕ → List ℕ → Deed
vouch_deed kind number (Some first) b = gives_vouch kind number first
vouch_deed kind number None b = refuses number b

-- what an answer is to a request of a number: two tickets, a vouch, a challenge, or a refusal
abbrev pub deed_by : List Deed → ℕ → List ℕ → List ℕ → Deed
deed_by before number request b =
    if kind_of b == 9 then gives_challenge (mail_kind request) number (take 6 b)
    else if kind_of b == 4
    then (if kind_of request == 1 then gives_tickets number
    else vouch_deed (mail_kind request) number (held before (mail_kind request)) b)
    else refuses number b

abbrev pub deeds_answering : List Deed → List Dealt → List ℕ → List Deed
deeds_answering before [] b = []
deeds_answering before (d ∷ older) b = map (λ request. deed_by before d.number request b) (if_some (is_request d.deal))

abbrev pub deeds_for_deal : List Deed → List Dealt → Deal → ℕ → Tree → List Deed
deeds_for_deal before older (requested tables b words) number label = got number label ∷ []
deeds_for_deal before older (replied b) number label = deeds_answering before older b
deeds_for_deal before older ended number label = []

abbrev pub deeds_for : List Deed → List Dealt → Dealt → List Deed
deeds_for before older d = deeds_for_deal before older d.deal d.number d.label

abbrev pub deeds_by : List Dealt → List Deed
deeds_by [] = []
deeds_by (d ∷ older) = deeds_for (deeds_by older) older d ++ deeds_by older

-- ---- the run

-- the number of a conversation, and of a session: that of its first request
abbrev pub number_of : List ℕ → History → ℕ
number_of name past = or_zero (started_as name past)

abbrev pub session_number : List ℕ → History → ℕ
session_number name past = or_zero (or_so (opened_as name past) (Some (requests_in past)))

-- while p9any is choosing, what is given are bytes that anybody may know
abbrev pub talk_events : ℕ → Bool → Act → List Event
talk_events number choosing (gave b) = if choosing then talks number b ∷ [] else []
talk_events number choosing act = []

abbrev pub conv_events : Symbolic → Labelling → History → List ℕ → Act → List Event
conv_events s l past conv act =
    talk_events (number_of conv past) (is_choosing (acts_in (labelled l conv past))) act
    ++ map (moves (number_of conv past))
    (moves_for (own_of s (number_of conv past)) (s.role (number_of conv past))
    (is_choosing (acts_in (labelled l conv past)))
    (moves_by (own_of s (number_of conv past)) (s.role (number_of conv past)) (labelled l conv past)) act
    (l.label (length past)))

abbrev pub session_events : Labelling → History → List ℕ → Deal → List Event
session_events l past session deal =
    map (serves (session_number session past))
    (deeds_for_deal (deeds_by (dealt l session past)) (dealt l session past) deal (requests_in past)
    (l.label (length past)))

-- the events of a step
abbrev pub events_of : Symbolic → Labelling → History → Step → List Event
events_of s l past (Start conv protocol role word) = starts ∷ []
events_of s l past (Out number conv b) = conv_events s l past conv (gave b)
events_of s l past (In conv b) = conv_events s l past conv (took b)
events_of s l past (Ask number conv b) = conv_events s l past conv (asked b)
events_of s l past (Heard conv b) = conv_events s l past conv (answered b)
events_of s l past (Unheard conv) = conv_events s l past conv unanswered
events_of s l past (Accept conv cuid suid) = conv_events s l past conv (accepted cuid suid)
events_of s l past (Fail conv cause) = conv_events s l past conv (failed cause)
events_of s l past (Reply conv answer) = []
events_of s l past (Refused node answer) = []
events_of s l past (AsGot session b words) = session_events l past session (requested (reloads_in past) b words)
events_of s l past (AsGave number session b) = session_events l past session (replied b)
events_of s l past (AsEnd session) = session_events l past session ended
events_of s l past (Restart node) = []
events_of s l past Reload = []

abbrev pub run_from : Symbolic → Labelling → History → Run
run_from s l [] = []
run_from s l (step ∷ past) = events_of s l past step ++ run_from s l past

abbrev pub run_of : Setting → Labelling → History → Run
run_of z l history = run_from (setting_of z l history) l history
