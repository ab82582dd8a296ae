-- What a p9sk1 client's talk may leave: its start, its challenge, the server's request and its question, the answer, the ticket
-- that it hands on, the server's proof, and its acceptance.
use Rattle.std.proofs.Common.{◌≡◌, ℕ, List, [], ◌∷◌, ◌++◌, Bool, true, false, Option, Some, None, Result, Ok, Err, nat_lt, length, drop, slice_index, not, ◌&&◌, ◌==◌, if◌then◌else◌, refl, sym, ap, subst, ◌∙◌}
use Rattle.std.proofs.lemmas.Bool.{and_parts, eqb-true}
use Rattle.wire_base.specs.Names.{IsName}
use Rattle.wire_base.specs.Rules.{first_told}
use Rattle.sealing.specs.Request.{request_of}
use Rattle.sealing.specs.declared.fault.FieldFault.{FieldFault}
use Rattle.sealing.specs.declared.kind.TheConstants.{AUTH_OK, AUTH_AS}
use Rattle.sealing.specs.declared.request.TicketReq.{TicketReq}
use Rattle.sealing.specs.declared.ticket.Ticket.{Ticket}
use Rattle.roles.specs.declared.answer.Cause.{Cause}
use Rattle.roles.specs.declared.answer.Cause.TheVariants.{WrongKind, ServerSaidNo, NoServer, NoRoom, BadKey}
use Rattle.roles.specs.declared.answer.Gave.{Gave}
use Rattle.roles.specs.declared.answer.Gave.TheVariants as g
use Rattle.roles.specs.declared.answer.PhaseWord.TheVariants.{AwaitsRead, AwaitsWrite, Broken as IsBroken}
use Rattle.roles.specs.declared.key.SkKey.{SkKey}
use Rattle.roles.specs.declared.need.Need.TheVariants.{Nothing}
use Rattle.roles.specs.declared.need.Outcome.TheVariants.{Running}
use Rattle.roles.specs.declared.stage.Role.{Role}
use Rattle.roles.specs.declared.stage.Role.TheVariants.{Client, Speakfor}
use Rattle.roles.specs.declared.stage.Stage.{Stage}
use Rattle.roles.specs.declared.stage.Stage.TheVariants.{ClientFirst, ClientSecond, ClientKey, ClientAsk, ClientThird, ClientFourth, ClientDone}
use Rattle.roles.specs.Answers.{is_sought}
use Rattle.roles.specs.Clients.{answer_came, grants_tickets, handed_on, is_refusal, proof_came, proof_tests, question_for, request_came, request_tests, ticket_tests, tickets_came}
use Rattle.roles.specs.Courses.{accepted as outcome_by, answer_need, key_need, refusal}
use Rattle.roles.specs.Courses as sk
use Rattle.roles.specs.Starts.{Start, role_of}
use Rattle.roles.specs.Talks.{Call, Verdict, give, get, found, heard, unheard, roomless, undone, offered, picked, goes, stays, breaks, sized, tested, unless_told}
use Rattle.roles.specs.Tickets.{proof_under, ticket_part, ticket_under, with_request, with_ticket}
use Rattle.talks.specs.Protocols.{P9sk1}
use Rattle.talks.specs.Lines.{cause_text}
use Rattle.wire_histories.specs.Histories.{Act, gave, took, asked, answered, unanswered, accepted, failed}
use Rattle.wire_histories.specs.Conversations.{asks_by, end_by, if_found, is_asked, is_taken, meets, speaks, waiting}
use Rattle.clean_runs.proofs.LeftLemmas.{at, left_at, sk_goes}
use Rattle.clean_runs.proofs.SkServers.{Sized, Told, acts, acts_more, at_once, fallen, few, is_sought_at, many, met, met_more, refused_is_taken, sized_by, told, well}

-- its question, and what it hands on
abbrev pub question : Start → SkKey → TicketReq → List ℕ
question start key request = question_for (role_of start.template) key request

-- its acts, one behind the other, on what stands before them
abbrev pub greeting : Start → List Act → List Act
greeting start ground = gave start.word ∷ ground

abbrev pub asked_acts : Start → List Act → List ℕ → TicketReq → SkKey → List Act
asked_acts start ground r request key = asked (question start key request) ∷ took r ∷ greeting start ground

abbrev pub heard_acts : Start → List Act → List ℕ → TicketReq → SkKey → List ℕ → List Act
heard_acts start ground r request key a = answered a ∷ asked_acts start ground r request key

abbrev pub handed : List ℕ → List ℕ → Ticket → List ℕ
handed r a t = handed_on r (drop 1 a) t

abbrev pub shown_acts : Start → List Act → List ℕ → TicketReq → SkKey → List ℕ → Ticket → List Act
shown_acts start ground r request key a t = gave (handed r a t) ∷ heard_acts start ground r request key a

abbrev pub accepted_acts : Start → List Act → List ℕ → TicketReq → SkKey → List ℕ → Ticket → List ℕ → List Act
accepted_acts start ground r request key a t p = accepted t.cuid t.suid ∷ took p ∷ shown_acts start ground r request key a t

-- what came in the place of an answer that served: an answer, none, or one for which there was no memory
pub data Instead : Type 0 where
  by_answer : List ℕ → Instead
  by_none : Instead
  by_no_room : Instead

abbrev pub instead : Instead → List Act
instead (by_answer a) = answered a ∷ []
instead by_none = unanswered ∷ []
instead by_no_room = []

-- how it stands behind a talk
pub data Stands (start : Start) (first : Act) (talk : List Call) : Type 0 where
  begun : sk.course start talk ≡ at ClientFirst → acts start first talk ≡ [] → met start talk ≡ [] → Stands start first talk
  second : sk.course start talk ≡ at ClientSecond → acts start first talk ≡ greeting start [] → met start talk ≡ [] → Stands start first talk
  refused : (r : List ℕ) (cause : Cause) → sk.course start talk ≡ fallen ClientSecond cause → acts start first talk ≡ failed (cause_text cause) ∷ took r ∷ greeting start [] → met start talk ≡ [] → Stands start first talk
  keyless : (r : List ℕ) (request : TicketReq) → request_of r ≡ Ok request → length r ≡ 141 → sk.course start talk ≡ at (ClientKey r) → acts start first talk ≡ greeting start [] → waiting (speaks P9sk1 start) first talk ≡ took r → met start talk ≡ [] → Stands start first talk
  asking : (r : List ℕ) (request : TicketReq) (key : SkKey) (secret : Option (List ℕ)) → request_of r ≡ Ok request → length r ≡ 141 → sk.course start talk ≡ at (ClientAsk r key) → acts start first talk ≡ asked_acts start [] r request key → met start talk ≡ found key secret ∷ [] → Stands start first talk
  denied : (r : List ℕ) (request : TicketReq) (key : SkKey) (secret : Option (List ℕ)) (i : Instead) (cause : Cause) → request_of r ≡ Ok request → length r ≡ 141 → sk.course start talk ≡ fallen (ClientAsk r key) cause → acts start first talk ≡ failed (cause_text cause) ∷ (instead i ++ asked_acts start [] r request key) → met start talk ≡ found key secret ∷ [] → Stands start first talk
  ready : (r : List ℕ) (request : TicketReq) (key : SkKey) (secret : Option (List ℕ)) (a : List ℕ) (t : Ticket) → request_of r ≡ Ok request → length r ≡ 141 → length a ≡ 145 → ticket_under key (ticket_part (drop 1 a)) ≡ Ok t → sk.course start talk ≡ at (ClientThird r key (drop 1 a)) → acts start first talk ≡ heard_acts start [] r request key a → met start talk ≡ found key secret ∷ [] → Stands start first talk
  showing : (r : List ℕ) (request : TicketReq) (key : SkKey) (secret : Option (List ℕ)) (a : List ℕ) (t : Ticket) → request_of r ≡ Ok request → length r ≡ 141 → length a ≡ 145 → ticket_under key (ticket_part (drop 1 a)) ≡ Ok t → sk.course start talk ≡ at (ClientFourth r key (drop 1 a)) → acts start first talk ≡ shown_acts start [] r request key a t → met start talk ≡ found key secret ∷ [] → Stands start first talk
  deceived : (r : List ℕ) (request : TicketReq) (key : SkKey) (secret : Option (List ℕ)) (a : List ℕ) (t : Ticket) (p : List ℕ) (cause : Cause) → request_of r ≡ Ok request → length r ≡ 141 → length a ≡ 145 → ticket_under key (ticket_part (drop 1 a)) ≡ Ok t → sk.course start talk ≡ fallen (ClientFourth r key (drop 1 a)) cause → acts start first talk ≡ failed (cause_text cause) ∷ took p ∷ shown_acts start [] r request key a t → met start talk ≡ found key secret ∷ [] → Stands start first talk
  done : (r : List ℕ) (request : TicketReq) (key : SkKey) (secret : Option (List ℕ)) (a : List ℕ) (t : Ticket) (p : List ℕ) → request_of r ≡ Ok request → length r ≡ 141 → length a ≡ 145 → ticket_under key (ticket_part (drop 1 a)) ≡ Ok t → sk.course start talk ≡ at (ClientDone r key (drop 1 a) p) → Told (accepted_acts start [] r request key a t p) (acts start first talk) → met start talk ≡ found key secret ∷ [] → Stands start first talk

-- what a call leaves that breaks the conversation by its bytes
pub broken_left : (b : List ℕ) (cause : Cause) → failed (cause_text cause) ∷ (if is_taken (refusal cause) && true then took b ∷ [] else []) ≡ failed (cause_text cause) ∷ took b ∷ []
broken_left b cause = ap (λ (t : Bool). failed (cause_text cause) ∷ (if t && true then took b ∷ [] else [])) (refused_is_taken cause)

-- ---- nothing came so far

begun_stays : (start : Start) (first : Act) (before : List Call) (call : Call) (given : Gave) → sk.verdict start (at ClientFirst) call ≡ stays given → left_at (sk.need_at start) sk.outcome_at (at ClientFirst) (stays given) (waiting (speaks P9sk1 start) first before) call ≡ [] → meets (sk.need_at start (at ClientFirst)) call ≡ false → sk.course start before ≡ at ClientFirst → acts start first before ≡ [] → met start before ≡ [] → Stands start first (call ∷ before)
begun_stays start first before call given moves leaves no_need here stood has = begun
    (sk_goes start before call (at ClientFirst) (stays given) here moves)
    (acts_more start first before call (at ClientFirst) (stays given) [] [] here moves leaves stood)
    (met_more start before call (at ClientFirst) false ([]) here no_need has)

begun_then : (start : Start) (first : Act) (before : List Call) → sk.course start before ≡ at ClientFirst → acts start first before ≡ [] → met start before ≡ [] → (call : Call) → Stands start first (call ∷ before)
begun_then start first before here stood has (give b) = begun_stays start first before (give b) (g.Phase AwaitsRead) refl refl refl here stood has
begun_then start first before here stood has get = second
    (sk_goes start before get (at ClientFirst) (goes ClientSecond g.Ok start.word) here refl)
    (acts_more start first before get (at ClientFirst) (goes ClientSecond g.Ok start.word) (gave start.word ∷ []) [] here refl refl stood)
    (met_more start before get (at ClientFirst) false [] here refl has)
begun_then start first before here stood has (found other more) = begun_stays start first before (found other more) (g.Phase AwaitsRead) refl refl refl here stood has
begun_then start first before here stood has (heard b) = begun_stays start first before (heard b) (g.Phase AwaitsRead) refl refl refl here stood has
begun_then start first before here stood has unheard = begun_stays start first before unheard (g.Phase AwaitsRead) refl refl refl here stood has
begun_then start first before here stood has roomless = begun_stays start first before roomless (g.Phase AwaitsRead) refl refl refl here stood has
begun_then start first before here stood has undone = begun_stays start first before undone (g.Phase AwaitsRead) refl refl refl here stood has
begun_then start first before here stood has (offered list) = begun_stays start first before (offered list) (g.Phase AwaitsRead) refl refl refl here stood has
begun_then start first before here stood has (picked place) = begun_stays start first before (picked place) (g.Phase AwaitsRead) refl refl refl here stood has

-- ---- its challenge was given

second_stays : (start : Start) (first : Act) (before : List Call) (call : Call) (given : Gave) → sk.verdict start (at ClientSecond) call ≡ stays given → left_at (sk.need_at start) sk.outcome_at (at ClientSecond) (stays given) (waiting (speaks P9sk1 start) first before) call ≡ [] → meets (sk.need_at start (at ClientSecond)) call ≡ false → sk.course start before ≡ at ClientSecond → acts start first before ≡ greeting start [] → met start before ≡ [] → Stands start first (call ∷ before)
second_stays start first before call given moves leaves no_need here stood has = second
    (sk_goes start before call (at ClientSecond) (stays given) here moves)
    (acts_more start first before call (at ClientSecond) (stays given) [] (greeting start []) here moves leaves stood)
    (met_more start before call (at ClientSecond) false ([]) here no_need has)

-- a server's request passes, or breaks the conversation
data Came (start : Start) (b : List ℕ) : Type 0 where
  bad : (cause : Cause) → request_came start b ≡ breaks cause → Came start b
  good : (request : TicketReq) → request_of b ≡ Ok request → request_came start b ≡ goes (ClientKey b) g.Wait [] → Came start b

abbrev came_with : Start → List ℕ → Result TicketReq FieldFault → Verdict Stage
came_with start b r = with_request WrongKind r (λ request. tested (request_tests start request) (goes (ClientKey b) g.Wait []))

came_told : (start : Start) (b : List ℕ) (request : TicketReq) (fault : Option Cause) → request_of b ≡ Ok request → first_told (request_tests start request) ≡ fault → Came start b
came_told start b request (Some cause) is told_it = bad cause (ap (came_with start b) is ∙ ap (λ told. unless_told told (goes (ClientKey b) g.Wait [])) told_it)
came_told start b request None is told_it = good request is (ap (came_with start b) is ∙ ap (λ told. unless_told told (goes (ClientKey b) g.Wait [])) told_it)

came_by : (start : Start) (b : List ℕ) (r : Result TicketReq FieldFault) → request_of b ≡ r → Came start b
came_by start b (Ok request) is = came_told start b request (first_told (request_tests start request)) is refl
came_by start b (Err fault) is = bad WrongKind (ap (came_with start b) is)

second_came : (start : Start) (first : Act) (before : List Call) (b : List ℕ) → sk.course start before ≡ at ClientSecond → acts start first before ≡ greeting start [] → met start before ≡ [] → length b ≡ 141 → sized 141 b (request_came start b) ≡ request_came start b → Came start b → Stands start first (give b ∷ before)
second_came start first before b here stood has size whole (bad cause is) = refused b cause
    (sk_goes start before (give b) (at ClientSecond) (breaks cause) here (whole ∙ is))
    (acts_more start first before (give b) (at ClientSecond) (breaks cause) (failed (cause_text cause) ∷ took b ∷ []) (greeting start []) here (whole ∙ is) (broken_left b cause) stood)
    (met_more start before (give b) (at ClientSecond) false [] here refl has)
second_came start first before b here stood has size whole (good request is_request is) = keyless b request is_request size
    (sk_goes start before (give b) (at ClientSecond) (goes (ClientKey b) g.Wait []) here (whole ∙ is))
    (acts_more start first before (give b) (at ClientSecond) (goes (ClientKey b) g.Wait []) [] (greeting start []) here (whole ∙ is) (ap (λ o. asks_by Nothing (key_need start o) ++ (if true && (true && not (is_sought (key_need start o))) then took b ∷ [] else [])) is_request) stood)
    (ap (λ p. if is_sought_at start p then waiting (speaks P9sk1 start) first before else took b) here)
    (met_more start before (give b) (at ClientSecond) false [] here refl has)

second_given : (start : Start) (first : Act) (before : List Call) (b : List ℕ) → sk.course start before ≡ at ClientSecond → acts start first before ≡ greeting start [] → met start before ≡ [] → Sized 141 b (request_came start b) → Stands start first (give b ∷ before)
second_given start first before b here stood has (few is) = second_stays start first before (give b) (g.TooSmall 141) is refl refl here stood has
second_given start first before b here stood has (many is) = second_stays start first before (give b) g.TooLong is refl refl here stood has
second_given start first before b here stood has (well size is) = second_came start first before b here stood has size is (came_by start b (request_of b) refl)

second_then : (start : Start) (first : Act) (before : List Call) → sk.course start before ≡ at ClientSecond → acts start first before ≡ greeting start [] → met start before ≡ [] → (call : Call) → Stands start first (call ∷ before)
second_then start first before here stood has (give b) = second_given start first before b here stood has (sized_by 141 b (request_came start b) (nat_lt (length b) 141) (nat_lt 141 (length b)) refl refl)
second_then start first before here stood has get = second_stays start first before get (g.Phase AwaitsWrite) refl refl refl here stood has
second_then start first before here stood has (found other more) = second_stays start first before (found other more) (g.Phase AwaitsWrite) refl refl refl here stood has
second_then start first before here stood has (heard b) = second_stays start first before (heard b) (g.Phase AwaitsWrite) refl refl refl here stood has
second_then start first before here stood has unheard = second_stays start first before unheard (g.Phase AwaitsWrite) refl refl refl here stood has
second_then start first before here stood has roomless = second_stays start first before roomless (g.Phase AwaitsWrite) refl refl refl here stood has
second_then start first before here stood has undone = second_stays start first before undone (g.Phase AwaitsWrite) refl refl refl here stood has
second_then start first before here stood has (offered list) = second_stays start first before (offered list) (g.Phase AwaitsWrite) refl refl refl here stood has
second_then start first before here stood has (picked place) = second_stays start first before (picked place) (g.Phase AwaitsWrite) refl refl refl here stood has

-- ---- the request was refused

refused_stays : (start : Start) (first : Act) (before : List Call) (call : Call) (r : List ℕ) (cause : Cause) (given : Gave) → sk.verdict start (fallen ClientSecond cause) call ≡ stays given → left_at (sk.need_at start) sk.outcome_at (fallen ClientSecond cause) (stays given) (waiting (speaks P9sk1 start) first before) call ≡ [] → meets (sk.need_at start (fallen ClientSecond cause)) call ≡ false → sk.course start before ≡ fallen ClientSecond cause → acts start first before ≡ failed (cause_text cause) ∷ took r ∷ greeting start [] → met start before ≡ [] → Stands start first (call ∷ before)
refused_stays start first before call r cause given moves leaves no_need here stood has = refused r cause
    (sk_goes start before call (fallen ClientSecond cause) (stays given) here moves)
    (acts_more start first before call (fallen ClientSecond cause) (stays given) [] (failed (cause_text cause) ∷ took r ∷ greeting start []) here moves leaves stood)
    (met_more start before call (fallen ClientSecond cause) false ([]) here no_need has)

refused_then : (start : Start) (first : Act) (before : List Call) (r : List ℕ) (cause : Cause) → sk.course start before ≡ fallen ClientSecond cause → acts start first before ≡ failed (cause_text cause) ∷ took r ∷ greeting start [] → met start before ≡ [] → (call : Call) → Stands start first (call ∷ before)
refused_then start first before r cause here stood has (give b) = refused_stays start first before (give b) r cause (g.Phase IsBroken) refl refl refl here stood has
refused_then start first before r cause here stood has get = refused_stays start first before get r cause (g.Phase IsBroken) refl refl refl here stood has
refused_then start first before r cause here stood has (found other more) = refused_stays start first before (found other more) r cause (g.Phase IsBroken) refl refl refl here stood has
refused_then start first before r cause here stood has (heard b) = refused_stays start first before (heard b) r cause (g.Phase IsBroken) refl refl refl here stood has
refused_then start first before r cause here stood has unheard = refused_stays start first before unheard r cause (g.Phase IsBroken) refl refl refl here stood has
refused_then start first before r cause here stood has roomless = refused_stays start first before roomless r cause (g.Phase IsBroken) refl refl refl here stood has
refused_then start first before r cause here stood has undone = refused_stays start first before undone r cause (g.Phase IsBroken) refl refl refl here stood has
refused_then start first before r cause here stood has (offered list) = refused_stays start first before (offered list) r cause (g.Phase IsBroken) refl refl refl here stood has
refused_then start first before r cause here stood has (picked place) = refused_stays start first before (picked place) r cause (g.Phase IsBroken) refl refl refl here stood has

-- ---- it seeks a key

keyless_stays : (start : Start) (first : Act) (before : List Call) (call : Call) (r : List ℕ) (request : TicketReq) → sk.verdict start (at (ClientKey r)) call ≡ stays g.Wait → left_at (sk.need_at start) sk.outcome_at (at (ClientKey r)) (stays g.Wait) (took r) call ≡ [] → meets (sk.need_at start (at (ClientKey r))) call ≡ false → (sk.course start before ≡ at (ClientKey r) → waiting (speaks P9sk1 start) first (call ∷ before) ≡ waiting (speaks P9sk1 start) first before) → request_of r ≡ Ok request → length r ≡ 141 → sk.course start before ≡ at (ClientKey r) → acts start first before ≡ greeting start [] → waiting (speaks P9sk1 start) first before ≡ took r → met start before ≡ [] → Stands start first (call ∷ before)
keyless_stays start first before call r request moves leaves no_need waits is_request size here stood waited has = keyless r request is_request size
    (sk_goes start before call (at (ClientKey r)) (stays g.Wait) here moves)
    (acts_more start first before call (at (ClientKey r)) (stays g.Wait) [] (greeting start []) here moves (ap (λ act. left_at (sk.need_at start) sk.outcome_at (at (ClientKey r)) (stays g.Wait) act call) waited ∙ leaves) stood)
    (waits here ∙ waited)
    (met_more start before call (at (ClientKey r)) false [] here no_need has)

keyless_then : (start : Start) (first : Act) (before : List Call) (r : List ℕ) (request : TicketReq) → request_of r ≡ Ok request → length r ≡ 141 → sk.course start before ≡ at (ClientKey r) → acts start first before ≡ greeting start [] → waiting (speaks P9sk1 start) first before ≡ took r → met start before ≡ [] → (call : Call) → Stands start first (call ∷ before)
keyless_then start first before r request is_request size here stood waited has (give b) = keyless_stays start first before (give b) r request refl (ap (λ o. left_at (λ p. key_need start o) sk.outcome_at (at (ClientKey r)) (stays g.Wait) (took r) (give b)) is_request) (ap (λ o. meets (key_need start o) (give b)) is_request) (λ h. ap (λ p. if is_sought_at start p then waiting (speaks P9sk1 start) first before else took b) h ∙ ap (λ o. if is_sought (key_need start o) then waiting (speaks P9sk1 start) first before else took b) is_request) is_request size here stood waited has
keyless_then start first before r request is_request size here stood waited has get = keyless_stays start first before get r request refl (ap (λ o. left_at (λ p. key_need start o) sk.outcome_at (at (ClientKey r)) (stays g.Wait) (took r) get) is_request) (ap (λ o. meets (key_need start o) get) is_request) (λ h. refl) is_request size here stood waited has
keyless_then start first before r request is_request size here stood waited has (found key secret) =
    let v : Verdict Stage = goes (ClientAsk r key) g.Wait [] in
    let moves : sk.verdict start (at (ClientKey r)) (found key secret) ≡ v = ap (λ o. with_request WrongKind o (λ _. goes (ClientAsk r key) g.Wait [])) is_request in
    asking r request key secret is_request size
    (sk_goes start before (found key secret) (at (ClientKey r)) v here moves)
    (acts_more start first before (found key secret) (at (ClientKey r)) v (asked (question start key request) ∷ took r ∷ []) (greeting start []) here moves
    (ap (λ o. asks_by (key_need start o) (answer_need start key o) ++ if_found (is_sought (key_need start o)) (is_sought (answer_need start key o)) (waiting (speaks P9sk1 start) first before)) is_request
    ∙ ap (λ act. asked (question start key request) ∷ act ∷ []) waited) stood)
    (met_more start before (found key secret) (at (ClientKey r)) true [] here (ap (λ o. meets (key_need start o) (found key secret)) is_request) has)
keyless_then start first before r request is_request size here stood waited has (heard b) = keyless_stays start first before (heard b) r request refl (ap (λ o. left_at (λ p. key_need start o) sk.outcome_at (at (ClientKey r)) (stays g.Wait) (took r) (heard b)) is_request) (ap (λ o. meets (key_need start o) (heard b)) is_request) (λ h. refl) is_request size here stood waited has
keyless_then start first before r request is_request size here stood waited has unheard = keyless_stays start first before unheard r request refl (ap (λ o. left_at (λ p. key_need start o) sk.outcome_at (at (ClientKey r)) (stays g.Wait) (took r) unheard) is_request) (ap (λ o. meets (key_need start o) unheard) is_request) (λ h. refl) is_request size here stood waited has
keyless_then start first before r request is_request size here stood waited has roomless = keyless_stays start first before roomless r request refl (ap (λ o. left_at (λ p. key_need start o) sk.outcome_at (at (ClientKey r)) (stays g.Wait) (took r) roomless) is_request) (ap (λ o. meets (key_need start o) roomless) is_request) (λ h. refl) is_request size here stood waited has
keyless_then start first before r request is_request size here stood waited has undone = second
    (sk_goes start before undone (at (ClientKey r)) (goes ClientSecond g.Ok []) here refl)
    (acts_more start first before undone (at (ClientKey r)) (goes ClientSecond g.Ok []) [] (greeting start []) here refl (ap (λ o. asks_by (key_need start o) Nothing ++ []) is_request) stood)
    (met_more start before undone (at (ClientKey r)) false [] here (ap (λ o. meets (key_need start o) undone) is_request) has)
keyless_then start first before r request is_request size here stood waited has (offered list) = keyless_stays start first before (offered list) r request refl (ap (λ o. left_at (λ p. key_need start o) sk.outcome_at (at (ClientKey r)) (stays g.Wait) (took r) (offered list)) is_request) (ap (λ o. meets (key_need start o) (offered list)) is_request) (λ h. refl) is_request size here stood waited has
keyless_then start first before r request is_request size here stood waited has (picked place) = keyless_stays start first before (picked place) r request refl (ap (λ o. left_at (λ p. key_need start o) sk.outcome_at (at (ClientKey r)) (stays g.Wait) (took r) (picked place)) is_request) (ap (λ o. meets (key_need start o) (picked place)) is_request) (λ h. refl) is_request size here stood waited has

-- ---- it asked

asking_stays : (start : Start) (first : Act) (before : List Call) (call : Call) (r : List ℕ) (request : TicketReq) (key : SkKey) (secret : Option (List ℕ)) (given : Gave) → sk.verdict start (at (ClientAsk r key)) call ≡ stays given → left_at (sk.need_at start) sk.outcome_at (at (ClientAsk r key)) (stays given) (waiting (speaks P9sk1 start) first before) call ≡ [] → meets (sk.need_at start (at (ClientAsk r key))) call ≡ false → request_of r ≡ Ok request → length r ≡ 141 → sk.course start before ≡ at (ClientAsk r key) → acts start first before ≡ asked_acts start [] r request key → met start before ≡ found key secret ∷ [] → Stands start first (call ∷ before)
asking_stays start first before call r request key secret given moves leaves no_need is_request size here stood has = asking r request key secret is_request size
    (sk_goes start before call (at (ClientAsk r key)) (stays given) here moves)
    (acts_more start first before call (at (ClientAsk r key)) (stays given) [] (asked_acts start [] r request key) here moves leaves stood)
    (met_more start before call (at (ClientAsk r key)) false (found key secret ∷ []) here no_need has)

-- an answer holds a ticket that opens and passes, or breaks the conversation
data AnswerCame (start : Start) (r : List ℕ) (key : SkKey) (a : List ℕ) : Type 0 where
  wrong : (cause : Cause) → answer_came start r key a ≡ breaks cause → AnswerCame start r key a
  right : (t : Ticket) → length a ≡ 145 → ticket_under key (ticket_part (drop 1 a)) ≡ Ok t → answer_came start r key a ≡ goes (ClientThird r key (drop 1 a)) g.Ok [] → AnswerCame start r key a

abbrev opened_with : Start → List ℕ → SkKey → List ℕ → Result Ticket FieldFault → Verdict Stage
opened_with start r key a o = with_ticket BadKey o (λ t. tested (ticket_tests start r key t) (goes (ClientThird r key (drop 1 a)) g.Ok []))

tests_told : (start : Start) (r : List ℕ) (key : SkKey) (a : List ℕ) (t : Ticket) (fault : Option Cause) → length a ≡ 145 → answer_came start r key a ≡ opened_with start r key a (ticket_under key (ticket_part (drop 1 a))) → ticket_under key (ticket_part (drop 1 a)) ≡ Ok t → first_told (ticket_tests start r key t) ≡ fault → AnswerCame start r key a
tests_told start r key a t (Some cause) long so opens is = wrong cause (so ∙ ap (opened_with start r key a) opens ∙ ap (λ told. unless_told told (goes (ClientThird r key (drop 1 a)) g.Ok [])) is)
tests_told start r key a t None long so opens is = right t long opens (so ∙ ap (opened_with start r key a) opens ∙ ap (λ told. unless_told told (goes (ClientThird r key (drop 1 a)) g.Ok [])) is)

opened_told : (start : Start) (r : List ℕ) (key : SkKey) (a : List ℕ) (o : Result Ticket FieldFault) → length a ≡ 145 → answer_came start r key a ≡ opened_with start r key a (ticket_under key (ticket_part (drop 1 a))) → ticket_under key (ticket_part (drop 1 a)) ≡ o → AnswerCame start r key a
opened_told start r key a (Ok t) long so is = tests_told start r key a t (first_told (ticket_tests start r key t)) long so is refl
opened_told start r key a (Err fault) long so is = wrong BadKey (so ∙ ap (opened_with start r key a) is)

answer_told : (start : Start) (r : List ℕ) (key : SkKey) (a : List ℕ) (refuses grants : Bool) → is_refusal a ≡ refuses → grants_tickets a ≡ grants → AnswerCame start r key a
answer_told start r key a true grants is_no is_well = wrong ServerSaidNo (ap (λ (no_ : Bool). if no_ then breaks ServerSaidNo else if grants_tickets a then tickets_came start r key (drop 1 a) else breaks WrongKind) is_no)
answer_told start r key a false false is_no is_well = wrong WrongKind (ap (λ (no_ : Bool). if no_ then breaks ServerSaidNo else if grants_tickets a then tickets_came start r key (drop 1 a) else breaks WrongKind) is_no ∙ ap (λ (well_ : Bool). if well_ then tickets_came start r key (drop 1 a) else breaks WrongKind) is_well)
answer_told start r key a false true is_no is_well =
    let long = eqb-true (length a) 145 (and_parts (length a == 145) (slice_index a 0 == AUTH_OK) is_well).0 in
    opened_told start r key a (ticket_under key (ticket_part (drop 1 a))) long (ap (λ (no_ : Bool). if no_ then breaks ServerSaidNo else if grants_tickets a then tickets_came start r key (drop 1 a) else breaks WrongKind) is_no ∙ ap (λ (well_ : Bool). if well_ then tickets_came start r key (drop 1 a) else breaks WrongKind) is_well) refl

asking_heard : (start : Start) (first : Act) (before : List Call) (r : List ℕ) (request : TicketReq) (key : SkKey) (secret : Option (List ℕ)) (a : List ℕ) → request_of r ≡ Ok request → length r ≡ 141 → sk.course start before ≡ at (ClientAsk r key) → acts start first before ≡ asked_acts start [] r request key → met start before ≡ found key secret ∷ [] → AnswerCame start r key a → Stands start first (heard a ∷ before)
asking_heard start first before r request key secret a is_request size here stood has (wrong cause is) = denied r request key secret (by_answer a) cause is_request size
    (sk_goes start before (heard a) (at (ClientAsk r key)) (breaks cause) here is)
    (acts_more start first before (heard a) (at (ClientAsk r key)) (breaks cause) (failed (cause_text cause) ∷ answered a ∷ []) (asked_acts start [] r request key) here is (ap (λ o. failed (cause_text cause) ∷ (asks_by (answer_need start key o) Nothing ++ (if is_asked (answer_need start key o) then answered a ∷ [] else []))) is_request) stood)
    (met_more start before (heard a) (at (ClientAsk r key)) false (found key secret ∷ []) here (ap (λ o. meets (answer_need start key o) (heard a)) is_request) has)
asking_heard start first before r request key secret a is_request size here stood has (right t long opens is) = ready r request key secret a t is_request size long opens
    (sk_goes start before (heard a) (at (ClientAsk r key)) (goes (ClientThird r key (drop 1 a)) g.Ok []) here is)
    (acts_more start first before (heard a) (at (ClientAsk r key)) (goes (ClientThird r key (drop 1 a)) g.Ok []) (answered a ∷ []) (asked_acts start [] r request key) here is (ap (λ o. asks_by (answer_need start key o) Nothing ++ (if is_asked (answer_need start key o) then answered a ∷ [] else [])) is_request) stood)
    (met_more start before (heard a) (at (ClientAsk r key)) false (found key secret ∷ []) here (ap (λ o. meets (answer_need start key o) (heard a)) is_request) has)

asking_then : (start : Start) (first : Act) (before : List Call) (r : List ℕ) (request : TicketReq) (key : SkKey) (secret : Option (List ℕ)) → request_of r ≡ Ok request → length r ≡ 141 → sk.course start before ≡ at (ClientAsk r key) → acts start first before ≡ asked_acts start [] r request key → met start before ≡ found key secret ∷ [] → (call : Call) → Stands start first (call ∷ before)
asking_then start first before r request key secret is_request size here stood has (give b) = asking_stays start first before (give b) r request key secret (g.Wait) refl (ap (λ o. left_at (λ p. answer_need start key o) sk.outcome_at (at (ClientAsk r key)) (stays g.Wait) (waiting (speaks P9sk1 start) first before) (give b)) is_request) (ap (λ o. meets (answer_need start key o) (give b)) is_request) is_request size here stood has
asking_then start first before r request key secret is_request size here stood has get = asking_stays start first before get r request key secret (g.Wait) refl (ap (λ o. left_at (λ p. answer_need start key o) sk.outcome_at (at (ClientAsk r key)) (stays g.Wait) (waiting (speaks P9sk1 start) first before) get) is_request) (ap (λ o. meets (answer_need start key o) get) is_request) is_request size here stood has
asking_then start first before r request key secret is_request size here stood has (found other more) = asking_stays start first before (found other more) r request key secret (g.Wait) refl (ap (λ o. left_at (λ p. answer_need start key o) sk.outcome_at (at (ClientAsk r key)) (stays g.Wait) (waiting (speaks P9sk1 start) first before) (found other more)) is_request) (ap (λ o. meets (answer_need start key o) (found other more)) is_request) is_request size here stood has
asking_then start first before r request key secret is_request size here stood has (heard b) = asking_heard start first before r request key secret b is_request size here stood has (answer_told start r key b (is_refusal b) (grants_tickets b) refl refl)
asking_then start first before r request key secret is_request size here stood has unheard = denied r request key secret by_none NoServer is_request size
    (sk_goes start before unheard (at (ClientAsk r key)) (breaks NoServer) here refl)
    (acts_more start first before unheard (at (ClientAsk r key)) (breaks NoServer) (failed (cause_text NoServer) ∷ instead by_none) (asked_acts start [] r request key) here refl (ap (λ o. failed (cause_text NoServer) ∷ (asks_by (answer_need start key o) Nothing ++ (if is_asked (answer_need start key o) then unanswered ∷ [] else []))) is_request) stood)
    (met_more start before unheard (at (ClientAsk r key)) false (found key secret ∷ []) here (ap (λ o. meets (answer_need start key o) unheard) is_request) has)
asking_then start first before r request key secret is_request size here stood has roomless = denied r request key secret by_no_room NoRoom is_request size
    (sk_goes start before roomless (at (ClientAsk r key)) (breaks NoRoom) here refl)
    (acts_more start first before roomless (at (ClientAsk r key)) (breaks NoRoom) (failed (cause_text NoRoom) ∷ instead by_no_room) (asked_acts start [] r request key) here refl (ap (λ o. failed (cause_text NoRoom) ∷ (asks_by (answer_need start key o) Nothing ++ [])) is_request) stood)
    (met_more start before roomless (at (ClientAsk r key)) false (found key secret ∷ []) here (ap (λ o. meets (answer_need start key o) roomless) is_request) has)
asking_then start first before r request key secret is_request size here stood has undone = asking_stays start first before undone r request key secret (g.Wait) refl (ap (λ o. left_at (λ p. answer_need start key o) sk.outcome_at (at (ClientAsk r key)) (stays g.Wait) (waiting (speaks P9sk1 start) first before) undone) is_request) (ap (λ o. meets (answer_need start key o) undone) is_request) is_request size here stood has
asking_then start first before r request key secret is_request size here stood has (offered list) = asking_stays start first before (offered list) r request key secret (g.Wait) refl (ap (λ o. left_at (λ p. answer_need start key o) sk.outcome_at (at (ClientAsk r key)) (stays g.Wait) (waiting (speaks P9sk1 start) first before) (offered list)) is_request) (ap (λ o. meets (answer_need start key o) (offered list)) is_request) is_request size here stood has
asking_then start first before r request key secret is_request size here stood has (picked place) = asking_stays start first before (picked place) r request key secret (g.Wait) refl (ap (λ o. left_at (λ p. answer_need start key o) sk.outcome_at (at (ClientAsk r key)) (stays g.Wait) (waiting (speaks P9sk1 start) first before) (picked place)) is_request) (ap (λ o. meets (answer_need start key o) (picked place)) is_request) is_request size here stood has

-- ---- the answer was none that serves

denied_stays : (start : Start) (first : Act) (before : List Call) (call : Call) (r : List ℕ) (request : TicketReq) (key : SkKey) (secret : Option (List ℕ)) (i : Instead) (cause : Cause) (given : Gave) → sk.verdict start (fallen (ClientAsk r key) cause) call ≡ stays given → left_at (sk.need_at start) sk.outcome_at (fallen (ClientAsk r key) cause) (stays given) (waiting (speaks P9sk1 start) first before) call ≡ [] → meets (sk.need_at start (fallen (ClientAsk r key) cause)) call ≡ false → request_of r ≡ Ok request → length r ≡ 141 → sk.course start before ≡ fallen (ClientAsk r key) cause → acts start first before ≡ failed (cause_text cause) ∷ (instead i ++ asked_acts start [] r request key) → met start before ≡ found key secret ∷ [] → Stands start first (call ∷ before)
denied_stays start first before call r request key secret i cause given moves leaves no_need is_request size here stood has = denied r request key secret i cause is_request size
    (sk_goes start before call (fallen (ClientAsk r key) cause) (stays given) here moves)
    (acts_more start first before call (fallen (ClientAsk r key) cause) (stays given) [] (failed (cause_text cause) ∷ (instead i ++ asked_acts start [] r request key)) here moves leaves stood)
    (met_more start before call (fallen (ClientAsk r key) cause) false (found key secret ∷ []) here no_need has)

denied_then : (start : Start) (first : Act) (before : List Call) (r : List ℕ) (request : TicketReq) (key : SkKey) (secret : Option (List ℕ)) (i : Instead) (cause : Cause) → request_of r ≡ Ok request → length r ≡ 141 → sk.course start before ≡ fallen (ClientAsk r key) cause → acts start first before ≡ failed (cause_text cause) ∷ (instead i ++ asked_acts start [] r request key) → met start before ≡ found key secret ∷ [] → (call : Call) → Stands start first (call ∷ before)
denied_then start first before r request key secret i cause is_request size here stood has (give b) = denied_stays start first before (give b) r request key secret i cause (g.Phase IsBroken) refl refl refl is_request size here stood has
denied_then start first before r request key secret i cause is_request size here stood has get = denied_stays start first before get r request key secret i cause (g.Phase IsBroken) refl refl refl is_request size here stood has
denied_then start first before r request key secret i cause is_request size here stood has (found other more) = denied_stays start first before (found other more) r request key secret i cause (g.Phase IsBroken) refl refl refl is_request size here stood has
denied_then start first before r request key secret i cause is_request size here stood has (heard b) = denied_stays start first before (heard b) r request key secret i cause (g.Phase IsBroken) refl refl refl is_request size here stood has
denied_then start first before r request key secret i cause is_request size here stood has unheard = denied_stays start first before unheard r request key secret i cause (g.Phase IsBroken) refl refl refl is_request size here stood has
denied_then start first before r request key secret i cause is_request size here stood has roomless = denied_stays start first before roomless r request key secret i cause (g.Phase IsBroken) refl refl refl is_request size here stood has
denied_then start first before r request key secret i cause is_request size here stood has undone = denied_stays start first before undone r request key secret i cause (g.Phase IsBroken) refl refl refl is_request size here stood has
denied_then start first before r request key secret i cause is_request size here stood has (offered list) = denied_stays start first before (offered list) r request key secret i cause (g.Phase IsBroken) refl refl refl is_request size here stood has
denied_then start first before r request key secret i cause is_request size here stood has (picked place) = denied_stays start first before (picked place) r request key secret i cause (g.Phase IsBroken) refl refl refl is_request size here stood has

-- ---- it has its ticket

ready_stays : (start : Start) (first : Act) (before : List Call) (call : Call) (r : List ℕ) (request : TicketReq) (key : SkKey) (secret : Option (List ℕ)) (a : List ℕ) (t : Ticket) (given : Gave) → sk.verdict start (at (ClientThird r key (drop 1 a))) call ≡ stays given → left_at (sk.need_at start) sk.outcome_at (at (ClientThird r key (drop 1 a))) (stays given) (waiting (speaks P9sk1 start) first before) call ≡ [] → meets (sk.need_at start (at (ClientThird r key (drop 1 a)))) call ≡ false → request_of r ≡ Ok request → length r ≡ 141 → length a ≡ 145 → ticket_under key (ticket_part (drop 1 a)) ≡ Ok t → sk.course start before ≡ at (ClientThird r key (drop 1 a)) → acts start first before ≡ heard_acts start [] r request key a → met start before ≡ found key secret ∷ [] → Stands start first (call ∷ before)
ready_stays start first before call r request key secret a t given moves leaves no_need is_request size long opens here stood has = ready r request key secret a t is_request size long opens
    (sk_goes start before call (at (ClientThird r key (drop 1 a))) (stays given) here moves)
    (acts_more start first before call (at (ClientThird r key (drop 1 a))) (stays given) [] (heard_acts start [] r request key a) here moves leaves stood)
    (met_more start before call (at (ClientThird r key (drop 1 a))) false (found key secret ∷ []) here no_need has)

ready_then : (start : Start) (first : Act) (before : List Call) (r : List ℕ) (request : TicketReq) (key : SkKey) (secret : Option (List ℕ)) (a : List ℕ) (t : Ticket) → request_of r ≡ Ok request → length r ≡ 141 → length a ≡ 145 → ticket_under key (ticket_part (drop 1 a)) ≡ Ok t → sk.course start before ≡ at (ClientThird r key (drop 1 a)) → acts start first before ≡ heard_acts start [] r request key a → met start before ≡ found key secret ∷ [] → (call : Call) → Stands start first (call ∷ before)
ready_then start first before r request key secret a t is_request size long opens here stood has (give b) = ready_stays start first before (give b) r request key secret a t (g.Phase AwaitsRead) refl refl refl is_request size long opens here stood has
ready_then start first before r request key secret a t is_request size long opens here stood has get =
    let v : Verdict Stage = goes (ClientFourth r key (drop 1 a)) g.Ok (handed r a t) in
    let moves : sk.verdict start (at (ClientThird r key (drop 1 a))) get ≡ v = ap (λ o. with_ticket BadKey o (λ t. goes (ClientFourth r key (drop 1 a)) g.Ok (handed r a t))) opens in
    showing r request key secret a t is_request size long opens
    (sk_goes start before get (at (ClientThird r key (drop 1 a))) v here moves)
    (acts_more start first before get (at (ClientThird r key (drop 1 a))) v (gave (handed r a t) ∷ []) (heard_acts start [] r request key a) here moves refl stood)
    (met_more start before get (at (ClientThird r key (drop 1 a))) false (found key secret ∷ []) here refl has)
ready_then start first before r request key secret a t is_request size long opens here stood has (found other more) = ready_stays start first before (found other more) r request key secret a t (g.Phase AwaitsRead) refl refl refl is_request size long opens here stood has
ready_then start first before r request key secret a t is_request size long opens here stood has (heard b) = ready_stays start first before (heard b) r request key secret a t (g.Phase AwaitsRead) refl refl refl is_request size long opens here stood has
ready_then start first before r request key secret a t is_request size long opens here stood has unheard = ready_stays start first before unheard r request key secret a t (g.Phase AwaitsRead) refl refl refl is_request size long opens here stood has
ready_then start first before r request key secret a t is_request size long opens here stood has roomless = ready_stays start first before roomless r request key secret a t (g.Phase AwaitsRead) refl refl refl is_request size long opens here stood has
ready_then start first before r request key secret a t is_request size long opens here stood has undone = ready_stays start first before undone r request key secret a t (g.Phase AwaitsRead) refl refl refl is_request size long opens here stood has
ready_then start first before r request key secret a t is_request size long opens here stood has (offered list) = ready_stays start first before (offered list) r request key secret a t (g.Phase AwaitsRead) refl refl refl is_request size long opens here stood has
ready_then start first before r request key secret a t is_request size long opens here stood has (picked place) = ready_stays start first before (picked place) r request key secret a t (g.Phase AwaitsRead) refl refl refl is_request size long opens here stood has

-- ---- it handed the ticket on

showing_stays : (start : Start) (first : Act) (before : List Call) (call : Call) (r : List ℕ) (request : TicketReq) (key : SkKey) (secret : Option (List ℕ)) (a : List ℕ) (t : Ticket) (given : Gave) → sk.verdict start (at (ClientFourth r key (drop 1 a))) call ≡ stays given → left_at (sk.need_at start) sk.outcome_at (at (ClientFourth r key (drop 1 a))) (stays given) (waiting (speaks P9sk1 start) first before) call ≡ [] → meets (sk.need_at start (at (ClientFourth r key (drop 1 a)))) call ≡ false → request_of r ≡ Ok request → length r ≡ 141 → length a ≡ 145 → ticket_under key (ticket_part (drop 1 a)) ≡ Ok t → sk.course start before ≡ at (ClientFourth r key (drop 1 a)) → acts start first before ≡ shown_acts start [] r request key a t → met start before ≡ found key secret ∷ [] → Stands start first (call ∷ before)
showing_stays start first before call r request key secret a t given moves leaves no_need is_request size long opens here stood has = showing r request key secret a t is_request size long opens
    (sk_goes start before call (at (ClientFourth r key (drop 1 a))) (stays given) here moves)
    (acts_more start first before call (at (ClientFourth r key (drop 1 a))) (stays given) [] (shown_acts start [] r request key a t) here moves leaves stood)
    (met_more start before call (at (ClientFourth r key (drop 1 a))) false (found key secret ∷ []) here no_need has)

-- the server's proof passes, or breaks the conversation
data Proven (start : Start) (r : List ℕ) (key : SkKey) (a : List ℕ) (t : Ticket) (p : List ℕ) : Type 0 where
  false_one : (cause : Cause) → proof_came start r key (drop 1 a) p ≡ breaks cause → Proven start r key a t p
  true_one : proof_came start r key (drop 1 a) p ≡ goes (ClientDone r key (drop 1 a) p) g.Ok [] → Proven start r key a t p

proven_by : (start : Start) (r : List ℕ) (key : SkKey) (a : List ℕ) (t : Ticket) (p : List ℕ) (fault : Option Cause) → ticket_under key (ticket_part (drop 1 a)) ≡ Ok t → first_told (proof_tests AUTH_AS start.word (proof_under t p)) ≡ fault → Proven start r key a t p
proven_by start r key a t p (Some cause) opens is = false_one cause (ap (λ o. with_ticket BadKey o (λ t. tested (proof_tests AUTH_AS start.word (proof_under t p)) (goes (ClientDone r key (drop 1 a) p) g.Ok []))) opens ∙ ap (λ told. unless_told told (goes (ClientDone r key (drop 1 a) p) g.Ok [])) is)
proven_by start r key a t p None opens is = true_one (ap (λ o. with_ticket BadKey o (λ t. tested (proof_tests AUTH_AS start.word (proof_under t p)) (goes (ClientDone r key (drop 1 a) p) g.Ok []))) opens ∙ ap (λ told. unless_told told (goes (ClientDone r key (drop 1 a) p) g.Ok [])) is)

showing_came : (start : Start) (first : Act) (before : List Call) (r : List ℕ) (request : TicketReq) (key : SkKey) (secret : Option (List ℕ)) (a : List ℕ) (t : Ticket) (p : List ℕ) → request_of r ≡ Ok request → length r ≡ 141 → length a ≡ 145 → ticket_under key (ticket_part (drop 1 a)) ≡ Ok t → sk.course start before ≡ at (ClientFourth r key (drop 1 a)) → acts start first before ≡ shown_acts start [] r request key a t → met start before ≡ found key secret ∷ [] → sized 13 p (proof_came start r key (drop 1 a) p) ≡ proof_came start r key (drop 1 a) p → Proven start r key a t p → Stands start first (give p ∷ before)
showing_came start first before r request key secret a t p is_request size long opens here stood has whole (false_one cause is) = deceived r request key secret a t p cause is_request size long opens
    (sk_goes start before (give p) (at (ClientFourth r key (drop 1 a))) (breaks cause) here (whole ∙ is))
    (acts_more start first before (give p) (at (ClientFourth r key (drop 1 a))) (breaks cause) (failed (cause_text cause) ∷ took p ∷ []) (shown_acts start [] r request key a t) here (whole ∙ is) (broken_left p cause) stood)
    (met_more start before (give p) (at (ClientFourth r key (drop 1 a))) false (found key secret ∷ []) here refl has)
showing_came start first before r request key secret a t p is_request size long opens here stood has whole (true_one is) = done r request key secret a t p is_request size long opens
    (sk_goes start before (give p) (at (ClientFourth r key (drop 1 a))) (goes (ClientDone r key (drop 1 a) p) g.Ok []) here (whole ∙ is))
    (subst (Told (accepted_acts start [] r request key a t p)) (sym (acts_more start first before (give p) (at (ClientFourth r key (drop 1 a))) (goes (ClientDone r key (drop 1 a) p) g.Ok []) (accepted t.cuid t.suid ∷ took p ∷ []) (shown_acts start [] r request key a t) here (whole ∙ is) (ap (λ o. end_by Running (outcome_by BadKey o) ++ took p ∷ []) opens) stood)) at_once)
    (met_more start before (give p) (at (ClientFourth r key (drop 1 a))) false (found key secret ∷ []) here refl has)

showing_given : (start : Start) (first : Act) (before : List Call) (r : List ℕ) (request : TicketReq) (key : SkKey) (secret : Option (List ℕ)) (a : List ℕ) (t : Ticket) (p : List ℕ) → request_of r ≡ Ok request → length r ≡ 141 → length a ≡ 145 → ticket_under key (ticket_part (drop 1 a)) ≡ Ok t → sk.course start before ≡ at (ClientFourth r key (drop 1 a)) → acts start first before ≡ shown_acts start [] r request key a t → met start before ≡ found key secret ∷ [] → Sized 13 p (proof_came start r key (drop 1 a) p) → Stands start first (give p ∷ before)
showing_given start first before r request key secret a t p is_request size long opens here stood has (few is) = showing_stays start first before (give p) r request key secret a t (g.TooSmall 13) is refl refl is_request size long opens here stood has
showing_given start first before r request key secret a t p is_request size long opens here stood has (many is) = showing_stays start first before (give p) r request key secret a t g.TooLong is refl refl is_request size long opens here stood has
showing_given start first before r request key secret a t p is_request size long opens here stood has (well thirteen is) = showing_came start first before r request key secret a t p is_request size long opens here stood has is (proven_by start r key a t p (first_told (proof_tests AUTH_AS start.word (proof_under t p))) opens refl)

showing_then : (start : Start) (first : Act) (before : List Call) (r : List ℕ) (request : TicketReq) (key : SkKey) (secret : Option (List ℕ)) (a : List ℕ) (t : Ticket) → request_of r ≡ Ok request → length r ≡ 141 → length a ≡ 145 → ticket_under key (ticket_part (drop 1 a)) ≡ Ok t → sk.course start before ≡ at (ClientFourth r key (drop 1 a)) → acts start first before ≡ shown_acts start [] r request key a t → met start before ≡ found key secret ∷ [] → (call : Call) → Stands start first (call ∷ before)
showing_then start first before r request key secret a t is_request size long opens here stood has (give b) = showing_given start first before r request key secret a t b is_request size long opens here stood has (sized_by 13 b (proof_came start r key (drop 1 a) b) (nat_lt (length b) 13) (nat_lt 13 (length b)) refl refl)
showing_then start first before r request key secret a t is_request size long opens here stood has get = showing_stays start first before get r request key secret a t (g.Phase AwaitsWrite) refl refl refl is_request size long opens here stood has
showing_then start first before r request key secret a t is_request size long opens here stood has (found other more) = showing_stays start first before (found other more) r request key secret a t (g.Phase AwaitsWrite) refl refl refl is_request size long opens here stood has
showing_then start first before r request key secret a t is_request size long opens here stood has (heard b) = showing_stays start first before (heard b) r request key secret a t (g.Phase AwaitsWrite) refl refl refl is_request size long opens here stood has
showing_then start first before r request key secret a t is_request size long opens here stood has unheard = showing_stays start first before unheard r request key secret a t (g.Phase AwaitsWrite) refl refl refl is_request size long opens here stood has
showing_then start first before r request key secret a t is_request size long opens here stood has roomless = showing_stays start first before roomless r request key secret a t (g.Phase AwaitsWrite) refl refl refl is_request size long opens here stood has
showing_then start first before r request key secret a t is_request size long opens here stood has undone = showing_stays start first before undone r request key secret a t (g.Phase AwaitsWrite) refl refl refl is_request size long opens here stood has
showing_then start first before r request key secret a t is_request size long opens here stood has (offered list) = showing_stays start first before (offered list) r request key secret a t (g.Phase AwaitsWrite) refl refl refl is_request size long opens here stood has
showing_then start first before r request key secret a t is_request size long opens here stood has (picked place) = showing_stays start first before (picked place) r request key secret a t (g.Phase AwaitsWrite) refl refl refl is_request size long opens here stood has

-- ---- it was deceived

deceived_stays : (start : Start) (first : Act) (before : List Call) (call : Call) (r : List ℕ) (request : TicketReq) (key : SkKey) (secret : Option (List ℕ)) (a : List ℕ) (t : Ticket) (p : List ℕ) (cause : Cause) (given : Gave) → sk.verdict start (fallen (ClientFourth r key (drop 1 a)) cause) call ≡ stays given → left_at (sk.need_at start) sk.outcome_at (fallen (ClientFourth r key (drop 1 a)) cause) (stays given) (waiting (speaks P9sk1 start) first before) call ≡ [] → meets (sk.need_at start (fallen (ClientFourth r key (drop 1 a)) cause)) call ≡ false → request_of r ≡ Ok request → length r ≡ 141 → length a ≡ 145 → ticket_under key (ticket_part (drop 1 a)) ≡ Ok t → sk.course start before ≡ fallen (ClientFourth r key (drop 1 a)) cause → acts start first before ≡ failed (cause_text cause) ∷ took p ∷ shown_acts start [] r request key a t → met start before ≡ found key secret ∷ [] → Stands start first (call ∷ before)
deceived_stays start first before call r request key secret a t p cause given moves leaves no_need is_request size long opens here stood has = deceived r request key secret a t p cause is_request size long opens
    (sk_goes start before call (fallen (ClientFourth r key (drop 1 a)) cause) (stays given) here moves)
    (acts_more start first before call (fallen (ClientFourth r key (drop 1 a)) cause) (stays given) [] (failed (cause_text cause) ∷ took p ∷ shown_acts start [] r request key a t) here moves leaves stood)
    (met_more start before call (fallen (ClientFourth r key (drop 1 a)) cause) false (found key secret ∷ []) here no_need has)

deceived_then : (start : Start) (first : Act) (before : List Call) (r : List ℕ) (request : TicketReq) (key : SkKey) (secret : Option (List ℕ)) (a : List ℕ) (t : Ticket) (p : List ℕ) (cause : Cause) → request_of r ≡ Ok request → length r ≡ 141 → length a ≡ 145 → ticket_under key (ticket_part (drop 1 a)) ≡ Ok t → sk.course start before ≡ fallen (ClientFourth r key (drop 1 a)) cause → acts start first before ≡ failed (cause_text cause) ∷ took p ∷ shown_acts start [] r request key a t → met start before ≡ found key secret ∷ [] → (call : Call) → Stands start first (call ∷ before)
deceived_then start first before r request key secret a t p cause is_request size long opens here stood has (give b) = deceived_stays start first before (give b) r request key secret a t p cause (g.Phase IsBroken) refl refl refl is_request size long opens here stood has
deceived_then start first before r request key secret a t p cause is_request size long opens here stood has get = deceived_stays start first before get r request key secret a t p cause (g.Phase IsBroken) refl refl refl is_request size long opens here stood has
deceived_then start first before r request key secret a t p cause is_request size long opens here stood has (found other more) = deceived_stays start first before (found other more) r request key secret a t p cause (g.Phase IsBroken) refl refl refl is_request size long opens here stood has
deceived_then start first before r request key secret a t p cause is_request size long opens here stood has (heard b) = deceived_stays start first before (heard b) r request key secret a t p cause (g.Phase IsBroken) refl refl refl is_request size long opens here stood has
deceived_then start first before r request key secret a t p cause is_request size long opens here stood has unheard = deceived_stays start first before unheard r request key secret a t p cause (g.Phase IsBroken) refl refl refl is_request size long opens here stood has
deceived_then start first before r request key secret a t p cause is_request size long opens here stood has roomless = deceived_stays start first before roomless r request key secret a t p cause (g.Phase IsBroken) refl refl refl is_request size long opens here stood has
deceived_then start first before r request key secret a t p cause is_request size long opens here stood has undone = deceived_stays start first before undone r request key secret a t p cause (g.Phase IsBroken) refl refl refl is_request size long opens here stood has
deceived_then start first before r request key secret a t p cause is_request size long opens here stood has (offered list) = deceived_stays start first before (offered list) r request key secret a t p cause (g.Phase IsBroken) refl refl refl is_request size long opens here stood has
deceived_then start first before r request key secret a t p cause is_request size long opens here stood has (picked place) = deceived_stays start first before (picked place) r request key secret a t p cause (g.Phase IsBroken) refl refl refl is_request size long opens here stood has

-- ---- it accepted

done_with : (start : Start) (first : Act) (before : List Call) (call : Call) (r : List ℕ) (request : TicketReq) (key : SkKey) (secret : Option (List ℕ)) (a : List ℕ) (t : Ticket) (p : List ℕ) (left : List Act) → sk.verdict start (at (ClientDone r key (drop 1 a) p)) call ≡ stays (g.Done true) → left_at (sk.need_at start) sk.outcome_at (at (ClientDone r key (drop 1 a) p)) (stays (g.Done true)) (waiting (speaks P9sk1 start) first before) call ≡ left → request_of r ≡ Ok request → length r ≡ 141 → length a ≡ 145 → ticket_under key (ticket_part (drop 1 a)) ≡ Ok t → sk.course start before ≡ at (ClientDone r key (drop 1 a) p) → Told (accepted_acts start [] r request key a t p) (left ++ acts start first before) → met start before ≡ found key secret ∷ [] → Stands start first (call ∷ before)
done_with start first before call r request key secret a t p left moves leaves is_request size long opens here stood has = done r request key secret a t p is_request size long opens
    (sk_goes start before call (at (ClientDone r key (drop 1 a) p)) (stays (g.Done true)) here moves)
    (subst (Told (accepted_acts start [] r request key a t p)) (sym (acts_more start first before call (at (ClientDone r key (drop 1 a) p)) (stays (g.Done true)) left (acts start first before) here moves leaves refl)) stood)
    (met_more start before call (at (ClientDone r key (drop 1 a) p)) false (found key secret ∷ []) here refl has)

done_then : (start : Start) (first : Act) (before : List Call) (r : List ℕ) (request : TicketReq) (key : SkKey) (secret : Option (List ℕ)) (a : List ℕ) (t : Ticket) (p : List ℕ) → request_of r ≡ Ok request → length r ≡ 141 → length a ≡ 145 → ticket_under key (ticket_part (drop 1 a)) ≡ Ok t → sk.course start before ≡ at (ClientDone r key (drop 1 a) p) → Told (accepted_acts start [] r request key a t p) (acts start first before) → met start before ≡ found key secret ∷ [] → (call : Call) → Stands start first (call ∷ before)
done_then start first before r request key secret a t p is_request size long opens here stood has (give b) = done_with start first before (give b) r request key secret a t p (took b ∷ []) refl (ap (λ o. end_by (outcome_by BadKey o) (outcome_by BadKey o) ++ took b ∷ []) opens) is_request size long opens here (told b stood) has
done_then start first before r request key secret a t p is_request size long opens here stood has get = done_with start first before get r request key secret a t p ([]) refl (ap (λ o. end_by (outcome_by BadKey o) (outcome_by BadKey o) ++ []) opens) is_request size long opens here stood has
done_then start first before r request key secret a t p is_request size long opens here stood has (found other more) = done_with start first before (found other more) r request key secret a t p ([]) refl (ap (λ o. end_by (outcome_by BadKey o) (outcome_by BadKey o) ++ []) opens) is_request size long opens here stood has
done_then start first before r request key secret a t p is_request size long opens here stood has (heard b) = done_with start first before (heard b) r request key secret a t p ([]) refl (ap (λ o. end_by (outcome_by BadKey o) (outcome_by BadKey o) ++ []) opens) is_request size long opens here stood has
done_then start first before r request key secret a t p is_request size long opens here stood has unheard = done_with start first before unheard r request key secret a t p ([]) refl (ap (λ o. end_by (outcome_by BadKey o) (outcome_by BadKey o) ++ []) opens) is_request size long opens here stood has
done_then start first before r request key secret a t p is_request size long opens here stood has roomless = done_with start first before roomless r request key secret a t p ([]) refl (ap (λ o. end_by (outcome_by BadKey o) (outcome_by BadKey o) ++ []) opens) is_request size long opens here stood has
done_then start first before r request key secret a t p is_request size long opens here stood has undone = done_with start first before undone r request key secret a t p ([]) refl (ap (λ o. end_by (outcome_by BadKey o) (outcome_by BadKey o) ++ []) opens) is_request size long opens here stood has
done_then start first before r request key secret a t p is_request size long opens here stood has (offered list) = done_with start first before (offered list) r request key secret a t p ([]) refl (ap (λ o. end_by (outcome_by BadKey o) (outcome_by BadKey o) ++ []) opens) is_request size long opens here stood has
done_then start first before r request key secret a t p is_request size long opens here stood has (picked place) = done_with start first before (picked place) r request key secret a t p ([]) refl (ap (λ o. end_by (outcome_by BadKey o) (outcome_by BadKey o) ++ []) opens) is_request size long opens here stood has

-- ---- every talk

then_stands : (start : Start) (first : Act) (before : List Call) (call : Call) → Stands start first before → Stands start first (call ∷ before)
then_stands start first before call (begun here stood has) = begun_then start first before here stood has call
then_stands start first before call (second here stood has) = second_then start first before here stood has call
then_stands start first before call (refused r cause here stood has) = refused_then start first before r cause here stood has call
then_stands start first before call (keyless r request is_request size here stood waited has) = keyless_then start first before r request is_request size here stood waited has call
then_stands start first before call (asking r request key secret is_request size here stood has) = asking_then start first before r request key secret is_request size here stood has call
then_stands start first before call (denied r request key secret i cause is_request size here stood has) = denied_then start first before r request key secret i cause is_request size here stood has call
then_stands start first before call (ready r request key secret a t is_request size long opens here stood has) = ready_then start first before r request key secret a t is_request size long opens here stood has call
then_stands start first before call (showing r request key secret a t is_request size long opens here stood has) = showing_then start first before r request key secret a t is_request size long opens here stood has call
then_stands start first before call (deceived r request key secret a t p cause is_request size long opens here stood has) = deceived_then start first before r request key secret a t p cause is_request size long opens here stood has call
then_stands start first before call (done r request key secret a t p is_request size long opens here stood has) = done_then start first before r request key secret a t p is_request size long opens here stood has call

-- a client, for itself or speaking for a user whose name fits its field
pub data IsClientRole : Role → Type 0 where
  for_itself : IsClientRole Client
  for_another : (user : List ℕ) → IsName 28 user → IsClientRole (Speakfor user)

begins_so : (role : Role) → IsClientRole role → sk.first_stage role ≡ ClientFirst
begins_so role for_itself = refl
begins_so role (for_another user name) = refl

pub stands : (start : Start) (first : Act) → IsClientRole (role_of start.template) → (talk : List Call) → Stands start first talk
stands start first role [] = begun (ap at (begins_so (role_of start.template) role)) refl refl
stands start first role (call ∷ before) = then_stands start first before call (stands start first role before)
