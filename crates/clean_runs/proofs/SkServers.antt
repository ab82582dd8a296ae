-- What a p9sk1 server's talk may leave: its start, the client's challenge, its request, what the client shows, whether it
-- accepts, and its proof.
use Rattle.std.proofs.Common.{◌≡◌, ℕ, List, [], ◌∷◌, ◌++◌, Bool, true, false, Option, Some, None, Result, Ok, Err, nat_lt, length, ◌&&◌, if◌then◌else◌, refl, sym, ap, subst, ◌∙◌, arith}
use Rattle.std.proofs.lemmas.Bool.{ltb-false}
use Rattle.wire_base.specs.Rules.{first_told}
use Rattle.sealing.specs.declared.fault.FieldFault.{FieldFault}
use Rattle.sealing.specs.declared.kind.TheConstants.{AUTH_AS}
use Rattle.sealing.specs.declared.ticket.Ticket.{Ticket}
use Rattle.roles.specs.declared.answer.Cause.{Cause}
use Rattle.roles.specs.declared.answer.Cause.TheVariants.{WrongKind, WrongChallenge, WrongUser, NotOffered, ServerSaidNo, NoServer, NoRoom, BadKey}
use Rattle.roles.specs.declared.answer.Gave.{Gave}
use Rattle.roles.specs.declared.answer.Gave.TheVariants as g
use Rattle.roles.specs.declared.answer.PhaseWord.TheVariants.{AwaitsRead, AwaitsWrite, Broken as IsBroken}
use Rattle.roles.specs.declared.key.SkKey.{SkKey}
use Rattle.roles.specs.declared.stage.Role.TheVariants.{Server}
use Rattle.roles.specs.declared.stage.Stage.{Stage}
use Rattle.roles.specs.declared.stage.Stage.TheVariants.{ServerKey, ServerFirst, ServerSecond, ServerThird, ServerFourth, ServerDone}
use Rattle.roles.specs.Answers.{is_sought}
use Rattle.roles.specs.Courses.{accepted as outcome_by, refusal}
use Rattle.roles.specs.Courses as sk
use Rattle.roles.specs.Servers.{server_request, shown_came, shown_tests}
use Rattle.roles.specs.Starts.{Start, role_of}
use Rattle.roles.specs.Talks.{Call, Progress, Verdict, give, get, found, heard, unheard, roomless, undone, offered, picked, goes, stays, breaks, sized, tested, unless_told}
use Rattle.roles.specs.Tickets.{proof_for, proof_under, rest_part, ticket_part, ticket_under, with_ticket}
use Rattle.talks.specs.Protocols.{P9sk1}
use Rattle.talks.specs.Lines.{cause_text}
use Rattle.wire_histories.specs.Histories.{Act, gave, took, accepted, failed}
use Rattle.wire_histories.specs.Conversations.{end_by, is_taken, meets, met_by, speaks, waiting}
use Rattle.clean_runs.proofs.LeftLemmas.{acts_above, at, left_at, sk_goes, sk_left}

abbrev pub acts : Start → Act → List Call → List Act
acts start first talk = acts_above (speaks P9sk1 start) first talk

abbrev pub met : Start → List Call → List Call
met start talk = met_by (speaks P9sk1 start) talk

abbrev pub fallen : Stage → Cause → Progress Stage
fallen stage cause = record { stage = stage; broken = Some cause }

-- behind its last move it takes what it is told to be done with
pub data Told (base : List Act) : List Act → Type 0 where
  at_once : Told base base
  told : {acts : List Act} (b : List ℕ) → Told base acts → Told base (took b ∷ acts)

-- what it gives last
abbrev pub proof : List ℕ → Ticket → List ℕ
proof theirs ticket = proof_for AUTH_AS theirs ticket

-- its acts up to its request, and behind what it was shown, on what stands before them
abbrev pub asked_acts : Start → List Act → SkKey → List ℕ → List Act
asked_acts start ground key theirs = gave (server_request start key) ∷ took theirs ∷ ground

abbrev pub accepted_acts : Start → List Act → SkKey → List ℕ → List ℕ → Ticket → List Act
accepted_acts start ground key theirs shown ticket = accepted ticket.cuid ticket.suid ∷ took shown ∷ asked_acts start ground key theirs

-- how it stands behind a talk
pub data Stands (start : Start) (first : Act) (talk : List Call) : Type 0 where
  seeking : sk.course start talk ≡ at ServerKey → acts start first talk ≡ [] → waiting (speaks P9sk1 start) first talk ≡ first → met start talk ≡ [] → Stands start first talk
  keyed : (key : SkKey) (secret : Option (List ℕ)) → sk.course start talk ≡ at (ServerFirst key) → acts start first talk ≡ first ∷ [] → met start talk ≡ found key secret ∷ [] → Stands start first talk
  greeted : (key : SkKey) (secret : Option (List ℕ)) (theirs : List ℕ) → length theirs ≡ 8 → sk.course start talk ≡ at (ServerSecond key theirs) → acts start first talk ≡ took theirs ∷ first ∷ [] → met start talk ≡ found key secret ∷ [] → Stands start first talk
  asking : (key : SkKey) (secret : Option (List ℕ)) (theirs : List ℕ) → length theirs ≡ 8 → sk.course start talk ≡ at (ServerThird key theirs) → acts start first talk ≡ asked_acts start (first ∷ []) key theirs → met start talk ≡ found key secret ∷ [] → Stands start first talk
  broken : (key : SkKey) (secret : Option (List ℕ)) (theirs b : List ℕ) (cause : Cause) → sk.course start talk ≡ fallen (ServerThird key theirs) cause → acts start first talk ≡ failed (cause_text cause) ∷ took b ∷ asked_acts start (first ∷ []) key theirs → met start talk ≡ found key secret ∷ [] → Stands start first talk
  accepting : (key : SkKey) (secret : Option (List ℕ)) (theirs shown : List ℕ) (ticket : Ticket) → length theirs ≡ 8 → ticket_under key (ticket_part shown) ≡ Ok ticket → length shown ≡ 85 → sk.course start talk ≡ at (ServerFourth key theirs shown) → acts start first talk ≡ accepted_acts start (first ∷ []) key theirs shown ticket → met start talk ≡ found key secret ∷ [] → Stands start first talk
  done : (key : SkKey) (secret : Option (List ℕ)) (theirs shown : List ℕ) (ticket : Ticket) → length theirs ≡ 8 → ticket_under key (ticket_part shown) ≡ Ok ticket → length shown ≡ 85 → sk.course start talk ≡ at (ServerDone key theirs shown) → Told (gave (proof theirs ticket) ∷ accepted_acts start (first ∷ []) key theirs shown ticket) (acts start first talk) → met start talk ≡ found key secret ∷ [] → Stands start first talk

-- what stands behind one call more
pub acts_more : (start : Start) (first : Act) (before : List Call) (call : Call) (p : Progress Stage) (v : Verdict Stage) (left more : List Act) → sk.course start before ≡ p → sk.verdict start p call ≡ v → left_at (sk.need_at start) sk.outcome_at p v (waiting (speaks P9sk1 start) first before) call ≡ left → acts start first before ≡ more → acts start first (call ∷ before) ≡ left ++ more
acts_more start first before call p v left more here moves leaves stood = ap (λ xs. xs ++ acts start first before) (sk_left start first before call p v here moves ∙ leaves) ∙ ap (λ xs. left ++ xs) stood

pub met_more : (start : Start) (before : List Call) (call : Call) (p : Progress Stage) (meets_it : Bool) (more : List Call) → sk.course start before ≡ p → meets (sk.need_at start p) call ≡ meets_it → met start before ≡ more → met start (call ∷ before) ≡ (if meets_it then call ∷ more else more)
met_more start before call p meets_it more here is stood =
    ap (λ p. if meets (sk.need_at start p) call then call ∷ met start before else met start before) here
    ∙ ap (λ (b : Bool). if b then call ∷ met start before else met start before) is
    ∙ ap (λ xs. if meets_it then call ∷ xs else xs) stood

abbrev pub is_sought_at : Start → Progress Stage → Bool
is_sought_at start p = is_sought (sk.need_at start p)

-- a message of its size, or not
pub data Sized (size : ℕ) (b : List ℕ) (whole : Verdict Stage) : Type 0 where
  few : sized size b whole ≡ stays (g.TooSmall size) → Sized size b whole
  many : sized size b whole ≡ stays g.TooLong → Sized size b whole
  well : length b ≡ size → sized size b whole ≡ whole → Sized size b whole

pub sized_by : (size : ℕ) (b : List ℕ) (whole : Verdict Stage) (short long : Bool) → nat_lt (length b) size ≡ short → nat_lt size (length b) ≡ long → Sized size b whole
sized_by size b whole true long is_short is_long = few (ap (λ (short : Bool). if short then stays (g.TooSmall size) else if nat_lt size (length b) then stays g.TooLong else whole) is_short)
sized_by size b whole false true is_short is_long = many (ap (λ (short : Bool). if short then stays (g.TooSmall size) else if nat_lt size (length b) then stays g.TooLong else whole) is_short ∙ ap (λ (long : Bool). if long then stays g.TooLong else whole) is_long)
sized_by size b whole false false is_short is_long =
    let least = ltb-false (length b) size is_short in
    let most = ltb-false size (length b) is_long in
    well (omega (arith, least, most)) (ap (λ (short : Bool). if short then stays (g.TooSmall size) else if nat_lt size (length b) then stays g.TooLong else whole) is_short ∙ ap (λ (long : Bool). if long then stays g.TooLong else whole) is_long)

pub refused_is_taken : (cause : Cause) → is_taken (refusal cause) ≡ true
refused_is_taken WrongKind = refl
refused_is_taken WrongChallenge = refl
refused_is_taken WrongUser = refl
refused_is_taken NotOffered = refl
refused_is_taken ServerSaidNo = refl
refused_is_taken NoServer = refl
refused_is_taken NoRoom = refl
refused_is_taken BadKey = refl

-- ---- it seeks its key

seeking_stays : (start : Start) (first : Act) (before : List Call) (call : Call) → sk.verdict start (at ServerKey) call ≡ stays g.Wait → left_at (sk.need_at start) sk.outcome_at (at ServerKey) (stays g.Wait) first call ≡ [] → meets (sk.need_at start (at ServerKey)) call ≡ false → (sk.course start before ≡ at ServerKey → waiting (speaks P9sk1 start) first (call ∷ before) ≡ waiting (speaks P9sk1 start) first before) → sk.course start before ≡ at ServerKey → acts start first before ≡ [] → waiting (speaks P9sk1 start) first before ≡ first → met start before ≡ [] → Stands start first (call ∷ before)
seeking_stays start first before call moves leaves no_key waits here stood waited none = seeking
    (sk_goes start before call (at ServerKey) (stays g.Wait) here moves)
    (acts_more start first before call (at ServerKey) (stays g.Wait) [] [] here moves (ap (λ act. left_at (sk.need_at start) sk.outcome_at (at ServerKey) (stays g.Wait) act call) waited ∙ leaves) stood)
    (waits here ∙ waited)
    (met_more start before call (at ServerKey) false [] here no_key none)

seeking_then : (start : Start) (first : Act) (before : List Call) → sk.course start before ≡ at ServerKey → acts start first before ≡ [] → waiting (speaks P9sk1 start) first before ≡ first → met start before ≡ [] → (call : Call) → Stands start first (call ∷ before)
seeking_then start first before here stood waited none (give b) = seeking_stays start first before (give b) refl refl refl (λ h. ap (λ p. if is_sought_at start p then waiting (speaks P9sk1 start) first before else took b) h) here stood waited none
seeking_then start first before here stood waited none get = seeking_stays start first before get refl refl refl (λ h. refl) here stood waited none
seeking_then start first before here stood waited none (found key secret) = keyed key secret
    (sk_goes start before (found key secret) (at ServerKey) (goes (ServerFirst key) g.Ok []) here refl)
    (acts_more start first before (found key secret) (at ServerKey) (goes (ServerFirst key) g.Ok []) (first ∷ []) [] here refl (ap (λ act. act ∷ []) waited) stood)
    (met_more start before (found key secret) (at ServerKey) true [] here refl none)
seeking_then start first before here stood waited none (heard b) = seeking_stays start first before (heard b) refl refl refl (λ h. refl) here stood waited none
seeking_then start first before here stood waited none unheard = seeking_stays start first before unheard refl refl refl (λ h. refl) here stood waited none
seeking_then start first before here stood waited none roomless = seeking_stays start first before roomless refl refl refl (λ h. refl) here stood waited none
seeking_then start first before here stood waited none undone = seeking_stays start first before undone refl refl refl (λ h. refl) here stood waited none
seeking_then start first before here stood waited none (offered list) = seeking_stays start first before (offered list) refl refl refl (λ h. refl) here stood waited none
seeking_then start first before here stood waited none (picked place) = seeking_stays start first before (picked place) refl refl refl (λ h. refl) here stood waited none

-- ---- it has its key

keyed_stays : (start : Start) (first : Act) (before : List Call) (call : Call) (key : SkKey) (secret : Option (List ℕ)) (given : Gave) → sk.verdict start (at (ServerFirst key)) call ≡ stays given → left_at (sk.need_at start) sk.outcome_at (at (ServerFirst key)) (stays given) (waiting (speaks P9sk1 start) first before) call ≡ [] → sk.course start before ≡ at (ServerFirst key) → acts start first before ≡ first ∷ [] → met start before ≡ found key secret ∷ [] → Stands start first (call ∷ before)
keyed_stays start first before call key secret given moves leaves here stood has = keyed key secret
    (sk_goes start before call (at (ServerFirst key)) (stays given) here moves)
    (acts_more start first before call (at (ServerFirst key)) (stays given) [] (first ∷ []) here moves leaves stood)
    (met_more start before call (at (ServerFirst key)) false (found key secret ∷ []) here refl has)

keyed_given : (start : Start) (first : Act) (before : List Call) (b : List ℕ) (key : SkKey) (secret : Option (List ℕ)) → sk.course start before ≡ at (ServerFirst key) → acts start first before ≡ first ∷ [] → met start before ≡ found key secret ∷ [] → Sized 8 b (goes (ServerSecond key b) g.Ok []) → Stands start first (give b ∷ before)
keyed_given start first before b key secret here stood has (few is) = keyed_stays start first before (give b) key secret (g.TooSmall 8) is refl here stood has
keyed_given start first before b key secret here stood has (many is) = keyed_stays start first before (give b) key secret g.TooLong is refl here stood has
keyed_given start first before b key secret here stood has (well size is) = greeted key secret b size
    (sk_goes start before (give b) (at (ServerFirst key)) (goes (ServerSecond key b) g.Ok []) here is)
    (acts_more start first before (give b) (at (ServerFirst key)) (goes (ServerSecond key b) g.Ok []) (took b ∷ []) (first ∷ []) here is refl stood)
    (met_more start before (give b) (at (ServerFirst key)) false (found key secret ∷ []) here refl has)

keyed_then : (start : Start) (first : Act) (before : List Call) (key : SkKey) (secret : Option (List ℕ)) → sk.course start before ≡ at (ServerFirst key) → acts start first before ≡ first ∷ [] → met start before ≡ found key secret ∷ [] → (call : Call) → Stands start first (call ∷ before)
keyed_then start first before key secret here stood has (give b) = keyed_given start first before b key secret here stood has (sized_by 8 b (goes (ServerSecond key b) g.Ok []) (nat_lt (length b) 8) (nat_lt 8 (length b)) refl refl)
keyed_then start first before key secret here stood has get = keyed_stays start first before get key secret (g.Phase AwaitsWrite) refl refl here stood has
keyed_then start first before key secret here stood has (found other more) = keyed_stays start first before (found other more) key secret (g.Phase AwaitsWrite) refl refl here stood has
keyed_then start first before key secret here stood has (heard b) = keyed_stays start first before (heard b) key secret (g.Phase AwaitsWrite) refl refl here stood has
keyed_then start first before key secret here stood has unheard = keyed_stays start first before unheard key secret (g.Phase AwaitsWrite) refl refl here stood has
keyed_then start first before key secret here stood has roomless = keyed_stays start first before roomless key secret (g.Phase AwaitsWrite) refl refl here stood has
keyed_then start first before key secret here stood has undone = keyed_stays start first before undone key secret (g.Phase AwaitsWrite) refl refl here stood has
keyed_then start first before key secret here stood has (offered list) = keyed_stays start first before (offered list) key secret (g.Phase AwaitsWrite) refl refl here stood has
keyed_then start first before key secret here stood has (picked place) = keyed_stays start first before (picked place) key secret (g.Phase AwaitsWrite) refl refl here stood has

-- ---- the client's challenge came

greeted_stays : (start : Start) (first : Act) (before : List Call) (call : Call) (key : SkKey) (secret : Option (List ℕ)) (theirs : List ℕ) (given : Gave) → sk.verdict start (at (ServerSecond key theirs)) call ≡ stays given → left_at (sk.need_at start) sk.outcome_at (at (ServerSecond key theirs)) (stays given) (waiting (speaks P9sk1 start) first before) call ≡ [] → length theirs ≡ 8 → sk.course start before ≡ at (ServerSecond key theirs) → acts start first before ≡ took theirs ∷ first ∷ [] → met start before ≡ found key secret ∷ [] → Stands start first (call ∷ before)
greeted_stays start first before call key secret theirs given moves leaves eight here stood has = greeted key secret theirs eight
    (sk_goes start before call (at (ServerSecond key theirs)) (stays given) here moves)
    (acts_more start first before call (at (ServerSecond key theirs)) (stays given) [] (took theirs ∷ first ∷ []) here moves leaves stood)
    (met_more start before call (at (ServerSecond key theirs)) false (found key secret ∷ []) here refl has)

greeted_then : (start : Start) (first : Act) (before : List Call) (key : SkKey) (secret : Option (List ℕ)) (theirs : List ℕ) → length theirs ≡ 8 → sk.course start before ≡ at (ServerSecond key theirs) → acts start first before ≡ took theirs ∷ first ∷ [] → met start before ≡ found key secret ∷ [] → (call : Call) → Stands start first (call ∷ before)
greeted_then start first before key secret theirs eight here stood has (give b) = greeted_stays start first before (give b) key secret theirs (g.Phase AwaitsRead) refl refl eight here stood has
greeted_then start first before key secret theirs eight here stood has get = asking key secret theirs eight
    (sk_goes start before get (at (ServerSecond key theirs)) (goes (ServerThird key theirs) g.Ok (server_request start key)) here refl)
    (acts_more start first before get (at (ServerSecond key theirs)) (goes (ServerThird key theirs) g.Ok (server_request start key)) (gave (server_request start key) ∷ []) (took theirs ∷ first ∷ []) here refl refl stood)
    (met_more start before get (at (ServerSecond key theirs)) false (found key secret ∷ []) here refl has)
greeted_then start first before key secret theirs eight here stood has (found other more) = greeted_stays start first before (found other more) key secret theirs (g.Phase AwaitsRead) refl refl eight here stood has
greeted_then start first before key secret theirs eight here stood has (heard b) = greeted_stays start first before (heard b) key secret theirs (g.Phase AwaitsRead) refl refl eight here stood has
greeted_then start first before key secret theirs eight here stood has unheard = greeted_stays start first before unheard key secret theirs (g.Phase AwaitsRead) refl refl eight here stood has
greeted_then start first before key secret theirs eight here stood has roomless = greeted_stays start first before roomless key secret theirs (g.Phase AwaitsRead) refl refl eight here stood has
greeted_then start first before key secret theirs eight here stood has undone = greeted_stays start first before undone key secret theirs (g.Phase AwaitsRead) refl refl eight here stood has
greeted_then start first before key secret theirs eight here stood has (offered list) = greeted_stays start first before (offered list) key secret theirs (g.Phase AwaitsRead) refl refl eight here stood has
greeted_then start first before key secret theirs eight here stood has (picked place) = greeted_stays start first before (picked place) key secret theirs (g.Phase AwaitsRead) refl refl eight here stood has

-- ---- it asked

asking_stays : (start : Start) (first : Act) (before : List Call) (call : Call) (key : SkKey) (secret : Option (List ℕ)) (theirs : List ℕ) (given : Gave) → sk.verdict start (at (ServerThird key theirs)) call ≡ stays given → left_at (sk.need_at start) sk.outcome_at (at (ServerThird key theirs)) (stays given) (waiting (speaks P9sk1 start) first before) call ≡ [] → length theirs ≡ 8 → sk.course start before ≡ at (ServerThird key theirs) → acts start first before ≡ asked_acts start (first ∷ []) key theirs → met start before ≡ found key secret ∷ [] → Stands start first (call ∷ before)
asking_stays start first before call key secret theirs given moves leaves eight here stood has = asking key secret theirs eight
    (sk_goes start before call (at (ServerThird key theirs)) (stays given) here moves)
    (acts_more start first before call (at (ServerThird key theirs)) (stays given) [] (asked_acts start (first ∷ []) key theirs) here moves leaves stood)
    (met_more start before call (at (ServerThird key theirs)) false (found key secret ∷ []) here refl has)

-- what a client shows opens and passes, or breaks the conversation
data Came (start : Start) (key : SkKey) (theirs b : List ℕ) : Type 0 where
  bad : (cause : Cause) → shown_came start key theirs b ≡ breaks cause → Came start key theirs b
  good : (ticket : Ticket) → ticket_under key (ticket_part b) ≡ Ok ticket → shown_came start key theirs b ≡ goes (ServerFourth key theirs b) g.Ok [] → Came start key theirs b

came_told : (start : Start) (key : SkKey) (theirs b : List ℕ) (ticket : Ticket) (fault : Option Cause) → ticket_under key (ticket_part b) ≡ Ok ticket → first_told (shown_tests start ticket (proof_under ticket (rest_part b))) ≡ fault → Came start key theirs b
came_told start key theirs b ticket (Some cause) opens is = bad cause (ap (λ r. with_ticket WrongKind r (λ ticket. tested (shown_tests start ticket (proof_under ticket (rest_part b))) (goes (ServerFourth key theirs b) g.Ok []))) opens ∙ ap (λ told. unless_told told (goes (ServerFourth key theirs b) g.Ok [])) is)
came_told start key theirs b ticket None opens is = good ticket opens (ap (λ r. with_ticket WrongKind r (λ ticket. tested (shown_tests start ticket (proof_under ticket (rest_part b))) (goes (ServerFourth key theirs b) g.Ok []))) opens ∙ ap (λ told. unless_told told (goes (ServerFourth key theirs b) g.Ok [])) is)

came_by : (start : Start) (key : SkKey) (theirs b : List ℕ) (opens : Result Ticket FieldFault) → ticket_under key (ticket_part b) ≡ opens → Came start key theirs b
came_by start key theirs b (Ok ticket) is = came_told start key theirs b ticket (first_told (shown_tests start ticket (proof_under ticket (rest_part b)))) is refl
came_by start key theirs b (Err fault) is = bad WrongKind (ap (λ r. with_ticket WrongKind r (λ ticket. tested (shown_tests start ticket (proof_under ticket (rest_part b))) (goes (ServerFourth key theirs b) g.Ok []))) is)

broken_left : (b : List ℕ) (cause : Cause) → failed (cause_text cause) ∷ (if is_taken (refusal cause) && true then took b ∷ [] else []) ≡ failed (cause_text cause) ∷ took b ∷ []
broken_left b cause = ap (λ (t : Bool). failed (cause_text cause) ∷ (if t && true then took b ∷ [] else [])) (refused_is_taken cause)

asking_came : (start : Start) (first : Act) (before : List Call) (b : List ℕ) (key : SkKey) (secret : Option (List ℕ)) (theirs : List ℕ) → length theirs ≡ 8 → sk.course start before ≡ at (ServerThird key theirs) → acts start first before ≡ asked_acts start (first ∷ []) key theirs → met start before ≡ found key secret ∷ [] → length b ≡ 85 → sized 85 b (shown_came start key theirs b) ≡ shown_came start key theirs b → Came start key theirs b → Stands start first (give b ∷ before)
asking_came start first before b key secret theirs eight here stood has size whole (bad cause is) = broken key secret theirs b cause
    (sk_goes start before (give b) (at (ServerThird key theirs)) (breaks cause) here (whole ∙ is))
    (acts_more start first before (give b) (at (ServerThird key theirs)) (breaks cause) (failed (cause_text cause) ∷ took b ∷ []) (asked_acts start (first ∷ []) key theirs) here (whole ∙ is) (broken_left b cause) stood)
    (met_more start before (give b) (at (ServerThird key theirs)) false (found key secret ∷ []) here refl has)
asking_came start first before b key secret theirs eight here stood has size whole (good ticket opens is) = accepting key secret theirs b ticket eight opens size
    (sk_goes start before (give b) (at (ServerThird key theirs)) (goes (ServerFourth key theirs b) g.Ok []) here (whole ∙ is))
    (acts_more start first before (give b) (at (ServerThird key theirs)) (goes (ServerFourth key theirs b) g.Ok []) (accepted ticket.cuid ticket.suid ∷ took b ∷ []) (asked_acts start (first ∷ []) key theirs) here (whole ∙ is) (ap (λ r. end_by (sk.outcome_at (at (ServerThird key theirs))) (outcome_by WrongKind r) ++ took b ∷ []) opens) stood)
    (met_more start before (give b) (at (ServerThird key theirs)) false (found key secret ∷ []) here refl has)

asking_given : (start : Start) (first : Act) (before : List Call) (b : List ℕ) (key : SkKey) (secret : Option (List ℕ)) (theirs : List ℕ) → length theirs ≡ 8 → sk.course start before ≡ at (ServerThird key theirs) → acts start first before ≡ asked_acts start (first ∷ []) key theirs → met start before ≡ found key secret ∷ [] → Sized 85 b (shown_came start key theirs b) → Stands start first (give b ∷ before)
asking_given start first before b key secret theirs eight here stood has (few is) = asking_stays start first before (give b) key secret theirs (g.TooSmall 85) is refl eight here stood has
asking_given start first before b key secret theirs eight here stood has (many is) = asking_stays start first before (give b) key secret theirs g.TooLong is refl eight here stood has
asking_given start first before b key secret theirs eight here stood has (well size is) = asking_came start first before b key secret theirs eight here stood has size is (came_by start key theirs b (ticket_under key (ticket_part b)) refl)

asking_then : (start : Start) (first : Act) (before : List Call) (key : SkKey) (secret : Option (List ℕ)) (theirs : List ℕ) → length theirs ≡ 8 → sk.course start before ≡ at (ServerThird key theirs) → acts start first before ≡ asked_acts start (first ∷ []) key theirs → met start before ≡ found key secret ∷ [] → (call : Call) → Stands start first (call ∷ before)
asking_then start first before key secret theirs eight here stood has (give b) = asking_given start first before b key secret theirs eight here stood has (sized_by 85 b (shown_came start key theirs b) (nat_lt (length b) 85) (nat_lt 85 (length b)) refl refl)
asking_then start first before key secret theirs eight here stood has get = asking_stays start first before get key secret theirs (g.Phase AwaitsWrite) refl refl eight here stood has
asking_then start first before key secret theirs eight here stood has (found other more) = asking_stays start first before (found other more) key secret theirs (g.Phase AwaitsWrite) refl refl eight here stood has
asking_then start first before key secret theirs eight here stood has (heard b) = asking_stays start first before (heard b) key secret theirs (g.Phase AwaitsWrite) refl refl eight here stood has
asking_then start first before key secret theirs eight here stood has unheard = asking_stays start first before unheard key secret theirs (g.Phase AwaitsWrite) refl refl eight here stood has
asking_then start first before key secret theirs eight here stood has roomless = asking_stays start first before roomless key secret theirs (g.Phase AwaitsWrite) refl refl eight here stood has
asking_then start first before key secret theirs eight here stood has undone = asking_stays start first before undone key secret theirs (g.Phase AwaitsWrite) refl refl eight here stood has
asking_then start first before key secret theirs eight here stood has (offered list) = asking_stays start first before (offered list) key secret theirs (g.Phase AwaitsWrite) refl refl eight here stood has
asking_then start first before key secret theirs eight here stood has (picked place) = asking_stays start first before (picked place) key secret theirs (g.Phase AwaitsWrite) refl refl eight here stood has

-- ---- it broke

broken_stays : (start : Start) (first : Act) (before : List Call) (call : Call) (key : SkKey) (secret : Option (List ℕ)) (theirs : List ℕ) (b : List ℕ) (cause : Cause) (given : Gave) → sk.verdict start (fallen (ServerThird key theirs) cause) call ≡ stays given → left_at (sk.need_at start) sk.outcome_at (fallen (ServerThird key theirs) cause) (stays given) (waiting (speaks P9sk1 start) first before) call ≡ [] → sk.course start before ≡ fallen (ServerThird key theirs) cause → acts start first before ≡ failed (cause_text cause) ∷ took b ∷ asked_acts start (first ∷ []) key theirs → met start before ≡ found key secret ∷ [] → Stands start first (call ∷ before)
broken_stays start first before call key secret theirs b cause given moves leaves here stood has = broken key secret theirs b cause
    (sk_goes start before call (fallen (ServerThird key theirs) cause) (stays given) here moves)
    (acts_more start first before call (fallen (ServerThird key theirs) cause) (stays given) [] (failed (cause_text cause) ∷ took b ∷ asked_acts start (first ∷ []) key theirs) here moves leaves stood)
    (met_more start before call (fallen (ServerThird key theirs) cause) false (found key secret ∷ []) here refl has)

broken_then : (start : Start) (first : Act) (before : List Call) (key : SkKey) (secret : Option (List ℕ)) (theirs : List ℕ) (b : List ℕ) (cause : Cause) → sk.course start before ≡ fallen (ServerThird key theirs) cause → acts start first before ≡ failed (cause_text cause) ∷ took b ∷ asked_acts start (first ∷ []) key theirs → met start before ≡ found key secret ∷ [] → (call : Call) → Stands start first (call ∷ before)
broken_then start first before key secret theirs b cause here stood has (give more) = broken_stays start first before (give more) key secret theirs b cause (g.Phase IsBroken) refl refl here stood has
broken_then start first before key secret theirs b cause here stood has get = broken_stays start first before get key secret theirs b cause (g.Phase IsBroken) refl refl here stood has
broken_then start first before key secret theirs b cause here stood has (found other more) = broken_stays start first before (found other more) key secret theirs b cause (g.Phase IsBroken) refl refl here stood has
broken_then start first before key secret theirs b cause here stood has (heard more) = broken_stays start first before (heard more) key secret theirs b cause (g.Phase IsBroken) refl refl here stood has
broken_then start first before key secret theirs b cause here stood has unheard = broken_stays start first before unheard key secret theirs b cause (g.Phase IsBroken) refl refl here stood has
broken_then start first before key secret theirs b cause here stood has roomless = broken_stays start first before roomless key secret theirs b cause (g.Phase IsBroken) refl refl here stood has
broken_then start first before key secret theirs b cause here stood has undone = broken_stays start first before undone key secret theirs b cause (g.Phase IsBroken) refl refl here stood has
broken_then start first before key secret theirs b cause here stood has (offered list) = broken_stays start first before (offered list) key secret theirs b cause (g.Phase IsBroken) refl refl here stood has
broken_then start first before key secret theirs b cause here stood has (picked place) = broken_stays start first before (picked place) key secret theirs b cause (g.Phase IsBroken) refl refl here stood has

-- ---- it accepted

accepting_stays : (start : Start) (first : Act) (before : List Call) (call : Call) (key : SkKey) (secret : Option (List ℕ)) (theirs : List ℕ) (shown : List ℕ) (ticket : Ticket) (given : Gave) → sk.verdict start (at (ServerFourth key theirs shown)) call ≡ stays given → left_at (sk.need_at start) sk.outcome_at (at (ServerFourth key theirs shown)) (stays given) (waiting (speaks P9sk1 start) first before) call ≡ [] → length theirs ≡ 8 → ticket_under key (ticket_part shown) ≡ Ok ticket → length shown ≡ 85 → sk.course start before ≡ at (ServerFourth key theirs shown) → acts start first before ≡ accepted_acts start (first ∷ []) key theirs shown ticket → met start before ≡ found key secret ∷ [] → Stands start first (call ∷ before)
accepting_stays start first before call key secret theirs shown ticket given moves leaves eight opens size here stood has = accepting key secret theirs shown ticket eight opens size
    (sk_goes start before call (at (ServerFourth key theirs shown)) (stays given) here moves)
    (acts_more start first before call (at (ServerFourth key theirs shown)) (stays given) [] (accepted_acts start (first ∷ []) key theirs shown ticket) here moves leaves stood)
    (met_more start before call (at (ServerFourth key theirs shown)) false (found key secret ∷ []) here refl has)

accepting_then : (start : Start) (first : Act) (before : List Call) (key : SkKey) (secret : Option (List ℕ)) (theirs : List ℕ) (shown : List ℕ) (ticket : Ticket) → length theirs ≡ 8 → ticket_under key (ticket_part shown) ≡ Ok ticket → length shown ≡ 85 → sk.course start before ≡ at (ServerFourth key theirs shown) → acts start first before ≡ accepted_acts start (first ∷ []) key theirs shown ticket → met start before ≡ found key secret ∷ [] → (call : Call) → Stands start first (call ∷ before)
accepting_then start first before key secret theirs shown ticket eight opens size here stood has (give b) = accepting_stays start first before (give b) key secret theirs shown ticket (g.Phase AwaitsRead) refl (ap (λ r. end_by (outcome_by WrongKind r) (outcome_by WrongKind r) ++ []) opens) eight opens size here stood has
accepting_then start first before key secret theirs shown ticket eight opens size here stood has get =
    let v = goes (ServerDone key theirs shown) g.Ok (proof theirs ticket) in
    let moves : sk.verdict start (at (ServerFourth key theirs shown)) get ≡ v = ap (λ r. with_ticket WrongKind r (λ ticket. goes (ServerDone key theirs shown) g.Ok (proof_for AUTH_AS theirs ticket))) opens in
    done key secret theirs shown ticket eight opens size
    (sk_goes start before get (at (ServerFourth key theirs shown)) v here moves)
    (subst (Told (gave (proof theirs ticket) ∷ accepted_acts start (first ∷ []) key theirs shown ticket)) (sym (acts_more start first before get (at (ServerFourth key theirs shown)) v (gave (proof theirs ticket) ∷ []) (accepted_acts start (first ∷ []) key theirs shown ticket) here moves (ap (λ r. end_by (outcome_by WrongKind r) (outcome_by WrongKind r) ++ gave (proof theirs ticket) ∷ []) opens) stood)) at_once)
    (met_more start before get (at (ServerFourth key theirs shown)) false (found key secret ∷ []) here refl has)
accepting_then start first before key secret theirs shown ticket eight opens size here stood has (found other more) = accepting_stays start first before (found other more) key secret theirs shown ticket (g.Phase AwaitsRead) refl (ap (λ r. end_by (outcome_by WrongKind r) (outcome_by WrongKind r) ++ []) opens) eight opens size here stood has
accepting_then start first before key secret theirs shown ticket eight opens size here stood has (heard b) = accepting_stays start first before (heard b) key secret theirs shown ticket (g.Phase AwaitsRead) refl (ap (λ r. end_by (outcome_by WrongKind r) (outcome_by WrongKind r) ++ []) opens) eight opens size here stood has
accepting_then start first before key secret theirs shown ticket eight opens size here stood has unheard = accepting_stays start first before unheard key secret theirs shown ticket (g.Phase AwaitsRead) refl (ap (λ r. end_by (outcome_by WrongKind r) (outcome_by WrongKind r) ++ []) opens) eight opens size here stood has
accepting_then start first before key secret theirs shown ticket eight opens size here stood has roomless = accepting_stays start first before roomless key secret theirs shown ticket (g.Phase AwaitsRead) refl (ap (λ r. end_by (outcome_by WrongKind r) (outcome_by WrongKind r) ++ []) opens) eight opens size here stood has
accepting_then start first before key secret theirs shown ticket eight opens size here stood has undone = accepting_stays start first before undone key secret theirs shown ticket (g.Phase AwaitsRead) refl (ap (λ r. end_by (outcome_by WrongKind r) (outcome_by WrongKind r) ++ []) opens) eight opens size here stood has
accepting_then start first before key secret theirs shown ticket eight opens size here stood has (offered list) = accepting_stays start first before (offered list) key secret theirs shown ticket (g.Phase AwaitsRead) refl (ap (λ r. end_by (outcome_by WrongKind r) (outcome_by WrongKind r) ++ []) opens) eight opens size here stood has
accepting_then start first before key secret theirs shown ticket eight opens size here stood has (picked place) = accepting_stays start first before (picked place) key secret theirs shown ticket (g.Phase AwaitsRead) refl (ap (λ r. end_by (outcome_by WrongKind r) (outcome_by WrongKind r) ++ []) opens) eight opens size here stood has

-- ---- it gave its proof

done_with : (start : Start) (first : Act) (before : List Call) (call : Call) (key : SkKey) (secret : Option (List ℕ)) (theirs : List ℕ) (shown : List ℕ) (ticket : Ticket) (left : List Act) → sk.verdict start (at (ServerDone key theirs shown)) call ≡ stays (g.Done true) → left_at (sk.need_at start) sk.outcome_at (at (ServerDone key theirs shown)) (stays (g.Done true)) (waiting (speaks P9sk1 start) first before) call ≡ left → length theirs ≡ 8 → ticket_under key (ticket_part shown) ≡ Ok ticket → length shown ≡ 85 → sk.course start before ≡ at (ServerDone key theirs shown) → Told (gave (proof theirs ticket) ∷ accepted_acts start (first ∷ []) key theirs shown ticket) (left ++ acts start first before) → met start before ≡ found key secret ∷ [] → Stands start first (call ∷ before)
done_with start first before call key secret theirs shown ticket left moves leaves eight opens size here stood has = done key secret theirs shown ticket eight opens size
    (sk_goes start before call (at (ServerDone key theirs shown)) (stays (g.Done true)) here moves)
    (subst (Told (gave (proof theirs ticket) ∷ accepted_acts start (first ∷ []) key theirs shown ticket)) (sym (acts_more start first before call (at (ServerDone key theirs shown)) (stays (g.Done true)) left (acts start first before) here moves leaves refl)) stood)
    (met_more start before call (at (ServerDone key theirs shown)) false (found key secret ∷ []) here refl has)

done_then : (start : Start) (first : Act) (before : List Call) (key : SkKey) (secret : Option (List ℕ)) (theirs : List ℕ) (shown : List ℕ) (ticket : Ticket) → length theirs ≡ 8 → ticket_under key (ticket_part shown) ≡ Ok ticket → length shown ≡ 85 → sk.course start before ≡ at (ServerDone key theirs shown) → Told (gave (proof theirs ticket) ∷ accepted_acts start (first ∷ []) key theirs shown ticket) (acts start first before) → met start before ≡ found key secret ∷ [] → (call : Call) → Stands start first (call ∷ before)
done_then start first before key secret theirs shown ticket eight opens size here stood has (give b) = done_with start first before (give b) key secret theirs shown ticket (took b ∷ []) refl (ap (λ r. end_by (outcome_by WrongKind r) (outcome_by WrongKind r) ++ took b ∷ []) opens) eight opens size here (told b stood) has
done_then start first before key secret theirs shown ticket eight opens size here stood has get = done_with start first before get key secret theirs shown ticket ([]) refl (ap (λ r. end_by (outcome_by WrongKind r) (outcome_by WrongKind r) ++ []) opens) eight opens size here stood has
done_then start first before key secret theirs shown ticket eight opens size here stood has (found other more) = done_with start first before (found other more) key secret theirs shown ticket ([]) refl (ap (λ r. end_by (outcome_by WrongKind r) (outcome_by WrongKind r) ++ []) opens) eight opens size here stood has
done_then start first before key secret theirs shown ticket eight opens size here stood has (heard b) = done_with start first before (heard b) key secret theirs shown ticket ([]) refl (ap (λ r. end_by (outcome_by WrongKind r) (outcome_by WrongKind r) ++ []) opens) eight opens size here stood has
done_then start first before key secret theirs shown ticket eight opens size here stood has unheard = done_with start first before unheard key secret theirs shown ticket ([]) refl (ap (λ r. end_by (outcome_by WrongKind r) (outcome_by WrongKind r) ++ []) opens) eight opens size here stood has
done_then start first before key secret theirs shown ticket eight opens size here stood has roomless = done_with start first before roomless key secret theirs shown ticket ([]) refl (ap (λ r. end_by (outcome_by WrongKind r) (outcome_by WrongKind r) ++ []) opens) eight opens size here stood has
done_then start first before key secret theirs shown ticket eight opens size here stood has undone = done_with start first before undone key secret theirs shown ticket ([]) refl (ap (λ r. end_by (outcome_by WrongKind r) (outcome_by WrongKind r) ++ []) opens) eight opens size here stood has
done_then start first before key secret theirs shown ticket eight opens size here stood has (offered list) = done_with start first before (offered list) key secret theirs shown ticket ([]) refl (ap (λ r. end_by (outcome_by WrongKind r) (outcome_by WrongKind r) ++ []) opens) eight opens size here stood has
done_then start first before key secret theirs shown ticket eight opens size here stood has (picked place) = done_with start first before (picked place) key secret theirs shown ticket ([]) refl (ap (λ r. end_by (outcome_by WrongKind r) (outcome_by WrongKind r) ++ []) opens) eight opens size here stood has

-- ---- every talk

then_stands : (start : Start) (first : Act) (before : List Call) (call : Call) → Stands start first before → Stands start first (call ∷ before)
then_stands start first before call (seeking here stood waited none) = seeking_then start first before here stood waited none call
then_stands start first before call (keyed key secret here stood has) = keyed_then start first before key secret here stood has call
then_stands start first before call (greeted key secret theirs eight here stood has) = greeted_then start first before key secret theirs eight here stood has call
then_stands start first before call (asking key secret theirs eight here stood has) = asking_then start first before key secret theirs eight here stood has call
then_stands start first before call (broken key secret theirs b cause here stood has) = broken_then start first before key secret theirs b cause here stood has call
then_stands start first before call (accepting key secret theirs shown ticket eight opens size here stood has) = accepting_then start first before key secret theirs shown ticket eight opens size here stood has call
then_stands start first before call (done key secret theirs shown ticket eight opens size here stood has) = done_then start first before key secret theirs shown ticket eight opens size here stood has call

pub stands : (start : Start) (first : Act) → role_of start.template ≡ Server → (talk : List Call) → Stands start first talk
stands start first role [] = seeking (ap (λ role. at (sk.first_stage role)) role) refl refl refl
stands start first role (call ∷ before) = then_stands start first before call (stands start first role before)
