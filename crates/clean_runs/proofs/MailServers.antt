-- What a mail server's talk may leave: its start, its question for a challenge and the answer, the challenge, the user, his
-- digits, its question whether they are right and the answer, and whether it accepts.
use Rattle.std.proofs.Common.{◌≡◌, ℕ, List, [], ◌∷◌, ◌++◌, Bool, true, false, Option, Some, None, Result, Ok, Err, nat_lt, length, drop, slice_index, not, ◌&&◌, ◌||◌, ◌==◌, if◌then◌else◌, refl, ap, ◌∙◌, arith}
use Rattle.std.proofs.lemmas.Bool.{and_parts, eqb-true, ltb-false}
use Rattle.std.specs.Str.{bytes_eq}
use Rattle.wire_base.specs.Names.{IsName}
use Rattle.wire_base.specs.Rules.{Rule, first_told}
use Rattle.wire_base.specs.Texts.{is_text}
use Rattle.attr_tuples.specs.Forms.{is_user}
use Rattle.sealing.specs.declared.fault.FieldFault.{FieldFault}
use Rattle.sealing.specs.declared.kind.TheConstants.{AUTH_OK, AUTH_TS, AUTH_AC}
use Rattle.sealing.specs.declared.ticket.Ticket.{Ticket}
use Rattle.roles.specs.declared.answer.Cause.{Cause}
use Rattle.roles.specs.declared.answer.Cause.TheVariants.{WrongKind, WrongChallenge, WrongUser, ServerSaidNo, NoServer, NoRoom, BadKey}
use Rattle.roles.specs.declared.answer.Gave.{Gave}
use Rattle.roles.specs.declared.answer.Gave.TheVariants as g
use Rattle.roles.specs.declared.answer.PhaseWord.TheVariants.{AwaitsRead, AwaitsWrite, Broken as IsBroken}
use Rattle.roles.specs.declared.key.SkKey.{SkKey}
use Rattle.roles.specs.Answers.{is_sought}
use Rattle.roles.specs.Clients.{is_refusal, proof_tests}
use Rattle.roles.specs.Courses.{accepted as outcome_by, then_course}
use Rattle.roles.specs.Starts.{Start}
use Rattle.roles.specs.Talks.{Call, Progress, Verdict, give, get, found, heard, unheard, roomless, undone, offered, picked, goes, stays, breaks, sized, tested, unless_told}
use Rattle.roles.specs.Tickets.{proof_under, rest_part, ticket_part, ticket_under, with_ticket}
use Rattle.conv_challenge.specs.declared.stage.Side.TheVariants.{Server}
use Rattle.conv_challenge.specs.declared.stage.Stage.{Stage}
use Rattle.conv_challenge.specs.declared.stage.Stage.TheVariants.{ServerKey, ServerAsk, ServerFirst, ServerSecond, ServerThird, ServerVouch, ServerDone}
use Rattle.conv_challenge.specs.Courses as mail
use Rattle.conv_challenge.specs.Servers.{challenge_came, challenge_question, grants_challenge, grants_vouch, user_came, user_tests, vouch_came, vouch_opened, vouch_question, vouch_tests}
use Rattle.conv_challenge.specs.Starts.{side_of}
use Rattle.talks.specs.Protocols.{Mail}
use Rattle.talks.specs.Lines.{cause_text}
use Rattle.wire_histories.specs.Histories.{Act, gave, took, asked, answered, unanswered, accepted, failed}
use Rattle.wire_histories.specs.Conversations.{acts_from, end_by, is_taken, meets, met_by, speaks, waiting}
use Rattle.clean_runs.proofs.LeftLemmas.{at, left_at, mail_goes_from, mail_left_from}
use Rattle.clean_runs.proofs.MailClients.{Bounded, bounded_by, few, many, well}
use Rattle.clean_runs.proofs.Numbers.{same_name}
use Rattle.clean_runs.proofs.SkClients.{Instead, by_answer, by_no_room, by_none, instead}
use Rattle.clean_runs.proofs.SkServers.{Told, at_once, told}

abbrev acts : Start → Act → List Call → List Act
acts start first talk = acts_from (speaks Mail start) first talk

abbrev met : Start → List Call → List Call
met start talk = met_by (speaks Mail start) talk

abbrev fallen : Stage → Cause → Progress Stage
fallen stage cause = record { stage = stage; broken = Some cause }

-- its acts, one behind the other: by its key, the answer with the challenge, the user, his digits, and the vouch
abbrev pub asked_acts : Start → Act → SkKey → List Act
asked_acts start first key = asked (challenge_question start key) ∷ first ∷ []

abbrev pub heard_acts : Start → Act → SkKey → List ℕ → List Act
heard_acts start first key a = answered a ∷ asked_acts start first key

abbrev pub given_acts : Start → Act → SkKey → List ℕ → List Act
given_acts start first key a = gave (drop 6 a) ∷ heard_acts start first key a

abbrev pub named_acts : Start → Act → SkKey → List ℕ → List ℕ → List Act
named_acts start first key a u = took u ∷ given_acts start first key a

abbrev pub digits_acts : Start → Act → SkKey → List ℕ → List ℕ → List ℕ → List Act
digits_acts start first key a u r = took r ∷ named_acts start first key a u

abbrev pub vouch_acts : Start → Act → SkKey → List ℕ → List ℕ → List ℕ → List Act
vouch_acts start first key a u r = asked (vouch_question start key u r) ∷ digits_acts start first key a u r

abbrev pub vouched_acts : Start → Act → SkKey → List ℕ → List ℕ → List ℕ → List ℕ → List Act
vouched_acts start first key a u r v = answered v ∷ vouch_acts start first key a u r

abbrev pub accepted_acts : Start → Act → SkKey → List ℕ → List ℕ → List ℕ → List ℕ → Ticket → List Act
accepted_acts start first key a u r v t = accepted t.cuid t.suid ∷ vouched_acts start first key a u r v

-- the ticket of a vouch, which names the user
pub record IsVouched (key : SkKey) (u v : List ℕ) (t : Ticket) : Type 0 where
  pub long : length v ≡ 86
  pub opens : ticket_under key (ticket_part (drop 1 v)) ≡ Ok t
  pub cuid : t.cuid ≡ u
  pub suid : t.suid ≡ u

-- how far it has come behind a talk, what it left, and what met its needs
pub record Here (start : Start) (first : Act) (talk : List Call) (p : Progress Stage) (xs : List Act) (ys : List Call) : Type 0 where
  pub course : mail.course start talk ≡ p
  pub left : acts start first talk ≡ xs
  pub has : met start talk ≡ ys

-- how it stands behind a talk
pub data Stands (start : Start) (first : Act) (talk : List Call) : Type 0 where
  seeking : Here start first talk (at ServerKey) [] [] → waiting (speaks Mail start) first talk ≡ first → Stands start first talk
  asking : (key : SkKey) (secret : Option (List ℕ)) → Here start first talk (at (ServerAsk key)) (asked_acts start first key) (found key secret ∷ []) → Stands start first talk
  denied : (key : SkKey) (secret : Option (List ℕ)) (i : Instead) (cause : Cause) → Here start first talk (fallen (ServerAsk key) cause) (failed (cause_text cause) ∷ (instead i ++ asked_acts start first key)) (found key secret ∷ []) → Stands start first talk
  ready : (key : SkKey) (secret : Option (List ℕ)) (a : List ℕ) → Here start first talk (at (ServerFirst key (drop 6 a))) (heard_acts start first key a) (found key secret ∷ []) → Stands start first talk
  handing : (key : SkKey) (secret : Option (List ℕ)) (a : List ℕ) → Here start first talk (at (ServerSecond key (drop 6 a))) (given_acts start first key a) (found key secret ∷ []) → Stands start first talk
  unnamed : (key : SkKey) (secret : Option (List ℕ)) (a u : List ℕ) (cause : Cause) → Here start first talk (fallen (ServerSecond key (drop 6 a)) cause) (failed (cause_text cause) ∷ named_acts start first key a u) (found key secret ∷ []) → Stands start first talk
  named : (key : SkKey) (secret : Option (List ℕ)) (a u : List ℕ) → IsName 28 u → Here start first talk (at (ServerThird key (drop 6 a) u)) (named_acts start first key a u) (found key secret ∷ []) → Stands start first talk
  vouching : (key : SkKey) (secret : Option (List ℕ)) (a u r : List ℕ) → IsName 28 u → Here start first talk (at (ServerVouch key (drop 6 a) u r)) (vouch_acts start first key a u r) (found key secret ∷ []) → Stands start first talk
  deceived : (key : SkKey) (secret : Option (List ℕ)) (a u r : List ℕ) (i : Instead) (cause : Cause) → IsName 28 u → Here start first talk (fallen (ServerVouch key (drop 6 a) u r) cause) (failed (cause_text cause) ∷ (instead i ++ vouch_acts start first key a u r)) (found key secret ∷ []) → Stands start first talk
  done : (key : SkKey) (secret : Option (List ℕ)) (a u r v : List ℕ) (t : Ticket) (xs : List Act) → IsName 28 u → IsVouched key u v t → Told (accepted_acts start first key a u r v t) xs → Here start first talk (at (ServerDone key (drop 6 a) u r (drop 1 v))) xs (found key secret ∷ []) → Stands start first talk

-- ---- one call more

abbrev left_here : Start → Progress Stage → Verdict Stage → Act → Call → List Act
left_here start p v act call = left_at (mail.need_at start) mail.outcome_at p v act call

go_on : (start : Start) (first : Act) (before : List Call) (call : Call) (p : Progress Stage) (xs : List Act) (ys : List Call) (v : Verdict Stage) (left : List Act) (meets_it : Bool) → Here start first before p xs ys → mail.verdict start p call ≡ v → left_here start p v (waiting (speaks Mail start) first before) call ≡ left → meets (mail.need_at start p) call ≡ meets_it → Here start first (call ∷ before) (then_course p v) (left ++ xs) (if meets_it then call ∷ ys else ys)
go_on start first before call p xs ys v left meets_it here moves leaves is = record {
  course = mail_goes_from start before call p v here.course moves;
  left = ap (λ more. more ++ acts start first before) (mail_left_from start first before call p v here.course moves ∙ leaves) ∙ ap (λ more. left ++ more) here.left;
  has = ap (λ p. if meets (mail.need_at start p) call then call ∷ met start before else met start before) here.course
      ∙ ap (λ (b : Bool). if b then call ∷ met start before else met start before) is
      ∙ ap (λ more. if meets_it then call ∷ more else more) here.has;
}

-- a call that changes nothing
stay : (start : Start) (first : Act) (before : List Call) (call : Call) (p : Progress Stage) (xs : List Act) (ys : List Call) (given : Gave) → Here start first before p xs ys → mail.verdict start p call ≡ stays given → left_here start p (stays given) (waiting (speaks Mail start) first before) call ≡ [] → meets (mail.need_at start p) call ≡ false → Here start first (call ∷ before) p xs ys
stay start first before call p xs ys given here moves leaves is = go_on start first before call p xs ys (stays given) [] false here moves leaves is

-- ---- it seeks its key

seeking_stays : (start : Start) (first : Act) (before : List Call) (call : Call) → Here start first before (at ServerKey) [] [] → waiting (speaks Mail start) first before ≡ first → mail.verdict start (at ServerKey) call ≡ stays g.Wait → left_here start (at ServerKey) (stays g.Wait) first call ≡ [] → meets (mail.need_at start (at ServerKey)) call ≡ false → (mail.course start before ≡ at ServerKey → waiting (speaks Mail start) first (call ∷ before) ≡ waiting (speaks Mail start) first before) → Stands start first (call ∷ before)
seeking_stays start first before call here waited moves leaves is waits = seeking (stay start first before call (at ServerKey) [] [] g.Wait here moves (ap (λ act. left_here start (at ServerKey) (stays g.Wait) act call) waited ∙ leaves) is) (waits here.course ∙ waited)

seeking_then : (start : Start) (first : Act) (before : List Call) → Here start first before (at ServerKey) [] [] → waiting (speaks Mail start) first before ≡ first → (call : Call) → Stands start first (call ∷ before)
seeking_then start first before here waited (give b) = seeking_stays start first before (give b) here waited refl refl refl (λ h. ap (λ p. if is_sought (mail.need_at start p) then waiting (speaks Mail start) first before else took b) h)
seeking_then start first before here waited get = seeking_stays start first before get here waited refl refl refl (λ h. refl)
seeking_then start first before here waited (found key secret) = asking key secret (go_on start first before (found key secret) (at ServerKey) [] [] (goes (ServerAsk key) g.Wait []) (asked (challenge_question start key) ∷ first ∷ []) true here refl (ap (λ act. asked (challenge_question start key) ∷ act ∷ []) waited) refl)
seeking_then start first before here waited (heard b) = seeking_stays start first before (heard b) here waited refl refl refl (λ h. refl)
seeking_then start first before here waited unheard = seeking_stays start first before unheard here waited refl refl refl (λ h. refl)
seeking_then start first before here waited roomless = seeking_stays start first before roomless here waited refl refl refl (λ h. refl)
seeking_then start first before here waited undone = seeking_stays start first before undone here waited refl refl refl (λ h. refl)
seeking_then start first before here waited (offered list) = seeking_stays start first before (offered list) here waited refl refl refl (λ h. refl)
seeking_then start first before here waited (picked place) = seeking_stays start first before (picked place) here waited refl refl refl (λ h. refl)

-- ---- it asked for a challenge

-- the answer is a challenge, or breaks the conversation
data ChallengeCame (key : SkKey) (a : List ℕ) : Type 0 where
  no_challenge : (cause : Cause) → challenge_came key a ≡ breaks cause → ChallengeCame key a
  a_challenge : challenge_came key a ≡ goes (ServerFirst key (drop 6 a)) g.Ok [] → ChallengeCame key a

challenge_told : (key : SkKey) (a : List ℕ) (refuses grants : Bool) → is_refusal a ≡ refuses → grants_challenge a ≡ grants → ChallengeCame key a
challenge_told key a true grants is_no is_well = no_challenge ServerSaidNo (ap (λ (no_ : Bool). if no_ then breaks ServerSaidNo else if grants_challenge a then goes (ServerFirst key (drop 6 a)) g.Ok [] else breaks WrongKind) is_no)
challenge_told key a false false is_no is_well = no_challenge WrongKind (ap (λ (no_ : Bool). if no_ then breaks ServerSaidNo else if grants_challenge a then goes (ServerFirst key (drop 6 a)) g.Ok [] else breaks WrongKind) is_no ∙ ap (λ (well_ : Bool). if well_ then goes (ServerFirst key (drop 6 a)) g.Ok [] else breaks WrongKind) is_well)
challenge_told key a false true is_no is_well = a_challenge (ap (λ (no_ : Bool). if no_ then breaks ServerSaidNo else if grants_challenge a then goes (ServerFirst key (drop 6 a)) g.Ok [] else breaks WrongKind) is_no ∙ ap (λ (well_ : Bool). if well_ then goes (ServerFirst key (drop 6 a)) g.Ok [] else breaks WrongKind) is_well)

asking_heard : (start : Start) (first : Act) (before : List Call) (key : SkKey) (secret : Option (List ℕ)) (a : List ℕ) → Here start first before (at (ServerAsk key)) (asked_acts start first key) (found key secret ∷ []) → ChallengeCame key a → Stands start first (heard a ∷ before)
asking_heard start first before key secret a here (no_challenge cause is) = denied key secret (by_answer a) cause (go_on start first before (heard a) (at (ServerAsk key)) (asked_acts start first key) (found key secret ∷ []) (breaks cause) (failed (cause_text cause) ∷ answered a ∷ []) false here is refl refl)
asking_heard start first before key secret a here (a_challenge is) = ready key secret a (go_on start first before (heard a) (at (ServerAsk key)) (asked_acts start first key) (found key secret ∷ []) (goes (ServerFirst key (drop 6 a)) g.Ok []) (answered a ∷ []) false here is refl refl)

asking_then : (start : Start) (first : Act) (before : List Call) (key : SkKey) (secret : Option (List ℕ)) → Here start first before (at (ServerAsk key)) (asked_acts start first key) (found key secret ∷ []) → (call : Call) → Stands start first (call ∷ before)
asking_then start first before key secret here (give b) = asking key secret (stay start first before (give b) (at (ServerAsk key)) (asked_acts start first key) (found key secret ∷ []) (g.Wait) here refl refl refl)
asking_then start first before key secret here get = asking key secret (stay start first before get (at (ServerAsk key)) (asked_acts start first key) (found key secret ∷ []) (g.Wait) here refl refl refl)
asking_then start first before key secret here (found other more) = asking key secret (stay start first before (found other more) (at (ServerAsk key)) (asked_acts start first key) (found key secret ∷ []) (g.Wait) here refl refl refl)
asking_then start first before key secret here (heard b) = asking_heard start first before key secret b here (challenge_told key b (is_refusal b) (grants_challenge b) refl refl)
asking_then start first before key secret here unheard = denied key secret by_none NoServer (go_on start first before unheard (at (ServerAsk key)) (asked_acts start first key) (found key secret ∷ []) (breaks NoServer) (failed (cause_text NoServer) ∷ unanswered ∷ []) false here refl refl refl)
asking_then start first before key secret here roomless = denied key secret by_no_room NoRoom (go_on start first before roomless (at (ServerAsk key)) (asked_acts start first key) (found key secret ∷ []) (breaks NoRoom) (failed (cause_text NoRoom) ∷ []) false here refl refl refl)
asking_then start first before key secret here undone = asking key secret (stay start first before undone (at (ServerAsk key)) (asked_acts start first key) (found key secret ∷ []) (g.Wait) here refl refl refl)
asking_then start first before key secret here (offered list) = asking key secret (stay start first before (offered list) (at (ServerAsk key)) (asked_acts start first key) (found key secret ∷ []) (g.Wait) here refl refl refl)
asking_then start first before key secret here (picked place) = asking key secret (stay start first before (picked place) (at (ServerAsk key)) (asked_acts start first key) (found key secret ∷ []) (g.Wait) here refl refl refl)

-- ---- there was no challenge

denied_then : (start : Start) (first : Act) (before : List Call) (key : SkKey) (secret : Option (List ℕ)) (i : Instead) (cause : Cause) → Here start first before (fallen (ServerAsk key) cause) (failed (cause_text cause) ∷ (instead i ++ asked_acts start first key)) (found key secret ∷ []) → (call : Call) → Stands start first (call ∷ before)
denied_then start first before key secret i cause here (give b) = denied key secret i cause (stay start first before (give b) (fallen (ServerAsk key) cause) (failed (cause_text cause) ∷ (instead i ++ asked_acts start first key)) (found key secret ∷ []) (g.Phase IsBroken) here refl refl refl)
denied_then start first before key secret i cause here get = denied key secret i cause (stay start first before get (fallen (ServerAsk key) cause) (failed (cause_text cause) ∷ (instead i ++ asked_acts start first key)) (found key secret ∷ []) (g.Phase IsBroken) here refl refl refl)
denied_then start first before key secret i cause here (found other more) = denied key secret i cause (stay start first before (found other more) (fallen (ServerAsk key) cause) (failed (cause_text cause) ∷ (instead i ++ asked_acts start first key)) (found key secret ∷ []) (g.Phase IsBroken) here refl refl refl)
denied_then start first before key secret i cause here (heard b) = denied key secret i cause (stay start first before (heard b) (fallen (ServerAsk key) cause) (failed (cause_text cause) ∷ (instead i ++ asked_acts start first key)) (found key secret ∷ []) (g.Phase IsBroken) here refl refl refl)
denied_then start first before key secret i cause here unheard = denied key secret i cause (stay start first before unheard (fallen (ServerAsk key) cause) (failed (cause_text cause) ∷ (instead i ++ asked_acts start first key)) (found key secret ∷ []) (g.Phase IsBroken) here refl refl refl)
denied_then start first before key secret i cause here roomless = denied key secret i cause (stay start first before roomless (fallen (ServerAsk key) cause) (failed (cause_text cause) ∷ (instead i ++ asked_acts start first key)) (found key secret ∷ []) (g.Phase IsBroken) here refl refl refl)
denied_then start first before key secret i cause here undone = denied key secret i cause (stay start first before undone (fallen (ServerAsk key) cause) (failed (cause_text cause) ∷ (instead i ++ asked_acts start first key)) (found key secret ∷ []) (g.Phase IsBroken) here refl refl refl)
denied_then start first before key secret i cause here (offered list) = denied key secret i cause (stay start first before (offered list) (fallen (ServerAsk key) cause) (failed (cause_text cause) ∷ (instead i ++ asked_acts start first key)) (found key secret ∷ []) (g.Phase IsBroken) here refl refl refl)
denied_then start first before key secret i cause here (picked place) = denied key secret i cause (stay start first before (picked place) (fallen (ServerAsk key) cause) (failed (cause_text cause) ∷ (instead i ++ asked_acts start first key)) (found key secret ∷ []) (g.Phase IsBroken) here refl refl refl)

-- ---- it has a challenge

ready_then : (start : Start) (first : Act) (before : List Call) (key : SkKey) (secret : Option (List ℕ)) (a : List ℕ) → Here start first before (at (ServerFirst key (drop 6 a))) (heard_acts start first key a) (found key secret ∷ []) → (call : Call) → Stands start first (call ∷ before)
ready_then start first before key secret a here (give b) = ready key secret a (stay start first before (give b) (at (ServerFirst key (drop 6 a))) (heard_acts start first key a) (found key secret ∷ []) (g.Phase AwaitsRead) here refl refl refl)
ready_then start first before key secret a here get = handing key secret a (go_on start first before get (at (ServerFirst key (drop 6 a))) (heard_acts start first key a) (found key secret ∷ []) (goes (ServerSecond key (drop 6 a)) g.Ok (drop 6 a)) (gave (drop 6 a) ∷ []) false here refl refl refl)
ready_then start first before key secret a here (found other more) = ready key secret a (stay start first before (found other more) (at (ServerFirst key (drop 6 a))) (heard_acts start first key a) (found key secret ∷ []) (g.Phase AwaitsRead) here refl refl refl)
ready_then start first before key secret a here (heard b) = ready key secret a (stay start first before (heard b) (at (ServerFirst key (drop 6 a))) (heard_acts start first key a) (found key secret ∷ []) (g.Phase AwaitsRead) here refl refl refl)
ready_then start first before key secret a here unheard = ready key secret a (stay start first before unheard (at (ServerFirst key (drop 6 a))) (heard_acts start first key a) (found key secret ∷ []) (g.Phase AwaitsRead) here refl refl refl)
ready_then start first before key secret a here roomless = ready key secret a (stay start first before roomless (at (ServerFirst key (drop 6 a))) (heard_acts start first key a) (found key secret ∷ []) (g.Phase AwaitsRead) here refl refl refl)
ready_then start first before key secret a here undone = ready key secret a (stay start first before undone (at (ServerFirst key (drop 6 a))) (heard_acts start first key a) (found key secret ∷ []) (g.Phase AwaitsRead) here refl refl refl)
ready_then start first before key secret a here (offered list) = ready key secret a (stay start first before (offered list) (at (ServerFirst key (drop 6 a))) (heard_acts start first key a) (found key secret ∷ []) (g.Phase AwaitsRead) here refl refl refl)
ready_then start first before key secret a here (picked place) = ready key secret a (stay start first before (picked place) (at (ServerFirst key (drop 6 a))) (heard_acts start first key a) (found key secret ∷ []) (g.Phase AwaitsRead) here refl refl refl)

-- ---- it gave the challenge

-- a user's name is well, or not
data UserCame (key : SkKey) (c b : List ℕ) : Type 0 where
  stays_so : (given : Gave) → user_came key c b ≡ stays given → is_taken given ≡ false → UserCame key c b
  no_user : user_came key c b ≡ breaks WrongUser → UserCame key c b
  a_user : IsName 28 b → user_came key c b ≡ goes (ServerThird key c b) g.Ok [] → UserCame key c b

abbrev whole_user : SkKey → List ℕ → List ℕ → Verdict Stage
whole_user key c b = tested (user_tests b) (goes (ServerThird key c b) g.Ok [])

abbrev by_test : SkKey → List ℕ → List ℕ → Bool → Bool → Verdict Stage
by_test key c b user text = unless_told (first_told ((not user || not text, WrongUser) ∷ [])) (goes (ServerThird key c b) g.Ok [])

name_tested : (key : SkKey) (c b : List ℕ) (user text : Bool) → nat_lt 27 (length b) ≡ false → user_came key c b ≡ whole_user key c b → is_user b ≡ user → is_text b ≡ text → UserCame key c b
name_tested key c b false text short is is_one is_well = no_user (is ∙ ap (λ user. by_test key c b user (is_text b)) is_one)
name_tested key c b true false short is is_one is_well = no_user (is ∙ ap (λ user. by_test key c b user (is_text b)) is_one ∙ ap (by_test key c b true) is_well)
name_tested key c b true true short is is_one is_well =
    let most = ltb-false 27 (length b) short in
    a_user (record { text = is_well; short = omega (arith, most) }) (is ∙ ap (λ user. by_test key c b user (is_text b)) is_one ∙ ap (by_test key c b true) is_well)

user_told : (key : SkKey) (c b : List ℕ) → Bounded 27 b (whole_user key c b) → UserCame key c b
user_told key c b (few is) = stays_so (g.TooSmall 1) is refl
user_told key c b (many is) = stays_so g.TooLong is refl
user_told key c b (well short is) = name_tested key c b (is_user b) (is_text b) short is refl refl

handing_given : (start : Start) (first : Act) (before : List Call) (key : SkKey) (secret : Option (List ℕ)) (a b : List ℕ) → Here start first before (at (ServerSecond key (drop 6 a))) (given_acts start first key a) (found key secret ∷ []) → UserCame key (drop 6 a) b → Stands start first (give b ∷ before)
handing_given start first before key secret a b here (stays_so given is none_taken) = handing key secret a (stay start first before (give b) (at (ServerSecond key (drop 6 a))) (given_acts start first key a) (found key secret ∷ []) given here is (ap (λ (t : Bool). if t && true then took b ∷ [] else []) none_taken) refl)
handing_given start first before key secret a b here (no_user is) = unnamed key secret a b WrongUser (go_on start first before (give b) (at (ServerSecond key (drop 6 a))) (given_acts start first key a) (found key secret ∷ []) (breaks WrongUser) (failed (cause_text WrongUser) ∷ took b ∷ []) false here is refl refl)
handing_given start first before key secret a b here (a_user name is) = named key secret a b name (go_on start first before (give b) (at (ServerSecond key (drop 6 a))) (given_acts start first key a) (found key secret ∷ []) (goes (ServerThird key (drop 6 a) b) g.Ok []) (took b ∷ []) false here is refl refl)

handing_then : (start : Start) (first : Act) (before : List Call) (key : SkKey) (secret : Option (List ℕ)) (a : List ℕ) → Here start first before (at (ServerSecond key (drop 6 a))) (given_acts start first key a) (found key secret ∷ []) → (call : Call) → Stands start first (call ∷ before)
handing_then start first before key secret a here (give b) = handing_given start first before key secret a b here (user_told key (drop 6 a) b (bounded_by 27 b (whole_user key (drop 6 a) b) (nat_lt (length b) 1) (nat_lt 27 (length b)) refl refl))
handing_then start first before key secret a here get = handing key secret a (stay start first before get (at (ServerSecond key (drop 6 a))) (given_acts start first key a) (found key secret ∷ []) (g.Phase AwaitsWrite) here refl refl refl)
handing_then start first before key secret a here (found other more) = handing key secret a (stay start first before (found other more) (at (ServerSecond key (drop 6 a))) (given_acts start first key a) (found key secret ∷ []) (g.Phase AwaitsWrite) here refl refl refl)
handing_then start first before key secret a here (heard b) = handing key secret a (stay start first before (heard b) (at (ServerSecond key (drop 6 a))) (given_acts start first key a) (found key secret ∷ []) (g.Phase AwaitsWrite) here refl refl refl)
handing_then start first before key secret a here unheard = handing key secret a (stay start first before unheard (at (ServerSecond key (drop 6 a))) (given_acts start first key a) (found key secret ∷ []) (g.Phase AwaitsWrite) here refl refl refl)
handing_then start first before key secret a here roomless = handing key secret a (stay start first before roomless (at (ServerSecond key (drop 6 a))) (given_acts start first key a) (found key secret ∷ []) (g.Phase AwaitsWrite) here refl refl refl)
handing_then start first before key secret a here undone = handing key secret a (stay start first before undone (at (ServerSecond key (drop 6 a))) (given_acts start first key a) (found key secret ∷ []) (g.Phase AwaitsWrite) here refl refl refl)
handing_then start first before key secret a here (offered list) = handing key secret a (stay start first before (offered list) (at (ServerSecond key (drop 6 a))) (given_acts start first key a) (found key secret ∷ []) (g.Phase AwaitsWrite) here refl refl refl)
handing_then start first before key secret a here (picked place) = handing key secret a (stay start first before (picked place) (at (ServerSecond key (drop 6 a))) (given_acts start first key a) (found key secret ∷ []) (g.Phase AwaitsWrite) here refl refl refl)

-- ---- what came was no user

unnamed_then : (start : Start) (first : Act) (before : List Call) (key : SkKey) (secret : Option (List ℕ)) (a u : List ℕ) (cause : Cause) → Here start first before (fallen (ServerSecond key (drop 6 a)) cause) (failed (cause_text cause) ∷ named_acts start first key a u) (found key secret ∷ []) → (call : Call) → Stands start first (call ∷ before)
unnamed_then start first before key secret a u cause here (give b) = unnamed key secret a u cause (stay start first before (give b) (fallen (ServerSecond key (drop 6 a)) cause) (failed (cause_text cause) ∷ named_acts start first key a u) (found key secret ∷ []) (g.Phase IsBroken) here refl refl refl)
unnamed_then start first before key secret a u cause here get = unnamed key secret a u cause (stay start first before get (fallen (ServerSecond key (drop 6 a)) cause) (failed (cause_text cause) ∷ named_acts start first key a u) (found key secret ∷ []) (g.Phase IsBroken) here refl refl refl)
unnamed_then start first before key secret a u cause here (found other more) = unnamed key secret a u cause (stay start first before (found other more) (fallen (ServerSecond key (drop 6 a)) cause) (failed (cause_text cause) ∷ named_acts start first key a u) (found key secret ∷ []) (g.Phase IsBroken) here refl refl refl)
unnamed_then start first before key secret a u cause here (heard b) = unnamed key secret a u cause (stay start first before (heard b) (fallen (ServerSecond key (drop 6 a)) cause) (failed (cause_text cause) ∷ named_acts start first key a u) (found key secret ∷ []) (g.Phase IsBroken) here refl refl refl)
unnamed_then start first before key secret a u cause here unheard = unnamed key secret a u cause (stay start first before unheard (fallen (ServerSecond key (drop 6 a)) cause) (failed (cause_text cause) ∷ named_acts start first key a u) (found key secret ∷ []) (g.Phase IsBroken) here refl refl refl)
unnamed_then start first before key secret a u cause here roomless = unnamed key secret a u cause (stay start first before roomless (fallen (ServerSecond key (drop 6 a)) cause) (failed (cause_text cause) ∷ named_acts start first key a u) (found key secret ∷ []) (g.Phase IsBroken) here refl refl refl)
unnamed_then start first before key secret a u cause here undone = unnamed key secret a u cause (stay start first before undone (fallen (ServerSecond key (drop 6 a)) cause) (failed (cause_text cause) ∷ named_acts start first key a u) (found key secret ∷ []) (g.Phase IsBroken) here refl refl refl)
unnamed_then start first before key secret a u cause here (offered list) = unnamed key secret a u cause (stay start first before (offered list) (fallen (ServerSecond key (drop 6 a)) cause) (failed (cause_text cause) ∷ named_acts start first key a u) (found key secret ∷ []) (g.Phase IsBroken) here refl refl refl)
unnamed_then start first before key secret a u cause here (picked place) = unnamed key secret a u cause (stay start first before (picked place) (fallen (ServerSecond key (drop 6 a)) cause) (failed (cause_text cause) ∷ named_acts start first key a u) (found key secret ∷ []) (g.Phase IsBroken) here refl refl refl)

-- ---- it has the user

-- digits of their size, or not
data DigitsCame (b : List ℕ) (whole : Verdict Stage) : Type 0 where
  of_no_size : (given : Gave) → sized 32 b whole ≡ stays given → is_taken given ≡ false → DigitsCame b whole
  of_size : sized 32 b whole ≡ whole → DigitsCame b whole

digits_told : (b : List ℕ) (whole : Verdict Stage) (short long : Bool) → nat_lt (length b) 32 ≡ short → nat_lt 32 (length b) ≡ long → DigitsCame b whole
digits_told b whole true long is_short is_long = of_no_size (g.TooSmall 32) (ap (λ (short : Bool). if short then stays (g.TooSmall 32) else if nat_lt 32 (length b) then stays g.TooLong else whole) is_short) refl
digits_told b whole false true is_short is_long = of_no_size g.TooLong (ap (λ (short : Bool). if short then stays (g.TooSmall 32) else if nat_lt 32 (length b) then stays g.TooLong else whole) is_short ∙ ap (λ (long : Bool). if long then stays g.TooLong else whole) is_long) refl
digits_told b whole false false is_short is_long = of_size (ap (λ (short : Bool). if short then stays (g.TooSmall 32) else if nat_lt 32 (length b) then stays g.TooLong else whole) is_short ∙ ap (λ (long : Bool). if long then stays g.TooLong else whole) is_long)

named_given : (start : Start) (first : Act) (before : List Call) (key : SkKey) (secret : Option (List ℕ)) (a u b : List ℕ) → IsName 28 u → Here start first before (at (ServerThird key (drop 6 a) u)) (named_acts start first key a u) (found key secret ∷ []) → DigitsCame b (goes (ServerVouch key (drop 6 a) u b) g.Wait []) → Stands start first (give b ∷ before)
named_given start first before key secret a u b name here (of_no_size given is none_taken) = named key secret a u name (stay start first before (give b) (at (ServerThird key (drop 6 a) u)) (named_acts start first key a u) (found key secret ∷ []) given here is (ap (λ (t : Bool). if t && true then took b ∷ [] else []) none_taken) refl)
named_given start first before key secret a u b name here (of_size is) = vouching key secret a u b name (go_on start first before (give b) (at (ServerThird key (drop 6 a) u)) (named_acts start first key a u) (found key secret ∷ []) (goes (ServerVouch key (drop 6 a) u b) g.Wait []) (asked (vouch_question start key u b) ∷ took b ∷ []) false here is refl refl)

named_then : (start : Start) (first : Act) (before : List Call) (key : SkKey) (secret : Option (List ℕ)) (a u : List ℕ) → IsName 28 u → Here start first before (at (ServerThird key (drop 6 a) u)) (named_acts start first key a u) (found key secret ∷ []) → (call : Call) → Stands start first (call ∷ before)
named_then start first before key secret a u name here (give b) = named_given start first before key secret a u b name here (digits_told b (goes (ServerVouch key (drop 6 a) u b) g.Wait []) (nat_lt (length b) 32) (nat_lt 32 (length b)) refl refl)
named_then start first before key secret a u name here get = named key secret a u name (stay start first before get (at (ServerThird key (drop 6 a) u)) (named_acts start first key a u) (found key secret ∷ []) (g.Phase AwaitsWrite) here refl refl refl)
named_then start first before key secret a u name here (found other more) = named key secret a u name (stay start first before (found other more) (at (ServerThird key (drop 6 a) u)) (named_acts start first key a u) (found key secret ∷ []) (g.Phase AwaitsWrite) here refl refl refl)
named_then start first before key secret a u name here (heard b) = named key secret a u name (stay start first before (heard b) (at (ServerThird key (drop 6 a) u)) (named_acts start first key a u) (found key secret ∷ []) (g.Phase AwaitsWrite) here refl refl refl)
named_then start first before key secret a u name here unheard = named key secret a u name (stay start first before unheard (at (ServerThird key (drop 6 a) u)) (named_acts start first key a u) (found key secret ∷ []) (g.Phase AwaitsWrite) here refl refl refl)
named_then start first before key secret a u name here roomless = named key secret a u name (stay start first before roomless (at (ServerThird key (drop 6 a) u)) (named_acts start first key a u) (found key secret ∷ []) (g.Phase AwaitsWrite) here refl refl refl)
named_then start first before key secret a u name here undone = named key secret a u name (stay start first before undone (at (ServerThird key (drop 6 a) u)) (named_acts start first key a u) (found key secret ∷ []) (g.Phase AwaitsWrite) here refl refl refl)
named_then start first before key secret a u name here (offered list) = named key secret a u name (stay start first before (offered list) (at (ServerThird key (drop 6 a) u)) (named_acts start first key a u) (found key secret ∷ []) (g.Phase AwaitsWrite) here refl refl refl)
named_then start first before key secret a u name here (picked place) = named key secret a u name (stay start first before (picked place) (at (ServerThird key (drop 6 a) u)) (named_acts start first key a u) (found key secret ∷ []) (g.Phase AwaitsWrite) here refl refl refl)

-- ---- it asked whether the digits are right

-- the answer vouches for the user, or breaks the conversation
data VouchCame (start : Start) (key : SkKey) (c u r v : List ℕ) : Type 0 where
  no_vouch : (cause : Cause) → vouch_came start key c u r v ≡ breaks cause → VouchCame start key c u r v
  a_vouch : (t : Ticket) → IsVouched key u v t → vouch_came start key c u r v ≡ goes (ServerDone key c u r (drop 1 v)) g.Ok [] → VouchCame start key c u r v

-- the third rule of some that tell nothing
third_passed : (a b c : Bool) (f g h : Cause) (rest : List (Rule Cause)) → first_told ((a, f) ∷ (b, g) ∷ (c, h) ∷ rest) ≡ None → c ≡ false
third_passed true b c f g h rest is = absurd (cc)
third_passed false true c f g h rest is = absurd (cc)
third_passed false false true f g h rest is = absurd (cc)
third_passed false false false f g h rest is = refl

both_so : (x y : Bool) → (not x || not y) ≡ false → (x ≡ true) × (y ≡ true)
both_so true true is = (refl, refl)
both_so true false is = absurd (cc)
both_so false y is = absurd (cc)

abbrev opened_with : Start → SkKey → List ℕ → List ℕ → List ℕ → List ℕ → Result Ticket FieldFault → Verdict Stage
opened_with start key c u r v o = with_ticket BadKey o (λ t. tested (vouch_tests start u t (proof_under t (rest_part (drop 1 v)))) (goes (ServerDone key c u r (drop 1 v)) g.Ok []))

vouch_tested : (start : Start) (key : SkKey) (c u r v : List ℕ) (t : Ticket) (fault : Option Cause) → length v ≡ 86 → vouch_came start key c u r v ≡ opened_with start key c u r v (ticket_under key (ticket_part (drop 1 v))) → ticket_under key (ticket_part (drop 1 v)) ≡ Ok t → first_told (vouch_tests start u t (proof_under t (rest_part (drop 1 v)))) ≡ fault → VouchCame start key c u r v
vouch_tested start key c u r v t (Some cause) long so opens is = no_vouch cause (so ∙ ap (opened_with start key c u r v) opens ∙ ap (λ told. unless_told told (goes (ServerDone key c u r (drop 1 v)) g.Ok [])) is)
vouch_tested start key c u r v t None long so opens is =
    let names = both_so (bytes_eq t.cuid u) (bytes_eq t.suid u) (third_passed (not (t.num == AUTH_TS)) (not (bytes_eq t.chal start.word)) (not (bytes_eq t.cuid u) || not (bytes_eq t.suid u)) BadKey WrongChallenge WrongUser (proof_tests AUTH_AC start.word (proof_under t (rest_part (drop 1 v)))) is) in
    a_vouch t (record { long = long; opens = opens; cuid = same_name t.cuid u names.0; suid = same_name t.suid u names.1 }) (so ∙ ap (opened_with start key c u r v) opens ∙ ap (λ told. unless_told told (goes (ServerDone key c u r (drop 1 v)) g.Ok [])) is)

vouch_opens : (start : Start) (key : SkKey) (c u r v : List ℕ) (o : Result Ticket FieldFault) → length v ≡ 86 → vouch_came start key c u r v ≡ opened_with start key c u r v (ticket_under key (ticket_part (drop 1 v))) → ticket_under key (ticket_part (drop 1 v)) ≡ o → VouchCame start key c u r v
vouch_opens start key c u r v (Ok t) long so is = vouch_tested start key c u r v t (first_told (vouch_tests start u t (proof_under t (rest_part (drop 1 v))))) long so is refl
vouch_opens start key c u r v (Err fault) long so is = no_vouch BadKey (so ∙ ap (opened_with start key c u r v) is)

abbrev by_answers : Start → SkKey → List ℕ → List ℕ → List ℕ → List ℕ → Bool → Bool → Verdict Stage
by_answers start key c u r v refuses grants = if refuses then breaks ServerSaidNo else if grants then vouch_opened start key c u r (drop 1 v) else breaks WrongKind

vouch_told : (start : Start) (key : SkKey) (c u r v : List ℕ) (refuses grants : Bool) → is_refusal v ≡ refuses → grants_vouch v ≡ grants → VouchCame start key c u r v
vouch_told start key c u r v true grants is_no is_well = no_vouch ServerSaidNo (ap (λ no_. by_answers start key c u r v no_ (grants_vouch v)) is_no)
vouch_told start key c u r v false false is_no is_well = no_vouch WrongKind (ap (λ no_. by_answers start key c u r v no_ (grants_vouch v)) is_no ∙ ap (by_answers start key c u r v false) is_well)
vouch_told start key c u r v false true is_no is_well =
    let long = eqb-true (length v) 86 (and_parts (length v == 86) (slice_index v 0 == AUTH_OK) is_well).0 in
    vouch_opens start key c u r v (ticket_under key (ticket_part (drop 1 v))) long (ap (λ no_. by_answers start key c u r v no_ (grants_vouch v)) is_no ∙ ap (by_answers start key c u r v false) is_well) refl

vouching_heard : (start : Start) (first : Act) (before : List Call) (key : SkKey) (secret : Option (List ℕ)) (a u r v : List ℕ) → IsName 28 u → Here start first before (at (ServerVouch key (drop 6 a) u r)) (vouch_acts start first key a u r) (found key secret ∷ []) → VouchCame start key (drop 6 a) u r v → Stands start first (heard v ∷ before)
vouching_heard start first before key secret a u r v name here (no_vouch cause is) = deceived key secret a u r (by_answer v) cause name (go_on start first before (heard v) (at (ServerVouch key (drop 6 a) u r)) (vouch_acts start first key a u r) (found key secret ∷ []) (breaks cause) (failed (cause_text cause) ∷ answered v ∷ []) false here is refl refl)
vouching_heard start first before key secret a u r v name here (a_vouch t vouched is) = done key secret a u r v t (accepted_acts start first key a u r v t) name vouched at_once (go_on start first before (heard v) (at (ServerVouch key (drop 6 a) u r)) (vouch_acts start first key a u r) (found key secret ∷ []) (goes (ServerDone key (drop 6 a) u r (drop 1 v)) g.Ok []) (accepted t.cuid t.suid ∷ answered v ∷ []) false here is (ap (λ o. end_by (mail.outcome_at (at (ServerVouch key (drop 6 a) u r))) (outcome_by BadKey o) ++ answered v ∷ []) vouched.opens) refl)

vouching_then : (start : Start) (first : Act) (before : List Call) (key : SkKey) (secret : Option (List ℕ)) (a u r : List ℕ) → IsName 28 u → Here start first before (at (ServerVouch key (drop 6 a) u r)) (vouch_acts start first key a u r) (found key secret ∷ []) → (call : Call) → Stands start first (call ∷ before)
vouching_then start first before key secret a u r name here (give b) = vouching key secret a u r name (stay start first before (give b) (at (ServerVouch key (drop 6 a) u r)) (vouch_acts start first key a u r) (found key secret ∷ []) (g.Wait) here refl refl refl)
vouching_then start first before key secret a u r name here get = vouching key secret a u r name (stay start first before get (at (ServerVouch key (drop 6 a) u r)) (vouch_acts start first key a u r) (found key secret ∷ []) (g.Wait) here refl refl refl)
vouching_then start first before key secret a u r name here (found other more) = vouching key secret a u r name (stay start first before (found other more) (at (ServerVouch key (drop 6 a) u r)) (vouch_acts start first key a u r) (found key secret ∷ []) (g.Wait) here refl refl refl)
vouching_then start first before key secret a u r name here (heard b) = vouching_heard start first before key secret a u r b name here (vouch_told start key (drop 6 a) u r b (is_refusal b) (grants_vouch b) refl refl)
vouching_then start first before key secret a u r name here unheard = deceived key secret a u r by_none NoServer name (go_on start first before unheard (at (ServerVouch key (drop 6 a) u r)) (vouch_acts start first key a u r) (found key secret ∷ []) (breaks NoServer) (failed (cause_text NoServer) ∷ unanswered ∷ []) false here refl refl refl)
vouching_then start first before key secret a u r name here roomless = deceived key secret a u r by_no_room NoRoom name (go_on start first before roomless (at (ServerVouch key (drop 6 a) u r)) (vouch_acts start first key a u r) (found key secret ∷ []) (breaks NoRoom) (failed (cause_text NoRoom) ∷ []) false here refl refl refl)
vouching_then start first before key secret a u r name here undone = vouching key secret a u r name (stay start first before undone (at (ServerVouch key (drop 6 a) u r)) (vouch_acts start first key a u r) (found key secret ∷ []) (g.Wait) here refl refl refl)
vouching_then start first before key secret a u r name here (offered list) = vouching key secret a u r name (stay start first before (offered list) (at (ServerVouch key (drop 6 a) u r)) (vouch_acts start first key a u r) (found key secret ∷ []) (g.Wait) here refl refl refl)
vouching_then start first before key secret a u r name here (picked place) = vouching key secret a u r name (stay start first before (picked place) (at (ServerVouch key (drop 6 a) u r)) (vouch_acts start first key a u r) (found key secret ∷ []) (g.Wait) here refl refl refl)

-- ---- nobody vouched

deceived_then : (start : Start) (first : Act) (before : List Call) (key : SkKey) (secret : Option (List ℕ)) (a u r : List ℕ) (i : Instead) (cause : Cause) → IsName 28 u → Here start first before (fallen (ServerVouch key (drop 6 a) u r) cause) (failed (cause_text cause) ∷ (instead i ++ vouch_acts start first key a u r)) (found key secret ∷ []) → (call : Call) → Stands start first (call ∷ before)
deceived_then start first before key secret a u r i cause name here (give b) = deceived key secret a u r i cause name (stay start first before (give b) (fallen (ServerVouch key (drop 6 a) u r) cause) (failed (cause_text cause) ∷ (instead i ++ vouch_acts start first key a u r)) (found key secret ∷ []) (g.Phase IsBroken) here refl refl refl)
deceived_then start first before key secret a u r i cause name here get = deceived key secret a u r i cause name (stay start first before get (fallen (ServerVouch key (drop 6 a) u r) cause) (failed (cause_text cause) ∷ (instead i ++ vouch_acts start first key a u r)) (found key secret ∷ []) (g.Phase IsBroken) here refl refl refl)
deceived_then start first before key secret a u r i cause name here (found other more) = deceived key secret a u r i cause name (stay start first before (found other more) (fallen (ServerVouch key (drop 6 a) u r) cause) (failed (cause_text cause) ∷ (instead i ++ vouch_acts start first key a u r)) (found key secret ∷ []) (g.Phase IsBroken) here refl refl refl)
deceived_then start first before key secret a u r i cause name here (heard b) = deceived key secret a u r i cause name (stay start first before (heard b) (fallen (ServerVouch key (drop 6 a) u r) cause) (failed (cause_text cause) ∷ (instead i ++ vouch_acts start first key a u r)) (found key secret ∷ []) (g.Phase IsBroken) here refl refl refl)
deceived_then start first before key secret a u r i cause name here unheard = deceived key secret a u r i cause name (stay start first before unheard (fallen (ServerVouch key (drop 6 a) u r) cause) (failed (cause_text cause) ∷ (instead i ++ vouch_acts start first key a u r)) (found key secret ∷ []) (g.Phase IsBroken) here refl refl refl)
deceived_then start first before key secret a u r i cause name here roomless = deceived key secret a u r i cause name (stay start first before roomless (fallen (ServerVouch key (drop 6 a) u r) cause) (failed (cause_text cause) ∷ (instead i ++ vouch_acts start first key a u r)) (found key secret ∷ []) (g.Phase IsBroken) here refl refl refl)
deceived_then start first before key secret a u r i cause name here undone = deceived key secret a u r i cause name (stay start first before undone (fallen (ServerVouch key (drop 6 a) u r) cause) (failed (cause_text cause) ∷ (instead i ++ vouch_acts start first key a u r)) (found key secret ∷ []) (g.Phase IsBroken) here refl refl refl)
deceived_then start first before key secret a u r i cause name here (offered list) = deceived key secret a u r i cause name (stay start first before (offered list) (fallen (ServerVouch key (drop 6 a) u r) cause) (failed (cause_text cause) ∷ (instead i ++ vouch_acts start first key a u r)) (found key secret ∷ []) (g.Phase IsBroken) here refl refl refl)
deceived_then start first before key secret a u r i cause name here (picked place) = deceived key secret a u r i cause name (stay start first before (picked place) (fallen (ServerVouch key (drop 6 a) u r) cause) (failed (cause_text cause) ∷ (instead i ++ vouch_acts start first key a u r)) (found key secret ∷ []) (g.Phase IsBroken) here refl refl refl)

-- ---- it accepted

done_then : (start : Start) (first : Act) (before : List Call) (key : SkKey) (secret : Option (List ℕ)) (a u r v : List ℕ) (t : Ticket) (xs : List Act) → IsName 28 u → IsVouched key u v t → Told (accepted_acts start first key a u r v t) xs → Here start first before (at (ServerDone key (drop 6 a) u r (drop 1 v))) xs (found key secret ∷ []) → (call : Call) → Stands start first (call ∷ before)
done_then start first before key secret a u r v t xs name vouched behind here (give b) = done key secret a u r v t (took b ∷ xs) name vouched (told b behind) (go_on start first before (give b) (at (ServerDone key (drop 6 a) u r (drop 1 v))) xs (found key secret ∷ []) (stays (g.Done true)) (took b ∷ []) false here refl (ap (λ o. end_by (outcome_by BadKey o) (outcome_by BadKey o) ++ took b ∷ []) vouched.opens) refl)
done_then start first before key secret a u r v t xs name vouched behind here get = done key secret a u r v t xs name vouched behind (go_on start first before get (at (ServerDone key (drop 6 a) u r (drop 1 v))) xs (found key secret ∷ []) (stays (g.Done true)) ([]) false here refl (ap (λ o. end_by (outcome_by BadKey o) (outcome_by BadKey o) ++ []) vouched.opens) refl)
done_then start first before key secret a u r v t xs name vouched behind here (found other more) = done key secret a u r v t xs name vouched behind (go_on start first before (found other more) (at (ServerDone key (drop 6 a) u r (drop 1 v))) xs (found key secret ∷ []) (stays (g.Done true)) ([]) false here refl (ap (λ o. end_by (outcome_by BadKey o) (outcome_by BadKey o) ++ []) vouched.opens) refl)
done_then start first before key secret a u r v t xs name vouched behind here (heard b) = done key secret a u r v t xs name vouched behind (go_on start first before (heard b) (at (ServerDone key (drop 6 a) u r (drop 1 v))) xs (found key secret ∷ []) (stays (g.Done true)) ([]) false here refl (ap (λ o. end_by (outcome_by BadKey o) (outcome_by BadKey o) ++ []) vouched.opens) refl)
done_then start first before key secret a u r v t xs name vouched behind here unheard = done key secret a u r v t xs name vouched behind (go_on start first before unheard (at (ServerDone key (drop 6 a) u r (drop 1 v))) xs (found key secret ∷ []) (stays (g.Done true)) ([]) false here refl (ap (λ o. end_by (outcome_by BadKey o) (outcome_by BadKey o) ++ []) vouched.opens) refl)
done_then start first before key secret a u r v t xs name vouched behind here roomless = done key secret a u r v t xs name vouched behind (go_on start first before roomless (at (ServerDone key (drop 6 a) u r (drop 1 v))) xs (found key secret ∷ []) (stays (g.Done true)) ([]) false here refl (ap (λ o. end_by (outcome_by BadKey o) (outcome_by BadKey o) ++ []) vouched.opens) refl)
done_then start first before key secret a u r v t xs name vouched behind here undone = done key secret a u r v t xs name vouched behind (go_on start first before undone (at (ServerDone key (drop 6 a) u r (drop 1 v))) xs (found key secret ∷ []) (stays (g.Done true)) ([]) false here refl (ap (λ o. end_by (outcome_by BadKey o) (outcome_by BadKey o) ++ []) vouched.opens) refl)
done_then start first before key secret a u r v t xs name vouched behind here (offered list) = done key secret a u r v t xs name vouched behind (go_on start first before (offered list) (at (ServerDone key (drop 6 a) u r (drop 1 v))) xs (found key secret ∷ []) (stays (g.Done true)) ([]) false here refl (ap (λ o. end_by (outcome_by BadKey o) (outcome_by BadKey o) ++ []) vouched.opens) refl)
done_then start first before key secret a u r v t xs name vouched behind here (picked place) = done key secret a u r v t xs name vouched behind (go_on start first before (picked place) (at (ServerDone key (drop 6 a) u r (drop 1 v))) xs (found key secret ∷ []) (stays (g.Done true)) ([]) false here refl (ap (λ o. end_by (outcome_by BadKey o) (outcome_by BadKey o) ++ []) vouched.opens) refl)

-- ---- every talk

then_stands : (start : Start) (first : Act) (before : List Call) (call : Call) → Stands start first before → Stands start first (call ∷ before)
then_stands start first before call (seeking here waited) = seeking_then start first before here waited call
then_stands start first before call (asking key secret here) = asking_then start first before key secret here call
then_stands start first before call (denied key secret i cause here) = denied_then start first before key secret i cause here call
then_stands start first before call (ready key secret a here) = ready_then start first before key secret a here call
then_stands start first before call (handing key secret a here) = handing_then start first before key secret a here call
then_stands start first before call (unnamed key secret a u cause here) = unnamed_then start first before key secret a u cause here call
then_stands start first before call (named key secret a u name here) = named_then start first before key secret a u name here call
then_stands start first before call (vouching key secret a u r name here) = vouching_then start first before key secret a u r name here call
then_stands start first before call (deceived key secret a u r i cause name here) = deceived_then start first before key secret a u r i cause name here call
then_stands start first before call (done key secret a u r v t xs name vouched behind here) = done_then start first before key secret a u r v t xs name vouched behind here call

pub stands : (start : Start) (first : Act) → side_of start.template ≡ Server → (talk : List Call) → Stands start first talk
stands start first side [] = seeking (record { course = ap (λ side. at (mail.first_stage side)) side; left = ap (λ side. if is_sought (mail.need_at start (at (mail.first_stage side))) then [] else first ∷ []) side; has = refl }) refl
stands start first side (call ∷ before) = then_stands start first before call (stands start first side before)
