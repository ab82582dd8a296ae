-- What a p9any client's talk may leave: its start, the list that it takes, its choice, the consent where the server gives one, and
-- then what the talk of p9sk1 leaves.
use Rattle.std.proofs.Common.{None, ◌≡◌, ℕ, List, [], ◌∷◌, ◌++◌, Bool, true, false, not, ◌&&◌, length, ◌==◌, if◌then◌else◌, refl, ap, ◌∙◌}
use Rattle.std.specs.Prelude.{codes}
use Rattle.wire_base.specs.Rules.{first_told}
use Rattle.roles.specs.declared.answer.Cause.{Cause}
use Rattle.roles.specs.declared.answer.Cause.TheVariants.{NotOffered, WrongKind}
use Rattle.roles.specs.declared.answer.Gave.{Gave}
use Rattle.roles.specs.declared.answer.Gave.TheVariants as g
use Rattle.roles.specs.declared.answer.PhaseWord.TheVariants.{AwaitsRead, AwaitsWrite, Broken as IsBroken}
use Rattle.roles.specs.declared.need.Need.TheVariants.{Nothing}
use Rattle.roles.specs.declared.need.Outcome.TheVariants.{Running}
use Rattle.roles.specs.declared.stage.Role.{Role}
use Rattle.roles.specs.Answers.{is_sought}
use Rattle.roles.specs.Courses as sk
use Rattle.roles.specs.Starts.{Start, role_of}
use Rattle.roles.specs.Talks.{Call, Verdict, give, get, found, heard, unheard, roomless, undone, offered, picked, goes, stays, breaks, unless_told}
use Rattle.conv_p9any.specs.declared.stage.Stage.{Stage}
use Rattle.conv_p9any.specs.declared.stage.Stage.TheVariants.{ClientFirst, ClientPick, ClientSecond, ClientThird}
use Rattle.conv_p9any.specs.Courses as choice
use Rattle.conv_p9any.specs.Offers.{consents, eligible}
use Rattle.std.specs.Str.{bytes_eq}
use Rattle.conv_p9any.specs.Talks.{Standing, choosing, within}
use Rattle.conv_p9any.specs.Texts.{text_with_nul, with_text}
use Rattle.talks.specs.Protocols.{p9sk1}
use Rattle.talks.specs.Lines.{cause_text}
use Rattle.wire_histories.specs.Histories.{Act, gave, took, failed}
use Rattle.wire_histories.specs.Conversations.{asks_by, end_by, is_given, is_taken}
use Rattle.clean_runs.proofs.AnyTalks.{Here, Inner, Text, a_text, any_left, any_need, fallen, go_on, inner_goes, inner_offered, inner_picked, inner_start, kept_then, met, no_text, stay, text_of, untaken, waits_for}
use Rattle.clean_runs.proofs.LeftLemmas.{at}
use Rattle.clean_runs.proofs.SkClients.{IsClientRole, broken_left, for_another, for_itself}

-- its acts up to the choice, and up to the consent
abbrev pub chosen_acts : Act → List ℕ → List ℕ → List Act
chosen_acts first b choice = gave choice ∷ took b ∷ first ∷ []

abbrev pub consented_acts : Act → List ℕ → List ℕ → List ℕ → List Act
consented_acts first b choice c = took c ∷ chosen_acts first b choice

-- the bytes of its choice
abbrev chosen_text : Start → List ℕ → ℕ → List ℕ
chosen_text start list place = choice.choice_text (codes "p9sk1") start list place

abbrev pub choice_bytes : Start → List ℕ → ℕ → List ℕ
choice_bytes start list place = text_with_nul (chosen_text start list place)

-- how it stands behind a talk
pub data Stands (start : Start) (first : Act) (talk : List Call) : Type 0 where
  begun : Here start first talk (at (choosing ClientFirst)) (first ∷ []) → Stands start first talk
  refused : (l : List ℕ) (cause : Cause) → Here start first talk (fallen (choosing ClientFirst) cause) (failed (cause_text cause) ∷ took l ∷ first ∷ []) → Stands start first talk
  picking : (list : List ℕ) → waits_for start first talk ≡ took (text_with_nul list) → Here start first talk (at (choosing (ClientPick list))) (first ∷ []) → Stands start first talk
  ready : (list : List ℕ) (place : ℕ) → Here start first talk (at (choosing (ClientSecond list place))) (took (text_with_nul list) ∷ first ∷ []) → Stands start first talk
  consenting : (list : List ℕ) (place : ℕ) → consents list ≡ true → Here start first talk (at (choosing (ClientThird list place))) (chosen_acts first (text_with_nul list) (choice_bytes start list place)) → Stands start first talk
  broken : (list : List ℕ) (place : ℕ) (c : List ℕ) (cause : Cause) → consents list ≡ true → Here start first talk (fallen (choosing (ClientThird list place)) cause) (failed (cause_text cause) ∷ consented_acts first (text_with_nul list) (choice_bytes start list place) c) → Stands start first talk
  at_once : (list : List ℕ) (place : ℕ) (text : List ℕ) (entry : Act) (inner more : List Call) → consents list ≡ false → Inner start first talk (ClientSecond list place) text entry (chosen_acts first (text_with_nul list) (choice_bytes start list place)) inner more → Stands start first talk
  by_consent : (list : List ℕ) (place : ℕ) (c text : List ℕ) (entry : Act) (inner more : List Call) → consents list ≡ true → Inner start first talk (ClientThird list place) text entry (consented_acts first (text_with_nul list) (choice_bytes start list place) c) inner more → Stands start first talk

-- ---- nothing came so far

-- a list has what may be chosen, or breaks the conversation, or isn't read
data ListCame (start : Start) (b : List ℕ) : Type 0 where
  unread : (given : Gave) → is_taken given ≡ false → choice.list_came (codes "p9sk1") start b ≡ stays given → ListCame start b
  bad : (cause : Cause) → choice.list_came (codes "p9sk1") start b ≡ breaks cause → ListCame start b
  good : (list : List ℕ) → b ≡ text_with_nul list → choice.list_came (codes "p9sk1") start b ≡ goes (choosing (ClientPick list)) g.Wait [] → ListCame start b

abbrev by_test : List ℕ → Bool → Verdict Standing
by_test list none_is = unless_told (first_told ((none_is, NotOffered) ∷ [])) (goes (choosing (ClientPick list)) g.Wait [])

list_tested : (start : Start) (b list : List ℕ) (none_is : Bool) → b ≡ text_with_nul list → choice.list_came (codes "p9sk1") start b ≡ by_test list (length (eligible (codes "p9sk1") start list) == 0) → (length (eligible (codes "p9sk1") start list) == 0) ≡ none_is → ListCame start b
list_tested start b list true whole so is = bad NotOffered (so ∙ ap (by_test list) is)
list_tested start b list false whole so is = good list whole (so ∙ ap (by_test list) is)

list_told : (start : Start) (b : List ℕ) → Text b → ListCame start b
list_told start b (no_text given is none_taken) = unread given none_taken (ap (λ r. with_text r (λ list. by_test list (length (eligible (codes "p9sk1") start list) == 0))) is)
list_told start b (a_text list is whole) = list_tested start b list (length (eligible (codes "p9sk1") start list) == 0) whole (ap (λ r. with_text r (λ list. by_test list (length (eligible (codes "p9sk1") start list) == 0))) is) refl

begun_came : (start : Start) (first : Act) (before : List Call) (b : List ℕ) → Here start first before (at (choosing ClientFirst)) (first ∷ []) → ListCame start b → Stands start first (give b ∷ before)
begun_came start first before b here (unread given none_taken is) = begun (stay start first before (give b) (at (choosing ClientFirst)) (first ∷ []) given here is (untaken b given true none_taken) refl)
begun_came start first before b here (bad cause is) = refused b cause (go_on start first before (give b) (at (choosing ClientFirst)) (first ∷ []) (breaks cause) (failed (cause_text cause) ∷ took b ∷ []) here is (broken_left b cause) refl)
begun_came start first before b here (good list whole is) = picking list (ap (λ p. if is_sought (any_need start p) then waits_for start first before else took b) here.course ∙ ap took whole) (go_on start first before (give b) (at (choosing ClientFirst)) (first ∷ []) (goes (choosing (ClientPick list)) g.Wait []) [] here is refl refl)

begun_then : (start : Start) (first : Act) (before : List Call) → Here start first before (at (choosing ClientFirst)) (first ∷ []) → (call : Call) → Stands start first (call ∷ before)
begun_then start first before here (give b) = begun_came start first before b here (list_told start b (text_of b))
begun_then start first before here get = begun (stay start first before get (at (choosing ClientFirst)) (first ∷ []) (g.Phase AwaitsWrite) here refl refl refl)
begun_then start first before here (found key secret) = begun (stay start first before (found key secret) (at (choosing ClientFirst)) (first ∷ []) (g.Phase AwaitsWrite) here refl refl refl)
begun_then start first before here (heard b) = begun (stay start first before (heard b) (at (choosing ClientFirst)) (first ∷ []) (g.Phase AwaitsWrite) here refl refl refl)
begun_then start first before here unheard = begun (stay start first before unheard (at (choosing ClientFirst)) (first ∷ []) (g.Phase AwaitsWrite) here refl refl refl)
begun_then start first before here roomless = begun (stay start first before roomless (at (choosing ClientFirst)) (first ∷ []) (g.Phase AwaitsWrite) here refl refl refl)
begun_then start first before here undone = begun (stay start first before undone (at (choosing ClientFirst)) (first ∷ []) (g.Phase AwaitsWrite) here refl refl refl)
begun_then start first before here (offered other) = begun (stay start first before (offered other) (at (choosing ClientFirst)) (first ∷ []) (g.Phase AwaitsWrite) here refl refl refl)
begun_then start first before here (picked where_) = begun (stay start first before (picked where_) (at (choosing ClientFirst)) (first ∷ []) (g.Phase AwaitsWrite) here refl refl refl)

-- ---- there was nothing to choose

refused_then : (start : Start) (first : Act) (before : List Call) (l : List ℕ) (cause : Cause) → Here start first before (fallen (choosing ClientFirst) cause) (failed (cause_text cause) ∷ took l ∷ first ∷ []) → (call : Call) → Stands start first (call ∷ before)
refused_then start first before l cause here (give b) = refused l cause (stay start first before (give b) (fallen (choosing ClientFirst) cause) (failed (cause_text cause) ∷ took l ∷ first ∷ []) (g.Phase IsBroken) here refl refl refl)
refused_then start first before l cause here get = refused l cause (stay start first before get (fallen (choosing ClientFirst) cause) (failed (cause_text cause) ∷ took l ∷ first ∷ []) (g.Phase IsBroken) here refl refl refl)
refused_then start first before l cause here (found key secret) = refused l cause (stay start first before (found key secret) (fallen (choosing ClientFirst) cause) (failed (cause_text cause) ∷ took l ∷ first ∷ []) (g.Phase IsBroken) here refl refl refl)
refused_then start first before l cause here (heard b) = refused l cause (stay start first before (heard b) (fallen (choosing ClientFirst) cause) (failed (cause_text cause) ∷ took l ∷ first ∷ []) (g.Phase IsBroken) here refl refl refl)
refused_then start first before l cause here unheard = refused l cause (stay start first before unheard (fallen (choosing ClientFirst) cause) (failed (cause_text cause) ∷ took l ∷ first ∷ []) (g.Phase IsBroken) here refl refl refl)
refused_then start first before l cause here roomless = refused l cause (stay start first before roomless (fallen (choosing ClientFirst) cause) (failed (cause_text cause) ∷ took l ∷ first ∷ []) (g.Phase IsBroken) here refl refl refl)
refused_then start first before l cause here undone = refused l cause (stay start first before undone (fallen (choosing ClientFirst) cause) (failed (cause_text cause) ∷ took l ∷ first ∷ []) (g.Phase IsBroken) here refl refl refl)
refused_then start first before l cause here (offered other) = refused l cause (stay start first before (offered other) (fallen (choosing ClientFirst) cause) (failed (cause_text cause) ∷ took l ∷ first ∷ []) (g.Phase IsBroken) here refl refl refl)
refused_then start first before l cause here (picked where_) = refused l cause (stay start first before (picked where_) (fallen (choosing ClientFirst) cause) (failed (cause_text cause) ∷ took l ∷ first ∷ []) (g.Phase IsBroken) here refl refl refl)

-- ---- it picks

picking_stays : (start : Start) (first : Act) (before : List Call) (call : Call) (list : List ℕ) → waits_for start first before ≡ took (text_with_nul list) → Here start first before (at (choosing (ClientPick list))) (first ∷ []) → choice.verdict p9sk1 start (at (choosing (ClientPick list))) call ≡ stays g.Wait → any_left start (at (choosing (ClientPick list))) (stays g.Wait) (took (text_with_nul list)) call ≡ [] → kept_then (any_need start (at (choosing (ClientPick list)))) (any_need start (at (choosing (ClientPick list)))) call ≡ None → (choice.course p9sk1 start before ≡ at (choosing (ClientPick list)) → waits_for start first (call ∷ before) ≡ waits_for start first before) → Stands start first (call ∷ before)
picking_stays start first before call list waited here moves leaves none waits = picking list (waits here.course ∙ waited) (stay start first before call (at (choosing (ClientPick list))) (first ∷ []) g.Wait here moves (ap (λ act. any_left start (at (choosing (ClientPick list))) (stays g.Wait) act call) waited ∙ leaves) none)

picking_then : (start : Start) (first : Act) (before : List Call) (list : List ℕ) → waits_for start first before ≡ took (text_with_nul list) → Here start first before (at (choosing (ClientPick list))) (first ∷ []) → (call : Call) → Stands start first (call ∷ before)
picking_then start first before list waited here (give b) = picking_stays start first before (give b) list waited here refl refl refl (λ h. ap (λ p. if is_sought (any_need start p) then waits_for start first before else took b) h)
picking_then start first before list waited here get = picking_stays start first before get list waited here refl refl refl (λ h. refl)
picking_then start first before list waited here (found key secret) = picking_stays start first before (found key secret) list waited here refl refl refl (λ h. refl)
picking_then start first before list waited here (heard b) = picking_stays start first before (heard b) list waited here refl refl refl (λ h. refl)
picking_then start first before list waited here unheard = picking_stays start first before unheard list waited here refl refl refl (λ h. refl)
picking_then start first before list waited here roomless = picking_stays start first before roomless list waited here refl refl refl (λ h. refl)
picking_then start first before list waited here undone = begun (go_on start first before undone (at (choosing (ClientPick list))) (first ∷ []) (goes (choosing ClientFirst) g.Ok []) [] here refl refl refl)
picking_then start first before list waited here (offered other) = picking_stays start first before (offered other) list waited here refl refl refl (λ h. refl)
picking_then start first before list waited here (picked where_) = ready list where_ (go_on start first before (picked where_) (at (choosing (ClientPick list))) (first ∷ []) (goes (choosing (ClientSecond list where_)) g.Ok []) (took (text_with_nul list) ∷ []) here refl (ap (λ act. act ∷ []) waited) refl)

-- ---- it has picked

-- what it leaves to begin the inner talk by what it gives, or by what it takes
abbrev gives_left : List Act → Start → Role → List Act
gives_left given inner role = end_by Running (sk.outcome_at (at (sk.first_stage role))) ++ (asks_by Nothing (sk.need_at inner (at (sk.first_stage role))) ++ (if is_given (choice.waits (sk.need_at inner (at (sk.first_stage role)))) then given else []))

abbrev takes_left : List Act → Start → Role → List Act
takes_left taken inner role = end_by Running (sk.outcome_at (at (sk.first_stage role))) ++ (asks_by Nothing (sk.need_at inner (at (sk.first_stage role))) ++ (if is_taken (choice.waits (sk.need_at inner (at (sk.first_stage role)))) && not (is_sought (sk.need_at inner (at (sk.first_stage role)))) then taken else []))

gives_so : (given : List Act) (inner : Start) (role : Role) → IsClientRole role → gives_left given inner role ≡ given
gives_so given inner role for_itself = refl
gives_so given inner role (for_another user name) = refl

takes_so : (taken : List Act) (inner : Start) (role : Role) → IsClientRole role → takes_left taken inner role ≡ taken
takes_so taken inner role for_itself = refl
takes_so taken inner role (for_another user name) = refl

abbrev by_consents : Start → List ℕ → ℕ → Bool → Verdict Standing
by_consents start list place asks = if asks then goes (choosing (ClientThird list place)) g.Ok (choice_bytes start list place) else choice.entered p9sk1 start (ClientSecond list place) (chosen_text start list place) (choice_bytes start list place)

ready_got : (start : Start) (first : Act) (before : List Call) (list : List ℕ) (place : ℕ) (asks : Bool) → ((text : List ℕ) → IsClientRole (role_of (inner_start start text).template)) → Here start first before (at (choosing (ClientSecond list place))) (took (text_with_nul list) ∷ first ∷ []) → consents list ≡ asks → Stands start first (get ∷ before)
ready_got start first before list place true role here is = consenting list place is (go_on start first before get (at (choosing (ClientSecond list place))) (took (text_with_nul list) ∷ first ∷ []) (goes (choosing (ClientThird list place)) g.Ok (choice_bytes start list place)) (gave (choice_bytes start list place) ∷ []) here (ap (by_consents start list place) is) refl refl)
ready_got start first before list place false role here is =
    let text = chosen_text start list place in
    let given = gave (choice_bytes start list place) ∷ [] in
    let entered = go_on start first before get (at (choosing (ClientSecond list place))) (took (text_with_nul list) ∷ first ∷ []) (choice.entered p9sk1 start (ClientSecond list place) text (choice_bytes start list place)) given here (ap (by_consents start list place) is) (gives_so given (inner_start start text) (role_of (inner_start start text).template) (role text)) refl in
    at_once list place text (waits_for start first (get ∷ before)) [] (met start (get ∷ before)) is (record { course = entered.course; left = entered.left; waits = refl; has = refl; keeps_its = entered.none })

ready_then : (start : Start) (first : Act) (before : List Call) (list : List ℕ) (place : ℕ) → ((text : List ℕ) → IsClientRole (role_of (inner_start start text).template)) → Here start first before (at (choosing (ClientSecond list place))) (took (text_with_nul list) ∷ first ∷ []) → (call : Call) → Stands start first (call ∷ before)
ready_then start first before list place role here (give b) = ready list place (stay start first before (give b) (at (choosing (ClientSecond list place))) (took (text_with_nul list) ∷ first ∷ []) (g.Phase AwaitsRead) here refl refl refl)
ready_then start first before list place role here get = ready_got start first before list place (consents list) role here refl
ready_then start first before list place role here (found key secret) = ready list place (stay start first before (found key secret) (at (choosing (ClientSecond list place))) (took (text_with_nul list) ∷ first ∷ []) (g.Phase AwaitsRead) here refl refl refl)
ready_then start first before list place role here (heard b) = ready list place (stay start first before (heard b) (at (choosing (ClientSecond list place))) (took (text_with_nul list) ∷ first ∷ []) (g.Phase AwaitsRead) here refl refl refl)
ready_then start first before list place role here unheard = ready list place (stay start first before unheard (at (choosing (ClientSecond list place))) (took (text_with_nul list) ∷ first ∷ []) (g.Phase AwaitsRead) here refl refl refl)
ready_then start first before list place role here roomless = ready list place (stay start first before roomless (at (choosing (ClientSecond list place))) (took (text_with_nul list) ∷ first ∷ []) (g.Phase AwaitsRead) here refl refl refl)
ready_then start first before list place role here undone = ready list place (stay start first before undone (at (choosing (ClientSecond list place))) (took (text_with_nul list) ∷ first ∷ []) (g.Phase AwaitsRead) here refl refl refl)
ready_then start first before list place role here (offered other) = ready list place (stay start first before (offered other) (at (choosing (ClientSecond list place))) (took (text_with_nul list) ∷ first ∷ []) (g.Phase AwaitsRead) here refl refl refl)
ready_then start first before list place role here (picked where_) = ready list place (stay start first before (picked where_) (at (choosing (ClientSecond list place))) (took (text_with_nul list) ∷ first ∷ []) (g.Phase AwaitsRead) here refl refl refl)

-- ---- it awaits the consent

data ConsentCame (start : Start) (list : List ℕ) (place : ℕ) (b : List ℕ) : Type 0 where
  unread_consent : (given : Gave) → is_taken given ≡ false → choice.consent_came (codes "p9sk1") start (choice.entered p9sk1 start) list place b ≡ stays given → ConsentCame start list place b
  no_consent : (cause : Cause) → choice.consent_came (codes "p9sk1") start (choice.entered p9sk1 start) list place b ≡ breaks cause → ConsentCame start list place b
  a_consent : choice.consent_came (codes "p9sk1") start (choice.entered p9sk1 start) list place b ≡ choice.entered p9sk1 start (ClientThird list place) (chosen_text start list place) [] → ConsentCame start list place b

abbrev by_words : Start → List ℕ → ℕ → Bool → Verdict Standing
by_words start list place is_ok = unless_told (first_told ((not is_ok, WrongKind) ∷ [])) (choice.entered p9sk1 start (ClientThird list place) (chosen_text start list place) [])

consent_tested : (start : Start) (list : List ℕ) (place : ℕ) (b text : List ℕ) (is_ok : Bool) → choice.consent_came (codes "p9sk1") start (choice.entered p9sk1 start) list place b ≡ by_words start list place (bytes_eq text (codes "OK")) → bytes_eq text (codes "OK") ≡ is_ok → ConsentCame start list place b
consent_tested start list place b text false so is = no_consent WrongKind (so ∙ ap (by_words start list place) is)
consent_tested start list place b text true so is = a_consent (so ∙ ap (by_words start list place) is)

consent_told : (start : Start) (list : List ℕ) (place : ℕ) (b : List ℕ) → Text b → ConsentCame start list place b
consent_told start list place b (no_text given is none_taken) = unread_consent given none_taken (ap (λ r. with_text r (λ text. by_words start list place (bytes_eq text (codes "OK")))) is)
consent_told start list place b (a_text text is whole) = consent_tested start list place b text (bytes_eq text (codes "OK")) (ap (λ r. with_text r (λ text. by_words start list place (bytes_eq text (codes "OK")))) is) refl

consenting_came : (start : Start) (first : Act) (before : List Call) (list : List ℕ) (place : ℕ) (b : List ℕ) → consents list ≡ true → ((text : List ℕ) → IsClientRole (role_of (inner_start start text).template)) → Here start first before (at (choosing (ClientThird list place))) (chosen_acts first (text_with_nul list) (choice_bytes start list place)) → ConsentCame start list place b → Stands start first (give b ∷ before)
consenting_came start first before list place b asks role here (unread_consent given none_taken is) = consenting list place asks (stay start first before (give b) (at (choosing (ClientThird list place))) (chosen_acts first (text_with_nul list) (choice_bytes start list place)) given here is (untaken b given true none_taken) refl)
consenting_came start first before list place b asks role here (no_consent cause is) = broken list place b cause asks (go_on start first before (give b) (at (choosing (ClientThird list place))) (chosen_acts first (text_with_nul list) (choice_bytes start list place)) (breaks cause) (failed (cause_text cause) ∷ took b ∷ []) here is (broken_left b cause) refl)
consenting_came start first before list place b asks role here (a_consent is) =
    let text = chosen_text start list place in
    let entered = go_on start first before (give b) (at (choosing (ClientThird list place))) (chosen_acts first (text_with_nul list) (choice_bytes start list place)) (choice.entered p9sk1 start (ClientThird list place) text []) (took b ∷ []) here is (takes_so (took b ∷ []) (inner_start start text) (role_of (inner_start start text).template) (role text)) refl in
    by_consent list place b text (waits_for start first (give b ∷ before)) [] (met start (give b ∷ before)) asks (record { course = entered.course; left = entered.left; waits = refl; has = refl; keeps_its = entered.none })

consenting_then : (start : Start) (first : Act) (before : List Call) (list : List ℕ) (place : ℕ) → consents list ≡ true → ((text : List ℕ) → IsClientRole (role_of (inner_start start text).template)) → Here start first before (at (choosing (ClientThird list place))) (chosen_acts first (text_with_nul list) (choice_bytes start list place)) → (call : Call) → Stands start first (call ∷ before)
consenting_then start first before list place asks role here (give b) = consenting_came start first before list place b asks role here (consent_told start list place b (text_of b))
consenting_then start first before list place asks role here get = consenting list place asks (stay start first before get (at (choosing (ClientThird list place))) (chosen_acts first (text_with_nul list) (choice_bytes start list place)) (g.Phase AwaitsWrite) here refl refl refl)
consenting_then start first before list place asks role here (found key secret) = consenting list place asks (stay start first before (found key secret) (at (choosing (ClientThird list place))) (chosen_acts first (text_with_nul list) (choice_bytes start list place)) (g.Phase AwaitsWrite) here refl refl refl)
consenting_then start first before list place asks role here (heard b) = consenting list place asks (stay start first before (heard b) (at (choosing (ClientThird list place))) (chosen_acts first (text_with_nul list) (choice_bytes start list place)) (g.Phase AwaitsWrite) here refl refl refl)
consenting_then start first before list place asks role here unheard = consenting list place asks (stay start first before unheard (at (choosing (ClientThird list place))) (chosen_acts first (text_with_nul list) (choice_bytes start list place)) (g.Phase AwaitsWrite) here refl refl refl)
consenting_then start first before list place asks role here roomless = consenting list place asks (stay start first before roomless (at (choosing (ClientThird list place))) (chosen_acts first (text_with_nul list) (choice_bytes start list place)) (g.Phase AwaitsWrite) here refl refl refl)
consenting_then start first before list place asks role here undone = consenting list place asks (stay start first before undone (at (choosing (ClientThird list place))) (chosen_acts first (text_with_nul list) (choice_bytes start list place)) (g.Phase AwaitsWrite) here refl refl refl)
consenting_then start first before list place asks role here (offered other) = consenting list place asks (stay start first before (offered other) (at (choosing (ClientThird list place))) (chosen_acts first (text_with_nul list) (choice_bytes start list place)) (g.Phase AwaitsWrite) here refl refl refl)
consenting_then start first before list place asks role here (picked where_) = consenting list place asks (stay start first before (picked where_) (at (choosing (ClientThird list place))) (chosen_acts first (text_with_nul list) (choice_bytes start list place)) (g.Phase AwaitsWrite) here refl refl refl)

-- ---- there was no consent

broken_then : (start : Start) (first : Act) (before : List Call) (list : List ℕ) (place : ℕ) (c : List ℕ) (cause : Cause) → consents list ≡ true → Here start first before (fallen (choosing (ClientThird list place)) cause) (failed (cause_text cause) ∷ consented_acts first (text_with_nul list) (choice_bytes start list place) c) → (call : Call) → Stands start first (call ∷ before)
broken_then start first before list place c cause asks here (give b) = broken list place c cause asks (stay start first before (give b) (fallen (choosing (ClientThird list place)) cause) (failed (cause_text cause) ∷ consented_acts first (text_with_nul list) (choice_bytes start list place) c) (g.Phase IsBroken) here refl refl refl)
broken_then start first before list place c cause asks here get = broken list place c cause asks (stay start first before get (fallen (choosing (ClientThird list place)) cause) (failed (cause_text cause) ∷ consented_acts first (text_with_nul list) (choice_bytes start list place) c) (g.Phase IsBroken) here refl refl refl)
broken_then start first before list place c cause asks here (found key secret) = broken list place c cause asks (stay start first before (found key secret) (fallen (choosing (ClientThird list place)) cause) (failed (cause_text cause) ∷ consented_acts first (text_with_nul list) (choice_bytes start list place) c) (g.Phase IsBroken) here refl refl refl)
broken_then start first before list place c cause asks here (heard b) = broken list place c cause asks (stay start first before (heard b) (fallen (choosing (ClientThird list place)) cause) (failed (cause_text cause) ∷ consented_acts first (text_with_nul list) (choice_bytes start list place) c) (g.Phase IsBroken) here refl refl refl)
broken_then start first before list place c cause asks here unheard = broken list place c cause asks (stay start first before unheard (fallen (choosing (ClientThird list place)) cause) (failed (cause_text cause) ∷ consented_acts first (text_with_nul list) (choice_bytes start list place) c) (g.Phase IsBroken) here refl refl refl)
broken_then start first before list place c cause asks here roomless = broken list place c cause asks (stay start first before roomless (fallen (choosing (ClientThird list place)) cause) (failed (cause_text cause) ∷ consented_acts first (text_with_nul list) (choice_bytes start list place) c) (g.Phase IsBroken) here refl refl refl)
broken_then start first before list place c cause asks here undone = broken list place c cause asks (stay start first before undone (fallen (choosing (ClientThird list place)) cause) (failed (cause_text cause) ∷ consented_acts first (text_with_nul list) (choice_bytes start list place) c) (g.Phase IsBroken) here refl refl refl)
broken_then start first before list place c cause asks here (offered other) = broken list place c cause asks (stay start first before (offered other) (fallen (choosing (ClientThird list place)) cause) (failed (cause_text cause) ∷ consented_acts first (text_with_nul list) (choice_bytes start list place) c) (g.Phase IsBroken) here refl refl refl)
broken_then start first before list place c cause asks here (picked where_) = broken list place c cause asks (stay start first before (picked where_) (fallen (choosing (ClientThird list place)) cause) (failed (cause_text cause) ∷ consented_acts first (text_with_nul list) (choice_bytes start list place) c) (g.Phase IsBroken) here refl refl refl)

-- ---- the choice was made

-- the inner client seeks nothing at first, so that nothing is taken back
sought_first : (inner : Start) (role : Role) → IsClientRole role → is_sought (sk.need_at inner (at (sk.first_stage role))) ≡ false
sought_first inner role for_itself = refl
sought_first inner role (for_another user name) = refl

goes_back : (start : Start) (stage : Stage) (text : List ℕ) (inner : List Call) → IsClientRole (role_of (inner_start start text).template) → choice.verdict p9sk1 start (at (within stage text inner)) undone ≡ choice.passed_on p9sk1 start stage text inner undone
goes_back start stage text [] role = ap (λ (b : Bool). if true && b then goes (choosing stage) g.Ok [] else choice.passed_on p9sk1 start stage text [] undone) (sought_first (inner_start start text) (role_of (inner_start start text).template) role)
goes_back start stage text (call ∷ inner) role = refl

at_once_then : (start : Start) (first : Act) (before : List Call) (list : List ℕ) (place : ℕ) (text : List ℕ) (entry : Act) (inner more : List Call) → consents list ≡ false → IsClientRole (role_of (inner_start start text).template) → Inner start first before (ClientSecond list place) text entry (chosen_acts first (text_with_nul list) (choice_bytes start list place)) inner more → (call : Call) → Stands start first (call ∷ before)
at_once_then start first before list place text entry inner more asks role here (give b) = at_once list place text entry (give b ∷ inner) more asks (inner_goes start first before (ClientSecond list place) text entry (chosen_acts first (text_with_nul list) (choice_bytes start list place)) inner more (give b) here refl)
at_once_then start first before list place text entry inner more asks role here get = at_once list place text entry (get ∷ inner) more asks (inner_goes start first before (ClientSecond list place) text entry (chosen_acts first (text_with_nul list) (choice_bytes start list place)) inner more get here refl)
at_once_then start first before list place text entry inner more asks role here (found key secret) = at_once list place text entry (found key secret ∷ inner) more asks (inner_goes start first before (ClientSecond list place) text entry (chosen_acts first (text_with_nul list) (choice_bytes start list place)) inner more (found key secret) here refl)
at_once_then start first before list place text entry inner more asks role here (heard b) = at_once list place text entry (heard b ∷ inner) more asks (inner_goes start first before (ClientSecond list place) text entry (chosen_acts first (text_with_nul list) (choice_bytes start list place)) inner more (heard b) here refl)
at_once_then start first before list place text entry inner more asks role here unheard = at_once list place text entry (unheard ∷ inner) more asks (inner_goes start first before (ClientSecond list place) text entry (chosen_acts first (text_with_nul list) (choice_bytes start list place)) inner more unheard here refl)
at_once_then start first before list place text entry inner more asks role here roomless = at_once list place text entry (roomless ∷ inner) more asks (inner_goes start first before (ClientSecond list place) text entry (chosen_acts first (text_with_nul list) (choice_bytes start list place)) inner more roomless here refl)
at_once_then start first before list place text entry inner more asks role here undone = at_once list place text entry (undone ∷ inner) more asks (inner_goes start first before (ClientSecond list place) text entry (chosen_acts first (text_with_nul list) (choice_bytes start list place)) inner more undone here (goes_back start (ClientSecond list place) text inner role))
at_once_then start first before list place text entry inner more asks role here (offered other) = at_once list place text entry inner more asks (inner_offered start first before (ClientSecond list place) text entry (chosen_acts first (text_with_nul list) (choice_bytes start list place)) inner more other here)
at_once_then start first before list place text entry inner more asks role here (picked where_) = at_once list place text entry inner more asks (inner_picked start first before (ClientSecond list place) text entry (chosen_acts first (text_with_nul list) (choice_bytes start list place)) inner more where_ here)

by_consent_then : (start : Start) (first : Act) (before : List Call) (list : List ℕ) (place : ℕ) (c text : List ℕ) (entry : Act) (inner more : List Call) → consents list ≡ true → IsClientRole (role_of (inner_start start text).template) → Inner start first before (ClientThird list place) text entry (consented_acts first (text_with_nul list) (choice_bytes start list place) c) inner more → (call : Call) → Stands start first (call ∷ before)
by_consent_then start first before list place c text entry inner more asks role here (give b) = by_consent list place c text entry (give b ∷ inner) more asks (inner_goes start first before (ClientThird list place) text entry (consented_acts first (text_with_nul list) (choice_bytes start list place) c) inner more (give b) here refl)
by_consent_then start first before list place c text entry inner more asks role here get = by_consent list place c text entry (get ∷ inner) more asks (inner_goes start first before (ClientThird list place) text entry (consented_acts first (text_with_nul list) (choice_bytes start list place) c) inner more get here refl)
by_consent_then start first before list place c text entry inner more asks role here (found key secret) = by_consent list place c text entry (found key secret ∷ inner) more asks (inner_goes start first before (ClientThird list place) text entry (consented_acts first (text_with_nul list) (choice_bytes start list place) c) inner more (found key secret) here refl)
by_consent_then start first before list place c text entry inner more asks role here (heard b) = by_consent list place c text entry (heard b ∷ inner) more asks (inner_goes start first before (ClientThird list place) text entry (consented_acts first (text_with_nul list) (choice_bytes start list place) c) inner more (heard b) here refl)
by_consent_then start first before list place c text entry inner more asks role here unheard = by_consent list place c text entry (unheard ∷ inner) more asks (inner_goes start first before (ClientThird list place) text entry (consented_acts first (text_with_nul list) (choice_bytes start list place) c) inner more unheard here refl)
by_consent_then start first before list place c text entry inner more asks role here roomless = by_consent list place c text entry (roomless ∷ inner) more asks (inner_goes start first before (ClientThird list place) text entry (consented_acts first (text_with_nul list) (choice_bytes start list place) c) inner more roomless here refl)
by_consent_then start first before list place c text entry inner more asks role here undone = by_consent list place c text entry (undone ∷ inner) more asks (inner_goes start first before (ClientThird list place) text entry (consented_acts first (text_with_nul list) (choice_bytes start list place) c) inner more undone here (goes_back start (ClientThird list place) text inner role))
by_consent_then start first before list place c text entry inner more asks role here (offered other) = by_consent list place c text entry inner more asks (inner_offered start first before (ClientThird list place) text entry (consented_acts first (text_with_nul list) (choice_bytes start list place) c) inner more other here)
by_consent_then start first before list place c text entry inner more asks role here (picked where_) = by_consent list place c text entry inner more asks (inner_picked start first before (ClientThird list place) text entry (consented_acts first (text_with_nul list) (choice_bytes start list place) c) inner more where_ here)

-- ---- every talk

then_stands : (start : Start) (first : Act) (before : List Call) (call : Call) → ((text : List ℕ) → IsClientRole (role_of (inner_start start text).template)) → Stands start first before → Stands start first (call ∷ before)
then_stands start first before call role (begun here) = begun_then start first before here call
then_stands start first before call role (refused l cause here) = refused_then start first before l cause here call
then_stands start first before call role (picking list waited here) = picking_then start first before list waited here call
then_stands start first before call role (ready list place here) = ready_then start first before list place role here call
then_stands start first before call role (consenting list place asks here) = consenting_then start first before list place asks role here call
then_stands start first before call role (broken list place c cause asks here) = broken_then start first before list place c cause asks here call
then_stands start first before call role (at_once list place text entry inner more asks here) = at_once_then start first before list place text entry inner more asks (role text) here call
then_stands start first before call role (by_consent list place c text entry inner more asks here) = by_consent_then start first before list place c text entry inner more asks (role text) here call

begins_so : (role : Role) → IsClientRole role → choice.first_stage role ≡ ClientFirst
begins_so role for_itself = refl
begins_so role (for_another user name) = refl

pub stands : (start : Start) (first : Act) → IsClientRole (role_of start.template) → ((text : List ℕ) → IsClientRole (role_of (inner_start start text).template)) → (talk : List Call) → Stands start first talk
stands start first role inner [] = begun (record { course = ap (λ stage. at (choosing stage)) (begins_so (role_of start.template) role); left = ap (λ stage. if is_sought (any_need start (at (choosing stage))) then [] else first ∷ []) (begins_so (role_of start.template) role); none = refl })
stands start first role inner (call ∷ before) = then_stands start first before call inner (stands start first role inner before)
