-- What a p9any server's talk may leave: its start, its list of offers, the choice, and then what the talk of p9sk1 leaves.
use Rattle.std.proofs.Common.{◌≡◌, ℕ, List, [], ◌∷◌, ◌++◌, Bool, true, false, not, ◌&&◌, Option, None, if◌then◌else◌, refl, ap, ◌∙◌}
use Rattle.std.specs.Prelude.{codes}
use Rattle.wire_base.specs.Rules.{first_told}
use Rattle.roles.specs.declared.answer.Cause.{Cause}
use Rattle.roles.specs.declared.answer.Cause.TheVariants.{NotOffered}
use Rattle.roles.specs.declared.answer.Gave.{Gave}
use Rattle.roles.specs.declared.answer.Gave.TheVariants as g
use Rattle.roles.specs.declared.answer.PhaseWord.TheVariants.{AwaitsRead, AwaitsWrite, Broken as IsBroken}
use Rattle.roles.specs.declared.need.Need.TheVariants.{Nothing}
use Rattle.roles.specs.declared.need.Outcome.TheVariants.{Running}
use Rattle.roles.specs.declared.stage.Role.{Role}
use Rattle.roles.specs.declared.stage.Role.TheVariants.{Server}
use Rattle.roles.specs.Answers.{is_sought}
use Rattle.roles.specs.Courses as sk
use Rattle.roles.specs.Starts.{Start, role_of}
use Rattle.roles.specs.Talks.{Call, Verdict, give, get, found, heard, unheard, roomless, undone, offered, picked, goes, stays, breaks, unless_told}
use Rattle.conv_p9any.specs.declared.stage.Stage.TheVariants.{ServerOffers, ServerKey, ServerFirst, ServerSecond}
use Rattle.conv_p9any.specs.Courses as choice
use Rattle.conv_p9any.specs.Offers.{is_offered}
use Rattle.conv_p9any.specs.Talks.{Standing, choosing, within}
use Rattle.conv_p9any.specs.Texts.{text_with_nul, with_text}
use Rattle.talks.specs.Protocols.{p9sk1}
use Rattle.talks.specs.Lines.{cause_text}
use Rattle.wire_histories.specs.Histories.{Act, gave, took, failed}
use Rattle.wire_histories.specs.Conversations.{asks_by, end_by, is_taken, meets}
use Rattle.clean_runs.proofs.AnyTalks.{Here, Inner, Text, a_text, any_left, any_need, fallen, go_on, inner_goes, inner_offered, inner_picked, inner_start, kept_then, met, no_text, none_kept, stay, text_of, untaken, waits_for}
use Rattle.clean_runs.proofs.LeftLemmas.{at}
use Rattle.clean_runs.proofs.SkClients.{broken_left}

-- its acts up to the list
abbrev pub listed_acts : Act → List ℕ → List Act
listed_acts first list = gave (text_with_nul list) ∷ first ∷ []

-- how it stands behind a talk
pub data Stands (start : Start) (first : Act) (talk : List Call) : Type 0 where
  offering : waits_for start first talk ≡ first → Here start first talk (at (choosing ServerOffers)) [] → Stands start first talk
  seeking : waits_for start first talk ≡ first → Here start first talk (at (choosing ServerKey)) [] → Stands start first talk
  ready : (list : List ℕ) → Here start first talk (at (choosing (ServerFirst list))) (first ∷ []) → Stands start first talk
  listed : (list : List ℕ) → Here start first talk (at (choosing (ServerSecond list))) (listed_acts first list) → Stands start first talk
  broken : (list c : List ℕ) (cause : Cause) → Here start first talk (fallen (choosing (ServerSecond list)) cause) (failed (cause_text cause) ∷ took c ∷ listed_acts first list) → Stands start first talk
  chosen : (list c text : List ℕ) (inner more : List Call) → Inner start first talk (ServerSecond list) text (took c) (listed_acts first list) inner more → Stands start first talk

-- ---- it wants offers, or a key first

offering_came : (start : Start) (first : Act) (before : List Call) (list : List ℕ) → waits_for start first before ≡ first → Here start first before (at (choosing ServerOffers)) [] → Stands start first (offered list ∷ before)
offering_came start first before [] waited here = seeking waited (go_on start first before (offered []) (at (choosing ServerOffers)) [] (goes (choosing ServerKey) g.Wait []) [] here refl refl refl)
offering_came start first before (b ∷ list) waited here = ready (b ∷ list) (go_on start first before (offered (b ∷ list)) (at (choosing ServerOffers)) [] (goes (choosing (ServerFirst (b ∷ list))) g.Ok []) (first ∷ []) here refl (ap (λ act. act ∷ []) waited) refl)

offering_stays : (start : Start) (first : Act) (before : List Call) (call : Call) → waits_for start first before ≡ first → Here start first before (at (choosing ServerOffers)) [] → choice.verdict p9sk1 start (at (choosing ServerOffers)) call ≡ stays g.Wait → any_left start (at (choosing ServerOffers)) (stays g.Wait) first call ≡ [] → kept_then (any_need start (at (choosing ServerOffers))) (any_need start (at (choosing ServerOffers))) call ≡ None → (choice.course p9sk1 start before ≡ at (choosing ServerOffers) → waits_for start first (call ∷ before) ≡ waits_for start first before) → Stands start first (call ∷ before)
offering_stays start first before call waited here moves leaves none waits = offering (waits here.course ∙ waited) (stay start first before call (at (choosing ServerOffers)) [] g.Wait here moves (ap (λ act. any_left start (at (choosing ServerOffers)) (stays g.Wait) act call) waited ∙ leaves) none)

offering_then : (start : Start) (first : Act) (before : List Call) → waits_for start first before ≡ first → Here start first before (at (choosing ServerOffers)) [] → (call : Call) → Stands start first (call ∷ before)
offering_then start first before waited here (give b) = offering_stays start first before (give b) waited here refl refl refl (λ h. ap (λ p. if is_sought (any_need start p) then waits_for start first before else took b) h)
offering_then start first before waited here get = offering_stays start first before get waited here refl refl refl (λ h. refl)
offering_then start first before waited here (found key secret) = offering_stays start first before (found key secret) waited here refl refl refl (λ h. refl)
offering_then start first before waited here (heard b) = offering_stays start first before (heard b) waited here refl refl refl (λ h. refl)
offering_then start first before waited here unheard = offering_stays start first before unheard waited here refl refl refl (λ h. refl)
offering_then start first before waited here roomless = offering_stays start first before roomless waited here refl refl refl (λ h. refl)
offering_then start first before waited here undone = offering_stays start first before undone waited here refl refl refl (λ h. refl)
offering_then start first before waited here (offered other) = offering_came start first before other waited here
offering_then start first before waited here (picked place) = offering_stays start first before (picked place) waited here refl refl refl (λ h. refl)

seeking_stays : (start : Start) (first : Act) (before : List Call) (call : Call) → waits_for start first before ≡ first → Here start first before (at (choosing ServerKey)) [] → choice.verdict p9sk1 start (at (choosing ServerKey)) call ≡ stays g.Wait → any_left start (at (choosing ServerKey)) (stays g.Wait) first call ≡ [] → kept_then (any_need start (at (choosing ServerKey))) (any_need start (at (choosing ServerKey))) call ≡ None → (choice.course p9sk1 start before ≡ at (choosing ServerKey) → waits_for start first (call ∷ before) ≡ waits_for start first before) → Stands start first (call ∷ before)
seeking_stays start first before call waited here moves leaves none waits = seeking (waits here.course ∙ waited) (stay start first before call (at (choosing ServerKey)) [] g.Wait here moves (ap (λ act. any_left start (at (choosing ServerKey)) (stays g.Wait) act call) waited ∙ leaves) none)

seeking_then : (start : Start) (first : Act) (before : List Call) → waits_for start first before ≡ first → Here start first before (at (choosing ServerKey)) [] → (call : Call) → Stands start first (call ∷ before)
seeking_then start first before waited here (give b) = seeking_stays start first before (give b) waited here refl refl refl (λ h. ap (λ p. if is_sought (any_need start p) then waits_for start first before else took b) h)
seeking_then start first before waited here get = seeking_stays start first before get waited here refl refl refl (λ h. refl)
seeking_then start first before waited here (found key secret) = offering waited (go_on start first before (found key secret) (at (choosing ServerKey)) [] (goes (choosing ServerOffers) g.Wait []) [] here refl refl refl)
seeking_then start first before waited here (heard b) = seeking_stays start first before (heard b) waited here refl refl refl (λ h. refl)
seeking_then start first before waited here unheard = seeking_stays start first before unheard waited here refl refl refl (λ h. refl)
seeking_then start first before waited here roomless = seeking_stays start first before roomless waited here refl refl refl (λ h. refl)
seeking_then start first before waited here undone = seeking_stays start first before undone waited here refl refl refl (λ h. refl)
seeking_then start first before waited here (offered other) = seeking_stays start first before (offered other) waited here refl refl refl (λ h. refl)
seeking_then start first before waited here (picked place) = seeking_stays start first before (picked place) waited here refl refl refl (λ h. refl)

-- ---- it has its list

ready_then : (start : Start) (first : Act) (before : List Call) (list : List ℕ) → Here start first before (at (choosing (ServerFirst list))) (first ∷ []) → (call : Call) → Stands start first (call ∷ before)
ready_then start first before list here (give b) = ready list (stay start first before (give b) (at (choosing (ServerFirst list))) (first ∷ []) (g.Phase AwaitsRead) here refl refl refl)
ready_then start first before list here get = listed list (go_on start first before get (at (choosing (ServerFirst list))) (first ∷ []) (goes (choosing (ServerSecond list)) g.Ok (text_with_nul list)) (gave (text_with_nul list) ∷ []) here refl refl refl)
ready_then start first before list here (found key secret) = ready list (stay start first before (found key secret) (at (choosing (ServerFirst list))) (first ∷ []) (g.Phase AwaitsRead) here refl refl refl)
ready_then start first before list here (heard b) = ready list (stay start first before (heard b) (at (choosing (ServerFirst list))) (first ∷ []) (g.Phase AwaitsRead) here refl refl refl)
ready_then start first before list here unheard = ready list (stay start first before unheard (at (choosing (ServerFirst list))) (first ∷ []) (g.Phase AwaitsRead) here refl refl refl)
ready_then start first before list here roomless = ready list (stay start first before roomless (at (choosing (ServerFirst list))) (first ∷ []) (g.Phase AwaitsRead) here refl refl refl)
ready_then start first before list here undone = ready list (stay start first before undone (at (choosing (ServerFirst list))) (first ∷ []) (g.Phase AwaitsRead) here refl refl refl)
ready_then start first before list here (offered other) = ready list (stay start first before (offered other) (at (choosing (ServerFirst list))) (first ∷ []) (g.Phase AwaitsRead) here refl refl refl)
ready_then start first before list here (picked place) = ready list (stay start first before (picked place) (at (choosing (ServerFirst list))) (first ∷ []) (g.Phase AwaitsRead) here refl refl refl)

-- ---- it gave its list

-- a choice is one of those offered, or breaks the conversation, or isn't read
data ChoiceCame (start : Start) (list b : List ℕ) : Type 0 where
  unread : (given : Gave) → is_taken given ≡ false → choice.choice_came (codes "p9sk1") (choice.entered p9sk1 start) list b ≡ stays given → ChoiceCame start list b
  bad : (cause : Cause) → choice.choice_came (codes "p9sk1") (choice.entered p9sk1 start) list b ≡ breaks cause → ChoiceCame start list b
  good : (text : List ℕ) → choice.choice_came (codes "p9sk1") (choice.entered p9sk1 start) list b ≡ choice.entered p9sk1 start (ServerSecond list) text [] → ChoiceCame start list b

abbrev by_test : Start → List ℕ → List ℕ → Bool → Verdict Standing
by_test start list text is_one = unless_told (first_told ((not is_one, NotOffered) ∷ [])) (choice.entered p9sk1 start (ServerSecond list) text [])

choice_tested : (start : Start) (list b text : List ℕ) (is_one : Bool) → choice.choice_came (codes "p9sk1") (choice.entered p9sk1 start) list b ≡ by_test start list text (is_offered (codes "p9sk1") list text) → is_offered (codes "p9sk1") list text ≡ is_one → ChoiceCame start list b
choice_tested start list b text false so is = bad NotOffered (so ∙ ap (by_test start list text) is)
choice_tested start list b text true so is = good text (so ∙ ap (by_test start list text) is)

choice_told : (start : Start) (list b : List ℕ) → Text b → ChoiceCame start list b
choice_told start list b (no_text given is none_taken) = unread given none_taken (ap (λ r. with_text r (λ text. by_test start list text (is_offered (codes "p9sk1") list text))) is)
choice_told start list b (a_text text is whole) = choice_tested start list b text (is_offered (codes "p9sk1") list text) (ap (λ r. with_text r (λ text. by_test start list text (is_offered (codes "p9sk1") list text))) is) refl

-- what it leaves to begin the inner talk, by the inner role
abbrev entry_left : Start → List ℕ → Role → List Act
entry_left inner b role = end_by Running (sk.outcome_at (at (sk.first_stage role))) ++ (asks_by Nothing (sk.need_at inner (at (sk.first_stage role))) ++ (if is_taken (choice.waits (sk.need_at inner (at (sk.first_stage role)))) && not (is_sought (sk.need_at inner (at (sk.first_stage role)))) then took b ∷ [] else []))

listed_came : (start : Start) (first : Act) (before : List Call) (list b : List ℕ) → ((text : List ℕ) → role_of (inner_start start text).template ≡ Server) → Here start first before (at (choosing (ServerSecond list))) (listed_acts first list) → ChoiceCame start list b → Stands start first (give b ∷ before)
listed_came start first before list b role here (unread given none_taken is) = listed list (stay start first before (give b) (at (choosing (ServerSecond list))) (listed_acts first list) given here is (untaken b given true none_taken) refl)
listed_came start first before list b role here (bad cause is) = broken list b cause (go_on start first before (give b) (at (choosing (ServerSecond list))) (listed_acts first list) (breaks cause) (failed (cause_text cause) ∷ took b ∷ []) here is (broken_left b cause) refl)
listed_came start first before list b role here (good text is) =
    let entered = go_on start first before (give b) (at (choosing (ServerSecond list))) (listed_acts first list) (choice.entered p9sk1 start (ServerSecond list) text []) [] here is (ap (entry_left (inner_start start text) b) (role text)) refl in
    chosen list b text [] (met start (give b ∷ before)) (record {
      course = entered.course;
      left = entered.left;
      waits = ap (λ p. if is_sought (any_need start p) then waits_for start first before else took b) here.course;
      has = refl;
      keeps_its = entered.none;
    })

listed_then : (start : Start) (first : Act) (before : List Call) (list : List ℕ) → ((text : List ℕ) → role_of (inner_start start text).template ≡ Server) → Here start first before (at (choosing (ServerSecond list))) (listed_acts first list) → (call : Call) → Stands start first (call ∷ before)
listed_then start first before list role here (give b) = listed_came start first before list b role here (choice_told start list b (text_of b))
listed_then start first before list role here get = listed list (stay start first before get (at (choosing (ServerSecond list))) (listed_acts first list) (g.Phase AwaitsWrite) here refl refl refl)
listed_then start first before list role here (found key secret) = listed list (stay start first before (found key secret) (at (choosing (ServerSecond list))) (listed_acts first list) (g.Phase AwaitsWrite) here refl refl refl)
listed_then start first before list role here (heard b) = listed list (stay start first before (heard b) (at (choosing (ServerSecond list))) (listed_acts first list) (g.Phase AwaitsWrite) here refl refl refl)
listed_then start first before list role here unheard = listed list (stay start first before unheard (at (choosing (ServerSecond list))) (listed_acts first list) (g.Phase AwaitsWrite) here refl refl refl)
listed_then start first before list role here roomless = listed list (stay start first before roomless (at (choosing (ServerSecond list))) (listed_acts first list) (g.Phase AwaitsWrite) here refl refl refl)
listed_then start first before list role here undone = listed list (stay start first before undone (at (choosing (ServerSecond list))) (listed_acts first list) (g.Phase AwaitsWrite) here refl refl refl)
listed_then start first before list role here (offered other) = listed list (stay start first before (offered other) (at (choosing (ServerSecond list))) (listed_acts first list) (g.Phase AwaitsWrite) here refl refl refl)
listed_then start first before list role here (picked place) = listed list (stay start first before (picked place) (at (choosing (ServerSecond list))) (listed_acts first list) (g.Phase AwaitsWrite) here refl refl refl)

-- ---- it broke

broken_then : (start : Start) (first : Act) (before : List Call) (list c : List ℕ) (cause : Cause) → Here start first before (fallen (choosing (ServerSecond list)) cause) (failed (cause_text cause) ∷ took c ∷ listed_acts first list) → (call : Call) → Stands start first (call ∷ before)
broken_then start first before list c cause here (give b) = broken list c cause (stay start first before (give b) (fallen (choosing (ServerSecond list)) cause) (failed (cause_text cause) ∷ took c ∷ listed_acts first list) (g.Phase IsBroken) here refl refl refl)
broken_then start first before list c cause here get = broken list c cause (stay start first before get (fallen (choosing (ServerSecond list)) cause) (failed (cause_text cause) ∷ took c ∷ listed_acts first list) (g.Phase IsBroken) here refl refl refl)
broken_then start first before list c cause here (found key secret) = broken list c cause (stay start first before (found key secret) (fallen (choosing (ServerSecond list)) cause) (failed (cause_text cause) ∷ took c ∷ listed_acts first list) (g.Phase IsBroken) here refl refl refl)
broken_then start first before list c cause here (heard b) = broken list c cause (stay start first before (heard b) (fallen (choosing (ServerSecond list)) cause) (failed (cause_text cause) ∷ took c ∷ listed_acts first list) (g.Phase IsBroken) here refl refl refl)
broken_then start first before list c cause here unheard = broken list c cause (stay start first before unheard (fallen (choosing (ServerSecond list)) cause) (failed (cause_text cause) ∷ took c ∷ listed_acts first list) (g.Phase IsBroken) here refl refl refl)
broken_then start first before list c cause here roomless = broken list c cause (stay start first before roomless (fallen (choosing (ServerSecond list)) cause) (failed (cause_text cause) ∷ took c ∷ listed_acts first list) (g.Phase IsBroken) here refl refl refl)
broken_then start first before list c cause here undone = broken list c cause (stay start first before undone (fallen (choosing (ServerSecond list)) cause) (failed (cause_text cause) ∷ took c ∷ listed_acts first list) (g.Phase IsBroken) here refl refl refl)
broken_then start first before list c cause here (offered other) = broken list c cause (stay start first before (offered other) (fallen (choosing (ServerSecond list)) cause) (failed (cause_text cause) ∷ took c ∷ listed_acts first list) (g.Phase IsBroken) here refl refl refl)
broken_then start first before list c cause here (picked place) = broken list c cause (stay start first before (picked place) (fallen (choosing (ServerSecond list)) cause) (failed (cause_text cause) ∷ took c ∷ listed_acts first list) (g.Phase IsBroken) here refl refl refl)

-- ---- the choice was made

either_none : (b : Bool) → (if b then None else None) ≡ none_kept
either_none true = refl
either_none false = refl

-- the move that chose may be taken back
chosen_undone : (start : Start) (first : Act) (before : List Call) (list c text : List ℕ) (inner more : List Call) → role_of (inner_start start text).template ≡ Server → Inner start first before (ServerSecond list) text (took c) (listed_acts first list) inner more → Stands start first (undone ∷ before)
chosen_undone start first before list c text [] more role here =
    let s = inner_start start text in
    let p = at (within (ServerSecond list) text []) in
    let v : Verdict Standing = goes (choosing (ServerSecond list)) g.Ok [] in
    let moves : choice.verdict p9sk1 start p undone ≡ v = ap (λ role. if true && is_sought (sk.need_at s (at (sk.first_stage role))) then v else choice.passed_on p9sk1 start (ServerSecond list) text [] undone) role in
    let leaves : any_left start p v (waits_for start first before) undone ≡ [] = ap (λ role. end_by (sk.outcome_at (at (sk.first_stage role))) Running ++ (asks_by (sk.need_at s (at (sk.first_stage role))) Nothing ++ [])) role in
    listed list (go_on start first before undone p (listed_acts first list) v [] (record { course = here.course; left = here.left; none = here.keeps_its }) moves leaves (either_none (meets (any_need start p) undone)))
chosen_undone start first before list c text (call ∷ inner) more role here = chosen list c text (undone ∷ call ∷ inner) more (inner_goes start first before (ServerSecond list) text (took c) (listed_acts first list) (call ∷ inner) more undone here refl)

chosen_then : (start : Start) (first : Act) (before : List Call) (list c text : List ℕ) (inner more : List Call) → role_of (inner_start start text).template ≡ Server → Inner start first before (ServerSecond list) text (took c) (listed_acts first list) inner more → (call : Call) → Stands start first (call ∷ before)
chosen_then start first before list c text inner more role here (give b) = chosen list c text (give b ∷ inner) more (inner_goes start first before (ServerSecond list) text (took c) (listed_acts first list) inner more (give b) here refl)
chosen_then start first before list c text inner more role here get = chosen list c text (get ∷ inner) more (inner_goes start first before (ServerSecond list) text (took c) (listed_acts first list) inner more get here refl)
chosen_then start first before list c text inner more role here (found key secret) = chosen list c text (found key secret ∷ inner) more (inner_goes start first before (ServerSecond list) text (took c) (listed_acts first list) inner more (found key secret) here refl)
chosen_then start first before list c text inner more role here (heard b) = chosen list c text (heard b ∷ inner) more (inner_goes start first before (ServerSecond list) text (took c) (listed_acts first list) inner more (heard b) here refl)
chosen_then start first before list c text inner more role here unheard = chosen list c text (unheard ∷ inner) more (inner_goes start first before (ServerSecond list) text (took c) (listed_acts first list) inner more unheard here refl)
chosen_then start first before list c text inner more role here roomless = chosen list c text (roomless ∷ inner) more (inner_goes start first before (ServerSecond list) text (took c) (listed_acts first list) inner more roomless here refl)
chosen_then start first before list c text inner more role here undone = chosen_undone start first before list c text inner more role here
chosen_then start first before list c text inner more role here (offered other) = chosen list c text inner more (inner_offered start first before (ServerSecond list) text (took c) (listed_acts first list) inner more other here)
chosen_then start first before list c text inner more role here (picked place) = chosen list c text inner more (inner_picked start first before (ServerSecond list) text (took c) (listed_acts first list) inner more place here)

-- ---- every talk

then_stands : (start : Start) (first : Act) (before : List Call) (call : Call) → ((text : List ℕ) → role_of (inner_start start text).template ≡ Server) → Stands start first before → Stands start first (call ∷ before)
then_stands start first before call role (offering waited here) = offering_then start first before waited here call
then_stands start first before call role (seeking waited here) = seeking_then start first before waited here call
then_stands start first before call role (ready list here) = ready_then start first before list here call
then_stands start first before call role (listed list here) = listed_then start first before list role here call
then_stands start first before call role (broken list c cause here) = broken_then start first before list c cause here call
then_stands start first before call role (chosen list c text inner more here) = chosen_then start first before list c text inner more (role text) here call

pub stands : (start : Start) (first : Act) → role_of start.template ≡ Server → ((text : List ℕ) → role_of (inner_start start text).template ≡ Server) → (talk : List Call) → Stands start first talk
stands start first role inner [] = offering refl (record { course = ap (λ role. at (choosing (choice.first_stage role))) role; left = ap (λ role. if is_sought (any_need start (at (choosing (choice.first_stage role)))) then [] else first ∷ []) role; none = refl })
stands start first role inner (call ∷ before) = then_stands start first before call inner (stands start first role inner before)
