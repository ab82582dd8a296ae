-- What each move of p9any answers and gives: no key is called bad but where the authentication server answers, and no more is got
-- than an answer has room for.
use Rattle.std.proofs.Common.{◌≡◌, ℕ, zero, suc, ◌+◌, ◌≤◌, List, [], ◌∷◌, ◌++◌, map, Bool, true, false, cond, eqb, Option, Some, None, Result, Ok, Err, length, ltb, codes, slice_index_or, refl, arith, length-append}
use Rattle.std.specs.Prelude.{filter}
use Rattle.std.proofs.lemmas.Bool.{and_parts}
use Rattle.wire_base.specs.Texts.{is_text}
use Rattle.attr_tuples.specs.Forms.{is_dom}
use Rattle.sealing.specs.Fields.{before_nul}
use Rattle.roles.specs.declared.answer.Cause.{Cause}
use Rattle.roles.specs.declared.answer.Gave.{Gave}
use Rattle.roles.specs.declared.answer.Gave.TheVariants as g
use Rattle.roles.specs.declared.need.Need.{Need}
use Rattle.roles.specs.Courses.{unless_broken}
use Rattle.roles.specs.Starts.{Start}
use Rattle.roles.specs.Talks.{Call, Verdict, found, get, give, goes, heard, offered, picked, roomless, undone, unheard}
use Rattle.conv_p9any.specs.declared.stage.Stage.{Stage}
use Rattle.conv_p9any.specs.declared.stage.Stage.TheVariants.{ServerOffers, ServerKey, ServerFirst, ServerSecond, ClientFirst, ClientPick, ClientSecond, ClientThird}
use Rattle.conv_p9any.specs.declared.stage.TheConstants.{MOST_TEXT}
use Rattle.conv_p9any.specs.Courses.{choice_came, choice_got, choice_tests, choice_text, chosen_start, consent_came, consent_tests, entered, list_came, list_tests, move, passed_on, seeks_first, taken_back, waits}
use Rattle.conv_p9any.specs.Offers.{choice_of, consents, dom_at, dom_in, eligible, eligible_among, is_eligible, offers_text, words}
use Rattle.conv_p9any.specs.Talks.{Standing, choosing, needs_any, within}
use Rattle.conv_p9any.specs.Texts.{ended_text, text_in, text_with_nul, with_text}
use Rattle.conv_p9any.proofs.OfferLemmas.{eligible_dom}
use Rattle.talks.specs.Protocols.{p9sk1}
use Rattle.world_promises.proofs.SkSizes.{sk_good, sk_small}
use Rattle.world_promises.proofs.VerdictForms.{FitMoves, FitsMove, Good, is_bad, tested_so}
use Rattle.world_promises.proofs.OffersServe.{dom_short}
use Rattle.world_promises.proofs.RoleForms.{either}

-- what stands of a stage: a list that is to be given is short
abbrev pub StoodAt : Type 0 → Stage → Type 0
StoodAt F (ServerFirst list) = F → length list ≤ 1024
StoodAt F stage = Unit {0}

abbrev pub Stood : Type 0 → Standing → Type 0
Stood F (choosing stage) = StoodAt F stage
Stood F (within before text talk) = StoodAt F before × (F → FitMoves talk)

abbrev pub Moves : Type 0 → Call → Verdict Standing → Type 0
Moves F call v = Good (Stood F) F call v

-- ---- forms

not_bad : (b : Bool) → is_bad (cond b g.Wait g.Ok) ≡ true → ⊥
not_bad true = λ e. cc e
not_bad false = λ e. cc e

waits_good : (n : Need) → is_bad (waits n) ≡ true → ⊥
waits_good n = not_bad (needs_any n)

-- what is told of a text that isn't well calls no key bad
abbrev IsPlain : Result (List ℕ) Gave → Type 0
IsPlain (Ok text) = Unit {0}
IsPlain (Err answer) = is_bad answer ≡ true → ⊥

plain_if : (b : Bool) (x y : Result (List ℕ) Gave) → IsPlain x → IsPlain y → IsPlain (cond b x y)
plain_if true x y first second = first
plain_if false x y first second = second

ended_plain : (b : List ℕ) (text : Option (List ℕ)) → IsPlain (ended_text b text)
ended_plain b None = λ e. cc e
ended_plain b (Some text) = plain_if (eqb (length b) (length text + 1)) (Ok text) (Err g.TooLong) tt (λ e. cc e)

text_plain : (b : List ℕ) → IsPlain (text_in b)
unfolding text_in
text_plain b = plain_if (ltb MOST_TEXT (length b)) (Err g.TooLong) (ended_text b (before_nul b)) (λ e. cc e) (ended_plain b (before_nul b))

text_so : (F : Type 0) (call : Call) (r : Result (List ℕ) Gave) (whole : List ℕ → Verdict Standing) → IsPlain r → ((text : List ℕ) → Moves F call (whole text)) → Moves F call (with_text r whole)
text_so F call (Ok text) whole plain so = so text
text_so F call (Err answer) whole plain so = plain

-- the inner role is entered
entered_so : (F : Type 0) (start : Start) (call : Call) (before : Stage) (text bytes : List ℕ) → StoodAt F before → (F → length bytes ≤ 2048) → Moves F call (entered p9sk1 start before text bytes)
entered_so F start call before text bytes at_ short = ((at_, λ f. tt), (λ off. waits_good (p9sk1.needs (chosen_start p9sk1 start text) [])), short)

-- ---- the choice

abbrev AreShort : List (List ℕ) → Type 0
AreShort [] = Unit {0}
AreShort (dom ∷ doms) = (length dom ≤ 47) × AreShort doms

among_short : (start : Start) (ws : List (List ℕ)) → AreShort (eligible_among p9sk1.name start ws)
among_short start [] = tt
among_short start (word ∷ ws) = by_word (is_eligible p9sk1.name start word) refl (among_short start ws)
  where
    by_word : (b : Bool) → is_eligible p9sk1.name start word ≡ b → AreShort (eligible_among p9sk1.name start ws) → AreShort (map (λ w. dom_in p9sk1.name w) (cond b (word ∷ filter (λ w. is_eligible p9sk1.name start w) ws) (filter (λ w. is_eligible p9sk1.name start w) ws)))
    by_word true is more = (dom_short (dom_in p9sk1.name word) (and_parts (is_text (dom_in p9sk1.name word)) (is_dom (dom_in p9sk1.name word)) (eligible_dom p9sk1.name start word is)).1, more)
    by_word false is more = more

index_short : (doms : List (List ℕ)) (n : ℕ) → AreShort doms → length (slice_index_or doms n []) ≤ 47
index_short [] n all = omega arith
index_short (dom ∷ doms) zero all = all.0
index_short (dom ∷ doms) (suc n) all = index_short doms n all.1

chosen_short : (start : Start) (list : List ℕ) (place : ℕ) → length (dom_at p9sk1.name start list place) ≤ 47
unfolding eligible
chosen_short start list place = index_short (eligible_among p9sk1.name start (words (offers_text list))) place (among_short start (words (offers_text list)))

text_short : (start : Start) (list : List ℕ) (place : ℕ) → length (text_with_nul (choice_text p9sk1.name start list place)) ≤ 2048
text_short start list place =
    let dom = dom_at p9sk1.name start list place in
    omega (arith, length-append (choice_of p9sk1.name dom) (0 ∷ []), length-append p9sk1.name (codes " " ++ dom), length-append (codes " ") dom, chosen_short start list place)

given_choice : (F : Type 0) (start : Start) (list b : List ℕ) → Moves F (give b) (choice_came p9sk1.name (entered p9sk1 start) list b)
given_choice F start list b =
    text_so F (give b) (text_in b) _ (text_plain b)
    (λ text. tested_so (Stood F) F (give b) (choice_tests p9sk1.name list text) (entered p9sk1 start (ServerSecond list) text []) ((λ e. cc e), tt) (entered_so F start (give b) (ServerSecond list) text [] tt (λ f. omega arith)))

given_list : (F : Type 0) (start : Start) (b : List ℕ) → Moves F (give b) (list_came p9sk1.name start b)
given_list F start b =
    text_so F (give b) (text_in b) _ (text_plain b)
    (λ list. tested_so (Stood F) F (give b) (list_tests p9sk1.name start list) (goes (choosing (ClientPick list)) g.Wait []) ((λ e. cc e), tt) (tt, (λ off e. cc e), (λ f. omega arith)))

got_choice : (F : Type 0) (start : Start) (list : List ℕ) (place : ℕ) → Moves F get (choice_got p9sk1.name start (entered p9sk1 start) list place)
got_choice F start list place =
    let text = choice_text p9sk1.name start list place in
    either (Moves F get) (consents list) (goes (choosing (ClientThird list place)) g.Ok (text_with_nul text)) (entered p9sk1 start (ClientSecond list place) text (text_with_nul text))
    (tt, (λ off e. cc e), (λ f. text_short start list place))
    (entered_so F start get (ClientSecond list place) text (text_with_nul text) tt (λ f. text_short start list place))

given_consent : (F : Type 0) (start : Start) (list : List ℕ) (place : ℕ) (b : List ℕ) → Moves F (give b) (consent_came p9sk1.name start (entered p9sk1 start) list place b)
given_consent F start list place b =
    text_so F (give b) (text_in b) _ (text_plain b)
    (λ text. tested_so (Stood F) F (give b) (consent_tests text) (entered p9sk1 start (ClientThird list place) (choice_text p9sk1.name start list place) []) ((λ e. cc e), tt) (entered_so F start (give b) (ClientThird list place) (choice_text p9sk1.name start list place) [] tt (λ f. omega arith)))

-- ---- the inner role

passed_so : (F : Type 0) (start : Start) (before : Stage) (text : List ℕ) (talk : List Call) (call : Call) → (F → length start.word ≡ 8) → (F → FitsMove call) → Stood F (within before text talk) → Moves F call (passed_on p9sk1 start before text talk call)
passed_so F start before text talk call word fits so =
    ((so.0, λ f. (fits f, so.1 f)), (λ off. sk_good (chosen_start p9sk1 start text) talk call off), (λ f. sk_small (chosen_start p9sk1 start text) talk call (word f) (fits f, so.1 f)))

back_so : (F : Type 0) (start : Start) (before : Stage) (text : List ℕ) (talk : List Call) → (F → length start.word ≡ 8) → Stood F (within before text talk) → Moves F undone (taken_back p9sk1 start before text talk)
back_so F start before text talk word so =
    either (Moves F undone) (seeks_first p9sk1.needs (chosen_start p9sk1 start text) talk) (goes (choosing before) g.Ok []) (passed_on p9sk1 start before text talk undone)
    (so.0, (λ off e. cc e), (λ f. omega arith)) (passed_so F start before text talk undone word (λ f. tt) so)

-- ---- moves

move_good : (F : Type 0) (start : Start) (s : Standing) (call : Call) → (F → length start.word ≡ 8) → (F → FitsMove call) → Stood F s → Moves F call (move p9sk1 start s call)
move_good F start (choosing ServerOffers) (give b) word fits so = λ e. cc e
move_good F start (choosing ServerOffers) get word fits so = λ e. cc e
move_good F start (choosing ServerOffers) (found key' password') word fits so = λ e. cc e
move_good F start (choosing ServerOffers) (heard b) word fits so = λ e. cc e
move_good F start (choosing ServerOffers) unheard word fits so = λ e. cc e
move_good F start (choosing ServerOffers) roomless word fits so = λ e. cc e
move_good F start (choosing ServerOffers) undone word fits so = λ e. cc e
move_good F start (choosing ServerOffers) (offered []) word fits so = (tt, (λ off e. cc e), (λ f. omega arith))
move_good F start (choosing ServerOffers) (offered (x ∷ list')) word fits so = ((λ f. fits f), (λ off e. cc e), (λ f. omega arith))
move_good F start (choosing ServerOffers) (picked place') word fits so = λ e. cc e
move_good F start (choosing ServerKey) (give b) word fits so = λ e. cc e
move_good F start (choosing ServerKey) get word fits so = λ e. cc e
move_good F start (choosing ServerKey) (found key' password') word fits so = (tt, (λ off e. cc e), (λ f. omega arith))
move_good F start (choosing ServerKey) (heard b) word fits so = λ e. cc e
move_good F start (choosing ServerKey) unheard word fits so = λ e. cc e
move_good F start (choosing ServerKey) roomless word fits so = λ e. cc e
move_good F start (choosing ServerKey) undone word fits so = λ e. cc e
move_good F start (choosing ServerKey) (offered list') word fits so = λ e. cc e
move_good F start (choosing ServerKey) (picked place') word fits so = λ e. cc e
move_good F start (choosing (ServerFirst list)) (give b) word fits so = λ e. cc e
move_good F start (choosing (ServerFirst list)) get word fits so = (tt, (λ off e. cc e), (λ f. omega (arith, so f, length-append list (0 ∷ []))))
move_good F start (choosing (ServerFirst list)) (found key' password') word fits so = λ e. cc e
move_good F start (choosing (ServerFirst list)) (heard b) word fits so = λ e. cc e
move_good F start (choosing (ServerFirst list)) unheard word fits so = λ e. cc e
move_good F start (choosing (ServerFirst list)) roomless word fits so = λ e. cc e
move_good F start (choosing (ServerFirst list)) undone word fits so = λ e. cc e
move_good F start (choosing (ServerFirst list)) (offered list') word fits so = λ e. cc e
move_good F start (choosing (ServerFirst list)) (picked place') word fits so = λ e. cc e
move_good F start (choosing (ServerSecond list)) (give b) word fits so = given_choice F start list b
move_good F start (choosing (ServerSecond list)) get word fits so = λ e. cc e
move_good F start (choosing (ServerSecond list)) (found key' password') word fits so = λ e. cc e
move_good F start (choosing (ServerSecond list)) (heard b) word fits so = λ e. cc e
move_good F start (choosing (ServerSecond list)) unheard word fits so = λ e. cc e
move_good F start (choosing (ServerSecond list)) roomless word fits so = λ e. cc e
move_good F start (choosing (ServerSecond list)) undone word fits so = λ e. cc e
move_good F start (choosing (ServerSecond list)) (offered list') word fits so = λ e. cc e
move_good F start (choosing (ServerSecond list)) (picked place') word fits so = λ e. cc e
move_good F start (choosing ClientFirst) (give b) word fits so = given_list F start b
move_good F start (choosing ClientFirst) get word fits so = λ e. cc e
move_good F start (choosing ClientFirst) (found key' password') word fits so = λ e. cc e
move_good F start (choosing ClientFirst) (heard b) word fits so = λ e. cc e
move_good F start (choosing ClientFirst) unheard word fits so = λ e. cc e
move_good F start (choosing ClientFirst) roomless word fits so = λ e. cc e
move_good F start (choosing ClientFirst) undone word fits so = λ e. cc e
move_good F start (choosing ClientFirst) (offered list') word fits so = λ e. cc e
move_good F start (choosing ClientFirst) (picked place') word fits so = λ e. cc e
move_good F start (choosing (ClientPick list)) (give b) word fits so = λ e. cc e
move_good F start (choosing (ClientPick list)) get word fits so = λ e. cc e
move_good F start (choosing (ClientPick list)) (found key' password') word fits so = λ e. cc e
move_good F start (choosing (ClientPick list)) (heard b) word fits so = λ e. cc e
move_good F start (choosing (ClientPick list)) unheard word fits so = λ e. cc e
move_good F start (choosing (ClientPick list)) roomless word fits so = λ e. cc e
move_good F start (choosing (ClientPick list)) undone word fits so = (tt, (λ off e. cc e), (λ f. omega arith))
move_good F start (choosing (ClientPick list)) (offered list') word fits so = λ e. cc e
move_good F start (choosing (ClientPick list)) (picked place') word fits so = (tt, (λ off e. cc e), (λ f. omega arith))
move_good F start (choosing (ClientSecond list place)) (give b) word fits so = λ e. cc e
move_good F start (choosing (ClientSecond list place)) get word fits so = got_choice F start list place
move_good F start (choosing (ClientSecond list place)) (found key' password') word fits so = λ e. cc e
move_good F start (choosing (ClientSecond list place)) (heard b) word fits so = λ e. cc e
move_good F start (choosing (ClientSecond list place)) unheard word fits so = λ e. cc e
move_good F start (choosing (ClientSecond list place)) roomless word fits so = λ e. cc e
move_good F start (choosing (ClientSecond list place)) undone word fits so = λ e. cc e
move_good F start (choosing (ClientSecond list place)) (offered list') word fits so = λ e. cc e
move_good F start (choosing (ClientSecond list place)) (picked place') word fits so = λ e. cc e
move_good F start (choosing (ClientThird list place)) (give b) word fits so = given_consent F start list place b
move_good F start (choosing (ClientThird list place)) get word fits so = λ e. cc e
move_good F start (choosing (ClientThird list place)) (found key' password') word fits so = λ e. cc e
move_good F start (choosing (ClientThird list place)) (heard b) word fits so = λ e. cc e
move_good F start (choosing (ClientThird list place)) unheard word fits so = λ e. cc e
move_good F start (choosing (ClientThird list place)) roomless word fits so = λ e. cc e
move_good F start (choosing (ClientThird list place)) undone word fits so = λ e. cc e
move_good F start (choosing (ClientThird list place)) (offered list') word fits so = λ e. cc e
move_good F start (choosing (ClientThird list place)) (picked place') word fits so = λ e. cc e
move_good F start (within before text talk) (give b) word fits so = passed_so F start before text talk (give b) word fits so
move_good F start (within before text talk) get word fits so = passed_so F start before text talk get word fits so
move_good F start (within before text talk) (found key' password') word fits so = passed_so F start before text talk (found key' password') word fits so
move_good F start (within before text talk) (heard b) word fits so = passed_so F start before text talk (heard b) word fits so
move_good F start (within before text talk) unheard word fits so = passed_so F start before text talk unheard word fits so
move_good F start (within before text talk) roomless word fits so = passed_so F start before text talk roomless word fits so
move_good F start (within before text talk) undone word fits so = back_so F start before text talk word so
move_good F start (within before text talk) (offered list') word fits so = waits_good (p9sk1.needs (chosen_start p9sk1 start text) talk)
move_good F start (within before text talk) (picked place') word fits so = waits_good (p9sk1.needs (chosen_start p9sk1 start text) talk)

pub by_broken : (F : Type 0) (start : Start) (s : Standing) (broken : Option Cause) (call : Call) → (F → length start.word ≡ 8) → (F → FitsMove call) → Stood F s → Moves F call (unless_broken broken (move p9sk1 start s call))
by_broken F start s None call word fits so = move_good F start s call word fits so
by_broken F start s (Some cause) call word fits so = λ e. cc e
