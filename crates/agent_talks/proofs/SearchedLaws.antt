-- What a conversation keeps by whatever is found for it, it keeps behind all that it meets.
use Rattle.std.proofs.Common.{◌≡◌, ℕ, List, ◌∷◌, Bool, true, false, cond, Option, refl, sym, subst}
use Rattle.attr_tuples.specs.declared.attr.Attr.{Attr}
use Rattle.key_lists.specs.Lists.{KeyList}
use Rattle.talks.specs.Requests.{RpcRequest}
use Rattle.talks.specs.Calls.{Call, CarriedOut, Found, Sought}
use Rattle.talks.specs.declared.said.Asking.{Asking}
use Rattle.talks.specs.Lines.{is_end}
use Rattle.talks.specs.Standings.{Standing, Waiting, finds, outcome_of, standing, then_stands}
use Rattle.conversations.specs.Shown.{is_seeking}
use Rattle.conversations.specs.Asking.{template_begun}
use Rattle.conversations.specs.Fits.{with_search, with_search_once}
use Rattle.agent_history.specs.Deeds.{Deed, keys_of}
use Rattle.agent_history.specs.Conversations as told
use Rattle.agent_history.specs.Conversations.{standing_of, talk}
use Rattle.agent_talks.specs.Speaks.{talked}
use Rattle.agent_talks.proofs.CarryLemmas.{talked_talk}
use Rattle.agent_talks.specs.Ahead.{template_coming}
use Rattle.agent_talks.proofs.EndedLaws.{stays_over}
use Rattle.agent_talks.proofs.TemplateLaws.{IsOf, carries_out, carries_template, its_own, keeps_template}

-- it stays by whatever is found
abbrev Keeps : (Standing → Type 0) → Type 0
Keeps P = (s : Standing) (came : Found) → P s → P (then_stands s s.phase (Sought came))

once_keeps : (P : Standing → Type 0) → Keeps P → (asking : Asking) (list : KeyList) (xs : List Call) → P (standing xs) → P (standing (with_search_once asking list xs))
once_keeps P found asking list xs h = by_seek (is_seeking (standing xs).phase)
  where
    by_seek : (b : Bool) → P (standing (cond b (Sought (finds (standing xs) asking list) ∷ xs) xs))
    by_seek true = found (standing xs) (finds (standing xs) asking list) h
    by_seek false = h

search_keeps : (P : Standing → Type 0) → Keeps P → (asking : Asking) (list : KeyList) (xs : List Call) → P (standing xs) → P (standing (with_search asking list xs))
search_keeps P found asking list xs h = by_start (standing xs).starting
  where
    more : (ys : List Call) → P (standing ys) → P (standing (with_search_once asking list ys))
    more ys h = once_keeps P found asking list ys h

    by_start : (b : Bool) → P (standing (cond b (with_search_once asking list (with_search_once asking list (with_search_once asking list xs))) (with_search_once asking list xs)))
    by_start true = more (with_search_once asking list (with_search_once asking list xs)) (more (with_search_once asking list xs) (more xs h))
    by_start false = more xs h

-- ---- behind what a conversation met

talked_keeps : (P : Standing → Type 0) → Keeps P → (done : List Deed) (conv : ℕ) (call : Call) → P (then_stands (standing_of done conv) (standing_of done conv).phase call) → P (standing_of (talked conv call done) conv)
talked_keeps P found done conv call h =
    subst (λ (xs : List Call). P (standing xs)) (sym (talked_talk done conv call)) (search_keeps P found (told.asking done) (keys_of done) (call ∷ talk done conv) h)

-- whoever was at his end is still
pub talked_over : (done : List Deed) (conv : ℕ) (call : Call) → is_end (outcome_of (standing_of done conv)) ≡ true → is_end (outcome_of (standing_of (talked conv call done) conv)) ≡ true
talked_over done conv call over =
    talked_keeps (λ s. is_end (outcome_of s) ≡ true) (λ s came h. stays_over s (Sought came) h) done conv call (stays_over (standing_of done conv) call over)

-- it is what it was begun as
pub talked_of : (done : List Deed) (conv : ℕ) (call : Call) → carries_out call ≡ false → IsOf (template_begun (standing_of done conv).begun) (standing_of (talked conv call done) conv).begun
talked_of done conv call e =
    let template : Option (List Attr) = template_begun (standing_of done conv).begun in
    talked_keeps (λ s. IsOf template s.begun) (λ s came h. keeps_template template s (Sought came) refl h) done conv call (keeps_template template (standing_of done conv) call e (its_own (standing_of done conv).begun))

-- and where its request is carried out, what this begins
pub carried_talk_of : (done : List Deed) (conv : ℕ) (word : List ℕ) (request : RpcRequest) → (standing_of done conv).phase ≡ Waiting request → IsOf (template_coming (standing_of done conv)) (standing_of (talked conv (CarriedOut word) done) conv).begun
carried_talk_of done conv word request e =
    let template : Option (List Attr) = template_coming (standing_of done conv) in
    talked_keeps (λ s. IsOf template s.begun) (λ s came h. keeps_template template s (Sought came) refl h) done conv (CarriedOut word) (carries_template (standing_of done conv) word request e)
