-- From what is kept to what deeds say of an answer that is read.
use Rattle.std.proofs.Common.{◌≡◌, ℕ, List, ◌∷◌, length, true, Option, Some, None, refl, ap, ◌∙◌}
use Rattle.std.specs.Prelude.{option_map, IfSome}
use Rattle.talks.specs.declared.answer.RpcAnswer.{RpcAnswer}
use Rattle.talks.specs.Calls as calls
use Rattle.talks.specs.Standings.{Phase, Resting, Waiting, Seeking, OnConfirm, OnNeedkey, OnServer, Kept}
use Rattle.conversations.specs.Shown.{answer_in}
use Rattle.agent_history.specs.Deeds.{Deed, OfTalk}
use Rattle.agent_history.specs.Conversations.{fits, standing_of, told}
use Rattle.agent_talks.specs.declared.tell.Told.{Told}
use Rattle.agent_talks.specs.declared.tell.Told.TheVariants as t
use Rattle.agent_talks.specs.declared.held.Talks.{Talks}
use Rattle.agent_talks.specs.Kept.{questions_in}
use Rattle.agent_talks.specs.Speaks.{Speak, stands}
use Rattle.talks.specs.RpcAnswers.{answer_text}
use Rattle.std.proofs.lemmas.Bool.{leb-true}
use Rattle.agent_talks.specs.Tells.{IsShort, Tells, told_body}
use Rattle.agent_talks.specs.Changes.{Meets}
use Rattle.agent_talks.proofs.SpeakLemmas.{took_speak}

-- ---- it is told

is_handed : (count : ℕ) (answer : RpcAnswer) → fits count answer ≡ true → told_body (t.Answer answer) ≡ told count answer
is_handed count answer e = rw e refl

-- one that fits is handed out
handed_in : (p : Phase) (done : List Deed) (new : Talks) (conv count : ℕ) (result : Option Told) → Some true ≡ option_map (fits count) (answer_in p) → result ≡ option_map t.Answer (answer_in p) → Speak (OfTalk conv calls.Took ∷ done) new → Tells p done new conv count result
handed_in (Kept answer) done new conv count result e r h =
    let fit : fits count answer ≡ true = cc in
    (ap (option_map told_body) r ∙ ap (λ b. Some b) (is_handed count answer fit), rw fit h)
handed_in Resting done new conv count result e r h = absurd cc
handed_in (Waiting request) done new conv count result e r h = absurd cc
handed_in Seeking done new conv count result e r h = absurd cc
handed_in (OnConfirm serial) done new conv count result e r h = absurd cc
handed_in OnNeedkey done new conv count result e r h = absurd cc
handed_in OnServer done new conv count result e r h = absurd cc

pub handed_tells : (done : List Deed) (old new : Talks) (conv count : ℕ) (result : Option Told) → Some true ≡ option_map (fits count) (answer_in (standing_of done conv).phase) → Meets old new conv calls.Took → questions_in new ≡ questions_in old
    → result ≡ option_map t.Answer (answer_in (standing_of done conv).phase) → stands done conv ≡ true → Speak done old → Tells (standing_of done conv).phase done new conv count result
handed_tells done old new conv count result e m asks r there h = handed_in (standing_of done conv).phase done new conv count result e r (took_speak done old new conv m asks there h)

-- one that fits is short
pub handed_short : (count : ℕ) (o : Option RpcAnswer) (result : Option Told) → Some true ≡ option_map (fits count) o → result ≡ option_map t.Answer o → IfSome result (IsShort count)
handed_short count None result e r = absurd cc
handed_short count (Some answer) result e r =
    let fit : fits count answer ≡ true = cc in
    rw r (leb-true (length (answer_text answer)) count fit)
