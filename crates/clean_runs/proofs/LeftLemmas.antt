-- What a call leaves, by how far the conversation has come and what the call comes to.
use Rattle.std.proofs.Common.{◌≡◌, List, [], ◌∷◌, ◌++◌, append_assoc, not, ◌&&◌, None, if◌then◌else◌, refl, sym, ap, ◌∙◌}
use Rattle.roles.specs.declared.need.Need.{Need}
use Rattle.roles.specs.declared.need.Outcome.{Outcome}
use Rattle.roles.specs.Answers.{is_sought}
use Rattle.roles.specs.declared.stage.Stage.{Stage as SkStage}
use Rattle.roles.specs.Courses.{answer_of, bytes_of, then_course}
use Rattle.roles.specs.Courses as sk
use Rattle.roles.specs.Starts.{Start}
use Rattle.roles.specs.Talks.{Call, Progress, Verdict, give, get, found, heard, unheard, roomless, undone, offered, picked}
use Rattle.conv_p9any.specs.Talks.{needs_any}
use Rattle.conv_challenge.specs.declared.stage.Stage.{Stage as MailStage}
use Rattle.conv_challenge.specs.Courses as mail
use Rattle.talks.specs.Protocols.{P9sk1, Mail}
use Rattle.wire_histories.specs.Histories.{Act, gave, took, answered, unanswered}
use Rattle.wire_histories.specs.Conversations.{Speaker, acts_by, acts_from, asks_by, end_by, if_found, is_asked, is_given, is_taken, speaks, waiting}

-- how far a conversation is that isn't broken
abbrev pub at : {S : Type 0} → S → Progress S
at stage = record { stage = stage; broken = None }

abbrev pub done_at : {S : Type 0} → (Progress S → Need) → Progress S → Verdict S → Act → Call → List Act
done_at needs p v first (give b) = if not (needs_any (needs p)) && (is_taken (answer_of v) && not (is_sought (needs (then_course p v)))) then took b ∷ [] else []
done_at needs p v first get = if is_given (answer_of v) then gave (bytes_of v) ∷ [] else []
done_at needs p v first (heard b) = if is_asked (needs p) then answered b ∷ [] else []
done_at needs p v first unheard = if is_asked (needs p) then unanswered ∷ [] else []
done_at needs p v first roomless = []
done_at needs p v first undone = []
done_at needs p v first call = if_found (is_sought (needs p)) (is_sought (needs (then_course p v))) first

abbrev pub left_at : {S : Type 0} → (Progress S → Need) → (Progress S → Outcome) → Progress S → Verdict S → Act → Call → List Act
left_at needs ends p v first call = end_by (ends p) (ends (then_course p v)) ++ (asks_by (needs p) (needs (then_course p v)) ++ done_at needs p v first call)

-- what the calls of a talk leave behind what stood before them
abbrev pub acts_above : Speaker → Act → List Call → List Act
acts_above s first [] = []
acts_above s first (call ∷ before) = acts_by s first before call ++ acts_above s first before

pub above_all : (s : Speaker) (first : Act) (talk : List Call) → acts_from s first talk ≡ acts_above s first talk ++ acts_from s first []
above_all s first [] = refl
above_all s first (call ∷ before) = ap (λ xs. acts_by s first before call ++ xs) (above_all s first before) ∙ sym (append_assoc (acts_by s first before call) (acts_above s first before) (acts_from s first []))

-- a mail conversation's call leaves this
mail_leaves : (start : Start) (first : Act) (before : List Call) (call : Call) → acts_by (speaks Mail start) first before call ≡ left_at (mail.need_at start) mail.outcome_at (mail.course start before) (mail.verdict start (mail.course start before) call) (waiting (speaks Mail start) first before) call
mail_leaves start first before (give b) = refl
mail_leaves start first before get = refl
mail_leaves start first before (found key password) = refl
mail_leaves start first before (heard b) = refl
mail_leaves start first before unheard = refl
mail_leaves start first before roomless = refl
mail_leaves start first before undone = refl
mail_leaves start first before (offered list) = refl
mail_leaves start first before (picked place) = refl

-- the same where it has come to a stage
pub mail_left : (start : Start) (first : Act) (before : List Call) (call : Call) (stage : MailStage) (v : Verdict MailStage) → mail.course start before ≡ at stage → mail.move start stage call ≡ v → acts_by (speaks Mail start) first before call ≡ left_at (mail.need_at start) mail.outcome_at (at stage) v (waiting (speaks Mail start) first before) call
mail_left start first before call stage v here moves =
    mail_leaves start first before call
    ∙ ap (λ p. left_at (mail.need_at start) mail.outcome_at p (mail.verdict start p call) (waiting (speaks Mail start) first before) call) here
    ∙ ap (λ v. left_at (mail.need_at start) mail.outcome_at (at stage) v (waiting (speaks Mail start) first before) call) moves

pub mail_goes : (start : Start) (before : List Call) (call : Call) (stage : MailStage) (v : Verdict MailStage) → mail.course start before ≡ at stage → mail.move start stage call ≡ v → mail.course start (call ∷ before) ≡ then_course (at stage) v
mail_goes start before call stage v here moves = ap (λ p. then_course p (mail.verdict start p call)) here ∙ ap (then_course (at stage)) moves

-- the same wherever it has come, broken or not
pub mail_left_from : (start : Start) (first : Act) (before : List Call) (call : Call) (p : Progress MailStage) (v : Verdict MailStage) → mail.course start before ≡ p → mail.verdict start p call ≡ v → acts_by (speaks Mail start) first before call ≡ left_at (mail.need_at start) mail.outcome_at p v (waiting (speaks Mail start) first before) call
mail_left_from start first before call p v here moves =
    mail_leaves start first before call
    ∙ ap (λ p. left_at (mail.need_at start) mail.outcome_at p (mail.verdict start p call) (waiting (speaks Mail start) first before) call) here
    ∙ ap (λ v. left_at (mail.need_at start) mail.outcome_at p v (waiting (speaks Mail start) first before) call) moves

pub mail_goes_from : (start : Start) (before : List Call) (call : Call) (p : Progress MailStage) (v : Verdict MailStage) → mail.course start before ≡ p → mail.verdict start p call ≡ v → mail.course start (call ∷ before) ≡ then_course p v
mail_goes_from start before call p v here moves = ap (λ p. then_course p (mail.verdict start p call)) here ∙ ap (then_course p) moves

-- ---- p9sk1

sk_leaves : (start : Start) (first : Act) (before : List Call) (call : Call) → acts_by (speaks P9sk1 start) first before call ≡ left_at (sk.need_at start) sk.outcome_at (sk.course start before) (sk.verdict start (sk.course start before) call) (waiting (speaks P9sk1 start) first before) call
sk_leaves start first before (give b) = refl
sk_leaves start first before get = refl
sk_leaves start first before (found key password) = refl
sk_leaves start first before (heard b) = refl
sk_leaves start first before unheard = refl
sk_leaves start first before roomless = refl
sk_leaves start first before undone = refl
sk_leaves start first before (offered list) = refl
sk_leaves start first before (picked place) = refl

pub sk_left : (start : Start) (first : Act) (before : List Call) (call : Call) (p : Progress SkStage) (v : Verdict SkStage) → sk.course start before ≡ p → sk.verdict start p call ≡ v → acts_by (speaks P9sk1 start) first before call ≡ left_at (sk.need_at start) sk.outcome_at p v (waiting (speaks P9sk1 start) first before) call
sk_left start first before call p v here moves =
    sk_leaves start first before call
    ∙ ap (λ p. left_at (sk.need_at start) sk.outcome_at p (sk.verdict start p call) (waiting (speaks P9sk1 start) first before) call) here
    ∙ ap (λ v. left_at (sk.need_at start) sk.outcome_at p v (waiting (speaks P9sk1 start) first before) call) moves

pub sk_goes : (start : Start) (before : List Call) (call : Call) (p : Progress SkStage) (v : Verdict SkStage) → sk.course start before ≡ p → sk.verdict start p call ≡ v → sk.course start (call ∷ before) ≡ then_course p v
sk_goes start before call p v here moves = ap (λ p. then_course p (sk.verdict start p call)) here ∙ ap (then_course p) moves
