-- How far a conversation is in choosing a protocol, as far as `is_choosing` of clean_runs asks, kept act by act. Of the
-- code alone; the law `choosing_is` says that both agree.
use Rattle.std.specs.Prelude.{◌≡◌, ℕ, List, [], ◌∷◌, Bool, true, false, if◌then◌else◌}
use Rattle.conv_p9any.specs.Offers.{consents}
use Rattle.symbolic_runs.specs.Moves.{Own, Role}
use Rattle.symbolic_runs.specs.Views.{tree}
use Rattle.wire_histories.specs.declared.step.Protocol.TheVariants.{P9any}
use Rattle.wire_histories.specs.declared.step.Role.{Role as Part}
use Rattle.wire_histories.specs.Histories as history
use Rattle.clean_runs.specs.Labels.{Labelled}
use Rattle.clean_runs.specs.Runs.{acts_in, moves_by}
use Rattle.trace_runs.specs.declared.conversation.Act.{Act}
use Rattle.trace_runs.specs.declared.conversation.Act.TheVariants.{Started, Gave, Took, Asked, Answered, Unanswered, Accepted, Failed}
use Rattle.trace_runs.specs.declared.conversation.Conversation.{Conversation}
use Rattle.trace_runs.specs.declared.conversation.Stage.{Stage}
use Rattle.trace_runs.specs.declared.conversation.Stage.TheVariants as stage
use Rattle.trace_runs.specs.Views.{newest_first, own_of, role_of}

abbrev pub stage_after : Stage → history.Act → Stage
stage_after stage.Unstarted (history.started P9any role word) = stage.Choosing
stage_after stage.Unstarted act = stage.Settled
stage_after stage.Choosing (history.took list) = if consents list then stage.Offered else stage.Answering
stage_after stage.Choosing act = stage.Answering
stage_after stage.Offered (history.gave choice) = stage.Consenting
stage_after stage.Offered act = stage.Settled
stage_after stage.Answering act = stage.Settled
stage_after stage.Consenting act = stage.Settled
stage_after stage.Settled act = stage.Settled

abbrev pub stage_of : List history.Act → Stage
stage_of [] = stage.Unstarted
stage_of (act ∷ before) = stage_after (stage_of before) act

abbrev pub chooses : Stage → Bool
chooses stage.Unstarted = false
chooses stage.Choosing = true
chooses stage.Offered = true
chooses stage.Answering = true
chooses stage.Consenting = true
chooses stage.Settled = false

-- what an act of the code says of a labelled act
abbrev pub Tells : Act → Labelled → Type 0
Tells (Started protocol) a = (role : Part) × (word : List ℕ) × (a.act ≡ history.started protocol role word)
Tells (Gave bytes) a = a.act ≡ history.gave bytes.now
Tells (Took bytes label) a = (a.act ≡ history.took bytes.now) × (a.label ≡ tree label.now)
Tells (Asked bytes) a = a.act ≡ history.asked bytes.now
Tells (Answered label) a = (bytes : List ℕ) × (a.act ≡ history.answered bytes) × (a.label ≡ tree label.now)
Tells Unanswered a = a.act ≡ history.unanswered
Tells Accepted a = (cuid : List ℕ) × (suid : List ℕ) × (a.act ≡ history.accepted cuid suid)
Tells Failed a = (cause : List ℕ) × (a.act ≡ history.failed cause)

-- a conversation of the code stands for these labelled acts, the newest first
pub record StandsFor (own : Own) (role : Role) (acts : List Labelled) (c : Conversation) : Type 0 where
  pub own_is : own_of c.own ≡ own
  pub role_is : role_of c.role ≡ role
  pub stage_is : c.stage ≡ stage_of (acts_in acts)
  pub moves_are : newest_first c.moves.items ≡ moves_by own role acts
