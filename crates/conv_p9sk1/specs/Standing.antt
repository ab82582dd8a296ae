-- When a machine stands for a start and a talk: it keeps the start, the progress to which the talk came, and the need
-- that stands then. Nothing else is kept.
use Rattle.std.specs.Prelude.{◌≡◌, ◌≢◌, List}
use Rattle.roles.specs.declared.answer.Gave.{Gave}
use Rattle.roles.specs.declared.answer.Gave.TheVariants as g
use Rattle.roles.specs.declared.need.Need.{Need}
use Rattle.roles.specs.declared.stage.Stage.{Stage}
use Rattle.roles.specs.Starts.{Start}
use Rattle.roles.specs.Talks.{Call, Progress, Verdict}
use Rattle.roles.specs.Courses.{answer_of, course, need_after, need_at, need_of, then_course, verdict}
use Rattle.conv_p9sk1.specs.declared.conv.SkConv.{SkConv}
use Rattle.conv_p9sk1.specs.declared.step.Step.{Step}
use Rattle.conv_p9sk1.specs.declared.step.Step.TheVariants.{Goes, Waits, Stays, Breaks}
use Rattle.conv_p9sk1.specs.Steps.{start_of}

-- how far a machine is
abbrev pub progress_of : SkConv → Progress Stage
progress_of c = record { stage = c.stage; broken = c.broken }

pub record Stands (c : SkConv) (start : Start) (talk : List Call) : Type 0 where
  pub begun : start_of c.own ≡ start
  pub reached : progress_of c ≡ course start talk
  pub needed : c.need ≡ need_after start talk

-- ---- what its methods do to it, for their proofs alone

-- what a call comes to in its present state
abbrev pub verdict_in : SkConv → Call → Verdict Stage
verdict_in c call = verdict (start_of c.own) (progress_of c) call

-- it has gone on as a verdict says
pub record Follows (old new : SkConv) (v : Verdict Stage) : Type 0 where
  pub own : start_of new.own ≡ start_of old.own
  pub progress : progress_of new ≡ then_course (progress_of old) v
  pub need : old.need ≡ need_at (start_of old.own) (progress_of old)
      → new.need ≡ need_at (start_of old.own) (progress_of new)

-- or there was no memory, and it is as before
pub record MayFollow (old new : SkConv) (given : Gave) (v : Verdict Stage) : Type 0 where
  pub unchanged : given ≡ g.NoMemory → new ≡ old
  pub answer : given ≢ g.NoMemory → given ≡ answer_of v
  pub follows : given ≢ g.NoMemory → Follows old new v

-- what the next stage of a step needs
abbrev pub Needs : Start → Step → Need → Type 0
Needs start (Goes next) need = need ≡ need_of start next
Needs start (Waits next) need = need ≡ need_of start next
Needs start (Stays answer) need = Unit {0}
Needs start (Breaks cause) need = Unit {0}
