-- What the texts of answers tell: a message that was got, nothing, and whether what was given was taken.
use Rattle.std.proofs.Common.{◌≡◌, ℕ, List, [], ◌∷◌, true, false, not, Option, if◌then◌else◌, refl}
use Rattle.key_lists.specs.Lists.{KeyEntry}
use Rattle.roles.specs.declared.answer.Cause.{Cause}
use Rattle.roles.specs.declared.answer.Cause.TheVariants as c
use Rattle.roles.specs.declared.answer.Gave.{Gave}
use Rattle.roles.specs.declared.answer.Gave.TheVariants as g
use Rattle.roles.specs.declared.answer.PhaseWord.TheVariants as p
use Rattle.roles.specs.declared.answer.StartFault.{StartFault}
use Rattle.roles.specs.declared.answer.StartFault.TheVariants as f
use Rattle.attr_tuples.specs.declared.attr.Attr.{Attr}
use Rattle.talks.specs.RpcAnswers.{answer_text}
use Rattle.talks.specs.declared.answer.RpcAnswer.TheVariants as a
use Rattle.talks.specs.Answers.{cause_answer, move_answer, start_answer}
use Rattle.wire_histories.specs.Histories.{gave}
use Rattle.wire_histories.specs.Conversations.{is_given, is_taken}
use Rattle.world_history.specs.Talking.{leaves_untaken}
use Rattle.world_promises.specs.Telling.{told_acts}

-- ---- what tells nothing

cause_told : (key : Option KeyEntry) (cause : Cause) → told_acts (answer_text (cause_answer key cause)) ≡ []
unfolding answer_text
cause_told key c.WrongKind = refl
cause_told key c.WrongChallenge = refl
cause_told key c.WrongUser = refl
cause_told key c.NotOffered = refl
cause_told key c.ServerSaidNo = refl
cause_told key c.NoServer = refl
cause_told key c.NoRoom = refl
cause_told key c.BadKey = refl

pub move_told : (key : Option KeyEntry) (gave : Gave) → told_acts (answer_text (move_answer a.Ok key gave)) ≡ []
unfolding answer_text
move_told key g.Ok = refl
move_told key g.Wait = refl
move_told key (g.Phase p.AwaitsRead) = refl
move_told key (g.Phase p.AwaitsWrite) = refl
move_told key (g.Phase p.Broken) = refl
move_told key (g.TooSmall size) = refl
move_told key g.TooLong = refl
move_told key (g.Done true) = refl
move_told key (g.Done false) = refl
move_told key g.BadKey = refl
move_told key (g.Refused cause) = cause_told key cause
move_told key g.NoMemory = refl

pub ok_told : told_acts (answer_text a.Ok) ≡ []
unfolding answer_text
ok_told = refl

pub not_started_told : told_acts (answer_text a.NotStarted) ≡ []
unfolding answer_text
not_started_told = refl

pub already_told : told_acts (answer_text a.AlreadyStarted) ≡ []
unfolding answer_text
already_told = refl

pub bad_template_told : told_acts (answer_text a.BadTemplate) ≡ []
unfolding answer_text
bad_template_told = refl

pub fault_told : (fault : StartFault) → told_acts (answer_text (start_answer fault)) ≡ []
unfolding answer_text
fault_told f.SecretValue = refl
fault_told f.UnknownProto = refl
fault_told f.UnknownRole = refl
fault_told f.BadUser = refl
fault_told f.NoMemory = refl

pub denied_told : told_acts (answer_text a.Denied) ≡ []
unfolding answer_text
denied_told = refl

pub need_told : (template : List Attr) → told_acts (answer_text (a.NeedKey template)) ≡ []
unfolding answer_text
need_told template = refl

-- ---- a message

pub got_told : (key : Option KeyEntry) (b : List ℕ) (answer : Gave) → (answer ≡ g.Wait → ⊥) → told_acts (answer_text (move_answer (a.Got b) key answer)) ≡ (if is_given answer then gave b ∷ [] else [])
unfolding answer_text
got_told key b g.Ok at_once = refl
got_told key b g.Wait at_once = absurd (at_once refl)
got_told key b (g.Phase p.AwaitsRead) at_once = refl
got_told key b (g.Phase p.AwaitsWrite) at_once = refl
got_told key b (g.Phase p.Broken) at_once = refl
got_told key b (g.TooSmall size) at_once = refl
got_told key b g.TooLong at_once = refl
got_told key b (g.Done true) at_once = refl
got_told key b (g.Done false) at_once = refl
got_told key b g.BadKey at_once = refl
got_told key b (g.Refused cause) at_once = cause_told key cause
got_told key b g.NoMemory at_once = refl

-- ---- what was taken

cause_taken : (key : Option KeyEntry) (cause : Cause) → not (leaves_untaken (answer_text (cause_answer key cause))) ≡ true
unfolding answer_text leaves_untaken
cause_taken key c.WrongKind = refl
cause_taken key c.WrongChallenge = refl
cause_taken key c.WrongUser = refl
cause_taken key c.NotOffered = refl
cause_taken key c.ServerSaidNo = refl
cause_taken key c.NoServer = refl
cause_taken key c.NoRoom = refl
cause_taken key c.BadKey = refl

pub move_taken : (key : Option KeyEntry) (answer : Gave) → (answer ≡ g.NoMemory → ⊥) → not (leaves_untaken (answer_text (move_answer a.Ok key answer))) ≡ is_taken answer
unfolding answer_text leaves_untaken
move_taken key g.Ok room = refl
move_taken key g.Wait room = refl
move_taken key (g.Phase p.AwaitsRead) room = refl
move_taken key (g.Phase p.AwaitsWrite) room = refl
move_taken key (g.Phase p.Broken) room = refl
move_taken key (g.TooSmall size) room = refl
move_taken key g.TooLong room = refl
move_taken key (g.Done true) room = refl
move_taken key (g.Done false) room = refl
move_taken key g.BadKey room = refl
move_taken key (g.Refused cause) room = cause_taken key cause
move_taken key g.NoMemory room = absurd (room refl)

pub not_started_taken : not (leaves_untaken (answer_text a.NotStarted)) ≡ false
unfolding answer_text leaves_untaken
not_started_taken = refl

pub denied_taken : not (leaves_untaken (answer_text a.Denied)) ≡ false
unfolding answer_text leaves_untaken
denied_taken = refl

pub need_taken : (template : List Attr) → not (leaves_untaken (answer_text (a.NeedKey template))) ≡ false
unfolding answer_text leaves_untaken
need_taken template = refl
