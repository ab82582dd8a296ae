-- When a machine stands for a start and a talk: what is kept of the choice is as far as the talk, and where a domain is
-- chosen the inner machine stands for the talk since. Of these words public contracts cite `Stands` alone.
use Rattle.std.specs.Prelude.{◌≡◌, ◌≢◌, ℕ, List, [], ◌++◌, Bool, false, Option, Some, None}
use Rattle.roles.specs.declared.answer.Cause.{Cause}
use Rattle.roles.specs.declared.answer.Gave.{Gave}
use Rattle.roles.specs.declared.answer.Gave.TheVariants as g
use Rattle.roles.specs.declared.need.Need.{Need}
use Rattle.roles.specs.Answers.{bytes_with}
use Rattle.roles.specs.Starts.{Start}
use Rattle.roles.specs.Talks.{Call, Progress, Verdict, get}
use Rattle.roles.specs.Courses.{answer_of, bytes_of, need_unless, then_course, unless_broken}
use Rattle.conv_p9any.specs.declared.chooser.Chooser.{Chooser}
use Rattle.conv_p9any.specs.declared.chooser.Got.{Got}
use Rattle.conv_p9any.specs.declared.chooser.Got.TheVariants.{Answered, Chosen}
use Rattle.conv_p9any.specs.declared.conv.AnyConv.{AnyConv}
use Rattle.conv_p9any.specs.declared.spoken.Spoken.{Spoken}
use Rattle.conv_p9any.specs.Courses.{Entry, begun, choice_need, choose, chosen_start, course, seeks_first, verdict, waits}
use Rattle.conv_p9any.specs.Inner.{Inner}
use Rattle.conv_p9any.specs.Steps.{GivesDom, start_of}
use Rattle.conv_p9any.specs.Talks.{Standing, choosing, within}
use Rattle.conv_p9any.specs.Texts.{text_with_nul}

-- ---- the inner role

-- what is kept of what it seeks first, after a call that was answered so
abbrev pub seeks_after : Gave → Bool → Bool
seeks_after g.NoMemory seeks = seeks
seeks_after given seeks = false

-- a machine of the inner role stands for a start and a talk of it
abbrev pub Speaks : {M : Type 0} → (M → Start → List Call → Type 0) → (Start → List Call → Need) → Spoken M → Start
    → List Call → Type 0
Speaks stands needs spoken start talk =
    stands spoken.machine start talk × (spoken.seeks_first ≡ seeks_first needs start talk)

-- ---- the choice

-- how far a choice is, and what it needs
abbrev pub progress_of : Chooser → Progress Standing
progress_of c = record { stage = choosing c.stage; broken = c.broken }

abbrev pub need_in : List ℕ → Chooser → Need
need_in name c = need_unless c.broken (choice_need name (start_of c.own) c.stage)

-- what a call comes to in its present state
abbrev pub verdict_in : List ℕ → Entry → Chooser → Call → Verdict Standing
verdict_in name enter c call = unless_broken c.broken (choose name (start_of c.own) enter c.stage call)

-- it has just begun
abbrev pub Begins : List ℕ → Start → Chooser → Type 0
Begins name start c = (start_of c.own ≡ start) × ((progress_of c ≡ begun start) × (c.need ≡ need_in name c))

-- it has gone on as a verdict says
pub record Follows (name : List ℕ) (old new : Chooser) (v : Verdict Standing) : Type 0 where
  pub own : start_of new.own ≡ start_of old.own
  pub progress : progress_of new ≡ then_course (progress_of old) v
  pub need : old.need ≡ need_in name old → new.need ≡ need_in name new

-- a call that chooses nothing was answered, and it has gone on, whatever follows a choice
pub record Takes (name : List ℕ) (old new : Chooser) (given : Gave) (call : Call) : Type 0 where
  pub answer : (enter : Entry) → given ≡ answer_of (verdict_in name enter old call)
  pub follows : (enter : Entry) → Follows name old new (verdict_in name enter old call)

-- a message was got, or a text was that chooses a domain and is to be got then
abbrev pub Gets : List ℕ → Chooser → Chooser → List ℕ → List ℕ → Got → Type 0
Gets name old new before after (Answered given) =
    (given ≢ g.NoMemory) ×
    (Takes name old new given get × ((enter : Entry) → after ≡ before ++ bytes_of (verdict_in name enter old get)))
Gets name old new before after (Chosen text) =
    (new ≡ old) × ((after ≡ before)
    × ((old.broken ≡ None)
    × (GivesDom name text
    × ((enter : Entry) → verdict_in name enter old get ≡ enter old.stage text (text_with_nul text)))))

-- ---- the machine

-- where no domain is chosen the choice is so far, and else the inner machine stands so
abbrev pub Reached : {M : Type 0} → (M → Start → List Call → Type 0) → Inner → Start → Chooser → Option (Spoken M)
    → Standing → Option Cause → Type 0
Reached stands inner start c None (choosing stage) broken = (c.stage ≡ stage) × (c.broken ≡ broken)
Reached stands inner start c None (within before text talk) broken = ⊥
Reached stands inner start c (Some spoken) (choosing stage) broken = ⊥
Reached stands inner start c (Some spoken) (within before text talk) broken =
    (c.stage ≡ before) × ((c.broken ≡ None)
    × ((broken ≡ None) × Speaks stands inner.needs spoken (chosen_start inner start text) talk))

-- a machine is so far
pub record IsAt {M : Type 0} (stands : M → Start → List Call → Type 0) (inner : Inner) (c : AnyConv M) (start : Start)
    (p : Progress Standing) : Type 0 where
  pub begun : start_of c.chooser.own ≡ start
  pub needed : c.chooser.need ≡ need_in inner.name c.chooser
  pub reached : Reached stands inner start c.chooser c.spoken p.stage p.broken

-- it stands for a start and a talk
abbrev pub Stands : {M : Type 0} → (M → Start → List Call → Type 0) → Inner → AnyConv M → Start → List Call → Type 0
Stands stands inner c start talk = IsAt stands inner c start (course inner start talk)

-- ---- what its methods do to it

-- wherever it was, a call was answered so, and it is now as far as the call leads
abbrev pub Leads : {M : Type 0} → (M → Start → List Call → Type 0) → Inner → AnyConv M → AnyConv M → Gave → Call
    → Type 0
Leads stands inner old new given call = (start : Start) (p : Progress Standing) → IsAt stands inner old start p
    → (given ≡ answer_of (verdict inner start p call))
    × IsAt stands inner new start (then_course p (verdict inner start p call))

-- or there was no memory, and it is as before
pub record MayFollow {M : Type 0} (stands : M → Start → List Call → Type 0) (inner : Inner) (old new : AnyConv M)
    (given : Gave) (call : Call) : Type 0 where
  pub unchanged : given ≡ g.NoMemory → new ≡ old
  pub follows : given ≢ g.NoMemory → Leads stands inner old new given call

-- the inner machine has begun, by the text of a choice
abbrev pub HasBegun : {M : Type 0} → (M → Start → List Call → Type 0) → Inner → Start → Option (Spoken M) → List ℕ
    → Type 0
HasBegun stands inner start None text = ⊥
HasBegun stands inner start (Some spoken) text = Speaks stands inner.needs spoken (chosen_start inner start text) []

pub record MayEnter {M : Type 0} (stands : M → Start → List Call → Type 0) (inner : Inner) (old new : AnyConv M)
    (given : Gave) (text : List ℕ) : Type 0 where
  pub unchanged : given ≡ g.NoMemory → new ≡ old
  pub same : given ≢ g.NoMemory → new.chooser ≡ old.chooser
  pub begun : given ≢ g.NoMemory → HasBegun stands inner (start_of old.chooser.own) new.spoken text
  pub answer : given ≢ g.NoMemory → given ≡ waits (inner.needs (chosen_start inner (start_of old.chooser.own) text) [])

-- what is got by the call stands behind what stood before, wherever it was
abbrev pub MayPut : {M : Type 0} → (M → Start → List Call → Type 0) → Inner → AnyConv M → Gave → Call → List ℕ → List ℕ
    → Type 0
MayPut stands inner old given call before after = (start : Start) (p : Progress Standing)
    → IsAt stands inner old start p → after ≡ before ++ bytes_with given (bytes_of (verdict inner start p call))

-- the inner machine, if there is one, seeks what it sought at its start
abbrev pub HasSought : {M : Type 0} → Option (Spoken M) → Bool → Type 0
HasSought None sought = sought ≡ false
HasSought (Some spoken) sought = sought ≡ spoken.seeks_first
