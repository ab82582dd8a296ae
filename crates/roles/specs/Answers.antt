-- What a machine answers, want of memory aside, and what of its talk stays then. A machine `stands` for a start and a
-- talk; whatever these were, its calls are answered and go on as the role says.
use Rattle.std.specs.Prelude.{◌≡◌, ℕ, Bool, true, false, List, [], ◌∷◌, ◌++◌, Option, Some}
use Rattle.roles.specs.declared.answer.Gave.{Gave}
use Rattle.roles.specs.declared.answer.Gave.TheVariants as g
use Rattle.roles.specs.declared.answer.StartFault.{StartFault}
use Rattle.roles.specs.declared.answer.StartFault.TheVariants as fault
use Rattle.roles.specs.declared.need.Need.{Need}
use Rattle.roles.specs.declared.need.Need.TheVariants.{Nothing, Key, Offers, Pick, Exchange}
use Rattle.roles.specs.Starts.{Start}
use Rattle.roles.specs.Talks.{Call}

-- it is what is wanted, unless there was no memory
abbrev pub Comes : Gave → Gave → Type 0
Comes g.NoMemory wanted = Unit {0}
Comes given wanted = given ≡ wanted

-- the talk with a call that was answered so: a call for which there was no memory is no part of it
abbrev pub talk_with : Gave → Call → List Call → List Call
talk_with g.NoMemory call talk = talk
talk_with given call talk = call ∷ talk

-- the bytes that a call gets, where there was memory
abbrev pub bytes_with : Gave → List ℕ → List ℕ
bytes_with g.NoMemory bytes = []
bytes_with given bytes = bytes

-- the fault is what is told, unless there was no memory
abbrev pub IsTold : StartFault → Option StartFault → Type 0
IsTold fault.NoMemory told = Unit {0}
IsTold given told = told ≡ Some given

-- whatever the machine's talk was: the call is answered so
abbrev pub Tells : {M : Type 0} → (M → Start → List Call → Type 0) → (Start → List Call → Call → Gave) → M → Gave → Call
    → Type 0
Tells stands answers m given call =
    (start : Start) (talk : List Call) → stands m start talk → Comes given (answers start talk call)

-- and the machine stands for the talk with the call
abbrev pub Keeps : {M : Type 0} → (M → Start → List Call → Type 0) → M → M → Gave → Call → Type 0
Keeps stands old new given call =
    (start : Start) (talk : List Call) → stands old start talk → stands new start (talk_with given call talk)

-- the same of calls that take no memory
abbrev pub TellsAlways : {M : Type 0} → (M → Start → List Call → Type 0) → (Start → List Call → Call → Gave) → M → Gave
    → Call → Type 0
TellsAlways stands answers m given call =
    (start : Start) (talk : List Call) → stands m start talk → given ≡ answers start talk call

abbrev pub KeepsAlways : {M : Type 0} → (M → Start → List Call → Type 0) → M → M → Call → Type 0
KeepsAlways stands old new call =
    (start : Start) (talk : List Call) → stands old start talk → stands new start (call ∷ talk)

-- a key is needed
abbrev pub IsKey : Need → Type 0
IsKey Nothing = ⊥
IsKey (Key template) = Unit {0}
IsKey (Offers template) = ⊥
IsKey (Pick templates) = ⊥
IsKey (Exchange request shape) = ⊥

-- a list of offers is needed
abbrev pub IsOffers : Need → Type 0
IsOffers Nothing = ⊥
IsOffers (Key template) = ⊥
IsOffers (Offers template) = Unit {0}
IsOffers (Pick templates) = ⊥
IsOffers (Exchange request shape) = ⊥

-- one of some templates is to be picked
abbrev pub IsPick : Need → Type 0
IsPick Nothing = ⊥
IsPick (Key template) = ⊥
IsPick (Offers template) = ⊥
IsPick (Pick templates) = Unit {0}
IsPick (Exchange request shape) = ⊥

-- it is found among the keys of a moment: a key, a list of offers, or a pick
abbrev pub is_sought : Need → Bool
is_sought Nothing = false
is_sought (Key template) = true
is_sought (Offers template) = true
is_sought (Pick templates) = true
is_sought (Exchange request shape) = false

-- the authentication server is asked
abbrev pub IsExchange : Need → Type 0
IsExchange Nothing = ⊥
IsExchange (Key template) = ⊥
IsExchange (Offers template) = ⊥
IsExchange (Pick templates) = ⊥
IsExchange (Exchange request shape) = Unit {0}

-- where nothing was needed before the latest call, and a key since, the machine stands for the talk before that call
abbrev pub TakesBack : {M : Type 0} → (M → Start → List Call → Type 0) → (Start → List Call → Need) → M → M → Type 0
TakesBack stands needs old new = (start : Start) (talk : List Call) (call : Call) → stands old start (call ∷ talk)
    → needs start talk ≡ Nothing → IsKey (needs start (call ∷ talk)) → stands new start talk

-- what is got by the call stands behind what stood before
abbrev pub Puts : {M : Type 0} → (M → Start → List Call → Type 0) → (Start → List Call → Call → List ℕ) → M → Gave
    → Call → List ℕ → List ℕ → Type 0
Puts stands puts m given call old new =
    (start : Start) (talk : List Call) → stands m start talk → new ≡ old ++ bytes_with given (puts start talk call)

-- what is shown of a machine is what its talk makes
abbrev pub Shows : {M A : Type 0} → (M → Start → List Call → Type 0) → (Start → List Call → A) → M → A → Type 0
Shows stands made m shown = (start : Start) (talk : List Call) → stands m start talk → shown ≡ made start talk
