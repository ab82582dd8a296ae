-- A labelling of a history: which key names are compromised, the key name of each conversation's key, and a tree for
-- each message that is taken. A step is told by its place, the number of steps before it; the starts of
-- conversations and the requests to the authentication server are numbered from 0.
use Rattle.std.specs.Prelude.{ℕ, ◌+◌, List, [], ◌∷◌, ◌++◌, length, map, Option, Some, None, if◌then◌else◌}
use Rattle.std.specs.Str.{bytes_eq}
use Rattle.symbolic_runs.specs.Trees.{Tree}
use Rattle.wire_histories.specs.declared.step.Step.{Step}
use Rattle.wire_histories.specs.declared.step.Step.TheVariants.{Start, Out, In, Ask, Heard, AsGot, AsGave}
use Rattle.wire_histories.specs.Histories.{History, Act, Deal, act_in, deal_in, reloads_in}

pub record Labelling : Type 0 where
  -- key names
  pub compromised : List (List ℕ)
  -- the key name of a conversation's key, by the conversation's name
  pub holder : List ℕ → List ℕ
  -- by the place of the step that takes
  pub label : ℕ → Tree

-- how many conversations started, and how many requests came
abbrev pub starts_in : History → ℕ
starts_in [] = 0
starts_in (Start conv protocol role word ∷ past) = starts_in past + 1
starts_in (step ∷ past) = starts_in past

abbrev pub requests_in : History → ℕ
requests_in [] = 0
requests_in (AsGot session bytes words ∷ past) = requests_in past + 1
requests_in (step ∷ past) = requests_in past

-- the number of the start of the conversation of a name
abbrev pub started_as : List ℕ → History → Option ℕ
started_as name [] = None
started_as name (Start conv protocol role word ∷ past) =
    if bytes_eq conv name then Some (starts_in past)
    else started_as name past
started_as name (step ∷ past) = started_as name past

-- the number of the first request of the session of a name
abbrev pub or_so : Option ℕ → Option ℕ → Option ℕ
or_so (Some number) other = Some number
or_so None other = other

abbrev pub opened_as : List ℕ → History → Option ℕ
opened_as name [] = None
opened_as name (AsGot session bytes words ∷ past) =
    or_so (opened_as name past) (if bytes_eq session name then Some (requests_in past) else None)
opened_as name (step ∷ past) = opened_as name past

abbrev pub or_zero : Option ℕ → ℕ
or_zero (Some number) = number
or_zero None = 0

-- what a conversation did, each act with the tree of its place
pub record Labelled : Type 0 where
  pub act : Act
  pub label : Tree

abbrev pub labelled : Labelling → List ℕ → History → List Labelled
labelled l name [] = []
labelled l name (step ∷ past) =
    map (λ act. record { act = act; label = l.label (length past) }) (act_in name step) ++ labelled l name past

-- what a session did, each deal with the tree of its place and the number that a request has there
pub record Dealt : Type 0 where
  pub deal : Deal
  pub number : ℕ
  pub label : Tree

abbrev pub dealt : Labelling → List ℕ → History → List Dealt
dealt l name [] = []
dealt l name (step ∷ past) = map (λ deal. record {
  deal = deal;
  number = requests_in past;
  label = l.label
      (length past);
}) (deal_in (reloads_in past) name step) ++ dealt l name past

-- the bytes that a step takes from the network, and those that it gives to it
abbrev pub taken : Step → Option (List ℕ)
taken (In conv bytes) = Some bytes
taken (Heard conv bytes) = Some bytes
taken (AsGot session bytes words) = Some bytes
taken step = None

abbrev pub given : Step → Option (List ℕ)
given (Out number conv bytes) = Some bytes
given (Ask number conv bytes) = Some bytes
given (AsGave number session bytes) = Some bytes
given step = None
