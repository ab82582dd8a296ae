-- What is answered to offers and picks that are needed.
use Rattle.std.proofs.Common.{◌≡◌, ℕ, List, Option, ap, ◌⊎◌, inl, inr}
use Rattle.key_lists.specs.Lists.{KeyEntry}
use Rattle.roles.specs.declared.answer.Gave.{Gave}
use Rattle.roles.specs.Answers.{IsOffers, IsPick}
use Rattle.roles.specs.Starts.{Start}
use Rattle.roles.specs.Talks.{Call, offered, picked}
use Rattle.talks.specs.declared.answer.RpcAnswer.TheVariants as a
use Rattle.talks.specs.Answers.{move_answer}
use Rattle.talks.specs.Protocols.{answers, needs}
use Rattle.talks.proofs.Laws.{IsWell, offered_well, picked_well}

well : (gave : Gave) (key : Option KeyEntry) → IsWell gave → move_answer a.Ok key gave ≡ a.Ok
well gave key (inl ok) = ap (λ (g : Gave). move_answer a.Ok key g) ok
well gave key (inr waits) = ap (λ (g : Gave). move_answer a.Ok key g) waits

pub offered_tells : (start : Start) (talk : List Call) (list : List ℕ) (key : Option KeyEntry) → IsOffers (needs start talk) → move_answer a.Ok key (answers start talk (offered list)) ≡ a.Ok
offered_tells start talk list key wanted = well (answers start talk (offered list)) key (offered_well start talk list wanted)

pub picked_tells : (start : Start) (talk : List Call) (place : ℕ) (key : Option KeyEntry) → IsPick (needs start talk) → move_answer a.Ok key (answers start talk (picked place)) ≡ a.Ok
picked_tells start talk place key wanted = well (answers start talk (picked place)) key (picked_well start talk place wanted)
