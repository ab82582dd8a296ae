-- A key that was chosen stays, event by event, and a front goes on by events.
use Rattle.std.proofs.Common.{◌≡◌, ℕ, List, [], ◌∷◌, ◌++◌, Some, refl, sym, ap, ◌∙◌, append_assoc}
use Rattle.std.specs.Prelude.{Result}
use Rattle.wire_base.specs.declared.bytes.NoMemory.{NoMemory}
use Rattle.key_lists.specs.Lists.{KeyEntry}
use Rattle.turn_lock.specs.Fronts.{Front, events, made}
use Rattle.turn_lock.specs.Seats.{front, numbers}
use Rattle.agent_history.specs.declared.event.Event.{Event}
use Rattle.agent_history.specs.declared.event.StepAnswer.{StepAnswer}
use Rattle.agent_history.specs.Conversations.{chosen_at, conv_of}
use Rattle.agent_history.specs.Histories.{History, deeds}
use Rattle.agent_laws.proofs.ChosenLaws.{key_stays_chosen}
use Rattle.agent_laws.proofs.ConversationLaws.{all_searched}
use Rattle.agent_hub.specs.Submits.{HubSeat, IsSubmitted, entered}
use Rattle.agent_hub.specs.Resuming.{GoesOn, KeepsItsKey, StandsAllAlong}

stands_at_its_end : (before : History) (more : List Event) (conn fid conv : ℕ) → StandsAllAlong before more conn fid conv → conv_of (deeds (more ++ before)) conn fid ≡ Some conv
stands_at_its_end before [] conn fid conv stands = stands
stands_at_its_end before (event ∷ more) conn fid conv stands = stands.0

keeps_its_key : (before : History) (more : List Event) → KeepsItsKey before more
keeps_its_key before [] conn fid conv key stands chosen = chosen
keeps_its_key before (event ∷ more) conn fid conv key stands chosen =
    key_stays_chosen event (more ++ before) conn fid conv key (stands_at_its_end before more conn fid conv stands.1) stands.0
    (keeps_its_key before more conn fid conv key stands.1 chosen)

events_behind : (later earlier : Front Event) → events (later ++ earlier) ≡ events later ++ events earlier
events_behind [] earlier = refl
events_behind (entry ∷ later) earlier = ap (λ (es : List Event). entry.event ∷ es) (events_behind later earlier)

pub submits_go_on : (event : Event) (reply : Result StepAnswer NoMemory) (old new : List ℕ) (before after : HubSeat) → IsSubmitted event reply old new before after → GoesOn before after
submits_go_on event reply old new before after s =
    let mine = made (numbers before) (entered event reply) in
    let more = events mine ++ events s.others in
    record {
      more = more;
      goes_on = ap events s.goes_on ∙ events_behind mine (s.others ++ front before) ∙ ap (λ (es : List Event). events mine ++ es) (events_behind s.others (front before)) ∙ sym (append_assoc (events mine) (events s.others) (events (front before)));
      keeps = keeps_its_key (events (front before)) more;
      searches = all_searched (events (front after));
    }
