-- What lives on where what is kept of one connection was changed.
use Rattle.std.proofs.Common.{◌≡◌, ℕ, List, Bool, false, cond, eqb, Option, Some, subst}
use Rattle.std.specs.Ordering.{nat_cmp}
use Rattle.std.specs.BTreeMap.{is_at}
use Rattle.agent_history.specs.declared.event.Event.{Event}
use Rattle.agent_history.specs.Deeds.{Deed}
use Rattle.agent_history.specs.Histories.{does}
use Rattle.agent_requests.specs.declared.connection.Connection.{Connection}
use Rattle.agent_requests.specs.declared.shared.Shared.{Shared}
use Rattle.agent_core.specs.Events.{Known, Live, Lives, Serves, Stands, known_by}
use Rattle.agent_core.proofs.EventSteps.{all_stand}
use Rattle.agent_core.proofs.KnownSteps.{live_known, written}

-- what was found of one number serves after the event, and those of all others stand
pub lives_on : (event : Event) (done : List Deed) (conn : ℕ) (gone : ℕ → Bool) (old new : ℕ → Option Connection) (c d : Connection) (s t : Shared)
    → gone conn ≡ false → old conn ≡ Some c → ((q : ℕ) → new q ≡ cond (is_at (nat_cmp conn) q) (Some d) (old q))
    → ((q : ℕ) (k : Known) → eqb conn q ≡ false → Stands done q k → Stands (does done event) q k) → (Serves done conn c s → Serves (does done event) conn d t)
    → Lives done (λ q. known_by (gone q) (old q)) s → Lives (does done event) (λ q. known_by (gone q) (new q)) t
lives_on event done conn gone old new c d s t stays found updates others serves lives =
    let here : Stands done conn (Live c) = subst (λ (k : Known). Stands done conn k) (live_known (gone conn) (old conn) c stays found) (lives.connections conn) in
    let after = serves (record { stands = here; shares = lives.shares }) in
    record {
      shares = after.shares;
      connections = all_stand done (does done event) conn (λ q. known_by (gone q) (old q)) (λ q. known_by (gone q) (new q)) (Live d)
          (written conn gone old new d stays updates) after.stands (λ q. others q (known_by (gone q) (old q))) lives.connections;
    }
