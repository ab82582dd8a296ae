-- New nodes, and those of which a fid opened rpc.
use Rattle.std.proofs.Common.{◌≡◌, ℕ, [], ap, subst, ◌∙◌}
use Rattle.agent_history.specs.declared.event.Event.{Event}
use Rattle.agent_history.specs.Histories.{History}
use Rattle.agent_core.specs.declared.agent.Agent.{Agent}
use Rattle.agent_core.specs.Agents.{StandsFor}
use Rattle.std.specs.Prelude.{codes}
use Rattle.world_history.specs.Driving.{agrees, attaches, drive, new_node, opened, opens, walked, walks}

pub made : (one two three four : Event) (agent : Agent) → one ≡ agrees → two ≡ attaches → three ≡ walks 1 (codes "ctl") → four ≡ opens 1 → StandsFor (drive four (drive three (drive two (drive one [])))) agent → StandsFor new_node agent
made one two three four agent p q r s stands =
    let same : drive four (drive three (drive two (drive one []))) ≡ new_node =
    ap (λ (e : Event). drive e (drive three (drive two (drive one [])))) s ∙ ap (λ (e : Event). drive (opens 1) (drive e (drive two (drive one [])))) r
    ∙ ap (λ (e : Event). drive (opens 1) (drive (walks 1 (codes "ctl")) (drive e (drive one [])))) q ∙ ap (λ (e : Event). drive (opens 1) (drive (walks 1 (codes "ctl")) (drive attaches (drive e [])))) p in
    subst (λ (H : History). StandsFor H agent) same stands

pub opened_so : (fid : ℕ) (H : History) (event next : Event) (agent : Agent) → event ≡ walks fid (codes "rpc") → next ≡ opens fid → StandsFor (drive next (drive event H)) agent → StandsFor (opened fid H) agent
opened_so fid H event next agent is after stands =
    let same : drive next (drive event H) ≡ opened fid H = ap (λ (e : Event). drive next (drive e H)) is ∙ ap (λ (e : Event). drive e (walked fid H)) after in
    subst (λ (h : History). StandsFor h agent) same stands
