-- An agent that is calm behind an event is idle behind the takes that follow it; and what takes leave as it was.
use Rattle.std.proofs.Common.{◌≡◌, ℕ, List, [], ◌∷◌, Bool, true, false, cond, eqb, Option, Some, refl, ◌∙◌}
use Rattle.std.specs.Prelude.{find, option_map}
use Rattle.agent_history.specs.declared.event.Event.{Event}
use Rattle.agent_history.specs.Deeds.{Deed, DropTaken, HandedOut, OfReplies, Taken, was_opened}
use Rattle.agent_history.specs.Conversations.{Question, Speaker, asker, hand_first, opened_talks, questions, speakers}
use Rattle.agent_history.specs.Histories.{History, deeds}
use Rattle.world_history.specs.Driving.{drive}
use Rattle.driven_agents.specs.Idle.{AreRead, IsCalm, IsIdle, Runs, SameSeats}
use Rattle.driven_agents.proofs.HandedLaws.{none_dropped, none_handed}
use Rattle.driven_agents.proofs.KeptLaws.{KeepsTaken, behind_takes}
use Rattle.driven_agents.proofs.TakenLaws.{none_left}

-- ---- calm

read_taken : (ss : List Speaker) (done : List Deed) → AreRead done ss → AreRead (OfReplies 0 Taken ∷ done) ss
read_taken [] done p = tt
read_taken (s ∷ ss) done p = (p.0, read_taken ss done p.1)

read_handed : (ss : List Speaker) (done : List Deed) → AreRead done ss → AreRead (HandedOut ∷ done) ss
read_handed [] done p = tt
read_handed (s ∷ ss) done p = (p.0, read_handed ss done p.1)

read_dropped : (ss : List Speaker) (done : List Deed) → AreRead done ss → AreRead (DropTaken ∷ done) ss
read_dropped [] done p = tt
read_dropped (s ∷ ss) done p = (p.0, read_dropped ss done p.1)

calm_taken : (done : List Deed) → IsCalm done → IsCalm (OfReplies 0 Taken ∷ done)
calm_taken done c = record { names = c.names; entered = c.entered; there = c.there; msize = c.msize; alone = c.alone; root = c.root; small = c.small; tagged = c.tagged; counted = c.counted; settled = c.settled; read = read_taken (speakers done) done c.read }

calm_handed : (done : List Deed) → IsCalm done → IsCalm (HandedOut ∷ done)
calm_handed done c = record { names = c.names; entered = c.entered; there = c.there; msize = c.msize; alone = c.alone; root = c.root; small = c.small; tagged = c.tagged; counted = c.counted; settled = c.settled; read = read_handed (speakers done) done c.read }

calm_dropped : (done : List Deed) → IsCalm done → IsCalm (DropTaken ∷ done)
calm_dropped done c = record { names = c.names; entered = c.entered; there = c.there; msize = c.msize; alone = c.alone; root = c.root; small = c.small; tagged = c.tagged; counted = c.counted; settled = c.settled; read = read_dropped (speakers done) done c.read }

calm_kept : KeepsTaken IsCalm
calm_kept = record { takes = record { takes = calm_taken }; asks = record { hands = calm_handed; drops = calm_dropped } }

pub idle_behind : (e : Event) (h : History) → IsCalm (deeds (e ∷ h)) → Runs (drive e h) → IsIdle (drive e h)
idle_behind e h calm runs = record {
  calm = behind_takes IsCalm calm_kept e h runs calm.entered calm;
  taken = none_left e h calm.there runs;
  handed = none_handed e h runs;
  dropped = none_dropped e h runs;
}

-- ---- conversations and their questions

seats_kept : (s : List Speaker) (n : ℕ) → KeepsTaken (λ done. (speakers done ≡ s) × (opened_talks done ≡ n))
seats_kept s n = record { takes = record { takes = λ done p. p }; asks = record { hands = λ done p. p; drops = λ done p. p } }

-- the same as behind the event
pub seats_behind : (e : Event) (h : History) → Runs (drive e h) → was_opened (deeds (e ∷ h)) 0 ≡ true → SameSeats (e ∷ h) (drive e h)
seats_behind e h runs open_ =
    let old = deeds (e ∷ h) in
    let so = behind_takes (λ done. (speakers done ≡ speakers old) × (opened_talks done ≡ opened_talks old)) (seats_kept (speakers old) (opened_talks old)) e h runs open_ (refl, refl) in
    record { speakers = so.0; opened = so.1 }

-- a question that is handed out keeps its number and its conversation
asker_in : List Question → ℕ → Option ℕ
asker_in qs call = option_map (λ q. q.conv) (find (λ q. eqb q.call call) qs)

hand_step : (h b : Bool) (q : Question) (qs : List Question) (call : ℕ) → eqb q.call call ≡ b → asker_in (hand_first qs) call ≡ asker_in qs call
    → option_map (λ q. q.conv) (find (λ q. eqb q.call call) (cond h (q ∷ hand_first qs) (record { call = q.call; conv = q.conv; handed = true } ∷ qs))) ≡ option_map (λ q. q.conv) (cond (eqb q.call call) (Some q) (find (λ q. eqb q.call call) qs))
unfolding asker_in
hand_step true true q qs call is same = rw is refl
hand_step true false q qs call is same = rw is same
hand_step false true q qs call is same = rw is refl
hand_step false false q qs call is same = rw is refl

handed_asker : (qs : List Question) (call : ℕ) → asker_in (hand_first qs) call ≡ asker_in qs call
unfolding asker_in
handed_asker [] call = refl
handed_asker (q ∷ qs) call = hand_step q.handed (eqb q.call call) q qs call refl (handed_asker qs call)

asker_handed : (done : List Deed) (call : ℕ) → asker (HandedOut ∷ done) call ≡ asker done call
unfolding asker_in
asker_handed done call = handed_asker (questions done) call

asker_kept : (call : ℕ) (o : Option ℕ) → KeepsTaken (λ done. asker done call ≡ o)
asker_kept call o = record { takes = record { takes = λ done p. p }; asks = record { hands = λ done p. asker_handed done call ∙ p; drops = λ done p. p } }

pub asker_behind : (e : Event) (h : History) (call : ℕ) → Runs (drive e h) → was_opened (deeds (e ∷ h)) 0 ≡ true → asker (deeds (drive e h)) call ≡ asker (deeds (e ∷ h)) call
asker_behind e h call runs open_ = let o = asker (deeds (e ∷ h)) call in behind_takes (λ done. asker done call ≡ o) (asker_kept call o) e h runs open_ refl
