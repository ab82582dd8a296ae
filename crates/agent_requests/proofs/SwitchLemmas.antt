-- Lines of ctl switch the log at most once, all in all: an odd number of lines `debug` does what one does, and an even number
-- nothing.
use Rattle.std.proofs.Common.{◌≡◌, ℕ, List, [], ◌∷◌, Bool, true, false, not, refl, subst}
use Rattle.key_lists.specs.CtlLines.{CtlLine, OnKeys, Debug}
use Rattle.key_lists.specs.Edits.{KeyEdit}
use Rattle.agent_history.specs.Deeds.{Deed, OfKeys, Edited, Switched}
use Rattle.agent_history.specs.Requests.{lines_done}
use Rattle.key_ring.specs.Switches.{switched}
use Rattle.agent_requests.specs.Conversations.{Conversations}
use Rattle.agent_requests.specs.Logging.{Logs}
use Rattle.agent_requests.proofs.DeedLemmas.{edited_logs, swapped_logs, twice_logs}
use Rattle.agent_requests.specs.LineRequests.{switching}

-- an odd number of lines behind one more is an even number with it
switched_not : (lines : List CtlLine) (wanted : Bool) → switched lines (not wanted) ≡ not (switched lines wanted)
switched_not [] wanted = refl
switched_not (OnKeys edit ∷ more) wanted = switched_not more wanted
switched_not (Debug ∷ more) wanted = switched_not more (not wanted)

edited_switching : (b : Bool) (conn : ℕ) (edit : KeyEdit) (done : List Deed) (t : Conversations) → Logs (switching b conn done) t → Logs (switching b conn (OfKeys conn (Edited edit) ∷ done)) t
edited_switching true conn edit done t h = swapped_logs done t conn edit h
edited_switching false conn edit done t h = edited_logs done t conn edit h

debug_switching : (b : Bool) (conn : ℕ) (done : List Deed) (t : Conversations) → Logs (switching (not b) conn done) t → Logs (switching b conn (OfKeys conn Switched ∷ done)) t
debug_switching true conn done t h = twice_logs done t conn h
debug_switching false conn done t h = h

pub lines_logs : (lines : List CtlLine) (done : List Deed) (t : Conversations) (conn : ℕ) → Logs (switching (switched lines false) conn done) t → Logs (lines_done conn lines done) t
lines_logs [] done t conn h = h
lines_logs (OnKeys edit ∷ more) done t conn h = lines_logs more (OfKeys conn (Edited edit) ∷ done) t conn (edited_switching (switched more false) conn edit done t h)
lines_logs (Debug ∷ more) done t conn h =
    lines_logs more (OfKeys conn Switched ∷ done) t conn (debug_switching (switched more false) conn done t (subst (λ (b : Bool). Logs (switching b conn done) t) (switched_not more false) h))
