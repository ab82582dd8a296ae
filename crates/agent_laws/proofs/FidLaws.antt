-- What a fid names stays until a deed that concerns it.
use Rattle.std.proofs.Common.{◌≡◌, ℕ, List, [], ◌∷◌, ◌++◌, true, false, not, refl, ap, ◌∙◌}
use Rattle.std.proofs.lemmas.Bool.{and_parts, not-true}
use Rattle.agent_history.specs.declared.event.Event.{Event}
use Rattle.agent_history.specs.Deeds.{Deed, FidDeed, OfFids, OfKeys, OfReplies, OfConnection, OfTalk, Raised, HandedOut, OfPrompts, OfLog, DropTaken, Swept, Halted, Versioned, Attached, Walked, Opened, Listed, Browsed, Clunked, Entered, Hung, fid_of}
use Rattle.agent_history.specs.Histories.{History, deeds}
use Rattle.agent_laws.specs.Laws.{concerns, none_concerns}

fids_same : (at : ℕ) (deed : FidDeed) (before : List Deed) (conn fid : ℕ) → concerns (OfFids at deed) conn fid ≡ false → fid_of (OfFids at deed ∷ before) conn fid ≡ fid_of before conn fid
fids_same at (Versioned msize) before conn fid e = rw e refl
fids_same at (Attached f) before conn fid e = rw e refl
fids_same at (Walked f node) before conn fid e = rw e refl
fids_same at (Opened f mode) before conn fid e = rw e refl
fids_same at (Listed f) before conn fid e = refl
fids_same at (Browsed f next) before conn fid e = refl
fids_same at (Clunked f) before conn fid e = rw e refl

fid_same : (deed : Deed) (before : List Deed) (conn fid : ℕ) → concerns deed conn fid ≡ false → fid_of (deed ∷ before) conn fid ≡ fid_of before conn fid
fid_same (OfFids at deed) before conn fid e = fids_same at deed before conn fid e
fid_same (OfKeys at deed) before conn fid e = refl
fid_same (OfReplies at deed) before conn fid e = refl
fid_same (OfConnection at Entered) before conn fid e = refl
fid_same (OfConnection at Hung) before conn fid e = rw e refl
fid_same (OfTalk conv call) before conn fid e = refl
fid_same (Raised conv) before conn fid e = refl
fid_same HandedOut before conn fid e = refl
fid_same DropTaken before conn fid e = refl
fid_same (OfPrompts about doing) before conn fid e = refl
fid_same (OfLog doing) before conn fid e = refl
fid_same Swept before conn fid e = refl
fid_same Halted before conn fid e = absurd cc

pub fid_stays : (more done : List Deed) (conn fid : ℕ) → none_concerns more conn fid ≡ true → fid_of (more ++ done) conn fid ≡ fid_of done conn fid
fid_stays [] done conn fid e = refl
fid_stays (deed ∷ more) done conn fid e =
    let parts = and_parts (not (concerns deed conn fid)) (none_concerns more conn fid) e in
    fid_same deed (more ++ done) conn fid (not-true (concerns deed conn fid) parts.0) ∙ fid_stays more done conn fid parts.1

pub event_leaves_fid : (e : Event) (H : History) (more : List Deed) (conn fid : ℕ) → deeds (e ∷ H) ≡ more ++ deeds H → none_concerns more conn fid ≡ true → fid_of (deeds (e ∷ H)) conn fid ≡ fid_of (deeds H) conn fid
event_leaves_fid e H more conn fid is none = ap (λ (done : List Deed). fid_of done conn fid) is ∙ fid_stays more (deeds H) conn fid none
