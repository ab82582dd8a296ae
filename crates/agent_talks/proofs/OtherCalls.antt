-- Deeds by which no conversation gives up a connection leave the connections as they are.
use Rattle.std.proofs.Common.{◌≡◌, ℕ, List, [], ◌∷◌, ◌++◌, filter, map, Bool, true, false, cond, ◌&&◌, not, refl, sym, ap, ◌∙◌, append-nil}
use Rattle.std.proofs.lemmas.Bool.{false≢true}
use Rattle.file_tree.specs.declared.tree.Node.{Node}
use Rattle.file_tree.specs.declared.tree.Node.TheVariants.{Rpc}
use Rattle.key_lists.specs.CtlLines.{CtlLine}
use Rattle.side_files.specs.Calls as side
use Rattle.side_files.specs.declared.line.PromptKind.{PromptKind}
use Rattle.agent_history.specs.Deeds.{Deed, FidDeed, KeyDeed, ReplyDeed, OfFids, OfKeys, OfReplies, OfConnection, OfPrompts, OfLog, DropTaken, Swept, Attached, Walked, Opened, Listed, Browsed, Entered, fid_of, names, was_opened}
use Rattle.agent_history.specs.Conversations.{Drop, Speaker, drop_of, drops, keeps, opened_talks, speakers, stands, talk}
use Rattle.agent_history.specs.Histories.{entered}
use Rattle.agent_history.specs.Replies.{has_settled, swept}
use Rattle.agent_history.specs.Requests.{line_deed, lines_done}
use Rattle.agent_talks.specs.Speaks.{is_among}
use Rattle.agent_talks.proofs.OtherLemmas as talks
use Rattle.agent_talks.proofs.StandLemmas.{among_last}
use Rattle.agent_talks.specs.Calls.{Calls, none_kept, taken}
use Rattle.agent_talks.specs.Keeps.{Converses, Keeps}
use Rattle.agent_talks.specs.Keeps.{KeepingTalks}

pub none_keeps : Keeps [] none_kept
none_keeps = record { kept = λ q. refl; drops = refl; alive = λ q e. absurd (false≢true e) }

-- ---- replies, keys, connections

replies_keeps : (done : List Deed) (c : Calls) (conn : ℕ) (deed : ReplyDeed) → Keeps done c → Keeps (OfReplies conn deed ∷ done) c
replies_keeps done c conn deed k = record { kept = k.kept; drops = k.drops; alive = λ q e. let was = k.alive q e in record { stands = was.stands; runs = was.runs } }

keys_keeps : (done : List Deed) (c : Calls) (conn : ℕ) (deed : KeyDeed) → Keeps done c → Keeps (OfKeys conn deed ∷ done) c
keys_keeps done c conn deed k = record { kept = k.kept; drops = k.drops; alive = λ q e. let was = k.alive q e in record { stands = was.stands; runs = was.runs } }

prompts_keeps : (done : List Deed) (c : Calls) (kind : PromptKind) (call : side.Call) → Keeps done c → Keeps (OfPrompts kind call ∷ done) c
prompts_keeps done c kind call k = record { kept = k.kept; drops = k.drops; alive = λ q e. let was = k.alive q e in record { stands = was.stands; runs = was.runs } }

log_keeps : (done : List Deed) (c : Calls) (call : side.LogCall) → Keeps done c → Keeps (OfLog call ∷ done) c
log_keeps done c call k = record { kept = k.kept; drops = k.drops; alive = λ q e. let was = k.alive q e in record { stands = was.stands; runs = was.runs } }

sweep_keeps : (done : List Deed) (c : Calls) → Keeps done c → Keeps (Swept ∷ done) c
sweep_keeps done c k = record { kept = k.kept; drops = k.drops; alive = λ q e. let was = k.alive q e in record { stands = was.stands; runs = was.runs } }

-- the oldest that is to be given up was
pub taken_keeps : (done : List Deed) (c : Calls) → Keeps done c → Keeps (DropTaken ∷ done) (taken c)
taken_keeps done c k = record { kept = k.kept; drops = rw k.drops refl; alive = λ q e. let was = k.alive q e in record { stands = was.stands; runs = was.runs } }

-- ---- all stand that stood

-- nobody gives one up
none_left : (gives : ℕ → Bool) → ((q : ℕ) → gives q ≡ false) → (done : List Deed) (xs : List Speaker) → map (λ s. drop_of done s.conv) (filter (λ s. gives s.conv) xs) ≡ []
none_left gives none done [] = refl
none_left gives none done (s ∷ xs) = rw (none s.conv) (none_left gives none done xs)

-- what a deed does by which none ends
record Stay (done after : List Deed) : Type 0 where
  pub kept : (q : ℕ) → keeps after q ≡ (keeps done q && stands after q)
  pub standing : (q : ℕ) → stands done q ≡ true → stands after q ≡ true
  pub talks : (q : ℕ) → talk after q ≡ talk done q
  pub given : drops after ≡ drops done ++ map (λ s. drop_of done s.conv) (filter (λ s. keeps done s.conv && not (keeps after s.conv)) (speakers done))

stay_keeps : (done after : List Deed) (c : Calls) → Stay done after → Keeps done c → Keeps after c
stay_keeps done after c s k = record {
  kept = λ q. k.kept q ∙ sym (same q);
  drops = k.drops ∙ (sym (append-nil (drops done)) ∙ (ap (λ (ds : List Drop). drops done ++ ds) (sym (none_left (λ q. keeps done q && not (keeps after q)) (λ q. ap (λ (b : Bool). keeps done q && not b) (same q) ∙ never (keeps done q)) done (speakers done))) ∙ sym s.given));
  alive = λ q e. let was = k.alive q (sym (same q) ∙ e) in record { stands = s.standing q was.stands; runs = rw (s.talks q) was.runs };
}
  where
    never : (b : Bool) → (b && not b) ≡ false
    never true = refl
    never false = refl

    by_keeping : (q : ℕ) (b : Bool) → keeps done q ≡ b → (b && stands after q) ≡ b
    by_keeping q true e = s.standing q (k.alive q e).stands
    by_keeping q false e = refl

    same : (q : ℕ) → keeps after q ≡ keeps done q
    same q = s.kept q ∙ by_keeping q (keeps done q) refl

fids_keeps : (done : List Deed) (c : Calls) (at : ℕ) (deed : FidDeed) → speakers (OfFids at deed ∷ done) ≡ speakers done → Keeps done c → Keeps (OfFids at deed ∷ done) c
fids_keeps done c at deed still k =
    stay_keeps done (OfFids at deed ∷ done) c
    (record { kept = λ q. refl; standing = λ q e. ap (λ (xs : List Speaker). is_among xs q) still ∙ e; talks = λ q. refl; given = refl }) k

enter_keeps : (done : List Deed) (c : Calls) (conn : ℕ) → Keeps done c → Keeps (OfConnection conn Entered ∷ done) c
enter_keeps done c conn k = stay_keeps done (OfConnection conn Entered ∷ done) c (record { kept = λ q. refl; standing = λ q e. e; talks = λ q. refl; given = refl }) k

pub opened_keeps : (done : List Deed) (c : Calls) (conn fid mode : ℕ) → Keeps done c → Keeps (OfFids conn (Opened fid mode) ∷ done) c
opened_keeps done c conn fid mode k =
    stay_keeps done (OfFids conn (Opened fid mode) ∷ done) c
    (record { kept = λ q. refl; standing = λ q e. more (names Rpc (fid_of done conn fid)) q e; talks = λ q. refl; given = refl }) k
  where
    more : (b : Bool) (q : ℕ) → is_among (speakers done) q ≡ true → is_among (cond b (speakers done ++ record { conv = opened_talks done; conn = conn; fid = fid } ∷ []) (speakers done)) q ≡ true
    more true q e = among_last (speakers done) (record { conv = opened_talks done; conn = conn; fid = fid }) q ∙ rw e refl
    more false q e = e

-- ---- the conversations with their connections

pub replies_converses : (done : List Deed) (k : KeepingTalks) (conn : ℕ) (deed : ReplyDeed) → Converses done k → Converses (OfReplies conn deed ∷ done) k
replies_converses done k conn deed h = record { speak = talks.replies_speak done k.talks conn deed h.speak; calls = replies_keeps done k.calls conn deed h.calls }

pub keys_converses : (done : List Deed) (k : KeepingTalks) (conn : ℕ) (deed : KeyDeed) → Converses done k → Converses (OfKeys conn deed ∷ done) k
keys_converses done k conn deed h = record { speak = talks.keys_speak done k.talks conn deed h.speak; calls = keys_keeps done k.calls conn deed h.calls }

pub prompts_converses : (done : List Deed) (k : KeepingTalks) (kind : PromptKind) (call : side.Call) → Converses done k → Converses (OfPrompts kind call ∷ done) k
prompts_converses done k kind call h = record { speak = talks.prompts_speak done k.talks kind call h.speak; calls = prompts_keeps done k.calls kind call h.calls }

pub log_converses : (done : List Deed) (k : KeepingTalks) (call : side.LogCall) → Converses done k → Converses (OfLog call ∷ done) k
log_converses done k call h = record { speak = talks.log_speak done k.talks call h.speak; calls = log_keeps done k.calls call h.calls }

-- the lines of a write of ctl
pub lines_converses : (lines : List CtlLine) (done : List Deed) (k : KeepingTalks) (conn : ℕ) → Converses done k → Converses (lines_done conn lines done) k
lines_converses [] done k conn h = h
lines_converses (said ∷ more) done k conn h = lines_converses more (OfKeys conn (line_deed said) ∷ done) k conn (keys_converses done k conn (line_deed said) h)

pub sweep_converses : (done : List Deed) (k : KeepingTalks) → Converses done k → Converses (Swept ∷ done) k
sweep_converses done k h = record { speak = talks.sweep_speak done k.talks h.speak; calls = sweep_keeps done k.calls h.calls }

pub enter_converses : (done : List Deed) (k : KeepingTalks) (conn : ℕ) → Converses done k → Converses (OfConnection conn Entered ∷ done) k
enter_converses done k conn h = record { speak = talks.enter_speak done k.talks conn h.speak; calls = enter_keeps done k.calls conn h.calls }

-- where one of two lists of deeds is meant
either : (b : Bool) (done after : List Deed) (k : KeepingTalks) → Converses done k → Converses after k → Converses (cond b after done) k
either true done after k h now = now
either false done after k h now = h

pub swept_converses : (done : List Deed) (k : KeepingTalks) → Converses done k → Converses (swept done) k
swept_converses done k h = either (has_settled done) done (Swept ∷ done) k h (sweep_converses done k h)

pub entered_converses : (done : List Deed) (k : KeepingTalks) (conn : ℕ) → Converses done k → Converses (entered conn done) k
entered_converses done k conn h = either (was_opened done conn) (OfConnection conn Entered ∷ done) done k (enter_converses done k conn h) h

-- ---- fids

pub attached_converses : (done : List Deed) (k : KeepingTalks) (conn fid : ℕ) → Converses done k → Converses (OfFids conn (Attached fid) ∷ done) k
attached_converses done k conn fid h = record { speak = talks.attached_speak done k.talks conn fid h.speak; calls = fids_keeps done k.calls conn (Attached fid) refl h.calls }

pub walked_converses : (done : List Deed) (k : KeepingTalks) (conn fid : ℕ) (node : Node) → Converses done k → Converses (OfFids conn (Walked fid node) ∷ done) k
walked_converses done k conn fid node h = record { speak = talks.walked_speak done k.talks conn fid node h.speak; calls = fids_keeps done k.calls conn (Walked fid node) refl h.calls }

pub listed_converses : (done : List Deed) (k : KeepingTalks) (conn fid : ℕ) → Converses done k → Converses (OfFids conn (Listed fid) ∷ done) k
listed_converses done k conn fid h = record { speak = talks.listed_speak done k.talks conn fid h.speak; calls = fids_keeps done k.calls conn (Listed fid) refl h.calls }

pub browsed_converses : (done : List Deed) (k : KeepingTalks) (conn fid next : ℕ) → Converses done k → Converses (OfFids conn (Browsed fid next) ∷ done) k
browsed_converses done k conn fid next h = record { speak = talks.browsed_speak done k.talks conn fid next h.speak; calls = fids_keeps done k.calls conn (Browsed fid next) refl h.calls }

-- one that doesn't name rpc was opened
pub elsewhere_converses : (done : List Deed) (k : KeepingTalks) (conn fid mode : ℕ) → names Rpc (fid_of done conn fid) ≡ false → Converses done k → Converses (OfFids conn (Opened fid mode) ∷ done) k
elsewhere_converses done k conn fid mode e h = record { speak = talks.elsewhere_speak done k.talks conn fid mode e h.speak; calls = opened_keeps done k.calls conn fid mode h.calls }
