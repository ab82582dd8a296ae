-- Fids are given up, and files of questions that nobody has open are closed.
use Rattle.std.proofs.Common.{◌≡◌, ◌≤◌, ◌-◌, ℕ, List, ◌∷◌, length, Bool, false, ◌&&◌, Option, Some, sym, subst, ◌∙◌, arith}
use Rattle.std.specs.Prelude.{is_some}
use Rattle.side_files.specs.declared.line.PromptKind.{PromptKind}
use Rattle.file_tree.specs.Tree.{is_exclusive}
use Rattle.file_tree.specs.declared.tree.Node.{Node}
use Rattle.side_files.specs.declared.line.PromptKind.TheVariants as k
use Rattle.side_files.specs.Calls as side
use Rattle.talks.specs.Calls as calls
use Rattle.side_files.specs.Questions.{first_conv, standing as waiting}
use Rattle.agent_history.specs.Deeds.{Deed, OfFids, OfConnection, OfPrompts, OfTalk, Clunked, Hung, Versioned, holder_of, was_hung}
use Rattle.agent_history.specs.SideFiles.{askers, file_of, prompts_of}
use Rattle.agent_history.specs.Conversations.{all_shut, all_withdrawn, closed, ended_by, shut, speakers}
use Rattle.mailboxes.specs.Deliveries.{Delivers}
use Rattle.agent_talks.specs.declared.standing.Conversations.{Conversations}
use Rattle.agent_talks.specs.Logging.{Logs}
use Rattle.agent_requests.specs.declared.shared.Shared.{Shared}
use Rattle.agent_requests.specs.Sharing.{Holds, Shares}
use Rattle.agent_requests.proofs.AskerLemmas.{askers_apart, few_askers, first_waits, shut_askers}
use Rattle.agent_requests.proofs.FidLemmas.{held_clunked, held_hung, held_versioned, live_clunked, live_hung, live_versioned}
use Rattle.agent_requests.proofs.OwnDeeds.{withdrawn_talks}
use Rattle.agent_requests.proofs.ShareLemmas.{Rest, hung_all, rest_of, rest_talks, shares_with, with_talks}

-- ---- a deed by which fids are given up

abbrev ended : Deed → List Deed → List Deed
ended deed done = all_withdrawn (ended_by deed done) done

pub withdrawn_rest : (done : List Deed) (deed : Deed) (s : Shared) → Shares done s → Rest (ended deed done) s
withdrawn_rest done deed s h = withdrawn_talks (λ now. Rest now s) (rest_talks s) (ended_by deed done) done (rest_of done s h)

pub withdrawn_hung : (done : List Deed) (deed : Deed) (conn : ℕ) → was_hung done conn ≡ false → was_hung (ended deed done) conn ≡ false
withdrawn_hung done deed conn live = withdrawn_talks (λ now. was_hung now conn ≡ false) (hung_all conn).talks (ended_by deed done) done live

-- the parts behind it
pub record Parts (before : List Deed) (deed : Deed) (s : Shared) : Type 0 where
  pub holders : Holds (deed ∷ before) s.holders
  pub mail : Delivers (deed ∷ before) s.mailboxes
  pub talks : Logs (deed ∷ before) s.talks

pub clunked_shares : (done : List Deed) (conn fid : ℕ) (s u : Shared) → u.ring ≡ s.ring → Shares done s → Parts (ended (OfFids conn (Clunked fid)) done) (OfFids conn (Clunked fid)) u → Shares (OfFids conn (Clunked fid) ∷ ended (OfFids conn (Clunked fid)) done) u
clunked_shares done conn fid s u ring h parts =
    let before : List Deed = ended (OfFids conn (Clunked fid)) done in
    let rest : Rest before s = withdrawn_rest done (OfFids conn (Clunked fid)) s h in
    record { ring = ring ∙ rest.ring; holders = parts.holders; mail = parts.mail; talks = parts.talks; live = live_clunked before conn fid rest.live; held = held_clunked before conn fid rest.held }

pub versioned_shares : (done : List Deed) (conn : ℕ) (msize : Option ℕ) (s u : Shared) → u.ring ≡ s.ring → Shares done s → Parts (ended (OfFids conn (Versioned msize)) done) (OfFids conn (Versioned msize)) u → Shares (OfFids conn (Versioned msize) ∷ ended (OfFids conn (Versioned msize)) done) u
versioned_shares done conn msize s u ring h parts =
    let before : List Deed = ended (OfFids conn (Versioned msize)) done in
    let rest : Rest before s = withdrawn_rest done (OfFids conn (Versioned msize)) s h in
    record { ring = ring ∙ rest.ring; holders = parts.holders; mail = parts.mail; talks = parts.talks; live = live_versioned before conn msize rest.live; held = held_versioned before conn msize rest.held }

pub hung_shares : (done : List Deed) (conn : ℕ) (s u : Shared) → u.ring ≡ s.ring → Shares done s → Parts (ended (OfConnection conn Hung) done) (OfConnection conn Hung) u → Shares (OfConnection conn Hung ∷ ended (OfConnection conn Hung) done) u
hung_shares done conn s u ring h parts =
    let before : List Deed = ended (OfConnection conn Hung) done in
    let rest : Rest before s = withdrawn_rest done (OfConnection conn Hung) s h in
    record { ring = ring ∙ rest.ring; holders = parts.holders; mail = parts.mail; talks = parts.talks; live = live_hung before conn rest.live; held = held_hung before conn rest.held }

-- ---- one that waits is shut

pub shut_shares : (done : List Deed) (kind : PromptKind) (conv : ℕ) (s : Shared) (t : Conversations) → Shares done s → Logs (OfTalk conv calls.Shut ∷ OfPrompts kind (side.Withdrawn conv) ∷ done) t → Shares (OfTalk conv calls.Shut ∷ OfPrompts kind (side.Withdrawn conv) ∷ done) (with_talks s t)
shut_shares done kind conv s t h logs =
    let talks = rest_talks s in
    let withdrawn : List Deed = OfPrompts kind (side.Withdrawn conv) ∷ done in
    shares_with (OfTalk conv calls.Shut ∷ withdrawn) s t (talks.talk conv calls.Shut withdrawn (talks.asked kind (side.Withdrawn conv) done (rest_of done s h))) logs

-- ---- all who wait are

-- the first was shut
pub shut_more : (done : List Deed) (kind : PromptKind) (most conv : ℕ) (s t u : Shared) → length (askers done kind) ≤ most → Shares done s → Some conv ≡ first_conv (waiting (prompts_of done kind)) → Shares (shut kind conv done) t
    → ((now : List Deed) → length (askers now kind) ≤ most - 1 → Shares now t → Shares (all_shut kind (askers now kind) now) u) → Shares (all_shut kind (askers done kind) done) u
shut_more done kind most conv s t u few h first shares more =
    let f = first_waits done kind conv first in
    let rest : List ℕ = f.0 in
    let left : askers (shut kind conv done) kind ≡ rest = shut_askers done kind conv rest f.1 (askers_apart done s.talks kind h.talks) in
    let fewer : length (askers (shut kind conv done) kind) ≤ most - 1 = rw left (omega (arith, subst (λ (ns : List ℕ). length ns ≤ most) f.1 few)) in
    subst (λ (ns : List ℕ). Shares (all_shut kind ns done) u) (sym f.1) (subst (λ (ns : List ℕ). Shares (all_shut kind ns (shut kind conv done)) u) left (more (shut kind conv done) fewer shares))

-- ---- a file is closed

-- at most as many wait as there are conversations
pub few_wait : (done : List Deed) (kind : PromptKind) (s : Shared) (most : ℕ) → most ≡ length (speakers done) → Shares done s → length (askers done kind) ≤ most
few_wait done kind s most is h = subst (λ (n : ℕ). length (askers done kind) ≤ n) (sym is) (few_askers done s.talks kind h.talks)

pub not_held : (done : List Deed) (kind : PromptKind) (node : Node) (has : Bool) → node ≡ file_of kind → has ≡ (is_exclusive node && is_some (holder_of done node)) → has ≡ false → is_some (holder_of done (file_of kind)) ≡ false
not_held done kind node has same is none = here kind (subst (λ (n : Node). (is_exclusive n && is_some (holder_of done n)) ≡ false) same (sym is ∙ none))
  where
    here : (at : PromptKind) → (is_exclusive (file_of at) && is_some (holder_of done (file_of at))) ≡ false → is_some (holder_of done (file_of at)) ≡ false
    here k.Confirm e = e
    here k.Needkey e = e

pub now_closed : (done : List Deed) (kind : PromptKind) (s : Shared) → is_some (holder_of done (file_of kind)) ≡ false → Shares (all_shut kind (askers done kind) done) s → Shares (closed kind done) s
now_closed done kind s is h = rw is h
