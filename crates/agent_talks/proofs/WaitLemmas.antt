-- Who waits for a reply behind deeds by which nobody is asked.
use Rattle.std.proofs.Common.{◌≡◌, ◌≤◌, ◌++◌, ℕ, List, [], ◌∷◌, Bool, true, false, cond, eqb, Some, None, refl, ap, ◌∙◌, arith}
use Rattle.talks.specs.Requests.{RpcRequest}
use Rattle.side_files.specs.declared.line.PromptKind.{PromptKind}
use Rattle.side_files.specs.declared.line.PromptKind.TheVariants as k
use Rattle.side_files.specs.Calls as side
use Rattle.talks.specs.Calls.{Call, Heard, Roomless, Stored, Took, Unheard}
use Rattle.talks.specs.Standings.{Phase, Resting, Waiting, Seeking, OnConfirm, OnNeedkey, OnServer, Kept, Standing, standing, then_stands}
use Rattle.file_tree.specs.declared.tree.Node.TheVariants.{Rpc}
use Rattle.conversations.specs.Asking.{asked_kind}
use Rattle.agent_history.specs.Deeds.{Deed, OfFids, OfLog, OfPrompts, OfTalk, Opened, fid_of, names}
use Rattle.agent_history.specs.Conversations.{opened_talks, speakers, talk}
use Rattle.agent_history.specs.SideFiles.{askers, prompts_of}
use Rattle.agent_talks.specs.Speaks.{is_among, stands}
use Rattle.agent_talks.proofs.StandLemmas.{among_last}
use Rattle.agent_talks.specs.Asking.{AllWait, Waits, is_asker, times}
use Rattle.agent_talks.proofs.TimesLemmas.{more_has, read_waits}

-- what a deed does by which no further question is asked, and which each request that waits for a reply stands
pub record NoMore (before after : List Deed) : Type 0 where
  pub fewer : (kind : PromptKind) (n : ℕ) → times n (askers after kind) ≤ times n (askers before kind)
  pub still : (kind : PromptKind) (n : ℕ) → is_asker after kind n ≡ true → Waits before kind n → Waits after kind n

pub no_more_wait : (before after : List Deed) → NoMore before after → AllWait before → AllWait after
no_more_wait before after d h = record {
  asked = λ kind n e. d.still kind n e (h.asked kind n (more_has (askers after kind) (askers before kind) n (d.fewer kind n) e));
  once = λ kind n. let fewer = d.fewer kind n in let once = h.once kind n in omega (arith, fewer, once);
}

-- where nobody asks, and all stand as before
pub same_wait : (before after : List Deed) → ((kind : PromptKind) → askers after kind ≡ askers before kind) → ((n : ℕ) → stands before n ≡ true → stands after n ≡ true) → ((n : ℕ) → talk after n ≡ talk before n) → AllWait before → AllWait after
same_wait before after asks stand talks h = no_more_wait before after (record {
  fewer = λ kind n. rw (asks kind) (omega arith);
  still = λ kind n e w. record { stands = stand n w.stands; asks = ap (λ (xs : List Call). asked_kind (standing xs).phase) (talks n) ∙ w.asks };
}) h

-- ---- conversations

among_more : (b : Bool) (done : List Deed) (conn fid n : ℕ) → is_among (speakers done) n ≡ true → is_among (cond b (speakers done ++ record { conv = opened_talks done; conn = conn; fid = fid } ∷ []) (speakers done)) n ≡ true
among_more true done conn fid n e = among_last (speakers done) (record { conv = opened_talks done; conn = conn; fid = fid }) n ∙ rw e refl
among_more false done conn fid n e = e

pub opened_wait : (done : List Deed) (conn fid mode : ℕ) → AllWait done → AllWait (OfFids conn (Opened fid mode) ∷ done)
opened_wait done conn fid mode h = same_wait done (OfFids conn (Opened fid mode) ∷ done) (λ kind. refl) (λ n e. among_more (names Rpc (fid_of done conn fid)) done conn fid n e) (λ n. refl) h

-- a call that leaves a request that waits for a reply as it is
abbrev pub Leaves : Call → Type 0
Leaves call = (s : Standing) (p : Phase) (kind : PromptKind) → s.phase ≡ p → asked_kind p ≡ Some kind → asked_kind (then_stands s p call).phase ≡ Some kind

not_asked : {A : Type 0} (kind : PromptKind) → None ≡ Some kind → A
not_asked kind e = absurd cc

pub stored_leaves : (request : RpcRequest) → Leaves (Stored request)
stored_leaves request s (OnConfirm serial) kind is e = ap asked_kind is ∙ e
stored_leaves request s OnNeedkey kind is e = ap asked_kind is ∙ e
stored_leaves request s Resting kind is e = not_asked kind e
stored_leaves request s (Waiting asked) kind is e = not_asked kind e
stored_leaves request s Seeking kind is e = not_asked kind e
stored_leaves request s OnServer kind is e = not_asked kind e
stored_leaves request s (Kept answer) kind is e = not_asked kind e

pub took_leaves : Leaves Took
took_leaves s (OnConfirm serial) kind is e = ap asked_kind is ∙ e
took_leaves s OnNeedkey kind is e = ap asked_kind is ∙ e
took_leaves s Resting kind is e = not_asked kind e
took_leaves s (Waiting asked) kind is e = not_asked kind e
took_leaves s Seeking kind is e = not_asked kind e
took_leaves s OnServer kind is e = not_asked kind e
took_leaves s (Kept answer) kind is e = not_asked kind e

pub heard_leaves : (bytes : List ℕ) → Leaves (Heard bytes)
heard_leaves bytes s (OnConfirm serial) kind is e = ap asked_kind is ∙ e
heard_leaves bytes s OnNeedkey kind is e = ap asked_kind is ∙ e
heard_leaves bytes s Resting kind is e = not_asked kind e
heard_leaves bytes s (Waiting asked) kind is e = not_asked kind e
heard_leaves bytes s Seeking kind is e = not_asked kind e
heard_leaves bytes s OnServer kind is e = not_asked kind e
heard_leaves bytes s (Kept answer) kind is e = not_asked kind e

pub unheard_leaves : Leaves Unheard
unheard_leaves s (OnConfirm serial) kind is e = ap asked_kind is ∙ e
unheard_leaves s OnNeedkey kind is e = ap asked_kind is ∙ e
unheard_leaves s Resting kind is e = not_asked kind e
unheard_leaves s (Waiting asked) kind is e = not_asked kind e
unheard_leaves s Seeking kind is e = not_asked kind e
unheard_leaves s OnServer kind is e = not_asked kind e
unheard_leaves s (Kept answer) kind is e = not_asked kind e

pub roomless_leaves : Leaves Roomless
roomless_leaves s (OnConfirm serial) kind is e = ap asked_kind is ∙ e
roomless_leaves s OnNeedkey kind is e = ap asked_kind is ∙ e
roomless_leaves s Resting kind is e = not_asked kind e
roomless_leaves s (Waiting asked) kind is e = not_asked kind e
roomless_leaves s Seeking kind is e = not_asked kind e
roomless_leaves s OnServer kind is e = not_asked kind e
roomless_leaves s (Kept answer) kind is e = not_asked kind e

pub met_wait : (done : List Deed) (conv : ℕ) (call : Call) → Leaves call → AllWait done → AllWait (OfTalk conv call ∷ done)
met_wait done conv call leaves h = no_more_wait done (OfTalk conv call ∷ done) (record {
  fewer = λ kind n. omega arith;
  still = λ kind n e w. record { stands = w.stands; asks = here (eqb conv n) n kind w.asks };
}) h
  where
    here : (b : Bool) (n : ℕ) (kind : PromptKind) → asked_kind (standing (talk done n)).phase ≡ Some kind → asked_kind (standing (cond b (call ∷ talk done n) (talk done n))).phase ≡ Some kind
    here true n kind e = leaves (standing (talk done n)) (standing (talk done n)).phase kind refl e
    here false n kind e = e

-- ---- lines

read_askers : (done : List Deed) (of kind : PromptKind) → askers (OfPrompts of side.Read ∷ done) kind ≡ askers done kind
read_askers done k.Confirm k.Confirm = read_waits (prompts_of done k.Confirm)
read_askers done k.Confirm k.Needkey = refl
read_askers done k.Needkey k.Confirm = refl
read_askers done k.Needkey k.Needkey = read_waits (prompts_of done k.Needkey)

pub read_wait : (done : List Deed) (kind : PromptKind) → AllWait done → AllWait (OfPrompts kind side.Read ∷ done)
read_wait done kind h = same_wait done (OfPrompts kind side.Read ∷ done) (λ of. read_askers done kind of) (λ n e. e) (λ n. refl) h

pub log_wait : (done : List Deed) (call : side.LogCall) → AllWait done → AllWait (OfLog call ∷ done)
log_wait done call h = same_wait done (OfLog call ∷ done) (λ of. refl) (λ n e. e) (λ n. refl) h
