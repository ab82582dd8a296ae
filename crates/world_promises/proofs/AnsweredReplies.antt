-- What an answer of the authentication server leaves to be taken: the reply to the read that waited for it.
use Rattle.std.proofs.Common.{◌≡◌, ℕ, List, [], ◌∷◌, ◌++◌, reverse, Some, refl, ap, ap₂, ◌∙◌}
use Rattle.std.specs.Prelude.{find}
use Rattle.std.specs.List.{filter_map}
use Rattle.nine.specs.declared.message.RMsg.{RMsg}
use Rattle.talks.specs.declared.answer.RpcAnswer.{RpcAnswer}
use Rattle.talks.specs.Calls.{Call}
use Rattle.agent_history.specs.Deeds.{Deed}
use Rattle.agent_history.specs.Replies.{replies, reply_in, settle_tag, taken, untaken, waits}
use Rattle.agent_history.specs.Conversations.{told}
use Rattle.driven_agents.specs.Idle.{IsCalm, read_of}
use Rattle.driven_agents.proofs.LeftLaws.{left_behind}
use Rattle.driven_agents.proofs.UnsettledLaws.{none_settled, waits_at}
use Rattle.world_promises.proofs.AnswerDeeds.{answered_by, untold_same}
use Rattle.world_promises.proofs.ToldReads.{one_replied}

pub answered_untaken : (number fid : ℕ) (call : Call) (answer : RpcAnswer) (done : List Deed) → IsCalm done → find (waits_at fid) (waits done 0) ≡ Some (read_of fid) → untaken done 0 ≡ []
    → untaken (answered_by number fid call answer done) 0 ≡ record { tag = fid; body = told 8192 answer } ∷ []
answered_untaken number fid call answer done calm waits_now none =
    let body = told 8192 answer in
    let reply : RMsg = record { tag = fid; body = body } in
    let ws = untold_same (λ d. waits d 0) number call answer done (λ line d. refl) (λ c d. refl) in
    let rs = untold_same (λ d. replies d 0) number call answer done (λ line d. refl) (λ c d. refl) in
    let n = untold_same (λ d. taken d 0) number call answer done (λ line d. refl) (λ c d. refl) in
    let one = ap (λ w. filter_map reply_in (settle_tag fid body w)) ws ∙ one_replied fid body (waits done 0) (none_settled done 0 calm.settled) calm.tagged waits_now in
    left_behind done (answered_by number fid call answer done) (reply ∷ []) none n (ap₂ (λ x r. reverse x ++ r) one rs)
