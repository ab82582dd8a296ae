use Rattle.std.proofs.Common.{[], refl, ◌∙◌}
use Rattle.wire_histories.specs.Histories.{started}
use Rattle.clean_runs.specs.Runs.{role_by}
use Rattle.trace_runs.specs.Network.{own_for}
use Rattle.trace_runs.proofs.network.begin.Goals as goal

pub returns : goal.returns
returns c = λ word label. c.in_ok-act.ensures.ok (own_for c.args.number c.args.holder.now) (role_by c.args.protocol c.args.part) []
    (record { act = started c.args.protocol c.args.part word; label = label }) (c.args.part, word, refl) (record {
      own_is = c.new-conversation.ensures.own_is ∙ c.in_ok-own.ensures;
      role_is = c.new-conversation.ensures.role_is ∙ c.role_by.ensures;
      stage_is = c.new-conversation.ensures.stage_is;
      moves_are = c.new-conversation.ensures.moves_are;
    })
