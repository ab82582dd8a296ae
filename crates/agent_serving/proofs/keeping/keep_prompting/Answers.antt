use Rattle.std.proofs.Common.{sym, ◌∙◌}
use Rattle.agent_serving.proofs.KeepLemmas.{keeping_none, keeps_on, keeps_to_end}
use Rattle.agent_serving.proofs.keeping.keep_prompting.Goals as goal

pub loop-init : goal.loop-init
loop-init g c = record { seat = c.requires; kept = keeping_none c.args.conn _ c.args.seat _ }

pub returns-then-is_last-clause-kept : goal.returns-then-is_last-clause-kept
returns-then-is_last-clause-kept g c =
    keeps_to_end c.args.conn _ c.args.seat _ c.loop.conn _ _ c.loop.seat c.serve_prompts-next.result.0 _ _ c.serve_prompts-next.result.1 c.loop.invariant.kept c.serve_prompts-next.ensures.prompts c.tell.ensures (sym c.is_last.ensures ∙ c.if-is_last.true)

pub loop-preserved : goal.loop-preserved
loop-preserved g c = record {
  seat = c.serve_prompts-next.ensures.seat;
  kept = rw c.conn_behind-conn.ensures
      (keeps_on c.args.conn _ c.args.seat _ c.loop.conn _ _ c.loop.seat c.serve_prompts-next.result.0 _ _ c.serve_prompts-next.result.1 c.loop.invariant.kept c.serve_prompts-next.ensures.prompts c.tell.ensures (sym c.is_last.ensures ∙ c.if-is_last.false));
}
