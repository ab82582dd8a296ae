use Rattle.std.proofs.Common.{[], sym, ap, ◌∙◌}
use Rattle.std.specs.Map.{lookup}
use Rattle.std.specs.Str.{bytes_eq}
use Rattle.world_history.specs.Acts.{Opened, agent_of}
use Rattle.world_history.specs.Driving.{refuses_open}
use Rattle.world_history.specs.Worlds.{history}
use Rattle.world_scripts.specs.Lines as l
use Rattle.world_run.proofs.LineLemmas.{name_taken, open_done, open_refused, opener_unknown}
use Rattle.world_run.specs.Standing.{nodes_by}
use Rattle.world_run.proofs.RunLemmas.{done_as, line_judged}
use Rattle.world_run.proofs.NameLemmas.{fid_known, name_free, name_known, opened_done, opened_free}
use Rattle.world_run.proofs.run.Run.open.Goals as goal

pub returns-then-not-has-clause-carried : goal.returns-then-not-has-clause-carried
returns-then-not-has-clause-carried c = λ left before acts is h. opener_unknown acts c.args.node.now c.args.conv.now (sym (c.if-not-has.ensures (nodes_by acts) h.nodes))

pub returns-then-was_opened-clause-carried : goal.returns-then-was_opened-clause-carried
returns-then-was_opened-clause-carried c = λ left before acts is h.
    name_taken acts c.args.node.now c.args.conv.now (sym (c.if-not-has.ensures (nodes_by acts) h.nodes))
    (name_known acts c.args.conv.now (lookup (bytes_eq c.args.conv.now) c.args.self.now.talks) (h.talks c.args.conv.now) (sym c.if-was_opened.ensures))

pub returns-in-None-clause-carried : goal.returns-in-None-clause-carried
returns-in-None-clause-carried c = λ left before acts is h.
    let made = sym (c.if-not-has.ensures (nodes_by acts) h.nodes) in
    open_refused acts c.args.node.now c.args.conv.now made
    (name_free acts c.args.conv.now (lookup (bytes_eq c.args.conv.now) c.args.self.now.talks) (h.talks c.args.conv.now) (sym c.if-was_opened.ensures))
    (ap (λ f. refuses_open f (history acts (agent_of acts c.args.node.now))) (sym (fid_known acts c.args.node.now)) ∙ (rw c.in-None.is at c.in_ok-fid.ensures) (nodes_by acts) h.nodes made)

pub returns-in_ok-open-in-Some-clause-carried : goal.returns-in_ok-open-in-Some-clause-carried
returns-in_ok-open-in-Some-clause-carried c = λ left before acts is h.
    let made = sym (c.if-not-has.ensures (nodes_by acts) h.nodes) in
    let none = sym c.if-was_opened.ensures in
    let o = (rw c.in-Some.is at c.in_ok-fid.ensures) (nodes_by acts) h.nodes made in
    rw c.new.ensures.items (done_as left acts _ _ [] _ is (opened_done before left acts c.args.node.now c.args.conv.now c.args.self.now c.in-Some.fid c.open.new.self c.open-in-Some.new.self
    (line_judged acts _ (l.Open c.args.node.now c.args.conv.now) (Opened c.args.node.now c.args.conv.now) is
    (open_done acts c.args.node.now c.args.conv.now made (name_free acts c.args.conv.now (lookup (bytes_eq c.args.conv.now) c.args.self.now.talks) (h.talks c.args.conv.now) none)
    (ap (λ f. refuses_open f (history acts (agent_of acts c.args.node.now))) (sym (fid_known acts c.args.node.now)) ∙ o.lets)))
    h made (opened_free acts c.args.conv.now (lookup (bytes_eq c.args.conv.now) c.args.self.now.talks) (h.talks c.args.conv.now) none) o.least o.nodes c.in_ok-open-in-Some.ensures))
