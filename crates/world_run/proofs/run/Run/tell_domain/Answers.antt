use Rattle.std.proofs.Common.{[], sym, ◌∙◌}
use Rattle.world_history.specs.Acts.{Domain}
use Rattle.world_scripts.specs.Lines as l
use Rattle.world_run.proofs.LineLemmas.{fits, unfit}
use Rattle.world_history.proofs.TellLemmas.{dom_told}
use Rattle.world_run.proofs.RunLemmas.{done_as, line_judged}
use Rattle.world_run.proofs.NameLemmas.{domain_done}
use Rattle.world_run.proofs.run.Run.tell_domain.Goals as goal

pub returns-then-self-clause-carried : goal.returns-then-self-clause-carried
returns-then-self-clause-carried c = λ left before acts is h. unfit acts (Domain c.args.dom.now) (dom_told before acts c.args.dom.now is ∙ (sym h.asked ∙ c.if-self.true))

pub returns-clause-carried : goal.returns-clause-carried
returns-clause-carried c = λ left before acts is h.
    rw c.new.ensures.items (done_as left acts _ _ [] _ is (domain_done before left acts c.args.dom.now c.args.self.now
    (line_judged acts _ (l.Dom c.args.dom.now) (Domain c.args.dom.now) is (fits acts (Domain c.args.dom.now) (dom_told before acts c.args.dom.now is ∙ (sym h.asked ∙ c.if-self.false)))) h))
