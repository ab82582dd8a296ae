use Rattle.std.proofs.Common.{List, ℕ, Ok, Option, sym, subst}
use Rattle.side_files.specs.Lines.{Hands, found, if_handed}
use Rattle.agent_history.specs.SideFiles.{line_read, lines_in}
use Rattle.agent_requests.specs.Sharing.{Shares}
use Rattle.agent_requests.proofs.LineLemmas.{cut_hands, handed_shares}
use Rattle.agent_requests.proofs.ShareLemmas.{with_talks}
use Rattle.agent_requests.proofs.shared.Shared.hand_out_line.Goals as goal

pub returns-clause-answer : goal.returns-clause-answer
returns-clause-answer c =
    let a = c.args in
    λ done h. subst (λ (o : Option (List ℕ)). Hands (found a.count (lines_in done a.node)) (Ok o)) (sym c.cut_line.ensures) (cut_hands a.count (lines_in done a.node) c.in_ok-line.line (c.in_ok-line.ensures.answer done h.talks))

pub returns-clause-read : goal.returns-clause-read
returns-clause-read c =
    let a = c.args in
    λ done h. subst (λ (o : Option (List ℕ)). Shares (if_handed (Ok o) (line_read a.node done) done) (with_talks a.self.now c.hand_out_line.new.self)) (sym c.cut_line.ensures)
    (handed_shares done a.node a.self.now c.hand_out_line.new.self a.count c.in_ok-line.line h (c.in_ok-line.ensures.read done h.talks))
