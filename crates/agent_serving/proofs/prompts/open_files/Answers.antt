use Rattle.agent_serving.proofs.PromptLemmas.{opened_so}
use Rattle.agent_serving.proofs.prompts.open_files.Goals as goal

pub returns-clause-told : goal.returns-clause-told
returns-clause-told g c = λ chain.
    rw (c.opened_by.ensures, c.as_slice.ensures) (opened_so c.args.conn chain c.args.seat c.exchange-seat.result.0 c.exchange-seat.result.1 _ c.requires.numbered.0 c.requires.numbered.1 (rw (c.opening_requests-requests.ensures, c.new-heard.ensures) at c.exchange-seat.ensures.exchanged))
