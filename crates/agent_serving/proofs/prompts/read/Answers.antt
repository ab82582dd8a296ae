use Rattle.prompters.specs.Requests.{read_of}
use Rattle.agent_serving.proofs.PromptLemmas.{spelled_as}
use Rattle.agent_serving.proofs.prompts.read.Goals as goal

pub returns-clause-told : goal.returns-clause-told
returns-clause-told g c = λ chain now first still d. c.make.ensures.told chain now first still (read_of c.args.file) (spelled_as c.from_slice-frame.result _ _ c.from_slice-frame.ensures c.read_request.ensures.spelled) d
