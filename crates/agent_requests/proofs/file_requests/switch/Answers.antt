use Rattle.agent_requests.proofs.file_requests.switch.Goals as goal

pub returns-then-switches : goal.returns-then-switches
returns-then-switches c = λ done conn h. rw c.if-switches.true (c.switch.ensures.switched done conn h)
