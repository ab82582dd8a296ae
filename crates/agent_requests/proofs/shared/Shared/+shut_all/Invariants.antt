use Rattle.agent_requests.proofs.shared.Shared.+shut_all.Given as goal

abbrev pub decreases-shut_all : goal.decreases-shut_all
decreases-shut_all l = l.most
