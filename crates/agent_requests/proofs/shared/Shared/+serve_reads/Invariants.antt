use Rattle.agent_requests.proofs.shared.Shared.+serve_reads.Given as goal

abbrev pub decreases-serve_reads : goal.decreases-serve_reads
decreases-serve_reads l = l.most
