use Rattle.agent_laws.proofs.RedactLaws.{redacted_alike, redacted_lines, redacted_reads, redacted_waits}
use Rattle.agent_laws.proofs.laws.reads_show_no_more_than_a_redaction.Goals as goal

pub returns : goal.returns
returns c = record { public = redacted_alike; reads = redacted_reads; waits = redacted_waits; told = redacted_lines }
