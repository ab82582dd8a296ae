use Rattle.std.proofs.Common.{refl, arith}
use Rattle.symbolic_runs.proofs.AttackLaws.{betrayed_speaker_is_run, speaker_under, unmatched}
use Rattle.symbolic_runs.specs.Attacks.{betrayed_speaker_past}
use Rattle.symbolic_runs.proofs.runs.a_betrayed_speaker_is_accepted_without_a_match.Goals as goal

pub returns-clause-run : goal.returns-clause-run
returns-clause-run c = record { short = omega arith; by_the_tables = betrayed_speaker_is_run }

pub returns-clause-true_server : goal.returns-clause-true_server
returns-clause-true_server c = refl

pub returns-clause-true_user : goal.returns-clause-true_user
returns-clause-true_user c = refl

pub returns-clause-under : goal.returns-clause-under
returns-clause-under c = speaker_under

pub returns-clause-unmatched : goal.returns-clause-unmatched
returns-clause-unmatched c = unmatched betrayed_speaker_past
