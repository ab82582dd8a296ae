-- The bridge: every role and every session goes on with a run.
use Rattle.symbolic_runs.proofs.SecrecyLaws.{secrecy}
use Rattle.wire_histories.specs.Histories.{History}
use Rattle.wire_histories.specs.Legal.{IsLegal, Setting}
use Rattle.symbolic_runs.specs.Spellings.{Atoms}
use Rattle.clean_runs.specs.Clean.{IsClean}
use Rattle.clean_runs.specs.Labels.{Labelling}
use Rattle.clean_runs.specs.Runs.{run_of, setting_of}
use Rattle.clean_runs.specs.Statements.{IsBridged, IsSecret, OfEveryCleanHistory}
use Rattle.clean_runs.proofs.Bridge.{Case, bridged}
use Rattle.clean_runs.proofs.EveryRole.{every_role_is_lawful}
use Rattle.clean_runs.proofs.SessionLaw.{sessions_go}

-- what is known of a clean legal history
abbrev pub case_of : (history : History) (z : Setting) (atoms : Atoms) (l : Labelling) → IsLegal history z → IsClean history z atoms l → Case
case_of history z atoms l legal clean = record { history = history; z = z; atoms = atoms; l = l; legal = legal; clean = clean; lawful = λ name spoken is. every_role_is_lawful spoken }

pub all_bridged : OfEveryCleanHistory IsBridged
all_bridged history z atoms l legal clean = let c = case_of history z atoms l legal clean in bridged c (sessions_go c)

pub all_secret : OfEveryCleanHistory IsSecret
all_secret history z atoms l legal clean = secrecy (setting_of z l history) (run_of z l history) (all_bridged history z atoms l legal clean).run.by_the_tables
