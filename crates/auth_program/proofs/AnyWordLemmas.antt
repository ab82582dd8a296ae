-- What an `authsrv` came to whose client is served whatever words are drawn.
use Rattle.std.proofs.Common.{List, ℕ}
use Rattle.auth_program.specs.Serving.{Outside, known_by}
use Rattle.auth_program.specs.AnyWords.{AreServedAnyhow, IsServableAllAnyhow}
use Rattle.auth_program.proofs.ServeLemmas.{TellsTables, served_by_tables}
use Rattle.auth_program.proofs.PosedLemmas.{served_anyhow}

abbrev tables_of : (dom : List ℕ) (before : Outside) → IsServableAllAnyhow dom before → TellsTables before
tables_of dom before s = record {
  keys = s.keys;
  speaks = s.speaks;
  keys_told = s.keys_told;
  speaks_told = s.speaks_told;
  few_keys = s.few_keys;
  few_speaks = s.few_speaks;
  good_keys = s.good_keys;
  good_speaks = s.good_speaks;
}

pub are_served : AreServedAnyhow
are_served dom before now s = served_by_tables dom before now (tables_of dom before s) (λ end e none. served_anyhow (known_by dom s.keys s.speaks) before.client now.client s.client end e none.0 none.1 none.2)
