use Rattle.wire_histories.proofs.NotedLaws.{noted_as_many, noted_keys, noted_secrets}
use Rattle.wire_histories.proofs.laws.what_is_noted_is_of_the_setting.Goals as goal

pub returns-clause-keys : goal.returns-clause-keys
returns-clause-keys c = noted_keys

pub returns-clause-secrets : goal.returns-clause-secrets
returns-clause-secrets c = noted_secrets

pub returns-clause-tables : goal.returns-clause-tables
returns-clause-tables c = noted_as_many
