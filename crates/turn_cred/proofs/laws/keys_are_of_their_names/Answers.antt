use Rattle.std.proofs.Common.{ap}
use Rattle.std.specs.Option.{option_and_then, option_or}
use Rattle.turn_cred.specs.Prelude.{key_in, lasting, shared_key}
use Rattle.turn_cred.proofs.Names.{shared_is, shared_read}
use Rattle.turn_cred.proofs.laws.keys_are_of_their_names.Goals as goal

pub returns-clause-shared : goal.returns-clause-shared
returns-clause-shared c = λ secret name realm key. (shared_is secret name realm key, shared_read secret name realm key)

pub returns-clause-own : goal.returns-clause-own
unfolding key_in
returns-clause-own c = λ sources name realm bytes is. ap (λ o. option_or (lasting o) (option_and_then (λ s. shared_key s name realm) sources.secret)) is

pub returns-clause-others : goal.returns-clause-others
unfolding key_in
returns-clause-others c = λ users secret name realm is. ap (λ o. option_or (lasting o) (shared_key secret name realm)) is
