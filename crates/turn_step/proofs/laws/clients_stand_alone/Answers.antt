use Rattle.std.proofs.Common.{◌∙◌, sym}
use Rattle.turn_rules.proofs.Alone.{entry_same}
use Rattle.turn_step.proofs.Beginnings.{allocate_same, allocates_too, client_same, peer_same}
use Rattle.turn_step.proofs.laws.clients_stand_alone.Goals as goal

pub returns-clause-client : goal.returns-clause-client
returns-clause-client c = λ s h g t failed f bytes o events other. (
  client_same s h g t failed f bytes o events other,
  client_same s g h t failed f bytes o (sym events) other,
)

pub returns-clause-allocate : goal.returns-clause-allocate
returns-clause-allocate c = λ s h g t failed f bytes o events others. (
  allocate_same s h g t failed f bytes o events others,
  allocate_same s g h t failed f bytes o (sym events) (allocates_too s h g t f bytes others),
)

pub returns-clause-peer : goal.returns-clause-peer
returns-clause-peer c = λ s b h g t failed f e from bytes id o fits-h fits-g now-h now-g events here.
    let there = sym (entry_same h g t f events) ∙ here in (
      peer_same b h g t f e from bytes id o fits-h fits-g now-h now-g here there,
      peer_same b g h t f e from bytes id o fits-g fits-h now-g now-h there here,
    )
