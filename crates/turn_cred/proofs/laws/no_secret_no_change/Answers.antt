use Rattle.std.proofs.Common.{◌≡◌, ℕ, List, refl, ap, ◌∙◌, false, Option, Some, None}
use Rattle.std.specs.FinMap as map
use Rattle.std.specs.Option.{option_map_or, option_or}
use Rattle.turn_cred.specs.Prelude.{has_expired, key_in, lasting}
use Rattle.turn_cred.specs.declared.key.Key.{Key}
use Rattle.turn_cred.proofs.laws.no_secret_no_change.Goals as goal

or_none : (o : Option Key) → option_or o None ≡ o
or_none None = refl
or_none (Some k) = refl

never : (t : ℕ) (o : Option (List ℕ)) → option_map_or (has_expired t) (lasting o) false ≡ false
never t None = refl
never t (Some bytes) = refl

pub returns-clause-keys : goal.returns-clause-keys
unfolding key_in
returns-clause-keys c = λ users name realm. or_none (lasting (map.get users name))

pub returns-clause-lasting : goal.returns-clause-lasting
unfolding key_in
returns-clause-lasting c = λ users name realm t. ap (λ o. option_map_or (has_expired t) o false) (or_none (lasting (map.get users name))) ∙ never t (map.get users name)
