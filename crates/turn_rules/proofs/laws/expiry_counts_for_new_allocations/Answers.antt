use Rattle.std.proofs.Common.{refl}
use Rattle.std.specs.FinMap as fin
use Rattle.std.proofs.Math.Bool.{and-false}
use Rattle.std.proofs.lemmas.Bool.{lt-leb}
use Rattle.turn_cred.specs.Prelude.{has_expired}
use Rattle.turn_history.proofs.Live.{some_is}
use Rattle.turn_rules.proofs.Repeats.{in_time}
use Rattle.turn_rules.proofs.laws.expiry_counts_for_new_allocations.Goals as goal

pub returns-clause-lasting : goal.returns-clause-lasting
returns-clause-lasting g = λ c f t m key is. rw is

pub returns-clause-before : goal.returns-clause-before
returns-clause-before g = λ c f t m key expiry is before. rw (is, lt-leb expiry t before)

pub returns-clause-others : goal.returns-clause-others
returns-clause-others g = λ c f t m key other. rw other (and-false (has_expired t key))

pub returns-clause-live : goal.returns-clause-live
returns-clause-live g = λ c f t m key is. let found = some_is (fin.get c.entries f) is in in_time c f t m key found.0 found.1

pub returns-clause-outcome : goal.returns-clause-outcome
returns-clause-outcome g = λ pairs s c f t m user key port is. rw is

pub returns-clause-port : goal.returns-clause-port
returns-clause-port g = λ pairs s c f t m user key is. rw is

pub returns-clause-expired : goal.returns-clause-expired
returns-clause-expired g = λ pairs s c f t m user key port is. (rw is refl, rw is refl)
