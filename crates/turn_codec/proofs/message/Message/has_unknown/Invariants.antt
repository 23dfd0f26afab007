use Rattle.std.proofs.Common.{◌≡◌}
use Rattle.std.specs.List.{list_any}
use Rattle.turn_codec.specs.Prelude.{is_unknown}
use Rattle.turn_codec.proofs.message.Message.has_unknown.Given as goal

abbrev pub invariant-loop-kind : goal.invariant-loop-kind
invariant-loop-kind l = list_any (λ a. is_unknown a.kind) l.kind-iterator ≡ list_any (λ a. is_unknown a.kind) l.initial.kind-iterator
