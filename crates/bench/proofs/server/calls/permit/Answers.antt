use Rattle.std.specs.List.{IsDistinct}
use Rattle.std.proofs.Common.{rules}
use Rattle.bench.proofs.server.calls.permit.Goals as goal

pub apply-requires : goal.apply-requires
unfolding IsDistinct
apply-requires c = search rules
