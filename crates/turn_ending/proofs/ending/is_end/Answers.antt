use Rattle.std.proofs.Common.{◌∙◌, sym, eqb-true}
use Rattle.turn_ending.proofs.Deletions.{asks_for_zero}
use Rattle.turn_ending.proofs.ending.is_end.Goals as goal

pub returns-then-is_refresh : goal.returns-then-is_refresh
returns-then-is_refresh c zero = record {
  content = c.in-Ok.message.content;
  encodes = c.in-Ok.ensures.found.1;
  method = sym c.method.ensures ∙ eqb-true c.method.result 4 (sym c.eq-is_refresh.ensures ∙ c.if-is_refresh.true);
  lifetime = asks_for_zero c.in-Ok.message.content (sym c.seen_value.ensures ∙ c.is_zero.ensures zero);
}
