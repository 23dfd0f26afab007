use Rattle.std.proofs.Common.{◌≡◌, List, [], Option, Some, None, sym, ap, ◌∙◌}
use Rattle.std.specs.Map.{lookup}
use Rattle.std.specs.Option.{option_map_or}
use Rattle.turn_types.specs.declared.address.FiveTuple.{FiveTuple}
use Rattle.turn_table.specs.Prelude.{names_in, user_of, Held}
use Rattle.turn_table.proofs.Held.{get-held_in}
use Rattle.turn_table.proofs.Tuples.{tuple_eq}
use Rattle.turn_table.proofs.user_order.name_at.Goals as goal

named : (xs : List (FiveTuple × Held)) (f : FiveTuple) (o : Option Held) → o ≡ lookup (tuple_eq f) xs → option_map_or user_of o [] ≡ names_in xs f
named xs f o is = ap (λ p. option_map_or user_of p []) (is ∙ sym (get-held_in xs f))

pub returns-in-Some : goal.returns-in-Some
returns-in-Some g c = c.user.ensures ∙ named c.args.entries.now.entries c.args.tuple.now (Some c.in-Some.entry.now) c.in-Some.ensures.value

pub returns-in-None : goal.returns-in-None
returns-in-None g c = named c.args.entries.now.entries c.args.tuple.now None c.in-None.ensures.value
