use Rattle.std.proofs.Common.{ap, arith, ◌∙◌, count_by, bytes_eq}
use Rattle.turn_table.specs.Prelude.{names_in}
use Rattle.turn_table.proofs.ByUser.{between}
use Rattle.turn_table.proofs.user_order.UserOrder.count_of.Goals as goal

pub returns : goal.returns
returns g c =
    let all = between (names_in c.args.entries.now.entries) c.args.user.now c.as_slice-tuples.result.now c.first_of.result c.end_of.result c.first_of.ensures c.end_of.ensures in
    let same = ap (count_by (λ f. bytes_eq (names_in c.args.entries.now.entries f) c.args.user.now)) (c.as_slice-tuples.ensures.value ∙ ap (λ v. v.0) c.self.view_is) in
    omega arith

pub overflow_sub-result : goal.overflow_sub-result
overflow_sub-result g c =
    let all = between (names_in c.args.entries.now.entries) c.args.user.now c.as_slice-tuples.result.now c.first_of.result c.end_of.result c.first_of.ensures c.end_of.ensures in
    let same = ap (count_by (λ f. bytes_eq (names_in c.args.entries.now.entries f) c.args.user.now)) (c.as_slice-tuples.ensures.value ∙ ap (λ v. v.0) c.self.view_is) in
    omega arith
