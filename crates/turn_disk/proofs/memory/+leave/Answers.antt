use Rattle.std.proofs.Common.{◌≡◌, ◌-◌, ◌++◌, [], ◌∷◌, ap, ◌∙◌, rules, drop, take, List, ℕ}
use Rattle.turn_disk.proofs.Crashes.{one_left, rest_of_older}
use Rattle.turn_disk.specs.Prelude.{replaced_at, part_of}
use Rattle.turn_disk.specs.declared.call.Call.TheVariants.{Wrote}
use Rattle.turn_disk.proofs.memory.+leave.Goals as goal

pub returns-in-Some-Wrote-default-clause-left : goal.returns-in-Some-Wrote-default-clause-left
returns-in-Some-Wrote-default-clause-left g t c =
    let arm = c.in-Some-Wrote-default in
    let calls_are : c.args.calls.now ≡ arm.older.now ++ Wrote arm.at arm.count ∷ [] = search rules in
    one_left c.args.outcome _ _ arm.at arm.count c.args.kept _ _ calls_are c.requires.kept c.requires.is_record _ _ c.exchange.ensures.content c.exchange.ensures.replaced
    c.leave.new.replaced.items c.leave.new.content.items _ c.leave.ensures.others c.leave.ensures.left
    (c.put_part.ensures.content
    ∙ ap (λ (l : List ℕ). replaced_at arm.at (part_of c.args.outcome (take (c.args.kept - (c.args.kept - arm.count)) (drop (c.args.kept - arm.count) l))) c.leave.new.content.items) c.deref.ensures.value)

pub returns-in-Some-Wrote-default-clause-others : goal.returns-in-Some-Wrote-default-clause-others
returns-in-Some-Wrote-default-clause-others g t c =
    let arm = c.in-Some-Wrote-default in
    let calls_are : c.args.calls.now ≡ arm.older.now ++ Wrote arm.at arm.count ∷ [] = search rules in
    rest_of_older c.args.outcome _ _ arm.at arm.count c.args.kept _ _ calls_are c.requires.kept c.requires.is_record _ _ c.exchange.ensures.content c.exchange.ensures.replaced _ c.leave.ensures.others
