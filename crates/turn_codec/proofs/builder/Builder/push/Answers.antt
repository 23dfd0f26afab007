use Rattle.std.proofs.Common.{◌≡◌, Result, Err, refl, arith}
use Rattle.std.proofs.lemmas.Result.{err_from_is_err_and}
use Rattle.turn_codec.specs.declared.builder.PushError.{PushError}
use Rattle.turn_codec.specs.declared.builder.PushError.TheVariants.{TooLong, Memory}
use Rattle.turn_codec.proofs.Building.{with_size}
use Rattle.turn_codec.proofs.builder.Builder.push.Goals as goal
use Rattle.turn_codec.proofs.builder.Builder.push.Goals.{then-size-gt65528-via-then-size-gt65528, then-size-gt65528-via-else-size-gt65528+then-len-next_multiple_of-gt65552}

memory_alone : {P : Type 0} (r : Result (Unit {0}) PushError) (e : PushError) → r ≡ Err e → e ≡ Memory → r ≡ Err TooLong → P
memory_alone r e a b h = absurd cc

pub push_fitting-requires : goal.push_fitting-requires
push_fitting-requires g c =
    let size = with_size c.self.inside.bytes.items c.args.self.now c.args.kind c.args.value.now c.self.invariant c.self.view_is in
    omega arith

pub returns-then-size-gt65528-clause-too_long : goal.returns-then-size-gt65528-clause-too_long
returns-then-size-gt65528-clause-too_long g c =
    let size = with_size c.self.inside.bytes.items c.args.self.now c.args.kind c.args.value.now c.self.invariant c.self.view_is in
    elim c.then-size-gt65528.branch [
      | then-size-gt65528-via-then-size-gt65528 w ↦ (λ e. omega arith, λ h. refl)
      | then-size-gt65528-via-else-size-gt65528+then-len-next_multiple_of-gt65552 w ↦ (λ e. omega arith, λ h. refl)
    ]

pub returns-in_err-push_fitting-clause-too_long : goal.returns-in_err-push_fitting-clause-too_long
returns-in_err-push_fitting-clause-too_long g c =
    let p = err_from_is_err_and c.from_residual.result c.from_residual.ensures.1 in
    (memory_alone c.from_residual.result p.0 p.1 p.2, λ h. absurd (let size = with_size c.self.inside.bytes.items c.args.self.now c.args.kind c.args.value.now c.self.invariant c.self.view_is in omega arith))

pub returns-clause-too_long : goal.returns-clause-too_long
returns-clause-too_long g c =
    let size = with_size c.self.inside.bytes.items c.args.self.now c.args.kind c.args.value.now c.self.invariant c.self.view_is in
    (λ e. absurd cc, λ h. absurd (omega arith))
