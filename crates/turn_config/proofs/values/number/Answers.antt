use Rattle.std.proofs.Common.{◌≡◌, ◌<◌, length, get_or, rules, arith}
use Rattle.std.specs.Char.{digit_value}
use Rattle.std.proofs.lemmas.Int.Digits.{digits_value_more, digits_more}
use Rattle.turn_config.proofs.Numbers.{digit_below, value_small}
use Rattle.turn_config.proofs.values.number.Goals as goal

pub returns-then-is_empty : goal.returns-then-is_empty
returns-then-is_empty c = search rules

pub returns-in_err-digit : goal.returns-in_err-digit
returns-in_err-digit c =
    let lt : c.loop-byte.byte-index < length c.args.text.now = omega arith in
    rw c.from_residual.ensures (λ n. c.in_err-digit.ensures.value
    (rw c.from.ensures (digit_below c.args.text.now c.loop-byte.byte-index 0 n.digits.1 lt)))

pub overflow_mul-value : goal.overflow_mul-value
overflow_mul-value c =
    let small = value_small c.args.text.now c.loop-byte.byte-index (omega arith) (omega arith) c.loop-byte.invariant.digits in
    omega arith

pub overflow_add-value : goal.overflow_add-value
overflow_add-value c =
    let small = value_small c.args.text.now c.loop-byte.byte-index (omega arith) (omega arith) c.loop-byte.invariant.digits in
    omega (arith, c.in_ok-digit.ensures.value)

pub loop-byte-preserved : goal.loop-byte-preserved
loop-byte-preserved c =
    let i = c.loop-byte.byte-index in
    let lt : c.loop-byte.byte-index < length c.args.text.now = omega arith in
    let byte : c.from.result ≡ get_or c.args.text.now c.loop-byte.byte-index 0 = c.from.ensures in
    let below : digit_value (get_or c.args.text.now c.loop-byte.byte-index 0) < 10 = rw (← byte) c.in_ok-digit.ensures.value.0 in
    let digit : c.in_ok-digit.digit ≡ digit_value (get_or c.args.text.now c.loop-byte.byte-index 0) = rw (← byte) c.in_ok-digit.ensures.value.1 in
    let more = digits_value_more 10 c.args.text.now c.loop-byte.byte-index lt in
    record {
      digits = digits_more 10 c.args.text.now c.loop-byte.byte-index lt c.loop-byte.invariant.digits below;
      value = omega arith;
    }
