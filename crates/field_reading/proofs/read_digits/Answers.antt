-- `field_reading::read_digits` meets its contract.
use mathlib.Core.Path.{sym, ◌∙◌, refl}
use native.Mathlib.Omega.{arith}
use Rattle.std.proofs.Common.{lit<}
use Rattle.field_reading.specs.Scan.{digits_read}
use Rattle.field_reading.proofs.Digits.{short, one_digit, longer}
use Rattle.field_reading.proofs.read_digits.Goals as goal

pub loop-byte-init : goal.loop-byte-init
unfolding digits_read
loop-byte-init c = (lit< tt, refl)

pub overflow_mul-value : goal.overflow_mul-value
overflow_mul-value c =
    let low = short c.loop-byte.byte-index 8 c.loop-byte.value c.loop-byte.invariant.0 (omega arith) in
    record { fits = omega arith }

pub overflow_add-value : goal.overflow_add-value
overflow_add-value c =
    let low = short c.loop-byte.byte-index 8 c.loop-byte.value c.loop-byte.invariant.0 (omega arith) in
    record { fits = omega arith }

pub loop-byte-preserved : goal.loop-byte-preserved
loop-byte-preserved c =
    let digit = sym c.is_digit.ensures ∙ c.if-not-is_digit.false in (
      longer c.args.digits.now c.loop-byte.byte-index (omega arith) c.args.negative c.loop-byte.value c.loop-byte.invariant.0 digit,
      sym (one_digit c.args.digits.now c.loop-byte.byte-index (omega arith) c.args.negative c.loop-byte.value digit) ∙ c.loop-byte.invariant.1,
    )
