-- `field_reading::read_digits` meets its contract. The loop's invariant: the digits so far have made the value, and what is read from there on
-- is the answer.
use Rattle.std.proofs.Common.{◌≡◌, ◌<◌, ◌^◌, drop}
use Rattle.field_reading.specs.Scan.{digits_read}
use Rattle.field_reading.proofs.Digits.{read_from}
use Rattle.field_reading.proofs.read_digits.Given as goal

abbrev pub invariant-loop-byte : goal.invariant-loop-byte
invariant-loop-byte l = (l.value < 10 ^ l.byte-index) × (read_from l.negative l.value (drop l.byte-index l.digits) ≡ digits_read l.negative l.digits)
