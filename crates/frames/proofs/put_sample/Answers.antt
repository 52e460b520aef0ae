-- `frames::put_sample` meets its contract: the number's 16 bits are the low ones of s + 2^16.
use mathlib.Core.Path.{◌≡◌, ap, ap₂, ◌∙◌}
use mathlib.Core.List.{List}
use Prim.Native.Nat.{ℕ, ◌+◌, ◌/◌, ◌%◌}
use native.Mathlib.Omega.{arith}
use lib.IntN.{ℤ, pos, negsuc}
use lib.ListN.{set, get_or}
use mir.Syntax.{w16, w64}
use mir.Val.{SFits, to_z, of_z}
use mir.Facts.{to_z-of_z}
use Rattle.std.proofs.lemmas.Int.{ints}
use Rattle.frames.specs.Bytes.{bits_of, low_byte, high_byte}
use Rattle.frames.proofs.put_sample.Goals as goal

-- the bits of a sample
kept : (s : ℤ) → SFits w16 s → SFits w64 s → of_z w16 (to_z w16 (of_z w16 (to_z w64 (of_z w64 s)))) ≡ of_z w16 s
kept s f g = rw (to_z-of_z g) (ap (of_z w16) (to_z-of_z f))

-- and their two bytes
low-is : (s : ℤ) → SFits w16 s → of_z w16 s % 256 ≡ low_byte s
unfolding bits_of
low-is (pos n) f = omega (arith, ints)
low-is (negsuc n) f = omega (arith, ints)

high-is : (s : ℤ) → SFits w16 s → of_z w16 s / 256 % 256 ≡ high_byte s
unfolding bits_of
high-is (pos n) f = omega (arith, ints)
high-is (negsuc n) f = omega (arith, ints)

pub returns : goal.returns
returns c =
    let fits : SFits w16 c.args.sample = omega (arith, ints) in
    let is = kept c.args.sample fits c.ranges.sample in
    ap (λ (bytes : List ℕ). set (set c.args.output.now c.args.at (get_or bytes 0 0)) (c.args.at + 1) (get_or bytes 1 0)) c.to_le_bytes-bytes.ensures
    ∙ ap₂ (λ (a b : ℕ). set (set c.args.output.now c.args.at a) (c.args.at + 1) b)
    (ap (λ (m : ℕ). m % 256) is ∙ low-is c.args.sample fits)
    (ap (λ (m : ℕ). m / 256 % 256) is ∙ high-is c.args.sample fits)
