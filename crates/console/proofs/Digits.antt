-- A number below a hundred in decimal digits.
use mathlib.Core.Path.{◌≡◌, refl, ap, ◌∙◌}
use mathlib.Core.Bool.{Bool, true, false}
use mathlib.Core.List.{List, [], ◌∷◌, ◌++◌}
use Prim.Native.Nat.{ℕ, ◌+◌, ◌-◌, ◌/◌, ◌%◌, ◌<◌, ◌^◌}
use native.Mathlib.Omega.{arith}
use lib.ListN.{take, drop}
use lib.Dec.{ltb}
use borrow.Author.Tests.{ltb-true, ltb-false}
use mir.Val.{bool_byte}
use Rattle.std.proofs.lemmas.Fmt.{decimal_digit, decimal_step}
use Rattle.console.specs.Answers.{line_of}

module _ (n : ℕ) (small : n < 100) where
  -- its two digits in a line, from one of them on
  abbrev line_from : ℕ → List ℕ
  line_from k = take (3 - k) (drop k ((48 + n / 10) ∷ (48 + n % 10) ∷ 10 ∷ []))

  -- from the second on below ten, they are its line
  pub two_digits : (k : ℕ) → k ≡ bool_byte (ltb n 10) → line_from k ≡ line_of n
  two_digits k e = ap line_from e ∙ go (ltb n 10) refl
    where
      go : (one : Bool) → ltb n 10 ≡ one → line_from (bool_byte one) ≡ line_of n
      go true e =
          let low : n < 10 = ltb-true n 10 e in
          let same : n % 10 ≡ n = omega arith in
          rw (decimal_digit n low, same) refl
      go false e = rw (decimal_step n (ltb-false n 10 e) (omega arith), decimal_digit (n / 10) (omega arith)) refl
