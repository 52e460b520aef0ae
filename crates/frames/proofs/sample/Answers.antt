-- `frames::sample` meets its contract: two bytes make 16 bits.
use mathlib.Core.Path.{◌≡◌, sym, ap, ◌∙◌}
use Prim.Native.Nat.{ℕ, ◌+◌, ◌*◌, ◌<◌}
use native.Mathlib.Nat.{mod-eq_of_lt}
use native.Mathlib.Omega.{arith}
use lib.ListN.{get_or}
use mir.Syntax.{w16}
use mir.Val.{SFits, to_z}
use Rattle.std.proofs.lemmas.Int.{ints}
use Rattle.frames.specs.Bytes.{sample_of, sample_at}
use Rattle.frames.proofs.sample.Goals as goal

-- 16 bits as a signed number
signed-bits : (n : ℕ) → n < 65536 → to_z w16 n ≡ sample_of n
unfolding sample_of
signed-bits n h = grind (arith, ints)

pub returns : goal.returns
unfolding sample_at
returns c =
    let input = c.args.input.now in
    let at = c.args.at in
    let fits : SFits w16 c.from_le_bytes.result = record { sfits = c.from_le_bytes.type_inv } in
    let small : get_or input at 0 + 256 * get_or input (at + 1) 0 < 65536 = omega (arith, c.type_inv.input at, c.type_inv.input (at + 1)) in
    let order : get_or input at 0 + get_or input (at + 1) 0 * 256 ≡ get_or input at 0 + 256 * get_or input (at + 1) 0 = omega arith in
    omega (arith, ints)
    ∙ c.from_le_bytes.ensures
    ∙ ap (to_z w16) order
    ∙ signed-bits (get_or input at 0 + 256 * get_or input (at + 1) 0) small
    ∙ ap sample_of (sym (mod-eq_of_lt small))
