-- `lent_fitness::remainders_fit` meets its contract. The loop's invariant: what is found so far is the test of the sections below b.
use mathlib.Core.Path.{◌≡◌, sym, ap, ◌∙◌}
use Prim.Native.Nat.{ℕ, ◌+◌, ◌*◌}
use native.Mathlib.Omega.{arith}
use lib.IntN.{pos}
use lib.ListN.{get_or, drop}
use mir.Syntax.{w32}
use mir.Val.{to_z, of_z}
use mir.Facts.{to_z-of_z}
use Rattle.integers.proofs.Machine.{test_back}
use Rattle.std.specs.List.{list_all}
use Rattle.lists.proofs.Loops.{found-next, found_done}
use Rattle.lists.proofs.Tabulate.{tabulate-at}
use Rattle.rounding.specs.Rounding.{within}
use Rattle.bands.specs.Bands.{band_count}
use Rattle.unit.specs.Cleared.{cleared_band_section}
use Rattle.numbers.specs.Layout.{head_size, section_size, place, section_at, channel_of}
use Rattle.lent_fitness.specs.Remainders.{remainder_within}
use Rattle.lent_fitness.proofs.remainders_fit.Goals as goal

pub loop-b-preserved : goal.loop-b-preserved
loop-b-preserved c =
    let l = c.args.channel.now in
    let b = c.loop-b.b in
    let low = to_z w32 (of_z w32 c.args.least) in
    let high = to_z w32 (of_z w32 c.args.most) in
    found-next c.loop-b.invariant cleared_band_section (omega arith)
    (test_back (within low high) w32 (get_or l (head_size + 4 + section_size * b) (pos 0)) (omega arith) c.in_range-fit.ensures
    ∙ ap (λ (k : ℕ). within low high (get_or l k (pos 0))) (let e : head_size + 4 + section_size * b ≡ place b + 4 = omega arith in e)
    ∙ ap (remainder_within low high) (sym (tabulate-at band_count (section_at l) cleared_band_section b (omega arith))))

pub returns : goal.returns
returns c =
    found_done c.loop-b.invariant (omega arith)
    ∙ (λ i. list_all (remainder_within (to_z-of_z c.ranges.least i) (to_z-of_z c.ranges.most i)) (drop c.args.first (channel_of c.args.channel.now).sections))
