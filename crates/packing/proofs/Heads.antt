-- x1, x2 and the flag of both sides, stored first: with the sections stored they are two channels.
use mathlib.Core.Path.{◌≡◌, refl, ap, ◌∙◌}
use mathlib.Core.List.{List}
use Prim.Native.Nat.{◌+◌, ◌≤◌}
use lib.Dec.{lit≤}
use lib.IntN.{ℤ, nat_abs}
use lib.ListN.{length, replicate, length-replicate}
use lib.Ieee.{Float, binary64, of_bits}
use Rattle.unit.specs.declared.Channel.{Channel}
use Rattle.floats.specs.Whole.{float}
use Rattle.engine.specs.declared.Sides.{Sides}
use Rattle.engine.specs.Floats.{largest, float_at, WholeFloats}
use Rattle.engine.specs.Layout.{x1_place, x2_place, flag_place, pair_floats, sides_at}
use Rattle.engine.proofs.Carry.{whole_is}
use Rattle.engine.proofs.Store.{IsWhole, float_whole}
use Rattle.engine.proofs.Read.{zeros_whole}
use Rattle.packing.specs.Packing.{float_sides, put_three, PutSectionsGives, PairFloatsGives}
use Rattle.packing.proofs.Three.{three_length, three_whole, three_first, three_second, three_third}

-- each is an f64 exactly
pub record Exact (c : Channel) : Type 0 where
  pub x1 : nat_abs c.x1 ≤ largest
  pub x2 : nat_abs c.x2 ≤ largest
  pub flag : nat_abs c.flag ≤ largest

module _ (a b : Channel) where
  abbrev pub zeros : List Float
  zeros = replicate pair_floats (of_bits binary64 0)

  abbrev pub heads : List Float
  heads = put_three zeros x1_place (float_sides a.x1 b.x1) (float_sides a.x2 b.x2) (float_sides a.flag b.flag)

  pub heads_size : length heads ≡ pair_floats
  heads_size = three_length zeros x1_place (float_sides a.x1 b.x1) (float_sides a.x2 b.x2) (float_sides a.flag b.flag) ∙ length-replicate pair_floats (of_bits binary64 0)

  module _ (a-exact : Exact a) (b-exact : Exact b) where
    both_whole : (y z : ℤ) → nat_abs y ≤ largest → nat_abs z ≤ largest → IsWhole (float y) × IsWhole (float z)
    both_whole y z g h = (float_whole (float y) y refl g, float_whole (float z) z refl h)

    pub heads_whole : WholeFloats heads
    heads_whole =
        three_whole zeros x1_place (float_sides a.x1 b.x1) (float_sides a.x2 b.x2) (float_sides a.flag b.flag) (zeros_whole pair_floats)
        (both_whole a.x1 b.x1 a-exact.x1 b-exact.x1)
        (both_whole a.x2 b.x2 a-exact.x2 b-exact.x2)
        (both_whole a.flag b.flag a-exact.flag b-exact.flag)

    -- with the sections stored they are the two channels
    module _ (l : List Float) (stored : PutSectionsGives heads a.sections b.sections l) where
      x1s : sides_at heads x1_place ≡ float_sides a.x1 b.x1
      x1s = three_first zeros x1_place (float_sides a.x1 b.x1) (float_sides a.x2 b.x2) (float_sides a.flag b.flag) (lit≤ tt)

      x2s : sides_at heads x2_place ≡ float_sides a.x2 b.x2
      x2s = three_second zeros x1_place (float_sides a.x1 b.x1) (float_sides a.x2 b.x2) (float_sides a.flag b.flag) (lit≤ tt)

      flags : sides_at heads flag_place ≡ float_sides a.flag b.flag
      flags = three_third zeros x1_place (float_sides a.x1 b.x1) (float_sides a.x2 b.x2) (float_sides a.flag b.flag) (lit≤ tt)

      pub channels : PairFloatsGives a b l
      channels =
          record {
            size = stored.size;
            whole = stored.whole;
            first =
                λ i.
                record {
                  x1 = whole_is (float_at l x1_place) a.x1 (stored.behind x1_place (lit≤ tt) ∙ ap (λ (s : Sides Float). s.first) x1s) a-exact.x1 i;
                  x2 = whole_is (float_at l x2_place) a.x2 (stored.behind x2_place (lit≤ tt) ∙ ap (λ (s : Sides Float). s.first) x2s) a-exact.x2 i;
                  flag = whole_is (float_at l flag_place) a.flag (stored.behind flag_place (lit≤ tt) ∙ ap (λ (s : Sides Float). s.first) flags) a-exact.flag i;
                  sections = stored.first i;
                };
            second =
                λ i.
                record {
                  x1 = whole_is (float_at l (x1_place + 1)) b.x1 (stored.behind (x1_place + 1) (lit≤ tt) ∙ ap (λ (s : Sides Float). s.second) x1s) b-exact.x1 i;
                  x2 = whole_is (float_at l (x2_place + 1)) b.x2 (stored.behind (x2_place + 1) (lit≤ tt) ∙ ap (λ (s : Sides Float). s.second) x2s) b-exact.x2 i;
                  flag = whole_is (float_at l (flag_place + 1)) b.flag (stored.behind (flag_place + 1) (lit≤ tt) ∙ ap (λ (s : Sides Float). s.second) flags) b-exact.flag i;
                  sections = stored.second i;
                };
          }
