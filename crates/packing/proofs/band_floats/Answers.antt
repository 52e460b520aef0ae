-- `packing::band_floats` meets its contract. The loop's invariant: the bands below b are stored.
use mathlib.Core.Path.{◌≡◌, refl, sym, ap, ◌∙◌, subst}
use mathlib.Core.List.{List}
use Prim.Native.Nat.{ℕ, ◌+◌, ◌*◌, ◌^◌}
use native.Mathlib.Nat.{le_trans}
use native.Mathlib.Omega.{arith}
use lib.Dec.{lit≤}
use lib.ListN.{get_or}
use lib.Signed.{nat_abs-le}
use lib.Ieee.{Float}
use borrow.Author.Rules.{rules}
use mir.Syntax.{w32}
use Rattle.integers.proofs.Machine.{reads_back}
use Rattle.bands.specs.declared.Band.{Band}
use Rattle.unit.proofs.PastEnd.{zero_band}
use Rattle.engine.specs.Layout.{band_floats, set_floats, first_side, second_side}
use Rattle.engine.proofs.Read.{zeros_whole, bands_read}
use Rattle.packing.specs.Packing.{put_three}
use Rattle.packing.proofs.Bands.{Exact, twice, with_band, Filled, filled_more}
use Rattle.packing.proofs.band_floats.Goals as goal

pub loop-b-init : goal.loop-b-init
loop-b-init c =
    record {
      most = search rules;
      size = refl;
      whole = zeros_whole set_floats;
      first = λ b h. absurd (omega arith);
      second = λ b h. absurd (omega arith);
    }

pub loop-b-preserved : goal.loop-b-preserved
loop-b-preserved c =
    subst (λ (l : List Float). Filled bands (b + 1) l) (sym is)
    (filled_more bands b c.loop-b.floats (omega arith) exact c.loop-b.invariant)
  where
    bands : List Band
    bands = c.args.bands

    b : ℕ
    b = c.loop-b.b

    band : Band
    band = get_or bands b zero_band

    exact : Exact band
    exact =
        record {
          alpha = le_trans (nat_abs-le band.alpha {H = 2 ^ 31} (omega arith)) (lit≤ tt);
          beta = le_trans (nat_abs-le band.beta {H = 2 ^ 31} (omega arith)) (lit≤ tt);
          gamma = le_trans (nat_abs-le band.gamma {H = 2 ^ 31} (omega arith)) (lit≤ tt);
        }

    -- the coefficients are stored as they are
    is : c.put_three.new.floats ≡ with_band c.loop-b.floats (band_floats * b) band
    is =
        c.put_three.ensures
        ∙ (λ i.
        put_three c.loop-b.floats (band_floats * b)
        ((c.both.ensures ∙ ap twice (reads_back w32 band.alpha (omega arith))) i)
        ((c.both-in-loop-b.ensures ∙ ap twice (reads_back w32 band.beta (omega arith))) i)
        ((c.both-in-loop-b-2.ensures ∙ ap twice (reads_back w32 band.gamma (omega arith))) i))

pub returns : goal.returns
returns c =
    record {
      size = c.loop-b.invariant.size;
      whole = c.loop-b.invariant.whole;
      first = bands_read c.loop-b.floats first_side c.args.bands (omega arith) (λ b h. c.loop-b.invariant.first b (omega arith));
      second = bands_read c.loop-b.floats second_side c.args.bands (omega arith) (λ b h. c.loop-b.invariant.second b (omega arith));
    }
