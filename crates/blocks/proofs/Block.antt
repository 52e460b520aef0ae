-- What a refused block leaves, and what an accepted one has shown.
use mathlib.Core.Path.{◌≡◌}
use mathlib.Core.Bool.{true, false}
use mathlib.Core.List.{List}
use Prim.Native.Nat.{ℕ, ◌*◌, ◌/◌, ◌%◌, ◌≤◌}
use native.Mathlib.Nat.{div-add-mod'}
use lib.Dec.{eqb, leb}
use lib.ListN.{length}
use borrow.Author.Tests.{eqb-true, leb-true, eq-eqb, le-leb}
use Rattle.std.specs.Prelude.{Err}
use Rattle.refusals.specs.Numbers.{unless, is_accepted, Accepted}
use Rattle.refusals.specs.declared.Refusal.TheVariants.{InputLength, OutputShort, Unfit}
use Rattle.refusals.proofs.Laws.{unless_accepted}
use native.Mathlib.Omega.{arith}
use Rattle.unit.specs.declared.Unit.{Unit}
use Rattle.unit.specs.Fit.{Fit, unit_fits}
use Rattle.unit.proofs.Fitness.{fit_of_test, test_of_fit}
use Rattle.frames.specs.Bytes.{frame_size}
use Rattle.blocks.specs.Block.{block_arguments, block_verdict, block_played, block_output}

-- ---- what is refused, and what a refusal leaves

-- "Orders and blocks test the unit ahead of all else: an unfit one is 14"
pub unfit_first : (channels : ℕ) (u : Unit) (given room : ℕ) → unit_fits u ≡ false → block_verdict channels u given room ≡ Err Unfit
unfolding block_verdict
unfit_first channels u given room e = simp e

-- and a fit one leaves what its arguments ask
pub fit_first : (channels : ℕ) (u : Unit) (given room : ℕ) → unit_fits u ≡ true → block_verdict channels u given room ≡ block_arguments channels given room
unfolding block_verdict
fit_first channels u given room e = simp e

-- "unit and output unchanged"
module _ (channels : ℕ) (u : Unit) (input : List ℕ) where
  pub refused_unit : (room : ℕ) → is_accepted (block_verdict channels u (length input) room) ≡ false → (block_played channels u input room).unit ≡ u
  unfolding block_played
  refused_unit room e = simp e

  pub refused-output : (room : List ℕ) → is_accepted (block_verdict channels u (length input) (length room)) ≡ false → block_output channels u input room ≡ room
  unfolding block_output
  refused-output room e = simp e

-- ---- what is accepted

pub record BlockAccepts (channels : ℕ) (u : Unit) (given room : ℕ) : Type 0 where
  pub fit : Fit u
  pub frames : given % frame_size channels ≡ 0
  pub enough : given ≤ room

pub accepts_block : (channels : ℕ) (u : Unit) (given room : ℕ) → BlockAccepts channels u given room → is_accepted (block_verdict channels u given room) ≡ true
unfolding block_verdict
accepts_block channels u given room c =
    simp (test_of_fit u c.fit, eq-eqb (given % frame_size channels) 0 c.frames, le-leb given room c.enough)

pub block_accepted : (channels : ℕ) (u : Unit) (given room : ℕ) → is_accepted (block_verdict channels u given room) ≡ true → BlockAccepts channels u given room
unfolding block_verdict
block_accepted channels u given room e =
    record {
      fit = fit_of_test u first.0;
      frames = eqb-true (given % frame_size channels) 0 second.0;
      enough = leb-true given room third.0;
    }
  where
    first : (unit_fits u ≡ true) × (is_accepted (unless (eqb (given % frame_size channels) 0) InputLength (unless (leb given room) OutputShort Accepted)) ≡ true)
    first = unless_accepted (unit_fits u) Unfit _ e

    second : (eqb (given % frame_size channels) 0 ≡ true) × (is_accepted (unless (leb given room) OutputShort Accepted) ≡ true)
    second = unless_accepted (eqb (given % frame_size channels) 0) InputLength _ first.1

    third : (leb given room ≡ true) × (is_accepted Accepted ≡ true)
    third = unless_accepted (leb given room) OutputShort Accepted second.1

-- four bytes a frame, and none left over
pub four_a_frame : (given : ℕ) → given % 4 ≡ 0 → 4 * (given / 4) ≡ given
four_a_frame given e = omega (arith, div-add-mod' given 4, e)
