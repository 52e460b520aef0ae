-- The laws of level orders: an order keeps a fit unit fit and keeps its shape, and in a fit unit only the arguments decide.
use mathlib.Core.Path.{◌≡◌, refl, ◌∙◌}
use mathlib.Core.Bool.{Bool, true, false, cond}
use Prim.Native.Nat.{ℕ}
use lib.Dec.{eqb}
use lib.IntN.{ℤ}
use borrow.Author.Tests.{eqb-true}
use Rattle.lists.proofs.Changed.{changed-length, changed-each, changed-drop}
use Rattle.words.specs.Words.{is_word}
use Rattle.std.specs.Prelude.{Err}
use Rattle.refusals.specs.Numbers.{is_accepted}
use Rattle.refusals.specs.declared.Refusal.TheVariants.{Unfit}
use Rattle.refusals.proofs.Laws.{unless_accepted}
use Rattle.unit.specs.Answered.{answered}
use Rattle.unit.specs.Frame.{feedback_count}
use Rattle.unit.specs.Fit.{is_volume, is_plain, SectionFit, Plain, ChannelFit, Fit, unit_fits}
use Rattle.unit.specs.Shaped.{TenSections, Shaped}
use Rattle.unit.specs.declared.BandSection.{BandSection}
use Rattle.unit.specs.declared.Channel.{Channel}
use Rattle.unit.specs.declared.Unit.{Unit}
use Rattle.unit.proofs.Fitness.{fit_of_test, test_of_fit}
use Rattle.settings.specs.declared.Setting.{Setting}
use Rattle.settings.specs.Settings.{volume_band, names, target_of, order_arguments}
use Rattle.settings.proofs.Laws.{target_volume, target_word}
use Rattle.orders.specs.Orders.{order_verdict, aimed_section, aimed_channel, aimed_volume, aimed_band, aimed_unit, ordered}

-- ---- the unit after an order

-- a word as the target keeps a section fit, its channel, and the unit
module _ (band : ℕ) (target : ℤ) (word : is_word target ≡ true) where
  aimed_section_fit : (s : BandSection) → SectionFit s → SectionFit (aimed_section target s)
  aimed_section_fit s f = record { y1 = f.y1; y2 = f.y2; present = f.present; target = word; remainder = f.remainder }

  aimed_section_plain : (s : BandSection) → Plain s → Plain (aimed_section target s)
  unfolding is_plain
  aimed_section_plain s p = p

  aimed_channel_fit : (c : Channel) → ChannelFit c → ChannelFit (aimed_channel band target c)
  aimed_channel_fit c f =
      record {
        x1 = f.x1;
        x2 = f.x2;
        flag = f.flag;
        sections = changed-each SectionFit (eqb band) (aimed_section target) c.sections aimed_section_fit f.sections;
        plain = changed-drop Plain feedback_count (eqb band) (aimed_section target) c.sections aimed_section_plain f.plain;
      }

  aimed_band_fit : (side : ℕ) (u : Unit) → Fit u → Fit (aimed_band side band target u)
  aimed_band_fit side u f =
      record {
        volume = f.volume;
        bands = f.bands;
        channels = changed-each ChannelFit (names side) (aimed_channel band target) u.channels aimed_channel_fit f.channels;
      }

-- a volume as the target keeps the unit fit
aimed_volume_fit : (target : ℤ) → is_volume target ≡ true → (u : Unit) → Fit u → Fit (aimed_volume target u)
aimed_volume_fit target e u f =
    record { volume = record { present = f.volume.present; target = e }; bands = f.bands; channels = f.channels }

-- an accepted order's targets are in their ranges
aimed_fit : (channels : ℕ) (u : Unit) (side band : ℕ) (setting : Setting) → is_accepted (order_arguments channels side band setting) ≡ true → Fit u → Fit (aimed_unit side band (target_of band setting) u)
unfolding aimed_unit
aimed_fit channels u side band setting e f = go (eqb band volume_band) refl
  where
    go : (t : Bool) → eqb band volume_band ≡ t → Fit (cond t (aimed_volume (target_of band setting) u) (aimed_band side band (target_of band setting) u))
    go true b = aimed_volume_fit (target_of band setting) (target_volume channels side band setting e (eqb-true band volume_band b)) u f
    go false b = aimed_band_fit band (target_of band setting) (target_word channels side band setting e) side u f

-- ---- the answer

module _ (channels : ℕ) (u : Unit) (side band : ℕ) (setting : Setting) where
  -- an unfit unit
  pub ordered_unfit : unit_fits u ≡ false → ordered channels u side band setting ≡ answered (Err Unfit) u
  unfolding ordered order_verdict
  ordered_unfit e = simp e

  -- refused arguments
  pub ordered-refused : unit_fits u ≡ true → is_accepted (order_arguments channels side band setting) ≡ false → ordered channels u side band setting ≡ answered (order_arguments channels side band setting) u
  unfolding ordered order_verdict
  ordered-refused f e = simp (f, e)

  -- an accepted order
  pub ordered_accepted : unit_fits u ≡ true → is_accepted (order_arguments channels side band setting) ≡ true → ordered channels u side band setting ≡ answered (order_arguments channels side band setting) (aimed_unit side band (target_of band setting) u)
  unfolding ordered order_verdict
  ordered_accepted f e = simp (f, e)

-- in a fit unit only the arguments decide
pub order_accepts : (channels : ℕ) (u : Unit) (side band : ℕ) (setting : Setting) → Fit u → (ordered channels u side band setting).verdict ≡ order_arguments channels side band setting
unfolding ordered order_verdict
order_accepts channels u side band setting f = simp (test_of_fit u f)

-- an accepted order is one on a fit unit
pub accepted_fit : (channels : ℕ) (u : Unit) (side band : ℕ) (setting : Setting) → is_accepted (ordered channels u side band setting).verdict ≡ true → Fit u
unfolding ordered order_verdict
accepted_fit channels u side band setting e = fit_of_test u (unless_accepted (unit_fits u) Unfit (order_arguments channels side band setting) e).0

-- an order keeps a fit unit fit
pub order_fit : (channels : ℕ) (u : Unit) (side band : ℕ) (setting : Setting) → Fit u → Fit (ordered channels u side band setting).unit
unfolding ordered order_verdict
order_fit channels u side band setting f = go (is_accepted (order_verdict channels u side band setting)) refl
  where
    go : (t : Bool) → is_accepted (order_verdict channels u side band setting) ≡ t → Fit (cond t (aimed_unit side band (target_of band setting) u) u)
    go true e = aimed_fit channels u side band setting (unless_accepted (unit_fits u) Unfit (order_arguments channels side band setting) e).1 f
    go false e = f

-- ---- the shape

-- targets change no list's length
aimed_shaped : (channels side band : ℕ) (target : ℤ) (u : Unit) → Shaped channels u → Shaped channels (aimed_unit side band target u)
unfolding aimed_unit
aimed_shaped channels side band target u s = go (eqb band volume_band)
  where
    go : (t : Bool) → Shaped channels (cond t (aimed_volume target u) (aimed_band side band target u))
    go true = record { bands = s.bands; channels = s.channels; sections = s.sections }
    go false =
        record {
          bands = s.bands;
          channels = changed-length (names side) (aimed_channel band target) u.channels ∙ s.channels;
          sections =
              changed-each TenSections (names side) (aimed_channel band target) u.channels
              (λ c h. changed-length (eqb band) (aimed_section target) c.sections ∙ h) s.sections;
        }

-- an order keeps the unit's shape
pub order_shaped : (channels : ℕ) (u : Unit) (side band : ℕ) (setting : Setting) → Shaped channels u → Shaped channels (ordered channels u side band setting).unit
unfolding ordered
order_shaped channels u side band setting s = go (is_accepted (order_verdict channels u side band setting))
  where
    go : (t : Bool) → Shaped channels (cond t (aimed_unit side band (target_of band setting) u) u)
    go true = aimed_shaped channels side band (target_of band setting) u s
    go false = s
