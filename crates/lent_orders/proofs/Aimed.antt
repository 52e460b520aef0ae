-- A target that is stored in its place is set in the unit that the numbers stand for, and nothing else is: over the channel's index.
use mathlib.Core.Path.{◌≡◌, refl, sym, ap, ◌∙◌}
use mathlib.Core.Bool.{Bool, true, false, cond}
use mathlib.Core.List.{List, [], ◌∷◌}
use mathlib.Core.Logic.{⊎_elim}
use Prim.Native.Nat.{ℕ, zero, suc, ◌+◌, ◌-◌, ◌≤◌, ◌<◌}
use native.Mathlib.Nat.{eq-or-lt_of_le}
use native.Mathlib.Omega.{arith}
use lib.Dec.{eqb, ltb}
use lib.IntN.{ℤ, pos}
use lib.ListN.{length, drop, set, length-set, length-drop}
use lib.Seq.{get_or-set_same, get_or-set_other, drop-set-lt, drop-set-add}
use borrow.Author.Tests.{eqb-true, eqb-false, eq-eqb, ne_eqb, ltb-true, ltb-false}
use Rattle.lists.specs.Lists.{changed}
use Rattle.refusals.proofs.Laws.{passed, failed}
use Rattle.bands.specs.Bands.{band_count}
use Rattle.unit.specs.declared.Unit.{Unit}
use Rattle.unit.specs.Cleared.{bands_of}
use Rattle.settings.specs.Settings.{volume_band, names}
use Rattle.orders.specs.Orders.{aimed_channel, aimed_volume, aimed_band, aimed_unit}
use Rattle.numbers.specs.Layout.{channel_size, unit_size, bands_place, left_place, right_place, place, channel_of, numbers_of, unit_of}
use Rattle.numbers.proofs.Laws.{numbers_of_unit}
use Rattle.lent_orders.specs.Places.{channel_place, target_place, volume_target, named, named_below}
use Rattle.lent_orders.proofs.Stored.{channel_kept, bands_kept, channel_aimed}

-- ---- a band's target in a channel

module _ (l : List ℤ) (t : ℤ) where
  -- the numbers from place n on, where the one that is stored stands behind it
  from : (n i j : ℕ) → j ≡ n + i → drop n (set l j t) ≡ set (drop n l) i t
  from n i j e = ap (λ (k : ℕ). drop n (set l k t)) e ∙ drop-set-add n l i t

  module _ (channel band : ℕ) (b : band < band_count) (h : channel_place channel + channel_size ≤ length l) where
    abbrev stored : List ℤ
    stored = set l (target_place channel band) t

    -- channel k of the numbers: aimed where it is the one that is stored in, and else as it was
    channel_stored : (k : ℕ) → channel_of (drop (channel_place k) stored) ≡ cond (eqb channel k) (aimed_channel band t (channel_of (drop (channel_place k) l))) (channel_of (drop (channel_place k) l))
    channel_stored k = go (eqb channel k) refl
      where
        other : (s : Bool) → ltb channel k ≡ s → (channel ≡ k → ⊥) → channel_of (drop (channel_place k) stored) ≡ channel_of (drop (channel_place k) l)
        other true e n = ap channel_of (drop-set-lt (channel_place k) l (target_place channel band) t (omega (arith, ltb-true channel k e)))
        other false e n =
            let ahead : k < channel = ⊎_elim (λ q. absurd (n (sym q))) (λ h. h) (eq-or-lt_of_le (ltb-false channel k e)) in
            ap channel_of (from (channel_place k) (target_place channel band - channel_place k) (target_place channel band) (omega arith))
            ∙ channel_kept (drop (channel_place k) l) (target_place channel band - channel_place k) t (omega arith)

        go : (s : Bool) → eqb channel k ≡ s → channel_of (drop (channel_place k) stored) ≡ cond s (aimed_channel band t (channel_of (drop (channel_place k) l))) (channel_of (drop (channel_place k) l))
        go true e =
            ap channel_of (from (channel_place k) (place band + 3) (target_place channel band) (omega (arith, eqb-true channel k e)))
            ∙ channel_aimed (drop (channel_place k) l) band t (omega (arith, eqb-true channel k e, length-drop (channel_place k) l))
        go false e = other (ltb channel k) refl (eqb-false channel k e)

    -- the unit that the numbers stand for
    unit_stored_lem : unit_of stored ≡ record { volume = (unit_of l).volume; bands = (unit_of l).bands; channels = changed (eqb channel) (aimed_channel band t) (unit_of l).channels }
    unfolding unit_of
    unit_stored_lem =
        λ n.
        record {
          volume =
              record {
                present = get_or-set_other l (target_place channel band) 0 t (pos 0) (λ e. omega arith) n;
                target = get_or-set_other l (target_place channel band) 1 t (pos 0) (λ e. omega arith) n;
              };
          bands =
              (ap bands_of (from bands_place (target_place channel band - bands_place) (target_place channel band) (omega arith))
              ∙ bands_kept (drop bands_place l) (target_place channel band - bands_place) t (omega arith)) n;
          channels = channel_stored 0 n ∷ channel_stored 1 n ∷ [];
        }

-- ---- the numbers after an order

module _ (side band : ℕ) (t : ℤ) where
  pub named_size : (channel : ℕ) (m : List ℤ) → length (named side band t channel m) ≡ length m
  named_size channel m = go (names side channel)
    where
      go : (s : Bool) → length (cond s (set m (target_place channel band) t) m) ≡ length m
      go true = length-set m (target_place channel band) t
      go false = refl

  pub named_below_size : (channels : ℕ) (m : List ℤ) → length (named_below side band t channels m) ≡ length m
  named_below_size zero m = refl
  named_below_size (suc channel) m = named_size channel (named_below side band t channel m) ∙ named_below_size channel m

module _ (side band : ℕ) (t : ℤ) (l : List ℤ) (size : length l ≡ unit_size) where
  -- in one channel or in both: the unit that they then stand for
  unit_named : band < band_count → unit_of (named side band t 1 (named side band t 0 l)) ≡ aimed_band side band t (unit_of l)
  unfolding unit_of
  unit_named b = go (names side 0) (names side 1)
    where
      left : List ℤ
      left = set l (target_place 0 band) t

      after : Bool → Bool → Unit
      after first second =
          record {
            volume = (unit_of l).volume;
            bands = (unit_of l).bands;
            channels =
                cond first (aimed_channel band t (channel_of (drop left_place l))) (channel_of (drop left_place l))
                ∷ cond second (aimed_channel band t (channel_of (drop right_place l))) (channel_of (drop right_place l))
                ∷ [];
          }

      both : unit_of (set left (target_place 1 band) t) ≡ after true true
      both =
          unit_stored_lem left t 1 band b (omega (arith, length-set l (target_place 0 band) t))
          ∙ ap (λ (u : Unit). record { volume = u.volume; bands = u.bands; channels = changed (eqb 1) (aimed_channel band t) u.channels })
          (unit_stored_lem l t 0 band b (omega arith))

      go : (first second : Bool) → unit_of (cond second (set (cond first left l) (target_place 1 band) t) (cond first left l)) ≡ after first second
      go true true = both
      go true false = unit_stored_lem l t 0 band b (omega arith)
      go false true = unit_stored_lem l t 1 band b (omega arith)
      go false false = refl

  -- the numbers after an order for a band
  pub numbers_named : band < band_count → named side band t 1 (named side band t 0 l) ≡ numbers_of (aimed_unit side band t (unit_of l))
  unfolding aimed_unit
  numbers_named b =
      sym (numbers_of_unit (named side band t 1 left) (named_size side band t 1 left ∙ named_size side band t 0 l ∙ size))
      ∙ ap numbers_of (unit_named b ∙ failed (eqb band volume_band) _ _ (ne_eqb band volume_band (λ e. omega arith)))
    where
      left : List ℤ
      left = named side band t 0 l

  unit_volume : unit_of (set l volume_target t) ≡ aimed_volume t (unit_of l)
  unfolding unit_of
  unit_volume =
      λ n.
      record {
        volume =
            record {
              present = get_or-set_other l volume_target 0 t (pos 0) (λ e. omega arith) n;
              target = get_or-set_same l volume_target t (pos 0) (omega arith) n;
            };
        bands = bands_of (drop-set-lt bands_place l volume_target t (omega arith) n);
        channels =
            channel_of (drop-set-lt left_place l volume_target t (omega arith) n)
            ∷ channel_of (drop-set-lt right_place l volume_target t (omega arith) n)
            ∷ [];
      }

  -- the numbers after an order for the volume
  pub numbers_volume : band ≡ volume_band → set l volume_target t ≡ numbers_of (aimed_unit side band t (unit_of l))
  unfolding aimed_unit
  numbers_volume e =
      sym (numbers_of_unit (set l volume_target t) (length-set l volume_target t ∙ size))
      ∙ ap numbers_of (unit_volume ∙ passed (eqb band volume_band) _ _ (eq-eqb band volume_band e))
