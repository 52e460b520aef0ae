-- One number stored among a channel's numbers: a target is set in its section, and a number behind the channel changes nothing of it.
-- So with the bands.
use mathlib.Core.Path.{◌≡◌, refl, sym, ap, ◌∙◌}
use mathlib.Core.Bool.{Bool, true, false, cond}
use mathlib.Core.List.{List}
use Prim.Native.Nat.{ℕ, ◌+◌, ◌*◌, ◌≤◌, ◌<◌}
use native.Mathlib.Omega.{arith}
use lib.Dec.{eqb}
use lib.IntN.{ℤ, pos}
use lib.ListN.{length, get_or, set}
use lib.Seq.{get_or-set_same, get_or-set_other}
use borrow.Author.Tests.{eqb-true, eqb-false}
use Rattle.lists.proofs.Tabulate.{tabulate_cong}
use Rattle.lists.proofs.Changed.{changed-tabulate}
use Rattle.bands.specs.Bands.{band_size, band_count, set_size}
use Rattle.unit.specs.Cleared.{bands_of, cleared_band_section}
use Rattle.orders.specs.Orders.{aimed_section, aimed_channel}
use Rattle.numbers.specs.Layout.{section_size, channel_size, place, section_at, channel_of}

module _ (l : List ℤ) (i : ℕ) (t : ℤ) where
  -- a number at another place
  kept : (j : ℕ) → (j ≡ i → ⊥) → get_or (set l i t) j (pos 0) ≡ get_or l j (pos 0)
  kept j h = get_or-set_other l i j t (pos 0) h

  -- a section whose numbers stand elsewhere
  section_kept : (k : ℕ) → ((j : ℕ) → j < section_size → place k + j ≡ i → ⊥) → section_at (set l i t) k ≡ section_at l k
  section_kept k h =
      λ n.
      record {
        y1 = kept (place k) (λ e. h 0 (omega arith) (omega arith)) n;
        y2 = kept (place k + 1) (h 1 (omega arith)) n;
        gain = record { present = kept (place k + 2) (h 2 (omega arith)) n; target = kept (place k + 3) (h 3 (omega arith)) n };
        remainder = kept (place k + 4) (h 4 (omega arith)) n;
      }

  -- a channel ahead of the place
  pub channel_kept : channel_size ≤ i → channel_of (set l i t) ≡ channel_of l
  channel_kept h =
      λ n.
      record {
        x1 = kept 0 (λ e. omega arith) n;
        x2 = kept 1 (λ e. omega arith) n;
        flag = kept 2 (λ e. omega arith) n;
        sections = tabulate_cong band_count (λ k b. section_kept k (λ j f e. omega arith)) n;
      }

  -- the bands of a set ahead of the place
  pub bands_kept : set_size ≤ i → bands_of (set l i t) ≡ bands_of l
  bands_kept h =
      tabulate_cong band_count
      (λ k b n. record {
        alpha = kept (band_size * k) (λ e. omega arith) n;
        beta = kept (band_size * k + 1) (λ e. omega arith) n;
        gamma = kept (band_size * k + 2) (λ e. omega arith) n;
      })

-- a target: section b is aimed, and the others are as they were
module _ (l : List ℤ) (b : ℕ) (t : ℤ) (h : place b + 3 < length l) where
  section_aimed : (k : ℕ) → section_at (set l (place b + 3) t) k ≡ cond (eqb b k) (aimed_section t (section_at l k)) (section_at l k)
  section_aimed k = go (eqb b k) refl
    where
      go : (s : Bool) → eqb b k ≡ s → section_at (set l (place b + 3) t) k ≡ cond s (aimed_section t (section_at l k)) (section_at l k)
      go true e =
          let same : place k + 3 ≡ place b + 3 = omega (arith, eqb-true b k e) in
          λ n.
          record {
            y1 = kept l (place b + 3) t (place k) (λ p. omega arith) n;
            y2 = kept l (place b + 3) t (place k + 1) (λ p. omega arith) n;
            gain =
                record {
                  present = kept l (place b + 3) t (place k + 2) (λ p. omega arith) n;
                  target = (ap (λ (j : ℕ). get_or (set l (place b + 3) t) j (pos 0)) same ∙ get_or-set_same l (place b + 3) t (pos 0) h) n;
                };
            remainder = kept l (place b + 3) t (place k + 4) (λ p. omega arith) n;
          }
      go false e = section_kept l (place b + 3) t k (λ j f p. eqb-false b k e (omega arith))

  pub channel_aimed : channel_of (set l (place b + 3) t) ≡ aimed_channel b t (channel_of l)
  channel_aimed =
      λ n.
      record {
        x1 = kept l (place b + 3) t 0 (λ e. omega arith) n;
        x2 = kept l (place b + 3) t 1 (λ e. omega arith) n;
        flag = kept l (place b + 3) t 2 (λ e. omega arith) n;
        sections =
            (tabulate_cong band_count (λ k f. section_aimed k)
            ∙ sym (changed-tabulate (eqb b) (aimed_section t) band_count (section_at l) cleared_band_section)) n;
      }
