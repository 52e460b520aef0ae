-- One channel: what ties it to the exact reckoning, that a frame keeps it, and how close the sample then is.
use mathlib.Core.Path.{◌≡◌, refl, sym, ap, ap₂, ◌∙◌, subst}
use mathlib.Core.Bool.{Bool, true, false, ◌||◌}
use mathlib.Core.List.{List, [], ◌∷◌, map}
use Prim.Native.Nat.{ℕ, suc, ◌*◌, ◌^◌, ◌≤◌}
use native.Mathlib.Nat.{pow-suc}
use native.Mathlib.Omega.{arith}
use lib.Dec.{T}
use lib.IntN.{ℤ, pos, nat_abs, ◌+ℤ◌, ◌-ℤ◌, ◌*ℤ◌}
use lib.ListN.{length}
use Rattle.integers.proofs.Abs.{abs_sum}
use Rattle.integers.proofs.Normal.{at, con, ◌:+◌, ◌:-◌, ◌:*◌, solve}
use Rattle.bands.specs.declared.Band.{Band}
use Rattle.section.specs.Equation.{flag}
use Rattle.levels.specs.declared.Level.{Level}
use Rattle.levels.specs.Levels.{gain_slope, volume_slope, moved}
use Rattle.unit.specs.declared.BandSection.{BandSection}
use Rattle.unit.specs.declared.Channel.{Channel}
use Rattle.unit.specs.Frame.{feeds_back, section_work, section_frame, sections_frame, any_limits, raised, channel_frame, share, sum_of, exact_mix, mix, output}
use Rattle.closeness.specs.Claim.{divisor, Results, Exact, rescaled, all_results, exact_frame, gained, exact_mixed, output_scale, exact_output, gained_sums, bound, Close}
use Rattle.closeness.proofs.Band.{NearResults, near_step, near_sum}
use Rattle.closeness.proofs.Output.{scaled_small, output_near}

-- the gain of a section
abbrev pub gain_of : BandSection → Level
gain_of s = s.gain

-- each section's error is no more than what n roundings can have made of it; the test says which of the bands feed back, by their places from 0 on
abbrev pub NearAll : (ℕ → Bool) → ℕ → List Band → List BandSection → List Results → Type 0
NearAll test n [] [] [] = Unit {0}
NearAll test n [] [] (r ∷ rs) = ⊥
NearAll test n [] (s ∷ ss) rs = ⊥
NearAll test n (band ∷ bands) [] rs = ⊥
NearAll test n (band ∷ bands) (s ∷ ss) [] = ⊥
NearAll test n (band ∷ bands) (s ∷ ss) (r ∷ rs) = NearResults band (test 0) n s r × NearAll (λ (place : ℕ). test (suc place)) n bands ss rs

-- two tests of which neither passed
neither : (a b : Bool) → a || b ≡ false → (a ≡ false) × (b ≡ false)
neither true b e = absurd (subst T e tt)
neither false b e = (refl, e)

-- a frame in which none of them limits keeps that
all_step : (test : ℕ → Bool) (n : ℕ) (x x2 : ℤ) (bands : List Band) (ss : List BandSection) (rs : List Results) → any_limits test bands x x2 ss ≡ false → NearAll test n bands ss rs → NearAll test (suc n) bands (sections_frame test bands x x2 ss) (all_results bands (pos (divisor ^ n) *ℤ x) (pos (divisor ^ n) *ℤ x2) rs)
all_step test n x x2 [] [] [] e near = tt
all_step test n x x2 [] [] (r ∷ rs) e near = absurd near
all_step test n x x2 [] (s ∷ ss) rs e near = absurd near
all_step test n x x2 (band ∷ bands) [] rs e near = absurd near
all_step test n x x2 (band ∷ bands) (s ∷ ss) [] e near = absurd near
all_step test n x x2 (band ∷ bands) (s ∷ ss) (r ∷ rs) e near =
    (near_step band (test 0) n x x2 s r none.0 near.0, all_step (λ (place : ℕ). test (suc place)) n x x2 bands ss rs none.1 near.1)
  where
    none : ((section_work (test 0) band x x2 s).limited ≡ false) × (any_limits (λ (place : ℕ). test (suc place)) bands x x2 ss ≡ false)
    none = neither (section_work (test 0) band x x2 s).limited (any_limits (λ (place : ℕ). test (suc place)) bands x x2 ss) e

-- the sum of g × y is then as near as the gains allow
sum_near : (test : ℕ → Bool) (n : ℕ) (bands : List Band) (ss : List BandSection) (rs : List Results) → NearAll test n bands ss rs → 2 * nat_abs (pos (divisor ^ n) *ℤ sum_of (map share ss) -ℤ gained (map gain_of ss) rs) ≤ gained_sums test n (map gain_of ss) bands
sum_near test n [] [] [] near = omega (arith, ap nat_abs nothing)
  where
    nothing : pos (divisor ^ n) *ℤ pos 0 -ℤ pos 0 ≡ pos 0
    nothing = solve (pos (divisor ^ n) ∷ []) (at 0 :* con (pos 0) :- con (pos 0)) (con (pos 0)) refl
sum_near test n [] [] (r ∷ rs) near = absurd near
sum_near test n [] (s ∷ ss) rs near = absurd near
sum_near test n (band ∷ bands) [] rs near = absurd near
sum_near test n (band ∷ bands) (s ∷ ss) [] near = absurd near
sum_near test n (band ∷ bands) (s ∷ ss) (r ∷ rs) near =
    omega (
      arith,
      ap nat_abs parts,
      abs_sum (g *ℤ (z *ℤ s.y1 -ℤ r.y1)) (z *ℤ sum_of (map share ss) -ℤ gained (map gain_of ss) rs),
      scaled_small g (z *ℤ s.y1 -ℤ r.y1) (near_sum band (test 0) n s r near.0),
      sum_near (λ (place : ℕ). test (suc place)) n bands ss rs near.1,
    )
  where
    z : ℤ
    z = pos (divisor ^ n)

    g : ℤ
    g = s.gain.present

    parts : z *ℤ (g *ℤ s.y1 +ℤ sum_of (map share ss)) -ℤ (g *ℤ r.y1 +ℤ gained (map gain_of ss) rs) ≡ g *ℤ (z *ℤ s.y1 -ℤ r.y1) +ℤ (z *ℤ sum_of (map share ss) -ℤ gained (map gain_of ss) rs)
    parts =
        solve (z ∷ g ∷ s.y1 ∷ r.y1 ∷ sum_of (map share ss) ∷ gained (map gain_of ss) rs ∷ [])
        (at 0 :* (at 1 :* at 2 :+ at 4) :- (at 1 :* at 3 :+ at 5))
        (at 1 :* (at 0 :* at 2 :- at 3) :+ (at 0 :* at 4 :- at 5))
        refl

-- ---- a frame's gains

-- they have moved
frame_gains : (test : ℕ → Bool) (x x2 : ℤ) (bands : List Band) (ss : List BandSection) → length ss ≡ length bands → map (moved gain_slope) (map gain_of ss) ≡ map gain_of (sections_frame test bands x x2 ss)
unfolding section_frame
frame_gains test x x2 [] [] h = refl
frame_gains test x x2 [] (s ∷ ss) h = absurd (omega arith)
frame_gains test x x2 (band ∷ bands) [] h = refl
frame_gains test x x2 (band ∷ bands) (s ∷ ss) h =
    ap (λ (gs : List Level). moved gain_slope s.gain ∷ gs) (frame_gains (λ (place : ℕ). test (suc place)) x x2 bands ss (omega arith))

-- ---- the tie, after n frames. `limited` says whether a section of the channel has limited in one of them

pub record Tied (bands : List Band) (n : ℕ) (limited : Bool) (volume : Level) (c : Channel) (e : Exact) : Type 0 where
  pub scale : e.scale ≡ divisor ^ n
  pub volumes : e.volume ≡ volume
  pub gains : e.gains ≡ map gain_of c.sections
  pub x1 : e.x1 ≡ pos (divisor ^ n) *ℤ c.x1
  pub x2 : e.x2 ≡ pos (divisor ^ n) *ℤ c.x2
  pub flags : c.flag ≡ pos (flag limited)
  pub near : limited ≡ false → NearAll feeds_back n bands c.sections e.results

-- a flag rises by what has limited
flag-raised : (before now : Bool) → raised now (pos (flag before)) ≡ pos (flag (before || now))
flag-raised true true = refl
flag-raised true false = refl
flag-raised false true = refl
flag-raised false false = refl

module _ (bands : List Band) (n : ℕ) (limited : Bool) (volume : Level) (c : Channel) (e : Exact) (t : Tied bands n limited volume c e) where
  -- a frame keeps it, with a section for each band
  pub frame_tied : length c.sections ≡ length bands → (x : ℤ) → Tied bands (suc n) (limited || any_limits feeds_back bands x c.x2 c.sections) (moved volume_slope volume) (channel_frame bands x c) (exact_frame bands x e)
  unfolding channel_frame exact_frame
  frame_tied as_many x =
      record {
        scale = ap (λ (z : ℕ). divisor * z) t.scale ∙ power;
        volumes = ap (moved volume_slope) t.volumes;
        gains = ap (map (moved gain_slope)) t.gains ∙ frame_gains feeds_back x c.x2 bands c.sections as_many;
        x1 = ap (λ (z : ℕ). rescaled (pos z *ℤ x)) t.scale ∙ next x;
        x2 = ap rescaled t.x1 ∙ next c.x1;
        flags = ap (raised (any_limits feeds_back bands x c.x2 c.sections)) t.flags ∙ flag-raised limited (any_limits feeds_back bands x c.x2 c.sections);
        near = near_then;
      }
    where
      power : divisor * divisor ^ n ≡ divisor ^ suc n
      power = omega (arith, pow-suc divisor n)

      next : (y : ℤ) → rescaled (pos (divisor ^ n) *ℤ y) ≡ pos (divisor ^ suc n) *ℤ y
      next y =
          solve (pos divisor ∷ pos (divisor ^ n) ∷ y ∷ []) (at 0 :* (at 1 :* at 2)) (at 0 :* at 1 :* at 2) refl
          ∙ ap (λ (z : ℕ). pos z *ℤ y) power

      near_then : limited || any_limits feeds_back bands x c.x2 c.sections ≡ false → NearAll feeds_back (suc n) bands (sections_frame feeds_back bands x c.x2 c.sections) (all_results bands (pos e.scale *ℤ x) e.x2 e.results)
      near_then h =
          subst (λ (a : ℤ). NearAll feeds_back (suc n) bands (sections_frame feeds_back bands x c.x2 c.sections) (all_results bands a e.x2 e.results)) (ap (λ (z : ℕ). pos z *ℤ x) (sym t.scale))
          (subst (λ (a : ℤ). NearAll feeds_back (suc n) bands (sections_frame feeds_back bands x c.x2 c.sections) (all_results bands (pos (divisor ^ n) *ℤ x) a e.results)) (sym t.x2)
          (all_step feeds_back n x c.x2 bands c.sections e.results none.1 (t.near none.0)))
        where
          none : (limited ≡ false) × (any_limits feeds_back bands x c.x2 c.sections ≡ false)
          none = neither limited (any_limits feeds_back bands x c.x2 c.sections) h

  -- the exact mix is as near as the gains allow
  mix_near : limited ≡ false → 2 * nat_abs (pos e.scale *ℤ exact_mix c -ℤ exact_mixed e) ≤ gained_sums feeds_back n e.gains bands
  unfolding exact_mix exact_mixed
  mix_near h =
      subst (λ (gs : List Level). 2 * nat_abs (pos e.scale *ℤ exact_mix c -ℤ (pos (2 ^ 23) *ℤ e.x1 +ℤ gained gs e.results)) ≤ gained_sums feeds_back n gs bands) (sym t.gains)
      (subst (λ (z : ℤ). 2 * nat_abs z ≤ gained_sums feeds_back n (map gain_of c.sections) bands) (sym apart) (sum_near feeds_back n bands c.sections e.results (t.near h)))
    where
      y : ℤ
      y = sum_of (map share c.sections)

      exact_y : ℤ
      exact_y = gained (map gain_of c.sections) e.results

      apart : pos e.scale *ℤ (pos (2 ^ 23) *ℤ c.x1 +ℤ y) -ℤ (pos (2 ^ 23) *ℤ e.x1 +ℤ exact_y) ≡ pos (divisor ^ n) *ℤ y -ℤ exact_y
      apart =
          ap₂ (λ (z : ℕ) (x : ℤ). pos z *ℤ (pos (2 ^ 23) *ℤ c.x1 +ℤ y) -ℤ (pos (2 ^ 23) *ℤ x +ℤ exact_y)) t.scale t.x1
          ∙ solve (pos (divisor ^ n) ∷ pos (2 ^ 23) ∷ c.x1 ∷ y ∷ exact_y ∷ [])
          (at 0 :* (at 1 :* at 2 :+ at 3) :- (at 1 :* (at 0 :* at 2) :+ at 4)) (at 0 :* at 3 :- at 4) refl

  -- the sample is close where nothing has limited
  pub tied_close : limited ≡ false → Close bands n (output volume.present (mix c)) e
  unfolding mix exact_output
  tied_close h =
      record {
        distance =
            subst (λ (v : Level). 2 * nat_abs (pos (output_scale e) *ℤ output v.present (mix c) -ℤ exact_output e) ≤ bound bands n e) t.volumes
            (output_near e.scale e.volume.present (exact_mix c) (exact_mixed e) (gained_sums feeds_back n e.gains bands) (mix_near h));
      }
