-- One band: the error of its results runs on by the band's own recursion, and what is put in is what the rounding took. In a band that feeds
-- its remainder back, the next step takes out again what this one put in.
use mathlib.Core.Path.{◌≡◌, refl, sym, ap, ap₂, ◌∙◌, subst}
use mathlib.Core.Bool.{Bool, true, false, cond}
use mathlib.Core.List.{[], ◌∷◌}
use Prim.Native.Nat.{ℕ, zero, suc, ◌+◌, ◌*◌, ◌^◌, ◌≤◌}
use native.Mathlib.Nat.{mul-le-mul_left, mul-le-mul_right, pow-suc}
use native.Mathlib.Omega.{arith}
use lib.IntN.{ℤ, pos, nat_abs, ◌+ℤ◌, ◌-ℤ◌, ◌*ℤ◌}
use Rattle.integers.proofs.Abs.{abs_sum, abs_product}
use Rattle.integers.proofs.Normal.{at, con, ◌:+◌, ◌:-◌, ◌:*◌, solve}
use Rattle.bands.specs.declared.Band.{Band}
use Rattle.section.specs.Equation.{exact_sum}
use Rattle.section.proofs.Laws.{worked_near, worked-rest}
use Rattle.unit.specs.declared.BandSection.{BandSection}
use Rattle.unit.specs.Cleared.{cleared_band_section}
use Rattle.unit.specs.Frame.{fed_back, section_work, section_frame}
use Rattle.closeness.specs.Claim.{divisor, Results, silent_results, rescaled, exact_results, response, response_before, error_response, response_sum}
use Rattle.closeness.proofs.Recursion.{WatchedBounded, bounded_start, bounded_step, scaled_sum, scaled_size, weight_now}

-- what a section that does not limit feeds back to its next step is what the rounding took
fed_next : (feeds : Bool) (band : Band) (x x2 : ℤ) (s : BandSection) → (section_work feeds band x x2 s).limited ≡ false → fed_back feeds (section_frame feeds band x x2 s) ≡ cond feeds (exact_sum band x x2 s.y1 s.y2 +ℤ fed_back feeds s -ℤ pos divisor *ℤ (section_work feeds band x x2 s).y) (pos 0)
unfolding section_frame
fed_next true band x x2 s e =
    ap (λ (l : Bool). cond l (pos 0) (section_work true band x x2 s).remainder) e
    ∙ worked-rest (exact_sum band x x2 s.y1 s.y2 +ℤ s.remainder) e
fed_next false band x x2 s e = refl

-- ---- the recursion of a band

-- two results, and what the next step adds to S
record State : Type 0 where
  y1 : ℤ
  y2 : ℤ
  fed : ℤ

module _ (band : Band) where
  -- a step with nothing put in
  abbrev quiet : State → State
  quiet d = record { y1 = band.gamma *ℤ d.y1 -ℤ band.beta *ℤ d.y2 +ℤ d.fed; y2 = rescaled d.y1; fed = pos 0 }

  -- y1 after k such steps
  abbrev later : ℕ → State → ℤ
  later zero d = d.y1
  later (suc k) d = later k (quiet d)

  -- a + c × p
  abbrev plus : State → ℤ → State → State
  plus a c p = record { y1 = a.y1 +ℤ c *ℤ p.y1; y2 = a.y2 +ℤ c *ℤ p.y2; fed = a.fed +ℤ c *ℤ p.fed }

  -- a step is linear
  quiet_linear : (a p : State) (c : ℤ) → quiet (plus a c p) ≡ plus (quiet a) c (quiet p)
  quiet_linear a p c i = record { y1 = first i; y2 = second i; fed = third i }
    where
      first : (quiet (plus a c p)).y1 ≡ (plus (quiet a) c (quiet p)).y1
      first =
          solve (band.gamma ∷ band.beta ∷ c ∷ a.y1 ∷ a.y2 ∷ a.fed ∷ p.y1 ∷ p.y2 ∷ p.fed ∷ [])
          (at 0 :* (at 3 :+ at 2 :* at 6) :- at 1 :* (at 4 :+ at 2 :* at 7) :+ (at 5 :+ at 2 :* at 8))
          ((at 0 :* at 3 :- at 1 :* at 4 :+ at 5) :+ at 2 :* (at 0 :* at 6 :- at 1 :* at 7 :+ at 8))
          refl

      second : (quiet (plus a c p)).y2 ≡ (plus (quiet a) c (quiet p)).y2
      second =
          solve (pos divisor ∷ c ∷ a.y1 ∷ p.y1 ∷ [])
          (at 0 :* (at 2 :+ at 1 :* at 3))
          (at 0 :* at 2 :+ at 1 :* (at 0 :* at 3))
          refl

      third : pos 0 ≡ pos 0 +ℤ c *ℤ pos 0
      third = solve (c ∷ []) (con (pos 0)) (con (pos 0) :+ at 0 :* con (pos 0)) refl

  -- superposition and homogeneity in one identity
  later_linear : (k : ℕ) (a p : State) (c : ℤ) → later k (plus a c p) ≡ later k a +ℤ c *ℤ later k p
  later_linear zero a p c = refl
  later_linear (suc k) a p c = ap (later k) (quiet_linear a p c) ∙ later_linear k (quiet a) (quiet p) c

  -- silence stays
  abbrev silence : State
  silence = record { y1 = pos 0; y2 = pos 0; fed = pos 0 }

  later_silence : (k : ℕ) → later k silence ≡ pos 0
  later_silence zero = refl
  later_silence (suc k) = ap (later k) still ∙ later_silence k
    where
      first : band.gamma *ℤ pos 0 -ℤ band.beta *ℤ pos 0 +ℤ pos 0 ≡ pos 0
      first = solve (band.gamma ∷ band.beta ∷ []) (at 0 :* con (pos 0) :- at 1 :* con (pos 0) :+ con (pos 0)) (con (pos 0)) refl

      still : quiet silence ≡ silence
      still i = record { y1 = first i; y2 = pos 0; fed = pos 0 }

  -- ---- the response is that recursion, run from 1

  -- y1 of a step is worked from those of the two before, as h is
  later_twice : (k : ℕ) (d : State) → later (suc (suc k)) d ≡ band.gamma *ℤ later (suc k) d -ℤ band.beta *ℤ rescaled (later k d)
  later_twice zero d =
      solve (band.gamma ∷ later 1 d ∷ band.beta ∷ rescaled d.y1 ∷ []) (at 0 :* at 1 :- at 2 :* at 3 :+ con (pos 0)) (at 0 :* at 1 :- at 2 :* at 3) refl
  later_twice (suc k) d = later_twice k (quiet d)

  -- so is h(k-1)
  before_twice : (k : ℕ) → response_before band (suc (suc k)) ≡ band.gamma *ℤ response_before band (suc k) -ℤ band.beta *ℤ rescaled (response_before band k)
  before_twice zero = solve (band.gamma ∷ band.beta ∷ []) (at 0) (at 0 :* con (pos 1) :- at 1 :* con (pos 0)) refl
  before_twice (suc k) = refl

  -- a one in y1, and f that the next step adds to S: h, and f times h a step later
  later_unit : (f : ℤ) (k : ℕ) → later k (record { y1 = pos 1; y2 = pos 0; fed = f }) ≡ response band k +ℤ f *ℤ response_before band k
  later_unit f zero = solve (f ∷ []) (con (pos 1)) (con (pos 1) :+ at 0 :* con (pos 0)) refl
  later_unit f (suc zero) =
      solve (band.gamma ∷ band.beta ∷ f ∷ []) (at 0 :* con (pos 1) :- at 1 :* con (pos 0) :+ at 2) (at 0 :+ at 2 :* con (pos 1)) refl
  later_unit f (suc (suc k)) =
      later_twice k (record { y1 = pos 1; y2 = pos 0; fed = f })
      ∙ ap₂ (λ (a b : ℤ). band.gamma *ℤ a -ℤ band.beta *ℤ rescaled b) (later_unit f (suc k)) (later_unit f k)
      ∙ solve (band.gamma ∷ band.beta ∷ pos divisor ∷ f ∷ response band (suc k) ∷ response band k ∷ response_before band (suc k) ∷ response_before band k ∷ [])
      (at 0 :* (at 4 :+ at 3 :* at 6) :- at 1 :* (at 2 :* (at 5 :+ at 3 :* at 7)))
      (at 0 :* at 4 :- at 1 :* (at 2 :* at 5) :+ at 3 :* (at 0 :* at 6 :- at 1 :* (at 2 :* at 7)))
      refl
      ∙ ap (λ (b : ℤ). response band (suc (suc k)) +ℤ f *ℤ b) (sym (before_twice k))

  -- ---- something put in by a rounding; `feeds` says whether the band feeds the remainder back

  module _ (feeds : Bool) where
    -- a one in y1; where the band feeds back, the next step takes 2^22 from S for it
    abbrev pulse : State
    pulse = record { y1 = pos 1; y2 = pos 0; fed = cond feeds (pos 0 -ℤ pos divisor) (pos 0) }

    -- its y1 is what H sums
    later_pulse : (k : ℕ) → later k pulse ≡ error_response feeds band k
    later_pulse k = later_unit pulse.fed k ∙ go feeds
      where
        go : (t : Bool) → response band k +ℤ cond t (pos 0 -ℤ pos divisor) (pos 0) *ℤ response_before band k ≡ error_response t band k
        go true =
            solve (response band k ∷ pos divisor ∷ response_before band k ∷ []) (at 0 :+ (con (pos 0) :- at 1) :* at 2) (at 0 :- at 1 :* at 2) refl
        go false = solve (response band k ∷ response_before band k ∷ []) (at 0 :+ con (pos 0) :* at 1) (at 0) refl

    -- ---- the error of a section, on the scale of frame n: (2^22)^n times its results, less the exact ones

    abbrev scale_at : ℕ → ℕ
    scale_at n = divisor ^ n

    abbrev error : ℕ → BandSection → Results → State
    error n s r =
        record {
          y1 = pos (scale_at n) *ℤ s.y1 -ℤ r.y1;
          y2 = pos (scale_at n) *ℤ s.y2 -ℤ r.y2;
          fed = pos (scale_at n) *ℤ fed_back feeds s;
        }

    -- no more than what n roundings can have made of it
    abbrev sizes : ℕ → ℕ
    sizes k = nat_abs (error_response feeds band k)

    abbrev pub NearResults : ℕ → BandSection → Results → Type 0
    NearResults n s r = WatchedBounded (scaled_size divisor) sizes later n (error n s r)

    -- cleared, there is no error
    pub near_start : NearResults 0 cleared_band_section silent_results
    near_start = bounded_start (scaled_size divisor) sizes later (error 0 cleared_band_section silent_results) (λ k. ap (later k) (nothing feeds) ∙ later_silence k)
      where
        nothing : (t : Bool) → ◌≡◌ {A = State} (record { y1 = pos 0; y2 = pos 0; fed = pos 1 *ℤ fed_back t cleared_band_section }) silence
        nothing true = refl
        nothing false = refl

    -- ---- a step that does not limit

    module _ (n : ℕ) (x x2 : ℤ) (s : BandSection) (r : Results) (inside : (section_work feeds band x x2 s).limited ≡ false) where
      -- the increased S
      abbrev S : ℤ
      S = exact_sum band x x2 s.y1 s.y2 +ℤ fed_back feeds s

      -- the result
      abbrev y : ℤ
      y = (section_work feeds band x x2 s).y

      -- what the rounding put in
      abbrev input : ℤ
      input = pos (scale_at n) *ℤ (pos divisor *ℤ y -ℤ S)

      abbrev after : BandSection
      after = section_frame feeds band x x2 s

      abbrev exact_after : Results
      exact_after = exact_results band (pos (scale_at n) *ℤ x) (pos (scale_at n) *ℤ x2) r

      scale : pos (scale_at (suc n)) ≡ pos (scale_at n) *ℤ pos divisor
      scale = ap pos (pow-suc divisor n)

      -- the error after the step is a quiet step of the error, with that put in
      error_step : error (suc n) after exact_after ≡ plus (quiet (error n s r)) input pulse
      unfolding section_frame exact_sum
      error_step i = record { y1 = first i; y2 = second i; fed = third i }
        where
          first : pos (scale_at (suc n)) *ℤ y -ℤ exact_sum band (pos (scale_at n) *ℤ x) (pos (scale_at n) *ℤ x2) r.y1 r.y2 ≡ (quiet (error n s r)).y1 +ℤ input *ℤ pos 1
          first =
              ap (λ (z : ℤ). z *ℤ y -ℤ exact_sum band (pos (scale_at n) *ℤ x) (pos (scale_at n) *ℤ x2) r.y1 r.y2) scale
              ∙ solve (pos (scale_at n) ∷ pos divisor ∷ band.alpha ∷ band.beta ∷ band.gamma ∷ x ∷ x2 ∷ s.y1 ∷ s.y2 ∷ y ∷ r.y1 ∷ r.y2 ∷ fed_back feeds s ∷ [])
              (at 0 :* at 1 :* at 9 :- (at 2 :* (at 0 :* at 5 :- at 0 :* at 6) :+ at 4 :* at 10 :- at 3 :* at 11))
              (at 4 :* (at 0 :* at 7 :- at 10) :- at 3 :* (at 0 :* at 8 :- at 11) :+ at 0 :* at 12 :+ at 0 :* (at 1 :* at 9 :- (at 2 :* (at 5 :- at 6) :+ at 4 :* at 7 :- at 3 :* at 8 :+ at 12)) :* con (pos 1))
              refl

          second : pos (scale_at (suc n)) *ℤ s.y1 -ℤ rescaled r.y1 ≡ (quiet (error n s r)).y2 +ℤ input *ℤ pos 0
          second =
              ap (λ (z : ℤ). z *ℤ s.y1 -ℤ rescaled r.y1) scale
              ∙ solve (pos (scale_at n) ∷ pos divisor ∷ s.y1 ∷ r.y1 ∷ input ∷ [])
              (at 0 :* at 1 :* at 2 :- at 1 :* at 3) (at 1 :* (at 0 :* at 2 :- at 3) :+ at 4 :* con (pos 0)) refl

          taken_out : (t : Bool) → pos (scale_at n) *ℤ pos divisor *ℤ cond t (S -ℤ pos divisor *ℤ y) (pos 0) ≡ pos 0 +ℤ input *ℤ cond t (pos 0 -ℤ pos divisor) (pos 0)
          taken_out true =
              solve (pos (scale_at n) ∷ pos divisor ∷ S ∷ y ∷ [])
              (at 0 :* at 1 :* (at 2 :- at 1 :* at 3)) (con (pos 0) :+ at 0 :* (at 1 :* at 3 :- at 2) :* (con (pos 0) :- at 1)) refl
          taken_out false =
              solve (pos (scale_at n) ∷ pos divisor ∷ input ∷ []) (at 0 :* at 1 :* con (pos 0)) (con (pos 0) :+ at 2 :* con (pos 0)) refl

          third : pos (scale_at (suc n)) *ℤ fed_back feeds after ≡ pos 0 +ℤ input *ℤ pulse.fed
          third = ap₂ (λ (z f : ℤ). z *ℤ f) scale (fed_next feeds band x x2 s inside) ∙ taken_out feeds

      -- what n roundings can have made of the error, one more can have made of the error after it
      pub near_step : NearResults n s r → NearResults (suc n) after exact_after
      near_step near = bounded_step (scaled_size divisor) sizes later n (error n s r) (error (suc n) after exact_after) grows near
        where
          small : 2 * nat_abs input ≤ scaled_size divisor n
          small = omega (arith, abs_product (pos (scale_at n)) (pos divisor *ℤ y -ℤ S), mul-le-mul_left (scale_at n) (worked_near S inside))

          felt : (k : ℕ) → later k (error (suc n) after exact_after) ≡ later (suc k) (error n s r) +ℤ input *ℤ error_response feeds band k
          felt k =
              ap (later k) error_step
              ∙ later_linear k (quiet (error n s r)) pulse input
              ∙ ap (λ (h : ℤ). later (suc k) (error n s r) +ℤ input *ℤ h) (later_pulse k)

          grows : (k : ℕ) → 2 * nat_abs (later k (error (suc n) after exact_after)) ≤ 2 * nat_abs (later (suc k) (error n s r)) + scaled_size divisor n * sizes k
          grows k =
              omega (
                arith,
                ap nat_abs (felt k),
                abs_sum (later (suc k) (error n s r)) (input *ℤ error_response feeds band k),
                abs_product input (error_response feeds band k),
                mul-le-mul_right (sizes k) small,
              )

    -- the error of a result is at most half of H
    pub near_sum : (n : ℕ) (s : BandSection) (r : Results) → NearResults n s r → 2 * nat_abs (pos (scale_at n) *ℤ s.y1 -ℤ r.y1) ≤ response_sum feeds band n
    near_sum n s r near =
        subst (λ (v : ℕ). 2 * nat_abs (pos (scale_at n) *ℤ s.y1 -ℤ r.y1) ≤ v) (weight_now divisor sizes n ∙ sum_is n) (near.bound 0)
      where
        sum_is : (m : ℕ) → scaled_sum divisor sizes m ≡ response_sum feeds band m
        sum_is zero = refl
        sum_is (suc m) = ap (λ (v : ℕ). divisor * (v + sizes m)) (sum_is m)
