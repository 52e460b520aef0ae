-- A frame of both sides, on lists: it begins, one band has its turn, and after ten the inputs and the flags move on.
use mathlib.Core.Path.{◌≡◌, refl, sym, ap, ◌∙◌, subst}
use mathlib.Core.Bool.{Bool, true, false, cond}
use mathlib.Core.List.{List}
use Prim.Native.Nat.{ℕ, zero, suc, ◌+◌, ◌*◌, ◌-◌, ◌^◌, ◌≤◌, ◌<◌}
use native.Mathlib.Omega.{arith}
use native.Mathlib.Nat.{le_trans}
use lib.Dec.{eqb, lit≤}
use lib.IntN.{pos, ◌+ℤ◌, ◌*ℤ◌}
use lib.ListN.{length}
use lib.Ieee.{Float, binary64, of_bits, of_int, add, mul}
use borrow.Author.Tests.{eqb-true, eqb-false}
use Rattle.integers.proofs.Machine.{product_sized}
use Rattle.integers.proofs.Parts.{terms_eq, var, ◌⊕◌}
use Rattle.lists.specs.Lists.{tabulate, any_of}
use Rattle.lists.proofs.Tabulate.{tabulate_cong}
use Rattle.words.specs.Words.{word_size}
use Rattle.bands.specs.Bands.{band_count}
use Rattle.floats.specs.Whole.{float, whole_of}
use Rattle.floats.proofs.Quotient.{whole_back}
use Rattle.floats.proofs.WholeNumbers.{of_whole, add_whole, mul_whole}
use Rattle.unit.specs.Frame.{feeds_back, raised, channel_frame, exact_mix}
use Rattle.engine.specs.declared.FloatSection.{FloatSection}
use Rattle.engine.specs.declared.Sides.{Sides}
use Rattle.engine.specs.declared.Tally.{Tally}
use Rattle.engine.specs.Floats.{Carries, float_at, WholeFloats, float_section, band_section_in}
use Rattle.engine.specs.Layout.{section_floats, x1_place, x2_place, flag_place, pair_floats, Side, first_side, second_side, float_section_at, put_section, sides_at, put_sides, section_at_side}
use Rattle.engine.specs.Frame.{first_turned, second_turned, tallies_after, pair_after, TurnPairAsks, Between, after_turns, TurnBandsAsks, FrameAsks, SideGives, FrameGives}
use Rattle.engine.proofs.Carry.{carries_whole, section_back}
use Rattle.engine.proofs.Store.{IsWhole, float_whole, section_whole, sides-length, sides_outside, sides_same, sides_whole, both-length, both_away, both_first, both-second, both_other}
use Rattle.engine.proofs.Turns.{first_inside, second_inside, Begun, way, section_after, limits_at, Progress, after_fit, may_turn, section_is, total_more, flag_more, turn_whole}

-- T begins as 2^23 × x
pub begun : (x : Float) → Carries x word_size → add binary64 (of_bits binary64 0) (mul binary64 (of_bits binary64 4710765210229538816) x) ≡ float (pos (2 ^ 23) *ℤ whole_of x +ℤ pos 0)
unfolding of_bits of_int
begun x c =
    add_whole binary64 (pos 0) (lit≤ tt)
    (mul_whole binary64 (of_whole binary64 (pos (2 ^ 23)) (lit≤ tt)) (carries_whole x (lit≤ tt) c)
    (le_trans (product_sized (pos (2 ^ 23)) (whole_of x) {m = word_size} {n = word_size} (lit≤ tt) c.small) (lit≤ tt)))
    ∙ ap float (terms_eq (var (pos 0) ⊕ var (pos (2 ^ 23) *ℤ whole_of x)) (var (pos (2 ^ 23) *ℤ whole_of x) ⊕ var (pos 0)) (omega arith))

module _ (bands l : List Float) (x : Sides Float) where
  -- x - x2 of each side
  abbrev pub ways : Sides Float
  ways = record { first = way bands l first_side x.first; second = way bands l second_side x.second }

  -- after the turns of n bands
  pub record Turning (n : ℕ) (m : List Float) (tallies : Sides Tally) : Type 0 where
    pub most : n ≤ band_count
    pub size : length m ≡ pair_floats
    pub whole : WholeFloats m
    pub rest : (j : ℕ) → section_floats * band_count ≤ j → float_at m j ≡ float_at l j
    pub first : Progress bands l first_side x.first n m tallies.first
    pub second : Progress bands l second_side x.second n m tallies.second

  abbrev pub tallies_before : Sides Tally
  tallies_before =
      record {
        first = record { total = add binary64 (of_bits binary64 0) (mul binary64 (of_bits binary64 4710765210229538816) x.first); flag = float_at l first_side.flag };
        second = record { total = add binary64 (of_bits binary64 0) (mul binary64 (of_bits binary64 4710765210229538816) x.second); flag = float_at l second_side.flag };
      }

module _ (bands l : List Float) (x : Sides Float) (asks : FrameAsks bands l x) where
  first_begun : Begun bands l first_side x.first
  first_begun =
      record { inside = first_inside; bands_size = asks.bands_size; bands_whole = asks.bands_whole; size = asks.size; whole = asks.whole; asks = asks.first }

  second-begun : Begun bands l second_side x.second
  second-begun =
      record { inside = second_inside; bands_size = asks.bands_size; bands_whole = asks.bands_whole; size = asks.size; whole = asks.whole; asks = asks.second }

  pub begins : Turning bands l x 0 l (tallies_before bands l x)
  begins =
      record {
        most = omega arith;
        size = asks.size;
        whole = asks.whole;
        rest = λ j h. refl;
        first = record { done = λ k h. absurd (omega arith); ahead = λ k h j. refl; total_is = begun x.first asks.first.x_carries; flag_is = refl };
        second = record { done = λ k h. absurd (omega arith); ahead = λ k h j. refl; total_is = begun x.second asks.second.x_carries; flag_is = refl };
      }

  -- ---- a turn of band n

  module _ (n : ℕ) (m : List Float) (tallies : Sides Tally) (below : n < band_count) (p : Turning bands l x n m tallies) where
    pair_may_turn : TurnPairAsks bands m n (ways bands l x) tallies
    pair_may_turn =
        record {
          below = below;
          room = p.size;
          first_turns = may_turn bands l first_side x.first first_begun n m tallies.first below p.first;
          second_turns = may_turn bands l second_side x.second second-begun n m tallies.second below p.second;
        }

    abbrev F : FloatSection
    F = (first_turned (feeds_back n) bands m n (ways bands l x) tallies).section

    abbrev S : FloatSection
    S = (second_turned (feeds_back n) bands m n (ways bands l x) tallies).section

    abbrev after : List Float
    after = pair_after (feeds_back n) bands m n (ways bands l x) tallies

    after_whole : WholeFloats after
    after_whole =
        section_whole (put_section m (section_floats * n) F) (section_floats * n + 1) S
        (section_whole m (section_floats * n) F p.whole (turn_whole bands l first_side x.first first_begun n m tallies.first below p.first))
        (turn_whole bands l second_side x.second second-begun n m tallies.second below p.second)

    -- the sections of one side: band n's is new, the others stand as they did
    module _ (e : Side) (y : Float) (z : FloatSection) (t : Tally) (q : Progress bands l e y n m t) where
      done_more : float_section_at after (e.section n) ≡ float_section (section_after bands l e y n) → ((k : ℕ) → k < n → float_section_at after (e.section k) ≡ float_section_at m (e.section k)) → (k : ℕ) → k < suc n → float_section_at after (e.section k) ≡ float_section (section_after bands l e y k)
      done_more here before k h = go (eqb k n) refl
        where
          go : (b : Bool) → eqb k n ≡ b → float_section_at after (e.section k) ≡ float_section (section_after bands l e y k)
          go true b = subst (λ (j : ℕ). float_section_at after (e.section j) ≡ float_section (section_after bands l e y j)) (sym (eqb-true k n b)) here
          go false b = before k (omega (arith, h, eqb-false k n b)) ∙ q.done k (omega (arith, h, eqb-false k n b))

    next : Turning bands l x (suc n) after (tallies_after (feeds_back n) bands m n (ways bands l x) tallies)
    next =
        record {
          most = below;
          size = both-length m n F S p.size below ∙ p.size;
          whole = after_whole;
          rest = λ j h. both_away m n F S p.size below j (λ a k. omega (arith, below)) ∙ p.rest j h;
          first =
              record {
                done =
                    done_more first_side x.first F tallies.first p.first
                    (both_first m n F S p.size below ∙ section_is bands l first_side x.first first_begun n m tallies.first below p.first)
                    (λ k h. both_other m n F S p.size below (section_floats * k) (λ j a b g i. omega arith));
                ahead = λ k h j. both_other m n F S p.size below (section_floats * k) (λ i a b g r. omega arith) ∙ p.first.ahead k (omega arith) j;
                total_is = total_more bands l first_side x.first first_begun n m tallies.first below p.first;
                flag_is = flag_more bands l first_side x.first first_begun n m tallies.first below p.first;
              };
          second =
              record {
                done =
                    done_more second_side x.second S tallies.second p.second
                    (both-second m n F S p.size below ∙ section_is bands l second_side x.second second-begun n m tallies.second below p.second)
                    (λ k h. both_other m n F S p.size below (section_floats * k + 1) (λ j a b g i. omega arith));
                ahead = λ k h j. both_other m n F S p.size below (section_floats * k + 1) (λ i a b g r. omega arith) ∙ p.second.ahead k (omega arith) j;
                total_is = total_more bands l second_side x.second second-begun n m tallies.second below p.second;
                flag_is = flag_more bands l second_side x.second second-begun n m tallies.second below p.second;
              };
        }

  -- ---- turns of bands in a row, which either all feed back, or none does

  module _ (feeds : Bool) (from to : ℕ) (in_order : from ≤ to) (most : to ≤ band_count) (alike : (b : ℕ) → from ≤ b → b < to → feeds_back b ≡ feeds) (s : Between) (p : Turning bands l x from s.pair s.tallies) where
    abbrev then : ℕ → Between
    then n = after_turns bands (ways bands l x) from n s

    turning : (n : ℕ) → from + n ≤ to → Turning bands l x (from + n) (then n).pair (then n).tallies
    turning zero h = subst (λ (b : ℕ). Turning bands l x b s.pair s.tallies) (omega arith) p
    turning (suc n) h =
        subst (λ (b : ℕ). Turning bands l x b (then (suc n)).pair (then (suc n)).tallies) (omega arith)
        (next (from + n) (then n).pair (then n).tallies (omega arith) (turning n (omega arith)))

    module _ (d : Sides Float) (ways-are : d ≡ ways bands l x) where
      pub bands_may_turn : TurnBandsAsks feeds bands d from to s
      bands_may_turn =
          subst (λ (e : Sides Float). TurnBandsAsks feeds bands e from to s) (sym ways-are)
          (record {
            in_order = in_order;
            most = most;
            alike = alike;
            each = λ n h. pair_may_turn (from + n) (then n).pair (then n).tallies (omega arith) (turning n (omega arith));
          })

      pub bands_turned : (m : Between) → m ≡ after_turns bands d from (to - from) s → Turning bands l x to m.pair m.tallies
      bands_turned m is =
          subst (λ (t : Between). Turning bands l x to t.pair t.tallies) (sym (is ∙ ap (λ (e : Sides Float). after_turns bands e from (to - from) s) ways-are))
          (subst (λ (b : ℕ). Turning bands l x b (then (to - from)).pair (then (to - from)).tallies) (omega arith) (turning (to - from) (omega arith)))

  -- ---- after ten turns

  -- one side, from the sections, the inputs and the flag as they then stand
  module _ (e : Side) (y : Float) (f : Begun bands l e y) (m a : List Float) (t : Tally) (p : Progress bands l e y band_count m t) where
    flag_back : whole_of (cond (any_of (tabulate band_count (limits_at bands l e y))) (float (pos 1)) (float_at l e.flag)) ≡ raised (any_of (tabulate band_count (limits_at bands l e y))) (whole_of (float_at l e.flag))
    flag_back = go (any_of (tabulate band_count (limits_at bands l e y)))
      where
        go : (b : Bool) → whole_of (cond b (float (pos 1)) (float_at l e.flag)) ≡ raised b (whole_of (float_at l e.flag))
        go true = whole_back (pos 1) (lit≤ tt)
        go false = refl

    side_gives : ((k : ℕ) → k < band_count → float_section_at a (e.section k) ≡ float_section_at m (e.section k)) → float_at a e.x1 ≡ y → float_at a e.x2 ≡ float_at l e.x1 → float_at a e.flag ≡ t.flag → SideGives bands l e y a t.total
    unfolding channel_frame exact_mix
    side_gives kept x1-is x2-is flag_is =
        record {
          channel =
              λ i.
              record {
                x1 = whole_of (x1-is i);
                x2 = whole_of (x2-is i);
                flag = (ap whole_of (flag_is ∙ p.flag_is) ∙ flag_back) i;
                sections = tabulate_cong band_count section_last i;
              };
          total_is = p.total_is;
        }
      where
        section_last : (k : ℕ) → k < band_count → section_at_side a e k ≡ section_after bands l e y k
        section_last k h =
            ap band_section_in (kept k h ∙ p.done k h) ∙ section_back (section_after bands l e y k) (after_fit bands l e y f k h)

    flag_whole : IsWhole t.flag
    flag_whole = subst IsWhole (sym p.flag_is) (go (any_of (tabulate band_count (limits_at bands l e y))))
      where
        go : (b : Bool) → IsWhole (cond b (float (pos 1)) (float_at l e.flag))
        go true = float_whole (float (pos 1)) (pos 1) refl (lit≤ tt)
        go false = f.whole e.flag (omega (arith, f.inside.flag, f.size))

  module _ (m : List Float) (tallies : Sides Tally) (p : Turning bands l x band_count m tallies) where
    abbrev flags : Sides Float
    flags = record { first = tallies.first.flag; second = tallies.second.flag }

    abbrev m1 : List Float
    m1 = put_sides m x1_place x

    abbrev m2 : List Float
    m2 = put_sides m1 x2_place (sides_at l x1_place)

    abbrev pub ended : List Float
    ended = put_sides m2 flag_place flags

    m1_size : length m1 ≡ pair_floats
    m1_size = sides-length m x1_place x ∙ p.size

    m2_size : length m2 ≡ pair_floats
    m2_size = sides-length m1 x2_place (sides_at l x1_place) ∙ m1_size

    sections_kept : (at : ℕ) → at + 8 < section_floats * band_count → float_section_at ended at ≡ float_section_at m at
    sections_kept at h =
        λ i.
        record {
          y1 = kept at (omega arith) i;
          y2 = kept (at + 2) (omega arith) i;
          gain = record { present = kept (at + 4) (omega arith) i; target = kept (at + 6) (omega arith) i };
          remainder = kept (at + 8) (omega arith) i;
        }
      where
        kept : (j : ℕ) → j < section_floats * band_count → float_at ended j ≡ float_at m j
        kept j k =
            sides_outside m2 flag_place flags j (λ e. omega arith) (λ e. omega arith)
            ∙ sides_outside m1 x2_place (sides_at l x1_place) j (λ e. omega arith) (λ e. omega arith)
            ∙ sides_outside m x1_place x j (λ e. omega arith) (λ e. omega arith)

    x1_are : sides_at ended x1_place ≡ x
    x1_are =
        (λ i. record { first = past x1_place (λ e. omega arith) (λ e. omega arith) (λ e. omega arith) (λ e. omega arith) i; second = past (x1_place + 1) (λ e. omega arith) (λ e. omega arith) (λ e. omega arith) (λ e. omega arith) i })
        ∙ sides_same m x1_place x (omega (arith, p.size))
      where
        past : (j : ℕ) → (j ≡ flag_place → ⊥) → (j ≡ flag_place + 1 → ⊥) → (j ≡ x2_place → ⊥) → (j ≡ x2_place + 1 → ⊥) → float_at ended j ≡ float_at m1 j
        past j a b c d = sides_outside m2 flag_place flags j a b ∙ sides_outside m1 x2_place (sides_at l x1_place) j c d

    x2_are : sides_at ended x2_place ≡ sides_at l x1_place
    x2_are =
        (λ i. record {
          first = sides_outside m2 flag_place flags x2_place (λ e. omega arith) (λ e. omega arith) i;
          second = sides_outside m2 flag_place flags (x2_place + 1) (λ e. omega arith) (λ e. omega arith) i;
        })
        ∙ sides_same m1 x2_place (sides_at l x1_place) (omega (arith, m1_size))

    flags_are : sides_at ended flag_place ≡ flags
    flags_are = sides_same m2 flag_place flags (omega (arith, m2_size))

    pub ends : FrameGives bands l x ended (record { first = tallies.first.total; second = tallies.second.total })
    ends =
        record {
          size = sides-length m2 flag_place flags ∙ m2_size;
          whole =
              sides_whole m2 flag_place flags
              (sides_whole m1 x2_place (sides_at l x1_place)
              (sides_whole m x1_place x p.whole asks.first.x_carries.whole asks.second.x_carries.whole)
              (asks.whole x1_place (omega (arith, asks.size))) (asks.whole (x1_place + 1) (omega (arith, asks.size))))
              (flag_whole first_side x.first first_begun m ended tallies.first p.first) (flag_whole second_side x.second second-begun m ended tallies.second p.second);
          first =
              side_gives first_side x.first first_begun m ended tallies.first p.first
              (λ k h. sections_kept (section_floats * k) (omega arith)) (ap (λ (s : Sides Float). s.first) x1_are) (ap (λ (s : Sides Float). s.first) x2_are) (ap (λ (s : Sides Float). s.first) flags_are);
          second =
              side_gives second_side x.second second-begun m ended tallies.second p.second
              (λ k h. sections_kept (section_floats * k + 1) (omega arith)) (ap (λ (s : Sides Float). s.second) x1_are) (ap (λ (s : Sides Float). s.second) x2_are) (ap (λ (s : Sides Float). s.second) flags_are);
        }
