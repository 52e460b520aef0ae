-- `engine::frame` meets its contract: the turns of the bands that feed back, those of the others (proofs/Pair.antt), and the inputs and flags stored.
use mathlib.Core.Path.{◌≡◌, sym, ap, ap₂, ◌∙◌, subst}
use mathlib.Core.Bool.{true, false}
use mathlib.Core.List.{List}
use native.Mathlib.Omega.{arith}
use lib.ListN.{length}
use lib.Ieee.{Float, binary64, sub}
use borrow.Author.Tests.{lt-ltb, le-ltb}
use Rattle.bands.specs.Bands.{band_count}
use Rattle.unit.specs.Frame.{feedback_count}
use Rattle.engine.specs.declared.Sides.{Sides}
use Rattle.engine.specs.declared.Tally.{Tally}
use Rattle.engine.specs.Layout.{x1_place, x2_place, flag_place, pair_floats, sides_at, put_sides}
use Rattle.engine.specs.Frame.{between, FrameGives}
use Rattle.engine.proofs.Store.{sides-length}
use Rattle.engine.proofs.Pair.{ways, Turning, tallies_before, begins, bands_may_turn, bands_turned, ended, ends}
use Rattle.engine.proofs.frame.Goals.{After-put_sides, After-put_sides-2, After-put_sides-3, After-sides_at-flags, After-turn_bands-fed, After-turn_bands-tallies, Start}
use Rattle.engine.proofs.frame.Goals as goal

pub sides_at-x1-requires : goal.sides_at-x1-requires
sides_at-x1-requires c = omega (arith, c.before.requires.size)

pub sides_at-x2-requires : goal.sides_at-x2-requires
sides_at-x2-requires c = omega (arith, c.before.before.requires.size)

pub sides_at-flags-requires : goal.sides_at-flags-requires
sides_at-flags-requires c = omega (arith, c.before.before.before.requires.size)

-- ---- before the first turn

module _ (c : After-sides_at-flags) where
  abbrev s : Start
  s = c.before.before.before.before

  abbrev bands : List Float
  bands = s.args.bands.now

  abbrev l : List Float
  l = s.args.pair.now

  abbrev x : Sides Float
  x = s.args.x

  abbrev d : Sides Float
  d = record { first = sub binary64 x.first c.before.sides_at-x2.result.first; second = sub binary64 x.second c.before.sides_at-x2.result.second }

  ways-are : d ≡ ways bands l x
  ways-are = λ i. record { first = sub binary64 x.first (c.before.sides_at-x2.ensures i).first; second = sub binary64 x.second (c.before.sides_at-x2.ensures i).second }

  -- the tallies with these flags
  abbrev tallied : Sides Float → Sides Tally
  tallied flags = record { first = record { total = (tallies_before bands l x).first.total; flag = flags.first }; second = record { total = (tallies_before bands l x).second.total; flag = flags.second } }

  begun : Turning bands l x 0 l (tallied c.sides_at-flags.result)
  begun = subst (λ (flags : Sides Float). Turning bands l x 0 l (tallied flags)) (sym c.sides_at-flags.ensures) (begins bands l x s.requires)

pub turn_bands-fed-requires : goal.turn_bands-fed-requires
turn_bands-fed-requires c =
    bands_may_turn (bands n) (l n) (x n) (s n).requires true 0 feedback_count (omega arith) (omega arith) (λ b g h. lt-ltb b feedback_count h) (between (l n) (tallied n n.sides_at-flags.result)) (begun n) (d n) (ways-are n)
  where
    n : After-sides_at-flags
    n = c.before.before.before.before.before.before.before

-- ---- after the turns of the bands that feed back

module _ (c : After-turn_bands-fed) where
  abbrev n : After-sides_at-flags
  n = c.before.before.before.before.before.before.before.before

  abbrev m : List Float
  m = c.turn_bands-fed.new.pair

  fed : Turning (bands n) (l n) (x n) feedback_count m c.turn_bands-fed.result
  fed =
      bands_turned (bands n) (l n) (x n) (s n).requires true 0 feedback_count (omega arith) (omega arith) (λ b g h. lt-ltb b feedback_count h) (between (l n) (tallied n n.sides_at-flags.result)) (begun n) (d n) (ways-are n)
      (between m c.turn_bands-fed.result) c.turn_bands-fed.ensures

pub turn_bands-tallies-requires : goal.turn_bands-tallies-requires
turn_bands-tallies-requires c =
    bands_may_turn (bands (n k)) (l (n k)) (x (n k)) (s (n k)).requires false feedback_count band_count (omega arith) (omega arith) (λ b g h. le-ltb b feedback_count g) (between (m k) k.turn_bands-fed.result) (fed k) (d (n k)) (ways-are (n k))
  where
    k : After-turn_bands-fed
    k = c.before.before.before

-- ---- after the last turn

module _ (c : After-turn_bands-tallies) where
  abbrev k : After-turn_bands-fed
  k = c.before.before.before.before

  abbrev e : After-sides_at-flags
  e = n k

  abbrev M : List Float
  M = c.turn_bands-tallies.new.pair

  abbrev last-tallies : Sides Tally
  last-tallies = c.turn_bands-tallies.result

  all : Turning (bands e) (l e) (x e) band_count M last-tallies
  all =
      bands_turned (bands e) (l e) (x e) (s e).requires false feedback_count band_count (omega arith) (omega arith) (λ b g h. le-ltb b feedback_count g) (between (m k) k.turn_bands-fed.result) (fed k) (d e) (ways-are e)
      (between M last-tallies) c.turn_bands-tallies.ensures

pub put_sides-requires : goal.put_sides-requires
put_sides-requires c = omega (arith, (all c.before.before.before).size)

module _ (c : After-put_sides) where
  abbrev g : After-turn_bands-tallies
  g = c.before.before.before.before

  one_size : length c.put_sides.new.floats ≡ pair_floats
  one_size = ap length c.put_sides.ensures ∙ sides-length (M g) x1_place (x (e g)) ∙ (all g).size

pub put_sides-requires-2 : goal.put_sides-requires-2
put_sides-requires-2 c = omega (arith, one_size c.before.before.before)

module _ (c : After-put_sides-2) where
  abbrev h : After-put_sides
  h = c.before.before.before.before

  two_is : c.put_sides-2.new.floats ≡ put_sides (put_sides (M (g h)) x1_place (x (e (g h)))) x2_place (sides_at (l (e (g h))) x1_place)
  two_is = c.put_sides-2.ensures ∙ ap₂ (λ (a : List Float) (t : Sides Float). put_sides a x2_place t) h.put_sides.ensures (e (g h)).sides_at-x1.ensures

  two_size : length c.put_sides-2.new.floats ≡ pair_floats
  two_size =
      ap length two_is
      ∙ sides-length (put_sides (M (g h)) x1_place (x (e (g h)))) x2_place (sides_at (l (e (g h))) x1_place)
      ∙ sides-length (M (g h)) x1_place (x (e (g h)))
      ∙ (all (g h)).size

pub put_sides-requires-3 : goal.put_sides-requires-3
put_sides-requires-3 c = omega (arith, two_size c.before.before.before)

module _ (c : After-put_sides-3) where
  abbrev t : After-put_sides-2
  t = c.before.before.before.before

  abbrev f : After-turn_bands-tallies
  f = g (h t)

  three-is : c.put_sides-3.new.floats ≡ ended (bands (e f)) (l (e f)) (x (e f)) (s (e f)).requires (M f) (last-tallies f) (all f)
  three-is = c.put_sides-3.ensures ∙ ap (λ (a : List Float). put_sides a flag_place (record { first = (last-tallies f).first.flag; second = (last-tallies f).second.flag })) (two_is t)

  given : FrameGives (bands (e f)) (l (e f)) (x (e f)) c.put_sides-3.new.floats (record { first = (last-tallies f).first.total; second = (last-tallies f).second.total })
  given =
      subst (λ (a : List Float). FrameGives (bands (e f)) (l (e f)) (x (e f)) a (record { first = (last-tallies f).first.total; second = (last-tallies f).second.total })) (sym three-is)
      (ends (bands (e f)) (l (e f)) (x (e f)) (s (e f)).requires (M f) (last-tallies f) (all f))

pub shape_of-pair : goal.shape_of-pair
shape_of-pair c = (given c.before.before.before).size ∙ sym (s (e (f c.before.before.before))).requires.size

pub returns : goal.returns
returns c = given c.before.before.before
