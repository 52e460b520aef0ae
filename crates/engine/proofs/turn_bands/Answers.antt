-- `engine::turn_bands` meets its contract. The loop's invariant: the bands from `from` to below b have had their turns.
use mathlib.Core.Path.{◌≡◌, refl, sym, ap, ◌∙◌, subst}
use Prim.Native.Nat.{ℕ, suc, ◌+◌, ◌-◌, ◌<◌}
use native.Mathlib.Omega.{arith}
use lib.ListN.{length}
use Rattle.unit.specs.Frame.{feeds_back}
use Rattle.engine.specs.Frame.{tallies_after, pair_after, TurnPairAsks, Between, between, after_turns}
use Rattle.engine.proofs.turn_bands.Goals.{After-loop-b, In-loop-b}
use Rattle.engine.proofs.turn_bands.Invariants.{length-after, Reached}
use Rattle.engine.proofs.turn_bands.Goals as goal

pub loop-b-init : goal.loop-b-init
loop-b-init c = record { turns = 0; most = omega (arith, c.requires.in_order); place = omega arith; is = refl }

-- ---- a turn

module _ (c : In-loop-b) where
  abbrev start : Between
  start = between c.args.pair.now c.args.before

  abbrev here : Between
  here = between c.loop-b.pair c.loop-b.tallies

  inv : Reached c.args.bands.now c.args.d c.args.from start c.args.to c.loop-b.b here
  inv = c.loop-b.invariant

  below : c.args.from + inv.turns < c.args.to
  below = omega (arith, inv.place, c.loop-b-test.true)

pub turn_pair-tallies-requires : goal.turn_pair-tallies-requires
turn_pair-tallies-requires c =
    subst (λ (b : ℕ). TurnPairAsks k.args.bands.now (here k).pair b k.args.d (here k).tallies) (sym (inv k).place)
    (subst (λ (m : Between). TurnPairAsks k.args.bands.now m.pair (k.args.from + (inv k).turns) k.args.d m.tallies) (sym (inv k).is)
    (k.requires.each (inv k).turns (below k)))
  where
    k : In-loop-b
    k = (goal.at.turn_pair-tallies-requires c).In-loop-b

pub loop-b-preserved : goal.loop-b-preserved
loop-b-preserved c =
    record {
      turns = suc (inv k).turns;
      most = omega (arith, below k);
      place = omega (arith, (inv k).place);
      is =
          (λ i. between (c.turn_pair-tallies.ensures.1 i) (c.turn_pair-tallies.ensures.0 i))
          ∙ (λ i. between
          (pair_after (feeds-are i) k.args.bands.now ((inv k).is i).pair ((inv k).place i) k.args.d ((inv k).is i).tallies)
          (tallies_after (feeds-are i) k.args.bands.now ((inv k).is i).pair ((inv k).place i) k.args.d ((inv k).is i).tallies));
    }
  where
    k : In-loop-b
    k = (goal.at.loop-b-preserved c).In-loop-b

    feeds-are : k.args.feeds ≡ feeds_back (k.args.from + (inv k).turns)
    feeds-are = sym (k.requires.alike (k.args.from + (inv k).turns) (omega arith) (below k))

-- ---- after the last turn

module _ (c : After-loop-b) where
  all : between c.loop-b.pair c.loop-b.tallies ≡ after_turns c.args.bands.now c.args.d c.args.from (c.args.to - c.args.from) (between c.args.pair.now c.args.before)
  all =
      c.loop-b.invariant.is
      ∙ ap (λ (n : ℕ). after_turns c.args.bands.now c.args.d c.args.from n (between c.args.pair.now c.args.before))
      count
    where
      count : c.loop-b.invariant.turns ≡ c.args.to - c.args.from
      count = omega (arith, c.loop-b.invariant.place, c.loop-b.invariant.most, c.loop-b-test.false)

pub shape_of-pair : goal.shape_of-pair
shape_of-pair c =
    ap (λ (m : Between). length m.pair) (all c)
    ∙ length-after c.args.bands.now c.args.d c.args.from (between c.args.pair.now c.args.before) (c.args.to - c.args.from)

pub returns : goal.returns
returns c = all c
