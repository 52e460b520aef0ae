-- `packing::pair_floats` meets its contract: x1, x2 and the flags stored first stay behind the sections.
use mathlib.Core.Path.{◌≡◌, sym, ◌∙◌, subst}
use mathlib.Core.List.{List}
use Prim.Native.Nat.{◌≤◌}
use native.Mathlib.Nat.{le_trans}
use lib.Dec.{lit≤}
use lib.IntN.{ℤ, nat_abs}
use lib.Ieee.{Float}
use mir.Syntax.{w64}
use mir.Val.{to_z, of_z}
use mir.Facts.{to_z-of_z}
use Rattle.integers.proofs.Machine.{below-fits}
use Rattle.words.specs.Words.{word_size}
use Rattle.unit.specs.declared.Channel.{Channel}
use Rattle.unit.specs.Fit.{ChannelFit}
use Rattle.unit.proofs.Ranges.{input_size, flag-size}
use Rattle.engine.specs.Layout.{x1_place}
use Rattle.packing.specs.Packing.{float_sides, put_three, PutSectionsAsks, PutSectionsGives}
use Rattle.packing.proofs.Heads.{Exact, zeros, heads, heads_size, heads_whole, channels}
use Rattle.packing.proofs.pair_floats.Goals.{After-put_three}
use Rattle.packing.proofs.pair_floats.Goals as goal

-- a number of a fit channel is read back from its 64 bits
kept : (z : ℤ) → nat_abs z ≤ word_size → to_z w64 (of_z w64 z) ≡ z
kept z h = to_z-of_z {w = w64} (below-fits {m = word_size} h tt)

kept-size : (z : ℤ) → nat_abs z ≤ word_size → nat_abs (to_z w64 (of_z w64 z)) ≤ word_size
kept-size z h = subst (λ (y : ℤ). nat_abs y ≤ word_size) (sym (kept z h)) h

module _ (c : Channel) (f : ChannelFit c) where
  x1-size : nat_abs c.x1 ≤ word_size
  x1-size = input_size c.x1 f.x1

  x2-size : nat_abs c.x2 ≤ word_size
  x2-size = input_size c.x2 f.x2

  the-flag-size : nat_abs c.flag ≤ word_size
  the-flag-size = flag-size c.flag f.flag

  exact : Exact c
  exact = record { x1 = le_trans x1-size (lit≤ tt); x2 = le_trans x2-size (lit≤ tt); flag = le_trans the-flag-size (lit≤ tt) }

pub sides_of-requires : goal.sides_of-requires
sides_of-requires c = (kept-size c.args.first.x1 (x1-size c.args.first c.requires.first_fit), kept-size c.args.second.x1 (x1-size c.args.second c.requires.second_fit))

pub sides_of-requires-2 : goal.sides_of-requires-2
sides_of-requires-2 c = (kept-size c.args.first.x2 (x2-size c.args.first c.requires.first_fit), kept-size c.args.second.x2 (x2-size c.args.second c.requires.second_fit))

pub sides_of-requires-3 : goal.sides_of-requires-3
sides_of-requires-3 c = (kept-size c.args.first.flag (the-flag-size c.args.first c.requires.first_fit), kept-size c.args.second.flag (the-flag-size c.args.second c.requires.second_fit))

module _ (p : After-put_three) where
  abbrev first : Channel
  first = p.args.first

  abbrev second : Channel
  second = p.args.second

  first-exact : Exact first
  first-exact = exact first p.requires.first_fit

  second-exact : Exact second
  second-exact = exact second p.requires.second_fit

  heads-are : p.put_three.new.floats ≡ heads first second
  heads-are =
      p.put_three.ensures
      ∙ (λ i.
      put_three (zeros first second) x1_place
      ((p.sides_of.ensures ∙ (λ j. float_sides (kept first.x1 (x1-size first p.requires.first_fit) j) (kept second.x1 (x1-size second p.requires.second_fit) j))) i)
      ((p.sides_of-2.ensures ∙ (λ j. float_sides (kept first.x2 (x2-size first p.requires.first_fit) j) (kept second.x2 (x2-size second p.requires.second_fit) j))) i)
      ((p.sides_of-3.ensures ∙ (λ j. float_sides (kept first.flag (the-flag-size first p.requires.first_fit) j) (kept second.flag (the-flag-size second p.requires.second_fit) j))) i))

pub put_sections-requires : goal.put_sections-requires
put_sections-requires c =
    subst (λ (l : List Float). PutSectionsAsks l (first p).sections (second p).sections) (sym (heads-are p))
    (record {
      size = heads_size (first p) (second p);
      whole = heads_whole (first p) (second p) (first-exact p) (second-exact p);
      first_fit = p.requires.first_fit.sections;
      second_fit = p.requires.second_fit.sections;
    })
  where
    p : After-put_three
    p = (goal.at.put_sections-requires c).After-put_three

pub returns : goal.returns
returns c =
    channels (first p) (second p) (first-exact p) (second-exact p) c.put_sections.new.pair
    (subst (λ (l : List Float). PutSectionsGives l (first p).sections (second p).sections c.put_sections.new.pair) (heads-are p) c.put_sections.ensures)
  where
    p : After-put_three
    p = (goal.at.returns c).After-put_three
