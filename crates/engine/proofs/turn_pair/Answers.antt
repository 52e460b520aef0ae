-- `engine::turn_pair` meets its contract: both sides' turns, from the numbers as they were, and both stored.
use mathlib.Core.Path.{◌≡◌, sym, ap, ap₂, ◌∙◌, subst}
use mathlib.Core.List.{List}
use Prim.Native.Nat.{◌+◌, ◌*◌}
use native.Mathlib.Omega.{arith}
use lib.ListN.{length}
use lib.Ieee.{Float}
use Rattle.engine.specs.declared.FloatBand.{FloatBand}
use Rattle.engine.specs.declared.FloatSection.{FloatSection}
use Rattle.engine.specs.declared.Turned.{Turned}
use Rattle.engine.specs.Layout.{band_floats, section_floats, float_band_at, put_section}
use Rattle.engine.specs.Frame.{turned, TurnAsks, first_turned, second_turned}
use Rattle.engine.proofs.Store.{section_length}
use Rattle.engine.proofs.turn_pair.Goals as goal

pub turn-first-requires : goal.turn-first-requires
turn-first-requires c =
    subst (λ (k : FloatBand). TurnAsks k c.section_at.result c.args.d.first c.args.tallies.first) (sym c.band_at.ensures)
    (subst (λ (h : FloatSection). TurnAsks (float_band_at c.args.bands.now (band_floats * c.args.b)) h c.args.d.first c.args.tallies.first) (sym c.section_at.ensures) c.requires.first_turns)

pub turn-second-requires : goal.turn-second-requires
turn-second-requires c =
    subst (λ (k : FloatBand). TurnAsks k c.section_at-2.result c.args.d.second c.args.tallies.second) (sym c.band_at-2.ensures)
    (subst (λ (h : FloatSection). TurnAsks (float_band_at c.args.bands.now (band_floats * c.args.b + 1)) h c.args.d.second c.args.tallies.second) (sym c.section_at-2.ensures) c.requires.second_turns)

pub put_section-requires : goal.put_section-requires
put_section-requires c = omega (arith, c.requires.below, c.requires.room)

pub overflow_add-at-2 : goal.overflow_add-at-2
overflow_add-at-2 c = omega (arith, c.requires.below)

pub put_section-requires-2 : goal.put_section-requires-2
put_section-requires-2 c =
    omega (
      arith,
      c.requires.below,
      c.requires.room,
      ap length c.put_section.ensures,
      section_length c.args.pair.now (section_floats * c.args.b) c.turn-first.result.section,
    )

pub returns : goal.returns
returns c = (
  (λ i. record { first = (first-is i).tally; second = (second_is i).tally }),
  c.put_section-2.ensures
      ∙ ap₂ (λ (l : List Float) (h : FloatSection). put_section l (section_floats * c.args.b + 1) h)
      (c.put_section.ensures ∙ ap (λ (x : Turned). put_section c.args.pair.now (section_floats * c.args.b) x.section) first-is)
      (ap (λ (x : Turned). x.section) second_is),
)
  where
    first-is : c.turn-first.result ≡ first_turned c.args.feeds c.args.bands.now c.args.pair.now c.args.b c.args.d c.args.tallies
    first-is =
        c.turn-first.ensures
        ∙ ap₂ (λ (k : FloatBand) (h : FloatSection). turned c.args.feeds k h c.args.d.first c.args.tallies.first) c.band_at.ensures c.section_at.ensures

    second_is : c.turn-second.result ≡ second_turned c.args.feeds c.args.bands.now c.args.pair.now c.args.b c.args.d c.args.tallies
    second_is =
        c.turn-second.ensures
        ∙ ap₂ (λ (k : FloatBand) (h : FloatSection). turned c.args.feeds k h c.args.d.second c.args.tallies.second) c.band_at-2.ensures c.section_at-2.ensures
