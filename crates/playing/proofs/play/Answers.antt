-- `playing::play` meets its contract: all turns together are one block.
use mathlib.Core.Path.{◌≡◌, refl, sym, ap, ◌∙◌, subst}
use mathlib.Core.List.{List, ◌++◌}
use Prim.Native.Nat.{ℕ}
use lib.ListN.{length, take}
use lib.Seq.{take_at}
use Rattle.unit.specs.declared.Unit.{Unit}
use Rattle.playing.specs.Turns.{SoundGives, PlayGives}
use Rattle.playing.proofs.Turns.{begin, go_on, done}
use Rattle.playing.proofs.play.Goals.{At-loop-stream}
use Rattle.playing.proofs.play.Goals as goal

pub loop-stream-preserved : goal.loop-stream-preserved
loop-stream-preserved c =
    let held = c.loop-stream.invariant in (
      held.0 ∙ sym c.turn.auto.input,
      held.1 ∙ sym c.turn.auto.output,
      c.in-Some.ensures.ready,
      c.in-Some.ensures.held_few,
      λ u first most fit g.
          go_on u first most c.loop-stream.unit c.turn.new.unit c.loop-stream.stream c.in-Some.later c.loop-stream.input c.turn.new.input fit (held.4 u first most fit g) c.in-Some.ensures,
    )

-- what holds behind the first bytes, and so wherever the loop ends
module _ (c : At-loop-stream) where
  abbrev first : List ℕ
  first = c.args.first.now

  first-held : (rest : List ℕ) → take (length first) (c.copy_from_slice.new.self ++ rest) ≡ first
  first-held rest = ap (λ (l : List ℕ). take (length first) (l ++ rest)) c.copy_from_slice.ensures.after ∙ take_at first rest (length first) refl

  all-turns : PlayGives c.args.unit.now first c.args.most c.loop-stream.unit c.loop-stream.stream
  all-turns =
      done c.args.unit.now first c.args.most c.loop-stream.unit c.loop-stream.stream c.loop-stream.input c.loop-stream.invariant.2.fit
      (c.loop-stream.invariant.4 c.args.unit.now first c.args.most c.requires.ready.fit
      (begin c.args.unit.now first c.sound-begun.new.unit c.sound-begun.result _ c.sound-begun.new.input
      (subst (λ (l : List ℕ). SoundGives c.args.unit.now l c.sound-begun.new.unit c.sound-begun.result c.sound-begun.new.input) (first-held _) c.sound-begun.ensures) refl))

pub returns-else-not-stream : goal.returns-else-not-stream
returns-else-not-stream c = all-turns (goal.at.returns-else-not-stream c).At-loop-stream

pub returns-after-loop-stream : goal.returns-after-loop-stream
returns-after-loop-stream c = all-turns (goal.at.returns-after-loop-stream c).At-loop-stream

pub returns-in-None : goal.returns-in-None
returns-in-None c =
    subst (λ (u : Unit). PlayGives c.args.unit.now c.args.first.now c.args.most u c.loop-stream.stream) (sym c.in-None.ensures)
    (all-turns (goal.at.returns-in-None c).At-loop-stream)
