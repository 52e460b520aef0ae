-- `playing::sound` meets its contract: what is sent is the sound of the piece, and the tail is kept.
use mathlib.Core.Path.{◌≡◌, sym, ap, ◌∙◌}
use mathlib.Core.List.{List}
use Prim.Native.Nat.{ℕ, ◌+◌, ◌≤◌}
use native.Mathlib.Omega.{arith}
use lib.ListN.{length, take}
use lib.Seq.{length-take-le}
use Rattle.stream.specs.declared.Advanced.{Advanced}
use Rattle.stream.specs.Advance.{Piece, piece_of}
use Rattle.playing.proofs.Turns.{piece_length, sounded, tail_fits, sound_gives, taken_is}
use Rattle.playing.proofs.sound.Goals.{After-unwrap_or-advanced}
use Rattle.playing.proofs.sound.Goals as goal

-- what was played
module _ (c : After-unwrap_or-advanced) where
  abbrev piece : List ℕ
  piece = take c.args.count c.args.input.now

  abbrev answer : Piece
  answer = piece_of (length piece) c.advance.result c.advance.new.unit

  played_is : c.unwrap_or-advanced.result.played ≡ answer.played
  played_is = ap (λ (a : Advanced). a.played) c.unwrap_or-advanced.ensures ∙ (taken_is (length piece) c.advance.result c.advance.new.unit).0

  held_is : c.unwrap_or-advanced.result.held ≡ answer.held
  held_is = ap (λ (a : Advanced). a.held) c.unwrap_or-advanced.ensures ∙ (taken_is (length piece) c.advance.result c.advance.new.unit).1

  piece-fits : (c.unwrap_or-advanced.result.played ≤ length piece) × (length piece ≤ c.unwrap_or-advanced.result.played + 4)
  piece-fits = tail_fits c.args.unit.now c.args.input.now c.args.output.now c.args.count c.requires answer c.advance.ensures.0 _ played_is

  -- what is played fits the piece, and so the output
  sound-fits : c.unwrap_or-advanced.result.played ≤ length c.advance.new.output
  sound-fits =
      omega (
        arith,
        piece-fits.0,
        piece_length c.args.unit.now c.args.input.now c.args.output.now c.args.count c.requires,
        c.requires.count_fits,
        c.requires.output_room,
        c.advance.auto.output,
      )

pub slice_bounds-send-end : goal.slice_bounds-send-end
slice_bounds-send-end c = sound-fits (goal.at.slice_bounds-send-end c).After-unwrap_or-advanced

pub slice_bounds-send-end-2 : goal.slice_bounds-send-end-2
slice_bounds-send-end-2 c = sym (length-take-le _ _ (sound-fits (goal.at.slice_bounds-send-end-2 c).After-unwrap_or-advanced))

pub send-is_written-requires : goal.send-is_written-requires
send-is_written-requires c =
    let p = (goal.at.send-is_written-requires c).After-unwrap_or-advanced in
    sounded c.args.unit.now c.args.input.now c.args.output.now c.args.count c.requires (answer p) c.advance.ensures.0 _ (played_is p)
    c.advance.new.output c.advance.ensures.1

pub keep_tail-requires : goal.keep_tail-requires
keep_tail-requires c = (piece-fits (goal.at.keep_tail-requires c).After-unwrap_or-advanced).0

pub returns : goal.returns
returns c =
    let p = (goal.at.returns c).After-unwrap_or-advanced in
    sound_gives c.args.unit.now c.args.input.now c.args.output.now c.args.count c.requires (answer p) c.advance.ensures.0 _ (played_is p)
    c.keep_tail.new.input _ _ _ c.keep_tail.ensures (taken_is (length (piece p)) c.advance.result c.advance.new.unit).2 (held_is p)
