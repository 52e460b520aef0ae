-- What is played at once is one block, a turn is the next read of the stream, and turns are one block of all that was read.
use mathlib.Core.Path.{◌≡◌, refl, sym, ap, ap₂, ◌∙◌, subst}
use mathlib.Core.List.{List, [], ◌++◌, append_assoc, append-nil}
use Prim.Native.Nat.{ℕ, ◌+◌, ◌-◌, ◌≤◌, ◌<◌}
use native.Mathlib.Nat.{mod-lt}
use native.Mathlib.Omega.{arith}
use lib.Dec.{lit≤}
use lib.ListN.{length, take, drop, length-take, length-drop, length-append}
use lib.Seq.{length-take-le, take-append-le, take_at}
use Rattle.std.specs.Prelude.{Option, Some, Result, Ok, Err}
use Rattle.std.specs.Result.{result_unwrap_or}
use Rattle.refusals.specs.declared.Refusal.{Refusal}
use Rattle.unit.specs.declared.Unit.{Unit}
use Rattle.unit.specs.Fit.{Fit}
use Rattle.stream.specs.declared.Advanced.{Advanced}
use Rattle.stream.specs.Advance.{Piece, piece_of, advanced, advanced_output, tail_first}
use Rattle.stream.specs.Claim.{Stream, one_block, begun, next, Advances, Ready}
use Rattle.stream.proofs.Cuts.{tail_length}
use Rattle.stream.proofs.Holds.{block_next, cut_anywhere}
use Rattle.console.specs.Reads.{ReceiveGives}
use Rattle.playing.specs.declared.Progress.{Progress}
use Rattle.playing.specs.declared.Sounded.{Sounded}
use Rattle.playing.specs.Turns.{IsSound, SoundAsks, SoundGives, TurnAsks, TurnGives, PlayGives}

-- ---- so many bytes at the front of the input

module _ (u : Unit) (input output : List ℕ) (count : ℕ) (can : SoundAsks u input count output) where
  abbrev piece : List ℕ
  piece = take count input

  pub piece_length : length piece ≡ count
  piece_length = length-take-le count input can.count_fits

  advances : Advances (begun u) piece output
  advances = cut_anywhere.advances (begun u) piece output can.ready (omega (arith, piece_length, can.count_fits, can.output_room))

  -- less than a frame is held
  tail_few : length (one_block u piece).held < 4
  unfolding one_block
  tail_few = subst (λ (n : ℕ). n < 4) (sym (tail_length piece)) (mod-lt (length piece) {m = 4} (lit≤ tt))

  module _ (a : Piece) (answers : a ≡ advanced 2 u piece (length output)) (played : ℕ) (e : played ≡ a.played) where
    -- what stands at the front of the output is the piece's sound
    pub sounded : (output' : List ℕ) → output' ≡ advanced_output 2 u piece output → IsSound u piece (take played output')
    unfolding next
    sounded output' sounds = record { fit = can.ready.fit; sound_is = ap₂ take (e ∙ ap (λ (v : Piece). v.played) answers) sounds ∙ advances.sound_is }

    -- what is held
    rest_is : drop played piece ≡ (one_block u piece).held
    unfolding next
    rest_is = ap (λ (n : ℕ). drop n piece) (e ∙ ap (λ (v : Piece). v.played) answers) ∙ advances.held_is

    held_is : a.held ≡ length (one_block u piece).held
    unfolding next
    held_is = ap (λ (v : Piece). v.held) answers ∙ advances.held_count

    -- the tail is within the piece, and less than a frame
    pub tail_fits : (played ≤ length piece) × (length piece ≤ played + 4)
    tail_fits = (few, omega (arith, few, ap length rest_is, length-drop played piece, tail_few))
      where
        few : played ≤ length piece
        few = omega (arith, e, ap (λ (v : Piece). v.played) answers, advances.played_few)

    pub sound_gives : (kept rest : List ℕ) (u' : Unit) (after : Sounded) → kept ≡ tail_first played piece → u' ≡ a.unit → after.held ≡ a.held → SoundGives u piece u' after (kept ++ rest)
    unfolding tail_first next
    sound_gives kept rest u' after keeps unit-after held_after =
        record {
          unit_is = unit_is';
          held_is = take-append-le after.held kept rest enough ∙ front;
          held_count = held_after ∙ held_is;
          held_few = subst (λ (n : ℕ). n < 4) (sym (held_after ∙ held_is)) tail_few;
          ready = record { fit = subst Fit (sym unit_is') after_ready.fit; channels_are = ap (λ (v : Unit). length v.channels) unit_is' ∙ after_ready.channels_are };
        }
      where
        unit_is' : u' ≡ (one_block u piece).unit
        unit_is' = unit-after ∙ ap (λ (v : Piece). v.unit) answers ∙ advances.unit_is

        after_ready : Ready (next (begun u) piece)
        after_ready = cut_anywhere.stays_ready (begun u) piece can.ready

        held_length : length (drop played piece) ≡ after.held
        held_length = ap length rest_is ∙ sym (held_after ∙ held_is)

        front : take after.held kept ≡ (one_block u piece).held
        front = ap (take after.held) keeps ∙ take_at (drop played piece) (drop (length (drop played piece)) piece) after.held held_length ∙ rest_is

        enough : after.held ≤ length kept
        enough = omega (arith, held_after ∙ held_is, ap length front, length-take after.held kept)

-- what is taken of an answer: of a refused piece none is played and all is held
abbrev pub taken : ℕ → Result Advanced Refusal → Advanced
taken given r = result_unwrap_or r (record { played = 0; held = given })

pub taken_is : (given : ℕ) (r : Result Advanced Refusal) (u' : Unit) → ((taken given r).played ≡ (piece_of given r u').played) × ((taken given r).held ≡ (piece_of given r u').held) × (u' ≡ (piece_of given r u').unit)
taken_is given (Ok a) u' = (refl, refl, refl)
taken_is given (Err refusal) u' = (refl, refl, refl)

-- ---- one read

module _ (u : Unit) (p : Progress) (input input' output : List ℕ) (left left' : Option (List ℕ)) (more : ℕ) (can : TurnAsks u p input output) (read : ReceiveGives left p.held p.left input (Some more) left' input') where
  pub can_sound : SoundAsks u input' (p.held + more) output
  can_sound = record { ready = can.ready; count_fits = read.count_fits; output_room = omega (arith, read.length_is, can.output_room) }

  pub turn_gives : (u' : Unit) (s : Sounded) (after : Progress) (kept : List ℕ) → SoundGives u (take (p.held + more) input') u' s kept → after.held ≡ s.held → after.left ≡ p.left - more → 0 < more → TurnGives u p input u' after kept
  turn_gives u' s after kept gives held_after left_after some =
      record {
        bytes = read.bytes;
        unit_is = gives.unit_is ∙ ap (λ (b : Stream). b.unit) all;
        held_is = ap (λ (n : ℕ). take n kept) held_after ∙ gives.held_is ∙ ap (λ (b : Stream). b.held) all;
        held_count = held_after ∙ gives.held_count ∙ ap (λ (b : Stream). length b.held) all;
        held_few = subst (λ (n : ℕ). n < 4) (sym held_after) gives.held_few;
        left_is = omega (arith, left_after, read.count_is, read.few);
        comes = omega (arith, some, read.count_is);
        ready = gives.ready;
      }
    where
      all : one_block u (take (p.held + more) input') ≡ one_block u (take p.held input ++ read.bytes)
      all = ap (one_block u) read.front_is

-- ---- all reads

-- the first bytes and all that was read so far are one block
pub record Going (u : Unit) (first : List ℕ) (most : ℕ) (now : Unit) (p : Progress) (input : List ℕ) : Type 0 where
  pub bytes : List ℕ
  pub unit_is : now ≡ (one_block u (first ++ bytes)).unit
  pub held_is : take p.held input ≡ (one_block u (first ++ bytes)).held
  pub held_count : p.held ≡ length (one_block u (first ++ bytes)).held
  pub left_is : length bytes + p.left ≡ most

-- none was read yet
pub begin : (u : Unit) (first : List ℕ) (now : Unit) (s : Sounded) (p : Progress) (input : List ℕ) → SoundGives u first now s input → p.held ≡ s.held → Going u first p.left now p input
begin u first now s p input gives held_is =
    record {
      bytes = [];
      unit_is = gives.unit_is ∙ ap (λ (b : Stream). b.unit) all;
      held_is = ap (λ (n : ℕ). take n input) held_is ∙ gives.held_is ∙ ap (λ (b : Stream). b.held) all;
      held_count = held_is ∙ gives.held_count ∙ ap (λ (b : Stream). length b.held) all;
      left_is = omega arith;
    }
  where
    all : one_block u first ≡ one_block u (first ++ [])
    all = ap (one_block u) (sym (append-nil first))

pub go_on : (u : Unit) (first : List ℕ) (most : ℕ) (now now' : Unit) (p p' : Progress) (input input' : List ℕ) → Fit u → Going u first most now p input → TurnGives now p input now' p' input' → Going u first most now' p' input'
unfolding next
go_on u first most now now' p p' input input' fit going turn =
    record {
      bytes = going.bytes ++ turn.bytes;
      unit_is = turn.unit_is ∙ ap (λ (s : Stream). s.unit) both ∙ ap (λ (l : List ℕ). (one_block u l).unit) one;
      held_is = turn.held_is ∙ ap (λ (s : Stream). s.held) both ∙ ap (λ (l : List ℕ). (one_block u l).held) one;
      held_count = turn.held_count ∙ ap (λ (s : Stream). length s.held) both ∙ ap (λ (l : List ℕ). length (one_block u l).held) one;
      left_is = omega (arith, turn.left_is, going.left_is, length-append going.bytes turn.bytes);
    }
  where
    all : List ℕ
    all = first ++ going.bytes

    one : all ++ turn.bytes ≡ first ++ (going.bytes ++ turn.bytes)
    one = append_assoc first going.bytes turn.bytes

    -- the sound is left out of account
    both : one_block now (take p.held input ++ turn.bytes) ≡ record { unit = (one_block u (all ++ turn.bytes)).unit; held = (one_block u (all ++ turn.bytes)).held; sound = (one_block (one_block u all).unit ((one_block u all).held ++ turn.bytes)).sound }
    both =
        (λ i. one_block (going.unit_is i) (going.held_is i ++ turn.bytes))
        ∙ (λ i. record { unit = (block_next u all turn.bytes fit i).unit; held = (block_next u all turn.bytes fit i).held; sound = (one_block (one_block u all).unit ((one_block u all).held ++ turn.bytes)).sound })

pub done : (u : Unit) (first : List ℕ) (most : ℕ) (now : Unit) (p : Progress) (input : List ℕ) → Fit now → Going u first most now p input → PlayGives u first most now p
done u first most now p input fit going =
    record { bytes = going.bytes; unit_is = going.unit_is; held_count = going.held_count; fit = fit; left_is = going.left_is }
