-- A stream, cut anywhere, is played as one block.
use mathlib.Core.Path.{◌≡◌, refl, sym, ap, ap₂, ◌∙◌}
use mathlib.Core.Bool.{true}
use mathlib.Core.List.{List, [], ◌∷◌, ◌++◌, append_assoc, append-nil}
use Prim.Native.Nat.{ℕ, ◌-◌, ◌≤◌}
use native.Mathlib.Nat.{le_refl}
use native.Mathlib.Omega.{arith}
use lib.ListN.{length, take, drop, length-drop}
use lib.Seq.{drop-length, take_at}
use Rattle.refusals.proofs.Laws.{passed, accepted_only}
use Rattle.refusals.specs.Numbers.{is_accepted}
use Rattle.unit.specs.declared.Unit.{Unit}
use Rattle.unit.specs.Fit.{Fit}
use Rattle.frames.specs.Bytes.{frame_count}
use Rattle.frames.specs.Played.{played_on, sound_on, sound}
use Rattle.frames.proofs.Many.{sound-length, played_channels}
use Rattle.blocks.specs.Block.{block_played, block_output}
use Rattle.blocks.proofs.Block.{BlockAccepts, accepts_block, four_a_frame}
use Rattle.blocks.proofs.Append.{accepted_unit, accepted_output, block_fit, block_append_unit, block_append_output}
use Rattle.stream.specs.Advance.{whole_count, whole_frames, tail_bytes, played_count, advanced, advanced_output}
use Rattle.stream.specs.Claim.{Stream, one_block, begun, next, streamed, all_of, Advances, Ready, CutAnywhere}
use Rattle.stream.proofs.Cuts.{whole_length, whole_frames_lem, cut_whole, cut_tail}

-- ---- a read after others

-- the bytes a as one block, and then a read of b, are a ++ b as one block
pub block_next : (u : Unit) (a b : List ℕ) → Fit u → next (one_block u a) b ≡ one_block u (a ++ b)
unfolding next one_block
block_next u a b fit =
    λ i. record {
      unit = (sym (block_append_unit u first rest first rest fit (whole_frames_lem a) (whole_frames_lem behind) refl (le_refl (length rest))) ∙ ap (λ (l : List ℕ). (block_played 2 u l (length l)).unit) joined) i;
      held = sym (cut_tail a b) i;
      sound = (sym (block_append_output u first rest first rest fit (whole_frames_lem a) (whole_frames_lem behind) refl (le_refl (length rest))) ∙ ap (λ (l : List ℕ). block_output 2 u l l) joined) i;
    }
  where
    behind : List ℕ
    behind = tail_bytes 2 a ++ b

    first : List ℕ
    first = whole_frames 2 a

    rest : List ℕ
    rest = whole_frames 2 behind

    joined : first ++ rest ≡ whole_frames 2 (a ++ b)
    joined = sym (cut_whole a b)

from_block : (u : Unit) (a : List ℕ) (reads : List (List ℕ)) → Fit u → streamed (one_block u a) reads ≡ one_block u (a ++ all_of reads)
from_block u a [] fit = ap (one_block u) (sym (append-nil a))
from_block u a (b ∷ reads) fit =
    ap (λ (s : Stream). streamed s reads) (block_next u a b fit)
    ∙ from_block u (a ++ b) reads fit
    ∙ ap (one_block u) (append_assoc a b (all_of reads))

-- nothing read is an empty block
pub begun_empty : (u : Unit) → Fit u → begun u ≡ one_block u []
unfolding one_block played_on sound_on
begun_empty u fit =
    λ i. record { unit = sym (accepted_unit 2 u [] 0 empty) i; held = []; sound = sym (accepted_output 2 u [] [] empty) i }
  where
    empty : BlockAccepts 2 u 0 0
    empty = record { fit = fit; frames = refl; enough = le_refl 0 }

one_block_lem : (u : Unit) (reads : List (List ℕ)) → Fit u → streamed (begun u) reads ≡ one_block u (all_of reads)
one_block_lem u reads fit = ap (λ (s : Stream). streamed s reads) (begun_empty u fit) ∙ from_block u [] reads fit

-- ---- one read

module _ (s : Stream) (bytes room : List ℕ) (ready : Ready s) (enough : length (s.held ++ bytes) ≤ length room) where
  abbrev u : Unit
  u = s.unit

  abbrev input : List ℕ
  input = s.held ++ bytes

  abbrev frames : List ℕ
  frames = whole_frames 2 input

  accepts_in : (n : ℕ) → length frames ≤ n → BlockAccepts 2 u (length frames) n
  accepts_in n h = record { fit = ready.fit; frames = whole_frames_lem input; enough = h }

  accepts : BlockAccepts 2 u (length frames) (length room)
  accepts = accepts_in (length room) (omega (arith, whole_length input, enough))

  exactly : BlockAccepts 2 u (length frames) (length frames)
  exactly = accepts_in (length frames) (le_refl (length frames))

  abbrev heard : List ℕ
  heard = sound 2 u frames (frame_count 2 frames)

  heard-length : length heard ≡ length frames
  heard-length = sound-length 2 u frames (frame_count 2 frames) ready.channels_are ∙ four_a_frame (length frames) (whole_frames_lem input)

  exact_sound : block_output 2 u frames frames ≡ heard
  exact_sound = accepted_output 2 u frames frames exactly ∙ ap (λ (l : List ℕ). heard ++ l) (drop-length frames) ∙ append-nil heard

  is_accepted_lem : is_accepted (block_played 2 u frames (length room)).verdict ≡ true
  unfolding block_played
  is_accepted_lem = accepts_block 2 u (length frames) (length room) accepts

  played_all : played_count 2 u input (length room) ≡ whole_count 2 input
  played_all = sym (passed (is_accepted (block_played 2 u frames (length room)).verdict) (whole_count 2 input) 0 is_accepted_lem)

  advances : Advances s bytes room
  unfolding advanced advanced_output next one_block
  advances =
      record {
        accepts = accepted_only (block_played 2 u frames (length room)).verdict is_accepted_lem;
        unit_is = accepted_unit 2 u frames (length room) accepts ∙ sym (accepted_unit 2 u frames (length frames) exactly);
        played_few = omega (arith, played_all);
        held_is = ap (λ (n : ℕ). drop n input) played_all;
        held_count = ap (λ (n : ℕ). length input - n) played_all ∙ sym (length-drop (whole_count 2 input) input);
        sound_is =
            ap (λ (l : List ℕ). s.sound ++ l)
            (ap₂ take played_all (accepted_output 2 u frames room accepts)
            ∙ take_at heard (drop (length frames) room) (whole_count 2 input) (heard-length ∙ whole_length input)
            ∙ sym exact_sound);
      }

stays_ready : (s : Stream) (bytes : List ℕ) → Ready s → Ready (next s bytes)
unfolding next one_block
stays_ready s bytes ready =
    record {
      fit = block_fit 2 s.unit frames' (length frames') ready.fit;
      channels_are = ap (λ (v : Unit). length v.channels) (accepted_unit 2 s.unit frames' (length frames') accepts') ∙ played_channels 2 s.unit frames' (frame_count 2 frames') ready.channels_are;
    }
  where
    frames' : List ℕ
    frames' = whole_frames 2 (s.held ++ bytes)

    accepts' : BlockAccepts 2 s.unit (length frames') (length frames')
    accepts' = record { fit = ready.fit; frames = whole_frames_lem (s.held ++ bytes); enough = le_refl (length frames') }

pub cut_anywhere : CutAnywhere
cut_anywhere = record { advances = advances; stays_ready = stays_ready; one_block = one_block_lem }
