-- A block of a ++ b is the block of a and then the block of b; a fit unit stays fit, and a unit keeps its shape.
use mathlib.Core.Path.{◌≡◌, refl, sym, ap, ap₂, ◌∙◌}
use mathlib.Core.Bool.{Bool, true, false, cond}
use mathlib.Core.List.{List, ◌∷◌, ◌++◌, append_assoc, append-nil}
use Prim.Native.Nat.{ℕ, zero, suc, ◌+◌, ◌*◌, ◌/◌, ◌%◌, ◌≤◌, ◌<◌}
use native.Mathlib.Nat.{div-add-mod', mod-lt, mul-le-mul_left}
use native.Mathlib.Omega.{arith}
use lib.Dec.{lit≤}
use lib.IntN.{ℤ, pos, ◌*ℤ◌}
use lib.ListN.{length, drop, length-append, get_or-append}
use lib.Seq.{get_or-append-add, drop-append-add, drop-length}
use Rattle.refusals.specs.Numbers.{is_accepted}
use Rattle.unit.specs.declared.Unit.{Unit}
use Rattle.unit.specs.Fit.{Fit}
use Rattle.unit.specs.Shaped.{Shaped}
use Rattle.frames.specs.Bytes.{sample_at, words_at, frame_size, frame_count}
use Rattle.frames.specs.Played.{played_on, sound_on, block_words, played, sound}
use Rattle.frames.proofs.Many.{played_same, sound_same, played_behind, sound_behind, played_fit, played_shaped}
use Rattle.blocks.specs.Block.{block_verdict, block_played, block_output}
use Rattle.blocks.proofs.Block.{BlockAccepts, accepts_block, four_a_frame}

-- ---- the input words of a ++ b

module _ (a b : List ℕ) where
  pub sample_front : (at : ℕ) → at + 1 < length a → sample_at (a ++ b) at ≡ sample_at a at
  unfolding sample_at
  sample_front at h = rw (get_or-append a b 0 at (omega arith), get_or-append a b 0 (at + 1) h)

  words_front : (channels at : ℕ) → at + frame_size channels ≤ length a → words_at channels (a ++ b) at ≡ words_at channels a at
  words_front zero at h = refl
  words_front (suc channels) at h =
      ap₂ ◌∷◌ (ap (λ (s : ℤ). pos 256 *ℤ s) (sample_front at (omega arith))) (words_front channels (at + 2) (omega arith))

  pub sample_behind : (at : ℕ) → sample_at (a ++ b) (length a + at) ≡ sample_at b at
  unfolding sample_at
  sample_behind at = rw (get_or-append-add a b at 0, next) (rw (get_or-append-add a b (at + 1) 0))
    where
      next : length a + at + 1 ≡ length a + (at + 1)
      next = omega arith

  words_behind : (channels at : ℕ) → words_at channels (a ++ b) (length a + at) ≡ words_at channels b at
  words_behind zero at = refl
  words_behind (suc channels) at =
      ap₂ ◌∷◌ (ap (λ (s : ℤ). pos 256 *ℤ s) (sample_behind at))
      (ap (words_at channels (a ++ b)) next ∙ words_behind channels (at + 2))
    where
      next : length a + at + 2 ≡ length a + (at + 2)
      next = omega arith

-- ---- a has m frames

module _ (channels : ℕ) (u : Unit) (a b : List ℕ) where
  module _ (m : ℕ) (h : length a ≡ frame_size channels * m) where
    -- the unit after a
    abbrev between : Unit
    between = played channels u a m

    -- the words of a, and those behind them
    first_words_lem : (k : ℕ) → k < m → block_words channels (a ++ b) k ≡ block_words channels a k
    first_words_lem k l = words_front a b channels (frame_size channels * k) (omega (arith, h, mul-le-mul_left (frame_size channels) l))

    later_words : (k : ℕ) → block_words channels (a ++ b) (k + m) ≡ block_words channels b k
    later_words k = ap (words_at channels (a ++ b)) place ∙ words_behind a b channels (frame_size channels * k)
      where
        place : frame_size channels * (k + m) ≡ length a + frame_size channels * k
        place = omega (arith, h)

    between_is : played channels u (a ++ b) m ≡ between
    between_is = played_same (block_words channels (a ++ b)) (block_words channels a) u m first_words_lem

    pub played_append : (n : ℕ) → played channels u (a ++ b) (n + m) ≡ played channels between b n
    played_append n =
        played_behind (block_words channels (a ++ b)) u m n
        ∙ (λ i. played_on (λ (k : ℕ). later_words k i) (between_is i) n)

    pub sound_append : (n : ℕ) → sound channels u (a ++ b) (n + m) ≡ sound channels u a m ++ sound channels between b n
    sound_append n =
        sound_behind (block_words channels (a ++ b)) u m n
        ∙ ap₂ ◌++◌
        (sound_same (block_words channels (a ++ b)) (block_words channels a) u m first_words_lem)
        (λ i. sound_on (λ (k : ℕ). later_words k i) (between_is i) n)

-- ---- the blocks themselves

-- an accepted block's unit and output
module _ (channels : ℕ) (u : Unit) (input : List ℕ) where
  pub accepted_unit : (room : ℕ) → BlockAccepts channels u (length input) room → (block_played channels u input room).unit ≡ played channels u input (frame_count channels input)
  unfolding block_played
  accepted_unit room c = simp (accepts_block channels u (length input) room c)

  pub accepted_output : (room : List ℕ) → BlockAccepts channels u (length input) (length room) → block_output channels u input room ≡ sound channels u input (frame_count channels input) ++ drop (length input) room
  unfolding block_output
  accepted_output room c = simp (accepts_block channels u (length input) (length room) c)

  -- what holds before and after all frames holds of the unit that the block hands back, accepted or refused
  block_keeps : (P : Unit → Type 0) (room : ℕ) → P u → P (played channels u input (frame_count channels input)) → P (block_played channels u input room).unit
  unfolding block_played
  block_keeps P room before after = go (is_accepted (block_verdict channels u (length input) room))
    where
      go : (t : Bool) → P (cond t (played channels u input (frame_count channels input)) u)
      go true = after
      go false = before

  -- a fit unit stays fit
  pub block_fit : (room : ℕ) → Fit u → Fit (block_played channels u input room).unit
  block_fit room f = block_keeps Fit room f (played_fit channels u input (frame_count channels input) f)

  -- and keeps its shape
  pub block_shaped : (room : ℕ) → Shaped channels u → Shaped channels (block_played channels u input room).unit
  block_shaped room s = block_keeps (Shaped channels) room s (played_shaped channels u input (frame_count channels input) s)

-- the room for a, as long as a, and the room for b, at least as long as b
module _ (u : Unit) (a b p q : List ℕ) (fit : Fit u) (fa : length a % 4 ≡ 0) (fb : length b % 4 ≡ 0) (ha : length p ≡ length a) (hb : length b ≤ length q) where
  -- the unit after the block of a
  abbrev half : Unit
  half = (block_played 2 u a (length p)).unit

  first : BlockAccepts 2 u (length a) (length p)
  first = record { fit = fit; frames = fa; enough = omega (arith, ha) }

  half_is : half ≡ played 2 u a (length a / 4)
  half_is = accepted_unit 2 u a (length p) first

  second : BlockAccepts 2 half (length b) (length q)
  second = record { fit = block_fit 2 u a (length p) fit; frames = fb; enough = hb }

  both : BlockAccepts 2 u (length (a ++ b)) (length (p ++ q))
  both =
      record {
        fit = fit;
        frames =
            omega (
              arith,
              length-append a b,
              div-add-mod' (length (a ++ b)) 4,
              mod-lt (length (a ++ b)) {m = 4} (lit≤ tt),
              four_a_frame (length a) fa,
              four_a_frame (length b) fb,
            );
        enough = omega (arith, length-append a b, length-append p q, ha, hb);
      }

  count : length (a ++ b) / 4 ≡ length b / 4 + length a / 4
  count = omega (arith, length-append a b, four_a_frame (length a) fa, four_a_frame (length b) fb, four_a_frame (length (a ++ b)) both.frames)

  whole : length a ≡ frame_size 2 * (length a / 4)
  whole = sym (four_a_frame (length a) fa)

  pub block_append_unit : (block_played 2 u (a ++ b) (length (p ++ q))).unit ≡ (block_played 2 half b (length q)).unit
  block_append_unit =
      accepted_unit 2 u (a ++ b) (length (p ++ q)) both
      ∙ ap (played 2 u (a ++ b)) count
      ∙ played_append 2 u a b (length a / 4) whole (length b / 4)
      ∙ ap (λ (v : Unit). played 2 v b (length b / 4)) (sym half_is)
      ∙ sym (accepted_unit 2 half b (length q) second)

  pub block_append_output : block_output 2 u (a ++ b) (p ++ q) ≡ block_output 2 u a p ++ block_output 2 half b q
  block_append_output =
      accepted_output 2 u (a ++ b) (p ++ q) both
      ∙ ap₂ ◌++◌ sounds behind
      ∙ append_assoc (sound 2 u a (length a / 4)) (sound 2 half b (length b / 4)) (drop (length b) q)
      ∙ ap₂ ◌++◌ (sym left) (sym (accepted_output 2 half b q second))
    where
      sounds : sound 2 u (a ++ b) (length (a ++ b) / 4) ≡ sound 2 u a (length a / 4) ++ sound 2 half b (length b / 4)
      sounds =
          ap (sound 2 u (a ++ b)) count
          ∙ sound_append 2 u a b (length a / 4) whole (length b / 4)
          ∙ ap (λ (v : Unit). sound 2 u a (length a / 4) ++ sound 2 v b (length b / 4)) (sym half_is)

      behind : drop (length (a ++ b)) (p ++ q) ≡ drop (length b) q
      behind = ap (λ (n : ℕ). drop n (p ++ q)) (length-append a b ∙ ap (λ (n : ℕ). n + length b) (sym ha)) ∙ drop-append-add p q (length b)

      left : block_output 2 u a p ≡ sound 2 u a (length a / 4)
      left =
          accepted_output 2 u a p first
          ∙ ap (λ (l : List ℕ). sound 2 u a (length a / 4) ++ l) (ap (λ (n : ℕ). drop n p) (sym ha) ∙ drop-length p)
          ∙ append-nil (sound 2 u a (length a / 4))
