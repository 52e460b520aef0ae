-- Whole frames and tail: their lengths, and those of bytes that were cut in two.
use mathlib.Core.Path.{◌≡◌, sym, ap, ap₂, ◌∙◌}
use mathlib.Core.List.{List, ◌++◌, append_assoc}
use Prim.Native.Nat.{ℕ, ◌+◌, ◌%◌}
use native.Mathlib.Nat.{div-add-mod', mod-lt}
use native.Mathlib.Omega.{arith}
use lib.Dec.{lit≤}
use lib.ListN.{length, take, drop, length-append, length-drop, take-append-drop}
use lib.Seq.{length-take-le, take-append-add, drop-append-add}
use Rattle.stream.specs.Advance.{whole_count, whole_frames, tail_bytes}

module _ (a : List ℕ) where
  pub whole_length : length (whole_frames 2 a) ≡ whole_count 2 a
  whole_length = length-take-le (whole_count 2 a) a (omega arith)

  pub tail_length : length (tail_bytes 2 a) ≡ length a % 4
  tail_length = length-drop (whole_count 2 a) a ∙ omega (arith, div-add-mod' (length a) 4)

  pub whole_frames_lem : length (whole_frames 2 a) % 4 ≡ 0
  whole_frames_lem = omega (arith, whole_length, div-add-mod' (length a) 4, div-add-mod' (length (whole_frames 2 a)) 4)

-- the first part's whole frames, and then those of its tail and the second part
module _ (a b : List ℕ) where
  abbrev rest : List ℕ
  rest = tail_bytes 2 a ++ b

  joined : a ++ b ≡ whole_frames 2 a ++ rest
  joined = ap (λ (l : List ℕ). l ++ b) (sym (take-append-drop (whole_count 2 a) a)) ∙ append_assoc (whole_frames 2 a) (tail_bytes 2 a) b

  count : whole_count 2 (a ++ b) ≡ length (whole_frames 2 a) + whole_count 2 rest
  count =
      omega (
        arith,
        whole_length a,
        tail_length a,
        length-append a b,
        length-append (tail_bytes 2 a) b,
        div-add-mod' (length a) 4,
        div-add-mod' (length (a ++ b)) 4,
        div-add-mod' (length rest) 4,
        mod-lt (length (a ++ b)) {m = 4} (lit≤ tt),
        mod-lt (length rest) {m = 4} (lit≤ tt),
      )

  pub cut_whole : whole_frames 2 (a ++ b) ≡ whole_frames 2 a ++ whole_frames 2 rest
  cut_whole = ap₂ take count joined ∙ take-append-add (whole_frames 2 a) rest (whole_count 2 rest)

  pub cut_tail : tail_bytes 2 (a ++ b) ≡ tail_bytes 2 rest
  cut_tail = ap₂ drop count joined ∙ drop-append-add (whole_frames 2 a) rest (whole_count 2 rest)
