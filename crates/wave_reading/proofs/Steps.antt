-- The walk over the chunks, a chunk at a time. Once as many chunks are allowed as there are bytes, one more changes nothing, so the walk meets
-- an equation of its own.
use mathlib.Core.Path.{◌≡◌, refl, sym, ap, ◌∙◌}
use mathlib.Core.Logic.{◌≢◌}
use mathlib.Core.Bool.{Bool, true, false, ◌||◌}
use mathlib.Core.List.{List}
use Prim.Native.Nat.{ℕ, zero, suc, ◌+◌, ◌≤◌, ◌<◌}
use native.Mathlib.Omega.{arith}
use borrow.Author.Tests.{lt-ltb, le-ltb, eq-eqb, ne_eqb}
use lib.Dec.{eqb}
use lib.ListN.{length}
use Rattle.std.specs.Prelude.{Err}
use Rattle.refusals.specs.declared.Refusal.TheVariants.{WaveFormat, NoData}
use Rattle.wave.specs.Chunks.{four_at, format, data_name}
use Rattle.wave_reading.specs.Walk.{chunk, chunks, next_at, body_at, size_at, data_from, misfits}

more : (n : ℕ) (b : List ℕ) (at : ℕ) (seen : Bool) → length b ≤ at + n → chunks n b at seen ≡ chunks (suc n) b at seen
unfolding chunks chunk
more zero b at seen h = simp (lt-ltb (length b) (body_at at) (omega arith))
more (suc n) b at seen h = ap (chunk b at seen) (more n b (next_at b at) (seen || eqb (four_at b at) format) (omega arith))

module _ (b : List ℕ) (at : ℕ) (seen : Bool) where
  -- what the chunk at a place gives, and those behind it
  unroll : chunks (length b) b at seen ≡ chunk b at seen (chunks (length b) b (next_at b at) (seen || eqb (four_at b at) format))
  unfolding chunks
  unroll = more (length b) b at seen (omega arith)

  -- no chunk
  pub walk_over : length b < body_at at → chunks (length b) b at seen ≡ Err NoData
  unfolding chunk
  walk_over h = unroll ∙ simp (lt-ltb (length b) (body_at at) h)

  -- the data
  pub walk_data : body_at at ≤ length b → four_at b at ≡ data_name → chunks (length b) b at seen ≡ data_from (body_at at) (size_at b at) seen
  unfolding chunk
  walk_data h e = unroll ∙ simp (le-ltb (length b) (body_at at) h, eq-eqb (four_at b at) data_name e)

  -- a `fmt ` that does not fit
  pub walk_misfit : body_at at ≤ length b → four_at b at ≢ data_name → misfits b at seen ≡ true → chunks (length b) b at seen ≡ Err WaveFormat
  unfolding chunk
  walk_misfit h e k = unroll ∙ simp (le-ltb (length b) (body_at at) h, ne_eqb (four_at b at) data_name e, k)

  -- any other chunk
  pub walk_next : (next : ℕ) → next ≡ next_at b at → body_at at ≤ length b → four_at b at ≢ data_name → misfits b at seen ≡ false → chunks (length b) b next (seen || eqb (four_at b at) format) ≡ chunks (length b) b at seen
  unfolding chunk
  walk_next next n h e k = rw n (sym (unroll ∙ simp (le-ltb (length b) (body_at at) h, ne_eqb (four_at b at) data_name e, k)))

-- any other chunk that runs past the file
pub walk_past : (b : List ℕ) (at : ℕ) (seen : Bool) → length b < next_at b at → body_at at ≤ length b → four_at b at ≢ data_name → misfits b at seen ≡ false → chunks (length b) b at seen ≡ Err NoData
walk_past b at seen n h e k = sym (walk_next b at seen (next_at b at) refl h e k) ∙ walk_over b (next_at b at) (seen || eqb (four_at b at) format) (omega arith)
