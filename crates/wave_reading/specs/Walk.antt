-- The walk over the chunks of a wave file, up to the data. Definitions only, by docs/SPECIFICATION.md, Wave files.
use Rattle.std.specs.Prelude.{Bool, false, cond, not, ◌&&◌, ◌||◌, List, ℕ, zero, suc, ◌+◌, ◌%◌, eqb, leb, ltb, length, Result, Ok, Err}
use Rattle.refusals.specs.declared.Refusal.{Refusal}
use Rattle.refusals.specs.declared.Refusal.TheVariants.{NoWave, WaveFormat, NoData}
use Rattle.refusals.specs.Numbers.{unless}
use Rattle.wave.specs.Chunks.{two_at, four_at, riff, wave, format, data_name, file_heading, chunk_heading, name_size, pcm, sides, rate, byte_rate, frame_bytes, bits, format_size}
use Rattle.wave_reading.specs.declared.Located.{Located}

-- where the data lies; none, and at the front, after a refusal
abbrev pub place_of : Result Located Refusal → Located
place_of (Ok place) = place
place_of (Err refusal) = record { from = 0; size = 0 }

-- "16 no RIFF or WAVE heading"; what stands between the two, "the RIFF size", "is not used"
unfoldable pub has_heading : List ℕ → Bool
has_heading b = leb file_heading (length b) && eqb (four_at b 0) riff && eqb (four_at b 8) wave

-- ---- the chunk at a place: a name, a size, the body, and "the pad byte behind every odd size"

abbrev pub size_at : List ℕ → ℕ → ℕ
size_at b at = four_at b (at + name_size)

abbrev pub body_at : ℕ → ℕ
body_at at = at + chunk_heading

abbrev pub end_at : List ℕ → ℕ → ℕ
end_at b at = body_at at + size_at b at

abbrev pub next_at : List ℕ → ℕ → ℕ
next_at b at = end_at b at + size_at b at % 2

-- ---- the `fmt `

-- "PCM format 1, two sides, 44,100, 16 bits", "176,400 bytes a second and four bytes a frame", in the order of the bytes from a place on
unfoldable pub says_format : List ℕ → ℕ → Bool
says_format b at =
    eqb (two_at b at) pcm && eqb (two_at b (at + 2)) sides && eqb (four_at b (at + 4)) rate && eqb (four_at b (at + 8)) byte_rate
    && eqb (two_at b (at + 12)) frame_bytes
    && eqb (two_at b (at + 14)) bits

-- "A fitting `fmt ` has at least 16 bytes", and lies within the file
unfoldable pub format_fits : List ℕ → ℕ → Bool
format_fits b at = leb format_size (size_at b at) && leb (end_at b at) (length b) && says_format b (body_at at)

-- "17 a `fmt ` that differs, runs past the file": the first one, `seen` saying whether one has been
unfoldable pub misfits : List ℕ → ℕ → Bool → Bool
misfits b at seen = not seen && eqb (four_at b at) format && not (format_fits b at)

-- ---- the walk

-- data from a place on, of a size: "17" where the `fmt ` "is missing when the data comes"
abbrev pub data_from : ℕ → ℕ → Bool → Result Located Refusal
data_from from size seen = unless seen WaveFormat (Ok (record { from = from; size = size }))

-- the chunk at a place, where `behind` is what the chunks behind it give: "18 no `data` before the file ends"; "a chunk heading of under eight bytes
-- is none"
unfoldable pub chunk : List ℕ → ℕ → Bool → Result Located Refusal → Result Located Refusal
chunk b at seen behind =
    cond (ltb (length b) (body_at at)) (Err NoData)
    (cond (eqb (four_at b at) data_name) (data_from (body_at at) (size_at b at) seen)
    (cond (misfits b at seen) (Err WaveFormat) behind))

-- the chunks from a place on, so many at most
unfoldable pub chunks : ℕ → List ℕ → ℕ → Bool → Result Located Refusal
chunks zero b at seen = Err NoData
chunks (suc n) b at seen = chunk b at seen (chunks n b (next_at b at) (seen || eqb (four_at b at) format))

-- where the data lies, by the chunks: a file has fewer of them than bytes
unfoldable pub located : List ℕ → Result Located Refusal
located b = cond (has_heading b) (chunks (length b) b file_heading false) (Err NoWave)
