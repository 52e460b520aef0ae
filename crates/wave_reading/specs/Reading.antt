-- What reading a wave file gives. Definitions only, by docs/SPECIFICATION.md, Wave files.
use Rattle.std.specs.Prelude.{List, ℕ, ◌+◌, ◌-◌, ◌%◌, eqb, length, take, drop, Result, Ok, Err}
use Rattle.refusals.specs.Numbers.{unless, first_of, Verdict, Accepted}
use Rattle.refusals.specs.declared.Refusal.{Refusal}
use Rattle.refusals.specs.declared.Refusal.TheVariants.{InputLength, NoData}
use Rattle.wave.specs.Chunks.{frame_bytes}
use Rattle.wave_reading.specs.declared.Located.{Located}
use Rattle.wave_reading.specs.Walk.{place_of, located}

-- how many bytes of the data are missing behind so many of the file
abbrev pub missing_of : Located → ℕ → ℕ
missing_of place count = place.from + place.size - count

-- data of a size, of which so many bytes are missing: 18 for one "that runs past" the file; "The data size is a multiple of four, else 5"
abbrev pub data_verdict : ℕ → ℕ → Verdict
data_verdict missing size = unless (eqb missing 0) NoData (unless (eqb (size % frame_bytes) 0) InputLength Accepted)

-- where the chunks lead, then the data: the verdict, in a file of so many bytes
abbrev pub verdict_at : Result Located Refusal → ℕ → Verdict
verdict_at (Ok place) count = data_verdict (missing_of place count) place.size
verdict_at (Err refusal) count = Err refusal

unfoldable pub read_verdict : List ℕ → Verdict
read_verdict b = verdict_at (located b) (length b)

-- where the data lies, or the refusal
unfoldable pub found : List ℕ → Result Located Refusal
found b = first_of (read_verdict b) (located b)

-- the data, "a part of the file", "an empty part after a refusal"
unfoldable pub data_of : List ℕ → List ℕ
data_of b = take (place_of (found b)).size (drop (place_of (found b)).from b)

-- where that part begins: a place is a block and an offset in it
abbrev pub data_place : List ℕ → ℕ × ℕ → ℕ × ℕ
data_place b p = (p.0, (place_of (found b)).from + p.1)
