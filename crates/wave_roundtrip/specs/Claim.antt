-- The round trip of wave files: docs/SPECIFICATION.md, Wave files. Definitions only; `WaveRoundTrip`, at the end, is proved in
-- proofs/Holds.antt.
--
-- "Writing and then reading gives the frames", whatever stands behind the file in the buffer.
--
-- What it rests on. `written` and `write_verdict` (wave_writing/specs/Writing.antt) are what the contract of `wave_writing::write` promises, `found`
-- and `data_of` (wave_reading/specs/Reading.antt) what those of `wave_reading::find` and `wave_reading::data` promise, for all inputs. Under
-- them stand: the walk over the chunks (wave_reading/specs/Walk.antt), numbers in bytes, names and sizes (wave/specs/Chunks.antt) and the
-- refusals' numbers (refusals/specs/Numbers.antt).
use Rattle.std.specs.Prelude.{◌≡◌, true, List, ◌++◌, ℕ, ◌+◌, length, Ok}
use Rattle.refusals.specs.Numbers.{is_accepted}
use Rattle.wave_reading.specs.Reading.{found, data_of}
use Rattle.wave_writing.specs.Writing.{heading_size, size_verdict, write_verdict, wave_of, written}

-- the bytes are accepted as a wave file, and these frames are its data, behind a plain heading
pub record ReadsAs (b frames : List ℕ) : Type 0 where
  pub found_is : found b ≡ Ok (record { from = heading_size; size = length frames })
  pub frames_are : data_of b ≡ frames

pub record WaveRoundTrip : Type 0 where
  -- the buffer of an accepted writing, all of it, reads as the frames
  pub reads_back : (frames buffer : List ℕ) → is_accepted (write_verdict (length frames) (length buffer)) ≡ true → ReadsAs (written frames buffer) frames
  -- so does the file alone, and so it does with anything behind it
  pub file_reads_back : (frames : List ℕ) → is_accepted (size_verdict (length frames)) ≡ true → ReadsAs (wave_of frames) frames
  pub front_reads_back : (frames behind : List ℕ) → is_accepted (size_verdict (length frames)) ≡ true → ReadsAs (wave_of frames ++ behind) frames
  -- the file has 44 bytes more than the frames
  pub length_is : (frames : List ℕ) → length (wave_of frames) ≡ heading_size + length frames
