-- What is found in small files, at the corners of docs/SPECIFICATION.md, Wave files. Definitions only; `Examples`, at the end, is proved in
-- proofs/Examples.antt.
use Rattle.std.specs.Prelude.{◌≡◌, List, [], ◌∷◌, ◌++◌, ℕ, take, Result, Ok, Err}
use Rattle.refusals.specs.declared.Refusal.{Refusal}
use Rattle.refusals.specs.declared.Refusal.TheVariants.{NoWave, WaveFormat, NoData, InputLength}
use Rattle.wave.specs.Chunks.{two_bytes, four_bytes, riff, wave, format, data_name}
use Rattle.wave_reading.specs.declared.Located.{Located}
use Rattle.wave_reading.specs.Reading.{found}

-- a file of these chunks; the RIFF size is wrong in all of them
abbrev pub file_of : List ℕ → List ℕ
file_of chunks = four_bytes riff ++ (four_bytes 7 ++ (four_bytes wave ++ chunks))

-- a chunk of a name and a size, with these bytes behind the heading
abbrev pub chunk_of : ℕ → ℕ → List ℕ → List ℕ
chunk_of name size bytes = four_bytes name ++ (four_bytes size ++ bytes)

-- the 16 bytes that fit, and the `fmt ` of them
abbrev pub fitting : List ℕ
fitting = two_bytes 1 ++ (two_bytes 2 ++ (four_bytes 44100 ++ (four_bytes 176400 ++ (two_bytes 4 ++ two_bytes 16))))

abbrev pub format_chunk : List ℕ
format_chunk = chunk_of format 16 fitting

-- two frames, and the `data` of them
abbrev pub frames : List ℕ
frames = 0 ∷ 1 ∷ 2 ∷ 3 ∷ 4 ∷ 5 ∷ 6 ∷ 7 ∷ []

abbrev pub data_chunk : List ℕ
data_chunk = chunk_of data_name 8 frames

-- "LIST", a chunk that is skipped, and the largest size
abbrev pub list : ℕ
list = 1414744396

abbrev pub largest : ℕ
largest = 4294967295

-- accepted, with so many bytes from a place on
abbrev pub at : ℕ → ℕ → Result Located Refusal
at from size = Ok (record { from = from; size = size })

pub record Examples : Type 0 where
  -- ---- accepted
  pub plain : found (file_of (format_chunk ++ data_chunk)) ≡ at 44 8
  pub no_frames : found (file_of (format_chunk ++ chunk_of data_name 0 [])) ≡ at 44 0
  pub odd_chunk : found (file_of (chunk_of list 3 (1 ∷ 2 ∷ 3 ∷ 0 ∷ []) ++ (format_chunk ++ data_chunk))) ≡ at 56 8
  pub odd_format : found (file_of (chunk_of format 17 (fitting ++ (9 ∷ 0 ∷ [])) ++ data_chunk)) ≡ at 46 8
  pub second_format : found (file_of (format_chunk ++ (chunk_of format 2 (9 ∷ 9 ∷ []) ++ data_chunk))) ≡ at 54 8
  pub second_data : found (file_of (format_chunk ++ (data_chunk ++ chunk_of data_name 4 (9 ∷ 9 ∷ 9 ∷ 9 ∷ [])))) ≡ at 44 8
  -- ---- 16
  pub other_wave : found (four_bytes riff ++ (four_bytes 7 ++ (four_bytes list ++ (format_chunk ++ data_chunk)))) ≡ Err NoWave
  pub eleven_bytes : found (take 11 (file_of [])) ≡ Err NoWave
  -- ---- 17
  pub data_first : found (file_of (data_chunk ++ format_chunk)) ≡ Err WaveFormat
  pub data_first_and_past : found (file_of (chunk_of data_name largest [])) ≡ Err WaveFormat
  pub short_format : found (file_of (chunk_of format 15 fitting ++ data_chunk)) ≡ Err WaveFormat
  pub format_past : found (file_of (chunk_of format largest (fitting ++ data_chunk))) ≡ Err WaveFormat
  -- ---- 18
  pub no_chunks : found (file_of []) ≡ Err NoData
  pub seven_bytes : found (file_of (format_chunk ++ (four_bytes data_name ++ (0 ∷ 0 ∷ 0 ∷ [])))) ≡ Err NoData
  pub chunk_past : found (file_of (format_chunk ++ chunk_of list largest data_chunk)) ≡ Err NoData
  pub data_past : found (file_of (format_chunk ++ chunk_of data_name 9 frames)) ≡ Err NoData
  -- ---- 5
  pub six_bytes : found (file_of (format_chunk ++ chunk_of data_name 6 frames)) ≡ Err InputLength
  pub seven_and_no_pad : found (file_of (format_chunk ++ chunk_of data_name 7 (take 7 frames))) ≡ Err InputLength
