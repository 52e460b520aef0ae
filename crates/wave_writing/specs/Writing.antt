-- What the writer of wave files makes. Definitions only, by docs/SPECIFICATION.md, Wave files.
use Rattle.std.specs.Prelude.{cond, List, ◌++◌, ℕ, ◌+◌, ◌-◌, ◌%◌, eqb, leb, length, drop}
use Rattle.refusals.specs.Numbers.{is_accepted, unless, first_of, Verdict, Accepted}
use Rattle.refusals.specs.declared.Refusal.TheVariants.{InputLength, OutputShort}
use Rattle.wave.specs.Chunks.{two_bytes, four_bytes, riff, wave, format, data_name, chunk_heading, format_size, pcm, sides, rate, byte_rate, frame_bytes, bits}

-- "the plain 44-byte heading"
abbrev pub heading_size : ℕ
heading_size = 44

-- what the RIFF size counts: all that stands behind it
abbrev pub riff_size : ℕ → ℕ
riff_size n = heading_size - chunk_heading + n

-- the heading of so many bytes of data
unfoldable pub heading : ℕ → List ℕ
heading n =
    four_bytes riff ++ four_bytes (riff_size n) ++ four_bytes wave
    ++ four_bytes format ++ four_bytes format_size
    ++ two_bytes pcm ++ two_bytes sides ++ four_bytes rate ++ four_bytes byte_rate ++ two_bytes frame_bytes ++ two_bytes bits
    ++ four_bytes data_name ++ four_bytes n

-- the most bytes of data: the largest multiple of four whose RIFF size four bytes hold
abbrev pub most_data : ℕ
most_data = 4294967256

-- "5 for frames that are no multiple of four bytes, or more than 4,294,967,256 of them"
abbrev pub size_verdict : ℕ → Verdict
size_verdict n = unless (eqb (n % frame_bytes) 0) InputLength (unless (leb n most_data) InputLength Accepted)

-- then "6 for a short buffer": the answer for so many bytes of frames and of the buffer
unfoldable pub write_verdict : ℕ → ℕ → Verdict
write_verdict n room = first_of (size_verdict n) (unless (leb (heading_size + n) room) OutputShort Accepted)

-- the wave file of frames
unfoldable pub wave_of : List ℕ → List ℕ
wave_of d = heading (length d) ++ d

-- the buffer afterwards: "A refusal writes nothing, and bytes behind the written file stay"
unfoldable pub written : List ℕ → List ℕ → List ℕ
written d out = cond (is_accepted (write_verdict (length d) (length out))) (wave_of d ++ drop (heading_size + length d) out) out
