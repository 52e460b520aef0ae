-- RIFF/WAVE files: numbers in bytes, and the sizes and names of a file's parts. Definitions only, by docs/SPECIFICATION.md, Wave files.
use Rattle.std.specs.Prelude.{List, [], ◌∷◌, ℕ, ◌+◌, ◌*◌, ◌/◌, ◌%◌, get_or}

-- ---- numbers in bytes, low byte first

-- the number of two bytes, and of four
abbrev pub two : ℕ → ℕ → ℕ
two a b = a + 256 * b

abbrev pub four : ℕ → ℕ → ℕ → ℕ → ℕ
four a b c d = a + 256 * b + 65536 * c + 16777216 * d

-- the number of two bytes from a place on, and of four
unfoldable pub two_at : List ℕ → ℕ → ℕ
two_at b at = two (get_or b at 0) (get_or b (at + 1) 0)

unfoldable pub four_at : List ℕ → ℕ → ℕ
four_at b at = four (get_or b at 0) (get_or b (at + 1) 0) (get_or b (at + 2) 0) (get_or b (at + 3) 0)

-- four bytes hold the numbers below this one
abbrev pub number_end : ℕ
number_end = 4294967296

-- the byte of a number that counts so many
abbrev pub byte_of : ℕ → ℕ → ℕ
byte_of n worth = n / worth % 256

-- a number in two bytes, and in four
abbrev pub two_bytes : ℕ → List ℕ
two_bytes n = byte_of n 1 ∷ byte_of n 256 ∷ []

abbrev pub four_bytes : ℕ → List ℕ
four_bytes n = byte_of n 1 ∷ byte_of n 256 ∷ byte_of n 65536 ∷ byte_of n 16777216 ∷ []

-- ---- names, as numbers of four letters

-- "RIFF"
abbrev pub riff : ℕ
riff = four 82 73 70 70

-- "WAVE"
abbrev pub wave : ℕ
wave = four 87 65 86 69

-- "fmt "
abbrev pub format : ℕ
format = four 102 109 116 32

-- "data"
abbrev pub data_name : ℕ
data_name = four 100 97 116 97

-- ---- sizes

-- the bytes ahead of the chunks, of a chunk ahead of its body, and of a name
abbrev pub file_heading : ℕ
file_heading = 12

abbrev pub chunk_heading : ℕ
chunk_heading = 8

abbrev pub name_size : ℕ
name_size = 4

-- ---- what a fitting `fmt ` says

-- "PCM format 1, two sides, 44,100, 16 bits"
abbrev pub pcm : ℕ
pcm = 1

abbrev pub sides : ℕ
sides = 2

abbrev pub rate : ℕ
rate = 44100

abbrev pub bits : ℕ
bits = 16

-- "four bytes a frame", "176,400 bytes a second"
abbrev pub frame_bytes : ℕ
frame_bytes = 4

abbrev pub byte_rate : ℕ
byte_rate = 176400

-- "at least 16 bytes"
abbrev pub format_size : ℕ
format_size = 16
