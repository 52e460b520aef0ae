-- The round trip of wave files: the walk over a written file passes its `fmt ` and comes to the frames.
use mathlib.Core.Path.{◌≡◌, refl, sym, ap, ◌∙◌, subst}
use mathlib.Core.Bool.{true, false, not}
use mathlib.Core.List.{List, [], ◌++◌, append-nil, append_assoc}
use Prim.Native.Nat.{ℕ, ◌+◌, ◌-◌, ◌≤◌, ◌<◌, ◌%◌}
use native.Mathlib.Omega.{arith}
use borrow.Author.Tests.{le-leb, eq-eqb}
use lib.ListN.{length, take, drop, length-append}
use lib.Seq.{take_at, drop_at}
use Rattle.std.specs.Prelude.{Ok}
use Rattle.refusals.specs.Numbers.{Accepted}
use Rattle.wave.specs.Chunks.{four, byte_of, two_at, four_at, data_name, number_end}
use Rattle.wave_reading.specs.declared.Located.{Located}
use Rattle.wave_reading.specs.Walk.{has_heading, size_at, says_format, format_fits, misfits, chunks, located, data_from}
use Rattle.wave_reading.specs.Reading.{read_verdict, found, data_of}
use Rattle.wave_reading.proofs.Steps.{walk_next, walk_data}
use Rattle.wave_writing.specs.Writing.{heading, most_data, wave_of, written}
use Rattle.wave_writing.proofs.Buffer.{length-heading, size_fits, write_fits, written_is}
use Rattle.wave_roundtrip.specs.Claim.{ReadsAs, WaveRoundTrip}

-- the four bytes of a number give it back
four_back : (n : ℕ) → n < number_end → four (byte_of n 1) (byte_of n 256) (byte_of n 65536) (byte_of n 16777216) ≡ n
four_back n h = omega arith

-- a heading and the frames, with anything behind
unfoldable before : List ℕ → List ℕ → List ℕ
before d rest = heading (length d) ++ (d ++ rest)

module _ (d rest : List ℕ) (whole : length d % 4 ≡ 0) (fits : length d ≤ most_data) where
  abbrev file : List ℕ
  file = before d rest

  long : length file ≡ 44 + (length d + length rest)
  unfolding before
  long =
      length-append (heading (length d)) (d ++ rest) ∙ ap (λ (n : ℕ). n + length (d ++ rest)) (length-heading (length d))
      ∙ ap (λ (n : ℕ). 44 + n) (length-append d rest)

  headed : has_heading file ≡ true
  unfolding has_heading before heading four_at
  headed = simp (le-leb 12 (length file) (omega (arith, long)))

  size : size_at file 36 ≡ length d
  unfolding before heading four_at
  size = four_back (length d) (omega arith)

  format : format_fits file 12 ≡ true
  unfolding format_fits says_format before heading four_at two_at
  format = simp (le-leb 36 (length file) (omega (arith, long)))

  fitting : misfits file 12 false ≡ false
  unfolding misfits before heading four_at
  fitting = ap not format

  first : chunks (length file) file 12 false ≡ chunks (length file) file 36 true
  unfolding before heading four_at
  first = sym (walk_next file 12 false 36 refl (omega (arith, long)) (λ e. omega (arith, e)) fitting)

  named : four_at file 36 ≡ data_name
  unfolding before heading four_at
  named = refl

  abbrev place : Located
  place = record { from = 44; size = length d }

  leads : located file ≡ Ok place
  unfolding located
  leads = simp headed (first ∙ walk_data file 36 true (omega (arith, long)) named ∙ ap (λ (n : ℕ). data_from 44 n true) size)

  accepted : read_verdict file ≡ Accepted
  unfolding read_verdict
  accepted = rw leads (simp (eq-eqb (44 + length d - length file) 0 (omega (arith, long)), eq-eqb (length d % 4) 0 whole))

  found-place : found file ≡ Ok place
  unfolding found
  found-place = simp accepted leads

  frames_back : data_of file ≡ d
  unfolding data_of before
  frames_back = rw found-place (ap (take (length d)) (drop_at (heading (length d)) (d ++ rest) 44 (length-heading (length d))) ∙ take_at d rest (length d) refl)

  reads : ReadsAs file d
  reads = record { found_is = found-place; frames_are = frames_back }

-- by another way of writing the file
reads_as : (b d rest : List ℕ) → b ≡ heading (length d) ++ (d ++ rest) → (length d % 4 ≡ 0) × (length d ≤ most_data) → ReadsAs b d
unfolding before
reads_as b d rest e k = subst (λ (l : List ℕ). ReadsAs l d) (sym e) (reads d rest k.0 k.1)

pub wave_round_trip : WaveRoundTrip
unfolding wave_of
wave_round_trip =
    record {
      reads_back = λ d out e. reads_as (written d out) d (drop (44 + length d) out) (written_is d out e) (write_fits (length d) (length out) e);
      file_reads_back = λ d e. reads_as (wave_of d) d [] (ap (λ (l : List ℕ). heading (length d) ++ l) (sym (append-nil d))) (size_fits (length d) e);
      front_reads_back = λ d rest e. reads_as (wave_of d ++ rest) d rest (append_assoc (heading (length d)) d rest) (size_fits (length d) e);
      length_is = λ d. length-append (heading (length d)) d ∙ ap (λ (n : ℕ). n + length d) (length-heading (length d));
    }
