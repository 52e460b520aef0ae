-- The small files, computed.
use mathlib.Core.Path.{refl}
use Rattle.wave.specs.Chunks.{two_at, four_at}
use Rattle.wave_reading.specs.Walk.{has_heading, says_format, format_fits, misfits, chunk, chunks, located}
use Rattle.wave_reading.specs.Reading.{read_verdict, found}
use Rattle.wave_reading.specs.Examples.{Examples}

pub examples : Examples
unfolding found read_verdict located chunks chunk misfits format_fits says_format has_heading four_at two_at
examples =
    record {
      plain = refl;
      no_frames = refl;
      odd_chunk = refl;
      odd_format = refl;
      second_format = refl;
      second_data = refl;
      other_wave = refl;
      eleven_bytes = refl;
      data_first = refl;
      data_first_and_past = refl;
      short_format = refl;
      format_past = refl;
      no_chunks = refl;
      seven_bytes = refl;
      chunk_past = refl;
      data_past = refl;
      six_bytes = refl;
      seven_and_no_pad = refl;
    }
