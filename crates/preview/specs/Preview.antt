-- What the preview gives: the integer section's results and remainders over a list of words. Definitions only, by docs/SPECIFICATION.md, The floating preview.
use Rattle.std.specs.Prelude.{Bool, cond, ◌&&◌, List, ◌++◌, ℕ, leb, ℤ, length, drop}
use Rattle.std.specs.List.{list_all}
use Rattle.words.specs.Words.{is_word}
use Rattle.refusals.specs.Numbers.{unless, is_accepted, first_of, Verdict, Accepted}
use Rattle.refusals.specs.declared.Refusal.TheVariants.{OutputShort, NotWord}
use Rattle.bands.specs.Bands.{band_verdict}
use Rattle.bands.specs.declared.Band.{Band}
use Rattle.section.specs.Step.{cleared_section, results_over, remainders_over}

-- every number of the list is a word
unfoldable pub are_words : List ℤ → Bool
are_words words = list_all is_word words

-- "8 to 10, then 6 (either buffer shorter than the words), then 15 a number that is no word"
unfoldable pub preview_verdict : Band → List ℤ → ℕ → ℕ → Verdict
preview_verdict band words results remainders =
    first_of (band_verdict band)
    (unless (leb (length words) results && leb (length words) remainders) OutputShort (unless (are_words words) NotWord Accepted))

-- the two buffers that are lent
pub record Buffers : Type 0 where
  pub results : List ℤ
  pub remainders : List ℤ

abbrev pub buffers_of : List ℤ → List ℤ → Buffers
buffers_of results remainders = record { results = results; remainders = remainders }

-- a buffer whose front is filled: "entries past the results, and past the remainders, keep their contents"
abbrev pub filled_front : List ℤ → List ℤ → List ℤ
filled_front numbers room = numbers ++ drop (length numbers) room

-- "from a cleared start its results and remainders equal the section's"
abbrev pub section_buffers : Band → List ℤ → Buffers → Buffers
section_buffers band words lent =
    record {
      results = filled_front (results_over (cleared_section band) words) lent.results;
      remainders = filled_front (remainders_over (cleared_section band) words) lent.remainders;
    }

-- the buffers after a call: refused, "both buffers are unchanged"
unfoldable pub previewed : Band → List ℤ → Buffers → Buffers
previewed band words lent =
    cond (is_accepted (preview_verdict band words (length lent.results) (length lent.remainders))) (section_buffers band words lent) lent
