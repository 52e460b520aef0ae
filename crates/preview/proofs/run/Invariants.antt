-- `preview::run` meets its contract. The loop's invariant: the preview carries the section after the words passed, what is stored are the
-- results and the remainders of the front of the section's answers, and what it gives over the words left is the rest.
use mathlib.Core.Path.{◌≡◌}
use mathlib.Core.Bool.{true}
use mathlib.Core.List.{List, ◌++◌, map}
use Prim.Native.Nat.{ℕ, ◌≤◌, ◌-◌}
use lib.IntN.{ℤ}
use lib.ListN.{length, drop}
use Rattle.section.specs.declared.Section.{Section}
use Rattle.section.specs.declared.Stepped.{Stepped}
use Rattle.section.specs.Step.{answers_over, result_of, remainder_of}
use Rattle.section.proofs.Ready.{HoldsWords}
use Rattle.preview.specs.declared.Preview.{Preview}
use Rattle.preview.specs.Preview.{are_words, filled_front}
use Rattle.preview.specs.Carried.{carried, section_in}
use Rattle.preview.proofs.run.Given as goal

pub record Inv (first : Preview) (words room spare results remainders : List ℤ) (preview : Preview) (i : ℕ) : Type 0 where
  pub most : i ≤ length words
  pub section : Section
  pub done : List Stepped
  pub carries : preview ≡ carried section
  pub ready : HoldsWords section
  pub left_words : are_words (drop i words) ≡ true
  pub done_length : length done ≡ i
  pub results_hold : results ≡ filled_front (map result_of done) room
  pub remainders_hold : remainders ≡ filled_front (map remainder_of done) spare
  pub given : answers_over (section_in first) words ≡ done ++ answers_over section (drop i words)

abbrev pub invariant-loop-i : goal.invariant-loop-i
invariant-loop-i l = Inv l.initial.preview l.words l.initial.results l.initial.remainders l.results l.remainders l.preview l.i

abbrev pub decreases-loop-i : goal.decreases-loop-i
decreases-loop-i l = length l.words - l.i
