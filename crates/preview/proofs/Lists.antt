-- Laws of the definitions over lists: one word more, one number more stored, what an accepted call tells, and what a
-- call leaves.
use mathlib.Core.Path.{◌≡◌, sym, ap, ap₂, ◌∙◌}
use mathlib.Core.Bool.{true, false, ◌&&◌}
use mathlib.Core.List.{List, [], ◌∷◌, ◌++◌, map, map-append}
use Prim.Native.Nat.{ℕ, suc, ◌≤◌, ◌<◌}
use native.Mathlib.Omega.{arith}
use lib.Dec.{leb}
use lib.IntN.{ℤ, pos}
use lib.ListN.{length, drop, get_or, set, length-map, length-append, length-drop}
use lib.Seq.{drop-cons, set_at, append_snoc}
use borrow.Author.Tests.{leb-true}
use Rattle.integers.proofs.Order.{both_true}
use Rattle.words.specs.Words.{is_word}
use Rattle.refusals.specs.Numbers.{is_accepted, unless, Verdict, Accepted}
use Rattle.refusals.specs.declared.Refusal.TheVariants.{OutputShort, NotWord}
use Rattle.refusals.proofs.Laws.{unless_accepted, first_both}
use Rattle.bands.specs.Bands.{band_verdict}
use Rattle.bands.specs.declared.Band.{Band}
use Rattle.section.specs.declared.Section.{Section}
use Rattle.section.specs.declared.Stepped.{Stepped}
use Rattle.section.specs.Step.{stepped, answers_over}
use Rattle.preview.specs.Preview.{Buffers, are_words, preview_verdict, filled_front, section_buffers, previewed}

module _ (l : List ℤ) (i : ℕ) (h : i < length l) where
  -- the numbers from place i on are words where that number and those behind it are
  pub words_from : are_words (drop i l) ≡ is_word (get_or l i (pos 0)) && are_words (drop (suc i) l)
  unfolding are_words
  words_from = ap are_words (drop-cons l i (pos 0) h)

  -- the answers from place i on: that of its step, and those of the section after it
  pub answers_from : (s : Section) → answers_over s (drop i l) ≡ stepped s (get_or l i (pos 0)) ∷ answers_over (stepped s (get_or l i (pos 0))).section (drop (suc i) l)
  unfolding answers_over
  answers_from s = ap (answers_over s) (drop-cons l i (pos 0) h)

-- a buffer whose front has a number of each of i answers, f of it
module _ (f : Stepped → ℤ) (done : List Stepped) (room buffer : List ℤ) (i : ℕ) (is : buffer ≡ filled_front (map f done) room) (count : length done ≡ i) where
  filled : length (map f done) ≡ i
  filled = length-map done f ∙ count

  -- one more stored
  pub front_next : (r : Stepped) (z : ℤ) → z ≡ f r → i < length room → set buffer i z ≡ filled_front (map f (done ++ (r ∷ []))) room
  front_next r z e h =
      ap₂ (λ (l : List ℤ) (y : ℤ). set l i y) (is ∙ ap (λ (k : ℕ). map f done ++ drop k room) filled ∙ ap (λ (l : List ℤ). map f done ++ l) (drop-cons room i (pos 0) h)) e
      ∙ set_at (map f done) (get_or room i (pos 0)) (drop (suc i) room) (f r) i filled
      ∙ sym (append_snoc (map f done) (f r) (drop (suc i) room))
      ∙ ap₂ (λ (l : List ℤ) (k : ℕ). l ++ drop k room) (sym (map-append f done (r ∷ []))) (sym more)
    where
      more : length (map f (done ++ (r ∷ []))) ≡ suc i
      more = length-map (done ++ (r ∷ [])) f ∙ length-append done (r ∷ []) ∙ omega (arith, count)

  pub front_length : i ≤ length room → length buffer ≡ length room
  front_length h =
      ap length is
      ∙ length-append (map f done) (drop (length (map f done)) room)
      ∙ omega (arith, filled, length-drop (length (map f done)) room)

-- what an accepted call tells
pub record AcceptedCall (band : Band) (words : List ℤ) (results remainders : ℕ) : Type 0 where
  pub band_accepted : is_accepted (band_verdict band) ≡ true
  pub results_have : length words ≤ results
  pub remainders_have : length words ≤ remainders
  pub all_words : are_words words ≡ true

pub preview_accepted : (band : Band) (words : List ℤ) (results remainders : ℕ) → is_accepted (preview_verdict band words results remainders) ≡ true → AcceptedCall band words results remainders
unfolding preview_verdict
preview_accepted band words results remainders e =
    record {
      band_accepted = band_first.0;
      results_have = leb-true (length words) results room.0;
      remainders_have = leb-true (length words) remainders room.1;
      all_words = (unless_accepted (are_words words) NotWord Accepted room_first.1).0;
    }
  where
    band_first : (is_accepted (band_verdict band) ≡ true) × (is_accepted (unless (leb (length words) results && leb (length words) remainders) OutputShort (unless (are_words words) NotWord Accepted)) ≡ true)
    band_first = first_both (band_verdict band) _ e

    room_first : (leb (length words) results && leb (length words) remainders ≡ true) × (is_accepted (unless (are_words words) NotWord Accepted) ≡ true)
    room_first = unless_accepted (leb (length words) results && leb (length words) remainders) OutputShort (unless (are_words words) NotWord Accepted) band_first.1

    room : (leb (length words) results ≡ true) × (leb (length words) remainders ≡ true)
    room = both_true _ _ room_first.0

-- an accepted call fills both buffers, a refused one leaves both as they were
module _ (band : Band) (words : List ℤ) (lent : Buffers) where
  abbrev verdict : Verdict
  verdict = preview_verdict band words (length lent.results) (length lent.remainders)

  pub previewed_accepted : is_accepted verdict ≡ true → previewed band words lent ≡ section_buffers band words lent
  unfolding previewed
  previewed_accepted e = simp e

  pub previewed-refused : is_accepted verdict ≡ false → previewed band words lent ≡ lent
  unfolding previewed
  previewed-refused e = simp e
