-- A line is a sound form: its numbers are read back from it, and an accepted one is written again byte for byte.
use mathlib.Core.Path.{◌≡◌, refl, sym, ap, ap₂, ◌∙◌}
use mathlib.Core.Bool.{Bool, true, ◌&&◌}
use mathlib.Core.List.{List, [], ◌∷◌, ◌++◌, append_assoc}
use Prim.Native.Nat.{ℕ, zero, suc, ◌+◌, ◌*◌, ◌≤◌}
use native.Mathlib.Omega.{arith}
use lib.IntN.{ℤ}
use lib.ListN.{length, get_or, take, drop, length-append}
use lib.Seq.{take-add, take-suc, take_at, drop_at, get_or_at}
use lib.Dec.{eqb, leb}
use borrow.Author.Tests.{eqb-true, eq-eqb, leb-true, le-leb}
use Rattle.integers.proofs.Order.{both_true}
use Rattle.lists.specs.Lists.{Each, joined}
use Rattle.refusals.specs.Numbers.{is_accepted, unless, first_of, Verdict, Accepted}
use Rattle.refusals.specs.declared.Refusal.TheVariants.{LineMark, FieldForm, Unfit}
use Rattle.refusals.proofs.Laws.{unless_accepted, first_both, accepted_only}
use Rattle.fields.specs.Fields.{field_size, field, number_in, is_field}
use Rattle.fields.proofs.Laws.{Short, field-length, number_field, field_good, good_field}
use Rattle.forms.specs.Line.{line_feed, line_size, line_text, field_verdict, fields_verdict, field_numbers, letter_verdict, end_verdict, line_verdict, line_form}
use Rattle.forms.proofs.Sound.{Back, Told, Sound}

-- one number for each range, and in it
abbrev pub InRanges : List (ℤ → Bool) → List ℤ → Type 0
InRanges [] [] = Unit {0}
InRanges [] (n ∷ numbers) = ⊥
InRanges (range ∷ ranges) [] = ⊥
InRanges (range ∷ ranges) (n ∷ numbers) = (range n ≡ true) × InRanges ranges numbers

-- the numbers that a line carries
pub record Passes (ranges : List (ℤ → Bool)) (joint : List ℤ → Verdict) (numbers : List ℤ) : Type 0 where
  pub inside : InRanges ranges numbers
  pub accepted : is_accepted (joint numbers) ≡ true

pub ranges_length : (ranges : List (ℤ → Bool)) (numbers : List ℤ) → InRanges ranges numbers → length numbers ≡ length ranges
ranges_length [] [] h = refl
ranges_length [] (n ∷ numbers) h = absurd h
ranges_length (range ∷ ranges) [] h = absurd h
ranges_length (range ∷ ranges) (n ∷ numbers) h = ap suc (ranges_length ranges numbers h.1)

-- ---- how many bytes

pub fields_length : (ns : List ℤ) → length (joined field ns) ≡ field_size * length ns
fields_length [] = refl
fields_length (n ∷ ns) = omega (arith, length-append (field n) (joined field ns), field-length n, fields_length ns)

pub text_length : (letter : ℕ) (ns : List ℤ) → length (line_text letter ns) ≡ line_size (length ns)
text_length letter ns = omega (arith, length-append (joined field ns) (line_feed ∷ []), fields_length ns)

-- so many fields have so many numbers
pub field_numbers_length : (n : ℕ) (bytes : List ℕ) → length (field_numbers n bytes) ≡ n
field_numbers_length zero bytes = refl
field_numbers_length (suc n) bytes = ap suc (field_numbers_length n (drop field_size bytes))

-- ---- what is accepted

field_accepted : (range : ℤ → Bool) (w : List ℕ) → is_accepted (field_verdict range w) ≡ true → (is_field w ≡ true) × (range (number_in w) ≡ true)
field_accepted range w e = (outer.0, (unless_accepted (range (number_in w)) Unfit Accepted outer.1).0)
  where
    outer : (is_field w ≡ true) × (is_accepted (unless (range (number_in w)) Unfit Accepted) ≡ true)
    outer = unless_accepted (is_field w) FieldForm (unless (range (number_in w)) Unfit Accepted) e

pub record FieldsTold (ranges : List (ℤ → Bool)) (bytes : List ℕ) : Type 0 where
  pub pass : InRanges ranges (field_numbers (length ranges) bytes)
  pub again : joined field (field_numbers (length ranges) bytes) ≡ take (field_size * length ranges) bytes

fields_told : (ranges : List (ℤ → Bool)) (bytes : List ℕ) → is_accepted (fields_verdict ranges bytes) ≡ true → FieldsTold ranges bytes
fields_told [] bytes e = record { pass = tt; again = refl }
fields_told (range ∷ ranges) bytes e =
    let more : FieldsTold ranges (drop field_size bytes) = fields_told ranges (drop field_size bytes) (first_both (field_verdict range (take field_size bytes)) (fields_verdict ranges (drop field_size bytes)) e).1 in
    record {
      pass = (first.1, more.pass);
      again =
          ap₂ ◌++◌ (good_field (take field_size bytes) first.0) more.again
          ∙ sym (take-add field_size (field_size * length ranges) bytes)
          ∙ ap (λ (n : ℕ). take n bytes) size;
    }
  where
    parts : (is_accepted (field_verdict range (take field_size bytes)) ≡ true) × (is_accepted (fields_verdict ranges (drop field_size bytes)) ≡ true)
    parts = first_both (field_verdict range (take field_size bytes)) (fields_verdict ranges (drop field_size bytes)) e

    first : (is_field (take field_size bytes) ≡ true) × (range (number_in (take field_size bytes)) ≡ true)
    first = field_accepted range (take field_size bytes) parts.0

    size : field_size + field_size * length ranges ≡ field_size * suc (length ranges)
    size = omega arith

-- ---- what is read back, whatever stands behind

pub record FieldsBack (ranges : List (ℤ → Bool)) (numbers : List ℤ) (bytes : List ℕ) : Type 0 where
  pub verdict : fields_verdict ranges bytes ≡ Accepted
  pub numbers_are : field_numbers (length ranges) bytes ≡ numbers

fields_back : (ranges : List (ℤ → Bool)) (numbers : List ℤ) (behind : List ℕ) → InRanges ranges numbers → Each Short numbers → FieldsBack ranges numbers (joined field numbers ++ behind)
fields_back [] [] behind p s = record { verdict = refl; numbers_are = refl }
fields_back [] (n ∷ numbers) behind p s = absurd p
fields_back (range ∷ ranges) [] behind p s = absurd p
fields_back (range ∷ ranges) (n ∷ numbers) behind p s =
    let more : FieldsBack ranges numbers (joined field numbers ++ behind) = fields_back ranges numbers behind p.1 s.1 in
    record {
      verdict =
          ap₂ (λ (w rest : List ℕ). first_of (field_verdict range w) (fields_verdict ranges rest)) first rest
          ∙ ap₂ first_of passes more.verdict;
      numbers_are =
          ap₂ (λ (w rest : List ℕ). number_in w ∷ field_numbers (length ranges) rest) first rest
          ∙ ap₂ ◌∷◌ (number_field n s.0) more.numbers_are;
    }
  where
    bytes : List ℕ
    bytes = joined field (n ∷ numbers) ++ behind

    apart : bytes ≡ field n ++ (joined field numbers ++ behind)
    apart = append_assoc (field n) (joined field numbers) behind

    first : take field_size bytes ≡ field n
    first = ap (take field_size) apart ∙ take_at (field n) (joined field numbers ++ behind) field_size (field-length n)

    rest : drop field_size bytes ≡ joined field numbers ++ behind
    rest = ap (drop field_size) apart ∙ drop_at (field n) (joined field numbers ++ behind) field_size (field-length n)

    passes : field_verdict range (field n) ≡ Accepted
    passes = ap₂ (λ (s t : Bool). unless s FieldForm (unless t Unfit Accepted)) (field_good n s.0) (ap range (number_field n s.0) ∙ p.0)

-- ---- the line

module _ (letter : ℕ) (ranges : List (ℤ → Bool)) (joint : List ℤ → Verdict) (short : (numbers : List ℤ) → Passes ranges joint numbers → Each Short numbers) where
  abbrev count : ℕ
  count = length ranges

  line_back : (numbers : List ℤ) (behind : List ℕ) → Passes ranges joint numbers → Back (line_form letter ranges joint) numbers (line_text letter numbers ++ behind)
  unfolding line_verdict
  line_back numbers behind p =
      record {
        verdict =
            ap₂ first_of
            (ap₂ (λ (s t : Bool). unless (s && t) LineMark Accepted) (le-leb (line_size count) (length bytes) (omega (arith, whole, length-append (line_text letter numbers) behind))) (eq-eqb letter letter refl))
            (ap₂ first_of (ap (fields_verdict ranges) apart ∙ fields.verdict)
            (ap₂ first_of (ap joint numbers_right ∙ accepted_only (joint numbers) p.accepted) (ap (λ (t : Bool). unless t LineMark Accepted) (eq-eqb (get_or bytes (field_size * count + 1) 0) line_feed end))));
        size = sym whole;
        value = numbers_right;
      }
    where
      bytes : List ℕ
      bytes = line_text letter numbers ++ behind

      long : length numbers ≡ count
      long = ranges_length ranges numbers p.inside

      whole : length (line_text letter numbers) ≡ line_size count
      whole = text_length letter numbers ∙ ap line_size long

      apart : (joined field numbers ++ (line_feed ∷ [])) ++ behind ≡ joined field numbers ++ (line_feed ∷ behind)
      apart = append_assoc (joined field numbers) (line_feed ∷ []) behind

      fields : FieldsBack ranges numbers (joined field numbers ++ (line_feed ∷ behind))
      fields = fields_back ranges numbers (line_feed ∷ behind) p.inside (short numbers p)

      numbers_right : field_numbers count (drop 1 bytes) ≡ numbers
      numbers_right = ap (field_numbers count) apart ∙ fields.numbers_are

      past : field_size * count + 1 ≡ suc (field_size * count)
      past = omega arith

      end : get_or bytes (field_size * count + 1) 0 ≡ line_feed
      end =
          ap (λ (k : ℕ). get_or bytes k 0) past
          ∙ ap (λ (l : List ℕ). get_or l (field_size * count) 0) apart
          ∙ get_or_at (joined field numbers) line_feed behind 0 (field_size * count) (fields_length numbers ∙ ap (λ (k : ℕ). field_size * k) long)

  line_told : (bytes : List ℕ) → is_accepted (line_verdict letter ranges joint bytes) ≡ true → Told (line_form letter ranges joint) (Passes ranges joint) bytes
  unfolding line_verdict
  line_told bytes e = go bytes first second.0 third.0 third.1
    where
      numbers : List ℤ
      numbers = field_numbers count (drop 1 bytes)

      outer : (is_accepted (letter_verdict letter count bytes) ≡ true) × (is_accepted (first_of (fields_verdict ranges (drop 1 bytes)) (first_of (joint numbers) (end_verdict count bytes))) ≡ true)
      outer = first_both (letter_verdict letter count bytes) (first_of (fields_verdict ranges (drop 1 bytes)) (first_of (joint numbers) (end_verdict count bytes))) e

      first : (leb (line_size count) (length bytes) ≡ true) × (eqb (get_or bytes 0 0) letter ≡ true)
      first =
          both_true (leb (line_size count) (length bytes)) (eqb (get_or bytes 0 0) letter)
          (unless_accepted (leb (line_size count) (length bytes) && eqb (get_or bytes 0 0) letter) LineMark Accepted outer.0).0

      second : (is_accepted (fields_verdict ranges (drop 1 bytes)) ≡ true) × (is_accepted (first_of (joint numbers) (end_verdict count bytes)) ≡ true)
      second = first_both (fields_verdict ranges (drop 1 bytes)) (first_of (joint numbers) (end_verdict count bytes)) outer.1

      third : (is_accepted (joint numbers) ≡ true) × (is_accepted (end_verdict count bytes) ≡ true)
      third = first_both (joint numbers) (end_verdict count bytes) second.1

      go : (bytes : List ℕ) → (leb (line_size count) (length bytes) ≡ true) × (eqb (get_or bytes 0 0) letter ≡ true) → is_accepted (fields_verdict ranges (drop 1 bytes)) ≡ true → is_accepted (joint (field_numbers count (drop 1 bytes))) ≡ true → is_accepted (end_verdict count bytes) ≡ true → Told (line_form letter ranges joint) (Passes ranges joint) bytes
      go [] f g h k = absurd (omega (arith, leb-true (line_size count) 0 f.0))
      go (b ∷ rest) f g h k =
          record {
            fits = record { inside = fields.pass; accepted = h };
            again =
                (λ i. sym (eqb-true b letter f.1) i ∷ (fields.again i ++ (sym end i ∷ [])))
                ∙ ap (λ (l : List ℕ). b ∷ l) (sym (take-suc rest (field_size * count) 0 (omega (arith, leb-true (line_size count) (length (b ∷ rest)) f.0))))
                ∙ ap (λ (n : ℕ). take n (b ∷ rest)) size;
            room = leb-true (line_size count) (length (b ∷ rest)) f.0;
          }
        where
          fields : FieldsTold ranges rest
          fields = fields_told ranges rest g

          past : field_size * count + 1 ≡ suc (field_size * count)
          past = omega arith

          end : get_or rest (field_size * count) 0 ≡ line_feed
          end =
              ap (λ (n : ℕ). get_or (b ∷ rest) n 0) (sym past)
              ∙ eqb-true (get_or (b ∷ rest) (field_size * count + 1) 0) line_feed (unless_accepted (eqb (get_or (b ∷ rest) (field_size * count + 1) 0) line_feed) LineMark Accepted k).0

          size : suc (suc (field_size * count)) ≡ line_size count
          size = omega arith

  pub line_sound : Sound (line_form letter ranges joint) (Passes ranges joint)
  line_sound = record { back = line_back; told = line_told }

-- ---- the bytes of an accepted line are there

-- already where the letter is accepted
pub letter_room : (letter n : ℕ) (bytes : List ℕ) → is_accepted (letter_verdict letter n bytes) ≡ true → line_size n ≤ length bytes
letter_room letter n bytes e =
    leb-true (line_size n) (length bytes)
    (both_true (leb (line_size n) (length bytes)) (eqb (get_or bytes 0 0) letter)
    (unless_accepted (leb (line_size n) (length bytes) && eqb (get_or bytes 0 0) letter) LineMark Accepted e).0).0

-- so for the whole line
pub line_room : (letter : ℕ) (ranges : List (ℤ → Bool)) (joint : List ℤ → Verdict) (bytes : List ℕ) → is_accepted ((line_form letter ranges joint).verdict bytes) ≡ true → line_size (length ranges) ≤ length bytes
unfolding line_verdict
line_room letter ranges joint bytes e =
    letter_room letter (length ranges) bytes
    (first_both (letter_verdict letter (length ranges) bytes) (first_of (fields_verdict ranges (drop 1 bytes)) (first_of (joint (field_numbers (length ranges) (drop 1 bytes))) (end_verdict (length ranges) bytes))) e).0
