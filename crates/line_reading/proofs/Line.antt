-- A line: its letter, its fields, and what stands behind them.
use mathlib.Core.Path.{◌≡◌, refl, sym, ap, ◌∙◌}
use mathlib.Core.Bool.{Bool}
use mathlib.Core.List.{List}
use Prim.Native.Nat.{ℕ, ◌-◌, ◌≤◌}
use lib.IntN.{ℤ}
use lib.ListN.{length, take, drop}
use Rattle.std.specs.Prelude.{Result, Ok, Err}
use Rattle.refusals.specs.Numbers.{is_accepted, first_of, Verdict, Accepted}
use Rattle.refusals.specs.declared.Refusal.{Refusal}
use Rattle.forms.specs.Line.{line_size, fields_verdict, field_numbers, letter_verdict, end_verdict, line_verdict}
use Rattle.forms.proofs.Line.{letter_room}
use Rattle.std.proofs.lemmas.List.{take_rest}
use Rattle.line_reading.specs.Gives.{numbers_read}
use Rattle.line_reading.proofs.Results.{read_off, read_on}

-- where the letter is accepted, the line's bytes are there
pub line_there : (letter n : ℕ) (bytes : List ℕ) → Accepted ≡ letter_verdict letter n bytes → line_size n ≤ length bytes
line_there letter n bytes e = letter_room letter n bytes (ap is_accepted (sym e))

module _ (letter : ℕ) (ranges : List (ℤ → Bool)) (joint : List ℤ → Verdict) (bytes : List ℕ) {A : Type 0} (there : List ℤ → A) where
  -- the bytes behind the letter, and the numbers in them
  abbrev behind : List ℕ
  behind = take (length bytes - 1) (drop 1 bytes)

  abbrev numbers : List ℤ
  numbers = field_numbers (length ranges) (drop 1 bytes)

  -- what reading the line gives
  abbrev pub line_read : Result A Refusal
  line_read = first_of (line_verdict letter ranges joint bytes) (Ok (there numbers))

  -- by its four tests
  by_tests : (a b c d : Verdict) → letter_verdict letter (length ranges) bytes ≡ a → fields_verdict ranges (drop 1 bytes) ≡ b → joint numbers ≡ c → end_verdict (length ranges) bytes ≡ d
      → first_of (first_of a (first_of b (first_of c d))) (Ok (there numbers)) ≡ line_read
  unfolding line_verdict
  by_tests a b c d h i j k = λ x. first_of (first_of (sym h x) (first_of (sym i x) (first_of (sym j x) (sym k x)))) (Ok (there numbers))

  -- the letter is refused
  pub letter_off : {e : Refusal} → Err e ≡ letter_verdict letter (length ranges) bytes → Err e ≡ line_read
  letter_off {e} h = by_tests (Err e) _ _ _ (sym h) refl refl refl

  module _ (first : Accepted ≡ letter_verdict letter (length ranges) bytes) where
    -- a field
    pub fields_off : {e : Refusal} → Err e ≡ numbers_read ranges behind → Err e ≡ line_read
    fields_off {e} h =
        by_tests Accepted (Err e) _ _ (sym first)
        (read_off (fields_verdict ranges (drop 1 bytes)) numbers (ap (numbers_read ranges) (sym (take_rest bytes 1)) ∙ sym h)) refl refl

    module _ {l : List ℤ} (second : Ok l ≡ numbers_read ranges behind) where
      abbrev on : (fields_verdict ranges (drop 1 bytes) ≡ Accepted) × (numbers ≡ l)
      on = read_on (fields_verdict ranges (drop 1 bytes)) numbers (ap (numbers_read ranges) (sym (take_rest bytes 1)) ∙ sym second)

      -- the numbers together
      pub joint_off : {e : Refusal} → Err e ≡ joint l → Err e ≡ line_read
      joint_off {e} h = by_tests Accepted Accepted (Err e) _ (sym first) on.0 (ap joint on.1 ∙ sym h) refl

      module _ (third : Accepted ≡ joint l) where
        -- the line end
        pub end_off : {e : Refusal} → Err e ≡ end_verdict (length ranges) bytes → Err e ≡ line_read
        end_off {e} h = by_tests Accepted Accepted Accepted (Err e) (sym first) on.0 (ap joint on.1 ∙ sym third) (sym h)

        -- all is accepted
        pub line_on : {a : A} → Accepted ≡ end_verdict (length ranges) bytes → a ≡ there l → Ok a ≡ line_read
        line_on h v =
            ap Ok (v ∙ ap there (sym on.1))
            ∙ by_tests Accepted Accepted Accepted Accepted (sym first) on.0 (ap joint on.1 ∙ sym third) (sym h)
