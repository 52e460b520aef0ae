-- What is said of an answer. Definitions only.
use Rattle.std.specs.Prelude.{◌≡◌, false, List, [], ◌∷◌, ◌++◌, ℕ}
use Rattle.std.specs.Fmt.{decimal}
use Rattle.refusals.specs.Numbers.{number_of, is_accepted, Verdict}
use Rattle.forms.specs.Line.{line_feed}

-- a number in decimal digits, in a line of its own
abbrev pub line_of : ℕ → List ℕ
line_of n = decimal n ++ (line_feed ∷ [])

-- "a refusal is one line on standard error, its number"
unfoldable pub refusal_line : Verdict → List ℕ
refusal_line verdict = line_of (number_of verdict)

-- what may be said: of a refusal, and of nothing else, the line
pub record SayAsks (verdict : Verdict) (line : List ℕ) : Type 0 where
  pub refused : is_accepted verdict ≡ false
  pub line_is : line ≡ refusal_line verdict
