-- `console::answer` meets its contract: what it says is the refusal's line.
use Rattle.std.proofs.Common.{◌≡◌, ◌∙◌, false, ap, arith, rules}
use Rattle.refusals.specs.Numbers.{is_accepted}
use Rattle.refusals.proofs.Laws.{number_small}
use Rattle.console.specs.Answers.{line_of, refusal_line}
use Rattle.console.proofs.Digits.{two_digits}
use Rattle.console.proofs.answer.Goals.{After-number-number}
use Rattle.console.proofs.answer.Goals as goal

-- past the test the answer is a refusal
refused : (c : After-number-number) → is_accepted c.args.verdict ≡ false
refused c = search rules

-- and the number is its number
line : (c : After-number-number) → line_of c.number-number.result ≡ refusal_line c.args.verdict
unfolding refusal_line
line c = ap line_of c.number-number.ensures

pub say-requires : goal.say-requires
say-requires c =
    let n = (goal.at.say-requires c).After-number-number in
    record {
      refused = refused n;
      line_is = two_digits c.number-number.result (omega (arith, c.number-number.ensures, number_small c.args.verdict)) c.from.result c.from.ensures ∙ line n;
    }
