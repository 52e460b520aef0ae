-- What a call on a unit leaves. Definitions only.
use Rattle.refusals.specs.Numbers.{Verdict}
use Rattle.unit.specs.declared.Unit.{Unit}

-- what it answers, and the unit after it
pub record Answered : Type 0 where
  pub verdict : Verdict
  pub unit : Unit

abbrev pub answered : Verdict → Unit → Answered
answered verdict unit = record { verdict = verdict; unit = unit }
