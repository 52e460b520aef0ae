-- `lending::sheet_read` meets its contract: the numbers of an accepted sheet are those of the unit that it carries.
use mathlib.Core.Path.{sym, ap, ◌∙◌}
use Rattle.refusals.specs.Numbers.{number_of, is_accepted}
use Rattle.unit.specs.Answered.{answered}
use Rattle.lending.proofs.Sheets.{sheet_refused, carried-fits, sheet_stored}
use Rattle.lending.proofs.sheet_read.Goals as goal

pub numbers_of-requires : goal.numbers_of-requires
numbers_of-requires c =
    carried-fits c.args.bytes.now c.args.numbers.now c.cleared-unit.result (answered c.read.result c.read.new.unit) c.read.ensures (ap is_accepted c.in-Ok.is)

pub returns-in-Ok : goal.returns-in-Ok
returns-in-Ok c =
    sheet_stored c.args.bytes.now c.args.numbers.now c.cleared-unit.result (answered c.read.result c.read.new.unit) c.read.ensures (ap is_accepted c.in-Ok.is)
    (sym (ap number_of c.in-Ok.is)) c.numbers_of.ensures

pub returns-in-Err : goal.returns-in-Err
returns-in-Err c =
    sheet_refused c.args.bytes.now c.args.numbers.now c.cleared-unit.result (answered c.read.result c.read.new.unit) c.read.ensures
    (c.number.ensures ∙ sym (ap number_of c.in-Err.is)) (ap is_accepted c.in-Err.is)
