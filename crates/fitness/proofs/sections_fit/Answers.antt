-- `fitness::sections_fit` meets its contract: its two tests are those of the definition.
use mathlib.Core.Path.{sym, ap, ◌∙◌}
use native.Mathlib.Omega.{arith}
use lib.ListN.{drop, length-drop}
use lib.Seq.{take_all}
use Rattle.std.specs.List.{list_all}
use Rattle.unit.specs.Fit.{is_plain}
use Rattle.fitness.proofs.sections_fit.Goals as goal

pub returns-then-each_fits : goal.returns-then-each_fits
returns-then-each_fits c =
    c.are_plain.ensures
    ∙ sym
    (simp (sym c.if-each_fits.ensures)
    (ap (list_all is_plain) (sym (take_all 6 (drop 4 c.args.sections.now) (omega (arith, length-drop 4 c.args.sections.now))))))
