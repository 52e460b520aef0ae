-- `loading::check_set` meets its contract: of thirty numbers, the bands decide.
use mathlib.Core.Path.{sym, ap, ◌∙◌}
use native.Mathlib.Omega.{arith}
use lib.ListN.{length}
use borrow.Author.Tests.{eq-eqb}
use Rattle.bands.specs.Bands.{set_size}
use Rattle.unit.specs.Fit.{bands_verdict}
use Rattle.loading.specs.Loading.{set_verdict}
use Rattle.loading.proofs.check_set.Goals as goal

pub returns : goal.returns
unfolding set_verdict
returns c =
    c.check_bands.ensures ∙ ap bands_verdict c.bands_of.ensures ∙ sym (simp (eq-eqb (length c.args.set.now) set_size (omega arith)))
