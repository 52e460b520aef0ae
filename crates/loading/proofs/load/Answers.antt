-- `loading::load` meets its contract: an accepted set has thirty numbers.
use mathlib.Core.Path.{sym, ap}
use native.Mathlib.Omega.{arith}
use Rattle.refusals.specs.Numbers.{is_accepted}
use Rattle.loading.proofs.Laws.{accepted_set}
use Rattle.loading.proofs.load.Goals as goal

pub bands_of-requires : goal.bands_of-requires
bands_of-requires c = omega (arith, (accepted_set c.args.set.now (ap is_accepted (sym c.in_default.ensures))).thirty)
