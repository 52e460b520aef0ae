-- `settings::target_of` meets its contract: an accepted factor is one that a band takes, whatever the place.
use mathlib.Core.Path.{◌≡◌, subst}
use mathlib.Core.Bool.{true}
use Rattle.refusals.specs.Numbers.{is_accepted}
use Rattle.settings.specs.declared.Setting.{Setting}
use Rattle.settings.specs.Settings.{level_verdict}
use Rattle.settings.proofs.Laws.{factor_fits}
use Rattle.settings.proofs.target_of.Goals as goal

pub factor_target-requires : goal.factor_target-requires
factor_target-requires c =
    factor_fits c.args.band c.in-Factor.factor
    (subst (λ (s : Setting). is_accepted (level_verdict c.args.band s) ≡ true) c.in-Factor.is c.requires)
