-- `bands::check_band` meets its contract: an accepted band passes the three tests.
use mathlib.Core.Path.{◌≡◌, sym}
use mathlib.Core.Bool.{true}
use borrow.Author.Rules.{rules}
use Rattle.rounding.proofs.Limit.{within_bounds}
use Rattle.bands.specs.Bands.{beta_low, beta_high, alpha_accepted, beta_accepted, gamma_accepted, band_verdict}
use Rattle.bands.proofs.check_band.Goals as goal

pub returns : goal.returns
unfolding band_verdict alpha_accepted beta_accepted gamma_accepted
returns c =
    let a : alpha_accepted c.args.band.alpha ≡ true = search rules in
    let b : beta_accepted c.args.band.beta ≡ true = search rules in
    let ends = within_bounds beta_low beta_high c.args.band.beta b in
    let g : gamma_accepted c.args.band.beta c.args.band.gamma ≡ true = search rules in
    sym (simp (a, b, g))
