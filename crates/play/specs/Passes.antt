-- A pass of frames, as play begins and ends it. Definitions only.
use Rattle.std.specs.Prelude.{◌≡◌, Bool, true, ◌||◌, List, [], ℕ}
use Rattle.unit.specs.declared.Unit.{Unit}
use Rattle.unit.specs.Fit.{Fit}
use Rattle.arguments.specs.Meaning.{request_of, asks_wave, is_plain}
use Rattle.playing.specs.declared.Progress.{Progress}
use Rattle.playing.specs.Turns.{PlayGives}
use Rattle.decisions.specs.Decisions.{ending_of}

-- a sheet is opened where the arguments ask for a pass, of the kind that they ask for
pub record OpenAsks (count : ℕ) (first : List ℕ) (wave : Bool) : Type 0 where
  pub asked : asks_wave count first || is_plain (request_of count first) ≡ true
  pub kind : wave ≡ asks_wave count first

-- the unit and the stream at the end of a pass that began with this unit: one block of all that was read, however much it was
pub record PassGives (u u' : Unit) (after : Progress) : Type 0 where
  pub most : ℕ
  pub gives : PlayGives u [] most u' after

-- what may be saved: a unit that is fit, at an end of the stream at which the sheet is written
pub record SaveAsks (u : Unit) (p : Progress) : Type 0 where
  pub fit : Fit u
  pub is_saved : (ending_of p.is_lost p.held).is_saved ≡ true
