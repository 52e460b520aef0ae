-- A pass of a wave file. Its front is what was read ahead; no contract can say which bytes come behind, so each says that there are bytes of which
-- it holds. Definitions only.
use Rattle.std.specs.Prelude.{◌≡◌, true, false, List, ◌++◌, ℕ, ◌≤◌, length, Ok}
use Rattle.refusals.specs.Numbers.{is_accepted}
use Rattle.unit.specs.declared.Unit.{Unit}
use Rattle.unit.specs.Fit.{Fit}
use Rattle.stream.specs.Claim.{one_block, begun, Ready}
use Rattle.playing.specs.declared.Progress.{Progress}
use Rattle.playing.specs.Turns.{read_size}
use Rattle.wave_reading.specs.declared.Located.{Located}
use Rattle.wave_reading.specs.Walk.{located}
use Rattle.wave_reading.specs.Reading.{missing_of, read_verdict, data_of}
use Rattle.decisions.specs.Decisions.{can_play}

-- the unit can play, and the front is what one buffer holds
pub record OpenFrontAsks (u : Unit) (front : List ℕ) : Type 0 where
  pub ready : Ready (begun u)
  pub front_few : length front ≤ read_size

-- the data is where the front says, it can be played, and so much of it lies behind the front
pub record PlayDataAsks (u : Unit) (front : List ℕ) (place : Located) (ahead : ℕ) : Type 0 where
  pub opened : OpenFrontAsks u front
  pub place_is : located front ≡ Ok place
  pub can_play : can_play (Ok place) ≡ true
  pub ahead_is : ahead ≡ missing_of place (length front)

-- the end of a pass: the file is the front and what was read behind it. So much of the data is missing from it as may still be read; where none is, the unit
-- is that of one block of the data.
pub record WaveGives (u : Unit) (front : List ℕ) (place : Located) (u' : Unit) (after : Progress) : Type 0 where
  pub place_is : located front ≡ Ok place
  pub fit : Fit u'
  pub behind : List ℕ
  pub missing_is : after.left ≡ missing_of place (length (front ++ behind))
  pub unit_is : is_accepted (read_verdict (front ++ behind)) ≡ true → u' ≡ (one_block u (data_of (front ++ behind))).unit

-- what may be saved: no sound was lost, and the unit is that of one block of the data of an accepted file with this front
pub record SaveWaveAsks (u : Unit) (front : List ℕ) (u' : Unit) (p : Progress) : Type 0 where
  pub fit : Fit u'
  pub none_lost : p.is_lost ≡ false
  pub behind : List ℕ
  pub accepted : is_accepted (read_verdict (front ++ behind)) ≡ true
  pub unit_is : u' ≡ (one_block u (data_of (front ++ behind))).unit
