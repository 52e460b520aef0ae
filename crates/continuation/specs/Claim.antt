-- Continuing a list of calls from its sheet: docs/SPECIFICATION.md, The exact sound and the distance. Definitions only; `Continuing`, at the
-- end, is proved in proofs/Holds.antt.
--
-- "Demand 3 starts from a cleared unit. Reading back the sheet that a list wrote under these same rules continues that list"
--
-- A list may be cut anywhere, in any number of places. At each cut the unit is written to a sheet, the sheet is read back, and the calls
-- go on with the unit that was read. Unit, samples and limiting are then those of the list that was not cut, and so demand 3 speaks of
-- every frame.
--
-- What it rests on. The calls, the unit that they hand back and the samples are those of calls/specs/Calls.antt; the limiting, the exact
-- reckoning and `Close` are those of demand 3 (closeness/specs/Claim.antt). `filled_part` (writing/specs/Written.antt) and `sheet_read` (reading/specs/Reading.antt) are what the contracts of
-- `writing::write` and `reading::read` promise, for all inputs. It is stated over the letters of the sides: a unit has a channel for each of them.
use Rattle.std.specs.Prelude.{◌≡◌, Bool, true, false, List, [], ◌∷◌, ◌++◌, ℕ, suc, ◌≤◌, ◌<◌, ℤ, pos, length, get_or, take}
use Rattle.lists.specs.Lists.{Each, any_of}
use Rattle.refusals.specs.Numbers.{is_accepted, Accepted}
use Rattle.unit.specs.declared.Unit.{Unit}
use Rattle.unit.specs.Cleared.{bands_of}
use Rattle.loading.specs.Loading.{set_verdict}
use Rattle.sheet.specs.Sheet.{sheet_size}
use Rattle.writing.specs.Written.{filled_part}
use Rattle.unit.specs.Answered.{Answered}
use Rattle.reading.specs.Reading.{sheet_read}
use Rattle.calls.specs.Calls.{Call, starting_unit, handed_back, samples}
use Rattle.closeness.specs.Claim.{limits, silent, Close, all_samples, all_limits, all_exacts}

-- ---- a list that is cut

-- some calls, and then a cut: the unit is written into a buffer of `room` bytes, and read back by a reader that is given the unit `given`.
-- A list `before ++ after` that is cut once is two stretches; behind the last one too the unit is written and read back
pub record Stretch : Type 0 where
  pub calls : List Call
  pub room : ℕ
  pub given : Unit

-- the list that was not cut
abbrev pub uncut : List Stretch → List Call
uncut [] = []
uncut (stretch ∷ stretches) = stretch.calls ++ uncut stretches

-- the sheet is accepted
abbrev pub SheetAccepted : Answered → Type 0
SheetAccepted answer = answer.verdict ≡ Accepted

module _ (letters : List ℕ) where
  -- the buffer has room for the sheet
  abbrev pub HasRoom : Stretch → Type 0
  HasRoom stretch = sheet_size letters ≤ stretch.room

  -- ---- what a cut list gives. The first stretch begins with the unit u, each other one with the unit that was read at the cut before it

  -- the unit that the calls of a stretch hand back
  abbrev pub unit_at_cut : Unit → Stretch → Unit
  unit_at_cut u stretch = handed_back (length letters) u stretch.calls

  -- what the reader answers at the cut behind a stretch
  abbrev pub answer_at_cut : Unit → Stretch → Answered
  answer_at_cut u stretch = sheet_read letters (filled_part letters (unit_at_cut u stretch) stretch.room) stretch.given

  -- the answers at all cuts
  abbrev pub answers : Unit → List Stretch → List Answered
  answers u [] = []
  answers u (stretch ∷ stretches) = answer_at_cut u stretch ∷ answers (answer_at_cut u stretch).unit stretches

  -- the unit that was read last
  abbrev pub unit_across : Unit → List Stretch → Unit
  unit_across u [] = u
  unit_across u (stretch ∷ stretches) = unit_across (answer_at_cut u stretch).unit stretches

  module _ (channel : ℕ) where
    -- the samples of the channel
    abbrev pub samples_across : Unit → List Stretch → List ℤ
    samples_across u [] = []
    samples_across u (stretch ∷ stretches) =
        samples (length letters) channel u stretch.calls ++ samples_across (answer_at_cut u stretch).unit stretches

    -- whether one of the channel's sections limits, frame by frame
    abbrev pub limits_across : Unit → List Stretch → List Bool
    limits_across u [] = []
    limits_across u (stretch ∷ stretches) =
        limits (length letters) channel u stretch.calls ++ limits_across (answer_at_cut u stretch).unit stretches

  -- ---- the claim

  -- a list that begins with a cleared unit with this band set, and is cut so
  module _ (set : List ℤ) (stretches : List Stretch) where
    -- all frames of a channel: the samples, and whether a section limits
    abbrev pub cut_samples : ℕ → List ℤ
    cut_samples channel = samples_across channel (starting_unit (length letters) set) stretches

    abbrev pub cut_limits : ℕ → List Bool
    cut_limits channel = limits_across channel (starting_unit (length letters) set) stretches

    -- the channel's sample for frame n, n = i + 1, is close to the exact output of the list that was not cut, "if no section of that side has
    -- limited up to and including frame n"
    abbrev pub CloseAcross : ℕ → ℕ → Type 0
    CloseAcross channel i =
        i < length (cut_samples channel) → any_of (take (suc i) (cut_limits channel)) ≡ false → Close (bands_of set) (suc i) (get_or (cut_samples channel) i (pos 0)) (get_or (all_exacts (length letters) channel set (uncut stretches)) i silent)

    -- every sheet is accepted; unit, samples and limiting are those of the list that was not cut; and demand 3 speaks of every frame
    pub record Continued : Type 0 where
      pub accepted : Each SheetAccepted (answers (starting_unit (length letters) set) stretches)
      pub unit_uncut : unit_across (starting_unit (length letters) set) stretches ≡ handed_back (length letters) (starting_unit (length letters) set) (uncut stretches)
      pub samples_uncut : (channel : ℕ) → cut_samples channel ≡ all_samples (length letters) channel set (uncut stretches)
      pub limits_uncut : (channel : ℕ) → cut_limits channel ≡ all_limits (length letters) channel set (uncut stretches)
      pub close : (channel : ℕ) → channel < length letters → (i : ℕ) → CloseAcross channel i

  -- for every accepted band set, every list, and every way to cut it with room for the sheets
  pub record Continuing : Type 0 where
    pub continued : (set : List ℤ) (stretches : List Stretch) → is_accepted (set_verdict set) ≡ true → Each HasRoom stretches → Continued set stretches
