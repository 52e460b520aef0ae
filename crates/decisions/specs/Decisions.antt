-- What the programs decide. Definitions only.
use Rattle.std.specs.Prelude.{◌≡◌, Bool, true, false, cond, not, ◌&&◌, List, ℕ, eqb, ltb, length, Result, Ok, Err}
use Rattle.refusals.specs.Numbers.{is_accepted, unless, first_of, Verdict, Accepted}
use Rattle.refusals.specs.declared.Refusal.{Refusal}
use Rattle.refusals.specs.declared.Refusal.TheVariants.{InputLength}
use Rattle.bands.specs.House.{house_set}
use Rattle.unit.specs.Answered.{Answered}
use Rattle.loading.specs.Loading.{cleared_with}
use Rattle.arguments.specs.declared.Word.{Word}
use Rattle.sheet.specs.Sheet.{side_letters, sheet_verdict, carried_unit, sheet_of}
use Rattle.writing.specs.Written.{filled}
use Rattle.reading.specs.Reading.{sheet_read}
use Rattle.wave_reading.specs.declared.Located.{Located}
use Rattle.wave_reading.specs.Reading.{data_verdict}
use Rattle.wave_writing.specs.Writing.{size_verdict}
use Rattle.order_lists.specs.declared.DeskOrder.{DeskOrder}
use Rattle.order_lists.specs.Lists.{are_orders, ordered_all}
use Rattle.decisions.specs.declared.PassEnd.{PassEnd}

-- ---- play

-- what is answered for the bytes of a sheet, with the unit that it carries; the reader is given the cleared house unit
abbrev pub opened : List ℕ → Answered
opened bytes = sheet_read side_letters bytes (cleared_with house_set)

-- the end of a sound: "A tail of one to three bytes gives 5 after the whole frames are played and the sheet is written"; where sound was
-- lost on its way out there is neither
unfoldable pub ending_of : Bool → ℕ → PassEnd
ending_of lost held = record { is_saved = not lost; verdict = cond lost Accepted (unless (eqb held 0) InputLength Accepted) }

-- ---- play, for wave files

-- where the walk over the chunks leads, then the data, of which so many bytes are missing, and then what a wave file can hold
abbrev pub wave_verdict : Result Located Refusal → ℕ → Verdict
wave_verdict (Ok place) missing = first_of (data_verdict missing place.size) (size_verdict place.size)
wave_verdict (Err refusal) missing = Err refusal

-- the data is played where the first and the last of these are accepted; how much is missing shows behind it
abbrev pub can_play : Result Located Refusal → Bool
can_play (Ok place) = is_accepted (size_verdict place.size)
can_play (Err refusal) = false

-- the end of a wave file: a sheet is written where nothing is refused; where sound was lost on its way out there is neither
unfoldable pub wave_ending_of : Bool → Result Located Refusal → ℕ → PassEnd
wave_ending_of lost place missing =
    record { is_saved = not lost && is_accepted (wave_verdict place missing); verdict = cond lost Accepted (wave_verdict place missing) }

-- ---- desk

-- so many arguments, and the words that they stand for: there is room for all, there is one at least, and they are orders
abbrev pub is_call : ℕ → List Word → Bool
is_call count words = (eqb count (length words) && ltb 0 count) && are_orders words

module _ (bytes : List ℕ) (orders : List DeskOrder) where
  -- the orders to the unit that the bytes carry
  abbrev pub desk_ordered : Answered
  desk_ordered = ordered_all (carried_unit side_letters bytes) orders

  -- the sheet's refusal, or then that of the first refused order
  unfoldable pub desk_verdict : Verdict
  desk_verdict = first_of (sheet_verdict side_letters bytes) desk_ordered.verdict

  -- all orders accepted, the sheet of the unit after them, at the front of the buffer; one refused, the buffer unchanged
  unfoldable pub desk_sheet : List ℕ → List ℕ
  desk_sheet buffer = cond (is_accepted desk_verdict) (filled side_letters desk_ordered.unit buffer) buffer

  -- what may go out: of accepted orders, the sheet of the unit after them
  pub record HandsOut (sheet : List ℕ) : Type 0 where
    pub accepted : is_accepted desk_verdict ≡ true
    pub sheet_is : sheet ≡ sheet_of side_letters desk_ordered.unit
