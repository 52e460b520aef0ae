-- `waves::open_front` is safe: the data is played where it can be, and what is said of other files is what was decided.
use mathlib.Core.Path.{◌≡◌, sym, ap, ◌∙◌}
use Rattle.refusals.specs.declared.Refusal.{Refusal}
use Rattle.std.specs.Prelude.{Result, Ok}
use Rattle.wave_reading.specs.declared.Located.{Located}
use Rattle.wave_reading.specs.Walk.{place_of, located}
use Rattle.wave_reading.proofs.Inside.{unwrapped}
use Rattle.decisions.specs.Decisions.{can_play, wave_verdict, wave_ending_of}
use Rattle.play.proofs.WaveData.{leads, begins_in}
use Rattle.play.proofs.waves.open_front.Goals.{After-unwrap_or_default-place}
use Rattle.play.proofs.waves.open_front.Goals as goal

-- the place is that of the walk
place_is : (c : After-unwrap_or_default-place) → c.unwrap_or_default-place.result ≡ place_of (located c.args.front.now)
place_is c = unwrapped _ c.unwrap_or_default-place.result c.unwrap_or_default-place.ensures ∙ ap place_of c.locate-found.ensures

pub bytes_missing-ahead-requires : goal.bytes_missing-ahead-requires
bytes_missing-ahead-requires c = rw (place_is (goal.at.bytes_missing-ahead-requires c).After-unwrap_or_default-place) (begins_in c.args.front.now)

pub play_data-requires : goal.play_data-requires
play_data-requires c =
    let found = c.locate-found.result in
    let plays = sym c.can_play.ensures ∙ c.if-can_play.true in
    let leads_there = leads found plays ∙ ap Ok (sym (unwrapped found c.unwrap_or_default-place.result c.unwrap_or_default-place.ensures)) in
    record {
      opened = c.requires;
      place_is = sym c.locate-found.ensures ∙ leads_there;
      can_play = sym (ap can_play leads_there) ∙ plays;
      ahead_is = c.bytes_missing-ahead.ensures;
    }

pub answer-requires : goal.answer-requires
unfolding wave_ending_of
answer-requires c = c.check_wave-verdict.ensures ∙ ap (λ (found : Result Located Refusal). wave_verdict found c.skip-missing.result) c.locate-found.ensures
