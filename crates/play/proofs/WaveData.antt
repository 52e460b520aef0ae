-- The data of a wave file, played: what the front has of it, and what comes behind.
use mathlib.Core.Path.{◌≡◌, refl, sym, ap, ap₂, ◌∙◌}
use mathlib.Core.Bool.{true, false, not}
use mathlib.Core.List.{List, [], ◌∷◌, ◌++◌}
use Prim.Native.Nat.{ℕ, zero, suc, ◌+◌, ◌-◌, ◌≤◌, ◌<◌}
use native.Mathlib.Omega.{arith}
use borrow.Author.Tests.{not-true}
use lib.ListN.{length, take, drop, length-append, length-take, length-drop}
use lib.Seq.{take-add, take_all, take-append-le, drop-append-le}
use Rattle.std.specs.Prelude.{Result, Ok, Err}
use Rattle.integers.proofs.Order.{both_true}
use Rattle.refusals.specs.Numbers.{is_accepted}
use Rattle.refusals.specs.declared.Refusal.{Refusal}
use Rattle.refusals.proofs.Laws.{never, first_both}
use Rattle.unit.specs.declared.Unit.{Unit}
use Rattle.stream.specs.Claim.{one_block}
use Rattle.playing.specs.declared.Progress.{Progress}
use Rattle.playing.specs.Turns.{PlayAsks, PlayGives}
use Rattle.wave_reading.specs.declared.Located.{Located}
use Rattle.wave_reading.specs.Walk.{place_of, located}
use Rattle.wave_reading.specs.Reading.{missing_of, data_verdict, read_verdict, data_of}
use Rattle.wave_reading.proofs.Inside.{located_within, accepted_whole}
use Rattle.wave_reading.proofs.Front.{located_front, verdict_front, data_front}
use Rattle.wave_writing.specs.Writing.{most_data, size_verdict}
use Rattle.wave_writing.proofs.Buffer.{size_fits}
use Rattle.decisions.specs.Decisions.{can_play, wave_verdict, wave_ending_of}
use Rattle.play.specs.Waves.{PlayDataAsks, WaveGives, SaveWaveAsks}

-- ---- a part of a list that ends behind it

none : (l : List ℕ) → length l ≡ 0 → l ≡ []
none [] e = refl
none (x ∷ l) e = absurd (omega (arith, e))

-- so many from a list and those behind it: what the list has of them, and then all behind
spread : (d behind : List ℕ) (n more : ℕ) → n ≤ length d → length behind ≡ more → (0 < more → n ≡ length d) → take (n + more) (d ++ behind) ≡ take n d ++ behind
spread d behind n more h e full =
    take-add n more (d ++ behind)
    ∙ ap₂ ◌++◌ (take-append-le n d behind h) (ap (take more) (drop-append-le n d behind h) ∙ go more e full)
  where
    go : (m : ℕ) → length behind ≡ m → (0 < m → n ≡ length d) → take m (drop n d ++ behind) ≡ behind
    go zero e full = sym (none behind e)
    go (suc m) e full =
        ap (λ (l : List ℕ). take (suc m) (l ++ behind)) (none (drop n d) (omega (arith, length-drop n d, full (omega arith))))
        ∙ take_all (suc m) behind (omega (arith, e))

-- ---- data that can be played

-- what can be played is data that the walk leads to
pub leads : (found : Result Located Refusal) → can_play found ≡ true → found ≡ Ok (place_of found)
leads (Ok place) e = refl
leads (Err refusal) e = never false refl e

-- it begins within the front
pub begins_in : (front : List ℕ) → (place_of (located front)).from ≤ length front
begins_in front = go (located front) refl
  where
    go : (found : Result Located Refusal) → located front ≡ found → (place_of found).from ≤ length front
    go (Ok place) e = located_within front place e
    go (Err refusal) e = omega arith

module _ (u : Unit) (front : List ℕ) (place : Located) (ahead : ℕ) (asks : PlayDataAsks u front place ahead) where
  pub size_few : place.size ≤ most_data
  size_few = (size_fits place.size asks.can_play).1

  begins_within : place.from ≤ length front
  begins_within = located_within front place asks.place_is

  -- what the front has of the data
  abbrev first : List ℕ
  first = take (place.from + (place.size - ahead) - place.from) (drop place.from front)

  pub ahead_few : ahead ≤ place.size
  ahead_few = omega (arith, asks.ahead_is, begins_within)

  pub ends_within : place.from + (place.size - ahead) ≤ length front
  ends_within = omega (arith, asks.ahead_is, begins_within)

  pub can_begin : PlayAsks u first
  can_begin =
      record {
        ready = asks.opened.ready;
        first_few =
            omega (
              arith,
              length-take (place.from + (place.size - ahead) - place.from) (drop place.from front),
              length-drop place.from front,
              begins_within,
              asks.opened.front_few,
            );
      }

  module _ (u' : Unit) (after : Progress) (gives : PlayGives u first ahead u' after) where
    abbrev file : List ℕ
    file = front ++ gives.bytes

    left_is : after.left ≡ missing_of place (length file)
    left_is = omega (arith, gives.left_is, asks.ahead_is, begins_within, length-append front gives.bytes)

    -- the data of an accepted file is what was played
    data_is : is_accepted (read_verdict file) ≡ true → data_of file ≡ first ++ gives.bytes
    data_is e =
        data_front front gives.bytes place asks.place_is e
        ∙ ap₂ take parts (drop-append-le place.from front gives.bytes begins_within)
        ∙ spread (drop place.from front) gives.bytes (place.from + (place.size - ahead) - place.from) ahead
        (omega (arith, length-drop place.from front, ends_within)) all_came (λ some. omega (arith, some, length-drop place.from front, asks.ahead_is, begins_within))
      where
        whole : place.from + place.size ≤ length file
        whole = (accepted_whole file place (located_front front gives.bytes place asks.place_is) e).0

        all_came : length gives.bytes ≡ ahead
        all_came = omega (arith, gives.left_is, left_is, whole)

        parts : place.size ≡ place.from + (place.size - ahead) - place.from + ahead
        parts = omega (arith, ahead_few)

    pub wave_gives : WaveGives u front place u' after
    wave_gives =
        record {
          place_is = asks.place_is;
          fit = gives.fit;
          behind = gives.bytes;
          missing_is = left_is;
          unit_is = λ e. gives.unit_is ∙ ap (λ (l : List ℕ). (one_block u l).unit) (sym (data_is e));
        }

-- ---- the end

module _ (u : Unit) (front : List ℕ) (place : Located) (u' : Unit) (p : Progress) (w : WaveGives u front place u' p) where
  -- a sheet is saved where no sound was lost, and after an accepted file
  pub can_save : (wave_ending_of p.is_lost (Ok place) p.left).is_saved ≡ true → SaveWaveAsks u front u' p
  unfolding wave_ending_of
  can_save e =
      record {
        fit = w.fit;
        none_lost = not-true p.is_lost tests.0;
        behind = w.behind;
        accepted = ap is_accepted verdict ∙ kept.0;
        unit_is = w.unit_is (ap is_accepted verdict ∙ kept.0);
      }
    where
      tests : (not p.is_lost ≡ true) × (is_accepted (wave_verdict (Ok place) p.left) ≡ true)
      tests = both_true (not p.is_lost) _ e

      kept : (is_accepted (data_verdict p.left place.size) ≡ true) × (is_accepted (size_verdict place.size) ≡ true)
      kept = first_both (data_verdict p.left place.size) _ tests.1

      verdict : read_verdict (front ++ w.behind) ≡ data_verdict p.left place.size
      verdict = verdict_front front w.behind place w.place_is ∙ ap (λ (n : ℕ). data_verdict n place.size) (sym w.missing_is)
