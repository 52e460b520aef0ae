-- What is located begins within the file, and what is found lies within it.
use mathlib.Core.Path.{◌≡◌, refl, sym, ap, ◌∙◌, subst}
use mathlib.Core.Bool.{Bool, true, false, cond, ◌||◌}
use mathlib.Core.List.{List}
use Prim.Native.Nat.{ℕ, zero, suc, ◌+◌, ◌≤◌, ◌%◌, ◌-◌}
use native.Mathlib.Omega.{arith}
use borrow.Author.Rules.{rules}
use borrow.Author.Tests.{leb-true, eqb-true, ltb-false}
use lib.Dec.{eqb, ltb}
use lib.ListN.{length, take, drop}
use Rattle.std.specs.Prelude.{Result, Ok, Err}
use Rattle.std.specs.Result.{ResultUnwrapsOrElse}
use Rattle.integers.proofs.Order.{both_true}
use Rattle.refusals.specs.Numbers.{is_accepted, Accepted}
use Rattle.refusals.specs.declared.Refusal.{Refusal}
use Rattle.refusals.specs.declared.Refusal.TheVariants.{NoData, InputLength}
use Rattle.refusals.proofs.Laws.{first_accepted, first_both, unless_accepted}
use Rattle.wave.specs.Chunks.{four_at, riff, wave, format, data_name, file_heading}
use Rattle.wave_reading.specs.declared.Located.{Located}
use Rattle.wave_reading.specs.contracts.LocatedDefault.TheImpl.{is_default-value}
use Rattle.wave_reading.specs.Walk.{chunk, chunks, next_at, body_at, place_of, data_from, misfits, has_heading, located}
use Rattle.wave_reading.specs.Reading.{missing_of, read_verdict, found, data_of}

-- ---- where the data begins

-- a choice begins within so many bytes where both of its sides do
either_within : (n : ℕ) (t : Bool) (p q : Result Located Refusal) → (t ≡ true → (place_of p).from ≤ n) → (t ≡ false → (place_of q).from ≤ n) → (place_of (cond t p q)).from ≤ n
either_within n true p q hp hq = hp refl
either_within n false p q hp hq = hq refl

-- data that counts begins where it stands
data_within : (n from size : ℕ) (seen : Bool) → from ≤ n → (place_of (data_from from size seen)).from ≤ n
data_within n from size true h = h
data_within n from size false h = omega arith

chunks-within : (n : ℕ) (b : List ℕ) (at : ℕ) (seen : Bool) → (place_of (chunks n b at seen)).from ≤ length b
unfolding chunks chunk
chunks-within zero b at seen = omega arith
chunks-within (suc n) b at seen =
    either_within (length b) (ltb (length b) (body_at at)) _ _ (λ _. omega arith)
    (λ h. either_within (length b) (eqb (four_at b at) data_name) _ _
    (λ _. data_within (length b) (body_at at) _ seen (ltb-false (length b) (body_at at) h))
    (λ _. either_within (length b) (misfits b at seen) _ _ (λ _. omega arith)
    (λ _. chunks-within n b (next_at b at) (seen || eqb (four_at b at) format))))

begins-within : (b : List ℕ) → (place_of (located b)).from ≤ length b
unfolding located
begins-within b = either_within (length b) (has_heading b) _ _ (λ _. chunks-within (length b) b file_heading false) (λ _. omega arith)

pub located_within : (b : List ℕ) (place : Located) → located b ≡ Ok place → place.from ≤ length b
located_within b place e = subst (λ (r : Result Located Refusal). (place_of r).from ≤ length b) e (begins-within b)

-- ---- where it ends

-- an accepted file lacks none of the data, which is whole frames
pub accepted_whole : (b : List ℕ) (place : Located) → located b ≡ Ok place → is_accepted (read_verdict b) ≡ true → (place.from + place.size ≤ length b) × (place.size % 4 ≡ 0)
unfolding read_verdict
accepted_whole b place led e =
    let w = unless_accepted (eqb (missing_of place (length b)) 0) NoData _ (rw led at e) in
    let m = unless_accepted (eqb (place.size % 4) 0) InputLength Accepted w.1 in
    (omega (arith, eqb-true (missing_of place (length b)) 0 w.0), eqb-true (place.size % 4) 0 m.0)

found_within : (b : List ℕ) (place : Located) → found b ≡ Ok place → place.from + place.size ≤ length b
unfolding found
found_within b place e =
    let k = first_both (read_verdict b) (located b) (ap is_accepted e) in
    (accepted_whole b place (sym (first_accepted (read_verdict b) (located b) k.0) ∙ e) k.0).0

-- ---- the part that is handed back

-- where the part lies, none after a refusal: what `unwrap_or_default` gives
pub unwrapped : (r : Result Located Refusal) (place : Located) → ResultUnwrapsOrElse r is_default-value.it place → place ≡ place_of r
unwrapped (Ok found) place h = h
unwrapped (Err refusal) place h = search rules

part_within : (b : List ℕ) → (place_of (found b)).from + (place_of (found b)).size ≤ length b
part_within b = go (found b) refl
  where
    go : (r : Result Located Refusal) → found b ≡ r → (place_of r).from + (place_of r).size ≤ length b
    go (Ok place) e = found_within b place e
    go (Err refusal) e = omega arith

-- so the part ends within the file, and is the data
module _ (b : List ℕ) (r : Result Located Refusal) (place : Located) (e : r ≡ found b) (h : ResultUnwrapsOrElse r is_default-value.it place) where
  pub part_is : place ≡ place_of (found b)
  part_is = unwrapped r place h ∙ ap place_of e

  pub part_ends : place.from + place.size ≤ length b
  part_ends = rw part_is (part_within b)

  pub part_bytes : take (place.from + place.size - place.from) (drop place.from b) ≡ data_of b
  unfolding data_of
  part_bytes =
      let n : place.from + place.size - place.from ≡ place.size = omega arith in
      ap (λ (m : ℕ). take m (drop place.from b)) n ∙ ap (λ (p : Located). take p.size (drop p.from b)) part_is

-- ---- the heading

pub heading_long : (b : List ℕ) → has_heading b ≡ true → file_heading ≤ length b
unfolding has_heading
heading_long b e = leb-true file_heading (length b) (both_true _ (eqb (four_at b 0) riff) (both_true _ (eqb (four_at b 8) wave) e).0).0
