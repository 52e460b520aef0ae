-- A front of a file that holds the heading of the data tells where the data lies, whatever stands behind it.
use mathlib.Core.Path.{◌≡◌, refl, sym, ap, ap₂, ◌∙◌, subst}
use mathlib.Core.Bool.{Bool, true, false, cond, not, ◌&&◌, ◌||◌}
use mathlib.Core.List.{List, ◌++◌}
use Prim.Native.Nat.{ℕ, zero, suc, ◌+◌, ◌≤◌}
use native.Mathlib.Omega.{arith}
use borrow.Author.Tests.{leb-true, le-leb, le-ltb, ltb-false}
use lib.Dec.{T, eqb, leb, ltb}
use lib.ListN.{length, take, drop, length-append, get_or-append}
use Rattle.std.specs.Prelude.{Result, Ok, Err}
use Rattle.integers.proofs.Order.{both_true}
use Rattle.refusals.specs.Numbers.{is_accepted}
use Rattle.refusals.specs.declared.Refusal.{Refusal}
use Rattle.refusals.specs.declared.Refusal.TheVariants.{NoWave, WaveFormat, NoData}
use Rattle.refusals.proofs.Laws.{first_accepted}
use Rattle.wave.specs.Chunks.{two_at, four_at, wave, format, data_name, file_heading, format_size}
use Rattle.wave_reading.specs.declared.Located.{Located}
use Rattle.wave_reading.specs.Walk.{has_heading, size_at, body_at, end_at, next_at, says_format, format_fits, misfits, data_from, place_of, chunk, chunks, located}
use Rattle.wave_reading.specs.Reading.{missing_of, data_verdict, read_verdict, found, data_of}

-- a walk that was accepted
abbrev Leads : Result Located Refusal → Type 0
Leads r = is_accepted r ≡ true

module _ (front rest : List ℕ) where
  abbrev file : List ℕ
  file = front ++ rest

  longer : length front ≤ length file
  longer = omega (arith, length-append front rest)

  four_front : (at : ℕ) → at + 4 ≤ length front → four_at file at ≡ four_at front at
  unfolding four_at
  four_front at h =
      rw (
        get_or-append front rest 0 at (omega arith),
        get_or-append front rest 0 (at + 1) (omega arith),
        get_or-append front rest 0 (at + 2) (omega arith),
        get_or-append front rest 0 (at + 3) (omega arith),
      )

  two_front : (at : ℕ) → at + 2 ≤ length front → two_at file at ≡ two_at front at
  unfolding two_at
  two_front at h = rw (get_or-append front rest 0 at (omega arith), get_or-append front rest 0 (at + 1) (omega arith))

  heading_front : has_heading front ≡ true → has_heading file ≡ true
  unfolding has_heading
  heading_front e =
      let w = both_true _ (eqb (four_at front 8) wave) e in
      let r = both_true (leb file_heading (length front)) _ w.0 in
      let l = leb-true file_heading (length front) r.0 in
      simp (le-leb file_heading (length file) (omega (arith, l, longer)), four_front 0 (omega (arith, l)), four_front 8 (omega (arith, l)), r.1, w.1)

  says_front : (at : ℕ) → at + format_size ≤ length front → says_format file at ≡ says_format front at
  unfolding says_format
  says_front at h =
      rw (
        two_front at (omega arith),
        two_front (at + 2) (omega arith),
        four_front (at + 4) (omega arith),
        four_front (at + 8) (omega arith),
        two_front (at + 12) (omega arith),
        two_front (at + 14) (omega arith),
      )

  -- the chunk at a place whose heading lies in the front
  module _ (at : ℕ) (h : body_at at ≤ length front) where
    name_front : four_at file at ≡ four_at front at
    name_front = four_front at (omega arith)

    size_front : size_at file at ≡ size_at front at
    size_front = four_front (at + 4) (omega arith)

    fits_front : format_fits front at ≡ true → format_fits file at ≡ true
    unfolding format_fits
    fits_front e =
        let w = both_true _ (says_format front (body_at at)) e in
        let r = both_true (leb format_size (size_at front at)) _ w.0 in
        let long = leb-true format_size (size_at front at) r.0 in
        let within = leb-true (end_at front at) (length front) r.1 in
        simp (size_front, r.0, le-leb (end_at front at) (length file) (omega (arith, within, longer)), says_front (body_at at) (omega (arith, long, within)), w.1)

    misfits_front : (seen : Bool) → misfits front at seen ≡ false → misfits file at seen ≡ false
    unfolding misfits
    misfits_front seen e = simp name_front (go seen (eqb (four_at front at) format) (format_fits front at) refl e)
      where
        go : (s n f : Bool) → format_fits front at ≡ f → not s && n && not f ≡ false → not s && n && not (format_fits file at) ≡ false
        go true n f k e = refl
        go false false f k e = refl
        go false true true k e = ap not (fits_front k)
        go false true false k e = absurd (subst T e tt)

    next_front : next_at file at ≡ next_at front at
    next_front = rw size_front

  -- a chunk that leads to the data leads there in the file too, if those behind it do
  chunk_front : (at : ℕ) (seen : Bool) (there here : Result Located Refusal) → (body_at at ≤ length front → Leads here → there ≡ here) → Leads (chunk front at seen here) → chunk file at seen there ≡ chunk front at seen here
  unfolding chunk
  chunk_front at seen there here same leads = short (ltb (length front) (body_at at)) refl leads
    where
      other : (h : body_at at ≤ length front) (t : Bool) → misfits front at seen ≡ t → Leads (cond t (Err WaveFormat) here) → cond (misfits file at seen) (Err WaveFormat) there ≡ cond t (Err WaveFormat) here
      other h true e k = absurd (subst T (sym k) tt)
      other h false e k = simp (misfits_front at h seen e) (same h k)

      name : (h : body_at at ≤ length front) (t : Bool) → eqb (four_at front at) data_name ≡ t → Leads (cond t (data_from (body_at at) (size_at front at) seen) (cond (misfits front at seen) (Err WaveFormat) here)) → cond t (data_from (body_at at) (size_at file at) seen) (cond (misfits file at seen) (Err WaveFormat) there) ≡ cond t (data_from (body_at at) (size_at front at) seen) (cond (misfits front at seen) (Err WaveFormat) here)
      name h true e k = ap (λ (n : ℕ). data_from (body_at at) n seen) (size_front at h)
      name h false e k = other h (misfits front at seen) refl k

      short : (t : Bool) → ltb (length front) (body_at at) ≡ t → Leads (cond t (Err NoData) (cond (eqb (four_at front at) data_name) (data_from (body_at at) (size_at front at) seen) (cond (misfits front at seen) (Err WaveFormat) here))) → cond (ltb (length file) (body_at at)) (Err NoData) (cond (eqb (four_at file at) data_name) (data_from (body_at at) (size_at file at) seen) (cond (misfits file at seen) (Err WaveFormat) there)) ≡ cond t (Err NoData) (cond (eqb (four_at front at) data_name) (data_from (body_at at) (size_at front at) seen) (cond (misfits front at seen) (Err WaveFormat) here))
      short true e k = absurd (subst T (sym k) tt)
      short false e k =
          let h = ltb-false (length front) (body_at at) e in
          simp (le-ltb (length file) (body_at at) (omega (arith, h, longer)), name_front at h) (name h (eqb (four_at front at) data_name) refl k)

  -- so does a walk over so many chunks, if as many or more are allowed
  chunks_front : (n k at : ℕ) (seen : Bool) → Leads (chunks n front at seen) → chunks (k + n) file at seen ≡ chunks n front at seen
  unfolding chunks
  chunks_front zero k at seen e = absurd (subst T (sym e) tt)
  chunks_front (suc n) k at seen e =
      let one : k + suc n ≡ suc (k + n) = omega arith in
      ap (λ (m : ℕ). chunks m file at seen) one
      ∙ chunk_front at seen (chunks (k + n) file (next_at file at) (seen || eqb (four_at file at) format)) (chunks n front (next_at front at) (seen || eqb (four_at front at) format))
      (λ h leads. ap₂ (chunks (k + n) file) (next_front at h) (ap (λ (m : ℕ). seen || eqb m format) (name_front at h))
      ∙ chunks_front n k (next_at front at) (seen || eqb (four_at front at) format) leads) e

  leads_front : Leads (located front) → located file ≡ located front
  unfolding located
  leads_front e = go (has_heading front) refl e
    where
      size : length file ≡ length rest + length front
      size = omega (arith, length-append front rest)

      go : (t : Bool) → has_heading front ≡ t → Leads (cond t (chunks (length front) front file_heading false) (Err NoWave)) → cond (has_heading file) (chunks (length file) file file_heading false) (Err NoWave) ≡ cond t (chunks (length front) front file_heading false) (Err NoWave)
      go true h k = simp (heading_front h) (ap (λ (n : ℕ). chunks n file file_heading false) size ∙ chunks_front (length front) (length rest) file_heading false k)
      go false h k = absurd (subst T (sym k) tt)

  -- so the front tells where the data lies, the verdict on the file, and what the data is
  module _ (place : Located) (e : located front ≡ Ok place) where
    pub located_front : located file ≡ Ok place
    located_front = leads_front (ap is_accepted e) ∙ e

    pub verdict_front : read_verdict file ≡ data_verdict (missing_of place (length file)) place.size
    unfolding read_verdict
    verdict_front = rw located_front

    pub data_front : is_accepted (read_verdict file) ≡ true → data_of file ≡ take place.size (drop place.from file)
    unfolding data_of found
    data_front k = ap (λ (r : Result Located Refusal). take (place_of r).size (drop (place_of r).from file)) (first_accepted (read_verdict file) (located file) k ∙ located_front)
