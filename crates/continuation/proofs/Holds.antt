-- The sheet that a list wrote continues that list, over the letters of the sides.
use mathlib.Core.Path.{◌≡◌, refl, sym, ap, ◌∙◌, subst}
use mathlib.Core.Bool.{Bool, true}
use mathlib.Core.List.{List, [], ◌∷◌, ◌++◌}
use Prim.Native.Nat.{ℕ, suc, ◌<◌}
use lib.IntN.{ℤ, pos}
use lib.ListN.{length, get_or, take}
use Rattle.lists.specs.Lists.{Each, any_of}
use Rattle.refusals.specs.Numbers.{is_accepted, Accepted}
use Rattle.unit.specs.declared.Unit.{Unit}
use Rattle.unit.specs.Cleared.{bands_of}
use Rattle.unit.proofs.Fitness.{test_of_fit}
use Rattle.loading.specs.Loading.{set_verdict}
use Rattle.unit.specs.Answered.{Answered}
use Rattle.roundtrip.proofs.Holds.{round_trip}
use Rattle.calls.specs.Calls.{starting_unit, handed_back, samples}
use Rattle.calls.proofs.Kept.{Kept, begun_kept, list_kept}
use Rattle.calls.proofs.Append.{unit_append, samples_append}
use Rattle.closeness.specs.Claim.{limits, silent, Close, all_samples, all_exacts}
use Rattle.closeness.proofs.Append.{limits_append}
use Rattle.closeness.proofs.Holds.{demand3}
use Rattle.continuation.specs.Claim.{Stretch, HasRoom, uncut, unit_at_cut, answer_at_cut, SheetAccepted, answers, unit_across, samples_across, limits_across, cut_samples, CloseAcross, Continued, Continuing}

module _ (letters : List ℕ) where
  -- ---- one cut

  module _ (u : Unit) (stretch : Stretch) (kept : Kept (length letters) u) (room : HasRoom letters stretch) where
    cut_kept : Kept (length letters) (unit_at_cut letters u stretch)
    cut_kept = list_kept (length letters) u stretch.calls kept

    -- the sheet is accepted, and carries the unit that was written
    sheet_carries : answer_at_cut letters u stretch ≡ record { verdict = Accepted; unit = unit_at_cut letters u stretch }
    sheet_carries =
        (round_trip letters).part_reads_back (unit_at_cut letters u stretch) stretch.room cut_kept.shape (test_of_fit (unit_at_cut letters u stretch) cut_kept.fit) room stretch.given

    -- so that what goes on with the unit that was read goes on with that one
    goes_on : {A : Type 0} (f : Unit → A) → f (answer_at_cut letters u stretch).unit ≡ f (unit_at_cut letters u stretch)
    goes_on f = ap (λ (answer : Answered). f answer.unit) sheet_carries

  -- ---- all cuts

  all_accepted : (u : Unit) (stretches : List Stretch) → Kept (length letters) u → Each (HasRoom letters) stretches → Each SheetAccepted (answers letters u stretches)
  all_accepted u [] kept rooms = tt
  all_accepted u (stretch ∷ stretches) kept rooms = (
    ap (λ (answer : Answered). answer.verdict) (sheet_carries u stretch kept rooms.0),
    subst (Each SheetAccepted) (sym (goes_on u stretch kept rooms.0 (λ (v : Unit). answers letters v stretches)))
        (all_accepted (unit_at_cut letters u stretch) stretches (cut_kept u stretch kept rooms.0) rooms.1),
  )

  unit_across_lem : (u : Unit) (stretches : List Stretch) → Kept (length letters) u → Each (HasRoom letters) stretches → unit_across letters u stretches ≡ handed_back (length letters) u (uncut stretches)
  unit_across_lem u [] kept rooms = refl
  unit_across_lem u (stretch ∷ stretches) kept rooms =
      goes_on u stretch kept rooms.0 (λ (v : Unit). unit_across letters v stretches)
      ∙ unit_across_lem (unit_at_cut letters u stretch) stretches (cut_kept u stretch kept rooms.0) rooms.1
      ∙ sym (unit_append (length letters) u stretch.calls (uncut stretches))

  module _ (channel : ℕ) where
    samples_across_lem : (u : Unit) (stretches : List Stretch) → Kept (length letters) u → Each (HasRoom letters) stretches → samples_across letters channel u stretches ≡ samples (length letters) channel u (uncut stretches)
    samples_across_lem u [] kept rooms = refl
    samples_across_lem u (stretch ∷ stretches) kept rooms =
        goes_on u stretch kept rooms.0 (λ (v : Unit). samples (length letters) channel u stretch.calls ++ samples_across letters channel v stretches)
        ∙ ap (λ (l : List ℤ). samples (length letters) channel u stretch.calls ++ l) (samples_across_lem (unit_at_cut letters u stretch) stretches (cut_kept u stretch kept rooms.0) rooms.1)
        ∙ sym (samples_append (length letters) channel u stretch.calls (uncut stretches))

    limits_across_lem : (u : Unit) (stretches : List Stretch) → Kept (length letters) u → Each (HasRoom letters) stretches → limits_across letters channel u stretches ≡ limits (length letters) channel u (uncut stretches)
    limits_across_lem u [] kept rooms = refl
    limits_across_lem u (stretch ∷ stretches) kept rooms =
        goes_on u stretch kept rooms.0 (λ (v : Unit). limits (length letters) channel u stretch.calls ++ limits_across letters channel v stretches)
        ∙ ap (λ (l : List Bool). limits (length letters) channel u stretch.calls ++ l) (limits_across_lem (unit_at_cut letters u stretch) stretches (cut_kept u stretch kept rooms.0) rooms.1)
        ∙ sym (limits_append (length letters) channel u stretch.calls (uncut stretches))

  -- ---- the claim

  module _ (set : List ℤ) (stretches : List Stretch) (accepted : is_accepted (set_verdict set) ≡ true) (rooms : Each (HasRoom letters) stretches) where
    abbrev first : Unit
    first = starting_unit (length letters) set

    first_kept : Kept (length letters) first
    first_kept = begun_kept (length letters) set accepted

    -- demand 3 of the list that was not cut, by the samples and the limiting of the one that was
    close_across : (channel : ℕ) → channel < length letters → (i : ℕ) → CloseAcross letters set stretches channel i
    close_across channel inside i h q =
        subst (λ (l : List ℤ). Close (bands_of set) (suc i) (get_or l i (pos 0)) (get_or (all_exacts (length letters) channel set (uncut stretches)) i silent)) (sym same)
        (demand3.close (length letters) channel set (uncut stretches) inside accepted i
        (subst (λ (l : List ℤ). i < length l) same h)
        (ap (λ (l : List Bool). any_of (take (suc i) l)) (sym (limits_across_lem channel first stretches first_kept rooms)) ∙ q))
      where
        same : cut_samples letters set stretches channel ≡ all_samples (length letters) channel set (uncut stretches)
        same = samples_across_lem channel first stretches first_kept rooms

    continued : Continued letters set stretches
    continued =
        record {
          accepted = all_accepted first stretches first_kept rooms;
          unit_uncut = unit_across_lem first stretches first_kept rooms;
          samples_uncut = λ channel. samples_across_lem channel first stretches first_kept rooms;
          limits_uncut = λ channel. limits_across_lem channel first stretches first_kept rooms;
          close = close_across;
        }

  pub continuing : Continuing letters
  continuing = record { continued = continued }
