-- What every call keeps of a unit, and so every list: the unit stays fit, and keeps its shape.
use mathlib.Core.Path.{◌≡◌, refl}
use mathlib.Core.Bool.{true}
use mathlib.Core.List.{List, [], ◌∷◌}
use Prim.Native.Nat.{ℕ}
use lib.IntN.{ℤ}
use lib.ListN.{length}
use Rattle.refusals.specs.Numbers.{is_accepted}
use Rattle.unit.specs.declared.Unit.{Unit}
use Rattle.unit.specs.Cleared.{bands_of}
use Rattle.unit.specs.Fit.{Fit}
use Rattle.unit.specs.Shaped.{Shaped}
use Rattle.unit.proofs.Fitness.{cleared_fit}
use Rattle.unit.proofs.Shaped.{cleared_shaped}
use Rattle.loading.specs.Loading.{set_verdict}
use Rattle.loading.proofs.Laws.{accepted_set}
use Rattle.orders.proofs.Laws.{order_fit, order_shaped}
use Rattle.blocks.proofs.Append.{block_fit, block_shaped}
use Rattle.calls.specs.Calls.{Call, order, block, unit_after, handed_back, starting_unit}

pub record Kept (channels : ℕ) (u : Unit) : Type 0 where
  pub fit : Fit u
  pub shape : Shaped channels u

module _ (channels : ℕ) where
  -- the unit that a list begins with
  pub begun_kept : (set : List ℤ) → is_accepted (set_verdict set) ≡ true → Kept channels (starting_unit channels set)
  begun_kept set accepted =
      record {
        fit = cleared_fit channels (bands_of set) (accepted_set set accepted).bands;
        shape = cleared_shaped channels (bands_of set) refl;
      }

  pub call_kept : (u : Unit) (call : Call) → Kept channels u → Kept channels (unit_after channels u call)
  call_kept u (order side band level) k =
      record { fit = order_fit channels u side band level k.fit; shape = order_shaped channels u side band level k.shape }
  call_kept u (block input room) k =
      record { fit = block_fit channels u input (length room) k.fit; shape = block_shaped channels u input (length room) k.shape }

  pub list_kept : (u : Unit) (calls : List Call) → Kept channels u → Kept channels (handed_back channels u calls)
  list_kept u [] k = k
  list_kept u (call ∷ calls) k = list_kept (unit_after channels u call) calls (call_kept u call k)
