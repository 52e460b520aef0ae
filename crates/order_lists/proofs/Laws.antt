-- The laws of lists of level orders: which words make none, what an order does ahead of others, and that a fit unit stays fit.
use mathlib.Core.Path.{◌≡◌, refl}
use mathlib.Core.Bool.{Bool, true, false, cond}
use mathlib.Core.List.{List, [], ◌∷◌}
use Prim.Native.Nat.{ℕ, ◌<◌}
use native.Mathlib.Omega.{arith}
use lib.ListN.{length}
use Rattle.arguments.specs.declared.Word.{Word}
use Rattle.refusals.specs.Numbers.{is_accepted}
use Rattle.unit.specs.declared.Unit.{Unit}
use Rattle.unit.specs.Fit.{Fit}
use Rattle.unit.specs.Sizes.{channel_count}
use Rattle.orders.proofs.Laws.{order_fit}
use Rattle.order_lists.specs.declared.DeskOrder.{DeskOrder}
use Rattle.order_lists.specs.Lists.{are_orders, orders_in, ordered_one, ordered_all}

-- ---- the words

-- fewer than three are no order
pub few : (l : List Word) → length l < 3 → orders_in l ≡ []
few [] h = refl
few (a ∷ []) h = refl
few (a ∷ b ∷ []) h = refl
few (a ∷ b ∷ c ∷ l) h = absurd (omega (arith, h))

-- one or two are left over
pub left_over : (l : List Word) → 0 < length l → length l < 3 → are_orders l ≡ false
left_over [] some h = absurd (omega (arith, some))
left_over (a ∷ []) some h = refl
left_over (a ∷ b ∷ []) some h = refl
left_over (a ∷ b ∷ c ∷ l) some h = absurd (omega (arith, h))

-- ---- the unit

module _ (u : Unit) (order : DeskOrder) (rest : List DeskOrder) where
  -- an accepted order, and then the others
  pub all_accepted : is_accepted (ordered_one u order).verdict ≡ true → ordered_all u (order ∷ rest) ≡ ordered_all (ordered_one u order).unit rest
  all_accepted e = simp e

  -- a refused one ends the list
  pub all_refused : is_accepted (ordered_one u order).verdict ≡ false → ordered_all u (order ∷ rest) ≡ ordered_one u order
  all_refused e = simp e

-- orders in turn keep a fit unit fit
pub all_fit : (u : Unit) (l : List DeskOrder) → Fit u → Fit (ordered_all u l).unit
all_fit u [] f = f
all_fit u (order ∷ rest) f = go (is_accepted (ordered_one u order).verdict) (all_fit (ordered_one u order).unit rest one)
  where
    one : Fit (ordered_one u order).unit
    one = order_fit channel_count u order.side order.band order.setting f

    go : (t : Bool) → Fit (ordered_all (ordered_one u order).unit rest).unit → Fit (cond t (ordered_all (ordered_one u order).unit rest) (ordered_one u order)).unit
    go true all = all
    go false all = one
