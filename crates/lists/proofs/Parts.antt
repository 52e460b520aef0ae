-- Some entries of a list from a place on, and the entries behind them.
use mathlib.Core.Path.{◌≡◌, sym, ap, ◌∙◌}
use mathlib.Core.List.{List, [], ◌∷◌, ◌++◌}
use Prim.Native.Nat.{ℕ, suc, ◌+◌, ◌≤◌, ◌<◌}
use native.Mathlib.Omega.{arith}
use lib.ListN.{get_or, take, drop, length, length-drop, take-append-drop}
use lib.Seq.{drop-cons, drop-drop, get_or-drop, take-suc}

-- the entry behind a start
pub behind : {A : Type 0} (d : A) (l : List A) (start i j : ℕ) → j ≡ start + i → get_or l j d ≡ get_or (drop start l) i d
behind d l start i j e = ap (λ (n : ℕ). get_or l n d) e ∙ sym (get_or-drop start l i d)

module _ {A : Type 0} (d : A) (l : List A) where
  -- entry i
  abbrev at : ℕ → A
  at i = get_or l i d

  -- one entry
  one : (i : ℕ) → i < length l → take 1 (drop i l) ≡ at i ∷ []
  one i h = ap (take 1) (drop-cons l i d h)

  -- one entry more
  more : (i n : ℕ) {m : List A} → i + n < length l → take n (drop i l) ≡ m → take (suc n) (drop i l) ≡ m ++ (at (i + n) ∷ [])
  more i n h e =
      take-suc (drop i l) n d (omega (arith, length-drop i l)) ∙ (λ k. e k ++ (get_or-drop i l n d k ∷ []))

  pub take-two : (i : ℕ) → i + 2 ≤ length l → take 2 (drop i l) ≡ at i ∷ at (i + 1) ∷ []
  take-two i h = more i 1 (omega arith) (one i (omega arith))

  pub take_three : (i : ℕ) → i + 3 ≤ length l → take 3 (drop i l) ≡ at i ∷ at (i + 1) ∷ at (i + 2) ∷ []
  take_three i h = more i 2 (omega arith) (take-two i (omega arith))

  pub take_five : (i : ℕ) → i + 5 ≤ length l → take 5 (drop i l) ≡ at i ∷ at (i + 1) ∷ at (i + 2) ∷ at (i + 3) ∷ at (i + 4) ∷ []
  take_five i h = more i 4 (omega arith) (more i 3 (omega arith) (take_three i (omega arith)))

  -- n entries, and the entries behind them
  pub piece : (i n j : ℕ) → j ≡ i + n → take n (drop i l) ++ drop j l ≡ drop i l
  piece i n j e =
      ap (λ (m : List A). take n (drop i l) ++ m) (ap (λ (k : ℕ). drop k l) e ∙ sym (drop-drop n i l))
      ∙ take-append-drop n (drop i l)
