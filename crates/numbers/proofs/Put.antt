-- Storing from the front: a row of numbers, and one store after another.
use mathlib.Core.Path.{◌≡◌, refl, sym, ap, ◌∙◌, subst}
use mathlib.Core.List.{List, ◌++◌, append_assoc}
use Prim.Native.Nat.{ℕ, ◌+◌, ◌-◌, ◌≤◌, ◌<◌}
use borrow.Rule.Slice.PartMut.{put_mid, same_len_mid}
use Rattle.std.proofs.lemmas.Slice.{take-put_mid, drop-put_mid}
use native.Mathlib.Numerals.{add-one}
use native.Mathlib.Omega.{arith}
use lib.IntN.{ℤ}
use lib.ListN.{length, get_or, take, drop, length-take, length-drop}
use lib.Seq.{take_all, take-suc, drop-drop}
use Rattle.lists.specs.Lists.{joined}
use Rattle.lists.proofs.Joined.{joined_snoc}
use Rattle.numbers.specs.Layout.{unit_size, PutGives}

-- ---- stores

-- all stored
pub put_all : {l m new : List ℤ} → PutGives l 0 new unit_size m → m ≡ new
put_all {l} {m} {new} p = sym (take_all unit_size m (omega (arith, p.size))) ∙ p.front

-- one store after another
pub put_then : {l m n : List ℤ} {i j k : ℕ} {new more : List ℤ} → PutGives l i new j m → PutGives m j more k n → PutGives l i (new ++ more) k n
put_then {l} {m} {n} {i} {j} {k} {new} {more} p q =
    record {
      size = q.size;
      onward = omega (arith, p.onward, q.onward);
      front = q.front ∙ ap (λ (x : List ℤ). x ++ more) p.front ∙ append_assoc (take i l) new more;
      behind = q.behind ∙ further m ∙ ap (drop (k - j)) p.behind ∙ sym (further l);
    }
  where
    reach : k ≡ j + (k - j)
    reach = omega (arith, q.onward)

    further : (x : List ℤ) → drop k x ≡ drop (k - j) (drop j x)
    further x = ap (λ (t : ℕ). drop t x) reach ∙ sym (drop-drop (k - j) j x)

-- the same numbers and the same place, said in another way
pub put_as : {l m : List ℤ} {i j k : ℕ} {row new : List ℤ} → PutGives l i row j m → row ≡ new → j ≡ k → PutGives l i new k m
put_as {l} {m} {i} {j} {k} {row} {new} p e f =
    subst (λ (n : ℕ). PutGives l i new n m) f (subst (λ (x : List ℤ). PutGives l i x j m) e p)

-- a row of numbers, in the place of n numbers from place i on
pub put_row : (l : List ℤ) (i n : ℕ) {row now : List ℤ} → length l ≡ unit_size → i + length row ≤ unit_size → n ≡ length row → now ≡ row → PutGives l i row (i + length row) (put_mid i n l now)
put_row l i n {row} {now} h room e same =
    record {
      size = same_len_mid i n l now (omega (arith, ap length same, length-take {A = ℤ}, length-drop {A = ℤ})) ∙ h;
      onward = omega arith;
      front = take-put_mid i n l now (i + length row) (omega (arith, ap length same)) (omega arith) ∙ ap (λ (r : List ℤ). take i l ++ r) same;
      behind = drop-put_mid i n l now (i + length row) (omega arith) (omega arith) (omega (arith, ap length same));
    }

-- ---- what is joined of entries, one entry after the other

module _ {A : Type 0} (f : A → List ℤ) (entries : List A) (d : A) where
  joined-next : (b : ℕ) → b < length entries → joined f (take (b + 1) entries) ≡ joined f (take b entries) ++ f (get_or entries b d)
  joined-next b h = rw (add-one, take-suc entries b d) (joined_snoc f (take b entries) (get_or entries b d))

  -- one entry more
  pub put_entry : {l m n : List ℤ} {i j k : ℕ} (b : ℕ) {row : List ℤ} → b < length entries → PutGives l i (joined f (take b entries)) j m → PutGives m j row k n → row ≡ f (get_or entries b d) → (to : ℕ) → k ≡ to → PutGives l i (joined f (take (b + 1) entries)) to n
  put_entry b h p q same to e = put_as (put_then p (put_as q same refl)) (sym (joined-next b h)) e
