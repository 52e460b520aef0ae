-- Lists of frames, side by side: the samples, whether a section limits, and the exact reckoning. The claim holds of every frame of them,
-- after n frames of which one has limited or none.
use mathlib.Core.Path.{◌≡◌, refl, sym, ap, subst}
use mathlib.Core.Bool.{Bool, false, ◌||◌, or_assoc, or-false}
use mathlib.Core.List.{List, [], ◌∷◌, ◌++◌}
use Prim.Native.Nat.{ℕ, zero, suc, ◌+◌, ◌^◌, ◌<◌}
use native.Mathlib.Omega.{arith}
use lib.IntN.{ℤ}
use lib.ListN.{length, get_or, take}
use Rattle.lists.specs.Lists.{any_of}
use Rattle.bands.specs.declared.Band.{Band}
use Rattle.closeness.specs.Claim.{divisor, Exact, Close}

module _ (bands : List Band) where
  -- the frame after n others: what its reckoning stands over, and that its sample is close where nothing has limited, in it or before
  pub record FrameFollows (n : ℕ) (limited : Bool) (s : ℤ) (e : Exact) : Type 0 where
    pub scale : e.scale ≡ divisor ^ suc n
    pub close : limited ≡ false → Close bands (suc n) s e

  -- counted from elsewhere
  frame_from : {n m : ℕ} {a b : Bool} (s : ℤ) (e : Exact) → n ≡ m → a ≡ b → FrameFollows n a s e → FrameFollows m b s e
  frame_from {n} {m} {a} {b} s e p q f = subst (λ (c : Bool). FrameFollows m c s e) q (subst (λ (k : ℕ). FrameFollows k a s e) p f)

  -- every frame of the lists
  abbrev pub Follows : ℕ → Bool → List ℤ → List Bool → List Exact → Type 0
  Follows n limited [] [] [] = Unit {0}
  Follows n limited [] [] (e ∷ es) = ⊥
  Follows n limited [] (t ∷ ts) es = ⊥
  Follows n limited (s ∷ ss) [] es = ⊥
  Follows n limited (s ∷ ss) (t ∷ ts) [] = ⊥
  Follows n limited (s ∷ ss) (t ∷ ts) (e ∷ es) =
      FrameFollows n (limited || t) s e × Follows (suc n) (limited || t) ss ts es

  -- the lists, counted from elsewhere
  pub follows_from : {n m : ℕ} {a b : Bool} (ss : List ℤ) (ts : List Bool) (es : List Exact) → n ≡ m → a ≡ b → Follows n a ss ts es → Follows m b ss ts es
  follows_from {n} {m} {a} {b} ss ts es p q f = subst (λ (c : Bool). Follows m c ss ts es) q (subst (λ (k : ℕ). Follows k a ss ts es) p f)

  -- more frames behind
  pub follows_append : (n : ℕ) (limited : Bool) (ss : List ℤ) (ts : List Bool) (es : List Exact) (ss' : List ℤ) (ts' : List Bool) (es' : List Exact) → Follows n limited ss ts es → Follows (n + length ts) (limited || any_of ts) ss' ts' es' → Follows n limited (ss ++ ss') (ts ++ ts') (es ++ es')
  follows_append n limited [] [] [] ss' ts' es' f g = follows_from ss' ts' es' (omega arith) (or-false limited) g
  follows_append n limited [] [] (e ∷ es) ss' ts' es' f g = absurd f
  follows_append n limited [] (t ∷ ts) es ss' ts' es' f g = absurd f
  follows_append n limited (s ∷ ss) [] es ss' ts' es' f g = absurd f
  follows_append n limited (s ∷ ss) (t ∷ ts) [] ss' ts' es' f g = absurd f
  follows_append n limited (s ∷ ss) (t ∷ ts) (e ∷ es) ss' ts' es' f g =
      (f.0, follows_append (suc n) (limited || t) ss ts es ss' ts' es' f.1 (follows_from ss' ts' es' (omega arith) (sym (or_assoc limited t (any_of ts))) g))

  -- frame i of them, i from 0
  pub follows_at : (n : ℕ) (limited : Bool) (ss : List ℤ) (ts : List Bool) (es : List Exact) (s : ℤ) (e : Exact) → Follows n limited ss ts es → (i : ℕ) → i < length ss → FrameFollows (n + i) (limited || any_of (take (suc i) ts)) (get_or ss i s) (get_or es i e)
  follows_at n limited [] ts es s e f i h = absurd (omega arith)
  follows_at n limited (a ∷ ss) [] es s e f i h = absurd f
  follows_at n limited (a ∷ ss) (t ∷ ts) [] s e f i h = absurd f
  follows_at n limited (a ∷ ss) (t ∷ ts) (b ∷ es) s e f zero h =
      frame_from a b (omega arith) (ap (λ (c : Bool). limited || c) (sym (or-false t))) f.0
  follows_at n limited (a ∷ ss) (t ∷ ts) (b ∷ es) s e f (suc i) h =
      frame_from (get_or ss i s) (get_or es i e) (omega arith) (or_assoc limited t (any_of (take (suc i) ts)))
      (follows_at (suc n) (limited || t) ss ts es s e f.1 i (omega arith))

  -- the lists are equally long
  pub follows_length : (n : ℕ) (limited : Bool) (ss : List ℤ) (ts : List Bool) (es : List Exact) → Follows n limited ss ts es → (length es ≡ length ss) × (length ts ≡ length ss)
  follows_length n limited [] [] [] f = (refl, refl)
  follows_length n limited [] [] (e ∷ es) f = absurd f
  follows_length n limited [] (t ∷ ts) es f = absurd f
  follows_length n limited (s ∷ ss) [] es f = absurd f
  follows_length n limited (s ∷ ss) (t ∷ ts) [] f = absurd f
  follows_length n limited (s ∷ ss) (t ∷ ts) (e ∷ es) f =
      (ap suc (follows_length (suc n) (limited || t) ss ts es f.1).0, ap suc (follows_length (suc n) (limited || t) ss ts es f.1).1)
