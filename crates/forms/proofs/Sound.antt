-- A sound form: what is written reads back, whatever stands behind it, and what is accepted is written again. Put together from sound
-- forms, a form is sound.
use mathlib.Core.Path.{◌≡◌, refl, sym, ap, ap₂, ◌∙◌, subst}
use mathlib.Core.Bool.{true}
use mathlib.Core.List.{List, [], ◌∷◌, ◌++◌, append_assoc}
use Prim.Native.Nat.{ℕ, ◌+◌, ◌≤◌}
use native.Mathlib.Omega.{arith}
use lib.ListN.{length, take, drop, length-append, length-drop}
use lib.Seq.{take-add, drop-append_seam}
use Rattle.lists.specs.Lists.{Each}
use Rattle.refusals.specs.Numbers.{is_accepted, first_of, Verdict, Accepted}
use Rattle.refusals.proofs.Laws.{first_both}
use Rattle.forms.specs.Form.{Form, glued, both, first_text, in_turn, seen_as}

-- the bytes read as this value, and as many are taken as the value is written in
pub record Back {A : Type 0} (form : Form A) (a : A) (bytes : List ℕ) : Type 0 where
  pub verdict : form.verdict bytes ≡ Accepted
  pub size : form.size bytes ≡ length (form.text a)
  pub value : form.value bytes ≡ a

-- the value fits, and written again it is the bytes that were taken
pub record Told {A : Type 0} (form : Form A) (Fits : A → Type 0) (bytes : List ℕ) : Type 0 where
  pub fits : Fits (form.value bytes)
  pub again : form.text (form.value bytes) ≡ take (form.size bytes) bytes
  pub room : form.size bytes ≤ length bytes

-- both ways
pub record Sound {A : Type 0} (form : Form A) (Fits : A → Type 0) : Type 0 where
  pub back : (a : A) (behind : List ℕ) → Fits a → Back form a (form.text a ++ behind)
  pub told : (bytes : List ℕ) → is_accepted (form.verdict bytes) ≡ true → Told form Fits bytes

-- ---- a form and then another

module _ {A B C : Type 0} (text : C → List ℕ) (put : A → B → C) (f : Form A) (g : Form B) (joins : (a : A) (b : B) → text (put a b) ≡ f.text a ++ g.text b) where
  abbrev whole : Form C
  whole = glued text put f g

  glued_front : (a : A) (b : B) (rest : List ℕ) → Back f a (f.text a ++ rest) → Back g b rest → Back whole (put a b) (f.text a ++ rest)
  glued_front a b rest p q =
      record {
        verdict = ap₂ (λ (v : Verdict) (l : List ℕ). first_of v (g.verdict l)) p.verdict past ∙ q.verdict;
        size =
            ap₂ (λ (n : ℕ) (l : List ℕ). n + g.size l) p.size past
            ∙ ap (λ (n : ℕ). length (f.text a) + n) q.size
            ∙ sym (length-append (f.text a) (g.text b))
            ∙ ap length (sym (joins a b));
        value = ap₂ (λ (x : A) (l : List ℕ). put x (g.value l)) p.value past ∙ ap (put a) q.value;
      }
    where
      past : drop (f.size (f.text a ++ rest)) (f.text a ++ rest) ≡ rest
      past = ap (λ (n : ℕ). drop n (f.text a ++ rest)) p.size ∙ drop-append_seam (f.text a) rest

  pub glued_back : (a : A) (b : B) (behind : List ℕ) → Back f a (f.text a ++ (g.text b ++ behind)) → Back g b (g.text b ++ behind) → Back whole (put a b) (text (put a b) ++ behind)
  glued_back a b behind p q =
      subst (Back whole (put a b)) (sym (ap (λ (l : List ℕ). l ++ behind) (joins a b) ∙ append_assoc (f.text a) (g.text b) behind)) (glued_front a b (g.text b ++ behind) p q)

  module _ {F : A → Type 0} {G : B → Type 0} (H : C → Type 0) (fit : (a : A) (b : B) → F a → G b → H (put a b)) where
    pub glued_told : (bytes : List ℕ) → ((bytes : List ℕ) → is_accepted (f.verdict bytes) ≡ true → Told f F bytes) → ((bytes : List ℕ) → is_accepted (g.verdict bytes) ≡ true → Told g G bytes) → is_accepted (whole.verdict bytes) ≡ true → Told whole H bytes
    glued_told bytes tf tg e =
        record {
          fits = fit (f.value bytes) (g.value rest) p.fits q.fits;
          again = joins (f.value bytes) (g.value rest) ∙ ap₂ ◌++◌ p.again q.again ∙ sym (take-add (f.size bytes) (g.size rest) bytes);
          room = omega (arith, p.room, q.room, length-drop (f.size bytes) bytes);
        }
      where
        rest : List ℕ
        rest = drop (f.size bytes) bytes

        p : Told f F bytes
        p = tf bytes (first_both (f.verdict bytes) (g.verdict rest) e).0

        q : Told g G rest
        q = tg rest (first_both (f.verdict bytes) (g.verdict rest) e).1

-- as a pair
pub both-sound : {A B : Type 0} {f : Form A} {g : Form B} {F : A → Type 0} {G : B → Type 0} → Sound f F → Sound g G → Sound (both f g) (λ (p : A × B). F p.0 × G p.1)
both-sound {A} {B} {f} {g} {F} {G} sf sg =
    record {
      back = λ p behind fits.
          glued_back text (λ a b. (a, b)) f g (λ a b. refl) p.0 p.1 behind
          (sf.back p.0 (g.text p.1 ++ behind) fits.0) (sg.back p.1 behind fits.1);
      told = λ bytes e.
          glued_told text (λ a b. (a, b)) f g (λ a b. refl) {F = F} {G = G} (λ (p : A × B). F p.0 × G p.1) (λ a b x y. (x, y)) bytes sf.told sg.told e;
    }
  where
    text : A × B → List ℕ
    text p = f.text p.0 ++ g.text p.1

-- ---- one for each key

-- one entry for each key, and each fits
abbrev pub Matched : {K A : Type 0} → (K → A → Type 0) → List K → List A → Type 0
Matched F [] [] = Unit {0}
Matched F [] (a ∷ l) = ⊥
Matched F (k ∷ keys) [] = ⊥
Matched F (k ∷ keys) (a ∷ l) = F k a × Matched F keys l

-- what holds of every key holds of each
pub each_key : {K : Type 0} (P : K → Type 0) (keys : List K) → ((k : K) → P k) → Each P keys
each_key P [] h = tt
each_key P (k ∷ keys) h = (h k, each_key P keys h)

module _ {K A : Type 0} (form : K → Form A) (F : K → A → Type 0) where
  abbrev pub EachSound : List K → Type 0
  EachSound = Each (λ (k : K). Sound (form k) (F k))

  turn_back : (keys : List K) → EachSound keys → (l : List A) (behind : List ℕ) → Matched F keys l → Back (in_turn form keys) l ((in_turn form keys).text l ++ behind)
  turn_back [] s [] behind h = record { verdict = refl; size = refl; value = refl }
  turn_back [] s (a ∷ l) behind h = absurd h
  turn_back (k ∷ keys) s [] behind h = absurd h
  turn_back (k ∷ keys) s (a ∷ l) behind h =
      glued_back (first_text (form k).text (in_turn form keys).text) ◌∷◌ (form k) (in_turn form keys) (λ a l. refl) a l behind
      (s.0.back a ((in_turn form keys).text l ++ behind) h.0) (turn_back keys s.1 l behind h.1)

  turn_told : (keys : List K) → EachSound keys → (bytes : List ℕ) → is_accepted ((in_turn form keys).verdict bytes) ≡ true → Told (in_turn form keys) (Matched F keys) bytes
  turn_told [] s bytes e = record { fits = tt; again = refl; room = omega arith }
  turn_told (k ∷ keys) s bytes e =
      glued_told (first_text (form k).text (in_turn form keys).text) ◌∷◌ (form k) (in_turn form keys) (λ a l. refl) {F = F k} {G = Matched F keys} (Matched F (k ∷ keys)) (λ a l x y. (x, y)) bytes s.0.told (turn_told keys s.1) e

  pub turn_sound : (keys : List K) → EachSound keys → Sound (in_turn form keys) (Matched F keys)
  turn_sound keys s = record { back = λ l behind h. turn_back keys s l behind h; told = turn_told keys s }

-- ---- seen as another type

pub seen_sound : {A B : Type 0} {f : Form A} {F : A → Type 0} (G : B → Type 0) (there : A → B) (back : B → A) → Sound f F
    → ((b : B) → G b → F (back b) × (there (back b) ≡ b)) → ((a : A) → F a → G (there a) × (back (there a) ≡ a)) → Sound (seen_as there back f) G
seen_sound {A} {B} {f} {F} G there back s from to =
    record {
      back = λ b behind g.
          let p : Back f (back b) (f.text (back b) ++ behind) = s.back (back b) behind (from b g).0 in
          record { verdict = p.verdict; size = p.size; value = ap there p.value ∙ (from b g).1 };
      told = λ bytes e.
          let t : Told f F bytes = s.told bytes e in
          record { fits = (to (f.value bytes) t.fits).0; again = ap f.text (to (f.value bytes) t.fits).1 ∙ t.again; room = t.room };
    }
