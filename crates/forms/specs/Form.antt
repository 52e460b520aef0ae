-- A form: how a value is written, and how it is read from bytes that begin with it. Forms stand one behind the other, one for each of some
-- keys, or are seen as another type. Definitions only.
use Rattle.std.specs.Prelude.{List, [], ◌∷◌, ◌++◌, ℕ, ◌+◌, drop}
use Rattle.refusals.specs.Numbers.{first_of, Verdict, Accepted}

pub record Form (A : Type 0) : Type 0 where
  -- the bytes of a value
  pub text : A → List ℕ
  -- the first refusal, from the first byte on
  pub verdict : List ℕ → Verdict
  -- where there is none: how many bytes are taken, and the value that they carry
  pub size : List ℕ → ℕ
  pub value : List ℕ → A

-- nothing
abbrev pub nothing : {A : Type 0} → Form (List A)
nothing = record { text = λ l. []; verdict = λ bytes. Accepted; size = λ bytes. 0; value = λ bytes. [] }

-- a form and then another, the two values put together
abbrev pub glued : {A B C : Type 0} → (C → List ℕ) → (A → B → C) → Form A → Form B → Form C
glued text put f g =
    record {
      text = text;
      verdict = λ bytes. first_of (f.verdict bytes) (g.verdict (drop (f.size bytes) bytes));
      size = λ bytes. f.size bytes + g.size (drop (f.size bytes) bytes);
      value = λ bytes. put (f.value bytes) (g.value (drop (f.size bytes) bytes));
    }

-- as a pair
abbrev pub both : {A B : Type 0} → Form A → Form B → Form (A × B)
both f g = glued (λ p. f.text p.0 ++ g.text p.1) (λ a b. (a, b)) f g

-- as the first entry of a list and the others
abbrev pub first_text : {A : Type 0} → (A → List ℕ) → (List A → List ℕ) → List A → List ℕ
first_text f g [] = []
first_text f g (a ∷ l) = f a ++ g l

abbrev pub ahead : {A : Type 0} → Form A → Form (List A) → Form (List A)
ahead f g = glued (first_text f.text g.text) ◌∷◌ f g

-- one for each key, one behind the other
abbrev pub in_turn : {K A : Type 0} → (K → Form A) → List K → Form (List A)
in_turn form [] = nothing
in_turn form (k ∷ keys) = ahead (form k) (in_turn form keys)

-- seen as another type: what is read goes there, what is written comes from there
abbrev pub seen_as : {A B : Type 0} → (A → B) → (B → A) → Form A → Form B
seen_as there back f =
    record { text = λ b. f.text (back b); verdict = f.verdict; size = f.size; value = λ bytes. there (f.value bytes) }
