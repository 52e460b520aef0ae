-- What reading forms gives that are put together: one and then another, one seen as another type, and one for each key, read by a loop from a
-- running place.
use mathlib.Core.Path.{◌≡◌, sym, ap, ap₂, subst, ◌∙◌}
use mathlib.Core.List.{List, [], ◌∷◌, ◌++◌}
use Prim.Native.Nat.{ℕ, ◌+◌, ◌-◌, ◌≤◌, ◌<◌}
use native.Mathlib.Numerals.{add-one}
use native.Mathlib.Omega.{arith}
use lib.ListN.{length, get_or, take, drop, set, length-set, length-drop}
use lib.Seq.{take_all, take-suc-set}
use Rattle.std.specs.Prelude.{Ok, Err, refl}
use Rattle.std.proofs.lemmas.List.{take_rest}
use Rattle.refusals.specs.Numbers.{is_accepted, first_of, Verdict, Accepted}
use Rattle.refusals.specs.declared.Refusal.{Refusal}
use Rattle.forms.specs.Form.{Form, both, in_turn, seen_as}
use Rattle.forms.proofs.Sound.{Sound}
use Rattle.forms.proofs.Turns.{TurnsRead, turns_begin, turns_done, turns_refused, turns_next}
use Rattle.line_reading.specs.Gives.{form_read}
use Rattle.line_reading.proofs.Results.{read_off, read_on}

-- ---- one and then another

module _ {A B : Type 0} (f : Form A) (g : Form B) (bytes : List ℕ) where
  abbrev behind : List ℕ
  behind = drop (f.size bytes) bytes

  abbrev all : A × B
  all = (f.value bytes, g.value behind)

  -- the first is refused
  pub front_off : {e : Refusal} → Err e ≡ form_read f bytes → Err e ≡ form_read (both f g) bytes
  front_off {e} h = ap (λ (v : Verdict). first_of (first_of v (g.verdict behind)) (Ok all)) (sym (read_off (f.verdict bytes) (f.value bytes) (sym h)))

  module _ {a : A} (front : Ok a ≡ form_read f bytes) where
    abbrev on : (f.verdict bytes ≡ Accepted) × (f.value bytes ≡ a)
    on = read_on (f.verdict bytes) (f.value bytes) (sym front)

    -- the other is
    pub back_off : {e : Refusal} → Err e ≡ form_read g behind → Err e ≡ form_read (both f g) bytes
    back_off {e} h = ap₂ (λ (v w : Verdict). first_of (first_of v w) (Ok all)) (sym on.0) (sym (read_off (g.verdict behind) (g.value behind) (sym h)))

    -- both are accepted
    pub both_on : {b : B} → Ok b ≡ form_read g behind → Ok (a, b) ≡ form_read (both f g) bytes
    both_on {b} h =
        let back = read_on (g.verdict behind) (g.value behind) (sym h) in
        λ i. first_of (first_of (sym on.0 i) (sym back.0 i)) (Ok (sym on.1 i, sym back.1 i))

-- where a form is accepted, its bytes are there
pub form_room : {A : Type 0} {F : A → Type 0} (f : Form A) (bytes : List ℕ) {a : A} → Sound f F → Ok a ≡ form_read f bytes → f.size bytes ≤ length bytes
form_room f bytes sound h = (sound.told bytes (ap is_accepted (read_on (f.verdict bytes) (f.value bytes) (sym h)).0)).room

-- ---- one seen as another type

module _ {A B : Type 0} (there : A → B) (back : B → A) (f : Form A) (bytes : List ℕ) where
  -- it is refused
  pub seen_off : {e : Refusal} → Err e ≡ form_read f bytes → Err e ≡ form_read (seen_as there back f) bytes
  seen_off h = ap (λ (v : Verdict). first_of v (Ok (there (f.value bytes)))) (sym (read_off (f.verdict bytes) (f.value bytes) (sym h)))

  -- it is accepted
  pub seen_on : {a : A} → Ok a ≡ form_read f bytes → Ok (there a) ≡ form_read (seen_as there back f) bytes
  seen_on {a} h =
      let on = read_on (f.verdict bytes) (f.value bytes) (sym h) in
      λ i. first_of (sym on.0 i) (Ok (there (sym on.1 i)))

-- ---- one for each key

-- i of them are read and accepted, and stand at the front of the entries
pub record FormsRead {K A : Type 0} (form : K → Form A) (keys : List K) (bytes : List ℕ) (entries : List A) (next i : ℕ) : Type 0 where
  pub size : length entries ≡ length keys
  pub turned : TurnsRead form keys bytes 0 (take i entries) next i

module _ {K A : Type 0} {form : K → Form A} {keys : List K} {bytes : List ℕ} where
  -- none is read
  pub forms_begin : {entries : List A} → length entries ≡ length keys → FormsRead form keys bytes entries 0 0
  forms_begin e = record { size = e; turned = turns_begin (omega arith) }

  module _ {entries : List A} {next i : ℕ} (read : FormsRead form keys bytes entries next i) where
    -- all are read
    pub forms_done : length keys ≤ i → Ok entries ≡ form_read (in_turn form keys) bytes
    forms_done h =
        let done = turns_done read.turned h in
        ap Ok (sym (take_all i entries (omega (arith, read.size))) ∙ done.value_is)
        ∙ ap (λ (v : Verdict). first_of v (Ok ((in_turn form keys).value bytes))) done.verdict_is

    -- the ith is read
    module _ (d : K) {k : K} (h : i < length keys) (key : k ≡ get_or keys i d) where
      abbrev rest : List ℕ
      rest = take (length bytes - next) (drop next bytes)

      -- and refused
      pub forms_off : {e : Refusal} → Err e ≡ form_read (form k) rest → Err e ≡ form_read (in_turn form keys) bytes
      forms_off {e} r =
          let here : Err e ≡ form_read (form k) (drop next bytes) = r ∙ ap (form_read (form k)) (take_rest bytes next) in
          ap (λ (v : Verdict). first_of v (Ok ((in_turn form keys).value bytes)))
          (turns_refused read.turned d h key (sym (read_off ((form k).verdict (drop next bytes)) ((form k).value (drop next bytes)) (sym here))) refl)

      -- and accepted
      pub forms_on : {F : A → Type 0} → Sound (form k) F → {a : A} → Ok a ≡ form_read (form k) rest → {n : ℕ} → n ≡ next + (form k).size (drop next bytes)
          → FormsRead form keys bytes (set entries i a) n (i + 1)
      forms_on sound {a} r {n} place =
          let here : Ok a ≡ form_read (form k) (drop next bytes) = r ∙ ap (form_read (form k)) (take_rest bytes next) in
          let on = read_on ((form k).verdict (drop next bytes)) ((form k).value (drop next bytes)) (sym here) in
          let taken : take (i + 1) (set entries i a) ≡ take i entries ++ (a ∷ []) =
          ap (λ (m : ℕ). take m (set entries i a)) (add-one i) ∙ take-suc-set entries i a (omega (arith, read.size)) in
          record {
            size = length-set entries i a ∙ read.size;
            turned =
                subst (λ (l : List A). TurnsRead form keys bytes 0 l n (i + 1)) (sym taken)
                (turns_next read.turned d h key (sym on.0) refl (sym on.1) place
                (omega (arith, place, form_room (form k) (drop next bytes) sound here, length-drop next bytes, read.turned.inside)));
          }
