-- A form for each key, read by a loop from a running place: what is left from the ith key on.
use mathlib.Core.Path.{◌≡◌, refl, sym, ap, ap₂, ◌∙◌}
use mathlib.Core.Bool.{true, false}
use mathlib.Core.List.{List, [], ◌∷◌, ◌++◌, append_assoc, append-nil}
use Prim.Native.Nat.{ℕ, ◌+◌, ◌≤◌, ◌<◌}
use native.Mathlib.Numerals.{add-one}
use native.Mathlib.Omega.{arith}
use lib.ListN.{length, get_or, drop, drop_of_length-le}
use lib.Seq.{drop-cons, drop-drop}
use Rattle.refusals.specs.Numbers.{is_accepted, first_of, Verdict, Accepted}
use Rattle.refusals.proofs.Laws.{first_accepted, first_refused}
use Rattle.forms.specs.Form.{Form, in_turn}

-- from `start` on the entries of i keys are read and accepted, and the others are left, from `next` on
pub record TurnsRead {K A : Type 0} (form : K → Form A) (keys : List K) (bytes : List ℕ) (start : ℕ) (entries : List A) (next i : ℕ) : Type 0 where
  pub below : i ≤ length keys
  pub inside : next ≤ length bytes
  pub verdict : (in_turn form keys).verdict (drop start bytes) ≡ (in_turn form (drop i keys)).verdict (drop next bytes)
  pub value : (in_turn form keys).value (drop start bytes) ≡ entries ++ (in_turn form (drop i keys)).value (drop next bytes)
  pub size : start + (in_turn form keys).size (drop start bytes) ≡ next + (in_turn form (drop i keys)).size (drop next bytes)

-- all entries are read and accepted
pub record TurnsDone {K A : Type 0} (form : K → Form A) (keys : List K) (bytes : List ℕ) (start : ℕ) (entries : List A) (next : ℕ) : Type 0 where
  pub verdict_is : Accepted ≡ (in_turn form keys).verdict (drop start bytes)
  pub value_is : entries ≡ (in_turn form keys).value (drop start bytes)
  pub next_is : next ≡ start + (in_turn form keys).size (drop start bytes)

module _ {K A : Type 0} {form : K → Form A} {keys : List K} {bytes : List ℕ} {start : ℕ} where
  -- none is read
  pub turns_begin : start ≤ length bytes → TurnsRead form keys bytes start [] start 0
  turns_begin h = record { below = omega arith; inside = h; verdict = refl; value = refl; size = refl }

  module _ {entries : List A} {next i : ℕ} (turned : TurnsRead form keys bytes start entries next i) where
    -- all are read
    pub turns_done : length keys ≤ i → TurnsDone form keys bytes start entries next
    turns_done h =
        record {
          verdict_is = sym (turned.verdict ∙ ap (λ (ks : List K). (in_turn form ks).verdict (drop next bytes)) none);
          value_is = sym (turned.value ∙ ap (λ (ks : List K). entries ++ (in_turn form ks).value (drop next bytes)) none ∙ append-nil entries);
          next_is = omega (arith, turned.size, ap (λ (ks : List K). (in_turn form ks).size (drop next bytes)) none);
        }
      where
        none : drop i keys ≡ []
        none = drop_of_length-le keys h

    -- the ith key's entry is read
    module _ (d : K) {k : K} {v : Verdict} (h : i < length keys) (key : k ≡ get_or keys i d) (verdict_is : v ≡ (form k).verdict (drop next bytes)) where
      abbrev here : List ℕ
      here = drop next bytes

      abbrev rest : Form (List A)
      rest = in_turn form (drop (i + 1) keys)

      cons : drop i keys ≡ k ∷ drop (i + 1) keys
      cons = drop-cons keys i d h ∙ ap₂ ◌∷◌ (sym key) (ap (λ (n : ℕ). drop n keys) (sym (add-one i)))

      first : (in_turn form keys).verdict (drop start bytes) ≡ first_of v (rest.verdict (drop ((form k).size here) here))
      first =
          turned.verdict
          ∙ ap (λ (ks : List K). (in_turn form ks).verdict here) cons
          ∙ ap (λ (u : Verdict). first_of u (rest.verdict (drop ((form k).size here) here))) (sym verdict_is)

      -- and refused
      pub turns_refused : is_accepted v ≡ false → v ≡ (in_turn form keys).verdict (drop start bytes)
      turns_refused f = sym (first ∙ first_refused v (rest.verdict (drop ((form k).size here) here)) f)

      -- and accepted
      pub turns_next : {a : A} {n : ℕ} → is_accepted v ≡ true → a ≡ (form k).value here → n ≡ next + (form k).size here → n ≤ length bytes → TurnsRead form keys bytes start (entries ++ (a ∷ [])) n (i + 1)
      turns_next {a} {n} e value_is next_is inside =
          record {
            below = omega arith;
            inside = inside;
            verdict = first ∙ first_accepted v (rest.verdict (drop ((form k).size here) here)) e ∙ ap rest.verdict past;
            value =
                turned.value
                ∙ ap (λ (ks : List K). entries ++ (in_turn form ks).value here) cons
                ∙ ap₂ (λ (x : A) (l : List ℕ). entries ++ (x ∷ rest.value l)) (sym value_is) past
                ∙ sym (append_assoc entries (a ∷ []) (rest.value (drop n bytes)));
            size =
                turned.size
                ∙ ap (λ (ks : List K). next + (in_turn form ks).size here) cons
                ∙ omega (arith, next_is, ap rest.size past);
          }
        where
          past : drop ((form k).size here) here ≡ drop n bytes
          past = drop-drop ((form k).size here) next bytes ∙ ap (λ (m : ℕ). drop m bytes) (sym next_is)
