-- Texts one behind the other: how many bytes they have, and a loop that writes them from a running place on.
use mathlib.Core.Path.{◌≡◌, refl, sym, ap, ap₂, ◌∙◌}
use mathlib.Core.List.{List, [], ◌∷◌, ◌++◌}
use Prim.Native.Nat.{ℕ, ◌+◌, ◌≤◌, ◌<◌}
use native.Mathlib.Numerals.{add-one}
use native.Mathlib.Omega.{arith}
use lib.ListN.{length, get_or, drop, length-append, drop_of_length-le}
use lib.Seq.{sets, length-sets, drop-cons}
use Rattle.lists.proofs.Stores.{sets_append}
use Rattle.forms.specs.Form.{Form, in_turn}

-- how many bytes they have, where each has so many by its key
abbrev pub size_of : {K : Type 0} → (K → ℕ) → List K → ℕ
size_of size [] = 0
size_of size (k ∷ keys) = size k + size_of size keys

pub texts_length : {K A : Type 0} (form : K → Form A) (size : K → ℕ) → ((k : K) (a : A) → length ((form k).text a) ≡ size k) → (keys : List K) (entries : List A) → length entries ≡ length keys → length ((in_turn form keys).text entries) ≡ size_of size keys
texts_length form size sized [] entries e = refl
texts_length form size sized (k ∷ keys) [] e = absurd (omega arith)
texts_length form size sized (k ∷ keys) (a ∷ entries) e =
    length-append ((form k).text a) ((in_turn form keys).text entries)
    ∙ omega (arith, sized k a, texts_length form size sized keys entries (omega arith))

-- ---- a loop that writes the text of an entry at each turn

-- laid at the place that is reached, the texts from entry i on make the whole, and end where it ends
pub record Onward {K A : Type 0} (form : K → Form A) (keys : List K) (entries : List A) (start : List ℕ) (at : ℕ) (out : List ℕ) (next i : ℕ) : Type 0 where
  pub left : sets out next ((in_turn form (drop i keys)).text (drop i entries)) ≡ sets start at ((in_turn form keys).text entries)
  pub ends : next + length ((in_turn form (drop i keys)).text (drop i entries)) ≡ at + length ((in_turn form keys).text entries)

-- nothing is written
pub onward_begin : {K A : Type 0} {form : K → Form A} {keys : List K} {entries : List A} {start : List ℕ} {at next : ℕ} → next ≡ at → Onward form keys entries start at start next 0
onward_begin {form = form} {keys = keys} {entries = entries} {start = start} e =
    record {
      left = ap (λ (n : ℕ). sets start n ((in_turn form keys).text entries)) e;
      ends = ap (λ (n : ℕ). n + length ((in_turn form keys).text entries)) e;
    }

module _ {K A : Type 0} {form : K → Form A} {keys : List K} {entries : List A} {start : List ℕ} {at : ℕ} {out : List ℕ} {next i : ℕ} (from : Onward form keys entries start at out next i) where
  -- there are as many bytes as at the start
  pub onward_size : length out ≡ length start
  onward_size = simp length-sets at (ap length from.left)

  module _ (d : K) (e : A) {k : K} (h : i < length keys) (l : i < length entries) (key : get_or keys i d ≡ k) where
    abbrev behind : List ℕ
    behind = (in_turn form (drop (i + 1) keys)).text (drop (i + 1) entries)

    split : (in_turn form (drop i keys)).text (drop i entries) ≡ (form k).text (get_or entries i e) ++ behind
    split =
        ap₂ (λ (ks : List K) (l : List A). (in_turn form ks).text l) (drop-cons keys i d h) (drop-cons entries i e l)
        ∙ ap₂ (λ (a : K) (n : ℕ). (form a).text (get_or entries i e) ++ (in_turn form (drop n keys)).text (drop n entries)) key (sym (add-one i))

    -- as far as the text of entry i reaches, and the others behind it
    reaches : next + (length ((form k).text (get_or entries i e)) + length behind) ≡ at + length ((in_turn form keys).text entries)
    reaches = ap (λ (n : ℕ). next + n) (sym (ap length split ∙ length-append ((form k).text (get_or entries i e)) behind)) ∙ from.ends

    -- where the whole has room, the text of entry i has
    pub onward_room : {room : ℕ} → at + length ((in_turn form keys).text entries) ≤ room → next + length ((form k).text (get_or entries i e)) ≤ room
    onward_room r = omega (arith, r, reaches)

    -- the text of entry i is written
    pub onward_next : {after : List ℕ} {further : ℕ} → after ≡ sets out next ((form k).text (get_or entries i e)) → further ≡ next + length ((form k).text (get_or entries i e)) → Onward form keys entries start at after further (i + 1)
    onward_next {after} {further} stored reached =
        record {
          left =
              ap (λ (b : List ℕ). sets b further behind) stored
              ∙ sets_append ((form k).text (get_or entries i e)) behind out next further reached
              ∙ ap (sets out next) (sym split)
              ∙ from.left;
          ends = omega (arith, reached, reaches);
        }

  -- every text is written
  pub onward_done : length keys ≤ i → out ≡ sets start at ((in_turn form keys).text entries)
  onward_done h =
      sym (ap (λ (ks : List K). sets out next ((in_turn form ks).text (drop i entries))) (drop_of_length-le keys h)) ∙ from.left
