-- What a read tells of the verdict that it begins with: accepted, it gives the value; refused, the refusal.
use mathlib.Core.Path.{◌≡◌, refl, ap, ◌∙◌}
use Rattle.std.specs.Result.{IsErrAnd}
use Rattle.std.proofs.lemmas.Result.{err_from_is_err_and}
use Rattle.std.specs.Prelude.{Result, Ok, Err}
use Rattle.refusals.specs.Numbers.{first_of, Verdict, Accepted}
use Rattle.refusals.specs.declared.Refusal.{Refusal}

-- refused
pub read_off : {A : Type 0} (v : Verdict) (x : A) {e : Refusal} → first_of v (Ok x) ≡ Err e → v ≡ Err e
read_off (Ok done) x q = cc
read_off (Err refusal) x q = cc

-- accepted
pub read_on : {A : Type 0} (v : Verdict) (x : A) {a : A} → first_of v (Ok x) ≡ Ok a → (v ≡ Accepted) × (x ≡ a)
read_on (Ok done) x q = (refl, cc)
read_on (Err refusal) x q = cc

-- a refusal that `?` hands on
pub handed_on : {A : Type 0} {e : Refusal} {wanted : Result A Refusal} (r : Result A Refusal) → IsErrAnd r (λ (x : Refusal). x ≡ e) → Err e ≡ wanted → r ≡ wanted
handed_on r h q = let p = err_from_is_err_and r h in p.1 ∙ ap Err p.2 ∙ q

-- the same of a routine that stores what it reads
pub stored_off : {A : Type 0} {e : Refusal} {wanted : Result A Refusal} (r : Verdict) (x : A) → IsErrAnd r (λ (f : Refusal). f ≡ e) → Err e ≡ wanted → first_of r (Ok x) ≡ wanted
stored_off r x h q = let p = err_from_is_err_and r h in ap (λ (v : Verdict). first_of v (Ok x)) (p.1 ∙ ap Err p.2) ∙ q
