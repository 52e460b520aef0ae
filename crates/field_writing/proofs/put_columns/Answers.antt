-- `field_writing::put_columns` meets its contract. The loop's invariant: with the columns of what is left before column i all columns are stored.
use mathlib.Core.Bool.{Bool}
use mathlib.Core.List.{List}
use mathlib.Core.Path.{◌≡◌, sym, ap, ◌∙◌}
use Prim.Native.Nat.{ℕ, suc, ◌+◌, ◌-◌, ◌/◌}
use native.Mathlib.Omega.{arith}
use lib.ListN.{set}
use lib.Seq.{sets}
use Rattle.lists.proofs.Stores.{sets_snoc}
use Rattle.fields.specs.Fields.{column, owed_still, columns}
use Rattle.fields.proofs.Columns.{columns-length}
use Rattle.field_writing.proofs.put_columns.Goals as goal

-- a column is stored, and those of what is then left before it
one_more : (out : List ℕ) (at i j left : ℕ) (owed : Bool) {byte : ℕ} → i ≡ suc j → byte ≡ column left owed → sets (set out (at + j) byte) at (columns j (left / 10) (owed_still left owed)) ≡ sets out at (columns i left owed)
unfolding columns
one_more out at i j left owed e b =
    ap (λ (a : ℕ). sets (set out (at + j) a) at (columns j (left / 10) (owed_still left owed))) b
    ∙ sets_snoc (columns j (left / 10) (owed_still left owed)) out at (at + j) (column left owed) (ap (λ (k : ℕ). at + k) (sym (columns-length j (left / 10) (owed_still left owed))))
    ∙ ap (λ (k : ℕ). sets out at (columns k left owed)) (sym e)

pub loop-i-preserved : goal.loop-i-preserved
unfolding owed_still
loop-i-preserved c =
    one_more c.loop-i.out c.args.at c.loop-i.i (c.loop-i.i - 1) c.loop-i.left c.loop-i.owed (omega arith) c.column.ensures ∙ c.loop-i.invariant

pub returns : goal.returns
unfolding columns
returns c =
    let none : 0 ≡ c.loop-i.i = omega arith in
    ap (λ (k : ℕ). sets c.loop-i.out c.args.at (columns k c.loop-i.left c.loop-i.owed)) none ∙ c.loop-i.invariant
