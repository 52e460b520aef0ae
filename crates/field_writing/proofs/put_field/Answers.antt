-- `field_writing::put_field` meets its contract.
use mathlib.Core.Bool.{Bool, true, false}
use mathlib.Core.List.{List, [], ◌∷◌, ◌++◌, append_assoc}
use mathlib.Core.Path.{◌≡◌, refl, sym, ap, ap₂, ◌∙◌}
use Prim.Native.Nat.{ℕ, ◌+◌, ◌-◌, ◌/◌, ◌%◌, ◌≤◌, ◌<◌}
use native.Mathlib.Omega.{arith}
use lib.IntN.{ℤ, pos, nat_abs}
use lib.ListN.{length, set, take, drop, replicate, length-take, length-drop}
use lib.Signed.{lt_z}
use lib.Seq.{sets, sets-eq, drop-drop}
use borrow.Rule.Slice.PartMut.{put_mid}
use mir.Facts.{to_z-of_z}
use mir.Syntax.{w32}
use mir.Val.{to_z, of_z}
use Rattle.lists.proofs.Stores.{sets_append, sets_snoc}
use Rattle.fields.specs.Fields.{last_column, blank, digit, column, owed_still, columns, field}
use Rattle.fields.proofs.Columns.{columns-length}
use Rattle.field_writing.proofs.put_field.Goals as goal

-- the columns before the one in front of the last: blanks where a number has one digit
abbrev front_columns : ℕ
front_columns = 7

-- where nothing is left all along, the columns are blanks and the minus that is owed, or one blank more
columns-blank : (owed : Bool) → columns last_column 0 owed ≡ replicate front_columns blank ++ (column 0 owed ∷ [])
unfolding columns column owed_still
columns-blank true = refl
columns-blank false = refl

module _ (before : List ℕ) (at : ℕ) (number : ℤ) {size : ℕ} (e : size ≡ nat_abs number) where
  -- the columns before the last, by what is left for them
  abbrev front : ℕ → List ℕ
  front left = columns last_column left (lt_z number (pos 0))

  -- the last column is right behind them
  behind : (left : ℕ) → at + last_column ≡ at + length (front left)
  behind left = ap (λ (k : ℕ). at + k) (sym (columns-length last_column left (lt_z number (pos 0))))

  -- the last digit, stored first, and the columns before it are the field
  stored-field : sets (set before (at + last_column) (digit (size % 10))) at (front (size / 10)) ≡ sets before at (field number)
  unfolding field
  stored-field =
      sets_snoc (front (size / 10)) before at (at + last_column) (digit (size % 10)) (behind (size / 10))
      ∙ ap (λ (k : ℕ). sets before at (front (k / 10) ++ (digit (k % 10) ∷ []))) e

  -- so are blanks, the minus that is owed or a blank, and a single digit
  stored_short : {after : List ℕ} {sign : ℕ} → after ≡ sets before at (replicate front_columns blank) → sign ≡ column 0 (lt_z number (pos 0)) → size < 10
      → set (set after (at + front_columns) sign) (at + last_column) (digit size) ≡ sets before at (field number)
  unfolding field
  stored_short blanks is-sign h =
      let none : 0 ≡ nat_abs number / 10 = omega arith in
      let all : size ≡ nat_abs number % 10 = omega arith in
      ap₂ (λ (l : List ℕ) (b : ℕ). set (set l (at + front_columns) b) (at + last_column) (digit size)) blanks is-sign
      ∙ ap (λ (l : List ℕ). set l (at + last_column) (digit size))
      (sets_append (replicate front_columns blank) (column 0 (lt_z number (pos 0)) ∷ []) before at (at + front_columns) refl
      ∙ ap (sets before at) (sym (columns-blank (lt_z number (pos 0)))))
      ∙ sets_append (front 0) (digit size ∷ []) before at (at + last_column) (behind 0)
      ∙ ap₂ (λ (k d : ℕ). sets before at (front k ++ (digit d ∷ []))) none all

-- blanks in the place of n bytes from a place on are a run of stores
blanks-stored : (out : List ℕ) (at n : ℕ) {filled : List ℕ} → n ≡ front_columns → at + front_columns ≤ length out → filled ≡ replicate (length (take n (drop at out))) blank → put_mid at n out filled ≡ sets out at (replicate front_columns blank)
blanks-stored out at n {filled} seven h e =
    ap₂ (λ (k : ℕ) (ys : List ℕ). put_mid at k out ys) seven (e ∙ ap (λ (k : ℕ). replicate k blank) long)
    ∙ ap (λ (r : List ℕ). take at out ++ (replicate front_columns blank ++ r)) (drop-drop front_columns at out)
    ∙ sym (append_assoc (take at out) (replicate front_columns blank) (drop (at + front_columns) out))
    ∙ sym (sets-eq (replicate front_columns blank) out at h)
  where
    long : length (take n (drop at out)) ≡ front_columns
    long = simp (length-take, length-drop) (omega arith)

pub returns-then-size-lt10 : goal.returns-then-size-lt10
returns-then-size-lt10 c =
    stored_short c.args.out.now c.args.at (to_z w32 (of_z w32 c.args.number)) c.unsigned_abs-size.ensures.value
    (blanks-stored c.args.out.now c.args.at (c.args.at + 7 - c.args.at) (omega arith) (omega arith) (c.fill.ensures.after (λ y h. h)))
    c.column.ensures c.if-size-lt10.true
    ∙ ap (λ (z : ℤ). sets c.args.out.now c.args.at (field z)) (to_z-of_z c.ranges.number)

pub returns : goal.returns
returns c =
    c.put_columns.ensures
    ∙ stored-field c.args.out.now c.args.at (to_z w32 (of_z w32 c.args.number)) c.unsigned_abs-size.ensures.value
    ∙ ap (λ (z : ℤ). sets c.args.out.now c.args.at (field z)) (to_z-of_z c.ranges.number)
