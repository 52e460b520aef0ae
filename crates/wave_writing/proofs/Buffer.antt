-- What is written, and the buffer after it: the heading, the frames, and what stood behind them.
use mathlib.Core.Path.{◌≡◌, refl, sym, ◌∙◌}
use mathlib.Core.Bool.{true}
use mathlib.Core.List.{List, [], ◌++◌, append_assoc, append-nil}
use Prim.Native.Nat.{ℕ, ◌+◌, ◌-◌, ◌≤◌, ◌%◌}
use native.Mathlib.Omega.{arith}
use borrow.Rule.Slice.PartMut.{put_mid}
use borrow.Author.Tests.{le-leb, eqb-true, leb-true}
use lib.Dec.{eqb, leb}
use lib.ListN.{length, take, drop, length-drop}
use lib.Seq.{take_at, drop_at, drop-drop, drop-length}
use Rattle.std.specs.List.{between}
use Rattle.std.proofs.lemmas.Slice.{between_to_end}
use Rattle.refusals.specs.Numbers.{is_accepted, Accepted}
use Rattle.refusals.specs.declared.Refusal.TheVariants.{InputLength}
use Rattle.refusals.proofs.Laws.{first_both, unless_accepted}
use Rattle.wave_writing.specs.Writing.{heading, heading_size, most_data, size_verdict, write_verdict, wave_of, written}

pub length-heading : (n : ℕ) → length (heading n) ≡ heading_size
unfolding heading
length-heading n = refl

-- a size that is accepted is one of whole frames, and not too large
pub size_fits : (n : ℕ) → is_accepted (size_verdict n) ≡ true → (n % 4 ≡ 0) × (n ≤ most_data)
size_fits n e =
    let w = unless_accepted (eqb (n % 4) 0) InputLength _ e in
    let m = unless_accepted (leb n most_data) InputLength Accepted w.1 in
    (eqb-true (n % 4) 0 w.0, leb-true n most_data m.0)

-- so is one that is written
pub write_fits : (n room : ℕ) → is_accepted (write_verdict n room) ≡ true → (n % 4 ≡ 0) × (n ≤ most_data)
unfolding write_verdict
write_fits n room e = size_fits n (first_both (size_verdict n) _ e).0

-- the buffer after an accepted writing
pub written_is : (d out : List ℕ) → is_accepted (write_verdict (length d) (length out)) ≡ true → written d out ≡ heading (length d) ++ (d ++ drop (heading_size + length d) out)
unfolding written wave_of
written_is d out e = simp (e, append_assoc)

-- it comes about by the heading copied to the front, x, and then the frames behind it, y
module _ (d out x y : List ℕ) (e : size_verdict (length d) ≡ Accepted) (room : heading_size + length d ≤ length out) where
  accepted : write_verdict (length d) (length out) ≡ Accepted
  unfolding write_verdict
  accepted = simp (e, le-leb (heading_size + length d) (length out) room)

  pub assembled : x ≡ heading (length d) ++ drop heading_size out → y ≡ d ++ drop (length d) (between heading_size (length x) x) → (Accepted ≡ write_verdict (length d) (length out)) × (put_mid heading_size (length x - heading_size) x y ≡ written d out)
  unfolding written wave_of
  assembled ex ey =
      let front : take heading_size x ≡ heading (length d) = rw ex (take_at (heading (length d)) (drop heading_size out) heading_size (length-heading (length d))) in
      let back : drop heading_size x ≡ drop heading_size out = rw ex (drop_at (heading (length d)) (drop heading_size out) heading_size (length-heading (length d))) in
      let sound : y ≡ d ++ drop (heading_size + length d) out = ey ∙ rw (between_to_end x heading_size (length x) (omega arith), back, drop-drop (length d) heading_size out) in
      let rest : drop (length x - heading_size) (drop heading_size x) ≡ [] = rw (← length-drop heading_size x) (drop-length (drop heading_size x)) in
      (sym accepted, simp (accepted, front, sound, rest, append-nil, append_assoc))
