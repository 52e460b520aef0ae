-- Bytes that a read puts behind the held ones.
use mathlib.Core.Path.{◌≡◌, sym, ap, ◌∙◌}
use mathlib.Core.List.{List, [], ◌++◌}
use Prim.Native.Nat.{ℕ, ◌+◌, ◌-◌, ◌≤◌, min}
use native.Mathlib.Omega.{arith}
use lib.ListN.{length, take, drop, length-append, length-drop}
use lib.Seq.{length-take-le, take-append-add, take-append-le}
use Rattle.std.specs.Prelude.{Option, Some, None}
use Rattle.std.specs.Io.KnownBytes.{Keeps, Consumes}
use Rattle.console.specs.Reads.{count_in, ReceiveGives}

-- the part behind the held bytes is replaced, and so many of its bytes came
pub read_behind : (left : Option (List ℕ)) (held most : ℕ) (buffer part rest : List ℕ) (came : Option ℕ) (left' : Option (List ℕ)) → held ≤ length buffer → count_in came ≤ length part → length part ≤ most → length (take held buffer ++ (part ++ rest)) ≡ length buffer → Consumes left left' (take (count_in came) part) → ReceiveGives left held most buffer came left' (take held buffer ++ (part ++ rest))
read_behind left held most buffer part rest came left' h k few same taken =
    record {
      bytes = take (count_in came) part;
      front_is =
          ap (λ (n : ℕ). take (n + count_in came) (take held buffer ++ (part ++ rest))) (sym (length-take-le held buffer h))
          ∙ take-append-add (take held buffer) (part ++ rest) (count_in came)
          ∙ ap (λ (l : List ℕ). take held buffer ++ l) (take-append-le (count_in came) part rest k);
      count_is = length-take-le (count_in came) part k;
      few = omega (arith, few, k, length-take-le (count_in came) part k);
      count_fits =
          omega (arith, length-append (take held buffer) (part ++ rest), length-append part rest, length-take-le held buffer h);
      length_is = same;
      taken = taken;
    }

-- the same, where the part begins behind the held bytes and has as many bytes as are asked for, or all that there are
pub read_into : (left : Option (List ℕ)) (held most size : ℕ) (buffer part : List ℕ) (came : Option ℕ) (left' : Option (List ℕ)) → held ≤ length buffer → size ≡ min most (length buffer - held) → length part ≡ length (take (held + size - held) (drop held buffer)) → count_in came ≤ length part → Consumes left left' (take (count_in came) part) → ReceiveGives left held most buffer came left' (take held buffer ++ (part ++ drop (held + size - held) (drop held buffer)))
read_into left held most size buffer part came left' h asked same few taken =
    let room : length (drop held buffer) ≡ length buffer - held = length-drop held buffer in
    let length_is : length part ≡ size = same ∙ length-take-le (held + size - held) (drop held buffer) (omega arith) ∙ omega arith in
    read_behind left held most buffer part (drop (held + size - held) (drop held buffer)) came left' h few (omega arith)
    (omega (
      arith,
      length-append (take held buffer) (part ++ drop (held + size - held) (drop held buffer)),
      length-append part (drop (held + size - held) (drop held buffer)),
      length-take-le held buffer h,
      length-drop (held + size - held) (drop held buffer),
    ))
    taken

-- what loses no byte has lost the first none
pub none_taken : (left left' : Option (List ℕ)) → Keeps left left' → Consumes left left' []
none_taken None left' kept = tt
none_taken (Some bytes) None kept = kept
none_taken (Some bytes) (Some bytes') kept = sym kept
