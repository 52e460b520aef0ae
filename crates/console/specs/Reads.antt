-- A read. Where the bytes that an input has left are known, those that come are the first of them; of an input of the system none are, so it is
-- said that there are bytes of which it holds. Definitions only.
use Rattle.std.specs.Prelude.{◌≡◌, List, ◌++◌, ℕ, ◌+◌, ◌≤◌, length, take, Option, Some, None, Result, Ok, Err}
use Rattle.std.specs.Io.KnownBytes.{Consumes}

-- so many of these stand at their front
abbrev pub IsPrefixLen : {A : Type 0} → ℕ → List A → Type 0
IsPrefixLen n items = (n ≤ length items) × (n ≡ length (take n items))

-- how many bytes came, whether no read failed or one did
abbrev pub count_of : Result ℕ ℕ → ℕ
count_of (Ok count) = count
count_of (Err count) = count

-- how many bytes came; none where the read failed
abbrev pub count_in : Option ℕ → ℕ
count_in (Some more) = more
count_in None = 0

-- a read takes bytes from those that the input has left, so many at most, puts them behind those that are held at the front of the buffer, and leaves
-- those as they are
pub record ReceiveGives (left : Option (List ℕ)) (held most : ℕ) (buffer : List ℕ) (came : Option ℕ) (left' : Option (List ℕ)) (buffer' : List ℕ) : Type 0 where
  pub bytes : List ℕ
  pub front_is : take (held + count_in came) buffer' ≡ take held buffer ++ bytes
  pub count_is : length bytes ≡ count_in came
  pub few : length bytes ≤ most
  pub count_fits : held + count_in came ≤ length buffer'
  pub length_is : length buffer' ≡ length buffer
  pub taken : Consumes left left' bytes
