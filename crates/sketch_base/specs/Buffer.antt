-- A buffer that is written at its end.
use Rattle.std.specs.Prelude.{ℕ, List}

-- the bytes written, and the number of bytes that fit without a new allocation
pub record Buffer : Type 0 where
  pub bytes : List ℕ
  pub capacity : ℕ
