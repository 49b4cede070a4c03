-- What contracts see of an adapter: the reader or writer in it, and how many of its calls failed.
use Rattle.std.specs.Prelude.{ℕ}

pub record Adapted (R : Type 0) : Type 0 where
  pub inner : R
  pub faults : ℕ
