-- What is told of one stream, by two books.
use Rattle.std.specs.Prelude.{◌≡◌, ℕ, ◌==◌}
use Rattle.std.specs.List.{list_any}
use Rattle.theory_errors.specs.Rows.{ids_of, find}
use Rattle.theory_errors.specs.Book.{Book}

-- Both tell the same of a stream: whether it was opened, and what is kept of it.
pub record SameOf (before behind : Book) (other : ℕ) : Type 0 where
  pub opened : list_any (λ id. id == other) (ids_of behind.rows) ≡ list_any (λ id. id == other) (ids_of before.rows)
  pub kept : find behind.rows other ≡ find before.rows other
