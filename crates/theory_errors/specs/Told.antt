-- What a book tells of the tape that it is kept along.
use Rattle.std.specs.Prelude.{◌≡◌}
use Rattle.theory_errors.specs.Summary.{Summary}
use Rattle.theory_errors.specs.Rows.{find, with_streams, StandFor}
use Rattle.theory_errors.specs.Book.{Book, summary_in}

-- A book tells a summary, in all but the streams of which nothing has to be kept.
pub record IsTold (book : Book) (s : Summary) : Type 0 where
  pub same : summary_in book ≡ with_streams (find book.rows) s
  pub stand : StandFor book.rows s
