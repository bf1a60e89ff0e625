-- The verdict by the summary is that of the error table, and so is the verdict by the book.
use Rattle.std.proofs.Common.{◌&&◌, List, Option, refl, ◌∙◌, ap}
use Rattle.std.specs.Prelude.{is_some, is_none}
use Rattle.model.specs.Tapes.{Noted, Entry}
use Rattle.model.specs.Tapes.Entry.{Came}
use Rattle.model.specs.Known.{Known}
use Rattle.model.specs.Errors.{Fault, first_of}
use Rattle.model.specs.FrameErrors.{frame_fault}
use Rattle.theory_errors.specs.Summary.{Summary, summary_of}
use Rattle.theory_errors.specs.Judging.{completed_in}
use Rattle.theory_errors.specs.After.{is_sound, are_taken_in}
use Rattle.theory_errors.specs.Book.{Book, summary_in}
use Rattle.theory_errors.specs.Told.{IsTold}
use Rattle.theory_errors.proofs.Telling.{before_told, taken_told}
use Rattle.theory_errors.proofs.Kept.{taken_same}
use Rattle.theory_header_tables.specs.Kept.{IsJudged}
use Rattle.theory_header_tables.specs.Verdicts.{verdict_in}

pub verdict_right : (known : Known) (t : List Entry) (noted : Noted) → IsJudged t noted (verdict_in (summary_of known t) noted.frame)
verdict_right known t noted = record {
  error = refl;
  taken = ap (λ b. is_none (frame_fault t (Came noted)) && b) (taken_same known t noted.frame);
  block = refl;
}

-- The verdict by a book that tells what the tape leaves.
pub verdict_by_book : (known : Known) (t : List Entry) (book : Book) → IsTold book (summary_of known t) → (noted : Noted) → IsJudged t noted (verdict_in (summary_in book) noted.frame)
verdict_by_book known t book told noted = record {
  error = ap (λ (rows : List (Option Fault)). is_some (first_of rows)) (before_told known t book told noted.frame);
  taken =
      ap (λ (s : Summary). is_sound s noted.frame && are_taken_in (summary_in book) noted.frame) told.same
      ∙ ap (λ b. is_none (frame_fault t (Came noted)) && b) (taken_told known t book told noted.frame ∙ taken_same known t noted.frame);
  block = ap (λ (s : Summary). completed_in s.block noted.frame) told.same;
}
