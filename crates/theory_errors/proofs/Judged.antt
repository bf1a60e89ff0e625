-- The error table over the summary of a tape is the model's error table over the tape.
use Rattle.std.proofs.Common.{◌≡◌, List, refl}
use Rattle.model.specs.Tapes.{Entry}
use Rattle.model.specs.Tapes.Breach.{WrongPreface, TooLong}
use Rattle.model.specs.Tapes.Entry.{Came, Breached, Happened, Sent, Did}
use Rattle.model.specs.ErrorTable.{fault_with}
use Rattle.model.specs.Known.{Known}
use Rattle.model.specs.Setup.{own_window}
use Rattle.model.specs.Courses.{Course, carried}
use Rattle.theory_errors.specs.Summary.{outline_of, summary_of}
use Rattle.theory_errors.specs.Judging.{fault_for}

-- The fault of an entry, where its stream has this course.
pub fault_for_same : (known : Known) (t : List Entry) (c : Course) (e : Entry) → fault_for (outline_of c) (summary_of known t) e ≡ fault_with (own_window known.setup) (carried c) t e
fault_for_same known t c (Came noted) = refl
fault_for_same known t c (Breached WrongPreface) = refl
fault_for_same known t c (Breached TooLong) = refl
fault_for_same known t c (Happened event) = refl
fault_for_same known t c (Sent noted) = refl
fault_for_same known t c (Did act) = refl
