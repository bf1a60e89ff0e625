-- The octets that wait on a tape are those behind marks that aren't reached.
use Rattle.std.proofs.Common.{◌≡◌, ℕ, ◌+◌, List, [], ◌∷◌, refl, ap, if◌then◌else◌}
use Rattle.std.specs.Prelude.{nat_lt}
use Rattle.model.specs.Tapes.{Entry}
use Rattle.model.specs.Tapes.Entry.{Came, Breached, Happened, Sent, Did}
use Rattle.model.specs.Openings.{Opened}
use Rattle.model.specs.WindowsOnTape.{is_on, data_length}
use Rattle.model.specs.WindowClause.{waiting, put_out_on}
use Rattle.theory_receive_windows.specs.Marks.{waiting_of}
use Rattle.theory_receive_windows.specs.Marking.{marks_on}

-- the search is the sum over the marks
pub by_marks : (o : Opened) (taken : ℕ) (t : List Entry) (put_out : ℕ) → waiting o taken t put_out ≡ waiting_of taken (marks_on o t put_out)
by_marks o taken [] put_out = refl
by_marks o taken (Came noted ∷ t) put_out = ap (λ n. (if nat_lt taken put_out then data_length (is_on o.stream) noted.frame else 0) + n) (by_marks o taken t (put_out_on o t))
by_marks o taken (Breached breach ∷ t) put_out = by_marks o taken t (put_out_on o t)
by_marks o taken (Happened event ∷ t) put_out = by_marks o taken t (put_out_on o t)
by_marks o taken (Sent noted ∷ t) put_out = by_marks o taken t put_out
by_marks o taken (Did act ∷ t) put_out = by_marks o taken t put_out
