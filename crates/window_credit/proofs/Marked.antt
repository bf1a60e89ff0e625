-- The marks of a queue with one more.
use Rattle.std.proofs.Common.{◌≡◌, ◌+◌, List, [], ◌∷◌, ◌++◌, refl, ap, ◌∙◌}
use Rattle.theory_receive_windows.specs.Marks.{total}
use Rattle.theory_receive_windows.proofs.Queues.{pushed_total}
use Rattle.window_credit.specs.declared.queue.Mark.{Mark as Kept}
use Rattle.window_credit.specs.Queued.{marks_of}

pub marks_behind : (kept : List Kept) (last : Kept) → marks_of (kept ++ last ∷ []) ≡ marks_of kept ++ record { mark = last.mark; count = last.count } ∷ []
marks_behind [] last = refl
marks_behind (first ∷ kept) last = ap (λ ms. record { mark = first.mark; count = first.count } ∷ ms) (marks_behind kept last)

pub total_behind : (kept : List Kept) (last : Kept) → total (marks_of (kept ++ last ∷ [])) ≡ total (marks_of kept) + last.count
total_behind kept last = ap total (marks_behind kept last) ∙ pushed_total last.mark last.count (marks_of kept)
