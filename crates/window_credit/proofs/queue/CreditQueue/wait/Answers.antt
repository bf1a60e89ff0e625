use Rattle.std.proofs.Common.{◌≡◌, ◌+◌, ◌<◌, ◌^◌, [], ◌∷◌, ◌++◌, sym, ap, ◌∙◌, subst, arith}
use Rattle.theory_receive_windows.specs.Marks.{total}
use Rattle.window_credit.specs.declared.queue.Mark.{Mark as Kept}
use Rattle.window_credit.specs.Queued.{marks_of}
use Rattle.window_credit.specs.Counts.{AreSome}
use Rattle.window_credit.proofs.Marked.{marks_behind, total_behind}
use Rattle.window_credit.proofs.CountedInQueue.{pushed_some}
use Rattle.window_credit.proofs.queue.CreditQueue.wait.Goals as goal

pub invariant_of-self-2 : goal.invariant_of-self-2
invariant_of-self-2 c =
    let kept = c.self.inside.marks.items in
    let last : Kept = record { mark = c.args.mark; count = c.args.count } in
    let pushed : c.push_back.new.self.items ≡ kept ++ last ∷ [] = c.in_ok-push_back.ensures.items in
    let before : total (marks_of kept) ≡ c.self.inside.octets = c.self.invariant.0 in
    let behind : total (marks_of (kept ++ last ∷ [])) ≡ total (marks_of kept) + c.args.count = total_behind kept last in
    let fits : total (marks_of kept) + c.args.count < 2 ^ 64 = subst (λ ms. total ms + c.args.count < 2 ^ 64) (sym c.self.view_is) c.requires.fits in (
      ap (λ ks. total (marks_of ks)) pushed ∙ behind ∙ ap (λ n. n + c.args.count) before,
      omega (arith, fits, before),
      subst AreSome (sym (ap marks_of pushed ∙ marks_behind kept last)) (pushed_some c.args.mark c.args.count (marks_of kept) c.self.invariant.2 c.requires.some),
    )
