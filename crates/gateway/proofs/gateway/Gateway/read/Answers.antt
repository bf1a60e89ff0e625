use Rattle.std.proofs.Common.{◌≡◌, true, false, sym, ◌∙◌, refl, inl, inr}
use Rattle.gateway.proofs.Pieces.{not_begun}
use Rattle.gateway.proofs.gateway.Gateway.read.Goals as goal
use Rattle.gateway.proofs.gateway.Gateway.read.Goals.{in-Frames, in_default}

pub returns-in_ok-leave_at-in-Wrong-clause-receives : goal.returns-in_ok-leave_at-in-Wrong-clause-receives
returns-in_ok-leave_at-in-Wrong-clause-receives c =
    rw (← c.self.view_is) (inr (inl (record {
      unbegun = not_begun c.self.inside.phase (elim c.match-matches.branch [
        | in-Frames w ↦ absurd (let both : true ≡ false = sym w.matches-is ∙ c.if-matches.false in cc)
        | in_default w ↦ w.in_default.not-Frames
      ]);
      no_preface = c.in-Wrong.ensures;
      is_over = refl;
      comes = c.in_ok-leave_at-in-Wrong.ensures;
    })))
