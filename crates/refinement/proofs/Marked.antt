-- What is kept of DATA that waits is of active streams.
use Rattle.std.proofs.Common.{◌≡◌, ℕ, true, false, List, Option, Some, None, refl, sym, ◌∙◌, ap}
use Rattle.model.specs.Setup.{Setup}
use Rattle.theory_errors.specs.Book.{Book}
use Rattle.theory_receive_windows.specs.Marks.{total}
use Rattle.streams.specs.Asked.{is_active}
use Rattle.window_credit.specs.Sides.{Side, find, queue_if}
use Rattle.theory.specs.Moves.{Move}
use Rattle.theory.specs.State.{State}
use Rattle.refinement.specs.View.{View, Pending, waiting_for, Leads}
use Rattle.refinement.proofs.Where.{live_here}

-- of one that isn't active nothing is
pub none_marked : (setup : Setup) (run : List Move) (kept : View) (pending : Pending) (s : State) → Leads setup run kept pending s → (id : ℕ) → is_active kept.inbound.rows id ≡ false → find id kept.marks ≡ None
none_marked setup run kept pending s leads id idle = by (find id kept.marks) refl
  where
    by : (o : Option Side) → find id kept.marks ≡ o → o ≡ None
    by None found = refl
    by (Some side) found =
        let no : true ≡ false =
        sym (leads.marked.stand.live id side found)
        ∙ live_here setup run s leads.stands leads.so id
        ∙ ap (λ (b : Book). is_active b.rows id) leads.keeps.book
        ∙ idle in cc

pub none_waits : (setup : Setup) (run : List Move) (kept : View) (pending : Pending) (s : State) → Leads setup run kept pending s → (id : ℕ) → is_active kept.inbound.rows id ≡ false → waiting_for id kept ≡ 0
none_waits setup run kept pending s leads id idle = ap (λ (o : Option Side). total (queue_if o)) (none_marked setup run kept pending s leads id idle)
