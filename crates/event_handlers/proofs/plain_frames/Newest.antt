-- Where octets of DATA wait for the side of a connection, that was given to their stream last: DATA behind the end of a stream is an error of it.
use Rattle.std.proofs.Common.{◌≡◌, ℕ, ◌<◌, Bool, true, false, ◌&&◌, ◌==◌, if◌then◌else◌, List, length, Option, Some, None, refl, ◌∙◌, ap, arith}
use Rattle.model.specs.Frames.{Frame, data_kind}
use Rattle.model.specs.Setup.{Setup}
use Rattle.model.specs.WindowsOnTape.{is_any, data_length}
use Rattle.streams.specs.Asked.{is_active}
use Rattle.window_credit.specs.Sides.{Side, find, without, is_past, is_past_if}
use Rattle.window_credit.proofs.Looking.{gone_own}
use Rattle.theory.specs.Moves.{Move}
use Rattle.theory.specs.State.{State}
use Rattle.refinement.specs.View.{View, Pending, GoBack, Leads}
use Rattle.refinement.proofs.Marked.{none_marked}
use Rattle.refinement.proofs.Older.{none_back}

-- of a stream that is over nothing waits
pub gone_newest : (id : ℕ) (sides : List Side) → is_past id (without id sides) ≡ false
gone_newest id sides = ap is_past_if (gone_own id sides)

-- a frame without octets of DATA
pub no_octets : (frame : Frame) (sides : List Side) → (frame.kind == data_kind) ≡ false → 0 < data_length is_any frame → is_past frame.id sides ≡ false
no_octets frame sides no_data some =
    absurd (let zero : data_length is_any frame ≡ 0 = ap (λ x. if x && is_any frame.id then length frame.payload else 0) no_data in omega (arith, some, zero))

module _ (setup : Setup) (run : List Move) (kept : View) (pending : Pending) (s : State) (leads : Leads setup run kept pending s) (id : ℕ) where
  -- of a stream that isn't active nothing does
  pub idle_newest : is_active kept.inbound.rows id ≡ false → is_past id kept.marks ≡ false
  idle_newest idle = ap is_past_if (none_marked setup run kept pending s leads id idle)

  -- A stream that the client hasn't ended was given its connection last.
  pub open_newest : GoBack kept.inbound id → is_past id kept.marks ≡ false
  open_newest back = by (find id kept.marks) refl
    where
      on : (side : Side) → find id kept.marks ≡ Some side → (b : Bool) → side.past ≡ b → side.past ≡ false
      on side found false is = is
      on side found true is = absurd (none_back setup run kept pending s leads id side found is back)

      by : (o : Option Side) → find id kept.marks ≡ o → is_past id kept.marks ≡ false
      by None found = ap is_past_if found
      by (Some side) found = ap is_past_if found ∙ on side found side.past refl
