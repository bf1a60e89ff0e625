-- What comes of a frame of the client without a fragment of a header block.
use Rattle.std.specs.Prelude.{◌≡◌, ◌<◌, ℕ, true, false, List, [], ◌∷◌, Some, None, is_some}
use Rattle.model.specs.Frames.{Frame}
use Rattle.model.specs.Logs.{Output}
use Rattle.model.specs.Setup.{Setup}
use Rattle.model.specs.Tapes.Entry.{Came}
use Rattle.model.specs.Errors.Fault.{Connection}
use Rattle.model.specs.WindowsOnTape.{is_any, data_length}
use Rattle.theory_errors.specs.Owing.{fault_in}
use Rattle.theory_errors.specs.Quiet.{noted_of}
use Rattle.theory_errors.specs.Rows.{ids_of}
use Rattle.upstream_connections.specs.Requests.{due_by}
use Rattle.upstream_connections.specs.declared.held.Due.{Due}
use Rattle.window_credit.specs.Sides.{is_past}
use Rattle.theory.specs.Moves.{Move}
use Rattle.theory.specs.State.{State}
use Rattle.theory.specs.Steps.{told_by}
use Rattle.theory.specs.Ending.{IsFatal}
use Rattle.refinement.specs.View.{View, balanced, Leads}
use Rattle.refinement.specs.Rest.{NoneCut}
use Rattle.refinement.specs.Bringing.{Brings}
use Rattle.event_handlers.specs.Closings.{IsAbout}
use Rattle.event_handlers.specs.Comings.{ComesFrom}
use Rattle.event_handlers.specs.Inputs.Input.{OfFrame}
use Rattle.event_handlers.specs.Stopping.{IsCalmed}
use Rattle.event_handlers.specs.plain_frames.Owed.{owed_frame, with_sent, put_sent, WasFree}
use Rattle.event_handlers.specs.declared.plain_frames.taking.Owed.{Owed}
use Rattle.event_handlers.specs.declared.plain_frames.taking.TakenFrame.{TakenFrame}
use Rattle.event_handlers.specs.declared.plain_frames.taking.TakenFrame.TheVariants as taken

-- The connection goes on: the frame came, this is owed for it, and a request or a text may be due; its octets of DATA go back once its effect is over,
-- and so do these that waited of a stream that is over. Once what is owed was sent, moves led there; and where it can't be, the connection ends by the
-- rule. It was about its stream alone; no stream is opened, and it was the last frame's stream. If it has such octets, its stream's connection wasn't
-- given to another since.
pub record IsPassed (setup : Setup) (old : View) (frame : Frame) (due : Due) (owed : Owed) (dropped : ℕ) (new : View) : Type 0 where
  pub brings : (outputs : List Output) → WasFree (owed_frame owed frame) new
      → Brings setup old balanced outputs (Came (noted_of frame)) (with_sent (owed_frame owed frame) new) (record balanced {
        due = due_by due;
        fresh = data_length is_any frame;
        shared = dropped;
      }) (put_sent (owed_frame owed frame) outputs)
  pub over : (outputs put_out : List Output) → is_some (owed_frame owed frame) ≡ true → IsCalmed new outputs put_out
      → ComesFrom setup old balanced outputs (OfFrame frame ∷ []) balanced None put_out
  pub none_cut : NoneCut new.offers
  pub about : IsAbout frame.id old new
  pub ids : ids_of new.inbound.rows ≡ ids_of old.inbound.rows
  pub last : new.inbound.last ≡ frame.id
  pub newest : 0 < data_length is_any frame → is_past frame.id new.marks ≡ false

-- The frame is an error of the connection with this code; all that the end needs is as it was.
pub record IsFatalFrame (setup : Setup) (old : View) (frame : Frame) (code : ℕ) (new : View) : Type 0 where
  pub upstreams : new.upstreams ≡ old.upstreams
  pub encoding : new.encoding ≡ old.encoding
  pub untaken : new.untaken ≡ old.untaken
  pub rows : new.inbound.rows ≡ old.inbound.rows
  pub fault : (run : List Move) (s : State) → Leads setup run old balanced s → fault_in (told_by s) (Came (noted_of frame)) ≡ Some (Connection code)
  pub fatal : (run : List Move) (s : State) → Leads setup run old balanced s → IsFatal s (noted_of frame) s.tables.decoding

-- What was answered is so.
abbrev pub IsPlainTaken : Setup → View → Frame → TakenFrame → View → Type 0
IsPlainTaken setup old frame (taken.Fatal code) new = IsFatalFrame setup old frame code new
IsPlainTaken setup old frame (taken.Goes due owed dropped) new = IsPassed setup old frame due owed dropped new
