-- What comes of a frame of the client with a fragment of a header block.
use Rattle.std.specs.Prelude.{◌≡◌, ◌⊎◌, ℕ, true, nat_lt, List, Option, Some, is_some}
use Rattle.model.specs.Limits.{most_untaken}
use Rattle.theory_requests.specs.State.{is_streaming}
use Rattle.theory_requests.specs.State.Due.{Nothing}
use Rattle.model.specs.Frames.{Frame}
use Rattle.model.specs.Logs.{Output}
use Rattle.model.specs.Setup.{Setup}
use Rattle.model.specs.Tables.{Table}
use Rattle.model.specs.Tapes.{Note}
use Rattle.model.specs.Tapes.Entry.{Came}
use Rattle.model.specs.Errors.Fault.{Connection}
use Rattle.theory_errors.specs.Owing.{fault_in}
use Rattle.streams.specs.Asked.{has}
use Rattle.upstream_connections.specs.Requests.{due_by}
use Rattle.upstream_connections.specs.declared.held.Due.{Due}
use Rattle.theory.specs.Moves.{Move}
use Rattle.theory.specs.State.{State}
use Rattle.theory.specs.Steps.{told_by}
use Rattle.theory.specs.Ending.{IsFatal}
use Rattle.refinement.specs.View.{View, balanced, Leads}
use Rattle.refinement.specs.Rest.{NoneCut}
use Rattle.refinement.specs.Bringing.{Brings}
use Rattle.event_handlers.specs.Closings.{IsAbout}
use Rattle.event_handlers.specs.block_frames.Following.{goaway_frames}
use Rattle.event_handlers.specs.declared.block_frames.outlet.Outlet.{Outlet}
use Rattle.event_handlers.specs.declared.block_frames.taking.BlockTaken.{BlockTaken}
use Rattle.event_handlers.specs.declared.block_frames.taking.BlockTaken.TheVariants as taken

-- The connection goes on: the frame came, with what is noted of its block, and what it calls for was sent; a request or a text may be due, the
-- GOAWAY of the last stream may be owed yet, and octets that waited of a stream that is over go back. It was about its stream alone, and no other is opened.
-- Where too many octets are untaken for the GOAWAY, nothing is due beside it.
pub record IsPassed (setup : Setup) (old : View) (outputs : List Output) (frame : Frame) (due : Due) (goaway : Option ℕ) (dropped : ℕ) (new : View)
    (put_out : List Output) : Type 0 where
  pub note : Note
  pub brings : Brings setup old balanced outputs (Came (record { frame = frame; note = note })) new (record balanced {
    owed = goaway_frames goaway;
    due = due_by due;
    shared = dropped;
  }) put_out
  pub none_cut : NoneCut new.offers
  pub about : IsAbout frame.id old new
  pub ids : (id : ℕ) → has new.inbound.rows id ≡ true → (has old.inbound.rows id ≡ true) ⊎ (frame.id ≡ id)
  pub alone : is_some goaway ≡ true → nat_lt most_untaken new.untaken ≡ true → due_by due ≡ Nothing

-- The frame is an error of the connection with this code. Nothing is put out yet, and all that the end needs is as it was.
pub record IsFatalFrame (setup : Setup) (old : View) (outputs : List Output) (frame : Frame) (code : ℕ) (new : View) (put_out : List Output) : Type 0 where
  pub nothing_put : put_out ≡ outputs
  pub upstreams : new.upstreams ≡ old.upstreams
  pub encoding : new.encoding ≡ old.encoding
  pub untaken : new.untaken ≡ old.untaken
  pub rows : new.inbound.rows ≡ old.inbound.rows
  pub note : Note
  pub next : Table
  pub fault : (run : List Move) (s : State) → Leads setup run old balanced s
      → fault_in (told_by s) (Came (record { frame = frame; note = note })) ≡ Some (Connection code)
  pub fatal : (run : List Move) (s : State) → Leads setup run old balanced s → IsFatal s (record { frame = frame; note = note }) next

-- Requests go out as the setup says.
pub record IsOutlet (setup : Setup) (outlet : Outlet) : Type 0 where
  pub at_once : outlet.at_once ≡ is_streaming setup.passing
  pub keep : outlet.keep ≡ setup.keep

-- What was answered is so.
abbrev pub IsBlockTaken : Setup → View → List Output → Frame → BlockTaken → View → List Output → Type 0
IsBlockTaken setup old outputs frame (taken.Fatal code) new put_out = IsFatalFrame setup old outputs frame code new put_out
IsBlockTaken setup old outputs frame (taken.Goes due goaway dropped) new put_out = IsPassed setup old outputs frame due goaway dropped new put_out
