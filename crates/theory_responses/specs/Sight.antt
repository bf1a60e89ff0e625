-- What this concern and the ones above it read of the others' states: which streams are active, why the gateway answers one
-- itself, the sending windows, the upstream connections, and the header block that goes out.
use Rattle.std.specs.List.{list_any}
use Rattle.std.specs.Prelude.{◌≡◌, ℕ, Bool, true, false, ◌==◌, List, [], Option, None, ℤ, pos}
use Rattle.model.specs.Tapes.{Entry, sent}
use Rattle.model.specs.Decoding.{Partial, begun}
use Rattle.model.specs.Admission.{untaken}
use Rattle.model.specs.Openings.{Opened, exchanges, last_stream}
use Rattle.model.specs.Known.{Known}
use Rattle.model.specs.Causes.{Cause}
use Rattle.model.specs.Lifetimes as lives
use Rattle.model.specs.Lifetimes.{may_open, is_opened, is_active, is_ended_by_client}
use Rattle.model.specs.Limits.{first_window}
use Rattle.model.specs.WindowsOnTape.{stream_window, connection_window, back_on}
use Rattle.model.specs.Courses.{course, items}
use Rattle.model.specs.ErrorClause.{calls_for_end}
use Rattle.theory_errors.specs.Summary.{Summary}
use Rattle.theory_errors.specs.Judging.{is_active_in, window_in}
use Rattle.theory_responses.specs.State.{Windows}

-- What is read.
pub record Sight : Type 0 where
  -- whether a stream was opened, is active, and was ended by the client
  pub opened : ℕ → Bool
  pub active : ℕ → Bool
  pub ended : ℕ → Bool
  -- why the gateway answers it itself, whether an item came on it, and its sending window
  pub cause : ℕ → Option Cause
  pub has_items : ℕ → Bool
  pub own : ℕ → ℤ
  -- the connection's sending window, and how many octets for the client aren't taken
  pub shared : ℤ
  pub untaken : ℕ
  -- the upstream connections, the newest first, and the stream of the client's last frame, to which the next is given
  pub given : List Opened
  pub last : ℕ
  -- the header block to the client that isn't complete
  pub block : Option Partial
  -- the last that came in calls for the end of the connection
  pub ends : Bool

-- nothing came yet
abbrev pub first_sight : Sight
first_sight = record {
  opened = λ id. false;
  active = λ id. false;
  ended = λ id. false;
  cause = λ id. None;
  has_items = λ id. false;
  own = λ id. pos first_window;
  shared = pos first_window;
  untaken = 0;
  given = [];
  last = 0;
  block = None;
  ends = false;
}

-- It is right of a tape. Of streams that are over nothing is asked but that they are.
pub record IsRightOf (known : Known) (t : List Entry) (sight : Sight) : Type 0 where
  pub opened : (id : ℕ) → sight.opened id ≡ is_opened id t
  pub active : (id : ℕ) → sight.active id ≡ is_active id t
  pub ended : (id : ℕ) → is_active id t ≡ true → sight.ended id ≡ is_ended_by_client id t
  pub cause : (id : ℕ) → is_active id t ≡ true → sight.cause id ≡ (course known id t).cause
  -- nothing was said of a stream that may be opened yet, as long as the connection goes on
  pub new : sight.ends ≡ false → (id : ℕ) → may_open (lives.is_drained t) (lives.opened t) id ≡ true → (sight.cause id ≡ None) × ((course known id t).cause ≡ None)
  -- and nothing came on it, nor was given back: its receiving window is as at first
  pub room : sight.ends ≡ false → (id : ℕ) → may_open (lives.is_drained t) (lives.opened t) id ≡ true → back_on id t ≡ pos 0
  pub has_items : (id : ℕ) → is_active id t ≡ true → sight.has_items id ≡ true → items known id t ≡ [] → ⊥
  pub own : (id : ℕ) → is_active id t ≡ true → sight.own id ≡ stream_window id t
  pub shared : sight.shared ≡ connection_window t
  pub untaken : sight.untaken ≡ untaken t
  pub given : sight.given ≡ exchanges t
  pub last : sight.last ≡ last_stream t
  pub block : sight.block ≡ begun (sent t)
  pub ends : sight.ends ≡ calls_for_end known t

-- the windows that are read
abbrev pub windows_in : Sight → Windows
windows_in sight = record { own = sight.own; shared = sight.shared; untaken = sight.untaken }

-- ---- what the summary of a tape tells

-- what is read of it
abbrev pub sight_in : Summary → Sight
sight_in s = record {
  opened = λ id. list_any (λ other. other == id) s.opened;
  active = λ id. is_active_in id s;
  ended = λ id. (s.stream id).ended_by_client;
  cause = λ id. (s.stream id).outline.cause;
  has_items = λ id. (s.stream id).outline.begun;
  own = λ id. window_in s.first_size (s.stream id);
  shared = s.window;
  untaken = s.untaken;
  given = s.given;
  last = s.last;
  block = s.block_out;
  ends = s.ends;
}
