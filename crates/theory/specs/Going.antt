-- What is left to show of a move that puts something out.
use Rattle.std.specs.Prelude.{◌≡◌, ℕ, true, false, not, ◌&&◌, ◌⊎◌, List, [], ◌∷◌, None}
use Rattle.model.specs.Frames.{window_update_kind}
use Rattle.model.specs.Logs.{Act}
use Rattle.model.specs.Logs.Act.{Open, ToUp, Close, CloseClient}
use Rattle.model.specs.Setup.{Setup}
use Rattle.model.specs.Tapes.{Noted}
use Rattle.model.specs.Tapes.Note.{NoBlock}
use Rattle.model.specs.Lifetimes.{may_open}
use Rattle.model.specs.ErrorClause.{is_passing, is_calming}
use Rattle.theory_errors.specs.Judging.{is_crowded_in}
use Rattle.theory_errors.specs.Owing.{is_rightly_sent_in, must_end_in}
use Rattle.theory_errors.specs.Turn.{rest_of}
use Rattle.theory_responses.specs.Rule.{BeginsNext}
use Rattle.theory_responses.specs.Sight.{sight_in}
use Rattle.theory_receive_windows.specs.Policy as windows
use Rattle.theory_receive_windows.specs.Rule.{GivesAll}
use Rattle.theory_requests.specs.Rule as requests
use Rattle.theory_requests.specs.State.Due.{ToSend}
use Rattle.theory.specs.Moves.{told_in}
use Rattle.theory.specs.State.{State, gates_in}
use Rattle.theory.specs.Rule.{rooms_in}
use Rattle.theory.specs.Steps.{told_by}

-- A frame may go between header blocks, where nothing goes to an upstream before it, unless it is a GOAWAY; it has no block, and is on no
-- stream that may be opened yet.
pub record GoesBetween (s : State) (noted : Noted) : Type 0 where
  pub open_yet : s.ledger.book.closed ≡ false
  pub none_begun : s.ledger.book.block_out ≡ None
  pub before_due : requests.MaySend s.requests noted
  pub no_note : noted.note ≡ NoBlock
  pub not_to_open : may_open (told_by s).drained (told_by s).opened noted.frame.id ≡ false

-- The frame is what is owed next: an acknowledgement, an answer to a PING, a reset, a GOAWAY.
pub record IsOwedNext (s : State) (noted : Noted) : Type 0 where
  pub between : GoesBetween s noted
  pub front : s.ledger.queue ≡ noted.frame ∷ rest_of s.ledger.queue
  pub control : is_passing noted ≡ false
  pub owing : (is_calming noted.frame && not s.ledger.book.ends) ≡ false
  pub calm : (is_crowded_in (told_by s) && not (is_calming noted.frame)) ≡ false

-- The frame gives back all that is owed on its id.
pub record GivesBack (s : State) (noted : Noted) : Type 0 where
  pub between : GoesBetween s noted
  pub kind : noted.frame.kind ≡ window_update_kind
  pub nothing : s.ledger.queue ≡ []
  pub goes_on : must_end_in (told_by s) ≡ false
  pub rightly : is_rightly_sent_in (told_by s) noted.frame ≡ true
  pub all : GivesAll (sight_in (told_by s)) (rooms_in (told_by s) s) noted.frame

-- A connection may be opened, and given to the stream of the last frame: nothing is owed, and it is due.
pub record Opens (s : State) (k route : ℕ) : Type 0 where
  pub nothing : s.ledger.queue ≡ []
  pub begins : BeginsNext (sight_in (told_by s)) k
  pub due : requests.MayOpen s.requests k route
  pub window : windows.MayOpen (rooms_in (told_by s) s) k

-- Octets go to an upstream: nothing is owed, and they are all that is due to it, before the effect of what came is over.
pub record Puts (setup : Setup) (s : State) (k : ℕ) (octets : List ℕ) : Type 0 where
  pub nothing : s.ledger.queue ≡ []
  pub due : s.requests.due ≡ ToSend k octets
  pub window : windows.MayPut setup.passing (gates_in (told_by s) s.requests) (rooms_in (told_by s) s) k

-- Octets go to an idle one that is used again, and given to the stream of the last frame: nothing is owed, and they are due to it.
pub record Uses (setup : Setup) (s : State) (k : ℕ) (octets : List ℕ) : Type 0 where
  pub nothing : s.ledger.queue ≡ []
  pub begins : BeginsNext (sight_in (told_by s)) k
  pub due : requests.MayUse s.requests k octets
  pub window : windows.MayUse setup.passing (gates_in (told_by s) s.requests) (rooms_in (told_by s) s) k octets

-- An upstream connection may be closed: nothing is owed, and it is done with.
pub record Closes (s : State) (k : ℕ) : Type 0 where
  pub nothing : s.ledger.queue ≡ []
  pub may : requests.MayClose (told_in (told_by s)) s.requests k

-- The client may be closed: nothing is owed, the connection is to end, and no connection is open.
pub record Shuts (s : State) : Type 0 where
  pub nothing : s.ledger.queue ≡ []
  pub to_end : must_end_in (told_by s) ≡ true
  pub none_open : requests.MayShut s.requests

-- The act may be done.
abbrev pub Acts : Setup → State → Act → Type 0
Acts setup s (Open k route) = Opens s k route
Acts setup s (ToUp k octets) = Puts setup s k octets ⊎ Uses setup s k octets
Acts setup s (Close k) = Closes s k
Acts setup s CloseClient = Shuts s
