-- The end of the connection: behind the entry that ends it goes the GOAWAY that is owed, then a close for each open upstream
-- connection, then that for the client.
use Rattle.std.specs.Prelude.{◌≡◌, true, false, List, [], ◌∷◌, ◌++◌, reverse, Option, Some, None}
use Rattle.model.specs.Frames.{Frame, goaway, enhance_your_calm}
use Rattle.model.specs.Setup.{Setup}
use Rattle.model.specs.Tables.{Table}
use Rattle.model.specs.Logs.Act.{Close, CloseClient}
use Rattle.model.specs.Tapes.{Noted, Entry}
use Rattle.model.specs.Tapes.Entry.{Came, Sent, Did}
use Rattle.model.specs.Decoding.{is_read}
use Rattle.model.specs.ErrorClause.{is_fatal}
use Rattle.model.specs.Errors.{Fault}
use Rattle.model.specs.Errors.Fault.{Connection}
use Rattle.theory_errors.specs.Summary.{Summary}
use Rattle.theory_errors.specs.Judging.{is_crowded_in}
use Rattle.theory_errors.specs.Owing.{fault_in, highest_in, opened_after, code_of_goaway_in}
use Rattle.theory_errors.specs.Quiet.{noted_of}
use Rattle.theory_requests.specs.Lines.{Line}
use Rattle.theory_requests.specs.State.Due.{Nothing}
use Rattle.theory_header_tables.specs.Rule as theory_header_tables
use Rattle.theory_header_tables.specs.Verdicts.{verdict_in}
use Rattle.theory.specs.Moves.{Decision, Move, entry_of}
use Rattle.theory.specs.Moves.Decision.{Sends, Acts}
use Rattle.theory.specs.Moves.Move.{Does}
use Rattle.theory.specs.State.{State, tape_of}
use Rattle.theory.specs.Rule.{AllAllowed, RestsBehind, WouldGo}
use Rattle.theory.specs.Steps.{told_by}

-- the GOAWAY to a client that made an error of the connection: its last stream, and the error's code (RFC 9113, section 5.4.1), unless too many
-- octets are untaken
abbrev pub goaway_for : Summary → Entry → Option Fault → List Frame
goaway_for s e (Some (Connection code)) = goaway (highest_in (opened_after s e)) (code_of_goaway_in s code) ∷ []
goaway_for s e found = []

-- the GOAWAY that a decision calls for
abbrev pub goaway_by : State → Decision → List Frame
goaway_by s d = goaway_for (told_by s) (entry_of d) (fault_in (told_by s) (entry_of d))

-- frames of no header block are sent; the newest move stands first
abbrev pub sent_all : Table → List Frame → List Move
sent_all table [] = []
sent_all table (frame ∷ frames) = sent_all table frames ++ Does (Sends (noted_of frame) table) ∷ []

abbrev pub goaway_of : State → Decision → List Move
goaway_of s d = sent_all s.tables.encoding.table (goaway_by s d)

-- each of these connections is closed, in their order
abbrev pub closes_of : List Line → List Move
closes_of [] = []
closes_of (line ∷ lines) = closes_of lines ++ Does (Acts (Close line.k)) ∷ []

-- open connections by rising number; they are kept with the newest first
abbrev pub by_number : State → List Line
by_number s = reverse s.requests.live

-- the moves behind a decision that ends the connection
abbrev pub ending_of : State → Decision → List Move
ending_of s d = Does (Acts CloseClient) ∷ (closes_of (by_number s) ++ goaway_of s d)

-- what they leave on the tape, with the decision's entry: the newest stands first
abbrev pub frames_sent : List Frame → List Entry
frames_sent [] = []
frames_sent (frame ∷ frames) = frames_sent frames ++ Sent (noted_of frame) ∷ []

abbrev pub closed_all : List Line → List Entry
closed_all [] = []
closed_all (line ∷ lines) = closed_all lines ++ Did (Close line.k) ∷ []

abbrev pub ending_on_tape : State → Decision → List Entry
ending_on_tape s d = Did CloseClient ∷ (closed_all (by_number s) ++ (frames_sent (goaway_by s d) ++ entry_of d ∷ []))

-- The decision, and the end behind it, come by the rule; behind them the gateway rests, and this is on the tape.
pub record Ends (setup : Setup) (run : List Move) (s : State) (d : Decision) : Type 0 where
  pub allowed : AllAllowed setup (ending_of s d ++ Does d ∷ run)
  pub rests : RestsBehind setup (ending_of s d ++ Does d ∷ run)
  pub tape : tape_of (ending_of s d ++ Does d ∷ run) ≡ ending_on_tape s d ++ tape_of run

-- A frame of the client is an error of the connection: it has the note of its header block, which was read unless the error is one
-- before that.
pub record IsFatal (s : State) (noted : Noted) (next : Table) : Type 0 where
  pub fatal : is_fatal (fault_in (told_by s) (Came noted)) ≡ true
  pub noted_right : theory_header_tables.IsTaken s.tables noted (verdict_in (told_by s) noted.frame) next
  pub read : is_read noted.note ≡ false → (verdict_in (told_by s) noted.frame).is_error ≡ true

-- The GOAWAY that asks the client to be calm, in place of what would go out.
abbrev pub calming_of : State → Decision
calming_of s = Sends (noted_of (goaway (highest_in (told_by s).opened) enhance_your_calm)) s.tables.encoding.table

-- Too many octets are untaken for a frame beside responses, and one would go; nothing goes to an upstream first, no header block is begun, and none was lost.
pub record IsCrowded (s : State) : Type 0 where
  pub open_yet : s.ledger.book.closed ≡ false
  pub crowded : is_crowded_in (told_by s) ≡ true
  pub none_begun : s.ledger.book.block_out ≡ None
  pub nothing_due : s.requests.due ≡ Nothing
  pub read : s.tables.lost ≡ false
  pub would_go : WouldGo (told_by s) s
