-- What is left to show where a frame of a response goes out.
use Rattle.std.specs.Prelude.{◌≡◌, ◌==◌, true, false, [], ◌∷◌, None}
use Rattle.model.specs.Messages.{Item}
use Rattle.model.specs.Frames.{data_kind, window_update_kind}
use Rattle.model.specs.Streams.{frame_items}
use Rattle.model.specs.Tables.{Table}
use Rattle.model.specs.Tapes.{Noted}
use Rattle.model.specs.Tapes.Entry.{Sent}
use Rattle.model.specs.Lifetimes.{may_open}
use Rattle.model.specs.ErrorClause.{is_passing}
use Rattle.theory_errors.specs.Judging.{completed_in}
use Rattle.theory_errors.specs.Owing.{is_rightly_sent_in, must_end_in}
use Rattle.theory_responses.specs.Outbox.{Part}
use Rattle.theory_responses.specs.Policy.{MayGo}
use Rattle.theory_responses.specs.Sight.{sight_in, windows_in}
use Rattle.theory_requests.specs.State.Due.{Nothing}
use Rattle.theory_header_tables.specs.Rule.{MayGive}
use Rattle.theory_header_tables.specs.Turns.{MayBeginIf}
use Rattle.theory.specs.State.{State}
use Rattle.theory.specs.Steps.{told_by}

-- A frame of a response may go: nothing is owed or due, the connection goes on, the stream takes it in its turn, and header blocks stand
-- together, each as the encoder writes it.
pub record MayPass (s : State) (noted : Noted) (next : Table) : Type 0 where
  pub open_yet : s.ledger.book.closed ≡ false
  pub nothing : s.ledger.queue ≡ []
  pub nothing_due : s.requests.due ≡ Nothing
  pub goes_on : must_end_in (told_by s) ≡ false
  pub passing : is_passing noted ≡ true
  pub no_update : (noted.frame.kind == window_update_kind) ≡ false
  pub rightly : is_rightly_sent_in (told_by s) noted.frame ≡ true
  pub not_to_open : may_open (told_by s).drained (told_by s).opened noted.frame.id ≡ false
  pub in_turn : MayBeginIf (windows_in (sight_in (told_by s))) s.offers (Sent noted)
  pub table : MayGive s.tables noted s.ledger.book.block_out next

-- One with which a part is complete: the next of the stream whose turn it is.
pub record PartGoes (s : State) (noted : Noted) (item : Item) (part : Part) (next : Table) : Type 0 where
  pub may : MayPass s noted next
  pub goes : MayGo (windows_in (sight_in (told_by s))) s.offers noted item part
  pub brings : frame_items (completed_in s.ledger.book.block_out noted.frame) noted ≡ item ∷ []

-- One of a header block that goes on in the next frame.
pub record FragmentGoes (s : State) (noted : Noted) (next : Table) : Type 0 where
  pub may : MayPass s noted next
  pub goes_on : completed_in s.ledger.book.block_out noted.frame ≡ None
  pub no_data : (noted.frame.kind == data_kind) ≡ false
