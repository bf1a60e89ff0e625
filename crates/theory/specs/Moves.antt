-- The moves of a gateway: entries of the tape, each with what is decided there. From them and from what is told at a point
-- follows the move of each concern.
use Rattle.std.specs.Prelude.{ℕ, Bool, true, false, not, ◌&&◌, ◌==◌, List, [], ◌∷◌, is_none}
use Rattle.model.specs.Messages.{Field, Item}
use Rattle.model.specs.Tables.{Table}
use Rattle.model.specs.Frames.{window_update_kind}
use Rattle.model.specs.Logs.{Event, Act}
use Rattle.model.specs.Logs.Event.{Up, UpEnd, UpFailed}
use Rattle.model.specs.Logs.Act.{ToUp}
use Rattle.model.specs.Openings.{given, begins_another}
use Rattle.model.specs.Tapes.{Noted, Breach, Entry}
use Rattle.model.specs.Tapes.Entry.{Came, Breached, Happened, Sent, Did}
use Rattle.model.specs.Deliveries.{Delivery}
use Rattle.h1_writer.specs.Sending.{Stage}
use Rattle.theory_errors.specs.Summary.{Summary}
use Rattle.theory_errors.specs.Owing.{must_end_in}
use Rattle.theory_errors.specs.Rule as theory_errors
use Rattle.theory_responses.specs.Outbox.{Part}
use Rattle.theory_responses.specs.Sight.{Sight, sight_in}
use Rattle.theory_responses.specs.Rule.{change_by}
use Rattle.theory_responses.specs.State as theory_responses
use Rattle.theory_receive_windows.specs.Rule.{is_over_by}
use Rattle.theory_receive_windows.specs.State as theory_receive_windows
use Rattle.theory_requests.specs.Lines.{Heard}
use Rattle.theory_requests.specs.Lines.Heard.{Keepable, Finished}
use Rattle.theory_requests.specs.Told.{Told}
use Rattle.theory_requests.specs.State as theory_requests
use Rattle.theory_header_tables.specs.Verdicts.{verdict_in}
use Rattle.theory_header_tables.specs.State as theory_header_tables

-- What a frame of the client adds to its stream's request, and what is written for it.
pub data Addition : Type 0 where
  -- it adds no item
  Nothing : Addition
  -- its head: whether it ends the stream, the place of its route, the text, and what that waits for
  Begins : (head : List Field) → (ended : Bool) → (route : ℕ) → (text : List ℕ) → (stage : Stage) → Addition
  -- an item of a request that waits with this text and body, of one that goes out on a connection, or of one that is dropped
  Gathers : (item : Item) → (route : ℕ) → (text : List ℕ) → (old : Stage) → (body : List ℕ) → (written : List ℕ) → (stage : Stage) → Addition
  Passes : (item : Item) → (k : ℕ) → (old : Stage) → (written : List ℕ) → (stage : Stage) → Addition
  Drops : (item : Item) → Addition

-- An entry, with what is decided there.
pub data Decision : Type 0 where
  -- a frame of the client: the table that its header block leaves, and what it adds to its stream's request
  Takes : (noted : Noted) → (next : Table) → (addition : Addition) → Decision
  Breaks : (breach : Breach) → Decision
  -- an event of no upstream's answer
  Notes : (event : Event) → Decision
  -- a stream's upstream tells these news of its response; whether that is whole with them, and its connection may be kept
  Hears : (event : Event) → (stream : ℕ) → (news : Delivery) → (heard : Heard) → Decision
  -- its answer fails
  Fails : (event : Event) → (stream : ℕ) → (heard : Heard) → Decision
  -- something comes of an idle connection
  Idles : (event : Event) → Decision
  -- a frame to the client that brings no stream an item, and the table that its block leaves
  Sends : (noted : Noted) → (next : Table) → Decision
  -- one that brings a stream the next part of its response
  Goes : (noted : Noted) → (item : Item) → (part : Part) → (next : Table) → Decision
  Acts : (act : Act) → Decision

-- A move is a decision, or the end of the effect of what came last.
pub data Move : Type 0 where
  Does : (decision : Decision) → Move
  Settles : Move

-- ---- entries

abbrev pub entry_of : Decision → Entry
entry_of (Takes noted next addition) = Came noted
entry_of (Breaks breach) = Breached breach
entry_of (Notes event) = Happened event
entry_of (Hears event stream news heard) = Happened event
entry_of (Fails event stream heard) = Happened event
entry_of (Idles event) = Happened event
entry_of (Sends noted next) = Sent noted
entry_of (Goes noted item part next) = Sent noted
entry_of (Acts act) = Did act

-- whether an upstream's answer fails with it
abbrev pub fails_in : Decision → Bool
fails_in (Fails event stream heard) = true
fails_in _ = false

-- whether it is something that comes in
abbrev pub comes_in : Entry → Bool
comes_in (Sent noted) = false
comes_in (Did act) = false
comes_in e = true

-- ---- the moves of the concerns, by what is told before a decision and behind it

abbrev pub conduct_of : Decision → theory_errors.Move
conduct_of d = record { entry = entry_of d; fails = fails_in d }

abbrev pub offer_of : Sight → Sight → Decision → theory_responses.Move
offer_of before behind (Takes noted next addition) = theory_responses.Move.Takes noted (change_by before behind noted.frame.id)
offer_of before behind (Breaks breach) = theory_responses.Move.Breaks breach
offer_of before behind (Notes event) = theory_responses.Move.Notes event
offer_of before behind (Hears event stream news heard) = theory_responses.Move.Hears event stream news
offer_of before behind (Fails event stream heard) = theory_responses.Move.Fails event stream
offer_of before behind (Idles event) = theory_responses.Move.Idles event
offer_of before behind (Sends noted next) = theory_responses.Move.Sends noted
offer_of before behind (Goes noted item part next) = theory_responses.Move.Goes noted item part (not (behind.active noted.frame.id))
offer_of before behind (Acts act) = theory_responses.Move.Acts act

-- a frame by what it adds
abbrev pub gained : Noted → Addition → theory_requests.Move
gained noted Nothing = theory_requests.Move.Takes noted
gained noted (Begins head ended route text stage) = theory_requests.Move.Begins noted head ended route text stage
gained noted (Gathers item route text old body written stage) = theory_requests.Move.Gathers noted item route text old body written stage
gained noted (Passes item k old written stage) = theory_requests.Move.Passes noted item k old written stage
gained noted (Drops item) = theory_requests.Move.Drops noted item

-- an answer that fails, by its event
abbrev pub failed : Event → Heard → theory_requests.Move
failed (UpFailed k) heard = theory_requests.Move.Fails k
failed event heard = theory_requests.Move.Hears event heard

-- what comes of an idle connection: no octets leave it idle, and any, or its end, finish it
abbrev pub idled : Event → theory_requests.Move
idled (Up k []) = theory_requests.Move.Hears (Up k []) Keepable
idled (Up k (octet ∷ octets)) = theory_requests.Move.Hears (Up k (octet ∷ octets)) Finished
idled (UpEnd k) = theory_requests.Move.Hears (UpEnd k) Finished
idled (UpFailed k) = theory_requests.Move.Fails k
idled event = theory_requests.Move.Notes event

abbrev pub request_of : Decision → theory_requests.Move
request_of (Takes noted next addition) = gained noted addition
request_of (Breaks breach) = theory_requests.Move.Breaks breach
request_of (Notes event) = theory_requests.Move.Notes event
request_of (Hears event stream news heard) = theory_requests.Move.Hears event heard
request_of (Fails event stream heard) = failed event heard
request_of (Idles event) = idled event
request_of (Sends noted next) = theory_requests.Move.Sends noted
request_of (Goes noted item part next) = theory_requests.Move.Sends noted
request_of (Acts act) = theory_requests.Move.Acts act

abbrev pub table_of : Summary → Decision → theory_header_tables.Move
table_of s (Takes noted next addition) = theory_header_tables.Move.Takes noted (verdict_in s noted.frame) next
table_of s (Breaks breach) = theory_header_tables.Move.Breaks breach
table_of s (Notes event) = theory_header_tables.Move.Hears event
table_of s (Hears event stream news heard) = theory_header_tables.Move.Hears event
table_of s (Fails event stream heard) = theory_header_tables.Move.Hears event
table_of s (Idles event) = theory_header_tables.Move.Hears event
table_of s (Sends noted next) = theory_header_tables.Move.Sends noted s.block_out next
table_of s (Goes noted item part next) = theory_header_tables.Move.Sends noted s.block_out next
table_of s (Acts act) = theory_header_tables.Move.Acts act

-- a frame to the client by whether it gives octets back
abbrev pub given_or_sent : Bool → Sight → Sight → Noted → theory_receive_windows.Move
given_or_sent true before behind noted = theory_receive_windows.Move.Gives noted
given_or_sent false before behind noted = theory_receive_windows.Move.Sends noted (is_over_by before behind noted.frame.id)

-- octets to an upstream by whether they begin another exchange, and any other act
abbrev pub sent_or_used : Bool → ℕ → List ℕ → theory_receive_windows.Move
sent_or_used true k octets = theory_receive_windows.Move.Uses k octets
sent_or_used false k octets = theory_receive_windows.Move.Acts (ToUp k octets)

abbrev pub acted : Sight → Act → theory_receive_windows.Move
acted before (ToUp k octets) = sent_or_used (begins_another (given k before.given) before.last octets) k octets
acted before act = theory_receive_windows.Move.Acts act

abbrev pub window_of : Sight → Sight → Decision → theory_receive_windows.Move
window_of before behind (Takes noted next addition) =
    theory_receive_windows.Move.Takes noted (not (before.opened noted.frame.id) && behind.opened noted.frame.id) (is_over_by before behind noted.frame.id)
window_of before behind (Breaks breach) = theory_receive_windows.Move.Breaks breach
window_of before behind (Notes event) = theory_receive_windows.Move.Hears event
window_of before behind (Hears event stream news heard) = theory_receive_windows.Move.Hears event
window_of before behind (Fails event stream heard) = theory_receive_windows.Move.Hears event
window_of before behind (Idles event) = theory_receive_windows.Move.Hears event
window_of before behind (Sends noted next) = given_or_sent (noted.frame.kind == window_update_kind) before behind noted
window_of before behind (Goes noted item part next) = given_or_sent (noted.frame.kind == window_update_kind) before behind noted
window_of before behind (Acts act) = acted before act

-- what is told of streams and of the end
abbrev pub told_in : Summary → Told
told_in s = record {
  served = λ id. (sight_in s).active id && is_none ((sight_in s).cause id);
  ends = must_end_in s;
  closed = s.closed;
}
