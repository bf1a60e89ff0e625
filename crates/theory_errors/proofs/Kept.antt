-- The summary is kept: the one behind an entry is made of the one before it, field by field.
use Rattle.std.proofs.Common.{◌≡◌, ℕ, ◌+◌, Bool, true, false, not, ◌&&◌, ◌==◌, if◌then◌else◌, List, [], ◌∷◌, ◌++◌, refl, sym, ◌∙◌, ap, arith}
use Rattle.std.proofs.lemmas.Int.{ints}
use Rattle.std.proofs.lemmas.List.Folds.{list_any-append}
use Rattle.std.specs.List.{list_any}
use Rattle.std.specs.Prelude.{ℤ, pos, ◌+ℤ◌, ◌-ℤ◌, is_none}
use Rattle.model.specs.Frames.{Frame}
use Rattle.model.specs.Logs.Event.{Client, ClientEnd, ClientTook, Up, UpEnd, UpFailed, UpTook, Drain}
use Rattle.model.specs.Logs.Act.{Open, ToUp, Close, CloseClient}
use Rattle.model.specs.Admission.{untaken}
use Rattle.model.specs.Errors.{has_come}
use Rattle.model.specs.Tapes.{Noted, Entry, came, sent, is_closed}
use Rattle.model.specs.Tapes.Entry.{Came, Breached, Happened, Sent, Did}
use Rattle.model.specs.Decoding.{begun, completed}
use Rattle.model.specs.Streams.{frame_items}
use Rattle.model.specs.Available.{items_on}
use Rattle.model.specs.SettingValues.{Setting, settings_in, settings_fault, initial_window_after}
use Rattle.model.proofs.LayersSettings.{applied_in_order}
use Rattle.model.specs.Windows.{balance, sending_window}
use Rattle.model.specs.Limits.{first_window}
use Rattle.model.specs.Known.{Known, fails_behind}
use Rattle.model.specs.Openings.{exchanges, last_stream}
use Rattle.model.specs.FrameErrors.{frame_fault, sound, last_continuations}
use Rattle.model.specs.WindowsOnTape.{has_settings, increments, data_octets, data_length, is_on, is_any, shifts_past, are_taken, client_settings, first_size}
use Rattle.model.specs.Lifetimes.{is_ended_by_client, is_ended_by_gateway, is_reset_by_client, is_reset_by_gateway, resets_by_client}
use Rattle.model.specs.Courses.{is_final}
use Rattle.model.specs.ErrorClause.{is_fatal, calls_for_end}
use Rattle.theory_errors.specs.Summary.{Stream, Summary, summary_of, stream_of}
use Rattle.theory_errors.specs.After.{has_come_after, block_after, continuations_after, block_out_after, are_taken_in, first_size_after, grant, window_after, room_after, given_after, last_after, ends_after, resets_after, closed_after, untaken_after, ended_by_client_after, ended_by_gateway_after, reset_by_client_after, reset_by_gateway_after, head_out_after, kept_behind, after}
use Rattle.theory_errors.proofs.Outlines.{outline_kept}
use Rattle.theory_errors.proofs.Owed.{fault_same, opened_same, drained_same}

-- ---- by computation

has_come_kept : (t : List Entry) (e : Entry) → has_come_after (has_come (came t)) e ≡ has_come (came (e ∷ t))
has_come_kept t (Came noted) = refl
has_come_kept t (Breached breach) = refl
has_come_kept t (Happened event) = refl
has_come_kept t (Sent noted) = refl
has_come_kept t (Did act) = refl

block_kept : (t : List Entry) (e : Entry) → block_after (begun (came t)) e ≡ begun (came (e ∷ t))
block_kept t (Came noted) = refl
block_kept t (Breached breach) = refl
block_kept t (Happened event) = refl
block_kept t (Sent noted) = refl
block_kept t (Did act) = refl

continuations_kept : (t : List Entry) (e : Entry) → continuations_after (last_continuations (came t)) e ≡ last_continuations (came (e ∷ t))
continuations_kept t (Came noted) = refl
continuations_kept t (Breached breach) = refl
continuations_kept t (Happened event) = refl
continuations_kept t (Sent noted) = refl
continuations_kept t (Did act) = refl

block_out_kept : (t : List Entry) (e : Entry) → block_out_after (begun (sent t)) e ≡ begun (sent (e ∷ t))
block_out_kept t (Came noted) = refl
block_out_kept t (Breached breach) = refl
block_out_kept t (Happened event) = refl
block_out_kept t (Sent noted) = refl
block_out_kept t (Did act) = refl

given_kept : (t : List Entry) (e : Entry) → given_after (exchanges t) (last_stream t) e ≡ exchanges (e ∷ t)
given_kept t (Came noted) = refl
given_kept t (Breached breach) = refl
given_kept t (Happened event) = refl
given_kept t (Sent noted) = refl
given_kept t (Did (Open k route)) = refl
given_kept t (Did (ToUp k octets)) = refl
given_kept t (Did (Close k)) = refl
given_kept t (Did CloseClient) = refl

last_kept : (t : List Entry) (e : Entry) → last_after (last_stream t) e ≡ last_stream (e ∷ t)
last_kept t (Came noted) = refl
last_kept t (Breached breach) = refl
last_kept t (Happened event) = refl
last_kept t (Sent noted) = refl
last_kept t (Did act) = refl

ends_kept : (known : Known) (t : List Entry) (e : Entry) → ends_after (summary_of known t) e ≡ calls_for_end known (e ∷ t)
ends_kept known t (Came noted) = ap is_fatal (fault_same known t (Came noted))
ends_kept known t (Breached breach) = refl
ends_kept known t (Happened (Client piece)) = refl
ends_kept known t (Happened ClientEnd) = refl
ends_kept known t (Happened (ClientTook count)) = refl
ends_kept known t (Happened (Up k piece)) = refl
ends_kept known t (Happened (UpEnd k)) = refl
ends_kept known t (Happened (UpFailed k)) = refl
ends_kept known t (Happened (UpTook k count)) = refl
ends_kept known t (Happened Drain) = refl
ends_kept known t (Sent noted) = refl
ends_kept known t (Did act) = refl

resets_kept : (known : Known) (t : List Entry) (e : Entry) → resets_after (summary_of known t) e ≡ resets_by_client (e ∷ t)
resets_kept known t (Came noted) = refl
resets_kept known t (Breached breach) = refl
resets_kept known t (Happened event) = refl
resets_kept known t (Sent noted) = refl
resets_kept known t (Did act) = refl

closed_kept : (t : List Entry) (e : Entry) → closed_after (is_closed t) e ≡ is_closed (e ∷ t)
closed_kept t (Came noted) = refl
closed_kept t (Breached breach) = refl
closed_kept t (Happened event) = refl
closed_kept t (Sent noted) = refl
closed_kept t (Did (Open k route)) = refl
closed_kept t (Did (ToUp k octets)) = refl
closed_kept t (Did (Close k)) = refl
closed_kept t (Did CloseClient) = refl

untaken_kept : (t : List Entry) (e : Entry) → untaken_after (untaken t) e ≡ untaken (e ∷ t)
untaken_kept t (Came noted) = refl
untaken_kept t (Breached breach) = refl
untaken_kept t (Happened (Client piece)) = refl
untaken_kept t (Happened ClientEnd) = refl
untaken_kept t (Happened (ClientTook count)) = refl
untaken_kept t (Happened (Up k piece)) = refl
untaken_kept t (Happened (UpEnd k)) = refl
untaken_kept t (Happened (UpFailed k)) = refl
untaken_kept t (Happened (UpTook k count)) = refl
untaken_kept t (Happened Drain) = refl
untaken_kept t (Sent noted) = refl
untaken_kept t (Did act) = refl

-- ---- settings

-- the first size, where settings are taken or not
size_if : (taken : Bool) (before new : List Setting) → (if taken then initial_window_after (initial_window_after first_window before) new else initial_window_after first_window before) ≡ initial_window_after first_window (if taken then before ++ new else before)
size_if true before new = sym (applied_in_order first_window before new)
size_if false before new = refl

-- whether settings are taken
pub taken_same : (known : Known) (t : List Entry) (frame : Frame) → are_taken_in (summary_of known t) frame ≡ are_taken t (client_settings t) frame
taken_same known t frame =
    let new : List Setting = settings_in frame.payload in
    ap (λ n. has_settings frame && is_none (settings_fault frame.payload) && not (shifts_past n t)) (sym (applied_in_order first_window (client_settings t) new))

first_size_kept : (known : Known) (t : List Entry) (e : Entry) → first_size_after (summary_of known t) e ≡ first_size (e ∷ t)
first_size_kept known t (Came noted) =
    let new : List Setting = settings_in noted.frame.payload in
    ap (λ b. if is_none (frame_fault t (Came noted)) && b then initial_window_after (first_size t) new else first_size t) (taken_same known t noted.frame)
    ∙ size_if (is_none (frame_fault t (Came noted)) && are_taken t (client_settings t) noted.frame) (client_settings t) new
first_size_kept known t (Breached breach) = refl
first_size_kept known t (Happened event) = refl
first_size_kept known t (Sent noted) = refl
first_size_kept known t (Did act) = refl

-- ---- windows

-- a size that is made of what was granted and what was sent
abbrev IsSized : (ℕ → ℕ → ℤ) → Type 0
IsSized size = ((granted more octets : ℕ) → size granted octets +ℤ pos more ≡ size (granted + more) octets) × ((granted octets more : ℕ) → size granted octets -ℤ pos more ≡ size granted (octets + more))

balance_sized : IsSized balance
balance_sized = ((λ granted more octets. omega (arith, ints)), (λ granted octets more. omega (arith, ints)))

window_sized : IsSized (sending_window first_window)
window_sized = ((λ granted more octets. omega (arith, ints)), (λ granted octets more. omega (arith, ints)))

-- a grant counts where its frame is sound
granted_if : (size : ℕ → ℕ → ℤ) → IsSized size → (is_sound : Bool) (octets id : ℕ) (noted : Noted) (before : List Noted) → (if is_sound then size (increments id before) octets +ℤ pos (grant id noted.frame) else size (increments id before) octets) ≡ size (increments id (if is_sound then noted ∷ before else before)) octets
granted_if size sized true octets id noted before = sized.0 (increments id before) (grant id noted.frame) octets
granted_if size sized false octets id noted before = refl

window_kept : (known : Known) (t : List Entry) (size : ℕ → ℕ → ℤ) → IsSized size → (test : ℕ → Bool) (id : ℕ) (e : Entry) → window_after (size (increments id (sound t)) (data_octets test (sent t))) test id (summary_of known t) e ≡ size (increments id (sound (e ∷ t))) (data_octets test (sent (e ∷ t)))
window_kept known t size sized test id (Came noted) = granted_if size sized (is_none (frame_fault t (Came noted))) (data_octets test (sent t)) id noted (sound t)
window_kept known t size sized test id (Breached breach) = refl
window_kept known t size sized test id (Happened event) = refl
window_kept known t size sized test id (Sent noted) = sized.1 (increments id (sound t)) (data_octets test (sent t)) (data_length test noted.frame)
window_kept known t size sized test id (Did act) = refl

room_kept : (t : List Entry) (size : ℕ → ℕ → ℤ) → IsSized size → (test : ℕ → Bool) (id : ℕ) (e : Entry) → room_after (size (increments id (sent t)) (data_octets test (came t))) test id e ≡ size (increments id (sent (e ∷ t))) (data_octets test (came (e ∷ t)))
room_kept t size sized test id (Came noted) = sized.1 (increments id (sent t)) (data_octets test (came t)) (data_length test noted.frame)
room_kept t size sized test id (Breached breach) = refl
room_kept t size sized test id (Happened event) = refl
room_kept t size sized test id (Sent noted) = sized.0 (increments id (sent t)) (grant id noted.frame) (data_octets test (came t))
room_kept t size sized test id (Did act) = refl

-- ---- a stream

ended_by_client_kept : (known : Known) (t : List Entry) (id : ℕ) (e : Entry) → ended_by_client_after id (summary_of known t) e (is_ended_by_client id t) ≡ is_ended_by_client id (e ∷ t)
ended_by_client_kept known t id (Came noted) = refl
ended_by_client_kept known t id (Breached breach) = refl
ended_by_client_kept known t id (Happened event) = refl
ended_by_client_kept known t id (Sent noted) = refl
ended_by_client_kept known t id (Did act) = refl

ended_by_gateway_kept : (known : Known) (t : List Entry) (id : ℕ) (e : Entry) → ended_by_gateway_after id (summary_of known t) e (is_ended_by_gateway id t) ≡ is_ended_by_gateway id (e ∷ t)
ended_by_gateway_kept known t id (Came noted) = refl
ended_by_gateway_kept known t id (Breached breach) = refl
ended_by_gateway_kept known t id (Happened event) = refl
ended_by_gateway_kept known t id (Sent noted) = refl
ended_by_gateway_kept known t id (Did act) = refl

reset_by_client_kept : (known : Known) (t : List Entry) (id : ℕ) (e : Entry) → reset_by_client_after id e (is_reset_by_client id t) ≡ is_reset_by_client id (e ∷ t)
reset_by_client_kept known t id (Came noted) = refl
reset_by_client_kept known t id (Breached breach) = refl
reset_by_client_kept known t id (Happened event) = refl
reset_by_client_kept known t id (Sent noted) = refl
reset_by_client_kept known t id (Did act) = refl

reset_by_gateway_kept : (known : Known) (t : List Entry) (id : ℕ) (e : Entry) → reset_by_gateway_after id e (is_reset_by_gateway id t) ≡ is_reset_by_gateway id (e ∷ t)
reset_by_gateway_kept known t id (Came noted) = refl
reset_by_gateway_kept known t id (Breached breach) = refl
reset_by_gateway_kept known t id (Happened event) = refl
reset_by_gateway_kept known t id (Sent noted) = refl
reset_by_gateway_kept known t id (Did act) = refl

head_out_kept : (known : Known) (t : List Entry) (id : ℕ) (e : Entry) → head_out_after id (summary_of known t) e (list_any is_final (items_on id (sent t))) ≡ list_any is_final (items_on id (sent (e ∷ t)))
head_out_kept known t id (Came noted) = refl
head_out_kept known t id (Breached breach) = refl
head_out_kept known t id (Happened event) = refl
head_out_kept known t id (Sent noted) =
    sym (list_any-append is_final (items_on id (sent t)) (if noted.frame.id == id then frame_items (completed (sent t) noted.frame) noted else []))
head_out_kept known t id (Did act) = refl

-- What is kept of a stream is what the tape leaves of it.
pub stream_kept : (known : Known) (t : List Entry) (e : Entry) (id : ℕ) → kept_behind known.setup (fails_behind known t) (summary_of known t) e id (stream_of known t id) ≡ stream_of known (e ∷ t) id
stream_kept known t e id =
    let now : Stream = stream_of known (e ∷ t) id in
    let made : Stream = kept_behind known.setup (fails_behind known t) (summary_of known t) e id (stream_of known t id) in
    ap (λ x. record made { ended_by_client = x }) (ended_by_client_kept known t id e)
    ∙ ap (λ x. record made { ended_by_client = now.ended_by_client; ended_by_gateway = x }) (ended_by_gateway_kept known t id e)
    ∙ ap (λ x. record now { reset_by_client = x; reset_by_gateway = made.reset_by_gateway; balance = made.balance; room = made.room; head_out = made.head_out; outline = made.outline }) (reset_by_client_kept known t id e)
    ∙ ap (λ x. record now { reset_by_gateway = x; balance = made.balance; room = made.room; head_out = made.head_out; outline = made.outline }) (reset_by_gateway_kept known t id e)
    ∙ ap (λ x. record now { balance = x; room = made.room; head_out = made.head_out; outline = made.outline }) (window_kept known t balance balance_sized (is_on id) id e)
    ∙ ap (λ x. record now { room = x; head_out = made.head_out; outline = made.outline }) (room_kept t balance balance_sized (is_on id) id e)
    ∙ ap (λ x. record now { head_out = x; outline = made.outline }) (head_out_kept known t id e)
    ∙ ap (λ x. record now { outline = x }) (outline_kept known t id e)

-- ---- all of it

-- The summary behind an entry.
pub summary_kept : (known : Known) (t : List Entry) (e : Entry) → after known.setup (fails_behind known t) (summary_of known t) e ≡ summary_of known (e ∷ t)
summary_kept known t e =
    let now : Summary = summary_of known (e ∷ t) in
    let made : Summary = after known.setup (fails_behind known t) (summary_of known t) e in
    ap (λ x. record made { has_come = x }) (has_come_kept t e)
    ∙ ap (λ x. record made { has_come = now.has_come; block = x }) (block_kept t e)
    ∙ ap (λ x. record made { has_come = now.has_come; block = now.block; continuations = x }) (continuations_kept t e)
    ∙ ap (λ x. record made { has_come = now.has_come; block = now.block; continuations = now.continuations; block_out = x }) (block_out_kept t e)
    ∙ ap (λ x. record made { has_come = now.has_come; block = now.block; continuations = now.continuations; block_out = now.block_out; first_size = x }) (first_size_kept known t e)
    ∙ ap (λ x. record now { window = x; room = made.room; drained = made.drained; opened = made.opened; stream = made.stream; resets = made.resets; given = made.given; last = made.last; ends = made.ends; closed = made.closed; untaken = made.untaken }) (window_kept known t (sending_window first_window) window_sized is_any 0 e)
    ∙ ap (λ x. record now { room = x; drained = made.drained; opened = made.opened; stream = made.stream; resets = made.resets; given = made.given; last = made.last; ends = made.ends; closed = made.closed; untaken = made.untaken }) (room_kept t (sending_window first_window) window_sized is_any 0 e)
    ∙ ap (λ x. record now { drained = x; opened = made.opened; stream = made.stream; resets = made.resets; given = made.given; last = made.last; ends = made.ends; closed = made.closed; untaken = made.untaken }) (drained_same t e)
    ∙ ap (λ x. record now { opened = x; stream = made.stream; resets = made.resets; given = made.given; last = made.last; ends = made.ends; closed = made.closed; untaken = made.untaken }) (opened_same known t e)
    ∙ ap (λ x. record now { stream = x; resets = made.resets; given = made.given; last = made.last; ends = made.ends; closed = made.closed; untaken = made.untaken }) (λ i id. stream_kept known t e id i)
    ∙ ap (λ x. record now { resets = x; given = made.given; last = made.last; ends = made.ends; closed = made.closed; untaken = made.untaken }) (resets_kept known t e)
    ∙ ap (λ x. record now { given = x; last = made.last; ends = made.ends; closed = made.closed; untaken = made.untaken }) (given_kept t e)
    ∙ ap (λ x. record now { last = x; ends = made.ends; closed = made.closed; untaken = made.untaken }) (last_kept t e)
    ∙ ap (λ x. record now { ends = x; closed = made.closed; untaken = made.untaken }) (ends_kept known t e)
    ∙ ap (λ x. record now { closed = x; untaken = made.untaken }) (closed_kept t e)
    ∙ ap (λ x. record now { untaken = x }) (untaken_kept t e)
