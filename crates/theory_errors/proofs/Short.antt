-- The header block of the client that isn't complete has at most so many octets as one may have.
use Rattle.std.proofs.Common.{◌≡◌, ◌≤◌, Bool, true, false, ◌||◌, nat_lt, if◌then◌else◌, List, [], ◌∷◌, length, Option, Some, None, refl, arith}
use Rattle.std.proofs.lemmas.Bool.{or_parts, ltb-false}
use Rattle.model.specs.Frames.{ends_headers, enhance_your_calm}
use Rattle.model.specs.Setup.{Setup}
use Rattle.model.specs.Tapes.{Noted, Entry}
use Rattle.model.specs.Tapes.Entry.{Came, Breached, Happened, Sent, Did}
use Rattle.model.specs.Decoding.{Partial, joined}
use Rattle.model.specs.Errors.{Fault, first_of}
use Rattle.model.specs.Errors.Fault.{Connection}
use Rattle.model.specs.FrameErrors.{fault_if, is_long}
use Rattle.model.specs.Limits.{most_continuations, longest_block}
use Rattle.model.specs.ErrorTable.{unless_of_stream}
use Rattle.theory_errors.specs.Summary.{Summary}
use Rattle.theory_errors.specs.Judging.{fault_by_standing_in, stream_update_in, stream_data_in, no_goaway_in, malformed_in, continuations_in, long_block_in}
use Rattle.theory_errors.specs.After.{block_after, ends_after}
use Rattle.theory_errors.specs.Held.{octets_begun}
use Rattle.theory_errors.specs.Rule.{Move}
use Rattle.theory_errors.specs.Book.{as_point, summary_in, ledger_of, AllMoved}
use Rattle.theory_errors.proofs.Calm.{early_rows, early_fatal, calm}
use Rattle.theory_errors.proofs.Seen.{none_at}
use Rattle.theory_errors.proofs.Few.{on_before}

-- no fault where a test would make one
not_so : (b : Bool) (fault : Fault) → fault_if b fault ≡ None → b ≡ false
not_so false fault none = refl
not_so true fault none = absurd (cc)

-- a frame that is no error of the connection leaves a short block
short_behind : (s : Summary) (noted : Noted) → ends_after s (Came noted) ≡ false → is_long (joined s.block noted.frame) ≡ false
short_behind s noted on =
    let later : List (Option Fault) = unless_of_stream (fault_by_standing_in s noted.frame) ∷ stream_update_in s noted.frame ∷ stream_data_in s noted.frame ∷ fault_by_standing_in s noted.frame ∷ no_goaway_in s noted ∷ [] in
    let none : first_of (early_rows s noted) ≡ None = calm (early_rows s noted) later (malformed_in (s.stream noted.frame.id).outline s (Came noted)) (early_fatal s noted) on in
    let row : long_block_in s noted.frame ≡ None = none_at 3 (early_rows s noted) none in
    let continued : Bool = nat_lt most_continuations (continuations_in s.continuations noted.frame) in
    (or_parts (is_long (joined s.block noted.frame)) continued (not_so (is_long (joined s.block noted.frame) || continued) (Connection enhance_your_calm) row)).0

-- nothing is begun behind the last frame of a block
short_unless : (ends : Bool) (joint : Option Partial) → is_long joint ≡ false → octets_begun (if ends then None else joint) ≤ longest_block
short_unless true joint short = omega arith
short_unless false (Some joint) short = ltb-false longest_block (length joint.fragments) short
short_unless false None short = omega arith

-- any entry leaves one
short_kept : (s : Summary) (e : Entry) → ends_after s e ≡ false → octets_begun s.block ≤ longest_block → octets_begun (block_after s.block e) ≤ longest_block
short_kept s (Came noted) on short = short_unless (ends_headers noted.frame) (joined s.block noted.frame) (short_behind s noted on)
short_kept s (Breached breach) on short = short
short_kept s (Happened event) on short = short
short_kept s (Sent noted) on short = short
short_kept s (Did act) on short = short

-- While the connection isn't to end, the block of the client that isn't complete is short.
pub begun_is_short : (setup : Setup) (moves : List Move) → AllMoved setup moves → (ledger_of setup moves).book.ends ≡ false → octets_begun (ledger_of setup moves).book.block ≤ longest_block
begun_is_short setup [] all on = omega arith
begun_is_short setup (m ∷ moves) all on =
    let s : Summary = summary_in (ledger_of setup moves).book in
    short_kept s m.entry on (begun_is_short setup moves all.0 (on_before (as_point (ledger_of setup moves)) m.entry all.1.allowed.turn on))
