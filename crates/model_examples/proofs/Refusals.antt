-- Gateways that do wrong: tapes that they make, and the clause that each breaks.
use Rattle.std.proofs.Common.{Bool, ◌≡◌, ℕ, true, false, ◌&&◌, ◌==◌, nat_lt, if◌then◌else◌, List, [], ◌∷◌, ◌++◌, length, refl, sym, ap, ◌∙◌, inl, inr, arith, not, ◌||◌}
use Rattle.std.specs.Prelude.{Option, Some, None, pos, negsuc, nat_abs, ◌≤ℤ◌, codes, map}
use Rattle.model.specs.Tables.{total_size, Table, field_of, look_up, static_table}
use Rattle.model.specs.Frames.{Frame, settings_frame, goaway, no_error, stream_closed}
use Rattle.model.specs.Logs.Event.{UpEnd}
use Rattle.model.specs.Logs.{Act}
use Rattle.model.specs.Logs.Act.{Close}
use Rattle.model.specs.Tapes.{Entry, sent}
use Rattle.model.specs.Tapes.Note.{Unread}
use Rattle.model.specs.Tapes.Entry.{Came, Breached, Happened, Sent, Did}
use Rattle.model.specs.Known.{Known}
use Rattle.model.specs.Causes.{Cause}
use Rattle.model.specs.Limits.{most_streams}
use Rattle.model.specs.Lifetimes.{opened, highest, is_drained}
use Rattle.model.specs.ErrorClause.{ErrorsHold, GoawaysComeFirst, last_goaway, rst_stream}
use Rattle.model.specs.ProgressClause.{ProgressHolds, Reason, AllStreamed}
use Rattle.model.specs.ProgressClause.Reason.{Over, Complete, Answered, ClientClosed}
use Rattle.model.specs.WindowClause.{WindowsHold}
use Rattle.model.specs.Headline.{IsTold}
use Rattle.model.specs.Synchrony.{IsWritten}
use Rattle.model.proofs.OfferLemmas.{nothing_complete}
use Rattle.model.proofs.OwedSteps.{no_goaway}
use Rattle.model_examples.proofs.RowTapes.{by_whole, by_streaming, frame, plain, headed, out, field, post, post_block, begun, getting, got, update, settings}
use Rattle.model_examples.proofs.CauseExamples.{ended_streaming, in_chunk_streaming}
use Rattle.model_examples.proofs.WindowExamples as windows

-- It sends nothing: the first frame is to be the gateway's settings.
pub silent : (known : Known) (t : List Entry) → sent t ≡ [] → ErrorsHold known t → ⊥
silent known t e c = ends c.begins.0 (sym (ap (map (λ noted. noted.frame)) e) ∙ c.begins.1)
  where
    ends : (newer : List Frame) → [] ≡ newer ++ settings_frame known.setup.more_room ∷ [] → ⊥
    ends [] e = cc
    ends (f ∷ newer) e = cc

-- It sends GOAWAY at once: nothing calls for it.
pub leaves_at_once : ErrorsHold by_whole (out (goaway 0 no_error) ∷ begun) → ⊥
unfolding total_size
leaves_at_once c = let clash : 3 ≡ 2 = ap length c.just_owed in omega (arith, clash)

-- It doesn't acknowledge settings.
pub not_acknowledged : ErrorsHold by_whole (plain (settings []) ∷ out (settings_frame 0) ∷ []) → ⊥
unfolding total_size
not_acknowledged c = let clash : 1 ≡ 2 = ap length c.just_owed in omega (arith, clash)

-- It goes on behind DATA on a skipped stream: the client is to be closed.
pub goes_on : ErrorsHold by_whole (plain (frame 0 0 3 (120 ∷ [])) ∷ getting 1 5 begun) → ⊥
unfolding total_size
goes_on c = let clash : false ≡ true = c.closed in cc

-- It answers that DATA with a reset: a GOAWAY is owed.
pub resets_instead : ErrorsHold by_whole (out (rst_stream 3 stream_closed) ∷ plain (frame 0 0 3 (120 ∷ [])) ∷ getting 1 5 begun) → ⊥
unfolding total_size
resets_instead c = let clash : false ≡ true = c.closed in cc

-- no act stood right behind such an entry before
earlier : (behind t : List Entry) → GoawaysComeFirst (behind ++ t) → GoawaysComeFirst t
earlier [] t first = first
earlier (Came noted ∷ behind) t first = earlier behind t first
earlier (Breached breach ∷ behind) t first = earlier behind t first
earlier (Happened event ∷ behind) t first = earlier behind t first
earlier (Sent noted ∷ behind) t first = earlier behind t first
earlier (Did act ∷ behind) t first = earlier behind t first.1

or_true : (b : Bool) → (b || true) ≡ true
or_true true = refl
or_true false = refl

-- the entry that opens the last stream calls for a GOAWAY
last_calls : (t : List Entry) (e : Entry) → is_drained t ≡ false → length (opened t) ≡ 9999 → length (opened (e ∷ t)) ≡ 10000 → last_goaway t e ≡ goaway (highest (e ∷ t)) no_error ∷ []
last_calls t e on before last =
    ap (λ d. if not d && nat_lt (length (opened t)) most_streams && (is_drained (e ∷ t) || length (opened (e ∷ t)) == most_streams) then goaway (highest (e ∷ t)) no_error ∷ [] else []) on
    ∙ ap (λ n. if nat_lt n most_streams && (is_drained (e ∷ t) || length (opened (e ∷ t)) == most_streams) then goaway (highest (e ∷ t)) no_error ∷ [] else []) before
    ∙ ap (λ n. if is_drained (e ∷ t) || n == most_streams then goaway (highest (e ∷ t)) no_error ∷ [] else []) last
    ∙ ap (λ b. if b then goaway (highest (e ∷ t)) no_error ∷ [] else []) (or_true (is_drained (e ∷ t)))

-- It opens the connection of the last stream, or does anything else, before it says GOAWAY: whatever comes behind, that isn't first.
pub acts_before_goaway : (known : Known) (behind t : List Entry) (e : Entry) (act : Act) → is_drained t ≡ false → length (opened t) ≡ 9999 → length (opened (e ∷ t)) ≡ 10000 → ErrorsHold known (behind ++ Did act ∷ e ∷ t) → ⊥
acts_before_goaway known behind t e act on before last c =
    let none : last_goaway t e ≡ [] = (earlier behind (Did act ∷ e ∷ t) c.goaway_first).0 in
    let clash : goaway (highest (e ∷ t)) no_error ∷ [] ≡ [] = sym (last_calls t e on before last) ∙ none in
    cc

-- Behind the GOAWAY it may.
pub acts_behind_goaway : (t : List Entry) (e : Entry) (last : ℕ) (act : Act) → GoawaysComeFirst (e ∷ t) → GoawaysComeFirst (Did act ∷ out (goaway last no_error) ∷ e ∷ t)
acts_behind_goaway t e last act first = (no_goaway (e ∷ t) (out (goaway last no_error)) refl refl, first)

-- It leaves a response unreset whose upstream ended it in a chunk.
pub unreset : ErrorsHold ended_streaming (Did (Close 1) ∷ Happened (UpEnd 1) ∷ in_chunk_streaming) → ⊥
unfolding total_size
unreset c = let clash : 2 ≡ 3 = ap length c.just_owed in omega (arith, clash)

-- It never gives octets back: five octets of DATA came.
pub keeps_octets : WindowsHold by_whole windows.declared_five → ⊥
keeps_octets c = let back = c.gives_back refl in let clash : 65530 ≡ 65535 = ap nat_abs back.shared in omega (arith, clash)

-- It counts DATA without its padding: three of five octets are given back too little.
pub without_padding : WindowsHold by_whole (out (update 0 2) ∷ plain (frame 0 9 1 (2 ∷ 104 ∷ 105 ∷ 0 ∷ 0 ∷ [])) ∷ headed (frame 1 4 1 post_block) post ∷ begun) → ⊥
without_padding c = let back = c.gives_back refl in let clash : 65532 ≡ 65535 = ap nat_abs back.shared in omega (arith, clash)

-- It doesn't give back the octets of a stream that it reset.
pub lost_octets : WindowsHold by_streaming (out (rst_stream 1 stream_closed) ∷ plain (frame 0 0 1 (120 ∷ [])) ∷ got) → ⊥
lost_octets c = let back = c.gives_back refl in let clash : 65534 ≡ 65535 = ap nat_abs back.shared in omega (arith, clash)

-- It ignores a first size that was lowered: the window is seven below zero.
pub past_window : WindowsHold by_whole (out (frame 0 0 1 (codes "klmno")) ∷ windows.lowered) → ⊥
past_window c = let within = c.keeps.0 refl (omega arith) in let clash : pos 5 ≤ℤ negsuc 6 = within.own in omega (arith, clash)

-- It waits for a whole request that it is to pass on as it comes: no connection was given to the stream.
pub waits_for_all : AllStreamed by_streaming windows.declared_five → ⊥
unfolding total_size
waits_for_all c = let given = c refl 1 (post ++ field (codes "content-length") (codes "5") ∷ []) refl refl refl in given.given.is_opened

-- It closes an upstream once the request is sent: nothing is done with.
pub closes_at_once : ProgressHolds by_whole (Did (Close 1) ∷ got) → ⊥
unfolding total_size
closes_at_once c = none c.closes.0.reason
  where
    none : Reason by_whole (Did (Close 1) ∷ got) (record { k = 1; route = 0; stream = 1 }) → ⊥
    none (Over e) = let clash : true ≡ false = e in cc
    none (Complete whole) = nothing_complete false false whole
    none (Answered found e) = let clash : ◌≡◌ {A = Option Cause} None (Some found) = e in cc
    none (ClientClosed e) = let clash : false ≡ true = e in cc

-- It drops a block undecoded whose stream was reset before: no error of the connection came before it.
pub undecoded : (known : Known) (text : List ℕ) → IsTold known text (Came (record { frame = frame 1 5 1 (190 ∷ []); note = Unread }) ∷ out (rst_stream 1 stream_closed) ∷ headed (frame 1 4 1 post_block) post ∷ begun) → ⊥
undecoded known text told = let clash : false ≡ true = told.others_are_read.0 in cc

-- It never advances its own table: a field that stands in the client's table is inserted again.
abbrev pub inserted : Table
inserted = record { fields = field_of (codes "x-a") (codes "1") ∷ []; maximum = 4096 }

stands_there : look_up inserted 62 ≡ Some (field_of (codes "x-a") (codes "1"))
unfolding static_table
stands_there = refl

pub inserted_again : (octets : List ℕ) (next : Table) → IsWritten inserted (64 ∷ octets) (field_of (codes "x-a") (codes "1")) next → ⊥
inserted_again octets next (inl indexed) = let marked : 0 ≡ 1 = indexed.indexed.marked.marked in omega (arith, marked)
inserted_again octets next (inr (inl goes_in)) = goes_in.absent 62 stands_there
inserted_again octets next (inr (inr stays_out)) = stays_out.absent 62 stands_there
