-- The operator asks for the end of the connection: a GOAWAY names the highest stream, later streams are discarded, and the client is
-- closed once no stream is active (RFC 9113, section 6.8).
use Rattle.std.proofs.Common.{◌≡◌, ℕ, Bool, true, false, not, ◌&&◌, nat_lt, List, [], ◌∷◌, ◌++◌, length, refl, ap, ◌∙◌, arith}
use Rattle.std.specs.Prelude.{Some, None, codes, reverse, sum_by}
use Rattle.model.specs.Tables.{total_size}
use Rattle.model.specs.Messages.Item.{Block, Content}
use Rattle.model.specs.Frames.{Frame, settings_frame, goaway, no_error}
use Rattle.model.specs.Logs.Event.{Up, Drain}
use Rattle.model.specs.Logs.Act.{Open, Close, CloseClient}
use Rattle.model.specs.Tapes.{Entry, sent}
use Rattle.model.specs.Tapes.Entry.{Happened, Did}
use Rattle.model.specs.Errors.Fault.{Discarded}
use Rattle.model.specs.Limits.{most_streams}
use Rattle.model.specs.Lifetimes.{opened, is_active, is_drained, is_full, opens_last}
use Rattle.model.specs.Admission.{is_admitted, is_crowded}
use Rattle.model.specs.Known.{Known}
use Rattle.model.specs.Courses.{items, fault}
use Rattle.model.specs.ErrorClause.{ErrorsHold, GoawaysComeFirst, owed_by, owed, controls, must_end}
use Rattle.model.specs.RequestClause.{IsServed}
use Rattle.model.specs.ProgressClause.{AreClosed, IsDoneWith}
use Rattle.model.specs.ProgressClause.Reason.{ClientClosed}
use Rattle.model.specs.Setup.Passing.{Whole}
use Rattle.model.specs.FloodClause.{WouldGo}
use Rattle.model.specs.FloodClause.WouldGo.{Owed}
use Rattle.model_examples.proofs.RowTapes.{by_whole, frame, plain, headed, out, out_headed, field, reset, get, get_block, next_get_block, post, post_block, begun, got, answer_text, ok_two, ok_block}
use Rattle.model_examples.proofs.RequestRefusals.{without_items}
use Rattle.model_examples.proofs.KeepExamples.{by_keeping, exchange, first_answered, kept_on}

-- ---- while a stream is active

abbrev pub drained : List Entry
drained = out (goaway 1 no_error) ∷ Happened Drain ∷ got

pub names_the_last : owed_by by_whole got (Happened Drain) ≡ goaway 1 no_error ∷ []
unfolding total_size
names_the_last = refl

-- the connection goes on,
pub goes_on : must_end by_whole drained ≡ false
unfolding total_size
goes_on = refl

-- but no stream is opened any more: its head is discarded,
pub later_discarded : fault by_whole drained (headed (frame 1 5 3 get_block) get) ≡ Some Discarded
unfolding total_size
later_discarded = refl

pub none_opened : opened (headed (frame 1 5 3 get_block) get ∷ drained) ≡ 1 ∷ []
unfolding total_size
none_opened = refl

-- and so is its DATA
pub data_discarded : fault by_whole drained (plain (frame 0 1 3 (codes "x"))) ≡ Some Discarded
unfolding total_size
data_discarded = refl

-- another such event may come, and calls for nothing
pub comes_again : is_admitted drained Drain ≡ true
comes_again = refl

pub named_once : owed_by by_whole drained (Happened Drain) ≡ []
unfolding total_size
named_once = refl

-- with the end of the response the connection is to end
pub ends_behind_the_last : must_end by_whole (out (frame 0 1 1 (codes "hi")) ∷ out_headed (frame 1 4 1 ok_block) ok_two ∷ Did (Close 1) ∷ Happened (Up 1 answer_text) ∷ drained) ≡ true
unfolding total_size
ends_behind_the_last = refl

-- but not before: half of it went out
pub goes_on_amid_the_last : must_end by_whole (out (frame 0 0 1 (codes "h")) ∷ out_headed (frame 1 4 1 ok_block) ok_two ∷ Did (Close 1) ∷ Happened (Up 1 answer_text) ∷ drained) ≡ false
unfolding total_size
goes_on_amid_the_last = refl

-- ---- amid a header block, which is whole behind it: its stream isn't opened

abbrev pub amid_block : List Entry
amid_block = out (goaway 1 no_error) ∷ Happened Drain ∷ plain (frame 1 1 3 (130 ∷ 134 ∷ [])) ∷ got

pub block_discarded : fault by_whole amid_block (headed (frame 9 4 3 (132 ∷ 190 ∷ [])) get) ≡ Some Discarded
unfolding total_size
block_discarded = refl

pub block_opens_none : opened (headed (frame 9 4 3 (132 ∷ 190 ∷ [])) get ∷ amid_block) ≡ 1 ∷ []
unfolding total_size
block_opens_none = refl

-- Where no stream is active the connection is to end at once, and the rest of the block isn't waited for.
pub ends_amid_a_block : must_end by_whole (out (goaway 0 no_error) ∷ Happened Drain ∷ plain (frame 1 1 1 (130 ∷ 134 ∷ [])) ∷ begun) ≡ true
unfolding total_size
ends_amid_a_block = refl

-- ---- while an upload isn't whole: what comes of it is taken

abbrev pub amid_upload : List Entry
amid_upload = out (goaway 1 no_error) ∷ Happened Drain ∷ headed (frame 1 4 1 post_block) post ∷ begun

pub upload_goes_on : must_end by_whole amid_upload ≡ false
unfolding total_size
upload_goes_on = refl

pub upload_is_taken : fault by_whole amid_upload (plain (frame 0 1 1 (codes "hi"))) ≡ None
unfolding total_size
upload_is_taken = refl

pub upload_is_read : items by_whole 1 (plain (frame 0 1 1 (codes "hi")) ∷ amid_upload) ≡ Block post false ∷ Content (codes "hi") true ∷ []
unfolding total_size
upload_is_read = refl

-- ---- amid the block of its trailers: the stream was opened, and they are its end

abbrev pub amid_trailers : List Entry
amid_trailers = out (goaway 1 no_error) ∷ Happened Drain ∷ plain (frame 1 1 1 (0 ∷ 3 ∷ codes "x-a")) ∷ headed (frame 1 4 1 post_block) post ∷ begun

pub trailers_are_taken : fault by_whole amid_trailers (headed (frame 9 4 1 (1 ∷ codes "1")) (field (codes "x-a") (codes "1") ∷ [])) ≡ None
unfolding total_size
trailers_are_taken = refl

pub trailers_are_read : items by_whole 1 (headed (frame 9 4 1 (1 ∷ codes "1")) (field (codes "x-a") (codes "1") ∷ []) ∷ amid_trailers) ≡ Block post false ∷ Block (field (codes "x-a") (codes "1") ∷ []) true ∷ []
unfolding total_size
trailers_are_read = refl

-- ---- while a connection is idle: it is closed with the client, and not before

-- no stream is active any more
pub ends_with_one_idle : must_end by_keeping (out (goaway 1 no_error) ∷ Happened Drain ∷ first_answered) ≡ true
unfolding total_size
ends_with_one_idle = refl

-- one is, whose body goes on
abbrev pub idle_beside : List Entry
idle_beside = out (goaway 3 no_error) ∷ Happened Drain ∷ headed (frame 1 4 3 (131 ∷ 134 ∷ 132 ∷ 190 ∷ [])) post ∷ first_answered

pub goes_on_with_one_idle : must_end by_keeping idle_beside ≡ false
unfolding total_size
goes_on_with_one_idle = refl

-- ---- behind the 10,000th stream: the client was told then

not_last : (drained low full : Bool) → low ≡ false → (not drained && low && full) ≡ false
not_last true low full none = refl
not_last false low full none = ap (λ b. b && full) none

pub told_before : (t : List Entry) → length (opened t) ≡ 10000 → opens_last t (Happened Drain) ≡ false
told_before t all = not_last (is_drained t) (nat_lt (length (opened t)) most_streams) (is_full (Happened Drain ∷ t)) (ap (λ n. nat_lt n most_streams) all)

-- ---- while more than 1,048,576 octets are untaken

-- the GOAWAY can't go: nothing but one that asks the client to be calm does
pub tells_behind : (known : Known) (t : List Entry) (last : ℕ) → is_crowded t ≡ true → ErrorsHold known (out (goaway last no_error) ∷ Happened Drain ∷ t) → ⊥
tells_behind known t last crowded c = let clash : false ≡ true = c.calm.0.uncrowded crowded in cc

-- which stands in its place then
pub calms_instead : (known : Known) (t : List Entry) (last : ℕ) → owed known t ≡ controls (sent t) → owed_by known t (Happened Drain) ≡ goaway last no_error ∷ [] → WouldGo known (Happened Drain ∷ t)
calms_instead known t last none is = Owed [] (goaway last no_error) (ap (λ (fs : List Frame). reverse fs ++ owed known t) is ∙ ap (λ (fs : List Frame). goaway last no_error ∷ fs) none)

-- ---- where none is

pub names_none : owed_by by_whole begun (Happened Drain) ≡ goaway 0 no_error ∷ []
unfolding total_size
names_none = refl

pub ends_at_once : must_end by_whole (Happened Drain ∷ begun) ≡ true
unfolding total_size
ends_at_once = refl

-- before the client's preface the same
pub before_the_preface : owed_by by_whole (out (settings_frame 0) ∷ []) (Happened Drain) ≡ goaway 0 no_error ∷ []
before_the_preface = refl

pub ends_before_the_preface : must_end by_whole (Happened Drain ∷ out (settings_frame 0) ∷ []) ≡ true
ends_before_the_preface = refl

-- ---- gateways that go wrong

-- It tells the client nothing.
pub tells_nothing : ErrorsHold by_whole (Happened Drain ∷ begun) → ⊥
unfolding total_size
tells_nothing h = let clash : 2 ≡ 3 = ap length h.just_owed in omega (arith, clash)

-- It leaves the connection open, though no stream is active.
pub stays_open : ErrorsHold by_whole (out (goaway 0 no_error) ∷ Happened Drain ∷ begun) → ⊥
unfolding total_size
stays_open h = let clash : false ≡ true = h.closed in cc

-- It tells the client twice.
pub tells_twice : ErrorsHold by_whole (out (goaway 1 no_error) ∷ Happened Drain ∷ drained) → ⊥
unfolding total_size
tells_twice h = let clash : 4 ≡ 3 = ap length h.just_owed in omega (arith, clash)

-- It closes before what was opened is answered.
pub closes_early : ErrorsHold by_whole (Did CloseClient ∷ drained) → ⊥
unfolding total_size
closes_early h = let clash : true ≡ false = h.closed in cc

-- It names another stream than the highest, with which a client might take its request for one that is answered.
pub names_another : ErrorsHold by_whole (out (goaway 3 no_error) ∷ Happened Drain ∷ got) → ⊥
unfolding total_size
names_another h = let clash : 176 ≡ 174 = ap (λ (fs : List Frame). sum_by (λ (f : Frame). sum_by (λ n. n) f.payload) fs) h.just_owed in omega (arith, clash)

-- It does something else before it tells the client.
pub acts_first : GoawaysComeFirst (Did (Close 1) ∷ Happened Drain ∷ got) → ⊥
unfolding total_size
acts_first h = let clash : 1 ≡ 0 = ap length h.0 in omega (arith, clash)

-- It takes another stream: of one that isn't opened nothing is kept, so a connection for it has no head,
abbrev pub another : List Entry
another = headed (frame 1 5 3 next_get_block) get ∷ drained

pub none_active : is_active 3 another ≡ false
unfolding total_size
none_active = refl

pub takes_another : IsServed by_whole (Did (Open 2 0) ∷ another) (record { k = 2; route = 0; stream = 3 }) → ⊥
unfolding total_size
takes_another = without_items by_whole (Did (Open 2 0) ∷ another) (record { k = 2; route = 0; stream = 3 }) refl

-- nor is it answered,
pub answers_another : ErrorsHold by_whole (out_headed (frame 1 5 3 (137 ∷ [])) (field (codes ":status") (codes "204") ∷ []) ∷ another) → ⊥
unfolding total_size
answers_another h = let clash : false ≡ true = h.rightly_sent.0 in cc

-- nor refused.
pub refuses_another : ErrorsHold by_whole (out (reset 3 7) ∷ another) → ⊥
unfolding total_size
refuses_another h = let clash : 4 ≡ 3 = ap length h.just_owed in omega (arith, clash)

-- It closes a connection that is idle before what was opened is answered,
pub closes_idle_early : IsDoneWith by_keeping (Did (Close 1) ∷ idle_beside) 1 idle_beside → ⊥
unfolding total_size
closes_idle_early c =
    let many = c.not_kept (kept_on Whole (Did (Close 1) ∷ idle_beside) (exchange 1 1) refl refl refl refl refl) in
    let clash : 0 ≡ 1 = many.is_new in
    omega (arith, clash)

-- or leaves it open behind the end.
pub leaves_idle_open : AreClosed by_keeping (Did CloseClient ∷ out (goaway 1 no_error) ∷ Happened Drain ∷ first_answered) → ⊥
leaves_idle_open h =
    let kept = h 1 refl (ClientClosed refl) in
    let clash : true ≡ false = kept.goes_on in
    cc
