-- Floods: how many resets of active streams and how many untaken octets are borne, and which resets aren't counted.
use Rattle.std.proofs.Common.{◌≡◌, ℕ, zero, suc, ◌+◌, ◌*◌, ◌≤◌, Bool, true, false, not, ◌&&◌, ◌||◌, nat_lt, List, [], ◌∷◌, ◌++◌, length, refl, sym, ap, ◌∙◌, arith}
use Rattle.std.specs.Prelude.{Option, Some, None, nat_le, reverse, if◌then◌else◌}
use Rattle.std.proofs.lemmas.Bool.{ltb-false, le-ltb}
use Rattle.std.proofs.lemmas.List.{length-append}
use Rattle.model.specs.Frames.{Frame, ping_kind, settings_ack, goaway, enhance_your_calm}
use Rattle.model.specs.Logs.Act.{CloseClient}
use Rattle.model.specs.Tapes.{Noted, Entry, sent, is_closed}
use Rattle.model.specs.Tapes.Note.{NoBlock}
use Rattle.model.specs.Tapes.Entry.{Came, Did}
use Rattle.model.specs.Errors.{Fault, row_start, row_too_long, first_of, or_else}
use Rattle.model.specs.Errors.Fault.{Connection}
use Rattle.model.specs.FrameErrors.{fault_if, row_between, row_long_block, row_misplaced, row_payload}
use Rattle.model.specs.Admission.{untaken, is_crowded}
use Rattle.model.specs.Limits.{most_untaken, most_resets}
use Rattle.model.specs.Lifetimes.{is_active, is_exhausted, resets_by_client}
use Rattle.model.specs.ErrorTable.{row_settings, row_shift, row_connection_update, row_idle, row_resets, row_connection_data, rows_behind_block, row_malformed}
use Rattle.model.specs.Setup.{own_window}
use Rattle.model.specs.Known.{Known}
use Rattle.model.specs.Courses.{about, carried, course, fault}
use Rattle.model.specs.ErrorClause.{rst_stream, ping_ack, is_fatal, calls_for_end, controls, owed, ErrorsHold}
use Rattle.model.specs.ProgressClause.{AllStreamed}
use Rattle.model.specs.WindowClause.{GoesBack}
use Rattle.model.specs.FloodClause.{WouldGo, FloodsHold}
use Rattle.model.specs.FloodClause.WouldGo.{Owed, Returned}
use Rattle.model.proofs.OwedSteps.{control_owes_nothing}
use Rattle.model_examples.proofs.RowTapes.{out}

-- ---- resets

-- the reset of a stream
abbrev reset : ℕ → ℕ → Noted
reset id code = record { frame = rst_stream id code; note = NoBlock }

-- Behind a thousand resets of active streams one more is an error of the connection.
pub one_too_many : (t : List Entry) (id code : ℕ) → is_active id t ≡ true → resets_by_client t ≡ 1000 → row_resets t (Came (reset id code)) ≡ Some (Connection enhance_your_calm)
one_too_many t id code active count =
    ap (λ b. fault_if (b && nat_le most_resets (resets_by_client t)) (Connection enhance_your_calm)) active
    ∙ ap (λ n. fault_if (nat_le most_resets n) (Connection enhance_your_calm)) count

-- Behind fewer it is none, and is counted.
pub still_borne : (t : List Entry) (id code : ℕ) → is_active id t ≡ true → resets_by_client t ≡ 999 → (row_resets t (Came (reset id code)) ≡ None) × (resets_by_client (Came (reset id code) ∷ t) ≡ 1000)
still_borne t id code active count = (
  ap (λ b. fault_if (b && nat_le most_resets (resets_by_client t)) (Connection enhance_your_calm)) active
      ∙ ap (λ n. fault_if (nat_le most_resets n) (Connection enhance_your_calm)) count,
  ap (λ b. if b then suc (resets_by_client t) else resets_by_client t) active ∙ ap suc count,
)

-- It counts resets of streams that are over too: however many came, such a one is no error by this row, and isn't counted.
pub counts_closed : (t : List Entry) (id code : ℕ) → is_active id t ≡ false → (row_resets t (Came (reset id code)) ≡ None) × (resets_by_client (Came (reset id code) ∷ t) ≡ resets_by_client t)
counts_closed t id code closed = (
  ap (λ b. fault_if (b && nat_le most_resets (resets_by_client t)) (Connection enhance_your_calm)) closed,
  ap (λ b. if b then suc (resets_by_client t) else resets_by_client t) closed,
)

-- ---- gateways that do wrong with resets

-- the rows before it, and those behind it
abbrev rows_before : List Entry → Entry → List (Option Fault)
rows_before t e =
    row_start t e
    ∷ row_too_long t e
    ∷ row_between t e
    ∷ row_long_block t e
    ∷ row_misplaced t e
    ∷ row_payload t e
    ∷ row_settings t e
    ∷ row_shift t e
    ∷ row_connection_update t e
    ∷ row_idle t e
    ∷ []

abbrev rows_later : ℕ → List Entry → Entry → List (Option Fault)
rows_later own t e = row_connection_data t e ∷ rows_behind_block own t e

-- rows that don't apply are passed over
passed : (rows later : List (Option Fault)) → first_of rows ≡ None → first_of (rows ++ later) ≡ first_of later
passed [] later none = refl
passed (None ∷ rows) later none = passed rows later none
passed (Some found ∷ rows) later none = absurd (let no : Some found ≡ None = none in cc)

left_out : (rows later : List (Option Fault)) → first_of (rows ++ None ∷ later) ≡ first_of (rows ++ later)
left_out [] later = refl
left_out (None ∷ rows) later = left_out rows later
left_out (Some found ∷ rows) later = refl

-- It goes on behind one reset too many: where nothing else is wrong with the frame, the connection is to end.
pub goes_on_behind : (known : Known) (t : List Entry) (id code : ℕ) → is_active id t ≡ true → resets_by_client t ≡ 1000 → first_of (rows_before t (Came (reset id code))) ≡ None → is_closed t ≡ false
    → ErrorsHold known (Came (reset id code) ∷ t) → ⊥
goes_on_behind known t id code active count right on c =
    let e : Entry = Came (reset id code) in
    let malformed : Option Fault = row_malformed (carried (course known (about t e) t)) t e in
    let is : fault known t e ≡ Some (Connection enhance_your_calm) =
    ap (λ (o : Option Fault). or_else o malformed) (passed (rows_before t e) (row_resets t e ∷ rows_later (own_window known.setup) t e) right)
    ∙ ap (λ (o : Option Fault). or_else (first_of (o ∷ rows_later (own_window known.setup) t e)) malformed) (one_too_many t id code active count) in
    let clash : false ≡ true = sym on ∙ c.closed ∙ ap (λ (o : Option Fault). is_fatal o || is_exhausted (e ∷ t)) is in
    cc

-- the fault of an entry by all rows but this one
abbrev other_fault : Known → List Entry → Entry → Option Fault
other_fault known t e = or_else (first_of (rows_before t e ++ rows_later (own_window known.setup) t e)) (row_malformed (carried (course known (about t e) t)) t e)

-- It ends the connection because of a reset of a stream that is over, however many came: where no other row is against it, and not too many octets are
-- untaken, nothing calls for that.
pub closes_for_closed : (known : Known) (t : List Entry) (id code last : ℕ) → is_active id t ≡ false → is_fatal (other_fault known t (Came (reset id code))) ≡ false
    → is_crowded t ≡ false
    → ErrorsHold known (Did CloseClient ∷ out (goaway last enhance_your_calm) ∷ Came (reset id code) ∷ t) → ⊥
closes_for_closed known t id code last closed mild room c =
    let e : Entry = Came (reset id code) in
    let malformed : Option Fault = row_malformed (carried (course known (about t e) t)) t e in
    let is : fault known t e ≡ other_fault known t e =
    ap (λ (o : Option Fault). or_else (first_of (rows_before t e ++ o ∷ rows_later (own_window known.setup) t e)) malformed) (counts_closed t id code closed).0
    ∙ ap (λ (o : Option Fault). or_else o malformed) (left_out (rows_before t e) (rows_later (own_window known.setup) t e)) in
    let on : is_fatal (fault known t e) ≡ false = ap is_fatal is ∙ mild in
    let clash : true ≡ false = sym (c.calm.0.in_place (ap not on)).crowded ∙ room in
    cc

-- ---- octets that aren't taken

-- behind the beginning of a connection, so many answers to PING
abbrev ping : Entry
ping = Came (record { frame = record { kind = ping_kind; flags = 0; id = 0; payload = 1 ∷ 2 ∷ 3 ∷ 4 ∷ 5 ∷ 6 ∷ 7 ∷ 8 ∷ [] }; note = NoBlock })

abbrev answered : List Entry → ℕ → List Entry
answered t zero = t
answered t (suc n) = out (ping_ack (1 ∷ 2 ∷ 3 ∷ 4 ∷ 5 ∷ 6 ∷ 7 ∷ 8 ∷ [])) ∷ ping ∷ answered t n

-- the octets that they leave
left : (t : List Entry) (n : ℕ) → untaken (answered t n) ≡ untaken t + 17 * n
left t zero = omega arith
left t (suc n) = let before = left t n in omega (arith, before)

-- The gateway's settings and its acknowledgement are thirty octets; so 61,680 answers go out, and no more.
pub last_answer : (t : List Entry) (n : ℕ) → untaken t ≡ 30 → n ≤ 61679 → is_crowded (answered t n) ≡ false
last_answer t n start few = le-ltb most_untaken (untaken (answered t n)) (let all = left t n in omega (arith, all, start, few))

pub no_answer : (t : List Entry) (n : ℕ) → untaken t ≡ 30 → 61680 ≤ n → is_crowded (answered t n) ≡ true
no_answer t n start many = above (nat_lt most_untaken (untaken (answered t n))) refl
  where
    above : (b : Bool) → nat_lt most_untaken (untaken (answered t n)) ≡ b → b ≡ true
    above true is = refl
    above false is = let low = ltb-false most_untaken (untaken (answered t n)) is in let all = left t n in absurd (omega (arith, all, start, low, many))

-- ---- gateways that do wrong with octets that aren't taken

-- It answers a PING behind too many octets.
pub answers_behind : (known : Known) (t : List Entry) (octets : List ℕ) → is_crowded t ≡ true → ErrorsHold known (out (ping_ack octets) ∷ t) → ⊥
answers_behind known t octets crowded c = let clash : false ≡ true = c.calm.0.uncrowded crowded in cc

-- It acknowledges settings there.
pub acknowledges_behind : (known : Known) (t : List Entry) → is_crowded t ≡ true → ErrorsHold known (out settings_ack ∷ t) → ⊥
acknowledges_behind known t crowded c = let clash : false ≡ true = c.calm.0.uncrowded crowded in cc

-- It resets a stream there.
pub resets_behind : (known : Known) (t : List Entry) (id code : ℕ) → is_crowded t ≡ true → ErrorsHold known (out (rst_stream id code) ∷ t) → ⊥
resets_behind known t id code crowded c = let clash : false ≡ true = c.calm.0.uncrowded crowded in cc

-- It ends the connection with another code there.
pub leaves_otherwise : (known : Known) (t : List Entry) (last : ℕ) → is_crowded t ≡ true → ErrorsHold known (out (goaway last 1) ∷ t) → ⊥
leaves_otherwise known t last crowded c = let clash : false ≡ true = c.calm.0.uncrowded crowded in cc

-- It asks the client to be calm where nothing calls for that: as one that counts resets of closed streams does.
pub calms_early : (known : Known) (t : List Entry) (last : ℕ) → is_crowded t ≡ false → calls_for_end known t ≡ false → ErrorsHold known (out (goaway last enhance_your_calm) ∷ t) → ⊥
calms_early known t last room on c =
    let place = c.calm.0.in_place (ap not on) in
    let clash : true ≡ false = sym place.crowded ∙ room in cc

-- It does so while too many octets are untaken, but nothing is owed and no octet goes back.
pub calms_for_nothing : (known : Known) (t : List Entry) (last : ℕ) → calls_for_end known t ≡ false → owed known t ≡ controls (sent t) → (GoesBack (own_window known.setup) known.setup.passing t → ⊥) → FloodsHold known (out (goaway last enhance_your_calm) ∷ t) → ⊥
calms_for_nothing known t last on none kept c = by (c.0 (ap not on))
  where
    longer : (newer : List Frame) (next : Frame) (frames : List Frame) → frames ≡ newer ++ next ∷ frames → ⊥
    longer newer next frames same = let more = ap length same ∙ length-append newer (next ∷ frames) in omega (arith, more)

    by : WouldGo known t → ⊥
    by (Owed newer next is) = longer newer next (controls (sent t)) (sym none ∙ is)
    by (Returned back) = kept back.goes_back

-- It resets a stream for which nothing calls, behind all that was owed, and leaves then because octets go back.
pub resets_another_first : (known : Known) (t : List Entry) (id code last : ℕ) → calls_for_end known t ≡ false → owed known t ≡ controls (sent t) → FloodsHold known (out (goaway last enhance_your_calm) ∷ out (rst_stream id code) ∷ t) → ⊥
resets_another_first known t id code last on none c = by (c.0 (ap not on))
  where
    longer : (newer frames : List Frame) (next : Frame) → frames ≡ newer ++ next ∷ frames → ⊥
    longer newer frames next same = let more = ap length same ∙ length-append newer (next ∷ frames) in omega (arith, more)

    twice : (newer frames : List Frame) (next reset_frame : Frame) → frames ≡ newer ++ next ∷ reset_frame ∷ frames → ⊥
    twice newer frames next reset_frame same = let more = ap length same ∙ length-append newer (next ∷ reset_frame ∷ frames) in omega (arith, more)

    -- the reset calls for nothing more
    same_owed : owed known (out (rst_stream id code) ∷ t) ≡ controls (sent t)
    same_owed = ap (λ (fs : List Frame). reverse fs ++ owed known t) (control_owes_nothing known t (reset id code) refl) ∙ none

    by : WouldGo known (out (rst_stream id code) ∷ t) → ⊥
    by (Owed newer next is) = twice newer (controls (sent t)) next (rst_stream id code) (sym same_owed ∙ is)
    by (Returned back) = longer back.unpaid (controls (sent t)) (rst_stream id code) (sym same_owed ∙ back.just_owed)

-- It leaves because octets go back that it would keep, had it passed them on before: what came of a body isn't at the upstream yet.
pub leaves_before_passing_on : (known : Known) (t : List Entry) (last : ℕ) → calls_for_end known t ≡ false → owed known t ≡ controls (sent t) → (AllStreamed known t → ⊥) → FloodsHold known (out (goaway last enhance_your_calm) ∷ t) → ⊥
leaves_before_passing_on known t last on none unsent c = by (c.0 (ap not on))
  where
    longer : (newer frames : List Frame) (next : Frame) → frames ≡ newer ++ next ∷ frames → ⊥
    longer newer frames next same = let more = ap length same ∙ length-append newer (next ∷ frames) in omega (arith, more)

    by : WouldGo known t → ⊥
    by (Owed newer next is) = longer newer (controls (sent t)) next (sym none ∙ is)
    by (Returned back) = unsent back.streamed
