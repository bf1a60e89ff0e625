-- A whole header block goes out by the rule, frame after frame, and octets in one frame.
use Rattle.std.proofs.Common.{◌≡◌, ℕ, ◌+◌, ◌<◌, ◌≤◌, Bool, true, false, not, ◌||◌, ◌==◌, if◌then◌else◌, List, [], ◌∷◌, ◌++◌, length, Option, Some, None, refl, sym, ◌∙◌, ap, subst, pos, arith, add_assoc, add-zero}
use Rattle.std.specs.Prelude.{◌-ℤ◌}
use Rattle.std.proofs.lemmas.Bool.{ne_eqb}
use Rattle.model.specs.Octets.{is_empty}
use Rattle.model.specs.Messages.{Field, Item}
use Rattle.model.specs.Messages.Item.{Block, Content}
use Rattle.model.specs.Frames.{Frame, Fits, spell, ends_stream, data_kind}
use Rattle.model.specs.Limits.{high_water}
use Rattle.model.specs.Logs.{Output}
use Rattle.model.specs.Logs.Output.{ToClient}
use Rattle.model.specs.Setup.{Setup}
use Rattle.model.specs.Tables.{Table}
use Rattle.model.specs.Tapes.{Noted, put}
use Rattle.model.specs.Tapes.Entry.{Sent}
use Rattle.model.specs.Tapes.Note.{Fields}
use Rattle.model.specs.Openings.{Opened}
use Rattle.model.specs.Decoding.{Partial, joined}
use Rattle.model.specs.Streams.{frame_items}
use Rattle.model.specs.Courses.{is_final}
use Rattle.theory_errors.specs.Summary.{Stream as Conducted}
use Rattle.theory_errors.specs.Judging.{completed_in}
use Rattle.theory_errors.specs.After.{begun_after}
use Rattle.theory_errors.specs.Owing.{is_rightly_sent_in}
use Rattle.theory_errors.specs.Rows.{find}
use Rattle.theory_errors.specs.Tidy.{AreKept}
use Rattle.theory_errors.specs.Quiet.{noted_of}
use Rattle.theory_errors.proofs.Goaways.{passing_calmless}
use Rattle.theory_responses.specs.Outbox.{Part, IsNext, IsItemOf}
use Rattle.theory_responses.specs.Outbox.Part.{Octets}
use Rattle.theory_responses.specs.State.{Kept}
use Rattle.theory_responses.specs.State as theory_responses
use Rattle.theory_receive_windows.specs.State as theory_receive_windows
use Rattle.theory_header_tables.specs.State as theory_header_tables
use Rattle.theory_header_tables.specs.Rule.{MayGive, IsGiven}
use Rattle.header_blocks.specs.Encodes.{IsWrittenBy}
use Rattle.streams.specs.Asked.{is_active}
use Rattle.streams.specs.Sending.{head_sent, data_sent}
use Rattle.connection_state.specs.Sending.{AreWithin, LeadsTo, early_reset}
use Rattle.connection_state.proofs.SendingBooks.{block_leads, data_leads}
use Rattle.effects.specs.Sent.{data_frame, put_frames}
use Rattle.effects.specs.Blocks.{IsFragment, Complete}
use Rattle.effects.proofs.Going as sending
use Rattle.theory.specs.Moves.{Move}
use Rattle.theory.specs.State.{State}
use Rattle.theory.specs.Steps.{told_by}
use Rattle.refinement.specs.View.{View}
use Rattle.refinement.specs.Passing.{PartGoes}
use Rattle.refinement.proofs.Staying.{rows_kept}
use Rattle.event_handlers.specs.flushing.Changes.{part_gone, unless_active, octets_of_frames}
use Rattle.event_handlers.proofs.flushing.Placed.{book_at, state_at, At, back_if}
use Rattle.event_handlers.proofs.flushing.Paths.{Path, path_then}
use Rattle.event_handlers.proofs.flushing.Sending.{MaySend, may_pass, joins, goes_on_with, fragment_rightly, fragment_path, whole_path}

-- ---- a header block

-- a fragment with which the block isn't complete leaves it begun
still_begun : (id : ℕ) (begun : Option Partial) (frame : Frame) → IsFragment id begun frame → completed_in begun frame ≡ None → begun_after begun frame ≡ None → ⊥
still_begun id begun frame is goes none =
    let more = joins id begun frame is in
    let on = goes_on_with begun frame more.0 more.1 goes in
    let clash : ◌≡◌ {A = Option Partial} (Some more.0) None = sym (ap (λ b. if b then None else joined begun frame) on ∙ more.1) ∙ none in cc

module _ (setup : Setup) (given : List Opened) (rest : theory_header_tables.State) (windows : theory_receive_windows.Kept) (block : Partial) (fields : List Field) (table : Table) (part : Part) (kept : Kept) where
  abbrev item : Item
  item = Block fields block.ends

  -- what is kept of the stream then
  abbrev head_kept : View → Conducted
  head_kept u = head_sent (is_final item) block.ends (find u.inbound.rows block.id)

  -- what is kept of all
  abbrev behind_block : ℕ → View → View
  behind_block count u = part_gone block.id part (head_kept u) u.inbound.window (record u.encoding { table = table; limits = None }) count u

  -- what waited of its stream goes back where that is over
  abbrev behind_windows : ℕ → View → theory_receive_windows.Kept
  behind_windows count u = back_if (not (is_active (behind_block count u).inbound.rows block.id)) block.id u windows

  abbrev reset_then : View → List Frame
  reset_then u = early_reset (book_at u None given) block.id block.ends

  -- what is asked of the block and of its part
  pub record IsBlockOf (u : View) : Type 0 where
    pub found : theory_responses.find block.id u.offers.kept ≡ Some kept
    pub next : IsNext kept.box part
    pub is : IsItemOf item part
    pub written : IsWrittenBy u.encoding fields table block.fragments

  module _ (run : List Move) (u : View) (begun : Option Partial) (at : At setup run u [] begun given rest windows) (may : MaySend u block.id) (of : IsBlockOf u) (in_time : begun ≡ None → u.untaken < high_water) (last : Frame)
      (is : IsFragment block.id begun last) (completes : completed_in begun last ≡ Some block) (on_stream : block.id ≡ last.id) where
    abbrev noted : Noted
    noted = record { frame = last; note = Fields fields }

    abbrev s : State
    s = state_at u [] begun given rest windows

    rows : AreKept u.inbound.rows
    rows = rows_kept setup run s at.stands

    may_here : MaySend u last.id
    may_here = subst (MaySend u) on_stream may

    is_here : IsFragment last.id begun last
    is_here = subst (λ n. IsFragment n begun last) on_stream is

    rightly : is_rightly_sent_in (told_by s) last ≡ true
    rightly = fragment_rightly setup run u begun given rest windows at last may_here is_here in_time

    gives : MayGive s.tables noted begun table
    gives = record { together = is.together; is_given = subst (λ (b : Option Partial). IsGiven b u.encoding (Fields fields) table) (sym completes) (record { fields = fields; is_noted = refl; encodes = of.written }) }

    no_octets : {A : Type 0} → last.kind ≡ data_kind → A
    no_octets kind = absurd (let clash : true ≡ false = sym (ap (λ n. n == data_kind) kind) ∙ is.no_data in cc)

    goes : PartGoes s noted item part table
    goes = record {
      may = may_pass setup run u begun given rest windows at noted table may_here (is.passing (Fields fields)) is.no_update rightly gives;
      goes = record {
        kept = kept;
        found = ap (λ n. theory_responses.find n u.offers.kept) (sym on_stream) ∙ of.found;
        not_cut = may.none_cut block.id kept of.found;
        next = of.next;
        is = of.is;
        turn = may_here.turn;
        own = λ kind some. no_octets kind;
        shared = λ kind some. no_octets kind;
      };
      brings = ap (λ (b : Option Partial). frame_items b noted) completes;
    }

    -- what it leads to, which isn't the end
    leads : LeadsTo setup false (book_at u begun given) (Sent noted) (book_at (part_gone last.id part (head_sent (is_final item) block.ends (find u.inbound.rows last.id)) u.inbound.window (record u.encoding { table = table; limits = None }) (length (spell last)) u) None given) (early_reset (book_at u None given) last.id block.ends)
    leads =
        subst (λ calms. LeadsTo setup false (book_at u begun given) (Sent noted) (record (book_at (part_gone last.id part (head_sent (is_final item) block.ends (find u.inbound.rows last.id)) u.inbound.window (record u.encoding { table = table; limits = None }) (length (spell last)) u) None given) { ends = calms || false }) (early_reset (book_at u None given) last.id block.ends))
        (passing_calmless noted (is.passing (Fields fields)))
        (block_leads setup (book_at u begun given) noted block fields rows completes refl)

    -- The last frame of the block goes.
    last_path : (outputs : List Output) → Path setup run u [] begun outputs (unless_active block.id (behind_block (length (spell last)) u)) (reset_then u) None (put outputs (ToClient (spell last))) given rest windows (behind_windows (length (spell last)) u)
    last_path outputs =
        subst (λ n. Path setup run u [] begun outputs (unless_active n (part_gone n part (head_sent (is_final item) block.ends (find u.inbound.rows n)) u.inbound.window (record u.encoding { table = table; limits = None }) (length (spell last)) u)) (early_reset (book_at u None given) n block.ends) None (put outputs (ToClient (spell last))) given rest windows (back_if (not (is_active (part_gone n part (head_sent (is_final item) block.ends (find u.inbound.rows n)) u.inbound.window (record u.encoding { table = table; limits = None }) (length (spell last)) u).inbound.rows n)) n u windows)) (sym on_stream)
        (whole_path setup run u begun given rest windows at noted is.no_update is.fits item part table (head_sent (is_final item) block.ends (find u.inbound.rows last.id)) u.inbound.window (record u.encoding { table = table; limits = None })
        (early_reset (book_at u None given) last.id block.ends) may_here.active refl refl leads
        (ap (λ (b : Option Partial). theory_header_tables.encoding_after b table u.encoding) completes) goes outputs)

  -- All its frames go, and behind the last one the part is complete.
  pub block_path : (frames : List Frame) (run : List Move) (u : View) (begun : Option Partial) → At setup run u [] begun given rest windows → MaySend u block.id → IsBlockOf u → (begun ≡ None → u.untaken < high_water) → Complete block begun frames → (outputs : List Output)
      → Path setup run u [] begun outputs (unless_active block.id (behind_block (octets_of_frames frames) u)) (reset_then u) None (put_frames outputs frames) given rest windows (behind_windows (octets_of_frames frames) u)
  block_path [] run u begun at may of in_time complete outputs = absurd complete
  block_path (last ∷ []) run u begun at may of in_time complete outputs =
      subst (λ n. Path setup run u [] begun outputs (unless_active block.id (behind_block n u)) (reset_then u) None (put outputs (ToClient (spell last))) given rest windows (behind_windows n u)) (sym (add-zero (length (spell last))))
      (last_path run u begun at may of in_time last complete.0 complete.1 (sym complete.0.on_stream) outputs)
  block_path (frame ∷ next ∷ frames) run u begun at may of in_time complete outputs =
      let is = complete.0 in
      let here : IsFragment frame.id begun frame = subst (λ n. IsFragment n begun frame) (sym is.on_stream) is in
      let may_here : MaySend u frame.id = subst (MaySend u) (sym is.on_stream) may in
      let first = fragment_path setup run u begun given rest windows at frame may_here here in_time complete.1 outputs in
      let v : View = record u { untaken = u.untaken + length (spell frame) } in
      let more = block_path (next ∷ frames) (first.moves ++ run) v (begun_after begun frame) first.at
      (record { none_cut = may.none_cut; turn = may.turn; active = may.active; unended = may.unended; small = may.small })
      (record { found = of.found; next = of.next; is = of.is; written = of.written })
      (λ none. absurd (still_begun block.id begun frame is complete.1 none)) complete.2 (put outputs (ToClient (spell frame))) in
      let sum : (u.untaken + length (spell frame)) + octets_of_frames (next ∷ frames) ≡ u.untaken + (length (spell frame) + octets_of_frames (next ∷ frames)) = add_assoc u.untaken (length (spell frame)) (octets_of_frames (next ∷ frames)) in
      path_then setup given rest windows windows (behind_windows (octets_of_frames (frame ∷ next ∷ frames)) u) run u v (unless_active block.id (behind_block (octets_of_frames (frame ∷ next ∷ frames)) u)) [] [] (reset_then u) begun (begun_after begun frame) None outputs (put outputs (ToClient (spell frame))) (put_frames outputs (frame ∷ next ∷ frames)) first
      (subst (λ n. Path setup (first.moves ++ run) v [] (begun_after begun frame) (put outputs (ToClient (spell frame))) (unless_active block.id (record (behind_block 0 u) { untaken = n })) (reset_then u) None (put_frames outputs (frame ∷ next ∷ frames)) given rest windows (behind_windows 0 u)) sum more)

-- ---- octets of a body

module _ (setup : Setup) (given : List Opened) (rest : theory_header_tables.State) (windows : theory_receive_windows.Kept) (run : List Move) (u : View) (at : At setup run u [] None given rest windows) (id : ℕ) (may : MaySend u id) (in_time : u.untaken < high_water)
    (octets : List ℕ) (ends : Bool) (kept : Kept) (found : theory_responses.find id u.offers.kept ≡ Some kept) (next : IsNext kept.box (Octets octets ends)) (some : (not (is_empty octets) || ends) ≡ true) (few : length octets ≤ 16384) (within : AreWithin u.inbound id (length octets)) where
  abbrev frame : Frame
  frame = data_frame id ends octets

  abbrev data_noted : Noted
  data_noted = noted_of frame

  abbrev before : State
  before = state_at u [] None given rest windows

  abbrev data_kept : Bool → Conducted
  data_kept b = data_sent (length octets) b (find u.inbound.rows id)

  abbrev behind_octets : Bool → View
  behind_octets b = part_gone id (Octets octets ends) (data_kept b) (u.inbound.window -ℤ pos (length octets)) u.encoding (length (spell frame)) u

  positive : (n : ℕ) → 0 < n → (n == 0) ≡ false
  positive n lt = ne_eqb n 0 (λ same. omega (arith, same, lt))

  data_fits : Fits frame
  data_fits = record { kind = omega arith; flags = low ends; id = may.small; payload = few }
    where
      low : (b : Bool) → (if b then 1 else 0) < 256
      low true = omega arith
      low false = omega arith

  data_goes : PartGoes before data_noted (Content octets ends) (Octets octets ends) u.encoding.table
  data_goes = record {
    may = may_pass setup run u None given rest windows at data_noted u.encoding.table may refl refl (sending.data_goes (told_by before) id octets ends may.active may.unended some in_time) (record { together = refl; is_given = refl });
    goes = record {
      kept = kept;
      found = found;
      not_cut = may.none_cut id kept found;
      next = next;
      is = (refl, refl);
      turn = may.turn;
      own = λ kind lt. within.stream (positive (length octets) lt);
      shared = λ kind lt. within.connection (positive (length octets) lt);
    };
    brings = ap (λ (xs : List ℕ). Content xs (ends_stream frame) ∷ []) (sending.data_content id octets ends) ∙ ap (λ b. Content octets b ∷ []) (sending.data_ends id octets ends);
  }

  data_rows : AreKept u.inbound.rows
  data_rows = rows_kept setup run before at.stands

  -- The octets go in one frame.
  pub data_path : (outputs : List Output) → Path setup run u [] None outputs (unless_active id (behind_octets ends)) (early_reset (book_at u None given) id ends) None (put outputs (ToClient (spell frame))) given rest windows (back_if (not (is_active (behind_octets ends).inbound.rows id)) id u windows)
  data_path outputs =
      subst (λ b. Path setup run u [] None outputs (unless_active id (behind_octets b)) (early_reset (book_at u None given) id b) None (put outputs (ToClient (spell frame))) given rest windows (back_if (not (is_active (behind_octets b).inbound.rows id)) id u windows)) (sending.data_ends id octets ends)
      (whole_path setup run u None given rest windows at data_noted refl data_fits (Content octets ends) (Octets octets ends) u.encoding.table (data_kept (ends_stream frame)) (u.inbound.window -ℤ pos (length octets)) u.encoding
      (early_reset (book_at u None given) id (ends_stream frame)) may.active refl refl (data_leads setup (book_at u None given) data_noted data_rows refl refl) refl data_goes outputs)
