-- What is done by the judgement's answer is right of the frame.
use Rattle.std.proofs.Common.{◌≡◌, ℕ, ◌<◌, ◌≤◌, Bool, true, false, not, ◌&&◌, ◌||◌, ◌==◌, if◌then◌else◌, List, [], ◌∷◌, ◌++◌, length, Option, Some, None, refl, sym, ◌∙◌, ap, subst, arith, inl}
use Rattle.std.proofs.lemmas.Bool.{and_parts, eqb-true}
use Rattle.std.specs.Prelude.{is_none, is_some, option_map}
use Rattle.model.specs.Frames.{Frame, Fits, data_kind, rst_stream_kind, window_update_kind, settings_kind, ping_kind, spell, enhance_your_calm, is_ack, content, ends_stream, flow_control_error}
use Rattle.model.specs.Causes.{Cause}
use Rattle.model.specs.Logs.{Output}
use Rattle.model.specs.Logs.Output.{ToClient}
use Rattle.model.specs.Tapes.{put}
use Rattle.model.specs.Setup.{Setup}
use Rattle.model.specs.SettingValues.{settings_in, settings_fault, values_of, header_table_size, initial_window_after, SettingsFault, code_of_fault}
use Rattle.model.specs.Tapes.Note.{NoBlock}
use Rattle.model.specs.Decoding.{Partial}
use Rattle.model.specs.Errors.{Fault, first_of, or_else}
use Rattle.model.specs.Errors.Fault.{Connection}
use Rattle.model.specs.ErrorClause.{is_fatal, rst_stream, ping_ack}
use Rattle.model.specs.Limits.{most_streams}
use Rattle.model.specs.WindowsOnTape.{is_any, data_length, has_settings}
use Rattle.model.specs.Messages.Item.{Content}
use Rattle.model.specs.FrameErrors.{fault_if}
use Rattle.theory_errors.specs.Summary.{Summary}
use Rattle.theory_errors.specs.Judging.{completed_in, rows_in, frame_rows_in, shifts_past_in, malformed_in}
use Rattle.theory_errors.specs.Owing.{fault_in, owes_in}
use Rattle.theory_errors.specs.After.{is_sound}
use Rattle.theory_errors.specs.Rows.{Row, ids_of, find}
use Rattle.theory_errors.specs.Rows.Slot.{Over}
use Rattle.theory_errors.specs.Quiet.{noted_of, coming, sending}
use Rattle.theory_errors.specs.Book.{Book, summary_in, book_after}
use Rattle.theory_errors.specs.Tidy.{AreKept}
use Rattle.theory_errors.proofs.Seen.{none_at}
use Rattle.theory_errors.proofs.Rows.{ids_changed}
use Rattle.theory_errors.proofs.Tidy.{kept_behind_entry}
use Rattle.theory_responses.specs.State.{change, answered}
use Rattle.theory_requests.specs.Lines.{without}
use Rattle.theory_requests.specs.State.{Due, id_of}
use Rattle.theory_requests.specs.State.Due.{Nothing}
use Rattle.header_blocks.specs.Encoding.{Encoding}
use Rattle.theory_header_tables.specs.Rule.{IsNoted}
use Rattle.theory_header_tables.specs.State.{named_by}
use Rattle.theory_header_tables.specs.Verdicts.{verdict_in}
use Rattle.streams.specs.Asked.{is_active, changed}
use Rattle.streams.specs.Sending.{is_served}
use Rattle.window_credit.specs.Sides.{is_past}
use Rattle.streams.proofs.Changes.{same_ids}
use Rattle.connection_state.specs.Inbound.{Inbound, Outside, book_of, told_of}
use Rattle.connection_state.specs.Judgement.{IsPlain, IsJudged, IsTaken, behind, cause_before, cause_behind}
use Rattle.connection_state.specs.declared.answers.FrameError.TheVariants as fault
use Rattle.connection_state.specs.declared.answers.Judged.{Judged}
use Rattle.connection_state.specs.declared.answers.Judged.TheVariants as judged
use Rattle.connection_state.specs.Sending.{behind_reset}
use Rattle.connection_state.proofs.SendingBooks.{reset_leads}
use Rattle.theory.specs.Moves.{Move}
use Rattle.theory.specs.State.{State}
use Rattle.theory.specs.Steps.{told_by}
use Rattle.theory.specs.Rule.{Adds, added_in}
use Rattle.refinement.specs.View.{View, Pending, balanced, Leads, waiting_for}
use Rattle.refinement.specs.Rest.{IsAtRest, NoneCut, Reached}
use Rattle.refinement.specs.Bringing.{Brings}
use Rattle.refinement.proofs.Answered.{plain_addition, plain_owes}
use Rattle.refinement.proofs.Bringing.{brings_then}
use Rattle.refinement.proofs.Staying.{rows_kept}
use Rattle.refinement.proofs.Coming.{outside_of, encoding_with}
use Rattle.refinement.specs.Additions.{GoesOn}
use Rattle.event_handlers.specs.Closings.{IsAbout}
use Rattle.event_handlers.proofs.Closings.{about_changed, about_then, frame_served}
use Rattle.event_handlers.specs.Forgetting.{forgotten}
use Rattle.event_handlers.specs.paying.Controls.{frame_of, IsShort, IsOwed}
use Rattle.event_handlers.specs.declared.paying.control.Control.{Control}
use Rattle.event_handlers.specs.declared.paying.control.Control.TheVariants as control
use Rattle.event_handlers.specs.declared.plain_frames.taking.Owed.{Owed}
use Rattle.event_handlers.specs.declared.plain_frames.taking.Owed.TheVariants as owed
use Rattle.event_handlers.specs.plain_frames.Owed.{owed_frame, with_sent, put_sent, WasFree}
use Rattle.event_handlers.proofs.paying.Paying.{pays_control}
use Rattle.event_handlers.specs.plain_frames.Acting.{goes_on, Goes, Ends, IsActed, IsContentIf, IsRepliedBy, IsLeft, MayAct}
use Rattle.event_handlers.specs.Comings.{ComesFrom}
use Rattle.event_handlers.specs.Inputs.Input.{OfFrame}
use Rattle.event_handlers.specs.Stopping.{IsCalmed}
use Rattle.event_handlers.proofs.Calming.{calm_ends, calm_comes}
use Rattle.event_handlers.specs.plain_frames.Kept.{limited}
use Rattle.event_handlers.specs.plain_frames.Taken.{IsPassed, IsPlainTaken}
use Rattle.event_handlers.specs.declared.plain_frames.taking.TakenFrame.{TakenFrame}
use Rattle.event_handlers.specs.declared.plain_frames.taking.TakenFrame.TheVariants as taken
use Rattle.event_handlers.proofs.plain_frames.Streams.{none_completed, ids_now}
use Rattle.event_handlers.proofs.plain_frames.Faults.{names_none}
use Rattle.event_handlers.proofs.plain_frames.Standing.{active_with, open_with, active_not_discarded}
use Rattle.event_handlers.proofs.plain_frames.Newest.{gone_newest, no_octets, idle_newest, open_newest}
use Rattle.event_handlers.proofs.plain_frames.Coming.{few, kept_rows}
use Rattle.event_handlers.proofs.plain_frames.Quiet.{quiet, taken_by, passed_over}
use Rattle.event_handlers.proofs.plain_frames.Ending.{none_cut_without, reset_by_client, refused, refused_over}
use Rattle.event_handlers.proofs.plain_frames.Bodies.{is_active_now}
use Rattle.event_handlers.proofs.plain_frames.Contents.{left_alone, may_take, content_comes}
use Rattle.event_handlers.proofs.plain_frames.Replies.{head_same, offered, offered_cuts_none, cut_short, cut_over}

-- a reset fits to be spelled
fits : (id code : ℕ) → id < 2147483648 → Fits (rst_stream id code)
fits id code small = record { kind = omega arith; flags = omega arith; id = small; payload = omega arith }

-- ---- settings that are taken

first_rows : (rows later : List (Option Fault)) → first_of (rows ++ later) ≡ None → first_of rows ≡ None
first_rows [] later none = refl
first_rows (None ∷ rows) later none = first_rows rows later none
first_rows (Some fault ∷ rows) later none = cc

none_mapped : (o : Option SettingsFault) → option_map (λ fault. Connection (code_of_fault fault)) o ≡ None → is_none o ≡ true
none_mapped None is = refl
none_mapped (Some fault) is = cc

none_shifted : (x : Bool) (code : ℕ) → fault_if x (Connection code) ≡ None → not x ≡ true
none_shifted false code is = refl
none_shifted true code is = cc

rows_none : (a b : Option Fault) → or_else a b ≡ None → a ≡ None
rows_none None b e = refl
rows_none (Some fault) b e = e

all_true : (a b c d : Bool) → a ≡ true → b ≡ true → c ≡ true → d ≡ true → (a && (b && c && d)) ≡ true
all_true true true true true a b c d = refl
all_true false b c d e f g h = cc
all_true true false c d e f g h = cc
all_true true true false d e f g h = cc
all_true true true true false e f g h = cc

module _ (s : Summary) (frame : Frame) (has : has_settings frame ≡ true) (faultless : fault_in s (coming frame) ≡ None) where
  rows : first_of (rows_in s (noted_of frame)) ≡ None
  rows = rows_none (first_of (rows_in s (noted_of frame))) (malformed_in (s.stream frame.id).outline s (coming frame)) faultless

  sound : is_sound s frame ≡ true
  sound = ap (λ (o : Option Fault). is_none o) (first_rows (frame_rows_in s frame) _ rows)

  values : is_none (settings_fault frame.payload) ≡ true
  values = none_mapped (settings_fault frame.payload) (sym (ap (λ x. if x then option_map (λ fault. Connection (code_of_fault fault)) (settings_fault frame.payload) else None) has) ∙ none_at 6 (rows_in s (noted_of frame)) rows)

  unshifted : not (shifts_past_in (initial_window_after s.first_size (settings_in frame.payload)) s) ≡ true
  unshifted = none_shifted (shifts_past_in (initial_window_after s.first_size (settings_in frame.payload)) s) _ (sym (ap (λ x. fault_if (x && shifts_past_in (initial_window_after s.first_size (settings_in frame.payload)) s) (Connection flow_control_error)) has) ∙ none_at 7 (rows_in s (noted_of frame)) rows)

  settings_named : (encoding : Encoding) → encoding_with (named_by (verdict_in s frame) frame) encoding ≡ limited (values_of header_table_size (settings_in frame.payload)) encoding
  settings_named encoding =
      ap (λ x. encoding_with (named_by (record (verdict_in s frame) { is_taken = x }) frame) encoding)
      (all_true (is_sound s frame) (has_settings frame) (is_none (settings_fault frame.payload)) (not (shifts_past_in (initial_window_after s.first_size (settings_in frame.payload)) s)) sound has values unshifted)

-- ---- one frame

module _ (setup : Setup) (old : View) (rest : IsAtRest old) (setup' : Setup) (reached : Reached setup' old balanced) (frame : Frame) (plain : IsPlain frame) (small : frame.id < 2147483648) (inbound : Inbound) (table : inbound.table ≡ old.inbound.table) where
  abbrev b : Book
  b = book_of (outside_of old.untaken) old.inbound

  abbrev mid : View
  mid = record old { inbound = inbound }

  kept : AreKept old.inbound.rows
  kept = kept_rows setup' reached.0 old reached.1 reached.2

  -- what leads to where the gateway stands once this is sent, and what ends in its place
  abbrev Leads_to : Owed → Due → ℕ → View → Type 0
  Leads_to owed due back target =
      (outputs : List Output) → WasFree (owed_frame owed frame) target
      → Brings setup old balanced outputs (coming frame) (with_sent (owed_frame owed frame) target) (record balanced { due = due; fresh = data_length is_any frame; shared = back }) (put_sent (owed_frame owed frame) outputs)

  abbrev Ends_so : Owed → View → Type 0
  Ends_so owed target = (outputs p : List Output) → is_some (owed_frame owed frame) ≡ true → IsCalmed target outputs p → ComesFrom setup old balanced outputs (OfFrame frame ∷ []) balanced None p

  -- nothing is owed
  owes_none : (target : View) → Ends_so owed.Nothing target
  owes_none target outputs p some calmed = absurd (let no : false ≡ true = some in cc)

  -- what is done, in words of the answer that is given
  finish : (due : Due) (owed : Owed) (back : ℕ) (answer : TakenFrame) (target new : View) → Goes due owed back answer → new ≡ target
      → Leads_to owed due back target → Ends_so owed target → NoneCut target.offers → IsAbout frame.id old target → ids_of target.inbound.rows ≡ ids_of old.inbound.rows → target.inbound.last ≡ frame.id → (0 < data_length is_any frame → is_past frame.id target.marks ≡ false)
      → IsPlainTaken setup old frame answer new
  finish due owed back (taken.Fatal code) target new goes new_is brings over none_cut about ids last newest = absurd goes
  finish due owed back (taken.Goes answer what dropped) target new goes new_is brings over none_cut about ids last newest =
      subst (λ (v : View). IsPassed setup old frame answer what dropped v) (sym new_is)
      (subst (λ (w : Owed). IsPassed setup old frame answer w dropped target) (sym goes.1)
      (record {
        brings =
            subst (λ (d : Due). Leads_to owed d dropped target) (sym goes.0)
            (subst (λ n. Leads_to owed due n target) (sym goes.2) brings);
        over = over;
        none_cut = none_cut;
        about = about;
        ids = ids;
        last = last;
        newest = newest;
      }))

  module _ (left : book_of (outside_of old.untaken) inbound ≡ behind setup b frame) where
    ids_left : ids_of inbound.rows ≡ ids_of old.inbound.rows
    ids_left = ap (λ (x : Book). ids_of x.rows) left ∙ ids_now setup b frame plain kept

    last_left : inbound.last ≡ frame.id
    last_left = ap (λ (x : Book). x.last) left

    -- it leaves the service of the other streams, where it is no error of the connection
    about_left : is_fatal (fault_in (summary_in b) (coming frame)) ≡ false → IsAbout frame.id old mid
    about_left mild = record { served = λ other apart. ap (λ (x : Book). is_served x.rows other) left ∙ frame_served setup b (noted_of frame) mild kept other apart; live = refl }

  -- the connection of a stream on which DATA without a fault comes wasn't given to another since
  data_newest : (answer : Judged) → ((outside : Outside) → IsTaken setup (book_of outside old.inbound) frame (book_of outside inbound) answer) → frame.kind ≡ data_kind → is_past frame.id old.marks ≡ false
  data_newest answer taken kind =
      let few_rows : length (ids_of old.inbound.rows) ≤ most_streams = subst (λ (x : Book). length (ids_of x.rows) ≤ most_streams) reached.2.keeps.book (few setup' reached.0 old reached.1 reached.2) in
      let faultless = (taken (outside_of old.untaken)).faultless in
      open_newest setup' reached.0 old balanced reached.1 reached.2 frame.id (record {
        active = active_with b frame data_kind kind refl refl refl (none_completed setup b frame plain kept) few_rows faultless;
        goes_on = open_with b frame data_kind kind refl refl refl (none_completed setup b frame plain kept) few_rows faultless refl;
      })

  -- ---- an error of the connection

  completes_none : (x : Book) → AreKept x.rows → completed_in x.block frame ≡ None
  completes_none x kept = none_completed setup x frame plain kept

  fatal_so : (code : ℕ) (answer : TakenFrame) (new : View) → ((outside : Outside) → IsJudged setup (book_of outside old.inbound) frame (book_of outside inbound) (judged.Failed (fault.Connection code)))
      → Ends code answer → new ≡ mid → IsPlainTaken setup old frame answer new
  fatal_so code (taken.Goes answer what dropped) new failed ends new_is = absurd ends
  fatal_so code (taken.Fatal told) new failed ends new_is = record {
    upstreams = ap (λ (v : View). v.upstreams) new_is;
    encoding = ap (λ (v : View). v.encoding) new_is;
    untaken = ap (λ (v : View). v.untaken) new_is;
    rows = ap (λ (v : View). v.inbound.rows) new_is ∙ ap (λ (x : Book). x.rows) (failed (outside_of old.untaken)).left;
    fault = λ run s leads. by_book run s leads ∙ ap (λ n. Some (Connection n)) (sym ends);
    fatal = λ run s leads. record {
      fatal = ap is_fatal (by_book run s leads);
      noted_right = record { is_noted = subst (λ (o : Option Partial). IsNoted o (verdict_in (told_by s) frame).is_error s.tables.decoding NoBlock s.tables.decoding) (sym (completes_none s.ledger.book (rows_kept setup run s leads.stands))) refl };
      read = λ unread. absurd (let no : true ≡ false = unread in cc);
    };
  }
    where
      by_book : (run : List Move) (s : State) → Leads setup run old balanced s → fault_in (told_by s) (coming frame) ≡ Some (Connection code)
      by_book run s leads = ap (λ (x : Book). fault_in (summary_in x) (coming frame)) leads.keeps.book ∙ (failed (record { given = s.ledger.book.given; untaken = old.untaken })).is

  -- ---- each answer

  -- a frame that gains nothing and calls for nothing
  quiet_so : (answer : Judged) → ((outside : Outside) → IsTaken setup (book_of outside old.inbound) frame (book_of outside inbound) answer) → (kind : ℕ) → frame.kind ≡ kind → (kind == data_kind) ≡ false → (kind == rst_stream_kind) ≡ false → has_settings (record frame { kind = kind }) ≡ false
      → ((outside : Outside) → owes_in setup false (told_of outside old.inbound) (coming frame) ≡ []) → ((run : List Move) (s : State) → Leads setup run old balanced s → added_in setup (told_by s) (noted_of frame) ≡ [])
      → (given : TakenFrame) (new : View) → IsLeft owed.Nothing mid given new → IsPlainTaken setup old frame given new
  quiet_so answer taken kind is no_data no_reset no_settings owes adds given new left =
      finish Nothing owed.Nothing 0 given mid new left.goes left.kept
      (λ outputs free. quiet setup old rest frame plain inbound table answer taken (ap (λ k. k == data_kind) is ∙ no_data) (ap (λ k. k == rst_stream_kind) is ∙ no_reset) [] old.encoding owes
      (λ outside. names_none (told_of outside old.inbound) frame (ap (λ k. has_settings (record frame { kind = k })) is ∙ no_settings) old.encoding) adds outputs)
      (owes_none mid) rest.none_cut (about_left (taken (outside_of old.untaken)).left (ap is_fatal (taken (outside_of old.untaken)).faultless)) (ids_left (taken (outside_of old.untaken)).left) (last_left (taken (outside_of old.untaken)).left)
      (no_octets frame old.marks (ap (λ k. k == data_kind) is ∙ no_data))

  -- a control frame is owed
  paid_so : (answer : Judged) → ((outside : Outside) → IsTaken setup (book_of outside old.inbound) frame (book_of outside inbound) answer) → (kind : ℕ) → frame.kind ≡ kind → (kind == data_kind) ≡ false → (kind == rst_stream_kind) ≡ false → (encoding : Encoding)
      → ((outside : Outside) → encoding_with (named_by (verdict_in (told_of outside old.inbound) frame) frame) old.encoding ≡ encoding) → (what : Owed) (control : Control) → owed_frame what frame ≡ Some (frame_of control) → IsShort control → IsOwed control
      → ((outside : Outside) → owes_in setup false (told_of outside old.inbound) (coming frame) ≡ frame_of control ∷ []) → ((run : List Move) (s : State) → Leads setup run old balanced s → added_in setup (told_by s) (noted_of frame) ≡ [])
      → (given : TakenFrame) (new : View) → IsLeft what (record mid { encoding = encoding }) given new → IsPlainTaken setup old frame given new
  paid_so answer taken kind is no_data no_reset encoding encodes what control owed_is short owing owes adds given new left =
      finish Nothing what 0 given target new left.goes left.kept
      (λ outputs free. subst (λ (o : Option Frame). Brings setup old balanced outputs (coming frame) (with_sent o target) (record balanced { fresh = data_length is_any frame }) (put_sent o outputs)) (sym owed_is)
      (brings_then setup old target (with_sent (Some (frame_of control)) target) balanced due_then (record balanced { fresh = data_length is_any frame }) outputs outputs (put outputs (ToClient (spell (frame_of control)))) (coming frame) (comes outputs)
      (pays_control setup target due_then [] control short owing (subst (λ (o : Option Frame). WasFree o target) owed_is free) refl (inl refl) outputs)))
      (λ outputs p some calmed.
      calm_comes setup old target balanced due_then outputs outputs p (coming frame) (OfFrame frame) refl (comes outputs) (calm_ends setup target due_then (inl (frame_of control, [], refl)) refl outputs p calmed))
      rest.none_cut
      (let about = about_left (taken (outside_of old.untaken)).left (ap is_fatal (taken (outside_of old.untaken)).faultless) in record { served = about.served; live = about.live })
      (ids_left (taken (outside_of old.untaken)).left) (last_left (taken (outside_of old.untaken)).left)
      (no_octets frame old.marks (ap (λ k. k == data_kind) is ∙ no_data))
    where
      target : View
      target = record mid { encoding = encoding }

      due_then : Pending
      due_then = record balanced { owed = frame_of control ∷ []; fresh = data_length is_any frame }

      comes : (outputs : List Output) → Brings setup old balanced outputs (coming frame) target due_then outputs
      comes outputs = quiet setup old rest frame plain inbound table answer taken (ap (λ k. k == data_kind) is ∙ no_data) (ap (λ k. k == rst_stream_kind) is ∙ no_reset) (frame_of control ∷ []) encoding owes encodes adds outputs

  -- DATA
  content_so : (answer : Judged) (so : (outside : Outside) → IsTaken setup (book_of outside old.inbound) frame (book_of outside inbound) answer) (kind : frame.kind ≡ data_kind)
      → (octets : List ℕ) (ends : Bool) → octets ≡ content frame → ends ≡ ends_stream frame → cause_behind setup b frame ≡ cause_before b frame
      → ((outside : Outside) → owes_in setup false (told_of outside old.inbound) (coming frame) ≡ [])
      → ((run : List Move) (s : State) → Leads setup run old balanced s → (GoesOn (told_by s) frame.id → Adds setup (told_by s) (noted_of frame) (Content octets ends)) × (((told_by s).stream frame.id).outline.over ≡ true → added_in setup (told_by s) (noted_of frame) ≡ []))
      → (on : Bool) → goes_on old.inbound.rows frame.id ≡ on → (given : TakenFrame) (new : View) → IsContentIf on ends frame.id octets mid given new → IsPlainTaken setup old frame given new
  content_so answer so kind octets ends a c d owes additions false on given new left =
      finish Nothing owed.Nothing 0 given mid new left.goes left.kept
      (λ outputs free. left_alone setup old rest frame plain inbound table answer so kind octets ends a c d owes additions on outputs)
      (owes_none mid) rest.none_cut (let about = about_left (so (outside_of old.untaken)).left (ap is_fatal (so (outside_of old.untaken)).faultless) in record { served = about.served; live = about.live }) (ids_left (so (outside_of old.untaken)).left) (last_left (so (outside_of old.untaken)).left)
      (λ some. data_newest answer so kind)
  content_so answer so kind octets ends a c d owes additions true on given new done =
      finish done.due owed.Nothing 0 given (record mid { upstreams = record mid.upstreams { held = new.upstreams.held } }) new done.goes done.kept
      (λ outputs free. content_comes setup old rest frame plain inbound table answer so kind octets ends a c d owes additions on done.due new.upstreams.held done.takes outputs)
      (owes_none (record mid { upstreams = record mid.upstreams { held = new.upstreams.held } })) rest.none_cut (let about = about_left (so (outside_of old.untaken)).left (ap is_fatal (so (outside_of old.untaken)).faultless) in record { served = about.served; live = about.live }) (ids_left (so (outside_of old.untaken)).left) (last_left (so (outside_of old.untaken)).left)
      (λ some. data_newest answer so kind)

  -- a body that is too long
  replied_so : (taken : (outside : Outside) → IsTaken setup (book_of outside old.inbound) frame (book_of outside inbound) judged.LargeBody) → ((outside : Outside) → IsTaken setup' (book_of outside old.inbound) frame (book_of outside inbound) judged.LargeBody) → (out : Bool) → (find old.inbound.rows frame.id).head_out ≡ out
      → (given : TakenFrame) (new : View) → IsRepliedBy out frame.id mid given new → IsPlainTaken setup old frame given new
  replied_so taken taken' false out given new done =
      finish Nothing owed.Nothing 0 given (record mid { offers = record mid.offers { kept = change frame.id (answered Cause.LargeBody) mid.offers.kept }; upstreams = record mid.upstreams { held = without id_of frame.id mid.upstreams.held } }) new done.goes done.kept
      (λ outputs free. offered setup old rest frame plain inbound table taken out outputs)
      (owes_none (record mid { offers = record mid.offers { kept = change frame.id (answered Cause.LargeBody) mid.offers.kept }; upstreams = record mid.upstreams { held = without id_of frame.id mid.upstreams.held } }))
      (offered_cuts_none setup' old rest frame plain inbound table taken' out reached.0 reached.1 reached.2)
      (let about = about_left (taken (outside_of old.untaken)).left (ap is_fatal (taken (outside_of old.untaken)).faultless) in record { served = about.served; live = about.live })
      (ids_left (taken (outside_of old.untaken)).left) (last_left (taken (outside_of old.untaken)).left)
      (λ some. data_newest judged.LargeBody taken (taken (outside_of old.untaken)).says.0)
  replied_so taken taken' true out given new done =
      finish Nothing (owed.Reset enhance_your_calm) (waiting_for frame.id old) given (forgotten frame.id (record mid { inbound = record inbound { rows = changed frame.id (Over true) inbound.rows } })) new done.goes done.kept
      (λ outputs free. cut_short setup old rest frame plain inbound table taken out (fits frame.id enhance_your_calm small) free outputs)
      (λ outputs p some calmed. cut_over setup old rest frame plain inbound table taken out outputs p calmed)
      (none_cut_without frame.id old.offers rest.none_cut)
      (about_then frame.id old mid (forgotten frame.id (record mid { inbound = record inbound { rows = changed frame.id (Over true) inbound.rows } })) (about_left (taken (outside_of old.untaken)).left (ap is_fatal (taken (outside_of old.untaken)).faultless)) (about_changed frame.id (Over true) mid (forgotten frame.id (record mid { inbound = record inbound { rows = changed frame.id (Over true) inbound.rows } })) refl refl))
      (same_ids frame.id (Over true) inbound.rows ∙ ids_left (taken (outside_of old.untaken)).left) (last_left (taken (outside_of old.untaken)).left)
      (λ some. gone_newest frame.id old.marks)

  -- What is done by an answer is right of the frame.
  pub acted_so : (answer : Judged) → ((outside : Outside) → IsJudged setup (book_of outside old.inbound) frame (book_of outside inbound) answer) → ((outside : Outside) → IsJudged setup' (book_of outside old.inbound) frame (book_of outside inbound) answer) → (given : TakenFrame) (new : View) → length frame.payload ≤ 16384
      → IsActed (goes_on old.inbound.rows frame.id) frame.id answer mid given new → IsPlainTaken setup old frame given new
  acted_so (judged.Failed (fault.Connection code)) so so' given new short done = fatal_so code given new so done.0 done.1
  acted_so (judged.Failed (fault.Stream code)) so so' given new short done =
      finish Nothing (owed.Reset code) (waiting_for frame.id old) given (forgotten frame.id mid) new done.goes done.kept
      (λ outputs free. refused setup old rest frame plain inbound table code (fits frame.id code small) (λ outside. (so outside).is) (so (outside_of old.untaken)).left free outputs)
      (λ outputs p some calmed. refused_over setup old rest frame plain inbound table code (fits frame.id code small) (λ outside. (so outside).is) (so (outside_of old.untaken)).left outputs p calmed)
      (none_cut_without frame.id old.offers rest.none_cut)
      (record { served = λ other apart. ap (λ (rows : List Row). is_served rows other) (reset_book ∙ ap (λ (x : Book). x.rows) reset) ∙ (about_changed frame.id (Over true) left_view (record left_view { inbound = record inbound { rows = changed frame.id (Over true) left_rows } }) refl refl).served other apart ∙ frame_served setup b (noted_of frame) (ap is_fatal (so (outside_of old.untaken)).is) kept other apart; live = refl })
      ids last (λ some. gone_newest frame.id old.marks)
    where
      left_rows : List Row
      left_rows = (behind setup b frame).rows

      left_view : View
      left_view = record old { inbound = record inbound { rows = left_rows } }

      reset : book_after setup false (behind setup b frame) (sending (rst_stream frame.id code)) ≡ behind_reset (behind setup b frame) (rst_stream frame.id code)
      reset = (reset_leads setup (behind setup b frame) (noted_of (rst_stream frame.id code)) (kept_behind_entry setup false b (coming frame) kept) refl refl).book

      reset_book : inbound.rows ≡ (book_after setup false (behind setup b frame) (sending (rst_stream frame.id code))).rows
      reset_book = ap (λ (x : Book). x.rows) (so (outside_of old.untaken)).left

      ids : ids_of inbound.rows ≡ ids_of old.inbound.rows
      ids =
          ap ids_of reset_book
          ∙ ids_changed setup false (summary_in (behind setup b frame)) (sending (rst_stream frame.id code)) (behind setup b frame).rows
          ∙ ids_now setup b frame plain kept

      last : inbound.last ≡ frame.id
      last = ap (λ (x : Book). x.last) (so (outside_of old.untaken)).left
  acted_so (judged.Failed fault.Discarded) so so' given new short done =
      finish Nothing owed.Nothing 0 given mid new done.goes done.kept
      (λ outputs free. passed_over setup old rest frame plain inbound table (λ outside. (so outside).left) (λ outside. (so outside).is) outputs)
      (owes_none mid) rest.none_cut (about_left (so (outside_of old.untaken)).left (ap is_fatal (so (outside_of old.untaken)).is)) (ids_left (so (outside_of old.untaken)).left) (last_left (so (outside_of old.untaken)).left)
      (λ some. by (is_active old.inbound.rows frame.id) refl)
    where
      by : (x : Bool) → is_active old.inbound.rows frame.id ≡ x → is_past frame.id old.marks ≡ false
      by false idle = idle_newest setup' reached.0 old balanced reached.1 reached.2 frame.id idle
      by true active = absurd (active_not_discarded b frame kept active (so (outside_of old.untaken)).is)
  acted_so judged.Ignored so so' given new short done =
      quiet_so judged.Ignored so frame.kind refl parts.0 parts.1 parts.2
      (λ outside. plain_owes setup (book_of outside old.inbound) frame plain (book_of outside inbound) judged.Ignored (so outside))
      (λ run s leads. plain_addition setup s.ledger.book frame plain (few setup run old s leads) (book_of (record { given = s.ledger.book.given; untaken = old.untaken }) inbound) judged.Ignored (taken_by setup old rest frame plain inbound table judged.Ignored so run s leads))
      given new done
    where
      ignored : (a b c d e : Bool) → not (a || b || c || d || e) ≡ true → (a ≡ false) × (b ≡ false) × (d ≡ false)
      ignored false false false false false is = (refl, refl, refl)
      ignored true b c d e is = cc
      ignored false true c d e is = cc
      ignored false false true d e is = cc
      ignored false false false true e is = cc
      ignored false false false false true is = cc

      parts : ((frame.kind == data_kind) ≡ false) × ((frame.kind == rst_stream_kind) ≡ false) × (has_settings frame ≡ false)
      parts = ignored (frame.kind == data_kind) (frame.kind == rst_stream_kind) (frame.kind == window_update_kind) (has_settings frame) (frame.kind == ping_kind && not (is_ack frame)) (so (outside_of old.untaken)).says
  acted_so judged.Granted so so' given new short done =
      quiet_so judged.Granted so window_update_kind (so (outside_of old.untaken)).says refl refl refl
      (λ outside. plain_owes setup (book_of outside old.inbound) frame plain (book_of outside inbound) judged.Granted (so outside))
      (λ run s leads. plain_addition setup s.ledger.book frame plain (few setup run old s leads) (book_of (record { given = s.ledger.book.given; untaken = old.untaken }) inbound) judged.Granted (taken_by setup old rest frame plain inbound table judged.Granted so run s leads))
      given new done
  acted_so (judged.Settings change) so so' given new short done =
      paid_so (judged.Settings change) so settings_kind (eqb-true frame.kind settings_kind (and_parts (frame.kind == settings_kind) (not (is_ack frame)) (so (outside_of old.untaken)).says.0).0) refl refl (limited (values_of header_table_size (settings_in frame.payload)) old.encoding)
      (λ outside. settings_named (told_of outside old.inbound) frame (so outside).says.0 (so outside).faultless old.encoding) owed.SettingsAck control.SettingsAck refl tt tt
      (λ outside. plain_owes setup (book_of outside old.inbound) frame plain (book_of outside inbound) (judged.Settings change) (so outside))
      (λ run s leads. plain_addition setup s.ledger.book frame plain (few setup run old s leads) (book_of (record { given = s.ledger.book.given; untaken = old.untaken }) inbound) (judged.Settings change) (taken_by setup old rest frame plain inbound table (judged.Settings change) so run s leads))
      given new (done (settings_in frame.payload) (so (outside_of old.untaken)).says.1.smallest (so (outside_of old.untaken)).says.1.last)
  acted_so (judged.Ping octets) so so' given new short done =
      paid_so (judged.Ping octets) so ping_kind (so (outside_of old.untaken)).says.0 refl refl old.encoding
      (λ outside. names_none (told_of outside old.inbound) frame (ap (λ k. has_settings (record frame { kind = k })) (so (outside_of old.untaken)).says.0) old.encoding) owed.PingAck (control.PingAck octets) (ap (λ (xs : List ℕ). Some (ping_ack xs)) (sym (so (outside_of old.untaken)).says.2)) (subst (λ (xs : List ℕ). length xs ≤ 16384) (sym (so (outside_of old.untaken)).says.2) short) tt
      (λ outside. plain_owes setup (book_of outside old.inbound) frame plain (book_of outside inbound) (judged.Ping octets) (so outside))
      (λ run s leads. plain_addition setup s.ledger.book frame plain (few setup run old s leads) (book_of (record { given = s.ledger.book.given; untaken = old.untaken }) inbound) (judged.Ping octets) (taken_by setup old rest frame plain inbound table (judged.Ping octets) so run s leads))
      given new done
  acted_so judged.Reset so so' given new short done =
      finish Nothing owed.Nothing (waiting_for frame.id old) given (forgotten frame.id mid) new done.goes done.kept
      (λ outputs free. reset_by_client setup old rest frame plain inbound table so (so (outside_of old.untaken)).says outputs)
      (owes_none (forgotten frame.id mid))
      (none_cut_without frame.id old.offers rest.none_cut)
      (let about = about_left (so (outside_of old.untaken)).left (ap is_fatal (so (outside_of old.untaken)).faultless) in record { served = about.served; live = about.live })
      (ids_left (so (outside_of old.untaken)).left) (last_left (so (outside_of old.untaken)).left)
      (λ some. gone_newest frame.id old.marks)
  acted_so (judged.Content octets ends) so so' given new short done =
      content_so (judged.Content octets ends) so (so (outside_of old.untaken)).says.0 octets.now ends (so (outside_of old.untaken)).says.1 (so (outside_of old.untaken)).says.2 (so (outside_of old.untaken)).says.3
      (λ outside. plain_owes setup (book_of outside old.inbound) frame plain (book_of outside inbound) (judged.Content octets ends) (so outside))
      (λ run s leads. plain_addition setup s.ledger.book frame plain (few setup run old s leads) (book_of (record { given = s.ledger.book.given; untaken = old.untaken }) inbound) (judged.Content octets ends) (taken_by setup old rest frame plain inbound table (judged.Content octets ends) so run s leads))
      (goes_on old.inbound.rows frame.id) refl given new done
  acted_so judged.LargeBody so so' given new short done =
      replied_so so so' (find old.inbound.rows frame.id).head_out refl given new
      (subst (λ out. IsRepliedBy out frame.id mid given new) (head_same setup' old rest frame plain inbound table so' reached.0 reached.1 reached.2) done)

  -- What has to be so for it is.
  pub may_act : (answer : Judged) → ((outside : Outside) → IsJudged setup' (book_of outside old.inbound) frame (book_of outside inbound) answer) → MayAct (goes_on old.inbound.rows frame.id) frame.id answer mid
  may_act (judged.Failed fault) so = tt
  may_act judged.Ignored so = tt
  may_act (judged.Settings change) so = tt
  may_act (judged.Ping octets) so = tt
  may_act judged.Granted so = tt
  may_act judged.Reset so = tt
  may_act (judged.Content octets ends) so = λ on.
      may_take setup' old rest frame plain inbound table (judged.Content octets ends) so (so (outside_of old.untaken)).says.0 octets.now ends (so (outside_of old.untaken)).says.1 (so (outside_of old.untaken)).says.2 (so (outside_of old.untaken)).says.3
      (λ outside. plain_owes setup' (book_of outside old.inbound) frame plain (book_of outside inbound) (judged.Content octets ends) (so outside))
      (λ run s leads. plain_addition setup' s.ledger.book frame plain (few setup' run old s leads) (book_of (record { given = s.ledger.book.given; untaken = old.untaken }) inbound) (judged.Content octets ends) (taken_by setup' old rest frame plain inbound table (judged.Content octets ends) so run s leads))
      on reached.0 reached.1 reached.2
  may_act judged.LargeBody so = is_active_now setup' old rest frame plain inbound table judged.LargeBody so (so (outside_of old.untaken)).says.0 reached.0 reached.1 reached.2
