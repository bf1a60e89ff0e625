-- A stream that is over with a frame: the client resets it, or it is reset since the frame is an error of it.
use Rattle.std.proofs.Common.{◌≡◌, ℕ, ◌≤◌, ◌+◌, Bool, true, false, not, ◌&&◌, ◌||◌, ◌==◌, if◌then◌else◌, List, [], ◌∷◌, length, Option, Some, None, refl, sym, ◌∙◌, ap, subst, inl, inr, arith, nat_lt}
use Rattle.std.proofs.lemmas.Bool.{eq-eqb}
use Rattle.std.proofs.lemmas.Bool.Decides.{eqb_tells}
use Rattle.std.specs.Prelude.{is_none}
use Rattle.model.specs.Frames.{Frame, Fits, spell, rst_stream_kind}
use Rattle.model.specs.Logs.{Output}
use Rattle.model.specs.Logs.Output.{ToClient}
use Rattle.model.specs.Setup.{Setup}
use Rattle.model.specs.Tables.{Table}
use Rattle.model.specs.Tapes.{put}
use Rattle.model.specs.Lifetimes.{may_open}
use Rattle.model.specs.Limits.{most_streams, most_untaken}
use Rattle.model.specs.Causes.{Cause}
use Rattle.model.specs.Decoding.{Partial}
use Rattle.model.specs.Errors.Fault.{Stream}
use Rattle.model.specs.ErrorClause.{is_fatal, rst_stream}
use Rattle.model.specs.WindowsOnTape.{is_any, data_length, has_settings}
use Rattle.theory_errors.specs.Summary.{Stream as Kept}
use Rattle.theory_errors.specs.Judging.{is_over_in, completed_in}
use Rattle.theory_errors.specs.Owing.{fault_in}
use Rattle.theory_errors.specs.Rows.{Row, ids_of, find}
use Rattle.theory_errors.specs.Rows.Slot.{Over}
use Rattle.theory_errors.specs.Quiet.{noted_of, coming}
use Rattle.theory_errors.specs.Book.{Book, summary_in, book_after}
use Rattle.theory_errors.specs.Tidy.{AreKept}
use Rattle.theory_errors.proofs.Tidy.{kept_behind_entry}
use Rattle.theory_responses.specs.State as theory_responses
use Rattle.theory_responses.specs.State.{Change}
use Rattle.theory_responses.proofs.Keeping.{answered_if_id, find_gone, find_without}
use Rattle.theory_requests.specs.State as theory_requests
use Rattle.theory_requests.specs.Lines.{without}
use Rattle.theory_requests.specs.State.{Held, Due, id_of}
use Rattle.theory_header_tables.specs.State as theory_header_tables
use Rattle.streams.specs.Asked.{is_active, changed}
use Rattle.connection_state.specs.Inbound.{Inbound, Outside, book_of, told_of}
use Rattle.connection_state.specs.Judgement.{IsPlain, IsTaken, behind, reset_behind}
use Rattle.connection_state.specs.declared.answers.Judged.TheVariants as judged
use Rattle.connection_state.proofs.SendingBooks.{reset_leads}
use Rattle.upstream_connections.specs.Kept as upstreams
use Rattle.theory.specs.Moves.{Addition, Move}
use Rattle.theory.specs.State.{State}
use Rattle.theory.specs.Steps.{told_by}
use Rattle.refinement.specs.View.{View, Pending, balanced, waiting_for, Leads}
use Rattle.refinement.specs.Rest.{IsAtRest, NoneCut}
use Rattle.refinement.specs.Bringing.{Brings, PerformsOwn}
use Rattle.refinement.proofs.Kept.{changed_goes}
use Rattle.refinement.proofs.Gaining.{none_at_fault}
use Rattle.refinement.proofs.Answered.{plain_addition, plain_owes, plain_owes_at_fault}
use Rattle.refinement.proofs.Bringing.{brings_then}
use Rattle.refinement.proofs.Resets.{reset_view, reset_paid}
use Rattle.theory_receive_windows.specs.Marks.{total}
use Rattle.window_credit.specs.Sides.{Side, unless_over, queue_if, queue_of}
use Rattle.window_credit.specs.Sides.{without as without_side}
use Rattle.window_credit.specs.Standing.{dropped_of}
use Rattle.window_credit.proofs.Looking.{gone_own}
use Rattle.window_credit.proofs.Rising.{without_none}
use Rattle.refinement.proofs.Coming.{outside_of, inbound_in, inbound_behind, frame_book, change_between, offers_with, told_of_rows}
use Rattle.streams.proofs.Changes.{same_ids}
use Rattle.event_handlers.specs.Comings.{ComesFrom}
use Rattle.event_handlers.specs.Inputs.Input.{OfFrame}
use Rattle.event_handlers.specs.Stopping.{IsCalmed}
use Rattle.event_handlers.proofs.Calming.{calm_ends, calm_comes, calmed_as}
use Rattle.event_handlers.specs.Forgetting.{forgotten}
use Rattle.event_handlers.proofs.plain_frames.Streams.{behind_frame, none_completed, ids_now, stays_idle, dies}
use Rattle.event_handlers.proofs.plain_frames.Faults.{names_none, fault_names_none, fault_not_idle}
use Rattle.event_handlers.proofs.plain_frames.Standing.{active_with}
use Rattle.event_handlers.proofs.plain_frames.Coming.{Passes, few, kept_rows, held_behind_it, held_goes, came}
use Rattle.event_handlers.proofs.plain_frames.Quiet.{taken_by}

-- ---- what is on offer

-- nothing stays of a stream that goes twice
box_goes : (id : ℕ) (ks : List theory_responses.Kept) → theory_responses.without id (theory_responses.without id ks) ≡ theory_responses.without id ks
box_goes id [] = refl
box_goes id (k ∷ ks) = by (k.id == id) refl (box_goes id ks)
  where
    by : (b : Bool) → (k.id == id) ≡ b → theory_responses.without id (theory_responses.without id ks) ≡ theory_responses.without id ks → theory_responses.without id (if b then theory_responses.without id ks else k ∷ theory_responses.without id ks) ≡ (if b then theory_responses.without id ks else k ∷ theory_responses.without id ks)
    by true is rest = rest
    by false is rest = ap (λ b. if b then theory_responses.without id (theory_responses.without id ks) else k ∷ theory_responses.without id (theory_responses.without id ks)) is ∙ ap (λ (xs : List theory_responses.Kept). k ∷ xs) rest

pub held_twice : (id : ℕ) (hs : List Held) → without id_of id (without id_of id hs) ≡ without id_of id hs
held_twice id [] = refl
held_twice id (h ∷ hs) = by (h.id == id) refl (held_twice id hs)
  where
    by : (b : Bool) → (h.id == id) ≡ b → without id_of id (without id_of id hs) ≡ without id_of id hs → without id_of id (if b then without id_of id hs else h ∷ without id_of id hs) ≡ (if b then without id_of id hs else h ∷ without id_of id hs)
    by true is rest = rest
    by false is rest = ap (λ b. if b then without id_of id (without id_of id hs) else h ∷ without id_of id (without id_of id hs)) is ∙ ap (λ (xs : List Held). h ∷ xs) rest

-- whatever a frame changes of a stream that it doesn't open, nothing stays where that goes
pub all_goes : (id : ℕ) (c : Change) (ks : List theory_responses.Kept) → c.opens ≡ false → theory_responses.without id (theory_responses.unless_over c.over id (theory_responses.change id (theory_responses.answered_if c.caused) (theory_responses.with_new c.opens id ks))) ≡ theory_responses.without id ks
all_goes id c ks none =
    ap (λ b. theory_responses.without id (theory_responses.unless_over c.over id (theory_responses.change id (theory_responses.answered_if c.caused) (theory_responses.with_new b id ks)))) none
    ∙ by c.over
  where
    by : (b : Bool) → theory_responses.without id (theory_responses.unless_over b id (theory_responses.change id (theory_responses.answered_if c.caused) ks)) ≡ theory_responses.without id ks
    by true = box_goes id (theory_responses.change id (theory_responses.answered_if c.caused) ks) ∙ changed_goes id (theory_responses.answered_if c.caused) (answered_if_id c.caused) ks
    by false = changed_goes id (theory_responses.answered_if c.caused) (answered_if_id c.caused) ks

-- a reset is owed of none of the others
pub none_cut_without : (id : ℕ) (offers : theory_responses.State) → NoneCut offers → NoneCut (record offers { kept = theory_responses.without id offers.kept })
none_cut_without id offers none other k found = elim (eqb_tells id other) [
  | inl is ↦ absurd (let no : ◌≡◌ {A = Option theory_responses.Kept} None (Some k) = sym (find_gone id offers.kept) ∙ ap (λ n. theory_responses.find n (theory_responses.without id offers.kept)) is.1 ∙ found in cc)
  | inr apart ↦ none other k (sym (find_without id other offers.kept apart.1) ∙ found)
]

-- ---- the client resets a stream

or_second : (a b c : Bool) → b ≡ true → (a || b || c) ≡ true
or_second true b c is = refl
or_second false b c is = ap (λ x. x || c) is

module _ (setup : Setup) (old : View) (rest : IsAtRest old) (frame : Frame) (plain : IsPlain frame) (inbound : Inbound) (table : inbound.table ≡ old.inbound.table) where
  abbrev b : Book
  b = book_of (outside_of old.untaken) old.inbound

  -- no stream is opened
  opens_none : AreKept old.inbound.rows → (not (is_active old.inbound.rows frame.id) && is_active (book_after setup false b (coming frame)).rows frame.id) ≡ false
  opens_none kept = by (is_active old.inbound.rows frame.id) refl
    where
      by : (x : Bool) → is_active old.inbound.rows frame.id ≡ x → (not x && is_active (book_after setup false b (coming frame)).rows frame.id) ≡ false
      by true is = refl
      by false is = stays_idle setup b frame plain kept is

  few_kept : (run : List Move) (s : State) → Leads setup run old balanced s → length (ids_of old.inbound.rows) ≤ most_streams
  few_kept run s leads = subst (λ (x : Book). length (ids_of x.rows) ≤ most_streams) leads.keeps.book (few setup run old s leads)

  module _ (taken : (outside : Outside) → IsTaken setup (book_of outside old.inbound) frame (book_of outside inbound) judged.Reset) (kind : frame.kind ≡ rst_stream_kind) where
    over_now : is_over_in (behind_frame setup b frame) ≡ true
    over_now =
        let k : Kept = find old.inbound.rows frame.id in
        ap (λ x. k.reset_by_gateway || ((x == rst_stream_kind && frame.id == frame.id) || k.reset_by_client) || (behind_frame setup b frame).ended_by_client && k.ended_by_gateway) kind
        ∙ ap (λ x. k.reset_by_gateway || (x || k.reset_by_client) || (behind_frame setup b frame).ended_by_client && k.ended_by_gateway) (eq-eqb frame.id frame.id refl)
        ∙ or_second k.reset_by_gateway true ((behind_frame setup b frame).ended_by_client && k.ended_by_gateway) refl

    -- Nothing is kept of the stream any more.
    pub reset_by_client : (outputs : List Output) → Brings setup old balanced outputs (coming frame) (forgotten frame.id (record old { inbound = inbound })) (record balanced { fresh = data_length is_any frame; shared = waiting_for frame.id old }) outputs
    reset_by_client outputs =
        came setup old rest frame plain inbound table (taken (outside_of old.untaken)).left (λ outside. ap is_fatal (taken outside).faultless) [] Due.Nothing
        (record old.offers { kept = theory_responses.without frame.id old.offers.kept }) (record old.upstreams { held = without id_of frame.id old.upstreams.held }) (without_side frame.id old.marks) (waiting_for frame.id old) old.encoding refl
        (λ outside. plain_owes setup (book_of outside old.inbound) frame plain (book_of outside inbound) judged.Reset (taken outside))
        (λ outside. names_none (told_of outside old.inbound) frame (ap (λ k. has_settings (record frame { kind = k })) kind) old.encoding)
        passes outputs
      where
        passes : (run : List Move) (s : State) (leads : Leads setup run old balanced s) → Passes setup old rest frame plain inbound table (taken (outside_of old.untaken)).left (λ outside. ap is_fatal (taken outside).faultless) (record old.offers { kept = theory_responses.without frame.id old.offers.kept }) (record old.upstreams { held = without id_of frame.id old.upstreams.held }) (without_side frame.id old.marks) (waiting_for frame.id old) Due.Nothing s
        passes run s leads =
            let kept : AreKept old.inbound.rows = kept_rows setup run old s leads in
            let rows : inbound.rows ≡ (book_after setup false b (coming frame)).rows = ap (λ (x : Book). x.rows) (taken (outside_of old.untaken)).left in
            let was : is_active old.inbound.rows frame.id ≡ true = active_with b frame rst_stream_kind kind refl refl refl (none_completed setup b frame plain kept) (few_kept run s leads) (taken (outside_of old.untaken)).faultless in
            let off : is_active inbound.rows frame.id ≡ false = ap (λ (rows : List Row). is_active rows frame.id) rows ∙ dies setup b frame plain kept over_now in
            let caused : Option Cause = (change_between old.inbound.rows inbound.rows frame.id).caused in
            let change : change_between old.inbound.rows inbound.rows frame.id ≡ record { opens = false; over = true; caused = caused } =
            ap (λ x. let c : Change = record { opens = not (is_active old.inbound.rows frame.id) && x; over = is_active old.inbound.rows frame.id && not x; caused = caused } in c) off
            ∙ ap (λ x. let c : Change = record { opens = not x && false; over = x && true; caused = caused } in c) was in
            let none = plain_addition setup s.ledger.book frame plain (few setup run old s leads) (book_of (record { given = s.ledger.book.given; untaken = old.untaken }) inbound) judged.Reset (taken_by setup old rest frame plain inbound table judged.Reset taken run s leads) in
            record {
              addition = Addition.Nothing;
              right = none;
              requests =
                  ap (λ (hs : List Held). upstreams.with_due (record old.upstreams { held = hs }) Due.Nothing)
                  (held_goes setup old rest frame plain inbound table (taken (outside_of old.untaken)).left (λ outside. ap is_fatal (taken outside).faultless) run s leads none (ap (λ x. x && is_none (find inbound.rows frame.id).outline.cause) off));
              on_offer =
                  ap (λ (c : Change). offers_with frame.id c old.offers) change
                  ∙ ap (λ (ks : List theory_responses.Kept). record old.offers { kept = ks }) (changed_goes frame.id (theory_responses.answered_if caused) (answered_if_id caused) old.offers.kept);
              marked = ap (λ (c : Change). unless_over c.over frame.id old.marks) change;
              returned = ap (λ (c : Change). dropped_of c.over frame.id old.marks) change;
            }

-- ---- a reset behind a frame

module _ (setup : Setup) (old : View) (rest : IsAtRest old) (frame : Frame) (plain : IsPlain frame) (inbound : Inbound) (table : inbound.table ≡ old.inbound.table) (code : ℕ) (fits : Fits (rst_stream frame.id code)) (fault : (outside : Outside) → fault_in (told_of outside old.inbound) (coming frame) ≡ Some (Stream code)) (left : book_of (outside_of old.untaken) inbound ≡ reset_behind setup (book_of (outside_of old.untaken) old.inbound) frame code) where
  abbrev before : Book
  before = book_of (outside_of old.untaken) old.inbound

  abbrev mid : Inbound
  mid = inbound_behind setup old.untaken old.inbound (noted_of frame) old.inbound.table

  mild : (outside : Outside) → is_fatal (fault_in (told_of outside old.inbound) (coming frame)) ≡ false
  mild outside = ap is_fatal (fault outside)

  abbrev offers_mid : theory_responses.State
  offers_mid = offers_with frame.id (change_between old.inbound.rows mid.rows frame.id) old.offers

  abbrev upstream_mid : upstreams.State
  upstream_mid = record old.upstreams { held = theory_requests.kept (told_of_rows mid) old.upstreams.held }

  abbrev over_mid : Bool
  over_mid = (change_between old.inbound.rows mid.rows frame.id).over

  abbrev view_mid : View
  view_mid = record { inbound = mid; offers = offers_mid; upstreams = upstream_mid; marks = unless_over over_mid frame.id old.marks; encoding = old.encoding; untaken = old.untaken }

  abbrev owing : Pending
  owing = record balanced { owed = rst_stream frame.id code ∷ []; fresh = data_length is_any frame; shared = dropped_of over_mid frame.id old.marks }

  abbrev final : View
  final = record (forgotten frame.id (record old { inbound = inbound })) { untaken = old.untaken + length (spell (rst_stream frame.id code)) }

  abbrev paid : Pending
  paid = record balanced { fresh = data_length is_any frame; shared = waiting_for frame.id old }

  -- nothing is kept of its DATA, and what waited goes back
  marks_gone : without_side frame.id (unless_over over_mid frame.id old.marks) ≡ without_side frame.id old.marks
  marks_gone = by over_mid
    where
      by : (b : Bool) → without_side frame.id (unless_over b frame.id old.marks) ≡ without_side frame.id old.marks
      by true = without_none frame.id (without_side frame.id old.marks) (gone_own frame.id old.marks)
      by false = refl

  all_back : dropped_of over_mid frame.id old.marks + total (queue_of frame.id (unless_over over_mid frame.id old.marks)) ≡ waiting_for frame.id old
  all_back = by over_mid
    where
      plus_none : (n : ℕ) → n + 0 ≡ n
      plus_none n = omega (arith)

      by : (b : Bool) → dropped_of b frame.id old.marks + total (queue_of frame.id (unless_over b frame.id old.marks)) ≡ waiting_for frame.id old
      by true = ap (λ (o : Option Side). waiting_for frame.id old + total (queue_if o)) (gone_own frame.id old.marks) ∙ plus_none (waiting_for frame.id old)
      by false = omega (arith)

  module _ (run : List Move) (s : State) (leads : Leads setup run old balanced s) where
    kept : AreKept old.inbound.rows
    kept = kept_rows setup run old s leads

    none : completed_in old.inbound.block frame ≡ None
    none = none_completed setup before frame plain kept

    table_mid : mid.table ≡ old.inbound.table
    table_mid = ap (λ (o : Option Partial). theory_header_tables.table_after o old.inbound.table old.inbound.table) none

    left_mid : book_of (outside_of old.untaken) mid ≡ behind setup before frame
    left_mid = sym (frame_book setup (outside_of old.untaken) old.inbound (noted_of frame) old.inbound.table (mild (outside_of old.untaken)))

    comes : (outputs : List Output) → Brings setup old balanced outputs (coming frame) view_mid owing outputs
    comes outputs =
        came setup old rest frame plain mid table_mid left_mid mild (rst_stream frame.id code ∷ []) Due.Nothing offers_mid upstream_mid (unless_over over_mid frame.id old.marks) (dropped_of over_mid frame.id old.marks) old.encoding refl
        (λ outside. plain_owes_at_fault setup (book_of outside old.inbound) frame plain (Stream code) refl (fault outside))
        (λ outside. fault_names_none (told_of outside old.inbound) frame (Stream code) refl (fault outside) old.encoding)
        (λ run s leads. record {
          addition = Addition.Nothing;
          right = none_at_fault setup (told_by s) (noted_of frame) (Stream code) (ap (λ (x : Book). fault_in (summary_in x) (coming frame)) leads.keeps.book ∙ fault (record { given = s.ledger.book.given; untaken = old.untaken }));
          requests = refl;
          on_offer = refl;
          marked = refl;
          returned = refl;
        })
        outputs

    known : may_open mid.drained (ids_of mid.rows) frame.id ≡ false
    known =
        ap (λ (ids : List ℕ). may_open mid.drained ids frame.id) (ids_now setup before frame plain kept)
        ∙ fault_not_idle (told_of (outside_of old.untaken) old.inbound) frame plain none (Stream code) refl (fault (outside_of old.untaken))

    -- the judgement leaves what is kept behind the reset
    inbound_is : record mid { rows = changed frame.id (Over true) mid.rows } ≡ inbound
    inbound_is =
        sym (
        ap (λ (x : Book). inbound_in inbound.table x) (
        left
        ∙ ap (λ (x : Book). record x { untaken = old.untaken }) (reset_leads setup (behind setup before frame) (noted_of (rst_stream frame.id code)) (kept_behind_entry setup false before (coming frame) kept) refl refl).book)
        ∙ ap (λ (t : Table). record mid { rows = changed frame.id (Over true) mid.rows; table = t }) (table ∙ sym table_mid))

    opens_no : (change_between old.inbound.rows mid.rows frame.id).opens ≡ false
    opens_no = by (is_active old.inbound.rows frame.id) refl
      where
        by : (x : Bool) → is_active old.inbound.rows frame.id ≡ x → (not x && is_active mid.rows frame.id) ≡ false
        by true is = refl
        by false is = stays_idle setup before frame plain kept is

    held_is : without id_of frame.id upstream_mid.held ≡ without id_of frame.id old.upstreams.held
    held_is =
        ap (λ (hs : List Held). without id_of frame.id hs)
        (held_behind_it setup old rest frame plain mid table_mid left_mid mild run s leads (none_at_fault setup (told_by s) (noted_of frame) (Stream code) (ap (λ (x : Book). fault_in (summary_in x) (coming frame)) leads.keeps.book ∙ fault (record { given = s.ledger.book.given; untaken = old.untaken }))))
        ∙ by ((told_of_rows mid).served frame.id)
      where
        by : (x : Bool) → without id_of frame.id (if x then old.upstreams.held else without id_of frame.id old.upstreams.held) ≡ without id_of frame.id old.upstreams.held
        by true = refl
        by false = held_twice frame.id old.upstreams.held

    final_is : reset_view view_mid frame.id code ≡ final
    final_is =
        ap (λ (i : Inbound). record (reset_view view_mid frame.id code) { inbound = i }) inbound_is
        ∙ ap (λ (ks : List theory_responses.Kept). record (reset_view view_mid frame.id code) { inbound = inbound; offers = record old.offers { kept = ks } }) (all_goes frame.id (change_between old.inbound.rows mid.rows frame.id) old.offers.kept opens_no)
        ∙ ap (λ (hs : List Held). record final { upstreams = record old.upstreams { held = hs }; marks = without_side frame.id view_mid.marks }) held_is
        ∙ ap (λ (ms : List Side). record final { marks = ms }) marks_gone

    resets : nat_lt most_untaken old.untaken ≡ false → (outputs : List Output) → PerformsOwn setup view_mid owing outputs final paid (put outputs (ToClient (spell (rst_stream frame.id code))))
    resets free outputs =
        subst (λ n. PerformsOwn setup view_mid owing outputs final (record balanced { fresh = data_length is_any frame; shared = n }) (put outputs (ToClient (spell (rst_stream frame.id code))))) all_back
        (subst (λ (v : View). PerformsOwn setup view_mid owing outputs v (record balanced { fresh = data_length is_any frame; shared = owing.shared + waiting_for frame.id view_mid }) (put outputs (ToClient (spell (rst_stream frame.id code))))) final_is (reset_paid setup view_mid owing [] frame.id code refl refl known fits free outputs))

  -- The stream is reset, and nothing is kept of it any more.
  pub refused : nat_lt most_untaken old.untaken ≡ false → (outputs : List Output) → Brings setup old balanced outputs (coming frame) final paid (put outputs (ToClient (spell (rst_stream frame.id code))))
  refused free outputs run s leads =
      brings_then setup old view_mid final balanced owing paid outputs outputs (put outputs (ToClient (spell (rst_stream frame.id code)))) (coming frame) (comes run s leads outputs) (resets run s leads free outputs) run s leads

  -- It can't be, and the connection ends.
  pub refused_over : (outputs p : List Output) → IsCalmed (record old { inbound = inbound }) outputs p → ComesFrom setup old balanced outputs (OfFrame frame ∷ []) balanced None p
  refused_over outputs p calmed run s leads =
      calm_comes setup old view_mid balanced owing outputs outputs p (coming frame) (OfFrame frame) refl (comes run s leads outputs)
      (calm_ends setup view_mid owing (inl (rst_stream frame.id code, [], refl)) refl outputs p
      (calmed_as (record old { inbound = inbound }) view_mid outputs p (ap (λ (i : Inbound). ids_of i.rows) (sym (inbound_is run s leads)) ∙ same_ids frame.id (Over true) mid.rows) refl refl calmed))
      run s leads
