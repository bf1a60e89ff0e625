-- A frame without a fragment of a header block that isn't an error of the connection: its move, and where that leads.
use Rattle.std.proofs.Common.{◌≡◌, ℕ, ◌≤◌, Bool, true, false, ◌&&◌, if◌then◌else◌, List, [], ◌∷◌, length, Option, None, refl, sym, ◌∙◌, ap, subst, inl, inr}
use Rattle.std.proofs.lemmas.Bool.Decides.{eqb_tells}
use Rattle.std.specs.Prelude.{is_none}
use Rattle.model.specs.Frames.{Frame}
use Rattle.model.specs.Logs.{Output}
use Rattle.model.specs.Setup.{Setup}
use Rattle.model.specs.Tables.{Table}
use Rattle.model.specs.Tapes.{Noted}
use Rattle.model.specs.Tapes.Note.{NoBlock}
use Rattle.model.specs.Decoding.{Partial}
use Rattle.model.specs.Known.{Known}
use Rattle.model.specs.Limits.{most_streams}
use Rattle.model.specs.ErrorClause.{is_fatal}
use Rattle.model.specs.Causes.{Cause}
use Rattle.model.specs.WindowsOnTape.{is_any, data_length}
use Rattle.theory_errors.specs.Judging.{completed_in}
use Rattle.theory_errors.specs.Owing.{fault_in, owes_in}
use Rattle.theory_errors.specs.Rule.{known_of}
use Rattle.theory_errors.specs.Rows.{Row, ids_of, find}
use Rattle.theory_errors.specs.Quiet.{noted_of, coming}
use Rattle.theory_errors.specs.Book.{Book, summary_in, book_after}
use Rattle.theory_errors.specs.Tidy.{AreKept}
use Rattle.theory_errors.proofs.Knowing.{known_so}
use Rattle.theory_errors.proofs.Telling.{book_told}
use Rattle.theory_responses.specs.State as theory_responses
use Rattle.theory_requests.specs.Told.{Told}
use Rattle.theory_requests.specs.State as theory_requests
use Rattle.theory_requests.specs.Lines.{without}
use Rattle.theory_requests.specs.State.{Held, Due, id_of}
use Rattle.header_blocks.specs.Encoding.{Encoding}
use Rattle.theory_header_tables.specs.Rule.{IsNoted}
use Rattle.theory_header_tables.specs.State as theory_header_tables
use Rattle.theory_header_tables.specs.State.{named_by}
use Rattle.theory_header_tables.specs.Verdicts.{verdict_in}
use Rattle.streams.specs.Asked.{is_active}
use Rattle.connection_state.specs.Inbound.{Inbound, Outside, book_of, told_of}
use Rattle.connection_state.specs.Judgement.{IsPlain, behind}
use Rattle.upstream_connections.specs.Kept as upstreams
use Rattle.theory.specs.Moves.{Addition, Move, told_in, gained}
use Rattle.theory.specs.Moves.Decision.{Takes}
use Rattle.theory.specs.Moves.Move.{Does}
use Rattle.theory.specs.State.{State, conducts}
use Rattle.theory.specs.Rule.{added_in}
use Rattle.theory.specs.Coming.{IsGained}
use Rattle.theory.specs.Steps.{told_by, told_behind, next}
use Rattle.theory.proofs.Telling.{all_moved}
use Rattle.refinement.specs.Taking.{IsFrameTaken}
use Rattle.refinement.specs.View.{View, balanced, Leads}
use Rattle.refinement.specs.Rest.{IsAtRest}
use Rattle.refinement.specs.Bringing.{Brings}
use Rattle.refinement.proofs.Kept.{AreServed, change_none}
use Rattle.refinement.proofs.Staying.{rows_kept, all_held_served}
use Rattle.refinement.proofs.Resting.{rests_are_ready}
use Rattle.refinement.proofs.Coming as coming
use Rattle.window_credit.specs.Sides.{Side, unless_over}
use Rattle.window_credit.specs.Standing.{dropped_of}
use Rattle.refinement.proofs.Coming.{outside_of, inbound_in, inbound_behind, change_between, offers_with, encoding_with, told_of_rows, leads_then, begins}
use Rattle.event_handlers.proofs.plain_frames.Streams.{none_completed, change_is_none}

-- ---- where moves led

module _ (setup : Setup) (run : List Move) (old : View) (s : State) (leads : Leads setup run old balanced s) where
  abbrev known : Known
  known = known_of setup (conducts run)

  -- no more streams were opened than a connection may have
  pub few : length (ids_of s.ledger.book.rows) ≤ most_streams
  few =
      let told = book_told known (conducts run) (known_so setup (conducts run)) (all_moved known run leads.stands.allowed) (ap (λ (x : State). x.ledger.book.ends) leads.stands.is ∙ leads.stands.goes_on) in
      subst (λ (x : State). length (ids_of x.ledger.book.rows) ≤ most_streams) leads.stands.is (subst (λ (ids : List ℕ). length ids ≤ most_streams) (sym told.stand.ids) told.stand.few)

  -- rows hold what they should
  pub kept_rows : AreKept old.inbound.rows
  kept_rows = subst (λ (b : Book). AreKept b.rows) leads.keeps.book (rows_kept setup run s leads.stands)

  -- all that is held is of streams that are served
  pub held_served : AreServed (told_of_rows old.inbound) old.upstreams.held
  held_served =
      subst (λ (hs : List Held). AreServed (told_of_rows old.inbound) hs) (ap (λ (r : theory_requests.State). r.held) leads.keeps.requests)
      (subst (λ (b : Book). AreServed (told_in (summary_in b)) s.requests.held) leads.keeps.book (all_held_served setup run s leads.stands leads.so))

-- of a stream that isn't served nothing is held
pub without_none : (told : Told) (id : ℕ) (hs : List Held) → AreServed told hs → told.served id ≡ false → without id_of id hs ≡ hs
without_none told id [] are none = refl
without_none told id (h ∷ hs) are none = elim (eqb_tells h.id id) [
  | inl is ↦ absurd (let no : true ≡ false = sym are.0 ∙ ap (λ n. told.served n) is.1 ∙ none in cc)
  | inr apart ↦ ap (λ b. if b then without id_of id hs else h ∷ without id_of id hs) apart.0 ∙ ap (λ (xs : List Held). h ∷ xs) (without_none told id hs are.1 none)
]

-- ---- the frame

module _ (setup : Setup) (old : View) (rest : IsAtRest old) (frame : Frame) (plain : IsPlain frame) (inbound : Inbound) (table : inbound.table ≡ old.inbound.table) (left : book_of (outside_of old.untaken) inbound ≡ behind setup (book_of (outside_of old.untaken) old.inbound) frame) (mild : (outside : Outside) → is_fatal (fault_in (told_of outside old.inbound) (coming frame)) ≡ false) where
  abbrev noted : Noted
  noted = noted_of frame

  abbrev block_none : (o : Option Partial) → o ≡ None → theory_header_tables.table_after o old.inbound.table old.inbound.table ≡ old.inbound.table
  block_none o none = ap (λ (o : Option Partial). theory_header_tables.table_after o old.inbound.table old.inbound.table) none

  completes_none : (b : Book) → AreKept b.rows → completed_in b.block frame ≡ None
  completes_none b kept = none_completed setup b frame plain kept

  -- what is kept behind the frame is what the judgement leaves
  same_inbound : AreKept old.inbound.rows → inbound_behind setup old.untaken old.inbound noted old.inbound.table ≡ inbound
  same_inbound kept =
      ap (λ (b : Book). inbound_in (theory_header_tables.table_after (completed_in old.inbound.block frame) old.inbound.table old.inbound.table) b) (sym left)
      ∙ ap (λ (t : Table). record inbound { table = t }) (block_none (completed_in old.inbound.block frame) (completes_none (book_of (outside_of old.untaken) old.inbound) kept) ∙ sym table)

  -- What it gains its request, what is kept of requests then, what is on offer, and what is kept of DATA that waits, with what goes back of it.
  pub record Passes (offers : theory_responses.State) (upstream : upstreams.State) (sides : List Side) (shared : ℕ) (due : Due) (s : State) : Type 0 where
    pub addition : Addition
    pub right : IsGained setup (told_behind setup s (Takes (noted_of frame) old.inbound.table addition)) s (noted_of frame) addition
    pub requests : theory_requests.after setup (told_of_rows inbound) (upstreams.with_due old.upstreams Due.Nothing) (gained (noted_of frame) addition) ≡ upstreams.with_due upstream due
    pub on_offer : offers_with frame.id (change_between old.inbound.rows inbound.rows frame.id) old.offers ≡ offers
    pub marked : unless_over (change_between old.inbound.rows inbound.rows frame.id).over frame.id old.marks ≡ sides
    pub returned : dropped_of (change_between old.inbound.rows inbound.rows frame.id).over frame.id old.marks ≡ shared

  taken_with : (run : List Move) (s : State) → Leads setup run old balanced s → (addition : Addition) → IsGained setup (told_behind setup s (Takes noted old.inbound.table addition)) s noted addition → IsFrameTaken setup s noted old.inbound.table addition
  taken_with run s leads addition right = record {
    mild = subst (λ (b : Book). is_fatal (fault_in (summary_in b) (coming frame)) ≡ false) (sym leads.keeps.book) (mild (record { given = s.ledger.book.given; untaken = old.untaken }));
    noted_right = record { is_noted = subst (λ (o : Option Partial). IsNoted o (verdict_in (told_by s) frame).is_error s.tables.decoding NoBlock old.inbound.table) (sym (completes_none s.ledger.book (rows_kept setup run s leads.stands))) refl };
    read = λ unread. absurd (let no : true ≡ false = unread in cc);
    gained = right;
  }

  -- The frame comes, and this is kept behind it.
  pub came : (owed : List Frame) (due : Due) (offers : theory_responses.State) (upstream : upstreams.State) (sides : List Side) (shared : ℕ) (encoding : Encoding) → upstream.live ≡ old.upstreams.live
      → ((outside : Outside) → owes_in setup false (told_of outside old.inbound) (coming frame) ≡ owed)
      → ((outside : Outside) → encoding_with (named_by (verdict_in (told_of outside old.inbound) frame) frame) old.encoding ≡ encoding)
      → ((run : List Move) (s : State) → Leads setup run old balanced s → Passes offers upstream sides shared due s) → (outputs : List Output)
      → Brings setup old balanced outputs (coming frame) (record { inbound = inbound; offers = offers; upstreams = upstream; marks = sides; encoding = encoding; untaken = old.untaken }) (record balanced { owed = owed; due = due; fresh = data_length is_any frame; shared = shared }) outputs
  came owed due offers upstream sides shared encoding live owes encodes by outputs run s leads =
      let p = by run s leads in
      let ready = rests_are_ready setup run old s leads rest in
      let taken = taken_with run s leads p.addition p.right in
      let same = same_inbound (kept_rows setup run old s leads) in
      let outside : Outside = record { given = s.ledger.book.given; untaken = old.untaken } in
      let on_offer : offers_with frame.id (change_between old.inbound.rows (inbound_behind setup old.untaken old.inbound noted old.inbound.table).rows frame.id) old.offers ≡ offers =
      ap (λ (i : Inbound). offers_with frame.id (change_between old.inbound.rows i.rows frame.id) old.offers) same ∙ p.on_offer in
      let requests : theory_requests.after setup (told_of_rows (inbound_behind setup old.untaken old.inbound noted old.inbound.table)) (upstreams.with_due old.upstreams Due.Nothing) (gained noted p.addition) ≡ upstreams.with_due upstream due =
      ap (λ (i : Inbound). theory_requests.after setup (told_of_rows i) (upstreams.with_due old.upstreams Due.Nothing) (gained noted p.addition)) same ∙ p.requests in
      let marked : unless_over (change_between old.inbound.rows (inbound_behind setup old.untaken old.inbound noted old.inbound.table).rows frame.id).over frame.id old.marks ≡ sides =
      ap (λ (i : Inbound). unless_over (change_between old.inbound.rows i.rows frame.id).over frame.id old.marks) same ∙ p.marked in
      let returned : dropped_of (change_between old.inbound.rows (inbound_behind setup old.untaken old.inbound noted old.inbound.table).rows frame.id).over frame.id old.marks ≡ shared =
      ap (λ (i : Inbound). dropped_of (change_between old.inbound.rows i.rows frame.id).over frame.id old.marks) same ∙ p.returned in
      begins setup run old s leads ready noted old.inbound.table p.addition taken outputs _ _
      (subst (λ (e : Encoding). Leads setup (Does (Takes noted old.inbound.table p.addition) ∷ run) (record { inbound = inbound; offers = offers; upstreams = upstream; marks = sides; encoding = e; untaken = old.untaken }) (record balanced { owed = owed; due = due; fresh = data_length is_any frame; shared = shared }) (next setup s (Does (Takes noted old.inbound.table p.addition)))) (encodes outside)
      (subst (λ (i : Inbound). Leads setup (Does (Takes noted old.inbound.table p.addition) ∷ run) (record { inbound = i; offers = offers; upstreams = upstream; marks = sides; encoding = encoding_with (named_by (verdict_in (told_of outside old.inbound) frame) frame) old.encoding; untaken = old.untaken }) (record balanced { owed = owed; due = due; fresh = data_length is_any frame; shared = shared }) (next setup s (Does (Takes noted old.inbound.table p.addition)))) same
      (leads_then setup run old s leads ready noted old.inbound.table p.addition taken owed due offers upstream sides shared live (owes outside) on_offer requests marked returned)))

  -- ---- where it gains nothing

  module _ (run : List Move) (s : State) (leads : Leads setup run old balanced s) (none : added_in setup (told_by s) (noted_of frame) ≡ []) where
    -- what is held then
    pub held_behind_it : theory_requests.kept (told_of_rows inbound) old.upstreams.held ≡ (if (told_of_rows inbound).served frame.id then old.upstreams.held else without id_of frame.id old.upstreams.held)
    held_behind_it =
        subst (λ (i : Inbound). theory_requests.kept (told_of_rows i) old.upstreams.held ≡ (if (told_of_rows i).served frame.id then old.upstreams.held else without id_of frame.id old.upstreams.held)) (same_inbound (kept_rows setup run old s leads))
        (coming.held_then setup run old s leads (rests_are_ready setup run old s leads rest) noted old.inbound.table Addition.Nothing (taken_with run s leads Addition.Nothing none))

    -- it stays where the stream is served as before
    pub held_stays : (told_of_rows inbound).served frame.id ≡ (told_of_rows old.inbound).served frame.id → theory_requests.kept (told_of_rows inbound) old.upstreams.held ≡ old.upstreams.held
    held_stays same = held_behind_it ∙ by ((told_of_rows inbound).served frame.id) refl
      where
        by : (b : Bool) → (told_of_rows inbound).served frame.id ≡ b → (if b then old.upstreams.held else without id_of frame.id old.upstreams.held) ≡ old.upstreams.held
        by true is = refl
        by false is = without_none (told_of_rows old.inbound) frame.id old.upstreams.held (held_served setup run old s leads) (sym same ∙ is)

    -- nothing stays of the stream where it isn't served any more
    pub held_goes : (told_of_rows inbound).served frame.id ≡ false → theory_requests.kept (told_of_rows inbound) old.upstreams.held ≡ without id_of frame.id old.upstreams.held
    held_goes off = held_behind_it ∙ ap (λ b. if b then old.upstreams.held else without id_of frame.id old.upstreams.held) off

    -- Nothing changes where the stream is as before.
    pub passes_same : (is_active inbound.rows frame.id ≡ is_active old.inbound.rows frame.id) × ((find inbound.rows frame.id).outline.cause ≡ (find old.inbound.rows frame.id).outline.cause) → Passes old.offers old.upstreams old.marks 0 Due.Nothing s
    passes_same same =
        let b : Book = book_of (outside_of old.untaken) old.inbound in
        let kept = kept_rows setup run old s leads in
        let rows : inbound.rows ≡ (book_after setup false b (coming frame)).rows = ap (λ (x : Book). x.rows) left in
        let there = subst (λ (rows : List Row). (is_active rows frame.id ≡ is_active old.inbound.rows frame.id) × ((find rows frame.id).outline.cause ≡ (find old.inbound.rows frame.id).outline.cause)) rows same in
        record {
          addition = Addition.Nothing;
          right = none;
          requests = ap (λ (hs : List Held). upstreams.with_due (record old.upstreams { held = hs }) Due.Nothing) (held_stays (ap (λ x. x && is_none (find inbound.rows frame.id).outline.cause) same.0 ∙ ap (λ (o : Option Cause). is_active old.inbound.rows frame.id && is_none o) same.1));
          on_offer =
              ap (λ (rows : List Row). offers_with frame.id (change_between old.inbound.rows rows frame.id) old.offers) rows
              ∙ ap (λ (c : theory_responses.Change). offers_with frame.id c old.offers) (change_is_none setup b frame plain kept there)
              ∙ ap (λ (ks : List theory_responses.Kept). record old.offers { kept = ks }) (change_none frame.id old.offers.kept);
          marked =
              ap (λ (rows : List Row). unless_over (change_between old.inbound.rows rows frame.id).over frame.id old.marks) rows
              ∙ ap (λ (c : theory_responses.Change). unless_over c.over frame.id old.marks) (change_is_none setup b frame plain kept there);
          returned =
              ap (λ (rows : List Row). dropped_of (change_between old.inbound.rows rows frame.id).over frame.id old.marks) rows
              ∙ ap (λ (c : theory_responses.Change). dropped_of c.over frame.id old.marks) (change_is_none setup b frame plain kept there);
        }
