-- Frames of a response go out by the rule where moves led, and the state behind each has its form.
use Rattle.std.proofs.Common.{◌≡◌, ℕ, suc, ◌+◌, ◌<◌, Bool, true, false, not, ◌&&◌, ◌||◌, ◌==◌, if◌then◌else◌, List, [], ◌∷◌, ◌++◌, length, filter, Option, Some, None, refl, sym, ◌∙◌, ap, subst, inl, inr, ℤ, arith}
use Rattle.std.specs.Prelude.{is_none}
use Rattle.std.specs.List.{list_any}
use Rattle.std.proofs.lemmas.Bool.{cases_Bool, cases_eq, eq-eqb, and_parts, eqb-true, ne_eqb}
use Rattle.model.specs.Messages.{Item}
use Rattle.model.specs.Frames.{Frame, Fits, spell, ends_headers, window_update_kind, ends_stream, content}
use Rattle.model.specs.ErrorClause.{is_passing}
use Rattle.model.specs.Limits.{most_streams, high_water}
use Rattle.model.specs.Logs.{Output}
use Rattle.model.specs.Logs.Output.{ToClient}
use Rattle.model.specs.Setup.{Setup}
use Rattle.model.specs.Tables.{Table}
use Rattle.model.specs.Tapes.{Noted, put}
use Rattle.model.specs.Tapes.Entry.{Sent}
use Rattle.model.specs.Tapes.Note.{NoBlock}
use Rattle.model.specs.Turns.{IsNextTurn}
use Rattle.model.specs.Openings.{Opened}
use Rattle.model.specs.Decoding.{Partial, joined}
use Rattle.theory_errors.specs.Summary.{Stream as Kept, Outline}
use Rattle.theory_errors.specs.Judging.{completed_in, is_over_in}
use Rattle.theory_errors.specs.After.{begun_after}
use Rattle.theory_errors.specs.Owing.{must_end_in, is_rightly_sent_in}
use Rattle.theory_errors.specs.Rows.{Slot, ids_of, find, kept_in, slot_of}
use Rattle.theory_errors.specs.Rows.Slot.{Live, Over}
use Rattle.theory_errors.specs.Tidy.{AreKept}
use Rattle.theory_errors.specs.Book.{summary_in}
use Rattle.theory_errors.specs.Quiet.{noted_of}
use Rattle.theory_responses.specs.Outbox.{Part}
use Rattle.theory_responses.specs.State as theory_responses
use Rattle.theory_receive_windows.specs.State as theory_receive_windows
use Rattle.theory_requests.specs.Told.{Told}
use Rattle.theory_requests.specs.Lines.{without}
use Rattle.theory_requests.specs.State as theory_requests
use Rattle.theory_requests.specs.State.{Held, id_of}
use Rattle.theory_header_tables.specs.Rule.{MayGive, IsGiven}
use Rattle.theory_header_tables.specs.State as theory_header_tables
use Rattle.header_blocks.specs.Encoding.{Encoding}
use Rattle.streams.specs.Asked.{has, is_active, changed}
use Rattle.connection_state.specs.Inbound.{Inbound}
use Rattle.connection_state.specs.Sending.{LeadsTo}
use Rattle.connection_state.proofs.BlockRows.{active_closed}
use Rattle.connection_state.proofs.SendingBooks.{fragment_leads}
use Rattle.send_queue.specs.Asked.{windows_over}
use Rattle.effects.specs.Blocks.{IsFragment}
use Rattle.effects.proofs.Going as sending
use Rattle.upstream_connections.specs.Kept as upstreams
use Rattle.theory.specs.Moves.{told_in, window_of, Move}
use Rattle.theory.specs.Moves.Decision.{Sends, Goes}
use Rattle.theory.specs.Moves.Move.{Does}
use Rattle.theory.specs.State.{State}
use Rattle.theory.specs.Rule.{rooms_in}
use Rattle.theory.specs.Steps.{told_by, told_behind, next, MayGoOn}
use Rattle.theory_responses.specs.Sight.{sight_in}
use Rattle.window_credit.specs.Sides.{unless_over}
use Rattle.refinement.specs.View.{View, Pending, balanced, GoBack, waiting_for, IsCredited, AreMarked}
use Rattle.refinement.specs.Rest.{NoneCut}
use Rattle.refinement.specs.Passing.{MayPass, PartGoes}
use Rattle.refinement.proofs.Kept.{AreServed, held_behind}
use Rattle.refinement.proofs.Passing.{part_goes_on, fragment_goes_on}
use Rattle.refinement.proofs.Staying.{rows_kept, all_held_served}
use Rattle.theory_errors.proofs.Goaways.{passing_calmless}
use Rattle.event_handlers.specs.Forgetting.{forgotten}
use Rattle.event_handlers.specs.flushing.Changes.{part_gone, unless_active}
use Rattle.event_handlers.proofs.flushing.Rows.{found_other, found_own, over_told, active_other, active_own, not_flip}
use Rattle.event_handlers.proofs.flushing.Placed.{book_at, state_at, back_on, back_if, newest_of, At, held_same, marked_behind, behind_sent, behind_part}
use Rattle.event_handlers.proofs.flushing.Paths.{Path, sends_path, part_path}

stays_active : (b : Bool) → (b && not b) ≡ false
stays_active true = refl
stays_active false = refl

-- ---- what holds of a stream whose part goes

-- Something of the stream can go, it has the next turn, it is active and the gateway hasn't ended it; no reset is owed.
pub record MaySend (u : View) (id : ℕ) : Type 0 where
  pub none_cut : NoneCut u.offers
  pub turn : IsNextTurn u.offers.last (theory_responses.ready (windows_over u.inbound.rows u.inbound.first_size u.inbound.window) u.offers) (Some id)
  pub active : is_active u.inbound.rows id ≡ true
  pub unended : (find u.inbound.rows id).ended_by_gateway ≡ false
  pub small : id < 2147483648

-- one that is active is among those that are
some_active : (test : ℕ → Bool) (id : ℕ) → test id ≡ true → (ids : List ℕ) → list_any (λ other. other == id) ids ≡ true → (length (filter test ids) == 0) ≡ false
some_active test id on [] there = absurd (let clash : false ≡ true = there in cc)
some_active test id on (other ∷ ids) there = by (test other) refl (some_active test id on ids)
  where
    rest : test other ≡ false → list_any (λ n. n == id) ids ≡ true
    rest off = elim (cases_Bool (other == id)) [
      | inl same ↦ absurd (let clash : true ≡ false = sym on ∙ ap test (sym (eqb-true other id same)) ∙ off in cc)
      | inr apart ↦ sym (ap (λ b. b || list_any (λ n. n == id) ids) apart) ∙ there
    ]

    by : (b : Bool) → test other ≡ b → (list_any (λ n. n == id) ids ≡ true → (length (filter test ids) == 0) ≡ false) → (length (if b then other ∷ filter test ids else filter test ids) == 0) ≡ false
    by true is more = ne_eqb (suc (length (filter test ids))) 0 (λ same. omega (arith, same))
    by false is more = more (rest is)

and_no : (a b : Bool) → b ≡ false → (a && b) ≡ false
and_no true b off = off
and_no false b off = refl

-- while a stream is active the connection isn't to end
pub not_to_end : (u : View) (begun : Option Partial) (given : List Opened) (id : ℕ) → is_active u.inbound.rows id ≡ true → must_end_in (summary_in (book_at u begun given)) ≡ false
not_to_end u begun given id on =
    let parts = and_parts (has u.inbound.rows id) (not (is_over_in (find u.inbound.rows id))) on in
    and_no (u.inbound.drained || length (ids_of u.inbound.rows) == most_streams) (length (filter (λ n. not (is_over_in (find u.inbound.rows n))) (ids_of u.inbound.rows)) == 0)
    (some_active (λ n. not (is_over_in (find u.inbound.rows n))) id parts.1 (ids_of u.inbound.rows) parts.0)

-- ---- fragments

-- a frame with a fragment goes on with the block
pub joins : (id : ℕ) (begun : Option Partial) (frame : Frame) → IsFragment id begun frame → (b : Partial) × (joined begun frame ≡ Some b)
joins id None frame is = (_, ap (λ b. if b then Some (record { id = frame.id; ends = ends_stream frame; fragments = content frame }) else None) (eq-eqb frame.kind 1 is.kind))
joins id (Some p) frame is = (_, ap (λ b. if b then Some (record { id = p.id; ends = p.ends; fragments = p.fragments ++ content frame }) else None) (on (frame.kind == 9 && frame.id == p.id) is.together))
  where
    on : (b : Bool) → not b ≡ false → b ≡ true
    on true e = refl
    on false e = absurd (let clash : true ≡ false = e in cc)

-- one with which the block isn't complete doesn't end it
pub goes_on_with : (begun : Option Partial) (frame : Frame) (b : Partial) → joined begun frame ≡ Some b → completed_in begun frame ≡ None → ends_headers frame ≡ false
goes_on_with begun frame b is none = elim (cases_Bool (ends_headers frame)) [
  | inl ends ↦ (let clash : ◌≡◌ {A = Option Partial} (Some b) None = sym is ∙ sym (ap (λ x. if x then joined begun frame else None) ends) ∙ none in cc)
  | inr on ↦ on
]

module _ (setup : Setup) (run : List Move) (u : View) (begun : Option Partial) (given : List Opened) (rest : theory_header_tables.State) (windows : theory_receive_windows.Kept) (at : At setup run u [] begun given rest windows) where
  abbrev s : State
  s = state_at u [] begun given rest windows

  rows : AreKept u.inbound.rows
  rows = rows_kept setup run s at.stands

  served : AreServed (told_in (told_by s)) u.upstreams.held
  served = all_held_served setup run s at.stands at.so

  -- what any frame of a response asks
  pub may_pass : (noted : Noted) (table : Table) → MaySend u noted.frame.id → is_passing noted ≡ true → (noted.frame.kind == window_update_kind) ≡ false → is_rightly_sent_in (told_by s) noted.frame ≡ true → MayGive s.tables noted begun table → MayPass s noted table
  may_pass noted table may passing no_update rightly gives = record {
    open_yet = refl;
    nothing = refl;
    nothing_due = refl;
    goes_on = not_to_end u begun given noted.frame.id may.active;
    passing = passing;
    no_update = no_update;
    rightly = rightly;
    not_to_open = active_closed u.inbound.drained u.inbound.rows noted.frame.id may.active;
    in_turn = λ begins. record { none_cut = may.none_cut; turn = may.turn };
    table = gives;
  }

  module _ (frame : Frame) (may : MaySend u frame.id) (is : IsFragment frame.id begun frame) (in_time : begun ≡ None → u.untaken < high_water) where
    pub fragment_rightly : is_rightly_sent_in (told_by s) frame ≡ true
    fragment_rightly = sending.fragment_goes (told_by s) frame.id frame is may.active may.unended in_time

    module _ (goes : completed_in begun frame ≡ None) where
      abbrev v : View
      v = record u { untaken = u.untaken + length (spell frame) }

      more : (b : Partial) × (joined begun frame ≡ Some b)
      more = joins frame.id begun frame is

      unended : ends_headers frame ≡ false
      unended = goes_on_with begun frame more.0 more.1 goes

      leads : LeadsTo setup false (book_at u begun given) (Sent (noted_of frame)) (book_at v (Some more.0) given) []
      leads =
          subst (λ calms. LeadsTo setup false (book_at u begun given) (Sent (noted_of frame)) (record (book_at v (Some more.0) given) { ends = calms || false }) []) (passing_calmless (noted_of frame) (is.passing NoBlock))
          (fragment_leads setup (book_at u begun given) (noted_of frame) more.0 rows unended more.1)

      abbrev table : Table
      table = u.encoding.table

      fragment_may : MayGoOn setup s (Does (Sends (noted_of frame) table))
      fragment_may = fragment_goes_on setup s (noted_of frame) table refl (record {
        may = may_pass (noted_of frame) table may (is.passing NoBlock) is.no_update fragment_rightly (record {
          together = is.together;
          is_given = subst (λ (b : Option Partial). IsGiven b u.encoding NoBlock table) (sym goes) refl;
        });
        goes_on = goes;
        no_data = is.no_data;
      })

      fragment_next : next setup s (Does (Sends (noted_of frame) table)) ≡ state_at v [] (Some more.0) given rest windows
      fragment_next =
          behind_sent setup u [] begun given rest windows (noted_of frame) table (book_at v (Some more.0) given) [] leads (passing_calmless (noted_of frame) (is.passing NoBlock)) is.no_update false (stays_active (is_active u.inbound.rows frame.id)) run at.stands at.so at.marked u.upstreams.held (held_same (told_in (told_by s)) (told_in (summary_in (book_at v (Some more.0) given))) (λ id. refl) u.upstreams.held served)
          ∙ ap (λ b. record (state_at v [] (Some more.0) given rest windows) { offers = record u.offers { kept = theory_responses.unless_over b frame.id u.offers.kept }; tables = record rest { decoding = u.inbound.table; lost = false; encoding = theory_header_tables.encoding_after (completed_in begun frame) table u.encoding } }) is.no_reset
          ∙ ap (λ (b : Option Partial). record (state_at v [] (Some more.0) given rest windows) { tables = record rest { decoding = u.inbound.table; lost = false; encoding = theory_header_tables.encoding_after b table u.encoding } }) goes

      -- A fragment goes with which the block isn't complete.
      pub fragment_path : (outputs : List Output) → Path setup run u [] begun outputs v [] (begun_after begun frame) (put outputs (ToClient (spell frame))) given rest windows windows
      fragment_path outputs =
          subst (λ (b : Option Partial). Path setup run u [] begun outputs v [] b (put outputs (ToClient (spell frame))) given rest windows windows) (sym (ap (λ x. if x then None else joined begun frame) unended ∙ more.1))
          (sends_path setup given rest windows run u [] begun at v [] (Some more.0) outputs refl false frame.id refl at.credited (noted_of frame) table is.fits fragment_may fragment_next
          (marked_behind setup u [] begun given rest windows (noted_of frame) table (book_at v (Some more.0) given) [] leads (passing_calmless (noted_of frame) (is.passing NoBlock)) is.no_update false (stays_active (is_active u.inbound.rows frame.id)) run at.stands at.so at.marked u.upstreams.held (held_same (told_in (told_by s)) (told_in (summary_in (book_at v (Some more.0) given))) (λ id. refl) u.upstreams.held served) (Sends (noted_of frame) table) refl refl))

-- ---- octets go back on the same streams

module _ (inbound : Inbound) (window : ℤ) (id : ℕ) (slot : Slot) (active : is_active inbound.rows id ≡ true) (client : (kept_in slot).ended_by_client ≡ false → (find inbound.rows id).ended_by_client ≡ false) where
  abbrev behind : Inbound
  behind = record inbound { window = window; rows = changed id slot inbound.rows }

  there : has inbound.rows id ≡ true
  there = (and_parts (has inbound.rows id) (not (is_over_in (find inbound.rows id))) active).0

  back : (other : ℕ) → GoBack behind other → GoBack inbound other
  back other goes = elim (cases_eq id other) [
    | inl same ↦ subst (GoBack inbound) same (record { active = active; goes_on = client (sym (ap (λ (k : Kept). k.ended_by_client) (found_own id slot inbound.rows there)) ∙ ap (λ n. (find behind.rows n).ended_by_client) same ∙ goes.goes_on) })
    | inr apart ↦
        let other_row = ne_eqb id other apart in
        record {
          active = sym (active_other id slot inbound.rows other other_row) ∙ goes.active;
          goes_on = sym (ap (λ (k : Kept). k.ended_by_client) (found_other id slot inbound.rows other other_row)) ∙ goes.goes_on;
        }
  ]

  pub credited_still : (pending : Pending) (windows : theory_receive_windows.Kept) → IsCredited pending inbound windows → IsCredited pending behind windows
  credited_still pending windows c = record { fresh = c.fresh; shared = c.shared; own = λ other goes. c.own other (back other goes) }

-- ---- a part is complete

live_slot : (k : Kept) → is_over_in k ≡ false → slot_of k ≡ Live k
live_slot k on = ap (λ b. if b then Over k.reset_by_gateway else Live k) on

module _ (setup : Setup) (run : List Move) (u : View) (begun : Option Partial) (given : List Opened) (rest : theory_header_tables.State) (windows : theory_receive_windows.Kept) (at : At setup run u [] begun given rest windows)
    (noted : Noted) (no_update : (noted.frame.kind == window_update_kind) ≡ false) (fits : Fits noted.frame) (item : Item) (part : Part) (table : Table) (k : Kept) (window : ℤ) (encoding : Encoding) (called : List Frame) (active : is_active u.inbound.rows noted.frame.id ≡ true) where
  abbrev id : ℕ
  id = noted.frame.id

  abbrev gone : View
  gone = part_gone id part k window encoding (length (spell noted.frame)) u

  abbrev state : State
  state = state_at u [] begun given rest windows

  abbrev told : Told
  told = told_in (told_by state)

  abbrev told_then : Told
  told_then = told_in (summary_in (book_at gone None given))

  is_there : has u.inbound.rows id ≡ true
  is_there = (and_parts (has u.inbound.rows id) (not (is_over_in (find u.inbound.rows id))) active).0

  served_here : AreServed told u.upstreams.held
  served_here = all_held_served setup run state at.stands at.so

  others_same : (other : ℕ) → (id == other) ≡ false → told_then.served other ≡ told.served other
  others_same other apart =
      ap (λ b. b && is_none (find gone.inbound.rows other).outline.cause) (active_other id (slot_of k) u.inbound.rows other apart)
      ∙ ap (λ (x : Kept). is_active u.inbound.rows other && is_none x.outline.cause) (found_other id (slot_of k) u.inbound.rows other apart)

  module _ (outline_same : k.outline ≡ (find u.inbound.rows id).outline) (client_same : k.ended_by_client ≡ (find u.inbound.rows id).ended_by_client)
      (leads : LeadsTo setup false (book_at u begun given) (Sent noted) (book_at gone None given) called) (encoded : theory_header_tables.encoding_after (completed_in begun noted.frame) table u.encoding ≡ encoding) (goes : PartGoes state noted item part table) where
    -- it is active then
    module _ (still : is_active gone.inbound.rows id ≡ true) where
      found_live : find gone.inbound.rows id ≡ k
      found_live =
          let on : is_over_in k ≡ false = sym (over_told k) ∙ not_flip (is_over_in (kept_in (slot_of k))) (sym (active_own id (slot_of k) u.inbound.rows is_there) ∙ still) in
          found_own id (slot_of k) u.inbound.rows is_there ∙ ap kept_in (live_slot k on)

      same_served : (other : ℕ) → told_then.served other ≡ told.served other
      same_served other = elim (cases_eq id other) [
        | inl same ↦ subst (λ n. told_then.served n ≡ told.served n) same
            (ap (λ b. b && is_none (find gone.inbound.rows id).outline.cause) (still ∙ sym active)
            ∙ ap (λ (x : Kept). is_active u.inbound.rows id && is_none x.outline.cause) found_live
            ∙ ap (λ (x : Outline). is_active u.inbound.rows id && is_none x.cause) outline_same)
        | inr apart ↦ others_same other (ne_eqb id other apart)
      ]

    client_still : (kept_in (slot_of k)).ended_by_client ≡ false → (find u.inbound.rows id).ended_by_client ≡ false
    client_still off = by (is_over_in k) refl
      where
        by : (b : Bool) → is_over_in k ≡ b → (find u.inbound.rows id).ended_by_client ≡ false
        by true over = absurd (let clash : true ≡ false = sym (ap (λ b. (kept_in (if b then Over k.reset_by_gateway else Live k)).ended_by_client) over) ∙ off in cc)
        by false on = sym client_same ∙ sym (ap (λ (x : Slot). (kept_in x).ended_by_client) (live_slot k on)) ∙ off

    may_go : MayGoOn setup state (Does (Goes noted item part table))
    may_go = part_goes_on setup state noted item part table refl goes

    credited_then : IsCredited (record balanced { shared = windows.debt }) gone.inbound windows
    credited_then = credited_still u.inbound window id (slot_of k) active client_still (record balanced { shared = windows.debt }) windows at.credited

    credited_over : IsCredited (record balanced { shared = (back_on (waiting_for id u) windows).debt }) gone.inbound (back_on (waiting_for id u) windows)
    credited_over = record { fresh = credited_then.fresh; shared = refl; own = credited_then.own }

    over_then : (b : Bool) → is_active gone.inbound.rows id ≡ b → (is_active u.inbound.rows id && not (is_active gone.inbound.rows id)) ≡ not b
    over_then b is = ap (λ x. x && not (is_active gone.inbound.rows id)) active ∙ ap not is

    -- A part goes: behind it the stream is kept while it is active.
    pub whole_path : (outputs : List Output) → Path setup run u [] begun outputs (unless_active id gone) called None (put outputs (ToClient (spell noted.frame))) given rest windows (back_if (not (is_active gone.inbound.rows id)) id u windows)
    whole_path outputs = by (is_active gone.inbound.rows id) refl
      where
        gone_held : is_active gone.inbound.rows id ≡ false → theory_requests.kept told_then u.upstreams.held ≡ without id_of id u.upstreams.held
        gone_held is = held_behind told told_then id others_same u.upstreams.held served_here ∙ ap (λ b. if b && is_none (find gone.inbound.rows id).outline.cause then u.upstreams.held else without id_of id u.upstreams.held) is

        step : (b : Bool) → is_active gone.inbound.rows id ≡ b → (held : List Held) → theory_requests.kept told_then u.upstreams.held ≡ held
            → next setup state (Does (Goes noted item part table)) ≡ record (state_at gone called None given rest (back_if (not b) id u windows)) { offers = record { kept = theory_responses.unless_over (not b) id (theory_responses.change id (theory_responses.gone part) u.offers.kept); last = id }; requests = upstreams.with_due (record u.upstreams { held = held }) theory_requests.Due.Nothing }
        step b is held same =
            behind_part setup u [] begun given rest windows noted table (book_at gone None given) called leads (passing_calmless noted goes.may.passing) no_update (not b) (over_then b is) run at.stands at.so at.marked held same item part
            ∙ ap (λ x. record (state_at gone called None given rest (back_if (not b) id u windows)) { offers = record { kept = theory_responses.unless_over (not x) id (theory_responses.change id (theory_responses.gone part) u.offers.kept); last = id }; requests = upstreams.with_due (record u.upstreams { held = held }) theory_requests.Due.Nothing; tables = record rest { decoding = u.inbound.table; lost = false; encoding = theory_header_tables.encoding_after (completed_in begun noted.frame) table u.encoding } }) is
            ∙ ap (λ (e : Encoding). record (state_at gone called None given rest (back_if (not b) id u windows)) { offers = record { kept = theory_responses.unless_over (not b) id (theory_responses.change id (theory_responses.gone part) u.offers.kept); last = id }; requests = upstreams.with_due (record u.upstreams { held = held }) theory_requests.Due.Nothing; tables = record rest { decoding = u.inbound.table; lost = false; encoding = e } }) encoded

        marked_now : (b : Bool) → is_active gone.inbound.rows id ≡ b → (held : List Held) → theory_requests.kept told_then u.upstreams.held ≡ held
            → AreMarked setup.passing (newest_of given) (unless_over (not b) id u.marks) (theory_receive_windows.after setup.passing (rooms_in (told_by state) state) (window_of (sight_in (told_by state)) (sight_in (told_behind setup state (Goes noted item part table))) (Goes noted item part table)))
        marked_now b is held same =
            marked_behind setup u [] begun given rest windows noted table (book_at gone None given) called leads (passing_calmless noted goes.may.passing) no_update (not b) (over_then b is) run at.stands at.so at.marked held same (Goes noted item part table) refl refl

        by : (b : Bool) → is_active gone.inbound.rows id ≡ b → Path setup run u [] begun outputs (if b then gone else forgotten id gone) called None (put outputs (ToClient (spell noted.frame))) given rest windows (back_if (not b) id u windows)
        by true is =
            part_path setup given rest windows run u [] begun at gone called None outputs refl false id refl credited_then noted item part table fits may_go
            (step true is u.upstreams.held (held_same told told_then (same_served is) u.upstreams.held served_here))
            (marked_now true is u.upstreams.held (held_same told told_then (same_served is) u.upstreams.held served_here))
        by false is =
            part_path setup given rest windows run u [] begun at (forgotten id gone) called None outputs refl true id refl credited_over noted item part table fits may_go
            (step false is (without id_of id u.upstreams.held) (gone_held is)) (marked_now false is (without id_of id u.upstreams.held) (gone_held is))
