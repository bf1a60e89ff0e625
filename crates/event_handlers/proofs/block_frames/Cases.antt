-- What a frame with a fragment of a header block brings, by what it gains and by what it calls for.
use Rattle.std.proofs.Common.{◌≡◌, ℕ, ◌<◌, ◌+◌, Bool, true, false, not, ◌&&◌, ◌||◌, ◌==◌, if◌then◌else◌, List, [], ◌∷◌, ◌++◌, length, Option, Some, None, refl, sym, ◌∙◌, ap, subst, arith, nat_lt, inl, inr}
use Rattle.std.specs.Prelude.{is_some}
use Rattle.std.specs.List.{list_any}
use Rattle.std.proofs.lemmas.Bool.{eq-eqb}
use Rattle.model.specs.Frames.{Frame, Fits, goaway, no_error, spell}
use Rattle.model.specs.Logs.{Output}
use Rattle.model.specs.Logs.Output.{ToClient}
use Rattle.model.specs.Setup.{Setup}
use Rattle.model.specs.Tables.{Table}
use Rattle.model.specs.Tapes.{Note, Noted, put}
use Rattle.model.specs.Tapes.Note.{NoBlock, Fields, Undecodable, Unread}
use Rattle.model.specs.Tapes.Entry.{Came}
use Rattle.model.specs.Causes.{Cause}
use Rattle.model.specs.Decoding.{Partial, is_read}
use Rattle.model.specs.Errors.{Fault}
use Rattle.model.specs.ErrorClause.{is_fatal, rst_stream}
use Rattle.model.specs.Lifetimes.{may_open, opens_by}
use Rattle.model.proofs.OpenedLaws.{not_opened}
use Rattle.theory_errors.specs.Judging.{completed_in}
use Rattle.theory_errors.specs.Owing.{fault_in, owes_in}
use Rattle.theory_errors.specs.Rows.{Row, ids_of, find}
use Rattle.theory_errors.specs.Rows.Slot.{Over}
use Rattle.theory_errors.specs.Book.{Book, summary_in, is_told}
use Rattle.theory_errors.proofs.Calm.{fatal_before_block, idle_frame_is}
use Rattle.theory_errors.proofs.Rows.{ids_changed}
use Rattle.theory_responses.specs.State as theory_responses
use Rattle.theory_responses.specs.Rule.{found_by}
use Rattle.theory_requests.specs.Lines as lines
use Rattle.theory_requests.specs.State.{Held, id_of}
use Rattle.theory_requests.specs.State.Due.{Nothing}
use Rattle.theory_header_tables.specs.Rule.{IsNoted}
use Rattle.theory_header_tables.specs.Verdicts.{verdict_in}
use Rattle.streams.specs.Asked.{is_active, changed}
use Rattle.streams.specs.Sending.{is_served}
use Rattle.connection_state.specs.Inbound.{Inbound, told_of}
use Rattle.connection_state.specs.Fragments.{IsOfBlock}
use Rattle.upstream_connections.specs.Kept as upstreams
use Rattle.upstream_connections.specs.Kept.{with_due}
use Rattle.theory.specs.Moves.{Move}
use Rattle.theory.specs.Moves.Addition.{Nothing as NoAddition}
use Rattle.theory.specs.Moves.Decision.{Takes}
use Rattle.theory.specs.State.{State}
use Rattle.theory.specs.Rule.{added_in}
use Rattle.theory.specs.Coming.{IsGained}
use Rattle.theory.specs.Steps.{told_behind}
use Rattle.theory_receive_windows.specs.Marks.{total}
use Rattle.window_credit.specs.Sides.{Side, queue_if, queue_of}
use Rattle.window_credit.specs.Sides.{without as without_side}
use Rattle.window_credit.proofs.Looking.{gone_own}
use Rattle.window_credit.proofs.Rising.{without_none}
use Rattle.refinement.specs.View.{View, balanced, waiting_for, Leads, Pending}
use Rattle.refinement.specs.Rest.{IsAtRest}
use Rattle.refinement.specs.Bringing.{Brings, PerformsOwn}
use Rattle.refinement.proofs.Bringing.{own_none, own_then, brings_then}
use Rattle.refinement.proofs.Coming.{outside_of, inbound_behind, change_between, offers_with}
use Rattle.refinement.proofs.Coming as coming
use Rattle.refinement.proofs.Resets.{reset_view, reset_paid}
use Rattle.event_handlers.proofs.paying.Paying.{pays_control}
use Rattle.event_handlers.specs.declared.paying.control.Control.TheVariants as control
use Rattle.std.proofs.lemmas.Bool.{ltb-false, le-ltb}
use Rattle.model.specs.Limits.{most_untaken}
use Rattle.upstream_connections.specs.Connections.{lives}
use Rattle.event_handlers.specs.Comings.{ComesFrom}
use Rattle.event_handlers.specs.Inputs.Input.{OfFrame}
use Rattle.event_handlers.specs.Stopping.{EndsFrom}
use Rattle.event_handlers.proofs.Calming.{calmed_as, calm_ends, calm_behind, calm_comes}
use Rattle.event_handlers.specs.Forgetting.{forgotten}
use Rattle.event_handlers.specs.block_frames.Following.{offers_if, held_if, marks_if, dropped_if, dropped_by, followed, goaway_frames, with_goaway, put_goaway, IsCalmedBehind, WasFree}
use Rattle.event_handlers.proofs.block_frames.Lists.{offers_followed, offers_replied, offers_gone, held_by, held_gone}
use Rattle.event_handlers.proofs.block_frames.Before.{ready, box_there, is_taken, leads_there}

-- the GOAWAY is paid, if it is owed
pub pays_goaway : (setup : Setup) (kept : View) (back : ℕ) (last : Option ℕ) (rest : List Frame) → WasFree last kept → (outputs : List Output)
    → PerformsOwn setup kept (record balanced { owed = goaway_frames last ++ rest; shared = back }) outputs (with_goaway last kept) (record balanced { owed = rest; shared = back }) (put_goaway last outputs)
pays_goaway setup kept back None rest free outputs = own_none setup kept (record balanced { owed = rest; shared = back }) outputs
pays_goaway setup kept back (Some last) rest free outputs = pays_control setup kept (record balanced { owed = goaway last no_error ∷ rest; shared = back }) rest (control.Goaway last no_error) tt refl free refl (inr refl) outputs

-- it could be, where not too many octets are untaken behind it
was_free : (last : Option ℕ) (kept : View) → nat_lt most_untaken (with_goaway last kept).untaken ≡ false → WasFree last kept
was_free None kept free = tt
was_free (Some last) kept free = le-ltb most_untaken kept.untaken (let low = ltb-false most_untaken (kept.untaken + length (spell (goaway last no_error))) free in omega (arith, low))

-- a view with the same streams, connections and untaken octets ends the same way behind a GOAWAY
pub calmed_behind_as : (last : Option ℕ) (a b : View) (o p : List Output) → ids_of a.inbound.rows ≡ ids_of b.inbound.rows → lives a.upstreams.live ≡ lives b.upstreams.live → a.untaken ≡ b.untaken → IsCalmedBehind last a o p → IsCalmedBehind last b o p
calmed_behind_as last a b o p ids live untaken (inl is) = inl (calmed_as a b o p ids live untaken is)
calmed_behind_as None a b o p ids live untaken (inr (free, is)) = inr (tt, calmed_as a b o p ids live untaken is)
calmed_behind_as (Some last) a b o p ids live untaken (inr (free, is)) =
    inr (ap (nat_lt most_untaken) (sym untaken) ∙ free, calmed_as (with_goaway (Some last) a) (with_goaway (Some last) b) (put_goaway (Some last) o) p ids live (ap (λ n. n + length (spell (goaway last no_error))) untaken) is)

-- it changes nothing but what is untaken
goaway_view : (last : Option ℕ) (kept : View) → with_goaway last kept ≡ record kept { untaken = (with_goaway last kept).untaken }
goaway_view None kept = refl
goaway_view (Some last) kept = refl

fits_reset : (id code : ℕ) → id < 2147483648 → Fits (rst_stream id code)
fits_reset id code of = record { kind = omega arith; flags = omega arith; id = of; payload = omega arith }

module _ (setup : Setup) (old : View) (rest : IsAtRest old) (noted : Noted) (next : Table) (of : IsOfBlock noted.frame) (mild : is_fatal (fault_in (told_of (outside_of old.untaken) old.inbound) (Came noted)) ≡ false)
    (is_noted : IsNoted (completed_in old.inbound.block noted.frame) (verdict_in (told_of (outside_of old.untaken) old.inbound) noted.frame).is_error old.inbound.table noted.note next) (read : is_read noted.note ≡ false → (verdict_in (told_of (outside_of old.untaken) old.inbound) noted.frame).is_error ≡ true) where
  abbrev id : ℕ
  id = noted.frame.id

  abbrev pub behind : Inbound
  behind = inbound_behind setup old.untaken old.inbound noted next

  abbrev pub behind_view : View
  behind_view = record old { inbound = behind }

  abbrev served : Bool
  served = is_served behind.rows id

  -- what is held behind it, where nothing is gained
  abbrev held_now : upstreams.State
  held_now = record old.upstreams { held = held_if served id old.upstreams.held }

  module _ (adds : added_in setup (told_of (outside_of old.untaken) old.inbound) noted ≡ []) where
    additions_none : (run : List Move) (s : State) (leads : Leads setup run old balanced s) → IsGained setup (told_behind setup s (Takes noted next NoAddition)) s noted NoAddition
    additions_none run s leads = ap (λ (b : Book). added_in setup (summary_in b) noted) leads.keeps.book ∙ adds

    -- It leads on, with nothing gained.
    pub brings_none : (owed : List Frame) (offers : theory_responses.State) → owes_in setup false (told_of (outside_of old.untaken) old.inbound) (Came noted) ≡ owed
        → ((run : List Move) (s : State) → Leads setup run old balanced s → offers_with id (change_between old.inbound.rows behind.rows id) old.offers ≡ offers)
        → (outputs : List Output) → Brings setup old balanced outputs (Came noted) (record behind_view { offers = offers; upstreams = held_now; marks = marks_if (is_active behind.rows id) id old.marks }) (record balanced { owed = owed; shared = dropped_by id behind_view }) outputs
    brings_none owed offers owes on_offer outputs run s leads =
        leads_there setup old rest run s leads noted next of mild is_noted read NoAddition (additions_none run s leads) owed Nothing offers held_now refl owes (on_offer run s leads)
        (ap (λ (hs : List Held). record (with_due old.upstreams Nothing) { held = hs }) (coming.held_then setup run old s leads (ready setup old rest run s leads) noted next NoAddition (is_taken setup old rest run s leads noted next of mild is_noted read NoAddition (additions_none run s leads)) ∙ held_by served id old.upstreams.held))
        outputs

    -- What is kept of its stream follows.
    pub brings_followed : (owed : List Frame) → owes_in setup false (told_of (outside_of old.untaken) old.inbound) (Came noted) ≡ owed → found_by (find old.inbound.rows id).outline.cause (find behind.rows id).outline.cause ≡ None
        → (outputs : List Output) → Brings setup old balanced outputs (Came noted) (followed id behind_view) (record balanced { owed = owed; shared = dropped_by id behind_view }) outputs
    brings_followed owed owes no_cause outputs =
        brings_none owed (offers_if (is_active behind.rows id) id old.offers) owes (λ run s leads.
        ap (λ (c : Option Cause). offers_with id (record { opens = not (is_active old.inbound.rows id) && is_active behind.rows id; over = is_active old.inbound.rows id && not (is_active behind.rows id); caused = c }) old.offers) no_cause
        ∙ offers_followed (is_active old.inbound.rows id) (is_active behind.rows id) id old.offers (box_there setup old rest run s leads id)) outputs

    -- The gateway's reply is on offer.
    pub brings_replied : (owed : List Frame) (cause : Cause) → owes_in setup false (told_of (outside_of old.untaken) old.inbound) (Came noted) ≡ owed → found_by (find old.inbound.rows id).outline.cause (find behind.rows id).outline.cause ≡ Some cause → is_active behind.rows id ≡ true
        → (outputs : List Output) → Brings setup old balanced outputs (Came noted) (record (followed id behind_view) { offers = record (followed id behind_view).offers { kept = theory_responses.change id (theory_responses.answered cause) (followed id behind_view).offers.kept } }) (record balanced { owed = owed; shared = dropped_by id behind_view }) outputs
    brings_replied owed cause owes caused active outputs =
        brings_none owed (record (offers_if (is_active behind.rows id) id old.offers) { kept = theory_responses.change id (theory_responses.answered cause) (offers_if (is_active behind.rows id) id old.offers).kept }) owes (λ run s leads.
        ap (λ (c : Option Cause). offers_with id (record { opens = not (is_active old.inbound.rows id) && is_active behind.rows id; over = is_active old.inbound.rows id && not (is_active behind.rows id); caused = c }) old.offers) caused
        ∙ ap (λ b. offers_with id (record { opens = not (is_active old.inbound.rows id) && b; over = is_active old.inbound.rows id && not b; caused = Some cause }) old.offers) active
        ∙ offers_replied (is_active old.inbound.rows id) id cause old.offers (box_there setup old rest run s leads id)
        ∙ ap (λ b. record (offers_if b id old.offers) { kept = theory_responses.change id (theory_responses.answered cause) (offers_if b id old.offers).kept }) (sym active)) outputs

    -- The stream is reset, behind the GOAWAY.
    pub brings_reset : (last : Option ℕ) (code : ℕ) → owes_in setup false (told_of (outside_of old.untaken) old.inbound) (Came noted) ≡ goaway_frames last ++ rst_stream id code ∷ [] → may_open behind.drained (ids_of behind.rows) id ≡ false → id < 2147483648 → nat_lt most_untaken (with_goaway last old).untaken ≡ false
        → (outputs : List Output)
        → Brings setup old balanced outputs (Came noted) (record (forgotten id (record old { inbound = record behind { rows = changed id (Over true) behind.rows } })) { untaken = (with_goaway last old).untaken + length (spell (rst_stream id code)) }) (record balanced { shared = waiting_for id old }) (put (put_goaway last outputs) (ToClient (spell (rst_stream id code))))
    brings_reset last code owes known small free outputs =
        subst (λ n. Brings setup old balanced outputs (Came noted) target (record balanced { shared = n }) (put (put_goaway last outputs) (ToClient (spell (rst_stream id code))))) all_back
        (subst (λ (v : View). Brings setup old balanced outputs (Came noted) v (record balanced { shared = back_first + waiting_for id paid }) (put (put_goaway last outputs) (ToClient (spell (rst_stream id code))))) same
        (brings_then setup old first (reset_view paid id code) balanced (record balanced { owed = goaway_frames last ++ rst_stream id code ∷ []; shared = back_first }) (record balanced { shared = back_first + waiting_for id paid }) outputs outputs (put (put_goaway last outputs) (ToClient (spell (rst_stream id code)))) (Came noted)
        (brings_none (goaway_frames last ++ rst_stream id code ∷ []) (offers_with id (change_between old.inbound.rows behind.rows id) old.offers) owes (λ run s leads. refl) outputs)
        (own_then setup first paid (reset_view paid id code) (record balanced { owed = goaway_frames last ++ rst_stream id code ∷ []; shared = back_first }) (record balanced { owed = rst_stream id code ∷ []; shared = back_first }) (record balanced { shared = back_first + waiting_for id paid }) outputs (put_goaway last outputs) (put (put_goaway last outputs) (ToClient (spell (rst_stream id code))))
        (subst (λ (v : View). PerformsOwn setup first (record balanced { owed = goaway_frames last ++ rst_stream id code ∷ []; shared = back_first }) outputs v (record balanced { owed = rst_stream id code ∷ []; shared = back_first }) (put_goaway last outputs)) (goaway_view last first)
        (pays_goaway setup first back_first last (rst_stream id code ∷ []) (first_free last (was_free last old free)) outputs))
        (reset_paid setup paid (record balanced { owed = rst_stream id code ∷ []; shared = back_first }) [] id code refl refl known (fits_reset id code small) (ap (nat_lt most_untaken) (untaken_same last) ∙ free) (put_goaway last outputs)))))
      where
        first : View
        first = record behind_view { offers = offers_with id (change_between old.inbound.rows behind.rows id) old.offers; upstreams = held_now; marks = marks_if (is_active behind.rows id) id old.marks }

        back_first : ℕ
        back_first = dropped_by id behind_view

        paid : View
        paid = record first { untaken = (with_goaway last first).untaken }

        first_free : (l : Option ℕ) → WasFree l old → WasFree l first
        first_free None is = tt
        first_free (Some n) is = is

        untaken_same : (l : Option ℕ) → (with_goaway l first).untaken ≡ (with_goaway l old).untaken
        untaken_same None = refl
        untaken_same (Some n) = refl

        target : View
        target = record (forgotten id (record old { inbound = record behind { rows = changed id (Over true) behind.rows } })) { untaken = (with_goaway last old).untaken + length (spell (rst_stream id code)) }

        marks_gone : (b : Bool) → without_side id (marks_if b id old.marks) ≡ without_side id old.marks
        marks_gone true = refl
        marks_gone false = without_none id (without_side id old.marks) (gone_own id old.marks)

        same : reset_view paid id code ≡ target
        same =
            ap (λ n. record (reset_view paid id code) { untaken = n + length (spell (rst_stream id code)) }) (untaken_same last)
            ∙ ap (λ (ks : List theory_responses.Kept). record target { offers = record old.offers { kept = ks }; upstreams = record old.upstreams { held = lines.without id_of id (held_if served id old.upstreams.held) }; marks = without_side id first.marks }) (offers_gone id (change_between old.inbound.rows behind.rows id) old.offers)
            ∙ ap (λ (hs : List Held). record target { upstreams = record old.upstreams { held = hs }; marks = without_side id first.marks }) (held_gone served id old.upstreams.held)
            ∙ ap (λ (ms : List Side). record target { marks = ms }) (marks_gone (is_active behind.rows id))

        plus_none : (n : ℕ) → n + 0 ≡ n
        plus_none n = omega (arith)

        by_back : (b : Bool) → dropped_if b (waiting_for id old) + total (queue_of id (marks_if b id old.marks)) ≡ waiting_for id old
        by_back true = omega (arith)
        by_back false = ap (λ (o : Option Side). waiting_for id old + total (queue_if o)) (gone_own id old.marks) ∙ plus_none (waiting_for id old)

        all_back : back_first + waiting_for id paid ≡ waiting_for id old
        all_back = by_back (is_active behind.rows id)

    -- It can't be, and the connection ends.
    pub brings_stopped : (last : Option ℕ) (code : ℕ) → owes_in setup false (told_of (outside_of old.untaken) old.inbound) (Came noted) ≡ goaway_frames last ++ rst_stream id code ∷ []
        → (outputs p : List Output) → IsCalmedBehind last behind_view outputs p → ComesFrom setup old balanced outputs (OfFrame noted.frame ∷ []) balanced None p
    brings_stopped last code owes outputs p calmed =
        calm_comes setup old first balanced owing outputs outputs p (Came noted) (OfFrame noted.frame) refl
        (brings_none (goaway_frames last ++ rst_stream id code ∷ []) (offers_with id (change_between old.inbound.rows behind.rows id) old.offers) owes (λ run s leads. refl) outputs)
        (by last calmed)
      where
        back_first : ℕ
        back_first = dropped_by id behind_view

        first : View
        first = record behind_view { offers = offers_with id (change_between old.inbound.rows behind.rows id) old.offers; upstreams = held_now; marks = marks_if (is_active behind.rows id) id old.marks }

        owing : Pending
        owing = record balanced { owed = goaway_frames last ++ rst_stream id code ∷ []; shared = back_first }

        -- behind the GOAWAY, or where none is owed
        reset_left : Pending
        reset_left = record balanced { owed = rst_stream id code ∷ []; shared = back_first }

        by : (l : Option ℕ) → IsCalmedBehind l behind_view outputs p → EndsFrom setup first (record balanced { owed = goaway_frames l ++ rst_stream id code ∷ []; shared = back_first }) outputs p
        by None (inl is) = calm_ends setup first reset_left (inl (rst_stream id code, [], refl)) refl outputs p is
        by None (inr (free, is)) = calm_ends setup first reset_left (inl (rst_stream id code, [], refl)) refl outputs p is
        by (Some n) (inl is) = calm_ends setup first (record balanced { owed = goaway n no_error ∷ rst_stream id code ∷ []; shared = back_first }) (inl (goaway n no_error, rst_stream id code ∷ [], refl)) refl outputs p is
        by (Some n) (inr (free, is)) =
            calm_behind setup first (with_goaway (Some n) first) (record balanced { owed = goaway n no_error ∷ rst_stream id code ∷ []; shared = back_first }) reset_left outputs (put_goaway (Some n) outputs) p
            (pays_goaway setup first back_first (Some n) (rst_stream id code ∷ []) free outputs)
            (calm_ends setup (with_goaway (Some n) first) reset_left (inl (rst_stream id code, [], refl)) refl (put_goaway (Some n) outputs) p is)

  -- ---- a frame with a fault

  -- the note says what its block is
  says_so : is_some (completed_in old.inbound.block noted.frame) ≡ true → is_told noted.note ≡ true
  says_so = by (completed_in old.inbound.block noted.frame) (verdict_in (told_of (outside_of old.untaken) old.inbound) noted.frame).is_error noted.note is_noted read (no_error (verdict_in (told_of (outside_of old.untaken) old.inbound) noted.frame).is_error refl)
    where
      no_error : (b : Bool) → (verdict_in (told_of (outside_of old.untaken) old.inbound) noted.frame).is_error ≡ b → (verdict_in (told_of (outside_of old.untaken) old.inbound) noted.frame).is_error ≡ false
      no_error false is = is
      no_error true is = absurd (let no : true ≡ false = sym (fatal_before_block (told_of (outside_of old.untaken) old.inbound) noted is) ∙ mild in cc)

      by : (o : Option Partial) (e : Bool) (n : Note) → IsNoted o e old.inbound.table n next → (is_read n ≡ false → e ≡ true) → e ≡ false → is_some o ≡ true → is_told n ≡ true
      by None e n right so none some = cc
      by (Some block) true n right so none some = cc
      by (Some block) false NoBlock right so none some = absurd right
      by (Some block) false (Fields fields) right so none some = refl
      by (Some block) false Undecodable right so none some = refl
      by (Some block) false Unread right so none some = absurd (let no : false ≡ true = so refl in cc)

  -- Its stream can't be opened any more behind it.
  pub not_to_open : (fault : Fault) → fault_in (told_of (outside_of old.untaken) old.inbound) (Came noted) ≡ Some fault → may_open behind.drained (ids_of behind.rows) id ≡ false
  not_to_open fault is = by (opens_by old.inbound.drained (ids_of old.inbound.rows) (completed_in old.inbound.block noted.frame) noted.note) refl
    where
      rows_changed : List Row
      rows_changed = Rattle.std.specs.Prelude.map (Rattle.theory_errors.specs.Rows.row_behind setup false (told_of (outside_of old.untaken) old.inbound) (Came noted)) old.inbound.rows

      front : Row
      front = Rattle.theory_errors.specs.Rows.row_opened setup false (told_of (outside_of old.untaken) old.inbound) (Came noted) id

      none_again : (b : Bool) → may_open behind.drained (id ∷ ids_of rows_changed) id ≡ b → may_open behind.drained (id ∷ ids_of rows_changed) id ≡ false
      none_again false e = e
      none_again true e = absurd (let no : true ≡ false = sym (ap (λ b. b || list_any (λ other. other == id) (ids_of rows_changed)) (eq-eqb id id refl)) ∙ not_opened behind.drained (id ∷ ids_of rows_changed) id e in cc)

      none_yet : opens_by old.inbound.drained (ids_of old.inbound.rows) (completed_in old.inbound.block noted.frame) noted.note ≡ false → (b : Bool) → may_open old.inbound.drained (ids_of old.inbound.rows) id ≡ b → may_open old.inbound.drained (ids_of old.inbound.rows) id ≡ false
      none_yet closed false e = e
      none_yet closed true e =
          let idle = idle_frame_is (told_of (outside_of old.untaken) old.inbound) noted (find old.inbound.rows id).outline e closed mild says_so in
          absurd (let no : None ≡ Some fault = sym idle.no_fault ∙ is in cc)

      by : (b : Bool) → opens_by old.inbound.drained (ids_of old.inbound.rows) (completed_in old.inbound.block noted.frame) noted.note ≡ b → may_open behind.drained (ids_of (if b then front ∷ rows_changed else rows_changed)) id ≡ false
      by true e = none_again (may_open behind.drained (id ∷ ids_of rows_changed) id) refl
      by false e = ap (λ (ids : List ℕ). may_open behind.drained ids id) (ids_changed setup false (told_of (outside_of old.untaken) old.inbound) (Came noted) old.inbound.rows) ∙ none_yet e (may_open old.inbound.drained (ids_of old.inbound.rows) id) refl
