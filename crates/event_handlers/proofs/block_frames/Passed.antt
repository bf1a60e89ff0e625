-- What comes of a frame with a fragment, by the judgement's answer and what was done.
use Rattle.std.proofs.Common.{◌≡◌, ℕ, ◌<◌, ◌≤◌, ◌+◌, ◌⊎◌, Bool, true, false, ◌||◌, ◌==◌, if◌then◌else◌, List, [], ◌∷◌, ◌++◌, length, Option, Some, None, refl, sym, ◌∙◌, ap, subst, inl, inr, nat_lt}
use Rattle.std.specs.Prelude.{is_some}
use Rattle.model.specs.Frames.{Frame}
use Rattle.model.specs.Logs.{Output}
use Rattle.model.specs.Setup.{Setup}
use Rattle.model.specs.Tables.{Table}
use Rattle.model.specs.Limits.{most_streams, most_untaken}
use Rattle.model.specs.Tapes.{Noted}
use Rattle.model.specs.Tapes.Entry.{Came}
use Rattle.model.specs.Causes.{Cause}
use Rattle.model.specs.Courses.{first_of_both}
use Rattle.model.specs.Decoding.{is_read}
use Rattle.model.specs.Errors as errors
use Rattle.model.specs.ErrorClause.{is_fatal, rst_stream}
use Rattle.model.specs.Lifetimes.{opens_by}
use Rattle.theory_errors.specs.Summary.{Stream as Kept, Outline, Summary}
use Rattle.theory_errors.specs.Judging.{completed_in}
use Rattle.theory_errors.specs.Owing.{fault_in, last_goaway_in, owes_in}
use Rattle.theory_errors.specs.Rows.{Row, ids_of, find}
use Rattle.theory_errors.specs.Rows.Slot.{Over}
use Rattle.theory_errors.specs.Book.{Book, summary_in}
use Rattle.theory_errors.specs.Tidy.{AreKept}
use Rattle.theory_responses.specs.Rule.{found_by}
use Rattle.streams.specs.Asked.{has, is_active, changed}
use Rattle.streams.specs.Sending.{is_served}
use Rattle.streams.proofs.Changes.{same_ids}
use Rattle.connection_state.specs.Inbound.{Inbound, book_of, told_of}
use Rattle.connection_state.specs.Fragments.{IsOfBlock, IsFragmentJudged}
use Rattle.connection_state.specs.declared.answers.BlockJudged.{BlockJudged}
use Rattle.upstream_connections.specs.Connections.{lives}
use Rattle.upstream_connections.specs.Requests.{due_by}
use Rattle.theory_requests.specs.State.{Due}
use Rattle.theory_requests.specs.State.Due.{Nothing}
use Rattle.theory.specs.Rule.{added_in}
use Rattle.refinement.specs.View.{View, balanced, waiting_for}
use Rattle.refinement.specs.Rest.{IsAtRest, NoneCut}
use Rattle.refinement.specs.Bringing.{Brings}
use Rattle.refinement.proofs.Answered.{block_owes_at_fault, block_failed}
use Rattle.refinement.proofs.Gaining.{caused}
use Rattle.refinement.proofs.Coming.{outside_of, inbound_behind}
use Rattle.refinement.proofs.Waits.{behind_rows}
use Rattle.event_handlers.specs.Closings.{IsAbout}
use Rattle.event_handlers.proofs.Closings.{about_changed, about_then, frame_served}
use Rattle.event_handlers.specs.Comings.{ComesFrom}
use Rattle.event_handlers.specs.Inputs.Input.{OfFrame}
use Rattle.event_handlers.specs.block_frames.Following.{followed, dropped_by, goaway_behind, goaway_frames, with_goaway, put_goaway, IsCalmedBehind}
use Rattle.event_handlers.specs.block_frames.Acting.{IsFollowed, IsReset}
use Rattle.event_handlers.specs.block_frames.Taken.{IsFatalFrame, IsBlockTaken}
use Rattle.event_handlers.specs.declared.block_frames.taking.BlockTaken.{BlockTaken}
use Rattle.event_handlers.specs.declared.block_frames.taking.BlockTaken.TheVariants as taken
use Rattle.event_handlers.proofs.block_frames.Lists.{cut_followed, cut_without}
use Rattle.event_handlers.proofs.block_frames.Streams.{ids_behind}
use Rattle.event_handlers.proofs.block_frames.Before.{goaway_is}
use Rattle.event_handlers.proofs.block_frames.Lasts.{goaway_free}
use Rattle.event_handlers.proofs.block_frames.Cases.{brings_followed, brings_reset, not_to_open, brings_stopped, calmed_behind_as}

module _ (setup : Setup) (old : View) (rest : IsAtRest old) (frame : Frame) (mid : Inbound) (of : IsOfBlock frame) (kept : AreKept old.inbound.rows) (few_rows : length (ids_of old.inbound.rows) ≤ most_streams) (outputs : List Output) (small : frame.id < 2147483648) where
  abbrev id : ℕ
  id = frame.id

  abbrev told : Summary
  told = told_of (outside_of old.untaken) old.inbound

  abbrev last : Option ℕ
  last = goaway_behind (length old.inbound.rows) mid.rows

  abbrev mid_view : View
  mid_view = record old { inbound = mid }

  module _ (answer : BlockJudged) (is : IsFragmentJudged setup (outside_of old.untaken) old.inbound frame mid answer) where
    abbrev noted : Noted
    noted = record { frame = frame; note = is.note }

    abbrev behind : Inbound
    behind = inbound_behind setup old.untaken old.inbound noted is.next

    -- ---- an error of the connection

    pub fatal_so : (code : ℕ) → fault_in told (Came noted) ≡ Some (errors.Fault.Connection code) → mid.rows ≡ old.inbound.rows → (new : View) (put_out : List Output) → new ≡ mid_view → put_out ≡ outputs → IsFatalFrame setup old outputs frame code new put_out
    fatal_so code fault rows new put_out same puts = record {
      nothing_put = puts;
      upstreams = ap (λ (v : View). v.upstreams) same;
      encoding = ap (λ (v : View). v.encoding) same;
      untaken = ap (λ (v : View). v.untaken) same;
      rows = ap (λ (v : View). v.inbound.rows) same ∙ rows;
      note = is.note;
      next = is.next;
      fault = λ run s leads. subst (λ (b : Book). fault_in (summary_in b) (Came noted) ≡ Some (errors.Fault.Connection code)) (sym leads.keeps.book) fault;
      fatal = λ run s leads. record {
        fatal = subst (λ (b : Book). is_fatal (fault_in (summary_in b) (Came noted)) ≡ true) (sym leads.keeps.book) (ap is_fatal fault);
        noted_right = record {
          is_noted =
              subst (λ (b : Book). Rattle.theory_header_tables.specs.Rule.IsNoted (completed_in b.block frame) (Rattle.theory_header_tables.specs.Verdicts.verdict_in (summary_in b) frame).is_error s.tables.decoding is.note is.next) (sym leads.keeps.book)
              (subst (λ (t : Table). Rattle.theory_header_tables.specs.Rule.IsNoted (completed_in old.inbound.block frame) (Rattle.theory_header_tables.specs.Verdicts.verdict_in told frame).is_error t is.note is.next) (sym leads.keeps.decoding) is.is_noted);
        };
        read = subst (λ (b : Book). is_read is.note ≡ false → (Rattle.theory_header_tables.specs.Verdicts.verdict_in (summary_in b) frame).is_error ≡ true) (sym leads.keeps.book) is.read;
      };
    }

    -- ---- no stream is opened but the frame's

    pub opened_so : (rows : List Row) → ids_of rows ≡ ids_of behind.rows → (other : ℕ) → has rows other ≡ true → (has old.inbound.rows other ≡ true) ⊎ (id ≡ other)
    opened_so rows same other there = by (opens_by old.inbound.drained (ids_of old.inbound.rows) (completed_in old.inbound.block frame) is.note) (ap (λ (ids : List ℕ). Rattle.std.specs.List.list_any (λ n. n == other) ids) (sym (same ∙ ids_behind setup (book_of (outside_of old.untaken) old.inbound) noted kept)) ∙ there)
      where
        by : (b : Bool) → Rattle.std.specs.List.list_any (λ n. n == other) (if b then id ∷ ids_of old.inbound.rows else ids_of old.inbound.rows) ≡ true → (has old.inbound.rows other ≡ true) ⊎ (id ≡ other)
        by false e = inl e
        by true e = elim (Rattle.std.proofs.lemmas.Bool.Decides.eqb_tells id other) [
          | inl own ↦ inr own.1
          | inr apart ↦ inl (sym (ap (λ b. b || has old.inbound.rows other) apart.0) ∙ e)
        ]

    pub goaway : ids_of mid.rows ≡ ids_of behind.rows → last_goaway_in told (Came noted) ≡ goaway_frames last
    goaway same = goaway_is setup old.untaken old.inbound noted kept mid.rows same

    -- where a GOAWAY is owed behind a frame that is no fault, it can go
    pub goaway_alone : (new : View) → new.untaken ≡ old.untaken → ids_of mid.rows ≡ ids_of behind.rows → fault_in told (Came noted) ≡ None → (left : Option ℕ) → left ≡ last → is_some left ≡ true → nat_lt most_untaken new.untaken ≡ true → (due : Due) → due ≡ Nothing
    goaway_alone new untaken same faultless left is some crowded due =
        absurd (
        let no : true ≡ false = sym crowded ∙ ap (nat_lt most_untaken) untaken ∙ goaway_free told noted faultless last (goaway same) (sym (ap is_some is) ∙ some) in
        cc
        )

    -- it is no cause where its stream's cause stays
    pub none_caused : first_of_both (find old.inbound.rows id).outline.cause (caused setup told noted) ≡ (find old.inbound.rows id).outline.cause → found_by (find old.inbound.rows id).outline.cause (find behind.rows id).outline.cause ≡ None
    none_caused same = elim (behind_rows setup false told (Came noted) old.inbound.rows refl id) [
      | inl goes ↦ by (find old.inbound.rows id).outline.cause (find behind.rows id).outline.cause (inl (ap (λ (k : Kept). k.outline.cause) goes ∙ same))
      | inr gone ↦ by (find old.inbound.rows id).outline.cause (find behind.rows id).outline.cause (inr (ap (λ (b : Outline). b.cause) gone.outline))
    ]
      where
        by : (a b : Option Cause) → (b ≡ a) ⊎ (b ≡ None) → found_by a b ≡ None
        by None b (inl e) = e
        by None b (inr e) = e
        by (Some cause) b e = refl

    -- ---- other streams are served as before

    module _ (fine : is_fatal (fault_in told (Came noted)) ≡ false) where
      pub served_so : (other : ℕ) → (id == other) ≡ false → is_served behind.rows other ≡ is_served old.inbound.rows other
      served_so other apart = frame_served setup (book_of (outside_of old.untaken) old.inbound) noted fine kept other apart

      pub about_so : (new : View) → new.inbound.rows ≡ behind.rows → lives new.upstreams.live ≡ lives old.upstreams.live → IsAbout id old new
      about_so new rows live = record { served = λ other apart. ap (λ (rs : List Row). is_served rs other) rows ∙ served_so other apart; live = live }

      pub reset_about : (new : View) → new.inbound.rows ≡ changed id (Over true) behind.rows → lives new.upstreams.live ≡ lives old.upstreams.live → IsAbout id old new
      reset_about new rows live =
          about_then id old (record old { inbound = behind }) new (about_so (record old { inbound = behind }) refl refl) (about_changed id (Over true) (record old { inbound = behind }) new rows live)

    -- ---- what is kept follows

    module _ (mild : is_fatal (fault_in told (Came noted)) ≡ false) where
      pub passed_none : mid ≡ behind → added_in setup told noted ≡ [] → owes_in setup false told (Came noted) ≡ goaway_frames last → first_of_both (find old.inbound.rows id).outline.cause (caused setup told noted) ≡ (find old.inbound.rows id).outline.cause
          → (result : BlockTaken) (new : View) (put_out : List Output) → IsFollowed id last mid_view outputs result new put_out → IsBlockTaken setup old outputs frame result new put_out
      passed_none same adds owes cause (taken.Fatal code) new put_out acted = absurd acted.goes
      passed_none same adds owes cause (taken.Goes due goaway dropped) new put_out acted = record {
        note = is.note;
        brings =
            subst (λ (o : List Output). Brings setup old balanced outputs (Came noted) new (record balanced { owed = goaway_frames goaway; due = due_by due; shared = dropped }) o) (sym acted.puts)
            (subst (λ (v : View). Brings setup old balanced outputs (Came noted) v (record balanced { owed = goaway_frames goaway; due = due_by due; shared = dropped }) outputs) (sym acted.kept)
            (subst (λ (r : Due). Brings setup old balanced outputs (Came noted) (followed id mid_view) (record balanced { owed = goaway_frames goaway; due = r; shared = dropped }) outputs) (sym acted.goes.0)
            (subst (λ n. Brings setup old balanced outputs (Came noted) (followed id mid_view) (record balanced { owed = goaway_frames goaway; shared = n }) outputs) (sym acted.goes.2)
            (subst (λ (l : Option ℕ). Brings setup old balanced outputs (Came noted) (followed id mid_view) (record balanced { owed = goaway_frames l; shared = dropped_by id mid_view }) outputs) (sym acted.goes.1)
            (subst (λ (i : Inbound). Brings setup old balanced outputs (Came noted) (followed id (record old { inbound = i })) (record balanced { owed = goaway_frames last; shared = dropped_by id (record old { inbound = i }) }) outputs) (sym same)
            (brings_followed setup old rest noted is.next of mild is.is_noted is.read adds (goaway_frames last) owes (none_caused cause) outputs))))));
        none_cut = subst (λ (v : View). NoneCut v.offers) (sym acted.kept) (cut_followed (is_active mid.rows id) id old.offers rest.none_cut);
        about = about_so mild new (ap (λ (v : View). v.inbound.rows) acted.kept ∙ ap (λ (i : Inbound). i.rows) same) (ap (λ (v : View). lives v.upstreams.live) acted.kept);
        alone = λ some crowded. acted.goes.0;
        ids = λ other there. opened_so new.inbound.rows (ap (λ (v : View). ids_of v.inbound.rows) acted.kept ∙ ap (λ (i : Inbound). ids_of i.rows) same) other there;
      }

      -- ---- the stream is reset

      pub passed_reset : (code : ℕ) → mid ≡ record behind { rows = changed id (Over true) behind.rows } → fault_in told (Came noted) ≡ Some (errors.Fault.Stream code)
          → (result : BlockTaken) (new : View) (put_out : List Output) → IsReset id code last mid_view outputs result new put_out → IsBlockTaken setup old outputs frame result new put_out
      passed_reset code same fault (taken.Fatal told_code) new put_out acted = absurd acted.goes
      passed_reset code same fault (taken.Goes due goaway_left dropped) new put_out acted = record {
        note = is.note;
        brings =
            subst (λ (o : List Output). Brings setup old balanced outputs (Came noted) new (record balanced { owed = goaway_frames goaway_left; due = due_by due; shared = dropped }) o) (sym acted.puts)
            (subst (λ (v : View). Brings setup old balanced outputs (Came noted) v (record balanced { owed = goaway_frames goaway_left; due = due_by due; shared = dropped }) out_then) (sym (acted.kept ∙ untaken_same last))
            (subst (λ (r : Due). Brings setup old balanced outputs (Came noted) target (record balanced { owed = goaway_frames goaway_left; due = r; shared = dropped }) out_then) (sym acted.goes.0)
            (subst (λ n. Brings setup old balanced outputs (Came noted) target (record balanced { owed = goaway_frames goaway_left; shared = n }) out_then) (sym acted.goes.2)
            (subst (λ (l : Option ℕ). Brings setup old balanced outputs (Came noted) target (record balanced { owed = goaway_frames l; shared = waiting_for id old }) out_then) (sym acted.goes.1)
            (subst (λ (i : Inbound). Brings setup old balanced outputs (Came noted) (record (Rattle.event_handlers.specs.Forgetting.forgotten id (record old { inbound = i })) { untaken = (with_goaway last old).untaken + length (Rattle.model.specs.Frames.spell (rst_stream id code)) }) (record balanced { shared = waiting_for id old }) out_then) (sym same)
            (brings_reset setup old rest noted is.next of mild is.is_noted is.read (block_failed setup (book_of (outside_of old.untaken) old.inbound) noted of few_rows (errors.Fault.Stream code) fault) last code
            (block_owes_at_fault setup (book_of (outside_of old.untaken) old.inbound) noted of few_rows (errors.Fault.Stream code) refl fault ∙ ap (λ (fs : List Frame). fs ++ rst_stream id code ∷ []) (goaway same_rows))
            (not_to_open setup old rest noted is.next of mild is.is_noted is.read (errors.Fault.Stream code) fault) small (free_same last acted.few) outputs))))));
        none_cut = subst (λ (v : View). NoneCut v.offers) (sym acted.kept) (cut_without id old.offers rest.none_cut);
        about = reset_about mild new (ap (λ (v : View). v.inbound.rows) acted.kept ∙ ap (λ (i : Inbound). i.rows) same) (ap (λ (v : View). lives v.upstreams.live) acted.kept);
        alone = λ some crowded. acted.goes.0;
        ids = λ other there. opened_so new.inbound.rows (ap (λ (v : View). ids_of v.inbound.rows) acted.kept ∙ same_rows) other there;
      }
        where
          same_rows : ids_of mid.rows ≡ ids_of behind.rows
          same_rows = ap (λ (i : Inbound). ids_of i.rows) same ∙ same_ids id (Over true) behind.rows

          free_same : (l : Option ℕ) → nat_lt most_untaken (with_goaway l mid_view).untaken ≡ false → nat_lt most_untaken (with_goaway l old).untaken ≡ false
          free_same None free = free
          free_same (Some n) free = free

          out_then : List Output
          out_then = Rattle.model.specs.Tapes.put (put_goaway last outputs) (Rattle.model.specs.Logs.Output.ToClient (Rattle.model.specs.Frames.spell (rst_stream id code)))

          target : View
          target = record (Rattle.event_handlers.specs.Forgetting.forgotten id mid_view) { untaken = (with_goaway last old).untaken + length (Rattle.model.specs.Frames.spell (rst_stream id code)) }

          untaken_same : (l : Option ℕ) → record (Rattle.event_handlers.specs.Forgetting.forgotten id mid_view) { untaken = (with_goaway l mid_view).untaken + length (Rattle.model.specs.Frames.spell (rst_stream id code)) } ≡ record (Rattle.event_handlers.specs.Forgetting.forgotten id mid_view) { untaken = (with_goaway l old).untaken + length (Rattle.model.specs.Frames.spell (rst_stream id code)) }
          untaken_same None = refl
          untaken_same (Some n) = refl

      -- It can't be, and the connection ends.
      pub passed_stopped : (code : ℕ) → mid ≡ record behind { rows = changed id (Over true) behind.rows } → fault_in told (Came noted) ≡ Some (errors.Fault.Stream code)
          → (p : List Output) → IsCalmedBehind last mid_view outputs p → ComesFrom setup old balanced outputs (OfFrame frame ∷ []) balanced None p
      passed_stopped code same fault p calmed =
          brings_stopped setup old rest noted is.next of mild is.is_noted is.read (block_failed setup (book_of (outside_of old.untaken) old.inbound) noted of few_rows (errors.Fault.Stream code) fault) last code
          (block_owes_at_fault setup (book_of (outside_of old.untaken) old.inbound) noted of few_rows (errors.Fault.Stream code) refl fault ∙ ap (λ (fs : List Frame). fs ++ rst_stream id code ∷ []) (goaway same_rows))
          outputs p
          (calmed_behind_as last mid_view (record old { inbound = behind }) outputs p same_rows refl refl calmed)
        where
          same_rows : ids_of mid.rows ≡ ids_of behind.rows
          same_rows = ap (λ (i : Inbound). ids_of i.rows) same ∙ same_ids id (Over true) behind.rows
