-- A request begins, or ends with trailers, as the judgement says: all that comes of it.
use Rattle.std.proofs.Common.{◌≡◌, ℕ, ◌<◌, ◌≤◌, ◌+◌, Bool, true, false, ◌&&◌, ◌||◌, ◌==◌, List, [], append-nil, length, Option, Some, None, refl, sym, ◌∙◌, ap, subst}
use Rattle.std.specs.declared.vec.Vec.{Vec}
use Rattle.std.specs.declared.alloc.Global.{Global}
use Rattle.std.proofs.lemmas.Bool.{eq-eqb}
use Rattle.model.specs.Messages.{Field}
use Rattle.model.specs.Messages.Item.{Block}
use Rattle.model.specs.Frames.{Frame}
use Rattle.model.specs.Logs.{Output}
use Rattle.model.specs.Setup.{Setup}
use Rattle.model.specs.Limits.{most_streams}
use Rattle.model.specs.Tapes.{Noted}
use Rattle.model.specs.Tapes.Note.{Fields}
use Rattle.model.specs.Tapes.Entry.{Came}
use Rattle.model.specs.Causes.{Cause}
use Rattle.model.specs.Courses.{first_of_both, cause_of_block}
use Rattle.model.specs.Decoding.{Partial}
use Rattle.model.specs.ErrorClause.{is_fatal}
use Rattle.model.specs.Lifetimes.{ends_by}
use Rattle.theory_errors.specs.Summary.{Stream as Kept, Outline, Summary, carried_in}
use Rattle.theory_errors.specs.Judging.{is_over_in, completed_in}
use Rattle.theory_errors.specs.Owing.{fault_in}
use Rattle.theory_errors.specs.Rows.{ids_of, find}
use Rattle.theory_errors.specs.Book.{Book}
use Rattle.theory_errors.specs.Tidy.{AreKept}
use Rattle.request_rules.specs.Heads.{HeadParts}
use Rattle.theory_requests.specs.State as theory_requests
use Rattle.theory_requests.specs.State.{Way, Held, Due, held_of}
use Rattle.streams.specs.Asked.{is_active}
use Rattle.connection_state.specs.Inbound.{Inbound, book_of, told_of}
use Rattle.connection_state.specs.Blocks.{SaysOf}
use Rattle.connection_state.specs.Fragments.{IsOfBlock, IsFragmentJudged}
use Rattle.connection_state.specs.declared.answers.BlockJudged.{BlockJudged}
use Rattle.connection_state.specs.declared.answers.BlockJudged.TheVariants as judged
use Rattle.upstream_connections.specs.Kept as upstreams
use Rattle.upstream_connections.specs.Kept.{Begins}
use Rattle.upstream_connections.specs.Connections.{lives}
use Rattle.upstream_connections.specs.Requests.{due_by, MayTake, MayTakeOf, Takes as TakesOf}
use Rattle.theory.specs.Moves.{Move}
use Rattle.theory.specs.State.{State}
use Rattle.theory.specs.Rule.{Adds}
use Rattle.refinement.specs.View.{View, balanced, Leads}
use Rattle.refinement.specs.Rest.{IsAtRest, NoneCut}
use Rattle.refinement.specs.Bringing.{Brings}
use Rattle.refinement.specs.Ways.{GoesBy, IsHeldFor}
use Rattle.refinement.proofs.Answered.{whole_addition, whole_owes, caused_by, head_none, not_reset}
use Rattle.refinement.proofs.Answered as answered
use Rattle.refinement.proofs.Coming.{outside_of, inbound_behind}
use Rattle.refinement.proofs.HeldFor.{held_for, within_length, begun_active}
use Rattle.event_handlers.specs.block_frames.Following.{followed, dropped_by, goaway_behind, goaway_frames}
use Rattle.event_handlers.specs.block_frames.Acting.{HasBegun, HasEnded}
use Rattle.event_handlers.specs.block_frames.Taken.{IsBlockTaken, IsOutlet}
use Rattle.event_handlers.specs.declared.block_frames.outlet.Outlet.{Outlet}
use Rattle.event_handlers.specs.declared.block_frames.taking.BlockTaken.{BlockTaken}
use Rattle.event_handlers.specs.declared.block_frames.taking.BlockTaken.TheVariants as taken
use Rattle.event_handlers.proofs.block_frames.Before.{left_is}
use Rattle.event_handlers.proofs.block_frames.Additions.{brings_begun, brings_ended, trailers_end}
use Rattle.event_handlers.proofs.block_frames.Lists.{cut_followed}
use Rattle.event_handlers.proofs.block_frames.Passed.{goaway, opened_so, about_so, goaway_alone}
use Rattle.event_handlers.proofs.block_frames.Streams.{active_behind, found_behind, unended}

module _ (setup : Setup) (old : View) (rest : IsAtRest old) (frame : Frame) (mid : Inbound) (of : IsOfBlock frame) (kept : AreKept old.inbound.rows) (few_rows : length (ids_of old.inbound.rows) ≤ most_streams) (outputs : List Output) (small : frame.id < 2147483648)
    (not_half : is_over_in (find old.inbound.rows frame.id) ≡ false → (find old.inbound.rows frame.id).ended_by_gateway ≡ false) (calm : (find old.inbound.rows frame.id).outline.over ≡ false → (find old.inbound.rows frame.id).outline.cause ≡ None) where
  abbrev id : ℕ
  id = frame.id

  abbrev told : Summary
  told = told_of (outside_of old.untaken) old.inbound

  abbrev book : Book
  book = book_of (outside_of old.untaken) old.inbound

  abbrev last : Option ℕ
  last = goaway_behind (length old.inbound.rows) mid.rows

  module _ (answer : BlockJudged) (is : IsFragmentJudged setup (outside_of old.untaken) old.inbound frame mid answer) where
    abbrev noted : Noted
    noted = record { frame = frame; note = is.note }

    abbrev behind : Inbound
    behind = inbound_behind setup old.untaken old.inbound noted is.next

    module _ (faultless : fault_in told (Came noted) ≡ None) (block : Partial) (is_block : completed_in old.inbound.block frame ≡ Some block) (fields : List Field) (note : is.note ≡ Fields fields) where
      of_stream : (id == 0) ≡ false
      of_stream = answered.of_stream setup book noted of few_rows faultless block is_block fields note

      pub active : is_active behind.rows id ≡ true
      active = active_behind setup book noted kept few_rows faultless block is_block fields note of_stream (not_reset setup book noted of few_rows) not_half

      -- the client ends the stream just where the block does
      pub ended_is : (find behind.rows id).ended_by_client ≡ block.ends
      ended_is =
          ap (λ (k : Kept). k.ended_by_client) (found_behind setup book noted kept active)
          ∙ ap (λ b. b && ends_by (completed_in old.inbound.block frame) frame || (find old.inbound.rows id).ended_by_client) (eq-eqb id id refl)
          ∙ ap (λ (o : Option Partial). ends_by o frame || (find old.inbound.rows id).ended_by_client) is_block
          ∙ ap (λ b. block.ends || b) (unended setup book noted kept few_rows faultless block is_block fields note of_stream (not_reset setup book noted of few_rows))
          ∙ or_none block.ends
        where
          or_none : (b : Bool) → (b || false) ≡ b
          or_none true = refl
          or_none false = refl

      -- where the block is no cause, the gateway doesn't reply
      pub no_reply : (find old.inbound.rows id).outline.over ≡ false → cause_of_block setup (carried_in (find old.inbound.rows id).outline) (Fields fields) ≡ None → (find behind.rows id).outline.cause ≡ None
      no_reply on none =
          ap (λ (k : Kept). k.outline.cause) (found_behind setup book noted kept active)
          ∙ ap (λ (c : Option Cause). first_of_both (find old.inbound.rows id).outline.cause c) (caused_by setup book noted of few_rows faultless block is_block fields note ∙ none)
          ∙ ap (λ (c : Option Cause). first_of_both c None) (calm on)

  -- a request begins
  pub begun_taken : (outlet : Outlet) → IsOutlet setup outlet → (head : HeadParts) (route : ℕ) (is : IsFragmentJudged setup (outside_of old.untaken) old.inbound frame mid (judged.Begins head route)) (result : BlockTaken) (new : View) (put_out : List Output) → HasBegun id route head outlet last (record old { inbound = mid }) outputs result new put_out → IsBlockTaken setup old outputs frame result new put_out
  begun_taken outlet as_set head route is (taken.Fatal code) new put_out acted = absurd acted.begun
  begun_taken outlet as_set head route is (taken.Goes due goaway_left dropped) new put_out acted = record {
    note = is.note;
    brings =
        subst (λ (o : List Output). Brings setup old balanced outputs (Came noted_here) new (record balanced { owed = goaway_frames goaway_left; due = due_by due; shared = dropped }) o) (sym acted.puts)
        (subst (λ (v : View). Brings setup old balanced outputs (Came noted_here) v (record balanced { owed = goaway_frames goaway_left; due = due_by due; shared = dropped }) outputs) (sym (acted.kept ∙ ap (λ (i : Inbound). record (followed id (record old { inbound = i })) { upstreams = new.upstreams }) same))
        (subst (λ (l : Option ℕ). Brings setup old balanced outputs (Came noted_here) (record (followed id (record old { inbound = there })) { upstreams = new.upstreams }) (record balanced { owed = goaway_frames l; due = due_by due; shared = dropped }) outputs) (sym acted.begun.1)
        (subst (λ n. Brings setup old balanced outputs (Came noted_here) (record (followed id (record old { inbound = there })) { upstreams = new.upstreams }) (record balanced { owed = goaway_frames last; due = due_by due; shared = n }) outputs) (sym (acted.begun.2 ∙ ap (λ (i : Inbound). dropped_by id (record old { inbound = i })) same))
        (brings_begun setup old rest noted_here is.next of (ap is_fatal is.judged.faultless) is.is_noted is.read (of_stream (judged.Begins head route) is is.judged.faultless says.0 says.2 says.1 says.3) live (no_reply (judged.Begins head route) is is.judged.faultless says.0 says.2 says.1 says.3 says.4.1 none) says.1 says.0.ends route
        (whole_addition setup book noted_here of few_rows is.judged.faultless says.0 says.2 says.1 says.3 (judged.Begins head route) says.4)
        outlet as_set (goaway_frames last)
        (whole_owes setup book noted_here of few_rows is.judged.faultless says.0 says.2 says.1 says.3 (judged.Begins head route) says.4 ∙ append-nil _ ∙ goaway setup old rest frame mid of kept few_rows outputs small (judged.Begins head route) is (ap (λ (i : Inbound). ids_of i.rows) same))
        head says.4.2 (due_by due) new.upstreams
        (subst (λ b. Begins (followed id (record old { inbound = there })).upstreams id route outlet.keep head b outlet.at_once (due_by due) new.upstreams) (ended_is (judged.Begins head route) is is.judged.faultless says.0 says.2 says.1 says.3)
        (subst (λ (i : Inbound). Begins (followed id (record old { inbound = i })).upstreams id route outlet.keep head (find i.rows id).ended_by_client outlet.at_once (due_by due) new.upstreams) same acted.begun.0)) outputs))));
    none_cut = subst (λ (v : View). NoneCut v.offers) (sym acted.kept) (cut_followed (is_active mid.rows id) id old.offers rest.none_cut);
    about = about_so setup old rest frame mid of kept few_rows outputs small (judged.Begins head route) is (ap is_fatal is.judged.faultless) new (ap (λ (v : View). v.inbound.rows) acted.kept ∙ ap (λ (i : Inbound). i.rows) same) (ap (λ (u : upstreams.State). lives u.live) acted.begun.0.kept);
    alone = λ some crowded. goaway_alone setup old rest frame mid of kept few_rows outputs small (judged.Begins head route) is new (ap (λ (v : View). v.untaken) acted.kept) (ap (λ (i : Inbound). ids_of i.rows) same) is.judged.faultless goaway_left acted.begun.1 some crowded (due_by due);
    ids = λ other found. opened_so setup old rest frame mid of kept few_rows outputs small (judged.Begins head route) is new.inbound.rows (ap (λ (v : View). ids_of v.inbound.rows) acted.kept ∙ ap (λ (i : Inbound). ids_of i.rows) same) other found;
  }
    where
      noted_here : Noted
      noted_here = record { frame = frame; note = is.note }

      there : Inbound
      there = inbound_behind setup old.untaken old.inbound noted_here is.next

      says : (block : Partial) × (fields : List Field) × (completed_in old.inbound.block frame ≡ Some block) × (is.note ≡ Fields fields) × SaysOf setup (find old.inbound.rows id).outline fields block.ends (judged.Begins head route)
      says = is.judged.says

      same : mid ≡ there
      same = left_is setup old.untaken old.inbound mid noted_here is.next is.judged.left is.stays is.table

      live : is_active there.rows id ≡ true
      live = active (judged.Begins head route) is is.judged.faultless says.0 says.2 says.1 says.3

      none : cause_of_block setup (carried_in (find old.inbound.rows id).outline) (Fields says.1) ≡ None
      none = head_none setup book noted_here of few_rows is.judged.faultless says.0 says.2 says.1 says.3 (find old.inbound.rows id).outline says.4.0 says.4.2.no_cause

  -- something is held of a stream whose items go on
  held_so : (run : List Move) (s : State) → Leads setup run old balanced s → (find old.inbound.rows id).outline.begun ≡ true → (find old.inbound.rows id).outline.over ≡ false → IsHeldFor (find old.inbound.rows id).outline id old.upstreams.held
  held_so run s leads begun over =
      subst (λ (hs : List Held). IsHeldFor (find old.inbound.rows id).outline id hs) (ap (λ (r : theory_requests.State). r.held) leads.keeps.requests)
      (subst (λ (b : Book). IsHeldFor (find b.rows id).outline id s.requests.held) leads.keeps.book
      (held_for setup run s leads.stands leads.so (ap (λ (b : Book). b.closed) leads.keeps.book) (ap (λ (r : theory_requests.State). r.due) leads.keeps.requests) id
      (subst (λ (b : Book). (find b.rows id).outline.begun ≡ true) (sym leads.keeps.book) begun) (subst (λ (b : Book). (find b.rows id).outline.over ≡ false) (sym leads.keeps.book) over)))

  module _ (trailers : Vec Field Global) (is : IsFragmentJudged setup (outside_of old.untaken) old.inbound frame mid (judged.Trailers trailers)) where
    abbrev noted_then : Noted
    noted_then = record { frame = frame; note = is.note }

    abbrev behind_then : Inbound
    behind_then = inbound_behind setup old.untaken old.inbound noted_then is.next

    says_then : (block : Partial) × (fields : List Field) × (completed_in old.inbound.block frame ≡ Some block) × (is.note ≡ Fields fields) × SaysOf setup (find old.inbound.rows id).outline fields block.ends (judged.Trailers trailers)
    says_then = is.judged.says

    -- trailers end the stream, behind as many octets as are declared
    ends_so : (says_then.0.ends ≡ true) × (Rattle.model.specs.Malformed.has_length (find old.inbound.rows id).outline.declared ((find old.inbound.rows id).outline.octets + 0) ≡ true)
    ends_so = trailers_end setup told noted_then says_then.0 says_then.1 says_then.2 says_then.3 is.judged.faultless (calm says_then.4.1) says_then.4.0 says_then.4.2

    -- So the request may end.
    pub may_end_then : (run : List Move) (s : State) → Leads setup run old balanced s → MayTakeOf [] true (held_of id old.upstreams.held)
    may_end_then run s leads = subst (MayTakeOf [] true) (sym held.found) (by held.way held.goes)
      where
        outline : Outline
        outline = (find old.inbound.rows id).outline

        held : IsHeldFor outline id old.upstreams.held
        held = held_so run s leads says_then.4.0 says_then.4.1

        by : (way : Way) → GoesBy outline way → MayTake [] true way
        by (theory_requests.Way.Waiting route text stage body) goes = λ last. goes.may_end [] ends_so.1
        by (theory_requests.Way.Going number stage) goes = record {
          keep = goes.keep;
          parts = goes.parts;
          ended = false;
          text = goes.text;
          pieces = goes.pieces;
          sending = goes.sending;
          may_push = goes.may_push [] (within_length outline.declared (outline.octets + 0) ends_so.1);
          has_length = λ last. goes.full [] ends_so.1;
        }
        by theory_requests.Way.Dropped goes = tt

    pub ended_taken : (result : BlockTaken) (new : View) (put_out : List Output) → HasEnded id trailers.items last (record old { inbound = mid }) outputs result new put_out → IsBlockTaken setup old outputs frame result new put_out
    ended_taken (taken.Fatal code) new put_out acted = absurd acted.goes
    ended_taken (taken.Goes due goaway_left dropped) new put_out acted = record {
      note = is.note;
      brings =
          subst (λ (o : List Output). Brings setup old balanced outputs (Came noted_then) new (record balanced { owed = goaway_frames goaway_left; due = due_by due; shared = dropped }) o) (sym acted.puts)
          (subst (λ (v : View). Brings setup old balanced outputs (Came noted_then) v (record balanced { owed = goaway_frames goaway_left; due = due_by due; shared = dropped }) outputs) (sym (acted.kept ∙ ap (λ (i : Inbound). record old { inbound = i; upstreams = record old.upstreams { held = new.upstreams.held } }) same))
          (subst (λ (d : Due). Brings setup old balanced outputs (Came noted_then) (record old { inbound = behind_then; upstreams = record old.upstreams { held = new.upstreams.held } }) (record balanced { owed = goaway_frames goaway_left; due = d; shared = dropped }) outputs) (sym acted.goes.0)
          (subst (λ (l : Option ℕ). Brings setup old balanced outputs (Came noted_then) (record old { inbound = behind_then; upstreams = record old.upstreams { held = new.upstreams.held } }) (record balanced { owed = goaway_frames l; due = acted.due; shared = dropped }) outputs) (sym acted.goes.1)
          (subst (λ n. Brings setup old balanced outputs (Came noted_then) (record old { inbound = behind_then; upstreams = record old.upstreams { held = new.upstreams.held } }) (record balanced { owed = goaway_frames last; due = acted.due; shared = n }) outputs) (sym acted.goes.2)
          (λ run s leads.
          brings_ended setup old rest noted_then is.next of (ap is_fatal is.judged.faultless) is.is_noted is.read (of_stream (judged.Trailers trailers) is is.judged.faultless says_then.0 says_then.2 says_then.1 says_then.3) (active (judged.Trailers trailers) is is.judged.faultless says_then.0 says_then.2 says_then.1 says_then.3)
          (no_reply (judged.Trailers trailers) is is.judged.faultless says_then.0 says_then.2 says_then.1 says_then.3 says_then.4.1 says_then.4.2) says_then.1
          (subst (λ b. Adds setup told noted_then (Block says_then.1 b)) ends_so.0 (whole_addition setup book noted_then of few_rows is.judged.faultless says_then.0 says_then.2 says_then.1 says_then.3 (judged.Trailers trailers) says_then.4))
          (begun_active old.inbound.rows kept id says_then.4.0) run s leads (held_so run s leads says_then.4.0 says_then.4.1)
          (goaway_frames last)
          (whole_owes setup book noted_then of few_rows is.judged.faultless says_then.0 says_then.2 says_then.1 says_then.3 (judged.Trailers trailers) says_then.4 ∙ append-nil _ ∙ goaway setup old rest frame mid of kept few_rows outputs small (judged.Trailers trailers) is (ap (λ (i : Inbound). ids_of i.rows) same))
          outputs acted.due new.upstreams.held (subst (λ (xs : List Field). TakesOf (lives old.upstreams.live) id [] xs true old.upstreams.held (held_of id old.upstreams.held) acted.due new.upstreams.held) says_then.4.3 acted.takes))))));
      none_cut = subst (λ (v : View). NoneCut v.offers) (sym acted.kept) rest.none_cut;
      about = about_so setup old rest frame mid of kept few_rows outputs small (judged.Trailers trailers) is (ap is_fatal is.judged.faultless) new (ap (λ (v : View). v.inbound.rows) acted.kept ∙ ap (λ (i : Inbound). i.rows) same) (ap (λ (v : View). lives v.upstreams.live) acted.kept);
      alone = λ some crowded. goaway_alone setup old rest frame mid of kept few_rows outputs small (judged.Trailers trailers) is new (ap (λ (v : View). v.untaken) acted.kept) (ap (λ (i : Inbound). ids_of i.rows) same) is.judged.faultless goaway_left acted.goes.1 some crowded (due_by due);
      ids = λ other found. opened_so setup old rest frame mid of kept few_rows outputs small (judged.Trailers trailers) is new.inbound.rows (ap (λ (v : View). ids_of v.inbound.rows) acted.kept ∙ ap (λ (i : Inbound). ids_of i.rows) same) other found;
    }
      where
        same : mid ≡ behind_then
        same = left_is setup old.untaken old.inbound mid noted_then is.next is.judged.left is.stays is.table
