-- The gateway answers a request itself, as the judgement says: all that comes of it.
use Rattle.std.proofs.Common.{◌≡◌, ℕ, ◌<◌, ◌≤◌, ◌+◌, ◌⊎◌, Bool, true, false, not, List, [], ◌++◌, append-nil, length, Option, Some, None, refl, sym, ◌∙◌, ap, subst, inl, inr, nat_lt, ◌∷◌}
use Rattle.std.proofs.lemmas.Bool.{and_parts}
use Rattle.model.specs.Messages.{Field}
use Rattle.model.specs.Frames.{Frame, spell}
use Rattle.model.specs.Logs.{Output}
use Rattle.model.specs.Logs.Output.{ToClient}
use Rattle.model.specs.Setup.{Setup}
use Rattle.model.specs.Limits.{most_streams, most_untaken}
use Rattle.model.specs.Tapes.{Noted, put}
use Rattle.model.specs.Tapes.Note.{Fields}
use Rattle.model.specs.Tapes.Entry.{Came}
use Rattle.model.specs.Causes.{Cause, reset_code}
use Rattle.model.specs.Courses.{first_of_both}
use Rattle.model.specs.Decoding.{Partial}
use Rattle.model.specs.ErrorClause.{is_fatal, rst_stream, reset_for}
use Rattle.model.specs.Lifetimes.{may_open}
use Rattle.model.proofs.OpenedLaws.{not_opened}
use Rattle.local_replies.specs.Views.{cause_of}
use Rattle.local_replies.specs.declared.cause.Cause.{Cause as Why}
use Rattle.theory_errors.specs.Summary.{Stream as Kept, Summary}
use Rattle.theory_errors.specs.Judging.{is_over_in, completed_in}
use Rattle.theory_errors.specs.Owing.{owes_in}
use Rattle.theory_errors.specs.Rows.{ids_of, find}
use Rattle.theory_errors.specs.Rows.Slot.{Over}
use Rattle.theory_errors.specs.Book.{Book}
use Rattle.theory_errors.specs.Tidy.{AreKept}
use Rattle.theory_responses.specs.State as theory_responses
use Rattle.theory_responses.specs.Rule.{found_by}
use Rattle.streams.specs.Asked.{has, is_active, changed}
use Rattle.streams.proofs.Changes.{same_ids}
use Rattle.connection_state.specs.Inbound.{Inbound, book_of, told_of}
use Rattle.connection_state.specs.Blocks.{SaysOf}
use Rattle.connection_state.specs.Fragments.{IsOfBlock, IsFragmentJudged}
use Rattle.connection_state.specs.declared.answers.BlockJudged.TheVariants as judged
use Rattle.upstream_connections.specs.Connections.{lives}
use Rattle.upstream_connections.specs.Requests.{due_by}
use Rattle.theory_requests.specs.State.{Due}
use Rattle.theory.specs.Rule.{added_in}
use Rattle.refinement.specs.View.{View, balanced, waiting_for}
use Rattle.refinement.specs.Rest.{IsAtRest, NoneCut}
use Rattle.refinement.specs.Bringing.{Brings}
use Rattle.refinement.proofs.Answered.{whole_addition, whole_owes, caused_by}
use Rattle.refinement.proofs.Coming.{outside_of, inbound_behind}
use Rattle.event_handlers.specs.Comings.{ComesFrom}
use Rattle.event_handlers.specs.Inputs.Input.{OfFrame}
use Rattle.event_handlers.specs.Stopping.{reset_marked}
use Rattle.event_handlers.specs.Forgetting.{forgotten}
use Rattle.event_handlers.specs.block_frames.Following.{followed, dropped_by, goaway_behind, goaway_frames, with_goaway, put_goaway, IsCalmedBehind}
use Rattle.event_handlers.specs.block_frames.Acting.{IsReplied, IsReset, IsOffered, IsCutShort}
use Rattle.event_handlers.specs.block_frames.Taken.{IsBlockTaken}
use Rattle.event_handlers.specs.declared.block_frames.taking.BlockTaken.{BlockTaken}
use Rattle.event_handlers.specs.declared.block_frames.taking.BlockTaken.TheVariants as taken
use Rattle.event_handlers.proofs.block_frames.Before.{left_is}
use Rattle.event_handlers.proofs.block_frames.Cases.{brings_replied, brings_reset, brings_stopped, calmed_behind_as}
use Rattle.event_handlers.proofs.block_frames.Lists.{cut_followed, cut_without, cut_replied, cut_begun}
use Rattle.event_handlers.proofs.block_frames.Passed.{goaway, opened_so, about_so, reset_about}
use Rattle.event_handlers.proofs.block_frames.Streams.{found_behind}
use Rattle.event_handlers.proofs.block_frames.Requests.{active}

module _ (setup : Setup) (old : View) (rest : IsAtRest old) (frame : Frame) (mid : Inbound) (of : IsOfBlock frame) (kept : AreKept old.inbound.rows) (few_rows : length (ids_of old.inbound.rows) ≤ most_streams) (outputs : List Output) (small : frame.id < 2147483648)
    (not_half : is_over_in (find old.inbound.rows frame.id) ≡ false → (find old.inbound.rows frame.id).ended_by_gateway ≡ false) (calm : (find old.inbound.rows frame.id).outline.over ≡ false → (find old.inbound.rows frame.id).outline.cause ≡ None)
    (why : Why) (is : IsFragmentJudged setup (outside_of old.untaken) old.inbound frame mid (judged.Answered why))
    (own : (k : theory_responses.Kept) → theory_responses.find frame.id old.offers.kept ≡ Some k → ((find old.inbound.rows frame.id).head_out ≡ false) ⊎ (reset_code (cause_of why) ≡ None) → (theory_responses.answered (cause_of why) k).cut ≡ false) where
  abbrev id : ℕ
  id = frame.id

  abbrev told : Summary
  told = told_of (outside_of old.untaken) old.inbound

  abbrev book : Book
  book = book_of (outside_of old.untaken) old.inbound

  abbrev last : Option ℕ
  last = goaway_behind (length old.inbound.rows) mid.rows

  abbrev noted : Noted
  noted = record { frame = frame; note = is.note }

  abbrev behind : Inbound
  behind = inbound_behind setup old.untaken old.inbound noted is.next

  abbrev cause : Cause
  cause = cause_of why

  says : (block : Partial) × (fields : List Field) × (completed_in old.inbound.block frame ≡ Some block) × (is.note ≡ Fields fields) × SaysOf setup (find old.inbound.rows id).outline fields block.ends (judged.Answered why)
  says = is.judged.says

  same : mid ≡ behind
  same = left_is setup old.untaken old.inbound mid noted is.next is.judged.left is.stays is.table

  same_rows : ids_of mid.rows ≡ ids_of behind.rows
  same_rows = ap (λ (i : Inbound). ids_of i.rows) same

  live : is_active behind.rows id ≡ true
  live = active setup old rest frame mid of kept few_rows outputs small not_half calm (judged.Answered why) is is.judged.faultless says.0 says.2 says.1 says.3

  out_same : (find mid.rows id).head_out ≡ (find old.inbound.rows id).head_out
  out_same = ap (λ (i : Inbound). (find i.rows id).head_out) same ∙ ap (λ (k : Kept). k.head_out) (found_behind setup book noted kept live)

  now_caused : found_by (find old.inbound.rows id).outline.cause (find behind.rows id).outline.cause ≡ Some cause
  now_caused =
      ap (λ (c : Option Cause). found_by c (find behind.rows id).outline.cause) says.4.0
      ∙ ap (λ (k : Kept). k.outline.cause) (found_behind setup book noted kept live)
      ∙ ap (λ (c : Option Cause). first_of_both (find old.inbound.rows id).outline.cause c) (caused_by setup book noted of few_rows is.judged.faultless says.0 says.2 says.1 says.3 ∙ says.4.1)
      ∙ ap (λ (c : Option Cause). first_of_both c (Some cause)) says.4.0

  owed_so : owes_in setup false told (Came noted) ≡ goaway_frames last ++ reset_for id (find old.inbound.rows id).head_out None (Some cause)
  owed_so =
      whole_owes setup book noted of few_rows is.judged.faultless says.0 says.2 says.1 says.3 (judged.Answered why) says.4
      ∙ ap (λ (fs : List Frame). fs ++ reset_for id (find old.inbound.rows id).head_out None (Some cause)) (goaway setup old rest frame mid of kept few_rows outputs small (judged.Answered why) is same_rows)

  none_gained : added_in setup told noted ≡ []
  none_gained = whole_addition setup book noted of few_rows is.judged.faultless says.0 says.2 says.1 says.3 (judged.Answered why) says.4

  -- its stream was opened
  known : may_open behind.drained (ids_of behind.rows) id ≡ false
  known = by (may_open behind.drained (ids_of behind.rows) id) refl
    where
      by : (b : Bool) → may_open behind.drained (ids_of behind.rows) id ≡ b → may_open behind.drained (ids_of behind.rows) id ≡ false
      by false e = e
      by true e = absurd (let no : true ≡ false = sym (and_parts (has behind.rows id) (not (is_over_in (find behind.rows id))) live).0 ∙ not_opened behind.drained (ids_of behind.rows) id e in cc)

  offered : goaway_frames last ++ reset_for id (find old.inbound.rows id).head_out None (Some cause) ≡ goaway_frames last → ((find old.inbound.rows id).head_out ≡ false) ⊎ (reset_code cause ≡ None)
      → (result : BlockTaken) (new : View) (put_out : List Output) → IsOffered id cause last (record old { inbound = mid }) outputs result new put_out → IsBlockTaken setup old outputs frame result new put_out
  offered none late (taken.Fatal code) new put_out acted = absurd acted.goes
  offered none late (taken.Goes due goaway_left dropped) new put_out acted = record {
    note = is.note;
    brings =
        subst (λ (o : List Output). Brings setup old balanced outputs (Came noted) new (record balanced { owed = goaway_frames goaway_left; due = due_by due; shared = dropped }) o) (sym acted.puts)
        (subst (λ (v : View). Brings setup old balanced outputs (Came noted) v (record balanced { owed = goaway_frames goaway_left; due = due_by due; shared = dropped }) outputs) (sym (acted.kept ∙ ap target same))
        (subst (λ (r : Due). Brings setup old balanced outputs (Came noted) (target behind) (record balanced { owed = goaway_frames goaway_left; due = r; shared = dropped }) outputs) (sym acted.goes.0)
        (subst (λ n. Brings setup old balanced outputs (Came noted) (target behind) (record balanced { owed = goaway_frames goaway_left; shared = n }) outputs) (sym (acted.goes.2 ∙ ap (λ (i : Inbound). dropped_by id (record old { inbound = i })) same))
        (subst (λ (l : Option ℕ). Brings setup old balanced outputs (Came noted) (target behind) (record balanced { owed = goaway_frames l; shared = dropped_by id (record old { inbound = behind }) }) outputs) (sym acted.goes.1)
        (brings_replied setup old rest noted is.next of (ap is_fatal is.judged.faultless) is.is_noted is.read none_gained (goaway_frames last) cause (owed_so ∙ none) now_caused live outputs)))));
    none_cut = subst (λ (v : View). NoneCut v.offers) (sym (acted.kept ∙ ap target same)) cut;
    about = about_so setup old rest frame mid of kept few_rows outputs small (judged.Answered why) is (ap is_fatal is.judged.faultless) new (ap (λ (v : View). v.inbound.rows) acted.kept ∙ ap (λ (i : Inbound). i.rows) same) (ap (λ (v : View). lives v.upstreams.live) acted.kept);
    alone = λ some crowded. acted.goes.0;
    ids = λ other there. opened_so setup old rest frame mid of kept few_rows outputs small (judged.Answered why) is new.inbound.rows (ap (λ (v : View). ids_of v.inbound.rows) acted.kept ∙ same_rows) other there;
  }
    where
      target : Inbound → View
      target i = record (followed id (record old { inbound = i })) { offers = record (followed id (record old { inbound = i })).offers { kept = theory_responses.change id (theory_responses.answered cause) (followed id (record old { inbound = i })).offers.kept } }

      there : theory_responses.State
      there = Rattle.event_handlers.specs.block_frames.Following.offers_if (is_active behind.rows id) id old.offers

      cut : NoneCut (target behind).offers
      cut = cut_replied id cause there (cut_followed (is_active behind.rows id) id old.offers rest.none_cut)
          (subst (λ b. (k : theory_responses.Kept) → theory_responses.find id (Rattle.event_handlers.specs.block_frames.Following.offers_if b id old.offers).kept ≡ Some k → (theory_responses.answered cause k).cut ≡ false) (sym live) (cut_begun id cause old.offers (λ k found. own k found late)))

  reset_so : (code : ℕ) → (find old.inbound.rows id).head_out ≡ true → reset_code cause ≡ Some code
      → (result : BlockTaken) (new : View) (put_out : List Output) → IsReset id code last (record old { inbound = record mid { rows = changed id (Over true) mid.rows } }) outputs result new put_out → IsBlockTaken setup old outputs frame result new put_out
  reset_so code out coded (taken.Fatal found) new put_out acted = absurd acted.goes
  reset_so code out coded (taken.Goes due goaway_left dropped) new put_out acted = record {
    note = is.note;
    brings =
        subst (λ (o : List Output). Brings setup old balanced outputs (Came noted) new (record balanced { owed = goaway_frames goaway_left; due = due_by due; shared = dropped }) o) (sym acted.puts)
        (subst (λ (v : View). Brings setup old balanced outputs (Came noted) v (record balanced { owed = goaway_frames goaway_left; due = due_by due; shared = dropped }) out_then) (sym (acted.kept ∙ untaken_same last ∙ ap target same))
        (subst (λ (r : Due). Brings setup old balanced outputs (Came noted) (target behind) (record balanced { owed = goaway_frames goaway_left; due = r; shared = dropped }) out_then) (sym acted.goes.0)
        (subst (λ n. Brings setup old balanced outputs (Came noted) (target behind) (record balanced { owed = goaway_frames goaway_left; shared = n }) out_then) (sym acted.goes.2)
        (subst (λ (l : Option ℕ). Brings setup old balanced outputs (Came noted) (target behind) (record balanced { owed = goaway_frames l; shared = waiting_for id old }) out_then) (sym acted.goes.1)
        (brings_reset setup old rest noted is.next of (ap is_fatal is.judged.faultless) is.is_noted is.read none_gained last code
        (owed_so ∙ ap (λ b. goaway_frames last ++ reset_for id b None (Some cause)) out ∙ ap (λ (o : Option ℕ). goaway_frames last ++ Rattle.model.specs.ErrorClause.reset_with id o) coded) known small (free_same last acted.few) outputs)))));
    none_cut = subst (λ (v : View). NoneCut v.offers) (sym acted.kept) (cut_without id old.offers rest.none_cut);
    about = reset_about setup old rest frame mid of kept few_rows outputs small (judged.Answered why) is (ap is_fatal is.judged.faultless) new (ap (λ (v : View). v.inbound.rows) acted.kept ∙ ap (λ (i : Inbound). changed id (Over true) i.rows) same) (ap (λ (v : View). lives v.upstreams.live) acted.kept);
    alone = λ some crowded. acted.goes.0;
    ids = λ other there. opened_so setup old rest frame mid of kept few_rows outputs small (judged.Answered why) is new.inbound.rows (ap (λ (v : View). ids_of v.inbound.rows) acted.kept ∙ same_ids id (Over true) mid.rows ∙ same_rows) other there;
  }
    where
      out_then : List Output
      out_then = put (put_goaway last outputs) (ToClient (spell (rst_stream id code)))

      target : Inbound → View
      target i = record (forgotten id (record old { inbound = record i { rows = changed id (Over true) i.rows } })) { untaken = (with_goaway last old).untaken + length (spell (rst_stream id code)) }

      gone : View
      gone = record old { inbound = record mid { rows = changed id (Over true) mid.rows } }

      free_same : (l : Option ℕ) → nat_lt most_untaken (with_goaway l gone).untaken ≡ false → nat_lt most_untaken (with_goaway l old).untaken ≡ false
      free_same None free = free
      free_same (Some n) free = free

      untaken_same : (l : Option ℕ) → record (forgotten id gone) { untaken = (with_goaway l gone).untaken + length (spell (rst_stream id code)) } ≡ record (forgotten id gone) { untaken = (with_goaway l old).untaken + length (spell (rst_stream id code)) }
      untaken_same None = refl
      untaken_same (Some n) = refl

  pub replied_taken : (result : BlockTaken) (new : View) (put_out : List Output) → IsReplied (find mid.rows id).head_out (reset_code cause) id cause last (record old { inbound = mid }) outputs result new put_out → IsBlockTaken setup old outputs frame result new put_out
  replied_taken result new put_out acted = by (find old.inbound.rows id).head_out refl (reset_code cause) refl (subst (λ b. IsReplied b (reset_code cause) id cause last (record old { inbound = mid }) outputs result new put_out) out_same acted)
    where
      by : (b : Bool) → (find old.inbound.rows id).head_out ≡ b → (o : Option ℕ) → reset_code cause ≡ o → IsReplied b o id cause last (record old { inbound = mid }) outputs result new put_out → IsBlockTaken setup old outputs frame result new put_out
      by true out (Some code) coded acted = reset_so code out coded result new put_out acted
      by true out None coded acted = offered (ap (λ b. goaway_frames last ++ reset_for id b None (Some cause)) out ∙ ap (λ (o : Option ℕ). goaway_frames last ++ Rattle.model.specs.ErrorClause.reset_with id o) coded ∙ append-nil _) (inr coded) result new put_out acted
      by false out o coded acted = offered (ap (λ b. goaway_frames last ++ reset_for id b None (Some cause)) out ∙ append-nil _) (inl out) result new put_out acted

  -- The stream can't be reset, and the connection ends.
  stopped_so : (code : ℕ) → (find old.inbound.rows id).head_out ≡ true → reset_code cause ≡ Some code → (p : List Output) → IsCalmedBehind last (reset_marked id (record old { inbound = mid })) outputs p → ComesFrom setup old balanced outputs (OfFrame frame ∷ []) balanced None p
  stopped_so code out coded p calmed =
      brings_stopped setup old rest noted is.next of (ap is_fatal is.judged.faultless) is.is_noted is.read none_gained last code
      (owed_so ∙ ap (λ b. goaway_frames last ++ reset_for id b None (Some cause)) out ∙ ap (λ (o : Option ℕ). goaway_frames last ++ Rattle.model.specs.ErrorClause.reset_with id o) coded) outputs p
      (calmed_behind_as last (reset_marked id (record old { inbound = mid })) (record old { inbound = behind }) outputs p (same_ids id (Over true) mid.rows ∙ same_rows) refl refl calmed)

  pub replied_stopped : (p : List Output) → IsCutShort (find mid.rows id).head_out (reset_code cause) id last (record old { inbound = mid }) outputs p → ComesFrom setup old balanced outputs (OfFrame frame ∷ []) balanced None p
  replied_stopped p stopped = by (find old.inbound.rows id).head_out refl (reset_code cause) refl (subst (λ b. IsCutShort b (reset_code cause) id last (record old { inbound = mid }) outputs p) out_same stopped)
    where
      by : (b : Bool) → (find old.inbound.rows id).head_out ≡ b → (o : Option ℕ) → reset_code cause ≡ o → IsCutShort b o id last (record old { inbound = mid }) outputs p → ComesFrom setup old balanced outputs (OfFrame frame ∷ []) balanced None p
      by true out (Some code) coded is = stopped_so code out coded p is
      by true out None coded is = absurd is
      by false out o coded is = absurd is
