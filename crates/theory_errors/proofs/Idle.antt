-- A stream that may be opened yet is told nothing by any entry, unless that is an error of the connection.
use Rattle.std.proofs.Common.{◌≡◌, ℕ, suc, ◌%◌, Bool, true, false, ◌&&◌, ◌||◌, ◌==◌, nat_lt, if◌then◌else◌, List, [], ◌∷◌, length, Option, Some, None, refl, sym, ◌∙◌, ap, arith, inl, inr, not}
use Rattle.std.proofs.lemmas.Bool.{and_parts, and_from, and_left, and_right, cases_Bool, ltb-true, lt-ltb, ne_eqb, eqb-true}
use Rattle.std.proofs.lemmas.Int.{ints}
use Rattle.std.specs.Prelude.{pos, ◌+ℤ◌, ◌-ℤ◌, is_some}
use Rattle.std.specs.List.{list_any, list_all}
use Rattle.model.specs.Messages.{Item}
use Rattle.model.specs.Messages.Item.{Content}
use Rattle.model.specs.Frames.{data_kind, rst_stream_kind, window_update_kind, ends_stream, content}
use Rattle.model.specs.Limits.{most_streams}
use Rattle.model.specs.Setup.{Setup}
use Rattle.model.specs.Logs.{Event, Act}
use Rattle.model.specs.Tapes.{Noted, Entry}
use Rattle.model.specs.Tapes.Breach.{WrongPreface, TooLong}
use Rattle.model.specs.Tapes.Entry.{Came, Breached, Happened, Sent, Did}
use Rattle.model.specs.Decoding.{Partial}
use Rattle.model.specs.Streams.{is_ended_by, frame_items}
use Rattle.model.specs.Errors.{Fault}
use Rattle.model.specs.Errors.Fault.{Connection, Stream, Discarded}
use Rattle.model.specs.Lifetimes.{may_open, opens_by, ends_by, is_drain}
use Rattle.model.specs.WindowsOnTape.{increment}
use Rattle.model.specs.Causes.{Cause, cause_if}
use Rattle.model.specs.Causes.Cause.{BadAnswer}
use Rattle.model.specs.Courses.{interrupts, is_final}
use Rattle.model.specs.ErrorClause.{is_fatal}
use Rattle.model.proofs.OpenedLaws.{not_opened}
use Rattle.theory_errors.specs.Summary.{Stream as Kept, Summary}
use Rattle.theory_errors.specs.Judging.{completed_in, fault_for}
use Rattle.theory_errors.specs.Owing.{about_in, items_in, cause_in, new_cause_in, outline_behind, outline_from, opened_after, drained_after}
use Rattle.theory_errors.specs.After.{is_sound, grant, stream_from, kept_behind}
use Rattle.theory_errors.specs.Rows.{fresh}
use Rattle.theory_errors.specs.Book.{IsSound}
use Rattle.theory_errors.proofs.Wanted.{bears}
use Rattle.theory_errors.proofs.Seen.{idle_cause}
use Rattle.theory_errors.proofs.Calm.{IsIdleFrame, idle_frame_is}

-- ---- what tells nothing

-- no octets more, and none less
none_more : (is_there : Bool) (before : ℕ) (count : ℕ) → count ≡ 0 → (if is_there then pos before +ℤ pos count else pos before) ≡ pos before
none_more true before count none = ap (λ n. pos before +ℤ pos n) none ∙ omega (arith, ints)
none_more false before count none = refl

none_less : (before count : ℕ) → count ≡ 0 → pos before -ℤ pos count ≡ pos before
none_less before count none = ap (λ n. pos before -ℤ pos n) none ∙ omega (arith, ints)

-- The course of a stream that wasn't opened goes on so, where nothing interrupts it, and no cause and no item comes.
untold : (setup : Setup) (fails : Bool) (s : Summary) (e : Entry) (id : ℕ) (found : Option Fault) → new_cause_in setup fails id s e fresh.outline found ≡ None → interrupts id e found None ≡ false → items_in id s e ≡ [] → outline_from setup fails id s e fresh found ≡ fresh.outline
untold setup fails s e id found no_cause goes_on no_items =
    ap (λ (c : Option Cause). outline_behind fresh.outline (interrupts id e found c) (items_in id s e) c false) no_cause
    ∙ ap (λ b. outline_behind fresh.outline b (items_in id s e) None false) goes_on
    ∙ ap (λ (xs : List Item). outline_behind fresh.outline false xs None false) no_items

-- a stream of which all parts are as they were
all_fresh : (kept : Kept) → kept.ended_by_client ≡ false → kept.ended_by_gateway ≡ false → kept.reset_by_client ≡ false → kept.reset_by_gateway ≡ false → kept.balance ≡ pos 0 → kept.room ≡ pos 0 → kept.head_out ≡ false → kept.outline ≡ fresh.outline → kept ≡ fresh
all_fresh kept a b c d balance room out outline =
    ap (λ x. record kept { ended_by_client = x }) a
    ∙ ap (λ x. record kept { ended_by_client = false; ended_by_gateway = x }) b
    ∙ ap (λ x. record kept { ended_by_client = false; ended_by_gateway = false; reset_by_client = x }) c
    ∙ ap (λ x. record fresh { reset_by_gateway = x; balance = kept.balance; room = kept.room; head_out = kept.head_out; outline = kept.outline }) d
    ∙ ap (λ x. record fresh { balance = x; room = kept.room; head_out = kept.head_out; outline = kept.outline }) balance
    ∙ ap (λ x. record fresh { room = x; head_out = kept.head_out; outline = kept.outline }) room
    ∙ ap (λ x. record fresh { head_out = x; outline = kept.outline }) out
    ∙ ap (λ x. record fresh { outline = x }) outline

-- tests of which one part fails
not_it : (b x : Bool) → b ≡ false → (b && x || false) ≡ false
not_it b x is = ap (λ c. c && x || false) is

nor_it : (x b : Bool) → b ≡ false → (x && b || false) ≡ false
nor_it x b is = ap (λ c. c || false) (and_right x b is)

pub zero_unless : (x b : Bool) (n : ℕ) → b ≡ false → (if x && b then n else 0) ≡ 0
zero_unless x b n is = ap (λ c. if c then n else 0) (and_right x b is)

zero_if_not : (b x : Bool) (n : ℕ) → b ≡ false → (if b && x then n else 0) ≡ 0
zero_if_not b x n is = ap (λ c. if c && x then n else 0) is

pub no_cause_if : (b : Bool) (x : Option Cause) → x ≡ None → (if b then x else None) ≡ None
no_cause_if true x none = none
no_cause_if false x none = refl

-- what isn't an error of the connection ends no other stream's items
pub elsewhere : (found : Option Fault) → is_fatal found ≡ false → is_ended_by false found ≡ false
elsewhere None on = refl
elsewhere (Some (Connection code)) on = absurd (let no : true ≡ false = on in cc)
elsewhere (Some (Stream code)) on = refl
elsewhere (Some Discarded) on = refl

-- ---- entries on other streams

module _ (setup : Setup) (fails : Bool) (s : Summary) (id : ℕ) where
  -- a frame of another stream
  other_frame : (noted : Noted) (found : Option Fault) → (noted.frame.id == id) ≡ false → is_fatal found ≡ false → stream_from setup fails s (Came noted) id fresh found ≡ fresh
  other_frame noted found apart on = all_fresh (stream_from setup fails s (Came noted) id fresh found)
      (not_it (noted.frame.id == id) (ends_by (completed_in s.block noted.frame) noted.frame) apart) refl
      (nor_it (noted.frame.kind == rst_stream_kind) (noted.frame.id == id) apart) refl
      (none_more (is_sound s noted.frame) 0 (grant id noted.frame) (zero_unless (noted.frame.kind == window_update_kind) (noted.frame.id == id) (increment noted.frame) apart))
      (none_less 0 _ (zero_unless (noted.frame.kind == data_kind) (noted.frame.id == id) (length noted.frame.payload) apart))
      refl
      (untold setup fails s (Came noted) id found
      (ap (λ b. if b && nat_lt 0 id then cause_in setup fails fresh.outline s (Came noted) found else None) apart)
      (ap (λ b. is_ended_by b found || noted.frame.kind == rst_stream_kind && b || false) apart ∙ ap (λ b. b || noted.frame.kind == rst_stream_kind && false || false) (elsewhere found on) ∙ nor_it (noted.frame.kind == rst_stream_kind) false refl)
      (ap (λ b. if b then frame_items (completed_in s.block noted.frame) noted else []) apart))

  -- a frame to the client on another stream
  other_sent : (noted : Noted) → (noted.frame.id == id) ≡ false → stream_from setup fails s (Sent noted) id fresh None ≡ fresh
  other_sent noted apart = all_fresh (stream_from setup fails s (Sent noted) id fresh None)
      refl (not_it (noted.frame.id == id) (ends_by (completed_in s.block_out noted.frame) noted.frame) apart)
      refl (nor_it (noted.frame.kind == rst_stream_kind) (noted.frame.id == id) apart)
      (none_less 0 _ (zero_unless (noted.frame.kind == data_kind) (noted.frame.id == id) (length noted.frame.payload) apart))
      (none_more true 0 (grant id noted.frame) (zero_unless (noted.frame.kind == window_update_kind) (noted.frame.id == id) (increment noted.frame) apart))
      (ap (λ b. list_any is_final (if b then frame_items (completed_in s.block_out noted.frame) noted else [])) apart)
      (untold setup fails s (Sent noted) id None
      (no_cause_if (0 == id && nat_lt 0 id) None refl)
      (nor_it (noted.frame.kind == rst_stream_kind) (noted.frame.id == id) apart)
      refl)

  -- a frame of the stream itself that brings it nothing
  own_frame : (noted : Noted) (found : Option Fault) → IsIdleFrame fresh.outline s noted → found ≡ None → stream_from setup fails s (Came noted) id fresh found ≡ fresh
  own_frame noted found idle none = all_fresh (stream_from setup fails s (Came noted) id fresh found)
      (nor_it (noted.frame.id == id) (ends_by (completed_in s.block noted.frame) noted.frame) (ap (λ (b : Option Partial). ends_by b noted.frame) idle.no_block ∙ and_left (noted.frame.kind == data_kind) (ends_stream noted.frame) idle.no_data)) refl
      (not_it (noted.frame.kind == rst_stream_kind) (noted.frame.id == id) idle.no_reset) refl
      (none_more (is_sound s noted.frame) 0 (grant id noted.frame) (zero_if_not (noted.frame.kind == window_update_kind) (noted.frame.id == id) (increment noted.frame) idle.no_grant))
      (none_less 0 _ (zero_if_not (noted.frame.kind == data_kind) (noted.frame.id == id) (length noted.frame.payload) idle.no_data))
      refl
      (untold setup fails s (Came noted) id found
      (ap (λ (x : Option Fault). new_cause_in setup fails id s (Came noted) fresh.outline x) none ∙ no_cause_if (noted.frame.id == id && nat_lt 0 id) _ (idle_cause setup fresh.outline s noted bears_none))
      (ap (λ (x : Option Fault). is_ended_by (noted.frame.id == id) x || noted.frame.kind == rst_stream_kind && noted.frame.id == id || false) none ∙ not_it (noted.frame.kind == rst_stream_kind) (noted.frame.id == id) idle.no_reset)
      (nothing_if (noted.frame.id == id) (frame_items (completed_in s.block noted.frame) noted) no_items))
    where
      bears_none : bears s noted.frame ≡ false
      bears_none = ap (λ (b : Option Partial). is_some b || noted.frame.kind == data_kind) idle.no_block ∙ idle.no_data

      no_items : frame_items (completed_in s.block noted.frame) noted ≡ []
      no_items = ap (λ (b : Option Partial). frame_items b noted) idle.no_block ∙ ap (λ b. if b then Content (content noted.frame) (ends_stream noted.frame) ∷ [] else []) idle.no_data

      nothing_if : (b : Bool) (xs : List Item) → xs ≡ [] → (if b then xs else []) ≡ []
      nothing_if true xs none = none
      nothing_if false xs none = refl

  -- an event, where no answer fails on the stream
  other_event : (event : Event) → (about_in s (Happened event) == id) ≡ false → stream_from setup fails s (Happened event) id fresh None ≡ fresh
  other_event event apart = all_fresh (stream_from setup fails s (Happened event) id fresh None) refl refl refl refl refl refl refl
      (untold setup fails s (Happened event) id None (ap (λ b. if b && nat_lt 0 id then cause_in setup fails fresh.outline s (Happened event) None else None) apart) refl refl)

  no_failure : (event : Event) → fails ≡ false → stream_from setup fails s (Happened event) id fresh None ≡ fresh
  no_failure event none = all_fresh (stream_from setup fails s (Happened event) id fresh None) refl refl refl refl refl refl refl
      (untold setup fails s (Happened event) id None (no_cause_if (about_in s (Happened event) == id && nat_lt 0 id) (cause_if fails BadAnswer) (ap (λ b. cause_if b BadAnswer) none)) refl refl)

  any_act : (act : Act) → stream_from setup fails s (Did act) id fresh None ≡ fresh
  any_act act = all_fresh (stream_from setup fails s (Did act) id fresh None) refl refl refl refl refl refl refl
      (untold setup fails s (Did act) id None (no_cause_if (0 == id && nat_lt 0 id) None refl) refl refl)

-- ---- any entry

-- a stream that may be opened behind an event might before it
undrained : (b drained : Bool) (opened : List ℕ) (id : ℕ) → may_open (b || drained) opened id ≡ true → may_open drained opened id ≡ true
undrained true drained opened id may = absurd (let no : false ≡ true = sym (and_right (id % 2 == 1 && list_all (λ other. nat_lt other id) opened) false refl) ∙ may in cc)
undrained false drained opened id may = may

-- a stream above one that is opened may be opened before it too
may_before : (drained : Bool) (opened : List ℕ) (other id : ℕ) → may_open drained (other ∷ opened) id ≡ true → (may_open drained opened id ≡ true) × ((other == id) ≡ false)
may_before drained opened other id may =
    let parts = and_parts (id % 2 == 1 && (nat_lt other id && list_all (λ o. nat_lt o id) opened)) (not drained && nat_lt (suc (length opened)) most_streams) may in
    let last = and_parts (not drained) (nat_lt (suc (length opened)) most_streams) parts.1 in
    let both = and_parts (id % 2 == 1) (nat_lt other id && list_all (λ o. nat_lt o id) opened) parts.0 in
    let above = and_parts (nat_lt other id) (list_all (λ o. nat_lt o id) opened) both.1 in
    let room = ltb-true (suc (length opened)) most_streams last.1 in
    let below = ltb-true other id above.0 in
    (and_from (id % 2 == 1 && list_all (λ o. nat_lt o id) opened) (not drained && nat_lt (length opened) most_streams) (and_from (id % 2 == 1) (list_all (λ o. nat_lt o id) opened) both.0 above.1) (and_from (not drained) (nat_lt (length opened) most_streams) last.0 (lt-ltb (length opened) most_streams (omega (arith, room)))), ne_eqb other id (λ same. omega (arith, same, below)))

module _ (setup : Setup) (fails : Bool) (s : Summary) (idle : (id : ℕ) → may_open s.drained s.opened id ≡ true → s.stream id ≡ fresh) where
  -- what is kept of the stream, from nothing
  from_fresh : (e : Entry) (id : ℕ) → may_open s.drained s.opened id ≡ true → stream_from setup fails s e id fresh (fault_for fresh.outline s e) ≡ fresh → kept_behind setup fails s e id (s.stream id) ≡ fresh
  from_fresh e id may same = ap (λ (k : Kept). stream_from setup fails s e id k (fault_for k.outline s e)) (idle id may) ∙ same

  -- a frame, by the first rows an error of the connection for each course
  came_idle : (noted : Noted) (id : ℕ) → (b : Bool) → opens_by s.drained s.opened (completed_in s.block noted.frame) noted.note ≡ b → may_open s.drained (if b then noted.frame.id ∷ s.opened else s.opened) id ≡ true → is_fatal (fault_for fresh.outline s (Came noted)) ≡ false → IsSound fails s (Came noted) → kept_behind setup fails s (Came noted) id (s.stream id) ≡ fresh
  came_idle noted id true is may on fit =
      let before = may_before s.drained s.opened noted.frame.id id may in
      from_fresh (Came noted) id before.0 (other_frame setup fails s id noted (fault_for fresh.outline s (Came noted)) before.1 on)
  came_idle noted id false is may on fit = cases (noted.frame.id == id) refl
    where
      cases : (b : Bool) → (noted.frame.id == id) ≡ b → kept_behind setup fails s (Came noted) id (s.stream id) ≡ fresh
      cases false apart = from_fresh (Came noted) id may (other_frame setup fails s id noted (fault_for fresh.outline s (Came noted)) apart on)
      cases true same =
          let own : may_open s.drained s.opened noted.frame.id ≡ true = ap (λ (i : ℕ). may_open s.drained s.opened i) (eqb-true noted.frame.id id same) ∙ may in
          let frame : IsIdleFrame fresh.outline s noted = idle_frame_is s noted fresh.outline own is on fit in
          from_fresh (Came noted) id may (own_frame setup fails s id noted (fault_for fresh.outline s (Came noted)) frame frame.no_fault)

  -- Whatever entry comes.
  pub still_idle : (e : Entry) → IsSound fails s e → is_fatal (fault_for fresh.outline s e) ≡ false → (id : ℕ) → may_open (drained_after s.drained e) (opened_after s e) id ≡ true → kept_behind setup fails s e id (s.stream id) ≡ fresh
  still_idle (Came noted) fit on id may = came_idle noted id (opens_by s.drained s.opened (completed_in s.block noted.frame) noted.note) refl may on fit
  still_idle (Breached WrongPreface) fit on id may = absurd (let no : true ≡ false = on in cc)
  still_idle (Breached TooLong) fit on id may = absurd (let no : true ≡ false = on in cc)
  still_idle (Did act) fit on id may = from_fresh (Did act) id may (any_act setup fails s id act)
  still_idle (Sent noted) fit on id may =
      from_fresh (Sent noted) id may (other_sent setup fails s id noted (ne_eqb noted.frame.id id (λ same. let no : true ≡ false = sym may ∙ ap (λ (i : ℕ). may_open s.drained s.opened i) (sym same) ∙ fit in absurd (let x : true ≡ false = no in cc))))
  still_idle (Happened event) fit on id may = elim (cases_Bool fails) [
    | inr none ↦ from_fresh (Happened event) id (undrained (is_drain event) s.drained s.opened id may) (no_failure setup fails s id event none)
    | inl fell ↦ from_fresh (Happened event) id (undrained (is_drain event) s.drained s.opened id may) (other_event setup fails s id event (ne_eqb (about_in s (Happened event)) id (λ same.
        let found : list_any (λ other. other == about_in s (Happened event)) s.opened ≡ true = (and_parts (list_any (λ other. other == about_in s (Happened event)) s.opened) _ (fit fell)).0 in
        let isnt : list_any (λ other. other == about_in s (Happened event)) s.opened ≡ false = ap (λ (i : ℕ). list_any (λ other. other == i) s.opened) same ∙ not_opened s.drained s.opened id (undrained (is_drain event) s.drained s.opened id may) in
        absurd (let no : true ≡ false = sym found ∙ isnt in cc))))
  ]
