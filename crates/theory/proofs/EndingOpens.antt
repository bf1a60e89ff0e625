-- A frame that is an error of the connection opens no stream: a head that would is in order, or refused by an error of its stream alone.
use Rattle.std.proofs.Common.{◌≡◌, ℕ, ◌%◌, Bool, true, false, ◌==◌, ◌&&◌, nat_lt, List, [], ◌∷◌, length, map, refl, sym, ap, ◌∙◌, subst, arith, if◌then◌else◌, not, ◌||◌}
use Rattle.std.specs.Prelude.{Option, Some, None, is_some, is_none}
use Rattle.std.specs.List.{list_any, list_all}
use Rattle.std.proofs.lemmas.Bool.{and_parts, or_parts, eqb-true, ltb-true, ne_eqb}
use Rattle.model.specs.Frames.{headers_kind, protocol_error, flow_control_error, compression_error, refused_stream, enhance_your_calm}
use Rattle.model.specs.Tables.{Table}
use Rattle.model.specs.Tapes.{Note, Noted}
use Rattle.model.specs.Tapes.Note.{NoBlock, Fields, Undecodable, Unread}
use Rattle.model.specs.Tapes.Entry.{Came}
use Rattle.model.specs.Decoding.{Partial}
use Rattle.model.specs.StreamStates.{StreamState, Standing, state_of, opened_or, unopened, is_above, verdict}
use Rattle.model.specs.Limits.{most_active, most_streams}
use Rattle.model.specs.StreamStates.Standing.{WholeConnection, Idle, ServerIdle}
use Rattle.model.specs.StreamStates.Verdict.{Opens, Fails}
use Rattle.model.specs.Errors.{Fault, first_of, or_else}
use Rattle.model.specs.Errors.Fault.{Connection, Stream}
use Rattle.model.specs.FrameErrors.{fault_if}
use Rattle.model.specs.ErrorTable.{judged, fault_of, is_undecodable}
use Rattle.model.specs.Lifetimes.{may_open, opens_by}
use Rattle.model.specs.ErrorClause.{is_fatal}
use Rattle.model.proofs.OpenedLaws.{not_opened}
use Rattle.theory_errors.specs.Summary.{Stream as Kept, Summary}
use Rattle.theory_errors.specs.Judging.{state_in, streams_in, standing_in, active_in, completed_in, fault_on_in, fault_by_standing_in, malformed_in, rows_before_block_in, rows_behind_block_in}
use Rattle.theory_errors.specs.Owing.{fault_in}
use Rattle.theory_errors.proofs.Wanted.{above_told, count_told}
use Rattle.theory_errors.proofs.RowsKept.{completed_own}
use Rattle.theory_header_tables.specs.Rule as theory_header_tables
use Rattle.theory_header_tables.specs.Verdicts.{verdict_in}
use Rattle.theory.proofs.EndingWindows.{mild_first, skip, mild_if, mild_both, mild_unless}

-- ---- a stream that may be opened is idle

looked_none : (f : ℕ → Kept) (ids : List ℕ) (id : ℕ) → list_any (λ other. other == id) ids ≡ false → state_of id (map (λ other. record { id = other; state = state_in (f other) }) ids) ≡ None
looked_none f [] id none = refl
looked_none f (other ∷ ids) id none =
    let parts = or_parts (other == id) (list_any (λ o. o == id) ids) none in
    ap (λ b. if b then Some (state_in (f other)) else state_of id (map (λ x. record { id = x; state = state_in (f x) }) ids)) parts.0 ∙ looked_none f ids id parts.1

not_so : (b : Bool) → not b ≡ true → b ≡ false
not_so true is = let no : false ≡ true = is in cc
not_so false is = refl

idle_standing : (s : Summary) (id : ℕ) → may_open s.drained s.opened id ≡ true → standing_in s id ≡ Idle
idle_standing s id may =
    let parts = and_parts (id % 2 == 1 && list_all (λ other. nat_lt other id) s.opened) (not s.drained && nat_lt (length s.opened) most_streams) may in
    let last = and_parts (not s.drained) (nat_lt (length s.opened) most_streams) parts.1 in
    let undrained : s.drained ≡ false = not_so s.drained last.0 in
    let both = and_parts (id % 2 == 1) (list_all (λ other. nat_lt other id) s.opened) parts.0 in
    let odd = eqb-true (id % 2) 1 both.0 in
    let room = ltb-true (length s.opened) most_streams last.1 in
    let above : is_above id (streams_in s) ≡ true = above_told s.stream s.opened id ∙ both.1 in
    let not_full : (length (streams_in s) == most_streams) ≡ false = ap (λ n. n == most_streams) (count_told s.stream s.opened) ∙ ne_eqb (length s.opened) most_streams (λ same. omega (arith, same, room)) in
    let not_zero : (id == 0) ≡ false = ne_eqb id 0 (λ same. let other : 0 % 2 ≡ 1 = subst (λ n. n % 2 ≡ 1) same odd in omega (arith, other)) in
    let not_even : (id % 2 == 0) ≡ false = ne_eqb (id % 2) 0 (λ same. omega (arith, same, odd)) in
    ap (λ b. if b then WholeConnection else opened_or (state_of id (streams_in s)) (unopened (is_above id (streams_in s)) (s.drained || length (streams_in s) == most_streams) id)) not_zero
    ∙ ap (λ (o : Option StreamState). opened_or o (unopened (is_above id (streams_in s)) (s.drained || length (streams_in s) == most_streams) id)) (looked_none s.stream s.opened id (not_opened s.drained s.opened id may))
    ∙ ap (λ b. unopened b (s.drained || length (streams_in s) == most_streams) id) above
    ∙ ap (λ d. unopened true (d || length (streams_in s) == most_streams) id) undrained
    ∙ ap (λ b. unopened true b id) not_full
    ∙ ap (λ b. if b then ServerIdle else Idle) not_even

refused_alone : (b : Bool) → is_fatal (fault_of (if b then Opens else Fails (Stream refused_stream))) ≡ false
refused_alone true = refl
refused_alone false = refl

none_of : (o : Option Fault) → is_some o ≡ false → is_none o ≡ true
none_of None e = refl
none_of (Some fault) e = let clash : true ≡ false = e in cc

module _ (u : Summary) (noted : Noted) (table next : Table) (right : theory_header_tables.IsNoted (completed_in u.block noted.frame) (verdict_in u noted.frame).is_error table noted.note next) (fatal : is_fatal (fault_in u (Came noted)) ≡ true) where
  -- a head that opens its stream is no error of the connection
  opens_mild : (block : Partial) → completed_in u.block noted.frame ≡ Some block → is_undecodable noted.note ≡ false → (verdict_in u noted.frame).is_error ≡ false → may_open u.drained u.opened block.id ≡ true → is_fatal (fault_in u (Came noted)) ≡ false
  opens_mild block is readable sound may =
      let last : Option Fault = malformed_in (u.stream noted.frame.id).outline u (Came noted) in
      let idle : standing_in u noted.frame.id ≡ Idle = idle_standing u noted.frame.id (subst (λ n. may_open u.drained u.opened n ≡ true) (completed_own u.block noted.frame block is) may) in
      let standing : is_fatal (fault_by_standing_in u noted.frame) ≡ false =
      ap (λ (b : Option Partial). is_fatal (fault_on_in u noted.frame.id (judged b noted.frame))) is
      ∙ ap (λ (x : Standing). is_fatal (fault_of (verdict (length (active_in u)) x headers_kind))) idle
      ∙ refused_alone (nat_lt (length (active_in u)) most_active) in
      ap (λ (x : Option Fault). is_fatal (or_else x last)) (skip (rows_before_block_in u noted.frame) (rows_behind_block_in u noted) (none_of (first_of (rows_before_block_in u noted.frame)) sound))
      ∙ mild_first (rows_behind_block_in u noted) last
      (ap (λ b. is_fatal (fault_if b (Connection compression_error))) readable, (mild_unless (fault_by_standing_in u noted.frame) standing, (mild_both _ _ protocol_error flow_control_error, (mild_if _ flow_control_error, (standing, (mild_if _ enhance_your_calm, tt))))))
      (mild_if _ protocol_error)

  pub opens_none : opens_by u.drained u.opened (completed_in u.block noted.frame) noted.note ≡ false
  opens_none = by (completed_in u.block noted.frame) refl noted.note refl (verdict_in u noted.frame).is_error refl right
    where
      by : (b : Option Partial) → completed_in u.block noted.frame ≡ b → (n : Note) → noted.note ≡ n → (x : Bool) → (verdict_in u noted.frame).is_error ≡ x → theory_header_tables.IsNoted b x table n next → opens_by u.drained u.opened b n ≡ false
      by None is n note x wrong r = refl
      by (Some block) is NoBlock note x wrong r = refl
      by (Some block) is Undecodable note x wrong r = refl
      by (Some block) is Unread note x wrong r = refl
      by (Some block) is (Fields fields) note true wrong r = absurd (let clash : Fields fields ≡ Unread = r.0 in cc)
      by (Some block) is (Fields fields) note false wrong r = cases (may_open u.drained u.opened block.id) refl
        where
          cases : (b : Bool) → may_open u.drained u.opened block.id ≡ b → b ≡ false
          cases false may = refl
          cases true may = absurd (let clash : true ≡ false = sym fatal ∙ opens_mild block is (ap is_undecodable note) wrong may in cc)
