-- At most a hundred streams are active: a hundred and first is refused, and behind the reset that is owed for it then it is over.
use Rattle.std.proofs.Common.{◌≡◌, ℕ, ◌<◌, ◌≤◌, Bool, true, false, not, ◌&&◌, ◌||◌, ◌==◌, nat_lt, if◌then◌else◌, List, [], ◌∷◌, ◌++◌, filter, length, Option, Some, None, refl, sym, ◌∙◌, ap, subst, arith, inl, inr}
use Rattle.std.proofs.lemmas.Bool.{or_left, or_right, or_parts, and_from, eq-eqb, ltb-true}
use Rattle.std.specs.List.{list_any}
use Rattle.model.specs.Frames.{Frame, headers_kind, refused_stream, protocol_error, flow_control_error}
use Rattle.model.specs.Setup.{Setup}
use Rattle.model.specs.Known.{Known}
use Rattle.model.specs.Tapes.{Noted, Entry}
use Rattle.model.specs.Tapes.Entry.{Came, Breached, Happened, Sent, Did}
use Rattle.model.specs.Decoding.{Partial}
use Rattle.model.specs.StreamStates.{verdict, Standing}
use Rattle.model.specs.Limits.{most_active}
use Rattle.model.specs.StreamStates.Standing.{Idle}
use Rattle.model.specs.StreamStates.Verdict.{Opens, Fails}
use Rattle.model.specs.FrameErrors.{fault_if}
use Rattle.model.specs.Errors.{Fault, first_of, or_else}
use Rattle.model.specs.Errors.Fault.{Stream}
use Rattle.model.specs.Lifetimes.{opens_by, may_open, ends_by, active}
use Rattle.model.specs.ErrorTable.{fault_of, judged, unless_of_stream, grants_nothing, grants_past, is_past_room}
use Rattle.model.specs.ErrorClause.{rst_stream, is_calming}
use Rattle.model.proofs.OpenedLaws.{not_opened}
use Rattle.theory_errors.specs.Summary.{Outline, Stream as Kept, Summary}
use Rattle.theory_errors.specs.Judging.{window_in, fault_on_in, is_over_in, active_in, is_active_in, completed_in, fault_by_standing_in, stream_update_in, stream_data_in, no_goaway_in, malformed_in, room_in}
use Rattle.theory_errors.specs.Owing.{highest_in, fault_in, last_goaway_in, owed_first_in, owes_in}
use Rattle.theory_errors.specs.After.{kept_behind, resets_it, ends_after}
use Rattle.theory_errors.specs.Turn.{rest_of}
use Rattle.theory_errors.specs.Rows.{find, ids_of}
use Rattle.theory_errors.specs.Rule.{Move, Point, point_after, IsInTurn, AreKnown, tape_of, point_of, AllAllowed}
use Rattle.theory_errors.specs.Book.{Book, summary_in, ledger_of, AllMoved}
use Rattle.theory_errors.specs.Told.{IsTold}
use Rattle.theory_errors.proofs.Rule.{point_same}
use Rattle.theory_errors.proofs.Standings.{actives, actives_same, each_alike}
use Rattle.theory_errors.proofs.RowsKept.{opens_own}
use Rattle.theory_errors.proofs.Goaways.{goaway_calms}
use Rattle.theory_errors.proofs.Calm.{early_rows, early_fatal, calm, skip, idle_standing}
use Rattle.theory_errors.proofs.Book.{HasKept, has_kept}

-- ---- lists

-- a stricter test leaves no more
pub fewer : (p q : ℕ → Bool) (ids : List ℕ) → ((id : ℕ) → p id ≡ true → q id ≡ true) → length (filter p ids) ≤ length (filter q ids)
fewer p q [] stricter = omega arith
fewer p q (id ∷ ids) stricter = cases (fewer p q ids stricter) (p id) refl (q id) refl
  where
    cases : length (filter p ids) ≤ length (filter q ids) → (b : Bool) → p id ≡ b → (c : Bool) → q id ≡ c → length (if b then id ∷ filter p ids else filter p ids) ≤ length (if c then id ∷ filter q ids else filter q ids)
    cases rest true is true other = omega (arith, rest)
    cases rest true is false other = absurd (let no : false ≡ true = sym other ∙ stricter id is in cc)
    cases rest false is true other = omega (arith, rest)
    cases rest false is false other = rest

-- ---- streams that last

-- the stream is active, and no reset of it is owed
abbrev lasts : (ℕ → Kept) → List Frame → ℕ → Bool
lasts f queue id = not (is_over_in (f id)) && not (list_any (resets_it id) queue)

-- At most a hundred streams last.
abbrev IsFew : Point → Type 0
IsFew p = length (filter (lasts p.summary.stream p.queue) p.summary.opened) ≤ most_active

-- both parts of the test
parts : (a b : Bool) → (not a && not b) ≡ true → (a ≡ false) × (b ≡ false)
parts false false is = (refl, refl)
parts true b is = absurd (let no : false ≡ true = is in cc)
parts false true is = absurd (let no : false ≡ true = is in cc)

both : (a b : Bool) → a ≡ false → b ≡ false → (not a && not b) ≡ true
both a b x y = ap (λ c. not c && not b) x ∙ ap not y

-- what is kept of each stream behind an entry
abbrev behind : Setup → Bool → Summary → Entry → ℕ → Kept
behind setup fails s e id = kept_behind setup fails s e id (s.stream id)

-- ---- what is over stays so

-- flags that are set stay set
flags : (us us' peer peer' client client' gateway gateway' : Bool) → (us ≡ true → us' ≡ true) → (peer ≡ true → peer' ≡ true) → (client ≡ true → client' ≡ true) → (gateway ≡ true → gateway' ≡ true)
    → (us' || peer' || client' && gateway') ≡ false → (us || peer || client && gateway) ≡ false
flags true us' peer peer' client client' gateway gateway' a b c d on = absurd (let no : true ≡ false = sym (or_left (us' || peer') (client' && gateway') (or_left us' peer' (a refl))) ∙ on in cc)
flags false us' true peer' client client' gateway gateway' a b c d on =
    absurd (let no : true ≡ false = sym (or_left (us' || peer') (client' && gateway') (or_right us' peer' (b refl))) ∙ on in cc)
flags false us' false peer' true client' true gateway' a b c d on =
    absurd (let no : true ≡ false = sym (or_right (us' || peer') (client' && gateway') (and_from client' gateway' (c refl) (d refl))) ∙ on in cc)
flags false us' false peer' true client' false gateway' a b c d on = refl
flags false us' false peer' false client' gateway gateway' a b c d on = refl

-- a stream that is over stays so, where each of its flags stays
over_stays : (kept now : Kept) → (kept.reset_by_gateway ≡ true → now.reset_by_gateway ≡ true) → (kept.reset_by_client ≡ true → now.reset_by_client ≡ true) → (kept.ended_by_client ≡ true → now.ended_by_client ≡ true) → (kept.ended_by_gateway ≡ true → now.ended_by_gateway ≡ true)
    → is_over_in now ≡ false → is_over_in kept ≡ false
over_stays kept now =
    flags kept.reset_by_gateway now.reset_by_gateway kept.reset_by_client now.reset_by_client kept.ended_by_client now.ended_by_client kept.ended_by_gateway now.ended_by_gateway

stays : (setup : Setup) (fails : Bool) (s : Summary) (e : Entry) (id : ℕ) (kept : Kept) → is_over_in (kept_behind setup fails s e id kept) ≡ false → is_over_in kept ≡ false
stays setup fails s (Came noted) id kept on =
    over_stays kept (kept_behind setup fails s (Came noted) id kept) (λ is. is) (or_right (resets_it id noted.frame) kept.reset_by_client) (or_right (noted.frame.id == id && ends_by (completed_in s.block noted.frame) noted.frame) kept.ended_by_client) (λ is. is) on
stays setup fails s (Breached breach) id kept on = on
stays setup fails s (Happened event) id kept on = on
stays setup fails s (Sent noted) id kept on =
    over_stays kept (kept_behind setup fails s (Sent noted) id kept) (or_right (resets_it id noted.frame) kept.reset_by_gateway) (λ is. is) (λ is. is) (or_right (noted.frame.id == id && ends_by (completed_in s.block_out noted.frame) noted.frame) kept.ended_by_gateway) on
stays setup fails s (Did act) id kept on = on

-- a stream that lasts behind an entry lasted before it, where what is owed then is owed behind it too, or was sent
lasted : (setup : Setup) (fails : Bool) (s : Summary) (e : Entry) (queue queue' : List Frame) → ((id : ℕ) → is_over_in (kept_behind setup fails s e id (s.stream id)) ≡ false → list_any (resets_it id) queue' ≡ false → list_any (resets_it id) queue ≡ false)
    → length (filter (lasts (behind setup fails s e) queue') s.opened) ≤ length (filter (lasts s.stream queue) s.opened)
lasted setup fails s e queue queue' owed = fewer _ _ s.opened each
  where
    each : (id : ℕ) → lasts (behind setup fails s e) queue' id ≡ true → lasts s.stream queue id ≡ true
    each id is =
        let now = parts (is_over_in (kept_behind setup fails s e id (s.stream id))) (list_any (resets_it id) queue') is in
        both (is_over_in (s.stream id)) (list_any (resets_it id) queue) (stays setup fails s e id (s.stream id) now.0) (owed id now.0 now.1)

-- where nothing is owed, no reset is
none_owed : (queue : List Frame) → queue ≡ [] → (id : ℕ) → list_any (resets_it id) queue ≡ false
none_owed queue none id = ap (λ fs. list_any (resets_it id) fs) none

-- a reset is found in a queue
any_left : (test : Frame → Bool) (fs gs : List Frame) → list_any test fs ≡ true → list_any test (fs ++ gs) ≡ true
any_left test [] gs is = absurd (let no : false ≡ true = is in cc)
any_left test (f ∷ fs) gs is = cases (test f) is (any_left test fs gs)
  where
    cases : (b : Bool) → (b || list_any test fs) ≡ true → (list_any test fs ≡ true → list_any test (fs ++ gs) ≡ true) → (b || list_any test (fs ++ gs)) ≡ true
    cases true is more = refl
    cases false is more = more is

any_right : (test : Frame → Bool) (fs gs : List Frame) → list_any test gs ≡ true → list_any test (fs ++ gs) ≡ true
any_right test [] gs is = is
any_right test (f ∷ fs) gs is = or_right (test f) (list_any test (fs ++ gs)) (any_right test fs gs is)

-- ---- a frame that opens a stream

-- the block that a frame completes, where it opens a stream
block_there : (drained : Bool) (opened : List ℕ) (block : Option Partial) (noted : Noted) → opens_by drained opened block noted.note ≡ true → (b : Partial) × (block ≡ Some b)
block_there drained opened None noted by = absurd (let no : false ≡ true = by in cc)
block_there drained opened (Some b) noted by = (b, refl)

module _ (setup : Setup) (fails : Bool) (s : Summary) (noted : Noted) (by : opens_by s.drained s.opened (completed_in s.block noted.frame) noted.note ≡ true) (on : ends_after s (Came noted) ≡ false) where
  abbrev outline : Outline
  outline = (s.stream noted.frame.id).outline

  may : may_open s.drained s.opened noted.frame.id ≡ true
  may = opens_own s.drained s.opened s.block noted.frame noted.note by

  -- its stream isn't active yet
  inactive : is_active_in noted.frame.id s ≡ false
  inactive = ap (λ b. b && not (is_over_in (s.stream noted.frame.id))) (not_opened s.drained s.opened noted.frame.id may)

  -- what comes of it by its standing
  by_standing : fault_by_standing_in s noted.frame ≡ fault_of (verdict (length (active_in s)) Idle headers_kind)
  by_standing =
      let there = block_there s.drained s.opened (completed_in s.block noted.frame) noted by in
      ap (λ (b : Option Partial). fault_on_in s noted.frame.id (judged b noted.frame)) there.1
      ∙ ap (λ (x : Standing). fault_of (verdict (length (active_in s)) x headers_kind)) (idle_standing s noted.frame.id may)

  -- it is refused, where a hundred are active
  refused : nat_lt (length (active_in s)) most_active ≡ false → fault_in s (Came noted) ≡ Some (Stream refused_stream)
  refused full =
      let early_none : first_of (early_rows s noted) ≡ None = calm (early_rows s noted) (unless_of_stream (fault_by_standing_in s noted.frame) ∷ stream_update_in s noted.frame ∷ stream_data_in s noted.frame ∷ fault_by_standing_in s noted.frame ∷ no_goaway_in s noted ∷ []) (malformed_in outline s (Came noted)) (early_fatal s noted) on in
      let is : fault_by_standing_in s noted.frame ≡ Some (Stream refused_stream) = by_standing ∙ ap (λ b. fault_of (if b then Opens else Fails (Stream refused_stream))) full in
      ap (λ o. or_else o (malformed_in outline s (Came noted)))
      (skip (early_rows s noted) (unless_of_stream (fault_by_standing_in s noted.frame) ∷ stream_update_in s noted.frame ∷ stream_data_in s noted.frame ∷ fault_by_standing_in s noted.frame ∷ no_goaway_in s noted ∷ []) early_none
      ∙ ap (λ (o : Option Fault). first_of (unless_of_stream o ∷ stream_update_in s noted.frame ∷ stream_data_in s noted.frame ∷ o ∷ no_goaway_in s noted ∷ [])) is
      ∙ ap (λ b. first_of (first_of (fault_if (b && grants_nothing noted.frame) (Stream protocol_error) ∷ fault_if (b && grants_past (window_in s.first_size (s.stream noted.frame.id)) noted.frame) (Stream flow_control_error) ∷ []) ∷ fault_if (b && is_past_room (room_in s.own (s.stream noted.frame.id)) noted.frame) (Stream flow_control_error) ∷ Some (Stream refused_stream) ∷ no_goaway_in s noted ∷ [])) inactive)

  -- then its reset is owed
  reset_owed : nat_lt (length (active_in s)) most_active ≡ false → list_any (resets_it noted.frame.id) (owes_in setup fails s (Came noted)) ≡ true
  reset_owed full =
      any_left (resets_it noted.frame.id) (owed_first_in s (Came noted) (fault_in s (Came noted))) _
      (ap (λ (o : Option Fault). list_any (resets_it noted.frame.id) (owed_first_in s (Came noted) o)) (refused full)
      ∙ any_right (resets_it noted.frame.id) (last_goaway_in s (Came noted)) (rst_stream noted.frame.id refused_stream ∷ []) (or_left (noted.frame.id == noted.frame.id) false (eq-eqb noted.frame.id noted.frame.id refl)))

  -- So at most a hundred last behind it.
  pub few_opened : length (filter (lasts s.stream []) s.opened) ≤ most_active → length (filter (lasts (behind setup fails s (Came noted)) (owes_in setup fails s (Came noted))) (noted.frame.id ∷ s.opened)) ≤ most_active
  few_opened few = cases (lasts (behind setup fails s (Came noted)) (owes_in setup fails s (Came noted)) noted.frame.id) refl
    where
      others : length (filter (lasts (behind setup fails s (Came noted)) (owes_in setup fails s (Came noted))) s.opened) ≤ length (filter (lasts s.stream []) s.opened)
      others = lasted setup fails s (Came noted) [] (owes_in setup fails s (Came noted)) (λ id on_yet none. refl)

      -- those that last are active
      active : length (filter (lasts s.stream []) s.opened) ≤ length (active_in s)
      active = fewer (lasts s.stream []) (λ id. not (is_over_in (s.stream id))) s.opened (λ id is. ap not (parts (is_over_in (s.stream id)) false is).0)

      room : lasts (behind setup fails s (Came noted)) (owes_in setup fails s (Came noted)) noted.frame.id ≡ true → (b : Bool) → nat_lt (length (active_in s)) most_active ≡ b → length (active_in s) < most_active
      room lasting true is = ltb-true (length (active_in s)) most_active is
      room lasting false is =
          let owed : true ≡ false = sym (reset_owed is) ∙ (parts (is_over_in (behind setup fails s (Came noted) noted.frame.id)) (list_any (resets_it noted.frame.id) (owes_in setup fails s (Came noted))) lasting).1 in
          absurd (cc)

      cases : (b : Bool) → lasts (behind setup fails s (Came noted)) (owes_in setup fails s (Came noted)) noted.frame.id ≡ b → length (if b then noted.frame.id ∷ filter (lasts (behind setup fails s (Came noted)) (owes_in setup fails s (Came noted))) s.opened else filter (lasts (behind setup fails s (Came noted)) (owes_in setup fails s (Came noted))) s.opened) ≤ most_active
      cases false is = omega (arith, others, few)
      cases true is = let place = room is (nat_lt (length (active_in s)) most_active) refl in omega (arith, others, active, place)

-- ---- any move

-- the queue that is empty where something comes in
few_at : (s : Summary) (queue : List Frame) → queue ≡ [] → IsFew (record { summary = s; queue = queue }) → length (filter (lasts s.stream []) s.opened) ≤ most_active
few_at s queue none few = subst (λ (fs : List Frame). length (filter (lasts s.stream fs) s.opened) ≤ most_active) none few

-- what is owed where a frame was sent: what was owed before without it
still_owed : (s : Summary) (noted : Noted) (queue more : List Frame) (setup : Setup) (fails : Bool) → is_calming noted.frame ≡ false → IsInTurn (record { summary = s; queue = queue }) (Sent noted)
    → (id : ℕ) → is_over_in (kept_behind setup fails s (Sent noted) id (s.stream id)) ≡ false → list_any (resets_it id) (rest_of queue ++ more) ≡ false → list_any (resets_it id) queue ≡ false
still_owed s noted queue more setup fails calmless (inr (inr stand)) id on none = absurd (let no : false ≡ true = sym calmless ∙ goaway_calms (highest_in s.opened) noted.frame stand.goaway in cc)
still_owed s noted queue more setup fails calmless (inr (inl pass)) id on none = none_owed queue pass.nothing id
still_owed s noted queue more setup fails calmless (inl due) id on none = ap (λ fs. list_any (resets_it id) fs) due.front ∙ or_both
  where
    not_it : resets_it id noted.frame ≡ false
    not_it = cases (resets_it id noted.frame) refl
      where
        cases : (b : Bool) → resets_it id noted.frame ≡ b → resets_it id noted.frame ≡ false
        cases false is = is
        cases true is =
            let over : is_over_in (kept_behind setup fails s (Sent noted) id (s.stream id)) ≡ true = or_left ((resets_it id noted.frame || (s.stream id).reset_by_gateway) || (s.stream id).reset_by_client) _ (or_left (resets_it id noted.frame || (s.stream id).reset_by_gateway) (s.stream id).reset_by_client (or_left (resets_it id noted.frame) (s.stream id).reset_by_gateway is)) in
            absurd (let no : true ≡ false = sym over ∙ on in cc)

    none_left : list_any (resets_it id) (rest_of queue) ≡ false
    none_left = cases (list_any (resets_it id) (rest_of queue)) refl
      where
        cases : (b : Bool) → list_any (resets_it id) (rest_of queue) ≡ b → list_any (resets_it id) (rest_of queue) ≡ false
        cases false is = is
        cases true is = absurd (let no : true ≡ false = sym (any_left (resets_it id) (rest_of queue) more is) ∙ none in cc)

    or_both : (resets_it id noted.frame || list_any (resets_it id) (rest_of queue)) ≡ false
    or_both = ap (λ b. b || list_any (resets_it id) (rest_of queue)) not_it ∙ none_left

few_kept : (setup : Setup) (p : Point) (e : Entry) (fails : Bool) → IsInTurn p e → ends_after p.summary e ≡ false → IsFew p → IsFew (point_after setup p (record { entry = e; fails = fails }))
few_kept setup p (Came noted) fails turn on few = cases (opens_by p.summary.drained p.summary.opened (completed_in p.summary.block noted.frame) noted.note) refl
  where
    few_here : length (filter (lasts p.summary.stream []) p.summary.opened) ≤ most_active
    few_here = few_at p.summary p.queue turn.nothing few

    cases : (b : Bool) → opens_by p.summary.drained p.summary.opened (completed_in p.summary.block noted.frame) noted.note ≡ b → length (filter (lasts (behind setup fails p.summary (Came noted)) (owes_in setup fails p.summary (Came noted))) (if b then noted.frame.id ∷ p.summary.opened else p.summary.opened)) ≤ most_active
    cases true by = few_opened setup fails p.summary noted by on few_here
    cases false by = let less = lasted setup fails p.summary (Came noted) [] (owes_in setup fails p.summary (Came noted)) (λ id on_yet none. refl) in omega (arith, less, few_here)
few_kept setup p (Breached breach) fails turn on few = absurd (let no : true ≡ false = on in cc)
few_kept setup p (Happened event) fails turn on few =
    let here = few_at p.summary p.queue turn.nothing few in
    let less = lasted setup fails p.summary (Happened event) [] (owes_in setup fails p.summary (Happened event)) (λ id on_yet none. refl) in
    omega (arith, less, here)
few_kept setup p (Sent noted) fails turn on few =
    let calmless = (or_parts (is_calming noted.frame) p.summary.ends on).0 in
    let next : List Frame = rest_of p.queue ++ owes_in setup fails p.summary (Sent noted) in
    let less = lasted setup fails p.summary (Sent noted) p.queue next (still_owed p.summary noted p.queue (owes_in setup fails p.summary (Sent noted)) setup fails calmless turn) in
    let now : length (filter (lasts (behind setup fails p.summary (Sent noted)) next) p.summary.opened) ≤ most_active = omega (arith, less, few) in
    subst (λ b. length (filter (lasts (behind setup fails p.summary (Sent noted)) (if b && not p.summary.ends then [] else next)) p.summary.opened) ≤ most_active) (sym calmless) now
few_kept setup p (Did act) fails turn on few =
    let less = lasted setup fails p.summary (Did act) p.queue p.queue (λ id on_yet none. none) in
    omega (arith, less, few)

-- the connection wasn't to end where something came in, or was sent while it isn't
pub on_before : (p : Point) (e : Entry) → IsInTurn p e → ends_after p.summary e ≡ false → p.summary.ends ≡ false
on_before p (Came noted) turn on = (or_parts p.summary.ends _ turn.goes_on).0
on_before p (Breached breach) turn on = (or_parts p.summary.ends _ turn.goes_on).0
on_before p (Happened event) turn on = (or_parts p.summary.ends _ turn.goes_on).0
on_before p (Sent noted) turn on = (or_parts (is_calming noted.frame) p.summary.ends on).1
on_before p (Did act) turn on = on

few_behind : (setup : Setup) (moves : List Move) → AllAllowed setup moves → (point_of setup moves).summary.ends ≡ false → IsFew (point_of setup moves)
few_behind setup [] all on = omega arith
few_behind setup (m ∷ moves) all on =
    few_kept setup (point_of setup moves) m.entry m.fails all.1.turn on (few_behind setup moves all.0 (on_before (point_of setup moves) m.entry all.1.turn on))

-- Where the program rests, and the connection isn't to end, at most a hundred streams are active by the book.
pub few_at_rest : (setup : Setup) (moves : List Move) → AllMoved setup moves → (ledger_of setup moves).queue ≡ [] → (ledger_of setup moves).book.ends ≡ false → length (active_in (summary_in (ledger_of setup moves).book)) ≤ most_active
few_at_rest setup moves all none on =
    let kept : HasKept setup moves = has_kept setup moves all in
    let p : Point = point_of setup moves in
    let book : Book = (ledger_of setup moves).book in
    let on_there : p.summary.ends ≡ false = sym kept.tells.ends ∙ on in
    let few = few_at p.summary p.queue (sym kept.tells.queue ∙ none) (few_behind setup moves kept.allowed on_there) in
    let told : IsTold book p.summary = kept.tells.told on_there in
    let same : actives (find book.rows) (ids_of book.rows) ≡ actives p.summary.stream p.summary.opened =
    ap (λ (ids : List ℕ). actives (find book.rows) ids) told.stand.ids ∙ actives_same (find book.rows) p.summary.stream p.summary.opened (each_alike (find book.rows) p.summary.stream p.summary.opened told.stand.alike) in
    let less = fewer (λ id. not (is_over_in (p.summary.stream id))) (lasts p.summary.stream []) p.summary.opened (λ id is. is_lasting id is) in
    let count : length (actives (find book.rows) (ids_of book.rows)) ≡ length (actives p.summary.stream p.summary.opened) = ap length same in
    omega (arith, less, few, count)
  where
    is_lasting : (id : ℕ) → not (is_over_in ((point_of setup moves).summary.stream id)) ≡ true → lasts (point_of setup moves).summary.stream [] id ≡ true
    is_lasting id is = ap (λ b. b && true) is

-- So it is by the tape.
pub few_on_tape : (known : Known) (moves : List Move) → AreKnown known moves → AllMoved known.setup moves → (ledger_of known.setup moves).queue ≡ [] → (ledger_of known.setup moves).book.ends ≡ false → length (active (tape_of moves)) ≤ most_active
few_on_tape known moves knows all none on =
    let kept : HasKept known.setup moves = has_kept known.setup moves all in
    let p : Point = point_of known.setup moves in
    let few = few_at p.summary p.queue (sym kept.tells.queue ∙ none) (few_behind known.setup moves kept.allowed (sym kept.tells.ends ∙ on)) in
    let less = fewer (λ id. not (is_over_in (p.summary.stream id))) (lasts p.summary.stream []) p.summary.opened (λ id is. ap (λ b. b && true) is) in
    let count : length (actives p.summary.stream p.summary.opened) ≡ length (active (tape_of moves)) = ap (λ (q : Point). length (actives q.summary.stream q.summary.opened)) (point_same known moves knows) in
    omega (arith, less, few, count)
