-- Whoever keeps the book by the rule of `theory_errors` keeps the clause on errors.
use Rattle.std.proofs.Common.{◌≡◌, ℕ, suc, ◌+◌, ◌==◌, Bool, true, false, ◌&&◌, ◌||◌, nat_lt, length, if◌then◌else◌, List, [], ◌∷◌, ◌++◌, Option, Some, None, refl, sym, ◌∙◌, ap, subst, arith, inl, inr, reverse}
use Rattle.std.proofs.lemmas.Bool.{or_left, or_parts, cases_Bool}
use Rattle.model.specs.Frames.{Frame, rst_stream_kind, spell}
use Rattle.model.specs.Limits.{most_untaken}
use Rattle.model.specs.Setup.{Setup}
use Rattle.model.specs.SettingValues.{settings_in, initial_window_after}
use Rattle.model.specs.Logs.Event.{Client, ClientEnd, ClientTook, Up, UpEnd, UpFailed, UpTook, Drain}
use Rattle.model.specs.Logs.Act.{Open, ToUp, Close, CloseClient}
use Rattle.model.specs.Tapes.{Noted, Entry, sent}
use Rattle.model.specs.Tapes.Breach.{WrongPreface, TooLong}
use Rattle.model.specs.Tapes.Entry.{Came, Breached, Happened, Sent, Did}
use Rattle.model.specs.Decoding.{begun}
use Rattle.model.specs.Errors.{Fault, first_of, or_else}
use Rattle.model.specs.Errors.Fault.{Stream}
use Rattle.model.specs.FrameErrors.{fault_if}
use Rattle.model.specs.Known.{Known}
use Rattle.model.specs.ErrorClause.{is_fatal, is_calming, calls_for_end, controls, owed, ErrorsHold}
use Rattle.theory_errors.specs.Turn.{rest_of, queue_of, IsDue, Conducted}
use Rattle.theory_errors.proofs.Errors.{paid, holds}
use Rattle.theory_errors.specs.Summary.{Outline, Stream as Kept, Summary}
use Rattle.theory_errors.specs.Judging.{rows_in, fault_for}
use Rattle.theory_errors.specs.Owing.{owes_in, must_end_in}
use Rattle.theory_errors.specs.After.{begun_after, is_sound, first_size_after, resets_after, ends_after, after}
use Rattle.theory_errors.specs.Rows.{Row, fresh, find, with_streams, rows_after, WillDo, StandFor}
use Rattle.theory_errors.specs.Rule.{Move, Point, queue_behind, point_after, IsInTurn, Allowed, tape_of, point_of, AllAllowed, AreKnown}
use Rattle.theory_errors.specs.Told.{IsTold}
use Rattle.theory_errors.specs.Book.{summary_in, book_with, Ledger, as_point, ledger_after, IsSound, IsFit, MayMove, ledger_of, AllMoved, Rests}
use Rattle.theory_errors.proofs.Alike.{active_seen, taken_seen}
use Rattle.theory_errors.proofs.Seen.{fault_seen, end_seen}
use Rattle.theory_errors.proofs.RowsKept.{will_do, rows_stand}
use Rattle.theory_errors.proofs.Idle.{still_idle}
use Rattle.theory_errors.proofs.Turns.{control_owes, fit_told, allowed_told, queue_told}
use Rattle.theory_errors.proofs.Rule.{point_same, conducted, errors_hold_at_rest}

-- ---- whether an error is one of the connection doesn't depend on a stream's course

fatal_last : (found : Option Fault) (a b : Bool) (code : ℕ) → is_fatal (or_else found (fault_if a (Stream code))) ≡ is_fatal (or_else found (fault_if b (Stream code)))
fatal_last None true true code = refl
fatal_last None true false code = refl
fatal_last None false true code = refl
fatal_last None false false code = refl
fatal_last (Some fault) a b code = refl

fatal_same : (s : Summary) (x y : Outline) (e : Entry) → is_fatal (fault_for x s e) ≡ is_fatal (fault_for y s e)
fatal_same s x y (Came noted) = fatal_last (first_of (rows_in s noted)) _ _ _
fatal_same s x y (Breached WrongPreface) = refl
fatal_same s x y (Breached TooLong) = refl
fatal_same s x y (Happened event) = refl
fatal_same s x y (Sent noted) = refl
fatal_same s x y (Did act) = refl

-- where the end isn't called for behind an entry, the entry was no error of the connection
no_end : (s : Summary) (e : Entry) → ends_after s e ≡ false → is_fatal (fault_for fresh.outline s e) ≡ false
no_end s (Came noted) on = fatal_same s fresh.outline (s.stream noted.frame.id).outline (Came noted) ∙ on
no_end s (Breached breach) on = absurd (let no : true ≡ false = on in cc)
no_end s (Happened event) on = refl
no_end s (Sent noted) on = refl
no_end s (Did act) on = refl

-- a fit entry behind which the end isn't called for is sound
sound_if : (fails : Bool) (s : Summary) (e : Entry) → ends_after s e ≡ false → IsFit fails s e → IsSound fails s e
sound_if fails s (Came noted) on fit = fit on
sound_if fails s (Breached breach) on fit = fit
sound_if fails s (Happened event) on fit = fit
sound_if fails s (Sent noted) on fit = fit
sound_if fails s (Did act) on fit = fit

-- ---- the connection's part, as the rows tell it

module _ (setup : Setup) (fails : Bool) (rows : List Row) (s : Summary) (stand : StandFor rows s) where
  abbrev view : Summary
  view = with_streams (find rows) s

  size_seen : (e : Entry) → first_size_after view e ≡ first_size_after s e
  size_seen (Came noted) =
      ap (λ b. if is_sound s noted.frame && b then initial_window_after s.first_size (settings_in noted.frame.payload) else s.first_size) (taken_seen (find rows) s (will_do rows s stand) noted.frame)
  size_seen (Breached breach) = refl
  size_seen (Happened event) = refl
  size_seen (Sent noted) = refl
  size_seen (Did act) = refl

  ends_seen : (e : Entry) → ends_after view e ≡ ends_after s e
  ends_seen (Came noted) = ap is_fatal (fault_seen setup fails (find rows) s (will_do rows s stand) stand.few (Came noted))
  ends_seen (Breached breach) = refl
  ends_seen (Happened (Client piece)) = refl
  ends_seen (Happened ClientEnd) = refl
  ends_seen (Happened (ClientTook count)) = refl
  ends_seen (Happened (Up k piece)) = refl
  ends_seen (Happened (UpEnd k)) = refl
  ends_seen (Happened (UpFailed k)) = refl
  ends_seen (Happened (UpTook k count)) = refl
  ends_seen (Happened Drain) = refl
  ends_seen (Sent noted) = refl
  ends_seen (Did act) = refl

  resets_same : (e : Entry) → resets_after view e ≡ resets_after s e
  resets_same (Came noted) =
      ap (λ b. if noted.frame.kind == rst_stream_kind && b then suc s.resets else s.resets) (active_seen (find rows) s (will_do rows s stand) noted.frame.id)
  resets_same (Breached breach) = refl
  resets_same (Happened event) = refl
  resets_same (Sent noted) = refl
  resets_same (Did act) = refl

  -- The summary behind an entry is the same but for the streams.
  after_seen : (g : ℕ → Kept) (e : Entry) → with_streams g (after setup fails view e) ≡ with_streams g (after setup fails s e)
  after_seen g e =
      ap (λ (n : ℕ). with_streams g (record (after setup fails view e) { first_size = n })) (size_seen e)
      ∙ ap (λ (n : ℕ). with_streams g (record (after setup fails view e) { first_size = first_size_after s e; resets = n })) (resets_same e)
      ∙ ap (λ (b : Bool). with_streams g (record (after setup fails view e) { first_size = first_size_after s e; resets = resets_after s e; ends = b })) (ends_seen e)

-- ---- what a ledger tells

-- A ledger tells a point; the streams only as long as the end isn't called for.
pub record Tells (ledger : Ledger) (p : Point) : Type 0 where
  pub queue : ledger.queue ≡ p.queue
  pub ends : ledger.book.ends ≡ p.summary.ends
  pub closed : ledger.book.closed ≡ p.summary.closed
  pub block_out : ledger.book.block_out ≡ p.summary.block_out
  pub untaken : ledger.book.untaken ≡ p.summary.untaken
  pub told : p.summary.ends ≡ false → IsTold ledger.book p.summary

-- what a move is and leads to, by the summary
pub record Follows (setup : Setup) (ledger : Ledger) (p : Point) (m : Move) : Type 0 where
  pub allowed : Allowed p m
  pub tells : Tells ledger (point_after setup p m)

-- a book with these rows tells a summary
told_with : (rows : List Row) (v s : Summary) → with_streams (find rows) v ≡ with_streams (find rows) s → StandFor rows s → summary_in (book_with rows v) ≡ with_streams (find rows) s
told_with rows v s same stand =
    let opened : v.opened ≡ s.opened = ap (λ (x : Summary). x.opened) same in
    ap (λ (ids : List ℕ). with_streams (find rows) (record v { opened = ids })) (stand.ids ∙ sym opened) ∙ same

-- one move, where the end wasn't called for
goes_on : (setup : Setup) (rows : List Row) (s : Summary) (queue : List Frame) (m : Move) → StandFor rows s
    → Allowed (record { summary = with_streams (find rows) s; queue = queue }) m → IsFit m.fails (with_streams (find rows) s) m.entry
    → Follows setup (record { book = book_with (rows_after setup m.fails (with_streams (find rows) s) m.entry rows) (after setup m.fails (with_streams (find rows) s) m.entry); queue = queue_behind setup m.fails (record { summary = with_streams (find rows) s; queue = queue }) m.entry }) (record { summary = s; queue = queue }) m
goes_on setup rows s queue m stand may fit_seen = record {
  allowed = allowed;
  tells = record {
    queue = queue_told setup m.fails (find rows) s will stand.few queue m.entry fit allowed.turn;
    ends = ends_seen setup m.fails rows s stand m.entry;
    closed = refl;
    block_out = refl;
    untaken = refl;
    told = λ on.
        let idle = still_idle setup m.fails s stand.idle m.entry (sound_if m.fails s m.entry on fit) (no_end s m.entry on) in
        let now : StandFor later (after setup m.fails s m.entry) = rows_stand setup m.fails rows s stand m.entry idle in
        record { same = told_with later (after setup m.fails (with_streams (find rows) s) m.entry) (after setup m.fails s m.entry) (after_seen setup m.fails rows s stand (find later) m.entry) now; stand = now };
  };
}
  where
    will : WillDo (find rows) s
    will = will_do rows s stand

    allowed : Allowed (record { summary = s; queue = queue }) m
    allowed = allowed_told setup m.fails (find rows) s will stand.few queue m may

    fit : IsFit m.fails s m.entry
    fit = fit_told setup m.fails (find rows) s will stand.few m.entry fit_seen

    later : List Row
    later = rows_after setup m.fails (with_streams (find rows) s) m.entry rows

-- ---- where the end is called for

-- The end stays called for behind a frame that is sent, or an act.
ends_on : (setup : Setup) (ledger : Ledger) (p : Point) (m : Move) → Tells ledger p → p.summary.ends ≡ true → Allowed (as_point ledger) m → Follows setup (ledger_after setup ledger m) p m
ends_on setup ledger p m tells ended may = by_entry m.entry m.fails may.turn
  where
    e_ended : ledger.book.ends ≡ true
    e_ended = tells.ends ∙ ended

    to_end : must_end_in (summary_in ledger.book) ≡ true
    to_end = or_left ledger.book.ends _ e_ended

    open_yet : p.summary.closed ≡ false
    open_yet = sym tells.closed ∙ may.open_yet

    nothing_in : must_end_in (summary_in ledger.book) ≡ false → ⊥
    nothing_in on = let no : true ≡ false = sym to_end ∙ on in absurd (let x : true ≡ false = no in cc)

    due_there : (noted : Noted) → IsDue ledger.book.ends (nat_lt most_untaken ledger.book.untaken) ledger.queue noted → IsDue p.summary.ends (nat_lt most_untaken p.summary.untaken) p.queue noted
    due_there noted due =
        subst (λ (q : List Frame). IsDue p.summary.ends (nat_lt most_untaken p.summary.untaken) q noted) tells.queue
        (subst (λ (n : ℕ). IsDue p.summary.ends (nat_lt most_untaken n) ledger.queue noted) tells.untaken
        (subst (λ (b : Bool). IsDue b (nat_lt most_untaken ledger.book.untaken) ledger.queue noted) tells.ends due))

    by_entry : (e : Entry) (fails : Bool) → IsInTurn (as_point ledger) e → Follows setup (ledger_after setup ledger (record { entry = e; fails = fails })) p (record { entry = e; fails = fails })
    by_entry (Came noted) fails turn = absurd (nothing_in turn.goes_on)
    by_entry (Breached breach) fails turn = absurd (nothing_in turn.goes_on)
    by_entry (Happened event) fails turn = absurd (nothing_in turn.goes_on)
    by_entry (Sent noted) fails (inr (inl pass)) = absurd (nothing_in pass.goes_on)
    by_entry (Sent noted) fails (inr (inr stand)) = absurd (let no : true ≡ false = sym e_ended ∙ stand.goes_on in cc)
    by_entry (Sent noted) fails (inl due) = record {
      allowed = record { open_yet = open_yet; turn = inl (due_there noted due) };
      tells = record {
        queue =
            ap (λ b. if b then [] else rest_of ledger.queue ++ owes_in setup fails (summary_in ledger.book) (Sent noted)) due.owing
            ∙ ap (λ (fs : List Frame). rest_of ledger.queue ++ fs) (control_owes setup fails (summary_in ledger.book) noted due.control)
            ∙ ap (λ (q : List Frame). rest_of q ++ []) tells.queue
            ∙ sym (ap (λ (fs : List Frame). rest_of p.queue ++ fs) (control_owes setup fails p.summary noted due.control))
            ∙ sym (ap (λ b. if b then [] else rest_of p.queue ++ owes_in setup fails p.summary (Sent noted)) (due_there noted due).owing);
        ends = ap (λ b. is_calming noted.frame || b) tells.ends;
        closed = tells.closed;
        block_out = ap (λ b. begun_after b noted.frame) tells.block_out;
        untaken = ap (λ n. n + length (spell noted.frame)) tells.untaken;
        told = λ on. absurd (let no : true ≡ false = sym ended ∙ (or_parts (is_calming noted.frame) p.summary.ends on).1 in cc);
      };
    }
    by_entry (Did (Open k route)) fails turn = record {
      allowed = record { open_yet = open_yet; turn = sym tells.queue ∙ turn };
      tells = record { queue = tells.queue; ends = tells.ends; closed = tells.closed; block_out = tells.block_out; untaken = tells.untaken; told = λ on. absurd (let no : true ≡ false = sym ended ∙ on in cc) };
    }
    by_entry (Did (ToUp k octets)) fails turn = record {
      allowed = record { open_yet = open_yet; turn = sym tells.queue ∙ turn };
      tells = record { queue = tells.queue; ends = tells.ends; closed = tells.closed; block_out = tells.block_out; untaken = tells.untaken; told = λ on. absurd (let no : true ≡ false = sym ended ∙ on in cc) };
    }
    by_entry (Did (Close k)) fails turn = record {
      allowed = record { open_yet = open_yet; turn = sym tells.queue ∙ turn };
      tells = record { queue = tells.queue; ends = tells.ends; closed = tells.closed; block_out = tells.block_out; untaken = tells.untaken; told = λ on. absurd (let no : true ≡ false = sym ended ∙ on in cc) };
    }
    by_entry (Did CloseClient) fails turn = record {
      allowed = record { open_yet = open_yet; turn = record { nothing = sym tells.queue ∙ turn.nothing; to_end = or_left p.summary.ends _ ended } };
      tells = record { queue = tells.queue; ends = tells.ends; closed = refl; block_out = tells.block_out; untaken = tells.untaken; told = λ on. absurd (let no : true ≡ false = sym ended ∙ on in cc) };
    }

-- ---- any move

one_move : (setup : Setup) (ledger : Ledger) (p : Point) (m : Move) → Tells ledger p → MayMove ledger m → Follows setup (ledger_after setup ledger m) p m
one_move setup ledger p m tells may = elim (cases_Bool p.summary.ends) [
  | inl ended ↦ ends_on setup ledger p m tells ended may.allowed
  | inr on ↦
      let told : IsTold ledger.book p.summary = tells.told on in
      let rows : List Row = ledger.book.rows in
      let at : Summary → List Frame → Ledger = λ s queue. record { book = book_with (rows_after setup m.fails s m.entry rows) (after setup m.fails s m.entry); queue = queue_behind setup m.fails (record { summary = s; queue = queue }) m.entry } in
      let may_there : Allowed (record { summary = with_streams (find rows) p.summary; queue = p.queue }) m =
      subst (λ (q : List Frame). Allowed (record { summary = with_streams (find rows) p.summary; queue = q }) m) tells.queue (subst (λ (s : Summary). Allowed (record { summary = s; queue = ledger.queue }) m) told.same may.allowed) in
      let fit_there : IsFit m.fails (with_streams (find rows) p.summary) m.entry = subst (λ (s : Summary). IsFit m.fails s m.entry) told.same may.fit in
      subst (λ (s : Summary). Follows setup (at s ledger.queue) p m) (sym told.same) (subst (λ (q : List Frame). Follows setup (at (with_streams (find rows) p.summary) q) p m) (sym tells.queue) (goes_on setup rows p.summary p.queue m told.stand may_there fit_there))
]

-- What the fold of the moves keeps, and that each of them was allowed.
pub record HasKept (setup : Setup) (moves : List Move) : Type 0 where
  pub tells : Tells (ledger_of setup moves) (point_of setup moves)
  pub allowed : AllAllowed setup moves

pub has_kept : (setup : Setup) (moves : List Move) → AllMoved setup moves → HasKept setup moves
has_kept setup [] all = record { tells = record { queue = refl; ends = refl; closed = refl; block_out = refl; untaken = refl; told = λ on. record { same = refl; stand = record { ids = refl; alike = λ id there. absurd (let no : false ≡ true = there in cc); idle = λ id may. refl; few = omega arith } } }; allowed = tt }
has_kept setup (m ∷ moves) all =
    let before : HasKept setup moves = has_kept setup moves all.0 in
    let next : Follows setup (ledger_after setup (ledger_of setup moves) m) (point_of setup moves) m = one_move setup (ledger_of setup moves) (point_of setup moves) m before.tells all.1 in
    record { tells = next.tells; allowed = (before.allowed, next.allowed) }

-- A ledger tells whether the connection is to end.
end_told : (setup : Setup) (ledger : Ledger) (p : Point) → Tells ledger p → must_end_in (summary_in ledger.book) ≡ must_end_in p.summary
end_told setup ledger p tells = elim (cases_Bool p.summary.ends) [
  | inl ended ↦ or_left ledger.book.ends _ (tells.ends ∙ ended) ∙ sym (or_left p.summary.ends _ ended)
  | inr on ↦
      let told : IsTold ledger.book p.summary = tells.told on in
      ap must_end_in told.same ∙ end_seen setup false (find ledger.book.rows) p.summary (will_do ledger.book.rows p.summary told.stand) told.stand.few
]

-- The clause on errors holds wherever the program rests, whatever came.
pub errors_hold_by_book : (known : Known) (moves : List Move) → AreKnown known moves → AllMoved known.setup moves → Rests (ledger_of known.setup moves) → ErrorsHold known (tape_of moves)
errors_hold_by_book known moves knows all rests =
    let kept : HasKept known.setup moves = has_kept known.setup moves all in
    errors_hold_at_rest known moves knows kept.allowed (record { nothing = sym kept.tells.queue ∙ rests.nothing; ended = λ ends. sym kept.tells.closed ∙ rests.ended (end_told known.setup (ledger_of known.setup moves) (point_of known.setup moves) kept.tells ∙ ends) })

-- The book has the header block to the client that isn't complete, whatever came.
pub block_out_told : (known : Known) (moves : List Move) → AreKnown known moves → AllMoved known.setup moves → (ledger_of known.setup moves).book.block_out ≡ begun (sent (tape_of moves))
block_out_told known moves knows all = (has_kept known.setup moves all).tells.block_out ∙ ap (λ (p : Point). p.summary.block_out) (point_same known moves knows)

-- Where the program rests none is begun.
pub blocks_are_whole : (known : Known) (moves : List Move) → AreKnown known moves → AllMoved known.setup moves → Rests (ledger_of known.setup moves) → begun (sent (tape_of moves)) ≡ None
blocks_are_whole known moves knows all rests = sym (block_out_told known moves knows all) ∙ rests.none_begun

-- Moves that came by the rule came in their turn.
pub conducted_by_book : (known : Known) (moves : List Move) → AreKnown known moves → AllMoved known.setup moves → Conducted known (tape_of moves)
conducted_by_book known moves knows all = conducted known moves knows (has_kept known.setup moves all).allowed

-- What is owed is called for beyond what was sent, and that is all.
pub all_owed_by_book : (known : Known) (moves : List Move) → AreKnown known moves → AllMoved known.setup moves → owed known (tape_of moves) ≡ reverse (ledger_of known.setup moves).queue ++ controls (sent (tape_of moves))
all_owed_by_book known moves knows all =
    let kept : HasKept known.setup moves = has_kept known.setup moves all in
    let queue : queue_of known (tape_of moves) ≡ (ledger_of known.setup moves).queue = sym (ap (λ (p : Point). p.queue) (point_same known moves knows)) ∙ sym kept.tells.queue in
    sym (holds known (tape_of moves) (conducted_by_book known moves knows all)).owing ∙ ap (λ (q : List Frame). reverse q ++ controls (sent (tape_of moves))) queue

-- What is owed next is called for beyond what was sent.
pub owed_by_book : (known : Known) (moves : List Move) → AreKnown known moves → AllMoved known.setup moves → (next : Frame) (rest : List Frame) → (ledger_of known.setup moves).queue ≡ next ∷ rest
    → owed known (tape_of moves) ≡ reverse rest ++ next ∷ controls (sent (tape_of moves))
owed_by_book known moves knows all next rest is =
    all_owed_by_book known moves knows all
    ∙ ap (λ (q : List Frame). reverse q ++ controls (sent (tape_of moves))) is
    ∙ sym (paid next rest (controls (sent (tape_of moves))))

-- The book has whether the end is called for.
pub ends_by_book : (known : Known) (moves : List Move) → AreKnown known moves → AllMoved known.setup moves → (ledger_of known.setup moves).book.ends ≡ calls_for_end known (tape_of moves)
ends_by_book known moves knows all = (has_kept known.setup moves all).tells.ends ∙ ap (λ (p : Point). p.summary.ends) (point_same known moves knows)
