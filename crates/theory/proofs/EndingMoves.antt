-- Behind the entry that ends the connection: what is owed goes out, each open connection is closed, and then that to the client.
use Rattle.std.proofs.Common.{◌≡◌, ℕ, ◌<◌, true, false, not, ◌&&◌, nat_lt, List, [], ◌∷◌, ◌++◌, map, reverse, append_assoc, refl, sym, ap, ◌∙◌, subst, inl, inr, arith, if◌then◌else◌}
use Rattle.std.specs.Prelude.{Option, Some, None, is_some, pos, int_lt, ◌+ℤ◌, ◌-ℤ◌}
use Rattle.std.specs.List.{list_any}
use Rattle.std.proofs.lemmas.Bool.{or_left, or_right, and_right}
use Rattle.std.proofs.lemmas.List.{reverse-append}
use Rattle.model.specs.Frames.{Frame, goaway}
use Rattle.model.specs.FrameErrors.{is_between}
use Rattle.model.specs.Setup.{Setup}
use Rattle.model.specs.Tables.{Table}
use Rattle.model.specs.Limits.{high_water, most_untaken}
use Rattle.model.specs.ErrorClause.{is_calming}
use Rattle.model.specs.Logs.Act.{Close, CloseClient}
use Rattle.model.specs.Tapes.Entry.{Sent}
use Rattle.theory_errors.specs.Summary.{Summary}
use Rattle.theory_errors.specs.Judging.{window_in}
use Rattle.theory_errors.specs.Owing.{owes_in, must_end_in}
use Rattle.theory_errors.specs.Turn.{rest_of}
use Rattle.theory_errors.specs.After.{after, begun_after}
use Rattle.theory_errors.specs.Quiet.{noted_of}
use Rattle.theory_errors.specs.Rule.{Point, point_of}
use Rattle.theory_errors.specs.Book.{summary_in, ledger_of}
use Rattle.theory_errors.proofs.Book.{Tells, has_kept}
use Rattle.theory_errors.proofs.Elsewhere.{none_less}
use Rattle.theory_errors.proofs.Turns.{control_owes}
use Rattle.theory_responses.specs.State as theory_responses
use Rattle.theory_responses.specs.State.{Windows, find, are_open, is_ready_if, can_turn, ready}
use Rattle.theory_responses.specs.Outbox.{can_go}
use Rattle.theory_responses.specs.Policy.{IsFlushed}
use Rattle.theory_responses.specs.Sight.{sight_in, windows_in}
use Rattle.theory_responses.proofs.Listing.{filter_same}
use Rattle.theory_requests.specs.Lines.{Line, k_of, line_of, without}
use Rattle.theory_requests.specs.State.Due.{Nothing}
use Rattle.theory_requests.specs.Rule.{is_done}
use Rattle.theory.specs.Moves.{Move, told_in}
use Rattle.theory.specs.Moves.Decision.{Sends, Acts}
use Rattle.theory.specs.Moves.Move.{Does}
use Rattle.theory.specs.State.{conducts, summary_at, state_of}
use Rattle.theory.specs.Rule.{AllAllowed, RestsBehind}
use Rattle.theory.specs.Ending.{closes_of}
use Rattle.theory.proofs.Telling.{all_moved}
use Rattle.theory.proofs.EndingLives.{found_id, AreApart, last_found, last_goes, last_apart}

-- ---- the flush stays done

-- windows that are open for the same streams that are kept
module _ (v w : Windows) (s : theory_responses.State) (same : (stream : ℕ) → is_some (find stream s.kept) ≡ true → are_open w stream ≡ are_open v stream) where
  turn_same : (stream : ℕ) → can_turn w s stream ≡ can_turn v s stream
  turn_same stream = by (find stream s.kept) refl
    where
      by : (o : Option theory_responses.Kept) → find stream s.kept ≡ o → is_ready_if w o ≡ is_ready_if v o
      by None found = refl
      by (Some k) found =
          let named = found_id stream s.kept k found in
          ap (λ b. not k.cut && can_go b k.box) (ap (are_open w) named ∙ same stream (ap (λ o. is_some o) found) ∙ sym (ap (are_open v) named))

  pub ready_same : ready w s ≡ ready v s
  ready_same = filter_same (can_turn w s) (can_turn v s) turn_same (map (λ (k : theory_responses.Kept). k.id) s.kept)

  pub still_flushed : (w.untaken < high_water → v.untaken < high_water) → IsFlushed v s → IsFlushed w s
  still_flushed low done = record { none_cut = λ is_low. done.none_cut (low is_low); none_ready = λ is_low. ready_same ∙ done.none_ready (low is_low) }

-- ---- what holds between the entry and the client's close

-- what is told once the connection is to end
pub told_at : (setup : Setup) (run : List Move) → (ledger_of setup (conducts run)).book.ends ≡ true → summary_at setup run ≡ (point_of setup (conducts run)).summary
told_at setup run ends = ap (λ b. if b then (point_of setup (conducts run)).summary else summary_in (ledger_of setup (conducts run)).book) ends

-- The end was called for; these frames are owed, and these connections open.
pub record IsEnding (setup : Setup) (run : List Move) (queue : List Frame) (lives : List Line) : Type 0 where
  pub allowed : AllAllowed setup run
  pub ends : (ledger_of setup (conducts run)).book.ends ≡ true
  pub open_yet : (ledger_of setup (conducts run)).book.closed ≡ false
  pub owes : (ledger_of setup (conducts run)).queue ≡ queue
  pub none_begun : (ledger_of setup (conducts run)).book.block_out ≡ None
  pub live : (state_of setup run).requests.live ≡ lives
  pub due : (state_of setup run).requests.due ≡ Nothing
  pub read : (state_of setup run).tables.lost ≡ false
  pub flushed : IsFlushed (windows_in (sight_in (point_of setup (conducts run)).summary)) (state_of setup run).offers

module _ (setup : Setup) (run : List Move) (queue : List Frame) (live : List Line) (e : IsEnding setup run queue live) where
  abbrev p : Point
  p = point_of setup (conducts run)

  tells : Tells (ledger_of setup (conducts run)) p
  tells = (has_kept setup (conducts run) (all_moved (record { setup = setup; failures = [] }) run e.allowed)).tells

  pub at : summary_at setup run ≡ p.summary
  at = told_at setup run e.ends

  pub told_ends : must_end_in (summary_at setup run) ≡ true
  told_ends = ap must_end_in at ∙ or_left p.summary.ends _ (sym tells.ends ∙ e.ends)

  pub told_open : (summary_at setup run).closed ≡ false
  told_open = ap (λ (s : Summary). s.closed) at ∙ sym tells.closed ∙ e.open_yet

  pub told_block : (summary_at setup run).block_out ≡ None
  told_block = ap (λ (s : Summary). s.block_out) at ∙ sym tells.block_out ∙ e.none_begun

-- ---- a frame that is owed

pub goaway_goes : (setup : Setup) (run : List Move) (last code : ℕ) (live : List Line) (table : Table) → (nat_lt most_untaken (ledger_of setup (conducts run)).book.untaken && not (is_calming (goaway last code))) ≡ false → IsEnding setup run (goaway last code ∷ []) live → IsEnding setup (Does (Sends (noted_of (goaway last code)) table) ∷ run) [] live
goaway_goes setup run last code live table calm e = record {
  allowed = (
    e.allowed,
    record {
      rests = λ comes. absurd (let no : false ≡ true = comes in cc);
      conduct = record {
        allowed = record { open_yet = e.open_yet; turn = inl (record { front = e.owes ∙ sym (ap (λ (q : List Frame). frame ∷ rest_of q) e.owes); control = refl; owing = owing; calm = calm }) };
        fit = refl;
      };
      offer = record { no_block = refl; no_data = refl };
      in_turn = λ begins. absurd (let no : false ≡ true = begins in cc);
      request = record { open_yet = told_open setup run (frame ∷ []) live e; may = inl e.due };
      additions = tt;
      calls = λ so. absurd (let no : false ≡ true = sym owing ∙ so in cc);
      table = record { together = ap (λ b. is_between b frame) (told_block setup run (frame ∷ []) live e); is_given = refl };
      window = record { kind = refl; over_with_it = refl };
    },
  );
  ends = or_right (is_calming frame) (ledger_of setup (conducts run)).book.ends e.ends;
  open_yet = e.open_yet;
  owes = ap (λ b. if b then [] else rest_of ledger_queue ++ owes_in setup false (summary_in (ledger_of setup (conducts run)).book) (Sent (noted_of frame))) owing ∙ ap (λ (fs : List Frame). rest_of ledger_queue ++ fs) (control_owes setup false (summary_in (ledger_of setup (conducts run)).book) (noted_of frame) refl) ∙ ap (λ (q : List Frame). rest_of q ++ []) e.owes;
  none_begun = ap (λ b. begun_after b frame) e.none_begun;
  live = e.live;
  due = e.due;
  read = e.read;
  flushed =
      still_flushed (windows_in (sight_in p.summary)) (windows_in (sight_in (after setup false p.summary (Sent (noted_of frame))))) (state_of setup run).offers
      (λ stream kept. ap (λ z. int_lt (pos 0) (pos p.summary.first_size +ℤ z) && int_lt (pos 0) (p.summary.window -ℤ pos 0)) (none_less (p.summary.stream stream).balance 0 refl) ∙ ap (λ z. int_lt (pos 0) (window_in p.summary.first_size (p.summary.stream stream)) && int_lt (pos 0) z) (none_less p.summary.window 0 refl))
      (λ low. omega (arith, low)) e.flushed;
}
  where
    frame : Frame
    frame = goaway last code

    ledger_queue : List Frame
    ledger_queue = (ledger_of setup (conducts run)).queue

    p : Point
    p = point_of setup (conducts run)

    owing : (is_calming frame && not (ledger_of setup (conducts run)).book.ends) ≡ false
    owing = ap (λ b. is_calming frame && not b) e.ends ∙ and_right (is_calming frame) false refl

-- ---- a connection is closed

pub close_goes : (setup : Setup) (run : List Move) (l : Line) (ls : List Line) → line_of l.k ls ≡ None → IsEnding setup run [] (ls ++ l ∷ []) → IsEnding setup (Does (Acts (Close l.k)) ∷ run) [] ls
close_goes setup run l ls apart e = record {
  allowed = (
    e.allowed,
    record {
      rests = λ comes. absurd (let no : false ≡ true = comes in cc);
      conduct = record { allowed = record { open_yet = e.open_yet; turn = e.owes }; fit = tt };
      offer = tt;
      in_turn = tt;
      request = record {
        open_yet = told_open setup run [] (ls ++ l ∷ []) e;
        may = record { nothing = e.due; line = l; found = ap (λ (xs : List Line). line_of l.k xs) e.live ∙ last_found l ls apart; why = inr (told_ends setup run [] (ls ++ l ∷ []) e) };
      };
      additions = tt;
      calls = λ so. absurd (let no : false ≡ true = so in cc);
      table = tt;
      window = tt;
    },
  );
  ends = e.ends;
  open_yet = e.open_yet;
  owes = e.owes;
  none_begun = e.none_begun;
  live = ap (λ (xs : List Line). without k_of l.k xs) e.live ∙ last_goes l ls apart;
  due = e.due;
  read = e.read;
  flushed = e.flushed;
}

-- each is closed, the last first
pub closes_go : (setup : Setup) (ls : List Line) (run : List Move) → AreApart (reverse ls) → IsEnding setup run [] (reverse ls) → IsEnding setup (closes_of ls ++ run) [] []
closes_go setup [] run apart e = e
closes_go setup (l ∷ ls) run apart e =
    let is : reverse (l ∷ ls) ≡ reverse ls ++ l ∷ [] = reverse-append (l ∷ []) ls in
    let last = last_apart l (reverse ls) (subst AreApart is apart) in
    subst (λ (moves : List Move). IsEnding setup moves [] []) (sym (append_assoc (closes_of ls) (Does (Acts (Close l.k)) ∷ []) run))
    (closes_go setup ls (Does (Acts (Close l.k)) ∷ run) last.1 (close_goes setup run l (reverse ls) last.0 (subst (λ (xs : List Line). IsEnding setup run [] xs) is e)))

-- ---- the client is closed

module _ (setup : Setup) (run : List Move) (e : IsEnding setup run [] []) where
  abbrev closed : List Move
  closed = Does (Acts CloseClient) ∷ run

  pub client_closed : AllAllowed setup closed
  client_closed = (
    e.allowed,
    record {
      rests = λ comes. absurd (let no : false ≡ true = comes in cc);
      conduct = record { allowed = record { open_yet = e.open_yet; turn = record { nothing = e.owes; to_end = or_left (ledger_of setup (conducts run)).book.ends _ e.ends } }; fit = tt };
      offer = tt;
      in_turn = tt;
      request = record { open_yet = told_open setup run [] [] e; may = record { nothing = e.due; none = e.live } };
      additions = tt;
      calls = λ so. absurd (let no : false ≡ true = so in cc);
      table = tt;
      window = tt;
    },
  )

  is_shut : (summary_at setup closed).closed ≡ true
  is_shut = ap (λ (s : Summary). s.closed) (told_at setup closed e.ends)

  pub rests : RestsBehind setup closed
  rests = record {
    conduct = record { nothing = e.owes; none_begun = e.none_begun; ended = λ is. refl };
    flushed = subst (λ (s : Summary). IsFlushed (windows_in (sight_in s)) (state_of setup closed).offers) (sym (told_at setup closed e.ends)) e.flushed;
    served = record { nothing = e.due; none_done = ap (λ (xs : List Line). list_any (is_done (told_in (summary_at setup closed))) xs) e.live; ended = λ is. is_shut };
    read = e.read;
    given_back = λ open_yet. absurd (let no : true ≡ false = sym is_shut ∙ open_yet in cc);
  }
