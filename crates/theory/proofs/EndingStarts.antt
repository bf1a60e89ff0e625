-- The entry that ends the connection, where the gateway rests: and the whole end behind it.
use Rattle.std.proofs.Common.{◌≡◌, ℕ, ◌<◌, Bool, true, false, not, ◌==◌, ◌&&◌, nat_lt, List, [], ◌∷◌, ◌++◌, reverse, append_assoc, refl, sym, ap, ◌∙◌, subst, inl, inr, arith, if◌then◌else◌}
use Rattle.std.specs.Prelude.{Some, is_some, length, pos, int_lt}
use Rattle.std.proofs.lemmas.List.{reverse-reverse}
use Rattle.std.proofs.lemmas.Bool.{ltb-true}
use Rattle.model.specs.FrameErrors.{is_between}
use Rattle.model.specs.Frames.{Frame, goaway, no_error, protocol_error, frame_size_error, enhance_your_calm}
use Rattle.model.specs.Setup.{Setup}
use Rattle.model.specs.Limits.{high_water, most_untaken, most_streams}
use Rattle.model.specs.Tables.{Table}
use Rattle.model.specs.Logs.Event.{ClientEnd}
use Rattle.model.specs.Logs.Act.{Close, CloseClient}
use Rattle.model.specs.Tapes.{Breach, Entry}
use Rattle.model.specs.Tapes.Breach.{WrongPreface, TooLong}
use Rattle.model.specs.Tapes.Entry.{Breached, Happened, Sent, Did}
use Rattle.model.specs.Errors.Fault.{Connection}
use Rattle.model.specs.Known.{Known}
use Rattle.model.specs.Lifetimes.{is_active}
use Rattle.model.specs.Courses.{first_of_both}
use Rattle.model.specs.ErrorClause.{is_calming, reset_for}
use Rattle.model.proofs.OwedSteps.{neither_full, no_reset_for}
use Rattle.theory_errors.specs.Summary.{Summary}
use Rattle.theory_errors.specs.Judging.{is_crowded_in}
use Rattle.theory_errors.specs.Owing.{about_in, fault_in, highest_in, opened_after, code_of_goaway_in, next_outline, resets_in, owes_in}
use Rattle.theory_errors.specs.Quiet.{noted_of}
use Rattle.theory_errors.specs.Rule.{point_of, known_of}
use Rattle.theory_errors.specs.Turn.{rest_of}
use Rattle.theory_errors.specs.After.{begun_after}
use Rattle.theory_errors.specs.Book.{ledger_of}
use Rattle.theory_errors.proofs.Book.{has_kept}
use Rattle.theory_errors.proofs.Idle.{no_cause_if}
use Rattle.theory_errors.proofs.Knowing.{known_so}
use Rattle.theory_responses.specs.State.{Windows, find, are_open}
use Rattle.theory_responses.specs.Policy.{IsFlushed}
use Rattle.theory_responses.specs.Sight.{IsRightOf, sight_in, windows_in}
use Rattle.theory_responses.proofs.Sights.{right_by_summary}
use Rattle.theory_requests.specs.Lines.{Line}
use Rattle.theory.specs.Moves.{Decision, Move, entry_of}
use Rattle.theory.specs.Moves.Decision.{Breaks, Notes, Sends, Acts}
use Rattle.theory.specs.Moves.Move.{Does}
use Rattle.theory.specs.State.{State, conducts, tape_of, summary_at, offers_of, turns_of, state_of}
use Rattle.theory.specs.Rule.{MayDo, AllAllowed, RestsBehind}
use Rattle.theory.specs.Steps.{told_by, Stands}
use Rattle.theory.specs.Coming.{IsReady}
use Rattle.theory.specs.Ending.{calming_of, IsCrowded, goaway_for, goaway_by, sent_all, goaway_of, closes_of, frames_sent, closed_all, by_number, Ends}
use Rattle.theory.proofs.Tapes.{offers_tape}
use Rattle.theory.proofs.Telling.{all_moved, sight_right}
use Rattle.theory.proofs.Placing.{offers_may, offers_right, turns_may}
use Rattle.theory.proofs.Coming.{may_break, may_note}
use Rattle.theory.proofs.EndingLives.{AreActive, all_active, AreApart, all_apart}
use Rattle.theory.proofs.EndingMoves.{still_flushed, IsEnding, goaway_goes, closes_go, client_closed, rests}

-- ---- the tape

closes_tape : (ls : List Line) (run : List Move) → tape_of (closes_of ls ++ run) ≡ closed_all ls ++ tape_of run
closes_tape [] run = refl
closes_tape (l ∷ ls) run =
    ap tape_of (append_assoc (closes_of ls) (Does (Acts (Close l.k)) ∷ []) run)
    ∙ closes_tape ls (Does (Acts (Close l.k)) ∷ run)
    ∙ sym (append_assoc (closed_all ls) (Did (Close l.k) ∷ []) (tape_of run))

sends_tape : (table : Table) (frames : List Frame) (run : List Move) → tape_of (sent_all table frames ++ run) ≡ frames_sent frames ++ tape_of run
sends_tape table [] run = refl
sends_tape table (frame ∷ frames) run =
    ap tape_of (append_assoc (sent_all table frames) (Does (Sends (noted_of frame) table) ∷ []) run)
    ∙ sends_tape table frames (Does (Sends (noted_of frame) table) ∷ run)
    ∙ sym (append_assoc (frames_sent frames) (Sent (noted_of frame) ∷ []) (tape_of run))

-- a GOAWAY asks the client to be calm where too many octets are untaken
calm_or_uncrowded : (last code : ℕ) (crowded : Bool) → (crowded && not (is_calming (goaway last (if crowded then enhance_your_calm else code)))) ≡ false
calm_or_uncrowded last code true = refl
calm_or_uncrowded last code false = refl

-- ---- all of it

module _ (setup : Setup) (run : List Move) (all : AllAllowed setup run) where
  -- behind the decision and its GOAWAY
  pub finish : (d : Decision) → IsEnding setup (goaway_of (state_of setup run) d ++ Does d ∷ run) [] (state_of setup run).requests.live → Ends setup run (state_of setup run) d
  finish d e =
      let back : reverse (by_number (state_of setup run)) ≡ (state_of setup run).requests.live = reverse-reverse (state_of setup run).requests.live in
      let closing = closes_go setup (by_number (state_of setup run)) (goaway_of (state_of setup run) d ++ Does d ∷ run) (subst AreApart (sym back) (all_apart setup (turns_of setup run) (turns_may setup run all))) (subst (λ (ls : List Line). IsEnding setup (goaway_of (state_of setup run) d ++ Does d ∷ run) [] ls) (sym back) e) in
      let same = sym (append_assoc (closes_of (by_number (state_of setup run))) (goaway_of (state_of setup run) d) (Does d ∷ run)) in
      record {
        allowed = subst (λ (moves : List Move). AllAllowed setup (Does (Acts CloseClient) ∷ moves)) same (client_closed setup (closes_of (by_number (state_of setup run)) ++ (goaway_of (state_of setup run) d ++ Does d ∷ run)) closing);
        rests = subst (λ (moves : List Move). RestsBehind setup (Does (Acts CloseClient) ∷ moves)) same (rests setup (closes_of (by_number (state_of setup run)) ++ (goaway_of (state_of setup run) d ++ Does d ∷ run)) closing);
        tape = ap (λ (x : List Entry). Did CloseClient ∷ x) (
            ap tape_of (sym same)
            ∙ closes_tape (by_number (state_of setup run)) (goaway_of (state_of setup run) d ++ Does d ∷ run)
            ∙ ap (λ (x : List Entry). closed_all (by_number (state_of setup run)) ++ x) (sends_tape (state_of setup run).tables.encoding.table (goaway_by (state_of setup run) d) (Does d ∷ run) ∙ sym (append_assoc (frames_sent (goaway_by (state_of setup run) d)) (entry_of d ∷ []) (tape_of run)))
            ∙ sym (append_assoc (closed_all (by_number (state_of setup run))) (frames_sent (goaway_by (state_of setup run) d) ++ entry_of d ∷ []) (tape_of run))
            );
      }

module _ (setup : Setup) (run : List Move) (all : AllAllowed setup run) (ready : IsReady (state_of setup run)) (on : (state_of setup run).ledger.book.ends ≡ false) where
  abbrev s : State
  s = state_of setup run

  abbrev known : Known
  known = known_of setup (conducts run)

  abbrev t : List Entry
  t = tape_of run

  -- what is told is what the book tells, and what follows from the moves agrees where it matters
  told : summary_at setup run ≡ told_by s
  told = ap (λ b. if b then (point_of setup (conducts run)).summary else told_by s) on

  pub by_book : IsRightOf known t (sight_in (told_by s))
  by_book = subst (λ (u : Summary). IsRightOf known t (sight_in u)) told (sight_right known run (known_so setup (conducts run)) (all_moved known run all))

  pub by_moves : IsRightOf known t (sight_in (point_of setup (conducts run)).summary)
  by_moves = right_by_summary known (conducts run) (known_so setup (conducts run)) (all_moved known run all)

  -- a stream that is kept is active
  pub active : (stream : ℕ) → is_some (find stream s.offers.kept) ≡ true → is_active stream t ≡ true
  active stream kept =
      sym (subst (λ (x : List Entry). AreActive x s.offers.kept) (offers_tape setup run)
      (all_active known (offers_of setup run) (offers_may setup run all) (offers_right known run (known_so setup (conducts run)) all)) stream)
      ∙ kept

  pub open_same : (stream : ℕ) → is_some (find stream s.offers.kept) ≡ true → are_open (windows_in (sight_in (point_of setup (conducts run)).summary)) stream ≡ are_open (windows_in (sight_in (told_by s))) stream
  open_same stream kept =
      ap (λ z. int_lt (pos 0) z && int_lt (pos 0) (point_of setup (conducts run)).summary.window) (by_moves.own stream (active stream kept) ∙ sym (by_book.own stream (active stream kept)))
      ∙ ap (λ z. int_lt (pos 0) ((sight_in (told_by s)).own stream) && int_lt (pos 0) z) (by_moves.shared ∙ sym by_book.shared)

  flushed : IsFlushed (windows_in (sight_in (point_of setup (conducts run)).summary)) s.offers
  flushed =
      still_flushed (windows_in (sight_in (told_by s))) (windows_in (sight_in (point_of setup (conducts run)).summary)) s.offers open_same
      (λ low. subst (λ n. n < high_water) (by_moves.untaken ∙ sym by_book.untaken) low)
      ready.rests.flushed

  -- a decision that may be done by what the book tells may be done
  pub may_here : (d : Decision) → MayDo setup (told_by s) (summary_at setup (Does d ∷ run)) s d → MayDo setup (summary_at setup run) (summary_at setup (Does d ∷ run)) s d
  may_here d may = subst (λ (u : Summary). MayDo setup u (summary_at setup (Does d ∷ run)) s d) (sym told) may

  -- behind an error of the connection
  pub erred : (d : Decision) (code : ℕ) → fault_in (told_by s) (entry_of d) ≡ Some (Connection code) → (ledger_of setup (conducts (Does d ∷ run))).book.untaken ≡ s.ledger.book.untaken
      → IsEnding setup (Does d ∷ run) (goaway (highest_in (opened_after (told_by s) (entry_of d))) (code_of_goaway_in (told_by s) code) ∷ []) s.requests.live → Ends setup run s d
  erred d code found same e =
      finish setup run all d (subst (λ (frames : List Frame). IsEnding setup (sent_all s.tables.encoding.table frames ++ Does d ∷ run) [] s.requests.live) (sym (ap (goaway_for (told_by s) (entry_of d)) found))
      (goaway_goes setup (Does d ∷ run) (highest_in (opened_after (told_by s) (entry_of d))) (code_of_goaway_in (told_by s) code) s.requests.live s.tables.encoding.table
      (ap (λ n. nat_lt most_untaken n && not (is_calming (goaway (highest_in (opened_after (told_by s) (entry_of d))) (code_of_goaway_in (told_by s) code)))) same
      ∙ calm_or_uncrowded (highest_in (opened_after (told_by s) (entry_of d))) code (is_crowded_in (told_by s)))
      e))

  -- ---- the client's side ends

  owes_nothing : owes_in setup false (told_by s) (Happened ClientEnd) ≡ []
  owes_nothing =
      let u : Summary = told_by s in
      let about : ℕ = about_in u (Happened ClientEnd) in
      ap (λ b. (if b then goaway (highest_in u.opened) no_error ∷ [] else []) ++ (resets_in setup false u (Happened ClientEnd) ++ [])) (neither_full u.drained (length u.opened) most_streams)
      ∙ ap (λ (fs : List Frame). fs ++ []) (
      ap (λ c. reset_for about (next_outline setup false about u (Happened ClientEnd)).head_out (u.stream about).outline.cause (first_of_both (u.stream about).outline.cause c)) (no_cause_if (about == about && nat_lt 0 about) _ refl)
      ∙ no_reset_for about (next_outline setup false about u (Happened ClientEnd)).head_out (u.stream about).outline.cause
      )

  pub client_ends : Ends setup run s (Notes ClientEnd)
  client_ends = finish setup run all (Notes ClientEnd) (record {
    allowed = (all, may_here (Notes ClientEnd) (may_note setup (summary_at setup (Does (Notes ClientEnd) ∷ run)) s ready ClientEnd refl refl));
    ends = refl;
    open_yet = ready.open_yet;
    owes = owes_nothing;
    none_begun = ready.rests.conduct.none_begun;
    live = refl;
    due = ready.rests.served.nothing;
    read = ready.rests.read;
    flushed = flushed;
  })

  -- ---- octets depart from the preface, or a length is too long

  no_resets : (breach : Breach) → resets_in setup false (told_by s) (Breached breach) ≡ []
  no_resets breach = no_reset_for 0 (next_outline setup false 0 (told_by s) (Breached breach)).head_out ((told_by s).stream 0).outline.cause

  breaks : (breach : Breach) (code : ℕ) → fault_in (told_by s) (Breached breach) ≡ Some (Connection code) → owes_in setup false (told_by s) (Breached breach) ≡ goaway (highest_in (told_by s).opened) (code_of_goaway_in (told_by s) code) ∷ [] → Ends setup run s (Breaks breach)
  breaks breach code found owes = erred (Breaks breach) code found refl (record {
    allowed = (all, may_here (Breaks breach) (may_break setup (summary_at setup (Does (Breaks breach) ∷ run)) s ready breach));
    ends = refl;
    open_yet = ready.open_yet;
    owes = owes;
    none_begun = ready.rests.conduct.none_begun;
    live = refl;
    due = ready.rests.served.nothing;
    read = ready.rests.read;
    flushed = flushed;
  })

  pub breach_ends : (breach : Breach) → Ends setup run s (Breaks breach)
  breach_ends WrongPreface = breaks WrongPreface protocol_error refl (ap (λ (fs : List Frame). goaway (highest_in (told_by s).opened) (code_of_goaway_in (told_by s) protocol_error) ∷ (fs ++ [])) (no_resets WrongPreface))
  breach_ends TooLong = breaks TooLong frame_size_error refl (ap (λ (fs : List Frame). goaway (highest_in (told_by s).opened) (code_of_goaway_in (told_by s) frame_size_error) ∷ (fs ++ [])) (no_resets TooLong))

-- ---- in place of another frame

module _ (setup : Setup) (run : List Move) (all : AllAllowed setup run) (crowd : IsCrowded (state_of setup run)) (on : (state_of setup run).ledger.book.ends ≡ false) where
  abbrev now : State
  now = state_of setup run

  abbrev calming : Frame
  calming = goaway (highest_in (told_by now).opened) enhance_your_calm

  -- it is in its turn, and nothing else stands in its way
  calming_may : MayDo setup (told_by now) (summary_at setup (Does (calming_of now) ∷ run)) now (calming_of now)
  calming_may = record {
    rests = λ comes. absurd (let no : false ≡ true = comes in cc);
    conduct = record { allowed = record { open_yet = crowd.open_yet; turn = inr (inr (record { goes_on = on; crowded_so = crowd.crowded; goaway = refl })) }; fit = refl };
    offer = record { no_block = refl; no_data = refl };
    in_turn = λ begins. absurd (let no : false ≡ true = begins in cc);
    request = record { open_yet = crowd.open_yet; may = inl crowd.nothing_due };
    additions = tt;
    calls = λ so. crowd.would_go;
    table = record { together = ap (λ b. is_between b calming) crowd.none_begun; is_given = refl };
    window = record { kind = refl; over_with_it = refl };
  }

  -- far more octets are untaken behind it than those while which parts of responses begin
  abbrev windows_behind : Windows
  windows_behind = windows_in (sight_in (point_of setup (conducts (Does (calming_of now) ∷ run))).summary)

  many : windows_behind.untaken < high_water → ⊥
  many low =
      let there : now.ledger.book.untaken ≡ (point_of setup (conducts run)).summary.untaken = (has_kept setup (conducts run) (all_moved (known_of setup (conducts run)) run all)).tells.untaken in
      let above = ltb-true most_untaken now.ledger.book.untaken crowd.crowded in
      omega (arith, low, there, above)

  calmed_flushed : IsFlushed windows_behind now.offers
  calmed_flushed = record { none_cut = λ low. absurd (many low); none_ready = λ low. absurd (many low) }

  pub calming_ends : Ends setup run now (calming_of now)
  calming_ends = finish setup run all (calming_of now) (record {
    allowed = (all, subst (λ (u : Summary). MayDo setup u (summary_at setup (Does (calming_of now) ∷ run)) now (calming_of now)) (sym (ap (λ b. if b then (point_of setup (conducts run)).summary else told_by now) on)) calming_may);
    ends = refl;
    open_yet = crowd.open_yet;
    owes = ap (λ b. if not b then [] else rest_of now.ledger.queue ++ owes_in setup false (told_by now) (entry_of (calming_of now))) on;
    none_begun = ap (λ b. begun_after b calming) crowd.none_begun;
    live = refl;
    due = crowd.nothing_due;
    read = crowd.read;
    flushed = calmed_flushed;
  })

-- ---- by the state that stands behind the moves

pub calming_leads : (setup : Setup) (run : List Move) (s : State) → Stands setup run s → IsCrowded s → Ends setup run s (calming_of s)
calming_leads setup run s stands crowd =
    subst (λ (x : State). Ends setup run x (calming_of x)) stands.is
    (calming_ends setup run stands.allowed (subst IsCrowded (sym stands.is) crowd) (ap (λ (x : State). x.ledger.book.ends) stands.is ∙ stands.goes_on))

pub client_leads : (setup : Setup) (run : List Move) (s : State) → Stands setup run s → IsReady s → Ends setup run s (Notes ClientEnd)
client_leads setup run s stands ready =
    subst (λ (x : State). Ends setup run x (Notes ClientEnd)) stands.is
    (client_ends setup run stands.allowed (subst IsReady (sym stands.is) ready) (ap (λ (x : State). x.ledger.book.ends) stands.is ∙ stands.goes_on))

pub breach_leads : (setup : Setup) (run : List Move) (s : State) (breach : Breach) → Stands setup run s → IsReady s → Ends setup run s (Breaks breach)
breach_leads setup run s breach stands ready =
    subst (λ (x : State). Ends setup run x (Breaks breach)) stands.is
    (breach_ends setup run stands.allowed (subst IsReady (sym stands.is) ready) (ap (λ (x : State). x.ledger.book.ends) stands.is ∙ stands.goes_on) breach)
