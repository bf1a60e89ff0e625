-- A frame that is an error of the connection, where the gateway rests: it adds nothing, changes no offer, and calls for a GOAWAY.
use Rattle.std.proofs.Common.{◌≡◌, ℕ, zero, suc, ◌<◌, arith, Bool, true, false, not, ◌||◌, ◌==◌, ◌&&◌, nat_lt, List, [], ◌∷◌, ◌++◌, map, filter, refl, sym, ap, ◌∙◌, subst, inl, inr, if◌then◌else◌}
use Rattle.std.specs.Prelude.{Option, Some, None, is_some}
use Rattle.std.specs.List.{list_any}
use Rattle.std.proofs.lemmas.Bool.{and_parts}
use Rattle.std.proofs.lemmas.Bool.Decides.{eqb_tells}
use Rattle.model.specs.Limits.{high_water}
use Rattle.model.specs.Frames.{Frame, goaway}
use Rattle.model.specs.Setup.{Setup}
use Rattle.model.specs.Tables.{Table}
use Rattle.model.specs.Tapes.{Noted, Entry, came}
use Rattle.model.specs.Tapes.Note.{NoBlock}
use Rattle.model.specs.Tapes.Entry.{Came}
use Rattle.model.specs.Decoding.{Partial, is_read, completed}
use Rattle.model.specs.Streams.{frame_items}
use Rattle.model.specs.Errors.{Fault}
use Rattle.model.specs.Errors.Fault.{Connection}
use Rattle.model.specs.Known.{Known}
use Rattle.model.specs.Causes.{Cause}
use Rattle.model.specs.Lifetimes.{opens_by, is_active, is_opened, is_over, opened, is_drained}
use Rattle.model.specs.Courses.{first_of_both, interrupts}
use Rattle.model.specs.ErrorClause.{is_fatal, acks, reset_for}
use Rattle.model.proofs.OwedSteps.{no_reset_for}
use Rattle.theory_errors.specs.Summary.{Summary}
use Rattle.theory_errors.specs.Judging.{is_over_in, completed_in}
use Rattle.theory_errors.specs.Owing.{fault_in, highest_in, opened_after, new_cause_in, outline_from, owed_first_in, resets_in, owes_in, code_of_goaway_in}
use Rattle.theory_errors.specs.After.{after}
use Rattle.theory_errors.specs.Rows.{find}
use Rattle.theory_errors.specs.Rule.{point_of, known_of}
use Rattle.theory_errors.specs.Told as theory_errors
use Rattle.theory_errors.proofs.Book.{has_kept}
use Rattle.theory_errors.proofs.Idle.{no_cause_if}
use Rattle.theory_errors.proofs.Knowing.{known_so}
use Rattle.theory_errors.proofs.RowsKept.{will_do}
use Rattle.theory_errors.proofs.Seen.{fault_seen}
use Rattle.theory_responses.specs.State as theory_responses
use Rattle.theory_responses.specs.State.{Windows, Change, change, without, unless_over, answered_if, with_new, are_open, is_ready_if, can_turn}
use Rattle.theory_responses.specs.Policy.{IsFlushed}
use Rattle.theory_responses.specs.Sight.{IsRightOf, sight_in, windows_in}
use Rattle.theory_responses.specs.Rule.{found_by, change_by}
use Rattle.theory_responses.proofs.Keeping.{find_gone, find_without}
use Rattle.model.proofs.OpenedLaws.{none_zero}
use Rattle.theory_responses.proofs.Ruling.{opened_by_it}
use Rattle.theory_header_tables.specs.Rule as theory_header_tables
use Rattle.theory_header_tables.specs.Verdicts.{verdict_in}
use Rattle.theory.specs.Moves.{Decision, Move}
use Rattle.theory.specs.Moves.Addition.{Nothing}
use Rattle.theory.specs.Moves.Decision.{Takes}
use Rattle.theory.specs.Moves.Move.{Does}
use Rattle.theory.specs.State.{State, conducts, tape_of, summary_at, state_of}
use Rattle.theory.specs.Rule.{MayDo, AllAllowed, added_in}
use Rattle.theory.specs.Steps.{told_by, Stands}
use Rattle.theory.specs.Coming.{IsReady}
use Rattle.theory.specs.Ending.{IsFatal, Ends}
use Rattle.theory.proofs.Telling.{all_moved, moves_same, sight_right}
use Rattle.theory.proofs.Coming.{may_take}
use Rattle.theory.proofs.EndingMoves.{told_at, still_flushed}
use Rattle.theory.proofs.EndingWindows.{open_stays}
use Rattle.theory.proofs.EndingOpens as opening
use Rattle.theory.proofs.EndingStarts.{by_book, by_moves, active, open_same, may_here, erred}

-- ---- offers that stay, but for the frame's own stream

change_none : (id : ℕ) (ks : List theory_responses.Kept) → change id (answered_if None) ks ≡ ks
change_none id [] = refl
change_none id (k ∷ ks) = by (k.id == id) (change_none id ks)
  where
    by : (b : Bool) → change id (answered_if None) ks ≡ ks → (if b then k ∷ ks else k ∷ change id (answered_if None) ks) ≡ k ∷ ks
    by true more = refl
    by false more = ap (λ (xs : List theory_responses.Kept). k ∷ xs) more

change_missing : (id : ℕ) (f : theory_responses.Kept → theory_responses.Kept) (ks : List theory_responses.Kept) → theory_responses.find id ks ≡ None → change id f ks ≡ ks
change_missing id f [] e = refl
change_missing id f (k ∷ ks) e = by (k.id == id) e (change_missing id f ks)
  where
    by : (b : Bool) → (if b then Some k else theory_responses.find id ks) ≡ None → (theory_responses.find id ks ≡ None → change id f ks ≡ ks) → (if b then f k ∷ ks else k ∷ change id f ks) ≡ k ∷ ks
    by true none more = let clash : ◌≡◌ {A = Option theory_responses.Kept} (Some k) None = none in cc
    by false none more = ap (λ (xs : List theory_responses.Kept). k ∷ xs) (more none)

none_left : (p q : ℕ → Bool) (id : ℕ) (ks : List theory_responses.Kept) → ((x : ℕ) → q x ≡ true → p x ≡ true) → filter p (map (λ (k : theory_responses.Kept). k.id) ks) ≡ [] → filter q (map (λ (k : theory_responses.Kept). k.id) (without id ks)) ≡ []
none_left p q id [] less none = refl
none_left p q id (k ∷ ks) less none = by (p k.id) refl (q k.id) refl (k.id == id) none (none_left p q id ks less)
  where
    ids : List theory_responses.Kept → List ℕ
    ids xs = map (λ (x : theory_responses.Kept). x.id) xs

    by : (a : Bool) → p k.id ≡ a → (b : Bool) → q k.id ≡ b → (c : Bool) → (if a then k.id ∷ filter p (map (λ (x : theory_responses.Kept). x.id) ks) else filter p (map (λ (x : theory_responses.Kept). x.id) ks)) ≡ []
        → (filter p (map (λ (x : theory_responses.Kept). x.id) ks) ≡ [] → filter q (map (λ (x : theory_responses.Kept). x.id) (without id ks)) ≡ [])
        → filter q (map (λ (x : theory_responses.Kept). x.id) (if c then without id ks else k ∷ without id ks)) ≡ []
    by true pk b qk c none more = absurd (cc)
    by false pk b qk true none more = more none
    by false pk true qk false none more = absurd (let no : true ≡ false = sym (less k.id qk) ∙ pk in cc)
    by false pk false qk false none more = ap (λ x. if x then k.id ∷ filter q (map (λ (y : theory_responses.Kept). y.id) (without id ks)) else filter q (map (λ (y : theory_responses.Kept). y.id) (without id ks))) qk ∙ more none

-- the flush stays done where a stream goes
flushed_unless : (w : Windows) (s : theory_responses.State) (over : Bool) (id : ℕ) → IsFlushed w s → IsFlushed w (record { kept = unless_over over id s.kept; last = s.last })
flushed_unless w s false id done = done
flushed_unless w s true id done = record {
  none_cut = λ low stream k found. elim (eqb_tells id stream) [
    | inl x ↦ absurd (let clash : ◌≡◌ {A = Option theory_responses.Kept} None (Some k) = sym (find_gone id s.kept) ∙ ap (λ n. theory_responses.find n (without id s.kept)) x.1 ∙ found in cc)
    | inr x ↦ done.none_cut low stream k (sym (find_without id stream s.kept x.1) ∙ found)
  ];
  none_ready = λ low. none_left (can_turn w s) (can_turn w (record { kept = without id s.kept; last = s.last })) id s.kept less (done.none_ready low);
}
  where
    less : (x : ℕ) → is_ready_if w (theory_responses.find x (without id s.kept)) ≡ true → is_ready_if w (theory_responses.find x s.kept) ≡ true
    less x can = elim (eqb_tells id x) [
      | inl y ↦ absurd (let clash : false ≡ true = sym (ap (is_ready_if w) (sym (ap (λ n. theory_responses.find n (without id s.kept)) y.1) ∙ find_gone id s.kept)) ∙ can in cc)
      | inr y ↦ ap (is_ready_if w) (sym (find_without id x s.kept y.1)) ∙ can
    ]

flushed_takes : (w : Windows) (s : theory_responses.State) (id : ℕ) (c : Change) → c.opens ≡ false → change id (answered_if c.caused) s.kept ≡ s.kept → IsFlushed w s
    → IsFlushed w (record { kept = unless_over c.over id (change id (answered_if c.caused) (with_new c.opens id s.kept)); last = s.last })
flushed_takes w s id c opens same done =
    subst (λ (ks : List theory_responses.Kept). IsFlushed w (record { kept = ks; last = s.last }))
    (sym (ap (λ b. unless_over c.over id (change id (answered_if c.caused) (with_new b id s.kept))) opens ∙ ap (unless_over c.over id) same))
    (flushed_unless w s c.over id done)

-- ---- what is known of the fault

code_of : (found : Option Fault) → is_fatal found ≡ true → (code : ℕ) × (found ≡ Some (Connection code))
code_of None e = let clash : false ≡ true = e in cc
code_of (Some (Connection code)) e = (code, refl)
code_of (Some (Fault.Stream code)) e = let clash : false ≡ true = e in cc
code_of (Some Fault.Discarded) e = let clash : false ≡ true = e in cc

found_same : (c : Option Cause) → found_by c c ≡ None
found_same None = refl
found_same (Some c) = refl

first_stays : (c : Option Cause) → first_of_both c None ≡ c
first_stays None = refl
first_stays (Some c) = refl

either_way : (over : Bool) → (over || true) ≡ true
either_way true = refl
either_way false = refl

-- an active stream isn't 0
counted : (t : List Entry) (stream : ℕ) → is_active stream t ≡ true → 0 < stream
counted t zero live = let clash : false ≡ true = sym (none_zero t) ∙ (and_parts (is_opened 0 t) (not (is_over 0 t)) live).0 in cc
counted t (suc n) live = omega arith

module _ (setup : Setup) (u : Summary) (noted : Noted) (code : ℕ) (found : fault_in u (Came noted) ≡ Some (Connection code)) where
  abbrev id : ℕ
  id = noted.frame.id

  -- it adds nothing
  pub none_added : added_in setup u noted ≡ []
  none_added =
      let kept = u.stream id in
      ap (λ (x : Option Fault). if kept.outline.over || interrupts id (Came noted) x (new_cause_in setup false id u (Came noted) kept.outline x) then [] else frame_items (completed_in u.block noted.frame) noted) found
      ∙ ap (λ b. if b then [] else frame_items (completed_in u.block noted.frame) noted) (either_way kept.outline.over)

  -- it is no cause for its stream
  no_cause : (x : Option Fault) → x ≡ Some (Connection code) → new_cause_in setup false id u (Came noted) (u.stream id).outline x ≡ None
  no_cause x is = ap (λ (y : Option Fault). new_cause_in setup false id u (Came noted) (u.stream id).outline y) is ∙ no_cause_if (id == id && nat_lt 0 id) None refl

  pub cause_stays : ((after setup false u (Came noted)).stream id).outline.cause ≡ (u.stream id).outline.cause
  cause_stays = ap (first_of_both (u.stream id).outline.cause) (no_cause (fault_in u (Came noted)) found) ∙ first_stays (u.stream id).outline.cause

  -- it calls for a GOAWAY alone
  pub owes_goaway : owes_in setup false u (Came noted) ≡ goaway (highest_in (opened_after u (Came noted))) (code_of_goaway_in u code) ∷ []
  owes_goaway =
      ap (λ (x : Option Fault). owed_first_in u (Came noted) x ++ (acks (Came noted) x ++ (resets_in setup false u (Came noted) ++ []))) found
      ∙ ap (λ (fs : List Frame). goaway (highest_in (opened_after u (Came noted))) (code_of_goaway_in u code) ∷ (fs ++ [])) none_reset
    where
      none_reset : resets_in setup false u (Came noted) ≡ []
      none_reset =
          let k = u.stream id in
          ap (λ (c : Option Cause). reset_for id (outline_from setup false id u (Came noted) k (fault_in u (Came noted))).head_out k.outline.cause (first_of_both k.outline.cause c)) (no_cause (fault_in u (Came noted)) found)
          ∙ no_reset_for id (outline_from setup false id u (Came noted) k (fault_in u (Came noted))).head_out k.outline.cause

-- ---- the frame, and the end behind it

module _ (setup : Setup) (run : List Move) (all : AllAllowed setup run) (ready : IsReady (state_of setup run)) (on : (state_of setup run).ledger.book.ends ≡ false) (noted : Noted) (next : Table) (may : IsFatal (state_of setup run) noted next) where
  abbrev s : State
  s = state_of setup run

  abbrev u : Summary
  u = told_by s

  abbrev p : Summary
  p = (point_of setup (conducts run)).summary

  abbrev known : Known
  known = known_of setup (conducts run)

  abbrev t : List Entry
  t = tape_of run

  abbrev d : Decision
  d = Takes noted next Nothing

  told : summary_at setup run ≡ u
  told = ap (λ b. if b then p else u) on

  behind : summary_at setup (Does d ∷ run) ≡ after setup false p (Came noted)
  behind = told_at setup (Does d ∷ run) may.fatal

  tells : theory_errors.IsTold s.ledger.book p
  tells = let kept = (has_kept setup (conducts run) (all_moved known run all)).tells in kept.told (sym kept.ends ∙ on)

  -- the fault is the same by the moves
  same_fault : fault_in u (Came noted) ≡ fault_in p (Came noted)
  same_fault = ap (λ (x : Summary). fault_in x (Came noted)) tells.same ∙ fault_seen setup false (find s.ledger.book.rows) p (will_do s.ledger.book.rows p tells.stand) tells.stand.few (Came noted)

  found : (code : ℕ) × (fault_in u (Came noted) ≡ Some (Connection code))
  found = code_of (fault_in u (Came noted)) may.fatal

  same_opened : p.opened ≡ u.opened
  same_opened = sym (ap (λ (x : Summary). x.opened) tells.same)

  same_drained : p.drained ≡ u.drained
  same_drained = sym (ap (λ (x : Summary). x.drained) tells.same)

  same_block : p.block ≡ u.block
  same_block = sym (ap (λ (x : Summary). x.block) tells.same)

  opens_none : opens_by p.drained p.opened (completed_in p.block noted.frame) noted.note ≡ false
  opens_none =
      ap (λ os. opens_by p.drained os (completed_in p.block noted.frame) noted.note) same_opened
      ∙ ap (λ d. opens_by d u.opened (completed_in p.block noted.frame) noted.note) same_drained
      ∙ ap (λ b. opens_by u.drained u.opened (completed_in b noted.frame) noted.note) same_block
      ∙ opening.opens_none u noted s.tables.decoding next may.noted_right.is_noted may.fatal

  -- the same streams were opened behind it
  opened_behind : (summary_at setup (Does d ∷ run)).opened ≡ u.opened
  opened_behind =
      ap (λ (x : Summary). x.opened) behind
      ∙ ap (λ b. if b then noted.frame.id ∷ p.opened else p.opened) opens_none
      ∙ same_opened

  may_do : MayDo setup (summary_at setup run) (summary_at setup (Does d ∷ run)) s d
  may_do =
      may_here setup run all ready on d
      (may_take setup (summary_at setup (Does d ∷ run)) s ready noted next Nothing
      (record { fit = λ mild. absurd (let clash : true ≡ false = sym may.fatal ∙ mild in cc); noted_right = may.noted_right; gained = none_added setup u noted found.0 found.1 })
      (λ new. absurd (neither (list_any (λ other. other == noted.frame.id) u.opened)
      (ap (λ (os : List ℕ). not (list_any (λ other. other == noted.frame.id) u.opened) && list_any (λ other. other == noted.frame.id) os) (sym opened_behind) ∙ new))))
    where
      neither : (b : Bool) → (not b && b) ≡ true → ⊥
      neither true e = let clash : false ≡ true = e in cc
      neither false e = let clash : false ≡ true = e in cc

  -- what is read behind it is right
  right_behind : IsRightOf known (Came noted ∷ t) (sight_in (summary_at setup (Does d ∷ run)))
  right_behind = sight_right known (Does d ∷ run) (known_so setup (conducts (Does d ∷ run))) (all_moved known (Does d ∷ run) (all, may_do))

  right : IsRightOf known t (sight_in (summary_at setup run))
  right = sight_right known run (known_so setup (conducts run)) (all_moved known run all)

  abbrev c : Change
  c = change_by (sight_in (summary_at setup run)) (sight_in (summary_at setup (Does d ∷ run))) noted.frame.id

  -- it opens no stream
  opens_not : c.opens ≡ false
  opens_not = by ((sight_in (summary_at setup run)).active noted.frame.id) ((sight_in (summary_at setup (Does d ∷ run))).active noted.frame.id) (right.active noted.frame.id) (right_behind.active noted.frame.id)
    where
      on_tape : opens_by (is_drained t) (opened t) (completed (came t) noted.frame) noted.note ≡ false
      on_tape =
          ap (λ (x : Summary). opens_by x.drained x.opened (completed_in x.block noted.frame) noted.note) (sym (moves_same known run (known_so setup (conducts run)) (all_moved known run all)))
          ∙ opens_none

      by : (a b : Bool) → a ≡ is_active noted.frame.id t → b ≡ is_active noted.frame.id (Came noted ∷ t) → (not a && b) ≡ false
      by true b was is = refl
      by false false was is = refl
      by false true was is = absurd (let clash : true ≡ false = sym (opened_by_it t noted (sym was) (sym is)) ∙ on_tape in cc)

  -- and changes no offer
  same_offers : change noted.frame.id (answered_if c.caused) s.offers.kept ≡ s.offers.kept
  same_offers = by (theory_responses.find noted.frame.id s.offers.kept) refl
    where
      by : (o : Option theory_responses.Kept) → theory_responses.find noted.frame.id s.offers.kept ≡ o → change noted.frame.id (answered_if c.caused) s.offers.kept ≡ s.offers.kept
      by None is = change_missing noted.frame.id (answered_if c.caused) s.offers.kept is
      by (Some k) is =
          let live = active setup run all ready on noted.frame.id (ap (λ o. is_some o) is) in
          let before : (sight_in (summary_at setup run)).cause noted.frame.id ≡ (p.stream noted.frame.id).outline.cause = right.cause noted.frame.id live ∙ sym ((by_moves setup run all ready on).cause noted.frame.id live) in
          let now : (sight_in (summary_at setup (Does d ∷ run))).cause noted.frame.id ≡ (p.stream noted.frame.id).outline.cause =
          ap (λ (x : Summary). (x.stream noted.frame.id).outline.cause) behind ∙ cause_stays setup p noted found.0 (sym same_fault ∙ found.1) in
          ap (λ (x : Option Cause). change noted.frame.id (answered_if (found_by x ((sight_in (summary_at setup (Does d ∷ run))).cause noted.frame.id))) s.offers.kept) before
          ∙ ap (λ (x : Option Cause). change noted.frame.id (answered_if (found_by (p.stream noted.frame.id).outline.cause x)) s.offers.kept) now
          ∙ ap (λ (x : Option Cause). change noted.frame.id (answered_if x) s.offers.kept) (found_same (p.stream noted.frame.id).outline.cause)
          ∙ change_none noted.frame.id s.offers.kept

  plain : completed_in p.block noted.frame ≡ None → noted.note ≡ NoBlock
  plain none = subst (λ (b : Option Partial). theory_header_tables.IsNoted b (verdict_in u noted.frame).is_error s.tables.decoding noted.note next) (ap (λ b. completed_in b noted.frame) (sym same_block) ∙ none) may.noted_right.is_noted

  open_behind : (stream : ℕ) → is_some (theory_responses.find stream s.offers.kept) ≡ true → are_open (windows_in (sight_in (after setup false p (Came noted)))) stream ≡ are_open (windows_in (sight_in u)) stream
  open_behind stream kept =
      let live = active setup run all ready on stream kept in
      let there = (and_parts (list_any (λ other. other == stream) p.opened) (not (is_over_in (p.stream stream))) ((by_moves setup run all ready on).active stream ∙ live)).0 in
      open_stays p noted plain (sym (ap is_fatal same_fault) ∙ may.fatal) setup stream (counted t stream live) there
      ∙ open_same setup run all ready on stream kept

  flushed_behind : IsFlushed (windows_in (sight_in (after setup false p (Came noted)))) (state_of setup (Does d ∷ run)).offers
  flushed_behind =
      let w : Windows = windows_in (sight_in (after setup false p (Came noted))) in
      flushed_takes w s.offers noted.frame.id c opens_not same_offers
      (still_flushed (windows_in (sight_in u)) w s.offers open_behind
      (λ low. subst (λ n. n < high_water) ((by_moves setup run all ready on).untaken ∙ sym (by_book setup run all ready on).untaken) low)
      ready.rests.flushed)

  none_lost : (state_of setup (Does d ∷ run)).tables.lost ≡ false
  none_lost =
      ap (λ (x : Summary). s.tables.lost || not (is_read noted.note) && not (verdict_in x noted.frame).is_error) told
      ∙ ap (λ l. l || not (is_read noted.note) && not (verdict_in u noted.frame).is_error) ready.rests.read
      ∙ by (is_read noted.note) may.read
    where
      by : (b : Bool) → (b ≡ false → (verdict_in u noted.frame).is_error ≡ true) → (not b && not (verdict_in u noted.frame).is_error) ≡ false
      by true more = refl
      by false more = ap not (more refl)

  pub frame_ends : Ends setup run s d
  frame_ends = erred setup run all ready on d found.0 found.1 refl (record {
    allowed = (all, may_do);
    ends = may.fatal;
    open_yet = ready.open_yet;
    owes = owes_goaway setup u noted found.0 found.1;
    none_begun = ready.rests.conduct.none_begun;
    live = refl;
    due = ready.rests.served.nothing;
    read = none_lost;
    flushed = flushed_behind;
  })

-- ---- by the state that stands behind the moves

pub frame_leads : (setup : Setup) (run : List Move) (s : State) (noted : Noted) (next : Table) → Stands setup run s → IsReady s → IsFatal s noted next → Ends setup run s (Takes noted next Nothing)
frame_leads setup run s noted next stands ready may =
    subst (λ (x : State). Ends setup run x (Takes noted next Nothing)) stands.is
    (frame_ends setup run stands.allowed (subst IsReady (sym stands.is) ready) (ap (λ (x : State). x.ledger.book.ends) stands.is ∙ stands.goes_on) noted next (subst (λ (x : State). IsFatal x noted next) (sym stands.is) may))
