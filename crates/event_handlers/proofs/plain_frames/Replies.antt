-- A body that is longer than the gateway takes: it replies itself, or resets the stream where the final head of a response is out.
use Rattle.std.proofs.Common.{◌≡◌, ◌+◌, true, false, not, ◌&&◌, List, [], ◌∷◌, length, Option, Some, None, refl, sym, ◌∙◌, ap, subst, inl, inr, arith, ℕ, nat_lt}
use Rattle.std.proofs.lemmas.Bool.Decides.{eqb_tells}
use Rattle.std.specs.Prelude.{is_none, option_map}
use Rattle.model.specs.Frames.{Frame, Fits, spell, data_kind, enhance_your_calm}
use Rattle.model.specs.Logs.{Output}
use Rattle.model.specs.Logs.Output.{ToClient}
use Rattle.model.specs.Setup.{Setup}
use Rattle.model.specs.Tapes.{put}
use Rattle.model.specs.Causes.{Cause}
use Rattle.model.specs.ErrorClause.{rst_stream, reset_for}
use Rattle.model.specs.WindowsOnTape.{is_any, data_length}
use Rattle.theory_errors.specs.Summary.{Stream as Kept}
use Rattle.theory_errors.specs.Rows.{find}
use Rattle.theory_errors.specs.Rows.Slot.{Over}
use Rattle.theory_errors.specs.Quiet.{coming}
use Rattle.theory_errors.specs.Book.{Book}
use Rattle.theory_responses.specs.State as theory_responses
use Rattle.theory_responses.specs.State.{Change, answered}
use Rattle.theory_responses.specs.Rule.{found_by}
use Rattle.theory_responses.proofs.Keeping.{find_changed, find_other, answered_id}
use Rattle.theory_requests.specs.Lines.{without}
use Rattle.theory_requests.specs.State.{Held, Due, id_of}
use Rattle.streams.specs.Asked.{is_active, changed}
use Rattle.connection_state.proofs.BlockRows.{active_closed}
use Rattle.connection_state.specs.Inbound.{Inbound, Outside, book_of}
use Rattle.connection_state.specs.Judgement.{IsPlain, IsTaken}
use Rattle.connection_state.specs.declared.answers.Judged.TheVariants as judged
use Rattle.upstream_connections.specs.Kept as upstreams
use Rattle.theory.specs.Moves.{Addition, Move}
use Rattle.theory.specs.State.{State}
use Rattle.refinement.specs.View.{View, Pending, balanced, waiting_for, Leads}
use Rattle.refinement.specs.Rest.{IsAtRest, NoneCut}
use Rattle.refinement.specs.Bringing.{Brings, PerformsOwn}
use Rattle.refinement.proofs.Answered.{plain_addition, plain_owes}
use Rattle.refinement.proofs.Bringing.{brings_then}
use Rattle.refinement.proofs.Heads.{none_cut_behind}
use Rattle.refinement.proofs.Kept.{changed_goes}
use Rattle.refinement.proofs.Resets.{reset_view, reset_paid}
use Rattle.window_credit.specs.Sides.{unless_over}
use Rattle.window_credit.specs.Standing.{dropped_of}
use Rattle.refinement.proofs.Coming.{outside_of, change_between, offers_with}
use Rattle.refinement.specs.Owed.{owed_for}
use Rattle.model.specs.Limits.{most_untaken}
use Rattle.streams.proofs.Changes.{same_ids}
use Rattle.event_handlers.specs.Comings.{ComesFrom}
use Rattle.event_handlers.specs.Inputs.Input.{OfFrame}
use Rattle.event_handlers.specs.Stopping.{IsCalmed, reset_marked}
use Rattle.event_handlers.proofs.Calming.{calm_ends, calm_comes, calmed_as}
use Rattle.event_handlers.specs.Forgetting.{forgotten}
use Rattle.event_handlers.proofs.plain_frames.Coming.{Passes, few, held_goes, came}
use Rattle.event_handlers.proofs.plain_frames.Quiet.{taken_by}
use Rattle.event_handlers.proofs.plain_frames.Ending.{held_twice}
use Rattle.event_handlers.proofs.plain_frames.Bodies.{mild, names, was_active, is_active_now, found_now}

module _ (setup : Setup) (old : View) (rest : IsAtRest old) (frame : Frame) (plain : IsPlain frame) (inbound : Inbound) (table : inbound.table ≡ old.inbound.table) (taken : (outside : Outside) → IsTaken setup (book_of outside old.inbound) frame (book_of outside inbound) judged.LargeBody) where
  abbrev kind : frame.kind ≡ data_kind
  kind = (taken (outside_of old.untaken)).says.0

  abbrev replied : List theory_responses.Kept
  replied = theory_responses.change frame.id (answered Cause.LargeBody) old.offers.kept

  abbrev mid : View
  mid = record { inbound = inbound; offers = record old.offers { kept = replied }; upstreams = record old.upstreams { held = without id_of frame.id old.upstreams.held }; marks = old.marks; encoding = old.encoding; untaken = old.untaken }

  module _ (run : List Move) (s : State) (leads : Leads setup run old balanced s) where
    now_active : is_active inbound.rows frame.id ≡ true
    now_active = is_active_now setup old rest frame plain inbound table judged.LargeBody taken kind run s leads

    -- whether a final head is out doesn't change
    pub head_same : (find inbound.rows frame.id).head_out ≡ (find old.inbound.rows frame.id).head_out
    head_same = ap (λ (k : Kept). k.head_out) (found_now setup old rest frame plain inbound table judged.LargeBody taken kind run s leads)

    caused : (find inbound.rows frame.id).outline.cause ≡ Some Cause.LargeBody
    caused = ap (λ (k : Kept). k.outline.cause) (found_now setup old rest frame plain inbound table judged.LargeBody taken kind run s leads) ∙ (taken (outside_of old.untaken)).says.2

    change : change_between old.inbound.rows inbound.rows frame.id ≡ record { opens = false; over = false; caused = Some Cause.LargeBody }
    change =
        ap (λ x. let c : Change = record { opens = not (is_active old.inbound.rows frame.id) && x; over = is_active old.inbound.rows frame.id && not x; caused = found_by (find old.inbound.rows frame.id).outline.cause (find inbound.rows frame.id).outline.cause } in c) now_active
        ∙ ap (λ x. let c : Change = record { opens = not x && true; over = x && false; caused = found_by (find old.inbound.rows frame.id).outline.cause (find inbound.rows frame.id).outline.cause } in c) (was_active setup old rest frame plain inbound table judged.LargeBody taken kind run s leads)
        ∙ ap (λ (o : Option Cause). let c : Change = record { opens = false; over = false; caused = found_by o (find inbound.rows frame.id).outline.cause } in c) (taken (outside_of old.untaken)).says.1
        ∙ ap (λ (o : Option Cause). let c : Change = record { opens = false; over = false; caused = found_by None o } in c) caused

  comes : (owed : List Frame) → ((outside : Outside) → owed_for frame.id (find old.inbound.rows frame.id).head_out judged.LargeBody ≡ owed) → (outputs : List Output)
      → Brings setup old balanced outputs (coming frame) mid (record balanced { owed = owed; fresh = data_length is_any frame }) outputs
  comes owed owes outputs =
      came setup old rest frame plain inbound table (taken (outside_of old.untaken)).left (mild setup old rest frame plain inbound table judged.LargeBody taken kind) owed Due.Nothing
      (record old.offers { kept = replied }) (record old.upstreams { held = without id_of frame.id old.upstreams.held }) old.marks 0 old.encoding refl
      (λ outside. plain_owes setup (book_of outside old.inbound) frame plain (book_of outside inbound) judged.LargeBody (taken outside) ∙ owes outside)
      (names setup old rest frame plain inbound table judged.LargeBody taken kind)
      passes outputs
    where
      passes : (run : List Move) (s : State) (leads : Leads setup run old balanced s) → Passes setup old rest frame plain inbound table (taken (outside_of old.untaken)).left (mild setup old rest frame plain inbound table judged.LargeBody taken kind) (record old.offers { kept = replied }) (record old.upstreams { held = without id_of frame.id old.upstreams.held }) old.marks 0 Due.Nothing s
      passes run s leads =
          let none = plain_addition setup s.ledger.book frame plain (few setup run old s leads) (book_of (record { given = s.ledger.book.given; untaken = old.untaken }) inbound) judged.LargeBody (taken_by setup old rest frame plain inbound table judged.LargeBody taken run s leads) in
          record {
            addition = Addition.Nothing;
            right = none;
            requests =
                ap (λ (hs : List Held). upstreams.with_due (record old.upstreams { held = hs }) Due.Nothing)
                (held_goes setup old rest frame plain inbound table (taken (outside_of old.untaken)).left (mild setup old rest frame plain inbound table judged.LargeBody taken kind) run s leads none
                (ap (λ x. x && is_none (find inbound.rows frame.id).outline.cause) (now_active run s leads) ∙ ap (λ (o : Option Cause). is_none o) (caused run s leads)));
            on_offer = ap (λ (c : Change). offers_with frame.id c old.offers) (change run s leads);
            marked = ap (λ (c : Change). unless_over c.over frame.id old.marks) (change run s leads);
            returned = ap (λ (c : Change). dropped_of c.over frame.id old.marks) (change run s leads);
          }

  -- The gateway's reply is on offer.
  pub offered : (find old.inbound.rows frame.id).head_out ≡ false → (outputs : List Output) → Brings setup old balanced outputs (coming frame) mid (record balanced { fresh = data_length is_any frame }) outputs
  offered not_out outputs = comes [] (λ outside. ap (λ out. reset_for frame.id out None (Some Cause.LargeBody)) not_out) outputs

  -- no reset is owed then
  pub offered_cuts_none : (find old.inbound.rows frame.id).head_out ≡ false → (run : List Move) (s : State) → Leads setup run old balanced s → NoneCut (record old.offers { kept = replied })
  offered_cuts_none not_out run s leads other k found = elim (eqb_tells frame.id other) [
    | inr apart ↦ rest.none_cut other k (sym (find_other frame.id other (answered Cause.LargeBody) old.offers.kept (answered_id Cause.LargeBody) apart.1) ∙ found)
    | inl is ↦ by (theory_responses.find frame.id old.offers.kept) refl (sym (find_changed frame.id (answered Cause.LargeBody) old.offers.kept (answered_id Cause.LargeBody)) ∙ ap (λ n. theory_responses.find n replied) is.1 ∙ found)
  ]
    where
      by : (o : Option theory_responses.Kept) → theory_responses.find frame.id old.offers.kept ≡ o → option_map (answered Cause.LargeBody) o ≡ Some k → k.cut ≡ false
      by None there is = cc
      by (Some x) there is =
          let same : answered Cause.LargeBody x ≡ k = cc in
          ap (λ (y : theory_responses.Kept). y.cut) (sym same)
          ∙ none_cut_behind setup run s leads.stands leads.so frame.id x (ap (λ (o : theory_responses.State). theory_responses.find frame.id o.kept) leads.keeps.offers ∙ there) (rest.none_cut frame.id x there) (ap (λ (b : Book). (find b.rows frame.id).head_out) leads.keeps.book ∙ not_out) Cause.LargeBody

  -- ---- where it is too late to reply

  abbrev final : View
  final = record (forgotten frame.id (record old { inbound = record inbound { rows = changed frame.id (Over true) inbound.rows } })) { untaken = old.untaken + length (spell (rst_stream frame.id enhance_your_calm)) }

  abbrev owing : Pending
  owing = record balanced { owed = rst_stream frame.id enhance_your_calm ∷ []; fresh = data_length is_any frame }

  -- The stream is reset, and nothing is kept of it any more.
  pub cut_short : (find old.inbound.rows frame.id).head_out ≡ true → Fits (rst_stream frame.id enhance_your_calm) → nat_lt most_untaken old.untaken ≡ false → (outputs : List Output)
      → Brings setup old balanced outputs (coming frame) final (record balanced { fresh = data_length is_any frame; shared = waiting_for frame.id old }) (put outputs (ToClient (spell (rst_stream frame.id enhance_your_calm))))
  cut_short out fits free outputs run s leads =
      brings_then setup old mid final balanced owing (record balanced { fresh = data_length is_any frame; shared = waiting_for frame.id old }) outputs outputs (put outputs (ToClient (spell (rst_stream frame.id enhance_your_calm)))) (coming frame)
      (comes (rst_stream frame.id enhance_your_calm ∷ []) (λ outside. ap (λ out. reset_for frame.id out None (Some Cause.LargeBody)) out) outputs)
      (subst (λ (v : View). PerformsOwn setup mid owing outputs v (record balanced { fresh = data_length is_any frame; shared = waiting_for frame.id old }) (put outputs (ToClient (spell (rst_stream frame.id enhance_your_calm))))) final_is
      (subst (λ n. PerformsOwn setup mid owing outputs (reset_view mid frame.id enhance_your_calm) (record balanced { fresh = data_length is_any frame; shared = n }) (put outputs (ToClient (spell (rst_stream frame.id enhance_your_calm))))) (none_plus (waiting_for frame.id old))
      (reset_paid setup mid owing [] frame.id enhance_your_calm refl refl (active_closed inbound.drained inbound.rows frame.id (now_active run s leads)) fits free outputs)))
      run s leads
    where
      none_plus : (n : ℕ) → 0 + n ≡ n
      none_plus n = omega (arith)

      final_is : reset_view mid frame.id enhance_your_calm ≡ final
      final_is =
          ap (λ (ks : List theory_responses.Kept). record (reset_view mid frame.id enhance_your_calm) { offers = record old.offers { kept = ks } }) (changed_goes frame.id (answered Cause.LargeBody) (answered_id Cause.LargeBody) old.offers.kept)
          ∙ ap (λ (hs : List Held). record final { upstreams = record old.upstreams { held = hs } }) (held_twice frame.id old.upstreams.held)

  -- It can't be, and the connection ends.
  pub cut_over : (find old.inbound.rows frame.id).head_out ≡ true → (outputs p : List Output) → IsCalmed (reset_marked frame.id (record old { inbound = inbound })) outputs p → ComesFrom setup old balanced outputs (OfFrame frame ∷ []) balanced None p
  cut_over out outputs p calmed =
      calm_comes setup old mid balanced owing outputs outputs p (coming frame) (OfFrame frame) refl
      (comes (rst_stream frame.id enhance_your_calm ∷ []) (λ outside. ap (λ out. reset_for frame.id out None (Some Cause.LargeBody)) out) outputs)
      (calm_ends setup mid owing (inl (rst_stream frame.id enhance_your_calm, [], refl)) refl outputs p
      (calmed_as (reset_marked frame.id (record old { inbound = inbound })) mid outputs p (same_ids frame.id (Over true) inbound.rows) refl refl calmed))
