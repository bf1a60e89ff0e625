-- Frames that bring no stream an item, and acts, have their move where they are due.
use Rattle.std.proofs.Common.{◌≡◌, ℕ, Bool, true, false, List, ◌&&◌, ◌||◌, ◌==◌, Option, None, refl, sym, ◌∙◌, ap, subst, inl, inr, if◌then◌else◌}
use Rattle.std.proofs.lemmas.Bool.{or_parts}
use Rattle.std.specs.Prelude.{drop, bytes_eq, not}
use Rattle.model.specs.Frames.{Frame, data_kind, headers_kind, window_update_kind, continuation_kind, goaway_kind, has_flag, spell_number, enhance_your_calm}
use Rattle.model.specs.Logs.{Act}
use Rattle.model.specs.Logs.Act.{Open, ToUp, Close, CloseClient}
use Rattle.model.specs.Setup.{Setup}
use Rattle.model.specs.Tables.{Table}
use Rattle.model.specs.Tapes.{Noted}
use Rattle.model.specs.Decoding.{Partial, joined}
use Rattle.model.specs.FrameErrors.{is_between}
use Rattle.model.specs.ErrorClause.{is_passing}
use Rattle.theory_errors.specs.Summary.{Summary}
use Rattle.theory_errors.specs.Judging.{completed_in}
use Rattle.theory_responses.specs.Sight.{sight_in}
use Rattle.theory_receive_windows.specs.Rule as windows
use Rattle.theory_header_tables.specs.Rule.{IsGiven}
use Rattle.model.specs.Synchrony.{begins_part}
use Rattle.model.specs.Openings as openings
use Rattle.model.specs.Openings.{begins_another}
use Rattle.model.proofs.AloneLaws.{none_begins}
use Rattle.theory.specs.Moves.{Decision, given_or_sent, sent_or_used, acted}
use Rattle.theory.specs.Moves.Decision.{Sends}
use Rattle.theory.specs.State.{State, gates_in}
use Rattle.theory.specs.Rule.{rooms_in, MayDo}
use Rattle.theory.specs.Steps.{told_by}
use Rattle.theory.specs.Going.{GoesBetween, IsOwedNext, GivesBack, Acts}

-- The frame has no part of a response.
record IsPlain (frame : Frame) : Type 0 where
  pub no_data : (frame.kind == data_kind) ≡ false
  pub no_headers : (frame.kind == headers_kind) ≡ false
  pub no_continuation : (frame.kind == continuation_kind) ≡ false

completes_none : (frame : Frame) (before : Option Partial) → IsPlain frame → completed_in before frame ≡ None
completes_none frame before p =
    ap (λ b. if (b || frame.kind == continuation_kind) && has_flag 4 frame then joined before frame else None) p.no_headers
    ∙ ap (λ b. if b && has_flag 4 frame then joined before frame else None) p.no_continuation

module _ (setup : Setup) (behind : Summary) (s : State) where
  -- what both kinds of frames have in common
  module _ (noted : Noted) (next : Table) (between : GoesBetween s noted) (plain : IsPlain noted.frame) where
    no_turn : {A : Type 0} → begins_part noted.frame ≡ true → A
    no_turn begins = absurd (let clash : false ≡ true = sym (ap (λ b. b || noted.frame.kind == headers_kind) plain.no_data ∙ plain.no_headers) ∙ begins in cc)

    together : is_between s.ledger.book.block_out noted.frame ≡ false
    together = ap (λ (b : Option Partial). is_between b noted.frame) between.none_begun ∙ plain.no_continuation

    given : IsGiven (completed_in s.ledger.book.block_out noted.frame) s.tables.encoding noted.note next
    given = subst (λ (b : Option Partial). IsGiven b s.tables.encoding noted.note next) (sym (completes_none noted.frame s.ledger.book.block_out plain)) between.no_note

  -- what is owed next
  pub may_pay : (noted : Noted) (next : Table) → IsOwedNext s noted → MayDo setup (told_by s) behind s (Sends noted next)
  may_pay noted next owed =
      let last = or_parts (noted.frame.kind == data_kind || noted.frame.kind == headers_kind || noted.frame.kind == continuation_kind) (noted.frame.kind == window_update_kind) owed.control in
      let third = or_parts (noted.frame.kind == data_kind || noted.frame.kind == headers_kind) (noted.frame.kind == continuation_kind) last.0 in
      let first = or_parts (noted.frame.kind == data_kind) (noted.frame.kind == headers_kind) third.0 in
      let plain : IsPlain noted.frame = record { no_data = first.0; no_headers = first.1; no_continuation = third.1 } in
      let between = owed.between in
      record {
        rests = λ e. absurd (let no : false ≡ true = e in cc);
        conduct = record { allowed = record { open_yet = between.open_yet; turn = inl (record { front = owed.front; control = owed.control; owing = owed.owing; calm = owed.calm }) }; fit = between.not_to_open };
        offer = record { no_block = completes_none noted.frame s.ledger.book.block_out plain; no_data = plain.no_data };
        in_turn = no_turn noted next between plain;
        request = record { open_yet = between.open_yet; may = between.before_due };
        additions = tt;
        calls = λ so. absurd (let no : false ≡ true = sym owed.owing ∙ so in cc);
        table = record { together = together noted next between plain; is_given = given noted next between plain };
        window = subst (λ b. windows.MayCome setup.passing (gates_in (told_by s) s.requests) (sight_in (told_by s)) (sight_in behind) (rooms_in (told_by s) s) (given_or_sent b (sight_in (told_by s)) (sight_in behind) noted)) (sym last.1) (record { kind = last.1; over_with_it = refl });
      }

  -- octets that are given back
  pub may_give : (noted : Noted) (next : Table) → GivesBack s noted → MayDo setup (told_by s) behind s (Sends noted next)
  may_give noted next gives =
      let plain : IsPlain noted.frame = record { no_data = is data_kind; no_headers = is headers_kind; no_continuation = is continuation_kind } in
      let between = gives.between in
      record {
        rests = λ e. absurd (let no : false ≡ true = e in cc);
        conduct = record { allowed = record { open_yet = between.open_yet; turn = inr (inl (record { nothing = gives.nothing; goes_on = gives.goes_on; passing = passes noted gives.kind; rightly = gives.rightly })) }; fit = between.not_to_open };
        offer = record { no_block = completes_none noted.frame s.ledger.book.block_out plain; no_data = plain.no_data };
        in_turn = no_turn noted next between plain;
        request = record { open_yet = between.open_yet; may = between.before_due };
        additions = tt;
        calls = λ so. absurd (let no : false ≡ true = sym (ap (λ k. (k == goaway_kind && bytes_eq (drop 4 noted.frame.payload) (spell_number enhance_your_calm)) && not s.ledger.book.ends) gives.kind) ∙ so in cc);
        table = record { together = together noted next between plain; is_given = given noted next between plain };
        window = subst (λ b. windows.MayCome setup.passing (gates_in (told_by s) s.requests) (sight_in (told_by s)) (sight_in behind) (rooms_in (told_by s) s) (given_or_sent b (sight_in (told_by s)) (sight_in behind) noted)) (sym (is window_update_kind)) gives.all;
      }
    where
      is : (n : ℕ) → (noted.frame.kind == n) ≡ (window_update_kind == n)
      is n = ap (λ k. k == n) gives.kind

      passes : (noted : Noted) → noted.frame.kind ≡ window_update_kind → is_passing noted ≡ true
      passes noted kind = ap (λ k. k == data_kind || k == headers_kind || k == continuation_kind || k == window_update_kind) kind

  -- octets to an upstream, by whether they begin another exchange
  sent_may : (k : ℕ) (octets : List ℕ) (another : Bool) → begins_another (openings.given k s.ledger.book.given) s.ledger.book.last octets ≡ another
      → windows.MayCome setup.passing (gates_in (told_by s) s.requests) (sight_in (told_by s)) (sight_in behind) (rooms_in (told_by s) s) (sent_or_used another k octets)
      → windows.MayCome setup.passing (gates_in (told_by s) s.requests) (sight_in (told_by s)) (sight_in behind) (rooms_in (told_by s) s) (acted (sight_in (told_by s)) (ToUp k octets))
  sent_may k octets another is may = subst (λ b. windows.MayCome setup.passing (gates_in (told_by s) s.requests) (sight_in (told_by s)) (sight_in behind) (rooms_in (told_by s) s) (sent_or_used b k octets)) (sym is) may

  -- acts
  pub may_act : (act : Act) → s.ledger.book.closed ≡ false → Acts setup s act → MayDo setup (told_by s) behind s (Decision.Acts act)
  may_act (Open k route) open_yet may = record {
    rests = λ e. absurd (let no : false ≡ true = e in cc);
    conduct = record { allowed = record { open_yet = open_yet; turn = may.nothing }; fit = tt };
    offer = may.begins;
    in_turn = tt;
    request = record { open_yet = open_yet; may = may.due };
    additions = tt;
    calls = λ so. absurd (let no : false ≡ true = so in cc);
    table = tt;
    window = may.window;
  }
  may_act (ToUp k octets) open_yet (inl puts) =
      let none = none_begins (openings.given k s.ledger.book.given) s.ledger.book.last octets puts.window.its in
      record {
        rests = λ e. absurd (let no : false ≡ true = e in cc);
        conduct = record { allowed = record { open_yet = open_yet; turn = puts.nothing }; fit = tt };
        offer = λ another. absurd (let no : false ≡ true = sym none ∙ another in cc);
        in_turn = tt;
        request = record { open_yet = open_yet; may = inl puts.due };
        additions = tt;
        calls = λ so. absurd (let no : false ≡ true = so in cc);
        table = tt;
        window = sent_may k octets false none puts.window;
      }
  may_act (ToUp k octets) open_yet (inr uses) = record {
    rests = λ e. absurd (let no : false ≡ true = e in cc);
    conduct = record { allowed = record { open_yet = open_yet; turn = uses.nothing }; fit = tt };
    offer = λ another. uses.begins;
    in_turn = tt;
    request = record { open_yet = open_yet; may = inr uses.due };
    additions = tt;
    calls = λ so. absurd (let no : false ≡ true = so in cc);
    table = tt;
    window = sent_may k octets true uses.window.begins uses.window;
  }
  may_act (Close k) open_yet may = record {
    rests = λ e. absurd (let no : false ≡ true = e in cc);
    conduct = record { allowed = record { open_yet = open_yet; turn = may.nothing }; fit = tt };
    offer = tt;
    in_turn = tt;
    request = record { open_yet = open_yet; may = may.may };
    additions = tt;
    calls = λ so. absurd (let no : false ≡ true = so in cc);
    table = tt;
    window = tt;
  }
  may_act CloseClient open_yet may = record {
    rests = λ e. absurd (let no : false ≡ true = e in cc);
    conduct = record { allowed = record { open_yet = open_yet; turn = record { nothing = may.nothing; to_end = may.to_end } }; fit = tt };
    offer = tt;
    in_turn = tt;
    request = record { open_yet = open_yet; may = may.none_open };
    additions = tt;
    calls = λ so. absurd (let no : false ≡ true = so in cc);
    table = tt;
    window = tt;
  }
