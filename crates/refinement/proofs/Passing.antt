-- Frames of responses may go out, and the connection goes on.
use Rattle.std.proofs.Common.{◌≡◌, ◌==◌, ◌&&◌, ◌||◌, Bool, true, false, not, refl, sym, ◌∙◌, ap, subst, inl, inr}
use Rattle.model.specs.Messages.{Item}
use Rattle.model.specs.Frames.{window_update_kind}
use Rattle.model.specs.Setup.{Setup}
use Rattle.model.specs.Tables.{Table}
use Rattle.model.specs.Tapes.{Noted}
use Rattle.theory_errors.specs.Summary.{Summary}
use Rattle.theory_errors.proofs.Goaways.{passing_calmless}
use Rattle.theory_responses.specs.Outbox.{Part}
use Rattle.theory_responses.specs.Sight.{sight_in}
use Rattle.theory_receive_windows.specs.Rule as windows
use Rattle.theory.specs.Moves.{given_or_sent}
use Rattle.theory.specs.Moves.Decision.{Sends, Goes}
use Rattle.theory.specs.Moves.Move.{Does}
use Rattle.theory.specs.State.{State, gates_in}
use Rattle.theory.specs.Rule.{rooms_in, MayDo}
use Rattle.theory.specs.Steps.{told_by, told_behind, MayGoOn}
use Rattle.refinement.specs.Passing.{PartGoes, FragmentGoes}

twice_not : (b : Bool) → b ≡ not (not b)
twice_not true = refl
twice_not false = refl

module _ (setup : Setup) (s : State) (behind : Summary) (noted : Noted) (next : Table) where
  other_window : (noted.frame.kind == window_update_kind) ≡ false → windows.MayCome setup.passing (gates_in (told_by s) s.requests) (sight_in (told_by s)) (sight_in behind) (rooms_in (told_by s) s) (given_or_sent (noted.frame.kind == window_update_kind) (sight_in (told_by s)) (sight_in behind) noted)
  other_window no_update =
      subst (λ b. windows.MayCome setup.passing (gates_in (told_by s) s.requests) (sight_in (told_by s)) (sight_in behind) (rooms_in (told_by s) s) (given_or_sent b (sight_in (told_by s)) (sight_in behind) noted)) (sym no_update)
      (record { kind = no_update; over_with_it = refl })

  may_part : (item : Item) (part : Part) → PartGoes s noted item part next → MayDo setup (told_by s) behind s (Goes noted item part next)
  may_part item part p =
      let m = p.may in
      record {
        rests = λ e. absurd (let no : false ≡ true = e in cc);
        conduct = record { allowed = record { open_yet = m.open_yet; turn = inr (inl (record { nothing = m.nothing; goes_on = m.goes_on; passing = m.passing; rightly = m.rightly })) }; fit = m.not_to_open };
        offer = (p.goes, record { active = twice_not ((sight_in behind).active noted.frame.id); brings = p.brings });
        in_turn = m.in_turn;
        request = record { open_yet = m.open_yet; may = inl m.nothing_due };
        additions = tt;
        calls = λ calmly. absurd (let none : true ≡ false = sym calmly ∙ ap (λ b. b && not s.ledger.book.ends) (passing_calmless noted m.passing) in cc);
        table = m.table;
        window = other_window m.no_update;
      }

  may_fragment : FragmentGoes s noted next → MayDo setup (told_by s) behind s (Sends noted next)
  may_fragment p =
      let m = p.may in
      record {
        rests = λ e. absurd (let no : false ≡ true = e in cc);
        conduct = record { allowed = record { open_yet = m.open_yet; turn = inr (inl (record { nothing = m.nothing; goes_on = m.goes_on; passing = m.passing; rightly = m.rightly })) }; fit = m.not_to_open };
        offer = record { no_block = p.goes_on; no_data = p.no_data };
        in_turn = m.in_turn;
        request = record { open_yet = m.open_yet; may = inl m.nothing_due };
        additions = tt;
        calls = λ calmly. absurd (let none : true ≡ false = sym calmly ∙ ap (λ b. b && not s.ledger.book.ends) (passing_calmless noted m.passing) in cc);
        table = m.table;
        window = other_window m.no_update;
      }

-- A part goes, and the connection goes on where it did.
pub part_goes_on : (setup : Setup) (s : State) (noted : Noted) (item : Item) (part : Part) (next : Table) → s.ledger.book.ends ≡ false → PartGoes s noted item part next → MayGoOn setup s (Does (Goes noted item part next))
part_goes_on setup s noted item part next on p = (ap (λ b. b || s.ledger.book.ends) (passing_calmless noted p.may.passing) ∙ on, may_part setup s (told_behind setup s (Goes noted item part next)) noted next item part p)

-- So does a frame of a header block that goes on.
pub fragment_goes_on : (setup : Setup) (s : State) (noted : Noted) (next : Table) → s.ledger.book.ends ≡ false → FragmentGoes s noted next → MayGoOn setup s (Does (Sends noted next))
fragment_goes_on setup s noted next on p = (ap (λ b. b || s.ledger.book.ends) (passing_calmless noted p.may.passing) ∙ on, may_fragment setup s (told_behind setup s (Sends noted next)) noted next p)
