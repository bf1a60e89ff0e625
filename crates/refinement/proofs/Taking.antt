-- A frame of the client that is no error of the connection may come where the gateway rests, and the connection goes on.
use Rattle.std.proofs.Common.{◌≡◌, Bool, true, false, Option, Some, None, refl, sym, ◌∙◌}
use Rattle.std.specs.Prelude.{is_some}
use Rattle.model.specs.Setup.{Setup}
use Rattle.model.specs.Tables.{Table}
use Rattle.model.specs.Tapes.{Note, Noted}
use Rattle.model.specs.Tapes.Note.{NoBlock, Fields, Undecodable, Unread}
use Rattle.model.specs.Tapes.Entry.{Came}
use Rattle.model.specs.Decoding.{Partial, is_read}
use Rattle.model.specs.Errors.{first_of}
use Rattle.theory_errors.specs.Judging.{completed_in, rows_before_block_in}
use Rattle.theory_errors.specs.Book.{IsFit, is_told}
use Rattle.theory_errors.proofs.Calm.{fatal_before_block}
use Rattle.theory_header_tables.specs.Rule.{IsNoted}
use Rattle.theory.specs.Moves.{Addition}
use Rattle.theory.specs.Moves.Decision.{Takes}
use Rattle.theory.specs.Moves.Move.{Does}
use Rattle.theory.specs.State.{State}
use Rattle.theory.specs.Coming.{IsReady}
use Rattle.theory.specs.Steps.{told_by, MayGoOn}
use Rattle.theory.proofs.Coming.{may_take_by_book}
use Rattle.refinement.specs.Taking.{IsFrameTaken}

module _ (setup : Setup) (s : State) (ready : IsReady s) (noted : Noted) (next : Table) (addition : Addition) (taken : IsFrameTaken setup s noted next addition) where
  abbrev error : Bool
  error = is_some (first_of (rows_before_block_in (told_by s) noted.frame))

  no_error : error ≡ false
  no_error = by error refl
    where
      by : (b : Bool) → error ≡ b → error ≡ false
      by false is = is
      by true is = absurd (let no : true ≡ false = sym (fatal_before_block (told_by s) noted is) ∙ taken.mild in cc)

  -- the note says what its block is
  told_so : (block : Option Partial) (wrong : Bool) (note : Note) → wrong ≡ false → IsNoted block wrong s.tables.decoding note next → (is_read note ≡ false → wrong ≡ true) → is_some block ≡ true → is_told note ≡ true
  told_so None wrong note right is read some = cc
  told_so (Some block) true note right is read some = cc
  told_so (Some block) false NoBlock right is read some = absurd is
  told_so (Some block) false (Fields fields) right is read some = refl
  told_so (Some block) false Undecodable right is read some = refl
  told_so (Some block) false Unread right is read some = absurd (let no : false ≡ true = read refl in cc)

  fit : IsFit false (told_by s) (Came noted)
  fit = λ mild some. told_so (completed_in (told_by s).block noted.frame) error noted.note no_error taken.noted_right.is_noted taken.read some

  pub taken_goes_on : MayGoOn setup s (Does (Takes noted next addition))
  taken_goes_on = (taken.mild, may_take_by_book setup s ready noted next addition (record { fit = fit; noted_right = taken.noted_right; gained = taken.gained }))
