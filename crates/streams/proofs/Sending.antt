-- A stream behind a step holds what it should.
use Rattle.std.proofs.Common.{◌≡◌, true, false, [], Some}
use Rattle.model.specs.Causes.Cause.{BadAnswer}
use Rattle.theory_errors.specs.Summary.{Stream as Kept}
use Rattle.theory_errors.specs.Judging.{is_over_in}
use Rattle.theory_errors.specs.Rows.Slot.{Live as Active}
use Rattle.theory_errors.specs.Tidy.{IsSteady, IsTidy}
use Rattle.theory_errors.proofs.Elsewhere.{steady_behind}
use Rattle.streams.specs.declared.steps.StreamStep.{StreamStep}
use Rattle.streams.specs.declared.steps.StreamStep.TheVariants.{Head, Data, GivenBack, Failed}
use Rattle.streams.specs.Sending.{stepped}

-- its course stays steady
stepped_steady : (step : StreamStep) (kept : Kept) → IsSteady kept.outline → IsSteady (stepped step kept).outline
stepped_steady (Head is_final ends) kept is = is
stepped_steady (Data octets ends) kept is = is
stepped_steady (GivenBack octets) kept is = is
stepped_steady Failed kept is = steady_behind kept.outline true [] (Some BadAnswer) kept.head_out

pub stepped_tidy : (step : StreamStep) (kept : Kept) → is_over_in (stepped step kept) ≡ false → IsTidy (Active kept) → IsTidy (Active (stepped step kept))
stepped_tidy step kept goes_on tidy = (goes_on, stepped_steady step kept tidy.1)
