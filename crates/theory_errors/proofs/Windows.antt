-- DATA that goes out within the windows that the summary tells goes out within those of the tape.
use Rattle.std.proofs.Common.{◌≡◌, ◌<◌, List, ◌∷◌, length}
use Rattle.model.specs.Frames.{data_kind}
use Rattle.model.specs.Tapes.{Noted, Entry}
use Rattle.model.specs.Tapes.Entry.{Sent}
use Rattle.model.specs.Known.{Known}
use Rattle.model.specs.WindowClause.{KeepsWindows}
use Rattle.theory_errors.specs.Summary.{summary_of}
use Rattle.theory_errors.specs.Windows.{FitsWindows}

pub keeps_more : (known : Known) (t : List Entry) (noted : Noted) → KeepsWindows t → (noted.frame.kind ≡ data_kind → 0 < length noted.frame.payload → FitsWindows (summary_of known t) noted.frame) → KeepsWindows (Sent noted ∷ t)
keeps_more known t noted kept may =
    ((λ kind some. let fits : FitsWindows (summary_of known t) noted.frame = may kind some in record { own = fits.own; shared = fits.shared }), kept)
