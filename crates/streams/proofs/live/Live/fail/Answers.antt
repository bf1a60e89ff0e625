use Rattle.std.proofs.Common.{ap, []}
use Rattle.theory_errors.specs.Summary.{Outline}
use Rattle.streams.specs.Views.{kept_of}
use Rattle.streams.proofs.live.Live.fail.Goals as goal

-- only its course is new
pub returns : goal.returns
returns c = rw (← c.self.view_is) (ap (λ (b : Outline). record (kept_of c.self.inside) { outline = b }) (c.replied-self-inside.ensures []))
