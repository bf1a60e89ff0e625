-- What is kept once a stream is over.
use Rattle.std.specs.Prelude.{ℕ}
use Rattle.theory_responses.specs.State as theory_responses
use Rattle.theory_requests.specs.Lines.{without}
use Rattle.theory_requests.specs.State.{id_of}
use Rattle.window_credit.specs.Sides as marks
use Rattle.refinement.specs.View.{View}

-- nothing of the stream: neither what is on offer for it, nor of its request, nor of its DATA
abbrev pub forgotten : ℕ → View → View
forgotten id kept = record kept {
  offers = record kept.offers { kept = theory_responses.without id kept.offers.kept };
  upstreams = record kept.upstreams { held = without id_of id kept.upstreams.held };
  marks = marks.without id kept.marks;
}
