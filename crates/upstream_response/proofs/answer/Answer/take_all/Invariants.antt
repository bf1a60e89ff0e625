use Rattle.std.proofs.Common.{◌≡◌}
use Rattle.theory_responses.specs.Outbox.{grown}
use Rattle.h1_reader.specs.Views.{parts_of}
use Rattle.upstream_response.specs.Telling.{head_of, body_of, trailers_of}
use Rattle.upstream_response.specs.Waiting.{passing_in, waiting, news_at_once}
use Rattle.upstream_response.proofs.answer.Answer.take_all.Given as goal

abbrev pub invariant-loop-piece : goal.invariant-loop-piece
invariant-loop-piece l = record {
  waits : l.self ≡ waiting (passing_in l.fn.self.way) l.fn.self (head_of (parts_of l.yielded)) (body_of (parts_of l.yielded)) (trailers_of (parts_of l.yielded));
  offers : l.outbox ≡ grown l.fn.outbox (news_at_once (passing_in l.fn.self.way) (parts_of l.yielded));
}
