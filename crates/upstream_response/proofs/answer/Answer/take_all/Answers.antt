use Rattle.std.proofs.Common.{◌≡◌, List, [], ◌∷◌, ◌++◌, sym, ap, subst}
use Rattle.std.proofs.lemmas.List.{map-append}
use Rattle.theory_responses.specs.Outbox.{grown}
use Rattle.h1_reader.specs.Parts.{Part}
use Rattle.h1_reader.specs.Views.{part_of, parts_of}
use Rattle.upstream_response.specs.Telling.{head_of, body_of, trailers_of}
use Rattle.upstream_response.specs.Waiting.{passing_in, waiting, news_at_once}
use Rattle.upstream_response.proofs.Pieces.{waits_more, offers_more}
use Rattle.upstream_response.proofs.Told.{waited}
use Rattle.upstream_response.proofs.answer.Answer.take_all.Goals as goal

pub loop-piece-preserved : goal.loop-piece-preserved
loop-piece-preserved c =
    let parts : List Part = parts_of c.loop-piece.yielded in
    let more : parts_of (c.loop-piece.yielded ++ c.in-Some.piece ∷ []) ≡ parts ++ part_of c.in-Some.piece ∷ [] = map-append part_of c.loop-piece.yielded (c.in-Some.piece ∷ []) in
    let way = ap passing_in (waited c.args.self.now.way c.args.self.now c.loop-piece.self c.args.self.now.reader (head_of parts) (body_of parts) (trailers_of parts) c.loop-piece.invariant.waits).1 in
    record {
      waits = subst (λ ps. c.take.new.self ≡ waiting (passing_in c.args.self.now.way) c.args.self.now (head_of ps) (body_of ps) (trailers_of ps)) (sym more)
          (waits_more (passing_in c.args.self.now.way) c.args.self.now c.loop-piece.self c.take.new.self parts (part_of c.in-Some.piece ∷ []) way c.loop-piece.invariant.waits c.in_ok-take.ensures.waits);
      offers = subst (λ ps. c.take.new.outbox ≡ grown c.args.outbox.now (news_at_once (passing_in c.args.self.now.way) ps)) (sym more)
          (offers_more (passing_in c.args.self.now.way) c.args.outbox.now c.loop-piece.outbox c.take.new.outbox parts (part_of c.in-Some.piece ∷ []) c.loop-piece.invariant.offers (subst (λ p. c.take.new.outbox ≡ grown c.loop-piece.outbox (news_at_once p (part_of c.in-Some.piece ∷ []))) way c.in_ok-take.ensures.offers));
    }
