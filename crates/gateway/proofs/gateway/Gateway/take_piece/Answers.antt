use Rattle.std.proofs.Common.{rules, ◌≡◌, [], ◌++◌, true, List, ℕ, ap, ◌∙◌, subst, append_assoc}
use Rattle.event_handlers.specs.declared.resting.Onward.{Onward}
use Rattle.event_handlers.specs.declared.resting.Onward.TheVariants.{On, Over}
use Rattle.event_handlers.proofs.Results.{if_ok}
use Rattle.gateway.specs.Receiving.{Receives, is_begun}
use Rattle.gateway.proofs.Joined as joined
use Rattle.gateway.proofs.gateway.Gateway.take_piece.Goals as goal

pub take_behind-requires-in-On-clause-reached : goal.take_behind-requires-in-On-clause-reached
take_behind-requires-in-On-clause-reached c =
    let begun : is_begun c.args.self.now.phase ≡ true = search rules in
    let first : Receives c.args.self.now c.take_behind-2.new.self On c.args.out.now c.take_behind-2.new.out (c.args.self.now.partial ++ c.split_at.result.0.now) =
    subst (λ (went : Onward). Receives c.args.self.now c.take_behind-2.new.self went c.args.out.now c.take_behind-2.new.out (c.args.self.now.partial ++ c.split_at.result.0.now)) c.in-On.is c.in_ok-take_behind.ensures.receives in (
      c.requires.reached.0,
      joined.serves_on _ _ c.in_ok-take_behind.ensures.terms c.requires.reached.0 c.requires.reached.1,
      joined.reached_then _ _ c.args.self.now _ _ c.args.out.now On c.in_ok-take_behind.ensures.terms _ [] begun first c.requires.reached.0 c.requires.reached.1 c.requires.reached.2,
    )

pub returns-in-On-clause-receives : goal.returns-in-On-clause-receives
returns-in-On-clause-receives c =
    let begun : is_begun c.args.self.now.phase ≡ true = search rules in
    let first : Receives c.args.self.now c.take_behind-2.new.self On c.args.out.now c.take_behind-2.new.out (c.args.self.now.partial ++ c.split_at.result.0.now) =
    subst (λ (went : Onward). Receives c.args.self.now c.take_behind-2.new.self went c.args.out.now c.take_behind-2.new.out (c.args.self.now.partial ++ c.split_at.result.0.now)) c.in-On.is c.in_ok-take_behind.ensures.receives in
    let split : c.split_at.result.0.now ++ c.split_at.result.1.now ≡ c.args.piece.now = search rules in
    if_ok c.take_behind-in-On.result
    (λ went receives.
    subst (λ (os : List ℕ). Receives c.args.self.now c.take_behind-in-On.new.self went c.args.out.now c.take_behind-in-On.new.out os)
    (append_assoc c.args.self.now.partial c.split_at.result.0.now c.split_at.result.1.now ∙ ap (λ (os : List ℕ). c.args.self.now.partial ++ os) split)
    (joined.receives_then _ _ _ _ _ _ went c.in_ok-take_behind.ensures.terms (c.args.self.now.partial ++ c.split_at.result.0.now) c.split_at.result.1.now begun first receives))
    c.take_behind-in-On.ensures.receives

pub returns-in-Over-clause-receives : goal.returns-in-Over-clause-receives
returns-in-Over-clause-receives c =
    let begun : is_begun c.args.self.now.phase ≡ true = search rules in
    let first : Receives c.args.self.now c.take_behind-2.new.self Over c.args.out.now c.take_behind-2.new.out (c.args.self.now.partial ++ c.split_at.result.0.now) =
    subst (λ (went : Onward). Receives c.args.self.now c.take_behind-2.new.self went c.args.out.now c.take_behind-2.new.out (c.args.self.now.partial ++ c.split_at.result.0.now)) c.in-Over.is c.in_ok-take_behind.ensures.receives in
    let split : c.split_at.result.0.now ++ c.split_at.result.1.now ≡ c.args.piece.now = search rules in
    subst (λ (os : List ℕ). Receives c.args.self.now c.take_behind-2.new.self Over c.args.out.now c.take_behind-2.new.out os)
    (append_assoc c.args.self.now.partial c.split_at.result.0.now c.split_at.result.1.now ∙ ap (λ (os : List ℕ). c.args.self.now.partial ++ os) split)
    (joined.receives_over c.args.self.now c.take_behind-2.new.self c.args.self.now c.args.out.now c.take_behind-2.new.out c.args.out.now Over c.in_ok-take_behind.ensures.terms (c.args.self.now.partial ++ c.split_at.result.0.now) c.split_at.result.1.now begun first)
