use Rattle.std.proofs.Common.{rules, ◌≡◌, [], ◌++◌, ap, ◌∙◌, append_assoc, subst, false, ℕ, List}
use Rattle.h1_writer.specs.Sending.{Continues}
use Rattle.h1_writer.specs.Sending.Stage.{Whole}
use Rattle.request_buffer.proofs.Ending as laws
use Rattle.request_buffer.proofs.buffered_request.end_text.Goals as goal

pub finish-requires : goal.finish-requires
finish-requires c =
    let pushed : Continues c.args.sender (c.in_ok-push.ensures.ok).0 c.args.body.now [] c.push.new.self = (c.in_ok-push.ensures.ok).2 in
    let on : c.push.new.self ≡ Whole → ⊥ = search rules in
    laws.may_finish c.requires.keep c.requires.parts (c.args.head.items ++ (c.in_ok-push.ensures.ok).0) c.push.new.self c.args.body.now (pushed c.requires.keep c.requires.parts false c.args.head.items [] c.requires.sending) on c.requires.has_length

pub returns : goal.returns
returns c =
    let pushed : Continues c.args.sender (c.in_ok-push.ensures.ok).0 c.args.body.now [] c.push.new.self = (c.in_ok-push.ensures.ok).2 in
    let ended : Continues c.push.new.self (c.in_ok-finish.ensures.ok).0 [] c.args.trailers.now Whole =
    subst (λ s. Continues c.push.new.self (c.in_ok-finish.ensures.ok).0 [] c.args.trailers.now s) c.in_ok-finish.ensures.whole (c.in_ok-finish.ensures.ok).2 in
    let head : c.reserve.new.self.items ≡ c.args.head.items = search rules in (
      (c.in_ok-push.ensures.ok).0 ++ (c.in_ok-finish.ensures.ok).0,
      (c.in_ok-finish.ensures.ok).1 ∙ ap (λ (os : List ℕ). os ++ (c.in_ok-finish.ensures.ok).0) (c.in_ok-push.ensures.ok).1 ∙ append_assoc c.reserve.new.self.items (c.in_ok-push.ensures.ok).0 (c.in_ok-finish.ensures.ok).0
          ∙ ap (λ (os : List ℕ). os ++ ((c.in_ok-push.ensures.ok).0 ++ (c.in_ok-finish.ensures.ok).0)) head,
      laws.both c.args.sender c.push.new.self Whole (c.in_ok-push.ensures.ok).0 (c.in_ok-finish.ensures.ok).0 c.args.body.now c.args.trailers.now pushed ended,
    )
