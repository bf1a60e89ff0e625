use Rattle.std.proofs.Common.{rules, ◌≡◌, true, false, [], ◌++◌, List, ℕ, ap, subst, sym, ◌∙◌}
use Rattle.h1_writer.specs.Sending.{Stage, Continues}
use Rattle.request_buffer.specs.Going.{MayGo, GoesOn}
use Rattle.request_buffer.proofs.Passing as laws
use Rattle.request_buffer.proofs.going.Going.pass.Goals as goal

pub returns-then-not-ends : goal.returns-then-not-ends
returns-then-not-ends c =
    let ends : c.args.ends ≡ false = search rules in
    let pushed : Continues c.args.self.now (c.in_ok-push.ensures.ok).0 c.args.octets.now [] c.push.new.self =
    subst (λ (s : Stage). Continues s (c.in_ok-push.ensures.ok).0 c.args.octets.now [] c.push.new.self) c.self.view_is (c.in_ok-push.ensures.ok).2 in
    let text : c.push.new.out.items ≡ (c.in_ok-push.ensures.ok).0 = (c.in_ok-push.ensures.ok).1 ∙ ap (λ (os : List ℕ). os ++ (c.in_ok-push.ensures.ok).0) c.in_ok-text.ensures.items in
    subst (λ (os : List ℕ). GoesOn c.args.self.now c.args.octets.now c.args.trailers.now c.args.ends os c.push.new.self) (sym text)
    (laws.goes_on c.args.self.now c.push.new.self c.args.octets.now (c.in_ok-push.ensures.ok).0 c.args.trailers.now c.args.ends ends pushed (search rules))

pub finish-requires : goal.finish-requires
finish-requires c =
    let ends : c.args.ends ≡ true = search rules in
    let pushed : Continues c.args.self.now (c.in_ok-push.ensures.ok).0 c.args.octets.now [] c.push.new.self =
    subst (λ (s : Stage). Continues s (c.in_ok-push.ensures.ok).0 c.args.octets.now [] c.push.new.self) c.self.view_is (c.in_ok-push.ensures.ok).2 in
    laws.may_finish c.args.self.now c.push.new.self c.args.octets.now (c.in_ok-push.ensures.ok).0 (subst (λ b. MayGo c.args.self.now c.args.octets.now b) ends c.requires) pushed (search rules)

pub returns : goal.returns
returns c =
    let ends : c.args.ends ≡ true = search rules in
    let pushed : Continues c.args.self.now (c.in_ok-push.ensures.ok).0 c.args.octets.now [] c.push.new.self =
    subst (λ (s : Stage). Continues s (c.in_ok-push.ensures.ok).0 c.args.octets.now [] c.push.new.self) c.self.view_is (c.in_ok-push.ensures.ok).2 in
    let ended : Continues c.push.new.self (c.in_ok-finish.ensures.ok).0 [] c.args.trailers.now c.finish.new.self = (c.in_ok-finish.ensures.ok).2 in
    let first : c.push.new.out.items ≡ (c.in_ok-push.ensures.ok).0 = (c.in_ok-push.ensures.ok).1 ∙ ap (λ (os : List ℕ). os ++ (c.in_ok-push.ensures.ok).0) c.in_ok-text.ensures.items in
    let text : c.finish.new.out.items ≡ (c.in_ok-push.ensures.ok).0 ++ (c.in_ok-finish.ensures.ok).0 = (c.in_ok-finish.ensures.ok).1 ∙ ap (λ (os : List ℕ). os ++ (c.in_ok-finish.ensures.ok).0) first in
    subst (λ (os : List ℕ). GoesOn c.args.self.now c.args.octets.now c.args.trailers.now c.args.ends os c.finish.new.self) (sym text)
    (laws.goes_out c.args.self.now c.push.new.self c.finish.new.self c.args.octets.now (c.in_ok-push.ensures.ok).0 (c.in_ok-finish.ensures.ok).0 c.args.trailers.now c.args.ends ends pushed ended c.in_ok-finish.ensures.whole)
