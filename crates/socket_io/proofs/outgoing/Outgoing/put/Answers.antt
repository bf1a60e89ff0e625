use Rattle.std.proofs.Common.{◌≡◌, ◌<◌, ◌+◌, ◌-◌, ◌^◌, ◌++◌, List, ℕ, min, length, take, drop, ap, ◌∙◌, arith}
use Rattle.std.proofs.lemmas.Grind.{common_steps}
use Rattle.socket_io.proofs.Passing.{put_out, lost_rest}
use Rattle.socket_io.proofs.outgoing.Outgoing.put.Goals as goal

rest_waits : (xs ws os : List ℕ) (s n : ℕ) → drop s xs ≡ ws → drop s xs ++ take (length os - n) (drop n os) ≡ ws ++ drop n os
rest_waits xs ws os s n rest = grind (arith, common_steps)

some_rest : (os : List ℕ) (n : ℕ) → 0 < length (take (length os - n) (drop n os)) → 0 < length (drop n os)
some_rest os n some = grind (arith, common_steps)

pub returns-clause-passes : goal.returns-clause-passes
returns-clause-passes g c =
    let n = c.in-Ok.taken in
    put_out _ _ c.args.self.now c.gather.new.self c.args.octets.now n c.in-Ok.ensures.within c.in-Ok.ensures.behind c.in-Ok.ensures.written
    (ap (λ w. w.waiting) c.in_ok-gather.ensures.gathered ∙ rest_waits c.self.inside.octets.items c.args.self.now.waiting c.args.octets.now c.self.inside.start n (ap (λ w. w.waiting) c.self.view_is))
    (ap (λ w. w.untold) c.in_ok-gather.ensures.gathered ∙ c.saturating_add-self-inside.ensures ∙ ap (λ u. min (u + n) (2 ^ 64 - 1)) (ap (λ w. w.untold) c.self.view_is))

pub returns-in_err-gather-clause-refused : goal.returns-in_err-gather-clause-refused
returns-in_err-gather-clause-refused g c _ =
    let n = c.in-Ok.taken in
    lost_rest _ _ c.args.self.now c.gather.new.self c.args.octets.now n c.in-Ok.ensures.within c.in-Ok.ensures.behind c.in-Ok.ensures.written
    (some_rest c.args.octets.now n c.in_err-gather.ensures.needed)
    (ap (λ w. w.waiting) c.in_err-gather.ensures.refused ∙ ap (λ w. w.waiting) c.self.view_is)
    (ap (λ w. w.untold) c.in_err-gather.ensures.refused ∙ c.saturating_add-self-inside.ensures ∙ ap (λ u. min (u + n) (2 ^ 64 - 1)) (ap (λ w. w.untold) c.self.view_is))
