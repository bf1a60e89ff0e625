use Rattle.std.proofs.Common.{◌≡◌, ◌+◌, ◌-◌, ◌^◌, ◌≤◌, List, [], ℕ, length, min, take, drop, sym, ap, ◌∙◌, arith, subst}
use Rattle.std.proofs.lemmas.Grind.{common_steps}
use Rattle.std.specs.Io.KnownBytes.{Appends}
use Rattle.socket_io.specs.Transfers.{Passes}
use Rattle.socket_io.proofs.Passing.{went_on}
use Rattle.socket_io.proofs.outgoing.Outgoing.flush.Goals as goal

rest_of : (xs ys ws : List ℕ) (s : ℕ) → xs ≡ ys → drop s ys ≡ ws → take (length xs - s) (drop s xs) ≡ ws
rest_of xs ys ws s same rest = grind (arith, common_steps)

behind : (xs ws : List ℕ) (s n : ℕ) → drop s xs ≡ ws → drop (s + n) xs ≡ drop n ws
behind xs ws s n rest = grind (arith, common_steps)

pub returns-clause-passes : goal.returns-clause-passes
returns-clause-passes g c =
    let n = c.in_ok-taken.taken in
    let start = c.self.inside.start in
    let waiting : drop start c.self.inside.octets.items ≡ c.args.self.now.waiting = ap (λ w. w.waiting) c.self.view_is in
    let written : take (length c.deref.result.now - start) (drop start c.deref.result.now) ≡ c.args.self.now.waiting =
    rest_of c.deref.result.now c.self.inside.octets.items c.args.self.now.waiting start c.deref.ensures.value waiting in
    subst (λ new. Passes (g.S.Socket.held c.args.socket.now) (g.S.Socket.held c.write_some.new.socket) c.args.self.now [] new) (sym c.give_back.ensures)
    (went_on _ _ c.args.self.now _ n
    (subst (λ ws. n ≤ length ws) written c.in_ok-taken.ensures.within)
    (subst (λ ws. Appends (g.S.Socket.held c.args.socket.now) (g.S.Socket.held c.write_some.new.socket) (take n ws)) written c.in_ok-taken.ensures.written)
    (behind c.self.inside.octets.items c.args.self.now.waiting start n waiting)
    (c.saturating_add-self-inside.ensures ∙ ap (λ u. min (u + n) (2 ^ 64 - 1)) (ap (λ w. w.untold) c.self.view_is)))
