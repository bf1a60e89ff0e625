use Rattle.std.proofs.Common.{◌≡◌, ◌≤◌, ◌∷◌, length, Some, ap, sym, ◌∙◌, subst}
use Rattle.hpack_table.specs.Ringed.{fields_in}
use Rattle.hpack_table.proofs.Popped.{popped, turned}
use Rattle.hpack_table.proofs.ring.Ring.turn.Goals as goal

pub returns : goal.returns
returns c =
    let old = c.in-Some.buffer.items in
    let rest = c.pop_back.new.self.items in
    let oldest = c.in-Some-pop_back.oldest in
    let is : c.args.self.now ≡ old = sym c.self.view_is ∙ ap fields_in c.in-Some.is in
    let taken = c.in-Some-pop_back.ensures in
    let split = popped (Some oldest) old rest taken.value (ap (λ b. b.items) taken.items) in
    let within : length old ≤ c.pop_back.new.self.capacity = subst (λ n. length old ≤ n) (sym (ap (λ b. b.capacity) taken.items)) (subst (λ n. n ≤ c.in-Some.buffer.capacity) c.len.ensures.len c.len.ensures.within.0) in
    ap (λ fields. c.args.field ∷ fields) is ∙ turned c.pop_back.new.self.capacity c.args.field oldest old rest c.push_front.new.self.items split within (ap (λ b. b.items) c.push_front.ensures.items)
