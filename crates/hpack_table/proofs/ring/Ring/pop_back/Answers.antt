use Rattle.std.proofs.Common.{◌≡◌, ap, sym, ◌∙◌}
use Rattle.hpack_table.specs.Ringed.{fields_in}
use Rattle.hpack_table.proofs.Popped.{popped}
use Rattle.hpack_table.proofs.ring.Ring.pop_back.Goals as goal

pub returns : goal.returns
returns c =
    let is : c.args.self.now ≡ c.in-Some.buffer.items = sym c.self.view_is ∙ ap fields_in c.in-Some.is in
    rw is (popped c.pop_back.result c.in-Some.buffer.items c.pop_back.new.self.items c.pop_back.ensures.value (ap (λ b. b.items) c.pop_back.ensures.items))
