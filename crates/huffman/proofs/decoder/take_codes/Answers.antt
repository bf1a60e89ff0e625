use Rattle.std.proofs.Common.{ℕ, ◌-◌, ◌/◌, ◌^◌, subst}
use Rattle.model.specs.Huffman.{bits}
use Rattle.huffman.specs.Fronts.{StandFor}
use Rattle.huffman.proofs.DecodeLemmas.{stops_at_end, takes_more}
use Rattle.huffman.proofs.UpcomingLemmas.{past_front}
use Rattle.huffman.proofs.decoder.take_codes.Goals as goal

pub returns-in_default-symbol-clause-stops : goal.returns-in_default-symbol-clause-stops
returns-in_default-symbol-clause-stops c =
    let width : ℕ = c.in-Some.code.width in
    let front = c.in-Some.ensures.some in
    let is_code = subst (λ s. StandFor (bits width (c.loop-code.rest.number / 2 ^ (64 - width))) s) c.in_default-symbol.is front.front.stand in
    stops_at_end c.args.all c.loop-code.rest width _ c.args.out.now.items c.loop-code.out.items c.loop-code.invariant is_code (past_front c.loop-code.rest width c.loop-code.invariant.aligned front.whole)

pub loop-code-preserved : goal.loop-code-preserved
loop-code-preserved c =
    let width : ℕ = c.in-Some.code.width in
    let front = c.in-Some.ensures.some in
    let is_code = subst (λ s. StandFor (bits width (c.loop-code.rest.number / 2 ^ (64 - width))) s) c.in-Octet.is front.front.stand in
    takes_more c.args.all c.loop-code.rest c.past-rest.result c.in-Octet.octet width c.args.out.now.items c.loop-code.out.items c.push.new.self.items c.loop-code.invariant is_code.0 is_code.1
    c.past-rest.ensures.bits c.past-rest.ensures.aligned c.in_ok-push.ensures.items
