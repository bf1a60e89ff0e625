use Rattle.std.proofs.Common.{◌≡◌, drop, true, Some, sym, ap, ◌∙◌, subst, ℤ, w64, to_z, of_z}
use Rattle.std.proofs.lemmas.Int.{to_z-of_z}
use Rattle.theory_responses.specs.State.{Windows, is_ready}
use Rattle.send_queue.specs.Asked.{windows_over, first_ready}
use Rattle.send_queue.proofs.Readying.{walks_on, walk_ends, walk_ends_empty}
use Rattle.send_queue.proofs.turns.first_ready.Goals as goal

pub returns-then-is_ready : goal.returns-then-is_ready
returns-then-is_ready c =
    let same : to_z w64 (of_z w64 c.args.shared) ≡ c.args.shared = to_z-of_z w64 c.args.shared c.ranges.shared in
    let windows : ℤ → Windows = λ z. windows_over c.args.streams.now c.args.first_size z in
    let ready : is_ready (windows c.args.shared) c.stream-item.result ≡ true = ap (λ z. is_ready (windows z) c.stream-item.result) (sym same) ∙ sym c.is_ready.ensures ∙ c.if-is_ready.true in
    let walked = subst (λ z. first_ready (windows z) (drop c.loop-stream.stream-index c.args.kept.now) ≡ first_ready (windows z) c.args.kept.now) same c.loop-stream.invariant in
    ap Some c.id.ensures ∙ walk_ends (windows c.args.shared) c.args.kept.now c.loop-stream.stream-index c.stream-item.result c.loop-stream-test.true c.stream-item.is ready walked

pub loop-stream-preserved : goal.loop-stream-preserved
loop-stream-preserved c =
    walks_on (windows_over c.args.streams.now c.args.first_size (to_z w64 (of_z w64 c.args.shared))) c.args.kept.now c.loop-stream.stream-index c.stream-item.result c.loop-stream-test.true c.stream-item.is (sym c.is_ready.ensures ∙ c.if-is_ready.false) c.loop-stream.invariant

pub returns : goal.returns
returns c =
    let same : to_z w64 (of_z w64 c.args.shared) ≡ c.args.shared = to_z-of_z w64 c.args.shared c.ranges.shared in
    let windows : ℤ → Windows = λ z. windows_over c.args.streams.now c.args.first_size z in
    let walked = subst (λ z. first_ready (windows z) (drop c.loop-stream.stream-index c.args.kept.now) ≡ first_ready (windows z) c.args.kept.now) same c.loop-stream.invariant in
    walk_ends_empty (windows c.args.shared) c.args.kept.now c.loop-stream.stream-index c.loop-stream-test.false walked
