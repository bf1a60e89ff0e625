use Rattle.std.proofs.Common.{◌≡◌, ◌≤◌, ◌<◌, ◌+◌, ◌-◌, ◌++◌, length, length-append, ◌∙◌, subst, rules, arith, List, ℕ}
use Rattle.model.specs.ResponseHeads.{named_by_connection, Interim}
use Rattle.response_texts.specs.Heads.{IsFinalRead}
use Rattle.response_texts.specs.Framings.{framing_view}
use Rattle.response_texts.proofs.FrontLemmas.{ends_in}
use Rattle.response_texts.proofs.FaultReads.{reach, head_in_whole, long_head}
use Rattle.response_texts.proofs.front.read_behind.Goals as goal

pub returns-then-taken-octets : goal.returns-then-taken-octets
returns-then-taken-octets c =
    let counted : c.len-before.result ≡ length c.args.held.items = search rules in
    let less : c.min-taken.result < length c.args.octets.now = c.if-taken-octets.true in
    let low : length c.args.held.items ≤ 16384 = c.requires.short in
    let read = rw c.in-Ok-More.field-0-is at c.in-Ok-More.ensures in
    let there = reach c.args.held.items c.args.octets.now c.deref.result.now c.len-before.result c.min-taken.result counted (omega arith) (omega (arith, c.min-taken.ensures)) (omega (arith, c.min-taken.ensures)) (λ less. omega (arith, c.min-taken.ensures))
    (c.deref.ensures.value ∙ c.in_ok-extend_from_slice.ensures.items) in
    let sum : length (c.args.held.items ++ c.args.octets.now) ≡ length c.args.held.items + length c.args.octets.now = length-append c.args.held.items c.args.octets.now in
    let full : c.min-taken.result ≡ 16384 - c.len-before.result = omega (arith, c.min-taken.ensures) in
    λ _. long_head c.args.to_head (c.args.held.items ++ c.args.octets.now) c.deref.result.now _ there (omega arith) read.0 read.1

pub overflow_sub-result : goal.overflow_sub-result
overflow_sub-result c =
    let counted : c.len-before.result ≡ length c.args.held.items = search rules in
    let read = rw c.in-Ok-Interim.field-0-is at c.in-Ok-Interim.ensures in
    let ends = ends_in c.args.held.items c.args.octets.now c.deref.result.now c.len-before.result c.min-taken.result c.in-Ok-Interim.used _ c.requires.none counted (omega (arith, c.min-taken.ensures))
    (c.deref.ensures.value ∙ c.in_ok-extend_from_slice.ensures.items) read.0 read.1.taken.reads in
    let more : c.len-before.result < c.in-Ok-Interim.used = ends.more in
    omega arith

pub overflow_sub-result-in-Ok-Final : goal.overflow_sub-result-in-Ok-Final
overflow_sub-result-in-Ok-Final c =
    let counted : c.len-before.result ≡ length c.args.held.items = search rules in
    let read = rw c.in-Ok-Final.field-0-is at c.in-Ok-Final.ensures in
    let ends = ends_in c.args.held.items c.args.octets.now c.deref.result.now c.len-before.result c.min-taken.result c.in-Ok-Final.used _ c.requires.none counted (omega (arith, c.min-taken.ensures))
    (c.deref.ensures.value ∙ c.in_ok-extend_from_slice.ensures.items) read.0 read.1.0.taken.reads in
    let more : c.len-before.result < c.in-Ok-Final.used = ends.more in
    omega arith

pub returns-in-Ok-Interim : goal.returns-in-Ok-Interim
returns-in-Ok-Interim c =
    let counted : c.len-before.result ≡ length c.args.held.items = search rules in
    let read = rw c.in-Ok-Interim.field-0-is at c.in-Ok-Interim.ensures in
    let ends = ends_in c.args.held.items c.args.octets.now c.deref.result.now c.len-before.result c.min-taken.result c.in-Ok-Interim.used _ c.requires.none counted (omega (arith, c.min-taken.ensures))
    (c.deref.ensures.value ∙ c.in_ok-extend_from_slice.ensures.items) read.0 read.1.taken.reads in
    let more : c.len-before.result < c.in-Ok-Interim.used = ends.more in
    (omega arith, ends.fits, subst (λ (o : List ℕ). Interim o c.in-Ok-Interim.head) ends.is read.1)

pub returns-in-Ok-Final : goal.returns-in-Ok-Final
returns-in-Ok-Final c =
    let counted : c.len-before.result ≡ length c.args.held.items = search rules in
    let read = rw c.in-Ok-Final.field-0-is at c.in-Ok-Final.ensures in
    let ends = ends_in c.args.held.items c.args.octets.now c.deref.result.now c.len-before.result c.min-taken.result c.in-Ok-Final.used _ c.requires.none counted (omega (arith, c.min-taken.ensures))
    (c.deref.ensures.value ∙ c.in_ok-extend_from_slice.ensures.items) read.0 read.1.0.taken.reads in
    let more : c.len-before.result < c.in-Ok-Final.used = ends.more in
    (omega arith, ends.fits, subst (λ (o : List ℕ). IsFinalRead c.args.to_head o c.in-Ok-Final.head (framing_view (named_by_connection c.in-Ok-Final.connections.items) c.in-Ok-Final.framing) c.in-Ok-Final.stays) ends.is read.1, read.2)

pub returns-in-Err : goal.returns-in-Err
returns-in-Err c =
    let counted : c.len-before.result ≡ length c.args.held.items = search rules in
    let low : length c.args.held.items ≤ 16384 = c.requires.short in
    let there = reach c.args.held.items c.args.octets.now c.deref.result.now c.len-before.result c.min-taken.result counted (omega arith) (omega (arith, c.min-taken.ensures)) (omega (arith, c.min-taken.ensures)) (λ less. omega (arith, c.min-taken.ensures))
    (c.deref.ensures.value ∙ c.in_ok-extend_from_slice.ensures.items) in
    λ n. head_in_whole c.in-Err.fault c.args.to_head (c.args.held.items ++ c.args.octets.now) c.deref.result.now _ there (c.in-Err.ensures n)
