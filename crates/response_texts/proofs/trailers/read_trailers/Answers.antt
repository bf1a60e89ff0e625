use Rattle.std.proofs.Common.{◌≡◌, ◌≤◌, ◌<◌, ◌+◌, ◌-◌, ◌++◌, length, length-append, ◌∙◌, subst, rules, arith, List, ℕ}
use Rattle.model.specs.ResponseHeads.{named_by_connection}
use Rattle.response_texts.specs.Trailers.{ArePassed}
use Rattle.response_texts.proofs.TrailerLemmas.{trailers_end}
use Rattle.response_texts.proofs.FaultReads.{reach, trailers_in_whole, long_trailers}
use Rattle.response_texts.proofs.trailers.read_trailers.Goals as goal

pub returns-then-taken-octets : goal.returns-then-taken-octets
returns-then-taken-octets c =
    let counted : c.len-before.result ≡ length c.args.held.items = search rules in
    let less : c.min-taken.result < length c.args.octets.now = c.if-taken-octets.true in
    let low : length c.args.held.items ≤ 16384 = c.requires.short in
    let read = rw c.in-Ok-None.field-0-is at c.in-Ok-None.ensures in
    let there = reach c.args.held.items c.args.octets.now c.deref.result.now c.len-before.result c.min-taken.result counted (omega arith) (omega (arith, c.min-taken.ensures)) (omega (arith, c.min-taken.ensures)) (λ less. omega (arith, c.min-taken.ensures))
    (c.deref.ensures.value ∙ c.in_ok-extend_from_slice.ensures.items) in
    let sum : length (c.args.held.items ++ c.args.octets.now) ≡ length c.args.held.items + length c.args.octets.now = length-append c.args.held.items c.args.octets.now in
    let full : c.min-taken.result ≡ 16384 - c.len-before.result = omega (arith, c.min-taken.ensures) in
    λ _. long_trailers (c.args.held.items ++ c.args.octets.now) c.deref.result.now _ there (omega arith) read.0 read.1

pub overflow_sub-result : goal.overflow_sub-result
overflow_sub-result c =
    let counted : c.len-before.result ≡ length c.args.held.items = search rules in
    let read = rw c.in-Ok-Some.field-0-is at c.in-Ok-Some.ensures in
    let ends = trailers_end c.args.held.items c.args.octets.now c.deref.result.now c.len-before.result c.min-taken.result c.in-Ok-Some.found.used c.requires.none counted (omega (arith, c.min-taken.ensures))
    (c.deref.ensures.value ∙ c.in_ok-extend_from_slice.ensures.items) read.0 read.1.are in
    let more : c.len-before.result < c.in-Ok-Some.found.used = ends.more in
    omega arith

pub returns-in-Ok-Some : goal.returns-in-Ok-Some
returns-in-Ok-Some c =
    let counted : c.len-before.result ≡ length c.args.held.items = search rules in
    let read = rw c.in-Ok-Some.field-0-is at c.in-Ok-Some.ensures in
    let ends = trailers_end c.args.held.items c.args.octets.now c.deref.result.now c.len-before.result c.min-taken.result c.in-Ok-Some.found.used c.requires.none counted (omega (arith, c.min-taken.ensures))
    (c.deref.ensures.value ∙ c.in_ok-extend_from_slice.ensures.items) read.0 read.1.are in
    let more : c.len-before.result < c.in-Ok-Some.found.used = ends.more in
    (omega arith, ends.fits, subst (λ (o : List ℕ). ArePassed (named_by_connection c.args.connections.now) o c.in-Ok-Some.found.trailers.items) ends.is read.1)

pub returns-in-Err : goal.returns-in-Err
returns-in-Err c =
    let counted : c.len-before.result ≡ length c.args.held.items = search rules in
    let low : length c.args.held.items ≤ 16384 = c.requires.short in
    let there = reach c.args.held.items c.args.octets.now c.deref.result.now c.len-before.result c.min-taken.result counted (omega arith) (omega (arith, c.min-taken.ensures)) (omega (arith, c.min-taken.ensures)) (λ less. omega (arith, c.min-taken.ensures))
    (c.deref.ensures.value ∙ c.in_ok-extend_from_slice.ensures.items) in
    λ n. trailers_in_whole c.in-Err.fault (c.args.held.items ++ c.args.octets.now) c.deref.result.now _ there (c.in-Err.ensures n)
