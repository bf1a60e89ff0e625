use Rattle.std.proofs.Common.{◌≡◌, ◌≤◌, ◌<◌, length, [], subst, refl, arith, List, ℕ}
use Rattle.model.specs.ResponseHeads.{named_by_connection, Interim}
use Rattle.response_texts.specs.Heads.{IsFinalRead}
use Rattle.response_texts.specs.Framings.{framing_view}
use Rattle.response_texts.proofs.FrontLemmas.{ends_there}
use Rattle.response_texts.proofs.FaultReads.{reach, head_in_whole, long_head}
use Rattle.response_texts.proofs.front.read_there.Goals as goal

pub returns-then-taken-octets : goal.returns-then-taken-octets
returns-then-taken-octets c =
    let low : 0 ≤ 16384 = omega arith in
    let less : c.min-taken.result < length c.args.octets.now = c.if-taken-octets.true in
    let full : c.min-taken.result ≡ 16384 = omega (arith, c.min-taken.ensures) in
    let read = rw c.in-Ok-More.field-0-is at c.in-Ok-More.ensures in
    let there = reach [] c.args.octets.now _ 0 c.min-taken.result refl low (omega (arith, c.min-taken.ensures)) (omega (arith, c.min-taken.ensures)) (λ less. omega (arith, c.min-taken.ensures)) refl in
    λ _. long_head c.args.to_head c.args.octets.now _ _ there (omega arith) read.0 read.1

pub returns-in-Ok-Interim : goal.returns-in-Ok-Interim
returns-in-Ok-Interim c =
    let read = rw c.in-Ok-Interim.field-0-is at c.in-Ok-Interim.ensures in
    let ends = ends_there c.args.octets.now _ c.min-taken.result c.in-Ok-Interim.used _ (omega (arith, c.min-taken.ensures)) refl read.0 read.1.taken.reads in
    (ends.more, ends.fits, subst (λ (o : List ℕ). Interim o c.in-Ok-Interim.head) ends.is read.1)

pub returns-in-Ok-Final : goal.returns-in-Ok-Final
returns-in-Ok-Final c =
    let read = rw c.in-Ok-Final.field-0-is at c.in-Ok-Final.ensures in
    let ends = ends_there c.args.octets.now _ c.min-taken.result c.in-Ok-Final.used _ (omega (arith, c.min-taken.ensures)) refl read.0 read.1.0.taken.reads in
    (ends.more, ends.fits, subst (λ (o : List ℕ). IsFinalRead c.args.to_head o c.in-Ok-Final.head (framing_view (named_by_connection c.in-Ok-Final.connections.items) c.in-Ok-Final.framing) c.in-Ok-Final.stays) ends.is read.1, read.2)

pub returns-in-Err : goal.returns-in-Err
returns-in-Err c =
    let low : 0 ≤ 16384 = omega arith in
    let there = reach [] c.args.octets.now _ 0 c.min-taken.result refl low (omega (arith, c.min-taken.ensures)) (omega (arith, c.min-taken.ensures)) (λ less. omega (arith, c.min-taken.ensures)) refl in
    λ n. head_in_whole c.in-Err.fault c.args.to_head c.args.octets.now _ _ there (c.in-Err.ensures n)
