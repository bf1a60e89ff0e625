use Rattle.std.proofs.Common.{◌≡◌, ◌<◌, ◌≤◌, ◌-◌, Some, length, slice_index_or, sym, ap, ◌∙◌, arith}
use Rattle.std.proofs.lemmas.Bool.{ltb-true, ltb-false}
use Rattle.std.proofs.lemmas.List.{get_or_read}
use Rattle.upstream_connections.specs.Keys.{key}
use Rattle.upstream_connections.proofs.LeastKey.{none_behind, found_own, found_other}
use Rattle.upstream_connections.proofs.by_route.least_of.Goals as goal

pub returns-in-Ok : goal.returns-in-Ok
returns-in-Ok c =
    let keys = c.args.keys.now in
    let place = c.place_for.result in
    let facts = c.place_for.ensures in
    let first = c.key_of-first.ensures in
    let there : place < length keys = ltb-true place (length keys) (sym c.in-Some.ensures.lookup.0) in
    let is : c.in-Some.key.now ≡ slice_index_or keys place 0 = get_or_read keys place c.in-Some.key.now there c.in-Some.ensures.lookup.1 0 in
    let from = facts.behind there in
    let fits = c.in-Ok.ensures.0 in
    let number : c.in-Ok.number ≡ c.in-Some.key.now - key c.args.route 0 = c.in-Ok.ensures.1 ∙ ap (λ n. c.in-Some.key.now - n) first in
    ap Some number
    ∙ sym (found_own c.args.route keys c.requires place facts.within (λ i lt. let less = facts.before i lt in omega (arith, less, first)) c.in-Some.key.now there (sym is) (omega (arith, from, is, first)) (omega (arith, fits, first)))

pub returns-in-Err : goal.returns-in-Err
returns-in-Err c =
    let keys = c.args.keys.now in
    let place = c.place_for.result in
    let facts = c.place_for.ensures in
    let first = c.key_of-first.ensures in
    let there : place < length keys = ltb-true place (length keys) (sym c.in-Some.ensures.lookup.0) in
    let is : c.in-Some.key.now ≡ slice_index_or keys place 0 = get_or_read keys place c.in-Some.key.now there c.in-Some.ensures.lookup.1 0 in
    let from = facts.behind there in
    let beyond = c.in-Err.ensures in
    sym (found_other c.args.route keys c.requires place facts.within (λ i lt. let less = facts.before i lt in omega (arith, less, first)) c.in-Some.key.now there (sym is) (omega (arith, from, is, first)) (omega (arith, beyond, first)))

pub returns-in-None : goal.returns-in-None
returns-in-None c =
    let keys = c.args.keys.now in
    let place = c.place_for.result in
    let facts = c.place_for.ensures in
    let first = c.key_of-first.ensures in
    let all : length keys ≤ place = ltb-false place (length keys) (sym c.in-None.ensures.lookup.0) in
    sym (none_behind c.args.route keys c.requires place facts.within (λ i lt. let less = facts.before i lt in omega (arith, less, first)) all)
