use Rattle.std.proofs.Common.{rules, ◌≡◌, ◌≤◌, ◌++◌, List, ℕ, length, take, drop, ◌-◌, codes, ap, ◌∙◌, append_assoc, arith}
use Rattle.model.specs.Http1.{crlf}
use Rattle.model.specs.Http1Text.{hex_size, last_chunk}
use Rattle.h1_writer.proofs.Closing as laws
use Rattle.h1_writer.proofs.text.close_chunk.Goals as goal

-- what stands before the body
abbrev front_of : List ℕ → ℕ → ℕ → List ℕ
front_of items head body = (take head items ++ hex_size (length items - body)) ++ crlf

pub overflow_sub-start : goal.overflow_sub-start
overflow_sub-start c =
    let front : c.in_ok-front.front.items ≡ front_of c.args.octets.items c.args.head c.args.body = search rules in
    let head : length (take c.args.head c.args.octets.items) ≤ c.args.head = search rules in
    let fits : length c.in_ok-front.front.items ≤ c.args.body = laws.fits_before (take c.args.head c.args.octets.items) c.args.octets.items c.in_ok-front.front.items c.args.body front (search rules) (omega (arith, head, c.requires.room)) in
    let count : c.len-2.result ≡ length c.in_ok-front.front.items = search rules in
    omega (arith, fits, count)

pub set_before-requires-clause-room : goal.set_before-requires-clause-room
set_before-requires-clause-room c =
    let front : c.in_ok-front.front.items ≡ front_of c.args.octets.items c.args.head c.args.body = search rules in
    let head : length (take c.args.head c.args.octets.items) ≤ c.args.head = search rules in
    let fits : length c.in_ok-front.front.items ≤ c.args.body = laws.fits_before (take c.args.head c.args.octets.items) c.args.octets.items c.in_ok-front.front.items c.args.body front (search rules) (omega (arith, head, c.requires.room)) in
    let count : length c.deref-2.result.now ≡ length c.in_ok-front.front.items = search rules in
    omega (arith, fits, count)

pub returns : goal.returns
returns c =
    let front : c.in_ok-front.front.items ≡ front_of c.args.octets.items c.args.head c.args.body = search rules in
    let head : length (take c.args.head c.args.octets.items) ≤ c.args.head = search rules in
    let fits : length c.in_ok-front.front.items ≤ c.args.body = laws.fits_before (take c.args.head c.args.octets.items) c.args.octets.items c.in_ok-front.front.items c.args.body front (search rules) (omega (arith, head, c.requires.room)) in
    let new : c.set_before.new.octets ≡ take (c.args.body - length c.in_ok-front.front.items) c.args.octets.items ++ (c.in_ok-front.front.items ++ drop c.args.body c.args.octets.items) = search rules in
    let same : length c.set_before.new.octets ≡ length c.args.octets.items = ap length new ∙ laws.same_length c.args.octets.items c.in_ok-front.front.items c.args.body fits (omega (arith, c.requires.some)) in
    let count : c.args.octets.len ≡ length c.args.octets.items = search rules in
    let all : take c.args.octets.len (c.set_before.new.octets ++ drop (length c.set_before.new.octets) c.args.octets.items) ≡ c.set_before.new.octets = laws.all_new c.args.octets.items c.set_before.new.octets c.args.octets.len same count in
    let start : c.len-2.result ≡ length c.in_ok-front.front.items = search rules in
    let behind : c.push_last.new.out.items ≡ c.set_before.new.octets ++ (crlf ++ last_chunk c.args.trailers.now) =
    c.in_ok-push_last.ensures ∙ ap (λ (os : List ℕ). os ++ last_chunk c.args.trailers.now) (c.in_ok-extend_from_slice.ensures.items ∙ ap (λ (os : List ℕ). os ++ codes "\r\n") all)
    ∙ append_assoc c.set_before.new.octets crlf (last_chunk c.args.trailers.now) in
    laws.laid c.args.octets.items c.in_ok-front.front.items c.set_before.new.octets c.push_last.new.out.items c.args.head c.args.body (c.args.body - c.len-2.result) c.args.trailers.now front fits (omega (arith, c.requires.some)) (ap (λ (n : ℕ). c.args.body - n) start) new behind
