use Rattle.std.proofs.Common.{rules, ◌≡◌, List, ℕ, take, IfOk, Result, Ok, Err, subst, sym}
use Rattle.request_buffer.specs.Waits.{IsEnded, IsEndedText}
use Rattle.request_buffer.proofs.Ending as laws
use Rattle.request_buffer.proofs.buffered_request.BufferedRequest.finish.Goals as goal

if_ok : {T E : Type 0} {P Q : T → Type 0} (r : Result T E) → ((x : T) → P x → Q x) → IfOk r P → IfOk r Q
if_ok (Ok x) to p = to x p
if_ok (Err e) to p = tt

pub returns-then-not-may_finish : goal.returns-then-not-may_finish
returns-then-not-may_finish c =
    laws.ends_as_it_is c.self.inside.route c.self.inside.head c.self.inside.body c.self.inside.sender c.self.inside.octets.items c.args.octets.now c.args.trailers.now c.args.self c.from_octets.result c.self.view_is (search rules) (search rules) c.requires (search rules)

pub returns-then-len-body : goal.returns-then-len-body
returns-then-len-body c =
    let ended : IsEndedText c.truncate.new.self.items c.self.inside.sender c.args.octets.now c.args.trailers.now c.in_ok-whole.whole.items = c.in_ok-whole.ensures in
    let head : c.truncate.new.self.items ≡ take c.self.inside.head c.self.inside.octets.items = search rules in
    let same : c.from_octets-then-len-body.result ≡ c.in_ok-whole.whole.items = search rules in
    subst (IsEnded c.args.self c.args.octets.now c.args.trailers.now) (sym same)
    (laws.ends_at_once c.self.inside.route c.self.inside.head c.self.inside.body c.self.inside.sender c.self.inside.octets.items c.args.octets.now c.args.trailers.now c.args.self c.in_ok-whole.whole.items c.self.view_is (search rules)
    (subst (λ (os : List ℕ). IsEndedText os c.self.inside.sender c.args.octets.now c.args.trailers.now c.in_ok-whole.whole.items) head ended))

pub returns : goal.returns
returns c =
    if_ok c.close.result
    (λ text ended. laws.ends_behind c.self.inside.route c.self.inside.head c.self.inside.body c.self.inside.sender c.self.inside.octets.items c.args.octets.now c.args.trailers.now c.args.self c.extend_from_slice-2.new.self.items text c.self.view_is c.self.invariant.before (search rules) c.in_ok-extend_from_slice-2.ensures.items ended)
    c.close.ensures
