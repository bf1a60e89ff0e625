use Rattle.std.proofs.Common.{◌≡◌, ◌∙◌, sym, arith}
use Rattle.std.specs.Prelude.{true, false}
use Rattle.std.proofs.lemmas.Bool.{and_parts}
use Rattle.sockets.proofs.Moving.{side_read, unended_ready, given_within}
use Rattle.sockets.specs.Portions.{portion_size}
use Rattle.sockets.proofs.Portions.{portion_some, portion_fits}
use Rattle.sockets.proofs.connections.Sockets.read_of_client.Goals as goal

pub returns-then-may_read_client-clause-told : goal.returns-then-may_read_client-clause-told
returns-then-may_read_client-clause-told g c =
    side_read _ _ c.in_ok-read.field-0 (portion_size c.args.self.now.buffer.portion) c.args.self.now.client c.read.new.side c.read.ensures.stays c.in_ok-read.ensures.gives c.read.ensures.held
    c.in_ok-read.ensures.ended.0 c.in_ok-read.ensures.ended.1 (unended_ready _ _ (and_parts _ _ (sym c.may_read_client.ensures ∙ c.if-may_read_client.true)).0) (portion_some c.args.self.now.buffer.portion)

pub returns-then-may_read_client-clause-fits : goal.returns-then-may_read_client-clause-fits
returns-then-may_read_client-clause-fits g c = given_within c.in_ok-read.field-0 _ _ (portion_size c.args.self.now.buffer.portion) 65536 (portion_fits c.args.self.now.buffer.portion) c.in_ok-read.ensures.gives

pub returns-then-may_read_client-clause-unread : goal.returns-then-may_read_client-clause-unread
returns-then-may_read_client-clause-unread g c = λ no. absurd (let never : true ≡ false = sym c.if-may_read_client.true ∙ c.may_read_client.ensures ∙ no in cc)

pub returns-in_err-read-clause-unread : goal.returns-in_err-read-clause-unread
returns-in_err-read-clause-unread g c = λ no. absurd (let never : true ≡ false = sym c.if-may_read_client.true ∙ c.may_read_client.ensures ∙ no in cc)

pub returns-clause-read : goal.returns-clause-read
returns-clause-read g c = λ so. absurd (let never : false ≡ true = sym c.if-may_read_client.false ∙ c.may_read_client.ensures ∙ so in cc)

pub returns-then-may_read_client-clause-within : goal.returns-then-may_read_client-clause-within
returns-then-may_read_client-clause-within g c =
    let most = portion_size c.args.self.now.buffer.portion in
    given_within c.in_ok-read.field-0 _ _ most most (omega arith) c.in_ok-read.ensures.gives
