use Rattle.std.proofs.Common.{ap, ◌∙◌, ◌++◌, ◌∷◌, [], List, ℕ, ◌%◌, arith}
use Rattle.model.specs.Http1Text.{hex_digit}
use Rattle.h1_writer.proofs.Digits.{hex_more, hex_longer}
use Rattle.h1_writer.proofs.Stages.{on_err}
use Rattle.h1_writer.proofs.numbers.+push_hex.Goals as goal

pub returns-clause-ok : goal.returns-clause-ok
returns-clause-ok t c =
    c.in_ok-push.ensures.items
    ∙ ap (λ (digit : ℕ). c.push_hex.new.out.items ++ digit ∷ []) c.hex_digit.ensures
    ∙ ap (λ (front : List ℕ). front ++ hex_digit (c.args.number % 16) ∷ []) c.in_ok-push_hex.ensures.ok
    ∙ hex_more c.args.out.now.items c.args.number (omega (arith, c.if-number-eq0.false))

pub returns-in_err-push_hex-clause-full : goal.returns-in_err-push_hex-clause-full
returns-in_err-push_hex-clause-full t c =
    let longer = hex_longer c.args.number (omega (arith, c.if-number-eq0.false)) in
    on_err c.from_residual.result (omega (arith, longer, c.in_err-push_hex.ensures.full))

pub returns-in_err-push-clause-full : goal.returns-in_err-push-clause-full
returns-in_err-push-clause-full t c =
    let longer = hex_longer c.args.number (omega (arith, c.if-number-eq0.false)) in
    on_err c.from_residual-in_err-push.result (omega (arith, longer, c.in_ok-push_hex.ensures.room, c.in_ok-push_hex.ensures.capacity, c.in_err-push.ensures.full))

pub returns-clause-room : goal.returns-clause-room
returns-clause-room t c =
    let longer = hex_longer c.args.number (omega (arith, c.if-number-eq0.false)) in
    omega (arith, longer, c.in_ok-push_hex.ensures.room, c.in_ok-push.ensures.len)
