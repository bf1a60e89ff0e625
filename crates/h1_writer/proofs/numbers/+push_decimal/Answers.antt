use Rattle.std.proofs.Common.{ap, ◌∙◌, ◌++◌, ◌∷◌, [], List, ℕ, ◌+◌, ◌%◌, sym}
use Rattle.std.proofs.lemmas.Fmt.{decimal_digit}
use Rattle.h1_writer.proofs.Digits.{decimal_more}
use Rattle.h1_writer.proofs.numbers.+push_decimal.Goals as goal

pub returns-then-number-lt10 : goal.returns-then-number-lt10
returns-then-number-lt10 t c =
    c.in_ok-push.ensures.items ∙ ap (λ (digits : List ℕ). c.args.out.now.items ++ digits) (sym (decimal_digit c.args.number c.if-number-lt10.true))

pub returns : goal.returns
returns t c =
    c.in_ok-push-2.ensures.items ∙ ap (λ (front : List ℕ). front ++ (48 + c.args.number % 10) ∷ []) c.in_ok-push_decimal.ensures
    ∙ decimal_more c.args.out.now.items c.args.number c.if-number-lt10.false c.ranges.number.fits
