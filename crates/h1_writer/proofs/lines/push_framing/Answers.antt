use Rattle.std.proofs.Common.{ap, ◌∙◌, ◌++◌, List, ℕ, sym, Option, decimal}
use Rattle.std.specs.Prelude.{codes}
use Rattle.model.specs.Http1Text.{lines_text, framing_of}
use Rattle.h1_writer.proofs.Texts.{length_line}
use Rattle.h1_writer.proofs.lines.push_framing.Goals as goal

pub returns : goal.returns
returns c =
    c.in_ok-extend_from_slice-2.ensures.items
    ∙ ap (λ (front : List ℕ). front ++ codes "\r\n") (c.in_ok-push_decimal.ensures ∙ ap (λ (front : List ℕ). front ++ decimal c.in-Some.length) c.in_ok-extend_from_slice.ensures.items)
    ∙ length_line c.args.out.now.items c.in-Some.length c.args.ended
    ∙ ap (λ (length : Option ℕ). c.args.out.now.items ++ lines_text (framing_of length c.args.ended)) (sym c.in-Some.is)
