use Rattle.std.proofs.Common.{◌≡◌, ◌+◌, Bool, true, false, nat_lt, [], ◌∷◌, length, refl, sym, ap, ◌∙◌, append-nil}
use Rattle.std.specs.Prelude.{is_some}
use Rattle.model.specs.Messages.Item.{Content}
use Rattle.model.specs.Causes.{cause_if}
use Rattle.model.specs.Causes.Cause.{LargeBody}
use Rattle.theory_errors.specs.Owing.{outline_behind}
use Rattle.streams.specs.Views.{outline_of}
use Rattle.streams.proofs.course.Course.with_content.Goals as goal

-- the course by whether the body is too long
pub returns-then-is_past : goal.returns-then-is_past
returns-then-is_past c = λ octets long.
    let past : nat_lt c.args.max_body (c.args.self.octets + length octets) ≡ true = ap (λ n. nat_lt c.args.max_body (c.args.self.octets + n)) long ∙ sym c.if-is_past.ensures in
    c.replied.ensures (Content octets c.args.ends ∷ [])
    ∙ ap (λ (x : Bool). let cause = cause_if x LargeBody in outline_behind (outline_of c.args.self) (is_some cause) (Content octets c.args.ends ∷ []) cause c.args.head_out) (sym past)

pub returns : goal.returns
returns c = λ octets long.
    let within : nat_lt c.args.max_body (c.args.self.octets + length octets) ≡ false = ap (λ n. nat_lt c.args.max_body (c.args.self.octets + n)) long ∙ sym c.if-is_past.ensures in
    c.behind.ensures (Content octets c.args.ends) c.args.head_out (ap length (append-nil octets) ∙ long) refl (λ first. refl)
    ∙ ap (λ (x : Bool). let cause = cause_if x LargeBody in outline_behind (outline_of c.args.self) (is_some cause) (Content octets c.args.ends ∷ []) cause c.args.head_out) (sym within)
