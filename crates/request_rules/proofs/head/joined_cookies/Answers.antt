use Rattle.std.proofs.Common.{sym, ◌∙◌, ap, ◌++◌, List, ℕ, Vec, Global}
use Rattle.request_rules.proofs.Cookies.{between, joined_with, joined_without}
use Rattle.request_rules.proofs.head.joined_cookies.Goals as goal
use Rattle.request_rules.proofs.head.joined_cookies.Goals.{then-is_full_cookie+in_ok-extend_from_slice+in_ok-extend_from_slice-2, else-is_full_cookie}

pub loop-field-preserved : goal.loop-field-preserved
loop-field-preserved c =
    elim c.if-is_full_cookie.branch [
      | then-is_full_cookie+in_ok-extend_from_slice+in_ok-extend_from_slice-2 w ↦
          ap (λ (v : Vec ℕ Global). v.items) w.joined-is
          ∙ w.in_ok-extend_from_slice-2.ensures.items
          ∙ ap (λ (front : List ℕ). front ++ w.value.result.now) w.in_ok-extend_from_slice.ensures.items
          ∙ ap (λ (value : List ℕ). c.loop-field.joined.items ++ between ++ value) w.value.ensures
          ∙ ap (λ (front : List ℕ). front ++ between ++ c.field-item.result.value) c.loop-field.invariant
          ∙ sym (joined_with c.args.first.now c.args.others.now c.loop-field.field-index c.field-item.result c.loop-field-test.true c.field-item.is (sym c.is_full_cookie.ensures ∙ w.if-is_full_cookie.true))
      | else-is_full_cookie w ↦
          ap (λ (v : Vec ℕ Global). v.items) w.joined-is
          ∙ c.loop-field.invariant
          ∙ sym (joined_without c.args.first.now c.args.others.now c.loop-field.field-index c.field-item.result c.loop-field-test.true c.field-item.is (sym c.is_full_cookie.ensures ∙ w.if-is_full_cookie.false))
    ]
