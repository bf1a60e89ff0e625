use Rattle.std.proofs.Common.{ap, ◌∙◌, ◌-◌, ◌∷◌, Vec, Global, List, ℕ, filter, take, drop, length}
use Rattle.std.specs.Prelude.{codes}
use Rattle.std.proofs.lemmas.List.{take_rest}
use Rattle.model.specs.Messages.{Field}
use Rattle.model.specs.Http1.{values_of}
use Rattle.model.specs.Http2.{joined_by}
use Rattle.request_rules.specs.Sent.{is_sent}
use Rattle.request_rules.proofs.Cookies.{between, sent_without, sent_with}
use Rattle.request_rules.proofs.head.sent_fields.Goals as goal
use Rattle.request_rules.proofs.head.sent_fields.Goals.{in_default, in-len1-up+in_ok-joined+in_ok-cookie+in_ok-push+in_ok-push_plain-2}

pub returns : goal.returns
returns c =
    elim c.if-rest-lt1.branch [
      | in_default w ↦
          ap (λ (v : Vec Field Global). v.items) w.fields-is
          ∙ sent_without c.args.head.now c.split_at.result.0.now c.split_at.result.1.now _ _ c.first_cookie.result c.first_cookie.ensures.before
          c.split_at.ensures.front c.split_at.ensures.back w.in_default.len_below c.in_ok-fields.ensures.items c.in_ok-push_plain.ensures
      | in-len1-up+in_ok-joined+in_ok-cookie+in_ok-push+in_ok-push_plain-2 w ↦
          ap (λ (v : Vec Field Global). v.items) w.fields-is
          ∙ sent_with c.args.head.now c.split_at.result.0.now c.split_at.result.1.now _ _ _ _ _ c.first_cookie.result w.first-item.result w.in_ok-cookie.cookie c.first_cookie.ensures.before
          c.first_cookie.ensures.there c.split_at.ensures.front c.split_at.ensures.back w.in-len1-up.len_at_least w.first-item.is (take_rest c.split_at.result.1.now 1) c.in_ok-fields.ensures.items c.in_ok-push_plain.ensures
          w.in_ok-cookie.ensures.name
          (w.in_ok-cookie.ensures.value ∙ w.deref.ensures.value ∙ w.in_ok-joined.ensures ∙ ap (λ (value : List ℕ). joined_by between (value ∷ values_of (codes "cookie") (filter is_sent (take (length c.split_at.result.1.now - 1) (drop 1 c.split_at.result.1.now))))) w.value.ensures)
          w.in_ok-push.ensures.items w.in_ok-push_plain-2.ensures
    ]
