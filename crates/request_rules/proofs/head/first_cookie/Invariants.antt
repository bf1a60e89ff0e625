use Rattle.std.proofs.Common.{◌≡◌, take, true}
use Rattle.std.specs.Prelude.{not}
use Rattle.std.specs.List.{list_all}
use Rattle.request_rules.specs.Sent.{is_full_cookie}
use Rattle.request_rules.proofs.head.first_cookie.Given as goal

abbrev pub invariant-loop-index : goal.invariant-loop-index
invariant-loop-index l = list_all (λ field. not (is_full_cookie field)) (take l.index l.head) ≡ true
