-- What lies in what is held of a request is what is seen of it.
use Rattle.std.proofs.Common.{◌≡◌, ◌+◌, ℕ, refl, ◌∙◌, arith}
use Rattle.theory_requests.specs.Held.{held_by}
use Rattle.upstream_connections.specs.Ways.{way_of}
use Rattle.upstream_connections.specs.HeldInside.{in_way}
use Rattle.upstream_connections.specs.declared.held.Way.{Way}
use Rattle.upstream_connections.specs.declared.held.Way.TheVariants as way

-- what is counted of a number adds nothing
none_more : (n : ℕ) → 0 + n ≡ n
none_more n = omega arith

way_is : (w : Way) → in_way w ≡ held_by (way_of w)
way_is (way.Waiting request) = refl
way_is (way.Going number going) = omega arith
way_is way.Dropped = refl

-- nor does a stream's id
pub held_is : (w : Way) → 0 + in_way w ≡ held_by (way_of w)
held_is w = none_more (in_way w) ∙ way_is w
