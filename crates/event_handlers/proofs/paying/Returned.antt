-- What changes where octets are given back, or wait.
use Rattle.std.proofs.Common.{◌≡◌, ℕ, true, List, refl, ◌∙◌, arith}
use Rattle.model.specs.Limits.{most_streams}
use Rattle.streams.specs.Asked.{is_active}
use Rattle.window_credit.specs.Sides.{Side}
use Rattle.refinement.specs.View.{View}
use Rattle.event_handlers.specs.paying.Returning.{given_on_connection, given_on_stream, IsReturned}
use Rattle.event_handlers.proofs.paying.Rows.{served_stays, has_stays, exhausted_stays}

pub returned_none : (u : View) → IsReturned u u
returned_none u = record { offers = refl; upstreams = refl; encoding = refl; goes_on = λ on. on; opened = λ id. refl; served = λ id. refl; more = omega arith }

pub returned_marks : (u : View) (sides : List Side) → IsReturned u (record u { marks = sides })
returned_marks u sides = record { offers = refl; upstreams = refl; encoding = refl; goes_on = λ on. on; opened = λ id. refl; served = λ id. refl; more = omega arith }

pub returned_on_connection : (u : View) (count : ℕ) → IsReturned u (given_on_connection u count)
returned_on_connection u count = record { offers = refl; upstreams = refl; encoding = refl; goes_on = λ on. on; opened = λ id. refl; served = λ id. refl; more = omega arith }

pub returned_on_stream : (u : View) (id count : ℕ) → is_active u.inbound.rows id ≡ true → IsReturned u (given_on_stream u id count)
returned_on_stream u id count live = record {
  offers = refl;
  upstreams = refl;
  encoding = refl;
  goes_on = λ on. exhausted_stays u.inbound.rows id count live u.inbound.drained most_streams ∙ on;
  opened = has_stays u.inbound.rows id count live;
  served = served_stays u.inbound.rows id count live;
  more = omega arith;
}

pub returned_then : (a b c : View) → IsReturned a b → IsReturned b c → IsReturned a c
returned_then a b c one two = record {
  offers = two.offers ∙ one.offers;
  upstreams = two.upstreams ∙ one.upstreams;
  encoding = two.encoding ∙ one.encoding;
  goes_on = λ on. two.goes_on (one.goes_on on);
  opened = λ id. two.opened id ∙ one.opened id;
  served = λ id. two.served id ∙ one.served id;
  more = let first = one.more in let second = two.more in omega (arith, first, second);
}
