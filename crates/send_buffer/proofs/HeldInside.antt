-- What lies in an outbox is what is seen of it.
use Rattle.std.proofs.Common.{◌≡◌, ◌+◌, List, [], ◌∷◌, ◌++◌, length, Some, None, refl, arith}
use Rattle.std.specs.Prelude.{sum_by}
use Rattle.std.proofs.lemmas.List.Sums.{sum_by-append, sum_by-cons}
use Rattle.model.specs.ResponseHeads.{Head}
use Rattle.theory_responses.specs.Held.{head_octets, octets_in}
use Rattle.send_buffer.specs.Views.{outbox_in}
use Rattle.send_buffer.specs.Waiting.{waiting_in}
use Rattle.send_buffer.specs.HeldInside.{in_store, in_place}
use Rattle.send_buffer.specs.declared.octets.Store.{Store}
use Rattle.send_buffer.specs.declared.octets.Store.TheVariants as store
use Rattle.send_buffer.specs.declared.outbox.Place.{Place}
use Rattle.send_buffer.specs.declared.outbox.Place.TheVariants as place

pub store_is : (s : Store) → in_store s ≡ length (waiting_in s)
store_is (store.Piece piece) = refl
store_is (store.Ring ring) = refl

-- an interim head, and the final one behind it
head_behind : (interims : List Head) (head : Head) → sum_by head_octets (interims ++ head ∷ []) ≡ sum_by head_octets interims + head_octets head
head_behind interims head = omega (arith, sum_by-append head_octets interims (head ∷ []), sum_by-cons head_octets head [])

pub place_is : (p : Place) → in_place p ≡ octets_in (outbox_in p)
place_is (place.Before interims None body whole) = omega arith
place_is (place.Before interims (Some head) body whole) = omega (arith, head_behind interims.items head)
place_is (place.Behind body whole) = omega arith
place_is place.Over = refl
