use Rattle.send_buffer.proofs.HeldInside.{store_is, place_is}
use Rattle.send_buffer.proofs.laws.what_is_held_is_seen.Goals as goal

pub returns-clause-octets : goal.returns-clause-octets
returns-clause-octets c = λ octets. store_is octets.store

pub returns-clause-outbox : goal.returns-clause-outbox
returns-clause-outbox c = λ outbox. place_is outbox.place
