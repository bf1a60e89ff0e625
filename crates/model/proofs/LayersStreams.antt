-- A change of one stream leaves all others as they were.
use Rattle.std.proofs.Common.{◌≡◌, ◌≢◌, ℕ, List, [], ◌∷◌, map, refl, arith}
use Rattle.std.specs.Option.{option_map}
use Rattle.std.proofs.lemmas.Bool.Decides.{nat_tests}
use Rattle.model.specs.StreamStates.{OpenedStream, Change, after, state_of, with_change, changed}

pub changed_state : (change : Change) (id : ℕ) (streams : List OpenedStream) → state_of id (changed change id streams) ≡ option_map (after change) (state_of id streams)
changed_state change id [] = refl
changed_state change id (stream ∷ streams) = grind (arith, nat_tests, changed_state change id streams)

pub other_state : (change : Change) (id other : ℕ) (streams : List OpenedStream) → other ≢ id → state_of other (changed change id streams) ≡ state_of other streams
other_state change id other [] ne = refl
other_state change id other (stream ∷ streams) ne = grind (arith, nat_tests, other_state change id other streams ne)

same_id : (change : Change) (id : ℕ) (stream : OpenedStream) → (with_change change id stream).id ≡ stream.id
same_id change id stream = grind (arith, nat_tests)

pub same_ids : (change : Change) (id : ℕ) (streams : List OpenedStream) → map (λ stream. stream.id) (changed change id streams) ≡ map (λ stream. stream.id) streams
same_ids change id [] = refl
same_ids change id (stream ∷ streams) = let first = same_id change id stream in let rest = same_ids change id streams in cc
