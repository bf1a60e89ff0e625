-- What is held of streams that are all served is kept.
use Rattle.std.proofs.Common.{◌≡◌, List, [], ◌∷◌, refl, ◌∙◌, ap, if◌then◌else◌}
use Rattle.theory_requests.specs.Told.{Told}
use Rattle.theory_requests.specs.State.{Held, kept}
use Rattle.refinement.proofs.Kept.{AreServed}

pub all_kept : (told : Told) (hs : List Held) → AreServed told hs → kept told hs ≡ hs
all_kept told [] are = refl
all_kept told (h ∷ hs) are = ap (λ b. if b then h ∷ kept told hs else kept told hs) are.0 ∙ ap (λ (xs : List Held). h ∷ xs) (all_kept told hs are.1)
