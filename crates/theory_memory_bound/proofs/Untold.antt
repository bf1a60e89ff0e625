-- An answer that goes on holds no trailers.
use Rattle.std.proofs.Common.{◌≡◌, ℕ, true, false, List, [], ◌∷◌, ◌++◌, map, None, refl, sym, ◌∙◌, ap, inl, inr}
use Rattle.model.specs.Messages.{Field}
use Rattle.model.specs.ResponseHeads.{Head}
use Rattle.model.specs.Deliveries.{End}
use Rattle.h1_reader.specs.Parts.{Part, ends_with}
use Rattle.h1_reader.specs.Parts.Part.{Interim, Final, Body}
use Rattle.h1_reader.specs.Standing.{State as Reader, Stands, is_done}
use Rattle.h1_reader.proofs.Telling as telling
use Rattle.theory_responses.specs.Outbox.{trailers_at}
use Rattle.theory_responses.specs.Held.{octets_of_fields}
use Rattle.upstream_response.specs.Telling.{trailers_of}
use Rattle.upstream_response.proofs.Reading.{none_told}
use Rattle.upstream_response.specs.Waiting.{Answer}

-- what was told before the end has no trailers
untold_before : (heads : List Head) → trailers_of (map Interim heads) ≡ None
untold_before [] = refl
untold_before (head ∷ heads) = untold_before heads

done_at_end : (trailers : List Field) → is_done (ends_with trailers) ≡ true
done_at_end [] = refl
done_at_end (field ∷ fields) = refl

done_behind_bodies : (bodies : List (List ℕ)) (ends : List Part) → is_done (map Body bodies ++ ends) ≡ is_done ends
done_behind_bodies [] ends = refl
done_behind_bodies (body ∷ bodies) ends = done_behind_bodies bodies ends

done_behind_heads : (heads : List Head) (parts : List Part) → is_done (map Interim heads ++ parts) ≡ is_done parts
done_behind_heads [] parts = refl
done_behind_heads (head ∷ heads) parts = done_behind_heads heads parts

untold : (text : List ℕ) (parts : List Part) (reader : Reader) → Stands text parts reader → is_done parts ≡ false → trailers_of parts ≡ None
untold text parts reader stands more = elim (telling.tells text parts reader stands) [
  | inl b ↦ ap trailers_of b.told ∙ untold_before b.interims
  | inr b ↦ (elim b.ends_are [
    | inl none ↦ none_told parts b.interims b.head b.bodies (b.told ∙ ap (λ (ends : List Part). map Interim b.interims ++ (Final b.head ∷ map Body b.bodies ++ ends)) none)
    | inr e ↦ (
        let done : is_done parts ≡ true =
        ap is_done b.told ∙ done_behind_heads b.interims (Final b.head ∷ map Body b.bodies ++ b.ends) ∙ done_behind_bodies b.bodies b.ends ∙ ap is_done e.1 ∙ done_at_end e.0 in
        let clash : true ≡ false = sym done ∙ more in cc
        )
  ])
]

pub no_trailers : (answer : Answer) (parts : List Part) → answer.trailers ≡ trailers_of parts → (text : List ℕ) (reader : Reader) → Stands text parts reader → is_done parts ≡ false → octets_of_fields (trailers_at answer.trailers) ≡ 0
no_trailers answer parts waits text reader stands more = ap (λ (end : End). octets_of_fields (trailers_at end)) (waits ∙ untold text parts reader stands more)
