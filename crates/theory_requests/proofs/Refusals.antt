-- Moves that the rule refuses.
use Rattle.std.proofs.Common.{◌≡◌, ℕ, true, false, List, [], ◌∷◌, ap, ◌∙◌, inl, inr}
use Rattle.std.specs.Prelude.{Some, codes}
use Rattle.model.specs.Setup.{Setup}
use Rattle.model.specs.Messages.Item.{Content}
use Rattle.h1_writer.specs.Sending.{Stage}
use Rattle.model.specs.Http1Text.{chunk_text}
use Rattle.h1_writer.specs.Sending.Stage.{Whole, Chunking}
use Rattle.theory_requests.specs.Told.{Told}
use Rattle.theory_requests.specs.Lines.{Line}
use Rattle.theory_requests.specs.Lines.Answer.{Pending}
use Rattle.theory_requests.specs.State.{state_of}
use Rattle.theory_requests.specs.State.Due.{Nothing, ToOpen}
use Rattle.theory_requests.specs.Rule.{is_done, MayCome, MayBegin, MayGather, MayOpen, MayClose}
use Rattle.theory_requests.proofs.Telling.{serving}
use Rattle.theory_requests.proofs.RunMoves.{known, get, get_text, get_head, post_text, first_data, last_data, m2, m3, m4, m5}

-- a connection isn't closed while its response isn't whole and its stream is served
closes_early : MayClose (serving (3 ∷ 1 ∷ [])) (state_of known.setup m5) 1 → ⊥
closes_early may = elim may.why [
  | inl done ↦ (let clash : false ≡ true = ap (is_done (serving (3 ∷ 1 ∷ []))) same ∙ done in cc)
  | inr ends ↦ (let clash : false ≡ true = ends in cc)
]
  where
    both : Some (record { k = 1; route = 0; stream = 3; answer = Pending }) ≡ Some may.line
    both = may.found

    same : ◌≡◌ {A = Line} (record { k = 1; route = 0; stream = 3; answer = Pending }) may.line
    same = let found = both in cc

-- none is opened for a request that waits
opens_early : (k route : ℕ) → MayOpen (state_of known.setup m3) k route → ⊥
opens_early k route may = let clash : Nothing ≡ ToOpen may.stream route may.text may.stage = may.due in cc

-- nothing comes in while one is due
comes_early : (told : Told) → MayCome told (state_of known.setup m4) → ⊥
comes_early told may = let clash : ToOpen 3 0 get_text Whole ≡ Nothing = may.nothing in cc

-- nothing comes in while one is open whose stream isn't served any more
leaves_open : MayCome (serving (1 ∷ [])) (state_of known.setup m5) → ⊥
leaves_open may = let clash : true ≡ false = may.none_done in cc

-- a request isn't begun whose stream is lost with its head
begins_lost : (setup : Setup) (route : ℕ) (text : List ℕ) → MayBegin setup (serving (1 ∷ [])) get_head get true route text Whole → ⊥
begins_lost setup route text may = let clash : false ≡ true = may.serving.served in cc

-- nothing is written of a body that waits before its end came
writes_early : (behind : Told) (stage : Stage) → MayGather behind (state_of known.setup m2) first_data (Content (codes "he") false) 0 (post_text []) Chunking [] (chunk_text (codes "he")) stage → ⊥
writes_early behind stage may = let clash : chunk_text (codes "he") ≡ [] = may.gathered.0 in cc

-- nor does the text of one that came to its end still wait
waits_late : (behind : Told) (written : List ℕ) → MayGather behind (state_of known.setup m3) last_data (Content (codes "llo") true) 0 (post_text []) Chunking (codes "he") written Chunking → ⊥
waits_late behind written may = let clash : false ≡ true = may.gathered.1 in cc
