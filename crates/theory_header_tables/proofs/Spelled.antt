-- A block that the encoder wrote may go in frames, however it is cut.
use Rattle.std.proofs.Common.{◌≡◌, ℕ, ◌-◌, Bool, true, false, not, ◌==◌, if◌then◌else◌, List, [], ◌∷◌, ◌++◌, length, take, Option, Some, None, refl, sym, ◌∙◌, ap, subst, append_assoc, append-nil, arith}
use Rattle.std.proofs.lemmas.Bool.{eq-eqb}
use Rattle.std.proofs.lemmas.List.{take_all}
use Rattle.model.specs.Messages.{Field}
use Rattle.model.specs.Tables.{Table}
use Rattle.model.specs.Tapes.Note.{Fields}
use Rattle.model.specs.Decoding.{Partial}
use Rattle.theory_header_tables.specs.State.{State, encoding_after}
use Rattle.theory_header_tables.specs.Rule.{IsEncoded, IsGiven}
use Rattle.theory_header_tables.specs.Spelling.{joined_up, block_of, rest_moves, block_moves, Leads, Follow, with_whole}

-- the content of a frame without padding and priority is its payload
whole_payload : (payload : List ℕ) → take (length payload - 0 - 0) payload ≡ payload
whole_payload payload = take_all (length payload - 0 - 0) payload (omega arith)

module _ (s : State) (id : ℕ) (ends : Bool) (fields : List Field) (next : Table) (octets : List ℕ) (may_go : (block : Partial) → block.fragments ≡ octets → IsEncoded s.encoding block (Fields fields) next) where
  -- the block that a CONTINUATION leaves
  abbrev behind : List ℕ → List ℕ → Option Partial
  behind before fragment = if id == id then Some (block_of id ends (before ++ take (length fragment - 0 - 0) fragment)) else None

  goes_on : (before fragment : List ℕ) → behind before fragment ≡ Some (block_of id ends (before ++ fragment))
  goes_on before fragment =
      ap (λ b. if b then Some (block_of id ends (before ++ take (length fragment - 0 - 0) fragment)) else None) (eq-eqb id id refl)
      ∙ ap (λ o. Some (block_of id ends (before ++ o))) (whole_payload fragment)

  same_id : not (id == id) ≡ false
  same_id = ap not (eq-eqb id id refl)

  -- further frames
  rest_goes : (fragments : List (List ℕ)) (before fragment : List ℕ) → octets ≡ before ++ (fragment ++ joined_up fragments) → Leads s (rest_moves id ends fields next before fragment fragments) (with_whole next s)
  rest_goes [] before fragment is = (
    record { together = same_id; is_given = subst (λ b. IsGiven b s.encoding (Fields fields) next) (sym (goes_on before fragment)) (may_go (block_of id ends (before ++ fragment)) (ap (λ o. before ++ o) (sym (append-nil fragment)) ∙ sym is)) },
    ap (λ b. record s { encoding = encoding_after b next s.encoding }) (sym (goes_on before fragment)),
  )
  rest_goes (another ∷ fragments) before fragment is = (
    record { together = same_id; is_given = refl },
    rest_goes fragments (before ++ fragment) another (is ∙ sym (append_assoc before fragment (another ++ joined_up fragments))),
  )

  -- each where the one before left it
  rest_follows : (fragments : List (List ℕ)) (before fragment : List ℕ) → Follow (Some (block_of id ends before)) (rest_moves id ends fields next before fragment fragments) None
  rest_follows [] before fragment = (refl, refl)
  rest_follows (another ∷ fragments) before fragment = (
    refl,
    subst (λ b. Follow b (rest_moves id ends fields next (before ++ fragment) another fragments) None) (sym (goes_on before fragment)) (rest_follows fragments (before ++ fragment) another),
  )

-- All frames of the block, where none was begun.
pub block_goes : (s : State) (id : ℕ) (ends : Bool) (fields : List Field) (next : Table) (octets : List ℕ) → ((block : Partial) → block.fragments ≡ octets → IsEncoded s.encoding block (Fields fields) next) → (fragment : List ℕ) (fragments : List (List ℕ)) → octets ≡ fragment ++ joined_up fragments
    → Leads s (block_moves id ends fields next fragment fragments) (with_whole next s) × Follow None (block_moves id ends fields next fragment fragments) None
block_goes s id true fields next octets may_go fragment [] is =
    ((record { together = refl; is_given = may_go (block_of id true (take (length fragment - 0 - 0) fragment)) (whole_payload fragment ∙ sym (append-nil fragment) ∙ sym is) }, refl), (refl, refl))
block_goes s id false fields next octets may_go fragment [] is =
    ((record { together = refl; is_given = may_go (block_of id false (take (length fragment - 0 - 0) fragment)) (whole_payload fragment ∙ sym (append-nil fragment) ∙ sym is) }, refl), (refl, refl))
block_goes s id true fields next octets may_go fragment (another ∷ fragments) is = (
  (record { together = refl; is_given = refl }, rest_goes s id true fields next octets may_go fragments fragment another is),
  (refl, subst (λ o. Follow (Some (block_of id true o)) (rest_moves id true fields next fragment another fragments) None) (sym (whole_payload fragment)) (rest_follows s id true fields next octets may_go fragments fragment another)),
)
block_goes s id false fields next octets may_go fragment (another ∷ fragments) is = (
  (record { together = refl; is_given = refl }, rest_goes s id false fields next octets may_go fragments fragment another is),
  (refl, subst (λ o. Follow (Some (block_of id false o)) (rest_moves id false fields next fragment another fragments) None) (sym (whole_payload fragment)) (rest_follows s id false fields next octets may_go fragments fragment another)),
)
