-- What a reader says of a response's failure is right, where it stands for all that was heard.
use Rattle.std.proofs.Common.{◌≡◌, ℕ, ◌<◌, ◌≤◌, Bool, true, false, List, [], ◌∷◌, ◌++◌, length, map, refl, sym, ap, ◌∙◌, subst, arith, inl, inr, if◌then◌else◌}
use Rattle.std.specs.Prelude.{Option, Some, None}
use Rattle.model.specs.ResponseHeads.{Head}
use Rattle.model.specs.Responses.{Seen, IsComplete, IsSpoilt}
use Rattle.model.specs.Noticing.{IsPlainlyBad}
use Rattle.model.specs.Setup.Passing.{Whole}
use Rattle.model.specs.Logs.Event.{Up, UpEnd}
use Rattle.model.specs.Tapes.{Entry}
use Rattle.model.specs.Tapes.Entry.{Happened}
use Rattle.model.specs.Openings.{exchange_on}
use Rattle.model.proofs.PastLaws.{heard_own}
use Rattle.model.specs.Available.{heard_by}
use Rattle.model.specs.Known.{Known}
use Rattle.model.specs.Failures.{IsPlainlyBroken, IsJudged}
use Rattle.model.specs.Idle.{is_asked_for_head}
use Rattle.h1_reader.specs.Parts.{Part}
use Rattle.h1_reader.specs.Parts.Part.{Interim}
use Rattle.h1_reader.specs.Standing.{State, Stands, Hears, Breaks, Tells, IsEnd}
use Rattle.h1_reader.specs.declared.reader.Ended.TheVariants.{Complete, Short}
use Rattle.h1_reader.proofs.Telling.{tells}
use Rattle.h1_reader.proofs.Noticed.{not_bad}
use Rattle.model.proofs.SeenLaws.{one_seen}
use Rattle.upstream_response.specs.Telling.{body_of}
use Rattle.upstream_response.proofs.Reading.{told_behind}

-- The octets of the body that were told stand in the text.
pub record HasTold (text : List ℕ) (to_head : Bool) (parts : List Part) : Type 0 where
  pub interims : List Head
  pub head : Option Head
  pub seen : Seen text to_head interims head (body_of parts)

-- interim heads bring no octets of a body
no_body : (interims : List Head) → body_of (map Interim interims) ≡ []
no_body [] = refl
no_body (head ∷ interims) = no_body interims

-- whatever was told
has_told : (text : List ℕ) (to_head : Bool) (parts : List Part) → Tells text to_head parts → HasTold text to_head parts
has_told text to_head parts (inl b) = record { interims = b.interims; head = None; seen = subst (λ (x : List ℕ). Seen text to_head b.interims None x) (sym (ap body_of b.told ∙ no_body b.interims)) b.seen }
has_told text to_head parts (inr b) = record {
  interims = b.interims;
  head = Some b.head;
  seen = subst (λ (x : List ℕ). Seen text to_head b.interims (Some b.head) x) (sym (told_behind parts b.ends b.interims b.head b.bodies b.ends_are b.told).2) b.seen;
}

-- all that was heard, with the octets of the event
heard_more : (k : ℕ) (piece : List ℕ) (t : List Entry) → heard_by (exchange_on k t) (Happened (Up k piece) ∷ t) ≡ heard_by (exchange_on k t) t ++ piece
heard_more k piece t = heard_own k piece t

-- The reader stands for it.
stands_more : (k : ℕ) (piece : List ℕ) (t : List Entry) (parts added : List Part) (old new : State) → Stands (heard_by (exchange_on k t) t) parts old → Hears old piece added new → Stands (heard_by (exchange_on k t) (Happened (Up k piece) ∷ t)) (parts ++ added) new
stands_more k piece t parts added old new s h = subst (λ (x : List ℕ). Stands x (parts ++ added) new) (sym (heard_more k piece t)) (h.stands (heard_by (exchange_on k t) t) parts s)

module _ (known : Known) (t : List Entry) (k : ℕ) (piece : List ℕ) (parts added : List Part) (old new : State) (asked : old.to_head ≡ is_asked_for_head known (exchange_on k t) t) (s : Stands (heard_by (exchange_on k t) t) parts old) (h : Hears old piece added new) where
  -- the octets told stand in all that was heard
  all_told : HasTold (heard_by (exchange_on k t) (Happened (Up k piece) ∷ t)) (is_asked_for_head known (exchange_on k t) t) (parts ++ added)
  all_told = subst (λ (b : Bool). HasTold (heard_by (exchange_on k t) (Happened (Up k piece) ∷ t)) b (parts ++ added)) (h.same ∙ asked) (has_told (heard_by (exchange_on k t) (Happened (Up k piece) ∷ t)) new.to_head (parts ++ added) (tells (heard_by (exchange_on k t) (Happened (Up k piece) ∷ t)) (parts ++ added) new (stands_more k piece t parts added old new s h)))

  -- no failure that has to be noticed
  none_broken : (known.setup.passing ≡ Whole → length (body_of (parts ++ added)) ≤ known.setup.max_response) → IsPlainlyBroken known (heard_by (exchange_on k t) (Happened (Up k piece) ∷ t)) (is_asked_for_head known (exchange_on k t) t) → ⊥
  none_broken fits (inl bad) = not_bad (heard_by (exchange_on k t) (Happened (Up k piece) ∷ t)) (parts ++ added) new (stands_more k piece t parts added old new s h) (subst (λ (b : Bool). IsPlainlyBad (heard_by (exchange_on k t) (Happened (Up k piece) ∷ t)) b) (sym (h.same ∙ asked)) bad)
  none_broken fits (inr long) =
      let told = all_told in
      let same : long.octets ≡ body_of (parts ++ added) = (one_seen _ _ long.interims told.interims long.head told.head long.octets (body_of (parts ++ added)) long.seen told.seen).octets in
      let size : length long.octets ≡ length (body_of (parts ++ added)) = ap length same in
      let most = fits long.whole in
      let over = long.over in
      absurd (omega (arith, size, most, over))

  -- the reader goes on: nothing failed
  pub goes_on : (known.setup.passing ≡ Whole → length (body_of (parts ++ added)) ≤ known.setup.max_response) → IsJudged known t (Up k piece) false
  goes_on fits = none_broken fits

  -- the body is too long
  pub too_long : known.setup.passing ≡ Whole → known.setup.max_response < length (body_of (parts ++ added)) → IsJudged known t (Up k piece) true
  too_long whole over = let told = all_told in inr (record { whole = whole; interims = told.interims; head = told.head; octets = body_of (parts ++ added); seen = told.seen; over = over })

-- The reader breaks: the answer failed.
pub breaks : (known : Known) (t : List Entry) (k : ℕ) (piece : List ℕ) (parts : List Part) (old : State) → old.to_head ≡ is_asked_for_head known (exchange_on k t) t → Stands (heard_by (exchange_on k t) t) parts old → Breaks old piece → IsJudged known t (Up k piece) true
breaks known t k piece parts old asked s b =
    let spoilt : IsSpoilt (heard_by (exchange_on k t) t ++ piece) (is_asked_for_head known (exchange_on k t) t) = subst (λ (h : Bool). IsSpoilt (heard_by (exchange_on k t) t ++ piece) h) asked (b (heard_by (exchange_on k t) t) parts s) in
    inl (subst (λ (x : List ℕ). IsSpoilt x (is_asked_for_head known (exchange_on k t) t)) (sym (heard_more k piece t)) spoilt)

-- ---- the connection's end

-- the end makes the response whole
pub ends : (known : Known) (t : List Entry) (k : ℕ) (parts : List Part) (old : State) → old.to_head ≡ is_asked_for_head known (exchange_on k t) t → Stands (heard_by (exchange_on k t) t) parts old → IsEnd Complete old → IsJudged known t (UpEnd k) false
ends known t k parts old asked s e = λ short. short (subst (λ (b : Bool). IsComplete (heard_by (exchange_on k t) t) true b) asked (e (heard_by (exchange_on k t) t) parts s))

-- or it does not
pub ends_short : (known : Known) (t : List Entry) (k : ℕ) (parts : List Part) (old : State) → old.to_head ≡ is_asked_for_head known (exchange_on k t) t → Stands (heard_by (exchange_on k t) t) parts old → IsEnd Short old → IsJudged known t (UpEnd k) true
ends_short known t k parts old asked s e = λ complete. e (heard_by (exchange_on k t) t) parts s (subst (λ (b : Bool). IsComplete (heard_by (exchange_on k t) t) true b) (sym asked) complete)
