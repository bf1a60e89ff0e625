-- A body of the right length may be pushed in one piece, and then the text may be ended.
use Rattle.std.proofs.Common.{◌≡◌, ℕ, ◌+◌, ◌<◌, ◌≤◌, Bool, true, false, List, [], ◌∷◌, ◌++◌, length, take, drop, Option, Some, refl, sym, ◌∙◌, ap, subst, arith, append_assoc, append-nil, length-append}
use Rattle.std.proofs.lemmas.List.{take-append-drop, take-append-le, drop-append-le, drop_all}
use Rattle.std.specs.List.{concat}
use Rattle.model.specs.Messages.{Field}
use Rattle.model.specs.Http2.{HasLength}
use Rattle.request_rules.specs.Heads.{HeadParts}
use Rattle.h1_writer.specs.Sending.{Stage, Sending, SentCounting, SentWhole, Continues, MayPush, MayFinish, piece_of, head_of}
use Rattle.model.specs.Http1Text.{content_of}
use Rattle.h1_writer.proofs.Stages.{more_full, concat_more}
use Rattle.h1_writer.specs.Sending.Stage.{Whole, Counting, Holding, Chunking}
use Rattle.request_buffer.specs.Waits.{Request, MayEnd, IsEnded, IsEndedText}

-- the body may be pushed
pub may_push : (keep : Bool) (parts : HeadParts) (text : List ℕ) (stage : Stage) (body : List ℕ) → Sending keep parts false text [] [] stage → (stage ≡ Whole → ⊥) → HasLength parts.length body → MayPush stage (length body)
may_push keep parts text Whole body sending on fits = on refl
may_push keep parts text (Counting left) body sending on fits = let same : length body ≡ 0 + left = subst (λ o. HasLength o body) sending.declared fits in omega (arith, same)
may_push keep parts text (Holding octet) body sending on fits = subst (λ o. HasLength o body) sending.declared fits
may_push keep parts text Chunking body sending on fits = tt

-- the octets of a piece
one_piece : (body : List ℕ) → concat (piece_of body) ≡ body
one_piece [] = refl
one_piece (octet ∷ body) = append-nil (octet ∷ body)

-- behind the body in one piece the text may be ended
pub may_finish : (keep : Bool) (parts : HeadParts) (text : List ℕ) (stage : Stage) (body : List ℕ) → Sending keep parts false text (piece_of body) [] stage → (stage ≡ Whole → ⊥) → HasLength parts.length body → MayFinish stage
may_finish keep parts text Whole body sending on fits = on refl
may_finish keep parts text (Counting left) body sending on fits =
    let same : length body ≡ length (concat (piece_of body)) + left = subst (λ o. HasLength o body) sending.declared fits in
    let count : length (concat (piece_of body)) ≡ length body = ap length (one_piece body) in
    let more : 0 < left = sending.more in
    omega (arith, same, count, more)
may_finish keep parts text (Holding octet) body sending on fits = tt
may_finish keep parts text Chunking body sending on fits = tt

-- what is written for the body, and for the end behind it
pub both : (old between new : Stage) (first second octets : List ℕ) (trailers : List Field) → Continues old first octets [] between → Continues between second [] trailers new → Continues old (first ++ second) octets trailers new
both old between new first second octets trailers one two = λ keep parts ended text pieces sending.
    subst (λ t. Sending keep parts ended t (pieces ++ piece_of octets) trailers new) (append_assoc text first second)
    (subst (λ ps. Sending keep parts ended ((text ++ first) ++ second) ps trailers new) (append-nil (pieces ++ piece_of octets)) (two keep parts ended (text ++ first) (pieces ++ piece_of octets) (one keep parts ended text pieces sending)))

-- as long as the text goes on no trailers are written
pub unended : (old new : Stage) (written octets : List ℕ) (trailers : List Field) → (new ≡ Whole → ⊥) → Continues old written octets [] new → Continues old written octets trailers new
unended old Whole written octets trailers on continues = absurd (on refl)
unended old (Counting left) written octets trailers on continues = continues
unended old (Holding octet) written octets trailers on continues = continues
unended old Chunking written octets trailers on continues = continues

-- ---- a body whose length was declared stands as it came

-- the octets that were waited for came at once
counted : (keep : Bool) (parts : HeadParts) (ended : Bool) (text body : List ℕ) (pieces : List (List ℕ)) (left : ℕ) (trailers : List Field) → length body ≡ left → SentCounting keep parts ended text pieces left → SentWhole keep parts ended (text ++ body) (pieces ++ piece_of body) trailers
counted keep parts ended text body pieces left trailers all s =
    let joined : concat (pieces ++ piece_of body) ≡ concat pieces ++ body = concat_more pieces body in
    let lengths : length (concat (pieces ++ piece_of body)) ≡ length (concat pieces) + length body = ap length joined ∙ length-append (concat pieces) body in
    let sum : length (concat pieces) + left ≡ length (concat (pieces ++ piece_of body)) = omega (arith, lengths, all) in
    let declared : parts.length ≡ Some (length (concat (pieces ++ piece_of body))) = s.declared ∙ ap {A = ℕ} {B = Option ℕ} (λ n. Some n) sum in
    record {
      none_ended = λ e. absurd (let clash : true ≡ false = sym e ∙ s.not_ended in cc);
      full = more_full pieces body s.full;
      has_length = subst (λ (o : Option ℕ). HasLength o (concat (pieces ++ piece_of body))) (sym declared) refl;
      is = ap (λ (t : List ℕ). t ++ body) s.is ∙ append_assoc (head_of keep parts false) (concat pieces) body ∙ ap (λ (rest : List ℕ). head_of keep parts false ++ rest) (sym joined)
          ∙ ap (λ (b : Bool). head_of keep parts b ++ concat (pieces ++ piece_of body)) (sym s.not_ended)
          ∙ ap (λ (o : Option ℕ). head_of keep parts ended ++ content_of o ended (pieces ++ piece_of body) trailers) (sym declared);
    }

-- where the text may not be ended yet, a length was declared
pub ends_counted : (keep : Bool) (parts : HeadParts) (text : List ℕ) (stage : Stage) (body : List ℕ) (trailers : List Field) → Sending keep parts false text [] [] stage → (stage ≡ Whole → ⊥) → (MayFinish stage → ⊥) → HasLength parts.length body → Continues stage body body trailers Whole
ends_counted keep parts text Whole body trailers sending on not_yet fits = absurd (on refl)
ends_counted keep parts text (Counting left) body trailers sending on not_yet fits =
    let same : length body ≡ 0 + left = subst (λ o. HasLength o body) sending.declared fits in
    λ keep' parts' ended text' pieces s. counted keep' parts' ended text' body pieces left trailers (omega (arith, same)) s
ends_counted keep parts text (Holding octet) body trailers sending on not_yet fits = absurd (not_yet tt)
ends_counted keep parts text Chunking body trailers sending on not_yet fits = absurd (not_yet tt)

-- ---- a request that waits, as it lies in one piece of memory

module _ (route head body : ℕ) (sender : Stage) (items octets : List ℕ) (trailers : List Field) where
  abbrev kept : Request
  kept = record { route = route; text = take head items; stage = sender; body = drop body items }

  -- of a declared length its body stands as it came, right behind the head
  pub ends_as_it_is : (request : Request) (text : List ℕ) → kept ≡ request → body ≡ head → text ≡ items ++ octets → MayEnd request octets → (MayFinish sender → ⊥) → IsEnded request octets trailers text
  ends_as_it_is request text view joined is may not_yet = subst (λ (r : Request). MayEnd r octets → IsEnded r octets trailers text) view (λ m. record {
    written = drop body items ++ octets;
    is = is ∙ ap (λ (os : List ℕ). os ++ octets) (sym (take-append-drop head items) ∙ ap (λ (n : ℕ). take head items ++ drop n items) (sym joined)) ∙ append_assoc (take head items) (drop body items) octets;
    continues = ends_counted m.keep m.parts (take head items) sender (drop body items ++ octets) trailers m.sending m.goes_on not_yet m.has_length;
  }) may

  -- it is written at once, since nothing of its body came before
  pub ends_at_once : (request : Request) (text : List ℕ) → kept ≡ request → length items ≤ body → IsEndedText (take head items) sender octets trailers text → IsEnded request octets trailers text
  ends_at_once request text view all ended = subst (λ (r : Request). IsEnded r octets trailers text) view (record {
    written = ended.0;
    is = ended.1;
    continues = subst (λ (os : List ℕ). Continues sender ended.0 (os ++ octets) trailers Whole) (sym (drop_all body items all)) ended.2;
  })

  -- and its text was written round them
  pub ends_behind : (request : Request) (all text : List ℕ) → kept ≡ request → head ≤ body → body ≤ length items → all ≡ items ++ octets
      → (written : List ℕ) × (text ≡ take head all ++ written) × Continues sender written (drop body all) trailers Whole → IsEnded request octets trailers text
  ends_behind request all text view before within all_is ended = subst (λ (r : Request). IsEnded r octets trailers text) view (record {
    written = ended.0;
    is = ended.1 ∙ ap (λ (os : List ℕ). take head os ++ ended.0) all_is ∙ ap (λ (os : List ℕ). os ++ ended.0) (take-append-le head items octets (omega (arith, before, within)));
    continues = subst (λ (os : List ℕ). Continues sender ended.0 os trailers Whole) (ap (drop body) all_is ∙ drop-append-le body items octets within) ended.2;
  })
