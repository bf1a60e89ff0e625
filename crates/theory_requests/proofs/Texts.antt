-- What a text that was written means: the whole request, or a part of it.
use Rattle.std.proofs.Common.{◌≡◌, ℕ, ◌+◌, Bool, true, false, ◌||◌, List, [], ◌∷◌, ◌++◌, length, refl, sym, ap, ◌∙◌, subst, append-nil, arith, inl, inr, length-append}
use Rattle.std.specs.Prelude.{◌⊎◌, replicate}
use Rattle.std.specs.List.{concat, list_any}
use Rattle.std.proofs.lemmas.Bool.{cases_Bool}
use Rattle.std.proofs.lemmas.List.{length-replicate}
use Rattle.model.specs.Octets.{IsFront}
use Rattle.model.specs.Messages.{Field, Request, Item, ends_with}
use Rattle.model.specs.Messages.Item.{Block, Content}
use Rattle.model.specs.Http1.{H1Request, H1Requests, H1Kept, forward}
use Rattle.model.specs.Http2.{HasHead, HasLength, body_of, declared_length, request_of, first_block, trailers_of, passed_trailers, EndsWithLast, H2Request}
use Rattle.theory_requests.proofs.Standing.{IsSentWhole, IsSentInPart}
use Rattle.request_rules.specs.Heads.{parts_of, IsRequestHead}
use Rattle.h1_writer.specs.Sending.{Stage, Sending, GoesOnTo}
use Rattle.h1_writer.specs.Sending.Stage.{Whole, Counting, Holding, Chunking}
use Rattle.h1_writer.proofs.Wholes.{whole_read, unfinished_front, unfinished_none}
use Rattle.theory_requests.specs.Written.{IsWritten}
use Rattle.theory_requests.specs.State.{is_whole}
use Rattle.theory_requests.proofs.Coming.{come_in_chunks, has_come}
use Rattle.theory_requests.proofs.Trailing.{no_trailers, trailers_well, bare}

-- a text that reads as one request, as a run of requests
pub one_request_text : (text : List ℕ) (r : Request) → H1Request text r → H1Requests text (r ∷ []) []
one_request_text text r h = record {
  front = text;
  is = sym (append-nil text);
  are_requests = h;
  no_more = λ front more request reads is. no_text front more request reads is;
}
  where
    no_text : (front more : List ℕ) (request : Request) → H1Request front request → [] ≡ front ++ more → ⊥
    no_text front more request reads is =
        let size : 0 ≡ length front + length more = ap length is ∙ length-append front more in
        let parts : length front ≡ length reads.head_text + length reads.content = ap length reads.is ∙ length-append reads.head_text reads.content in
        let head = reads.has_head in
        let whole : length reads.head_text ≡ length head.lines + (length reads.head.method + (length reads.head.target + 14)) = ap length head.is ∙ simp length-append (omega arith) in
        omega arith

-- a stage is the last one or isn't
pub cases_stage : (stage : Stage) → (stage ≡ Whole) ⊎ (stage ≡ Whole → ⊥)
cases_stage Whole = inl refl
cases_stage (Counting left) = inr (λ e. cc)
cases_stage (Holding octet) = inr (λ e. cc)
cases_stage Chunking = inr (λ e. cc)

-- so the test of a stage tells it
pub part_told : (stage : Stage) → is_whole stage ≡ false → stage ≡ Whole → ⊥
part_told stage e whole = let clash : true ≡ false = sym (ap is_whole whole) ∙ e in cc

pub part_tells : (stage : Stage) → (stage ≡ Whole → ⊥) → is_whole stage ≡ false
part_tells Whole part = absurd (part refl)
part_tells (Counting left) part = refl
part_tells (Holding octet) part = refl
part_tells Chunking part = refl

pub whole_told : (stage : Stage) → is_whole stage ≡ true → stage ≡ Whole
whole_told Whole e = refl
whole_told (Counting left) e = absurd (cc)
whole_told (Holding octet) e = absurd (cc)
whole_told Chunking e = absurd (cc)

-- items of which none ends the stream don't end with the last
pub none_end : (items : List Item) → list_any ends_with items ≡ false → EndsWithLast items → ⊥
none_end [] none ends = ends
none_end (Block fields b ∷ []) none ends = let clash : true ≡ false = sym (ap (λ x. x || false) ends) ∙ none in cc
none_end (Content octets b ∷ []) none ends = let clash : true ≡ false = sym (ap (λ x. x || false) ends) ∙ none in cc
none_end (Block fields b ∷ next ∷ items) none ends = none_end (next ∷ items) (sym (ap (λ x. x || list_any ends_with (next ∷ items)) ends.0) ∙ none) ends.1
none_end (Content octets b ∷ next ∷ items) none ends = none_end (next ∷ items) (sym (ap (λ x. x || list_any ends_with (next ∷ items)) ends.0) ∙ none) ends.1

-- of items that end with the last one ends the stream
pub one_ends : (items : List Item) → EndsWithLast items → list_any ends_with items ≡ true
one_ends items ends = elim (cases_Bool (list_any ends_with items)) [ inl one ↦ one | inr none ↦ absurd (none_end items none ends) ]

-- so they are no request
pub no_request : (items : List Item) (request : Request) → list_any ends_with items ≡ false → H2Request items request → ⊥
no_request items request none means = none_end items none means.ends

module _ (keep : Bool) (items : List Item) (text : List ℕ) (stage : Stage) (w : IsWritten keep items text stage) where
  right : IsRequestHead (parts_of w.head)
  right = record { head = w.head; well_formed = w.well_formed; no_connect = w.no_connect; is = refl }

  body_is : body_of items ≡ concat w.pieces
  body_is = ap body_of w.is ∙ sym w.body

  has_head : HasHead items w.head
  has_head = subst (λ xs. HasHead xs w.head) (sym w.is) refl

  -- the head of the items is the one that was written
  pub one_head : (head : List Field) → HasHead items head → w.head ≡ head
  one_head head has = subst (λ xs. HasHead xs head) w.is has

  -- ---- whole

  length_whole : Sending keep (parts_of w.head) w.ended text w.pieces (passed_trailers (first_block w.more)) Whole → HasLength (declared_length w.head) (concat w.pieces)
  length_whole s = s.has_length

  trailers_are : trailers_of items ≡ first_block w.more
  trailers_are = ap trailers_of w.is

  pub sent_whole : stage ≡ Whole → IsSentWhole keep text items
  sent_whole e =
      let s : Sending keep (parts_of w.head) w.ended text w.pieces (passed_trailers (first_block w.more)) Whole = subst (λ x. Sending keep (parts_of w.head) w.ended text w.pieces (passed_trailers (first_block w.more)) x) e w.sending in
      let reads : H1Kept keep text (forward (request_of w.head (concat w.pieces) (first_block w.more))) = whole_read keep (parts_of w.head) w.ended text w.pieces (first_block w.more) right (trailers_well w.more w.contents) s in
      record {
        request = request_of w.head (body_of items) (trailers_of items);
        means = record {
          head = w.head;
          has_head = has_head;
          well_formed = w.well_formed;
          no_connect = w.no_connect;
          contents = subst (λ xs. Rattle.model.specs.Http2.HasContents xs) (sym w.is) w.contents;
          ends = w.ends e;
          length_holds = subst (λ b. HasLength (declared_length w.head) b) (sym body_is) (length_whole s);
          is = refl;
        };
        reads = subst (λ l. H1Kept keep text (forward (request_of w.head (body_of items) l))) (sym trailers_are) (subst (λ b. H1Kept keep text (forward (request_of w.head b (first_block w.more)))) (sym body_is) reads);
      }

  -- ---- in part

  -- octets that make the body as long as declared
  filled : (stage : Stage) → Sending keep (parts_of w.head) w.ended text w.pieces [] stage → (stage ≡ Whole → ⊥) → (more : List ℕ) × HasLength (declared_length w.head) (concat w.pieces ++ more)
  filled Whole s part = absurd (part refl)
  filled (Counting left) s part = (replicate left 0, subst (λ d. HasLength d (concat w.pieces ++ replicate left 0)) (sym s.declared) (length-append (concat w.pieces) (replicate left 0) ∙ ap (λ n. length (concat w.pieces) + n) (length-replicate left 0)))
  filled (Holding octet) s part = ([], subst (λ d. HasLength d (concat w.pieces ++ [])) (sym s.declared) (ap length (append-nil (concat w.pieces))))
  filled Chunking s part = ([], subst (λ d. HasLength d (concat w.pieces ++ [])) (sym s.undeclared) tt)

  pub sent_in_part : (stage ≡ Whole → ⊥) → IsSentInPart keep text items
  sent_in_part part =
      let sends = bare keep items text stage w part in
      let more = filled stage sends part in
      let body : List ℕ = concat w.pieces ++ more.0 in
      record {
        some = (
          request_of w.head body [],
          record { head = w.head; has_head = has_head; begun = record { rest = more.0; is = ap (λ b. b ++ more.0) (sym body_is) }; length_holds = more.1; trailers = []; well_formed = no_trailers; is = refl },
        );
        reads = record { front = []; is = refl; are_requests = refl; no_more = unfinished_none keep (parts_of w.head) w.ended text w.pieces stage right sends part };
        goes_on = λ request may.
            let same : w.head ≡ may.head = one_head may.head may.has_head in
            let goes : GoesOnTo keep (parts_of w.head) text request.body (passed_trailers may.trailers) =
            unfinished_front keep (parts_of w.head) w.ended text w.pieces stage request.body may.trailers right may.well_formed sends part
            (subst (λ b. IsFront b request.body) body_is may.begun) (subst (λ h. HasLength (declared_length h) request.body) (sym same) may.length_holds) in
            let is : request_of w.head request.body may.trailers ≡ request = ap (λ h. request_of h request.body may.trailers) same ∙ sym may.is in
            (goes.whole, subst (λ r. H1Kept keep goes.whole (forward r)) is goes.reads, goes.is_front);
        in_chunks = come_in_chunks text (body_of items) (has_come keep items text stage w part);
      }

  -- either of them
  pub sent_either : IsSentWhole keep text items ⊎ (IsSentInPart keep text items × (list_any ends_with items ≡ false))
  sent_either = elim (cases_stage stage) [
    | inl whole ↦ inl (sent_whole whole)
    | inr part ↦ inr (sent_in_part part, w.goes_on part)
  ]
