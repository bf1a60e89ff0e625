-- A final head was sent just where one was read, and else the heads that were sent are those that were read; where nothing was
-- heard, nothing is on offer.
use Rattle.std.proofs.Common.{◌≡◌, ℕ, ◌<◌, ◌≤◌, ◌+◌, Bool, true, false, List, [], ◌∷◌, ◌++◌, length, length-append, refl, sym, ap, ◌∙◌, inr, arith}
use Rattle.std.specs.Prelude.{Option, Some, None, is_some, codes, nat_le, ◌||◌}
use Rattle.std.specs.List.{list_any}
use Rattle.std.specs.Str.Parse.{digits_value}
use Rattle.std.proofs.lemmas.List.{append-nil}
use Rattle.std.proofs.lemmas.Bool.{le-leb, lt-leb}
use Rattle.httparse.specs.Grammar as grammar
use Rattle.httparse.specs.Grammar.{HasNoResponse}
use Rattle.model.specs.Messages.{Field, Item}
use Rattle.model.specs.Messages.Item.{Block, Content}
use Rattle.model.specs.Http1.{values_of}
use Rattle.model.specs.Http2.{first_of}
use Rattle.model.specs.ResponseHeads.{Head}
use Rattle.model.specs.Setup.{Passing}
use Rattle.model.specs.Setup.Passing.{Whole, Streaming}
use Rattle.model.specs.Deliveries.{End, Delivery, nothing, head_said, heads_in, IsSection, AreInterims, IsAnsweredBy, ReadsAs}
use Rattle.model.specs.Available.{shown, IsShown}
use Rattle.model.specs.Courses.{is_final}
use Rattle.model.proofs.OfferLemmas.{nothing_complete}

-- the status of a section
status_there : (fields : List Field) (head : Head) → IsSection fields head → digits_value 10 (first_of (values_of (codes ":status") fields)) ≡ head.status
status_there fields head s = ap (λ (x : List Field). digits_value 10 (first_of (values_of (codes ":status") x))) s.is ∙ sym s.status

final_test : (fields : List Field) (ends : Bool) (head : Head) → IsSection fields head → 200 ≤ head.status → is_final (Block fields ends) ≡ true
final_test fields ends head s le = ap (λ n. nat_le 200 n) (status_there fields head s) ∙ le-leb 200 head.status le

interim_test : (fields : List Field) (ends : Bool) (head : Head) → IsSection fields head → head.status < 200 → is_final (Block fields ends) ≡ false
interim_test fields ends head s lt = ap (λ n. nat_le 200 n) (status_there fields head s) ∙ lt-leb 200 head.status lt

-- interim heads are passed over
past_interims : (items rest : List Item) (heads : List Head) → AreInterims items heads → list_any is_final (items ++ rest) ≡ list_any is_final rest
past_interims [] rest heads a = refl
past_interims (Block fields false ∷ items) rest (h ∷ hs) a = ap (λ b. b || list_any is_final (items ++ rest)) (interim_test fields false h a.0 a.1) ∙ past_interims items rest hs a.2
past_interims (Block fields false ∷ items) rest [] a = absurd a
past_interims (Block fields true ∷ items) rest hs a = absurd a
past_interims (Content octets ends ∷ items) rest hs a = absurd a

answer_test : (items : List Item) (head : Option Head) (body : List ℕ) (ends : End) → IsAnsweredBy items head body ends → list_any is_final items ≡ is_some head
answer_test items None body end a = ap (list_any is_final) a.0
answer_test [] (Some head) body end a = absurd a
answer_test (Block fields true ∷ items) (Some head) body end a = ap (λ b. b || list_any is_final items) (final_test fields true head a.0 a.1)
answer_test (Block fields false ∷ items) (Some head) body end a = ap (λ b. b || list_any is_final items) (final_test fields false head a.0 a.1)
answer_test (Content octets ends ∷ items) (Some head) body end a = absurd a

pub out_by_read : (items : List Item) (read : Delivery) → ReadsAs items read → list_any is_final items ≡ is_some read.head
out_by_read items read r = ap (list_any is_final) r.is ∙ past_interims r.interim_items r.rest read.interims r.interims ∙ answer_test r.rest read.head read.body read.ends r.answer

-- the head of a section is the one that it says
head_is_said : (fields : List Field) (head : Head) → IsSection fields head → head_said fields ≡ head
head_is_said fields head s = ap head_said s.is ∙ (λ i. record { status = sym s.status i; fields = head.fields })

-- interim heads are those that their items say
interims_said : (items : List Item) (heads : List Head) → AreInterims items heads → heads_in items ≡ heads
interims_said [] [] a = refl
interims_said [] (h ∷ hs) a = absurd a
interims_said (Block fields false ∷ items) (h ∷ hs) a = ap (λ x. x ∷ heads_in items) (head_is_said fields h a.0) ∙ ap (λ x. h ∷ x) (interims_said items hs a.2)
interims_said (Block fields false ∷ items) [] a = absurd a
interims_said (Block fields true ∷ items) hs a = absurd a
interims_said (Content octets ends ∷ items) hs a = absurd a

-- where no final head was read, the heads that were sent are the interim heads that were read
pub heads_by_read : (items : List Item) (read : Delivery) → ReadsAs items read → read.head ≡ None → heads_in items ≡ read.interims
heads_by_read items read r none =
    let alone : r.rest ≡ [] = none_left r.rest read.head none r.answer in
    ap heads_in (r.is ∙ ap (λ x. r.interim_items ++ x) alone ∙ append-nil r.interim_items) ∙ interims_said r.interim_items read.interims r.interims
  where
    none_left : (rest : List Item) (head : Option Head) → head ≡ None → IsAnsweredBy rest head read.body read.ends → rest ≡ []
    none_left rest None e a = a.0
    none_left rest (Some head) e a = cc

-- no items read as nothing
pub nothing_reads : ReadsAs [] nothing
nothing_reads = record { interim_items = []; rest = []; is = refl; interims = tt; answer = (refl, refl, refl) }

-- nothing is no head
no_head_yet : HasNoResponse []
unfolding grammar.print_response
no_head_yet h rest p =
    let e : 0 ≡ length (grammar.print_response h) + length rest = ap length p.1 ∙ length-append (grammar.print_response h) rest in
    let some : 0 < length (grammar.print_response h) = simp length-append (omega arith) in
    omega (arith, e, some)

-- of nothing nothing is on offer
pub nothing_shown : (passing : Passing) (to_head : Bool) → IsShown passing [] false to_head nothing
nothing_shown passing to_head =
    inr (record {
      interims = [];
      head = None;
      octets = [];
      not_whole = nothing_complete false to_head;
      seen = (record { front = []; rest = []; is = refl; are_interims = refl; few_interims = omega arith; no_head = no_head_yet }, refl);
      says = by passing;
    })
  where
    by : (p : Passing) → nothing ≡ shown p [] None []
    by Whole = refl
    by Streaming = refl
