-- What was read and the outbox together: a part that goes moves from one to the other, news join the outbox.
use Rattle.std.proofs.Common.{◌≡◌, ℕ, ◌<◌, ◌≤◌, Bool, true, false, List, [], ◌∷◌, ◌++◌, length, length-append, drop, append_assoc, arith, ◌+◌, ◌-◌, refl, sym, ap, ◌∙◌, subst}
use Rattle.std.specs.Prelude.{◌≢◌, Option, Some, None, is_some}
use Rattle.std.proofs.lemmas.List.{append-nil, append_cancel_left, drop_at, length-drop}
use Rattle.model.specs.Messages.{Field, Item}
use Rattle.model.specs.Messages.Item.{Block, Content}
use Rattle.model.specs.Http2.{pseudo_fields}
use Rattle.model.specs.ResponseHeads.{Head}
use Rattle.model.specs.Deliveries.{End, Delivery, IsSection, AreInterims, AreContents, IsAnswer, IsAnsweredBy, ReadsAs, IsPartBefore, IsPartBehind, IsPart, IsPartOf}
use Rattle.theory_responses.specs.Outbox.{Outbox, end_if, silent, offered_by, Fits, Part, IsNext, weight, left, read_more, IsItemOf, first_head, with_news, grown}
use Rattle.theory_responses.specs.Outbox.Outbox.{Before, Behind, Over}
use Rattle.theory_responses.specs.Outbox.Part.{Early, Final, Octets, Trailing}

-- deliveries of the same parts
pub same_delivery : {hs ks : List Head} {h k : Option Head} {b c : List ℕ} {v w : End} → hs ≡ ks → h ≡ k → b ≡ c → v ≡ w
    → ◌≡◌ {A = Delivery} (record { interims = hs; head = h; body = b; ends = v }) (record { interims = ks; head = k; body = c; ends = w })
same_delivery p q r s = λ i. record { interims = p i; head = q i; body = r i; ends = s i }

-- ---- what was read where no final head was

-- nothing of a body, and no end
pub none_behind : (items : List Item) (read : Delivery) → ReadsAs items read → read.head ≡ None → (read.body ≡ []) × (read.ends ≡ None)
none_behind items read r e = by read.head r.rest r.answer e
  where
    by : (h : Option Head) (rest : List Item) → IsAnsweredBy rest h read.body read.ends → h ≡ None → (read.body ≡ []) × (read.ends ≡ None)
    by None rest a e = (a.1, a.2)
    by (Some head) rest a e = cc

-- nothing stands behind a whole list
pub none_more : {A : Type 0} (xs ys : List A) → xs ++ ys ≡ xs → ys ≡ []
none_more xs ys e = append_cancel_left xs ys [] (e ∙ sym (append-nil xs))

-- ---- a part that goes

-- of nothing no part goes
pub no_next : (box : Outbox) (part : Part) → IsNext box part → box ≡ silent → ⊥
no_next box part n e = by part (subst (λ b. IsNext b part) e n)
  where
    by : (part : Part) → IsNext silent part → ⊥
    by (Early sent) n = n
    by (Final sent ends) n = let clash : ◌≡◌ {A = Option Head} None (Some sent) = n.0 in cc
    by (Octets octets ends) n = n
    by (Trailing fields) n = n

-- what is on offer stays
pub offer_stays : (items : List Item) (read : Delivery) (box : Outbox) (part : Part) → ReadsAs items read → Fits read box → IsNext box part → offered_by (read_more read part) (left box part) ≡ offered_by read box
offer_stays items read (Before (first ∷ hs) head body whole) (Early sent) r f n =
    same_delivery (append_assoc read.interims (sent ∷ []) hs ∙ ap (λ x. read.interims ++ x ∷ hs) n) refl refl refl
offer_stays items read (Before [] head body whole) (Final sent true) r f n =
    let none = none_behind items read r f in
    same_delivery (sym (append-nil read.interims)) (sym n.0) (none.0 ∙ sym n.1.0) (sym n.1.1)
offer_stays items read (Before [] head body whole) (Final sent false) r f n =
    let none = none_behind items read r f in
    same_delivery (sym (append-nil read.interims)) (sym n.0) (ap (λ x. x ++ body) none.0) refl
offer_stays items read (Behind body whole) (Octets octets true) r f n =
    same_delivery refl refl (ap (λ x. read.body ++ x) (sym (append-nil octets) ∙ ap (λ x. octets ++ x) (sym n.2.0) ∙ sym n.1)) (sym n.2.1)
offer_stays items read (Behind body whole) (Octets octets false) r f n =
    let rest : drop (length octets) body ≡ n.0 = ap (drop (length octets)) n.1 ∙ drop_at octets n.0 (length octets) refl in
    same_delivery refl refl (ap (λ x. (read.body ++ octets) ++ x) rest ∙ append_assoc read.body octets n.0 ∙ ap (λ x. read.body ++ x) (sym n.1)) refl
offer_stays items read (Behind body whole) (Trailing fields) r f n =
    same_delivery refl refl (sym (ap (λ x. read.body ++ x) n.0 ∙ append-nil read.body)) (sym n.1)
offer_stays items read (Before (first ∷ hs) head body whole) (Final sent ends) r f n = absurd n
offer_stays items read (Before (first ∷ hs) head body whole) (Octets octets ends) r f n = absurd n
offer_stays items read (Before [] head body whole) (Early sent) r f n = absurd n
offer_stays items read (Before [] head body whole) (Octets octets ends) r f n = absurd n
offer_stays items read (Before (first ∷ hs) head body whole) (Trailing fields) r f n = absurd n
offer_stays items read (Before [] head body whole) (Trailing fields) r f n = absurd n
offer_stays items read (Behind body whole) (Early sent) r f n = absurd n
offer_stays items read (Behind body whole) (Final sent ends) r f n = absurd n
offer_stays items read Over part r f n = absurd n

-- the outbox still fits
pub fits_left : (items : List Item) (read : Delivery) (box : Outbox) (part : Part) → ReadsAs items read → Fits read box → IsNext box part → Fits (read_more read part) (left box part)
fits_left items read (Before (first ∷ hs) head body whole) (Early sent) r f n = f
fits_left items read (Before [] head body whole) (Final sent true) r f n = (refl, refl)
fits_left items read (Before [] head body whole) (Final sent false) r f n = (refl, refl)
fits_left items read (Behind body whole) (Octets octets true) r f n = (f.0, refl)
fits_left items read (Behind body whole) (Octets octets false) r f n = (f.0, refl)
fits_left items read (Behind body whole) (Trailing fields) r f n = (f.0, refl)
fits_left items read (Before (first ∷ hs) head body whole) (Final sent ends) r f n = absurd n
fits_left items read (Before (first ∷ hs) head body whole) (Octets octets ends) r f n = absurd n
fits_left items read (Before [] head body whole) (Early sent) r f n = absurd n
fits_left items read (Before [] head body whole) (Octets octets ends) r f n = absurd n
fits_left items read (Before (first ∷ hs) head body whole) (Trailing fields) r f n = absurd n
fits_left items read (Before [] head body whole) (Trailing fields) r f n = absurd n
fits_left items read (Behind body whole) (Early sent) r f n = absurd n
fits_left items read (Behind body whole) (Final sent ends) r f n = absurd n
fits_left items read Over part r f n = absurd n

-- less is left
pub weight_less : (box : Outbox) (part : Part) → IsNext box part → weight (left box part) < weight box
weight_less (Before (first ∷ hs) head body whole) (Early sent) n = omega arith
weight_less (Before [] head body whole) (Final sent true) n = omega arith
weight_less (Before [] head body whole) (Final sent false) n = omega arith
weight_less (Behind body whole) (Octets octets true) n = omega arith
weight_less (Behind body whole) (Octets (octet ∷ octets) false) n =
    let all : length body ≡ length (octet ∷ octets) + length n.0 = ap length n.1 ∙ length-append (octet ∷ octets) n.0 in
    let rest : length (drop (length (octet ∷ octets)) body) ≡ length body - length (octet ∷ octets) = length-drop (length (octet ∷ octets)) body in
    omega (arith, all, rest)
weight_less (Behind body whole) (Octets [] false) n = let clash : false ≡ true = n.3 refl in cc
weight_less (Before (first ∷ hs) head body whole) (Final sent ends) n = absurd n
weight_less (Before (first ∷ hs) head body whole) (Octets octets ends) n = absurd n
weight_less (Before [] head body whole) (Early sent) n = absurd n
weight_less (Before [] head body whole) (Octets octets ends) n = absurd n
weight_less (Behind body whole) (Trailing fields) n = omega arith
weight_less (Before (first ∷ hs) head body whole) (Trailing fields) n = absurd n
weight_less (Before [] head body whole) (Trailing fields) n = absurd n
weight_less (Behind body whole) (Early sent) n = absurd n
weight_less (Behind body whole) (Final sent ends) n = absurd n
weight_less Over part n = absurd n

-- ---- the client reads the part

-- one interim head more
interims_more : (items : List Item) (heads : List Head) (fields : List _) (head : Head) → AreInterims items heads → IsSection fields head → head.status < 200 → AreInterims (items ++ Block fields false ∷ []) (heads ++ head ∷ [])
interims_more [] [] fields head a s l = (s, l, tt)
interims_more [] (h ∷ hs) fields head a s l = absurd a
interims_more (Block fs false ∷ items) (h ∷ hs) fields head a s l = (a.0, a.1, interims_more items hs fields head a.2 s l)
interims_more (Block fs false ∷ items) [] fields head a s l = absurd a
interims_more (Block fs true ∷ items) hs fields head a s l = absurd a
interims_more (Content octets ends ∷ items) hs fields head a s l = absurd a

-- octets more, behind octets that didn't end the stream
contents_more : (items : List Item) (body octets : List ℕ) (ends : Bool) → AreContents items body None → AreContents (items ++ Content octets ends ∷ []) (body ++ octets) (end_if ends)
contents_more [] body octets true a = (refl, ap (λ x. x ++ octets) a.0, refl)
contents_more [] body octets false a = ([], ap (λ x. x ++ octets) a.0 ∙ sym (append-nil octets), (refl, refl))
contents_more (Content some false ∷ items) body octets ends a =
    (a.0 ++ octets, ap (λ x. x ++ octets) a.1 ∙ append_assoc some a.0 octets, contents_more items a.0 octets ends a.2)
contents_more (Content some true ∷ items) body octets ends a = let clash : ◌≡◌ {A = End} None (Some []) = a.2 in cc
contents_more (Block fields true ∷ items) body octets ends a = let clash : ◌≡◌ {A = End} None (Some fields) = a.2 in cc
contents_more (Block fields false ∷ items) body octets ends a = absurd a

-- trailers behind them
contents_end : (items : List Item) (body : List ℕ) (fields : List Field) → fields ≢ [] → pseudo_fields fields ≡ [] → AreContents items body None → AreContents (items ++ Block fields true ∷ []) body (Some fields)
contents_end [] body fields some plain a = (refl, a.0, refl, some, plain)
contents_end (Content octets false ∷ items) body fields some plain a = (a.0, a.1, contents_end items a.0 fields some plain a.2)
contents_end (Content octets true ∷ items) body fields some plain a = let clash : ◌≡◌ {A = End} None (Some []) = a.2 in cc
contents_end (Block others true ∷ items) body fields some plain a = let clash : ◌≡◌ {A = End} None (Some others) = a.2 in cc
contents_end (Block others false ∷ items) body fields some plain a = absurd a

-- the same behind a final head
answer_more : (items : List Item) (head : Head) (body octets : List ℕ) (ends : Bool) → IsAnswer items head body None → IsAnswer (items ++ Content octets ends ∷ []) head (body ++ octets) (end_if ends)
answer_more [] head body octets ends a = absurd a
answer_more (Block fields false ∷ items) head body octets ends a = (a.0, a.1, contents_more items body octets ends a.2)
answer_more (Block fields true ∷ items) head body octets ends a = let clash : ◌≡◌ {A = End} None (Some []) = a.4 in cc
answer_more (Content some last ∷ items) head body octets ends a = absurd a

answer_end : (items : List Item) (head : Head) (body : List ℕ) (fields : List Field) → fields ≢ [] → pseudo_fields fields ≡ [] → IsAnswer items head body None → IsAnswer (items ++ Block fields true ∷ []) head body (Some fields)
answer_end [] head body fields some plain a = absurd a
answer_end (Block others false ∷ items) head body fields some plain a = (a.0, a.1, contents_end items body fields some plain a.2)
answer_end (Block others true ∷ items) head body fields some plain a = let clash : ◌≡◌ {A = End} None (Some []) = a.4 in cc
answer_end (Content octets last ∷ items) head body fields some plain a = absurd a

answered_more : (items : List Item) (head : Option Head) (body octets : List ℕ) (ends : Bool) (end : End) → is_some head ≡ true → end ≡ None → IsAnsweredBy items head body end → IsAnsweredBy (items ++ Content octets ends ∷ []) head (body ++ octets) (end_if ends)
answered_more items None body octets ends end some on a = let clash : false ≡ true = some in cc
answered_more items (Some head) body octets ends end some on a = answer_more items head body octets ends (subst (IsAnswer items head body) on a)

answered_end : (items : List Item) (head : Option Head) (body : List ℕ) (fields : List Field) (end : End) → fields ≢ [] → pseudo_fields fields ≡ [] → is_some head ≡ true → end ≡ None → IsAnsweredBy items head body end → IsAnsweredBy (items ++ Block fields true ∷ []) head body (Some fields)
answered_end items None body fields end more plain some on a = let clash : false ≡ true = some in cc
answered_end items (Some head) body fields end more plain some on a = answer_end items head body fields more plain (subst (IsAnswer items head body) on a)

-- no final head was read: nothing stands behind the interim heads
none_answered : (rest : List Item) (head : Option Head) (body : List ℕ) (end : End) → head ≡ None → IsAnsweredBy rest head body end → rest ≡ []
none_answered rest None body end e a = a.0
none_answered rest (Some head) body end e a = cc

-- the final head alone
first_answer : (fields : List _) (head : Head) (body : List ℕ) (ends : Bool) → body ≡ [] → IsSection fields head → 200 ≤ head.status → IsAnswer (Block fields ends ∷ []) head body (end_if ends)
first_answer fields head body true e s l = (s, l, refl, e, refl)
first_answer fields head body false e s l = (s, l, (e, refl))

pub reads_more : (items : List Item) (item : Item) (read : Delivery) (box : Outbox) (part : Part) → ReadsAs items read → Fits read box → IsNext box part → IsItemOf item part → ReadsAs (items ++ item ∷ []) (read_more read part)
reads_more items (Block fields ends) read (Before (first ∷ hs) head body whole) (Early sent) r f n i =
    let none : r.rest ≡ [] = none_answered r.rest read.head read.body read.ends f r.answer in
    let all : items ≡ r.interim_items = r.is ∙ ap (λ x. r.interim_items ++ x) none ∙ append-nil r.interim_items in
    record {
      interim_items = r.interim_items ++ Block fields false ∷ [];
      rest = [];
      is = ap (λ x. items ++ Block fields x ∷ []) i.0 ∙ ap (λ x. x ++ Block fields false ∷ []) all ∙ sym (append-nil (r.interim_items ++ Block fields false ∷ []));
      interims = interims_more r.interim_items read.interims fields sent r.interims i.1 i.2;
      answer = subst (λ x. IsAnsweredBy x read.head read.body read.ends) none r.answer;
    }
reads_more items (Block fields ends) read (Before [] head body whole) (Final sent last) r f n i =
    let none : r.rest ≡ [] = none_answered r.rest read.head read.body read.ends f r.answer in
    let all : items ≡ r.interim_items = r.is ∙ ap (λ x. r.interim_items ++ x) none ∙ append-nil r.interim_items in
    record {
      interim_items = r.interim_items;
      rest = Block fields last ∷ [];
      is = ap (λ x. items ++ Block fields x ∷ []) i.0 ∙ ap (λ x. x ++ Block fields last ∷ []) all;
      interims = r.interims;
      answer = first_answer fields sent read.body last (none_behind items read r f).0 i.1 i.2;
    }
reads_more items (Content octets ends) read (Behind body whole) (Octets some last) r f n i = record {
  interim_items = r.interim_items;
  rest = r.rest ++ Content some last ∷ [];
  is = ap (λ x. items ++ Content x ends ∷ []) i.0 ∙ ap (λ x. items ++ Content some x ∷ []) i.1 ∙ ap (λ x. x ++ Content some last ∷ []) r.is ∙ append_assoc r.interim_items r.rest (Content some last ∷ []);
  interims = r.interims;
  answer = answered_more r.rest read.head read.body some last read.ends f.0 f.1 r.answer;
}
reads_more items (Block fields ends) read (Behind body whole) (Trailing trailers) r f n i = record {
  interim_items = r.interim_items;
  rest = r.rest ++ Block fields true ∷ [];
  is = ap (λ x. items ++ Block fields x ∷ []) i.0 ∙ ap (λ x. x ++ Block fields true ∷ []) r.is ∙ append_assoc r.interim_items r.rest (Block fields true ∷ []);
  interims = r.interims;
  answer = subst (λ x. IsAnsweredBy (r.rest ++ Block fields true ∷ []) read.head read.body (Some x)) i.1
      (answered_end r.rest read.head read.body fields read.ends (λ none. n.2 (sym i.1 ∙ none)) i.2 f.0 f.1 r.answer);
}
reads_more items (Content octets ends) read box (Early sent) r f n i = absurd i
reads_more items (Content octets ends) read box (Final sent last) r f n i = absurd i
reads_more items (Content octets ends) read box (Trailing fields) r f n i = absurd i
reads_more items (Block fields ends) read box (Octets octets last) r f n i = absurd i
reads_more items item read (Before (first ∷ hs) head body whole) (Final sent ends) r f n i = absurd n
reads_more items item read (Before (first ∷ hs) head body whole) (Octets octets ends) r f n i = absurd n
reads_more items item read (Before [] head body whole) (Early sent) r f n i = absurd n
reads_more items item read (Before [] head body whole) (Octets octets ends) r f n i = absurd n
reads_more items item read (Before (first ∷ hs) head body whole) (Trailing fields) r f n i = absurd n
reads_more items item read (Before [] head body whole) (Trailing fields) r f n i = absurd n
reads_more items item read (Behind body whole) (Early sent) r f n i = absurd n
reads_more items item read (Behind body whole) (Final sent ends) r f n i = absurd n
reads_more items item read Over part r f n i = absurd n

-- ---- what was read is a part of what is on offer

part_before : (h : Option Head) (part all : Delivery) → h ≡ None → IsPartBefore part all → IsPart h part all
part_before None part all e p = p
part_before (Some head) part all e p = cc

part_behind : (h : Option Head) (part all : Delivery) → is_some h ≡ true → ((head : Head) → h ≡ Some head → IsPartBehind part all head) → IsPart h part all
part_behind None part all some p = let clash : false ≡ true = some in cc
part_behind (Some head) part all some p = p head refl

pub is_part : (items : List Item) (read : Delivery) (box : Outbox) → ReadsAs items read → Fits read box → IsPartOf read (offered_by read box)
is_part items read (Before hs head body whole) r f =
    let none = none_behind items read r f in
    part_before read.head read (offered_by read (Before hs head body whole)) f (record { more = hs; interims = refl; no_body = none.0; not_ended = none.1 })
is_part items read (Behind body whole) r f =
    part_behind read.head read (offered_by read (Behind body whole)) f.0 (λ head is. record { interims = refl; head_is = is; body = record { rest = body; is = refl }; ended = λ trailers w. let clash : ◌≡◌ {A = End} None (Some trailers) = sym f.1 ∙ w in cc })
is_part items read Over r f = part_behind read.head read read f.0 (λ head is. record { interims = refl; head_is = is; body = record { rest = []; is = sym (append-nil read.body) }; ended = λ trailers w. (w, refl) })

-- ---- news join the outbox

-- where the response wasn't whole, and no interim head comes behind a final one
pub news_join : (read : Delivery) (box : Outbox) (news : Delivery) → Fits read box → (offered_by read box).ends ≡ None → (is_some (offered_by read box).head ≡ true → news.interims ≡ [])
    → with_news (offered_by read box) news ≡ offered_by read (grown box news)
news_join read (Before hs head body (Some trailers)) news f w late = let clash : ◌≡◌ {A = End} (Some trailers) None = w in cc
news_join read (Before hs head body None) news f w late = same_delivery (append_assoc read.interims hs news.interims) refl refl refl
news_join read (Behind body (Some trailers)) news f w late = let clash : ◌≡◌ {A = End} (Some trailers) None = w in cc
news_join read (Behind body None) news f w late = same_delivery (ap (λ x. read.interims ++ x) (late f.0) ∙ append-nil read.interims) (stays read.head f.0) (append_assoc read.body body news.body) refl
  where
    stays : (h : Option Head) → is_some h ≡ true → first_head h news.head ≡ h
    stays None e = let clash : false ≡ true = e in cc
    stays (Some head) e = refl
news_join read Over news f w late = let clash : true ≡ false = sym f.1 ∙ ap is_some w in cc

pub fits_grown : (read : Delivery) (box : Outbox) (news : Delivery) → Fits read box → Fits read (grown box news)
fits_grown read (Before hs head body whole) news f = f
fits_grown read (Behind body whole) news f = f
fits_grown read Over news f = f
