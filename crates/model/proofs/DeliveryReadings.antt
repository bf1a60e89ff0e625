-- What a client reads of a stream is determined, and so is the stream that a connection was given to.
use Rattle.std.proofs.Common.{◌≡◌, ℕ, suc, ◌<◌, ◌≤◌, true, false, List, [], ◌∷◌, ◌++◌, length, refl, sym, ap, ◌∙◌, subst, arith, inl, inr}
use Rattle.std.specs.Prelude.{Option, Some, None, codes}
use Rattle.std.specs.Str.Parse.{digits_value}
use Rattle.model.specs.Messages.{Field, Item}
use Rattle.model.specs.Messages.Item.{Block, Content}
use Rattle.model.specs.ResponseHeads.{Head}
use Rattle.model.specs.Deliveries.{End, Delivery, IsSection, AreInterims, AreContents, IsAnswer, IsAnsweredBy, ReadsAs}
use Rattle.model.specs.Openings.{Opened, AreNumbered, IsGivenNone, AreApart}
use Rattle.model.specs.Available.{IsIn}

-- ---- one head

head_of : ℕ → List Field → Head
head_of status fields = record { status = status; fields = fields }

head_same : (a b : Head) → a.status ≡ b.status → a.fields ≡ b.fields → a ≡ b
unfolding head_of
head_same a b s f = ap (λ n. head_of n a.fields) s ∙ ap (λ l. head_of b.status l) f

status_field : List ℕ → Field
status_field digits = record { name = codes ":status"; value = digits }

one_section : (fields : List Field) (a b : Head) → IsSection fields a → IsSection fields b → a ≡ b
unfolding status_field
one_section fields a b p q =
    let whole : status_field p.digits ∷ a.fields ≡ status_field q.digits ∷ b.fields = sym p.is ∙ q.is in
    let rest : a.fields ≡ b.fields = cc in
    let first : status_field p.digits ≡ status_field q.digits = cc in
    let digits : p.digits ≡ q.digits = ap (λ (f : Field). f.value) first in
    head_same a b (p.status ∙ ap (digits_value 10) digits ∙ sym q.status) rest

-- ---- one answer

pub record SameBody (b c : List ℕ) (v w : End) : Type 0 where
  pub body : b ≡ c
  pub ends : v ≡ w

one_body : (items : List Item) (b c : List ℕ) (v w : End) → AreContents items b v → AreContents items c w → SameBody b c v w
one_body [] b c v w p q = record { body = p.0 ∙ sym q.0; ends = p.1 ∙ sym q.1 }
one_body (Content octets true ∷ items) b c v w p q = record { body = p.1 ∙ sym q.1; ends = p.2 ∙ sym q.2 }
one_body (Content octets false ∷ items) b c v w p q =
    let more = one_body items p.0 q.0 v w p.2 q.2 in
    record { body = p.1 ∙ ap (λ l. octets ++ l) more.body ∙ sym q.1; ends = more.ends }
one_body (Block fields true ∷ items) b c v w p q = record { body = p.1 ∙ sym q.1; ends = p.2 ∙ sym q.2 }
one_body (Block fields false ∷ items) b c v w p q = absurd p

pub record SameAnswer (h k : Option Head) (b c : List ℕ) (v w : End) : Type 0 where
  pub head : h ≡ k
  pub body : b ≡ c
  pub ends : v ≡ w

one_answer : (items : List Item) (h k : Head) (b c : List ℕ) (v w : End) → IsAnswer items h b v → IsAnswer items k c w → SameAnswer (Some h) (Some k) b c v w
one_answer [] h k b c v w p q = absurd p
one_answer (Block fields true ∷ items) h k b c v w p q =
    record { head = ap (λ x. Some x) (one_section fields h k p.0 q.0); body = p.3 ∙ sym q.3; ends = p.4 ∙ sym q.4 }
one_answer (Block fields false ∷ items) h k b c v w p q =
    let more = one_body items b c v w p.2 q.2 in
    record { head = ap (λ x. Some x) (one_section fields h k p.0 q.0); body = more.body; ends = more.ends }
one_answer (Content octets ends ∷ items) h k b c v w p q = absurd p

no_answer_of_none : (items : List Item) (h : Head) (b : List ℕ) (v : End) → items ≡ [] → IsAnswer items h b v → ⊥
no_answer_of_none [] h b v e p = p
no_answer_of_none (item ∷ items) h b v e p = cc

one_answered : (items : List Item) (h k : Option Head) (b c : List ℕ) (v w : End) → IsAnsweredBy items h b v → IsAnsweredBy items k c w → SameAnswer h k b c v w
one_answered items None None b c v w p q = record { head = refl; body = p.1 ∙ sym q.1; ends = p.2 ∙ sym q.2 }
one_answered items None (Some k) b c v w p q = absurd (no_answer_of_none items k c w p.0 q)
one_answered items (Some h) None b c v w p q = absurd (no_answer_of_none items h b v q.0 p)
one_answered items (Some h) (Some k) b c v w p q = one_answer items h k b c v w p q

-- ---- interim heads, and what stands behind them

-- an interim head begins no answer
not_answer : (fields : List Field) (more : List Item) (head : Head) → IsSection fields head → head.status < 200 → (h : Option Head) (b : List ℕ) (v : End) → IsAnsweredBy (Block fields false ∷ more) h b v → ⊥
not_answer fields more head p low None b v a = let clash : Block fields false ∷ more ≡ (let none : List Item = [] in none) = a.0 in cc
not_answer fields more head p low (Some h) b v a =
    let same : head.status ≡ h.status = ap (λ (x : Head). x.status) (one_section fields head h p a.0) in let high : 200 ≤ h.status = a.1 in omega (arith, low, same, high)

pub record SameReading (hs ks : List Head) (h k : Option Head) (b c : List ℕ) (v w : End) : Type 0 where
  pub interims : hs ≡ ks
  pub answer : SameAnswer h k b c v w

-- the same items read with interim heads in front, from both sides
one_split : (xs ys r s : List Item) (hs ks : List Head) (h k : Option Head) (b c : List ℕ) (v w : End) → xs ++ r ≡ ys ++ s → AreInterims xs hs → AreInterims ys ks → IsAnsweredBy r h b v → IsAnsweredBy s k c w → SameReading hs ks h k b c v w
one_split [] [] r s [] [] h k b c v w e i j p q = record { interims = refl; answer = one_answered s h k b c v w (subst (λ z. IsAnsweredBy z h b v) e p) q }
one_split [] [] r s (x ∷ hs) ks h k b c v w e i j p q = absurd i
one_split [] [] r s [] (x ∷ ks) h k b c v w e i j p q = absurd j
one_split [] (Block fields false ∷ ys) r s hs (y ∷ ks) h k b c v w e i j p q = absurd (not_answer fields (ys ++ s) y j.0 j.1 h b v (subst (λ z. IsAnsweredBy z h b v) e p))
one_split [] (Block fields false ∷ ys) r s hs [] h k b c v w e i j p q = absurd j
one_split [] (Block fields true ∷ ys) r s hs [] h k b c v w e i j p q = absurd j
one_split [] (Block fields true ∷ ys) r s hs (y ∷ ks) h k b c v w e i j p q = absurd j
one_split [] (Content octets ends ∷ ys) r s hs [] h k b c v w e i j p q = absurd j
one_split [] (Content octets ends ∷ ys) r s hs (y ∷ ks) h k b c v w e i j p q = absurd j
one_split (Block fields false ∷ xs) [] r s (x ∷ hs) ks h k b c v w e i j p q = absurd (not_answer fields (xs ++ r) x i.0 i.1 k c w (subst (λ z. IsAnsweredBy z k c w) (sym e) q))
one_split (Block fields false ∷ xs) ys r s [] ks h k b c v w e i j p q = absurd i
one_split (Block fields true ∷ xs) ys r s [] ks h k b c v w e i j p q = absurd i
one_split (Block fields true ∷ xs) ys r s (x ∷ hs) ks h k b c v w e i j p q = absurd i
one_split (Content octets ends ∷ xs) ys r s [] ks h k b c v w e i j p q = absurd i
one_split (Content octets ends ∷ xs) ys r s (x ∷ hs) ks h k b c v w e i j p q = absurd i
one_split (Block fields false ∷ xs) (Block others false ∷ ys) r s (x ∷ hs) (y ∷ ks) h k b c v w e i j p q =
    let rest : xs ++ r ≡ ys ++ s = cc in
    let same : Block fields false ≡ Block others false = cc in
    let lists : fields ≡ others = cc in
    let more = one_split xs ys r s hs ks h k b c v w rest i.2 j.2 p q in
    record { interims = ap (λ z. z ∷ hs) (one_section others x y (subst (λ l. IsSection l x) lists i.0) j.0) ∙ ap (λ z. y ∷ z) more.interims; answer = more.answer }
one_split (Block fields false ∷ xs) (Block others false ∷ ys) r s (x ∷ hs) [] h k b c v w e i j p q = absurd j
one_split (Block fields false ∷ xs) (Block others true ∷ ys) r s (x ∷ hs) [] h k b c v w e i j p q = absurd j
one_split (Block fields false ∷ xs) (Block others true ∷ ys) r s (x ∷ hs) (y ∷ ks) h k b c v w e i j p q = absurd j
one_split (Block fields false ∷ xs) (Content octets ends ∷ ys) r s (x ∷ hs) [] h k b c v w e i j p q = absurd j
one_split (Block fields false ∷ xs) (Content octets ends ∷ ys) r s (x ∷ hs) (y ∷ ks) h k b c v w e i j p q = absurd j

delivery_of : List Head → Option Head → List ℕ → End → Delivery
delivery_of interims head body ends = record { interims = interims; head = head; body = body; ends = ends }

pub one_delivery : (items : List Item) (d e : Delivery) → ReadsAs items d → ReadsAs items e → d ≡ e
unfolding delivery_of
one_delivery items d e p q =
    let same = one_split p.interim_items q.interim_items p.rest q.rest d.interims e.interims d.head e.head d.body e.body d.ends e.ends (sym p.is ∙ q.is) p.interims q.interims p.answer q.answer in
    ap (λ x. delivery_of x d.head d.body d.ends) same.interims
    ∙ ap (λ x. delivery_of e.interims x d.body d.ends) same.answer.head
    ∙ ap (λ x. delivery_of e.interims e.head x d.ends) same.answer.body
    ∙ ap (λ x. delivery_of e.interims e.head e.body x) same.answer.ends

-- ---- connections

-- a connection's number is at most how many were opened
pub number_within : (os : List Opened) (o : Opened) → AreNumbered os → IsIn o os → o.k ≤ length os
number_within [] o n i = absurd i
number_within (p ∷ os) o n (inl same) = let k : o.k ≡ p.k = ap (λ (x : Opened). x.k) same in let first : p.k ≡ suc (length os) = n.0 in omega (arith, k, first)
number_within (p ∷ os) o n (inr is) = let less = number_within os o n.1 is in omega (arith, less)

-- one number, one connection, and so one stream
pub one_number : (os : List Opened) (o p : Opened) → AreNumbered os → IsIn o os → IsIn p os → o.k ≡ p.k → o ≡ p
one_number [] o p n i j e = absurd i
one_number (q ∷ os) o p n (inl a) (inl b) e = a ∙ sym b
one_number (q ∷ os) o p n (inl a) (inr j) e = let k : o.k ≡ q.k = ap (λ (x : Opened). x.k) a in let first : q.k ≡ suc (length os) = n.0 in let less = number_within os p n.1 j in absurd (omega (arith, k, first, less, e))
one_number (q ∷ os) o p n (inr i) (inl b) e = let k : p.k ≡ q.k = ap (λ (x : Opened). x.k) b in let first : q.k ≡ suc (length os) = n.0 in let less = number_within os o n.1 i in absurd (omega (arith, k, first, less, e))
one_number (q ∷ os) o p n (inr i) (inr j) e = one_number os o p n.1 i j e

pub given_none : (os : List Opened) (stream : ℕ) (o : Opened) → IsGivenNone stream os → IsIn o os → stream ≡ o.stream → ⊥
given_none [] stream o n i e = i
given_none (p ∷ os) stream o n (inl same) e = n.0 (e ∙ ap (λ (x : Opened). x.stream) same)
given_none (p ∷ os) stream o n (inr i) e = given_none os stream o n.1 i e

-- one stream, one connection
pub one_connection : (os : List Opened) (o p : Opened) → AreApart os → IsIn o os → IsIn p os → o.stream ≡ p.stream → o ≡ p
one_connection [] o p a i j e = absurd i
one_connection (q ∷ os) o p a (inl s) (inl t) e = s ∙ sym t
one_connection (q ∷ os) o p a (inl s) (inr j) e = absurd (given_none os q.stream p a.0 j (sym (ap (λ (x : Opened). x.stream) s) ∙ e))
one_connection (q ∷ os) o p a (inr i) (inl t) e = absurd (given_none os q.stream o a.0 i (sym (ap (λ (x : Opened). x.stream) t) ∙ sym e))
one_connection (q ∷ os) o p a (inr i) (inr j) e = one_connection os o p a.1 i j e
