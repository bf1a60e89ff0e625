-- The items of a stream are the first that came on it; and the exchanges of a connection are of streams that no other one has.
use Rattle.std.proofs.Common.{◌≡◌, ℕ, Bool, true, false, ◌||◌, ◌==◌, if◌then◌else◌, List, [], ◌∷◌, ◌++◌, refl, sym, ap, ◌∙◌, subst, append_assoc, eqb-true}
use Rattle.std.proofs.lemmas.List.{append-nil}
use Rattle.std.specs.List.{list_any}
use Rattle.model.specs.Messages.{Request, Item, ends_with}
use Rattle.model.specs.Http1.{forward}
use Rattle.model.specs.Http2.{H2Request}
use Rattle.model.specs.Tapes.{Entry, came}
use Rattle.model.specs.Tapes.Entry.{Came, Breached, Happened, Sent, Did}
use Rattle.model.specs.Available.{items_on}
use Rattle.model.specs.Streams.{items_of}
use Rattle.model.specs.ErrorTable.{fault_with}
use Rattle.model.specs.Known.{Known}
use Rattle.model.specs.Setup.{own_window}
use Rattle.model.specs.Openings as openings
use Rattle.model.specs.Openings.{Opened, exchanges_of}
use Rattle.model.specs.Courses.{course, items, carried, interrupts, new_cause}
use Rattle.model.specs.RequestClause as clause
use Rattle.model.specs.RequestClause.{AreMeant}
use Rattle.nothing_smuggled.specs.Smuggling.{Means, Asked, forwarded, AllMean, IsNone, AreApart, ShareNone}

-- ---- what came on a stream

-- what an entry brings a stream, in the order of all that came on it
came_on : (stream : ℕ) (t : List Entry) (e : Entry) → items_on stream (came (e ∷ t)) ≡ items_on stream (came t) ++ items_of stream t e
came_on stream t (Came noted) = refl
came_on stream t (Breached breach) = sym (append-nil (items_on stream (came t)))
came_on stream t (Happened event) = sym (append-nil (items_on stream (came t)))
came_on stream t (Sent noted) = sym (append-nil (items_on stream (came t)))
came_on stream t (Did act) = sym (append-nil (items_on stream (came t)))

-- The items of a stream are a front of what came on it, and all of it while they aren't over.
record IsFrontOf (mine all : List Item) (over : Bool) : Type 0 where
  more : List Item
  is : all ≡ mine ++ more
  whole : over ≡ false → all ≡ mine

behind : (mine all new : List Item) (over interrupted : Bool) → IsFrontOf mine all over
    → IsFrontOf (if over || interrupted then mine else mine ++ new) (all ++ new) (over || interrupted || list_any ends_with new)
behind mine all new true interrupted f = record {
  more = f.more ++ new;
  is = ap (λ (l : List Item). l ++ new) f.is ∙ append_assoc mine f.more new;
  whole = λ no. absurd (let clash : true ≡ false = no in cc);
}
behind mine all new false true f = record {
  more = f.more ++ new;
  is = ap (λ (l : List Item). l ++ new) f.is ∙ append_assoc mine f.more new;
  whole = λ no. absurd (let clash : true ≡ false = no in cc);
}
behind mine all new false false f = record {
  more = [];
  is = ap (λ (l : List Item). l ++ new) (f.whole refl) ∙ sym (append-nil (mine ++ new));
  whole = λ _. ap (λ (l : List Item). l ++ new) (f.whole refl);
}

front_items : (known : Known) (stream : ℕ) (t : List Entry) → IsFrontOf (items known stream t) (items_on stream (came t)) (course known stream t).over
front_items known stream [] = record { more = []; is = refl; whole = λ _. refl }
front_items known stream (e ∷ t) =
    let before = course known stream t in
    let found = fault_with (own_window known.setup) (carried before) t e in
    let cause = new_cause known stream t e before found in
    let next = behind before.items (items_on stream (came t)) (items_of stream t e) before.over (interrupts stream e found cause) (front_items known stream t) in
    subst (λ (l : List Item). IsFrontOf (items known stream (e ∷ t)) l (course known stream (e ∷ t)).over) (sym (came_on stream t e)) next

means : (known : Known) (t : List Entry) (stream : ℕ) (request : Request) → H2Request (items known stream t) request → Means t (record { stream = stream; request = request })
means known t stream request h = let front = front_items known stream t in record { own = items known stream t; more = front.more; is = front.is; reads = h }

-- ---- exchanges, and the requests of their streams

-- no stream of these exchanges is among those
abbrev pub AreNone : List Opened → List Asked → Type 0
AreNone [] others = Unit {0}
AreNone (o ∷ os) others = IsNone o.stream others × AreNone os others

-- the streams of exchanges with the requests that they mean
pub record Paired (t : List Entry) (os : List Opened) (requests : List Request) : Type 0 where
  pub asked : List Asked
  pub same : forwarded asked ≡ clause.forwarded requests
  pub mean : AllMean t asked
  pub none : (stream : ℕ) → openings.IsGivenNone stream os → IsNone stream asked
  pub apart : openings.AreApart os → AreApart asked
  pub share_none : (others : List Asked) → AreNone os others → ShareNone asked others

pub pair : (known : Known) (t : List Entry) (os : List Opened) (requests : List Request) → AreMeant known t os requests → Paired t os requests
pair known t [] [] m = record { asked = []; same = refl; mean = tt; none = λ stream n. tt; apart = λ a. tt; share_none = λ others n. tt }
pair known t [] (request ∷ requests) m = absurd m
pair known t (o ∷ os) [] m = absurd m
pair known t (o ∷ os) (request ∷ requests) m =
    let p = pair known t os requests m.1 in record {
      asked = record { stream = o.stream; request = request } ∷ p.asked;
      same = ap (λ (l : List Request). l ++ forward request ∷ []) p.same;
      mean = (means known t o.stream request m.0, p.mean);
      none = λ stream n. (n.0, p.none stream n.1);
      apart = λ a. (p.none o.stream a.0, p.apart a.1);
      share_none = λ others n. (n.0, p.share_none others n.1);
    }

-- ---- exchanges of connections

none_of : (k stream : ℕ) (os : List Opened) → openings.IsGivenNone stream os → openings.IsGivenNone stream (exchanges_of k os)
none_of k stream [] n = n
none_of k stream (o ∷ os) n = elim (o.k == k) as (λ b. openings.IsGivenNone stream (if b then o ∷ exchanges_of k os else exchanges_of k os)) [
  | true ↦ (n.0, none_of k stream os n.1)
  | false ↦ none_of k stream os n.1
]

pub apart_of : (k : ℕ) (os : List Opened) → openings.AreApart os → openings.AreApart (exchanges_of k os)
apart_of k [] a = a
apart_of k (o ∷ os) a = elim (o.k == k) as (λ b. openings.AreApart (if b then o ∷ exchanges_of k os else exchanges_of k os)) [
  | true ↦ (none_of k o.stream os a.0, apart_of k os a.1)
  | false ↦ apart_of k os a.1
]

-- no stream of the one list is in the other
abbrev pub Share : List Opened → List Opened → Type 0
Share [] others = Unit {0}
Share (o ∷ os) others = openings.IsGivenNone o.stream others × Share os others

share_more : (p : Opened) (os others : List Opened) → openings.IsGivenNone p.stream os → Share os others → Share os (p ∷ others)
share_more p [] others n s = tt
share_more p (o ∷ os) others n s = ((λ same. n.0 (sym same), s.0), share_more p os others n.1 s.1)

share_by : (j k : ℕ) (o : Opened) (os : List Opened) → (j ≡ k → ⊥) → openings.IsGivenNone o.stream os → Share (exchanges_of j os) (exchanges_of k os)
    → (b c : Bool) → (o.k == j) ≡ b → (o.k == k) ≡ c → Share (if b then o ∷ exchanges_of j os else exchanges_of j os) (if c then o ∷ exchanges_of k os else exchanges_of k os)
share_by j k o os differ n more true true e f = absurd (differ (sym (eqb-true o.k j e) ∙ eqb-true o.k k f))
share_by j k o os differ n more true false e f = (none_of k o.stream os n, more)
share_by j k o os differ n more false true e f = share_more o (exchanges_of j os) (exchanges_of k os) (none_of j o.stream os n) more
share_by j k o os differ n more false false e f = more

pub share_none : (j k : ℕ) (os : List Opened) → (j ≡ k → ⊥) → openings.AreApart os → Share (exchanges_of j os) (exchanges_of k os)
share_none j k [] differ a = tt
share_none j k (o ∷ os) differ a = share_by j k o os differ a.0 (share_none j k os differ a.1) (o.k == j) (o.k == k) refl refl

pub none_among : (os others : List Opened) (asked : List Asked) → ((stream : ℕ) → openings.IsGivenNone stream others → IsNone stream asked) → Share os others → AreNone os asked
none_among [] others asked none s = tt
none_among (o ∷ os) others asked none s = (none o.stream s.0, none_among os others asked none s.1)
