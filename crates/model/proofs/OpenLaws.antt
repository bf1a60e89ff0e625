-- Requests behind which others stand, and what a connection was sent for its exchanges, one after another.
use Rattle.std.proofs.Common.{◌≡◌, ℕ, true, false, List, [], ◌∷◌, ◌++◌, refl, sym, ap, ◌∙◌, subst, inl, inr, append_assoc}
use Rattle.std.proofs.lemmas.List.{append-nil}
use Rattle.model.specs.Octets.{Joined}
use Rattle.model.specs.Messages.{Request}
use Rattle.model.specs.Http1.{H1Request, H1Open, H1Requests, AreRequests, forward}
use Rattle.model.specs.Http2.{H2Request, MayBecome}
use Rattle.model.specs.Tapes.{Entry}
use Rattle.model.specs.Openings.{Opened, sent_for, texts_of}
use Rattle.model.specs.Known.{Known}
use Rattle.model.specs.Courses.{items}
use Rattle.model.specs.RequestClause.{EndsWithChunks, forwarded, AreMeant, ReadsAsAll, IsSentWhole, GoesOnTo, IsSentInPart, IsSent, AreSentWhole}

-- ---- requests, one after another

-- requests behind which others may stand, and then other requests
pub behind_open : (a b : List ℕ) (rs ss : List Request) → Joined H1Open a rs → AreRequests b ss → AreRequests (a ++ b) (rs ++ ss)
behind_open a b [] ss p q = subst (λ (x : List ℕ). AreRequests (x ++ b) ss) (sym p) q
behind_open a b (r ∷ []) [] p q =
    subst (λ (x : List ℕ). H1Request x r) (sym (append-nil p.0) ∙ (λ i. (sym (append-nil p.0) ∙ ap (λ l. p.0 ++ l) (sym p.4) ∙ sym p.3) i ++ sym q i)) p.2.reads
behind_open a b (r ∷ []) (s ∷ ss) p q =
    (p.0, b, (λ i. (p.3 ∙ ap (λ l. p.0 ++ l) p.4 ∙ append-nil p.0) i ++ b), p.2, q)
behind_open a b (r ∷ t ∷ rs) ss p q =
    (p.0, p.1 ++ b, ap (λ l. l ++ b) p.3 ∙ append_assoc p.0 p.1 b, p.2, behind_open p.1 b (t ∷ rs) ss p.4 q)

-- and then others of the same kind
pub joined_open : (a b : List ℕ) (rs ss : List Request) → Joined H1Open a rs → Joined H1Open b ss → Joined H1Open (a ++ b) (rs ++ ss)
joined_open a b [] ss p q = subst (λ (x : List ℕ). Joined H1Open (x ++ b) ss) (sym p) q
joined_open a b (r ∷ rs) ss p q = (p.0, p.1 ++ b, p.2, ap (λ l. l ++ b) p.3 ∙ append_assoc p.0 p.1 b, joined_open p.1 b rs ss p.4 q)

-- ---- the exchanges of a connection

-- where connections are kept, all that they were sent are requests behind which others may stand
pub record IsSentBefore (known : Known) (t : List Entry) (os : List Opened) : Type 0 where
  pub requests : List Request
  pub mean : AreMeant known t os requests
  pub stay_open : Joined H1Open (texts_of os t) (forwarded requests)

before_all : (known : Known) (t : List Entry) (o : Opened) (os : List Opened) → (requests : List Request) → AreMeant known t (o ∷ []) requests → Joined H1Open (sent_for o t) (forwarded requests) → IsSentBefore known t os → IsSentBefore known t (o ∷ os)
before_all known t o os [] m j more = absurd m
before_all known t o os (r ∷ []) m j more = record {
  requests = r ∷ more.requests;
  mean = (m.0, more.mean);
  stay_open = joined_open (texts_of os t) (sent_for o t) (forwarded more.requests) (forward r ∷ []) more.stay_open j;
}
before_all known t o os (r ∷ s ∷ rs) m j more = absurd m.1

pub sent_before : (known : Known) (t : List Entry) (os : List Opened) → known.setup.keep ≡ true → AreSentWhole known t os → IsSentBefore known t os
sent_before known t [] on a = record { requests = []; mean = tt; stay_open = refl }
sent_before known t (o ∷ os) on a = before_all known t o os a.0.requests a.0.mean (a.0.all.stay_open on) (sent_before known t os on a.1)

-- what reads as requests, with others before it behind which more may stand
reads_behind : (known : Known) (front text : List ℕ) (rs : List Request) (r : Request) → Joined H1Open front (forwarded rs) → ReadsAsAll known text (r ∷ []) → ReadsAsAll known (front ++ text) (r ∷ rs)
reads_behind known front text rs r before all =
    let one = all.reads in
    let own : one.front ≡ text = sym (append-nil one.front) ∙ sym one.is in
    record {
      reads = record {
        front = front ++ text;
        is = sym (append-nil (front ++ text));
        are_requests = behind_open front text (forwarded rs) (forward r ∷ []) before (subst (λ (x : List ℕ). H1Request x (forward r)) own one.are_requests);
        no_more = one.no_more;
      };
      stay_open = λ on. joined_open front text (forwarded rs) (forward r ∷ []) before (all.stay_open on);
    }

whole_behind : (known : Known) (t : List Entry) (o : Opened) (os : List Opened) → IsSentBefore known t os → (requests : List Request) → AreMeant known t (o ∷ []) requests → ReadsAsAll known (sent_for o t) requests → IsSentWhole known t (o ∷ os) (texts_of (o ∷ os) t)
whole_behind known t o os before [] m all = absurd m
whole_behind known t o os before (r ∷ []) m all = record {
  requests = r ∷ before.requests;
  mean = (m.0, before.mean);
  all = reads_behind known (texts_of os t) (sent_for o t) before.requests r before.stay_open all;
}
whole_behind known t o os before (r ∷ s ∷ rs) m all = absurd m.1

goes_behind : (known : Known) (front text : List ℕ) (rs : List Request) (r : Request) → Joined H1Open front (forwarded rs) → GoesOnTo known text (r ∷ []) → GoesOnTo known (front ++ text) (r ∷ rs)
goes_behind known front text rs r before g = record {
  whole = front ++ g.whole;
  all = reads_behind known front g.whole rs r before g.all;
  is_front = record { next = g.is_front.next; rest = g.is_front.rest; is = ap (λ l. front ++ l) g.is_front.is ∙ sym (append_assoc front text (g.is_front.next ∷ g.is_front.rest)) };
}

part_behind : (known : Known) (t : List Entry) (o : Opened) (os : List Opened) → IsSentBefore known t os → (earlier : List Request) → AreMeant known t [] earlier → (p : IsSentInPart known t o [] (sent_for o t)) → earlier ≡ p.earlier → IsSentInPart known t o os (texts_of (o ∷ os) t)
part_behind known t o os before (r ∷ rs) m p e = absurd m
part_behind known t o os before [] m p e =
    let reads : H1Requests (sent_for o t) [] p.rest = subst (λ (l : List Request). H1Requests (sent_for o t) (forwarded l) p.rest) (sym e) p.reads in
    let text : sent_for o t ≡ p.rest = reads.is ∙ ap (λ l. l ++ p.rest) reads.are_requests in
    record {
      earlier = before.requests;
      mean = before.mean;
      rest = p.rest;
      reads = record {
        front = texts_of os t;
        is = ap (λ l. texts_of os t ++ l) text;
        are_requests = subst2 (behind_open (texts_of os t) [] (forwarded before.requests) [] before.stay_open refl);
        no_more = reads.no_more;
      };
      some = p.some;
      goes_on = λ request may. goes_behind known (texts_of os t) (sent_for o t) before.requests request before.stay_open (subst (λ (l : List Request). GoesOnTo known (sent_for o t) (request ∷ l)) (sym e) (p.goes_on request may));
      in_chunks = p.in_chunks;
    }
  where
    subst2 : AreRequests (texts_of os t ++ []) (forwarded before.requests ++ []) → AreRequests (texts_of os t) (forwarded before.requests)
    subst2 a = subst (λ (l : List Request). AreRequests (texts_of os t) l) (append-nil (forwarded before.requests)) (subst (λ (x : List ℕ). AreRequests x (forwarded before.requests ++ [])) (append-nil (texts_of os t)) a)

-- What the newest exchange was sent stands behind what the earlier ones were sent, and all of it reads as their requests.
pub sent_together : (known : Known) (t : List Entry) (o : Opened) (os : List Opened) → known.setup.keep ≡ true → AreSentWhole known t os → IsSent known t (o ∷ []) (sent_for o t) → IsSent known t (o ∷ os) (texts_of (o ∷ os) t)
sent_together known t o os on earlier (inl whole) = inl (whole_behind known t o os (sent_before known t os on earlier) whole.requests whole.mean whole.all)
sent_together known t o os on earlier (inr part) = inr (part_behind known t o os (sent_before known t os on earlier) part.earlier part.mean part refl)

-- ---- a connection with one exchange

-- one request alone
pub one_alone : (text : List ℕ) (r : Request) → H1Requests text (r ∷ []) [] → H1Request text r
one_alone text r p = subst (λ (x : List ℕ). H1Request x r) (sym (append-nil p.front) ∙ sym p.is) p.are_requests

-- its text reads as the one request that its items mean
pub record WholeAlone (known : Known) (t : List Entry) (o : Opened) (text : List ℕ) : Type 0 where
  pub request : Request
  pub means : H2Request (items known o.stream t) request
  pub reads : H1Requests text (forward request ∷ []) []

pub whole_alone : (known : Known) (t : List Entry) (o : Opened) (text : List ℕ) → IsSentWhole known t (o ∷ []) text → WholeAlone known t o text
whole_alone known t o text w = by w.requests w.mean w.all
  where
    by : (requests : List Request) → AreMeant known t (o ∷ []) requests → ReadsAsAll known text requests → WholeAlone known t o text
    by [] m all = absurd m
    by (r ∷ []) m all = record { request = r; means = m.0; reads = all.reads }
    by (r ∷ s ∷ rs) m all = absurd m.1

-- it reads as no request yet
pub record PartAlone (known : Known) (t : List Entry) (o : Opened) (text : List ℕ) : Type 0 where
  pub some : (request : Request) × MayBecome (items known o.stream t) request
  pub reads : H1Requests text [] text
  pub goes_on : (request : Request) → MayBecome (items known o.stream t) request → GoesOnTo known text (request ∷ [])
  pub in_chunks : EndsWithChunks text

pub part_alone : (known : Known) (t : List Entry) (o : Opened) (text : List ℕ) → IsSentInPart known t o [] text → PartAlone known t o text
part_alone known t o text p = by p.earlier p.mean p.reads p.goes_on
  where
    by : (earlier : List Request) → AreMeant known t [] earlier → H1Requests text (forwarded earlier) p.rest → ((request : Request) → MayBecome (items known o.stream t) request → GoesOnTo known text (request ∷ earlier)) → PartAlone known t o text
    by [] m reads on =
        let text_is : text ≡ p.rest = reads.is ∙ ap (λ l. l ++ p.rest) reads.are_requests in
        record { some = p.some; reads = subst (λ (x : List ℕ). H1Requests text [] x) (sym text_is) reads; goes_on = on; in_chunks = subst EndsWithChunks (sym text_is) p.in_chunks }
    by (r ∷ rs) m reads on = absurd m

-- and back, where no connection is kept
pub sent_alone : (known : Known) (t : List Entry) (o : Opened) (text : List ℕ) (request : Request) → known.setup.keep ≡ false → H2Request (items known o.stream t) request → H1Requests text (forward request ∷ []) [] → IsSentWhole known t (o ∷ []) text
sent_alone known t o text request off means reads = record {
  requests = request ∷ [];
  mean = (means, tt);
  all = record { reads = reads; stay_open = λ on. absurd (let clash : false ≡ true = sym off ∙ on in cc) };
}
