-- Where the clauses hold, nothing is smuggled.
use Rattle.std.proofs.Common.{◌≡◌, ℕ, true, false, ◌==◌, ◌⊎◌, if◌then◌else◌, List, [], ◌∷◌, ◌++◌, refl, sym, ap, ◌∙◌, subst, inl, inr}
use Rattle.std.proofs.lemmas.Bool.Decides.{eqb_tells}
use Rattle.model.specs.Messages.{Request}
use Rattle.model.specs.Http1.{H1Requests}
use Rattle.model.specs.Logs.Act.{Open, ToUp, Close, CloseClient}
use Rattle.model.specs.Tapes.{Entry, sent_up}
use Rattle.model.specs.Tapes.Entry.{Came, Breached, Happened, Sent, Did}
use Rattle.model.specs.Available.{IsIn}
use Rattle.model.specs.Known.{Known}
use Rattle.model.specs.Openings as openings
use Rattle.model.specs.Openings.{Opened, opens, exchanges, exchanges_of, last_stream, GoToOpen}
use Rattle.model.specs.RequestClause.{IsSent, RequestsHold}
use Rattle.model.proofs.FirstLog.{nothing_begins_none}
use Rattle.model.proofs.GivenLaws.{open_given}
use Rattle.nothing_smuggled.specs.Smuggling.{Asked, IsNone, ShareNone, IsSentAsked, SmugglesNothing}
use Rattle.nothing_smuggled.proofs.Streams.{AreNone, pair, apart_of, share_none, none_among}

-- What a connection was sent is asked by streams of its exchanges.
record IsAskedBy (t : List Entry) (os : List Opened) (text : List ℕ) : Type 0 where
  asked : List Asked
  sent : IsSentAsked t text asked
  none : (stream : ℕ) → openings.IsGivenNone stream os → IsNone stream asked
  share_none : (others : List Asked) → AreNone os others → ShareNone asked others

nothing_asked : (t : List Entry) (os : List Opened) (text : List ℕ) → text ≡ [] → IsAskedBy t os text
nothing_asked t os text none = record {
  asked = [];
  sent = record { rest = []; reads = record { front = []; is = none; are_requests = refl; no_more = nothing_begins_none }; mean = tt; apart = tt };
  none = λ stream n. tt;
  share_none = λ others n. tt;
}

asked_by : (known : Known) (t : List Entry) (os : List Opened) (text : List ℕ) → openings.AreApart os → IsSent known t os text → IsAskedBy t os text
asked_by known t [] text a s = nothing_asked t [] text s
asked_by known t (o ∷ os) text a (inl whole) =
    let p = pair known t (o ∷ os) whole.requests whole.mean in record {
      asked = p.asked;
      sent = record { rest = []; reads = subst (λ (l : List Request). H1Requests text l []) (sym p.same) whole.all.reads; mean = p.mean; apart = p.apart a };
      none = p.none;
      share_none = p.share_none;
    }
asked_by known t (o ∷ os) text a (inr part) =
    let p = pair known t os part.earlier part.mean in record {
      asked = p.asked;
      sent = record { rest = part.rest; reads = subst (λ (l : List Request). H1Requests text l part.rest) (sym p.same) part.reads; mean = p.mean; apart = p.apart a.1 };
      none = λ stream n. p.none stream n.1;
      share_none = λ others n. p.share_none others n.1;
    }

-- ---- connections that weren't opened were sent nothing

abbrev IsNumberOfNone : ℕ → List Opened → Type 0
IsNumberOfNone k os = (o : Opened) → IsIn o os → o.k ≡ k → ⊥

record IsNumberOf (k : ℕ) (os : List Opened) : Type 0 where
  o : Opened
  is_in : IsIn o os
  is : o.k ≡ k

by_number : (k : ℕ) (os : List Opened) → IsNumberOf k os ⊎ IsNumberOfNone k os
by_number k [] = inr (λ o i same. i)
by_number k (p ∷ os) = by (eqb_tells p.k k) (by_number k os)
  where
    by : ((p.k == k) ≡ true × (p.k ≡ k)) ⊎ ((p.k == k) ≡ false × (p.k ≡ k → ⊥)) → IsNumberOf k os ⊎ IsNumberOfNone k os → IsNumberOf k (p ∷ os) ⊎ IsNumberOfNone k (p ∷ os)
    by (inl x) more = inl (record { o = p; is_in = inl refl; is = x.1 })
    by (inr x) (inl m) = inl (record { o = m.o; is_in = inr m.is_in; is = m.is })
    by (inr x) (inr none) = inr none_here
      where
        none_here : IsNumberOfNone k (p ∷ os)
        none_here o (inl same) is = x.1 (ap (λ (q : Opened). q.k) (sym same) ∙ is)
        none_here o (inr i) is = none o i is

nothing_sent : (k : ℕ) (t : List Entry) → IsNumberOfNone k (opens t) → GoToOpen t → sent_up k t ≡ []
nothing_sent k [] n g = refl
nothing_sent k (Came noted ∷ t) n g = nothing_sent k t n g
nothing_sent k (Breached breach ∷ t) n g = nothing_sent k t n g
nothing_sent k (Happened event ∷ t) n g = nothing_sent k t n g
nothing_sent k (Sent noted ∷ t) n g = nothing_sent k t n g
nothing_sent k (Did (Open j route) ∷ t) n g = nothing_sent k t (λ o i. n o (inr i)) g
nothing_sent k (Did (Close j) ∷ t) n g = nothing_sent k t n g
nothing_sent k (Did CloseClient ∷ t) n g = nothing_sent k t n g
nothing_sent k (Did (ToUp j octets) ∷ t) n g = elim (eqb_tells k j) [
  | inl x ↦ (let opened = open_given j t g.0 in absurd (n opened.0 opened.1 (opened.2 ∙ sym x.1)))
  | inr x ↦ ap (λ b. if b then sent_up k t ++ octets else sent_up k t) x.0 ∙ nothing_sent k t n g.1
]

-- ---- all connections

module _ (known : Known) (t : List Entry) (h : RequestsHold known t) (g : GoToOpen t) where
  of : (k : ℕ) → IsAskedBy t (exchanges_of k (exchanges t)) (sent_up k t)
  of k = by (by_number k (opens t))
    where
      by : IsNumberOf k (opens t) ⊎ IsNumberOfNone k (opens t) → IsAskedBy t (exchanges_of k (exchanges t)) (sent_up k t)
      by (inl x) = asked_by known t (exchanges_of k (exchanges t)) (sent_up k t) (apart_of k (exchanges t) h.apart)
          (subst (λ j. IsSent known t (exchanges_of j (exchanges t)) (sent_up j t)) x.is (h.sent x.o x.is_in))
      by (inr n) = nothing_asked t (exchanges_of k (exchanges t)) (sent_up k t) (nothing_sent k t n g)

  pub smuggles_nothing : SmugglesNothing t
  smuggles_nothing = record {
    asked = λ k. (of k).asked;
    sent = λ k. (of k).sent;
    share_none = λ j k differ. (of j).share_none (of k).asked
        (none_among (exchanges_of j (exchanges t)) (exchanges_of k (exchanges t)) (of k).asked (of k).none (share_none j k (exchanges t) differ h.apart));
  }
