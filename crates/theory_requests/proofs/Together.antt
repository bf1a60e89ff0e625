-- Where nothing is due, what a connection was sent is the requests of its exchanges, one after another.
use Rattle.std.proofs.Common.{◌≡◌, ℕ, Bool, true, false, ◌==◌, List, [], ◌∷◌, refl, sym, ap, ◌∙◌, subst, inl, inr, if◌then◌else◌, append-nil}
use Rattle.std.specs.Prelude.{◌⊎◌}
use Rattle.std.proofs.lemmas.Bool.{cases_Bool}
use Rattle.std.proofs.lemmas.Bool.Decides.{eqb_tells}
use Rattle.model.specs.Messages.{Request}
use Rattle.model.specs.Octets.{Joined}
use Rattle.model.specs.Http1.{H1Open, H1Kept, forward}
use Rattle.model.specs.Tapes.{Entry, sent_up}
use Rattle.model.specs.Openings.{Opened, opens, exchanges, exchanges_of, given, sent_for, texts_of, AreApart}
use Rattle.model.specs.Available.{IsIn}
use Rattle.model.specs.Known.{Known}
use Rattle.model.specs.Courses.{items}
use Rattle.model.specs.RequestClause.{ReadsAsAll, IsSent, AreSentWhole}
use Rattle.model.specs.RequestClause as clause
use Rattle.model.proofs.Http1Texts.{kept_reads}
use Rattle.model.proofs.DeliveryReadings.{given_none}
use Rattle.model.proofs.ExchangeLaws.{none_kept, texts_joined}
use Rattle.model.proofs.OpenLaws as open_laws
use Rattle.model.proofs.AloneLaws.{exchanges_are, sent_is}
use Rattle.theory_requests.specs.State.{State}
use Rattle.theory_requests.specs.State.Due.{Nothing}
use Rattle.theory_requests.proofs.Texts.{one_request_text}
use Rattle.theory_requests.proofs.Streamed.{sent_all}
use Rattle.theory_requests.proofs.Standing.{IsSentWhole, IsInPart, Stands}

-- ---- one exchange

-- where connections are kept, another request may stand behind one
stays_open : (keep : Bool) (text : List ℕ) (request : Request) → H1Kept keep text request → keep ≡ true → Joined H1Open text (request ∷ [])
stays_open true text request reads on = (text, [], reads, sym (append-nil text), refl)
stays_open false text request reads on = absurd (let clash : false ≡ true = on in cc)

reads_alone : (known : Known) (text : List ℕ) (request : Request) → H1Kept known.setup.keep text (forward request) → ReadsAsAll known text (request ∷ [])
reads_alone known text request reads = record {
  reads = one_request_text text (forward request) (kept_reads known.setup.keep text (forward request) reads);
  stay_open = stays_open known.setup.keep text (forward request) reads;
}

whole_alone : (known : Known) (t : List Entry) (o : Opened) (text : List ℕ) → IsSentWhole known.setup.keep text (items known o.stream t) → clause.IsSentWhole known t (o ∷ []) text
whole_alone known t o text w = record { requests = w.request ∷ []; mean = (w.means, tt); all = reads_alone known text w.request w.reads }

sent_alone : (known : Known) (t : List Entry) (o : Opened) (text : List ℕ) → IsSentWhole known.setup.keep text (items known o.stream t) ⊎ IsInPart known t text o → IsSent known t (o ∷ []) text
sent_alone known t o text (inl whole) = inl (whole_alone known t o text whole)
sent_alone known t o text (inr p) = inr (record {
  earlier = [];
  mean = tt;
  rest = text;
  reads = p.part.reads;
  some = p.part.some;
  goes_on = λ request may. (let g = p.part.goes_on request may in record { whole = g.0; all = reads_alone known g.0 request g.1; is_front = g.2 });
  in_chunks = p.part.in_chunks;
})

-- ---- the exchanges of a connection

-- those of a connection have its number
of_number : (k : ℕ) (os : List Opened) (o : Opened) → IsIn o (exchanges_of k os) → IsIn o os × (o.k ≡ k)
of_number k [] o i = absurd i
of_number k (p ∷ os) o i = elim (eqb_tells p.k k) [
  | inl same ↦ by (of_number k os o) same.1 (subst (λ b. IsIn o (if b then p ∷ exchanges_of k os else exchanges_of k os)) same.0 i)
  | inr apart ↦ (let more = of_number k os o (subst (λ b. IsIn o (if b then p ∷ exchanges_of k os else exchanges_of k os)) apart.0 i) in (inr more.0, more.1))
]
  where
    by : (IsIn o (exchanges_of k os) → IsIn o os × (o.k ≡ k)) → p.k ≡ k → IsIn o (p ∷ exchanges_of k os) → IsIn o (p ∷ os) × (o.k ≡ k)
    by again same (inl is) = (inl is, ap (λ (x : Opened). x.k) is ∙ same)
    by again same (inr more) = let rest = again more in (inr rest.0, rest.1)

-- The first of them is the newest, and the others are of other streams.
abbrev AreSplit : ℕ → List Opened → List Opened → Type 0
AreSplit k os [] = Unit {0}
AreSplit k os (p ∷ ps) = IsIn p os × (given k os ≡ p.stream) × ((q : Opened) → IsIn q ps → IsIn q os × (q.k ≡ k) × (q.stream ≡ p.stream → ⊥))

split_past : (k : ℕ) (x : Opened) (xs ys : List Opened) → (x.k == k) ≡ false → AreSplit k xs ys → AreSplit k (x ∷ xs) ys
split_past k x xs [] apart s = tt
split_past k x xs (p ∷ ps) apart s = (inr s.0, ap (λ b. if b then x.stream else given k xs) apart ∙ s.1, λ q i. let more = s.2 q i in (inr more.0, more.1, more.2))

are_split : (k : ℕ) (os : List Opened) → AreApart os → AreSplit k os (exchanges_of k os)
are_split k [] apart = tt
are_split k (x ∷ xs) apart = elim (eqb_tells x.k k) [
  | inl same ↦ subst (λ b. AreSplit k (x ∷ xs) (if b then x ∷ exchanges_of k xs else exchanges_of k xs)) (sym same.0) (
    inl refl,
    ap (λ b. if b then x.stream else given k xs) same.0,
    λ q i. let more = of_number k xs q i in (inr more.0, more.1, λ e. given_none xs x.stream q apart.0 more.0 (sym e)),
  )
  | inr other ↦ subst (λ b. AreSplit k (x ∷ xs) (if b then x ∷ exchanges_of k xs else exchanges_of k xs)) (sym other.0) (split_past k x xs (exchanges_of k xs) other.0 (are_split k xs apart.1))
]

-- ---- what a connection was sent

module _ (known : Known) (t : List Entry) (s : State) (h : Stands known t s) (nothing : s.due ≡ Nothing) where
  -- what isn't the newest is past
  all_past : (k : ℕ) (p : Opened) (ps : List Opened) → given k (exchanges t) ≡ p.stream → ((q : Opened) → IsIn q ps → IsIn q (exchanges t) × (q.k ≡ k) × (q.stream ≡ p.stream → ⊥)) → AreSentWhole known t ps
  all_past k p [] newest others = tt
  all_past k p (q ∷ qs) newest others = (whole_alone known t q (sent_for q t) was_whole, all_past k p qs newest (λ r i. others r (inr i)))
    where
      was_whole : IsSentWhole known.setup.keep (sent_for q t) (items known q.stream t)
      was_whole =
          let it = others q (inl refl) in
          elim (h.given q it.0).place [
            | inl newest_too ↦ absurd (it.2 (sym newest_too ∙ ap (λ n. given n (exchanges t)) it.1 ∙ newest))
            | inr past ↦ past.whole
          ]

  -- where connections are kept
  kept_together : (k : ℕ) (os : List Opened) → known.setup.keep ≡ true → AreSplit k (exchanges t) os → IsSent known t os (texts_of os t)
  kept_together k [] on split = refl
  kept_together k (p ∷ ps) on split = open_laws.sent_together known t p ps on (all_past k p ps split.1 split.2) (sent_alone known t p (sent_for p t) (sent_all known t s h nothing p split.0).reads)

  -- and where none is
  pub sent_together : (o : Opened) → IsIn o (opens t) → IsSent known t (exchanges_of o.k (exchanges t)) (sent_up o.k t)
  sent_together o i = elim (cases_Bool known.setup.keep) [
    | inl on ↦ subst (IsSent known t (exchanges_of o.k (exchanges t))) (sym (texts_joined o.k t h.apart h.goes)) (kept_together o.k (exchanges_of o.k (exchanges t)) on (are_split o.k (exchanges t) h.apart))
    | inr off ↦ (
        let same = none_kept known t off h.in_time in
        let apart : AreApart (opens t) = subst AreApart same h.apart in
        subst (λ (os : List Opened). IsSent known t os (sent_up o.k t)) (sym (exchanges_are known t off h.numbered apart h.in_time h.goes o i))
        (subst (IsSent known t (o ∷ [])) (sym (sent_is known t off h.numbered apart h.in_time h.goes o i))
        (sent_alone known t o (sent_for o t) (sent_all known t s h nothing o (subst (IsIn o) (sym same) i)).reads)))
  ]
