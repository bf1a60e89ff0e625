-- Entries with which what is due stays, no exchange begins, and no stream's items change.
use Rattle.std.proofs.Common.{◌≡◌, ℕ, true, false, List, [], ◌∷◌, ◌++◌, refl, sym, ap, ◌∙◌, subst, inl, inr, if◌then◌else◌}
use Rattle.std.specs.Prelude.{Some, None}
use Rattle.std.proofs.lemmas.Bool.{ne_eqb, cases_Bool}
use Rattle.std.proofs.lemmas.Bool.Decides.{eqb_tells}
use Rattle.model.specs.Http2.{H2Request}
use Rattle.model.specs.Tapes.{Noted, Entry, is_closed, came}
use Rattle.model.specs.Tapes.Entry.{Came}
use Rattle.model.specs.Openings.{Opened, opens, exchanges, exchange_on, given, sent_for, GoToOpen}
use Rattle.model.specs.Admission.{is_open}
use Rattle.model.specs.Available.{IsIn}
use Rattle.model.specs.Known.{Known}
use Rattle.model.specs.Courses.{items}
use Rattle.model.specs.ErrorClause.{must_end}
use Rattle.model.specs.Offers.{IsGiven}
use Rattle.model.specs.RequestClause.{BeginInTime}
use Rattle.h1_writer.specs.Sending.{Stage}
use Rattle.theory_requests.specs.Written.{IsWritten}
use Rattle.theory_requests.specs.Lines.{Line, line_of}
use Rattle.theory_requests.specs.Pool.{Keeps}
use Rattle.theory_requests.specs.State.{Way, Held, held_of, Due, State}
use Rattle.theory_requests.specs.State.Way.{Going}
use Rattle.theory_requests.specs.State.Due.{Nothing}
use Rattle.model.proofs.ItemLaws.{items_stay}
use Rattle.theory_requests.proofs.Pooling.{Leaves}
use Rattle.theory_requests.proofs.Leaving.{IsLetGo, LetGo, let_go_there}
use Rattle.model.specs.Spelling.{IsSpelled}
use Rattle.theory_requests.proofs.Standing.{IsSentWhole, IsSentInPart, owed, text_of, IsSent, IsDueFor, Fares, IsDue, IsFor, IsOnWay, Stands, Steps, unread_same, some_items, had_closed_in, cut_stays, way_stays}
use Rattle.model.specs.Streams.{frame_items}
use Rattle.model.specs.Decoding.{completed}

-- ---- items

-- a frame leaves the items of other streams
pub items_beside : (known : Known) (t : List Entry) (noted : Noted) (stream : ℕ) → (noted.frame.id ≡ stream → ⊥) → items known stream (Came noted ∷ t) ≡ items known stream t
items_beside known t noted stream apart = sym (items_stay known stream t (Came noted) (ap (λ b. if b then frame_items (completed (came t) noted.frame) noted else []) (ne_eqb noted.frame.id stream apart)))

-- and all items, where it leaves those of its own
pub items_where : (known : Known) (t : List Entry) (noted : Noted) → items known noted.frame.id (Came noted ∷ t) ≡ items known noted.frame.id t → (stream : ℕ) → items known stream (Came noted ∷ t) ≡ items known stream t
items_where known t noted same stream = elim (eqb_tells noted.frame.id stream) [
  | inl x ↦ subst (λ n. items known n (Came noted ∷ t) ≡ items known n t) x.1 same
  | inr x ↦ items_beside known t noted stream x.1
]

-- something came of the stream of each connection that has an exchange
pub begun_on : (known : Known) (t : List Entry) (s : State) → Stands known t s → (k : ℕ) → IsIn (exchange_on k t) (exchanges t) → items known (given k (exchanges t)) t ≡ [] → ⊥
begun_on known t s h k there = let g = h.given (exchange_on k t) there in some_items (items known (given k (exchanges t)) t) g.head g.has_head

-- connections that were closed stay let go, where an entry leaves them
pub let_go_left : (known : Known) (t : List Entry) (e : Entry) (s : State) → Stands known t s → (must_end known t ≡ true → must_end known (e ∷ t) ≡ true) → ((k : ℕ) → is_open k t ≡ false → IsIn (exchange_on k t) (exchanges t) → Leaves known t e k) → (k : ℕ) (earlier : List Entry) → IsLetGo known t k earlier → IsLetGo known (e ∷ t) k earlier
let_go_left known t e s h ends leaves k earlier g = let_go_there known t e k earlier (leaves k g.shut g.there) (h.given (exchange_on k t) g.there).started ends g

-- ---- what stays

-- where nothing is due, nothing is owed
pub none_owed : (o : Opened) (t : List Entry) (due : Due) → due ≡ Nothing → owed o t due ≡ []
none_owed o t due nothing = ap (owed o t) nothing

-- what an exchange was sent, where its stream's items and what is due stay
pub sent_same : (known : Known) (t : List Entry) (e : Entry) (o : Opened) (text : List ℕ) → IsIn o (exchanges t) → items known o.stream (e ∷ t) ≡ items known o.stream t → (is_open o.k t ≡ false → is_open o.k (e ∷ t) ≡ false) → IsSent known t text o → IsSent known (e ∷ t) text o
sent_same known t e o text i same shut g = record {
  reads = elim g.reads [
    | inl whole ↦ inl (subst (IsSentWhole known.setup.keep text) (sym same) whole)
    | inr p ↦ inr (record {
      part = subst (IsSentInPart known.setup.keep text) (sym same) p.part;
      cut = λ request means.
          let was = p.cut request (subst (λ xs. H2Request xs request) same means) in
          (cut_stays t e o.stream was.0 (had_closed_in o.stream (exchanges t) t o i refl was.1), shut was.1);
    })
  ];
  spelled = subst (λ xs. IsSpelled known.setup.keep xs text) (sym same) g.spelled;
  writes = λ opened. let w = g.writes (before opened) in (w.0, subst (λ xs. IsWritten known.setup.keep xs text w.0) (sym same) w.1);
}
  where
    before : is_open o.k (e ∷ t) ≡ true → is_open o.k t ≡ true
    before opened = elim (cases_Bool (is_open o.k t)) [
      | inl was ↦ was
      | inr was ↦ absurd (let clash : true ≡ false = sym opened ∙ shut was in cc)
    ]

-- an exchange of a stream stays one, and there was no other
pub given_there : (t : List Entry) (e : Entry) (stream : ℕ) (o : Opened) → exchanges (e ∷ t) ≡ exchanges t → IsGiven t stream o → IsGiven (e ∷ t) stream o
given_there t e stream o same g = record { is_opened = subst (IsIn o) (sym same) g.is_opened; is_given = g.is_given }

pub given_back : (t : List Entry) (e : Entry) (stream : ℕ) (o : Opened) → exchanges (e ∷ t) ≡ exchanges t → IsGiven (e ∷ t) stream o → IsGiven t stream o
given_back t e stream o same g = record { is_opened = subst (IsIn o) same g.is_opened; is_given = g.is_given }

-- so a request stays on its way
pub way_same : (known : Known) (t : List Entry) (e : Entry) (s u : State) (stream : ℕ) (way : Way) → items known stream (e ∷ t) ≡ items known stream t → exchanges (e ∷ t) ≡ exchanges t → ((o : Opened) → IsGiven t stream o → text_of o (e ∷ t) u.due ≡ text_of o t s.due)
    → ((k : ℕ) (stage : Stage) → way ≡ Going k stage → IsFor s.live k stream → IsFor u.live k stream) → ((k : ℕ) → line_of k s.live ≡ None → line_of k u.live ≡ None) → IsOnWay known t s stream way → IsOnWay known (e ∷ t) u stream way
way_same known t e s u stream way same_items same same_text keeps loses w =
    way_stays known t e s u stream way same_items (λ o g. given_there t e stream o same g) (λ o g. given_back t e stream o same g) same_text keeps (λ o g. loses o.k) w

-- a stream fares as before, where its items stay
pub fares_same : (known : Known) (t : List Entry) (e : Entry) (was now : Due) (stream : ℕ) → (IsDueFor was stream → IsDueFor now stream) → exchanges (e ∷ t) ≡ exchanges t → items known stream (e ∷ t) ≡ items known stream t → Fares known t was stream → Fares known (e ∷ t) now stream
fares_same known t e was now stream still same same_items (inl none) = inl (unread_same known t e stream same_items none)
fares_same known t e was now stream still same same_items (inr (inl due)) = inr (inl (still due))
fares_same known t e was now stream still same same_items (inr (inr g)) = inr (inr (g.0, given_there t e stream g.0 same g.1))

-- where nothing is due, that can be done
pub none_due : (known : Known) (t : List Entry) (ls : List Line) (due : Due) → due ≡ Nothing → IsDue known t ls due
none_due known t ls due nothing = subst (IsDue known t ls) (sym nothing) tt

-- ---- entries that pass

-- What such an entry leaves as it is.
pub record IsPassing (known : Known) (t : List Entry) (e : Entry) (s u : State) : Type 0 where
  pub same_due : u.due ≡ s.due
  pub due : IsDue known (e ∷ t) u.live u.due
  pub same : exchanges (e ∷ t) ≡ exchanges t
  pub same_opens : opens (e ∷ t) ≡ opens t
  pub same_sent : (o : Opened) → sent_for o (e ∷ t) ≡ sent_for o t
  pub same_owed : (o : Opened) → owed o (e ∷ t) s.due ≡ owed o t s.due
  pub same_items : (stream : ℕ) → items known stream (e ∷ t) ≡ items known stream t
  pub still_shut : (k : ℕ) → is_open k t ≡ false → is_open k (e ∷ t) ≡ false
  pub count : u.count ≡ s.count
  pub held : (stream : ℕ) (h : Held) → held_of stream u.held ≡ Some h → IsOnWay known (e ∷ t) u stream h.way
  pub keeps : Keeps known (e ∷ t) u.live
  pub goes : GoToOpen t → GoToOpen (e ∷ t)
  pub in_time : BeginInTime known t → BeginInTime known (e ∷ t)
  pub let_go : (k : ℕ) (earlier : List Entry) → IsLetGo known t k earlier → IsLetGo known (e ∷ t) k earlier
  pub closes : LetGo known (e ∷ t) t → LetGo known (e ∷ t) (e ∷ t)
  pub shut : is_closed (e ∷ t) ≡ true → u.live ≡ []

-- what an exchange was sent and what is due to it stays
pub text_same : (t : List Entry) (e : Entry) (was now : Due) (o : Opened) → now ≡ was → sent_for o (e ∷ t) ≡ sent_for o t → owed o (e ∷ t) was ≡ owed o t was → text_of o (e ∷ t) now ≡ text_of o t was
text_same t e was now o same_due same_sent same_owed =
    ap (text_of o (e ∷ t)) same_due ∙ ap (λ x. x ++ owed o (e ∷ t) was) same_sent ∙ ap (λ x. sent_for o t ++ x) same_owed

-- an entry that passes is a step
pub passes : (known : Known) (t : List Entry) (e : Entry) (s u : State) → Stands known t s → IsPassing known t e s u → Steps known t e s u
passes known t e s u h p = record {
  same = p.same;
  same_opens = p.same_opens;
  count = p.count;
  sent = λ o i g. subst (λ x. IsSent known (e ∷ t) x o) (sym (text_same t e s.due u.due o p.same_due (p.same_sent o) (p.same_owed o))) (sent_same known t e o (text_of o t s.due) i (p.same_items o.stream) (p.still_shut o.k) g.sent);
  past = λ o i past. p.same_sent o;
  fares = λ stream. fares_same known t e s.due u.due stream (subst (λ d. IsDueFor d stream) (sym p.same_due)) p.same (p.same_items stream) (h.fares stream);
  held = p.held;
  due = p.due;
  keeps = p.keeps;
  goes = p.goes h.goes;
  in_time = p.in_time h.in_time;
  let_go = p.let_go;
  closes = p.closes;
  shut = p.shut;
}
