-- Of a connection that is open where the gateway rests, and isn't idle: its stream is active and isn't answered by the gateway, and its response isn't
-- whole. So no body is on offer for it where responses are passed on whole, and what its answer holds is bounded.
use Rattle.std.proofs.Common.{◌≡◌, ℕ, ◌+◌, ◌*◌, ◌≤◌, ◌⊎◌, true, false, List, [], ◌++◌, length, length-append, Option, Some, None, refl, sym, ◌∙◌, ap, subst, inl, inr, arith}
use Rattle.std.specs.Prelude.{is_none}
use Rattle.std.specs.List.{list_any}
use Rattle.std.proofs.lemmas.Bool.{and_parts}
use Rattle.model.specs.ResponseHeads.{Head}
use Rattle.model.specs.Limits.{longest_section}
use Rattle.model.specs.Responses.{Seen, IsComplete}
use Rattle.model.specs.Setup.Passing.{Whole, Streaming}
use Rattle.model.specs.Tapes.{Entry}
use Rattle.model.specs.Openings.{Opened, exchanges, exchange_on, given}
use Rattle.model.specs.Deliveries.{Delivery}
use Rattle.model.specs.Available.{heard_by, ended_by, shown, IsIn, IsShown}
use Rattle.model.specs.Known.{Known}
use Rattle.model.specs.Causes.{Cause}
use Rattle.model.specs.Courses.{course, cause, items}
use Rattle.model.specs.Offers.{is_to_head}
use Rattle.model.specs.Lifetimes.{is_active}
use Rattle.model.proofs.DeliveryReadings.{one_connection}
use Rattle.model.specs.Idle.{IsAllHeard}
use Rattle.model.proofs.ExchangeLaws.{open_exchange}
use Rattle.upstream_response.specs.Telling.{head_of, body_of, trailers_of, all_told}
use Rattle.upstream_response.proofs.Reading.{told_shown}
use Rattle.upstream_response.specs.Waiting.{Answer, Waits}
use Rattle.theory_responses.specs.Outbox.{Outbox, offered_by}
use Rattle.theory_responses.specs.Outbox.Outbox.{Before, Behind, Over}
use Rattle.theory_responses.specs.Held.{body_waiting}
use Rattle.theory_responses.specs.Policy.{Neighbours}
use Rattle.theory_responses.proofs.Standing.{Stands as Offers}
use Rattle.theory_responses.proofs.HeadSizes.{IsShortIf, shown_few}
use Rattle.theory_responses.proofs.BodySizes.{whole_seen}
use Rattle.theory_responses.proofs.Limits.{NoneTooLong, seen_kept}
use Rattle.theory_requests.specs.Told.{is_served, Told, IsTold}
use Rattle.theory_requests.specs.Lines as lines
use Rattle.theory_requests.specs.Lines.{Line, line_of}
use Rattle.theory_requests.specs.Lines.Answer.{Pending, Idle, Done}
use Rattle.theory_requests.specs.Pool.{Answers, IsSo}
use Rattle.theory_requests.specs.State.{State}
use Rattle.theory_requests.specs.Rule.{is_done_by, is_done, Rests}
use Rattle.theory_requests.proofs.Standing.{Stands}
use Rattle.theory_requests.proofs.Fitting.{not_not}
use Rattle.theory_requests.proofs.Clauses.{none_done}
use Rattle.refinement.specs.Hearing.{IsHeard}
use Rattle.upstream_response.specs.HeldInside.{head_waiting, octets_of}
use Rattle.theory_memory_bound.proofs.Untold.{no_trailers}

-- An open connection whose response isn't whole, and that isn't done with; and its newest exchange.
pub record Answering (known : Known) (t : List Entry) (k : ℕ) (line : Line) : Type 0 where
  pub there : IsIn (exchange_on k t) (exchanges t)
  pub of : given k (exchanges t) ≡ line.stream
  pub active : is_active line.stream t ≡ true
  pub no_cause : (course known line.stream t).cause ≡ None
  pub not_whole : IsAllHeard known t (exchange_on k t) → ⊥
  pub pending : line.answer ≡ Pending

no_cause_told : (c : Option Cause) → is_none c ≡ true → c ≡ None
no_cause_told None e = refl
no_cause_told (Some cause) e = let clash : false ≡ true = e in cc

-- Where no connection is done with each that is open is such a one, or is idle.
pub answering_by : (known : Known) (t : List Entry) (s : State) (told : Told) → Stands known t s → IsTold known t told → list_any (is_done told) s.live ≡ false → (k : ℕ) (line : Line) → line_of k s.live ≡ Some line → Answering known t k line ⊎ (line.answer ≡ Idle)
answering_by known t s told h is_told no_done k line found = by line.answer refl it.answers (none_done told k s.live line no_done found)
  where
    it : IsSo known t k line
    it = h.keeps.are_so k line found

    by : (a : lines.Answer) → line.answer ≡ a → Answers known t k a → is_done_by a (told.served line.stream) ≡ false → Answering known t k line ⊎ (line.answer ≡ Idle)
    by Pending is partly going =
        let served : is_served known line.stream t ≡ true = sym (is_told.served line.stream) ∙ not_not (told.served line.stream) going in
        let both = and_parts (is_active line.stream t) (is_none (cause known line.stream t)) served in
        inl (record { there = open_exchange k t it.opened; of = it.stream; active = both.0; no_cause = no_cause_told (cause known line.stream t) both.1; not_whole = partly; pending = is })
    by Idle is kept going = inr is
    by Done is all going = absurd (let clash : true ≡ false = going in cc)

-- So it is where the gateway rests.
pub answering : (known : Known) (t : List Entry) (s : State) (told : Told) → Stands known t s → IsTold known t told → Rests told s → (k : ℕ) (line : Line) → line_of k s.live ≡ Some line → Answering known t k line ⊎ (line.answer ≡ Idle)
answering known t s told h is_told rests = answering_by known t s told h is_told rests.none_done

-- ---- what is on offer for its stream

within_offered : (read : Delivery) (box : Outbox) → length (body_waiting box) ≤ length (offered_by read box).body
within_offered read (Before interims head body whole) = omega arith
within_offered read (Behind body whole) = let all : length (read.body ++ body) ≡ length read.body + length body = length-append read.body body in omega (arith, all)
within_offered read Over = omega arith

-- Where responses are passed on whole no octet of a body waits.
pub none_waits : (known : Known) (t : List Entry) (k : ℕ) (line : Line) (box : Outbox) → known.setup.passing ≡ Whole → Neighbours known t → Answering known t k line → Offers known t line.stream box → length (body_waiting box) ≡ 0
none_waits known t k line box whole n a h = elim h.offer [
  | inl (inl r) ↦ absurd (let clash : ◌≡◌ {A = Option Cause} None (Some r.cause) = sym a.no_cause ∙ r.has_cause in cc)
  | inl (inr q) ↦ (
      let same : q.o ≡ own = one_connection (exchanges t) q.o own n.apart q.given.is_opened a.there (q.given.is_given ∙ sym a.of) in
      by (subst (λ (x : Opened). IsShown known.setup.passing (heard_by x t) (ended_by x t) (is_to_head (items known line.stream t)) (offered_by h.read box)) same q.shows))
  | inr none ↦ absurd (none.no_connection own (record { is_opened = a.there; is_given = a.of }))
]
  where
    own : Opened
    own = exchange_on k t

    by : IsShown known.setup.passing (heard_by own t) (ended_by own t) (is_to_head (items known line.stream t)) (offered_by h.read box) → length (body_waiting box) ≡ 0
    by (inl w) = absurd (a.not_whole (subst (λ n. IsComplete (heard_by own t) (ended_by own t) (is_to_head (items known n t))) (sym a.of) (w.response, w.is_whole)))
    by (inr b) =
        let none : length (offered_by h.read box).body ≡ 0 = ap (λ (x : Delivery). length x.body) b.says ∙ ap (λ p. length (shown p b.interims b.head b.octets).body) whole in
        let within = within_offered h.read box in
        omega (arith, none, within)

-- ---- what its answer holds

short_head : (head : Option Head) → IsShortIf head → head_waiting head ≤ longest_section
short_head None short = omega arith
short_head (Some head) short = short

module _ (known : Known) (t : List Entry) (k : ℕ) (line : Line) (answer : Answer) (whole : known.setup.passing ≡ Whole) (n : Neighbours known t) (a : Answering known t k line) (h : IsHeard known t k answer) (fits : NoneTooLong known t) where
  -- its newest exchange
  abbrev own : Opened
  own = exchange_on k t

  -- what waits is what was told
  waits : (answer.head ≡ head_of h.parts) × (answer.body ≡ body_of h.parts) × (answer.trailers ≡ trailers_of h.parts)
  waits = subst (λ p. Waits p h.parts answer) (h.set_up.passing ∙ whole) h.waits

  -- that is what is shown of the answer, as if it were passed on as it comes
  told : IsShown Streaming (heard_by own t) false answer.reader.to_head (all_told h.parts)
  told = told_shown Streaming (heard_by own t) h.parts answer.reader h.stands

  head_short : head_waiting answer.head ≤ longest_section
  head_short =
      let few = shown_few Streaming (heard_by own t) false answer.reader.to_head (all_told h.parts) told in
      subst (λ x. head_waiting x ≤ longest_section) (sym waits.0) (short_head (head_of h.parts) few.final)

  -- no more of a body is seen than may be kept
  seen_short : (interims : List Head) (head : Option Head) (octets : List ℕ) → Seen (heard_by own t) answer.reader.to_head interims head octets → length octets ≤ known.setup.max_response
  seen_short interims head octets seen =
      seen_kept known t own interims head octets fits whole a.there (ap (λ m. (course known m t).cause) a.of ∙ a.no_cause)
      (subst (λ b. Seen (heard_by own t) b interims head octets) h.asked seen)

  body_short : length answer.body ≤ known.setup.max_response
  body_short = let all = by told in let same : length answer.body ≡ length (body_of h.parts) = ap length waits.1 in omega (arith, all, same)
    where
      by : IsShown Streaming (heard_by own t) false answer.reader.to_head (all_told h.parts) → length (body_of h.parts) ≤ known.setup.max_response
      by (inl w) =
          let short = seen_short w.response.interims (Some w.response.head) w.response.body (whole_seen (heard_by own t) false answer.reader.to_head w.response w.is_whole) in
          let same : length (body_of h.parts) ≡ length w.response.body = ap (λ (d : Delivery). length d.body) w.says in
          omega (arith, short, same)
      by (inr b) =
          let short = seen_short b.interims b.head b.octets b.seen in
          let same : length (body_of h.parts) ≡ length b.octets = ap (λ (d : Delivery). length d.body) b.says in
          omega (arith, short, same)

  pub answer_small : octets_of answer ≤ known.setup.max_response + 3 * longest_section
  answer_small =
      let unread = h.short in
      let named = h.few_named in
      let head = head_short in
      let body = body_short in
      let none = no_trailers answer h.parts waits.2 (heard_by own t) answer.reader h.stands h.goes_on in
      omega (arith, unread, named, head, body, none)

-- Where it is passed on as it comes nothing of it waits but what is unread, and the fields Connection of its head.
pub answer_streamed : (known : Known) (t : List Entry) (k : ℕ) (answer : Answer) → known.setup.passing ≡ Streaming → IsHeard known t k answer → octets_of answer ≤ 2 * longest_section
answer_streamed known t k answer streaming h =
    let unread = h.short in
    let named = h.few_named in
    let waits : (answer.head ≡ None) × (answer.body ≡ []) × (answer.trailers ≡ trailers_of h.parts) = subst (λ p. Waits p h.parts answer) (h.set_up.passing ∙ streaming) h.waits in
    let head : head_waiting answer.head ≡ 0 = ap head_waiting waits.0 in
    let body : length answer.body ≡ 0 = ap length waits.1 in
    let none = no_trailers answer h.parts waits.2 (heard_by (exchange_on k t) t) answer.reader h.stands h.goes_on in
    omega (arith, unread, named, head, body, none)
