-- What is held of a response that is passed on as it comes is the body in the outbox of its stream, where no connection is done with and no reset is
-- owed, and nothing of a connection that is idle: so what takes room of an upstream can be told by what the session keeps.
use Rattle.std.proofs.Common.{◌≡◌, ℕ, ◌+◌, ◌-◌, ◌==◌, ◌&&◌, Bool, true, false, List, [], ◌∷◌, length, take, drop, Option, Some, None, refl, sym, ◌∙◌, ap, subst, inl, inr, arith, if◌then◌else◌}
use Rattle.std.specs.Prelude.{option_map, slice_index}
use Rattle.std.specs.List.{list_any}
use Rattle.std.proofs.lemmas.List.{take_all}
use Rattle.model.specs.Frames.{Frame, is_padded, has_priority, has_flag, content, data_kind, headers_kind}
use Rattle.model.specs.Setup.Passing.{Streaming}
use Rattle.model.specs.Tapes.{Entry, sent}
use Rattle.model.specs.Tapes.Entry.{Came, Breached, Happened, Sent, Did}
use Rattle.model.specs.Openings.{Opened, exchanges, exchange_on}
use Rattle.model.specs.Available.{heard_by, ended_by, items_on, IsShown, IsBegun}
use Rattle.model.specs.Responses.{IsComplete}
use Rattle.model.specs.Known.{Known}
use Rattle.model.specs.Causes.{Cause}
use Rattle.model.specs.Courses.{items}
use Rattle.model.specs.Offers.{is_to_head}
use Rattle.model.specs.Deliveries.{ReadsAs}
use Rattle.model.proofs.DeliveryReadings.{one_connection}
use Rattle.theory_errors.specs.Rule.{AreKnown}
use Rattle.theory_errors.specs.Summary.{Summary}
use Rattle.theory_responses.specs.Held.{AreUnpadded}
use Rattle.theory_responses.specs.Outbox.{offered_by}
use Rattle.theory_responses.specs.State as theory_responses
use Rattle.theory_responses.specs.State.{Kept}
use Rattle.theory_responses.proofs.Allowing.{placed}
use Rattle.theory_responses.proofs.Offering.{IsKeptIf}
use Rattle.theory_responses.proofs.Ruling.{Placed}
use Rattle.theory_responses.proofs.SentOctets.{unpadded}
use Rattle.theory_responses.proofs.Standing.{Stands as Offers}
use Rattle.theory_receive_windows.specs.Held as theory_receive_windows
use Rattle.theory_receive_windows.specs.Held.{body_in, HasOutbox}
use Rattle.theory_receive_windows.specs.Rooms.{IsHeld}
use Rattle.theory_receive_windows.proofs.Holding.{busy, holds_body}
use Rattle.theory_requests.specs.Rule.{is_done}
use Rattle.theory_requests.specs.State as theory_requests
use Rattle.theory_requests.specs.Lines as lines
use Rattle.theory_requests.specs.Lines.{find, line_of}
use Rattle.theory_requests.specs.Lines.Answer.{Idle}
use Rattle.theory_requests.specs.Pool.{Answers}
use Rattle.theory_requests.specs.Told.{IsTold}
use Rattle.theory_requests.proofs.Clauses.{all_stand}
use Rattle.theory_requests.proofs.Standing.{Stands}
use Rattle.upstream_response.specs.Waiting.{passing_in}
use Rattle.upstream_connections.specs.Connections.{Connection, number_of, lives}
use Rattle.theory.specs.Answered.{AreAnswered}
use Rattle.theory.specs.Moves.{Move, told_in}
use Rattle.theory.specs.State.{State, conducts, tape_of, offers_of, turns_of, state_of}
use Rattle.theory.specs.Steps.{told_by}
use Rattle.theory.proofs.Placing.{turns_may, turns_so, offers_may, offers_right, offers_told, in_turns}
use Rattle.theory.proofs.Stepping.{before_is}
use Rattle.theory.proofs.Tapes.{offers_tape, requests_tape}
use Rattle.theory.proofs.Telling.{all_moved, told_right}
use Rattle.refinement.specs.Hearing.{IsHeard}
use Rattle.refinement.specs.Rest.{NoneCut, NoneDone}
use Rattle.refinement.specs.View.{View, Pending, Leads}
use Rattle.refinement.proofs.Lives.{lives_found}
use Rattle.theory_memory_bound.proofs.Answering.{Answering, answering_by}

-- ---- frames without padding

-- the payload of DATA is its content then
bare_content : (frame : Frame) → is_padded frame ≡ false → frame.kind ≡ data_kind → length (content frame) ≡ length frame.payload
bare_content frame bare is = by (is_padded frame) (has_priority frame) bare (ap (λ n. (n == headers_kind) && has_flag 32 frame) is)
  where
    by : (p r : Bool) → p ≡ false → r ≡ false
        → length (take (length frame.payload - ((if p then 1 else 0) + (if r then 5 else 0)) - (if p then slice_index frame.payload 0 else 0)) (drop ((if p then 1 else 0) + (if r then 5 else 0)) frame.payload)) ≡ length frame.payload
    by true r e f = absurd (let no : true ≡ false = e in cc)
    by false true e f = absurd (let no : true ≡ false = f in cc)
    by false false e f = ap length (take_all (length frame.payload - 0 - 0) frame.payload (omega arith))

all_bare : (t : List Entry) → AreUnpadded t → theory_receive_windows.AreUnpadded (sent t)
all_bare [] bare = tt
all_bare (Sent noted ∷ t) bare = (bare_content noted.frame bare.0, all_bare t bare.1)
all_bare (Came noted ∷ t) bare = all_bare t bare
all_bare (Breached breach ∷ t) bare = all_bare t bare
all_bare (Happened event ∷ t) bare = all_bare t bare
all_bare (Did act ∷ t) bare = all_bare t bare

-- ---- what is held

-- The stream's outbox has what is held of the response on this connection.
pub record HoldsFor (known : Known) (t : List Entry) (k stream : ℕ) (boxes : List Kept) : Type 0 where
  pub box : Kept
  pub found : theory_responses.find stream boxes ≡ Some box
  pub holds : IsHeld Streaming known t k (length (body_in box.box))

module _ (known : Known) (run : List Move) (kept : View) (pending : Pending) (s : State) (leads : Leads known.setup run kept pending s) (knows : AreKnown known (conducts run)) (none_cut : NoneCut kept.offers) (none_done : NoneDone kept) where
  abbrev t : List Entry
  t = tape_of run

  answered : AreAnswered known run
  answered = leads.so known refl knows

  stand : Stands known t s.requests
  stand =
      subst (λ (x : State). Stands known t x.requests) leads.stands.is
      (subst (λ (x : List Entry). Stands known x (state_of known.setup run).requests) (requests_tape known.setup run) (all_stand known (turns_of known.setup run) (turns_may known.setup run leads.stands.allowed) (turns_so known run knows leads.stands.allowed answered)))

  place : Placed known t s.offers
  place =
      subst (λ (x : State). Placed known t x.offers) leads.stands.is
      (subst (λ (x : List Entry). Placed known x (state_of known.setup run).offers) (offers_tape known.setup run) (placed known (offers_of known.setup run) (offers_may known.setup run leads.stands.allowed) (offers_right known run knows leads.stands.allowed) (offers_told known run knows answered)).1)

  told : IsTold known t (told_in (told_by s))
  told = subst (λ (u : Summary). IsTold known t (told_in u)) (before_is known.setup run s leads.stands) (told_right known run knows (all_moved known run leads.stands.allowed))

  none_done_there : list_any (is_done (told_in (told_by s))) s.requests.live ≡ false
  none_done_there =
      ap (λ (r : theory_requests.State). list_any (is_done (told_in (told_by s))) r.live) leads.keeps.requests
      ∙ ap (λ (b : Rattle.theory_errors.specs.Book.Book). list_any (is_done (told_in (Rattle.theory_errors.specs.Book.summary_in b))) (lives kept.upstreams.live)) leads.keeps.book
      ∙ none_done

  module _ (k : ℕ) (c : Connection) (found : find number_of k kept.upstreams.live ≡ Some c) where
    live_there : line_of k s.requests.live ≡ Some c.live
    live_there = ap (λ (r : theory_requests.State). line_of k r.live) leads.keeps.requests ∙ lives_found k kept.upstreams.live ∙ ap (option_map (λ (x : Connection). x.live)) found

    -- it is idle, and nothing takes room of it
    pub none_held : c.live.answer ≡ Idle → IsHeld Streaming known t k 0
    none_held is =
        let it = stand.keeps.are_so k c.live live_there in
        inl (record { is_open = it.opened; kept = subst (Answers known t k) is it.answers }, refl)

    module _ (partly : c.live.answer ≡ lines.Answer.Pending) where
      a : Answering known t k c.live
      a = elim (answering_by known t s.requests (told_in (told_by s)) stand told none_done_there k c.live live_there) [
        | inl going ↦ going
        | inr idle ↦ absurd (let clash : lines.Answer.Pending ≡ Idle = sym partly ∙ idle in cc)
      ]

      is_heard : IsHeard known t k c.answer
      is_heard = leads.heard.so known refl knows k c found partly a.no_cause

      -- its response is passed on as the setup says
      pub passed_on : passing_in c.answer.way ≡ known.setup.passing
      passed_on = is_heard.set_up.passing

    module _ (partly : c.live.answer ≡ lines.Answer.Pending) (streaming : known.setup.passing ≡ Streaming) where
      abbrev own : Opened
      own = exchange_on k t

      going : Answering known t k c.live
      going = a partly

      -- behind what was read stands what the outbox has, of a response that isn't whole
      has_outbox : (x : Kept) → Offers known t c.live.stream x.box → HasOutbox known t k x.box
      has_outbox x h = record {
        read = h.read;
        reads = subst (λ n. ReadsAs (items_on n (sent t)) h.read) (sym going.of) h.reads;
        fits = h.fits;
        begun = elim h.offer [
          | inl (inl r) ↦ absurd (let clash : ◌≡◌ {A = Option Cause} None (Some r.cause) = sym going.no_cause ∙ r.has_cause in cc)
          | inl (inr q) ↦ (
              let same : q.o ≡ own = one_connection (exchanges t) q.o own place.neighbours.apart q.given.is_opened going.there (q.given.is_given ∙ sym going.of) in
              by (subst (λ (o : Opened). IsShown known.setup.passing (heard_by o t) (ended_by o t) (is_to_head (items known c.live.stream t)) (offered_by h.read x.box)) same q.shows))
          | inr none ↦ absurd (none.no_connection own (record { is_opened = going.there; is_given = going.of }))
        ];
      }
        where
          by : IsShown known.setup.passing (heard_by own t) (ended_by own t) (is_to_head (items known c.live.stream t)) (offered_by h.read x.box) → IsBegun Streaming (heard_by own t) (ended_by own t) (is_to_head (items known own.stream t)) (offered_by h.read x.box)
          by (inl w) = absurd (going.not_whole (subst (λ n. IsComplete (heard_by own t) (ended_by own t) (is_to_head (items known n t))) (sym going.of) (w.response, w.is_whole)))
          by (inr b) =
              subst (λ n. IsBegun Streaming (heard_by own t) (ended_by own t) (is_to_head (items known n t)) (offered_by h.read x.box)) (sym going.of)
              (subst (λ p. IsBegun p (heard_by own t) (ended_by own t) (is_to_head (items known c.live.stream t)) (offered_by h.read x.box)) streaming b)

      bare : theory_receive_windows.AreUnpadded (sent t)
      bare = all_bare t (unpadded known t (in_turns known run knows leads.stands.allowed))

      -- So much takes room of it.
      pub holds_for : HoldsFor known t k c.live.stream kept.offers.kept
      holds_for = by (theory_responses.find c.live.stream s.offers.kept) refl (place.offering.kept c.live.stream going.active)
        where
          by : (o : Option Kept) → theory_responses.find c.live.stream s.offers.kept ≡ o → IsKeptIf known t c.live.stream o → HoldsFor known t k c.live.stream kept.offers.kept
          by None is h = absurd h
          by (Some x) is h =
              let there : theory_responses.find c.live.stream kept.offers.kept ≡ Some x = sym (ap (λ (b : theory_responses.State). theory_responses.find c.live.stream b.kept) leads.keeps.offers) ∙ is in
              let outbox : HasOutbox known t k x.box = has_outbox x (h.stands (none_cut c.live.stream x there)) in
              record { box = x; found = there; holds = inr (busy known t k x.box outbox bare, holds_body known t k x.box outbox bare) }
