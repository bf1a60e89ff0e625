-- What is kept is within its bounds.
use Rattle.std.proofs.Common.{◌≡◌, ℕ, ◌+◌, ◌<◌, ◌≤◌, ◌^◌, Bool, true, false, ◌==◌, if◌then◌else◌, List, [], ◌∷◌, map, length, refl, sym, ◌∙◌, ap, subst, arith}
use Rattle.std.proofs.lemmas.List.{length-map, length-reverse}
use Rattle.std.proofs.lemmas.Nat.{mul-le}
use Rattle.std.proofs.lemmas.Bool.{or_parts, eqb-true}
use Rattle.std.proofs.lemmas.List.Elements.{All-head, All-tail}
use Rattle.std.specs.Prelude.{sum_by}
use Rattle.std.specs.List.{All, list_any}
use Rattle.model.specs.Frames.{Frame}
use Rattle.model.specs.Setup.{Setup, Passing}
use Rattle.model.specs.Setup.Passing.{Whole, Streaming}
use Rattle.model.specs.Tapes.{Entry, is_closed}
use Rattle.model.specs.Lifetimes.{active}
use Rattle.model.specs.Limits.{most_active}
use Rattle.model.specs.Known.{Known}
use Rattle.theory_errors.specs.Rule.{AreKnown}
use Rattle.theory_errors.specs.Held.{octets_begun}
use Rattle.theory_errors.proofs.Few.{few_on_tape}
use Rattle.theory_errors.proofs.Short.{begun_is_short}
use Rattle.theory_errors.proofs.Tidy.{nothing_ends}
use Rattle.theory_responses.specs.Held as offers
use Rattle.theory_responses.specs.Held.{FitRooms, AreLimited, AreDistinct}
use Rattle.theory_responses.specs.Rule as theory_responses
use Rattle.theory_responses.specs.State.{Kept}
use Rattle.theory_responses.proofs.Counting.{are_distinct, are_of_active}
use Rattle.theory_responses.proofs.Holding as outboxes
use Rattle.theory_responses.proofs.SentOctets.{unpadded}
use Rattle.theory_requests.specs.Held as requests
use Rattle.theory_requests.specs.State as theory_requests
use Rattle.theory_requests.proofs.Holding as waiting
use Rattle.theory_requests.proofs.Served.{held_few}
use Rattle.theory_header_tables.proofs.Bounded.{all_bounded}
use Rattle.theory.specs.Moves.{Move}
use Rattle.theory.specs.State.{State, conducts, tape_of, offers_of, turns_of, tables_of, state_of}
use Rattle.theory.specs.Rule.{AllAllowed, RestsBehind}
use Rattle.theory.specs.Answered.{AreAnswered}
use Rattle.theory.specs.Held.{held_on_connection, on_offer_for, held_for, held_in_all, most_on_connection, most_for_stream, most_in_all}
use Rattle.theory.proofs.Tapes.{offers_tape, requests_tape}
use Rattle.theory.proofs.Telling.{all_moved}
use Rattle.theory.proofs.Placing.{offers_may, offers_right, offers_told, turns_may, turns_so, tables_fit, in_turns}
use Rattle.theory.proofs.Keeping.{judged}

-- ---- outboxes one by one

-- nothing is on offer for a stream that isn't kept
offer_none : (stream : ℕ) (ks : List Kept) → list_any (λ other. other == stream) (map (λ (k : Kept). k.id) ks) ≡ false → on_offer_for stream ks ≡ 0
offer_none stream [] none = refl
offer_none stream (k ∷ ks) none =
    let parts = or_parts (k.id == stream) (list_any (λ other. other == stream) (map (λ (x : Kept). x.id) ks)) none in
    let here : (if k.id == stream then offers.octets_in k.box else 0) ≡ 0 = ap (λ b. if b then offers.octets_in k.box else 0) parts.0 in
    let rest = offer_none stream ks parts.1 in
    omega (arith, here, rest)

-- where each outbox is small and no stream has two, what is on offer for one is small
offer_small : (stream most : ℕ) (ks : List Kept) → All (λ (k : Kept). offers.octets_in k.box ≤ most) ks → AreDistinct (map (λ (k : Kept). k.id) ks) → on_offer_for stream ks ≤ most
offer_small stream most [] small apart = omega arith
offer_small stream most (k ∷ ks) small apart = cases (offer_small stream most ks (All-tail (λ (x : Kept). offers.octets_in x.box ≤ most) k ks small) apart.1) (k.id == stream) refl
  where
    cases : on_offer_for stream ks ≤ most → (b : Bool) → (k.id == stream) ≡ b → (if b then offers.octets_in k.box else 0) + on_offer_for stream ks ≤ most
    cases rest false is = omega (arith, rest)
    cases rest true is =
        let none = offer_none stream ks (subst (λ n. list_any (λ other. other == n) (map (λ (x : Kept). x.id) ks) ≡ false) (eqb-true k.id stream is) apart.0) in
        let here = All-head (λ (x : Kept). offers.octets_in x.box ≤ most) k ks small in
        omega (arith, none, here)

-- ---- a run

module _ (known : Known) (run : List Move) (knows : AreKnown known (conducts run)) (all : AllAllowed known.setup run) (answered : AreAnswered known run) where
  abbrev setup : Setup
  setup = known.setup

  abbrev s : State
  s = state_of known.setup run

  -- what bodies are bounded by
  limited : (known.setup.passing ≡ Streaming → FitRooms known (tape_of run)) → AreLimited known.setup.passing known (theory_responses.tape_of (offers_of known.setup run))
  limited fit = subst (AreLimited known.setup.passing known) (sym (offers_tape known.setup run)) (by known.setup.passing refl)
    where
      by : (passing : Passing) → known.setup.passing ≡ passing → AreLimited passing known (tape_of run)
      by Whole is = judged known run knows answered
      by Streaming is = (fit is, unpadded known (tape_of run) (in_turns known run knows all))

  -- each outbox
  boxes : (known.setup.passing ≡ Streaming → FitRooms known (tape_of run)) → All (λ (k : Kept). offers.octets_in k.box ≤ offers.most_octets known.setup) s.offers.kept
  boxes fit = outboxes.all_held known (offers_of known.setup run) (offers_may known.setup run all) (offers_right known run knows all) (offers_told known run knows answered) (limited fit)

  apart : AreDistinct (map (λ (k : Kept). k.id) s.offers.kept)
  apart = are_distinct known (offers_of known.setup run) (offers_may known.setup run all) (offers_right known run knows all) (offers_told known run knows answered)

  -- what is kept for a stream
  pub little_for : (known.setup.passing ≡ Streaming → FitRooms known (tape_of run)) → known.setup.max_body < 2 ^ 64 → (stream : ℕ) → held_for stream s ≤ most_for_stream known.setup
  little_for fit range stream =
      let offer = offer_small stream (offers.most_octets known.setup) s.offers.kept (boxes fit) apart in
      let most = outboxes.most_within known.setup in
      let request = waiting.held_by_body known (turns_of known.setup run) (turns_may known.setup run all) (turns_so known run knows all answered) range stream in
      omega (arith, offer, most, request)

  -- ---- behind the client's close

  -- nothing is kept of a request
  pub none_at_close : is_closed (tape_of run) ≡ true → requests.held_octets s.requests ≡ 0
  none_at_close closed =
      waiting.none_at_close known (turns_of known.setup run) (turns_may known.setup run all) (turns_so known run knows all answered) (ap is_closed (requests_tape known.setup run) ∙ closed)

  -- ---- where it rests, and the connection goes on

  module _ (rests : RestsBehind known.setup run) (open_yet : s.ledger.book.closed ≡ false) where
    goes_on : s.ledger.book.ends ≡ false
    goes_on = nothing_ends s.ledger rests.conduct open_yet

    -- at most a hundred streams are active
    few : length (active (tape_of run)) ≤ most_active
    few = few_on_tape known (conducts run) knows (all_moved known run all) rests.conduct.nothing goes_on

    -- so no more have an outbox, or a request that isn't whole
    pub few_boxes : length s.offers.kept ≤ most_active
    few_boxes =
        let same = are_of_active known (offers_of known.setup run) (offers_may known.setup run all) (offers_right known run knows all) (offers_told known run knows answered) in
        let tape : length (active (theory_responses.tape_of (offers_of known.setup run))) ≡ length (active (tape_of run)) = ap (λ (t : List Entry). length (active t)) (offers_tape known.setup run) in
        let count = ap length same in
        let mapped = length-map s.offers.kept (λ (k : Kept). k.id) in
        let turned = length-reverse (active (theory_responses.tape_of (offers_of known.setup run))) in
        omega (arith, tape, count, mapped, turned, few)

    pub few_requests : length s.requests.held ≤ most_active
    few_requests =
        let less = held_few known (turns_of known.setup run) (turns_may known.setup run all) (turns_so known run knows all answered) in
        let tape : length (active (theory_requests.tape_of (turns_of known.setup run))) ≡ length (active (tape_of run)) = ap (λ (t : List Entry). length (active t)) (requests_tape known.setup run) in
        omega (arith, less, tape, few)

    -- what is kept of the connection
    pub little_on_connection : held_on_connection s ≤ most_on_connection
    little_on_connection =
        let block = begun_is_short known.setup (conducts run) (all_moved known run all) goes_on in
        let out : octets_begun s.ledger.book.block_out ≡ 0 = ap octets_begun rests.conduct.none_begun in
        let queue : sum_by (λ (frame : Frame). length frame.payload) s.ledger.queue ≡ 0 = ap (sum_by (λ (frame : Frame). length frame.payload)) rests.conduct.nothing in
        let tables = all_bounded known.setup.policy (tables_of known.setup run) (tables_fit known.setup run all) in
        let decoding = tables.0.sizes in
        let encoding = tables.1.sizes in
        omega (arith, block, out, queue, decoding, encoding)

    -- all that is kept
    pub little_in_all : (known.setup.passing ≡ Streaming → FitRooms known (tape_of run)) → known.setup.max_body < 2 ^ 64 → held_in_all s ≤ most_in_all known.setup
    little_in_all fit range =
        let connection = little_on_connection in
        let offer = outboxes.held_together known (offers_of known.setup run) (offers_may known.setup run all) (offers_right known run knows all) (offers_told known run knows answered) (limited fit) in
        let request = waiting.all_by_body known (turns_of known.setup run) (turns_may known.setup run all) (turns_so known run knows all answered) range in
        let offer_tape : length (active (theory_responses.tape_of (offers_of known.setup run))) ≡ length (active (tape_of run)) = ap (λ (t : List Entry). length (active t)) (offers_tape known.setup run) in
        let request_tape : length (active (theory_requests.tape_of (turns_of known.setup run))) ≡ length (active (tape_of run)) = ap (λ (t : List Entry). length (active t)) (requests_tape known.setup run) in
        let most = outboxes.most_within known.setup in
        let offers_most = mul-le (length (active (theory_responses.tape_of (offers_of known.setup run)))) (offers.most_octets known.setup) 100 (known.setup.max_response + 229376) (omega (arith, offer_tape, few)) most in
        let requests_most = mul-le (length (active (theory_requests.tape_of (turns_of known.setup run)))) (known.setup.max_body + requests.most_beside) 100 (known.setup.max_body + requests.most_beside) (omega (arith, request_tape, few)) (omega arith) in
        omega (arith, connection, offer, request, offers_most, requests_most)
