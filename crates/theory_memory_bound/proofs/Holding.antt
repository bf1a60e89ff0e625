-- What the session keeps where the gateway rests is bounded: for each stream its outbox and its connections' answers together, and all of it.
use Rattle.std.proofs.Common.{◌≡◌, ℕ, ◌+◌, ◌*◌, ◌<◌, ◌≤◌, ◌⊎◌, ◌^◌, false, List, [], ◌∷◌, length, Option, Some, None, refl, sym, ◌∙◌, ap, subst, inl, inr, arith}
use Rattle.std.specs.Prelude.{option_map, All}
use Rattle.std.proofs.lemmas.List.{length-map, length-reverse}
use Rattle.std.proofs.lemmas.Nat.{mul-le}
use Rattle.model.specs.Setup.{Setup, Passing}
use Rattle.model.specs.Setup.Passing.{Whole, Streaming}
use Rattle.model.specs.Tapes.{Entry}
use Rattle.model.specs.Lifetimes.{active}
use Rattle.model.specs.Limits.{most_active, longest_section}
use Rattle.model.specs.Tables.{Table, total_size}
use Rattle.model.specs.Courses.{course}
use Rattle.model.specs.Known.{Known}
use Rattle.model.specs.Openings.{Opened, exchanges, exchange_on}
use Rattle.model.proofs.DeliveryReadings.{one_connection}
use Rattle.model.proofs.ExchangeLaws.{open_exchange}
use Rattle.model.specs.Failures.{AreJudged}
use Rattle.theory_errors.specs.Rule.{AreKnown, known_of}
use Rattle.theory_errors.specs.Book.{Book}
use Rattle.theory_errors.specs.Held.{octets_begun}
use Rattle.theory_errors.proofs.Few.{few_on_tape}
use Rattle.theory_errors.proofs.Knowing.{known_so}
use Rattle.theory_errors.proofs.Short.{begun_is_short}
use Rattle.theory_responses.specs.Held as offers
use Rattle.theory_responses.specs.Held.{AreDistinct, AreLimited, FitRooms}
use Rattle.theory_responses.specs.Rule as theory_responses
use Rattle.theory_responses.specs.State as offering_state
use Rattle.theory_responses.specs.State.{Kept}
use Rattle.theory_responses.proofs.Allowing.{placed}
use Rattle.theory_responses.proofs.Counting.{are_distinct, are_of_active}
use Rattle.theory_responses.proofs.Holding as outboxes
use Rattle.theory_responses.proofs.Limits.{NoneTooLong, none_too_long}
use Rattle.theory_responses.proofs.Offering.{IsKeptIf}
use Rattle.theory_responses.proofs.Ruling.{Placed}
use Rattle.theory_responses.proofs.SentOctets.{unpadded}
use Rattle.theory_requests.specs.Held as requests
use Rattle.theory_requests.specs.Told.{Told}
use Rattle.theory_requests.specs.Rule as theory_requests
use Rattle.theory_requests.specs.Lines.{Line, find, line_of}
use Rattle.theory_requests.specs.Lines.Answer.{Pending, Idle}
use Rattle.theory_requests.specs.State as serving_state
use Rattle.theory_requests.specs.State.Due.{Nothing}
use Rattle.theory_requests.proofs.Clauses.{all_stand}
use Rattle.theory_requests.proofs.Counted.{live_few, idle_few}
use Rattle.theory_requests.proofs.Holding as waiting
use Rattle.theory_requests.proofs.Lists.{found_key}
use Rattle.theory_requests.proofs.Served.{held_few}
use Rattle.theory_requests.proofs.Standing.{Stands}
use Rattle.theory_header_tables.proofs.Bounded.{all_bounded}
use Rattle.theory.specs.Moves.{Move, told_in}
use Rattle.theory.specs.State.{State, conducts, tape_of, offers_of, turns_of, tables_of, state_of, summary_at}
use Rattle.theory.specs.Rule.{RestsBehind}
use Rattle.theory.specs.Held.{on_offer_for}
use Rattle.theory.proofs.EndingLives.{AreApart, all_apart}
use Rattle.theory.proofs.Keeping.{IsKnown, judged}
use Rattle.theory.proofs.Placing.{turns_told, turns_may, turns_so, offers_may, offers_right, offers_told, tables_fit, in_turns}
use Rattle.theory.proofs.Tapes.{offers_tape, requests_tape}
use Rattle.theory.proofs.Telling.{all_moved, told_right}
use Rattle.header_blocks.specs.Encoding.{Encoding}
use Rattle.upstream_connections.specs.Kept.{with_due}
use Rattle.upstream_connections.specs.Connections.{Connection, number_of, stream_of, lives}
use Rattle.refinement.specs.Hearing.{IsHeard}
use Rattle.refinement.specs.View.{View, balanced, Leads}
use Rattle.refinement.proofs.Lives.{lives_found}
use Rattle.upstream_response.specs.HeldInside.{octets_of}
use Rattle.upstream_connections.specs.HeldInside.{answers_in}
use Rattle.theory_memory_bound.specs.Held.{answers_for, IsSmall, held_for, held_beside, held_in, most_beside, most_streams, most_connections, most_for_stream, most_in_all}
use Rattle.theory_memory_bound.proofs.Lists.{ids_of, offer_none, offer_found, box_at, all_found, by_number, found_own, found_behind, HaveOne, IsBoxed, answers_none, answers_found, sums_most, sums_both, offers_by_stream, answers_by_stream}
use Rattle.theory_memory_bound.proofs.Waiting.{each_waits}
use Rattle.theory_memory_bound.proofs.Answering.{Answering, answering, none_waits, answer_small, answer_streamed}

module _ (known : Known) (run : List Move) (k : IsKnown known run) (rests : RestsBehind known.setup run) where
  abbrev t : List Entry
  t = tape_of run

  abbrev s : State
  s = state_of known.setup run

  abbrev told : Told
  told = told_in (summary_at known.setup run)

  -- ---- what the concerns know

  stand : Stands known t s.requests
  stand = subst (λ (x : List Entry). Stands known x s.requests) (requests_tape known.setup run) (all_stand known (turns_of known.setup run) (turns_may known.setup run k.all) (turns_so known run k.knows k.all k.answered))

  place : Placed known t s.offers
  place = subst (λ (x : List Entry). Placed known x s.offers) (offers_tape known.setup run) (placed known (offers_of known.setup run) (offers_may known.setup run k.all) (offers_right known run k.knows k.all) (offers_told known run k.knows k.answered)).1

  judged_there : AreJudged known (theory_responses.tape_of (offers_of known.setup run))
  judged_there = subst (AreJudged known) (sym (offers_tape known.setup run)) (judged known run k.knows k.answered)

  fits : NoneTooLong known t
  fits = subst (NoneTooLong known) (offers_tape known.setup run) (none_too_long known (offers_of known.setup run) (offers_may known.setup run k.all) (offers_right known run k.knows k.all) (offers_told known run k.knows k.answered) judged_there)

  heads : All (λ (x : Kept). outboxes.FewWait x.box) s.offers.kept
  heads = outboxes.all_few known (offers_of known.setup run) (offers_may known.setup run k.all) (offers_right known run k.knows k.all) (offers_told known run k.knows k.answered)

  distinct : AreDistinct (ids_of s.offers.kept)
  distinct = are_distinct known (offers_of known.setup run) (offers_may known.setup run k.all) (offers_right known run k.knows k.all) (offers_told known run k.knows k.answered)

  goes_on : (j : ℕ) (line : Line) → line_of j s.requests.live ≡ Some line → Answering known t j line ⊎ (line.answer ≡ Idle)
  goes_on = answering known t s.requests told stand (told_right known run k.knows (all_moved known run k.all)) rests.served

  -- connections of one stream are one
  one_stream : (i j : ℕ) (l m : Line) → line_of i s.requests.live ≡ Some l → line_of j s.requests.live ≡ Some m → l.stream ≡ m.stream → i ≡ j
  one_stream i j l m first second same =
      let a = stand.keeps.are_so i l first in
      let b = stand.keeps.are_so j m second in
      let both = one_connection (exchanges t) (exchange_on i t) (exchange_on j t) stand.apart (open_exchange i t a.opened) (open_exchange j t b.opened) (a.stream ∙ same ∙ sym b.stream) in
      ap (λ (x : Opened). x.k) both

  -- ---- the connections that the session keeps

  module _ (live : List Connection) (same : s.requests.live ≡ lives live) where
    apart : AreApart (lives live)
    apart = subst AreApart same (all_apart known.setup (turns_of known.setup run) (turns_may known.setup run k.all))

    kept_live : (j : ℕ) (c : Connection) → find number_of j live ≡ Some c → line_of j s.requests.live ≡ Some c.live
    kept_live j c found = ap (line_of j) same ∙ lives_found j live ∙ ap (option_map (λ (x : Connection). x.live)) found

    have_one : (cs : List Connection) → AreApart (lives cs) → ((j : ℕ) (c : Connection) → find number_of j cs ≡ Some c → find number_of j live ≡ Some c) → HaveOne cs
    have_one [] once among = tt
    have_one (c ∷ cs) once among = (none (find stream_of c.live.stream cs) refl, have_one cs once.1 behind)
      where
        behind : (j : ℕ) (x : Connection) → find number_of j cs ≡ Some x → find number_of j live ≡ Some x
        behind j x found = among j x (found_behind c cs j x once.0 found)

        none : (o : Option Connection) → find stream_of c.live.stream cs ≡ o → o ≡ None
        none None found = refl
        none (Some x) found =
            let there = by_number c.live.stream cs x once.1 found in
            let equal = one_stream c.live.k x.live.k c.live x.live (kept_live c.live.k c (among c.live.k c (found_own c cs))) (kept_live x.live.k x (behind x.live.k x there)) (sym (found_key stream_of c.live.stream cs x found)) in
            absurd (let clash : ◌≡◌ {A = Option Line} None (Some x.live) = sym once.0 ∙ ap (λ n. line_of n (lives cs)) equal ∙ lives_found x.live.k cs ∙ ap (option_map (λ (y : Connection). y.live)) there in cc)

    ones : HaveOne live
    ones = have_one live apart (λ j c found. found)

    module _ (empty : (j : ℕ) (c : Connection) → find number_of j live ≡ Some c → c.live.answer ≡ Idle → octets_of c.answer ≡ 0) where
      -- each is of a stream that has an outbox, or its answer holds nothing
      with_boxes : All (IsBoxed s.offers.kept) live
      with_boxes = all_found (IsBoxed s.offers.kept) live apart (λ j c found. boxed j c found (goes_on j c.live (kept_live j c found)))
        where
          boxed : (j : ℕ) (c : Connection) → find number_of j live ≡ Some c → Answering known t j c.live ⊎ (c.live.answer ≡ Idle) → IsBoxed s.offers.kept c
          boxed j c found (inl a) = inl (place.offering.lives c.live.stream ∙ a.active)
          boxed j c found (inr idle) = inr (empty j c found idle)

      module _ (heard : (j : ℕ) (c : Connection) → find number_of j live ≡ Some c → c.live.answer ≡ Pending → (course known c.live.stream t).cause ≡ None → IsHeard known t j c.answer) (fit : known.setup.passing ≡ Streaming → FitRooms known t) where
        limited : AreLimited known.setup.passing known (theory_responses.tape_of (offers_of known.setup run))
        limited = subst (AreLimited known.setup.passing known) (sym (offers_tape known.setup run)) (by known.setup.passing refl)
          where
            by : (passing : Passing) → known.setup.passing ≡ passing → AreLimited passing known t
            by Whole is = judged known run k.knows k.answered
            by Streaming is = (fit is, unpadded known t (in_turns known run k.knows k.all))

        boxes : All (λ (x : Kept). offers.octets_in x.box ≤ offers.most_octets known.setup) s.offers.kept
        boxes = outboxes.all_held known (offers_of known.setup run) (offers_may known.setup run k.all) (offers_right known run k.knows k.all) (offers_told known run k.knows k.answered) limited

        most : offers.most_octets known.setup ≤ known.setup.max_response + 229376
        most = outboxes.most_within known.setup

        -- what the outbox of a stream holds
        box_small : (stream : ℕ) (x : Kept) → offering_state.find stream s.offers.kept ≡ Some x → offers.octets_in x.box ≤ known.setup.max_response + 229376
        box_small stream x is = let small = box_at (λ (y : Kept). offers.octets_in y.box ≤ offers.most_octets known.setup) stream s.offers.kept x boxes is in omega (arith, small, most)

        module _ (stream : ℕ) (c : Connection) (found : find stream_of stream live ≡ Some c) where
          there : find number_of c.live.k live ≡ Some c
          there = by_number stream live c apart found

          own : c.live.stream ≡ stream
          own = found_key stream_of stream live c found

          module _ (a : Answering known t c.live.k c.live) where
            told_of : IsHeard known t c.live.k c.answer
            told_of = heard c.live.k c there a.pending a.no_cause

            -- what the answer of its connection holds
            answer_whole : known.setup.passing ≡ Whole → octets_of c.answer ≤ known.setup.max_response + 3 * longest_section
            answer_whole whole = answer_small known t c.live.k c.live c.answer whole place.neighbours a told_of fits

            answer_going : known.setup.passing ≡ Streaming → octets_of c.answer ≤ 2 * longest_section
            answer_going streaming = answer_streamed known t c.live.k c.answer streaming told_of

            answer_by : (passing : Passing) → known.setup.passing ≡ passing → octets_of c.answer ≤ known.setup.max_response + 3 * longest_section
            answer_by Whole is = answer_whole is
            answer_by Streaming is = let less = answer_going is in omega (arith, less)

            -- of a body that is passed on whole its outbox holds nothing yet
            box_bare : (x : Kept) → known.setup.passing ≡ Whole → offering_state.find stream s.offers.kept ≡ Some x → offers.octets_in x.box ≤ (offers.most_heads + 1) * longest_section
            box_bare x whole box =
                let is_kept : IsKeptIf known t c.live.stream (Some x) = subst (IsKeptIf known t c.live.stream) (ap (λ n. offering_state.find n s.offers.kept) own ∙ box) (place.offering.kept c.live.stream a.active) in
                let none = none_waits known t c.live.k c.live x.box whole place.neighbours a (is_kept.stands (is_kept.uncut a.no_cause)) in
                let few = box_at (λ (y : Kept). outboxes.FewWait y.box) stream s.offers.kept x heads box in
                let some = outboxes.heads_sum x.box few in
                let trailers = few.trailers in
                omega (arith, none, some, trailers)

            -- both together
            both_by : (x : Kept) → offering_state.find stream s.offers.kept ≡ Some x → (passing : Passing) → known.setup.passing ≡ passing → offers.octets_in x.box + octets_of c.answer ≤ known.setup.max_response + 262144
            both_by x box Whole is = let bare = box_bare x is box in let answer = answer_whole is in omega (arith, bare, answer)
            both_by x box Streaming is = let small = box_small stream x box in let answer = answer_going is in omega (arith, small, answer)

          -- what its answer holds, whether its response is whole or not
          answer_either : octets_of c.answer ≤ known.setup.max_response + 3 * longest_section
          answer_either = by (goes_on c.live.k c.live (kept_live c.live.k c there))
            where
              by : Answering known t c.live.k c.live ⊎ (c.live.answer ≡ Idle) → octets_of c.answer ≤ known.setup.max_response + 3 * longest_section
              by (inl a) = answer_by a known.setup.passing refl
              by (inr idle) = let none = empty c.live.k c there idle in omega (arith, none)

          both_small : (x : Kept) → offering_state.find stream s.offers.kept ≡ Some x → offers.octets_in x.box + octets_of c.answer ≤ known.setup.max_response + 262144
          both_small x box = by (goes_on c.live.k c.live (kept_live c.live.k c there))
            where
              by : Answering known t c.live.k c.live ⊎ (c.live.answer ≡ Idle) → offers.octets_in x.box + octets_of c.answer ≤ known.setup.max_response + 262144
              by (inl a) = both_by a x box known.setup.passing refl
              by (inr idle) = let none = empty c.live.k c there idle in let small = box_small stream x box in omega (arith, none, small)

        -- what is on offer for a stream, and what its connections' answers hold
        pub pair : (stream : ℕ) → on_offer_for stream s.offers.kept + answers_for stream live ≤ known.setup.max_response + 262144
        pair stream = by (find stream_of stream live) refl (offering_state.find stream s.offers.kept) refl
          where
            by : (o : Option Connection) → find stream_of stream live ≡ o → (b : Option Kept) → offering_state.find stream s.offers.kept ≡ b → on_offer_for stream s.offers.kept + answers_for stream live ≤ known.setup.max_response + 262144
            by None none None empty =
                let answer = answers_none stream live none in
                let box = offer_none stream s.offers.kept empty in
                omega (arith, answer, box)
            by None none (Some x) is =
                let answer = answers_none stream live none in
                let box = offer_found stream s.offers.kept x distinct is in
                let small = box_small stream x is in
                omega (arith, answer, box, small)
            by (Some c) found None empty =
                let answer = answers_found stream live c ones found in
                let small = answer_either stream c found in
                let box = offer_none stream s.offers.kept empty in
                omega (arith, answer, small, box)
            by (Some c) found (Some x) is =
                let answer = answers_found stream live c ones found in
                let box = offer_found stream s.offers.kept x distinct is in
                let both = both_small stream c found x is in
                omega (arith, answer, box, both)

        -- all outboxes and all answers
        pub all_pairs : offers.octets_held s.offers + answers_in live ≤ length s.offers.kept * (known.setup.max_response + 262144)
        all_pairs =
            let first = offers_by_stream s.offers.kept in
            let second = answers_by_stream s.offers.kept live with_boxes in
            let both = sums_both (λ n. on_offer_for n s.offers.kept) (λ n. answers_for n live) s.offers.kept in
            let total = sums_most (λ n. on_offer_for n s.offers.kept + answers_for n live) (known.setup.max_response + 262144) s.offers.kept pair in
            omega (arith, first, second, both, total)

  -- ---- what is kept of requests, and beside streams, while the connection goes on

  module _ (on : s.ledger.book.ends ≡ false) where
    moved : Rattle.theory_errors.specs.Book.AllMoved known.setup (conducts run)
    moved = all_moved known run k.all

    few : length (active t) ≤ most_active
    few = few_on_tape known (conducts run) k.knows moved rests.conduct.nothing on

    pub few_boxes : length s.offers.kept ≤ most_active
    few_boxes =
        let count : length (ids_of s.offers.kept) ≡ length (active t) =
        ap length (are_of_active known (offers_of known.setup run) (offers_may known.setup run k.all) (offers_right known run k.knows k.all) (offers_told known run k.knows k.answered)) ∙ length-reverse (active (theory_responses.tape_of (offers_of known.setup run))) ∙ ap (λ (x : List Entry). length (active x)) (offers_tape known.setup run) in
        let mapped = length-map s.offers.kept (λ (x : Kept). x.id) in
        omega (arith, count, mapped, few)

    turns_same : length (active (serving_state.tape_of (turns_of known.setup run))) ≡ length (active t)
    turns_same = ap (λ (x : List Entry). length (active x)) (requests_tape known.setup run)

    pub few_requests : length s.requests.held ≤ most_active
    few_requests =
        let less = held_few known (turns_of known.setup run) (turns_may known.setup run k.all) (turns_so known run k.knows k.all k.answered) in
        let same = turns_same in
        omega (arith, less, same, few)

    pub few_connections : length s.requests.live ≤ most_active + known.setup.most_idle
    few_connections =
        let less = live_few known (turns_of known.setup run) (turns_may known.setup run k.all) (turns_so known run k.knows k.all k.answered)
        (subst (λ (x : Told). theory_requests.Rests x s.requests) (sym (turns_told known.setup run)) rests.served) in
        let idle = idle_few known (turns_of known.setup run) (turns_may known.setup run k.all) (turns_so known run k.knows k.all k.answered) in
        let same = turns_same in
        omega (arith, less, idle, same, few)

    pub few_beside : octets_begun s.ledger.book.block + total_size s.tables.decoding.fields + total_size s.tables.encoding.table.fields ≤ most_beside
    few_beside =
        let block = begun_is_short known.setup (conducts run) moved on in
        let tables = all_bounded known.setup.policy (tables_of known.setup run) (tables_fit known.setup run k.all) in
        let decoding = tables.0.sizes in
        let encoding = tables.1.sizes in
        omega (arith, block, decoding, encoding)

    module _ (range : known.setup.max_body < 2 ^ 64) where
      pub request_small : (stream : ℕ) → requests.held_requests stream s.requests.held ≤ known.setup.max_body + 32888
      request_small stream =
          let all = waiting.held_by_body known (turns_of known.setup run) (turns_may known.setup run k.all) (turns_so known run k.knows k.all k.answered) range stream in
          omega (arith, all)

      pub requests_small : requests.held_of_all s.requests.held ≤ 100 * (known.setup.max_body + 32888)
      requests_small =
          let all = waiting.all_by_body known (turns_of known.setup run) (turns_may known.setup run k.all) (turns_so known run k.knows k.all k.answered) range in
          let same = turns_same in
          let most = mul-le (length (active (serving_state.tape_of (turns_of known.setup run)))) (known.setup.max_body + requests.most_beside) 100 (known.setup.max_body + requests.most_beside) (omega (arith, same, few)) (omega arith) in
          omega (arith, all, most)

-- ---- what the session keeps

module _ (setup : Setup) (run : List Move) (kept : View) (s : State) (led : Leads setup run kept balanced s) (rests : RestsBehind setup run) where
  abbrev known : Known
  known = known_of setup (conducts run)

  knows : AreKnown known (conducts run)
  knows = known_so setup (conducts run)

  is_known : IsKnown known run
  is_known = record { knows = knows; all = led.stands.allowed; answered = led.so known refl knows }

  abbrev rule : State
  rule = state_of setup run

  on : rule.ledger.book.ends ≡ false
  on = ap (λ (x : State). x.ledger.book.ends) led.stands.is ∙ led.stands.goes_on

  offers_same : rule.offers ≡ kept.offers
  offers_same = ap (λ (x : State). x.offers) led.stands.is ∙ led.keeps.offers

  requests_same : rule.requests ≡ with_due kept.upstreams Nothing
  requests_same = ap (λ (x : State). x.requests) led.stands.is ∙ led.keeps.requests

  live_same : rule.requests.live ≡ lives kept.upstreams.live
  live_same = ap (λ (x : serving_state.State). x.live) requests_same

  held_same : rule.requests.held ≡ kept.upstreams.held
  held_same = ap (λ (x : serving_state.State). x.held) requests_same

  block_same : rule.ledger.book.block ≡ kept.inbound.block
  block_same = ap (λ (x : State). x.ledger.book.block) led.stands.is ∙ ap (λ (b : Book). b.block) led.keeps.book

  decoding_same : rule.tables.decoding ≡ kept.inbound.table
  decoding_same = ap (λ (x : State). x.tables.decoding) led.stands.is ∙ led.keeps.decoding

  encoding_same : rule.tables.encoding ≡ kept.encoding
  encoding_same = ap (λ (x : State). x.tables.encoding) led.stands.is ∙ led.keeps.encoding

  heard_there : (j : ℕ) (c : Connection) → find number_of j kept.upstreams.live ≡ Some c → c.live.answer ≡ Pending → (course known c.live.stream (tape_of run)).cause ≡ None → IsHeard known (tape_of run) j c.answer
  heard_there = led.heard.so known refl knows

  module _ (range : setup.max_body < 2 ^ 64) (fit : setup.passing ≡ Streaming → FitRooms known (tape_of run)) where
    beside : held_beside kept ≤ most_beside
    beside =
        let little = few_beside known run is_known rests on in
        let block = ap octets_begun block_same in
        let decoding = ap (λ (x : Table). total_size x.fields) decoding_same in
        let encoding = ap (λ (x : Encoding). total_size x.table.fields) encoding_same in
        omega (arith, little, block, decoding, encoding)

    boxes_few : length kept.offers.kept ≤ most_streams
    boxes_few = let few_there = few_boxes known run is_known rests on in let same = ap (λ (x : offering_state.State). length x.kept) offers_same in omega (arith, few_there, same)

    requests_few : length kept.upstreams.held ≤ most_streams
    requests_few = let few_there = few_requests known run is_known rests on in let same = ap length held_same in omega (arith, few_there, same)

    connections_few : length kept.upstreams.live ≤ most_connections setup
    connections_few =
        let few_there = few_connections known run is_known rests on in
        let same = ap length live_same in
        let mapped = length-map kept.upstreams.live (λ (c : Connection). c.live) in
        omega (arith, few_there, same, mapped)

    each : (stream : ℕ) → held_for stream kept ≤ most_for_stream setup
    each stream =
        let both = pair known run is_known rests kept.upstreams.live live_same led.heard.none_idle heard_there fit stream in
        let request = request_small known run is_known rests on range stream in
        let offer = ap (λ (x : offering_state.State). on_offer_for stream x.kept) offers_same in
        let held = ap (requests.held_requests stream) held_same in
        omega (arith, both, request, offer, held)

    all : held_in kept ≤ most_in_all setup
    all =
        let little = beside in
        let both = all_pairs known run is_known rests kept.upstreams.live live_same led.heard.none_idle heard_there fit in
        let few_there = few_boxes known run is_known rests on in
        let most = mul-le (length rule.offers.kept) (setup.max_response + 262144) 100 (setup.max_response + 262144) (omega (arith, few_there)) (omega arith) in
        let request = requests_small known run is_known rests on range in
        let offer = ap (λ (x : offering_state.State). offers.octets_held x) offers_same in
        let held = ap requests.held_of_all held_same in
        omega (arith, little, both, most, request, offer, held)

    pub little_kept : IsSmall setup kept
    little_kept = record { beside = beside; few_boxes = boxes_few; few_requests = requests_few; few_connections = connections_few; each = each; all = all; few_waiting = each_waits setup run kept balanced s led }
