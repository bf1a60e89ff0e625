-- Behind an answer that failed: the reset that is owed, where a final head is out, is paid, and none is owed then.
use Rattle.std.proofs.Common.{◌≡◌, ℕ, ◌<◌, Bool, true, false, ◌&&◌, ◌==◌, List, [], ◌∷◌, ◌+◌, Option, Some, None, refl, sym, ◌∙◌, ap, subst, inl, inr, if◌then◌else◌, arith, nat_lt}
use Rattle.std.specs.Prelude.{◌⊎◌, is_some, is_none, option_map}
use Rattle.std.specs.List.{list_any}
use Rattle.model.specs.Frames.{Frame, Fits, spell, internal_error}
use Rattle.model.specs.Logs.{Output}
use Rattle.model.specs.Logs.Act.{Close}
use Rattle.model.specs.Logs.Output.{ToClient, Does}
use Rattle.model.specs.Setup.{Setup}
use Rattle.model.specs.Setup.Passing.{Whole}
use Rattle.model.specs.Tapes.{Entry, put, sent}
use Rattle.model.specs.Openings.{Opened, exchanges, exchange_on}
use Rattle.model.specs.Available.{items_on, heard_by, ended_by, shown, IsShown}
use Rattle.model.specs.Known.{Known}
use Rattle.model.specs.Deliveries.{Delivery}
use Rattle.model.specs.Responses.{IsComplete}
use Rattle.model.specs.Offers.{is_to_head, IsOffered}
use Rattle.model.specs.Causes.{Cause}
use Rattle.model.specs.Causes.Cause.{BadAnswer}
use Rattle.model.specs.Courses.{items, is_final}
use Rattle.model.specs.ErrorClause.{rst_stream}
use Rattle.model.specs.Lifetimes.{is_active, may_open}
use Rattle.model.proofs.DeliveryReadings.{one_connection}
use Rattle.model.proofs.HeadLaws.{out_by_read}
use Rattle.theory_errors.specs.Summary.{Stream as Conducted, summary_of}
use Rattle.theory_errors.specs.Rows as rows
use Rattle.theory_errors.specs.Book.{Book}
use Rattle.theory_errors.specs.Told as theory_errors
use Rattle.theory_errors.proofs.Telling.{book_told, live_told}
use Rattle.theory_responses.specs.Outbox.{Outbox, offered_by}
use Rattle.theory_responses.specs.Outbox.Outbox.{Before, Behind, Over}
use Rattle.theory_responses.specs.State as theory_responses
use Rattle.theory_responses.specs.State.{Kept, answered, answered_box}
use Rattle.theory_responses.proofs.Keeping.{answered_id, find_changed}
use Rattle.theory_responses.proofs.Offering.{IsKeptIf, IsHeld}
use Rattle.theory_responses.proofs.Standing as offered
use Rattle.theory_responses.proofs.Standing.{HasNoOffer}
use Rattle.upstream_response.specs.Waiting.{Answer}
use Rattle.h1_reader.proofs.Telling.{not_done}
use Rattle.send_queue.specs.Asked.{is_cut_if, is_kept}
use Rattle.theory_requests.specs.Lines.{find, without, is_idle}
use Rattle.theory_requests.specs.State.{Held, id_of}
use Rattle.streams.specs.Asked as asked
use Rattle.streams.specs.Asked.{has}
use Rattle.upstream_connections.specs.Connections.{Connection, number_of}
use Rattle.theory.specs.Moves.{Move}
use Rattle.theory.specs.State.{State, conducts, tape_of}
use Rattle.theory.proofs.Telling.{all_moved}
use Rattle.refinement.specs.View.{View, Pending, balanced, waiting_for, Leads}
use Rattle.refinement.specs.Rest.{IsAtRest}
use Rattle.refinement.specs.Bringing.{Course, OwnSegment, PerformsOwn}
use Rattle.refinement.proofs.Resets.{reset_view, reset_paid, has_same}
use Rattle.model.specs.Limits.{most_untaken}
use Rattle.event_handlers.specs.Comings.{Comes}
use Rattle.event_handlers.specs.Inputs.{Input}
use Rattle.event_handlers.specs.Stopping.{IsCalmed}
use Rattle.event_handlers.proofs.Calming.{calm_ends}
use Rattle.event_handlers.proofs.Following.{IsInput, course_then}
use Rattle.event_handlers.specs.exchanges.Giving.{replied_to, reset_behind, reset_if, put_if, back_if, is_cut_then, closed_at, abandoned_if, put_abandoned}
use Rattle.event_handlers.specs.exchanges.Taking.{answered_with}
use Rattle.event_handlers.proofs.exchanges.Coming as coming
use Rattle.event_handlers.proofs.exchanges.FailedRows as failing
use Rattle.event_handlers.proofs.exchanges.Fails.{resets_for, FailsBy, without_answer}
use Rattle.event_handlers.proofs.exchanges.Following.{course_own}
use Rattle.refinement.proofs.Where.{own, own_led, placed_here, right_here}

-- what goes once goes no more
without_twice : (id : ℕ) (hs : List Held) → without id_of id (without id_of id hs) ≡ without id_of id hs
without_twice id [] = refl
without_twice id (h ∷ hs) = by (h.id == id) refl (without_twice id hs)
  where
    by : (b : Bool) → (h.id == id) ≡ b → without id_of id (without id_of id hs) ≡ without id_of id hs → without id_of id (if b then without id_of id hs else h ∷ without id_of id hs) ≡ (if b then without id_of id hs else h ∷ without id_of id hs)
    by true is more = more
    by false is more = ap (λ b. if b then without id_of id (without id_of id hs) else h ∷ without id_of id (without id_of id hs)) is ∙ ap (λ (xs : List Held). h ∷ xs) more

-- the frame of a reset is as long as a frame may be
reset_fits : (stream : ℕ) → stream < 2147483648 → Fits (rst_stream stream internal_error)
reset_fits stream few = record { kind = omega arith; flags = omega arith; id = few; payload = omega arith }

-- a reset that is owed is paid behind the reply: the octets that waited of its DATA go back
pub pays_reset : (setup : Setup) (v : View) (stream : ℕ) → has v.inbound.rows stream ≡ true → stream < 2147483648 → nat_lt most_untaken v.untaken ≡ false → (outputs : List Output)
    → PerformsOwn setup (replied_to stream v) (record balanced { owed = rst_stream stream internal_error ∷ [] }) outputs (reset_behind stream (replied_to stream v)) (record balanced { shared = waiting_for stream v }) (put outputs (ToClient (spell (rst_stream stream internal_error))))
pays_reset setup v stream there few free outputs run s leads =
    subst (λ (x : View). OwnSegment setup run s outputs x (record balanced { shared = waiting_for stream v }) (put outputs (ToClient (spell (rst_stream stream internal_error))))) reset_is
    (subst (λ n. OwnSegment setup run s outputs (reset_view (replied_to stream v) stream internal_error) (record balanced { shared = n }) (put outputs (ToClient (spell (rst_stream stream internal_error))))) (none_more (waiting_for stream v))
    (reset_paid setup (replied_to stream v) (record balanced { owed = rst_stream stream internal_error ∷ [] }) [] stream internal_error refl refl not_to_open (reset_fits stream few) free outputs run s leads))
  where
    none_more : (n : ℕ) → 0 + n ≡ n
    none_more n = omega arith

    reset_is : reset_view (replied_to stream v) stream internal_error ≡ reset_behind stream (replied_to stream v)
    reset_is = ap (λ (hs : List Held). record (reset_behind stream (replied_to stream v)) { upstreams = record v.upstreams { held = hs } }) (without_twice stream v.upstreams.held)

    not_to_open : may_open v.inbound.drained (rows.ids_of (replied_to stream v).inbound.rows) stream ≡ false
    not_to_open = failing.opened_once v.inbound.drained (rows.ids_of (replied_to stream v).inbound.rows) stream (has_same stream stream _ v.inbound.rows ∙ there)

module _ (setup : Setup) (kept : View) (rest : IsAtRest kept) (run : List Move) (s : State) (leads : Leads setup run kept balanced s) (k : ℕ) (c : Connection) (found : find number_of k kept.upstreams.live ≡ Some c) (working : is_idle c.live.answer ≡ false) where
  abbrev stream : ℕ
  stream = c.live.stream

  abbrev t : List Entry
  t = tape_of run

  -- an event of the connection is about its stream, which is active
  active_on_tape : is_active stream t ≡ true
  active_on_tape = sym ((right_here setup run s leads.stands leads.so).active stream) ∙ (coming.event_of setup kept rest run s leads k c found working (Rattle.model.specs.Logs.Event.UpEnd k) refl).active

  pub active_row : asked.is_active kept.inbound.rows stream ≡ true
  active_row = ap (λ (b : Book). asked.is_active b.rows stream) (sym leads.keeps.book) ∙ (coming.event_of setup kept rest run s leads k c found working (Rattle.model.specs.Logs.Event.UpEnd k) refl).active

  no_cause : (rows.find kept.inbound.rows stream).outline.cause ≡ None
  no_cause = ap (λ (b : Book). (rows.find b.rows stream).outline.cause) (sym leads.keeps.book) ∙ (coming.event_of setup kept rest run s leads k c found working (Rattle.model.specs.Logs.Event.UpEnd k) refl).no_cause

  -- ---- its outbox

  pub box_kept : is_kept stream kept.offers.kept ≡ true
  box_kept =
      ap (λ (o : theory_responses.State). is_some (theory_responses.find stream o.kept)) (sym leads.keeps.offers)
      ∙ (placed_here setup run s leads.stands leads.so).offering.lives stream ∙ active_on_tape

  -- whether a final head was sent
  told : theory_errors.IsTold s.ledger.book (summary_of (own setup run s leads.stands leads.so) t)
  told =
      subst (λ (x : State). theory_errors.IsTold x.ledger.book (summary_of (own setup run s leads.stands leads.so) t)) leads.stands.is
      (book_told (own setup run s leads.stands leads.so) (conducts run) (own_led setup run s leads.stands leads.so).knows (all_moved (own setup run s leads.stands leads.so) run leads.stands.allowed) (ap (λ (x : State). x.ledger.book.ends) leads.stands.is ∙ leads.stands.goes_on))

  head_sent : (rows.find kept.inbound.rows stream).head_out ≡ list_any is_final (items_on stream (sent t))
  head_sent = ap (λ (b : Book). (rows.find b.rows stream).head_out) (sym leads.keeps.book) ∙ ap (λ (x : Conducted). x.head_out) (live_told (own setup run s leads.stands leads.so) t s.ledger.book told stream active_on_tape)

  -- a reset is owed behind the reply just where it was
  cut_by : (x : Kept) (box : Outbox) → x.cut ≡ false → offered.Stands (own setup run s leads.stands leads.so) t stream box → (answered_box BadAnswer x box).cut ≡ (rows.find kept.inbound.rows stream).head_out
  cut_by x (Before interims head body whole) none st = none ∙ sym (head_sent ∙ out_by_read (items_on stream (sent t)) st.read st.reads ∙ ap (λ o. is_some o) st.fits)
  cut_by x (Behind body whole) none st = sym (head_sent ∙ out_by_read (items_on stream (sent t)) st.read st.reads ∙ st.fits.0)
  cut_by x Over none st = sym (head_sent ∙ out_by_read (items_on stream (sent t)) st.read st.reads ∙ st.fits.0)

  pub cut_is : is_cut_then stream kept ≡ (rows.find kept.inbound.rows stream).head_out
  cut_is = ap is_cut_if (find_changed stream (answered BadAnswer) kept.offers.kept (answered_id BadAnswer)) ∙ by (theory_responses.find stream kept.offers.kept) refl
    where
      held : IsKeptIf (own setup run s leads.stands leads.so) t stream (theory_responses.find stream kept.offers.kept)
      held = subst (λ (o : theory_responses.State). IsKeptIf (own setup run s leads.stands leads.so) t stream (theory_responses.find stream o.kept)) leads.keeps.offers ((placed_here setup run s leads.stands leads.so).offering.kept stream active_on_tape)

      by : (o : Option Kept) → theory_responses.find stream kept.offers.kept ≡ o → is_cut_if (option_map (answered BadAnswer) o) ≡ (rows.find kept.inbound.rows stream).head_out
      by None is = absurd (subst (IsKeptIf (own setup run s leads.stands leads.so) t stream) is held)
      by (Some x) is =
          let it : IsHeld (own setup run s leads.stands leads.so) t stream x = subst (IsKeptIf (own setup run s leads.stands leads.so) t stream) is held in
          let none : x.cut ≡ false = rest.none_cut stream x is in
          cut_by x x.box none (it.stands none)

  -- where responses are passed on whole no final head is out of one that isn't
  module _ (whole : setup.passing ≡ Whole) where
    abbrev known_here : Known
    known_here = own setup run s leads.stands leads.so

    no_head : (read : Delivery) (box : Outbox) → (offered_by read box).head ≡ read.head → is_some read.head ≡ true → IsOffered known_here t stream (offered_by read box) ⊎ HasNoOffer known_here t stream read box → ⊥
    no_head read box same some (inr none) =
        let no : false ≡ true = ap (λ (d : Delivery). is_some d.head) (sym none.nothing_read) ∙ some in let clash : false ≡ true = no in cc
    no_head read box same some (inl (inl replied)) =
        let calm = coming.calm setup kept rest run s leads k c found working known_here refl (own_led setup run s leads.stands leads.so).knows in
        let no : ◌≡◌ {A = Option Cause} None (Some replied.cause) = sym calm ∙ replied.has_cause in cc
    no_head read box same some (inl (inr passed)) = by passed.shows
      where
        here : exchange_on k t ≡ passed.o
        here =
            one_connection (exchanges t) (exchange_on k t) passed.o (coming.apart_here setup kept rest run s leads k c found working) (coming.there_here setup kept rest run s leads k c found working) passed.given.is_opened
            (coming.given_is_stream setup kept rest run s leads k c found working ∙ sym passed.given.is_given)

        by : IsShown setup.passing (heard_by passed.o t) (ended_by passed.o t) (is_to_head (items known_here stream t)) (offered_by read box) → ⊥
        by (inl whole_one) =
            let is = coming.heard_own setup kept rest run s leads k c found working in
            let asked : c.answer.reader.to_head ≡ is_to_head (items known_here stream t) = is.asked ∙ ap (λ n. is_to_head (items known_here n t)) (coming.given_is_stream setup kept rest run s leads k c found working) in
            not_done (heard_by (exchange_on k t) t) is.parts c.answer.reader is.stands is.goes_on
            (subst (λ b. IsComplete (heard_by (exchange_on k t) t) false b) (sym asked)
            (subst (λ b. IsComplete (heard_by (exchange_on k t) t) b (is_to_head (items known_here stream t))) (coming.not_ended setup kept rest run s leads k c found working)
            (subst (λ (x : Opened). IsComplete (heard_by x t) (ended_by x t) (is_to_head (items known_here stream t))) (sym here) (whole_one.response, whole_one.is_whole))))
        by (inr begun) =
            let none : read.head ≡ None = sym same ∙ ap (λ (d : Delivery). d.head) begun.says ∙ ap (λ p. (shown p begun.interims begun.head begun.octets).head) whole in
            let no : false ≡ true = sym (ap (λ o. is_some o) none) ∙ some in
            absurd (let clash : false ≡ true = no in cc)

    never_cut : (x : Kept) (box : Outbox) → x.cut ≡ false → offered.Stands known_here t stream box → (answered_box BadAnswer x box).cut ≡ false
    never_cut x (Before interims head body whole) none st = none
    never_cut x (Behind body whole) none st = absurd (no_head st.read (Behind body whole) refl st.fits.0 st.offer)
    never_cut x Over none st = absurd (no_head st.read Over refl st.fits.0 st.offer)

    pub whole_not_cut : is_cut_then stream kept ≡ false
    whole_not_cut = ap is_cut_if (find_changed stream (answered BadAnswer) kept.offers.kept (answered_id BadAnswer)) ∙ by (theory_responses.find stream kept.offers.kept) refl
      where
        held : IsKeptIf known_here t stream (theory_responses.find stream kept.offers.kept)
        held = subst (λ (o : theory_responses.State). IsKeptIf known_here t stream (theory_responses.find stream o.kept)) leads.keeps.offers ((placed_here setup run s leads.stands leads.so).offering.kept stream active_on_tape)

        by : (o : Option Kept) → theory_responses.find stream kept.offers.kept ≡ o → is_cut_if (option_map (answered BadAnswer) o) ≡ false
        by None is = absurd (subst (IsKeptIf known_here t stream) is held)
        by (Some x) is =
            let it : IsHeld known_here t stream x = subst (IsKeptIf known_here t stream) is held in
            let none : x.cut ≡ false = rest.none_cut stream x is in
            never_cut x x.box none (it.stands none)

  -- ---- the reset is paid

  owed_is : resets_for kept stream ≡ (if is_cut_then stream kept then rst_stream stream internal_error ∷ [] else [])
  owed_is =
      ap (λ o. if is_none o && (rows.find kept.inbound.rows stream).head_out then rst_stream stream internal_error ∷ [] else []) no_cause
      ∙ ap (λ b. if b then rst_stream stream internal_error ∷ [] else []) (sym cut_is)

  there : has kept.inbound.rows stream ≡ true
  there = failing.there kept.inbound.rows stream active_row

  module _ (outputs : List Output) (entry : Entry) (input : Input) (is_input : IsInput setup entry input) (p : List Output) (cut : is_cut_then stream kept ≡ true) where
    abbrev owing : Pending
    owing = record balanced { owed = rst_stream stream internal_error ∷ [] }

    over : (v : View) → Course setup run s outputs entry v (record balanced { owed = resets_for kept stream }) outputs → IsCalmed v outputs p → Comes setup run outputs (input ∷ []) balanced None p
    over v course calmed =
        course_then setup run s v owing balanced outputs outputs p entry input None is_input
        (subst (λ (fs : List Frame). Course setup run s outputs entry v (record balanced { owed = fs }) outputs) (owed_is ∙ ap (λ b. if b then rst_stream stream internal_error ∷ [] else []) cut) course)
        (calm_ends setup v owing (inl (rst_stream stream internal_error, [], refl)) refl outputs p calmed)

    -- Where the answer fails with its connection, and the reset can't go, the connection to the client ends.
    pub lost_over : Course setup run s outputs entry (replied_to stream (closed_at k kept)) (record balanced { owed = resets_for kept stream }) outputs → IsCalmed (replied_to stream (closed_at k kept)) outputs p → Comes setup run outputs (input ∷ []) balanced None p
    lost_over course calmed = over (replied_to stream (closed_at k kept)) course calmed

    -- The same where its connection is open still.
    pub abandon_over : (answer : Answer) → FailsBy setup kept run s k stream outputs entry → IsCalmed (replied_to stream (answered_with k answer kept.offers kept)) outputs p → Comes setup run outputs (input ∷ []) balanced None p
    abandon_over answer fails calmed = over (replied_to stream (answered_with k answer kept.offers kept)) (fails.opened streams answer) calmed
      where
        streams : setup.passing ≡ Whole → ⊥
        streams whole = let no : true ≡ false = sym cut ∙ whole_not_cut whole in let clash : true ≡ false = no in cc

  module _ (few : stream < 2147483648) (free : is_cut_then stream kept ≡ true → nat_lt most_untaken kept.untaken ≡ false) (outputs : List Output) (entry : Entry) where
    -- Where the answer fails with its connection, and a reset that is owed is paid, octets are to go back.
    pub lost_paid : Course setup run s outputs entry (replied_to stream (closed_at k kept)) (record balanced { owed = resets_for kept stream }) outputs
        → Course setup run s outputs entry (reset_if (is_cut_then stream kept) stream (replied_to stream (closed_at k kept))) (record balanced { shared = back_if (is_cut_then stream kept) stream kept }) (put_if (is_cut_then stream kept) stream outputs)
    lost_paid course = by (is_cut_then stream kept) refl (subst (λ (fs : List Frame). Course setup run s outputs entry (replied_to stream (closed_at k kept)) (record balanced { owed = fs }) outputs) owed_is course)
      where
        by : (b : Bool) → is_cut_then stream kept ≡ b → Course setup run s outputs entry (replied_to stream (closed_at k kept)) (record balanced { owed = if b then rst_stream stream internal_error ∷ [] else [] }) outputs
            → Course setup run s outputs entry (reset_if b stream (replied_to stream (closed_at k kept))) (record balanced { shared = back_if b stream kept }) (put_if b stream outputs)
        by false is done = done
        by true is owing = course_own setup run s outputs outputs (put outputs (ToClient (spell (rst_stream stream internal_error)))) (replied_to stream (closed_at k kept)) (reset_behind stream (replied_to stream (closed_at k kept))) (record balanced { owed = rst_stream stream internal_error ∷ [] }) (record balanced { shared = waiting_for stream kept }) entry owing (pays_reset setup (closed_at k kept) stream there few (free is) outputs)

    -- The same where its connection is closed behind the gateway's reply, and is open still behind a reset.
    pub abandon_paid : (answer : Answer) → FailsBy setup kept run s k stream outputs entry
        → Course setup run s outputs entry (abandoned_if (is_cut_then stream kept) k stream (answered_with k answer kept.offers kept)) (record balanced { shared = back_if (is_cut_then stream kept) stream kept }) (put_abandoned (is_cut_then stream kept) k stream outputs)
    abandon_paid answer fails = by (is_cut_then stream kept) refl
      where
        owed : (b : Bool) → is_cut_then stream kept ≡ b → resets_for kept stream ≡ (if b then rst_stream stream internal_error ∷ [] else [])
        owed b is = owed_is ∙ ap (λ x. if x then rst_stream stream internal_error ∷ [] else []) is

        streams : is_cut_then stream kept ≡ true → setup.passing ≡ Whole → ⊥
        streams cut whole = let no : true ≡ false = sym cut ∙ whole_not_cut whole in let clash : true ≡ false = no in cc

        by : (b : Bool) → is_cut_then stream kept ≡ b → Course setup run s outputs entry (abandoned_if b k stream (answered_with k answer kept.offers kept)) (record balanced { shared = back_if b stream kept }) (put_abandoned b k stream outputs)
        by false is =
            subst (λ (cs : List Connection). Course setup run s outputs entry (record (closed_at k (replied_to stream kept)) { upstreams = record (closed_at k (replied_to stream kept)).upstreams { live = cs } }) balanced (put outputs (Does (Close k)))) (sym (without_answer k answer kept.upstreams.live))
            (subst (λ (fs : List Frame). Course setup run s outputs entry (closed_at k (replied_to stream kept)) (record balanced { owed = fs }) (put outputs (Does (Close k)))) (owed false is) (fails.closed (owed false is)))
        by true is =
            course_own setup run s outputs outputs (put outputs (ToClient (spell (rst_stream stream internal_error)))) (replied_to stream (answered_with k answer kept.offers kept)) (reset_behind stream (replied_to stream (answered_with k answer kept.offers kept))) (record balanced { owed = rst_stream stream internal_error ∷ [] }) (record balanced { shared = waiting_for stream kept }) entry
            (subst (λ (fs : List Frame). Course setup run s outputs entry (replied_to stream (answered_with k answer kept.offers kept)) (record balanced { owed = fs }) outputs) (owed true is) (fails.opened (streams is) answer))
            (pays_reset setup (answered_with k answer kept.offers kept) stream there few (free is) outputs)
