-- How much is held of requests: for one stream, and for all.
use Rattle.std.proofs.Common.{◌≡◌, ℕ, ◌+◌, ◌*◌, ◌<◌, ◌≤◌, ◌^◌, true, false, ◌==◌, List, [], ◌∷◌, length, refl, sym, ap, ◌∙◌, subst, inl, inr, if◌then◌else◌, arith}
use Rattle.std.specs.Prelude.{Option, Some, None}
use Rattle.std.proofs.lemmas.Bool.{eq-eqb, ne_eqb}
use Rattle.std.proofs.lemmas.Bool.Decides.{eqb_tells}
use Rattle.model.specs.Setup.Passing.{Whole as WholePassing, Streaming}
use Rattle.model.specs.Openings.{exchange_on}
use Rattle.model.specs.Tapes.{Entry, is_closed}
use Rattle.model.specs.Known.{Known}
use Rattle.model.specs.Lifetimes.{active}
use Rattle.h1_writer.specs.Sending.{Stage, held_back}
use Rattle.theory_requests.specs.Told.{is_served}
use Rattle.theory_requests.specs.Lines.{without, Line, line_of}
use Rattle.theory_requests.specs.State.{Way, Held, id_of, held_of, Due, State, Turn, state_of, tape_of}
use Rattle.theory_requests.specs.State.Way.{Waiting, Going, Dropped}
use Rattle.theory_requests.specs.State.Due.{Nothing, ToOpen, ToUse, ToSend}
use Rattle.theory_requests.specs.Rule.{AreAllowed}
use Rattle.theory_requests.specs.Meaning.{AreSo}
use Rattle.theory_requests.specs.Held.{held_by, held_requests, is_for, due_for, held_for, due_octets, held_of_all, held_octets, most_beside, AreApart, FitFrames}
use Rattle.theory_requests.proofs.Standing.{IsSending, IsDue, IsOnWay, Stands}
use Rattle.theory_requests.proofs.Closing.{found_exchange}
use Rattle.theory_requests.proofs.Clauses.{all_stand}
use Rattle.theory_requests.proofs.Served.{AllServed, held_served, held_apart, apart_without, DueServed, due_served, none_behind_close, is_among, no_more}
use Rattle.theory_requests.proofs.Room.{back_one, above, requests_none, requests_found, held_without, one_apart, served_among, waits_short, DueFits, due_fits, room_by_body, room_by_frame}

-- ---- all that is held

module _ (known : Known) (t : List Entry) (s : State) (h : Stands known t s) (all_served : AllServed known t s.held) (apart : AreApart s.held) (most : ℕ) (base : most_beside ≤ most) (waits : known.setup.passing ≡ WholePassing → known.setup.max_body + most_beside ≤ most) (due : DueFits most s.held s.due) where
  -- a request that isn't whole
  way_fits : (stream : ℕ) → 0 < stream → (way : Way) → IsOnWay known t s stream way → held_by way ≤ most
  way_fits stream some (Waiting route text stage body) w =
      let short = waits_short known t stream text stage body some w.awaited in
      let text_short = short.0 in
      let body_short = short.1 in
      let room = waits w.whole_passing in
      omega (arith, text_short, body_short, room)
  way_fits stream some (Going k stage) w = let one = back_one stage in omega (arith, one, base)
  way_fits stream some Dropped w = omega arith

  found_fits : (stream : ℕ) (x : Held) → held_of stream s.held ≡ Some x → held_by x.way ≤ most
  found_fits stream x found = way_fits stream (above known t stream (all_served stream x found)) x.way (h.held stream x found)

  -- what is held of a stream
  requests_fit : (stream : ℕ) → held_requests stream s.held ≤ most
  requests_fit stream = by (held_of stream s.held) refl
    where
      by : (o : Option Held) → held_of stream s.held ≡ o → held_requests stream s.held ≤ most
      by None none = let zero_held = requests_none stream s.held none in omega (arith, zero_held)
      by (Some x) found = let same = requests_found stream s.held x apart found in let fits = found_fits stream x found in omega (arith, same, fits)

  -- of a stream that has a connection no more than an octet is
  going_one : (k : ℕ) (l : Line) → line_of k s.live ≡ Some l → (stream : ℕ) → l.stream ≡ stream → held_requests stream s.held ≤ 1
  going_one k l found stream same = by (held_of stream s.held) refl
    where
      way_one : (way : Way) → IsOnWay known t s stream way → held_by way ≤ 1
      way_one (Waiting route text stage body) w =
          let it = found_exchange known t s h k l found in
          absurd (w.none_given (exchange_on k t) (record { is_opened = it.is_opened; is_given = it.is_given ∙ same }))
      way_one (Going j stage) w = back_one stage
      way_one Dropped w = omega arith

      by : (o : Option Held) → held_of stream s.held ≡ o → held_requests stream s.held ≤ 1
      by None none = let zero_held = requests_none stream s.held none in omega (arith, zero_held)
      by (Some x) there = let same = requests_found stream s.held x apart there in let one = way_one x.way (h.held stream x there) in omega (arith, same, one)

  -- what is held for a stream
  pub stream_fits : (stream : ℕ) → held_for stream s ≤ most
  stream_fits stream = by s.due refl due
    where
      requests : held_requests stream s.held ≤ most
      requests = requests_fit stream

      begun_room : (other : ℕ) (text : List ℕ) (stage : Stage) → (length text + 1 ≤ most) × (held_of other s.held ≡ None) → held_requests stream s.held + (if other == stream then length text + held_back stage else 0) ≤ most
      begun_room other text stage fits = elim (eqb_tells other stream) [
        | inl same ↦ (
            let zero_held = requests_none stream s.held (subst (λ n. held_of n s.held ≡ None) same.1 fits.1) in
            let one = back_one stage in
            let room = fits.0 in
            subst (λ b. held_requests stream s.held + (if b then length text + held_back stage else 0) ≤ most) (sym same.0) (omega (arith, zero_held, one, room)))
        | inr apart_from ↦ subst (λ b. held_requests stream s.held + (if b then length text + held_back stage else 0) ≤ most) (sym apart_from.0) (omega (arith, requests))
      ]

      by : (d : Due) → s.due ≡ d → DueFits most s.held d → held_requests stream s.held + due_for stream s.live d ≤ most
      by Nothing is fits = omega (arith, requests)
      by (ToOpen other route text stage) is fits = begun_room other text stage fits
      by (ToUse k other text stage) is fits = begun_room other text stage fits
      by (ToSend k text) is fits = on (line_of k s.live) refl
        where
          on : (o : Option Line) → line_of k s.live ≡ o → held_requests stream s.held + (if is_for stream o then length text else 0) ≤ most
          on None none = omega (arith, requests)
          on (Some l) found = elim (eqb_tells l.stream stream) [
            | inl same ↦ (let one = going_one k l found stream same.1 in subst (λ b. held_requests stream s.held + (if b then length text else 0) ≤ most) (sym same.0) (omega (arith, one, fits)))
            | inr other ↦ subst (λ b. held_requests stream s.held + (if b then length text else 0) ≤ most) (sym other.0) (omega (arith, requests))
          ]

  -- all that is held of requests
  all_fit : (hs : List Held) → AreApart hs → ((stream : ℕ) (x : Held) → held_of stream hs ≡ Some x → held_by x.way ≤ most) → held_of_all hs ≤ length hs * most
  all_fit [] are fits = omega arith
  all_fit (x ∷ hs) are fits =
      let first = fits x.id x (ap (λ b. if b then Some x else held_of x.id hs) (eq-eqb x.id x.id refl)) in
      let rest = all_fit hs are.1 (λ stream y found. fits stream y (ap (λ b. if b then Some x else held_of stream hs) (ne_eqb x.id stream (λ same. let clash : ◌≡◌ {A = Option Held} None (Some y) = sym are.0 ∙ ap (λ n. held_of n hs) same ∙ found in cc)) ∙ found)) in
      grind (arith, first, rest)

  -- streams that are served are among the active ones, and so is one more that isn't held
  active_all : length s.held ≤ length (active t)
  active_all = no_more s.held (active t) apart (λ stream x found. served_among known t stream (all_served stream x found))

  active_more : (stream : ℕ) → is_served known stream t ≡ true → held_of stream s.held ≡ None → length s.held + 1 ≤ length (active t)
  active_more stream served none =
      let new : Held = record { id = stream; way = Dropped } in
      let few = no_more (new ∷ s.held) (active t) (none, apart) with_it in
      omega (arith, few)
    where
      with_it : (n : ℕ) (x : Held) → held_of n (record { id = stream; way = Dropped } ∷ s.held) ≡ Some x → is_among n (active t) ≡ true
      with_it n x found = elim (eqb_tells stream n) [
        | inl same ↦ subst (λ m. is_among m (active t) ≡ true) same.1 (served_among known t stream served)
        | inr other ↦ served_among known t n (all_served n x (sym (ap (λ b. if b then Some (record { id = stream; way = Dropped }) else held_of n s.held) other.0) ∙ found))
      ]

  -- so many streams more, so much more
  times : (a b : ℕ) → a ≤ b → a * most ≤ b * most
  times a b fits = grind (arith, fits)

  all_requests_fit : held_of_all s.held ≤ length s.held * most
  all_requests_fit = all_fit s.held apart found_fits

  beside_none : (stream count : ℕ) → is_served known stream t ≡ true → held_of stream s.held ≡ None → count ≤ most → held_of_all s.held + count ≤ length (active t) * most
  beside_none stream count served none fits =
      let all = all_requests_fit in
      let more = times (length s.held + 1) (length (active t)) (active_more stream served none) in
      let sum : (length s.held + 1) * most ≡ length s.held * most + most = grind arith in
      omega (arith, all, more, sum, fits)

  beside_one : (stream count : ℕ) (x : Held) → held_of stream s.held ≡ Some x → held_by x.way ≤ 1 → count + 1 ≤ most → held_of_all s.held + count ≤ length (active t) * most
  beside_one stream count x found one fits =
      let parts = one_apart stream s.held x apart found in
      let rest = all_fit (without id_of stream s.held) (apart_without stream s.held apart) (λ n y there. found_fits n y (held_without stream n s.held y there)) in
      let all = times (length s.held) (length (active t)) active_all in
      let count_is = parts.1 in
      let sum : length s.held * most ≡ length (without id_of stream s.held) * most + most = ap (λ n. n * most) parts.1 ∙ grind arith in
      let whole = parts.0 in
      omega (arith, rest, all, sum, whole, one, fits)

  -- all that is held and due, by the streams that are active
  pub octets_fit : DueServed known t s.live s.due → held_octets s ≤ length (active t) * most
  octets_fit due_are_served = by s.due refl due due_are_served
    where
      by : (d : Due) → s.due ≡ d → DueFits most s.held d → DueServed known t s.live d → held_of_all s.held + due_octets d ≤ length (active t) * most
      by Nothing is fits served = let all = all_requests_fit in let few = times (length s.held) (length (active t)) active_all in omega (arith, all, few)
      by (ToOpen stream route text stage) is fits served = let one = back_one stage in let room = fits.0 in beside_none stream (length text + held_back stage) served fits.1 (omega (arith, one, room))
      by (ToUse k stream text stage) is fits served = let one = back_one stage in let room = fits.0 in beside_none stream (length text + held_back stage) served fits.1 (omega (arith, one, room))
      by (ToSend k text) is fits served = on (held_of there.line.stream s.held) refl
        where
          there : IsSending t s.live k
          there = subst (IsDue known t s.live) is h.due

          on : (o : Option Held) → held_of there.line.stream s.held ≡ o → held_of_all s.held + length text ≤ length (active t) * most
          on None none = beside_none there.line.stream (length text) (served there.line there.found) none (omega (arith, fits))
          on (Some x) found =
              let one = going_one k there.line there.found there.line.stream refl in
              let same = requests_found there.line.stream s.held x apart found in
              beside_one there.line.stream (length text) x found (omega (arith, one, same)) fits

-- where requests are passed on as they come nothing waits but an octet that is held back
streamed_one : (known : Known) (t : List Entry) (s : State) → Stands known t s → AreApart s.held → known.setup.passing ≡ Streaming → (stream : ℕ) → held_requests stream s.held ≤ 1
streamed_one known t s h apart streaming stream = by (held_of stream s.held) refl
  where
    way_one : (way : Way) → IsOnWay known t s stream way → held_by way ≤ 1
    way_one (Waiting route text stage body) w = absurd (let clash : WholePassing ≡ Streaming = sym w.whole_passing ∙ streaming in cc)
    way_one (Going j stage) w = back_one stage
    way_one Dropped w = omega arith

    by : (o : Option Held) → held_of stream s.held ≡ o → held_requests stream s.held ≤ 1
    by None none = let zero_held = requests_none stream s.held none in omega (arith, zero_held)
    by (Some x) there = let same = requests_found stream s.held x apart there in let one = way_one x.way (h.held stream x there) in omega (arith, same, one)

-- ---- along allowed moves

module _ (known : Known) (turns : List Turn) (all : AreAllowed known.setup turns) (so : AreSo known turns) where
  abbrev pub kept_now : State
  kept_now = state_of known.setup turns

  beside : most_beside ≤ known.setup.max_body + most_beside
  beside = omega arith

  pub held_by_body : known.setup.max_body < 2 ^ 64 → (stream : ℕ) → held_for stream kept_now ≤ known.setup.max_body + most_beside
  held_by_body fits =
      stream_fits known (tape_of turns) kept_now (all_stand known turns all so) (held_served known turns all so) (held_apart known.setup turns) (known.setup.max_body + most_beside) beside (λ passing. omega arith)
      (due_fits known (known.setup.max_body + most_beside) beside turns all so (room_by_body known fits turns all so))

  pub all_by_body : known.setup.max_body < 2 ^ 64 → held_octets kept_now ≤ length (active (tape_of turns)) * (known.setup.max_body + most_beside)
  all_by_body fits =
      octets_fit known (tape_of turns) kept_now (all_stand known turns all so) (held_served known turns all so) (held_apart known.setup turns) (known.setup.max_body + most_beside) beside (λ passing. omega arith)
      (due_fits known (known.setup.max_body + most_beside) beside turns all so (room_by_body known fits turns all so)) (due_served known turns all so)

  pub held_by_frame : known.setup.passing ≡ Streaming → FitFrames (tape_of turns) → (stream : ℕ) → held_for stream kept_now ≤ most_beside
  held_by_frame streaming frames =
      stream_fits known (tape_of turns) kept_now (all_stand known turns all so) (held_served known turns all so) (held_apart known.setup turns) most_beside (omega arith)
      (λ passing. absurd (let clash : WholePassing ≡ Streaming = sym passing ∙ streaming in cc))
      (due_fits known most_beside (omega arith) turns all so (room_by_frame known streaming turns all so frames))

  pub none_waits : known.setup.passing ≡ Streaming → (stream : ℕ) → held_requests stream kept_now.held ≤ 1
  none_waits streaming stream = streamed_one known (tape_of turns) kept_now (all_stand known turns all so) (held_apart known.setup turns) streaming stream

  -- nothing is held for a stream that isn't served
  pub none_held : (stream : ℕ) → is_served known stream (tape_of turns) ≡ false → held_for stream kept_now ≡ 0
  none_held stream lost =
      let none = requests_none stream kept_now.held (not_held (held_of stream kept_now.held) refl) in
      let calm_due = not_due kept_now.due (due_served known turns all so) in
      omega (arith, none, calm_due)
    where
      not_held : (o : Option Held) → held_of stream kept_now.held ≡ o → o ≡ None
      not_held None none = refl
      not_held (Some x) found = absurd (let clash : true ≡ false = sym (held_served known turns all so stream x found) ∙ lost in cc)

      other : (n : ℕ) → is_served known n (tape_of turns) ≡ true → (n == stream) ≡ false
      other n served = ne_eqb n stream (λ same. let clash : true ≡ false = sym served ∙ ap (λ m. is_served known m (tape_of turns)) same ∙ lost in cc)

      not_due : (d : Due) → DueServed known (tape_of turns) kept_now.live d → due_for stream kept_now.live d ≡ 0
      not_due Nothing served = refl
      not_due (ToOpen n route text stage) served = ap (λ b. if b then length text + held_back stage else 0) (other n served)
      not_due (ToUse k n text stage) served = ap (λ b. if b then length text + held_back stage else 0) (other n served)
      not_due (ToSend k text) served = on (line_of k kept_now.live) refl
        where
          on : (o : Option Line) → line_of k kept_now.live ≡ o → (if is_for stream o then length text else 0) ≡ 0
          on None none = refl
          on (Some l) found = ap (λ b. if b then length text else 0) (other l.stream (served l found))

  -- nothing is held behind the client's close
  pub none_at_close : is_closed (tape_of turns) ≡ true → held_octets kept_now ≡ 0
  none_at_close closed = let none = none_behind_close known turns all so closed in ap (λ hs. held_of_all hs + due_octets kept_now.due) none.0 ∙ ap (λ d. 0 + due_octets d) none.1
