-- Where the gateway rests no more connections are open than streams are active, but for those that are idle.
use Rattle.std.proofs.Common.{subst, ◌≡◌, ℕ, ◌+◌, ◌≤◌, Bool, true, false, ◌==◌, List, [], ◌∷◌, length, refl, sym, ap, ◌∙◌, inl, inr, if◌then◌else◌, arith}
use Rattle.std.specs.Prelude.{Option, Some, None}
use Rattle.std.specs.List.{list_any}
use Rattle.std.proofs.lemmas.Bool.{eq-eqb, ne_eqb}
use Rattle.std.proofs.lemmas.Bool.Decides.{eqb_tells}
use Rattle.model.specs.Tapes.{Entry}
use Rattle.model.specs.Openings.{Opened, exchanges, exchange_on}
use Rattle.model.specs.Known.{Known}
use Rattle.model.specs.Lifetimes.{active}
use Rattle.model.specs.Idle.{AreDistinct}
use Rattle.model.proofs.DeliveryReadings.{one_connection}
use Rattle.theory_requests.specs.Told.{is_served}
use Rattle.theory_requests.specs.Lines.{Answer, Line, line_of, is_idle, idle_ones}
use Rattle.theory_requests.specs.Lines.Answer.{Pending, Idle, Done}
use Rattle.theory_requests.specs.Pool.{Answers}
use Rattle.theory_requests.specs.State.{Held, held_of, State, Turn, state_of, tape_of}
use Rattle.theory_requests.specs.State.Way.{Dropped}
use Rattle.theory_requests.specs.Rule.{is_done_by, told_of, AreAllowed, Rests}
use Rattle.theory_requests.specs.Meaning.{AreSo}
use Rattle.theory_requests.specs.Held.{AreApart}
use Rattle.theory_requests.proofs.Fitting.{not_not}
use Rattle.theory_requests.proofs.Pool.{HasLine, found_there, has_number, there_found, told_idle}
use Rattle.theory_requests.proofs.Pooling.{numbers}
use Rattle.theory_requests.proofs.Standing.{Stands}
use Rattle.theory_requests.proofs.Closing.{found_exchange}
use Rattle.theory_requests.proofs.Clauses.{none_done, all_stand, all_told}
use Rattle.theory_requests.proofs.Served.{is_among, no_more}
use Rattle.theory_requests.proofs.Room.{served_among}

-- ---- connections that aren't idle, by their streams

abbrev stream_held : Line → Held
stream_held l = record { id = l.stream; way = Dropped }

abbrev busy_ones : List Line → List Held
busy_ones [] = []
busy_ones (l ∷ ls) = if is_idle l.answer then busy_ones ls else stream_held l ∷ busy_ones ls

-- each is idle or isn't
both_kinds : (ls : List Line) → length ls ≡ length (busy_ones ls) + length (idle_ones ls)
both_kinds [] = refl
both_kinds (l ∷ ls) = by (is_idle l.answer) (both_kinds ls)
  where
    by : (b : Bool) → length ls ≡ length (busy_ones ls) + length (idle_ones ls) → length (l ∷ ls) ≡ length (if b then busy_ones ls else stream_held l ∷ busy_ones ls) + length (if b then l.k ∷ idle_ones ls else idle_ones ls)
    by true more = omega (arith, more)
    by false more = omega (arith, more)

-- a connection with another number comes first
not_first : (l : Line) (ls : List Line) (n : ℕ) (m : Line) → AreDistinct (numbers (l ∷ ls)) → line_of n ls ≡ Some m → line_of n (l ∷ ls) ≡ Some m
not_first l ls n m distinct found = ap (λ b. if b then Some l else line_of n ls) (ne_eqb l.k n apart) ∙ found
  where
    apart : l.k ≡ n → ⊥
    apart same =
        let there = found_there n ls m found in
        let clash : true ≡ false = sym (has_number m ls there.0) ∙ ap (λ x. list_any (λ j. j == x) (numbers ls)) (there.1 ∙ sym same) ∙ distinct.0 in cc

-- What is found by its stream is found by its number.
pub record IsBusy (stream : ℕ) (ls : List Line) : Type 0 where
  pub line : Line
  pub found : line_of line.k ls ≡ Some line
  pub same : line.stream ≡ stream
  pub not_idle : is_idle line.answer ≡ false

by_stream : (stream : ℕ) (ls : List Line) (x : Held) → AreDistinct (numbers ls) → held_of stream (busy_ones ls) ≡ Some x → IsBusy stream ls
by_stream stream [] x distinct found = absurd (cc)
by_stream stream (l ∷ ls) x distinct found = by (is_idle l.answer) refl (by_stream stream ls x distinct.1) found
  where
    later : IsBusy stream ls → IsBusy stream (l ∷ ls)
    later more = record { line = more.line; found = not_first l ls more.line.k more.line distinct more.found; same = more.same; not_idle = more.not_idle }

    by : (b : Bool) → is_idle l.answer ≡ b → (held_of stream (busy_ones ls) ≡ Some x → IsBusy stream ls) → held_of stream (if b then busy_ones ls else stream_held l ∷ busy_ones ls) ≡ Some x → IsBusy stream (l ∷ ls)
    by true idle more found = later (more found)
    by false busy more found = elim (eqb_tells l.stream stream) [
      | inl same ↦ record { line = l; found = ap (λ b. if b then Some l else line_of l.k ls) (eq-eqb l.k l.k refl); same = same.1; not_idle = busy }
      | inr apart ↦ later (more (sym (ap (λ b. if b then Some (stream_held l) else held_of stream (busy_ones ls)) apart.0) ∙ found))
    ]

-- where no answer is idle there are none
no_idle_ones : (ls : List Line) → ((l : Line) → HasLine l ls → l.answer ≡ Idle → ⊥) → idle_ones ls ≡ []
no_idle_ones [] none = refl
no_idle_ones (l ∷ ls) none = by (is_idle l.answer) (told_idle l.answer) (no_idle_ones ls (λ m i. none m (inr i)))
  where
    by : (b : Bool) → (b ≡ true → l.answer ≡ Idle) → idle_ones ls ≡ [] → (if b then l.k ∷ idle_ones ls else idle_ones ls) ≡ []
    by true idle more = absurd (none l (inl refl) (idle refl))
    by false idle more = more

module _ (known : Known) (t : List Entry) (s : State) (h : Stands known t s) where
  -- connections of one stream are one
  one_stream : (k j : ℕ) (l m : Line) → line_of k s.live ≡ Some l → line_of j s.live ≡ Some m → l.stream ≡ m.stream → k ≡ j
  one_stream k j l m first second same =
      let a = found_exchange known t s h k l first in
      let b = found_exchange known t s h j m second in
      ap (λ (o : Opened). o.k) (one_connection (exchanges t) (exchange_on k t) (exchange_on j t) h.apart a.is_opened b.is_opened (a.is_given ∙ same ∙ sym b.is_given))

  -- so no stream has two
  streams_apart : (ls : List Line) → AreDistinct (numbers ls) → ((k : ℕ) (l : Line) → line_of k ls ≡ Some l → line_of k s.live ≡ Some l) → AreApart (busy_ones ls)
  streams_apart [] distinct there = tt
  streams_apart (l ∷ ls) distinct there = by (is_idle l.answer) (streams_apart ls distinct.1 (λ k m found. there k m (not_first l ls k m distinct found)))
    where
      none : (o : Option Held) → held_of l.stream (busy_ones ls) ≡ o → o ≡ None
      none None found = refl
      none (Some x) found =
          let other = by_stream l.stream ls x distinct.1 found in
          let own : line_of l.k s.live ≡ Some l = there l.k l (ap (λ b. if b then Some l else line_of l.k ls) (eq-eqb l.k l.k refl)) in
          let same = one_stream l.k other.line.k l other.line own (there other.line.k other.line (not_first l ls other.line.k other.line distinct other.found)) (sym other.same) in
          let clash : true ≡ false = sym (has_number other.line ls (found_there other.line.k ls other.line other.found).0) ∙ ap (λ x. list_any (λ j. j == x) (numbers ls)) (sym same) ∙ distinct.0 in
          cc

      by : (b : Bool) → AreApart (busy_ones ls) → AreApart (if b then busy_ones ls else stream_held l ∷ busy_ones ls)
      by true more = more
      by false more = (none (held_of l.stream (busy_ones ls)) refl, more)

-- ---- at rest

module _ (known : Known) (turns : List Turn) (all : AreAllowed known.setup turns) (so : AreSo known turns) where
  stands : Stands known (tape_of turns) (state_of known.setup turns)
  stands = all_stand known turns all so

  -- Where the gateway rests no more connections are open than streams are active, but for those that are idle.
  pub live_few : Rests (told_of turns) (state_of known.setup turns) → length (state_of known.setup turns).live ≤ length (active (tape_of turns)) + length (idle_ones (state_of known.setup turns).live)
  live_few rests =
      let distinct = stands.keeps.distinct in
      let few = no_more (busy_ones (state_of known.setup turns).live) (active (tape_of turns)) (streams_apart known (tape_of turns) (state_of known.setup turns) stands (state_of known.setup turns).live distinct (λ k l found. found)) among in
      let kinds = both_kinds (state_of known.setup turns).live in
      omega (arith, few, kinds)
    where
      served_by : (a : Answer) (served : Bool) → is_idle a ≡ false → is_done_by a served ≡ false → served ≡ true
      served_by Pending served busy going = not_not served going
      served_by Idle served busy going = absurd (let clash : true ≡ false = busy in cc)
      served_by Done served busy going = absurd (let clash : true ≡ false = going in cc)

      among : (stream : ℕ) (x : Held) → held_of stream (busy_ones (state_of known.setup turns).live) ≡ Some x → is_among stream (active (tape_of turns)) ≡ true
      among stream x found =
          let one = by_stream stream (state_of known.setup turns).live x stands.keeps.distinct found in
          let going = none_done (told_of turns) one.line.k (state_of known.setup turns).live one.line rests.none_done one.found in
          let served = served_by one.line.answer ((told_of turns).served one.line.stream) one.not_idle going in
          served_among known (tape_of turns) stream (ap (λ n. is_served known n (tape_of turns)) (sym one.same) ∙ sym ((all_told known turns so).served one.line.stream) ∙ served)

  -- Few are.
  pub idle_few : length (idle_ones (state_of known.setup turns).live) ≤ known.setup.most_idle
  idle_few = stands.keeps.few

  -- None is, where no connection is kept.
  pub idle_none : known.setup.keep ≡ false → idle_ones (state_of known.setup turns).live ≡ []
  idle_none off = no_idle_ones (state_of known.setup turns).live none
    where
      none : (l : Line) → HasLine l (state_of known.setup turns).live → l.answer ≡ Idle → ⊥
      none l there idle =
          let is = stands.keeps.are_so l.k l (there_found l (state_of known.setup turns).live stands.keeps.distinct there) in
          let kept : Answers known (tape_of turns) l.k Idle = subst (Answers known (tape_of turns) l.k) idle is.answers in
          let clash : false ≡ true = sym off ∙ kept.keeps in cc
