-- Runs that the rule by states alone allows are runs that are allowed by the tape: so windows go back.
use Rattle.std.proofs.Common.{◌≡◌, ℕ, Bool, true, false, not, ◌==◌, ◌&&◌, ◌||◌, List, [], ◌∷◌, ◌++◌, refl, sym, ap, subst, ◌∙◌, if◌then◌else◌, ◌<◌, ◌⊎◌, inl, inr}
use Rattle.std.specs.List.{list_any}
use Rattle.std.proofs.lemmas.Bool.{and_right, eq-eqb}
use Rattle.model.specs.Tapes.{Noted, Entry, came}
use Rattle.model.specs.Tapes.Entry.{Came, Sent}
use Rattle.model.specs.Logs.{Act}
use Rattle.model.specs.Logs.Act.{Open, ToUp, Close, CloseClient}
use Rattle.model.specs.Setup.{Passing, own_window}
use Rattle.model.specs.Decoding.{completed}
use Rattle.model.specs.Known.{Known}
use Rattle.model.specs.Openings.{last_stream, begins_another}
use Rattle.model.specs.Lifetimes.{opened, opens_by, is_opened, active, is_active, is_drained}
use Rattle.model.specs.WindowClause.{GivesBack, GoesBack}
use Rattle.model.specs.Headline.{HoldsInTurn}
use Rattle.model.proofs.OpenedLaws.{opens_own, opens_new}
use Rattle.theory_responses.specs.Sight.{Sight, IsRightOf}
use Rattle.model.proofs.ActiveLaws.{active_sent}
use Rattle.theory_responses.proofs.Ruling.{opened_by_it}
use Rattle.theory_responses.proofs.Allowing.{first_right}
use Rattle.theory_receive_windows.specs.State.{State, Move, entries_of, tape_of, after, state_of, kept_of, with_told}
use Rattle.theory_receive_windows.specs.State.Move.{Takes, Breaks, Hears, Settles, Gives, Sends, Uses, Acts}
use Rattle.theory_receive_windows.specs.Policy.{IsOpened, MayTake, IsOwed, MayGive, MaySend, Holds, AreAllowed, IsPaid, KeepRooms, Gates, AreGates, gates_on, MayDo}
use Rattle.theory_receive_windows.specs.Rule.{is_over_by, TakesFrame, OwesAll, GivesAll, SendsOther, MayCome, OwesNothing, Seen, moves_of, sight_of, gates_of, state_with, state_behind, AllMayCome, IsTold, AreRight, OwesSome}
use Rattle.theory_receive_windows.proofs.Admitting.{come_same}
use Rattle.theory_receive_windows.proofs.Resting.{receiving, gives_back_at_rest, gives_no_more, shared_goes_back, own_goes_back, Receiving}
use Rattle.theory_receive_windows.proofs.Withholding.{holds_back}

-- a frame opens its stream just where that wasn't opened before and is behind it
opens_told : (t : List Entry) (noted : Noted) → opens_by (is_drained t) (opened t) (completed (came t) noted.frame) noted.note ≡ (not (is_opened noted.frame.id t) && is_opened noted.frame.id (Came noted ∷ t))
opens_told t noted = by (opens_by (is_drained t) (opened t) (completed (came t) noted.frame) noted.note) refl
  where
    id : ℕ
    id = noted.frame.id

    never : (x : Bool) → false ≡ (not x && x)
    never true = refl
    never false = refl

    by : (b : Bool) → opens_by (is_drained t) (opened t) (completed (came t) noted.frame) noted.note ≡ b → b ≡ (not (is_opened noted.frame.id t) && list_any (λ other. other == noted.frame.id) (if b then noted.frame.id ∷ opened t else opened t))
    by true e =
        sym (ap (λ x. not x && (noted.frame.id == noted.frame.id || is_opened noted.frame.id t)) (opens_new t noted e) ∙ ap (λ x. x || is_opened noted.frame.id t) (eq-eqb noted.frame.id noted.frame.id refl))
    by false e = never (is_opened noted.frame.id t)

-- a stream that is over with a move was active
was_active : (a b : Bool) → (a && not b) ≡ true → a ≡ true
was_active true b e = refl
was_active false b e = e

module _ (known : Known) (t : List Entry) (s : State) (noted : Noted) (before behind : Sight) (right : IsRightOf known t before) where
  -- ---- a frame of the client

  -- whether it opens its stream
  opens_read : IsRightOf known (Came noted ∷ t) behind → (opens : Bool) → opens ≡ (not (before.opened noted.frame.id) && behind.opened noted.frame.id) → opens_by (is_drained t) (opened t) (completed (came t) noted.frame) noted.note ≡ opens
  opens_read now opens is = opens_told t noted ∙ sym (ap (λ b. not b && is_opened noted.frame.id (Came noted ∷ t)) (right.opened noted.frame.id)) ∙ sym (ap (λ b. not (before.opened noted.frame.id) && b) (now.opened noted.frame.id)) ∙ sym is

  -- its life, where it opens its stream
  opened_new : before.ends ≡ false → IsRightOf known (Came noted ∷ t) behind → opens_by (is_drained t) (opened t) (completed (came t) noted.frame) noted.note ≡ true → (over : Bool) → over ≡ is_over_by before behind noted.frame.id → behind.active noted.frame.id ≡ true → IsOpened t noted true over
  opened_new goes_on now by over is on = (
    is ∙ ap (λ b. before.active noted.frame.id && not b) on ∙ and_right (before.active noted.frame.id) false refl,
    sym (now.active noted.frame.id) ∙ on,
    right.room goes_on noted.frame.id (opens_own t noted by),
  )

  -- and where it doesn't
  opened_old : IsRightOf known (Came noted ∷ t) behind → opens_by (is_drained t) (opened t) (completed (came t) noted.frame) noted.note ≡ false → (over : Bool) → over ≡ is_over_by before behind noted.frame.id → IsOpened t noted false over
  opened_old now none over is =
      by (before.active noted.frame.id) (behind.active noted.frame.id) (right.active noted.frame.id) (now.active noted.frame.id) ∙ ap (λ b. is_active noted.frame.id t && not b) (sym is)
    where
      by : (a b : Bool) → a ≡ is_active noted.frame.id t → b ≡ is_active noted.frame.id (Came noted ∷ t) → is_active noted.frame.id (Came noted ∷ t) ≡ (is_active noted.frame.id t && not (a && not b))
      by true true was now = sym now ∙ ap (λ x. x && true) was
      by true false was now = sym now ∙ ap (λ x. x && false) was
      by false false was now = sym now ∙ ap (λ x. x && true) was
      by false true was now = let clash : true ≡ false = sym (opened_by_it t noted (sym was) (sym now)) ∙ none in cc

  takes_by : (opens over : Bool) → IsRightOf known (Came noted ∷ t) behind → TakesFrame before behind s noted opens over → MayTake t s noted opens over
  takes_by true over now may =
      let by = opens_read now true may.opens_it in
      record { settled = may.nothing.settled; opens = by; opened = opened_new may.goes_on now by over may.over_with_it (may.lives refl); was = λ e. sym (right.active noted.frame.id) ∙ was_active (before.active noted.frame.id) (behind.active noted.frame.id) (sym may.over_with_it ∙ e) }
  takes_by false over now may =
      let by = opens_read now false may.opens_it in
      record { settled = may.nothing.settled; opens = by; opened = opened_old now by over may.over_with_it; was = λ e. sym (right.active noted.frame.id) ∙ was_active (before.active noted.frame.id) (behind.active noted.frame.id) (sym may.over_with_it ∙ e) }

  -- ---- frames to the client

  gives_by : GivesAll before s noted.frame → MayGive t s noted.frame
  gives_by may = record { kind = may.kind; owed = by (noted.frame.id == 0) may.owed }
    where
      by : (b : Bool) → OwesAll before s noted.frame b → IsOwed t s noted.frame b
      by true owed = owed
      by false owed =
          let on : is_active noted.frame.id t ≡ true = sym (right.active noted.frame.id) ∙ owed.0 in
          (on, sym (right.ended noted.frame.id on) ∙ owed.1, owed.2)

  sends_by : (over : Bool) → IsRightOf known (Sent noted ∷ t) behind → SendsOther before behind noted over → MaySend t noted over
  sends_by over now may = record {
    kind = may.kind;
    active = by (before.active noted.frame.id) (behind.active noted.frame.id) (right.active noted.frame.id) (now.active noted.frame.id) ∙ ap (λ b. is_active noted.frame.id t && not b) (sym may.over_with_it);
    was = λ e. sym (right.active noted.frame.id) ∙ was_active (before.active noted.frame.id) (behind.active noted.frame.id) (sym may.over_with_it ∙ e);
  }
    where
      by : (a b : Bool) → a ≡ is_active noted.frame.id t → b ≡ is_active noted.frame.id (Sent noted ∷ t) → is_active noted.frame.id (Sent noted ∷ t) ≡ (is_active noted.frame.id t && not (a && not b))
      by true true was now = sym now ∙ ap (λ x. x && true) was
      by true false was now = sym now ∙ ap (λ x. x && false) was
      by false false was now = sym now ∙ ap (λ x. x && true) was
      by false true was now = let clash : true ≡ false = sym (active_sent t noted noted.frame.id (sym now)) ∙ sym was in cc

-- ---- runs

-- an act that may be done by what is told may be by the tape
acts_by : (passing : Passing) (t : List Entry) (s : State) (gates : Gates) → AreGates t gates → (act : Act) → MayDo passing gates s act → MayDo passing (gates_on t) s act
acts_by passing t s gates told (Open k route) may = may
acts_by passing t s gates told (ToUp k octets) may = record { opened = sym (told.is_up k) ∙ may.opened; its = sym (told.given k) ∙ may.its ∙ told.last; in_effect = may.in_effect }
acts_by passing t s gates told (Close k) may = may
acts_by passing t s gates told CloseClient may = may

-- What the rule by states allows is allowed by the tape.
allowed_by : (known : Known) (passing : Passing) (t : List Entry) (s : State) (gates : Gates) (before behind : Sight) (m : Move) → AreGates t gates → IsRightOf known t before → IsRightOf known (entries_of m ++ t) behind → IsTold passing t m → MayCome passing gates before behind s m → Holds passing t s m
allowed_by known passing t s gates before behind (Takes noted opens over) told right now asks may = takes_by known t s noted before behind right opens over now may
allowed_by known passing t s gates before behind (Breaks breach) told right now asks may = may.settled
allowed_by known passing t s gates before behind (Hears event) told right now asks may = record { settled = may.1.settled; admitted = sym (come_same t s gates told event) ∙ may.1.admitted }
allowed_by known passing t s gates before behind Settles told right now asks may = tt
allowed_by known passing t s gates before behind (Gives noted) told right now asks may = gives_by known t s noted before behind right may
allowed_by known passing t s gates before behind (Sends noted over) told right now asks may = sends_by known t s noted before behind right over now may
allowed_by known passing t s gates before behind (Uses k octets) told right now asks may = (
  record {
    opened = sym (told.is_up k) ∙ may.opened;
    begins = ap (λ n. begins_another n (last_stream t) octets) (sym (told.given k)) ∙ ap (λ n. begins_another (gates.given k) n octets) (sym told.last) ∙ may.begins;
    active = may.active;
    first = may.first;
    in_effect = may.in_effect;
  },
  asks,
)
allowed_by known passing t s gates before behind (Acts act) told right now asks may = acts_by passing t s gates told act may

-- what is read last is right
last_right : (known : Known) (passing : Passing) (run : List Seen) → AreRight known passing run → IsRightOf known (tape_of (moves_of run)) (sight_of run)
last_right known passing [] right = first_right known
last_right known passing (x ∷ run) right = right.1

-- and so is what is told
last_told : (known : Known) (passing : Passing) (run : List Seen) → AreRight known passing run → AreGates (tape_of (moves_of run)) (gates_of run)
last_told known passing [] right = record { is_up = λ k. refl; given = λ k. refl; live = refl; last = refl; untaken = refl; closed = refl }
last_told known passing (x ∷ run) right = right.2

-- So a run is allowed, and the state of what is kept and told is that of its moves.
record Follows (more : ℕ) (passing : Passing) (run : List Seen) : Type 0 where
  pub allowed : AreAllowed more passing (moves_of run)
  pub same : state_behind more passing run ≡ state_of more passing (moves_of run)

-- the state of moves is what is kept of it, with what the tape tells
told_again : (t : List Entry) (s : State) (gates : Gates) → AreGates t gates → s.live ≡ active t → s.stream ≡ last_stream t → state_with gates (kept_of s) ≡ s
told_again t s gates told live last =
    ap (λ (ids : List ℕ). with_told ids gates.last (kept_of s)) (told.live ∙ sym live) ∙ ap (λ (id : ℕ). with_told s.live id (kept_of s)) (told.last ∙ sym last)

follows : (known : Known) (more : ℕ) (passing : Passing) (run : List Seen) → AllMayCome more passing run → AreRight known passing run → Follows more passing run
follows known more passing [] may right = record { allowed = tt; same = refl }
follows known more passing (x ∷ run) may right =
    let before : Follows more passing run = follows known more passing run may.0 right.0 in
    let here : MayCome passing (gates_of run) (sight_of run) x.sight (state_of more passing (moves_of run)) x.move = subst (λ (s : State). MayCome passing (gates_of run) (sight_of run) x.sight s x.move) before.same may.1 in
    let all : AreAllowed more passing (moves_of (x ∷ run)) = (before.allowed, allowed_by known passing (tape_of (moves_of run)) (state_of more passing (moves_of run)) (gates_of run) (sight_of run) x.sight x.move (last_told known passing run right.0) (last_right known passing run right.0) right.1 right.3 here) in
    let kept = receiving more passing (moves_of (x ∷ run)) all in
    record {
      allowed = all;
      same =
          ap (λ (s : State). state_with x.gates (kept_of (after passing s x.move))) before.same
          ∙ told_again (tape_of (moves_of (x ∷ run))) (state_of more passing (moves_of (x ∷ run))) x.gates right.2 kept.keeping.live kept.counting.last;
    }

pub all_allowed : (known : Known) (more : ℕ) (passing : Passing) (run : List Seen) → AllMayCome more passing run → AreRight known passing run → AreAllowed more passing (moves_of run)
all_allowed known more passing run may right = (follows known more passing run may right).allowed

pub state_same : (known : Known) (more : ℕ) (passing : Passing) (run : List Seen) → AllMayCome more passing run → AreRight known passing run → state_behind more passing run ≡ state_of more passing (moves_of run)
state_same known more passing run may right = (follows known more passing run may right).same

-- nothing is owed by the tape where nothing is by the states
paid_by : (known : Known) (t : List Entry) (s : State) (sight : Sight) → IsRightOf known t sight → OwesNothing sight s → IsPaid t s
paid_by known t s sight right none = record { settled = none.settled; shared = none.shared; own = λ stream on open_yet. none.own stream (right.active stream ∙ on) (right.ended stream on ∙ open_yet) }

-- Where nothing is owed each receiving window is as at first, but for what is kept.
pub run_gives_back : (known : Known) (run : List Seen) → AllMayCome known.setup.more_room known.setup.passing run → AreRight known known.setup.passing run → OwesNothing (sight_of run) (state_behind known.setup.more_room known.setup.passing run) → GivesBack known (tape_of (moves_of run))
run_gives_back known run may right none =
    gives_back_at_rest known (moves_of run) (all_allowed known known.setup.more_room known.setup.passing run may right)
    (paid_by known (tape_of (moves_of run)) (state_of known.setup.more_room known.setup.passing (moves_of run)) (sight_of run) (last_right known known.setup.passing run right)
    (subst (OwesNothing (sight_of run)) (state_same known known.setup.more_room known.setup.passing run may right) none))

-- Where octets are owed they go back.
pub run_goes_back : (known : Known) (run : List Seen) → AllMayCome known.setup.more_room known.setup.passing run → AreRight known known.setup.passing run → OwesSome (sight_of run) (state_behind known.setup.more_room known.setup.passing run) → GoesBack (own_window known.setup) known.setup.passing (tape_of (moves_of run))
run_goes_back known run may right owes = by some.settled some.some
  where
    passing : Passing
    passing = known.setup.passing

    more : ℕ
    more = known.setup.more_room

    t : List Entry
    t = tape_of (moves_of run)

    some : OwesSome (sight_of run) (state_of more passing (moves_of run))
    some = subst (OwesSome (sight_of run)) (state_same known more passing run may right) owes

    all : Receiving more passing t (state_of more passing (moves_of run))
    all = receiving more passing (moves_of run) (all_allowed known more passing run may right)

    read : IsRightOf known t (sight_of run)
    read = last_right known known.setup.passing run right

    by : (state_of more passing (moves_of run)).count ≡ 0
        → (0 < (state_of more passing (moves_of run)).debt) ⊎ ((stream : ℕ) × ((sight_of run).active stream ≡ true) × ((sight_of run).ended stream ≡ false) × (0 < ((state_of more passing (moves_of run)).row stream).debt)) → GoesBack (own_window known.setup) passing t
    by none (inl shared) = shared_goes_back more passing t (state_of more passing (moves_of run)) all none shared
    by none (inr own) =
        let on : is_active own.0 t ≡ true = sym (read.active own.0) ∙ own.1 in
        own_goes_back more passing t (state_of more passing (moves_of run)) own.0 all none on (sym (read.ended own.0 on) ∙ own.2) own.3

-- ---- before each thing that comes in

-- what is given back, and no more
keeps : (known : Known) (run : List Seen) → AllMayCome known.setup.more_room known.setup.passing run → AreRight known known.setup.passing run → OwesNothing (sight_of run) (state_behind known.setup.more_room known.setup.passing run) → KeepRooms known (tape_of (moves_of run))
keeps known run may right none = record { gives_back = run_gives_back known run may right none; no_more = gives_no_more known.setup.more_room known.setup.passing (moves_of run) (all_allowed known known.setup.more_room known.setup.passing run may right); holds_back = holds_back known.setup.more_room known.setup.passing (moves_of run) (all_allowed known known.setup.more_room known.setup.passing run may right) }

module _ (known : Known) (run : List Seen) (at : OwesNothing (sight_of run) (state_behind known.setup.more_room known.setup.passing run) → KeepRooms known (tape_of (moves_of run))) (before : HoldsInTurn (KeepRooms known) (tape_of (moves_of run))) where
  -- one move more
  one_more : (behind : Sight) (m : Move) → MayCome known.setup.passing (gates_of run) (sight_of run) behind (state_behind known.setup.more_room known.setup.passing run) m → HoldsInTurn (KeepRooms known) (entries_of m ++ tape_of (moves_of run))
  one_more behind (Takes noted opens over) may = (at may.nothing, before)
  one_more behind (Breaks breach) may = (at may, before)
  one_more behind (Hears event) may = (at may.0, before)
  one_more behind Settles may = before
  one_more behind (Gives noted) may = before
  one_more behind (Sends noted over) may = before
  one_more behind (Uses k octets) may = before
  one_more behind (Acts act) may = before

-- Something comes in only where nothing is owed: so each window is then as at first, but for what is kept.
pub rooms_in_turn : (known : Known) (run : List Seen) → AllMayCome known.setup.more_room known.setup.passing run → AreRight known known.setup.passing run → HoldsInTurn (KeepRooms known) (tape_of (moves_of run))
rooms_in_turn known [] may right = tt
rooms_in_turn known (x ∷ run) may right = one_more known run (keeps known run may.0 right.0) (rooms_in_turn known run may.0 right.0) x.sight x.move may.1
