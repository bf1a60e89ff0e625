-- What the state tells the other concerns of connections: which are open, what an event of one is about, and for which stream an exchange
-- begins, on which.
use Rattle.std.proofs.Common.{◌≡◌, ℕ, suc, Bool, true, false, List, [], ◌∷◌, refl, sym, ap, ◌∙◌, subst, inl, inr}
use Rattle.std.specs.Prelude.{Option, Some, None, is_some}
use Rattle.model.specs.Tapes.{Entry, came}
use Rattle.model.specs.Openings.{Opened, exchanges, exchange_on, last_stream, given}
use Rattle.model.specs.Admission.{is_open}
use Rattle.model.specs.Available.{IsIn}
use Rattle.model.specs.Lifetimes.{is_ended_by_client}
use Rattle.model.specs.Known.{Known}
use Rattle.model.specs.Courses.{items}
use Rattle.model.specs.RequestClause.{MayBeServed}
use Rattle.model.proofs.ExchangeLaws.{open_exchange}
use Rattle.model.proofs.ItemLaws.{ended_by_items}
use Rattle.h1_writer.specs.Sending.{Stage}
use Rattle.theory_requests.specs.Told.{Told, IsTold, is_served}
use Rattle.theory_requests.specs.Lines.{Answer, Line, line_of}
use Rattle.theory_requests.specs.Lines.Answer.{Pending, Idle, Done}
use Rattle.theory_requests.specs.Pool.{Answers, IsSo}
use Rattle.theory_requests.specs.State.{State, Turn, state_of, tape_of}
use Rattle.theory_requests.specs.State.Due.{ToSend}
use Rattle.theory_requests.specs.Rule.{is_done_by, MayCome, MayOpen, MayUse, told_of, AreAllowed}
use Rattle.theory_requests.specs.Meaning.{AreSo}
use Rattle.theory_requests.specs.Connections.{IsAbout, IsStarted, IsOpenedFor, IsUsedFor}
use Rattle.theory_requests.proofs.Pool.{none_idle}
use Rattle.model.specs.WindowsOnTape.{is_on, data_octets}
use Rattle.theory_requests.proofs.Standing.{IsStarting, IsDue, Stands, some_items}
use Rattle.theory_requests.proofs.Starting.{given_none_in}
use Rattle.theory_requests.proofs.Going as going
use Rattle.theory_requests.proofs.Using as using
use Rattle.theory_requests.proofs.Clauses.{none_done, all_stand, all_told}
use Rattle.theory_requests.proofs.Fitting.{not_not}

module _ (known : Known) (t : List Entry) (s : State) (h : Stands known t s) where
  -- a connection is kept just where it is open
  kept_open : (k : ℕ) → is_some (line_of k s.live) ≡ is_open k t
  kept_open k = by (line_of k s.live) refl (is_open k t) refl
    where
      by : (o : Option Line) → line_of k s.live ≡ o → (b : Bool) → is_open k t ≡ b → is_some o ≡ is_open k t
      by None none false shut = sym shut
      by (Some l) found true on = sym on
      by None none true on = let l = h.keeps.all k on in absurd (let clash : ◌≡◌ {A = Option Line} None (Some l.0) = sym none ∙ l.1 in cc)
      by (Some l) found false shut = absurd (let clash : true ≡ false = sym (h.keeps.are_so k l found).opened ∙ shut in cc)

  -- an event of one is about a stream that is served, or it is idle
  heard_for : (told : Told) → IsTold known t told → MayCome told s → (k : ℕ) (line : Line) → line_of k s.live ≡ Some line → IsAbout known t k line.answer
  heard_for told is_told come k line found = by line.answer so.answers (none_done told k s.live line come.none_done found)
    where
      so : IsSo known t k line
      so = h.keeps.are_so k line found

      by : (a : Answer) → Answers known t k a → is_done_by a (told.served line.stream) ≡ false → IsAbout known t k a
      by Pending a going = record {
        o = exchange_on k t;
        there = open_exchange k t so.opened;
        number = refl;
        stream = refl;
        served = ap (λ n. is_served known n t) so.stream ∙ sym (is_told.served line.stream) ∙ not_not (told.served line.stream) going;
      }
      by Idle a going = record { is_open = so.opened; kept = a }
      by Done a going = absurd (let clash : true ≡ false = going in cc)

  -- an exchange begins for the stream of the last frame
  started_for : (stream route : ℕ) (text : List ℕ) (stage : Stage) (idle : Option ℕ) → IsStarting known t s.live stream route text stage idle → IsStarted known t
  started_for stream route text stage idle due = record {
    in_time = subst (MayBeServed known t) (sym due.last) due.in_time;
    has_items = λ none. some_items (items known stream t) due.head due.has_head (subst (λ n. items known n t ≡ []) due.last none);
    none_given = given_none_in (last_stream t) (exchanges t) (λ o i same. due.none_given o (record { is_opened = i; is_given = same ∙ due.last }));
  }

  -- on a connection that is opened
  opened_for : (k route : ℕ) → MayOpen s k route → IsOpenedFor known t k route
  opened_for k route may =
      let due : IsStarting known t s.live may.stream route may.text may.stage None = subst (IsDue known t s.live) may.due h.due in record {
        started = started_for may.stream route may.text may.stage None due;
        next = may.next ∙ ap suc h.count;
        none_idle = none_idle known t s.live h.keeps due.none_finished route due.least;
      }

  -- or on an idle one
  used_for : (k : ℕ) (octets : List ℕ) → MayUse s k octets → IsUsedFor known t k octets
  used_for k [] may = absurd (using.used_some known t s h k [] may refl)
  used_for k (octet ∷ octets) may =
      let due : (route : ℕ) × IsStarting known t s.live may.stream route (octet ∷ octets) may.stage (Some k) = subst (IsDue known t s.live) may.due h.due in record {
        started = started_for may.stream due.0 (octet ∷ octets) may.stage (Some k) due.1;
        again = using.may_be_used known t s h k octet octets may;
        begins = using.another known t s h k octet octets may;
        bare = λ streaming. ap (λ n. data_octets (is_on n) (came t)) due.1.last ∙ due.1.bare streaming;
      }

  -- the client has ended each stream whose connection was given to another since
  ended_for : (o : Opened) → IsIn o (exchanges t) → (given o.k (exchanges t) ≡ o.stream → ⊥) → is_ended_by_client o.stream t ≡ true
  ended_for o there older = elim (h.given o there).place [
    | inl newest ↦ absurd (older newest)
    | inr past ↦ ended_by_items known o.stream t past.ended
  ]

-- ---- along allowed moves

pub connections_told : (known : Known) (turns : List Turn) → AreAllowed known.setup turns → AreSo known turns → (k : ℕ) → is_some (line_of k (state_of known.setup turns).live) ≡ is_open k (tape_of turns)
connections_told known turns all so = kept_open known (tape_of turns) (state_of known.setup turns) (all_stand known turns all so)

pub events_heard : (known : Known) (turns : List Turn) → AreAllowed known.setup turns → AreSo known turns → MayCome (told_of turns) (state_of known.setup turns) → (k : ℕ) (line : Line) → line_of k (state_of known.setup turns).live ≡ Some line → IsAbout known (tape_of turns) k line.answer
events_heard known turns all so = heard_for known (tape_of turns) (state_of known.setup turns) (all_stand known turns all so) (told_of turns) (all_told known turns so)

pub next_opened : (known : Known) (turns : List Turn) → AreAllowed known.setup turns → AreSo known turns → (k route : ℕ) → MayOpen (state_of known.setup turns) k route → IsOpenedFor known (tape_of turns) k route
next_opened known turns all so = opened_for known (tape_of turns) (state_of known.setup turns) (all_stand known turns all so)

pub idle_used : (known : Known) (turns : List Turn) → AreAllowed known.setup turns → AreSo known turns → (k : ℕ) (octets : List ℕ) → MayUse (state_of known.setup turns) k octets → IsUsedFor known (tape_of turns) k octets
idle_used known turns all so = used_for known (tape_of turns) (state_of known.setup turns) (all_stand known turns all so)

pub octets_sent : (known : Known) (turns : List Turn) → AreAllowed known.setup turns → AreSo known turns → (k : ℕ) (octets : List ℕ) → (state_of known.setup turns).due ≡ ToSend k octets → given k (exchanges (tape_of turns)) ≡ last_stream (tape_of turns)
octets_sent known turns all so k octets due = going.its known (tape_of turns) (state_of known.setup turns) (all_stand known turns all so) k octets due

pub earlier_ended : (known : Known) (turns : List Turn) → AreAllowed known.setup turns → AreSo known turns → (o : Opened) → IsIn o (exchanges (tape_of turns)) → (given o.k (exchanges (tape_of turns)) ≡ o.stream → ⊥) → is_ended_by_client o.stream (tape_of turns) ≡ true
earlier_ended known turns all so = ended_for known (tape_of turns) (state_of known.setup turns) (all_stand known turns all so)
