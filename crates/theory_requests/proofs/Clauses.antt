-- Moves that are allowed leave what is kept in order, and at rest the clauses hold.
use Rattle.std.proofs.Common.{◌≡◌, ℕ, true, false, List, [], ◌∷◌, refl, sym, ap, ◌∙◌, subst, inl, inr, arith}
use Rattle.std.specs.Prelude.{Some}
use Rattle.std.specs.List.{list_any}
use Rattle.model.specs.Messages.Item.{Block}
use Rattle.model.specs.Http1.{H1Requests, forward}
use Rattle.model.specs.Http2.{H2Request}
use Rattle.model.specs.Logs.{Act}
use Rattle.model.specs.Logs.Act.{Open, ToUp, Close, CloseClient}
use Rattle.model.specs.Tapes.{Entry, is_closed}
use Rattle.model.specs.Tapes.Entry.{Came, Breached, Happened, Sent, Did}
use Rattle.model.specs.Openings.{Opened, exchanges, sent_for}
use Rattle.model.specs.Available.{IsIn}
use Rattle.model.specs.Known.{Known}
use Rattle.model.specs.Courses.{items}
use Rattle.model.specs.ErrorClause.{must_end}
use Rattle.model.specs.RequestClause.{IsServed, RequestsHold}
use Rattle.model.proofs.Http1Texts.{kept_reads}
use Rattle.model.specs.ProgressClause.{AllForwarded, AllStreamed, AreClosed, was_cut}
use Rattle.model.proofs.Http2Readings.{one_meaning}
use Rattle.theory_requests.specs.Told.{Told, IsTold}
use Rattle.theory_requests.specs.Lines.{Line, k_of, line_of, is_finished}
use Rattle.theory_requests.specs.State.{State, Move, entry_of, after, start, Turn, state_of, tape_of}
use Rattle.theory_requests.specs.State.Due.{Nothing}
use Rattle.theory_requests.specs.State.Move.{Takes, Begins, Gathers, Passes, Drops, Breaks, Notes, Hears, Fails, Sends, Acts}
use Rattle.theory_requests.specs.Rule.{is_done, MayAct, IsAllowed, told_of, AreAllowed, Rests}
use Rattle.theory_requests.specs.Meaning.{IsSo, AreSo, KeepClauses}
use Rattle.theory_requests.proofs.Lists.{none_passes}
use Rattle.theory_requests.proofs.Texts.{one_request_text}
use Rattle.theory_requests.proofs.Pool as pool
use Rattle.theory_requests.proofs.Leaving as leaving
use Rattle.theory_requests.proofs.Streamed.{sent_all, all_streamed}
use Rattle.theory_requests.proofs.Standing.{IsDueFor, Stands, stands_next}
use Rattle.theory_requests.proofs.Passing.{passes}
use Rattle.theory_requests.proofs.Framing as framing
use Rattle.theory_requests.proofs.Closing as closing
use Rattle.theory_requests.proofs.Hearing as hearing
use Rattle.theory_requests.proofs.Opening as opening
use Rattle.theory_requests.proofs.Using as using
use Rattle.theory_requests.proofs.Going as going
use Rattle.theory_requests.proofs.Reading as reading
use Rattle.theory_requests.proofs.Together.{sent_together}

-- ---- connections

-- of connections of which none is done with, none that is found is
pub none_done : (told : Told) (k : ℕ) (ls : List Line) (l : Line) → list_any (is_done told) ls ≡ false → line_of k ls ≡ Some l → is_done told l ≡ false
none_done told k ls l none found = none_passes k_of (is_done told) k ls l none found

-- ---- each move

-- an act that may be done
acted : (known : Known) (t : List Entry) (s : State) (told behind : Told) (act : Act) → Stands known t s → IsTold known t told → told.closed ≡ false → MayAct told s act → Stands known (Did act ∷ t) (after known.setup behind s (Acts act))
acted known t s told behind (Open k route) h is_told open_yet may = opening.opens_next known t s h told behind is_told open_yet k route may
acted known t s told behind (ToUp k octets) h is_told open_yet may = elim may [
  | inl is ↦ going.sends_next known t s h k octets is behind
  | inr used ↦ using.used_next known t s h told behind is_told open_yet k octets used
]
acted known t s told behind (Close k) h is_told open_yet may =
    let u = after known.setup behind s (Acts (Close k)) in stands_next known t (Did (Close k)) s u h (passes known t (Did (Close k)) s u h (closing.closes known t s h told behind is_told k may))
acted known t s told behind CloseClient h is_told open_yet may =
    let u = after known.setup behind s (Acts CloseClient) in stands_next known t (Did CloseClient) s u h (passes known t (Did CloseClient) s u h (closing.shuts known t s h told behind is_told may))

-- a move that may come
moved : (known : Known) (t : List Entry) (s : State) (told behind : Told) (m : Move) → Stands known t s → IsTold known t told → IsSo known t m → IsTold known (entry_of m ∷ t) behind → IsAllowed known.setup told behind s m → Stands known (entry_of m ∷ t) (after known.setup behind s m)
moved known t s told behind (Takes noted) h is_told so is_behind allowed =
    let u = after known.setup behind s (Takes noted) in stands_next known t (Came noted) s u h (passes known t (Came noted) s u h (framing.takes known t s h told behind is_told noted allowed.may so))
moved known t s told behind (Begins noted head ended route text stage) h is_told so is_behind allowed =
    let may = allowed.may in
    stands_next known t (Came noted) s (after known.setup behind s (Begins noted head ended route text stage)) h
    (reading.begins known t s h told behind is_told may.0 noted (Block head ended) so.1 may.1.serving is_behind head ended route text stage so.0 refl may.1)
moved known t s told behind (Gathers noted item route text old body written stage) h is_told so is_behind allowed =
    let may = allowed.may in
    stands_next known t (Came noted) s (after known.setup behind s (Gathers noted item route text old body written stage)) h
    (reading.gathers known t s h told behind is_told may.0 noted item so may.1.serving is_behind route text old body written stage may.1)
moved known t s told behind (Passes noted item k old written stage) h is_told so is_behind allowed =
    let may = allowed.may in
    stands_next known t (Came noted) s (after known.setup behind s (Passes noted item k old written stage)) h
    (reading.passes known t s h told behind is_told may.0 noted item so may.1.serving is_behind k old written stage may.1)
moved known t s told behind (Drops noted item) h is_told so is_behind allowed =
    let may = allowed.may in
    stands_next known t (Came noted) s (after known.setup behind s (Drops noted item)) h (reading.drops known t s h told behind is_told may.0 noted item so may.1.serving is_behind may.1)
moved known t s told behind (Breaks breach) h is_told so is_behind allowed =
    let u = after known.setup behind s (Breaks breach) in stands_next known t (Breached breach) s u h (passes known t (Breached breach) s u h (framing.breaks known t s h told behind is_told breach allowed.may))
moved known t s told behind (Notes event) h is_told so is_behind allowed =
    let u = after known.setup behind s (Notes event) in
    stands_next known t (Happened event) s u h (passes known t (Happened event) s u h (framing.notes known t s h told behind is_told event allowed.may.0 allowed.may.1))
moved known t s told behind (Hears event heard) h is_told so is_behind allowed =
    let u = after known.setup behind s (Hears event heard) in let may = allowed.may in
    stands_next known t (Happened event) s u h (passes known t (Happened event) s u h (hearing.hears known t s h told behind is_told may.0 event heard may.1 may.2 so))
moved known t s told behind (Fails k) h is_told so is_behind allowed =
    let u = after known.setup behind s (Fails k) in let e = entry_of (Fails k) in
    stands_next known t e s u h (passes known t e s u h (closing.fails known t s h told behind is_told k allowed.may.0 allowed.may.1))
moved known t s told behind (Sends noted) h is_told so is_behind allowed =
    let u = after known.setup behind s (Sends noted) in stands_next known t (Sent noted) s u h (passes known t (Sent noted) s u h (framing.sends known t s h told behind is_told noted allowed.may))
moved known t s told behind (Acts act) h is_told so is_behind allowed = acted known t s told behind act h is_told allowed.open_yet allowed.may

-- nothing is kept of no entry
at_first : (known : Known) → Stands known [] start
at_first known = record {
  numbered = tt;
  apart = tt;
  count = refl;
  given = λ o i. absurd i;
  fares = λ stream. inl (record { no_request = λ request means. means.has_head; no_head = λ streaming head has. has });
  held = λ stream h found. cc;
  due = tt;
  keeps = record { are_so = λ k l found. cc; all = λ k on. cc; distinct = tt; few = omega arith };
  goes = tt;
  in_time = tt;
  closes = tt;
  shut = λ closed. refl;
}

-- what is told behind all moves is so
pub all_told : (known : Known) (turns : List Turn) → AreSo known turns → IsTold known (tape_of turns) (told_of turns)
all_told known [] so = record { served = λ stream. refl; ends = refl; closed = refl }
all_told known (turn ∷ turns) so = so.2

-- what is kept stands for the tape behind all moves
pub all_stand : (known : Known) (turns : List Turn) → AreAllowed known.setup turns → AreSo known turns → Stands known (tape_of turns) (state_of known.setup turns)
all_stand known [] all so = at_first known
all_stand known (turn ∷ turns) all so =
    moved known (tape_of turns) (state_of known.setup turns) (told_of turns) turn.told turn.move (all_stand known turns all.0 so.0) (all_told known turns so.0) so.1 so.2 all.1

-- ---- the clauses where nothing is due

module _ (known : Known) (t : List Entry) (s : State) (h : Stands known t s) (nothing : s.due ≡ Nothing) where
  -- each whole request was forwarded
  pub all_forwarded : AllForwarded known t
  all_forwarded stream request place means routed not_cut = elim (h.fares stream) [
    | inl none ↦ absurd (none.no_request request means)
    | inr some ↦ (elim some [
      | inl due ↦ absurd (subst (λ d. IsDueFor d stream) nothing due)
      | inr g ↦ (let o = g.0 in
          let here : H2Request (items known o.stream t) request = subst (λ n. H2Request (items known n t) request) (sym g.1.is_given) means in
          elim (sent_all known t s h nothing o g.1.is_opened).reads [
            | inl whole ↦ record {
              o = o;
              given = g.1;
              reads = subst (λ r. H1Requests (sent_for o t) (forward r ∷ []) []) (one_meaning (items known o.stream t) whole.request request whole.means here)
                  (one_request_text (sent_for o t) (forward whole.request) (kept_reads known.setup.keep (sent_for o t) (forward whole.request) whole.reads));
            }
            | inr p ↦ absurd (let clash : true ≡ false = sym (p.cut request here).0 ∙ ap (λ n. was_cut n t) g.1.is_given ∙ not_cut in cc)
          ])
    ])
  ]

-- Where nothing is due to an upstream, each request was forwarded, and what came of each that is passed on as it comes.
pub all_passed_on : (known : Known) (turns : List Turn) → AreAllowed known.setup turns → AreSo known turns → (state_of known.setup turns).due ≡ Nothing → AllForwarded known (tape_of turns) × AllStreamed known (tape_of turns)
all_passed_on known turns all so nothing =
    let h = all_stand known turns all so in
    (all_forwarded known (tape_of turns) (state_of known.setup turns) h nothing, all_streamed known (tape_of turns) (state_of known.setup turns) h nothing)

-- ---- the clauses at rest

module _ (known : Known) (t : List Entry) (s : State) (h : Stands known t s) (told : Told) (is_told : IsTold known t told) (rests : Rests told s) where
  served : (o : Opened) → IsIn o (exchanges t) → IsServed known t o
  served o i =
      let g = h.given o i in record {
        head = g.head;
        has_head = g.has_head;
        well_formed = g.well_formed;
        by_route = g.by_route;
      }

  -- the clause on requests
  pub requests_hold : RequestsHold known t
  requests_hold = record { numbered = h.numbered; apart = h.apart; in_time = h.in_time; served = served; sent = sent_together known t s h rests.nothing; spelled = λ o i. (sent_all known t s h rests.nothing o i).spelled }

  none_finished : list_any (λ (x : Line). is_finished x.answer) s.live ≡ false
  none_finished = framing.none_finished_of told s.live rests.none_done

  -- there is no reason to close one that is open, unless it may be kept
  pub are_closed : AreClosed known t
  are_closed = pool.are_closed known t s.live h.keeps none_finished (λ k l found pending reason. closing.none_reason known t s h told is_told k l found pending (none_done told k s.live l rests.none_done found) reason)

  -- the client is closed if it was to be
  ended : must_end known t ≡ true → is_closed t ≡ true
  ended ending = sym is_told.closed ∙ rests.ended (is_told.ends ∙ ending)

  -- what holds at rest
  clauses_of : KeepClauses known t
  clauses_of = record {
    requests = requests_hold;
    forwarded = all_forwarded known t s h rests.nothing;
    streamed = all_streamed known t s h rests.nothing;
    closed = are_closed;
    closes = leaving.closes_rightly known t ended t h.closes;
    few_idle = pool.few_idle known t s.live h.keeps none_finished;
    go_to_open = h.goes;
  }

-- Moves that are allowed, and that say what is so, keep the clauses where they rest.
pub clauses_hold : (known : Known) (turns : List Turn) → AreAllowed known.setup turns → AreSo known turns → Rests (told_of turns) (state_of known.setup turns) → KeepClauses known (tape_of turns)
clauses_hold known turns all so rests =
    clauses_of known (tape_of turns) (state_of known.setup turns) (all_stand known turns all so) (told_of turns) (all_told known turns so) rests
