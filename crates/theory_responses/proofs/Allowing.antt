-- Runs that the rule by states alone allows are runs that are allowed by the tape: so they keep the clauses.
use Rattle.std.proofs.Common.{◌≡◌, ℕ, Bool, true, false, List, [], ◌∷◌, refl, sym, ap, ◌∙◌, subst, inl, inr, arith, if◌then◌else◌}
use Rattle.std.specs.Prelude.{None, is_some}
use Rattle.model.specs.Frames.{ends_headers}
use Rattle.model.specs.Logs.{Act}
use Rattle.model.specs.Logs.Act.{Open, ToUp, Close, CloseClient}
use Rattle.model.specs.Tapes.{Noted, Entry, sent}
use Rattle.model.specs.Tapes.Entry.{Came, Breached, Happened, Sent, Did}
use Rattle.model.specs.Decoding.{joined, completed}
use Rattle.model.specs.Streams.{frame_items}
use Rattle.model.specs.Openings.{Opened, exchanges, exchange_on, last_stream, route_of, given, begins_another, IsGivenNone, AreApart}
use Rattle.model.specs.Available.{items_on, IsIn}
use Rattle.model.specs.Known.{Known}
use Rattle.model.specs.Lifetimes.{is_opened, is_active}
use Rattle.model.specs.Courses.{items, upstream_of}
use Rattle.model.specs.Headline.{HoldsInTurn}
use Rattle.theory_responses.specs.State.{State, Move, start, entry_of, after, state_of}
use Rattle.theory_responses.specs.State.Move.{Takes, Breaks, Notes, Hears, Fails, Idles, Goes, Sends, Acts}
use Rattle.theory_responses.specs.Policy.{MayTake, MayBegin, Holds, AreAllowed, IsFlushed, KeepClauses}
use Rattle.theory_responses.specs.Sight.{Sight, first_sight, IsRightOf, windows_in}
use Rattle.theory_responses.specs.Rule.{BeginsNext, completed_by, MayCome, Seen, moves_of, tape_of, sight_of, AllMayCome, AreRight, IsTold, AreTold}
use Rattle.theory_responses.proofs.Moving.{exchanges_sent}
use Rattle.model.proofs.ActiveLaws.{brought_other, brought_none, none_brought}
use Rattle.theory_responses.proofs.Offering.{Offering}
use Rattle.theory_responses.proofs.Windows.{flushed_by, goes_by}
use Rattle.theory_responses.proofs.Ruling.{Placed, items_kept, above_zero, not_unopened, unopened_before, takes_by, of_stream, sound, fails}
use Rattle.theory_responses.proofs.Flushing.{moves_keep, start_holds, clauses_hold}

-- nothing came yet
start_placed : (known : Known) → Placed known [] start
start_placed known = record {
  offering = start_holds known;
  neighbours = record { counted = λ o there. absurd there; apart = tt; begun = λ o there. absurd there };
  unsent = λ id out. refl;
  not_given = λ id out o g. g.is_opened;
}

pub first_right : (known : Known) → IsRightOf known [] first_sight
first_right known = record {
  opened = λ id. refl;
  active = λ id. refl;
  ended = λ id on. refl;
  cause = λ id on. refl;
  new = λ on id may. (refl, refl);
  room = λ on id may. refl;
  has_items = λ id on some none. let clash : false ≡ true = on in cc;
  own = λ id on. let clash : false ≡ true = on in cc;
  shared = refl;
  untaken = refl;
  given = refl;
  last = refl;
  block = refl;
  ends = refl;
}

-- ---- what holds beside the outboxes behind a move

-- no exchange begins with the entry
module _ (known : Known) (t : List Entry) (s s' : State) (e : Entry) (p : Placed known t s) (same : exchanges (e ∷ t) ≡ exchanges t) where
  placed_same : ((id : ℕ) → is_opened id (e ∷ t) ≡ false → is_opened id t ≡ false) → ((id : ℕ) → is_opened id t ≡ false → items_on id (sent (e ∷ t)) ≡ items_on id (sent t)) → Offering known (e ∷ t) s' → Placed known (e ∷ t) s'
  placed_same before same_items offering = record {
    offering = offering;
    neighbours = record {
      counted = λ o there. p.neighbours.counted o (subst (IsIn o) same there);
      apart = subst AreApart (sym same) p.neighbours.apart;
      begun = λ o there. items_kept known o.stream t e (p.neighbours.begun o (subst (IsIn o) same there));
    };
    unsent = λ id out. same_items id (before id out) ∙ p.unsent id (before id out);
    not_given = λ id out o g. p.not_given id (before id out) o (record { is_opened = subst (IsIn o) same g.is_opened; is_given = g.is_given });
  }

-- an exchange begins
module _ (known : Known) (t : List Entry) (s s' : State) (k route : ℕ) (p : Placed known t s) (before : Sight) (right : IsRightOf known t before) (may : BeginsNext before k) where
  on : is_active (last_stream t) t ≡ true
  on = sym (right.active (last_stream t)) ∙ ap before.active (sym right.last) ∙ may.active

  some : items known (last_stream t) t ≡ [] → ⊥
  some = right.has_items (last_stream t) on (ap before.has_items (sym right.last) ∙ may.has_items)

  none_given : IsGivenNone (last_stream t) (exchanges t)
  none_given = subst (λ n. IsGivenNone n (exchanges t)) right.last (subst (IsGivenNone before.last) right.given may.first)

  begins_by : MayBegin known t
  begins_by = record {
    counted = above_zero (last_stream t) t on;
    none_given = none_given;
    no_cause = sym (right.cause (last_stream t) on) ∙ ap before.cause (sym right.last) ∙ may.no_cause;
  }

  placed_begun : (act : Act) → exchanges (Did act ∷ t) ≡ record { k = k; route = route; stream = last_stream t } ∷ exchanges t → Offering known (Did act ∷ t) s' → Placed known (Did act ∷ t) s'
  placed_begun act now offering = record {
    offering = offering;
    neighbours = record {
      counted = λ o there. elim (subst (IsIn o) now there) [
        | inl is ↦ (let number : o.k ≡ k = ap (λ (x : Opened). x.k) is in let above = may.counted in omega (arith, number, above))
        | inr old ↦ p.neighbours.counted o old
      ];
      apart = subst AreApart (sym now) (none_given, p.neighbours.apart);
      begun = λ o there. items_kept known o.stream t (Did act) (elim (subst (IsIn o) now there) [
        | inl is ↦ λ none. some (ap (λ (x : Opened). items known x.stream t) (sym is) ∙ none)
        | inr old ↦ p.neighbours.begun o old
      ]);
    };
    unsent = p.unsent;
    not_given = λ id out o g. elim (subst (IsIn o) now g.is_opened) [
      | inl is ↦ not_unopened (last_stream t) id t on out (sym (ap (λ (x : Opened). x.stream) is) ∙ g.is_given)
      | inr old ↦ p.not_given id out o (record { is_opened = old; is_given = g.is_given })
    ];
  }

-- ---- each move

-- the block that is read to be completed is the tape's
completed_same : (known : Known) (t : List Entry) (sight : Sight) (noted : Noted) → IsRightOf known t sight → completed_by sight.block noted.frame ≡ completed (sent t) noted.frame
completed_same known t sight noted right = ap (λ b. if ends_headers noted.frame then joined b noted.frame else None) right.block

module _ (known : Known) (t : List Entry) (s : State) (p : Placed known t s) (before behind : Sight) (right : IsRightOf known t before) where
  -- whether another exchange begins, as it is read
  another_read : (k : ℕ) (octets : List ℕ) (another : Bool) → begins_another (given k (exchanges t)) (last_stream t) octets ≡ another → begins_another (given k before.given) before.last octets ≡ another
  another_read k octets another is = ap (λ n. begins_another (given k before.given) n octets) right.last ∙ ap (λ os. begins_another (given k os) (last_stream t) octets) right.given ∙ is

  -- What the rule by states allows is allowed by the tape.
  allowed_by : (m : Move) → IsRightOf known (entry_of m ∷ t) behind → IsTold known t m → MayCome before behind s m → Holds known t s m
  allowed_by (Takes noted change) now told may = subst (MayTake known t s noted) (sym may.2) (takes_by known t s p noted before behind right may.1 now)
  allowed_by (Breaks breach) now told may = tt
  allowed_by (Notes event) now told may = may.1
  allowed_by (Hears event stream news) now told may =
      let of = of_stream known t s p event stream before behind right now may.1 in
      record {
        of = of;
        sound = sound known t s p event stream before behind right now may.1 may.2;
        tells = told (exchange_on (upstream_of event) t) of.given;
      }
  allowed_by (Fails event stream) now told may = record {
    of = of_stream known t s p event stream before behind right now may.1;
    fails = fails known t s p event stream before behind right now may.1 may.2;
  }
  allowed_by (Idles event) now told may = told
  allowed_by (Goes noted item part over) now told may = (
    goes_by known t s p.offering before right noted item part may.0,
    record { active = sym (now.active noted.frame.id) ∙ may.1.active; brings = ap (λ b. frame_items b noted) (sym (completed_same known t before noted right)) ∙ may.1.brings },
  )
  allowed_by (Sends noted) now told may = record { no_block = sym (completed_same known t before noted right) ∙ may.no_block; no_data = may.no_data }
  allowed_by (Acts (Open k route)) now told may = begins_by known t s s k route p before right may
  allowed_by (Acts (ToUp k octets)) now told may = λ another. begins_by known t s s k (route_of k (exchanges t)) p before right (may (another_read k octets true another))
  allowed_by (Acts (Close k)) now told may = tt
  allowed_by (Acts CloseClient) now told may = tt

  -- What holds beside the outboxes holds behind it.
  placed_by : (m : Move) → IsRightOf known (entry_of m ∷ t) behind → MayCome before behind s m → Holds known t s m → Offering known (entry_of m ∷ t) (after s m) → Placed known (entry_of m ∷ t) (after s m)
  placed_by (Takes noted change) now may holds o = placed_same known t s (after s (Takes noted change)) (Came noted) p refl (unopened_before t noted) (λ id out. refl) o
  placed_by (Breaks breach) now may holds o = placed_same known t s (after s (Breaks breach)) (Breached breach) p refl (λ id out. out) (λ id out. refl) o
  placed_by (Notes event) now may holds o = placed_same known t s (after s (Notes event)) (Happened event) p refl (λ id out. out) (λ id out. refl) o
  placed_by (Hears event stream news) now may holds o = placed_same known t s (after s (Hears event stream news)) (Happened event) p refl (λ id out. out) (λ id out. refl) o
  placed_by (Fails event stream) now may holds o = placed_same known t s (after s (Fails event stream)) (Happened event) p refl (λ id out. out) (λ id out. refl) o
  placed_by (Idles event) now may holds o = placed_same known t s (after s (Idles event)) (Happened event) p refl (λ id out. out) (λ id out. refl) o
  placed_by (Goes noted item part over) now may holds o =
      let on : is_active noted.frame.id t ≡ true = sym (p.offering.lives noted.frame.id) ∙ ap (λ r. is_some r) may.0.found in
      placed_same known t s (after s (Goes noted item part over)) (Sent noted) p refl (λ id out. out) (λ id out. brought_other t noted id (not_unopened noted.frame.id id t on out)) o
  placed_by (Sends noted) now may holds o =
      placed_same known t s (after s (Sends noted)) (Sent noted) p refl (λ id out. out) (λ id out. brought_none t noted id (none_brought noted (completed (sent t) noted.frame) holds.no_block holds.no_data)) o
  placed_by (Acts (Open k route)) now may holds o = placed_begun known t s (after s (Acts (Open k route))) k route p before right may (Open k route) refl o
  placed_by (Acts (ToUp k octets)) now may holds o = by (begins_another (given k (exchanges t)) (last_stream t) octets) refl
    where
      by : (another : Bool) → begins_another (given k (exchanges t)) (last_stream t) octets ≡ another → Placed known (Did (ToUp k octets) ∷ t) (after s (Acts (ToUp k octets)))
      by true is = placed_begun known t s (after s (Acts (ToUp k octets))) k (route_of k (exchanges t)) p before right (may (another_read k octets true is)) (ToUp k octets) (exchanges_sent k octets t true is) o
      by false is = placed_same known t s (after s (Acts (ToUp k octets))) (Did (ToUp k octets)) p (exchanges_sent k octets t false is) (λ id out. out) (λ id out. refl) o
  placed_by (Acts (Close k)) now may holds o = placed_same known t s (after s (Acts (Close k))) (Did (Close k)) p refl (λ id out. out) (λ id out. refl) o
  placed_by (Acts CloseClient) now may holds o = placed_same known t s (after s (Acts CloseClient)) (Did CloseClient) p refl (λ id out. out) (λ id out. refl) o

-- ---- runs

-- what is read last is right
pub last_right : (known : Known) (run : List Seen) → AreRight known run → IsRightOf known (tape_of run) (sight_of run)
last_right known [] right = first_right known
last_right known (x ∷ run) right = right.1

-- what holds behind a run, and that it is allowed
pub placed : (known : Known) (run : List Seen) → AllMayCome run → AreRight known run → AreTold known run → AreAllowed known (moves_of run) × Placed known (tape_of run) (state_of (moves_of run))
placed known [] may right told = (tt, start_placed known)
placed known (x ∷ run) may right told =
    let old = placed known run may.0 right.0 told.0 in
    let sees = last_right known run right.0 in
    let s = state_of (moves_of run) in
    let holds : Holds known (tape_of run) s x.move = allowed_by known (tape_of run) s old.1 (sight_of run) x.sight sees x.move right.1 told.1 may.1 in
    let offering = moves_keep known (tape_of run) s x.move old.1.neighbours old.1.offering holds in
    ((old.0, old.1.neighbours, holds), placed_by known (tape_of run) s old.1 (sight_of run) x.sight sees x.move right.1 may.1 holds offering)

-- Such a run keeps the clauses, once the flush is done.
pub run_keeps : (known : Known) (run : List Seen) → AllMayCome run → AreRight known run → AreTold known run → IsFlushed (windows_in (sight_of run)) (state_of (moves_of run)) → KeepClauses known (tape_of run)
run_keeps known run may right told done =
    let all = placed known run may right told in
    clauses_hold known (moves_of run) all.0 all.1.neighbours (flushed_by known (tape_of run) (state_of (moves_of run)) all.1.offering (sight_of run) (last_right known run right) done)

-- ---- before each thing that comes in

module _ (known : Known) (run : List Seen) (at : IsFlushed (windows_in (sight_of run)) (state_of (moves_of run)) → KeepClauses known (tape_of run)) (before : HoldsInTurn (KeepClauses known) (tape_of run)) where
  -- one move more
  one_more : (behind : Sight) (m : Move) → MayCome (sight_of run) behind (state_of (moves_of run)) m → HoldsInTurn (KeepClauses known) (entry_of m ∷ tape_of run)
  one_more behind (Takes noted change) may = (at may.0, before)
  one_more behind (Breaks breach) may = (at may, before)
  one_more behind (Notes event) may = (at may.0, before)
  one_more behind (Hears event stream news) may = (at may.0, before)
  one_more behind (Fails event stream) may = (at may.0, before)
  one_more behind (Idles event) may = (at may, before)
  one_more behind (Goes noted item part over) may = before
  one_more behind (Sends noted) may = before
  one_more behind (Acts act) may = before

-- Something comes in only where the flush is done: so the clauses hold before it.
pub keeps_in_turn : (known : Known) (run : List Seen) → AllMayCome run → AreRight known run → AreTold known run → HoldsInTurn (KeepClauses known) (tape_of run)
keeps_in_turn known [] may right told = tt
keeps_in_turn known (x ∷ run) may right told = one_more known run (run_keeps known run may.0 right.0 told.0) (keeps_in_turn known run may.0 right.0 told.0) x.sight x.move may.1
