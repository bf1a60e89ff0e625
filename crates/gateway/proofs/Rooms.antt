-- The rooms that a gateway tells are those of its log, and stay so where no connection is opened or closed and responses are passed on whole.
use Rattle.std.proofs.Common.{◌≡◌, ℕ, ◌<◌, ◌==◌, ◌||◌, if◌then◌else◌, Bool, true, false, List, [], ◌∷◌, ◌++◌, map, reverse, Some, refl, sym, ap, ◌∙◌, subst, arith}
use Rattle.std.specs.Prelude.{is_some, OnOk, Result, Ok, Err}
use Rattle.std.specs.List.{list_any, AllByRecursion}
use Rattle.std.proofs.lemmas.List.{reverse-append, reverse-reverse, map-append}
use Rattle.std.proofs.lemmas.List.Elements.{recursion_from_All}
use Rattle.std.proofs.lemmas.List.Folds.{list_any-append}
use Rattle.model.specs.Admission as admission
use Rattle.model.specs.Known.{Known}
use Rattle.model.specs.Frames.{spell}
use Rattle.model.specs.Logs.{Event, Output, Step, client_in}
use Rattle.model.specs.Logs.Event.{Client, ClientEnd, ClientTook, Up, UpEnd, UpFailed, UpTook, Drain}
use Rattle.model.specs.Logs.Output.{ToClient, Does}
use Rattle.model.specs.Logs.Act.{Open, ToUp, Close, CloseClient}
use Rattle.model.specs.Rooms.{IsRoom}
use Rattle.model.specs.Setup.{Setup}
use Rattle.model.specs.Setup.Passing.{Whole}
use Rattle.model.specs.Tapes.{Entry, put, outputs, happened, listed}
use Rattle.model.specs.Tapes.Entry.{Came, Breached, Happened, Sent, Did}
use Rattle.theory_errors.specs.Rule.{known_of}
use Rattle.theory_errors.proofs.Knowing.{known_so}
use Rattle.theory_responses.specs.State as theory_responses
use Rattle.theory_requests.specs.State as theory_requests
use Rattle.theory_requests.specs.Lines.{find}
use Rattle.theory_requests.proofs.Lists.{found_key}
use Rattle.upstream_connections.specs.Connections.{Connection, number_of, lives, AreBelow, AreRising}
use Rattle.effects.specs.Views.{output_of, outputs_of}
use Rattle.effects.specs.declared.events.Output.{Output as PutOut}
use Rattle.theory.specs.Moves.{Move}
use Rattle.theory.specs.State.{State, conducts, tape_of, turns_of}
use Rattle.theory.proofs.EndingLives.{AreApart, all_apart}
use Rattle.theory.proofs.Placing.{turns_may}
use Rattle.theory_memory_bound.proofs.Lists.{all_found}
use Rattle.refinement.proofs.Performing.{tape_behind}
use Rattle.event_handlers.specs.Admission.{room_of}
use Rattle.event_handlers.proofs.Admitting.{up_by_tape}
use Rattle.gateway.specs.Rooms.{IsBelow, Rise, is_among, numbers_in, AreRooms, room_in, turns, fails}
use Rattle.gateway.specs.Stands.{Standing, Stands, StandsNext, IsOpen, is_open, pending_in}
use Rattle.gateway.proofs.Admitting.{closed_up, open_room}
use Rattle.gateway.proofs.Going.{open_in}

-- ---- numbers that rise

-- each is below this one
abbrev AreUnder : ℕ → List ℕ → Type 0
AreUnder top [] = Unit {0}
AreUnder top (k ∷ ks) = (k < top) × AreUnder top ks

under_more : (top top' : ℕ) → top < top' → (ks : List ℕ) → AreUnder top ks → AreUnder top' ks
under_more top top' less [] under = tt
under_more top top' less (k ∷ ks) under = (let first = under.0 in omega (arith, first, less), under_more top top' less ks under.1)

under_end : (top k : ℕ) → k < top → (ks : List ℕ) → AreUnder top ks → AreUnder top (ks ++ k ∷ [])
under_end top k less [] under = (less, tt)
under_end top k less (j ∷ ks) under = (under.0, under_end top k less ks under.1)

below_end : (k last : ℕ) → k < last → (ks : List ℕ) → IsBelow k ks → IsBelow k (ks ++ last ∷ [])
below_end k last less [] below = (less, tt)
below_end k last less (j ∷ ks) below = (below.0, below_end k last less ks below.1)

rise_end : (last : ℕ) (ks : List ℕ) → Rise ks → AreUnder last ks → Rise (ks ++ last ∷ [])
rise_end last [] rise under = (tt, tt)
rise_end last (k ∷ ks) rise under = (below_end k last under.0 ks rise.0, rise_end last ks rise.1 under.1)

abbrev numbers : List Connection → List ℕ
numbers cs = map number_of cs

turned : (c : Connection) (cs : List Connection) → numbers (reverse (c ∷ cs)) ≡ numbers (reverse cs) ++ c.live.k ∷ []
turned c cs = ap numbers (reverse-append (c ∷ []) cs) ∙ map-append number_of (reverse cs) (c ∷ [])

-- numbers that fall rise where they are read the other way
rise_turned : (top : ℕ) (cs : List Connection) → AreBelow top cs → Rise (numbers (reverse cs)) × AreUnder top (numbers (reverse cs))
rise_turned top [] below = (tt, tt)
rise_turned top (c ∷ cs) below =
    let rest = rise_turned c.live.k cs below.1 in (
      subst Rise (sym (turned c cs)) (rise_end c.live.k (numbers (reverse cs)) rest.0 rest.1),
      subst (AreUnder top) (sym (turned c cs)) (under_end top c.live.k below.0 (numbers (reverse cs)) (under_more c.live.k top below.0 (numbers (reverse cs)) rest.1)),
    )

rising_rise : (cs : List Connection) → AreRising cs → Rise (numbers cs)
rising_rise cs rising = subst (λ l. Rise (numbers l)) (reverse-reverse cs) (rise_turned rising.0 (reverse cs) rising.1).0

-- ---- which are open

or_turned : (a b : Bool) → (a || (b || false)) ≡ (b || a)
or_turned false false = refl
or_turned false true = refl
or_turned true false = refl
or_turned true true = refl

-- one is found just where its number is among theirs
among_found : (k : ℕ) (cs : List Connection) → is_some (find number_of k cs) ≡ is_among k (numbers (reverse cs))
among_found k [] = refl
among_found k (c ∷ cs) =
    by (c.live.k == k) (among_found k cs)
    ∙ sym (ap (is_among k) (turned c cs) ∙ list_any-append (λ j. j == k) (numbers (reverse cs)) (c.live.k ∷ []) ∙ or_turned (is_among k (numbers (reverse cs))) (c.live.k == k))
  where
    by : (b : Bool) → is_some (find number_of k cs) ≡ is_among k (numbers (reverse cs)) → is_some (if b then Some c else find number_of k cs) ≡ (b || is_among k (numbers (reverse cs)))
    by true rest = refl
    by false rest = rest

-- ---- their rooms

-- what holds of all holds of them where they are read the other way
all_both : {X : Type 0} (P : X → Type 0) (xs ys : List X) → AllByRecursion P (xs ++ ys) → AllByRecursion P xs × AllByRecursion P ys
all_both P [] ys all = (tt, all)
all_both P (x ∷ xs) ys all = let rest = all_both P xs ys all.1 in ((all.0, rest.0), rest.1)

all_turned : {X : Type 0} (P : X → Type 0) (xs : List X) → AllByRecursion P (reverse xs) → AllByRecursion P xs
all_turned P [] all = tt
all_turned P (x ∷ xs) all =
    let parts = all_both P (reverse xs) (x ∷ []) (subst (AllByRecursion P) (reverse-append (x ∷ []) xs) all) in (parts.1.0, all_turned P xs parts.0)

numbers_told : (offers : theory_responses.State) (cs : List Connection) → numbers_in (map (room_in offers) cs) ≡ numbers cs
numbers_told offers [] = refl
numbers_told offers (c ∷ cs) = ap (λ (ks : List ℕ). c.live.k ∷ ks) (numbers_told offers cs)

module _ (setup : Setup) (g : Standing) (log : List Step) (run : List Move) (stands : Stands setup g log run) (goes : is_open g.phase ≡ true) where
  abbrev known : Known
  known = known_of setup (conducts run)

  o : IsOpen setup g.phase g.partial g.kept (client_in log) run
  o = open_in g.phase setup g.partial g.kept (client_in log) run goes stands.is_in

  -- The connection has room for as many octets as is told.
  abbrev HasRoom : Connection → Type 0
  HasRoom c = IsRoom known.setup.passing known c.live.k (tape_of run) (room_of g.kept.offers (Some c))

  room_found : (k : ℕ) (c : Connection) → find number_of k g.kept.upstreams.live ≡ Some c → HasRoom c
  room_found k c found =
      let number : c.live.k ≡ k = found_key number_of k g.kept.upstreams.live c found in
      let opened : admission.is_open k (tape_of run) ≡ true = sym (up_by_tape setup run g.kept (pending_in setup.more_room g.phase) o.state o.leads k) ∙ ap is_some found in
      let told = (open_room setup run g.kept (pending_in setup.more_room g.phase) o.state o.leads o.settled known refl (known_so setup (conducts run)) k).opened opened in
      subst (λ n. IsRoom known.setup.passing known n (tape_of run) (room_of g.kept.offers (Some c))) (sym number)
      (subst (IsRoom known.setup.passing known k (tape_of run)) (ap (room_of g.kept.offers) found) told)

  apart : AreApart (lives g.kept.upstreams.live)
  apart =
      subst AreApart (ap (λ (x : State). x.requests.live) o.leads.stands.is ∙ ap (λ (r : theory_requests.State). r.live) o.leads.keeps.requests)
      (all_apart setup (turns_of setup run) (turns_may setup run o.leads.stands.allowed))

  all_rooms : AllByRecursion HasRoom g.kept.upstreams.live
  all_rooms = recursion_from_All HasRoom g.kept.upstreams.live (all_found HasRoom g.kept.upstreams.live apart room_found)

  told_each : (cs : List Connection) → AllByRecursion HasRoom cs → AllByRecursion (λ (one : ℕ × ℕ). IsRoom known.setup.passing known one.0 (tape_of run) one.1) (map (room_in g.kept.offers) cs)
  told_each [] all = tt
  told_each (c ∷ cs) all = (all.0, told_each cs all.1)

  -- The rooms of the connections that are kept are those that the log tells.
  pub rooms_by_log : (cs : List Connection) → reverse cs ≡ g.kept.upstreams.live → AreRising cs → AreRooms known (tape_of run) (map (room_in g.kept.offers) cs)
  rooms_by_log cs is rising = record {
    rise = subst Rise (sym (numbers_told g.kept.offers cs)) (rising_rise cs rising);
    listed = λ k.
        ap (is_among k) (numbers_told g.kept.offers cs)
        ∙ sym (ap (λ l. is_among k (numbers l)) (reverse-reverse cs)) ∙ sym (among_found k (reverse cs)) ∙ ap (λ l. is_some (find number_of k l)) is ∙ up_by_tape setup run g.kept (pending_in setup.more_room g.phase) o.state o.leads k;
    each = told_each cs (all_turned HasRoom cs (subst (AllByRecursion HasRoom) (sym is) all_rooms));
  }

-- once the client is closed there are none
pub no_rooms_by_log : (setup : Setup) (g : Standing) (log : List Step) (run : List Move) → Stands setup g log run → is_open g.phase ≡ false → AreRooms (known_of setup (conducts run)) (tape_of run) []
no_rooms_by_log setup g log run stands over = record { rise = tt; listed = λ k. closed_up setup g log run stands over k; each = tt }

-- ---- where no connection is opened or closed

-- what is put out behind others opens or closes one just where it does, or one of those
turns_put : (outs : List Output) (o : Output) → list_any turns (put outs o) ≡ (turns o || list_any turns outs)
turns_put [] (ToClient o) = refl
turns_put (ToClient b ∷ outs) (ToClient o) = refl
turns_put (Does (Open j r) ∷ outs) (ToClient o) = refl
turns_put (Does (ToUp j b) ∷ outs) (ToClient o) = refl
turns_put (Does (Close j) ∷ outs) (ToClient o) = refl
turns_put (Does CloseClient ∷ outs) (ToClient o) = refl
turns_put [] (Does (Open k s)) = refl
turns_put (ToClient b ∷ outs) (Does (Open k s)) = refl
turns_put (Does (Open j r) ∷ outs) (Does (Open k s)) = refl
turns_put (Does (ToUp j b) ∷ outs) (Does (Open k s)) = refl
turns_put (Does (Close j) ∷ outs) (Does (Open k s)) = refl
turns_put (Does CloseClient ∷ outs) (Does (Open k s)) = refl
turns_put [] (Does (ToUp k o)) = refl
turns_put (ToClient b ∷ outs) (Does (ToUp k o)) = refl
turns_put (Does (Open j r) ∷ outs) (Does (ToUp k o)) = refl
turns_put (Does (ToUp j b) ∷ outs) (Does (ToUp k o)) = by (j == k)
  where
    by : (same : Bool) → list_any turns (if same then Does (ToUp j (b ++ o)) ∷ outs else Does (ToUp k o) ∷ Does (ToUp j b) ∷ outs) ≡ list_any turns outs
    by true = refl
    by false = refl
turns_put (Does (Close j) ∷ outs) (Does (ToUp k o)) = refl
turns_put (Does CloseClient ∷ outs) (Does (ToUp k o)) = refl
turns_put [] (Does (Close k)) = refl
turns_put (ToClient b ∷ outs) (Does (Close k)) = refl
turns_put (Does (Open j r) ∷ outs) (Does (Close k)) = refl
turns_put (Does (ToUp j b) ∷ outs) (Does (Close k)) = refl
turns_put (Does (Close j) ∷ outs) (Does (Close k)) = refl
turns_put (Does CloseClient ∷ outs) (Does (Close k)) = refl
turns_put [] (Does CloseClient) = refl
turns_put (ToClient b ∷ outs) (Does CloseClient) = refl
turns_put (Does (Open j r) ∷ outs) (Does CloseClient) = refl
turns_put (Does (ToUp j b) ∷ outs) (Does CloseClient) = refl
turns_put (Does (Close j) ∷ outs) (Does CloseClient) = refl
turns_put (Does CloseClient ∷ outs) (Does CloseClient) = refl

pub any_turned : {X : Type 0} (p : X → Bool) (xs : List X) → list_any p (reverse xs) ≡ list_any p xs
any_turned p [] = refl
any_turned p (x ∷ xs) =
    ap (list_any p) (reverse-append (x ∷ []) xs) ∙ list_any-append p (reverse xs) (x ∷ []) ∙ or_turned (list_any p (reverse xs)) (p x) ∙ ap (λ b. p x || b) (any_turned p xs)

no_fault : (event : Event) → fails event ≡ false → list_any fails (listed event) ≡ false
no_fault (Client piece) calm = refl
no_fault ClientEnd calm = refl
no_fault (ClientTook count) calm = refl
no_fault (Up j piece) calm = refl
no_fault (UpEnd j) calm = refl
no_fault (UpFailed j) calm = absurd (let no : true ≡ false = calm in cc)
no_fault (UpTook j count) calm = refl
no_fault Drain calm = refl

stays_open : (segment t : List Entry) → list_any turns (outputs segment) ≡ false → list_any fails (happened segment) ≡ false → (k : ℕ) → admission.is_open k (segment ++ t) ≡ admission.is_open k t
stays_open [] t still calm k = refl
stays_open (Came noted ∷ segment) t still calm k = stays_open segment t still calm k
stays_open (Breached breach ∷ segment) t still calm k = stays_open segment t still calm k
stays_open (Sent noted ∷ segment) t still calm k = stays_open segment t (sym (turns_put (outputs segment) (ToClient (spell noted.frame))) ∙ still) calm k
stays_open (Did (Open j route) ∷ segment) t still calm k = absurd (let no : true ≡ false = sym (turns_put (outputs segment) (Does (Open j route))) ∙ still in cc)
stays_open (Did (Close j) ∷ segment) t still calm k = absurd (let no : true ≡ false = sym (turns_put (outputs segment) (Does (Close j))) ∙ still in cc)
stays_open (Did (ToUp j octets) ∷ segment) t still calm k = stays_open segment t (sym (turns_put (outputs segment) (Does (ToUp j octets))) ∙ still) calm k
stays_open (Did CloseClient ∷ segment) t still calm k = stays_open segment t (sym (turns_put (outputs segment) (Does CloseClient)) ∙ still) calm k
stays_open (Happened (Client piece) ∷ segment) t still calm k = stays_open segment t still calm k
stays_open (Happened ClientEnd ∷ segment) t still calm k = stays_open segment t still calm k
stays_open (Happened (ClientTook count) ∷ segment) t still calm k = stays_open segment t still calm k
stays_open (Happened (Up j piece) ∷ segment) t still calm k = stays_open segment t still calm k
stays_open (Happened (UpEnd j) ∷ segment) t still calm k = stays_open segment t still calm k
stays_open (Happened (UpFailed j) ∷ segment) t still calm k = absurd (let no : true ≡ false = calm in cc)
stays_open (Happened (UpTook j count) ∷ segment) t still calm k = stays_open segment t still calm k
stays_open (Happened Drain ∷ segment) t still calm k = stays_open segment t still calm k

-- each of these rooms is still the one that is told
same_rooms : (known known' : Known) (t t' : List Entry) → ((k : ℕ) → admission.is_open k t' ≡ admission.is_open k t) → (rooms : List (ℕ × ℕ))
    → AllByRecursion (λ (one : ℕ × ℕ). IsRoom Whole known one.0 t one.1) rooms → AllByRecursion (λ (one : ℕ × ℕ). IsRoom Whole known' one.0 t' one.1) rooms
same_rooms known known' t t' same [] all = tt
same_rooms known known' t t' same (one ∷ rooms) all = (all.0 ∙ ap (λ b. if b then 65536 else 0) (sym (same one.0)), same_rooms known known' t t' same rooms all.1)

-- Behind a step that opens and closes no connection the rooms are the same, where responses are passed on whole.
pub rooms_stay : (setup : Setup) (new : Standing) (log : List Step) (run : List Move) (event : Event) (put_out : List Output) (next : StandsNext setup new log run event put_out) (rooms : List (ℕ × ℕ)) → setup.passing ≡ Whole
    → list_any turns put_out ≡ false → fails event ≡ false → AreRooms (known_of setup (conducts run)) (tape_of run) rooms
    → AreRooms (known_of setup (conducts (next.segment ++ run))) (tape_of (next.segment ++ run)) rooms
rooms_stay setup new log run event put_out next rooms whole still calm before =
    let quiet : list_any turns (outputs (tape_of next.segment)) ≡ false = sym (any_turned turns (outputs (tape_of next.segment))) ∙ sym (ap (list_any turns) next.step_is.put_out) ∙ still in
    let unbroken : list_any fails (happened (tape_of next.segment)) ≡ false = ap (list_any fails) next.step_is.event ∙ no_fault event calm in
    let same : (k : ℕ) → admission.is_open k (tape_of (next.segment ++ run)) ≡ admission.is_open k (tape_of run) = λ k.
    ap (λ t. admission.is_open k t) (tape_behind next.segment run) ∙ stays_open (tape_of next.segment) (tape_of run) quiet unbroken k in
    let known : Known = known_of setup (conducts run) in
    let known' : Known = known_of setup (conducts (next.segment ++ run)) in
    record {
      rise = before.rise;
      listed = λ k. before.listed k ∙ sym (same k);
      each = subst (λ p. AllByRecursion (λ (one : ℕ × ℕ). IsRoom p known' one.0 (tape_of (next.segment ++ run)) one.1) rooms) (sym whole)
          (same_rooms known known' (tape_of run) (tape_of (next.segment ++ run)) same rooms
          (subst (λ p. AllByRecursion (λ (one : ℕ × ℕ). IsRoom p known one.0 (tape_of run) one.1) rooms) whole before.each));
    }

-- what is put out opens or closes none where no output does
pub turns_seen : (out : List PutOut) → list_any turns (outputs_of out) ≡ list_any (λ output. turns (output_of output)) out
turns_seen [] = refl
turns_seen (o ∷ out) = ap (λ b. turns (output_of o) || b) (turns_seen out)

pub either_false : (a b : Bool) → (a || b) ≡ false → (a ≡ false) × (b ≡ false)
either_false false b h = (refl, h)
either_false true b h = absurd (cc)

-- what follows of an answer that isn't an error
pub on_ok : {T E P Q : Type 0} (r : Result T E) → (P → Q) → OnOk r P → OnOk r Q
on_ok (Ok t) leads is = leads is
on_ok (Err e) leads is = tt

-- they were listed by what is on offer
pub listed_by : {T E : Type 0} (r : Result T E) (offers offers' : theory_responses.State) (new old : List (ℕ × ℕ)) (cs : List Connection) → offers ≡ offers' → OnOk r (new ≡ old ++ map (room_in offers) cs) → OnOk r (new ≡ old ++ map (room_in offers') cs)
listed_by r offers offers' new old cs same is = subst (λ (os : theory_responses.State). OnOk r (new ≡ old ++ map (room_in os) cs)) same is
