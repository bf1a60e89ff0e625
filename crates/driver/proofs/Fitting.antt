-- What fits the rooms that were handed may come.
use Rattle.std.proofs.Common.{◌≡◌, ℕ, ◌-◌, ◌≤◌, ◌==◌, ◌||◌, ◌&&◌, Bool, true, false, not, List, [], ◌∷◌, length, Option, refl, sym, ap, ◌∙◌, subst, inl, inr, arith}
use Rattle.std.specs.Prelude.{nat_le, ◌⊎◌}
use Rattle.std.specs.List.{AllByRecursion}
use Rattle.std.proofs.lemmas.Bool.{and_parts}
use Rattle.std.proofs.lemmas.Bool.Decides.{nat_tests}
use Rattle.model.specs.Admission as admission
use Rattle.model.specs.Logs as logs
use Rattle.model.specs.Logs.{Step}
use Rattle.model.specs.Known.{Known}
use Rattle.model.specs.Openings.{Opened, exchange_on}
use Rattle.model.specs.Rooms.{HasRoomBeside, IsRoom, IsAdmitted, FitsRoom}
use Rattle.model.specs.Setup.{Setup, Passing}
use Rattle.model.specs.Setup.Passing.{Whole, Streaming}
use Rattle.model.specs.Tapes.{Entry, is_closed, sent}
use Rattle.model.specs.WindowsOnTape.{is_on, data_octets}
use Rattle.model.proofs.SeenLaws.{one_seen}
use Rattle.theory_errors.specs.Rule.{known_of}
use Rattle.theory_errors.proofs.Knowing.{known_so}
use Rattle.theory.specs.Moves.{Move}
use Rattle.theory.specs.State.{conducts, tape_of}
use Rattle.effects.specs.Views.{event_of}
use Rattle.effects.specs.declared.events.Event.{Event}
use Rattle.effects.specs.declared.events.Event.TheVariants as event
use Rattle.gateway.specs.Rooms.{AreRooms, is_among, numbers_in}
use Rattle.gateway.specs.Stands.{Standing, Stands, is_open}
use Rattle.gateway.proofs.Admitting.{admitted_in, closed_up}
use Rattle.driver.specs.Worlds.{HasRoom, KeepsRooms, peer_of}
use Rattle.driver.specs.declared.services.Peer.TheVariants.{Upstream}
use Rattle.driver.specs.declared.world.Next.TheVariants.{Happened}

-- There is one room beside what waits for the client, and one in all: a connection is idle or isn't.
one_beside : (known : Known) (o : Opened) (t : List Entry) (a b : ℕ) → HasRoomBeside known o t a → HasRoomBeside known o t b → a ≡ b
one_beside known o t a b first second =
    let same : first.octets ≡ second.octets = (one_seen _ _ first.interims second.interims first.head second.head first.octets second.octets first.seen second.seen).octets in
    first.is ∙ ap (λ (octets : List ℕ). admission.room o.k t - (length octets - data_octets (is_on o.stream) (sent t))) same ∙ sym second.is

one_room : (passing : Passing) (known : Known) (k : ℕ) (t : List Entry) (a b : ℕ) → IsRoom passing known k t a → IsRoom passing known k t b → a ≡ b
one_room Whole known k t a b first second = first ∙ sym second
one_room Streaming known k t a b (inl first) (inl second) = first.1 ∙ sym second.1
one_room Streaming known k t a b (inl first) (inr second) = absurd (second.0 first.0)
one_room Streaming known k t a b (inr first) (inl second) = absurd (first.0 second.0)
one_room Streaming known k t a b (inr first) (inr second) = one_beside known (exchange_on k t) t a b first.1 second.1

-- A connection among these is told so, and with how much room.
record IsFound (passing : Passing) (known : Known) (t : List Entry) (rooms : List (ℕ × ℕ)) (k count : ℕ) : Type 0 where
  among : is_among k (numbers_in rooms) ≡ true
  room : ℕ
  is : IsRoom passing known k t room
  within : count ≤ room

or_true : (a b : Bool) → b ≡ true → (a || b) ≡ true
or_true true b is = refl
or_true false b is = is

found : (passing : Passing) (known : Known) (t : List Entry) (rooms : List (ℕ × ℕ)) (k count : ℕ) → AllByRecursion (λ (one : ℕ × ℕ). IsRoom passing known one.0 t one.1) rooms → HasRoom rooms k count
    → IsFound passing known t rooms k count
found passing known t [] k count all has = absurd has
found passing known t (one ∷ rooms) k count all (inl here) =
    record { among = let same = here.0 in grind (arith, nat_tests); room = one.1; is = subst (λ j. IsRoom passing known j t one.1) here.0 all.0; within = here.1 }
found passing known t (one ∷ rooms) k count all (inr more) =
    let there = found passing known t rooms k count all.1 more in
    record { among = or_true (one.0 == k) (is_among k (numbers_in rooms)) there.among; room = there.room; is = there.is; within = there.within }

and_true : (a b : Bool) → a ≡ true → b ≡ true → (a && b) ≡ true
and_true true b is also = also
and_true false b is also = absurd (let no : false ≡ true = is in cc)

module _ (setup : Setup) (g : Standing) (log : List Step) (run : List Move) (stands : Stands setup g log run) where
  abbrev known : Known
  known = known_of setup (conducts run)

  abbrev t : List Entry
  t = tape_of run

  open_yet : is_open g.phase ≡ true → not (is_closed t) ≡ true
  open_yet goes = (and_parts (not (is_closed t)) true (admitted_in setup g log run stands logs.Event.ClientEnd (and_true (is_open g.phase) true goes refl) known refl (known_so setup (conducts run))).in_order).0

  -- A connection that was handed is open, and has room.
  there : (rooms : List (ℕ × ℕ)) → AreRooms known t rooms → (k count : ℕ) → HasRoom rooms k count → IsFound known.setup.passing known t rooms k count
  there rooms are k count has = found known.setup.passing known t rooms k count are.each has

  open_there : (rooms : List (ℕ × ℕ)) → AreRooms known t rooms → (k count : ℕ) → HasRoom rooms k count → admission.is_open k t ≡ true
  open_there rooms are k count has = sym (are.listed k) ∙ (there rooms are k count has).among

  -- So something may come in.
  goes_on : (rooms : List (ℕ × ℕ)) → AreRooms known t rooms → (k count : ℕ) → HasRoom rooms k count → not (is_closed t) ≡ true
  goes_on rooms are k count has = by (is_open g.phase) refl
    where
      by : (b : Bool) → is_open g.phase ≡ b → not (is_closed t) ≡ true
      by true goes = open_yet goes
      by false over = absurd (let no : false ≡ true = closed_up setup g log run stands over k ∙ open_there rooms are k count has in cc)

  within_room : (passing : Passing) (k count : ℕ) → admission.is_open k t ≡ true → IsRoom passing known k t count → count ≤ admission.room k t
  within_room Whole k count open_is is = omega (arith, is)
  within_room Streaming k count open_is (inl idle) = let told = idle.1 in omega (arith, told)
  within_room Streaming k count open_is (inr busy) = let told = busy.1.is in omega (arith, told)

  up_may : (rooms : List (ℕ × ℕ)) → AreRooms known t rooms → (k : ℕ) (piece : List ℕ) → HasRoom rooms k (length piece) → IsAdmitted known t (logs.Event.Up k piece)
  up_may rooms are k piece has =
      let here = there rooms are k (length piece) has in
      let opened = open_there rooms are k (length piece) has in
      let le : length piece ≤ admission.room k t = (let most = within_room known.setup.passing k here.room opened here.is in let within = here.within in omega (arith, most, within)) in
      let fits : nat_le (length piece) (admission.room k t) ≡ true = grind (arith, nat_tests) in
      record {
        in_order = and_true (not (is_closed t)) (admission.is_open k t && nat_le (length piece) (admission.room k t)) (goes_on rooms are k (length piece) has) (and_true (admission.is_open k t) _ opened fits);
        fits = λ count is. subst (λ n. length piece ≤ n) (one_room known.setup.passing known k t here.room count here.is is) here.within;
      }

  end_may : (rooms : List (ℕ × ℕ)) → AreRooms known t rooms → (k : ℕ) → HasRoom rooms k 0 → IsAdmitted known t (logs.Event.UpEnd k)
  end_may rooms are k has = record { in_order = and_true (not (is_closed t)) (admission.is_open k t) (goes_on rooms are k 0 has) (open_there rooms are k 0 has); fits = tt }

  failed_may : (rooms : List (ℕ × ℕ)) → AreRooms known t rooms → (k : ℕ) → HasRoom rooms k 0 → IsAdmitted known t (logs.Event.UpFailed k)
  failed_may rooms are k has = record { in_order = and_true (not (is_closed t)) (admission.is_open k t) (goes_on rooms are k 0 has) (open_there rooms are k 0 has); fits = tt }

  -- What may not come is of no upstream, where what comes of these keeps to their rooms.
  pub of_none : (rooms : List (ℕ × ℕ)) → AreRooms known t rooms → (came : Event) → KeepsRooms rooms (Happened came) → (IsAdmitted known t (event_of came) → ⊥) → (j : ℕ) → peer_of came ≡ Upstream j → ⊥
  of_none rooms are (event.Up k octets) keeps refused j of = refused (up_may rooms are k octets.items keeps)
  of_none rooms are (event.UpEnd k) keeps refused j of = refused (end_may rooms are k keeps)
  of_none rooms are (event.UpFailed k) keeps refused j of = refused (failed_may rooms are k keeps)
  of_none rooms are (event.Client octets) keeps refused j of = cc
  of_none rooms are event.ClientEnd keeps refused j of = cc
  of_none rooms are (event.ClientTook count) keeps refused j of = cc
  of_none rooms are (event.UpTook k count) keeps refused j of = cc
  of_none rooms are event.Drain keeps refused j of = cc
