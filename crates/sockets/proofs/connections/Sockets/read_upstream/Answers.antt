use Rattle.std.proofs.Common.{◌≡◌, ◌<◌, ◌∙◌, ap, sym, subst, set, length, get_or, refl, ◌∷◌}
use Rattle.std.specs.Prelude.{true, false}
use Rattle.sockets.specs.Sides.{GoesOn, lost_news}
use Rattle.sockets.specs.Performed.{AreRising, IsOpenNowhere, GoesBy}
use Rattle.sockets.specs.declared.upstream.Upstream.{Upstream}
use Rattle.sockets.proofs.Moving.{goes_still, goes_lost, on_still, on_lost, by_listed, by_lost, one_goes_on, moves_still, moves_lost, moves_read}
use Rattle.sockets.proofs.Rising.{set_removed}
use Rattle.sockets.specs.Rooms.{room_in}
use Rattle.sockets.proofs.Events.{fits_room}
use Rattle.std.specs.List.{remove}
use Rattle.sockets.specs.Queues.{IsListed, AllListed, IsClientListed}
use Rattle.sockets.proofs.Queueing.{grows_still, listed_at, still_queued, requeued, numbers_rise, none_listed, one_listed, one_removed, client_on, client_still}
use Rattle.sockets.proofs.Idling.{of_upstream}
use Rattle.sockets.proofs.Portions.{others_fit}
use Rattle.sockets.proofs.connections.Sockets.read_upstream.Goals as goal
use Rattle.sockets.proofs.connections.Sockets.read_upstream.Goals.{then-is_failure+in-Some-1, then-is_failure+in-None-1, else-is_failure+in_ok-join_ready}

pub returns-in_default-clause-moves : goal.returns-in_default-clause-moves
returns-in_default-clause-moves g c =
    moves_still _ _ c.args.self.now.client c.args.self.now.upstreams.items

pub returns-in_err-event-clause-moves : goal.returns-in_err-event-clause-moves
returns-in_err-event-clause-moves g c =
    let c0 = c.args.self.now.client in
    let us = c.args.self.now.upstreams.items in
    let first = c.index_mut-upstream.result.now in
    let within : c.in-Some.place < length us = rw (← c.deref.ensures.value) c.in-Some.ensures.within in
    let goes : GoesOn g.S.Socket.left g.S.Socket.held lost_news (get_or us c.in-Some.place first) c.read_in_turn.new.upstream =
    subst (λ u. GoesOn g.S.Socket.left g.S.Socket.held lost_news u c.read_in_turn.new.upstream) c.index_mut-upstream.ensures.value c.in_err-event.ensures.lost in
    moves_lost _ _ c.from_residual.result _ _ us _ c.from_residual.ensures.0 (goes_lost _ _ c0 c0 (goes_still _ _ c0))
    (one_goes_on _ _ lost_news (λ u. on_lost _ _ u u (on_still _ _ u)) us c.in-Some.place first c.read_in_turn.new.upstream within goes)

pub returns-in_err-join_ready-clause-moves : goal.returns-in_err-join_ready-clause-moves
returns-in_err-join_ready-clause-moves g c =
    let c0 = c.args.self.now.client in
    let us = c.args.self.now.upstreams.items in
    let event = c.in_ok-event.event in
    let first = c.index_mut-upstream.result.now in
    let within : c.in-Some.place < length us = rw (← c.deref.ensures.value) c.in-Some.ensures.within in
    let listed : GoesBy g.S.Socket.left g.S.Socket.held event first c.join_ready.new.upstream = by_listed _ _ event first c.read_in_turn.new.upstream c.join_ready.new.upstream c.in_ok-event.ensures.goes c.join_ready.ensures.stays in
    let lost : GoesOn g.S.Socket.left g.S.Socket.held lost_news first c.join_ready.new.upstream = by_lost _ _ event first.k first c.join_ready.new.upstream c.in_ok-event.ensures.event (sym c.is_failure.ensures ∙ c.if-is_failure.false) listed in
    let goes : GoesOn g.S.Socket.left g.S.Socket.held lost_news (get_or us c.in-Some.place first) c.join_ready.new.upstream =
    subst (λ u. GoesOn g.S.Socket.left g.S.Socket.held lost_news u c.join_ready.new.upstream) c.index_mut-upstream.ensures.value lost in
    moves_lost _ _ c.from_residual-in_err-join_ready.result _ _ us _ c.from_residual-in_err-join_ready.ensures.0 (goes_lost _ _ c0 c0 (goes_still _ _ c0))
    (one_goes_on _ _ lost_news (λ u. on_lost _ _ u u (on_still _ _ u)) us c.in-Some.place first c.join_ready.new.upstream within goes)

pub returns-clause-moves : goal.returns-clause-moves
returns-clause-moves g c =
    let us = c.args.self.now.upstreams.items in
    let c0 = c.args.self.now.client in
    let place = c.in-Some.place in
    let event = c.in_ok-event.event in
    let first = c.index_mut-upstream.result.now in
    let within : place < length us = rw (← c.deref.ensures.value) c.in-Some.ensures.within in
    let there : first ≡ get_or us place first = c.index_mut-upstream.ensures.value in
    let goes : GoesBy g.S.Socket.left g.S.Socket.held event (get_or us place first) c.read_in_turn.new.upstream = subst (λ u. GoesBy g.S.Socket.left g.S.Socket.held event u c.read_in_turn.new.upstream) there c.in_ok-event.ensures.goes in
    let number : (get_or us place first).k ≡ first.k = ap (λ (u : Upstream g.row.S.Denot). u.k) (sym there) in
    elim c.if-is_failure.branch [
      | then-is_failure+in-Some-1 w ↦ rw w.self-is (moves_read _ _ event c0 us _ place first.k c.read_in_turn.new.upstream first c.in_ok-event.ensures.event within number goes
          (λ no. absurd (let never : true ≡ false = sym w.if-is_failure.true ∙ c.is_failure.ensures ∙ no in cc)) (λ is. w.remove.ensures.items))
      | then-is_failure+in-None-1 w ↦ rw w.self-is (moves_read _ _ event c0 us _ place first.k c.read_in_turn.new.upstream first c.in_ok-event.ensures.event within number goes
          (λ no. absurd (let never : true ≡ false = sym w.if-is_failure.true ∙ c.is_failure.ensures ∙ no in cc)) (λ is. w.remove.ensures.items))
      | else-is_failure+in_ok-join_ready w ↦ rw w.self-is (moves_read _ _ event c0 us _ place first.k w.join_ready.new.upstream first c.in_ok-event.ensures.event within number
          (by_listed _ _ event _ c.read_in_turn.new.upstream w.join_ready.new.upstream goes w.join_ready.ensures.stays) (λ is. refl) (λ no. absurd (let never : true ≡ false = sym no ∙ sym c.is_failure.ensures ∙ w.if-is_failure.false in cc)))
    ]

pub returns-clause-fits : goal.returns-clause-fits
returns-clause-fits g c =
    let us = c.args.self.now.upstreams.items in
    let first = c.index_mut-upstream.result.now in
    let found : (get_or us c.in-Some.place first).k ≡ c.args.number = rw (← c.deref.ensures.value) (c.in-Some.ensures.found first) in
    let number : first.k ≡ c.args.number = ap (λ (u : Upstream g.row.S.Denot). u.k) c.index_mut-upstream.ensures.value ∙ found in
    let room : c.room_of-room.result ≡ room_in first.k c.args.rooms.now = c.room_of-room.ensures ∙ ap (λ k. room_in k c.args.rooms.now) (sym number) in
    fits_room c.in_ok-event.event first.k c.room_of-room.result c.args.rooms.now c.in_ok-event.ensures.event room c.in_ok-event.ensures.fits

pub returns-in_default-clause-queued : goal.returns-in_default-clause-queued
returns-in_default-clause-queued g c = λ up before.
    let old = c.args.self.now in
    let us = old.upstreams.items in
    let ready = old.ready.items in
    let writes = old.writes.items in
    let absent : AreRising us → IsOpenNowhere c.args.number us = rw (← c.deref.ensures.value) c.in_default.ensures.absent in
    record {
      client_is = client_on c.args.number ready ready _ _ up (grows_still ready) before.client_is;
      all_are = none_listed c.args.number 0 (c.args.number ∷ ready) writes ready writes us (λ v. still_queued c.args.number ready ready writes v (grows_still ready)) (absent (numbers_rise 0 _ _ us before.all_are)) before.all_are;
    }

pub returns-clause-queued : goal.returns-clause-queued
returns-clause-queued g c = λ up before.
    let old = c.args.self.now in
    let us = old.upstreams.items in
    let ready = old.ready.items in
    let writes = old.writes.items in
    let n = c.args.number in
    let place = c.in-Some.place in
    let first = c.index_mut-upstream.result.now in
    let read = c.read_in_turn.new.upstream in
    let within : place < length us = rw (← c.deref.ensures.value) c.in-Some.ensures.within in
    let found : (get_or us place first).k ≡ n = rw (← c.deref.ensures.value) (c.in-Some.ensures.found first) in
    let there : first ≡ get_or us place first = c.index_mut-upstream.ensures.value in
    let was : IsListed (n ∷ ready) writes first = subst (IsListed (n ∷ ready) writes) (sym there) (listed_at 0 (n ∷ ready) writes us place first within before.all_are) in
    let number : read.k ≡ n = ap (λ (u : Upstream g.row.S.Denot). u.k) c.read_in_turn.ensures.stays ∙ ap (λ (u : Upstream g.row.S.Denot). u.k) there ∙ found in
    let client : IsClientListed ready old.is_client_queued old.client = client_on n ready ready _ _ up (grows_still ready) before.client_is in
    let gone : AllListed 0 ready writes (remove us place) = one_removed n 0 (n ∷ ready) writes ready writes us place first (λ v. still_queued n ready ready writes v (grows_still ready)) within found before.all_are in
    let left : AllListed 0 ready writes (remove (set us place read) place) = subst (AllListed 0 ready writes) (sym (set_removed us place read)) gone in
    elim c.if-is_failure.branch [
      | then-is_failure+in-Some-1 w ↦ rw w.self-is (record { client_is = client; all_are = rw w.remove.ensures.items left })
      | then-is_failure+in-None-1 w ↦ rw w.self-is (record { client_is = client; all_are = rw w.remove.ensures.items left })
      | else-is_failure+in_ok-join_ready w ↦
          let more = w.join_ready.ensures.more in
          rw w.self-is
          (record {
            client_is = client_still ready _ _ _ more client;
            all_are = one_listed n 0 (n ∷ ready) writes w.join_ready.new.ready.items writes us place first w.join_ready.new.upstream (λ v. still_queued n ready _ writes v more) within found
                (ap (λ (u : Upstream g.row.S.Denot). u.k) w.join_ready.ensures.stays ∙ number)
                (requeued (n ∷ ready) ready w.join_ready.new.ready.items writes first read w.join_ready.new.upstream c.read_in_turn.ensures.stays c.read_in_turn.ensures.out w.join_ready.ensures.stays
                w.in_ok-join_ready.ensures.may w.in_ok-join_ready.ensures.queued was)
                before.all_are;
          })
    ]

pub returns-clause-told : goal.returns-clause-told
returns-clause-told g c = of_upstream c.in_ok-event.event _ c.in_ok-event.ensures.event

pub returns-clause-within : goal.returns-clause-within
returns-clause-within g c = others_fit _ c.in_ok-event.event (of_upstream c.in_ok-event.event _ c.in_ok-event.ensures.event)
