-- What passed through the sockets of a world, from call to call.
use Rattle.std.proofs.Common.{◌≡◌, ◌++◌, ◌∷◌, ◌∙◌, ◌⊎◌, ℕ, List, [], Ok, Err, Result, inl, inr, refl, sym, ap, subst, arith}
use Rattle.std.specs.Prelude.{◌==◌, Bool, true, false, All, Option, None, Some, slice_get, if◌then◌else◌, ⊤}
use Rattle.std.proofs.lemmas.List.Elements.{All-nil, All-cons, All-head, All-tail}
use Rattle.std.specs.declared.net.socket_addr.SocketAddr.{SocketAddr}
use Rattle.model.specs.Logs as logs
use Rattle.model.specs.Logs.{Step}
use Rattle.model.specs.Setup.{Setup}
use Rattle.effects.specs.Views.{event_of, output_of}
use Rattle.effects.specs.declared.events.Event.{Event}
use Rattle.effects.specs.declared.events.Event.TheVariants as event
use Rattle.effects.specs.declared.events.Output.{Output}
use Rattle.effects.specs.declared.events.Output.TheVariants as output
use Rattle.driver.specs.Calls.{Call, Along, Moves, WasServed, AreWhole, AreCutShort, log_of, put_behind}
use Rattle.driver.specs.Calls.Call.{Asked, Applied, Aside}
use Rattle.driver.specs.declared.services.ServiceEnd.{ServiceEnd}
use Rattle.driver.specs.declared.services.ServeFault.{ServeFault}
use Rattle.driver.specs.declared.services.ServeFault.TheVariants as fault
use Rattle.driver.specs.declared.world.Next.{Next}
use Rattle.driver.specs.declared.world.Next.TheVariants.{Happened, Nothing, Over}
use Rattle.sockets.specs.Sides.{News, GoesOn, IsNew as IsNewConnection, no_news}
use Rattle.sockets.specs.Performed.{AreRising, IsOpenNowhere, IsNumbered, Changes, Opens, Closes, SendsTo, Performs, MovesOn, AllGoOn, OneGoesOn, OneIsDropped}
use Rattle.sockets.specs.Moves.{Seen, Steps, MovesBy}
use Rattle.sockets.specs.declared.side.Side.{Side}
use Rattle.sockets.specs.declared.upstream.Upstream.{Upstream}
use Rattle.theory_sockets.specs.Told.{Item, Told, Connection, nothing, with_more, items, client_told, of_client, of_connection, opened_for, connection, goes_on}
use Rattle.theory_sockets.specs.Told.Item.{Came, Put}
use Rattle.theory_sockets.specs.Passed.{Passed, IsOpened, ArePassed, IsNew, EndsBy, IsServedBy}
use Rattle.theory_sockets.proofs.Telling.{items_put, told_no_more, no_more, same_told, other_told, same_opened, other_opened}
use Rattle.theory_sockets.proofs.Passing.{passed_none, passed_on}
use Rattle.theory_sockets.proofs.Connecting.{AreApart, Each, each_all, each_still, each_other, each_changed, each_added, each_removed, apart_same, apart_more, apart_fewer, connection_on, connection_sent, connection_new}

-- An item that opens none tells this of a connection.
tells : (k : ℕ) (item : Item) (earlier : List Item) (more : Told) → opened_for k item ≡ None → of_connection k item ≡ more → connection k (item ∷ earlier) ≡ goes_on None more (connection k earlier)
tells k item earlier more none is = ap (λ o. goes_on o (of_connection k item) (connection k earlier)) none ∙ ap (λ told. goes_on None told (connection k earlier)) is

tells_none : (k : ℕ) (item : Item) (earlier : List Item) → opened_for k item ≡ None → of_connection k item ≡ nothing → connection k (item ∷ earlier) ≡ connection k earlier
tells_none k item earlier none is = tells k item earlier nothing none is ∙ no_more (connection k earlier)

module _ {S : Type 0} (left held : S → Option (List ℕ)) where
  -- What is so behind all that was told.
  record State (told : List Item) (begun now : Seen S) : Type 0 where
    client : Passed left held (client_told told) [] begun.client now.client
    each : Each (λ (u : Upstream S). IsOpened left held begun.addresses begun.number (connection u.k told) u) now.upstreams
    apart : AreApart now.upstreams
    rising : AreRising now.upstreams
    addresses : now.addresses ≡ begun.addresses
    number : now.number ≡ begun.number

  none_rise : AreRising {S = S} []
  none_rise = λ i j d le lt. absurd (omega (arith, lt))

  begins : (world : Seen S) → IsNew world → State [] world world
  begins world new = record {
    client = passed_none left held _ world.client new.client;
    each = subst (λ (us : List (Upstream S)). Each (λ (u : Upstream S). IsOpened left held world.addresses world.number None u) us) (sym new.none_open) tt;
    apart = subst (λ (us : List (Upstream S)). AreApart us) (sym new.none_open) tt;
    rising = subst (λ (us : List (Upstream S)). AreRising us) (sym new.none_open) none_rise;
    addresses = refl;
    number = refl;
  }

  -- ---- all connections

  module _ (addresses : List SocketAddr) (number : ℕ) where
    -- what is told of a connection is what passed through its socket
    abbrev Is : List Item → Upstream S → Type 0
    Is told upstream = IsOpened left held addresses number (connection upstream.k told) upstream

    is_same : (told told' : List Item) (u : Upstream S) → connection u.k told' ≡ connection u.k told → Is told u → Is told' u
    is_same told told' u same is = subst (λ c. IsOpened left held addresses number c u) (sym same) is

    -- One goes on without news.
    is_quiet : (told told' : List Item) → ((k : ℕ) → connection k told' ≡ connection k told) → (u v : Upstream S) → GoesOn left held no_news u v → Is told u → Is told' v
    is_quiet told told' same u v goes is =
        subst (λ c. IsOpened left held addresses number c v) (no_more (connection u.k told) ∙ (ap (λ k. connection k told) (sym goes.number) ∙ sym (same v.k)))
        (connection_on left held addresses number (connection u.k told) u v [] false 0 goes is)

    each_quiet : (told told' : List Item) → ((k : ℕ) → connection k told' ≡ connection k told) → (us vs : List (Upstream S)) → AllGoOn left held no_news us vs → Each (Is told) us → Each (Is told') vs
    each_quiet told told' same [] vs all each = subst (λ ws. Each (Is told') ws) (sym all) tt
    each_quiet told told' same (u ∷ us) [] all each = absurd all
    each_quiet told told' same (u ∷ us) (v ∷ vs) all each = (is_quiet told told' same u v all.0 each.0, each_quiet told told' same us vs all.1 each.1)

    -- One goes on with news.
    is_on : (told : List Item) (item : Item) (u v : Upstream S) (came : List ℕ) (ended : Bool) (took : ℕ) → opened_for v.k item ≡ None
        → of_connection v.k item ≡ (record { came = came; ended = ended; put = []; took = took }) → GoesOn left held (record { came = Some came; ended = ended; put = []; took = took }) u v → Is told u → Is (item ∷ told) v
    is_on told item u v came ended took none tells_it goes is =
        subst (λ c. IsOpened left held addresses number c v)
        (ap (λ k. goes_on None (record { came = came; ended = ended; put = []; took = took }) (connection k told)) (sym goes.number) ∙ sym (tells v.k item told (record { came = came; ended = ended; put = []; took = took }) none tells_it))
        (connection_on left held addresses number (connection u.k told) u v came ended took goes is)

    each_on : (told : List Item) (item : Item) (j : ℕ) (came : List ℕ) (ended : Bool) (took : ℕ) → ((k : ℕ) → opened_for k item ≡ None)
        → ((k : ℕ) → k ≡ j → of_connection k item ≡ (record { came = came; ended = ended; put = []; took = took })) → ((k : ℕ) → (k ≡ j → ⊥) → of_connection k item ≡ nothing)
        → (us vs : List (Upstream S)) → Changes j (GoesOn left held (record { came = Some came; ended = ended; put = []; took = took })) us vs → AreApart us → Each (Is told) us → Each (Is (item ∷ told)) vs
    each_on told item j came ended took none same other us vs changes apart each =
        subst (λ ws. Each (Is (item ∷ told)) ws) (sym changes.new_is)
        (each_changed (Is told) (Is (item ∷ told)) j changes.before changes.behind changes.from changes.to changes.number (subst (λ ws. AreApart ws) changes.old_is apart)
        (λ u not is. is_same told (item ∷ told) u (tells_none u.k item told (none u.k) (other u.k not)) is)
        (λ is. is_on told item changes.from changes.to came ended took (none changes.to.k) (same changes.to.k (changes.so.number ∙ changes.number)) changes.so is)
        (subst (λ ws. Each (Is told) ws) changes.old_is each))

    -- One is dropped.
    each_fewer : (told : List Item) (item : Item) (j : ℕ) → ((k : ℕ) → opened_for k item ≡ None) → ((k : ℕ) → of_connection k item ≡ nothing) → (us vs : List (Upstream S)) → Opens (IsNumbered j) vs us → AreApart us
        → Each (Is told) us → Each (Is (item ∷ told)) vs
    each_fewer told item j none other us vs opens apart each =
        subst (λ ws. Each (Is (item ∷ told)) ws) (sym opens.old_is)
        (each_removed (Is told) (Is (item ∷ told)) j opens.before opens.behind opens.opened opens.is (subst (λ ws. AreApart ws) opens.new_is apart)
        (λ u not is. is_same told (item ∷ told) u (tells_none u.k item told (none u.k) (other u.k)) is) (subst (λ ws. Each (Is told) ws) opens.new_is each))

    -- They stay as they are.
    each_stays : (told : List Item) (item : Item) → ((k : ℕ) → opened_for k item ≡ None) → ((k : ℕ) → of_connection k item ≡ nothing) → (us vs : List (Upstream S)) → vs ≡ us → Each (Is told) us → Each (Is (item ∷ told)) vs
    each_stays told item none other us vs same each =
        subst (λ ws. Each (Is (item ∷ told)) ws) (sym same) (each_still (Is told) (Is (item ∷ told)) us (λ u is. is_same told (item ∷ told) u (tells_none u.k item told (none u.k) (other u.k)) is) each)

    -- Octets are put out to one.
    each_sent : (told : List Item) (k : ℕ) (octets : List ℕ) (us vs : List (Upstream S)) → SendsTo left held k octets us vs → AreApart us → Each (Is told) us
        → Each (Is (Put (logs.Output.Does (logs.Act.ToUp k octets)) ∷ told)) vs
    each_sent told k octets us vs (inl none) apart each =
        let item = Put (logs.Output.Does (logs.Act.ToUp k octets)) in
        subst (λ ws. Each (Is (item ∷ told)) ws) (sym none.1)
        (each_other (Is told) (Is (item ∷ told)) k us none.0
        (λ u not is. is_same told (item ∷ told) u (tells_none u.k item told refl (other_told k u.k (record nothing { put = octets }) not)) is) each)
    each_sent told k octets us vs (inr changes) apart each =
        let item = Put (logs.Output.Does (logs.Act.ToUp k octets)) in
        subst (λ ws. Each (Is (item ∷ told)) ws) (sym changes.new_is)
        (each_changed (Is told) (Is (item ∷ told)) k changes.before changes.behind changes.from changes.to changes.number (subst (λ ws. AreApart ws) changes.old_is apart)
        (λ u not is. is_same told (item ∷ told) u (tells_none u.k item told refl (other_told k u.k (record nothing { put = octets }) not)) is)
        (λ is. subst (λ c. IsOpened left held addresses number c changes.to)
        (ap (λ n. goes_on None (record nothing { put = octets }) (connection n told)) (sym changes.so.front.number)
        ∙ sym (tells changes.to.k item told (record nothing { put = octets }) refl (same_told k changes.to.k (record nothing { put = octets }) (changes.so.front.number ∙ changes.number))))
        (connection_sent left held addresses number octets (connection changes.from.k told) changes.from changes.to changes.so is))
        (subst (λ ws. Each (Is told) ws) changes.old_is each))

  -- ---- numbers stay apart

  nowhere_all : (news : News) (k : ℕ) (us vs : List (Upstream S)) → AllGoOn left held news us vs → IsOpenNowhere k us → IsOpenNowhere k vs
  nowhere_all news k [] vs all none = subst (IsOpenNowhere k) (sym all) none
  nowhere_all news k (u ∷ us) [] all none = absurd all
  nowhere_all news k (u ∷ us) (v ∷ vs) all none =
      All-cons (λ (w : Upstream S). w.k ≡ k → ⊥) v vs (λ is. All-head (λ (w : Upstream S). w.k ≡ k → ⊥) u us none (sym all.0.number ∙ is))
      (nowhere_all news k us vs all.1 (All-tail (λ (w : Upstream S). w.k ≡ k → ⊥) u us none))

  apart_all : (news : News) (us vs : List (Upstream S)) → AllGoOn left held news us vs → AreApart us → AreApart vs
  apart_all news [] vs all apart = subst (λ ws. AreApart ws) (sym all) tt
  apart_all news (u ∷ us) [] all apart = absurd all
  apart_all news (u ∷ us) (v ∷ vs) all apart = (subst (λ k. IsOpenNowhere k vs) (sym all.0.number) (nowhere_all news u.k us vs all.1 apart.0), apart_all news us vs all.1 apart.1)

  apart_changed : (k : ℕ) (So : Upstream S → Upstream S → Type 0) → ((u v : Upstream S) → So u v → v.k ≡ u.k) → (us vs : List (Upstream S)) → Changes k So us vs → AreApart us → AreApart vs
  apart_changed k So number us vs changes apart =
      subst (λ ws. AreApart ws) (sym changes.new_is) (apart_same changes.before changes.behind changes.from changes.to (number changes.from changes.to changes.so) (subst (λ ws. AreApart ws) changes.old_is apart))

  apart_closed : (k : ℕ) (us vs : List (Upstream S)) → Opens (IsNumbered k) vs us → AreApart us → AreApart vs
  apart_closed k us vs opens apart = subst (λ ws. AreApart ws) (sym opens.old_is) (apart_fewer opens.before opens.behind opens.opened (subst (λ ws. AreApart ws) opens.new_is apart))

  apart_sent : (k : ℕ) (octets : List ℕ) (us vs : List (Upstream S)) → SendsTo left held k octets us vs → AreApart us → AreApart vs
  apart_sent k octets us vs (inl none) apart = subst (λ ws. AreApart ws) (sym none.1) apart
  apart_sent k octets us vs (inr changes) apart = apart_changed k _ (λ u v so. so.front.number) us vs changes apart

  abbrev Fresh : ℕ → List SocketAddr → ℕ → ℕ → Upstream S → Type 0
  Fresh number addresses k route upstream = IsNewConnection number k (slice_get addresses route) upstream

  -- ---- a call that asked

  module _ (told : List Item) (begun : Seen S) where
    -- An event came, by which one connection at most went on.
    event_comes : (e : Event) (old new : Seen S) → MovesOn left held (Ok (Some e)) old.client old.upstreams new.client new.upstreams → (AreRising old.upstreams → AreRising new.upstreams) → new.addresses ≡ old.addresses
        → new.number ≡ old.number → State told begun old → State (Came (event_of e) ∷ told) begun new
    event_comes (event.Client octets) old new moves rising addresses number is = record {
      client = passed_on left held (client_told told) begun.client old.client new.client octets.items [] false 0 is.client moves.client_is;
      each = each_quiet begun.addresses begun.number told (Came (logs.Event.Client octets.items) ∷ told) (λ k. no_more (connection k told)) old.upstreams new.upstreams moves.others is.each;
      apart = apart_all no_news old.upstreams new.upstreams moves.others is.apart;
      rising = rising is.rising;
      addresses = addresses ∙ is.addresses;
      number = number ∙ is.number;
    }
    event_comes event.ClientEnd old new moves rising addresses number is = record {
      client = passed_on left held (client_told told) begun.client old.client new.client [] [] true 0 is.client moves.client_is;
      each = each_quiet begun.addresses begun.number told (Came logs.Event.ClientEnd ∷ told) (λ k. no_more (connection k told)) old.upstreams new.upstreams moves.others is.each;
      apart = apart_all no_news old.upstreams new.upstreams moves.others is.apart;
      rising = rising is.rising;
      addresses = addresses ∙ is.addresses;
      number = number ∙ is.number;
    }
    event_comes (event.ClientTook count) old new moves rising addresses number is = record {
      client = passed_on left held (client_told told) begun.client old.client new.client [] [] false count is.client moves.client_is;
      each = each_quiet begun.addresses begun.number told (Came (logs.Event.ClientTook count) ∷ told) (λ k. no_more (connection k told)) old.upstreams new.upstreams moves.others is.each;
      apart = apart_all no_news old.upstreams new.upstreams moves.others is.apart;
      rising = rising is.rising;
      addresses = addresses ∙ is.addresses;
      number = number ∙ is.number;
    }
    event_comes event.Drain old new moves rising addresses number is = record {
      client = passed_on left held (client_told told) begun.client old.client new.client [] [] false 0 is.client moves.client_is;
      each = each_quiet begun.addresses begun.number told (Came logs.Event.Drain ∷ told) (λ k. no_more (connection k told)) old.upstreams new.upstreams moves.others is.each;
      apart = apart_all no_news old.upstreams new.upstreams moves.others is.apart;
      rising = rising is.rising;
      addresses = addresses ∙ is.addresses;
      number = number ∙ is.number;
    }
    event_comes (event.Up j octets) old new moves rising addresses number is =
        let mid = moves.others.mid in
        let apart = apart_all no_news old.upstreams mid moves.others.all is.apart in
        record {
          client = passed_on left held (client_told told) begun.client old.client new.client [] [] false 0 is.client moves.client_is;
          each = each_on begun.addresses begun.number told (Came (logs.Event.Up j octets.items)) j octets.items false 0 (λ k. refl) (λ k same. same_told j k (record nothing { came = octets.items }) same)
              (λ k not. other_told j k (record nothing { came = octets.items }) not) mid new.upstreams moves.others.one apart
              (each_quiet begun.addresses begun.number told told (λ k. refl) old.upstreams mid moves.others.all is.each);
          apart = apart_changed j _ (λ u v so. so.number) mid new.upstreams moves.others.one apart;
          rising = rising is.rising;
          addresses = addresses ∙ is.addresses;
          number = number ∙ is.number;
        }
    event_comes (event.UpEnd j) old new moves rising addresses number is =
        let mid = moves.others.mid in
        let apart = apart_all no_news old.upstreams mid moves.others.all is.apart in
        record {
          client = passed_on left held (client_told told) begun.client old.client new.client [] [] false 0 is.client moves.client_is;
          each = each_on begun.addresses begun.number told (Came (logs.Event.UpEnd j)) j [] true 0 (λ k. refl) (λ k same. same_told j k (record nothing { ended = true }) same)
              (λ k not. other_told j k (record nothing { ended = true }) not) mid new.upstreams moves.others.one apart
              (each_quiet begun.addresses begun.number told told (λ k. refl) old.upstreams mid moves.others.all is.each);
          apart = apart_changed j _ (λ u v so. so.number) mid new.upstreams moves.others.one apart;
          rising = rising is.rising;
          addresses = addresses ∙ is.addresses;
          number = number ∙ is.number;
        }
    event_comes (event.UpTook j count) old new moves rising addresses number is =
        let mid = moves.others.mid in
        let apart = apart_all no_news old.upstreams mid moves.others.all is.apart in
        record {
          client = passed_on left held (client_told told) begun.client old.client new.client [] [] false 0 is.client moves.client_is;
          each = each_on begun.addresses begun.number told (Came (logs.Event.UpTook j count)) j [] false count (λ k. refl) (λ k same. same_told j k (record nothing { took = count }) same)
              (λ k not. other_told j k (record nothing { took = count }) not) mid new.upstreams moves.others.one apart
              (each_quiet begun.addresses begun.number told told (λ k. refl) old.upstreams mid moves.others.all is.each);
          apart = apart_changed j _ (λ u v so. so.number) mid new.upstreams moves.others.one apart;
          rising = rising is.rising;
          addresses = addresses ∙ is.addresses;
          number = number ∙ is.number;
        }
    event_comes (event.UpFailed j) old new moves rising addresses number is =
        let mid = moves.others.mid in
        let apart = apart_all no_news old.upstreams mid moves.others.all is.apart in
        record {
          client = passed_on left held (client_told told) begun.client old.client new.client [] [] false 0 is.client moves.client_is;
          each = each_fewer begun.addresses begun.number told (Came (logs.Event.UpFailed j)) j (λ k. refl) (λ k. refl) mid new.upstreams moves.others.one apart
              (each_quiet begun.addresses begun.number told told (λ k. refl) old.upstreams mid moves.others.all is.each);
          apart = apart_closed j mid new.upstreams moves.others.one apart;
          rising = rising is.rising;
          addresses = addresses ∙ is.addresses;
          number = number ∙ is.number;
        }

    -- Nothing came.
    nothing_comes : (old new : Seen S) → MovesOn left held (Ok None) old.client old.upstreams new.client new.upstreams → (AreRising old.upstreams → AreRising new.upstreams) → new.addresses ≡ old.addresses
        → new.number ≡ old.number → State told begun old → State told begun new
    nothing_comes old new moves rising addresses number is = record {
      client = subst (λ (t : Told). Passed left held t [] begun.client new.client) (told_no_more (client_told told))
          (passed_on left held (client_told told) begun.client old.client new.client [] [] false 0 is.client moves.client_is);
      each = each_quiet begun.addresses begun.number told told (λ k. refl) old.upstreams new.upstreams moves.others is.each;
      apart = apart_all no_news old.upstreams new.upstreams moves.others is.apart;
      rising = rising is.rising;
      addresses = addresses ∙ is.addresses;
      number = number ∙ is.number;
    }

    -- ---- a call that was handed an output

    client_same : (item : Item) → of_client item ≡ nothing → (old new : Seen S) → new.client ≡ old.client → Passed left held (client_told told) [] begun.client old.client
        → Passed left held (client_told (item ∷ told)) [] begun.client new.client
    client_same item none old new same p =
        subst (λ (c : Side S). Passed left held (client_told (item ∷ told)) [] begun.client c) (sym same)
        (subst (λ (t : Told). Passed left held t [] begun.client old.client) (sym (ap (with_more (client_told told)) none ∙ told_no_more (client_told told))) p)

    output_done : (o : Output) (old new : Seen S) → Performs left held old.number old.addresses o old.client old.upstreams new.client new.upstreams → (AreRising old.upstreams → AreRising new.upstreams)
        → new.addresses ≡ old.addresses → new.number ≡ old.number → State told begun old → State (Put (output_of o) ∷ told) begun new
    output_done (output.Client octets) old new done rising addresses number is = record {
      client = passed_on left held (client_told told) begun.client old.client new.client [] octets.items false 0 is.client done.0;
      each = each_stays begun.addresses begun.number told (Put (logs.Output.ToClient octets.items)) (λ k. refl) (λ k. refl) old.upstreams new.upstreams done.1 is.each;
      apart = subst (λ us. AreApart us) (sym done.1) is.apart;
      rising = rising is.rising;
      addresses = addresses ∙ is.addresses;
      number = number ∙ is.number;
    }
    output_done (output.Open k route) old new done rising addresses number is =
        let item = Put (logs.Output.Does (logs.Act.Open k route)) in
        let opens = done.1 in
        let fresh = done.2 is.rising in
        let spare : IsOpenNowhere k (opens.before ++ opens.behind) = subst (IsOpenNowhere k) opens.old_is fresh in
        record {
          client = client_same item refl old new done.0 is.client;
          each = subst (λ us. Each (Is begun.addresses begun.number (item ∷ told)) us) (sym opens.new_is)
              (each_added (Is begun.addresses begun.number told) (Is begun.addresses begun.number (item ∷ told)) opens.before opens.behind k opens.opened spare
              (λ u not here. is_same begun.addresses begun.number told (item ∷ told) u (tells_none u.k item told (other_opened k u.k route not) refl) here)
              (subst (λ c. IsOpened left held begun.addresses begun.number c opens.opened)
              (sym (ap (λ r. goes_on r nothing (connection opens.opened.k told)) (same_opened k opens.opened.k route opens.is.number)))
              (connection_new left held begun.addresses begun.number k route opens.opened
              (subst (λ n. Fresh n begun.addresses k route opens.opened) is.number (subst (λ xs. Fresh old.number xs k route opens.opened) is.addresses opens.is))))
              (subst (λ us. Each (Is begun.addresses begun.number told) us) opens.old_is is.each));
          apart = subst (λ us. AreApart us) (sym opens.new_is)
              (apart_more opens.before opens.behind opens.opened (subst (λ n. IsOpenNowhere n (opens.before ++ opens.behind)) (sym opens.is.number) spare) (subst (λ us. AreApart us) opens.old_is is.apart));
          rising = rising is.rising;
          addresses = addresses ∙ is.addresses;
          number = number ∙ is.number;
        }
    output_done (output.Up k octets) old new done rising addresses number is =
        let sends = done.1 is.rising in
        record {
          client = client_same (Put (logs.Output.Does (logs.Act.ToUp k octets))) refl old new done.0 is.client;
          each = each_sent begun.addresses begun.number told k octets old.upstreams new.upstreams sends is.apart is.each;
          apart = apart_sent k octets old.upstreams new.upstreams sends is.apart;
          rising = rising is.rising;
          addresses = addresses ∙ is.addresses;
          number = number ∙ is.number;
        }
    output_done (output.Close k) old new done rising addresses number is =
        let item = Put (logs.Output.Does (logs.Act.Close k)) in
        record {
          client = client_same item refl old new done.0 is.client;
          each = elim (done.1 is.rising) [
            | inl none ↦ each_stays begun.addresses begun.number told item (λ n. refl) (λ n. refl) old.upstreams new.upstreams none.1 is.each
            | inr opens ↦ each_fewer begun.addresses begun.number told item k (λ n. refl) (λ n. refl) old.upstreams new.upstreams opens is.apart is.each
          ];
          apart = elim (done.1 is.rising) [
            | inl none ↦ subst (λ us. AreApart us) (sym none.1) is.apart
            | inr opens ↦ apart_closed k old.upstreams new.upstreams opens is.apart
          ];
          rising = rising is.rising;
          addresses = addresses ∙ is.addresses;
          number = number ∙ is.number;
        }
    output_done output.CloseClient old new done rising addresses number is = record {
      client = passed_on left held (client_told told) begun.client old.client new.client [] [] false 0 is.client done.0;
      each = each_stays begun.addresses begun.number told (Put (logs.Output.Does logs.Act.CloseClient)) (λ k. refl) (λ k. refl) old.upstreams new.upstreams done.1 is.each;
      apart = subst (λ us. AreApart us) (sym done.1) is.apart;
      rising = rising is.rising;
      addresses = addresses ∙ is.addresses;
      number = number ∙ is.number;
    }

  -- ---- all calls

  -- A world that moves as sockets do.
  module _ {W : Type 0} (moves : W → Call → W → Type 0) (hears : W → Type 0) (could_read : W → ℕ → Bool) (heard_at looks : W → ℕ) (seen : W → Seen S)
      (by : (old new : W) (call : Call) → moves old call new → Steps left held call (seen old) (seen new)) where
    abbrev CameAlong : W → List Call → W → Type 0
    CameAlong begun calls world = Along (Moves moves hears could_read heard_at looks (hears begun)) begun calls world

    states : (begun : W) → IsNew (seen begun) → (calls : List Call) (world : W) → CameAlong begun calls world → AreWhole calls → State (items (log_of calls)) (seen begun) (seen world)
    states begun new [] world along whole = subst (λ (w : W). State [] (seen begun) (seen w)) (sym along) (begins (seen begun) new)
    states begun new (Asked rooms idle (Ok (Happened e)) ∷ calls) world (mid, before, goes) whole =
        let step = by mid world (Asked rooms idle (Ok (Happened e))) goes.moved in
        event_comes (items (log_of calls)) (seen begun) e (seen mid) (seen world) step.moved.0 step.rising step.addresses step.number (states begun new calls mid before whole)
    states begun new (Asked rooms idle (Ok Nothing) ∷ calls) world (mid, before, goes) whole =
        let step = by mid world (Asked rooms idle (Ok Nothing)) goes.moved in
        nothing_comes (items (log_of calls)) (seen begun) (seen mid) (seen world) step.moved.0 step.rising step.addresses step.number (states begun new calls mid before whole)
    states begun new (Asked rooms idle (Ok Over) ∷ calls) world (mid, before, goes) whole =
        let step = by mid world (Asked rooms idle (Ok Over)) goes.moved in
        nothing_comes (items (log_of calls)) (seen begun) (seen mid) (seen world) step.moved.0 step.rising step.addresses step.number (states begun new calls mid before whole)
    states begun new (Asked rooms idle (Err failed) ∷ calls) world along whole = absurd whole
    states begun new (Applied o (Ok done) ∷ calls) world (mid, before, goes) whole =
        let step = by mid world (Applied o (Ok done)) goes.moved in
        subst (λ its. State its (seen begun) (seen world)) (sym (items_put o (log_of calls) whole.0))
        (output_done (items (log_of calls)) (seen begun) o (seen mid) (seen world) step.moved step.rising step.addresses step.number (states begun new calls mid before whole.1))
    states begun new (Applied o (Err failed) ∷ calls) world along whole = absurd whole
    states begun new (Aside (Err failed) ∷ calls) world along whole = absurd whole
    states begun new (Aside (Ok done) ∷ calls) world (mid, before, goes) whole =
        let step = by mid world (Aside (Ok done)) goes.moved in
        nothing_comes (items (log_of calls)) (seen begun) (seen mid) (seen world) step.moved step.rising step.addresses step.number (states begun new calls mid before whole)

    passed : (begun : W) → IsNew (seen begun) → (calls : List Call) (world : W) → CameAlong begun calls world → AreWhole calls → ArePassed left held (log_of calls) (seen begun) (seen world)
    passed begun new calls world along whole =
        let state = states begun new calls world along whole in
        record { client = state.client; connections = each_all _ (seen world).upstreams state.each }

    -- what is so of calls of which the newest failed
    record CutShort (begun : W) (calls : List Call) (world : W) : Type 0 where
      before : Seen S
      passed : ArePassed left held (log_of calls) (seen begun) before
      last : (call : Call) × Steps left held call before (seen world)

    cut_short : (begun : W) → IsNew (seen begun) → (calls : List Call) (world : W) → CameAlong begun calls world → AreCutShort calls → CutShort begun calls world
    cut_short begun new [] world along cut = absurd cut
    cut_short begun new (Asked rooms idle (Ok next) ∷ calls) world along cut = absurd cut
    cut_short begun new (Asked rooms idle (Err failed) ∷ calls) world (mid, before, goes) cut =
        record { before = seen mid; passed = passed begun new calls mid before cut; last = (Asked rooms idle (Err failed), by mid world (Asked rooms idle (Err failed)) goes.moved) }
    cut_short begun new (Applied o (Ok done) ∷ calls) world along cut = absurd cut
    cut_short begun new (Applied o (Err failed) ∷ calls) world (mid, before, goes) cut =
        record { before = seen mid; passed = passed begun new calls mid before cut.1; last = (Applied o (Err failed), by mid world (Applied o (Err failed)) goes.moved) }
    cut_short begun new (Aside (Ok done) ∷ calls) world along cut = absurd cut
    cut_short begun new (Aside (Err failed) ∷ calls) world (mid, before, goes) cut =
        record { before = seen mid; passed = passed begun new calls mid before cut; last = (Aside (Err failed), by mid world (Aside (Err failed)) goes.moved) }

    pub served : (setup : Setup) (outcome : Result ServiceEnd ServeFault) (begun world : W) → IsNew (seen begun) → WasServed moves hears could_read heard_at looks setup outcome begun world
        → IsServedBy left held setup outcome (seen begun) (seen world)
    served setup (Ok ended) begun world new was =
        record { calls = was.calls; promised = was.is.0; before = seen world; passed = passed begun new was.calls world was.along was.is.2; ends = refl }
    served setup (Err fault.World) begun world new was =
        let cut = cut_short begun new was.calls world was.along was.is.2 in
        record { calls = was.calls; promised = was.is.0; before = cut.before; passed = cut.passed; ends = cut.last }
    served setup (Err (fault.NotAdmitted peer)) begun world new was =
        record { calls = was.calls; promised = was.is.0; before = seen world; passed = passed begun new was.calls world was.along was.is.2; ends = refl }
    served setup (Err fault.Memory) begun world new was =
        record { calls = was.calls; promised = was.is.0; before = seen world; passed = passed begun new was.calls world was.along was.is.2; ends = refl }
