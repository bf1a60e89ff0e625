-- What became of sockets, and which connections go on, from call to call.
use Rattle.std.proofs.Common.{◌≡◌, ◌<◌, ◌++◌, ◌∙◌, ℕ, zero, suc, List, [], ◌∷◌, length, map, set, get_or, Result, Ok, Err, inr, refl, sym, ap, subst, arith}
use Rattle.std.specs.Prelude.{Bool, ◌||◌, ◌&&◌, ◌≤◌, ◌↔◌, not, IsTrue, Option, None, Some, true, false, if◌then◌else◌, is_some, IfSome, IfOk, IsErr, ⊤}
use Rattle.std.specs.Io.KnownBytes.{Consumes}
use Rattle.std.specs.List.{remove}
use Rattle.std.specs.declared.io.Error.{Error}
use Rattle.socket_io.specs.Transfers.{Gives, told}
use Rattle.socket_io.specs.declared.incoming.Got.{Got}
use Rattle.socket_io.specs.declared.incoming.Got.TheVariants.{Octets, Nothing, End}
use Rattle.sockets.specs.Putting.{Passes}
use Rattle.mio.specs.Interest.{is_readable}
use Rattle.effects.specs.declared.events.Event.{Event}
use Rattle.effects.specs.declared.events.Event.TheVariants.{Client, ClientEnd, ClientTook, Up, UpEnd, UpFailed, UpTook, Drain}
use Rattle.driver.specs.declared.world.WorldFault.{WorldFault}
use Rattle.driver.specs.Calls.Call.{Aside}
use Rattle.sockets.specs.Moves.{Seen, Steps}
use Rattle.sockets.specs.declared.side.Side.{Side}
use Rattle.sockets.specs.declared.upstream.Upstream.{Upstream}
use Rattle.mio.specs.declared.event.event.Event.{Event as Report}
use Rattle.sockets.specs.Sides.{News, no_news, lost_news, came_news, end_news, took_news, is_deaf, is_lost, IsOf, Tells, Goes, GoesTo, GoesOn, GoesFrontTo, SendsFront, noted}
use Rattle.sockets.specs.Performed.{AreRising, IsNumbered, Opens, Changes, Sends, AllGoOn, OneGoesOn, OneIsDropped, OthersGoOn, GoesBy, MovesOn, client_told, got_news, IsWithin, is_failed}
use Rattle.sockets.proofs.Passed.{reads_nothing, keeps_reads, reads_after, end_before, passes_still, passes_twice, no_front, appends_nothing}
use Rattle.sockets.proofs.Performing.{one_fewer, one_changed}
use Rattle.sockets.proofs.Rising.{set_removed, rising_same, rising_remove}

abbrev is_end : Got → Bool
is_end (Octets octets) = false
is_end Nothing = false
is_end End = true

or_nothing : (b : Bool) → (b || false) ≡ b
or_nothing true = refl
or_nothing false = refl

or_after : (a b c d : Bool) → b ≡ (a || false) → c ≡ (b || d) → c ≡ (a || d)
or_after a b c d first second = second ∙ ap (λ x. x || d) (first ∙ or_nothing a)

none_counted : (count : ℕ) → count ≤ 0 → count ≡ 0
none_counted count none = omega (arith, none)

pub unended_ready : (a b : Bool) → (a && not b) ≡ true → b ≡ false
unended_ready true false is = refl
unended_ready true true is = absurd (let no : false ≡ true = is in cc)
unended_ready false b is = absurd (let no : false ≡ true = is in cc)

pub given_within : (got : Got) (had has : Option (List ℕ)) (room most : ℕ) → room ≤ most → Gives had has room got → IsWithin most got
given_within (Octets octets) had has room most le gives = (gives.0, omega (arith, le, gives.1))
given_within Nothing had has room most le gives = tt
given_within End had has room most le gives = tt

ends_after : (came : Option (List ℕ)) (a b c d : Bool) → b ≡ (a || false) → IfSome came (λ _. c ≡ (b || d)) → IfSome came (λ _. c ≡ (a || d))
ends_after None a b c d first second = tt
ends_after (Some octets) a b c d first second = or_after a b c d first second

module _ {S : Type 0} (left held : S → Option (List ℕ)) where
  -- ---- one side

  -- Nothing of it changed but what is kept of it besides.
  pub goes_kept : (old new : Side S) → left new.socket ≡ left old.socket → held new.socket ≡ held old.socket → new.ended ≡ old.ended → new.out ≡ old.out → new.token ≡ old.token
      → (is_readable old.interests ≡ true → is_readable new.interests ≡ true) → Goes left held no_news old new
  goes_kept old new left_is held_is ended out token heard =
      record {
        reads = subst (λ xs. Consumes (left old.socket) xs []) (sym left_is) (reads_nothing (left old.socket));
        ends = ended ∙ sym (or_nothing old.ended);
        at_end = λ no. absurd (let never : false ≡ true = no in cc);
        passes = passes_still _ _ old.out new.out held_is (ap (λ way. way.waiting) out) (ap (λ way. way.untold) out);
        token = token;
        heard = heard;
      }

  pub goes_still : (side : Side S) → Goes left held no_news side side
  goes_still side = goes_kept side side refl refl refl refl refl (λ is. is)

  -- A report of it was noted.
  pub goes_noted : (report : Report) (old new : Side S) → new ≡ noted report old → Goes left held no_news old new
  goes_noted report old new is = subst (λ side. Goes left held no_news old side) (sym is) (goes_kept old (noted report old) refl refl refl refl refl (λ readable. readable))

  -- What a call read that failed isn't told.
  pub goes_lost : (old new : Side S) → Goes left held no_news old new → Goes left held lost_news old new
  goes_lost old new goes = record { reads = tt; ends = tt; at_end = λ no. absurd (let never : false ≡ true = no in cc); passes = goes.passes; token = goes.token; heard = goes.heard }

  -- There was no news, and then this.
  pub goes_twice : (came : Option (List ℕ)) (ended : Bool) (took : ℕ) (old mid new : Side S) → Goes left held no_news old mid
      → Goes left held (record { came = came; ended = ended; put = []; took = took }) mid new → Goes left held (record { came = came; ended = ended; put = []; took = took }) old new
  goes_twice came ended took old mid new first second =
      record {
        reads = reads_after (left old.socket) (left mid.socket) (left new.socket) came first.reads second.reads;
        ends = ends_after came old.ended mid.ended new.ended ended first.ends second.ends;
        at_end = λ is. (sym (first.ends ∙ or_nothing old.ended) ∙ (second.at_end is).0, end_before (left old.socket) (left mid.socket) first.reads (second.at_end is).1);
        passes = passes_twice _ _ _ took old.out mid.out new.out first.passes second.passes;
        token = second.token ∙ first.token;
        heard = λ is. second.heard (first.heard is);
      }

  not_end : (ended : Bool) (got : Got) → (ended ≡ true → got ≡ End) → (got ≡ End → ⊥) → ended ≡ false
  not_end false got only other = refl
  not_end true got only other = absurd (other (only refl))

  -- A side was read.
  pub side_read : (got : Got) (room : ℕ) (old new : Side S) → new ≡ record old { socket = new.socket; readable = new.readable; ended = new.ended } → Gives (left old.socket) (left new.socket) room got
      → held new.socket ≡ held old.socket → (new.ended ≡ true → got ≡ End) → (got ≡ End → new.ended ≡ true) → old.ended ≡ false → 0 < room → Goes left held (got_news got) old new
  side_read (Octets octets) room old new stays gives held_is only also unended some =
      record {
        reads = gives.2;
        ends = not_end new.ended (Octets octets) only (λ no. absurd (let never : is_end (Octets octets) ≡ true = ap is_end no in cc)) ∙ sym (or_nothing old.ended ∙ unended);
        at_end = λ no. absurd (let never : false ≡ true = no in cc);
        passes = passes_still _ _ old.out new.out held_is (ap (λ (side : Side S). side.out.waiting) stays) (ap (λ (side : Side S). side.out.untold) stays);
        token = ap (λ (side : Side S). side.token) stays;
        heard = λ is. ap (λ (side : Side S). is_readable side.interests) stays ∙ is;
      }
  side_read Nothing room old new stays gives held_is only also unended some =
      record {
        reads = keeps_reads _ _ gives;
        ends = not_end new.ended Nothing only (λ no. absurd (let never : is_end Nothing ≡ true = ap is_end no in cc)) ∙ sym (or_nothing old.ended ∙ unended);
        at_end = λ no. absurd (let never : false ≡ true = no in cc);
        passes = passes_still _ _ old.out new.out held_is (ap (λ (side : Side S). side.out.waiting) stays) (ap (λ (side : Side S). side.out.untold) stays);
        token = ap (λ (side : Side S). side.token) stays;
        heard = λ is. ap (λ (side : Side S). is_readable side.interests) stays ∙ is;
      }
  side_read End room old new stays gives held_is only also unended some =
      record {
        reads = gives.0;
        ends = also refl ∙ sym (ap (λ b. b || true) unended);
        at_end = λ is. (unended, gives.1 some);
        passes = passes_still _ _ old.out new.out held_is (ap (λ (side : Side S). side.out.waiting) stays) (ap (λ (side : Side S). side.out.untold) stays);
        token = ap (λ (side : Side S). side.token) stays;
        heard = λ is. ap (λ (side : Side S). is_readable side.interests) stays ∙ is;
      }

  pub side_got : (got : Result Got Error) (room : ℕ) (old new : Side S) → new ≡ record old { socket = new.socket; readable = new.readable; ended = new.ended }
      → IfOk got (λ g. Gives (left old.socket) (left new.socket) room g) → held new.socket ≡ held old.socket → IfOk got (λ g. IsTrue new.ended ↔ (g ≡ End)) → old.ended ≡ false → 0 < room
      → IfOk got (λ g. Goes left held (got_news g) old new)
  side_got (Err error) room old new stays gives held_is ended unended some = tt
  side_got (Ok got) room old new stays gives held_is ended unended some = side_read got room old new stays gives held_is ended.0 ended.1 unended some

  -- What waits was written, as far as the socket took it.
  pub side_flushed : (old new : Side S) → new ≡ record old { socket = new.socket; out = new.out; full = new.full; interests = new.interests } → left new.socket ≡ left old.socket
      → (is_readable old.interests ≡ true → is_readable new.interests ≡ true) → Passes (held old.socket) (held new.socket) [] 0 old.out new.out → Goes left held no_news old new
  side_flushed old new stays left_is heard passes =
      record {
        reads = subst (λ xs. Consumes (left old.socket) xs []) (sym left_is) (reads_nothing (left old.socket));
        ends = ap (λ (side : Side S). side.ended) stays ∙ sym (or_nothing old.ended);
        at_end = λ no. absurd (let never : false ≡ true = no in cc);
        passes = passes;
        token = ap (λ (side : Side S). side.token) stays;
        heard = heard;
      }

  -- So many are told of.
  pub side_told : (least count : ℕ) (old new : Side S) → new ≡ record old { out = told least old.out } → Passes (held old.socket) (held new.socket) [] count old.out new.out → Goes left held (took_news count) old new
  side_told least count old new is_told passes =
      record {
        reads = subst (λ (side : Side S). Consumes (left old.socket) (left side.socket) []) (sym is_told) (reads_nothing (left old.socket));
        ends = ap (λ (side : Side S). side.ended) is_told ∙ sym (or_nothing old.ended);
        at_end = λ no. absurd (let never : false ≡ true = no in cc);
        passes = passes;
        token = ap (λ (side : Side S). side.token) is_told;
        heard = λ is. ap (λ (side : Side S). is_readable side.interests) is_told ∙ is;
      }

  -- None were taken.
  pub side_untold : (least count : ℕ) (old new : Side S) → count ≤ 0 → new ≡ record old { out = told least old.out } → Passes (held old.socket) (held new.socket) [] count old.out new.out
      → Goes left held no_news old new
  side_untold least count old new none is passes = subst (λ n. Goes left held (took_news n) old new) (none_counted count none) (side_told least count old new is passes)

  -- What was read isn't told, twice.
  pub lost_twice : (old mid new : Side S) → Goes left held lost_news old mid → Goes left held lost_news mid new → Goes left held lost_news old new
  lost_twice old mid new first second =
      record {
        reads = tt;
        ends = tt;
        at_end = λ no. absurd (let never : false ≡ true = no in cc);
        passes = passes_twice _ _ _ 0 old.out mid.out new.out first.passes second.passes;
        token = second.token ∙ first.token;
        heard = λ is. second.heard (first.heard is);
      }

  -- ---- connections

  pub to_still : (side : Option (Side S)) → GoesTo left held no_news side side
  to_still None = (refl, (refl, refl, refl))
  to_still (Some side) = goes_still side

  to_lost : (old new : Option (Side S)) → GoesTo left held no_news old new → GoesTo left held lost_news old new
  to_lost None new goes = (goes.0, (tt, refl, refl))
  to_lost (Some old) None goes = absurd goes
  to_lost (Some old) (Some new) goes = goes_lost old new goes

  to_twice : (came : Option (List ℕ)) (ended : Bool) (took : ℕ) (old mid new : Option (Side S)) → GoesTo left held no_news old mid
      → GoesTo left held (record { came = came; ended = ended; put = []; took = took }) mid new → GoesTo left held (record { came = came; ended = ended; put = []; took = took }) old new
  to_twice came ended took None mid new first second = subst (λ side. GoesTo left held (record { came = came; ended = ended; put = []; took = took }) side new) first.0 second
  to_twice came ended took (Some old) None new first second = absurd first
  to_twice came ended took (Some old) (Some mid) None first second = absurd second
  to_twice came ended took (Some old) (Some mid) (Some new) first second = goes_twice came ended took old mid new first second

  front_to_still : (octets : List ℕ) (side : Option (Side S)) → GoesFrontTo left held octets side side
  front_to_still octets None = refl
  front_to_still octets (Some side) = record { reads = refl; ends = refl; passes = no_front _ _ octets side.out side.out (appends_nothing _) refl refl }

  -- Nothing was put out.
  pub front_still : (octets : List ℕ) (upstream : Upstream S) → SendsFront left held octets upstream upstream
  front_still octets upstream = record { number = refl; address = refl; front = front_to_still octets upstream.side }

  -- Nothing is put out to one that nothing reaches any more.
  pub deaf_still : (octets : List ℕ) (upstream : Upstream S) → is_deaf upstream ≡ true → Sends left held octets upstream upstream
  deaf_still octets upstream deaf = record { front = front_still octets upstream; puts_out = inr deaf; deaf = λ is. (refl, refl) }

  pub on_still : (upstream : Upstream S) → GoesOn left held no_news upstream upstream
  on_still upstream = record { number = refl; address = refl; goes = to_still upstream.side; deaf = λ is. is; broken = λ is. is }

  pub on_lost : (old new : Upstream S) → GoesOn left held no_news old new → GoesOn left held lost_news old new
  on_lost old new goes = record { number = goes.number; address = goes.address; goes = to_lost old.side new.side goes.goes; deaf = goes.deaf; broken = goes.broken }

  pub on_twice : (came : Option (List ℕ)) (ended : Bool) (took : ℕ) (old mid new : Upstream S) → GoesOn left held no_news old mid
      → GoesOn left held (record { came = came; ended = ended; put = []; took = took }) mid new → GoesOn left held (record { came = came; ended = ended; put = []; took = took }) old new
  on_twice came ended took old mid new first second =
      record {
        number = second.number ∙ first.number;
        address = second.address ∙ first.address;
        goes = to_twice came ended took old.side mid.side new.side first.goes second.goes;
        deaf = λ is. second.deaf (first.deaf is);
        broken = λ is. second.broken (first.broken is);
      }

  -- Where it is listed says nothing of how it went on.
  pub on_listed : (news : News) (old mid new : Upstream S) → GoesOn left held news old mid → {b d : Bool} → new ≡ record mid { is_queued = b; is_listed = d } → GoesOn left held news old new
  on_listed news old mid new goes is = subst (GoesOn left held news old) (sym is) (record { number = goes.number; address = goes.address; goes = goes.goes; deaf = goes.deaf; broken = goes.broken })

  pub by_listed : (event : Option Event) (old mid new : Upstream S) → GoesBy left held event old mid → {b d : Bool} → new ≡ record mid { is_queued = b; is_listed = d } → GoesBy left held event old new
  by_listed None old mid new goes is = on_listed no_news old mid new goes is
  by_listed (Some (UpFailed k)) old mid new goes is = ap (λ (u : Upstream S). u.k) is ∙ goes
  by_listed (Some (Up k octets)) old mid new goes is = on_listed (came_news octets.items) old mid new goes is
  by_listed (Some (UpEnd k)) old mid new goes is = on_listed end_news old mid new goes is
  by_listed (Some (UpTook k count)) old mid new goes is = on_listed (took_news count) old mid new goes is
  by_listed (Some Drain) old mid new goes is = on_listed no_news old mid new goes is
  by_listed (Some (Client octets)) old mid new goes is = on_listed no_news old mid new goes is
  by_listed (Some ClientEnd) old mid new goes is = on_listed no_news old mid new goes is
  by_listed (Some (ClientTook count)) old mid new goes is = on_listed no_news old mid new goes is

  -- What was read isn't told.
  pub told_lost : (came : Option (List ℕ)) (ended : Bool) (old new : Side S) → Goes left held (record { came = came; ended = ended; put = []; took = 0 }) old new → Goes left held lost_news old new
  told_lost came ended old new goes = record { reads = tt; ends = tt; at_end = λ no. absurd (let never : false ≡ true = no in cc); passes = goes.passes; token = goes.token; heard = goes.heard }

  to_told_lost : (came : Option (List ℕ)) (ended : Bool) (old new : Option (Side S)) → GoesTo left held (record { came = came; ended = ended; put = []; took = 0 }) old new → GoesTo left held lost_news old new
  to_told_lost came ended None new goes = (goes.0, (tt, refl, refl))
  to_told_lost came ended (Some old) None goes = absurd goes
  to_told_lost came ended (Some old) (Some new) goes = told_lost came ended old new goes

  on_told_lost : (came : Option (List ℕ)) (ended : Bool) (old new : Upstream S) → GoesOn left held (record { came = came; ended = ended; put = []; took = 0 }) old new → GoesOn left held lost_news old new
  on_told_lost came ended old new goes = record { number = goes.number; address = goes.address; goes = to_told_lost came ended old.side new.side goes.goes; deaf = goes.deaf; broken = goes.broken }

  -- What was read is lost, where it isn't told in the end.
  pub by_lost : (event : Option Event) (k : ℕ) (old new : Upstream S) → IfSome event (IsOf k) → is_failed event ≡ false → GoesBy left held event old new → GoesOn left held lost_news old new
  by_lost None k old new is stays goes = on_told_lost (Some []) false old new goes
  by_lost (Some (Up j octets)) k old new is stays goes = on_told_lost (Some octets.items) false old new goes
  by_lost (Some (UpEnd j)) k old new is stays goes = on_told_lost (Some []) true old new goes
  by_lost (Some (UpFailed j)) k old new is stays goes = absurd (let no : true ≡ false = stays in cc)
  by_lost (Some (UpTook j count)) k old new is stays goes = absurd is
  by_lost (Some Drain) k old new is stays goes = absurd is
  by_lost (Some (Client octets)) k old new is stays goes = absurd is
  by_lost (Some ClientEnd) k old new is stays goes = absurd is
  by_lost (Some (ClientTook count)) k old new is stays goes = absurd is

  with_side : (news : News) (u v : Upstream S) (side new : Side S) → u.side ≡ Some side → v ≡ record u { side = Some new } → new.lost ≡ side.lost → Goes left held news side new → GoesOn left held news u v
  with_side news u v side new was is lost goes =
      record {
        number = ap (λ (w : Upstream S). w.k) is;
        address = ap (λ (w : Upstream S). w.address) is;
        goes = subst (λ w. GoesTo left held news u.side w) (sym (ap (λ (w : Upstream S). w.side) is)) (subst (λ w. GoesTo left held news w (Some new)) (sym was) goes);
        deaf = λ deaf. ap is_deaf is ∙ (ap (λ b. u.broken || b) (lost ∙ sym (ap is_lost was)) ∙ deaf);
        broken = λ broken. ap (λ (w : Upstream S). w.broken) is ∙ broken;
      }

  told_end : (broken : Bool) (k : ℕ) (u v : Upstream S) (side new : Side S) → u.side ≡ Some side → v ≡ record u { side = Some new } → new.lost ≡ side.lost → Goes left held end_news side new
      → GoesBy left held (Some (if broken then UpFailed k else UpEnd k)) u v
  told_end true k u v side new was is lost goes = ap (λ (w : Upstream S). w.k) is
  told_end false k u v side new was is lost goes = with_side end_news u v side new was is lost goes

  told_nothing : (over : Bool) (k : ℕ) (u v : Upstream S) (side new : Side S) → u.side ≡ Some side → v ≡ record u { side = Some new } → new.lost ≡ side.lost → Goes left held no_news side new
      → GoesBy left held (if over then Some (UpFailed k) else None) u v
  told_nothing true k u v side new was is lost goes = ap (λ (w : Upstream S). w.k) is
  told_nothing false k u v side new was is lost goes = with_side no_news u v side new was is lost goes

  -- What a read of an upstream gave is told.
  pub read_goes : (got : Result Got Error) (told : Result (Option Event) WorldFault) (k : ℕ) (broken lost : Bool) (u v : Upstream S) (side new : Side S) → u.side ≡ Some side → v ≡ record u { side = Some new } → new.lost ≡ side.lost
      → Tells k broken lost got told → IfOk got (λ g. Goes left held (got_news g) side new) → IfOk told (λ event. GoesBy left held event u v)
  read_goes (Ok (Octets octets)) said k broken lost u v side new was is same tells goes = subst (λ r. IfOk r (λ event. GoesBy left held event u v)) (sym tells) (with_side (came_news octets.items) u v side new was is same goes)
  read_goes (Ok End) said k broken lost u v side new was is same tells goes = subst (λ r. IfOk r (λ event. GoesBy left held event u v)) (sym tells) (told_end broken k u v side new was is same goes)
  read_goes (Ok Nothing) said k broken lost u v side new was is same tells goes = subst (λ r. IfOk r (λ event. GoesBy left held event u v)) (sym tells) (told_nothing (broken || lost) k u v side new was is same goes)
  read_goes (Err error) (Err fault) k broken lost u v side new was is same tells goes = tt
  read_goes (Err error) (Ok event) k broken lost u v side new was is same tells goes =
      subst (λ r. IfOk r (λ event. GoesBy left held event u v)) (sym (tells.1 (λ memory. let no : false ≡ true = tells.0 memory in cc))) (ap (λ (w : Upstream S). w.k) is)

  pub all_still : (us : List (Upstream S)) → AllGoOn left held no_news us us
  all_still [] = refl
  all_still (u ∷ us) = (on_still u, all_still us)

  pub all_lost : (us vs : List (Upstream S)) → AllGoOn left held no_news us vs → AllGoOn left held lost_news us vs
  all_lost [] vs all = all
  all_lost (u ∷ us) [] all = absurd all
  all_lost (u ∷ us) (v ∷ vs) all = (on_lost u v all.0, all_lost us vs all.1)

  pub all_twice : (came : Option (List ℕ)) (us vs ws : List (Upstream S)) → AllGoOn left held no_news us vs → AllGoOn left held (record { came = came; ended = false; put = []; took = 0 }) vs ws
      → AllGoOn left held (record { came = came; ended = false; put = []; took = 0 }) us ws
  all_twice came [] vs ws first second = subst (λ xs. AllGoOn left held (record { came = came; ended = false; put = []; took = 0 }) xs ws) first second
  all_twice came (u ∷ us) [] ws first second = absurd first
  all_twice came (u ∷ us) (v ∷ vs) [] first second = absurd second
  all_twice came (u ∷ us) (v ∷ vs) (w ∷ ws) first second = (on_twice came false 0 u v w first.0 second.0, all_twice came us vs ws first.1 second.1)

  all_so : (news : News) → ((u : Upstream S) → GoesOn left held news u u) → (us : List (Upstream S)) → AllGoOn left held news us us
  all_so news still [] = refl
  all_so news still (u ∷ us) = (still u, all_so news still us)

  -- The one at a place went on.
  pub one_goes_on : (news : News) → ((u : Upstream S) → GoesOn left held news u u) → (us : List (Upstream S)) (i : ℕ) (u new : Upstream S) → i < length us → GoesOn left held news (get_or us i u) new
      → AllGoOn left held news us (set us i new)
  one_goes_on news still [] i u new within goes = grind arith
  one_goes_on news still (v ∷ vs) zero u new within goes = (goes, all_so news still vs)
  one_goes_on news still (v ∷ vs) (suc i) u new within goes = (still v, one_goes_on news still vs i u new (grind arith) goes)

  one_twice : (k : ℕ) (news : News) (us vs ws : List (Upstream S)) → AllGoOn left held no_news us vs → OneGoesOn left held k news vs ws → OneGoesOn left held k news us ws
  one_twice k news us vs ws first one = record { mid = one.mid; all = all_twice (Some []) us vs one.mid first one.all; one = one.one }

  dropped_twice : (k : ℕ) (us vs ws : List (Upstream S)) → AllGoOn left held no_news us vs → OneIsDropped left held k vs ws → OneIsDropped left held k us ws
  dropped_twice k us vs ws first one = record { mid = one.mid; all = all_twice (Some []) us vs one.mid first one.all; one = one.one }

  -- All went on without news, and then this was told.
  pub others_twice : (answer : Result (Option Event) WorldFault) (us vs ws : List (Upstream S)) → AllGoOn left held no_news us vs → OthersGoOn left held answer vs ws → OthersGoOn left held answer us ws
  others_twice (Ok None) us vs ws first second = all_twice (Some []) us vs ws first second
  others_twice (Ok (Some (Up k octets))) us vs ws first second = one_twice k (came_news octets.items) us vs ws first second
  others_twice (Ok (Some (UpEnd k))) us vs ws first second = one_twice k end_news us vs ws first second
  others_twice (Ok (Some (UpTook k count))) us vs ws first second = one_twice k (took_news count) us vs ws first second
  others_twice (Ok (Some Drain)) us vs ws first second = all_twice (Some []) us vs ws first second
  others_twice (Ok (Some (UpFailed k))) us vs ws first second = dropped_twice k us vs ws first second
  others_twice (Ok (Some (Client octets))) us vs ws first second = all_twice (Some []) us vs ws first second
  others_twice (Ok (Some ClientEnd)) us vs ws first second = all_twice (Some []) us vs ws first second
  others_twice (Ok (Some (ClientTook count))) us vs ws first second = all_twice (Some []) us vs ws first second
  others_twice (Err fault) us vs ws first second = all_twice None us vs ws first second

  client_twice : (answer : Result (Option Event) WorldFault) (old mid new : Side S) → Goes left held no_news old mid → Goes left held (client_told answer) mid new → Goes left held (client_told answer) old new
  client_twice (Ok None) old mid new first second = goes_twice (Some []) false 0 old mid new first second
  client_twice (Ok (Some (Up k octets))) old mid new first second = goes_twice (Some []) false 0 old mid new first second
  client_twice (Ok (Some (UpEnd k))) old mid new first second = goes_twice (Some []) false 0 old mid new first second
  client_twice (Ok (Some (UpTook k count))) old mid new first second = goes_twice (Some []) false 0 old mid new first second
  client_twice (Ok (Some Drain)) old mid new first second = goes_twice (Some []) false 0 old mid new first second
  client_twice (Ok (Some (UpFailed k))) old mid new first second = goes_twice (Some []) false 0 old mid new first second
  client_twice (Ok (Some (Client octets))) old mid new first second = goes_twice (Some octets.items) false 0 old mid new first second
  client_twice (Ok (Some ClientEnd)) old mid new first second = goes_twice (Some []) true 0 old mid new first second
  client_twice (Ok (Some (ClientTook count))) old mid new first second = goes_twice (Some []) false count old mid new first second
  client_twice (Err fault) old mid new first second = goes_twice None false 0 old mid new first second

  -- ---- numbers

  same_numbers : (news : News) (us vs : List (Upstream S)) → AllGoOn left held news us vs → map (λ (u : Upstream S). u.k) vs ≡ map (λ (u : Upstream S). u.k) us
  same_numbers news [] vs all = ap (map (λ (u : Upstream S). u.k)) all
  same_numbers news (u ∷ us) [] all = absurd all
  same_numbers news (u ∷ us) (v ∷ vs) all = ap (λ k. k ∷ map (λ (w : Upstream S). w.k) vs) all.0.number ∙ ap (λ ks. u.k ∷ ks) (same_numbers news us vs all.1)

  -- the one behind these is taken away
  removed_behind : (before behind : List (Upstream S)) (u : Upstream S) → remove (before ++ u ∷ behind) (length before) ≡ before ++ behind
  removed_behind [] behind u = refl
  removed_behind (v ∷ before) behind u = ap (λ us. v ∷ us) (removed_behind before behind u)

  within_behind : (before behind : List (Upstream S)) (u : Upstream S) → length before < length (before ++ u ∷ behind)
  within_behind [] behind u = omega arith
  within_behind (v ∷ before) behind u = let below = within_behind before behind u in omega (arith, below)

  -- Numbers rise still where one connection less is open.
  less_rises : (k : ℕ) (all few : List (Upstream S)) → Opens (IsNumbered k) few all → AreRising all → AreRising few
  less_rises k all few opens up =
      subst AreRising (removed_behind opens.before opens.behind opens.opened ∙ sym opens.old_is)
      (rising_remove (opens.before ++ opens.opened ∷ opens.behind) (length opens.before) (within_behind opens.before opens.behind opens.opened) (subst AreRising opens.new_is up))

  numbers_with : (before behind : List (Upstream S)) (from to : Upstream S) → to.k ≡ from.k → map (λ (u : Upstream S). u.k) (before ++ to ∷ behind) ≡ map (λ (u : Upstream S). u.k) (before ++ from ∷ behind)
  numbers_with [] behind from to same = ap (λ k. k ∷ map (λ (w : Upstream S). w.k) behind) same
  numbers_with (v ∷ before) behind from to same = ap (λ ks. v.k ∷ ks) (numbers_with before behind from to same)

  -- They do where one changed that has its number still.
  changed_rises : (k : ℕ) (news : News) (us vs : List (Upstream S)) → Changes k (GoesOn left held news) us vs → AreRising us → AreRising vs
  changed_rises k news us vs changes up =
      rising_same us vs
      (ap (map (λ (u : Upstream S). u.k)) changes.new_is ∙ numbers_with changes.before changes.behind changes.from changes.to changes.so.number ∙ sym (ap (map (λ (u : Upstream S). u.k)) changes.old_is)) up

  all_rise : (news : News) (us vs : List (Upstream S)) → AllGoOn left held news us vs → AreRising us → AreRising vs
  all_rise news us vs all up = rising_same us vs (same_numbers news us vs all) up

  one_rises : (k : ℕ) (news : News) (us vs : List (Upstream S)) → OneGoesOn left held k news us vs → AreRising us → AreRising vs
  one_rises k news us vs one up = changed_rises k news one.mid vs one.one (all_rise no_news us one.mid one.all up)

  others_rise : (answer : Result (Option Event) WorldFault) (us vs : List (Upstream S)) → OthersGoOn left held answer us vs → AreRising us → AreRising vs
  others_rise (Ok None) us vs others up = all_rise no_news us vs others up
  others_rise (Ok (Some (Up k octets))) us vs others up = one_rises k (came_news octets.items) us vs others up
  others_rise (Ok (Some (UpEnd k))) us vs others up = one_rises k end_news us vs others up
  others_rise (Ok (Some (UpTook k count))) us vs others up = one_rises k (took_news count) us vs others up
  others_rise (Ok (Some Drain)) us vs others up = all_rise no_news us vs others up
  others_rise (Ok (Some (UpFailed k))) us vs others up = less_rises k others.mid vs others.one (all_rise no_news us others.mid others.all up)
  others_rise (Ok (Some (Client octets))) us vs others up = all_rise no_news us vs others up
  others_rise (Ok (Some ClientEnd)) us vs others up = all_rise no_news us vs others up
  others_rise (Ok (Some (ClientTook count))) us vs others up = all_rise no_news us vs others up
  others_rise (Err fault) us vs others up = all_rise lost_news us vs others up

  -- ---- what is left where the world looked for an event

  pub moves_rise : (answer : Result (Option Event) WorldFault) (c c' : Side S) (us vs : List (Upstream S)) → MovesOn left held answer c us c' vs → AreRising us → AreRising vs
  moves_rise answer c c' us vs moves up = others_rise answer us vs moves.others up

  pub moves_still : (c : Side S) (us : List (Upstream S)) → MovesOn left held (Ok None) c us c us
  moves_still c us = record { client_is = goes_still c; others = all_still us }

  -- Nothing that is seen of it changed between calls.
  pub steps_same : (answer : Result ⊤ WorldFault) (old new : Seen S) → new.client ≡ old.client → new.upstreams ≡ old.upstreams → new.addresses ≡ old.addresses → new.number ≡ old.number
      → Steps left held (Aside answer) old new
  steps_same answer old new client upstreams addresses number = record {
    moved = subst (λ us. MovesOn left held (Ok None) old.client old.upstreams new.client us) (sym upstreams)
        (subst (λ c. MovesOn left held (Ok None) old.client old.upstreams c old.upstreams) (sym client) (moves_still old.client old.upstreams));
    rising = λ up. subst (λ (us : List (Upstream S)). AreRising us) (sym upstreams) up;
    addresses = addresses;
    number = number;
  }

  -- Nothing was found, and then it looked on.
  pub moves_twice : (answer : Result (Option Event) WorldFault) (c c' c'' : Side S) (us vs ws : List (Upstream S)) → MovesOn left held (Ok None) c us c' vs → MovesOn left held answer c' vs c'' ws
      → MovesOn left held answer c us c'' ws
  moves_twice answer c c' c'' us vs ws first second =
      record { client_is = client_twice answer c c' c'' first.client_is second.client_is; others = others_twice answer us vs ws first.others second.others }

  -- A call failed behind that.
  pub moves_failed : (answer : Result (Option Event) WorldFault) (c c' : Side S) (us vs : List (Upstream S)) → IsErr answer → MovesOn left held (Ok None) c us c' vs → MovesOn left held answer c us c' vs
  moves_failed (Ok event) c c' us vs failed moves = absurd (let no : false ≡ true = failed in cc)
  moves_failed (Err fault) c c' us vs failed moves = record { client_is = goes_lost c c' moves.client_is; others = all_lost us vs moves.others }

  -- It is told on that a call failed.
  pub moves_lost : (answer : Result (Option Event) WorldFault) (c c' : Side S) (us vs : List (Upstream S)) → IsErr answer → Goes left held lost_news c c' → AllGoOn left held lost_news us vs
      → MovesOn left held answer c us c' vs
  moves_lost (Ok event) c c' us vs failed goes all = absurd (let no : false ≡ true = failed in cc)
  moves_lost (Err fault) c c' us vs failed goes all = record { client_is = goes; others = all }

  -- That a call failed is told on, behind what was there.
  pub moves_on : (answer : Result (Option Event) WorldFault) (fault : WorldFault) (c c' c'' : Side S) (us vs ws : List (Upstream S)) → IsErr answer → MovesOn left held (Ok None) c us c' vs
      → MovesOn left held (Err fault) c' vs c'' ws → MovesOn left held answer c us c'' ws
  moves_on answer fault c c' c'' us vs ws failed first second =
      let all = moves_twice (Err fault) c c' c'' us vs ws first second in
      moves_lost answer c c'' us ws failed all.client_is all.others

  -- No event was found.
  pub moves_quiet : (event : Option Event) (c c' : Side S) (us vs : List (Upstream S)) → event ≡ None → MovesOn left held (Ok event) c us c' vs → MovesOn left held (Ok None) c us c' vs
  moves_quiet event c c' us vs none moves = subst (λ e. MovesOn left held (Ok e) c us c' vs) none moves

  -- The client's socket alone moved.
  pub client_moves : (c c' : Side S) (us : List (Upstream S)) → Goes left held no_news c c' → MovesOn left held (Ok None) c us c' us
  client_moves c c' us goes = record { client_is = goes; others = all_still us }

  -- ---- a read of an upstream

  one_moved : (k j : ℕ) (news : News) (us ws : List (Upstream S)) (i : ℕ) (u old : Upstream S) → j ≡ k → i < length us → (get_or us i old).k ≡ k → GoesOn left held news (get_or us i old) u → ws ≡ set us i u
      → OneGoesOn left held j news us ws
  one_moved k j news us ws i u old is within number goes same =
      record { mid = us; all = all_still us; one = subst (Changes j (GoesOn left held news) us) (sym same) (one_changed (GoesOn left held news) us i j old u within (number ∙ sym is) goes) }

  read_others : (event : Option Event) (us ws : List (Upstream S)) (i k : ℕ) (u old : Upstream S) → IfSome event (IsOf k) → i < length us → (get_or us i old).k ≡ k → GoesBy left held event (get_or us i old) u
      → (is_failed event ≡ false → ws ≡ set us i u) → (is_failed event ≡ true → ws ≡ remove (set us i u) i) → OthersGoOn left held (Ok event) us ws
  read_others None us ws i k u old is within number goes stays leaves = subst (AllGoOn left held no_news us) (sym (stays refl)) (one_goes_on no_news on_still us i old u within goes)
  read_others (Some (Up j octets)) us ws i k u old is within number goes stays leaves = one_moved k j (came_news octets.items) us ws i u old is within number goes (stays refl)
  read_others (Some (UpEnd j)) us ws i k u old is within number goes stays leaves = one_moved k j end_news us ws i u old is within number goes (stays refl)
  read_others (Some (UpFailed j)) us ws i k u old is within number goes stays leaves =
      record {
        mid = us;
        all = all_still us;
        one = subst (λ few. Opens (IsNumbered j) few us) (sym (leaves refl ∙ set_removed us i u)) (one_fewer us i j old within (number ∙ sym is));
      }
  read_others (Some (UpTook j count)) us ws i k u old is within number goes stays leaves = absurd is
  read_others (Some Drain) us ws i k u old is within number goes stays leaves = absurd is
  read_others (Some (Client octets)) us ws i k u old is within number goes stays leaves = absurd is
  read_others (Some ClientEnd) us ws i k u old is within number goes stays leaves = absurd is
  read_others (Some (ClientTook count)) us ws i k u old is within number goes stays leaves = absurd is

  read_client_is : (event : Option Event) (k : ℕ) (c : Side S) → IfSome event (IsOf k) → Goes left held (client_told (Ok event)) c c
  read_client_is None k c is = goes_still c
  read_client_is (Some (Up j octets)) k c is = goes_still c
  read_client_is (Some (UpEnd j)) k c is = goes_still c
  read_client_is (Some (UpFailed j)) k c is = goes_still c
  read_client_is (Some (UpTook j count)) k c is = absurd is
  read_client_is (Some Drain) k c is = absurd is
  read_client_is (Some (Client octets)) k c is = absurd is
  read_client_is (Some ClientEnd) k c is = absurd is
  read_client_is (Some (ClientTook count)) k c is = absurd is

  -- The connection at a place was read, and stays but where it failed.
  pub moves_read : (event : Option Event) (c : Side S) (us ws : List (Upstream S)) (i k : ℕ) (u old : Upstream S) → IfSome event (IsOf k) → i < length us → (get_or us i old).k ≡ k
      → GoesBy left held event (get_or us i old) u → (is_failed event ≡ false → ws ≡ set us i u) → (is_failed event ≡ true → ws ≡ remove (set us i u) i) → MovesOn left held (Ok event) c us c ws
  moves_read event c us ws i k u old is within number goes stays leaves =
      record { client_is = read_client_is event k c is; others = read_others event us ws i k u old is within number goes stays leaves }

  -- None were taken.
  pub moves_untold : (count : ℕ) (c : Side S) (us : List (Upstream S)) (i : ℕ) (u old : Upstream S) → count ≤ 0 → i < length us → GoesOn left held (took_news count) (get_or us i old) u
      → MovesOn left held (Ok None) c us c (set us i u)
  moves_untold count c us i u old none within goes =
      record { client_is = goes_still c; others = one_goes_on no_news on_still us i old u within (subst (λ n. GoesOn left held (took_news n) (get_or us i old) u) (none_counted count none) goes) }

  -- The connection at a place is told of how many octets it took.
  pub moves_told : (count : ℕ) (c : Side S) (us : List (Upstream S)) (i k : ℕ) (u old : Upstream S) → i < length us → (get_or us i old).k ≡ k → GoesOn left held (took_news count) (get_or us i old) u
      → MovesOn left held (Ok (Some (UpTook k count))) c us c (set us i u)
  moves_told count c us i k u old within number goes =
      record { client_is = goes_still c; others = one_moved k k (took_news count) us (set us i u) i u old refl within number goes refl }

-- A test that finds nothing says that there is nothing.
pub none_there : {A : Type 0} (k : Option A) → is_some k ≡ false → k ≡ None
none_there None is = refl
none_there (Some k) is = absurd (let no : true ≡ false = is in cc)
