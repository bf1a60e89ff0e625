-- Where requests are passed on whole, all that is held waits, where moves led; and the numbers of open connections fall.
use Rattle.std.proofs.Common.{◌≡◌, ℕ, suc, ◌<◌, ◌≤◌, Bool, true, false, ◌||◌, ◌==◌, List, [], ◌∷◌, ◌++◌, map, Option, Some, None, refl, sym, ◌∙◌, ap, subst, if◌then◌else◌, arith}
use Rattle.model.specs.Setup.{Setup, Passing}
use Rattle.model.specs.Setup.Passing.{Whole as WholePassing}
use Rattle.model.specs.Logs.Act.{Open, ToUp, Close, CloseClient}
use Rattle.model.specs.Courses.{upstream_of}
use Rattle.h1_writer.specs.Sending.{Stage}
use Rattle.theory_requests.specs.Written.{octets_of}
use Rattle.theory_requests.specs.Told.{Told}
use Rattle.theory_requests.specs.Lines.{Answer, Line, k_of, without, with_answer, answer_by, idle_beside, lines_given, least_idle}
use Rattle.theory_requests.specs.State.{Way, Held, Due, State, Move, Turn, id_of, held_of, kept, with_way, held_at, held_with, goes_now, is_streaming, is_whole, drop_from, dropped, held_opened, held_used, lines_used, live_after, to_send, to_open, due_opened, count_after, after, state_of}
use Rattle.theory_requests.specs.State.Way.{Waiting, Going, Dropped}
use Rattle.theory_requests.specs.State.Due.{Nothing, ToOpen, ToUse, ToSend}
use Rattle.theory_requests.specs.State.Move.{Takes, Begins, Gathers, Passes, Drops, Breaks, Notes, Hears, Fails, Sends, Acts}
use Rattle.theory_requests.specs.Rule.{MayOpen, MayMove, told_of, AreAllowed}
use Rattle.upstream_connections.specs.Connections.{Connection, lives, AreBelow}
use Rattle.theory.specs.Moves.{Move as PolicyMove}
use Rattle.theory.specs.State as theory
use Rattle.theory.specs.State.{turns_of}
use Rattle.theory.specs.Steps.{Stands}
use Rattle.theory.proofs.Placing.{turns_may}

-- ---- what is held waits

-- the way of a request that waits
abbrev pub IsWaiting : Way → Type 0
IsWaiting (Waiting route text stage body) = Unit {0}
IsWaiting way = ⊥

abbrev pub AreWaiting : List Held → Type 0
AreWaiting [] = Unit {0}
AreWaiting (h ∷ hs) = IsWaiting h.way × AreWaiting hs

-- a connection, a new one or an idle one, is due for a whole text
abbrev pub IsWholeDue : Due → Type 0
IsWholeDue (ToOpen stream route text stage) = is_whole stage ≡ true
IsWholeDue (ToUse k stream text stage) = is_whole stage ≡ true
IsWholeDue due = Unit {0}

-- some go
kept_wait : (told : Told) (hs : List Held) → AreWaiting hs → AreWaiting (kept told hs)
kept_wait told [] are = tt
kept_wait told (h ∷ hs) are = by (told.served h.id) (kept_wait told hs are.1)
  where
    by : (b : Bool) → AreWaiting (kept told hs) → AreWaiting (if b then h ∷ kept told hs else kept told hs)
    by true rest = (are.0, rest)
    by false rest = rest

without_wait : (id : ℕ) (hs : List Held) → AreWaiting hs → AreWaiting (without id_of id hs)
without_wait id [] are = tt
without_wait id (h ∷ hs) are = by (h.id == id) (without_wait id hs are.1)
  where
    by : (b : Bool) → AreWaiting (without id_of id hs) → AreWaiting (if b then without id_of id hs else h ∷ without id_of id hs)
    by true rest = rest
    by false rest = (are.0, rest)

-- what waits isn't dropped with a connection
pub drop_none : (k : ℕ) (hs : List Held) → AreWaiting hs → map (drop_from k) hs ≡ hs
drop_none k [] are = refl
drop_none k (h ∷ hs) are = ap (λ (x : Held). x ∷ map (drop_from k) hs) (one h.way refl are.0) ∙ ap (λ (xs : List Held). h ∷ xs) (drop_none k hs are.1)
  where
    one : (way : Way) → h.way ≡ way → IsWaiting h.way → drop_from k h ≡ h
    one (Waiting route text stage body) is waits = ap (λ (w : Way). record { id = h.id; way = dropped k w }) is ∙ ap (λ (w : Way). record { id = h.id; way = w }) (sym is)
    one (Going j stage) is waits = absurd (subst IsWaiting is waits)
    one Dropped is waits = absurd (subst IsWaiting is waits)

-- one waits now, in its place or before the others
changed_wait : (id : ℕ) (way : Way) (hs : List Held) → IsWaiting way → AreWaiting hs → AreWaiting (map (with_way id way) hs)
changed_wait id way [] waits are = tt
changed_wait id way (h ∷ hs) waits are = (by (h.id == id), changed_wait id way hs waits are.1)
  where
    by : (b : Bool) → IsWaiting (if b then way else h.way)
    by true = waits
    by false = are.0

with_wait : (id : ℕ) (way : Way) (hs : List Held) → IsWaiting way → AreWaiting hs → AreWaiting (held_with id (Some way) hs)
with_wait id way hs waits are = by (held_of id hs)
  where
    by : (o : Option Held) → AreWaiting (held_at id way o hs)
    by None = (waits, are)
    by (Some h) = changed_wait id way hs waits are

-- it waits, or isn't held any more
either_waits : (b : Bool) (id : ℕ) (way : Way) (hs : List Held) → IsWaiting way → AreWaiting hs → AreWaiting (held_with id (if b then None else Some way) hs)
either_waits true id way hs waits are = without_wait id hs are
either_waits false id way hs waits are = with_wait id way hs waits are

-- what is found waits
pub found_waits : (id : ℕ) (hs : List Held) (h : Held) → AreWaiting hs → held_of id hs ≡ Some h → IsWaiting h.way
found_waits id [] h are is = cc
found_waits id (x ∷ hs) h are is = by (x.id == id) is (λ rest. found_waits id hs h are.1 rest)
  where
    by : (b : Bool) → (if b then Some x else held_of id hs) ≡ Some h → (held_of id hs ≡ Some h → IsWaiting h.way) → IsWaiting h.way
    by true is more = let same : x ≡ h = cc in subst (λ (y : Held). IsWaiting y.way) same are.0
    by false is more = more is

-- a whole text is due, or none
whole_due : (goes : Bool) (idle : Option ℕ) (stream route : ℕ) (text : List ℕ) (stage : Stage) → goes ≡ is_whole stage → IsWholeDue (to_open goes idle stream route text stage)
whole_due true None stream route text stage same = sym same
whole_due true (Some k) stream route text stage same = sym same
whole_due false idle stream route text stage same = tt

sent_due : (k : ℕ) (written : List ℕ) → IsWholeDue (to_send k written)
sent_due k [] = tt
sent_due k (octet ∷ octets) = tt

-- ---- numbers fall

-- numbers of open connections, the newest first, fall from below this one
abbrev pub AreFalling : ℕ → List Line → Type 0
AreFalling top [] = Unit {0}
AreFalling top (l ∷ ls) = (l.k < top) × AreFalling l.k ls

falling_from : (low top : ℕ) (ls : List Line) → low ≤ top → AreFalling low ls → AreFalling top ls
falling_from low top [] le fall = tt
falling_from low top (l ∷ ls) le fall = (let first = fall.0 in omega (arith, le, first), fall.1)

falling_without : (k top : ℕ) (ls : List Line) → AreFalling top ls → AreFalling top (without k_of k ls)
falling_without k top [] fall = tt
falling_without k top (l ∷ ls) fall = by (l.k == k) (falling_without k l.k ls fall.1)
  where
    by : (b : Bool) → AreFalling l.k (without k_of k ls) → AreFalling top (if b then without k_of k ls else l ∷ without k_of k ls)
    by true rest = falling_from l.k top (without k_of k ls) (let first = fall.0 in omega (arith, first)) rest
    by false rest = (fall.0, rest)

falling_answered : (k : ℕ) (answer : Answer) (top : ℕ) (ls : List Line) → AreFalling top ls → AreFalling top (map (with_answer k answer) ls)
falling_answered k answer top [] fall = tt
falling_answered k answer top (l ∷ ls) fall = (fall.0, falling_answered k answer l.k ls fall.1)

falling_given : (k stream top : ℕ) (ls : List Line) → AreFalling top ls → AreFalling top (lines_given k stream ls)
falling_given k stream top [] fall = tt
falling_given k stream top (l ∷ ls) fall = (fall.0, falling_given k stream l.k ls fall.1)

-- whatever is due, where octets go out
falling_used : (due : Due) (top : ℕ) (ls : List Line) → AreFalling top ls → AreFalling top (lines_used due ls)
falling_used Nothing top ls fall = fall
falling_used (ToOpen stream route text stage) top ls fall = fall
falling_used (ToUse k stream text stage) top ls fall = falling_given k stream top ls fall
falling_used (ToSend k text) top ls fall = fall

-- they fall behind each move, however requests are passed on
fall_behind : (setup : Setup) (before behind : Told) (s : State) → AreFalling (suc s.count) s.live → (m : Move) → MayMove setup before behind s m → AreFalling (suc (count_after s.count m)) (live_after setup s.live s.due m)
fall_behind setup before behind s fall (Takes noted) may = fall
fall_behind setup before behind s fall (Begins noted head ended route text stage) may = fall
fall_behind setup before behind s fall (Gathers noted item route text old body written stage) may = fall
fall_behind setup before behind s fall (Passes noted item k old written stage) may = fall
fall_behind setup before behind s fall (Drops noted item) may = fall
fall_behind setup before behind s fall (Breaks breach) may = fall
fall_behind setup before behind s fall (Notes event) may = fall
fall_behind setup before behind s fall (Hears event heard) may = falling_answered (upstream_of event) (answer_by setup.most_idle (idle_beside (upstream_of event) s.live) heard) (suc s.count) s.live fall
fall_behind setup before behind s fall (Fails k) may = falling_without k (suc s.count) s.live fall
fall_behind setup before behind s fall (Sends noted) may = fall
fall_behind setup before behind s fall (Acts (Open k route)) may = (let next = may.next in omega (arith, next), subst (λ n. AreFalling n s.live) (sym may.next) fall)
fall_behind setup before behind s fall (Acts (ToUp k octets)) may = falling_used s.due (suc s.count) s.live fall
fall_behind setup before behind s fall (Acts (Close k)) may = falling_without k (suc s.count) s.live fall
fall_behind setup before behind s fall (Acts CloseClient) may = fall

turns_fall : (setup : Setup) (turns : List Turn) → AreAllowed setup turns → AreFalling (suc (state_of setup turns).count) (state_of setup turns).live
turns_fall setup [] all = tt
turns_fall setup (turn ∷ turns) all = fall_behind setup (told_of turns) turn.told (state_of setup turns) (turns_fall setup turns all.0) turn.move all.1.may

-- where moves led
pub numbers_fall : (setup : Setup) (run : List PolicyMove) (s : theory.State) → Stands setup run s → AreFalling (suc s.requests.count) s.requests.live
numbers_fall setup run s stands = subst (λ (x : theory.State). AreFalling (suc x.requests.count) x.requests.live) stands.is (turns_fall setup (turns_of setup run) (turns_may setup run stands.allowed))

-- ---- behind each move

record Holds (setup : Setup) (s : State) : Type 0 where
  pub waiting : AreWaiting s.held
  pub due : IsWholeDue s.due

module _ (setup : Setup) (whole : setup.passing ≡ WholePassing) where
  goes_whole : (stage : Stage) → goes_now setup stage ≡ is_whole stage
  goes_whole stage = ap (λ (p : Passing). is_streaming p || is_whole stage) whole

  module _ (before behind : Told) (s : State) (h : Holds setup s) where
    opened : (k route : ℕ) → MayOpen s k route → Holds setup (after setup behind s (Acts (Open k route)))
    opened k route may = record {
      waiting = subst (λ (d : Due). AreWaiting (held_opened d k s.held)) (sym may.due) (subst (λ b. AreWaiting (held_with may.stream (if b then None else Some (Going k may.stage)) s.held)) (sym (subst IsWholeDue may.due h.due)) (without_wait may.stream s.held h.waiting));
      due = subst (λ (d : Due). IsWholeDue (due_opened d k)) (sym may.due) tt;
    }

    -- nothing is held any more of a stream that an idle connection is given to
    used : (due : Due) → IsWholeDue due → AreWaiting (held_used due s.held)
    used Nothing is = h.waiting
    used (ToOpen stream route text stage) is = h.waiting
    used (ToUse k stream text stage) is = subst (λ b. AreWaiting (held_with stream (if b then None else Some (Going k stage)) s.held)) (sym is) (without_wait stream s.held h.waiting)
    used (ToSend k text) is = h.waiting

    hold_behind : (m : Move) → MayMove setup before behind s m → Holds setup (after setup behind s m)
    hold_behind (Takes noted) may = record { waiting = kept_wait behind s.held h.waiting; due = h.due }
    hold_behind (Begins noted head ended route text stage) may = record {
      waiting = either_waits (goes_now setup stage) noted.frame.id (Waiting route text stage []) s.held tt h.waiting;
      due = whole_due (goes_now setup stage) (least_idle route s.live) noted.frame.id route text stage (goes_whole stage);
    }
    hold_behind (Gathers noted item route text old body written stage) may = record {
      waiting = either_waits (is_whole stage) noted.frame.id (Waiting route text stage (body ++ octets_of item)) s.held tt h.waiting;
      due = whole_due (is_whole stage) (least_idle route s.live) noted.frame.id route (text ++ written) stage refl;
    }
    hold_behind (Passes noted item k old written stage) may = absurd (found_waits noted.frame.id s.held (record { id = noted.frame.id; way = Going k old }) h.waiting may.1.found)
    hold_behind (Drops noted item) may = record { waiting = h.waiting; due = h.due }
    hold_behind (Breaks breach) may = record { waiting = h.waiting; due = h.due }
    hold_behind (Notes event) may = record { waiting = h.waiting; due = h.due }
    hold_behind (Hears event heard) may = record { waiting = kept_wait behind s.held h.waiting; due = h.due }
    hold_behind (Fails k) may = record { waiting = subst (λ (hs : List Held). AreWaiting (kept behind hs)) (sym (drop_none k s.held h.waiting)) (kept_wait behind s.held h.waiting); due = h.due }
    hold_behind (Sends noted) may = record { waiting = kept_wait behind s.held h.waiting; due = h.due }
    hold_behind (Acts (Open k route)) may = opened k route may
    hold_behind (Acts (ToUp k octets)) may = record { waiting = used s.due h.due; due = tt }
    hold_behind (Acts (Close k)) may = record { waiting = subst AreWaiting (sym (drop_none k s.held h.waiting)) h.waiting; due = h.due }
    hold_behind (Acts CloseClient) may = record { waiting = tt; due = h.due }

  all_hold : (turns : List Turn) → AreAllowed setup turns → Holds setup (state_of setup turns)
  all_hold [] all = record { waiting = tt; due = tt }
  all_hold (turn ∷ turns) all = hold_behind (told_of turns) turn.told (state_of setup turns) (all_hold turns all.0) turn.move all.1.may

  -- where moves led
  state_holds : (run : List PolicyMove) (s : theory.State) → Stands setup run s → Holds setup s.requests
  state_holds run s stands = subst (λ (x : theory.State). Holds setup x.requests) stands.is (all_hold (turns_of setup run) (turns_may setup run stands.allowed))

  pub all_wait : (run : List PolicyMove) (s : theory.State) → Stands setup run s → AreWaiting s.requests.held
  all_wait run s stands = (state_holds run s stands).waiting

  pub all_due : (run : List PolicyMove) (s : theory.State) → Stands setup run s → IsWholeDue s.requests.due
  all_due run s stands = (state_holds run s stands).due

  pub all_fall : (run : List PolicyMove) (s : theory.State) → Stands setup run s → AreFalling (suc s.requests.count) s.requests.live
  all_fall run s stands = numbers_fall setup run s stands

-- numbers of connections fall as those of the rule do
pub falling_below : (top : ℕ) (cs : List Connection) → AreFalling top (lives cs) → AreBelow top cs
falling_below top [] fall = tt
falling_below top (c ∷ cs) fall = (fall.0, falling_below c.live.k cs fall.1)
