-- Behind each mark of each stream wait some octets: what changes keep it so, and that then no stream has more marks than octets that wait.
use Rattle.std.proofs.Common.{◌≡◌, ℕ, zero, suc, ◌<◌, ◌≤◌, ◌==◌, if◌then◌else◌, Bool, true, false, List, [], ◌∷◌, ◌++◌, length, set, sym, subst}
use Rattle.std.specs.Prelude.{Some, Result, Ok, Err, OnOk, OnErr}
use Rattle.theory_receive_windows.specs.Marks.{total}
use Rattle.window_credit.specs.Counts.{AreSome}
use Rattle.window_credit.proofs.CountedInQueue.{few, pushed_some, popped_some}
use Rattle.window_credit.specs.Sides.{Side, find, without, taking, waiting, queue_if, queue_of, waits_on, taking_behind}
use Rattle.window_credit.specs.Places.{at, AllAreSome}

-- ---- what is so of one stream

pub some_at : (sides : List Side) (place : ℕ) → AllAreSome sides → AreSome (at sides place).queue
some_at [] zero all = tt
some_at [] (suc place) all = tt
some_at (side ∷ sides) zero all = all.0
some_at (side ∷ sides) (suc place) all = some_at sides place all.1

some_found : (id : ℕ) (sides : List Side) → AllAreSome sides → AreSome (queue_of id sides)
some_found id [] all = tt
some_found id (side ∷ sides) all = by (side.id == id) (some_found id sides all.1)
  where
    by : (b : Bool) → AreSome (queue_if (find id sides)) → AreSome (queue_if (if b then Some side else find id sides))
    by true rest = all.0
    by false rest = rest

-- it has no more marks than octets that wait
pub few_of : (id : ℕ) (sides : List Side) → AllAreSome sides → length (queue_of id sides) ≤ total (queue_of id sides)
few_of id sides all = few (queue_of id sides) (some_found id sides all)

-- one of which more octets wait, or for which memory was refused
pub some_more_wait : {X E : Type 0} (count : ℕ) (old new : Side) (r : Result X E) → 0 < count → AreSome old.queue → OnOk r (new ≡ waiting count old) → OnErr r (new ≡ old) → AreSome new.queue
some_more_wait count old new (Ok x) one some added unchanged = subst (λ (s : Side). AreSome s.queue) (sym added) (pushed_some old.out count old.queue some one)
some_more_wait count old new (Err e) one some added unchanged = subst (λ (s : Side). AreSome s.queue) (sym unchanged) some

-- ---- what is so of all

-- another is in a place
pub some_set : (sides : List Side) (place : ℕ) (new : Side) → AllAreSome sides → AreSome new.queue → AllAreSome (set sides place new)
some_set [] zero new all some = tt
some_set [] (suc place) new all some = tt
some_set (side ∷ sides) zero new all some = (some, all.1)
some_set (side ∷ sides) (suc place) new all some = (all.0, some_set sides place new all.1 some)

-- one goes
pub some_without : (id : ℕ) (sides : List Side) → AllAreSome sides → AllAreSome (without id sides)
some_without id [] all = tt
some_without id (side ∷ sides) all = by (side.id == id) (some_without id sides all.1)
  where
    by : (b : Bool) → AllAreSome (without id sides) → AllAreSome (if b then without id sides else side ∷ without id sides)
    by true rest = rest
    by false rest = (all.0, rest)

-- one joins
pub some_joined : (last : Side) (sides : List Side) → AreSome last.queue → AllAreSome sides → AllAreSome (sides ++ last ∷ [])
some_joined last [] some all = (some, tt)
some_joined last (side ∷ sides) some all = (all.0, some_joined last sides some all.1)

-- so many octets of a connection are taken by now
pub some_taken : (k taken : ℕ) (sides : List Side) → AllAreSome sides → AllAreSome (taking_behind k taken sides)
some_taken k taken [] all = tt
some_taken k taken (side ∷ sides) all = (by (waits_on k side), some_taken k taken sides all.1)
  where
    by : (b : Bool) → AreSome (if b then taking taken side else side).queue
    by true = popped_some taken side.queue all.0
    by false = all.0
