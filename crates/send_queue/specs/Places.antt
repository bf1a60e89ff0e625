-- Streams that are kept, in the order of their ids.
use Rattle.std.specs.Prelude.{◌≡◌, ℕ, ◌+◌, ◌<◌, ◌≤◌, ◌&&◌, not, Bool, true, false, cond, nat_lt, List, [], ◌∷◌, ◌++◌, length, take, drop, slice_index_or}
use Rattle.std.specs.List.{list_all, count_by, AllByRecursion}
use Rattle.theory_responses.specs.Outbox.{can_go}
use Rattle.theory_responses.specs.State.{Kept, blank}
use Rattle.send_queue.specs.declared.offered.Offered.{Offered}

-- the stream at a place
abbrev pub at : List Kept → ℕ → Kept
at ks place = slice_index_or ks place (blank 0)

-- an id is below those of all
abbrev pub is_below_all : ℕ → List Kept → Bool
is_below_all id ks = list_all (λ (k : Kept). nat_lt id k.id) ks

-- The ids rise: each is below those of the streams behind it.
abbrev pub AreRising : List Kept → Type 0
AreRising [] = Unit {0}
AreRising (k ∷ ks) = (is_below_all k.id ks ≡ true) × AreRising ks

-- The stream at this place has the id.
pub record IsAt (ks : List Kept) (id place : ℕ) : Type 0 where
  pub within : place < length ks
  pub has_id : (at ks place).id ≡ id

-- The ids up to this place aren't above one, and those from it on are.
pub record IsSplit (ks : List Kept) (last place : ℕ) : Type 0 where
  pub within : place ≤ length ks
  pub upto : AllByRecursion (λ (k : Kept). k.id ≤ last) (take place ks)
  pub above : AllByRecursion (λ (k : Kept). last < k.id) (drop place ks)

-- The ids before this place are below one, and those from it on aren't.
pub record IsSplitBelow (ks : List Kept) (least place : ℕ) : Type 0 where
  pub within : place ≤ length ks
  pub below : AllByRecursion (λ (k : Kept). k.id < least) (take place ks)
  pub from : AllByRecursion (λ (k : Kept). least ≤ k.id) (drop place ks)

-- ---- which have something on offer

-- something of the stream can go where its windows are open
abbrev pub is_offered : Kept → Bool
is_offered k = not k.cut && can_go true k.box

-- The id is one of those that are told.
pub record IsAmong (offered : Offered) (id : ℕ) : Type 0 where
  pub from : offered.low ≤ id
  pub upto : id ≤ offered.high

-- So many streams have something on offer, and their ids are told.
pub record AreTold (offered : Offered) (ks : List Kept) : Type 0 where
  pub counted : offered.count ≡ count_by is_offered ks
  pub among : (place : ℕ) → place < length ks → is_offered (at ks place) ≡ true → IsAmong offered (at ks place).id

-- One stream had something on offer, or nothing, and has something, or nothing; of the others what was told still is.
pub record IsToldBehind (old : Offered) (id : ℕ) (had has : Bool) (new : Offered) : Type 0 where
  pub counted : new.count + cond had 1 0 ≡ old.count + cond has 1 0
  pub others : 0 < old.count → (other : ℕ) → IsAmong old other → IsAmong new other
  pub added : has ≡ true → IsAmong new id

-- These are some of the streams, and nothing is on offer for those before and behind them.
pub record AreAllOffered (ks some : List Kept) : Type 0 where
  pub before : List Kept
  pub behind : List Kept
  pub is : ks ≡ before ++ (some ++ behind)
  pub none_before : AllByRecursion (λ (k : Kept). is_offered k ≡ false) before
  pub none_behind : AllByRecursion (λ (k : Kept). is_offered k ≡ false) behind

-- What holds of the streams, and of what is told of those with something on offer.
pub record AreSound (ks : List Kept) (offered : Offered) : Type 0 where
  pub rising : AreRising ks
  pub told : AreTold offered ks
