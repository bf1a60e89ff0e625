-- The last frame's stream stays one whose connection no other was given since, where a connection is opened for it or given to it, or octets are put out.
use Rattle.std.proofs.Common.{◌≡◌, ℕ, Bool, true, false, ◌==◌, if◌then◌else◌, List, [], ◌∷◌, ◌++◌, Some, None, refl, sym, ◌∙◌, ap}
use Rattle.model.specs.Setup.{Setup, Passing}
use Rattle.model.specs.Setup.Passing.{Whole, Streaming}
use Rattle.theory_errors.specs.Book.{Book}
use Rattle.theory_errors.proofs.Knowing.{known_so}
use Rattle.theory_errors.specs.Rule.{known_of}
use Rattle.h1_writer.specs.Sending.{Stage}
use Rattle.window_credit.specs.Sides.{Side, find, change, opened, passing, putting, is_past, is_past_if}
use Rattle.theory.specs.Moves.{Move}
use Rattle.theory.specs.State.{State, conducts}
use Rattle.refinement.specs.View.{View, Leads}
use Rattle.refinement.proofs.Used as used
use Rattle.refinement.proofs.Where.{right_here}
use Rattle.event_handlers.specs.exchanges.Opening.{with_side, with_side_over}

-- octets that are put out leave it
pub past_put : (id stream count : ℕ) (sides : List Side) → is_past id (change stream (putting count) sides) ≡ is_past id sides
past_put id stream count [] = refl
past_put id stream count (side ∷ sides) = by (side.id == stream) (past_put id stream count sides)
  where
    own : (b : Bool) → is_past_if (if b then Some (putting count side) else find id sides) ≡ is_past_if (if b then Some side else find id sides)
    own true = refl
    own false = refl

    other : (b : Bool) → is_past id (change stream (putting count) sides) ≡ is_past id sides → is_past_if (if b then Some side else find id (change stream (putting count) sides)) ≡ is_past_if (if b then Some side else find id sides)
    other true same = refl
    other false same = same

    by : (b : Bool) → is_past id (change stream (putting count) sides) ≡ is_past id sides → is_past id (if b then putting count side ∷ sides else side ∷ change stream (putting count) sides) ≡ is_past id (side ∷ sides)
    by true same = own (side.id == id)
    by false same = other (side.id == id) same

-- so does a stream more that is given a connection
past_more : (id stream k out took : ℕ) (sides : List Side) → is_past id sides ≡ false → is_past id (sides ++ opened stream k out took ∷ []) ≡ false
past_more id stream k out took [] was = by (stream == id)
  where
    by : (b : Bool) → is_past_if (if b then Some (opened stream k out took) else None) ≡ false
    by true = refl
    by false = refl
past_more id stream k out took (side ∷ sides) was = by (side.id == id) was (past_more id stream k out took sides)
  where
    by : (b : Bool) → is_past_if (if b then Some side else find id sides) ≡ false → (is_past id sides ≡ false → is_past id (sides ++ opened stream k out took ∷ []) ≡ false)
        → is_past_if (if b then Some side else find id (sides ++ opened stream k out took ∷ [])) ≡ false
    by true was more = was
    by false was more = more was

-- a stream of which nothing is kept isn't kept where another's connection goes over
none_passed : (id from : ℕ) (sides : List Side) → find id sides ≡ None → find id (change from passing sides) ≡ None
none_passed id from [] none = refl
none_passed id from (side ∷ sides) none = by (side.id == from) (none_passed id from sides)
  where
    own : (b : Bool) → (if b then Some side else find id sides) ≡ None → (if b then Some (passing side) else find id sides) ≡ None
    own true none = cc
    own false none = none

    other : (b : Bool) → (if b then Some side else find id sides) ≡ None → (find id sides ≡ None → find id (change from passing sides) ≡ None) → (if b then Some side else find id (change from passing sides)) ≡ None
    other true none rest = cc
    other false none rest = rest none

    by : (b : Bool) → (find id sides ≡ None → find id (change from passing sides) ≡ None) → find id (if b then passing side ∷ sides else side ∷ change from passing sides) ≡ None
    by true rest = own (side.id == id) none
    by false rest = other (side.id == id) none rest

-- ---- a connection is opened for a stream, or goes over to it

pub past_opened : (way : Passing) (id stream k count : ℕ) (sides : List Side) → is_past id sides ≡ false → is_past id (with_side way stream k count sides) ≡ false
past_opened Whole id stream k count sides was = was
past_opened Streaming id stream k count sides was = past_put id stream count (sides ++ opened stream k 0 0 ∷ []) ∙ past_more id stream k 0 0 sides was

pub past_over : (way : Passing) (id from stream k out took : ℕ) (sides : List Side) → find id sides ≡ None → is_past id (with_side_over way from stream k out took sides) ≡ false
past_over Whole id from stream k out took sides none = ap is_past_if none
past_over Streaming id from stream k out took sides none = past_more id stream k out took (change from passing sides) (ap is_past_if (none_passed id from sides none))

-- Nothing is kept of the last frame's stream where a connection is to be given to it.
pub last_unmarked : (setup : Setup) (kept : View) (fresh_octets back k stream : ℕ) (text : List ℕ) (stage : Stage) (run : List Move) (s : State) → Leads setup run kept (used.due_before setup kept fresh_octets back k stream text stage) s → find kept.inbound.last kept.marks ≡ None
last_unmarked setup kept fresh_octets back k stream text stage run s leads =
    ap (λ n. find n kept.marks) (ap (λ (b : Book). b.last) (sym leads.keeps.book) ∙ (right_here setup run s leads.stands leads.so).last ∙ (used.due_for setup kept fresh_octets back k stream text stage run s leads (known_of setup (conducts run)) refl (known_so setup (conducts run))).1.last)
    ∙ used.none_marked setup kept fresh_octets back k stream text stage run s leads
