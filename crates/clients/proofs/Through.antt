-- A world that moves as one inside it does: along which calls it moved, that one did, and the other way round.
use Rattle.std.proofs.Common.{◌≡◌, ◌∷◌, ℕ, List, [], Bool, Result, sym, ap, subst}
use Rattle.model.specs.Setup.{Setup}
use Rattle.gateway.specs.Stands.{Standing}
use Rattle.driver.specs.Calls.{Call, Along, Moves, Runs, WasServed}
use Rattle.driver.specs.declared.services.ServiceEnd.{ServiceEnd}
use Rattle.driver.specs.declared.services.ServeFault.{ServeFault}

module _ {W V : Type 0} (moves : W → Call → W → Type 0) (hears : W → Type 0) (could_read : W → ℕ → Bool) (heard_at looks : W → ℕ) (inner : V → W) where
  abbrev Goes : Type 0 → W → Call → W → Type 0
  Goes first = Moves moves hears could_read heard_at looks first

  abbrev GoesThrough : Type 0 → V → Call → V → Type 0
  GoesThrough first = Moves (λ old call new. moves (inner old) call (inner new)) (λ v. hears (inner v)) (λ v. could_read (inner v)) (λ v. heard_at (inner v)) (λ v. looks (inner v)) first

  abbrev pub RunsThrough : Setup → Bool → V → V → Standing → List (ℕ × ℕ) → Type 0
  RunsThrough = Runs (λ old call new. moves (inner old) call (inner new)) (λ v. hears (inner v)) (λ v. could_read (inner v)) (λ v. heard_at (inner v)) (λ v. looks (inner v))

  abbrev pub WasServedThrough : Setup → Result ServiceEnd ServeFault → V → V → Type 0
  WasServedThrough = WasServed (λ old call new. moves (inner old) call (inner new)) (λ v. hears (inner v)) (λ v. could_read (inner v)) (λ v. heard_at (inner v)) (λ v. looks (inner v))

  inward : (first : Type 0) (old new : V) (call : Call) → GoesThrough first old call new → Goes first (inner old) call (inner new)
  inward first old new call goes = record { moved = goes.moved; idle_first = goes.idle_first }

  outward : (first : Type 0) (old new : V) (call : Call) → Goes first (inner old) call (inner new) → GoesThrough first old call new
  outward first old new call goes = record { moved = goes.moved; idle_first = goes.idle_first }

  along_in : (first : Type 0) (begun : V) (calls : List Call) (world : V) → Along (GoesThrough first) begun calls world → Along (Goes first) (inner begun) calls (inner world)
  along_in first begun [] world is = ap inner is
  along_in first begun (call ∷ calls) world (mid, before, goes) = (inner mid, along_in first begun calls mid before, inward first mid world call goes)

  module _ (outer : W → V) (is : (w : W) → inner (outer w) ≡ w) where
    along_out : (first : Type 0) (begun : W) (calls : List Call) (world : W) → Along (Goes first) begun calls world → Along (GoesThrough first) (outer begun) calls (outer world)
    along_out first begun [] world same = ap outer same
    along_out first begun (call ∷ calls) world (mid, before, goes) = (
      outer mid,
      along_out first begun calls mid before,
      outward first (outer mid) (outer world) call (subst (λ w. Goes first w call (inner (outer world))) (sym (is mid)) (subst (λ w. Goes first mid call w) (sym (is world)) goes)),
    )

    pub runs_out : (setup : Setup) (closed : Bool) (begun : W) (world : V) (g : Standing) (rooms : List (ℕ × ℕ)) → outer (inner world) ≡ world
        → Runs moves hears could_read heard_at looks setup closed begun (inner world) g rooms → RunsThrough setup closed (outer begun) world g rooms
    runs_out setup closed begun world g rooms same r = record {
      calls = r.calls;
      along = subst (λ v. Along (GoesThrough (hears (inner (outer begun)))) (outer begun) r.calls v) same
          (subst (λ w. Along (GoesThrough (hears w)) (outer begun) r.calls (outer (inner world))) (sym (is begun)) (along_out (hears begun) begun r.calls (inner world) r.along));
      whole = r.whole;
      hears_on = λ h. r.hears_on (subst hears (is begun) h);
      serves = r.serves;
    }

    pub runs_in : (setup : Setup) (closed : Bool) (begun : W) (world : V) (g : Standing) (rooms : List (ℕ × ℕ)) → RunsThrough setup closed (outer begun) world g rooms
        → Runs moves hears could_read heard_at looks setup closed begun (inner world) g rooms
    runs_in setup closed begun world g rooms r = record {
      calls = r.calls;
      along = subst (λ w. Along (Goes (hears w)) w r.calls (inner world)) (is begun) (along_in (hears (inner (outer begun))) (outer begun) r.calls world r.along);
      whole = r.whole;
      hears_on = λ h. r.hears_on (subst hears (sym (is begun)) h);
      serves = r.serves;
    }

    pub was_in : (setup : Setup) (outcome : Result ServiceEnd ServeFault) (begun : W) (world : V) → WasServedThrough setup outcome (outer begun) world
        → WasServed moves hears could_read heard_at looks setup outcome begun (inner world)
    was_in setup outcome begun world was = record {
      calls = was.calls;
      along = subst (λ w. Along (Goes (hears w)) w was.calls (inner world)) (is begun) (along_in (hears (inner (outer begun))) (outer begun) was.calls world was.along);
      is = was.is;
    }
