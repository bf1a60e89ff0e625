-- Parts of a step leave it in its midst: what is to be so of streams and connections stays so.
use Rattle.std.proofs.Common.{◌≡◌, ℕ, true, false, List, Option, Some, None, refl, sym, ◌∙◌, ap, subst}
use Rattle.std.specs.Prelude.{is_some, IfSome}
use Rattle.connection_state.specs.Inbound.{Inbound}
use Rattle.streams.specs.Asked.{has}
use Rattle.streams.specs.Sending.{is_served}
use Rattle.theory_responses.specs.State as theory_responses
use Rattle.upstream_connections.specs.Kept as upstreams
use Rattle.upstream_connections.specs.Connections.{Connection, lives}
use Rattle.refinement.specs.View.{View}
use Rattle.refinement.specs.Rest.{IsAtRest, NoneCut, NoneDone}
use Rattle.window_credit.specs.Sides.{Side, is_past}
use Rattle.event_handlers.specs.Closings.{IsAbout, NoneDoneBut}
use Rattle.event_handlers.specs.MidStep.{IsMidStep, IsHandedOn}
use Rattle.event_handlers.specs.Resting.{AreNumbered}
use Rattle.event_handlers.specs.paying.Returning.{IsReturned}
use Rattle.event_handlers.proofs.Closings.{about_but, but_one, but_stays}

-- ---- a part that leaves streams and connections

-- nothing was handed on
pub handed_none : (kept : View) → IsHandedOn kept kept
handed_none kept = record { inbound = refl; offers = refl; encoding = refl; untaken = refl; none_but = λ id none. none; newest = λ was. was }

-- upstreams and octets that wait changed
pub handed_as : (kept : View) (ups : upstreams.State) (sides : List Side) → ((id : ℕ) → NoneDoneBut id kept → NoneDoneBut id (record kept { upstreams = ups; marks = sides }))
    → (is_past kept.inbound.last kept.marks ≡ false → is_past kept.inbound.last sides ≡ false) → IsHandedOn kept (record kept { upstreams = ups; marks = sides })
handed_as kept ups sides but newest = record { inbound = refl; offers = refl; encoding = refl; untaken = refl; none_but = but; newest = newest }

pub mid_handed : (id : ℕ) (old new : View) → IsHandedOn old new → IsMidStep id old → IsMidStep id new
mid_handed id old new handed mid = record {
  none_cut = subst (λ (o : theory_responses.State). NoneCut o) (sym handed.offers) mid.none_cut;
  none_but = handed.none_but id mid.none_but;
  numbered = λ other there. mid.numbered other (subst (λ (i : Inbound). has i.rows other ≡ true) handed.inbound there);
}

-- octets went back, or wait
pub mid_returned : (id : ℕ) (old new : View) → IsReturned old new → IsMidStep id old → IsMidStep id new
mid_returned id old new stays mid = record {
  none_cut = subst (λ (o : theory_responses.State). NoneCut o) (sym stays.offers) mid.none_cut;
  none_but = but_stays id old new stays.served (ap (λ (u : upstreams.State). lives u.live) stays.upstreams) mid.none_but;
  numbered = λ other there. mid.numbered other (sym (stays.opened other) ∙ there);
}

-- a frame beside responses went out
pub mid_same : (id : ℕ) (old new : View) → new.inbound ≡ old.inbound → new.offers ≡ old.offers → new.upstreams ≡ old.upstreams → IsMidStep id old → IsMidStep id new
mid_same id old new inbound offers ups mid = record {
  none_cut = subst (λ (o : theory_responses.State). NoneCut o) (sym offers) mid.none_cut;
  none_but = but_stays id old new (λ stream. ap (λ (i : Inbound). is_served i.rows stream) inbound) (ap (λ (u : upstreams.State). lives u.live) ups) mid.none_but;
  numbered = λ other there. mid.numbered other (subst (λ (i : Inbound). has i.rows other ≡ true) inbound there);
}

-- ---- a part that is about a stream, from where the gateway rested

pub mid_about : (id : ℕ) (old new : View) → NoneDone old → NoneCut new.offers → IsAbout id old new → AreNumbered new → IsMidStep id new
mid_about id old new none none_cut about numbered = record { none_cut = none_cut; none_but = about_but id old new about none; numbered = numbered }

-- ---- nothing is done with at all

-- No reset is owed, no connection is done with, and streams have numbers.
pub record IsStill (kept : View) : Type 0 where
  pub none_cut : NoneCut kept.offers
  pub none_done : NoneDone kept
  pub numbered : AreNumbered kept

pub still_rests : (kept : View) → IsAtRest kept → AreNumbered kept → IsStill kept
still_rests kept rest numbered = record { none_cut = rest.none_cut; none_done = rest.none_done; numbered = numbered }

-- so it is in the midst of a step about any stream
pub mid_still : (id : ℕ) (kept : View) → IsStill kept → IsMidStep id kept
mid_still id kept still = record { none_cut = still.none_cut; none_but = but_one id kept still.none_done; numbered = still.numbered }

-- ---- the stream of an open connection

pub if_mid : (o : Option Connection) (stream : ℕ) (v : View) → IfSome o (λ c. stream ≡ c.live.stream) → IsMidStep stream v → IfSome o (λ c. IsMidStep c.live.stream v)
if_mid None stream v of mid = tt
if_mid (Some c) stream v of mid = subst (λ n. IsMidStep n v) of mid

pub if_still : (o : Option Connection) (v : View) → IsStill v → IfSome o (λ c. IsMidStep c.live.stream v)
if_still None v still = tt
if_still (Some c) v still = mid_still c.live.stream v still

pub mid_of : (o : Option Connection) (stream : ℕ) (v : View) → is_some o ≡ true → IfSome o (λ c. stream ≡ c.live.stream) → IfSome o (λ c. IsMidStep c.live.stream v) → IsMidStep stream v
mid_of None stream v some of mid = absurd (let no : false ≡ true = some in cc)
mid_of (Some c) stream v some of mid = subst (λ n. IsMidStep n v) (sym of) mid
