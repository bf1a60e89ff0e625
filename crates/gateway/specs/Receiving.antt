-- What an event comes to, once the gateway's settings are sent.
use Rattle.std.specs.Prelude.{◌≡◌, Bool, true, false, if◌then◌else◌, ℕ, List, [], ◌∷◌, ◌++◌, ◌⊎◌, ◌≤◌}
use Rattle.model.specs.Octets.{IsStrictFront}
use Rattle.model.specs.Frames.{preface}
use Rattle.model.specs.Logs.{Event, Output}
use Rattle.model.specs.Logs.Event.{Client}
use Rattle.model.specs.Setup.{Setup}
use Rattle.model.specs.Tapes as model
use Rattle.model.specs.Tapes.{IsNoPreface}
use Rattle.refinement.specs.View.{View, balanced}
use Rattle.refinement.specs.Bringing.{PerformsOwn}
use Rattle.event_handlers.specs.Inputs.Input.{OfBreach, OfEvent}
use Rattle.event_handlers.specs.Comings.{ComesFrom, OnlyToClient}
use Rattle.event_handlers.specs.Resting.{now_of, IsSettled}
use Rattle.event_handlers.specs.declared.resting.Onward.{Onward}
use Rattle.event_handlers.specs.declared.resting.Onward.TheVariants as answer
use Rattle.gateway.specs.Reading.{Takes}
use Rattle.gateway.specs.Stands.{Standing, Serves, pending_in}
use Rattle.gateway.specs.declared.phase.Phase.{Phase}
use Rattle.gateway.specs.declared.phase.Phase.TheVariants as phase

-- whether the preface was read
abbrev pub is_begun : Phase → Bool
is_begun phase.Frames = true
is_begun _ = false

-- The octets so far are a front of the preface.
pub record Waits (old new : Standing) (went : Onward) (o o' : List Output) (unread : List ℕ) : Type 0 where
  pub unbegun : is_begun old.phase ≡ false
  pub front : IsStrictFront unread preface
  pub goes_on : went ≡ answer.On
  pub after : new ≡ record old { partial = unread }
  pub puts_nothing : o' ≡ o

-- They depart from it.
pub record Departs (old new : Standing) (went : Onward) (o o' : List Output) (unread : List ℕ) : Type 0 where
  pub unbegun : is_begun old.phase ≡ false
  pub no_preface : IsNoPreface unread
  pub is_over : went ≡ answer.Over
  pub comes : (setup : Setup) → ComesFrom setup old.kept balanced o (OfBreach model.Breach.WrongPreface ∷ []) balanced (now_of went new.kept) o'

-- Where the connection goes on, this is left of the octets behind the preface.
abbrev pub Keeps : Onward → Standing → Standing → List ℕ → Type 0
Keeps answer.On old new rest = new ≡ record old { phase = phase.Frames; partial = rest; kept = new.kept }
Keeps answer.Over old new rest = Unit {0}

-- Frames are taken off these octets, which stand behind the preface, and the rest is kept.
pub record ReadsOn (old new : Standing) (went : Onward) (o o' : List Output) (behind : List ℕ) : Type 0 where
  pub rest : List ℕ
  pub takes : Takes (λ setup. Serves setup old) old.kept o behind rest (now_of went new.kept) o'
  pub keeps : Keeps went old new rest

-- They go on behind the preface, or have come to it.
pub record GoesOn (old new : Standing) (went : Onward) (o o' : List Output) (unread : List ℕ) : Type 0 where
  pub behind : List ℕ
  pub begins : unread ≡ (if is_begun old.phase then behind else preface ++ behind)
  pub reads : ReadsOn old new went o o' behind

-- What a piece of the client's octets comes to, with those before it that weren't read.
abbrev pub Receives : Standing → Standing → Onward → List Output → List Output → List ℕ → Type 0
Receives old new went o o' unread = Waits old new went o o' unread ⊎ Departs old new went o o' unread ⊎ GoesOn old new went o o' unread

-- What another event comes to: where the connection goes on, all but what is kept stays.
pub record Hears (old new : Standing) (went : Onward) (o o' : List Output) (event : Event) : Type 0 where
  pub comes : (setup : Setup) → Serves setup old → ComesFrom setup old.kept balanced o (OfEvent event ∷ []) balanced (now_of went new.kept) o'
  pub stays : new ≡ record old { kept = new.kept }

abbrev pub Happens : Standing → Standing → Onward → List Output → List Output → Event → Type 0
Happens old new went o o' (Client piece) = Receives old new went o o' (old.partial ++ piece)
Happens old new went o o' event = Hears old new went o o' event

-- By what is served stays.
pub record KeepsTerms (old new : Standing) : Type 0 where
  pub routes : new.routes ≡ old.routes
  pub max_body : new.max_body ≡ old.max_body
  pub passing : new.passing ≡ old.passing
  pub keep : new.keep ≡ old.keep
  pub most_idle : new.most_idle ≡ old.most_idle

-- Where the connection goes on, something may come in.
abbrev pub IsSettledIf : Onward → View → Type 0
IsSettledIf answer.On kept = IsSettled kept
IsSettledIf answer.Over kept = Unit {0}

-- The gateway's settings are sent where nothing came yet; all else stays, but for the connection's receiving window, and for how many octets
-- for the client aren't taken.
abbrev pub greeted : Phase → Phase
greeted phase.New = phase.Preface
greeted other = other

pub record Greets (old new : Standing) (put_out : List Output) : Type 0 where
  pub performs : (setup : Setup) → PerformsOwn setup old.kept (pending_in setup.more_room old.phase) [] new.kept balanced put_out
  pub only : OnlyToClient put_out
  pub after : new ≡ record old { phase = greeted old.phase; kept = record old.kept { inbound = record old.kept.inbound { room = new.kept.inbound.room }; untaken = new.kept.untaken } }
  pub more : old.kept.untaken ≤ new.kept.untaken
  pub settled : IsSettled new.kept
