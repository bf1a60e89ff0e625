-- What is kept of requests and of upstream connections, and of what nothing is said where the gateway rests: what is due is an answer.
use Rattle.std.specs.Prelude.{◌≡◌, ◌≤◌, ℕ, suc, Bool, ◌||◌, List, [], ◌∷◌, map, reverse}
use Rattle.model.specs.Limits.{most_streams}
use Rattle.request_rules.specs.Heads.{HeadParts}
use Rattle.h1_writer.specs.Sending.{Stage, Sending}
use Rattle.upstream_response.specs.declared.answer.ResponsePassing.{ResponsePassing}
use Rattle.theory_requests.specs.Held.{AreApart}
use Rattle.theory_requests.specs.Lines.{least_idle}
use Rattle.theory_requests.specs.State as theory_requests
use Rattle.theory_requests.specs.State.{Held, held_with, Due, is_whole, unless_whole, waits_from, to_open}
use Rattle.theory_requests.specs.State.Way.{Waiting, Going}
use Rattle.upstream_connections.specs.Connections.{Connection, lives, fresh, opened, given_at, idle_numbers, AreBelow}
use Rattle.upstream_connections.specs.Keys.{idle_keys}

-- The streams whose requests aren't whole, the open connections, and how many were opened.
pub record State : Type 0 where
  pub held : List Held
  pub live : List Connection
  pub count : ℕ

-- as the rule of requests has it, with what is due
abbrev pub with_due : State → Due → theory_requests.State
with_due s due = record { held = s.held; live = lives s.live; due = due; count = s.count }

-- nothing is kept at first
abbrev pub nothing : State
nothing = record { held = []; live = []; count = 0 }

-- What holds of them: no stream is held twice, no more were opened than streams may be, numbers rise to that of the last that was opened, and those that are idle have these numbers, and these keys.
pub record AreKept (held : List Held) (connections : List Connection) (idle keys : List ℕ) (count : ℕ) : Type 0 where
  pub apart : AreApart (reverse held)
  pub few : count ≤ most_streams
  pub below : AreBelow (suc count) (reverse connections)
  pub idle_are : idle ≡ idle_numbers connections
  pub keys_are : keys ≡ idle_keys (reverse connections)

-- a connection was opened for a stream, by this route, and what its request's text waits for goes out there
abbrev pub opened_for : ℕ → ℕ → Bool → ResponsePassing → Stage → State → State
opened_for stream route to_head passing stage s = record {
  held = held_with stream (unless_whole stage (Going (suc s.count) stage)) s.held;
  live = opened (suc s.count) route stream to_head passing ∷ s.live;
  count = suc s.count;
}

-- an open one was given to a stream, and it goes out there
abbrev pub given_for : ℕ → ℕ → Bool → ResponsePassing → Stage → State → State
given_for k stream to_head passing stage s = record {
  held = held_with stream (unless_whole stage (Going k stage)) s.held;
  live = map (given_at k stream (fresh to_head passing)) s.live;
  count = s.count;
}

-- A request's head came: this was written of it, for a connection that is kept or isn't; it is due where the head ends its stream, or where it
-- goes out at once, on the least idle connection of its route or on another, and else it is held.
pub record Begins (old : State) (id route : ℕ) (keep : Bool) (parts : HeadParts) (ended at_once : Bool) (due : Due) (new : State) : Type 0 where
  pub text : List ℕ
  pub stage : Stage
  pub sending : Sending keep parts ended text [] [] stage
  pub whole : is_whole stage ≡ ended
  pub due_is : due ≡ to_open (at_once || ended) (least_idle route (lives old.live)) id route text stage
  pub kept : new ≡ record old { held = held_with id (waits_from (at_once || ended) (Waiting route text stage [])) old.held }
