-- Octets of a stream's DATA that don't wait any more go back, on the connection and on the stream while that goes on.
use Rattle.std.proofs.Common.{◌≡◌, ℕ, ◌+◌, ◌<◌, Bool, true, false, not, nat_lt, ◌==◌, if◌then◌else◌, List, [], refl, ◌∙◌, ap, inl, inr, arith}
use Rattle.std.proofs.lemmas.Bool.{and_parts}
use Rattle.model.specs.Limits.{most_untaken}
use Rattle.model.specs.Frames.{spell}
use Rattle.model.specs.Logs.{Output}
use Rattle.model.specs.Logs.Output.{ToClient}
use Rattle.model.specs.Setup.{Setup}
use Rattle.model.specs.Tapes.{put}
use Rattle.theory_errors.specs.Rows.{find}
use Rattle.theory_errors.specs.Judging.{is_over_in}
use Rattle.effects.specs.Sent.{window_update}
use Rattle.streams.specs.Asked.{has, is_active}
use Rattle.theory_requests.specs.State.Due.{Nothing}
use Rattle.upstream_connections.specs.Kept as upstreams
use Rattle.window_credit.specs.declared.marks.TakenOctets.{TakenOctets}
use Rattle.refinement.specs.View.{View, Pending, balanced, Keeps}
use Rattle.refinement.specs.Rest.{GoesOn}
use Rattle.refinement.specs.Bringing.{PerformsOwn}
use Rattle.event_handlers.specs.Stopping.{IsCalmed, EndsFrom}
use Rattle.event_handlers.proofs.Calming.{calm_ends}
use Rattle.event_handlers.specs.paying.Returning.{own_of, back_on, due_on_stream, goes_back_on, given_on_connection, given_on_stream}
use Rattle.event_handlers.proofs.paying.Settling.{gives_shared, gives_own}
use Rattle.event_handlers.proofs.paying.Fitting.{of_stream}
use Rattle.event_handlers.proofs.paying.Settled.{goes_back, own_some}

-- Nothing goes back: of what is pending nothing is left.
nothing_left : (setup : Setup) (kept : View) (pending : Pending) (outputs : List Output) → pending.owed ≡ [] → pending.due ≡ Nothing → pending.fresh ≡ 0 → pending.shared ≡ 0 → ((id : ℕ) → pending.own id ≡ 0) → PerformsOwn setup kept pending outputs kept balanced outputs
nothing_left setup kept pending outputs owed due fresh shared own run s leads = record {
  segment = record { moves = []; state = s; by_rule = refl; leads = record { stands = leads.stands; so = leads.so; heard = leads.heard; keeps = keeps; marked = leads.marked; in_effect = tt }; puts = refl };
  are_own = tt;
}
  where
    keeps : Keeps kept balanced s
    keeps = record {
      book = leads.keeps.book;
      owed = leads.keeps.owed ∙ owed;
      offers = leads.keeps.offers;
      requests = leads.keeps.requests ∙ ap (upstreams.with_due kept.upstreams) due;
      decoding = leads.keeps.decoding;
      encoding = leads.keeps.encoding;
      read = leads.keeps.read;
      credited = record { fresh = leads.keeps.credited.fresh ∙ fresh; shared = leads.keeps.credited.shared ∙ shared; own = λ id goes. leads.keeps.credited.own id goes ∙ own id };
      counted = leads.keeps.counted;
    }

-- none of a stream's
none_own : (id count : ℕ) → count ≡ 0 → (other : ℕ) → own_of id count other ≡ 0
none_own id count none other = by (id == other)
  where
    by : (b : Bool) → (if b then count else 0) ≡ 0
    by true = none
    by false = refl

pub none_taken : (setup : Setup) (kept : View) (stream : ℕ) (taken : TakenOctets) (outputs : List Output) → taken.own + taken.older ≡ 0 → PerformsOwn setup kept (back_on stream taken) outputs kept balanced outputs
none_taken setup kept stream taken outputs none = nothing_left setup kept (back_on stream taken) outputs refl refl refl none (none_own stream taken.own (omega (arith, none)))

pub none_on_stream : (setup : Setup) (kept : View) (stream own : ℕ) (outputs : List Output) → own ≡ 0 → PerformsOwn setup kept (due_on_stream stream own) outputs kept balanced outputs
none_on_stream setup kept stream own outputs none = nothing_left setup kept (due_on_stream stream own) outputs refl refl refl refl (none_own stream own none)

-- What goes back does so on the connection first.
pub taken_on_connection : (setup : Setup) (kept : View) (stream : ℕ) (taken : TakenOctets) → 0 < taken.own + taken.older → taken.own + taken.older < 2147483648 → GoesOn kept → nat_lt most_untaken kept.untaken ≡ false → (outputs : List Output)
    → PerformsOwn setup kept (back_on stream taken) outputs (given_on_connection kept (taken.own + taken.older)) (due_on_stream stream taken.own) (put outputs (ToClient (spell (window_update 0 (taken.own + taken.older)))))
taken_on_connection setup kept stream taken some small on free outputs = gives_shared setup kept (taken.own + taken.older) (own_of stream taken.own) some small on free outputs

-- And then the newest stream's on that, where it goes on.
module _ (setup : Setup) (kept : View) (stream own : ℕ) (some : 0 < own) (small : own < 2147483648) (goes : goes_back_on kept.inbound.rows stream ≡ true) (outputs : List Output) where
  row_there : has kept.inbound.rows stream ≡ true
  row_there = (and_parts (has kept.inbound.rows stream) (not (is_over_in (find kept.inbound.rows stream))) (and_parts (is_active kept.inbound.rows stream) (not (find kept.inbound.rows stream).ended_by_client) goes).0).0

  pub taken_on_stream : GoesOn kept → nat_lt most_untaken kept.untaken ≡ false → stream < 2147483648 → PerformsOwn setup kept (due_on_stream stream own) outputs (given_on_stream kept stream own) balanced (put outputs (ToClient (spell (window_update stream own))))
  taken_on_stream on free in_range run s leads = gives_own setup kept stream own goes in_range (of_stream setup run kept (due_on_stream stream own) s leads stream row_there) some small on free outputs run s leads

  -- They can't.
  pub own_ends : (p : List Output) → IsCalmed kept outputs p → EndsFrom setup kept (due_on_stream stream own) outputs p
  own_ends p is = calm_ends setup kept (due_on_stream stream own) (inr (refl, inr (stream, goes_back kept.inbound stream goes, own_some stream own some))) refl outputs p is

-- They can't go back on the connection.
pub taken_ends : (setup : Setup) (kept : View) (stream : ℕ) (taken : TakenOctets) (o p : List Output) → 0 < taken.own + taken.older → IsCalmed kept o p → EndsFrom setup kept (back_on stream taken) o p
taken_ends setup kept stream taken o p some is = calm_ends setup kept (back_on stream taken) (inr (refl, inl some)) refl o p is
