-- What is done where the effect of the last frame is over, put together.
use Rattle.std.proofs.Common.{◌≡◌, ℕ, ◌+◌, ◌<◌, true, false, not, nat_lt, if◌then◌else◌, List, refl, sym, ◌∙◌, ap, subst, inl, inr, arith}
use Rattle.std.proofs.lemmas.Bool.{and_parts, not-true, eq-eqb}
use Rattle.model.specs.Limits.{most_untaken, most_streams}
use Rattle.model.specs.Frames.{spell}
use Rattle.model.specs.Logs.{Output}
use Rattle.model.specs.Logs.Output.{ToClient}
use Rattle.model.specs.Setup.{Setup}
use Rattle.model.specs.Tapes.{put}
use Rattle.theory_errors.specs.Rows.{find}
use Rattle.theory_errors.specs.Judging.{is_over_in}
use Rattle.effects.specs.Sent.{window_update}
use Rattle.streams.specs.Asked.{has, is_active}
use Rattle.window_credit.specs.Sides.{has_untaken, is_past}
use Rattle.connection_state.specs.Inbound.{Inbound}
use Rattle.refinement.specs.View.{View, balanced, GoBack}
use Rattle.refinement.specs.Rest.{GoesOn}
use Rattle.refinement.specs.Bringing.{PerformsOwn}
use Rattle.refinement.proofs.Bringing.{own_none, own_then}
use Rattle.event_handlers.specs.Stopping.{IsCalmed, EndsFrom}
use Rattle.event_handlers.proofs.Calming.{calm_ends, calm_behind}
use Rattle.event_handlers.specs.paying.Returning.{own_of, due_on_stream, goes_back_on, given_on_connection, given_on_stream}
use Rattle.event_handlers.proofs.paying.Rows.{has_stays, exhausted_stays}
use Rattle.event_handlers.proofs.paying.Settling.{fresh, due_back, settles, forgets, gives_shared, gives_own}
use Rattle.event_handlers.proofs.paying.Fitting.{of_stream}

-- Without octets nothing goes back but what is dropped.
pub none_fresh : (setup : Setup) (kept : View) (count shared : ℕ) (outputs : List Output) → count ≡ 0 → PerformsOwn setup kept (fresh count shared) outputs kept (record balanced { shared = shared }) outputs
none_fresh setup kept count shared outputs none = subst (λ n. PerformsOwn setup kept (fresh n shared) outputs kept (record balanced { shared = shared }) outputs) (sym none) (own_none setup kept (record balanced { shared = shared }) outputs)

-- Nothing goes back.
pub none_back : (setup : Setup) (kept : View) (shared : ℕ) (outputs : List Output) → shared ≡ 0 → PerformsOwn setup kept (record balanced { shared = shared }) outputs kept balanced outputs
none_back setup kept shared outputs none = subst (λ n. PerformsOwn setup kept (record balanced { shared = n }) outputs kept balanced outputs) (sym none) (own_none setup kept balanced outputs)

-- What is dropped goes back on the connection.
pub dropped_back : (setup : Setup) (kept : View) (shared : ℕ) (outputs : List Output) → 0 < shared → shared < 2147483648 → GoesOn kept → nat_lt most_untaken kept.untaken ≡ false
    → PerformsOwn setup kept (record balanced { shared = shared }) outputs (given_on_connection kept shared) balanced (put outputs (ToClient (spell (window_update 0 shared))))
dropped_back setup kept shared outputs some small on free = gives_shared setup kept shared (λ id. 0) some small on free outputs

-- It can't.
pub dropped_ends : (setup : Setup) (kept : View) (shared : ℕ) (o p : List Output) → 0 < shared → IsCalmed kept o p → EndsFrom setup kept (record balanced { shared = shared }) o p
dropped_ends setup kept shared o p some is = calm_ends setup kept (record balanced { shared = shared }) (inr (refl, inl some)) refl o p is

-- The effect is over, and then they can't go back.
pub fresh_ends : (setup : Setup) (kept : View) (count shared : ℕ) (o p : List Output) → 0 < count → is_past kept.inbound.last kept.marks ≡ false → has_untaken kept.inbound.last kept.marks ≡ false → IsCalmed kept o p → EndsFrom setup kept (fresh count shared) o p
fresh_ends setup kept count shared o p some newest none is =
    calm_behind setup kept kept (fresh count shared) (due_back kept.inbound.last count (count + shared)) o o p (settles setup kept count shared o newest none)
    (calm_ends setup kept (due_back kept.inbound.last count (count + shared)) (inr (refl, inl (omega (arith, some)))) refl o p is)

-- a stream on which they go back
pub goes_back : (inbound : Inbound) (id : ℕ) → goes_back_on inbound.rows id ≡ true → GoBack inbound id
goes_back inbound id is =
    let parts = and_parts (is_active inbound.rows id) (not (find inbound.rows id).ended_by_client) is in
    record { active = parts.0; goes_on = not-true (find inbound.rows id).ended_by_client parts.1 }

pub own_some : (id count : ℕ) → 0 < count → 0 < own_of id count id
own_some id count some = subst (λ n. 0 < n) (sym (ap (λ b. if b then count else 0) (eq-eqb id id refl))) some

module _ (setup : Setup) (kept : View) (count shared all : ℕ) (some : 0 < count) (sum : all ≡ count + shared) (small : all < 2147483648) (on : GoesOn kept) (free : nat_lt most_untaken kept.untaken ≡ false) (newest : is_past kept.inbound.last kept.marks ≡ false) (none : has_untaken kept.inbound.last kept.marks ≡ false) (outputs : List Output) where
  abbrev id : ℕ
  id = kept.inbound.last

  abbrev first : View
  first = given_on_connection kept all

  abbrev first_out : List Output
  first_out = put outputs (ToClient (spell (window_update 0 all)))

  -- the effect is over, and then they go back on the connection
  shared_back : PerformsOwn setup kept (fresh count shared) outputs first (due_on_stream id count) first_out
  shared_back =
      own_then setup kept kept first (fresh count shared) (due_back id count all) (due_on_stream id count) outputs outputs first_out
      (subst (λ n. PerformsOwn setup kept (fresh count shared) outputs kept (due_back id count n) outputs) (sym sum) (settles setup kept count shared outputs newest none))
      (gives_shared setup kept all (own_of id count) (omega (arith, some, sum)) small on free outputs)

  -- They go back on the connection alone.
  pub back_on_connection : goes_back_on kept.inbound.rows id ≡ false → PerformsOwn setup kept (fresh count shared) outputs first balanced first_out
  back_on_connection over = own_then setup kept first first (fresh count shared) (due_on_stream id count) balanced outputs first_out first_out shared_back (forgets setup first id count first_out over)

  -- They go back on the stream too.
  pub back_on_both : (stream : ℕ) → stream ≡ id → goes_back_on kept.inbound.rows stream ≡ true → stream < 2147483648 → nat_lt most_untaken first.untaken ≡ false
      → PerformsOwn setup kept (fresh count shared) outputs (given_on_stream first stream count) balanced (put first_out (ToClient (spell (window_update stream count))))
  back_on_both stream same goes in_range still_free = own_then setup kept first (given_on_stream first stream count) (fresh count shared) (due_on_stream id count) balanced outputs first_out (put first_out (ToClient (spell (window_update stream count)))) shared_back own
    where
      own : PerformsOwn setup first (due_on_stream id count) first_out (given_on_stream first stream count) balanced (put first_out (ToClient (spell (window_update stream count))))
      own run s leads =
          (subst (λ n. PerformsOwn setup first (due_on_stream n count) first_out (given_on_stream first stream count) balanced (put first_out (ToClient (spell (window_update stream count))))) same
          (gives_own setup first stream count goes in_range
          (of_stream setup run first (due_on_stream id count) s leads stream (and_parts (has kept.inbound.rows stream) (not (is_over_in (find kept.inbound.rows stream))) (and_parts (is_active kept.inbound.rows stream) (not (find kept.inbound.rows stream).ended_by_client) goes).0).0)
          some (omega (arith, small, sum)) on still_free first_out)) run s leads

  -- They can't go back on the stream any more.
  pub own_ends : goes_back_on kept.inbound.rows id ≡ true → (p : List Output) → IsCalmed first first_out p → EndsFrom setup kept (fresh count shared) outputs p
  own_ends goes p is =
      calm_behind setup kept first (fresh count shared) (due_on_stream id count) outputs first_out p shared_back
      (calm_ends setup first (due_on_stream id count) (inr (refl, inr (id, goes_back first.inbound id goes, own_some id count some))) refl first_out p is)

-- ---- what stays

module _ (kept : View) (id count : ℕ) (live : is_active kept.inbound.rows id ≡ true) where
  pub still_on : GoesOn kept → GoesOn (given_on_stream kept id count)
  still_on on = exhausted_stays kept.inbound.rows id count live kept.inbound.drained most_streams ∙ on

  pub still_numbered : ((other : ℕ) → has kept.inbound.rows other ≡ true → other < 2147483648) → (other : ℕ) → has (given_on_stream kept id count).inbound.rows other ≡ true → other < 2147483648
  still_numbered numbered other there = numbered other (sym (has_stays kept.inbound.rows id count live other) ∙ there)
