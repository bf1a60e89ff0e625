-- Which verdicts say that a stream may be opened.
use Rattle.std.proofs.Common.{◌≡◌, ℕ, ◌≤◌, Bool, true, false, List, length, Option, Some, None, refl, sym, arith, ◌||◌}
use Rattle.std.specs.Prelude.{◌==◌, ◌%◌, ◌&&◌, if◌then◌else◌}
use Rattle.std.proofs.lemmas.Bool.Decides.{nat_tests}
use Rattle.std.proofs.lemmas.Bool.{or_parts}
use Rattle.model.specs.Errors.Fault.{Stream}
use Rattle.model.specs.Frames.{refused_stream}
use Rattle.model.specs.StreamStates.{StreamState, OpenedStream, Standing, is_above, state_of, opened_or, standing, verdict}
use Rattle.model.specs.Limits.{most_streams}
use Rattle.model.specs.StreamStates.StreamState.{Open, HalfClosedRemote, HalfClosedLocal, Closed, ResetByPeer, ResetByUs}
use Rattle.model.specs.StreamStates.Standing.{WholeConnection, Opened, Idle, ServerIdle, Skipped, Beyond}
use Rattle.model.specs.StreamStates.Verdict.{Opens, Fails}
use Rattle.stream_state.specs.Views.{IsOpenable, AllowsOpening, verdict_in}
use Rattle.stream_state.specs.declared.verdicts.Verdict.{Verdict as Answer}
use Rattle.stream_state.specs.declared.verdicts.Verdict.TheVariants as answer

-- an idle stream alone is opened
pub opens_idle : (active : ℕ) (s : Standing) (kind : ℕ) → verdict active s kind ≡ Opens → s ≡ Idle
opens_idle active WholeConnection kind e = grind arith
opens_idle active (Opened Open) kind e = absurd (cc)
opens_idle active (Opened HalfClosedRemote) kind e = grind arith
opens_idle active (Opened HalfClosedLocal) kind e = absurd (cc)
opens_idle active (Opened Closed) kind e = grind arith
opens_idle active (Opened ResetByPeer) kind e = grind arith
opens_idle active (Opened ResetByUs) kind e = absurd (cc)
opens_idle active Idle kind e = refl
opens_idle active ServerIdle kind e = absurd (cc)
opens_idle active Skipped kind e = grind arith
opens_idle active Beyond kind e = absurd (cc)

-- and refused
pub refuses_idle : (active : ℕ) (s : Standing) (kind code : ℕ) → verdict active s kind ≡ Fails (Stream code) → code ≡ refused_stream → s ≡ Idle
refuses_idle active WholeConnection kind code e r = grind arith
refuses_idle active (Opened Open) kind code e r = absurd (cc)
refuses_idle active (Opened HalfClosedRemote) kind code e r = grind arith
refuses_idle active (Opened HalfClosedLocal) kind code e r = absurd (cc)
refuses_idle active (Opened Closed) kind code e r = grind arith
refuses_idle active (Opened ResetByPeer) kind code e r = grind arith
refuses_idle active (Opened ResetByUs) kind code e r = absurd (cc)
refuses_idle active Idle kind code e r = refl
refuses_idle active ServerIdle kind code e r = absurd (cc)
refuses_idle active Skipped kind code e r = grind arith
refuses_idle active Beyond kind code e r = absurd (cc)

-- an idle stream is above all that were opened, which aren't all
idle_case : (whole above full even : Bool) (known : Option StreamState) → (if whole then WholeConnection else opened_or known (if above && full then Beyond else (if even then ServerIdle else (if above then Idle else Skipped)))) ≡ Idle → (above ≡ true) × (full ≡ false)
idle_case true above full even known e = absurd (cc)
idle_case false above full even (Some state) e = absurd (cc)
idle_case false true true even None e = absurd (cc)
idle_case false true false even None e = (refl, refl)
idle_case false false full true None e = absurd (cc)
idle_case false false full false None e = absurd (cc)

pub idle_openable : (drained : Bool) (streams : List OpenedStream) (id : ℕ) → length streams ≤ most_streams → standing drained streams id ≡ Idle → IsOpenable id streams
idle_openable drained streams id few e =
    let found = idle_case (id == 0) (is_above id streams) (drained || length streams == most_streams) (id % 2 == 0) (state_of id streams) e in
    record { above = found.0; few = (let not_full = or_parts drained (length streams == most_streams) found.1 in let some = not_full.1 in grind (arith, nat_tests, some)) }

pub allows_opening : (drained : Bool) (streams : List OpenedStream) (id active kind : ℕ) (a : Answer) → length streams ≤ most_streams → verdict_in a ≡ verdict active (standing drained streams id) kind → AllowsOpening a id streams
allows_opening drained streams id active kind answer.Open few e = idle_openable drained streams id few (opens_idle active (standing drained streams id) kind (sym e))
allows_opening drained streams id active kind (answer.Stream code) few e = λ r. idle_openable drained streams id few (refuses_idle active (standing drained streams id) kind code (sym e) r)
allows_opening drained streams id active kind answer.Pass few e = tt
allows_opening drained streams id active kind answer.Discard few e = tt
allows_opening drained streams id active kind (answer.Connection code) few e = tt
