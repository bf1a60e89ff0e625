-- A response is whole with octets, or with the end of its connection, which is idle then, or closed: what the calls come to.
use Rattle.std.proofs.Common.{◌≡◌, ℕ, ◌≤◌, Bool, true, false, not, ◌&&◌, if◌then◌else◌, List, length, Some, None, refl, sym, ◌∙◌, ap, subst}
use Rattle.std.specs.Prelude.{Option, IfSome, is_some, option_map}
use Rattle.model.specs.Logs.{Output}
use Rattle.model.specs.Logs.Event.{Up, UpEnd}
use Rattle.model.specs.Setup.{Setup}
use Rattle.model.specs.Tapes.Entry.{Happened}
use Rattle.upstream_response.specs.Waiting.{Answer}
use Rattle.upstream_response.specs.declared.answer.Heard.{Heard as Told}
use Rattle.upstream_response.specs.declared.answer.Heard.TheVariants as heard
use Rattle.upstream_response.specs.declared.answer.AnswerEnd.{AnswerEnd}
use Rattle.upstream_response.specs.declared.answer.AnswerEnd.TheVariants as ended
use Rattle.upstream_response.specs.declared.answer.ResponsePassing.TheVariants.{Streaming}
use Rattle.theory_responses.specs.State as theory_responses
use Rattle.theory_requests.specs.Lines.{Heard, find, is_idle, answer_by, idle_beside}
use Rattle.theory_requests.specs.Lines.Heard.{Partly, Keepable, Finished}
use Rattle.theory_requests.proofs.Lists.{find_map}
use Rattle.theory_requests.specs.State.{Held, held_of}
use Rattle.upstream_connections.specs.Connections.{Connection, number_of, lives, answer_at, marked_at, is_idle_one, fresh}
use Rattle.refinement.specs.View.{View, balanced}
use Rattle.refinement.specs.Rest.{IsAtRest}
use Rattle.refinement.specs.Bringing.{Brings}
use Rattle.event_handlers.specs.exchanges.Finishing.{IsKeeping, marked_as, is_idle_then, closed_unless, verdict_by, put_unless, finished_at, put_finished}
use Rattle.event_handlers.specs.exchanges.Taking.{served_by, answered_with, left_of, AreTaken, IsEndTaken}
use Rattle.event_handlers.proofs.exchanges.Closes.{IsFoundFor, keepable, finished, completes}
use Rattle.event_handlers.proofs.exchanges.Done.{answered_found, finish_brings}

verdict_whole : (keep : Bool) (held : Option Held) → verdict_by keep held ≡ Partly → ⊥
verdict_whole true None is = cc
verdict_whole true (Some h) is = cc
verdict_whole false None is = cc
verdict_whole false (Some h) is = cc

-- a connection whose answer was lent out is found still
pub found_then : (kept middle : View) (k : ℕ) (answer : Answer) (offers : theory_responses.State) (c : Connection) → find number_of k kept.upstreams.live ≡ Some c → middle ≡ answered_with k answer offers kept → find number_of k middle.upstreams.live ≡ Some (answer_at k answer c)
found_then kept middle k answer offers c found is = ap (λ (v : View). find number_of k v.upstreams.live) is ∙ answered_found k answer kept.upstreams.live c found

-- it is open still
pub taken_open : (kept : View) (k : ℕ) (octets : List ℕ) (h : Told) (middle : View) → AreTaken kept k octets h middle → is_some (find number_of k middle.upstreams.live) ≡ true
taken_open kept k octets h middle taken = ap (λ (o : Option Connection). is_some o) (found_then kept middle k (left_of h taken.answer) taken.offers taken.connection taken.found taken.is)

pub end_open : (kept : View) (k : ℕ) (e : AnswerEnd) (middle : View) → IsEndTaken kept k e middle → is_some (find number_of k middle.upstreams.live) ≡ true
end_open kept k e middle taken = ap (λ (o : Option Connection). is_some o) (found_then kept middle k (fresh false Streaming) taken.offers taken.connection taken.found taken.is)

module _ (kept : View) (rest : IsAtRest kept) (k : ℕ) (outputs : List Output) (setup : Setup) (stream : ℕ) (it : IsFoundFor k stream kept.upstreams.live) (middle new : View) (put_out : List Output) where
  module _ (octets : List ℕ) (short : length octets ≤ 65536) where
    -- It leaves its connection open, which may be kept then.
    pub keepable_finished : (w : Heard) (keep : Bool) (most : ℕ) → AreTaken kept k octets heard.Keepable middle → w ≡ verdict_by keep (held_of stream middle.upstreams.held) → IsKeeping keep most setup → new ≡ finished_at most k w middle → put_out ≡ put_finished most k w middle outputs
        → Brings setup kept balanced outputs (Happened (Up k octets)) new balanced put_out
    keepable_finished w keep most taken verdict keeps is puts =
        finish_brings setup kept middle new most k w (answer_at k (fresh false Streaming) taken.connection) (Happened (Up k octets)) outputs put_out
        (found_then kept middle k (fresh false Streaming) taken.offers taken.connection taken.found taken.is)
        (λ part. verdict_whole keep (held_of stream middle.upstreams.held) (sym verdict ∙ part))
        (subst (λ n. Brings setup kept balanced outputs (Happened (Up k octets)) (marked_as n k w middle) balanced outputs) (sym keeps.1)
        (keepable kept rest k outputs setup stream it octets short middle taken w
        (verdict ∙ ap (λ (v : View). verdict_by keep (held_of stream v.upstreams.held)) taken.is ∙ ap (λ b. verdict_by b (held_of stream kept.upstreams.held)) keeps.0)))
        is puts

    -- It doesn't.
    pub whole_finished : AreTaken kept k octets heard.Finished middle → new ≡ finished_at 0 k Finished middle → put_out ≡ put_finished 0 k Finished middle outputs → Brings setup kept balanced outputs (Happened (Up k octets)) new balanced put_out
    whole_finished taken is puts =
        finish_brings setup kept middle new 0 k Finished (answer_at k (fresh false Streaming) taken.connection) (Happened (Up k octets)) outputs put_out
        (found_then kept middle k (fresh false Streaming) taken.offers taken.connection taken.found taken.is) (λ part. cc)
        (finished kept rest k outputs setup stream it octets short middle taken) is puts

  -- It is whole with the end.
  pub end_finished : IsEndTaken kept k ended.Complete middle → new ≡ finished_at 0 k Finished middle → put_out ≡ put_finished 0 k Finished middle outputs → Brings setup kept balanced outputs (Happened (UpEnd k)) new balanced put_out
  end_finished taken is puts =
      finish_brings setup kept middle new 0 k Finished (answer_at k (fresh false Streaming) taken.connection) (Happened (UpEnd k)) outputs put_out
      (found_then kept middle k (fresh false Streaming) taken.offers taken.connection taken.found taken.is) (λ part. cc)
      (completes kept rest k outputs setup stream it middle taken) is puts

-- ---- whether it is idle

-- a connection that works for none is, and no other
pub works_for_none : (o : Option Connection) (served : Option ℕ) → is_some o ≡ true → IfSome o (λ c. served ≡ served_by c.live) → (b : Bool) → is_some served ≡ not b → is_idle_one o ≡ b
works_for_none None served some of b is = absurd (let no : false ≡ true = some in cc)
works_for_none (Some c) served some of b is = by (is_idle c.live.answer) b (sym (ap (λ (o : Option ℕ). is_some o) of) ∙ is)
  where
    by : (x y : Bool) → is_some (if x then None else Some c.live.stream) ≡ not y → x ≡ y
    by true true same = refl
    by true false clash = let both : false ≡ true = clash in cc
    by false true clash = let both : true ≡ false = clash in cc
    by false false same = refl

-- one that is open is so still
pub marked_open : (most k : ℕ) (w : Heard) (kept : View) → is_some (find number_of k kept.upstreams.live) ≡ true → is_some (find number_of k (marked_as most k w kept).upstreams.live) ≡ true
marked_open most k w kept some =
    ap (λ (o : Option Connection). is_some o) (find_map number_of (marked_at k (answer_by most (idle_beside k (lives kept.upstreams.live)) w)) (λ y. refl) k kept.upstreams.live)
    ∙ by (find number_of k kept.upstreams.live) ∙ some
  where
    by : (o : Option Connection) → is_some (option_map (marked_at k (answer_by most (idle_beside k (lives kept.upstreams.live)) w)) o) ≡ is_some o
    by None = refl
    by (Some c) = refl

pub finished_by : (most k : ℕ) (w : Heard) (kept : View) (b : Bool) → is_idle_then most k w kept ≡ b → closed_unless b k (marked_as most k w kept) ≡ finished_at most k w kept
finished_by most k w kept b is = ap (λ x. closed_unless x k (marked_as most k w kept)) (sym is)

pub put_by : (most k : ℕ) (w : Heard) (kept : View) (outputs : List Output) (b : Bool) → is_idle_then most k w kept ≡ b → put_unless b k outputs ≡ put_finished most k w kept outputs
put_by most k w kept outputs b is = ap (λ x. put_unless x k outputs) (sym is)

-- what a response that leaves its connection open is heard as
pub verdict_kept : (keep : Bool) (held : Option Held) → (keep && not (is_some held)) ≡ true → Keepable ≡ verdict_by keep held
verdict_kept true None is = refl
verdict_kept true (Some h) is = let no : false ≡ true = is in cc
verdict_kept false held is = let no : false ≡ true = is in cc

pub verdict_else : (keep : Bool) (held : Option Held) → (keep && not (is_some held)) ≡ false → Finished ≡ verdict_by keep held
verdict_else true None is = let no : true ≡ false = is in cc
verdict_else true (Some h) is = refl
verdict_else false None is = refl
verdict_else false (Some h) is = refl
