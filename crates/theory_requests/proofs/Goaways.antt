-- A GOAWAY changes no stream: what is due can still be done behind it, while the connection goes on.
use Rattle.std.proofs.Common.{◌≡◌, ℕ, Bool, true, false, not, ◌==◌, ◌&&◌, ◌||◌, List, [], ◌∷◌, length, refl, sym, ap, ◌∙◌, subst, inl, inr, if◌then◌else◌}
use Rattle.std.specs.Prelude.{Option, Some, None, filter, is_none, nat_lt}
use Rattle.std.specs.List.{list_any}
use Rattle.model.specs.Frames.{data_kind, headers_kind, rst_stream_kind, continuation_kind, goaway_kind, has_flag, ends_stream}
use Rattle.model.specs.Tapes.{Noted, Entry, sent}
use Rattle.model.specs.Tapes.Entry.{Sent}
use Rattle.model.specs.Decoding.{completed, begun, joined}
use Rattle.model.specs.Known.{Known}
use Rattle.model.specs.Lifetimes.{opened, is_opened, is_over, is_active, ends_by, is_ended_by_client, is_ended_by_gateway, is_reset_by_client, is_reset_by_gateway, is_full}
use Rattle.model.specs.Messages.{ends_with}
use Rattle.model.specs.Causes.{Cause}
use Rattle.model.specs.Courses.{items, cause, first_of_both}
use Rattle.model.specs.ErrorClause.{is_calming, calls_for_end, must_end}
use Rattle.model.proofs.ItemLaws.{items_stay}
use Rattle.theory_requests.specs.Told.{is_served}
use Rattle.theory_requests.specs.State.{Due, State}
use Rattle.theory_requests.specs.State.Due.{Nothing, ToOpen, ToUse, ToSend}
use Rattle.h1_writer.specs.Sending.{Stage}
use Rattle.theory_requests.specs.Rule.{MaySend}
use Rattle.theory_requests.specs.Written.{IsWritten}
use Rattle.model.specs.Http2.{HasHead}
use Rattle.theory_requests.proofs.Standing.{IsStarting, IsDue}

module _ (t : List Entry) (noted : Noted) (is : noted.frame.kind ≡ goaway_kind) where
  -- it ends no stream
  ends_none : ends_by (completed (sent t) noted.frame) noted.frame ≡ false
  ends_none =
      let no_headers : (noted.frame.kind == headers_kind) ≡ false = ap (λ k. k == headers_kind) is in
      let no_continuation : (noted.frame.kind == continuation_kind) ≡ false = ap (λ k. k == continuation_kind) is in
      let no_data : (noted.frame.kind == data_kind) ≡ false = ap (λ k. k == data_kind) is in
      let none : completed (sent t) noted.frame ≡ None =
      ap (λ b. if (b || noted.frame.kind == continuation_kind) && has_flag 4 noted.frame then joined (begun (sent t)) noted.frame else None) no_headers
      ∙ ap (λ b. if b && has_flag 4 noted.frame then joined (begun (sent t)) noted.frame else None) no_continuation in
      ap (λ b. ends_by b noted.frame) none ∙ ap (λ b. b && ends_stream noted.frame) no_data

  neither : (a b : Bool) → (a && false || b) ≡ b
  neither true b = refl
  neither false b = refl

  -- nor is one over with it
  over_same : (stream : ℕ) → is_over stream (Sent noted ∷ t) ≡ is_over stream t
  over_same stream =
      ap (λ b. (b && noted.frame.id == stream || is_reset_by_gateway stream t) || is_reset_by_client stream t || is_ended_by_client stream t && (noted.frame.id == stream && ends_by (completed (sent t) noted.frame) noted.frame || is_ended_by_gateway stream t)) (ap (λ k. k == rst_stream_kind) is)
      ∙ ap (λ b. is_reset_by_gateway stream t || is_reset_by_client stream t || is_ended_by_client stream t && (noted.frame.id == stream && b || is_ended_by_gateway stream t)) ends_none
      ∙ ap (λ b. is_reset_by_gateway stream t || is_reset_by_client stream t || is_ended_by_client stream t && b) (neither (noted.frame.id == stream) (is_ended_by_gateway stream t))

  pub active_same : (stream : ℕ) → is_active stream (Sent noted ∷ t) ≡ is_active stream t
  active_same stream = ap (λ b. is_opened stream t && not b) (over_same stream)

  all_same : (ids : List ℕ) → filter (λ id. not (is_over id (Sent noted ∷ t))) ids ≡ filter (λ id. not (is_over id t)) ids
  all_same [] = refl
  all_same (id ∷ ids) =
      ap (λ b. if not b then id ∷ filter (λ other. not (is_over other (Sent noted ∷ t))) ids else filter (λ other. not (is_over other (Sent noted ∷ t))) ids) (over_same id)
      ∙ ap (λ xs. if not (is_over id t) then id ∷ xs else xs) (all_same ids)

  -- unless it ends the connection, that is to end behind it just where it was
  pub end_same : (known : Known) → is_calming noted.frame ≡ false → must_end known (Sent noted ∷ t) ≡ must_end known t
  end_same known mild =
      ap (λ b. (b || calls_for_end known t) || is_full t && length (filter (λ id. not (is_over id (Sent noted ∷ t))) (opened t)) == 0) mild
      ∙ ap (λ (ids : List ℕ). calls_for_end known t || is_full t && length ids == 0) (all_same (opened t))

-- a frame that is sent is no cause of an answer of the gateway's own
cause_same : (known : Known) (t : List Entry) (noted : Noted) (stream : ℕ) → cause known stream (Sent noted ∷ t) ≡ cause known stream t
cause_same known t noted stream = ap (λ c. first_of_both (cause known stream t) c) (none (0 == stream && nat_lt 0 stream)) ∙ stays (cause known stream t)
  where
    none : (b : Bool) → ◌≡◌ {A = Option Cause} (if b then None else None) None
    none true = refl
    none false = refl

    stays : (c : Option Cause) → first_of_both c None ≡ c
    stays None = refl
    stays (Some c) = refl

-- Which streams are served doesn't change with a GOAWAY.
pub served_same : (known : Known) (t : List Entry) (noted : Noted) → noted.frame.kind ≡ goaway_kind → (stream : ℕ) → is_served known stream (Sent noted ∷ t) ≡ is_served known stream t
served_same known t noted is stream =
    ap (λ b. b && is_none (cause known stream (Sent noted ∷ t))) (active_same t noted is stream)
    ∙ ap (λ (c : Option Cause). is_active stream t && is_none c) (cause_same known t noted stream)

-- what is due behind a frame that may be sent can be done
pub due_sent : (known : Known) (t : List Entry) (noted : Noted) (s : State) → MaySend s noted → IsDue known t s.live s.due → IsDue known (Sent noted ∷ t) s.live s.due
due_sent known t noted s (inl nothing) due = subst (IsDue known (Sent noted ∷ t) s.live) (sym nothing) tt
due_sent known t noted s (inr (is, mild)) due = by s.due due
  where
    same : (stream : ℕ) → items known stream (Sent noted ∷ t) ≡ items known stream t
    same stream = sym (items_stay known stream t (Sent noted) refl)

    starts : (stream route : ℕ) (text : List ℕ) (stage : Stage) (idle : Option ℕ) → IsStarting known t s.live stream route text stage idle → IsStarting known (Sent noted ∷ t) s.live stream route text stage idle
    starts stream route text stage idle it = record {
      last = it.last;
      none_given = λ o given. it.none_given o (record { is_opened = given.is_opened; is_given = given.is_given });
      written = subst (λ xs. IsWritten known.setup.keep xs text stage) (sym (same stream)) it.written;
      head = it.head;
      has_head = subst (λ xs. HasHead xs it.head) (sym (same stream)) it.has_head;
      by_route = it.by_route;
      in_time = record {
        active = active_same t noted is stream ∙ it.in_time.active;
        no_cause = cause_same known t noted stream ∙ it.in_time.no_cause;
        goes_on = end_same t noted is known mild ∙ it.in_time.goes_on;
        whole = λ whole. ap (λ xs. list_any ends_with xs) (same stream) ∙ it.in_time.whole whole;
      };
      bare = it.bare;
      none_finished = it.none_finished;
      least = it.least;
    }

    by : (d : Due) → IsDue known t s.live d → IsDue known (Sent noted ∷ t) s.live d
    by Nothing it = tt
    by (ToOpen stream route text stage) it = starts stream route text stage None it
    by (ToUse k stream text stage) it = (it.0, starts stream it.0 text stage (Some k) it.1)
    by (ToSend k text) it = record { line = it.line; found = it.found; stream = it.stream; pending = it.pending; none_finished = it.none_finished }
