-- What comes of an idle connection, in the words of the calls: octets or its end close it, no octets leave it, and it is gone where it fails.
use Rattle.std.proofs.Common.{◌≡◌, ℕ, ◌≤◌, true, List, [], ◌∷◌, length, Some, refl, ◌∙◌, ap, subst, if◌then◌else◌}
use Rattle.std.specs.Prelude.{option_map}
use Rattle.std.proofs.lemmas.Bool.{eq-eqb}
use Rattle.model.specs.Logs.{Event, Output}
use Rattle.model.specs.Logs.Act.{Close}
use Rattle.model.specs.Logs.Event.{Up, UpEnd, UpFailed}
use Rattle.model.specs.Logs.Output.{Does as Puts}
use Rattle.model.specs.Setup.{Setup}
use Rattle.model.specs.Tapes.{put}
use Rattle.model.specs.Tapes.Entry.{Happened}
use Rattle.model.specs.Courses.{upstream_of}
use Rattle.theory_receive_windows.specs.Policy.{Gates, may_come}
use Rattle.theory_receive_windows.specs.State as theory_receive_windows
use Rattle.theory_requests.specs.Lines.{find}
use Rattle.theory_requests.specs.Lines.Answer.{Idle, Done}
use Rattle.theory_requests.specs.Lines.Heard.{Finished}
use Rattle.theory_requests.specs.Rule.{is_done_by}
use Rattle.theory_requests.specs.State as theory_requests
use Rattle.theory_requests.proofs.Lists.{found_key, find_map}
use Rattle.upstream_connections.specs.Connections.{Connection, number_of, marked_at}
use Rattle.theory.specs.Moves.{idled}
use Rattle.theory.specs.Coming.{MayBreakOff}
use Rattle.refinement.specs.View.{View, balanced}
use Rattle.refinement.specs.Rest.{IsAtRest, told_view}
use Rattle.refinement.specs.Bringing.{Brings}
use Rattle.refinement.proofs.Bringing.{brings_then}
use Rattle.refinement.proofs.Idled as relayed
use Rattle.refinement.proofs.Idles.{finished_closed}
use Rattle.refinement.proofs.Lives.{IsDone}
use Rattle.event_handlers.specs.exchanges.Giving.{closed_at}
use Rattle.event_handlers.specs.exchanges.Finishing.{closed_by, put_closed_by, marked_as}
use Rattle.event_handlers.proofs.exchanges.Brings.{octets_come}
use Rattle.event_handlers.proofs.paying.Closes.{closes}

module _ (setup : Setup) (kept : View) (rest : IsAtRest kept) (k : ℕ) (c : Connection) (found : find number_of k kept.upstreams.live ≡ Some c) (is_idle : c.live.answer ≡ Idle) (outputs : List Output) where
  -- it is done with, and closed
  closed_behind : (event : Event) → upstream_of event ≡ k → MayBreakOff event → idled event ≡ theory_requests.Move.Hears event Finished → ((gates : Gates) (rooms : theory_receive_windows.State) → gates.is_up k ≡ true → may_come gates rooms event ≡ true)
      → Brings setup kept balanced outputs (Happened event) (closed_at k kept) balanced (put outputs (Puts (Close k)))
  closed_behind event of may is comes =
      subst (λ (cs : List Connection). Brings setup kept balanced outputs (Happened event) (record (closed_at k kept) { upstreams = record (closed_at k kept).upstreams { live = cs } }) balanced (put outputs (Puts (Close k)))) (finished_closed k Done kept.upstreams.live)
      (brings_then setup kept (marked_as 0 k Finished kept) (closed_at k (marked_as 0 k Finished kept)) balanced balanced balanced outputs outputs (put outputs (Puts (Close k))) (Happened event)
      (λ run s leads. relayed.finish setup kept rest run s leads k c found is_idle event of may is comes outputs)
      (closes setup (marked_as 0 k Finished kept) 0 k (λ top below. done) outputs))
    where
      done : IsDone (told_view (marked_as 0 k Finished kept)) (marked_as 0 k Finished kept).upstreams.live k
      done = record {
        connection = marked_at k Done c;
        found = find_map number_of (marked_at k Done) (λ y. refl) k kept.upstreams.live ∙ ap (option_map (marked_at k Done)) found;
        done = ap (λ b. is_done_by (if b then Done else c.live.answer) ((told_view kept).served c.live.stream)) (eq-eqb c.live.k k (found_key number_of k kept.upstreams.live c found));
      }

  -- Octets come, if any.
  pub idle_hears : (octets : List ℕ) → length octets ≤ 65536 → Brings setup kept balanced outputs (Happened (Up k octets)) (closed_by octets k kept) balanced (put_closed_by octets k outputs)
  idle_hears [] short run s leads = relayed.stay setup kept rest run s leads k c found is_idle outputs
  idle_hears (octet ∷ octets) short run s leads = closed_behind (Up k (octet ∷ octets)) refl tt refl (octets_come k (octet ∷ octets) short) run s leads

  -- It ends.
  pub idle_ends : Brings setup kept balanced outputs (Happened (UpEnd k)) (closed_at k kept) balanced (put outputs (Puts (Close k)))
  idle_ends = closed_behind (UpEnd k) refl tt refl (λ gates rooms up. up)

  -- It fails.
  pub idle_fails : Brings setup kept balanced outputs (Happened (UpFailed k)) (closed_at k kept) balanced outputs
  idle_fails run s leads = relayed.gone setup kept rest run s leads k c found is_idle outputs
