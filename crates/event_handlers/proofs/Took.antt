-- What a side took leaves the gateway at rest, and nothing is put out for it.
use Rattle.std.proofs.Common.{◌≡◌, ℕ, ◌<◌, ◌-◌, ◌||◌, List, [], ◌∷◌, map, Some, refl, ap, ◌∙◌}
use Rattle.std.specs.List.{list_any}
use Rattle.model.specs.Limits.{high_water}
use Rattle.model.specs.Logs.{Output}
use Rattle.model.specs.Setup.{Setup}
use Rattle.theory_requests.specs.Lines.{Line}
use Rattle.theory_requests.specs.Rule.{is_done, is_done_by}
use Rattle.upstream_connections.specs.Connections.{Connection, lives, taken_at}
use Rattle.upstream_connections.specs.Kept.{State}
use Rattle.refinement.specs.View.{View, balanced}
use Rattle.refinement.specs.Rest.{told_view, NoneDone}
use Rattle.refinement.proofs.Bringing.{own_none}
use Rattle.event_handlers.specs.Comings.{FollowsFrom}
use Rattle.event_handlers.specs.Resting.{IsSettled}
use Rattle.event_handlers.specs.paying.Returning.{IsReturned}
use Rattle.event_handlers.specs.paying.Taking.{with_taken}
use Rattle.event_handlers.proofs.Following.{follows_own}

-- which connections there are doesn't change with what their sides took
lives_taken : (k count : ℕ) (cs : List Connection) → lives (map (taken_at k count) cs) ≡ lives cs
lives_taken k count [] = refl
lives_taken k count (c ∷ cs) = ap (λ (ls : List Line). c.live ∷ ls) (lives_taken k count cs)

pub up_rests : (kept : View) (k stream count : ℕ) → IsSettled kept → IsSettled (with_taken k stream count kept)
up_rests kept k stream count s = record {
  rest = record {
    goes_on = s.rest.goes_on;
    none_cut = s.rest.none_cut;
    none_done = ap (λ (ls : List Line). list_any (is_done (told_view kept)) ls) (lives_taken k count kept.upstreams.live) ∙ s.rest.none_done;
    flushed = s.rest.flushed;
  };
  numbered = s.numbered;
}

-- where octets were given back, none is done with that wasn't
pub done_returned : (old new : View) → IsReturned old new → NoneDone old → NoneDone new
done_returned old new r none =
    ap (λ (u : State). list_any (is_done (told_view new)) (lives u.live)) r.upstreams ∙ same_any (lives old.upstreams.live) ∙ none
  where
    same_any : (ls : List Line) → list_any (is_done (told_view new)) ls ≡ list_any (is_done (told_view old)) ls
    same_any [] = refl
    same_any (l ∷ ls) = ap (λ b. is_done_by l.answer b || list_any (is_done (told_view new)) ls) (r.served l.stream) ∙ ap (λ b. is_done (told_view old) l || b) (same_any ls)

-- where few octets for the client were untaken, no part could go, and none can
pub client_rests : (kept : View) (count : ℕ) → kept.untaken < high_water → IsSettled kept → IsSettled (record kept { untaken = kept.untaken - count })
client_rests kept count few s = record {
  rest = record { goes_on = s.rest.goes_on; none_cut = s.rest.none_cut; none_done = s.rest.none_done; flushed = λ less. s.rest.flushed few };
  numbered = s.numbered;
}

-- nothing follows
pub follows_none : (setup : Setup) (kept : View) (o : List Output) → FollowsFrom setup kept balanced o balanced (Some kept) o
follows_none setup kept o = follows_own setup kept kept balanced balanced o o (own_none setup kept balanced o)
