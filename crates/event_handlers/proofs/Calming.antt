-- The connection ends in place of a frame, since too many octets for the client are untaken: this comes by the rule.
use Rattle.std.proofs.Common.{◌≡◌, ℕ, nat_lt, List, [], ◌∷◌, ◌++◌, reverse, None, refl, sym, ◌∙◌, ap, subst, append_assoc, arith}
use Rattle.std.proofs.lemmas.Bool.{ltb-true}
use Rattle.model.specs.Limits.{most_untaken}
use Rattle.model.specs.Frames.{goaway, enhance_your_calm}
use Rattle.model.specs.Logs.{Output}
use Rattle.model.specs.Logs.Act.{CloseClient}
use Rattle.model.specs.Setup.{Setup}
use Rattle.model.specs.Tapes.{Entry}
use Rattle.model.specs.Tapes.Entry.{Sent, Did}
use Rattle.theory_errors.specs.Book.{Book}
use Rattle.theory_errors.specs.Owing.{highest_in}
use Rattle.theory_errors.specs.Quiet.{noted_of}
use Rattle.theory_errors.specs.Rows.{ids_of}
use Rattle.theory_requests.specs.State as theory_requests
use Rattle.theory_requests.specs.Lines.{Line}
use Rattle.theory_requests.specs.State.Due.{Nothing}
use Rattle.upstream_connections.specs.Connections.{lives}
use Rattle.theory.specs.Ending.{calming_of, IsCrowded, closed_all, ending_of, Ends}
use Rattle.theory.specs.Moves.{Decision, Move, entry_of}
use Rattle.theory.specs.Moves.Move.{Does}
use Rattle.theory.specs.Rule.{AllAllowed, RestsBehind}
use Rattle.theory.specs.State.{State, tape_of}
use Rattle.theory.specs.Steps.{told_by}
use Rattle.theory.proofs.EndingAnswers.{answered}
use Rattle.theory.proofs.EndingStarts.{calming_leads}
use Rattle.refinement.specs.Bringing.{AreOwn, PerformsOwn, Brings}
use Rattle.refinement.specs.Crowding.{WouldBeSent}
use Rattle.refinement.specs.Performing.{put_all}
use Rattle.refinement.specs.View.{View, Pending, balanced, AreSo, Leads}
use Rattle.refinement.proofs.Bringing.{own_behind}
use Rattle.refinement.proofs.Crowding.{crowded_so}
use Rattle.event_handlers.specs.Comings.{ComesFrom}
use Rattle.event_handlers.specs.Inputs.{Input}
use Rattle.event_handlers.specs.Stopping.{calmed, IsCalmed, EndsFrom}
use Rattle.event_handlers.proofs.Ends.{end_tape}
use Rattle.event_handlers.proofs.Following.{IsInput, follows_then, comes_then}
use Rattle.event_handlers.proofs.ending.Ends.{known_before}
use Rattle.event_handlers.proofs.ending.Goaways.{closed_own}

-- views with the same streams, connections and untaken octets end the same way
pub calmed_as : (a b : View) (o p : List Output) → ids_of a.inbound.rows ≡ ids_of b.inbound.rows → lives a.upstreams.live ≡ lives b.upstreams.live → a.untaken ≡ b.untaken → IsCalmed a o p → IsCalmed b o p
calmed_as a b o p ids live untaken is = (
  ap (nat_lt most_untaken) (sym untaken) ∙ is.0,
  is.1
      ∙ ap (λ (ls : List Line). put_all o (Did CloseClient ∷ (closed_all (reverse ls) ++ Sent (noted_of (goaway (highest_in (ids_of a.inbound.rows)) enhance_your_calm)) ∷ []))) live
      ∙ ap (λ (xs : List ℕ). put_all o (Did CloseClient ∷ (closed_all (reverse (lives b.upstreams.live)) ++ Sent (noted_of (goaway (highest_in xs) enhance_your_calm)) ∷ []))) ids,
)

module _ (setup : Setup) (kept : View) (pending : Pending) (would : WouldBeSent kept pending) (nothing_due : pending.due ≡ Nothing) (o p : List Output) (is : IsCalmed kept o p) where
  module _ (run : List Move) (s : State) (leads : Leads setup run kept pending s) where
    crowd : IsCrowded s
    crowd = crowded_so setup run kept pending s leads (record { crowded = ltb-true most_untaken kept.untaken is.0; nothing_due = nothing_due; would_go = would })

    abbrev d : Decision
    d = calming_of s

    ends : Ends setup run s d
    ends = calming_leads setup run s leads.stands crowd

    abbrev moves : List Move
    moves = ending_of s d ++ Does d ∷ []

    all : moves ++ run ≡ ending_of s d ++ Does d ∷ run
    all = append_assoc (ending_of s d) (Does d ∷ []) run

    live : s.requests.live ≡ lives kept.upstreams.live
    live = ap (λ (r : theory_requests.State). r.live) leads.keeps.requests

    ids : (told_by s).opened ≡ ids_of kept.inbound.rows
    ids = ap (λ (b : Book). ids_of b.rows) leads.keeps.book

    -- what is put out is what the rule has
    tape : tape_of moves ≡ calmed kept
    tape =
        end_tape s d
        ∙ ap (λ (ls : List Line). Did CloseClient ∷ (closed_all (reverse ls) ++ entry_of d ∷ [])) live
        ∙ ap (λ (xs : List ℕ). Did CloseClient ∷ (closed_all (reverse (lives kept.upstreams.live)) ++ Sent (noted_of (goaway (highest_in xs) enhance_your_calm)) ∷ [])) ids

    calmed_own : AreOwn (calmed kept)
    calmed_own =
        own_behind (closed_all (reverse (lives kept.upstreams.live))) (Sent (noted_of (goaway (highest_in (ids_of kept.inbound.rows)) enhance_your_calm)) ∷ [])
        (closed_own (reverse (lives kept.upstreams.live)))
        (record { kind = omega arith; flags = omega arith; id = omega arith; payload = omega arith }, tt)

    so : AreSo setup (ending_of s d ++ Does d ∷ run)
    so known same knows = answered known run s d (leads.so known same (known_before known (ending_of s d) (Does d ∷ run) knows).0) tt

  -- Where a frame would go, and too many octets are untaken for it, the connection ends.
  pub calm_ends : EndsFrom setup kept pending o p
  calm_ends run s leads = record {
    moves = moves run s leads;
    stands = record {
      allowed = subst (λ (x : List Move). AllAllowed setup x) (sym (all run s leads)) (ends run s leads).allowed;
      so = subst (λ (x : List Move). AreSo setup x) (sym (all run s leads)) (so run s leads);
      rests = subst (λ (x : List Move). RestsBehind setup x) (sym (all run s leads)) (ends run s leads).rests;
      closed = refl;
    };
    puts = is.1 ∙ ap (λ (t : List Entry). put_all o t) (sym (tape run s leads));
    own = subst AreOwn (sym (tape run s leads)) (calmed_own run s leads);
  }

-- behind a part that performs
pub calm_behind : (setup : Setup) (a b : View) (x y : Pending) (o p q : List Output) → PerformsOwn setup a x o b y p → EndsFrom setup b y p q → EndsFrom setup a x o q
calm_behind setup a b x y o p q performs ends = follows_then setup a b x y balanced o p q None performs ends

-- and behind what came in
pub calm_comes : (setup : Setup) (a b : View) (x y : Pending) (o p q : List Output) (entry : Entry) (input : Input) → IsInput setup entry input → Brings setup a x o entry b y p → EndsFrom setup b y p q → ComesFrom setup a x o (input ∷ []) balanced None q
calm_comes setup a b x y o p q entry input is brings ends = comes_then setup a b x y balanced o p q entry input None is brings ends
