-- What comes in ends the connection, and so does what follows it: the connection is shut.
use Rattle.std.proofs.Common.{◌≡◌, ℕ, true, false, List, [], ◌∷◌, ◌++◌, None, refl, sym, ◌∙◌, ap, subst, append_assoc}
use Rattle.model.specs.Frames.{Frame}
use Rattle.model.specs.Logs.{Output}
use Rattle.model.specs.Logs.Act.{Close, CloseClient}
use Rattle.model.specs.Setup.{Setup}
use Rattle.model.specs.Tables.{Table}
use Rattle.model.specs.Tapes.{Entry, is_closed}
use Rattle.model.specs.Tapes.Entry.{Sent, Did}
use Rattle.theory_errors.specs.Quiet.{noted_of}
use Rattle.theory_requests.specs.Lines.{Line}
use Rattle.theory.specs.Moves.{Decision, Move, entry_of}
use Rattle.theory.specs.Moves.Decision.{Acts, Sends}
use Rattle.theory.specs.Moves.Move.{Does}
use Rattle.theory.specs.State.{State, tape_of}
use Rattle.theory.specs.Rule.{AllAllowed, RestsBehind}
use Rattle.theory.specs.Ending.{goaway_by, goaway_of, sent_all, frames_sent, closes_of, closed_all, by_number, ending_of, ending_on_tape}
use Rattle.refinement.specs.View.{View, Pending, AreSo, Leads, balanced}
use Rattle.refinement.specs.Rest.{IsAtRest}
use Rattle.refinement.specs.Performing.{put_all}
use Rattle.refinement.proofs.Performing.{tape_behind}
use Rattle.event_handlers.specs.ending.Closing.{IsShut, IsEnded}
use Rattle.event_handlers.specs.ending.Reasons.{IsBy}
use Rattle.event_handlers.specs.declared.ending.reason.Ending.{Ending}
use Rattle.event_handlers.proofs.ending.Ends.{is_ended}
use Rattle.event_handlers.specs.Inputs.{Input}
use Rattle.event_handlers.specs.Comings.{FollowsFrom, ComesFrom}
use Rattle.event_handlers.proofs.Following.{IsInput, inputs_so, spelled_so, follow_so}

-- ---- the moves of an end on the tape

closes_tape : (ls : List Line) → tape_of (closes_of ls) ≡ closed_all ls
closes_tape [] = refl
closes_tape (l ∷ ls) = tape_behind (closes_of ls) (Does (Acts (Close l.k)) ∷ []) ∙ ap (λ (t : List Entry). t ++ Did (Close l.k) ∷ []) (closes_tape ls)

sent_tape : (table : Table) (fs : List Frame) → tape_of (sent_all table fs) ≡ frames_sent fs
sent_tape table [] = refl
sent_tape table (f ∷ fs) = tape_behind (sent_all table fs) (Does (Sends (noted_of f) table) ∷ []) ∙ ap (λ (t : List Entry). t ++ Sent (noted_of f) ∷ []) (sent_tape table fs)

pub end_tape : (s : State) (d : Decision) → tape_of (ending_of s d ++ Does d ∷ []) ≡ ending_on_tape s d
end_tape s d =
    tape_behind (ending_of s d) (Does d ∷ [])
    ∙ ap (λ (t : List Entry). Did CloseClient ∷ (t ++ entry_of d ∷ [])) (tape_behind (closes_of (by_number s)) (goaway_of s d) ∙ ap (λ (t : List Entry). t ++ tape_of (goaway_of s d)) (closes_tape (by_number s)) ∙ ap (λ (t : List Entry). closed_all (by_number s) ++ t) (sent_tape s.tables.encoding.table (goaway_by s d)))
    ∙ ap (λ (t : List Entry). Did CloseClient ∷ t) (append_assoc (closed_all (by_number s)) (frames_sent (goaway_by s d)) (entry_of d ∷ []))

-- ---- what comes in and ends the connection

module _ (setup : Setup) (before : View) (why : Ending) (input : Input) (o p : List Output) (rest : IsAtRest before) where
  pub ends_come : ((run : List Move) (s : State) → Leads setup run before balanced s → (d : Decision) × IsBy s why d × IsInput setup (entry_of d) input) → ((run : List Move) (s : State) (d : Decision) → Leads setup run before balanced s → IsBy s why d → p ≡ put_all o (ending_on_tape s d)) → ComesFrom setup before balanced o (input ∷ []) balanced None p
  ends_come decisions puts run s leads =
      let found = decisions run s leads in
      let d : Decision = found.0 in
      let ended : IsEnded setup run s d = is_ended setup run before s why d leads rest found.1 in
      let moves : List Move = ending_of s d ++ Does d ∷ [] in
      let all : moves ++ run ≡ ending_of s d ++ Does d ∷ run = append_assoc (ending_of s d) (Does d ∷ []) run in
      let tape : tape_of moves ≡ ended.own ++ entry_of d ∷ [] = end_tape s d ∙ ended.begins in
      record {
        moves = moves;
        stands = record { allowed = subst (λ (x : List Move). AllAllowed setup x) (sym all) ended.ends.allowed; so = subst (λ (x : List Move). AreSo setup x) (sym all) ended.so; rests = subst (λ (x : List Move). RestsBehind setup x) (sym all) ended.ends.rests; closed = refl };
        puts = puts run s d leads found.1 ∙ ap (λ (t : List Entry). put_all o t) (sym (end_tape s d));
        came = inputs_so setup (tape_of moves) ended.own (entry_of d) input found.2 tape ended.are_own;
        spelled = spelled_so setup (tape_of moves) ended.own (entry_of d) input found.2 tape ended.are_own;
        acts_follow = follow_so setup (tape_of moves) ended.own (entry_of d) input found.2 tape ended.are_own;
      }

-- ---- a connection that is spent is shut

closed_behind : (moves run : List Move) → is_closed (tape_of moves) ≡ true → is_closed (tape_of (moves ++ run)) ≡ true
closed_behind moves run closed = ap is_closed (tape_behind moves run) ∙ by (tape_of moves) closed
  where
    by : (t : List Entry) → is_closed t ≡ true → is_closed (t ++ tape_of run) ≡ true
    by [] is = absurd (let no : false ≡ true = is in cc)
    by (Entry.Came noted ∷ t) is = by t is
    by (Entry.Breached breach ∷ t) is = by t is
    by (Entry.Happened event ∷ t) is = by t is
    by (Sent noted ∷ t) is = by t is
    by (Did (Rattle.model.specs.Logs.Act.Open k route) ∷ t) is = by t is
    by (Did (Rattle.model.specs.Logs.Act.ToUp k octets) ∷ t) is = by t is
    by (Did (Close k) ∷ t) is = by t is
    by (Did CloseClient ∷ t) is = refl

pub shut_follows : (setup : Setup) (kept : View) (fresh back : ℕ) (pending : Pending) (o p : List Output) → ((run : List Move) (s : State) → Leads setup run kept (record balanced { fresh = fresh; shared = back }) s → IsShut setup run s o p) → FollowsFrom setup kept (record balanced { fresh = fresh; shared = back }) o pending None p
shut_follows setup kept fresh back pending o p shuts run s leads =
    let shut = shuts run s leads in
    record {
      moves = shut.moves;
      stands = record { allowed = shut.stands.allowed; so = shut.so; rests = shut.rests; closed = closed_behind shut.moves run shut.closed };
      puts = shut.puts;
      own = shut.are_own;
    }
