-- What is put out where the connection ends with what came in.
use Rattle.std.proofs.Common.{◌≡◌, ℕ, List, [], ◌∷◌, ◌++◌, reverse, Option, Some, None, sym, ◌∙◌, ap, subst, if◌then◌else◌, arith, Bool, nat_lt}
use Rattle.model.specs.Frames.{Frame, goaway, enhance_your_calm}
use Rattle.model.specs.Logs.{Output}
use Rattle.model.specs.Logs.Act.{Close, CloseClient}
use Rattle.model.specs.Setup.{Setup}
use Rattle.model.specs.Tables.{Table}
use Rattle.model.specs.Tapes.{Noted, put_entry}
use Rattle.model.specs.Tapes.Entry.{Came, Did}
use Rattle.model.specs.Errors.{Fault}
use Rattle.theory_errors.specs.Owing.{highest_in, opened_after, code_of_goaway_in}
use Rattle.theory_errors.specs.Book.{Book}
use Rattle.theory_errors.specs.Rows.{Row, ids_of}
use Rattle.theory_requests.specs.State as theory_requests
use Rattle.theory_requests.specs.Lines.{Line}
use Rattle.upstream_connections.specs.Connections.{lives}
use Rattle.upstream_connections.specs.Kept as upstreams
use Rattle.theory.specs.Moves.{Decision, Move, entry_of}
use Rattle.theory.specs.Moves.Decision.{Breaks}
use Rattle.theory.specs.State.{State, turns_of}
use Rattle.theory.specs.Steps.{told_by, Stands}
use Rattle.theory.specs.Ending.{goaway_for, goaway_by, frames_sent, closed_all, by_number, ending_on_tape, IsFatal}
use Rattle.theory.proofs.EndingLives.{AreApart, all_apart}
use Rattle.theory.proofs.EndingOpens.{opens_none}
use Rattle.theory.proofs.Placing.{turns_may}
use Rattle.refinement.specs.View.{View, balanced, Leads}
use Rattle.refinement.specs.Performing.{put_all}
use Rattle.refinement.specs.Bringing.{AreOwn}
use Rattle.refinement.proofs.Bringing.{own_behind}
use Rattle.refinement.proofs.Performing.{put_behind}
use Rattle.theory_errors.specs.Judging.{is_crowded_in}
use Rattle.model.specs.Limits.{most_untaken}
use Rattle.event_handlers.specs.ending.Reasons.{code_in, IsBy}
use Rattle.event_handlers.specs.declared.ending.reason.Ending.{Ending}
use Rattle.event_handlers.specs.declared.ending.reason.Ending.TheVariants.{Gone, Breach as Broken, Frame as Wrong}

-- Open connections of a state to which moves led have numbers of their own.
pub apart_in : (setup : Setup) (run : List Move) (s : State) → Stands setup run s → AreApart s.requests.live
apart_in setup run s stands = subst (λ (x : State). AreApart x.requests.live) stands.is (all_apart setup (turns_of setup run) (turns_may setup run stands.allowed))

-- the GOAWAY, if there is one
abbrev pub goaways : ℕ → Option ℕ → List Frame
goaways last None = []
goaways last (Some code) = goaway last code ∷ []

-- the code that is told: where too many octets are untaken the client is asked to be calm, whatever the error is
abbrev pub code_told : Bool → Option ℕ → Option ℕ
code_told crowded None = None
code_told crowded (Some code) = Some (if crowded then enhance_your_calm else code)

module _ (s : State) where
  -- a frame that is an error of the connection opens no stream
  opened_same : (noted : Noted) (next : Table) → IsFatal s noted next → opened_after (told_by s) (Came noted) ≡ (told_by s).opened
  opened_same noted next fatal = ap (λ b. if b then noted.frame.id ∷ (told_by s).opened else (told_by s).opened) (opens_none (told_by s) noted s.tables.decoding next fatal.noted_right.is_noted fatal.fatal)

  -- The decision calls for the GOAWAY with the code.
  pub goaway_is : (why : Ending) (d : Decision) → IsBy s why d → goaway_by s d ≡ goaways (highest_in (told_by s).opened) (code_told (is_crowded_in (told_by s)) (code_in why))
  goaway_is Gone d by = ap (λ (x : Decision). goaway_by s x) by
  goaway_is (Broken code) d by = ap (λ (x : Decision). goaway_by s x) by.1 ∙ ap (λ (found : Option Fault). goaway_for (told_by s) (entry_of (Breaks by.0)) found) by.2
  goaway_is (Wrong code) d by =
      ap (λ (x : Decision). goaway_by s x) by.2
      ∙ ap (λ (found : Option Fault). goaway_for (told_by s) (Came by.0) found) by.3
      ∙ ap (λ (ids : List ℕ). goaway (highest_in ids) (code_of_goaway_in (told_by s) code) ∷ []) (opened_same by.0 by.1 by.4)

  -- it puts nothing out itself
  pub puts_none : (why : Ending) (d : Decision) (outputs : List Output) → IsBy s why d → put_entry outputs (entry_of d) ≡ outputs
  puts_none Gone d outputs by = ap (λ (x : Decision). put_entry outputs (entry_of x)) by
  puts_none (Broken code) d outputs by = ap (λ (x : Decision). put_entry outputs (entry_of x)) by.1
  puts_none (Wrong code) d outputs by = ap (λ (x : Decision). put_entry outputs (entry_of x)) by.2

-- ---- what is the gateway's own

pub closed_own : (ls : List Line) → AreOwn (closed_all ls)
closed_own [] = tt
closed_own (l ∷ ls) = own_behind (closed_all ls) (Did (Close l.k) ∷ []) (closed_own ls) tt

goaways_own : (last : ℕ) (code : Option ℕ) → AreOwn (frames_sent (goaways last code))
goaways_own last None = tt
goaways_own last (Some code) = (record { kind = omega arith; flags = omega arith; id = omega arith; payload = omega arith }, tt)

-- The end but for the decision is.
pub end_own : (s : State) (why : Ending) (d : Decision) → IsBy s why d → AreOwn (Did CloseClient ∷ (closed_all (by_number s) ++ frames_sent (goaway_by s d)))
end_own s why d by =
    own_behind (closed_all (by_number s)) (frames_sent (goaway_by s d)) (closed_own (by_number s))
    (subst (λ (frames : List Frame). AreOwn (frames_sent frames)) (sym (goaway_is s why d by)) (goaways_own (highest_in (told_by s).opened) (code_told (is_crowded_in (told_by s)) (code_in why))))

-- ---- what is put out

-- All that is put out: the GOAWAY, a close for each open connection, and that for the client.
pub ends : (setup : Setup) (run : List Move) (s : State) (before kept : View) (why : Ending) (d : Decision) (outputs told put_out : List Output) → told ≡ put_all outputs (frames_sent (goaways (highest_in (ids_of kept.inbound.rows)) (code_told (nat_lt most_untaken kept.untaken) (code_in why))))
    → put_out ≡ put_all told (Did CloseClient ∷ closed_all (reverse (lives kept.upstreams.live)))
    → before.upstreams ≡ kept.upstreams → before.inbound.rows ≡ kept.inbound.rows → before.untaken ≡ kept.untaken → Leads setup run before balanced s → IsBy s why d → put_out ≡ put_all outputs (ending_on_tape s d)
ends setup run s before kept why d outputs told put_out tells closes same_upstreams same_rows same_untaken leads by =
    closes
    ∙ ap (λ (o : List Output). put_all o (Did CloseClient ∷ closed_all (reverse (lives kept.upstreams.live)))) (tells ∙ goaway)
    ∙ ap (λ (ls : List Line). put_all (put_all outputs (frames_sent (goaway_by s d) ++ entry_of d ∷ [])) (Did CloseClient ∷ closed_all (reverse ls))) (sym live)
    ∙ sym (put_behind outputs (Did CloseClient ∷ closed_all (by_number s)) (frames_sent (goaway_by s d) ++ entry_of d ∷ []))
  where
    live : s.requests.live ≡ lives kept.upstreams.live
    live = ap (λ (r : theory_requests.State). r.live) leads.keeps.requests ∙ ap (λ (u : upstreams.State). lives u.live) same_upstreams

    rows : (told_by s).opened ≡ ids_of kept.inbound.rows
    rows = ap (λ (b : Book). ids_of b.rows) leads.keeps.book ∙ ap (λ (r : List Row). ids_of r) same_rows

    frames : List Frame
    frames = goaways (highest_in (ids_of kept.inbound.rows)) (code_told (nat_lt most_untaken kept.untaken) (code_in why))

    crowded : is_crowded_in (told_by s) ≡ nat_lt most_untaken kept.untaken
    crowded = ap (λ (b : Book). nat_lt most_untaken b.untaken) leads.keeps.book ∙ ap (nat_lt most_untaken) same_untaken

    goaway : put_all outputs (frames_sent frames) ≡ put_all outputs (frames_sent (goaway_by s d) ++ entry_of d ∷ [])
    goaway =
        ap (λ (fs : List Frame). put_all outputs (frames_sent fs))
        (ap (λ (ids : List ℕ). goaways (highest_in ids) (code_told (nat_lt most_untaken kept.untaken) (code_in why))) (sym rows)
        ∙ ap (λ b. goaways (highest_in (told_by s).opened) (code_told b (code_in why))) (sym crowded)
        ∙ sym (goaway_is s why d by))
        ∙ ap (λ (o : List Output). put_all o (frames_sent (goaway_by s d))) (sym (puts_none s why d outputs by))
        ∙ sym (put_behind outputs (frames_sent (goaway_by s d)) (entry_of d ∷ []))
