-- Each open connection is closed.
use Rattle.std.proofs.Common.{◌≡◌, ℕ, ◌+◌, ◌<◌, ◌≤◌, List, [], ◌∷◌, ◌++◌, length, reverse, take, get_or, Ok, Err, refl, sym, ◌∙◌, ap, add-one}
use Rattle.std.specs.Prelude.{Result, OnOk}
use Rattle.std.proofs.Math.Seq.{take-suc}
use Rattle.std.proofs.lemmas.List.{map-append, take_all, reverse-reverse}
use Rattle.model.specs.Logs.{Output}
use Rattle.model.specs.Logs.Output.{Does}
use Rattle.model.specs.Logs.Act.{Close}
use Rattle.model.specs.Tapes.{Entry, put}
use Rattle.model.specs.Tapes.Entry.{Did}
use Rattle.theory_requests.specs.Lines.{Line}
use Rattle.streams.proofs.Lists.{map-reverse}
use Rattle.upstream_connections.specs.Connections.{Connection, lives}
use Rattle.theory.specs.Ending.{closed_all}
use Rattle.refinement.specs.Performing.{put_all}

-- one more is closed behind some
closed_behind : (ls : List Line) (l : Line) → closed_all (ls ++ l ∷ []) ≡ Did (Close l.k) ∷ closed_all ls
closed_behind [] l = refl
closed_behind (x ∷ ls) l = ap (λ (t : List Entry). t ++ Did (Close x.k) ∷ []) (closed_behind ls l)

-- the same of those before a place, and the one at it
lives_more : (cs : List Connection) (place : ℕ) (c : Connection) → place < length cs → c ≡ get_or cs place c → lives (take (place + 1) cs) ≡ lives (take place cs) ++ c.live ∷ []
lives_more cs place c within is =
    rw add-one (
    ap lives (take-suc cs place c within ∙ ap (λ (x : Connection). take place cs ++ x ∷ []) (sym is))
    ∙ map-append (λ (x : Connection). x.live) (take place cs) (c ∷ [])
    )

pub closes_more : (outputs : List Output) (cs : List Connection) (place : ℕ) (c : Connection) → place < length cs → c ≡ get_or cs place c → put (put_all outputs (closed_all (lives (take place cs)))) (Does (Close c.live.k)) ≡ put_all outputs (closed_all (lives (take (place + 1) cs)))
closes_more outputs cs place c within is =
    ap (put_all outputs) (sym (ap closed_all (lives_more cs place c within is) ∙ closed_behind (lives (take place cs)) c.live))

-- Those before the end are all, by rising number.
pub closes_all : (cs live : List Connection) (place : ℕ) → reverse cs ≡ live → length cs ≤ place → lives (take place cs) ≡ reverse (lives live)
closes_all cs live place turned behind =
    ap lives (take_all place cs behind ∙ sym (reverse-reverse cs) ∙ ap (λ (xs : List Connection). reverse xs) turned)
    ∙ map-reverse (λ (x : Connection). x.live) live

-- what follows of one that isn't refused
pub on_ok : {T E P Q : Type 0} (r : Result T E) → (P → Q) → OnOk r P → OnOk r Q
on_ok (Ok t) leads is = leads is
on_ok (Err e) leads is = tt
