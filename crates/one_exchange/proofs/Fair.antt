-- A stream is ready at the same turns.
use Rattle.std.proofs.Common.{ℕ, List, [], ◌∷◌, ◌++◌, ◌∙◌, subst, append_assoc}
use Rattle.model.specs.Tapes.{Entry}
use Rattle.model.specs.Tapes.Entry.{Came, Breached, Happened, Sent, Did}
use Rattle.model.specs.Known.{Known}
use Rattle.model.specs.Synchrony.{IsReadyAtEach, AreFair}
use Rattle.one_exchange.specs.Turns.{IsReadyAtEachOnce, AreFairOnce}
use Rattle.one_exchange.proofs.Alone.{Stands, before, before_all}
use Rattle.one_exchange.proofs.Ending.{ready_now}

module _ (known : Known) (stream : ℕ) (earlier : List Entry) where
  ready_at_each : (stretch : List Entry) → Stands known (stretch ++ earlier) → IsReadyAtEachOnce known stream earlier stretch → IsReadyAtEach known stream earlier stretch
  ready_at_each [] s r = tt
  ready_at_each (Came noted ∷ stretch) s r = ready_at_each stretch (before known (Came noted) (stretch ++ earlier) s) r
  ready_at_each (Breached breach ∷ stretch) s r = ready_at_each stretch (before known (Breached breach) (stretch ++ earlier) s) r
  ready_at_each (Happened event ∷ stretch) s r = ready_at_each stretch (before known (Happened event) (stretch ++ earlier) s) r
  ready_at_each (Sent noted ∷ stretch) s r =
      let was = before known (Sent noted) (stretch ++ earlier) s in
      (λ begins. ready_now known (stretch ++ earlier) was stream (r.0 begins), ready_at_each stretch was r.1)
  ready_at_each (Did act ∷ stretch) s r = ready_at_each stretch (before known (Did act) (stretch ++ earlier) s) r

pub are_fair : (known : Known) (t : List Entry) → Stands known t → AreFair known t → AreFairOnce known t
are_fair known t s fair = λ later stretch earlier is waits other ready none.
    let there = before_all known later (stretch ++ earlier) (subst (Stands known) (is ∙ append_assoc later stretch earlier) s) in
    fair later stretch earlier is waits other (ready_at_each known waits earlier stretch there ready) none
