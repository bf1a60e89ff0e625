-- What a call changes of open connections is what the rule's move changes.
use Rattle.std.proofs.Common.{◌≡◌, ℕ, ◌==◌, if◌then◌else◌, Bool, true, false, List, [], ◌∷◌, map, refl, ap}
use Rattle.upstream_response.specs.Waiting.{Answer}
use Rattle.theory_requests.specs.Lines as theory_requests
use Rattle.theory_requests.specs.Lines.{Heard, without, k_of, with_answer, answer_by, idle_beside, given_to, lines_heard, lines_given, lines_without}
use Rattle.upstream_connections.specs.Connections.{Connection, number_of, lives, marked_at, heard_at, given_at}

marked : (k : ℕ) (progress : theory_requests.Answer) (cs : List Connection) → lives (map (marked_at k progress) cs) ≡ map (with_answer k progress) (lives cs)
marked k progress [] = refl
marked k progress (c ∷ cs) = ap (λ ls. with_answer k progress c.live ∷ ls) (marked k progress cs)

-- what was heard
pub heard_is : (most k : ℕ) (heard : Heard) (cs : List Connection) → lives (heard_at most k heard cs) ≡ lines_heard most k heard (lives cs)
heard_is most k heard cs = marked k (answer_by most (idle_beside k (lives cs)) heard) cs

-- one is given to a stream
pub given_is : (k stream : ℕ) (answer : Answer) (cs : List Connection) → lives (map (given_at k stream answer) cs) ≡ lines_given k stream (lives cs)
given_is k stream answer [] = refl
given_is k stream answer (c ∷ cs) = ap (λ ls. given_to k stream c.live ∷ ls) (given_is k stream answer cs)

-- one is closed
pub closed_is : (k : ℕ) (cs : List Connection) → lives (without number_of k cs) ≡ lines_without k (lives cs)
closed_is k [] = refl
closed_is k (c ∷ cs) = by (c.live.k == k) (closed_is k cs)
  where
    by : (b : Bool) → lives (without number_of k cs) ≡ without k_of k (lives cs)
        → lives (if b then without number_of k cs else c ∷ without number_of k cs) ≡ (if b then without k_of k (lives cs) else c.live ∷ without k_of k (lives cs))
    by true more = more
    by false more = ap (λ ls. c.live ∷ ls) more
