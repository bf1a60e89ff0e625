-- Open connections as the rule of requests has them: what a call changes is what the rule's move changes.
use Rattle.std.proofs.Common.{◌≡◌, ℕ, ◌==◌, if◌then◌else◌, Bool, true, false, List, [], ◌∷◌, map, Option, Some, None, refl, sym, ap, ◌∙◌}
use Rattle.std.specs.Prelude.{option_map}
use Rattle.upstream_response.specs.Waiting.{Answer}
use Rattle.theory_requests.specs.Lines as theory_requests
use Rattle.theory_requests.specs.Lines.{Line, Heard, k_of, line_of, find, without, with_answer, given_to, answer_by, idle_beside, lines_heard, lines_given}
use Rattle.theory_requests.specs.Told.{Told}
use Rattle.theory_requests.specs.Rule.{is_done}
pub use Rattle.upstream_connections.proofs.Idling.{lives_same}
use Rattle.upstream_connections.specs.Connections.{Connection, number_of, lives, marked_at, heard_at, given_at}

-- ---- what is found

pub lives_found : (k : ℕ) (cs : List Connection) → line_of k (lives cs) ≡ option_map (λ (c : Connection). c.live) (find number_of k cs)
lives_found k [] = refl
lives_found k (c ∷ cs) = by (c.live.k == k) (lives_found k cs)
  where
    by : (b : Bool) → line_of k (lives cs) ≡ option_map (λ (x : Connection). x.live) (find number_of k cs)
        → (if b then Some c.live else line_of k (lives cs)) ≡ option_map (λ (x : Connection). x.live) (if b then Some c else find number_of k cs)
    by true more = refl
    by false more = more

-- an open connection of the rule is kept
pub kept_open : (k : ℕ) (cs : List Connection) (line : Line) → line_of k (lives cs) ≡ Some line → (c : Connection) × (find number_of k cs ≡ Some c) × (c.live ≡ line)
kept_open k cs line found = by (find number_of k cs) refl (sym (lives_found k cs) ∙ found)
  where
    by : (o : Option Connection) → find number_of k cs ≡ o → option_map (λ (c : Connection). c.live) o ≡ Some line → (c : Connection) × (find number_of k cs ≡ Some c) × (c.live ≡ line)
    by None none is = let no : ◌≡◌ {A = Option Line} None (Some line) = is in cc
    by (Some c) was is = (c, was, (let same : c.live ≡ line = cc in same))

-- ---- changes

-- of a response it is told how far it is
pub lives_marked : (k : ℕ) (progress : theory_requests.Answer) (cs : List Connection) → lives (map (marked_at k progress) cs) ≡ map (with_answer k progress) (lives cs)
lives_marked k progress [] = refl
lives_marked k progress (c ∷ cs) = ap (λ ls. with_answer k progress c.live ∷ ls) (lives_marked k progress cs)

-- and so is what was heard of it
pub lives_heard : (most k : ℕ) (heard : Heard) (cs : List Connection) → lives (heard_at most k heard cs) ≡ lines_heard most k heard (lives cs)
lives_heard most k heard cs = lives_marked k (answer_by most (idle_beside k (lives cs)) heard) cs

-- one is given to a stream
pub lives_given : (k stream : ℕ) (answer : Answer) (cs : List Connection) → lives (map (given_at k stream answer) cs) ≡ lines_given k stream (lives cs)
lives_given k stream answer [] = refl
lives_given k stream answer (c ∷ cs) = ap (λ ls. given_to k stream c.live ∷ ls) (lives_given k stream answer cs)

pub lives_closed : (k : ℕ) (cs : List Connection) → lives (without number_of k cs) ≡ without k_of k (lives cs)
lives_closed k [] = refl
lives_closed k (c ∷ cs) = by (c.live.k == k) (lives_closed k cs)
  where
    by : (b : Bool) → lives (without number_of k cs) ≡ without k_of k (lives cs)
        → lives (if b then without number_of k cs else c ∷ without number_of k cs) ≡ (if b then without k_of k (lives cs) else c.live ∷ without k_of k (lives cs))
    by true more = more
    by false more = ap (λ ls. c.live ∷ ls) more

-- ---- which is done with

-- The open connection with this number is done with.
pub record IsDone (told : Told) (cs : List Connection) (k : ℕ) : Type 0 where
  pub connection : Connection
  pub found : find number_of k cs ≡ Some connection
  pub done : is_done told connection.live ≡ true
