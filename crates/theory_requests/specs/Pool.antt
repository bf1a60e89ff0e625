-- Open upstream connections where they may be kept for further requests: what is known of each.
use Rattle.std.specs.Prelude.{◌≡◌, ℕ, ◌≤◌, true, ◌⊎◌, List, map, length, Some}
use Rattle.model.specs.Tapes.{Entry}
use Rattle.model.specs.Admission.{is_open}
use Rattle.model.specs.Openings.{Opened, exchanges, exchange_on, route_of, given}
use Rattle.model.specs.Known.{Known}
use Rattle.model.specs.ErrorClause.{must_end}
use Rattle.model.specs.Idle.{IsAllHeard, MayBeKept, IsOneTooMany, AreDistinct}
use Rattle.theory_requests.specs.Lines.{Answer, Line, line_of, idle_ones, Heard}
use Rattle.theory_requests.specs.Lines.Answer.{Pending, Idle, Done}
use Rattle.theory_requests.specs.Lines.Heard.{Partly, Keepable, Finished}

-- What is told of what was heard of an exchange is so.
abbrev pub Verdict : Known → List Entry → Opened → Heard → Type 0
Verdict known t o Partly = IsAllHeard known t o → ⊥
Verdict known t o Keepable = MayBeKept known t o
Verdict known t o Finished = IsAllHeard known t o × (MayBeKept known t o → ⊥)

-- What is kept of an answer is so: one that isn't idle though it might be was one too many, unless the end is to come.
abbrev pub Answers : Known → List Entry → ℕ → Answer → Type 0
Answers known t k Pending = IsAllHeard known t (exchange_on k t) → ⊥
Answers known t k Idle = MayBeKept known t (exchange_on k t)
Answers known t k Done = IsAllHeard known t (exchange_on k t) × (MayBeKept known t (exchange_on k t) → IsOneTooMany known t k ⊎ (must_end known t ≡ true))

-- An open connection is as it is kept.
pub record IsSo (known : Known) (t : List Entry) (k : ℕ) (l : Line) : Type 0 where
  pub opened : is_open k t ≡ true
  pub route : route_of k (exchanges t) ≡ l.route
  pub stream : given k (exchanges t) ≡ l.stream
  pub answers : Answers known t k l.answer

-- Just the open connections are kept, each as it is, each once, and few of them are idle.
pub record Keeps (known : Known) (t : List Entry) (ls : List Line) : Type 0 where
  pub are_so : (k : ℕ) (l : Line) → line_of k ls ≡ Some l → IsSo known t k l
  pub all : (k : ℕ) → is_open k t ≡ true → (l : Line) × (line_of k ls ≡ Some l)
  pub distinct : AreDistinct (map (λ (l : Line). l.k) ls)
  pub few : length (idle_ones ls) ≤ known.setup.most_idle
