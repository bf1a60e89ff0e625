-- How many connections may be idle is the setup's word: here none may, and here nine.
use Rattle.std.proofs.Common.{◌≡◌, ℕ, ◌≤◌, Bool, List, [], ◌∷◌, refl, sym, subst, arith, length}
use Rattle.model.specs.Logs.Event.{Up}
use Rattle.model.specs.Logs.Act.{Close}
use Rattle.model.specs.Setup.Passing.{Whole}
use Rattle.model.specs.Tables.{total_size}
use Rattle.model.specs.Tapes.{Entry}
use Rattle.model.specs.Tapes.Entry.{Happened, Did}
use Rattle.model.specs.Known.{Known}
use Rattle.model.specs.Openings.{Opened, exchange_on}
use Rattle.model.specs.Available.{heard_by}
use Rattle.model.specs.Idle.{is_asked_for_head, IsTooLong, LeavesOpen, MayBeKept, IsIdle, AreIdle, FewAreIdle, IsOneTooMany}
use Rattle.model.specs.ProgressClause.{IsDoneWith}
use Rattle.model_examples.proofs.RowTapes.{answer_text}
use Rattle.model_examples.proofs.KeepExamples.{by_keeping, keeping, first_got, first_answered, exchange, kept_on, idle_on}
use Rattle.model_examples.proofs.KeepPool.{answers, asked, ninth_heard, ninth_idle, few_distinct, down, opened_down, idle_down, nine}

-- the rows' setup, with another number of idle ones
abbrev pub by_most : ℕ → Known
by_most most = record { setup = record keeping { most_idle = most }; failures = [] }

-- ---- none may

-- the first whose response is whole is one too many,
pub first_too_many : IsOneTooMany (by_most 0) (Happened (Up 1 answer_text) ∷ first_got) 1
first_too_many = record { is_new = refl; others = []; distinct = (refl, tt); are_idle = tt; many = omega arith }

-- It keeps it.
pub keeps_one : IsIdle (by_most 0) first_answered 1 → FewAreIdle (by_most 0) first_answered → ⊥
keeps_one idle few = let clash : 1 ≤ 0 = few (1 ∷ []) (refl, tt) (idle, tt) in omega (arith, clash)

-- ---- nine may

-- what may be kept may be, however many may be idle,
still_kept : (most : ℕ) (t : List Entry) (o : Opened) → is_asked_for_head (by_most most) o t ≡ is_asked_for_head by_keeping o t → MayBeKept by_keeping t o
    → MayBeKept (by_most most) t o
still_kept most t o same m = record {
  keeps = m.keeps;
  goes_on = m.goes_on;
  request = m.request;
  sent = m.sent;
  answered = subst (λ (b : Bool). LeavesOpen (heard_by o t) b) (sym same) m.answered;
  fits = λ long.
      let at : IsTooLong (by_most most) (heard_by o t) (is_asked_for_head by_keeping o t) = subst (λ (b : Bool). IsTooLong (by_most most) (heard_by o t) b) same long in
      m.fits (record { whole = at.whole; interims = at.interims; head = at.head; octets = at.octets; seen = at.seen; over = at.over });
  not_ended = m.not_ended;
}

-- and what is idle is
still_idle : (most : ℕ) (t : List Entry) (k : ℕ) → is_asked_for_head (by_most most) (exchange_on k t) t ≡ is_asked_for_head by_keeping (exchange_on k t) t
    → IsIdle by_keeping t k → IsIdle (by_most most) t k
still_idle most t k same i = record { is_open = i.is_open; kept = still_kept most t (exchange_on k t) same i.kept }

ninth_may : IsIdle (by_most 9) ninth_heard 9
unfolding total_size
ninth_may = still_idle 9 ninth_heard 9 refl ninth_idle

-- a ninth isn't one too many,
pub ninth_stays : IsOneTooMany (by_most 9) ninth_heard 9 → ⊥
ninth_stays m =
    let few : length (9 ∷ m.others) ≤ 9 = few_distinct (9 ∷ m.others) (down 9) m.distinct (idle_down (by_most 9) ninth_heard 9 (opened_down 9) (9 ∷ m.others) (ninth_may, m.are_idle)) in
    let many = m.many in omega (arith, few, many)

-- the tenth is answered while the nine before it are idle
abbrev pub tenth_heard : List Entry
tenth_heard = Happened (Up 10 answer_text) ∷ answers 9 (asked 10)

nine_idle : AreIdle (by_most 9) tenth_heard (9 ∷ 8 ∷ 7 ∷ 6 ∷ 5 ∷ 4 ∷ 3 ∷ 2 ∷ 1 ∷ [])
unfolding total_size
nine_idle = (
  still_idle 9 tenth_heard 9 refl (idle_on Whole tenth_heard 9 17 refl refl refl refl refl refl refl),
  (
    still_idle 9 tenth_heard 8 refl (idle_on Whole tenth_heard 8 15 refl refl refl refl refl refl refl),
    (
      still_idle 9 tenth_heard 7 refl (idle_on Whole tenth_heard 7 13 refl refl refl refl refl refl refl),
      (
        still_idle 9 tenth_heard 6 refl (idle_on Whole tenth_heard 6 11 refl refl refl refl refl refl refl),
        (
          still_idle 9 tenth_heard 5 refl (idle_on Whole tenth_heard 5 9 refl refl refl refl refl refl refl),
          (
            still_idle 9 tenth_heard 4 refl (idle_on Whole tenth_heard 4 7 refl refl refl refl refl refl refl),
            (
              still_idle 9 tenth_heard 3 refl (idle_on Whole tenth_heard 3 5 refl refl refl refl refl refl refl),
              (
                still_idle 9 tenth_heard 2 refl (idle_on Whole tenth_heard 2 3 refl refl refl refl refl refl refl),
                (still_idle 9 tenth_heard 1 refl (idle_on Whole tenth_heard 1 1 refl refl refl refl refl refl refl), tt),
              ),
            ),
          ),
        ),
      ),
    ),
  ),
)

-- It closes the ninth.
pub closes_the_ninth : IsDoneWith (by_most 9) (Did (Close 9) ∷ ninth_heard) 9 ninth_heard → ⊥
unfolding total_size
closes_the_ninth c =
    let was = kept_on Whole (Did (Close 9) ∷ ninth_heard) (exchange 9 17) refl refl refl refl refl in
    ninth_stays (c.not_kept (still_kept 9 (Did (Close 9) ∷ ninth_heard) (exchange 9 17) refl was))

-- and a tenth is.
pub tenth_too_many : IsOneTooMany (by_most 9) tenth_heard 10
tenth_too_many = record { is_new = refl; others = 9 ∷ 8 ∷ 7 ∷ 6 ∷ 5 ∷ 4 ∷ 3 ∷ 2 ∷ 1 ∷ []; distinct = (refl, nine); are_idle = nine_idle; many = omega arith }
