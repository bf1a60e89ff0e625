-- The connections that a gateway tells as idle are those of its log.
use Rattle.std.proofs.Common.{◌≡◌, ℕ, ◌==◌, if◌then◌else◌, Bool, true, false, List, [], ◌∷◌, ◌++◌, reverse, refl, sym, ap, ◌∙◌, subst, inl, inr}
use Rattle.std.specs.List.{list_any}
use Rattle.std.proofs.lemmas.List.{reverse-append}
use Rattle.model.specs.Idle.{IsIdle, AreIdle}
use Rattle.model.specs.Known.{Known}
use Rattle.model.specs.Logs.{Step, client_in}
use Rattle.model.specs.Setup.{Setup}
use Rattle.model.specs.Tapes.{Entry}
use Rattle.theory_errors.specs.Rule.{known_of}
use Rattle.theory_requests.specs.State as theory_requests
use Rattle.theory_requests.specs.Lines.{Line, is_idle, is_finished, idle_ones}
use Rattle.theory_requests.specs.Pool.{Keeps}
use Rattle.theory_requests.proofs.Framing.{none_finished_of}
use Rattle.theory_requests.proofs.Pool.{HasLine, there_found, told_idle, idle_found, idle_kept, is_so_idle}
use Rattle.upstream_connections.specs.Connections.{lives}
use Rattle.theory.specs.Moves.{Move}
use Rattle.theory.specs.State.{conducts, tape_of}
use Rattle.refinement.specs.Rest.{told_view}
use Rattle.refinement.proofs.Where.{stands_here}
use Rattle.gateway.specs.Rooms.{AreAllIdle}
use Rattle.gateway.specs.Stands.{Standing, Stands, IsOpen, is_open}
use Rattle.gateway.proofs.Admitting.{closed_up}
use Rattle.gateway.proofs.Going.{open_in}
use Rattle.gateway.proofs.Rooms.{any_turned}

-- ---- each is idle

abbrev more : Bool → ℕ → List ℕ → List ℕ
more b k ks = if b then k ∷ ks else ks

module _ (known : Known) (t : List Entry) (ls : List Line) (h : Keeps known t ls) where
  each_of : (xs : List Line) → ((l : Line) → HasLine l xs → HasLine l ls) → AreIdle known t (idle_ones xs)
  each_of [] all = tt
  each_of (x ∷ xs) all = by (is_idle x.answer) refl (each_of xs (λ l i. all l (inr i)))
    where
      by : (b : Bool) → is_idle x.answer ≡ b → AreIdle known t (idle_ones xs) → AreIdle known t (more b x.k (idle_ones xs))
      by true is rest = (is_so_idle known t ls h x.k x (there_found x ls h.distinct (all x (inl refl))) (told_idle x.answer is), rest)
      by false is rest = rest

all_end : (known : Known) (t : List Entry) (ks : List ℕ) (k : ℕ) → AreIdle known t ks → IsIdle known t k → AreIdle known t (ks ++ k ∷ [])
all_end known t [] k all one = (one, tt)
all_end known t (j ∷ ks) k all one = (all.0, all_end known t ks k all.1 one)

each_turned : (known : Known) (t : List Entry) (ks : List ℕ) → AreIdle known t ks → AreIdle known t (reverse ks)
each_turned known t [] all = tt
each_turned known t (k ∷ ks) all = subst (AreIdle known t) (sym (reverse-append (k ∷ []) ks)) (all_end known t (reverse ks) k (each_turned known t ks all.1) all.0)

-- ---- those that are kept

module _ (setup : Setup) (g : Standing) (log : List Step) (run : List Move) (stands : Stands setup g log run) (goes : is_open g.phase ≡ true) where
  abbrev known : Known
  known = known_of setup (conducts run)

  abbrev kept_lines : List Line
  kept_lines = lives g.kept.upstreams.live

  o : IsOpen setup g.phase g.partial g.kept (client_in log) run
  o = open_in g.phase setup g.partial g.kept (client_in log) run goes stands.is_in

  keeps : Keeps known (tape_of run) kept_lines
  keeps = subst (λ (r : theory_requests.State). Keeps known (tape_of run) r.live) o.leads.keeps.requests (stands_here setup run o.state o.leads.stands o.leads.so).keeps

  none_finished : list_any (λ (x : Line). is_finished x.answer) kept_lines ≡ false
  none_finished = none_finished_of (told_view g.kept) kept_lines o.settled.rest.none_done

  -- The connections that are kept as idle are those that the log tells.
  pub idle_by_log : AreAllIdle known (tape_of run) (reverse (idle_ones kept_lines))
  idle_by_log = record {
    each = each_turned known (tape_of run) (idle_ones kept_lines) (each_of known (tape_of run) kept_lines keeps kept_lines (λ l i. i));
    all = λ k i.
        let l = idle_kept known (tape_of run) kept_lines keeps none_finished k i in
        any_turned (λ j. j == k) (idle_ones kept_lines) ∙ idle_found k kept_lines l.0 l.1 (ap is_idle l.2);
  }

-- once the client is closed there are none
pub none_idle_by_log : (setup : Setup) (g : Standing) (log : List Step) (run : List Move) → Stands setup g log run → is_open g.phase ≡ false → AreAllIdle (known_of setup (conducts run)) (tape_of run) []
none_idle_by_log setup g log run stands over = record {
  each = tt;
  all = λ k i. absurd (let no : true ≡ false = sym i.is_open ∙ sym (closed_up setup g log run stands over k) in cc);
}
