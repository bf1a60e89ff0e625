-- What is promised of the log for which a gateway stands.
use Rattle.std.proofs.Common.{◌≡◌, ℕ, ◌≤◌, true, false, List, [], ◌∷◌, ◌++◌, reverse, refl, sym, ◌∙◌, ap, subst, arith}
use Rattle.std.proofs.lemmas.List.{reverse-reverse}
use Rattle.model.specs.Logs.{Step, client_in}
use Rattle.model.specs.Setup.{Setup}
use Rattle.model.specs.Tables.{Table, first_table}
use Rattle.model.specs.Tapes.{Entry, IsRead}
use Rattle.model.specs.Known.{Known}
use Rattle.model.specs.Synchrony.{InStep, IsReadyAtEach, turns_on}
use Rattle.model.specs.Headline.{ClausesHold, HoldsInTurn, IsTold, HasTape, Headline}
use Rattle.nothing_smuggled.proofs.Fronts.{headline_smuggles_nothing}
use Rattle.theory_errors.specs.Rule.{AreKnown, known_of}
use Rattle.theory_errors.proofs.Knowing.{known_so}
use Rattle.theory.specs.Moves.{Move, entry_of}
use Rattle.theory.specs.Moves.Move.{Does, Settles}
use Rattle.theory.specs.State.{State, conducts, tape_of, state_of}
use Rattle.theory.specs.Rule.{AllAllowed, RestsBehind}
use Rattle.theory.specs.Steps.{AreAnsweredBy}
use Rattle.theory.proofs.Keeping.{IsKnown, clauses, in_step, in_turn, judged, ends_with_close}
use Rattle.header_blocks.specs.Encoding.{Encoding}
use Rattle.refinement.specs.View.{View, Pending, AreSo, Leads}
use Rattle.gateway.specs.declared.phase.Phase.{Phase}
use Rattle.gateway.specs.declared.phase.Phase.TheVariants as phase
use Rattle.gateway.specs.Stands.{Standing, Stands, IsIn, is_open, pending_in}
use Rattle.gateway.specs.Promises.{OwnInStep, Promise}

-- ---- a tape of the log, as the rule's own law of logs has it

tape_both : (segment before : List Move) → tape_of (segment ++ before) ≡ tape_of segment ++ tape_of before
tape_both [] before = refl
tape_both (Does d ∷ segment) before = ap (λ (t : List Entry). entry_of d ∷ t) (tape_both segment before)
tape_both (Settles ∷ segment) before = tape_both segment before

-- what holds of moves holds of those before some
before_these : (known : Known) (segment before : List Move) → IsKnown known (segment ++ before) → IsKnown known before
before_these known [] before k = k
before_these known (Does d ∷ segment) before k = before_these known segment before (record { knows = k.knows.0; all = k.all.0; answered = k.answered.0 })
before_these known (Settles ∷ segment) before k = before_these known segment before (record { knows = k.knows; all = k.all; answered = k.answered })

told : (known : Known) (text : List ℕ) (run : List Move) → IsKnown known run → RestsBehind known.setup run → IsRead text (tape_of run) → IsTold known text (tape_of run)
told known text run k rests read =
    let steps = in_step known run k rests in
    record { read = read; table = (state_of known.setup run).tables.decoding; decodes = steps.of_came; others_are_read = steps.all_read; failures = judged known run k.knows k.answered; ends = ends_with_close known run k.knows k.all }

has_tape : (known : Known) (steps : List Step) (run : List Move) → IsKnown known run → AreAnsweredBy known steps run → HasTape known steps (tape_of run)
has_tape known [] run k is = ap tape_of is
has_tape known (step ∷ earlier) run k a =
    let segment : List Move = a.0 in
    let before : List Move = a.1 in
    let here : IsKnown known (segment ++ before) = subst (IsKnown known) a.2 k in
    let same : tape_of (segment ++ before) ≡ tape_of segment ++ tape_of before = tape_both segment before in (
      tape_of segment,
      tape_of before,
      ap tape_of a.2 ∙ same,
      record {
        admitted = a.3.admitted;
        step_is = a.3.step_is;
        told = subst (IsTold known (client_in (step ∷ earlier))) same (told known (client_in (step ∷ earlier)) (segment ++ before) here a.3.rests a.3.read);
        in_turn = subst (HoldsInTurn (ClausesHold known)) same (in_turn known (segment ++ before) here);
        clauses = subst (ClausesHold known) same (clauses known (segment ++ before) here a.3.rests);
      },
      has_tape known earlier before (before_these known segment before here) a.4,
    )

-- ---- moves that led to where a gateway stands

all_in : (p : Phase) (setup : Setup) (partial : List ℕ) (kept : View) (text : List ℕ) (run : List Move) → IsIn p setup partial kept text run → AllAllowed setup run
all_in phase.New setup partial kept text run o = o.leads.stands.allowed
all_in phase.Preface setup partial kept text run o = o.leads.stands.allowed
all_in phase.Frames setup partial kept text run o = o.leads.stands.allowed
all_in phase.Closed setup partial kept text run o = o.allowed
all_in phase.Dead setup partial kept text run o = absurd o

so_in : (p : Phase) (setup : Setup) (partial : List ℕ) (kept : View) (text : List ℕ) (run : List Move) → IsIn p setup partial kept text run → AreSo setup run
so_in phase.New setup partial kept text run o = o.leads.so
so_in phase.Preface setup partial kept text run o = o.leads.so
so_in phase.Frames setup partial kept text run o = o.leads.so
so_in phase.Closed setup partial kept text run o = o.so
so_in phase.Dead setup partial kept text run o = absurd o

-- before anything came both tables are empty
in_step_first : (known : Known) (t : List Entry) → t ≡ [] → InStep known t first_table first_table
in_step_first known t e = rw e (record { of_sent = refl; of_came = refl; all_read = tt; written = tt; fair = none })
  where
    none : (later stretch before : List Entry) → [] ≡ later ++ stretch ++ before → (waits other : ℕ) → IsReadyAtEach known waits before stretch → turns_on waits stretch ≡ 0 → turns_on other stretch ≤ 1
    none later [] before is waits other stays no_turn = omega arith
    none [] (e ∷ stretch) before is waits other stays no_turn = absurd (let no : [] ≡ e ∷ (stretch ++ before) = is in cc)
    none (l ∷ later) (e ∷ stretch) before is waits other stays no_turn = absurd (let no : [] ≡ l ∷ ((later ++ e ∷ stretch) ++ before) = is in cc)

-- behind a step the tables that are kept are, since the gateway rests
in_step_behind : (known : Known) (log : List Step) (run : List Move) → IsKnown known run → AreAnsweredBy known log run → InStep known (tape_of run) (state_of known.setup run).tables.encoding.table (state_of known.setup run).tables.decoding
in_step_behind known [] run k answered = rw answered (in_step_first known [] refl)
in_step_behind known (step ∷ earlier) run k answered = in_step known run k (subst (RestsBehind known.setup) (sym answered.2) answered.3.rests)

-- what is promised of the log, by the tape of these moves
pub promised_by : (setup : Setup) (g : Standing) (log : List Step) (run : List Move) → Stands setup g log run → (promise : Promise setup (reverse log)) × (promise.headline.tape ≡ tape_of run) × (promise.headline.known ≡ known_of setup (conducts run))
promised_by setup g log run stands = (
  record {
    headline = headline;
    safe = headline_smuggles_nothing setup (reverse log) headline;
    in_step = record { encoding = (state_of setup run).tables.encoding.table; decoding = (state_of setup run).tables.decoding; in_step = in_step_behind known log run k by };
  },
  refl,
  refl,
)
  where
    known : Known
    known = known_of setup (conducts run)

    knows : AreKnown known (conducts run)
    knows = known_so setup (conducts run)

    k : IsKnown known run
    k = record { knows = knows; all = all_in g.phase setup g.partial g.kept (client_in log) run stands.is_in; answered = so_in g.phase setup g.partial g.kept (client_in log) run stands.is_in known refl knows }

    by : AreAnsweredBy known log run
    by = stands.answered known refl knows

    headline : Headline setup (reverse log)
    headline = record {
      known = known;
      of_setup = refl;
      tape = tape_of run;
      has_tape = subst (λ l. HasTape known l (tape_of run)) (sym (reverse-reverse log)) (has_tape known log run k by);
    }

pub promised : (setup : Setup) (g : Standing) (log : List Step) (run : List Move) → Stands setup g log run → Promise setup (reverse log)
promised setup g log run stands = (promised_by setup g log run stands).0

-- ---- the gateway's own tables

tables_kept : (setup : Setup) (run : List Move) (kept : View) (pending : Pending) (s : State) → Leads setup run kept pending s → ((state_of setup run).tables.encoding.table ≡ kept.encoding.table) × ((state_of setup run).tables.decoding ≡ kept.inbound.table)
tables_kept setup run kept pending s leads = (
  ap (λ (x : State). x.tables.encoding.table) leads.stands.is ∙ ap (λ (e : Encoding). e.table) leads.keeps.encoding,
  ap (λ (x : State). x.tables.decoding) leads.stands.is ∙ leads.keeps.decoding,
)

-- the state by the rule is the one that is kept, while the connection is open
kept_in : (p : Phase) (setup : Setup) (partial : List ℕ) (kept : View) (text : List ℕ) (run : List Move) → IsIn p setup partial kept text run → is_open p ≡ true → ((state_of setup run).tables.encoding.table ≡ kept.encoding.table) × ((state_of setup run).tables.decoding ≡ kept.inbound.table)
kept_in phase.New setup partial kept text run o open_yet = tables_kept setup run kept (pending_in setup.more_room phase.New) o.state o.leads
kept_in phase.Preface setup partial kept text run o open_yet = tables_kept setup run kept (pending_in setup.more_room phase.Preface) o.state o.leads
kept_in phase.Frames setup partial kept text run o open_yet = tables_kept setup run kept (pending_in setup.more_room phase.Frames) o.state o.leads
kept_in phase.Closed setup partial kept text run o open_yet = absurd (let no : false ≡ true = open_yet in cc)
kept_in phase.Dead setup partial kept text run o open_yet = absurd o

pub own_in_step : (setup : Setup) (g : Standing) (log : List Step) (run : List Move) → Stands setup g log run → is_open g.phase ≡ true → OwnInStep setup (reverse log) g.kept
unfolding promised_by
own_in_step setup g log run stands open_yet =
    let same = kept_in g.phase setup g.partial g.kept (client_in log) run stands.is_in open_yet in
    let known : Known = known_of setup (conducts run) in
    let promise = (promised_by setup g log run stands).0 in
    record {
      promise = promise;
      in_step =
          subst (λ (t : Table). InStep known (tape_of run) g.kept.encoding.table t) same.1
          (subst (λ (t : Table). InStep known (tape_of run) t (state_of setup run).tables.decoding) same.0 promise.in_step.in_step);
    }
