-- What a piece of the client's octets comes to, and that the gateway's settings go out once.
use Rattle.std.proofs.Common.{◌≡◌, Bool, true, false, ◌==◌, ℕ, List, [], ◌∷◌, ◌++◌, ◌-◌, ◌≤◌, length, take, drop, refl, sym, ◌∙◌, ap, subst, inl, inr, arith, Option, Some, None}
use Rattle.model.specs.Logs.{Event, Output}
use Rattle.model.specs.Logs.Event.{Client, ClientEnd, ClientTook, Up, UpEnd, UpFailed, UpTook, Drain}
use Rattle.model.specs.Setup.{Setup}
use Rattle.model.specs.Tapes.{listed}
use Rattle.model.specs.Frames.{Frame}
use Rattle.refinement.specs.View.{View, balanced, first_pending}
use Rattle.refinement.proofs.Bringing.{own_none}
use Rattle.refinement.specs.Bringing.{PerformsOwn}
use Rattle.event_handlers.specs.Inputs.Input.{OfEvent}
use Rattle.event_handlers.specs.paying.Greeting.{more_in, greeting, greeting_by, behind_greeting, behind_greeting_by}
use Rattle.event_handlers.specs.Comings.{ComesFrom, OnlyToClient}
use Rattle.event_handlers.specs.Resting.{IsSettled, IsPassedBy, IsServed, now_of}
use Rattle.event_handlers.specs.declared.taking.ServiceTerms.{ServiceTerms}
use Rattle.event_handlers.specs.declared.resting.Onward.{Onward}
use Rattle.event_handlers.specs.declared.resting.Onward.TheVariants.{On, Over}
use Rattle.gateway.specs.declared.reading.Read.{Read}
use Rattle.gateway.specs.declared.reading.Read.TheVariants as read
use Rattle.gateway.specs.Reading.{Takes, Reads}
use Rattle.gateway.specs.Stands.{Standing, Serves, pending_in}
use Rattle.gateway.specs.Receiving.{Happens, Receives, ReadsOn, Keeps, Greets, greeted, is_begun}
use Rattle.gateway.proofs.Framing.{slice_rest}
use Rattle.gateway.specs.declared.phase.Phase.{Phase}
use Rattle.gateway.specs.declared.phase.Phase.TheVariants as phase

-- ---- the gateway's settings

-- where something came already, they were sent
greeted_before : (p : Phase) → (p ≡ phase.New → ⊥) → greeted p ≡ p
greeted_before phase.New not_new = absurd (not_new refl)
greeted_before phase.Preface not_new = refl
greeted_before phase.Frames not_new = refl
greeted_before phase.Closed not_new = refl
greeted_before phase.Dead not_new = refl

none_pending : (more : ℕ) (p : Phase) → (p ≡ phase.New → ⊥) → pending_in more p ≡ balanced
none_pending more phase.New not_new = absurd (not_new refl)
none_pending more phase.Preface not_new = refl
none_pending more phase.Frames not_new = refl
none_pending more phase.Closed not_new = refl
none_pending more phase.Dead not_new = refl

pub greets_none : (g : Standing) → (g.phase ≡ phase.New → ⊥) → IsSettled g.kept → Greets g g []
greets_none g not_new settled = record {
  performs = λ setup. subst (λ pending. PerformsOwn setup g.kept pending [] g.kept balanced []) (sym (none_pending setup.more_room g.phase not_new)) (own_none setup g.kept balanced []);
  only = tt;
  after = ap (λ p. record g { phase = p }) (sym (greeted_before g.phase not_new));
  more = omega arith;
  settled = settled;
}

-- what is put out first goes to the client
only_greeting : (b : Bool) (more : ℕ) → OnlyToClient (greeting_by b more [])
only_greeting true more = tt
only_greeting false more = tt

-- and what is kept then is as before, but for the connection's receiving window, and for how much is untaken
as_behind : (b : Bool) (more : ℕ) (kept : View) → behind_greeting_by b more kept ≡ record kept { inbound = record kept.inbound { room = (behind_greeting_by b more kept).inbound.room }; untaken = (behind_greeting_by b more kept).untaken }
as_behind true more kept = refl
as_behind false more kept = refl

more_behind : (b : Bool) (more : ℕ) (kept : View) → kept.untaken ≤ (behind_greeting_by b more kept).untaken
more_behind true more kept = omega arith
more_behind false more kept = omega arith

settled_behind : (b : Bool) (more : ℕ) (kept : View) → IsSettled kept → IsSettled (behind_greeting_by b more kept)
settled_behind true more kept settled = record {
  rest = record { goes_on = settled.rest.goes_on; none_cut = settled.rest.none_cut; none_done = settled.rest.none_done; flushed = λ few. settled.rest.flushed (omega (arith, few)) };
  numbered = settled.numbered;
}
settled_behind false more kept settled = record {
  rest = record { goes_on = settled.rest.goes_on; none_cut = settled.rest.none_cut; none_done = settled.rest.none_done; flushed = λ few. settled.rest.flushed (omega (arith, few)) };
  numbered = settled.numbered;
}

-- they go out where nothing came yet
pub greets_first : (g : Standing) (kept : View) (out p : List Output) → g.phase ≡ phase.New → IsSettled g.kept → out ≡ []
    → ((setup : Setup) → PerformsOwn setup g.kept (first_pending setup.more_room) out kept balanced p)
    → p ≡ greeting (more_in g.kept) out → kept ≡ behind_greeting (more_in g.kept) g.kept → Greets g (record g { phase = phase.Preface; kept = kept }) p
greets_first g kept out p new settled nothing performs puts counts = record {
  performs = λ setup.
      subst (λ x. PerformsOwn setup g.kept (pending_in setup.more_room x) [] kept balanced p) (sym new)
      (subst (λ (os : List Output). PerformsOwn setup g.kept (first_pending setup.more_room) os kept balanced p) nothing (performs setup));
  only = subst OnlyToClient (sym (puts ∙ ap (greeting (more_in g.kept)) nothing)) (only_greeting (more_in g.kept == 0) (more_in g.kept));
  after =
      ap (λ x. record g { phase = greeted x; kept = kept }) (sym new)
      ∙ ap (λ (k : View). record g { phase = greeted g.phase; kept = k }) kept_as;
  more = subst (λ (k : View). g.kept.untaken ≤ k.untaken) (sym counts) (more_behind (more_in g.kept == 0) (more_in g.kept) g.kept);
  settled = subst IsSettled (sym counts) (settled_behind (more_in g.kept == 0) (more_in g.kept) g.kept settled);
}
  where
    kept_as : kept ≡ record g.kept { inbound = record g.kept.inbound { room = kept.inbound.room }; untaken = kept.untaken }
    kept_as = subst (λ (k : View). k ≡ record g.kept { inbound = record g.kept.inbound { room = k.inbound.room }; untaken = k.untaken }) (sym counts) (as_behind (more_in g.kept == 0) (more_in g.kept) g.kept)

-- ---- other events

-- An event that isn't of the client's octets comes to what is told of it: all but what is kept stays.
pub hears_by : (old : Standing) (kept : View) (went : Onward) (o p : List Output) (event told : Event) → told ≡ event → listed event ≡ event ∷ [] → ((setup : Setup) → Serves setup old → ComesFrom setup old.kept balanced o (OfEvent event ∷ []) balanced (now_of went kept) p)
    → Happens old (record old { kept = kept }) went o p told
hears_by old kept went o p event told same others comes = subst (Happens old (record old { kept = kept }) went o p) (sym same) (by event others comes)
  where
    by : (e : Event) → listed e ≡ e ∷ [] → ((setup : Setup) → Serves setup old → ComesFrom setup old.kept balanced o (OfEvent e ∷ []) balanced (now_of went kept) p) → Happens old (record old { kept = kept }) went o p e
    by (Client piece) others comes = absurd (let no : [] ≡ Client piece ∷ [] = others in cc)
    by ClientEnd others comes = record { comes = comes; stays = refl }
    by (ClientTook count) others comes = record { comes = comes; stays = refl }
    by (Up k octets) others comes = record { comes = comes; stays = refl }
    by (UpEnd k) others comes = record { comes = comes; stays = refl }
    by (UpFailed k) others comes = record { comes = comes; stays = refl }
    by (UpTook k count) others comes = record { comes = comes; stays = refl }
    by Drain others comes = record { comes = comes; stays = refl }

-- ---- what is read

-- a reading for some setups is one for fewer
takes_fewer : (serves fewer : Setup → Type 0) → ((setup : Setup) → fewer setup → serves setup) → (old : View) (o : List Output) (text rest : List ℕ) (now : Option View) (o' : List Output) → Takes serves old o text rest now o' → Takes fewer old o text rest now o'
takes_fewer serves fewer only old o text rest now o' t = record { frames = t.frames; reading = t.reading; last = t.last; broken = t.broken; comes = λ setup s. t.comes setup (only setup s); leaves = t.leaves }

-- what is left of a text waits, where nothing did
pub wait_behind : (before behind text : List ℕ) (used : ℕ) → before ≡ [] → behind ≡ before ++ take (length text - used) (drop used text) → behind ≡ drop used text
wait_behind before behind text used none is = is ∙ ap (λ (x : List ℕ). x ++ take (length text - used) (drop used text)) none ∙ slice_rest text used

module _ (old : Standing) (service : ServiceTerms) (routes : old.routes ≡ service.terms.routes.now) (body : old.max_body ≡ service.terms.max_body) (passing : old.passing ≡ service.passing) (keep : old.keep ≡ service.keep) (o o' : List Output) (text : List ℕ) where
  served : (setup : Setup) → Serves setup old → IsServed setup service
  served setup s = record { terms = record { routes = s.routes ∙ routes; max_body = s.max_body ∙ body }; passing = subst (IsPassedBy setup) passing s.passing; keep = sym keep ∙ s.keep }

  -- the connection goes on
  pub reads_rest : (kept : View) (partial : List ℕ) (answer : Read) (used : ℕ) → answer ≡ read.Rest used → partial ≡ drop used text → Reads (λ setup. IsServed setup service) old.kept o text answer kept o'
      → ReadsOn old (record old { phase = phase.Frames; partial = partial; kept = kept }) On o o' text
  reads_rest kept partial answer used is waits reads = record {
    rest = drop used text;
    takes = takes_fewer (λ setup. IsServed setup service) (λ setup. Serves setup old) served old.kept o text (drop used text) (Some kept) o' (subst (λ a. Reads (λ setup. IsServed setup service) old.kept o text a kept o') is reads);
    keeps = ap (λ (p : List ℕ). record old { phase = phase.Frames; partial = p; kept = kept }) waits;
  }

  -- it was closed
  pub reads_over : (new : Standing) (answer : Read) → answer ≡ read.Over → Reads (λ setup. IsServed setup service) old.kept o text answer new.kept o' → ReadsOn old new Over o o' text
  reads_over new answer is reads =
      let over = subst (λ a. Reads (λ setup. IsServed setup service) old.kept o text a new.kept o') is reads in record {
        rest = over.0;
        takes = takes_fewer (λ setup. IsServed setup service) (λ setup. Serves setup old) served old.kept o text over.0 None o' over.1;
        keeps = tt;
      }

-- the preface wasn't read before frames are
pub not_begun : (p : Phase) → (p ≡ phase.Frames → ⊥) → is_begun p ≡ false
not_begun phase.New not_frames = refl
not_begun phase.Preface not_frames = refl
not_begun phase.Frames not_frames = absurd (not_frames refl)
not_begun phase.Closed not_frames = refl
not_begun phase.Dead not_frames = refl

-- ---- octets that waited are read with those behind them

module _ (old new : Standing) (waited : List ℕ) (o o' : List Output) where
  keeps_waited : (went : Onward) (rest : List ℕ) → Keeps went (record old { partial = waited }) new rest → Keeps went old new rest
  keeps_waited On rest keeps = keeps
  keeps_waited Over rest keeps = tt

  reads_waited : (went : Onward) (behind : List ℕ) → ReadsOn (record old { partial = waited }) new went o o' behind → ReadsOn old new went o o' behind
  reads_waited went behind r = record {
    rest = r.rest;
    takes = takes_fewer (λ setup. Serves setup (record old { partial = waited })) (λ setup. Serves setup old) (λ setup s. record { servable = s.servable; routes = s.routes; max_body = s.max_body; passing = s.passing; keep = s.keep; most_idle = s.most_idle }) old.kept o behind r.rest (now_of went new.kept) o' r.takes;
    keeps = keeps_waited went r.rest r.keeps;
  }

  pub receives_waited : (went : Onward) (read unread : List ℕ) → read ≡ unread → Receives (record old { partial = waited }) new went o o' read → Receives old new went o o' unread
  receives_waited went read unread same receives = elim (subst (λ (octets : List ℕ). Receives (record old { partial = waited }) new went o o' octets) same receives) [
    | inl w ↦ inl (record { unbegun = w.unbegun; front = w.front; goes_on = w.goes_on; after = w.after; puts_nothing = w.puts_nothing })
    | inr (inl d) ↦ inr (inl (record { unbegun = d.unbegun; no_preface = d.no_preface; is_over = d.is_over; comes = d.comes }))
    | inr (inr g) ↦ inr (inr (record { behind = g.behind; begins = g.begins; reads = reads_waited went g.behind g.reads }))
  ]
