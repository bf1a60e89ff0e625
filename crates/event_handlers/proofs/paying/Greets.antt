-- What the gateway sends before all else performs.
use Rattle.std.proofs.Common.{◌≡◌, ℕ, ◌+◌, ◌<◌, ◌-◌, ◌==◌, Bool, true, false, nat_lt, List, [], ◌∷◌, ◌++◌, length, Result, Ok, Err, if◌then◌else◌, refl, sym, ◌∙◌, ap, subst, arith}
use Rattle.std.specs.Prelude.{IfErr}
use Rattle.model.specs.Limits.{first_window, most_untaken}
use Rattle.model.specs.Frames.{Frame, spell, setting, settings_frame, settings_kind}
use Rattle.model.specs.Logs.{Output}
use Rattle.model.specs.Logs.Output.{ToClient}
use Rattle.model.specs.Setup.{Setup}
use Rattle.model.specs.Tapes.{put}
use Rattle.effects.specs.Sent.{window_update}
use Rattle.theory_requests.specs.State.Due.{Nothing}
use Rattle.theory.specs.Moves.{Move}
use Rattle.theory.specs.State.{State}
use Rattle.refinement.specs.View.{View, Pending, balanced, first_pending, Leads}
use Rattle.refinement.specs.Rest.{GoesOn, back_of}
use Rattle.refinement.specs.Bringing.{PerformsOwn}
use Rattle.refinement.proofs.Bringing.{own_then}
use Rattle.event_handlers.specs.Stopping.{IfOver}
use Rattle.event_handlers.specs.declared.halt.Halt.{Halt}
use Rattle.event_handlers.specs.declared.halt.Halt.TheVariants as stop
use Rattle.event_handlers.specs.paying.Greeting.{more_in, announced, IsMemory}
use Rattle.event_handlers.specs.paying.Returning.{given_on_connection}
use Rattle.event_handlers.proofs.paying.Fitting.{own_is}
use Rattle.event_handlers.proofs.paying.Settled.{none_back, dropped_back}

-- by so much more than 65,535 windows begin
behind_first : (own more : ℕ) → own ≡ first_window + more → own - first_window ≡ more
behind_first own more is = omega (arith, is)

-- Receiving windows are larger by as much as the setup says.
pub more_is : (setup : Setup) (run : List Move) (kept : View) (pending : Pending) (s : State) → Leads setup run kept pending s → more_in kept ≡ setup.more_room
more_is setup run kept pending s leads = behind_first kept.inbound.own setup.more_room (own_is setup run kept pending s leads)

-- Behind the settings, where nothing waited for the client, few octets do.
few_by : (n more : ℕ) (b : Bool) → n ≡ 0 → nat_lt most_untaken (n + length (spell (record { kind = settings_kind; flags = 0; id = 0; payload = setting 3 100 ++ (setting 6 16384 ++ (if b then [] else setting 4 (65535 + more))) }))) ≡ false
few_by n more true none = ap (λ x. nat_lt most_untaken (x + 21)) none
few_by n more false none = ap (λ x. nat_lt most_untaken (x + 27)) none

pub few_behind : (kept : View) (more : ℕ) → kept.untaken ≡ 0 → nat_lt most_untaken (announced more kept).untaken ≡ false
few_behind kept more none = few_by kept.untaken more (more == 0) none

-- Where the connection isn't ended in place of a frame, memory was refused.
pub memory_alone : {T : Type 0} {A : Type 0} (r : Result T Halt) → (A → ⊥) → IfErr r (λ e. IfOver e A) → IfErr r IsMemory
memory_alone (Ok x) never over = tt
memory_alone (Err stop.Memory) never over = tt
memory_alone (Err stop.Over) never over = never over

module _ (setup : Setup) (kept mid : View) (more : ℕ) (is : more ≡ more_in kept) (outputs p : List Output) where
  -- The settings are sent.
  pub announces : ((rest : List Frame) (pending : Pending) → pending.owed ≡ settings_frame more ∷ rest → pending.due ≡ Nothing → PerformsOwn setup kept pending outputs mid (record pending { owed = rest }) p)
      → PerformsOwn setup kept (first_pending setup.more_room) outputs mid (back_of setup.more_room) p
  announces pays run s leads =
      let same : more ≡ setup.more_room = is ∙ more_is setup run kept (first_pending setup.more_room) s leads in
      pays [] (first_pending setup.more_room) (ap (λ n. settings_frame n ∷ []) (sym same)) refl run s leads

  module _ (announced : PerformsOwn setup kept (first_pending setup.more_room) outputs mid (back_of setup.more_room) p) where
    -- Windows are no larger, and nothing goes back.
    pub greets_alone : more ≡ 0 → PerformsOwn setup kept (first_pending setup.more_room) outputs mid balanced p
    greets_alone none run s leads =
        let same : more ≡ setup.more_room = is ∙ more_is setup run kept (first_pending setup.more_room) s leads in
        own_then setup kept mid mid (first_pending setup.more_room) (back_of setup.more_room) balanced outputs p p announced (none_back setup mid setup.more_room p (sym same ∙ none)) run s leads

    -- They are, and so the connection's is made larger.
    pub greets_both : 0 < more → more < 2147483648 → GoesOn mid → nat_lt most_untaken mid.untaken ≡ false
        → PerformsOwn setup kept (first_pending setup.more_room) outputs (given_on_connection mid more) balanced (put p (ToClient (spell (window_update 0 more))))
    greets_both some small on few run s leads =
        let same : more ≡ setup.more_room = is ∙ more_is setup run kept (first_pending setup.more_room) s leads in
        own_then setup kept mid (given_on_connection mid more) (first_pending setup.more_room) (back_of setup.more_room) balanced outputs p (put p (ToClient (spell (window_update 0 more)))) announced
        (subst (λ n. PerformsOwn setup mid (back_of n) p (given_on_connection mid more) balanced (put p (ToClient (spell (window_update 0 more))))) same (dropped_back setup mid more p some small on few)) run s leads
