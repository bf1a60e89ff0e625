-- What items tell, one more at a time.
use Rattle.std.proofs.Common.{◌≡◌, ◌+◌, ◌++◌, ◌∷◌, ◌∙◌, ℕ, List, [], map, reverse, refl, sym, ap, append_assoc, append-nil, arith}
use Rattle.std.specs.Prelude.{◌==◌, ◌||◌, Bool, true, false, Option, None, Some, if◌then◌else◌}
use Rattle.std.proofs.lemmas.List.{reverse-append, map-append}
use Rattle.std.proofs.lemmas.Bool.{eq-eqb, ne_eqb}
use Rattle.model.specs.Logs as logs
use Rattle.model.specs.Logs.{Step}
use Rattle.effects.specs.Views.{event_of, output_of}
use Rattle.effects.specs.declared.events.Event.{Event}
use Rattle.effects.specs.declared.events.Output.{Output}
use Rattle.driver.specs.Calls.{put_behind}
use Rattle.driver.specs.Worlds.{came, with_outputs}
use Rattle.theory_sockets.specs.Told.{Item, Told, Connection, nothing, with_more, items, if_same, goes_on}
use Rattle.theory_sockets.specs.Told.Item.{Came, Put}

-- An output behind those of the newest step is one item more.
pub items_put : (output : Output) (log : List Step) → (log ≡ [] → ⊥) → items (put_behind output log) ≡ Put (output_of output) ∷ items log
items_put output [] some = absurd (some refl)
items_put output (step ∷ log) some =
    ap (λ l. l ++ Came step.event ∷ items log)
    (ap reverse (map-append Put step.outputs (output_of output ∷ [])) ∙ reverse-append (map Put step.outputs) (Put (output_of output) ∷ []))

or_false : (b : Bool) → (b || false) ≡ b
or_false true = refl
or_false false = refl

-- Nothing more is told.
pub told_no_more : (told : Told) → with_more told nothing ≡ told
told_no_more told =
    ap (λ l. record { came = l; ended = told.ended || false; put = told.put ++ []; took = told.took + 0 }) (append-nil told.came)
    ∙ (ap (λ b. record { came = told.came; ended = b; put = told.put ++ []; took = told.took + 0 }) (or_false told.ended)
    ∙ (ap (λ l. record { came = told.came; ended = told.ended; put = l; took = told.took + 0 }) (append-nil told.put)
    ∙ ap (λ n. record { came = told.came; ended = told.ended; put = told.put; took = n }) (let e : told.took + 0 ≡ told.took = omega arith in e)))

pub no_more : (before : Option Connection) → goes_on None nothing before ≡ before
no_more None = refl
no_more (Some c) = ap (λ told. Some (record { route = c.route; told = told })) (told_no_more c.told)

-- What is told of one with this number, or with another.
pub same_told : (j k : ℕ) (told : Told) → k ≡ j → if_same j k told ≡ told
same_told j k told is = ap (λ b. if b then told else nothing) (eq-eqb j k (sym is))

pub other_told : (j k : ℕ) (told : Told) → (k ≡ j → ⊥) → if_same j k told ≡ nothing
other_told j k told apart = ap (λ b. if b then told else nothing) (ne_eqb j k (λ is. apart (sym is)))

pub same_opened : (j k route : ℕ) → k ≡ j → (if j == k then Some route else None) ≡ Some route
same_opened j k route is = ap (λ b. if b then Some route else None) (eq-eqb j k (sym is))

pub other_opened : (j k route : ℕ) → (k ≡ j → ⊥) → (if j == k then Some route else None) ≡ None
other_opened j k route apart = ap (λ b. if b then Some route else None) (ne_eqb j k (λ is. apart (sym is)))
