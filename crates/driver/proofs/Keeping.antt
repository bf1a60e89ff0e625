-- What a world in memory keeps: an output stands behind those of the last step.
use Rattle.std.proofs.Common.{◌≡◌, ℕ, zero, suc, ◌+◌, List, [], ◌∷◌, ◌++◌, length, refl, ap, ◌∙◌, arith, slice_index_or, slice_set, Ok, Err, Result}
use Rattle.std.specs.Prelude.{OnErr, ◌<◌, ◌≤◌, vec_len, vec_capacity}
use Rattle.std.specs.declared.vec.Vec.{Vec}
use Rattle.std.specs.declared.alloc.Global.{Global}
use Rattle.model.specs.Logs.{Step}
use Rattle.effects.specs.declared.events.Event.{Event}
use Rattle.effects.specs.declared.events.Output.{Output}
use Rattle.effects.specs.Views.{event_of, output_of, outputs_of}
use Rattle.std.proofs.lemmas.List.{map-append}
use Rattle.driver.specs.Memory.{step_of, steps_of, IsLastFull}
use Rattle.driver.specs.Worlds.{with_outputs}

abbrev tail_of : List Step → List Step
tail_of [] = []
tail_of (s ∷ ss) = ss

abbrev head_or : Step → List Step → Step
head_or s [] = s
head_or s (x ∷ xs) = x

-- The same outputs at a place leave the steps as they were.
pub steps_same : (log : List (Event × Vec Output Global)) (i : ℕ) (d : Event × Vec Output Global) (outs : Vec Output Global) → outs.items ≡ (slice_index_or log i d).1.items
    → steps_of (slice_set log i ((slice_index_or log i d).0, outs)) ≡ steps_of log
steps_same [] i d outs e = refl
steps_same (p ∷ log) zero d outs e = ap (λ os. record { event = event_of p.0; outputs = outputs_of os } ∷ steps_of log) e
steps_same (p ∷ log) (suc i) d outs e = ap (λ l. step_of p ∷ l) (steps_same log i d outs e)

-- One output more at the last place is one more of the last step.
pub steps_more : (log : List (Event × Vec Output Global)) (i : ℕ) (d : Event × Vec Output Global) (outs : Vec Output Global) (output copied : Output) → i + 1 ≡ length log
    → outs.items ≡ (slice_index_or log i d).1.items ++ copied ∷ [] → output_of copied ≡ output_of output
    → (before : List Step) (step : Step) → steps_of log ≡ before ++ step ∷ []
    → steps_of (slice_set log i ((slice_index_or log i d).0, outs)) ≡ before ++ with_outputs step (output_of output ∷ []) ∷ []
steps_more [] i d outs output copied last more same before step is = absurd (let n : i + 1 ≡ 0 = last in omega arith)
steps_more (p ∷ []) zero d outs output copied last more same [] step is =
    let all : outputs_of outs.items ≡ outputs_of p.1.items ++ output_of output ∷ [] = ap outputs_of more ∙ map-append output_of p.1.items (copied ∷ []) ∙ ap (λ o. outputs_of p.1.items ++ o ∷ []) same in
    ap (λ os. record { event = event_of p.0; outputs = os } ∷ []) all ∙ ap (λ l. with_outputs (head_or step l) (output_of output ∷ []) ∷ []) is
steps_more (p ∷ []) zero d outs output copied last more same (b ∷ []) step is = absurd (let n : 1 ≡ 2 = ap length is in omega arith)
steps_more (p ∷ []) zero d outs output copied last more same (b ∷ c ∷ before) step is = absurd (let n : 1 ≡ suc (suc (length (before ++ step ∷ []))) = ap length is in omega arith)
steps_more (p ∷ []) (suc i) d outs output copied last more same before step is = absurd (let n : suc i + 1 ≡ 1 = last in omega arith)
steps_more (p ∷ q ∷ log) zero d outs output copied last more same before step is = absurd (let n : 0 + 1 ≡ suc (suc (length log)) = last in omega arith)
steps_more (p ∷ q ∷ log) (suc i) d outs output copied last more same [] step is = absurd (let n : suc (suc (length (steps_of log))) ≡ 1 = ap length is in omega arith)
steps_more (p ∷ q ∷ log) (suc i) d outs output copied last more same (b ∷ before) step is =
    let first : step_of p ≡ b = ap (head_or b) is in
    let within : i + 1 ≡ suc (length log) = (let n : suc i + 1 ≡ suc (suc (length log)) = last in omega arith) in
    ap (λ s. s ∷ steps_of (slice_set (q ∷ log) i ((slice_index_or (q ∷ log) i d).0, outs))) first
    ∙ ap (λ l. b ∷ l) (steps_more (q ∷ log) i d outs output copied within more same before step (ap tail_of is))

-- What holds anyway holds where a call fails.
pub on_err_too : {T E A : Type 0} (r : Result T E) → A → OnErr r A
on_err_too (Ok x) a = tt
on_err_too (Err e) a = a

-- ---- where an output has no place

pub last_full : (log : List (Event × Vec Output Global)) (i : ℕ) (d : Event × Vec Output Global) → i + 1 ≡ length log
    → vec_capacity (slice_index_or log i d).1 ≤ vec_len (slice_index_or log i d).1 → IsLastFull log
last_full [] i d last full = tt
last_full (p ∷ []) zero d last full = full
last_full (p ∷ []) (suc i) d last full = absurd (let n : suc i + 1 ≡ 1 = last in omega arith)
last_full (p ∷ q ∷ log) zero d last full = absurd (let n : 0 + 1 ≡ suc (suc (length log)) = last in omega arith)
last_full (p ∷ q ∷ log) (suc i) d last full = last_full (q ∷ log) i d (let n : suc i + 1 ≡ suc (suc (length log)) = last in omega arith) full
