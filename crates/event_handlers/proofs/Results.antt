-- What calls that may be refused memory promise.
use Rattle.std.proofs.Common.{◌≡◌, Ok, Err, Result, Option, None, sym, subst}
use Rattle.std.specs.Prelude.{OnOk, IfOk, IfErr, IsErrAnd}
use Rattle.refinement.specs.View.{View}
use Rattle.event_handlers.specs.Resting.{now_of, RestsSo}
use Rattle.event_handlers.specs.Stopping.{IfOver, Concludes}
use Rattle.event_handlers.specs.declared.resting.Onward.{Onward}
use Rattle.event_handlers.specs.declared.halt.Halt.{Halt}
use Rattle.event_handlers.specs.declared.halt.Halt.TheVariants as stop

pub on_ok : {T : Type 0} {E : Type 0} {A : Type 0} {B : Type 0} (r : Result T E) → (A → B) → OnOk r A → OnOk r B
on_ok (Ok x) f a = f a
on_ok (Err e) f a = tt

pub on_both : {T : Type 0} {E : Type 0} {A : Type 0} {B : Type 0} {C : Type 0} (r : Result T E) → (A → B → C) → OnOk r A → OnOk r B → OnOk r C
on_both (Ok x) f a b = f a b
on_both (Err e) f a b = tt

pub on_three : {T : Type 0} {E : Type 0} {A : Type 0} {B : Type 0} {C : Type 0} {D : Type 0} (r : Result T E) → (A → B → C → D) → OnOk r A → OnOk r B → OnOk r C → OnOk r D
on_three (Ok x) f a b c = f a b c
on_three (Err e) f a b c = tt

pub if_ok : {T : Type 0} {E : Type 0} {A : T → Type 0} {B : T → Type 0} (r : Result T E) → ((x : T) → A x → B x) → IfOk r A → IfOk r B
if_ok (Ok x) f a = f x a
if_ok (Err e) f a = tt

-- ---- where a step goes no further

pub if_err : {T : Type 0} {E : Type 0} {A : E → Type 0} {B : E → Type 0} (r : Result T E) → ((e : E) → A e → B e) → IfErr r A → IfErr r B
if_err (Ok x) f a = tt
if_err (Err e) f a = f e a

pub if_over : {A : Type 0} {B : Type 0} (stop : Halt) → (A → B) → IfOver stop A → IfOver stop B
if_over stop.Memory f a = tt
if_over stop.Over f a = f a

-- the same of what a call answers that goes on with it
pub on_over : {T : Type 0} {A : Type 0} {B : Type 0} (r : Result T Halt) → (A → B) → IfErr r (λ e. IfOver e A) → IfErr r (λ e. IfOver e B)
on_over (Ok x) f a = tt
on_over (Err e) f a = if_over e f a

-- and where another call was stopped
pub stopped : {T : Type 0} {A : Type 0} {B : Type 0} (r : Result T Halt) (e : Halt) → IsErrAnd r (λ y. y ≡ e) → (A → B) → IfOver e A → IfErr r (λ y. IfOver y B)
stopped (Ok x) e is f a = tt
stopped {A = A} (Err y) e is f a = if_over y f (subst (λ (x : Halt). IfOver x A) (sym is) a)

-- a step that is concluded comes to where the connection stands then
pub concluded : {E : Type 0} (P : Option View → Type 0) (kept : View) (stepped : Result Onward Halt) (r : Result Onward E) → IfOk r (Concludes stepped) → IfOk stepped (λ came. P (now_of came kept)) → IfErr stepped (λ e. IfOver e (P None)) → IfOk r (λ came. P (now_of came kept))
concluded P kept (Ok went) (Ok came) same ok over = subst (λ (x : Onward). P (now_of x kept)) (sym same) ok
concluded P kept (Err stop.Over) (Ok came) same ok over = subst (λ (x : Onward). P (now_of x kept)) (sym same) over
concluded P kept (Err stop.Memory) (Ok came) same ok over = absurd same
concluded P kept stepped (Err e) same ok over = tt

pub concluded_rests : {E : Type 0} (kept : View) (stepped : Result Onward Halt) (r : Result Onward E) → IfOk r (Concludes stepped) → IfOk stepped (λ came. RestsSo came kept) → IfOk r (λ came. RestsSo came kept)
concluded_rests kept (Ok went) (Ok came) same rests = subst (λ (x : Onward). RestsSo x kept) (sym same) rests
concluded_rests kept (Err stop.Over) (Ok came) same rests = subst (λ (x : Onward). RestsSo x kept) (sym same) tt
concluded_rests kept (Err stop.Memory) (Ok came) same rests = absurd same
concluded_rests kept stepped (Err e) same rests = tt
