-- The next part of what is on offer can go just where the outbox says so.
use Rattle.std.proofs.Common.{◌≡◌, ℕ, Bool, true, false, List, [], ◌∷◌, refl, sym, ap, ◌∙◌, inl, inr}
use Rattle.std.specs.Prelude.{Option, Some, None, is_some}
use Rattle.std.proofs.lemmas.List.{append-nil, append_cancel_left}
use Rattle.model.specs.ResponseHeads.{Head}
use Rattle.model.specs.Tapes.{Entry}
use Rattle.model.specs.Deliveries.{End, Delivery}
use Rattle.model.specs.Readiness.{IsBehindHead, HasWindows, CanGo}
use Rattle.theory_responses.proofs.Parts.{none_more}
use Rattle.theory_responses.specs.Outbox.{Outbox, offered_by, Fits, can_go}
use Rattle.theory_responses.specs.Outbox.Outbox.{Before, Behind, Over}

none_some : {A : Type 0} {B : Type 0} (h : Option A) (x : A) → h ≡ None → h ≡ Some x → B
none_some None x e f = absurd (let clash : ◌≡◌ {A = Option _} None (Some x) = f in cc)
none_some (Some y) x e f = absurd (cc)

-- ---- what can go by the clause goes by the outbox

first_goes : (windows : Bool) (interims : List Head) (head : Option Head) (body : List ℕ) (whole : End) (first : Head) (more : List Head) → interims ≡ first ∷ more → can_go windows (Before interims head body whole) ≡ true
first_goes windows [] head body whole first more e = cc
first_goes windows (h ∷ hs) head body whole first more e = refl

final_goes : (windows : Bool) (interims : List Head) (head : Option Head) (body : List ℕ) (whole : End) (final : Head) → interims ≡ [] → head ≡ Some final → can_go windows (Before interims head body whole) ≡ true
final_goes windows [] (Some h) body whole final e f = refl
final_goes windows [] None body whole final e f = none_some None final refl f
final_goes windows (h ∷ hs) head body whole final e f = cc

body_goes : (windows : Bool) (body : List ℕ) (whole : End) (octet : ℕ) (more : List ℕ) → body ≡ octet ∷ more → windows ≡ true → can_go windows (Behind body whole) ≡ true
body_goes windows [] whole octet more e w = cc
body_goes windows (o ∷ os) whole octet more e w = w

end_goes : (windows : Bool) (body : List ℕ) (whole : End) → body ≡ [] → is_some whole ≡ true → can_go windows (Behind body whole) ≡ true
end_goes windows [] whole e w = w
end_goes windows (o ∷ os) whole e w = cc

pub goes_by_outbox : (t : List Entry) (stream : ℕ) (windows : Bool) (read : Delivery) (box : Outbox) → (HasWindows t stream → windows ≡ true) → Fits read box → CanGo t stream read (offered_by read box) → can_go windows box ≡ true
goes_by_outbox t stream windows read (Before hs head body whole) are_above f (inl n) =
    first_goes windows hs head body whole n.head n.more (append_cancel_left read.interims hs (n.head ∷ n.more) n.is)
goes_by_outbox t stream windows read (Before hs head body whole) are_above f (inr (inl n)) = final_goes windows hs head body whole n.head (none_more read.interims hs n.same_interims) n.is
goes_by_outbox t stream windows read (Before hs head body whole) are_above f (inr (inr (inl n))) = none_some read.head n.behind.head f n.behind.is_read
goes_by_outbox t stream windows read (Before hs head body whole) are_above f (inr (inr (inr n))) = none_some read.head n.0.behind.head f n.0.behind.is_read
goes_by_outbox t stream windows read (Behind body whole) are_above f (inl n) = let clash : false ≡ true = sym (ap (λ h. is_some h) n.not_begun) ∙ f.0 in cc
goes_by_outbox t stream windows read (Behind body whole) are_above f (inr (inl n)) = let clash : false ≡ true = sym (ap (λ h. is_some h) n.not_begun) ∙ f.0 in cc
goes_by_outbox t stream windows read (Behind body whole) are_above f (inr (inr (inl n))) = end_goes windows body whole (none_more read.body body n.same_body) n.is_whole
goes_by_outbox t stream windows read (Behind body whole) are_above f (inr (inr (inr n))) = body_goes windows body whole n.0.octet n.0.more (append_cancel_left read.body body (n.0.octet ∷ n.0.more) n.0.is) (are_above n.1)
goes_by_outbox t stream windows read Over are_above f (inl n) = let clash : false ≡ true = sym (ap (λ h. is_some h) n.not_begun) ∙ f.0 in cc
goes_by_outbox t stream windows read Over are_above f (inr (inl n)) = let clash : false ≡ true = sym (ap (λ h. is_some h) n.not_begun) ∙ f.0 in cc
goes_by_outbox t stream windows read Over are_above f (inr (inr (inl n))) = let clash : true ≡ false = sym f.1 ∙ ap is_some n.not_ended in cc
goes_by_outbox t stream windows read Over are_above f (inr (inr (inr n))) = let none : n.0.octet ∷ n.0.more ≡ [] = none_more read.body (n.0.octet ∷ n.0.more) (sym n.0.is) in cc

-- ---- what can go by the outbox goes by the clause

-- the same head was read as is on offer
behind_head : (read : Delivery) (body : List ℕ) (whole : End) → is_some read.head ≡ true → IsBehindHead read (offered_by read (Behind body whole))
behind_head read body whole some = by read.head refl some
  where
    by : (h : Option Head) → read.head ≡ h → is_some h ≡ true → IsBehindHead read (offered_by read (Behind body whole))
    by None e s = let clash : false ≡ true = s in cc
    by (Some head) e s = record { head = head; is_read = e; is_offered = e; same_interims = refl }

pub outbox_goes : (t : List Entry) (stream : ℕ) (windows : Bool) (read : Delivery) (box : Outbox) → (windows ≡ true → HasWindows t stream) → Fits read box → can_go windows box ≡ true → CanGo t stream read (offered_by read box)
outbox_goes t stream windows read (Before (h ∷ hs) head body whole) are_above f g = inl (record { head = h; more = hs; not_begun = f; is = refl })
outbox_goes t stream windows read (Before [] (Some head) body whole) are_above f g = inr (inl (record { head = head; not_begun = f; same_interims = append-nil read.interims; is = refl }))
outbox_goes t stream windows read (Before [] None body whole) are_above f g = let clash : false ≡ true = g in cc
outbox_goes t stream windows read (Behind (o ∷ os) whole) are_above f g = inr (inr (inr (record { behind = behind_head read (o ∷ os) whole f.0; octet = o; more = os; is = refl }, are_above g)))
outbox_goes t stream windows read (Behind [] whole) are_above f g = inr (inr (inl (record { behind = behind_head read [] whole f.0; same_body = append-nil read.body; is_whole = g; not_ended = f.1 })))
outbox_goes t stream windows read Over are_above f g = let clash : false ≡ true = g in cc
