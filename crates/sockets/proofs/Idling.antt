-- What is idle is heard before the client.
use Rattle.std.proofs.Common.{◌≡◌, ◌<◌, ◌≤◌, ◌+◌, ◌==◌, ◌&&◌, ◌||◌, ◌∙◌, ℕ, List, [], ◌∷◌, ◌++◌, zero, suc, take, drop, length, get_or, not, refl, sym, ap, subst, arith, inl, inr, if◌then◌else◌}
use Rattle.std.specs.Prelude.{Bool, true, false, Option, None, Some, IfSome, IfNone, OnSome, is_some, option_to_list}
use Rattle.std.specs.List.{Contains, remove}
use Rattle.std.proofs.Math.Seq.{split_at}
use Rattle.std.proofs.lemmas.List.Elements.{Contains-append_left, Contains-append_right, Contains-append_cases, Contains-push}
use Rattle.std.proofs.lemmas.Bool.{eq-eqb, eqb-true, cases_lt}
use Rattle.std.proofs.lemmas.List.{get_or_default}
use Rattle.std.proofs.lemmas.Bool.Decides.{nat_tests}
use Rattle.effects.specs.declared.events.Event.{Event}
use Rattle.effects.specs.declared.events.Event.TheVariants as event
use Rattle.driver.specs.Calls.{HearsIdleFirst}
use Rattle.sockets.specs.Idle.{could_read, is_of_client, next_of}
use Rattle.sockets.specs.Queues.{StandsIn, AllListed, AreQueued}
use Rattle.sockets.specs.Sides.{may_be_ready}
use Rattle.sockets.specs.declared.side.Side.{Side}
use Rattle.sockets.specs.declared.upstream.Upstream.{Upstream}
use Rattle.sockets.specs.Performed.{AreRising, IsOpenNowhere}
use Rattle.sockets.specs.Sides.{IsOf}
use Rattle.sockets.proofs.Queueing.{stands_on, stands_before}

-- ---- numbers in a queue

-- Nothing stands in a list that is empty.
pub nothing_in : (xs : List ℕ) (x : ℕ) → length xs ≡ 0 → Contains xs x → ⊥
nothing_in xs x none stands = let within = stands.1 in omega (arith, none, within)

-- None is among those up to this place, where none was before it, and the one there isn't.
pub none_behind : (items idle : List ℕ) (place number : ℕ) → place < length items → number ≡ get_or items place number → (0 < number → Contains idle number → ⊥)
    → ((k : ℕ) → 0 < k → Contains idle k → (i : ℕ) → i < place → get_or items i k ≡ k → ⊥) → (k : ℕ) → 0 < k → Contains idle k → (i : ℕ) → i < place + 1 → get_or items i k ≡ k → ⊥
none_behind items idle place number within there apart before k some among i less is = elim (cases_lt i place) [
  | inl under ↦ before k some among i under is
  | inr from ↦ (let at : i ≡ place = omega (arith, from, less) in
      let same : number ≡ k = there ∙ get_or_default items place number k within ∙ ap (λ j. get_or items j k) (sym at) ∙ is in
      apart (subst (λ n. 0 < n) (sym same) some) (subst (Contains idle) (sym same) among))
]

-- None of them is.
pub none_in : (items idle : List ℕ) (place : ℕ) → length items ≤ place → ((k : ℕ) → 0 < k → Contains idle k → (i : ℕ) → i < place → get_or items i k ≡ k → ⊥)
    → (k : ℕ) → 0 < k → Contains idle k → Contains items k → ⊥
none_in items idle place all before k some among stands = let within = stands.1 in before k some among stands.0 (omega (arith, within, all)) stands.2

-- One that was taken from among them stands in front.
at_front : (x y : ℕ) (front rest : List ℕ) (i : ℕ) → i < length (y ∷ rest) → get_or (y ∷ rest) i x ≡ x → Contains (y ∷ front ++ rest) x
at_front x y front rest zero within is = (zero, grind arith, is)
at_front x y front rest (suc i) within is = stands_before x y (front ++ rest) (Contains-append_right front rest x (i, grind (arith, within), is))

pub removed_stands : (xs : List ℕ) (i y : ℕ) → i < length xs → y ≡ get_or xs i y → StandsIn xs (y ∷ remove xs i)
removed_stands xs i y within there x stands =
    let parts : xs ≡ take i xs ++ y ∷ drop (suc i) xs = split_at xs i y within ∙ ap (λ z. take i xs ++ z ∷ drop (suc i) xs) (sym there) in
    elim (Contains-append_cases (take i xs) (y ∷ drop (suc i) xs) x (subst (λ l. Contains l x) parts stands)) [
      | inl left ↦ stands_before x y (remove xs i) (Contains-append_left (take i xs) (drop (suc i) xs) x left)
      | inr right ↦ at_front x y (take i xs) (drop (suc i) xs) right.0 right.1 right.2
    ]

pub removed_some : (r : Option ℕ) (xs ys : List ℕ) (i : ℕ) → i < length xs → IfSome r (λ y. y ≡ get_or xs i y) → OnSome r (ys ≡ remove xs i) → IfSome r (λ y. StandsIn xs (y ∷ ys))
removed_some None xs ys i within there is = tt
removed_some (Some y) xs ys i within there is = subst (λ zs. StandsIn xs (y ∷ zs)) (sym is) (removed_stands xs i y within there)

-- It isn't the client's.
pub removed_other : (r : Option ℕ) (xs : List ℕ) (i : ℕ) → i < length xs → 0 < get_or xs i 0 → IfSome r (λ y. y ≡ get_or xs i y) → r ≡ Some 0 → ⊥
removed_other None xs i within some there is = let no : ◌≡◌ {A = Option ℕ} None (Some 0) = is in cc
removed_other (Some y) xs i within some there is =
    let zero_is : y ≡ 0 = cc in
    let same : get_or xs i 0 ≡ 0 = get_or_default xs i 0 y within ∙ sym there ∙ zero_is in
    omega (arith, same, some)

-- None of those behind is one of an idle connection where none of all is.
pub front_none : (r : Option ℕ) (old new idle : List ℕ) → old ≡ option_to_list r ++ new → ((k : ℕ) → 0 < k → Contains idle k → Contains old k → ⊥) → (k : ℕ) → 0 < k → Contains idle k → Contains new k → ⊥
front_none None old new idle parts none k some among stands = none k some among (subst (λ l. Contains l k) (sym parts) stands)
front_none (Some n) old new idle parts none k some among stands = none k some among (subst (λ l. Contains l k) (sym parts) (stands_before k n new stands))

-- A number was put behind the others.
pub rotated : (n : ℕ) (r : List ℕ) → StandsIn (n ∷ r) (r ++ n ∷ [])
rotated n r x stands = by stands.0 stands.1 stands.2
  where
    by : (i : ℕ) → i < length (n ∷ r) → get_or (n ∷ r) i x ≡ x → Contains (r ++ n ∷ []) x
    by zero within is = subst (λ m. Contains (r ++ m ∷ []) x) (sym is) (Contains-push r x)
    by (suc i) within is = Contains-append_left r (n ∷ []) x (i, grind (arith, within), is)

-- ---- what could be read

module _ {S : Type 0} (ready writes idle : List ℕ) (first : (k : ℕ) → 0 < k → Contains idle k → Contains ready k → ⊥) where
  none_of : (n : ℕ) (us : List (Upstream S)) → AllListed n (0 ∷ ready) writes us → (k : ℕ) → Contains idle k → could_read us k ≡ false
  none_of n [] all k among = refl
  none_of n (u ∷ us) all k among = by (u.k == k) (may_be_ready u.side) refl refl (none_of u.k us all.2 k among)
    where
      by : (own may : Bool) → (u.k == k) ≡ own → may_be_ready u.side ≡ may → could_read us k ≡ false → ((own && may) || could_read us k) ≡ false
      by false may e f rest = rest
      by true false e f rest = rest
      by true true e f rest =
          let number : u.k ≡ k = eqb-true u.k k e in
          let more : n < u.k = all.0 in
          let some : 0 < u.k = omega (arith, more) in
          let stands : Contains ready u.k = stands_on u.k 0 ready (λ same. omega (arith, same, some)) (all.1.marked.queued (all.1.may f)) in
          absurd (first u.k some (subst (Contains idle) (sym number) among) stands)

-- Where the client was taken from the front, and none that is idle stands behind it, nothing could be read of one that is.
pub none_left : {S : Type 0} (number : ℕ) (ready writes : List ℕ) (queued : Bool) (client : Side S) (us : List (Upstream S)) (idle : List ℕ) → AreQueued (number ∷ ready) writes queued client us
    → (Some number ≡ Some 0 → (k : ℕ) → 0 < k → Contains idle k → Contains ready k → ⊥) → (k : ℕ) → number ≡ 0 → Contains idle k → could_read us k ≡ false
none_left number ready writes queued client us idle are first k is among =
    none_of ready writes idle (first (ap {A = ℕ} Some is)) 0 us (subst (λ n. AllListed 0 (n ∷ ready) writes us) is are.all_are) k among

-- ---- what comes

-- What comes that isn't octets of the client leaves when it was heard last.
pub hears_other : (idle : List ℕ) (event : Option Event) (could : ℕ → Bool) (h h' looks : ℕ) → is_of_client event ≡ false → h' ≡ h → HearsIdleFirst idle (next_of event) could h h' looks
hears_other idle None could h h' looks other same = same
hears_other idle (Some (event.Client octets)) could h h' looks other same = absurd (let no : true ≡ false = other in cc)
hears_other idle (Some event.ClientEnd) could h h' looks other same = same
hears_other idle (Some (event.ClientTook count)) could h h' looks other same = same
hears_other idle (Some (event.Up k octets)) could h h' looks other same = same
hears_other idle (Some (event.UpEnd k)) could h h' looks other same = same
hears_other idle (Some (event.UpFailed k)) could h h' looks other same = same
hears_other idle (Some (event.UpTook k count)) could h h' looks other same = same
hears_other idle (Some event.Drain) could h h' looks other same = same

-- An event of an upstream isn't.
pub of_upstream : (event : Option Event) (k : ℕ) → IfSome event (IsOf k) → is_of_client event ≡ false
of_upstream None k of = refl
of_upstream (Some (event.Client octets)) k of = absurd of
of_upstream (Some event.ClientEnd) k of = absurd of
of_upstream (Some (event.ClientTook count)) k of = absurd of
of_upstream (Some (event.Up j octets)) k of = refl
of_upstream (Some (event.UpEnd j)) k of = refl
of_upstream (Some (event.UpFailed j)) k of = refl
of_upstream (Some (event.UpTook j count)) k of = absurd of
of_upstream (Some event.Drain) k of = absurd of

-- Octets of the client come behind what is idle.
pub hears_client : (idle : List ℕ) (event : Option Event) (could : ℕ → Bool) (h h' looks : ℕ) → ((k : ℕ) → Contains idle k → could k ≡ false) → ((idle ≡ [] → ⊥) → h ≡ looks → ⊥)
    → h' ≡ (if is_of_client event then looks else h) → HearsIdleFirst idle (next_of event) could h h' looks
hears_client idle None could h h' looks none looked is = is
hears_client idle (Some (event.Client octets)) could h h' looks none looked is = record { none_left = none; looked = looked; noted = is }
hears_client idle (Some event.ClientEnd) could h h' looks none looked is = is
hears_client idle (Some (event.ClientTook count)) could h h' looks none looked is = is
hears_client idle (Some (event.Up k octets)) could h h' looks none looked is = is
hears_client idle (Some (event.UpEnd k)) could h h' looks none looked is = is
hears_client idle (Some (event.UpFailed k)) could h h' looks none looked is = is
hears_client idle (Some (event.UpTook k count)) could h h' looks none looked is = is
hears_client idle (Some event.Drain) could h h' looks none looked is = is

-- Nothing came.
pub quiet : (idle : List ℕ) (event : Option Event) (could : ℕ → Bool) (h h' looks : ℕ) → event ≡ None → HearsIdleFirst idle (next_of event) could h h' looks → h' ≡ h
quiet idle event could h h' looks none hears = subst (λ e. HearsIdleFirst idle (next_of e) could h h' looks) none hears

-- It was heard last at the same look before.
pub hears_from : (idle : List ℕ) (event : Option Event) (could : ℕ → Bool) (h mid h' looks : ℕ) → mid ≡ h → HearsIdleFirst idle (next_of event) could mid h' looks → HearsIdleFirst idle (next_of event) could h h' looks
hears_from idle event could h mid h' looks same hears = subst (λ n. HearsIdleFirst idle (next_of event) could n h' looks) same hears

-- ---- a look

no_length : (idle : List ℕ) → not (length idle == 0) ≡ false → idle ≡ []
no_length [] e = refl
no_length (x ∷ xs) e = absurd (let more : 0 < length (x ∷ xs) = omega arith in grind (arith, nat_tests))

-- One that isn't held back was looked at since.
pub not_held : (h looks : ℕ) (idle : List ℕ) → ((h == looks) && not (length idle == 0)) ≡ false → (idle ≡ [] → ⊥) → h ≡ looks → ⊥
not_held h looks idle free some same =
    some (no_length idle (sym (ap (λ b. b && not (length idle == 0)) (eq-eqb h looks same)) ∙ free))

-- Where it is held back it isn't queued, unless a look was made.
pub not_queued : (queued held : Bool) → (queued && held) ≡ false → held ≡ true → queued ≡ false
not_queued false held e is = refl
not_queued true held e is = absurd (let no : true ≡ false = sym is ∙ e in cc)

-- ---- the client's own octets that were taken

-- What is told of it as taken changes nothing of where it stands.
pub client_told : {S : Type 0} (ready writes : List ℕ) (queued : Bool) (old new : Side S) (us : List (Upstream S)) → may_be_ready (Some new) ≡ may_be_ready (Some old) → AreQueued ready writes queued old us
    → AreQueued ready writes queued new us
client_told ready writes queued old new us same are = record {
  client_is = record { queued = are.client_is.queued; may = λ is. are.client_is.may (sym same ∙ is) };
  all_are = are.all_are;
}

-- ---- a connection that is opened

-- A number is neither the client's nor that of a connection that was found.
pub opens_anew : {S : Type 0} (k : ℕ) (us seen : List (Upstream S)) (place : Option ℕ) → (k ≡ 0 → ⊥) → seen ≡ us → IfNone place (AreRising seen → IsOpenNowhere k seen) → is_some place ≡ false
    → (0 < k) × (AreRising us → IsOpenNowhere k us)
opens_anew k us seen None other same absent none = (omega (arith, other), subst (λ vs. AreRising vs → IsOpenNowhere k vs) same absent)
opens_anew k us seen (Some place) other same absent none = absurd (let no : true ≡ false = none in cc)
