-- Fewer exchanges began than streams were opened, while one that was has none, and no more connections were opened; nothing was put out for others.
use Rattle.std.proofs.Common.{◌≡◌, ℕ, suc, ◌<◌, ◌≤◌, Bool, true, false, ◌||◌, ◌==◌, List, [], ◌∷◌, ◌++◌, length, refl, sym, ◌∙◌, ap, inl, inr, if◌then◌else◌, arith}
use Rattle.std.proofs.lemmas.Bool.{ne_eqb}
use Rattle.std.proofs.lemmas.Bool.Decides.{eqb_tells}
use Rattle.std.specs.List.{list_any}
use Rattle.model.specs.Admission.{is_open}
use Rattle.model.specs.Logs.Act.{Open, ToUp, Close, CloseClient}
use Rattle.model.specs.Tapes.{Entry, sent_up}
use Rattle.model.specs.Tapes.Entry.{Came, Breached, Happened, Sent, Did}
use Rattle.model.specs.Openings.{Opened, opens, exchanges, given, last_stream, begins_another, IsGivenNone, AreApart, AreNumbered, GoToOpen}
use Rattle.model.specs.Available.{IsIn}
use Rattle.model.proofs.ExchangeLaws.{another_on}
use Rattle.theory_requests.proofs.Numbers.{next_shut}

-- an id is among these
abbrev pub is_one_of : ℕ → List ℕ → Bool
is_one_of id ids = list_any (λ other. other == id) ids

-- these without the first that is this
abbrev drop_one : ℕ → List ℕ → List ℕ
drop_one id [] = []
drop_one id (x ∷ xs) = if x == id then xs else x ∷ drop_one id xs

one_less : (id : ℕ) (xs : List ℕ) → is_one_of id xs ≡ true → length xs ≡ suc (length (drop_one id xs))
one_less id [] there = let no : false ≡ true = there in cc
one_less id (x ∷ xs) there = by (x == id) there (one_less id xs)
  where
    by : (b : Bool) → (b || is_one_of id xs) ≡ true → (is_one_of id xs ≡ true → length xs ≡ suc (length (drop_one id xs))) → suc (length xs) ≡ suc (length (if b then xs else x ∷ drop_one id xs))
    by true there rest = refl
    by false there rest = ap suc (rest there)

others_stay : (id other : ℕ) → (id ≡ other → ⊥) → (xs : List ℕ) → is_one_of other xs ≡ true → is_one_of other (drop_one id xs) ≡ true
others_stay id other apart [] there = there
others_stay id other apart (x ∷ xs) there = elim (eqb_tells x id) [
  | inl is ↦ ap (λ b. is_one_of other (if b then xs else x ∷ drop_one id xs)) is.0 ∙ sym (ap (λ b. b || is_one_of other xs) (ne_eqb x other (λ same. apart (sym is.1 ∙ same)))) ∙ there
  | inr off ↦ ap (λ b. is_one_of other (if b then xs else x ∷ drop_one id xs)) off.0 ∙ by (x == other) there (others_stay id other apart xs)
]
  where
    by : (b : Bool) → (b || is_one_of other xs) ≡ true → (is_one_of other xs ≡ true → is_one_of other (drop_one id xs) ≡ true) → (b || is_one_of other (drop_one id xs)) ≡ true
    by true there rest = refl
    by false there rest = rest there

apart_from : (id : ℕ) (os : List Opened) (o : Opened) → IsGivenNone id os → IsIn o os → id ≡ o.stream → ⊥
apart_from id [] o none i same = i
apart_from id (p ∷ os) o none (inl is) same = none.0 (same ∙ ap (λ (x : Opened). x.stream) is)
apart_from id (p ∷ os) o none (inr i) same = apart_from id os o none.1 i same

-- Connections that were given to different streams of these, and to one stream of these not, are fewer.
pub few_given : (os : List Opened) (ids : List ℕ) (id : ℕ) → AreApart os → ((o : Opened) → IsIn o os → is_one_of o.stream ids ≡ true) → IsGivenNone id os → is_one_of id ids ≡ true → suc (length os) ≤ length ids
few_given [] ids id apart among none there = let less = one_less id ids there in omega (arith, less)
few_given (o ∷ os) ids id apart among none there =
    let less = one_less id ids there in
    let rest = few_given os (drop_one id ids) o.stream apart.1 (λ p i. others_stay id p.stream (apart_from id os p none.1 i) ids (among p (inr i))) apart.0 (others_stay id o.stream none.0 ids (among o (inl refl))) in
    omega (arith, less, rest)

-- ---- on the tape

-- each connection that was opened began an exchange
pub no_more_opened : (t : List Entry) → length (opens t) ≤ length (exchanges t)
no_more_opened [] = omega arith
no_more_opened (Came noted ∷ t) = no_more_opened t
no_more_opened (Breached breach ∷ t) = no_more_opened t
no_more_opened (Happened event ∷ t) = no_more_opened t
no_more_opened (Sent noted ∷ t) = no_more_opened t
no_more_opened (Did (Open k route) ∷ t) = let le = no_more_opened t in omega (arith, le)
no_more_opened (Did (ToUp k octets) ∷ t) = by (begins_another (given k (exchanges t)) (last_stream t) octets) (no_more_opened t)
  where
    by : (b : Bool) → length (opens t) ≤ length (exchanges t) → length (opens t) ≤ length (if b then another_on k t ∷ exchanges t else exchanges t)
    by true le = omega (arith, le)
    by false le = le
no_more_opened (Did (Close k) ∷ t) = no_more_opened t
no_more_opened (Did CloseClient ∷ t) = no_more_opened t

-- nothing was put out for one with a number above all that were opened
pub nothing_put : (t : List Entry) (k : ℕ) → AreNumbered (opens t) → GoToOpen t → length (opens t) < k → sent_up k t ≡ []
nothing_put [] k n g lt = refl
nothing_put (Came noted ∷ t) k n g lt = nothing_put t k n g lt
nothing_put (Breached breach ∷ t) k n g lt = nothing_put t k n g lt
nothing_put (Happened event ∷ t) k n g lt = nothing_put t k n g lt
nothing_put (Sent noted ∷ t) k n g lt = nothing_put t k n g lt
nothing_put (Did (Open j route) ∷ t) k n g lt = nothing_put t k n.1 g (omega (arith, lt))
nothing_put (Did (ToUp j octets) ∷ t) k n g lt =
    ap (λ b. if b then sent_up k t ++ octets else sent_up k t) (ne_eqb k j (λ same. let no : true ≡ false = sym g.0 ∙ ap (λ i. is_open i t) (sym same) ∙ next_shut t k n lt in let clash : true ≡ false = no in cc))
    ∙ nothing_put t k n g.1 lt
nothing_put (Did (Close j) ∷ t) k n g lt = nothing_put t k n g lt
nothing_put (Did CloseClient ∷ t) k n g lt = nothing_put t k n g lt
