-- What is on offer, and what is held, as a stream is followed.
use Rattle.std.proofs.Common.{◌≡◌, ℕ, Bool, true, false, not, ◌&&◌, ◌==◌, nat_lt, if◌then◌else◌, ◌⊎◌, List, [], ◌∷◌, ◌++◌, map, filter, Option, Some, None, refl, sym, ◌∙◌, ap, inl, inr}
use Rattle.std.specs.Prelude.{is_some}
use Rattle.std.specs.List.{list_all}
use Rattle.std.proofs.lemmas.Bool.{and_parts, and_from}
use Rattle.std.proofs.lemmas.Bool.Decides.{eqb_tells}
use Rattle.std.proofs.lemmas.List.Folds.{list_all-map}
use Rattle.model.proofs.Http1Lines.{run-reverse}
use Rattle.model.specs.Causes.{Cause}
use Rattle.theory_responses.specs.State as theory_responses
use Rattle.theory_responses.specs.State.{Kept, find, change, without, unless_over, with_new, blank, answered, answered_if}
use Rattle.theory_responses.proofs.Keeping.{answered_id, answered_if_id, find_gone, find_without, find_changed, find_other}
use Rattle.send_queue.specs.Asked.{is_kept, is_above_all}
use Rattle.theory_requests.specs.Lines as lines
use Rattle.theory_requests.specs.State.{Held, id_of}
use Rattle.refinement.proofs.Kept.{change_none, changed_goes}
use Rattle.refinement.proofs.Coming.{offers_with}
use Rattle.refinement.specs.Rest.{NoneCut}
use Rattle.event_handlers.specs.block_frames.Following.{offers_if, held_if}

-- ---- what is on offer

-- nothing goes where nothing is
absent_stays : (id : ℕ) (ks : List Kept) → is_kept id ks ≡ false → without id ks ≡ ks
absent_stays id [] none = refl
absent_stays id (k ∷ ks) none = by (k.id == id) refl (absent_stays id ks)
  where
    by : (b : Bool) → (k.id == id) ≡ b → (is_kept id ks ≡ false → without id ks ≡ ks) → (if b then without id ks else k ∷ without id ks) ≡ k ∷ ks
    by true is rest = absurd (let no : true ≡ false = sym (ap (λ b. is_some (if b then Some k else find id ks)) is) ∙ none in cc)
    by false is rest = ap (λ (xs : List Kept). k ∷ xs) (rest (sym (ap (λ b. is_some (if b then Some k else find id ks)) is) ∙ none))

-- behind a frame that is no cause, by whether the stream is active before it and behind it
pub offers_followed : (was now : Bool) (id : ℕ) (offers : theory_responses.State) → is_kept id offers.kept ≡ was → offers_with id (record { opens = not was && now; over = was && not now; caused = None }) offers ≡ offers_if now id offers
offers_followed true true id offers is = ap (λ (ks : List Kept). record offers { kept = ks }) (change_none id offers.kept) ∙ sym (ap (λ b. if b then offers else record offers { kept = offers.kept ++ blank id ∷ [] }) is)
offers_followed false true id offers is = ap (λ (ks : List Kept). record offers { kept = ks }) (change_none id (offers.kept ++ blank id ∷ [])) ∙ sym (ap (λ b. if b then offers else record offers { kept = offers.kept ++ blank id ∷ [] }) is)
offers_followed true false id offers is = ap (λ (ks : List Kept). record offers { kept = without id ks }) (change_none id offers.kept)
offers_followed false false id offers is = ap (λ (ks : List Kept). record offers { kept = ks }) (change_none id offers.kept ∙ sym (absent_stays id offers.kept is))

-- behind one with which the gateway replies to a stream that is active then
pub offers_replied : (was : Bool) (id : ℕ) (cause : Cause) (offers : theory_responses.State) → is_kept id offers.kept ≡ was
    → offers_with id (record { opens = not was && true; over = was && not true; caused = Some cause }) offers ≡ record (offers_if true id offers) { kept = change id (answered cause) (offers_if true id offers).kept }
offers_replied true id cause offers is = sym (ap (λ b. record (if b then offers else record offers { kept = offers.kept ++ blank id ∷ [] }) { kept = change id (answered cause) (if b then offers else record offers { kept = offers.kept ++ blank id ∷ [] }).kept }) is)
offers_replied false id cause offers is = sym (ap (λ b. record (if b then offers else record offers { kept = offers.kept ++ blank id ∷ [] }) { kept = change id (answered cause) (if b then offers else record offers { kept = offers.kept ++ blank id ∷ [] }).kept }) is)

without_last : (id : ℕ) (ks : List Kept) → without id (ks ++ blank id ∷ []) ≡ without id ks
without_last id [] = ap (λ b. if b then [] else blank id ∷ []) (Rattle.std.proofs.lemmas.Bool.eq-eqb id id refl)
without_last id (k ∷ ks) = by (k.id == id) (without_last id ks)
  where
    by : (b : Bool) → without id (ks ++ blank id ∷ []) ≡ without id ks → (if b then without id (ks ++ blank id ∷ []) else k ∷ without id (ks ++ blank id ∷ [])) ≡ (if b then without id ks else k ∷ without id ks)
    by true rest = rest
    by false rest = ap (λ (xs : List Kept). k ∷ xs) rest

without_twice : (id : ℕ) (ks : List Kept) → without id (without id ks) ≡ without id ks
without_twice id [] = refl
without_twice id (k ∷ ks) = by (k.id == id) refl (without_twice id ks)
  where
    by : (b : Bool) → (k.id == id) ≡ b → without id (without id ks) ≡ without id ks → without id (if b then without id ks else k ∷ without id ks) ≡ (if b then without id ks else k ∷ without id ks)
    by true is rest = rest
    by false is rest = ap (λ b. if b then without id (without id ks) else k ∷ without id (without id ks)) is ∙ ap (λ (xs : List Kept). k ∷ xs) rest

-- whatever a frame changes of a stream, nothing is left of it once that is reset
pub offers_gone : (id : ℕ) (c : theory_responses.Change) (offers : theory_responses.State) → without id (offers_with id c offers).kept ≡ without id offers.kept
offers_gone id c offers =
    over c.over (change id (answered_if c.caused) (with_new c.opens id offers.kept))
    ∙ changed_goes id (answered_if c.caused) (answered_if_id c.caused) (with_new c.opens id offers.kept)
    ∙ new c.opens
  where
    over : (b : Bool) (ks : List Kept) → without id (unless_over b id ks) ≡ without id ks
    over true ks = without_twice id ks
    over false ks = refl

    new : (b : Bool) → without id (with_new b id offers.kept) ≡ without id offers.kept
    new true = without_last id offers.kept
    new false = refl

-- ---- what is held

held_twice : (id : ℕ) (hs : List Held) → lines.without id_of id (lines.without id_of id hs) ≡ lines.without id_of id hs
held_twice id [] = refl
held_twice id (h ∷ hs) = by (h.id == id) refl (held_twice id hs)
  where
    by : (b : Bool) → (h.id == id) ≡ b → lines.without id_of id (lines.without id_of id hs) ≡ lines.without id_of id hs → lines.without id_of id (if b then lines.without id_of id hs else h ∷ lines.without id_of id hs) ≡ (if b then lines.without id_of id hs else h ∷ lines.without id_of id hs)
    by true is rest = rest
    by false is rest = ap (λ b. if b then lines.without id_of id (lines.without id_of id hs) else h ∷ lines.without id_of id (lines.without id_of id hs)) is ∙ ap (λ (xs : List Held). h ∷ xs) rest

pub held_gone : (b : Bool) (id : ℕ) (hs : List Held) → lines.without id_of id (held_if b id hs) ≡ lines.without id_of id hs
held_gone true id hs = refl
held_gone false id hs = held_twice id hs

pub held_by : (b : Bool) (id : ℕ) (hs : List Held) → (if b then hs else lines.without id_of id hs) ≡ held_if b id hs
held_by true id hs = refl
held_by false id hs = refl

-- ---- resets that are owed

-- what is found without a stream was there
pub cut_without : (id : ℕ) (offers : theory_responses.State) → NoneCut offers → NoneCut (record offers { kept = without id offers.kept })
cut_without id offers none other k found = elim (eqb_tells id other) [
  | inl same ↦ (let no : ◌≡◌ {A = Option Kept} None (Some k) = sym (find_gone id offers.kept) ∙ ap (λ n. find n (without id offers.kept)) same.1 ∙ found in cc)
  | inr apart ↦ none other k (sym (find_without id other offers.kept apart.1) ∙ found)
]

found_or_new : (other : ℕ) (new k : Kept) (ks : List Kept) → find other (ks ++ new ∷ []) ≡ Some k → (find other ks ≡ Some k) ⊎ (k ≡ new)
found_or_new other new k [] found = by (new.id == other) found
  where
    by : (b : Bool) → (if b then Some new else None) ≡ Some k → (None ≡ Some k) ⊎ (k ≡ new)
    by true is = inr (let same : k ≡ new = cc in same)
    by false is = inl is
found_or_new other new k (x ∷ ks) found = by (x.id == other) found (found_or_new other new k ks)
  where
    by : (b : Bool) → (if b then Some x else find other (ks ++ new ∷ [])) ≡ Some k → (find other (ks ++ new ∷ []) ≡ Some k → (find other ks ≡ Some k) ⊎ (k ≡ new)) → ((if b then Some x else find other ks) ≡ Some k) ⊎ (k ≡ new)
    by true is rest = inl is
    by false is rest = rest is

pub cut_followed : (b : Bool) (id : ℕ) (offers : theory_responses.State) → NoneCut offers → NoneCut (offers_if b id offers)
cut_followed false id offers none = cut_without id offers none
cut_followed true id offers none = by (is_kept id offers.kept)
  where
    by : (b : Bool) → NoneCut (if b then offers else record offers { kept = offers.kept ++ blank id ∷ [] })
    by true = none
    by false = λ other k found. elim (found_or_new other (blank id) k offers.kept found) [ inl old ↦ none other k old | inr new ↦ ap (λ (x : Kept). x.cut) new ]

-- a reply leaves none where it leaves none of its stream
pub cut_replied : (id : ℕ) (cause : Cause) (offers : theory_responses.State) → NoneCut offers → ((k : Kept) → find id offers.kept ≡ Some k → (answered cause k).cut ≡ false) → NoneCut (record offers { kept = change id (answered cause) offers.kept })
cut_replied id cause offers none own other k found = elim (eqb_tells id other) [
  | inl same ↦ by (find id offers.kept) refl (sym (find_changed id (answered cause) offers.kept (answered_id cause)) ∙ ap (λ n. find n (change id (answered cause) offers.kept)) same.1 ∙ found)
  | inr apart ↦ none other k (sym (find_other id other (answered cause) offers.kept (answered_id cause) apart.1) ∙ found)
]
  where
    by : (o : Option Kept) → find id offers.kept ≡ o → Rattle.std.specs.Prelude.option_map (answered cause) o ≡ Some k → k.cut ≡ false
    by None is same = cc
    by (Some x) is same = ap (λ (y : Kept). y.cut) (let now : k ≡ answered cause x = cc in now) ∙ own x is

pub cut_begun : (id : ℕ) (cause : Cause) (offers : theory_responses.State) → ((k : Kept) → find id offers.kept ≡ Some k → (answered cause k).cut ≡ false) → (k : Kept) → find id (offers_if true id offers).kept ≡ Some k → (answered cause k).cut ≡ false
cut_begun id cause offers own k found = by (is_kept id offers.kept) found
  where
    by : (b : Bool) → find id (if b then offers else record offers { kept = offers.kept ++ blank id ∷ [] }).kept ≡ Some k → (answered cause k).cut ≡ false
    by true is = own k is
    by false is = elim (found_or_new id (blank id) k offers.kept is) [ inl old ↦ own k old | inr new ↦ ap (λ (x : Kept). (answered cause x).cut) new ]

-- ---- ids

filter_all : (p q : ℕ → Bool) (ids : List ℕ) → list_all p ids ≡ true → list_all p (filter q ids) ≡ true
filter_all p q [] all = refl
filter_all p q (n ∷ ids) all = by (q n) (filter_all p q ids parts.1)
  where
    parts : (p n ≡ true) × (list_all p ids ≡ true)
    parts = and_parts (p n) (list_all p ids) all

    by : (b : Bool) → list_all p (filter q ids) ≡ true → list_all p (if b then n ∷ filter q ids else filter q ids) ≡ true
    by true rest = and_from (p n) (list_all p (filter q ids)) parts.0 rest
    by false rest = rest

-- an id above all those of which some are kept, the other way round, is above those
pub above_kept : (id : ℕ) (q : ℕ → Bool) (ids : List ℕ) (ks : List Kept) → map (λ (k : Kept). k.id) ks ≡ Rattle.std.specs.Prelude.reverse (filter q ids) → list_all (λ other. nat_lt other id) ids ≡ true → is_above_all id ks ≡ true
above_kept id q ids ks are above =
    sym (list_all-map (λ other. nat_lt other id) (λ (k : Kept). k.id) ks)
    ∙ ap (λ (xs : List ℕ). list_all (λ other. nat_lt other id) xs) are
    ∙ run-reverse (λ other. nat_lt other id) (filter q ids) (filter_all (λ other. nat_lt other id) q ids above)
