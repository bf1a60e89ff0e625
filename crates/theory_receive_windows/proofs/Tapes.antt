-- What an entry leaves of the active streams, and of the octets that wait.
use Rattle.std.proofs.Common.{◌≡◌, ℕ, ◌+◌, ◌≤◌, Bool, true, false, not, ◌&&◌, ◌||◌, ◌==◌, List, [], ◌∷◌, ◌++◌, length, refl, sym, ap, ◌∙◌, arith, length-append, if◌then◌else◌, inl, inr}
use Rattle.std.specs.Prelude.{Option, Some, None, filter, nat_lt}
use Rattle.std.proofs.lemmas.Bool.{and_right, eq-eqb, le-ltb}
use Rattle.std.proofs.Math.Bool.{and-true}
use Rattle.std.proofs.lemmas.Bool.Decides.{eqb_tells}
use Rattle.model.specs.Frames.{Frame, data_kind, headers_kind, continuation_kind, window_update_kind, ends_headers, ends_stream, content, rst_stream_kind}
use Rattle.model.specs.Logs.Act.{Open, ToUp, Close, CloseClient}
use Rattle.model.specs.Tapes.{Noted, Entry, came, sent, sent_up}
use Rattle.model.specs.Tapes.Entry.{Came, Breached, Happened, Sent, Did}
use Rattle.model.specs.Decoding.{Partial, begun, joined, completed}
use Rattle.model.specs.Openings.{Opened}
use Rattle.model.specs.Lifetimes.{opens_by, opened, is_over, is_active, active, is_drained}
use Rattle.model.specs.WindowsOnTape.{is_on, is_any, data_length, data_octets}
use Rattle.model.specs.WindowClause.{waiting}
use Rattle.model.proofs.OpenedLaws.{opens_new, none_zero}
use Rattle.model.proofs.ActiveLaws.{active_control, active_beside}
use Rattle.theory_receive_windows.specs.State.{exchange, unless_over}
use Rattle.theory_receive_windows.proofs.Sums.{is_among, AreApart}

-- ---- streams that were opened

-- no stream was opened twice
pub opened_apart : (t : List Entry) → AreApart (opened t)
opened_apart [] = tt
opened_apart (Came noted ∷ t) = by (opens_by (is_drained t) (opened t) (completed (came t) noted.frame) noted.note) refl (opened_apart t)
  where
    by : (b : Bool) → opens_by (is_drained t) (opened t) (completed (came t) noted.frame) noted.note ≡ b → AreApart (opened t) → AreApart (if b then noted.frame.id ∷ opened t else opened t)
    by true e apart = (opens_new t noted e, apart)
    by false e apart = apart
opened_apart (Breached breach ∷ t) = opened_apart t
opened_apart (Happened event ∷ t) = opened_apart t
opened_apart (Sent noted ∷ t) = opened_apart t
opened_apart (Did act ∷ t) = opened_apart t

-- the id 0 is never active
pub zero_idle : (t : List Entry) → is_active 0 t ≡ false
zero_idle t = ap (λ b. b && not (is_over 0 t)) (none_zero t)

-- ---- the active streams as a list

-- what stands among those that pass
among_filter : (p : ℕ → Bool) (id : ℕ) (ids : List ℕ) → is_among id (filter p ids) ≡ (is_among id ids && p id)
among_filter p id [] = refl
among_filter p id (x ∷ xs) = elim (eqb_tells x id) [
  | inl is ↦ ap (λ n. is_among id (if p n then n ∷ filter p xs else filter p xs)) is.1 ∙ here (p id) refl (among_filter p id xs) ∙ ap (λ b. (b || is_among id xs) && p id) (sym is.0)
  | inr off ↦ there (p x) off.0 (among_filter p id xs) ∙ ap (λ b. (b || is_among id xs) && p id) (sym off.0)
]
  where
    here : (b : Bool) → p id ≡ b → is_among id (filter p xs) ≡ (is_among id xs && p id) → is_among id (if b then id ∷ filter p xs else filter p xs) ≡ p id
    here true e more = ap (λ c. c || is_among id (filter p xs)) (eq-eqb id id refl) ∙ sym e
    here false e more = more ∙ ap (λ c. is_among id xs && c) e ∙ and_right (is_among id xs) false refl ∙ sym e

    there : (b : Bool) → (x == id) ≡ false → is_among id (filter p xs) ≡ (is_among id xs && p id) → is_among id (if b then x ∷ filter p xs else filter p xs) ≡ (is_among id xs && p id)
    there true off more = ap (λ c. c || is_among id (filter p xs)) off ∙ more
    there false off more = more

-- the list has just the streams that are active
pub among_active : (t : List Entry) (id : ℕ) → is_among id (active t) ≡ is_active id t
among_active t id = among_filter (λ x. not (is_over x t)) id (opened t)

-- none of them stands twice
filter_apart : (p : ℕ → Bool) (ids : List ℕ) → AreApart ids → AreApart (filter p ids)
filter_apart p [] apart = tt
filter_apart p (x ∷ xs) apart = by (p x) (filter_apart p xs apart.1) (among_filter p x xs ∙ ap (λ b. b && p x) apart.0)
  where
    by : (b : Bool) → AreApart (filter p xs) → is_among x (filter p xs) ≡ false → AreApart (if b then x ∷ filter p xs else filter p xs)
    by true more out = (out, more)
    by false more out = more

-- no active stream stands twice
pub active_apart : (t : List Entry) → AreApart (active t)
active_apart t = filter_apart (λ x. not (is_over x t)) (opened t) (opened_apart t)

-- the same passes by two tests that agree
same_filter : (p q : ℕ → Bool) (ids : List ℕ) → ((id : ℕ) → is_among id ids ≡ true → p id ≡ q id) → filter p ids ≡ filter q ids
same_filter p q [] same = refl
same_filter p q (x ∷ xs) same =
    ap (λ b. if b then x ∷ filter p xs else filter p xs) (same x (ap (λ b. b || is_among x xs) (eq-eqb x x refl)))
    ∙ ap (λ ys. if q x then x ∷ ys else ys) (same_filter p q xs (λ id among. same id (by (x == id) (is_among id xs) among)))
  where
    by : (b c : Bool) → c ≡ true → (b || c) ≡ true
    by true c e = refl
    by false c e = e

-- what passes two tests passes one after the other
two_filters : (p q : ℕ → Bool) (ids : List ℕ) → filter (λ x. p x && q x) ids ≡ filter q (filter p ids)
two_filters p q [] = refl
two_filters p q (x ∷ xs) = by (p x) (two_filters p q xs)
  where
    by : (b : Bool) → filter (λ y. p y && q y) xs ≡ filter q (filter p xs) → (if b && q x then x ∷ filter (λ y. p y && q y) xs else filter (λ y. p y && q y) xs) ≡ filter q (if b then x ∷ filter p xs else filter p xs)
    by true more = ap (λ ys. if q x then x ∷ ys else ys) more
    by false more = more

-- the active streams by their test
pub active_by : (t : List Entry) → active t ≡ filter (λ x. is_active x t) (opened t)
active_by t = same_filter (λ x. not (is_over x t)) (λ x. is_active x t) (opened t) (λ id among. ap (λ b. b && not (is_over id t)) (sym among))

-- where all streams are as they were
pub same_active : (t : List Entry) (e : Entry) → opened (e ∷ t) ≡ opened t → ((id : ℕ) → is_active id (e ∷ t) ≡ is_active id t) → active (e ∷ t) ≡ active t
same_active t e same all = active_by (e ∷ t) ∙ ap (λ ids. filter (λ x. is_active x (e ∷ t)) ids) same ∙ same_filter (λ x. is_active x (e ∷ t)) (λ x. is_active x t) (opened t) (λ id among. all id) ∙ sym (active_by t)

-- Where one stream is over or isn't, and all others are as they were, so is the list.
pub goes_from_active : (t : List Entry) (e : Entry) (id : ℕ) (over : Bool) → opened (e ∷ t) ≡ opened t → ((other : ℕ) → (id ≡ other → ⊥) → is_active other (e ∷ t) ≡ is_active other t) → is_active id (e ∷ t) ≡ (is_active id t && not over) → active (e ∷ t) ≡ unless_over over id (active t)
goes_from_active t e id over same beside own =
    active_by (e ∷ t) ∙ ap (λ ids. filter (λ x. is_active x (e ∷ t)) ids) same ∙ by over own ∙ ap (λ ids. unless_over over id ids) (sym (active_by t))
  where
    pass : (b : Bool) → is_active id (e ∷ t) ≡ (is_active id t && not b) → (x : ℕ) → is_active x (e ∷ t) ≡ (is_active x t && not (x == id && b))
    pass b own x = elim (eqb_tells x id) [
      | inl is ↦ ap (λ n. is_active n (e ∷ t)) is.1 ∙ own ∙ ap (λ n. is_active n t && not b) (sym is.1) ∙ ap (λ c. is_active x t && not (c && b)) (sym is.0)
      | inr off ↦ beside x (λ f. off.1 (sym f)) ∙ sym (ap (λ c. is_active x t && not (c && b)) off.0 ∙ and-true (is_active x t))
    ]

    by : (b : Bool) → is_active id (e ∷ t) ≡ (is_active id t && not b) → filter (λ x. is_active x (e ∷ t)) (opened t) ≡ unless_over b id (filter (λ x. is_active x t) (opened t))
    by true own =
        same_filter (λ x. is_active x (e ∷ t)) (λ x. is_active x t && not (x == id)) (opened t) (λ x among. pass true own x ∙ ap (λ c. is_active x t && not c) (and-true (x == id)))
        ∙ two_filters (λ x. is_active x t) (λ x. not (x == id)) (opened t)
    by false own =
        same_filter (λ x. is_active x (e ∷ t)) (λ x. is_active x t) (opened t) (λ x among. pass false own x ∙ ap (λ c. is_active x t && not c) (and_right (x == id) false refl) ∙ and-true (is_active x t))

-- A stream that opens, and is active with it, stands first.
pub comes_to_active : (t : List Entry) (e : Entry) (id : ℕ) → opened (e ∷ t) ≡ id ∷ opened t → is_among id (opened t) ≡ false → ((other : ℕ) → (id ≡ other → ⊥) → is_active other (e ∷ t) ≡ is_active other t) → is_active id (e ∷ t) ≡ true → active (e ∷ t) ≡ id ∷ active t
comes_to_active t e id same out beside own =
    active_by (e ∷ t) ∙ ap (λ ids. filter (λ x. is_active x (e ∷ t)) ids) same
    ∙ ap (λ b. if b then id ∷ filter (λ x. is_active x (e ∷ t)) (opened t) else filter (λ x. is_active x (e ∷ t)) (opened t)) own
    ∙ ap (λ xs. id ∷ xs) (same_filter (λ x. is_active x (e ∷ t)) (λ x. is_active x t) (opened t) (λ x among. beside x (λ f. absurd (let no : true ≡ false = sym among ∙ ap (λ n. is_among n (opened t)) (sym f) ∙ out in cc))) ∙ sym (active_by t))

-- ---- a frame that is no part of a block

-- a frame of another kind goes on with no block
no_part : (before : Option Partial) (frame : Frame) → (frame.kind == headers_kind || frame.kind == continuation_kind) ≡ false → joined before frame ≡ None
no_part None frame none = ap (λ b. if b then Some (record { id = frame.id; ends = ends_stream frame; fragments = content frame }) else None) (first (frame.kind == headers_kind) (frame.kind == continuation_kind) none)
  where
    first : (b c : Bool) → (b || c) ≡ false → b ≡ false
    first true c e = e
    first false c e = refl
no_part (Some block) frame none = ap (λ b. if b && frame.id == block.id then Some (record { id = block.id; ends = block.ends; fragments = block.fragments ++ content frame }) else None) (second (frame.kind == headers_kind) (frame.kind == continuation_kind) none)
  where
    second : (b c : Bool) → (b || c) ≡ false → c ≡ false
    second true c e = absurd (let no : true ≡ false = e in cc)
    second false c e = e

-- and completes none
pub none_completed : (before : List Noted) (frame : Frame) → (frame.kind == headers_kind || frame.kind == continuation_kind) ≡ false → completed before frame ≡ None
none_completed before frame none = by (ends_headers frame) (no_part (begun before) frame none)
  where
    by : (b : Bool) → joined (begun before) frame ≡ None → (if b then joined (begun before) frame else None) ≡ None
    by true e = e
    by false e = refl

-- octets that are given back leave all streams as they were
pub active_given : (t : List Entry) (noted : Noted) → noted.frame.kind ≡ window_update_kind → (id : ℕ) → is_active id (Sent noted ∷ t) ≡ is_active id t
active_given t noted kind id = elim (eqb_tells noted.frame.id id) [
  | inr off ↦ active_beside t noted id off.1
  | inl is ↦ (
      let none : completed (sent t) noted.frame ≡ None = none_completed (sent t) noted.frame (ap (λ k. k == headers_kind || k == continuation_kind) kind) in
      ap (λ n. is_active n (Sent noted ∷ t)) (sym is.1)
      ∙ active_control t noted none (ap (λ k. k == data_kind) kind)
      ∙ ap (λ k. is_active noted.frame.id t && not (k == rst_stream_kind)) kind
      ∙ and-true (is_active noted.frame.id t)
      ∙ ap (λ n. is_active n t) is.1
      )
]

-- ---- octets that wait

-- DATA counts on its stream alone
pub data_on : (frame : Frame) (id : ℕ) → data_length (is_on id) frame ≡ (if frame.id == id then data_length is_any frame else 0)
data_on frame id = by (frame.kind == data_kind) (frame.id == id)
  where
    by : (b c : Bool) → (if b && c then length frame.payload else 0) ≡ (if c then (if b && true then length frame.payload else 0) else 0)
    by true true = refl
    by true false = refl
    by false true = refl
    by false false = refl

-- nothing was put out before either
unput_before : (k j : ℕ) (t : List Entry) (octets : List ℕ) → length (if k == j then sent_up k t ++ octets else sent_up k t) ≡ 0 → length (sent_up k t) ≡ 0
unput_before k j t octets none = by (k == j) none
  where
    by : (b : Bool) → length (if b then sent_up k t ++ octets else sent_up k t) ≡ 0 → length (sent_up k t) ≡ 0
    by true none = let sum = length-append (sent_up k t) octets in omega (arith, none, sum)
    by false none = none

-- the route of a connection changes nothing that waits
pub by_any_route : (stream k a b taken : ℕ) (t : List Entry) (put : ℕ) → waiting (record { k = k; route = a; stream = stream }) taken t put ≡ waiting (record { k = k; route = b; stream = stream }) taken t put
by_any_route stream k a b taken [] put = refl
by_any_route stream k a b taken (Came noted ∷ t) put = ap (λ n. (if nat_lt taken put then data_length (is_on stream) noted.frame else 0) + n) (by_any_route stream k a b taken t (length (sent_up k t)))
by_any_route stream k a b taken (Breached breach ∷ t) put = by_any_route stream k a b taken t (length (sent_up k t))
by_any_route stream k a b taken (Happened event ∷ t) put = by_any_route stream k a b taken t (length (sent_up k t))
by_any_route stream k a b taken (Sent noted ∷ t) put = by_any_route stream k a b taken t put
by_any_route stream k a b taken (Did act ∷ t) put = by_any_route stream k a b taken t put

-- Of two connections for which nothing was put out, the same waits.
pub waits_alike : (id k j taken : ℕ) (t : List Entry) (put : ℕ) → length (sent_up k t) ≡ 0 → length (sent_up j t) ≡ 0 → waiting (exchange id k) taken t put ≡ waiting (exchange id j) taken t put
waits_alike id k j taken [] put a b = refl
waits_alike id k j taken (Came noted ∷ t) put a b = ap (λ n. (if nat_lt taken put then data_length (is_on id) noted.frame else 0) + n) (waits_alike id k j taken t (length (sent_up k t)) a b ∙ ap (λ n. waiting (exchange id j) taken t n) (a ∙ sym b))
waits_alike id k j taken (Breached breach ∷ t) put a b = waits_alike id k j taken t (length (sent_up k t)) a b ∙ ap (λ n. waiting (exchange id j) taken t n) (a ∙ sym b)
waits_alike id k j taken (Happened event ∷ t) put a b = waits_alike id k j taken t (length (sent_up k t)) a b ∙ ap (λ n. waiting (exchange id j) taken t n) (a ∙ sym b)
waits_alike id k j taken (Sent noted ∷ t) put a b = waits_alike id k j taken t put a b
waits_alike id k j taken (Did (Open i route) ∷ t) put a b = waits_alike id k j taken t put a b
waits_alike id k j taken (Did (ToUp i octets) ∷ t) put a b = waits_alike id k j taken t put (unput_before k i t octets a) (unput_before j i t octets b)
waits_alike id k j taken (Did (Close i) ∷ t) put a b = waits_alike id k j taken t put a b
waits_alike id k j taken (Did CloseClient ∷ t) put a b = waits_alike id k j taken t put a b

-- No more waits than came.
pub most_waits : (o : Opened) (taken : ℕ) (t : List Entry) (put : ℕ) → waiting o taken t put ≤ data_octets (is_on o.stream) (came t)
most_waits o taken [] put = omega arith
most_waits o taken (Came noted ∷ t) put =
    let more = most_waits o taken t (length (sent_up o.k t)) in
    let here = by (nat_lt taken put) (data_length (is_on o.stream) noted.frame) in
    omega (arith, more, here)
  where
    by : (b : Bool) (n : ℕ) → (if b then n else 0) ≤ n
    by true n = omega arith
    by false n = omega arith
most_waits o taken (Breached breach ∷ t) put = most_waits o taken t (length (sent_up o.k t))
most_waits o taken (Happened event ∷ t) put = most_waits o taken t (length (sent_up o.k t))
most_waits o taken (Sent noted ∷ t) put = most_waits o taken t put
most_waits o taken (Did act ∷ t) put = most_waits o taken t put

-- where nothing was put out nothing waits
pub none_waits : (id k taken : ℕ) (t : List Entry) → length (sent_up k t) ≡ 0 → waiting (exchange id k) taken t 0 ≡ 0
none_waits id k taken [] none = refl
none_waits id k taken (Came noted ∷ t) none =
    let more : waiting (exchange id k) taken t (length (sent_up k t)) ≡ 0 = ap (λ n. waiting (exchange id k) taken t n) none ∙ none_waits id k taken t none in
    let here : (if nat_lt taken 0 then data_length (is_on id) noted.frame else 0) ≡ 0 = ap (λ b. if b then data_length (is_on id) noted.frame else 0) (le-ltb taken 0 (omega arith)) in
    omega (arith, more, here)
none_waits id k taken (Breached breach ∷ t) none = ap (λ n. waiting (exchange id k) taken t n) none ∙ none_waits id k taken t none
none_waits id k taken (Happened event ∷ t) none = ap (λ n. waiting (exchange id k) taken t n) none ∙ none_waits id k taken t none
none_waits id k taken (Sent noted ∷ t) none = none_waits id k taken t none
none_waits id k taken (Did (Open i route) ∷ t) none = none_waits id k taken t none
none_waits id k taken (Did (ToUp i octets) ∷ t) none = none_waits id k taken t (unput_before k i t octets none)
none_waits id k taken (Did (Close i) ∷ t) none = none_waits id k taken t none
none_waits id k taken (Did CloseClient ∷ t) none = none_waits id k taken t none
