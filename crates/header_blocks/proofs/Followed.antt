-- What a joiner keeps is what the frames say.
use Rattle.std.proofs.Common.{◌≡◌, ℕ, suc, ◌+◌, ◌-◌, ◌≤◌, ◌==◌, nat_lt, Bool, true, false, not, ◌&&◌, ◌||◌, if◌then◌else◌, List, [], ◌∷◌, ◌++◌, length, length-append, Option, Some, None, refl, ap, sym, ◌∙◌, subst, arith}
use Rattle.std.specs.Prelude.{is_some}
use Rattle.std.proofs.lemmas.List.{take_all}
use Rattle.std.proofs.lemmas.Bool.{eq-eqb, eqb-true, ltb-false}
use Rattle.model.specs.Frames.{Frame, headers_kind, continuation_kind, ends_headers, ends_stream, content}
use Rattle.model.specs.Tapes.{Noted}
use Rattle.model.specs.Decoding.{Partial, joined, begun, completed}
use Rattle.model.specs.FrameErrors.{is_between, is_long, last_continuations}
use Rattle.model.specs.Limits.{longest_block, most_continuations}
use Rattle.header_blocks.specs.Joining.{Joining, nothing_begun, continuations_with, is_too_long, misplaced, fault_at, begins, continues, HasRoom}
use Rattle.header_blocks.specs.Following.{IsKeptOf}
use Rattle.header_blocks.specs.declared.join_fault.JoinFault.{JoinFault}
use Rattle.header_blocks.specs.declared.join_fault.JoinFault.TheVariants.{TooLong}

pub not_equal : (a b : ℕ) → (a ≡ b → ⊥) → (a == b) ≡ false
not_equal a b never = no (a == b) (λ e. never (eqb-true a b e))
  where
    no : (t : Bool) → (t ≡ true → ⊥) → t ≡ false
    no true f = absurd (f refl)
    no false f = refl

-- a test that isn't passed where there is no fault
passed : (test : Bool) (fault : JoinFault) (other : Option JoinFault) → (if test then Some fault else other) ≡ None → (test ≡ false) × (other ≡ None)
passed true fault other e = cc
passed false fault other e = (refl, e)

neither : (a b : Bool) → (a || b) ≡ false → (a ≡ false) × (b ≡ false)
neither true b e = cc
neither false b e = (refl, e)

-- What is known of a frame without a fault.
pub record IsFaultless (joining : Joining) (frame : Frame) : Type 0 where
  pub in_place : is_between joining.begun frame ≡ false
  pub short : is_long (joined joining.begun frame) ≡ false
  pub few : nat_lt most_continuations (continuations_with joining frame) ≡ false

pub faultless : (joining : Joining) (frame : Frame) → fault_at joining frame ≡ None → IsFaultless joining frame
faultless joining frame e =
    let first = passed (is_between joining.begun frame) (misplaced joining.begun) (if is_too_long joining frame then Some TooLong else None) e in
    let second = passed (is_too_long joining frame) TooLong None first.1 in
    let both = neither (is_long (joined joining.begun frame)) (nat_lt most_continuations (continuations_with joining frame)) second.0 in
    record { in_place = first.0; short = both.0; few = both.1 }

-- ---- HEADERS

begun_by : Frame → Partial
begun_by frame = record { id = frame.id; ends = ends_stream frame; fragments = content frame }

joined_first : (frame : Frame) → frame.kind ≡ headers_kind → joined None frame ≡ Some (begun_by frame)
unfolding begun_by
joined_first frame is = let yes : (frame.kind == headers_kind) ≡ true = eq-eqb frame.kind headers_kind is in rw yes refl

none_begun : (before : Option Partial) (frame : Frame) → (frame.kind == continuation_kind) ≡ false → is_between before frame ≡ false → before ≡ None
none_begun None frame other e = refl
none_begun (Some block) frame other e = let clash : true ≡ false = (rw other at e) in cc

headers_differ : (kind : ℕ) → kind ≡ headers_kind → (kind == continuation_kind) ≡ false
headers_differ kind is = not_equal kind continuation_kind (λ e. let clash : headers_kind ≡ continuation_kind = sym is ∙ e in omega (arith, clash))

pub first_joined : (joining : Joining) (frame : Frame) → fault_at joining frame ≡ None → frame.kind ≡ headers_kind → (joining.begun ≡ None) × (joined joining.begun frame ≡ (begins frame.id (ends_stream frame) (content frame)).begun)
unfolding begun_by
first_joined joining frame e is =
    let none : joining.begun ≡ None = none_begun joining.begun frame (headers_differ frame.kind is) (faultless joining frame e).in_place in
    (none, ap (λ b. joined b frame) none ∙ joined_first frame is)

-- ---- CONTINUATION

more_of : Partial → Frame → Partial
more_of partial frame = record { id = partial.id; ends = partial.ends; fragments = partial.fragments ++ content frame }

joined_more : (partial : Partial) (frame : Frame) → frame.kind ≡ continuation_kind → frame.id ≡ partial.id → joined (Some partial) frame ≡ Some (more_of partial frame)
unfolding more_of
joined_more partial frame is same =
    let yes : (frame.kind == continuation_kind) ≡ true = eq-eqb frame.kind continuation_kind is in
    let on : (frame.id == partial.id) ≡ true = eq-eqb frame.id partial.id same in
    rw (yes, on) refl

-- The block with which a CONTINUATION goes on.
record GoesOnWith (before : Option Partial) (frame : Frame) : Type 0 where
  pub block : Partial
  pub is : before ≡ Some block
  pub same : frame.id ≡ block.id

not_both : (test : Bool) → not (true && test) ≡ false → test ≡ true
not_both true e = refl
not_both false e = cc

goes_on_with : (before : Option Partial) (frame : Frame) → frame.kind ≡ continuation_kind → is_between before frame ≡ false → GoesOnWith before frame
goes_on_with None frame is e = let clash : true ≡ false = sym (eq-eqb frame.kind continuation_kind is) ∙ e in cc
goes_on_with (Some block) frame is e =
    let yes : (frame.kind == continuation_kind) ≡ true = eq-eqb frame.kind continuation_kind is in
    record { block = block; is = refl; same = eqb-true frame.id block.id (not_both (frame.id == block.id) (rw yes at e)) }

pub more_joined : (joining : Joining) (frame : Frame) → fault_at joining frame ≡ None → frame.kind ≡ continuation_kind → HasRoom joining (content frame) × (joined joining.begun frame ≡ (continues joining (content frame)).begun)
unfolding more_of
more_joined joining frame e is =
    let fine = faultless joining frame e in
    let on = goes_on_with joining.begun frame is fine.in_place in
    let joins : joined joining.begun frame ≡ Some (more_of on.block frame) = ap (λ b. joined b frame) on.is ∙ joined_more on.block frame is on.same in
    let size : length (on.block.fragments ++ content frame) ≤ longest_block = ltb-false longest_block (length (on.block.fragments ++ content frame)) (ap is_long (sym joins) ∙ fine.short) in
    let yes : (frame.kind == continuation_kind) ≡ true = eq-eqb frame.kind continuation_kind is in
    let count : suc joining.continuations ≤ most_continuations = ltb-false most_continuations (suc joining.continuations) (rw yes at fine.few) in
    let sum = length-append on.block.fragments (content frame) in (
      record { block = on.block; is_begun = on.is; octets = omega (arith, size, sum); frames = omega (arith, count) },
      joins ∙ ap (λ b. (continues (record { begun = b; continuations = joining.continuations }) (content frame)).begun) (sym on.is),
    )

-- the payload of a CONTINUATION is its fragment
pub room_for : (joining : Joining) (kind id : ℕ) (payload : List ℕ) → fault_at joining (record { kind = kind; flags = 0; id = id; payload = payload }) ≡ None → kind ≡ continuation_kind → HasRoom joining payload
room_for joining kind id payload e is =
    let whole : content (record { kind = kind; flags = 0; id = id; payload = payload }) ≡ payload = ap (λ k. content (record { kind = k; flags = 0; id = id; payload = payload })) is ∙ take_all (length payload - 0 - 0) payload (omega arith) in
    subst (HasRoom joining) whole (more_joined joining (record { kind = kind; flags = 0; id = id; payload = payload }) e is).0

pub none_at : (fault : Option JoinFault) → false ≡ is_some fault → fault ≡ None
none_at None e = refl
none_at (Some f) e = cc

-- ---- any other frame

pub other_joined : (joining : Joining) (frame : Frame) → fault_at joining frame ≡ None → (frame.kind ≡ headers_kind → ⊥) → (frame.kind ≡ continuation_kind → ⊥) → (joining.begun ≡ None) × (joined joining.begun frame ≡ None)
other_joined joining frame e no_headers no_continuation =
    let none : joining.begun ≡ None = none_begun joining.begun frame (not_equal frame.kind continuation_kind no_continuation) (faultless joining frame e).in_place in
    let no : (frame.kind == headers_kind) ≡ false = not_equal frame.kind headers_kind no_headers in
    (none, ap (λ b. joined b frame) none ∙ rw no refl)

-- ---- the frames of a direction

-- of how many CONTINUATION frames the newest are
pub counted : (before : List Noted) (noted : Noted) (joining : Joining) → IsKeptOf before joining → is_between joining.begun noted.frame ≡ false → continuations_with joining noted.frame ≡ last_continuations (noted ∷ before)
counted before noted joining kept e = by_type (noted.frame.kind == continuation_kind) refl
  where
    by_type : (test : Bool) → (noted.frame.kind == continuation_kind) ≡ test → (if test then suc joining.continuations else 0) ≡ (if test then suc (last_continuations before) else 0)
    by_type false is = refl
    by_type true is =
        let on = goes_on_with joining.begun noted.frame (eqb-true noted.frame.kind continuation_kind is) e in
        ap suc (kept.continuations (λ none. let clash : ◌≡◌ {A = Option Partial} None (Some on.block) = sym none ∙ on.is in cc))

pub nothing_kept : IsKeptOf [] nothing_begun
nothing_kept = record { is_begun = refl; continuations = λ some. absurd (some refl) }

-- behind a frame that doesn't end its block
pub kept_on : (before : List Noted) (noted : Noted) (joining : Joining) → IsKeptOf before joining → fault_at joining noted.frame ≡ None → ends_headers noted.frame ≡ false
    → IsKeptOf (noted ∷ before) (record { begun = joined joining.begun noted.frame; continuations = continuations_with joining noted.frame }) × (completed before noted.frame ≡ None)
kept_on before noted joining kept e unended = (
  record {
    is_begun = ap (λ b. joined b noted.frame) kept.is_begun ∙ ap (λ b. if b then None else joined (begun before) noted.frame) (sym unended);
    continuations = λ some. counted before noted joining kept (faultless joining noted.frame e).in_place;
  },
  ap (λ b. if b then joined (begun before) noted.frame else None) unended,
)

-- behind a frame that does
pub kept_none : (before : List Noted) (noted : Noted) (joining : Joining) → IsKeptOf before joining → ends_headers noted.frame ≡ true → IsKeptOf (noted ∷ before) nothing_begun × (completed before noted.frame ≡ joined joining.begun noted.frame)
kept_none before noted joining kept ended = (
  record { is_begun = sym (ap (λ b. if b then None else joined (begun before) noted.frame) ended); continuations = λ some. absurd (some refl) },
  ap (λ b. if b then joined (begun before) noted.frame else None) ended ∙ ap (λ b. joined b noted.frame) (sym kept.is_begun),
)
