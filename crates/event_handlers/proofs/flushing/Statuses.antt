-- Heads that are on offer have the statuses of their places: interim heads are below 200, and final ones aren't.
use Rattle.std.proofs.Common.{◌≡◌, ℕ, ◌<◌, ◌≤◌, Bool, true, false, ◌==◌, if◌then◌else◌, List, [], ◌∷◌, ◌++◌, Option, Some, None, refl, sym, ◌∙◌, ap, subst, inl, inr, arith}
use Rattle.std.proofs.lemmas.List.Elements.{All-nil, All-head, All-tail}
use Rattle.std.specs.Prelude.{nat_le, codes, bytes_eq}
use Rattle.std.proofs.lemmas.Bool.{cases_Bool}
use Rattle.std.proofs.lemmas.Slice.Eq.{bytes_eq-Decides}
use Rattle.std.specs.Str.Parse.{digits_value}
use Rattle.model.specs.Octets.{Joined, begins_with}
use Rattle.model.specs.Http2.{first_of, is_pseudo, pseudo_fields}
use Rattle.model.specs.Messages.{Field}
use Rattle.model.specs.Messages.Item.{Block}
use Rattle.model.specs.Http1.{values_of}
use Rattle.model.specs.ResponseHeads.{Head, Interim, Final, Framing}
use Rattle.model.specs.Responses.{Seen}
use Rattle.model.specs.Setup.{Passing}
use Rattle.model.specs.Setup.Passing.{Whole, Streaming}
use Rattle.model.specs.Setup.{Setup}
use Rattle.model.specs.Tapes.Entry.{Happened}
use Rattle.model.specs.Deliveries.{End, Delivery, IsSection}
use Rattle.model.specs.Available.{shown, IsShown, heard_by, ended_by}
use Rattle.model.specs.Offers.{is_to_head}
use Rattle.model.specs.Known.{Known}
use Rattle.model.specs.Causes.{Cause}
use Rattle.model.specs.Causes.Cause.{LargeFields, Tunnel, Expects, LargeBody, NoRoute, BadAnswer}
use Rattle.model.specs.Courses.{items, is_final, upstream_of}
use Rattle.model.specs.Openings.{exchange_on}
use Rattle.theory_errors.specs.Rule.{known_of}
use Rattle.theory_errors.proofs.Knowing.{known_so}
use Rattle.theory_responses.specs.Outbox.{Outbox, replied, Part, left, rest_of, offered_by, grown}
use Rattle.theory_responses.specs.Outbox.Outbox.{Before, Behind, Over}
use Rattle.theory_responses.specs.Outbox.Part.{Early, Final as Last, Octets, Trailing}
use Rattle.theory_responses.specs.State.{Kept, find}
use Rattle.theory_responses.specs.State as theory_responses
use Rattle.theory_responses.specs.Rule.{Seen as Step, moves_of, tape_of, sight_of, AllMayCome, AreRight, AreTold}
use Rattle.theory_responses.proofs.Allowing.{placed}
use Rattle.theory_responses.proofs.Holding.{HoldsOfAll, all_behind, leaves_news}
use Rattle.theory.specs.Moves.{Move}
use Rattle.theory.specs.State.{State, conducts, offers_of}
use Rattle.theory.specs.Steps.{Stands}
use Rattle.theory.proofs.Placing.{offers_may, offers_right, offers_told}
use Rattle.refinement.specs.View.{AreSo}

-- ---- of heads

abbrev pub AreEarly : List Head → Type 0
AreEarly [] = Unit {0}
AreEarly (head ∷ heads) = (head.status < 200) × AreEarly heads

abbrev pub IsLate : Option Head → Type 0
IsLate None = Unit {0}
IsLate (Some head) = 200 ≤ head.status

-- Those of an outbox are.
abbrev pub HasStatuses : Outbox → Type 0
HasStatuses (Before interims head body whole) = AreEarly interims × IsLate head
HasStatuses (Behind body whole) = Unit {0}
HasStatuses Over = Unit {0}

-- those of what is delivered are
record Delivers (delivery : Delivery) : Type 0 where
  pub early : AreEarly delivery.interims
  pub late : IsLate delivery.head

-- ---- what is read of an answer

interim_early : (text : List ℕ) (head : Head) → Interim text head → head.status < 200
interim_early text head i = subst (λ (h : Head). h.status < 200) (sym i.says) i.is_interim

interims_early : (text : List ℕ) (heads : List Head) → Joined Interim text heads → AreEarly heads
interims_early text [] joined = tt
interims_early text (head ∷ heads) joined = (interim_early joined.0 head joined.2, interims_early joined.1 heads joined.4)

final_late : (to_head : Bool) (text : List ℕ) (head : Head) (framing : Framing) → Final to_head text head framing → 200 ≤ head.status
final_late to_head text head framing f = subst (λ (h : Head). 200 ≤ h.status) (sym f.says) f.is_final

seen_delivers : (passing : Passing) (text : List ℕ) (to_head : Bool) (interims : List Head) (head : Option Head) (octets : List ℕ) → Seen text to_head interims head octets → Delivers (shown passing interims head octets)
seen_delivers Whole text to_head interims None octets s = record { early = interims_early s.0.front interims s.0.are_interims; late = tt }
seen_delivers Whole text to_head interims (Some head) octets s = record { early = interims_early s.front interims s.are_interims; late = tt }
seen_delivers Streaming text to_head interims None octets s = record { early = interims_early s.0.front interims s.0.are_interims; late = tt }
seen_delivers Streaming text to_head interims (Some head) octets s = record { early = interims_early s.front interims s.are_interims; late = final_late to_head s.head_text head s.framing s.is_final }

shown_delivers : (passing : Passing) (text : List ℕ) (ended to_head : Bool) (delivery : Delivery) → IsShown passing text ended to_head delivery → Delivers delivery
shown_delivers passing text ended to_head delivery (inl a) =
    let w = a.is_whole in
    subst Delivers (sym a.says) (record { early = interims_early w.front a.response.interims w.are_interims; late = final_late to_head w.head_text a.response.head w.framing w.is_final })
shown_delivers passing text ended to_head delivery (inr b) = subst Delivers (sym b.says) (seen_delivers passing text to_head b.interims b.head b.octets b.seen)

-- ---- of outboxes

early_behind : (xs ys : List Head) → AreEarly (xs ++ ys) → AreEarly ys
early_behind [] ys all = all
early_behind (x ∷ xs) ys all = early_behind xs ys all.1

offered_statuses : (read : Delivery) (box : Outbox) → Delivers (offered_by read box) → HasStatuses box
offered_statuses read (Before interims head body whole) d = (early_behind read.interims interims d.early, d.late)
offered_statuses read (Behind body whole) d = tt
offered_statuses read Over d = tt

replied_statuses : (cause : Cause) → HasStatuses (replied cause)
replied_statuses LargeFields = (tt, omega arith)
replied_statuses Tunnel = (tt, omega arith)
replied_statuses Expects = (tt, omega arith)
replied_statuses LargeBody = (tt, omega arith)
replied_statuses NoRoute = (tt, omega arith)
replied_statuses BadAnswer = (tt, omega arith)

rest_statuses : (body : List ℕ) (whole : End) (ends : Bool) → HasStatuses (rest_of body whole ends)
rest_statuses body whole true = tt
rest_statuses body whole false = tt

left_statuses : (box : Outbox) (part : Part) → HasStatuses box → HasStatuses (left box part)
left_statuses (Before (first ∷ interims) head body whole) (Early sent) h = (h.0.1, h.1)
left_statuses (Before (first ∷ interims) head body whole) (Last sent ends) h = h
left_statuses (Before (first ∷ interims) head body whole) (Octets octets ends) h = h
left_statuses (Before (first ∷ interims) head body whole) (Trailing trailers) h = h
left_statuses (Before [] head body whole) (Early sent) h = h
left_statuses (Before [] head body whole) (Last sent ends) h = rest_statuses body whole ends
left_statuses (Before [] head body whole) (Octets octets ends) h = h
left_statuses (Before [] head body whole) (Trailing trailers) h = h
left_statuses (Behind body whole) (Early sent) h = h
left_statuses (Behind body whole) (Last sent ends) h = h
left_statuses (Behind body whole) (Octets octets ends) h = rest_statuses _ whole ends
left_statuses (Behind body whole) (Trailing trailers) h = tt
left_statuses Over part h = h

-- Behind runs by the rule those of all outboxes are.
all_statuses : (known : Known) (run : List Step) → AllMayCome run → AreRight known run → AreTold known run → HoldsOfAll HasStatuses (theory_responses.state_of (moves_of run)).kept
all_statuses known [] may right told = All-nil (λ (k : Kept). HasStatuses k.box)
all_statuses known (x ∷ run) may right told =
    let old = placed known run may.0 right.0 told.0 in
    let new = placed known (x ∷ run) may right told in
    let s = theory_responses.state_of (moves_of run) in
    all_behind HasStatuses (tt, tt) replied_statuses left_statuses s.kept x.move
    (leaves_news known (tape_of run) s (sight_of run) x.sight old.1.neighbours old.1.offering HasStatuses x.move new.0.2 may.1
    (λ event stream news box is h p. offered_statuses h.read (grown box news) (shown_delivers known.setup.passing (heard_by (exchange_on (upstream_of event) (tape_of run)) (Happened event ∷ tape_of run)) (ended_by (exchange_on (upstream_of event) (tape_of run)) (Happened event ∷ tape_of run)) (is_to_head (items known stream (tape_of run))) (offered_by h.read (grown box news)) h.behind)))
    (all_statuses known run may.0 right.0 told.0)

-- what holds of all holds of the one that is found
found_holds : (P : Outbox → Type 0) (id : ℕ) (ks : List Kept) (k : Kept) → HoldsOfAll P ks → find id ks ≡ Some k → P k.box
found_holds P id [] k all found = (let clash : ◌≡◌ {A = Option Kept} None (Some k) = found in cc)
found_holds P id (x ∷ ks) k all found = by (x.id == id) found (All-head (λ (y : Kept). P y.box) x ks all) (found_holds P id ks k (All-tail (λ (y : Kept). P y.box) x ks all))
  where
    by : (b : Bool) → (if b then Some x else find id ks) ≡ Some k → P x.box → (find id ks ≡ Some k → P k.box) → P k.box
    by true found here more = let same : x ≡ k = cc in subst (λ (y : Kept). P y.box) same here
    by false found here more = more found

-- Where moves led, those of a stream's outbox are.
pub statuses_right : (setup : Setup) (run : List Move) (s : State) → Stands setup run s → AreSo setup run → (id : ℕ) (k : Kept) → find id s.offers.kept ≡ Some k → HasStatuses k.box
statuses_right setup run s stands so id k found =
    let known = known_of setup (conducts run) in
    let knows = known_so setup (conducts run) in
    found_holds HasStatuses id s.offers.kept k
    (subst (λ (x : State). HoldsOfAll HasStatuses x.offers.kept) stands.is
    (all_statuses known (offers_of setup run) (offers_may setup run stands.allowed) (offers_right known run knows stands.allowed) (offers_told known run knows (so known refl knows))))
    found

-- ---- a section tells the status

-- whether a block is a final head is told by the head's status
pub final_told : (fields : List Field) (head : Head) (ends : Bool) → IsSection fields head → is_final (Block fields ends) ≡ nat_le 200 head.status
final_told fields head ends section =
    ap (λ (xs : List Field). nat_le 200 (digits_value 10 (first_of (values_of (codes ":status") xs)))) section.is
    ∙ ap (λ n. nat_le 200 n) (sym section.status)

-- fields without a pseudo-field have no status
no_status : (fields : List Field) → pseudo_fields fields ≡ [] → values_of (codes ":status") fields ≡ []
no_status [] plain = refl
no_status (field ∷ fields) plain = elim (cases_Bool (is_pseudo field)) [
  | inl on ↦ absurd (let clash : field ∷ pseudo_fields fields ≡ [] = sym (ap (λ b. if b then field ∷ pseudo_fields fields else pseudo_fields fields) on) ∙ plain in cc)
  | inr off ↦ (let rest : pseudo_fields fields ≡ [] = sym (ap (λ b. if b then field ∷ pseudo_fields fields else pseudo_fields fields) off) ∙ plain in
      elim (cases_Bool (bytes_eq field.name (codes ":status"))) [
        | inl same ↦ absurd (let clash : true ≡ false = sym (ap (λ (n : List ℕ). begins_with 58 n) ((bytes_eq-Decides field.name (codes ":status")).0 same)) ∙ off in cc)
        | inr other ↦ ap (λ b. if b then field.value ∷ values_of (codes ":status") fields else values_of (codes ":status") fields) other ∙ no_status fields rest
      ])
]

-- so a block of them is no final head
pub never_final : (fields : List Field) (ends : Bool) → pseudo_fields fields ≡ [] → is_final (Block fields ends) ≡ false
never_final fields ends plain = ap (λ (xs : List (List ℕ)). nat_le 200 (digits_value 10 (first_of xs))) (no_status fields plain)
