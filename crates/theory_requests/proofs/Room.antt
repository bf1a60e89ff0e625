-- What is written, and waits, or is due to go out, stays within what there is room for.
use Rattle.std.proofs.Common.{◌≡◌, ℕ, zero, suc, ◌+◌, ◌<◌, ◌≤◌, ◌^◌, Bool, true, false, ◌==◌, List, [], ◌∷◌, ◌++◌, length, map, refl, sym, ap, ◌∙◌, subst, inl, inr, if◌then◌else◌, arith, length-append, append-nil}
use Rattle.std.specs.Prelude.{Option, Some, None, is_none, ◌-◌, drop}
use Rattle.std.proofs.lemmas.Bool.{and_parts, ltb-false}
use Rattle.std.proofs.lemmas.List.{length-take, length-drop, reverse-append}
use Rattle.std.proofs.lemmas.Bool.Decides.{eqb_tells}
use Rattle.model.specs.Messages.{Field, Item, ends_with}
use Rattle.model.specs.Messages.Item.{Block, Content}
use Rattle.model.specs.Frames.{Frame, Fits, Reading, data_kind, ends_stream, content, content_offset, pad_length}
use Rattle.model.specs.Http2.{HasHead, body_of}
use Rattle.model.specs.Setup.Passing.{Whole as WholePassing, Streaming}
use Rattle.model.specs.Logs.Act.{Open, ToUp, Close, CloseClient}
use Rattle.model.specs.Tapes.{Note, Noted, Entry, came, frames_of, IsRead}
use Rattle.model.specs.Tapes.Note.{NoBlock, Fields, Undecodable, Unread}
use Rattle.model.specs.Tapes.Entry.{Came, Breached, Happened, Sent, Did}
use Rattle.model.specs.Decoding.{Partial, completed}
use Rattle.model.specs.Streams.{block_items, frame_items}
use Rattle.model.specs.Known.{Known}
use Rattle.model.specs.Lifetimes.{active, is_opened, is_active}
use Rattle.model.specs.Setup.{Setup}
use Rattle.model.specs.Tables.{total_size}
use Rattle.model.specs.Malformed.{Carried, carried_by}
use Rattle.model.specs.Causes.{Cause}
use Rattle.model.specs.Courses.{items, cause}
use Rattle.model.proofs.OpenedLaws.{none_zero}
use Rattle.request_rules.specs.Heads.{parts_of}
use Rattle.h1_writer.specs.Sending.{Stage, held_back, Sending, head_of, piece_of}
use Rattle.h1_writer.specs.Sending.Stage.{Whole, Counting, Holding, Chunking}
use Rattle.model.specs.Http1Text.{lines_text}
use Rattle.theory_requests.specs.Written.{octets_of, trailers_in, IsAwaited}
use Rattle.theory_requests.proofs.Trailing.{bare, lines_within}
use Rattle.theory_requests.specs.Told.{is_served, Told, IsTold}
use Rattle.theory_requests.specs.Lines.{without, least_idle}
use Rattle.theory_requests.specs.State.{Held, id_of, kept, held_of, held_with, held_opened, waits_from, due_opened, Due, to_begin, State, Move, entry_of, is_whole, goes_now, to_open, to_send, after, Turn, state_of, tape_of}
use Rattle.theory_requests.specs.State.Way.{Waiting, Going}
use Rattle.theory_requests.specs.State.Due.{Nothing, ToOpen, ToUse, ToSend}
use Rattle.theory_requests.specs.State.Move.{Takes, Begins, Gathers, Passes, Drops, Breaks, Notes, Hears, Fails, Sends, Acts}
use Rattle.theory_requests.specs.Rule.{IsServing, MayBegin, IsGathered, MayGather, MayPass, MayMove, told_of, AreAllowed}
use Rattle.theory_requests.specs.Meaning.{Brings, IsSo, AreSo}
use Rattle.theory_requests.specs.Held.{held_by, held_requests, held_of_all, most_head, most_trailers, most_beside, AreApart, FitFrames}
use Rattle.theory_requests.proofs.Lists.{find_gone, find_other}
use Rattle.theory_requests.proofs.Bringing.{IsGood, not_large, item_is, is_good}
use Rattle.theory_requests.proofs.Writing.{body_append}
use Rattle.theory_requests.proofs.Texts.{part_told, whole_told}
use Rattle.theory_requests.proofs.Calling.{head_fits}
use Rattle.theory_requests.proofs.Standing.{text_of, IsWaiting, IsGoing, Stands}
use Rattle.theory_requests.proofs.Framing.{held_kept}
use Rattle.theory_requests.proofs.Clauses.{all_stand}
use Rattle.theory_requests.proofs.HeadSizes.{head_short}
use Rattle.theory_requests.proofs.Lengths.{head_waits, one_piece, written_length}
use Rattle.theory_requests.proofs.Small.{items_small}
use Rattle.theory_requests.proofs.Served.{is_among, among_active}

-- ---- numbers

-- at most one octet is held back
pub back_one : (stage : Stage) → held_back stage ≤ 1
back_one Whole = omega arith
back_one (Counting left) = omega arith
back_one (Holding octet) = omega arith
back_one Chunking = omega arith

-- a stream that is served has an id above 0
pub above : (known : Known) (t : List Entry) (stream : ℕ) → is_served known stream t ≡ true → 0 < stream
above known t stream served = by stream (and_parts (is_opened stream t) _ (and_parts (is_active stream t) (is_none (cause known stream t)) served).0).0
  where
    by : (n : ℕ) → is_opened n t ≡ true → 0 < n
    by zero is = absurd (let clash : true ≡ false = sym is ∙ none_zero t in cc)
    by (suc n) is = omega arith

-- a stream that is served isn't answered
none_answered : (c : Option Cause) → is_none c ≡ true → c ≡ None
none_answered None e = refl
none_answered (Some c) e = absurd (cc)

-- nor is that of a frame with which it is served
calm : (known : Known) (t : List Entry) (noted : Noted) (behind : Told) → IsTold known (Came noted ∷ t) behind → IsServing behind noted → cause known noted.frame.id (Came noted ∷ t) ≡ None
calm known t noted behind is_behind serving =
    none_answered (cause known noted.frame.id (Came noted ∷ t)) (and_parts (is_active noted.frame.id (Came noted ∷ t)) (is_none (cause known noted.frame.id (Came noted ∷ t))) (sym (is_behind.served noted.frame.id) ∙ serving.served)).1

-- what is held of one stream is what is found of it
pub requests_none : (stream : ℕ) (hs : List Held) → held_of stream hs ≡ None → held_requests stream hs ≡ 0
requests_none stream [] none = refl
requests_none stream (h ∷ hs) none = elim (eqb_tells h.id stream) [
  | inl same ↦ absurd (let clash : ◌≡◌ {A = Option Held} (Some h) None = sym (ap (λ b. if b then Some h else held_of stream hs) same.0) ∙ none in cc)
  | inr apart ↦ (let rest = requests_none stream hs (sym (ap (λ b. if b then Some h else held_of stream hs) apart.0) ∙ none) in ap (λ b. (if b then held_by h.way else 0) + held_requests stream hs) apart.0 ∙ omega (arith, rest))
]

pub requests_found : (stream : ℕ) (hs : List Held) (x : Held) → AreApart hs → held_of stream hs ≡ Some x → held_requests stream hs ≡ held_by x.way
requests_found stream [] x apart found = absurd (cc)
requests_found stream (h ∷ hs) x apart found = elim (eqb_tells h.id stream) [
  | inl same ↦ (
      let both : Some h ≡ Some x = sym (ap (λ b. if b then Some h else held_of stream hs) same.0) ∙ found in
      let is : h ≡ x = cc in
      let rest = requests_none stream hs (subst (λ n. held_of n hs ≡ None) same.1 apart.0) in
      ap (λ b. (if b then held_by h.way else 0) + held_requests stream hs) same.0 ∙ ap (λ (y : Held). held_by y.way + held_requests stream hs) is ∙ omega (arith, rest))
  | inr other ↦ (let rest = requests_found stream hs x apart.1 (sym (ap (λ b. if b then Some h else held_of stream hs) other.0) ∙ found) in ap (λ b. (if b then held_by h.way else 0) + held_requests stream hs) other.0 ∙ omega (arith, rest))
]

-- what is held beside one
pub held_without : (n stream : ℕ) (hs : List Held) (x : Held) → held_of stream (without id_of n hs) ≡ Some x → held_of stream hs ≡ Some x
held_without n stream hs x found = elim (eqb_tells n stream) [
  | inl same ↦ absurd (let clash : ◌≡◌ {A = Option Held} None (Some x) = sym (subst (λ m. held_of m (without id_of n hs) ≡ None) same.1 (find_gone id_of n hs)) ∙ found in cc)
  | inr apart ↦ sym (find_other id_of n stream hs apart.1) ∙ found
]

-- where one isn't held nothing goes without it
none_without : (n : ℕ) (hs : List Held) → held_of n hs ≡ None → without id_of n hs ≡ hs
none_without n [] none = refl
none_without n (h ∷ hs) none = elim (eqb_tells h.id n) [
  | inl same ↦ absurd (let clash : ◌≡◌ {A = Option Held} (Some h) None = sym (ap (λ b. if b then Some h else held_of n hs) same.0) ∙ none in cc)
  | inr apart ↦ ap (λ b. if b then without id_of n hs else h ∷ without id_of n hs) apart.0 ∙ ap (λ xs. h ∷ xs) (none_without n hs (sym (ap (λ b. if b then Some h else held_of n hs) apart.0) ∙ none))
]

-- one of those that are held, and the others
pub one_apart : (n : ℕ) (hs : List Held) (x : Held) → AreApart hs → held_of n hs ≡ Some x → (held_of_all hs ≡ held_by x.way + held_of_all (without id_of n hs)) × (length hs ≡ length (without id_of n hs) + 1)
one_apart n [] x apart found = absurd (cc)
one_apart n (h ∷ hs) x apart found = elim (eqb_tells h.id n) [
  | inl same ↦ (
      let both : Some h ≡ Some x = sym (ap (λ b. if b then Some h else held_of n hs) same.0) ∙ found in
      let is : h ≡ x = cc in
      let rest : without id_of n (h ∷ hs) ≡ hs = ap (λ b. if b then without id_of n hs else h ∷ without id_of n hs) same.0 ∙ none_without n hs (subst (λ m. held_of m hs ≡ None) same.1 apart.0) in
      (ap (λ (y : Held). held_by y.way + held_of_all hs) is ∙ ap (λ xs. held_by x.way + held_of_all xs) (sym rest), let size = ap length rest in omega (arith, size)))
  | inr other ↦ (
      let more = one_apart n hs x apart.1 (sym (ap (λ b. if b then Some h else held_of n hs) other.0) ∙ found) in
      let rest : without id_of n (h ∷ hs) ≡ h ∷ without id_of n hs = ap (λ b. if b then without id_of n hs else h ∷ without id_of n hs) other.0 in
      let sums : held_of_all (without id_of n (h ∷ hs)) ≡ held_by h.way + held_of_all (without id_of n hs) = ap held_of_all rest in
      let sizes = ap length rest in
      let sum = more.0 in
      let size = more.1 in
      (omega (arith, sums, sum), omega (arith, sizes, size)))
]

-- a stream that is served is among the active ones
pub served_among : (known : Known) (t : List Entry) (stream : ℕ) → is_served known stream t ≡ true → is_among stream (active t) ≡ true
served_among known t stream served = among_active stream t (and_parts (is_active stream t) (is_none (cause known stream t)) served).0

-- ---- frames

-- Each of these can be spelled.
abbrev AllFit : List Frame → Type 0
AllFit [] = Unit {0}
AllFit (frame ∷ frames) = Fits frame × AllFit frames

read_fit : (text : List ℕ) (frames : List Frame) (rest : List ℕ) → Reading text frames rest → AllFit frames
read_fit text [] rest reads = tt
read_fit text (frame ∷ frames) rest reads = (reads.2.fits, read_fit reads.1 frames rest reads.4)

fit_parts : (xs ys : List Frame) → AllFit (xs ++ ys) → AllFit xs × AllFit ys
fit_parts [] ys all = (tt, all)
fit_parts (x ∷ xs) ys all = let parts = fit_parts xs ys all.1 in ((all.0, parts.0), parts.1)

fit_came : (t : List Entry) → AllFit (frames_of (came t)) → FitFrames t
fit_came [] all = tt
fit_came (Came noted ∷ t) all =
    let parts = fit_parts (frames_of (came t)) (noted.frame ∷ []) (subst AllFit (reverse-append (noted.frame ∷ []) (map (λ n. n.frame) (came t))) all) in (parts.1.0, fit_came t parts.0)
fit_came (Breached breach ∷ t) all = fit_came t all
fit_came (Happened event ∷ t) all = fit_came t all
fit_came (Sent noted ∷ t) all = fit_came t all
fit_came (Did act ∷ t) all = fit_came t all

-- Frames that octets of the client are read as can be spelled.
pub read_frames_fit : (text : List ℕ) (t : List Entry) → IsRead text t → FitFrames t
read_frames_fit text t (inl front) = fit_came t (subst (λ frames. AllFit (frames_of frames)) (sym front.1.no_frame) tt)
read_frames_fit text t (inr (inl wrong)) = fit_came t (subst (λ frames. AllFit (frames_of frames)) (sym wrong.1.no_frame) tt)
read_frames_fit text t (inr (inr behind)) = fit_came t (read_fit behind.behind (frames_of (came t)) behind.rest behind.reading)

-- ---- texts

-- the text of a head that waits
pub waits_short : (known : Known) (t : List Entry) (stream : ℕ) (text : List ℕ) (stage : Stage) (body : List ℕ) → 0 < stream → (w : IsAwaited known.setup.keep (items known stream t) text stage body)
    → (length text + held_back stage ≤ most_head) × (length body ≤ known.setup.max_body) × (length (head_of known.setup.keep (parts_of w.head) false) ≤ most_head)
waits_short known t stream text stage body some w =
    let small = items_small known stream some t in
    let head = head_short known.setup.keep w.head false w.well_formed (small.head w.head (subst (λ xs. HasHead xs w.head) (sym w.is) refl)) in
    let size = head_waits known.setup.keep (parts_of w.head) false text stage w.sending w.part in
    let body_size : length body ≡ length (body_of (items known stream t)) = ap length (w.body_is ∙ sym (ap body_of w.is)) in
    let fits = small.body in
    (omega (arith, head, size), omega (arith, body_size, fits), head)

-- ---- what is due

-- the lines of trailers that are good
trailers_short : (setup : Setup) (carried : Carried) (item : Item) → IsGood setup carried item → length (lines_text (trailers_in item)) ≤ most_trailers
trailers_short setup carried (Content octets ends) good = omega arith
trailers_short setup carried (Block fields ends) good =
    let size : total_size fields ≤ 16384 = ltb-false 16384 (total_size fields) (not_large setup carried fields good.0) in
    let lines = lines_within fields in
    omega (arith, size, lines)

-- there is room for so many octets, beside what else a text has
pub record HasRoom (most count : ℕ) : Type 0 where
  pub fits : count < 2 ^ 64
  pub room : count + most_trailers + 27 ≤ most

-- there is room for what a move writes
abbrev pub HasRoomFor : ℕ → Move → Type 0
HasRoomFor most (Gathers noted item route text old body written stage) = is_whole stage ≡ true → (length (body ++ octets_of item) < 2 ^ 64) × (most_beside + length (body ++ octets_of item) ≤ most) × (length (lines_text (trailers_in item)) ≤ most_trailers)
HasRoomFor most (Passes noted item k old written stage) = HasRoom most (length (octets_of item)) × (length (lines_text (trailers_in item)) ≤ most_trailers)
HasRoomFor most m = Unit {0}

-- What is due stays within the most, an octet left; and nothing else is held of a stream for which a connection is due.
abbrev pub DueFits : ℕ → List Held → Due → Type 0
DueFits most hs Nothing = Unit {0}
DueFits most hs (ToOpen stream route text stage) = (length text + 1 ≤ most) × (held_of stream hs ≡ None)
DueFits most hs (ToUse k stream text stage) = (length text + 1 ≤ most) × (held_of stream hs ≡ None)
DueFits most hs (ToSend k text) = length text + 1 ≤ most

-- nothing is due
none_due : (most : ℕ) (hs : List Held) (due : Due) → due ≡ Nothing → DueFits most hs due
none_due most hs due is = subst (DueFits most hs) (sym is) tt

-- of what is held less may be kept
none_kept : (told : Told) (stream : ℕ) (hs : List Held) → held_of stream hs ≡ None → held_of stream (kept told hs) ≡ None
none_kept told stream hs none = by (held_of stream (kept told hs)) refl
  where
    by : (o : Option Held) → held_of stream (kept told hs) ≡ o → o ≡ None
    by None is = refl
    by (Some x) is = absurd (let clash : ◌≡◌ {A = Option Held} None (Some x) = sym none ∙ (held_kept told stream hs x is).0 in cc)

fewer_fit : (most : ℕ) (told : Told) (hs : List Held) (due : Due) → DueFits most hs due → DueFits most (kept told hs) due
fewer_fit most told hs Nothing fits = tt
fewer_fit most told hs (ToSend k text) fits = fits
fewer_fit most told hs (ToOpen stream route text stage) fits = (fits.0, none_kept told stream hs fits.1)
fewer_fit most told hs (ToUse k stream text stage) fits = (fits.0, none_kept told stream hs fits.1)

-- a text that begins an exchange fits, on whichever connection
begun_fits : (most : ℕ) (hs : List Held) (idle : Option ℕ) (stream route : ℕ) (text : List ℕ) (stage : Stage) → length text + 1 ≤ most → held_of stream hs ≡ None → DueFits most hs (to_begin idle stream route text stage)
begun_fits most hs None stream route text stage short none = (short, none)
begun_fits most hs (Some k) stream route text stage short none = (short, none)

module _ (known : Known) (t : List Entry) (s : State) (h : Stands known t s) (behind : Told) (most : ℕ) (base : most_beside ≤ most) (was : DueFits most s.held s.due) where
  begins_fit : (before : Told) (noted : Noted) (head : List Field) (ended : Bool) (route : ℕ) (text : List ℕ) (stage : Stage) → IsTold known (Came noted ∷ t) behind → IsSo known t (Begins noted head ended route text stage) → MayBegin known.setup behind noted head ended route text stage
      → DueFits most (after known.setup behind s (Begins noted head ended route text stage)).held (after known.setup behind s (Begins noted head ended route text stage)).due
  begins_fit before noted head ended route text stage is_behind so may = by (goes_now known.setup stage)
    where
      now : items known noted.frame.id (Came noted ∷ t) ≡ Block head ended ∷ []
      now = so.1.adds ∙ ap (λ xs. xs ++ Block head ended ∷ []) so.0

      short : length text + 1 ≤ most
      short =
          let small = items_small known noted.frame.id may.serving.counted (Came noted ∷ t) in
          let good = head_fits known t noted head ended so.0 so.1 may.serving.counted (calm known t noted behind is_behind may.serving) in
          let size = head_short known.setup.keep head ended good.well_formed (small.head head (subst (λ xs. HasHead xs head) (sym now) refl)) in
          let all = one_piece known.setup.keep (parts_of head) ended text [] [] stage (omega arith) may.sending in
          omega (arith, size, all, base)

      by : (goes : Bool) → DueFits most (held_with noted.frame.id (waits_from goes (Waiting route text stage [])) s.held) (to_open goes (least_idle route s.live) noted.frame.id route text stage)
      by true = begun_fits most _ (least_idle route s.live) noted.frame.id route text stage short (find_gone id_of noted.frame.id s.held)
      by false = tt

  gathers_fit : (noted : Noted) (item : Item) (route : ℕ) (text : List ℕ) (old : Stage) (body written : List ℕ) (stage : Stage) → MayGather behind s noted item route text old body written stage → HasRoomFor most (Gathers noted item route text old body written stage)
      → DueFits most (after known.setup behind s (Gathers noted item route text old body written stage)).held (after known.setup behind s (Gathers noted item route text old body written stage)).due
  gathers_fit noted item route text old body written stage may room = by (is_whole stage) refl
    where
      w : IsWaiting known t noted.frame.id route text old body
      w = h.held noted.frame.id (record { id = noted.frame.id; way = Waiting route text old body }) may.found

      pieces_of : (ends : Bool) → IsGathered ends old (body ++ octets_of item) (trailers_in item) written stage → is_whole stage ≡ true → Sending known.setup.keep (parts_of w.awaited.head) false (text ++ written) ([] ++ piece_of (body ++ octets_of item)) (trailers_in item) stage
      pieces_of true g whole = g.0 known.setup.keep (parts_of w.awaited.head) false text [] w.awaited.sending
      pieces_of false g whole = absurd (w.awaited.part (whole_told old (sym (ap is_whole g.1) ∙ whole)))

      short : is_whole stage ≡ true → length (text ++ written) + 1 ≤ most
      short whole =
          let rest = waits_short known t noted.frame.id text old body may.serving.counted w.awaited in
          let space = room whole in
          let all = one_piece known.setup.keep (parts_of w.awaited.head) false (text ++ written) (body ++ octets_of item) (trailers_in item) stage space.0 (pieces_of (ends_with item) may.gathered whole) in
          let head = rest.2 in
          let fits = space.1 in
          let lines = space.2 in
          omega (arith, head, all, fits, lines)

      by : (whole : Bool) → is_whole stage ≡ whole → DueFits most (held_with noted.frame.id (if whole then None else Some (Waiting route text stage (body ++ octets_of item))) s.held) (to_open whole (least_idle route s.live) noted.frame.id route (text ++ written) stage)
      by true whole = begun_fits most _ (least_idle route s.live) noted.frame.id route (text ++ written) stage (short whole) (find_gone id_of noted.frame.id s.held)
      by false part = tt

  passes_fit : (noted : Noted) (item : Item) (k : ℕ) (old : Stage) (written : List ℕ) (stage : Stage) (hs : List Held) → MayPass behind s noted item k old written stage → HasRoom most (length (octets_of item)) → length (lines_text (trailers_in item)) ≤ most_trailers → DueFits most hs (to_send k written)
  passes_fit noted item k old written stage hs may space lines = by written short
    where
      w : IsGoing known t s noted.frame.id k old
      w = h.held noted.frame.id (record { id = noted.frame.id; way = Going k old }) may.found

      short : length written + 1 ≤ most
      short =
          let sent = w.written in
          let size = written_length known.setup.keep (parts_of sent.head) sent.ended (text_of w.o t s.due) written (octets_of item) sent.pieces (trailers_in item) old stage space.fits (bare _ _ _ old sent (part_told old w.part)) (part_told old w.part) (may.continues known.setup.keep (parts_of sent.head) sent.ended (text_of w.o t s.due) sent.pieces (bare _ _ _ old sent (part_told old w.part))) in
          let back = back_one old in
          let room = space.room in
          omega (arith, size, back, room, lines)

      by : (octets : List ℕ) → length octets + 1 ≤ most → DueFits most hs (to_send k octets)
      by [] fits = tt
      by (octet ∷ octets) fits = fits

  due_behind : (before : Told) (m : Move) → IsSo known t m → MayMove known.setup before behind s m → IsTold known (entry_of m ∷ t) behind → HasRoomFor most m → DueFits most (after known.setup behind s m).held (after known.setup behind s m).due
  due_behind before (Takes noted) so may is room = none_due most _ s.due may.nothing
  due_behind before (Begins noted head ended route text stage) so may is room = begins_fit before noted head ended route text stage is so may.1
  due_behind before (Gathers noted item route text old body written stage) so may is room = gathers_fit noted item route text old body written stage may.1 room
  due_behind before (Passes noted item k old written stage) so may is room = passes_fit noted item k old written stage _ may.1 room.0 room.1
  due_behind before (Drops noted item) so may is room = none_due most _ s.due may.0.nothing
  due_behind before (Breaks breach) so may is room = none_due most _ s.due may.nothing
  due_behind before (Notes event) so may is room = none_due most _ s.due may.0.nothing
  due_behind before (Hears event heard) so may is room = none_due most _ s.due may.0.nothing
  due_behind before (Fails k) so may is room = none_due most _ s.due may.0.nothing
  due_behind before (Sends noted) so may is room = fewer_fit most behind s.held s.due was
  due_behind before (Acts (Open k route)) so may is room = opened
    where
      short : length may.text + 1 ≤ most
      short = (subst (DueFits most s.held) may.due was).0

      opened : DueFits most (held_opened s.due k s.held) (due_opened s.due k)
      opened = subst (λ d. DueFits most (held_opened d k s.held) (due_opened d k)) (sym may.due) short
  due_behind before (Acts (ToUp k octets)) so may is room = tt
  due_behind before (Acts (Close k)) so may is room = none_due most _ s.due may.nothing
  due_behind before (Acts CloseClient) so may is room = none_due most [] s.due may.nothing

-- ---- there is room

-- there is room for what each move writes
abbrev pub HasRoomForAll : ℕ → List Turn → Type 0
HasRoomForAll most [] = Unit {0}
HasRoomForAll most (turn ∷ turns) = HasRoomForAll most turns × HasRoomFor most turn.move

-- what is due stays within the most
pub due_fits : (known : Known) (most : ℕ) → most_beside ≤ most → (turns : List Turn) → AreAllowed known.setup turns → AreSo known turns → HasRoomForAll most turns → DueFits most (state_of known.setup turns).held (state_of known.setup turns).due
due_fits known most base [] all so room = tt
due_fits known most base (turn ∷ turns) all so room =
    due_behind known (tape_of turns) (state_of known.setup turns) (all_stand known turns all.0 so.0) turn.told most base (due_fits known most base turns all.0 so.0 room.0) (told_of turns) turn.move so.1 all.1.may so.2 room.1

-- the octets of a body, with those of an item more
octets_behind : (xs : List Item) (item : Item) → length (body_of (xs ++ item ∷ [])) ≡ length (body_of xs) + length (octets_of item)
octets_behind xs (Content octets ends) = ap length (body_append xs (Content octets ends ∷ [])) ∙ length-append (body_of xs) (octets ++ []) ∙ ap (λ ys. length (body_of xs) + length ys) (append-nil octets)
octets_behind xs (Block fields ends) = ap length (body_append xs (Block fields ends ∷ [])) ∙ length-append (body_of xs) []

-- they are no more than are taken
within_body : (known : Known) (t : List Entry) (noted : Noted) (item : Item) → Brings known t noted item → 0 < noted.frame.id → length (body_of (items known noted.frame.id t)) + length (octets_of item) ≤ known.setup.max_body
within_body known t noted item brings some =
    let small = (items_small known noted.frame.id some (Came noted ∷ t)).body in
    let size : length (body_of (items known noted.frame.id (Came noted ∷ t))) ≡ length (body_of (items known noted.frame.id t)) + length (octets_of item) = ap (λ xs. length (body_of xs)) brings.adds ∙ octets_behind (items known noted.frame.id t) item in
    omega (arith, small, size)

-- beside what is taken of a body
pub room_by_body : (known : Known) → known.setup.max_body < 2 ^ 64 → (turns : List Turn) → AreAllowed known.setup turns → AreSo known turns → HasRoomForAll (known.setup.max_body + most_beside) turns
room_by_body known fits [] all so = tt
room_by_body known fits (turn ∷ turns) all so = (room_by_body known fits turns all.0 so.0, by turn.move so.1 so.2 all.1.may)
  where
    by : (m : Move) → IsSo known (tape_of turns) m → IsTold known (entry_of m ∷ tape_of turns) turn.told → MayMove known.setup (told_of turns) turn.told (state_of known.setup turns) m → HasRoomFor (known.setup.max_body + most_beside) m
    by (Gathers noted item route text old body written stage) is told may =
        let w : IsWaiting known (tape_of turns) noted.frame.id route text old body = (all_stand known turns all.0 so.0).held noted.frame.id (record { id = noted.frame.id; way = Waiting route text old body }) may.1.found in
        let body_size : length body ≡ length (body_of (items known noted.frame.id (tape_of turns))) = ap length (w.awaited.body_is ∙ sym (ap body_of w.awaited.is)) in
        let within = within_body known (tape_of turns) noted item is may.1.serving.counted in
        let both = length-append body (octets_of item) in
        let lines = trailers_short known.setup (carried_by (items known noted.frame.id (tape_of turns)) false) item (is_good known (tape_of turns) noted item is may.1.serving.counted (calm known (tape_of turns) noted turn.told told may.1.serving)) in
        λ whole. (omega (arith, within, body_size, both, fits), omega (arith, within, body_size, both), lines)
    by (Passes noted item k old written stage) is told may =
        let within = within_body known (tape_of turns) noted item is may.1.serving.counted in
        let lines = trailers_short known.setup (carried_by (items known noted.frame.id (tape_of turns)) false) item (is_good known (tape_of turns) noted item is may.1.serving.counted (calm known (tape_of turns) noted turn.told told may.1.serving)) in
        (record { fits = omega (arith, within, fits); room = omega (arith, within) }, lines)
    by (Takes noted) is told may = tt
    by (Begins noted head ended route text stage) is told may = tt
    by (Drops noted item) is told may = tt
    by (Breaks breach) is told may = tt
    by (Notes event) is told may = tt
    by (Hears event heard) is told may = tt
    by (Fails k) is told may = tt
    by (Sends noted) is told may = tt
    by (Acts act) is told may = tt

-- a frame's content is no longer than its payload
content_short : (noted : Noted) → length (content noted.frame) ≤ length noted.frame.payload
content_short noted =
    let count = length noted.frame.payload - content_offset noted.frame - pad_length noted.frame in
    let part = length-take count (drop (content_offset noted.frame) noted.frame.payload) in
    let rest = length-drop (content_offset noted.frame) noted.frame.payload in
    grind (arith, part, rest)

-- nor are the octets of an item that it brings
brought_short : (block : Option Partial) (noted : Noted) (item : Item) → frame_items block noted ≡ item ∷ [] → length (octets_of item) ≤ length noted.frame.payload
brought_short (Some block) noted item is = by noted.note is
  where
    by : (note : Note) → block_items block note ≡ item ∷ [] → length (octets_of item) ≤ length noted.frame.payload
    by (Fields fields) e = let same : Block fields block.ends ≡ item = cc in subst (λ x. length (octets_of x) ≤ length noted.frame.payload) same (omega arith)
    by NoBlock e = absurd (cc)
    by Undecodable e = absurd (cc)
    by Unread e = absurd (cc)
brought_short None noted item is = by (noted.frame.kind == data_kind) is
  where
    by : (b : Bool) → (if b then Content (content noted.frame) (ends_stream noted.frame) ∷ [] else []) ≡ item ∷ [] → length (octets_of item) ≤ length noted.frame.payload
    by true e = let same : Content (content noted.frame) (ends_stream noted.frame) ≡ item = cc in subst (λ x. length (octets_of x) ≤ length noted.frame.payload) same (content_short noted)
    by false e = absurd (cc)

-- where requests are passed on as they come, for a frame at a time
pub room_by_frame : (known : Known) → known.setup.passing ≡ Streaming → (turns : List Turn) → AreAllowed known.setup turns → AreSo known turns → FitFrames (tape_of turns) → HasRoomForAll most_beside turns
room_by_frame known streaming [] all so frames = tt
room_by_frame known streaming (turn ∷ turns) all so frames = (room_by_frame known streaming turns all.0 so.0 (earlier turn.move frames), by turn.move so.1 so.2 all.1.may frames)
  where
    earlier : (m : Move) → FitFrames (entry_of m ∷ tape_of turns) → FitFrames (tape_of turns)
    earlier (Takes noted) f = f.1
    earlier (Begins noted head ended route text stage) f = f.1
    earlier (Gathers noted item route text old body written stage) f = f.1
    earlier (Passes noted item k old written stage) f = f.1
    earlier (Drops noted item) f = f.1
    earlier (Breaks breach) f = f
    earlier (Notes event) f = f
    earlier (Hears event heard) f = f
    earlier (Fails k) f = f
    earlier (Sends noted) f = f
    earlier (Acts act) f = f

    by : (m : Move) → IsSo known (tape_of turns) m → IsTold known (entry_of m ∷ tape_of turns) turn.told → MayMove known.setup (told_of turns) turn.told (state_of known.setup turns) m → FitFrames (entry_of m ∷ tape_of turns) → HasRoomFor most_beside m
    by (Gathers noted item route text old body written stage) is told may f =
        let w : IsWaiting known (tape_of turns) noted.frame.id route text old body = (all_stand known turns all.0 so.0).held noted.frame.id (record { id = noted.frame.id; way = Waiting route text old body }) may.1.found in
        λ whole. absurd (let clash : WholePassing ≡ Streaming = sym w.whole_passing ∙ streaming in cc)
    by (Passes noted item k old written stage) is told may f =
        let short = brought_short (completed (came (tape_of turns)) noted.frame) noted item (item_is known (tape_of turns) noted item is may.1.serving.counted (calm known (tape_of turns) noted turn.told told may.1.serving)) in
        let frame = f.0.payload in
        let lines = trailers_short known.setup (carried_by (items known noted.frame.id (tape_of turns)) false) item (is_good known (tape_of turns) noted item is may.1.serving.counted (calm known (tape_of turns) noted turn.told told may.1.serving)) in
        (record { fits = omega (arith, short, frame); room = omega (arith, short, frame) }, lines)
    by (Takes noted) is told may f = tt
    by (Begins noted head ended route text stage) is told may f = tt
    by (Drops noted item) is told may f = tt
    by (Breaks breach) is told may f = tt
    by (Notes event) is told may f = tt
    by (Hears event heard) is told may f = tt
    by (Fails k) is told may f = tt
    by (Sends noted) is told may f = tt
    by (Acts act) is told may f = tt
