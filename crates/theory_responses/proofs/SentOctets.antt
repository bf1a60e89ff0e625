-- Where frames go without padding, the octets of DATA that count are those of a body that were read; and by the rule of the frames
-- that are sent none has padding.
use Rattle.std.proofs.Common.{◌≡◌, ℕ, ◌+◌, ◌-◌, ◌≤◌, min, Bool, true, false, not, ◌==◌, ◌&&◌, ◌||◌, List, [], ◌∷◌, ◌++◌, length, take, drop, length-append, length-drop, refl, sym, ap, ◌∙◌, subst, inl, inr, arith, if◌then◌else◌}
use Rattle.std.specs.Prelude.{◌/◌, ◌%◌, Option, Some, None, slice_index}
use Rattle.std.specs.List.{list_all, list_any}
use Rattle.std.proofs.lemmas.List.{length-take}
use Rattle.std.proofs.lemmas.Bool.{and_parts, not-true}
use Rattle.std.proofs.lemmas.Bool.Decides.{eqb_tells}
use Rattle.model.specs.Messages.{Item}
use Rattle.model.specs.Messages.Item.{Block, Content}
use Rattle.model.specs.ResponseHeads.{Head}
use Rattle.model.specs.Frames.{Frame, data_kind, headers_kind, continuation_kind, window_update_kind, ends_headers, ends_stream, has_flag, is_padded, has_priority, content_offset, pad_length, content}
use Rattle.model.specs.Tapes.{Noted, Entry, sent}
use Rattle.model.specs.Tapes.Entry.{Came, Breached, Happened, Sent, Did}
use Rattle.model.specs.Decoding.{joined, begun, completed}
use Rattle.model.specs.Streams.{frame_items}
use Rattle.model.specs.Deliveries.{End, Delivery, AreInterims, AreContents, IsAnsweredBy, ReadsAs}
use Rattle.model.specs.Available.{items_on}
use Rattle.model.specs.WindowsOnTape.{is_on, data_length, data_octets}
use Rattle.model.specs.Known.{Known}
use Rattle.model.specs.ErrorClause.{is_passing, is_plainly_flagged, is_part, is_given_back}
use Rattle.theory_errors.specs.Turn.{queue_of, InTurn, Conducted}
use Rattle.theory_responses.specs.Held.{AreUnpadded}

-- ---- what was read

-- the octets of a body that items bring
abbrev pub content_size : List Item → ℕ
content_size [] = 0
content_size (Block fields ends ∷ items) = content_size items
content_size (Content octets ends ∷ items) = length octets + content_size items

size_joined : (items others : List Item) → content_size (items ++ others) ≡ content_size items + content_size others
size_joined [] others = omega arith
size_joined (Block fields ends ∷ items) others = size_joined items others
size_joined (Content octets ends ∷ items) others = let more = size_joined items others in omega (arith, more)

interims_size : (items : List Item) (heads : List Head) → AreInterims items heads → content_size items ≡ 0
interims_size [] [] a = refl
interims_size [] (head ∷ heads) a = absurd a
interims_size (Block fields false ∷ items) [] a = absurd a
interims_size (Block fields false ∷ items) (head ∷ heads) a = interims_size items heads a.2
interims_size (Block fields true ∷ items) heads a = absurd a
interims_size (Content octets ends ∷ items) heads a = absurd a

contents_size : (items : List Item) (body : List ℕ) (end : End) → AreContents items body end → content_size items ≡ length body
contents_size [] body end a = sym (ap length a.0)
contents_size (Content octets true ∷ items) body end a =
    let none : content_size items ≡ 0 = ap content_size a.0 in
    let same : length body ≡ length octets = ap length a.1 in
    omega (arith, none, same)
contents_size (Content octets false ∷ items) body end a =
    let more = contents_size items a.0 end a.2 in
    let all : length body ≡ length octets + length a.0 = ap length a.1 ∙ length-append octets a.0 in
    omega (arith, more, all)
contents_size (Block fields true ∷ items) body end a = ap content_size a.0 ∙ sym (ap length a.1)
contents_size (Block fields false ∷ items) body end a = absurd a

answer_size : (items : List Item) (head : Option Head) (body : List ℕ) (end : End) → IsAnsweredBy items head body end → content_size items ≡ length body
answer_size items None body end a = ap content_size a.0 ∙ sym (ap length a.1)
answer_size [] (Some head) body end a = absurd a
answer_size (Block fields true ∷ items) (Some head) body end a = ap content_size a.2 ∙ sym (ap length a.3)
answer_size (Block fields false ∷ items) (Some head) body end a = contents_size items body end a.2
answer_size (Content octets ends ∷ items) (Some head) body end a = absurd a

-- The octets that items bring are those that were read.
pub read_size : (items : List Item) (read : Delivery) → ReadsAs items read → content_size items ≡ length read.body
read_size items read r =
    let before = interims_size r.interim_items read.interims r.interims in
    let behind = answer_size r.rest read.head read.body read.ends r.answer in
    let all : content_size items ≡ content_size r.interim_items + content_size r.rest = ap content_size r.is ∙ size_joined r.interim_items r.rest in
    omega (arith, before, behind, all)

-- ---- what counts

-- all of a payload is taken
all_taken : (offset pad : ℕ) (payload : List ℕ) → offset ≡ 0 → pad ≡ 0 → length (take (length payload - offset - pad) (drop offset payload)) ≡ length payload
all_taken offset pad payload o p =
    let taken : length (take (length payload - offset - pad) (drop offset payload)) ≡ min (length payload - offset - pad) (length (drop offset payload)) = length-take (length payload - offset - pad) (drop offset payload) in
    let dropped : length (drop offset payload) ≡ length payload - offset = length-drop offset payload in
    omega (arith, taken, dropped, o, p)

-- DATA without padding is its content
data_is_content : (frame : Frame) → frame.kind ≡ data_kind → is_padded frame ≡ false → length (content frame) ≡ length frame.payload
data_is_content frame is none =
    let no_priority : has_priority frame ≡ false = ap (λ k. k == headers_kind && has_flag 32 frame) is in
    all_taken (content_offset frame) (pad_length frame) frame.payload
    (ap (λ b. (if b then 1 else 0) + (if has_priority frame then 5 else 0)) none ∙ ap (λ b. 0 + (if b then 5 else 0)) no_priority)
    (ap (λ b. if b then slice_index frame.payload 0 else 0) none)

-- it completes no header block
data_completes : (before : List Noted) (frame : Frame) → frame.kind ≡ data_kind → completed before frame ≡ None
data_completes before frame is =
    let no_end : ends_headers frame ≡ false = ap (λ k. (k == headers_kind || k == continuation_kind) && has_flag 4 frame) is in
    ap (λ b. if b then joined (begun before) frame else None) no_end

-- one frame
frame_counts : (before : List Noted) (noted : Noted) (stream : ℕ) → is_padded noted.frame ≡ false
    → data_length (is_on stream) noted.frame ≤ content_size (if noted.frame.id == stream then frame_items (completed before noted.frame) noted else [])
frame_counts before noted stream none = elim (eqb_tells noted.frame.kind data_kind) [
  | inl x ↦ subst (λ b. (if b && noted.frame.id == stream then length noted.frame.payload else 0) ≤ content_size (if noted.frame.id == stream then frame_items (completed before noted.frame) noted else [])) (sym x.0) (by x.1 x.0 (noted.frame.id == stream))
  | inr x ↦ subst (λ b. (if b && noted.frame.id == stream then length noted.frame.payload else 0) ≤ content_size (if noted.frame.id == stream then frame_items (completed before noted.frame) noted else [])) (sym x.0) (omega arith)
]
  where
    by : noted.frame.kind ≡ data_kind → (noted.frame.kind == data_kind) ≡ true → (s : Bool) → (if s then length noted.frame.payload else 0) ≤ content_size (if s then frame_items (completed before noted.frame) noted else [])
    by is e false = omega arith
    by is e true =
        let items : frame_items (completed before noted.frame) noted ≡ Content (content noted.frame) (ends_stream noted.frame) ∷ [] =
        ap (λ b. frame_items b noted) (data_completes before noted.frame is) ∙ ap (λ b. if b then Content (content noted.frame) (ends_stream noted.frame) ∷ [] else []) e in
        let size : content_size (frame_items (completed before noted.frame) noted) ≡ length (content noted.frame) + 0 = ap content_size items in
        let whole = data_is_content noted.frame is none in
        omega (arith, size, whole)

-- Of DATA on a stream no more octets count than its items bring.
pub data_within : (stream : ℕ) (t : List Entry) → AreUnpadded t → data_octets (is_on stream) (sent t) ≤ content_size (items_on stream (sent t))
data_within stream [] u = omega arith
data_within stream (Sent noted ∷ t) u =
    let old = data_within stream t u.1 in
    let one = frame_counts (sent t) noted stream u.0 in
    let all = size_joined (items_on stream (sent t)) (if noted.frame.id == stream then frame_items (completed (sent t) noted.frame) noted else []) in
    omega (arith, old, one, all)
data_within stream (Came noted ∷ t) u = data_within stream t u
data_within stream (Breached breach ∷ t) u = data_within stream t u
data_within stream (Happened event ∷ t) u = data_within stream t u
data_within stream (Did act ∷ t) u = data_within stream t u

-- ---- frames go without padding

-- what holds of all flags of a list holds of those that are among them
among : (test : ℕ → Bool) (flags : ℕ) (all : List ℕ) → list_any (λ f. f == flags) all ≡ true → list_all test all ≡ true → test flags ≡ true
among test flags [] any holds = let clash : false ≡ true = any in cc
among test flags (first ∷ all) any holds =
    let parts = and_parts (test first) (list_all test all) holds in
    elim (eqb_tells first flags) [
      | inl x ↦ ap test (sym x.1) ∙ parts.0
      | inr x ↦ among test flags all (sym (ap (λ b. b || list_any (λ f. f == flags) all) x.0) ∙ any) parts.1
    ]

-- the bit of padding isn't there
abbrev pub is_bare : ℕ → Bool
is_bare flags = not ((flags / 8) % 2 == 1)

-- neither with the flags of DATA nor with those of HEADERS
plainly_bare : (frame : Frame) → is_plainly_flagged frame ≡ true → is_padded frame ≡ false
plainly_bare frame plain = by (frame.kind == data_kind) (frame.kind == headers_kind) plain
  where
    by : (d h : Bool) → list_any (λ flags. flags == frame.flags) (if d then 0 ∷ 1 ∷ [] else (if h then 0 ∷ 1 ∷ 4 ∷ 5 ∷ [] else (if frame.kind == continuation_kind then 0 ∷ 4 ∷ [] else 0 ∷ []))) ≡ true → ((d || h) && has_flag 8 frame) ≡ false
    by true h any = not-true (has_flag 8 frame) (among is_bare frame.flags (0 ∷ 1 ∷ []) any refl)
    by false true any = not-true (has_flag 8 frame) (among is_bare frame.flags (0 ∷ 1 ∷ 4 ∷ 5 ∷ []) any refl)
    by false false any = refl

-- a frame that is no part of a response has none
controls_bare : (noted : Noted) → is_passing noted ≡ false → is_padded noted.frame ≡ false
controls_bare noted control = by (noted.frame.kind == data_kind) (noted.frame.kind == headers_kind) control
  where
    by : (d h : Bool) → (d || h || noted.frame.kind == continuation_kind || noted.frame.kind == window_update_kind) ≡ false → ((d || h) && has_flag 8 noted.frame) ≡ false
    by true h e = let clash : true ≡ false = e in cc
    by false true e = let clash : true ≡ false = e in cc
    by false false e = refl

sent_bare : (known : Known) (t : List Entry) (queue : List Frame) (noted : Noted) → InTurn known t queue (Sent noted) → is_padded noted.frame ≡ false
sent_bare known t queue noted (inl due) = controls_bare noted due.control
sent_bare known t queue noted (inr (inr stand)) = ap is_padded stand.goaway
sent_bare known t queue noted (inr (inl may)) = plainly_bare noted.frame (and_parts (is_plainly_flagged noted.frame) (if noted.frame.kind == window_update_kind then is_given_back t noted.frame else is_part t noted.frame) may.rightly).0

-- By the rule of the frames that are sent none has padding.
pub unpadded : (known : Known) (t : List Entry) → Conducted known t → AreUnpadded t
unpadded known [] c = tt
unpadded known (Sent noted ∷ t) c = (sent_bare known t (queue_of known t) noted c.1.turn, unpadded known t c.0)
unpadded known (Came noted ∷ t) c = unpadded known t c.0
unpadded known (Breached breach ∷ t) c = unpadded known t c.0
unpadded known (Happened event ∷ t) c = unpadded known t c.0
unpadded known (Did act ∷ t) c = unpadded known t c.0
