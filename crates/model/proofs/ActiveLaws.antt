-- Which streams are active behind an entry, and what a frame that is sent brings.
use Rattle.std.proofs.Common.{◌≡◌, ℕ, Bool, true, false, not, ◌==◌, ◌&&◌, ◌||◌, List, [], ◌∷◌, ◌++◌, refl, sym, ap, ◌∙◌, if◌then◌else◌}
use Rattle.std.specs.Prelude.{Option, None}
use Rattle.std.specs.List.{list_any}
use Rattle.std.proofs.lemmas.List.{append-nil}
use Rattle.std.proofs.lemmas.Bool.{and_parts, and_from, and_right, eq-eqb, ne_eqb}
use Rattle.std.proofs.Math.Bool.{and-true}
use Rattle.model.specs.Messages.{Item}
use Rattle.model.specs.Messages.Item.{Content}
use Rattle.model.specs.Frames.{content, data_kind, rst_stream_kind, ends_stream}
use Rattle.model.specs.Tapes.{Noted, Entry, came, sent}
use Rattle.model.specs.Tapes.Entry.{Came, Sent}
use Rattle.model.specs.Decoding.{Partial, completed}
use Rattle.model.specs.Streams.{frame_items}
use Rattle.model.specs.Available.{items_on}
use Rattle.model.specs.Lifetimes.{is_drained, opened, opens_by, is_opened, is_over, is_active, ends_by, is_ended_by_client, is_ended_by_gateway, is_reset_by_client, is_reset_by_gateway}

-- ---- active streams

-- more that ends a stream ends it
over_more : (x y r c e g : Bool) → not ((x || r) || c || e && (y || g)) ≡ true → not (r || c || e && g) ≡ true
over_more true y r c e g h = let clash : false ≡ true = h in cc
over_more false false r c e g h = h
over_more false true r c false g h = h
over_more false true true c true g h = let clash : false ≡ true = h in cc
over_more false true false true true g h = let clash : false ≡ true = h in cc
over_more false true false false true g h = let clash : false ≡ true = h in cc

-- a stream that is active behind a frame that was sent was active before it
pub active_sent : (t : List Entry) (noted : Noted) (stream : ℕ) → is_active stream (Sent noted ∷ t) ≡ true → is_active stream t ≡ true
active_sent t noted stream a =
    let parts = and_parts (is_opened stream t) (not (is_over stream (Sent noted ∷ t))) a in
    and_from (is_opened stream t) (not (is_over stream t)) parts.0
    (over_more (noted.frame.kind == rst_stream_kind && noted.frame.id == stream) (noted.frame.id == stream && ends_by (completed (sent t) noted.frame) noted.frame)
    (is_reset_by_gateway stream t) (is_reset_by_client stream t) (is_ended_by_client stream t) (is_ended_by_gateway stream t) parts.1)

-- on another stream a frame that is sent leaves it so
pub active_beside : (t : List Entry) (noted : Noted) (stream : ℕ) → (noted.frame.id ≡ stream → ⊥) → is_active stream (Sent noted ∷ t) ≡ is_active stream t
active_beside t noted stream other =
    let apart : (noted.frame.id == stream) ≡ false = ne_eqb noted.frame.id stream other in
    let reset : ((noted.frame.kind == rst_stream_kind && noted.frame.id == stream) || is_reset_by_gateway stream t) ≡ is_reset_by_gateway stream t =
    ap (λ b. (noted.frame.kind == rst_stream_kind && b) || is_reset_by_gateway stream t) apart ∙ ap (λ b. b || is_reset_by_gateway stream t) (and_right (noted.frame.kind == rst_stream_kind) false refl) in
    let ended : (noted.frame.id == stream && ends_by (completed (sent t) noted.frame) noted.frame || is_ended_by_gateway stream t) ≡ is_ended_by_gateway stream t =
    ap (λ b. b && ends_by (completed (sent t) noted.frame) noted.frame || is_ended_by_gateway stream t) apart in
    ap (λ b. is_opened stream t && not (b || is_reset_by_client stream t || is_ended_by_client stream t && (noted.frame.id == stream && ends_by (completed (sent t) noted.frame) noted.frame || is_ended_by_gateway stream t))) reset
    ∙ ap (λ b. is_opened stream t && not (is_reset_by_gateway stream t || is_reset_by_client stream t || is_ended_by_client stream t && b)) ended

-- a frame without an item resets its stream, or leaves it so
pub active_control : (t : List Entry) (noted : Noted) → completed (sent t) noted.frame ≡ None → (noted.frame.kind == data_kind) ≡ false → is_active noted.frame.id (Sent noted ∷ t) ≡ (is_active noted.frame.id t && not (noted.frame.kind == rst_stream_kind))
active_control t noted no_block no_data =
    let id = noted.frame.id in
    let ended : (id == id && ends_by (completed (sent t) noted.frame) noted.frame || is_ended_by_gateway id t) ≡ is_ended_by_gateway id t =
    ap (λ b. id == id && ends_by b noted.frame || is_ended_by_gateway id t) no_block
    ∙ ap (λ b. id == id && (b && ends_stream noted.frame) || is_ended_by_gateway id t) no_data
    ∙ ap (λ b. b || is_ended_by_gateway id t) (and_right (id == id) false refl) in
    ap (λ b. is_opened id t && not (((noted.frame.kind == rst_stream_kind && id == id) || is_reset_by_gateway id t) || is_reset_by_client id t || is_ended_by_client id t && b)) ended
    ∙ ap (λ b. is_opened id t && not (((noted.frame.kind == rst_stream_kind && b) || is_reset_by_gateway id t) || is_reset_by_client id t || is_ended_by_client id t && is_ended_by_gateway id t)) (eq-eqb id id refl)
    ∙ by (noted.frame.kind == rst_stream_kind) (is_opened id t) (is_reset_by_gateway id t) (is_reset_by_client id t) (is_ended_by_client id t && is_ended_by_gateway id t)
  where
    by : (x o r c e : Bool) → (o && not (((x && true) || r) || c || e)) ≡ ((o && not (r || c || e)) && not x)
    by true o r c e = and_right o false refl ∙ sym (and_right (o && not (r || c || e)) false refl)
    by false o r c e = sym (and-true (o && not (r || c || e)))

-- a frame of the client on another stream leaves it so
pub active_came : (t : List Entry) (noted : Noted) (stream : ℕ) → (noted.frame.id ≡ stream → ⊥) → is_active stream (Came noted ∷ t) ≡ is_active stream t
active_came t noted stream other =
    let no : (noted.frame.id == stream) ≡ false = ne_eqb noted.frame.id stream other in
    let reset : ((noted.frame.kind == rst_stream_kind && noted.frame.id == stream) || is_reset_by_client stream t) ≡ is_reset_by_client stream t =
    ap (λ b. (noted.frame.kind == rst_stream_kind && b) || is_reset_by_client stream t) no ∙ ap (λ b. b || is_reset_by_client stream t) (and_right (noted.frame.kind == rst_stream_kind) false refl) in
    let ended : (noted.frame.id == stream && ends_by (completed (came t) noted.frame) noted.frame || is_ended_by_client stream t) ≡ is_ended_by_client stream t =
    ap (λ b. b && ends_by (completed (came t) noted.frame) noted.frame || is_ended_by_client stream t) no in
    let there : list_any (λ id. id == stream) (if opens_by (is_drained t) (opened t) (completed (came t) noted.frame) noted.note then noted.frame.id ∷ opened t else opened t) ≡ is_opened stream t =
    by (opens_by (is_drained t) (opened t) (completed (came t) noted.frame) noted.note) no in
    ap (λ b. b && not (is_over stream (Came noted ∷ t))) there
    ∙ ap (λ b. is_opened stream t && not (is_reset_by_gateway stream t || b || (noted.frame.id == stream && ends_by (completed (came t) noted.frame) noted.frame || is_ended_by_client stream t) && is_ended_by_gateway stream t)) reset
    ∙ ap (λ b. is_opened stream t && not (is_reset_by_gateway stream t || is_reset_by_client stream t || b && is_ended_by_gateway stream t)) ended
  where
    by : (b : Bool) → (noted.frame.id == stream) ≡ false → list_any (λ id. id == stream) (if b then noted.frame.id ∷ opened t else opened t) ≡ is_opened stream t
    by true e = ap (λ b. b || is_opened stream t) e
    by false e = refl

-- ---- what a frame that is sent brings

pub brought : (t : List Entry) (noted : Noted) (items : List Item) → frame_items (completed (sent t) noted.frame) noted ≡ items → items_on noted.frame.id (sent (Sent noted ∷ t)) ≡ items_on noted.frame.id (sent t) ++ items
brought t noted items brings =
    ap (λ b. items_on noted.frame.id (sent t) ++ (if b then frame_items (completed (sent t) noted.frame) noted else [])) (eq-eqb noted.frame.id noted.frame.id refl)
    ∙ ap (λ x. items_on noted.frame.id (sent t) ++ x) brings

pub brought_other : (t : List Entry) (noted : Noted) (stream : ℕ) → (noted.frame.id ≡ stream → ⊥) → items_on stream (sent (Sent noted ∷ t)) ≡ items_on stream (sent t)
brought_other t noted stream other =
    ap (λ b. items_on stream (sent t) ++ (if b then frame_items (completed (sent t) noted.frame) noted else [])) (ne_eqb noted.frame.id stream other) ∙ append-nil (items_on stream (sent t))

no_items : (b : Bool) (xs items : List Item) → items ≡ [] → xs ++ (if b then items else []) ≡ xs
no_items true xs items e = ap (λ y. xs ++ y) e ∙ append-nil xs
no_items false xs items e = append-nil xs

pub brought_none : (t : List Entry) (noted : Noted) (stream : ℕ) → frame_items (completed (sent t) noted.frame) noted ≡ [] → items_on stream (sent (Sent noted ∷ t)) ≡ items_on stream (sent t)
brought_none t noted stream none = no_items (noted.frame.id == stream) (items_on stream (sent t)) (frame_items (completed (sent t) noted.frame) noted) none

-- a frame that completes no block and isn't DATA brings nothing
pub none_brought : (noted : Noted) (block : Option Partial) → block ≡ None → (noted.frame.kind == data_kind) ≡ false → frame_items block noted ≡ []
none_brought noted block none no_data =
    ap (λ b. frame_items b noted) none ∙ ap (λ b. if b then Content (content noted.frame) (ends_stream noted.frame) ∷ [] else []) no_data
