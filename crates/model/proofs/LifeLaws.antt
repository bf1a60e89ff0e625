-- What has become of a stream stays, and a connection that is to end still is.
use Rattle.std.proofs.Common.{◌≡◌, ℕ, Bool, true, false, not, ◌==◌, ◌&&◌, ◌||◌, List, [], ◌∷◌, length, refl, sym, ap, ◌∙◌, inl, inr, if◌then◌else◌}
use Rattle.std.specs.Prelude.{filter}
use Rattle.std.specs.List.{list_any}
use Rattle.std.proofs.lemmas.Bool.{cases_Bool, and_parts, and_from, eqb-true, eq-eqb}
use Rattle.model.specs.Frames.{rst_stream_kind}
use Rattle.model.specs.Tapes.{Noted, Entry, came, sent}
use Rattle.model.specs.Tapes.Entry.{Came, Breached, Happened, Sent, Did}
use Rattle.model.specs.Decoding.{completed}
use Rattle.model.specs.Known.{Known}
use Rattle.model.specs.Lifetimes.{is_drained, is_full, opened, opens_by, ends_by, active, is_opened, is_over, is_active, is_exhausted, is_ended_by_client, is_ended_by_gateway, is_reset_by_client, is_reset_by_gateway}
use Rattle.model.specs.ErrorClause.{is_calming, calls_for_end, must_end}

-- ---- streams that are over

-- a stream that was opened stays so
pub opened_stays : (t : List Entry) (e : Entry) (stream : ℕ) → is_opened stream t ≡ true → is_opened stream (e ∷ t) ≡ true
opened_stays t (Came noted) stream is = by (opens_by (is_drained t) (opened t) (completed (came t) noted.frame) noted.note)
  where
    or_true : (b : Bool) → (b || is_opened stream t) ≡ true
    or_true true = refl
    or_true false = is

    by : (b : Bool) → list_any (λ id. id == stream) (if b then noted.frame.id ∷ opened t else opened t) ≡ true
    by true = or_true (noted.frame.id == stream)
    by false = is
opened_stays t (Breached breach) stream is = is
opened_stays t (Happened event) stream is = is
opened_stays t (Sent noted) stream is = is
opened_stays t (Did act) stream is = is

-- a stream that is over stays so
pub over_stays : (t : List Entry) (e : Entry) (stream : ℕ) → is_over stream t ≡ true → is_over stream (e ∷ t) ≡ true
over_stays t (Came noted) stream is =
    by (noted.frame.kind == rst_stream_kind && noted.frame.id == stream) (noted.frame.id == stream && ends_by (completed (came t) noted.frame) noted.frame) (is_reset_by_gateway stream t) (is_reset_by_client stream t) (is_ended_by_client stream t) (is_ended_by_gateway stream t) is
  where
    by : (x y a b c d : Bool) → (a || b || c && d) ≡ true → (a || (x || b) || (y || c) && d) ≡ true
    by x y true b c d e = refl
    by true y false b c d e = refl
    by false y false true c d e = refl
    by false true false false true d e = e
    by false true false false false d e = cc
    by false false false false c d e = e
over_stays t (Breached breach) stream is = is
over_stays t (Happened event) stream is = is
over_stays t (Sent noted) stream is =
    by (noted.frame.kind == rst_stream_kind && noted.frame.id == stream) (noted.frame.id == stream && ends_by (completed (sent t) noted.frame) noted.frame) (is_reset_by_gateway stream t) (is_reset_by_client stream t) (is_ended_by_client stream t) (is_ended_by_gateway stream t) is
  where
    by : (x y a b c d : Bool) → (a || b || c && d) ≡ true → ((x || a) || b || c && (y || d)) ≡ true
    by true y a b c d e = refl
    by false y true b c d e = refl
    by false y false true c d e = refl
    by false true false false true d e = refl
    by false true false false false d e = e
    by false false false false c d e = e
over_stays t (Did act) stream is = is

-- a stream that was opened and isn't active never is again
pub lost_stays : (t : List Entry) (e : Entry) (stream : ℕ) → is_opened stream t ≡ true → is_active stream t ≡ false → is_active stream (e ∷ t) ≡ false
lost_stays t e stream opened lost = by (is_opened stream (e ∷ t)) (is_over stream (e ∷ t)) (over_stays t e stream (was (is_opened stream t) (is_over stream t) opened lost))
  where
    was : (a b : Bool) → a ≡ true → (a && not b) ≡ false → b ≡ true
    was true true e f = refl
    was true false e f = cc
    was false b e f = cc

    by : (a b : Bool) → b ≡ true → (a && not b) ≡ false
    by true true e = refl
    by false true e = refl
    by a false e = cc

-- a stream that the client ended stays so
pub ended_stays : (t : List Entry) (e : Entry) (stream : ℕ) → is_ended_by_client stream t ≡ true → is_ended_by_client stream (e ∷ t) ≡ true
ended_stays t (Came noted) stream is = by (noted.frame.id == stream && ends_by (completed (came t) noted.frame) noted.frame)
  where
    by : (b : Bool) → (b || is_ended_by_client stream t) ≡ true
    by true = refl
    by false = is
ended_stays t (Breached breach) stream is = is
ended_stays t (Happened event) stream is = is
ended_stays t (Sent noted) stream is = is
ended_stays t (Did act) stream is = is

-- ---- the end of the connection

-- with fewer that pass a test none does
none_left : (p q : ℕ → Bool) → ((id : ℕ) → q id ≡ true → p id ≡ true) → (ids : List ℕ) → length (filter p ids) ≡ 0 → length (filter q ids) ≡ 0
none_left p q fewer [] none = refl
none_left p q fewer (id ∷ ids) none = by (none_left p q fewer ids) (p id) (q id) (fewer id) none
  where
    by : (length (filter p ids) ≡ 0 → length (filter q ids) ≡ 0) → (a b : Bool) → (b ≡ true → a ≡ true) → length (if a then id ∷ filter p ids else filter p ids) ≡ 0 → length (if b then id ∷ filter q ids else filter q ids) ≡ 0
    by again true b less none = absurd (cc)
    by again false true less none = let clash : false ≡ true = less refl in cc
    by again false false less none = again none

-- a connection that is to end still is when a frame is sent
pub ends_sent : (known : Known) (t : List Entry) (noted : Noted) → must_end known t ≡ true → must_end known (Sent noted ∷ t) ≡ true
ends_sent known t noted ends = by (is_calming noted.frame) (calls_for_end known t) (is_exhausted t) (is_exhausted (Sent noted ∷ t)) exhausted ends
  where
    by : (x a b c : Bool) → (b ≡ true → c ≡ true) → (a || b) ≡ true → (x || a || c) ≡ true
    by true a b c more e = refl
    by false true b c more e = refl
    by false false b c more e = more e

    going : (id : ℕ) → not (is_over id (Sent noted ∷ t)) ≡ true → not (is_over id t) ≡ true
    going id e = elim (cases_Bool (is_over id t)) [
      | inl over ↦ absurd (let clash : false ≡ true = sym (ap not (over_stays t (Sent noted) id over)) ∙ e in cc)
      | inr goes_on ↦ ap not goes_on
    ]

    exhausted : is_exhausted t ≡ true → is_exhausted (Sent noted ∷ t) ≡ true
    exhausted e =
        let parts = and_parts (is_full t) (length (active t) == 0) e in
        and_from (is_full t) (length (active (Sent noted ∷ t)) == 0) parts.0
        (eq-eqb (length (active (Sent noted ∷ t))) 0 (none_left (λ id. not (is_over id t)) (λ id. not (is_over id (Sent noted ∷ t))) going (opened t) (eqb-true (length (active t)) 0 parts.1)))
