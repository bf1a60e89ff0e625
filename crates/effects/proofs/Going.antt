-- Frames of responses and octets given back may be sent, by the rule of `theory_errors`.
use Rattle.std.proofs.Common.{◌≡◌, ℕ, ◌<◌, Bool, true, false, not, ◌==◌, ◌&&◌, ◌||◌, List, refl, ◌∙◌, ap, arith, if◌then◌else◌}
use Rattle.std.specs.Prelude.{Option, Some, None, nat_lt}
use Rattle.std.proofs.lemmas.Bool.{lt-ltb}
use Rattle.model.specs.Octets.{is_empty}
use Rattle.model.specs.Frames.{Frame, ends_stream, content, data_kind, continuation_kind, window_update_kind, spell_number}
use Rattle.model.specs.Payloads.{number_field}
use Rattle.model.specs.Decoding.{Partial}
use Rattle.model.specs.WindowsOnTape.{increment}
use Rattle.model.specs.Limits.{high_water}
use Rattle.model.specs.ErrorClause.{is_plainly_flagged, is_filled}
use Rattle.theory_errors.specs.Summary.{Summary}
use Rattle.theory_errors.specs.Judging.{is_active_in, is_crowded_in}
use Rattle.theory_errors.specs.Owing.{is_given_back_in, is_part_in, is_rightly_sent_in}
use Rattle.effects.specs.Sent.{data_frame, window_update}
use Rattle.effects.specs.Blocks.{kind_behind, IsFragment}
use Rattle.effects.proofs.Fragments.{whole_content}

both : (a b : Bool) → a ≡ true → b ≡ true → (a && b) ≡ true
both a b p q = ap (λ x. x && b) p ∙ q

-- a part of a response, by what is_part_in asks
part_goes : (s : Summary) (frame : Frame) → is_active_in frame.id s ≡ true → (s.stream frame.id).ended_by_gateway ≡ false → (not (is_empty frame.payload) || frame.kind == data_kind && ends_stream frame) ≡ true
    → (frame.kind == continuation_kind || nat_lt s.untaken high_water) ≡ true → is_filled frame ≡ true → is_part_in s frame ≡ true
part_goes s frame active goes_on octets begins filled =
    both _ _ (both _ _ (both _ _ (both _ _ active (ap not goes_on)) octets) begins) filled

rightly : (s : Summary) (frame : Frame) → is_plainly_flagged frame ≡ true → (frame.kind == window_update_kind) ≡ false → is_part_in s frame ≡ true → is_rightly_sent_in s frame ≡ true
rightly s frame plainly other part = both _ _ plainly (ap (λ b. if b then is_given_back_in s frame else is_part_in s frame) other ∙ part)

begins_in_time : (begun : Option Partial) (kind untaken : ℕ) → kind ≡ kind_behind begun → (begun ≡ None → untaken < high_water) → (kind == continuation_kind || nat_lt untaken high_water) ≡ true
begins_in_time None kind untaken is room = ap (λ k. k == 9 || nat_lt untaken 65536) is ∙ lt-ltb untaken 65536 (room refl)
begins_in_time (Some begun) kind untaken is room = ap (λ k. k == 9 || nat_lt untaken 65536) is

pub fragment_goes : (s : Summary) (stream : ℕ) (frame : Frame) → IsFragment stream s.block_out frame → is_active_in stream s ≡ true → (s.stream stream).ended_by_gateway ≡ false → (s.block_out ≡ None → s.untaken < high_water) → is_rightly_sent_in s frame ≡ true
fragment_goes s stream frame is active goes_on room =
    rightly s frame is.plainly_flagged is.no_update
    (part_goes s frame (ap (λ id. is_active_in id s) is.on_stream ∙ active) (ap (λ id. (s.stream id).ended_by_gateway) is.on_stream ∙ goes_on)
    (ap (λ b. not b || frame.kind == data_kind && ends_stream frame) is.has_octets) (begins_in_time s.block_out frame.kind s.untaken is.kind room) is.filled)

pub data_goes : (s : Summary) (stream : ℕ) (octets : List ℕ) (ends : Bool) → is_active_in stream s ≡ true → (s.stream stream).ended_by_gateway ≡ false → (not (is_empty octets) || ends) ≡ true → s.untaken < high_water → is_rightly_sent_in s (data_frame stream ends octets) ≡ true
data_goes s stream octets true active goes_on some room =
    rightly s (data_frame stream true octets) refl refl (part_goes s (data_frame stream true octets) active goes_on some (lt-ltb s.untaken 65536 room) refl)
data_goes s stream octets false active goes_on some room =
    rightly s (data_frame stream false octets) refl refl (part_goes s (data_frame stream false octets) active goes_on some (lt-ltb s.untaken 65536 room) refl)

pub data_ends : (stream : ℕ) (octets : List ℕ) (ends : Bool) → ends_stream (data_frame stream ends octets) ≡ ends
data_ends stream octets true = refl
data_ends stream octets false = refl

pub data_content : (stream : ℕ) (octets : List ℕ) (ends : Bool) → content (data_frame stream ends octets) ≡ octets
data_content stream octets true = whole_content octets
data_content stream octets false = whole_content octets

pub update_grants : (id number : ℕ) → number < 2147483648 → increment (window_update id number) ≡ number
update_grants id number small =
    omega (arith, small)

pub update_goes : (s : Summary) (id number : ℕ) → 0 < number → number < 2147483648 → is_crowded_in s ≡ false → (id == 0 || is_active_in id s && not (s.stream id).ended_by_client) ≡ true → is_rightly_sent_in s (window_update id number) ≡ true
update_goes s id number some small free open_yet =
    let bare : nat_lt (number_field (spell_number number)) 2147483648 ≡ true = lt-ltb (number_field (spell_number number)) 2147483648 (omega (arith, small)) in
    let grants : nat_lt 0 (increment (window_update id number)) ≡ true = ap (λ n. nat_lt 0 n) (update_grants id number small) ∙ lt-ltb 0 number some in
    both _ _ (both _ _ (both _ _ bare grants) (ap not free)) open_yet
