use Rattle.std.proofs.Common.{◌≡◌, ℕ, ◌+◌, ◌≤◌, true, ◌++◌, length, Some, pos, sym, ◌∙◌, ap, subst, arith, length-append, inl, inr}
use Rattle.std.specs.Prelude.{◌-ℤ◌}
use Rattle.model.specs.Frames.{spell}
use Rattle.theory_errors.specs.Rows.{find}
use Rattle.theory_responses.specs.Outbox.Part.{Octets}
use Rattle.theory_responses.specs.State.{can_turn}
use Rattle.streams.specs.Asked.{is_active}
use Rattle.streams.specs.Sending.{data_sent}
use Rattle.connection_state.specs.Sending.{AreWithin}
use Rattle.send_buffer.specs.Views.{part_in}
use Rattle.effects.specs.Sent.{data_frame}
use Rattle.send_queue.specs.Asked.{part_for, windows_over}
use Rattle.refinement.specs.View.{View}
use Rattle.event_handlers.specs.flushing.Changes.{part_gone}
use Rattle.event_handlers.proofs.flushing.Within.{octets_within, octets_are, octets_few}
use Rattle.event_handlers.proofs.flushing.parts.send_part.Goals as goal

pub note_octets-requires-clause-within : goal.note_octets-requires-clause-within
note_octets-requires-clause-within c =
    let here = c.session.inside in
    let ready = subst (λ (u : View). can_turn (windows_over u.inbound.rows u.inbound.first_size u.inbound.window) u.offers c.args.id ≡ true) (sym c.session.view_is) c.requires.ready in
    let live = subst (λ (u : View). is_active u.inbound.rows c.args.id ≡ true) (sym c.session.view_is) c.requires.live in
    let octets = c.in-Some-Octets.front.now ++ c.in-Some-Octets.back.now in
    let sum : length octets ≡ length c.in-Some-Octets.front.now + length c.in-Some-Octets.back.now = length-append c.in-Some-Octets.front.now c.in-Some-Octets.back.now in
    let within = octets_within here.inbound here.offers c.args.id c.most_octets-most.result octets c.in-Some-Octets.ends ready (sym c.in-Some-Octets.ensures.is ∙ ap (λ p. Some (part_in p)) c.in-Some-Octets.field-0-is) c.most_octets-most.ensures.shared (λ on. c.most_octets-most.ensures.own on live) in
    subst (λ (u : View). AreWithin u.inbound c.args.id (length c.in-Some-Octets.front.now + length c.in-Some-Octets.back.now)) c.session.view_is (subst (λ n. AreWithin here.inbound c.args.id n) sum within)

pub returns-in_ok-send_data-in-Some-Octets-clause-sent : goal.returns-in_ok-send_data-in-Some-Octets-clause-sent
returns-in_ok-send_data-in-Some-Octets-clause-sent c =
    let here = c.session.inside in
    let u = c.args.session.now in
    let ends = c.in-Some-Octets.ends in
    let octets = c.in-Some-Octets.front.now ++ c.in-Some-Octets.back.now in
    let noted = c.note_octets.ensures.noted in
    let ready = subst (λ (v : View). can_turn (windows_over v.inbound.rows v.inbound.first_size v.inbound.window) v.offers c.args.id ≡ true) (sym c.session.view_is) c.requires.ready in
    let live = subst (λ (v : View). is_active v.inbound.rows c.args.id ≡ true) (sym c.session.view_is) c.requires.live in
    let goes_here : part_for c.most_octets-most.result c.args.id here.offers.kept ≡ Some (Octets octets ends) = sym c.in-Some-Octets.ensures.is ∙ ap (λ p. Some (part_in p)) c.in-Some-Octets.field-0-is in
    let goes : part_for c.most_octets-most.result c.args.id u.offers.kept ≡ Some (Octets octets ends) = subst (λ (v : View). part_for c.most_octets-most.result c.args.id v.offers.kept ≡ Some (Octets octets ends)) c.session.view_is goes_here in
    let few : length octets ≤ c.most_octets-most.result = octets_few (windows_over u.inbound.rows u.inbound.first_size u.inbound.window) u.offers c.args.id c.most_octets-most.result octets ends c.requires.ready goes in
    let most : c.most_octets-most.result ≤ 16384 = c.most_octets-most.ensures.few in
    let within = octets_within here.inbound here.offers c.args.id c.most_octets-most.result octets ends ready goes_here c.most_octets-most.ensures.shared (λ on. c.most_octets-most.ensures.own on live) in
    let count : ℕ = length c.in-Some-Octets.front.now + length c.in-Some-Octets.back.now in
    let sum : count ≡ length octets = sym (length-append c.in-Some-Octets.front.now c.in-Some-Octets.back.now) in
    let size : 9 + length octets ≡ length (spell (data_frame c.args.id ends octets)) = omega arith in
    let gone : ℕ → ℕ → View = λ n m. part_gone c.args.id noted.part (data_sent n ends (find u.inbound.rows c.args.id)) (u.inbound.window -ℤ pos n) u.encoding m u in
    inr (inl (record {
      most = c.most_octets-most.result;
      some = c.most_octets-most.ensures.some;
      part = noted.part;
      next = noted.next;
      octets = octets;
      are = octets_are noted.part octets ends (sym noted.next ∙ goes);
      few = omega (arith, few, most);
      within = subst (λ (v : View). AreWithin v.inbound c.args.id (length octets)) c.session.view_is within;
      kept = noted.kept ∙ ap (λ n. gone n (9 + n)) sum ∙ ap (λ m. gone (length octets) m) size;
      puts = c.in_ok-send_data-in-Some-Octets.ensures;
    }))
