use Rattle.std.proofs.Common.{rules, ◌≡◌, ℕ, ◌+◌, ◌*◌, ◌-◌, ◌/◌, List, length, Option, None, sym, ◌∙◌, ap, subst}
use Rattle.model.specs.Messages.{Field}
use Rattle.theory_errors.specs.Rows.{find}
use Rattle.header_blocks.specs.Encoding.{Encoding}
use Rattle.header_blocks.specs.Encodes.{Encodes}
use Rattle.streams.specs.Sending.{head_sent}
use Rattle.connection_state.specs.Inbound.{Inbound}
use Rattle.connection_state.specs.Sending.{with_kept}
use Rattle.theory_responses.specs.Outbox.{Part}
use Rattle.theory_responses.specs.State as theory_responses
use Rattle.effects.specs.Sent.{put_frames}
use Rattle.effects.specs.Blocks.{block_frames}
use Rattle.send_queue.specs.Asked.{part_for}
use Rattle.send_queue.specs.Changes.{behind_turn}
use Rattle.refinement.specs.View.{View}
use Rattle.event_handlers.specs.flushing.Changes.{IsHeadPart, octets_of_frames}
use Rattle.event_handlers.proofs.flushing.Octets.{block_octets, written_all}
use Rattle.event_handlers.proofs.flushing.parts.send_head.Goals as goal

pub returns-clause-sent : goal.returns-clause-sent
returns-clause-sent c =
    let here = c.session.inside in
    let gone = c.take_head-head.ensures in
    let says = subst (λ (u : View). IsHeadPart (part_for 1 c.args.id u.offers.kept) c.args.next.is_final c.args.next.ends) (sym c.session.view_is) c.requires.head in
    let fields : List Field = c.in_ok-fields.fields.items in
    let block : List ℕ = c.encode.new.out.items in
    let table = c.encode.new.self.table in
    let view : Inbound → theory_responses.State → Encoding → ℕ → View = λ i o e n. record { inbound = i; offers = o; upstreams = here.upstreams; marks = here.marks; encoding = e; untaken = n } in
    let long : c.len.result ≡ length block = search (rules, c.len.ensures, c.deref-2.ensures.len, c.deref-2.ensures.value) in
    let counted : c.octets_of_block.result ≡ length block + 9 * ((length block - 1) / 16384 + 1) = c.octets_of_block.ensures ∙ ap (λ n. n + 9 * ((n - 1) / 16384 + 1)) long in
    let size : here.untaken + c.octets_of_block.result ≡ here.untaken + octets_of_frames (block_frames c.args.id c.args.next.ends block) = ap (λ n. here.untaken + n) (counted ∙ sym (block_octets c.args.id c.args.next.ends block)) in
    let inbound : Inbound = record here.inbound { rows = with_kept c.args.id (head_sent c.args.next.is_final c.args.next.ends (find here.inbound.rows c.args.id)) here.inbound.rows } in
    let offers : theory_responses.State = behind_turn c.args.id gone.part here.offers in
    let encoding : Encoding = record here.encoder { table = table; limits = None } in
    let encoded : c.encode.new.self ≡ encoding = c.in_ok-encode.ensures.goes_on ∙ ap (λ b. record here.encoder { table = table; limits = None; refused = b }) (sym c.in_ok-encode.ensures.sound.0) in
    rw (← c.session.view_is) (record {
      head = c.take_head-head.result;
      part = gone.part;
      next = gone.next 1;
      says = subst (λ (o : Option Part). IsHeadPart o c.args.next.is_final c.args.next.ends) (gone.next 1) says;
      is_head = gone.is_head;
      fields = fields;
      section = c.in_ok-fields.ensures.section;
      table = table;
      block = block;
      written = written_all here.encoder fields table c.new-block.result.items block c.new-block.ensures.items (subst (λ (xs : List Field). Encodes here.encoder xs table c.new-block.result.items block) c.deref.ensures.value c.in_ok-encode.ensures.encoded);
      kept = ap (λ i. view i c.take_head-head.new.self c.encode.new.self (here.untaken + c.octets_of_block.result)) c.sent_head.ensures
          ∙ ap (λ o. view inbound o c.encode.new.self (here.untaken + c.octets_of_block.result)) gone.is
          ∙ ap (λ e. view inbound offers e (here.untaken + c.octets_of_block.result)) encoded
          ∙ ap (λ n. view inbound offers encoding n) size;
      puts = c.in_ok-send_block.ensures ∙ ap (λ (xs : List ℕ). put_frames c.args.out.now (block_frames c.args.id c.args.next.ends xs)) c.deref-2.ensures.value;
    })
