-- A part of the stream whose turn it is goes: this performs.
use Rattle.std.proofs.Common.{◌≡◌, ◌≢◌, ℕ, ◌<◌, ◌≤◌, Bool, true, false, not, ◌||◌, if◌then◌else◌, List, [], ◌∷◌, ◌++◌, length, length-append, Option, Some, None, refl, sym, ◌∙◌, ap, subst, inl, inr, arith, nat_lt, ◌&&◌}
use Rattle.std.specs.Prelude.{nat_le, option_and_then, ◌-ℤ◌, pos}
use Rattle.std.proofs.lemmas.Bool.{and_parts, le-leb, leb-true}
use Rattle.model.proofs.BlockLaws.{field_some}
use Rattle.model.specs.Octets.{is_empty}
use Rattle.model.specs.Messages.{Field}
use Rattle.model.specs.Messages.Item.{Block}
use Rattle.model.specs.Frames.{spell}
use Rattle.model.specs.Blocks as blocks
use Rattle.model.specs.Limits.{high_water, most_untaken}
use Rattle.model.specs.ResponseHeads.{Head}
use Rattle.model.specs.Logs.{Output}
use Rattle.model.specs.Logs.Output.{ToClient}
use Rattle.model.specs.Setup.{Setup}
use Rattle.model.specs.Tables.{Table}
use Rattle.model.specs.Tapes.{put}
use Rattle.model.specs.Turns.{IsNextTurn}
use Rattle.model.specs.Decoding.{Partial}
use Rattle.model.specs.Deliveries.{IsSection}
use Rattle.model.specs.Courses.{is_final}
use Rattle.theory_errors.specs.Judging.{is_active_in, is_over_in}
use Rattle.theory_errors.specs.Rows.{find as find_row, Row}
use Rattle.theory_errors.specs.Book.{Book, summary_in}
use Rattle.theory_responses.specs.Outbox.{Outbox, Part, IsNext, IsItemOf, can_go, part_of}
use Rattle.theory_responses.specs.Outbox.Outbox.{Before, Behind, Over}
use Rattle.theory_responses.specs.Outbox.Part.{Early, Final, Octets, Trailing}
use Rattle.theory_responses.specs.State.{Kept, Windows, find, are_open, is_ready_if, can_turn, ready}
use Rattle.theory_responses.proofs.Deciding.{chosen_next}
use Rattle.theory_responses.proofs.Listing.{filter_out}
use Rattle.theory_responses.specs.State as theory_responses
use Rattle.header_blocks.specs.Encodes.{IsWrittenBy}
use Rattle.header_blocks.specs.Encoding.{Encoding}
use Rattle.streams.specs.Asked.{is_active, has}
use Rattle.streams.specs.Sending.{head_sent, data_sent}
use Rattle.send_buffer.specs.Views.{IsHead}
use Rattle.send_queue.specs.Asked.{part_for, windows_over}
use Rattle.effects.specs.Sent.{data_frame, put_frames}
use Rattle.effects.specs.Blocks.{block_frames}
use Rattle.effects.proofs.Fragments.{block_completes}
use Rattle.theory.specs.Moves.{Move}
use Rattle.theory.specs.State.{State}
use Rattle.refinement.specs.View.{View, balanced, Leads, Pending, waiting_for}
use Rattle.refinement.specs.Rest.{NoneCut}
use Rattle.refinement.specs.Bringing.{OwnSegment, PerformsOwn}
use Rattle.event_handlers.specs.Stopping.{IsCalmed, EndsFrom}
use Rattle.event_handlers.specs.flushing.Changes.{part_gone, ended, put_at_end, octets_of_frames, IsHeadPart, AreOctetsPart, IsHeadSent, AreOctetsSent, AreTrailersSent, IsPartSent, unless_active}
use Rattle.event_handlers.proofs.flushing.Rows.{not_flip}
use Rattle.event_handlers.proofs.flushing.Facts.{ready_active, ready_unended}
use Rattle.event_handlers.proofs.flushing.Statuses.{HasStatuses, statuses_right, final_told, never_final, IsLate}
use Rattle.event_handlers.proofs.flushing.Placed.{At, led_at, owing, back_on, back_if}
use Rattle.event_handlers.proofs.flushing.Paths.{path_performs, Path}
use Rattle.event_handlers.proofs.flushing.Sending.{MaySend}
use Rattle.event_handlers.proofs.flushing.Blocks.{block_path, data_path}
use Rattle.event_handlers.proofs.flushing.Ends.{IsGone, owed_at, active_then, ends_gone, gone_over}

-- ---- whose turn it is

-- the stream that has the next turn is one of which something can go
pub turn_ready : (windows : Windows) (s : theory_responses.State) (id : ℕ) → IsNextTurn s.last (ready windows s) (Some id) → can_turn windows s id ≡ true
turn_ready windows s id (inl above) = filter_out (can_turn windows s) _ id above.is_ready
turn_ready windows s id (inr again) = filter_out (can_turn windows s) _ id again.is_ready

-- its record
pub record HasReady (windows : Windows) (ks : List Kept) (id : ℕ) : Type 0 where
  pub stream : Kept
  pub found : find id ks ≡ Some stream
  pub not_cut : stream.cut ≡ false
  pub can : can_go (are_open windows stream.id) stream.box ≡ true

-- a stream that can have a turn has one
pub can_ready : (windows : Windows) (s : theory_responses.State) (id : ℕ) → can_turn windows s id ≡ true → HasReady windows s.kept id
can_ready windows s id on = by (find id s.kept) refl on
  where
    by : (o : Option Kept) → find id s.kept ≡ o → is_ready_if windows o ≡ true → HasReady windows s.kept id
    by None none on = absurd (let clash : false ≡ true = on in cc)
    by (Some k) is on =
        let parts = and_parts (not k.cut) (can_go (are_open windows k.id) k.box) on in
        record { stream = k; found = is; not_cut = not_flip k.cut parts.0; can = parts.1 }

-- so has the one that has the next
pub has_ready : (windows : Windows) (s : theory_responses.State) (id : ℕ) → IsNextTurn s.last (ready windows s) (Some id) → HasReady windows s.kept id
has_ready windows s id turn = can_ready windows s id (turn_ready windows s id turn)

-- the part that goes next on it
pub part_here : (most id : ℕ) (ks : List Kept) (k : Kept) (part : Part) → find id ks ≡ Some k → part_for most id ks ≡ Some part → part_of most k.box ≡ Some part
part_here most id ks k part found next = sym (ap (λ (o : Option Kept). option_and_then (λ (x : Kept). part_of most x.box) o) found) ∙ next

-- ---- heads

-- a section goes as the part that its head is
item_right : (box : Outbox) (part : Part) (is_final_one ends : Bool) (head : Head) (fields : List Field) → IsNext box part → HasStatuses box → IsHeadPart (Some part) is_final_one ends → IsHead head part → IsSection fields head
    → IsItemOf (Block fields ends) part × (is_final (Block fields ends) ≡ is_final_one)
item_right (Before (first ∷ interims) late body whole) (Early sent) f ends head fields next statuses says is_head section =
    let small : head.status < 200 = subst (λ (h : Head). h.status < 200) (sym (is_head ∙ next)) statuses.0.0 in (
      (says.1, subst (IsSection fields) is_head section, subst (λ (h : Head). h.status < 200) is_head small),
      final_told fields head ends section ∙ not_late (nat_le 200 head.status) refl small ∙ sym says.0,
    )
  where
    not_late : (b : Bool) → nat_le 200 head.status ≡ b → head.status < 200 → b ≡ false
    not_late true late small = (let high = leb-true 200 head.status late in absurd (omega (arith, high, small)))
    not_late false late small = refl
item_right (Before [] late body whole) (Final sent last) f ends head fields next statuses says is_head section =
    let big : 200 ≤ sent.status = subst (λ (o : Option Head). IsLate o) next.0 statuses.1 in
    let high : 200 ≤ head.status = subst (λ (h : Head). 200 ≤ h.status) (sym is_head) big in (
      (says.1, subst (IsSection fields) is_head section, big),
      final_told fields head ends section ∙ le-leb 200 head.status high ∙ sym says.0,
    )
item_right box (Octets octets last) f ends head fields next statuses says is_head section = absurd says
item_right box (Trailing trailers) f ends head fields next statuses says is_head section = absurd says
item_right (Before (first ∷ interims) late body whole) (Final sent last) f ends head fields next statuses says is_head section = absurd next
item_right (Before [] late body whole) (Early sent) f ends head fields next statuses says is_head section = absurd next
item_right (Behind body whole) (Early sent) f ends head fields next statuses says is_head section = absurd next
item_right (Behind body whole) (Final sent last) f ends head fields next statuses says is_head section = absurd next
item_right Over (Early sent) f ends head fields next statuses says is_head section = absurd next
item_right Over (Final sent last) f ends head fields next statuses says is_head section = absurd next

-- a block of a section has octets
block_some : (table next : Table) (maxima : List ℕ) (block : List ℕ) (field : Field) (fields : List Field) → blocks.IsBlock table block maxima (field ∷ fields) next → 0 < length block
block_some table next maxima block field fields h =
    let size = length-append h.front h.rest in
    let whole : length block ≡ length (h.front ++ h.rest) = ap length h.is in
    let first = h.are_fields in
    let parts = length-append first.0 first.1 in
    let rest : length h.rest ≡ length (first.0 ++ first.1) = ap length first.3 in
    let some : 0 < length first.0 = field_some h.between first.2 first.0 field first.4 in
    omega (arith, size, whole, parts, rest, some)

section_some : (fields : List Field) (head : Head) (encoding : Encoding) (table : Table) (block : List ℕ) → IsSection fields head → IsWrittenBy encoding fields table block → 0 < length block
section_some fields head encoding table block section written =
    let is_block : blocks.IsBlock encoding.table block written.maxima _ table = subst (λ (xs : List Field). blocks.IsBlock encoding.table block written.maxima xs table) section.is written.is_block in
    block_some encoding.table table written.maxima block _ head.fields is_block

trailers_some : (fields : List Field) (encoding : Encoding) (table : Table) (block : List ℕ) → fields ≢ [] → IsWrittenBy encoding fields table block → 0 < length block
trailers_some [] encoding table block some written = absurd (some refl)
trailers_some (field ∷ fields) encoding table block some written = block_some encoding.table table written.maxima block field fields written.is_block

-- ---- the part performs

module _ (u : View) (id : ℕ) (none_cut : NoneCut u.offers) (turn : IsNextTurn u.offers.last (ready (windows_over u.inbound.rows u.inbound.first_size u.inbound.window) u.offers) (Some id)) (small : id < 2147483648) (in_time : u.untaken < high_water) where
  abbrev windows : Windows
  windows = windows_over u.inbound.rows u.inbound.first_size u.inbound.window

  it : HasReady windows u.offers.kept id
  it = has_ready windows u.offers id turn

  -- what waited of a stream that is over goes back
  abbrev pub behind : Bool → Pending
  behind ends = record balanced { shared = if ends then waiting_for id u else 0 }

  module _ (setup : Setup) (run : List Move) (s : State) (leads : Leads setup run u balanced s) where
    found_in_state : find id s.offers.kept ≡ Some it.stream
    found_in_state = ap (λ (o : theory_responses.State). find id o.kept) leads.keeps.offers ∙ it.found

    -- It is active, and the gateway hasn't ended it.
    pub may_send : MaySend u id
    may_send = record {
      none_cut = none_cut;
      turn = turn;
      active = ap (λ (b : Book). is_active_in id (summary_in b)) (sym leads.keeps.book) ∙ ready_active setup run s leads.stands leads.so id it.stream found_in_state it.not_cut (are_open windows it.stream.id) it.can;
      unended = ap (λ (b : Book). (find_row b.rows id).ended_by_gateway) (sym leads.keeps.book) ∙ ready_unended setup run s leads.stands leads.so id it.stream found_in_state it.not_cut (are_open windows it.stream.id) it.can;
      small = small;
    }

    at : At setup run u [] None s.ledger.book.given s.tables s.windows
    at = led_at setup run u [] 0 s leads

    -- what goes back then
    back_then : (active : Bool) → (if not active then back_on (waiting_for id u) s.windows else s.windows).debt ≡ (if active then 0 else waiting_for id u)
    back_then false = let none = leads.keeps.credited.shared in omega (arith, none)
    back_then true = leads.keeps.credited.shared

    -- A path to where its part is out says so.
    gone_by : (ends : Bool) (v : View) (outputs out : List Output) → is_active v.inbound.rows id ≡ not ((find_row u.inbound.rows id).ended_by_client && ends) → waiting_for id v ≡ waiting_for id u
        → Path setup run u [] None outputs (unless_active id v) (owed_at u id ends) None out s.ledger.book.given s.tables s.windows (back_if (not (is_active v.inbound.rows id)) id u s.windows) → IsGone setup run s u id ends v outputs out
    gone_by ends v outputs out active waits path = record {
      segment =
          subst (λ n. OwnSegment setup run s outputs (unless_active id v) (owing (owed_at u id ends) n) out) (back_then (is_active v.inbound.rows id))
          (path_performs setup run s u (unless_active id v) [] (owed_at u id ends) outputs out 0 (back_if (not (is_active v.inbound.rows id)) id u s.windows) leads path);
      active = active;
      waits = waits;
    }

  -- A head goes.
  head_goes : (setup : Setup) (outputs : List Output) (is_final_one ends : Bool) (v : View) (put_out : List Output) → IsHeadSent u outputs id is_final_one ends v put_out
      → (run : List Move) (s : State) → Leads setup run u balanced s → IsGone setup run s u id ends v outputs put_out
  head_goes setup outputs is_final_one ends v put_out h run s leads =
      let may = may_send setup run s leads in
      let next = chosen_next 1 it.stream.box h.part (omega arith) (part_here 1 id u.offers.kept it.stream h.part it.found h.next) in
      let right = item_right it.stream.box h.part is_final_one ends h.head h.fields next (statuses_right setup run s leads.stands leads.so id it.stream (found_in_state setup run s leads)) h.says h.is_head h.section in
      let block : Partial = record { id = id; ends = ends; fragments = h.block } in
      let path = block_path setup s.ledger.book.given s.tables s.windows block h.fields h.table h.part it.stream (block_frames id ends h.block) run u None (at setup run s leads) may
      (record { found = it.found; next = next; is = right.0; written = h.written }) (λ none. in_time)
      (block_completes id ends h.block small (section_some h.fields h.head u.encoding h.table h.block h.section h.written)) outputs in
      let gone : Bool → View = λ f. part_gone id h.part (head_sent f ends (find_row u.inbound.rows id)) u.inbound.window (record u.encoding { table = h.table; limits = None }) (octets_of_frames (block_frames id ends h.block)) u in
      let told : Bool = is_final (Block h.fields ends) in
      subst (λ (w : View). IsGone setup run s u id ends w outputs put_out) (sym h.kept)
      (subst (λ f. IsGone setup run s u id ends (gone f) outputs put_out) right.1
      (subst (λ (o : List Output). IsGone setup run s u id ends (gone told) outputs o) (sym h.puts)
      (gone_by setup run s leads ends (gone told) outputs (put_frames outputs (block_frames id ends h.block))
      (active_then setup s.ledger.book.given s.tables s.windows run u None id may.active may.unended small h.part (head_sent told ends (find_row u.inbound.rows id)) u.inbound.window (record u.encoding { table = h.table; limits = None }) (octets_of_frames (block_frames id ends h.block)) ends refl)
      refl path)))

  -- So do octets.
  octets_go : (setup : Setup) (outputs : List Output) (ends : Bool) (v : View) (put_out : List Output) → AreOctetsSent u outputs id ends v put_out
      → (run : List Move) (s : State) → Leads setup run u balanced s → IsGone setup run s u id ends v outputs put_out
  octets_go setup outputs ends v put_out h run s leads =
      let may = may_send setup run s leads in
      let part_is : h.part ≡ Octets h.octets ends = octets_part h.part h.octets ends h.are in
      let next : IsNext it.stream.box (Octets h.octets ends) = subst (IsNext it.stream.box) part_is (chosen_next h.most it.stream.box h.part h.some (part_here h.most id u.offers.kept it.stream h.part it.found h.next)) in
      let path = data_path setup s.ledger.book.given s.tables s.windows run u (at setup run s leads) id may in_time h.octets ends it.stream it.found next (some_go it.stream.box h.octets ends next) h.few h.within outputs in
      let gone : Part → View = λ p. part_gone id p (data_sent (length h.octets) ends (find_row u.inbound.rows id)) (u.inbound.window -ℤ pos (length h.octets)) u.encoding (length (spell (data_frame id ends h.octets))) u in
      let out = put outputs (ToClient (spell (data_frame id ends h.octets))) in
      subst (λ (w : View). IsGone setup run s u id ends w outputs put_out) (sym h.kept)
      (subst (λ p. IsGone setup run s u id ends (gone p) outputs put_out) (sym part_is)
      (subst (λ (o : List Output). IsGone setup run s u id ends (gone (Octets h.octets ends)) outputs o) (sym h.puts)
      (gone_by setup run s leads ends (gone (Octets h.octets ends)) outputs out
      (active_then setup s.ledger.book.given s.tables s.windows run u None id may.active may.unended small (Octets h.octets ends) (data_sent (length h.octets) ends (find_row u.inbound.rows id)) (u.inbound.window -ℤ pos (length h.octets)) u.encoding (length (spell (data_frame id ends h.octets))) ends refl)
      refl path)))
    where
      octets_part : (part : Part) (octets : List ℕ) (last : Bool) → AreOctetsPart (Some part) octets last → part ≡ Octets octets last
      octets_part (Octets octets last) sent e are = ap (λ xs. Octets xs last) (sym are.0) ∙ ap (λ b. Octets sent b) (sym are.1)
      octets_part (Early head) sent e are = absurd are
      octets_part (Final head last) sent e are = absurd are
      octets_part (Trailing trailers) sent e are = absurd are

      -- octets go, or the end does
      some_go : (box : Outbox) (octets : List ℕ) (last : Bool) → IsNext box (Octets octets last) → (not (is_empty octets) || last) ≡ true
      some_go (Behind body whole) [] last next = next.3 refl
      some_go (Behind body whole) (octet ∷ octets) last next = refl
      some_go (Before (first ∷ interims) head body whole) octets last next = absurd next
      some_go (Before [] head body whole) octets last next = absurd next
      some_go Over octets last next = absurd next

  -- So do trailers.
  trailers_go : (setup : Setup) (outputs : List Output) (v : View) (put_out : List Output) → AreTrailersSent u outputs id v put_out
      → (run : List Move) (s : State) → Leads setup run u balanced s → IsGone setup run s u id true v outputs put_out
  trailers_go setup outputs v put_out h run s leads =
      let may = may_send setup run s leads in
      let part : Part = Trailing h.trailers in
      let next = chosen_next 1 it.stream.box part (omega arith) (part_here 1 id u.offers.kept it.stream part it.found h.next) in
      let block : Partial = record { id = id; ends = true; fragments = h.block } in
      let path = block_path setup s.ledger.book.given s.tables s.windows block h.trailers h.table part it.stream (block_frames id true h.block) run u None (at setup run s leads) may
      (record { found = it.found; next = next; is = (refl, refl, h.can_trail.plain); written = h.written }) (λ none. in_time)
      (block_completes id true h.block small (trailers_some h.trailers u.encoding h.table h.block h.can_trail.some h.written)) outputs in
      let gone : Bool → View = λ f. part_gone id part (head_sent f true (find_row u.inbound.rows id)) u.inbound.window (record u.encoding { table = h.table; limits = None }) (octets_of_frames (block_frames id true h.block)) u in
      let told : Bool = is_final (Block h.trailers true) in
      let out : List Output = put_frames outputs (block_frames id true h.block) in
      subst (λ (w : View). IsGone setup run s u id true w outputs put_out) (sym h.kept)
      (subst (λ f. IsGone setup run s u id true (gone f) outputs put_out) (never_final h.trailers true h.can_trail.plain)
      (subst (λ (o : List Output). IsGone setup run s u id true (gone told) outputs o) (sym h.puts)
      (gone_by setup run s leads true (gone told) outputs out
      (active_then setup s.ledger.book.given s.tables s.windows run u None id may.active may.unended small part (head_sent told true (find_row u.inbound.rows id)) u.inbound.window (record u.encoding { table = h.table; limits = None }) (octets_of_frames (block_frames id true h.block)) true refl)
      refl path)))

  -- So does a part of any kind.
  part_goes : (setup : Setup) (outputs : List Output) (ends : Bool) (v : View) (put_out : List Output) → IsPartSent u outputs id ends v put_out
      → (run : List Move) (s : State) → Leads setup run u balanced s → IsGone setup run s u id ends v outputs put_out
  part_goes setup outputs ends v put_out (inl head) run s leads = head_goes setup outputs head.0 ends v put_out head.1 run s leads
  part_goes setup outputs ends v put_out (inr (inl octets)) run s leads = octets_go setup outputs ends v put_out octets run s leads
  part_goes setup outputs ends v put_out (inr (inr (last, trailers))) run s leads =
      subst (λ b. IsGone setup run s u id b v outputs put_out) (sym last) (trailers_go setup outputs v put_out trailers run s leads)

  -- Behind it its stream is over where it ended that, and is reset where the client hasn't ended it.
  pub part_performs : (setup : Setup) (outputs : List Output) (ends : Bool) (v : View) (put_out : List Output) → IsPartSent u outputs id ends v put_out → (ends ≡ true → is_active v.inbound.rows id ≡ true → nat_lt most_untaken v.untaken ≡ false)
      → PerformsOwn setup u balanced outputs (if ends then ended id v else v) (behind ends) (if ends then put_at_end id v put_out else put_out)
  part_performs setup outputs ends v put_out sent free run s leads = ends_gone setup run s u id small v outputs put_out ends (part_goes setup outputs ends v put_out sent run s leads) free

  -- The last part went, and the stream ended: what waited of it goes back.
  pub ends_then : (setup : Setup) (outputs : List Output) (v : View) (put_out : List Output) → IsPartSent u outputs id true v put_out → (is_active v.inbound.rows id ≡ true → nat_lt most_untaken v.untaken ≡ false)
      → (dropped : ℕ) (w : View) (out_then : List Output) → dropped ≡ waiting_for id u → w ≡ ended id v → out_then ≡ put_at_end id v put_out → PerformsOwn setup u balanced outputs w (record balanced { shared = dropped }) out_then
  ends_then setup outputs v put_out sent free dropped w out_then waits kept puts =
      subst (λ (x : View). PerformsOwn setup u balanced outputs x (record balanced { shared = dropped }) out_then) (sym kept)
      (subst (λ n. PerformsOwn setup u balanced outputs (ended id v) (record balanced { shared = n }) out_then) (sym waits)
      (subst (λ (o : List Output). PerformsOwn setup u balanced outputs (ended id v) (record balanced { shared = waiting_for id u }) o) (sym puts) (part_performs setup outputs true v put_out sent (λ ends. free))))

  -- It went, and the reset of its stream can't: the connection ends.
  pub part_over : (setup : Setup) (outputs : List Output) (v : View) (put_out : List Output) → IsPartSent u outputs id true v put_out → is_active v.inbound.rows id ≡ true → (p : List Output) → IsCalmed v put_out p → EndsFrom setup u balanced outputs p
  part_over setup outputs v put_out sent on p calmed run s leads = gone_over setup run s u id small v outputs put_out (part_goes setup outputs true v put_out sent run s leads) on p calmed

-- The stream whose turn it is is active.
pub turn_active : (setup : Setup) (run : List Move) (s : State) (u : View) (pending : Pending) (id : ℕ) → Leads setup run u pending s → IsNextTurn u.offers.last (ready (windows_over u.inbound.rows u.inbound.first_size u.inbound.window) u.offers) (Some id) → is_active u.inbound.rows id ≡ true
turn_active setup run s u pending id leads turn =
    let windows = windows_over u.inbound.rows u.inbound.first_size u.inbound.window in
    let it = has_ready windows u.offers id turn in
    ap (λ (b : Book). is_active_in id (summary_in b)) (sym leads.keeps.book)
    ∙ ready_active setup run s leads.stands leads.so id it.stream (ap (λ (o : theory_responses.State). find id o.kept) leads.keeps.offers ∙ it.found) it.not_cut (are_open windows it.stream.id) it.can

-- one that is active was opened
pub active_has : (rows : List Row) (id : ℕ) → is_active rows id ≡ true → has rows id ≡ true
active_has rows id on = (and_parts (has rows id) (not (is_over_in (find_row rows id))) on).0
