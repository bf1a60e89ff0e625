-- Of a request whose head declares no length octets may come, and its end: where it waits behind octets that came, and where it goes out at once.
use Rattle.std.proofs.Common.{◌≡◌, ℕ, Bool, true, false, List, [], ◌++◌, length, Some, None, sym, ap, ◌∙◌, subst}
use Rattle.std.specs.Prelude.{Option}
use Rattle.std.specs.List.{concat}
use Rattle.model.specs.Messages.{Field}
use Rattle.model.specs.Http2.{HasLength}
use Rattle.request_rules.specs.Heads.{HeadParts}
use Rattle.h1_writer.specs.Sending.{Stage, HasRoom, piece_of}
use Rattle.h1_writer.specs.Sending.Stage.{Whole}
use Rattle.h1_writer.proofs.Wholes.{room_to_push}
use Rattle.request_buffer.specs.Going.{GoesOn}
use Rattle.request_buffer.proofs.Passing.{goes_further}
use Rattle.theory_requests.specs.Lines.{Line, least_idle}
use Rattle.theory_requests.specs.State.{Way, Held, Due, held_of, held_with, is_whole, unless_whole, to_begin}
use Rattle.theory_requests.specs.State.Way.{Waiting, Going}
use Rattle.theory_requests.specs.State.Due.{ToOpen}
use Rattle.upstream_connections.specs.declared.held.OutgoingRequest.{OutgoingRequest}
use Rattle.upstream_connections.specs.Requests.{stage_of, due_for, MayTakeOf, Takes, TakesBy}
use Rattle.upstream_connections.specs.Connections.{lives}
use Rattle.upstream_connections.specs.Kept.{State, Begins}
use Rattle.upstream_connections.proofs.Passed.{held_part}
use Rattle.upstream_connections.proofs.Waiting.{is_held, begun_held}

-- ---- it waits

module _ (old new : State) (id route : ℕ) (keep : Bool) (parts : HeadParts) (due : Due) (b : Begins old id route keep parts false false due new) (none : parts.length ≡ None) where
  -- behind octets that came
  pub may_take_behind : (ls : List Line) (more octets : List ℕ) (trailers : List Field) (ends : Bool) (told : Due) (hs : List Held) → Takes ls id more trailers false new.held (held_of id new.held) told hs → MayTakeOf octets ends (held_of id hs)
  may_take_behind ls more octets trailers ends told hs takes =
      let so : TakesBy ls id more trailers false new.held (Waiting route b.text b.stage []) told hs = subst (λ (o : Option Held). Takes ls id more trailers false new.held o told hs) (begun_held old new id route keep parts due b none) takes in
      let found : held_of id hs ≡ Some (record { id = id; way = Waiting route b.text b.stage more }) =
      ap (held_of id) (so.2 ∙ ap (λ (n : Option Way). held_with id n new.held) so.1.1) ∙ is_held id (Waiting route b.text b.stage more) new.held in
      subst (MayTakeOf octets ends) (sym found) (λ e. record {
        keep = keep;
        parts = parts;
        sending = b.sending;
        goes_on = λ whole. let clash : true ≡ false = sym (ap is_whole whole) ∙ b.whole in cc;
        has_length = subst (λ l. HasLength l (more ++ octets)) (sym none) tt;
      })

-- ---- it goes out

-- what isn't whole waits for something
not_whole : (stage : Stage) → is_whole stage ≡ false → stage ≡ Whole → ⊥
not_whole stage part e = let clash : true ≡ false = sym (ap is_whole e) ∙ part in cc

module _ (old new : State) (id route : ℕ) (keep : Bool) (parts : HeadParts) (outgoing : OutgoingRequest) (b : Begins old id route keep parts false true (due_for outgoing) new) (unkept : least_idle route (lives old.live) ≡ None) (none : parts.length ≡ None) where
  -- what is due is its own
  stream_is : outgoing.stream ≡ id
  stream_is = let same : ToOpen outgoing.stream outgoing.route outgoing.text (stage_of outgoing.rest) ≡ ToOpen id route b.text b.stage = b.due_is ∙ ap (λ (o : Option ℕ). to_begin o id route b.text b.stage) unkept in cc

  stage_is : stage_of outgoing.rest ≡ b.stage
  stage_is = let same : ToOpen outgoing.stream outgoing.route outgoing.text (stage_of outgoing.rest) ≡ ToOpen id route b.text b.stage = b.due_is ∙ ap (λ (o : Option ℕ). to_begin o id route b.text b.stage) unkept in cc

  module _ (k : ℕ) (hs : List Held) (opened : hs ≡ held_with outgoing.stream (unless_whole (stage_of outgoing.rest) (Going k (stage_of outgoing.rest))) new.held) where
    pub goes_out : held_of id hs ≡ Some (record { id = id; way = Going k b.stage })
    goes_out =
        ap (held_of id)
        (opened
        ∙ ap (λ n. held_with n (unless_whole (stage_of outgoing.rest) (Going k (stage_of outgoing.rest))) new.held) stream_is
        ∙ ap (λ (s : Stage). held_with id (unless_whole s (Going k s)) new.held) stage_is
        ∙ ap (λ (w : Option Way). held_with id w new.held) (held_part b.stage (Going k b.stage) (not_whole b.stage b.whole)))
        ∙ is_held id (Going k b.stage) new.held

    room : (octets : List ℕ) (pieces : List (List ℕ)) → HasRoom parts.length pieces (length octets)
    room octets pieces = subst (λ (o : Option ℕ). HasRoom o pieces (length octets)) (sym none) tt

    -- octets of its body may come, or its end
    pub may_go_out : (octets : List ℕ) (ends : Bool) → MayTakeOf octets ends (held_of id hs)
    may_go_out octets ends = subst (MayTakeOf octets ends) (sym goes_out) (record {
      keep = keep;
      parts = parts;
      ended = false;
      text = b.text;
      pieces = [];
      sending = b.sending;
      may_push = room_to_push keep parts false b.text [] b.stage (length octets) b.sending (not_whole b.stage b.whole) (room octets []);
      has_length = λ e. subst (λ (o : Option ℕ). HasLength o octets) (sym none) tt;
    })

    -- and more behind them
    pub may_go_further : (ls : List Line) (first octets : List ℕ) (trailers : List Field) (ends : Bool) (told : Due) (us : List Held) → Takes ls id first trailers false hs (held_of id hs) told us → MayTakeOf octets ends (held_of id us)
    may_go_further ls first octets trailers ends told us takes =
        let so : TakesBy ls id first trailers false hs (Going k b.stage) told us = subst (λ (o : Option Held). Takes ls id first trailers false hs o told us) goes_out takes in
        let passed = so.1 in
        let part : passed.stage ≡ Whole → ⊥ = not_whole passed.stage passed.whole in
        let found : held_of id us ≡ Some (record { id = id; way = Going k passed.stage }) =
        ap (held_of id) (so.2 ∙ ap (λ (w : Option Way). held_with id w hs) (passed.next_is ∙ held_part passed.stage (Going k passed.stage) part)) ∙ is_held id (Going k passed.stage) hs in
        let on : GoesOn b.stage first trailers false passed.written passed.stage = record { continues = passed.continues; whole = λ t. absurd (let clash : false ≡ true = t in cc); part = λ f. part } in
        subst (MayTakeOf octets ends) (sym found)
        (goes_further keep parts b.text b.stage passed.stage first passed.written octets trailers ends b.sending on (room octets (piece_of first)) (λ e. subst (λ (o : Option ℕ). HasLength o (concat (piece_of first) ++ octets)) (sym none) tt))
