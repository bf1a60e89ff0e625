-- What is held of a response's body is what the outbox of its stream has.
use Rattle.std.proofs.Common.{◌≡◌, ℕ, ◌+◌, Bool, true, false, ◌==◌, ◌||◌, List, [], ◌∷◌, ◌++◌, length, refl, sym, ap, subst, ◌∙◌, arith, length-append, if◌then◌else◌, inl, inr}
use Rattle.std.specs.Prelude.{Option, Some, None, is_some, ◌&&◌}
use Rattle.std.proofs.lemmas.Bool.Decides.{eqb_tells}
use Rattle.model.specs.Messages.{Item}
use Rattle.model.specs.Messages.Item.{Block, Content}
use Rattle.model.specs.Frames.{data_kind, headers_kind, continuation_kind, content, ends_stream}
use Rattle.model.specs.ResponseHeads.{Head}
use Rattle.model.specs.Tapes.{Note, Noted, Entry, sent}
use Rattle.model.specs.Tapes.Note.{NoBlock, Fields, Undecodable, Unread}
use Rattle.model.specs.Decoding.{Partial, completed}
use Rattle.model.specs.Streams.{block_items, frame_items}
use Rattle.model.specs.Openings.{Opened, exchange_on}
use Rattle.model.specs.Deliveries.{End, Delivery, ReadsAs, AreInterims, AreContents, IsAnsweredBy}
use Rattle.model.specs.Available.{heard_by, items_on}
use Rattle.model.specs.Known.{Known}
use Rattle.model.specs.WindowsOnTape.{is_on, is_any, data_length, data_octets}
use Rattle.theory_responses.specs.Outbox.{Outbox, offered_by, Fits}
use Rattle.theory_responses.specs.Outbox.Outbox.{Before, Behind, Over}
use Rattle.model.specs.Responses.{IsComplete}
use Rattle.model.specs.Idle.{is_asked_for_head, IsIdle}
use Rattle.theory_receive_windows.specs.Rooms.{HoldsBody}
use Rattle.theory_receive_windows.specs.Held.{body_in, AreUnpadded, HasOutbox}
use Rattle.theory_receive_windows.proofs.Tapes.{none_completed, data_on}

-- ---- octets of DATA that were sent

-- the octets that items bring
abbrev contents : List Item → ℕ
contents [] = 0
contents (Block fields ends ∷ items) = contents items
contents (Content octets ends ∷ items) = length octets + contents items

-- of items behind others
both : (a b : List Item) → contents (a ++ b) ≡ contents a + contents b
both [] b = omega arith
both (Block fields ends ∷ a) b = both a b
both (Content octets ends ∷ a) b = let more = both a b in omega (arith, more)

-- interim heads bring none
no_contents : (items : List Item) (heads : List Head) → AreInterims items heads → contents items ≡ 0
no_contents [] heads h = refl
no_contents (Block fields false ∷ items) (head ∷ heads) h = no_contents items heads h.2
no_contents (Block fields false ∷ items) [] h = absurd h
no_contents (Block fields true ∷ items) [] h = absurd h
no_contents (Block fields true ∷ items) (head ∷ heads) h = absurd h
no_contents (Content octets ends ∷ items) [] h = absurd h
no_contents (Content octets ends ∷ items) (head ∷ heads) h = absurd h

-- parts of a body bring it
body_contents : (items : List Item) (body : List ℕ) (end : End) → AreContents items body end → contents items ≡ length body
body_contents [] body end h = sym (ap length h.0)
body_contents (Block fields true ∷ items) body end h = ap contents h.0 ∙ sym (ap length h.1)
body_contents (Block fields false ∷ items) body end h = absurd h
body_contents (Content octets true ∷ items) body end h = let none : contents items ≡ 0 = ap contents h.0 in let same = ap length h.1 in omega (arith, none, same)
body_contents (Content octets false ∷ items) body end h =
    let more = body_contents items h.0 end h.2 in
    let same : length body ≡ length (octets ++ h.0) = ap length h.1 in
    let sum = length-append octets h.0 in
    omega (arith, more, same, sum)

-- a final head and what is behind it bring the body
answer_contents : (items : List Item) (head : Option Head) (body : List ℕ) (end : End) → IsAnsweredBy items head body end → contents items ≡ length body
answer_contents items None body end h = ap contents h.0 ∙ sym (ap length h.1)
answer_contents [] (Some head) body end h = absurd h
answer_contents (Block fields true ∷ items) (Some head) body end h = ap contents h.2 ∙ sym (ap length h.3)
answer_contents (Block fields false ∷ items) (Some head) body end h = body_contents items body end h.2
answer_contents (Content octets ends ∷ items) (Some head) body end h = absurd h

-- items bring the body that a client reads of them
read_contents : (items : List Item) (d : Delivery) → ReadsAs items d → contents items ≡ length d.body
read_contents items d r =
    let parts = both r.interim_items r.rest in
    let all : contents items ≡ contents (r.interim_items ++ r.rest) = ap contents r.is in
    let none = no_contents r.interim_items d.interims r.interims in
    let rest = answer_contents r.rest d.head d.body d.ends r.answer in
    omega (arith, parts, all, none, rest)

-- a header block brings none
block_contents : (block : Partial) (note : Note) → contents (block_items block note) ≡ 0
block_contents block NoBlock = refl
block_contents block (Fields fields) = refl
block_contents block Undecodable = refl
block_contents block Unread = refl

-- a frame brings its payload, where that has no padding
frame_contents : (before : List Noted) (noted : Noted) → (noted.frame.kind ≡ data_kind → length (content noted.frame) ≡ length noted.frame.payload) → contents (frame_items (completed before noted.frame) noted) ≡ data_length is_any noted.frame
frame_contents before noted bare = elim (eqb_tells noted.frame.kind data_kind) [
  | inl is ↦ (
      let none : completed before noted.frame ≡ None = none_completed before noted.frame (ap (λ k. k == headers_kind || k == continuation_kind) is.1) in
      let item : contents (frame_items (completed before noted.frame) noted) ≡ length (content noted.frame) + 0 = ap (λ b. contents (frame_items b noted)) none ∙ ap (λ b. contents (if b then Content (content noted.frame) (ends_stream noted.frame) ∷ [] else [])) is.0 in
      let size = bare is.1 in
      let counted : data_length is_any noted.frame ≡ length noted.frame.payload = ap (λ b. if b && true then length noted.frame.payload else 0) is.0 in
      omega (arith, item, size, counted)
      )
  | inr off ↦ by (completed before noted.frame) off.0 ∙ sym (ap (λ b. if b && true then length noted.frame.payload else 0) off.0)
]
  where
    by : (b : Option Partial) → (noted.frame.kind == data_kind) ≡ false → contents (frame_items b noted) ≡ 0
    by None off = ap (λ b. contents (if b then Content (content noted.frame) (ends_stream noted.frame) ∷ [] else [])) off
    by (Some block) off = block_contents block noted.note

-- all frames on a stream
sent_contents : (stream : ℕ) (frames : List Noted) → AreUnpadded frames → contents (items_on stream frames) ≡ data_octets (is_on stream) frames
sent_contents stream [] bare = refl
sent_contents stream (noted ∷ before) bare =
    let more = sent_contents stream before bare.1 in
    let own = frame_contents before noted bare.0 in
    let parts = both (items_on stream before) (if noted.frame.id == stream then frame_items (completed before noted.frame) noted else []) in
    let here = on_stream (noted.frame.id == stream) own in
    let count = data_on noted.frame stream in
    omega (arith, more, parts, here, count)
  where
    on_stream : (b : Bool) → contents (frame_items (completed before noted.frame) noted) ≡ data_length is_any noted.frame → contents (if b then frame_items (completed before noted.frame) noted else []) ≡ (if b then data_length is_any noted.frame else 0)
    on_stream true e = e
    on_stream false e = refl

-- ---- what is held

-- what was sent and what the outbox has is what is on offer
body_parts : (items : List Item) (read : Delivery) (box : Outbox) → ReadsAs items read → Fits read box → length (offered_by read box).body ≡ length read.body + length (body_in box)
body_parts items read (Before interims head body whole) r f = let none : length read.body ≡ 0 = headless read.head f r.answer in omega (arith, none)
  where
    headless : (h : Option Head) → h ≡ None → IsAnsweredBy r.rest h read.body read.ends → length read.body ≡ 0
    headless None e a = ap length a.1
    headless (Some h) e a = absurd (let no : true ≡ false = ap (λ (x : Option Head). is_some x) e in cc)
body_parts items read (Behind body whole) r f = length-append read.body body
body_parts items read Over r f = omega arith

module _ (known : Known) (t : List Entry) (k : ℕ) (box : Outbox) (h : HasOutbox known t k box) (bare : AreUnpadded (sent t)) where
  abbrev o : Opened
  o = exchange_on k t

  -- a connection of which the response isn't whole isn't idle
  pub busy : IsIdle known t k → ⊥
  busy i = h.begun.not_whole (subst (λ (b : Bool). IsComplete (heard_by o t) b (is_asked_for_head known o t)) (sym i.kept.not_ended) (i.kept.answered.response, i.kept.answered.reads))

  -- So much is held of the response.
  pub holds_body : HoldsBody known o t (length (body_in box))
  holds_body =
      let all = body_parts (items_on o.stream (sent t)) h.read box h.reads h.fits in
      let said : length (offered_by h.read box).body ≡ length h.begun.octets = ap (λ (d : Delivery). length d.body) h.begun.says in
      let counted : length h.read.body ≡ data_octets (is_on o.stream) (sent t) = sym (read_contents (items_on o.stream (sent t)) h.read h.reads) ∙ sent_contents o.stream (sent t) bare in
      record {
        interims = h.begun.interims;
        head = h.begun.head;
        octets = h.begun.octets;
        seen = h.begun.seen;
        is = omega (arith, all, said, counted);
      }
