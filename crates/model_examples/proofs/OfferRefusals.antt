-- Gateways whose own reply isn't what it should be: it stands behind interim heads that nobody sent, or what waited unsent goes out in
-- its place.
use Rattle.std.proofs.Common.{◌≡◌, ℕ, ◌≤◌, ◌<◌, true, false, List, [], ◌∷◌, ◌++◌, length, length-append, if◌then◌else◌, ◌==◌, refl, sym, ap, ◌∙◌, subst, inl, inr, arith}
use Rattle.std.specs.Prelude.{Option, Some, None, codes}
use Rattle.model.specs.Tables.{total_size, first_table}
use Rattle.model.specs.Messages.{Field, Item}
use Rattle.model.specs.Messages.Item.{Block}
use Rattle.model.specs.Logs.Event.{Up, UpFailed}
use Rattle.model.specs.Tapes.{Noted, Entry, sent}
use Rattle.model.specs.Tapes.Entry.{Came, Breached, Happened, Sent, Did}
use Rattle.model.specs.ResponseHeads.{Head}
use Rattle.model.specs.Deliveries.{Delivery, ReadsAs, IsPartOf}
use Rattle.model.specs.Decoding.{completed, Decodes}
use Rattle.model.specs.Streams.{frame_items}
use Rattle.model.specs.Available.{items_on}
use Rattle.model.specs.Setup.Passing.{Streaming}
use Rattle.model.specs.Known.{Known}
use Rattle.model.specs.Causes.{Cause, reply}
use Rattle.model.specs.Causes.Cause.{BadAnswer}
use Rattle.model.specs.Offers.{IsOffered, WasOffered, IsDelivered}
use Rattle.model.specs.Headline.{ClausesHold, HoldsInTurn}
use Rattle.model_examples.proofs.ResponseRefusals.{IsUnanswered, no_interims}
use Rattle.model.proofs.DeliveryReadings.{one_delivery}
use Rattle.model_examples.proofs.RowTapes.{by_whole, whole, frame, out_headed, field, got, hints, hints_block, bad_gateway, bad_gateway_block}
use Rattle.model_examples.proofs.RowBlocks.{begun_decodes, hints_spelled, bad_gateway_spelled}

-- ---- where what was delivered was on offer

abbrev items_at : ℕ → List Entry → List Item
items_at stream t = items_on stream (sent t)

more_items : (stream : ℕ) (e : Entry) (t : List Entry) → length (items_at stream t) ≤ length (items_at stream (e ∷ t))
more_items stream (Sent noted) t =
    let brings : List Item = (if noted.frame.id == stream then frame_items (completed (sent t) noted.frame) noted else []) in
    let longer = length-append (items_at stream t) brings in omega (arith, longer)
more_items stream (Came noted) t = omega arith
more_items stream (Breached breach) t = omega arith
more_items stream (Happened event) t = omega arith
more_items stream (Did act) t = omega arith

fewer_before : (stream : ℕ) (later earlier : List Entry) → length (items_at stream earlier) ≤ length (items_at stream (later ++ earlier))
fewer_before stream [] earlier = omega arith
fewer_before stream (e ∷ later) earlier =
    let step = more_items stream e (later ++ earlier) in let rest = fewer_before stream later earlier in omega (arith, step, rest)

-- Behind an entry that brings the stream something, what was on offer with nothing more behind it was on offer there.
offered_there : (known : Known) (stream : ℕ) (e : Entry) (t : List Entry) (delivery : Delivery) → length (items_at stream t) < length (items_at stream (e ∷ t))
    → (was : WasOffered known (e ∷ t) stream delivery) → IsOffered known (e ∷ t) stream was.source
offered_there known stream e t delivery brings was = at was.later was.is
  where
    at : (later : List Entry) → e ∷ t ≡ later ++ was.earlier → IsOffered known (e ∷ t) stream was.source
    at [] is = subst (λ (x : List Entry). IsOffered known x stream was.source) (sym is) was.offered
    at (f ∷ later) is =
        let rest : t ≡ later ++ was.earlier = cc in
        let fewer = fewer_before stream later was.earlier in
        let same : length (items_at stream (later ++ was.earlier)) ≡ length (items_at stream t) = ap (λ (x : List Entry). length (items_at stream x)) (sym rest) in
        let none = ap length was.no_more in
        absurd (omega (arith, brings, fewer, same, none))

-- ---- a reply behind interim heads that nobody sent

-- the upstream's connection failed
abbrev failed : Known
failed = record { setup = whole; failures = length got ∷ [] }

abbrev invented : List Entry
invented = out_headed (frame 1 4 1 hints_block) hints ∷ Happened (UpFailed 1) ∷ got

abbrev behind_invented : List Entry
behind_invented = out_headed (frame 1 5 1 bad_gateway_block) bad_gateway ∷ invented

-- the client reads both blocks
pub both_decode : Decodes (sent behind_invented) first_table
both_decode = (first_table, (first_table, begun_decodes, hints_spelled, refl), bad_gateway_spelled, refl)

abbrev hinted : Head
hinted = record { status = 103; fields = [] }

abbrev with_hints : Delivery
with_hints = record { interims = hinted ∷ []; head = Some (record { status = 502; fields = field (codes "content-length") (codes "0") ∷ [] }); body = []; ends = Some [] }

reads_hints : ReadsAs (items_at 1 behind_invented) with_hints
reads_hints = record {
  interim_items = Block hints false ∷ [];
  rest = Block bad_gateway true ∷ [];
  is = refl;
  interims = (record { digits = codes "103"; is = refl; three = refl; are_digits = refl; status = refl; no_other = refl }, omega arith, tt);
  answer = (record { digits = codes "502"; is = refl; three = refl; are_digits = refl; status = refl; no_other = refl }, omega arith, refl, refl, refl);
}

-- nothing is on offer there but the reply, before which nothing was sent
reply_alone : (source : Delivery) → IsOffered failed behind_invented 1 source → source.interims ≡ []
unfolding total_size
reply_alone source (inl replied) = ap (λ (d : Delivery). d.interims) replied.says
reply_alone source (inr passed) = elim passed.no_reply [
  | inl none ↦ absurd (let clash : ◌≡◌ {A = Option Cause} (Some BadAnswer) None = none in cc)
  | inr is_out ↦ absurd (let clash : false ≡ true = is_out in cc)
]

pub invents_hints : IsDelivered failed behind_invented 1 → ⊥
invents_hints d =
    let same = one_delivery (items_at 1 behind_invented) d.delivery with_hints d.reads reads_hints in
    elim d.offered [
      | inl none ↦ (let clash : ◌≡◌ {A = List Head} (hinted ∷ []) [] = ap (λ (x : Delivery). x.interims) (sym same ∙ none) in cc)
      | inr was ↦ (let source = reply_alone was.source (offered_there failed 1 _ invented d.delivery (omega arith) was) in
          let part : IsPartOf with_hints was.source = subst (λ (x : Delivery). IsPartOf x was.source) same was.part in
          let clash : ◌≡◌ {A = List Head} (hinted ∷ []) [] = part.interims ∙ source in cc)
    ]

-- ---- interim heads before the cause

-- Heads that nobody answered are told as sent before the frame that causes the reply behind them.
abbrev hinted_first : List Entry
hinted_first = out_headed (frame 1 4 1 hints_block) hints ∷ got

pub hints_decode : Decodes (sent hinted_first) first_table
hints_decode = (first_table, begun_decodes, hints_spelled, refl)

abbrev hints_alone : Delivery
hints_alone = record { interims = hinted ∷ []; head = None; body = []; ends = None }

reads_alone : ReadsAs (items_at 1 hinted_first) hints_alone
reads_alone = record {
  interim_items = Block hints false ∷ [];
  rest = [];
  is = refl;
  interims = (record { digits = codes "103"; is = refl; three = refl; are_digits = refl; status = refl; no_other = refl }, omega arith, tt);
  answer = (refl, refl, refl);
}

unanswered : IsUnanswered by_whole hinted_first 1
unfolding total_size
unanswered = record { no_cause = refl; silent = λ o is given. refl }

pub invents_before : (noted : Noted) → HoldsInTurn (ClausesHold by_whole) (Came noted ∷ hinted_first) → ⊥
invents_before noted c =
    let holds = c.0 in
    let d = holds.responses.delivered 1 in
    let same = one_delivery (items_at 1 hinted_first) d.delivery hints_alone d.reads reads_alone in
    let clash : ◌≡◌ {A = List Head} (hinted ∷ []) [] = ap (λ (x : Delivery). x.interims) (sym same) ∙ no_interims by_whole hinted_first 1 unanswered d in cc

-- ---- what waited, in place of the reply

-- a head came, and waits for its body; then the connection fails
abbrev waits : List Entry
waits = Happened (Up 1 (codes "HTTP/1.1 200 OK\r\nContent-Length: 20\r\n\r\n")) ∷ got

abbrev failed_later : Known
failed_later = record { setup = record whole { passing = Streaming }; failures = length waits ∷ [] }

abbrev ok : List Field
ok = field (codes ":status") (codes "200") ∷ field (codes "content-length") (codes "20") ∷ []

abbrev sent_late : List Entry
sent_late = out_headed (frame 1 4 1 (136 ∷ 15 ∷ 13 ∷ 2 ∷ 50 ∷ 48 ∷ [])) ok ∷ Happened (UpFailed 1) ∷ waits

abbrev late : Delivery
late = record { interims = []; head = Some (record { status = 200; fields = field (codes "content-length") (codes "20") ∷ [] }); body = []; ends = None }

reads_late : ReadsAs (items_at 1 sent_late) late
reads_late = record {
  interim_items = [];
  rest = Block ok false ∷ [];
  is = refl;
  interims = tt;
  answer = (record { digits = codes "200"; is = refl; three = refl; are_digits = refl; status = refl; no_other = refl }, omega arith, (refl, refl));
}

reply_then : (source : Delivery) → IsOffered failed_later sent_late 1 source → source.head ≡ (reply [] BadAnswer).head
unfolding total_size
reply_then source (inl replied) = ap (λ (d : Delivery). d.head) replied.says ∙ ap (λ (c : Option Cause). of_cause c) (sym replied.has_cause)
  where
    of_cause : Option Cause → Option Head
    of_cause None = None
    of_cause (Some cause) = (reply [] cause).head
reply_then source (inr passed) = elim passed.no_reply [
  | inl none ↦ absurd (let clash : ◌≡◌ {A = Option Cause} (Some BadAnswer) None = none in cc)
  | inr is_out ↦ absurd (let clash : false ≡ true = is_out in cc)
]

pub sends_what_waited : IsDelivered failed_later sent_late 1 → ⊥
sends_what_waited d =
    let same = one_delivery (items_at 1 sent_late) d.delivery late d.reads reads_late in
    elim d.offered [
      | inl none ↦ (let clash : ◌≡◌ {A = Option Head} late.head None = ap (λ (x : Delivery). x.head) (sym same ∙ none) in cc)
      | inr was ↦ (let source = reply_then was.source (offered_there failed_later 1 _ (Happened (UpFailed 1) ∷ waits) d.delivery (omega arith) was) in
          let part : IsPartOf late was.source = subst (λ (x : Delivery). IsPartOf x was.source) same was.part in
          let clash : (reply [] BadAnswer).head ≡ late.head = sym source ∙ part.head_is in
          let status : 502 ≡ 200 = ap (λ (h : Option Head). status_in h) clash in omega (arith, status))
    ]
  where
    status_in : Option Head → ℕ
    status_in None = 0
    status_in (Some head) = head.status
