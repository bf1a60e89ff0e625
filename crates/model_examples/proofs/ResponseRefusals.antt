-- Gateways that answer what they shouldn't: a stream without a cause of a reply, whose upstream said nothing, is sent no head.
use Rattle.std.proofs.Common.{◌≡◌, ℕ, Bool, true, false, List, [], ◌∷◌, ◌++◌, get_or, append_assoc, refl, sym, ap, ◌∙◌, subst, inl, inr, arith, if◌then◌else◌}
use Rattle.std.specs.Prelude.{Option, Some, None, codes}
use Rattle.model.specs.Messages.{Field, Item}
use Rattle.model.specs.Messages.Item.{Block, Content}
use Rattle.model.specs.Tables.{Table, first_table, static_table, look_up, total_size}
use Rattle.model.specs.Blocks as blocks
use Rattle.model.specs.Logs.Event.{Up, UpEnd}
use Rattle.model.specs.Logs.Act.{Open, Close}
use Rattle.model.specs.Tapes.{Note, Entry, sent}
use Rattle.model.specs.Tapes.Note.{NoBlock, Fields, Undecodable, Unread}
use Rattle.model.specs.Tapes.Entry.{Happened, Sent, Did}
use Rattle.model.specs.ResponseHeads.{Head}
use Rattle.model.specs.Openings.{Opened, exchanges, given, is_of}
use Rattle.model.specs.Logs.Act.{ToUp}
use Rattle.model.proofs.ExchangeLaws.{kept_in}
use Rattle.model.specs.Deliveries.{Delivery, ReadsAs, AreInterims, IsAnsweredBy, IsPart, IsPartOf}
use Rattle.model.specs.Available.{heard_by, ended_by, IsIn, IsShown}
use Rattle.model.specs.Known.{Known}
use Rattle.model.specs.Causes.{Cause}
use Rattle.model.specs.Courses.{course, items, first_of_both}
use Rattle.model.specs.Offers.{is_to_head, IsOffered, IsDelivered}
use Rattle.model.specs.ResponseClause.{ResponsesHold}
use Rattle.model.proofs.IntegerLemmas.{one_int}
use Rattle.model.proofs.BlockLemmas.{head_mark, literal_head}
use Rattle.model.proofs.OfferLemmas.{OffersNothing, nothing_begun, nothing_offered}
use Rattle.model.specs.Decoding.{Decodes}
use Rattle.model_examples.proofs.RowTapes.{by_whole, whole, frame, out, out_headed, getting, got, answer_text, ok_two, ok_block, bad_gateway, bad_gateway_block, field}
use Rattle.model_examples.proofs.RowBlocks.{begun_decodes, ok_spelled, bad_gateway_spelled, found_table, found_inserted, found_indexed}

-- ---- places of a tape before another

-- the first cause stays
cause_before : (known : Known) (stream : ℕ) (e : Entry) (t : List Entry) → (course known stream (e ∷ t)).cause ≡ None → (course known stream t).cause ≡ None
cause_before known stream e t none = stays (course known stream t).cause _ none
  where
    stays : (first later : Option Cause) → first_of_both first later ≡ None → first ≡ None
    stays None later e = refl
    stays (Some c) later e = e

pub cause_earlier : (known : Known) (stream : ℕ) (later earlier : List Entry) → (course known stream (later ++ earlier)).cause ≡ None → (course known stream earlier).cause ≡ None
cause_earlier known stream [] earlier none = none
cause_earlier known stream (e ∷ later) earlier none = cause_earlier known stream later earlier (cause_before known stream e (later ++ earlier) none)

nothing_before : (b : Bool) (text piece : List ℕ) → (if b then text ++ piece else text) ≡ [] → text ≡ []
nothing_before true [] piece e = refl
nothing_before true (octet ∷ text) piece e = cc
nothing_before false text piece e = e

heard_before : (o : Opened) (e : Entry) (t : List Entry) → heard_by o (e ∷ t) ≡ [] → heard_by o t ≡ []
heard_before o (Happened (Up j piece)) t none = nothing_before (is_of o j (given j (exchanges t))) (heard_by o t) piece none
heard_before o e t none = none

heard_earlier : (o : Opened) (later earlier : List Entry) → heard_by o (later ++ earlier) ≡ [] → heard_by o earlier ≡ []
heard_earlier o [] earlier none = none
heard_earlier o (e ∷ later) earlier none = heard_earlier o later earlier (heard_before o e (later ++ earlier) none)

opened_before : (o : Opened) (e : Entry) (t : List Entry) → IsIn o (exchanges t) → IsIn o (exchanges (e ∷ t))
opened_before o (Did (Open k route)) t is = inr is
opened_before o (Did (ToUp k octets)) t is = kept_in o k octets t is
opened_before o e t is = is

pub opened_earlier : (o : Opened) (later earlier : List Entry) → IsIn o (exchanges earlier) → IsIn o (exchanges (later ++ earlier))
opened_earlier o [] earlier is = is
opened_earlier o (e ∷ later) earlier is = opened_before o e (later ++ earlier) (opened_earlier o later earlier is)

-- ---- nothing on offer

-- no cause came for the stream, and nothing was heard of its connection
pub record IsUnanswered (known : Known) (t : List Entry) (stream : ℕ) : Type 0 where
  pub no_cause : (course known stream t).cause ≡ None
  pub silent : (o : Opened) → IsIn o (exchanges t) → o.stream ≡ stream → heard_by o t ≡ []

unanswered_earlier : (known : Known) (later earlier : List Entry) (stream : ℕ) → IsUnanswered known (later ++ earlier) stream → IsUnanswered known earlier stream
unanswered_earlier known later earlier stream u = record {
  no_cause = cause_earlier known stream later earlier u.no_cause;
  silent = λ o is given. heard_earlier o later earlier (u.silent o (opened_earlier o later earlier is) given);
}

none_offered : (known : Known) (t : List Entry) (stream : ℕ) (delivery : Delivery) → IsUnanswered known t stream → IsOffered known t stream delivery → OffersNothing delivery
none_offered known t stream delivery u (inl replied) = let clash : ◌≡◌ {A = Option Cause} None (Some replied.cause) = sym u.no_cause ∙ replied.has_cause in cc
none_offered known t stream delivery u (inr passed) =
    let none = u.silent passed.o passed.given.is_opened passed.given.is_given in
    answers (subst (λ (x : List ℕ). IsShown known.setup.passing x (ended_by passed.o t) (is_to_head (items known stream t)) delivery) none passed.shows)
  where
    answers : {ended to_head : Bool} → IsShown known.setup.passing [] ended to_head delivery → OffersNothing delivery
    answers {ended} {to_head} (inl all) = nothing_offered ended to_head delivery all
    answers {ended} {to_head} (inr part) = nothing_begun known.setup.passing ended to_head delivery part

pub no_head_of_nothing : (part all : Delivery) → OffersNothing all → IsPartOf part all → part.head ≡ None
no_head_of_nothing part all none is = at part.head is
  where
    at : (head : Option Head) → IsPart head part all → head ≡ None
    at None is = refl
    at (Some head) is = let clash : ◌≡◌ {A = Option Head} None (Some head) = sym none.1 ∙ is.head_is in cc

-- What the client reads there has no final head.
pub no_head : (known : Known) (t : List Entry) (stream : ℕ) → IsUnanswered known t stream → (d : IsDelivered known t stream) → d.delivery.head ≡ None
no_head known t stream u d = elim d.offered [
  | inl none ↦ ap (λ (x : Delivery). x.head) none
  | inr was ↦ no_head_of_nothing d.delivery was.source (none_offered known was.earlier stream was.source (unanswered_earlier known was.later was.earlier stream (subst (λ (x : List Entry). IsUnanswered known x stream) was.is u)) was.offered) was.part
]

no_interims_of_nothing : (part all : Delivery) → OffersNothing all → IsPartOf part all → part.interims ≡ []
no_interims_of_nothing part all none is = at part.head is
  where
    none_in : (xs ys : List Head) → [] ≡ xs ++ ys → xs ≡ []
    none_in [] ys e = refl
    none_in (x ∷ xs) ys e = cc

    at : (head : Option Head) → IsPart head part all → part.interims ≡ []
    at None is = none_in part.interims is.more (sym none.0 ∙ is.interims)
    at (Some head) is = is.interims ∙ none.0

-- Nor has it interim heads.
pub no_interims : (known : Known) (t : List Entry) (stream : ℕ) → IsUnanswered known t stream → (d : IsDelivered known t stream) → d.delivery.interims ≡ []
no_interims known t stream u d = elim d.offered [
  | inl none ↦ ap (λ (x : Delivery). x.interims) none
  | inr was ↦ no_interims_of_nothing d.delivery was.source (none_offered known was.earlier stream was.source (unanswered_earlier known was.later was.earlier stream (subst (λ (x : List Entry). IsUnanswered known x stream) was.is u)) was.offered) was.part
]

-- ---- wrong gateways

-- items that are one whole head are no interim heads
one_block_reads : (fields : List Field) (delivery : Delivery) → ReadsAs (Block fields true ∷ []) delivery → delivery.head ≡ None → ⊥
one_block_reads fields delivery r none = at r.interim_items r.rest delivery.interims r.is r.interims (subst (λ h. IsAnsweredBy r.rest h delivery.body delivery.ends) none r.answer)
  where
    at : (front rest : List Item) (heads : List Head) → Block fields true ∷ [] ≡ front ++ rest → AreInterims front heads → IsAnsweredBy rest None delivery.body delivery.ends → ⊥
    at [] rest heads e i a = let clash : Block fields true ∷ [] ≡ (let none : List Item = [] in none) = e ∙ a.0 in cc
    at (Content octets ends ∷ front) rest heads e i a = cc
    at (Block fs true ∷ front) rest [] e i a = i
    at (Block fs true ∷ front) rest (head ∷ heads) e i a = i
    at (Block fs false ∷ front) rest heads e i a = cc

-- nor are a head and octets behind it
body_reads : (fields : List Field) (octets : List ℕ) (ends : Bool) (delivery : Delivery) → ReadsAs (Block fields false ∷ Content octets ends ∷ []) delivery → delivery.head ≡ None → ⊥
body_reads fields octets ends delivery r none = at r.interim_items r.rest delivery.interims r.is r.interims (subst (λ h. IsAnsweredBy r.rest h delivery.body delivery.ends) none r.answer)
  where
    at : (front rest : List Item) (heads : List Head) → Block fields false ∷ Content octets ends ∷ [] ≡ front ++ rest → AreInterims front heads → IsAnsweredBy rest None delivery.body delivery.ends → ⊥
    at [] rest heads e i a = let clash : Block fields false ∷ Content octets ends ∷ [] ≡ (let none : List Item = [] in none) = e ∙ a.0 in cc
    at (first ∷ []) rest heads e i a = let clash : Content octets ends ∷ [] ≡ rest = cc in let again : Content octets ends ∷ [] ≡ (let none : List Item = [] in none) = clash ∙ a.0 in cc
    at (first ∷ Block fs end ∷ front) rest heads e i a = cc
    at (Block fs false ∷ Content os end ∷ front) rest [] e i a = i
    at (Block fs false ∷ Content os end ∷ front) rest (head ∷ []) e i a = i.2
    at (Block fs false ∷ Content os end ∷ front) rest (head ∷ next ∷ heads) e i a = i.2
    at (Block fs true ∷ Content os end ∷ front) rest heads e i a = cc
    at (Content os end ∷ Content ps end' ∷ front) rest heads e i a = cc

-- It answers 502 to everything: the request was sent on, and nothing was heard yet. Whatever is said of failures, there is no
-- event at which one could be.
abbrev pub answers_itself : List Entry
answers_itself = out_headed (frame 1 5 1 bad_gateway_block) bad_gateway ∷ Did (Close 1) ∷ got

-- the client reads its block
pub reply_decodes : Decodes (sent answers_itself) first_table
reply_decodes = (first_table, begun_decodes, bad_gateway_spelled, refl)

pub bad_gateway_to_all : (failures : List ℕ) → ResponsesHold (record { setup = whole; failures = failures }) answers_itself → ⊥
unfolding total_size
bad_gateway_to_all failures c =
    let d = c.delivered 1 in
    one_block_reads bad_gateway d.delivery d.reads (no_head (record { setup = whole; failures = failures }) answers_itself 1 (record { no_cause = refl; silent = silent }) d)
  where
    silent : (o : Opened) → IsIn o (exchanges answers_itself) → o.stream ≡ 1 → heard_by o answers_itself ≡ []
    silent o is given = refl

-- It sends stream 3 what the upstream of stream 1 answered.
abbrev pub swapped : List Entry
swapped = out (frame 0 1 3 (codes "hi")) ∷ out_headed (frame 1 4 3 ok_block) ok_two ∷ Did (Close 1) ∷ Happened (Up 1 answer_text) ∷ getting 2 3 got

pub swapped_decodes : Decodes (sent swapped) first_table
swapped_decodes = (first_table, (first_table, begun_decodes, ok_spelled, refl), (refl, refl), refl)

pub swaps : ResponsesHold by_whole swapped → ⊥
unfolding total_size
swaps c =
    let d = c.delivered 3 in
    body_reads ok_two (codes "hi") true d.delivery d.reads (no_head by_whole swapped 3 (record { no_cause = refl; silent = silent }) d)
  where
    silent : (o : Opened) → IsIn o (exchanges swapped) → o.stream ≡ 3 → heard_by o swapped ≡ []
    silent o (inl same) given = subst (λ (p : Opened). heard_by p swapped ≡ []) (sym same) refl
    silent o (inr (inl same)) given = let clash : 1 ≡ 3 = sym (ap (λ (p : Opened). p.stream) same) ∙ given in absurd (omega (arith, clash))
    silent o (inr (inr none)) given = absurd none

-- It drops a block that it encoded, whose field went into its table: the next block has an index that the client's table hasn't.
indexes_nothing : (front rest : List ℕ) (f : Field) (next : Table) → 190 ∷ [] ≡ front ++ rest → blocks.Represents first_table front f next → ⊥
unfolding static_table
indexes_nothing front rest f next e (inl p) =
    let same = one_int 7 (190 ∷ []) front [] rest 62 p.index (inl (record { first = 190; is = refl; low_bits = refl; not_ones = omega arith })) p.marked.int e in
    let clash : ◌≡◌ {A = Option Field} None (Some f) = ap (look_up first_table) same.1 ∙ p.found in cc
indexes_nothing front rest f next e (inr (inl p)) = let i = literal_head 6 1 first_table front rest f p.literal in let h = ap (λ (o : List ℕ). get_or o 0 0) e in omega (arith, i, h)
indexes_nothing front rest f next e (inr (inr (inl p))) = let i = literal_head 4 0 first_table front rest f p.literal in let h = ap (λ (o : List ℕ). get_or o 0 0) e in omega (arith, i, h)
indexes_nothing front rest f next e (inr (inr (inr p))) = let i = literal_head 4 1 first_table front rest f p.literal in let h = ap (λ (o : List ℕ). get_or o 0 0) e in omega (arith, i, h)

no_block : (fields : List Field) (next : Table) → blocks.Block first_table (190 ∷ []) fields next → ⊥
no_block fields next b = let p = b.is_block in from p.front p.rest p.between b.maxima fields p.is p.are_maxima p.are_fields
  where
    from : (front rest : List ℕ) (between : Table) (maxima : List ℕ) (fs : List Field) → 190 ∷ [] ≡ front ++ rest → blocks.AreMaxima first_table front maxima between → blocks.AreFields between rest fs next → ⊥
    from front rest between (m ∷ ms) fs e a f =
        let i = head_mark 5 1 a.0 (a.1 ++ rest) m a.3.marked in
        let h = ap (λ (o : List ℕ). get_or o 0 0) (e ∙ ap (λ o. o ++ rest) a.2 ∙ append_assoc a.0 a.1 rest) in
        omega (arith, i, h)
    from front rest between [] [] e a f = let clash : 190 ∷ [] ≡ (let none : List ℕ = [] in none) = e ∙ ap (λ o. o ++ rest) a.0 ∙ f.0 in cc
    from front rest between [] (g ∷ gs) e a f =
        indexes_nothing f.0 f.1 g f.2 (e ∙ ap (λ o. o ++ rest) a.0 ∙ f.3) (subst (λ table. blocks.Represents table f.0 g f.2) a.1 f.4)

-- both upstreams answered the same
abbrev pub found_text : List ℕ
found_text = codes "HTTP/1.1 302 Found\r\n\r\n"

abbrev pub both_found : List Entry
both_found = Did (Close 2) ∷ Happened (UpEnd 2) ∷ Happened (Up 2 found_text) ∷ Did (Close 1) ∷ Happened (UpEnd 1) ∷ Happened (Up 1 found_text) ∷ getting 2 3 got

abbrev pub behind_dropped : Note → List Entry
behind_dropped note = Sent (record { frame = frame 1 5 3 (190 ∷ []); note = note }) ∷ both_found

abbrev pub found : List Field
found = field (codes ":status") (codes "302") ∷ []

abbrev pub behind_sent : List Entry
behind_sent = out_headed (frame 1 5 3 (190 ∷ [])) found ∷ out_headed (frame 1 5 1 (72 ∷ 3 ∷ codes "302")) found ∷ both_found

-- behind the block of the first response it can be read
pub sends_block : Decodes (sent behind_sent) found_table
sends_block = (found_table, (first_table, begun_decodes, found_inserted, refl), found_indexed, refl)

pub drops_block : (known : Known) (note : Note) → ResponsesHold known (behind_dropped note) → ⊥
drops_block known (Fields fields) c =
    let d = c.decodes in
    no_block fields c.table (subst (λ table. blocks.Block table (190 ∷ []) fields c.table) (d.1.2.1 ∙ d.1.1.2.1 ∙ d.1.1.1) d.2)
drops_block known NoBlock c = c.decodes.2
drops_block known Undecodable c = let clash : false ≡ true = c.decoded in cc
drops_block known Unread c = let clash : false ≡ true = c.decoded in cc
