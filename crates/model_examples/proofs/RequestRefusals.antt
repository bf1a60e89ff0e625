-- Gateways that send upstream what they shouldn't.
use Rattle.std.proofs.Common.{◌≡◌, ℕ, Bool, true, false, ◌||◌, ◌==◌, List, [], ◌∷◌, ◌++◌, length, append-nil, refl, subst, arith, sym, ap, ◌∙◌, inl, inr, if◌then◌else◌}
use Rattle.std.specs.Prelude.{Option, Some, None, is_some, codes, slice_index}
use Rattle.std.proofs.lemmas.Bool.Decides.{eqb_tells}
use Rattle.std.proofs.lemmas.List.{append_cancel_left}
use Rattle.model.specs.Octets.{some_of, is_token_octet, is_value, lower}
use Rattle.model.specs.Messages.{Field, Item}
use Rattle.model.specs.Messages.Item.{Block}
use Rattle.model.specs.Http1.{crlf, Line, Framed, Head, H1Head, values_of}
use Rattle.model.specs.Frames.{headers_kind}
use Rattle.model.specs.Http2.{HasHead, MayBecome, request_of}
use Rattle.model.specs.Tapes.{Noted, Entry, came}
use Rattle.model.specs.Tapes.Entry.{Came}
use Rattle.model.specs.Decoding.{Partial, completed}
use Rattle.model.specs.StreamStates.{verdict}
use Rattle.model.specs.StreamStates.Standing.{Beyond}
use Rattle.model.specs.Errors.{Fault, first_of, or_else}
use Rattle.model.specs.Errors.Fault.{Connection, Stream, Discarded}
use Rattle.model.specs.Streams.{is_ended_by, is_reset, items_of}
use Rattle.model.specs.Openings.{Opened}
use Rattle.model.specs.Setup.{own_window}
use Rattle.model.specs.Known.{Known}
use Rattle.model.specs.Lifetimes.{active, standing_on}
use Rattle.model.specs.Malformed.{Carried}
use Rattle.model.specs.ErrorTable.{fault_of, fault_on, judged, unless_of_stream, row_closed, rows_before_block, rows_behind_block, fault_with, row_block, row_stream_update, row_stream_data, row_refused, row_malformed, row_no_goaway}
use Rattle.model.specs.Courses.{course, carried, items, interrupts, new_cause}
use Rattle.model.specs.RequestClause.{IsServed, IsSentInPart, IsSent}
use Rattle.model.proofs.OpenLaws.{one_alone, whole_alone, part_alone}
use Rattle.model.proofs.Http1Readings.{one_head}
use Rattle.model_examples.proofs.RowTapes.{field}
use Rattle.model_examples.proofs.Http1Examples.{both_lines, both_framings}

-- Whatever the tape, a connection that was sent both framing lines is refused, on an unfinished stream as on a whole one.
pub both_framing_lines : (known : Known) (t : List Entry) (o : Opened) (text : List ℕ) → text ≡ both_lines → IsSent known t (o ∷ []) text → ⊥
both_framing_lines known t o text sent (inl whole) = let r = (whole_alone known t o text whole).reads in absurd (both_framings [] r.front [] _ r.are_requests (append-nil both_lines ∙ sym sent ∙ r.is))
both_framing_lines known t o text sent (inr p) =
    let part = part_alone known t o text p in
    let may = part.some in
    let more = part.goes_on may.0 may.1 in
    absurd (both_framings (more.is_front.next ∷ more.is_front.rest) more.whole [] _ (one_alone more.whole _ more.all.reads) (ap (λ x. x ++ more.is_front.next ∷ more.is_front.rest) (sym sent) ∙ sym more.is_front.is ∙ sym (append-nil more.whole)))

-- A connection that was given to a stream without items is refused.
pub without_items : (known : Known) (t : List Entry) (o : Opened) → items known o.stream t ≡ [] → IsServed known t o → ⊥
without_items known t o none s = at (items known o.stream t) none s.has_head
  where
    at : (list : List Item) → list ≡ [] → HasHead list s.head → ⊥
    at [] e h = h
    at (item ∷ list) e h = cc

-- ---- a stream above the last id that was announced

behind_rows : (before behind : List (Option Fault)) → (found : Fault) × (first_of behind ≡ Some found) → (found : Fault) × (first_of (before ++ behind) ≡ Some found)
behind_rows [] behind f = f
behind_rows (None ∷ before) behind f = behind_rows before behind f
behind_rows (Some fault ∷ before) behind f = (fault, refl)

-- A header block on such an id is a fault, whatever else is wrong: none, one of the connection, or nothing comes of it.
is_fault : (own : ℕ) (kept : Carried) (t : List Entry) (noted : Noted) (block : Partial) → completed (came t) noted.frame ≡ Some block → standing_on t noted.frame.id ≡ Beyond → (found : Fault) × (fault_with own kept t (Came noted) ≡ Some found)
is_fault own kept t noted block whole above =
    let f = behind_rows (rows_before_block t (Came noted)) (rows_behind_block own t (Came noted)) (behind (row_block t (Came noted))) in
    (f.0, ap (λ first. or_else first (row_malformed kept t (Came noted))) f.1)
  where
    closed : row_closed t (Came noted) ≡ Some Discarded
    closed =
        ap (λ p. unless_of_stream (fault_on t noted.frame.id (judged p noted.frame))) whole
        ∙ ap (λ s. unless_of_stream (fault_of (verdict (length (active t)) s headers_kind))) above

    behind : (first : Option Fault) → (found : Fault) × (first_of (first ∷ row_closed t (Came noted) ∷ row_stream_update t (Came noted) ∷ row_stream_data own t (Came noted) ∷ row_refused t (Came noted) ∷ row_no_goaway t (Came noted) ∷ []) ≡ Some found)
    behind (Some fault) = (fault, refl)
    behind None = (Discarded, ap (λ r. first_of (r ∷ row_stream_update t (Came noted) ∷ row_stream_data own t (Came noted) ∷ row_refused t (Came noted) ∷ row_no_goaway t (Came noted) ∷ [])) closed)

-- any fault on a stream ends its items
ends_items : (found : Fault) → is_ended_by true (Some found) ≡ true
ends_items (Connection code) = refl
ends_items (Stream code) = refl
ends_items Discarded = refl

same_id : (n : ℕ) → (n == n) ≡ true
same_id n = elim (eqb_tells n n) [ inl same ↦ same.0 | inr apart ↦ absurd (apart.1 refl) ]

either : (b i : Bool) → i ≡ true → (b || i) ≡ true
either true i e = refl
either false i e = e

-- It brings its stream no item, so no connection may be given to that.
pub above_last : (known : Known) (t : List Entry) (noted : Noted) (block : Partial) → completed (came t) noted.frame ≡ Some block → standing_on t noted.frame.id ≡ Beyond → items known noted.frame.id t ≡ [] → items known noted.frame.id (Came noted ∷ t) ≡ []
above_last known t noted block whole above none =
    let before = course known noted.frame.id t in
    let found = fault_with (own_window known.setup) (carried before) t (Came noted) in
    let cause = new_cause known noted.frame.id t (Came noted) before found in
    let f = is_fault (own_window known.setup) (carried before) t noted block whole above in
    let ended : is_ended_by (noted.frame.id == noted.frame.id) found ≡ true = ap (λ b. is_ended_by b found) (same_id noted.frame.id) ∙ ap (is_ended_by true) f.1 ∙ ends_items f.0 in
    let stops : interrupts noted.frame.id (Came noted) found cause ≡ true = ap (λ b. b || is_reset noted.frame.id (Came noted) || is_some cause) ended in
    ap (λ b. if b then before.items else before.items ++ items_of noted.frame.id t (Came noted)) (either before.over (interrupts noted.frame.id (Came noted) found cause) stops) ∙ none

-- ---- octets that the client didn't send

abbrev pub five : List Field
five =
    field (codes ":method") (codes "POST")
    ∷ field (codes ":scheme") (codes "http")
    ∷ field (codes ":path") (codes "/")
    ∷ field (codes ":authority") (codes "a")
    ∷ field (codes "content-length") (codes "5")
    ∷ []

-- indices 3, 6 and 4, and the names at the indices 1 and 28 with values that aren't inserted
abbrev pub five_block : List ℕ
five_block = 131 ∷ 134 ∷ 132 ∷ 1 ∷ 1 ∷ 97 ∷ 15 ∷ 13 ∷ 1 ∷ 53 ∷ []

abbrev pub five_text : List ℕ
five_text = codes "POST / HTTP/1.1\r\nhost: a\r\nvia: 2.0 h2gw\r\ncontent-length: 5\r\nconnection: close\r\n\r\n"

abbrev pub five_head : Head
five_head = record {
  method = codes "POST";
  target = codes "/";
  fields = field (codes "host") (codes "a") ∷ field (codes "via") (codes "2.0 h2gw") ∷ field (codes "content-length") (codes "5") ∷ field (codes "connection") (codes "close") ∷ [];
}

line : (name value : List ℕ) → some_of is_token_octet name ≡ true → is_value value ≡ true → Line (name ++ 58 ∷ (32 ∷ []) ++ value ++ [] ++ crlf) (field (lower name) value)
line name value token good = record { name = name; before = 32 ∷ []; after = []; is = refl; is_token = token; space_before = refl; is_value = good; space_after = refl; is_named = refl }

pub has_five_head : H1Head five_text five_head
has_five_head = record {
  lines = codes "host: a\r\nvia: 2.0 h2gw\r\ncontent-length: 5\r\nconnection: close\r\n";
  is = refl;
  method = refl;
  target = refl;
  are_lines = (
    codes "host: a\r\n",
    codes "via: 2.0 h2gw\r\ncontent-length: 5\r\nconnection: close\r\n",
    line (codes "host") (codes "a") refl refl,
    refl,
    (
      codes "via: 2.0 h2gw\r\n",
      codes "content-length: 5\r\nconnection: close\r\n",
      line (codes "via") (codes "2.0 h2gw") refl refl,
      refl,
      (
        codes "content-length: 5\r\n",
        codes "connection: close\r\n",
        line (codes "content-length") (codes "5") refl refl,
        refl,
        (codes "connection: close\r\n", [], line (codes "connection") (codes "close") refl refl, refl, refl),
      ),
    ),
  );
}

-- the request may still get five letters a
may_get : MayBecome (Block five false ∷ []) (request_of five (codes "aaaaa") [])
may_get = record { head = five; has_head = refl; begun = record { rest = codes "aaaaa"; is = refl }; length_holds = refl; trailers = []; well_formed = record { no_pseudo_field = refl; names_hold = refl; values_hold = refl; no_connection_field = refl }; is = refl }

-- Its head is sent, and behind it an octet, though no DATA came.
pub invents : (known : Known) (t : List Entry) (o : Opened) → items known o.stream t ≡ Block five false ∷ [] → IsSentInPart known t o [] (five_text ++ codes "z") → ⊥
invents known t o has p =
    let part = part_alone known t o (five_text ++ codes "z") p in
    let on = part.goes_on (request_of five (codes "aaaaa") []) (subst (λ (l : List Item). MayBecome l (request_of five (codes "aaaaa") [])) (sym has) may_get) in
    let r = one_alone on.whole _ on.all.reads in
    let more : List ℕ = on.is_front.next ∷ on.is_front.rest in
    let whole : five_text ++ (codes "z" ++ more) ≡ r.head_text ++ r.content = sym on.is_front.is ∙ r.is in
    let same = one_head five_text r.head_text (codes "z" ++ more) r.content five_head r.head has_five_head r.has_head whole in
    let rest : codes "z" ++ more ≡ r.content = append_cancel_left r.head_text (codes "z" ++ more) r.content (ap (λ x. x ++ (codes "z" ++ more)) (sym same.0) ∙ whole) in
    let framed : Framed (values_of (codes "content-length") five_head.fields) (values_of (codes "transfer-encoding") five_head.fields) r.content (codes "aaaaa") [] = subst (λ (h : Head). Framed (values_of (codes "content-length") h.fields) (values_of (codes "transfer-encoding") h.fields) r.content (codes "aaaaa") []) (sym same.1) r.body in
    let clash : 122 ≡ 97 = ap (λ (x : List ℕ). slice_index x 0) (rest ∙ framed.0.is) in
    omega (arith, clash)
