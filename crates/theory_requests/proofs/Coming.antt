-- A text that isn't whole has, with at most one octet more, all octets of the body that came, and its chunks are whole.
use Rattle.std.proofs.Common.{◌≡◌, ℕ, ◌+◌, Bool, true, false, List, [], ◌∷◌, ◌++◌, length, not, refl, sym, ap, ◌∙◌, subst, append-nil, append_assoc}
use Rattle.std.proofs.lemmas.Bool.{cond-false}
use Rattle.std.proofs.lemmas.List.{append_cancel_left, length-replicate}
use Rattle.std.specs.Prelude.{Some, None, codes, bytes_eq, replicate}
use Rattle.std.specs.List.{concat, flat_map, list_all}
use Rattle.model.specs.Messages.{Field, Item, Request}
use Rattle.model.specs.Octets.{Joined}
use Rattle.model.specs.Http1.{Head, Chunk, values_of, via, HasBody, HasCome, KeptBack}
use Rattle.model.specs.Http1Text.{framing_of, closing, written_fields, head_text, chunk_text}
use Rattle.model.specs.Http2.{body_of}
use Rattle.model.specs.RequestClause.{AreWholeChunks, EndsWithChunks}
use Rattle.model.proofs.Http1Readings.{one_head}
use Rattle.model.proofs.Http1Texts.{can_send, has_line, Apart, apart, all_weaker, values_of-append, values_none, IsSendable, head_read}
use Rattle.model.proofs.Http2Sends.{head_sendable}
use Rattle.request_rules.specs.Heads.{parts_of, request_with}
use Rattle.h1_writer.specs.Sending.{Stage, Sending, head_of}
use Rattle.h1_writer.specs.Sending.Stage.{Whole, Counting, Holding, Chunking}
use Rattle.h1_writer.proofs.Written.{length_frames, declared_fits, chunks_read}
use Rattle.theory_requests.specs.Written.{IsWritten}
use Rattle.theory_requests.proofs.Trailing.{bare}

-- what has octets of a body in it, by the lines of its head, is whole chunks where they say so
chunks_by : (lengths codings : List (List ℕ)) (extra rest octets : List ℕ) → KeptBack extra lengths octets → HasBody lengths codings (rest ++ extra) octets → AreWholeChunks codings rest
chunks_by lengths [] extra rest octets back body = tt
chunks_by [] (coding ∷ []) [] rest octets back body = (body.1.chunks, subst (λ (x : List ℕ). Joined Chunk x body.1.chunks) (append-nil rest) body.1.are_chunks)
chunks_by [] (coding ∷ []) (octet ∷ []) rest octets back body = absurd back
chunks_by [] (coding ∷ []) (octet ∷ next ∷ more) rest octets back body = absurd back
chunks_by [] (coding ∷ other ∷ codings) extra rest octets back body = absurd body
chunks_by (digits ∷ []) (coding ∷ codings) extra rest octets back body = absurd body
chunks_by (digits ∷ others ∷ lengths) (coding ∷ codings) extra rest octets back body = absurd body

-- so the chunks of a text in which all octets stand that came are whole
pub come_in_chunks : (text octets : List ℕ) → HasCome text octets → EndsWithChunks text
come_in_chunks text octets c head_text rest head is has =
    let whole : head_text ++ (rest ++ c.extra) ≡ c.head_text ++ c.rest = sym (append_assoc head_text rest c.extra) ∙ ap (λ (x : List ℕ). x ++ c.extra) (sym is) ∙ c.is in
    let same = one_head head_text c.head_text (rest ++ c.extra) c.rest head c.head has c.has_head whole in
    let behind : rest ++ c.extra ≡ c.rest = append_cancel_left head_text (rest ++ c.extra) c.rest (whole ∙ ap (λ (x : List ℕ). x ++ c.rest) (sym same.0)) in
    let body : HasBody (values_of (codes "content-length") c.head.fields) (values_of (codes "transfer-encoding") c.head.fields) (rest ++ c.extra) octets =
    subst (λ (x : List ℕ). HasBody (values_of (codes "content-length") c.head.fields) (values_of (codes "transfer-encoding") c.head.fields) x octets) (sym behind) c.has_body in
    subst (λ (h : Head). AreWholeChunks (values_of (codes "transfer-encoding") h.fields) rest) (sym same.1)
    (chunks_by (values_of (codes "content-length") c.head.fields) (values_of (codes "transfer-encoding") c.head.fields) c.extra rest octets c.kept_back body)

-- what lines of a name are written beside those of the framing
written_values : (keep : Bool) (name : List ℕ) (request : Request) (framing : List Field) → bytes_eq (codes "host") name ≡ false → bytes_eq (codes "connection") name ≡ false → bytes_eq (codes "via") name ≡ false → values_of name request.fields ≡ [] → values_of name (written_fields keep request framing) ≡ values_of name framing
written_values keep name request framing no_host no_close no_via none =
    let last : values_of name (closing keep) ≡ [] = none_closing keep in
    let middle : values_of name (via ∷ framing) ≡ values_of name framing = cond-false (bytes_eq (codes "via") name) (via.value ∷ values_of name framing) (values_of name framing) no_via in
    cond-false (bytes_eq (codes "host") name) (request.authority ∷ values_of name (request.fields ++ via ∷ framing ++ closing keep)) (values_of name (request.fields ++ via ∷ framing ++ closing keep)) no_host
    ∙ values_of-append name (request.fields ++ via ∷ framing) (closing keep)
    ∙ ap (λ (vs : List (List ℕ)). vs ++ values_of name (closing keep)) (values_of-append name request.fields (via ∷ framing))
    ∙ rw (none, middle, last) (append-nil (values_of name framing))
  where
    none_closing : (b : Bool) → values_of name (closing b) ≡ []
    none_closing true = refl
    none_closing false = cond-false (bytes_eq (codes "connection") name) (codes "close" ∷ []) [] no_close

-- fields that are sent on have none of these names
none_named : (name : List ℕ) (fields : List Field) → ((field : Field) → Apart field → not (bytes_eq field.name name) ≡ true) → list_all can_send fields ≡ true → values_of name fields ≡ []
none_named name fields says p = values_none name fields (all_weaker can_send (λ field. not (bytes_eq field.name name)) (λ field q. says field (apart field q)) fields p)

module _ (keep : Bool) (items : List Item) (text : List ℕ) (stage : Stage) (w : IsWritten keep items text stage) where
  abbrev pub request : Request
  request = request_with (parts_of w.head) [] []

  sendable : IsSendable request
  sendable = head_sendable w.head [] [] w.well_formed w.no_connect

  abbrev pub head_with : List Field → Head
  head_with framing = record { method = request.method; target = request.target; fields = written_fields keep request framing }

  body_is : body_of items ≡ concat w.pieces
  body_is = ap body_of w.is ∙ sym w.body

  lengths : (framing : List Field) → values_of (codes "content-length") (written_fields keep request framing) ≡ values_of (codes "content-length") framing
  lengths framing = written_values keep (codes "content-length") request framing refl refl refl (none_named (codes "content-length") request.fields (λ field a. a.content_length) sendable.fields)

  codings : (framing : List Field) → values_of (codes "transfer-encoding") (written_fields keep request framing) ≡ values_of (codes "transfer-encoding") framing
  codings framing = written_values keep (codes "transfer-encoding") request framing refl refl refl (none_named (codes "transfer-encoding") request.fields (λ field a. a.transfer_encoding) sendable.fields)

  -- by what is missing, the framing and what is behind the head
  come_by : (extra : List ℕ) (framing : List Field) (rest : List ℕ) → KeptBack extra (values_of (codes "content-length") framing) (concat w.pieces) → text ++ extra ≡ head_text keep request framing ++ rest → list_all has_line framing ≡ true
      → HasBody (values_of (codes "content-length") framing) (values_of (codes "transfer-encoding") framing) rest (concat w.pieces) → HasCome text (body_of items)
  come_by extra framing rest back is lines body = record {
    extra = extra;
    head = head_with framing;
    head_text = head_text keep request framing;
    rest = rest;
    is = is;
    has_head = head_read keep request framing sendable lines;
    kept_back = subst (λ b. KeptBack extra (values_of (codes "content-length") (written_fields keep request framing)) b) (sym body_is) (subst (λ vs. KeptBack extra vs (concat w.pieces)) (sym (lengths framing)) back);
    has_body = subst (λ b. HasBody (values_of (codes "content-length") (written_fields keep request framing)) (values_of (codes "transfer-encoding") (written_fields keep request framing)) rest b) (sym body_is)
        (subst (λ vs. HasBody vs (values_of (codes "transfer-encoding") (written_fields keep request framing)) rest (concat w.pieces)) (sym (lengths framing))
        (subst (λ vs. HasBody (values_of (codes "content-length") framing) vs rest (concat w.pieces)) (sym (codings framing)) body));
  }

  counted_lines : (n : ℕ) → (parts_of w.head).length ≡ Some n → list_all has_line (framing_of (Some n) false) ≡ true
  counted_lines n is = (length_frames n false (replicate n 0) (declared_fits w.head n w.well_formed.length_holds is) (length-replicate n 0)).lines

  come_counted : (extra : List ℕ) (n : ℕ) → (parts_of w.head).length ≡ Some n → KeptBack extra (values_of (codes "content-length") (framing_of (Some n) false)) (concat w.pieces) → text ++ extra ≡ head_of keep (parts_of w.head) false ++ concat w.pieces → HasCome text (body_of items)
  come_counted extra n declared back is =
      come_by extra (framing_of (Some n) false) (concat w.pieces) back (is ∙ ap (λ d. head_text keep request (framing_of d false) ++ concat w.pieces) declared) (counted_lines n declared) (record { rest = []; is = sym (append-nil (concat w.pieces)) })

  -- as many octets came as are declared
  all_came : (octet : ℕ) → (parts_of w.head).length ≡ Some (length (concat w.pieces)) → KeptBack (octet ∷ []) (values_of (codes "content-length") (framing_of (Some (length (concat w.pieces))) false)) (concat w.pieces)
  all_came octet declared = (length_frames (length (concat w.pieces)) false (concat w.pieces) (declared_fits w.head (length (concat w.pieces)) w.well_formed.length_holds declared) refl).framed.0.has_length

  by_stage : (stage : Stage) → Sending keep (parts_of w.head) w.ended text w.pieces [] stage → (stage ≡ Whole → ⊥) → HasCome text (body_of items)
  by_stage Whole s part = absurd (part refl)
  by_stage (Counting left) s part = come_counted [] (length (concat w.pieces) + left) s.declared tt (append-nil text ∙ s.is)
  by_stage (Holding octet) s part = come_counted (octet ∷ []) (length (concat w.pieces)) s.declared (all_came octet s.declared) s.is
  by_stage Chunking s part =
      come_by [] (framing_of None false) (flat_map chunk_text w.pieces) tt (append-nil text ∙ s.is ∙ ap (λ d. head_text keep request (framing_of d false) ++ flat_map chunk_text w.pieces) s.undeclared) refl (
        refl,
        record {
          chunks = w.pieces;
          are_chunks = chunks_read w.pieces s.full;
          hold = record { rest = []; is = sym (append-nil (concat w.pieces)) };
        },
      )

  pub has_come : (stage ≡ Whole → ⊥) → HasCome text (body_of items)
  has_come part = by_stage stage (bare keep items text stage w part) part
