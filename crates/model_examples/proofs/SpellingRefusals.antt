-- Gateways that spell a request otherwise than in the one way. A server that keeps to the standard reads it as the same; others have read
-- such spellings each in a way of its own.
use Rattle.std.proofs.Common.{◌≡◌, ℕ, ◌<◌, true, false, List, [], ◌∷◌, ◌++◌, length, append_assoc, refl, sym, ap, ◌∙◌, inl, arith}
use Rattle.std.specs.Prelude.{codes, not, Some, None}
use Rattle.std.specs.List.{list_all, concat, flat_map}
use Rattle.std.proofs.lemmas.Fmt.{decimal_digit}
use Rattle.model.specs.Tables.{total_size}
use Rattle.model.specs.Octets.{is_empty}
use Rattle.model.specs.Messages.{Field}
use Rattle.model.specs.Messages.Item.{Content}
use Rattle.model.specs.Http1.{crlf}
use Rattle.model.specs.Http2.{request_of}
use Rattle.model.specs.Http1Text.{framing_of, head_text, hex_size, chunk_text, last_chunk, content_of}
use Rattle.model.specs.Logs.Act.{Open, ToUp}
use Rattle.model.specs.Tapes.{Entry}
use Rattle.model.specs.Tapes.Entry.{Did}
use Rattle.model.specs.Openings.{Opened}
use Rattle.model.specs.RequestClause.{RequestsHold}
use Rattle.model.proofs.Http1Bodies.{cons-append}
use Rattle.model_examples.proofs.RowTapes.{by_whole, by_streaming, frame, plain, headed, get, get_block, post, post_block, begun}
use Rattle.model_examples.proofs.RequestRefusals.{five, five_block, five_text}
use Rattle.model_examples.proofs.ChunkRefusals.{posting_text}
use Rattle.model_examples.proofs.SpellingLaws.{octet_at, differ, begins_like, size_not_zero}

abbrev first : Opened
first = record { k = 1; route = 0; stream = 1 }

-- A request is put out in this text: a GET, a POST without a declared length, and one of five octets, each as its head comes.
abbrev getting_by : List ℕ → List Entry
getting_by text = Did (ToUp 1 text) ∷ Did (Open 1 0) ∷ headed (frame 1 5 1 get_block) get ∷ begun

abbrev posting_by : List ℕ → List Entry
posting_by text = Did (ToUp 1 text) ∷ Did (Open 1 0) ∷ headed (frame 1 4 1 post_block) post ∷ begun

abbrev five_by : List ℕ → List Entry
five_by text = Did (ToUp 1 text) ∷ Did (Open 1 0) ∷ headed (frame 1 4 1 five_block) five ∷ begun

-- ---- heads

-- A name in capitals.
abbrev shouted_host_text : List ℕ
shouted_host_text = codes "GET / HTTP/1.1\r\nHOST: www.example.com\r\nvia: 2.0 h2gw\r\nconnection: close\r\n\r\n"

pub shouted_host : RequestsHold by_whole (getting_by shouted_host_text) → ⊥
unfolding total_size
shouted_host c =
    let b = begins_like false get true [] shouted_host_text (c.spelled first (inl refl)) in
    differ 72 104 refl (ap (octet_at 16) b.is)

-- A tab in place of the space before a value.
abbrev tab_before_value_text : List ℕ
tab_before_value_text = codes "GET / HTTP/1.1\r\nhost:\twww.example.com\r\nvia: 2.0 h2gw\r\nconnection: close\r\n\r\n"

pub tab_before_value : RequestsHold by_whole (getting_by tab_before_value_text) → ⊥
unfolding total_size
tab_before_value c =
    let b = begins_like false get true [] tab_before_value_text (c.spelled first (inl refl)) in
    differ 9 32 refl (ap (octet_at 21) b.is)

-- Chunks for a request that ended with its head.
abbrev chunks_for_no_body_text : List ℕ
chunks_for_no_body_text = codes "GET / HTTP/1.1\r\nhost: www.example.com\r\nvia: 2.0 h2gw\r\ntransfer-encoding: chunked\r\nconnection: close\r\n\r\n0\r\n\r\n"

pub chunks_for_no_body : RequestsHold by_whole (getting_by chunks_for_no_body_text) → ⊥
unfolding total_size
chunks_for_no_body c =
    let b = begins_like false get true [] chunks_for_no_body_text (c.spelled first (inl refl)) in
    differ 116 99 refl (ap (octet_at 54) b.is)

-- No line `connection: close`, though no connection is kept.
abbrev not_to_be_closed_text : List ℕ
not_to_be_closed_text = codes "GET / HTTP/1.1\r\nhost: www.example.com\r\nvia: 2.0 h2gw\r\n\r\n"

pub not_to_be_closed : RequestsHold by_whole (getting_by not_to_be_closed_text) → ⊥
unfolding total_size
not_to_be_closed c =
    let b = begins_like false get true [] not_to_be_closed_text (c.spelled first (inl refl)) in
    differ 13 99 refl (ap (octet_at 54) b.is)

-- the head with its length, digit by digit
five_spelled : head_text false (request_of five [] []) (framing_of (Some 5) false) ≡ five_text
five_spelled = ap (λ (value : List ℕ). head_text false (request_of five [] []) (record { name = codes "content-length"; value = value } ∷ [])) (decimal_digit 5 (omega arith))

-- A declared length with leading zeros.
abbrev zeros_before_length_text : List ℕ
zeros_before_length_text = codes "POST / HTTP/1.1\r\nhost: a\r\nvia: 2.0 h2gw\r\ncontent-length: 0000005\r\nconnection: close\r\n\r\n"

pub zeros_before_length : RequestsHold by_streaming (five_by zeros_before_length_text) → ⊥
unfolding total_size
zeros_before_length c =
    let b = begins_like false five false [] zeros_before_length_text (c.spelled first (inl refl)) in
    differ 48 53 refl (ap (octet_at 57) (b.is ∙ ap (λ (text : List ℕ). text ++ concat b.pieces) five_spelled))

-- A coding in capitals.
abbrev shouted_coding_text : List ℕ
shouted_coding_text = codes "POST / HTTP/1.1\r\nhost: www.example.com\r\nvia: 2.0 h2gw\r\nTRANSFER-ENCODING: Chunked\r\nconnection: close\r\n\r\n"

pub shouted_coding : RequestsHold by_streaming (posting_by shouted_coding_text) → ⊥
unfolding total_size
shouted_coding c =
    let b = begins_like false post false [] shouted_coding_text (c.spelled first (inl refl)) in
    differ 84 116 refl (ap (octet_at 55) b.is)

-- ---- chunks

-- The size of a chunk has leading zeros.
abbrev zeros_text : List ℕ
zeros_text = codes "0005\r\nhello\r\n"

zeros_no_content : (pieces : List (List ℕ)) (trailers : List Field) → list_all (λ piece. not (is_empty piece)) pieces ≡ true → octet_at 0 (content_of None false pieces trailers) ≡ 48 → octet_at 1 (content_of None false pieces trailers) ≡ 48 → ⊥
zeros_no_content [] trailers full first second = differ 13 48 refl second
zeros_no_content ([] ∷ pieces) trailers full first second = let clash : false ≡ true = full in cc
zeros_no_content ((octet ∷ octets) ∷ pieces) trailers full first second =
    size_not_zero (length (octet ∷ octets)) (crlf ++ (octet ∷ octets) ++ crlf ++ (flat_map chunk_text pieces ++ last_chunk trailers)) (omega arith) (sym (ap (octet_at 0) (regrouped (hex_size (length (octet ∷ octets))) (octet ∷ octets) (flat_map chunk_text pieces) (last_chunk trailers))) ∙ first)
  where
    regrouped : (size piece more last : List ℕ) → ((size ++ crlf ++ piece ++ crlf) ++ more) ++ last ≡ size ++ (crlf ++ piece ++ crlf ++ (more ++ last))
    regrouped size piece more last = simp (append_assoc, cons-append)

pub zeros_before_size : RequestsHold by_streaming (Did (ToUp 1 zeros_text) ∷ plain (frame 0 0 1 (codes "hello")) ∷ posting_by posting_text) → ⊥
unfolding total_size
zeros_before_size c =
    let b = begins_like false post false (Content (codes "hello") false ∷ []) (posting_text ++ zeros_text) (c.spelled first (inl refl)) in
    zeros_no_content b.pieces b.trailers b.are_full (sym (ap (octet_at 104) b.is)) (sym (ap (octet_at 105) b.is))
