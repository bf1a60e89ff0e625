-- Gateways that put octets behind the chunks of a request which isn't whole, though nothing brought them: a size, or a part of one. A
-- lenient server might take such an end for that of a whole body.
use Rattle.std.proofs.Common.{◌≡◌, ℕ, ◌+◌, true, false, List, [], ◌∷◌, ◌++◌, length, length-append, append_assoc, refl, sym, ap, ◌∙◌, subst, inl, inr, arith}
use Rattle.std.specs.Prelude.{suc, codes, replicate}
use Rattle.std.proofs.lemmas.List.{append_cancel_left}
use Rattle.model.specs.Tables.{total_size}
use Rattle.model.specs.Octets.{some_of, is_hex_digit, is_token_octet, is_value, lower, Joined}
use Rattle.model.specs.Http1.{crlf, Line, Chunk, Head, H1Head}
use Rattle.model.specs.Logs.Act.{Open, ToUp, Close}
use Rattle.model.specs.Tapes.{Entry}
use Rattle.model.specs.Tapes.Entry.{Did}
use Rattle.model.specs.Openings.{Opened}
use Rattle.model.specs.Known.{Known}
use Rattle.model.specs.RequestClause.{IsSentInPart, RequestsHold}
use Rattle.model.proofs.OpenLaws.{whole_alone, part_alone}
use Rattle.model.proofs.Http1Runs.{run_of_some, one_run}
use Rattle.model.proofs.Http1Bodies.{cons-append, one_chunk}
use Rattle.model_examples.proofs.RowTapes.{by_streaming, frame, plain, headed, field, post, post_block, begun, reset}

-- ---- a request in chunks

abbrev pub posting_text : List ℕ
posting_text = codes "POST / HTTP/1.1\r\nhost: www.example.com\r\nvia: 2.0 h2gw\r\ntransfer-encoding: chunked\r\nconnection: close\r\n\r\n"

abbrev posting_head : Head
posting_head = record {
  method = codes "POST";
  target = codes "/";
  fields =
      field (codes "host") (codes "www.example.com")
      ∷ field (codes "via") (codes "2.0 h2gw")
      ∷ field (codes "transfer-encoding") (codes "chunked")
      ∷ field (codes "connection") (codes "close")
      ∷ [];
}

line : (name value : List ℕ) → some_of is_token_octet name ≡ true → is_value value ≡ true → Line (name ++ 58 ∷ (32 ∷ []) ++ value ++ [] ++ crlf) (field (lower name) value)
line name value token good = record { name = name; before = 32 ∷ []; after = []; is = refl; is_token = token; space_before = refl; is_value = good; space_after = refl; is_named = refl }

has_posting_head : H1Head posting_text posting_head
has_posting_head = record {
  lines = codes "host: www.example.com\r\nvia: 2.0 h2gw\r\ntransfer-encoding: chunked\r\nconnection: close\r\n";
  is = refl;
  method = refl;
  target = refl;
  are_lines = (
    codes "host: www.example.com\r\n",
    codes "via: 2.0 h2gw\r\ntransfer-encoding: chunked\r\nconnection: close\r\n",
    line (codes "host") (codes "www.example.com") refl refl,
    refl,
    (
      codes "via: 2.0 h2gw\r\n",
      codes "transfer-encoding: chunked\r\nconnection: close\r\n",
      line (codes "via") (codes "2.0 h2gw") refl refl,
      refl,
      (
        codes "transfer-encoding: chunked\r\n",
        codes "connection: close\r\n",
        line (codes "transfer-encoding") (codes "chunked") refl refl,
        refl,
        (codes "connection: close\r\n", [], line (codes "connection") (codes "close") refl refl, refl, refl),
      ),
    ),
  );
}

abbrev pub hello_chunk : List ℕ
hello_chunk = codes "5\r\nhello\r\n"

is_hello : Chunk hello_chunk (codes "hello")
is_hello = record { size = codes "5"; is = refl; is_size = refl; has_size = refl; is_not_last = omega arith }

-- ---- what is no chunk

-- These octets are no chunks.
abbrev pub AreNoChunks : List ℕ → Type 0
AreNoChunks text = (chunks : List (List ℕ)) → Joined Chunk text chunks → ⊥

-- digits and the end of their line, and nothing behind it, begin no chunk
no_data : (digits first more piece : List ℕ) → some_of is_hex_digit digits ≡ true → Chunk first piece → digits ++ 13 ∷ (10 ∷ []) ≡ first ++ more → ⊥
no_data digits first more piece hex chunk is =
    let spelled : first ++ more ≡ chunk.size ++ 13 ∷ (10 ∷ (piece ++ 13 ∷ (10 ∷ more))) = ap (λ (x : List ℕ). x ++ more) chunk.is ∙ regrouped chunk.size in
    let same = one_run is_hex_digit digits chunk.size 13 13 (10 ∷ []) (10 ∷ (piece ++ 13 ∷ (10 ∷ more))) (run_of_some is_hex_digit digits hex) (run_of_some is_hex_digit chunk.size chunk.is_size) refl refl (is ∙ spelled) in
    let sizes : 2 ≡ suc (suc (length (piece ++ 13 ∷ (10 ∷ more)))) = ap length same.1 in
    let long : length (piece ++ 13 ∷ (10 ∷ more)) ≡ length piece + suc (suc (length more)) = length-append piece (13 ∷ (10 ∷ more)) in
    omega (arith, sizes, long)
  where
    regrouped : (size : List ℕ) → (size ++ crlf ++ piece ++ crlf) ++ more ≡ size ++ 13 ∷ (10 ∷ (piece ++ 13 ∷ (10 ∷ more)))
    regrouped size = simp (append_assoc, cons-append)

-- a size line without its chunk
no_line : (digits : List ℕ) → some_of is_hex_digit digits ≡ true → AreNoChunks (digits ++ crlf)
no_line digits hex [] joined = let none : length digits + 2 ≡ 0 = sym (length-append digits crlf) ∙ ap length joined in omega (arith, none)
no_line digits hex (piece ∷ pieces) (first, more, chunk, is, rest) = no_data digits first more piece hex chunk is

-- digits without their line's end
no_digits : (digits : List ℕ) → some_of is_hex_digit digits ≡ true → AreNoChunks digits
no_digits [] hex chunks joined = let clash : false ≡ true = hex in cc
no_digits (digit ∷ digits) hex [] joined = let none : suc (length digits) ≡ 0 = ap length joined in omega (arith, none)
no_digits (digit ∷ digits) hex (piece ∷ pieces) (first, more, chunk, is, rest) =
    no_data (digit ∷ digits) first (more ++ crlf) piece hex chunk (ap (λ (x : List ℕ). x ++ crlf) is ∙ append_assoc first more crlf)

-- behind a chunk they are none either
behind_one : (more : List ℕ) → AreNoChunks more → AreNoChunks (hello_chunk ++ more)
behind_one more none [] joined = let long : 10 + length more ≡ 0 = sym (length-append hello_chunk more) ∙ ap length joined in omega (arith, long)
behind_one more none (piece ∷ pieces) (first, others, chunk, is, rest) =
    let same = one_chunk hello_chunk first more others (codes "hello") piece is_hello chunk is in
    let left : more ≡ others = append_cancel_left first more others (ap (λ (x : List ℕ). x ++ more) (sym same.0) ∙ is) in
    none pieces (subst (λ (x : List ℕ). Joined Chunk x pieces) (sym left) rest)

-- ---- gateways

-- Whatever the stream's items, they don't stand behind the chunks of a request that isn't whole.
pub nothing_behind_chunks : (known : Known) (t : List Entry) (o : Opened) (more : List ℕ) → AreNoChunks more → IsSentInPart known t o [] (posting_text ++ hello_chunk ++ more) → ⊥
nothing_behind_chunks known t o more none part =
    let w = (part_alone known t o (posting_text ++ hello_chunk ++ more) part).in_chunks posting_text (hello_chunk ++ more) posting_head refl has_posting_head in
    behind_one more none w.0 w.1

-- The head of a request and five octets of its body were passed on. Then the client resets the stream, and before the connection is
-- closed more goes out.
abbrev pub resetting : List ℕ → List Entry
resetting more =
    Did (Close 1) ∷ Did (ToUp 1 more) ∷ plain (reset 1 8) ∷ Did (ToUp 1 hello_chunk) ∷ plain (frame 0 0 1 (codes "hello")) ∷ Did (ToUp 1 posting_text) ∷ Did (Open 1 0) ∷ headed (frame 1 4 1 post_block) post ∷ begun

abbrev posting : Opened
posting = record { k = 1; route = 0; stream = 1 }

refused : (more : List ℕ) → AreNoChunks more → RequestsHold by_streaming (resetting more) → ⊥
unfolding total_size
refused [] none c = none [] refl
refused (octet ∷ more) none c = elim (c.sent posting (inl refl)) [
  | inl whole ↦ (let ends = (whole_alone by_streaming (resetting (octet ∷ more)) posting _ whole).means.ends in let clash : false ≡ true = ends.1 in cc)
  | inr part ↦ nothing_behind_chunks by_streaming (resetting (octet ∷ more)) posting (octet ∷ more) none part
]

-- The digit of a last chunk's size.
pub zero_behind_chunks : RequestsHold by_streaming (resetting (codes "0")) → ⊥
zero_behind_chunks = refused (codes "0") (no_digits (codes "0") refl)

-- A thousand of them.
pub zeros_behind_chunks : RequestsHold by_streaming (resetting (replicate 1000 48)) → ⊥
zeros_behind_chunks = refused (replicate 1000 48) (no_digits (replicate 1000 48) refl)

-- The line of a chunk's size, without the chunk.
pub size_behind_chunks : RequestsHold by_streaming (resetting (codes "5\r\n")) → ⊥
size_behind_chunks = refused (codes "5\r\n") (no_line (codes "5") refl)
