-- Whole tapes of worked rows: what was sent is just what was owed, the client is closed just where it has to be, and octets are
-- given back.
use Rattle.std.proofs.Common.{◌≡◌, ℕ, true, false, List, [], ◌∷◌, ◌++◌, refl, inl}
use Rattle.std.specs.Prelude.{codes, pos, ◌-ℤ◌}
use Rattle.model.specs.Octets.{some_of, is_token_octet, is_value, lower}
use Rattle.model.specs.Messages.Item.{Block}
use Rattle.model.specs.Tables.{total_size}
use Rattle.model.specs.Frames.{goaway, settings_frame, protocol_error, internal_error, stream_closed, no_error}
use Rattle.model.specs.Http1.{crlf, Line, Head, H1Head, HasCome}
use Rattle.model.specs.Logs.Event.{UpEnd, ClientEnd}
use Rattle.model.specs.Logs.Act.{Close, CloseClient}
use Rattle.model.specs.Tapes.{Entry, sent, sent_up, is_closed}
use Rattle.model.specs.Tapes.Entry.{Happened, Did}
use Rattle.model.specs.Courses.{items}
use Rattle.model.specs.ErrorClause.{rst_stream, controls, owed, must_end, AreRightlySent}
use Rattle.model.specs.ProgressClause.{IsStreamed}
use Rattle.model.specs.WindowsOnTape.{room_on_connection}
use Rattle.model.specs.WindowClause.{kept_in_all}
use Rattle.model.specs.Setup.Passing.{Streaming}
use Rattle.model_examples.proofs.RowTapes.{by_whole, by_streaming, frame, plain, headed, out, out_headed, field, post, post_block, begun, getting, got, update}
use Rattle.model_examples.proofs.WindowExamples.{five_sent, streamed, head_text}
use Rattle.model_examples.proofs.CauseExamples.{expecting, reply_fields, reply_block, ended_streaming, in_chunk_streaming}

-- ---- more octets than were declared, passed on as they come: a reset, and six octets back

abbrev past_declared : List Entry
past_declared = Did (Close 1) ∷ out (update 0 6) ∷ out (rst_stream 1 protocol_error) ∷ plain (frame 0 0 1 (codes "x")) ∷ streamed

past_declared_owed : controls (sent past_declared) ≡ owed by_streaming past_declared
unfolding total_size
past_declared_owed = refl

past_declared_open : is_closed past_declared ≡ must_end by_streaming past_declared
unfolding total_size
past_declared_open = refl

past_declared_back : room_on_connection past_declared ≡ pos 65535 -ℤ pos (kept_in_all Streaming past_declared)
past_declared_back = refl

-- ---- DATA on a skipped stream: a GOAWAY, and the end

abbrev skipped : List Entry
skipped = Did CloseClient ∷ Did (Close 1) ∷ out (goaway 5 stream_closed) ∷ plain (frame 0 0 3 (120 ∷ [])) ∷ getting 1 5 begun

skipped_owed : controls (sent skipped) ≡ owed by_whole skipped
unfolding total_size
skipped_owed = refl

skipped_closed : is_closed skipped ≡ must_end by_whole skipped
unfolding total_size
skipped_closed = refl

-- ---- DATA behind the end of a request, twice

abbrev twice : List Entry
twice =
    out (update 0 1) ∷ plain (frame 0 0 1 (120 ∷ [])) ∷ Did (Close 1) ∷ out (update 0 1) ∷ out (rst_stream 1 stream_closed) ∷ plain (frame 0 0 1 (120 ∷ [])) ∷ got

twice_owed : controls (sent twice) ≡ owed by_whole twice
unfolding total_size
twice_owed = refl

-- ---- an answer that ends in a chunk, with its head out

abbrev cut_short : List Entry
cut_short = Did (Close 1) ∷ out (rst_stream 1 internal_error) ∷ Happened (UpEnd 1) ∷ in_chunk_streaming

cut_short_owed : controls (sent cut_short) ≡ owed ended_streaming cut_short
unfolding total_size
cut_short_owed = refl

-- ---- a request that expects something, and isn't whole: a reply, and a reset without an error

abbrev replied : List Entry
replied = out (rst_stream 1 no_error) ∷ out_headed (frame 1 5 1 reply_block) reply_fields ∷ expecting

replied_owed : controls (sent replied) ≡ owed by_whole replied
unfolding total_size
replied_owed = refl

replied_rightly : AreRightlySent replied
replied_rightly = (refl, (refl, (refl, (refl, tt))))

-- ---- the client goes at once

abbrev gone : List Entry
gone = Did CloseClient ∷ Happened ClientEnd ∷ out (settings_frame 0) ∷ []

gone_owed : controls (sent gone) ≡ owed by_whole gone
gone_owed = refl

gone_closed : is_closed gone ≡ must_end by_whole gone
gone_closed = refl

-- ---- windows that fall and rise

five_owed : controls (sent five_sent) ≡ owed by_whole five_sent
unfolding total_size
five_owed = refl

-- ---- trailers end a request

abbrev with_trailers : List Entry
with_trailers = headed (frame 1 5 1 (0 ∷ 3 ∷ 120 ∷ 45 ∷ 97 ∷ 1 ∷ 49 ∷ [])) (field (codes "x-a") (codes "1") ∷ []) ∷ headed (frame 1 4 1 post_block) post ∷ begun

both_blocks : items by_whole 1 with_trailers ≡ Block post false ∷ Block (field (codes "x-a") (codes "1") ∷ []) true ∷ []
unfolding total_size
both_blocks = refl

-- ---- four of five octets went upstream, and one octet more makes them all

line : (name value : List ℕ) → some_of is_token_octet name ≡ true → is_value value ≡ true → Line (name ++ 58 ∷ (32 ∷ []) ++ value ++ [] ++ crlf) (field (lower name) value)
line name value token good = record { name = name; before = 32 ∷ []; after = []; is = refl; is_token = token; space_before = refl; is_value = good; space_after = refl; is_named = refl }

abbrev posted : Head
posted = record {
  method = codes "POST";
  target = codes "/";
  fields = field (codes "host") (codes "www.example.com") ∷ field (codes "via") (codes "2.0 h2gw") ∷ field (codes "content-length") (codes "5") ∷ field (codes "connection") (codes "close") ∷ [];
}

has_posted : H1Head head_text posted
has_posted = record {
  lines = codes "host: www.example.com\r\nvia: 2.0 h2gw\r\ncontent-length: 5\r\nconnection: close\r\n";
  is = refl;
  method = refl;
  target = refl;
  are_lines = (
    codes "host: www.example.com\r\n",
    codes "via: 2.0 h2gw\r\ncontent-length: 5\r\nconnection: close\r\n",
    line (codes "host") (codes "www.example.com") refl refl,
    refl,
    (
      codes "via: 2.0 h2gw\r\n",
      codes "content-length: 5\r\nconnection: close\r\n",
      line (codes "via") (codes "2.0 h2gw") refl refl,
      refl,
      (
        codes "content-length: 5\r\n",
        codes "connection: close\r\n",
        line (codes "content-length") (codes "5") refl refl,
        refl,
        (codes "connection: close\r\n", [], line (codes "connection") (codes "close") refl refl, refl, refl),
      ),
    ),
  );
}

has_come : HasCome (sent_up 1 streamed) (codes "hello")
has_come = record { extra = codes "o"; head = posted; head_text = head_text; rest = codes "hello"; is = refl; has_head = has_posted; kept_back = refl; has_body = record { rest = []; is = refl } }

passed_on : IsStreamed by_streaming streamed 1
unfolding total_size
passed_on = record { o = record { k = 1; route = 0; stream = 1 }; given = record { is_opened = inl refl; is_given = refl }; has_come = λ on. has_come }
