-- Gateways that send what they shouldn't, or when they shouldn't: frames that no peer may have to read, octets given back that didn't
-- come, what a frame brought held back until the next, acts before the event that causes them.
use Rattle.std.proofs.Common.{◌≡◌, ◌<◌, ℕ, ◌+◌, true, false, List, [], ◌∷◌, ◌++◌, length, length-append, append_assoc, refl, sym, ap, ◌∙◌, subst, inl, inr, arith}
use Rattle.std.specs.Prelude.{pos, ◌≤ℤ◌, codes, replicate}
use Rattle.std.proofs.lemmas.List.{append_cancel_left}
use Rattle.model.specs.Tables.{total_size}
use Rattle.model.specs.Octets.{Joined}
use Rattle.model.specs.Http1.{crlf, Chunk, Head, values_of, HasBody, HasChunks, HasCome, KeptBack}
use Rattle.model.specs.Logs.{Step}
use Rattle.model.specs.Logs.Event.{Up, UpFailed}
use Rattle.model.specs.Logs.Act.{Open, ToUp, Close}
use Rattle.model.specs.Tapes.{Entry, IsStep}
use Rattle.model.specs.Tapes.Entry.{Happened, Did}
use Rattle.model.specs.Admission.{is_open}
use Rattle.model.specs.Openings.{Opened, exchanges, sent_for}
use Rattle.model.specs.Available.{IsIn}
use Rattle.model.specs.ErrorClause.{ErrorsHold}
use Rattle.model.specs.ResponseClause.{AreWithin}
use Rattle.model.specs.ProgressClause.{AllStreamed}
use Rattle.model.specs.WindowClause.{WindowsHold}
use Rattle.model.specs.Headline.{ClausesHold, HoldsInTurn}
use Rattle.model.proofs.Http1Bodies.{one_chunk}
use Rattle.model.proofs.Http1Readings.{one_head}
use Rattle.model_examples.proofs.RowTapes.{by_whole, by_streaming, frame, plain, headed, out, out_headed, post, post_block, begun, getting, got, answer_text, ok_two, ok_block, update, reset}
use Rattle.model_examples.proofs.RequestRefusals.{five, five_block, five_text, five_head, has_five_head}

-- ---- frames that it may not send

-- It fills the client's side with DATA without octets, until nothing is due any more.
pub empty_data : ErrorsHold by_whole (out (frame 0 0 1 []) ∷ got) → ⊥
unfolding total_size
empty_data c = let clash : false ≡ true = c.rightly_sent.0 in cc

-- It sends a header block's fragments without octets.
pub empty_fragment : ErrorsHold by_whole (out (frame 9 0 1 []) ∷ out (frame 1 0 1 (136 ∷ [])) ∷ got) → ⊥
unfolding total_size
empty_fragment c = let clash : false ≡ true = c.rightly_sent.0 in cc

-- It sends DATA with more padding than there is payload: a client has to end the connection.
pub padded : ErrorsHold by_whole (out (frame 0 8 1 (9 ∷ 104 ∷ 105 ∷ [])) ∷ got) → ⊥
unfolding total_size
padded c = let clash : false ≡ true = c.rightly_sent.0 in cc

-- It sends HEADERS with a priority: of the stream on itself, say.
pub prioritized : ErrorsHold by_whole (out_headed (frame 1 36 1 (0 ∷ 0 ∷ 0 ∷ 1 ∷ 0 ∷ ok_block)) ok_two ∷ got) → ⊥
unfolding total_size
prioritized c = let clash : false ≡ true = c.rightly_sent.0 in cc

-- It sends a flag that WINDOW_UPDATE doesn't have.
pub unknown_flag : ErrorsHold by_whole (out (frame 8 1 0 (0 ∷ 0 ∷ 0 ∷ 5 ∷ [])) ∷ plain (frame 0 0 1 (codes "hello")) ∷ headed (frame 1 4 1 post_block) post ∷ begun) → ⊥
unfolding total_size
unknown_flag c = let clash : false ≡ true = c.rightly_sent.0 in cc

-- It gives the octets that came back with the reserved bit set.
pub reserved_bit : ErrorsHold by_whole (out (frame 8 0 0 (128 ∷ 0 ∷ 0 ∷ 5 ∷ [])) ∷ plain (frame 0 0 1 (codes "hello")) ∷ headed (frame 1 4 1 post_block) post ∷ begun) → ⊥
unfolding total_size
reserved_bit c = let clash : false ≡ true = c.rightly_sent.0 in cc

-- It goes on with another response while the client has taken nothing of 65,572 octets.
abbrev a_frame : Entry
a_frame = out (frame 0 0 1 (replicate 16384 97))

pub past_high_water : ErrorsHold by_whole (out_headed (frame 1 4 3 ok_block) ok_two ∷ a_frame ∷ a_frame ∷ a_frame ∷ a_frame ∷ getting 2 3 got) → ⊥
unfolding total_size
past_high_water c = let clash : false ≡ true = c.rightly_sent.0 in cc

-- ---- octets given back

-- It gives a stream more than came on it, which ends in the same step.
pub gives_too_much : WindowsHold by_whole (out (update 1 1000) ∷ plain (frame 0 0 1 (codes "hello")) ∷ headed (frame 1 4 1 post_block) post ∷ begun) → ⊥
gives_too_much c = let clash : pos 66530 ≤ℤ pos 65535 = c.no_more.0 refl in omega (arith, clash)

-- ---- what a frame brought, held back

-- A request of five octets whose head was passed on, and three octets of whose body came.
abbrev three_came : List Entry
three_came = plain (frame 0 0 1 (codes "hel")) ∷ Did (ToUp 1 five_text) ∷ Did (Open 1 0) ∷ headed (frame 1 4 1 five_block) five ∷ begun

-- less than the whole body came: nothing is kept back
none_kept : (extra came : List ℕ) → length came < 5 → KeptBack extra (codes "5" ∷ []) came → extra ≡ []
none_kept [] came part k = refl
none_kept (x ∷ []) came part k = let whole : length came ≡ 5 = k in absurd (omega (arith, whole, part))
none_kept (x ∷ y ∷ more) came part k = absurd k

lacks_some : (put came : List ℕ) → length put < length came → length came < 5 → HasCome (five_text ++ put) came → ⊥
lacks_some put came less part h =
    let whole : five_text ++ (put ++ h.extra) ≡ h.head_text ++ h.rest = sym (append_assoc five_text put h.extra) ∙ h.is in
    let same = one_head five_text h.head_text (put ++ h.extra) h.rest five_head h.head has_five_head h.has_head whole in
    let rest : put ++ h.extra ≡ h.rest = append_cancel_left h.head_text (put ++ h.extra) h.rest (ap (λ (x : List ℕ). x ++ (put ++ h.extra)) (sym same.0) ∙ whole) in
    let stands : HasBody (values_of (codes "content-length") five_head.fields) (values_of (codes "transfer-encoding") five_head.fields) h.rest came =
    subst (λ (head : Head). HasBody (values_of (codes "content-length") head.fields) (values_of (codes "transfer-encoding") head.fields) h.rest came) (sym same.1) h.has_body in
    let kept : KeptBack h.extra (codes "5" ∷ []) came = subst (λ (head : Head). KeptBack h.extra (values_of (codes "content-length") head.fields) came) (sym same.1) h.kept_back in
    let none : length h.extra ≡ 0 = ap length (none_kept h.extra came part kept) in
    let long : length h.rest ≡ length came + length stands.rest = ap length stands.is ∙ length-append came stands.rest in
    let same_length : length h.rest ≡ length put + length h.extra = ap length (sym rest) ∙ length-append put h.extra in
    omega (arith, long, same_length, none, less)

not_streamed : AllStreamed by_streaming three_came → ⊥
unfolding total_size
not_streamed all = let s = all refl 1 five refl refl refl in at s.o s.given.is_opened s.has_come
  where
    at : (o : Opened) → IsIn o (exchanges three_came) → (is_open o.k three_came ≡ true → HasCome (sent_for o three_came) (codes "hel")) → ⊥
    at o (inl same) come = lacks_some [] (codes "hel") (omega arith) (omega arith) (subst (λ (p : Opened). is_open p.k three_came ≡ true → HasCome (sent_for p three_came) (codes "hel")) same come refl)
    at o (inr none) come = none

-- One octet of the three is held back, and more is to come.
abbrev two_put : List Entry
two_put = Did (ToUp 1 (codes "he")) ∷ three_came

pub one_held_back : AllStreamed by_streaming two_put → ⊥
unfolding total_size
one_held_back all = let s = all refl 1 five refl refl refl in at s.o s.given.is_opened s.has_come
  where
    at : (o : Opened) → IsIn o (exchanges two_put) → (is_open o.k two_put ≡ true → HasCome (sent_for o two_put) (codes "hel")) → ⊥
    at o (inl same) come = lacks_some (codes "he") (codes "hel") (omega arith) (omega arith) (subst (λ (p : Opened). is_open p.k two_put ≡ true → HasCome (sent_for p two_put) (codes "hel")) same come refl)
    at o (inr none) come = none

-- The upstream answers before that request is whole, and the stream is over with the answer. Before it is, three octets are given back on
-- it, of which the upstream's side took none.
pub gives_unread : WindowsHold by_streaming
    (out (update 0 3)
    ∷ out (reset 1 0)
    ∷ out (frame 0 1 1 (codes "hi"))
    ∷ out_headed (frame 1 4 1 ok_block) ok_two
    ∷ out (update 1 3)
    ∷ Did (Close 1)
    ∷ Happened (Up 1 answer_text)
    ∷ Did (ToUp 1 (codes "hel"))
    ∷ three_came) → ⊥
unfolding total_size
gives_unread c = let clash : pos 65535 ≤ℤ pos 65532 = c.holds_back 1 (omega arith) in omega (arith, clash)

-- Digits of another chunk's size stand behind the chunk of what came, though nothing brought them.
hel_chunk : Chunk (codes "3\r\nhel\r\n") (codes "hel")
hel_chunk = record { size = codes "3"; is = refl; is_size = refl; has_size = refl; is_not_last = omega arith }

one_octet : (octet : ℕ) (chunks : List (List ℕ)) → Joined Chunk (octet ∷ []) chunks → ⊥
one_octet octet [] joined = let none : 1 ≡ 0 = ap length joined in omega (arith, none)
one_octet octet (piece ∷ pieces) (first, more, chunk, is, rest) =
    let all : 1 ≡ length first + length more = ap length is ∙ length-append first more in
    let spelled : length (chunk.size ++ crlf ++ piece ++ crlf) ≡ length chunk.size + length piece + 4 = simp length-append (omega arith) in
    let long : length first ≡ length chunk.size + length piece + 4 = ap length chunk.is ∙ spelled in
    omega (arith, all, long)

pub digits_behind_chunks : HasChunks (codes "3\r\nhel\r\n0") (codes "hel") → ⊥
digits_behind_chunks h = by h.chunks h.are_chunks
  where
    by : (chunks : List (List ℕ)) → Joined Chunk (codes "3\r\nhel\r\n0") chunks → ⊥
    by [] joined = let none : 9 ≡ 0 = ap length joined in omega (arith, none)
    by (piece ∷ pieces) (first, more, chunk, is, rest) =
        let same = one_chunk (codes "3\r\nhel\r\n") first (codes "0") more (codes "hel") piece hel_chunk chunk is in
        let left : codes "0" ≡ more = append_cancel_left first (codes "0") more (ap (λ (x : List ℕ). x ++ codes "0") (sym same.0) ∙ is) in
        one_octet 48 pieces (subst (λ (x : List ℕ). Joined Chunk x pieces) (sym left) rest)

-- Two frames of DATA come in one piece, and what both bring is put out behind the second: octets would go back at once that nobody took.
pub held_until_both : HoldsInTurn (ClausesHold by_streaming) (Did (ToUp 1 (codes "hell")) ∷ plain (frame 0 0 1 (codes "lo")) ∷ three_came) → ⊥
held_until_both c = let holds = c.0 in not_streamed holds.progress.streamed

-- It sends a header block in fragments that would fit one frame.
pub shredded : ErrorsHold by_whole (out_headed (frame 9 4 1 (15 ∷ 13 ∷ 1 ∷ 50 ∷ [])) ok_two ∷ out (frame 1 0 1 (136 ∷ [])) ∷ got) → ⊥
unfolding total_size
shredded c = let clash : false ≡ true = c.rightly_sent.1.0 in cc

-- It begins a block with more maxima than limits can call for.
pub many_maxima : (maximum now a b c : ℕ) (limits more : List ℕ) → AreWithin maximum limits now (a ∷ b ∷ c ∷ more) → ⊥
many_maxima maximum now a b c limits more w = let few = w.few in omega (arith, few)

-- ---- acts before their event

-- It closes a connection before the failure that it closes it for.
pub closes_before : (step : Step) → IsStep step (Happened (UpFailed 1) ∷ Did (Close 1) ∷ []) → ⊥
closes_before step s = let clash : Close 1 ∷ [] ≡ [] = s.acts_follow in cc
