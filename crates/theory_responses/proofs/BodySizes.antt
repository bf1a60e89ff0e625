-- Of a body there stand no more octets in a longer text than in its beginning, and as many as came.
use Rattle.std.proofs.Common.{◌≡◌, ℕ, suc, ◌+◌, ◌<◌, ◌≤◌, min, Bool, List, [], ◌∷◌, ◌++◌, length, take, length-append, refl, sym, ap, ◌∙◌, subst, append_assoc, inl, inr, arith}
use Rattle.std.specs.Prelude.{Option, Some, None, ◌⊎◌}
use Rattle.std.specs.List.{concat}
use Rattle.std.proofs.lemmas.List.{append-nil, length-take}
use Rattle.std.proofs.lemmas.Bool.{cases_lt}
use Rattle.std.proofs.Math.Seq.{take-append_seam}
use Rattle.model.specs.Octets.{IsStrictFront, Joined}
use Rattle.model.specs.Messages.{Field}
use Rattle.model.specs.Http1.{crlf}
use Rattle.model.specs.ResponseHeads.{Head, Framing, Interim}
use Rattle.model.specs.ResponseHeads.Framing.{Bodiless, Chunks, Sized, UntilEnd}
use Rattle.httparse.specs.Grammar.{ReadsResponse}
use Rattle.model.specs.Responses.{Response, ChunkLine, Chunk, HasBody, H1Response, InLine, InChunk, BehindChunks, InChunks, StandsIn, SeenBefore, SeenBehind, Seen}
use Rattle.model.proofs.Http1Runs.{same_rest, one_joined}
use Rattle.model.proofs.ResponseHeadReadings.{one_interim, none_without_head, none_at_final, one_front, spelled_reads}
use Rattle.model.proofs.ResponseBodies.{one_chunk_line, one_response_chunk}

-- ---- a body is no longer than its text

-- chunks joined have less than their text
chunks_within : (text : List ℕ) (chunks : List (List ℕ)) → Joined Chunk text chunks → length (concat chunks) ≤ length text
chunks_within text [] joined = omega arith
chunks_within text (chunk ∷ chunks) joined =
    let more : length (concat chunks) ≤ length joined.1 = chunks_within joined.1 chunks joined.4 in
    let whole : length text ≡ length joined.0 + length joined.1 = ap length joined.3 ∙ length-append joined.0 joined.1 in
    let first : length joined.0 ≡ length joined.2.line + length chunk + 2 = ap length joined.2.is ∙ length-append (joined.2.line ++ chunk) crlf ∙ ap (λ n. n + 2) (length-append joined.2.line chunk) in
    let octets : length (chunk ++ concat chunks) ≡ length chunk + length (concat chunks) = length-append chunk (concat chunks) in
    omega (arith, more, whole, first, octets)

next_within : (text next : List ℕ) → BehindChunks text next → length next ≤ length text
next_within text next (inl p) = let none : length next ≡ 0 = ap length p.0 in omega (arith, none)
next_within text next (inr p) =
    let whole : length text ≡ length p.line + length next + length p.end = ap length p.is ∙ length-append (p.line ++ next) p.end ∙ ap (λ n. n + length p.end) (length-append p.line next) in
    omega (arith, whole)

in_chunks_within : (text octets : List ℕ) → InChunks text octets → length octets ≤ length text
in_chunks_within text octets c =
    let front = chunks_within c.front c.chunks c.are_chunks in
    let behind = next_within c.behind c.next c.behind_them in
    let whole : length text ≡ length c.front + length c.behind = ap length c.is ∙ length-append c.front c.behind in
    let all : length octets ≡ length (concat c.chunks) + length c.next = ap length c.has_octets ∙ length-append (concat c.chunks) c.next in
    omega (arith, front, behind, whole, all)

stands_within : (framing : Framing) (text octets : List ℕ) → StandsIn framing text octets → length octets ≤ length text
stands_within Bodiless text octets s = let none : length octets ≡ 0 = ap length s in omega (arith, none)
stands_within (Chunks named) text octets s = in_chunks_within text octets s
stands_within (Sized count) text octets s = let size : length octets ≡ min count (length text) = ap length s ∙ length-take count text in omega (arith, size)
stands_within UntilEnd text octets s = let same : length octets ≡ length text = ap length s in omega (arith, same)

-- what is seen of a body is no longer than the text
pub seen_within : (text : List ℕ) (to_head : Bool) (interims : List Head) (head : Option Head) (octets : List ℕ) → Seen text to_head interims head octets → length octets ≤ length text
seen_within text to_head interims None octets s = let none : length octets ≡ 0 = ap length s.1 in omega (arith, none)
seen_within text to_head interims (Some head) octets s =
    let body = stands_within s.framing s.rest octets s.body in
    let whole : length text ≡ length s.front + length s.head_text + length s.rest = ap length s.is ∙ length-append (s.front ++ s.head_text) s.rest ∙ ap (λ n. n + length s.rest) (length-append s.front s.head_text) in
    omega (arith, body, whole)

-- ---- a chunk's line at the front of a text

-- The text begins with a chunk's line of this size, and this stands behind it.
record Lined (text : List ℕ) (size : ℕ) (rest : List ℕ) : Type 0 where
  line : List ℕ
  is : text ≡ line ++ rest
  is_line : ChunkLine line size

same_line : (text : List ℕ) (m n : ℕ) (x y : List ℕ) → Lined text m x → Lined text n y → (m ≡ n) × (x ≡ y)
same_line text m n x y p q =
    let s = one_chunk_line p.line q.line x y m n p.is_line q.is_line (sym p.is ∙ q.is) in (s.1, same_rest p.line q.line x y s.0 (sym p.is ∙ q.is))

-- A line stands there whole, and behind it no fewer octets than those of chunks: which are of its chunk, or fewer by the two octets
-- with which that ends.
record HasLine (text octets : List ℕ) : Type 0 where
  size : ℕ
  rest : List ℕ
  lined : Lined text size rest
  is_not_last : 0 < size
  within : length octets ≤ length rest
  few : (length octets ≤ size) ⊎ (length octets + 2 ≤ length rest)

in_first : (text octets : List ℕ) → InChunk text octets → HasLine text octets
in_first text octets c =
    let whole : length (octets ++ c.end) ≡ length octets + length c.end = length-append octets c.end in
    record {
      size = c.size;
      rest = octets ++ c.end;
      lined = record { line = c.line; is = c.is ∙ append_assoc c.line octets c.end; is_line = c.is_line };
      is_not_last = c.is_not_last;
      within = omega (arith, whole);
      few = inl (elim c.is_part [
        | inl part ↦ (let less : length octets < c.size = part.0 in omega (arith, less))
        | inr full ↦ (let all : length octets ≡ c.size = full.0 in omega (arith, all))
      ]);
    }

behind_first : (text first more chunk others octets : List ℕ) → Chunk first chunk → text ≡ first ++ more → length others ≤ length more → octets ≡ chunk ++ others → HasLine text octets
behind_first text first more chunk others octets c e fewer is =
    let all : length octets ≡ length chunk + length others = ap length is ∙ length-append chunk others in
    let rest : length (chunk ++ (crlf ++ more)) ≡ length chunk + suc (suc (length more)) = length-append chunk (crlf ++ more) in
    record {
      size = length chunk;
      rest = chunk ++ (crlf ++ more);
      lined = record { line = c.line; is = e ∙ ap (λ x. x ++ more) c.is ∙ append_assoc (c.line ++ chunk) crlf more ∙ append_assoc c.line chunk (crlf ++ more); is_line = c.has_line };
      is_not_last = c.is_not_last;
      within = omega (arith, all, rest, fewer);
      few = inr (omega (arith, all, rest, fewer));
    }

-- no octets stand there, or a line does
first_line : (text octets : List ℕ) → InChunks text octets → (octets ≡ []) ⊎ HasLine text octets
first_line text octets c = by c.chunks c.are_chunks c.has_octets
  where
    by : (chunks : List (List ℕ)) → Joined Chunk c.front chunks → octets ≡ concat chunks ++ c.next → (octets ≡ []) ⊎ HasLine text octets
    by [] joined has =
        let text_is : text ≡ c.behind = c.is ∙ ap (λ x. x ++ c.behind) joined in
        elim c.behind_them [
          | inl p ↦ inl (has ∙ p.0)
          | inr p ↦ inr (subst (λ x. HasLine text x) (sym has) (subst (λ x. HasLine x c.next) (sym text_is) (in_first c.behind c.next p)))
        ]
    by (chunk ∷ chunks) joined has =
        let more = chunks_within joined.1 chunks joined.4 in
        let next = next_within c.behind c.next c.behind_them in
        let others : length (concat chunks ++ c.next) ≡ length (concat chunks) + length c.next = length-append (concat chunks) c.next in
        let rest : length (joined.1 ++ c.behind) ≡ length joined.1 + length c.behind = length-append joined.1 c.behind in
        inr (behind_first text joined.0 (joined.1 ++ c.behind) chunk (concat chunks ++ c.next) octets joined.2
        (c.is ∙ ap (λ x. x ++ c.behind) joined.3 ∙ append_assoc joined.0 joined.1 c.behind) (omega (arith, more, next, others, rest)) (has ∙ append_assoc chunk (concat chunks) c.next))

-- ---- chunks in a longer text

short_end : (end : List ℕ) → IsStrictFront end crlf → length end < 2
short_end end f =
    let count : 2 ≡ length end + length (f.next ∷ f.rest) = ap length f.is ∙ length-append end (f.next ∷ f.rest) in
    omega (arith, count)

-- two cuts of one text: where the rest behind one is no longer than that behind the other, it ends that
cut_behind : (a b x y : List ℕ) → a ++ x ≡ b ++ y → length y ≤ length x → (z : List ℕ) × (x ≡ z ++ y) × (b ≡ a ++ z)
cut_behind [] b x y e less = (b, e, refl)
cut_behind (n ∷ a) [] x y e less =
    let count : suc (length (a ++ x)) ≡ length y = ap length e in
    let whole : length (a ++ x) ≡ length a + length x = length-append a x in
    absurd (omega (arith, count, whole, less))
cut_behind (n ∷ a) (m ∷ b) x y e less =
    let first : n ≡ m = cc in
    let rest : a ++ x ≡ b ++ y = cc in
    let more = cut_behind a b x y rest less in
    (more.0, more.1, ap (λ k. k ∷ b) (sym first) ∙ ap (λ l. n ∷ l) more.2)

-- a line that isn't whole is no line
not_lined : (text : List ℕ) (size : ℕ) (rest : List ℕ) → InLine text → Lined text size rest → ⊥
not_lined text size rest p q =
    let whole : p.line ++ [] ≡ q.line ++ (rest ++ p.is_part.next ∷ p.is_part.rest) =
    append-nil p.line ∙ p.is_part.is ∙ ap (λ x. x ++ p.is_part.next ∷ p.is_part.rest) q.is ∙ append_assoc q.line rest (p.is_part.next ∷ p.is_part.rest) in
    let s = one_chunk_line p.line q.line [] (rest ++ p.is_part.next ∷ p.is_part.rest) p.size size p.is_line q.is_line whole in
    let none : [] ≡ rest ++ p.is_part.next ∷ p.is_part.rest = same_rest p.line q.line [] (rest ++ p.is_part.next ∷ p.is_part.rest) s.0 whole in
    let count : 0 ≡ length rest + suc (length p.is_part.rest) = ap length none ∙ length-append rest (p.is_part.next ∷ p.is_part.rest) in
    omega (arith, count)

-- so it ends in what comes behind
line_longer : (text piece : List ℕ) (size : ℕ) (rest : List ℕ) → InLine text → Lined (text ++ piece) size rest → length rest ≤ length piece
line_longer text piece size rest p q = elim (cases_lt (length rest) (length piece)) [
  | inl less ↦ omega (arith, less)
  | inr more ↦ (
      let cut = cut_behind q.line text rest piece (sym q.is) more in
      absurd (not_lined text size cut.0 p (record { line = q.line; is = cut.2; is_line = q.is_line })))
]

module _ (behind piece octets : List ℕ) (now : InChunks (behind ++ piece) octets) where
  -- no line stands there whole, so all octets came
  in_line_grows : InLine behind → length octets ≤ length piece
  in_line_grows p = elim (first_line (behind ++ piece) octets now) [
    | inl none ↦ (let size : length octets ≡ 0 = ap length none in omega (arith, size))
    | inr l ↦ (let came = line_longer behind piece l.size l.rest p l.lined in let within = l.within in omega (arith, came, within))
  ]

  -- the last line stands there, and no octets
  last_grows : (line tail : List ℕ) → behind ≡ line ++ tail → ChunkLine line 0 → length octets ≤ length piece
  last_grows line tail is last = elim (first_line (behind ++ piece) octets now) [
    | inl none ↦ (let size : length octets ≡ 0 = ap length none in omega (arith, size))
    | inr l ↦ (
        let same = (same_line (behind ++ piece) l.size 0 l.rest (tail ++ piece) l.lined (record { line = line; is = ap (λ x. x ++ piece) is ∙ append_assoc line tail piece; is_line = last })).0 in
        let some = l.is_not_last in
        absurd (omega (arith, same, some)))
  ]

  -- a chunk's line stands there, and some of its octets
  in_chunk_grows : (next : List ℕ) → InChunk behind next → length octets ≤ length next + length piece
  in_chunk_grows next p = elim (first_line (behind ++ piece) octets now) [
    | inl none ↦ (let size : length octets ≡ 0 = ap length none in omega (arith, size))
    | inr l ↦ (
        let same = same_line (behind ++ piece) l.size p.size l.rest (next ++ (p.end ++ piece)) l.lined (record { line = p.line; is = ap (λ x. x ++ piece) p.is ∙ append_assoc (p.line ++ next) p.end piece ∙ append_assoc p.line next (p.end ++ piece); is_line = p.is_line }) in
        let size : l.size ≡ p.size = same.0 in
        let within = l.within in
        let rest : length l.rest ≡ length next + (length p.end + length piece) = ap length same.1 ∙ length-append next (p.end ++ piece) ∙ ap (λ n. length next + n) (length-append p.end piece) in
        elim p.is_part [
          | inl less ↦ (let none : length p.end ≡ 0 = ap length less.1 in omega (arith, rest, within, none))
          | inr full ↦ (
              let all : length next ≡ p.size = full.0 in
              let short = short_end p.end full.1 in
              elim l.few [ inl few ↦ omega (arith, few, all, size) | inr few ↦ omega (arith, few, rest, short) ])
        ])
  ]

  -- behind whole chunks
  pub behind_grows : (next : List ℕ) → BehindChunks behind next → length octets ≤ length next + length piece
  behind_grows next (inl p) = elim p.1 [
    | inl in_line ↦ (let came = in_line_grows in_line in omega (arith, came))
    | inr (inl trailers) ↦ (let came = last_grows trailers.line trailers.tail trailers.is trailers.is_last in omega (arith, came))
    | inr (inr past) ↦ (let came = last_grows past.line (past.trailers ++ past.past) (past.is ∙ append_assoc past.line past.trailers past.past) past.is_last in omega (arith, came))
  ]
  behind_grows next (inr p) = in_chunk_grows next p

-- whole chunks stand in a longer text as in its beginning
chunks_grow : (chunks : List (List ℕ)) (front behind next piece octets : List ℕ) → Joined Chunk front chunks → BehindChunks behind next → InChunks (front ++ (behind ++ piece)) octets
    → length octets ≤ length (concat chunks) + length next + length piece
chunks_grow [] front behind next piece octets joined at now =
    let come = behind_grows behind piece octets (subst (λ x. InChunks (x ++ (behind ++ piece)) octets) joined now) next at in
    omega (arith, come)
chunks_grow (chunk ∷ chunks) front behind next piece octets joined at now =
    by now.chunks now.are_chunks now.has_octets (λ others stand. chunks_grow chunks joined.1 behind next piece others joined.4 at stand)
  where
    whole : front ++ (behind ++ piece) ≡ joined.0 ++ (joined.1 ++ (behind ++ piece))
    whole = ap (λ x. x ++ (behind ++ piece)) joined.3 ∙ append_assoc joined.0 joined.1 (behind ++ piece)

    lined : Lined (front ++ (behind ++ piece)) (length chunk) (chunk ++ (crlf ++ (joined.1 ++ (behind ++ piece))))
    lined = record {
      line = joined.2.line;
      is = whole ∙ ap (λ x. x ++ (joined.1 ++ (behind ++ piece))) joined.2.is ∙ append_assoc (joined.2.line ++ chunk) crlf (joined.1 ++ (behind ++ piece)) ∙ append_assoc joined.2.line chunk (crlf ++ (joined.1 ++ (behind ++ piece)));
      is_line = joined.2.has_line;
    }

    sum : length (chunk ++ concat chunks) ≡ length chunk + length (concat chunks)
    sum = length-append chunk (concat chunks)

    by : (others : List (List ℕ)) → Joined Chunk now.front others → octets ≡ concat others ++ now.next
        → ((os : List ℕ) → InChunks (joined.1 ++ (behind ++ piece)) os → length os ≤ length (concat chunks) + length next + length piece) → length octets ≤ length (chunk ++ concat chunks) + length next + length piece
    by [] are has later = elim now.behind_them [
      | inl p ↦ (let none : length octets ≡ 0 = ap length (has ∙ p.0) in omega (arith, none))
      | inr p ↦ (
          let text_is : front ++ (behind ++ piece) ≡ now.behind = now.is ∙ ap (λ x. x ++ now.behind) are in
          let size = (same_line (front ++ (behind ++ piece)) p.size (length chunk) (now.next ++ p.end) (chunk ++ (crlf ++ (joined.1 ++ (behind ++ piece))))
          (record { line = p.line; is = text_is ∙ p.is ∙ append_assoc p.line now.next p.end; is_line = p.is_line }) lined).0 in
          let same : length octets ≡ length now.next = ap length has in
          elim p.is_part [
            | inl part ↦ (let less : length now.next < p.size = part.0 in omega (arith, size, same, less, sum))
            | inr full ↦ (let all : length now.next ≡ p.size = full.0 in omega (arith, size, same, all, sum))
          ])
    ]
    by (other ∷ others) are has later =
        let both : joined.0 ++ (joined.1 ++ (behind ++ piece)) ≡ are.0 ++ (are.1 ++ now.behind) = sym whole ∙ now.is ∙ ap (λ x. x ++ now.behind) are.3 ∙ append_assoc are.0 are.1 now.behind in
        let first = one_response_chunk joined.0 are.0 (joined.1 ++ (behind ++ piece)) (are.1 ++ now.behind) chunk other joined.2 are.2 both in
        let rest = same_rest joined.0 are.0 (joined.1 ++ (behind ++ piece)) (are.1 ++ now.behind) first.0 both in
        let more = later (concat others ++ now.next) (record { chunks = others; front = are.1; behind = now.behind; next = now.next; is = rest; are_chunks = are.4; behind_them = now.behind_them; has_octets = refl }) in
        let all : length octets ≡ length other + length (concat others ++ now.next) = ap length (has ∙ append_assoc other (concat others) now.next) ∙ length-append other (concat others ++ now.next) in
        let size : length chunk ≡ length other = ap length first.1 in
        omega (arith, more, all, size, sum)

-- ---- what is seen in a longer text

stands_grow : (framing : Framing) (text piece before now : List ℕ) → StandsIn framing text before → StandsIn framing (text ++ piece) now → length now ≤ length before + length piece
stands_grow Bodiless text piece before now p q = let none : length now ≡ 0 = ap length q in omega (arith, none)
stands_grow (Chunks named) text piece before now p q =
    let come = chunks_grow p.chunks p.front p.behind p.next piece now p.are_chunks p.behind_them (subst (λ x. InChunks x now) (ap (λ x. x ++ piece) p.is ∙ append_assoc p.front p.behind piece) q) in
    let all : length before ≡ length (concat p.chunks) + length p.next = ap length p.has_octets ∙ length-append (concat p.chunks) p.next in
    omega (arith, come, all)
stands_grow (Sized count) text piece before now p q =
    let old : length before ≡ min count (length text) = ap length p ∙ length-take count text in
    let new : length now ≡ min count (length (text ++ piece)) = ap length q ∙ length-take count (text ++ piece) in
    let whole : length (text ++ piece) ≡ length text + length piece = length-append text piece in
    omega (arith, old, new, whole)
stands_grow UntilEnd text piece before now p q =
    let old : length before ≡ length text = ap length p in
    let new : length now ≡ length text + length piece = ap length q ∙ length-append text piece in
    omega (arith, old, new)

-- where no final head stood, the octets of its body came with it
first_came : (text piece : List ℕ) (to_head : Bool) (hs ks : List Head) (head : Head) (octets : List ℕ) → SeenBefore text hs → SeenBehind (text ++ piece) to_head ks head octets → length octets ≤ length piece
first_came text piece to_head hs ks head octets p q = elim (cases_lt (length q.rest) (length piece)) [
  | inl less ↦ omega (arith, within, less)
  | inr more ↦ absurd (stood (cut_behind (q.front ++ q.head_text) text q.rest piece (sym q.is) more))
]
  where
    within : length octets ≤ length q.rest
    within = stands_within q.framing q.rest octets q.body

    stood : (z : List ℕ) × (q.rest ≡ z ++ piece) × (text ≡ (q.front ++ q.head_text) ++ z) → ⊥
    stood cut =
        let whole : p.front ++ p.rest ≡ q.front ++ (q.head_text ++ cut.0) = sym p.is ∙ cut.2 ∙ append_assoc q.front q.head_text cut.0 in
        let fronts = one_joined Interim one_interim p.front q.front p.rest (q.head_text ++ cut.0) hs ks p.are_interims q.are_interims (none_without_head p.rest p.no_head) (none_at_final to_head q.head_text cut.0 head q.framing q.is_final) whole in
        let rests = same_rest p.front q.front p.rest (q.head_text ++ cut.0) fronts.0 whole in
        p.no_head q.is_final.spelled cut.0 (subst (λ (o : List ℕ). ReadsResponse o q.is_final.spelled cut.0) (sym rests) (spelled_reads q.head_text cut.0 q.is_final.spelled q.is_final.taken.reads))

-- Of a body no more octets are seen than were seen before and came since.
pub seen_grows : (text piece : List ℕ) (to_head : Bool) (hs ks : List Head) (h k : Option Head) (before now : List ℕ) → Seen text to_head hs h before → Seen (text ++ piece) to_head ks k now → length now ≤ length before + length piece
seen_grows text piece to_head hs ks h None before now p q = let none : length now ≡ 0 = ap length q.1 in omega (arith, none)
seen_grows text piece to_head hs ks None (Some k) before now p q = let came = first_came text piece to_head hs ks k now p.0 q in omega (arith, came)
seen_grows text piece to_head hs ks (Some h) (Some k) before now p q =
    let whole : (p.front ++ p.head_text) ++ (p.rest ++ piece) ≡ (q.front ++ q.head_text) ++ q.rest = sym (append_assoc (p.front ++ p.head_text) p.rest piece) ∙ ap (λ x. x ++ piece) (sym p.is) ∙ q.is in
    let same = one_front to_head p.front q.front p.head_text q.head_text (p.rest ++ piece) q.rest hs ks h k p.framing q.framing p.are_interims q.are_interims p.is_final q.is_final whole in
    stands_grow p.framing p.rest piece before now p.body (subst (λ f. StandsIn f (p.rest ++ piece) now) (sym same.final.framing) (subst (λ x. StandsIn q.framing x now) (sym same.final.rest) q.body))

-- ---- a whole response is seen

body_stands : (framing : Framing) (ended : Bool) (text body : List ℕ) (trailers : List Field) → HasBody framing ended text body trailers → StandsIn framing text body
body_stands Bodiless ended text body trailers h = h.0
body_stands (Chunks named) ended text body trailers h = record {
  chunks = h.chunks;
  front = h.front;
  behind = h.line ++ h.section ++ h.past;
  next = [];
  is = h.is ∙ append_assoc (h.front ++ h.line) h.section h.past ∙ append_assoc h.front h.line (h.section ++ h.past) ∙ ap (λ x. h.front ++ x) (sym (append_assoc h.line h.section h.past));
  are_chunks = h.are_chunks;
  behind_them = inl (refl, inr (inr (record { line = h.line; trailers = h.section; past = h.past; is = refl; is_last = h.is_last; are_trailers = h.are_trailers })));
  has_octets = h.is_body ∙ sym (append-nil (concat h.chunks));
}
body_stands (Sized count) ended text body trailers h = sym (take-append_seam body h.0.past) ∙ ap (λ n. take n (body ++ h.0.past)) h.0.has_count ∙ ap (take count) (sym h.0.is)
body_stands UntilEnd ended text body trailers h = sym h.1

-- What a whole response says is seen in its text.
pub whole_seen : (text : List ℕ) (ended to_head : Bool) (response : Response) → H1Response text ended to_head response → Seen text to_head response.interims (Some response.head) response.body
whole_seen text ended to_head response w = record {
  front = w.front;
  head_text = w.head_text;
  rest = w.rest;
  framing = w.framing;
  is = w.is;
  are_interims = w.are_interims;
  few_interims = w.few_interims;
  is_final = w.is_final;
  body = body_stands w.framing ended w.rest response.body response.trailers w.body;
}
