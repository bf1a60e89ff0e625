-- What the parser's answer says of trailers.
use Rattle.std.proofs.Common.{suc, ◌≡◌, ℕ, ◌<◌, ◌≤◌, List, [], ◌∷◌, ◌++◌, length, get_or, take, drop, map, refl, sym, ap, ◌∙◌, subst, append_assoc, length-append, length-take-le, arith}
use Rattle.std.proofs.lemmas.List.{append-nil}
use Rattle.std.proofs.lemmas.List.Elements.{All-nil}
use Rattle.std.proofs.Math.Seq.{take-append_seam}
use Rattle.httparse.specs.Grammar as grammar
use Rattle.httparse.specs.Grammar.{ReadsSection, HasNoSection, MayBecomeSection, LineEnd, print_section}
use Rattle.httparse.specs.declared.spans.HeaderSpan.{HeaderSpan}
use Rattle.httparse.specs.Spans.{IsSectionOf, IsSectionWithin}
use Rattle.httparse.proofs.GrammarLemmas.{ReadsSection-append}
use Rattle.model.specs.Responses.{IsTrailers}
use Rattle.model.specs.Messages.{Field}
use Rattle.model.specs.Http1.{without}
use Rattle.model.specs.Http2.{names_not_in_trailers}
use Rattle.model.specs.ResponseHeads.{named_by_connection, names_of_connection}
use Rattle.response_texts.specs.Heads.{field_from}
use Rattle.response_texts.specs.Trailers.{NeverTrailers, ArePassed}
use Rattle.response_texts.proofs.HeadLemmas.{count_is, meant_at}
use Rattle.response_texts.proofs.Values.{values_of}
use Rattle.response_texts.proofs.FrontLemmas.{EndsIn, ends_any, front_of_longer}

-- trailers begin a text just where they stand there
pub trailers_read : (trailers past : List ℕ) (are : IsTrailers trailers) → ReadsSection (trailers ++ past) are.lines are.last past
trailers_read trailers past are = ReadsSection-append trailers are.lines are.last [] past are.reads

pub whole_trailers : (text : List ℕ) (spans : List HeaderSpan) (used count : ℕ) → IsSectionWithin text spans used count → IsSectionOf text 0 spans (used, count) → count ≤ 100
    → length text ≤ 16384 → ((k : ℕ) → get_or text k 0 < 256) → (connections fields kept : List Field) → fields ≡ map (field_from text) (take count spans)
    → kept ≡ without (names_not_in_trailers ++ names_of_connection ++ named_by_connection connections ++ named_by_connection fields) fields
    → (used ≤ length text) × ArePassed (named_by_connection connections) (take used text) kept
whole_trailers text spans used count within of few short octets connections fields kept fields_are kept_is =
    let counted : count ≡ length of.0 = count_is text spans count of.0 within.count_fits of.2.fields_are in
    let fits : used ≤ length text = within.len_fits in
    let front : length (take used text) ≡ used = length-take-le used text fits in
    let len : used ≡ length (print_section of.0 of.1) = omega (arith, of.2.len_is) in
    let is : take used text ≡ print_section of.0 of.1 ++ [] =
    ap (take used) of.2.reads.1 ∙ ap (λ n. take n (print_section of.0 of.1 ++ drop used text)) len ∙ take-append_seam (print_section of.0 of.1) (drop used text)
    ∙ sym (append-nil (print_section of.0 of.1)) in (
      fits,
      record {
        are = record {
          lines = of.0;
          last = of.1;
          reads = (of.2.reads.0, is);
          is_short = omega arith;
          has_few = omega arith;
          values = values_of of.0 of.1 text (drop used text) of.2.reads.0 of.2.reads.1 octets;
        };
        is = kept_is
            ∙ ap (λ (fs : List Field). without (names_not_in_trailers ++ names_of_connection ++ named_by_connection connections ++ named_by_connection fs) fs)
            (fields_are ∙ meant_at text spans count of.0 of.2.fields_are);
      },
    )

pub never_longer : (text more : List ℕ) → NeverTrailers text → NeverTrailers (text ++ more)
never_longer text more never rest trailers past e are = never (more ++ rest) trailers past (sym (append_assoc text more rest) ∙ e) are

-- what has no trailers in its first 16,384 octets has none that are taken
pub never_so_long : (text more : List ℕ) → HasNoSection text → 16384 ≤ length text → NeverTrailers (text ++ more)
never_so_long text more none long rest trailers past e are =
    let whole : text ++ (more ++ rest) ≡ trailers ++ past = sym (append_assoc text more rest) ∙ e in
    let short : length trailers ≤ 16384 = are.is_short in
    let there : trailers ++ drop (length trailers) text ≡ text = front_of_longer text (more ++ rest) trailers past whole (omega arith) in
    none are.lines are.last (drop (length trailers) text)
    (subst (λ (o : List ℕ). ReadsSection o are.lines are.last (drop (length trailers) text)) there (trailers_read trailers (drop (length trailers) text) are))

-- where trailers end that were not whole before
pub trailers_end : (held octets text : List ℕ) (before taken used : ℕ) → HasNoSection held → before ≡ length held → taken ≤ length octets
    → text ≡ held ++ take taken octets → used ≤ length text → IsTrailers (take used text) → EndsIn held octets text before used
trailers_end held octets text before taken used none is few whole fits p =
    ends_any IsTrailers held octets text before taken used
    (λ front rest are e. none are.lines are.last rest (subst (λ (o : List ℕ). ReadsSection o are.lines are.last rest) (sym e) (trailers_read front rest are))) is few whole fits p

-- nothing is no trailers, and may become ones
pub no_trailers_yet : HasNoSection []
no_trailers_yet [] LineEnd.crlf rest p = let no : [] ≡ 13 ∷ (10 ∷ rest) = p.1 in absurd (lengths (ap length no))
  where
    lengths : 0 ≡ suc (suc (length rest)) → ⊥
    lengths e = absurd (omega arith)
no_trailers_yet [] LineEnd.lf rest p = let no : [] ≡ 10 ∷ rest = p.1 in absurd (lengths (ap length no))
  where
    lengths : 0 ≡ suc (length rest) → ⊥
    lengths e = absurd (omega arith)
no_trailers_yet (line ∷ lines) last rest p =
    let some : 0 < length (print_section (line ∷ lines) last ++ rest) = simp length-append (omega arith) in
    let none : 0 ≡ length (print_section (line ∷ lines) last ++ rest) = ap length p.1 in
    absurd (omega arith)

pub trailers_may_come : MayBecomeSection []
trailers_may_come = (10 ∷ [], [], LineEnd.lf, (All-nil grammar.IsField, refl))
