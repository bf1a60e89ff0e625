-- What has a fault is no Huffman text.
use Rattle.std.proofs.Common.{◌≡◌, ℕ, ◌<◌, List, [], ◌∷◌, ◌++◌, refl, ap, sym, ◌∙◌, append_assoc}
use Rattle.std.specs.Prelude.{replicate}
use Rattle.std.proofs.lemmas.List.{append_cancel_left}
use Rattle.model.specs.Huffman.{octet_bits, AreCodes, Huff}
use Rattle.model.proofs.HuffmanLemmas.{one_code, not_padding}
use Rattle.huffman.specs.Decoding.{BeginsWith, LongestRun, IsFaultOf}
use Rattle.huffman.specs.declared.decoder.HuffFault.{HuffFault}
use Rattle.huffman.specs.declared.decoder.HuffFault.TheVariants.{Eos, Padding, Memory}

-- what is left after the longest run is the padding
rest_is : (coded rest : List ℕ) (string : List ℕ) (c : List ℕ) (s : List ℕ) (k : ℕ) → AreCodes coded string → ((octet : ℕ) → octet < 256 → BeginsWith octet rest → ⊥) → AreCodes c s → k < 8
    → coded ++ rest ≡ c ++ replicate k 1 → rest ≡ replicate k 1
rest_is coded rest [] c [] k p ends q hk e = sym (ap (λ o. o ++ rest) p) ∙ e ∙ ap (λ o. o ++ replicate k 1) q
rest_is coded rest [] c (o ∷ s) k p ends q hk e =
    let whole : rest ≡ q.0 ++ (q.1 ++ replicate k 1) = sym (ap (λ l. l ++ rest) p) ∙ e ∙ ap (λ l. l ++ replicate k 1) q.4 ∙ append_assoc q.0 q.1 (replicate k 1) in
    absurd (ends o q.2 (record { code = q.0; more = q.1 ++ replicate k 1; is_code = q.3; is = whole }))
rest_is coded rest (o ∷ string) c [] k p ends q hk e =
    let whole : p.0 ++ (p.1 ++ rest) ≡ replicate k 1 = sym (append_assoc p.0 p.1 rest) ∙ sym (ap (λ l. l ++ rest) p.4) ∙ e ∙ ap (λ l. l ++ replicate k 1) q in
    absurd (not_padding o p.0 (p.1 ++ rest) k p.3 hk whole)
rest_is coded rest (o ∷ string) c (u ∷ s) k p ends q hk e =
    let whole : p.0 ++ (p.1 ++ rest) ≡ q.0 ++ (q.1 ++ replicate k 1) =
    sym (append_assoc p.0 p.1 rest) ∙ sym (ap (λ l. l ++ rest) p.4) ∙ e ∙ ap (λ l. l ++ replicate k 1) q.4 ∙ append_assoc q.0 q.1 (replicate k 1) in
    let same = one_code o u p.0 q.0 (p.1 ++ rest) (q.1 ++ replicate k 1) p.3 q.3 whole in
    let more = append_cancel_left q.0 (p.1 ++ rest) (q.1 ++ replicate k 1) (ap (λ l. l ++ (p.1 ++ rest)) (sym same.1) ∙ whole) in
    rest_is p.1 rest string q.1 s k p.5 ends q.5 hk more

run_rest : (octets string rest s : List ℕ) (r : LongestRun (octet_bits octets) string rest) (h : Huff octets s) → rest ≡ replicate h.padding 1
run_rest octets string rest s r h = rest_is r.coded rest string h.coded s h.padding r.are_codes r.ends h.are_codes h.is_short (sym r.is ∙ h.is)

-- what is answered of text that has a string
pub no_text : (octets s : List ℕ) (fault : HuffFault) → (fault ≡ Memory → ⊥) → IsFaultOf octets fault → Huff octets s → ⊥
no_text octets s Eos other f h =
    let rest = run_rest octets f.string f.rest s f.run h in
    not_padding 256 f.eos.code f.eos.more h.padding f.eos.is_code h.is_short (sym f.eos.is ∙ rest)
no_text octets s Padding other f h =
    let rest = run_rest octets f.string f.rest s f.run h in
    f.no_padding (record { padding = h.padding; is_short = h.is_short; is = rest })
no_text octets s Memory other f h = other refl
