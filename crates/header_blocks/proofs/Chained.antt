-- A block grows by maxima, then by fields.
use Rattle.std.proofs.Common.{◌≡◌, ℕ, ◌+◌, ◌-◌, ◌≤◌, if◌then◌else◌, List, [], ◌∷◌, ◌++◌, length, take, drop, Option, Some, None, refl, ap, sym, ◌∙◌, subst, arith, append_assoc}
use Rattle.std.proofs.lemmas.List.{append-nil, take_rest, take_all}
use Rattle.std.proofs.Math.Seq.{take-add}
use Rattle.model.specs.Messages.{Field}
use Rattle.model.specs.Tables.{Table, added, resized}
use Rattle.model.specs.Blocks.{Represents, AreMaxima, IsNewMaximum, IsBlock, Block}
use Rattle.header_blocks.specs.Gathering.{Holds, Finishes}
use Rattle.header_blocks.specs.Represented.{TakesField}
use Rattle.header_blocks.specs.Decoding.{TakesMaximum, TakesMaxima, Settles, GathersFrom, DecodesFrom}
use Rattle.header_blocks.specs.declared.fields.TakenField.{TakenField}
use Rattle.header_blocks.specs.declared.gather.Decoded.{Decoded}
use Rattle.header_blocks.specs.declared.gather.Decoded.TheVariants.{Fields, TooLarge}
use Rattle.header_blocks.proofs.Gathered.{fields_then, within_rest}

maxima_then : (table next : Table) (a b : List ℕ) (maxima : List ℕ) (maximum : ℕ) → AreMaxima table a maxima next → IsNewMaximum b maximum → AreMaxima table (a ++ b) (maxima ++ maximum ∷ []) (resized maximum next)
maxima_then table next a b [] maximum p m = (b, [], ap (λ o. o ++ b) p.0 ∙ sym (append-nil b), m, (refl, ap (resized maximum) p.1))
maxima_then table next a b (first ∷ maxima) maximum p m =
    (p.0, p.1 ++ b, ap (λ o. o ++ b) p.2 ∙ append_assoc p.0 p.1 b, p.3, maxima_then (resized first table) next p.1 b maxima maximum p.4 m)

pub no_maxima : (table : Table) (block : List ℕ) → TakesMaxima table block 0 table
no_maxima table block = record { within = omega arith; maxima = []; are_maxima = (refl, refl) }

pub more_maxima : (first now next : Table) (block : List ℕ) (start used maximum : ℕ) → TakesMaxima first block start now → TakesMaximum (take (length block - start) (drop start block)) maximum used
    → next ≡ resized maximum now → TakesMaxima first block (start + used) next
more_maxima first now next block start used maximum p m is =
    let here : IsNewMaximum (take used (drop start block)) maximum = subst (λ t. IsNewMaximum (take used t) maximum) (take_rest block start) m.is_maximum in
    let fits : used ≤ length block - start = within_rest block start used m.within in
    let within = p.within in
    record {
      within = omega (arith, fits, within);
      maxima = p.maxima ++ maximum ∷ [];
      are_maxima = subst (λ t. AreMaxima first t (p.maxima ++ maximum ∷ []) next) (sym (take-add start used block))
          (subst (λ t. AreMaxima first (take start block ++ take used (drop start block)) (p.maxima ++ maximum ∷ []) t) (sym is) (maxima_then first now (take start block) (take used (drop start block)) p.maxima maximum p.are_maxima here));
    }

abbrev pub gathers_start : (first now : Table) (block : List ℕ) (start cap : ℕ) (kept : List Field) (room : Option ℕ) → TakesMaxima first block start now → Holds cap [] kept room → GathersFrom first (take start block) cap kept room now
gathers_start first now block start cap kept room p h = record {
  maxima = p.maxima;
  all = [];
  is_block = record { front = take start block; rest = []; between = now; is = sym (append-nil (take start block)); are_maxima = p.are_maxima; are_fields = (refl, refl) };
  holds = h;
}

abbrev pub gathers_field : (first now next : Table) (block : List ℕ) (start cap : ℕ) (taken : TakenField) (kept more : List Field) (room rest : Option ℕ) → GathersFrom first (take start block) cap kept room now
    → TakesField now (take (length block - start) (drop start block)) taken → Settles taken now next kept room more rest → GathersFrom first (take (start + taken.used) block) cap more rest next
gathers_field first now next block start cap taken kept more room rest g t s =
    let b = g.is_block in
    let octets : List ℕ = take taken.used (drop start block) in
    let here : Represents now octets taken.field (if taken.inserts then added taken.field now else now) =
    subst (λ o. Represents now (take taken.used o) taken.field (if taken.inserts then added taken.field now else now)) (take_rest block start) t.is_field in
    let there : Represents now octets taken.field next = subst (λ n. Represents now octets taken.field n) (sym s.table) here in
    record {
      maxima = g.maxima;
      all = g.all ++ taken.field ∷ [];
      is_block = record {
        front = b.front;
        rest = b.rest ++ octets;
        between = b.between;
        is = take-add start taken.used block ∙ ap (λ o. o ++ octets) b.is ∙ append_assoc b.front b.rest octets;
        are_maxima = b.are_maxima;
        are_fields = fields_then b.between now next b.rest octets g.all taken.field b.are_fields there;
      };
      holds = s.gathered cap g.all g.holds;
    }

pub decodes : (first now : Table) (block : List ℕ) (start cap : ℕ) (kept : List Field) (room : Option ℕ) (decoded : Decoded) → length block ≤ start → GathersFrom first (take start block) cap kept room now → Finishes kept room decoded
    → DecodesFrom first block cap now decoded
decodes first now block start cap kept room decoded past g f =
    let whole : Block first block g.all now = record { maxima = g.maxima; is_block = subst (λ o. IsBlock first o g.maxima g.all now) (take_all start block past) g.is_block } in
    answer room decoded g.all whole g.holds f
  where
    answer : (room : Option ℕ) (decoded : Decoded) (all : List Field) → Block first block all now → Holds cap all kept room → Finishes kept room decoded → DecodesFrom first block cap now decoded
    answer (Some left) (Fields fields) all b h f =
        let same : fields.items ≡ all = f ∙ h.0 in
        record { is_block = subst (λ l. Block first block l now) (sym same) b; fits = rw same (omega (arith, h.1)) }
    answer (Some left) TooLarge all b h f = absurd f
    answer None (Fields fields) all b h f = absurd f
    answer None TooLarge all b h f = record { fields = all; is_block = b; over = h }
