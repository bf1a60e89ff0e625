-- What the first broken rule says of the tests by which a block is malformed.
use Rattle.std.proofs.Common.{◌≡◌, ℕ, zero, suc, Bool, true, false, List, [], Some, None, refl, subst, take, not, ◌&&◌, ◌||◌, arith}
use Rattle.std.specs.Prelude.{Option}
use Rattle.std.proofs.lemmas.Bool.Decides.{nat_tests}
use Rattle.model.specs.Messages.{Field}
use Rattle.model.specs.Http2.{WellFormedHead, WellFormedTrailers, HasLength, declared_length}
use Rattle.model.specs.Malformed.{is_well_formed, are_trailers, has_length, carried_by, is_malformed_block}
use Rattle.model.proofs.MalformedLaws.{head_holds, head_told, trailers_hold}
use Rattle.request_rules.specs.declared.rule.Rule.{Rule}
use Rattle.request_rules.specs.declared.rule.Rule.TheVariants as rule
use Rattle.request_rules.specs.Rules.{Keeps, IsFirstBroken, IsFirstBrokenByTrailers, in_order, place}

length_told : (declared : Option ℕ) → HasLength declared [] → has_length declared 0 ≡ true
length_told None h = refl
length_told (Some n) h = grind (arith, nat_tests)

-- a head that keeps the rules passes
pub head_passes : (fields : List Field) (ends : Bool) → WellFormedHead fields → (ends ≡ true → HasLength (declared_length fields) []) → is_malformed_block (carried_by [] false) fields ends ≡ false
head_passes fields false w l = rw (head_told fields w) refl
head_passes fields true w l = rw (head_told fields w, length_told (declared_length fields) (l refl)) refl

-- so does one that keeps all of them
pub kept_passes : (fields : List Field) (ends : Bool) → Keeps (take 11 in_order) fields ends → is_malformed_block (carried_by [] false) fields ends ≡ false
kept_passes fields ends (pseudo, (names, (values, (connection, (te, (method, (scheme, (path, (authority, (length_field, (length, none))))))))))) =
    head_passes fields ends (record {
      pseudo_fields_hold = pseudo;
      names_hold = names;
      values_hold = values;
      no_connection_field = connection;
      te_holds = te;
      method_holds = method;
      scheme_holds = scheme;
      path_holds = path;
      authority_holds = authority;
      length_holds = length_field;
    }) length

-- and one of which nothing but memory was wrong
pub memory_passes : (r : Rule) (fields : List Field) (ends : Bool) → IsFirstBroken r fields ends → r ≡ rule.Memory → is_malformed_block (carried_by [] false) fields ends ≡ false
memory_passes r fields ends h e = kept_passes fields ends (subst (λ (x : Rule). Keeps (take (place x) in_order) fields ends) e h.kept)

length_broken : (declared : Option ℕ) (ends : Bool) → ((ends ≡ true → HasLength declared []) → ⊥) → (ends && not (has_length declared 0)) ≡ true
length_broken declared false h = absurd (h (λ e. absurd (cc)))
length_broken None true h = absurd (h (λ e. tt))
length_broken (Some zero) true h = absurd (h (λ e. refl))
length_broken (Some (suc n)) true h = grind (arith, nat_tests)

-- a rule that is broken, where all hold that make the head well formed, is that of the length
broken : (r : Rule) (fields : List Field) (ends : Bool) → WellFormedHead fields → (r ≡ rule.Memory → ⊥) → IsFirstBroken r fields ends → (ends && not (has_length (declared_length fields) 0)) ≡ true
broken rule.PseudoField fields ends w n h = absurd (h.broken w.pseudo_fields_hold)
broken rule.Name fields ends w n h = absurd (h.broken w.names_hold)
broken rule.Value fields ends w n h = absurd (h.broken w.values_hold)
broken rule.ConnectionField fields ends w n h = absurd (h.broken w.no_connection_field)
broken rule.Te fields ends w n h = absurd (h.broken w.te_holds)
broken rule.Method fields ends w n h = absurd (h.broken w.method_holds)
broken rule.Scheme fields ends w n h = absurd (h.broken w.scheme_holds)
broken rule.Path fields ends w n h = absurd (h.broken w.path_holds)
broken rule.Authority fields ends w n h = absurd (h.broken w.authority_holds)
broken rule.ContentLength fields ends w n h = absurd (h.broken w.length_holds)
broken rule.Length fields ends w n h = length_broken (declared_length fields) ends h.broken
broken rule.Memory fields ends w n h = absurd (n refl)

either_way : (well_formed wrong : Bool) → (well_formed ≡ true → wrong ≡ true) → (not well_formed || wrong) ≡ true
either_way true wrong h = h refl
either_way false wrong h = refl

-- a head that breaks one is malformed
pub head_fails : (r : Rule) (fields : List Field) (ends : Bool) → IsFirstBroken r fields ends → (r ≡ rule.Memory → ⊥) → is_malformed_block (carried_by [] false) fields ends ≡ true
head_fails r fields ends h n = either_way (is_well_formed fields) (ends && not (has_length (declared_length fields) 0)) (λ e. broken r fields ends (head_holds fields e) n h)

no_trailers : (r : Rule) (fields : List Field) → IsFirstBrokenByTrailers r fields → (r ≡ rule.Memory → ⊥) → are_trailers fields ≡ true → ⊥
no_trailers rule.PseudoField fields h n e = h.broken (trailers_hold fields e).no_pseudo_field
no_trailers rule.Name fields h n e = h.broken (trailers_hold fields e).names_hold
no_trailers rule.Value fields h n e = h.broken (trailers_hold fields e).values_hold
no_trailers rule.ConnectionField fields h n e = h.broken (trailers_hold fields e).no_connection_field
no_trailers rule.Te fields h n e = h.broken tt
no_trailers rule.Method fields h n e = h.broken tt
no_trailers rule.Scheme fields h n e = h.broken tt
no_trailers rule.Path fields h n e = h.broken tt
no_trailers rule.Authority fields h n e = h.broken tt
no_trailers rule.ContentLength fields h n e = h.broken tt
no_trailers rule.Length fields h n e = h.broken tt
no_trailers rule.Memory fields h n e = n refl

is_false : (b : Bool) → (b ≡ true → ⊥) → b ≡ false
is_false true n = absurd (n refl)
is_false false n = refl

-- trailers that break a rule are none
pub trailers_fail : (r : Rule) (fields : List Field) → IsFirstBrokenByTrailers r fields → (r ≡ rule.Memory → ⊥) → are_trailers fields ≡ false
trailers_fail r fields h n = is_false (are_trailers fields) (no_trailers r fields h n)

-- where nothing but memory is wrong they keep all rules
pub trailers_kept : (fields : List Field) → WellFormedTrailers fields → IsFirstBrokenByTrailers rule.Memory fields
trailers_kept fields w = record {
  kept = (w.no_pseudo_field, (w.names_hold, (w.values_hold, (w.no_connection_field, (tt, (tt, (tt, (tt, (tt, (tt, (tt, tt)))))))))));
  broken = λ e. e;
}
