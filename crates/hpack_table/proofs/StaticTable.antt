-- The entries of the code are those of the static table.
use Rattle.std.proofs.Common.{◌≡◌, slice_get, Option, Some, None, MatchOption, ℕ, List, ap, sym, ◌∙◌, subst, Bor}
use Rattle.std.specs.Prelude.{map, option_map}
use Rattle.std.proofs.lemmas.Option.{slice_get-map}
use Rattle.model.specs.Messages.{Field}
use Rattle.model.specs.Tables.{static_table, field_of}

abbrev pub Entry : Type 0
Entry = Bor (List ℕ) × Bor (List ℕ)

abbrev pub entry_field : Entry → Field
entry_field entry = field_of entry.0.now entry.1.now

mapped : (entries : List Entry) (place : ℕ) (r : Option Entry) → r ≡ slice_get entries place
    → MatchOption r (slice_get (map entry_field entries) place ≡ None) (λ p. slice_get (map entry_field entries) place ≡ Some (field_of p.0.now p.1.now))
mapped entries place None e = slice_get-map entry_field entries place ∙ ap (option_map entry_field) (sym e)
mapped entries place (Some p) e = slice_get-map entry_field entries place ∙ ap (option_map entry_field) (sym e)

pub same_entry : (entries : List Entry) (place : ℕ) (r : Option Entry) → map entry_field entries ≡ static_table → r ≡ slice_get entries place
    → MatchOption r (slice_get static_table place ≡ None) (λ p. slice_get static_table place ≡ Some (field_of p.0.now p.1.now))
same_entry entries place r same e =
    let P : List Field → Type 0 = λ t. MatchOption r (slice_get t place ≡ None) (λ p. slice_get t place ≡ Some (field_of p.0.now p.1.now)) in
    subst P same (mapped entries place r e)
