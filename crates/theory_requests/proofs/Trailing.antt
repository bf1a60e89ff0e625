-- What of a request's trailers is written, and how long their lines are.
use Rattle.std.proofs.Common.{◌≡◌, ℕ, ◌+◌, ◌≤◌, Bool, true, false, List, [], ◌∷◌, ◌++◌, filter, length, length-append, refl, subst, arith}
use Rattle.std.specs.Prelude.{if◌then◌else◌}
use Rattle.std.specs.List.{list_all}
use Rattle.model.specs.Messages.{Field, Item}
use Rattle.model.specs.Messages.Item.{Block, Content}
use Rattle.model.specs.Tables.{total_size}
use Rattle.model.specs.Http1Text.{lines_text}
use Rattle.model.specs.Http2.{first_block, passed_trailers, AreContents, WellFormedTrailers}
use Rattle.request_rules.specs.Heads.{parts_of}
use Rattle.h1_writer.specs.Sending.{Stage, Sending}
use Rattle.h1_writer.specs.Sending.Stage.{Whole}
use Rattle.theory_requests.specs.Written.{is_content, trailers_in, IsWritten}

-- contents have no block
pub none_in_contents : (items : List Item) → list_all is_content items ≡ true → first_block items ≡ []
none_in_contents [] p = refl
none_in_contents (Content octets ends ∷ items) p = none_in_contents items p
none_in_contents (Block fields ends ∷ items) p = let clash : false ≡ true = p in cc

-- behind contents the trailers are those of the item
pub trailers_behind_contents : (items : List Item) (item : Item) → list_all is_content items ≡ true → passed_trailers (first_block (items ++ item ∷ [])) ≡ trailers_in item
trailers_behind_contents [] (Content octets ends) p = refl
trailers_behind_contents [] (Block fields ends) p = refl
trailers_behind_contents (Content octets ends ∷ items) item p = trailers_behind_contents items item p
trailers_behind_contents (Block fields ends ∷ items) item p = let clash : false ≡ true = p in cc

-- no trailers are well formed
pub no_trailers : WellFormedTrailers []
no_trailers = record { no_pseudo_field = refl; names_hold = refl; values_hold = refl; no_connection_field = refl }

-- the trailers behind a head are well formed
pub trailers_well : (items : List Item) → AreContents items → WellFormedTrailers (first_block items)
trailers_well [] a = no_trailers
trailers_well (Content octets ends ∷ items) a = trailers_well items a
trailers_well (Block fields ends ∷ items) a = a.0

-- a text that isn't whole has no trailers yet
pub bare : (keep : Bool) (items : List Item) (text : List ℕ) (stage : Stage) (w : IsWritten keep items text stage) → (stage ≡ Whole → ⊥) → Sending keep (parts_of w.head) w.ended text w.pieces [] stage
bare keep items text stage w part = subst (λ (fields : List Field). Sending keep (parts_of w.head) w.ended text w.pieces (passed_trailers fields) stage) (none_in_contents w.more (w.plain part)) w.sending

-- ---- how long lines are

kept_lines : (t : Bool) (field : Field) (kept fields : List Field) → length (lines_text kept) ≤ total_size fields → length (lines_text (if t then field ∷ kept else kept)) ≤ total_size (field ∷ fields)
unfolding total_size
kept_lines true field kept fields le =
    let line : length (lines_text (field ∷ kept)) ≡ length field.name + length field.value + 4 + length (lines_text kept) = simp length-append (omega arith) in
    omega (arith, le, line)
kept_lines false field kept fields le = omega (arith, le)

filtered_lines : (test : Field → Bool) (fields : List Field) → length (lines_text (filter test fields)) ≤ total_size fields
filtered_lines test [] = omega arith
filtered_lines test (field ∷ fields) = kept_lines (test field) field (filter test fields) fields (filtered_lines test fields)

-- the lines of trailers have no more octets than HPACK counts for them
pub lines_within : (fields : List Field) → length (lines_text (passed_trailers fields)) ≤ total_size fields
lines_within fields = filtered_lines _ fields
