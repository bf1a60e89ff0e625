use Rattle.std.proofs.Common.{rules, ◌≡◌, ℕ, List, Option, get_or, Result, Ok, Err, sym, subst}
use Rattle.std.proofs.lemmas.Cmp.{ranked}
use Rattle.std.proofs.lemmas.List.Sorted.{answers_always}
use Rattle.std.specs.List.Sorted.{IsBinarySearchResult}
use Rattle.std.specs.Ordering.{nat_cmp}
use Rattle.std.specs.Prelude.{IfSome}
use Rattle.std.specs.Result.{result_ok}
use Rattle.clients.specs.declared.client.Client.{Client}
use Rattle.clients.proofs.crowd.place_of.Goals as goal

-- A search by halves ends at a client with that number, or says that it found none.
searched : (clients : List Client) (number : ℕ) (r : Result ℕ ℕ) → IsBinarySearchResult (λ (c : Client). nat_cmp c.number number) clients r
    → IfSome (result_ok r) (λ place. (other : Client) → (get_or clients place other).number ≡ number)
searched clients number (Ok place) equal = λ other. ranked _ number _ (sym (equal other))
searched clients number (Err place) parted = tt

pub returns-clause-found : goal.returns-clause-found
returns-clause-found c =
    let by_number = c.binary_search_by_key.ensures.position (λ c. c.number) (answers_always _ _ _ (λ f a r g called. search rules)) in
    subst (λ (r : Option ℕ). IfSome r (λ place. (other : Client) → (get_or c.args.clients.now place other).number ≡ c.args.number)) (sym c.ok.ensures.value)
    (searched c.args.clients.now c.args.number c.binary_search_by_key.result by_number)
