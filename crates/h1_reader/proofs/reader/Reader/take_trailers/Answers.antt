use Rattle.std.proofs.Common.{◌≡◌, ◌∙◌, [], ◌++◌, List, ℕ, Vec, Global, take, ap, sym, subst, arith}
use Rattle.std.proofs.lemmas.List.{append-nil}
use Rattle.model.specs.ResponseHeads.{named_by_connection}
use Rattle.h1_reader.specs.Parts.{ends_with}
use Rattle.response_texts.specs.SectionFaults.{TrailerFault}
use Rattle.h1_reader.specs.Standing.{State}
use Rattle.response_texts.specs.Trailers.{ArePassed}
use Rattle.h1_reader.specs.declared.reader.Place.TheVariants.{Trailers, Past}
use Rattle.h1_reader.proofs.Steps.{all_taken}
use Rattle.h1_reader.proofs.ChunkSteps.{hears_trailers, hears_end}
use Rattle.h1_reader.proofs.FaultSteps.{fails_trailers}
use Rattle.h1_reader.proofs.Joining.{goes_on}
use Rattle.h1_reader.proofs.Ending.{ends_trailers}
use Rattle.response_texts.proofs.Trailing.{passed_plain, passed_short}
use Rattle.h1_reader.proofs.reader.Reader.take_trailers.Goals as goal

pub end-requires-clause-plain : goal.end-requires-clause-plain
end-requires-clause-plain c = let read = rw c.in-Ok-WholeAt.field-0-is at c.in-Ok-WholeAt.ensures in passed_plain _ _ c.in-Ok-WholeAt.trailers.items read.2

pub end-requires-clause-short : goal.end-requires-clause-short
end-requires-clause-short c = let read = rw c.in-Ok-WholeAt.field-0-is at c.in-Ok-WholeAt.ensures in passed_short _ _ c.in-Ok-WholeAt.trailers.items read.2

pub returns-in-Ok-OnGoing-clause-ok : goal.returns-in-Ok-OnGoing-clause-ok
returns-in-Ok-OnGoing-clause-ok c =
    let read = rw c.in-Ok-OnGoing.field-0-is at c.in-Ok-OnGoing.ensures in
    let held : c.replace-held.result.items ≡ c.args.self.now.held.octets = ap (λ (v : Vec ℕ Global). v.items) c.replace-held.ensures.value ∙ ap (λ (s : State). s.held.octets) c.self.view_is in
    let place : c.self.inside.place ≡ Trailers = ap (λ (s : State). s.place) c.self.view_is ∙ c.requires.place in (
      c.requires.octets,
      omega arith,
      goes_on _ _ _ _ _ (
        [],
        sym (append-nil c.args.told.now),
        all_taken c.args.self.now _ c.args.octets.now []
            (hears_trailers c.args.self.now _ c.args.octets.now c.in-Ok-OnGoing.text.items c.requires.place
            (read.0 ∙ ap (λ (o : List ℕ). o ++ c.args.octets.now) held) read.2 read.3 read.1
            (λ i. record { to_head = (c.self.view_is i).to_head; place = place i; held = record { octets = c.in-Ok-OnGoing.text.items; connections = (c.self.view_is i).held.connections; keeps = (c.self.view_is i).held.keeps } })),
      ),
    )

pub returns-in_ok-end-in-Ok-WholeAt-clause-ok : goal.returns-in_ok-end-in-Ok-WholeAt-clause-ok
returns-in_ok-end-in-Ok-WholeAt-clause-ok c =
    let read = rw c.in-Ok-WholeAt.field-0-is at c.in-Ok-WholeAt.ensures in
    let held : c.replace-held.result.items ≡ c.args.self.now.held.octets = ap (λ (v : Vec ℕ Global). v.items) c.replace-held.ensures.value ∙ ap (λ (s : State). s.held.octets) c.self.view_is in
    let names : named_by_connection c.deref.result.now ≡ named_by_connection c.args.self.now.held.connections = ap named_by_connection (c.deref.ensures.value ∙ ap (λ (s : State). s.held.connections) c.self.view_is) in (
      read.0,
      read.1,
      goes_on _ _ _ _ _ (
        ends_with c.in-Ok-WholeAt.trailers.items,
        c.in_ok-end-in-Ok-WholeAt.ensures,
        hears_end c.args.self.now _ (take c.in-Ok-WholeAt.used c.args.octets.now) (record { octets = c.replace-held.new.dest.items; connections = c.self.inside.connections.items; keeps = c.self.inside.keeps }) c.in-Ok-WholeAt.trailers.items c.requires.place
            (subst (λ (n : List (List ℕ)). ArePassed n (c.args.self.now.held.octets ++ take c.in-Ok-WholeAt.used c.args.octets.now) c.in-Ok-WholeAt.trailers.items) names
            (subst (λ (o : List ℕ). ArePassed (named_by_connection c.deref.result.now) (o ++ take c.in-Ok-WholeAt.used c.args.octets.now) c.in-Ok-WholeAt.trailers.items) held read.2))
            (λ i. record { to_head = (c.self.view_is i).to_head; place = Past; held = record { octets = c.replace-held.new.dest.items; connections = c.self.inside.connections.items; keeps = c.self.inside.keeps } }),
      ),
    )

pub returns-in-Err-clause-fault : goal.returns-in-Err-clause-fault
returns-in-Err-clause-fault c =
    let held : c.replace-held.result.items ≡ c.args.self.now.held.octets = ap (λ (v : Vec ℕ Global). v.items) c.replace-held.ensures.value ∙ ap (λ (s : State). s.held.octets) c.self.view_is in
    λ n. fails_trailers c.args.self.now c.in-Err.fault c.args.octets.now c.requires.place
    (subst (λ (o : List ℕ). TrailerFault c.in-Err.fault (o ++ c.args.octets.now)) held (c.in-Err.ensures n))

pub returns-in_ok-end-in-Ok-WholeAt-clause-ends : goal.returns-in_ok-end-in-Ok-WholeAt-clause-ends
returns-in_ok-end-in-Ok-WholeAt-clause-ends c =
    let read = rw c.in-Ok-WholeAt.field-0-is at c.in-Ok-WholeAt.ensures in
    let held : c.replace-held.result.items ≡ c.args.self.now.held.octets = ap (λ (v : Vec ℕ Global). v.items) c.replace-held.ensures.value ∙ ap (λ (s : State). s.held.octets) c.self.view_is in
    let names : named_by_connection c.deref.result.now ≡ named_by_connection c.args.self.now.held.connections = ap named_by_connection (c.deref.ensures.value ∙ ap (λ (s : State). s.held.connections) c.self.view_is) in
    ends_trailers c.args.self.now (record { to_head = c.args.self.now.to_head; place = Past; held = c.args.self.now.held }) (take c.in-Ok-WholeAt.used c.args.octets.now) c.in-Ok-WholeAt.trailers.items c.requires.place
    (subst (λ (n : List (List ℕ)). ArePassed n (c.args.self.now.held.octets ++ take c.in-Ok-WholeAt.used c.args.octets.now) c.in-Ok-WholeAt.trailers.items) names
    (subst (λ (o : List ℕ). ArePassed (named_by_connection c.deref.result.now) (o ++ take c.in-Ok-WholeAt.used c.args.octets.now) c.in-Ok-WholeAt.trailers.items) held read.2))
