use Rattle.std.proofs.Common.{◌≡◌, ◌+◌, ◌∙◌, ◌∷◌, [], ◌++◌, List, ℕ, Vec, Global, length, take, refl, ap, sym, subst, arith}
use Rattle.std.specs.Prelude.{◌&&◌}
use Rattle.std.proofs.lemmas.List.{append-nil}
use Rattle.model.specs.ResponseHeads as model
use Rattle.model.specs.ResponseHeads.{named_by_connection}
use Rattle.h1_reader.specs.Parts.Part.{Interim}
use Rattle.response_texts.specs.SectionFaults.{HeadFault}
use Rattle.h1_reader.specs.Standing.{State}
use Rattle.h1_reader.specs.declared.reader.Place.TheVariants.{Head}
use Rattle.response_texts.specs.Framings.{framing_view}
use Rattle.response_texts.specs.Heads.{IsFinalRead}
use Rattle.h1_reader.specs.Keeps.{ends_itself}
use Rattle.h1_reader.proofs.Steps.{nothing_held, kept_head, hears_more, hears_interim, hears_final, all_taken}
use Rattle.h1_reader.proofs.FaultSteps.{fails_head, fails_ninth}
use Rattle.h1_reader.proofs.Joining.{goes_on}
use Rattle.h1_reader.proofs.KeepSteps.{learns_before, learns_final}
use Rattle.h1_reader.proofs.Ending.{ends_final}
use Rattle.h1_reader.proofs.reader.Reader.take_head.Goals as goal

pub invariant_of-self-then-interims-ge-MOST_INTERIMS : goal.invariant_of-self-then-interims-ge-MOST_INTERIMS
invariant_of-self-then-interims-ge-MOST_INTERIMS c =
    let nothing : c.replace-held.new.dest.items ≡ [] = ap (λ (v : Vec ℕ Global). v.items) c.replace-held.ensures.after ∙ c.new.ensures.items in
    kept_head c.self.inside.place c.args.interims c.replace-held.new.dest.items c.self.inside.connections.items c.self.invariant.1 (ap (λ (s : State). s.place) c.self.view_is ∙ c.requires.place) nothing

pub invariant_of-self-in_err-interim-in-Ok-InterimAt : goal.invariant_of-self-in_err-interim-in-Ok-InterimAt
invariant_of-self-in_err-interim-in-Ok-InterimAt c =
    let nothing : c.replace-held.new.dest.items ≡ [] = ap (λ (v : Vec ℕ Global). v.items) c.replace-held.ensures.after ∙ c.new.ensures.items in
    kept_head c.self.inside.place c.args.interims c.replace-held.new.dest.items c.self.inside.connections.items c.self.invariant.1 (ap (λ (s : State). s.place) c.self.view_is ∙ c.requires.place) nothing

pub invariant_of-self-in-Ok-InterimAt : goal.invariant_of-self-in-Ok-InterimAt
invariant_of-self-in-Ok-InterimAt c =
    let nothing : c.replace-held.new.dest.items ≡ [] = ap (λ (v : Vec ℕ Global). v.items) c.replace-held.ensures.after ∙ c.new.ensures.items in
    nothing_held c.replace-held.new.dest.items c.self.inside.connections.items c.self.invariant.1 nothing

pub invariant_of-self-in_err-head-in-Ok-FinalAt : goal.invariant_of-self-in_err-head-in-Ok-FinalAt
invariant_of-self-in_err-head-in-Ok-FinalAt c =
    let nothing : c.replace-held.new.dest.items ≡ [] = ap (λ (v : Vec ℕ Global). v.items) c.replace-held.ensures.after ∙ c.new.ensures.items in
    kept_head c.self.inside.place c.args.interims c.replace-held.new.dest.items c.self.inside.connections.items c.self.invariant.1 (ap (λ (s : State). s.place) c.self.view_is ∙ c.requires.place) nothing

pub invariant_of-self-in-Ok-FinalAt : goal.invariant_of-self-in-Ok-FinalAt
invariant_of-self-in-Ok-FinalAt c =
    let nothing : c.replace-held.new.dest.items ≡ [] = ap (λ (v : Vec ℕ Global). v.items) c.replace-held.ensures.after ∙ c.new.ensures.items in
    kept_head c.self.inside.place c.args.interims c.replace-held.new.dest.items c.in-Ok-FinalAt.connections.items ((rw c.in-Ok-FinalAt.field-0-is at c.in-Ok-FinalAt.ensures).3) (ap (λ (s : State). s.place) c.self.view_is ∙ c.requires.place) nothing

pub invariant_of-self-in-Err : goal.invariant_of-self-in-Err
invariant_of-self-in-Err c =
    let nothing : c.replace-held.new.dest.items ≡ [] = ap (λ (v : Vec ℕ Global). v.items) c.replace-held.ensures.after ∙ c.new.ensures.items in
    kept_head c.self.inside.place c.args.interims c.replace-held.new.dest.items c.self.inside.connections.items c.self.invariant.1 (ap (λ (s : State). s.place) c.self.view_is ∙ c.requires.place) nothing

pub returns-then-interims-ge-MOST_INTERIMS-clause-fault : goal.returns-then-interims-ge-MOST_INTERIMS-clause-fault
returns-then-interims-ge-MOST_INTERIMS-clause-fault c =
    let read = rw c.in-Ok-InterimAt.field-0-is at c.in-Ok-InterimAt.ensures in
    let held : c.replace-held.result.items ≡ c.args.self.now.held.octets = ap (λ (v : Vec ℕ Global). v.items) c.replace-held.ensures.value ∙ ap (λ (s : State). s.held.octets) c.self.view_is in
    λ _. fails_ninth c.args.self.now c.args.interims c.in-Ok-InterimAt.used c.args.octets.now c.in-Ok-InterimAt.head c.requires.place c.if-interims-ge-MOST_INTERIMS.true
    (subst (λ (o : List ℕ). model.Interim (o ++ take c.in-Ok-InterimAt.used c.args.octets.now) c.in-Ok-InterimAt.head) held read.2)

pub returns-in-Err-clause-fault : goal.returns-in-Err-clause-fault
returns-in-Err-clause-fault c =
    let held : c.replace-held.result.items ≡ c.args.self.now.held.octets = ap (λ (v : Vec ℕ Global). v.items) c.replace-held.ensures.value ∙ ap (λ (s : State). s.held.octets) c.self.view_is in
    λ n. fails_head c.args.self.now c.args.interims c.in-Err.fault c.args.octets.now c.requires.place
    (subst (λ (o : List ℕ). HeadFault c.in-Err.fault c.args.self.now.to_head 0 (o ++ c.args.octets.now)) held
    (subst (λ t. HeadFault c.in-Err.fault t 0 (c.replace-held.result.items ++ c.args.octets.now)) (ap (λ (s : State). s.to_head) c.self.view_is) (c.in-Err.ensures n)))

pub returns-in-Ok-OnGoing-clause-ok : goal.returns-in-Ok-OnGoing-clause-ok
returns-in-Ok-OnGoing-clause-ok c =
    let read = rw c.in-Ok-OnGoing.field-0-is at c.in-Ok-OnGoing.ensures in
    let held : c.replace-held.result.items ≡ c.args.self.now.held.octets = ap (λ (v : Vec ℕ Global). v.items) c.replace-held.ensures.value ∙ ap (λ (s : State). s.held.octets) c.self.view_is in
    let place : c.self.inside.place ≡ Head c.args.interims = ap (λ (s : State). s.place) c.self.view_is ∙ c.requires.place in (
      c.requires.octets,
      omega arith,
      goes_on _ _ _ _ _ (
        [],
        sym (append-nil c.args.told.now),
        all_taken c.args.self.now _ c.args.octets.now []
            (hears_more c.args.self.now _ c.args.interims c.args.octets.now c.in-Ok-OnGoing.text.items c.requires.place
            (read.0 ∙ ap (λ (o : List ℕ). o ++ c.args.octets.now) held) read.2 read.3 read.1
            (λ i. record { to_head = (c.self.view_is i).to_head; place = place i; held = record { octets = c.in-Ok-OnGoing.text.items; connections = (c.self.view_is i).held.connections; keeps = (c.self.view_is i).held.keeps } })),
      ),
    )

pub returns-in_ok-interim-in-Ok-InterimAt-clause-ok : goal.returns-in_ok-interim-in-Ok-InterimAt-clause-ok
returns-in_ok-interim-in-Ok-InterimAt-clause-ok c =
    let read = rw c.in-Ok-InterimAt.field-0-is at c.in-Ok-InterimAt.ensures in
    let held : c.replace-held.result.items ≡ c.args.self.now.held.octets = ap (λ (v : Vec ℕ Global). v.items) c.replace-held.ensures.value ∙ ap (λ (s : State). s.held.octets) c.self.view_is in
    let nothing : c.replace-held.new.dest.items ≡ [] = ap (λ (v : Vec ℕ Global). v.items) c.replace-held.ensures.after ∙ c.new.ensures.items in (
      read.0,
      read.1,
      goes_on _ _ _ _ _ (
        Interim c.in-Ok-InterimAt.head ∷ [],
        c.in_ok-interim-in-Ok-InterimAt.ensures,
        hears_interim c.args.self.now _ c.args.interims (take c.in-Ok-InterimAt.used c.args.octets.now) c.in-Ok-InterimAt.head c.requires.place c.if-interims-ge-MOST_INTERIMS.false
            (subst (λ (o : List ℕ). model.Interim (o ++ take c.in-Ok-InterimAt.used c.args.octets.now) c.in-Ok-InterimAt.head) held read.2)
            (λ i. record { to_head = (c.self.view_is i).to_head; place = Head (c.args.interims + 1); held = record { octets = nothing i; connections = (c.self.view_is i).held.connections; keeps = (c.self.view_is i).held.keeps } }),
      ),
    )

pub returns-in_ok-begin_body-in-Ok-FinalAt-clause-ok : goal.returns-in_ok-begin_body-in-Ok-FinalAt-clause-ok
returns-in_ok-begin_body-in-Ok-FinalAt-clause-ok c =
    let read = rw c.in-Ok-FinalAt.field-0-is at c.in-Ok-FinalAt.ensures in
    let held : c.replace-held.result.items ≡ c.args.self.now.held.octets = ap (λ (v : Vec ℕ Global). v.items) c.replace-held.ensures.value ∙ ap (λ (s : State). s.held.octets) c.self.view_is in (
      read.0,
      read.1,
      goes_on _ _ _ _ _ (hears_final c.args.self.now (record { to_head = c.self.inside.to_head; place = c.self.inside.place; held = record { octets = c.replace-held.new.dest.items; connections = c.in-Ok-FinalAt.connections.items; keeps = c.is_kept-self-inside.result } }) c.begin_body.new.self c.args.interims (take c.in-Ok-FinalAt.used c.args.octets.now) c.in-Ok-FinalAt.head c.in-Ok-FinalAt.framing c.args.told.now c.head-in-Ok-FinalAt.new.self c.begin_body.new.told c.requires.place
          (subst (λ (o : List ℕ). model.Final c.args.self.now.to_head (o ++ take c.in-Ok-FinalAt.used c.args.octets.now) c.in-Ok-FinalAt.head (framing_view (named_by_connection c.in-Ok-FinalAt.connections.items) c.in-Ok-FinalAt.framing)) held
          (subst (λ t. model.Final t (c.replace-held.result.items ++ take c.in-Ok-FinalAt.used c.args.octets.now) c.in-Ok-FinalAt.head (framing_view (named_by_connection c.in-Ok-FinalAt.connections.items) c.in-Ok-FinalAt.framing)) (ap (λ (s : State). s.to_head) c.self.view_is) read.2.0))
          (ap (λ (s : State). s.to_head) c.self.view_is) c.in_ok-begin_body-in-Ok-FinalAt.ensures.ok c.in_ok-head-in-Ok-FinalAt.ensures),
    )

pub returns-in_ok-begin_body-in-Ok-FinalAt-clause-ends : goal.returns-in_ok-begin_body-in-Ok-FinalAt-clause-ends
returns-in_ok-begin_body-in-Ok-FinalAt-clause-ends c =
    let read = rw c.in-Ok-FinalAt.field-0-is at c.in-Ok-FinalAt.ensures in
    let held : c.replace-held.result.items ≡ c.args.self.now.held.octets = ap (λ (v : Vec ℕ Global). v.items) c.replace-held.ensures.value ∙ ap (λ (s : State). s.held.octets) c.self.view_is in
    ends_final c.args.self.now c.begin_body.new.self c.args.interims (take c.in-Ok-FinalAt.used c.args.octets.now) c.in-Ok-FinalAt.head c.in-Ok-FinalAt.framing (named_by_connection c.in-Ok-FinalAt.connections.items) c.requires.place
    (subst (λ (o : List ℕ). model.Final c.args.self.now.to_head (o ++ take c.in-Ok-FinalAt.used c.args.octets.now) c.in-Ok-FinalAt.head (framing_view (named_by_connection c.in-Ok-FinalAt.connections.items) c.in-Ok-FinalAt.framing)) held
    (subst (λ t. model.Final t (c.replace-held.result.items ++ take c.in-Ok-FinalAt.used c.args.octets.now) c.in-Ok-FinalAt.head (framing_view (named_by_connection c.in-Ok-FinalAt.connections.items) c.in-Ok-FinalAt.framing)) (ap (λ (s : State). s.to_head) c.self.view_is) read.2.0))
    (ap (λ (s : State). s.place) c.in_ok-begin_body-in-Ok-FinalAt.ensures.ok.is)

pub returns-in-Ok-OnGoing-clause-learns : goal.returns-in-Ok-OnGoing-clause-learns
returns-in-Ok-OnGoing-clause-learns c =
    let read = rw c.in-Ok-OnGoing.field-0-is at c.in-Ok-OnGoing.ensures in
    let held : c.replace-held.result.items ≡ c.args.self.now.held.octets = ap (λ (v : Vec ℕ Global). v.items) c.replace-held.ensures.value ∙ ap (λ (s : State). s.held.octets) c.self.view_is in
    let place : c.self.inside.place ≡ Head c.args.interims = ap (λ (s : State). s.place) c.self.view_is ∙ c.requires.place in
    learns_before c.args.self.now (record { to_head = c.self.inside.to_head; place = c.self.inside.place; held = record { octets = c.in-Ok-OnGoing.text.items; connections = c.self.inside.connections.items; keeps = c.self.inside.keeps } }) c.args.interims c.args.interims (take (length c.args.octets.now) c.args.octets.now) [] c.requires.place place
    (all_taken c.args.self.now _ c.args.octets.now []
    (hears_more c.args.self.now _ c.args.interims c.args.octets.now c.in-Ok-OnGoing.text.items c.requires.place
    (read.0 ∙ ap (λ (o : List ℕ). o ++ c.args.octets.now) held) read.2 read.3 read.1
    (λ i. record { to_head = (c.self.view_is i).to_head; place = place i; held = record { octets = c.in-Ok-OnGoing.text.items; connections = (c.self.view_is i).held.connections; keeps = (c.self.view_is i).held.keeps } })))
    (ap (λ (s : State). s.held.keeps) c.self.view_is)

pub returns-in_ok-interim-in-Ok-InterimAt-clause-learns : goal.returns-in_ok-interim-in-Ok-InterimAt-clause-learns
returns-in_ok-interim-in-Ok-InterimAt-clause-learns c =
    let read = rw c.in-Ok-InterimAt.field-0-is at c.in-Ok-InterimAt.ensures in
    let held : c.replace-held.result.items ≡ c.args.self.now.held.octets = ap (λ (v : Vec ℕ Global). v.items) c.replace-held.ensures.value ∙ ap (λ (s : State). s.held.octets) c.self.view_is in
    let nothing : c.replace-held.new.dest.items ≡ [] = ap (λ (v : Vec ℕ Global). v.items) c.replace-held.ensures.after ∙ c.new.ensures.items in
    learns_before c.args.self.now (record { to_head = c.self.inside.to_head; place = Head (c.args.interims + 1); held = record { octets = c.replace-held.new.dest.items; connections = c.self.inside.connections.items; keeps = c.self.inside.keeps } }) c.args.interims (c.args.interims + 1) (take c.in-Ok-InterimAt.used c.args.octets.now) (Interim c.in-Ok-InterimAt.head ∷ []) c.requires.place refl
    (hears_interim c.args.self.now _ c.args.interims (take c.in-Ok-InterimAt.used c.args.octets.now) c.in-Ok-InterimAt.head c.requires.place c.if-interims-ge-MOST_INTERIMS.false
    (subst (λ (o : List ℕ). model.Interim (o ++ take c.in-Ok-InterimAt.used c.args.octets.now) c.in-Ok-InterimAt.head) held read.2)
    (λ i. record { to_head = (c.self.view_is i).to_head; place = Head (c.args.interims + 1); held = record { octets = nothing i; connections = (c.self.view_is i).held.connections; keeps = (c.self.view_is i).held.keeps } }))
    (ap (λ (s : State). s.held.keeps) c.self.view_is)

pub returns-in_ok-begin_body-in-Ok-FinalAt-clause-learns : goal.returns-in_ok-begin_body-in-Ok-FinalAt-clause-learns
returns-in_ok-begin_body-in-Ok-FinalAt-clause-learns c =
    let read = rw c.in-Ok-FinalAt.field-0-is at c.in-Ok-FinalAt.ensures in
    let held : c.replace-held.result.items ≡ c.args.self.now.held.octets = ap (λ (v : Vec ℕ Global). v.items) c.replace-held.ensures.value ∙ ap (λ (s : State). s.held.octets) c.self.view_is in
    let names = named_by_connection c.in-Ok-FinalAt.connections.items in
    let framing = framing_view names c.in-Ok-FinalAt.framing in
    let there : IsFinalRead c.args.self.now.to_head (c.args.self.now.held.octets ++ take c.in-Ok-FinalAt.used c.args.octets.now) c.in-Ok-FinalAt.head framing c.in-Ok-FinalAt.stays =
    subst (λ (o : List ℕ). IsFinalRead c.args.self.now.to_head (o ++ take c.in-Ok-FinalAt.used c.args.octets.now) c.in-Ok-FinalAt.head framing c.in-Ok-FinalAt.stays) held
    (subst (λ t. IsFinalRead t (c.replace-held.result.items ++ take c.in-Ok-FinalAt.used c.args.octets.now) c.in-Ok-FinalAt.head framing c.in-Ok-FinalAt.stays) (ap (λ (s : State). s.to_head) c.self.view_is) read.2) in
    learns_final c.args.self.now c.begin_body.new.self c.args.interims (take c.in-Ok-FinalAt.used c.args.octets.now) c.in-Ok-FinalAt.head framing c.requires.place there.0
    (ap (λ (s : State). s.to_head) c.in_ok-begin_body-in-Ok-FinalAt.ensures.ok.is ∙ ap (λ (s : State). s.to_head) c.self.view_is)
    (ap (λ (s : State). s.held.keeps) c.in_ok-begin_body-in-Ok-FinalAt.ensures.ok.is ∙ c.is_kept-self-inside.ensures names ∙ ap (λ b. b && ends_itself framing) there.1)
