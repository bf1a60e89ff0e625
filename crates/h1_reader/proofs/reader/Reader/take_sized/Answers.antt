use Rattle.std.proofs.Common.{◌≡◌, ◌<◌, ◌∙◌, ◌-◌, ◌∷◌, [], ◌++◌, List, length, take, ap, subst, length-take-le, append_assoc, arith}
use Rattle.h1_reader.specs.Parts.{Part}
use Rattle.h1_reader.specs.Parts.Part.{Body, Done}
use Rattle.h1_reader.specs.Standing.{State, IsKept}
use Rattle.h1_reader.specs.declared.reader.Place.{Place}
use Rattle.h1_reader.specs.declared.reader.Place.TheVariants.{Past, Sized}
use Rattle.h1_reader.proofs.Steps.{hears_sized, hears_sized_all, all_taken}
use Rattle.h1_reader.proofs.Joining.{goes_on}
use Rattle.h1_reader.proofs.Ending.{ends_sized}
use Rattle.h1_reader.proofs.reader.Reader.take_sized.Goals as goal

pub returns-then-count-left-clause-ok : goal.returns-then-count-left-clause-ok
returns-then-count-left-clause-ok c = (
  c.requires.octets,
  omega arith,
  goes_on _ _ _ _ _ (
    Body c.args.octets.now ∷ [],
    c.in_ok-sized_body.ensures,
    all_taken c.args.self.now _ c.args.octets.now (Body c.args.octets.now ∷ [])
        (hears_sized c.args.self.now _ c.args.left c.args.octets.now c.requires.place c.if-count-left.true
        (ap (λ (s : State). record { to_head = s.to_head; place = Sized (c.args.left - length c.args.octets.now); held = s.held }) c.self.view_is)),
  ),
)

pub returns-clause-ok : goal.returns-clause-ok
returns-clause-ok c =
    let fits : length (take c.args.left c.args.octets.now) ≡ c.args.left = length-take-le c.args.left c.args.octets.now c.if-count-left.false in
    let some : 0 < c.args.left = subst (λ (p : Place). IsKept p c.self.inside.held.items) (ap (λ (s : State). s.place) c.self.view_is ∙ c.requires.place) c.self.invariant.2 in (
      some,
      c.if-count-left.false,
      goes_on _ _ _ _ _ (
        Body (take c.args.left c.args.octets.now) ∷ Done ∷ [],
        (c.in_ok-done.ensures ∙ ap (λ (o : List Part). o ++ Done ∷ []) c.in_ok-body.ensures ∙ append_assoc c.args.told.now (Body (take c.args.left c.args.octets.now) ∷ []) (Done ∷ [])),
        hears_sized_all c.args.self.now _ c.args.left (take c.args.left c.args.octets.now) c.requires.place fits
            (ap (λ (s : State). record { to_head = s.to_head; place = Past; held = s.held }) c.self.view_is),
      ),
    )

pub returns-clause-ends : goal.returns-clause-ends
returns-clause-ends c = ends_sized c.args.self.now (record { to_head = c.args.self.now.to_head; place = Past; held = c.args.self.now.held }) c.args.left (take c.args.left c.args.octets.now) c.requires.place (length-take-le c.args.left c.args.octets.now c.if-count-left.false)
